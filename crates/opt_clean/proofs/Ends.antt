-- Inputs that are followed are followed to themselves.
use Rattle.std.proofs.Common.{◌≡◌, ℕ, zero, suc, Bool, true, false, if◌then◌else◌, List, [], ◌∷◌, length, Option, Some, None, unwrap_or, inl, inr, ⊎_elim, refl, sym, ◌∙◌, ap, subst}
use Rattle.std.specs.Prelude.{map}
use Rattle.std.specs.Option.{option_map_or}
use Rattle.rtl_sig.specs.declared.sig.SigBit.{SigBit}
use Rattle.rtl_sig.specs.declared.sig.SigBit.TheVariants.{Fixed, Wire as OnWire}
use Rattle.rtl_sig.specs.declared.sig.WireBit.{WireBit}
use Rattle.rtl_ir.specs.Follow.{all_joins, back, end_within, follow, follow_joins}
use Rattle.rtl_ir.specs.declared.follow.Join.{Join}
use Rattle.rtl_ir.specs.Outputs.{drives_pin}
use Rattle.rtl_ir.specs.Signals.{wire_bits}
use Rattle.rtl_ir.specs.Types.{CellType, Ports, cell_type}
use Rattle.rtl_ir.specs.declared.cell.Cell.{Cell}
use Rattle.rtl_ir.specs.declared.cell.Pin.{Pin}
use Rattle.rtl_ir.specs.declared.module.Link.{Link}
use Rattle.rtl_ir.specs.declared.module.Module.{Module}
use Rattle.net_index.proofs.IndexEnds.{ends_here}
use Rattle.net_model.specs.Lists.{In}
use Rattle.net_model.proofs.Members.{In-cases, In-mapped}
use Rattle.follow_laws.specs.Inputs.{followed, followed_at, followed_cell, followed_pin}
use Rattle.opt_clean.specs.Kept.{input_bits, read_bits}
use Rattle.opt_clean.specs.Runs.{source_of}

-- a bit among the bits of a signal is one of it, and the other way round
pub signal_has : (signal : List SigBit) (b : WireBit) → In b (wire_bits signal) → In (OnWire b) signal
signal_has [] b i = absurd i
signal_has (Fixed c ∷ signal) b i = inr (signal_has signal b i)
signal_has (OnWire d ∷ signal) b (inl e) = inl (ap OnWire e)
signal_has (OnWire d ∷ signal) b (inr i) = inr (signal_has signal b i)

pub has_signal : (signal : List SigBit) (b : WireBit) → In (OnWire b) signal → In b (wire_bits signal)
has_signal [] b i = absurd i
has_signal (Fixed c ∷ signal) b (inl e) = absurd (cc)
has_signal (Fixed c ∷ signal) b (inr i) = has_signal signal b i
has_signal (OnWire d ∷ signal) b (inl e) = let same : b ≡ d = cc in inl same
has_signal (OnWire d ∷ signal) b (inr i) = inr (has_signal signal b i)

module _ (js : List Join) where
  -- where a way ends, nothing leads on
  end_stops : (n : ℕ) (s e : SigBit) → end_within js n s ≡ Some e → back js e ≡ None
  end_stops zero s e h = by (back js s) refl h
    where
      by : (o : Option SigBit) → back js s ≡ o → option_map_or (λ (r : SigBit). None) o (Some s) ≡ Some e → back js e ≡ None
      by None f g = let same : s ≡ e = cc in ap (back js) (sym same) ∙ f
      by (Some r) f g = absurd (cc)
  end_stops (suc n) s e h = by (λ r. end_stops n r e) (back js s) refl h
    where
      by : ((r : SigBit) → end_within js n r ≡ Some e → back js e ≡ None) → (o : Option SigBit) → back js s ≡ o → option_map_or (end_within js n) o (Some s) ≡ Some e → back js e ≡ None
      by later None f g = let same : s ≡ e = cc in ap (back js) (sym same) ∙ f
      by later (Some r) f g = later r g

  -- what a bit is followed to is followed to itself
  pub follow_twice : (s : SigBit) → follow_joins js (follow_joins js s) ≡ follow_joins js s
  unfolding follow_joins
  follow_twice s = by (end_within js (length js) s) refl
    where
      by : (o : Option SigBit) → end_within js (length js) s ≡ o → unwrap_or (end_within js (length js) (unwrap_or o s)) (unwrap_or o s) ≡ unwrap_or o s
      by None e = ap (λ o. unwrap_or o s) e
      by (Some z) e = ap (λ o. unwrap_or o z) (ends_here js (length js) z (end_stops (length js) s z e))

module _ (links : List Link) where
  -- the bits that a followed cell reads are followed to themselves
  read_ends : (type : CellType) (pins : List Pin) (b : WireBit) → In b (read_bits type (map (followed_pin type links) pins)) → source_of links b ≡ OnWire b
  read_ends type [] b i = absurd i
  read_ends type (p ∷ pins) b i =
      ⊎_elim
      (λ l. by (drives_pin type p.name) l)
      (λ r. read_ends type pins b r)
      (In-cases b (if drives_pin type p.name then [] else wire_bits (followed_at type links p.name p.sig)) (read_bits type (map (followed_pin type links) pins)) i)
    where
      by : (t : Bool) → In b (if t then [] else wire_bits (if t then p.sig else map (follow links) p.sig)) → source_of links b ≡ OnWire b
      by true j = absurd j
      by false j =
          let k = In-mapped (follow links) (OnWire b) p.sig (signal_has (map (follow links) p.sig) b j) in
          ap (follow links) k.2 ∙ follow_twice (all_joins links) k.0 ∙ sym k.2

-- the inputs of a module whose inputs are followed
pub inputs_end : (ports : Ports) (m : Module) (c : Cell) → In c (followed ports m).cells → (b : WireBit) → In b (input_bits ports c) → source_of m.links b ≡ OnWire b
inputs_end ports m c i b j =
    let k = In-mapped (followed_cell ports m.links) c m.cells i in
    read_ends m.links (cell_type ports k.0.kind_name) k.0.pins b (subst (λ (z : Cell). In b (input_bits ports z)) k.2 j)
