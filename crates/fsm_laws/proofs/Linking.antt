-- The connections that come for a compare: sides of one width, on wires that are there.
use Rattle.std.proofs.Common.{◌≡◌, ℕ, suc, Bool, true, false, cond, List, [], ◌∷◌, ◌++◌, length, map, Option, Some, None, inl, inr, refl, sym, ap, subst}
use Rattle.std.specs.Prelude.{◌==◌, not}
use Rattle.std.proofs.lemmas.Bool.{eq-eqb}
use Rattle.std.proofs.lemmas.List.{append-nil}
use Rattle.rtl_bits.specs.declared.bit.Bit.{Bit}
use Rattle.rtl_bits.specs.declared.bit.Bit.TheVariants.{S0}
use Rattle.rtl_bits.specs.Numbers.{number_of}
use Rattle.rtl_sig.specs.declared.sig.SigBit.{SigBit}
use Rattle.rtl_sig.specs.declared.sig.SigBit.TheVariants.{Fixed, Wire as OnWire}
use Rattle.rtl_ir.specs.Faults.Links.{is_uneven}
use Rattle.rtl_ir.specs.Signals.{has_constant, wire_bits}
use Rattle.rtl_ir.specs.declared.module.Link.{Link}
use Rattle.net_model.proofs.Ranges.{each_more, each_none}
use Rattle.net_model.specs.Fsm.Code.{or_zero, state_bit, with_zeros}
use Rattle.net_model.specs.Within.{BitIn, Each, LinkIn, SigIn}
use Rattle.pass_laws.specs.Bits.{links_bits}
use Rattle.pass_laws.specs.Replaces.{IsEven}
use Rattle.fsm_laws.specs.Recoded.{link_of}
use Rattle.fsm_laws.proofs.Signals.{IsSignal}

-- connections, on so many wires
pub record AreGood (count : ℕ) (links : List Link) : Type 0 where
  pub even : Each IsEven links
  pub within : Each (LinkIn count) links

pub no_links : (count : ℕ) → AreGood count []
no_links count = record { even = each_none IsEven; within = each_none (LinkIn count) }

-- a connection of a signal to another as wide
uneven : (left right : List SigBit) → length left ≡ length right → is_uneven (record { left = left; right = right }) ≡ false
uneven left right e = ap not (eq-eqb (length left) (length right) e)

pub link_good : (count : ℕ) (ys right : List SigBit) → has_constant ys ≡ false → SigIn count ys → IsSignal (length ys) count right → AreGood count (link_of ys right)
link_good count [] right e h k = no_links count
link_good count (y ∷ ys) right e h k =
    let l : Link = record { left = y ∷ ys; right = right } in
    record {
      even = each_more IsEven l [] (record { width = uneven (y ∷ ys) right (sym k.wide); wires = e }) (each_none IsEven);
      within = each_more (LinkIn count) l [] (h, k.within) (each_none (LinkIn count));
    }

pub link_bits : (ys right : List SigBit) → links_bits (link_of ys right) ≡ wire_bits ys
link_bits [] right = refl
link_bits (y ∷ ys) right = append-nil (wire_bits (y ∷ ys))

pub zeros : (count : ℕ) (ys : List SigBit) → IsSignal (length ys) count (map (λ s. Fixed S0) ys)
zeros count [] = record { wide = refl; within = each_none (BitIn count) }
zeros count (y ∷ ys) =
    let later = zeros count ys in
    record { wide = ap suc later.wide; within = each_more (BitIn count) (Fixed S0) (map (λ s. Fixed S0) ys) tt later.within }

pub zeros_above : (count : ℕ) (bit : SigBit) → BitIn count bit → (ys : List SigBit) → IsSignal (length ys) count (with_zeros bit ys)
zeros_above count bit h [] = record { wide = refl; within = each_none (BitIn count) }
zeros_above count bit h (y ∷ ys) =
    let later = zeros count ys in
    record { wide = ap suc later.wide; within = each_more (BitIn count) bit (map (λ s. Fixed S0) ys) h later.within }

-- a bit that may be there is on one of so many wires
abbrev pub OptionIn : ℕ → Option SigBit → Type 0
OptionIn count o = (b : SigBit) → o ≡ Some b → BitIn count b

pub or_zero_in : (count : ℕ) (o : Option SigBit) → OptionIn count o → BitIn count (or_zero o)
or_zero_in count None h = tt
or_zero_in count (Some b) h = h b refl

pub state_bit_in : (count : ℕ) (states : List (List Bit)) (code : List SigBit) (n : ℕ) → SigIn count code → OptionIn count (state_bit states code n)
state_bit_in count [] code n h b e = absurd (cc)
state_bit_in count (s ∷ states) [] n h b e = absurd (cc)
state_bit_in count (s ∷ states) (x ∷ code) n h b e =
    by (state_bit_in count states code n (λ y i. h y (inr i)) b) (number_of s == n) e
  where
    by : (state_bit states code n ≡ Some b → BitIn count b) → (t : Bool) → cond t (Some x) (state_bit states code n) ≡ Some b → BitIn count b
    by later true f = let same : x ≡ b = cc in subst (BitIn count) same (h x (inl refl))
    by later false f = later f

pub two_bits : (y : SigBit) (ys : List SigBit) → wire_bits (y ∷ []) ++ wire_bits ys ≡ wire_bits (y ∷ ys)
two_bits (Fixed c) ys = refl
two_bits (OnWire b) ys = refl
