-- Signals of a module that a text can give: their bits lie within their wires, also where signals are cut, joined, taken from
-- pins and followed through connections.
use Rattle.std.proofs.Common.{ℕ, zero, suc, Bool, true, false, cond, List, [], ◌∷◌, length, Option, Some, None, arith}
use Rattle.std.specs.Prelude.{map, find, unwrap_or}
use Rattle.std.specs.List.{All}
use Rattle.std.specs.Option.{option_map_or}
use Rattle.std.specs.Str.{bytes_eq}
use Rattle.std.proofs.lemmas.List.{length-map}
use Rattle.std.proofs.lemmas.List.Elements.{All-nil, All-cons, All-head, All-tail, All-append}
use Rattle.rtl_sig.specs.declared.sig.SigBit.{SigBit}
use Rattle.rtl_sig.specs.declared.sig.SigBit.TheVariants as sig
use Rattle.rtl_sig.specs.declared.sig.WireBit.{WireBit}
use Rattle.rtl_ir.specs.declared.cell.Pin.{Pin}
use Rattle.rtl_ir.specs.declared.follow.Join.{Join}
use Rattle.rtl_ir.specs.declared.module.Link.{Link}
use Rattle.rtl_ir.specs.declared.wire.Wire.{Wire}
use Rattle.rtl_ir.specs.Follow.{joins, all_joins, source_at, back, end_within, follow_joins, follow}
use Rattle.rtl_ir.specs.Parameters.{signal_at}
use Rattle.rtl_ir.specs.Signals.{same_bit}
use Rattle.rtl_readable.specs.Readable.{IsBitOf, IsSignal, IsLink, IsPin}

pub no_signal : (wires : List Wire) → IsSignal wires []
no_signal wires = record { bits = All-nil (IsBitOf wires); width = omega arith }

-- the signal at a pin
pub pin_signal : (wires : List Wire) (pins : List Pin) (name : List ℕ) → All (IsPin wires) pins → IsSignal wires (signal_at pins name)
pin_signal wires [] name all = no_signal wires
pin_signal wires (p ∷ pins) name all =
    by (bytes_eq p.name name) (pin_signal wires pins name (All-tail (IsPin wires) p pins all))
  where
    by : (t : Bool) → IsSignal wires (signal_at pins name) → IsSignal wires (option_map_or (λ (q : Pin). q.sig) (cond t (Some p) (find (λ (q : Pin). bytes_eq q.name name) pins)) [])
    by true later = (All-head (IsPin wires) p pins all).sig
    by false later = later

-- where connections lead
module _ (P : SigBit → Type 0) where
  -- the source of a connected place
  abbrev pub SourceIs : Join → Type 0
  SourceIs j = P j.source

  joins_are : (left right : List SigBit) → All P right → All SourceIs (joins left right)
  joins_are [] right all = All-nil SourceIs
  joins_are (l ∷ ls) [] all = All-nil SourceIs
  joins_are (sig.Fixed c ∷ ls) (r ∷ rs) all = joins_are ls rs (All-tail P r rs all)
  joins_are (sig.Wire b ∷ ls) (r ∷ rs) all =
      All-cons SourceIs _ (joins ls rs) (All-head P r rs all) (joins_are ls rs (All-tail P r rs all))

  -- the right side of a connection
  abbrev pub RightIs : Link → Type 0
  RightIs l = All P l.right

  pub all_joins_are : (links : List Link) → All RightIs links → All SourceIs (all_joins links)
  all_joins_are [] all = All-nil SourceIs
  all_joins_are (l ∷ links) all =
      All-append SourceIs (joins l.left l.right) (all_joins links) (joins_are l.left l.right (All-head RightIs l links all)) (all_joins_are links (All-tail RightIs l links all))

  -- a bit that may be there
  abbrev pub OptionIs : Option SigBit → Type 0
  OptionIs None = Unit {0}
  OptionIs (Some s) = P s

  source_is : (js : List Join) (b : WireBit) → All SourceIs js → OptionIs (source_at js b)
  source_is [] b all = tt
  source_is (j ∷ js) b all = by (same_bit j.bit b) (source_is js b (All-tail SourceIs j js all))
    where
      by : (t : Bool) → OptionIs (source_at js b) → OptionIs (cond t (Some j.source) (source_at js b))
      by true later = All-head SourceIs j js all
      by false later = later

  back_is : (js : List Join) (s : SigBit) → All SourceIs js → OptionIs (back js s)
  back_is js (sig.Fixed c) all = tt
  back_is js (sig.Wire b) all = source_is js b all

  end_is : (js : List Join) (n : ℕ) (s : SigBit) → All SourceIs js → P s → OptionIs (end_within js n s)
  end_is js zero s all h = by (back js s)
    where
      by : (o : Option SigBit) → OptionIs (option_map_or (λ r. None) o (Some s))
      by None = h
      by (Some r) = tt
  end_is js (suc n) s all h = by (back js s) (back_is js s all) (λ r k. end_is js n r all k)
    where
      by : (o : Option SigBit) → OptionIs o → ((r : SigBit) → P r → OptionIs (end_within js n r)) → OptionIs (option_map_or (end_within js n) o (Some s))
      by None k later = h
      by (Some r) k later = later r k

  -- a bit that is followed
  pub followed_is : (links : List Link) (s : SigBit) → All RightIs links → P s → P (follow links s)
  unfolding follow_joins
  followed_is links s all h = by (end_within (all_joins links) (length (all_joins links)) s) (end_is (all_joins links) (length (all_joins links)) s (all_joins_are links all) h)
    where
      by : (o : Option SigBit) → OptionIs o → P (unwrap_or o s)
      by None k = h
      by (Some r) k = k

  pub map_is : (f : SigBit → SigBit) → ((s : SigBit) → P s → P (f s)) → (signal : List SigBit) → All P signal → All P (map f signal)
  map_is f g [] all = All-nil P
  map_is f g (s ∷ signal) all = All-cons P (f s) (map f signal) (g s (All-head P s signal all)) (map_is f g signal (All-tail P s signal all))

-- connections of a module
pub rights_are : (wires : List Wire) (links : List Link) → All (IsLink wires) links → All (RightIs (IsBitOf wires)) links
rights_are wires [] all = All-nil (RightIs (IsBitOf wires))
rights_are wires (l ∷ links) all =
    All-cons (RightIs (IsBitOf wires)) l links (All-head (IsLink wires) l links all).right.bits (rights_are wires links (All-tail (IsLink wires) l links all))

-- a signal whose bits are followed
pub followed_signal : (wires : List Wire) (links : List Link) (signal : List SigBit) → All (IsLink wires) links → IsSignal wires signal → IsSignal wires (map (follow links) signal)
followed_signal wires links signal all is = record {
  bits = map_is (IsBitOf wires) (follow links) (λ s h. followed_is (IsBitOf wires) links s (rights_are wires links all) h) signal is.bits;
  width = rw length-map is.width;
}
