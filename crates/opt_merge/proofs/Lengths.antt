-- How long a row is does not depend on the connections.
use Rattle.std.proofs.Common.{◌≡◌, ℕ, ◌+◌, suc, List, [], ◌∷◌, ◌++◌, length, map, refl, sym, ◌∙◌, ap, length-append}
use Rattle.std.specs.Prelude.{flat_map}
use Rattle.rtl_bits.specs.declared.bit.Bit.{Bit}
use Rattle.rtl_sig.specs.declared.sig.SigBit.{SigBit}
use Rattle.rtl_sig.specs.declared.sig.SigBit.TheVariants.{Fixed, Wire as OnWire}
use Rattle.cell_types.specs.declared.kind.CellKind.{CellKind}
use Rattle.cell_types.specs.declared.pin_name.PinName.{PinName}
use Rattle.cell_types.specs.PinName.{pin_text}
use Rattle.rtl_ir.specs.declared.cell.Cell.{Cell}
use Rattle.rtl_ir.specs.declared.module.Link.{Link}
use Rattle.rtl_ir.specs.Flat.Cell.{cell_shape}
use Rattle.rtl_ir.specs.Follow.{follow}
use Rattle.rtl_ir.specs.Parameters.{signal_at}
use Rattle.opt_merge.specs.Rows.{bits_numbers, lists_numbers, place_numbers, row_of, signal_numbers, signals_numbers, sized}
use Rattle.opt_merge.specs.Traits.{input_pins, inputs_of, shape_numbers, starts_of, traits_of}

-- a bit is two numbers
two : (x : SigBit) → length (place_numbers x) ≡ 2
two (Fixed b) = refl
two (OnWire b) = refl

-- two lists that are as long as two others
both_long : (a b c d : List ℕ) → length a ≡ length c → length b ≡ length d → length (a ++ b) ≡ length (c ++ d)
both_long a b c d e f = length-append a b ∙ (λ i. e i + f i) ∙ sym (length-append c d)

-- the lengths of signals stay where each bit goes to another
module _ (f g : SigBit → SigBit) where
  places_long : (xs : List SigBit) → length (flat_map place_numbers (map f xs)) ≡ length (flat_map place_numbers (map g xs))
  places_long [] = refl
  places_long (x ∷ xs) =
      both_long (place_numbers (f x)) (flat_map place_numbers (map f xs)) (place_numbers (g x)) (flat_map place_numbers (map g xs)) (two (f x) ∙ sym (two (g x))) (places_long xs)

  signals_long : (names : List PinName) (signal : PinName → List SigBit)
      → length (flat_map signal_numbers (map (λ name. map f (signal name)) names)) ≡ length (flat_map signal_numbers (map (λ name. map g (signal name)) names))
  signals_long [] signal = refl
  signals_long (n ∷ names) signal =
      both_long (signal_numbers (map f (signal n))) (flat_map signal_numbers (map (λ name. map f (signal name)) names)) (signal_numbers (map g (signal n))) (flat_map signal_numbers (map (λ name. map g (signal name)) names))
      (ap suc (places_long (signal n))) (signals_long names signal)

-- a row over other connections is as long
pub rows_alike : (start : SigBit → Bit) (links others : List Link) (kind : CellKind) (c : Cell) → length (row_of (traits_of start links kind c)) ≡ length (row_of (traits_of start others kind c))
rows_alike start links others kind c =
    let own = sized c.kind_name ++ lists_numbers (shape_numbers (cell_shape kind c.params)) in
    let here = signals_numbers (inputs_of links (input_pins kind) c.pins) in
    let there = signals_numbers (inputs_of others (input_pins kind) c.pins) in
    let ends = bits_numbers (starts_of start kind c) in
    let long : length here ≡ length there = ap suc (signals_long (follow links) (follow others) (input_pins kind) (λ (name : PinName). signal_at c.pins (pin_text name))) in
    ap suc (both_long (own ++ here) ends (own ++ there) ends (both_long own here own there refl long) refl)
