-- Drives that are added to a table, one list behind another.
use Rattle.std.proofs.Common.{◌≡◌, ℕ, suc, ◌+◌, ◌-◌, ◌<◌, Bool, true, false, cond, List, [], ◌∷◌, ◌++◌, length, get_or, drop, map, find, Option, Some, None, option_map, refl, sym, ◌∙◌, ap, arith, add-one}
use Rattle.std.specs.List.{range_with_len}
use Rattle.std.specs.Option.{option_or}
use Rattle.std.proofs.lemmas.List.Folds.{find-append}
use Rattle.std.proofs.Math.Seq.{drop-cons}
use Rattle.rtl_sig.specs.declared.sig.WireBit.{WireBit}
use Rattle.rtl_ir.specs.declared.cell.Cell.{Cell}
use Rattle.rtl_ir.specs.declared.cell.Pin.{Pin}
use Rattle.rtl_ir.specs.declared.wire.Wire.{Wire}
use Rattle.rtl_ir.specs.Drivers.{Drive, Source, FromPort, all_by, cell_drives, driver_in, pin_drives, port_drives}
use Rattle.rtl_ir.specs.Signals.{same_bit}
use Rattle.rtl_ir.specs.Types.{CellType, Ports, cell_type}
use Rattle.net_index.specs.declared.driver.Driver.{Driver}
use Rattle.net_index.specs.declared.index_table.BitTable.{BitTable}
use Rattle.net_index.specs.Driver.{driver_by}
use Rattle.net_index.specs.DriverFill.{Adds, first_of, drives_of_pin, drives_of_port}
use Rattle.net_index.specs.IndexTable.{at_bit}

-- one list and then another
first_of-append : (o : Option Driver) (x y : Option Drive)
    → option_or (option_or o (option_map driver_by (option_map (λ (d : Drive). d.source) x))) (option_map driver_by (option_map (λ (d : Drive). d.source) y))
    ≡ option_or o (option_map driver_by (option_map (λ (d : Drive). d.source) (option_or x y)))
first_of-append (Some d) x y = refl
first_of-append None (Some x) y = refl
first_of-append None None y = refl

pub adds_append : (t mid : BitTable Driver) (xs ys : List Drive) → Adds t xs mid → (b : WireBit) → first_of mid ys b ≡ first_of t (xs ++ ys) b
adds_append t mid xs ys h b =
    (λ i. option_or (h b i) (option_map driver_by (driver_in ys b)))
    ∙ first_of-append (at_bit t b) (find (λ (d : Drive). same_bit d.bit b) xs) (find (λ (d : Drive). same_bit d.bit b) ys)
    ∙ ap (λ o. option_or (at_bit t b) (option_map driver_by (option_map (λ (d : Drive). d.source) o))) (sym (find-append (λ (d : Drive). same_bit d.bit b) xs ys))

-- what is left behind the next part
pub adds_next : (t mid start : BitTable Driver) (own rest left all : List Drive) → left ≡ own ++ rest → Adds t own mid
    → ((b : WireBit) → first_of t left b ≡ first_of start all b) → (b : WireBit) → first_of mid rest b ≡ first_of start all b
adds_next t mid start own rest left all e h inv b = adds_append t mid own rest h b ∙ ap (λ ds. first_of t ds b) (sym e) ∙ inv b

-- one bit with its source
pub put_adds : (t new : BitTable Driver) (bit : WireBit) (source : Source)
    → ((b : WireBit) → at_bit new b ≡ option_or (at_bit t b) (cond (same_bit bit b) (Some (driver_by source)) None))
    → Adds t (record { bit = bit; source = source } ∷ []) new
put_adds t new bit source h b = h b ∙ ap (option_or (at_bit t b)) (by (same_bit bit b))
  where
    by : (s : Bool) → cond s (Some (driver_by source)) None
        ≡ option_map driver_by (option_map (λ (d : Drive). d.source) (cond s (Some (record { bit = bit; source = source })) None))
    by true = refl
    by false = refl

-- the next of a list and those behind it
pub here : {A : Type 0} (xs : List A) (i : ℕ) (x : A) → i < length xs → x ≡ get_or xs i x → drop i xs ≡ x ∷ drop (i + 1) xs
here xs i x h is =
    let next : suc i ≡ i + 1 = sym (add-one i) in
    drop-cons xs i x h ∙ (λ j. sym is j ∷ drop (next j) xs)

-- the bits of a wire from one on, so many
abbrev pub bits_from : ℕ → ℕ → ℕ → List WireBit
bits_from wire at count = map (λ k. record { wire = wire; at = k }) (range_with_len at count)

-- the next bit of a wire, and those behind it
pub next_of_wire : (wire at width : ℕ) → at < width
    → all_by FromPort (bits_from wire at (width - at)) ≡ (record { bit = record { wire = wire; at = at }; source = FromPort } ∷ []) ++ all_by FromPort (bits_from wire (at + 1) (width - (at + 1)))
next_of_wire wire at width h =
    let e : width - at ≡ suc (width - (at + 1)) = omega arith in
    ap (λ n. all_by FromPort (bits_from wire at n)) e

-- what the next item of a list drives, and then those behind it
pub next_port : (wires : List Wire) (i : ℕ) (w : Wire) → i < length wires → w ≡ get_or wires i w
    → port_drives i (drop i wires) ≡ drives_of_port i w ++ port_drives (i + 1) (drop (i + 1) wires)
next_port wires i w h is = ap (port_drives i) (here wires i w h is)

pub next_cell : (ports : Ports) (cells : List Cell) (i : ℕ) (c : Cell) → i < length cells → c ≡ get_or cells i c
    → cell_drives ports i (drop i cells) ≡ pin_drives (cell_type ports c.kind_name) i 0 c.pins ++ cell_drives ports (i + 1) (drop (i + 1) cells)
next_cell ports cells i c h is = ap (cell_drives ports i) (here cells i c h is)

pub next_pin : (type : CellType) (cell : ℕ) (pins : List Pin) (i : ℕ) (p : Pin) → i < length pins → p ≡ get_or pins i p
    → pin_drives type cell i (drop i pins) ≡ drives_of_pin type cell i p ++ pin_drives type cell (i + 1) (drop (i + 1) pins)
next_pin type cell pins i p h is = ap (pin_drives type cell i) (here pins i p h is)
