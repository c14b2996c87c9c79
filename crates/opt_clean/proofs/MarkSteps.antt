-- Cells marked one by one, in loops.
use Rattle.std.proofs.Common.{◌≡◌, ℕ, zero, suc, ◌+◌, ◌<◌, Bool, false, if◌then◌else◌, List, [], ◌∷◌, ◌++◌, length, get_or, map, drop, refl, sym, ◌∙◌, ap}
use Rattle.std.proofs.lemmas.Grind.{flat_map-append}
use Rattle.rtl_sig.specs.declared.sig.WireBit.{WireBit}
use Rattle.rtl_ir.specs.Drivers.{driver_in, drives_of}
use Rattle.std.proofs.lemmas.List.{append-nil}
use Rattle.rtl_ir.specs.Outputs.{drives_pin}
use Rattle.rtl_ir.specs.Signals.{wire_bits}
use Rattle.rtl_ir.specs.Types.{CellType, Ports}
use Rattle.rtl_ir.specs.declared.cell.Pin.{Pin}
use Rattle.opt_clean.specs.Kept.{read_bits}
use Rattle.rtl_ir.specs.declared.cell.Cell.{Cell}
use Rattle.rtl_ir.specs.declared.module.Module.{Module}
use Rattle.rtl_ir.specs.declared.wire.Wire.{Wire}
use Rattle.std.specs.Prelude.{◌||◌, slice_get}
use Rattle.std.specs.List.{list_any}
use Rattle.std.specs.Option.{option_map_or}
use Rattle.opt_clean.specs.Keep.{is_root, is_shown, is_shown_bit}
use Rattle.opt_clean.specs.Linked.{cell_place, cell_places}
use Rattle.opt_clean.specs.Marking.{Marking, is_seen, mark_place, mark_places, root_places}
use Rattle.opt_clean.proofs.Steps.{here}

pub marks_more : (s : Marking) (xs ys : List ℕ) → mark_places s (xs ++ ys) ≡ mark_places (mark_places s xs) ys
marks_more s [] ys = refl
marks_more s (x ∷ xs) ys = marks_more (mark_place s x) xs ys

pub places_more : (ports : Ports) (m : Module) (xs ys : List WireBit) → cell_places ports m (xs ++ ys) ≡ cell_places ports m xs ++ cell_places ports m ys
places_more ports m xs ys = flat_map-append (λ b. cell_place (driver_in (drives_of ports m) b)) xs ys

-- first what drives some bits, and then what drives the rest
pub mark_step : (ports : Ports) (m : Module) (s t all : Marking) (own rest left : List WireBit) → left ≡ own ++ rest → t ≡ mark_places s (cell_places ports m own) → mark_places s (cell_places ports m left) ≡ all → mark_places t (cell_places ports m rest) ≡ all
mark_step ports m s t all own rest left e f inv =
    ap (λ z. mark_places z (cell_places ports m rest)) f
    ∙ sym (marks_more s (cell_places ports m own) (cell_places ports m rest))
    ∙ ap (mark_places s) (sym (places_more ports m own rest))
    ∙ ap (λ z. mark_places s (cell_places ports m z)) (sym e)
    ∙ inv

-- one more cell that may be a root
pub root_step : (ports : Ports) (wires : List Wire) (cells : List Cell) (i : ℕ) (c : Cell) (s t all : Marking) → i < length cells → c ≡ get_or cells i c → t ≡ mark_places s (if is_root ports wires c then i ∷ [] else []) → mark_places s (root_places ports wires i (drop i cells)) ≡ all → mark_places t (root_places ports wires (i + 1) (drop (i + 1) cells)) ≡ all
root_step ports wires cells i c s t all h is f inv =
    ap (λ z. mark_places z (root_places ports wires (i + 1) (drop (i + 1) cells))) f
    ∙ sym (marks_more s (if is_root ports wires c then i ∷ [] else []) (root_places ports wires (i + 1) (drop (i + 1) cells)))
    ∙ ap (λ z. mark_places s (root_places ports wires i z)) (sym (here cells i c h is))
    ∙ inv

-- what the first pin reads, and what those behind it do
pub first_reads : (type : CellType) (p : Pin) (ps : List Pin) → read_bits type (p ∷ ps) ≡ read_bits type (p ∷ []) ++ read_bits type ps
first_reads type p ps = ap (λ z. z ++ read_bits type ps) (sym (append-nil (if drives_pin type p.name then [] else wire_bits p.sig)))

-- the last of three tests
pub root_last : (stays keep drives result : Bool) → false ≡ stays → false ≡ keep → result ≡ drives → result ≡ (stays || (keep || drives))
root_last stays keep drives result e f g = g ∙ (λ i. e i || (f i || drives))

seen_at : (wires : List Wire) (b : WireBit) → is_seen (map is_shown wires) b ≡ is_shown_bit wires b
seen_at wires b = by wires b.wire
  where
    by : (ws : List Wire) (k : ℕ) → get_or (map is_shown ws) k false ≡ option_map_or is_shown (slice_get ws k) false
    by [] k = refl
    by (w ∷ ws) zero = refl
    by (w ∷ ws) (suc k) = by ws k

-- the bits that the outside sees, by the table
pub seen_shown : (wires : List Wire) (shown : List Bool) (bits : List WireBit) → shown ≡ map is_shown wires → list_any (is_seen shown) bits ≡ list_any (is_shown_bit wires) bits
seen_shown wires shown [] e = refl
seen_shown wires shown (b ∷ bits) e =
    let here = ap (λ z. is_seen z b) e ∙ seen_at wires b in
    let later = seen_shown wires shown bits e in
    λ i. here i || later i
