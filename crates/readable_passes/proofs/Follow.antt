-- What a text can give, it can give with the inputs of cells followed.
use Rattle.std.proofs.Common.{◌≡◌, Bool, true, false, cond, List, [], ◌∷◌, refl, sym, ap, subst, arith}
use Rattle.std.specs.Prelude.{map}
use Rattle.std.specs.List.{All}
use Rattle.std.proofs.lemmas.List.{length-map}
use Rattle.std.proofs.lemmas.List.Elements.{All-cons, All-head, All-nil, All-tail}
use Rattle.rtl_sig.specs.Names.{AreDistinct}
use Rattle.rtl_ir.specs.Follow.{follow}
use Rattle.rtl_ir.specs.Outputs.{drives_pin}
use Rattle.rtl_ir.specs.Types.{CellType, Ports, cell_type}
use Rattle.rtl_ir.specs.declared.cell.Cell.{Cell}
use Rattle.rtl_ir.specs.declared.cell.Pin.{Pin}
use Rattle.rtl_ir.specs.declared.module.Link.{Link}
use Rattle.rtl_ir.specs.declared.module.Module.{Module}
use Rattle.rtl_ir.specs.declared.wire.Wire.{Wire}
use Rattle.follow_laws.specs.Inputs.{followed, followed_cell, followed_pin}
use Rattle.rtl_readable.specs.Changing.{cell_names, times}
use Rattle.rtl_readable.specs.Readable.{IsCell, IsLink, IsPin, IsReadableModule, IsSignal}
use Rattle.rtl_readable.proofs.Changing.{recelled_reads}
use Rattle.rtl_readable.proofs.Signals.{followed_signal}

names_stay : (type : CellType) (links : List Link) (pins : List Pin) → map (λ (p : Pin). p.name) (map (followed_pin type links) pins) ≡ map (λ (p : Pin). p.name) pins
names_stay type links [] = refl
names_stay type links (p ∷ pins) = ap (λ z. p.name ∷ z) (names_stay type links pins)

module _ (wires : List Wire) (links : List Link) (all : All (IsLink wires) links) where
  pin_follows : (type : CellType) (p : Pin) → IsPin wires p → IsPin wires (followed_pin type links p)
  pin_follows type p is = record { name = is.name; sig = by (drives_pin type p.name) }
    where
      by : (t : Bool) → IsSignal wires (cond t p.sig (map (follow links) p.sig))
      by true = is.sig
      by false = followed_signal wires links p.sig all is.sig

  pins_follow : (type : CellType) (pins : List Pin) → All (IsPin wires) pins → All (IsPin wires) (map (followed_pin type links) pins)
  pins_follow type [] are = All-nil (IsPin wires)
  pins_follow type (p ∷ pins) are =
      All-cons (IsPin wires) (followed_pin type links p) (map (followed_pin type links) pins) (pin_follows type p (All-head (IsPin wires) p pins are)) (pins_follow type pins (All-tail (IsPin wires) p pins are))

  pub cell_follows : (ports : Ports) (c : Cell) → IsCell wires c → IsCell wires (followed_cell ports links c)
  cell_follows ports c is = record {
    kind_name = is.kind_name;
    name = is.name;
    params = is.params;
    distinct_params = is.distinct_params;
    pins = pins_follow (cell_type ports c.kind_name) c.pins is.pins;
    distinct_pins = subst AreDistinct (sym (names_stay (cell_type ports c.kind_name) links c.pins)) is.distinct_pins;
    attributes = is.attributes;
  }

  pub cells_follow : (ports : Ports) (cells : List Cell) → All (IsCell wires) cells → All (IsCell wires) (map (followed_cell ports links) cells)
  cells_follow ports [] are = All-nil (IsCell wires)
  cells_follow ports (c ∷ cells) are =
      All-cons (IsCell wires) (followed_cell ports links c) (map (followed_cell ports links) cells) (cell_follows ports c (All-head (IsCell wires) c cells are)) (cells_follow ports cells (All-tail (IsCell wires) c cells are))

  cell_names_stay : (ports : Ports) (cells : List Cell) → cell_names (map (followed_cell ports links) cells) ≡ cell_names cells
  cell_names_stay ports [] = refl
  cell_names_stay ports (c ∷ cells) = ap (λ z. c.name ∷ z) (cell_names_stay ports cells)

pub followed_reads : (ports : Ports) (m : Module) → IsReadableModule m → IsReadableModule (followed ports m)
followed_reads ports m is =
    recelled_reads m (map (followed_cell ports m.links) m.cells) m.links is (record {
      cells = cells_follow m.wires m.links is.links ports m.cells is.cells;
      names = λ name. let same : times name (cell_names (map (followed_cell ports m.links) m.cells)) ≡ times name (cell_names m.cells) = ap (times name) (cell_names_stay m.wires m.links is.links ports m.cells) in omega (arith, same);
      count = omega (arith, length-map m.cells (followed_cell ports m.links));
      links = is.links;
    })
