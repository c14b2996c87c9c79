-- Gates in the places of the cells of a module are such as a text can give.
use Rattle.std.proofs.Common.{◌≡◌, ◌≤◌, ℕ, ◌+◌, List, [], ◌∷◌, ◌++◌, length, length-append, Option, Some, None, sym, ◌∙◌, ap, subst, arith}
use Rattle.std.specs.Prelude.{drop}
use Rattle.std.specs.List.{All}
use Rattle.std.proofs.Math.Seq.{drop-append_seam}
use Rattle.std.proofs.lemmas.List.Elements.{All-append, All-cons, All-head, All-nil, All-tail}
use Rattle.cell_types.specs.declared.kind.CellKind.{CellKind}
use Rattle.cell_types.specs.declared.kind.CellKind.TheVariants.{Storage, Word}
use Rattle.cell_types.specs.declared.shape.Shape.{Shape}
use Rattle.cell_types.specs.declared.word.ArithKind.TheVariants.{Mul}
use Rattle.cell_types.specs.declared.word.UnaryKind.TheVariants.{Neg}
use Rattle.cell_types.specs.declared.word.WordKind.TheVariants.{Unary, Order, Arith, Division, Shift}
use Rattle.rtl_ir.specs.Build.{Building, building_of}
use Rattle.rtl_ir.specs.Flat.Cell.{cell_shape}
use Rattle.rtl_ir.specs.declared.cell.Cell.{Cell}
use Rattle.rtl_ir.specs.declared.module.Module.{Module}
use Rattle.net_model.proofs.Members.{map-append}
use Rattle.map_laws.specs.Expansion.{cells_added}
use Rattle.tech_map.specs.Techmap.{beside, expand_by_kind, expansion_of, stand_in, stand_ins, taken_kind, techmap_of, with_all_gates, with_gates}
use Rattle.rtl_readable.specs.Changing.{cell_names, times}
use Rattle.rtl_readable.specs.Readable.{IsCell, item_names}
use Rattle.rtl_readable.proofs.Counting.{item_times, still_distinct, times_more}
use Rattle.readable_laws.specs.Extends.{Extends, HasReadableItems}
use Rattle.readable_laws.proofs.Extending.{cells_later, extended, extends_both, extends_none}
use Rattle.readable_maps.proofs.Storage.{flops_extend}
use Rattle.readable_maps.proofs.Words.{adds_extend, bits_extend, products_extend, shifts_extend}

module _ (c : Cell) (b : Building) (is : IsCell b.body.wires c) where
  map_extends : (kind : CellKind) (shape : Shape) → Extends b (expansion_of kind shape c b)
  map_extends (Word (Unary Neg)) shape = adds_extend c b is shape
  map_extends (Word (Arith Mul)) shape = products_extend c b is shape
  map_extends (Word (Arith kind)) shape = adds_extend c b is shape
  map_extends (Word (Order kind)) shape = adds_extend c b is shape
  map_extends (Word (Division kind)) shape = products_extend c b is shape
  map_extends (Word (Shift kind)) shape = shifts_extend c b is shape
  map_extends (Storage kind) shape = flops_extend c b is shape
  map_extends kind shape = bits_extend c b is shape

-- what stands in the places of cells: it comes with a step that adds, and has no further names and no more cells
record Stand (old new : Building) (cells stand : List Cell) : Type 0 where
  steps : Extends old new
  are : new.next ≤ 1000000000 → All (IsCell new.body.wires) stand
  few : (name : List ℕ) → times name (cell_names stand) + times name (cell_names old.body.cells) ≤ times name (cell_names cells) + times name (cell_names new.body.cells)
  shortest : length stand + length old.body.cells ≤ length cells + length new.body.cells

-- the names of cells in two parts
names_both : (name : List ℕ) (xs ys : List Cell) → times name (cell_names (xs ++ ys)) ≡ times name (cell_names xs) + times name (cell_names ys)
names_both name xs ys = ap (times name) (map-append (λ (c : Cell). c.name) xs ys) ∙ times_more name (cell_names xs) (cell_names ys)

one_stands : (c : Cell) (b : Building) → IsCell b.body.wires c → (k : Option CellKind) → Stand b (with_gates k c b) (c ∷ []) (stand_in k c b)
one_stands c b is None = record {
  steps = extends_none b;
  are = λ short. All-cons (IsCell b.body.wires) c [] is (All-nil (IsCell b.body.wires));
  few = λ name. omega arith;
  shortest = omega arith;
}
one_stands c b is (Some kind) =
    let new : Building = expand_by_kind kind c b in
    let steps : Extends b new = map_extends c b is kind (cell_shape kind c.params) in
    let grown : new.body.cells ≡ b.body.cells ++ steps.cells = ap (λ (m : Module). m.cells) steps.body in
    let added : cells_added b new ≡ steps.cells = ap (drop (length b.body.cells)) grown ∙ drop-append_seam b.body.cells steps.cells in
    record {
      steps = steps;
      are = λ short. subst (All (IsCell new.body.wires)) (sym added) (steps.good short).cells;
      few = λ name.
          let same : times name (cell_names (cells_added b new)) ≡ times name (cell_names steps.cells) = ap (λ z. times name (cell_names z)) added in
          let all : times name (cell_names new.body.cells) ≡ times name (cell_names b.body.cells) + times name (cell_names steps.cells) = ap (λ z. times name (cell_names z)) grown ∙ names_both name b.body.cells steps.cells in
          omega (arith, same, all);
      shortest = omega (arith, ap (λ (z : List Cell). length z) added, ap (λ (z : List Cell). length z) grown, length-append b.body.cells steps.cells);
    }

all_stand : (cs : List Cell) (b : Building) → All (IsCell b.body.wires) cs → Stand b (with_all_gates cs b) cs (stand_ins cs b)
all_stand [] b all = record {
  steps = extends_none b;
  are = λ short. All-nil (IsCell b.body.wires);
  few = λ name. omega arith;
  shortest = omega arith;
}
all_stand (c ∷ cs) b all =
    let next : Building = with_gates (taken_kind c) c b in
    let end : Building = with_all_gates cs next in
    let here : List Cell = stand_in (taken_kind c) c b in
    let one = one_stands c b (All-head (IsCell b.body.wires) c cs all) (taken_kind c) in
    let rest = all_stand cs next (cells_later b next one.steps cs (All-tail (IsCell b.body.wires) c cs all)) in
    record {
      steps = extends_both b next end one.steps rest.steps;
      are = λ short.
          All-append (IsCell end.body.wires) here (stand_ins cs next)
          (cells_later next end rest.steps here (one.are (omega (arith, short, rest.steps.next)))) (rest.are short);
      few = λ name.
          let stand : times name (cell_names (stand_ins (c ∷ cs) b)) ≡ times name (cell_names here) + times name (cell_names (stand_ins cs next)) = names_both name here (stand_ins cs next) in
          omega (arith, stand, one.few name, rest.few name);
      shortest = omega (arith, length-append here (stand_ins cs next), one.shortest, rest.shortest);
    }

-- a module with gates in the places of its cells
pub techmap_reads : (m : Module) → HasReadableItems m → (beside m).next ≤ 1000000000 → HasReadableItems (techmap_of m)
techmap_reads m is short =
    let stand = all_stand m.cells (building_of m) is.cells in
    let all : HasReadableItems (beside m).body = extended m (beside m) is stand.steps short in
    record {
      id = all.id;
      attributes = all.attributes;
      parameters = all.parameters;
      wires = all.wires;
      memories = all.memories;
      cells = stand.are short;
      processes = all.processes;
      links = all.links;
      distinct = still_distinct (item_names (techmap_of m)) (item_names (beside m).body)
          (λ name. omega (arith, item_times name (techmap_of m), item_times name (beside m).body, stand.few name))
          all.distinct;
    }

-- .. has no more cells than the module with them beside the cells that they replace
pub techmap_fewer : (m : Module) → HasReadableItems m → length (techmap_of m).cells ≤ length (beside m).body.cells
techmap_fewer m is =
    let stand = all_stand m.cells (building_of m) is.cells in
    omega (arith, stand.shortest)
