-- Building only adds: cells of the library that are none of a memory, wires that are no ports, and connections, behind the
-- others.
use Rattle.std.proofs.Common.{◌≡◌, ℕ, false, ◌+◌, List, [], ◌∷◌, ◌++◌, length, Some, refl, sym, ◌∙◌, ap, subst, append_assoc}
use Rattle.std.proofs.lemmas.List.{append-nil}
use Rattle.cell_types.specs.Kind.{kind_of}
use Rattle.cell_types.specs.declared.kind.CellKind.{CellKind}
use Rattle.cell_types.specs.declared.kind.CellKind.TheVariants.{Word}
use Rattle.cell_types.specs.declared.word.WordKind.{WordKind}
use Rattle.rtl_ir.specs.Build.{Building, inner_wire, made_name, new_driver, new_link, pin_of, whole}
use Rattle.rtl_ir.specs.Faults.Cells.{is_memory_kind}
use Rattle.rtl_ir.specs.Flat.Cell.{cell_kind}
use Rattle.rtl_ir.specs.declared.cell.Cell.{Cell}
use Rattle.rtl_ir.specs.declared.cell.CellParam.{CellParam}
use Rattle.rtl_ir.specs.declared.cell.Pin.{Pin}
use Rattle.rtl_ir.specs.declared.module.Link.{Link}
use Rattle.rtl_ir.specs.declared.module.Module.{Module}
use Rattle.rtl_ir.specs.declared.wire.Wire.{Wire}
use Rattle.rtl_sig.specs.declared.sig.SigBit.{SigBit}
use Rattle.net_model.proofs.Ranges.{each_both, each_more, each_none}
use Rattle.net_model.specs.Within.{AreInner, Each}
use Rattle.build_laws.proofs.Moments.{AreMet, Moment, met_left}

-- a cell of the library, and none of a memory
pub record IsPlainCell (c : Cell) : Type 0 where
  pub kind : CellKind
  pub is : cell_kind c ≡ Some kind
  pub plain : is_memory_kind kind ≡ false

-- a module with further items
abbrev pub with_more : List Cell → List Wire → List Link → Module → Module
with_more cells wires links m = record m { cells = m.cells ++ cells; wires = m.wires ++ wires; links = m.links ++ links }

-- what is added between two states
pub record Grows (old new : Building) : Type 0 where
  pub cells : List Cell
  pub wires : List Wire
  pub links : List Link
  pub body : new.body ≡ with_more cells wires links old.body
  pub plain : Each IsPlainCell cells
  pub inner : AreInner wires

pub grows_none : (b : Building) → Grows b b
grows_none b = record {
  cells = [];
  wires = [];
  links = [];
  body = let none : with_more [] [] [] b.body ≡ b.body = λ i. record b.body { cells = append-nil b.body.cells i; wires = append-nil b.body.wires i; links = append-nil b.body.links i } in sym none;
  plain = each_none IsPlainCell;
  inner = λ w i. absurd i;
}

pub grows_both : (a b c : Building) → Grows a b → Grows b c → Grows a c
grows_both a b c h k = record {
  cells = h.cells ++ k.cells;
  wires = h.wires ++ k.wires;
  links = h.links ++ k.links;
  body =
      k.body
      ∙ ap (with_more k.cells k.wires k.links) h.body
      ∙ (λ i. record a.body { cells = append_assoc a.body.cells h.cells k.cells i; wires = append_assoc a.body.wires h.wires k.wires i; links = append_assoc a.body.links h.links k.links i });
  plain = each_both IsPlainCell h.cells k.cells h.plain k.plain;
  inner = each_both _ h.wires k.wires h.inner k.inner;
}

pub grows_driver : (name : List ℕ) (kind : WordKind) → kind_of name ≡ Some (Word kind) → (params : List CellParam) (pins : List Pin) (output : List ℕ) (width : ℕ) (b : Building) → Grows b (new_driver name params pins output width b).1
unfolding cell_kind
grows_driver name kind e params pins output width b = record {
  cells = record { kind_name = name; name = made_name b.next; params = params; pins = pins ++ pin_of output (whole (length b.body.wires) width) ∷ []; attributes = [] } ∷ [];
  wires = inner_wire (made_name (b.next + 1)) width [] ∷ [];
  links = [];
  body = λ i. record b.body { cells = b.body.cells ++ record { kind_name = name; name = made_name b.next; params = params; pins = pins ++ pin_of output (whole (length b.body.wires) width) ∷ []; attributes = [] } ∷ []; wires = b.body.wires ++ inner_wire (made_name (b.next + 1)) width [] ∷ []; links = sym (append-nil b.body.links) i };
  plain = each_more IsPlainCell _ [] (record { kind = Word kind; is = e; plain = refl }) (each_none IsPlainCell);
  inner = each_more _ _ [] refl (λ w i. absurd i);
}

pub grows_link : (left right : List SigBit) (b : Building) → Grows b (new_link left right b)
grows_link left right b = record {
  cells = [];
  wires = [];
  links = record { left = left; right = right } ∷ [];
  body = λ i. record b.body { cells = sym (append-nil b.body.cells) i; wires = sym (append-nil b.body.wires) i; links = b.body.links ++ record { left = left; right = right } ∷ [] };
  plain = each_none IsPlainCell;
  inner = λ w i. absurd i;
}

-- what is met later was there before
pub met_before : (m : Moment) (a b : Building) → Grows a b → AreMet m b.body.cells → AreMet m a.body.cells
met_before m a b h met =
    met_left m a.body.cells h.cells (subst (AreMet m) (ap (λ (n : Module). n.cells) h.body) met)
