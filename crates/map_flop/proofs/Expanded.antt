-- What is added for a cell is an expansion of it, and stands for it.
use Rattle.std.proofs.Common.{◌≡◌, true, List, length, Some, refl, sym, subst}
use Rattle.cell_types.specs.declared.kind.CellKind.{CellKind}
use Rattle.cell_types.specs.declared.kind.CellKind.TheVariants.{Storage}
use Rattle.cell_types.specs.declared.shape.Shape.{Shape}
use Rattle.rtl_bits.specs.declared.bit.Bit.{Bit}
use Rattle.rtl_ir.specs.Build.{Building}
use Rattle.rtl_ir.specs.Flat.Cell.{Ports, cell_kind, cell_shape}
use Rattle.rtl_ir.specs.declared.cell.Cell.{Cell}
use Rattle.rtl_ir.specs.declared.wire.Wire.{Wire}
use Rattle.rtl_sig.specs.declared.sig.SigBit.{SigBit}
use Rattle.map_laws.specs.Expansion.{IsExpansion, IsWhole, StandsWith, cells_added, links_added}
use Rattle.map_laws.proofs.Shaping.{shape_is}
use Rattle.map_laws.specs.Operand.{IsShapeOf}
use Rattle.map_flop.specs.Expand.{gates_of, is_mapped, map_of}
use Rattle.map_flop.proofs.Expanding.{gates_expand, no_links}
use Rattle.map_flop.proofs.Standing.{gates_stand}

module _ (c : Cell) (b : Building) (shape : Shape) where
  expands : (kind : CellKind) → is_mapped kind ≡ true → IsWhole (length b.body.wires) kind c → IsExpansion b (gates_of kind shape c b) c
  expands (Storage kind) m whole = gates_expand kind shape c b whole
  expands kind m whole = absurd (cc)

  stands : (kind : CellKind) → shape.kind ≡ kind → is_mapped kind ≡ true → cell_kind c ≡ Some kind → shape ≡ cell_shape kind c.params → (ports : Ports) (start : SigBit → Bit) (wires : List Wire) → StandsWith ports start wires c (cells_added b (gates_of kind shape c b)) (links_added b (gates_of kind shape c b))
  stands (Storage kind) is m own e ports start wires =
      subst (StandsWith ports start wires c (cells_added b (gates_of (Storage kind) shape c b))) (sym (no_links kind shape c b)) (gates_stand ports start wires kind shape is c b own e)
  stands kind is m own e ports start wires = absurd (cc)

  -- the same of what is answered
  module _ (new : Building) (e : new ≡ map_of shape c b) where
    pub expanded : IsShapeOf c shape → is_mapped shape.kind ≡ true → IsWhole (length b.body.wires) shape.kind c → IsExpansion b new c
    expanded is m whole = subst (λ n. IsExpansion b n c) (sym e) (expands shape.kind m whole)

    pub expanded_stands : IsShapeOf c shape → is_mapped shape.kind ≡ true → (ports : Ports) (start : SigBit → Bit) (wires : List Wire) → StandsWith ports start wires c (cells_added b new) (links_added b new)
    expanded_stands is m ports start wires =
        subst (λ n. StandsWith ports start wires c (cells_added b n) (links_added b n)) (sym e) (stands shape.kind refl m is.kind (shape_is c shape is) ports start wires)
