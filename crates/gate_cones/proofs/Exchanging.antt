-- The gate at the root of a cone gives way to another cone.
use Rattle.std.proofs.Common.{◌≡◌, ℕ, zero, suc, List, [], ◌∷◌, ◌++◌, length, Some, inl, inr, ⊎_elim, refl, sym, ◌∙◌, ap, subst}
use Rattle.std.specs.Prelude.{slice_get, slice_index_or}
use Rattle.cell_types.specs.PinName.{pin_text}
use Rattle.cell_types.specs.declared.kind.CellKind.TheVariants.{Gate}
use Rattle.cell_types.specs.declared.pin_name.PinName.TheVariants.{Y}
use Rattle.rtl_bits.proofs.Orders.{Below_trans}
use Rattle.rtl_bits.specs.Knowledge.{Below}
use Rattle.rtl_bits.specs.declared.bit.Bit.TheVariants.{S0}
use Rattle.rtl_sig.specs.declared.sig.SigBit.{SigBit}
use Rattle.rtl_sig.specs.declared.sig.SigBit.TheVariants.{Fixed as Constant, Wire as OnWire}
use Rattle.rtl_sig.specs.declared.sig.WireBit.{WireBit}
use Rattle.rtl_ir.specs.Flat.Cell.{cells_rows}
use Rattle.rtl_ir.specs.Flat.Driver.{Driven}
use Rattle.rtl_ir.specs.Flat.Place.{Path, Place}
use Rattle.rtl_ir.specs.Flat.Point.{point}
use Rattle.rtl_ir.specs.Flat.Rows.{rows_of}
use Rattle.rtl_ir.specs.Flat.Start.{start_of}
use Rattle.rtl_ir.specs.Flat.Tree as flat
use Rattle.rtl_ir.specs.Parameters.{signal_at}
use Rattle.rtl_ir.specs.Types as types
use Rattle.rtl_ir.specs.declared.cell.Cell.{Cell}
use Rattle.rtl_ir.specs.declared.module.Link.{Link}
use Rattle.rtl_ir.specs.declared.module.Module.{Module}
use Rattle.rtl_ir.specs.declared.ports.PortTable.{PortTable}
use Rattle.net_model.proofs.Members.{In-cases}
use Rattle.net_model.proofs.Swapping.{rows-append}
use Rattle.net_model.specs.Lists.{In}
use Rattle.net_model.specs.Refine.{Solved}
use Rattle.net_model.specs.Run.{Time}
use Rattle.net_model.specs.Swap.{with_cells}
use Rattle.net_model.specs.Valuation.{Valuation, read}
use Rattle.net_model.specs.Value.{value_of}
use Rattle.net_model.specs.Within.{BitIn, CellIn, SigIn}
use Rattle.pass_laws.specs.Pass.{IsPass}
use Rattle.pass_laws.specs.Ready.{IsReady}
use Rattle.pass_laws.specs.Replaces.{IsFaultless, replacing}
use Rattle.pass_laws.proofs.Driving.{own_driver}
use Rattle.pass_laws.proofs.Giving.{became, given}
use Rattle.pass_laws.proofs.Rewriting.{post_in, pre_in}
use Rattle.gate_cones.specs.declared.cone.Cone.{Cone}
use Rattle.gate_cones.specs.declared.row.Row.{Row}
use Rattle.gate_cones.specs.Below.{IsBelow}
use Rattle.gate_cones.specs.Cone.{cone_value}
use Rattle.gate_cones.specs.Netlist.{Drives, Give, IsRoot, Leaves, output_to}
use Rattle.gate_cones.proofs.Keeping.{below_anywhere, row_refl}
use Rattle.gate_cones.proofs.Standing.{given_bit, leaf_row, root_gives, root_kind, root_own}

-- a signal of one bit has it at place 0
only_place : (b d : WireBit) (at : ℕ) → slice_get (OnWire b ∷ []) at ≡ Some (OnWire d) → at ≡ 0
only_place b d zero e = refl
only_place b d (suc k) e = absurd (cc)

one_within : (count : ℕ) (y : SigBit) → BitIn count y → SigIn count (y ∷ [])
one_within count y h x (inl e) = subst (BitIn count) (sym e) h
one_within count y h x (inr i) = absurd i

module _ (table : PortTable) (m : Module) (pre : List Cell) (c : Cell) (post : List Cell) (ready : IsReady (types.table_ports table.modules) m) (is : m.cells ≡ pre ++ c ∷ post) (leaves : Leaves) (first second : Cone) (below : IsBelow first second) (root : IsRoot (pre ++ post) leaves first c) where
  -- the rows of the cells beside the root stay
  among : (here : List Cell) (more : List Link) (p : Path) (d : Driven) → In d (cells_rows (start_of m.wires m.processes) (flat.table_ports table) p m.wires (pre ++ post)) → In d (rows_of (flat.table_ports table) p (replacing pre here post more m))
  among here more p d i =
      ⊎_elim
      (λ l. pre_in m pre post here more (flat.table_ports table) p d l)
      (λ r. post_in m pre post here more (flat.table_ports table) p d r)
      (In-cases d (cells_rows (start_of m.wires m.processes) (flat.table_ports table) p m.wires pre) (cells_rows (start_of m.wires m.processes) (flat.table_ports table) p m.wires post) (subst (In d) (rows-append (start_of m.wires m.processes) (flat.table_ports table) p m.wires pre post) i))

  -- what the root gives is below the second cone, in each solution of the rows of the new module
  root_below : (here : List Cell) (more : List Link) (p : Path) (t : Time Place) (w : Valuation) → Solved (rows_of (flat.table_ports table) p (replacing pre here post more m)) t w → (at : ℕ) (b : WireBit) → Below (value_of (own_driver (start_of m.wires m.processes) p m.wires c (Gate (root_kind first)) at b) t w) (cone_value second (leaf_row (start_of m.wires m.processes) p m.wires t w leaves))
  root_below here more p t w s at b =
      let row : Row = leaf_row (start_of m.wires m.processes) p m.wires t w leaves in
      let gives = root_gives (start_of m.wires m.processes) p m.wires t w leaves (flat.table_ports table) (pre ++ post) (rows_of (flat.table_ports table) p (replacing pre here post more m)) (among here more p) s first c root at b in
      Below_trans (value_of (own_driver (start_of m.wires m.processes) p m.wires c (Gate (root_kind first)) at b) t w) (cone_value first row) (cone_value second row) gives.0 (below_anywhere first second below row row (row_refl row))

  -- another gate comes in the place of the root, over the other cells
  pub by_gate : (d : Cell) → IsRoot (pre ++ post) leaves second d → signal_at d.pins (pin_text Y) ≡ signal_at c.pins (pin_text Y) → IsFaultless (types.table_ports table.modules) d → CellIn (length m.wires) d → IsPass table m (with_cells (pre ++ d ∷ post) m)
  by_gate d new same sound within =
      became table m pre c post ready is (Gate (root_kind first)) (root_own (pre ++ post) leaves first c root) refl Y refl d (Gate (root_kind second)) (root_own (pre ++ post) leaves second d new) Y refl same sound within
      (λ p t w s before at b there.
      let gives = root_gives (start_of m.wires m.processes) p m.wires t w leaves (flat.table_ports table) (pre ++ post) (rows_of (flat.table_ports table) p (replacing pre (d ∷ []) post [] m)) (among (d ∷ []) [] p) s second d new at b in
      Below_trans _ _ _ (root_below (d ∷ []) [] p t w s at b) gives.1)

  -- the output of the root is connected to a bit that the other cells give
  pub by_bit : (old y : SigBit) → Drives c old → Give (pre ++ post) leaves second y → BitIn (length m.wires) y → IsPass table m (replacing pre [] post (output_to c y ∷ []) m)
  by_bit old y drives new within =
      given table m pre c post ready is (Gate (root_kind first)) (root_own (pre ++ post) leaves first c root) refl Y refl (y ∷ []) (ap length drives.output) (one_within (length m.wires) y within)
      (λ p t w s before at b there.
      let gives = given_bit (start_of m.wires m.processes) p m.wires t w leaves (flat.table_ports table) (pre ++ post) (rows_of (flat.table_ports table) p (replacing pre [] post (output_to c y ∷ []) m)) (among [] (output_to c y ∷ []) p) s second y new in
      let place : at ≡ 0 = only_place drives.bit b at (ap (λ z. slice_get z at) (sym drives.output) ∙ there) in
      subst (λ k. Below (value_of (own_driver (start_of m.wires m.processes) p m.wires c (Gate (root_kind first)) at b) t w) (read w (point p m.wires (slice_index_or (y ∷ []) k (Constant S0))))) (sym place)
      (Below_trans _ _ _ (root_below [] (output_to c y ∷ []) p t w s at b) gives.1))
