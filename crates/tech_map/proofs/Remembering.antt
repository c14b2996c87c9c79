-- Memories and their cells stay with gates in the places of other cells: the rows of the memories are the same, and their cells
-- are as sound as before.
use Rattle.std.proofs.Common.{◌≡◌, false, List, [], ◌∷◌, ◌++◌, length, Option, Some, None, refl, sym, ◌∙◌, subst, append_assoc, inl}
use Rattle.cell_types.specs.declared.kind.CellKind.{CellKind}
use Rattle.rtl_ir.specs.Build.{Building}
use Rattle.rtl_ir.specs.Faults.Cells.{is_memory_kind}
use Rattle.rtl_ir.specs.Flat.Cell.{cell_kind}
use Rattle.rtl_ir.specs.Flat.Memory.{memories_rows}
use Rattle.rtl_ir.specs.Flat.Place.{Path}
use Rattle.rtl_ir.specs.Types.{Ports}
use Rattle.rtl_ir.specs.declared.cell.Cell.{Cell}
use Rattle.rtl_ir.specs.declared.module.Module.{Module}
use Rattle.rtl_ir.specs.declared.process.Process.{Process}
use Rattle.rtl_ir.specs.declared.store.Store.{Store}
use Rattle.rtl_ir.specs.declared.wire.Wire.{Wire}
use Rattle.net_model.specs.Within.{Each}
use Rattle.map_laws.specs.Expansion.{IsWholeCell, IsWholeGate}
use Rattle.pass_laws.specs.Replaces.{IsOutside}
use Rattle.pass_laws.proofs.Accesses.{AreAccesses, accesses_replaced}
use Rattle.pass_laws.proofs.Memories.{memories_same}
use Rattle.tech_map.specs.Techmap.{stand_in, stand_ins, taken_kind, with_gates}
use Rattle.tech_map.proofs.ByKind.{mapped, no_memory, taken_is}
use Rattle.tech_map.proofs.Drives.{gate_plain}
use Rattle.tech_map.proofs.Growing.{AreWhole, whole_next}

-- a cell of a kind that is none of memories is none of a memory
pub outside : (kind : CellKind) (c : Cell) → cell_kind c ≡ Some kind → is_memory_kind kind ≡ false → IsOutside c
outside kind c own plain k e = let same : kind ≡ k = by (sym own ∙ e) in subst (λ z. is_memory_kind z ≡ false) same plain
  where
    by : {k : CellKind} → Some kind ≡ Some k → kind ≡ k
    by f = cc

gate_outside : (n : _) (g : Cell) → IsWholeGate n g → IsOutside g
gate_outside n g gate = outside gate.kind g gate.whole.own (gate_plain gate.kind gate.gate)

-- what stays so where cells come in the place of one, and none of these is one of a memory
module _ (P : List Cell → Type 0) (replaced : (pre : List Cell) (c : Cell) (post here : List Cell) → IsOutside c → Each IsOutside here → P (pre ++ c ∷ post) → P (pre ++ (here ++ post))) where
  one_replaced : (pre : List Cell) (c : Cell) (post : List Cell) (b : Building) → IsWholeCell (length b.body.wires) c → (k : Option CellKind) → taken_kind c ≡ k → P (pre ++ c ∷ post) → P (pre ++ (stand_in k c b ++ post))
  one_replaced pre c post b whole None e h = h
  one_replaced pre c post b whole (Some kind) e h =
      let is = taken_is (cell_kind c) kind e in
      let gates = (mapped kind is.taken c b (whole kind is.own)).expansion.gates in
      replaced pre c post (stand_in (Some kind) c b) (outside kind c is.own (no_memory kind is.taken)) (λ g i. gate_outside _ g (gates g i)) h

  -- stays so with gates in all places
  pub all_replaced : (pre cs : List Cell) (b : Building) → AreWhole cs b → P (pre ++ cs) → P (pre ++ stand_ins cs b)
  all_replaced pre [] b whole h = h
  all_replaced pre (c ∷ cs) b whole h =
      let here : List Cell = stand_in (taken_kind c) c b in
      let next : Building = with_gates (taken_kind c) c b in
      subst P (append_assoc pre here (stand_ins cs next))
      (all_replaced (pre ++ here) cs next (whole_next c cs b whole)
      (subst P (sym (append_assoc pre here cs)) (one_replaced pre c cs b (whole c (inl refl)) (taken_kind c) refl h)))

module _ (cs : List Cell) (b : Building) (whole : AreWhole cs b) where
  -- the rows of memories
  pub memories_kept : (p : Path) (wires : List Wire) (processes : List Process) (stores : List Store) → memories_rows p wires (stand_ins cs b) processes stores ≡ memories_rows p wires cs processes stores
  memories_kept p wires processes stores =
      all_replaced (λ ds. memories_rows p wires ds processes stores ≡ memories_rows p wires cs processes stores)
      (λ pre c post here o os e. memories_same p wires processes pre c post here o os stores ∙ e) [] cs b whole refl

  -- cells of memories are no faults
  pub accesses_kept : (ports : Ports) (m : Module) → AreAccesses ports m [] cs → AreAccesses ports m [] (stand_ins cs b)
  accesses_kept ports m h = all_replaced (AreAccesses ports m []) (accesses_replaced ports m m refl) [] cs b whole h
