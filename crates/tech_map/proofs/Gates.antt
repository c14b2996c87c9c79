-- Where no cell is one of a memory, gates and instances alone are left.
use Rattle.std.proofs.Common.{◌≡◌, true, false, List, [], ◌∷◌, length, Option, Some, None, inl, inr, refl, sym, ◌∙◌, ap, subst}
use Rattle.cell_types.specs.declared.kind.CellKind.{CellKind}
use Rattle.cell_types.specs.declared.kind.CellKind.TheVariants.{Gate, Memory, Storage, StorageGate, Word}
use Rattle.rtl_ir.specs.Build.{Building, building_of}
use Rattle.rtl_ir.specs.Faults.Cells.{is_memory_kind}
use Rattle.rtl_ir.specs.Flat.Cell.{cell_kind}
use Rattle.rtl_ir.specs.declared.cell.Cell.{Cell}
use Rattle.rtl_ir.specs.declared.module.Module.{Module}
use Rattle.net_model.proofs.Ranges.{each_both}
use Rattle.net_model.specs.Within.{Each}
use Rattle.map_laws.specs.Expansion.{IsWholeCell, IsWholeGate}
use Rattle.pass_laws.specs.Replaces.{IsOutside}
use Rattle.tech_map.specs.Gates.{HasGatesAlone, IsGateOrInstance, is_gate_or_instance}
use Rattle.tech_map.specs.Techmap.{if_taken, stand_in, stand_ins, taken_kind, techmap_of, with_gates}
use Rattle.tech_map.proofs.ByKind.{mapped, taken_is}
use Rattle.tech_map.proofs.Growing.{AreWhole, whole_next}

-- a cell that becomes no gates is a gate, an instance, or one of a memory
left_kind : (k : Option CellKind) → if_taken k ≡ None → ((kind : CellKind) → k ≡ Some kind → is_memory_kind kind ≡ false) → is_gate_or_instance k ≡ true
left_kind None e h = refl
left_kind (Some (Gate kind)) e h = refl
left_kind (Some (StorageGate kind)) e h = refl
left_kind (Some (Word kind)) e h = absurd (cc)
left_kind (Some (Storage kind)) e h = absurd (cc)
left_kind (Some (Memory kind)) e h = let no : true ≡ false = h (Memory kind) refl in absurd (cc)

gate_is : (n : _) (g : Cell) → IsWholeGate n g → IsGateOrInstance g
gate_is n g gate = ap is_gate_or_instance gate.whole.own ∙ gate.gate

one_stands : (c : Cell) (b : Building) → IsWholeCell (length b.body.wires) c → IsOutside c → (k : Option CellKind) → taken_kind c ≡ k → Each IsGateOrInstance (stand_in k c b)
one_stands c b whole outside None e g (inl here) =
    subst IsGateOrInstance (sym here) (left_kind (cell_kind c) e outside)
one_stands c b whole outside None e g (inr i) = absurd i
one_stands c b whole outside (Some kind) e g i =
    let is = taken_is (cell_kind c) kind e in
    gate_is _ g ((mapped kind is.taken c b (whole kind is.own)).expansion.gates g i)

all_stand : (cs : List Cell) (b : Building) → AreWhole cs b → Each IsOutside cs → Each IsGateOrInstance (stand_ins cs b)
all_stand [] b whole outside = λ g i. absurd i
all_stand (c ∷ cs) b whole outside =
    let next : Building = with_gates (taken_kind c) c b in
    each_both IsGateOrInstance (stand_in (taken_kind c) c b) (stand_ins cs next)
    (one_stands c b (whole c (inl refl)) (outside c (inl refl)) (taken_kind c) refl)
    (all_stand cs next (whole_next c cs b whole) (λ d i. outside d (inr i)))

pub techmap_gates : (m : Module) → AreWhole m.cells (building_of m) → Each IsOutside m.cells → HasGatesAlone (techmap_of m)
techmap_gates m whole outside = all_stand m.cells (building_of m) whole outside
