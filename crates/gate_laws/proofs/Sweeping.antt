-- `opt_expr` leaves gates and instances where there was nothing else.
use Rattle.std.proofs.Common.{◌≡◌, true, false, Bool, if◌then◌else◌, List, [], ◌∷◌, ◌++◌, Option, Some, None, inl, inr, refl, sym, ◌∙◌, subst}
use Rattle.cell_types.specs.declared.gate.GateKind.TheVariants as GateOf
use Rattle.cell_types.specs.declared.kind.CellKind.{CellKind}
use Rattle.cell_types.specs.declared.kind.CellKind.TheVariants.{Gate, Memory, Storage, StorageGate, Word}
use Rattle.rtl_ir.specs.Flat.Cell.{cell_kind, cell_shape, listed}
use Rattle.rtl_ir.specs.Types.{Ports}
use Rattle.rtl_ir.specs.declared.cell.Cell.{Cell}
use Rattle.rtl_ir.specs.declared.module.Link.{Link}
use Rattle.rtl_ir.specs.declared.module.Module.{Module}
use Rattle.rtl_sig.specs.declared.sig.SigBit.{SigBit}
use Rattle.net_model.proofs.Ranges.{each_both, each_flat_map, each_more, each_none}
use Rattle.rtl_ir.specs.Attributes.{is_kept}
use Rattle.net_model.specs.Within.{Each}
use Rattle.follow_laws.specs.Inputs.{followed_cell}
use Rattle.expr_rules.specs.declared.change.Change.{Change}
use Rattle.expr_rules.specs.declared.change.Change.TheVariants.{Becomes, Gives}
use Rattle.expr_rules.specs.declared.change.NewCell.{NewCell}
use Rattle.opt_expr.proofs.Known.{shape_kind}
use Rattle.opt_expr.specs.Formed.{formed}
use Rattle.opt_expr.specs.Places.{combinational}
use Rattle.opt_expr.specs.Sweep.{Visit, by_rules, change_by, changed, expr_of, operands_in, ruled_kind, swept, visit_of}
use Rattle.tech_map.specs.Gates.{HasGatesAlone, IsGateOrInstance, is_gate_or_instance}
use Rattle.gate_laws.proofs.Changes.{IfLeavesGate, IsNewGate, change_left}

-- a slot has no cell, or a gate or an instance
abbrev IsSlot : Option Cell → Type 0
IsSlot None = Unit {0}
IsSlot (Some c) = IsGateOrInstance c

inverter_gate : (a b s : List SigBit) (c : Cell) → IsGateOrInstance (formed (record { kind = Gate GateOf.Not; a = a; b = b; s = s }) c)
unfolding cell_kind
inverter_gate a b s c = refl

chooser_gate : (a b s : List SigBit) (c : Cell) → IsGateOrInstance (formed (record { kind = Gate GateOf.Mux; a = a; b = b; s = s }) c)
unfolding cell_kind
chooser_gate a b s c = refl

formed_gate : (new : NewCell) (c : Cell) → IsNewGate new.kind → IsGateOrInstance (formed new c)
formed_gate new c (inl e) =
    subst (λ k. IsGateOrInstance (formed (record { kind = k; a = new.a; b = new.b; s = new.s }) c)) (sym e) (inverter_gate new.a new.b new.s c)
formed_gate new c (inr e) =
    subst (λ k. IsGateOrInstance (formed (record { kind = k; a = new.a; b = new.b; s = new.s }) c)) (sym e) (chooser_gate new.a new.b new.s c)

changed_slot : (change : Option Change) (c : Cell) → IfLeavesGate change → IsGateOrInstance c → IsSlot (changed change c).cell
changed_slot None c h gate = gate
changed_slot (Some (Gives word)) c h gate = tt
changed_slot (Some (Becomes new)) c h gate = formed_gate new c h

-- the kind that the rules may change is that of a gate
ruled_gate : (t : Bool) (k : Option CellKind) → is_gate_or_instance k ≡ true → (own : CellKind) → (if t then None else combinational k) ≡ Some own → (kind : _) × (own ≡ Gate kind)
ruled_gate true k gate own e = absurd (cc)
ruled_gate false None gate own e = absurd (cc)
ruled_gate false (Some (Gate kind)) gate own e = (kind, (let same : own ≡ Gate kind = cc in same))
ruled_gate false (Some (StorageGate kind)) gate own e = absurd (cc)
ruled_gate false (Some (Word kind)) gate own e = absurd (cc)
ruled_gate false (Some (Storage kind)) gate own e = absurd (cc)
ruled_gate false (Some (Memory kind)) gate own e = absurd (cc)

rules_slot : (cells : List Cell) (done : List (Option Cell)) (rest : List Cell) (c : Cell) → IsGateOrInstance c → IsSlot (by_rules cells done rest c).cell
rules_slot cells done rest c gate = changed_slot (change_by cells done rest (ruled_kind c) c) c (by (ruled_kind c) refl) gate
  where
    by : (k : Option CellKind) → ruled_kind c ≡ k → IfLeavesGate (change_by cells done rest k c)
    by None e = tt
    by (Some own) e =
        let g = ruled_gate (is_kept c.attributes) (cell_kind c) gate own e in
        change_left g.0 (cell_shape own c.params) (operands_in cells done rest (cell_shape own c.params) c.pins) (shape_kind own c ∙ g.1)

followed_gate : (ports : Ports) (links : List Link) (c : Cell) → IsGateOrInstance c → IsGateOrInstance (followed_cell ports links c)
unfolding cell_kind
followed_gate ports links c gate = gate

swept_slots : (ports : Ports) (cells : List Cell) (done : List (Option Cell)) (rest : List Cell) (links : List Link) → Each IsSlot done → Each IsGateOrInstance rest → Each IsSlot (swept ports cells done rest links).cells
swept_slots ports cells done [] links h gates = h
swept_slots ports cells done (c ∷ rest) links h gates =
    let visit : Visit = visit_of ports cells done rest links c in
    swept_slots ports cells (done ++ visit.cell ∷ []) rest (links ++ visit.links)
    (each_both IsSlot done (visit.cell ∷ []) h (each_more IsSlot visit.cell [] (rules_slot cells done rest (followed_cell ports links c) (followed_gate ports links c (gates c (inl refl)))) (each_none IsSlot)))
    (λ d i. gates d (inr i))

slot_gates : (slot : Option Cell) → IsSlot slot → Each IsGateOrInstance (listed slot)
slot_gates None h = each_none IsGateOrInstance
slot_gates (Some c) h = each_more IsGateOrInstance c [] h (each_none IsGateOrInstance)

pub expr_gates : (ports : Ports) (m : Module) → HasGatesAlone m → HasGatesAlone (expr_of ports m)
expr_gates ports m gates =
    each_flat_map IsGateOrInstance listed (swept ports m.cells [] m.cells m.links).cells
    (λ slot i. slot_gates slot (swept_slots ports m.cells [] m.cells m.links (each_none IsSlot) gates slot i))
