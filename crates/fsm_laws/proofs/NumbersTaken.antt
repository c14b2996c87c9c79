-- The fresh names that a machine takes.
use Rattle.std.proofs.Common.{◌≡◌, ℕ, ◌+◌, List, [], ◌∷◌, length, ◌∙◌, arith}
use Rattle.rtl_ir.specs.Build.{Building, building_of, first_number, fresh_wire}
use Rattle.rtl_ir.specs.declared.cell.Cell.{Cell}
use Rattle.rtl_ir.specs.declared.machine.Machine.{Machine}
use Rattle.rtl_ir.specs.declared.module.Module.{Module}
use Rattle.net_model.specs.Fsm.Code.{code_init, fresh_outputs}

outputs_next : (width : ℕ) (cells : List Cell) (places : List ℕ) (b : Building) → (fresh_outputs width cells places b).1.next ≡ b.next + length places
outputs_next width cells [] b = omega arith
outputs_next width cells (at ∷ places) b =
    let later = outputs_next width cells places (fresh_wire width [] b).1 in
    later ∙ omega arith

pub taken : (m : Module) (machine : Machine) → (fresh_outputs (length machine.states) m.cells machine.muxes (fresh_wire (length machine.states) (code_init machine.states machine.start) (building_of m)).1).1.next ≡ first_number m + 1 + length machine.muxes
taken m machine =
    outputs_next (length machine.states) m.cells machine.muxes (fresh_wire (length machine.states) (code_init machine.states machine.start) (building_of m)).1
