-- What is asked of a machine besides its parts: 2 to 64 states, and pins within the limit.
use Rattle.std.proofs.Common.{◌≡◌, ◌≤◌, ℕ, Bool, true, List, ◌++◌, length}
use Rattle.std.specs.Prelude.{◌&&◌, ◌||◌, nat_le, not}
use Rattle.std.specs.List.{list_all, list_any}
use Rattle.std.proofs.lemmas.Bool.{and_parts, leb-true}
use Rattle.rtl_bits.specs.Knowledge.{all_known, is_known}
use Rattle.rtl_bits.specs.declared.bit.Bit.{Bit}
use Rattle.rtl_sig.specs.declared.sig.SigBit.{SigBit}
use Rattle.rtl_sig.specs.declared.sig.WireBit.{WireBit}
use Rattle.rtl_ir.specs.Signals.{wire_bits}
use Rattle.rtl_ir.specs.Types.{Ports}
use Rattle.rtl_ir.specs.declared.machine.Machine.{Machine}
use Rattle.rtl_ir.specs.declared.module.Module.{Module}
use Rattle.net_model.specs.Fsm.Find.{cells_at_places, cells_read_well, fits_code, option_state, ports_read_well, start_bits, tree_outputs, whole_wire}
use Rattle.fsm_laws.specs.Machines.{IsFoundMachine}

pub record IsAsked (m : Module) (machine : Machine) : Type 0 where
  pub two : 2 ≤ length machine.states
  pub few : length machine.states ≤ 64
  pub fits : list_all (fits_code (length machine.states)) (cells_at_places m.cells machine.muxes) ≡ true

pub asked_of : (ports : Ports) (m : Module) (at : ℕ) (machine : Machine) → IsFoundMachine ports m at machine → IsAsked m machine
asked_of ports m at machine found =
    let state : List SigBit = whole_wire at found.wire in
    let outs : List WireBit = tree_outputs m machine.muxes in
    let starts : List Bit = start_bits m state in
    let last : Bool = list_all (fits_code (length machine.states)) (cells_at_places m.cells machine.muxes) in
    let narrow : Bool = nat_le (length machine.states) 64 && last in
    let states : Bool = nat_le 2 (length machine.states) && narrow in
    let known : Bool = (all_known starts || not (list_any is_known starts)) && states in
    let reset : Bool = list_all all_known (option_state machine.reset) && known in
    let ports_too : Bool = ports_read_well m (wire_bits state ++ outs) 0 m.wires && reset in
    let a = and_parts (cells_read_well ports m machine.muxes machine.flop state outs 0 m.cells) ports_too found.asked in
    let b = and_parts (ports_read_well m (wire_bits state ++ outs) 0 m.wires) reset a.1 in
    let c = and_parts (list_all all_known (option_state machine.reset)) known b.1 in
    let d = and_parts (all_known starts || not (list_any is_known starts)) states c.1 in
    let e = and_parts (nat_le 2 (length machine.states)) narrow d.1 in
    let f = and_parts (nat_le (length machine.states) 64) last e.1 in
    record { two = leb-true 2 (length machine.states) e.0; few = leb-true (length machine.states) 64 f.0; fits = f.1 }
