-- What is known of a module in which state wires are looked for.
use Rattle.std.specs.Prelude.{◌≡◌, ℕ, Bool, true, List, [], ◌∷◌, filter, length}
use Rattle.std.specs.List.{list_any, range_with_len}
use Rattle.rtl_bits.specs.declared.bit.Bit.{Bit}
use Rattle.rtl_sig.specs.declared.sig.SigBit.{SigBit}
use Rattle.rtl_ir.specs.declared.machine.Machine.{Machine}
use Rattle.rtl_ir.specs.declared.module.Module.{Module}
use Rattle.rtl_ir.specs.Types.{Ports}
use Rattle.net_index.specs.Drivers.{AreDrivers}
use Rattle.net_index.specs.Types.{AreTypes}
use Rattle.fsm_find.specs.declared.finder.Finder.{Finder}
use Rattle.fsm_find.specs.declared.starts.Starts.{Starts}
use Rattle.net_model.specs.Fsm.Find.{cells_at_places, compares, start_bits}
use Rattle.fsm_parts.specs.SignalTable.{place_in}
use Rattle.fsm_find.specs.declared.whole_drivers.Part.TheVariants.{Tree, Flop}
use Rattle.fsm_find.specs.Order.{is_done}
use Rattle.fsm_find.specs.Starts.{are_starts, is_count}
use Rattle.fsm_find.specs.WholeDrivers.{first_giving}

-- what is known is of the module over these ports, and no process is left in the module
pub record IsFinder (finder : Finder) (ports : Ports) : Type 0 where
  pub no_process : finder.body.now.processes ≡ []
  pub types : AreTypes finder.types ports
  pub index : AreDrivers finder.index ports finder.body.now
  pub forks : (signal : List SigBit) → place_in finder.forks signal ≡ first_giving Tree finder.body.now.cells signal
  pub flops : (signal : List SigBit) → place_in finder.flops signal ≡ first_giving Flop finder.body.now.cells signal

-- a machine is of what was found: its wire and flop, the forks that are marked, these states, and the values that it may start from
pub record IsDraft (m : Module) (state : List SigBit) (place at : ℕ) (found : List Bool) (list : List (List Bit)) (values : Starts) (made : Machine) : Type 0 where
  pub wire : made.wire ≡ place
  pub flop : made.flop ≡ at
  pub muxes : made.muxes ≡ filter (is_done found) (range_with_len 0 (length found))
  pub compares : made.compares ≡ filter (λ k. list_any (compares m state) (cells_at_places m.cells (k ∷ []))) (range_with_len 0 (length m.cells))
  pub states : made.states ≡ list
  pub reset : made.reset ≡ values.reset
  pub start : made.start ≡ values.start
  pub may_start : are_starts made.reset (start_bits m state) ≡ true
  pub count : is_count (length made.states) ≡ true
