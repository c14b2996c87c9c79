-- What is known of a module where a tree is followed.
use Rattle.std.specs.Prelude.{◌≡◌, ℕ, List, map, Option, Some, None, if◌then◌else◌}
use Rattle.rtl_sig.specs.declared.sig.SigBit.{SigBit}
use Rattle.rtl_ir.specs.declared.cell.Cell.{Cell}
use Rattle.rtl_ir.specs.declared.module.Module.{Module}
use Rattle.rtl_ir.specs.Follow.{follow}
use Rattle.rtl_ir.specs.Types.{Ports}
use Rattle.net_index.specs.Drivers.{AreDrivers}
use Rattle.net_model.specs.Fsm.Find.{arms_of, is_leaf}
use Rattle.fsm_find.specs.declared.view.View.{View}
use Rattle.fsm_find.specs.declared.view.Step.{Step}
use Rattle.fsm_find.specs.declared.view.Step.TheVariants.{Leaf, Fork, Stray}
use Rattle.fsm_parts.specs.SignalTable.{place_in}
use Rattle.fsm_find.specs.WholeDrivers.{fork_at}

-- what is known is of this module over these ports
pub record IsView (view : View) (ports : Ports) (m : Module) : Type 0 where
  pub index : AreDrivers view.index.now ports m
  pub forks : (signal : List SigBit) → place_in view.forks.now signal ≡ fork_at m.cells signal

-- what a place of a fork that may be there means
abbrev pub fork_step : Option ℕ → Step
fork_step None = Stray
fork_step (Some at) = Fork at

-- what a followed signal is
abbrev pub step_of : Module → List SigBit → List SigBit → Step
step_of m state signal = if is_leaf state signal then Leaf else fork_step (fork_at m.cells signal)

-- the values that a fork chooses from, followed
abbrev pub arms_in : Module → Cell → List (List SigBit)
arms_in m c = map (map (follow m.links)) (arms_of c)
