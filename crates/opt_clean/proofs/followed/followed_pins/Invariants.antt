-- The pins so far and those that are left, followed, are all; until a change is told, they are the pins.
use Rattle.std.proofs.Common.{◌≡◌, ◌++◌, map, true}
use Rattle.rtl_ir.specs.declared.module.Module.{Module}
use Rattle.rtl_ir.specs.Types.{CellType, Ports}
use Rattle.net_index.specs.Drivers.{AreDrivers}
use Rattle.net_index.specs.Types.{IsType}
use Rattle.follow_laws.specs.Inputs.{followed_pin}
use Rattle.opt_clean.proofs.followed.followed_pins.Given as goal

abbrev pub invariant-loop-pin : goal.invariant-loop-pin
invariant-loop-pin l = record {
  all : (type : CellType) (ports : Ports) (m : Module) → IsType l.cell_type type → AreDrivers l.index ports m → l.found.items ++ map (followed_pin type m.links) l.pin-iterator.rest.items ≡ map (followed_pin type m.links) l.fn.pins.items;
  same : l.is_same ≡ true → l.found.items ++ l.pin-iterator.rest.items ≡ l.fn.pins.items;
}
