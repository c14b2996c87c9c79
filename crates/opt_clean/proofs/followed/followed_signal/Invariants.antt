-- The bits so far and those that are left, followed, are all.
use Rattle.std.proofs.Common.{◌≡◌, ◌++◌, drop, map}
use Rattle.rtl_ir.specs.declared.module.Module.{Module}
use Rattle.rtl_ir.specs.Follow.{follow}
use Rattle.rtl_ir.specs.Types.{Ports}
use Rattle.net_index.specs.Drivers.{AreDrivers}
use Rattle.opt_clean.proofs.followed.followed_signal.Given as goal

abbrev pub invariant-loop-bit : goal.invariant-loop-bit
invariant-loop-bit l =
    (ports : Ports) (m : Module) → AreDrivers l.index ports m
    → l.found ++ map (follow m.links) (drop l.bit-index l.signal) ≡ map (follow m.links) l.signal
