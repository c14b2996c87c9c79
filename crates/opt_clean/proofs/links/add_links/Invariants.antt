-- The connections so far, with those of the run and of the bits that are left, are all.
use Rattle.std.proofs.Common.{◌≡◌, ◌-◌, ◌++◌, map}
use Rattle.rtl_ir.specs.Types.{Ports}
use Rattle.rtl_ir.specs.declared.module.Module.{Module}
use Rattle.net_index.specs.Drivers.{AreDrivers}
use Rattle.opt_clean.specs.Linked.{is_linked}
use Rattle.opt_clean.specs.Runs.{run_link, runs, source_of, wire_links}
use Rattle.opt_clean.proofs.Running.{bits_from}
use Rattle.opt_clean.proofs.links.add_links.Given as goal

abbrev pub invariant-loop-at : goal.invariant-loop-at
invariant-loop-at l =
    (ports : Ports) (m : Module) → AreDrivers l.index ports m
    → l.links.items ++ map (run_link (source_of m.links)) (runs (is_linked ports m) l.run.items (bits_from l.wire l.at (l.width - l.at)))
    ≡ l.fn.links.items ++ wire_links (is_linked ports m) (source_of m.links) l.wire l.width
