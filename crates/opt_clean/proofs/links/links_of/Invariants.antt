-- The connections so far and those of the wires that are left are all.
use Rattle.std.proofs.Common.{◌≡◌, ◌++◌, drop}
use Rattle.rtl_ir.specs.Types.{Ports}
use Rattle.rtl_ir.specs.declared.module.Module.{Module}
use Rattle.net_index.specs.Drivers.{AreDrivers}
use Rattle.opt_clean.specs.Linked.{is_linked}
use Rattle.opt_clean.specs.Runs.{shown_links, source_of}
use Rattle.opt_clean.proofs.links.links_of.Given as goal

abbrev pub invariant-loop-place : goal.invariant-loop-place
invariant-loop-place l =
    (ports : Ports) (m : Module) → AreDrivers l.index ports m
    → l.links.items ++ shown_links (is_linked ports m) (source_of m.links) l.place (drop l.place l.wires)
    ≡ shown_links (is_linked ports m) (source_of m.links) 0 l.wires
