-- The connections so far have no fault.
use Rattle.std.proofs.Common.{◌≡◌, ◌+◌, drop}
use Rattle.rtl_ir.specs.Faults.Links.{link_faults}
use Rattle.rtl_check.proofs.links.check_links.Given as goal

abbrev pub invariant-loop-at : goal.invariant-loop-at
invariant-loop-at l = link_faults l.id (l.at + 1) (drop l.at l.links) ≡ link_faults l.id 1 l.links
