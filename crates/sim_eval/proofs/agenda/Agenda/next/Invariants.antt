-- Places of parts without a mark are taken off.
use Rattle.std.proofs.Common.{◌≡◌, ◌≤◌, length}
use Rattle.sim_eval.specs.Agenda.{AreListed}
use Rattle.sim_eval.proofs.agenda.Agenda.next.Given as goal

abbrev pub invariant-loop-place : goal.invariant-loop-place
invariant-loop-place l = record {
  marks : l.self.marks ≡ l.fn.self.marks;
  told : l.self.told ≡ l.fn.self.told;
  listed : AreListed l.fn.self → AreListed l.self;
  shorter : length l.self.places.items ≤ length l.fn.self.places.items;
}

abbrev pub decreases-loop-place : goal.decreases-loop-place
decreases-loop-place l = length l.self.places.items
