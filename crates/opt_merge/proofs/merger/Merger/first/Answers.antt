use Rattle.std.proofs.Common.{◌∙◌, ap, length, refl, set, subst, sym}
use Rattle.opt_merge.specs.Late.{late_at}
use Rattle.opt_merge.specs.Table.{PutsRow, at_row}
use Rattle.opt_merge.proofs.Stepping.{state_first}
use Rattle.opt_merge.proofs.merger.Merger.first.Goals as goal

pub returns : goal.returns
returns c = record {
  state = λ cells wires before s d here own row none settled is.
      state_first wires before cells c.args.at s d here c.args.kind own c.args.self.now _ is (record { kept = c.in_ok-push.ensures.items; readers = refl; links = refl }) c.in_ok-note.ensures.view c.in_ok-note.ensures.late
      (ap (λ r. late_at c.args.self.now.entries.late (length r)) (sym row) ∙ settled)
      (ap (at_row c.args.self.now.entries.table) (sym row) ∙ none) (subst (λ rs. PutsRow c.args.self.now.entries.table c.note.new.self.table rs c.args.at) row c.in_ok-note.ensures.table).all c.in_ok-note.ensures.kinds
      (c.in_ok-note.ensures.lengths ∙ ap (λ r. set c.args.self.now.entries.lengths.items c.args.at (length r)) row);
}
