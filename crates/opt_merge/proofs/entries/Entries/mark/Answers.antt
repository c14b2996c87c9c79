use Rattle.std.proofs.Common.{refl, sym, ◌∙◌}
use Rattle.opt_merge.proofs.Marking.{marks_nothing, marks_one}
use Rattle.opt_merge.proofs.entries.Entries.mark.Goals as goal

pub returns-in_ok-put-in-Some : goal.returns-in_ok-put-in-Some
returns-in_ok-put-in-Some c = record {
  marks = marks_one c.args.self.now _ c.args.place c.length_at-length.result c.length_at-length.ensures.value c.in_ok-put-in-Some.ensures.own c.in_ok-put-in-Some.ensures.stays refl refl refl refl;
}

pub returns-in-None : goal.returns-in-None
returns-in-None c = record { marks = marks_nothing c.args.self.now c.args.place (sym c.kind_at.ensures.value ∙ c.in-None.is) }
