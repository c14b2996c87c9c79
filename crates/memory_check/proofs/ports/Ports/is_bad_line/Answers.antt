use Rattle.std.proofs.Common.{◌∙◌, refl, sym, ap}
use Rattle.memory_check.specs.Ports.{line_of, unlike}
use Rattle.memory_check.proofs.Noting.{line_noted}
use Rattle.memory_check.proofs.ports.Ports.is_bad_line.Goals as goal

pub returns-clause-noted : goal.returns-clause-noted
returns-clause-noted c = λ fine m s ports lines clocks has.
    let old = c.args.self.now in
    let own = c.of_event-clocking.ensures.value m.links in
    line_noted m.links old c.note.new.self s ports c.of_event-clocking.result lines (line_of c.args.event.now c.args.line.now) old.next refl own has
    (ap (unlike m.links old.first) (sym own) ∙ sym (c.in_ok-clashes.ensures.value m clocks) ∙ c.if-branch.false)
    c.note.ensures.store c.note.ensures.next c.note.ensures.first
