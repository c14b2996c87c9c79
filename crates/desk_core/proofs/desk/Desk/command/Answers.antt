use Rattle.std.proofs.Common.{ap, refl}
use Rattle.desk_core.specs.Builds.{builds_of}
use Rattle.desk_core.specs.State.{DeskView}
use Rattle.desk_core.proofs.Changing.{claims_plain, kept_seen, plain, sound_present, step_seen}
use Rattle.desk_core.proofs.Rises.{returns_none, rises_none}
use Rattle.desk_core.proofs.Told.{on_ok}
use Rattle.desk_core.proofs.desk.Desk.command.Goals as goal

pub invariant_of-self : goal.invariant_of-self
invariant_of-self g c =
    sound_present c.self.inside.present c.answer.new.self c.self.inside.results c.answer.new.found c.self.invariant c.answer.ensures.present

pub returns-in_default : goal.returns-in_default
returns-in_default g c =
    let p = c.self.inside.present in
    let results = c.self.inside.results in
    let v = c.args.self.now in
    let command = c.args.command.now in
    let seats = ap (λ (w : DeskView). w.seats) c.self.view_is in
    let none = plain command c.in_default.not-Run c.in_default.not-Print c.in_default.not-SimNetlist in record {
      step = step_seen p c.answer.new.self results c.answer.new.found v c.answer.result c.self.view_is command c.answer.ensures.step;
      builds = on_ok c.answer.result (rises_none (builds_of command v.state) c.args.meter.now c.args.meter.now refl);
      claims = on_ok c.answer.result (claims_plain command v.state v.seats results.seats.items none seats);
      err = kept_seen p c.answer.new.self results c.answer.new.found v c.answer.result c.self.view_is c.answer.ensures.err;
      returned = returns_none (builds_of command v.state) v.seats results.seats.items c.args.meter.now c.args.meter.now seats refl;
    }
