use Rattle.std.proofs.Common.{refl, subst, sym}
use Rattle.std.specs.Prelude.{OnOk}
use Rattle.desk_read.specs.declared.command.Command.{Command}
use Rattle.desk_core.specs.Ages.{texts_of}
use Rattle.desk_core.specs.Builds.{asked_by, builds_of}
use Rattle.desk_core.specs.Solo.{Builds}
use Rattle.desk_core.proofs.OwnCalls.{builds_none}
use Rattle.desk_core.proofs.Rises.{rises_none}
use Rattle.desk_core.proofs.SoloPresent.{own_keeps, own_present, own_step}
use Rattle.desk_core.proofs.Told.{on_ok}
use Rattle.desk_core.proofs.solo.SoloDesk.command.Goals as goal

pub invariant_of-self : goal.invariant_of-self
invariant_of-self g c = own_present c.self.inside.present c.answer.new.self c.self.inside.results c.answer.new.found c.self.invariant c.answer.ensures.present

pub returns-in_default : goal.returns-in_default
returns-in_default g c =
    let p = c.self.inside.present in
    let results = c.self.inside.results in
    let v = c.args.self.now in
    let command = c.args.command.now in record {
      idle = c.requires.idle;
      step = own_step p c.answer.new.self results c.answer.new.found v c.answer.result c.self.view_is command c.answer.ensures.step;
      builds = rises_none (builds_of command v) c.args.meter.now c.args.meter.now refl;
      built = on_ok c.answer.result (builds_none (texts_of v.kept) (asked_by command v) c.args.seat.now c.args.seat.now c.args.meter.now c.args.meter.now refl refl);
      err = own_keeps p c.answer.new.self results c.answer.new.found v c.answer.result c.self.view_is c.answer.ensures.err;
    }

pub returns-in-SimNetlist-clause-built : goal.returns-in-SimNetlist-clause-built
returns-in-SimNetlist-clause-built g c =
    subst (λ (command : Command). OnOk c.run_netlist.result (Builds (texts_of c.args.self.now.kept) (asked_by command c.args.self.now) c.args.seat.now c.run_netlist.new.seat c.args.meter.now c.run_netlist.new.meter))
    (sym c.in-SimNetlist.is) c.run_netlist.ensures.built
