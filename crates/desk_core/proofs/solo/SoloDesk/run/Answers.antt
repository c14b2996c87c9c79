use Rattle.std.proofs.Common.{◌≡◌, subst}
use Rattle.reply_lines.specs.Lines.{ok_line, ok_reply}
use Rattle.result_cache.specs.Filled.{filled_keys}
use Rattle.desk_core.specs.Answers.{run_answer}
use Rattle.desk_core.specs.Netlist.{built_words, key_texts}
use Rattle.desk_core.specs.Solo.{own_state}
use Rattle.desk_core.specs.State.{State, answer}
use Rattle.desk_core.proofs.Ended.{marked_all}
use Rattle.desk_core.proofs.SoloRuns.{own_ended, own_ended_state, solo_builds, solo_rises}
use Rattle.desk_core.proofs.Told.{answered}
use Rattle.desk_core.proofs.solo.SoloDesk.run.Goals as goal

pub end-requires-clause-free : goal.end-requires-clause-free
end-requires-clause-free g c = c.tell.ensures.own.free

pub end-requires-clause-beside : goal.end-requires-clause-beside
end-requires-clause-beside g c =
    marked_all (key_texts c.self.inside.present.script c.self.inside.present.design.design.modules) c.tell.new.results.ages c.in_ok-told.needed c.tell.ensures.own.aged.beside c.in_ok-told.ensures.needed

pub invariant_of-self-2 : goal.invariant_of-self-2
invariant_of-self-2 g c =
    own_ended c.self.inside.present.design.design c.self.inside.present.script c.tell.new.results c.end.new.self c.in_ok-told.needed c.tell.ensures.own c.in_ok-told.ensures.needed c.end.ensures.keys c.end.ensures.ages
    (filled_keys c.self.inside.results.shard) c.in_ok-told.ensures.filled c.end.ensures.free c.end.ensures.found c.end.ensures.kept

pub returns-clause-ok : goal.returns-clause-ok
returns-clause-ok g c =
    let s = own_state c.self.inside.present.design.design c.self.inside.present.script c.self.inside.results in
    let after = own_state c.self.inside.present.design.design c.self.inside.present.script c.end.new.self in
    let kept = own_ended_state c.self.inside.present.design.design c.self.inside.present.script c.tell.new.results c.end.new.self c.in_ok-told.needed c.tell.ensures.own c.in_ok-told.ensures.needed c.end.ensures.keys c.end.ensures.ages s c.tell.ensures.state in
    subst (λ (t : State). answer c.in_ok-reply.reply after ≡ run_answer t) c.self.view_is
    (answered s after c.in_ok-reply.reply (ok_reply (ok_line (built_words s))) (c.in_ok-reply.ensures.value s c.in_ok-told.ensures.told) kept)

pub returns-clause-built : goal.returns-clause-built
returns-clause-built g c =
    solo_builds c.self.inside.present.design.design c.self.inside.present.script c.self.inside.results c.args.self.now c.self.view_is c.args.seat.now c.tell.new.seat c.args.meter.now c.tell.new.meter c.self.invariant c.in_ok-told.ensures.built

pub returns-clause-ticks : goal.returns-clause-ticks
returns-clause-ticks g c = solo_rises c.self.inside.present.design.design c.self.inside.present.script c.self.inside.results c.args.self.now c.self.view_is c.args.meter.now c.tell.new.meter c.tell.ensures.ticks

pub returns-in_err-reply-clause-ticks : goal.returns-in_err-reply-clause-ticks
returns-in_err-reply-clause-ticks g c = solo_rises c.self.inside.present.design.design c.self.inside.present.script c.self.inside.results c.args.self.now c.self.view_is c.args.meter.now c.tell.new.meter c.tell.ensures.ticks

pub returns-in_err-told-clause-ticks : goal.returns-in_err-told-clause-ticks
returns-in_err-told-clause-ticks g c = solo_rises c.self.inside.present.design.design c.self.inside.present.script c.self.inside.results c.args.self.now c.self.view_is c.args.meter.now c.tell.new.meter c.tell.ensures.ticks
