use Rattle.std.proofs.Common.{◌≡◌, ◌<◌, List, Option, length, sym, ap, subst, ◌∙◌, arith}
use Rattle.std.specs.Prelude.{Some}
use Rattle.net_model.specs.Within.{Each}
use Rattle.rtl_ir.specs.Faults.Recursion.{place_named}
use Rattle.rtl_ir.specs.Types.{module_named}
use Rattle.result_cache.specs.Filled.{filled_keys}
use Rattle.script_core.specs.declared.built.Built.{Built}
use Rattle.script_core.specs.declared.outcome.Outcome.{Outcome}
use Rattle.desk_core.specs.Answers.{netlist_reply}
use Rattle.desk_core.specs.Netlist.{done_modules, key_texts, netlist_answer, netlist_of}
use Rattle.desk_core.specs.Results.{outcomes_of}
use Rattle.desk_core.specs.Shaped.{IsShaped}
use Rattle.desk_core.specs.Solo.{own_state}
use Rattle.desk_core.specs.State.{State, answer}
use Rattle.desk_core.proofs.Ended.{marked_all}
use Rattle.desk_core.proofs.Outcomes.{outcomes_beside}
use Rattle.desk_core.proofs.Shaping.{shaped_netlist}
use Rattle.desk_core.proofs.Simulating.{done_few, within_told}
use Rattle.desk_core.proofs.SoloRuns.{own_ended, own_ended_state, solo_builds, solo_rises}
use Rattle.desk_core.proofs.Told.{answered}
use Rattle.desk_core.proofs.solo.SoloDesk.netlist_trace.Goals as goal

pub trace_reply-requires-clause-in_range : goal.trace_reply-requires-clause-in_range
trace_reply-requires-clause-in_range g c = λ built.
    let s = own_state c.self.inside.present.design.design c.self.inside.present.script c.self.inside.results in
    let outcomes =
    ap (λ (fs : List (Option Built)). outcomes_of c.self.inside.present.design.design.modules fs) c.as_slice-found.ensures.value
    ∙ outcomes_beside (filled_keys c.tell.new.results.shard) c.self.inside.present.design.design c.self.inside.present.script c.tell.new.results.found.items c.tell.ensures.own.stand c.in_ok-told.ensures.found in
    let same = ap (λ (t : State). length t.design.modules) c.self.view_is in
    let inside : c.args.at < length s.design.modules = omega (arith, same, c.requires.in_range) in
    within_told s c.in_ok-told.told c.in_ok-told.ensures.told built (done_modules (outcomes_of c.self.inside.present.design.design.modules c.as_slice-found.result.now)) c.args.at (ap done_modules outcomes) inside

pub trace_reply-requires-clause-small : goal.trace_reply-requires-clause-small
trace_reply-requires-clause-small g c =
    let outcomes =
    ap (λ (fs : List (Option Built)). outcomes_of c.self.inside.present.design.design.modules fs) c.as_slice-found.ensures.value
    ∙ outcomes_beside (filled_keys c.tell.new.results.shard) c.self.inside.present.design.design c.self.inside.present.script c.tell.new.results.found.items c.tell.ensures.own.stand c.in_ok-told.ensures.found in
    let count = ap (λ (os : List Outcome). length (done_modules os)) outcomes in
    let few = done_few c.self.inside.present.script c.self.inside.present.design.design in
    let small = c.self.invariant.stand.readable.count in
    omega (arith, count, few, small)

pub trace_reply-requires-clause-gates : goal.trace_reply-requires-clause-gates
trace_reply-requires-clause-gates g c =
    let outcomes =
    ap (λ (fs : List (Option Built)). outcomes_of c.self.inside.present.design.design.modules fs) c.as_slice-found.ensures.value
    ∙ outcomes_beside (filled_keys c.tell.new.results.shard) c.self.inside.present.design.design c.self.inside.present.script c.tell.new.results.found.items c.tell.ensures.own.stand c.in_ok-told.ensures.found in
    let design = c.self.inside.present.design in
    subst (λ (os : List Outcome). Each IsShaped (done_modules os)) (sym outcomes)
    (shaped_netlist design.design c.self.inside.present.script c.self.invariant.stand.readable design.faultless c.as_slice-words.ensures.script)

pub end-requires-clause-free : goal.end-requires-clause-free
end-requires-clause-free g c = c.tell.ensures.own.free

pub end-requires-clause-beside : goal.end-requires-clause-beside
end-requires-clause-beside g c =
    marked_all (key_texts c.self.inside.present.script c.self.inside.present.design.design.modules) c.tell.new.results.ages c.in_ok-told.needed c.tell.ensures.own.aged.beside c.in_ok-told.ensures.needed

pub invariant_of-self-2 : goal.invariant_of-self-2
invariant_of-self-2 g c =
    own_ended c.self.inside.present.design.design c.self.inside.present.script c.tell.new.results c.end.new.self c.in_ok-told.needed c.tell.ensures.own c.in_ok-told.ensures.needed c.end.ensures.keys c.end.ensures.ages
    (filled_keys c.self.inside.results.shard) c.in_ok-told.ensures.filled c.end.ensures.free c.end.ensures.found c.end.ensures.kept

pub returns-clause-ok : goal.returns-clause-ok
returns-clause-ok g c = λ name there.
    let s = own_state c.self.inside.present.design.design c.self.inside.present.script c.self.inside.results in
    let after = own_state c.self.inside.present.design.design c.self.inside.present.script c.end.new.self in
    let kept = own_ended_state c.self.inside.present.design.design c.self.inside.present.script c.tell.new.results c.end.new.self c.in_ok-told.needed c.tell.ensures.own c.in_ok-told.ensures.needed c.end.ensures.keys c.end.ensures.ages s c.tell.ensures.state in
    let outcomes =
    ap (λ (fs : List (Option Built)). outcomes_of c.self.inside.present.design.design.modules fs) c.as_slice-found.ensures.value
    ∙ outcomes_beside (filled_keys c.tell.new.results.shard) c.self.inside.present.design.design c.self.inside.present.script c.tell.new.results.found.items c.tell.ensures.own.stand c.in_ok-told.ensures.found in
    let place : place_named c.self.inside.present.design.design.modules name ≡ Some c.args.at = ap (λ (t : State). place_named t.design.modules name) c.self.view_is ∙ there in
    let reply_of = λ (t : State). netlist_reply t c.args.order name c.args.stimulus.now (module_named (netlist_of t).modules name) in
    subst (λ (t : State). answer c.in_ok-reply.reply after ≡ netlist_answer t (reply_of t)) c.self.view_is
    (answered s after c.in_ok-reply.reply (reply_of s) (c.in_ok-reply.ensures.value s name c.in_ok-told.ensures.told outcomes place) kept)

pub returns-clause-built : goal.returns-clause-built
returns-clause-built g c =
    solo_builds c.self.inside.present.design.design c.self.inside.present.script c.self.inside.results c.args.self.now c.self.view_is c.args.seat.now c.tell.new.seat c.args.meter.now c.tell.new.meter c.self.invariant c.in_ok-told.ensures.built

pub returns-clause-ticks : goal.returns-clause-ticks
returns-clause-ticks g c = solo_rises c.self.inside.present.design.design c.self.inside.present.script c.self.inside.results c.args.self.now c.self.view_is c.args.meter.now c.tell.new.meter c.tell.ensures.ticks

pub returns-in_err-reply-clause-ticks : goal.returns-in_err-reply-clause-ticks
returns-in_err-reply-clause-ticks g c = solo_rises c.self.inside.present.design.design c.self.inside.present.script c.self.inside.results c.args.self.now c.self.view_is c.args.meter.now c.tell.new.meter c.tell.ensures.ticks

pub returns-in_err-told-clause-ticks : goal.returns-in_err-told-clause-ticks
returns-in_err-told-clause-ticks g c = solo_rises c.self.inside.present.design.design c.self.inside.present.script c.self.inside.results c.args.self.now c.self.view_is c.args.meter.now c.tell.new.meter c.tell.ensures.ticks
