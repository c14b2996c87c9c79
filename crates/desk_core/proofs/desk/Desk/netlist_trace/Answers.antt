use Rattle.build_crew.specs.Kept.{kept_by}
use Rattle.desk_core.proofs.Ended.{ended_claims, ended_returns, ended_sound, ended_state, marked_all}
use Rattle.desk_core.proofs.Outcomes.{outcomes_cold}
use Rattle.desk_core.proofs.Shaping.{shaped_netlist}
use Rattle.desk_core.proofs.Simulating.{done_few, within_told}
use Rattle.desk_core.proofs.Told.{answered, claims_seen, returns_seen, ticks_seen}
use Rattle.desk_core.specs.Answers.{netlist_reply}
use Rattle.desk_core.specs.Netlist.{built_count, built_words, key_texts}
use Rattle.desk_core.specs.Netlist.{done_modules, netlist_answer, netlist_of}
use Rattle.desk_core.specs.Results.{outcomes_of, state_of}
use Rattle.desk_core.specs.Shaped.{IsShaped}
use Rattle.desk_core.specs.State.{DeskView, State, answer}
use Rattle.net_model.specs.Within.{Each}
use Rattle.rtl_ir.specs.Faults.Recursion.{place_named}
use Rattle.rtl_ir.specs.Types.{module_named}
use Rattle.script_core.specs.declared.built.Built.{Built}
use Rattle.script_core.specs.declared.outcome.Outcome.{Outcome}
use Rattle.std.proofs.Common.{◌≡◌, ◌<◌, List, Option, length, sym, ap, subst, ◌∙◌, arith}
use Rattle.std.specs.Prelude.{Some}
use Rattle.desk_core.proofs.desk.Desk.netlist_trace.Goals as goal

pub trace_reply-requires-clause-in_range : goal.trace_reply-requires-clause-in_range
trace_reply-requires-clause-in_range g c = λ built.
    let s = state_of c.self.inside.present.design.design c.self.inside.present.script c.self.inside.results in
    let outcomes =
    ap (λ (fs : List (Option Built)). outcomes_of c.self.inside.present.design.design.modules fs) c.as_slice-found.ensures.value
    ∙ outcomes_cold c.self.inside.present.design.design c.self.inside.present.script c.tell.new.results c.tell.ensures.sound c.in_ok-told.ensures.found in
    let same = ap (λ (t : DeskView). length t.state.design.modules) c.self.view_is in
    let inside : c.args.at < length s.design.modules = omega (arith, same, c.requires.in_range) in
    within_told s c.in_ok-told.told c.in_ok-told.ensures.told built (done_modules (outcomes_of c.self.inside.present.design.design.modules c.as_slice-found.result.now)) c.args.at (ap done_modules outcomes) inside

pub trace_reply-requires-clause-small : goal.trace_reply-requires-clause-small
trace_reply-requires-clause-small g c =
    let outcomes =
    ap (λ (fs : List (Option Built)). outcomes_of c.self.inside.present.design.design.modules fs) c.as_slice-found.ensures.value
    ∙ outcomes_cold c.self.inside.present.design.design c.self.inside.present.script c.tell.new.results c.tell.ensures.sound c.in_ok-told.ensures.found in
    let count = ap (λ (os : List Outcome). length (done_modules os)) outcomes in
    let few = done_few c.self.inside.present.script c.self.inside.present.design.design in
    let small = c.self.invariant.readable.count in
    omega (arith, count, few, small)

pub trace_reply-requires-clause-gates : goal.trace_reply-requires-clause-gates
trace_reply-requires-clause-gates g c =
    let outcomes =
    ap (λ (fs : List (Option Built)). outcomes_of c.self.inside.present.design.design.modules fs) c.as_slice-found.ensures.value
    ∙ outcomes_cold c.self.inside.present.design.design c.self.inside.present.script c.tell.new.results c.tell.ensures.sound c.in_ok-told.ensures.found in
    let design = c.self.inside.present.design in
    subst (λ (os : List Outcome). Each IsShaped (done_modules os)) (sym outcomes)
    (shaped_netlist design.design c.self.inside.present.script c.self.invariant.readable design.faultless c.as_slice-words.ensures.script)

pub end-requires-clause-seats : goal.end-requires-clause-seats
end-requires-clause-seats g c = c.tell.ensures.sound.idle

pub end-requires-clause-beside : goal.end-requires-clause-beside
end-requires-clause-beside g c =
    marked_all (key_texts c.self.inside.present.script c.self.inside.present.design.design.modules) c.tell.new.results.ages c.in_ok-told.needed c.tell.ensures.sound.aged.beside c.in_ok-told.ensures.needed

pub invariant_of-self-2 : goal.invariant_of-self-2
invariant_of-self-2 g c =
    ended_sound c.self.inside.present.design.design c.self.inside.present.script c.tell.new.results c.end.new.self c.in_ok-told.needed c.tell.ensures.sound c.in_ok-told.ensures.needed c.end.ensures.keys c.end.ensures.ages
    (kept_by c.self.inside.results.seats.items) c.in_ok-told.ensures.filled c.end.ensures.seats c.end.ensures.found c.end.ensures.kept

pub returns-clause-ok : goal.returns-clause-ok
returns-clause-ok g c = λ name there.
    let s = state_of c.self.inside.present.design.design c.self.inside.present.script c.self.inside.results in
    let same : s ≡ c.args.self.now.state = ap (λ (v : DeskView). v.state) c.self.view_is in
    let after = state_of c.self.inside.present.design.design c.self.inside.present.script c.end.new.self in
    let kept = ended_state c.self.inside.present.design.design c.self.inside.present.script c.tell.new.results c.end.new.self c.in_ok-told.needed c.tell.ensures.sound c.in_ok-told.ensures.needed c.end.ensures.keys c.end.ensures.ages s c.tell.ensures.state in
    let outcomes =
    ap (λ (fs : List (Option Built)). outcomes_of c.self.inside.present.design.design.modules fs) c.as_slice-found.ensures.value
    ∙ outcomes_cold c.self.inside.present.design.design c.self.inside.present.script c.tell.new.results c.tell.ensures.sound c.in_ok-told.ensures.found in
    let place : place_named c.self.inside.present.design.design.modules name ≡ Some c.args.at = ap (λ (t : State). place_named t.design.modules name) same ∙ there in
    let reply_of = λ (t : State). netlist_reply t c.args.order name c.args.stimulus.now (module_named (netlist_of t).modules name) in
    subst (λ (t : State). answer c.in_ok-reply.reply after ≡ netlist_answer t (reply_of t)) same
    (answered s after c.in_ok-reply.reply (reply_of s) (c.in_ok-reply.ensures.value s name c.in_ok-told.ensures.told outcomes place) kept)

pub returns-clause-claims : goal.returns-clause-claims
returns-clause-claims g c =
    claims_seen c.self.inside.present.design.design c.self.inside.present.script c.self.inside.results c.args.self.now c.self.view_is c.end.new.self.seats.items
    (ended_claims (key_texts c.self.inside.present.script c.self.inside.present.design.design.modules) c.self.inside.results.seats.items c.tell.new.results.seats.items c.end.new.self.seats.items c.in_ok-told.ensures.claims c.end.ensures.claims)

pub returns-clause-ticks : goal.returns-clause-ticks
returns-clause-ticks g c = ticks_seen c.self.inside.present.design.design c.self.inside.present.script c.self.inside.results c.args.self.now c.self.view_is c.args.meter.now c.tell.new.meter c.in_ok-told.ensures.ticks

pub returns-clause-returned : goal.returns-clause-returned
returns-clause-returned g c =
    returns_seen c.self.inside.present.design.design c.self.inside.present.script c.self.inside.results c.args.self.now c.self.view_is c.end.new.self.seats.items c.args.meter.now c.tell.new.meter
    (ended_returns (built_count (state_of c.self.inside.present.design.design c.self.inside.present.script c.self.inside.results)) c.self.inside.results.seats.items c.tell.new.results.seats.items c.end.new.self.seats.items c.args.meter.now c.tell.new.meter c.tell.ensures.returned c.end.ensures.given)
