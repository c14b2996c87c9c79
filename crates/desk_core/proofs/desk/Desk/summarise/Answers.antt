use Rattle.build_crew.specs.Kept.{kept_by}
use Rattle.desk_core.proofs.Ended.{ended_claims, ended_returns, ended_sound, ended_state, marked_all}
use Rattle.desk_core.proofs.Summing.{cells_cold}
use Rattle.desk_core.proofs.Told.{answered, claims_seen, returns_seen, ticks_seen}
use Rattle.desk_core.specs.Netlist.{built_count, built_words, key_texts}
use Rattle.desk_core.specs.Netlist.{netlist_of}
use Rattle.desk_core.specs.Results.{state_of}
use Rattle.desk_core.specs.State.{DeskView, State, answer}
use Rattle.desk_core.specs.Summary.{cells_found, cells_in, summary_answer, summary_line}
use Rattle.reply_lines.specs.Lines.{ok_reply}
use Rattle.std.proofs.Common.{◌≡◌, length, refl, ap, subst, ◌∙◌}
use Rattle.desk_core.proofs.desk.Desk.summarise.Goals as goal

pub end-requires-clause-seats : goal.end-requires-clause-seats
end-requires-clause-seats g c = c.tell.ensures.sound.idle

pub end-requires-clause-beside : goal.end-requires-clause-beside
end-requires-clause-beside g c =
    marked_all (key_texts c.self.inside.present.script c.self.inside.present.design.design.modules) c.tell.new.results.ages c.in_ok-told.needed c.tell.ensures.sound.aged.beside c.in_ok-told.ensures.needed

pub invariant_of-self-2 : goal.invariant_of-self-2
invariant_of-self-2 g c =
    ended_sound c.self.inside.present.design.design c.self.inside.present.script c.tell.new.results c.end.new.self c.in_ok-told.needed c.tell.ensures.sound c.in_ok-told.ensures.needed c.end.ensures.keys c.end.ensures.ages
    (kept_by c.self.inside.results.seats.items) c.in_ok-told.ensures.filled c.end.ensures.seats c.end.ensures.found c.end.ensures.kept

pub returns-clause-ok : goal.returns-clause-ok
returns-clause-ok g c =
    let s = state_of c.self.inside.present.design.design c.self.inside.present.script c.self.inside.results in
    let same : s ≡ c.args.self.now.state = ap (λ (v : DeskView). v.state) c.self.view_is in
    let after = state_of c.self.inside.present.design.design c.self.inside.present.script c.end.new.self in
    let kept = ended_state c.self.inside.present.design.design c.self.inside.present.script c.tell.new.results c.end.new.self c.in_ok-told.needed c.tell.ensures.sound c.in_ok-told.ensures.needed c.end.ensures.keys c.end.ensures.ages s c.tell.ensures.state in
    let cells =
    ap cells_found c.as_slice-found.ensures.value
    ∙ cells_cold c.self.inside.present.design.design c.self.inside.present.script c.tell.new.results c.tell.ensures.sound c.in_ok-told.ensures.found in
    subst (λ (t : State). answer c.in_ok-reply.reply after ≡ summary_answer t) same
    (answered s after c.in_ok-reply.reply (ok_reply (summary_line (length s.design.modules) (built_words s) (cells_in (netlist_of s).modules))) (c.in_ok-reply.ensures.value s c.in_ok-told.ensures.told refl cells) kept)

pub returns-clause-claims : goal.returns-clause-claims
returns-clause-claims g c =
    claims_seen c.self.inside.present.design.design c.self.inside.present.script c.self.inside.results c.args.self.now c.self.view_is c.end.new.self.seats.items
    (ended_claims (key_texts c.self.inside.present.script c.self.inside.present.design.design.modules) c.self.inside.results.seats.items c.tell.new.results.seats.items c.end.new.self.seats.items c.in_ok-told.ensures.claims c.end.ensures.claims)

pub returns-clause-ticks : goal.returns-clause-ticks
returns-clause-ticks g c = ticks_seen c.self.inside.present.design.design c.self.inside.present.script c.self.inside.results c.args.self.now c.self.view_is c.args.meter.now c.tell.new.meter c.in_ok-told.ensures.ticks

pub returns-clause-returned : goal.returns-clause-returned
returns-clause-returned g c =
    returns_seen c.self.inside.present.design.design c.self.inside.present.script c.self.inside.results c.args.self.now c.self.view_is c.end.new.self.seats.items c.args.meter.now c.tell.new.meter
    (ended_returns (built_count (state_of c.self.inside.present.design.design c.self.inside.present.script c.self.inside.results)) c.self.inside.results.seats.items c.tell.new.results.seats.items c.end.new.self.seats.items c.args.meter.now c.tell.new.meter c.tell.ensures.returned c.end.ensures.given)
