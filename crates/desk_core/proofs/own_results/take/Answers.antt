use denote.Param.Send.{sendable}
use Rattle.std.proofs.Common.{◌≡◌, [], ◌∷◌, true, false, refl, sym, ap, subst, ◌∙◌}
use Rattle.std.proofs.lemmas.Result.{on_err_weaker, on_ok_weaker}
use Rattle.rtl_sig.specs.Names.{has_name}
use Rattle.result_cache.specs.Claims.{Claimed, IfHit}
use Rattle.result_cache.specs.Filled.{filled_keys}
use Rattle.result_cache.specs.declared.shard.Claim.{Claim}
use Rattle.result_cache.proofs.FilledKeys.{none_after_hit}
use Rattle.script_core.specs.declared.built.Built.{Built}
use Rattle.script_core.specs.Built.{IsValueOf}
use Rattle.script_core.specs.Keys.{KeyParts, key_text}
use Rattle.desk_core.specs.Asked.{asked_key}
use Rattle.desk_core.specs.Standing.{StandsFor}
use Rattle.desk_core.proofs.Sending.{kept_send}
use Rattle.desk_core.proofs.OwnShard.{alone_claimed, back_filled, fill_filled, free_unknown, held_claimed, hit_filled, hit_known, ticks_new}
use Rattle.desk_core.proofs.OwnCalls.{builds_none, builds_one}
use Rattle.desk_core.proofs.own_results.take.Goals as goal

pub shards_are_sound-requires-send-V : goal.shards_are_sound-requires-send-V
shards_are_sound-requires-send-V g c κs = search (sendable, kept_send)

pub claim-requires-send-V : goal.claim-requires-send-V
claim-requires-send-V g c κs = search (sendable, kept_send)

pub returns-in-Hit-clause-key : goal.returns-in-Hit-clause-key
returns-in-Hit-clause-key g c =
    (c.in_ok-text.ensures.answers c.in-Hit.result (subst (λ (k : Claim Built). IfHit k (λ built. StandsFor built c.in_ok-text.text)) c.in-Hit.is c.in_ok-claim.ensures.stands)).0

pub returns-in-Hit-clause-value : goal.returns-in-Hit-clause-value
returns-in-Hit-clause-value g c =
    let answer = c.in_ok-text.ensures.answers c.in-Hit.result (subst (λ (k : Claim Built). IfHit k (λ built. StandsFor built c.in_ok-text.text)) c.in-Hit.is c.in_ok-claim.ensures.stands) in
    subst (λ (k : KeyParts). IsValueOf k c.in-Hit.result.outcome) answer.0 answer.1

pub returns-in-Hit-clause-free : goal.returns-in-Hit-clause-free
returns-in-Hit-clause-free g c =
    let call = subst (λ (k : Claim Built). Claimed c.args.shard.now c.claim.new.self 0 c.in_ok-text.text k) c.in-Hit.is c.in_ok-claim.ensures.ok in
    none_after_hit c.args.shard.now c.claim.new.self 0 call.0 c.in_ok-text.text c.requires.free call.3

pub returns-in-Hit-clause-filled : goal.returns-in-Hit-clause-filled
returns-in-Hit-clause-filled g c =
    let call = subst (λ (k : Claim Built). Claimed c.args.shard.now c.claim.new.self 0 c.in_ok-text.text k) c.in-Hit.is c.in_ok-claim.ensures.ok in
    let known : has_name (filled_keys c.args.shard.now) (key_text (asked_key c.args.order.now)) ≡ true =
    ap (has_name (filled_keys c.args.shard.now)) (sym c.in_ok-text.ensures.value) ∙ hit_known c.args.shard.now c.in_ok-text.text c.in-Hit.result call.2 in
    hit_filled c.args.shard.now c.claim.new.self (key_text (asked_key c.args.order.now)) c.claim.ensures.values known

pub returns-in-Hit-clause-built : goal.returns-in-Hit-clause-built
returns-in-Hit-clause-built g c =
    builds_none (filled_keys c.args.shard.now) (key_text (asked_key c.args.order.now) ∷ []) c.args.seat.now c.args.seat.now c.args.meter.now c.args.meter.now refl refl

pub fill-requires-clause-held : goal.fill-requires-clause-held
fill-requires-clause-held g c =
    let call = subst (λ (k : Claim Built). Claimed c.args.shard.now c.claim.new.self 0 c.in_ok-text.text k) c.in-Yours.is c.in_ok-claim.ensures.ok in
    held_claimed c.args.shard.now c.claim.new.self c.in-Yours.ticket.key c.in_ok-text.text call.2 call.3

pub fill-requires-clause-alone : goal.fill-requires-clause-alone
fill-requires-clause-alone g c =
    let call = subst (λ (k : Claim Built). Claimed c.args.shard.now c.claim.new.self 0 c.in_ok-text.text k) c.in-Yours.is c.in_ok-claim.ensures.ok in
    alone_claimed c.args.shard.now c.claim.new.self c.in-Yours.ticket.key c.in_ok-text.text call.2 c.requires.free call.3

pub returns-in-Yours-clause-filled : goal.returns-in-Yours-clause-filled
returns-in-Yours-clause-filled g c =
    on_ok_weaker c.fill.result (fill_filled c.args.shard.now c.claim.new.self c.fill.new.shard (key_text (asked_key c.args.order.now)) c.claim.ensures.values) c.fill.ensures.filled

pub returns-in-Yours-clause-err : goal.returns-in-Yours-clause-err
returns-in-Yours-clause-err g c =
    on_err_weaker c.fill.result (back_filled c.args.shard.now c.claim.new.self c.fill.new.shard c.claim.ensures.values) c.fill.ensures.err

pub returns-in-Yours-clause-built : goal.returns-in-Yours-clause-built
returns-in-Yours-clause-built g c =
    let call = subst (λ (k : Claim Built). Claimed c.args.shard.now c.claim.new.self 0 c.in_ok-text.text k) c.in-Yours.is c.in_ok-claim.ensures.ok in
    let unknown : has_name (filled_keys c.args.shard.now) (key_text (asked_key c.args.order.now)) ≡ false =
    ap (has_name (filled_keys c.args.shard.now)) (sym c.in_ok-text.ensures.value)
    ∙ free_unknown c.args.shard.now c.in_ok-text.text (c.shards_are_sound.ensures.filled c.in_ok-text.text) call.0 in
    on_ok_weaker c.fill.result (builds_one (filled_keys c.args.shard.now) (key_text (asked_key c.args.order.now)) c.args.seat.now c.fill.new.seat c.args.meter.now c.fill.new.meter unknown) c.fill.ensures.built

pub returns-in-Yours-clause-ticks : goal.returns-in-Yours-clause-ticks
returns-in-Yours-clause-ticks g c =
    let call = subst (λ (k : Claim Built). Claimed c.args.shard.now c.claim.new.self 0 c.in_ok-text.text k) c.in-Yours.is c.in_ok-claim.ensures.ok in
    let unknown : has_name (filled_keys c.args.shard.now) (key_text (asked_key c.args.order.now)) ≡ false =
    ap (has_name (filled_keys c.args.shard.now)) (sym c.in_ok-text.ensures.value)
    ∙ free_unknown c.args.shard.now c.in_ok-text.text (c.shards_are_sound.ensures.filled c.in_ok-text.text) call.0 in
    ticks_new (filled_keys c.args.shard.now) (key_text (asked_key c.args.order.now)) c.args.meter.now c.fill.new.meter unknown c.fill.ensures.ticks
