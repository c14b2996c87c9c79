use Rattle.std.proofs.Common.{[], ◌∷◌, Some, refl, sym, subst}
use Rattle.result_cache.specs.Filled.{filled_keys}
use Rattle.script_core.specs.Built.{IsValueOf}
use Rattle.script_core.specs.Keys.{KeyParts}
use Rattle.desk_core.specs.Netlist.{key_text_at}
use Rattle.desk_core.proofs.Lists.{set_got}
use Rattle.desk_core.proofs.OwnCalls.{builds_none}
use Rattle.desk_core.proofs.OwnResults.{found_known, known_beside, own_found, own_same}
use Rattle.desk_core.proofs.own_results.find_at.Goals as goal

pub returns-then-is_some-clause-filled : goal.returns-then-is_some-clause-filled
returns-then-is_some-clause-filled g c =
    let design = c.args.order.now.keys.now.design.now.design in
    let script = c.args.order.now.keys.now.script.now in
    let results = c.args.results.now in
    let one = known_beside design script (filled_keys results.shard) results.found.items c.args.order.now.at c.index.result.now c.requires.own.stand c.requires.asked.in_range c.index.ensures (sym c.if-is_some.ensures) in
    sym (found_known design script results c.args.order.now.at one.0 c.requires.own one.1)

pub returns-then-is_some-clause-found : goal.returns-then-is_some-clause-found
returns-then-is_some-clause-found g c =
    let design = c.args.order.now.keys.now.design.now.design in
    let script = c.args.order.now.keys.now.script.now in
    let results = c.args.results.now in
    let one = known_beside design script (filled_keys results.shard) results.found.items c.args.order.now.at c.index.result.now c.requires.own.stand c.requires.asked.in_range c.index.ensures (sym c.if-is_some.ensures) in
    (one.0, sym (set_got results.found.items c.args.order.now.at (Some one.0) one.1))

pub returns-then-is_some-clause-built : goal.returns-then-is_some-clause-built
returns-then-is_some-clause-built g c =
    builds_none (filled_keys c.args.results.now.shard) (key_text_at c.args.order.now.keys.now.script.now c.args.order.now.keys.now.design.now.design.modules c.args.order.now.at ∷ []) c.args.seat.now c.args.seat.now c.args.meter.now c.args.meter.now refl refl

pub returns-in_err-result-clause-own : goal.returns-in_err-result-clause-own
returns-in_err-result-clause-own g c =
    own_same c.args.order.now.keys.now.design.now.design c.args.order.now.keys.now.script.now c.args.results.now _ c.requires.own c.take.ensures.free refl refl c.in_err-result.ensures.err

pub returns-in_err-result-clause-ticks : goal.returns-in_err-result-clause-ticks
returns-in_err-result-clause-ticks g c = c.take.ensures.ticks

pub returns-clause-own : goal.returns-clause-own
returns-clause-own g c =
    let own = c.in_ok-result.ensures.key in
    own_found c.args.order.now.keys.now.design.now.design c.args.order.now.keys.now.script.now c.args.results.now _ c.requires.own c.take.ensures.free refl c.args.order.now.at c.in_ok-result.result c.requires.asked.in_range refl
    c.in_ok-result.ensures.filled own
    (subst (λ (k : KeyParts). IsValueOf k c.in_ok-result.result.outcome) (sym own) c.in_ok-result.ensures.value)

pub returns-clause-found : goal.returns-clause-found
returns-clause-found g c = (c.in_ok-result.result, refl)

pub returns-clause-built : goal.returns-clause-built
returns-clause-built g c = c.in_ok-result.ensures.built

pub returns-clause-ticks : goal.returns-clause-ticks
returns-clause-ticks g c = c.take.ensures.ticks
