use Rattle.std.proofs.Common.{◌≡◌, ◌+◌, ◌<◌, ◌∙◌, ℕ, [], length, refl, subst, arith}
use Rattle.result_cache.specs.Filled.{filled_keys, with_keys}
use Rattle.result_cache.proofs.NewKeys.{keys_below}
use Rattle.desk_core.specs.Netlist.{key_text_at}
use Rattle.desk_core.specs.Solo.{Builds}
use Rattle.desk_core.proofs.Finding.{key_there, keys_within}
use Rattle.desk_core.proofs.OwnCalls.{builds_none}
use Rattle.desk_core.proofs.OwnResults.{own_all, own_builds, own_first, own_more, own_still, own_ticks, own_within}
use Rattle.desk_core.proofs.Rises.{rises_none}
use Rattle.desk_core.proofs.Told.{on_err}
use Rattle.desk_core.proofs.own_results.find_own.Goals as goal

pub loop-at-init : goal.loop-at-init
loop-at-init g c = record {
  found = own_first c.args.results.now c.requires.own;
  idle = c.requires.idle;
  built = builds_none (filled_keys c.args.results.now.shard) [] c.args.seat.now c.args.seat.now c.args.meter.now c.args.meter.now refl refl;
  ticks = rises_none _ c.args.meter.now c.args.meter.now refl;
}

pub bounds-all-at : goal.bounds-all-at
bounds-all-at g c =
    let keys = c.args.keys.now in
    let within : c.loop-at.at < length keys.design.now.design.modules = omega arith in
    keys_within keys.design.now.design keys.table.now.modules.now keys.script.now c.args.all.now c.loop-at.at c.requires.keys within

pub find_at-requires-clause-asked : goal.find_at-requires-clause-asked
find_at-requires-clause-asked g c =
    let keys = c.args.keys.now in
    let within : c.loop-at.at < length keys.design.now.design.modules = omega arith in
    record {
      table = c.requires.keys.same;
      readable = c.requires.keys.readable;
      in_range = within;
      own = c.index-all-at.is ∙ key_there keys.design.now.design keys.table.now.modules.now keys.script.now c.args.all.now c.loop-at.at c.index-all-at.result c.requires.keys within;
    }

pub loop-at-preserved : goal.loop-at-preserved
loop-at-preserved g c =
    let modules = c.args.keys.now.design.now.design.modules in
    let within : c.loop-at.at < length modules = omega arith in
    let found = c.loop-at.invariant.found in
    record {
      found = own_more c.args.results.now c.loop-at.results c.find_at.new.results c.loop-at.at found within c.find_at.ensures.own c.find_at.ensures.ages c.in_ok-find_at.ensures.filled c.in_ok-find_at.ensures.found;
      idle = c.find_at.ensures.idle;
      built = own_builds c.args.results.now c.loop-at.results c.loop-at.at c.args.seat.now c.loop-at.seat c.find_at.new.seat c.args.meter.now c.loop-at.meter c.find_at.new.meter found c.loop-at.invariant.built c.in_ok-find_at.ensures.built;
      ticks = own_ticks c.args.results.now c.loop-at.results c.loop-at.at c.args.meter.now c.loop-at.meter c.find_at.new.meter found c.loop-at.invariant.ticks c.find_at.ensures.ticks;
    }

pub returns-in_err-find_at-clause-err : goal.returns-in_err-find_at-clause-err
returns-in_err-find_at-clause-err g c =
    on_err c.from_residual.result
    (own_still c.args.results.now c.loop-at.results c.loop-at.at (filled_keys c.find_at.new.results.shard) c.loop-at.invariant.found c.in_err-find_at.ensures.err)

pub returns-in_err-find_at-clause-ticks : goal.returns-in_err-find_at-clause-ticks
returns-in_err-find_at-clause-ticks g c =
    let modules = c.args.keys.now.design.now.design.modules in
    let within : c.loop-at.at < length modules = omega arith in
    own_within c.args.keys.now.design.now.design c.args.keys.now.script.now c.args.results.now (c.loop-at.at + 1) c.args.meter.now c.find_at.new.meter (omega (arith, within))
    (own_ticks c.args.results.now c.loop-at.results c.loop-at.at c.args.meter.now c.loop-at.meter c.find_at.new.meter c.loop-at.invariant.found c.loop-at.invariant.ticks c.find_at.ensures.ticks)

pub returns-clause-filled : goal.returns-clause-filled
returns-clause-filled g c =
    let design = c.args.keys.now.design.now.design in
    let all : c.loop-at.at ≡ length design.modules = omega arith in
    subst (λ (n : ℕ). filled_keys c.loop-at.results.shard ≡ with_keys (filled_keys c.args.results.now.shard) (keys_below (key_text_at c.args.keys.now.script.now design.modules) n)) all c.loop-at.invariant.found.filled

pub returns-clause-found : goal.returns-clause-found
returns-clause-found g c =
    let all : c.loop-at.at ≡ length c.args.keys.now.design.now.design.modules = omega arith in
    own_all c.args.results.now c.loop-at.results c.loop-at.at c.loop-at.invariant.found all

pub returns-clause-built : goal.returns-clause-built
returns-clause-built g c =
    let design = c.args.keys.now.design.now.design in
    let all : c.loop-at.at ≡ length design.modules = omega arith in
    subst (λ (n : ℕ). Builds (filled_keys c.args.results.now.shard) (keys_below (key_text_at c.args.keys.now.script.now design.modules) n) c.args.seat.now c.loop-at.seat c.args.meter.now c.loop-at.meter) all c.loop-at.invariant.built

pub returns-clause-ticks : goal.returns-clause-ticks
returns-clause-ticks g c =
    let all : c.loop-at.at ≡ length c.args.keys.now.design.now.design.modules = omega arith in
    own_within c.args.keys.now.design.now.design c.args.keys.now.script.now c.args.results.now c.loop-at.at c.args.meter.now c.loop-at.meter (omega (arith, all)) c.loop-at.invariant.ticks
