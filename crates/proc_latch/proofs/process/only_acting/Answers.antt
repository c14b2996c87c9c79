use Rattle.std.proofs.Common.{◌≡◌, ◌≤◌, ◌+◌, ◌-◌, length, drop, true, sym, ◌∙◌, ap, arith, length-drop, Some, None, if◌then◌else◌}
use Rattle.std.specs.List.{list_any}
use Rattle.std.proofs.lemmas.List.{take_all}
use Rattle.process_trees.specs.Acting.{acts}
use Rattle.proc_latch.proofs.Acting.{lone_at}
use Rattle.proc_latch.proofs.process.only_acting.Goals as goal

pub returns-then-acts : goal.returns-then-acts
returns-then-acts c =
    let rules = c.args.rules.now in
    let at = c.loop-at.at in
    let here : acts c.index-rules-at.result ≡ true = sym c.acts.ensures.value ∙ c.if-acts.true in
    let few : length (drop (at + 1) rules) ≤ length rules - (at + 1) = omega (arith, length-drop (at + 1) rules) in
    record {
      value =
          c.alone.ensures.value
          ∙ ap (λ others. if list_any acts others then None else Some c.index-rules-at.result) (take_all (length rules - (at + 1)) (drop (at + 1) rules) few)
          ∙ sym (lone_at rules at c.index-rules-at.result c.loop-at-test.true c.index-rules-at.is here c.loop-at.invariant);
    }
