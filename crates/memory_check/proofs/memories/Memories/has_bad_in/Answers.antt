use Rattle.std.proofs.Common.{[], ◌∷◌, ◌++◌, ◌<◌, ◌≤◌, ◌∙◌, true, ap, get_or, length, subst, sym, take, take_all, flat_map}
use Rattle.std.proofs.lemmas.Bool.{true≢false}
use Rattle.std.proofs.lemmas.List.{drop_all}
use Rattle.rtl_ir.specs.declared.process.WriteLine.{WriteLine}
use Rattle.rtl_ir.specs.Faults.Processes.{has_bad_line}
use Rattle.memory_check.specs.Memories.{KnowsLines}
use Rattle.memory_check.specs.Ports.{line_of}
use Rattle.memory_check.proofs.Behind.{alone, bad_here, good_here, one_by_one, taken}
use Rattle.memory_check.proofs.memories.Memories.has_bad_in.Goals as goal

pub loop-line-preserved : goal.loop-line-preserved
loop-line-preserved c = λ m before knows.
    let i = c.loop-line.line-index in
    let ws = c.args.rule.now.writes in
    let x = c.line-item.result in
    let f = λ (k : WriteLine). line_of c.args.rule.now.event k ∷ [] in
    let are = c.as_slice-line-items.ensures.value in
    let lt = subst (λ ls. i < length ls) are c.loop-line-test.true in
    let is = c.line-item.is ∙ ap (λ ls. get_or ls i x) are in
    let so = c.loop-line.invariant m before knows in
    let behind = before ++ flat_map f (take i ws) in
    let good = sym (c.in_ok-is_bad_line.ensures.bad m behind so.0) ∙ c.if-branch.false in (
      subst (KnowsLines c.is_bad_line.new.self m) (sym (taken f m before ws i x lt is)) (c.in_ok-is_bad_line.ensures.noted c.if-branch.false m behind so.0),
      good_here f m before ws i x lt is _ so.1 (alone m behind (line_of c.args.rule.now.event x) _ good),
    )

pub returns-then-branch : goal.returns-then-branch
returns-then-branch c =
    let i = c.loop-line.line-index in
    let ws = c.args.rule.now.writes in
    let x = c.line-item.result in
    let f = λ (k : WriteLine). line_of c.args.rule.now.event k ∷ [] in
    let are = c.as_slice-line-items.ensures.value in
    let lt = subst (λ ls. i < length ls) are c.loop-line-test.true in
    let is = c.line-item.is ∙ ap (λ ls. get_or ls i x) are in
    record {
      bad = λ m before knows.
          let so = c.loop-line.invariant m before knows in
          let behind = before ++ flat_map f (take i ws) in
          let bad = sym (c.in_ok-is_bad_line.ensures.bad m behind so.0) ∙ c.if-branch.true in
          bad_here f m before ws i x lt is _ so.1 (alone m behind (line_of c.args.rule.now.event x) _ bad) ∙ ap (has_bad_line true m before) (one_by_one (line_of c.args.rule.now.event) ws);
      noted = λ good m before knows. absurd (true≢false good);
    }

pub returns : goal.returns
returns c =
    let i = c.loop-line.line-index in
    let ws = c.args.rule.now.writes in
    let f = λ (k : WriteLine). line_of c.args.rule.now.event k ∷ [] in
    let past = subst (λ ls. length ls ≤ i) c.as_slice-line-items.ensures.value c.loop-line-test.false in
    record {
      bad = λ m before knows.
          let so = c.loop-line.invariant m before knows in
          (λ j. has_bad_line true m (before ++ flat_map f (take i ws)) (flat_map f (sym (drop_all i ws past) j))) ∙ so.1 ∙ ap (has_bad_line true m before) (one_by_one (line_of c.args.rule.now.event) ws);
      noted = λ good m before knows.
          subst (λ ls. KnowsLines c.loop-line.self m (before ++ ls)) (ap (flat_map f) (take_all i ws past) ∙ one_by_one (line_of c.args.rule.now.event) ws) (c.loop-line.invariant m before knows).0;
    }
