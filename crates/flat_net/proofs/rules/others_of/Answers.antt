use Rattle.std.proofs.Common.{◌≡◌, ◌+◌, Bool, true, false, not, [], ◌++◌, ◌∙◌, drop, ap, sym, Vec, Global}
use Rattle.std.specs.Prelude.{filter}
use Rattle.std.specs.Option.{is_some}
use Rattle.std.proofs.Math.ListN.{drop_of_length-le}
use Rattle.std.proofs.lemmas.List.{append-nil}
use Rattle.rtl_ir.specs.Follow.{source_at}
use Rattle.rtl_ir.specs.declared.follow.Join.{Join}
use Rattle.flat_net.proofs.Others.{goes_on, stays_on}
use Rattle.flat_net.proofs.rules.others_of.Goals as goal
use Rattle.flat_net.proofs.rules.others_of.Goals.{then-not-contains_key+in_ok-push, else-not-contains_key}

pub loop-line-preserved : goal.loop-line-preserved
loop-line-preserved c = λ js are.
    let is_left : Join → Bool = λ (j : Join). not (is_some (source_at js j.bit)) in
    let inv = c.loop-line.invariant js are in
    let asked = ap (λ o. not (is_some o)) (sym (are _)) ∙ ap not (sym c.contains_key.ensures) in
    elim c.if-not-contains_key.branch [
      | then-not-contains_key+in_ok-push w ↦
          ap (λ (v : Vec Join Global). v.items ++ filter is_left (drop (c.loop-line.line-index + 1) c.args.lines.now)) w.others-is
          ∙ ap (λ items. items ++ filter is_left (drop (c.loop-line.line-index + 1) c.args.lines.now)) w.in_ok-push.ensures.items
          ∙ stays_on is_left c.args.lines.now (filter is_left c.args.lines.now) c.loop-line.line-index _ c.loop-line.others.items c.loop-line-test.true
          (asked ∙ ap not w.if-not-contains_key.true) inv
      | else-not-contains_key w ↦
          ap (λ (v : Vec Join Global). v.items ++ filter is_left (drop (c.loop-line.line-index + 1) c.args.lines.now)) w.others-is
          ∙ goes_on is_left c.args.lines.now (filter is_left c.args.lines.now) c.loop-line.line-index _ c.loop-line.others.items c.loop-line-test.true
          (asked ∙ ap not w.if-not-contains_key.false) inv
    ]

pub returns : goal.returns
returns c = record {
  value = λ js are.
      let left : drop c.loop-line.line-index c.args.lines.now ≡ [] = drop_of_length-le c.args.lines.now c.loop-line-test.false in
      sym (append-nil c.loop-line.others.items)
      ∙ ap (λ ls. c.loop-line.others.items ++ filter (λ (j : Join). not (is_some (source_at js j.bit))) ls) (sym left)
      ∙ c.loop-line.invariant js are;
}
