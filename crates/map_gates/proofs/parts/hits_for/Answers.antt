use Rattle.std.proofs.Common.{◌≡◌, ◌∙◌, ◌++◌, ap, sym, min, length, arith}
use Rattle.std.proofs.lemmas.List.{append-nil}
use Rattle.map_gates.proofs.Placing.{hits_end}
use Rattle.map_gates.proofs.parts.hits_for.Goals as goal

pub returns : goal.returns
returns c =
    let end : c.loop-at.at ≡ min (length c.args.s.now) (length c.args.inverses.now) = omega (arith, c.loop-at-test.false, c.loop-at.auto) in
    record {
      value =
          sym (append-nil c.loop-at.hits)
          ∙ ap (λ bits. c.loop-at.hits ++ bits) (sym (hits_end c.args.s.now c.args.inverses.now c.loop-at.at c.loop-at.rest end))
          ∙ c.loop-at.invariant;
    }
