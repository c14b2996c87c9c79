use Rattle.std.proofs.Common.{[], ◌≡◌, ◌∙◌, ◌∷◌, ◌+◌, ap, arith, length, length-append}
use Rattle.opt_merge.specs.Classes.{class_of}
use Rattle.opt_merge.proofs.Waiting.{empty_more}
use Rattle.opt_merge.proofs.late.Late.of.Goals as goal

pub loop-class-preserved : goal.loop-class-preserved
loop-class-preserved c =
    let grown : length c.push.new.self.items ≡ length c.loop-class.places.items + 1 = ap length c.in_ok-push.ensures.items ∙ length-append c.loop-class.places.items (c.new.result ∷ []) in
    record {
      count = omega (arith, grown, c.loop-class.invariant.count);
      none = empty_more c.loop-class.places.items c.push.new.self.items _ c.in_ok-push.ensures.items c.new.ensures.empty c.loop-class.invariant.none;
    }

pub returns : goal.returns
returns c = record { none = λ row. c.loop-class.invariant.none (class_of row) }
