use Rattle.std.specs.Prelude.{IfOk}
use Rattle.std.proofs.lemmas.Result.{IfOk-weaker}
use Rattle.mem_map.proofs.Promised.{Gives, answer_gives}
use Rattle.mem_map.proofs.expand.Goals as goal

pub returns : goal.returns
returns c =
    let r = c.replace_memory.result in
    let all : IfOk r (Gives c.args.module c.args.plan.now) =
    answer_gives c.args.module c.args.plan.now c.requires.in_range r c.replace_memory.ensures.exact c.replace_memory.ensures.within in
    record {
      exact = c.replace_memory.ensures.exact;
      over = c.replace_memory.ensures.over;
      within = c.replace_memory.ensures.within;
      kept = IfOk-weaker r _ _ (λ after is. is.kept) all;
      pass = IfOk-weaker r _ _ (λ after is. is.pass) all;
      driven = IfOk-weaker r _ _ (λ after is. is.driven) all;
      named = IfOk-weaker r _ _ (λ after is. is.named) all;
    }
