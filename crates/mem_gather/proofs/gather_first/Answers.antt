use Rattle.std.proofs.Common.{◌∙◌, ap, get_or, length, min, take}
use Rattle.mem_gather.specs.First.{gathered_from}
use Rattle.mem_gather.proofs.First.{planned_first}
use Rattle.mem_gather.proofs.Planning.{plan_got}
use Rattle.mem_gather.proofs.gather_first.Goals as goal

pub returns : goal.returns
returns c =
    let m = c.args.module.now in
    record {
      exact =
          plan_got m c.args.store c.index-as_slice-store.result c.in_ok-plan.plan c.requires.in_range
          (c.index-as_slice-store.is ∙ ap (λ stores. get_or stores c.args.store c.index-as_slice-store.result) c.as_slice.ensures.value)
          (c.in_ok-plan.ensures.exact
          ∙ ap (λ cells. gathered_from (take c.min-first.result cells) c.args.store c.index-as_slice-store.result) c.as_slice-cells.ensures.value
          ∙ planned_first m c.args.count c.min-first.result c.args.store c.index-as_slice-store.result
          (c.min-first.ensures ∙ ap (λ n. min n c.args.count) (ap length c.as_slice-cells.ensures.value)) c.requires.first);
    }
