use Rattle.std.proofs.Common.{◌∙◌, ap, subst}
use Rattle.rtl_ir.specs.Follow.{all_joins}
use Rattle.rtl_ir.specs.Rules.{init_lines}
use Rattle.flat_net.specs.Starts.{Gains, starts_by}
use Rattle.flat_net.proofs.Results.{if_ok}
use Rattle.flat_net.proofs.starts.Starts.put_process.Goals as goal

pub returns : goal.returns
returns c =
    let root = c.in_ok-rooted.ensures.root in
    let bits = c.as_slice-2.ensures.value ∙ c.in_ok-bits.ensures.value ∙ c.in_ok-rooted.ensures.bits in
    let lines = c.as_slice-3.ensures.value ∙ c.in_ok-lines.ensures.value ∙ ap (λ rules. all_joins (init_lines rules)) c.as_slice.ensures.value in
    record {
      gains =
          if_ok c.give_all.result (c.give_all.ensures.gains c.in_ok-rooted.rooted.root c.as_slice-2.result.now c.in_ok-leaves.ensures.value)
          (λ _ g. subst (Gains c.args.self.now c.give_all.new.self) (λ i. starts_by (root i) (bits i) (lines i)) g);
    }
