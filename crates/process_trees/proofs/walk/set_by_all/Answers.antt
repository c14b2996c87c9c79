use Rattle.std.proofs.Common.{◌∙◌, ◌&&◌, ap, not, sym}
use Rattle.process_trees.specs.Walk.{is_among, unset_among, unset_at}
use Rattle.process_trees.proofs.Results.{if_ok}
use Rattle.process_trees.proofs.Switches.{among_filter}
use Rattle.process_trees.proofs.walk.set_by_all.Goals as goal

pub returns-in-Some : goal.returns-in-Some
returns-in-Some c = record {
  value = if_ok c.set_now.result c.set_now.ensures.value (λ all is before are k.
      ap (is_among k) is ∙ among_filter (λ n. not (unset_at c.args.unset.now n)) c.as_slice.result.now k
      ∙ (λ i. is_among k (c.as_slice.ensures.value i) && not (unset_at c.args.unset.now k))
      ∙ ap (λ o. unset_among o before k && not (unset_at c.args.unset.now k)) (sym c.in-Some.is));
}
