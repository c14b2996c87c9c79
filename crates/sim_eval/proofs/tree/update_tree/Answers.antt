use Rattle.std.proofs.Common.{◌<◌, ◌∙◌, ap, length, map, subst, sym}
use Rattle.std.specs.List.{AllByRecursion}
use Rattle.flat_net.specs.declared.net.Output.{Output}
use Rattle.sim_eval.specs.declared.cell.Worked.TheVariants.{Word}
use Rattle.sim_eval.specs.Advance.{Takes, output_fact}
use Rattle.sim_eval.specs.Trees.{bit_of}
use Rattle.sim_eval.proofs.Trees.{advances_tree, numbers_within}
use Rattle.sim_eval.proofs.tree.update_tree.Goals as goal

pub returns-clause-advances : goal.returns-clause-advances
returns-clause-advances c = λ ps apart same within t.
    let tree = c.args.tree.now in
    let worked = Word c.from_vec.result in
    advances_tree ps c.args.now.now apart same t tree worked c.put_all.new.now c.put_all.result within
    (λ at lt. ap (λ bits. bit_of bits at) c.from_vec.ensures.value ∙ c.in_ok-bits.ensures.value at lt)
    (subst (λ z. Takes ps (map (output_fact ps worked) z) c.args.now.now c.put_all.new.now c.put_all.result) c.as_slice.ensures.value
    (c.put_all.ensures.takes ps apart same (subst (AllByRecursion (λ (o : Output). o.number < length ps)) (sym c.as_slice.ensures.value) (numbers_within (length ps) tree.width tree.outputs within.outputs))))
