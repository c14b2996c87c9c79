use Rattle.std.proofs.Common.{sym, ap, ◌∙◌, subst, arith, slice_set, get_or}
use Rattle.crossbeam_deque.specs.Handles.{view, IsPassOf, stealer_deque}
use Rattle.work_crew.specs.declared.deque.Hand.{Hand}
use Rattle.work_crew.specs.Times.{times}
use Rattle.work_crew.specs.Hands.{IsBelow}
use Rattle.work_crew.specs.Reach.{AreBelow, puts_of, tally}
use Rattle.work_crew.proofs.Passes.{paired_length, paired_at, paired_set, tally_set, puts_set, below_at, steal_counts, steal_keeps_fixed, steal_keeps_put, stolen_is_below}
use Rattle.work_crew.proofs.reach.steal_at.Goals as goal

pub index_mut-requires : goal.index_mut-requires
index_mut-requires c =
    let l = paired_length c.args.thieves.now c.args.notes.now.items c.requires.paired in
    let o = c.args.notes.now.ok.0 in
    let i = c.requires.in_range in
    omega arith

pub steal-requires : goal.steal-requires
steal-requires c =
    let t = c.index-thieves-at.result in
    let n = c.index_mut.result.now in
    subst (λ s. IsPassOf (stealer_deque s) n) (sym c.index-thieves-at.is)
    (subst (λ m. IsPassOf (stealer_deque (get_or c.args.thieves.now c.args.at t)) m) (sym c.index_mut.ensures.value)
    (paired_at c.args.thieves.now c.args.notes.now.items c.args.at t n c.requires.paired c.requires.in_range))

pub returns-clause-paired : goal.returns-clause-paired
returns-clause-paired c =
    let t = c.index-thieves-at.result in
    paired_set c.args.thieves.now c.args.notes.now.items c.args.at t c.steal.new.note c.requires.paired c.requires.in_range
    (subst (λ s. IsPassOf (stealer_deque s) c.steal.new.note) c.index-thieves-at.is c.steal.ensures.same)

pub returns-clause-taken : goal.returns-clause-taken
returns-clause-taken c =
    let n = c.index_mut.result.now in
    let ns = c.args.notes.now.items in
    let len = paired_length c.args.thieves.now ns c.requires.paired in
    steal_counts (view n) (view c.steal.new.note) c.steal.result (λ k. tally k ns) (λ k. tally k (slice_set ns c.args.at c.steal.new.note))
    (λ k. let i = tally_set k ns c.args.at n c.steal.new.note (let l = c.requires.in_range in omega arith) in let e = ap (λ m. times k (view {V = Hand} m).taken) c.index_mut.ensures.value in omega arith)
    c.steal.ensures.rule

pub returns-clause-same : goal.returns-clause-same
returns-clause-same c =
    let m = c.index_mut.result.now in
    let ns = c.args.notes.now.items in
    let len = paired_length c.args.thieves.now ns c.requires.paired in
    puts_set ns c.args.at m c.steal.new.note (let l = c.requires.in_range in omega arith)
    (steal_keeps_fixed (view m) (view c.steal.new.note) c.steal.result c.steal.ensures.rule ∙ ap (λ p. (view {V = Hand} p).fixed) c.index_mut.ensures.value)
    (steal_keeps_put (view m) (view c.steal.new.note) c.steal.result c.steal.ensures.rule ∙ ap (λ p. (view {V = Hand} p).put) c.index_mut.ensures.value)

pub returns-clause-job : goal.returns-clause-job
returns-clause-job c =
    let m = c.index_mut.result.now in
    let ns = c.args.notes.now.items in
    let len = paired_length c.args.thieves.now ns c.requires.paired in
    stolen_is_below (view m) (view c.steal.new.note) c.steal.result (λ n. AreBelow n (puts_of ns))
    (λ n h. subst (λ p. IsBelow n (view {V = Hand} p).fixed (view {V = Hand} p).put) (sym c.index_mut.ensures.value) (below_at n ns c.args.at m h (let l = c.requires.in_range in omega arith)))
    c.steal.ensures.rule
