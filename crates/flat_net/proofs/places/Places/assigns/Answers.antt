use Rattle.std.proofs.Common.{◌≡◌, ◌++◌, ◌∙◌, ap, subst, sym, take, get_or}
use Rattle.std.proofs.lemmas.List.{take_all}
use Rattle.rtl_ir.specs.declared.module.Link.{Link}
use Rattle.rtl_ir.specs.Follow.{all_joins, joins}
use Rattle.flat_net.specs.Trees.{AreAssigns}
use Rattle.flat_net.proofs.Assigning.{lines-next}
use Rattle.flat_net.proofs.Kept.{within-Keeps}
use Rattle.flat_net.proofs.Reading.{Extends-then}
use Rattle.flat_net.proofs.places.Places.assigns.Goals as goal

pub put_line-requires : goal.put_line-requires
put_line-requires c = record { in_range = within-Keeps _ _ _ c.loop-line.invariant.grows.paths c.requires.in_range }

pub loop-line-preserved : goal.loop-line-preserved
loop-line-preserved c = record {
  grows = Extends-then _ _ _ c.loop-line.invariant.grows c.in_ok-put_line.ensures.grows;
  made = λ p path test.
      let lines = c.args.lines.now in
      let at = c.loop-line.line-index in
      let line = get_or lines at c.line-item.result in
      let left : c.as_slice-left.result.now ≡ line.left = c.as_slice-left.ensures.value ∙ ap (λ (l : Link). l.left) c.line-item.is in
      let right : c.as_slice.result.now ≡ line.right = c.as_slice.ensures.value ∙ ap (λ (l : Link). l.right) c.line-item.is in
      let more = c.in_ok-put_line.ensures.value p (c.loop-line.invariant.grows.paths _ _ path) test (all_joins (take at lines)) (c.loop-line.invariant.made p path test) in
      subst (AreAssigns c.put_line.new.self.places test p c.args.scope.now.wires.now c.args.bits.now c.put_line.new.assigns.items)
      ((λ i. all_joins (take at lines) ++ joins (left i) (right i)) ∙ sym (lines-next lines at c.line-item.result c.loop-line-test.true)) more;
}

pub returns-clause-value : goal.returns-clause-value
returns-clause-value c = λ p path test.
    rw c.from_vec.ensures.value
    (subst (λ ls. AreAssigns c.loop-line.self.places test p c.args.scope.now.wires.now c.args.bits.now c.loop-line.assigns.items (all_joins ls)) (take_all _ c.args.lines.now c.loop-line-test.false) (c.loop-line.invariant.made p path test))
