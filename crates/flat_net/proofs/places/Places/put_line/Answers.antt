use Rattle.std.proofs.Common.{◌++◌, ◌∙◌, append_assoc, ap, arith, subst, sym, take}
use Rattle.rtl_ir.specs.Follow.{joins}
use Rattle.flat_net.specs.Trees.{AreAssigns}
use Rattle.flat_net.proofs.Assigning.{joins-all, joins-next}
use Rattle.flat_net.proofs.Kept.{within-Keeps}
use Rattle.flat_net.proofs.Reading.{Extends-then}
use Rattle.flat_net.proofs.places.Places.put_line.Goals as goal

pub put_assign-requires : goal.put_assign-requires
put_assign-requires c = record { in_range = within-Keeps _ _ _ c.loop-at.invariant.grows.paths c.requires.in_range }

pub loop-at-preserved : goal.loop-at-preserved
loop-at-preserved c = record {
  grows = Extends-then _ _ _ c.loop-at.invariant.grows c.in_ok-put_assign.ensures.grows;
  made = λ p path test js before.
      let left = c.args.left.now in
      let right = c.args.right.now in
      let at = c.loop-at.at in
      let next = joins-next left right at _ _ (omega arith) (omega arith) in
      let more = c.in_ok-put_assign.ensures.value p (c.loop-at.invariant.grows.paths _ _ path) test (js ++ joins (take at left) (take at right)) (c.loop-at.invariant.made p path test js before) in
      subst (AreAssigns c.put_assign.new.self.places test p c.args.scope.now.wires.now c.args.bits.now c.put_assign.new.assigns.items) (append_assoc js (joins (take at left) (take at right)) _ ∙ ap (λ rest. js ++ rest) (sym next)) more;
}

pub returns-clause-value : goal.returns-clause-value
returns-clause-value c = λ p path test js before.
    subst (λ rest. AreAssigns c.loop-at.self.places test p c.args.scope.now.wires.now c.args.bits.now c.loop-at.assigns.items (js ++ rest)) (joins-all c.loop-at.at c.args.left.now c.args.right.now (omega arith)) (c.loop-at.invariant.made p path test js before)
