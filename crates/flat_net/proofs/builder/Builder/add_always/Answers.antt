use Rattle.std.proofs.Common.{List, [], ◌∷◌, ◌∙◌, map, refl, subst, sym}
use Rattle.std.specs.Prelude.{reverse}
use Rattle.rtl_ir.specs.Flat.Process.{always_row}
use Rattle.process_trees.specs.Reaching.{AreReaching}
use Rattle.rtl_ir.specs.declared.follow.Join.{Join}
use Rattle.flat_net.proofs.Adding.{Leads-last, Leads-none, Leads-read}
use Rattle.flat_net.proofs.Kept.{within-Keeps}
use Rattle.flat_net.proofs.Sourcing.{same_hold}
use Rattle.flat_net.proofs.Reading.{Extends-refl, Extends-then}
use Rattle.flat_net.proofs.builder.Builder.add_always.Goals as goal

pub loop-line-init : goal.loop-line-init
loop-line-init c = record { grows = Extends-refl _; rows = λ p path start is. Leads-none c.args.self.now _ }

pub add_always_bit-requires : goal.add_always_bit-requires
add_always_bit-requires c = record { in_range = within-Keeps _ _ _ c.loop-line.invariant.grows.paths c.requires.in_range }

pub loop-line-preserved : goal.loop-line-preserved
loop-line-preserved c = record {
  grows = Extends-then _ _ _ c.loop-line.invariant.grows c.in_ok-add_always_bit.ensures.grows;
  rows = λ p path start is.
      let g = c.loop-line.invariant.grows in
      let root = c.args.rooted.now.root in
      let row = always_row start p c.args.scope.now.wires.now root (reverse c.args.rooted.now.bits) in
      let bits = c.in_ok-bits.ensures.value in
      let table = subst (AreReaching c.in_ok-reaching.reaching root) (c.as_slice.ensures.value ∙ sym c.as_slice-in-loop-line.ensures.value) c.in_ok-reaching.ensures.value in
      let holds = same_hold _ root _ _ _ (c.as_slice-in-loop-line.ensures.value ∙ bits) (c.in_ok-holds.ensures.value root table) in
      Leads-read (λ (ls : List Join). map row ls) (λ l. row l ∷ []) (λ l ls. refl) refl c.args.lines.now c.args.self.now _ c.loop-line.self c.add_always_bit.new.self c.loop-line.line-index _
      c.loop-line-test.true (c.loop-line.invariant.rows p path start is) (c.in_ok-add_always_bit.ensures.rows p (g.paths _ _ path) start is holds);
}

pub returns-clause-rows : goal.returns-clause-rows
returns-clause-rows c = λ p path start is.
    let row = always_row start p c.args.scope.now.wires.now c.args.rooted.now.root (reverse c.args.rooted.now.bits) in
    Leads-last (λ (ls : List Join). map row ls) (λ l. row l ∷ []) (λ l ls. refl) refl c.args.lines.now c.args.self.now _ _ c.loop-line.line-index c.loop-line-test.false
    (c.loop-line.invariant.rows p path start is)
