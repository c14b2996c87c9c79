use Rattle.std.proofs.Common.{rules, ◌≤◌, ◌<◌, ◌⊎◌, length, arith}
use Rattle.rtl_ir.specs.Assigns.{tree_bits}
use Rattle.match_cells.specs.Trees.{seen}
use Rattle.proc_latch.proofs.Stepping.{place_over, places_end}
use Rattle.proc_latch.proofs.chains.Chains.always_line.Goals as goal

pub returns-in_err-always_place-clause-over : goal.returns-in_err-always_place-clause-over
returns-in_err-always_place-clause-over c e =
    let hl : c.loop-at.at < length c.args.left.now = omega (arith, c.min-at-end.ensures) in
    let hr : c.loop-at.at < length c.args.right.now = omega (arith, c.min-at-end.ensures) in
    place_over c.args.root.now (tree_bits c.args.root.now) c.args.left.now c.args.right.now c.loop-at.at _ _ hl hr (seen c.loop-at.self.trees) _ c.loop-at.invariant.all
    (c.always_place.ensures.over (search (rules, e, c.from_residual.ensures, c.in_err-always_place.is)))

pub returns-clause-exact : goal.returns-clause-exact
returns-clause-exact c =
    let past : (length c.args.left.now ≤ c.loop-at.at) ⊎ (length c.args.right.now ≤ c.loop-at.at) = grind (arith, c.min-at-end.ensures, c.loop-at-test.false) in
    places_end c.args.root.now (tree_bits c.args.root.now) c.args.left.now c.args.right.now c.loop-at.at (seen c.loop-at.self.trees) _ past c.loop-at.invariant.all
