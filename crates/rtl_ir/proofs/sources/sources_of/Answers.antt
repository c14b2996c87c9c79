use Rattle.std.proofs.Common.{◌≡◌, drop, arith, subst}
use Rattle.rtl_ir.specs.Sources.{AreSources}
use Rattle.rtl_ir.proofs.sources.sources_of.Goals as goal

pub returns : goal.returns
returns c = record {
  value =
      let first : c.loop-at.at ≡ 0 = omega arith in
      subst (λ n. AreSources c.loop-at.sources (drop n c.args.places.now)) first c.loop-at.invariant;
}
