use Rattle.std.proofs.Common.{◌++◌, arith, subst}
use Rattle.rtl_ir.specs.Follow.{joins}
use Rattle.rtl_ir.proofs.JoinPlaces.{places_all}
use Rattle.net_alias.specs.Aliases.{AreAliases}
use Rattle.net_alias.proofs.aliases.Aliases.connect_sides.Goals as goal

pub returns : goal.returns
returns c = record {
  ok = λ all are.
      let q = c.loop-at.invariant all are in
      subst (AreAliases c.loop-at.self) (places_all c.args.left.now c.args.right.now c.loop-at.at (omega arith) q.0 (all ++ joins c.args.left.now c.args.right.now) q.2) q.1;
}
