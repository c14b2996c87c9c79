use Rattle.std.proofs.Common.{◌++◌, ◌∙◌, subst, take}
use Rattle.net_alias.specs.Aliases.{IsAliases}
use Rattle.net_alias.proofs.Joining.{all_links, next_link}
use Rattle.net_alias.proofs.aliases.Aliases.connect_all.Goals as goal

pub loop-link-preserved : goal.loop-link-preserved
loop-link-preserved c = λ before are.
    subst (IsAliases c.connect.new.self)
    (next_link before c.args.links.now c.loop-link.link-index _ _ c.loop-link-test.true ((λ i. record { left = c.as_slice.ensures.value i; right = c.as_slice-in-loop-link.ensures.value i }) ∙ c.link-item.is))
    (c.in_ok-connect.ensures.ok (before ++ take c.loop-link.link-index c.args.links.now) (c.loop-link.invariant before are))

pub returns : goal.returns
returns c = record {
  ok = λ before are. subst (IsAliases c.loop-link.self) (all_links before c.args.links.now c.loop-link.link-index c.loop-link-test.false) (c.loop-link.invariant before are);
}
