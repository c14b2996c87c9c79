use Rattle.std.proofs.Common.{[], refl, subst}
use Rattle.net_alias.specs.Aliases.{IsAliases}
use Rattle.net_alias.proofs.Joining.{none_known}
use Rattle.net_alias.proofs.aliases.Aliases.of.Goals as goal

pub returns : goal.returns
returns c = record {
  value = subst (IsAliases c.connect_all.new.self) c.as_slice-2.ensures.value (c.in_ok-connect_all.ensures.ok [] (none_known _ refl c.in_ok-of.ensures.none));
}
