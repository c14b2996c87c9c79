-- The connections so far are in.
use Rattle.std.proofs.Common.{◌++◌, List, take}
use Rattle.rtl_ir.specs.declared.module.Link.{Link}
use Rattle.net_alias.specs.Aliases.{IsAliases}
use Rattle.net_alias.proofs.aliases.Aliases.connect_all.Given as goal

abbrev pub invariant-loop-link : goal.invariant-loop-link
invariant-loop-link l = (before : List Link) → IsAliases l.fn.self before → IsAliases l.self (before ++ take l.link-index l.links)
