-- The signals so far are read.
use Rattle.std.proofs.Common.{List, take}
use Rattle.rtl_ir.specs.declared.module.Link.{Link}
use Rattle.net_alias.specs.Aliases.{IsAliases}
use Rattle.opt_merge.specs.Reading.{EachOf, MoreReaders, ReadsPin}
use Rattle.opt_merge.proofs.reading.add_inputs.Given as goal

abbrev pub invariant-loop-name : goal.invariant-loop-name
invariant-loop-name l = record {
  keeps : (links : List Link) → IsAliases l.fn.aliases links → IsAliases l.aliases links;
  more : MoreReaders l.fn.readers l.readers;
  reads : (links : List Link) → IsAliases l.fn.aliases links → EachOf (ReadsPin l.readers links l.at l.pins) (take l.name-index l.names);
}
