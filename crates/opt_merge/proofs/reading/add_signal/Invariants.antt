-- The bits so far are read.
use Rattle.std.proofs.Common.{List, take}
use Rattle.rtl_ir.specs.declared.module.Link.{Link}
use Rattle.net_alias.specs.Aliases.{IsAliases}
use Rattle.opt_merge.specs.Reading.{EachOf, MoreReaders, ReadsBit}
use Rattle.opt_merge.proofs.reading.add_signal.Given as goal

abbrev pub invariant-loop-bit : goal.invariant-loop-bit
invariant-loop-bit l = record {
  keeps : (links : List Link) → IsAliases l.fn.aliases links → IsAliases l.aliases links;
  more : MoreReaders l.fn.readers l.readers;
  reads : (links : List Link) → IsAliases l.fn.aliases links → EachOf (ReadsBit l.readers links l.at) (take l.bit-index l.signal);
}
