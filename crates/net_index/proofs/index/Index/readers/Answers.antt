use Rattle.std.proofs.Common.{◌+◌}
use Rattle.net_index.specs.Numbering.{start_of, widths_of}
use Rattle.net_index.specs.Readers.{readers_of}
use Rattle.net_index.proofs.Numbers.{bit_number}
use Rattle.net_index.proofs.index.Index.readers.Goals as goal

pub returns : goal.returns
returns c = record {
  value = λ ports m is has.
      c.of_bit.ensures.value (widths_of m.wires) (readers_of ports m) (start_of (widths_of m.wires) c.args.bit.wire + c.args.bit.at) is.readers (bit_number m.wires c.args.bit has);
}
