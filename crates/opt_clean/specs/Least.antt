-- The cells that are kept, by reasons.
use Rattle.std.specs.Prelude.{◌≡◌, true, List}
use Rattle.rtl_sig.specs.declared.sig.WireBit.{WireBit}
use Rattle.rtl_ir.specs.Types.{Ports}
use Rattle.rtl_ir.specs.declared.cell.Cell.{Cell}
use Rattle.rtl_ir.specs.declared.module.Link.{Link}
use Rattle.rtl_ir.specs.declared.wire.Wire.{Wire}
use Rattle.net_model.specs.Lists.{In}
use Rattle.opt_clean.specs.Keep.{is_root, output_bits}
use Rattle.opt_clean.specs.Kept.{input_bits, right_bits}

-- a cell is kept for itself, or since a connection or a kept cell reads one of its output bits
pub data IsKept (ports : Ports) (wires : List Wire) (links : List Link) (cells : List Cell) : Cell → Type 0 where
  ForItself : (c : Cell) → In c cells → is_root ports wires c ≡ true → IsKept ports wires links cells c
  ForLink :
      (c : Cell) (b : WireBit) → In c cells → In b (output_bits ports c) → In b (right_bits links) →
      IsKept ports wires links cells c
  ForCell :
      (c d : Cell) (b : WireBit) → In c cells → In b (output_bits ports c) → In b (input_bits ports d) →
      IsKept ports wires links cells d → IsKept ports wires links cells c
