-- Cells and connections that are whole, and what they drive.
use Rattle.std.proofs.Common.{◌≤◌, ℕ, arith}
use Rattle.cell_types.specs.declared.kind.CellKind.{CellKind}
use Rattle.rtl_sig.specs.declared.sig.SigBit.{SigBit}
use Rattle.rtl_sig.specs.declared.sig.SigBit.TheVariants.{Fixed, Wire as OnWire}
use Rattle.rtl_ir.specs.declared.cell.Cell.{Cell}
use Rattle.rtl_ir.specs.declared.module.Link.{Link}
use Rattle.net_model.specs.Within.{BitIn, CellIn, LinkIn}
use Rattle.map_laws.specs.Expansion.{IsWhole, IsWholeCell, IsWholeGate, IsWholeLink}

-- what stands in a module with so many wires does so in one with more
module _ (few many : ℕ) where
  pub bit_more : (s : SigBit) → few ≤ many → BitIn few s → BitIn many s
  bit_more (Fixed b) h i = tt
  bit_more (OnWire b) h i = omega (arith, h, i)

  pub cell_more : (c : Cell) → few ≤ many → CellIn few c → CellIn many c
  cell_more c h within pin i s j = bit_more s h (within pin i s j)

  pub link_more : (l : Link) → few ≤ many → LinkIn few l → LinkIn many l
  link_more l h within = (λ s j. bit_more s h (within.0 s j), λ s j. bit_more s h (within.1 s j))

  kind_more : (kind : CellKind) (c : Cell) → few ≤ many → IsWhole few kind c → IsWhole many kind c
  kind_more kind c h whole = record { own = whole.own; shape = whole.shape; output = whole.output; within = cell_more c h whole.within }

  pub whole_more : (c : Cell) → few ≤ many → IsWholeCell few c → IsWholeCell many c
  whole_more c h whole kind own = kind_more kind c h (whole kind own)

  pub gate_more : (c : Cell) → few ≤ many → IsWholeGate few c → IsWholeGate many c
  gate_more c h gate = record { kind = gate.kind; gate = gate.gate; whole = kind_more gate.kind c h gate.whole }

  pub line_more : (l : Link) → few ≤ many → IsWholeLink few l → IsWholeLink many l
  line_more l h line = record { even = line.even; left = line.left; within = link_more l h line.within }
