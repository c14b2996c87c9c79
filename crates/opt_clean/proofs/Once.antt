-- How often bits are driven: in a module that a pass may be given, by the cells and connections at most once.
use Rattle.std.proofs.Common.{◌≤◌, ◌++◌, arith}
use Rattle.rtl_sig.specs.declared.sig.WireBit.{WireBit}
use Rattle.rtl_ir.specs.Types.{Ports}
use Rattle.rtl_ir.specs.declared.module.Module.{Module}
use Rattle.pass_laws.specs.Bits.{cells_bits, links_bits}
use Rattle.pass_laws.specs.Ready.{IsReady}
use Rattle.pass_laws.proofs.Counting.{count, driven_count}
use Rattle.pass_laws.proofs.Faultless.{plain}
use Rattle.pass_laws.proofs.Forming.{own_links}

pub body_once : (ports : Ports) (m : Module) → IsReady ports m → (b : WireBit) → count b (cells_bits ports m.cells ++ links_bits m.links) ≤ 1
body_once ports m ready b =
    omega (arith, ready.once b, driven_count ports m (plain ports m ready.faultless).processes (own_links ports m ready) b)
