-- The bits that a module names are of its wires.
use Rattle.std.proofs.Common.{◌<◌, length, ⊎_elim}
use Rattle.std.specs.Prelude.{flat_map}
use Rattle.rtl_sig.specs.declared.sig.SigBit.TheVariants.{Wire as OnWire}
use Rattle.rtl_sig.specs.declared.sig.WireBit.{WireBit}
use Rattle.rtl_ir.specs.Signals.{wire_bits}
use Rattle.rtl_ir.specs.declared.cell.Pin.{Pin}
use Rattle.rtl_ir.specs.declared.module.Module.{Module}
use Rattle.net_model.specs.Lists.{In}
use Rattle.net_model.specs.Within.{IsWithin, LinkIn}
use Rattle.net_model.proofs.Members.{In-cases}
use Rattle.opt_clean.specs.Wires.{cell_bits, link_bits, named_bits}
use Rattle.opt_clean.proofs.Bits.{flat_in}
use Rattle.opt_clean.proofs.Ends.{signal_has}

pub named_within : (m : Module) → IsWithin m → (b : WireBit) → In b (named_bits m) → b.wire < length m.wires
named_within m within b i =
    ⊎_elim
    (λ l. let c = flat_in cell_bits m.cells b l in
    let p = flat_in (λ (p : Pin). wire_bits p.sig) c.0.pins b c.2 in
    within.cells c.0 c.1 p.0 p.1 (OnWire b) (signal_has p.0.sig b p.2))
    (λ r. let l = flat_in link_bits m.links b r in
    let own : LinkIn (length m.wires) l.0 = within.links l.0 l.1 in
    ⊎_elim
    (λ x. own.0 (OnWire b) (signal_has l.0.left b x))
    (λ x. own.1 (OnWire b) (signal_has l.0.right b x))
    (In-cases b (wire_bits l.0.left) (wire_bits l.0.right) l.2))
    (In-cases b (flat_map cell_bits m.cells) (flat_map link_bits m.links) i)
