-- Sound designs: items of one kind have different names, and signals have bits that the wires have.
use Rattle.std.specs.Prelude.{◌<◌, List, ◌++◌, map, slice_get, IsSomeAnd}
use Rattle.rtl_sig.specs.declared.sig.WireBit.{WireBit}
use Rattle.rtl_ir.specs.declared.cell.Cell.{Cell}
use Rattle.rtl_ir.specs.declared.cell.Pin.{Pin}
use Rattle.rtl_ir.specs.declared.module.Design.{Design}
use Rattle.rtl_ir.specs.declared.module.Module.{Module}
use Rattle.rtl_ir.specs.declared.process.Process.{Process}
use Rattle.rtl_ir.specs.declared.store.Store.{Store}
use Rattle.rtl_ir.specs.declared.wire.Wire.{Wire}
use Rattle.rtl_ir.specs.Assigns.{left_bits, tree_bits}
use Rattle.rtl_ir.specs.Rules.{updated_bits}
use Rattle.rtl_ir.specs.Signals.{wire_bits}
use Rattle.net_model.specs.Lists.{In, Distinct}
use Rattle.net_model.specs.Within.{Each}

-- one of the wires has this bit
abbrev pub HasBit : List Wire → WireBit → Type 0
HasBit wires b = IsSomeAnd (slice_get wires b.wire) (λ w. b.at < w.width)

-- a module: no two wires, memories or cells of one name, and each bit of a pin, of the left side of a connection and of
-- what a process drives is a bit of a wire
pub record IsSoundModule (m : Module) : Type 0 where
  pub wires : Distinct (map (λ (w : Wire). w.name) m.wires)
  pub memories : Distinct (map (λ (s : Store). s.name) m.memories)
  pub cells : Distinct (map (λ (c : Cell). c.name) m.cells)
  pub pins : (c : Cell) → In c m.cells → (pin : Pin) → In pin c.pins → Each (HasBit m.wires) (wire_bits pin.sig)
  pub links : Each (HasBit m.wires) (left_bits m.links)
  pub processes : (p : Process) → In p m.processes → Each (HasBit m.wires) (tree_bits p.root ++ updated_bits p.syncs)

-- a design: no two modules of one name
pub record IsSound (d : Design) : Type 0 where
  pub ids : Distinct (map (λ (m : Module). m.id) d.modules)
  pub modules : Each IsSoundModule d.modules
