-- The storage cells that rules stand for, in numbers.
use Rattle.std.specs.Prelude.{◌≡◌, List, length, map}
use Rattle.std.specs.List.{AllByRecursion}
use Rattle.rtl_bits.specs.declared.bit.Bit.{Bit}
use Rattle.rtl_bits.specs.declared.bit.Bit.TheVariants.{X}
use Rattle.rtl_sig.specs.declared.sig.SigBit.{SigBit}
use Rattle.cell_types.specs.declared.storage.StorageKind.{StorageKind}
use Rattle.cell_types.specs.declared.storage.StorageKind.TheVariants.{Dff, Dlatch, Aldff}
use Rattle.cell_types.specs.Levels.{low}
use Rattle.rtl_ir.specs.declared.wire.Wire.{Wire}
use Rattle.rtl_ir.specs.Flat.Driver.{Driven, StorePoints}
use Rattle.rtl_ir.specs.Flat.Place.{Path, Place}
use Rattle.rtl_ir.specs.Flat.Point.{point, point_at, points}
use Rattle.rtl_ir.specs.Flat.Process as rtl
use Rattle.rtl_ir.specs.Flat.Process.{rule_row, rule_shape}
use Rattle.rtl_ir.specs.declared.follow.Join.{Join}
use Rattle.flat_net.specs.declared.net.Point.{Point}
use Rattle.flat_net.specs.declared.net.Point.TheVariants.{Constant}
use Rattle.flat_net.specs.declared.net.StoreBit.{StoreBit}
use Rattle.flat_net.specs.declared.net.StorePins.{StorePins}
use Rattle.flat_net.specs.declared.registers.Control.{Control}
use Rattle.flat_net.specs.declared.registers.Register.{Register}
use Rattle.flat_net.specs.Parts.{store_row}
use Rattle.flat_net.specs.Reads.{IsPoint}
use Rattle.flat_net.specs.Within.{IsStoreWithin}

-- the control is that of an edge or a level
pub record IsControl (ps : List Place) (p : Path) (wires : List Wire) (c : Control) (t : rtl.Trigger) : Type 0 where
  pub point : IsPoint ps c.point (point_at (points p wires t.signal) 0)
  pub level : c.level ≡ t.level

-- no pin
abbrev pub bare_pins : StorePins
bare_pins = record {
  clk = Constant X;
  en = Constant X;
  arst = Constant X;
  srst = Constant X;
  aload = Constant X;
  ad = Constant X;
  set = Constant X;
  clr = Constant X;
  d = Constant X;
}

-- a register that reads nothing but D
abbrev pub bare_register : StorageKind → Register
bare_register kind = record { kind = kind; levels = low; pins = bare_pins }

-- a flip-flop
abbrev pub edge_register : Control → Register
edge_register c = record {
  kind = Dff;
  levels = record low { clk = c.level };
  pins = record bare_pins { clk = c.point };
}

-- a latch
abbrev pub level_register : Control → Register
level_register c = record {
  kind = Dlatch;
  levels = record low { en = c.level };
  pins = record bare_pins { en = c.point };
}

-- a flip-flop with a load
abbrev pub loaded_register : Control → Control → Point → Register
loaded_register c l ad = record {
  kind = Aldff;
  levels = record low { clk = c.level; aload = l.level };
  pins = record bare_pins { clk = c.point; aload = l.point; ad = ad };
}

-- a bit of a register that reads this beside its source
abbrev pub register_row : (SigBit → Bit) → Path → List Wire → Register → StorePoints → Join → Driven
register_row start p wires r they j =
    rule_row start p wires r.kind r.levels (record they { d = point p wires j.source }) j.bit

-- the bits of the register are those of these places
pub record AreRegisters (ps : List Place) (start : SigBit → Bit) (p : Path) (wires : List Wire) (r : Register) (they : StorePoints) (bits : List StoreBit) (js : List Join) : Type 0 where
  pub are : map (store_row ps (rule_shape r.kind r.levels)) bits ≡ map (register_row start p wires r they) js
  pub within : AllByRecursion (IsStoreWithin (length ps)) bits
