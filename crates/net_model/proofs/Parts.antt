-- Parts of which the worked examples are made.
use Rattle.std.proofs.Common.{ℕ, false, List, [], ◌∷◌}
use Rattle.std.specs.Prelude.{codes, pos, map}
use Rattle.std.specs.List.{range_with_len}
use Rattle.rtl_bits.specs.declared.bit.Bit.{Bit}
use Rattle.rtl_sig.specs.declared.sig.SigBit.{SigBit}
use Rattle.rtl_sig.specs.declared.sig.SigBit.TheVariants.{Fixed, Wire as OnWire}
use Rattle.rtl_ir.specs.declared.cell.Cell.{Cell}
use Rattle.rtl_ir.specs.declared.cell.CellParam.{CellParam}
use Rattle.rtl_ir.specs.declared.cell.Pin.{Pin}
use Rattle.rtl_ir.specs.declared.module.Design.{Design}
use Rattle.rtl_ir.specs.declared.module.Link.{Link}
use Rattle.rtl_ir.specs.declared.module.Module.{Module}
use Rattle.rtl_ir.specs.declared.process.Event.{Event}
use Rattle.rtl_ir.specs.declared.process.Process.{Process}
use Rattle.rtl_ir.specs.declared.process.SyncRule.{SyncRule}
use Rattle.rtl_ir.specs.declared.value.Attribute.{Attribute}
use Rattle.rtl_ir.specs.declared.value.Value.TheVariants.{Int, Bits}
use Rattle.rtl_ir.specs.declared.wire.Role.{Role}
use Rattle.rtl_ir.specs.declared.wire.Wire.{Wire}
use Rattle.rtl_ir.specs.Tree.{Switches, NoSwitch, OneSwitch, Cases, NoCase, OneCase}

-- a wire of a width
abbrev pub wire : List ℕ → ℕ → Role → ℕ → Wire
wire name width role number = record {
  name = name;
  width = width;
  offset = pos 0;
  upto = false;
  signed = false;
  role = role;
  number = pos number;
  attributes = [];
}

-- the attribute `\init`
abbrev pub init : List Bit → List Attribute
init bits = record { name = codes "\\init"; value = Bits bits false } ∷ []

-- a bit of a wire, and a signal of one bit
abbrev pub bit_at : ℕ → ℕ → SigBit
bit_at wire at = OnWire (record { wire = wire; at = at })

abbrev pub bit : ℕ → List SigBit
bit wire = bit_at wire 0 ∷ []

-- a whole wire of a width
abbrev pub word : ℕ → ℕ → List SigBit
word wire width = map (bit_at wire) (range_with_len 0 width)

abbrev pub fixed : List Bit → List SigBit
fixed bits = map Fixed bits

abbrev pub pin : List ℕ → List SigBit → Pin
pin name sig = record { name = name; sig = sig }

abbrev pub number : List ℕ → ℕ → CellParam
number name n = record { name = name; value = Int (pos n); signed = false }

abbrev pub cell : List ℕ → List CellParam → List Pin → Cell
cell kind params pins = record { kind_name = kind; name = kind; params = params; pins = pins; attributes = [] }

abbrev pub link : List SigBit → List SigBit → Link
link left right = record { left = left; right = right }

-- a case of one pattern, and a default
abbrev pub on : List SigBit → List Link → Switches → Cases → Cases
on pattern assigns switches rest = OneCase (pattern ∷ []) assigns [] switches rest

abbrev pub otherwise : List Link → Switches → Cases
otherwise assigns switches = OneCase [] assigns [] switches NoCase

abbrev pub switch : List SigBit → Cases → Switches
switch signal cases = OneSwitch signal [] cases NoSwitch

abbrev pub rule : Event → List Link → SyncRule
rule event updates = record { event = event; updates = updates; writes = [] }

abbrev pub process : List Link → Switches → List SyncRule → Process
process assigns switches syncs = record {
  name = codes "$p";
  root = record { patterns = []; assigns = assigns; switches = switches; attributes = [] };
  syncs = syncs;
  attributes = [];
}

abbrev pub alone : Module → Design
alone m = record { modules = m ∷ [] }
