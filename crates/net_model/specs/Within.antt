-- Modules whose signals name wires of the module alone, and modules with further wires.
use Rattle.std.specs.Prelude.{◌≡◌, ◌<◌, ◌++◌, ℕ, List, length}
use Rattle.rtl_sig.specs.declared.sig.SigBit.{SigBit}
use Rattle.rtl_sig.specs.declared.sig.SigBit.TheVariants.{Fixed, Wire as OnWire}
use Rattle.rtl_ir.specs.declared.cell.Cell.{Cell}
use Rattle.rtl_ir.specs.declared.cell.Pin.{Pin}
use Rattle.rtl_ir.specs.declared.module.Link.{Link}
use Rattle.rtl_ir.specs.declared.module.Module.{Module}
use Rattle.rtl_ir.specs.declared.process.Event.{Event}
use Rattle.rtl_ir.specs.declared.process.Event.TheVariants.{Low, High, Posedge, Negedge, Edge, Global, Init, Always}
use Rattle.rtl_ir.specs.declared.process.Process.{Process}
use Rattle.rtl_ir.specs.declared.process.SyncRule.{SyncRule}
use Rattle.rtl_ir.specs.declared.process.WriteLine.{WriteLine}
use Rattle.rtl_ir.specs.declared.wire.Role.TheVariants.{Inner}
use Rattle.rtl_ir.specs.declared.wire.Wire.{Wire}
use Rattle.rtl_ir.specs.Tree.{Switches, NoSwitch, OneSwitch, Cases, NoCase, OneCase}
use Rattle.net_model.specs.Lists.{In}

-- something is so of each of these
abbrev pub Each : {A : Type 0} → (A → Type 0) → List A → Type 0
Each {A} P xs = (x : A) → In x xs → P x

-- a bit of a signal is a constant, or on one of so many wires
abbrev pub BitIn : ℕ → SigBit → Type 0
BitIn count (Fixed c) = Unit {0}
BitIn count (OnWire b) = b.wire < count

-- the same of each bit of a signal
abbrev pub SigIn : ℕ → List SigBit → Type 0
SigIn count signal = Each (BitIn count) signal

-- of a connection or an assign
abbrev pub LinkIn : ℕ → Link → Type 0
LinkIn count l = SigIn count l.left × SigIn count l.right

-- of the pins of a cell
abbrev pub CellIn : ℕ → Cell → Type 0
CellIn count c = Each (λ (pin : Pin). SigIn count pin.sig) c.pins

abbrev mutual
  -- of switches, with all that stands below them
  pub SwitchesIn : ℕ → Switches → Type 0
  SwitchesIn count NoSwitch = Unit {0}
  SwitchesIn count (OneSwitch signal attributes cases rest) =
      SigIn count signal × (CasesIn count cases × SwitchesIn count rest)

  -- of cases
  pub CasesIn : ℕ → Cases → Type 0
  CasesIn count NoCase = Unit {0}
  CasesIn count (OneCase patterns assigns attributes switches rest) =
      Each (SigIn count) patterns × (Each (LinkIn count) assigns × (SwitchesIn count switches × CasesIn count rest))

-- of an event
abbrev pub EventIn : ℕ → Event → Type 0
EventIn count (Low signal) = SigIn count signal
EventIn count (High signal) = SigIn count signal
EventIn count (Posedge signal) = SigIn count signal
EventIn count (Negedge signal) = SigIn count signal
EventIn count (Edge signal) = SigIn count signal
EventIn count Global = Unit {0}
EventIn count Init = Unit {0}
EventIn count Always = Unit {0}

-- of a line that writes a memory
pub record WriteIn (count : ℕ) (line : WriteLine) : Type 0 where
  pub address : SigIn count line.address
  pub value : SigIn count line.value
  pub enable : SigIn count line.enable

-- of a rule of a process
pub record RuleIn (count : ℕ) (rule : SyncRule) : Type 0 where
  pub event : EventIn count rule.event
  pub updates : Each (LinkIn count) rule.updates
  pub writes : Each (WriteIn count) rule.writes

-- of a process
pub record ProcessIn (count : ℕ) (process : Process) : Type 0 where
  pub assigns : Each (LinkIn count) process.root.assigns
  pub switches : SwitchesIn count process.root.switches
  pub syncs : Each (RuleIn count) process.syncs

-- of a module: each of its signals names wires that it has
pub record IsWithin (m : Module) : Type 0 where
  pub cells : Each (CellIn (length m.wires)) m.cells
  pub links : Each (LinkIn (length m.wires)) m.links
  pub processes : Each (ProcessIn (length m.wires)) m.processes

-- a module with further wires behind its own
abbrev pub with_wires : List Wire → Module → Module
with_wires fresh m = record m { wires = m.wires ++ fresh }

-- each of these wires is no port
abbrev pub AreInner : List Wire → Type 0
AreInner wires = Each (λ (w : Wire). w.role ≡ Inner) wires
