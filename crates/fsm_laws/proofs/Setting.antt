-- What a machine that is found becomes: its state, what its signals become, and the parts of the module with the code.
use Rattle.std.proofs.Common.{ℕ, List, [], ◌∷◌, ◌++◌, length}
use Rattle.rtl_bits.specs.declared.bit.Bit.{Bit}
use Rattle.rtl_sig.specs.declared.sig.SigBit.{SigBit}
use Rattle.rtl_ir.specs.declared.cell.Cell.{Cell}
use Rattle.rtl_ir.specs.declared.machine.Machine.{Machine}
use Rattle.rtl_ir.specs.declared.module.Link.{Link}
use Rattle.rtl_ir.specs.declared.module.Module.{Module}
use Rattle.rtl_ir.specs.declared.wire.Wire.{Wire}
use Rattle.rtl_ir.specs.Flat.Cell as flat
use Rattle.rtl_ir.specs.Flat.Start.{start_of}
use Rattle.rtl_ir.specs.Types.{Ports}
use Rattle.net_model.specs.Fsm.Code.{Coding, Output}
use Rattle.net_model.specs.Fsm.Find.{whole_wire}
use Rattle.fsm_laws.specs.Machines.{IsFoundMachine}
use Rattle.fsm_laws.specs.Recoded.{all_links_made, cells_made, fresh_wires, machine_coding}
use Rattle.fsm_laws.specs.Recodes.{FlopPart, PartIs, Recodes}

module _ (ports : Ports) (m : Module) (at : ℕ) (machine : Machine) (found : IsFoundMachine ports m at machine) where
  abbrev pub state : List SigBit
  state = whole_wire at found.wire

  abbrev pub coding : Coding
  coding = machine_coding m machine state

  -- the state with its code, and the outputs of the tree
  abbrev pub outputs : List Output
  outputs = record { before = state; after = coding.code } ∷ coding.outputs

  abbrev pub cells : List Cell
  cells = cells_made m machine coding 0 m.cells

  abbrev pub more : List Link
  more = all_links_made m machine coding 0 m.cells

  abbrev pub fresh : List Wire
  fresh = fresh_wires m machine

  abbrev pub start : SigBit → Bit
  start = start_of (m.wires ++ fresh) []

  -- what a cell of the module is
  abbrev pub IsPart : flat.Ports → Cell → Type 0
  IsPart over c =
      PartIs found.wire.width machine.states m.links m.wires fresh outputs (length m.wires) cells more start over c

  abbrev pub IsFlopPart : Cell → Type 0
  IsFlopPart c = FlopPart found.wire.width machine.states m.links m.wires outputs (length m.wires) cells more start c

  -- all that is asked of the module
  abbrev pub IsAsked : flat.Ports → Type 0
  IsAsked over = Recodes m fresh cells more found.wire.width machine.states outputs (length m.wires) over
