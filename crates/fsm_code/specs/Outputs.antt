-- The outputs of a tree, and what signals become in the code.
use Rattle.std.specs.Prelude.{◌≡◌, ℕ, ◌+◌, List, [], ◌∷◌, length, map, Option, Some, None, if◌then◌else◌}
use Rattle.rtl_bits.specs.declared.bit.Bit.{Bit}
use Rattle.rtl_sig.specs.declared.sig.SigBit.{SigBit}
use Rattle.rtl_ir.specs.Build.{Build, fresh_wire}
use Rattle.rtl_ir.specs.Signals.{same_signal}
use Rattle.net_model.specs.Fsm.Code.{Coding as Codes, Output as Pair, code_init}
use Rattle.fsm_parts.specs.SignalTable.{place_in}
use Rattle.fsm_code.specs.declared.coding.Coding.{Coding}
use Rattle.fsm_code.specs.declared.outputs.Output.{Output}
use Rattle.fsm_code.specs.declared.outputs.Outputs.{Outputs}

-- an output as the definition has it
abbrev pub pair_of : Output → Pair
pair_of o = record { before = o.before; after = o.after }

-- the same of all
abbrev pub outputs_of : Outputs → List Pair
outputs_of o = map pair_of o.list.items

-- the place of the first output of an old signal, from a place on
abbrev pub first_output : List Pair → ℕ → List SigBit → Option ℕ
first_output [] at signal = None
first_output (o ∷ outputs) at signal = if same_signal o.before signal then Some at else first_output outputs (at + 1) signal

-- the table has the places of the list
abbrev pub IsTabled : Outputs → Type 0
IsTabled o = (signal : List SigBit) → place_in o.table signal ≡ first_output (outputs_of o) 0 signal

-- a coding as the definition has it
abbrev pub coding_of : Coding → Codes
coding_of c = record { states = c.states.now; state = c.state; code = c.code; outputs = outputs_of c.outputs }

-- the fresh wire of a code of these states, with the code of the start value
abbrev pub code_wire : List (List Bit) → Option (List Bit) → Build (List SigBit)
code_wire states start = fresh_wire (length states) (code_init states start)

-- the fresh wire of an output of a width
abbrev pub output_wire : ℕ → Build (List SigBit)
output_wire width = fresh_wire width []

-- fresh outputs of a width for old ones, in their order
abbrev pub fresh_by : ℕ → List (List SigBit) → Build (List Pair)
fresh_by width [] b = ([], b)
fresh_by width (signal ∷ signals) b =
    let wire = output_wire width b in
    let rest = fresh_by width signals wire.1 in
    (record { before = signal; after = wire.0 } ∷ rest.0, rest.1)
