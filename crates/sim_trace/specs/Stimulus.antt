-- The stimulus of a simulation, and its trace.
use Rattle.std.specs.Prelude.{ℕ, ◌+◌, ◌==◌, Bool, List, [], ◌∷◌, ◌++◌, Option, Some, None, Result, Ok, Err, codes, if◌then◌else◌}
use Rattle.std.specs.List.{flat_map}
use Rattle.rtl_bits.specs.declared.bit.Bit.{Bit}
use Rattle.rtl_ir.specs.declared.module.Design.{Design}
use Rattle.rtl_ir.specs.declared.module.Module.{Module}
use Rattle.rtl_ir.specs.declared.wire.Role.TheVariants.{Input, Output}
use Rattle.net_model.specs.declared.order.Order.{Order}
use Rattle.net_model.specs.Refine.{run_of}
use Rattle.sim_text.specs.Lines.{step_line, step_of}
use Rattle.sim_text.specs.Ports.{port_widths}

-- a byte ends a line
abbrev pub ends_line : ℕ → Bool
ends_line byte = byte == 10

-- a line with one byte more at its front, among the lines of a text
abbrev pub onto_line : ℕ → List (List ℕ) → List (List ℕ)
onto_line byte [] = []
onto_line byte (line ∷ lines) = (byte ∷ line) ∷ lines

-- the lines of a text: what stands before each LF
abbrev pub lines_of : List ℕ → List (List ℕ)
lines_of [] = []
lines_of (byte ∷ text) = if ends_line byte then [] ∷ lines_of text else onto_line byte (lines_of text)

-- the input vectors with that of one line more at their front, where it says one; else the line's number
abbrev pub with_step : ℕ → Option (List Bit) → Result (List (List Bit)) ℕ → Result (List (List Bit)) ℕ
with_step number None steps = Err number
with_step number (Some bits) (Ok steps) = Ok (bits ∷ steps)
with_step number (Some bits) (Err bad) = Err bad

-- the input vectors that lines say for input ports of these widths, or the number of the first line that says none; the first
-- line has this number
abbrev pub steps_from : ℕ → List ℕ → List (List ℕ) → Result (List (List Bit)) ℕ
steps_from number widths [] = Ok []
steps_from number widths (line ∷ lines) = with_step number (step_of widths line) (steps_from (number + 1) widths lines)

-- the stimulus of a module that a text says, or the number of its first bad line
abbrev pub stimulus_of : Module → List ℕ → Result (List (List Bit)) ℕ
stimulus_of m text = steps_from 1 (port_widths Input m) (lines_of text)

-- the lines of the trace of a module of a design in an order of time
abbrev pub trace_text : Order → Design → Module → List (List Bit) → List ℕ
trace_text order d m stimulus =
    flat_map (λ bits. step_line (port_widths Output m) bits ++ codes "\n") (run_of order d m stimulus)
