-- The write ports of a memory: cells in rising number, and then lines of processes.
use Rattle.std.specs.Prelude.{ℕ, ◌+◌, ◌==◌, max, Bool, false, ◌&&◌, ◌||◌, List, [], ◌∷◌, ◌++◌, length, map, filter, flat_map, Option, Some, None, if◌then◌else◌, nat_le}
use Rattle.std.specs.List.{range_with_len}
use Rattle.std.specs.Str.{bytes_eq}
use Rattle.rtl_bits.specs.declared.bit.Bit.{Bit}
use Rattle.rtl_bits.specs.declared.bit.Bit.TheVariants.{S0, S1, X}
use Rattle.rtl_bits.specs.Numbers.{is_one}
use Rattle.rtl_sig.specs.declared.sig.SigBit.{SigBit}
use Rattle.rtl_sig.specs.declared.sig.SigBit.TheVariants.{Fixed}
use Rattle.cell_types.specs.declared.level.Level.TheVariants as At
use Rattle.cell_types.specs.declared.param_name.ParamName.TheVariants.{ClkPolarity, Portid, PriorityMask}
use Rattle.cell_types.specs.declared.pin_name.PinName.TheVariants.{Clk, En, Addr, Data}
use Rattle.cell_types.specs.Given.{number_in, value_in}
use Rattle.cell_types.specs.Levels.{level_in}
use Rattle.cell_types.specs.PinName.{pin_text}
use Rattle.rtl_ir.specs.declared.cell.Cell.{Cell}
use Rattle.rtl_ir.specs.declared.process.Event.{Event}
use Rattle.rtl_ir.specs.declared.process.Event.TheVariants.{Posedge, Negedge}
use Rattle.rtl_ir.specs.declared.process.Process.{Process}
use Rattle.rtl_ir.specs.declared.process.SyncRule.{SyncRule}
use Rattle.rtl_ir.specs.declared.process.WriteLine.{WriteLine}
use Rattle.rtl_ir.specs.Constants.{value_bits}
use Rattle.rtl_ir.specs.Flat.Process.{Trigger}
use Rattle.rtl_ir.specs.Parameters.{given_params, signal_at}
use Rattle.rtl_ir.specs.WritePorts.{is_write_cell, is_of_memory}

-- a write port: its number, the ports by number that it may follow, its clock, and what it writes where
pub record Access : Type 0 where
  pub number : ℕ
  pub mask : List Bit
  pub clock : Trigger
  pub address : List SigBit
  pub new : List SigBit
  pub enable : List SigBit

-- a write cell as a port
abbrev pub cell_access : Cell → Access
cell_access c = record {
  number = number_in (given_params c.params) Portid;
  mask = value_in (given_params c.params) PriorityMask;
  clock = record { signal = signal_at c.pins (pin_text Clk); level = level_in (given_params c.params) ClkPolarity };
  address = signal_at c.pins (pin_text Addr);
  new = signal_at c.pins (pin_text Data);
  enable = signal_at c.pins (pin_text En);
}

-- a port before the first one whose number is not less
abbrev pub place_access : Access → List Access → List Access
place_access a [] = a ∷ []
place_access a (b ∷ accesses) =
    if nat_le a.number b.number then a ∷ b ∷ accesses else b ∷ place_access a accesses

-- ports in rising number
abbrev pub in_access_order : List Access → List Access
in_access_order [] = []
in_access_order (a ∷ accesses) = place_access a (in_access_order accesses)

-- the write cells of a memory as ports
abbrev pub cell_accesses : List ℕ → List Cell → List Access
cell_accesses name cells =
    in_access_order (map cell_access (filter (λ (c : Cell). is_write_cell c.kind_name && is_of_memory name c) cells))

-- the first number behind those of these ports, 0 where there is none
abbrev pub next_number : List Access → ℕ
next_number [] = 0
next_number (a ∷ accesses) = max (a.number + 1) (next_number accesses)

-- the edge at which a line writes
abbrev pub write_trigger : Event → Trigger
write_trigger (Posedge signal) = record { signal = signal; level = At.High }
write_trigger (Negedge signal) = record { signal = signal; level = At.Low }
write_trigger event = record { signal = []; level = At.Low }

-- whether a line may follow the port of a number: the earlier lines of its rule with the ports that they are in this
-- memory, and a bit of the line's mask for each of them
abbrev pub line_follows : ℕ → List (Option ℕ) → List Bit → Bool
line_follows number [] mask = false
line_follows number (line ∷ lines) [] = false
line_follows number (None ∷ lines) (b ∷ mask) = line_follows number lines mask
line_follows number (Some port ∷ lines) (b ∷ mask) = ((port == number) && is_one b) || line_follows number lines mask

-- the mask of a line as that of a port of this number: a bit for each number before it, at least one bit
abbrev pub line_mask : ℕ → List (Option ℕ) → List Bit → List Bit
line_mask number lines mask =
    map (λ port. if line_follows port lines mask then S1 else S0) (range_with_len 0 (max number 1))

-- a line as the port of a number, behind these lines of its rule
abbrev pub line_access : Event → ℕ → List (Option ℕ) → WriteLine → Access
line_access event number lines line = record {
  number = number;
  mask = line_mask number lines (value_bits line.mask);
  clock = write_trigger event;
  address = line.address;
  new = line.value;
  enable = line.enable;
}

-- the lines of a rule that write the memory of this name, numbered from here on
abbrev pub line_accesses : List ℕ → Event → ℕ → List (Option ℕ) → List WriteLine → List Access
line_accesses name event number before [] = []
line_accesses name event number before (line ∷ lines) =
    if bytes_eq name line.memory
    then line_access event number before line ∷ line_accesses name event (number + 1) (before ++ Some number ∷ []) lines
    else line_accesses name event number (before ++ None ∷ []) lines

-- the same of several rules, in order
abbrev pub rule_accesses : List ℕ → ℕ → List SyncRule → List Access
rule_accesses name number [] = []
rule_accesses name number (rule ∷ rules) =
    let here = line_accesses name rule.event number [] rule.writes in
    here ++ rule_accesses name (number + length here) rules

-- the write ports of the memory of this name, in rising number: lines are numbered on from the cells, in order of process and line
abbrev pub accesses_of : List ℕ → List Cell → List Process → List Access
accesses_of name cells processes =
    let here = cell_accesses name cells in
    here ++ rule_accesses name (next_number here) (flat_map (λ (p : Process). p.syncs) processes)

-- the clock of the first port
abbrev pub first_trigger : List Access → Trigger
first_trigger [] = record { signal = Fixed X ∷ []; level = At.High }
first_trigger (a ∷ accesses) = a.clock
