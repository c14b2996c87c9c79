-- Which keys a command asks for, how many builds and claims it makes, and what one that finds no memory leaves.
use Rattle.std.specs.Prelude.{◌≡◌, ◌+◌, ◌≤◌, ℕ, Bool, true, false, List, [], Option, Some, None, Result, Ok, Err}
use Rattle.std.specs.Option.{option_map_or}
use Rattle.rtl_bits.specs.declared.bit.Bit.{Bit}
use Rattle.rtl_ir.specs.Types.{module_named}
use Rattle.result_cache.specs.Filled.{new_count}
use Rattle.result_cache.specs.Counts.{claims}
use Rattle.result_cache.specs.Seats.{Seated}
use Rattle.build_crew.specs.Kept.{given_back, times_by}
use Rattle.build_crew.specs.Leaves.{times_among}
use Rattle.build_crew.specs.Rises.{RisesUpTo}
use Rattle.desk_read.specs.declared.command.Command.{Command}
use Rattle.desk_read.specs.declared.command.Command.TheVariants.{Run, Print, SimNetlist}
use Rattle.desk_core.specs.Ages.{texts_of}
use Rattle.desk_core.specs.Netlist.{key_texts}
use Rattle.desk_core.specs.State.{State}
use Rattle.sim_trace.specs.Stimulus.{stimulus_of}

-- the design and the script stay, and the kept keys with their ages
pub record KeepsAll (before after : State) : Type 0 where
  pub design : after.design ≡ before.design
  pub script : after.script ≡ before.script
  pub kept : after.kept ≡ before.kept

-- the keys of the present design
abbrev pub present_keys : State → List (List ℕ)
present_keys s = key_texts s.script s.design.modules

-- these keys, where a stimulus has no bad line
abbrev pub if_stimulus : Result (List (List Bit)) ℕ → List (List ℕ) → List (List ℕ)
if_stimulus (Ok stimulus) keys = keys
if_stimulus (Err number) keys = []

-- the keys that a command asks for: those of the present design, where it needs the netlist
abbrev pub asked_by : Command → State → List (List ℕ)
asked_by Run s = present_keys s
asked_by Print s = present_keys s
asked_by (SimNetlist ask) s =
    option_map_or (λ m. if_stimulus (stimulus_of m ask.steps) (present_keys s))
    (module_named s.design.modules ask.module) []
asked_by command s = []

-- a command needs the netlist
abbrev pub needs_netlist : Command → Bool
needs_netlist Run = true
needs_netlist Print = true
needs_netlist (SimNetlist ask) = true
needs_netlist command = false

-- how many keys a command builds at most: those that it asks for and that are not kept
abbrev pub builds_of : Command → State → ℕ
builds_of command s = new_count (texts_of s.kept) (asked_by command s)

-- seats made at least as many claims of each key as it stands among these
abbrev pub HasClaims : List (List ℕ) → List Seated → List Seated → Type 0
HasClaims keys olds news =
    (key : List ℕ) → times_by claims key olds + times_among key keys ≤ times_by claims key news

-- there were no more builds than so many and the tickets that seats gave back
pub record BuildsOrReturns (most : ℕ) (olds news : List Seated) (before after : ℕ) : Type 0 where
  pub gave : ℕ
  pub given : given_back news ≡ given_back olds + gave
  pub ticks : RisesUpTo (most + gave) before after
