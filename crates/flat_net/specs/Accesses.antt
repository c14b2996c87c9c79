-- The lines of processes that write a memory, as write ports.
use Rattle.std.specs.Prelude.{ℕ, ◌+◌, max, Bool, List, [], ◌∷◌, Option, Some, None, flat_map, if◌then◌else◌}
use Rattle.std.specs.List.{list_any}
use Rattle.std.specs.Str.{bytes_eq}
use Rattle.rtl_ir.specs.declared.plan.WritePort.{WritePort}
use Rattle.rtl_ir.specs.declared.process.Event.{Event}
use Rattle.rtl_ir.specs.declared.process.Process.{Process}
use Rattle.rtl_ir.specs.declared.process.SyncRule.{SyncRule}
use Rattle.rtl_ir.specs.declared.process.WriteLine.{WriteLine}

-- the first number behind those of these ports, 0 where there is none
abbrev pub next_of : List WritePort → ℕ
next_of [] = 0
next_of (w ∷ ports) = max (w.number + 1) (next_of ports)

-- whether one of the lines writes the memory of this name
abbrev pub have_line : List ℕ → List WriteLine → Bool
have_line name lines = list_any (λ (line : WriteLine). bytes_eq name line.memory) lines

-- the event of the first rule with such a line
abbrev pub event_of : List ℕ → List SyncRule → Option Event
event_of name [] = None
event_of name (rule ∷ rules) = if have_line name rule.writes then Some rule.event else event_of name rules

-- the rules of processes, in order
abbrev pub rules_of : List Process → List SyncRule
rules_of processes = flat_map (λ (p : Process). p.syncs) processes
