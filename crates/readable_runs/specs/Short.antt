-- The names of the memories that lines of processes write, as the write ports that these lines become can hold them as strings.
use Rattle.std.specs.Prelude.{◌*◌, ◌≤◌, length}
use Rattle.rtl_ir.specs.declared.limits.TheConstants.{MAX_WIDTH}
use Rattle.rtl_ir.specs.declared.module.Design.{Design}
use Rattle.rtl_ir.specs.declared.module.Module.{Module}
use Rattle.rtl_ir.specs.declared.process.Process.{Process}
use Rattle.rtl_ir.specs.declared.process.SyncRule.{SyncRule}
use Rattle.rtl_ir.specs.declared.process.WriteLine.{WriteLine}
use Rattle.net_model.specs.Within.{Each}

-- the name of the memory that a line writes is as a string no longer than a constant: at most 131,072 bytes
abbrev pub WritesShort : WriteLine → Type 0
WritesShort l = (8 * length l.memory ≤ MAX_WIDTH)

-- the same of each line of a module that writes
abbrev pub NamesShortMemories : Module → Type 0
NamesShortMemories m = Each (λ (p : Process). Each (λ (r : SyncRule). Each WritesShort r.writes) p.syncs) m.processes

-- and of each module of a design
abbrev pub HasShortMemories : Design → Type 0
HasShortMemories d = Each NamesShortMemories d.modules
