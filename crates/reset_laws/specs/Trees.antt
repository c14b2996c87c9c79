-- Modules whose trees assign bits that wires have.
use Rattle.rtl_ir.specs.Assigns.{case_assigns}
use Rattle.rtl_ir.specs.declared.module.Link.{Link}
use Rattle.rtl_ir.specs.declared.module.Module.{Module}
use Rattle.rtl_ir.specs.declared.process.Process.{Process}
use Rattle.net_model.specs.Within.{Each}
use Rattle.proc_laws.specs.Ready.{IsBitOf}

-- each bit that an assign of a process names lies within the width of its wire
abbrev pub TreesHaveBits : Module → Type 0
TreesHaveBits m =
    Each (λ (p : Process). Each (λ (l : Link). Each (IsBitOf m.wires) l.left) (case_assigns p.root)) m.processes
