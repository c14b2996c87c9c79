-- What the step promises where start values are moved already and each bit lies within its wire.
use Rattle.rtl_ir.specs.Scope.{with_processes}
use Rattle.rtl_ir.specs.Types.{table_ports}
use Rattle.rtl_ir.specs.declared.module.Module.{Module}
use Rattle.rtl_ir.specs.declared.ports.PortTable.{PortTable}
use Rattle.proc_laws.specs.Ready.{AreRuled, HasItsBits, HaveNoStarts, IsReady}
use Rattle.proc_laws.specs.Step.{IsStep}
use Rattle.reset_laws.specs.Trees.{TreesHaveBits}
use Rattle.proc_laws.specs.Kinds.{HaveNoTwoEdges}

-- a step after which resets are levels
pub record Levels (table : PortTable) (before after : Module) : Type 0 where
  -- it is a step
  pub step : IsStep table before after
  -- the answer may be given to the next step
  pub ready : IsReady with_processes (table_ports table.modules) after
  -- its switches are read by the rules still
  pub ruled : AreRuled after
  -- no rule gives start values
  pub starts : HaveNoStarts after
  -- its storage bits lie within their wires
  pub placed : HasItsBits after
  -- and so do the bits of its trees
  pub trees : TreesHaveBits after
  -- no process has two rules at edges
  pub edges : HaveNoTwoEdges after
