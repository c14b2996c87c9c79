-- How two rules stand together.
use Rattle.std.specs.Prelude.{Option, Some}
use Rattle.rtl_ir.specs.declared.trigger.Trigger.{Trigger}
use Rattle.flat_net.specs.declared.rules.Paired.{Paired}
use Rattle.flat_net.specs.declared.rules.Paired.TheVariants.{First, Second, Edges}

-- by the edges and the levels that two rules are
abbrev pub pairing_of : Option Trigger → Option Trigger → Option Trigger → Option Trigger → Paired
pairing_of (Some e) edge level (Some l) = First e l
pairing_of edge (Some e) (Some l) level = Second e l
pairing_of edge edge' level level' = Edges
