-- Edges and levels of rules, as contracts see them.
use Rattle.rtl_ir.specs.Flat.Process as flat
use Rattle.rtl_ir.specs.declared.trigger.Trigger.{Trigger}

-- the edge or the level, as the definitions have it
abbrev pub trigger_of : Trigger → flat.Trigger
trigger_of t = record { signal = t.signal.now; level = t.level }
