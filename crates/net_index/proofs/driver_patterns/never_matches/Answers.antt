use Rattle.std.proofs.Common.{arith}
use Rattle.rtl_ir.specs.SwitchRules.{is_refused}
use Rattle.net_index.proofs.DriverReading.{any_end}
use Rattle.net_index.proofs.driver_patterns.never_matches.Goals as goal

pub returns : goal.returns
returns c = record { value = any_end is_refused c.args.pattern.now c.args.signal.now c.loop-at.at (omega arith) _ c.loop-at.invariant }
