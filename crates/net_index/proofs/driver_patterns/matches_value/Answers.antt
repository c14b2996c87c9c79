use Rattle.std.proofs.Common.{arith}
use Rattle.rtl_ir.specs.SwitchRules.{matches_bit}
use Rattle.net_index.proofs.DriverReading.{all_end}
use Rattle.net_index.proofs.driver_patterns.matches_value.Goals as goal

pub returns : goal.returns
returns c = record { value = all_end matches_bit c.args.pattern.now c.args.value.now c.loop-at.at (omega arith) _ c.loop-at.invariant }
