use Rattle.std.proofs.Common.{arith}
use Rattle.rtl_ir.specs.SwitchRules.{asks_as_much}
use Rattle.net_index.proofs.DriverReading.{all_end}
use Rattle.net_index.proofs.driver_patterns.is_covered_by.Goals as goal

pub returns : goal.returns
returns c = record { value = all_end asks_as_much c.args.earlier.now c.args.pattern.now c.loop-at.at (omega arith) _ c.loop-at.invariant }
