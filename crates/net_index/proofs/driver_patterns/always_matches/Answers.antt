use Rattle.std.proofs.Common.{arith}
use Rattle.rtl_ir.specs.SwitchRules.{matches_place}
use Rattle.net_index.proofs.DriverReading.{all_end}
use Rattle.net_index.proofs.driver_patterns.always_matches.Goals as goal

pub returns : goal.returns
returns c = record { value = all_end matches_place c.args.pattern.now c.args.signal.now c.loop-at.at (omega arith) _ c.loop-at.invariant }
