use Rattle.std.proofs.Common.{[], ◌∷◌}
use Rattle.rtl_ir.specs.Drivers.{FromPort}
use Rattle.net_index.proofs.IndexDrives.{adds_next, next_of_wire, put_adds}
use Rattle.net_index.proofs.driver_fill.add_wire.Goals as goal

pub loop-at-preserved : goal.loop-at-preserved
loop-at-preserved c =
    adds_next c.loop-at.drivers c.put_first.new.self c.args.drivers.now (record { bit = record { wire = c.args.wire; at = c.loop-at.at }; source = FromPort } ∷ []) _ _ _ (next_of_wire c.args.wire c.loop-at.at c.args.width c.loop-at-test.true)
    (put_adds c.loop-at.drivers c.put_first.new.self (record { wire = c.args.wire; at = c.loop-at.at }) FromPort c.in_ok-put_first.ensures.ok) c.loop-at.invariant
