use Rattle.net_index.specs.Numbering.{widths_of}
use Rattle.net_index.proofs.Numbers.{AreRows, made_rows, rows_made, view_made}
use Rattle.net_index.proofs.numbering.Numbering.of.Goals as goal

made : (c : goal.After-loop-wire) → AreRows (widths_of c.args.wires.now) c.loop-wire.rows.items c.loop-wire.count
made c = made_rows c.args.wires.now c.loop-wire.wire-index c.loop-wire-test.false c.loop-wire.rows.items c.loop-wire.count c.loop-wire.invariant.rows c.loop-wire.invariant.count

pub invariant_of-result : goal.invariant_of-result
invariant_of-result c = rows_made (widths_of c.args.wires.now) c.loop-wire.rows.items c.loop-wire.count (made c)

pub returns : goal.returns
returns c = record { widths = view_made (widths_of c.args.wires.now) c.loop-wire.rows.items c.loop-wire.count (made c) }
