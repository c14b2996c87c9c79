use Rattle.std.proofs.Common.{arith}
use Rattle.net_index.proofs.Numbers.{AreRows, rows_seen, number_found}
use Rattle.net_index.proofs.numbering.Numbering.find.Goals as goal

pub returns-then-bit-rows-clause-value : goal.returns-then-bit-rows-clause-value
returns-then-bit-rows-clause-value c =
    (number_found c.args.self.now c.self.inside.rows.items c.self.inside.count (rows_seen c.self.inside.rows.items c.self.inside.count c.args.self.now c.self.view_is c.self.invariant) c.as_slice-rows.result.now c.as_slice-rows.ensures.value c.args.bit (record { start = 0; width = 0 }) c.if-wire-rows.true c.if-bit-rows.true).value

pub returns-then-bit-rows-clause-within : goal.returns-then-bit-rows-clause-within
returns-then-bit-rows-clause-within c =
    (number_found c.args.self.now c.self.inside.rows.items c.self.inside.count (rows_seen c.self.inside.rows.items c.self.inside.count c.args.self.now c.self.view_is c.self.invariant) c.as_slice-rows.result.now c.as_slice-rows.ensures.value c.args.bit (record { start = 0; width = 0 }) c.if-wire-rows.true c.if-bit-rows.true).within

pub returns-then-bit-rows-clause-fits : goal.returns-then-bit-rows-clause-fits
returns-then-bit-rows-clause-fits c =
    let seen : AreRows c.args.self.now c.self.inside.rows.items c.self.inside.count = rows_seen c.self.inside.rows.items c.self.inside.count c.args.self.now c.self.view_is c.self.invariant in
    let n = number_found c.args.self.now c.self.inside.rows.items c.self.inside.count seen c.as_slice-rows.result.now c.as_slice-rows.ensures.value c.args.bit (record { start = 0; width = 0 }) c.if-wire-rows.true c.if-bit-rows.true in
    omega (arith, seen.count, n.within)
