use Rattle.std.proofs.Common.{◌<◌, ◌≤◌, ◌∙◌, length, arith}
use Rattle.opt_clean.proofs.Tables.{place_past, place_within}
use Rattle.opt_clean.proofs.wires.Moves.place.Goals as goal

pub returns-then-wire-len : goal.returns-then-wire-len
returns-then-wire-len c = record {
  value = λ marks are.
      let lt : c.args.wire < length c.args.self.now.places.items = omega (arith, c.if-wire-len.true, c.len.ensures) in
      c.index.ensures ∙ place_within marks c.args.self.now.places.items c.args.wire c.index.result.now are.places lt;
}

pub returns-else-wire-len : goal.returns-else-wire-len
returns-else-wire-len c = record {
  value = λ marks are.
      let le : length c.args.self.now.places.items ≤ c.args.wire = omega (arith, c.if-wire-len.false, c.len.ensures) in
      place_past marks c.args.self.now.places.items c.args.wire c.args.self.now.count are.places are.count le;
}
