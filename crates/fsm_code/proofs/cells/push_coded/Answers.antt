-- A cell by its part, in four cases.
use Rattle.std.proofs.Common.{◌≡◌, ◌==◌, true, false, arith}
use Rattle.net_model.specs.Fsm.Find.{has_place}
use Rattle.fsm_code.specs.Links.{linked}
use Rattle.fsm_code.specs.Outputs.{coding_of}
use Rattle.fsm_code.proofs.Placing.{at_compare, at_flop, at_fork, at_other}
use Rattle.fsm_code.proofs.cells.push_coded.Goals as goal

pub returns-then-at-places : goal.returns-then-at-places
returns-then-at-places c = record {
  ok = λ ports m b count is t p low.
      let flop : (c.args.at == c.args.by.now.machine.now.flop) ≡ true = grind (arith, c.if-at-places.true, p.flop) in
      at_flop m (coding_of c.args.by.now.coding.now) c.args.cell c.args.by.now.machine.now c.args.at (linked b c.args.links.now) c.args.cells.now.items c.in_ok-flop.flop c.push.new.self.items flop (c.in_ok-flop.ensures.value ports m is t) c.in_ok-push.ensures.items;
}

pub returns-then-is_marked : goal.returns-then-is_marked
returns-then-is_marked c = record {
  ok = λ ports m b count is t p low.
      let flop : (c.args.at == c.args.by.now.machine.now.flop) ≡ false = grind (arith, c.if-at-places.false, p.flop) in
      let fork : has_place c.args.by.now.machine.now.muxes c.args.at ≡ true = grind (arith, c.is_marked.ensures.value, c.if-is_marked.true, c.as_slice.ensures.value, p.forks.marked c.args.at low) in
      at_fork m (coding_of c.args.by.now.coding.now) c.args.cell c.args.by.now.machine.now c.args.at (linked b c.args.links.now) c.args.cells.now.items c.in_ok-fork.fork c.push-then-is_marked.new.self.items flop fork (c.in_ok-fork.ensures.value ports m is t) c.in_ok-push-2.ensures.items;
}

pub returns-then-is_marked-2 : goal.returns-then-is_marked-2
returns-then-is_marked-2 c = record {
  ok = λ ports m b count is t p low.
      let flop : (c.args.at == c.args.by.now.machine.now.flop) ≡ false = grind (arith, c.if-at-places.false, p.flop) in
      let fork : has_place c.args.by.now.machine.now.muxes c.args.at ≡ false = grind (arith, c.is_marked.ensures.value, c.if-is_marked.false, c.as_slice.ensures.value, p.forks.marked c.args.at low) in
      let compare : has_place c.args.by.now.machine.now.compares c.args.at ≡ true = grind (arith, c.is_marked-2.ensures.value, c.if-is_marked-2.true, c.as_slice-2.ensures.value, p.compares.marked c.args.at low) in
      at_compare m (coding_of c.args.by.now.coding.now) c.args.cell c.args.by.now.machine.now c.args.at (linked b c.args.links.now) c.args.cells.now.items (c.push_compare.new.cells.items, linked b c.push_compare.new.links) flop fork compare (c.in_ok-push_compare.ensures.ok ports m b is);
}

pub returns : goal.returns
returns c = record {
  ok = λ ports m b count is t p low.
      let flop : (c.args.at == c.args.by.now.machine.now.flop) ≡ false = grind (arith, c.if-at-places.false, p.flop) in
      let fork : has_place c.args.by.now.machine.now.muxes c.args.at ≡ false = grind (arith, c.is_marked.ensures.value, c.if-is_marked.false, c.as_slice.ensures.value, p.forks.marked c.args.at low) in
      let compare : has_place c.args.by.now.machine.now.compares c.args.at ≡ false = grind (arith, c.is_marked-2.ensures.value, c.if-is_marked-2.false, c.as_slice-2.ensures.value, p.compares.marked c.args.at low) in
      at_other m (coding_of c.args.by.now.coding.now) c.args.cell c.args.by.now.machine.now c.args.at (linked b c.args.links.now) c.args.cells.now.items c.push-2.new.self.items flop fork compare c.in_ok-push-3.ensures.items;
}
