use Rattle.std.proofs.Common.{rules, ◌≡◌, ◌<◌, ◌+◌, ◌-◌, false, true, length, drop, arith, ap, subst, sym, ◌∙◌, inl, inr, add-one}
use Rattle.std.specs.Prelude.{IfOk, slice_get, unwrap_or}
use Rattle.std.proofs.lemmas.Option.{slice_get_within}
use Rattle.rtl_sig.specs.declared.sig.SigBit.{SigBit}
use Rattle.rtl_ir.specs.Assigns.{tree_bits}
use Rattle.rtl_ir.specs.Signals.{has_bit}
use Rattle.rtl_ir.specs.Tree.{CaseView, switches_depth, switches_of}
use Rattle.match_cells.specs.Numbers.{HasSwitches}
use Rattle.match_cells.proofs.NodeRows.{case_deep, case_table, entry_is, node_is, nodes_length, switch_deep}
use Rattle.net_index.specs.Builder.{PassesLimit}
use Rattle.proc_latch.specs.Chains.{Chained, reads, seen}
use Rattle.proc_latch.specs.Sides.{side_of}
use Rattle.proc_latch.proofs.Leaves.{chain_made, chain_new, chain_over, is_fixed, leaf_deeper, leaf_fixed, leaf_other, leaf_own, new_is, new_start_over, new_value_over, reads_add}
use Rattle.proc_latch.proofs.Ranks.{rank_falls}
use Rattle.proc_latch.proofs.Searching.{case_order}
use Rattle.proc_latch.specs.Givens.{AreInOrder}
use Rattle.proc_latch.proofs.Walking.{body_over, case_goes, case_over, cases_end, has_switch, start_over, switch_goes, switch_over, switches_end}
use Rattle.proc_latch.proofs.chains.Chains.+chain.Goals as goal

pub case_chain-returns-in_err-start-clause-over : goal.case_chain-returns-in_err-start-clause-over
case_chain-returns-in_err-start-clause-over t c e =
    start_over (reads c.args.way.now.read.now c.args.way.now.depth) c.args.way.now.given.now (reads_add c.args.way.now.read.now c.args.way.now.depth) c.args.arm.now.node c.args.arm.now.signal.now c.args.arm.now.case.now.patterns c.args.arm.now.case.now.switches c.args.prior c.args.acc (seen c.args.self.now)
    c.value_at-given.result c.value_at-given.ensures.value (search (rules, c.start.ensures.over, e, c.from_residual.ensures))

pub case_chain-overflow_add-node : goal.case_chain-overflow_add-node
case_chain-overflow_add-node t c =
    let nodes = c.args.way.now.read.now.tables.now.nodes in
    omega (arith, slice_get_within nodes.items c.args.arm.now.node _ c.requires.behind, nodes.ok, nodes.small)

pub case_chain-returns-in_err-body-clause-over : goal.case_chain-returns-in_err-body-clause-over
case_chain-returns-in_err-body-clause-over t c e =
    let inner : switches_of c.as_slice-switches.result.now ≡ c.args.arm.now.case.now.switches = ap switches_of c.as_slice-switches.ensures.value ∙ ap (λ (x : CaseView). x.switches) c.case.view_is in
    body_over (reads c.args.way.now.read.now c.args.way.now.depth) c.args.way.now.given.now (reads_add c.args.way.now.read.now c.args.way.now.depth) c.args.arm.now.node c.args.arm.now.signal.now c.args.arm.now.case.now.patterns c.args.arm.now.case.now.switches c.args.prior c.args.acc (seen c.args.self.now)
    c.in_ok-start.start (seen c.start.new.self) c.value_at-given.result c.value_at-given.ensures.value c.in_ok-start.ensures.exact _ inner (search (rules, c.switches_chain.ensures.over, e, c.from_residual-in_err-body.ensures))

pub cases_chain-loop-at-init : goal.cases_chain-loop-at-init
cases_chain-loop-at-init t c = record {
  all = cases_end (reads c.args.way.now.read.now c.args.way.now.depth) c.args.way.now.given.now (reads_add c.args.way.now.read.now c.args.way.now.depth) c.args.node c.args.signal.now c.args.prior (seen c.args.self.now) c.args.cases.now (length c.args.cases.now) (omega arith);
  within = λ h. h;
}

pub cases_chain-bounds-nodes-at : goal.cases_chain-bounds-nodes-at
cases_chain-bounds-nodes-at t c =
    omega (arith, nodes_length c.args.node c.args.cases.now, ap length c.as_slice-nodes.ensures.value, ap length c.in_ok-nodes.ensures.value)

pub cases_chain-case_chain-requires : goal.cases_chain-case_chain-requires
cases_chain-case_chain-requires t c =
    let h : c.loop-at.at - 1 < length c.args.cases.now = omega arith in
    let both = case_table c.args.way.now.read.now.tables.now.nodes.items c.args.node c.args.cases.now (c.loop-at.at - 1) c.index-cases-at.result h c.index-cases-at.is c.as_slice-nodes.result.now 0 (c.as_slice-nodes.ensures.value ∙ c.in_ok-nodes.ensures.value) c.requires.table in
    let deep = case_deep c.args.cases.now (c.loop-at.at - 1) c.index-cases-at.result h c.index-cases-at.is in
    (omega (arith, deep, c.decreases), (c.requires.read, (c.requires.in_order, (both.0, both.1))))

pub cases_chain-returns-in_err-value-clause-over : goal.cases_chain-returns-in_err-value-clause-over
cases_chain-returns-in_err-value-clause-over t c e =
    let h : c.loop-at.at - 1 < length c.args.cases.now = omega arith in
    let next : c.loop-at.at ≡ (c.loop-at.at - 1) + 1 = omega arith in
    let is = node_is c.args.node c.args.cases.now (c.loop-at.at - 1) 0 c.as_slice-nodes.result.now h (c.as_slice-nodes.ensures.value ∙ c.in_ok-nodes.ensures.value) in
    case_over (reads c.args.way.now.read.now c.args.way.now.depth) c.args.way.now.given.now (reads_add c.args.way.now.read.now c.args.way.now.depth) c.args.node c.args.signal.now c.args.prior (seen c.args.self.now) c.args.cases.now (c.loop-at.at - 1) c.index-cases-at.result h c.index-cases-at.is
    c.loop-at.at _ c.args.prior next is (λ i. c.args.prior) c.loop-at.value (seen c.loop-at.self) c.loop-at.invariant.all
    (search (rules, c.case_chain.ensures.over, e, c.from_residual-in_err-value.ensures))

pub cases_chain-loop-at-preserved : goal.cases_chain-loop-at-preserved
cases_chain-loop-at-preserved t c =
    let h : c.loop-at.at - 1 < length c.args.cases.now = omega arith in
    let next : c.loop-at.at ≡ (c.loop-at.at - 1) + 1 = omega arith in
    let is = node_is c.args.node c.args.cases.now (c.loop-at.at - 1) 0 c.as_slice-nodes.result.now h (c.as_slice-nodes.ensures.value ∙ c.in_ok-nodes.ensures.value) in
    record {
      all =
          case_goes (reads c.args.way.now.read.now c.args.way.now.depth) c.args.way.now.given.now (reads_add c.args.way.now.read.now c.args.way.now.depth) c.args.node c.args.signal.now c.args.prior (seen c.args.self.now) c.args.cases.now (c.loop-at.at - 1) c.index-cases-at.result h c.index-cases-at.is
          c.loop-at.at _ c.args.prior next is (λ i. c.args.prior) c.loop-at.value (seen c.loop-at.self) c.loop-at.invariant.all _ c.in_ok-value.ensures.exact;
      within = λ few. c.in_ok-value.ensures.within (c.loop-at.invariant.within few);
    }

pub chain-returns-in-Some-clause-exact : goal.chain-returns-in-Some-clause-exact
chain-returns-in-Some-clause-exact t c =
    chain_made (reads c.args.read.now c.args.depth) (side_of c.args.read.now.side) c.args.read.now.root.now c.args.bit (seen c.args.self.now) c.in-Some.value (sym c.chain_at.ensures.value ∙ c.in-Some.is)

pub chain-returns-in-None-clause-exact : goal.chain-returns-in-None-clause-exact
chain-returns-in-None-clause-exact t c =
    subst (λ r. IfOk c.new_chain.result (λ value. (value, seen c.new_chain.new.self) ≡ r))
    (chain_new (reads c.args.read.now c.args.depth) (side_of c.args.read.now.side) c.args.read.now.root.now c.args.bit (seen c.args.self.now) (sym c.chain_at.ensures.value ∙ c.in-None.is)) c.new_chain.ensures.exact

pub chain-returns-in-None-clause-over : goal.chain-returns-in-None-clause-over
chain-returns-in-None-clause-over t c e =
    chain_over (reads c.args.read.now c.args.depth) (side_of c.args.read.now.side) c.args.read.now.root.now c.args.bit (seen c.args.self.now) (sym c.chain_at.ensures.value ∙ c.in-None.is) (c.new_chain.ensures.over e)

pub leaf-returns-in-Fixed-clause-exact : goal.leaf-returns-in-Fixed-clause-exact
leaf-returns-in-Fixed-clause-exact t c =
    ap (λ s. (s, seen c.args.self.now)) c.other_leaf.ensures.value
    ∙ sym (leaf_fixed (side_of c.args.read.now.side) c.args.read.now.root.now (tree_bits c.args.read.now.root.now) c.args.read.now.own c.args.depth c.args.leaf (seen c.args.self.now) (subst is_fixed (sym c.in-Fixed.is) tt))

pub new_chain-returns-in_err-start-clause-over : goal.new_chain-returns-in_err-start-clause-over
new_chain-returns-in_err-start-clause-over t c e =
    new_start_over (reads c.args.read.now c.args.depth) (reads_add c.args.read.now c.args.depth) (side_of c.args.read.now.side) c.args.read.now.root.now c.args.bit (seen c.args.self.now)
    c.of_bit-given.result.now (c.of_bit-given.ensures.value ∙ c.requires.read.given c.args.bit) c.missing_leaf-missing.result c.missing_leaf-missing.ensures.value c.value_at.result c.value_at.ensures.value
    (search (rules, c.start.ensures.over, e, c.from_residual.ensures))

pub new_chain-returns-in_err-value-clause-over : goal.new_chain-returns-in_err-value-clause-over
new_chain-returns-in_err-value-clause-over t c e =
    let inner : switches_of c.as_slice-switches.result.now ≡ c.args.read.now.root.now.switches = ap switches_of c.as_slice-switches.ensures.value ∙ ap (λ (x : CaseView). x.switches) c.root.view_is in
    new_value_over (reads c.args.read.now c.args.depth) (reads_add c.args.read.now c.args.depth) (side_of c.args.read.now.side) c.args.read.now.root.now c.args.bit (seen c.args.self.now)
    c.of_bit-given.result.now (c.of_bit-given.ensures.value ∙ c.requires.read.given c.args.bit) c.missing_leaf-missing.result c.missing_leaf-missing.ensures.value c.value_at.result c.value_at.ensures.value
    c.in_ok-start.start (seen c.start.new.self) c.in_ok-start.ensures.exact _ inner (search (rules, c.switches_chain.ensures.over, e, c.from_residual-in_err-value.ensures))

pub new_chain-returns-clause-exact : goal.new_chain-returns-clause-exact
new_chain-returns-clause-exact t c =
    let inner : switches_of c.as_slice-switches.result.now ≡ c.args.read.now.root.now.switches = ap switches_of c.as_slice-switches.ensures.value ∙ ap (λ (x : CaseView). x.switches) c.root.view_is in
    ap (λ u. (c.in_ok-value.value, u)) c.in_ok-put_chain.ensures.ok
    ∙ new_is (reads c.args.read.now c.args.depth) (reads_add c.args.read.now c.args.depth) (side_of c.args.read.now.side) c.args.read.now.root.now c.args.bit (seen c.args.self.now)
    c.of_bit-given.result.now (c.of_bit-given.ensures.value ∙ c.requires.read.given c.args.bit) c.missing_leaf-missing.result c.missing_leaf-missing.ensures.value c.value_at.result c.value_at.ensures.value
    c.in_ok-start.start (seen c.start.new.self) c.in_ok-start.ensures.exact _ inner c.in_ok-value.value (seen c.switches_chain.new.self) c.in_ok-value.ensures.exact

pub switches_chain-switch_chain-requires : goal.switches_chain-switch_chain-requires
switches_chain-switch_chain-requires t c =
    let has = has_switch (reads c.args.way.now.read.now c.args.way.now.depth) c.args.way.now.given.now (reads_add c.args.way.now.read.now c.args.way.now.depth) c.args.switches.now c.loop-switch.switch-index c.switch-item.result c.loop-switch-test.true c.switch-item.is c.args.way.now.read.now.tables.now.nodes.items c.loop-switch.node c.loop-switch.invariant.has in
    let deep = switch_deep c.args.switches.now c.loop-switch.switch-index c.switch-item.result c.loop-switch-test.true c.switch-item.is in
    (omega (arith, deep, c.decreases), (c.requires.read, (c.requires.in_order, (has.0, has.1.0))))

pub switches_chain-returns-in_err-value-clause-over : goal.switches_chain-returns-in_err-value-clause-over
switches_chain-returns-in_err-value-clause-over t c e =
    switch_over (reads c.args.way.now.read.now c.args.way.now.depth) c.args.way.now.given.now (reads_add c.args.way.now.read.now c.args.way.now.depth) c.args.switches.now c.loop-switch.switch-index c.switch-item.result c.loop-switch-test.true c.switch-item.is
    c.loop-switch.node c.loop-switch.value (seen c.loop-switch.self) _ c.loop-switch.invariant.all
    (search (rules, c.switch_chain.ensures.over, e, c.from_residual.ensures))

pub switches_chain-loop-switch-preserved : goal.switches_chain-loop-switch-preserved
switches_chain-loop-switch-preserved t c =
    let has = has_switch (reads c.args.way.now.read.now c.args.way.now.depth) c.args.way.now.given.now (reads_add c.args.way.now.read.now c.args.way.now.depth) c.args.switches.now c.loop-switch.switch-index c.switch-item.result c.loop-switch-test.true c.switch-item.is c.args.way.now.read.now.tables.now.nodes.items c.loop-switch.node c.loop-switch.invariant.has in
    let is = entry_is c.args.way.now.read.now.tables.now.nodes.items c.loop-switch.node c.behind-node.result _ has.0 (c.behind-node.ensures.value ∙ ap (λ xs. unwrap_or (slice_get xs c.loop-switch.node) c.loop-switch.node) c.as_slice.ensures.value) in
    record {
      all =
          switch_goes (reads c.args.way.now.read.now c.args.way.now.depth) c.args.way.now.given.now (reads_add c.args.way.now.read.now c.args.way.now.depth) c.args.switches.now c.loop-switch.switch-index c.switch-item.result c.loop-switch-test.true c.switch-item.is
          c.loop-switch.node c.behind-node.result c.loop-switch.value c.in_ok-value.value (seen c.loop-switch.self) (seen c.switch_chain.new.self) _ is c.in_ok-value.ensures.exact c.loop-switch.invariant.all;
      has = subst (λ m. HasSwitches c.args.way.now.read.now.tables.now.nodes.items m (switches_of (drop (c.loop-switch.switch-index + 1) c.args.switches.now))) (sym is) has.1.1;
      within = λ few. c.in_ok-value.ensures.within (c.loop-switch.invariant.within few);
    }

pub switches_chain-returns-clause-exact : goal.switches_chain-returns-clause-exact
switches_chain-returns-clause-exact t c =
    switches_end (reads c.args.way.now.read.now c.args.way.now.depth) c.args.way.now.given.now (reads_add c.args.way.now.read.now c.args.way.now.depth) c.args.switches.now c.loop-switch.switch-index c.loop-switch.node (omega arith) c.loop-switch.value (seen c.loop-switch.self) _ c.loop-switch.invariant.all

pub leaf-returns-then-eq-clause-exact : goal.leaf-returns-then-eq-clause-exact
leaf-returns-then-eq-clause-exact t c =
    let r = c.args.read.now in
    ap (λ s. (s, seen c.args.self.now)) c.own_leaf.ensures.value
    ∙ sym (ap (λ s. reads r c.args.depth s (seen c.args.self.now)) c.in-Wire.is ∙ leaf_own (side_of r.side) r.root.now (tree_bits r.root.now) r.own c.args.depth c.in-Wire.bit (seen c.args.self.now) (sym c.eq.ensures ∙ c.if-eq.true))

pub leaf-returns-then-depth-eq0-clause-exact : goal.leaf-returns-then-depth-eq0-clause-exact
leaf-returns-then-depth-eq0-clause-exact t c =
    let r = c.args.read.now in
    ap (λ s. (s, seen c.args.self.now)) c.other_leaf-then-depth-eq0.ensures.value
    ∙ sym (ap (λ s. reads r c.args.depth s (seen c.args.self.now)) c.in-Wire.is ∙ leaf_other (side_of r.side) r.root.now (tree_bits r.root.now) r.own c.args.depth c.in-Wire.bit (seen c.args.self.now) (sym c.eq.ensures ∙ c.if-eq.false) (inl c.if-depth-eq0.true))

pub leaf-returns-then-not-has-clause-exact : goal.leaf-returns-then-not-has-clause-exact
leaf-returns-then-not-has-clause-exact t c =
    let r = c.args.read.now in
    let none : has_bit (tree_bits r.root.now) c.in-Wire.bit ≡ false = ap (λ bits. has_bit bits c.in-Wire.bit) (sym c.requires.read.bits) ∙ sym c.has.ensures.value ∙ c.if-not-has.true in
    ap (λ s. (s, seen c.args.self.now)) c.other_leaf-then-not-has.ensures.value
    ∙ sym (ap (λ s. reads r c.args.depth s (seen c.args.self.now)) c.in-Wire.is ∙ leaf_other (side_of r.side) r.root.now (tree_bits r.root.now) r.own c.args.depth c.in-Wire.bit (seen c.args.self.now) (sym c.eq.ensures ∙ c.if-eq.false) (inr none))

pub leaf-chain-requires : goal.leaf-chain-requires
leaf-chain-requires t c =
    let some : c.args.depth ≡ (c.args.depth - 1) + 1 = omega (arith, c.if-depth-eq0.false) in
    (omega (arith, rank_falls c.args.read.now.root.now c.args.depth (c.args.depth - 1) (some ∙ add-one (c.args.depth - 1)), c.decreases), c.requires.read)

pub leaf-returns-clause-exact : goal.leaf-returns-clause-exact
leaf-returns-clause-exact t c =
    let r = c.args.read.now in
    let some : c.args.depth ≡ (c.args.depth - 1) + 1 = omega (arith, c.if-depth-eq0.false) in
    let among : has_bit (tree_bits r.root.now) c.in-Wire.bit ≡ true = ap (λ bits. has_bit bits c.in-Wire.bit) (sym c.requires.read.bits) ∙ sym c.has.ensures.value ∙ c.if-not-has.false in
    let deeper = leaf_deeper (side_of r.side) r.root.now (tree_bits r.root.now) r.own c.args.depth (c.args.depth - 1) c.in-Wire.bit (seen c.args.self.now) (some ∙ add-one (c.args.depth - 1)) (sym c.eq.ensures ∙ c.if-eq.false) among in
    subst (λ (p : SigBit × Chained). IfOk c.chain.result (λ bit. (bit, seen c.chain.new.self) ≡ p)) (sym (ap (λ s. reads r c.args.depth s (seen c.args.self.now)) c.in-Wire.is ∙ deeper)) c.chain.ensures.exact

pub leaf-returns-clause-over : goal.leaf-returns-clause-over
leaf-returns-clause-over t c e =
    let r = c.args.read.now in
    let some : c.args.depth ≡ (c.args.depth - 1) + 1 = omega (arith, c.if-depth-eq0.false) in
    let among : has_bit (tree_bits r.root.now) c.in-Wire.bit ≡ true = ap (λ bits. has_bit bits c.in-Wire.bit) (sym c.requires.read.bits) ∙ sym c.has.ensures.value ∙ c.if-not-has.false in
    let deeper = leaf_deeper (side_of r.side) r.root.now (tree_bits r.root.now) r.own c.args.depth (c.args.depth - 1) c.in-Wire.bit (seen c.args.self.now) (some ∙ add-one (c.args.depth - 1)) (sym c.eq.ensures ∙ c.if-eq.false) among in
    subst (λ (p : SigBit × Chained). PassesLimit p.1.trees.building) (sym (ap (λ s. reads r c.args.depth s (seen c.args.self.now)) c.in-Wire.is ∙ deeper)) (c.chain.ensures.over e)

pub new_chain-value_at-requires : goal.new_chain-value_at-requires
new_chain-value_at-requires t c =
    record { in_order = subst AreInOrder (sym (c.of_bit-given.ensures.value ∙ c.requires.read.given c.args.bit)) (case_order c.args.bit c.args.read.now.root.now) }

pub new_chain-switches_chain-requires : goal.new_chain-switches_chain-requires
new_chain-switches_chain-requires t c =
    let inner : switches_of c.as_slice-switches.result.now ≡ c.args.read.now.root.now.switches = ap switches_of c.as_slice-switches.ensures.value ∙ ap (λ (x : CaseView). x.switches) c.root.view_is in (
      omega (arith, ap switches_depth inner, c.decreases),
      (
        c.requires.read,
        (
          subst AreInOrder (sym (c.of_bit-given.ensures.value ∙ c.requires.read.given c.args.bit)) (case_order c.args.bit c.args.read.now.root.now),
          subst (λ ss. HasSwitches c.args.read.now.tables.now.nodes.items 1 ss) (sym inner) c.requires.read.nodes,
        ),
      ),
    )
