use Rattle.std.proofs.Common.{sym, ◌∙◌, ap, drop, ◌+◌}
use Rattle.std.specs.Prelude.{◌&&◌, not}
use Rattle.std.proofs.Math.ListN.{drop_of_length-le}
use Rattle.rtl_ir.specs.Outputs.{is_output}
use Rattle.net_model.specs.Fsm.Find.{followed_bits, meets_any, ports_read_well, whole_wire}
use Rattle.fsm_find.proofs.Comparing.{ports_next}
use Rattle.fsm_find.proofs.readers.ports_read_well.Goals as goal

pub returns-then-not-branch : goal.returns-then-not-branch
returns-then-not-branch c = record {
  value = λ ports m bits view marks.
      let w = c.index-wires-at.result in
      let here = c.in_ok-port_reads_well.ensures.value ports m bits view marks ∙ ap (λ n. not (is_output w.role && meets_any (followed_bits m (whole_wire n w)) bits)) c.in_ok-place.ensures.value in
      sym (c.loop-at.invariant ports m bits view marks ∙ ports_next m bits c.args.wires.now c.loop-at.at w c.loop-at-test.true c.index-wires-at.is ∙ ap (λ t. t && ports_read_well m bits (c.loop-at.at + 1) (drop (c.loop-at.at + 1) c.args.wires.now)) (sym here ∙ c.if-not-branch.true));
}

pub loop-at-preserved : goal.loop-at-preserved
loop-at-preserved c = λ ports m bits view marks.
    let w = c.index-wires-at.result in
    let here = c.in_ok-port_reads_well.ensures.value ports m bits view marks ∙ ap (λ n. not (is_output w.role && meets_any (followed_bits m (whole_wire n w)) bits)) c.in_ok-place.ensures.value in
    c.loop-at.invariant ports m bits view marks ∙ ports_next m bits c.args.wires.now c.loop-at.at w c.loop-at-test.true c.index-wires-at.is ∙ ap (λ t. t && ports_read_well m bits (c.loop-at.at + 1) (drop (c.loop-at.at + 1) c.args.wires.now)) (sym here ∙ c.if-not-branch.false)

pub returns : goal.returns
returns c = record {
  value = λ ports m bits view marks. sym (c.loop-at.invariant ports m bits view marks ∙ ap (ports_read_well m bits c.loop-at.at) (drop_of_length-le c.args.wires.now c.loop-at-test.false));
}
