use Rattle.std.proofs.Common.{◌≡◌, ◌+◌, ◌++◌, ◌∷◌, [], ◌∙◌, ap, sym, take, refl}
use Rattle.std.specs.Prelude.{if◌then◌else◌}
use Rattle.std.proofs.lemmas.List.{take_more}
use Rattle.rtl_bits.specs.declared.bit.Bit.TheVariants.{X}
use Rattle.cell_gate.specs.Control.{pick_of}
use Rattle.sim_eval.specs.Written.{follows_all, is_zero, number_at, number_hit, writers_of}
use Rattle.sim_eval.proofs.Writing.{after_end, after_next, writers_next}
use Rattle.sim_eval.proofs.written.written.Goals as goal

pub loop-port-init : goal.loop-port-init
loop-port-init c = record { writers = c.new-writers.ensures.items; goes = λ ps apart same within. refl }

pub loop-port-preserved : goal.loop-port-preserved
loop-port-preserved c =
    let values = c.args.values.now in
    let bit = c.args.bit.now in
    let ports = c.args.ports.now in
    let i = c.loop-port.port-index in
    let port = c.port-item.result in
    let hit = number_hit values bit.address bit.at port in
    let were = c.loop-port.invariant.writers in
    let more : take (i + 1) ports ≡ take i ports ++ port ∷ [] = take_more ports i port c.loop-port-test.true ∙ ap (λ x. take i ports ++ x ∷ []) (sym c.port-item.is) in
    record {
      writers =
          c.in_ok-value.ensures.writers
          ∙ (λ j. if is_zero hit then were j else were j ++ port.number ∷ [])
          ∙ sym (writers_next values bit.address bit.at (take i ports) port)
          ∙ ap (writers_of values bit.address bit.at) (sym more);
      goes = λ ps apart same within.
          after_next ps values apart same bit.address bit.at ports i port c.loop-port.value c.in_ok-value.value _ c.loop-port-test.true c.port-item.is within (c.loop-port.invariant.goes ps apart same within)
          (c.in_ok-value.ensures.value ∙ ap (λ ns. pick_of hit (if follows_all port.mask ns then number_at values port.word bit.at else X) c.loop-port.value) were);
    }

pub returns : goal.returns
returns c = record {
  value = λ ps apart same within.
      let bit = c.args.bit.now in
      sym (after_end ps c.args.values.now apart same bit.address bit.at c.args.ports.now c.loop-port.port-index c.loop-port.value _ c.loop-port-test.false (c.loop-port.invariant.goes ps apart same within));
}
