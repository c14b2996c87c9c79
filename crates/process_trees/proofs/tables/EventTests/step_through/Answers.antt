use Rattle.std.proofs.Common.{List, map, length, sym, ◌∙◌, ap}
use Rattle.std.specs.Prelude.{if◌then◌else◌, ◌==◌, None, count_by, find, flat_map}
use Rattle.rtl_sig.specs.declared.sig.SigBit.{SigBit}
use Rattle.rtl_ir.specs.EventTests.{inverts, is_open}
use Rattle.rtl_ir.specs.Follow.{all_joins}
use Rattle.rtl_ir.specs.Parameters.{signal_at}
use Rattle.process_trees.specs.Steps.{step_by}
use Rattle.process_trees.proofs.Stepping.{step_is}
use Rattle.process_trees.proofs.tables.EventTests.step_through.Goals as goal

pub returns : goal.returns
returns c = record {
  value = λ links are fit.
      let js = all_joins links in
      let cell = c.args.cell.now in
      let inputs : List (List SigBit) → List SigBit = flat_map (λ (s : List SigBit). s) in
      let one = sym (ap length c.signal_at.ensures.value ∙ (λ i. length (signal_at (c.as_slice.ensures.value i) (c.text.ensures.value i)))) ∙ c.if-signal_at-ne1.false in
      let found =
      sym c.in-Some.is ∙ c.in_ok-input.ensures.value links are
      ∙ ap (λ (ss : List (List SigBit)). if count_by (is_open js) (flat_map (λ (s : List SigBit). s) ss) == 1 then find (is_open js) (flat_map (λ (s : List SigBit). s) ss) else None)
      (ap (map (λ s. s.now)) c.as_slice-2.ensures.value ∙ c.in_ok-signals.ensures.value) in
      c.step_by.ensures.value
      ∙ ap (step_by c.in-Some.input) (c.inverts.ensures.value ∙ (λ i. inverts (c.in_ok-low.ensures.value links are fit i) (c.in_ok-high.ensures.value links are fit i)))
      ∙ step_is js cell c.args.kind c.in-Some.input one found;
}
