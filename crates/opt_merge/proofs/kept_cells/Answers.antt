use Rattle.std.proofs.Common.{◌≡◌, ◌++◌, ◌∙◌, [], suc, eqb, false, ap, arith, drop, length, sym}
use Rattle.std.specs.Option.{option_map_or}
use Rattle.std.specs.Prelude.{slice_get}
use Rattle.std.proofs.lemmas.Grind.{common_steps}
use Rattle.std.proofs.lemmas.List.{append-nil}
use Rattle.opt_merge.specs.Picked.{picked}
use Rattle.opt_merge.proofs.Picking.{picked_further}
use Rattle.opt_merge.proofs.kept_cells.Goals as goal

pub loop-at-preserved : goal.loop-at-preserved
loop-at-preserved c =
    let at = c.loop-at.at-iterator.count in
    let kept = c.loop-at.kept.items in
    let places = c.args.places.now in
    let steps = c.in-Some.ensures.steps in
    let count : c.next.new.self.count ≡ suc at = omega (arith, steps.2) in
    let many : c.len.result ≡ length kept = grind (arith, common_steps, c.len.ensures) in
    let before = sym (ap (λ cells. kept ++ picked at cells (drop (length kept) places)) steps.0.0) ∙ c.loop-at.invariant in
    let tells = c.stands_at-is_next.ensures.value ∙ (λ i. option_map_or (λ p. eqb p (steps.1 i)) (slice_get places (many i)) false) in
    ap (λ n. c.add_if.new.kept.items ++ picked n c.next.new.self.iter.rest.items (drop (length c.add_if.new.kept.items) places)) count
    ∙ picked_further at c.in-Some.cell c.next.new.self.iter.rest.items places kept (picked 0 c.args.cells.items places) before c.stands_at-is_next.result tells c.add_if.new.kept.items c.in_ok-add_if.ensures.ok

pub returns : goal.returns
returns c =
    let rest : c.loop-at.at-iterator.iter.rest.items ≡ [] = grind (arith, common_steps, c.in-None.ensures.steps) in
    record {
      value =
          c.from_vec.ensures.value ∙ sym (append-nil c.loop-at.kept.items)
          ∙ sym (ap (λ cells. c.loop-at.kept.items ++ picked c.loop-at.at-iterator.count cells (drop (length c.loop-at.kept.items) c.args.places.now)) rest)
          ∙ c.loop-at.invariant;
    }
