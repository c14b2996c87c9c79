use Rattle.std.proofs.Common.{◌≡◌, ◌++◌, ◌∷◌, ◌∙◌, ℕ, false, subst, sym}
use Rattle.flat_net.specs.Parts.{parts_rows}
use Rattle.flat_net.specs.Within.{ArePartsWithin}
use Rattle.sim_eval.specs.First.{firsts}
use Rattle.sim_eval.specs.Shown.{found}
use Rattle.sim_eval.proofs.Firsts.{first_next, within_next}
use Rattle.sim_eval.proofs.first.first_of_parts.Goals as goal

pub loop-part-preserved : goal.loop-part-preserved
loop-part-preserved c =
    let kept = c.loop-part.kept in
    let part = c.in-Some.part in
    let rest = c.next.new.self.rest.items in
    let more = c.in_ok-first.first in
    let first = c.in_ok-first.ensures.first in
    let steps = c.in-Some.ensures.steps.0 in
    let within : (count : ℕ) → ArePartsWithin count c.args.parts → ArePartsWithin count (part ∷ rest) = λ count h. subst (ArePartsWithin count) steps (c.loop-part.invariant.rest count h) in
    record {
      rows = λ ps apart same h.
          let all = firsts (found false ps c.args.seen.now) (parts_rows ps c.args.parts) in
          subst (λ z. parts_rows ps z ++ firsts (found false ps c.first_of_part.new.seen) (parts_rows ps rest) ≡ all) (sym c.in_ok-push_some.ensures.ok)
          (first_next ps kept more c.loop-part.seen c.first_of_part.new.seen part rest all apart (same ∙ sym c.loop-part.auto.seen) (within _ h).0 first
          (subst (λ z. parts_rows ps kept ++ firsts (found false ps c.loop-part.seen) (parts_rows ps z) ≡ all) steps (c.loop-part.invariant.rows ps apart same h)));
      kept = λ count h.
          subst (ArePartsWithin count) (sym c.in_ok-push_some.ensures.ok) (within_next count kept more (c.loop-part.invariant.kept count h) (first.within count (within count h).0));
      rest = λ count h. (within count h).1;
    }
