use Rattle.std.proofs.Common.{◌≡◌, ◌∙◌, ◌++◌, ◌∷◌, [], List, ap, subst, length, arith}
use Rattle.flat_net.specs.declared.tree.Visit.{Visit}
use Rattle.flat_net.specs.Keys.{path_at}
use Rattle.flat_net.specs.Visits.{Opens}
use Rattle.flat_net.proofs.Kept.{within-Keeps}
use Rattle.flat_net.proofs.Reading.{Extends-refl, Extends-then}
use Rattle.flat_net.proofs.Treeing.{Leads-first, Leads-done, last_pathed, left_pathed, visit_path, step_leads}
use Rattle.flat_net.proofs.builder.Builder.add_tree.Goals as goal

pub loop-step-init : goal.loop-step-init
loop-step-init c =
    let top : Visit = record { body = c.args.body; path = c.args.path; below = c.args.below } in
    let put : c.push.new.self.items ≡ top ∷ [] = c.in_ok-push.ensures.items ∙ ap (λ (vs : List Visit). vs ++ top ∷ []) c.new-visits.ensures.items in
    record {
      grows = Extends-refl c.args.self.now.places;
      pathed = rw put (c.requires.in_range, tt);
      rows = λ d table p path. Leads-first d c.args.self.now _ top p put path;
    }

pub add_module-requires : goal.add_module-requires
add_module-requires c = record { in_range = last_pathed _ _ _ c.in-Some.visit c.in-Some.ensures.items c.loop-step.invariant.pathed }

pub open_instances-requires : goal.open_instances-requires
open_instances-requires c = record { in_range = within-Keeps _ _ _ c.in_ok-add_module.ensures.grows.paths (last_pathed _ _ _ c.in-Some.visit c.in-Some.ensures.items c.loop-step.invariant.pathed) }

pub loop-step-preserved : goal.loop-step-preserved
loop-step-preserved c =
    let g = c.in_ok-add_module.ensures.grows in
    let e = c.in_ok-open_instances.ensures.grows in
    let v = c.in-Some.visit in
    let popped = c.in-Some.ensures.items in
    record {
      grows = Extends-then _ _ _ c.loop-step.invariant.grows (Extends-then _ _ _ g e);
      pathed = c.in_ok-open_instances.ensures.pathed (left_pathed _ _ _ _ v g.paths popped c.loop-step.invariant.pathed);
      rows = λ d table p path.
          let here = visit_path d c.args.self.now c.loop-step.self c.add_module.new.self c.open_instances.new.self [] _ _ [] v popped c.loop-step.invariant.pathed g e in
          let q = path_at c.loop-step.self.places.paths v.path in
          step_leads d c.args.self.now c.loop-step.self c.add_module.new.self c.open_instances.new.self _ _ _ _ v popped c.loop-step.invariant.pathed g e (c.loop-step.invariant.rows d table p path)
          (c.in_ok-add_module.ensures.rows q here d table)
          (subst (λ cells. Opens d c.open_instances.new.self.paths c.pop.new.self.items c.open_instances.new.visits.items v.below q cells) c.as_slice-cells.ensures.value (c.in_ok-open_instances.ensures.opens d table q (g.paths _ _ here)));
    }

pub returns-in_default-clause-rows : goal.returns-in_default-clause-rows
returns-in_default-clause-rows c = λ d table p path. let none : length c.loop-step.visits.items ≡ 0 = omega (arith, c.in_default.ensures.cases.0) in
    Leads-done d _ _ _ c.loop-step.self.places.paths c.loop-step.visits.items none (c.loop-step.invariant.rows d table p path)
