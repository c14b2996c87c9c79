use Rattle.std.proofs.Common.{◌∙◌, map, refl, subst}
use Rattle.rtl_ir.specs.Flat.Process.{level_row, loaded_row}
use Rattle.rtl_ir.specs.Follow.{source_at}
use Rattle.rtl_ir.specs.declared.follow.Join.{Join}
use Rattle.flat_net.specs.Adds.{Adds}
use Rattle.rtl_ir.specs.Triggers.{trigger_of}
use Rattle.flat_net.proofs.Adding.{Adds-numbers, Adds-then}
use Rattle.flat_net.proofs.Kept.{within-Keeps}
use Rattle.flat_net.proofs.Reading.{Extends-then}
use Rattle.flat_net.proofs.Results.{if_ok}
use Rattle.flat_net.proofs.Triggering.{IsControl-kept}
use Rattle.flat_net.proofs.builder.Builder.add_loaded.Goals as goal

pub control-requires-2 : goal.control-requires-2
control-requires-2 c = record { in_range = within-Keeps _ _ _ c.in_ok-clock.ensures.grows.paths c.requires.in_range }

pub add_loads-requires : goal.add_loads-requires
add_loads-requires c = record { in_range = within-Keeps _ _ _ (Extends-then _ _ _ c.in_ok-clock.ensures.grows c.in_ok-load.ensures.grows).paths c.requires.in_range }

pub add_level-requires : goal.add_level-requires
add_level-requires c =
    let e = Extends-then _ _ _ (Extends-then _ _ _ c.in_ok-clock.ensures.grows c.in_ok-load.ensures.grows) c.in_ok-add_loads.ensures.grows in
    record { in_range = within-Keeps _ _ _ e.paths c.requires.in_range }

pub returns-clause-grows : goal.returns-clause-grows
returns-clause-grows c =
    let e = Extends-then _ _ _ (Extends-then _ _ _ c.in_ok-clock.ensures.grows c.in_ok-load.ensures.grows) c.in_ok-add_loads.ensures.grows in
    if_ok c.add_level.result c.add_level.ensures.grows (λ _ f. Extends-then _ _ _ e f)

pub returns-clause-rows : goal.returns-clause-rows
returns-clause-rows c = λ p path start is.
    let wires = c.args.scope.now.wires.now in
    let e = trigger_of c.args.edge in
    let l = trigger_of c.args.level in
    let first = c.in_ok-clock.ensures.grows in
    let second = c.in_ok-load.ensures.grows in
    let both = Extends-then _ _ _ first second in
    let third = c.in_ok-add_loads.ensures.grows in
    let edges = c.args.edges.now in
    let levels = c.args.levels.now in
    let clock = IsControl-kept _ _ second.places p wires c.in_ok-clock.clock e (c.in_ok-clock.ensures.value p path) in
    let load = c.in_ok-load.ensures.value p (first.paths _ _ path) in
    let row = λ (j : Join). loaded_row start p wires e l (source_at levels j.bit) j in
    let loads = c.in_ok-add_loads.ensures.rows p (both.paths _ _ path) start is e l clock load levels c.in_ok-loads.ensures.value in
    let begun = Adds-then c.args.self.now (record { places = c.control-2.new.self; parts = c.args.self.now.parts }) c.add_loads.new.self _ (map row edges) (Adds-numbers c.args.self.now _ both refl) loads in
    let others = c.as_slice.ensures.value ∙ c.in_ok-others.ensures.value edges c.in_ok-sources_of.ensures.value in
    if_ok c.add_level.result (c.add_level.ensures.rows p ((Extends-then _ _ _ both third).paths _ _ path) start is)
    (λ _ added. Adds-then c.args.self.now c.add_loads.new.self c.add_level.new.self (map row edges) _ begun (subst (λ js. Adds c.add_loads.new.self c.add_level.new.self (map (level_row start p wires l) js)) others added))
