use Rattle.std.proofs.Common.{◌≡◌, ◌∙◌, arith, length}
use Rattle.std.proofs.lemmas.Grind.{common_steps}
use Rattle.tech_map.proofs.Placing.{all_there, placed_module, whole_given}
use Rattle.tech_map.proofs.mapped.Goals as goal

pub add_gates-requires : goal.add_gates-requires
add_gates-requires c = record { whole = whole_given c.args.module c.in_ok-builder.builder c.into_vec-cells.result.items c.in_ok-builder.ensures.value (c.into_vec-cells.ensures.value ∙ c.in_ok-copy.ensures.value) c.requires.whole }

pub with_gates_in_place-requires : goal.with_gates_in_place-requires
with_gates_in_place-requires c =
    let count : c.len-count.result ≡ length c.into_vec-cells.result.items = grind (arith, common_steps, c.len-count.ensures) in
    record {
      all_there = all_there c.args.module c.requires.whole c.finish.result c.in_ok-builder.builder c.add_gates.new.builder c.into_vec-cells.result.items c.len-count.result
          c.in_ok-builder.ensures.value (c.into_vec-cells.ensures.value ∙ c.in_ok-copy.ensures.value) c.in_ok-counts.ensures.exact c.finish.ensures.value count;
    }

pub returns-clause-exact : goal.returns-clause-exact
returns-clause-exact c =
    let count : c.len-count.result ≡ length c.into_vec-cells.result.items = grind (arith, common_steps, c.len-count.ensures) in
    placed_module c.args.module c.requires.whole c.finish.result c.in_ok-builder.builder c.add_gates.new.builder c.into_vec-cells.result.items c.len-count.result
    c.in_ok-builder.ensures.value (c.into_vec-cells.ensures.value ∙ c.in_ok-copy.ensures.value) c.in_ok-counts.ensures.exact c.finish.ensures.value count
    c.in_ok-after.after c.in_ok-counts.counts.items c.in_ok-counts.ensures.counts c.in_ok-after.ensures.value
