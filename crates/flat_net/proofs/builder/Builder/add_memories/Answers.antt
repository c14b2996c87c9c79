use Rattle.std.proofs.Common.{◌<◌, ◌≤◌, ap, arith, length, refl, sym}
use Rattle.std.proofs.lemmas.Option.{get_or_from_slice_get}
use Rattle.rtl_ir.specs.Flat.Memory.{memories_rows, memory_rows}
use Rattle.flat_net.proofs.Adding.{Leads-item, Leads-last}
use Rattle.flat_net.proofs.Apart.{at_least}
use Rattle.flat_net.proofs.Kept.{within-Keeps}
use Rattle.flat_net.proofs.Reading.{Extends-then}
use Rattle.flat_net.proofs.builder.Builder.add_memories.Goals as goal

pub add_memory-requires : goal.add_memory-requires
add_memory-requires c =
    let within : c.loop-at.at < length c.args.body.now.memories = omega (arith, ap length c.as_slice-at-end.ensures.value) in
    record { in_range = within-Keeps _ _ _ c.loop-at.invariant.grows.paths c.requires.in_range; memory = within }

pub loop-at-preserved : goal.loop-at-preserved
loop-at-preserved c = record {
  grows = Extends-then _ _ _ c.loop-at.invariant.grows c.in_ok-add_memory.ensures.grows;
  rows = λ p path.
      let m = c.args.body.now in
      let wires = c.args.scope.now.wires.now in
      let at = c.loop-at.at in
      let within : at < length m.memories = omega (arith, ap length c.as_slice-at-end.ensures.value) in
      let found = at_least m.memories at within in
      Leads-item (memories_rows p wires m.cells m.processes) (memory_rows p wires m.cells m.processes) (λ s ss. refl) refl m.memories c.args.self.now _ c.loop-at.self c.add_memory.new.self at found.0 within
      (sym (get_or_from_slice_get m.memories at found.0 found.0 found.1)) (c.loop-at.invariant.rows p path)
      (c.in_ok-add_memory.ensures.rows p (c.loop-at.invariant.grows.paths _ _ path) found.0 found.1);
}

pub returns-clause-rows : goal.returns-clause-rows
returns-clause-rows c = λ p path.
    let m = c.args.body.now in
    let wires = c.args.scope.now.wires.now in
    let end : length m.memories ≤ c.loop-at.at = omega (arith, ap length c.as_slice-at-end.ensures.value) in
    Leads-last (memories_rows p wires m.cells m.processes) (memory_rows p wires m.cells m.processes) (λ s ss. refl) refl m.memories c.args.self.now _ c.loop-at.self c.loop-at.at end (c.loop-at.invariant.rows p path)
