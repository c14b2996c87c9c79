use Rattle.std.proofs.Common.{flat_map, refl}
use Rattle.rtl_ir.specs.Signals.{wire_bits}
use Rattle.process_check.specs.Readings.{bit_edges, place_edges}
use Rattle.process_check.proofs.Among.{put_all, put_next_at}
use Rattle.process_check.proofs.ReadingLemmas.{place_cons}
use Rattle.process_check.proofs.readings.put_line.Goals as goal

pub loop-bit-preserved : goal.loop-bit-preserved
loop-bit-preserved c = λ bits are assigns sources.
    put_next_at (λ left. flat_map (bit_edges bits c.args.signals.now assigns) (wire_bits left)) (place_edges bits c.args.signals.now assigns) (place_cons bits c.args.signals.now assigns)
    c.args.left.now c.loop-bit.bit-index _ c.loop-bit-test.true c.loop-bit.edges.items c.put_place.new.edges.items _ (c.in_ok-put_place.ensures.ok bits are assigns sources) (c.loop-bit.invariant bits are assigns sources)

pub returns : goal.returns
returns c = record {
  ok = λ bits are assigns sources.
      put_all (λ left. flat_map (bit_edges bits c.args.signals.now assigns) (wire_bits left)) (place_edges bits c.args.signals.now assigns) (place_cons bits c.args.signals.now assigns) refl
      c.args.left.now c.loop-bit.bit-index c.loop-bit-test.false c.loop-bit.edges.items _ (c.loop-bit.invariant bits are assigns sources);
}
