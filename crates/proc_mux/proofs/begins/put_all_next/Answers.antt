use Rattle.std.proofs.Common.{◌&&◌, not, arith}
use Rattle.std.specs.HashSet.{contains}
use Rattle.rtl_ir.specs.Signals.{same_bit}
use Rattle.proc_mux.specs.Lines.{is_bit}
use Rattle.proc_mux.proofs.Beginning.{any_at, any_end}
use Rattle.proc_mux.proofs.begins.put_all_next.Goals as goal

pub loop-place-preserved : goal.loop-place-preserved
loop-place-preserved c = λ a b next.
    any_at (λ s. is_bit s a && not (contains same_bit c.args.named.now b)) c.args.places.now c.loop-place.place-index _ c.loop-place-test.true (contains same_bit c.loop-place.begins b) (contains same_bit c.put_next.new.begins b) _
    (c.in_ok-put_next.ensures.begins a b next) (c.loop-place.invariant a b next)

pub returns : goal.returns
returns c = record {
  begins = λ a b next.
      any_end (λ s. is_bit s a && not (contains same_bit c.args.named.now b)) c.args.places.now c.loop-place.place-index (omega arith) (contains same_bit c.loop-place.begins b) _ (c.loop-place.invariant a b next);
}
