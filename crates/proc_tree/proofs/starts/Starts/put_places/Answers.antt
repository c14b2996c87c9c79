use Rattle.std.proofs.Common.{arith}
use Rattle.proc_tree.proofs.Giving.{places_end, places_next}
use Rattle.proc_tree.proofs.starts.Starts.put_places.Goals as goal

pub loop-place-preserved : goal.loop-place-preserved
loop-place-preserved c = λ root are.
    places_next root c.args.places.now c.loop-place.place-index _ (omega arith) c.constant.result (c.constant.ensures.value root are)
    c.args.self.now c.loop-place.self c.put.new.self (c.loop-place.invariant root are) c.in_ok-put.ensures.ok

pub returns : goal.returns
returns c = record {
  ok = λ root are. places_end root c.args.places.now c.loop-place.place-index (omega arith) c.args.self.now c.loop-place.self (c.loop-place.invariant root are);
}
