use Rattle.std.proofs.Common.{[], subst}
use Rattle.rtl_ir.specs.Faults.MemoryCells.{store_named}
use Rattle.net_index.specs.Types.{at_name}
use Rattle.memory_check.specs.Memories.{Stands}
use Rattle.memory_check.specs.Ports.{HasCells}
use Rattle.memory_check.proofs.Standing.{store_put, stores_all}
use Rattle.memory_check.proofs.memories.Memories.of.Goals as goal

pub loop-at-preserved : goal.loop-at-preserved
loop-at-preserved c = λ links.
    store_put (λ entry s. HasCells links entry s []) c.loop-at.stores c.insert.new.self c.as_slice.result c.index-memories-at.result c.of.result (record { updates = c.in_ok-insert.ensures.updates }) c.as_slice.ensures.value (c.of.ensures.value links)
    c.as_slice-memories.result.now c.loop-at.at c.loop-at-test.true c.loop-at.auto.at c.index-memories-at.is (c.loop-at.invariant links)

pub loop-at-preserved-in_ok-insert : goal.loop-at-preserved-in_ok-insert
loop-at-preserved-in_ok-insert c = λ links.
    store_put (λ entry s. HasCells links entry s []) c.loop-at.stores c.insert.new.self c.as_slice.result c.index-memories-at.result c.of.result (record { updates = c.in_ok-insert.ensures.updates }) c.as_slice.ensures.value (c.of.ensures.value links)
    c.as_slice-memories.result.now c.loop-at.at c.loop-at-test.true c.loop-at.auto.at c.index-memories-at.is (c.loop-at.invariant links)

pub returns : goal.returns
returns c = record {
  value =
      let links = c.args.body.now.links in
      let stores = c.as_slice-memories.result.now in
      record {
        clocks = c.of-2.ensures.value;
        stores = λ name.
            subst (λ ss. Stands (λ entry s. HasCells links entry s []) (at_name c.loop-at.stores name) (store_named ss name)) c.as_slice-memories.ensures.value
            (stores_all (λ entry s. HasCells links entry s []) c.loop-at.stores stores c.loop-at.at c.loop-at-test.false (c.loop-at.invariant links) name);
      };
}
