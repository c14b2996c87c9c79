use Rattle.rtl_ir.specs.Flat.Cell.{word_store, gate_store}
use Rattle.flat_net.proofs.Kept.{within-Keeps}
use Rattle.flat_net.proofs.Moduling.{Adds-behind, word_rows, gate_rows}
use Rattle.flat_net.proofs.builder.Builder.add_library_cell.Goals as goal

pub add_store-requires : goal.add_store-requires
add_store-requires c = record { in_range = within-Keeps _ _ _ c.in_ok-reads-in-Storage.ensures.grows.paths c.requires.in_range }

pub add_store-requires-in-StorageGate : goal.add_store-requires-in-StorageGate
add_store-requires-in-StorageGate c = record { in_range = within-Keeps _ _ _ c.in_ok-reads-in-StorageGate.ensures.grows.paths c.requires.in_range }

pub returns-in_ok-reads-in-Storage-clause-rows : goal.returns-in_ok-reads-in-Storage-clause-rows
returns-in_ok-reads-in-Storage-clause-rows c = λ p path start is.
    Adds-behind c.args.self.now c.add_store.new.self c.word_reads.new.self _ _ c.in_ok-reads-in-Storage.ensures.grows
    (word_rows start p c.args.scope.now.wires.now c.args.cell.now c.as_slice-pins.result.now c.args.kind c.as_slice-pins.ensures.value c.in-Storage.field-0 c.in-Storage.is) c.add_store.result
    (c.add_store.ensures.rows p (c.in_ok-reads-in-Storage.ensures.grows.paths _ _ path) start is (word_store p c.args.scope.now.wires.now c.as_slice-pins.result.now) (c.in_ok-reads-in-Storage.ensures.value p path))

pub returns-in_ok-reads-in-StorageGate-clause-rows : goal.returns-in_ok-reads-in-StorageGate-clause-rows
returns-in_ok-reads-in-StorageGate-clause-rows c = λ p path start is.
    Adds-behind c.args.self.now c.add_store-in-StorageGate.new.self c.gate_reads.new.self _ _ c.in_ok-reads-in-StorageGate.ensures.grows
    (gate_rows start p c.args.scope.now.wires.now c.args.cell.now c.as_slice-pins.result.now c.args.kind c.as_slice-pins.ensures.value c.in-StorageGate.field-0 c.in-StorageGate.is) c.add_store-in-StorageGate.result
    (c.add_store-in-StorageGate.ensures.rows p (c.in_ok-reads-in-StorageGate.ensures.grows.paths _ _ path) start is (gate_store p c.args.scope.now.wires.now c.as_slice-pins.result.now) (c.in_ok-reads-in-StorageGate.ensures.value p path))
