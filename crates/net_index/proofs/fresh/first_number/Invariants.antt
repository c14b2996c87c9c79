use Rattle.std.proofs.Common.{◌≡◌, ◌≤◌, ◌++◌, take, map}
use Rattle.rtl_ir.specs.declared.wire.Wire.{Wire}
use Rattle.rtl_ir.specs.declared.store.Store.{Store}
use Rattle.rtl_ir.specs.declared.cell.Cell.{Cell}
use Rattle.rtl_ir.specs.declared.process.Process.{Process}
use Rattle.net_index.proofs.FreshNumbers.{greatest_of}
use Rattle.net_index.proofs.fresh.first_number.Given as goal

-- the greatest number of the wires so far
abbrev pub invariant-loop-wire : goal.invariant-loop-wire
invariant-loop-wire l = record {
  is : l.greatest ≡ greatest_of (map (λ (w : Wire). w.name) (take l.wire-index l.wire-items));
  small : l.greatest ≤ 999999999;
}

-- .. and of the memories so far
abbrev pub invariant-loop-store : goal.invariant-loop-store
invariant-loop-store l = record {
  is : l.greatest ≡ greatest_of (map (λ (w : Wire). w.name) l.module.wires ++ map (λ (s : Store). s.name) (take l.store-index l.store-items));
  small : l.greatest ≤ 999999999;
}

-- .. and of the cells so far
abbrev pub invariant-loop-cell : goal.invariant-loop-cell
invariant-loop-cell l = record {
  is : l.greatest ≡ greatest_of (map (λ (w : Wire). w.name) l.module.wires ++ map (λ (s : Store). s.name) l.module.memories ++ map (λ (c : Cell). c.name) (take l.cell-index l.cell-items));
  small : l.greatest ≤ 999999999;
}

-- .. and of the processes so far
abbrev pub invariant-loop-process : goal.invariant-loop-process
invariant-loop-process l = record {
  is : l.greatest ≡ greatest_of (map (λ (w : Wire). w.name) l.module.wires ++ map (λ (s : Store). s.name) l.module.memories ++ map (λ (c : Cell). c.name) l.module.cells ++ map (λ (p : Process). p.name) (take l.process-index l.process-items));
  small : l.greatest ≤ 999999999;
}
