-- The cells so far have moved.
use Rattle.std.proofs.Common.{◌≡◌, ◌++◌, take, drop}
use Rattle.tech_map.proofs.in_place.move_cells.Given as goal

abbrev pub invariant-loop : goal.invariant-loop
invariant-loop l = record {
  moved : l.to.items ≡ l.initial.to.items ++ take l.counter l.initial.from.items;
  left : l.from.items ≡ drop l.counter l.initial.from.items;
}
