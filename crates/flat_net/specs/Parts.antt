-- The rows that the parts of a flat netlist are, over the list of the numbered bits.
use Rattle.std.specs.Prelude.{List, [], ◌∷◌, flat_map, map}
use Rattle.cell_types.specs.declared.shape.Shape.{Shape}
use Rattle.rtl_ir.specs.Flat.Driver.{Driven, Given, Joined, Worked, Stored, Held as HeldBy, Raced as RacedBy}
use Rattle.rtl_ir.specs.Flat.Place.{Place}
use Rattle.rtl_ir.specs.Flat.Point as rtl
use Rattle.flat_net.specs.declared.choices.Tree.{Tree}
use Rattle.flat_net.specs.declared.leaves.HeldBit.{HeldBit}
use Rattle.flat_net.specs.declared.leaves.Raced.{Raced}
use Rattle.flat_net.specs.declared.net.Join.{Join}
use Rattle.flat_net.specs.declared.net.Logic.{Logic}
use Rattle.flat_net.specs.declared.net.Output.{Output}
use Rattle.flat_net.specs.declared.net.Part.{Part}
use Rattle.flat_net.specs.declared.net.Part.TheVariants as part
use Rattle.flat_net.specs.declared.net.StoreBit.{StoreBit}
use Rattle.rtl_ir.specs.Flat.Pick.{Pick}
use Rattle.flat_net.specs.Picks.{expanded_pick, tree_row}
use Rattle.flat_net.specs.Points.{place_at, point_of, points_of, pins_of}
use Rattle.flat_net.specs.Words.{port_rows, word_row}

-- a bit that the input vector drives
abbrev pub given_row : List Place → Output → Driven
given_row ps o = record { place = place_at ps o.number; driver = Given o.at }

-- a bit that a connection drives
abbrev pub join_row : List Place → Join → Driven
join_row ps j = record { place = place_at ps j.to; driver = Joined (point_of ps j.from) }

-- a bit of the output of a combinational cell with these inputs
abbrev pub output_row : List Place → Shape → List (List rtl.Point) → Output → Driven
output_row ps shape inputs o = record { place = place_at ps o.number; driver = Worked shape inputs o.at }

-- the words at the inputs of a combinational cell
abbrev pub inputs_of : List Place → Logic → List (List rtl.Point)
inputs_of ps c = points_of ps c.a ∷ points_of ps c.b ∷ points_of ps c.s ∷ []

-- a bit that a storage cell keeps
abbrev pub store_row : List Place → Shape → StoreBit → Driven
store_row ps shape b = record {
  place = place_at ps b.number;
  driver = Stored b.start shape b.at (pins_of ps b.pins) (place_at ps b.number);
}

-- the value of a bit that a rule updates, by its leaves: expanded through the tree as often as that has bits
abbrev pub value_pick : List Place → Tree → HeldBit → Pick
value_pick ps tree b = expanded_pick ps tree.root tree.width b.source

-- a bit that is always updated and may hold
abbrev pub held_row : List Place → Tree → HeldBit → Driven
held_row ps tree b = record {
  place = place_at ps b.number;
  driver = HeldBy b.start (point_of ps b.source.from) (value_pick ps tree b) (place_at ps b.number);
}

-- a bit of a process with two edges
abbrev pub raced_row : List Place → Raced → HeldBit → Driven
raced_row ps r b = record {
  place = place_at ps b.number;
  driver =
      RacedBy b.start (point_of ps r.clock) r.clock_level (point_of ps r.reset) r.reset_level (value_pick ps r.tree b)
      (place_at ps b.number);
}

-- the rows that a part is
abbrev pub part_rows : List Place → Part → List Driven
part_rows ps (part.Given o) = given_row ps o ∷ []
part_rows ps (part.Joined j) = join_row ps j ∷ []
part_rows ps (part.Logic c) = map (output_row ps c.value.shape (inputs_of ps c.value)) c.value.outputs
part_rows ps (part.Storage c) = map (store_row ps c.value.shape) c.value.bits
part_rows ps (part.Tree t) = map (tree_row ps t.value.root) t.value.outputs
part_rows ps (part.Held h) = map (held_row ps h.value.tree) h.value.bits
part_rows ps (part.Raced r) = map (raced_row ps r.value) r.value.bits
part_rows ps (part.Remembered w) = map (word_row ps w.value) w.value.bits
part_rows ps (part.Fetched f) = flat_map (port_rows ps f.value) f.value.ports

-- the rows of several parts, in order
abbrev pub parts_rows : List Place → List Part → List Driven
parts_rows ps parts = flat_map (part_rows ps) parts
