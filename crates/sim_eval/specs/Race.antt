-- The race of a clock and a reset, by the values of the numbered bits.
use Rattle.std.specs.Prelude.{◌≡◌, Bool, not, List, [], ◌∷◌, Option, Some, None, slice_index_or}
use Rattle.rtl_bits.specs.declared.bit.Bit.{Bit}
use Rattle.rtl_bits.specs.declared.bit.Bit.TheVariants.{X}
use Rattle.cell_gate.specs.Control.{active_of, was_of}
use Rattle.rtl_ir.specs.Flat.Place.{Place}
use Rattle.flat_net.specs.declared.leaves.HeldBit.{HeldBit}
use Rattle.flat_net.specs.declared.leaves.Raced.{Raced}
use Rattle.flat_net.specs.Parts.{value_pick}
use Rattle.flat_net.specs.Points.{place_at, point_of}
use Rattle.net_model.specs.declared.order.Order.{Order}
use Rattle.net_model.specs.Race.{common_of}
use Rattle.net_model.specs.Valuation.{read}
use Rattle.net_model.specs.Value.{edge_at, level_bit, raced_in}
use Rattle.sim_eval.specs.declared.clocked.Clocked.{Clocked}
use Rattle.sim_eval.specs.declared.raced.Race.{Race}
use Rattle.sim_eval.specs.declared.walk.Leaves.TheVariants.{Values}
use Rattle.sim_eval.specs.Advance.{Fact}
use Rattle.sim_eval.specs.Leaves.{AreExpanded}
use Rattle.sim_eval.specs.Numbers.{is_x}
use Rattle.sim_eval.specs.Shown.{shown}

-- the merge of these bits, where there are any
abbrev pub common_option : List Bit → Option Bit
common_option [] = None
common_option (b ∷ bits) = Some (common_of (b ∷ bits))

-- whether a bit that a rule updates has a value among these
abbrev pub held_has : List Bit → HeldBit → Bool
held_has values b = not (is_x (slice_index_or values b.number X))

-- what a bit is given before the first step
abbrev pub start_fact : List Place → HeldBit → Fact
start_fact ps b = record { place = place_at ps b.number; value = b.start }

-- what a bit of a process with two edges is given in an order of time, from these values in the step before to those
abbrev pub raced_fact : List Place → List Bit → Order → Bool → Raced → List Bit → HeldBit → Fact
raced_fact ps before order first raced now b = record {
  place = place_at ps b.number;
  value =
      raced_in order (shown ps before) (shown ps now) first (point_of ps raced.clock) raced.clock_level
      (point_of ps raced.reset) raced.reset_level (value_pick ps raced.tree b) (place_at ps b.number);
}

-- these are what the tree bits of a process with two edges came to in the step before, with the reset at this bit
abbrev pub AreRaced : List Place → List Bit → Raced → Bit → List Bit → Type 0
AreRaced ps before raced reset bits =
    AreExpanded ps before reset Values raced.tree.root raced.tree.width raced.tree.width bits

-- this is the race of the clock and the reset, from these values in the step before to those
pub record IsRace (ps : List Place) (before : List Bit) (first : Bool) (raced : Raced) (now : List Bit) (race : Race) : Type 0 where
  pub clock_edge : race.clock_edge ≡ edge_at (shown ps before) (shown ps now) first (point_of ps raced.clock) raced.clock_level
  pub reset_edge : race.reset_edge ≡ edge_at (shown ps before) (shown ps now) first (point_of ps raced.reset) raced.reset_level
  pub was : AreRaced ps before raced (was_of first (read (shown ps before) (point_of ps raced.reset))) race.was.items
  pub is : AreRaced ps before raced (read (shown ps now) (point_of ps raced.reset)) race.is.items
  pub active : AreRaced ps before raced (level_bit raced.reset_level) race.active.items

-- this is a clock that acts before a reset in a process with two edges, from these values in the step before to those
pub record IsClocked (ps : List Place) (before : List Bit) (first : Bool) (raced : Raced) (now : List Bit) (clocked : Clocked) : Type 0 where
  pub edge : clocked.edge ≡ edge_at (shown ps before) (shown ps now) first (point_of ps raced.clock) raced.clock_level
  pub active : clocked.active ≡ active_of raced.reset_level (read (shown ps now) (point_of ps raced.reset))
  pub was : AreRaced ps before raced (was_of first (read (shown ps before) (point_of ps raced.reset))) clocked.was.items
