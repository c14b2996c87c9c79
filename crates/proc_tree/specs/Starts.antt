-- The start values that processes give.
use Rattle.std.specs.Prelude.{◌≡◌, ℕ, ◌<◌, ◌==◌, Bool, false, List, ◌++◌, length, map, flat_map, slice_index_or, if◌then◌else◌}
use Rattle.std.specs.List.{list_any}
use Rattle.rtl_sig.specs.declared.sig.WireBit.{WireBit}
use Rattle.rtl_ir.specs.declared.module.Module.{Module}
use Rattle.rtl_ir.specs.declared.wire.Wire.{Wire}
use Rattle.rtl_ir.specs.Flat.Start.{Begun, last_start, process_starts}
use Rattle.rtl_ir.specs.declared.follow.Join.{Join}
use Rattle.rtl_ir.specs.Tree.{CaseView}
use Rattle.net_index.specs.IndexTable.{at_bit}
use Rattle.net_model.specs.Proc.Start.{init_attribute, is_begun, wire_starts, with_attribute}
use Rattle.proc_tree.specs.declared.starts.Starts.{Starts}
use Rattle.proc_tree.specs.Leaves.{first_start}

-- a bit of the wire at a place is given a start value
abbrev pub wire_is_begun : List Begun → ℕ → Bool
wire_is_begun all k = list_any (λ (s : Begun). s.bit.wire == k) all

-- what is known is that these start values are given, one after another, to bits of so many wires
pub record AreStarts (starts : Starts) (count : ℕ) (all : List Begun) : Type 0 where
  pub size : length starts.begun.items ≡ count
  pub values : (b : WireBit) → at_bit starts.values b ≡ last_start all b
  pub begun : (k : ℕ) → k < count → slice_index_or starts.begun.items k false ≡ wire_is_begun all k

-- these start values came behind the others
pub record Adds (old new : Starts) (more : List Begun) : Type 0 where
  pub adds : (count : ℕ) (all : List Begun) → AreStarts old count all → AreStarts new count (all ++ more)

-- what is known are the start values that the processes of a module give
abbrev pub AreStartsOf : Starts → Module → Type 0
AreStartsOf starts m = AreStarts starts (length m.wires) (flat_map process_starts m.processes)

-- the start values at these places, by a root case whose switches are read by the rules
abbrev pub starts_by : CaseView → List Join → List Begun
starts_by root js = map (λ (j : Join). record { bit = j.bit; value = first_start root j.source }) js

-- a wire at a place, with its start values where a process gives one to a bit of it
abbrev pub begun_wire : Module → ℕ → Wire → Wire
begun_wire m at w =
    if is_begun m at then record w { attributes = with_attribute (init_attribute (wire_starts m at w.width)) w.attributes } else w
