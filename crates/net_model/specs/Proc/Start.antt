-- The first two steps of `proc`: switches by their rules, and start values.
use Rattle.std.specs.Prelude.{ℕ, ◌+◌, ◌==◌, Bool, false, not, List, [], ◌∷◌, map, filter, flat_map, codes, if◌then◌else◌}
use Rattle.std.specs.List.{list_any, range_with_len}
use Rattle.std.specs.Str.{bytes_eq}
use Rattle.rtl_bits.specs.declared.bit.Bit.{Bit}
use Rattle.rtl_sig.specs.declared.sig.SigBit.TheVariants.{Wire as OnWire}
use Rattle.rtl_ir.specs.declared.module.Module.{Module}
use Rattle.rtl_ir.specs.declared.process.Process.{Process}
use Rattle.rtl_ir.specs.declared.process.SyncRule.{SyncRule}
use Rattle.rtl_ir.specs.declared.value.Attribute.{Attribute}
use Rattle.rtl_ir.specs.declared.value.Value.TheVariants.{Bits}
use Rattle.rtl_ir.specs.declared.wire.Wire.{Wire}
use Rattle.rtl_ir.specs.Flat.Start.{Begun, process_starts, start_of}
use Rattle.rtl_ir.specs.Rules.{is_init}
use Rattle.rtl_ir.specs.SwitchRules.{root_by_rules}

-- an attribute with this value in the place of the one of its name, or last
abbrev pub with_attribute : Attribute → List Attribute → List Attribute
with_attribute a [] = a ∷ []
with_attribute a (b ∷ attributes) =
    if bytes_eq b.name a.name then a ∷ attributes else b ∷ with_attribute a attributes

-- the attribute `\init` of these bits
abbrev pub init_attribute : List Bit → Attribute
init_attribute bits = record { name = codes "\\init"; value = Bits bits false }

-- the start values of the bits of a wire of this place and width
abbrev pub wire_starts : Module → ℕ → ℕ → List Bit
wire_starts m at width =
    map (λ k. start_of m.wires m.processes (OnWire (record { wire = at; at = k }))) (range_with_len 0 width)

-- a process gives a start value to a bit of the wire at a place
abbrev pub is_begun : Module → ℕ → Bool
is_begun m at = list_any (λ (s : Begun). s.bit.wire == at) (flat_map process_starts m.processes)

-- the wires from a place on, each with its start values where a process gives one to a bit of it
abbrev pub begun_wires : Module → ℕ → List Wire → List Wire
begun_wires m at [] = []
begun_wires m at (w ∷ wires) =
    (if is_begun m at then record w { attributes = with_attribute (init_attribute (wire_starts m at w.width)) w.attributes } else w)
    ∷ begun_wires m (at + 1) wires

-- a process with its switches by the rules, and without the rules that give start values
abbrev pub ruled_process : Process → Process
ruled_process p =
    record p { root = root_by_rules p.root; syncs = filter (λ (r : SyncRule). not (is_init r.event)) p.syncs }

-- the module after the two steps
abbrev pub proc_tree_of : Module → Module
proc_tree_of m = record m { wires = begun_wires m 0 m.wires; processes = map ruled_process m.processes }
