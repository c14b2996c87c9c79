-- What is read, as signals, constants included.
use Rattle.std.specs.Prelude.{◌≡◌, ℕ, ◌+◌, Bool, false, not, ◌&&◌, ◌||◌, List, [], ◌∷◌, ◌++◌, flat_map, if◌then◌else◌}
use Rattle.std.specs.List.{list_any}
use Rattle.std.specs.HashSet.{HashSet, contains}
use Rattle.std.specs.declared.hash.BuildHasherDefault.{BuildHasherDefault}
use Rattle.std.specs.declared.hash.FoldHasher.{FoldHasher}
use Rattle.rtl_sig.specs.declared.sig.SigBit.{SigBit}
use Rattle.rtl_sig.specs.declared.sig.SigBit.TheVariants.{Fixed, Wire as OnWire}
use Rattle.rtl_sig.specs.declared.sig.WireBit.{WireBit}
use Rattle.rtl_ir.specs.declared.cell.Cell.{Cell}
use Rattle.rtl_ir.specs.declared.cell.Pin.{Pin}
use Rattle.rtl_ir.specs.declared.module.Link.{Link}
use Rattle.rtl_ir.specs.declared.module.Module.{Module}
use Rattle.rtl_ir.specs.declared.process.Process.{Process}
use Rattle.rtl_ir.specs.declared.process.SyncRule.{SyncRule}
use Rattle.rtl_ir.specs.declared.process.WriteLine.{WriteLine}
use Rattle.rtl_ir.specs.declared.wire.Wire.{Wire}
use Rattle.rtl_ir.specs.Assigns.{case_assigns}
use Rattle.rtl_ir.specs.Build.{whole}
use Rattle.rtl_ir.specs.Outputs.{drives_pin, is_output}
use Rattle.rtl_ir.specs.Rules.{acting_rules}
use Rattle.rtl_ir.specs.Signals.{has_bit, same_bit}
use Rattle.rtl_ir.specs.Types.{Ports, CellType, cell_type}
use Rattle.net_model.specs.Proc.Reset.{event_signal, switches_signals}

-- a set of bits
abbrev pub BitSet : Type 0
BitSet = HashSet WireBit (BuildHasherDefault FoldHasher)

-- the set has these bits
abbrev pub AreIn : BitSet → List WireBit → Type 0
AreIn set bits = (b : WireBit) → contains same_bit set b ≡ has_bit bits b

-- a place of a signal is one of these bits
abbrev pub is_among : List WireBit → SigBit → Bool
is_among bits (Fixed c) = false
is_among bits (OnWire b) = has_bit bits b

-- the right sides of lines
abbrev pub sources : List Link → List SigBit
sources lines = flat_map (λ (l : Link). l.right) lines

-- the signals of lines that write
abbrev pub write_signals : List WriteLine → List SigBit
write_signals lines = flat_map (λ (w : WriteLine). w.address ++ (w.value ++ w.enable)) lines

-- the signals of the lines of a rule
abbrev pub rule_signals : SyncRule → List SigBit
rule_signals r = sources r.updates ++ write_signals r.writes

-- the signals of the events of rules
abbrev pub event_signals : List SyncRule → List SigBit
event_signals rules = flat_map (λ (r : SyncRule). event_signal r.event) rules

-- the signals of the tests of a process and of the events of its rules with lines
abbrev pub control_signals : Process → List SigBit
control_signals p = switches_signals p.root.switches ++ event_signals (acting_rules p.syncs)

-- the signals that a process reads
abbrev pub process_signals : Process → List SigBit
process_signals p = control_signals p ++ (sources (case_assigns p.root) ++ flat_map rule_signals p.syncs)

-- the signal of a pin that a cell of a type reads
abbrev pub pin_signal : CellType → Pin → List SigBit
pin_signal type pin = if drives_pin type pin.name then [] else pin.sig

-- the signals that a cell reads
abbrev pub cell_signals : Ports → Cell → List SigBit
cell_signals ports c = flat_map (pin_signal (cell_type ports c.kind_name)) c.pins

-- the signals of output ports, of the wires from a place on
abbrev pub output_signals : ℕ → List Wire → List SigBit
output_signals at [] = []
output_signals at (w ∷ wires) = (if is_output w.role then whole at w.width else []) ++ output_signals (at + 1) wires

-- what connections, cells and output ports read
abbrev pub fixed_signals : Ports → Module → List SigBit
fixed_signals ports m = sources m.links ++ (flat_map (cell_signals ports) m.cells ++ output_signals 0 m.wires)

-- none of the bits is read by the processes before or behind, nor by the tests of a process
abbrev pub are_apart : List WireBit → List Process → List Process → Process → Bool
are_apart bits before after p =
    not (list_any (is_among bits) (flat_map process_signals before) || list_any (is_among bits) (flat_map process_signals after))
    && not (list_any (is_among bits) (control_signals p))
