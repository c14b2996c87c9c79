-- What is good over some wires is good over more.
use Rattle.std.proofs.Common.{ℕ, zero, suc, ◌+◌, ◌<◌, List, [], ◌∷◌, ◌++◌}
use Rattle.std.specs.Prelude.{slice_get, IsSomeAnd}
use Rattle.std.proofs.lemmas.List.Elements.{All-weaker}
use Rattle.rtl_sig.specs.declared.sig.SigBit.{SigBit}
use Rattle.rtl_sig.specs.declared.sig.SigBit.TheVariants as bits
use Rattle.rtl_ir.specs.declared.wire.Wire.{Wire}
use Rattle.rtl_ir.specs.declared.cell.Pin.{Pin}
use Rattle.rtl_ir.specs.declared.cell.Cell.{Cell}
use Rattle.rtl_ir.specs.declared.module.Link.{Link}
use Rattle.rtl_ir.specs.Tree.{Switches, Cases, NoSwitch, OneSwitch, NoCase, OneCase}
use Rattle.rtl_ir.specs.declared.process.Event.{Event}
use Rattle.rtl_ir.specs.declared.process.Event.TheVariants as events
use Rattle.rtl_ir.specs.declared.process.WriteLine.{WriteLine}
use Rattle.rtl_ir.specs.declared.process.SyncRule.{SyncRule}
use Rattle.rtl_ir.specs.declared.process.Process.{Process}
use Rattle.rtl_readable.specs.Readable.{IsBitOf, IsSignal, IsSomeSignal, IsLink, IsPin, IsCell, AreSwitches, AreCases, IsEvent, IsWrite, IsRule, IsProcess}

module _ (more : List Wire) where
  bit_at : (P : Wire → Type 0) (wires : List Wire) (k : ℕ) → IsSomeAnd (slice_get wires k) P → IsSomeAnd (slice_get (wires ++ more) k) P
  bit_at P [] k h = absurd h
  bit_at P (w ∷ ws) zero h = h
  bit_at P (w ∷ ws) (suc k) h = bit_at P ws k h

  pub grown_bit : (wires : List Wire) (bit : SigBit) → IsBitOf wires bit → IsBitOf (wires ++ more) bit
  grown_bit wires (bits.Fixed b) h = tt
  grown_bit wires (bits.Wire b) h = bit_at (λ w. b.at < w.width) wires b.wire h

  pub grown_signal : (wires : List Wire) (sig : List SigBit) → IsSignal wires sig → IsSignal (wires ++ more) sig
  grown_signal wires sig is = record { bits = All-weaker (IsBitOf wires) (IsBitOf (wires ++ more)) (grown_bit wires) sig is.bits; width = is.width }

  grown_some : (wires : List Wire) (sig : List SigBit) → IsSomeSignal wires sig → IsSomeSignal (wires ++ more) sig
  grown_some wires sig is = record { some = is.some; signal = grown_signal wires sig is.signal }

  pub grown_link : (wires : List Wire) (l : Link) → IsLink wires l → IsLink (wires ++ more) l
  grown_link wires l is = record { left = grown_signal wires l.left is.left; right = grown_signal wires l.right is.right }

  pub grown_pin : (wires : List Wire) (p : Pin) → IsPin wires p → IsPin (wires ++ more) p
  grown_pin wires p is = record { name = is.name; sig = grown_signal wires p.sig is.sig }

  pub grown_cell : (wires : List Wire) (c : Cell) → IsCell wires c → IsCell (wires ++ more) c
  grown_cell wires c is = record {
    kind_name = is.kind_name;
    name = is.name;
    params = is.params;
    distinct_params = is.distinct_params;
    pins = All-weaker (IsPin wires) (IsPin (wires ++ more)) (grown_pin wires) c.pins is.pins;
    distinct_pins = is.distinct_pins;
    attributes = is.attributes;
  }

  mutual
    grown_switches : (wires : List Wire) (depth : ℕ) (s : Switches) → AreSwitches wires depth s → AreSwitches (wires ++ more) depth s
    grown_switches wires depth NoSwitch are = tt
    grown_switches wires depth (OneSwitch sig remarks inside rest) are = (are.0, grown_some wires sig are.1, are.2, grown_cases wires (depth + 1) inside are.3, grown_switches wires depth rest are.4)

    grown_cases : (wires : List Wire) (depth : ℕ) (s : Cases) → AreCases wires depth s → AreCases (wires ++ more) depth s
    grown_cases wires depth NoCase are = tt
    grown_cases wires depth (OneCase match assigns remarks inner rest) are =
        (All-weaker (IsSomeSignal wires) (IsSomeSignal (wires ++ more)) (grown_some wires) match are.0, All-weaker (IsLink wires) (IsLink (wires ++ more)) (grown_link wires) assigns are.1, are.2, grown_switches wires depth inner are.3, grown_cases wires depth rest are.4)

  grown_event : (wires : List Wire) (e : Event) → IsEvent wires e → IsEvent (wires ++ more) e
  grown_event wires (events.Low sig) is = grown_some wires sig is
  grown_event wires (events.High sig) is = grown_some wires sig is
  grown_event wires (events.Posedge sig) is = grown_some wires sig is
  grown_event wires (events.Negedge sig) is = grown_some wires sig is
  grown_event wires (events.Edge sig) is = grown_some wires sig is
  grown_event wires events.Global is = tt
  grown_event wires events.Init is = tt
  grown_event wires events.Always is = tt

  grown_write : (wires : List Wire) (w : WriteLine) → IsWrite wires w → IsWrite (wires ++ more) w
  grown_write wires w is = record {
    memory = is.memory;
    address = grown_some wires w.address is.address;
    value = grown_some wires w.value is.value;
    enable = grown_some wires w.enable is.enable;
    mask = is.mask;
    attributes = is.attributes;
  }

  grown_rule : (wires : List Wire) (s : SyncRule) → IsRule wires s → IsRule (wires ++ more) s
  grown_rule wires s is = record {
    event = grown_event wires s.event is.event;
    updates = All-weaker (IsLink wires) (IsLink (wires ++ more)) (grown_link wires) s.updates is.updates;
    writes = All-weaker (IsWrite wires) (IsWrite (wires ++ more)) (grown_write wires) s.writes is.writes;
  }

  pub grown_process : (wires : List Wire) (p : Process) → IsProcess wires p → IsProcess (wires ++ more) p
  grown_process wires p is = record {
    name = is.name;
    patterns = is.patterns;
    plain = is.plain;
    assigns = All-weaker (IsLink wires) (IsLink (wires ++ more)) (grown_link wires) p.root.assigns is.assigns;
    switches = grown_switches wires 0 p.root.switches is.switches;
    rules = All-weaker (IsRule wires) (IsRule (wires ++ more)) (grown_rule wires) p.syncs is.rules;
    attributes = is.attributes;
  }
