-- What is good over some wires is good over others that have the same bits, and maybe more.
use Rattle.std.proofs.Common.{ℕ, ◌+◌, List}
use Rattle.std.proofs.lemmas.List.Elements.{All-weaker}
use Rattle.rtl_sig.specs.declared.sig.SigBit.{SigBit}
use Rattle.rtl_ir.specs.declared.wire.Wire.{Wire}
use Rattle.rtl_ir.specs.declared.cell.Pin.{Pin}
use Rattle.rtl_ir.specs.declared.cell.Cell.{Cell}
use Rattle.rtl_ir.specs.declared.module.Link.{Link}
use Rattle.rtl_ir.specs.Tree.{Switches, Cases, NoSwitch, OneSwitch, NoCase, OneCase}
use Rattle.rtl_ir.specs.declared.process.Event.{Event}
use Rattle.rtl_ir.specs.declared.process.Event.TheVariants as events
use Rattle.rtl_ir.specs.declared.process.WriteLine.{WriteLine}
use Rattle.rtl_ir.specs.declared.process.SyncRule.{SyncRule}
use Rattle.rtl_ir.specs.declared.process.Process.{Process}
use Rattle.rtl_readable.specs.Readable.{IsBitOf, IsSignal, IsSomeSignal, IsLink, IsPin, IsCell, AreSwitches, AreCases, IsEvent, IsWrite, IsRule, IsProcess}

module _ (wires others : List Wire) (each : (bit : SigBit) → IsBitOf wires bit → IsBitOf others bit) where
  pub carried_signal : (sig : List SigBit) → IsSignal wires sig → IsSignal others sig
  carried_signal sig is = record { bits = All-weaker (IsBitOf wires) (IsBitOf others) each sig is.bits; width = is.width }

  carried_some : (sig : List SigBit) → IsSomeSignal wires sig → IsSomeSignal others sig
  carried_some sig is = record { some = is.some; signal = carried_signal sig is.signal }

  pub carried_link : (l : Link) → IsLink wires l → IsLink others l
  carried_link l is = record { left = carried_signal l.left is.left; right = carried_signal l.right is.right }

  pub carried_pin : (p : Pin) → IsPin wires p → IsPin others p
  carried_pin p is = record { name = is.name; sig = carried_signal p.sig is.sig }

  pub carried_cell : (c : Cell) → IsCell wires c → IsCell others c
  carried_cell c is = record {
    kind_name = is.kind_name;
    name = is.name;
    params = is.params;
    distinct_params = is.distinct_params;
    pins = All-weaker (IsPin wires) (IsPin others) carried_pin c.pins is.pins;
    distinct_pins = is.distinct_pins;
    attributes = is.attributes;
  }

  mutual
    carried_switches : (depth : ℕ) (s : Switches) → AreSwitches wires depth s → AreSwitches others depth s
    carried_switches depth NoSwitch are = tt
    carried_switches depth (OneSwitch sig remarks inside rest) are = (are.0, carried_some sig are.1, are.2, carried_cases (depth + 1) inside are.3, carried_switches depth rest are.4)

    carried_cases : (depth : ℕ) (s : Cases) → AreCases wires depth s → AreCases others depth s
    carried_cases depth NoCase are = tt
    carried_cases depth (OneCase match assigns remarks inner rest) are =
        (All-weaker (IsSomeSignal wires) (IsSomeSignal others) carried_some match are.0, All-weaker (IsLink wires) (IsLink others) carried_link assigns are.1, are.2, carried_switches depth inner are.3, carried_cases depth rest are.4)

  carried_event : (e : Event) → IsEvent wires e → IsEvent others e
  carried_event (events.Low sig) is = carried_some sig is
  carried_event (events.High sig) is = carried_some sig is
  carried_event (events.Posedge sig) is = carried_some sig is
  carried_event (events.Negedge sig) is = carried_some sig is
  carried_event (events.Edge sig) is = carried_some sig is
  carried_event events.Global is = tt
  carried_event events.Init is = tt
  carried_event events.Always is = tt

  carried_write : (w : WriteLine) → IsWrite wires w → IsWrite others w
  carried_write w is = record {
    memory = is.memory;
    address = carried_some w.address is.address;
    value = carried_some w.value is.value;
    enable = carried_some w.enable is.enable;
    mask = is.mask;
    attributes = is.attributes;
  }

  carried_rule : (s : SyncRule) → IsRule wires s → IsRule others s
  carried_rule s is = record {
    event = carried_event s.event is.event;
    updates = All-weaker (IsLink wires) (IsLink others) carried_link s.updates is.updates;
    writes = All-weaker (IsWrite wires) (IsWrite others) carried_write s.writes is.writes;
  }

  pub carried_process : (p : Process) → IsProcess wires p → IsProcess others p
  carried_process p is = record {
    name = is.name;
    patterns = is.patterns;
    plain = is.plain;
    assigns = All-weaker (IsLink wires) (IsLink others) carried_link p.root.assigns is.assigns;
    switches = carried_switches 0 p.root.switches is.switches;
    rules = All-weaker (IsRule wires) (IsRule others) carried_rule p.syncs is.rules;
    attributes = is.attributes;
  }
