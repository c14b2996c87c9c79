-- What a module has that a step of `proc` is given.
use Rattle.std.specs.Prelude.{◌≡◌, ◌<◌, false, List, slice_get, IsSomeAnd}
use Rattle.rtl_sig.specs.declared.sig.SigBit.{SigBit}
use Rattle.rtl_sig.specs.declared.sig.SigBit.TheVariants.{Fixed, Wire as OnWire}
use Rattle.rtl_ir.specs.declared.cell.Cell.{Cell}
use Rattle.rtl_ir.specs.declared.cell.Pin.{Pin}
use Rattle.rtl_ir.specs.declared.module.Link.{Link}
use Rattle.rtl_ir.specs.declared.module.Module.{Module}
use Rattle.rtl_ir.specs.declared.process.Process.{Process}
use Rattle.rtl_ir.specs.declared.process.SyncRule.{SyncRule}
use Rattle.rtl_ir.specs.declared.wire.Wire.{Wire}
use Rattle.rtl_ir.specs.Rules.{has_line, is_init}
use Rattle.rtl_ir.specs.Scope.{Scope}
use Rattle.rtl_ir.specs.SwitchRules.{root_by_rules}
use Rattle.rtl_ir.specs.Types.{Ports}
use Rattle.net_model.specs.Within.{Each}
use Rattle.pass_laws.specs.Ready.{IsReadyWithin}

-- a module that a step of `proc` may be given, or that a pass may be given where no process is taken
abbrev pub IsReady : Scope → Ports → Module → Type 0
IsReady scope ports m = IsReadyWithin scope ports m

-- a place of a signal is a constant, or a bit that one of these wires has
abbrev pub IsBitOf : List Wire → SigBit → Type 0
IsBitOf wires (Fixed c) = Unit {0}
IsBitOf wires (OnWire b) = IsSomeAnd (slice_get wires b.wire) (λ w. b.at < w.width)

-- each bit of a pin is a bit that a wire has
abbrev pub PinsHaveBits : List Wire → Cell → Type 0
PinsHaveBits wires c = Each (λ (pin : Pin). Each (IsBitOf wires) pin.sig) c.pins

-- each bit that a rule updates is a bit that a wire has
abbrev pub UpdatesHaveBits : List Wire → SyncRule → Type 0
UpdatesHaveBits wires rule = Each (λ (l : Link). Each (IsBitOf wires) l.left) rule.updates

-- each bit of a pin, and each bit that a rule of a process updates, is one that a wire has: the places of storage bits lie
-- within the widths of their wires
pub record HasItsBits (m : Module) : Type 0 where
  pub pins : Each (PinsHaveBits m.wires) m.cells
  pub updates : Each (λ (p : Process). Each (UpdatesHaveBits m.wires) p.syncs) m.processes

-- the switches of each process are read by the rules already
abbrev pub AreRuled : Module → Type 0
AreRuled m = Each (λ (p : Process). root_by_rules p.root ≡ p.root) m.processes

-- no rule of a process gives start values
abbrev pub HaveNoStarts : Module → Type 0
HaveNoStarts m = Each (λ (p : Process). Each (λ (r : SyncRule). is_init r.event ≡ false) p.syncs) m.processes

-- no rule of a process has a line
abbrev pub HaveNoLines : Module → Type 0
HaveNoLines m = Each (λ (p : Process). Each (λ (r : SyncRule). has_line r ≡ false) p.syncs) m.processes
