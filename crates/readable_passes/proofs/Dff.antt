-- What a text can give, it can give with constants in the place of registers, and with registers that lose their enable.
use Rattle.std.proofs.Common.{◌≡◌, ℕ, ◌≤◌, List, [], ◌∷◌, ◌++◌, length, map, Option, Some, None, refl, sym, ◌∙◌, ap, subst, arith}
use Rattle.std.specs.Prelude.{codes, flat_map}
use Rattle.std.specs.List.{All}
use Rattle.std.proofs.lemmas.List.{length-map}
use Rattle.std.proofs.lemmas.List.Elements.{All-cons, All-nil}
use Rattle.cell_types.specs.PinName.{pin_text}
use Rattle.cell_types.specs.declared.kind.CellKind.{CellKind}
use Rattle.cell_types.specs.declared.kind.CellKind.TheVariants.{Word, Gate, Storage, StorageGate, Memory}
use Rattle.cell_types.specs.declared.level.Level.{Level}
use Rattle.cell_types.specs.declared.level.Level.TheVariants.{Low, High}
use Rattle.cell_types.specs.declared.pin_name.PinName.{PinName}
use Rattle.cell_types.specs.declared.pin_name.PinName.TheVariants.{C, Clk, D, Q}
use Rattle.cell_types.specs.declared.storage_gate.StorageGate.TheVariants as gate
use Rattle.rtl_bits.specs.declared.bit.Bit.{Bit}
use Rattle.rtl_bits.specs.declared.bit.Bit.TheVariants.{S0, S1, X, Z, M, Dash}
use Rattle.rtl_sig.specs.declared.sig.SigBit.TheVariants.{Fixed}
use Rattle.rtl_ir.specs.Build.{integer_param}
use Rattle.rtl_ir.specs.Flat.Cell.{cell_shape, listed}
use Rattle.rtl_ir.specs.Parameters.{signal_at}
use Rattle.rtl_ir.specs.Types.{Ports}
use Rattle.rtl_ir.specs.declared.cell.Cell.{Cell}
use Rattle.rtl_ir.specs.declared.cell.CellParam.{CellParam}
use Rattle.rtl_ir.specs.declared.cell.Pin.{Pin}
use Rattle.rtl_ir.specs.declared.module.Module.{Module}
use Rattle.rtl_ir.specs.declared.wire.Wire.{Wire}
use Rattle.net_index.specs.BuilderNames.{name_of}
use Rattle.follow_laws.specs.Inputs.{followed_cell}
use Rattle.opt_more.specs.Dff.{dff_of, dff_visit, enabled, enabled_kind, enabled_of, enabled_pins, params_for, polarity_of, register_of, register_visit, registered, same_pin, settled_of, without_enable}
use Rattle.opt_more.proofs.Registering.{settled_at}
use Rattle.rtl_readable.specs.Readable.{IsBitOf, IsCell, IsCellParam, IsLink, IsName, IsPin, IsReadableModule, IsSignal}
use Rattle.rtl_readable.proofs.Signals.{pin_signal}
use Rattle.rtl_sig.specs.Names.{AreDistinct}
use Rattle.readable_laws.proofs.Cells.{apart_distinct, number_is, params_two, pins_three}
use Rattle.readable_passes.proofs.Follow.{cell_follows}
use Rattle.readable_passes.proofs.Replaced.{MayReplace}
use Rattle.readable_passes.proofs.Visits.{MayVisit, one_may, own_is, sweep_reads}

-- constants
fixed_bits : (wires : List Wire) (bits : List Bit) → All (IsBitOf wires) (map Fixed bits)
fixed_bits wires [] = All-nil (IsBitOf wires)
fixed_bits wires (b ∷ bits) = All-cons (IsBitOf wires) (Fixed b) (map Fixed bits) tt (fixed_bits wires bits)

-- ---- a register without its enable

kind_named : (kind : CellKind) → IsName (name_of (enabled_kind kind))
kind_named (Word k) = refl
kind_named (Gate k) = refl
kind_named (Storage k) = refl
kind_named (Memory k) = refl
kind_named (StorageGate (gate.Dffe Low en)) = refl
kind_named (StorageGate (gate.Dffe High en)) = refl
kind_named (StorageGate g) = refl

level_is : (level : Level) → IsCellParam (integer_param (codes "\\CLK_POLARITY") (polarity_of level))
level_is Low = number_is (codes "\\CLK_POLARITY") 0 refl (omega arith)
level_is High = number_is (codes "\\CLK_POLARITY") 1 refl (omega arith)

-- its parameters: each once
record AreParams (ps : List CellParam) : Type 0 where
  each : All IsCellParam ps
  apart : AreDistinct (map (λ (p : CellParam). p.name) ps)

no_params : AreParams []
no_params = record { each = All-nil IsCellParam; apart = apart_distinct [] refl }

params_are : (kind : CellKind) (clk : Level) (width : ℕ) → width ≤ 4194304 → AreParams (params_for kind clk width)
params_are (Storage k) clk width few = record {
  each = params_two _ _ (number_is (codes "\\WIDTH") width refl (omega (arith, few))) (level_is clk);
  apart = apart_distinct (codes "\\WIDTH" ∷ codes "\\CLK_POLARITY" ∷ []) refl;
}
params_are (Word k) clk width few = no_params
params_are (Gate k) clk width few = no_params
params_are (Memory k) clk width few = no_params
params_are (StorageGate g) clk width few = no_params

module _ (wires : List Wire) (c : Cell) (is : IsCell wires c) where
  pin_stays : (name : PinName) → IsName (pin_text name) → IsPin wires (same_pin c name)
  pin_stays name named = record { name = named; sig = pin_signal wires c.pins (pin_text name) is.pins }

  -- its pins: each once
  record ArePins (names : List PinName) : Type 0 where
    each : All (IsPin wires) (map (same_pin c) names)
    apart : AreDistinct (map pin_text names)

  word_pins : ArePins (Clk ∷ D ∷ Q ∷ [])
  word_pins = record {
    each = pins_three wires (same_pin c Clk) (same_pin c D) (same_pin c Q) (pin_stays Clk refl) (pin_stays D refl) (pin_stays Q refl);
    apart = apart_distinct (pin_text Clk ∷ pin_text D ∷ pin_text Q ∷ []) refl;
  }

  gate_pins : ArePins (D ∷ C ∷ Q ∷ [])
  gate_pins = record {
    each = pins_three wires (same_pin c D) (same_pin c C) (same_pin c Q) (pin_stays D refl) (pin_stays C refl) (pin_stays Q refl);
    apart = apart_distinct (pin_text D ∷ pin_text C ∷ pin_text Q ∷ []) refl;
  }

  pins_are : (kind : CellKind) → ArePins (enabled_pins kind)
  pins_are (StorageGate g) = gate_pins
  pins_are (Word k) = word_pins
  pins_are (Gate k) = word_pins
  pins_are (Storage k) = word_pins
  pins_are (Memory k) = word_pins

  names_of : (names : List PinName) → map (λ (p : Pin). p.name) (map (same_pin c) names) ≡ map pin_text names
  names_of [] = refl
  names_of (n ∷ names) = ap (λ z. pin_text n ∷ z) (names_of names)

  without_is : (kind : CellKind) → IsCell wires (without_enable kind c)
  without_is kind =
      let params : AreParams (params_for kind (cell_shape kind c.params).levels.clk (length (signal_at c.pins (pin_text Q)))) = params_are kind (cell_shape kind c.params).levels.clk (length (signal_at c.pins (pin_text Q))) (pin_signal wires c.pins (pin_text Q) is.pins).width in
      let pins : ArePins (enabled_pins kind) = pins_are kind in
      record {
        kind_name = kind_named kind;
        name = is.name;
        params = params.each;
        distinct_params = params.apart;
        pins = pins.each;
        distinct_pins = subst AreDistinct (sym (names_of (enabled_pins kind))) pins.apart;
        attributes = is.attributes;
      }

  enabled_is : (kind : CellKind) (b : Bit) → IsCell wires (enabled b kind c)
  enabled_is kind S1 = without_is kind
  enabled_is kind S0 = is
  enabled_is kind X = is
  enabled_is kind Z = is
  enabled_is kind M = is
  enabled_is kind Dash = is

enabled_name : (kind : CellKind) (c : Cell) (b : Bit) → (enabled b kind c).name ≡ c.name
enabled_name kind c S1 = refl
enabled_name kind c S0 = refl
enabled_name kind c X = refl
enabled_name kind c Z = refl
enabled_name kind c M = refl
enabled_name kind c Dash = refl

-- ---- a visit

register_may : (m : Module) (kind : CellKind) (c d : Cell) → d.name ≡ c.name → IsCell m.wires d → (o : Option (List Bit)) → settled_of m.wires kind d ≡ o → MayReplace m c (listed (register_visit o kind d).cell) (register_visit o kind d).links
register_may m kind c d named is None e =
    one_may m c (enabled (enabled_of kind d) kind d) (enabled_name kind d (enabled_of kind d) ∙ named) (enabled_is m.wires d is kind (enabled_of kind d))
register_may m kind c d named is (Some values) e =
    let own : IsSignal m.wires (signal_at d.pins (pin_text Q)) = pin_signal m.wires d.pins (pin_text Q) is.pins in
    let long : length values ≡ length (signal_at d.pins (pin_text Q)) = (settled_at m.wires kind d 0 (length (signal_at d.pins (pin_text Q))) values e).0 in
    record {
      cells = All-nil (IsCell m.wires);
      names = λ name. omega arith;
      count = omega arith;
      links = All-cons (IsLink m.wires) _ [] (record { left = own; right = record { bits = fixed_bits m.wires values; width = omega (arith, long, length-map values Fixed, own.width) } }) (All-nil (IsLink m.wires));
    }

dff_may : (ports : Ports) (m : Module) → MayVisit m (dff_visit ports m.wires)
dff_may ports m done c rest links reads = by (register_of c)
  where
    by : (o : Option CellKind) → MayReplace (record m { cells = flat_map listed done ++ c ∷ rest; links = links }) c (listed (registered m.wires o c (followed_cell ports links c)).cell) (registered m.wires o c (followed_cell ports links c)).links
    by None = one_may _ c c refl (own_is m done c rest links reads)
    by (Some kind) =
        register_may (record m { cells = flat_map listed done ++ c ∷ rest; links = links }) kind c (followed_cell ports links c) refl
        (cell_follows m.wires links reads.links ports c (own_is m done c rest links reads)) (settled_of m.wires kind (followed_cell ports links c)) refl

pub dff_reads : (ports : Ports) (m : Module) → IsReadableModule m → IsReadableModule (dff_of ports m)
dff_reads ports m reads = sweep_reads m (dff_visit ports m.wires) (dff_may ports m) reads
