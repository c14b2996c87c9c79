-- Copies of cells and of connections have no fault where what they are copies of has none.
use Rattle.std.proofs.Common.{◌≡◌, ℕ, suc, Bool, false, not, ◌&&◌, ◌||◌, List, [], ◌∷◌, length, map, Option, Some, None, refl, sym, ◌∙◌, ap, subst}
use Rattle.std.specs.Prelude.{◌==◌}
use Rattle.std.specs.List.{list_any}
use Rattle.std.specs.Option.{option_map_or}
use Rattle.cell_types.specs.Kind.{kind_of}
use Rattle.cell_types.specs.Unsupported.{is_unsupported}
use Rattle.cell_types.specs.declared.kind.CellKind.{CellKind}
use Rattle.cell_types.specs.declared.kind.CellKind.TheVariants.{Word, Gate, Storage, StorageGate, Memory}
use Rattle.cell_types.specs.Fault.{fault_of}
use Rattle.rtl_sig.specs.declared.sig.SigBit.{SigBit}
use Rattle.rtl_sig.specs.declared.sig.SigBit.TheVariants.{Fixed, Wire as OnWire}
use Rattle.rtl_ir.specs.declared.cell.Cell.{Cell}
use Rattle.rtl_ir.specs.declared.cell.Pin.{Pin}
use Rattle.rtl_ir.specs.declared.ports.PortLine.{PortLine}
use Rattle.rtl_ir.specs.Faults.Cells.{has_constant_output, has_other_width, lacks_port, misfit, pin_widths}
use Rattle.rtl_ir.specs.Flat.Cell.{cell_kind}
use Rattle.rtl_ir.specs.Outputs.{drives_pin}
use Rattle.rtl_ir.specs.Parameters.{given_params}
use Rattle.rtl_ir.specs.Rules.{has_item}
use Rattle.rtl_ir.specs.Signals.{has_constant}
use Rattle.rtl_ir.specs.Types.{CellType, Instance, Library, Ports, Unknown, Unsupported, cell_type, port_named, type_by}
use Rattle.pass_laws.proofs.Alone.{IsSound, IsSoundBy, own_kind}
use Rattle.flat_pass.specs.Copies.{Copying, copied_params, copied_pin, copied_signal}
use Rattle.flat_pass.proofs.Misfit.{fault_same}
use Rattle.flat_pass.proofs.Partners.{CellCopied}

-- copied signals
pub copied_length : (first : ℕ) (ss : List SigBit) → length (copied_signal first ss) ≡ length ss
copied_length first [] = refl
copied_length first (s ∷ ss) = ap suc (copied_length first ss)

pub copied_constant : (first : ℕ) (ss : List SigBit) → has_constant (copied_signal first ss) ≡ has_constant ss
copied_constant first [] = refl
copied_constant first (Fixed b ∷ ss) = refl
copied_constant first (OnWire b ∷ ss) = copied_constant first ss

copied_item : (first : ℕ) (ss : List SigBit) → has_item (copied_signal first ss) ≡ has_item ss
copied_item first [] = refl
copied_item first (s ∷ ss) = refl

-- copied pins
any_copied : (first : ℕ) (test : Pin → Bool) → ((p : Pin) → test (copied_pin first p) ≡ test p) → (ps : List Pin) → list_any test (map (copied_pin first) ps) ≡ list_any test ps
any_copied first test h [] = refl
any_copied first test h (p ∷ ps) = λ i. h p i || any_copied first test h ps i

widths_copied : (first : ℕ) (ps : List Pin) → pin_widths (map (copied_pin first) ps) ≡ pin_widths ps
widths_copied first [] = refl
widths_copied first (p ∷ ps) = λ i. record { name = p.name; width = copied_length first p.sig i } ∷ widths_copied first ps i

output_copied : (first : ℕ) (type : CellType) (ps : List Pin) → has_constant_output type (map (copied_pin first) ps) ≡ has_constant_output type ps
output_copied first type ps =
    any_copied first (λ (p : Pin). drives_pin type p.name && has_constant p.sig) (λ p. ap (λ t. drives_pin type p.name && t) (copied_constant first p.sig)) ps

-- the parameters and pins of a copied cell
misfit_copied : (k : Copying) (x y : Cell) → CellCopied k x y → (kind : CellKind) → cell_kind x ≡ Some kind → misfit kind y ≡ misfit kind x
unfolding misfit
misfit_copied k x y h kind e =
    (λ i. fault_of kind (given_params (params i)) ((ap pin_widths h.pins ∙ widths_copied k.first x.pins) i)) ∙ by kind
  where
    params : y.params ≡ copied_params k (Some kind) x.params
    params = h.params ∙ ap (λ o. copied_params k o x.params) e

    by : (j : CellKind) → fault_of j (given_params (copied_params k (Some j) x.params)) (pin_widths x.pins) ≡ fault_of j (given_params x.params) (pin_widths x.pins)
    by (Word j) = refl
    by (Gate j) = refl
    by (Storage j) = refl
    by (StorageGate j) = refl
    by (Memory j) = fault_same k x.params j (pin_widths x.pins)

no_kind : (ports : Ports) (c : Cell) (lines : List PortLine) → cell_type ports c.kind_name ≡ Instance lines → cell_kind c ≡ None
unfolding cell_type cell_kind
no_kind ports c lines e =
    by (kind_of c.kind_name) (ports c.kind_name) (is_unsupported c.kind_name) e
  where
    by : (k : Option CellKind) (o : Option (List PortLine)) (u : Bool) → type_by k o u ≡ Instance lines → k ≡ None
    by (Some j) o u f = absurd (cc)
    by None o u f = refl

-- a copied cell has no faults but those of memories
pub copied_sound : (ports : Ports) (k : Copying) (x y : Cell) → CellCopied k x y → IsSound ports x → IsSound ports y
copied_sound ports k x y h s =
    subst (IsSoundBy y) (ap (cell_type ports) (sym h.kind)) (by (cell_type ports x.kind_name) refl s)
  where
    by : (type : CellType) → cell_type ports x.kind_name ≡ type → IsSoundBy x type → IsSoundBy y type
    by (Library kind) e z = record {
      fit = misfit_copied k x y h kind (own_kind ports x kind e) ∙ z.fit;
      output = ap (has_constant_output (Library kind)) h.pins ∙ output_copied k.first (Library kind) x.pins ∙ z.output;
    }
    by (Instance lines) e z =
        let params : y.params ≡ x.params = h.params ∙ ap (λ o. copied_params k o x.params) (no_kind ports x lines e) in
        record {
          known = (λ i. has_item (params i) || (ap (list_any (lacks_port lines)) h.pins ∙ any_copied k.first (lacks_port lines) (λ p. refl) x.pins) i) ∙ z.known;
          widths = ap (list_any (has_other_width lines)) h.pins ∙ any_copied k.first (has_other_width lines) (λ p. wide p lines) x.pins ∙ z.widths;
          output = ap (has_constant_output (Instance lines)) h.pins ∙ output_copied k.first (Instance lines) x.pins ∙ z.output;
        }
      where
        wide : (p : Pin) (lines : List PortLine) → has_other_width lines (copied_pin k.first p) ≡ has_other_width lines p
        wide p lines =
            λ i. copied_item k.first p.sig i && option_map_or (λ (port : PortLine). not (copied_length k.first p.sig i == port.width)) (port_named lines p.name) false
    by Unsupported e z = z
    by Unknown e z = z
