-- What comes of a cell by the rules is a pass.
use Rattle.std.proofs.Common.{◌≡◌, ℕ, Bool, true, false, List, ◌∷◌, ◌++◌, length, Option, Some, None, refl, sym, ◌∙◌, ap, subst}
use Rattle.std.specs.Prelude.{flat_map, if◌then◌else◌}
use Rattle.std.specs.Option.{option_map}
use Rattle.std.proofs.lemmas.List.{append-nil}
use Rattle.cell_types.specs.declared.kind.CellKind.{CellKind}
use Rattle.cell_types.specs.declared.kind.CellKind.TheVariants as kind
use Rattle.cell_types.specs.declared.pin_name.PinName.TheVariants.{A, B, S}
use Rattle.cell_types.specs.declared.shape.Shape.{Shape}
use Rattle.cell_types.specs.declared.word.WordKind.{WordKind}
use Rattle.cell_types.specs.PinName.{pin_text}
use Rattle.rtl_bits.specs.declared.bit.Bit.TheVariants.{X}
use Rattle.rtl_sig.specs.declared.sig.SigBit.{SigBit}
use Rattle.rtl_sig.specs.declared.sig.SigBit.TheVariants.{Fixed}
use Rattle.rtl_ir.specs.Faults.Cells.{misfit}
use Rattle.rtl_ir.specs.Flat.Cell.{cell_kind, cell_shape, listed}
use Rattle.rtl_ir.specs.Parameters.{signal_at}
use Rattle.rtl_ir.specs.Types as types
use Rattle.rtl_ir.specs.declared.cell.Cell.{Cell}
use Rattle.rtl_ir.specs.declared.module.Module.{Module}
use Rattle.rtl_ir.specs.declared.ports.PortTable.{PortTable}
use Rattle.rtl_ir.specs.Attributes.{is_kept}
use Rattle.net_model.specs.Lists.{In}
use Rattle.net_model.specs.Within.{BitIn, SigIn}
use Rattle.pass_laws.proofs.Giving.{signal_in}
use Rattle.pass_laws.proofs.Passes.{IsPass_refl}
use Rattle.pass_laws.specs.Pass.{IsPass}
use Rattle.pass_laws.specs.Ready.{IsReady}
use Rattle.expr_rules.proofs.RuleLaws.{change_refines}
use Rattle.expr_rules.specs.Change.{fitted}
use Rattle.rtl_sig.specs.Signal.{extended}
use Rattle.expr_rules.specs.Laws.{Refines}
use Rattle.expr_rules.specs.Operands.{counted_as, meant_as, meant_of, meant_signed, meant_width}
use Rattle.expr_rules.specs.Rules.{change_of, first_of, rules_in_order}
use Rattle.expr_rules.specs.declared.change.Change.{Change}
use Rattle.expr_rules.specs.declared.change.Change.TheVariants.{Gives, Becomes}
use Rattle.expr_rules.specs.declared.operands.Operands.{Operands}
use Rattle.opt_expr.specs.Formed.{formed}
use Rattle.opt_expr.specs.Places.{combinational}
use Rattle.opt_expr.specs.Sweep.{Visit, by_rules, change_by, changed, operands_in, ruled_kind, stays}
use Rattle.opt_expr.proofs.Fitting.{all_wide, extended-length, is_computed, is_formed, output_wide}
use Rattle.opt_expr.proofs.Making.{IfMade, IsBecome, at_place, change_made, extended_has}
use Rattle.opt_expr.proofs.Others.{inverted_bit_is, inverted_is}
use Rattle.opt_expr.proofs.Visiting.{becomes, gives, other_cell, own_cell, whole}

-- the kind of a cell that the rules may change
pub record IsRuled (c : Cell) (own : CellKind) : Type 0 where
  pub kind : cell_kind c ≡ Some own
  pub word : combinational (Some own) ≡ Some own

pub is_ruled : (c : Cell) (own : CellKind) → ruled_kind c ≡ Some own → IsRuled c own
is_ruled c own e = by (is_kept c.attributes) (cell_kind c) refl e
  where
    by : (t : Bool) (o : Option CellKind) → cell_kind c ≡ o → (if t then None else combinational o) ≡ Some own → IsRuled c own
    by true o k f = absurd (cc)
    by false None k f = absurd (cc)
    by false (Some (kind.Word word)) k f = let same : kind.Word word ≡ own = cc in subst (IsRuled c) same (record { kind = k; word = refl })
    by false (Some (kind.Gate gate)) k f = let same : kind.Gate gate ≡ own = cc in subst (IsRuled c) same (record { kind = k; word = refl })
    by false (Some (kind.Storage storage)) k f = absurd (cc)
    by false (Some (kind.StorageGate gate)) k f = absurd (cc)
    by false (Some (kind.Memory store)) k f = absurd (cc)

-- what is given is as wide as the output
given_long : (width : ℕ) (x : Option Change) (r : List SigBit) → option_map (fitted width) x ≡ Some (Gives r) → length r ≡ width
given_long width None r e = absurd (cc)
given_long width (Some (Gives word)) r e =
    let same : extended word width false ≡ r = cc in
    ap length (sym same) ∙ extended-length word width false
given_long width (Some (Becomes c)) r e = absurd (cc)

module _ (table : PortTable) (m : Module) (ready : IsReady (types.table_ports table.modules) m) (cells : List Cell) (done : List (Option Cell)) (rest : List Cell) (c : Cell) (is : m.cells ≡ flat_map listed done ++ c ∷ rest) where
  -- the module with what comes of the cell
  abbrev After : Visit → Module
  After v = record m { cells = flat_map listed done ++ (listed v.cell ++ rest); links = m.links ++ v.links }

  unchanged : IsPass table m (After (stays c))
  unchanged = subst (IsPass table m) (λ i. record m { cells = is i; links = sym (append-nil m.links) i }) (IsPass_refl table m)

  -- the bits of the signals of the cells of the module
  pin_in : (e : Cell) → In e m.cells → (name : List ℕ) → SigIn (length m.wires) (signal_at e.pins name)
  pin_in e i name = signal_in (length m.wires) e.pins name (ready.within.cells e i)

  meant_in : (shape : Shape) (a b x : List SigBit) → SigIn (length m.wires) x → SigIn (length m.wires) (meant_of shape a b x)
  meant_in shape a b x h = by (counted_as shape.kind)
    where
      by : (o : Option WordKind) → SigIn (length m.wires) (meant_as o shape a b x)
      by None = λ b i. absurd i
      by (Some k) = extended_has (BitIn (length m.wires)) (λ b. tt) x (meant_width k (length a) (length b) shape.widths.y) (meant_signed k shape) h

  module _ (own : CellKind) (r : IsRuled c own) where
    abbrev shape : Shape
    shape = cell_shape own c.params

    abbrev o : Operands
    o = operands_in cells done rest (cell_shape own c.params) c.pins

    fit : misfit own c ≡ None
    fit = (whole table m ready c (own_cell table m ready cells done rest c is)).fit own r.kind

    refined : (change : Change) → change_of (cell_shape own c.params) (operands_in cells done rest (cell_shape own c.params) c.pins) ≡ Some change → Refines (cell_shape own c.params) (operands_in cells done rest (cell_shape own c.params) c.pins) change
    refined change e = change_refines shape o (is_computed own c o r.word fit refl refl refl) (record { left = refl; right = refl }) change e

    made : IfMade (BitIn (length m.wires)) (λ b. tt) shape (change_of shape o)
    made =
        let mine = pin_in c (own_cell table m ready cells done rest c is) in
        change_made (BitIn (length m.wires)) (λ b. tt) shape o (mine (pin_text A)) (mine (pin_text B)) (mine (pin_text S)) (meant_in shape o.a o.b o.a (mine (pin_text A))) (meant_in shape o.a o.b o.b (mine (pin_text B)))
        (λ bit e.
        let q = inverted_bit_is cells done rest (signal_at c.pins (pin_text S)) bit e in
        let input = pin_in q.3.cell (other_cell table m ready cells done rest c is q.3.cell q.3.among) (pin_text A) in
        subst (BitIn (length m.wires)) q.2 (at_place (BitIn (length m.wires)) (λ b. tt) q.0 0 (Fixed X) tt (subst (SigIn (length m.wires)) q.3.inverter.reads input)))
        (λ word e.
        let found = inverted_is cells done rest (signal_at c.pins (pin_text A)) word e in
        subst (SigIn (length m.wires)) found.inverter.reads (pin_in found.cell (other_cell table m ready cells done rest c is found.cell found.among) (pin_text A)))
        (all_wide c o refl refl refl own r.word fit refl refl)

    by_change : (change : Option Change) → change_of (cell_shape own c.params) (operands_in cells done rest (cell_shape own c.params) c.pins) ≡ change → IsPass table m (After (changed change c))
    by_change None e = unchanged
    by_change (Some (Gives word)) e =
        gives table m ready cells done rest c is own r.kind r.word (output_wide own c r.word fit) word (refined (Gives word) e) (given_long shape.widths.y (first_of rules_in_order shape o) word e) (subst (IfMade (BitIn (length m.wires)) (λ b. tt) shape) e made)
    by_change (Some (Becomes new)) e =
        let parts : IsBecome (BitIn (length m.wires)) (λ b. tt) shape new = subst (IfMade (BitIn (length m.wires)) (λ b. tt) shape) e made in
        subst (λ links. IsPass table m (record m { cells = flat_map listed done ++ (formed new c ∷ rest); links = links })) (sym (append-nil m.links))
        (becomes table m ready cells done rest c is own r.kind r.word (output_wide own c r.word fit) new (refined (Becomes new) e) (is_formed own c new r.word fit parts.shaped) parts.a parts.b parts.s)

  -- what comes of the cell by the rules
  pub ruled : IsPass table m (After (by_rules cells done rest c))
  ruled = by (ruled_kind c) refl
    where
      by : (o : Option CellKind) → ruled_kind c ≡ o → IsPass table m (After (changed (change_by cells done rest o c) c))
      by None e = unchanged
      by (Some own) e = by_change own (is_ruled c own e) (change_of (cell_shape own c.params) (operands_in cells done rest (cell_shape own c.params) c.pins)) refl
