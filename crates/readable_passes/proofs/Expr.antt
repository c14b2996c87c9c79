-- What a text can give, it can give with cells made simpler.
use Rattle.std.proofs.Common.{◌≡◌, ℕ, ◌≤◌, false, List, [], ◌∷◌, ◌++◌, length, Option, Some, None, refl, sym, ◌∙◌, ap, subst, arith}
use Rattle.std.specs.Prelude.{codes, flat_map}
use Rattle.std.specs.List.{All}
use Rattle.std.specs.Option.{option_map}
use Rattle.std.proofs.lemmas.List.{append-nil}
use Rattle.std.proofs.lemmas.List.Elements.{All-cons, All-nil}
use Rattle.cell_types.specs.declared.gate.GateKind.TheVariants as gate
use Rattle.cell_types.specs.declared.kind.CellKind.{CellKind}
use Rattle.cell_types.specs.declared.kind.CellKind.TheVariants.{Word, Gate, Storage, StorageGate, Memory}
use Rattle.cell_types.specs.declared.pin_name.PinName.TheVariants.{A, B, S, Y}
use Rattle.cell_types.specs.declared.shape.Shape.{Shape}
use Rattle.cell_types.specs.declared.word.UnaryKind.TheVariants.{Not}
use Rattle.cell_types.specs.declared.word.WordKind.{WordKind}
use Rattle.cell_types.specs.declared.word.WordKind.TheVariants.{Unary, Mux}
use Rattle.cell_types.specs.PinName.{pin_text}
use Rattle.rtl_bits.specs.declared.bit.Bit.TheVariants.{X}
use Rattle.rtl_sig.specs.Signal.{extended}
use Rattle.rtl_sig.specs.declared.sig.SigBit.{SigBit}
use Rattle.rtl_sig.specs.declared.sig.SigBit.TheVariants.{Fixed}
use Rattle.rtl_ir.specs.Build.{integer_param, pin_of}
use Rattle.rtl_ir.specs.Faults.Cells.{misfit}
use Rattle.rtl_ir.specs.Flat.Cell.{cell_shape, listed}
use Rattle.rtl_ir.specs.Parameters.{signal_at}
use Rattle.rtl_ir.specs.Types as types
use Rattle.rtl_ir.specs.declared.cell.Cell.{Cell}
use Rattle.rtl_ir.specs.declared.cell.Pin.{Pin}
use Rattle.rtl_ir.specs.declared.module.Link.{Link}
use Rattle.rtl_ir.specs.declared.module.Module.{Module}
use Rattle.rtl_ir.specs.declared.ports.PortTable.{PortTable}
use Rattle.rtl_ir.specs.declared.wire.Wire.{Wire}
use Rattle.net_index.specs.BuilderNames.{name_of}
use Rattle.net_model.specs.Lists.{In}
use Rattle.net_model.specs.Within.{Each}
use Rattle.pass_laws.specs.Pass.{IsPass}
use Rattle.pass_laws.specs.Ready.{IsReady}
use Rattle.follow_laws.proofs.Passing.{followed_one}
use Rattle.follow_laws.specs.Inputs.{followed_cell}
use Rattle.expr_rules.specs.Change.{chooser_kind, fitted, inverter_kind}
use Rattle.expr_rules.specs.Operands.{counted_as, meant_as, meant_of, meant_signed, meant_width}
use Rattle.expr_rules.specs.Rules.{change_of, first_of, rules_in_order}
use Rattle.expr_rules.specs.declared.change.Change.{Change}
use Rattle.expr_rules.specs.declared.change.Change.TheVariants.{Gives, Becomes}
use Rattle.expr_rules.specs.declared.change.NewCell.{NewCell}
use Rattle.expr_rules.specs.declared.operands.Operands.{Operands}
use Rattle.rtl_readable.specs.Readable.{IsBitOf, IsCell, IsCellParam, IsLink, IsPin, IsReadableModule, IsSignal}
use Rattle.rtl_readable.proofs.Signals.{pin_signal}
use Rattle.readable_laws.proofs.Cells.{apart_distinct, number_is, params_one, params_three, pins_three, pins_two}
use Rattle.opt_expr.specs.Formed.{formed, params_for, pins_for}
use Rattle.opt_expr.specs.Sweep.{Visit, by_rules, change_by, changed, expr_of, operands_in, ruled_kind, swept, visit_of, with_swept}
use Rattle.opt_expr.proofs.Fitting.{all_wide, extended-length, output_wide}
use Rattle.opt_expr.proofs.Making.{IfMade, IsBecome, IsShaped, Chooser, Inverter, at_place, change_made, extended_has}
use Rattle.opt_expr.proofs.Others.{inverted_bit_is, inverted_is}
use Rattle.opt_expr.proofs.Ruling.{IsRuled, is_ruled, ruled}
use Rattle.opt_expr.proofs.Sweeping.{standing-more}
use Rattle.opt_expr.proofs.Visiting.{other_cell, own_cell, whole}
use Rattle.readable_passes.proofs.Follow.{cell_follows}
use Rattle.readable_passes.proofs.Replaced.{MayReplace, all_each, each_all, replaced_reads}

-- what is given is as wide as the output
given_long : (width : ℕ) (x : Option Change) (r : List SigBit) → option_map (fitted width) x ≡ Some (Gives r) → length r ≡ width
given_long width None r e = absurd (cc)
given_long width (Some (Gives word)) r e =
    let same : extended word width false ≡ r = cc in
    ap length (sym same) ∙ extended-length word width false
given_long width (Some (Becomes c)) r e = absurd (cc)

-- a cell of another kind in the place of a cell: an inverter or a multiplexer
module _ (wires : List Wire) (c : Cell) (is : IsCell wires c) (new : NewCell) (ha : IsSignal wires new.a) (hb : IsSignal wires new.b) (hs : IsSignal wires new.s) where
  abbrev y : List SigBit
  y = signal_at c.pins (pin_text Y)

  abbrev formed_as : CellKind → Cell
  formed_as kind = record c { kind_name = name_of kind; params = params_for kind (length new.a) (length (signal_at c.pins (pin_text Y))); pins = pins_for kind new (signal_at c.pins (pin_text Y)) }

  hy : IsSignal wires y
  hy = pin_signal wires c.pins (pin_text Y) is.pins

  abbrev at_a : Pin
  at_a = pin_of (codes "\\A") new.a

  abbrev at_y : Pin
  at_y = pin_of (codes "\\Y") (signal_at c.pins (pin_text Y))

  two : All (IsPin wires) (pin_of (codes "\\A") new.a ∷ pin_of (codes "\\Y") y ∷ [])
  two = pins_two wires at_a at_y (record { name = refl; sig = ha }) (record { name = refl; sig = hy })

  four : All (IsPin wires) (pin_of (codes "\\A") new.a ∷ pin_of (codes "\\B") new.b ∷ pin_of (codes "\\S") new.s ∷ pin_of (codes "\\Y") y ∷ [])
  four =
      All-cons (IsPin wires) at_a (pin_of (codes "\\B") new.b ∷ pin_of (codes "\\S") new.s ∷ pin_of (codes "\\Y") y ∷ []) (record { name = refl; sig = ha })
      (pins_three wires (pin_of (codes "\\B") new.b) (pin_of (codes "\\S") new.s) at_y (record { name = refl; sig = hb }) (record { name = refl; sig = hs }) (record { name = refl; sig = hy }))

  word_inverter : IsCell wires (formed_as (Word (Unary Not)))
  word_inverter = record {
    kind_name = refl;
    name = is.name;
    params =
        params_three (integer_param (codes "\\A_SIGNED") 0) (integer_param (codes "\\A_WIDTH") (length new.a)) (integer_param (codes "\\Y_WIDTH") (length y))
        (number_is (codes "\\A_SIGNED") 0 refl (omega arith)) (number_is (codes "\\A_WIDTH") (length new.a) refl (omega (arith, ha.width))) (number_is (codes "\\Y_WIDTH") (length y) refl (omega (arith, hy.width)));
    distinct_params = apart_distinct (codes "\\A_SIGNED" ∷ codes "\\A_WIDTH" ∷ codes "\\Y_WIDTH" ∷ []) refl;
    pins = two;
    distinct_pins = apart_distinct (codes "\\A" ∷ codes "\\Y" ∷ []) refl;
    attributes = is.attributes;
  }

  word_chooser : IsCell wires (formed_as (Word Mux))
  word_chooser = record {
    kind_name = refl;
    name = is.name;
    params = params_one (integer_param (codes "\\WIDTH") (length y)) (number_is (codes "\\WIDTH") (length y) refl (omega (arith, hy.width)));
    distinct_params = apart_distinct (codes "\\WIDTH" ∷ []) refl;
    pins = four;
    distinct_pins = apart_distinct (codes "\\A" ∷ codes "\\B" ∷ codes "\\S" ∷ codes "\\Y" ∷ []) refl;
    attributes = is.attributes;
  }

  gate_inverter : IsCell wires (formed_as (Gate gate.Not))
  gate_inverter = record {
    kind_name = refl;
    name = is.name;
    params = All-nil IsCellParam;
    distinct_params = apart_distinct [] refl;
    pins = two;
    distinct_pins = apart_distinct (codes "\\A" ∷ codes "\\Y" ∷ []) refl;
    attributes = is.attributes;
  }

  gate_chooser : IsCell wires (formed_as (Gate gate.Mux))
  gate_chooser = record {
    kind_name = refl;
    name = is.name;
    params = All-nil IsCellParam;
    distinct_params = apart_distinct [] refl;
    pins = four;
    distinct_pins = apart_distinct (codes "\\A" ∷ codes "\\B" ∷ codes "\\S" ∷ codes "\\Y" ∷ []) refl;
    attributes = is.attributes;
  }

  inverter_is : (kind : CellKind) → IsCell wires (formed_as (inverter_kind kind))
  inverter_is (Word kind) = word_inverter
  inverter_is (Gate kind) = gate_inverter
  inverter_is (Storage kind) = word_inverter
  inverter_is (StorageGate kind) = word_inverter
  inverter_is (Memory kind) = word_inverter

  chooser_is : (kind : CellKind) → IsCell wires (formed_as (chooser_kind kind))
  chooser_is (Word kind) = word_chooser
  chooser_is (Gate kind) = gate_chooser
  chooser_is (Storage kind) = word_chooser
  chooser_is (StorageGate kind) = word_chooser
  chooser_is (Memory kind) = word_chooser

  formed_is : (shape : Shape) → IsShaped shape new → IsCell wires (formed new c)
  formed_is shape (Inverter kind b s wide) = subst (λ k. IsCell wires (formed_as k)) (sym kind) (inverter_is shape.kind)
  formed_is shape (Chooser kind a b s) = subst (λ k. IsCell wires (formed_as k)) (sym kind) (chooser_is shape.kind)

module _ (table : PortTable) (m : Module) (ready : IsReady (types.table_ports table.modules) m) (reads : IsReadableModule m) (cells : List Cell) (done : List (Option Cell)) (rest : List Cell) (c : Cell) (at : m.cells ≡ flat_map listed done ++ c ∷ rest) where
  cell_is : (e : Cell) → In e m.cells → IsCell m.wires e
  cell_is e i = all_each (IsCell m.wires) m.cells reads.cells e i

  own : IsCell m.wires c
  own = cell_is c (own_cell table m ready cells done rest c at)

  pin_is : (e : Cell) → In e m.cells → (name : List ℕ) → Each (IsBitOf m.wires) (signal_at e.pins name)
  pin_is e i name = all_each (IsBitOf m.wires) (signal_at e.pins name) (pin_signal m.wires e.pins name (cell_is e i).pins).bits

  meant_is : (shape : Shape) (a b x : List SigBit) → Each (IsBitOf m.wires) x → Each (IsBitOf m.wires) (meant_of shape a b x)
  meant_is shape a b x h = by (counted_as shape.kind)
    where
      by : (o : Option WordKind) → Each (IsBitOf m.wires) (meant_as o shape a b x)
      by None = λ b i. absurd i
      by (Some k) = extended_has (IsBitOf m.wires) (λ b. tt) x (meant_width k (length a) (length b) shape.widths.y) (meant_signed k shape) h

  kept : MayReplace m c (c ∷ []) []
  kept = record { cells = All-cons (IsCell m.wires) c [] own (All-nil (IsCell m.wires)); names = λ name. omega arith; count = omega arith; links = All-nil (IsLink m.wires) }

  module _ (kind : CellKind) (r : IsRuled c kind) where
    abbrev shape : Shape
    shape = cell_shape kind c.params

    abbrev o : Operands
    o = operands_in cells done rest (cell_shape kind c.params) c.pins

    fit : misfit kind c ≡ None
    fit = (whole table m ready c (own_cell table m ready cells done rest c at)).fit kind r.kind

    made : IfMade (IsBitOf m.wires) (λ b. tt) shape (change_of shape o)
    made =
        let mine = pin_is c (own_cell table m ready cells done rest c at) in
        change_made (IsBitOf m.wires) (λ b. tt) shape o (mine (pin_text A)) (mine (pin_text B)) (mine (pin_text S)) (meant_is shape o.a o.b o.a (mine (pin_text A))) (meant_is shape o.a o.b o.b (mine (pin_text B)))
        (λ bit e.
        let q = inverted_bit_is cells done rest (signal_at c.pins (pin_text S)) bit e in
        let input = pin_is q.3.cell (other_cell table m ready cells done rest c at q.3.cell q.3.among) (pin_text A) in
        subst (IsBitOf m.wires) q.2 (at_place (IsBitOf m.wires) (λ b. tt) q.0 0 (Fixed X) tt (subst (Each (IsBitOf m.wires)) q.3.inverter.reads input)))
        (λ word e.
        let found = inverted_is cells done rest (signal_at c.pins (pin_text A)) word e in
        subst (Each (IsBitOf m.wires)) found.inverter.reads (pin_is found.cell (other_cell table m ready cells done rest c at found.cell found.among) (pin_text A)))
        (all_wide c o refl refl refl kind r.word fit refl refl)

    wide : length (signal_at c.pins (pin_text Y)) ≡ (cell_shape kind c.params).widths.y
    wide = output_wide kind c r.word fit

    output_is : IsSignal m.wires (signal_at c.pins (pin_text Y))
    output_is = pin_signal m.wires c.pins (pin_text Y) own.pins

    signal_of : (signal : List SigBit) → Each (IsBitOf m.wires) signal → length signal ≤ 4194304 → IsSignal m.wires signal
    signal_of signal each few = record { bits = each_all (IsBitOf m.wires) signal each; width = few }

    become : (new : NewCell) → IsBecome (IsBitOf m.wires) (λ b. tt) shape new → IsCell m.wires (formed new c)
    become new parts = by parts.shaped
      where
        by : IsShaped shape new → IsCell m.wires (formed new c)
        by (Inverter k b s long) =
            formed_is m.wires c own new
            (signal_of new.a parts.a (omega (arith, long, wide, output_is.width)))
            (signal_of new.b parts.b (omega (arith, ap length b)))
            (signal_of new.s parts.s (omega (arith, ap length s))) shape (Inverter k b s long)
        by (Chooser k long high one) =
            formed_is m.wires c own new
            (signal_of new.a parts.a (omega (arith, long, wide, output_is.width)))
            (signal_of new.b parts.b (omega (arith, high, wide, output_is.width)))
            (signal_of new.s parts.s (omega (arith, one))) shape (Chooser k long high one)

    by_change : (change : Option Change) → change_of (cell_shape kind c.params) (operands_in cells done rest (cell_shape kind c.params) c.pins) ≡ change → MayReplace m c (listed (changed change c).cell) (changed change c).links
    by_change None e = kept
    by_change (Some (Gives word)) e =
        let long : length word ≡ shape.widths.y = given_long shape.widths.y (first_of rules_in_order shape o) word e in
        let has : Each (IsBitOf m.wires) word = subst (IfMade (IsBitOf m.wires) (λ b. tt) shape) e made in
        record {
          cells = All-nil (IsCell m.wires);
          names = λ name. omega arith;
          count = omega arith;
          links = All-cons (IsLink m.wires) _ [] (record { left = output_is; right = signal_of word has (omega (arith, long, wide, output_is.width)) }) (All-nil (IsLink m.wires));
        }
    by_change (Some (Becomes new)) e =
        let parts : IsBecome (IsBitOf m.wires) (λ b. tt) shape new = subst (IfMade (IsBitOf m.wires) (λ b. tt) shape) e made in
        record {
          cells = All-cons (IsCell m.wires) (formed new c) [] (become new parts) (All-nil (IsCell m.wires));
          names = λ name. omega arith;
          count = omega arith;
          links = All-nil (IsLink m.wires);
        }

  -- what comes of the cell by the rules
  pub ruled_may : MayReplace m c (listed (by_rules cells done rest c).cell) (by_rules cells done rest c).links
  ruled_may = by (ruled_kind c) refl
    where
      by : (k : Option CellKind) → ruled_kind c ≡ k → MayReplace m c (listed (changed (change_by cells done rest k c) c).cell) (changed (change_by cells done rest k c) c).links
      by None e = kept
      by (Some kind) e = by_change kind (is_ruled c kind e) (change_of (cell_shape kind c.params) (operands_in cells done rest (cell_shape kind c.params) c.pins)) refl

  followed_may : MayReplace m c (followed_cell (types.table_ports table.modules) m.links c ∷ []) []
  followed_may = record {
    cells = All-cons (IsCell m.wires) _ [] (cell_follows m.wires m.links reads.links (types.table_ports table.modules) c own) (All-nil (IsCell m.wires));
    names = λ name. omega arith;
    count = omega arith;
    links = All-nil (IsLink m.wires);
  }

module _ (table : PortTable) (m : Module) (cells : List Cell) where
  abbrev so_far : List (Option Cell) → List Cell → List Link → Module
  so_far done rest links = record m { cells = flat_map listed done ++ rest; links = links }

  followed_ready : (done : List (Option Cell)) (c : Cell) (rest : List Cell) (links : List Link) → IsReady (types.table_ports table.modules) (so_far done (c ∷ rest) links) → IsReady (types.table_ports table.modules) (so_far done (followed_cell (types.table_ports table.modules) links c ∷ rest) links)
  followed_ready done c rest links ready =
      let first : IsPass table (so_far done (c ∷ rest) links) (so_far done (followed_cell (types.table_ports table.modules) links c ∷ rest) links) = followed_one table (so_far done (c ∷ rest) links) ready (flat_map listed done) c rest refl in
      first.ready ready

  visit_ready : (done : List (Option Cell)) (c : Cell) (rest : List Cell) (links : List Link) → IsReady (types.table_ports table.modules) (so_far done (c ∷ rest) links)
      → IsReady (types.table_ports table.modules) (so_far (done ++ (visit_of (types.table_ports table.modules) cells done rest links c).cell ∷ []) rest (links ++ (visit_of (types.table_ports table.modules) cells done rest links c).links))
  visit_ready done c rest links ready =
      let d : Cell = followed_cell (types.table_ports table.modules) links c in
      let v : Visit = by_rules cells done rest d in
      let next : IsReady (types.table_ports table.modules) (so_far done (d ∷ rest) links) = followed_ready done c rest links ready in
      let second : IsPass table (so_far done (d ∷ rest) links) (record m { cells = flat_map listed done ++ (listed v.cell ++ rest); links = links ++ v.links }) = ruled table (so_far done (d ∷ rest) links) next cells done rest d refl in
      subst (λ z. IsReady (types.table_ports table.modules) (record m { cells = z; links = links ++ v.links })) (standing-more done v.cell rest) (second.ready next)

  visit_reads : (done : List (Option Cell)) (c : Cell) (rest : List Cell) (links : List Link) → IsReady (types.table_ports table.modules) (so_far done (c ∷ rest) links) → IsReadableModule (so_far done (c ∷ rest) links)
      → IsReadableModule (so_far (done ++ (visit_of (types.table_ports table.modules) cells done rest links c).cell ∷ []) rest (links ++ (visit_of (types.table_ports table.modules) cells done rest links c).links))
  visit_reads done c rest links ready reads =
      let d : Cell = followed_cell (types.table_ports table.modules) links c in
      let v : Visit = by_rules cells done rest d in
      let first : IsReadableModule (so_far done (d ∷ rest) links) =
      subst (λ z. IsReadableModule (so_far done (d ∷ rest) z)) (append-nil links)
      (replaced_reads (so_far done (c ∷ rest) links) (flat_map listed done) c rest (d ∷ []) [] refl reads (followed_may table (so_far done (c ∷ rest) links) ready reads cells done rest c refl)) in
      let next : IsReady (types.table_ports table.modules) (so_far done (d ∷ rest) links) = followed_ready done c rest links ready in
      subst (λ z. IsReadableModule (record m { cells = z; links = links ++ v.links })) (standing-more done v.cell rest)
      (replaced_reads (so_far done (d ∷ rest) links) (flat_map listed done) d rest (listed v.cell) v.links refl first (ruled_may table (so_far done (d ∷ rest) links) next first cells done rest d refl))

  rest_reads : (rest : List Cell) (done : List (Option Cell)) (links : List Link) → IsReady (types.table_ports table.modules) (so_far done rest links) → IsReadableModule (so_far done rest links)
      → IsReadableModule (with_swept m (swept (types.table_ports table.modules) cells done rest links))
  rest_reads [] done links ready reads = subst (λ z. IsReadableModule (record m { cells = z; links = links })) (append-nil (flat_map listed done)) reads
  rest_reads (c ∷ rest) done links ready reads =
      let v : Visit = visit_of (types.table_ports table.modules) cells done rest links c in
      rest_reads rest (done ++ v.cell ∷ []) (links ++ v.links) (visit_ready done c rest links ready) (visit_reads done c rest links ready reads)

pub expr_reads : (table : PortTable) (m : Module) → IsReady (types.table_ports table.modules) m → IsReadableModule m → IsReadableModule (expr_of (types.table_ports table.modules) m)
expr_reads table m ready reads = rest_reads table m m.cells m.cells [] m.links ready reads
