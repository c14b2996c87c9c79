-- A cell whose inputs are followed, by the rules: what comes of it is a pass.
use Rattle.std.proofs.Common.{◌≡◌, ℕ, zero, suc, ◌<◌, Bool, true, false, List, [], ◌∷◌, ◌++◌, length, Option, Some, ◌⊎◌, inr, ⊎_elim, refl, sym, ◌∙◌, ap, subst, arith}
use Rattle.std.specs.Prelude.{flat_map, slice_get, slice_index_or}
use Rattle.cell_types.specs.declared.kind.CellKind.{CellKind}
use Rattle.cell_types.specs.declared.kind.CellKind.TheVariants as kind
use Rattle.cell_types.specs.declared.pin_name.PinName.TheVariants.{A, B, S, Y}
use Rattle.cell_types.specs.declared.shape.Shape.{Shape}
use Rattle.cell_types.specs.PinName.{pin_text}
use Rattle.rtl_bits.specs.Knowledge.{Below}
use Rattle.rtl_bits.specs.Tables.{not_of}
use Rattle.rtl_bits.specs.declared.bit.Bit.{Bit}
use Rattle.rtl_bits.specs.declared.bit.Bit.TheVariants.{S0, X}
use Rattle.rtl_ir.specs.Faults.Cells.{is_memory_kind}
use Rattle.rtl_ir.specs.Flat.Cell.{cell_kind, cell_rows, cell_shape, listed}
use Rattle.rtl_ir.specs.Flat.Driver.{Driven}
use Rattle.rtl_ir.specs.Flat.Place.{Path, Place}
use Rattle.rtl_ir.specs.Flat.Rows.{rows_of}
use Rattle.rtl_ir.specs.Flat.Start.{start_of}
use Rattle.rtl_ir.specs.Flat.Tree as flat
use Rattle.rtl_ir.specs.Outputs.{output_pin}
use Rattle.rtl_ir.specs.Parameters.{signal_at}
use Rattle.rtl_ir.specs.Types as types
use Rattle.rtl_ir.specs.declared.cell.Cell.{Cell}
use Rattle.rtl_ir.specs.declared.module.Link.{Link}
use Rattle.rtl_ir.specs.declared.module.Module.{Module}
use Rattle.rtl_ir.specs.declared.ports.PortTable.{PortTable}
use Rattle.rtl_ir.specs.declared.wire.Wire.{Wire}
use Rattle.rtl_sig.specs.declared.sig.SigBit.{SigBit}
use Rattle.rtl_sig.specs.declared.sig.SigBit.TheVariants.{Fixed, Wire as OnWire}
use Rattle.rtl_sig.specs.declared.sig.WireBit.{WireBit}
use Rattle.net_model.proofs.Members.{In-left, In-right}
use Rattle.net_model.specs.Lists.{In}
use Rattle.net_model.specs.Refine.{IsTight, Solved}
use Rattle.net_model.specs.Run.{Time}
use Rattle.net_model.specs.Valuation.{Valuation, read_words}
use Rattle.net_model.specs.Value.{value_of, worked_of}
use Rattle.net_model.specs.Within.{SigIn}
use Rattle.pass_laws.proofs.Alone.{library_faultless, shape_of}
use Rattle.pass_laws.proofs.Driving.{own_driver}
use Rattle.pass_laws.proofs.Forming.{own_cells}
use Rattle.pass_laws.proofs.Giving.{became, given, in_middle, output_link, signal_in}
use Rattle.pass_laws.proofs.Outputs.{output_wires}
use Rattle.pass_laws.proofs.Rewriting.{post_in, pre_in}
use Rattle.pass_laws.specs.Pass.{IsPass}
use Rattle.pass_laws.specs.Ready.{IsReady}
use Rattle.pass_laws.specs.Replaces.{replacing}
use Rattle.expr_rules.specs.Laws.{KnowsInverters, Refines, words_read}
use Rattle.expr_rules.specs.Signals.{first_bit}
use Rattle.expr_rules.specs.declared.change.Change.TheVariants.{Gives, Becomes}
use Rattle.expr_rules.specs.declared.change.NewCell.{NewCell}
use Rattle.opt_expr.specs.Formed.{formed}
use Rattle.opt_expr.specs.Places.{combinational}
use Rattle.opt_expr.specs.Sweep.{operands_in}
use Rattle.opt_expr.proofs.Forming.{IsFormed}
use Rattle.opt_expr.proofs.Known.{IsWhole, inverter_known, rows_in, shape_kind, words_of, words_read_are}
use Rattle.opt_expr.proofs.Others.{IsFound, inverted_bit_is, inverted_is}
use Rattle.opt_expr.proofs.Rows.{bit_in}

combinational_plain : (own : CellKind) → combinational (Some own) ≡ Some own → is_memory_kind own ≡ false
combinational_plain (kind.Word k) e = refl
combinational_plain (kind.Gate k) e = refl
combinational_plain (kind.Storage k) e = absurd (cc)
combinational_plain (kind.StorageGate k) e = absurd (cc)
combinational_plain (kind.Memory k) e = absurd (cc)

combinational_output : (own : CellKind) → combinational (Some own) ≡ Some own → output_pin own ≡ Some Y
combinational_output (kind.Word k) e = refl
combinational_output (kind.Gate k) e = refl
combinational_output (kind.Storage k) e = absurd (cc)
combinational_output (kind.StorageGate k) e = absurd (cc)
combinational_output (kind.Memory k) e = absurd (cc)

-- what a combinational cell gives at a place
value_at : (start : SigBit → Bit) (p : Path) (wires : List Wire) (t : Time Place) (w : Valuation) (c : Cell) (own : CellKind) (at : ℕ) (b : WireBit) → combinational (Some own) ≡ Some own
    → value_of (own_driver start p wires c own at b) t w ≡ worked_of (cell_shape own c.params).kind (cell_shape own c.params) (words_read (bit_in p wires w) (signal_at c.pins (pin_text A)) (signal_at c.pins (pin_text B)) (signal_at c.pins (pin_text S))) at
value_at start p wires t w c own at b word =
    by own word ∙ ap (λ z. worked_of (cell_shape own c.params).kind (cell_shape own c.params) z at) (words_read_are p wires w c)
  where
    by : (own : CellKind) → combinational (Some own) ≡ Some own → value_of (own_driver start p wires c own at b) t w ≡ worked_of (cell_shape own c.params).kind (cell_shape own c.params) (read_words w (words_of p wires c)) at
    by (kind.Word k) e = refl
    by (kind.Gate k) e = refl
    by (kind.Storage k) e = absurd (cc)
    by (kind.StorageGate k) e = absurd (cc)
    by (kind.Memory k) e = absurd (cc)

-- what stands at a place of a list is within it
got_within : (xs : List SigBit) (at : ℕ) (x : SigBit) → slice_get xs at ≡ Some x → at < length xs
got_within [] at x e = absurd (cc)
got_within (y ∷ ys) zero x e = omega arith
got_within (y ∷ ys) (suc at) x e = let later = got_within ys at x e in omega arith

module _ (table : PortTable) (m : Module) (ready : IsReady (types.table_ports table.modules) m) where
  -- each cell of the module is whole
  pub whole : (e : Cell) → In e m.cells → IsWhole e
  whole e i = record {
    fit = λ own k. (shape_of (types.table_ports table.modules) e own k (own_cells (types.table_ports table.modules) m ready e i)).fit;
    wires = λ own k word. output_wires own e Y (combinational_output own word) (shape_of (types.table_ports table.modules) e own k (own_cells (types.table_ports table.modules) m ready e i)).output;
  }

  module _ (cells : List Cell) (done : List (Option Cell)) (rest : List Cell) (c : Cell) (is : m.cells ≡ flat_map listed done ++ c ∷ rest) where
    pub own_cell : In c m.cells
    own_cell = subst (In c) (sym is) (in_middle (flat_map listed done) c rest)

    pub other_cell : (e : Cell) → In e (flat_map listed done) ⊎ In e rest → In e m.cells
    other_cell e i =
        subst (In e) (sym is) (⊎_elim (λ l. In-left e (flat_map listed done) (c ∷ rest) l) (λ r. In-right e (flat_map listed done) (c ∷ rest) (inr r)) i)

    -- what a solution knows of the inverters below the cell
    module _ (shape : Shape) (here : List Cell) (more : List Link) (p : Path) (t : Time Place) (w : Valuation) (s : Solved (rows_of (flat.table_ports table) p (replacing (flat_map listed done) here rest more m)) t w) where
      tight_of : (e : Cell) → In e (flat_map listed done) ⊎ In e rest → (x : Driven) → In x (cell_rows (start_of m.wires m.processes) (flat.table_ports table) p m.wires e (cell_kind e)) → IsTight x t w
      tight_of e among x i =
          s.tight x
          (⊎_elim
          (λ l. pre_in m (flat_map listed done) rest here more (flat.table_ports table) p x (rows_in (start_of m.wires m.processes) (flat.table_ports table) p m.wires (flat_map listed done) e x l i))
          (λ r. post_in m (flat_map listed done) rest here more (flat.table_ports table) p x (rows_in (start_of m.wires m.processes) (flat.table_ports table) p m.wires rest e x r i))
          among)

      found_known : (logic : Bool) (word input : List SigBit) → IsFound logic done rest word input → (logic ≡ true → length word ≡ 1) → (k : ℕ) → k < length word
          → Below (bit_in p m.wires w (slice_index_or word k (Fixed X))) (not_of (bit_in p m.wires w (slice_index_or input k (Fixed X))))
      found_known logic word input found one k lt =
          inverter_known (start_of m.wires m.processes) (flat.table_ports table) p m.wires t w logic found.cell word input (whole found.cell (other_cell found.cell found.among)) found.inverter one (tight_of found.cell found.among) k lt

      knows : KnowsInverters (bit_in p m.wires w) (operands_in cells done rest shape c.pins)
      knows = record {
        inverted = λ bit e.
            let q = inverted_bit_is cells done rest (signal_at c.pins (pin_text S)) bit e in
            let one : length (signal_at c.pins (pin_text S)) ≡ 1 = q.1 in
            subst (λ z. Below (bit_in p m.wires w (first_bit (signal_at c.pins (pin_text S)))) (not_of (bit_in p m.wires w z))) q.2
            (found_known true (signal_at c.pins (pin_text S)) q.0 q.3 (λ l. one) 0 (omega arith));
        inner = λ a e at lt.
            let found = inverted_is cells done rest (signal_at c.pins (pin_text A)) a e in
            let wide : length (signal_at found.cell.pins (pin_text A)) ≡ length (signal_at c.pins (pin_text A)) = found.inverter.wide in
            let reads : length (signal_at found.cell.pins (pin_text A)) ≡ length a = ap length found.inverter.reads in
            found_known false (signal_at c.pins (pin_text A)) a found (λ l. absurd (cc)) at (omega arith);
      }

    module _ (own : CellKind) (k : cell_kind c ≡ Some own) (word : combinational (Some own) ≡ Some own) (wide : length (signal_at c.pins (pin_text Y)) ≡ (cell_shape own c.params).widths.y) where
      output_within : SigIn (length m.wires) (signal_at c.pins (pin_text Y))
      output_within = signal_in (length m.wires) c.pins (pin_text Y) (ready.within.cells c own_cell)

      -- the cell goes, and its output is connected
      pub gives : (r : List SigBit) → Refines (cell_shape own c.params) (operands_in cells done rest (cell_shape own c.params) c.pins) (Gives r) → length r ≡ (cell_shape own c.params).widths.y → SigIn (length m.wires) r
          → IsPass table m (replacing (flat_map listed done) [] rest (output_link c Y r ∷ []) m)
      gives r refines long names =
          given table m (flat_map listed done) c rest ready is own k (combinational_plain own word) Y (combinational_output own word) r (wide ∙ sym long) names
          (λ p t w s before at b there.
          let lt = got_within (signal_at c.pins (pin_text Y)) at (OnWire b) there in
          let law = refines (bit_in p m.wires w) (λ x. refl) (knows (cell_shape own c.params) [] (output_link c Y r ∷ []) p t w s) at (omega (arith, wide)) in
          subst (λ z. Below z (bit_in p m.wires w (slice_index_or r at (Fixed S0)))) (sym (value_at (start_of m.wires m.processes) p m.wires t w c own at b word)) law)

      -- the cell becomes another one
      pub becomes : (new : NewCell) → Refines (cell_shape own c.params) (operands_in cells done rest (cell_shape own c.params) c.pins) (Becomes new) → IsFormed c new → SigIn (length m.wires) new.a → SigIn (length m.wires) new.b → SigIn (length m.wires) new.s
          → IsPass table m (record m { cells = flat_map listed done ++ formed new c ∷ rest })
      becomes new refines f a b s =
          became table m (flat_map listed done) c rest ready is own k (combinational_plain own word) Y (combinational_output own word) (formed new c) new.kind f.kind Y (combinational_output new.kind f.word) f.output
          (library_faultless (types.table_ports table.modules) (formed new c) new.kind f.kind (combinational_plain new.kind f.word) f.fit (f.wires ((whole c own_cell).wires own k word)))
          (f.within (length m.wires) a b s output_within)
          (λ p t w r before at bit there.
          let lt = got_within (signal_at c.pins (pin_text Y)) at (OnWire bit) there in
          let other : Shape = cell_shape new.kind (formed new c).params in
          let law = refines (bit_in p m.wires w) (λ x. refl) (knows (cell_shape own c.params) (formed new c ∷ []) [] p t w r) other (shape_kind new.kind (formed new c)) (f.width ∙ wide) at (omega (arith, wide)) in
          let new_value : value_of (own_driver (start_of m.wires m.processes) p m.wires (formed new c) new.kind at bit) t w ≡ worked_of new.kind other (words_read (bit_in p m.wires w) new.a new.b new.s) at =
          value_at (start_of m.wires m.processes) p m.wires t w (formed new c) new.kind at bit f.word
          ∙ (λ i. worked_of (shape_kind new.kind (formed new c) i) other (words_read (bit_in p m.wires w) (f.at_a i) (f.at_b i) (f.at_s i)) at)
          in
          subst (λ z. Below (value_of (own_driver (start_of m.wires m.processes) p m.wires c own at bit) t w) z) (sym new_value)
          (subst (λ z. Below z (worked_of new.kind other (words_read (bit_in p m.wires w) new.a new.b new.s) at)) (sym (value_at (start_of m.wires m.processes) p m.wires t w c own at bit word)) law))
