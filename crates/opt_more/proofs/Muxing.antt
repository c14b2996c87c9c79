-- What comes of an arm of a multiplexer is a pass.
use Rattle.std.proofs.Common.{◌≡◌, ℕ, zero, suc, ◌+◌, ◌<◌, false, List, [], ◌∷◌, ◌++◌, length, map, Option, Some, None, ◌⊎◌, inl, inr, ⊎_elim, refl, sym, ◌∙◌, ap, subst, arith}
use Rattle.std.specs.Prelude.{flat_map, slice_get, slice_index_or}
use Rattle.std.specs.Str.{bytes_eq}
use Rattle.std.proofs.lemmas.List.{length-map}
use Rattle.cell_types.specs.PinName.{pin_text}
use Rattle.cell_types.specs.Pins.{pins_of}
use Rattle.cell_types.specs.Widths.{pin_width}
use Rattle.cell_types.specs.declared.gate.GateKind.TheVariants as gate
use Rattle.cell_types.specs.declared.kind.CellKind.{CellKind}
use Rattle.cell_types.specs.declared.kind.CellKind.TheVariants.{Word, Gate}
use Rattle.cell_types.specs.declared.pin_name.PinName.{PinName}
use Rattle.cell_types.specs.declared.pin_name.PinName.TheVariants.{A, B, S, Y}
use Rattle.cell_types.specs.declared.word.WordKind.TheVariants.{Mux}
use Rattle.rtl_bits.specs.Knowledge.{Below}
use Rattle.rtl_bits.specs.Tables.{mux_of}
use Rattle.rtl_bits.specs.declared.bit.Bit.{Bit}
use Rattle.rtl_bits.specs.declared.bit.Bit.TheVariants.{X}
use Rattle.rtl_ir.specs.Faults.Cells.{is_memory_kind, misfit}
use Rattle.rtl_ir.specs.Flat.Cell.{cell_kind, cell_rows, cell_shape, listed, outputs}
use Rattle.rtl_ir.specs.Flat.Driver.{Driven}
use Rattle.rtl_ir.specs.Flat.Link.{link_rows}
use Rattle.rtl_ir.specs.Flat.Place.{Path, Place}
use Rattle.rtl_ir.specs.Flat.Point.{points}
use Rattle.rtl_ir.specs.Flat.Rows.{rows_of}
use Rattle.rtl_ir.specs.Flat.Start.{start_of}
use Rattle.rtl_ir.specs.Flat.Tree as flat
use Rattle.rtl_ir.specs.Follow.{follow}
use Rattle.rtl_ir.specs.Outputs.{drives_pin, output_pin}
use Rattle.rtl_ir.specs.Parameters.{given_params, signal_at}
use Rattle.rtl_ir.specs.Signals.{has_constant}
use Rattle.rtl_ir.specs.Types as types
use Rattle.rtl_ir.specs.Types.{Library}
use Rattle.rtl_ir.specs.declared.cell.Cell.{Cell}
use Rattle.rtl_ir.specs.declared.module.Module.{Module}
use Rattle.rtl_ir.specs.declared.ports.PortTable.{PortTable}
use Rattle.rtl_ir.specs.declared.wire.Wire.{Wire}
use Rattle.rtl_sig.specs.declared.sig.SigBit.{SigBit}
use Rattle.rtl_sig.specs.declared.sig.SigBit.TheVariants.{Fixed, Wire as OnWire}
use Rattle.rtl_sig.specs.declared.sig.WireBit.{WireBit}
use Rattle.net_model.proofs.Members.{In-left, In-mapped, In-right}
use Rattle.net_model.proofs.Relating.{solved_within}
use Rattle.net_model.proofs.Swapping.{before_within}
use Rattle.net_model.specs.Lists.{In}
use Rattle.net_model.specs.Refine.{IsTight, Solved, SolvedBefore}
use Rattle.net_model.specs.Run.{Time}
use Rattle.net_model.specs.Valuation.{Valuation, read_words}
use Rattle.net_model.specs.Value.{value_of, worked_of}
use Rattle.net_model.specs.Within.{BitIn, SigIn}
use Rattle.expr_rules.proofs.Reading.{read_word}
use Rattle.expr_rules.specs.Laws.{read_at}
use Rattle.follow_laws.proofs.Following.{follow_read}
use Rattle.follow_laws.proofs.Signals.{follow_in}
use Rattle.pass_laws.proofs.Alone.{HasShape, library_faultless, shape_of}
use Rattle.pass_laws.proofs.Driving.{own_driver}
use Rattle.pass_laws.proofs.Forming.{own_cells}
use Rattle.pass_laws.proofs.Giving.{became, in_middle, signal_in}
use Rattle.pass_laws.proofs.Outputs.{output_wires}
use Rattle.pass_laws.proofs.PinWidths.{pin_fits}
use Rattle.pass_laws.proofs.Rewriting.{links_in, post_in, pre_in}
use Rattle.pass_laws.specs.Pass.{IsPass}
use Rattle.pass_laws.specs.Ready.{IsReady}
use Rattle.pass_laws.specs.Replaces.{replacing}
use Rattle.opt_expr.proofs.Fitting.{output_wide}
use Rattle.opt_expr.proofs.Known.{rows_in, rows_worked, shape_kind, words_of, words_read_are}
use Rattle.opt_expr.proofs.Rows.{bit_in, tight_rows}
use Rattle.opt_expr.specs.Places.{combinational}
use Rattle.opt_more.specs.Changed.{with_signal}
use Rattle.opt_more.specs.Muxtree.{arm_end, standing_now, with_arm}
use Rattle.opt_more.proofs.Changing.{fits_rewired, no_constant, other_pin, own_pin, pins_within}
use Rattle.opt_more.proofs.MuxBits.{ArmBelow, IsArm, IsMuxCell, IsMuxKind, First, Second, OfBits, OfWords, arm_bit, arm_passed, arm_refl, arm_trans, mux_value}
use Rattle.opt_more.proofs.MuxSteps.{IsStep, walked_keeps}

got_within : (xs : List SigBit) (at : ℕ) (x : SigBit) → slice_get xs at ≡ Some x → at < length xs
got_within [] at x e = absurd (cc)
got_within (y ∷ ys) zero x e = omega arith
got_within (y ∷ ys) (suc at) x e = let later = got_within ys at x e in omega arith

another_arm : (arm : PinName) (bits : List SigBit) (c : Cell) → cell_kind (record c { pins = with_signal arm bits c.pins }) ≡ cell_kind c
unfolding cell_kind
another_arm arm bits c = refl

-- of a multiplexer
module _ (own : CellKind) (k : IsMuxKind own) where
  mux_word : combinational (Some own) ≡ Some own
  mux_word = by own k
    where
      by : (own : CellKind) → IsMuxKind own → combinational (Some own) ≡ Some own
      by (Word Mux) OfWords = refl
      by (Gate gate.Mux) OfBits = refl
      by own k = elim k [ ]

  mux_plain : is_memory_kind own ≡ false
  mux_plain = by own k
    where
      by : (own : CellKind) → IsMuxKind own → is_memory_kind own ≡ false
      by (Word Mux) OfWords = refl
      by (Gate gate.Mux) OfBits = refl
      by own k = elim k [ ]

  mux_output : output_pin own ≡ Some Y
  mux_output = by own k
    where
      by : (own : CellKind) → IsMuxKind own → output_pin own ≡ Some Y
      by (Word Mux) OfWords = refl
      by (Gate gate.Mux) OfBits = refl
      by own k = elim k [ ]

  arm_there : (arm : PinName) → IsArm arm → In arm (pins_of own)
  arm_there arm a = by own k arm a
    where
      by : (own : CellKind) → IsMuxKind own → (arm : PinName) → IsArm arm → In arm (pins_of own)
      by (Word Mux) OfWords A First = inl refl
      by (Word Mux) OfWords B Second = inr (inl refl)
      by (Gate gate.Mux) OfBits A First = inl refl
      by (Gate gate.Mux) OfBits B Second = inr (inl refl)
      by (Word Mux) OfWords arm a = elim a [ ]
      by (Gate gate.Mux) OfBits arm a = elim a [ ]
      by own k arm a = elim k [ ]

  -- an arm is as wide as the parameters say, and so is the output
  arm_wide : (c : Cell) → misfit own c ≡ None → (arm : PinName) → IsArm arm → (length (signal_at c.pins (pin_text arm)) ≡ pin_width own (given_params c.params) arm) × (length (signal_at c.pins (pin_text Y)) ≡ pin_width own (given_params c.params) arm)
  arm_wide c fit arm a = by own k fit arm a
    where
      by : (own : CellKind) → IsMuxKind own → misfit own c ≡ None → (arm : PinName) → IsArm arm → (length (signal_at c.pins (pin_text arm)) ≡ pin_width own (given_params c.params) arm) × (length (signal_at c.pins (pin_text Y)) ≡ pin_width own (given_params c.params) arm)
      by (Word Mux) OfWords fit A First = (pin_fits (Word Mux) c A fit refl (inl refl), pin_fits (Word Mux) c Y fit refl (inr (inr (inr (inl refl)))))
      by (Word Mux) OfWords fit B Second = (pin_fits (Word Mux) c B fit refl (inr (inl refl)), pin_fits (Word Mux) c Y fit refl (inr (inr (inr (inl refl)))))
      by (Gate gate.Mux) OfBits fit A First = (pin_fits (Gate gate.Mux) c A fit refl (inl refl), pin_fits (Gate gate.Mux) c Y fit refl (inr (inr (inr (inl refl)))))
      by (Gate gate.Mux) OfBits fit B Second = (pin_fits (Gate gate.Mux) c B fit refl (inr (inl refl)), pin_fits (Gate gate.Mux) c Y fit refl (inr (inr (inr (inl refl)))))
      by (Word Mux) OfWords fit arm a = elim a [ ]
      by (Gate gate.Mux) OfBits fit arm a = elim a [ ]
      by own k fit arm a = elim k [ ]

  -- an arm is none of the other pins, and is not driven
  pub arm_free : (arm : PinName) → IsArm arm → drives_pin (Library own) (pin_text arm) ≡ false
  arm_free arm a = by own k arm a
    where
      by : (own : CellKind) → IsMuxKind own → (arm : PinName) → IsArm arm → drives_pin (Library own) (pin_text arm) ≡ false
      by (Word Mux) OfWords A First = refl
      by (Word Mux) OfWords B Second = refl
      by (Gate gate.Mux) OfBits A First = refl
      by (Gate gate.Mux) OfBits B Second = refl
      by (Word Mux) OfWords arm a = elim a [ ]
      by (Gate gate.Mux) OfBits arm a = elim a [ ]
      by own k arm a = elim k [ ]

  -- a bit of its value
  mux_worked : (p : Path) (wires : List Wire) (w : Valuation) (c : Cell) (at : ℕ) → at < (cell_shape own c.params).widths.y
      → worked_of (cell_shape own c.params).kind (cell_shape own c.params) (read_words w (words_of p wires c)) at ≡ mux_of (read_at (bit_in p wires w) (signal_at c.pins (pin_text A)) at) (read_at (bit_in p wires w) (signal_at c.pins (pin_text B)) at) (read_at (bit_in p wires w) (signal_at c.pins (pin_text S)) 0)
  mux_worked p wires w c at lt =
      let f : SigBit → Bit = bit_in p wires w in
      (λ i. worked_of (shape_kind own c i) (cell_shape own c.params) (words_read_are p wires w c i) at)
      ∙ mux_value own c (map f (signal_at c.pins (pin_text A))) (map f (signal_at c.pins (pin_text B))) (map f (signal_at c.pins (pin_text S))) at k lt
      ∙ (λ i. mux_of (read_word (bit_in p wires w) (λ x. refl) (signal_at c.pins (pin_text A)) at i) (read_word (bit_in p wires w) (λ x. refl) (signal_at c.pins (pin_text B)) at i) (read_word (bit_in p wires w) (λ x. refl) (signal_at c.pins (pin_text S)) 0 i))

  -- a bit of what it gives
  mux_driven : (start : SigBit → Bit) (p : Path) (wires : List Wire) (t : Time Place) (w : Valuation) (c : Cell) (at : ℕ) (b : WireBit) → at < (cell_shape own c.params).widths.y
      → value_of (own_driver start p wires c own at b) t w ≡ mux_of (read_at (bit_in p wires w) (signal_at c.pins (pin_text A)) at) (read_at (bit_in p wires w) (signal_at c.pins (pin_text B)) at) (read_at (bit_in p wires w) (signal_at c.pins (pin_text S)) 0)
  mux_driven start p wires t w c at b lt = by own k ∙ mux_worked p wires w c at lt
    where
      by : (own : CellKind) → IsMuxKind own → value_of (own_driver start p wires c own at b) t w ≡ worked_of (cell_shape own c.params).kind (cell_shape own c.params) (read_words w (words_of p wires c)) at
      by (Word Mux) OfWords = refl
      by (Gate gate.Mux) OfBits = refl
      by own k = elim k [ ]

module _ (table : PortTable) (m : Module) (ready : IsReady (types.table_ports table.modules) m) (cells : List Cell) (done : List (Option Cell)) (rest : List Cell) (c : Cell) (is : m.cells ≡ flat_map listed done ++ c ∷ rest) (mux : IsMuxCell c) (arm : PinName) (a : IsArm arm)
    (fixed : map (follow m.links) (signal_at c.pins (pin_text arm)) ≡ signal_at c.pins (pin_text arm)) where
  own_cell : In c m.cells
  own_cell = subst (In c) (sym is) (in_middle (flat_map listed done) c rest)

  other_cell : (e : Cell) → In e (flat_map listed done) ⊎ In e rest → In e m.cells
  other_cell e i =
      subst (In e) (sym is) (⊎_elim (λ l. In-left e (flat_map listed done) (c ∷ rest) l) (λ r. In-right e (flat_map listed done) (c ∷ rest) (inr r)) i)

  fine : (e : Cell) → In e m.cells → (kind : CellKind) → cell_kind e ≡ Some kind → HasShape e kind
  fine e i kind k = shape_of (types.table_ports table.modules) e kind k (own_cells (types.table_ports table.modules) m ready e i)

  abbrev kind : CellKind
  kind = mux.own

  abbrev start : List SigBit
  start = signal_at c.pins (pin_text arm)

  wide : (e : Cell) → In e m.cells → cell_kind e ≡ Some mux.own → length (signal_at e.pins (pin_text arm)) ≡ length (signal_at e.pins (pin_text Y))
  wide e i k = let w = arm_wide mux.own mux.mux e (fine e i mux.own k).fit arm a in w.0 ∙ sym w.1

  -- the cell of a step is one of the module
  step_in : (word next : List SigBit) → (s : IsStep arm m.links done c rest word next) → In s.cell m.cells
  step_in word next s = ⊎_elim (λ o. other_cell s.cell o) (λ e. subst (λ z. In z m.cells) (sym e) own_cell) s.among

  step_kind : (word next : List SigBit) → (s : IsStep arm m.links done c rest word next) → cell_kind s.cell ≡ Some mux.own
  step_kind word next s = s.kind ∙ mux.kind

  -- where the way ends
  abbrev end : List SigBit
  end = arm_end arm cells (standing_now done c rest) m.links c

  end_long : length (arm_end arm cells (standing_now done c rest) m.links c) ≡ length (signal_at c.pins (pin_text arm))
  end_long =
      walked_keeps arm m.links done c rest cells (λ z. length z ≡ length (signal_at c.pins (pin_text arm)))
      (λ word next s h. ap length (sym s.leads) ∙ length-map (signal_at s.cell.pins (pin_text arm)) (follow m.links) ∙ wide s.cell (step_in word next s) (step_kind word next s) ∙ ap length s.whole ∙ h)
      (length (standing_now done c rest)) (signal_at c.pins (pin_text arm)) refl

  end_in : SigIn (length m.wires) (arm_end arm cells (standing_now done c rest) m.links c)
  end_in =
      walked_keeps arm m.links done c rest cells (SigIn (length m.wires))
      (λ word next s h. subst (SigIn (length m.wires)) s.leads (λ x i.
      let q = In-mapped (follow m.links) x (signal_at s.cell.pins (pin_text arm)) i in
      subst (BitIn (length m.wires)) (sym q.2) (follow_in (length m.wires) m.links ready.within.links q.0 (signal_in (length m.wires) s.cell.pins (pin_text arm) (ready.within.cells s.cell (step_in word next s)) q.0 q.1))))
      (length (standing_now done c rest)) (signal_at c.pins (pin_text arm)) (signal_in (length m.wires) c.pins (pin_text arm) (ready.within.cells c own_cell))

  module _ (here : List Cell) (p : Path) (t : Time Place) (w : Valuation) (s : Solved (rows_of (flat.table_ports table) p (replacing (flat_map listed done) here rest [] m)) t w) (before : SolvedBefore (rows_of (flat.table_ports table) p (replacing (flat_map listed done) here rest [] m)) t) where
    tight_of : (e : Cell) → In e (flat_map listed done) ⊎ In e rest → (x : Driven) → In x (cell_rows (start_of m.wires m.processes) (flat.table_ports table) p m.wires e (cell_kind e)) → IsTight x t w
    tight_of e among x i =
        s.tight x
        (⊎_elim
        (λ l. pre_in m (flat_map listed done) rest here [] (flat.table_ports table) p x (rows_in (start_of m.wires m.processes) (flat.table_ports table) p m.wires (flat_map listed done) e x l i))
        (λ r. post_in m (flat_map listed done) rest here [] (flat.table_ports table) p x (rows_in (start_of m.wires m.processes) (flat.table_ports table) p m.wires rest e x r i))
        among)

    -- a bit is no better known than what it follows to
    followed_below : (x : SigBit) → Below (bit_in p m.wires w x) (bit_in p m.wires w (follow m.links x))
    followed_below x =
        (follow_read p m.wires m.links t w (solved_within (link_rows p m.wires m.links) (rows_of (flat.table_ports table) p (replacing (flat_map listed done) here rest [] m)) within t w s) (before_within (link_rows p m.wires m.links) (rows_of (flat.table_ports table) p (replacing (flat_map listed done) here rest [] m)) within t before) x).now.there
      where
        within : (d : Driven) → In d (link_rows p m.wires m.links) → In d (rows_of (flat.table_ports table) p (replacing (flat_map listed done) here rest [] m))
        within d i = links_in m (flat_map listed done) rest here [] (flat.table_ports table) p d i

    -- place by place
    followed_at_below : (bits : List SigBit) (at : ℕ) → Below (read_at (bit_in p m.wires w) bits at) (read_at (bit_in p m.wires w) (map (follow m.links) bits) at)
    followed_at_below [] at = tt
    followed_at_below (b ∷ bits) zero = followed_below b
    followed_at_below (b ∷ bits) (suc at) = followed_at_below bits at

    abbrev select : Bit
    select = read_at (bit_in p m.wires w) (signal_at c.pins (pin_text S)) 0

    -- a step from the output of another cell
    step_below : (e : Cell) → (In e (flat_map listed done) ⊎ In e rest) → cell_kind e ≡ Some mux.own → map (follow m.links) (signal_at e.pins (pin_text S)) ≡ signal_at c.pins (pin_text S) → (at : ℕ) → at < length (signal_at e.pins (pin_text Y))
        → ArmBelow arm (read_at (bit_in p m.wires w) (signal_at c.pins (pin_text S)) 0) (read_at (bit_in p m.wires w) (signal_at e.pins (pin_text Y)) at) (read_at (bit_in p m.wires w) (map (follow m.links) (signal_at e.pins (pin_text arm))) at)
    step_below e among k chooses at lt =
        let f : SigBit → Bit = bit_in p m.wires w in
        let shape = fine e (other_cell e among) mux.own k in
        let y : List SigBit = signal_at e.pins (pin_text Y) in
        let none : has_constant y ≡ false = output_wires mux.own e Y (mux_output mux.own mux.mux) shape.output in
        let under : at < (cell_shape mux.own e.params).widths.y = subst (λ n. at < n) (output_wide mux.own e (mux_word mux.own mux.mux) shape.fit) lt in
        let rows : (x : Driven) → In x (outputs (cell_shape mux.own e.params) (words_of p m.wires e) (points p m.wires y) 0) → IsTight x t w = λ x i. tight_of e among x (subst (In x) (sym (rows_worked (start_of m.wires m.processes) (flat.table_ports table) p m.wires e mux.own (mux_word mux.own mux.mux) k)) i) in
        let known : Below (bit_in p m.wires w (slice_index_or y at (Fixed X))) (worked_of (cell_shape mux.own e.params).kind (cell_shape mux.own e.params) (read_words w (words_of p m.wires e)) (0 + at)) = tight_rows p m.wires t w (cell_shape mux.own e.params) (words_of p m.wires e) y 0 at none lt rows in
        let zero_at : 0 + at ≡ at = omega arith in
        let value : worked_of (cell_shape mux.own e.params).kind (cell_shape mux.own e.params) (read_words w (words_of p m.wires e)) (0 + at) ≡ mux_of (read_at (bit_in p m.wires w) (signal_at e.pins (pin_text A)) at) (read_at (bit_in p m.wires w) (signal_at e.pins (pin_text B)) at) (read_at (bit_in p m.wires w) (signal_at e.pins (pin_text S)) 0) = ap (worked_of (cell_shape mux.own e.params).kind (cell_shape mux.own e.params) (read_words w (words_of p m.wires e))) zero_at ∙ mux_worked mux.own mux.mux p m.wires w e at under in
        let chosen : Below (read_at (bit_in p m.wires w) (signal_at e.pins (pin_text S)) 0) (read_at (bit_in p m.wires w) (signal_at c.pins (pin_text S)) 0) = subst (λ z. Below (read_at (bit_in p m.wires w) (signal_at e.pins (pin_text S)) 0) (read_at (bit_in p m.wires w) z 0)) chooses (followed_at_below (signal_at e.pins (pin_text S)) 0) in
        arm_passed arm a
        (read_at (bit_in p m.wires w) (signal_at c.pins (pin_text S)) 0)
        (read_at (bit_in p m.wires w) (signal_at e.pins (pin_text S)) 0)
        (read_at (bit_in p m.wires w) y at)
        (read_at (bit_in p m.wires w) (signal_at e.pins (pin_text A)) at)
        (read_at (bit_in p m.wires w) (signal_at e.pins (pin_text B)) at)
        (read_at (bit_in p m.wires w) (map (follow m.links) (signal_at e.pins (pin_text arm))) at)
        chosen
        (subst (Below (read_at (bit_in p m.wires w) y at)) value known)
        (arm_followed e at)
      where
        arm_followed : (e : Cell) (at : ℕ) → Below (arm_bit arm (read_at (bit_in p m.wires w) (signal_at e.pins (pin_text A)) at) (read_at (bit_in p m.wires w) (signal_at e.pins (pin_text B)) at)) (read_at (bit_in p m.wires w) (map (follow m.links) (signal_at e.pins (pin_text arm))) at)
        arm_followed e at = by arm a
          where
            by : (arm : PinName) → IsArm arm → Below (arm_bit arm (read_at (bit_in p m.wires w) (signal_at e.pins (pin_text A)) at) (read_at (bit_in p m.wires w) (signal_at e.pins (pin_text B)) at)) (read_at (bit_in p m.wires w) (map (follow m.links) (signal_at e.pins (pin_text arm))) at)
            by A First = followed_at_below (signal_at e.pins (pin_text A)) at
            by B Second = followed_at_below (signal_at e.pins (pin_text B)) at
            by arm a = elim a [ ]

    -- so is the whole way
    end_below : (at : ℕ) → at < length (signal_at c.pins (pin_text Y))
        → ArmBelow arm (read_at (bit_in p m.wires w) (signal_at c.pins (pin_text S)) 0) (read_at (bit_in p m.wires w) (signal_at c.pins (pin_text arm)) at) (read_at (bit_in p m.wires w) (arm_end arm cells (standing_now done c rest) m.links c) at)
    end_below at lt =
        (walked_keeps arm m.links done c rest cells
        (λ z. (length z ≡ length (signal_at c.pins (pin_text Y))) × ArmBelow arm (read_at (bit_in p m.wires w) (signal_at c.pins (pin_text S)) 0) (read_at (bit_in p m.wires w) (signal_at c.pins (pin_text arm)) at) (read_at (bit_in p m.wires w) z at))
        step
        (length (standing_now done c rest)) (signal_at c.pins (pin_text arm))
        (wide c own_cell mux.kind, arm_refl arm a (read_at (bit_in p m.wires w) (signal_at c.pins (pin_text S)) 0) (read_at (bit_in p m.wires w) (signal_at c.pins (pin_text arm)) at))).1
      where
        step : (word next : List SigBit) → IsStep arm m.links done c rest word next → (length word ≡ length (signal_at c.pins (pin_text Y))) × ArmBelow arm (read_at (bit_in p m.wires w) (signal_at c.pins (pin_text S)) 0) (read_at (bit_in p m.wires w) (signal_at c.pins (pin_text arm)) at) (read_at (bit_in p m.wires w) word at)
            → (length next ≡ length (signal_at c.pins (pin_text Y))) × ArmBelow arm (read_at (bit_in p m.wires w) (signal_at c.pins (pin_text S)) 0) (read_at (bit_in p m.wires w) (signal_at c.pins (pin_text arm)) at) (read_at (bit_in p m.wires w) next at)
        step word next q h =
            let long : length next ≡ length (signal_at c.pins (pin_text Y)) = ap length (sym q.leads) ∙ length-map (signal_at q.cell.pins (pin_text arm)) (follow m.links) ∙ wide q.cell (step_in word next q) (step_kind word next q) ∙ ap length q.whole ∙ h.0 in
            (long, ⊎_elim other itself q.among)
          where
            other : In q.cell (flat_map listed done) ⊎ In q.cell rest → ArmBelow arm (read_at (bit_in p m.wires w) (signal_at c.pins (pin_text S)) 0) (read_at (bit_in p m.wires w) (signal_at c.pins (pin_text arm)) at) (read_at (bit_in p m.wires w) next at)
            other among =
                let under : at < length (signal_at q.cell.pins (pin_text Y)) = subst (λ n. at < n) (sym (ap length q.whole ∙ h.0)) lt in
                arm_trans arm a (read_at (bit_in p m.wires w) (signal_at c.pins (pin_text S)) 0) (read_at (bit_in p m.wires w) (signal_at c.pins (pin_text arm)) at) (read_at (bit_in p m.wires w) word at) (read_at (bit_in p m.wires w) next at) h.1
                (subst (λ z. ArmBelow arm (read_at (bit_in p m.wires w) (signal_at c.pins (pin_text S)) 0) (read_at (bit_in p m.wires w) z at) (read_at (bit_in p m.wires w) next at)) q.whole
                (subst (λ z. ArmBelow arm (read_at (bit_in p m.wires w) (signal_at c.pins (pin_text S)) 0) (read_at (bit_in p m.wires w) (signal_at q.cell.pins (pin_text Y)) at) (read_at (bit_in p m.wires w) z at)) q.leads
                (step_below q.cell among (step_kind word next q) q.select at under)))

            itself : q.cell ≡ c → ArmBelow arm (read_at (bit_in p m.wires w) (signal_at c.pins (pin_text S)) 0) (read_at (bit_in p m.wires w) (signal_at c.pins (pin_text arm)) at) (read_at (bit_in p m.wires w) next at)
            itself e =
                let back : signal_at c.pins (pin_text arm) ≡ next = sym fixed ∙ ap (λ (z : Cell). map (follow m.links) (signal_at z.pins (pin_text arm))) (sym e) ∙ q.leads in
                subst (λ z. ArmBelow arm (read_at (bit_in p m.wires w) (signal_at c.pins (pin_text S)) 0) (read_at (bit_in p m.wires w) (signal_at c.pins (pin_text arm)) at) (read_at (bit_in p m.wires w) z at)) back (arm_refl arm a (read_at (bit_in p m.wires w) (signal_at c.pins (pin_text S)) 0) (read_at (bit_in p m.wires w) (signal_at c.pins (pin_text arm)) at))

  -- the cell with what its arm leads to
  abbrev new : Cell
  new = with_arm arm cells done rest m.links c

  fit : misfit mux.own c ≡ None
  fit = (fine c own_cell mux.own mux.kind).fit

  new_fit : misfit mux.own (with_arm arm cells done rest m.links c) ≡ None
  new_fit =
      fits_rewired mux.own arm (arm_end arm cells (standing_now done c rest) m.links c) c (end_long ∙ (arm_wide mux.own mux.mux c (fine c own_cell mux.own mux.kind).fit arm a).0) (arm_there mux.own mux.mux arm a) (fine c own_cell mux.own mux.kind).fit

  stays_at : (name : PinName) → bytes_eq (pin_text arm) (pin_text name) ≡ false → signal_at (with_arm arm cells done rest m.links c).pins (pin_text name) ≡ signal_at c.pins (pin_text name)
  stays_at name apart = other_pin arm (arm_end arm cells (standing_now done c rest) m.links c) (pin_text name) apart c.pins

  arm_is : 0 < length (signal_at c.pins (pin_text arm)) → signal_at (with_arm arm cells done rest m.links c).pins (pin_text arm) ≡ arm_end arm cells (standing_now done c rest) m.links c
  arm_is some =
      ⊎_elim (λ l. l) (λ r. absurd (empty (ap length r.0))) (own_pin arm (arm_end arm cells (standing_now done c rest) m.links c) c.pins)
    where
      empty : length (signal_at c.pins (pin_text arm)) ≡ 0 → ⊥
      empty e = omega (arith, e, some)

  apart_select : bytes_eq (pin_text arm) (pin_text S) ≡ false
  apart_select = by arm a
    where
      by : (arm : PinName) → IsArm arm → bytes_eq (pin_text arm) (pin_text S) ≡ false
      by A First = refl
      by B Second = refl
      by arm a = elim a [ ]

  apart_output : bytes_eq (pin_text arm) (pin_text Y) ≡ false
  apart_output = by arm a
    where
      by : (arm : PinName) → IsArm arm → bytes_eq (pin_text arm) (pin_text Y) ≡ false
      by A First = refl
      by B Second = refl
      by arm a = elim a [ ]

  new_kind : cell_kind (with_arm arm cells done rest m.links c) ≡ Some mux.own
  new_kind = another_arm arm (arm_end arm cells (standing_now done c rest) m.links c) c ∙ mux.kind

  -- what the new cell gives is known no less
  module _ (p : Path) (t : Time Place) (w : Valuation) (s : Solved (rows_of (flat.table_ports table) p (replacing (flat_map listed done) (with_arm arm cells done rest m.links c ∷ []) rest [] m)) t w)
      (before : SolvedBefore (rows_of (flat.table_ports table) p (replacing (flat_map listed done) (with_arm arm cells done rest m.links c ∷ []) rest [] m)) t) (at : ℕ) (b : WireBit) (there : slice_get (signal_at c.pins (pin_text Y)) at ≡ Some (OnWire b)) where
    f : SigBit → Bit
    f = bit_in p m.wires w

    lt : at < length (signal_at c.pins (pin_text Y))
    lt = got_within (signal_at c.pins (pin_text Y)) at (OnWire b) there

    some : 0 < length (signal_at c.pins (pin_text arm))
    some = positive (wide c own_cell mux.kind) lt
      where
        positive : {n k : ℕ} → n ≡ k → at < k → 0 < n
        positive e l = omega (arith, e, l)

    arms_below : Below (mux_of (read_at (bit_in p m.wires w) (signal_at c.pins (pin_text A)) at) (read_at (bit_in p m.wires w) (signal_at c.pins (pin_text B)) at) (read_at (bit_in p m.wires w) (signal_at c.pins (pin_text S)) 0))
        (mux_of (read_at (bit_in p m.wires w) (signal_at (with_arm arm cells done rest m.links c).pins (pin_text A)) at) (read_at (bit_in p m.wires w) (signal_at (with_arm arm cells done rest m.links c).pins (pin_text B)) at) (read_at (bit_in p m.wires w) (signal_at c.pins (pin_text S)) 0))
    arms_below = by arm a refl
      where
        by : (z : PinName) → IsArm z → arm ≡ z → Below (mux_of (read_at (bit_in p m.wires w) (signal_at c.pins (pin_text A)) at) (read_at (bit_in p m.wires w) (signal_at c.pins (pin_text B)) at) (read_at (bit_in p m.wires w) (signal_at c.pins (pin_text S)) 0))
            (mux_of (read_at (bit_in p m.wires w) (signal_at (with_arm arm cells done rest m.links c).pins (pin_text A)) at) (read_at (bit_in p m.wires w) (signal_at (with_arm arm cells done rest m.links c).pins (pin_text B)) at) (read_at (bit_in p m.wires w) (signal_at c.pins (pin_text S)) 0))
        by A First e =
            let whole : ArmBelow arm (read_at (bit_in p m.wires w) (signal_at c.pins (pin_text S)) 0) (read_at (bit_in p m.wires w) (signal_at c.pins (pin_text arm)) at) (read_at (bit_in p m.wires w) (signal_at (with_arm arm cells done rest m.links c).pins (pin_text arm)) at) = subst (λ z. ArmBelow arm (read_at (bit_in p m.wires w) (signal_at c.pins (pin_text S)) 0) (read_at (bit_in p m.wires w) (signal_at c.pins (pin_text arm)) at) (read_at (bit_in p m.wires w) z at)) (sym (arm_is some)) (end_below (with_arm arm cells done rest m.links c ∷ []) p t w s before at lt) in
            let first : ArmBelow A (read_at (bit_in p m.wires w) (signal_at c.pins (pin_text S)) 0) (read_at (bit_in p m.wires w) (signal_at c.pins (pin_text A)) at) (read_at (bit_in p m.wires w) (signal_at (with_arm arm cells done rest m.links c).pins (pin_text A)) at) = subst (λ z. ArmBelow z (read_at (bit_in p m.wires w) (signal_at c.pins (pin_text S)) 0) (read_at (bit_in p m.wires w) (signal_at c.pins (pin_text z)) at) (read_at (bit_in p m.wires w) (signal_at (with_arm arm cells done rest m.links c).pins (pin_text z)) at)) e whole in
            let other : signal_at (with_arm arm cells done rest m.links c).pins (pin_text B) ≡ signal_at c.pins (pin_text B) = stays_at B (ap (λ z. bytes_eq (pin_text z) (pin_text B)) e) in
            subst (λ z. Below (mux_of (read_at (bit_in p m.wires w) (signal_at c.pins (pin_text A)) at) (read_at (bit_in p m.wires w) (signal_at c.pins (pin_text B)) at) (read_at (bit_in p m.wires w) (signal_at c.pins (pin_text S)) 0)) (mux_of (read_at (bit_in p m.wires w) (signal_at (with_arm arm cells done rest m.links c).pins (pin_text A)) at) (read_at (bit_in p m.wires w) z at) (read_at (bit_in p m.wires w) (signal_at c.pins (pin_text S)) 0))) (sym other)
            (first (read_at (bit_in p m.wires w) (signal_at c.pins (pin_text B)) at))
        by B Second e =
            let whole : ArmBelow arm (read_at (bit_in p m.wires w) (signal_at c.pins (pin_text S)) 0) (read_at (bit_in p m.wires w) (signal_at c.pins (pin_text arm)) at) (read_at (bit_in p m.wires w) (signal_at (with_arm arm cells done rest m.links c).pins (pin_text arm)) at) = subst (λ z. ArmBelow arm (read_at (bit_in p m.wires w) (signal_at c.pins (pin_text S)) 0) (read_at (bit_in p m.wires w) (signal_at c.pins (pin_text arm)) at) (read_at (bit_in p m.wires w) z at)) (sym (arm_is some)) (end_below (with_arm arm cells done rest m.links c ∷ []) p t w s before at lt) in
            let second : ArmBelow B (read_at (bit_in p m.wires w) (signal_at c.pins (pin_text S)) 0) (read_at (bit_in p m.wires w) (signal_at c.pins (pin_text B)) at) (read_at (bit_in p m.wires w) (signal_at (with_arm arm cells done rest m.links c).pins (pin_text B)) at) = subst (λ z. ArmBelow z (read_at (bit_in p m.wires w) (signal_at c.pins (pin_text S)) 0) (read_at (bit_in p m.wires w) (signal_at c.pins (pin_text z)) at) (read_at (bit_in p m.wires w) (signal_at (with_arm arm cells done rest m.links c).pins (pin_text z)) at)) e whole in
            let other : signal_at (with_arm arm cells done rest m.links c).pins (pin_text A) ≡ signal_at c.pins (pin_text A) = stays_at A (ap (λ z. bytes_eq (pin_text z) (pin_text A)) e) in
            subst (λ z. Below (mux_of (read_at (bit_in p m.wires w) (signal_at c.pins (pin_text A)) at) (read_at (bit_in p m.wires w) (signal_at c.pins (pin_text B)) at) (read_at (bit_in p m.wires w) (signal_at c.pins (pin_text S)) 0)) (mux_of (read_at (bit_in p m.wires w) z at) (read_at (bit_in p m.wires w) (signal_at (with_arm arm cells done rest m.links c).pins (pin_text B)) at) (read_at (bit_in p m.wires w) (signal_at c.pins (pin_text S)) 0))) (sym other)
            (second (read_at (bit_in p m.wires w) (signal_at c.pins (pin_text A)) at))
        by z i e = elim i [ ]

    new_long : at < (cell_shape mux.own (with_arm arm cells done rest m.links c).params).widths.y
    new_long =
        subst (λ n. at < n) (output_wide mux.own (with_arm arm cells done rest m.links c) (mux_word mux.own mux.mux) new_fit) (subst (λ z. at < length z) (sym (stays_at Y apart_output)) lt)

    old_long : at < (cell_shape mux.own c.params).widths.y
    old_long = subst (λ n. at < n) (output_wide mux.own c (mux_word mux.own mux.mux) (fine c own_cell mux.own mux.kind).fit) lt

    gives_more : Below (value_of (own_driver (start_of m.wires m.processes) p m.wires c mux.own at b) t w) (value_of (own_driver (start_of m.wires m.processes) p m.wires (with_arm arm cells done rest m.links c) mux.own at b) t w)
    gives_more =
        let old = mux_driven mux.own mux.mux (start_of m.wires m.processes) p m.wires t w c at b old_long in
        let made = mux_driven mux.own mux.mux (start_of m.wires m.processes) p m.wires t w (with_arm arm cells done rest m.links c) at b new_long in
        let selects : read_at (bit_in p m.wires w) (signal_at (with_arm arm cells done rest m.links c).pins (pin_text S)) 0 ≡ read_at (bit_in p m.wires w) (signal_at c.pins (pin_text S)) 0 = ap (λ z. read_at (bit_in p m.wires w) z 0) (stays_at S apart_select) in
        let made_so = made ∙ ap (mux_of (read_at (bit_in p m.wires w) (signal_at (with_arm arm cells done rest m.links c).pins (pin_text A)) at) (read_at (bit_in p m.wires w) (signal_at (with_arm arm cells done rest m.links c).pins (pin_text B)) at)) selects in
        subst (λ z. Below z (value_of (own_driver (start_of m.wires m.processes) p m.wires (with_arm arm cells done rest m.links c) mux.own at b) t w)) (sym old)
        (subst (Below (mux_of (read_at (bit_in p m.wires w) (signal_at c.pins (pin_text A)) at) (read_at (bit_in p m.wires w) (signal_at c.pins (pin_text B)) at) (read_at (bit_in p m.wires w) (signal_at c.pins (pin_text S)) 0))) (sym made_so) arms_below)

  -- the cell with what its arm leads to comes in its place
  pub arm_passes : IsPass table m (record m { cells = flat_map listed done ++ with_arm arm cells done rest m.links c ∷ rest })
  arm_passes =
      became table m (flat_map listed done) c rest ready is mux.own mux.kind (mux_plain mux.own mux.mux) Y (mux_output mux.own mux.mux) (with_arm arm cells done rest m.links c) mux.own new_kind Y (mux_output mux.own mux.mux) (stays_at Y apart_output)
      (library_faultless (types.table_ports table.modules) (with_arm arm cells done rest m.links c) mux.own new_kind (mux_plain mux.own mux.mux) new_fit (no_constant arm (arm_end arm cells (standing_now done c rest) m.links c) (Library mux.own) (arm_free mux.own mux.mux arm a) c.pins (fine c own_cell mux.own mux.kind).output))
      (pins_within arm (arm_end arm cells (standing_now done c rest) m.links c) (length m.wires) end_in c.pins (ready.within.cells c own_cell))
      (λ p t w s before at b there. gives_more p t w s before at b there)
