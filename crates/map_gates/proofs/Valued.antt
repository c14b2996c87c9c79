-- The nets whose results are given to Y: what they have, that they are expansions, and that they stand for their cells.
use Rattle.std.proofs.Common.{◌≡◌, ℕ, zero, suc, ◌+◌, ◌*◌, ◌^◌, ◌<◌, max, Bool, true, false, List, [], ◌∷◌, ◌++◌, drop, length, Some, None, inl, inr, refl, sym, ◌∙◌, ap, subst, arith}
use Rattle.std.specs.Prelude.{map, slice_index_or}
use Rattle.cell_types.specs.PinName.{pin_text}
use Rattle.cell_types.specs.declared.kind.CellKind.TheVariants.{Word}
use Rattle.cell_types.specs.declared.pin_name.PinName.TheVariants.{A, B, S, Y}
use Rattle.cell_types.specs.declared.shape.Shape.{Shape}
use Rattle.cell_types.specs.declared.word.UnaryKind.TheVariants.{Pos}
use Rattle.cell_types.specs.declared.word.WordKind.{WordKind}
use Rattle.cell_types.specs.declared.word.WordKind.TheVariants.{Unary, Fold, Logic, Equal, Pmux, Slice, Concat, Buf, Bmux}
use Rattle.cell_word.specs.Choice.{joined_of}
use Rattle.cell_word.specs.Folds as values
use Rattle.cell_word.specs.Values as word_values
use Rattle.cell_word.specs.Values.{both_signed}
use Rattle.cell_word.specs.Words.{extended_at}
use Rattle.rtl_bits.proofs.Orders.{Below_refl, Below_trans}
use Rattle.rtl_bits.specs.Knowledge.{Below}
use Rattle.rtl_bits.specs.Tables.{seen_of}
use Rattle.rtl_bits.specs.declared.bit.Bit.{Bit}
use Rattle.rtl_bits.specs.declared.bit.Bit.TheVariants.{S0, X}
use Rattle.rtl_ir.specs.Build.{Build, Building}
use Rattle.rtl_ir.specs.Faults.Cells.{misfit}
use Rattle.rtl_ir.specs.Flat.Cell.{Ports, cell_kind, cell_shape}
use Rattle.rtl_ir.specs.declared.cell.Cell.{Cell}
use Rattle.rtl_ir.specs.declared.wire.Wire.{Wire}
use Rattle.rtl_sig.specs.declared.sig.SigBit.{SigBit}
use Rattle.rtl_sig.specs.declared.sig.SigBit.TheVariants.{Fixed}
use Rattle.net_model.proofs.Ranges.{signal_in}
use Rattle.net_model.specs.Lists.{In}
use Rattle.map_laws.proofs.Wholes.{cell_more}
use Rattle.map_laws.specs.Expansion.{IsExpansion, IsWhole, StandsWith, cells_added, links_added}
use Rattle.map_laws.specs.Operand.{pin_signal}
use Rattle.gate_nets.specs.Give.{given}
use Rattle.gate_nets.specs.Operand.{greater_width, operand_of}
use Rattle.gate_nets.specs.Reading.{IsReading}
use Rattle.gate_nets.proofs.Expanding.{net_expands, net_stands}
use Rattle.gate_nets.proofs.Nets as nets
use Rattle.gate_nets.proofs.Nets.{Goods, Net, net_pure, net_then, net_weaker}
use Rattle.gate_nets.proofs.Operands.{goods_extended, goods_in, goods_own, length_map}
use Rattle.gate_nets.proofs.Standing.{length-extended, reads}
use Rattle.gate_nets.proofs.Values.{good_at, one_below, word_below}
use Rattle.gate_nets.proofs.Widths.{AreChosen, are_chosen}
use Rattle.gate_nets.proofs.Wholes.{names}
use Rattle.map_gates.specs.Expand.{is_given, one_bit, value_of}
use Rattle.map_gates.specs.Folds.{folded_of, logic_of}
use Rattle.map_gates.proofs.Halves.{halved_below, halved_bits, net_halved}
use Rattle.map_gates.proofs.PartWidths.{ArePartsOf, are_parts}
use Rattle.cell_word.specs.Parts.{bmuxed_bit}
use Rattle.cell_word.proofs.Numbered.{merged_halved}
use Rattle.map_gates.proofs.Choosing.{chosen_at, goods_drop, net_chosen, picked_below, seen_below}
use Rattle.map_gates.proofs.Folding.{equality_below, equality_bit, fold_bit, folded_below, logic_below, logic_bit, net_equality, net_folded, net_logic}

-- the bits of the value of a kind, by the words at the operands; n is the greater width of A and B
abbrev pub value_at : WordKind → Shape → ℕ → List Bit → List Bit → List Bit → ℕ → Bit
value_at (Unary Pos) shape n a b s = extended_at shape.signs.a a
value_at (Fold kind) shape n a b s = λ at. fold_bit kind (λ i. slice_index_or a i X) (length a)
value_at (Logic kind) shape n a b s =
    λ at. logic_bit kind (λ i. slice_index_or a i X) (length a) (λ i. slice_index_or b i X) (length b)
value_at (Equal kind) shape n a b s =
    λ at. equality_bit kind (extended_at (both_signed shape) a) (extended_at (both_signed shape) b) n
value_at Pmux shape n a b s = chosen_at (length a) (λ i. slice_index_or a i X) (λ i. slice_index_or b i X) s
value_at Slice shape n a b s = λ at. slice_index_or a (shape.offset + at) X
value_at Concat shape n a b s = λ at. slice_index_or (a ++ b) at X
value_at Buf shape n a b s = extended_at false a
value_at Bmux shape n a b s = λ at. slice_index_or (halved_bits shape.widths.y a s) at X
value_at kind shape n a b s = λ at. X

-- how long the result is, or what it is
abbrev pub Result : WordKind → Shape → List SigBit → List SigBit → List SigBit → List SigBit → Type 0
Result (Unary Pos) shape a b s bits = length bits ≡ shape.widths.y
Result (Fold kind) shape a b s bits = length bits ≡ 1
Result (Logic kind) shape a b s bits = length bits ≡ 1
Result (Equal kind) shape a b s bits = length bits ≡ 1
Result Pmux shape a b s bits = length b ≡ length a * length s → length bits ≡ length a
Result Slice shape a b s bits = bits ≡ drop shape.offset a
Result Concat shape a b s bits = bits ≡ a ++ b
Result Buf shape a b s bits = length bits ≡ shape.widths.y
Result Bmux shape a b s bits = (w : ℕ) → length a ≡ w * 2 ^ length s → length bits ≡ w
Result kind shape a b s bits = Unit {0}

module _ (l : nets.Logic) where
  -- a bit as a word
  net_one : {R : Type 0} {m : Build SigBit} (v : Bit) → Net l R m (l.Has v) → Net l R (one_bit m) (λ bits. Goods l (λ at. v) bits × (length bits ≡ 1))
  net_one v n = net_then l n λ y. net_pure l (λ r. ((r.1, tt), refl))

  goods_joined : (g : SigBit → Bit) (a b : List SigBit) → ((x : SigBit) → In x a → l.Has (g x) x) → ((x : SigBit) → In x b → l.Has (g x) x) → Goods l (λ at. slice_index_or (map g a ++ map g b) at X) (a ++ b)
  goods_joined g [] b h k = goods_own l g X b k
  goods_joined g (x ∷ a) b h k = (h x (inl refl), goods_joined g a b (λ y i. h y (inr i)) k)

  module _ (g : SigBit → Bit) (shape : Shape) (c : Cell) where
    abbrev bits_a : List SigBit
    bits_a = pin_signal c A

    abbrev bits_b : List SigBit
    bits_b = pin_signal c B

    abbrev bits_s : List SigBit
    bits_s = pin_signal c S

    -- the net of a cell has the bits of its value, where the operands are read in whatever way
    pub net_value : (kind : WordKind) → ((x : SigBit) → In x bits_a → l.Has (g x) x) → ((x : SigBit) → In x bits_b → l.Has (g x) x) → ((x : SigBit) → In x bits_s → l.Has (g x) x)
        → Net l (Unit {0}) (value_of kind shape c) (λ bits. Goods l (value_at kind shape (greater_width c) (map g bits_a) (map g bits_b) (map g bits_s)) bits × Result kind shape bits_a bits_b bits_s bits)
    net_value (Unary Pos) h k j =
        net_pure l (λ r. (goods_extended l g shape.signs.a shape.widths.y bits_a h, length-extended bits_a shape.widths.y shape.signs.a))
    net_value (Fold kind) h k j =
        net_one (fold_bit kind (λ i. slice_index_or (map g bits_a) i X) (length (map g bits_a)))
        (subst (λ n. Net l (Unit {0}) (folded_of kind bits_a) (l.Has (fold_bit kind (λ i. slice_index_or (map g bits_a) i X) n))) (sym (length_map g bits_a))
        (net_folded l kind (λ i. slice_index_or (map g bits_a) i X) bits_a (λ r. goods_own l g X bits_a h)))
    net_value (Logic kind) h k j =
        net_one (logic_bit kind (λ i. slice_index_or (map g bits_a) i X) (length (map g bits_a)) (λ i. slice_index_or (map g bits_b) i X) (length (map g bits_b)))
        (subst (λ n. Net l (Unit {0}) (logic_of kind bits_a bits_b) (l.Has (logic_bit kind (λ i. slice_index_or (map g bits_a) i X) n (λ i. slice_index_or (map g bits_b) i X) (length (map g bits_b))))) (sym (length_map g bits_a))
        (subst (λ n. Net l (Unit {0}) (logic_of kind bits_a bits_b) (l.Has (logic_bit kind (λ i. slice_index_or (map g bits_a) i X) (length bits_a) (λ i. slice_index_or (map g bits_b) i X) n))) (sym (length_map g bits_b))
        (net_logic l kind (λ i. slice_index_or (map g bits_a) i X) (λ i. slice_index_or (map g bits_b) i X) bits_a bits_b (λ r. goods_own l g X bits_a h) (λ r. goods_own l g X bits_b k))))
    net_value (Equal kind) h k j =
        let signed : Bool = both_signed shape in
        let n : ℕ = greater_width c in
        net_one (equality_bit kind (extended_at signed (map g bits_a)) (extended_at signed (map g bits_b)) n)
        (net_equality l kind (extended_at signed (map g bits_a)) (extended_at signed (map g bits_b)) n (operand_of c A n signed) (operand_of c B n signed) (λ r. goods_extended l g signed n bits_a h) (λ r. goods_extended l g signed n bits_b k) (length-extended bits_a n signed) (length-extended bits_b n signed))
    net_value Pmux h k j =
        subst (λ n. Net l (Unit {0}) (value_of Pmux shape c) (λ bits. Goods l (chosen_at n (λ i. slice_index_or (map g bits_a) i X) (λ i. slice_index_or (map g bits_b) i X) (map g bits_s)) bits × Result Pmux shape bits_a bits_b bits_s bits)) (sym (length_map g bits_a))
        (net_weaker l (net_chosen l (length bits_a) (λ i. slice_index_or (map g bits_a) i X) (λ i. slice_index_or (map g bits_b) i X) g bits_a bits_b bits_s (λ r. goods_own l g X bits_a h) (λ r. goods_own l g X bits_b k) j)
        (λ bits w. (w.0, w.1 refl)))
    net_value Slice h k j =
        net_pure l (λ r. (goods_drop l (λ at. slice_index_or (map g bits_a) at X) shape.offset bits_a (goods_own l g X bits_a h), refl))
    net_value Buf h k j =
        net_pure l (λ r. (goods_extended l g false shape.widths.y bits_a h, length-extended bits_a shape.widths.y false))
    net_value Bmux h k j =
        net_halved l shape.widths.y (map g bits_a) g bits_a bits_s (λ r. goods_own l g X bits_a h) (λ r. sym (length_map g bits_a)) j
    net_value Concat h k j = net_pure l (λ r. (goods_joined g bits_a bits_b h k, refl))
    net_value kind h k j = net_pure l (λ r. (goods_none, tt))
      where
        goods_none : Goods l (λ at. X) []
        goods_none = tt

module _ (f : SigBit → Bit) (is : IsReading f) where
  part_has : (n at : ℕ) (bits : List SigBit) → Below (seen_of (slice_index_or (map f bits) (n + at) X)) (f (slice_index_or (drop n bits) at (Fixed S0)))
  part_has n at [] = none n
    where
      none : (n : ℕ) → Below X (f (slice_index_or (drop n []) at (Fixed S0)))
      none zero = tt
      none (suc n) = tt
  part_has zero at (b ∷ bits) = let e : at ≡ 0 + at = omega arith in subst (λ k. Below (seen_of (slice_index_or (map f (b ∷ bits)) k X)) (f (slice_index_or (b ∷ bits) at (Fixed S0)))) e (own (b ∷ bits) at)
    where
      own : (bits : List SigBit) (at : ℕ) → Below (seen_of (slice_index_or (map f bits) at X)) (f (slice_index_or bits at (Fixed S0)))
      own [] at = tt
      own (b ∷ bits) zero = seen_below (f b)
      own (b ∷ bits) (suc at) = own bits at
  part_has (suc n) at (b ∷ bits) =
      let e : suc (n + at) ≡ suc n + at = omega arith in
      subst (λ k. Below (seen_of (slice_index_or (map f (b ∷ bits)) k X)) (f (slice_index_or (drop n bits) at (Fixed S0)))) e (part_has n at bits)

  joined_has : (a b : List SigBit) (at : ℕ) → Below (slice_index_or (joined_of (map f a) (map f b)) at X) (f (slice_index_or (a ++ b) at (Fixed S0)))
  joined_has [] [] at = tt
  joined_has [] (x ∷ b) zero = seen_below (f x)
  joined_has [] (x ∷ b) (suc at) = joined_has [] b at
  joined_has (x ∷ a) b zero = seen_below (f x)
  joined_has (x ∷ a) b (suc at) = joined_has a b at

  -- the bits of the value of a cell
  value_below : (kind : WordKind) (shape : Shape) (c : Cell) (bits : List SigBit) → is_given kind ≡ true → (kind ≡ Pmux → AreChosen c shape.widths.y) → (kind ≡ Bmux → ArePartsOf c shape.widths.y)
      → Goods (reads f is) (value_at kind shape (greater_width c) (map f (pin_signal c A)) (map f (pin_signal c B)) (map f (pin_signal c S))) bits
      → Result kind shape (pin_signal c A) (pin_signal c B) (pin_signal c S) bits
      → (at : ℕ) → at < length (pin_signal c Y) → Below (slice_index_or (word_values.value_of kind shape (map f (pin_signal c A)) (map f (pin_signal c B)) (map f (pin_signal c S))) at X) (f (slice_index_or bits at (Fixed S0)))
  value_below (Unary Pos) shape c bits m wide p h made at lt =
      word_below (λ i. seen_of (extended_at shape.signs.a (map f (pin_signal c A)) i)) shape.widths.y at (f (slice_index_or bits at (Fixed S0)))
      (λ here. Below_trans _ _ _ (seen_below (extended_at shape.signs.a (map f (pin_signal c A)) at)) (good_at f is (extended_at shape.signs.a (map f (pin_signal c A))) bits h at (omega (arith, here, made))))
  value_below (Fold kind) shape c bits m wide p h made at lt =
      one_below f is (values.folded_of kind (map f (pin_signal c A))) shape.widths.y _ bits h made (λ z. Below_trans _ _ z (folded_below kind (map f (pin_signal c A)))) at
  value_below (Logic kind) shape c bits m wide p h made at lt =
      one_below f is (values.logic_of kind (map f (pin_signal c A)) (map f (pin_signal c B))) shape.widths.y _ bits h made (λ z. Below_trans _ _ z (logic_below kind (map f (pin_signal c A)) (map f (pin_signal c B)))) at
  value_below (Equal kind) shape c bits m wide p h made at lt =
      one_below f is (values.equality_of kind (both_signed shape) (map f (pin_signal c A)) (map f (pin_signal c B))) shape.widths.y _ bits h made
      (λ z. Below_trans _ _ z (subst (λ n. Below (values.equality_of kind (both_signed shape) (map f (pin_signal c A)) (map f (pin_signal c B))) (equality_bit kind (extended_at (both_signed shape) (map f (pin_signal c A))) (extended_at (both_signed shape) (map f (pin_signal c B))) n)) (λ i. max (length_map f (pin_signal c A) i) (length_map f (pin_signal c B) i)) (equality_below kind (both_signed shape) (map f (pin_signal c A)) (map f (pin_signal c B))))) at
  value_below Pmux shape c bits m wide p h made at lt =
      let w = wide refl in
      let here : at < shape.widths.y = omega (arith, w.y, lt) in
      let long : length (pin_signal c B) ≡ length (pin_signal c A) * length (pin_signal c S) = w.b ∙ ap (λ n. n * length (pin_signal c S)) (sym w.a) in
      let width : length (map f (pin_signal c A)) ≡ shape.widths.y = length_map f (pin_signal c A) ∙ w.a in
      Below_trans _ _ _ (picked_below shape.widths.y at (map f (pin_signal c A)) (map f (pin_signal c B)) (map f (pin_signal c S)) here)
      (subst (λ n. Below (chosen_at n (λ i. slice_index_or (map f (pin_signal c A)) i X) (λ i. slice_index_or (map f (pin_signal c B)) i X) (map f (pin_signal c S)) at) (f (slice_index_or bits at (Fixed S0)))) width
      (good_at f is _ bits h at (omega (arith, here, w.a, made long))))
  value_below Slice shape c bits m wide p h made at lt =
      word_below (λ i. seen_of (slice_index_or (map f (pin_signal c A)) (shape.offset + i) X)) shape.widths.y at (f (slice_index_or bits at (Fixed S0)))
      (λ here. subst (λ z. Below (seen_of (slice_index_or (map f (pin_signal c A)) (shape.offset + at) X)) (f (slice_index_or z at (Fixed S0)))) (sym made) (part_has shape.offset at (pin_signal c A)))
  value_below Concat shape c bits m wide p h made at lt =
      subst (λ z. Below (slice_index_or (joined_of (map f (pin_signal c A)) (map f (pin_signal c B))) at X) (f (slice_index_or z at (Fixed S0)))) (sym made) (joined_has (pin_signal c A) (pin_signal c B) at)
  value_below Buf shape c bits m wide p h made at lt =
      word_below (λ i. seen_of (extended_at false (map f (pin_signal c A)) i)) shape.widths.y at (f (slice_index_or bits at (Fixed S0)))
      (λ here. Below_trans _ _ _ (seen_below (extended_at false (map f (pin_signal c A)) at)) (good_at f is (extended_at false (map f (pin_signal c A))) bits h at (omega (arith, here, made))))
  value_below Bmux shape c bits m wide p h made at lt =
      let parts = p refl in
      let width : ℕ = shape.widths.y in
      let a : List Bit = map f (pin_signal c A) in
      let s : List Bit = map f (pin_signal c S) in
      let here : at < width = omega (arith, parts.y, lt) in
      let long : length a ≡ width * 2 ^ length s = length_map f (pin_signal c A) ∙ parts.a ∙ ap (λ n. width * 2 ^ n) (sym (length_map f (pin_signal c S))) in
      word_below (bmuxed_bit a s width) width at (f (slice_index_or bits at (Fixed S0)))
      (λ inside. subst (λ z. Below z (f (slice_index_or bits at (Fixed S0)))) (sym (merged_halved s (λ i. slice_index_or a (i * width + at) X)))
      (Below_trans _ _ _ (halved_below width at here s a long) (good_at f is (λ k. slice_index_or (halved_bits width a s) k X) bits h at (omega (arith, here, made width parts.a)))))
  value_below kind shape c bits m wide p h made at lt = absurd (cc)

module _ (c : Cell) (kind : WordKind) (b : Building) where
  pub value_expands : (shape : Shape) → IsWhole (length b.body.wires) (Word kind) c → IsExpansion b (given (pin_signal c Y) (value_of kind shape c) b) c
  value_expands shape whole =
      net_expands c kind (value_of kind shape c) b whole
      (λ count more.
      let within = cell_more (length b.body.wires) count c more whole.within in
      net_weaker (names count) (net_value (names count) (λ s. X) shape c kind (λ s i. signal_in count c.pins (pin_text A) within s i) (λ s i. signal_in count c.pins (pin_text B) within s i) (λ s i. signal_in count c.pins (pin_text S) within s i))
      (λ bits w. goods_in count _ bits w.0))

  pub value_stands : (shape : Shape) → shape ≡ cell_shape (Word kind) c.params → misfit (Word kind) c ≡ None → cell_kind c ≡ Some (Word kind) → is_given kind ≡ true → (ports : Ports) (start : SigBit → Bit) (wires : List Wire)
      → StandsWith ports start wires c (cells_added b (given (pin_signal c Y) (value_of kind shape c) b)) (links_added b (given (pin_signal c Y) (value_of kind shape c) b))
  value_stands shape same fit word m =
      net_stands c kind (value_of kind shape c) b word
      (λ f is.
      net_weaker (reads f is) (net_value (reads f is) f shape c kind (λ s i. Below_refl (f s)) (λ s i. Below_refl (f s)) (λ s i. Below_refl (f s)))
      (λ bits w at lt.
      subst (λ z. Below (slice_index_or (word_values.value_of kind z (map f (pin_signal c A)) (map f (pin_signal c B)) (map f (pin_signal c S))) at X) (f (slice_index_or bits at (Fixed S0)))) same
      (value_below f is kind shape c bits m wide parted w.0 w.1 at lt)))
    where
      parted : kind ≡ Bmux → ArePartsOf c shape.widths.y
      parted e =
          let own : ArePartsOf c (cell_shape (Word Bmux) c.params).widths.y = are_parts c (subst (λ k. misfit (Word k) c ≡ None) e fit) in
          subst (λ z. ArePartsOf c z.widths.y) (ap (λ k. cell_shape (Word k) c.params) (sym e) ∙ sym same) own

      wide : kind ≡ Pmux → AreChosen c shape.widths.y
      wide e =
          let own : AreChosen c (cell_shape (Word Pmux) c.params).widths.y = are_chosen c (subst (λ k. misfit (Word k) c ≡ None) e fit) in
          subst (λ z. AreChosen c z.widths.y) (ap (λ k. cell_shape (Word k) c.params) (sym e) ∙ sym same) own
