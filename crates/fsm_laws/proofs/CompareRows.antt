-- Each row of a cell that compares the state keeps to what is said of its bit.
use Rattle.std.proofs.Common.{◌≡◌, ℕ, zero, suc, ◌+◌, Bool, true, false, cond, List, [], ◌∷◌, ◌++◌, length, map, Some, ◌⊎◌, inl, inr, refl, sym, ◌∙◌, ap, subst, arith}
use Rattle.std.specs.Prelude.{◌==◌, slice_get, slice_index_or}
use Rattle.std.specs.List.{range_with_len}
use Rattle.cell_types.specs.declared.kind.CellKind.TheVariants.{Word}
use Rattle.cell_types.specs.declared.pin_name.PinName.TheVariants.{A, B, Y}
use Rattle.cell_types.specs.declared.word.EqualKind.{EqualKind}
use Rattle.cell_types.specs.declared.word.EqualKind.TheVariants.{Eq, Ne}
use Rattle.cell_types.specs.declared.word.UnaryKind.TheVariants.{Not}
use Rattle.cell_types.specs.declared.word.WordKind.TheVariants.{Equal, Unary}
use Rattle.cell_word.specs.Folds.{equal_of, equality_of}
use Rattle.cell_word.specs.Values.{both_signed}
use Rattle.rtl_bits.proofs.Orders.{Below_trans}
use Rattle.rtl_bits.proofs.Tables.{not_of_mono}
use Rattle.rtl_bits.specs.Knowledge.{Below}
use Rattle.rtl_bits.specs.Numbers.{number_of}
use Rattle.rtl_bits.specs.Tables.{not_of}
use Rattle.rtl_bits.specs.declared.bit.Bit.{Bit}
use Rattle.rtl_bits.specs.declared.bit.Bit.TheVariants.{S0, S1, X}
use Rattle.rtl_sig.specs.declared.sig.SigBit.{SigBit}
use Rattle.rtl_sig.specs.declared.sig.SigBit.TheVariants.{Fixed, Wire as OnWire}
use Rattle.rtl_sig.specs.declared.sig.WireBit.{WireBit}
use Rattle.rtl_ir.specs.Build.{whole}
use Rattle.rtl_ir.specs.Constants.{low_bits}
use Rattle.rtl_ir.specs.Flat.Cell.{Ports, cell_kind, cell_shape, cells_rows}
use Rattle.rtl_ir.specs.Flat.Driver.{Driven}
use Rattle.rtl_ir.specs.Flat.Link as flat
use Rattle.rtl_ir.specs.Flat.Place.{Frame, Path, Place}
use Rattle.rtl_ir.specs.Flat.Point.{bit_place, point, points}
use Rattle.rtl_ir.specs.Follow.{follow}
use Rattle.rtl_ir.specs.declared.cell.Cell.{Cell}
use Rattle.rtl_ir.specs.declared.module.Link.{Link}
use Rattle.rtl_ir.specs.declared.wire.Wire.{Wire}
use Rattle.net_model.proofs.Members.{In-left, In-right}
use Rattle.net_model.specs.Fsm.Code.{Output, inverse_cell, or_zero, state_bit, with_zeros}
use Rattle.net_model.specs.Fsm.Find.{at_pin}
use Rattle.net_model.specs.Lists.{Distinct, In}
use Rattle.net_model.specs.Refine.{Solved}
use Rattle.net_model.specs.Relate.{Related}
use Rattle.net_model.specs.Run.{Time}
use Rattle.net_model.specs.Valuation.{Valuation, passed_of, read, read_all}
use Rattle.net_model.specs.Value.{value_of}
use Rattle.pass_laws.proofs.Driving.{joined_in, own_driver, own_in, row_of}
use Rattle.pass_laws.proofs.Giving.{passed_on}
use Rattle.follow_laws.specs.Alike.{Alike}
use Rattle.fsm_laws.specs.Carried.{code_says}
use Rattle.fsm_laws.specs.Codes.{OneHot}
use Rattle.fsm_laws.specs.Recodes.{AreCompared, EqPart, IsGiven, NeNonePart, NePart}
use Rattle.fsm_laws.specs.States.{AreStates, bit_or_zero, state_place}
use Rattle.fsm_laws.proofs.Arms.{has}
use Rattle.fsm_laws.proofs.CompareKept.{above_lowest, compared_below, equal_turned}
use Rattle.fsm_laws.proofs.ForkKept.{has_get}
use Rattle.fsm_laws.proofs.Hot.{rows_among}

-- a connection's rows are among those of all
pub link_among : (p : Path) (wires : List Wire) (links : List Link) (l : Link) → In l links → (d : Driven) → In d (flat.joins (points p wires l.left) (points p wires l.right)) → In d (flat.link_rows p wires links)
link_among p wires [] l i d j = absurd i
link_among p wires (k ∷ links) l (inl e) d j =
    In-left d _ _ (subst (λ (z : Link). In d (flat.joins (points p wires z.left) (points p wires z.right))) e j)
link_among p wires (k ∷ links) l (inr i) d j =
    In-right d (flat.joins (points p wires k.left) (points p wires k.right)) _ (link_among p wires links l i d j)

-- the bit of the state that is a number, by its place
bit_placed : (states : List (List Bit)) (signal : List SigBit) (at n : ℕ) (p : Path) (wires : List Wire) (w : Valuation) (whole : List SigBit) → length states ≡ length signal → ((k : ℕ) → slice_index_or whole (at + k) (Fixed X) ≡ slice_index_or signal k (Fixed X)) → read w (point p wires (or_zero (state_bit states signal n))) ≡ bit_or_zero (λ i. has p wires w whole i) (state_place states at n)
bit_placed [] signal at n p wires w whole long same = refl
bit_placed (s ∷ states) [] at n p wires w whole long same = absurd (omega (arith, long))
bit_placed (s ∷ states) (b ∷ signal) at n p wires w whole long same =
    by (number_of s == n) (bit_placed states signal (at + 1) n p wires w whole (omega (arith, long)) (λ k. let next : (at + 1) + k ≡ at + suc k = omega arith in ap (λ z. slice_index_or whole z (Fixed X)) next ∙ same (suc k)))
  where
    by : (t : Bool) → read w (point p wires (or_zero (state_bit states signal n))) ≡ bit_or_zero (λ i. has p wires w whole i) (state_place states (at + 1) n)
        → read w (point p wires (or_zero (cond t (Some b) (state_bit states signal n)))) ≡ bit_or_zero (λ i. has p wires w whole i) (cond t (Some at) (state_place states (at + 1) n))
    by true later =
        let here : at + 0 ≡ at = omega arith in
        ap (λ x. read w (point p wires x)) (sym (same 0)) ∙ ap (λ z. read w (point p wires (slice_index_or whole z (Fixed X)))) here ∙ sym (has_get p wires w whole at)
    by false later = later

module _ (links : List Link) (wires fresh : List Wire) (named : Distinct (map (λ (w : Wire). w.name) wires)) (outputs : List Output) (width : ℕ) (states : List (List Bit)) (are : AreStates width states) (code_wire : ℕ) (cells : List Cell) (more : List Link) (start : SigBit → Bit) (over : Ports) (frames : List Frame) (p : Path) (rows : List Driven) (there : (d : Driven) → In d (cells_rows start over p (wires ++ fresh) cells) → In d rows) (joined : (d : Driven) → In d (flat.link_rows p (wires ++ fresh) more) → In d rows)
    (v w : Valuation) (rel : Related over frames (code_says states links wires (wires ++ fresh) outputs) p v w) (t u : Time Place) (solved : Solved rows u w) (alike : (s : SigBit) → Alike w (point p (wires ++ fresh) s) (point p (wires ++ fresh) (follow links s))) (hot : OneHot (length states) (λ i. has p (wires ++ fresh) w (whole code_wire (length states)) i)) where
  abbrev grown : List Wire
  grown = wires ++ fresh

  abbrev code : List SigBit
  code = whole code_wire (length states)

  abbrev answer : ℕ → Bit
  answer n = bit_or_zero (λ i. has p grown w code i) (state_place states 0 n)

  whole_long : (wire from n : ℕ) → length (map OnWire (map (λ at. record { wire = wire; at = at }) (range_with_len from n))) ≡ n
  whole_long wire from zero = refl
  whole_long wire from (suc n) = ap suc (whole_long wire (from + 1) n)

  answer_is : (n : ℕ) → read w (point p grown (or_zero (state_bit states code n))) ≡ answer n
  answer_is n = bit_placed states code 0 n p grown w code (sym (whole_long code_wire 0 (length states))) (λ k. let none : 0 + k ≡ k = omega arith in ap (λ z. slice_index_or code z (Fixed X)) none)

  -- whichever operand is the state
  both_below : (c : Cell) (state other : List SigBit) (bits : List Bit) → AreCompared width states links wires outputs code_wire cells more start c state other bits → Below (equal_of false (read_all v (points p grown (at_pin c A))) (read_all v (points p grown (at_pin c B)))) (answer (number_of bits))
  both_below c state other bits part = by part.sides
    where
      low : Below (equal_of false (read_all v (points p grown state)) (read_all v (points p grown other))) (answer (number_of bits))
      low = compared_below links wires fresh named outputs width states are over frames p v w rel alike (cell_shape (Word (Equal Eq)) c.params) state other code bits part.long part.own part.own_other part.stands part.leads part.known hot

      by : ((at_pin c A ≡ state) × (at_pin c B ≡ other)) ⊎ ((at_pin c A ≡ other) × (at_pin c B ≡ state)) → Below (equal_of false (read_all v (points p grown (at_pin c A))) (read_all v (points p grown (at_pin c B)))) (answer (number_of bits))
      by (inl e) =
          subst (λ z. Below z (answer (number_of bits))) (λ i. equal_of false (read_all v (points p grown (sym e.0 i))) (read_all v (points p grown (sym e.1 i)))) low
      by (inr e) =
          subst (λ z. Below z (answer (number_of bits))) (equal_turned (read_all v (points p grown state)) (read_all v (points p grown other)) ∙ (λ i. equal_of false (read_all v (points p grown (sym e.0 i))) (read_all v (points p grown (sym e.1 i))))) low

  -- a connection that is given
  given_met : (ys right : List SigBit) → IsGiven width states links wires outputs code_wire cells more start ys right → (k : ℕ) (q : WireBit) → slice_get ys k ≡ Some (OnWire q) → (a : Bit) → Below a (read w (point p grown (slice_index_or right k (Fixed S0)))) → Below a (w (bit_place p grown q))
  given_met ys right given k q at a low =
      Below_trans a (passed_of (read w (point p grown (slice_index_or right k (Fixed S0))))) (w (bit_place p grown q)) (passed_on a (read w (point p grown (slice_index_or right k (Fixed S0)))) low)
      (solved.met _ (joined _ (link_among p grown more (record { left = ys; right = right }) given.there _ (joined_in p grown ys right given.wide k q at))))

  zeros_get : (ys : List SigBit) (k : ℕ) → slice_index_or (map (λ (s : SigBit). Fixed S0) ys) k (Fixed S0) ≡ Fixed S0
  zeros_get [] k = refl
  zeros_get (y ∷ ys) zero = refl
  zeros_get (y ∷ ys) (suc k) = zeros_get ys k

  abbrev result : EqualKind → Cell → Bit
  result kind c = equality_of kind (both_signed (cell_shape (Word (Equal kind)) c.params)) (read_all v (points p grown (at_pin c A))) (read_all v (points p grown (at_pin c B)))

  -- the lowest bit and those above it
  value_low : (kind : EqualKind) (c : Cell) (k : ℕ) (q : WireBit) (b : Bit) → (k ≡ 0 → Below (result kind c) b) → ((j : ℕ) → k ≡ suc j → Below S0 b) → Below (value_of (own_driver start p grown c (Word (Equal kind)) k q) t v) b
  unfolding cell_shape
  value_low kind c zero q b lowest above = lowest refl
  value_low kind c (suc k) q b lowest above = Below_trans _ _ _ (above_lowest _ k) (above k refl)

  with_zeros_first : (bit : SigBit) (ys : List SigBit) (q : WireBit) → slice_get ys 0 ≡ Some (OnWire q) → slice_index_or (with_zeros bit ys) 0 (Fixed S0) ≡ bit
  with_zeros_first bit [] q e = absurd (cc)
  with_zeros_first bit (y ∷ ys) q e = refl

  with_zeros_later : (bit : SigBit) (ys : List SigBit) (k : ℕ) → slice_index_or (with_zeros bit ys) (suc k) (Fixed S0) ≡ Fixed S0
  with_zeros_later bit [] k = refl
  with_zeros_later bit (y ∷ ys) k = zeros_get ys k

  -- an `$eq`
  pub eq_low : (c : Cell) (state other : List SigBit) (bits : List Bit) → AreCompared width states links wires outputs code_wire cells more start c state other bits → EqPart width states links wires outputs code_wire cells more start c bits → (k : ℕ) (q : WireBit) → slice_get (at_pin c Y) k ≡ Some (OnWire q)
      → Below (value_of (own_driver start p grown c (Word (Equal Eq)) k q) t v) (w (bit_place p grown q))
  eq_low c state other bits part eq k q at =
      let right : List SigBit = with_zeros (or_zero (state_bit states code (number_of bits))) (at_pin c Y) in
      value_low Eq c k q (w (bit_place p grown q))
      (λ e. let first : slice_get (at_pin c Y) 0 ≡ Some (OnWire q) = ap (slice_get (at_pin c Y)) (sym e) ∙ at in
      given_met (at_pin c Y) right eq.given 0 q first (result Eq c)
      (subst (λ s. Below (result Eq c) (read w (point p grown s))) (sym (with_zeros_first (or_zero (state_bit states code (number_of bits))) (at_pin c Y) q first))
      (subst (Below (result Eq c)) (sym (answer_is (number_of bits)))
      (subst (λ b. Below (equal_of b (read_all v (points p grown (at_pin c A))) (read_all v (points p grown (at_pin c B)))) (answer (number_of bits))) (sym eq.unsigned) (both_below c state other bits part)))))
      (λ j e. let later : slice_get (at_pin c Y) (suc j) ≡ Some (OnWire q) = ap (slice_get (at_pin c Y)) (sym e) ∙ at in
      given_met (at_pin c Y) right eq.given (suc j) q later S0 (subst (λ s. Below S0 (read w (point p grown s))) (sym (with_zeros_later (or_zero (state_bit states code (number_of bits))) (at_pin c Y) j)) refl))

  -- a `$ne` with a constant that is no state
  pub ne_none_low : (c : Cell) (state other : List SigBit) (bits : List Bit) → AreCompared width states links wires outputs code_wire cells more start c state other bits → NeNonePart width states links wires outputs code_wire cells more start c bits → (k : ℕ) (q : WireBit) → slice_get (at_pin c Y) k ≡ Some (OnWire q)
      → Below (value_of (own_driver start p grown c (Word (Equal Ne)) k q) t v) (w (bit_place p grown q))
  ne_none_low c state other bits part ne k q at =
      let right : List SigBit = with_zeros (Fixed S1) (at_pin c Y) in
      let zero_answer : answer (number_of bits) ≡ S0 = sym (answer_is (number_of bits)) ∙ ap (λ o. read w (point p grown (or_zero o))) ne.none in
      let equal : Below (equal_of false (read_all v (points p grown (at_pin c A))) (read_all v (points p grown (at_pin c B)))) S0 = subst (Below (equal_of false (read_all v (points p grown (at_pin c A))) (read_all v (points p grown (at_pin c B))))) zero_answer (both_below c state other bits part) in
      value_low Ne c k q (w (bit_place p grown q))
      (λ e. let first : slice_get (at_pin c Y) 0 ≡ Some (OnWire q) = ap (slice_get (at_pin c Y)) (sym e) ∙ at in
      given_met (at_pin c Y) right ne.given 0 q first (result Ne c)
      (subst (λ s. Below (result Ne c) (read w (point p grown s))) (sym (with_zeros_first (Fixed S1) (at_pin c Y) q first))
      (subst (λ b. Below (not_of (equal_of b (read_all v (points p grown (at_pin c A))) (read_all v (points p grown (at_pin c B))))) S1) (sym ne.unsigned) (not_of_mono _ _ equal))))
      (λ j e. let later : slice_get (at_pin c Y) (suc j) ≡ Some (OnWire q) = ap (slice_get (at_pin c Y)) (sym e) ∙ at in
      given_met (at_pin c Y) right ne.given (suc j) q later S0 (subst (λ s. Below S0 (read w (point p grown s))) (sym (with_zeros_later (Fixed S1) (at_pin c Y) j)) refl))

  -- the inverse of a bit
  inverse_low : (c : Cell) (bit : SigBit) (q : WireBit) → In (inverse_cell c bit (OnWire q)) cells → Below (not_of (read w (point p grown bit))) (w (bit_place p grown q))
  unfolding cell_kind cell_shape low_bits
  inverse_low c bit q made =
      let cell : Cell = inverse_cell c bit (OnWire q) in
      solved.met _ (there _ (rows_among start over p grown cells cell made (row_of p grown q (own_driver start p grown cell (Word (Unary Not)) 0 q)) (own_in p grown start cell (Word (Unary Not)) refl 0 q refl)))

  -- a `$ne` with a state
  pub ne_low : (c : Cell) (state other : List SigBit) (bits : List Bit) → AreCompared width states links wires outputs code_wire cells more start c state other bits → NePart width states links wires outputs code_wire cells more start c bits → (k : ℕ) (q : WireBit) → slice_get (at_pin c Y) k ≡ Some (OnWire q)
      → Below (value_of (own_driver start p grown c (Word (Equal Ne)) k q) t v) (w (bit_place p grown q))
  ne_low c state other bits part ne k q at =
      value_low Ne c k q (w (bit_place p grown q)) (λ e. first (ap (slice_get (at_pin c Y)) (sym e) ∙ at)) (λ j e. later j (ap (slice_get (at_pin c Y)) (sym e) ∙ at))
    where
      bit_is : answer (number_of bits) ≡ read w (point p grown ne.bit)
      bit_is = sym (answer_is (number_of bits)) ∙ ap (λ o. read w (point p grown (or_zero o))) ne.is

      first : slice_get (at_pin c Y) 0 ≡ Some (OnWire q) → Below (result Ne c) (w (bit_place p grown q))
      first e =
          let here : Some ne.lowest ≡ Some (OnWire q) = ap (λ ys. slice_get ys 0) (sym ne.output) ∙ e in
          let lowest : ne.lowest ≡ OnWire q = cc in
          let equal : Below (equal_of false (read_all v (points p grown (at_pin c A))) (read_all v (points p grown (at_pin c B)))) (read w (point p grown ne.bit)) = subst (Below (equal_of false (read_all v (points p grown (at_pin c A))) (read_all v (points p grown (at_pin c B))))) bit_is (both_below c state other bits part) in
          Below_trans (result Ne c) (not_of (read w (point p grown ne.bit))) (w (bit_place p grown q))
          (subst (λ b. Below (not_of (equal_of b (read_all v (points p grown (at_pin c A))) (read_all v (points p grown (at_pin c B))))) (not_of (read w (point p grown ne.bit)))) (sym ne.unsigned) (not_of_mono _ _ equal))
          (inverse_low c ne.bit q (subst (λ s. In (inverse_cell c ne.bit s) cells) lowest ne.made))

      later : (j : ℕ) → slice_get (at_pin c Y) (suc j) ≡ Some (OnWire q) → Below S0 (w (bit_place p grown q))
      later j e =
          let here : slice_get ne.rest j ≡ Some (OnWire q) = ap (λ ys. slice_get ys (suc j)) (sym ne.output) ∙ e in
          given_met ne.rest (map (λ s. Fixed S0) ne.rest) (ne.given j q here) j q here S0 (subst (λ s. Below S0 (read w (point p grown s))) (sym (zeros_get ne.rest j)) refl)
