-- A cell that compares the state with a constant becomes a bit of the code, its inverse, or a constant.
use Rattle.std.proofs.Common.{◌≡◌, ◌<◌, ◌≤◌, ℕ, suc, ◌+◌, Bool, true, false, cond, List, [], ◌∷◌, length, map, Option, Some, None, ◌⊎◌, inl, inr, refl, sym, ◌∙◌, ap, subst, arith}
use Rattle.std.specs.Prelude.{◌==◌, ◌&&◌, ◌||◌, nat_le, nat_lt, not, slice_get}
use Rattle.std.specs.List.{list_any, range_with_len}
use Rattle.std.specs.Option.{option_map_or}
use Rattle.std.proofs.lemmas.Bool.{and_parts, leb-true, ltb-true}
use Rattle.cell_types.specs.PinName.{pin_text}
use Rattle.cell_types.specs.Given.{number_in, value_in}
use Rattle.cell_types.specs.Shape.{is_set}
use Rattle.cell_types.specs.declared.kind.CellKind.{CellKind}
use Rattle.cell_types.specs.declared.kind.CellKind.TheVariants.{Word}
use Rattle.cell_types.specs.declared.param_name.ParamName.TheVariants.{ASigned, BSigned, YWidth}
use Rattle.cell_types.specs.declared.pin_name.PinName.{PinName}
use Rattle.cell_types.specs.declared.pin_name.PinName.TheVariants.{A, B, Y}
use Rattle.cell_types.specs.declared.word.EqualKind.{EqualKind}
use Rattle.cell_types.specs.declared.word.EqualKind.TheVariants.{Eq, Ne}
use Rattle.cell_types.specs.declared.word.WordKind.TheVariants.{Equal}
use Rattle.cell_word.specs.Values.{both_signed}
use Rattle.rtl_bits.proofs.Lists.{all_known_true}
use Rattle.rtl_bits.specs.Knowledge.{all_known}
use Rattle.rtl_bits.specs.Numbers.{number_of}
use Rattle.rtl_bits.specs.declared.bit.Bit.{Bit}
use Rattle.rtl_bits.specs.declared.bit.Bit.TheVariants.{S0, S1}
use Rattle.rtl_sig.specs.declared.sig.SigBit.{SigBit}
use Rattle.rtl_sig.specs.declared.sig.SigBit.TheVariants.{Fixed, Wire as OnWire}
use Rattle.rtl_sig.specs.declared.sig.WireBit.{WireBit}
use Rattle.rtl_ir.specs.Faults.Cells.{misfit}
use Rattle.rtl_ir.specs.Flat.Cell as flat
use Rattle.rtl_ir.specs.Flat.Cell.{cell_kind, cell_shape}
use Rattle.rtl_ir.specs.Follow.{follow}
use Rattle.rtl_ir.specs.Parameters.{given_params}
use Rattle.rtl_ir.specs.Ports.{is_port}
use Rattle.rtl_ir.specs.Signals.{is_all_constant, constant_of, same_signal}
use Rattle.rtl_ir.specs.Types.{Ports}
use Rattle.rtl_ir.specs.declared.cell.Cell.{Cell}
use Rattle.rtl_ir.specs.declared.machine.Machine.{Machine}
use Rattle.rtl_ir.specs.declared.module.Link.{Link}
use Rattle.rtl_ir.specs.declared.module.Module.{Module}
use Rattle.net_model.proofs.Ranges.{signal_in}
use Rattle.net_model.specs.Fsm.Code.{Coding, coded_flop, coded_fork, compared, inverse_cell, is_equal, or_zero, state_bit, with_zeros}
use Rattle.net_model.specs.Fsm.Find.{at_pin, cells_at_places, compares, compares_with, has_place, is_compare, is_state_constant, may_recode}
use Rattle.rtl_ir.specs.Attributes.{is_kept}
use Rattle.net_model.specs.Lists.{In}
use Rattle.net_model.specs.Refine.{IsWellDriven}
use Rattle.net_model.specs.Within.{Each}
use Rattle.pass_laws.proofs.Alone.{shape_of}
use Rattle.pass_laws.proofs.Forming.{own_cells}
use Rattle.pass_laws.specs.Ready.{IsReady}
use Rattle.pass_laws.proofs.Finding.{in_place}
use Rattle.pass_laws.proofs.PinWidths.{param_reads, pin_fits}
use Rattle.fsm_laws.proofs.Made.{link_made_among, made_among}
use Rattle.fsm_laws.specs.Arms.{StandsFor}
use Rattle.fsm_laws.specs.Carried.{carrier_in, carrier_of}
use Rattle.fsm_laws.specs.Machines.{IsFoundMachine}
use Rattle.fsm_laws.specs.Recoded.{asked_bit, cell_made, compare_cells, compare_links, link_of, links_made}
use Rattle.fsm_laws.specs.Recodes.{AreCompared, EqPart, IsCompare, IsFree, IsGiven, IsOf, LeadsTo, NeNonePart, NePart}
use Rattle.fsm_laws.proofs.Places.{compares_at, has_in, in_passed}
use Rattle.fsm_laws.proofs.CarriersFound.{place_is, whole_get_bit}
use Rattle.fsm_laws.proofs.Free.{own_signal}
use Rattle.fsm_laws.proofs.OtherBits.{other_bit, output_at}
use Rattle.fsm_laws.proofs.StandFound.{mapped_at}
use Rattle.fsm_laws.proofs.Widths.{state_wide}
use Rattle.fsm_laws.proofs.Setting.{IsPart, cells, coding, more, outputs, start, state}
use Rattle.pass_laws.proofs.SamePlaces.{signal_is}

length_mapped : {A B : Type 0} (f : A → B) (xs : List A) → length (map f xs) ≡ length xs
length_mapped f [] = refl
length_mapped f (x ∷ xs) = ap suc (length_mapped f xs)

-- a signal that leads to known constants
leads : (links : List Link) (signal : List SigBit) → is_all_constant (map (follow links) signal) ≡ true → LeadsTo links signal (map constant_of (map (follow links) signal))
leads links [] e = tt
leads links (s ∷ signal) e = by (follow links s) refl e (leads links signal)
  where
    by : (u : SigBit) → follow links s ≡ u → is_all_constant (u ∷ map (follow links) signal) ≡ true → (is_all_constant (map (follow links) signal) ≡ true → LeadsTo links signal (map constant_of (map (follow links) signal))) → (follow links s ≡ Fixed (constant_of (follow links s))) × LeadsTo links signal (map constant_of (map (follow links) signal))
    by (Fixed c) f g later = (f ∙ ap (λ z. Fixed (constant_of z)) (sym f), later g)
    by (OnWire b) f g later = absurd (cc)

zeros_long : (ys : List SigBit) (bit : SigBit) → length ys ≡ length (with_zeros bit ys)
zeros_long [] bit = refl
zeros_long (y ∷ ys) bit = ap suc (sym (length_mapped (λ (s : SigBit). Fixed S0) ys))

linked : (ys right : List SigBit) → (y : SigBit) (rest : List SigBit) → ys ≡ y ∷ rest → In (record { left = ys; right = right }) (link_of ys right)
linked ys right y rest e = subst (λ s. In (record { left = s; right = right }) (link_of s right)) (sym e) (inl refl)

module _ (ports : Ports) (m : Module) (at : ℕ) (machine : Machine) (found : IsFoundMachine ports m at machine) (ready : IsReady ports m) where
  abbrev st : List SigBit
  st = state ports m at machine found

  abbrev code : Coding
  code = coding ports m at machine found

  -- the bits of the state carry themselves
  state_carried : (k : ℕ) (s : SigBit) → slice_get st k ≡ Some s → carrier_of (outputs ports m at machine found) s ≡ Some (record { code = code.code; bit = k })
  state_carried k s e =
      let is = whole_get_bit at found.wire.width k s e in
      let b : WireBit = record { wire = at; at = k } in
      let there : slice_get st k ≡ Some (OnWire b) = e ∙ ap Some is.1 in
      let once : (j : ℕ) → slice_get st j ≡ Some (OnWire b) → j ≡ k = λ j f. let q = whole_get_bit at found.wire.width j (OnWire b) f in let same : b ≡ record { wire = at; at = j } = cc in sym (ap (λ (z : WireBit). z.at) same) in
      let zero_more : 0 + k ≡ k = omega arith in
      ap (carrier_of (outputs ports m at machine found)) is.1
      ∙ ap (λ o. option_map_or (λ n. Some (record { code = code.code; bit = n })) o (carrier_in code.outputs b)) (place_is st b 0 k there once ∙ ap Some zero_more)

  -- a signal that leads to the state stands for it
  state_stands : (signal : List SigBit) → map (follow m.links) signal ≡ st → StandsFor found.wire.width machine.states m.links (outputs ports m at machine found) signal code.code
  state_stands signal e k s there lt =
      inl (state_carried k (follow m.links s) (ap (λ z. slice_get z k) (sym e) ∙ mapped_at (follow m.links) signal k s there))

  -- the state is no constant
  not_constant : is_state_constant st ≡ false
  not_constant = by st refl state_some
    where
      state_some : 0 < length st
      state_some =
          let narrow : Bool = nat_le found.wire.width 16 && may_recode found.wire.attributes in
          let a = and_parts (not (is_port found.wire.role)) (not (is_kept found.wire.attributes) && (nat_le 2 found.wire.width && narrow)) found.may in
          let b = and_parts (not (is_kept found.wire.attributes)) (nat_le 2 found.wire.width && narrow) a.1 in
          let two : 2 ≤ found.wire.width = leb-true 2 found.wire.width (and_parts (nat_le 2 found.wire.width) narrow b.1).0 in
          omega (arith, two, state_wide ports m at machine found ready)

      by : (signal : List SigBit) → st ≡ signal → 0 < length signal → is_state_constant signal ≡ false
      by [] e lt = absurd (omega (arith, lt))
      by (Fixed c ∷ signal) e lt =
          let is = whole_get_bit at found.wire.width 0 (Fixed c) (ap (λ z. slice_get z 0) e) in
          absurd (cc)
      by (OnWire b ∷ signal) e lt = refl

  -- the operands of a compare
  record HasSides (c : Cell) : Type 0 where
    operand : List SigBit
    other : List SigBit
    sides : ((at_pin c A ≡ operand) × (at_pin c B ≡ other)) ⊎ ((at_pin c A ≡ other) × (at_pin c B ≡ operand))
    own : Each (IsOf m.wires) operand
    own_other : Each (IsOf m.wires) other
    state : map (follow m.links) operand ≡ st
    constant : is_state_constant (map (follow m.links) other) ≡ true
    unsigned : not (is_set (given_params c.params) ASigned && is_set (given_params c.params) BSigned) ≡ true
    number : compared m code c ≡ number_of (map constant_of (map (follow m.links) other))

  module _ (k : ℕ) (c : Cell) (there : slice_get m.cells k ≡ Some c) where
    own_pin : (name : PinName) → Each (IsOf m.wires) (at_pin c name)
    own_pin name = own_signal m.wires (at_pin c name) (signal_in (length m.wires) c.pins (pin_text name) (ready.within.cells c (in_place m.cells k c there)))

    sides_of : compares m st c ≡ true → HasSides c
    sides_of passed =
        by (same_signal (map (follow m.links) (at_pin c A)) st) (compares_with m st c (at_pin c A) (at_pin c B)) refl refl
        (and_parts (is_compare (cell_kind c)) (compares_with m st c (at_pin c A) (at_pin c B) || compares_with m st c (at_pin c B) (at_pin c A)) passed).1
      where
        unsigned : Bool
        unsigned = not (is_set (given_params c.params) ASigned && is_set (given_params c.params) BSigned)

        right : same_signal (map (follow m.links) (at_pin c A)) st ≡ false → compares_with m st c (at_pin c B) (at_pin c A) ≡ true → HasSides c
        right e f =
            let a = and_parts (same_signal (map (follow m.links) (at_pin c B)) st) (is_state_constant (map (follow m.links) (at_pin c A)) && unsigned) f in
            let b = and_parts (is_state_constant (map (follow m.links) (at_pin c A))) unsigned a.1 in
            record {
              operand = at_pin c B;
              other = at_pin c A;
              sides = inr (refl, refl);
              own = own_pin B;
              own_other = own_pin A;
              state = signal_is (map (follow m.links) (at_pin c B)) st a.0;
              constant = b.0;
              unsigned = b.1;
              number = ap (λ t. cond t (number_of (map constant_of (map (follow m.links) (at_pin c B)))) (number_of (map constant_of (map (follow m.links) (at_pin c A))))) e;
            }

        by : (t u : Bool) → same_signal (map (follow m.links) (at_pin c A)) st ≡ t → compares_with m st c (at_pin c A) (at_pin c B) ≡ u → (u || compares_with m st c (at_pin c B) (at_pin c A)) ≡ true → HasSides c
        by t true e f g =
            let a = and_parts (same_signal (map (follow m.links) (at_pin c A)) st) (is_state_constant (map (follow m.links) (at_pin c B)) && unsigned) f in
            let b = and_parts (is_state_constant (map (follow m.links) (at_pin c B))) unsigned a.1 in
            record {
              operand = at_pin c A;
              other = at_pin c B;
              sides = inl (refl, refl);
              own = own_pin A;
              own_other = own_pin B;
              state = signal_is (map (follow m.links) (at_pin c A)) st a.0;
              constant = b.0;
              unsigned = b.1;
              number = ap (λ z. cond z (number_of (map constant_of (map (follow m.links) (at_pin c B)))) (number_of (map constant_of (map (follow m.links) (at_pin c A))))) a.0;
            }
        by false false e f g = right e g
        by true false e f g =
            let a = and_parts (same_signal (map (follow m.links) (at_pin c B)) st) (is_state_constant (map (follow m.links) (at_pin c A)) && unsigned) g in
            let b = and_parts (is_state_constant (map (follow m.links) (at_pin c A))) unsigned a.1 in
            let no : true ≡ false = sym b.0 ∙ ap is_state_constant (signal_is (map (follow m.links) (at_pin c A)) st e) ∙ not_constant in
            absurd (cc)

    -- what is asked of the operands
    sides_compared : (s : HasSides c) → AreCompared found.wire.width machine.states m.links m.wires (outputs ports m at machine found) (length m.wires) (cells ports m at machine found) (more ports m at machine found) (start ports m at machine found) c s.operand s.other (map constant_of (map (follow m.links) s.other))
    sides_compared s =
        let constant = and_parts (is_all_constant (map (follow m.links) s.other)) (all_known (map constant_of (map (follow m.links) s.other))) s.constant in
        record {
          sides = s.sides;
          long = sym (length_mapped (follow m.links) s.operand) ∙ ap length s.state ∙ state_wide ports m at machine found ready;
          own = s.own;
          own_other = s.own_other;
          stands = state_stands s.operand s.state;
          leads = leads m.links s.other constant.0;
          known = all_known_true (map constant_of (map (follow m.links) s.other)) constant.1;
        }

    -- its output has a bit
    some_output : (kind : EqualKind) → cell_kind c ≡ Some (Word (Equal kind)) → (y : SigBit) × ((rest : List SigBit) × (at_pin c Y ≡ y ∷ rest))
    some_output kind own = by (at_pin c Y) refl (some kind own)
      where
        fit : (kind : EqualKind) → cell_kind c ≡ Some (Word (Equal kind)) → misfit (Word (Equal kind)) c ≡ None
        fit kind own = (shape_of ports c (Word (Equal kind)) own (own_cells ports m ready c (in_place m.cells k c there))).fit

        some : (kind : EqualKind) → cell_kind c ≡ Some (Word (Equal kind)) → 0 < length (at_pin c Y)
        some kind own =
            let long : length (at_pin c Y) ≡ number_in (given_params c.params) YWidth = pin_fits (Word (Equal kind)) c Y (fit kind own) refl (inr (inr (inl refl))) in
            let read : (all_known (value_in (given_params c.params) YWidth) && nat_lt 0 (number_in (given_params c.params) YWidth)) ≡ true = param_reads (Word (Equal kind)) c YWidth (fit kind own) (inr (inr (inr (inr (inl refl))))) in
            let positive : 0 < number_in (given_params c.params) YWidth = ltb-true 0 (number_in (given_params c.params) YWidth) (and_parts (all_known (value_in (given_params c.params) YWidth)) (nat_lt 0 (number_in (given_params c.params) YWidth)) read).1 in
            omega (arith, long, positive)

        by : (ys : List SigBit) → at_pin c Y ≡ ys → 0 < length (at_pin c Y) → (y : SigBit) × ((rest : List SigBit) × (at_pin c Y ≡ y ∷ rest))
        by [] e lt = absurd (omega (arith, lt, ap length e))
        by (y ∷ rest) e lt = (y, (rest, e))

    plain_signs : (kind : EqualKind) (s : HasSides c) → both_signed (cell_shape (Word (Equal kind)) c.params) ≡ false
    unfolding cell_shape
    plain_signs kind s = by (is_set (given_params c.params) ASigned && is_set (given_params c.params) BSigned) s.unsigned
      where
        by : (t : Bool) → not t ≡ true → t ≡ false
        by true e = absurd (cc)
        by false e = refl

    module _ (has : has_place machine.compares k ≡ true) (flop : (k == machine.flop) ≡ false) (fork : has_place machine.muxes k ≡ false) where
      compared_there : compares m st c ≡ true
      compared_there =
          compares_at m st k c there (in_passed compare_at (range_with_len 0 (length m.cells)) k (subst (In k) (ap (λ (z : Machine). z.compares) found.made) (has_in machine.compares k has)))
        where
          compare_at : ℕ → Bool
          compare_at p = list_any (compares m st) (cells_at_places m.cells (p ∷ []))

      -- what stands for it
      links_there : (l : Link) → In l (compare_links (is_equal (cell_kind c)) (asked_bit m code c) (at_pin c Y)) → In l (more ports m at machine found)
      links_there l i =
          let zero_more : k ≡ 0 + k = omega arith in
          let here : compare_links (is_equal (cell_kind c)) (asked_bit m code c) (at_pin c Y) ≡ links_made m machine code k c = λ j. cond (sym flop j) [] (cond (sym fork j) [] (cond (sym has j) (compare_links (is_equal (cell_kind c)) (asked_bit m code c) (at_pin c Y)) [])) in
          link_made_among m machine code 0 k m.cells c there l (subst (λ n. In l (links_made m machine code n c)) zero_more (subst (In l) here i))

      cells_there : (d : Cell) → In d (compare_cells c (is_equal (cell_kind c)) (asked_bit m code c) (at_pin c Y)) → In d (cells ports m at machine found)
      cells_there d i =
          let zero_more : k ≡ 0 + k = omega arith in
          let here : compare_cells c (is_equal (cell_kind c)) (asked_bit m code c) (at_pin c Y) ≡ cell_made m machine code k c = λ j. cond (sym flop j) (coded_flop m code machine.reset c ∷ []) (cond (sym fork j) (coded_fork m code c ∷ []) (cond (sym has j) (compare_cells c (is_equal (cell_kind c)) (asked_bit m code c) (at_pin c Y)) (c ∷ []))) in
          made_among m machine code 0 k m.cells c there d (subst (λ n. In d (cell_made m machine code n c)) zero_more (subst (In d) here i))

      module _ (s : HasSides c) where
        abbrev bits : List Bit
        bits = map constant_of (map (follow m.links) s.other)

        -- the bit of the code that the constant is
        abbrev bit_is : Option SigBit
        bit_is = state_bit machine.states code.code (number_of bits)

        bit_asked : asked_bit m code c ≡ bit_is
        bit_asked = ap (state_bit machine.states code.code) s.number

        -- a connection of its output
        whole_given : (right : SigBit) (y : SigBit) (rest : List SigBit) → at_pin c Y ≡ y ∷ rest → compare_links (is_equal (cell_kind c)) (asked_bit m code c) (at_pin c Y) ≡ link_of (at_pin c Y) (with_zeros right (at_pin c Y)) → IsGiven found.wire.width machine.states m.links m.wires (outputs ports m at machine found) (length m.wires) (cells ports m at machine found) (more ports m at machine found) (start ports m at machine found) (at_pin c Y) (with_zeros right (at_pin c Y))
        whole_given right y rest e is = record {
          there = links_there (record { left = at_pin c Y; right = with_zeros right (at_pin c Y) }) (subst (In (record { left = at_pin c Y; right = with_zeros right (at_pin c Y) })) (sym is) (linked (at_pin c Y) (with_zeros right (at_pin c Y)) y rest e));
          wide = zeros_long (at_pin c Y) right;
        }

        eq_part : cell_kind c ≡ Some (Word (Equal Eq)) → EqPart found.wire.width machine.states m.links m.wires (outputs ports m at machine found) (length m.wires) (cells ports m at machine found) (more ports m at machine found) (start ports m at machine found) c bits
        eq_part own =
            let ys = some_output Eq own in
            record {
              kind = own;
              unsigned = plain_signs Eq s;
              given = whole_given (or_zero bit_is) ys.0 ys.1.0 ys.1.1 (λ i. compare_links (is_equal (own i)) (bit_asked i) (at_pin c Y));
            }

        ne_none_part : cell_kind c ≡ Some (Word (Equal Ne)) → bit_is ≡ None → NeNonePart found.wire.width machine.states m.links m.wires (outputs ports m at machine found) (length m.wires) (cells ports m at machine found) (more ports m at machine found) (start ports m at machine found) c bits
        ne_none_part own none =
            let ys = some_output Ne own in
            record {
              kind = own;
              unsigned = plain_signs Ne s;
              none = none;
              given = whole_given (Fixed S1) ys.0 ys.1.0 ys.1.1 (λ i. compare_links (is_equal (own i)) ((bit_asked ∙ none) i) (at_pin c Y));
            }

        ne_part : cell_kind c ≡ Some (Word (Equal Ne)) → (bit : SigBit) → bit_is ≡ Some bit → NePart found.wire.width machine.states m.links m.wires (outputs ports m at machine found) (length m.wires) (cells ports m at machine found) (more ports m at machine found) (start ports m at machine found) c bits
        ne_part own bit is =
            let ys = some_output Ne own in
            record {
              kind = own;
              unsigned = plain_signs Ne s;
              bit = bit;
              is = is;
              lowest = ys.0;
              rest = ys.1.0;
              output = ys.1.1;
              made = made ys.0 ys.1.0 ys.1.1;
              given = given ys.0 ys.1.0 ys.1.1;
            }
          where
            made : (y : SigBit) (rest : List SigBit) → at_pin c Y ≡ y ∷ rest → In (inverse_cell c bit y) (cells ports m at machine found)
            made y rest e =
                let here : inverse_cell c bit y ∷ [] ≡ compare_cells c (is_equal (cell_kind c)) (asked_bit m code c) (at_pin c Y) = λ i. compare_cells c (is_equal (sym own i)) (sym (bit_asked ∙ is) i) (sym e i) in
                cells_there (inverse_cell c bit y) (subst (In (inverse_cell c bit y)) here (inl refl))

            given : (y : SigBit) (rest : List SigBit) → at_pin c Y ≡ y ∷ rest → (j : ℕ) (q : WireBit) → slice_get rest j ≡ Some (OnWire q) → IsGiven found.wire.width machine.states m.links m.wires (outputs ports m at machine found) (length m.wires) (cells ports m at machine found) (more ports m at machine found) (start ports m at machine found) rest (map (λ s. Fixed S0) rest)
            given y [] e j q f = absurd (cc)
            given y (r ∷ rest) e j q f =
                let here : link_of (r ∷ rest) (map (λ s. Fixed S0) (r ∷ rest)) ≡ compare_links (is_equal (cell_kind c)) (asked_bit m code c) (at_pin c Y) = λ i. compare_links (is_equal (sym own i)) (sym (bit_asked ∙ is) i) (sym e i) in
                let l : Link = record { left = r ∷ rest; right = map (λ s. Fixed S0) (r ∷ rest) } in
                record {
                  there = links_there l (subst (In l) here (inl refl));
                  wide = sym (length_mapped (λ (s : SigBit). Fixed S0) (r ∷ rest));
                }

        abbrev Kind : Type 0
        Kind = EqPart found.wire.width machine.states m.links m.wires (outputs ports m at machine found) (length m.wires) (cells ports m at machine found) (more ports m at machine found) (start ports m at machine found) c bits ⊎ (NeNonePart found.wire.width machine.states m.links m.wires (outputs ports m at machine found) (length m.wires) (cells ports m at machine found) (more ports m at machine found) (start ports m at machine found) c bits ⊎ NePart found.wire.width machine.states m.links m.wires (outputs ports m at machine found) (length m.wires) (cells ports m at machine found) (more ports m at machine found) (start ports m at machine found) c bits)

        kind_of_part : (o : Option CellKind) → cell_kind c ≡ o → is_compare o ≡ true → Kind
        kind_of_part (Some (Word (Equal Eq))) own e = inl (eq_part own)
        kind_of_part (Some (Word (Equal Ne))) own e = by bit_is refl
          where
            by : (o : Option SigBit) → bit_is ≡ o → Kind
            by None f = inr (inl (ne_none_part own f))
            by (Some bit) f = inr (inr (ne_part own bit f))
        kind_of_part o own e = absurd (cc)

module _ (ports : Ports) (m : Module) (at : ℕ) (machine : Machine) (found : IsFoundMachine ports m at machine) (ready : IsReady ports m) (over : flat.Ports) (driven : IsWellDriven over m) where
  pub compare_part : (k : ℕ) (c : Cell) → has_place machine.compares k ≡ true → slice_get m.cells k ≡ Some c → (k == machine.flop) ≡ false → has_place machine.muxes k ≡ false → IsPart ports m at machine found over c
  compare_part k c has there flop fork =
      IsCompare (record {
        state = s.operand;
        other = s.other;
        bits = map constant_of (map (follow m.links) s.other);
        compared = sides_compared ports m at machine found ready k c there s;
        kind = kind_of_part ports m at machine found ready k c there has flop fork s (cell_kind c) refl is_one;
        free = free (cell_kind c) refl is_one;
      })
    where
      passed : compares m (state ports m at machine found) c ≡ true
      passed = compared_there ports m at machine found ready k c there has flop fork

      s : HasSides ports m at machine found ready c
      s = sides_of ports m at machine found ready k c there passed

      is_one : is_compare (cell_kind c) ≡ true
      is_one =
          (and_parts (is_compare (cell_kind c)) (compares_with m (state ports m at machine found) c (at_pin c A) (at_pin c B) || compares_with m (state ports m at machine found) c (at_pin c B) (at_pin c A)) passed).0

      output_free : (kind : EqualKind) → cell_kind c ≡ Some (Word (Equal kind)) → (j : ℕ) (q : WireBit) → slice_get (at_pin c Y) j ≡ Some (OnWire q) → IsFree m.links m.wires (outputs ports m at machine found) (OnWire q)
      output_free kind own j q e = record {
        own = own_pin ports m at machine found ready k c there Y (OnWire q) (in_place (at_pin c Y) j (OnWire q) e);
        none = other_bit ports m at machine found ready over driven k c there flop fork q (output_at over m driven c (Word (Equal kind)) own refl j q e);
      }

      free : (o : Option CellKind) → cell_kind c ≡ o → is_compare o ≡ true → (j : ℕ) (q : WireBit) → slice_get (at_pin c Y) j ≡ Some (OnWire q) → IsFree m.links m.wires (outputs ports m at machine found) (OnWire q)
      free (Some (Word (Equal Eq))) own e = output_free Eq own
      free (Some (Word (Equal Ne))) own e = output_free Ne own
      free o own e = absurd (cc)
