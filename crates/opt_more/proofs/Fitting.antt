-- A fold with other inputs fits its kind.
use Rattle.std.proofs.Common.{◌≡◌, ℕ, ◌<◌, ◌≤◌, Bool, true, false, List, [], ◌∷◌, length, map, Some, None, inl, inr, ⊎_elim, refl, sym, ◌∙◌, ap, arith}
use Rattle.std.specs.Prelude.{◌&&◌, ◌||◌, ◌==◌, if◌then◌else◌, nat_lt, not}
use Rattle.std.specs.List.{count_by, list_all, list_any}
use Rattle.std.specs.Str.{bytes_eq}
use Rattle.std.proofs.lemmas.Bool.{and_parts, eq-eqb, eqb-true, lt-ltb, true≢false}
use Rattle.cell_types.specs.Fault.{fits, has_param, are_pins_good, has_width, is_given}
use Rattle.cell_types.specs.Given.{number_in, value_in}
use Rattle.cell_types.specs.ParamName.{param_text}
use Rattle.cell_types.specs.PinName.{pin_text}
use Rattle.cell_types.specs.Shape.{small}
use Rattle.cell_types.specs.declared.fault.CellFault.TheVariants.{Bad, Wide, Width}
use Rattle.cell_types.specs.declared.given.Param.{Param}
use Rattle.cell_types.specs.declared.kind.CellKind.{CellKind}
use Rattle.cell_types.specs.declared.kind.CellKind.TheVariants.{Word}
use Rattle.cell_types.specs.declared.param_name.ParamName.{ParamName}
use Rattle.cell_types.specs.declared.param_name.ParamName.TheVariants.{ASigned, AWidth, YWidth}
use Rattle.cell_types.specs.declared.pin_name.PinName.TheVariants.{A, Y}
use Rattle.cell_types.specs.declared.word.FoldKind.{FoldKind}
use Rattle.cell_types.specs.declared.word.WordKind.TheVariants.{Fold}
use Rattle.rtl_bits.specs.Knowledge.{all_known}
use Rattle.rtl_bits.specs.Numbers.{number_of}
use Rattle.rtl_sig.specs.declared.sig.SigBit.{SigBit}
use Rattle.rtl_ir.specs.Faults.Cells.{misfit, pin_widths}
use Rattle.rtl_ir.specs.Flat.Cell.{cell_shape}
use Rattle.rtl_ir.specs.Parameters.{given_params, signal_at}
use Rattle.rtl_ir.specs.declared.cell.Cell.{Cell}
use Rattle.rtl_ir.specs.declared.cell.CellParam.{CellParam}
use Rattle.rtl_ir.specs.declared.cell.Pin.{Pin}
use Rattle.pass_laws.proofs.CellNumbers.{number_is, number_known}
use Rattle.pass_laws.proofs.PinWidths.{param_reads, pin_fits, shape_of}
use Rattle.opt_more.specs.Changed.{renumbered, with_inputs, with_signal, with_width}
use Rattle.opt_more.proofs.Changing.{all_params, neither, all_pins, counted_params, counted_pins, other_value, own_pin, own_value}

module _ (own : FoldKind) (c : Cell) (a : List SigBit) (fit : misfit (Word (Fold own)) c ≡ None) (some : 0 < length a) (few : length a ≤ 4096) where
  abbrev kind : CellKind
  kind = Word (Fold own)

  abbrev old : List Param
  old = given_params c.params

  -- the parameters of the cell with other inputs
  abbrev changed : List CellParam
  changed = with_width (length (signal_at c.pins (pin_text A))) (length a) c.params

  abbrev new : List Param
  new = given_params (with_width (length (signal_at c.pins (pin_text A))) (length a) c.params)

  wide_a : length (signal_at c.pins (pin_text A)) ≡ number_in (given_params c.params) AWidth
  wide_a = pin_fits (Word (Fold own)) c A fit refl (inl refl)

  a_reads : (all_known (value_in (given_params c.params) AWidth) && nat_lt 0 (number_in (given_params c.params) AWidth)) ≡ true
  a_reads = param_reads (Word (Fold own)) c AWidth fit (inr (inl refl))

  -- the width of A is there
  a_there : value_in (given_params c.params) AWidth ≡ [] → ⊥
  a_there e =
      let positive : nat_lt 0 (number_in (given_params c.params) AWidth) ≡ true = (and_parts _ _ a_reads).1 in
      true≢false (sym positive ∙ ap (λ z. nat_lt 0 (number_of z)) e)

  -- what is owed of the parameters
  record AreGood (ps : List CellParam) : Type 0 where
    pub counted : (test : List ℕ → Bool) → count_by (λ (p : Param). test p.name) (given_params ps) ≡ count_by (λ (p : Param). test p.name) (given_params c.params)
    pub named : (test : List ℕ → Bool) → list_all (λ (p : Param). test p.name) (given_params ps) ≡ list_all (λ (p : Param). test p.name) (given_params c.params)
    pub others : (name : ParamName) → bytes_eq (param_text AWidth) (param_text name) ≡ false → value_in (given_params ps) name ≡ value_in (given_params c.params) name
    pub known : all_known (value_in (given_params ps) AWidth) ≡ true
    pub width : number_in (given_params ps) AWidth ≡ length a

  rewritten : AreGood (map (renumbered (length a)) c.params)
  rewritten =
      let value : value_in (given_params (map (renumbered (length a)) c.params)) AWidth ≡ _ = ⊎_elim (λ l. l) (λ r. absurd (a_there r)) (own_value (length a) c.params) in
      record {
        counted = λ test. counted_params (length a) test 0 c.params;
        named = λ test. all_params (length a) test c.params;
        others = λ name apart. other_value (length a) name apart c.params;
        known = ap all_known value ∙ number_known (length a);
        width = ap number_of value ∙ number_is (length a) few;
      }

  kept : length (signal_at c.pins (pin_text A)) ≡ length a → AreGood c.params
  kept e = record {
    counted = λ test. refl;
    named = λ test. refl;
    others = λ name apart. refl;
    known = (and_parts _ _ a_reads).0;
    width = sym wide_a ∙ e;
  }

  good : AreGood (with_width (length (signal_at c.pins (pin_text A))) (length a) c.params)
  good = by (length (signal_at c.pins (pin_text A)) == length a) refl
    where
      by : (t : Bool) → (length (signal_at c.pins (pin_text A)) == length a) ≡ t → AreGood (if t then c.params else map (renumbered (length a)) c.params)
      by true e = kept (eqb-true (length (signal_at c.pins (pin_text A))) (length a) e)
      by false e = rewritten

  y_same : number_in (given_params (with_width (length (signal_at c.pins (pin_text A))) (length a) c.params)) YWidth ≡ number_in (given_params c.params) YWidth
  y_same = ap number_of (good.others YWidth refl)

  -- the pins
  abbrev pins : List Pin
  pins = with_signal A a c.pins

  fits_a : (ps : List Pin) → has_width (Word (Fold own)) new (pin_widths (with_signal A a ps)) A ≡ true
  fits_a [] = refl
  fits_a (p ∷ ps) = by (bytes_eq p.name (pin_text A)) refl (fits_a ps)
    where
      by : (t : Bool) → bytes_eq p.name (pin_text A) ≡ t → has_width (Word (Fold own)) new (pin_widths (with_signal A a ps)) A ≡ true
          → ((not (bytes_eq (if t then record { name = pin_text A; sig = a } else p).name (pin_text A)) || (length (if t then record { name = pin_text A; sig = a } else p).sig == number_in new AWidth)) && has_width (Word (Fold own)) new (pin_widths (with_signal A a ps)) A) ≡ true
      by true e later = ap (λ z. z && has_width (Word (Fold own)) new (pin_widths (with_signal A a ps)) A) (eq-eqb (length a) (number_in new AWidth) (sym good.width)) ∙ later
      by false e later = ap (λ z. (not z || (length p.sig == number_in new AWidth)) && has_width (Word (Fold own)) new (pin_widths (with_signal A a ps)) A) e ∙ later

  fits_y : (ps : List Pin) → has_width (Word (Fold own)) (given_params c.params) (pin_widths ps) Y ≡ true → has_width (Word (Fold own)) new (pin_widths (with_signal A a ps)) Y ≡ true
  fits_y [] h = refl
  fits_y (p ∷ ps) h =
      let both = and_parts (fits (Word (Fold own)) (given_params c.params) Y (record { name = p.name; width = length p.sig })) (has_width (Word (Fold own)) (given_params c.params) (pin_widths ps) Y) h in
      by (bytes_eq p.name (pin_text A)) both.0 (fits_y ps both.1)
    where
      by : (t : Bool) → fits (Word (Fold own)) (given_params c.params) Y (record { name = p.name; width = length p.sig }) ≡ true → has_width (Word (Fold own)) new (pin_widths (with_signal A a ps)) Y ≡ true
          → ((not (bytes_eq (if t then record { name = pin_text A; sig = a } else p).name (pin_text Y)) || (length (if t then record { name = pin_text A; sig = a } else p).sig == number_in new YWidth)) && has_width (Word (Fold own)) new (pin_widths (with_signal A a ps)) Y) ≡ true
      by true own_fits later = later
      by false own_fits later =
          ap (λ z. (not (bytes_eq p.name (pin_text Y)) || (length p.sig == z)) && has_width (Word (Fold own)) new (pin_widths (with_signal A a ps)) Y) y_same
          ∙ ap (λ z. z && has_width (Word (Fold own)) new (pin_widths (with_signal A a ps)) Y) own_fits
          ∙ later

  assembled : (x y z u : Bool) → x ≡ true → y ≡ true → z ≡ false → u ≡ true → (if ((not x || not y) || false) then Some Bad else if z then Some Wide else if not u then Some Width else None) ≡ None
  assembled x y z u e f g h = (λ i. if ((not (e i) || not (f i)) || false) then Some Bad else if g i then Some Wide else if not (h i) then Some Width else None)

  params_good : (list_all (is_given (Word (Fold own)) new) (ASigned ∷ AWidth ∷ YWidth ∷ []) && list_all (has_param (Word (Fold own))) new) ≡ true
  params_good =
      let both = and_parts (list_all (is_given (Word (Fold own)) (given_params c.params)) (ASigned ∷ AWidth ∷ YWidth ∷ [])) (list_all (has_param (Word (Fold own))) (given_params c.params)) (shape_of (Word (Fold own)) c fit).params in
      let count : (name : ParamName) → count_by (λ (p : Param). bytes_eq p.name (param_text name)) new ≡ count_by (λ (p : Param). bytes_eq p.name (param_text name)) (given_params c.params) = λ name. good.counted (λ z. bytes_eq z (param_text name)) in
      let first = and_parts (is_given (Word (Fold own)) (given_params c.params) ASigned) _ both.0 in
      let second = and_parts (is_given (Word (Fold own)) (given_params c.params) AWidth) _ first.1 in
      let third = and_parts (is_given (Word (Fold own)) (given_params c.params) YWidth) _ second.1 in
      let once = (and_parts (count_by (λ (p : Param). bytes_eq p.name (param_text AWidth)) (given_params c.params) == 1) _ second.0).0 in
      let s : is_given (Word (Fold own)) new ASigned ≡ true = (λ i. (count ASigned i == 1) && all_known (good.others ASigned refl i)) ∙ first.0 in
      let y : is_given (Word (Fold own)) new YWidth ≡ true = (λ i. (count YWidth i == 1) && (all_known (good.others YWidth refl i) && nat_lt 0 (number_of (good.others YWidth refl i)))) ∙ third.0 in
      let positive : nat_lt 0 (number_in new AWidth) ≡ true = ap (nat_lt 0) good.width ∙ lt-ltb 0 (length a) some in
      let w : is_given (Word (Fold own)) new AWidth ≡ true = (λ i. (count AWidth i == 1) && (good.known i && positive i)) ∙ ap (λ z. z && true) once in
      let all : list_all (has_param (Word (Fold own))) new ≡ true = good.named (λ z. list_any (λ name. bytes_eq z (param_text name)) (ASigned ∷ AWidth ∷ YWidth ∷ [])) ∙ both.1 in
      (λ i. (s i && (w i && (y i && true))) && all i)

  pins_good : are_pins_good (Word (Fold own)) (pin_widths (with_signal A a c.pins)) ≡ true
  pins_good =
      (λ i. ((((counted_pins A a (λ z. bytes_eq z (pin_text A)) 0 c.pins i) == 1) || ((counted_pins A a (λ z. bytes_eq z (pin_text A)) 0 c.pins i == 0) && false))
      && ((((counted_pins A a (λ z. bytes_eq z (pin_text Y)) 0 c.pins i) == 1) || ((counted_pins A a (λ z. bytes_eq z (pin_text Y)) 0 c.pins i == 0) && false)) && true))
      && all_pins A a (λ z. list_any (λ name. bytes_eq z (pin_text name)) (A ∷ Y ∷ [])) c.pins i)
      ∙ (shape_of (Word (Fold own)) c fit).pins

  narrow : (nat_lt 4096 (number_in new AWidth) || (nat_lt 4096 (number_in new YWidth) || false)) ≡ false
  narrow =
      let old_narrow : (nat_lt 4096 (number_in (given_params c.params) AWidth) || (nat_lt 4096 (number_in (given_params c.params) YWidth) || false)) ≡ false = (shape_of (Word (Fold own)) c fit).narrow in
      let y : (nat_lt 4096 (number_in (given_params c.params) YWidth) || false) ≡ false = (neither (nat_lt 4096 (number_in (given_params c.params) AWidth)) _ old_narrow).1 in
      let low : nat_lt 4096 (length a) ≡ false = grind arith in
      (λ i. nat_lt 4096 (good.width i) || (nat_lt 4096 (y_same i) || false)) ∙ (λ i. low i || y i)

  wide : (has_width (Word (Fold own)) new (pin_widths (with_signal A a c.pins)) A && (has_width (Word (Fold own)) new (pin_widths (with_signal A a c.pins)) Y && true)) ≡ true
  wide =
      let both = and_parts (has_width (Word (Fold own)) (given_params c.params) (pin_widths c.pins) A) (has_width (Word (Fold own)) (given_params c.params) (pin_widths c.pins) Y && true) (shape_of (Word (Fold own)) c fit).widths in
      let y = and_parts (has_width (Word (Fold own)) (given_params c.params) (pin_widths c.pins) Y) true both.1 in
      (λ i. fits_a c.pins i && (fits_y c.pins y.0 i && true))

  -- a fold with other inputs fits its kind
  pub fits_still : misfit (Word (Fold own)) (with_inputs a c) ≡ None
  unfolding misfit
  fits_still = assembled _ _ _ _ params_good pins_good narrow wide

  -- it is as wide as before, and reads the inputs
  pub width_stays : (cell_shape (Word (Fold own)) (with_inputs a c).params).widths.y ≡ (cell_shape (Word (Fold own)) c.params).widths.y
  unfolding cell_shape
  width_stays = ap small y_same

  pub inputs_are : signal_at (with_inputs a c).pins (pin_text A) ≡ a
  inputs_are =
      ⊎_elim (λ l. l)
      (λ r.
      let none : number_in (given_params c.params) AWidth ≡ 0 = sym wide_a ∙ ap length r.0 in
      let positive : nat_lt 0 (number_in (given_params c.params) AWidth) ≡ true = (and_parts _ _ a_reads).1 in
      absurd (true≢false (sym positive ∙ ap (nat_lt 0) none)))
      (own_pin A a c.pins)
