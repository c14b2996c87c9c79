-- A machine in the code with one bit for each state leaves a module that a text can give.
use Rattle.std.proofs.Common.{◌≡◌, ℕ, suc, ◌+◌, ◌*◌, ◌<◌, ◌≤◌, Bool, true, false, if◌then◌else◌, List, [], ◌∷◌, length, Option, Some, None, inl, inr, refl, sym, ◌∙◌, ap, arith, length-append}
use Rattle.std.specs.Prelude.{◌==◌, codes, flat_map, map, replicate, slice_get}
use Rattle.std.specs.List.{All}
use Rattle.std.specs.Option.{option_map_or}
use Rattle.std.proofs.lemmas.List.{length-map, length-replicate}
use Rattle.std.proofs.lemmas.List.Elements.{All-append, All-cons, All-head, All-nil, All-tail}
use Rattle.cell_types.specs.declared.kind.CellKind.{CellKind}
use Rattle.cell_types.specs.declared.kind.CellKind.TheVariants as Cells
use Rattle.cell_types.specs.declared.param_name.ParamName.TheVariants.{ArstPolarity, ClkPolarity}
use Rattle.cell_types.specs.declared.pin_name.PinName.{PinName}
use Rattle.cell_types.specs.declared.pin_name.PinName.TheVariants.{A, Arst, B, Clk, D, S, Y}
use Rattle.cell_types.specs.declared.word.WordKind.TheVariants.{Pmux}
use Rattle.cell_types.specs.Levels.{level_in}
use Rattle.cell_types.specs.PinName.{pin_text}
use Rattle.rtl_bits.specs.Numbers.{number_of}
use Rattle.rtl_bits.specs.declared.bit.Bit.{Bit}
use Rattle.rtl_bits.specs.declared.bit.Bit.TheVariants.{S0, S1, X}
use Rattle.rtl_sig.specs.Names.{AreDistinct}
use Rattle.rtl_sig.specs.declared.sig.SigBit.{SigBit}
use Rattle.rtl_sig.specs.declared.sig.SigBit.TheVariants.{Fixed}
use Rattle.rtl_ir.specs.Build.{Building, bits_param, building_of, fresh_wire, integer_param, pin_of}
use Rattle.rtl_ir.specs.Flat.Cell.{cell_kind}
use Rattle.rtl_ir.specs.Follow.{follow}
use Rattle.rtl_ir.specs.Parameters.{given_params}
use Rattle.rtl_ir.specs.Signals.{constant_of, same_signal}
use Rattle.rtl_ir.specs.declared.cell.Cell.{Cell}
use Rattle.rtl_ir.specs.declared.cell.CellParam.{CellParam}
use Rattle.rtl_ir.specs.declared.cell.Pin.{Pin}
use Rattle.rtl_ir.specs.declared.machine.Machine.{Machine}
use Rattle.rtl_ir.specs.declared.module.Module.{Module}
use Rattle.rtl_ir.specs.declared.wire.Wire.{Wire}
use Rattle.net_model.proofs.Members.{map-append}
use Rattle.net_model.proofs.Ranges.{each_both, each_more}
use Rattle.net_model.specs.Fsm.Code.{Coding, Output, code_init, code_of, coded, coded_cell, coded_cells, coded_compare, coded_flop, coded_fork, compared, fork_params, fresh_outputs, inverse_cell, is_equal, link_all, or_nothing, or_zero, output_code, recoded, state_bit, with_zeros}
use Rattle.net_model.specs.Fsm.Find.{at_pin, has_place, is_state_constant, parts_of}
use Rattle.net_model.specs.Proc.Sync.{polarity_of}
use Rattle.net_model.specs.Within.{Each}
use Rattle.rtl_readable.specs.Changing.{NoMore, cell_names, times}
use Rattle.rtl_readable.specs.Readable.{AreAttributes, IsBitOf, IsCell, IsCellParam, IsPin, IsSignal, item_names}
use Rattle.rtl_readable.proofs.Counting.{item_times, still_distinct, times_more}
use Rattle.rtl_readable.proofs.Signals.{no_signal, pin_signal}
use Rattle.readable_laws.specs.Extends.{Extends, HasReadableItems}
use Rattle.readable_laws.proofs.Cells.{apart_distinct, init_is, number_is, params_one, params_three, params_two, pins_three, pins_two, polarity_is}
use Rattle.readable_laws.proofs.Extending.{cells_later, extended, extends_both, extends_link, extends_none, extends_wire, no_attributes, signal_later, wire_signal}
use Rattle.readable_laws.proofs.Parts.{fixed_signal, filled_signal, one_signal}
use Rattle.build_laws.proofs.CellFits.{whole_length}

-- a signal of a width
record IsWide (wires : List Wire) (n : ℕ) (signal : List SigBit) : Type 0 where
  is : IsSignal wires signal
  long : length signal ≡ n

wide_later : (a b : Building) → Extends a b → (n : ℕ) (signal : List SigBit) → IsWide a.body.wires n signal → IsWide b.body.wires n signal
wide_later a b e n signal h = record { is = signal_later a b e signal h.is; long = h.long }

-- what a machine's signals become, over these wires
record IsCoding (wires : List Wire) (c : Coding) : Type 0 where
  some : 0 < length c.states
  few : length c.states ≤ 64
  code : IsWide wires (length c.states) c.code
  outputs : Each (λ (o : Output). IsWide wires (length c.states) o.after) c.outputs

code_long : (states : List (List Bit)) (n : ℕ) → length (code_of states n) ≡ length states
code_long states n = length-map states (λ s. if number_of s == n then S1 else S0)

module _ (wires : List Wire) (c : Coding) (is : IsCoding wires c) where
  abbrev width : ℕ
  width = length c.states

  -- a signal that may be there
  abbrev MayBe : Option (List SigBit) → Type 0
  MayBe None = Unit {0}
  MayBe (Some signal) = IsWide wires width signal

  output_is : (outputs : List Output) (signal : List SigBit) → Each (λ (o : Output). IsWide wires width o.after) outputs → MayBe (output_code outputs signal)
  output_is [] signal h = tt
  output_is (o ∷ outputs) signal h = by (same_signal o.before signal) (output_is outputs signal (λ x i. h x (inr i)))
    where
      by : (t : Bool) → MayBe (output_code outputs signal) → MayBe (if t then Some o.after else output_code outputs signal)
      by true later = h o (inl refl)
      by false later = later

  coded_is : (signal : List SigBit) → IsWide wires width (coded c signal)
  coded_is signal = by (same_signal c.state signal) (is_state_constant signal) (output_code c.outputs signal) (output_is c.outputs signal is.outputs)
    where
      bits : List Bit
      bits = code_of c.states (number_of (map constant_of signal))

      constants : IsWide wires width (map Fixed bits)
      constants = record { is = fixed_signal wires bits (omega (arith, code_long c.states (number_of (map constant_of signal)), is.few)); long = length-map bits Fixed ∙ code_long c.states (number_of (map constant_of signal)) }

      by : (s t : Bool) (o : Option (List SigBit)) → MayBe o → IsWide wires width (if s then c.code else if t then map Fixed bits else option_map_or (λ (x : List SigBit). x) o (replicate width (Fixed X)))
      by true t o h = is.code
      by false true o h = constants
      by false false None h = record { is = filled_signal wires width X (omega (arith, is.few)); long = length-replicate width (Fixed X) }
      by false false (Some x) h = h

  -- the arms of a fork behind one another
  arms_are : (f : List SigBit → List SigBit) (parts : List (List SigBit)) → All (IsBitOf wires) (flat_map (λ (s : List SigBit). s) (map (λ arm. coded c (f arm)) parts))
  arms_are f [] = All-nil (IsBitOf wires)
  arms_are f (p ∷ parts) = All-append (IsBitOf wires) (coded c (f p)) (flat_map (λ (s : List SigBit). s) (map (λ arm. coded c (f arm)) parts)) (coded_is (f p)).is.bits (arms_are f parts)

  arms_long : (f : List SigBit → List SigBit) (parts : List (List SigBit)) → length (flat_map (λ (s : List SigBit). s) (map (λ arm. coded c (f arm)) parts)) ≡ length parts * width
  arms_long f [] = omega arith
  arms_long f (p ∷ parts) =
      omega (arith, length-append (coded c (f p)) (flat_map (λ (s : List SigBit). s) (map (λ arm. coded c (f arm)) parts)), (coded_is (f p)).long, arms_long f parts)

  or_nothing_is : (o : Option (List SigBit)) → MayBe o → IsSignal wires (or_nothing o)
  or_nothing_is None h = no_signal wires
  or_nothing_is (Some signal) h = h.is

  fork_is : (kind : Option CellKind) (selects : ℕ) → selects ≤ 4194304 → All IsCellParam (fork_params kind width selects)
  fork_is (Some (Cells.Word Pmux)) selects few =
      params_two (integer_param (codes "\\WIDTH") width) (integer_param (codes "\\S_WIDTH") selects) (number_is (codes "\\WIDTH") width refl (omega (arith, is.few))) (number_is (codes "\\S_WIDTH") selects refl (omega (arith, few)))
  fork_is kind selects few = params_one (integer_param (codes "\\WIDTH") width) (number_is (codes "\\WIDTH") width refl (omega (arith, is.few)))

  fork_apart : (kind : Option CellKind) (selects : ℕ) → AreDistinct (map (λ (p : CellParam). p.name) (fork_params kind width selects))
  fork_apart (Some (Cells.Word Pmux)) selects = apart_distinct (codes "\\WIDTH" ∷ codes "\\S_WIDTH" ∷ []) refl
  fork_apart kind selects = apart_distinct (codes "\\WIDTH" ∷ []) refl

  module _ (m : Module) (cell : Cell) (old : IsCell wires cell) where
    pin_is : (pin : PinName) → IsSignal wires (at_pin cell pin)
    pin_is pin = pin_signal wires cell.pins (pin_text pin) old.pins

    abbrev parts : List (List SigBit)
    parts = parts_of (length (at_pin cell B)) (length (at_pin cell A)) (at_pin cell B)

    -- a cell of the tree in the code
    forked : length (parts_of (length (at_pin cell B)) (length (at_pin cell A)) (at_pin cell B)) * length c.states ≤ 4096 → IsCell wires (coded_fork m c cell)
    forked fits = record {
      kind_name = old.kind_name;
      name = old.name;
      params = fork_is (cell_kind cell) (length (at_pin cell S)) (pin_is S).width;
      distinct_params = fork_apart (cell_kind cell) (length (at_pin cell S));
      pins =
          All-cons (IsPin wires) (pin_of (codes "\\A") (coded c (map (follow m.links) (at_pin cell A)))) (pin_of (codes "\\B") (flat_map (λ (s : List SigBit). s) (map (λ arm. coded c (map (follow m.links) arm)) parts)) ∷ pin_of (codes "\\S") (at_pin cell S) ∷ pin_of (codes "\\Y") (or_nothing (output_code c.outputs (at_pin cell Y))) ∷ [])
          (record { name = refl; sig = (coded_is (map (follow m.links) (at_pin cell A))).is })
          (pins_three wires (pin_of (codes "\\B") (flat_map (λ (s : List SigBit). s) (map (λ arm. coded c (map (follow m.links) arm)) parts))) (pin_of (codes "\\S") (at_pin cell S)) (pin_of (codes "\\Y") (or_nothing (output_code c.outputs (at_pin cell Y))))
          (record { name = refl; sig = record { bits = arms_are (map (follow m.links)) parts; width = omega (arith, arms_long (map (follow m.links)) parts, fits) } })
          (record { name = refl; sig = pin_is S })
          (record { name = refl; sig = or_nothing_is (output_code c.outputs (at_pin cell Y)) (output_is c.outputs (at_pin cell Y) is.outputs) }));
      distinct_pins = apart_distinct (codes "\\A" ∷ codes "\\B" ∷ codes "\\S" ∷ codes "\\Y" ∷ []) refl;
      attributes = old.attributes;
    }

    -- the flop in the code
    clock_is : IsCellParam (integer_param (codes "\\CLK_POLARITY") (polarity_of (level_in (given_params cell.params) ClkPolarity)))
    clock_is = polarity_is (codes "\\CLK_POLARITY") (level_in (given_params cell.params) ClkPolarity) refl

    reset_is : IsCellParam (integer_param (codes "\\ARST_POLARITY") (polarity_of (level_in (given_params cell.params) ArstPolarity)))
    reset_is = polarity_is (codes "\\ARST_POLARITY") (level_in (given_params cell.params) ArstPolarity) refl

    width_is : IsCellParam (integer_param (codes "\\WIDTH") (length c.states))
    width_is = number_is (codes "\\WIDTH") width refl (omega (arith, is.few))

    abbrev data_pin : Pin
    data_pin = pin_of (codes "\\D") (coded c (map (follow m.links) (at_pin cell D)))

    flopped : (reset : Option (List Bit)) → IsCell wires (coded_flop m c reset cell)
    flopped None = record {
      kind_name = old.kind_name;
      name = old.name;
      params = params_two (integer_param (codes "\\WIDTH") (length c.states)) (integer_param (codes "\\CLK_POLARITY") (polarity_of (level_in (given_params cell.params) ClkPolarity))) width_is clock_is;
      distinct_params = apart_distinct (codes "\\WIDTH" ∷ codes "\\CLK_POLARITY" ∷ []) refl;
      pins = pins_three wires (pin_of (codes "\\CLK") (at_pin cell Clk)) data_pin (pin_of (codes "\\Q") c.code) (record { name = refl; sig = pin_is Clk }) (record { name = refl; sig = (coded_is (map (follow m.links) (at_pin cell D))).is }) (record { name = refl; sig = is.code.is });
      distinct_pins = apart_distinct (codes "\\CLK" ∷ codes "\\D" ∷ codes "\\Q" ∷ []) refl;
      attributes = old.attributes;
    }
    flopped (Some reset) = record {
      kind_name = old.kind_name;
      name = old.name;
      params =
          All-cons IsCellParam (integer_param (codes "\\WIDTH") (length c.states)) (integer_param (codes "\\CLK_POLARITY") (polarity_of (level_in (given_params cell.params) ClkPolarity)) ∷ integer_param (codes "\\ARST_POLARITY") (polarity_of (level_in (given_params cell.params) ArstPolarity)) ∷ bits_param (codes "\\ARST_VALUE") (code_of c.states (number_of reset)) ∷ [])
          width_is
          (params_three (integer_param (codes "\\CLK_POLARITY") (polarity_of (level_in (given_params cell.params) ClkPolarity))) (integer_param (codes "\\ARST_POLARITY") (polarity_of (level_in (given_params cell.params) ArstPolarity))) (bits_param (codes "\\ARST_VALUE") (code_of c.states (number_of reset)))
          clock_is reset_is (record { name = refl; value = omega (arith, code_long c.states (number_of reset), is.few) }));
      distinct_params = apart_distinct (codes "\\WIDTH" ∷ codes "\\CLK_POLARITY" ∷ codes "\\ARST_POLARITY" ∷ codes "\\ARST_VALUE" ∷ []) refl;
      pins =
          All-cons (IsPin wires) (pin_of (codes "\\CLK") (at_pin cell Clk)) (pin_of (codes "\\ARST") (at_pin cell Arst) ∷ data_pin ∷ pin_of (codes "\\Q") c.code ∷ []) (record { name = refl; sig = pin_is Clk })
          (pins_three wires (pin_of (codes "\\ARST") (at_pin cell Arst)) data_pin (pin_of (codes "\\Q") c.code) (record { name = refl; sig = pin_is Arst }) (record { name = refl; sig = (coded_is (map (follow m.links) (at_pin cell D))).is }) (record { name = refl; sig = is.code.is }));
      distinct_pins = apart_distinct (codes "\\CLK" ∷ codes "\\ARST" ∷ codes "\\D" ∷ codes "\\Q" ∷ []) refl;
      attributes = old.attributes;
    }

    -- an inverter in the place of a compare
    inverted : (bit y : SigBit) → IsBitOf wires bit → IsBitOf wires y → IsCell wires (inverse_cell cell bit y)
    inverted bit y hb hy = record {
      kind_name = refl;
      name = old.name;
      params = params_three (integer_param (codes "\\A_SIGNED") 0) (integer_param (codes "\\A_WIDTH") 1) (integer_param (codes "\\Y_WIDTH") 1) (number_is (codes "\\A_SIGNED") 0 refl (omega arith)) (number_is (codes "\\A_WIDTH") 1 refl (omega arith)) (number_is (codes "\\Y_WIDTH") 1 refl (omega arith));
      distinct_params = apart_distinct (codes "\\A_SIGNED" ∷ codes "\\A_WIDTH" ∷ codes "\\Y_WIDTH" ∷ []) refl;
      pins = pins_two wires (pin_of (codes "\\A") (bit ∷ [])) (pin_of (codes "\\Y") (y ∷ [])) (record { name = refl; sig = one_signal wires bit hb }) (record { name = refl; sig = one_signal wires y hy });
      distinct_pins = apart_distinct (codes "\\A" ∷ codes "\\Y" ∷ []) refl;
      attributes = old.attributes;
    }

  -- the bit of a state
  abbrev BitMayBe : Option SigBit → Type 0
  BitMayBe None = Unit {0}
  BitMayBe (Some s) = IsBitOf wires s

  state_is : (states : List (List Bit)) (code : List SigBit) (n : ℕ) → All (IsBitOf wires) code → BitMayBe (state_bit states code n)
  state_is [] code n all = tt
  state_is (s ∷ states) [] n all = tt
  state_is (s ∷ states) (b ∷ code) n all = by (number_of s == n) (state_is states code n (All-tail (IsBitOf wires) b code all))
    where
      by : (t : Bool) → BitMayBe (state_bit states code n) → BitMayBe (if t then Some b else state_bit states code n)
      by true later = All-head (IsBitOf wires) b code all
      by false later = later

  zeros_are : (ys : List SigBit) → All (IsBitOf wires) (map (λ s. Fixed S0) ys)
  zeros_are [] = All-nil (IsBitOf wires)
  zeros_are (y ∷ ys) = All-cons (IsBitOf wires) (Fixed S0) (map (λ s. Fixed S0) ys) tt (zeros_are ys)

  zeros_is : (ys : List SigBit) → length ys ≤ 4194304 → IsSignal wires (map (λ s. Fixed S0) ys)
  zeros_is ys few = record { bits = zeros_are ys; width = omega (arith, few, length-map ys (λ s. Fixed S0)) }

  above_is : (bit : SigBit) (ys : List SigBit) → IsBitOf wires bit → length ys ≤ 4194304 → IsSignal wires (with_zeros bit ys)
  above_is bit [] h few = no_signal wires
  above_is bit (y ∷ ys) h few = record { bits = All-cons (IsBitOf wires) bit (map (λ s. Fixed S0) ys) h (zeros_are ys); width = omega (arith, few, length-map ys (λ s. Fixed S0)) }

  or_zero_is : (o : Option SigBit) → BitMayBe o → IsBitOf wires (or_zero o)
  or_zero_is None h = tt
  or_zero_is (Some s) h = h

-- what is built for a cell: connections, and at most one cell under its name
record Coded (start b : Building) (cell : Cell) (r : List Cell × Building) : Type 0 where
  steps : Extends b r.1
  cells : All (IsCell start.body.wires) r.0
  names : (name : List ℕ) → times name (cell_names r.0) ≤ times name (cell_names (cell ∷ []))

links_add : (start b : Building) → Extends start b → (left right : List SigBit) → IsSignal start.body.wires left → IsSignal start.body.wires right → Extends b (link_all left right b)
links_add start b e [] right l r = extends_none b
links_add start b e (x ∷ left) right l r = extends_link (x ∷ left) right b (signal_later start b e (x ∷ left) l) (signal_later start b e right r)

module _ (start : Building) (m : Module) (machine : Machine) (c : Coding) (is : IsCoding start.body.wires c) where
  abbrev wires : List Wire
  wires = start.body.wires

  one_cell : (cell d : Cell) (b : Building) → IsCell wires d → d.name ≡ cell.name → Coded start b cell (d ∷ [], b)
  one_cell cell d b h e = record {
    steps = extends_none b;
    cells = All-cons (IsCell wires) d [] h (All-nil (IsCell wires));
    names = λ name. let same : times name (d.name ∷ []) ≡ times name (cell.name ∷ []) = ap (λ z. times name (z ∷ [])) e in omega (arith, same);
  }

  compare_is : (cell : Cell) → IsCell wires cell → (t : Bool) (bit : Option SigBit) → BitMayBe wires c is bit → (ys : List SigBit) → IsSignal wires ys → (b : Building) → Extends start b → Coded start b cell (coded_compare m c cell t bit ys b)
  compare_is cell h true bit hb ys hy b e = record {
    steps = links_add start b e ys (with_zeros (or_zero bit) ys) hy (above_is wires c is (or_zero bit) ys (or_zero_is wires c is bit hb) hy.width);
    cells = All-nil (IsCell wires);
    names = λ name. omega arith;
  }
  compare_is cell h false None hb ys hy b e = record {
    steps = links_add start b e ys (with_zeros (Fixed S1) ys) hy (above_is wires c is (Fixed S1) ys tt hy.width);
    cells = All-nil (IsCell wires);
    names = λ name. omega arith;
  }
  compare_is cell h false (Some bit) hb [] hy b e = record { steps = extends_none b; cells = All-nil (IsCell wires); names = λ name. omega arith }
  compare_is cell h false (Some bit) hb (y ∷ ys) hy b e =
      let few : length ys ≤ 4194304 = omega (arith, hy.width) in
      record {
        steps = links_add start b e ys (map (λ s. Fixed S0) ys) (record { bits = All-tail (IsBitOf wires) y ys hy.bits; width = few }) (zeros_is wires c is ys few);
        cells = All-cons (IsCell wires) (inverse_cell cell bit y) [] (inverted wires c is m cell h bit y hb (All-head (IsBitOf wires) y ys hy.bits)) (All-nil (IsCell wires));
        names = λ name. omega arith;
      }

  -- the cells of the tree have room for the code
  abbrev HasRoom : Cell → Type 0
  HasRoom cell = length (parts_of (length (at_pin cell B)) (length (at_pin cell A)) (at_pin cell B)) * length c.states ≤ 4096

  cell_coded : (at : ℕ) (cell : Cell) → IsCell wires cell → (has_place machine.muxes at ≡ true → HasRoom cell) → (b : Building) → Extends start b → Coded start b cell (coded_cell m machine c at cell b)
  cell_coded at cell h room b e = by (at == machine.flop) (has_place machine.muxes at) refl (has_place machine.compares at)
    where
      bit : Option SigBit
      bit = state_bit c.states c.code (compared m c cell)

      by : (s t : Bool) → has_place machine.muxes at ≡ t → (u : Bool)
          → Coded start b cell (if s then (coded_flop m c machine.reset cell ∷ [], b) else if t then (coded_fork m c cell ∷ [], b) else if u then coded_compare m c cell (is_equal (cell_kind cell)) (state_bit c.states c.code (compared m c cell)) (at_pin cell Y) b else (cell ∷ [], b))
      by true t f u = one_cell cell (coded_flop m c machine.reset cell) b (flopped wires c is m cell h machine.reset) refl
      by false true f u = one_cell cell (coded_fork m c cell) b (forked wires c is m cell h (room f)) refl
      by false false f true =
          compare_is cell h (is_equal (cell_kind cell)) (state_bit c.states c.code (compared m c cell)) (state_is wires c is c.states c.code (compared m c cell) is.code.is.bits) (at_pin cell Y) (pin_is wires c is m cell h Y) b e
      by false false f false = one_cell cell cell b h refl

  -- the cells from a place on
  record AllCoded (b : Building) (cells : List Cell) (r : List Cell × Building) : Type 0 where
    steps : Extends b r.1
    new : All (IsCell wires) r.0
    names : (name : List ℕ) → times name (cell_names r.0) ≤ times name (cell_names cells)

  cells_coded : (at : ℕ) (cells : List Cell) → All (IsCell wires) cells → ((k : ℕ) (cell : Cell) → slice_get cells k ≡ Some cell → has_place machine.muxes (at + k) ≡ true → HasRoom cell) → (b : Building) → Extends start b → AllCoded b cells (coded_cells m machine c at cells b)
  cells_coded at [] all room b e = record { steps = extends_none b; new = All-nil (IsCell wires); names = λ name. omega arith }
  cells_coded at (cell ∷ cells) all room b e =
      let here = coded_cell m machine c at cell b in
      let first : at + 0 ≡ at = omega arith in
      let one = cell_coded at cell (All-head (IsCell wires) cell cells all) (λ t. room 0 cell refl (ap (has_place machine.muxes) first ∙ t)) b e in
      let rest = coded_cells m machine c (at + 1) cells here.1 in
      let later = cells_coded (at + 1) cells (All-tail (IsCell wires) cell cells all)
      (λ k d f t. let place : at + suc k ≡ (at + 1) + k = omega arith in room (suc k) d f (ap (has_place machine.muxes) place ∙ t)) here.1 (extends_both start b here.1 e one.steps) in
      record {
        steps = extends_both b here.1 rest.1 one.steps later.steps;
        new = All-append (IsCell wires) here.0 rest.0 one.cells later.new;
        names = λ name.
            let both = ap (times name) (map-append (λ (d : Cell). d.name) here.0 rest.0) ∙ times_more name (cell_names here.0) (cell_names rest.0) in
            omega (arith, both, one.names name, later.names name);
      }

-- fresh outputs for the cells of the tree
record BuildsOutputs (n : ℕ) (old new : Building) (outputs : List Output) : Type 0 where
  steps : Extends old new
  are : Each (λ (o : Output). IsWide new.body.wires n o.after) outputs

outputs_build : (n : ℕ) → 0 < n → n ≤ 64 → (cells : List Cell) (places : List ℕ) (b : Building) → BuildsOutputs n b (fresh_outputs n cells places b).1 (fresh_outputs n cells places b).0
outputs_build n some few cells [] b = record { steps = extends_none b; are = λ o i. absurd i }
outputs_build n some few cells (at ∷ places) b =
    let wire = fresh_wire n [] b in
    let one = extends_wire n [] b some (omega (arith, few)) no_attributes in
    let rest = fresh_outputs n cells places wire.1 in
    let later = outputs_build n some few cells places wire.1 in
    let own : IsWide rest.1.body.wires n wire.0 = wide_later wire.1 rest.1 later.steps n wire.0 (record { is = wire_signal n [] b (omega (arith, few)); long = whole_length (length b.body.wires) n }) in
    record {
      steps = extends_both b wire.1 rest.1 one later.steps;
      are = each_both (λ (o : Output). IsWide rest.1.body.wires n o.after) (option_map_or (λ (d : Cell). record { before = at_pin d Y; after = wire.0 } ∷ []) (slice_get cells at) []) rest.0 (first rest.1.body.wires wire.0 own (slice_get cells at)) later.are;
    }
  where
    first : (ws : List Wire) (signal : List SigBit) → IsWide ws n signal → (o : Option Cell) → Each (λ (x : Output). IsWide ws n x.after) (option_map_or (λ (d : Cell). record { before = at_pin d Y; after = signal } ∷ []) o [])
    first ws signal h None = λ x i. absurd i
    first ws signal h (Some d) = each_more (λ (x : Output). IsWide ws n x.after) (record { before = at_pin d Y; after = signal }) [] h (λ x i. absurd i)

init_are : (states : List (List Bit)) → length states ≤ 64 → (start : Option (List Bit)) → AreAttributes (code_init states start)
init_are states few None = no_attributes
init_are states few (Some s) = init_is (code_of states (number_of s)) (omega (arith, code_long states (number_of s), few))

-- a module with other cells, under no further names
other_cells : (k : Module) (cells : List Cell) → HasReadableItems k → All (IsCell k.wires) cells → NoMore (cell_names cells) (cell_names k.cells) → HasReadableItems (record k { cells = cells })
other_cells k cells is all names = record {
  id = is.id;
  attributes = is.attributes;
  parameters = is.parameters;
  wires = is.wires;
  memories = is.memories;
  cells = all;
  processes = is.processes;
  links = is.links;
  distinct = still_distinct (item_names (record k { cells = cells })) (item_names k) (λ name. omega (arith, item_times name (record k { cells = cells }), item_times name k, names name)) is.distinct;
}

module _ (m : Module) (machine : Machine) (state : List SigBit) (some : 0 < length machine.states) (few : length machine.states ≤ 64) where
  abbrev pub code : List SigBit × Building
  code = fresh_wire (length machine.states) (code_init machine.states machine.start) (building_of m)

  abbrev pub outputs : List Output × Building
  outputs = fresh_outputs (length machine.states) m.cells machine.muxes (fresh_wire (length machine.states) (code_init machine.states machine.start) (building_of m)).1

  abbrev pub coding : Coding
  coding = record { states = machine.states; state = state; code = code.0; outputs = outputs.0 }

  pub recoded_reads : ((k : ℕ) (cell : Cell) → slice_get m.cells k ≡ Some cell → has_place machine.muxes k ≡ true → length (parts_of (length (at_pin cell B)) (length (at_pin cell A)) (at_pin cell B)) * length machine.states ≤ 4096)
      → HasReadableItems m → (coded_cells m machine coding 0 m.cells outputs.1).1.next ≤ 1000000000 → HasReadableItems (recoded m machine state)
  recoded_reads room is short =
      let n : ℕ = length machine.states in
      let old : Building = building_of m in
      let one = extends_wire n (code_init machine.states machine.start) old some (omega (arith, few)) (init_are machine.states few machine.start) in
      let two = outputs_build n some few m.cells machine.muxes code.1 in
      let start : Building = outputs.1 in
      let begun : Extends old start = extends_both old code.1 start one two.steps in
      let wide : IsWide start.body.wires n code.0 = wide_later code.1 start two.steps n code.0 (record { is = wire_signal n (code_init machine.states machine.start) old (omega (arith, few)); long = whole_length (length m.wires) n }) in
      let good : IsCoding start.body.wires coding = record { some = some; few = few; code = wide; outputs = two.are } in
      let last = coded_cells m machine coding 0 m.cells start in
      let three = cells_coded start m machine coding good 0 m.cells (cells_later old start begun m.cells is.cells)
      (λ k cell f t. let place : 0 + k ≡ k = omega arith in room k cell f (ap (has_place machine.muxes) (sym place) ∙ t)) start (extends_none start) in
      let all : Extends old last.1 = extends_both old start last.1 begun three.steps in
      other_cells last.1.body last.0 (extended m last.1 is all short) (cells_later start last.1 three.steps last.0 three.new)
      (λ name.
      let more = ap (λ (k : Module). times name (cell_names k.cells)) all.body ∙ ap (times name) (map-append (λ (d : Cell). d.name) m.cells all.cells) ∙ times_more name (cell_names m.cells) (cell_names all.cells) in
      omega (arith, more, three.names name))
