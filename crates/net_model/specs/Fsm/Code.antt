-- A machine in the code with one bit for each state.
use Rattle.std.specs.Prelude.{ℕ, zero, suc, ◌+◌, ◌==◌, Bool, true, false, List, [], ◌∷◌, ◌++◌, length, map, flat_map, replicate, drop, slice_get, codes, Option, Some, None, if◌then◌else◌}
use Rattle.std.specs.Option.{option_map_or}
use Rattle.rtl_bits.specs.declared.bit.Bit.{Bit}
use Rattle.rtl_bits.specs.declared.bit.Bit.TheVariants.{S0, S1, X}
use Rattle.rtl_bits.specs.Numbers.{number_of}
use Rattle.rtl_sig.specs.declared.sig.SigBit.{SigBit}
use Rattle.rtl_sig.specs.declared.sig.SigBit.TheVariants.{Fixed}
use Rattle.cell_types.specs.declared.kind.CellKind.{CellKind}
use Rattle.cell_types.specs.declared.kind.CellKind.TheVariants as Cells
use Rattle.cell_types.specs.declared.param_name.ParamName.TheVariants.{ClkPolarity, ArstPolarity}
use Rattle.cell_types.specs.declared.pin_name.PinName.TheVariants.{A, B, S, Y, Clk, Arst, D}
use Rattle.cell_types.specs.declared.word.EqualKind.TheVariants.{Eq}
use Rattle.cell_types.specs.declared.word.WordKind.TheVariants.{Pmux, Equal}
use Rattle.cell_types.specs.Levels.{level_in}
use Rattle.rtl_ir.specs.declared.cell.Cell.{Cell}
use Rattle.rtl_ir.specs.declared.cell.CellParam.{CellParam}
use Rattle.rtl_ir.specs.declared.cell.Pin.{Pin}
use Rattle.rtl_ir.specs.declared.machine.Machine.{Machine}
use Rattle.rtl_ir.specs.declared.module.Module.{Module}
use Rattle.rtl_ir.specs.declared.value.Attribute.{Attribute}
use Rattle.rtl_ir.specs.declared.wire.Wire.{Wire}
use Rattle.rtl_ir.specs.Signals.{constant_of, same_signal}
use Rattle.rtl_ir.specs.Flat.Cell.{cell_kind}
use Rattle.rtl_ir.specs.Follow.{follow}
use Rattle.rtl_ir.specs.Parameters.{given_params}
use Rattle.rtl_ir.specs.Types.{Ports}
use Rattle.rtl_ir.specs.Build.{Building, Build, building_of, integer_param, bits_param, pin_of, fresh_wire, new_link}
use Rattle.net_model.specs.Fsm.Find.{at_pin, arms_of, is_state_constant, whole_wire, has_place, machine_of}
use Rattle.net_model.specs.Proc.Start.{init_attribute}
use Rattle.net_model.specs.Proc.Sync.{polarity_of}

-- the code of a number among states: 1 at its place, 0 at all others
abbrev pub code_of : List (List Bit) → ℕ → List Bit
code_of states n = map (λ s. if number_of s == n then S1 else S0) states

-- the code of the start value; none where it is unknown
abbrev pub code_init : List (List Bit) → Option (List Bit) → List Attribute
code_init states None = []
code_init states (Some s) = init_attribute (code_of states (number_of s)) ∷ []

-- the output of a cell of the tree, by its old signal, and its fresh one
pub record Output : Type 0 where
  pub before : List SigBit
  pub after : List SigBit

-- what a machine's signals become: the state, the outputs of the tree, and constants by the states
pub record Coding : Type 0 where
  pub states : List (List Bit)
  pub state : List SigBit
  pub code : List SigBit
  pub outputs : List Output

-- the fresh output of an old one
abbrev pub output_code : List Output → List SigBit → Option (List SigBit)
output_code [] signal = None
output_code (o ∷ outputs) signal = if same_signal o.before signal then Some o.after else output_code outputs signal

-- a followed signal in the code: the state, an output of the tree, a known constant, or x
abbrev pub coded : Coding → List SigBit → List SigBit
coded c signal =
    if same_signal c.state signal then c.code
    else if is_state_constant signal then map Fixed (code_of c.states (number_of (map constant_of signal)))
    else option_map_or (λ (s : List SigBit). s) (output_code c.outputs signal) (replicate (length c.states) (Fixed X))

-- fresh outputs for the cells of the tree, in their order
abbrev pub fresh_outputs : ℕ → List Cell → List ℕ → Build (List Output)
fresh_outputs width cells [] b = ([], b)
fresh_outputs width cells (at ∷ places) b =
    let wire = fresh_wire width [] b in
    let rest = fresh_outputs width cells places wire.1 in
    (option_map_or (λ (c : Cell). record { before = at_pin c Y; after = wire.0 } ∷ []) (slice_get cells at) [] ++ rest.0, rest.1)

-- the parameters of a fork of a width
abbrev pub fork_params : Option CellKind → ℕ → ℕ → List CellParam
fork_params (Some (Cells.Word Pmux)) width selects =
    integer_param (codes "\\WIDTH") width ∷ integer_param (codes "\\S_WIDTH") selects ∷ []
fork_params kind width selects = integer_param (codes "\\WIDTH") width ∷ []

-- a signal that may be there
abbrev pub or_nothing : Option (List SigBit) → List SigBit
or_nothing None = []
or_nothing (Some s) = s

-- the arms of a fork in the code
abbrev pub coded_arms : Module → Coding → Cell → List (List SigBit)
coded_arms m c cell = map (λ arm. coded c (map (follow m.links) arm)) (arms_of cell)

-- a cell of the tree in the code
abbrev pub coded_fork : Module → Coding → Cell → Cell
coded_fork m c cell = record cell {
  params = fork_params (cell_kind cell) (length c.states) (length (at_pin cell S));
  pins =
      pin_of (codes "\\A") (or_nothing (slice_get (coded_arms m c cell) 0))
      ∷ pin_of (codes "\\B") (flat_map (λ (s : List SigBit). s) (drop 1 (coded_arms m c cell)))
      ∷ pin_of (codes "\\S") (at_pin cell S)
      ∷ pin_of (codes "\\Y") (or_nothing (output_code c.outputs (at_pin cell Y)))
      ∷ [];
}

-- the parameters of the flop, with the reset value in the code where it has one
abbrev pub flop_params : Cell → List (List Bit) → Option (List Bit) → List CellParam
flop_params cell states None =
    integer_param (codes "\\WIDTH") (length states)
    ∷ integer_param (codes "\\CLK_POLARITY") (polarity_of (level_in (given_params cell.params) ClkPolarity)) ∷ []
flop_params cell states (Some reset) =
    integer_param (codes "\\WIDTH") (length states)
    ∷ integer_param (codes "\\CLK_POLARITY") (polarity_of (level_in (given_params cell.params) ClkPolarity))
    ∷ integer_param (codes "\\ARST_POLARITY") (polarity_of (level_in (given_params cell.params) ArstPolarity))
    ∷ bits_param (codes "\\ARST_VALUE") (code_of states (number_of reset)) ∷ []

-- the reset pin, where there is a reset
abbrev pub reset_pin : Cell → Option (List Bit) → List Pin
reset_pin cell None = []
reset_pin cell (Some reset) = pin_of (codes "\\ARST") (at_pin cell Arst) ∷ []

-- the flop in the code
abbrev pub coded_flop : Module → Coding → Option (List Bit) → Cell → Cell
coded_flop m c reset cell = record cell {
  params = flop_params cell c.states reset;
  pins =
      pin_of (codes "\\CLK") (at_pin cell Clk)
      ∷ (reset_pin cell reset
      ++ pin_of (codes "\\D") (coded c (map (follow m.links) (at_pin cell D))) ∷ pin_of (codes "\\Q") c.code ∷ []);
}

-- the constant that a compare has beside the state, as a number
abbrev pub compared : Module → Coding → Cell → ℕ
compared m c cell =
    if same_signal (map (follow m.links) (at_pin cell A)) c.state
    then number_of (map constant_of (map (follow m.links) (at_pin cell B)))
    else number_of (map constant_of (map (follow m.links) (at_pin cell A)))

-- the bit of the state that is a number, where it is one
abbrev pub state_bit : List (List Bit) → List SigBit → ℕ → Option SigBit
state_bit [] code n = None
state_bit (s ∷ states) [] n = None
state_bit (s ∷ states) (b ∷ code) n = if number_of s == n then Some b else state_bit states code n

-- a cell is an `$eq`
abbrev pub is_equal : Option CellKind → Bool
is_equal (Some (Cells.Word (Equal Eq))) = true
is_equal kind = false

-- a one-bit `$not` of a bit in the place of a compare; it drives the lowest bit of Y
abbrev pub inverse_cell : Cell → SigBit → SigBit → Cell
inverse_cell cell bit y = record cell {
  kind_name = codes "$not";
  params = integer_param (codes "\\A_SIGNED") 0 ∷ integer_param (codes "\\A_WIDTH") 1 ∷ integer_param (codes "\\Y_WIDTH") 1 ∷ [];
  pins = pin_of (codes "\\A") (bit ∷ []) ∷ pin_of (codes "\\Y") (y ∷ []) ∷ [];
}

-- a connection of a signal, which is none where the signal has no bit
abbrev pub link_all : List SigBit → List SigBit → Building → Building
link_all [] right b = b
link_all (l ∷ left) right b = new_link (l ∷ left) right b

-- a bit with 0 above it, as wide as a signal
abbrev pub with_zeros : SigBit → List SigBit → List SigBit
with_zeros bit [] = []
with_zeros bit (y ∷ signal) = bit ∷ map (λ s. Fixed S0) signal

-- a bit that may be there, else 0
abbrev pub or_zero : Option SigBit → SigBit
or_zero None = Fixed S0
or_zero (Some s) = s

-- a compare: the cells that stand in its place, and what is connected
abbrev pub coded_compare : Module → Coding → Cell → Bool → Option SigBit → List SigBit → Build (List Cell)
coded_compare m c cell true bit ys b = ([], link_all ys (with_zeros (or_zero bit) ys) b)
coded_compare m c cell false None ys b = ([], link_all ys (with_zeros (Fixed S1) ys) b)
coded_compare m c cell false (Some bit) [] b = ([], b)
coded_compare m c cell false (Some bit) (y ∷ ys) b =
    (inverse_cell cell bit y ∷ [], link_all ys (map (λ s. Fixed S0) ys) b)

-- a cell at a place: the flop, a cell of the tree, a compare, or another, which stays
abbrev pub coded_cell : Module → Machine → Coding → ℕ → Cell → Build (List Cell)
coded_cell m machine c at cell b =
    if at == machine.flop
    then (coded_flop m c machine.reset cell ∷ [], b)
    else if has_place machine.muxes at
    then (coded_fork m c cell ∷ [], b)
    else if has_place machine.compares at
    then coded_compare m c cell (is_equal (cell_kind cell)) (state_bit c.states c.code (compared m c cell)) (at_pin cell Y) b
    else (cell ∷ [], b)

-- the cells from a place on in the code
abbrev pub coded_cells : Module → Machine → Coding → ℕ → List Cell → Build (List Cell)
coded_cells m machine c at [] b = ([], b)
coded_cells m machine c at (cell ∷ cells) b =
    let here = coded_cell m machine c at cell b in
    let rest = coded_cells m machine c (at + 1) cells here.1 in
    (here.0 ++ rest.0, rest.1)

-- the old cells are replaced, each in its place
abbrev pub recoded : Module → Machine → List SigBit → Module
recoded m machine state =
    let code = fresh_wire (length machine.states) (code_init machine.states machine.start) (building_of m) in
    let outputs = fresh_outputs (length machine.states) m.cells machine.muxes code.1 in
    let cells = coded_cells m machine (record { states = machine.states; state = state; code = code.0; outputs = outputs.0 }) 0 m.cells outputs.1 in
    record cells.1.body { cells = cells.0 }

-- the module with the machine in the code
abbrev pub recoded_of : Module → Machine → Module
recoded_of m machine = option_map_or (λ (w : Wire). recoded m machine (whole_wire machine.wire w)) (slice_get m.wires machine.wire) m

-- the wires that there were before the pass, from a place on; each that is a state wire is recoded
abbrev pub wires_recoded : Ports → ℕ → ℕ → Module → Module
wires_recoded ports at zero m = m
wires_recoded ports at (suc n) m =
    wires_recoded ports (at + 1) n (option_map_or (recoded_of m) (machine_of ports m at) m)

-- the module after the pass
abbrev pub fsm_of : Ports → Module → Module
fsm_of ports m = wires_recoded ports 0 (length m.wires) m
