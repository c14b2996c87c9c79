-- State wires: the conditions under which a wire holds the state of a machine.
use Rattle.std.specs.Prelude.{ℕ, zero, suc, ◌+◌, ◌*◌, ◌==◌, nat_le, nat_lt, Bool, true, false, not, ◌&&◌, ◌||◌, List, [], ◌∷◌, ◌++◌, length, map, filter, flat_map, take, drop, slice_get, codes, Option, Some, None, option_map, option_and_then, if◌then◌else◌, find}
use Rattle.std.specs.List.{list_any, list_all, range_with_len}
use Rattle.std.specs.Option.{option_map_or}
use Rattle.std.specs.Str.{bytes_eq}
use Rattle.rtl_bits.specs.declared.bit.Bit.{Bit}
use Rattle.rtl_bits.specs.Knowledge.{is_known, all_known}
use Rattle.rtl_bits.specs.Numbers.{number_of}
use Rattle.rtl_sig.specs.declared.sig.SigBit.{SigBit}
use Rattle.rtl_sig.specs.declared.sig.SigBit.TheVariants.{Wire as OnWire}
use Rattle.rtl_sig.specs.declared.sig.WireBit.{WireBit}
use Rattle.cell_types.specs.declared.kind.CellKind.{CellKind}
use Rattle.cell_types.specs.declared.kind.CellKind.TheVariants as Cells
use Rattle.cell_types.specs.declared.param_name.ParamName.TheVariants.{ASigned, BSigned, ArstValue}
use Rattle.cell_types.specs.declared.pin_name.PinName.{PinName}
use Rattle.cell_types.specs.declared.pin_name.PinName.TheVariants.{A, B, Y, D, Q}
use Rattle.cell_types.specs.declared.storage.StorageKind.TheVariants.{Dff, Adff}
use Rattle.cell_types.specs.declared.word.EqualKind.TheVariants.{Eq, Ne}
use Rattle.cell_types.specs.declared.word.WordKind.TheVariants.{Mux, Pmux, Equal}
use Rattle.cell_types.specs.Given.{value_in}
use Rattle.cell_types.specs.PinName.{pin_text}
use Rattle.cell_types.specs.Shape.{is_set}
use Rattle.rtl_ir.specs.declared.cell.Cell.{Cell}
use Rattle.rtl_ir.specs.declared.cell.Pin.{Pin}
use Rattle.rtl_ir.specs.declared.machine.Machine.{Machine}
use Rattle.rtl_ir.specs.declared.module.Module.{Module}
use Rattle.rtl_ir.specs.declared.value.Attribute.{Attribute}
use Rattle.rtl_ir.specs.declared.value.Value.{Value}
use Rattle.rtl_ir.specs.declared.value.Value.TheVariants.{Bits, Int, Chars}
use Rattle.rtl_ir.specs.declared.wire.Wire.{Wire}
use Rattle.rtl_ir.specs.Flat.Cell.{cell_kind}
use Rattle.rtl_ir.specs.Flat.Start.{start_of}
use Rattle.rtl_ir.specs.Attributes.{is_kept}
use Rattle.rtl_ir.specs.Follow.{follow}
use Rattle.rtl_ir.specs.Outputs.{drives_pin, is_output}
use Rattle.rtl_ir.specs.Parameters.{given_params, signal_at}
use Rattle.rtl_ir.specs.Ports.{is_port}
use Rattle.rtl_ir.specs.Signals.{has_bit, wire_bits, bits_of_wire, is_all_constant, constant_of, same_signal}
use Rattle.rtl_ir.specs.Types.{Ports, cell_type}

-- a constant is one of these strings
abbrev pub is_text : List (List ℕ) → Value → Bool
is_text texts (Chars text) = list_any (bytes_eq text) texts
is_text texts (Int n) = false
is_text texts (Bits bits signed) = false

-- the attribute `\fsm_encoding` is absent, `auto` or `one-hot`
abbrev pub may_recode : List Attribute → Bool
may_recode attributes =
    option_map_or (λ (a : Attribute). is_text (codes "auto" ∷ codes "one-hot" ∷ []) a.value)
    (find (λ (a : Attribute). bytes_eq a.name (codes "\\fsm_encoding")) attributes) true

-- a wire that is no port, is not kept, has 2 to 16 bits, and may be recoded
abbrev pub may_be_state : Wire → Bool
may_be_state w =
    not (is_port w.role) && (not (is_kept w.attributes) && (nat_le 2 w.width && (nat_le w.width 16 && may_recode w.attributes)))

-- the whole wire at a place
abbrev pub whole_wire : ℕ → Wire → List SigBit
whole_wire at w = map OnWire (bits_of_wire at w.width)

-- a signal at a pin of a cell
abbrev pub at_pin : Cell → PinName → List SigBit
at_pin c pin = signal_at c.pins (pin_text pin)

-- a cell of this kind is a `$dff` or an `$adff`
abbrev pub is_flop : Option CellKind → Bool
is_flop (Some (Cells.Storage Dff)) = true
is_flop (Some (Cells.Storage Adff)) = true
is_flop kind = false

-- a cell of this kind is an `$adff`
abbrev pub has_reset : Option CellKind → Bool
has_reset (Some (Cells.Storage Adff)) = true
has_reset kind = false

-- a cell of this kind is a `$mux` or a `$pmux`
abbrev pub is_fork : Option CellKind → Bool
is_fork (Some (Cells.Word Mux)) = true
is_fork (Some (Cells.Word Pmux)) = true
is_fork kind = false

-- a cell of this kind is an `$eq` or a `$ne`
abbrev pub is_compare : Option CellKind → Bool
is_compare (Some (Cells.Word (Equal Eq))) = true
is_compare (Some (Cells.Word (Equal Ne))) = true
is_compare kind = false

-- the place of the first cell that passes a test, from a place on
abbrev pub place_where : (Cell → Bool) → ℕ → List Cell → Option ℕ
place_where test at [] = None
place_where test at (c ∷ cells) = if test c then Some at else place_where test (at + 1) cells

-- a signal in parts of a width, so many at most
abbrev pub parts_of : ℕ → ℕ → List SigBit → List (List SigBit)
parts_of zero width signal = []
parts_of (suc n) width [] = []
parts_of (suc n) width (s ∷ signal) = take width (s ∷ signal) ∷ parts_of n width (drop width (s ∷ signal))

-- the values that a fork chooses from: A, and the parts of B
abbrev pub arms_of : Cell → List (List SigBit)
arms_of c = at_pin c A ∷ parts_of (length (at_pin c B)) (length (at_pin c A)) (at_pin c B)

-- all bits are unknown constants
abbrev pub is_unknown : List SigBit → Bool
is_unknown signal = is_all_constant signal && not (list_any (λ s. is_known (constant_of s)) signal)

-- all bits are known constants
abbrev pub is_state_constant : List SigBit → Bool
is_state_constant signal = is_all_constant signal && all_known (map constant_of signal)

-- a leaf of the tree: a whole known constant, a whole unknown constant, or the state
abbrev pub is_leaf : List SigBit → List SigBit → Bool
is_leaf state signal = is_state_constant signal || (is_unknown signal || same_signal state signal)

-- a tree: the places of its cells, and its leaves
pub record Tree : Type 0 where
  pub forks : List ℕ
  pub leaves : List (List SigBit)

-- two trees that may be there
abbrev pub both_trees : Option Tree → Option Tree → Option Tree
both_trees (Some a) (Some b) = Some (record { forks = a.forks ++ b.forks; leaves = a.leaves ++ b.leaves })
both_trees a b = None

-- trees that all have to be there
abbrev pub all_trees : List (Option Tree) → Option Tree
all_trees [] = Some (record { forks = []; leaves = [] })
all_trees (t ∷ trees) = both_trees t (all_trees trees)

-- a fork above a tree
abbrev pub above_tree : ℕ → Option Tree → Option Tree
above_tree fork tree = option_map (λ (t : Tree). record { forks = fork ∷ t.forks; leaves = t.leaves }) tree

-- the tree at a followed signal, so many levels deep: a leaf, or the whole Y of a fork whose arms, followed, are trees
abbrev pub tree_within : Module → List SigBit → ℕ → List SigBit → Option Tree
tree_within m state zero signal = None
tree_within m state (suc n) signal =
    if is_leaf state signal
    then Some (record { forks = []; leaves = signal ∷ [] })
    else option_and_then
    (λ at. option_and_then (λ (c : Cell). above_tree at (all_trees (map (λ arm. tree_within m state n (map (follow m.links) arm)) (arms_of c)))) (slice_get m.cells at))
    (place_where (λ (c : Cell). is_fork (cell_kind c) && same_signal (at_pin c Y) signal) 0 m.cells)

-- the tree of a flop's D, followed; a cell of it is not below itself, so there are no more levels than cells
abbrev pub tree_of : Module → List SigBit → Cell → Option Tree
tree_of m state flop = tree_within m state (length m.cells + 1) (map (follow m.links) (at_pin flop D))

-- a place is among these
abbrev pub has_place : List ℕ → ℕ → Bool
has_place places at = list_any (λ p. p == at) places

-- the places below a count that are among these, rising, each once
abbrev pub rising_places : ℕ → List ℕ → List ℕ
rising_places count places = filter (has_place places) (range_with_len 0 count)

-- the bits that a signal leads to
abbrev pub followed_bits : Module → List SigBit → List WireBit
followed_bits m signal = wire_bits (map (follow m.links) signal)

-- one of these bits is among those
abbrev pub meets_any : List WireBit → List WireBit → Bool
meets_any bits others = list_any (has_bit others) bits

-- an input pin of a cell, by its name
abbrev pub is_pin : PinName → Pin → Bool
is_pin name pin = bytes_eq pin.name (pin_text name)

-- the other operand of a compare is a known constant, the state is the whole of this one, and the two are not both signed
abbrev pub compares_with : Module → List SigBit → Cell → List SigBit → List SigBit → Bool
compares_with m state c operand other =
    same_signal (map (follow m.links) operand) state
    && (is_state_constant (map (follow m.links) other)
    && not (is_set (given_params c.params) ASigned && is_set (given_params c.params) BSigned))

-- a cell compares the state with a constant
abbrev pub compares : Module → List SigBit → Cell → Bool
compares m state c =
    is_compare (cell_kind c)
    && (compares_with m state c (at_pin c A) (at_pin c B) || compares_with m state c (at_pin c B) (at_pin c A))

-- the pins by which a cell may read the state or the tree: A and B of a fork, D of the flop
abbrev pub may_read : List ℕ → ℕ → ℕ → Pin → Bool
may_read forks flop at pin =
    (has_place forks at && (is_pin A pin || is_pin B pin)) || ((at == flop) && is_pin D pin)

-- a cell drives a pin
abbrev pub is_output_pin : Ports → Cell → Pin → Bool
is_output_pin ports c pin = drives_pin (cell_type ports c.kind_name) pin.name

-- a cell at a place reads these bits by no pin but those that may
abbrev pub reads_well : Ports → Module → List ℕ → ℕ → List WireBit → ℕ → Cell → Bool
reads_well ports m forks flop bits at c =
    list_all (λ (pin : Pin). is_output_pin ports c pin || (may_read forks flop at pin || not (meets_any (followed_bits m pin.sig) bits))) c.pins

-- the cells from a place on read the bits of the tree so, and the state so too, but where they compare it
abbrev pub cells_read_well : Ports → Module → List ℕ → ℕ → List SigBit → List WireBit → ℕ → List Cell → Bool
cells_read_well ports m forks flop state outputs at [] = true
cells_read_well ports m forks flop state outputs at (c ∷ cells) =
    (reads_well ports m forks flop outputs at c && (compares m state c || reads_well ports m forks flop (wire_bits state) at c))
    && cells_read_well ports m forks flop state outputs (at + 1) cells

-- no output port leads to these bits
abbrev pub ports_read_well : Module → List WireBit → ℕ → List Wire → Bool
ports_read_well m bits at [] = true
ports_read_well m bits at (w ∷ wires) =
    not (is_output w.role && meets_any (followed_bits m (whole_wire at w)) bits) && ports_read_well m bits (at + 1) wires

-- the cells at these places
abbrev pub cells_at_places : List Cell → List ℕ → List Cell
cells_at_places cells [] = []
cells_at_places cells (at ∷ places) = option_map_or (λ (c : Cell). c ∷ []) (slice_get cells at) [] ++ cells_at_places cells places

-- the bits of the outputs of a tree
abbrev pub tree_outputs : Module → List ℕ → List WireBit
tree_outputs m forks = flat_map (λ (c : Cell). wire_bits (at_pin c Y)) (cells_at_places m.cells forks)

-- known bits before others of a greater number; those of one number once
abbrev pub place_state : List Bit → List (List Bit) → List (List Bit)
place_state s [] = s ∷ []
place_state s (t ∷ states) =
    if number_of s == number_of t then t ∷ states
    else if nat_lt (number_of s) (number_of t) then s ∷ t ∷ states
    else t ∷ place_state s states

-- states rising as numbers, each once
abbrev pub in_state_order : List (List Bit) → List (List Bit)
in_state_order [] = []
in_state_order (s ∷ states) = place_state s (in_state_order states)

-- the known leaves as bits
abbrev pub known_leaves : List (List SigBit) → List (List Bit)
known_leaves leaves = map (map constant_of) (filter is_state_constant leaves)

-- none or one
abbrev pub option_state : Option (List Bit) → List (List Bit)
option_state None = []
option_state (Some s) = s ∷ []

-- the start values of the bits of a signal
abbrev pub start_bits : Module → List SigBit → List Bit
start_bits m signal = map (start_of m.wires m.processes) signal

-- the start value of the state, where it is known
abbrev pub known_start : List Bit → Option (List Bit)
known_start bits = if all_known bits then Some bits else None

-- the reset value of a flop that has a reset
abbrev pub reset_value : Cell → Option (List Bit)
reset_value flop = if has_reset (cell_kind flop) then Some (value_in (given_params flop.params) ArstValue) else None

-- a pin of the tree stays within 4,096 bits with a code of so many bits
abbrev pub fits_code : ℕ → Cell → Bool
fits_code states c = nat_le (length (parts_of (length (at_pin c B)) (length (at_pin c A)) (at_pin c B)) * states) 4096

-- the machine of a state wire, of its flop and its tree
abbrev pub made_machine : Module → ℕ → List SigBit → ℕ → Cell → Tree → Machine
made_machine m wire state flop c tree = record {
  wire = wire;
  flop = flop;
  muxes = rising_places (length m.cells) tree.forks;
  compares = filter (λ at. list_any (compares m state) (cells_at_places m.cells (at ∷ []))) (range_with_len 0 (length m.cells));
  states = in_state_order (known_leaves tree.leaves ++ (option_state (reset_value c) ++ option_state (known_start (start_bits m state))));
  reset = reset_value c;
  start = known_start (start_bits m state);
}

-- what is left to ask of a machine: who reads the state and the tree, known values, 2 to 64 states, and the widths with the code
abbrev pub is_machine : Ports → Module → List SigBit → Cell → Machine → Bool
is_machine ports m state c machine =
    cells_read_well ports m machine.muxes machine.flop state (tree_outputs m machine.muxes) 0 m.cells
    && (ports_read_well m (wire_bits state ++ tree_outputs m machine.muxes) 0 m.wires
    && (list_all all_known (option_state machine.reset)
    && ((all_known (start_bits m state) || not (list_any is_known (start_bits m state)))
    && (nat_le 2 (length machine.states)
    && (nat_le (length machine.states) 64
    && list_all (fits_code (length machine.states)) (cells_at_places m.cells machine.muxes))))))

-- a machine, where it passes
abbrev pub if_machine : Ports → Module → List SigBit → Cell → Machine → Option Machine
if_machine ports m state c machine = if is_machine ports m state c machine then Some machine else None

-- the machine of a wire that may be a state, with the flop whose whole Q it is
abbrev pub machine_by : Ports → Module → ℕ → List SigBit → Option ℕ → Option Machine
machine_by ports m wire state None = None
machine_by ports m wire state (Some flop) =
    option_and_then
    (λ (c : Cell). option_and_then (λ (t : Tree). if_machine ports m state c (made_machine m wire state flop c t)) (tree_of m state c))
    (slice_get m.cells flop)

-- the machine of the wire at a place, where it is a state wire
abbrev pub machine_of : Ports → Module → ℕ → Option Machine
machine_of ports m at =
    option_and_then
    (λ (w : Wire). if may_be_state w then machine_by ports m at (whole_wire at w) (place_where (λ (c : Cell). is_flop (cell_kind c) && same_signal (at_pin c Q) (whole_wire at w)) 0 m.cells) else None)
    (slice_get m.wires at)
