-- What is asked of a module whose machine gets its code, part by part.
use Rattle.std.specs.Prelude.{◌≡◌, ◌⊎◌, ◌<◌, ◌≤◌, ℕ, false, List, [], ◌∷◌, ◌++◌, flat_map, length, map, Some, None, slice_get, slice_index_or}
use Rattle.cell_types.specs.Given.{value_in}
use Rattle.cell_types.specs.Levels.{level_in}
use Rattle.cell_types.specs.declared.kind.CellKind.TheVariants.{Storage, Word}
use Rattle.cell_types.specs.declared.param_name.ParamName.TheVariants.{ArstPolarity, ArstValue, ClkPolarity}
use Rattle.cell_types.specs.declared.pin_name.PinName.TheVariants.{A, Arst, B, Clk, D, Q, S, Y}
use Rattle.cell_types.specs.declared.storage.StorageKind.TheVariants.{Adff, Dff}
use Rattle.cell_types.specs.declared.word.EqualKind.TheVariants.{Eq, Ne}
use Rattle.cell_types.specs.declared.word.WordKind.TheVariants.{Equal, Mux, Pmux}
use Rattle.cell_word.specs.Values.{both_signed}
use Rattle.rtl_bits.specs.Knowledge.{AreKnown, Below}
use Rattle.rtl_bits.specs.Numbers.{number_of}
use Rattle.rtl_bits.specs.declared.bit.Bit.{Bit}
use Rattle.rtl_bits.specs.declared.bit.Bit.TheVariants.{S0, S1, X}
use Rattle.rtl_sig.specs.declared.sig.SigBit.{SigBit}
use Rattle.rtl_sig.specs.declared.sig.SigBit.TheVariants.{Fixed, Wire as OnWire}
use Rattle.rtl_sig.specs.declared.sig.WireBit.{WireBit}
use Rattle.rtl_ir.specs.Build.{whole}
use Rattle.rtl_ir.specs.Flat.Cell.{Ports, cell_kind, cell_rows, cell_shape, instances}
use Rattle.rtl_ir.specs.Flat.Driver.{Driven}
use Rattle.rtl_ir.specs.Flat.Memory.{memories_rows}
use Rattle.rtl_ir.specs.Flat.Place.{OfWire, Path, Place}
use Rattle.rtl_ir.specs.Flat.Reads.{reads}
use Rattle.rtl_ir.specs.Flat.Start.{start_of}
use Rattle.rtl_ir.specs.Ports.{ports_of}
use Rattle.rtl_ir.specs.declared.ports.PortLine.{PortLine}
use Rattle.rtl_ir.specs.declared.module.Module.{Module}
use Rattle.rtl_ir.specs.Parameters.{given_params}
use Rattle.rtl_ir.specs.declared.cell.Cell.{Cell}
use Rattle.rtl_ir.specs.declared.module.Link.{Link}
use Rattle.rtl_ir.specs.declared.wire.Wire.{Wire}
use Rattle.rtl_ir.specs.Follow.{all_joins, back, follow}
use Rattle.rtl_ir.specs.declared.follow.Join.{Join}
use Rattle.net_model.specs.Fsm.Code.{Output, code_of, inverse_cell, or_zero, state_bit, with_zeros}
use Rattle.net_model.specs.Fsm.Find.{at_pin, parts_of}
use Rattle.net_model.specs.Lists.{Distinct, In}
use Rattle.net_model.specs.Within.{AreInner, Each}
use Rattle.fsm_laws.specs.Arms.{StandsFor}
use Rattle.fsm_laws.specs.Carried.{carrier_of, spot_carrier}
use Rattle.fsm_laws.specs.Codes.{OneHot, apart}
use Rattle.fsm_laws.specs.Flops.{adff_like, dff_like}
use Rattle.fsm_laws.specs.Forks.{mux_like, pmux_like}
use Rattle.fsm_laws.specs.States.{AreStates}
use Rattle.fsm_laws.specs.Trees.{IsCodeTree}

-- a bit is a constant, or of one of these wires
abbrev pub IsOf : List Wire → SigBit → Type 0
IsOf wires (Fixed c) = Unit {0}
IsOf wires (OnWire b) = b.wire < length wires

-- a bit that carries nothing of the state
pub record IsFree (links : List Link) (wires : List Wire) (outputs : List Output) (s : SigBit) : Type 0 where
  pub own : IsOf wires s
  pub none : carrier_of outputs (follow links s) ≡ None

-- each bit of an output carries that bit of the state in this code
abbrev pub IsOutput : ℕ → List Link → List Wire → List Output → List SigBit → List SigBit → Type 0
IsOutput width links wires outputs ys code =
    (k : ℕ) (q : WireBit) → slice_get ys k ≡ Some (OnWire q) →
    (k < width) × ((q.wire < length wires) × (carrier_of outputs (follow links (OnWire q)) ≡ Some (record { code = code; bit = k })))

-- a signal leads to the bits of a constant
abbrev pub LeadsTo : List Link → List SigBit → List Bit → Type 0
LeadsTo links [] [] = Unit {0}
LeadsTo links (s ∷ signal) (c ∷ bits) = (follow links s ≡ Fixed c) × LeadsTo links signal bits
LeadsTo links [] (c ∷ bits) = ⊥
LeadsTo links (s ∷ signal) [] = ⊥

-- the parts of a module with these connections and wires, in which the state has this width and these states; what carries it, the
-- wire of the code, and the cells and further connections that there are with the code
module _ (width : ℕ) (states : List (List Bit)) (links : List Link) (wires : List Wire) (outputs : List Output) (code_wire : ℕ) (cells : List Cell) (more : List Link) (start : SigBit → Bit) where
  abbrev code : List SigBit
  code = whole code_wire (length states)

  -- a multiplexer of the tree
  pub record MuxPart (c : Cell) : Type 0 where
    pub a : List SigBit
    pub b : List SigBit
    pub wire : ℕ
    pub kind : cell_kind c ≡ Some (Word Mux)
    pub made : In (mux_like c (length states) a b (at_pin c S) (whole wire (length states))) cells
    pub own_a : Each (IsOf wires) (at_pin c A)
    pub own_b : Each (IsOf wires) (at_pin c B)
    pub free : Each (IsFree links wires outputs) (at_pin c S)
    pub stands_a : StandsFor width states links outputs (at_pin c A) a
    pub stands_b : StandsFor width states links outputs (at_pin c B) b
    pub output : IsOutput width links wires outputs (at_pin c Y) (whole wire (length states))

  -- one of several parts
  pub record PmuxPart (c : Cell) : Type 0 where
    pub a : List SigBit
    pub parts : List (List SigBit)
    pub selects : ℕ
    pub wire : ℕ
    pub kind : cell_kind c ≡ Some (Word Pmux)
    pub made : In (pmux_like c (length states) selects a (flat_map (λ (s : List SigBit). s) parts) (at_pin c S) (whole wire (length states))) cells
    pub own_a : Each (IsOf wires) (at_pin c A)
    pub own_b : Each (IsOf wires) (at_pin c B)
    pub free : Each (IsFree links wires outputs) (at_pin c S)
    pub some : 0 < length (at_pin c A)
    pub inside : width ≤ length (at_pin c A)
    pub wide : (cell_shape (Word Pmux) c.params).widths.y ≡ length (at_pin c A)
    pub long : (j : ℕ) (part : List SigBit) → slice_get parts j ≡ Some part → length part ≡ length states
    pub stands_a : StandsFor width states links outputs (at_pin c A) a
    pub stands :
        (j : ℕ) (old : List SigBit) → slice_get (parts_of (length (at_pin c B)) (length (at_pin c A)) (at_pin c B)) j ≡ Some old →
        (new : List SigBit) × ((slice_get parts j ≡ Some new) × (Each (IsOf wires) old × StandsFor width states links outputs old new))
    pub output : IsOutput width links wires outputs (at_pin c Y) (whole wire (length states))

  -- the flip-flop without a reset
  pub record IsPlain (c : Cell) (d : List SigBit) : Type 0 where
    pub kind : cell_kind c ≡ Some (Storage Dff)
    pub made : In (dff_like c (length states) (level_in (given_params c.params) ClkPolarity) (at_pin c Clk) d code) cells

  -- with one that gives a state
  pub record HasReset (c : Cell) (d : List SigBit) : Type 0 where
    pub kind : cell_kind c ≡ Some (Storage Adff)
    pub free : Each (IsFree links wires outputs) (at_pin c Arst)
    pub known : AreKnown (value_in (given_params c.params) ArstValue)
    pub wide : length (value_in (given_params c.params) ArstValue) ≡ width
    pub place : ℕ
    pub state : List Bit
    pub there : slice_get states place ≡ Some state
    pub number : number_of state ≡ number_of (value_in (given_params c.params) ArstValue)
    pub made :
        In (adff_like c (length states) (level_in (given_params c.params) ClkPolarity) (level_in (given_params c.params) ArstPolarity)
        (code_of states (number_of (value_in (given_params c.params) ArstValue))) (at_pin c Clk) (at_pin c Arst) d code) cells

  -- the flip-flop
  pub record FlopPart (c : Cell) : Type 0 where
    pub d : List SigBit
    pub kind : IsPlain c d ⊎ HasReset c d
    pub own_d : Each (IsOf wires) (at_pin c D)
    pub free : Each (IsFree links wires outputs) (at_pin c Clk)
    pub stands : StandsFor width states links outputs (at_pin c D) d
    pub tree : IsCodeTree states code cells d
    pub output : IsOutput width links wires outputs (at_pin c Q) code
    pub begins :
        (k : ℕ) (q : WireBit) → slice_get (at_pin c Q) k ≡ Some (OnWire q) → (i : ℕ) (r : List Bit) → slice_get states i ≡ Some r →
        Below (apart (start (OnWire q)) (slice_index_or r k X)) (start (OnWire (record { wire = code_wire; at = i })))
    pub hot : OneHot (length states) (λ i. start (OnWire (record { wire = code_wire; at = i })))

  -- the operands of a compare: the state, and a constant
  pub record AreCompared (c : Cell) (state other : List SigBit) (bits : List Bit) : Type 0 where
    pub sides : ((at_pin c A ≡ state) × (at_pin c B ≡ other)) ⊎ ((at_pin c A ≡ other) × (at_pin c B ≡ state))
    pub long : length state ≡ width
    pub own : Each (IsOf wires) state
    pub own_other : Each (IsOf wires) other
    pub stands : StandsFor width states links outputs state code
    pub leads : LeadsTo links other bits
    pub known : AreKnown bits

  -- a signal is connected to another as wide
  pub record IsGiven (ys right : List SigBit) : Type 0 where
    pub there : In (record { left = ys; right = right }) more
    pub wide : length ys ≡ length right

  -- what stands for an `$eq`: the bit of the state that the constant is, and 0 where it is none
  pub record EqPart (c : Cell) (bits : List Bit) : Type 0 where
    pub kind : cell_kind c ≡ Some (Word (Equal Eq))
    pub unsigned : both_signed (cell_shape (Word (Equal Eq)) c.params) ≡ false
    pub given : IsGiven (at_pin c Y) (with_zeros (or_zero (state_bit states code (number_of bits))) (at_pin c Y))

  -- for a `$ne` with a constant that is no state: 1
  pub record NeNonePart (c : Cell) (bits : List Bit) : Type 0 where
    pub kind : cell_kind c ≡ Some (Word (Equal Ne))
    pub unsigned : both_signed (cell_shape (Word (Equal Ne)) c.params) ≡ false
    pub none : state_bit states code (number_of bits) ≡ None
    pub given : IsGiven (at_pin c Y) (with_zeros (Fixed S1) (at_pin c Y))

  -- for one with a state: the inverse of its bit
  pub record NePart (c : Cell) (bits : List Bit) : Type 0 where
    pub kind : cell_kind c ≡ Some (Word (Equal Ne))
    pub unsigned : both_signed (cell_shape (Word (Equal Ne)) c.params) ≡ false
    pub bit : SigBit
    pub is : state_bit states code (number_of bits) ≡ Some bit
    pub lowest : SigBit
    pub rest : List SigBit
    pub output : at_pin c Y ≡ lowest ∷ rest
    pub made : In (inverse_cell c bit lowest) cells
    pub given : (k : ℕ) (q : WireBit) → slice_get rest k ≡ Some (OnWire q) → IsGiven rest (map (λ s. Fixed S0) rest)

  -- a cell that compares the state
  pub record ComparePart (c : Cell) : Type 0 where
    pub state : List SigBit
    pub other : List SigBit
    pub bits : List Bit
    pub compared : AreCompared c state other bits
    pub kind : EqPart c bits ⊎ (NeNonePart c bits ⊎ NePart c bits)
    pub free : (k : ℕ) (q : WireBit) → slice_get (at_pin c Y) k ≡ Some (OnWire q) → IsFree links wires outputs (OnWire q)

-- a row names no bit that carries one of the state: neither the bit that it drives, nor one that it reads
pub record IsFreeRow (links : List Link) (wires : List Wire) (outputs : List Output) (p : Path) (x : Driven) : Type 0 where
  pub place : x.place.path ≡ p → spot_carrier links wires outputs x.place.spot ≡ None
  pub read : (q : Place) → In q (reads x.driver) → q.path ≡ p → spot_carrier links wires outputs q.spot ≡ None

-- what a cell of the module is: one of the tree, the flip-flop, one that compares, or another, which stays
pub data PartIs (width : ℕ) (states : List (List Bit)) (links : List Link) (wires fresh : List Wire) (outputs : List Output) (code_wire : ℕ) (cells : List Cell) (more : List Link) (start : SigBit → Bit) (over : Ports) (c : Cell) : Type 0 where
  IsMux : MuxPart width states links wires outputs code_wire cells more start c → PartIs width states links wires fresh outputs code_wire cells more start over c
  IsPmux : PmuxPart width states links wires outputs code_wire cells more start c → PartIs width states links wires fresh outputs code_wire cells more start over c
  IsFlop : FlopPart width states links wires outputs code_wire cells more start c → PartIs width states links wires fresh outputs code_wire cells more start over c
  IsCompare : ComparePart width states links wires outputs code_wire cells more start c → PartIs width states links wires fresh outputs code_wire cells more start over c
  Stays :
      In c cells → ((p : Path) (x : Driven) → In x (cell_rows start over p (wires ++ fresh) c (cell_kind c)) → IsFreeRow links wires outputs p x) →
      PartIs width states links wires fresh outputs code_wire cells more start over c

-- a module without processes whose machine gets its code: with these wires, cells in the place of its own, and further connections
pub record Recodes (n : Module) (fresh : List Wire) (cells : List Cell) (more : List Link) (width : ℕ) (states : List (List Bit)) (outputs : List Output) (code_wire : ℕ) (over : Ports) : Type 0 where
  pub named : Distinct (map (λ (w : Wire). w.name) n.wires)
  pub are : AreStates width states
  pub few : length states ≤ 65536
  pub inner : AreInner fresh
  -- a bit that a connection drives carries nothing by itself
  pub stop : (s r : SigBit) → back (all_joins n.links) s ≡ Some r → carrier_of outputs s ≡ None
  -- each bit is driven by one connection at most, and connections are of the module's wires
  pub links : (j : Join) → In j (all_joins n.links) → (back (all_joins n.links) (OnWire j.bit) ≡ Some j.source) × ((j.bit.wire < length n.wires) × IsOf n.wires j.source)
  -- a bit that a port has carries nothing
  pub ports :
      (line : PortLine) → In line (ports_of n.wires) → (k : ℕ) → k < line.width →
      spot_carrier n.links n.wires outputs (OfWire line.name k) ≡ None
  pub children : instances n.cells ≡ instances cells
  pub parts : (c : Cell) → In c n.cells → PartIs width states n.links n.wires fresh outputs code_wire cells more (start_of (n.wires ++ fresh) []) over c
  pub flop : Cell
  pub flop_is : FlopPart width states n.links n.wires outputs code_wire cells more (start_of (n.wires ++ fresh) []) flop
  pub memories : (p : Path) → memories_rows p (n.wires ++ fresh) cells [] n.memories ≡ memories_rows p (n.wires ++ fresh) n.cells [] n.memories
  pub memories_free : (p : Path) (x : Driven) → In x (memories_rows p (n.wires ++ fresh) n.cells [] n.memories) → IsFreeRow n.links n.wires outputs p x
