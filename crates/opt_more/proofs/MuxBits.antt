-- What multiplexers give, bit by bit.
use Rattle.std.proofs.Common.{◌≡◌, ℕ, zero, suc, ◌<◌, Bool, true, false, List, [], ◌∷◌, Option, Some, refl, sym, subst, arith}
use Rattle.std.specs.Prelude.{if◌then◌else◌, slice_index_or}
use Rattle.cell_types.specs.declared.gate.GateKind.TheVariants as gate
use Rattle.cell_types.specs.declared.kind.CellKind.{CellKind}
use Rattle.cell_types.specs.declared.kind.CellKind.TheVariants.{Word, Gate}
use Rattle.cell_types.specs.declared.pin_name.PinName.{PinName}
use Rattle.cell_types.specs.declared.pin_name.PinName.TheVariants.{A, B}
use Rattle.cell_types.specs.declared.word.WordKind.TheVariants.{Mux}
use Rattle.rtl_bits.proofs.Orders.{Below_refl, Below_trans}
use Rattle.rtl_bits.specs.Knowledge.{Below}
use Rattle.rtl_bits.specs.Tables.{merge_of, mux_of, seen_of}
use Rattle.rtl_bits.specs.declared.bit.Bit.{Bit}
use Rattle.rtl_bits.specs.declared.bit.Bit.TheVariants.{S0, S1, X, Z, M, Dash}
use Rattle.rtl_ir.specs.Attributes.{is_kept}
use Rattle.rtl_ir.specs.Flat.Cell.{cell_kind, cell_shape}
use Rattle.rtl_ir.specs.declared.cell.Cell.{Cell}
use Rattle.net_model.specs.Value.{worked_of}
use Rattle.expr_rules.proofs.Reading.{word_at}
use Rattle.opt_more.specs.Muxtree.{is_mux, is_mux_kind}

-- a kind is a multiplexer
pub data IsMuxKind : CellKind → Type 0 where
  OfWords : IsMuxKind (Word Mux)
  OfBits : IsMuxKind (Gate gate.Mux)

-- a cell is one
pub record IsMuxCell (c : Cell) : Type 0 where
  pub own : CellKind
  pub kind : cell_kind c ≡ Some own
  pub mux : IsMuxKind own

mux_kind : (c : Cell) (o : Option CellKind) → cell_kind c ≡ o → is_mux_kind o ≡ true → IsMuxCell c
mux_kind c (Some (Word Mux)) k e = record { own = Word Mux; kind = k; mux = OfWords }
mux_kind c (Some (Gate gate.Mux)) k e = record { own = Gate gate.Mux; kind = k; mux = OfBits }
mux_kind c o k e = absurd (cc)

pub mux_cell : (c : Cell) → is_mux c ≡ true → IsMuxCell c
mux_cell c e = by (is_kept c.attributes) e
  where
    by : (t : Bool) → (if t then false else is_mux_kind (cell_kind c)) ≡ true → IsMuxCell c
    by true f = absurd (cc)
    by false f = mux_kind c (cell_kind c) refl f

-- a bit of its value
pub mux_value : (own : CellKind) (c : Cell) (a b s : List Bit) (at : ℕ) → IsMuxKind own → at < (cell_shape own c.params).widths.y → worked_of own (cell_shape own c.params) (a ∷ b ∷ s ∷ []) at ≡ mux_of (slice_index_or a at X) (slice_index_or b at X) (slice_index_or s 0 X)
unfolding cell_shape
mux_value (Word Mux) c a b s at OfWords lt = word_at (λ k. mux_of (slice_index_or a k X) (slice_index_or b k X) (slice_index_or s 0 X)) (cell_shape (Word Mux) c.params).widths.y at lt
mux_value (Gate gate.Mux) c a b s zero OfBits lt = refl
mux_value (Gate gate.Mux) c a b s (suc at) OfBits lt = absurd (omega (arith, lt))
mux_value own c a b s at k lt = elim k [ ]

-- a choice with one arm in place of another is known no less
abbrev pub ArmBelow : PinName → (select low high : Bit) → Type 0
ArmBelow A s x y = (other : Bit) → Below (mux_of x other s) (mux_of y other s)
ArmBelow B s x y = (other : Bit) → Below (mux_of other x s) (mux_of other y s)
ArmBelow name s x y = Unit {0}

-- one of the two arms
pub data IsArm : PinName → Type 0 where
  First : IsArm A
  Second : IsArm B

pub arm_refl : (arm : PinName) → IsArm arm → (s x : Bit) → ArmBelow arm s x x
arm_refl A First s x = λ other. Below_refl (mux_of x other s)
arm_refl B Second s x = λ other. Below_refl (mux_of other x s)
arm_refl arm k s x = elim k [ ]

pub arm_trans : (arm : PinName) → IsArm arm → (s x y z : Bit) → ArmBelow arm s x y → ArmBelow arm s y z → ArmBelow arm s x z
arm_trans A First s x y z h k = λ other. Below_trans (mux_of x other s) (mux_of y other s) (mux_of z other s) (h other) (k other)
arm_trans B Second s x y z h k = λ other. Below_trans (mux_of other x s) (mux_of other y s) (mux_of other z s) (h other) (k other)
arm_trans arm i s x y z h k = elim i [ ]

seen_below : (x y : Bit) → Below x y → Below (seen_of x) (seen_of y)
seen_below S0 y h = subst (λ z. seen_of z ≡ S0) (sym h) refl
seen_below S1 y h = subst (λ z. seen_of z ≡ S1) (sym h) refl
seen_below X y h = tt
seen_below Z y h = tt
seen_below M y h = tt
seen_below Dash y h = tt

merge_known : (x o : Bit) (v : Bit) → Below x v → Below (merge_of x o) (merge_of v o)
merge_known S0 o v h = subst (λ z. Below (merge_of S0 o) (merge_of z o)) (sym h) (Below_refl (merge_of S0 o))
merge_known S1 o v h = subst (λ z. Below (merge_of S1 o) (merge_of z o)) (sym h) (Below_refl (merge_of S1 o))
merge_known X o v h = tt
merge_known Z o v h = tt
merge_known M o v h = tt
merge_known Dash o v h = tt

merge_right : (o x v : Bit) → Below x v → Below (merge_of o x) (merge_of o v)
merge_right S0 S0 v h = subst (λ z. merge_of S0 z ≡ S0) (sym h) refl
merge_right S1 S1 v h = subst (λ z. merge_of S1 z ≡ S1) (sym h) refl
merge_right S0 S1 v h = tt
merge_right S0 X v h = tt
merge_right S0 Z v h = tt
merge_right S0 M v h = tt
merge_right S0 Dash v h = tt
merge_right S1 S0 v h = tt
merge_right S1 X v h = tt
merge_right S1 Z v h = tt
merge_right S1 M v h = tt
merge_right S1 Dash v h = tt
merge_right X x v h = tt
merge_right Z x v h = tt
merge_right M x v h = tt
merge_right Dash x v h = tt

-- what two bits have in common is below each of them
pub merge_first : (x y : Bit) → Below (merge_of x y) x
merge_first S0 S0 = refl
merge_first S1 S1 = refl
merge_first S0 S1 = tt
merge_first S0 X = tt
merge_first S0 Z = tt
merge_first S0 M = tt
merge_first S0 Dash = tt
merge_first S1 S0 = tt
merge_first S1 X = tt
merge_first S1 Z = tt
merge_first S1 M = tt
merge_first S1 Dash = tt
merge_first X y = tt
merge_first Z y = tt
merge_first M y = tt
merge_first Dash y = tt

pub merge_second : (x y : Bit) → Below (merge_of x y) y
merge_second S0 S0 = refl
merge_second S1 S1 = refl
merge_second S0 S1 = tt
merge_second S0 X = tt
merge_second S0 Z = tt
merge_second S0 M = tt
merge_second S0 Dash = tt
merge_second S1 S0 = tt
merge_second S1 X = tt
merge_second S1 Z = tt
merge_second S1 M = tt
merge_second S1 Dash = tt
merge_second X y = tt
merge_second Z y = tt
merge_second M y = tt
merge_second Dash y = tt

pub seen_first : (x : Bit) → Below (seen_of x) x
seen_first S0 = refl
seen_first S1 = refl
seen_first X = tt
seen_first Z = tt
seen_first M = tt
seen_first Dash = tt

-- a choice that does not choose the other arm is below the arm
below_first : (a b s : Bit) → (s ≡ S1 → ⊥) → Below (mux_of a b s) a
below_first a b S0 not = seen_first a
below_first a b S1 not = absurd (not refl)
below_first a b X not = merge_first a b
below_first a b Z not = merge_first a b
below_first a b M not = merge_first a b
below_first a b Dash not = merge_first a b

below_second : (a b s : Bit) → (s ≡ S0 → ⊥) → Below (mux_of a b s) b
below_second a b S0 not = absurd (not refl)
below_second a b S1 not = seen_first b
below_second a b X not = merge_second a b
below_second a b Z not = merge_second a b
below_second a b M not = merge_second a b
below_second a b Dash not = merge_second a b

-- where the arm counts, it may be replaced by what is above it
first_by : (s x y : Bit) → ((s ≡ S1 → ⊥) → Below x y) → ArmBelow A s x y
first_by S0 x y h = λ other. seen_below x y (h (λ e. absurd (cc)))
first_by S1 x y h = λ other. Below_refl (seen_of other)
first_by X x y h = λ other. merge_known x other y (h (λ e. absurd (cc)))
first_by Z x y h = λ other. merge_known x other y (h (λ e. absurd (cc)))
first_by M x y h = λ other. merge_known x other y (h (λ e. absurd (cc)))
first_by Dash x y h = λ other. merge_known x other y (h (λ e. absurd (cc)))

second_by : (s x y : Bit) → ((s ≡ S0 → ⊥) → Below x y) → ArmBelow B s x y
second_by S0 x y h = λ other. Below_refl (seen_of other)
second_by S1 x y h = λ other. seen_below x y (h (λ e. absurd (cc)))
second_by X x y h = λ other. merge_right other x y (h (λ e. absurd (cc)))
second_by Z x y h = λ other. merge_right other x y (h (λ e. absurd (cc)))
second_by M x y h = λ other. merge_right other x y (h (λ e. absurd (cc)))
second_by Dash x y h = λ other. merge_right other x y (h (λ e. absurd (cc)))

-- the arm of a choice by another bit
abbrev pub arm_bit : PinName → Bit → Bit → Bit
arm_bit A a b = a
arm_bit B a b = b
arm_bit name a b = X

-- a word that a multiplexer gives may be replaced by what its arm is below, where the two selects are one as far as either is known
pub arm_passed : (arm : PinName) → IsArm arm → (s s' x a b y : Bit) → Below s' s → Below x (mux_of a b s') → Below (arm_bit arm a b) y → ArmBelow arm s x y
arm_passed A First s s' x a b y h k l =
    first_by s x y (λ not. Below_trans x (mux_of a b s') y k (Below_trans (mux_of a b s') a y (below_first a b s' (λ e. not (subst (λ z. Below z s) e h))) l))
arm_passed B Second s s' x a b y h k l =
    second_by s x y (λ not. Below_trans x (mux_of a b s') y k (Below_trans (mux_of a b s') b y (below_second a b s' (λ e. not (subst (λ z. Below z s) e h))) l))
arm_passed arm i s s' x a b y h k l = elim i [ ]
