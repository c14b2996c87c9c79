-- The rules make a gate of a gate.
use Rattle.std.proofs.Common.{◌≡◌, ℕ, suc, zero, Bool, true, false, List, [], ◌∷◌, length, Option, Some, None, if◌then◌else◌, ◌⊎◌, inl, inr, refl, sym, subst}
use Rattle.std.specs.Prelude.{◌&&◌, ◌==◌, ◌*◌, ◌++◌}
use Rattle.std.specs.List.{list_all}
use Rattle.std.specs.Option.{option_map, option_map_or}
use Rattle.cell_types.specs.declared.gate.GateKind.{GateKind}
use Rattle.cell_types.specs.declared.gate.GateKind.TheVariants as GateOf
use Rattle.cell_types.specs.declared.kind.CellKind.{CellKind}
use Rattle.cell_types.specs.declared.kind.CellKind.TheVariants.{Gate}
use Rattle.cell_types.specs.declared.shape.Shape.{Shape}
use Rattle.cell_types.specs.declared.word.ArithKind.TheVariants as Ariths
use Rattle.cell_types.specs.declared.word.BitwiseKind.TheVariants as Bits
use Rattle.cell_types.specs.declared.word.EqualKind.{EqualKind}
use Rattle.cell_types.specs.declared.word.FoldKind.{FoldKind}
use Rattle.cell_types.specs.declared.word.FoldKind.TheVariants as Folds
use Rattle.cell_types.specs.declared.word.UnaryKind.TheVariants as Unaries
use Rattle.cell_types.specs.declared.word.WordKind.{WordKind}
use Rattle.cell_types.specs.declared.word.WordKind.TheVariants as Word
use Rattle.cell_word.specs.Values.{both_signed}
use Rattle.rtl_bits.specs.declared.bit.Bit.TheVariants.{S0, S1}
use Rattle.rtl_sig.specs.declared.sig.SigBit.{SigBit}
use Rattle.rtl_sig.specs.declared.sig.SigBit.TheVariants.{Fixed}
use Rattle.expr_rules.specs.Change.{chooser, chooser_kind, first_some, fitted, inverter, inverter_kind, when}
use Rattle.expr_rules.specs.Operands.{counted_as}
use Rattle.expr_rules.specs.Rules.{change_of, first_of, result_as, result_by, result_of, result_of_gate, rules_in_order}
use Rattle.expr_rules.specs.Rules.Arith.{moved_up, power_of, quotient_by, times_small}
use Rattle.expr_rules.specs.Rules.Compare.{beside_bit, of_equals, one_bit_compare, passing, turning}
use Rattle.expr_rules.specs.Rules.Fold.{folded_bit}
use Rattle.expr_rules.specs.Rules.Logic.{beside_ones, beside_zeros}
use Rattle.expr_rules.specs.Rules.Mux.{arm_of}
use Rattle.expr_rules.specs.Rules.Parts.{number_in}
use Rattle.rtl_ir.specs.Signals.{same_signal}
use Rattle.expr_rules.specs.Signals.{filled, first_bit, is_bit, is_unknown_constant, is_zero, part_of}
use Rattle.expr_rules.specs.declared.change.Change.{Change}
use Rattle.expr_rules.specs.declared.change.Change.TheVariants.{Becomes, Gives}
use Rattle.expr_rules.specs.declared.operands.Operands.{Operands}
use Rattle.expr_rules.specs.declared.rules.Rule.{Rule}
use Rattle.expr_rules.specs.declared.rules.Rule.TheVariants as By

-- an inverter or a multiplexer of one bit
abbrev pub IsNewGate : CellKind → Type 0
IsNewGate kind = (kind ≡ Gate GateOf.Not) ⊎ (kind ≡ Gate GateOf.Mux)

-- a change that leaves no cell, or such a gate
abbrev pub LeavesGate : Change → Type 0
LeavesGate (Gives word) = Unit {0}
LeavesGate (Becomes new) = IsNewGate new.kind

abbrev pub IfLeavesGate : Option Change → Type 0
IfLeavesGate None = Unit {0}
IfLeavesGate (Some change) = LeavesGate change

when_left : (t : Bool) (change : Change) → LeavesGate change → IfLeavesGate (when t change)
when_left true change h = h
when_left false change h = tt

first_left : (x y : Option Change) → IfLeavesGate x → IfLeavesGate y → IfLeavesGate (first_some x y)
first_left None y h k = k
first_left (Some change) y h k = h

if_left : (t : Bool) (x y : Option Change) → IfLeavesGate x → IfLeavesGate y → IfLeavesGate (if t then x else y)
if_left true x y h k = h
if_left false x y h k = k

map_left : {A : Type 0} (f : A → Change) (x : Option A) → ((a : A) → LeavesGate (f a)) → IfLeavesGate (option_map f x)
map_left f None h = tt
map_left f (Some a) h = h a

module _ (shape : Shape) (o : Operands) (inverts : IsNewGate (inverter_kind shape.kind)) (chooses : IsNewGate (chooser_kind shape.kind)) where
  given : (t : Bool) (word : List SigBit) → IfLeavesGate (when t (Gives word))
  given t word = when_left t (Gives word) tt

  inverted : (t : Bool) (a : List SigBit) → IfLeavesGate (when t (inverter shape.kind a))
  inverted t a = when_left t (inverter shape.kind a) inverts

  arm : (bit : SigBit) → IfLeavesGate (arm_of bit o.a o.b)
  arm (Fixed S0) = tt
  arm (Fixed S1) = tt
  arm bit = tt

  times : (factor : List SigBit) (power : Option ℕ) (other : List SigBit) → IfLeavesGate (times_small shape factor power other)
  times factor (Some zero) other = tt
  times factor (Some (suc n)) other = given (list_all is_zero factor) _
  times factor None other = given (list_all is_zero factor) _

  beside : (kind : EqualKind) (constant other : List SigBit) → IfLeavesGate (beside_bit kind shape.kind shape.widths.y constant other)
  beside kind constant other =
      if_left (is_bit (passing kind) constant) (Some (Gives other)) _ tt (inverted (is_bit (turning kind) constant && (shape.widths.y == 1)) other)

  one_compare : (kind : EqualKind) → IfLeavesGate (one_bit_compare kind shape.kind shape o)
  one_compare kind =
      if_left ((length o.left == 1) && (length o.right == 1)) _ None
      (first_left (beside_bit kind shape.kind shape.widths.y o.right o.left) (beside_bit kind shape.kind shape.widths.y o.left o.right) (beside kind o.right o.left) (beside kind o.left o.right)) tt

  folded : (kind : FoldKind) → IfLeavesGate (folded_bit kind shape.kind shape o)
  folded Folds.Xnor = inverted ((length o.a == 1) && (shape.widths.y == 1)) o.a
  folded Folds.LogicNot = inverted ((length o.a == 1) && (shape.widths.y == 1)) o.a
  folded kind = given (length o.a == 1) o.a

  inner_not : (x : Option (List SigBit)) → IfLeavesGate (option_map_or (λ word. when ((length o.a == shape.widths.y) && (length word == shape.widths.y)) (Gives word)) x None)
  inner_not None = tt
  inner_not (Some word) = given ((length o.a == shape.widths.y) && (length word == shape.widths.y)) word

  by_left : (rule : Rule) (kind : WordKind) → IfLeavesGate (result_by rule kind shape o)
  by_left By.ConstantInputs kind = given _ _
  by_left By.KnownValue kind = given _ _
  by_left By.Buffer (Word.Unary Unaries.Pos) = tt
  by_left By.Buffer Word.Buf = tt
  by_left By.Buffer kind = tt
  by_left By.Wiring Word.Slice = tt
  by_left By.Wiring Word.Concat = tt
  by_left By.Wiring kind = tt
  by_left By.KnownSelect Word.Mux = arm (first_bit o.s)
  by_left By.KnownSelect kind = tt
  by_left By.EqualArms Word.Mux = given (same_signal o.a o.b) o.a
  by_left By.EqualArms kind = tt
  by_left By.UnknownArm Word.Mux =
      first_left (when (list_all is_unknown_constant o.a) (Gives o.b)) (when (list_all is_unknown_constant o.b) (Gives o.a)) (given (list_all is_unknown_constant o.a) o.b) (given (list_all is_unknown_constant o.b) o.a)
  by_left By.UnknownArm kind = tt
  by_left By.SelectItself Word.Mux = given _ o.s
  by_left By.SelectItself kind = tt
  by_left By.SelectInverse Word.Mux = inverted _ o.s
  by_left By.SelectInverse kind = tt
  by_left By.InvertedSelect Word.Mux = map_left (λ s. chooser shape.kind o.b o.a (s ∷ [])) o.inverted (λ s. chooses)
  by_left By.InvertedSelect kind = tt
  by_left By.AndWithOnes (Word.Bitwise Bits.And) = map_left Gives (beside_ones o) (λ word. tt)
  by_left By.AndWithOnes kind = tt
  by_left By.OrWithZeros (Word.Bitwise Bits.Or) = map_left Gives (beside_zeros o) (λ word. tt)
  by_left By.OrWithZeros (Word.Bitwise Bits.Xor) = map_left Gives (beside_zeros o) (λ word. tt)
  by_left By.OrWithZeros kind = tt
  by_left By.EqualOperands (Word.Bitwise Bits.And) = given _ o.left
  by_left By.EqualOperands (Word.Bitwise Bits.Or) = given _ o.left
  by_left By.EqualOperands kind = tt
  by_left By.EqualParity (Word.Bitwise Bits.Xor) = given _ _
  by_left By.EqualParity (Word.Bitwise Bits.Xnor) = given _ _
  by_left By.EqualParity kind = tt
  by_left By.XorWithOnes (Word.Bitwise Bits.Xor) = map_left (inverter shape.kind) (beside_ones o) (λ word. inverts)
  by_left By.XorWithOnes kind = tt
  by_left By.DoubleNot (Word.Unary Unaries.Not) = inner_not o.inner
  by_left By.DoubleNot kind = tt
  by_left By.AddZero (Word.Arith Ariths.Add) = map_left Gives (beside_zeros o) (λ word. tt)
  by_left By.AddZero (Word.Arith Ariths.Sub) = given _ o.left
  by_left By.AddZero kind = tt
  by_left By.EqualDifference (Word.Arith Ariths.Sub) = given _ _
  by_left By.EqualDifference kind = tt
  by_left By.MulByBit (Word.Arith Ariths.Mul) =
      first_left (times_small shape o.right (power_of o.right) o.left) (times_small shape o.left (power_of o.left) o.right) (times o.right (power_of o.right) o.left) (times o.left (power_of o.left) o.right)
  by_left By.MulByBit kind = tt
  by_left By.MulByPower (Word.Arith Ariths.Mul) =
      first_left (option_map (λ places. Gives (moved_up places o.left)) (power_of o.right)) (option_map (λ places. Gives (moved_up places o.right)) (power_of o.left)) (map_left (λ places. Gives (moved_up places o.left)) (power_of o.right) (λ places. tt)) (map_left (λ places. Gives (moved_up places o.right)) (power_of o.left) (λ places. tt))
  by_left By.MulByPower kind = tt
  by_left By.DivideByPower (Word.Division kind) =
      if_left (both_signed shape) None _ tt (map_left (λ places. Gives (quotient_by kind o.left places)) (power_of o.right) (λ places. tt))
  by_left By.DivideByPower kind = tt
  by_left By.KnownShift (Word.Shift kind) = given _ _
  by_left By.KnownShift kind = tt
  by_left By.Compare (Word.Equal kind) =
      if_left (same_signal o.left o.right) (Some (Gives (Fixed (passing kind) ∷ []))) _ tt (one_compare kind)
  by_left By.Compare (Word.Order kind) = given (same_signal o.left o.right) (Fixed (of_equals kind) ∷ [])
  by_left By.Compare kind = tt
  by_left By.OneBit (Word.Fold kind) = folded kind
  by_left By.OneBit Word.Pmux = when_left (length o.s == 1) (chooser shape.kind o.a o.b o.s) chooses
  by_left By.OneBit kind = tt
  by_left By.KnownSelects Word.Bwmux = given _ _
  by_left By.KnownSelects kind = tt
  by_left By.EqualWords Word.Bwmux = given (same_signal o.a o.b) o.a
  by_left By.EqualWords kind = tt
  by_left By.KnownPart Word.Bmux = map_left (λ part. Gives (part_of o.a (part * shape.widths.y) shape.widths.y)) (number_in o.s) (λ part. tt)
  by_left By.KnownPart kind = tt
  by_left By.KnownPlace Word.Demux = map_left (λ part. Gives (filled (part * length o.a) S0 ++ o.a)) (number_in o.s) (λ part. tt)
  by_left By.KnownPlace kind = tt

  gate_left : (rule : Rule) → IfLeavesGate (result_of_gate rule shape o)
  gate_left By.ConstantInputs = given _ _
  gate_left By.KnownValue = given _ _
  gate_left rule = tt

  as_left : (counted : Option WordKind) (rule : Rule) → IfLeavesGate (result_as counted rule shape o)
  as_left (Some kind) rule = by_left rule kind
  as_left None rule = gate_left rule

  first_of_left : (rules : List Rule) → IfLeavesGate (first_of rules shape o)
  first_of_left [] = tt
  first_of_left (rule ∷ rules) =
      first_left (result_of rule shape o) (first_of rules shape o) (as_left (counted_as shape.kind) rule) (first_of_left rules)

  fitted_left : (x : Option Change) → IfLeavesGate x → IfLeavesGate (option_map (fitted shape.widths.y) x)
  fitted_left None h = tt
  fitted_left (Some (Gives word)) h = tt
  fitted_left (Some (Becomes new)) h = h

  left_by : IfLeavesGate (change_of shape o)
  left_by = fitted_left (first_of rules_in_order shape o) (first_of_left rules_in_order)

-- whatever the operands of a gate are
pub change_left : (kind : GateKind) (shape : Shape) (o : Operands) → shape.kind ≡ Gate kind → IfLeavesGate (change_of shape o)
change_left kind shape o own =
    left_by shape o (subst (λ k. IsNewGate (inverter_kind k)) (sym own) (inl refl)) (subst (λ k. IsNewGate (chooser_kind k)) (sym own) (inr refl))
