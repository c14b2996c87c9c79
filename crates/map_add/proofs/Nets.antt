-- What the nets of sums and orders have, whatever is said of bits.
use Rattle.std.proofs.Common.{◌≡◌, ℕ, zero, suc, Bool, true, false, List, [], ◌∷◌, length, refl, sym, ◌∙◌, ap, subst}
use Rattle.std.specs.Prelude.{map}
use Rattle.cell_types.specs.declared.kind.CellKind.{CellKind}
use Rattle.cell_types.specs.declared.kind.CellKind.TheVariants.{Word}
use Rattle.cell_types.specs.declared.pin_name.PinName.TheVariants.{A, B}
use Rattle.cell_types.specs.declared.shape.Shape.{Shape}
use Rattle.cell_types.specs.declared.word.ArithKind.{ArithKind}
use Rattle.cell_types.specs.declared.word.ArithKind.TheVariants.{Add, Sub, Mul}
use Rattle.cell_types.specs.declared.word.OrderKind.{OrderKind}
use Rattle.cell_types.specs.declared.word.OrderKind.TheVariants.{Lt, Le, Ge, Gt}
use Rattle.cell_types.specs.declared.word.UnaryKind.TheVariants.{Neg}
use Rattle.cell_types.specs.declared.word.WordKind.TheVariants.{Unary, Arith, Order}
use Rattle.cell_word.specs.Values.{both_signed}
use Rattle.cell_word.specs.Words.{extended_at}
use Rattle.rtl_bits.specs.Tables.{not_of}
use Rattle.rtl_bits.specs.declared.bit.Bit.{Bit}
use Rattle.rtl_bits.specs.declared.bit.Bit.TheVariants.{S0, S1, X}
use Rattle.rtl_ir.specs.declared.cell.Cell.{Cell}
use Rattle.rtl_sig.specs.declared.sig.SigBit.{SigBit}
use Rattle.rtl_sig.specs.declared.sig.SigBit.TheVariants.{Fixed}
use Rattle.net_model.specs.Lists.{In}
use Rattle.map_laws.specs.Operand.{pin_signal}
use Rattle.gate_nets.specs.Operand.{greater_width, operand_of}
use Rattle.gate_nets.proofs.Operands.{goods_extended}
use Rattle.gate_nets.proofs.Standing.{length-extended}
use Rattle.gate_nets.proofs.Nets.{Goods, IsSum, Logic, Net, carry_at, net_inverse, net_negative, net_not, net_pure, net_sum, net_then, net_weaker, sum_bit}
use Rattle.map_add.specs.Expand.{value_of}
use Rattle.map_add.specs.Order.{less_of, not_less_of, order_of, ranked_of, top_inverted}
use Rattle.map_add.specs.Sum.{arith_of, difference_of}

-- the bits of a word of this width with its top bit inverted
abbrev pub flipped : ℕ → (ℕ → Bit) → ℕ → Bit
flipped zero u at = u at
flipped (suc zero) u at = not_of (u at)
flipped (suc (suc n)) u zero = u zero
flipped (suc (suc n)) u (suc at) = flipped (suc n) (λ i. u (suc i)) at

-- the bits by which numbers are compared
abbrev pub ranked : Bool → ℕ → (ℕ → Bit) → ℕ → Bit
ranked true n u = flipped n u
ranked false n u = u

-- the bits of a sum and of a difference
abbrev pub arith_at : ArithKind → (ℕ → Bit) → (ℕ → Bit) → ℕ → Bit
arith_at Add u v at = sum_bit (u at) (v at) (carry_at u v S0 at)
arith_at Sub u v at = sum_bit (u at) (not_of (v at)) (carry_at u (λ i. not_of (v i)) S1 at)
arith_at Mul u v at = X

-- the bit that says whether a word is less than another one
abbrev pub less_bit : Bool → ℕ → (ℕ → Bit) → (ℕ → Bit) → Bit
less_bit signed n u v = not_of (carry_at (ranked signed n u) (λ i. not_of (ranked signed n v i)) S1 n)

-- the bit of an order
abbrev pub order_bit : OrderKind → Bool → ℕ → (ℕ → Bit) → (ℕ → Bit) → Bit
order_bit Lt signed n u v = less_bit signed n u v
order_bit Le signed n u v = not_of (less_bit signed n v u)
order_bit Ge signed n u v = not_of (less_bit signed n u v)
order_bit Gt signed n u v = less_bit signed n v u

-- a product has no bits here
abbrev pub width_of : ArithKind → ℕ → ℕ
width_of Add n = n
width_of Sub n = n
width_of Mul n = 0

module _ (l : Logic) where
  pub net_difference : (u v : ℕ → Bit) (a b : List SigBit) {R : Type 0} → (R → Goods l u a) → (R → Goods l v b) → (R → length a ≡ length b)
      → Net l R (difference_of a b) (IsSum l u (λ i. not_of (v i)) S1 (length a))
  net_difference u v a b h k e =
      net_then l (net_inverse l v b k) λ inverse.
      net_sum l u (λ i. not_of (v i)) S1 a inverse (Fixed S1) (λ r. h r.0) (λ r. r.1.0) (λ r. l.constant S1) (λ r. e r.0 ∙ sym r.1.1)

  pub net_arith : (kind : ArithKind) (u v : ℕ → Bit) (a b : List SigBit) {R : Type 0} → (R → Goods l u a) → (R → Goods l v b) → (R → length a ≡ length b)
      → Net l R (arith_of kind a b) (λ bits. Goods l (arith_at kind u v) bits × (length bits ≡ width_of kind (length a)))
  net_arith Add u v a b h k e =
      net_then l (net_sum l u v S0 a b (Fixed S0) h k (λ r. l.constant S0) e) λ total.
      net_pure l (λ r. (r.1.0, r.1.2))
  net_arith Sub u v a b h k e =
      net_then l (net_difference u v a b h k e) λ total.
      net_pure l (λ r. (r.1.0, r.1.2))
  net_arith Mul u v a b h k e = net_pure l (λ r. (tt, refl))

  net_top : (u : ℕ → Bit) (bits : List SigBit) {R : Type 0} → (R → Goods l u bits) → Net l R (top_inverted bits) (λ ys. Goods l (flipped (length bits) u) ys × (length ys ≡ length bits))
  net_top u [] h = net_pure l (λ r. (tt, refl))
  net_top u (a ∷ []) h =
      net_then l (net_not l (u 0) (λ r. (h r).0)) λ y.
      net_pure l (λ r. ((r.1, tt), refl))
  net_top u (a ∷ b ∷ bits) h =
      net_then l (net_top (λ i. u (suc i)) (b ∷ bits) (λ r. (h r).1)) λ ys.
      net_pure l (λ r. (((h r.0).0, r.1.0), ap suc r.1.1))

  net_ranked : (signed : Bool) (u : ℕ → Bit) (bits : List SigBit) {R : Type 0} → (R → Goods l u bits) → Net l R (ranked_of signed bits) (λ ys. Goods l (ranked signed (length bits) u) ys × (length ys ≡ length bits))
  net_ranked true u bits h = net_top u bits h
  net_ranked false u bits h = net_pure l (λ r. (h r, refl))

  net_less : (signed : Bool) (u v : ℕ → Bit) (n : ℕ) (a b : List SigBit) {R : Type 0} → (R → Goods l u a) → (R → Goods l v b) → length a ≡ n → length b ≡ n
      → Net l R (less_of signed a b) (l.Has (less_bit signed n u v))
  net_less signed u v n a b h k d e =
      net_then l (net_ranked signed u a h) λ x.
      net_then l (net_ranked signed v b (λ r. k r.0)) λ y.
      net_then l (net_difference (ranked signed n u) (ranked signed n v) x y (λ r. subst (λ z. Goods l (ranked signed z u) x) d r.0.1.0) (λ r. subst (λ z. Goods l (ranked signed z v) y) e r.1.0) (λ r. r.0.1.1 ∙ d ∙ sym e ∙ sym r.1.1)) λ total.
      net_not l (carry_at (ranked signed n u) (λ i. not_of (ranked signed n v i)) S1 n)
      (λ r. subst (λ z. l.Has (carry_at (ranked signed n u) (λ i. not_of (ranked signed n v i)) S1 z) total.carry) (r.0.0.1.1 ∙ d) r.1.1)

  net_not_less : (signed : Bool) (u v : ℕ → Bit) (n : ℕ) (a b : List SigBit) {R : Type 0} → (R → Goods l u a) → (R → Goods l v b) → length a ≡ n → length b ≡ n
      → Net l R (not_less_of signed a b) (l.Has (not_of (less_bit signed n u v)))
  net_not_less signed u v n a b h k d e =
      net_then l (net_less signed u v n a b h k d e) λ y.
      net_not l (less_bit signed n u v) (λ r. r.1)

  net_order : (kind : OrderKind) (signed : Bool) (u v : ℕ → Bit) (n : ℕ) (a b : List SigBit) {R : Type 0} → (R → Goods l u a) → (R → Goods l v b) → length a ≡ n → length b ≡ n
      → Net l R (order_of kind signed a b) (l.Has (order_bit kind signed n u v))
  net_order Lt signed u v n a b h k d e = net_less signed u v n a b h k d e
  net_order Le signed u v n a b h k d e = net_not_less signed v u n b a k h e d
  net_order Ge signed u v n a b h k d e = net_not_less signed u v n a b h k d e
  net_order Gt signed u v n a b h k d e = net_less signed v u n b a k h e d

-- the bits of the value of a cell, by the words at its operands; the widths are those of Y and of the operands
abbrev pub value_at : CellKind → Shape → ℕ → List Bit → List Bit → ℕ → Bit
value_at (Word (Unary Neg)) shape n a b at =
    sum_bit S0 (not_of (extended_at shape.signs.a a at)) (carry_at (λ i. S0) (λ i. not_of (extended_at shape.signs.a a i)) S1 at)
value_at (Word (Arith kind)) shape n a b at =
    arith_at kind (extended_at (both_signed shape) a) (extended_at (both_signed shape) b) at
value_at (Word (Order kind)) shape n a b at =
    order_bit kind (both_signed shape) n (extended_at (both_signed shape) a) (extended_at (both_signed shape) b)
value_at kind shape n a b at = X

-- how many bits it has
abbrev pub value_width : CellKind → Shape → ℕ
value_width (Word (Unary Neg)) shape = shape.widths.y
value_width (Word (Arith kind)) shape = width_of kind shape.widths.y
value_width (Word (Order kind)) shape = 1
value_width kind shape = 0

module _ (l : Logic) (g : SigBit → Bit) (shape : Shape) (c : Cell) where
  -- the net of a cell has the bits of its value, where the operands are read in whatever way
  pub net_value : (kind : CellKind) → ((x : SigBit) → In x (pin_signal c A) → l.Has (g x) x) → ((x : SigBit) → In x (pin_signal c B) → l.Has (g x) x)
      → Net l (Unit {0}) (value_of kind shape c) (λ bits. Goods l (value_at kind shape (greater_width c) (map g (pin_signal c A)) (map g (pin_signal c B))) bits × (length bits ≡ value_width kind shape))
  net_value (Word (Unary Neg)) h k =
      net_weaker l (net_negative l (extended_at shape.signs.a (map g (pin_signal c A))) (operand_of c A shape.widths.y shape.signs.a) (λ r. goods_extended l g shape.signs.a shape.widths.y (pin_signal c A) h))
      (λ bits w. (w.0, w.1 ∙ length-extended (pin_signal c A) shape.widths.y shape.signs.a))
  net_value (Word (Arith kind)) h k =
      let signed : Bool = both_signed shape in
      let n : ℕ = shape.widths.y in
      let d : length (operand_of c A n signed) ≡ n = length-extended (pin_signal c A) n signed in
      let e : length (operand_of c B n signed) ≡ n = length-extended (pin_signal c B) n signed in
      net_weaker l (net_arith l kind (extended_at signed (map g (pin_signal c A))) (extended_at signed (map g (pin_signal c B))) (operand_of c A n signed) (operand_of c B n signed) (λ r. goods_extended l g signed n (pin_signal c A) h) (λ r. goods_extended l g signed n (pin_signal c B) k) (λ r. d ∙ sym e))
      (λ bits w. (w.0, w.1 ∙ ap (width_of kind) d))
  net_value (Word (Order kind)) h k =
      let signed : Bool = both_signed shape in
      let n : ℕ = greater_width c in
      net_then l (net_order l kind signed (extended_at signed (map g (pin_signal c A))) (extended_at signed (map g (pin_signal c B))) n (operand_of c A n signed) (operand_of c B n signed) (λ r. goods_extended l g signed n (pin_signal c A) h) (λ r. goods_extended l g signed n (pin_signal c B) k) (length-extended (pin_signal c A) n signed) (length-extended (pin_signal c B) n signed)) λ y.
      net_pure l (λ r. ((r.1, tt), refl))
  net_value kind h k = net_pure l (λ r. (tt, refl))
