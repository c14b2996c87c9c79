-- The gates of a cell are an expansion of it, and stand for it.
use Rattle.std.proofs.Common.{◌≡◌, ◌<◌, ◌≤◌, ℕ, ◌+◌, ◌-◌, ◌*◌, ◌%◌, ◌^◌, Bool, suc, true, false, not, List, [], ◌∷◌, Option, Some, None, Ok, length, inl, inr, refl, sym, ◌∙◌, ap, subst, arith, ℤ, ◌*ℤ◌}
use Rattle.std.proofs.lemmas.Bool.Decides.{nat_tests}
use Rattle.std.specs.Prelude.{◌==◌, ◌&&◌, if◌then◌else◌, unsigned_abs, map, replicate, slice_index_or}
use Rattle.std.proofs.lemmas.Bool.{and_parts}
use Rattle.cell_types.specs.Fault.{fault_of}
use Rattle.cell_types.specs.PinName.{pin_text}
use Rattle.cell_types.specs.Shape.{made_shape, unless}
use Rattle.cell_types.specs.declared.fault.CellFault.{CellFault}
use Rattle.cell_types.specs.declared.kind.CellKind.{CellKind}
use Rattle.cell_types.specs.declared.kind.CellKind.TheVariants.{Word}
use Rattle.cell_types.specs.declared.pin_name.PinName.TheVariants.{A, B, S}
use Rattle.cell_types.specs.declared.shape.Shape.{Shape}
use Rattle.cell_types.specs.declared.word.ArithKind.TheVariants.{Mul}
use Rattle.cell_types.specs.declared.word.WordKind.TheVariants.{Arith, Division}
use Rattle.cell_types.specs.declared.word.DivisionKind.{DivisionKind}
use Rattle.cell_word.specs.Arithmetic.{quotient_of}
use Rattle.cell_word.specs.Integers.{integer_bits, integer_in}
use Rattle.cell_word.specs.Values as word_values
use Rattle.cell_word.specs.Values.{both_signed}
use Rattle.cell_word.specs.Words.{extended_at, unknown_of}
use Rattle.rtl_bits.proofs.Lists.{all_known_true}
use Rattle.rtl_bits.proofs.Orders.{Below_refl}
use Rattle.rtl_bits.specs.Knowledge.{AreKnown, Below, all_known}
use Rattle.rtl_bits.specs.Numbers.{number_of}
use Rattle.rtl_bits.specs.declared.bit.Bit.{Bit}
use Rattle.rtl_bits.specs.declared.bit.Bit.TheVariants.{S0, X}
use Rattle.rtl_ir.specs.Build.{Building}
use Rattle.rtl_ir.specs.Faults.Cells.{pin_widths}
use Rattle.rtl_ir.specs.Flat.Cell.{Ports, cell_kind, cell_shape}
use Rattle.rtl_ir.specs.Parameters.{given_params}
use Rattle.rtl_ir.specs.declared.cell.Cell.{Cell}
use Rattle.rtl_ir.specs.declared.wire.Wire.{Wire}
use Rattle.rtl_sig.specs.declared.sig.SigBit.{SigBit}
use Rattle.rtl_sig.specs.declared.sig.SigBit.TheVariants.{Fixed}
use Rattle.net_model.proofs.Ranges.{signal_in}
use Rattle.net_model.specs.Lists.{In}
use Rattle.net_model.specs.Within.{BitIn, SigIn}
use Rattle.map_laws.proofs.Wholes.{cell_more}
use Rattle.map_laws.specs.Expansion.{IsExpansion, IsWhole, StandsWith, cells_added, links_added}
use Rattle.map_laws.specs.Operand.{IsShapeOf, pin_signal}
use Rattle.gate_nets.proofs.Adding.{low_of}
use Rattle.gate_nets.proofs.Expanding.{net_expands, net_stands}
use Rattle.gate_nets.proofs.Nets.{Goods, Logic, Net, net_pure, net_weaker, nothing}
use Rattle.gate_nets.proofs.Residues.{Residue, residue_extended}
use Rattle.gate_nets.proofs.Standing.{reads}
use Rattle.gate_nets.proofs.Wholes.{names}
use Rattle.gate_divide.proofs.Numbers.{Word as Number, zeros}
use Rattle.gate_divide.proofs.Signals.{Reads, net_given, reads_zeros}
use Rattle.gate_divide.proofs.Dividing.{Stands, divide_stands, net_divide}
use Rattle.map_mul.specs.Expand.{divided_of, given, greatest_width, is_mapped, map_of, multiplied_of, operand_of, value_of}
use Rattle.map_mul.proofs.Operands.{length_extended, operand, operand_is, reads_operand}
use Rattle.map_mul.proofs.Products.{net_product, product_word}
use Rattle.map_mul.proofs.Values.{narrow_below, integer_below, residue_product, residue_rest}

given_shape : (fault : Option CellFault) (made shape : Shape) → unless fault made ≡ Ok shape → shape ≡ made
given_shape None made shape e = cc
given_shape (Some fault) made shape e = absurd (cc)

-- the shape of a cell is that of its parameters
shape_is : (c : Cell) (shape : Shape) → IsShapeOf c shape → shape ≡ cell_shape shape.kind c.params
unfolding cell_shape
shape_is c shape is =
    given_shape (fault_of shape.kind (given_params c.params) (pin_widths c.pins)) (made_shape shape.kind (given_params c.params)) shape is.given

-- bits that are said to name wires do
goods_in : (count : ℕ) (v : ℕ → Bit) (bits : List SigBit) → Goods (names count) v bits → SigIn count bits
goods_in count v [] h s i = absurd i
goods_in count v (b ∷ bits) h s (inl e) = subst (BitIn count) (sym e) h.0
goods_in count v (b ∷ bits) h s (inr i) = goods_in count (λ k. v (suc k)) bits h.1 s i

none_below : (n : ℕ) → n ≡ 0 + n
none_below n = omega arith

length_map : (f : SigBit → Bit) (bits : List SigBit) → length (map f bits) ≡ length bits
length_map f [] = refl
length_map f (b ∷ bits) = ap suc (length_map f bits)

-- the words at the operands are known
abbrev Knows : (SigBit → Bit) → Cell → Bool
Knows g c = all_known (map g (pin_signal c A)) && all_known (map g (pin_signal c B))

module _ (g : SigBit → Bit) (shape : Shape) (c : Cell) where
  abbrev Known : Type 0
  Known = Knows g c ≡ true

  a_known : Known → AreKnown (map g (pin_signal c A))
  a_known k = all_known_true (map g (pin_signal c A)) (and_parts (all_known (map g (pin_signal c A))) (all_known (map g (pin_signal c B))) k).0

  b_known : Known → AreKnown (map g (pin_signal c B))
  b_known k = all_known_true (map g (pin_signal c B)) (and_parts (all_known (map g (pin_signal c A))) (all_known (map g (pin_signal c B))) k).1

  -- the number of an operand at the width of Y
  abbrev number_at : List SigBit → ℕ
  number_at bits = number_of (low_of (extended_at (both_signed shape) (map g bits)) shape.widths.y)

  abbrev product_number : ℕ
  product_number = (0 + number_at (pin_signal c A) * (2 ^ 0 * number_at (pin_signal c B))) % 2 ^ shape.widths.y

  unfoldable multiplied : Number Known shape.widths.y product_number
  multiplied =
      let n : ℕ = shape.widths.y in
      let e : n ≡ 0 + n = none_below n in
      product_word Known n 0 n 0 _ _ e (zeros Known n) (operand Known (both_signed shape) n (map g (pin_signal c A)) a_known) (operand Known (both_signed shape) n (map g (pin_signal c B)) b_known)

  -- which stands for the product of the integers
  stands_for : Residue shape.widths.y product_number (integer_in (both_signed shape) (map g (pin_signal c A)) *ℤ integer_in (both_signed shape) (map g (pin_signal c B)))
  stands_for =
      let n : ℕ = shape.widths.y in
      let a : ℕ = number_at (pin_signal c A) in
      let b : ℕ = number_at (pin_signal c B) in
      let one : 0 + a * (1 * b) ≡ a * b = grind arith in
      subst (λ z. Residue n (z % 2 ^ n) (integer_in (both_signed shape) (map g (pin_signal c A)) *ℤ integer_in (both_signed shape) (map g (pin_signal c B)))) (sym one)
      (residue_rest n (a * b) _ (residue_product n a b _ _ (residue_extended n (both_signed shape) (map g (pin_signal c A))) (residue_extended n (both_signed shape) (map g (pin_signal c B)))))

  module _ (l : Logic) where
    -- the net of a product has its bits, where the operands are read in whatever way
    net_multiplied : ((x : SigBit) → In x (pin_signal c A) → l.Has (g x) x) → ((x : SigBit) → In x (pin_signal c B) → l.Has (g x) x)
        → Net l (Unit {0}) (multiplied_of shape c) (Reads l Known shape.widths.y product_number multiplied)
    unfolding multiplied
    net_multiplied h k =
        let n : ℕ = shape.widths.y in
        let signed : Bool = both_signed shape in
        let e : n ≡ 0 + n = none_below n in
        let width : length (operand_of shape c A n) ≡ n = length_extended (pin_signal c A) n signed in
        net_product l Known (operand_of shape c B n) n 0 n 0 _ _ e (zeros Known n) (operand Known signed n (map g (pin_signal c A)) a_known) (operand Known signed n (map g (pin_signal c B)) b_known) (replicate (length (operand_of shape c A n)) (Fixed S0)) (operand_of shape c A n) (length_extended (pin_signal c B) n signed)
        (λ r. subst (λ z. Reads l Known n 0 (zeros Known n) (replicate z (Fixed S0))) (sym width) (reads_zeros l Known n))
        (λ r. reads_operand l Known g signed n (pin_signal c A) a_known h) (λ r. reads_operand l Known g signed n (pin_signal c B) b_known k)

-- two tests one in the other
nested : (t u : Bool) (x y : List Bit) → (if t && not u then x else y) ≡ (if t then (if u then y else x) else y)
nested true true x y = refl
nested true false x y = refl
nested false u x y = refl

-- the same of divisions
module _ (g : SigBit → Bit) (shape : Shape) (c : Cell) where
  abbrev integer_at : List SigBit → ℤ
  integer_at bits = integer_in (both_signed shape) (map g bits)

  -- the words at the operands are known, and the divisor is not 0
  abbrev Divides : Bool
  Divides = Knows g c && not (unsigned_abs (integer_at (pin_signal c B)) == 0)

  abbrev IsDivided : Type 0
  IsDivided = Divides ≡ true

  operands_known : IsDivided → Known g shape c
  operands_known k = (and_parts (Knows g c) (not (unsigned_abs (integer_at (pin_signal c B)) == 0)) k).0

  not_zero : IsDivided → 0 < unsigned_abs (integer_at (pin_signal c B))
  not_zero k =
      let e : not (unsigned_abs (integer_at (pin_signal c B)) == 0) ≡ true = (and_parts (Knows g c) (not (unsigned_abs (integer_at (pin_signal c B)) == 0)) k).1 in
      grind (arith, nat_tests)

  dividend_known : IsDivided → AreKnown (map g (pin_signal c A))
  dividend_known k = a_known g shape c (operands_known k)

  divisor_known : IsDivided → AreKnown (map g (pin_signal c B))
  divisor_known k = b_known g shape c (operands_known k)

  fits_a : length (map g (pin_signal c A)) ≤ greatest_width shape c
  fits_a = omega (arith, length_map g (pin_signal c A))

  fits_b : length (map g (pin_signal c B)) ≤ greatest_width shape c
  fits_b = omega (arith, length_map g (pin_signal c B))

  unfoldable quotient : (kind : DivisionKind) → Stands IsDivided (greatest_width shape c) (quotient_of kind (integer_at (pin_signal c A)) (integer_at (pin_signal c B)))
  quotient kind =
      let n : ℕ = greatest_width shape c in
      let signed : Bool = both_signed shape in
      divide_stands IsDivided n _ _ (integer_at (pin_signal c A)) (integer_at (pin_signal c B)) (operand IsDivided signed n (map g (pin_signal c A)) dividend_known) (operand IsDivided signed n (map g (pin_signal c B)) divisor_known) not_zero kind signed
      (λ k. operand_is signed n (map g (pin_signal c A)) fits_a) (λ k. operand_is signed n (map g (pin_signal c B)) fits_b)

  module _ (l : Logic) where
    net_quotient : (kind : DivisionKind) → ((x : SigBit) → In x (pin_signal c A) → l.Has (g x) x) → ((x : SigBit) → In x (pin_signal c B) → l.Has (g x) x)
        → Net l (Unit {0}) (divided_of kind shape c) (Reads l IsDivided (greatest_width shape c) (quotient kind).number (quotient kind).word)
    unfolding quotient
    net_quotient kind h k =
        let n : ℕ = greatest_width shape c in
        let signed : Bool = both_signed shape in
        net_divide IsDivided n _ _ (integer_at (pin_signal c A)) (integer_at (pin_signal c B)) (operand IsDivided signed n (map g (pin_signal c A)) dividend_known) (operand IsDivided signed n (map g (pin_signal c B)) divisor_known) not_zero l kind signed
        (λ k. operand_is signed n (map g (pin_signal c A)) fits_a) (λ k. operand_is signed n (map g (pin_signal c B)) fits_b) (operand_of shape c A n) (operand_of shape c B n)
        (λ r. reads_operand l IsDivided g signed n (pin_signal c A) dividend_known h) (λ r. reads_operand l IsDivided g signed n (pin_signal c B) divisor_known k)

-- the net of a kind, whatever is said of bits
pub net_kind : (shape : Shape) (c : Cell) (kind : CellKind) → Net nothing (Unit {0}) (value_of kind shape c) (λ ys. Unit {0})
net_kind shape c (Word (Arith Mul)) =
    net_weaker nothing (net_multiplied (λ s. X) shape c nothing (λ s i. tt) (λ s i. tt)) (λ ys w. tt)
net_kind shape c (Word (Division kind)) =
    net_weaker nothing (net_quotient (λ s. X) shape c nothing kind (λ s i. tt) (λ s i. tt)) (λ ys w. tt)
net_kind shape c kind = net_pure nothing (λ r. tt)

module _ (c : Cell) (b : Building) where
  product_expands : (shape : Shape) → IsWhole (length b.body.wires) (Word (Arith Mul)) c → IsExpansion b (given (multiplied_of shape c) c b) c
  product_expands shape whole =
      net_expands c (Arith Mul) (multiplied_of shape c) b whole
      (λ count more.
      let within = cell_more (length b.body.wires) count c more whole.within in
      net_given (names count) (net_multiplied (λ s. X) shape c (names count) (λ s i. signal_in count c.pins (pin_text A) within s i) (λ s i. signal_in count c.pins (pin_text B) within s i))
      (λ r bits w. goods_in count _ bits w.has))

  product_stands : (shape : Shape) → shape ≡ cell_shape (Word (Arith Mul)) c.params → cell_kind c ≡ Some (Word (Arith Mul)) → (ports : Ports) (start : SigBit → Bit) (wires : List Wire)
      → StandsWith ports start wires c (cells_added b (given (multiplied_of shape c) c b)) (links_added b (given (multiplied_of shape c) c b))
  product_stands shape same word =
      net_stands c (Arith Mul) (multiplied_of shape c) b word
      (λ f is.
      net_given (reads f is) (net_multiplied f shape c (reads f is) (λ s i. Below_refl (f s)) (λ s i. Below_refl (f s)))
      (λ r bits w at lt.
      subst (λ z. Below (slice_index_or (word_values.value_of (Arith Mul) z (map f (pin_signal c A)) (map f (pin_signal c B)) (map f (pin_signal c S))) at X) (f (slice_index_or bits at (Fixed S0)))) same
      (integer_below f is (Knows f c) shape.widths.y _ _ (multiplied f shape c) bits w (λ k. stands_for f shape c) at)))

  quotient_expands : (kind : DivisionKind) (shape : Shape) → IsWhole (length b.body.wires) (Word (Division kind)) c → IsExpansion b (given (divided_of kind shape c) c b) c
  quotient_expands kind shape whole =
      net_expands c (Division kind) (divided_of kind shape c) b whole
      (λ count more.
      let within = cell_more (length b.body.wires) count c more whole.within in
      net_given (names count) (net_quotient (λ s. X) shape c (names count) kind (λ s i. signal_in count c.pins (pin_text A) within s i) (λ s i. signal_in count c.pins (pin_text B) within s i))
      (λ r bits w. goods_in count _ bits w.has))

  quotient_stands : (kind : DivisionKind) (shape : Shape) → shape ≡ cell_shape (Word (Division kind)) c.params → cell_kind c ≡ Some (Word (Division kind)) → (ports : Ports) (start : SigBit → Bit) (wires : List Wire)
      → StandsWith ports start wires c (cells_added b (given (divided_of kind shape c) c b)) (links_added b (given (divided_of kind shape c) c b))
  quotient_stands kind shape same word =
      net_stands c (Division kind) (divided_of kind shape c) b word
      (λ f is.
      net_given (reads f is) (net_quotient f shape c (reads f is) kind (λ s i. Below_refl (f s)) (λ s i. Below_refl (f s)))
      (λ r bits w at lt.
      let y : ℕ = shape.widths.y in
      let e : greatest_width shape c ≡ y + (greatest_width shape c - y) = omega arith in
      let z : ℤ = quotient_of kind (integer_at f shape c (pin_signal c A)) (integer_at f shape c (pin_signal c B)) in
      subst (λ z. Below (slice_index_or (word_values.value_of (Division kind) z (map f (pin_signal c A)) (map f (pin_signal c B)) (map f (pin_signal c S))) at X) (f (slice_index_or bits at (Fixed S0)))) same
      (subst (λ word. Below (slice_index_or word at X) (f (slice_index_or bits at (Fixed S0)))) (nested (Knows f c) (unsigned_abs (integer_at f shape c (pin_signal c B)) == 0) (integer_bits z y) (unknown_of y))
      (narrow_below f is (Divides f shape c) y (greatest_width shape c - y) (greatest_width shape c) _ z (quotient f shape c kind).word bits e w (quotient f shape c kind).residue at))))

  kind_expands : (kind : CellKind) (shape : Shape) → is_mapped kind ≡ true → IsWhole (length b.body.wires) kind c → IsExpansion b (given (value_of kind shape c) c b) c
  kind_expands (Word (Arith Mul)) shape m whole = product_expands shape whole
  kind_expands (Word (Division kind)) shape m whole = quotient_expands kind shape whole
  kind_expands kind shape m whole = absurd (cc)

  kind_stands : (kind : CellKind) (shape : Shape) → shape ≡ cell_shape kind c.params → cell_kind c ≡ Some kind → is_mapped kind ≡ true → (ports : Ports) (start : SigBit → Bit) (wires : List Wire)
      → StandsWith ports start wires c (cells_added b (given (value_of kind shape c) c b)) (links_added b (given (value_of kind shape c) c b))
  kind_stands (Word (Arith Mul)) shape same word m = product_stands shape same word
  kind_stands (Word (Division kind)) shape same word m = quotient_stands kind shape same word
  kind_stands kind shape same word m = absurd (cc)

-- the same of what is answered
module _ (c : Cell) (b new : Building) (shape : Shape) (e : new ≡ map_of shape c b) where
  is_given : is_mapped shape.kind ≡ true → new ≡ given (value_of shape.kind shape c) c b
  is_given m = e ∙ ap (λ t. if t then given (value_of shape.kind shape c) c b else b) m

  pub expanded : IsShapeOf c shape → is_mapped shape.kind ≡ true → IsWhole (length b.body.wires) shape.kind c → IsExpansion b new c
  expanded is m whole = subst (λ n. IsExpansion b n c) (sym (is_given m)) (kind_expands c b shape.kind shape m whole)

  pub expanded_stands : IsShapeOf c shape → is_mapped shape.kind ≡ true → (ports : Ports) (start : SigBit → Bit) (wires : List Wire) → StandsWith ports start wires c (cells_added b new) (links_added b new)
  expanded_stands is m ports start wires =
      subst (λ n. StandsWith ports start wires c (cells_added b n) (links_added b n)) (sym (is_given m))
      (kind_stands c b shape.kind shape (shape_is c shape is) is.kind m ports start wires)
