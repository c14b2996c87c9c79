-- The test of two cones over all leaves is the test of each plain row.
use Rattle.std.proofs.Common.{◌≡◌, refl, ap, ◌↔◌, IsTrue, true, List, [], ◌∷◌}
use Rattle.std.proofs.lemmas.Bool.{and_from, and_parts}
use Rattle.rtl_bits.specs.declared.bit.Bit.{Bit}
use Rattle.rtl_bits.specs.declared.bit.Bit.TheVariants.{S0, S1, X}
use Rattle.rtl_bits.specs.Knowledge.{Below}
use Rattle.rtl_bits.specs.Tables.{IsPlain}
use Rattle.gate_cones.specs.declared.cone.Cone.{Cone}
use Rattle.gate_cones.specs.declared.row.Leaf.{Leaf}
use Rattle.gate_cones.specs.declared.row.Leaf.TheVariants.{L0, L1, L2, L3, L4}
use Rattle.gate_cones.specs.declared.row.Row.{Row}
use Rattle.gate_cones.specs.Below.{IsBelow, bit_below, below_over}
use Rattle.gate_cones.specs.Cone.{cone_value}
use Rattle.gate_cones.specs.Row.{IsPlainRow, with_bit}

below_from : (a b : Bit) → bit_below a b ≡ true → Below a b
below_from S0 S0 e = refl
below_from S0 b e = absurd (cc)
below_from S1 S1 e = refl
below_from S1 b e = absurd (cc)
below_from a b e = tt

below_to : (a b : Bit) → Below a b → bit_below a b ≡ true
below_to S0 b e = ap (λ z. bit_below S0 z) e
below_to S1 b e = ap (λ z. bit_below S1 z) e
below_to a b e = refl

-- a row stays plain with another plain bit
plain_with : (row : Row) (at : Leaf) (b : Bit) → IsPlainRow row → IsPlain b → IsPlainRow (with_bit row at b)
plain_with row L0 b p q L0 = q
plain_with row L0 b p q leaf = p leaf
plain_with row L1 b p q L1 = q
plain_with row L1 b p q leaf = p leaf
plain_with row L2 b p q L2 = q
plain_with row L2 b p q leaf = p leaf
plain_with row L3 b p q L3 = q
plain_with row L3 b p q leaf = p leaf
plain_with row L4 b p q L4 = q
plain_with row L4 b p q leaf = p leaf

module _ (first second : Cone) where
  -- what is so of a leaf with 0, 1 and x is so of it with each plain bit
  with_plain : (leaf : Leaf) (leaves : List Leaf) (row : Row) → below_over (leaf ∷ leaves) row first second ≡ true → (b : Bit) → IsPlain b → below_over leaves (with_bit row leaf b) first second ≡ true
  with_plain leaf leaves row e S0 p = (and_parts _ _ e).0
  with_plain leaf leaves row e S1 p = (and_parts _ _ (and_parts _ _ e).1).0
  with_plain leaf leaves row e X p = (and_parts _ _ (and_parts _ _ e).1).1
  with_plain leaf leaves row e b p = absurd (cc)

  -- the test of each plain row from the test over all leaves
  over_all : (row : Row) → below_over (L0 ∷ L1 ∷ L2 ∷ L3 ∷ L4 ∷ []) row first second ≡ true → IsBelow first second
  over_all row e r plain =
      let zero = with_plain L0 (L1 ∷ L2 ∷ L3 ∷ L4 ∷ []) row e r.l0 (plain L0) in
      let one = with_plain L1 (L2 ∷ L3 ∷ L4 ∷ []) (record row { l0 = r.l0 }) zero r.l1 (plain L1) in
      let two = with_plain L2 (L3 ∷ L4 ∷ []) (record row { l0 = r.l0; l1 = r.l1 }) one r.l2 (plain L2) in
      let three = with_plain L3 (L4 ∷ []) (record row { l0 = r.l0; l1 = r.l1; l2 = r.l2 }) two r.l3 (plain L3) in
      let four = with_plain L4 [] (record row { l0 = r.l0; l1 = r.l1; l2 = r.l2; l3 = r.l3 }) three r.l4 (plain L4) in
      below_from (cone_value first r) (cone_value second r) four

  -- and the other way round
  over_plain : IsBelow first second → (leaves : List Leaf) (row : Row) → IsPlainRow row → below_over leaves row first second ≡ true
  over_plain h [] row p = below_to _ _ (h row p)
  over_plain h (leaf ∷ leaves) row p =
      let zero = over_plain h leaves (with_bit row leaf S0) (plain_with row leaf S0 p refl) in
      let one = over_plain h leaves (with_bit row leaf S1) (plain_with row leaf S1 p refl) in
      let unknown = over_plain h leaves (with_bit row leaf X) (plain_with row leaf X p refl) in
      and_from _ _ zero (and_from _ _ one unknown)

-- the row of x alone
abbrev no_bit : Row
no_bit = record { l0 = X; l1 = X; l2 = X; l3 = X; l4 = X }

no_bit_plain : IsPlainRow no_bit
no_bit_plain L0 = refl
no_bit_plain L1 = refl
no_bit_plain L2 = refl
no_bit_plain L3 = refl
no_bit_plain L4 = refl

pub below_exact : (first second : Cone) → IsTrue (below_over (L0 ∷ L1 ∷ L2 ∷ L3 ∷ L4 ∷ []) no_bit first second) ↔ IsBelow first second
below_exact first second =
    (over_all first second no_bit, λ h. over_plain first second h (L0 ∷ L1 ∷ L2 ∷ L3 ∷ L4 ∷ []) no_bit no_bit_plain)
