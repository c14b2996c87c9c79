-- Nets: steps that add gates alone, and what their results have under a reading.
use Rattle.std.specs.Prelude.{replicate}
use Rattle.std.proofs.Common.{◌≡◌, ℕ, zero, suc, min, ◌+◌, List, [], ◌∷◌, ◌++◌, length, refl, sym, ◌∙◌, ap, subst, arith, length-append}
use Rattle.cell_gate.specs.Gates.{output_of}
use Rattle.cell_types.specs.declared.word.BitwiseKind.{BitwiseKind}
use Rattle.cell_types.specs.declared.word.BitwiseKind.TheVariants.{And, Or, Xor, Xnor}
use Rattle.rtl_bits.specs.declared.bit.Bit.{Bit}
use Rattle.rtl_bits.specs.Tables.{and_of, mux_of, not_of, or_of, xor_of}
use Rattle.rtl_bits.specs.declared.bit.Bit.TheVariants.{S0, S1, X}
use Rattle.rtl_ir.specs.Build.{Build, Building}
use Rattle.rtl_sig.specs.declared.sig.SigBit.{SigBit}
use Rattle.rtl_sig.specs.declared.sig.SigBit.TheVariants.{Fixed}
use Rattle.map_laws.proofs.Renaming.{renamed}
use Rattle.gate_nets.specs.Gate.{after, pure, bit_of, gate_of, gate_for}
use Rattle.gate_nets.specs.Reading.{gates_of}
use Rattle.gate_nets.specs.Sum.{adder_of, negative_of, sum_of}
use Rattle.gate_nets.specs.Words.{bitwise_of, fold_from, fold_of, inverse_of, pairs_of, select_of}
use Rattle.gate_nets.specs.declared.adder.Total.{Total}
use Rattle.gate_nets.specs.declared.gate.Gate.{Gate}
use Rattle.gate_nets.specs.declared.gate.Gate.TheVariants.{Not, Bitwise, Mux}

pub gates-append : (xs ys : List Gate) (b : Building) → gates_of (xs ++ ys) b ≡ gates_of ys (gates_of xs b)
gates-append [] ys b = refl
gates-append (x ∷ xs) ys b = gates-append xs ys (gate_of x b).1

-- a gate brings one wire
pub one_wire : (g : Gate) (b : Building) → length (gate_of g b).1.body.wires ≡ length b.body.wires + 1
unfolding gate_of
one_wire g b = length-append b.body.wires _

pub wires_after : (gates : List Gate) (b : Building) → length (gates_of gates b).body.wires ≡ length b.body.wires + length gates
wires_after [] b = omega arith
wires_after (g ∷ gates) b = omega (arith, wires_after gates (gate_of g b).1, one_wire g b)

no_length : (n : ℕ) → suc n ≡ 0 → ⊥
no_length n e = omega arith

pub same_rest : (m n : ℕ) → suc m ≡ suc n → m ≡ n
same_rest m n e = omega arith

pub length-replicate : {A : Type 0} (n : ℕ) (x : A) → length (replicate n x) ≡ n
length-replicate zero x = refl
length-replicate (suc n) x = ap suc (length-replicate n x)

-- bits joined by a kind with a first one, from the lowest up
abbrev pub folded_at : BitwiseKind → Bit → (ℕ → Bit) → ℕ → Bit
folded_at kind c u zero = c
folded_at kind c u (suc n) = folded_at kind (output_of (gate_for kind) c (u 0) X) (λ at. u (suc at)) n

-- what a kind makes of no bits
abbrev pub neutral_bit : BitwiseKind → Bit
neutral_bit And = S1
neutral_bit Or = S0
neutral_bit Xor = S0
neutral_bit Xnor = S1

-- so many bits joined by a kind
abbrev pub joined_at : BitwiseKind → (ℕ → Bit) → ℕ → Bit
joined_at kind u zero = neutral_bit kind
joined_at kind u (suc n) = folded_at kind (u 0) (λ at. u (suc at)) n

-- a bit of a sum
abbrev pub sum_bit : Bit → Bit → Bit → Bit
sum_bit a b c = xor_of (xor_of a b) c

-- the carry from it
abbrev pub carry_bit : Bit → Bit → Bit → Bit
carry_bit a b c = or_of (and_of a b) (and_of (xor_of a b) c)

-- the carry into each place of a sum
abbrev pub carry_at : (ℕ → Bit) → (ℕ → Bit) → Bit → ℕ → Bit
carry_at u v c zero = c
carry_at u v c (suc at) = carry_at (λ i. u (suc i)) (λ i. v (suc i)) (carry_bit (u 0) (v 0) c) at

-- how many gates there are for two words
pub length-pairs : (f : SigBit → SigBit → Gate) (a b : List SigBit) (old : Building) → length (pairs_of f a b old).0 ≡ min (length a) (length b)
unfolding after
length-pairs f [] b old = omega arith
length-pairs f (x ∷ a) [] old = omega arith
length-pairs f (x ∷ a) (y ∷ b) old = omega (arith, length-pairs f a b (gate_of (f x y) old).1)

-- what is said of bits: which value a bit has at least; what is assumed of a gate whose output is the wire at a place; what
-- is shown of a gate; and how the one leads to the other
pub record Logic : Type 1 where
  pub Has : Bit → SigBit → Type 0
  pub Made : ℕ → Gate → Type 0
  pub Fed : Gate → Type 0
  pub constant : (b : Bit) → Has b (Fixed b)
  pub inverse : (u : Bit) (a : SigBit) → Has u a → Fed (Not a) × ((at : ℕ) → Made at (Not a) → Has (not_of u) (bit_of at))
  pub bitwise :
      (kind : BitwiseKind) (u v : Bit) (a b : SigBit) → Has u a → Has v b →
      Fed (Bitwise kind a b) × ((at : ℕ) → Made at (Bitwise kind a b) → Has (output_of (gate_for kind) u v X) (bit_of at))
  pub choice :
      (u v c : Bit) (a b s : SigBit) → Has u a → Has v b → Has c s →
      Fed (Mux a b s) × ((at : ℕ) → Made at (Mux a b s) → Has (mux_of u v c) (bit_of at))

-- nothing is said of bits
abbrev pub nothing : Logic
nothing = record {
  Has = λ a y. Unit {0};
  Made = λ at g. Unit {0};
  Fed = λ g. Unit {0};
  constant = λ b. tt;
  inverse = λ u a h. (tt, λ at made. tt);
  bitwise = λ kind u v a b h k. (tt, λ at made. tt);
  choice = λ u v c a b s h k j. (tt, λ at made. tt);
}

module _ (l : Logic) where
  -- the bits of a word have these values at least, place by place
  abbrev pub Goods : (ℕ → Bit) → List SigBit → Type 0
  Goods v [] = Unit {0}
  Goods v (y ∷ ys) = l.Has (v 0) y × Goods (λ k. v (suc k)) ys

  -- what is assumed of gates whose outputs are the wires from a place on
  abbrev pub Fair : ℕ → List Gate → Type 0
  Fair at [] = Unit {0}
  Fair at (g ∷ gates) = l.Made at g × Fair (at + 1) gates

  abbrev pub AreFed : List Gate → Type 0
  AreFed [] = Unit {0}
  AreFed (g ∷ gates) = l.Fed g × AreFed gates

  fair_left : (at : ℕ) (xs ys : List Gate) → Fair at (xs ++ ys) → Fair at xs
  fair_left at [] ys h = tt
  fair_left at (x ∷ xs) ys h = (h.0, fair_left (at + 1) xs ys h.1)

  fair_right : (at : ℕ) (xs ys : List Gate) → Fair at (xs ++ ys) → Fair (at + length xs) ys
  fair_right at [] ys h = let e : at + 0 ≡ at = omega arith in subst (λ n. Fair n ys) (sym e) h
  fair_right at (x ∷ xs) ys h =
      let e : at + length (x ∷ xs) ≡ (at + 1) + length xs = omega arith in
      subst (λ n. Fair n ys) (sym e) (fair_right (at + 1) xs ys h.1)

  fed-append : (xs ys : List Gate) → AreFed xs → AreFed ys → AreFed (xs ++ ys)
  fed-append [] ys h k = k
  fed-append (x ∷ xs) ys h k = (h.0, fed-append xs ys h.1 k)

  -- a step adds gates alone, which do not go by the name of the module; under a premise their inputs have the property, and
  -- the result is as it is said to be
  pub record Net {A : Type 0} (R : Type 0) (m : Build A) (W : A → Type 0) : Type 0 where
    pub gates : Building → List Gate
    pub is : (b : Building) → (m b).1 ≡ gates_of (gates b) b
    pub unnamed : (id : List ℕ) (b : Building) → m (renamed id b) ≡ ((m b).0, renamed id (m b).1)
    pub holds : (b : Building) → R → Fair (length b.body.wires) (gates b) → AreFed (gates b) × W (m b).0

  pub net_pure : {A R : Type 0} {a : A} {W : A → Type 0} → (R → W a) → Net R (pure a) W
  net_pure h = record { gates = λ b. []; is = λ b. refl; unnamed = λ id b. refl; holds = λ b r o. (tt, h r) }

  -- what is so of the result, and what follows from it and from the premise
  pub net_since : {A R : Type 0} {m : Build A} {W V : A → Type 0} → Net R m W → ((a : A) → R → W a → V a) → Net R m V
  net_since {m = m} n h = record {
    gates = n.gates;
    is = n.is;
    unnamed = n.unnamed;
    holds = λ b r o. let x = n.holds b r o in (x.0, h (m b).0 r x.1);
  }

  -- the same without the premise
  pub net_weaker : {A R : Type 0} {m : Build A} {W V : A → Type 0} → Net R m W → ((a : A) → W a → V a) → Net R m V
  net_weaker n h = net_since n (λ a r. h a)

  -- what is so of the result anyhow
  pub net_also : {A R : Type 0} {m : Build A} {W V : A → Type 0} → Net R m W → ((b : Building) → V (m b).0) → Net R m (λ a. W a × V a)
  net_also n h = record {
    gates = n.gates;
    is = n.is;
    unnamed = n.unnamed;
    holds = λ b r o. let x = n.holds b r o in (x.0, (x.1, h b));
  }

  pub net_then : {A B R : Type 0} {m : Build A} {k : A → Build B} {W : A → Type 0} {V : B → Type 0} → Net R m W → ((a : A) → Net (R × W a) (k a) V) → Net R (after m k) V
  unfolding after
  net_then {m = m} {k = k} n h = record {
    gates = λ b. n.gates b ++ (h (m b).0).gates (m b).1;
    is = λ b.
        (h (m b).0).is (m b).1 ∙ ap (gates_of ((h (m b).0).gates (m b).1)) (n.is b) ∙ sym (gates-append (n.gates b) ((h (m b).0).gates (m b).1) b);
    unnamed = λ id b. ap (λ z. k z.0 z.1) (n.unnamed id b) ∙ (h (m b).0).unnamed id (m b).1;
    holds = λ b r o.
        let xs : List Gate = n.gates b in
        let ys : List Gate = (h (m b).0).gates (m b).1 in
        let first = n.holds b r (fair_left (length b.body.wires) xs ys o) in
        let e : length (m b).1.body.wires ≡ length b.body.wires + length xs = ap (λ z. length z.body.wires) (n.is b) ∙ wires_after xs b in
        let second = (h (m b).0).holds (m b).1 (r, first.1) (subst (λ at. Fair at ys) (sym e) (fair_right (length b.body.wires) xs ys o)) in
        (fed-append xs ys first.0 second.0, second.1);
  }

  net_gate : {R : Type 0} (g : Gate) (v : Bit) → (R → l.Fed g × ((at : ℕ) → l.Made at g → l.Has v (bit_of at))) → Net R (gate_of g) (l.Has v)
  unfolding gate_of
  net_gate g v h = record {
    gates = λ b. g ∷ [];
    is = λ b. refl;
    unnamed = λ id b. refl;
    holds = λ b r o. (((h r).0, tt), (h r).1 (length b.body.wires) o.0);
  }

  pub net_not : {R : Type 0} (u : Bit) {a : SigBit} → (R → l.Has u a) → Net R (gate_of (Not a)) (l.Has (not_of u))
  net_not u {a = a} h = net_gate (Not a) (not_of u) (λ r. l.inverse u a (h r))

  pub net_bitwise : {R : Type 0} (kind : BitwiseKind) (u v : Bit) {a b : SigBit} → (R → l.Has u a) → (R → l.Has v b)
      → Net R (gate_of (Bitwise kind a b)) (l.Has (output_of (gate_for kind) u v X))
  net_bitwise kind u v {a = a} {b = b} h k =
      net_gate (Bitwise kind a b) (output_of (gate_for kind) u v X) (λ r. l.bitwise kind u v a b (h r) (k r))

  pub net_mux : {R : Type 0} (u v c : Bit) {a b s : SigBit} → (R → l.Has u a) → (R → l.Has v b) → (R → l.Has c s)
      → Net R (gate_of (Mux a b s)) (l.Has (mux_of u v c))
  net_mux u v c {a = a} {b = b} {s = s} h k j =
      net_gate (Mux a b s) (mux_of u v c) (λ r. l.choice u v c a b s (h r) (k r) (j r))

  -- the inverse of a word
  pub net_inverse : (u : ℕ → Bit) (bits : List SigBit) {R : Type 0} → (R → Goods u bits) → Net R (inverse_of bits) (λ ys. Goods (λ at. not_of (u at)) ys × (length ys ≡ length bits))
  net_inverse u [] h = net_pure (λ r. (tt, refl))
  net_inverse u (a ∷ bits) h =
      net_then (net_not (u 0) (λ r. (h r).0)) λ y.
      net_then (net_inverse (λ at. u (suc at)) bits (λ r. (h r.0).1)) λ ys.
      net_pure (λ r. ((r.0.1, r.1.0), ap suc r.1.1))

  -- what a kind makes of two words
  pub net_bitwises : (kind : BitwiseKind) (u v : ℕ → Bit) (a b : List SigBit) {R : Type 0} → (R → Goods u a) → (R → Goods v b)
      → Net R (bitwise_of kind a b) (Goods (λ at. output_of (gate_for kind) (u at) (v at) X))
  net_bitwises kind u v [] b h k = net_pure (λ r. tt)
  net_bitwises kind u v (x ∷ a) [] h k = net_pure (λ r. tt)
  net_bitwises kind u v (x ∷ a) (y ∷ b) h k =
      net_then (net_bitwise kind (u 0) (v 0) (λ r. (h r).0) (λ r. (k r).0)) λ z.
      net_then (net_bitwises kind (λ at. u (suc at)) (λ at. v (suc at)) a b (λ r. (h r.0).1) (λ r. (k r.0).1)) λ zs.
      net_pure (λ r. (r.0.1, r.1))

  -- one of two words
  pub net_select : (u v : ℕ → Bit) (c : Bit) (a b : List SigBit) (s : SigBit) {R : Type 0} → (R → Goods u a) → (R → Goods v b) → (R → l.Has c s)
      → Net R (select_of a b s) (Goods (λ at. mux_of (u at) (v at) c))
  net_select u v c [] b s h k j = net_pure (λ r. tt)
  net_select u v c (x ∷ a) [] s h k j = net_pure (λ r. tt)
  net_select u v c (x ∷ a) (y ∷ b) s h k j =
      net_then (net_mux (u 0) (v 0) c (λ r. (h r).0) (λ r. (k r).0) j) λ z.
      net_then (net_select (λ at. u (suc at)) (λ at. v (suc at)) c a b s (λ r. (h r.0).1) (λ r. (k r.0).1) (λ r. j r.0)) λ zs.
      net_pure (λ r. (r.0.1, r.1))

  -- a bit joined with further ones
  pub net_fold_from : (kind : BitwiseKind) (c : Bit) (u : ℕ → Bit) (acc : SigBit) (bits : List SigBit) {R : Type 0} → (R → l.Has c acc) → (R → Goods u bits)
      → Net R (fold_from kind acc bits) (l.Has (folded_at kind c u (length bits)))
  net_fold_from kind c u acc [] h k = net_pure h
  net_fold_from kind c u acc (b ∷ bits) h k =
      net_then (net_bitwise kind c (u 0) h (λ r. (k r).0)) λ y.
      net_fold_from kind (output_of (gate_for kind) c (u 0) X) (λ at. u (suc at)) y bits (λ r. r.1) (λ r. (k r.0).1)

  -- all bits of a word joined
  pub net_fold : (kind : BitwiseKind) (u : ℕ → Bit) (bits : List SigBit) {R : Type 0} → (R → Goods u bits) → Net R (fold_of kind bits) (l.Has (joined_at kind u (length bits)))
  net_fold And u [] h = net_pure (λ r. l.constant S1)
  net_fold Or u [] h = net_pure (λ r. l.constant S0)
  net_fold Xor u [] h = net_pure (λ r. l.constant S0)
  net_fold Xnor u [] h = net_pure (λ r. l.constant S1)
  net_fold kind u (b ∷ bits) h = net_fold_from kind (u 0) (λ at. u (suc at)) b bits (λ r. (h r).0) (λ r. (h r).1)

  -- a bit of a sum, and the carry
  pub net_adder : {R : Type 0} (u v w : Bit) {a b c : SigBit} → (R → l.Has u a) → (R → l.Has v b) → (R → l.Has w c)
      → Net R (adder_of a b c) (λ digit. l.Has (sum_bit u v w) digit.0 × l.Has (carry_bit u v w) digit.1)
  net_adder u v w h k j =
      net_then (net_bitwise Xor u v h k) λ p.
      net_then (net_bitwise Xor (xor_of u v) w (λ r. r.1) (λ r. j r.0)) λ s.
      net_then (net_bitwise And u v (λ r. h r.0.0) (λ r. k r.0.0)) λ g.
      net_then (net_bitwise And (xor_of u v) w (λ r. r.0.0.1) (λ r. j r.0.0.0)) λ t.
      net_then (net_bitwise Or (and_of u v) (and_of (xor_of u v) w) (λ r. r.0.1) (λ r. r.1)) λ carry.
      net_pure (λ r. (r.0.0.0.1, r.1))

  -- what the sum of two words and a carry has
  abbrev pub IsSum : (ℕ → Bit) → (ℕ → Bit) → Bit → ℕ → Total → Type 0
  IsSum u v c width total =
      Goods (λ at. sum_bit (u at) (v at) (carry_at u v c at)) total.bits
      × l.Has (carry_at u v c width) total.carry
      × (length total.bits ≡ width)

  pub net_sum : (u v : ℕ → Bit) (w : Bit) (a b : List SigBit) (c : SigBit) {R : Type 0} → (R → Goods u a) → (R → Goods v b) → (R → l.Has w c) → (R → length a ≡ length b)
      → Net R (sum_of a b c) (IsSum u v w (length a))
  net_sum u v w [] b c h k j e = net_pure (λ r. (tt, j r, refl))
  net_sum u v w (x ∷ a) [] c h k j e = net_pure (λ r. absurd (no_length (length a) (e r)))
  net_sum u v w (x ∷ a) (y ∷ b) c h k j e =
      net_then (net_adder (u 0) (v 0) w (λ r. (h r).0) (λ r. (k r).0) j) λ digit.
      net_then (net_sum (λ at. u (suc at)) (λ at. v (suc at)) (carry_bit (u 0) (v 0) w) a b digit.1 (λ r. (h r.0).1) (λ r. (k r.0).1) (λ r. r.1.1) (λ r. same_rest (length a) (length b) (e r.0))) λ rest.
      net_pure (λ r. ((r.0.1.0, r.1.0), r.1.1, ap suc r.1.2))

  -- zeros are below themselves
  goods_zeros : (n : ℕ) → Goods (λ at. S0) (replicate n (Fixed S0))
  goods_zeros zero = tt
  goods_zeros (suc n) = (l.constant S0, goods_zeros n)

  -- the two's complement of a word
  pub net_negative : {R : Type 0} (u : ℕ → Bit) (bits : List SigBit) → (R → Goods u bits)
      → Net R (negative_of bits) (λ ys. Goods (λ at. sum_bit S0 (not_of (u at)) (carry_at (λ i. S0) (λ i. not_of (u i)) S1 at)) ys × (length ys ≡ length bits))
  net_negative u bits h =
      net_then (net_inverse u bits h) λ inverse.
      net_then (net_sum (λ i. S0) (λ i. not_of (u i)) S1 (replicate (length bits) (Fixed S0)) inverse (Fixed S1) (λ r. goods_zeros (length bits)) (λ r. r.1.0) (λ r. l.constant S1) (λ r. length-replicate (length bits) (Fixed S0) ∙ sym r.1.1)) λ total.
      net_pure (λ r. (r.1.0, r.1.2 ∙ length-replicate (length bits) (Fixed S0)))
