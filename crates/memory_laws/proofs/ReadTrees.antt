-- A read tree has no less than the word at the address, place by place.
use Rattle.std.proofs.Common.{◌≡◌, ◌<◌, ◌≤◌, ℕ, zero, suc, ◌+◌, ◌*◌, ◌-◌, ◌^◌, Bool, true, false, ◌&&◌, List, [], ◌∷◌, ◌++◌, length, Option, Some, None, if◌then◌else◌, refl, sym, ◌∙◌, ap, subst, arith}
use Rattle.std.specs.Prelude.{drop, nat_le, slice_index_or, take}
use Rattle.std.proofs.Math.Nat.{mul_assoc, pow-succ'}
use Rattle.std.proofs.Math.Seq.{take-length}
use Rattle.rtl_bits.proofs.Lists.{all_known_true}
use Rattle.rtl_bits.proofs.Orders.{Below_refl, Below_trans, merge_left}
use Rattle.rtl_bits.proofs.Tables.{mux_of_mono}
use Rattle.rtl_bits.specs.Knowledge.{AreKnown, Below, IsKnown, all_known}
use Rattle.rtl_bits.specs.Numbers.{digit_of, number_of}
use Rattle.rtl_bits.specs.Tables.{merge_of, mux_of, seen_of}
use Rattle.rtl_bits.specs.declared.bit.Bit.{Bit}
use Rattle.rtl_bits.specs.declared.bit.Bit.TheVariants.{S0, S1, X, Z, M, Dash}
use Rattle.rtl_sig.specs.declared.sig.SigBit.{SigBit}
use Rattle.rtl_ir.specs.Build.{Building}
use Rattle.net_model.specs.Mem.Expand.{Word, halves, low_bit, mux_of_signals, or_unknown, read_tree, word_at}
use Rattle.net_model.specs.Words.{fetched_of}
use Rattle.build_laws.proofs.Growing.{Grows, grows_both, grows_none, met_before}
use Rattle.build_laws.proofs.Moments.{AreMet, Moment, seen, seen_all}
use Rattle.memory_laws.proofs.PortCells.{at, mux_at, mux_grows, whole_long}

pub halves_grow : (s : SigBit) (low high : Option (List SigBit)) (b : Building) → Grows b (halves s low high b).1
halves_grow s (Some a) (Some c) b = mux_grows a c s b
halves_grow s (Some a) None b = grows_none b
halves_grow s None other b = grows_none b

pub tree_grows : (words : List Word) (address : List SigBit) (j base : ℕ) (b : Building) → Grows b (read_tree words address j base b).1
tree_grows words address zero base b = grows_none b
tree_grows words address (suc j) base b =
    let low = read_tree words address j base b in
    let high = read_tree words address j (base + 2 ^ j) low.1 in
    grows_both b low.1 _ (tree_grows words address j base b)
    (grows_both low.1 high.1 _ (tree_grows words address j (base + 2 ^ j) low.1) (halves_grow (low_bit (drop j address)) low.0 high.0 high.1))

-- what may be there is as wide as this
abbrev pub IsAsWide : ℕ → Option (List SigBit) → Type 0
IsAsWide n None = Unit {0}
IsAsWide n (Some signal) = length signal ≡ n

halves_wide : (n : ℕ) (s : SigBit) (low high : Option (List SigBit)) (b : Building) → IsAsWide n low → IsAsWide n high → IsAsWide n (halves s low high b).0
halves_wide n s (Some a) (Some c) b h k = whole_long (length b.body.wires) (length a) ∙ h
halves_wide n s (Some a) None b h k = h
halves_wide n s None other b h k = k

module _ (n : ℕ) (words : List Word) (wide : (i : ℕ) → IsAsWide n (word_at words i)) (address : List SigBit) where
  pub tree_wide : (j base : ℕ) (b : Building) → IsAsWide n (read_tree words address j base b).0
  tree_wide zero base b = wide base
  tree_wide (suc j) base b =
      let low = read_tree words address j base b in
      let high = read_tree words address j (base + 2 ^ j) low.1 in
      halves_wide n (low_bit (drop j address)) low.0 high.0 high.1 (tree_wide j base b) (tree_wide j (base + 2 ^ j) low.1)

-- what is below two bits that are chosen between
pub mux_both : (f g s r : Bit) → Below f r → Below g r → Below (mux_of f g s) r
mux_both f g S0 r h k = Below_trans (seen_of f) f r (low f) h
  where
    low : (a : Bit) → Below (seen_of a) a
    low S0 = refl
    low S1 = refl
    low a = tt
mux_both f g S1 r h k = Below_trans (seen_of g) g r (low g) k
  where
    low : (a : Bit) → Below (seen_of a) a
    low S0 = refl
    low S1 = refl
    low a = tt
mux_both f g s r h k = Below_trans (merge_of f g) f r (merge_left f g) h

seen_back : (a r : Bit) → Below (seen_of a) r → Below a r
seen_back S0 r h = h
seen_back S1 r h = h
seen_back a r h = tt

-- the number of bits with a further one on top
number_more : (bits : List Bit) (b : Bit) → number_of (bits ++ b ∷ []) ≡ number_of bits + 2 ^ length bits * digit_of b
number_more [] b = omega arith
number_more (a ∷ bits) b =
    let rest = number_more bits b in
    let power = pow-succ' 2 (length bits) in
    let times : 2 ^ suc (length bits) * digit_of b ≡ 2 * (2 ^ length bits * digit_of b) = by (digit_of b) power in
    omega (arith, rest, times)
  where
    by : (d : ℕ) → 2 ^ suc (length bits) ≡ 2 * 2 ^ length bits → 2 ^ suc (length bits) * d ≡ 2 * (2 ^ length bits * d)
    by d e = ap (λ z. z * d) e ∙ mul_assoc 2 (2 ^ length bits) d

known_parts : (bits : List Bit) (b : Bit) → AreKnown (bits ++ b ∷ []) → AreKnown bits × IsKnown b
known_parts [] b h = (tt, h.0)
known_parts (a ∷ bits) b h = let k = known_parts bits b h.1 in ((h.0, k.0), k.1)

module _ (m : Moment) where
  -- what may be there has at a place
  abbrev pub tree_at : Option (List SigBit) → ℕ → Bit
  tree_at None k = X
  tree_at (Some signal) k = at m signal k

  pub or_at : (n : ℕ) (o : Option (List SigBit)) (k : ℕ) → Below (tree_at o k) (at m (or_unknown n o) k)
  or_at n None k = tt
  or_at n (Some signal) k = Below_refl (at m signal k)

  halves_stand : (n : ℕ) (s : SigBit) (low high : Option (List SigBit)) (b : Building) (k : ℕ) → n ≤ 65536 → k < n → IsAsWide n low → IsAsWide n high → AreMet m (halves s low high b).1.body.cells → (f g : Bit) → Below f (tree_at low k) → Below g (tree_at high k) → Below (mux_of f g (seen m s)) (tree_at (halves s low high b).0 k)
  halves_stand n s (Some a) (Some c) b k few lt wa wc met f g h i =
      let few' : length a ≤ 65536 = omega (arith, wa, few) in
      let lt' : k < length a = omega (arith, wa, lt) in
      Below_trans (mux_of f g (seen m s)) (mux_of (at m a k) (at m c k) (seen m s)) (at m (mux_of_signals a c s b).0 k)
      (mux_of_mono f (at m a k) g (at m c k) (seen m s) (seen m s) h i (Below_refl (seen m s)))
      (mux_at m a c s b k few' lt' met)
  halves_stand n s (Some a) None b k few lt wa wc met f g h i =
      mux_both f g (seen m s) (at m a k) h (Below_trans g X (at m a k) i tt)
  halves_stand n s None other b k few lt wa wc met f g h i =
      mux_both f g (seen m s) (tree_at other k) (Below_trans f X (tree_at other k) h tt) i

  seen_more : (address : List SigBit) (j : ℕ) → j < length address → seen_all m (take (suc j) address) ≡ seen_all m (take j address) ++ seen m (low_bit (drop j address)) ∷ []
  seen_more [] j lt = absurd (omega (arith, lt))
  seen_more (s ∷ address) zero lt = refl
  seen_more (s ∷ address) (suc j) lt = ap (λ z. seen m s ∷ z) (seen_more address j (omega (arith, lt)))

  seen_long : (address : List SigBit) (j : ℕ) → j ≤ length address → length (seen_all m (take j address)) ≡ j
  seen_long address zero le = refl
  seen_long [] (suc j) le = absurd (omega (arith, le))
  seen_long (s ∷ address) (suc j) le = ap suc (seen_long address j (omega (arith, le)))

  module _ (n k : ℕ) (few : n ≤ 65536) (lt : k < n) (words : List Word) (wide : (i : ℕ) → IsAsWide n (word_at words i)) (address : List SigBit) (f : ℕ → Bit) (stand : (i : ℕ) → Below (f i) (tree_at (word_at words i) k)) where
    -- the number of the lowest bits of the address
    abbrev low_number : ℕ → ℕ
    low_number j = number_of (seen_all m (take j address))

    chosen : (F G s r : Bit) (N b0 b1 : ℕ) → IsKnown s → F ≡ f (b0 + N) → G ≡ f (b1 + N) → Below (mux_of F G s) r → (j : ℕ) → b1 ≡ b0 + 2 ^ j → Below (f (b0 + (N + 2 ^ j * digit_of s))) r
    chosen F G S0 r N b0 b1 known eF eG h j e =
        let same : b0 + N ≡ b0 + (N + 2 ^ j * 0) = omega arith in
        subst (λ z. Below z r) (eF ∙ ap f same) (seen_back F r h)
    chosen F G S1 r N b0 b1 known eF eG h j e =
        let same : b1 + N ≡ b0 + (N + 2 ^ j * 1) = omega (arith, e) in
        subst (λ z. Below z r) (eG ∙ ap f same) (seen_back G r h)
    chosen F G X r N b0 b1 known eF eG h j e = absurd known
    chosen F G Z r N b0 b1 known eF eG h j e = absurd known
    chosen F G M r N b0 b1 known eF eG h j e = absurd known
    chosen F G Dash r N b0 b1 known eF eG h j e = absurd known

    tree_stands : (j base : ℕ) (b : Building) → j ≤ length address → AreKnown (seen_all m (take j address)) → AreMet m (read_tree words address j base b).1.body.cells → Below (f (base + low_number j)) (tree_at (read_tree words address j base b).0 k)
    tree_stands zero base b le known met =
        let none : base ≡ base + 0 = omega arith in
        subst (λ z. Below (f z) (tree_at (word_at words base) k)) none (stand base)
    tree_stands (suc j) base b le known met =
        let low = read_tree words address j base b in
        let high = read_tree words address j (base + 2 ^ j) low.1 in
        let s : SigBit = low_bit (drop j address) in
        let under : j < length address = omega (arith, le) in
        let under' : j ≤ length address = omega (arith, le) in
        let parts = known_parts (seen_all m (take j address)) (seen m s) (subst AreKnown (seen_more address j under) known) in
        let met_high : AreMet m high.1.body.cells = met_before m high.1 _ (halves_grow s low.0 high.0 high.1) met in
        let met_low : AreMet m low.1.body.cells = met_before m low.1 high.1 (tree_grows words address j (base + 2 ^ j) low.1) met_high in
        let both = halves_stand n s low.0 high.0 high.1 k few lt (tree_wide n words wide address j base b) (tree_wide n words wide address j (base + 2 ^ j) low.1) met (f (base + low_number j)) (f ((base + 2 ^ j) + low_number j)) (tree_stands j base b under' parts.0 met_low) (tree_stands j (base + 2 ^ j) low.1 under' parts.0 met_high) in
        let long : 2 ^ length (seen_all m (take j address)) * digit_of (seen m s) ≡ 2 ^ j * digit_of (seen m s) = ap (λ z. 2 ^ z * digit_of (seen m s)) (seen_long address j under') in
        let number : low_number (suc j) ≡ low_number j + 2 ^ j * digit_of (seen m s) =
        ap number_of (seen_more address j under) ∙ number_more (seen_all m (take j address)) (seen m s) ∙ ap (λ z. low_number j + z) long in
        subst (λ z. Below (f (base + z)) (tree_at (read_tree words address (suc j) base b).0 k)) (sym number)
        (chosen (f (base + low_number j)) (f ((base + 2 ^ j) + low_number j)) (seen m s) (tree_at (read_tree words address (suc j) base b).0 k) (low_number j) base (base + 2 ^ j) parts.1 refl refl both j refl)

    -- the whole tree, over a known address
    pub known_stands : (b : Building) → AreKnown (seen_all m address) → AreMet m (read_tree words address (length address) 0 b).1.body.cells → Below (f (number_of (seen_all m address))) (tree_at (read_tree words address (length address) 0 b).0 k)
    known_stands b known met =
        let all : take (length address) address ≡ address = take-length address in
        let none : 0 + number_of (seen_all m (take (length address) address)) ≡ number_of (seen_all m (take (length address) address)) = omega arith in
        subst (λ z. Below (f z) (tree_at (read_tree words address (length address) 0 b).0 k)) (none ∙ ap (λ z. number_of (seen_all m z)) all)
        (tree_stands (length address) 0 b (omega arith) (subst (λ z. AreKnown (seen_all m z)) (sym all) known) met)

  -- the word of a number, of the words from a first one on
  abbrev pub word_of : ℕ → List Bit → ℕ → Bit
  word_of first words i = if nat_le first i then slice_index_or words (i - first) X else X

  -- what is read at an address
  pub read_stands : (n k : ℕ) → n ≤ 65536 → k < n → (words : List Word) → ((i : ℕ) → IsAsWide n (word_at words i)) → (address : List SigBit) (first : ℕ) (values : List Bit) → ((i : ℕ) → Below (word_of first values i) (tree_at (word_at words i) k)) → (b : Building) → AreMet m (read_tree words address (length address) 0 b).1.body.cells
      → Below (fetched_of (seen_all m address) first values) (tree_at (read_tree words address (length address) 0 b).0 k)
  read_stands n k few lt words wide address first values stand b met =
      by (all_known (seen_all m address)) refl
    where
      by : (t : Bool) → all_known (seen_all m address) ≡ t → Below (if t && nat_le first (number_of (seen_all m address)) then slice_index_or values (number_of (seen_all m address) - first) X else X) (tree_at (read_tree words address (length address) 0 b).0 k)
      by true is =
          known_stands n k few lt words wide address (word_of first values) stand b (all_known_true (seen_all m address) is) met
      by false is = tt
