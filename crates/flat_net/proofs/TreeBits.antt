-- The tree bits of a process, found one after another from the last one on.
use Rattle.std.proofs.Common.{◌≡◌, ℕ, zero, suc, ◌+◌, ◌-◌, ◌<◌, ◌≤◌, Bool, true, false, if◌then◌else◌, ◌&&◌, ◌||◌, true≢false, List, [], ◌∷◌, ◌++◌, length, get_or, drop, position, Option, Some, None, slice_get, refl, sym, ◌∙◌, ap, subst, arith}
use Rattle.std.specs.Prelude.{nat_eq, nat_lt, not, cond, reverse}
use Rattle.std.specs.List.{IsDistinct, list_any, position_or_len}
use Rattle.std.proofs.Math.Seq.{drop-cons}
use Rattle.std.proofs.lemmas.List.{reverse-append}
use Rattle.std.specs.Option.{is_some}
use Rattle.std.proofs.lemmas.Bool.{eqb-true, eq-eqb, le-ltb, lt-ltb, ltb-false, ltb-true}
use Rattle.std.proofs.lemmas.List.Quantifiers.{position-Some}
use Rattle.std.proofs.lemmas.Option.{slice_get-get_or}
use Rattle.indexmap.specs.IndexSet.{insert_key}
use Rattle.rtl_sig.specs.declared.sig.WireBit.{WireBit}
use Rattle.rtl_ir.specs.Assigns.{each_once}
use Rattle.rtl_ir.specs.Signals.{has_bit, same_bit}
use Rattle.rtl_sig.specs.declared.sig.SigBit.{SigBit}
use Rattle.rtl_sig.specs.declared.sig.SigBit.TheVariants.{Fixed, Wire as OnWire}
use Rattle.flat_net.specs.Trees.{IsFound, place_in}
use Rattle.flat_net.specs.Within.{IsPlaceWithin}
use Rattle.flat_net.proofs.Apart.{one_number}

pub drop_here : {A : Type 0} (items : List A) (i : ℕ) (d : A) → 0 < i → i ≤ length items → drop (i - 1) items ≡ get_or items (i - 1) d ∷ drop i items
drop_here items i d p h =
    let e : suc (i - 1) ≡ i = omega arith in
    drop-cons items (i - 1) d (omega arith) ∙ ap (λ k. get_or items (i - 1) d ∷ drop k items) e

any-append : (test : WireBit → Bool) (xs ys : List WireBit) → list_any test (xs ++ ys) ≡ (list_any test xs || list_any test ys)
any-append test [] ys = refl
any-append test (x ∷ xs) ys = by (any-append test xs ys) (test x)
  where
    by : list_any test (xs ++ ys) ≡ (list_any test xs || list_any test ys) → (t : Bool) → (t || list_any test (xs ++ ys)) ≡ ((t || list_any test xs) || list_any test ys)
    by rest true = refl
    by rest false = rest

or_swap : (a b : Bool) → (a || (b || false)) ≡ (b || a)
or_swap true true = refl
or_swap true false = refl
or_swap false true = refl
or_swap false false = refl

pub any-reverse : (test : WireBit → Bool) (xs : List WireBit) → list_any test (reverse xs) ≡ list_any test xs
any-reverse test [] = refl
any-reverse test (x ∷ xs) =
    ap (list_any test) (reverse-append (x ∷ []) xs)
    ∙ any-append test (reverse xs) (x ∷ [])
    ∙ ap (λ t. t || (test x || false)) (any-reverse test xs)
    ∙ or_swap (list_any test xs) (test x)

and_parts : (a b : Bool) → (a && b) ≡ true → (a ≡ true) × (b ≡ true)
and_parts true b h = (refl, h)
and_parts false b h = absurd (true≢false (sym h))

pub bits_same : (a b : WireBit) → same_bit a b ≡ true → a ≡ b
bits_same a b h =
    let l = and_parts _ _ h in
    let wire : a.wire ≡ b.wire = eqb-true _ _ l.0 in
    let at : a.at ≡ b.at = eqb-true _ _ l.1 in
    λ i. record { wire = wire i; at = at i }

bit_itself : (a : WireBit) → same_bit a a ≡ true
bit_itself a = rw (eq-eqb a.wire a.wire refl, eq-eqb a.at a.at refl) refl

bit_back : (a b : WireBit) → same_bit a b ≡ false → same_bit b a ≡ false
bit_back a b h = by (same_bit b a) refl
  where
    by : (t : Bool) → same_bit b a ≡ t → same_bit b a ≡ false
    by true e = absurd (true≢false (sym (subst (λ z. same_bit a z ≡ true) (sym (bits_same b a e)) (bit_itself a)) ∙ h))
    by false e = e

-- those that come once are the same
once-has : (bits : List WireBit) (b : WireBit) → list_any (same_bit b) (each_once bits) ≡ has_bit bits b
once-has [] b = refl
once-has (c ∷ bits) b = by (once-has bits b) (has_bit bits c) refl
  where
    by : list_any (same_bit b) (each_once bits) ≡ has_bit bits b → (t : Bool) → has_bit bits c ≡ t → list_any (same_bit b) (if t then each_once bits else c ∷ each_once bits) ≡ (same_bit b c || has_bit bits b)
    by rest false e = ap (λ t. same_bit b c || t) rest
    by rest true e = rest ∙ there (same_bit b c) refl
      where
        there : (s : Bool) → same_bit b c ≡ s → has_bit bits b ≡ (s || has_bit bits b)
        there true f = subst (λ z. has_bit bits z ≡ true) (sym (bits_same b c f)) e
        there false f = refl

-- one bit more from the front
pub once_next : (keys new : List WireBit) (b : WireBit) (rest : List WireBit) → reverse keys ≡ each_once rest → new ≡ insert_key same_bit keys b → reverse new ≡ each_once (b ∷ rest)
once_next keys new b rest h put =
    ap reverse put ∙ by (list_any (same_bit b) keys) refl
  where
    same : list_any (same_bit b) keys ≡ has_bit rest b
    same = sym (any-reverse (same_bit b) keys) ∙ ap (list_any (same_bit b)) h ∙ once-has rest b

    by : (t : Bool) → list_any (same_bit b) keys ≡ t → reverse (if t then keys else keys ++ b ∷ []) ≡ (if has_bit rest b then each_once rest else b ∷ each_once rest)
    by true e = h ∙ ap (λ t. if t then each_once rest else b ∷ each_once rest) (sym e ∙ same)
    by false e =
        reverse-append keys (b ∷ [])
        ∙ ap (λ xs. b ∷ xs) h
        ∙ ap (λ t. if t then each_once rest else b ∷ each_once rest) (sym e ∙ same)

pub once_here : (keys new bits : List WireBit) (i : ℕ) (d : WireBit) → 0 < i → i ≤ length bits → reverse keys ≡ each_once (drop i bits) → new ≡ insert_key same_bit keys (get_or bits (i - 1) d) → reverse new ≡ each_once (drop (i - 1) bits)
once_here keys new bits i d p l h put = once_next keys new (get_or bits (i - 1) d) (drop i bits) h put ∙ ap each_once (sym (drop_here bits i d p l))

-- one of them passes a test
any_at : (test : WireBit → Bool) (keys : List WireBit) (at : ℕ) (b : WireBit) → slice_get keys at ≡ Some b → test b ≡ true → list_any test keys ≡ true
any_at test [] at b e h = absurd (let none : None ≡ Some b = e in cc)
any_at test (k ∷ keys) zero b e h = let is : k ≡ b = cc in ap (λ t. t || list_any test keys) (subst (λ z. test z ≡ true) (sym is) h)
any_at test (k ∷ keys) (suc at) b e h = by (any_at test keys at b e h) (test k)
  where
    by : list_any test keys ≡ true → (t : Bool) → (t || list_any test keys) ≡ true
    by rest true = refl
    by rest false = rest

-- a bit is found at its place alone
pub found_at : (bit : WireBit) (keys : List WireBit) (found : Option ℕ) → found ≡ position (same_bit bit) keys → is_some found ≡ list_any (same_bit bit) keys → IsDistinct same_bit keys → IsFound keys bit found
found_at bit keys None e some d at b h = by (same_bit bit b) refl
  where
    by : (t : Bool) → same_bit bit b ≡ t → false ≡ same_bit bit b
    by true f = absurd (true≢false (sym (any_at (same_bit bit) keys at b h f) ∙ sym some))
    by false f = sym f
found_at bit keys (Some i) e some d at b h =
    let parts = position-Some (same_bit bit) keys i b (sym e) in
    let here : bit ≡ get_or keys i b = bits_same bit (get_or keys i b) parts.1 in
    by (slice_get-get_or keys i b parts.0 ∙ ap Some (sym here)) (nat_eq i at) refl (same_bit bit b) refl
  where
    by : slice_get keys i ≡ Some bit → (t : Bool) → nat_eq i at ≡ t → (s : Bool) → same_bit bit b ≡ s → nat_eq i at ≡ same_bit bit b
    by there true f true g = f ∙ sym g
    by there true f false g =
        let one : Some bit ≡ Some b = sym there ∙ ap (slice_get keys) (eqb-true i at f) ∙ h in
        let same : bit ≡ b = cc in
        absurd (true≢false (sym (subst (λ z. same_bit bit z ≡ true) same (bit_itself bit)) ∙ g))
    by there false f true g =
        let same : b ≡ bit = sym (bits_same bit b g) in
        absurd (true≢false (sym (eq-eqb i at (one_number same_bit bit_itself keys d i at bit there (h ∙ ap Some same))) ∙ f))
    by there false f false g = f ∙ sym g

-- a bit is one of these just where it has a place

lt_behind : (m n : ℕ) → nat_lt (suc m) (suc n) ≡ nat_lt m n
lt_behind m n = by (nat_lt m n) refl
  where
    by : (t : Bool) → nat_lt m n ≡ t → nat_lt (suc m) (suc n) ≡ t
    by true e = let h = ltb-true m n e in lt-ltb (suc m) (suc n) (omega arith)
    by false e = let h = ltb-false m n e in le-ltb (suc m) (suc n) (omega arith)

pub placed_any : (test : WireBit → Bool) (bits : List WireBit) → nat_lt (position_or_len test bits) (length bits) ≡ list_any test bits
placed_any test [] = refl
placed_any test (c ∷ bits) = by (placed_any test bits) (test c)
  where
    by : nat_lt (position_or_len test bits) (length bits) ≡ list_any test bits → (t : Bool) → nat_lt (cond (not t) (1 + position_or_len test bits) 0) (suc (length bits)) ≡ (t || list_any test bits)
    by rest true = lt-ltb 0 (suc (length bits)) (omega arith)
    by rest false = let next : 1 + position_or_len test bits ≡ suc (position_or_len test bits) = omega arith in rw next (lt_behind (position_or_len test bits) (length bits) ∙ rest)

pub not_placed : (bits : List WireBit) (b : WireBit) → position (same_bit b) bits ≡ None → has_bit bits b ≡ false
not_placed bits b e = sym (placed_any (same_bit b) bits) ∙ by (nat_lt (position_or_len (same_bit b) bits) (length bits)) e
  where
    by : (t : Bool) → cond t (Some (position_or_len (same_bit b) bits)) None ≡ None → t ≡ false
    by true h = absurd (cc)
    by false h = refl

pub placed_at : (bits : List WireBit) (b : WireBit) (at : ℕ) → position (same_bit b) bits ≡ Some at → (slice_get bits at ≡ Some b) × (has_bit bits b ≡ true)
placed_at bits b at e =
    let parts = position-Some (same_bit b) bits at b e in
    let there : slice_get bits at ≡ Some b = slice_get-get_or bits at b parts.0 ∙ ap Some (sym (bits_same b (get_or bits at b) parts.1)) in
    (there, any_at (same_bit b) bits at b there (bit_itself b))

-- the place of a bit is within the width
pub source_within : (bits : List WireBit) (s : SigBit) (place : Option ℕ) → place ≡ place_in bits s → IsPlaceWithin (length bits) place
source_within bits (Fixed c) place e = subst (IsPlaceWithin (length bits)) (sym e) tt
source_within bits (OnWire b) place e = subst (IsPlaceWithin (length bits)) (sym e) (by (position (same_bit b) bits) refl)
  where
    by : (o : Option ℕ) → position (same_bit b) bits ≡ o → IsPlaceWithin (length bits) o
    by None f = tt
    by (Some at) f = (position-Some (same_bit b) bits at b f).0
