-- How often bits stand among those that rules update.
use Rattle.std.proofs.Common.{◌≡◌, ℕ, ◌+◌, ◌-◌, ◌<◌, ◌≤◌, min, max, Bool, true, false, cond, List, [], ◌∷◌, ◌++◌, length, get_or, drop, refl, sym, ◌∙◌, ap, subst, arith}
use Rattle.std.proofs.lemmas.Bool.{false≢true}
use Rattle.rtl_sig.specs.declared.sig.WireBit.{WireBit}
use Rattle.rtl_ir.specs.declared.process.SyncRule.{SyncRule}
use Rattle.rtl_ir.specs.Assigns.{left_bits}
use Rattle.rtl_ir.specs.Rules.{acting_rules, beyond, updated_bits, updated_by, without_bit}
use Rattle.rtl_ir.specs.Signals.{same_bit}
use Rattle.process_trees.specs.Acting.{acts}
use Rattle.process_trees.specs.Numbers.{ByBit}
use Rattle.process_check.specs.Updates.{AreCounts, AreGiven, AreRaised, count_in, counted, own_bits, times}
use Rattle.process_check.proofs.Among.{same_bit-refl, same_bit-true}
use Rattle.process_trees.proofs.Fronts.{front}

pub times-append : (xs ys : List WireBit) (b : WireBit) → times (xs ++ ys) b ≡ times xs b + times ys b
times-append [] ys b = omega arith
times-append (x ∷ xs) ys b = by (same_bit x b) (times-append xs ys b)
  where
    by : (t : Bool) → times (xs ++ ys) b ≡ times xs b + times ys b → cond t (1 + times (xs ++ ys) b) (times (xs ++ ys) b) ≡ cond t (1 + times xs b) (times xs b) + times ys b
    by true e = omega (arith, e)
    by false e = e

-- a bit that is not this one
apart : (b c d : WireBit) → same_bit b c ≡ false → same_bit b d ≡ true → same_bit c d ≡ false
apart b c d other same = ap (same_bit c) (sym (same_bit-true b d same)) ∙ by (same_bit c b) refl
  where
    by : (t : Bool) → same_bit c b ≡ t → same_bit c b ≡ false
    by true e = absurd (false≢true (sym other ∙ ap (same_bit b) (same_bit-true c b e) ∙ same_bit-refl b))
    by false e = e

times-without : (b : WireBit) (bits : List WireBit) (d : WireBit) → times (without_bit b bits) d ≡ times bits d - cond (same_bit b d) 1 0
times-without b [] d = by (same_bit b d)
  where
    by : (t : Bool) → 0 ≡ 0 - cond t 1 0
    by true = refl
    by false = refl
times-without b (c ∷ bits) d = by (same_bit b c) refl (times-without b bits d)
  where
    found : (t : Bool) → times bits d ≡ cond t (1 + times bits d) (times bits d) - cond t 1 0
    found true = omega arith
    found false = omega arith

    passed : (t s : Bool) → same_bit b d ≡ t → same_bit c d ≡ s → same_bit b c ≡ false → times (without_bit b bits) d ≡ times bits d - cond t 1 0
        → cond s (1 + times (without_bit b bits) d) (times (without_bit b bits) d) ≡ cond s (1 + times bits d) (times bits d) - cond t 1 0
    passed true true e f other rest = absurd (false≢true (sym (apart b c d other e) ∙ f))
    passed true false e f other rest = rest
    passed false s e f other rest =
        let same : times (without_bit b bits) d ≡ times bits d = omega (arith, rest) in
        ap (λ n. cond s (1 + n) n) same ∙ omega arith

    by : (t : Bool) → same_bit b c ≡ t → times (without_bit b bits) d ≡ times bits d - cond (same_bit b d) 1 0
        → times (cond t bits (c ∷ without_bit b bits)) d ≡ cond (same_bit c d) (1 + times bits d) (times bits d) - cond (same_bit b d) 1 0
    by true e rest =
        let P : WireBit → Type 0 = λ x. times bits d ≡ cond (same_bit x d) (1 + times bits d) (times bits d) - cond (same_bit b d) 1 0 in
        subst P (same_bit-true b c e) (found (same_bit b d))
    by false e rest = passed (same_bit b d) (same_bit c d) refl refl e rest

times-beyond : (seen bits : List WireBit) (d : WireBit) → times (beyond seen bits) d ≡ times bits d - times seen d
times-beyond [] bits d = omega arith
times-beyond (b ∷ seen) bits d =
    times-beyond seen (without_bit b bits) d ∙ ap (λ n. n - times seen d) (times-without b bits d) ∙ by (same_bit b d)
  where
    by : (t : Bool) → (times bits d - cond t 1 0) - times seen d ≡ times bits d - cond t (1 + times seen d) (times seen d)
    by true = omega arith
    by false = omega arith

-- the bits that rules update, one rule before them
pub updated_front : (r : SyncRule) (rs : List SyncRule) (b : WireBit) → count_in (updated_bits (r ∷ rs)) b ≡ max (count_in (own_bits r) b) (count_in (updated_bits rs) b)
updated_front r rs b = by (acts r)
  where
    by : (t : Bool) → count_in (updated_by (cond t (r ∷ acting_rules rs) (acting_rules rs))) b ≡ max (count_in (cond t (left_bits r.updates) []) b) (count_in (updated_bits rs) b)
    by true =
        ap (min 2) (times-append (left_bits r.updates) (beyond (left_bits r.updates) (updated_bits rs)) b)
        ∙ ap (λ n. min 2 (times (left_bits r.updates) b + n)) (times-beyond (left_bits r.updates) (updated_bits rs) b)
        ∙ omega arith
    by false = omega arith

-- one rule further
pub rule_next : (rules : List SyncRule) (i : ℕ) (r : SyncRule) → i < length rules → r ≡ get_or rules i r → (given new : List WireBit) → AreRaised given (own_bits r) new
    → (b : WireBit) (all : ℕ) → max (count_in given b) (count_in (updated_bits (drop i rules)) b) ≡ all → max (count_in new b) (count_in (updated_bits (drop (i + 1) rules)) b) ≡ all
rule_next rules i r h is given new raised b all before =
    let rest = count_in (updated_bits (drop (i + 1) rules)) b in
    let split : count_in (updated_bits (drop i rules)) b ≡ max (count_in (own_bits r) b) rest = ap (λ rs. count_in (updated_bits rs) b) (front rules i r h is) ∙ updated_front r (drop (i + 1) rules) b in
    ap (λ n. max n rest) (raised b) ∙ assoc (count_in given b) (count_in (own_bits r) b) rest ∙ sym (ap (max (count_in given b)) split) ∙ before
  where
    assoc : (x y z : ℕ) → max (max x y) z ≡ max x (max y z)
    assoc x y z = omega arith

-- nothing more of a rule that does not act
pub none_raised : (r : SyncRule) → acts r ≡ false → (given : List WireBit) → AreRaised given (own_bits r) given
none_raised r e given b = sym (ap (λ t. max (count_in given b) (count_in (cond t (left_bits r.updates) []) b)) e ∙ omega arith)

flip : (b c : WireBit) → same_bit b c ≡ false → same_bit c b ≡ false
flip b c other = by (same_bit c b) refl
  where
    by : (t : Bool) → same_bit c b ≡ t → same_bit c b ≡ false
    by true e = absurd (false≢true (sym other ∙ ap (same_bit b) (same_bit-true c b e) ∙ same_bit-refl b))
    by false e = e

-- one bit more
added : (bits : List WireBit) (bit b : WireBit) → count_in (bits ++ bit ∷ []) b ≡ cond (same_bit b bit) (min 2 (count_in bits bit + 1)) (count_in bits b)
added bits bit b = by (same_bit b bit) refl
  where
    one : (t : Bool) → same_bit bit bit ≡ t → count_in (bits ++ bit ∷ []) bit ≡ min 2 (count_in bits bit + 1)
    one true e = ap (min 2) (times-append bits (bit ∷ []) bit) ∙ ap (λ t. min 2 (times bits bit + cond t 1 0)) e ∙ omega arith
    one false e = absurd (false≢true (sym e ∙ same_bit-refl bit))

    by : (t : Bool) → same_bit b bit ≡ t → count_in (bits ++ bit ∷ []) b ≡ cond t (min 2 (count_in bits bit + 1)) (count_in bits b)
    by true e =
        let P : WireBit → Type 0 = λ c. count_in (bits ++ bit ∷ []) c ≡ min 2 (count_in bits bit + 1) in
        subst P (sym (same_bit-true b bit e)) (one (same_bit bit bit) refl)
    by false e = ap (min 2) (times-append bits (bit ∷ []) b) ∙ ap (λ t. min 2 (times bits b + cond t 1 0)) (flip b bit e) ∙ omega arith

met_more : (here here' : ByBit ℕ) (own : List WireBit) (bit : WireBit) → AreCounts here own
    → ((b : WireBit) → counted here' b ≡ cond (same_bit b bit) (min 2 (counted here bit + 1)) (counted here b)) → AreCounts here' (own ++ bit ∷ [])
met_more here here' own bit is e b =
    e b ∙ (λ i. cond (same_bit b bit) (min 2 (is bit i + 1)) (is b i)) ∙ sym (added own bit b)

-- a bit that was met so often before
pub given_same : (given : List WireBit) (most here here' : ByBit ℕ) (before own : List WireBit) (bit : WireBit) (count : ℕ) → AreGiven given most here before own
    → count ≡ min 2 (counted here bit + 1) → ((b : WireBit) → counted here' b ≡ cond (same_bit b bit) (min 2 (counted here bit + 1)) (counted here b))
    → count ≤ counted most bit → AreGiven given most here' before (own ++ bit ∷ [])
given_same given most here here' before own bit count g is e low = record {
  most_counts = g.most_counts;
  own_counts = met_more here here' own bit g.own_counts e;
  raised = λ b. by b (same_bit b bit) refl ∙ sym (ap (max (count_in before b)) (added own bit b));
}
  where
    here_is : count_in given bit ≡ max (count_in before bit) (min 2 (count_in own bit + 1))
    here_is = let r = g.raised bit in let m = g.most_counts bit in let o = g.own_counts bit in omega (arith, r, m, o, is, low)

    by : (b : WireBit) (t : Bool) → same_bit b bit ≡ t → count_in given b ≡ max (count_in before b) (cond t (min 2 (count_in own bit + 1)) (count_in own b))
    by b true f =
        let P : WireBit → Type 0 = λ c. count_in given c ≡ max (count_in before c) (min 2 (count_in own bit + 1)) in
        subst P (sym (same_bit-true b bit f)) here_is
    by b false f = g.raised b

-- a bit that is met more often now
pub given_more : (given : List WireBit) (most most' here here' : ByBit ℕ) (before own : List WireBit) (bit : WireBit) (count : ℕ) → AreGiven given most here before own
    → count ≡ min 2 (counted here bit + 1) → ((b : WireBit) → counted here' b ≡ cond (same_bit b bit) (min 2 (counted here bit + 1)) (counted here b))
    → counted most bit < count → ((b : WireBit) → counted most' b ≡ cond (same_bit b bit) count (counted most b)) → AreGiven (given ++ bit ∷ []) most' here' before (own ++ bit ∷ [])
given_more given most most' here here' before own bit count g is e more f = record {
  most_counts = λ b. f b ∙ (λ i. cond (same_bit b bit) (count_is i) (g.most_counts b i)) ∙ sym (added given bit b);
  own_counts = met_more here here' own bit g.own_counts e;
  raised = λ b. added given bit b ∙ by b (same_bit b bit) refl ∙ sym (ap (max (count_in before b)) (added own bit b));
}
  where
    count_is : count ≡ min 2 (count_in given bit + 1)
    count_is = let r = g.raised bit in let m = g.most_counts bit in let o = g.own_counts bit in omega (arith, r, m, o, is, more)

    here_is : min 2 (count_in given bit + 1) ≡ max (count_in before bit) (min 2 (count_in own bit + 1))
    here_is = let r = g.raised bit in let m = g.most_counts bit in let o = g.own_counts bit in omega (arith, r, m, o, is, more)

    by : (b : WireBit) (t : Bool) → same_bit b bit ≡ t
        → cond t (min 2 (count_in given bit + 1)) (count_in given b) ≡ max (count_in before b) (cond t (min 2 (count_in own bit + 1)) (count_in own b))
    by b true h =
        let P : WireBit → Type 0 = λ c. min 2 (count_in given bit + 1) ≡ max (count_in before c) (min 2 (count_in own bit + 1)) in
        subst P (sym (same_bit-true b bit h)) here_is
    by b false h = g.raised b

-- at first nothing was met of a rule
pub given_first : (given : List WireBit) (most here : ByBit ℕ) → AreCounts most given → ((b : WireBit) → counted here b ≡ 0) → AreGiven given most here given []
given_first given most here is none = record {
  most_counts = is;
  own_counts = λ b. none b ∙ omega arith;
  raised = λ b. omega arith;
}
