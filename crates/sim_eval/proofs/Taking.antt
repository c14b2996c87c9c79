-- Values that bits are given by number.
use Rattle.std.proofs.Common.{◌||◌, take, replicate, ◌≡◌, ℕ, zero, suc, ◌+◌, ◌<◌, ◌≤◌, Bool, true, false, not, ◌&&◌, cond, List, [], ◌∷◌, ◌++◌, length, get_or, set, map, inl, inr, ⊎_elim, refl, sym, ◌∙◌, ap, subst, arith}
use Rattle.std.specs.Prelude.{if◌then◌else◌, nat_eq, nat_lt, flat_map, Result, Ok, Err, IfOk, OnOk}
use Rattle.std.specs.List.{AllByRecursion}
use Rattle.std.proofs.lemmas.List.{take_more, append-nil, get_or-set_other}
use Rattle.std.proofs.lemmas.Grind.{flat_map-append}
use Rattle.std.proofs.lemmas.Bool.{true≢false, cond_both, and_parts, eq-eqb, eqb-true, lt-ltb, ltb-true}
use Rattle.rtl_bits.specs.declared.bit.Bit.{Bit}
use Rattle.rtl_bits.specs.declared.bit.Bit.TheVariants.{S0, S1, X, Z, M, Dash}
use Rattle.rtl_bits.specs.Knowledge.{FlatBelow}
use Rattle.rtl_bits.proofs.Orders.{FlatBelow_from_equal, FlatBelow_trans}
use Rattle.rtl_ir.specs.Flat.Driver.{Driven}
use Rattle.rtl_ir.specs.Flat.Place.{Place, place_same}
use Rattle.flat_net.specs.Points.{place_at, AreApart}
use Rattle.net_model.specs.Run.{Time}
use Rattle.net_model.specs.Settle.{Pointwise}
use Rattle.net_model.specs.Valuation.{Valuation}
use Rattle.net_model.specs.Value.{value_of}
use Rattle.net_model.proofs.Drivers.{value_kept, time_refl}
use Rattle.net_model.proofs.Members.{In-left, In-right, In-cases, In-map, In-mapped, map-append}
use Rattle.net_model.proofs.Orders.{flat as flat_order}
use Rattle.net_model.proofs.Places.{place_same-same}
use Rattle.sim_eval.specs.Advance.{AreMet, Advances, AreHeld, Fact, HasOrIsGiven, Takes, unknowns, AreFewer, AreUnder}
use Rattle.sim_eval.specs.Numbers.{is_x, gains, put_of}
use Rattle.sim_eval.specs.Shown.{shown}
use Rattle.sim_eval.proofs.Tables.{found_at, found_set, shown_unknown}

-- what a row gives
abbrev pub fact_of : Time Place → Valuation → Driven → Fact
fact_of t v r = record { place = r.place; value = value_of r.driver t v }

-- where each bit is given what its row gives of the old values, the rows lead there
pub advances_by : (ps : List Place) (t : Time Place) (rows : List Driven) (old new : List Bit) (changed : Bool) → Takes ps (map (fact_of t (shown ps old)) rows) old new changed → Advances ps t rows old new changed
advances_by ps t rows old new changed k = record {
  below = λ w m le. k.below w (held w m le) le;
  still = k.still;
  grows = k.grows;
  driven = λ n. ⊎_elim
      (λ e. inl e)
      (λ f. let r = In-mapped (fact_of t (shown ps old)) f.0 rows f.1 in inr (r.0, r.1, sym (ap (λ (z : Fact). z.place) r.2) ∙ f.2))
      (k.given n);
  reached = λ w m le r i. k.held w (held w m le) le (fact_of t (shown ps old) r) (In-map (fact_of t (shown ps old)) r rows i);
}
  where
    held : (w : Valuation) → AreMet rows t w → Pointwise FlatBelow (shown ps old) w → AreHeld (map (fact_of t (shown ps old)) rows) w
    held w m le f i =
        let k = In-mapped (fact_of t (shown ps old)) f rows i in
        subst (λ z. FlatBelow z.value (w z.place)) (sym k.2) (FlatBelow_trans _ _ _ (value_kept FlatBelow flat_order k.0.driver t t (time_refl FlatBelow flat_order t) (shown ps old) w le) (m k.0 k.1))

or_false : (a b : Bool) → (a || b) ≡ false → (a ≡ false) × (b ≡ false)
or_false true b e = absurd (true≢false e)
or_false false b e = (refl, e)

-- values stand below themselves
same_below : (v : Valuation) → Pointwise FlatBelow v v
same_below v q = FlatBelow_from_equal (v q) (v q) refl

-- rows that lead nowhere
pub advances_none : (ps : List Place) (t : Time Place) (old : List Bit) → Advances ps t [] old old false
advances_none ps t old = record {
  below = λ w m le. le;
  still = λ e. refl;
  grows = same_below (shown ps old);
  driven = λ n. inl refl;
  reached = λ w m le r i. absurd i;
}

-- rows after rows
pub advances_more : (ps : List Place) (t : Time Place) (rows more : List Driven) (a b c : List Bit) (f g : Bool) → Advances ps t rows a b f → Advances ps t more b c g → Advances ps t (rows ++ more) a c (f || g)
advances_more ps t rows more a b c f g h k = record {
  below = λ w m le. k.below w (right w m) (h.below w (left w m) le);
  still = λ e. let p = or_false f g e in h.still p.0 ∙ k.still p.1;
  grows = λ q. FlatBelow_trans _ _ _ (h.grows q) (k.grows q);
  driven = λ n. ⊎_elim
      (λ e. ⊎_elim (λ d. inl (e ∙ d)) (λ r. inr (r.0, In-right r.0 rows more r.1, r.2)) (k.driven n))
      (λ r. inr (r.0, In-left r.0 rows more r.1, r.2))
      (h.driven n);
  reached = λ w m le r i. ⊎_elim
      (λ j. FlatBelow_trans _ _ _ (h.reached w (left w m) le r j) (k.grows r.place))
      (λ j. FlatBelow_trans _ _ _ (value_kept FlatBelow flat_order r.driver t t (time_refl FlatBelow flat_order t) (shown ps a) (shown ps b) h.grows) (k.reached w (right w m) (h.below w (left w m) le) r j))
      (In-cases r rows more i);
}
  where
    left : (w : Valuation) → AreMet (rows ++ more) t w → AreMet rows t w
    left w m r i = m r (In-left r rows more i)

    right : (w : Valuation) → AreMet (rows ++ more) t w → AreMet more t w
    right w m r i = m r (In-right r rows more i)

pub takes_none : (ps : List Place) (old : List Bit) → Takes ps [] old old false
takes_none ps old = record {
  below = λ w m le. le;
  still = λ e. refl;
  grows = same_below (shown ps old);
  given = λ n. inl refl;
  held = λ w m le f i. absurd i;
}

-- values after values
pub takes_more : (ps : List Place) (facts more : List Fact) (a b c : List Bit) (f g : Bool) → Takes ps facts a b f → Takes ps more b c g → Takes ps (facts ++ more) a c (f || g)
takes_more ps facts more a b c f g h k = record {
  below = λ w m le. k.below w (right w m) (h.below w (left w m) le);
  still = λ e. let p = or_false f g e in h.still p.0 ∙ k.still p.1;
  grows = λ q. FlatBelow_trans _ _ _ (h.grows q) (k.grows q);
  given = λ n. ⊎_elim
      (λ e. ⊎_elim (λ d. inl (e ∙ d)) (λ r. inr (r.0, In-right r.0 facts more r.1, r.2)) (k.given n))
      (λ r. inr (r.0, In-left r.0 facts more r.1, r.2))
      (h.given n);
  held = λ w m le r i. ⊎_elim
      (λ j. FlatBelow_trans _ _ _ (h.held w (left w m) le r j) (k.grows r.place))
      (λ j. k.held w (right w m) (h.below w (left w m) le) r j)
      (In-cases r facts more i);
}
  where
    left : (w : Valuation) → AreHeld (facts ++ more) w → AreHeld facts w
    left w m r i = m r (In-left r facts more i)

    right : (w : Valuation) → AreHeld (facts ++ more) w → AreHeld more w
    right w m r i = m r (In-right r facts more i)

-- a bit that is not x, below another, is the other
pub known_same : (a c : Bit) → is_x a ≡ false → FlatBelow a c → c ≡ a
known_same X c e h = absurd (true≢false e)
known_same S0 c e h = h
known_same S1 c e h = h
known_same Z c e h = h
known_same M c e h = h
known_same Dash c e h = h

x_below : (a b : Bit) → is_x a ≡ true → FlatBelow a b
x_below X b e = tt
x_below S0 b e = absurd (true≢false (sym e))
x_below S1 b e = absurd (true≢false (sym e))
x_below Z b e = absurd (true≢false (sym e))
x_below M b e = absurd (true≢false (sym e))
x_below Dash b e = absurd (true≢false (sym e))

-- a bit that gains nothing has what it is given, or more
kept_above : (has given most : Bit) → is_x has && not (is_x given) ≡ false → FlatBelow has most → FlatBelow given most → FlatBelow given has
kept_above has given most e h k =
    by (is_x has) refl (is_x given) refl
  where
    by : (s : Bool) → is_x has ≡ s → (t : Bool) → is_x given ≡ t → FlatBelow given has
    by s f true g = x_below given has g
    by true f false g = absurd (true≢false (sym (ap (λ z. z && not (is_x given)) f ∙ ap not g) ∙ e))
    by false f false g = subst (λ z. FlatBelow given z) (known_same has most f h) k

module _ (ps : List Place) (old : List Bit) (n : ℕ) (value : Bit) (apart : AreApart ps) (same : length ps ≡ length old) (l : n < length ps) where
  -- a bit that is given a value
  pub takes_put : Takes ps (record { place = place_at ps n; value = value } ∷ []) old (put_of old n value) (gains old n value)
  takes_put =
      by (gains old n value) refl
    where
      fact : Fact
      fact = record { place = place_at ps n; value = value }

      within : nat_lt n (length old) ≡ true
      within = lt-ltb n (length old) (omega arith)

      -- a bit stands where it stood, or has the value
      set_cases : (P : Place → Bit → Type 0) → P (place_at ps n) value → (q : Place) → P q (shown ps old q) → P q (shown ps (set old n value) q)
      set_cases P h q k =
          subst (P q) (sym (found_set X ps old n value q apart same l)) (cond_both (place_same (place_at ps n) q) value (shown ps old q) (P q) (λ e. subst (λ z. P z value) ((place_same-same (place_at ps n) q).0 e) h) (λ e. k))

      set_below : (w : Valuation) → FlatBelow value (w (place_at ps n)) → Pointwise FlatBelow (shown ps old) w → Pointwise FlatBelow (shown ps (set old n value)) w
      set_below w h le q = set_cases (λ p b. FlatBelow b (w p)) h q (le q)

      at : shown ps old (place_at ps n) ≡ get_or old n X
      at = found_at X ps old n apart same l

      at_set : shown ps (set old n value) (place_at ps n) ≡ value
      at_set =
          found_set X ps old n value (place_at ps n) apart same l ∙ ap (λ s. cond s value (shown ps old (place_at ps n))) ((place_same-same (place_at ps n) (place_at ps n)).1 refl)

      -- a bit that gains a value was x
      was : gains old n value ≡ true → is_x (get_or old n X) ≡ true
      was e = (and_parts (is_x (get_or old n X)) (not (is_x value)) (and_parts (nat_lt n (length old)) (is_x (get_or old n X) && not (is_x value)) e).1).0

      set_grows : gains old n value ≡ true → Pointwise FlatBelow (shown ps old) (shown ps (set old n value))
      set_grows e q =
          set_cases (λ p b. FlatBelow (shown ps old p) b) (x_below (shown ps old (place_at ps n)) value (ap is_x at ∙ was e)) q (same_below (shown ps old) q)

      set_given : (k : ℕ) → HasOrIsGiven ps (fact ∷ []) old (set old n value) k
      set_given k = by (nat_eq n k) refl
        where
          by : (s : Bool) → nat_eq n k ≡ s → HasOrIsGiven ps (fact ∷ []) old (set old n value) k
          by true e = inr (fact, inl refl, ap (place_at ps) (eqb-true n k e))
          by false e = inl (sym (get_or-set_other old n k value X (λ f. true≢false (sym (eq-eqb n k (sym f)) ∙ e))))

      by : (g : Bool) → gains old n value ≡ g → Takes ps (fact ∷ []) old (if g then set old n value else old) g
      by true e = record {
        below = λ w m le. set_below w (m fact (inl refl)) le;
        still = λ f. absurd (true≢false f);
        grows = set_grows e;
        given = set_given;
        held = λ w m le r i. ⊎_elim
            (λ j. subst (λ z. FlatBelow z.value (shown ps (set old n value) z.place)) (sym j) (FlatBelow_from_equal value (shown ps (set old n value) (place_at ps n)) (sym at_set)))
            (λ j. absurd j)
            i;
      }
      by false e = record {
        below = λ w m le. le;
        still = λ f. refl;
        grows = same_below (shown ps old);
        given = λ k. inl refl;
        held = λ w m le r i. ⊎_elim
            (λ j. subst (λ z. FlatBelow z.value (shown ps old z.place)) (sym j) (kept w (m fact (inl refl)) le))
            (λ j. absurd j)
            i;
      }
        where
          kept : (w : Valuation) → FlatBelow value (w (place_at ps n)) → Pointwise FlatBelow (shown ps old) w → FlatBelow value (shown ps old (place_at ps n))
          kept w h le =
              subst (λ z. FlatBelow value z) (sym at) (kept_above (get_or old n X) value (w (place_at ps n)) (sym (ap (λ z. z && (is_x (get_or old n X) && not (is_x value))) within) ∙ e) (subst (λ z. FlatBelow z (w (place_at ps n))) at (le (place_at ps n))) h)

-- a bit that was x and is not is an x less
fewer_set : (old : List Bit) (n : ℕ) (value : Bit) → n < length old → is_x (get_or old n X) ≡ true → is_x value ≡ false → unknowns (set old n value) + 1 ≤ unknowns old
fewer_set [] n value l e f = absurd (omega arith)
fewer_set (b ∷ old) zero value l e f =
    let was : cond {A = ℕ} (is_x b) 1 0 ≡ 1 = ap (λ (z : Bool). cond {A = ℕ} z 1 0) e in
    let is : cond {A = ℕ} (is_x value) 1 0 ≡ 0 = ap (λ (z : Bool). cond {A = ℕ} z 1 0) f in
    omega arith
fewer_set (b ∷ old) (suc n) value l e f =
    omega (arith, fewer_set old n value (omega arith) e f)

not_true : (a : Bool) → not a ≡ true → a ≡ false
not_true true e = absurd (true≢false (sym e))
not_true false e = refl

-- a bit that gains a value is an x less
pub fewer_gained : (old : List Bit) (n : ℕ) (value : Bit) → gains old n value ≡ true → AreFewer old (set old n value) true
fewer_gained old n value e =
    let p = and_parts (nat_lt n (length old)) (is_x (get_or old n X) && not (is_x value)) e in
    let q = and_parts (is_x (get_or old n X)) (not (is_x value)) p.1 in
    fewer_set old n value (ltb-true n (length old) p.0) q.0 (not_true (is_x value) q.1)

pub fewer_same : (old : List Bit) → AreFewer old old false
fewer_same old = omega arith

-- a row whose bit is given what the row gives
pub advances_put : (ps : List Place) (t : Time Place) (r : Driven) (old : List Bit) (n : ℕ) (value : Bit) → AreApart ps → length ps ≡ length old → n < length ps → r.place ≡ place_at ps n → value_of r.driver t (shown ps old) ≡ value → Advances ps t (r ∷ []) old (put_of old n value) (gains old n value)
advances_put ps t r old n value apart same l e f =
    advances_by ps t (r ∷ []) old (put_of old n value) (gains old n value) (subst (λ z. Takes ps (z ∷ []) old (put_of old n value) (gains old n value)) (λ i. record { place = sym e i; value = sym f i }) (takes_put ps old n value apart same l))

-- the same, of what was put
pub advances_by_put : (ps : List Place) (t : Time Place) (r : Driven) (old new : List Bit) (changed : Bool) (n : ℕ) (value : Bit) → AreApart ps → length ps ≡ length old → n < length ps → r.place ≡ place_at ps n → value_of r.driver t (shown ps old) ≡ value → new ≡ put_of old n value → changed ≡ gains old n value → Advances ps t (r ∷ []) old new changed
advances_by_put ps t r old new changed n value apart same l e f put gain =
    subst (λ z. Advances ps t (r ∷ []) old new z) (sym gain) (subst (λ z. Advances ps t (r ∷ []) old z (gains old n value)) (sym put) (advances_put ps t r old n value apart same l e f))

-- a bit that has a value gains none
gains_none : (old : List Bit) (n : ℕ) (value : Bit) → is_x (get_or old n X) ≡ false → gains old n value ≡ false
gains_none old n value e =
    ap (λ z. nat_lt n (length old) && (z && not (is_x value))) e
    ∙ elim (nat_lt n (length old)) as (λ t. (t && false) ≡ false) [ true ↦ refl | false ↦ refl ]

-- a row whose bit has a value leads nowhere
pub advances_known : (ps : List Place) (t : Time Place) (r : Driven) (old : List Bit) (n : ℕ) → AreApart ps → length ps ≡ length old → n < length ps → r.place ≡ place_at ps n → not (is_x (get_or old n X)) ≡ true → Advances ps t (r ∷ []) old old false
advances_known ps t r old n apart same l e known =
    let value = value_of r.driver t (shown ps old) in
    let none : gains old n value ≡ false = gains_none old n value (not_true (is_x (get_or old n X)) known) in
    advances_by_put ps t r old old false n value apart same l e refl (sym (ap (λ z. if z then set old n value else old) none)) (sym none)

-- something is so of an element of a list where it is so of all
pub all_at : {A : Type 0} (P : A → Type 0) (xs : List A) (i : ℕ) (d : A) → AllByRecursion P xs → i < length xs → P (get_or xs i d)
all_at P [] i d h l = absurd (omega arith)
all_at P (x ∷ xs) zero d h l = h.0
all_at P (x ∷ xs) (suc i) d h l = all_at P xs i d h.1 (omega arith)

-- fewer bits are x, step by step
pub fewer_more : (a b c : List Bit) (f g : Bool) → AreFewer a b f → AreFewer b c g → AreFewer a c (f || g)
fewer_more a b c true true h k = omega (arith, h, k)
fewer_more a b c true false h k = omega (arith, h, k)
fewer_more a b c false true h k = omega (arith, h, k)
fewer_more a b c false false h k = omega (arith, h, k)

module _ (ps : List Place) (t : Time Place) {A : Type 0} (xs : List A) (i : ℕ) (d : A) (a b c : List Bit) (f g : Bool) (l : i < length xs) where
  -- the rows of an element more
  pub advances_next : (rows : A → List Driven) → Advances ps t (flat_map rows (take i xs)) a b f → Advances ps t (rows (get_or xs i d)) b c g → Advances ps t (flat_map rows (take (i + 1) xs)) a c (f || g)
  advances_next rows h k =
      let more : flat_map rows (take (i + 1) xs) ≡ flat_map rows (take i xs) ++ rows (get_or xs i d) =
      ap (flat_map rows) (take_more xs i d l) ∙ (flat_map-append rows (take i xs) (get_or xs i d ∷ []) ∙ ap (λ z. flat_map rows (take i xs) ++ z) (append-nil (rows (get_or xs i d)))) in
      subst (λ z. Advances ps t z a c (f || g)) (sym more) (advances_more ps t (flat_map rows (take i xs)) (rows (get_or xs i d)) a b c f g h k)

  -- the row of an element more
  pub advances_next_row : (row : A → Driven) → Advances ps t (map row (take i xs)) a b f → Advances ps t (row (get_or xs i d) ∷ []) b c g → Advances ps t (map row (take (i + 1) xs)) a c (f || g)
  advances_next_row row h k =
      let more : map row (take (i + 1) xs) ≡ map row (take i xs) ++ row (get_or xs i d) ∷ [] =
      ap (map row) (take_more xs i d l) ∙ map-append row (take i xs) (get_or xs i d ∷ []) in
      subst (λ z. Advances ps t z a c (f || g)) (sym more) (advances_more ps t (map row (take i xs)) (row (get_or xs i d) ∷ []) a b c f g h k)

-- a fact more
takes_next_fact : (ps : List Place) {A : Type 0} (fact : A → Fact) (xs : List A) (i : ℕ) (d : A) (a b c : List Bit) (f g : Bool) → i < length xs → Takes ps (map fact (take i xs)) a b f → Takes ps (fact (get_or xs i d) ∷ []) b c g → Takes ps (map fact (take (i + 1) xs)) a c (f || g)
takes_next_fact ps fact xs i d a b c f g l h k =
    let more : map fact (take (i + 1) xs) ≡ map fact (take i xs) ++ fact (get_or xs i d) ∷ [] =
    ap (map fact) (take_more xs i d l) ∙ map-append fact (take i xs) (get_or xs i d ∷ []) in
    subst (λ z. Takes ps z a c (f || g)) (sym more) (takes_more ps (map fact (take i xs)) (fact (get_or xs i d) ∷ []) a b c f g h k)

-- an element more, whose bit is given what a fact says
pub takes_next : (ps : List Place) {A : Type 0} (number : A → ℕ) (value : A → Bit) (xs : List A) (i : ℕ) (d : A) (a b c : List Bit) (f g : Bool) (bit : Bit) → i < length xs → AreApart ps → length ps ≡ length b → AllByRecursion (λ x. number x < length ps) xs → bit ≡ value (get_or xs i d) → c ≡ put_of b (number (get_or xs i d)) bit → g ≡ gains b (number (get_or xs i d)) bit → Takes ps (map (λ x. record { place = place_at ps (number x); value = value x }) (take i xs)) a b f → Takes ps (map (λ x. record { place = place_at ps (number x); value = value x }) (take (i + 1) xs)) a c (f || g)
takes_next ps number value xs i d a b c f g bit l apart same within is new gain h =
    let n = number (get_or xs i d) in
    let put : Takes ps (record { place = place_at ps n; value = value (get_or xs i d) } ∷ []) b (put_of b n bit) (gains b n bit) =
    subst (λ z. Takes ps (record { place = place_at ps n; value = z } ∷ []) b (put_of b n bit) (gains b n bit)) is (takes_put ps b n bit apart same (all_at (λ x. number x < length ps) xs i d within l)) in
    let there : Takes ps (record { place = place_at ps n; value = value (get_or xs i d) } ∷ []) b c g =
    subst (λ z. Takes ps (record { place = place_at ps n; value = value (get_or xs i d) } ∷ []) b c z) (sym gain) (subst (λ z. Takes ps (record { place = place_at ps n; value = value (get_or xs i d) } ∷ []) b z (gains b n bit)) (sym new) put) in
    takes_next_fact ps (λ x. record { place = place_at ps (number x); value = value x }) xs i d a b c f g l h there

-- what is so of an answer is so of it by what follows
pub if_ok_more : {A E : Type 0} (r : Result A E) (P Q : A → Type 0) → ((a : A) → P a → Q a) → IfOk r P → IfOk r Q
if_ok_more (Ok a) P Q h k = h a k
if_ok_more (Err e) P Q h k = k

-- what follows of what is so where all went well
pub on_ok_more : {A E : Type 0} (r : Result A E) (P Q : Type 0) → (P → Q) → OnOk r P → OnOk r Q
on_ok_more (Ok a) P Q h k = h k
on_ok_more (Err e) P Q h k = k

-- values that are all x are below any others
pub under_unknown : (ps : List Place) (t : Time Place) (rows : List Driven) (values : List Bit) (n : ℕ) → values ≡ replicate n X → AreUnder ps t rows values
under_unknown ps t rows values n e w m q =
    subst (λ z. FlatBelow z (w q)) (sym (ap (λ z. shown ps z q) e ∙ shown_unknown ps n q)) tt
