-- Parts that are to be evaluated, and readers that are told.
use Rattle.std.proofs.Common.{◌≡◌, ◌<◌, ◌≤◌, ◌+◌, ◌⊎◌, ℕ, zero, suc, Bool, true, false, List, [], ◌∷◌, ◌++◌, length, get_or, set, map, replicate, take, inl, inr, ⊎_elim, refl, sym, ◌∙◌, ap, subst, arith, length-append}
use Rattle.std.specs.Prelude.{flat_map, nat_eq}
use Rattle.std.specs.Global.{Vec}
use Rattle.std.proofs.lemmas.Bool.{true≢false, eq-eqb, eqb-true}
use Rattle.std.proofs.lemmas.List.{take_more, append-nil, get_or-set_other, get_or-set_same, length-set}
use Rattle.std.proofs.lemmas.Grind.{flat_map-append}
use Rattle.rtl_bits.specs.declared.bit.Bit.{Bit}
use Rattle.rtl_bits.specs.declared.bit.Bit.TheVariants.{X}
use Rattle.net_model.specs.Lists.{In}
use Rattle.net_model.proofs.Members.{In-left, In-right, In-cases, map-append}
use Rattle.sim_eval.specs.declared.agenda.Agenda.{Agenda}
use Rattle.sim_eval.specs.declared.readers.Readers.{Readers}
use Rattle.sim_eval.specs.Agenda.{AreListed, HasTold, Marks, TakesOff, Tells, has_mark, is_marked, is_told}
use Rattle.sim_eval.specs.Numbers.{is_x}
use Rattle.sim_eval.specs.Reads.{readers_at}

-- a mark at a place, which says that or what was there
pub mark_cases : (marks : List Bool) (n at : ℕ) (value : Bool) → n < length marks → ((at ≡ n) × (has_mark (set marks n value) at ≡ value)) ⊎ ((at ≡ n → ⊥) × (has_mark (set marks n value) at ≡ has_mark marks at))
mark_cases marks n at value l = by (nat_eq at n) refl
  where
    by : (t : Bool) → nat_eq at n ≡ t → ((at ≡ n) × (has_mark (set marks n value) at ≡ value)) ⊎ ((at ≡ n → ⊥) × (has_mark (set marks n value) at ≡ has_mark marks at))
    by true e =
        let same : at ≡ n = eqb-true at n e in
        inl (same, ap (has_mark (set marks n value)) same ∙ get_or-set_same marks n value false l)
    by false e =
        let other : at ≡ n → ⊥ = λ f. true≢false (sym (eq-eqb at n f) ∙ e) in
        inr (other, get_or-set_other marks n at value false other)

-- a place is taken off, whose part has no mark
pub passed_by : (a b : Agenda) (place : ℕ) → b.marks ≡ a.marks → a.places.items ≡ b.places.items ++ place ∷ [] → (is_marked a place ≡ true → ⊥) → AreListed a → AreListed b
passed_by a b place marks places none h at e =
    let was : is_marked a at ≡ true = ap (λ (v : Vec Bool). has_mark v.items at) (sym marks) ∙ e in
    ⊎_elim
    (λ i. i)
    (λ i. ⊎_elim (λ s. absurd (none (subst (λ z. is_marked a z ≡ true) s was))) (λ j. absurd j) i)
    (In-cases at b.places.items (place ∷ []) (subst (In at) places (h at was)))

-- with an empty list there is no mark
pub none_listed : (marks : List Bool) (places : List ℕ) (at : ℕ) → length places ≡ 0 → (has_mark marks at ≡ true → In at places) → has_mark marks at ≡ false
none_listed marks places at e h = by (has_mark marks at) refl
  where
    nowhere : (xs : List ℕ) → length xs ≡ 0 → In at xs → ⊥
    nowhere [] f i = i
    nowhere (x ∷ xs) f i = omega (arith, f)

    by : (t : Bool) → has_mark marks at ≡ t → has_mark marks at ≡ false
    by true f = absurd (nowhere places e (h f))
    by false f = f

-- the part at a place is taken off
pub taken_off : (old cur new : Agenda) (place : ℕ) → place < length cur.marks.items → cur.marks ≡ old.marks → cur.told ≡ old.told → (AreListed old → AreListed cur) → length cur.places.items ≤ length old.places.items → new.marks.items ≡ set cur.marks.items place false → new.told ≡ cur.told → cur.places.items ≡ new.places.items ++ place ∷ [] → TakesOff old new place
taken_off old cur new place l marks told listed shorter e f places = record {
  within = subst (λ (v : Vec Bool). place < length v.items) marks l;
  marks = e ∙ ap (λ (v : Vec Bool). set v.items place false) marks;
  told = ap (λ (v : Vec Bool). v.items) (f ∙ told);
  listed = λ h at k. ⊎_elim
      (λ d. absurd (true≢false (sym (sym (ap (λ z. has_mark z at) e) ∙ k) ∙ d.1)))
      (λ d. ⊎_elim
      (λ i. i)
      (λ i. ⊎_elim (λ s. absurd (d.0 s)) (λ j. absurd j) i)
      (In-cases at new.places.items (place ∷ []) (subst (In at) places (listed h at (sym d.1 ∙ (sym (ap (λ z. has_mark z at) e) ∙ k))))))
      (mark_cases cur.marks.items place at false l);
  shorter =
      let long : length cur.places.items ≡ length new.places.items + 1 = ap length places ∙ length-append new.places.items (place ∷ []) in
      omega (arith, shorter, long);
}

-- past the end there is no mark
pub mark_within : (marks : List Bool) (at : ℕ) → has_mark marks at ≡ true → at < length marks
mark_within [] at e = absurd (true≢false (sym e))
mark_within (m ∷ marks) zero e = omega arith
mark_within (m ∷ marks) (suc at) e = omega (arith, mark_within marks at e)

pub marks_none : (a : Agenda) → Marks a a []
marks_none a = record { same = refl; told = refl; keeps = λ at e. e; marks = λ at i l. absurd i; listed = λ h. h }

pub marks_more : (a b c : Agenda) (xs ys : List ℕ) → Marks a b xs → Marks b c ys → Marks a c (xs ++ ys)
marks_more a b c xs ys h k = record {
  same = k.same ∙ h.same;
  told = k.told ∙ h.told;
  keeps = λ at e. k.keeps at (h.keeps at e);
  marks = λ at i l. ⊎_elim (λ j. k.keeps at (h.marks at j l)) (λ j. k.marks at j (subst (λ z. at < z) (sym h.same) l)) (In-cases at xs ys i);
  listed = λ e. k.listed (h.listed e);
}

pub marks_next : (xs : List ℕ) (i d : ℕ) (a b c : Agenda) → i < length xs → Marks a b (take i xs) → Marks b c (get_or xs i d ∷ []) → Marks a c (take (i + 1) xs)
marks_next xs i d a b c l h k =
    subst (λ z. Marks a c z) (sym (take_more xs i d l)) (marks_more a b c (take i xs) (get_or xs i d ∷ []) h k)

-- a part that is marked, or has no place
pub marks_had : (a : Agenda) (place : ℕ) → (place < length a.marks.items → is_marked a place ≡ true) → Marks a a (place ∷ [])
marks_had a place h = record {
  same = refl;
  told = refl;
  keeps = λ at e. e;
  marks = λ at i l. ⊎_elim (λ e. subst (λ z. is_marked a z ≡ true) (sym e) (h (subst (λ z. z < length a.marks.items) e l))) (λ j. absurd j) i;
  listed = λ e. e;
}

-- a part that gets a mark
pub marks_set : (a b : Agenda) (place : ℕ) → place < length a.marks.items → b.marks.items ≡ set a.marks.items place true → b.places.items ≡ a.places.items ++ place ∷ [] → b.told.items ≡ a.told.items → Marks a b (place ∷ [])
marks_set a b place l e f g = record {
  same = ap length e ∙ length-set a.marks.items place true;
  told = g;
  keeps = λ at k. is at (λ h. h) k;
  marks = λ at i m. ⊎_elim (λ s. subst (λ z. has_mark z at ≡ true) (sym e) (ap (has_mark (set a.marks.items place true)) s ∙ get_or-set_same a.marks.items place true false l)) (λ j. absurd j) i;
  listed = λ h at k. subst (In at) (sym f) (⊎_elim
      (λ c. In-right at a.places.items (place ∷ []) (inl c.0))
      (λ c. In-left at a.places.items (place ∷ []) (h at (sym c.1 ∙ (sym (ap (λ z. has_mark z at) e) ∙ k))))
      (mark_cases a.marks.items place at true l));
}
  where
    is : (at : ℕ) → (is_marked a at ≡ true → is_marked a at ≡ true) → is_marked a at ≡ true → is_marked b at ≡ true
    is at h k =
        subst (λ z. has_mark z at ≡ true) (sym e) (⊎_elim (λ c. c.1) (λ c. c.1 ∙ k) (mark_cases a.marks.items place at true l))

module _ (readers : Readers) (now : List Bit) where
  pub tells_none : (a : Agenda) → Tells a a readers now []
  tells_none a = record {
    same = refl;
    same_told = refl;
    keeps = λ at e. e;
    keeps_told = λ n e. e;
    told = λ n e. inl e;
    tells = λ n i l e. absurd i;
    listed = λ h. h;
  }

  -- who was told still is
  told_kept : (a b : Agenda) (n : ℕ) → length b.marks.items ≡ length a.marks.items → ((at : ℕ) → is_marked a at ≡ true → is_marked b at ≡ true) → HasTold a readers now n → HasTold b readers now n
  told_kept a b n same keeps h = record {
    valued = h.valued;
    marked = λ at i l. keeps at (h.marked at i (subst (λ z. at < z) same l));
  }

  pub tells_more : (a b c : Agenda) (xs ys : List ℕ) → Tells a b readers now xs → Tells b c readers now ys → Tells a c readers now (xs ++ ys)
  tells_more a b c xs ys h k = record {
    same = k.same ∙ h.same;
    same_told = k.same_told ∙ h.same_told;
    keeps = λ at e. k.keeps at (h.keeps at e);
    keeps_told = λ n e. k.keeps_told n (h.keeps_told n e);
    told = λ n e. ⊎_elim
        (λ f. ⊎_elim (λ g. inl g) (λ g. inr (told_kept b c n k.same k.keeps g)) (h.told n f))
        (λ f. inr f)
        (k.told n e);
    tells = λ n i l e. ⊎_elim
        (λ j. k.keeps_told n (h.tells n j l e))
        (λ j. k.tells n j (subst (λ z. n < z) (sym h.same_told) l) e)
        (In-cases n xs ys i);
    listed = λ e. k.listed (h.listed e);
  }

  -- a bit of which nothing is to be told
  pub tells_had : (a : Agenda) (n : ℕ) → (n < length a.told.items → is_x (get_or now n X) ≡ false → is_told a n ≡ true) → Tells a a readers now (n ∷ [])
  tells_had a n h = record {
    same = refl;
    same_told = refl;
    keeps = λ at e. e;
    keeps_told = λ k e. e;
    told = λ k e. inl e;
    tells = λ k i l e. ⊎_elim
        (λ s. subst (λ z. is_told a z ≡ true) (sym s) (h (subst (λ z. z < length a.told.items) s l) (subst (λ z. is_x (get_or now z X) ≡ false) s e)))
        (λ j. absurd j)
        i;
    listed = λ e. e;
  }

  -- a bit whose readers are marked
  pub tells_set : (a b c : Agenda) (n : ℕ) → n < length a.told.items → is_x (get_or now n X) ≡ false → Marks a b (readers_at readers n) → c.marks.items ≡ b.marks.items → c.places.items ≡ b.places.items → c.told.items ≡ set b.told.items n true → Tells a c readers now (n ∷ [])
  tells_set a b c n l valued h marks places told = record {
    same = ap length marks ∙ h.same;
    same_told = ap length told ∙ (length-set b.told.items n true ∙ ap length h.told);
    keeps = λ at e. subst (λ z. has_mark z at ≡ true) (sym marks) (h.keeps at e);
    keeps_told = λ k e. subst (λ z. has_mark z k ≡ true) (sym told) (⊎_elim (λ d. d.1) (λ d. d.1 ∙ (ap (λ z. has_mark z k) h.told ∙ e)) (mark_cases b.told.items n k true within));
    told = λ k e. ⊎_elim
        (λ d. inr (subst (λ z. HasTold c readers now z) (sym d.0) here))
        (λ d. inl (sym (ap (λ z. has_mark z k) h.told) ∙ (sym d.1 ∙ (sym (ap (λ z. has_mark z k) told) ∙ e))))
        (mark_cases b.told.items n k true within);
    tells = λ k i m e. ⊎_elim
        (λ s. subst (λ z. has_mark z k ≡ true) (sym told) (ap (has_mark (set b.told.items n true)) s ∙ get_or-set_same b.told.items n true false within))
        (λ j. absurd j)
        i;
    listed = λ e at k. subst (In at) (sym places) (h.listed e at (sym (ap (λ z. has_mark z at) marks) ∙ k));
  }
    where
      within : n < length b.told.items
      within = subst (λ z. n < length z) (sym h.told) l

      here : HasTold c readers now n
      here = record {
        valued = valued;
        marked = λ at i m. subst (λ z. has_mark z at ≡ true) (sym marks) (h.marks at i (subst (λ z. at < z) (ap length marks ∙ h.same) m));
      }

  module _ {A : Type 0} (xs : List A) (i : ℕ) (d : A) (a b c : Agenda) (l : i < length xs) where
    -- the number of an element more
    pub tells_next : (number : A → ℕ) → Tells a b readers now (map number (take i xs)) → Tells b c readers now (number (get_or xs i d) ∷ []) → Tells a c readers now (map number (take (i + 1) xs))
    tells_next number h k =
        let next : map number (take (i + 1) xs) ≡ map number (take i xs) ++ number (get_or xs i d) ∷ [] =
        ap (map number) (take_more xs i d l) ∙ map-append number (take i xs) (get_or xs i d ∷ []) in
        subst (λ z. Tells a c readers now z) (sym next) (tells_more a b c (map number (take i xs)) (number (get_or xs i d) ∷ []) h k)

    -- the numbers of an element more
    pub tells_next_all : (numbers : A → List ℕ) → Tells a b readers now (flat_map numbers (take i xs)) → Tells b c readers now (numbers (get_or xs i d)) → Tells a c readers now (flat_map numbers (take (i + 1) xs))
    tells_next_all numbers h k =
        let next : flat_map numbers (take (i + 1) xs) ≡ flat_map numbers (take i xs) ++ numbers (get_or xs i d) =
        ap (flat_map numbers) (take_more xs i d l) ∙ (flat_map-append numbers (take i xs) (get_or xs i d ∷ []) ∙ ap (λ z. flat_map numbers (take i xs) ++ z) (append-nil (numbers (get_or xs i d)))) in
        subst (λ z. Tells a c readers now z) (sym next) (tells_more a b c (flat_map numbers (take i xs)) (numbers (get_or xs i d)) h k)

none_there : (count at : ℕ) → has_mark (replicate count false) at ≡ false
none_there zero at = refl
none_there (suc count) zero = refl
none_there (suc count) (suc at) = none_there count at

all_there : (count at : ℕ) → at < count → has_mark (replicate count true) at ≡ true
all_there zero at l = absurd (omega arith)
all_there (suc count) zero l = refl
all_there (suc count) (suc at) l = all_there count at (omega arith)

-- marks at all places, and at none
pub all_marked : (marks : List Bool) (count at : ℕ) → marks ≡ replicate count true → at < count → has_mark marks at ≡ true
all_marked marks count at e l = ap (λ z. has_mark z at) e ∙ all_there count at l

pub no_mark : (marks : List Bool) (count at : ℕ) → marks ≡ replicate count false → has_mark marks at ≡ false
no_mark marks count at e = ap (λ z. has_mark z at) e ∙ none_there count at

-- a place more, behind the others
pub behind_last : (old new : List ℕ) (place at : ℕ) → new ≡ old ++ place ∷ [] → (suc place ≤ at → In at old) → place ≤ at → In at new
behind_last old new place at e h l = by (nat_eq at place) refl
  where
    by : (t : Bool) → nat_eq at place ≡ t → In at new
    by true f = subst (In at) (sym e) (In-right at old (place ∷ []) (inl (eqb-true at place f)))
    by false f =
        let other : at ≡ place → ⊥ = λ g. true≢false (sym (eq-eqb at place g) ∙ f) in
        subst (In at) (sym e) (In-left at old (place ∷ []) (h (omega (arith, l, other))))
