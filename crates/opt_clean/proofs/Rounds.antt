-- No cell is needed after the last round that was not marked.
use Rattle.std.proofs.Common.{◌≡◌, ℕ, zero, suc, ◌+◌, ◌<◌, ◌≤◌, Bool, true, false, if◌then◌else◌, List, [], ◌∷◌, length, ◌⊎◌, inl, inr, ⊎_elim, refl, sym, ◌∙◌, ap, subst, arith}
use Rattle.std.specs.Prelude.{◌||◌, map, flat_map}
use Rattle.std.specs.List.{list_any}
use Rattle.std.proofs.lemmas.Bool.{or_parts}
use Rattle.rtl_sig.specs.declared.sig.WireBit.{WireBit}
use Rattle.rtl_ir.specs.Signals.{has_bit}
use Rattle.rtl_ir.specs.Types.{Ports}
use Rattle.rtl_ir.specs.declared.cell.Cell.{Cell}
use Rattle.rtl_ir.specs.declared.module.Link.{Link}
use Rattle.rtl_ir.specs.declared.wire.Wire.{Wire}
use Rattle.net_model.specs.Lists.{In}
use Rattle.net_model.proofs.Members.{In-cases, In-left, In-right}
use Rattle.opt_clean.specs.Keep.{is_root, output_bits}
use Rattle.opt_clean.specs.Kept.{bits_read, input_bits, is_needed, kept_marks, marked, marks_after, next_marks, right_bits}
use Rattle.opt_clean.specs.Wires.{mark_count}
use Rattle.opt_clean.proofs.Bits.{any_in, flat_in, has_in, in_any, in_flat, in_has, none_any}
use Rattle.opt_clean.proofs.Marks.{others}

-- what is marked in the first list is marked in the second, which is as long
abbrev pub Fewer : List Bool → List Bool → Type 0
Fewer [] [] = Unit {0}
Fewer (t ∷ ts) (u ∷ us) = (t ≡ true → u ≡ true) × Fewer ts us
Fewer [] (u ∷ us) = ⊥
Fewer (t ∷ ts) [] = ⊥

fewer_marked : {A : Type 0} (ts us : List Bool) (xs : List A) → Fewer ts us → (x : A) → In x (marked ts xs) → In x (marked us xs)
fewer_marked [] [] xs h x i = i
fewer_marked (t ∷ ts) (u ∷ us) [] h x i = absurd i
fewer_marked (true ∷ ts) (true ∷ us) (y ∷ xs) h x (inl e) = inl e
fewer_marked (true ∷ ts) (true ∷ us) (y ∷ xs) h x (inr i) = inr (fewer_marked ts us xs h.1 x i)
fewer_marked (true ∷ ts) (false ∷ us) (y ∷ xs) h x i = let no : false ≡ true = h.0 refl in absurd (cc)
fewer_marked (false ∷ ts) (true ∷ us) (y ∷ xs) h x i = inr (fewer_marked ts us xs h.1 x i)
fewer_marked (false ∷ ts) (false ∷ us) (y ∷ xs) h x i = fewer_marked ts us xs h.1 x i
fewer_marked [] (u ∷ us) xs h x i = absurd h
fewer_marked (t ∷ ts) [] xs h x i = absurd h

-- either nothing new is marked, or more is
more_marks : (ts us : List Bool) → Fewer ts us → ((us ≡ ts) ⊎ (mark_count ts < mark_count us)) × (mark_count ts ≤ mark_count us)
more_marks [] [] h = (inl refl, omega arith)
more_marks (true ∷ ts) (true ∷ us) h =
    let k = more_marks ts us h.1 in
    (⊎_elim (λ e. inl (ap (λ z. true ∷ z) e)) (λ l. inr (omega arith)) k.0, omega (arith, k.1))
more_marks (true ∷ ts) (false ∷ us) h = let no : false ≡ true = h.0 refl in absurd (cc)
more_marks (false ∷ ts) (true ∷ us) h = let k = more_marks ts us h.1 in (inr (omega (arith, k.1)), omega (arith, k.1))
more_marks (false ∷ ts) (false ∷ us) h =
    let k = more_marks ts us h.1 in
    (⊎_elim (λ e. inl (ap (λ z. false ∷ z) e)) (λ l. inr (omega (arith, l))) k.0, omega (arith, k.1))
more_marks [] (u ∷ us) h = absurd h
more_marks (t ∷ ts) [] h = absurd h

count_all : {A : Type 0} (f : A → Bool) (xs : List A) → mark_count (map f xs) ≤ length xs
count_all f [] = omega arith
count_all f (x ∷ xs) = by (count_all f xs) (f x)
  where
    by : mark_count (map f xs) ≤ length xs → (t : Bool) → (if t then 1 else 0) + mark_count (map f xs) ≤ suc (length xs)
    by h true = omega (arith, h)
    by h false = omega (arith, h)

fewer_tests : {A : Type 0} (f g : A → Bool) (xs : List A) → ((x : A) → In x xs → f x ≡ true → g x ≡ true) → Fewer (map f xs) (map g xs)
fewer_tests f g [] h = tt
fewer_tests f g (x ∷ xs) h = (h x (inl refl), fewer_tests f g xs (λ y i. h y (inr i)))

-- what does not pass a test is not marked by it
pub others_fail : {A : Type 0} (f : A → Bool) (xs : List A) (x : A) → In x (others (map f xs) xs) → f x ≡ false
others_fail f [] x i = absurd i
others_fail f (y ∷ xs) x i = by (λ j. others_fail f xs x j) (f y) refl i
  where
    by : (In x (others (map f xs) xs) → f x ≡ false) → (t : Bool) → f y ≡ t → In x (if t then others (map f xs) xs else y ∷ others (map f xs) xs) → f x ≡ false
    by later true e j = later j
    by later false e (inl g) = ap f g ∙ e
    by later false e (inr j) = later j

pub marked_pass : {A : Type 0} (f : A → Bool) (xs : List A) (x : A) → In x xs → f x ≡ true → In x (marked (map f xs) xs)
marked_pass f [] x i e = absurd i
marked_pass f (y ∷ xs) x i e = by (λ j. marked_pass f xs x j e) (f y) refl i
  where
    by : (In x xs → In x (marked (map f xs) xs)) → (t : Bool) → f y ≡ t → In x (y ∷ xs) → In x (if t then y ∷ marked (map f xs) xs else marked (map f xs) xs)
    by later true g (inl h) = inl h
    by later true g (inr j) = inr (later j)
    by later false g (inl h) = let no : true ≡ false = sym e ∙ ap f h ∙ g in absurd (cc)
    by later false g (inr j) = later j

-- no cell that is not marked is a root, and none drives a bit that the marked ones or the connections read
pub record IsClosed (ports : Ports) (wires : List Wire) (links : List Link) (cells : List Cell) (marks : List Bool) : Type 0 where
  pub root : (c : Cell) → In c (others marks cells) → is_root ports wires c ≡ false
  pub read :
      (c : Cell) → In c (others marks cells) → (b : WireBit) → In b (output_bits ports c) →
      In b (bits_read ports links (marked marks cells)) → ⊥

module _ (ports : Ports) (wires : List Wire) (links : List Link) (cells : List Cell) where
  abbrev next : List Bool → List Bool
  next marks = next_marks ports wires links cells marks

  abbrev after : ℕ → List Bool
  after n = marks_after ports wires links cells n

  abbrev test : List Bool → Cell → Bool
  test marks = is_needed ports wires (bits_read ports links (marked marks cells))

  pub read_more : (ts us : List Bool) → Fewer ts us → (b : WireBit) → In b (bits_read ports links (marked ts cells)) → In b (bits_read ports links (marked us cells))
  read_more ts us h b i =
      ⊎_elim
      (λ l. In-left b (right_bits links) (flat_map (input_bits ports) (marked us cells)) l)
      (λ r. let k = flat_in (input_bits ports) (marked ts cells) b r in
      In-right b (right_bits links) (flat_map (input_bits ports) (marked us cells)) (in_flat (input_bits ports) (marked us cells) k.0 b (fewer_marked ts us cells h k.0 k.1) k.2))
      (In-cases b (right_bits links) (flat_map (input_bits ports) (marked ts cells)) i)

  -- a cell that is needed stays so where more is read
  pub needed_more : (bits more : List WireBit) → ((b : WireBit) → In b bits → In b more) → (c : Cell) → is_needed ports wires bits c ≡ true → is_needed ports wires more c ≡ true
  needed_more bits more h c e = by (is_root ports wires c) e
    where
      by : (t : Bool) → (t || list_any (has_bit bits) (output_bits ports c)) ≡ true → (t || list_any (has_bit more) (output_bits ports c)) ≡ true
      by true f = refl
      by false f =
          let k = in_any (has_bit bits) (output_bits ports c) f in
          any_in (has_bit more) (output_bits ports c) k.0 k.1 (has_in more k.0 (h k.0 (in_has bits k.0 k.2)))

  pub next_fewer : (ts us : List Bool) → Fewer ts us → Fewer (next ts) (next us)
  next_fewer ts us h = fewer_tests (test ts) (test us) cells (λ c i e. needed_more _ _ (read_more ts us h) c e)

  after_grows : (n : ℕ) → Fewer (after n) (after (suc n))
  after_grows zero = fewer_tests (λ c. false) (test (after 0)) cells (λ c i e. absurd (cc))
  after_grows (suc n) = next_fewer (after n) (after (suc n)) (after_grows n)

  settles_or : (n : ℕ) → (after (suc n) ≡ after n) ⊎ (suc n ≤ mark_count (after (suc n)))
  settles_or zero = ⊎_elim (λ e. inl e) (λ l. inr (omega arith)) (more_marks (after 0) (after 1) (after_grows 0)).0
  settles_or (suc n) =
      ⊎_elim
      (λ e. inl (ap next e))
      (λ h. ⊎_elim (λ e. inl e) (λ l. inr (omega (arith, h, l))) (more_marks (after (suc n)) (after (suc (suc n))) (after_grows (suc n))).0)
      (settles_or n)

  -- one more round marks nothing new
  pub settled : next (kept_marks ports wires links cells) ≡ kept_marks ports wires links cells
  unfolding kept_marks
  settled =
      ⊎_elim
      (λ e. e)
      (λ h. let few : mark_count (after (suc (length cells))) ≤ length cells = count_all (test (after (length cells))) cells in absurd (omega (arith, h, few)))
      (settles_or (length cells))

  pub closed : IsClosed ports wires links cells (kept_marks ports wires links cells)
  closed =
      let marks : List Bool = kept_marks ports wires links cells in
      let fails : (c : Cell) → In c (others marks cells) → test marks c ≡ false = λ c i. others_fail (test marks) cells c (subst (λ z. In c (others z cells)) (sym settled) i) in
      record {
        root = λ c i. (or_parts (is_root ports wires c) (list_any (has_bit (bits_read ports links (marked marks cells))) (output_bits ports c)) (fails c i)).0;
        read = λ c i b out read.
            let none = none_any (has_bit (bits_read ports links (marked marks cells))) (output_bits ports c) (or_parts (is_root ports wires c) (list_any (has_bit (bits_read ports links (marked marks cells))) (output_bits ports c)) (fails c i)).1 b out in
            let some : has_bit (bits_read ports links (marked marks cells)) b ≡ true = has_in (bits_read ports links (marked marks cells)) b read in
            differ (sym some ∙ none);
      }
    where
      differ : true ≡ false → ⊥
      differ e = cc
