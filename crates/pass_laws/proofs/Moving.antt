-- The last part of what stands in the middle of a list goes to the end.
use Rattle.std.proofs.Common.{List, [], ◌∷◌, ◌++◌, ⊎_elim, sym}
use Rattle.net_model.proofs.Members.{In-cases, In-left, In-right, Distinct-append, apart_at, apart_from}
use Rattle.net_model.specs.Lists.{Distinct, In}

module _ {A : Type 0} where
  -- two lists in which nothing stands twice, and nothing in both
  abbrev Split : List A → List A → Type 0
  Split xs ys = Distinct xs × Distinct ys × ((x : A) → In x xs → In x ys → ⊥)

  pub split : (xs ys : List A) → Distinct (xs ++ ys) → Split xs ys
  split [] ys d = (tt, d, λ x i j. i)
  split (x ∷ xs) ys d =
      let s = split xs ys d.1 in
      ((apart_from x xs (λ y i e. apart_at x (xs ++ ys) d.0 y (In-left y xs ys i) e), s.0), s.1, λ y i j. ⊎_elim (λ e. apart_at x (xs ++ ys) d.0 y (In-right y xs ys j) (sym e)) (λ l. s.2 y l j) i)

  pub moved_in : (a b c d e : List A) (x : A) → In x ((a ++ (b ++ d)) ++ (e ++ c)) → In x ((a ++ ((b ++ c) ++ d)) ++ e)
  moved_in a b c d e x i =
      ⊎_elim
      (λ l. In-left x (a ++ ((b ++ c) ++ d)) e (in_front l))
      (λ r. ⊎_elim (λ p. In-right x (a ++ ((b ++ c) ++ d)) e p) (λ q. In-left x (a ++ ((b ++ c) ++ d)) e (In-right x a ((b ++ c) ++ d) (In-left x (b ++ c) d (In-right x b c q)))) (In-cases x e c r))
      (In-cases x (a ++ (b ++ d)) (e ++ c) i)
    where
      in_front : In x (a ++ (b ++ d)) → In x (a ++ ((b ++ c) ++ d))
      in_front l =
          ⊎_elim
          (λ p. In-left x a ((b ++ c) ++ d) p)
          (λ q. In-right x a ((b ++ c) ++ d) (⊎_elim (λ u. In-left x (b ++ c) d (In-left x b c u)) (λ v. In-right x (b ++ c) d v) (In-cases x b d q)))
          (In-cases x a (b ++ d) l)

  pub moved : (a b c d e : List A) → Distinct ((a ++ ((b ++ c) ++ d)) ++ e) → Distinct ((a ++ (b ++ d)) ++ (e ++ c))
  moved a b c d e u =
      let s = split (a ++ ((b ++ c) ++ d)) e u in
      let t = split a ((b ++ c) ++ d) s.0 in
      let v = split (b ++ c) d t.1 in
      let w = split b c v.0 in
      let bd : Distinct (b ++ d) = Distinct-append b d w.0 v.1 (λ x i j. v.2 x (In-left x b c i) j) in
      let ad : Distinct (a ++ (b ++ d)) = Distinct-append a (b ++ d) t.0 bd (λ x i j. t.2 x i (⊎_elim (λ l. In-left x (b ++ c) d (In-left x b c l)) (λ r. In-right x (b ++ c) d r) (In-cases x b d j))) in
      let ec : Distinct (e ++ c) = Distinct-append e c s.1 w.1 (λ x i j. s.2 x (In-right x a ((b ++ c) ++ d) (In-left x (b ++ c) d (In-right x b c j))) i) in
      Distinct-append (a ++ (b ++ d)) (e ++ c) ad ec (λ x i j. ⊎_elim
      (λ l. s.2 x (⊎_elim (λ p. In-left x a ((b ++ c) ++ d) p) (λ q. In-right x a ((b ++ c) ++ d) (⊎_elim (λ m. In-left x (b ++ c) d (In-left x b c m)) (λ n. In-right x (b ++ c) d n) (In-cases x b d q))) (In-cases x a (b ++ d) i)) l)
      (λ r. ⊎_elim (λ p. t.2 x p (In-left x (b ++ c) d (In-right x b c r))) (λ q. ⊎_elim (λ y. w.2 x y r) (λ y. v.2 x (In-right x b c r) y) (In-cases x b d q)) (In-cases x a (b ++ d) i))
      (In-cases x e c j))

  -- the same with a further list behind all
  pub moved_in_front : (a b c d e f : List A) (x : A) → In x ((a ++ (b ++ d)) ++ ((e ++ c) ++ f)) → In x ((a ++ ((b ++ c) ++ d)) ++ (e ++ f))
  moved_in_front a b c d e f x i =
      moved_in a b c d (e ++ f) x (⊎_elim
      (λ l. In-left x (a ++ (b ++ d)) ((e ++ f) ++ c) l)
      (λ r. In-right x (a ++ (b ++ d)) ((e ++ f) ++ c) (⊎_elim
      (λ q. ⊎_elim (λ u. In-left x (e ++ f) c (In-left x e f u)) (λ v. In-right x (e ++ f) c v) (In-cases x e c q))
      (λ q. In-left x (e ++ f) c (In-right x e f q))
      (In-cases x (e ++ c) f r)))
      (In-cases x (a ++ (b ++ d)) ((e ++ c) ++ f) i))

  pub moved_front : (a b c d e f : List A) → Distinct ((a ++ ((b ++ c) ++ d)) ++ (e ++ f)) → Distinct ((a ++ (b ++ d)) ++ ((e ++ c) ++ f))
  moved_front a b c d e f u =
      let front : List A = a ++ (b ++ d) in
      let s = split front ((e ++ f) ++ c) (moved a b c d (e ++ f) u) in
      let t = split (e ++ f) c s.1 in
      let v = split e f t.0 in
      let ec : Distinct (e ++ c) = Distinct-append e c v.0 t.1 (λ x i j. t.2 x (In-left x e f i) j) in
      let ecf : Distinct ((e ++ c) ++ f) = Distinct-append (e ++ c) f ec v.1 (λ x i j. ⊎_elim (λ l. v.2 x l j) (λ r. t.2 x (In-right x e f j) r) (In-cases x e c i)) in
      Distinct-append front ((e ++ c) ++ f) s.0 ecf (λ x i j. s.2 x i (⊎_elim
      (λ q. ⊎_elim (λ l. In-left x (e ++ f) c (In-left x e f l)) (λ r. In-right x (e ++ f) c r) (In-cases x e c q))
      (λ q. In-left x (e ++ f) c (In-right x e f q))
      (In-cases x (e ++ c) f j)))
