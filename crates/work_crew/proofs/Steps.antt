-- Steps of a worker that takes jobs from deques.
use Rattle.std.proofs.Common.{◌≡◌, ℕ, ◌+◌, List, [], ◌∷◌, ◌++◌, refl, sym, ap, ◌∙◌, subst, arith}
use Rattle.rtl_bits.specs.Counts.{risen}
use Rattle.work_crew.specs.Times.{hit, times}
use Rattle.work_crew.specs.Along.{Along, AllFit, numbers_of}
use Rattle.work_crew.specs.Turns.{OnItsWay, WentThrough}
use Rattle.work_crew.proofs.Counting.{times_append}

pub risen_more : (a m n : ℕ) → risen (risen a m) n ≡ risen a (m + n)
risen_more a m n = omega arith

pub numbers_snoc : {O : Type 0} (xs : List (ℕ × O)) (k : ℕ) (o : O) → numbers_of (xs ++ (k, o) ∷ []) ≡ numbers_of xs ++ k ∷ []
numbers_snoc [] k o = refl
numbers_snoc (x ∷ xs) k o = ap (λ r. x.0 ∷ r) (numbers_snoc xs k o)

pub fit_snoc : {O : Type 0} (fits : ℕ → O → Type 0) (xs : List (ℕ × O)) (k : ℕ) (o : O) → AllFit fits xs → fits k o → AllFit fits (xs ++ (k, o) ∷ [])
fit_snoc fits [] k o h f = (f, tt)
fit_snoc fits (x ∷ xs) k o h f = (h.0, fit_snoc fits xs k o h.1 f)

module _ {O T : Type 0} (does : ℕ → O → T → T → ℕ → Type 0) where
  pub along_snoc : (xs : List (ℕ × O)) (k : ℕ) (o : O) (t u w : T) (m n : ℕ) → Along does xs t u m → does k o u w n → Along does (xs ++ (k, o) ∷ []) t w (m + n)
  along_snoc [] k o t u w m n h d = (w, n, 0, subst (λ z. does k o z w n) (sym h.0) d, (refl, refl), (let e = h.1 in omega arith))
  along_snoc (x ∷ xs) k o t u w m n h d = (h.0, h.1, h.2 + n, h.3, along_snoc xs k o h.0 u w h.2 n h.4 d, (let e = h.5 in omega arith))

module _ {O T : Type 0} (does : ℕ → O → T → T → ℕ → Type 0) (fails : ℕ → T → T → ℕ → Type 0) (token_fits : T → Type 0) (output_fits : ℕ → O → Type 0) where
  pub way_begins : (done : List (ℕ × O)) (t : T) (old : ℕ) (before : ℕ → ℕ) → done ≡ [] → token_fits t → OnItsWay does token_fits output_fits done t t old old before before
  way_begins done t old before e fits = record {
    ticks = 0;
    meter = omega arith;
    along = subst (λ xs. Along does xs t t 0) (sym e) (refl, refl);
    token = fits;
    outputs = subst (AllFit output_fits) (sym e) tt;
    numbers = λ k. subst (λ xs. before k + times k (numbers_of xs) ≡ before k) (sym e) (omega arith);
  }

  pub way_goes : (done : List (ℕ × O)) (t u w : T) (old now : ℕ) (before mid after : ℕ → ℕ) (job : ℕ) (o : O) (n now' : ℕ) → OnItsWay does token_fits output_fits done t u old now before mid → ((k : ℕ) → after k ≡ mid k + hit job k)
      → now' ≡ risen now n → does job o u w n → token_fits w → output_fits job o → OnItsWay does token_fits output_fits (done ++ (job, o) ∷ []) t w old now' before after
  way_goes done t u w old now before mid after job o n now' h more meter did fits out = record {
    ticks = h.ticks + n;
    meter = meter ∙ ap (λ m. risen m n) h.meter ∙ risen_more old h.ticks n;
    along = along_snoc does done job o t u w h.ticks n h.along did;
    token = fits;
    outputs = fit_snoc output_fits done job o h.outputs out;
    numbers = λ k.
        let a = ap (times k) (numbers_snoc done job o) ∙ times_append k (numbers_of done) (job ∷ []) in
        let b = more k in
        let c = h.numbers k in
        omega arith;
  }

  -- a worker that finds no further job
  pub way_ends : (done : List (ℕ × O)) (t u : T) (old now : ℕ) (before mid after : ℕ → ℕ) → OnItsWay does token_fits output_fits done t u old now before mid → ((k : ℕ) → after k ≡ mid k) → WentThrough does fails done t u old now before after
  way_ends done t u old now before mid after h same = record {
    ticks = h.ticks;
    failed = [];
    meter = h.meter;
    ran = (u, h.ticks, 0, h.along, (refl, refl), omega arith);
    numbers = λ k. let a = times_append k (numbers_of done) [] in let b = same k in let c = h.numbers k in omega arith;
  }

  -- a worker whose last job failed
  pub way_fails : (done : List (ℕ × O)) (t u w : T) (old now : ℕ) (before mid after : ℕ → ℕ) (job n now' : ℕ) → OnItsWay does token_fits output_fits done t u old now before mid → ((k : ℕ) → after k ≡ mid k + hit job k)
      → now' ≡ risen now n → fails job u w n → WentThrough does fails done t w old now' before after
  way_fails done t u w old now before mid after job n now' h more meter did = record {
    ticks = h.ticks + n;
    failed = job ∷ [];
    meter = meter ∙ ap (λ m. risen m n) h.meter ∙ risen_more old h.ticks n;
    ran = (u, h.ticks, n, h.along, did, refl);
    numbers = λ k. let a = times_append k (numbers_of done) (job ∷ []) in let b = more k in let c = h.numbers k in omega arith;
  }
