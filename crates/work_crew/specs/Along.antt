-- What a token goes through: jobs one after another, and then at most one job that failed.
use Rattle.std.specs.Prelude.{◌≡◌, ℕ, ◌+◌, List, [], ◌∷◌}

-- jobs, each with its output, one after another, take t to u with n ticks
abbrev pub Along : {O T : Type 0} → (ℕ → O → T → T → ℕ → Type 0) → List (ℕ × O) → T → T → ℕ → Type 0
Along does [] t u n = (t ≡ u) × (n ≡ 0)
Along {O} {T} does (x ∷ xs) t u n = (m : T) × (a : ℕ) × (b : ℕ) × does x.0 x.1 t m a × Along does xs m u b × (n ≡ a + b)

-- the numbers of the jobs
abbrev pub numbers_of : {O : Type 0} → List (ℕ × O) → List ℕ
numbers_of [] = []
numbers_of (x ∷ xs) = x.0 ∷ numbers_of xs

-- each output fits its job
abbrev pub AllFit : {O : Type 0} → (ℕ → O → Type 0) → List (ℕ × O) → Type 0
AllFit fits [] = Unit {0}
AllFit fits (x ∷ xs) = fits x.0 x.1 × AllFit fits xs

-- no job, or one that failed, takes t to u with n ticks
abbrev pub Last : {T : Type 0} → (ℕ → T → T → ℕ → Type 0) → List ℕ → T → T → ℕ → Type 0
Last fails [] t u n = (t ≡ u) × (n ≡ 0)
Last fails (k ∷ []) t u n = fails k t u n
Last fails (k ∷ l ∷ ks) t u n = ⊥

-- the jobs, and then at most one job that failed, take t to u with n ticks
abbrev pub Ran : {O T : Type 0} → (ℕ → O → T → T → ℕ → Type 0) → (ℕ → T → T → ℕ → Type 0) → List (ℕ × O) → List ℕ → T → T → ℕ → Type 0
Ran {O} {T} does fails xs failed t u n = (m : T) × (a : ℕ) × (b : ℕ) × Along does xs t m a × Last fails failed m u b × (n ≡ a + b)
