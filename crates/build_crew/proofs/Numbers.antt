-- Keys by their numbers.
use Rattle.std.proofs.Common.{◌≡◌, ◌≢◌, ◌⊎◌, inl, inr, ℕ, zero, suc, ◌+◌, ◌<◌, ◌≤◌, List, Bool, true, false, true≢false, ◌||◌, refl, sym, ap, ◌∙◌, arith}
use Rattle.std.specs.Prelude.{map}
use Rattle.std.specs.List.{range_with_len}
use Rattle.std.specs.Str.{bytes_eq}
use Rattle.rtl_sig.specs.Names.{has_name}
use Rattle.result_cache.proofs.Keys.{bytes_same, bytes_true}
use Rattle.work_crew.proofs.Counting.{same_or}

-- a key of a job is that of one of the numbers
pub job_of : (key_of : ℕ → List ℕ) (start n : ℕ) (key : List ℕ) → has_name (map key_of (range_with_len start n)) key ≡ true → (j : ℕ) × (j < start + n) × (key_of j ≡ key)
job_of key_of start zero key h = absurd (true≢false (sym h))
job_of key_of start (suc n) key h = by (bytes_eq key (key_of start)) refl (job_of key_of (start + 1) n key)
  where
    Found : ℕ → ℕ → Type 0
    Found from more = (j : ℕ) × (j < from + more) × (key_of j ≡ key)

    by : (b : Bool) → bytes_eq key (key_of start) ≡ b → (has_name (map key_of (range_with_len (start + 1) n)) key ≡ true → Found (start + 1) n) → Found start (suc n)
    by true e later = (start, omega arith, sym (bytes_true key (key_of start) e))
    by false e later =
        let rest = later (sym (ap (λ (b : Bool). b || has_name (map key_of (range_with_len (start + 1) n)) key) e) ∙ h) in
        (rest.0, let l = rest.1 in omega (arith, l), rest.2)

or_true : (b : Bool) → (b || true) ≡ true
or_true true = refl
or_true false = refl

pub of_job : (key_of : ℕ → List ℕ) (start n j : ℕ) → start ≤ j → j < start + n → has_name (map key_of (range_with_len start n)) (key_of j) ≡ true
of_job key_of start zero j le lt = absurd (omega (arith, le, lt))
of_job key_of start (suc n) j le lt = by (same_or j start) (of_job key_of (start + 1) n j)
  where
    by : (j ≡ start) ⊎ (j ≢ start) → (start + 1 ≤ j → j < start + 1 + n → has_name (map key_of (range_with_len (start + 1) n)) (key_of j) ≡ true)
        → (bytes_eq (key_of j) (key_of start) || has_name (map key_of (range_with_len (start + 1) n)) (key_of j)) ≡ true
    by (inl e) later = ap (λ (b : Bool). b || has_name (map key_of (range_with_len (start + 1) n)) (key_of j)) (bytes_same (key_of j) (key_of start) (ap key_of e))
    by (inr ne) later = ap (λ (b : Bool). bytes_eq (key_of j) (key_of start) || b) (later (omega (arith, le, ne)) (omega (arith, lt))) ∙ or_true (bytes_eq (key_of j) (key_of start))
