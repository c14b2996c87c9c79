-- The names of generated modules: they are names, and no two are equal.
use Rattle.std.proofs.Common.{◌≡◌, ◌≢◌, ℕ, zero, suc, ◌+◌, ◌%◌, ◌<◌, ◌≤◌, ◌^◌, Bool, true, false, List, [], ◌∷◌, ◌++◌, length, refl, arith}
use Rattle.std.specs.Prelude.{◌&&◌, codes, map, nat_lt}
use Rattle.std.specs.Fmt.{decimal}
use Rattle.std.specs.List.{AllByRecursion, IsDistinct, list_all, range_with_len}
use Rattle.std.specs.Str.{bytes_eq}
use Rattle.std.proofs.lemmas.Bool.{and_from, lt-ltb}
use Rattle.std.proofs.lemmas.Fmt.{decimal_by_steps, decimal_injective}
use Rattle.std.proofs.lemmas.List.{append_cancel_left}
use Rattle.std.proofs.lemmas.Slice.Eq.{bytes_eq-Decides}
use Rattle.rtl_ir.specs.declared.module.Module.{Module}
use Rattle.rtl_lex.specs.Bytes.{is_name}
use Rattle.rtl_readable.specs.Readable.{IsName}
use Rattle.rtl_sig.specs.Names.{AreDistinct}
use Rattle.generated_design.specs.Generate.{generated_module}

-- the name of the module of a number
abbrev pub name_at : ℕ → List ℕ
name_at n = codes "\\g" ++ decimal n

all_more : (ds : List ℕ) (d : ℕ) → list_all is_name ds ≡ true → is_name d ≡ true → list_all is_name (ds ++ d ∷ []) ≡ true
all_more [] d e h = grind (arith, h)
all_more (c ∷ ds) d e h = grind (arith, all_more ds d, e, h)

digit_is : (n : ℕ) → n < 10 → is_name (48 + n) ≡ true
digit_is n small =
    and_from (nat_lt 32 (48 + n)) (nat_lt (48 + n) 256) (lt-ltb 32 (48 + n) (omega arith)) (lt-ltb (48 + n) 256 (omega (arith, small)))

digits_are : (n : ℕ) → n < 2 ^ 64 → list_all is_name (decimal n) ≡ true
digits_are =
    decimal_by_steps (λ n ds. list_all is_name ds ≡ true) (λ n h. grind (arith, digit_is n h)) (λ n ds h e. all_more ds (48 + n % 10) e (digit_is (n % 10) (omega arith)))

pub name_is : (n : ℕ) → n < 2 ^ 64 → IsName (name_at n)
name_is n few = both (nat_lt 0 (length (103 ∷ decimal n))) (list_all is_name (103 ∷ decimal n)) (lt-ltb 0 (length (103 ∷ decimal n)) (omega arith)) (digits_are n few)
  where
    both : (a b : Bool) → a ≡ true → b ≡ true → (a && b) ≡ true
    both a b e f = rw (e, f) refl

other_name : (a b : ℕ) → a < 2 ^ 64 → b < 2 ^ 64 → a ≢ b → bytes_eq (name_at a) (name_at b) ≡ false
other_name a b ha hb other = by (bytes_eq (name_at a) (name_at b)) refl
  where
    by : (t : Bool) → bytes_eq (name_at a) (name_at b) ≡ t → t ≡ false
    by true e = absurd (other (decimal_injective a b ha hb (append_cancel_left (codes "\\g") (decimal a) (decimal b) ((bytes_eq-Decides (name_at a) (name_at b)).0 e))))
    by false e = refl

-- the names of so many modules from a number on
abbrev pub names_from : ℕ → ℕ → List (List ℕ)
names_from from n = map (λ (m : Module). m.id) (map generated_module (range_with_len from n))

others : (a from n : ℕ) → a < from → from + n ≤ 2 ^ 64 → AllByRecursion (λ name. bytes_eq (name_at a) name ≡ false) (names_from from n)
others a from zero less few = tt
others a from (suc n) less few = (
  other_name a from (omega (arith, less, few)) (omega (arith, few)) (omega (arith, less)),
  others a (from + 1) n (omega (arith, less)) (omega (arith, few)),
)

pub names_distinct : (from n : ℕ) → from + n ≤ 2 ^ 64 → AreDistinct (names_from from n)
unfolding IsDistinct
names_distinct from zero few = tt
names_distinct from (suc n) few = (
  others from (from + 1) n (omega arith) (omega (arith, few)),
  names_distinct (from + 1) n (omega (arith, few)),
)
