-- The name of a copy is a name, and a name may be a string.
use Rattle.std.proofs.Common.{◌≡◌, ℕ, ◌+◌, ◌<◌, ◌≤◌, Bool, true, false, cond, not, ◌&&◌, List, [], ◌∷◌, ◌++◌, length, refl, arith, length-append}
use Rattle.std.specs.Prelude.{drop, nat_le, nat_lt}
use Rattle.std.specs.Fmt.{decimal}
use Rattle.std.specs.List.{All, list_all}
use Rattle.std.proofs.lemmas.Bool.{and_from, and_parts, leb-true, lt-ltb, ltb-true}
use Rattle.std.proofs.lemmas.Bool.Decides.{nat_tests}
use Rattle.std.proofs.lemmas.Fmt.{length-decimal-le}
use Rattle.std.proofs.lemmas.List.Elements.{All-cons, All-nil}
use Rattle.rtl_sig.specs.Names.{has_name}
use Rattle.rtl_lex.specs.Bytes.{is_name, is_sigil}
use Rattle.rtl_ir.specs.Build.{Building, made_name, module_names}
use Rattle.rtl_readable.specs.Readable.{IsChar, IsName}
use Rattle.readable_laws.proofs.Fresh.{made_is_name}
use Rattle.flat_pass.specs.Flat.{copy_name, dotted, is_free, next_after}

-- ---- names as strings

sigil_some : (b : ℕ) → is_sigil b ≡ true → 0 < b
sigil_some b e = grind (arith, nat_tests)

sigil_small : (b : ℕ) → is_sigil b ≡ true → b < 256
sigil_small b e = grind (arith, nat_tests)

rest_chars : (bs : List ℕ) → list_all is_name bs ≡ true → All IsChar bs
rest_chars [] e = All-nil IsChar
rest_chars (b ∷ bs) e =
    let parts = and_parts (is_name b) (list_all is_name bs) e in
    let own = and_parts (nat_lt 32 b) (nat_lt b 256) parts.0 in
    let more : 32 < b = ltb-true 32 b own.0 in
    All-cons IsChar b bs (omega (arith, more), ltb-true b 256 own.1) (rest_chars bs parts.1)

-- a name has no NUL
pub name_chars : (name : List ℕ) → IsName name → All IsChar name
name_chars [] is = All-nil IsChar
name_chars (b ∷ bs) is =
    let parts = and_parts (is_sigil b) (nat_lt 0 (length bs) && list_all is_name bs) is in
    let rest = and_parts (nat_lt 0 (length bs)) (list_all is_name bs) parts.1 in
    All-cons IsChar b bs (sigil_some b parts.0, sigil_small b parts.0) (rest_chars bs rest.1)

-- ---- the name that a copy is meant to have

all_more : (xs ys : List ℕ) → list_all is_name xs ≡ true → list_all is_name ys ≡ true → list_all is_name (xs ++ ys) ≡ true
all_more [] ys e f = f
all_more (x ∷ xs) ys e f =
    let parts = and_parts (is_name x) (list_all is_name xs) e in
    and_from (is_name x) (list_all is_name (xs ++ ys)) parts.0 (all_more xs ys parts.1 f)

name_rest : (name : List ℕ) → IsName name → list_all is_name (drop 1 name) ≡ true
name_rest [] is = refl
name_rest (b ∷ bs) is =
    (and_parts (nat_lt 0 (length bs)) (list_all is_name bs) (and_parts (is_sigil b) (nat_lt 0 (length bs) && list_all is_name bs) is).1).1

dotted_name : (instance name : List ℕ) → IsName instance → IsName name → IsName (dotted instance name)
dotted_name [] name is named = absurd cc
dotted_name (b ∷ bs) name is named =
    let parts = and_parts (is_sigil b) (nat_lt 0 (length bs) && list_all is_name bs) is in
    let rest = and_parts (nat_lt 0 (length bs)) (list_all is_name bs) parts.1 in
    let some : 0 < length bs = ltb-true 0 (length bs) rest.0 in
    let more : List ℕ = bs ++ 46 ∷ drop 1 name in
    let long : 0 < length more = omega (arith, some, length-append bs (46 ∷ drop 1 name)) in
    and_from (is_sigil b) (nat_lt 0 (length more) && list_all is_name more) parts.0
    (and_from (nat_lt 0 (length more)) (list_all is_name more) (lt-ltb 0 (length more) long)
    (all_more bs (46 ∷ drop 1 name) rest.1 (name_rest name named)))

-- ---- fresh names

made_short : (n : ℕ) → n < 1000000000 → length (made_name n) ≤ 1024
made_short n few =
    let digits : length (decimal n) ≤ 9 = length-decimal-le 9 n (omega arith) (omega (arith, few)) (omega (arith, few)) in
    omega (arith, digits)

-- ---- the name that it gets

module _ (b : Building) (instance name : List ℕ) (few : next_after b (dotted instance name) ≤ 1000000000) where
  -- what both the name that it is meant to have and a fresh one have
  either : (P : List ℕ → Type 0) → (is_free b.body (dotted instance name) ≡ true → P (dotted instance name)) → (b.next < 1000000000 → P (made_name b.next)) → P (copy_name b (dotted instance name))
  either P h k = by (is_free b.body (dotted instance name)) refl few
    where
      by : (t : Bool) → is_free b.body (dotted instance name) ≡ t → cond t b.next (b.next + 1) ≤ 1000000000 → P (cond t (dotted instance name) (made_name b.next))
      by true e l = h e
      by false e l = k (omega (arith, l))

  pub copy_is_name : IsName instance → IsName name → IsName (copy_name b (dotted instance name))
  copy_is_name is named =
      either IsName (λ e. dotted_name instance name is named) (λ l. made_is_name b.next l)

  pub copy_short : length (copy_name b (dotted instance name)) ≤ 1024
  copy_short =
      either (λ z. length z ≤ 1024)
      (λ e. leb-true (length (dotted instance name)) 1024 (and_parts (nat_le (length (dotted instance name)) 1024) (not (has_name (module_names b.body) (dotted instance name))) e).0)
      (λ l. made_short b.next l)
