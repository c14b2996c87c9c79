-- A name is found among the rows whose names have its length.
use Rattle.std.proofs.Common.{◌≡◌, ℕ, Bool, true, false, List, [], ◌∷◌, length, Some, refl, sym, ◌∙◌, ap, subst, arith}
use Rattle.std.specs.Prelude.{◌==◌, filter, if◌then◌else◌}
use Rattle.std.specs.Str.{bytes_eq}
use Rattle.std.proofs.lemmas.Bool.Decides.{nat_tests}
use Rattle.std.proofs.lemmas.Slice.Eq.{bytes_eq-Decides}
use Rattle.cell_types.specs.Names.{named}

same_length : (text name : List ℕ) → bytes_eq name text ≡ true → (length text == length name) ≡ true
same_length text name e =
    let same : length text ≡ length name = ap length (sym ((bytes_eq-Decides name text).0 e)) in
    grind (arith, nat_tests)

-- the names of all rows have a property
abbrev pub EachRow : {K : Type 0} → (List ℕ → Type 0) → List (List ℕ × K) → Type 0
EachRow P [] = Unit {0}
EachRow P (row ∷ rows) = P row.0 × EachRow P rows

module _ {K : Type 0} where
  -- the rows whose names have a length
  abbrev pub rows_of : List (List ℕ × K) → ℕ → List (List ℕ × K)
  rows_of rows n = filter (λ row. length row.0 == n) rows

  named_kept : (rows : List (List ℕ × K)) (name : List ℕ) → named (rows_of rows (length name)) name ≡ named rows name
  named_kept [] name = refl
  named_kept (row ∷ rows) name = by (length row.0 == length name) (bytes_eq name row.0) refl refl (named_kept rows name)
    where
      by : (t u : Bool) → (length row.0 == length name) ≡ t → bytes_eq name row.0 ≡ u → named (rows_of rows (length name)) name ≡ named rows name → named (rows_of (row ∷ rows) (length name)) name ≡ named (row ∷ rows) name
      by true u e f rest = rw e (ap (λ z. if bytes_eq name row.0 then Some row.1 else z) rest)
      by false true e f rest = absurd (let same = same_length row.0 name f in cc)
      by false false e f rest = rw (e, f) rest

  -- a name of a length is found among the rows of that length, and where there are none it is not found
  pub named_at : (rows : List (List ℕ × K)) (name : List ℕ) (n : ℕ) → length name ≡ n → named (rows_of rows n) name ≡ named rows name
  named_at rows name n e = ap (λ z. named (rows_of rows z) name) (sym e) ∙ named_kept rows name

-- what the first row with a name names, of names that all have a property
pub named_has : {K : Type 0} (P : List ℕ → Type 0) (rows : List (List ℕ × K)) (name : List ℕ) (k : K) → EachRow P rows → named rows name ≡ Some k → P name
named_has P [] name k each e = absurd cc
named_has P (row ∷ rows) name k each e = by (bytes_eq name row.0) refl e (named_has P rows name k each.1)
  where
    by : (t : Bool) → bytes_eq name row.0 ≡ t → (if t then Some row.1 else named rows name) ≡ Some k → (named rows name ≡ Some k → P name) → P name
    by true f e rest = subst P (sym ((bytes_eq-Decides name row.0).0 f)) each.0
    by false f e rest = rest e
