-- The module of a name, by its place.
use Rattle.std.proofs.Common.{◌≡◌, ℕ, zero, suc, ◌<◌, List, [], ◌∷◌, Bool, true, false, cond, ◌||◌, length, get_or, slice_get, Some, None, refl, ap, ◌∙◌, arith, true≢false}
use Rattle.std.specs.List.{find, list_any}
use Rattle.std.specs.Option.{is_some}
use Rattle.std.specs.Str.{bytes_eq}
use Rattle.std.proofs.lemmas.List.Quantifiers.{position-Some}
use Rattle.rtl_ir.specs.declared.module.Module.{Module}
use Rattle.rtl_ir.specs.Faults.Recursion.{place_named}
use Rattle.rtl_ir.specs.Types.{module_named}
use Rattle.design_edit.specs.Modules.{has_module}
use Rattle.design_edit.proofs.Placing.{none_passes}

module _ {X : Type 0} (test : X → Bool) where
  none_found : (xs : List X) → list_any test xs ≡ false → find test xs ≡ None
  none_found [] h = refl
  none_found (x ∷ xs) h = by (test x) h (none_found xs)
    where
      by : (b : Bool) → (b || list_any test xs) ≡ false → (list_any test xs ≡ false → find test xs ≡ None) → cond b (Some x) (find test xs) ≡ None
      by true e rest = absurd (true≢false e)
      by false e rest = rest e

  found_at : (xs : List X) (at : ℕ) (d : X) → at < length xs → test (get_or xs at d) ≡ true → ((k : ℕ) → k < at → test (get_or xs k d) ≡ false) → find test xs ≡ slice_get xs at
  found_at [] at d lt here before = absurd (omega arith)
  found_at (x ∷ xs) zero d lt here before = ap (λ (b : Bool). cond b (Some x) (find test xs)) here
  found_at (x ∷ xs) (suc at) d lt here before =
      ap (λ (b : Bool). cond b (Some x) (find test xs)) (before zero (omega arith))
      ∙ found_at xs at d (omega arith) here (λ k below. before (suc k) (omega (arith, below)))

-- no module has the name
pub unnamed : (modules : List Module) (name : List ℕ) → place_named modules name ≡ None → module_named modules name ≡ None
unnamed modules name h = none_found (λ (m : Module). bytes_eq m.id name) modules (none_passes (λ (m : Module). bytes_eq m.id name) modules h)

-- the module at the place has it
pub named_at : (modules : List Module) (name : List ℕ) (at : ℕ) (d : Module) → place_named modules name ≡ Some at → module_named modules name ≡ slice_get modules at
named_at modules name at d h =
    let found = position-Some (λ (m : Module). bytes_eq m.id name) modules at d h in
    found_at (λ (m : Module). bytes_eq m.id name) modules at d found.0 found.1 found.2

pub place_within : (modules : List Module) (name : List ℕ) (at : ℕ) (d : Module) → place_named modules name ≡ Some at → at < length modules
place_within modules name at d h = (position-Some (λ (m : Module). bytes_eq m.id name) modules at d h).0

-- whether a module has the name
pub has_none : (modules : List Module) (name : List ℕ) → place_named modules name ≡ None → has_module modules name ≡ false
has_none modules name h = ap is_some (unnamed modules name h)

pub has_one : (modules : List Module) (name : List ℕ) (at : ℕ) → place_named modules name ≡ Some at → has_module modules name ≡ true
has_one [] name at h = absurd cc
has_one (m ∷ modules) name at h =
    let found = position-Some (λ (n : Module). bytes_eq n.id name) (m ∷ modules) at m h in
    ap is_some (named_at (m ∷ modules) name at m h) ∙ some (m ∷ modules) at found.0
  where
    some : (ms : List Module) (k : ℕ) → k < length ms → is_some (slice_get ms k) ≡ true
    some [] k lt = absurd (omega arith)
    some (n ∷ ms) zero lt = refl
    some (n ∷ ms) (suc k) lt = some ms k (omega arith)
