-- Which of the cases of a rule has given the change.
use Rattle.std.proofs.Common.{◌≡◌, Bool, true, false, Option, Some, None, refl, subst}
use Rattle.std.specs.Option.{option_map}
use Rattle.std.specs.Prelude.{if◌then◌else◌}
use Rattle.expr_rules.specs.Change.{first_some, when}

module _ {B : Type 0} (P : B → Type 0) (r : B) where
  -- a test that holds
  pub when_case : (t : Bool) (x : B) → when t x ≡ Some r → (t ≡ true → P x) → P r
  when_case true x e h = let same : x ≡ r = cc in subst P same (h refl)
  when_case false x e h = absurd (cc)

  -- one that is there
  pub some_case : (x : B) → Some x ≡ Some r → P x → P r
  some_case x e h = let same : x ≡ r = cc in subst P same h

  -- the first of two
  pub first_case : (x y : Option B) → first_some x y ≡ Some r → (x ≡ Some r → P r) → (y ≡ Some r → P r) → P r
  first_case None y e h k = k e
  first_case (Some x) y e h k = h e

  -- what a function gives of one that is there
  pub map_case : {A : Type 0} (g : A → B) (x : Option A) → option_map g x ≡ Some r → ((a : A) → x ≡ Some a → P (g a)) → P r
  map_case g None e h = absurd (cc)
  map_case g (Some a) e h = let same : g a ≡ r = cc in subst P same (h a refl)

  -- one branch of a test
  pub if_case : (t : Bool) (x y : Option B) → (if t then x else y) ≡ Some r → (t ≡ true → x ≡ Some r → P r) → (t ≡ false → y ≡ Some r → P r) → P r
  if_case true x y e h k = h refl e
  if_case false x y e h k = k refl e
