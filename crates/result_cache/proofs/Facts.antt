-- What is kept of a key, by its mode and its value.
use Rattle.std.proofs.Common.{◌≡◌, ◌↔◌, ℕ, List, [], ◌∷◌, None, Bool, true, false, cond, true≢false, refl, sym, subst}
use Rattle.std.specs.Prelude.{IsSome, IfSome}
use Rattle.std.specs.Str.{bytes_eq}
use Rattle.result_cache.specs.declared.call.Entry.{Entry}
use Rattle.result_cache.specs.declared.call.Kept.{Kept}
use Rattle.result_cache.specs.declared.call.Kept.TheVariants.{Free, Held, Filled}
use Rattle.result_cache.specs.History.{free, IsFilled}
use Rattle.result_cache.specs.Stored.{Contents, IsSound, mode_of, value_of, look_up, Stands, AllStand, mode_at, value_at}
use Rattle.result_cache.proofs.Keys.{bytes_true}
use Rattle.result_cache.proofs.Calls.{contents}

filled_kept : {V : Type 0} (x : Kept V) → IsSome (value_of x) ↔ IsFilled (mode_of x)
filled_kept Free = ((λ h. true≢false (sym h)), (λ h. absurd h))
filled_kept (Held seat) = ((λ h. true≢false (sym h)), (λ h. absurd h))
filled_kept (Filled number value) = ((λ h. tt), (λ h. refl))

-- a key has a value exactly where it is filled
filled_look : {V : Type 0} (keys : List (List ℕ)) (kept : List (Kept V)) (key : List ℕ) → IsSome (look_up None value_of keys kept key) ↔ IsFilled (look_up free mode_of keys kept key)
filled_look [] kept key = ((λ h. true≢false (sym h)), (λ h. absurd h))
filled_look (k ∷ keys) [] key = ((λ h. true≢false (sym h)), (λ h. absurd h))
filled_look (k ∷ keys) (x ∷ kept) key =
    let P : Bool → Type 0 = λ t. IsSome (cond t (value_of x) (look_up None value_of keys kept key)) ↔ IsFilled (cond t (mode_of x) (look_up free mode_of keys kept key)) in
    elim (bytes_eq k key) as P [ true ↦ filled_kept x | false ↦ filled_look keys kept key ]

module _ {V : Type 0} (stands_for : V → List ℕ → Type 0) where
  stand_kept : (key : List ℕ) (x : Kept V) → Stands stands_for key x → IfSome (value_of x) (λ value. stands_for value key)
  stand_kept key Free h = tt
  stand_kept key (Held seat) h = tt
  stand_kept key (Filled number value) h = h

  -- the value of a key stands for it
  stand_look : (keys : List (List ℕ)) (kept : List (Kept V)) (key : List ℕ) → AllStand stands_for keys kept → IfSome (look_up None value_of keys kept key) (λ value. stands_for value key)
  stand_look [] kept key h = tt
  stand_look (k ∷ keys) [] key h = tt
  stand_look (k ∷ keys) (x ∷ kept) key h =
      let P : Bool → Type 0 = λ t. bytes_eq k key ≡ t → IfSome (cond t (value_of x) (look_up None value_of keys kept key)) (λ value. stands_for value key) in
      elim (bytes_eq k key) as P [
        | true ↦ λ same. stand_kept key x (subst (λ q. Stands stands_for q x) (bytes_true k key same) h.0)
        | false ↦ λ ne. stand_look keys kept key h.1
      ] refl

module _ {V : Type 0} {stands_for : V → List ℕ → Type 0} {keys : List (List ℕ)} {kept : List (Kept V)} {es : List Entry} {owed room : ℕ} where
  pub filled_found : {s : Contents V} → IsSound V stands_for keys kept es owed room → contents keys kept es ≡ s → (key : List ℕ) → IsSome (value_at s key) ↔ IsFilled (mode_at s key)
  filled_found {s} h e key =
      subst (λ (t : Contents V). IsSome (value_at t key) ↔ IsFilled (mode_at t key)) e
      (subst (λ m. IsSome (look_up None value_of keys kept key) ↔ IsFilled m) (sym (h.replays key)) (filled_look keys kept key))

  pub value_stands : {s : Contents V} → IsSound V stands_for keys kept es owed room → contents keys kept es ≡ s → (key : List ℕ) → IfSome (value_at s key) (λ value. stands_for value key)
  value_stands {s} h e key = subst (λ (t : Contents V). IfSome (value_at t key) (λ value. stands_for value key)) e (stand_look stands_for keys kept key h.stand)
