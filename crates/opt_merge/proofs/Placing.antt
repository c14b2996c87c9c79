-- A place more for a bit.
use Rattle.std.proofs.Common.{◌≡◌, ℕ, ◌<◌, List, [], ◌∷◌, ◌++◌, length, get_or, set, Option, Some, None, inl, refl, sym, subst}
use Rattle.std.specs.Global.{Vec}
use Rattle.rtl_sig.specs.declared.sig.WireBit.{WireBit}
use Rattle.net_index.specs.Numbering.{number_of}
use Rattle.net_model.specs.Lists.{In}
use Rattle.net_model.proofs.Members.{In-left, In-right}
use Rattle.opt_merge.specs.Readers.{places_at}
use Rattle.opt_merge.proofs.Sofar.{places_grow, places_set}

pub reads_inside : (widths : List ℕ) (inside : List (Vec ℕ)) (outside : List ℕ) (b : WireBit) (number place : ℕ) (d new : Vec ℕ) → number_of widths b ≡ Some number → number < length inside
    → new.items ≡ (get_or inside number d).items ++ place ∷ [] → In place (places_at (set inside number new) outside (number_of widths b))
reads_inside widths inside outside b number place d new e lt grown =
    subst (λ o. In place (places_at (set inside number new) outside o)) (sym e)
    (subst (In place) (sym (places_set inside number new lt)) (subst (In place) (sym grown) (In-right place (get_or inside number d).items (place ∷ []) (inl refl))))

pub grows_inside : (widths : List ℕ) (inside : List (Vec ℕ)) (outside : List ℕ) (number place : ℕ) (d new : Vec ℕ) → number < length inside → new.items ≡ (get_or inside number d).items ++ place ∷ []
    → (b : WireBit) (at : ℕ) → In at (places_at inside outside (number_of widths b)) → In at (places_at (set inside number new) outside (number_of widths b))
grows_inside widths inside outside number place d new lt grown b at i = by (number_of widths b) i
  where
    by : (o : Option ℕ) → In at (places_at inside outside o) → In at (places_at (set inside number new) outside o)
    by None j = j
    by (Some k) j = places_grow inside number place d new lt grown k at j

pub reads_outside : (widths : List ℕ) (inside : List (Vec ℕ)) (outside new : List ℕ) (b : WireBit) (place : ℕ) → number_of widths b ≡ None → new ≡ outside ++ place ∷ [] → In place (places_at inside new (number_of widths b))
reads_outside widths inside outside new b place e grown =
    subst (λ o. In place (places_at inside new o)) (sym e) (subst (In place) (sym grown) (In-right place outside (place ∷ []) (inl refl)))

pub grows_outside : (widths : List ℕ) (inside : List (Vec ℕ)) (outside new : List ℕ) (place : ℕ) → new ≡ outside ++ place ∷ []
    → (b : WireBit) (at : ℕ) → In at (places_at inside outside (number_of widths b)) → In at (places_at inside new (number_of widths b))
grows_outside widths inside outside new place grown b at i = by (number_of widths b) i
  where
    by : (o : Option ℕ) → In at (places_at inside outside o) → In at (places_at inside new o)
    by None j = subst (In at) (sym grown) (In-left at outside (place ∷ []) j)
    by (Some k) j = j
