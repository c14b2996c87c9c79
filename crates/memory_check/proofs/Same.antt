-- Equal clockings are one.
use Rattle.std.proofs.Common.{◌≡◌, ℕ, suc, ◌+◌, ◌<◌, ◌≤◌, Bool, true, false, ◌&&◌, List, [], ◌∷◌, length, map, get_or, drop, refl, sym, ◌∙◌, ap, add-one}
use Rattle.std.proofs.Math.Seq.{drop-cons}
use Rattle.std.proofs.lemmas.Bool.{false≢true, and_parts}
use Rattle.std.proofs.lemmas.List.{drop_all}
use Rattle.rtl_sig.specs.declared.sig.SigBit.{SigBit}
use Rattle.rtl_ir.specs.Signals.{same_place, same_signal}
use Rattle.rtl_ir.specs.WritePorts.{Clocking, same_clocking, same_flag}
use Rattle.rtl_ir.proofs.SamePlaces.{signal-decides}

flag_same : (a b : Bool) → same_flag a b ≡ true → a ≡ b
flag_same true true e = refl
flag_same false false e = refl
flag_same true false e = absurd (false≢true e)
flag_same false true e = absurd (false≢true e)

-- the same edge of the same clock is one clocking
pub clocking_same : (a b : Clocking) → same_clocking a b ≡ true → a ≡ b
clocking_same a b e =
    let p = and_parts (same_signal a.clock b.clock) (same_flag a.rising b.rising) e in
    let clock = (signal-decides a.clock b.clock).0 p.0 in
    let rising = flag_same a.rising b.rising p.1 in
    (λ i. record { clock = clock i; rising = rising i })

front : {A : Type 0} (items : List A) (k : ℕ) (d x : A) → k < length items → x ≡ get_or items k d → drop k items ≡ x ∷ drop (k + 1) items
front items k d x lt is =
    let next : suc k ≡ k + 1 = sym (add-one k) in
    drop-cons items k d lt ∙ (λ j. sym is j ∷ drop (next j) items)

-- two signals that lead to the same places, place by place
pub signal_front : (f : SigBit → SigBit) (xs ys : List SigBit) (k : ℕ) (d x y : SigBit) → k < length xs → k < length ys → x ≡ get_or xs k d → y ≡ get_or ys k d
    → same_signal (map f (drop k xs)) (map f (drop k ys)) ≡ (same_place (f x) (f y) && same_signal (map f (drop (k + 1) xs)) (map f (drop (k + 1) ys)))
signal_front f xs ys k d x y lx ly ix iy = λ i. same_signal (map f (front xs k d x lx ix i)) (map f (front ys k d y ly iy i))

-- signals of different lengths lead to different places
pub signals_unlike : (f : SigBit → SigBit) (xs ys : List SigBit) → (length xs ≡ length ys → ⊥) → same_signal (map f xs) (map f ys) ≡ false
signals_unlike f [] [] n = absurd (n refl)
signals_unlike f [] (y ∷ ys) n = refl
signals_unlike f (x ∷ xs) [] n = refl
signals_unlike f (x ∷ xs) (y ∷ ys) n =
    (λ i. same_place (f x) (f y) && signals_unlike f xs ys (λ e. n (ap suc e)) i) ∙ by (same_place (f x) (f y))
  where
    by : (b : Bool) → (b && false) ≡ false
    by true = refl
    by false = refl

module _ (f : SigBit → SigBit) (xs ys : List SigBit) (k : ℕ) (all : Bool) (so_far : same_signal (map f (drop k xs)) (map f (drop k ys)) ≡ all) where
  module _ (d : SigBit) (lx : k < length xs) (ly : k < length ys) (same : Bool) (is : same ≡ same_place (f (get_or xs k d)) (f (get_or ys k d))) where
    split : (same && same_signal (map f (drop (k + 1) xs)) (map f (drop (k + 1) ys))) ≡ all
    split = (λ i. is i && same_signal (map f (drop (k + 1) xs)) (map f (drop (k + 1) ys))) ∙ sym (signal_front f xs ys k d (get_or xs k d) (get_or ys k d) lx ly refl refl) ∙ so_far

    -- a place that differs
    pub place_differs : same ≡ false → false ≡ all
    place_differs e = (λ i. sym e i && same_signal (map f (drop (k + 1) xs)) (map f (drop (k + 1) ys))) ∙ split

    -- a place that is the same
    pub place_agrees : same ≡ true → same_signal (map f (drop (k + 1) xs)) (map f (drop (k + 1) ys)) ≡ all
    place_agrees e = (λ i. sym e i && same_signal (map f (drop (k + 1) xs)) (map f (drop (k + 1) ys))) ∙ split

  -- all places are the same
  pub places_end : length xs ≤ k → length ys ≤ k → true ≡ all
  places_end px py = (λ i. same_signal (map f (sym (drop_all k xs px) i)) (map f (sym (drop_all k ys py) i))) ∙ so_far
