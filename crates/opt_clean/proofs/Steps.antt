-- One more item of a list, in loops.
use Rattle.std.proofs.Common.{◌≡◌, ℕ, ◌+◌, ◌<◌, ◌≤◌, List, [], ◌∷◌, ◌++◌, length, get_or, map, drop, refl, sym, ◌∙◌, ap, append_assoc}
use Rattle.std.proofs.lemmas.List.{append-nil, drop_all, drop_more}
use Rattle.rtl_sig.specs.declared.sig.SigBit.{SigBit}
use Rattle.rtl_sig.specs.declared.sig.SigBit.TheVariants.{Fixed, Wire as OnWire}
use Rattle.rtl_ir.specs.Signals.{wire_bits}

-- the next item, and those behind it
pub here : {A : Type 0} (xs : List A) (i : ℕ) (x : A) → i < length xs → x ≡ get_or xs i x → drop i xs ≡ x ∷ drop (i + 1) xs
here xs i x h is = drop_more xs i x h ∙ ap (λ z. z ∷ drop (i + 1) xs) (sym is)

pub first_bits : (s : SigBit) (signal : List SigBit) → wire_bits (s ∷ signal) ≡ wire_bits (s ∷ []) ++ wire_bits signal
first_bits (Fixed c) signal = refl
first_bits (OnWire b) signal = refl

pub bits_next : (signal : List SigBit) (i : ℕ) (s : SigBit) → i < length signal → s ≡ get_or signal i s → wire_bits (drop i signal) ≡ wire_bits (s ∷ []) ++ wire_bits (drop (i + 1) signal)
bits_next signal i s h is = ap wire_bits (here signal i s h is) ∙ first_bits s (drop (i + 1) signal)

-- what is made of each item
pub map_next : {A B : Type 0} (f : A → B) (xs : List A) (i : ℕ) (x : A) (y : B) (done more : List B) → i < length xs → x ≡ get_or xs i x → y ≡ f x → more ≡ done ++ y ∷ [] → done ++ map f (drop i xs) ≡ map f xs → more ++ map f (drop (i + 1) xs) ≡ map f xs
map_next f xs i x y done more h is e m inv =
    ap (λ z. z ++ map f (drop (i + 1) xs)) m
    ∙ append_assoc done (y ∷ []) (map f (drop (i + 1) xs))
    ∙ ap (λ z. done ++ (z ∷ map f (drop (i + 1) xs))) e
    ∙ ap (λ z. done ++ map f z) (sym (here xs i x h is))
    ∙ inv

pub map_done : {A B : Type 0} (f : A → B) (xs : List A) (i : ℕ) (done : List B) → length xs ≤ i → done ++ map f (drop i xs) ≡ map f xs → done ≡ map f xs
map_done f xs i done h inv = sym (append-nil done) ∙ ap (λ z. done ++ map f z) (sym (drop_all i xs h)) ∙ inv

-- the same where the items go one by one
pub map_rest : {A B : Type 0} (f : A → B) (rest more : List A) (x : A) (y : B) (done after all : List B) → rest ≡ x ∷ more → y ≡ f x → after ≡ done ++ y ∷ [] → done ++ map f rest ≡ all → after ++ map f more ≡ all
map_rest f rest more x y done after all r e m inv =
    ap (λ z. z ++ map f more) m
    ∙ append_assoc done (y ∷ []) (map f more)
    ∙ ap (λ z. done ++ (z ∷ map f more)) e
    ∙ ap (λ z. done ++ map f z) (sym r)
    ∙ inv

pub rest_kept : {A : Type 0} (rest more : List A) (x y : A) (done after all : List A) → rest ≡ x ∷ more → y ≡ x → after ≡ done ++ y ∷ [] → done ++ rest ≡ all → after ++ more ≡ all
rest_kept rest more x y done after all r e m inv =
    ap (λ z. z ++ more) m
    ∙ append_assoc done (y ∷ []) more
    ∙ ap (λ z. done ++ (z ∷ more)) e
    ∙ ap (λ z. done ++ z) (sym r)
    ∙ inv
