-- Laws of places.
use Rattle.std.proofs.Common.{◌≡◌, ℕ, suc, ◌+◌, ◌<◌, ◌≤◌, Bool, true, false, not, List, [], ◌∷◌, ◌++◌, length, take, drop, get_or, length-drop, refl, sym, ap, ◌∙◌, arith}
use Rattle.std.specs.Prelude.{◌&&◌, ◌==◌, if◌then◌else◌}
use Rattle.std.proofs.Math.Seq.{take-add}
use Rattle.std.proofs.lemmas.List.{length-take, take_more}
use Rattle.rtl_lex.specs.declared.place.Place.{Place}
use Rattle.rtl_lex.specs.Place.{behind, is_flat, moved, start, IsPlaceIn}

pub record IsNear (p q : Place) (n : ℕ) : Type 0 where
  pub at : q.at ≡ p.at + n
  pub line : q.line ≤ p.line + n
  pub column : q.column ≤ p.column + n

behind-near : (p : Place) (b : ℕ) → IsNear p (behind p b) 1
behind-near p b = elim (b == 10) as (λ t. IsNear p (if t then record { at = p.at + 1; line = p.line + 1; column = 1 } else record { at = p.at + 1; line = p.line; column = p.column + 1 }) 1) [
  | true ↦ record { at = refl; line = omega arith; column = omega arith }
  | false ↦ record { at = refl; line = omega arith; column = omega arith }
]

pub moved-near : (p : Place) (bs : List ℕ) → IsNear p (moved p bs) (length bs)
moved-near p [] = record { at = omega arith; line = omega arith; column = omega arith }
moved-near p (b ∷ bs) =
    let one = behind-near p b in
    let more = moved-near (behind p b) bs in
    record { at = omega (arith, one.at, more.at); line = omega (arith, one.line, more.line); column = omega (arith, one.column, more.column) }

pub moved-append : (p : Place) (xs ys : List ℕ) → moved p (xs ++ ys) ≡ moved (moved p xs) ys
moved-append p [] ys = refl
moved-append p (x ∷ xs) ys = moved-append (behind p x) xs ys

pub moved_more : (p : Place) (bs : List ℕ) (i : ℕ) → i < length bs → moved p (take (i + 1) bs) ≡ behind (moved p (take i bs)) (get_or bs i 0)
moved_more p bs i lt = ap (moved p) (take_more bs i 0 lt) ∙ moved-append p (take i bs) (get_or bs i 0 ∷ [])

-- behind more bytes of the text
pub IsPlaceIn_forward : (text : List ℕ) (p : Place) (n : ℕ) → IsPlaceIn text p → p.at + n ≤ length text → IsPlaceIn text (moved p (take n (drop p.at text))) × ((moved p (take n (drop p.at text))).at ≡ p.at + n)
IsPlaceIn_forward text p n here le =
    let q = moved p (take n (drop p.at text)) in
    let count : length (take n (drop p.at text)) ≡ n = omega (arith, length-take n (drop p.at text), length-drop p.at text) in
    let near = moved-near p (take n (drop p.at text)) in
    let at : q.at ≡ p.at + n = near.at ∙ ap (λ (k : ℕ). p.at + k) count in
    let front : take (p.at + n) text ≡ take p.at text ++ take n (drop p.at text) = take-add p.at n text in (
      record {
        within = omega (arith, at);
        is = ap (λ (s : Place). moved s (take n (drop p.at text))) here.is ∙ sym (moved-append start (take p.at text) (take n (drop p.at text))) ∙ ap (moved start) (sym front ∙ ap (λ (k : ℕ). take k text) (sym at));
      },
      at,
    )

-- a line and a column are at most one more than the bytes before
pub record IsLow (p : Place) : Type 0 where
  pub line : p.line ≤ p.at + 1
  pub column : p.column ≤ p.at + 1

pub low_places : (text : List ℕ) (p : Place) → IsPlaceIn text p → IsLow p
low_places text p here =
    let near = moved-near start (take p.at text) in
    let count : length (take p.at text) ≤ p.at = omega (arith, length-take p.at text) in
    record {
      line = omega (arith, near.line, ap (λ (s : Place). s.line) here.is, count);
      column = omega (arith, near.column, ap (λ (s : Place). s.column) here.is, count);
    }

-- behind bytes of which none ends a line
abbrev pub along : Place → ℕ → Place
along p n = record { at = p.at + n; line = p.line; column = p.column + n }

along_more : (p : Place) (n : ℕ) → along (along p 1) n ≡ along p (suc n)
along_more p n = let at : p.at + 1 + n ≡ p.at + suc n = omega arith in let column : p.column + 1 + n ≡ p.column + suc n = omega arith in (λ i. record { at = at i; line = p.line; column = column i })

pub moved_flat : (p : Place) (bs : List ℕ) → is_flat bs ≡ true → moved p bs ≡ along p (length bs)
moved_flat p [] e = let at : p.at ≡ p.at + 0 = omega arith in let column : p.column ≡ p.column + 0 = omega arith in (λ i. record { at = at i; line = p.line; column = column i })
moved_flat p (b ∷ bs) e = by (b == 10) (moved_flat (along p 1) bs) e
  where
    by : (t : Bool) → (is_flat bs ≡ true → moved (along p 1) bs ≡ along (along p 1) (length bs)) → (not t && is_flat bs) ≡ true
        → moved (if t then record { at = p.at + 1; line = p.line + 1; column = 1 } else record { at = p.at + 1; line = p.line; column = p.column + 1 }) bs ≡ along p (length (b ∷ bs))
    by true so f = absurd (cc)
    by false so f = so f ∙ along_more p (length bs)

-- so many bytes further on in a line
pub flat_forward : (text : List ℕ) (p q : Place) (n : ℕ) → p.at + n ≤ length text → is_flat (take n (drop p.at text)) ≡ true → q ≡ along p n → q ≡ moved p (take n (drop p.at text))
flat_forward text p q n le flat is =
    let count : length (take n (drop p.at text)) ≡ n = omega (arith, length-take n (drop p.at text), length-drop p.at text) in
    is ∙ sym (moved_flat p (take n (drop p.at text)) flat ∙ ap (along p) count)
