-- Bytes, cut at their first LF.
use Rattle.std.proofs.Common.{◌≡◌, ℕ, zero, suc, ◌+◌, ◌-◌, ◌<◌, List, [], ◌∷◌, ◌++◌, Bool, true, false, Some, None, length, get_or, take, drop, refl, sym, ap, ◌∙◌, arith, add-one, true≢false}
use Rattle.std.specs.Prelude.{◌&&◌, ◌||◌, not, position, if◌then◌else◌}
use Rattle.std.specs.List.{list_any}
use Rattle.std.proofs.lemmas.Bool.{eqb-true}
use Rattle.std.proofs.lemmas.List.{take_rest}
use Rattle.std.proofs.lemmas.List.Quantifiers.{position-Some}
use Rattle.design_edit.proofs.Placing.{none_passes}
use Rattle.synth_run.specs.Lines.{is_lf, is_unended}
use Rattle.synth_run.specs.Synth.{after_line}

-- bytes are those before their first LF, LF, and those after it
pub record IsCutAt (bytes : List ℕ) (at : ℕ) : Type 0 where
  pub whole : is_unended (take at bytes) ≡ true
  pub parts : bytes ≡ take at bytes ++ 10 ∷ drop (suc at) bytes

cut_at : (bytes : List ℕ) (at : ℕ) → at < length bytes → is_lf (get_or bytes at 0) ≡ true → ((k : ℕ) → k < at → is_lf (get_or bytes k 0) ≡ false) → IsCutAt bytes at
cut_at [] at lt here before = absurd (omega arith)
cut_at (b ∷ bytes) zero lt here before = record { whole = refl; parts = ap (λ (x : ℕ). x ∷ bytes) (eqb-true b 10 here) }
cut_at (b ∷ bytes) (suc at) lt here before =
    let next = cut_at bytes at (omega (arith, lt)) here (λ k below. before (suc k) (omega (arith, below))) in
    record {
      whole = ap (λ (t : Bool). not t && is_unended (take at bytes)) (before zero (omega arith)) ∙ next.whole;
      parts = ap (λ (l : List ℕ). b ∷ l) next.parts;
    }

cut_found : (bytes : List ℕ) (at : ℕ) → position is_lf bytes ≡ Some at → IsCutAt bytes at
cut_found bytes at h = let found = position-Some is_lf bytes at 0 h in cut_at bytes at found.0 found.1 found.2

-- the bytes before the first LF, and those after it
pub parts_at : (bytes : List ℕ) (at : ℕ) → position is_lf bytes ≡ Some at
    → (is_unended (take at bytes) ≡ true) × (bytes ≡ take at bytes ++ 10 ∷ take (length bytes - (at + 1)) (drop (at + 1) bytes))
parts_at bytes at h =
    let cut = cut_found bytes at h in
    (cut.whole, rw (take_rest bytes (at + 1)) (rw (add-one at) cut.parts))

not_any : (bytes : List ℕ) → list_any is_lf bytes ≡ false → is_unended bytes ≡ true
not_any [] h = refl
not_any (b ∷ bytes) h = by (is_lf b) h (not_any bytes)
  where
    by : (t : Bool) → (t || list_any is_lf bytes) ≡ false → (list_any is_lf bytes ≡ false → is_unended bytes ≡ true) → (not t && is_unended bytes) ≡ true
    by true h rest = absurd (true≢false h)
    by false h rest = rest h

pub no_end : (bytes : List ℕ) → position is_lf bytes ≡ None → is_unended bytes ≡ true
no_end bytes h = not_any bytes (none_passes is_lf bytes h)

-- ---- the first line of a text

pub unended_line : (line text : List ℕ) → is_unended line ≡ true → after_line (line ++ 10 ∷ text) ≡ text
unended_line [] text h = refl
unended_line (byte ∷ line) text h = by (is_lf byte) refl h (unended_line line text)
  where
    by : (t : Bool) → is_lf byte ≡ t → (not t && is_unended line) ≡ true → (is_unended line ≡ true → after_line (line ++ 10 ∷ text) ≡ text)
        → after_line (byte ∷ line ++ 10 ∷ text) ≡ text
    by true e h rest = absurd (true≢false (sym h))
    by false e h rest = ap (λ (t : Bool). if t then line ++ 10 ∷ text else after_line (line ++ 10 ∷ text)) e ∙ rest h

pub after_split : (text front behind : List ℕ) → is_unended front ≡ true → text ≡ front ++ 10 ∷ behind → behind ≡ after_line text
after_split text front behind whole is = sym (ap after_line is ∙ unended_line front behind whole)

pub after_none : (text : List ℕ) → is_unended text ≡ true → [] ≡ after_line text
after_none [] h = refl
after_none (byte ∷ text) h = by (is_lf byte) refl h (after_none text)
  where
    by : (t : Bool) → is_lf byte ≡ t → (not t && is_unended text) ≡ true → (is_unended text ≡ true → [] ≡ after_line text) → [] ≡ after_line (byte ∷ text)
    by true e h rest = absurd (true≢false (sym h))
    by false e h rest = rest h ∙ sym (ap (λ (t : Bool). if t then text else after_line text) e)
