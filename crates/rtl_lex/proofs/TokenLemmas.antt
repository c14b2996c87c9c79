-- Laws of the tokens of a text.
use Rattle.std.proofs.Common.{◌≡◌, ℕ, ◌+◌, ◌-◌, ◌<◌, ◌≤◌, List, [], ◌∷◌, length, take, drop, length-drop, Option, Some, None, Result, Ok, Err, Bool, true, false, refl, sym, ap, ◌∙◌, arith, inl, inr}
use Rattle.std.specs.Prelude.{if◌then◌else◌}
use Rattle.std.proofs.lemmas.Bool.{cases_lt}
use Rattle.std.proofs.lemmas.Bool.Decides.{nat_tests}
use Rattle.std.proofs.lemmas.List.{length-take}
use Rattle.rtl_lex.specs.declared.place.Place.{Place}
use Rattle.rtl_lex.specs.declared.token.LexFault.{LexFault}
use Rattle.rtl_lex.specs.declared.token.LexFault.TheVariants as faults
use Rattle.rtl_lex.specs.declared.token.TokenKind.{TokenKind}
use Rattle.rtl_lex.specs.declared.token.TokenKind.TheVariants.{Line}
use Rattle.rtl_lex.specs.Place.{moved}
use Rattle.rtl_lex.specs.Gaps.{gap}
use Rattle.rtl_lex.specs.Tokens.{Piece, token_at, front, begun, is_over}
use Rattle.rtl_lex.proofs.Places.{moved-near}

-- the first token of bytes that are not empty is not empty
front_some : (b : ℕ) (bs : List ℕ) (found : TokenKind × ℕ) → front (b ∷ bs) ≡ Some found → 0 < found.1
front_some b bs found e = grind (arith, nat_tests)

front_any : (bytes : List ℕ) (found : TokenKind × ℕ) → front bytes ≡ Some found → 0 < length bytes → 0 < found.1
front_any [] found e lt = absurd (omega arith)
front_any (b ∷ bs) found e lt = front_some b bs found e

front_none : (bytes : List ℕ) (found : TokenKind × ℕ) → front bytes ≡ Some found → length bytes ≡ 0 → found.0 ≡ Line
front_none [] found e z = cc
front_none (b ∷ bs) found e z = absurd (omega arith)

abbrev answered : Piece → Result Piece LexFault
answered t = Ok t

pick : (a : Bool) (x : LexFault) (y t : Piece) → (if a then Err x else Ok y) ≡ answered t → y ≡ t
pick true x y t e = absurd cc
pick false x y t e = cc

-- a token that is there was found, and ends behind its text
begun_is : (rest : List ℕ) (place : Place) (o : Option (TokenKind × ℕ)) (t : Piece) → begun rest place o ≡ Ok t → (found : TokenKind × ℕ) × (o ≡ Some found) × (found.0 ≡ t.kind) × (moved place (take found.1 rest) ≡ t.next)
begun_is rest place None t e = absurd cc
begun_is rest place (Some found) t e =
    let same = pick (is_over found.0 (take found.1 rest)) (faults.Int place) (record { kind = found.0; text = take found.1 rest; place = place; next = moved place (take found.1 rest) }) t e in
    (found, refl, ap (λ (x : Piece). x.kind) same, ap (λ (x : Piece). x.next) same)

-- a token ends where it is looked for or behind that, within the bytes, and further on where bytes are left
pub record IsFurther (bytes : List ℕ) (from : Place) (t : Piece) : Type 0 where
  pub after : from.at ≤ t.next.at
  pub within : t.next.at ≤ from.at + length bytes
  pub some : 0 < length bytes → from.at < t.next.at
  pub line : length bytes ≡ 0 → t.kind ≡ Line

pub token_further : (bytes : List ℕ) (from : Place) (t : Piece) → token_at bytes from ≡ Ok t → IsFurther bytes from t
unfolding token_at
token_further bytes from t e =
    let skip = gap false false bytes in
    let rest = drop skip bytes in
    let place = moved from (take skip bytes) in
    let m = begun_is rest place (front rest) t e in
    let near1 = moved-near from (take skip bytes) in
    let near2 = moved-near place (take m.0.1 rest) in
    let there : t.next.at ≡ place.at + length (take m.0.1 rest) = ap (λ (p : Place). p.at) (sym m.3) ∙ near2.at in
    let n1 = length-take skip bytes in
    let n2 = length-take m.0.1 rest in
    let n3 : length rest ≡ length bytes - skip = length-drop skip bytes in
    let grows : 0 < length rest → 0 < m.0.1 = front_any rest m.0 m.1 in
    record {
      after = omega (arith, there, near1.at);
      within = omega (arith, there, near1.at, n1, n2, n3);
      some = λ lt. elim (cases_lt 0 skip) [
        | inl skips ↦ omega (arith, there, near1.at, n1, n2, n3)
        | inr none ↦ omega (arith, there, near1.at, n1, n2, n3, grows (omega (arith, n3)))
      ];
      line = λ z. sym m.2 ∙ front_none rest m.0 m.1 (omega (arith, n3));
    }
