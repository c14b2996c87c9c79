-- Texts as printed tokens, line by line.
use Rattle.std.proofs.Common.{◌≡◌, ℕ, zero, suc, ◌<◌, List, [], ◌∷◌, ◌++◌, length, Some, Bool, true, false, refl, sym, subst}
use Rattle.std.specs.Prelude.{◌==◌, ◌||◌, replicate, slice_index}
use Rattle.std.specs.List.{flat_map}
use Rattle.rtl_lex.specs.declared.token.TokenKind.{TokenKind}
use Rattle.rtl_lex.specs.declared.token.TokenKind.TheVariants.{Mark, Int}
use Rattle.rtl_lex.specs.Gaps.{in_gap}
use Rattle.rtl_lex.specs.Tokens.{front, is_over}

-- a token as it is printed: its bytes behind blanks; or the end of a line
pub data Printed : Type 0 where
  Piece : ℕ → TokenKind → List ℕ → Printed
  EndLine : Printed

abbrev pub printed : Printed → List ℕ
printed (Piece blanks kind text) = replicate blanks 32 ++ text
printed EndLine = 10 ∷ []

-- what is printed
abbrev pub spelled : List Printed → List ℕ
spelled ps = flat_map printed ps

-- whether a token of this kind ends before this byte
abbrev pub stops : TokenKind → ℕ → Bool
stops Mark b = true
stops Int b = b == 32 || b == 10 || b == 58 || b == 93
stops kind b = b == 32 || b == 10

-- the bytes are a token of the kind before each byte that ends it
pub record IsToken (kind : TokenKind) (text : List ℕ) : Type 0 where
  pub some : 0 < length text
  pub starts : in_gap true false (slice_index text 0) ≡ false
  pub whole : (b : ℕ) (rest : List ℕ) → stops kind b ≡ true → front (text ++ b ∷ rest) ≡ Some (kind, length text)
  pub small : is_over kind text ≡ false

-- a token of the kind ends before these
abbrev pub Follows : TokenKind → List Printed → Type 0
Follows kind [] = ⊥
Follows kind (EndLine ∷ ps) = Unit {0}
Follows kind (Piece zero next text ∷ ps) = stops kind (slice_index text 0) ≡ true
Follows kind (Piece (suc n) next text ∷ ps) = Unit {0}

-- these are lines of whole tokens, up to the end of the last; start: a line begins here
abbrev pub AreLines : Bool → List Printed → Type 0
AreLines start [] = start ≡ true
AreLines start (EndLine ∷ ps) = (start ≡ false) × AreLines true ps
AreLines start (Piece n kind text ∷ ps) = IsToken kind text × Follows kind ps × AreLines false ps

follows_then : (kind : TokenKind) (ps qs : List Printed) → Follows kind ps → Follows kind (ps ++ qs)
follows_then kind [] qs f = absurd f
follows_then kind (EndLine ∷ ps) qs f = f
follows_then kind (Piece zero next text ∷ ps) qs f = f
follows_then kind (Piece (suc n) next text ∷ ps) qs f = f

-- lines, and more lines
pub lines_then : (start : Bool) (ps qs : List Printed) → AreLines start ps → AreLines true qs → AreLines start (ps ++ qs)
lines_then start [] qs f g = subst (λ (b : Bool). AreLines b qs) (sym f) g
lines_then start (EndLine ∷ ps) qs f g = (f.0, lines_then true ps qs f.1 g)
lines_then start (Piece n kind text ∷ ps) qs f g = (f.0, follows_then kind ps qs f.1, lines_then false ps qs f.2 g)

-- the rest of a line, which each token ends before, and the lines behind it
abbrev pub Opens : List Printed → Type 0
Opens [] = ⊥
Opens (EndLine ∷ ps) = Unit {0}
Opens (Piece zero kind text ∷ ps) = ⊥
Opens (Piece (suc n) kind text ∷ ps) = Unit {0}

pub record IsTail (ps : List Printed) : Type 0 where
  pub opens : Opens ps
  pub lines : AreLines false ps

pub opens_follows : (kind : TokenKind) (ps : List Printed) → Opens ps → Follows kind ps
opens_follows kind [] o = absurd o
opens_follows kind (EndLine ∷ ps) o = tt
opens_follows kind (Piece zero next text ∷ ps) o = absurd o
opens_follows kind (Piece (suc n) next text ∷ ps) o = tt

-- the end of the line
pub tail_end : (ps : List Printed) → AreLines true ps → IsTail (EndLine ∷ ps)
tail_end ps f = record { opens = tt; lines = (refl, f) }

-- a token, and the rest of its line
pub tail_piece : (n : ℕ) (kind : TokenKind) (text : List ℕ) (ps : List Printed) → IsToken kind text → IsTail ps → IsTail (Piece (suc n) kind text ∷ ps)
tail_piece n kind text ps t f = record { opens = tt; lines = (t, opens_follows kind ps f.opens, f.lines) }

-- the first token of a line, and the rest of the line
pub line_piece : (n : ℕ) (kind : TokenKind) (text : List ℕ) (ps : List Printed) → IsToken kind text → IsTail ps → AreLines true (Piece n kind text ∷ ps)
line_piece n kind text ps t f = (t, opens_follows kind ps f.opens, f.lines)
