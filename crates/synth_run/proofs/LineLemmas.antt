-- Lines, byte by byte.
use Rattle.std.proofs.Common.{◌≡◌, ℕ, List, [], ◌∷◌, ◌++◌, Bool, true, false, refl, sym, ap, ◌∙◌, true≢false, append_assoc}
use Rattle.std.specs.Prelude.{◌==◌, ◌&&◌, not}
use Rattle.synth_run.specs.Lines.{Lines, is_unended, lines_of, with_byte}
use Rattle.synth_run.specs.Taking.{BeginsBytes, TakesBytes, lines_before}

-- where LF comes after bytes without one, they are a line
pub line_ends : (line more : List ℕ) → is_unended line ≡ true → lines_of (line ++ 10 ∷ more) ≡ lines_before (line ∷ []) (lines_of more)
line_ends [] more h = refl
line_ends (byte ∷ line) more h = by (byte == 10) refl h (line_ends line more)
  where
    by : (t : Bool) → (byte == 10) ≡ t → (not t && is_unended line) ≡ true
        → (is_unended line ≡ true → lines_of (line ++ 10 ∷ more) ≡ lines_before (line ∷ []) (lines_of more))
        → lines_of (byte ∷ line ++ 10 ∷ more) ≡ lines_before ((byte ∷ line) ∷ []) (lines_of more)
    by true e h rest = absurd (true≢false (sym h))
    by false e h rest = ap (with_byte byte) (rest h) ∙ rw e refl

-- bytes without LF are no line yet
pub not_ended : (line : List ℕ) → is_unended line ≡ true → lines_of line ≡ record { ended = []; rest = line }
not_ended [] h = refl
not_ended (byte ∷ line) h = by (byte == 10) refl h (not_ended line)
  where
    by : (t : Bool) → (byte == 10) ≡ t → (not t && is_unended line) ≡ true → (is_unended line ≡ true → lines_of line ≡ record { ended = []; rest = line })
        → lines_of (byte ∷ line) ≡ record { ended = []; rest = byte ∷ line }
    by true e h rest = absurd (true≢false (sym h))
    by false e h rest = ap (with_byte byte) (rest h) ∙ rw e refl

pub unended_both : (a b : List ℕ) → is_unended a ≡ true → is_unended b ≡ true → is_unended (a ++ b) ≡ true
unended_both [] b h k = k
unended_both (byte ∷ a) b h k = by (byte == 10) h (λ g. unended_both a b g k)
  where
    by : (t : Bool) → (not t && is_unended a) ≡ true → (is_unended a ≡ true → is_unended (a ++ b) ≡ true) → (not t && is_unended (a ++ b)) ≡ true
    by true h rest = absurd (true≢false (sym h))
    by false h rest = rest h

-- lines, then others, then more
pub before_both : (a b : List (List ℕ)) (others : Lines) → lines_before a (lines_before b others) ≡ lines_before (a ++ b) others
before_both a b others = ap (λ (ls : List (List ℕ)). record { ended = ls; rest = others.rest }) (sym (append_assoc a b others.ended))

-- of bytes that are taken, these lines have ended, and this is left of them behind the front of a line
abbrev pub LeavesBytes : List ℕ → List ℕ → List (List ℕ) → List ℕ → List ℕ → Type 0
LeavesBytes before bytes lines line left = (more : List ℕ) → lines_of (before ++ (bytes ++ more)) ≡ lines_before lines (lines_of (line ++ (left ++ more)))

pub leaves_all : (before bytes : List ℕ) → LeavesBytes before bytes [] before bytes
leaves_all before bytes = λ more. refl

-- a line that ends in what is left
pub leaves_next : (before bytes : List ℕ) (lines : List (List ℕ)) (line left front behind : List ℕ) → LeavesBytes before bytes lines line left
    → is_unended line ≡ true → is_unended front ≡ true → left ≡ front ++ 10 ∷ behind → LeavesBytes before bytes (lines ++ (line ++ front) ∷ []) [] behind
leaves_next before bytes lines line left front behind h unended whole is = λ more.
    let cut : line ++ (left ++ more) ≡ (line ++ front) ++ 10 ∷ (behind ++ more) =
    ap (λ (l : List ℕ). line ++ (l ++ more)) is ∙ ap (λ (l : List ℕ). line ++ l) (append_assoc front (10 ∷ behind) more)
    ∙ sym (append_assoc line front (10 ∷ (behind ++ more))) in
    h more ∙ ap (λ (l : List ℕ). lines_before lines (lines_of l)) cut
    ∙ ap (lines_before lines) (line_ends (line ++ front) (behind ++ more) (unended_both line front unended whole))
    ∙ before_both lines ((line ++ front) ∷ []) (lines_of (behind ++ more))

-- what is left has no LF
pub leaves_last : (before bytes : List ℕ) (lines : List (List ℕ)) (line left : List ℕ) → LeavesBytes before bytes lines line left → TakesBytes before bytes lines (line ++ left)
leaves_last before bytes lines line left h = λ more. h more ∙ ap (λ (l : List ℕ). lines_before lines (lines_of l)) (sym (append_assoc line left more))

-- the lines that have ended so far
pub leaves_begins : (before bytes : List ℕ) (lines : List (List ℕ)) (line left : List ℕ) → LeavesBytes before bytes lines line left → BeginsBytes before bytes lines
leaves_begins before bytes lines line left h = λ more. (lines_of (line ++ (left ++ more)), h more)

-- bytes, and then others
pub bytes_both : (a bytes more : List ℕ) (ls ms : List (List ℕ)) (b c : List ℕ) → TakesBytes a bytes ls b → TakesBytes b more ms c → TakesBytes a (bytes ++ more) (ls ++ ms) c
bytes_both a bytes more ls ms b c f g = λ rest.
    ap (λ (l : List ℕ). lines_of (a ++ l)) (append_assoc bytes more rest) ∙ f (more ++ rest) ∙ ap (lines_before ls) (g rest) ∙ before_both ls ms (lines_of (c ++ rest))

pub begins_bytes : (a bytes more : List ℕ) (ls ms : List (List ℕ)) (b : List ℕ) → TakesBytes a bytes ls b → BeginsBytes b more ms → BeginsBytes a (bytes ++ more) (ls ++ ms)
begins_bytes a bytes more ls ms b f g = λ rest.
    let next = g rest in (
      next.0,
      ap (λ (l : List ℕ). lines_of (a ++ l)) (append_assoc bytes more rest) ∙ f (more ++ rest) ∙ ap (lines_before ls) next.1 ∙ before_both ls ms next.0,
    )
