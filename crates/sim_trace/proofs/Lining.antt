-- The lines of a stimulus, one after another.
use Rattle.std.proofs.Common.{◌≡◌, ℕ, zero, suc, ◌+◌, ◌<◌, List, [], ◌∷◌, ◌++◌, Bool, true, false, not, cond, ◌||◌, length, get_or, take, drop, Option, Some, None, Result, Ok, Err, refl, sym, ap, ◌∙◌, arith, true≢false, append_assoc, length-append}
use Rattle.std.specs.Prelude.{nat_lt, position}
use Rattle.std.specs.List.{list_any, position_or_len}
use Rattle.std.proofs.lemmas.Bool.{le-ltb, lt-ltb, ltb-false, ltb-true}
use Rattle.std.proofs.lemmas.List.{append-nil}
use Rattle.std.proofs.lemmas.List.Quantifiers.{position-Some}
use Rattle.rtl_bits.specs.declared.bit.Bit.{Bit}
use Rattle.sim_text.specs.Lines.{step_of}
use Rattle.sim_trace.specs.Stimulus.{ends_line, lines_of, onto_line, steps_from, with_step}

line_first : (text : List ℕ) (end d : ℕ) → end < length text → ends_line (get_or text end d) ≡ true → ((k : ℕ) → k < end → ends_line (get_or text k d) ≡ false)
    → lines_of text ≡ take end text ∷ lines_of (drop (suc end) text)
line_first [] end d lt here before = absurd (omega arith)
line_first (b ∷ text) zero d lt here before = ap (λ (t : Bool). cond t ([] ∷ lines_of text) (onto_line b (lines_of text))) here
line_first (b ∷ text) (suc end) d lt here before =
    ap (λ (t : Bool). cond t ([] ∷ lines_of text) (onto_line b (lines_of text))) (before zero (omega arith))
    ∙ ap (onto_line b) (line_first text end d (omega arith) here (λ k below. before (suc k) (omega (arith, below))))

lt_behind : (m n : ℕ) → nat_lt (suc m) (suc n) ≡ nat_lt m n
lt_behind m n = by (nat_lt m n) refl
  where
    by : (t : Bool) → nat_lt m n ≡ t → nat_lt (suc m) (suc n) ≡ t
    by true e = let h = ltb-true m n e in lt-ltb (suc m) (suc n) (omega arith)
    by false e = let h = ltb-false m n e in le-ltb (suc m) (suc n) (omega arith)

placed_any : (text : List ℕ) → nat_lt (position_or_len ends_line text) (length text) ≡ list_any ends_line text
placed_any [] = refl
placed_any (b ∷ text) = by (placed_any text) (ends_line b)
  where
    by : nat_lt (position_or_len ends_line text) (length text) ≡ list_any ends_line text → (t : Bool)
        → nat_lt (cond (not t) (1 + position_or_len ends_line text) 0) (suc (length text)) ≡ (t || list_any ends_line text)
    by rest true = lt-ltb 0 (suc (length text)) (omega arith)
    by rest false = let next : 1 + position_or_len ends_line text ≡ suc (position_or_len ends_line text) = omega arith in rw next (lt_behind (position_or_len ends_line text) (length text) ∙ rest)

no_line : (text : List ℕ) → list_any ends_line text ≡ false → lines_of text ≡ []
no_line [] none = refl
no_line (b ∷ text) none = by (ends_line b) none (no_line text)
  where
    by : (t : Bool) → (t || list_any ends_line text) ≡ false → (list_any ends_line text ≡ false → lines_of text ≡ []) → cond t ([] ∷ lines_of text) (onto_line b (lines_of text)) ≡ []
    by true e rest = absurd (true≢false e)
    by false e rest = ap (onto_line b) (rest e)

-- the first line of a text, and the others
pub line_found : (text : List ℕ) (end : ℕ) → position ends_line text ≡ Some end → lines_of text ≡ take end text ∷ lines_of (drop (suc end) text)
line_found text end h = let found = position-Some ends_line text end 0 h in line_first text end 0 found.0 found.1 found.2

-- a text in which no byte ends a line has none
pub line_absent : (text : List ℕ) → position ends_line text ≡ None → lines_of text ≡ []
line_absent text h = no_line text (sym (placed_any text) ∙ by (nat_lt (position_or_len ends_line text) (length text)) h)
  where
    by : (t : Bool) → cond t (Some (position_or_len ends_line text)) None ≡ None → t ≡ false
    by true e = absurd cc
    by false e = refl

-- vectors, and then those of further lines
abbrev pub with_steps : List (List Bit) → Result (List (List Bit)) ℕ → Result (List (List Bit)) ℕ
with_steps steps (Ok more) = Ok (steps ++ more)
with_steps steps (Err number) = Err number

-- these vectors, and those that the rest of a text says, are all
abbrev pub ReadsOn : List ℕ → List (List Bit) → List ℕ → Result (List (List Bit)) ℕ → Type 0
ReadsOn widths steps rest all = with_steps steps (steps_from (length steps + 1) widths (lines_of rest)) ≡ all

step_more : (steps : List (List Bit)) (number : ℕ) (bits : List Bit) (more : Result (List (List Bit)) ℕ) → with_steps steps (with_step number (Some bits) more) ≡ with_steps (steps ++ bits ∷ []) more
step_more steps number bits (Ok more) = ap Ok (sym (append_assoc steps (bits ∷ []) more))
step_more steps number bits (Err bad) = refl

pub reads_first : (widths : List ℕ) (text : List ℕ) → ReadsOn widths [] text (steps_from 1 widths (lines_of text))
reads_first widths text = by (steps_from 1 widths (lines_of text))
  where
    by : (all : Result (List (List Bit)) ℕ) → with_steps [] all ≡ all
    by (Ok more) = refl
    by (Err number) = refl

split_rest : (widths : List ℕ) (steps : List (List Bit)) (rest : List ℕ) (end : ℕ) → position ends_line rest ≡ Some end
    → with_steps steps (steps_from (length steps + 1) widths (lines_of rest))
    ≡ with_steps steps (with_step (length steps + 1) (step_of widths (take end rest)) (steps_from (length steps + 1 + 1) widths (lines_of (drop (suc end) rest))))
split_rest widths steps rest end h = ap (λ (lines : List (List ℕ)). with_steps steps (steps_from (length steps + 1) widths lines)) (line_found rest end h)

-- a line that says a vector
pub reads_more : (widths : List ℕ) (steps more : List (List Bit)) (rest next : List ℕ) (end : ℕ) (bits : List Bit) (all : Result (List (List Bit)) ℕ)
    → position ends_line rest ≡ Some end → step_of widths (take end rest) ≡ Some bits → more ≡ steps ++ bits ∷ [] → next ≡ drop (end + 1) rest
    → ReadsOn widths steps rest all → ReadsOn widths more next all
reads_more widths steps more rest next end bits all at says is left before =
    let count : length more + 1 ≡ length steps + 1 + 1 = (let n = ap length is ∙ length-append steps (bits ∷ []) in omega (arith, n)) in
    let place : end + 1 ≡ suc end = omega arith in
    let behind : next ≡ drop (suc end) rest = left ∙ ap (λ (n : ℕ). drop n rest) place in
    ap (λ (l : List ℕ). with_steps more (steps_from (length more + 1) widths (lines_of l))) behind
    ∙ ap (λ (n : ℕ). with_steps more (steps_from n widths (lines_of (drop (suc end) rest)))) count
    ∙ ap (λ (s : List (List Bit)). with_steps s (steps_from (length steps + 1 + 1) widths (lines_of (drop (suc end) rest)))) is
    ∙ sym (split_rest widths steps rest end at
    ∙ ap (λ (o : Option (List Bit)). with_steps steps (with_step (length steps + 1) o (steps_from (length steps + 1 + 1) widths (lines_of (drop (suc end) rest))))) says
    ∙ step_more steps (length steps + 1) bits (steps_from (length steps + 1 + 1) widths (lines_of (drop (suc end) rest))))
    ∙ before

-- a line that says none
pub reads_bad : (widths : List ℕ) (steps : List (List Bit)) (rest : List ℕ) (end : ℕ) (all : Result (List (List Bit)) ℕ)
    → position ends_line rest ≡ Some end → step_of widths (take end rest) ≡ None → ReadsOn widths steps rest all → all ≡ Err (length steps + 1)
reads_bad widths steps rest end all at says before =
    sym before ∙ split_rest widths steps rest end at
    ∙ ap (λ (o : Option (List Bit)). with_steps steps (with_step (length steps + 1) o (steps_from (length steps + 1 + 1) widths (lines_of (drop (suc end) rest))))) says

-- a first line ends inside of the text
pub end_within : (text : List ℕ) (end : ℕ) → position ends_line text ≡ Some end → end < length text
end_within text end h = (position-Some ends_line text end 0 h).0

-- no line is left
pub reads_end : (widths : List ℕ) (steps : List (List Bit)) (rest : List ℕ) (all : Result (List (List Bit)) ℕ) → position ends_line rest ≡ None → ReadsOn widths steps rest all → all ≡ Ok steps
reads_end widths steps rest all none before =
    sym before ∙ ap (λ (lines : List (List ℕ)). with_steps steps (steps_from (length steps + 1) widths lines)) (line_absent rest none) ∙ ap Ok (append-nil steps)
