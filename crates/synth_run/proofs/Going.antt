-- How a session goes through bytes, line by line.
use Rattle.std.proofs.Common.{◌≡◌, ℕ, List, [], ◌∷◌, ◌++◌, Bool, true, false, Option, refl, sym, ap, subst, append-nil}
use Rattle.std.proofs.lemmas.List.{map-append}
use Rattle.std.specs.Io.BufRead.{strip_last}
use Rattle.desk_read.specs.Taking.{OpenBlock}
use Rattle.synth_run.specs.Lines.{is_unended, read_lines}
use Rattle.synth_run.specs.Session.{Turn}
use Rattle.synth_run.specs.Taking.{BeginsBytes, BeginsLines, Breaks, Speaks, TakesBytes, TakesLines}
use Rattle.synth_run.specs.declared.session.Session.{Session}
use Rattle.synth_run.specs.declared.session.Stop.{Stop}
use Rattle.synth_run.proofs.LineLemmas.{LeavesBytes, leaves_all, leaves_begins, leaves_last, leaves_next}
use Rattle.synth_run.proofs.Speaking.{begins_both, breaks_both, lines_both, lines_none, speaks_both, speaks_none}

-- a session took the front of bytes, of which this is left
pub record Goes (start : Session) (bytes : List ℕ) (now : Session) (left : List ℕ) (had has : Option (List ℕ)) (m n : ℕ) : Type 0 where
  pub lines : List (List ℕ)
  pub turns : List Turn
  pub bytes_are : LeavesBytes start.line bytes lines now.line left
  pub lines_are : TakesLines start.reader (read_lines lines) turns now.reader
  pub told : Speaks start.speaker now.speaker false turns had has m n
  pub unended : is_unended now.line ≡ true

pub goes_first : (start : Session) (bytes : List ℕ) (had : Option (List ℕ)) (n : ℕ) → is_unended start.line ≡ true → Goes start bytes start bytes had had n n
goes_first start bytes had n unended = record {
  lines = [];
  turns = [];
  bytes_are = leaves_all start.line bytes;
  lines_are = lines_none start.reader;
  told = speaks_none start.speaker had n;
  unended = unended;
}

read_both : (ls : List (List ℕ)) (line : List ℕ) → read_lines ls ++ read_lines (line ∷ []) ≡ read_lines (ls ++ line ∷ [])
read_both ls line = sym (map-append (strip_last 13) ls (line ∷ []))

module _ (start now held next : Session) (bytes left front behind : List ℕ) (had has hold : Option (List ℕ)) (m n o : ℕ)
    (going : Goes start bytes now left had has m n) (whole : is_unended front ≡ true) (cut : left ≡ front ++ 10 ∷ behind)
    (kept : held ≡ record now { line = now.line ++ front }) where
  line_is : held.line ≡ now.line ++ front
  line_is = ap (λ (s : Session). s.line) kept

  reader_is : held.reader ≡ now.reader
  reader_is = ap (λ (s : Session). s.reader) kept

  speaker_is : held.speaker ≡ now.speaker
  speaker_is = ap (λ (s : Session). s.speaker) kept

  bytes_next : LeavesBytes start.line bytes (going.lines ++ held.line ∷ []) [] behind
  bytes_next =
      subst (λ (l : List ℕ). LeavesBytes start.line bytes (going.lines ++ l ∷ []) [] behind) (sym line_is)
      (leaves_next start.line bytes going.lines now.line left front behind going.bytes_are going.unended whole cut)

  lines_next : (turns : List Turn) → TakesLines held.reader (read_lines (held.line ∷ [])) turns next.reader
      → TakesLines start.reader (read_lines (going.lines ++ held.line ∷ [])) (going.turns ++ turns) next.reader
  lines_next turns taken =
      subst (λ (ls : List (List ℕ)). TakesLines start.reader ls (going.turns ++ turns) next.reader) (read_both going.lines held.line)
      (lines_both start.reader now.reader next.reader (read_lines going.lines) (read_lines (held.line ∷ [])) going.turns turns going.lines_are
      (subst (λ (r : Option OpenBlock). TakesLines r (read_lines (held.line ∷ [])) turns next.reader) reader_is taken))

  told_next : (ended : Bool) (turns : List Turn) → Speaks held.speaker next.speaker ended turns has hold n o → Speaks start.speaker next.speaker ended (going.turns ++ turns) had hold m o
  told_next ended turns told =
      speaks_both start.speaker now.speaker next.speaker ended going.turns turns had has hold m n o going.told
      (subst (λ s. Speaks s next.speaker ended turns has hold n o) speaker_is told)

  -- a line more, and its command
  pub goes_next : next.line ≡ [] → (turns : List Turn) × TakesLines held.reader (read_lines (held.line ∷ [])) turns next.reader
      × Speaks held.speaker next.speaker false turns has hold n o → Goes start bytes next behind had hold m o
  goes_next empty line = record {
    lines = going.lines ++ held.line ∷ [];
    turns = going.turns ++ line.0;
    bytes_are = subst (λ (l : List ℕ). LeavesBytes start.line bytes (going.lines ++ held.line ∷ []) l behind) (sym empty) bytes_next;
    lines_are = lines_next line.0 line.1;
    told = told_next false line.0 line.2;
    unended = subst (λ (l : List ℕ). is_unended l ≡ true) (sym empty) refl;
  }

  -- the command of the line ended the session
  pub goes_to_quit : (turns : List Turn) × TakesLines held.reader (read_lines (held.line ∷ [])) turns next.reader × Speaks held.speaker next.speaker true turns has hold n o
      → (lines : List (List ℕ)) × (turns : List Turn) × BeginsBytes start.line bytes lines × TakesLines start.reader (read_lines lines) turns next.reader
      × Speaks start.speaker next.speaker true turns had hold m o
  goes_to_quit line = (
    going.lines ++ held.line ∷ [],
    going.turns ++ line.0,
    leaves_begins start.line bytes (going.lines ++ held.line ∷ []) [] behind bytes_next,
    lines_next line.0 line.1,
    told_next true line.0 line.2,
  )

  -- the reply to the command of the line was not written whole
  pub goes_broken : (stop : Stop) → (turns : List Turn) × BeginsLines held.reader (read_lines (held.line ∷ [])) turns × Breaks held.speaker.desk.state stop turns has hold n o
      → (lines : List (List ℕ)) × (turns : List Turn) × BeginsBytes start.line bytes lines × BeginsLines start.reader (read_lines lines) turns
      × Breaks start.speaker.desk.state stop turns had hold m o
  goes_broken stop line = (
    going.lines ++ held.line ∷ [],
    going.turns ++ line.0,
    leaves_begins start.line bytes (going.lines ++ held.line ∷ []) [] behind bytes_next,
    subst (λ (ls : List (List ℕ)). BeginsLines start.reader ls (going.turns ++ line.0)) (read_both going.lines held.line)
        (begins_both start.reader now.reader (read_lines going.lines) (read_lines (held.line ∷ [])) going.turns line.0 going.lines_are
        (subst (λ (r : Option OpenBlock). BeginsLines r (read_lines (held.line ∷ [])) line.0) reader_is line.1)),
    breaks_both start.speaker now.speaker stop going.turns line.0 had has hold m n o going.told
        (subst (λ s. Breaks s stop line.0 has hold n o) (ap (λ (s : Session). s.speaker.desk.state) kept) line.2),
  )

-- what is left has no LF
pub goes_last : (start now held : Session) (bytes left : List ℕ) (had has : Option (List ℕ)) (m n : ℕ) → Goes start bytes now left had has m n
    → held ≡ record now { line = now.line ++ left }
    → (lines : List (List ℕ)) × (turns : List Turn) × TakesBytes start.line bytes lines held.line × TakesLines start.reader (read_lines lines) turns held.reader
    × Speaks start.speaker held.speaker false turns had has m n
goes_last start now held bytes left had has m n going kept = (
  going.lines,
  going.turns,
  subst (TakesBytes start.line bytes going.lines) (sym (ap (λ (s : Session). s.line) kept)) (leaves_last start.line bytes going.lines now.line left going.bytes_are),
  subst (TakesLines start.reader (read_lines going.lines) going.turns) (sym (ap (λ (s : Session). s.reader) kept)) going.lines_are,
  subst (λ s. Speaks start.speaker s false going.turns had has m n) (sym (ap (λ (s : Session). s.speaker) kept)) going.told,
)

-- memory was wanting for the line
pub goes_forgotten : (start now : Session) (bytes left : List ℕ) (had has : Option (List ℕ)) (m n : ℕ) (stop : Stop) → Goes start bytes now left had has m n
    → (more : (turns : List Turn) × BeginsLines now.reader [] turns × Breaks now.speaker.desk.state stop turns has has n n)
    → (lines : List (List ℕ)) × (turns : List Turn) × BeginsBytes start.line bytes lines × BeginsLines start.reader (read_lines lines) turns
    × Breaks start.speaker.desk.state stop turns had has m n
goes_forgotten start now bytes left had has m n stop going more = (
  going.lines,
  going.turns ++ more.0,
  leaves_begins start.line bytes going.lines now.line left going.bytes_are,
  subst (λ (ls : List (List ℕ)). BeginsLines start.reader ls (going.turns ++ more.0)) (append-nil (read_lines going.lines))
      (begins_both start.reader now.reader (read_lines going.lines) [] going.turns more.0 going.lines_are more.1),
  breaks_both start.speaker now.speaker stop going.turns more.0 had has has m n n going.told more.2,
)
