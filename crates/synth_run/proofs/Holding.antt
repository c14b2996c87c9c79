-- A session over an input, from its start to its end or to where it breaks off.
use Rattle.std.proofs.Common.{◌≡◌, inl, inr, ℕ, ◌+◌, ◌≤◌, ◌<◌, List, [], ◌++◌, Bool, true, false, Option, Some, None, Result, Ok, Err, length, take, refl, sym, ap, subst, ◌∙◌, append_assoc, append-nil, arith, length-append}
use Rattle.std.specs.Prelude.{◌||◌, IfErr, IfOk, OnErr, if◌then◌else◌}
use Rattle.std.specs.Io.BufRead.{strip_last}
use Rattle.std.proofs.lemmas.List.{map-append, take_at}
use Rattle.std.specs.Io.KnownBytes.{Appends, Consumes, IsAtEnd, Keeps}
use Rattle.std.proofs.KnownBytes.{Appends-trans, Consumes-trans}
use Rattle.synth_io.specs.declared.input.TheConstants.{LIMIT}
use Rattle.synth_io.specs.Taking.{TakesJust}
use Rattle.desk_read.specs.declared.command.Command.{Command}
use Rattle.desk_read.specs.Taking.{commands_from}
use Rattle.desk_core.specs.State.{State}
use Rattle.desk_core.proofs.Rises.{rises_more}
use Rattle.synth_run.specs.Lines.{is_unended, last_line, lines_of, read_lines}
use Rattle.synth_run.specs.Said.{too_long}
use Rattle.synth_run.specs.Session.{AreTurns, Turn, all_commands, builds_in, commands_in, ended_commands, has_error, input_commands, is_overlong, text_in, up_to_quit}
use Rattle.synth_run.specs.Taking.{BeginWith, BeginsBytes, BeginsLines, Breaks, Broken, Finishes, Held, Speaks, SpeaksFor, Stops, TakesBytes, TakesLines}
use Rattle.synth_run.specs.declared.session.Session.{Session}
use Rattle.synth_run.specs.declared.session.Stop.{Stop}
use Rattle.synth_run.specs.declared.session.Stop.TheVariants as halts
use Rattle.synth_run.proofs.Commanding.{all_are, all_first, at_end, bytes_begin, ended_are, input_begins, input_ends, lines_begin, never_over, past_limit, quit_taken}
use Rattle.synth_run.proofs.Limits.{consumes_kept, consumes_none}
use Rattle.synth_run.proofs.LineLemmas.{begins_bytes, bytes_both}
use Rattle.synth_run.proofs.Speaking.{take_both, begins_both, breaks_both, builds_both, commands_both, errors_both, lines_both, lines_none, speaks_both, speaks_none, text_both, turns_both}

-- a session has taken so many bytes of an input
pub record Stands (start now : Session) (left rest had has : Option (List ℕ)) (count m n : ℕ) : Type 0 where
  pub bytes : List ℕ
  pub lines : List (List ℕ)
  pub turns : List Turn
  pub taken : Consumes left rest bytes
  pub size : length bytes ≡ count
  pub within : count ≤ LIMIT
  pub bytes_are : TakesBytes [] bytes lines now.line
  pub lines_are : TakesLines None (read_lines lines) turns now.reader
  pub told : Speaks start.speaker now.speaker false turns had has m n
  pub unended : is_unended now.line ≡ true

pub at_end_none : (rest : Option (List ℕ)) (more : List ℕ) → IsAtEnd rest → rest ≡ Some more → more ≡ []
at_end_none None more h e = absurd cc
at_end_none (Some bytes) more h e =
    let same : bytes ≡ more = cc in
    sym same ∙ h

-- the commands of an input begin with those of turns whose lines it begins with
all_past : (bytes : List ℕ) (lines : List (List ℕ)) (turns : List Turn) → BeginsBytes [] bytes (lines ++ []) → BeginsLines None (read_lines lines) turns → Stops false (commands_in turns)
    → BeginWith (up_to_quit (all_commands bytes)) turns
all_past bytes lines turns begun begins stops =
    let same : lines ++ [] ≡ lines = append-nil lines in
    all_first bytes lines turns false (subst (BeginsBytes [] bytes) same begun) begins stops

take_whole : (text : List ℕ) → take (length text) text ≡ text
take_whole text = ap (take (length text)) (sym (append-nil text)) ∙ take_at text [] (length text) refl

-- at the start
pub stands_first : (start : Session) (left had : Option (List ℕ)) (n : ℕ) → start.line ≡ [] → start.reader ≡ None → Stands start start left left had had 0 n n
stands_first start left had n line reader = record {
  bytes = [];
  lines = [];
  turns = [];
  taken = consumes_none left;
  size = refl;
  within = omega arith;
  bytes_are = subst (TakesBytes [] [] []) (sym line) (λ more. refl);
  lines_are = subst (TakesLines None [] []) (sym reader) (lines_none None);
  told = speaks_none start.speaker had n;
  unended = subst (λ (l : List ℕ). is_unended l ≡ true) (sym line) refl;
}

module _ (start now next : Session) (piece : List ℕ) (left rest behind had has hold : Option (List ℕ)) (count more m n o : ℕ)
    (stands : Stands start now left rest had has count m n) (read : Consumes rest behind piece) (size : length piece ≡ more) (within : count + more ≤ LIMIT) where
  both_taken : Consumes left behind (stands.bytes ++ piece)
  both_taken = Consumes-trans left rest behind stands.bytes piece stands.taken read

  both_size : length (stands.bytes ++ piece) ≡ count + more
  both_size = omega (arith, length-append stands.bytes piece, stands.size, size)

  both_within : length (stands.bytes ++ piece) ≤ LIMIT
  both_within = omega (arith, both_size, within)

  -- more bytes
  pub stands_next : is_unended next.line ≡ true → (lines : List (List ℕ)) × (turns : List Turn) × TakesBytes now.line piece lines next.line × TakesLines now.reader (read_lines lines) turns next.reader
      × Speaks now.speaker next.speaker false turns has hold n o → Stands start next left behind had hold (count + more) m o
  stands_next unended t = record {
    bytes = stands.bytes ++ piece;
    lines = stands.lines ++ t.0;
    turns = stands.turns ++ t.1;
    taken = both_taken;
    size = both_size;
    within = within;
    bytes_are = bytes_both [] stands.bytes piece stands.lines t.0 now.line next.line stands.bytes_are t.2;
    lines_are =
        subst (λ (ls : List (List ℕ)). TakesLines None ls (stands.turns ++ t.1) next.reader) (sym (map-append (strip_last 13) stands.lines t.0))
        (lines_both None now.reader next.reader (read_lines stands.lines) (read_lines t.0) stands.turns t.1 stands.lines_are t.3);
    told = speaks_both start.speaker now.speaker next.speaker false stands.turns t.1 had has hold m n o stands.told t.4;
    unended = unended;
  }

  -- a `quit`
  pub stands_quit : start.speaker.refused ≡ false → (lines : List (List ℕ)) × (turns : List Turn) × BeginsBytes now.line piece lines × TakesLines now.reader (read_lines lines) turns next.reader
      × Speaks now.speaker next.speaker true turns has hold n o → Held start.speaker.desk.state next.speaker.refused left behind had hold m o
  stands_quit fresh t =
      let bytes = stands.bytes ++ piece in
      let lines = stands.lines ++ t.0 in
      let turns = stands.turns ++ t.1 in
      let begun : BeginsBytes [] bytes lines = begins_bytes [] stands.bytes piece stands.lines t.0 now.line stands.bytes_are t.2 in
      let are : TakesLines None (read_lines lines) turns next.reader =
      subst (λ (ls : List (List ℕ)). TakesLines None ls turns next.reader) (sym (map-append (strip_last 13) stands.lines t.0))
      (lines_both None now.reader next.reader (read_lines stands.lines) (read_lines t.0) stands.turns t.1 stands.lines_are t.3) in
      let told = speaks_both start.speaker now.speaker next.speaker true stands.turns t.1 had has hold m n o stands.told t.4 in
      let begins = lines_begin None next.reader (read_lines lines) turns are in
      let all : (more : List ℕ) → input_commands (bytes ++ more) ≡ commands_in turns = input_ends bytes lines turns true both_within begun begins told.stops refl in
      record {
        bytes = bytes;
        turns = turns;
        over = false;
        taken = both_taken;
        steps = told.steps;
        session = λ more e. (sym (all more), never_over (bytes ++ more) turns (all more) told.stops.has);
        written = told.written;
        error = sym (told.refused ∙ ap (λ (t : Bool). t || has_error turns) fresh);
        through = inr (inr (quit_taken bytes lines turns true both_within begun begins told.stops refl));
        first = all_first bytes lines turns true begun begins told.stops;
        builds = told.builds;
      }

  -- a reply that was not written whole
  pub stands_broken : (stop : Stop) → (stop ≡ halts.Source → ⊥) → (lines : List (List ℕ)) × (turns : List Turn) × BeginsBytes now.line piece lines × BeginsLines now.reader (read_lines lines) turns
      × Breaks now.speaker.desk.state stop turns has hold n o → Broken start.speaker.desk.state stop left behind had hold m o
  stands_broken stop other t =
      let bytes = stands.bytes ++ piece in
      let lines = stands.lines ++ t.0 in
      let turns = stands.turns ++ t.1 in
      let begun : BeginsBytes [] bytes lines = begins_bytes [] stands.bytes piece stands.lines t.0 now.line stands.bytes_are t.2 in
      let begins : BeginsLines None (read_lines lines) turns =
      subst (λ (ls : List (List ℕ)). BeginsLines None ls turns) (sym (map-append (strip_last 13) stands.lines t.0))
      (begins_both None now.reader (read_lines stands.lines) (read_lines t.0) stands.turns t.1 stands.lines_are t.3) in
      let broke = breaks_both start.speaker now.speaker stop stands.turns t.1 had has hold m n o stands.told t.4 in
      record {
        bytes = bytes;
        turns = turns;
        taken = both_taken;
        steps = broke.steps;
        cut = inl ((λ more e. input_begins bytes lines turns broke.ended both_within begun begins broke.stops more), (broke.size, broke.written));
        answered = λ e. absurd (other e);
        first = all_first bytes lines turns broke.ended begun begins broke.stops;
        builds = broke.builds;
      }

module _ (start now : Session) (left rest behind had has hold : Option (List ℕ)) (count m n o : ℕ) (stands : Stands start now left rest had has count m n) where
  here : length stands.bytes ≤ LIMIT
  here = omega (arith, stands.size, stands.within)

  begun_here : BeginsBytes [] stands.bytes stands.lines
  begun_here = bytes_begin [] stands.bytes stands.lines now.line stands.bytes_are

  begins_here : BeginsLines None (read_lines stands.lines) stands.turns
  begins_here = lines_begin None now.reader (read_lines stands.lines) stands.turns stands.lines_are

  taken_here : Keeps rest behind → Consumes left behind stands.bytes
  taken_here kept = subst (Consumes left behind) (append-nil stands.bytes) (Consumes-trans left rest behind stands.bytes [] stands.taken (consumes_kept rest behind kept))

  whole_text : Appends had has (take (length (text_in stands.turns)) (text_in stands.turns))
  whole_text = subst (Appends had has) (sym (take_whole (text_in stands.turns))) stands.told.written

  -- the source failed
  pub stands_failed : Keeps rest behind → Broken start.speaker.desk.state halts.Source left behind had has m n
  stands_failed kept = record {
    bytes = stands.bytes;
    turns = stands.turns;
    taken = taken_here kept;
    steps = stands.told.steps;
    cut = inl ((λ more e. input_begins stands.bytes stands.lines stands.turns false here begun_here begins_here stands.told.stops more), (length (text_in stands.turns), whole_text));
    answered = λ e. (
      sym (ended_are stands.bytes stands.lines stands.turns now.reader now.line stands.bytes_are stands.lines_are stands.unended),
      stands.told.written,
    );
    first = all_first stands.bytes stands.lines stands.turns false begun_here begins_here stands.told.stops;
    builds = λ other. stands.told.builds;
  }

  -- the end of the input: the last line, and what an open block makes
  pub stands_ended : start.speaker.refused ≡ false → (refused : Bool) → Keeps rest behind → IsAtEnd behind
      → Finishes now.speaker.desk.state now.speaker.refused (commands_from now.reader (last_line now.line)) refused has hold n o
      → Held start.speaker.desk.state refused left behind had hold m o
  stands_ended fresh refused kept ended f =
      let bytes = stands.bytes in
      let turns = stands.turns ++ f.turns in
      let all : up_to_quit (all_commands bytes) ≡ commands_in turns =
      ap up_to_quit (all_are bytes stands.lines stands.turns now.reader now.line stands.bytes_are stands.lines_are stands.unended)
      ∙ stands.told.stops.up_to (commands_from now.reader (last_line now.line)) ∙ ap (λ (cs : List Command). commands_in stands.turns ++ cs) f.all
      ∙ sym (commands_both stands.turns f.turns) in
      let final = at_end bytes here in
      record {
        bytes = bytes;
        turns = turns;
        over = false;
        taken = taken_here kept;
        steps = turns_both start.speaker.desk.state stands.turns f.turns stands.told.steps (subst (λ (s : State). AreTurns s f.turns) (sym stands.told.last) f.steps);
        session = λ more e.
            let none : more ≡ [] = at_end_none behind more ended e in
            let same : bytes ++ more ≡ bytes = ap (λ (l : List ℕ). bytes ++ l) none ∙ append-nil bytes in
            (sym (ap input_commands same ∙ final.0 ∙ all), ap is_overlong same ∙ final.1);
        written = subst (Appends had hold) (sym (text_both stands.turns f.turns)) (Appends-trans had has hold (text_in stands.turns) (text_in f.turns) stands.told.written f.written);
        error =
            sym (f.error ∙ ap (λ (t : Bool). t || has_error f.turns) (stands.told.refused ∙ ap (λ (t : Bool). t || has_error stands.turns) fresh)
            ∙ sym (errors_both stands.turns f.turns));
        through = inl ended;
        first = ([], all ∙ sym (append-nil (commands_in turns)));
        builds = rises_more (builds_in stands.turns) (builds_in f.turns) (builds_in turns) m n o stands.told.builds f.builds (omega (arith, builds_both stands.turns f.turns));
      }

  -- the reply to the last command was not written whole
  pub stands_cut : (stop : Stop) → (stop ≡ halts.Source → ⊥) → Keeps rest behind → IsAtEnd behind
      → (turns : List Turn) × BeginWith (commands_from now.reader (last_line now.line)) turns × Breaks now.speaker.desk.state stop turns has hold n o
      → Broken start.speaker.desk.state stop left behind had hold m o
  stands_cut stop other kept ended t =
      let bytes = stands.bytes in
      let turns = stands.turns ++ t.0 in
      let broke = breaks_both start.speaker now.speaker stop stands.turns t.0 had has hold m n o stands.told t.2 in
      let all : BeginWith (up_to_quit (all_commands bytes)) turns = (
        if broke.ended then [] else up_to_quit t.1.0,
        ap up_to_quit (all_are bytes stands.lines stands.turns now.reader now.line stands.bytes_are stands.lines_are stands.unended
            ∙ ap (λ (cs : List Command). commands_in stands.turns ++ cs) t.1.1 ∙ sym (append_assoc (commands_in stands.turns) (commands_in t.0) t.1.0)
            ∙ ap (λ (cs : List Command). cs ++ t.1.0) (sym (commands_both stands.turns t.0)))
            ∙ broke.stops.up_to t.1.0,
      ) in
      let final = at_end bytes here in
      record {
        bytes = bytes;
        turns = turns;
        taken = taken_here kept;
        steps = broke.steps;
        cut = inl (
          (λ more e.
              let none : more ≡ [] = at_end_none behind more ended e in
              let same : bytes ++ more ≡ bytes = ap (λ (l : List ℕ). bytes ++ l) none ∙ append-nil bytes in
              (all.0, ap input_commands same ∙ final.0 ∙ all.1)),
          (broke.size, broke.written),
        );
        answered = λ e. absurd (other e);
        first = all;
        builds = broke.builds;
      }

  -- the end of the input, whatever comes of it
  pub ended_all : start.speaker.refused ≡ false → Keeps rest behind → IsAtEnd behind → (r : Result Bool Stop)
      → IfOk r (λ refused. Finishes now.speaker.desk.state now.speaker.refused (commands_from now.reader (last_line now.line)) refused has hold n o)
      → IfOk r (λ refused. Held start.speaker.desk.state refused left behind had hold m o)
  ended_all fresh kept ended (Ok refused) f = stands_ended fresh refused kept ended f
  ended_all fresh kept ended (Err stop) f = tt

  pub ended_cut : Keeps rest behind → IsAtEnd behind → (r : Result Bool Stop) → (r ≡ Err halts.Source → ⊥)
      → IfErr r (λ stop. (turns : List Turn) × BeginWith (commands_from now.reader (last_line now.line)) turns × Breaks now.speaker.desk.state stop turns has hold n o)
      → IfErr r (λ stop. Broken start.speaker.desk.state stop left behind had hold m o)
  ended_cut kept ended (Ok refused) source t = tt
  ended_cut kept ended (Err stop) source t = stands_cut stop (λ e. source (ap Err e)) kept ended t

  module _ (full : count ≡ LIMIT) (past : TakesJust 1 rest behind) where
    abbrev bytes_past : List ℕ
    bytes_past = stands.bytes ++ past.0

    taken_past : Consumes left behind bytes_past
    taken_past = Consumes-trans left rest behind stands.bytes past.0 stands.taken past.1

    ended_here : ended_commands stands.bytes ≡ commands_in stands.turns
    ended_here = ended_are stands.bytes stands.lines stands.turns now.reader now.line stands.bytes_are stands.lines_are stands.unended

    speaks_past : SpeaksFor bytes_past behind stands.turns true
    speaks_past = λ more e.
        let cut : bytes_past ++ more ≡ stands.bytes ++ (past.0 ++ more) = append_assoc stands.bytes past.0 more in
        let longer : LIMIT < length (stands.bytes ++ (past.0 ++ more)) =
        omega (arith, length-append stands.bytes (past.0 ++ more), length-append past.0 more, past.2, stands.size, full) in
        let is = past_limit stands.bytes (past.0 ++ more) stands.turns (omega (arith, stands.size, full)) longer ended_here stands.told.stops in
        (sym (ap input_commands cut ∙ is.0), ap is_overlong cut ∙ is.1)

    first_past : BeginWith (up_to_quit (all_commands bytes_past)) stands.turns
    first_past =
        all_past bytes_past stands.lines stands.turns
        (begins_bytes [] stands.bytes past.0 stands.lines [] now.line stands.bytes_are (λ more. (lines_of (now.line ++ (past.0 ++ more)), refl))) begins_here stands.told.stops

    -- an input that is too long
    pub stands_past : start.speaker.refused ≡ false → Appends has hold too_long.text → Held start.speaker.desk.state true left behind had hold m n
    stands_past fresh written = record {
      bytes = bytes_past;
      turns = stands.turns;
      over = true;
      taken = taken_past;
      steps = stands.told.steps;
      session = speaks_past;
      written = Appends-trans had has hold (text_in stands.turns) too_long.text stands.told.written written;
      error = refl;
      through = inr (inl (omega (arith, length-append stands.bytes past.0, past.2, stands.size, full)));
      first = first_past;
      builds = stands.told.builds;
    }

    -- its reply was not written whole
    pub stands_past_cut : (stop : Stop) → (stop ≡ halts.Source → ⊥) → (size : ℕ) × Appends has hold (take size too_long.text) → Broken start.speaker.desk.state stop left behind had hold m n
    stands_past_cut stop other front = record {
      bytes = bytes_past;
      turns = stands.turns;
      taken = taken_past;
      steps = stands.told.steps;
      cut = inr (
        speaks_past,
        (
          length (text_in stands.turns) + front.0,
          subst (Appends had hold) (sym (take_both (text_in stands.turns) too_long.text front.0))
              (Appends-trans had has hold (text_in stands.turns) (take front.0 too_long.text) stands.told.written front.1),
        ),
      );
      answered = λ e. absurd (other e);
      first = first_past;
      builds = λ _. stands.told.builds;
    }

    -- whatever comes of its reply
    pub past_all : start.speaker.refused ≡ false → (r : Result Bool Stop) → IfOk r (λ error. (error ≡ true) × Appends has hold too_long.text)
        → IfOk r (λ refused. Held start.speaker.desk.state refused left behind had hold m n)
    past_all fresh (Ok error) t = subst (λ (b : Bool). Held start.speaker.desk.state b left behind had hold m n) (sym t.0) (stands_past fresh t.1)
    past_all fresh (Err stop) t = tt

    pub past_cut : (r : Result Bool Stop) → (r ≡ Err halts.Source → ⊥) → OnErr r ((size : ℕ) × Appends has hold (take size too_long.text))
        → IfErr r (λ stop. Broken start.speaker.desk.state stop left behind had hold m n)
    past_cut (Ok error) source front = tt
    past_cut (Err stop) source front = stands_past_cut stop (λ e. source (ap Err e)) front
