-- The commands of an input that begins with bytes, by the turns that these made.
use Rattle.std.proofs.Common.{◌≡◌, ℕ, zero, suc, ◌-◌, ◌≤◌, ◌<◌, List, [], ◌∷◌, ◌++◌, Bool, true, false, Option, Some, None, length, take, refl, sym, ap, subst, ◌∙◌, true≢false, append_assoc, append-nil, arith}
use Rattle.std.specs.Prelude.{◌&&◌, ◌||◌, not, filter, if◌then◌else◌}
use Rattle.std.specs.List.{list_all, list_any}
use Rattle.std.specs.Io.BufRead.{strip_last}
use Rattle.std.proofs.lemmas.List.{map-append}
use Rattle.std.proofs.lemmas.Bool.Decides.{nat_tests}
use Rattle.std.proofs.lemmas.List.Elements.{filter-append}
use Rattle.synth_io.specs.declared.input.TheConstants.{LIMIT}
use Rattle.desk_read.specs.declared.command.Command.{Command}
use Rattle.desk_read.specs.Commands.{commands_of}
use Rattle.desk_read.specs.Taking.{OpenBlock, commands_from}
use Rattle.synth_run.specs.Lines.{Lines, all_lines, ended_lines, is_unended, last_line, lines_of, read_lines}
use Rattle.synth_run.specs.Session.{Turn, all_commands, commands_in, ended_commands, input_commands, is_long, is_overlong, is_quit, is_whole, up_to_quit}
use Rattle.synth_run.specs.Taking.{BeginWith, BeginsBytes, BeginsLines, Stops, TakesBytes, TakesLines, lines_before}
use Rattle.synth_run.proofs.LineLemmas.{not_ended}
use Rattle.synth_run.proofs.Speaking.{any_both}

-- ---- lines of an input, by its first ones

read_both : (a b : List (List ℕ)) → read_lines (a ++ b) ≡ read_lines a ++ read_lines b
read_both a b = map-append (strip_last 13) a b

pub ended_by : (input : List ℕ) (lines : List (List ℕ)) (others : Lines) → lines_of input ≡ lines_before lines others → ended_lines input ≡ read_lines lines ++ read_lines others.ended
ended_by input lines others is = ap (λ (l : Lines). read_lines l.ended) is ∙ read_both lines others.ended

pub all_by : (input : List ℕ) (lines : List (List ℕ)) (others : Lines) → lines_of input ≡ lines_before lines others
    → all_lines input ≡ read_lines lines ++ (read_lines others.ended ++ last_line others.rest)
all_by input lines others is =
    ap (λ (ls : List (List ℕ)). ls ++ last_line (lines_of input).rest) (ended_by input lines others is)
    ∙ ap (λ (l : Lines). (read_lines lines ++ read_lines others.ended) ++ last_line l.rest) is
    ∙ append_assoc (read_lines lines) (read_lines others.ended) (last_line others.rest)

-- ---- whole commands

filter_all : {X : Type 0} (p : X → Bool) (a : List X) → list_all p a ≡ true → filter p a ≡ a
filter_all p [] h = refl
filter_all {X = X} p (x ∷ a) h = by (p x) refl h (filter_all p a)
  where
    by : (t : Bool) → p x ≡ t → (t && list_all p a) ≡ true → (list_all p a ≡ true → filter p a ≡ a)
        → filter p (x ∷ a) ≡ x ∷ a
    by true e h rest = rw e (ap (λ (xs : List X). x ∷ xs) (rest h))
    by false e h rest = absurd (true≢false (sym h))

pub filter_front : {X : Type 0} (p : X → Bool) (a b : List X) → list_all p a ≡ true → filter p (a ++ b) ≡ a ++ filter p b
filter_front {X = X} p a b h = filter-append p a b ∙ ap (λ (xs : List X). xs ++ filter p b) (filter_all p a h)

-- no command is whole that only the end of the input makes
none_open : (reader : Option OpenBlock) → filter is_whole (commands_from reader []) ≡ []
none_open None = refl
none_open (Some block) = refl

-- ---- what an input begins with

-- its commands begin with those of turns that were begun
ended_begins : (input : List ℕ) (lines : List (List ℕ)) (others : Lines) (turns : List Turn) → lines_of input ≡ lines_before lines others → BeginsLines None (read_lines lines) turns
    → BeginWith (ended_commands input) turns
ended_begins input lines others turns is begins =
    let next = begins.begins (read_lines others.ended) in (
      filter is_whole next.0,
      ap (λ (ls : List (List ℕ)). filter is_whole (commands_of ls)) (ended_by input lines others is) ∙ ap (filter is_whole) next.1 ∙ filter_front is_whole (commands_in turns) next.0 begins.whole,
    )

all_begins : (input : List ℕ) (lines : List (List ℕ)) (others : Lines) (turns : List Turn) → lines_of input ≡ lines_before lines others → BeginsLines None (read_lines lines) turns
    → BeginWith (all_commands input) turns
all_begins input lines others turns is begins =
    let next = begins.begins (read_lines others.ended ++ last_line others.rest) in
    (next.0, ap commands_of (all_by input lines others is) ∙ next.1)

quit_begins : (ended : Bool) (commands : List Command) (turns : List Turn) → Stops ended (commands_in turns) → BeginWith commands turns → BeginWith (up_to_quit commands) turns
quit_begins ended commands turns stops begins = (if ended then [] else up_to_quit begins.0, ap up_to_quit begins.1 ∙ stops.up_to begins.0)

quit_all : (commands : List Command) (turns : List Turn) → Stops true (commands_in turns) → BeginWith commands turns → up_to_quit commands ≡ commands_in turns
quit_all commands turns stops begins = ap up_to_quit begins.1 ∙ stops.up_to begins.0 ∙ append-nil (commands_in turns)

-- bytes that are within the limit stand in the front of an input up to its limit
pub take_limit : (bytes more : List ℕ) (limit : ℕ) → length bytes ≤ limit → take limit (bytes ++ more) ≡ bytes ++ take (limit - length bytes) more
take_limit [] more limit h = let all : limit - 0 ≡ limit = omega arith in rw all refl
take_limit (b ∷ bytes) more zero h = absurd (omega (arith, h))
take_limit (b ∷ bytes) more (suc n) h =
    let less : suc n - suc (length bytes) ≡ n - length bytes = omega arith in
    rw less (ap (λ (l : List ℕ). b ∷ l) (take_limit bytes more n (omega (arith, h))))

-- the commands of bytes that were taken, up to `quit`, begin with those of the turns
pub all_first : (bytes : List ℕ) (lines : List (List ℕ)) (turns : List Turn) (ended : Bool) → BeginsBytes [] bytes lines → BeginsLines None (read_lines lines) turns
    → Stops ended (commands_in turns) → BeginWith (up_to_quit (all_commands bytes)) turns
all_first bytes lines turns ended begun taken stops =
    let here = begun [] in
    quit_begins ended (all_commands bytes) turns stops (all_begins bytes lines here.0 turns (ap lines_of (sym (append-nil bytes)) ∙ here.1) taken)

module _ (bytes : List ℕ) (lines : List (List ℕ)) (turns : List Turn) (ended : Bool) (within : length bytes ≤ LIMIT)
    (begun : BeginsBytes [] bytes lines) (taken : BeginsLines None (read_lines lines) turns) (stops : Stops ended (commands_in turns)) where
  long_begins : (more : List ℕ) → BeginWith (ended_commands (take LIMIT (bytes ++ more))) turns
  long_begins more =
      let rest = take (LIMIT - length bytes) more in
      let here = begun rest in
      ended_begins (take LIMIT (bytes ++ more)) lines here.0 turns (ap lines_of (take_limit bytes more LIMIT within) ∙ here.1) taken

  short_begins : (more : List ℕ) → BeginWith (all_commands (bytes ++ more)) turns
  short_begins more = let here = begun more in all_begins (bytes ++ more) lines here.0 turns here.1 taken

  either_begins : (t : Bool) (more : List ℕ) → BeginWith (if t then ended_commands (take LIMIT (bytes ++ more)) else all_commands (bytes ++ more)) turns
  either_begins true more = long_begins more
  either_begins false more = short_begins more

  -- the commands of an input begin with those of the turns
  pub input_begins : (more : List ℕ) → BeginWith (input_commands (bytes ++ more)) turns
  input_begins more = quit_begins ended _ turns stops (either_begins (is_long (bytes ++ more)) more)

  -- where they end with `quit`, they are all
  pub input_ends : ended ≡ true → (more : List ℕ) → input_commands (bytes ++ more) ≡ commands_in turns
  input_ends quit more = quit_all _ turns (subst (λ (t : Bool). Stops t (commands_in turns)) quit stops) (either_begins (is_long (bytes ++ more)) more)

  -- the commands whose last line was taken begin with those of the turns
  ended_first : BeginWith (ended_commands bytes) turns
  ended_first =
      let here = begun [] in
      ended_begins bytes lines here.0 turns (ap lines_of (sym (append-nil bytes)) ∙ here.1) taken

  -- and where these end with `quit`, one of them is
  pub quit_taken : ended ≡ true → list_any is_quit (ended_commands bytes) ≡ true
  quit_taken quit =
      let first = ended_first in
      ap (list_any is_quit) first.1 ∙ any_both is_quit (commands_in turns) first.0 ∙ ap (λ (t : Bool). t || list_any is_quit first.0) (stops.has ∙ quit)

pub not_over : {X : Type 0} (p : X → Bool) (t : Bool) (all : List X) → list_any p all ≡ true → (t && not (list_any p all)) ≡ false
not_over p true all h = rw h refl
not_over p false all h = refl

-- then the input does not pass its limit before a `quit`
pub never_over : (input : List ℕ) (turns : List Turn) → input_commands input ≡ commands_in turns → list_any is_quit (commands_in turns) ≡ true → is_overlong input ≡ false
never_over input turns is quit = not_over is_quit (is_long input) (input_commands input) (ap (list_any is_quit) is ∙ quit)

-- ---- where all bytes of an input were taken

taken_begins : (before after : Option OpenBlock) (lines : List (List ℕ)) (turns : List Turn) → TakesLines before lines turns after → BeginsLines before lines turns
taken_begins before after lines turns h = record { whole = h.whole; begins = λ more. (commands_from after more, h.commands more) }

pub bytes_begin : (before bytes : List ℕ) (lines : List (List ℕ)) (line : List ℕ) → TakesBytes before bytes lines line → BeginsBytes before bytes lines
bytes_begin before bytes lines line h = λ more. (lines_of (line ++ more), h more)

pub lines_begin : (before after : Option OpenBlock) (lines : List (List ℕ)) (turns : List Turn) → TakesLines before lines turns after → BeginsLines before lines turns
lines_begin = taken_begins

module _ (bytes : List ℕ) (lines : List (List ℕ)) (turns : List Turn) (reader : Option OpenBlock) (line : List ℕ)
    (taken : TakesBytes [] bytes lines line) (lines_are : TakesLines None (read_lines lines) turns reader) (unended : is_unended line ≡ true) where
  whole_lines : lines_of bytes ≡ lines_before lines (record { ended = []; rest = line })
  whole_lines =
      ap lines_of (sym (append-nil bytes)) ∙ taken []
      ∙ ap (λ (l : List ℕ). lines_before lines (lines_of l)) (append-nil line) ∙ ap (lines_before lines) (not_ended line unended)

  -- the commands whose last line was taken are those of the turns
  pub ended_are : ended_commands bytes ≡ commands_in turns
  ended_are =
      ap (λ (ls : List (List ℕ)). filter is_whole (commands_of ls)) (ended_by bytes lines (record { ended = []; rest = line }) whole_lines)
      ∙ ap (filter is_whole) (lines_are.commands [])
      ∙ filter_front is_whole (commands_in turns) (commands_from reader []) lines_are.whole
      ∙ ap (λ (cs : List Command). commands_in turns ++ cs) (none_open reader)
      ∙ append-nil (commands_in turns)

  -- with the last line, which has no LF, they are all
  pub all_are : all_commands bytes ≡ commands_in turns ++ commands_from reader (last_line line)
  all_are = ap commands_of (all_by bytes lines (record { ended = []; rest = line }) whole_lines) ∙ lines_are.commands (last_line line)

pub not_long : (input : List ℕ) → length input ≤ LIMIT → is_long input ≡ false
not_long input h = grind (arith, nat_tests)

-- of an input that ends here
pub at_end : (bytes : List ℕ) → length bytes ≤ LIMIT → (input_commands bytes ≡ up_to_quit (all_commands bytes)) × (is_overlong bytes ≡ false)
at_end bytes within =
    let short : is_long bytes ≡ false = not_long bytes within in (
      ap (λ (t : Bool). up_to_quit (if t then ended_commands (take LIMIT bytes) else all_commands bytes)) short,
      ap (λ (t : Bool). t && not (list_any is_quit (input_commands bytes))) short,
    )

pub is_past : (input : List ℕ) → LIMIT < length input → is_long input ≡ true
is_past input h = grind (arith, nat_tests)

-- of an input that goes on past its limit
pub past_limit : (bytes more : List ℕ) (turns : List Turn) → length bytes ≡ LIMIT → LIMIT < length (bytes ++ more) → ended_commands bytes ≡ commands_in turns → Stops false (commands_in turns)
    → (input_commands (bytes ++ more) ≡ commands_in turns) × (is_overlong (bytes ++ more) ≡ true)
past_limit bytes more turns full past ended stops =
    let long : is_long (bytes ++ more) ≡ true = is_past (bytes ++ more) past in
    let none : LIMIT - length bytes ≡ 0 = omega (arith, full) in
    let within : length bytes ≤ LIMIT = omega (arith, full) in
    let cut : take LIMIT (bytes ++ more) ≡ bytes = take_limit bytes more LIMIT within ∙ ap (λ (n : ℕ). bytes ++ take n more) none ∙ append-nil bytes in
    let are : input_commands (bytes ++ more) ≡ commands_in turns =
    ap (λ (t : Bool). up_to_quit (if t then ended_commands (take LIMIT (bytes ++ more)) else all_commands (bytes ++ more))) long
    ∙ ap (λ (l : List ℕ). up_to_quit (ended_commands l)) cut ∙ ap up_to_quit (ended ∙ sym (append-nil (commands_in turns))) ∙ stops.up_to [] ∙ append-nil (commands_in turns) in (
      are,
      ap (λ (t : Bool). t && not (list_any is_quit (input_commands (bytes ++ more)))) long ∙ ap (λ (cs : List Command). not (list_any is_quit cs)) are ∙ ap not stops.has,
    )
