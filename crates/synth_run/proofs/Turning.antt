-- What a command and a line make of a session.
use Rattle.std.proofs.Common.{◌≡◌, ℕ, List, [], ◌∷◌, ◌++◌, Bool, true, false, Option, Some, None, Result, Ok, Err, length, take, refl, sym, ap, subst, ◌∙◌, true≢false, append_assoc, append-nil, arith}
use Rattle.std.specs.Prelude.{◌&&◌, ◌||◌, IfErr, IfOk, codes, option_to_list, if◌then◌else◌}
use Rattle.std.specs.List.{list_all}
use Rattle.std.specs.Str.{bytes_eq}
use Rattle.std.specs.Io.KnownBytes.{Appends}
use Rattle.desk_read.specs.declared.command.Command.{Command}
use Rattle.desk_read.specs.Commands.{block_command, block_of, commands_by, commands_closing, commands_of, is_end}
use Rattle.desk_read.specs.Heads.{head_by}
use Rattle.desk_read.specs.Taking.{OpenBlock, Takes, commands_from}
use Rattle.desk_read.specs.Words.{words_of}
use Rattle.build_crew.specs.Rises.{RisesUpTo}
use Rattle.desk_core.specs.Builds.{builds_of}
use Rattle.desk_core.specs.State.{State}
use Rattle.desk_core.specs.Step.{IsStep}
use Rattle.reply_lines.specs.declared.reply.Reply.{Reply}
use Rattle.synth_run.specs.Session.{AreTurns, Turn, commands_in, is_quit, is_whole, up_to_quit}
use Rattle.synth_run.specs.Taking.{BeginWith, BeginsLines, Breaks, Finishes, Speaks, Stops, TakesLines}
use Rattle.synth_run.specs.declared.session.Speaker.{Speaker}
use Rattle.synth_run.specs.declared.session.Stop.{Stop}
use Rattle.synth_run.specs.declared.session.Stop.TheVariants as halts
use Rattle.synth_run.proofs.Speaking.{breaks_both, breaks_none, breaks_one, commands_both, lines_none, speaks_both, speaks_none, speaks_one}

-- ---- commands

-- a command was answered
pub answered : (a b : Speaker) (command : Command) (reply : Reply) (ended : Bool) (had has : Option (List ℕ)) (m n : ℕ) → IsStep command a.desk.state reply b.desk.state
    → b.refused ≡ (a.refused || reply.error) → Appends had has reply.text → RisesUpTo (builds_of command a.desk.state) m n → ended ≡ is_quit command
    → (turns : List Turn) × (commands_in turns ≡ command ∷ []) × Speaks a b ended turns had has m n
answered a b command reply ended had has m n step refused written builds quits = (
  record { command = command; before = a.desk.state; reply = reply; after = b.desk.state } ∷ [],
  refl,
  subst (λ (t : Bool). Speaks a b t (record { command = command; before = a.desk.state; reply = reply; after = b.desk.state } ∷ []) had has m n) (sym quits)
      (speaks_one a b command reply had has m n step refused written builds),
)

-- the reply to a command was begun
pub interrupted : (s t : State) (command : Command) (reply : Reply) (had has : Option (List ℕ)) (m n : ℕ) → IsStep command s reply t
    → (size : ℕ) × Appends had has (take size reply.text) → RisesUpTo (builds_of command s) m n
    → (turns : List Turn) × BeginWith (command ∷ []) turns × Breaks s halts.Sink turns had has m n
interrupted s t command reply had has m n step front builds = (
  record { command = command; before = s; reply = reply; after = t } ∷ [],
  ([], refl),
  breaks_one s t command reply had has front.0 m n step front.1 builds,
)

-- commands that were not answered, since memory was wanting
pub forgotten : (commands : List Command) (s : State) (had : Option (List ℕ)) (m n : ℕ)
    → (turns : List Turn) × BeginWith commands turns × Breaks s halts.Memory turns had had m n
forgotten commands s had m n = ([], (commands, refl), breaks_none s had m n)

-- no command
pub silent : (a : Speaker) (had : Option (List ℕ)) (n : ℕ) → (turns : List Turn) × (commands_in turns ≡ []) × Speaks a a false turns had had n n
silent a had n = ([], refl, speaks_none a had n)

-- ---- a line that completes a command completes a whole one

-- by cases of a test
tell : {P : Type 0} (t : Bool) → (t ≡ true → P) → (t ≡ false → P) → P
tell true f g = f refl
tell false f g = g refl

-- the line that ends each block
abbrev ending : List (List ℕ)
ending = codes "." ∷ []

-- the first of commands, where there is one, has its last line
abbrev first_whole : List Command → Bool
first_whole [] = true
first_whole (command ∷ commands) = is_whole command

abbrev is_none : List Command → Bool
is_none [] = true
is_none (command ∷ commands) = false

-- a line with these words says nothing, or its command is whole, where a block behind it would end at once
abbrev SaysWhole : List (List ℕ) → List ℕ → List Command → Type 0
SaysWhole words line rest =
    (is_none (commands_by (head_by words line) [] None) || first_whole (commands_by (head_by words line) rest (block_of ending))) ≡ true

alone_whole : (word line : List ℕ) (rest : List Command) → bytes_eq word (codes "script") ≡ false → SaysWhole (word ∷ []) line rest
alone_whole word line rest a =
    tell (bytes_eq word (codes "load")) (λ b. rw (a, b) refl) (λ b.
    tell (bytes_eq word (codes "edit")) (λ c. rw (a, b, c) refl) (λ c.
    tell (bytes_eq word (codes "run")) (λ d. rw (a, b, c, d) refl) (λ d.
    tell (bytes_eq word (codes "print")) (λ e. rw (a, b, c, d, e) refl) (λ e.
    tell (bytes_eq word (codes "version")) (λ f. rw (a, b, c, d, e, f) refl) (λ f.
    tell (bytes_eq word (codes "modules")) (λ g. rw (a, b, c, d, e, f, g) refl) (λ g.
    tell (bytes_eq word (codes "quit")) (λ h. rw (a, b, c, d, e, f, g, h) refl) (λ h. rw (a, b, c, d, e, f, g, h) refl)))))))

named_whole : (word name line : List ℕ) (rest : List Command) → bytes_eq word (codes "script") ≡ false → SaysWhole (word ∷ name ∷ []) line rest
named_whole word name line rest a =
    tell (bytes_eq word (codes "drop")) (λ b. rw (a, b) refl) (λ b.
    tell (bytes_eq word (codes "show")) (λ c. rw (a, b, c) refl) (λ c.
    tell (bytes_eq word (codes "ports")) (λ d. rw (a, b, c, d) refl) (λ d. rw (a, b, c, d) refl)))

sim_whole : (word which name line : List ℕ) (rest : List Command) → bytes_eq word (codes "script") ≡ false → SaysWhole (word ∷ which ∷ name ∷ []) line rest
sim_whole word which name line rest a =
    tell (bytes_eq word (codes "sim"))
    (λ b. tell (bytes_eq which (codes "source")) (λ c. rw (a, b, c) refl) (λ c.
    tell (bytes_eq which (codes "netlist")) (λ d. rw (a, b, c, d) refl) (λ d. rw (a, b, c, d) refl)))
    (λ b. rw (a, b) refl)

timed_whole : (word which name order line : List ℕ) (rest : List Command) → bytes_eq word (codes "script") ≡ false → SaysWhole (word ∷ which ∷ name ∷ order ∷ []) line rest
timed_whole word which name order line rest a =
    tell (bytes_eq word (codes "sim"))
    (λ b. tell (bytes_eq order (codes "released"))
    (λ o. tell (bytes_eq which (codes "source")) (λ c. rw (a, b, o, c) refl) (λ c.
    tell (bytes_eq which (codes "netlist")) (λ d. rw (a, b, o, c, d) refl) (λ d. rw (a, b, o, c, d) refl)))
    (λ o. rw (a, b, o) refl))
    (λ b. rw (a, b) refl)

others_whole : (word : List ℕ) (words : List (List ℕ)) (line : List ℕ) (rest : List Command) → bytes_eq word (codes "script") ≡ false → SaysWhole (word ∷ words) line rest
others_whole word [] line rest a = alone_whole word line rest a
others_whole word (name ∷ []) line rest a = named_whole word name line rest a
others_whole word (which ∷ name ∷ []) line rest a = sim_whole word which name line rest a
others_whole word (which ∷ name ∷ order ∷ []) line rest a = timed_whole word which name order line rest a
others_whole word (which ∷ name ∷ order ∷ more ∷ words) line rest a = rw a refl

by_whole : (words : List (List ℕ)) (line : List ℕ) (rest : List Command) → SaysWhole words line rest
by_whole [] line rest = refl
by_whole (word ∷ words) line rest = tell (bytes_eq word (codes "script")) (λ a. rw a refl) (others_whole word words line rest)

block_whole : (block : OpenBlock) (text : List ℕ) → is_whole (block_command block.opening text) ≡ true
block_whole block text = grind arith

-- a line outside a block
outside : (command : Command) (none some commands others : List Command) → none ≡ command ∷ others → some ≡ command ∷ commands → (is_none none || first_whole some) ≡ true → is_whole command ≡ true
outside command none some commands others e f h =
    let test : (is_none (command ∷ others) || first_whole (command ∷ commands)) ≡ true =
    sym (ap (λ (l : List Command). is_none l || first_whole (command ∷ commands)) e) ∙ sym (ap (λ (l : List Command). is_none none || first_whole l) f) ∙ h in
    test

first_is : (command one : Command) (commands others all : List Command) → all ≡ command ∷ commands → all ≡ one ∷ others → is_whole one ≡ true → is_whole command ≡ true
first_is command one commands others all e f h =
    let same : one ≡ command = cc in
    subst (λ (c : Command). is_whole c ≡ true) same h

inside_whole : (t : Bool) (block : OpenBlock) (line : List ℕ) (command : Command) (rest : List (List ℕ) → List Command) → is_end line ≡ t
    → ((lines : List (List ℕ)) → commands_closing block.opening block.text (block_of (line ∷ lines)) ≡ command ∷ rest lines) → is_whole command ≡ true
inside_whole true block line command rest e takes =
    first_is command (block_command block.opening (block.text ++ [])) (rest []) [] (commands_closing block.opening block.text (block_of (line ∷ []))) (takes [])
    (rw e refl) (block_whole block (block.text ++ []))
inside_whole false block line command rest e takes =
    first_is command (block_command block.opening (block.text ++ (line ++ 10 ∷ []))) (rest ending) []
    (commands_closing block.opening block.text (block_of (line ∷ ending))) (takes ending) (rw e refl) (block_whole block (block.text ++ (line ++ 10 ∷ [])))

fed_whole : (before : Option OpenBlock) (line : List ℕ) (command : Command) (after : Option OpenBlock) → Takes before line (Some command) after → is_whole command ≡ true
fed_whole None line command after takes =
    outside command (commands_of (line ∷ [])) (commands_of (line ∷ ending)) (commands_from after ending) (commands_from after []) (takes []) (takes ending)
    (by_whole (words_of line) line (commands_of ending))
fed_whole (Some block) line command after takes = inside_whole (is_end line) block line command (commands_from after) refl takes

-- ---- lines

pub any_whole : (before : Option OpenBlock) (line : List ℕ) (answer : Option Command) (after : Option OpenBlock) → Takes before line answer after → list_all is_whole (option_to_list answer) ≡ true
any_whole before line None after takes = refl
any_whole before line (Some command) after takes = rw (fed_whole before line command after takes) refl

line_taken : (before : Option OpenBlock) (line : List ℕ) (answer : Option Command) (after : Option OpenBlock) (turns : List Turn) → Takes before line answer after
    → commands_in turns ≡ option_to_list answer → TakesLines before (line ∷ []) turns after
line_taken before line answer after turns takes same = record {
  whole = subst (λ (cs : List Command). list_all is_whole cs ≡ true) (sym same) (any_whole before line answer after takes);
  commands = λ more. takes more ∙ ap (λ (cs : List Command). cs ++ commands_from after more) (sym same);
}

-- the command that a line completes was answered
pub line_answered : (before : Option OpenBlock) (line : List ℕ) (answer : Option Command) (after : Option OpenBlock) (a b : Speaker) (had has : Option (List ℕ)) (m n : ℕ) (r : Result Bool Stop)
    → Takes before line answer after
    → IfOk r (λ ended. (turns : List Turn) × (commands_in turns ≡ option_to_list answer) × Speaks a b ended turns had has m n)
    → IfOk r (λ ended. (turns : List Turn) × TakesLines before (line ∷ []) turns after × Speaks a b ended turns had has m n)
line_answered before line answer after a b had has m n (Ok ended) takes told = (told.0, line_taken before line answer after told.0 takes told.1, told.2)
line_answered before line answer after a b had has m n (Err stop) takes told = tt

all_front : {X : Type 0} (p : X → Bool) (a b : List X) → list_all p (a ++ b) ≡ true → list_all p a ≡ true
all_front p [] b h = refl
all_front p (x ∷ a) b h = by (p x) h (all_front p a b)
  where
    by : (t : Bool) → (t && list_all p (a ++ b)) ≡ true → (list_all p (a ++ b) ≡ true → list_all p a ≡ true) → (t && list_all p a) ≡ true
    by true h rest = rest h
    by false h rest = absurd (true≢false (sym h))

line_begins : (before : Option OpenBlock) (line : List ℕ) (answer : Option Command) (after : Option OpenBlock) (turns : List Turn) → Takes before line answer after
    → BeginWith (option_to_list answer) turns → BeginsLines before (line ∷ []) turns
line_begins before line answer after turns takes begins = record {
  whole = all_front is_whole (commands_in turns) begins.0 (subst (λ (cs : List Command). list_all is_whole cs ≡ true) begins.1 (any_whole before line answer after takes));
  begins = λ more. (
    begins.0 ++ commands_from after more,
    takes more ∙ ap (λ (cs : List Command). cs ++ commands_from after more) begins.1 ∙ append_assoc (commands_in turns) begins.0 (commands_from after more),
  );
}

-- its reply was begun
pub line_interrupted : (before : Option OpenBlock) (line : List ℕ) (answer : Option Command) (after : Option OpenBlock) (s : State) (had has : Option (List ℕ)) (m n : ℕ) (r : Result Bool Stop)
    → Takes before line answer after
    → IfErr r (λ stop. (turns : List Turn) × BeginWith (option_to_list answer) turns × Breaks s stop turns had has m n)
    → IfErr r (λ stop. (turns : List Turn) × BeginsLines before (line ∷ []) turns × Breaks s stop turns had has m n)
line_interrupted before line answer after s had has m n (Ok ended) takes told = tt
line_interrupted before line answer after s had has m n (Err stop) takes told = (told.0, line_begins before line answer after told.0 takes told.1, told.2)

-- a line that was not read, since memory was wanting
pub line_forgotten : (before : Option OpenBlock) (lines : List (List ℕ)) (s : State) (had : Option (List ℕ)) (m n : ℕ)
    → (turns : List Turn) × BeginsLines before lines turns × Breaks s halts.Memory turns had had m n
line_forgotten before lines s had m n = ([], record { whole = refl; begins = λ more. (commands_from before (lines ++ more), refl) }, breaks_none s had m n)

-- no line
pub no_line : (before : Option OpenBlock) (a : Speaker) (had : Option (List ℕ)) (n : ℕ)
    → (turns : List Turn) × TakesLines before [] turns before × Speaks a a false turns had had n n
no_line before a had n = ([], lines_none before, speaks_none a had n)

pub none_left : (line : List ℕ) → length line ≡ 0 → line ≡ []
none_left [] e = refl
none_left (byte ∷ line) e = absurd (omega (arith, e))

-- ---- the end of an input

-- the last line ended the session
pub finished_early : (desk : State) (a b : Speaker) (before after : Option OpenBlock) (lines : List (List ℕ)) (had has : Option (List ℕ)) (m n : ℕ) → a.desk.state ≡ desk
    → (turns : List Turn) × TakesLines before lines turns after × Speaks a b true turns had has m n
    → Finishes desk a.refused (commands_from before lines) b.refused had has m n
finished_early desk a b before after lines had has m n same t = record {
  turns = t.0;
  steps = subst (λ (s : State). AreTurns s t.0) same t.2.steps;
  all = ap up_to_quit (ap (commands_from before) (sym (append-nil lines)) ∙ t.1.commands []) ∙ t.2.stops.up_to (commands_from after []) ∙ append-nil (commands_in t.0);
  written = t.2.written;
  error = t.2.refused;
  builds = t.2.builds;
}

up_to_none : (rest : List Command) (ended : Bool) (turns : List Turn) → commands_in turns ≡ rest → Stops ended (commands_in turns) → up_to_quit rest ≡ commands_in turns
up_to_none rest ended turns same stops =
    ap up_to_quit (sym same ∙ sym (append-nil (commands_in turns))) ∙ stops.up_to [] ∙ none ended
  where
    none : (t : Bool) → commands_in turns ++ (if t then [] else up_to_quit []) ≡ commands_in turns
    none true = append-nil (commands_in turns)
    none false = append-nil (commands_in turns)

-- the last line and the end of the input
pub finished : (desk : State) (a b c : Speaker) (before after : Option OpenBlock) (lines : List (List ℕ)) (last : Option Command) (had has hold : Option (List ℕ)) (m n o : ℕ) (ended : Bool)
    → a.desk.state ≡ desk → (turns : List Turn) × TakesLines before lines turns after × Speaks a b false turns had has m n → option_to_list last ≡ commands_from after []
    → (turns : List Turn) × (commands_in turns ≡ option_to_list last) × Speaks b c ended turns has hold n o
    → Finishes desk a.refused (commands_from before lines) c.refused had hold m o
finished desk a b c before after lines last had has hold m n o ended same t is u =
    let told = speaks_both a b c ended t.0 u.0 had has hold m n o t.2 u.2 in
    let rest : up_to_quit (commands_from after []) ≡ commands_in u.0 = up_to_none (commands_from after []) ended u.0 (u.1 ∙ is) u.2.stops in
    record {
      turns = t.0 ++ u.0;
      steps = subst (λ (s : State). AreTurns s (t.0 ++ u.0)) same told.steps;
      all =
          ap up_to_quit (ap (commands_from before) (sym (append-nil lines)) ∙ t.1.commands []) ∙ t.2.stops.up_to (commands_from after [])
          ∙ ap (λ (cs : List Command). commands_in t.0 ++ cs) rest ∙ sym (commands_both t.0 u.0);
      written = told.written;
      error = told.refused;
      builds = told.builds;
    }

-- the reply to what the end of the input makes was not written whole
pub finish_broken : (a b : Speaker) (stop : Stop) (before after : Option OpenBlock) (lines : List (List ℕ)) (last : Option Command) (had has hold : Option (List ℕ)) (m n o : ℕ)
    → (turns : List Turn) × TakesLines before lines turns after × Speaks a b false turns had has m n → option_to_list last ≡ commands_from after []
    → (turns : List Turn) × BeginWith (option_to_list last) turns × Breaks b.desk.state stop turns has hold n o
    → (turns : List Turn) × BeginWith (commands_from before lines) turns × Breaks a.desk.state stop turns had hold m o
finish_broken a b stop before after lines last had has hold m n o t is u = (
  t.0 ++ u.0,
  (
    u.1.0,
    ap (commands_from before) (sym (append-nil lines)) ∙ t.1.commands [] ∙ ap (λ (cs : List Command). commands_in t.0 ++ cs) (sym is ∙ u.1.1)
        ∙ sym (append_assoc (commands_in t.0) (commands_in u.0) u.1.0) ∙ ap (λ (cs : List Command). cs ++ u.1.0) (sym (commands_both t.0 u.0)),
  ),
  breaks_both a b stop t.0 u.0 had has hold m n o t.2 u.2,
)

-- the reply to the last line was not written whole
pub last_broken : (s : State) (stop : Stop) (before : Option OpenBlock) (lines : List (List ℕ)) (had has : Option (List ℕ)) (m n : ℕ)
    → (turns : List Turn) × BeginsLines before lines turns × Breaks s stop turns had has m n → (turns : List Turn) × BeginWith (commands_from before lines) turns × Breaks s stop turns had has m n
last_broken s stop before lines had has m n t =
    let all = t.1.begins [] in
    (t.0, (all.0, ap (commands_from before) (sym (append-nil lines)) ∙ all.1), t.2)
