-- Turns, one after another.
use Rattle.std.proofs.Common.{◌≡◌, ℕ, suc, ◌+◌, List, [], ◌∷◌, ◌++◌, Bool, true, false, Option, Some, None, length, take, refl, sym, ap, subst, ◌∙◌, true≢false, append_assoc, append-nil, arith}
use Rattle.std.specs.Prelude.{◌&&◌, ◌||◌, if◌then◌else◌}
use Rattle.std.specs.List.{list_all, list_any}
use Rattle.std.specs.Io.KnownBytes.{Appends, Keeps}
use Rattle.std.proofs.KnownBytes.{Appends-trans}
use Rattle.std.proofs.lemmas.List.{map-append}
use Rattle.std.proofs.lemmas.Grind.{flat_map-append}
use Rattle.desk_read.specs.declared.command.Command.{Command}
use Rattle.desk_read.specs.Taking.{OpenBlock, commands_from}
use Rattle.build_crew.specs.Rises.{RisesUpTo}
use Rattle.desk_core.specs.Builds.{builds_of}
use Rattle.desk_core.specs.State.{State}
use Rattle.desk_core.specs.Step.{IsStep}
use Rattle.desk_core.proofs.Rises.{rises_more, rises_none, rises_within}
use Rattle.reply_lines.specs.declared.reply.Reply.{Reply}
use Rattle.synth_run.specs.Session.{AreTurns, Turn, builds_in, commands_in, has_error, is_quit, is_whole, state_after, text_in, up_to_quit}
use Rattle.synth_run.specs.Taking.{Breaks, Speaks, Stops, TakesLines, BeginsLines}
use Rattle.synth_run.specs.declared.session.Speaker.{Speaker}
use Rattle.synth_run.specs.declared.session.Stop.{Stop}
use Rattle.synth_run.specs.declared.session.Stop.TheVariants as halts

-- ---- lists of turns

pub turns_both : (s : State) (a b : List Turn) → AreTurns s a → AreTurns (state_after s a) b → AreTurns s (a ++ b)
turns_both s [] b h k = k
turns_both s (turn ∷ a) b h k = (h.0, h.1, turns_both turn.after a b h.2 k)

pub after_both : (s : State) (a b : List Turn) → state_after s (a ++ b) ≡ state_after (state_after s a) b
after_both s [] b = refl
after_both s (turn ∷ a) b = after_both turn.after a b

pub builds_both : (a b : List Turn) → builds_in (a ++ b) ≡ builds_in a + builds_in b
builds_both [] b = omega arith
builds_both (turn ∷ a) b = omega (arith, builds_both a b)

pub any_both : {X : Type 0} (p : X → Bool) (a b : List X) → list_any p (a ++ b) ≡ (list_any p a || list_any p b)
any_both p [] b = refl
any_both p (x ∷ a) b = by (p x) (any_both p a b)
  where
    by : (t : Bool) → list_any p (a ++ b) ≡ (list_any p a || list_any p b) → (t || list_any p (a ++ b)) ≡ ((t || list_any p a) || list_any p b)
    by true h = refl
    by false h = h

pub commands_both : (a b : List Turn) → commands_in (a ++ b) ≡ commands_in a ++ commands_in b
commands_both a b = map-append (λ (turn : Turn). turn.command) a b

pub text_both : (a b : List Turn) → text_in (a ++ b) ≡ text_in a ++ text_in b
text_both a b = flat_map-append (λ (turn : Turn). turn.reply.text) a b

pub errors_both : (a b : List Turn) → has_error (a ++ b) ≡ (has_error a || has_error b)
errors_both a b = any_both (λ (turn : Turn). turn.reply.error) a b

or_assoc : (a b c : Bool) → ((a || b) || c) ≡ (a || (b || c))
or_assoc true b c = refl
or_assoc false b c = refl

pub or_none : (a : Bool) → (a || false) ≡ a
or_none true = refl
or_none false = refl

-- ---- `quit`

pub stops_none : Stops false []
stops_none = record { has = refl; up_to = λ more. refl }

stops_by : (t : Bool) (command : Command) → is_quit command ≡ t → Stops t (command ∷ [])
stops_by true command e = record { has = rw e refl; up_to = λ more. rw e refl }
stops_by false command e = record { has = rw e refl; up_to = λ more. rw e refl }

-- one command
pub stops_one : (command : Command) → Stops (is_quit command) (command ∷ [])
stops_one command = stops_by (is_quit command) command refl

-- commands without a `quit`, and then others
pub stops_both : (ended : Bool) (a b : List Command) → Stops false a → Stops ended b → Stops ended (a ++ b)
stops_both ended a b f g = record {
  has = any_both is_quit a b ∙ ap (λ (t : Bool). t || list_any is_quit b) f.has ∙ g.has;
  up_to = λ more. ap up_to_quit (append_assoc a b more) ∙ f.up_to (b ++ more) ∙ ap (λ (c : List Command). a ++ c) (g.up_to more) ∙ sym (append_assoc a b (if ended then [] else up_to_quit more));
}

-- ---- replies that were written

pub appends_nothing : (had : Option (List ℕ)) → Appends had had []
appends_nothing None = tt
appends_nothing (Some bytes) = sym (append-nil bytes)

pub keeps_same : (had : Option (List ℕ)) → Keeps had had
keeps_same None = tt
keeps_same (Some bytes) = refl

-- nothing is a front of each text
pub cut_nothing : (had : Option (List ℕ)) (text : List ℕ) → (n : ℕ) × Appends had had (take n text)
cut_nothing had text = (0, appends_nothing had)

pub appends_kept : (had has : Option (List ℕ)) → Keeps had has → Appends had has []
appends_kept None has h = tt
appends_kept (Some bytes) None h = absurd h
appends_kept (Some bytes) (Some more) h = h ∙ sym (append-nil bytes)

pub take_both : (a b : List ℕ) (n : ℕ) → take (length a + n) (a ++ b) ≡ a ++ take n b
take_both [] b n = let none : 0 + n ≡ n = omega arith in rw none refl
take_both (x ∷ a) b n =
    let more : suc (length a) + n ≡ suc (length a + n) = omega arith in
    rw more (ap (λ (l : List ℕ). x ∷ l) (take_both a b n))

-- nothing was said
pub speaks_none : (a : Speaker) (had : Option (List ℕ)) (n : ℕ) → Speaks a a false [] had had n n
speaks_none a had n = record {
  steps = tt;
  last = refl;
  stops = stops_none;
  refused = sym (or_none a.refused);
  written = appends_nothing had;
  builds = rises_none 0 n n refl;
}

-- one turn
pub speaks_one : (a b : Speaker) (command : Command) (reply : Reply) (had has : Option (List ℕ)) (m n : ℕ) → IsStep command a.desk.state reply b.desk.state
    → b.refused ≡ (a.refused || reply.error) → Appends had has reply.text → RisesUpTo (builds_of command a.desk.state) m n
    → Speaks a b (is_quit command) (record { command = command; before = a.desk.state; reply = reply; after = b.desk.state } ∷ []) had has m n
speaks_one a b command reply had has m n step refused written builds = record {
  steps = (refl, step, tt);
  last = refl;
  stops = stops_one command;
  refused = refused ∙ ap (λ (t : Bool). a.refused || t) (sym (or_none reply.error));
  written = subst (Appends had has) (sym (append-nil reply.text)) written;
  builds = rises_within (builds_of command a.desk.state) (builds_of command a.desk.state + 0) m n builds (omega arith);
}

-- turns without a `quit`, and then others
pub speaks_both : (a b c : Speaker) (ended : Bool) (ts us : List Turn) (had has hold : Option (List ℕ)) (m n o : ℕ)
    → Speaks a b false ts had has m n → Speaks b c ended us has hold n o → Speaks a c ended (ts ++ us) had hold m o
speaks_both a b c ended ts us had has hold m n o f g = record {
  steps = turns_both a.desk.state ts us f.steps (subst (λ (s : State). AreTurns s us) (sym f.last) g.steps);
  last = after_both a.desk.state ts us ∙ ap (λ (s : State). state_after s us) f.last ∙ g.last;
  stops = subst (Stops ended) (sym (commands_both ts us)) (stops_both ended (commands_in ts) (commands_in us) f.stops g.stops);
  refused =
      g.refused ∙ ap (λ (t : Bool). t || has_error us) f.refused ∙ or_assoc a.refused (has_error ts) (has_error us)
      ∙ ap (λ (t : Bool). a.refused || t) (sym (errors_both ts us));
  written = subst (Appends had hold) (sym (text_both ts us)) (Appends-trans had has hold (text_in ts) (text_in us) f.written g.written);
  builds = rises_more (builds_in ts) (builds_in us) (builds_in (ts ++ us)) m n o f.builds g.builds (omega (arith, builds_both ts us));
}

-- ---- replies that were begun

-- nothing was said, since memory was wanting
pub breaks_none : (s : State) (had : Option (List ℕ)) (m n : ℕ) → Breaks s halts.Memory [] had had m n
breaks_none s had m n = record {
  steps = tt;
  ended = false;
  stops = stops_none;
  size = 0;
  written = appends_nothing had;
  builds = λ other. absurd (other refl);
}

-- a turn whose reply was begun
pub breaks_one : (s t : State) (command : Command) (reply : Reply) (had has : Option (List ℕ)) (size m n : ℕ) → IsStep command s reply t
    → Appends had has (take size reply.text) → RisesUpTo (builds_of command s) m n
    → Breaks s halts.Sink (record { command = command; before = s; reply = reply; after = t } ∷ []) had has m n
breaks_one s t command reply had has size m n step written builds = record {
  steps = (refl, step, tt);
  ended = is_quit command;
  stops = stops_one command;
  size = size;
  written = subst (λ (text : List ℕ). Appends had has (take size text)) (sym (append-nil reply.text)) written;
  builds = λ other. rises_within (builds_of command s) (builds_of command s + 0) m n builds (omega arith);
}

-- turns without a `quit`, and then others that were begun
pub breaks_both : (a b : Speaker) (stop : Stop) (ts us : List Turn) (had has hold : Option (List ℕ)) (m n o : ℕ)
    → Speaks a b false ts had has m n → Breaks b.desk.state stop us has hold n o → Breaks a.desk.state stop (ts ++ us) had hold m o
breaks_both a b stop ts us had has hold m n o f g = record {
  steps = turns_both a.desk.state ts us f.steps (subst (λ (s : State). AreTurns s us) (sym f.last) g.steps);
  ended = g.ended;
  stops = subst (Stops g.ended) (sym (commands_both ts us)) (stops_both g.ended (commands_in ts) (commands_in us) f.stops g.stops);
  size = length (text_in ts) + g.size;
  written =
      subst (Appends had hold) (sym (ap (take (length (text_in ts) + g.size)) (text_both ts us) ∙ take_both (text_in ts) (text_in us) g.size))
      (Appends-trans had has hold (text_in ts) (take g.size (text_in us)) f.written g.written);
  builds = λ other. rises_more (builds_in ts) (builds_in us) (builds_in (ts ++ us)) m n o f.builds (g.builds other) (omega (arith, builds_both ts us));
}

-- ---- lines

pub all_both : {X : Type 0} (p : X → Bool) (a b : List X) → list_all p a ≡ true → list_all p b ≡ true → list_all p (a ++ b) ≡ true
all_both p [] b h k = k
all_both p (x ∷ a) b h k = by (p x) h (λ g. all_both p a b g k)
  where
    by : (t : Bool) → (t && list_all p a) ≡ true → (list_all p a ≡ true → list_all p (a ++ b) ≡ true) → (t && list_all p (a ++ b)) ≡ true
    by true h rest = rest h
    by false h rest = absurd (true≢false (sym h))

pub lines_none : (before : Option OpenBlock) → TakesLines before [] [] before
lines_none before = record { whole = refl; commands = λ more. refl }

pub lines_both : (a b c : Option OpenBlock) (ls ms : List (List ℕ)) (ts us : List Turn) → TakesLines a ls ts b → TakesLines b ms us c → TakesLines a (ls ++ ms) (ts ++ us) c
lines_both a b c ls ms ts us f g = record {
  whole = subst (λ (cs : List Command). list_all is_whole cs ≡ true) (sym (commands_both ts us)) (all_both is_whole (commands_in ts) (commands_in us) f.whole g.whole);
  commands = λ more.
      ap (commands_from a) (append_assoc ls ms more) ∙ f.commands (ms ++ more) ∙ ap (λ (cs : List Command). commands_in ts ++ cs) (g.commands more)
      ∙ sym (append_assoc (commands_in ts) (commands_in us) (commands_from c more)) ∙ ap (λ (cs : List Command). cs ++ commands_from c more) (sym (commands_both ts us));
}

pub begins_both : (a b : Option OpenBlock) (ls ms : List (List ℕ)) (ts us : List Turn) → TakesLines a ls ts b → BeginsLines b ms us → BeginsLines a (ls ++ ms) (ts ++ us)
begins_both a b ls ms ts us f g = record {
  whole = subst (λ (cs : List Command). list_all is_whole cs ≡ true) (sym (commands_both ts us)) (all_both is_whole (commands_in ts) (commands_in us) f.whole g.whole);
  begins = λ more.
      let next = g.begins more in (
        next.0,
        ap (commands_from a) (append_assoc ls ms more) ∙ f.commands (ms ++ more) ∙ ap (λ (cs : List Command). commands_in ts ++ cs) next.1
            ∙ sym (append_assoc (commands_in ts) (commands_in us) next.0) ∙ ap (λ (cs : List Command). cs ++ next.0) (sym (commands_both ts us)),
      );
}
