-- Each command has an answer in each state of a session, and the state after it is one of a session again.
use Rattle.std.proofs.Common.{◌≡◌, ◌⊎◌, inl, inr, ℕ, suc, ◌≤◌, ◌<◌, List, [], ◌∷◌, ◌++◌, Bool, true, false, Option, Some, None, Result, Ok, Err, length, refl, sym, ap, subst, ◌∙◌, arith, add-one}
use Rattle.std.specs.Prelude.{nat_lt, not, ◌&&◌, ◌||◌, ◌==◌, filter_map, codes, if◌then◌else◌}
use Rattle.std.specs.Option.{is_some, option_map_or}
use Rattle.std.specs.List.{IsDistinct}
use Rattle.std.specs.Str.{bytes_eq}
use Rattle.std.proofs.lemmas.List.Elements.{All-nil}
use Rattle.std.proofs.lemmas.Bool.Decides.{nat_tests}
use Rattle.rtl_bits.specs.declared.bit.Bit.{Bit}
use Rattle.rtl_ir.specs.declared.module.Design.{Design}
use Rattle.rtl_ir.specs.declared.module.Module.{Module}
use Rattle.rtl_ir.specs.declared.limits.TheConstants.{MAX_MODULES}
use Rattle.rtl_ir.specs.Fault.{Fault}
use Rattle.rtl_ir.specs.Faults.{check_faults}
use Rattle.rtl_ir.specs.Types.{module_named}
use Rattle.rtl_grammar.specs.Uses.{items_of}
use Rattle.rtl_read.specs.declared.read_fault.ReadFault.{ReadFault}
use Rattle.rtl_read.specs.Reads.{Reads, IsFirstFault}
use Rattle.rtl_read.proofs.Unique.{some_answer}
use Rattle.rtl_check.specs.declared.fault.CheckFault.{CheckFault}
use Rattle.rtl_check.specs.Finds.{first_answer}
use Rattle.rtl_readable.specs.Readable.{IsReadable, IsReadableModule}
use Rattle.rtl_write.proofs.Kept.{readable}
use Rattle.script_core.specs.declared.word.Word.{Word}
use Rattle.script_core.specs.Words.{IsScript, bad_from, first_bad, is_bad, is_misplaced, script_of, word_of, words_of}
use Rattle.script_core.proofs.ParseLemmas.{are_script}
use Rattle.desk_read.specs.declared.command.Command.{Command}
use Rattle.desk_read.specs.declared.command.Command.TheVariants.{Load, Edit, Remove, Script, Run, Print, Show, Version, Modules, Ports, SimSource, SimNetlist, Quit, Bad, Unclosed}
use Rattle.reply_lines.specs.Lines.{last_reply, read_words}
use Rattle.design_edit.specs.Modules.{PassesAt, has_module, with_module, with_modules, without_module}
use Rattle.design_edit.specs.Places.{module_place}
use Rattle.design_edit.proofs.Readings.{readable_edits, readable_without}
use Rattle.desk_core.specs.Answers.{IsEdited, IsTextAnswer, by_stimulus, checked_answer, design_answer, modules_answer, netlist_run_answer, ports_answer, print_answer, refusal, remove_answer, run_answer, script_answer, script_answer_by, show_answer, source_answer, unchanged, version_answer}
use Rattle.desk_core.specs.Netlist.{all_kept}
use Rattle.desk_core.specs.State.{Answer, State, answer, first_state}
use Rattle.desk_core.specs.Step.{IsAnswer}
use Rattle.synth_run.specs.Session.{AreTurns, Turn, commands_in, state_after}
use Rattle.rtl_lex.specs.Place.{place_text}

-- a state that a session can be in: its design can be read of a text and has no fault, and its script is one
pub record IsGood (s : State) : Type 0 where
  pub readable : IsReadable s.design
  pub faultless : check_faults s.design.modules ≡ []
  pub script : IsScript s.script

pub no_fault : (all : List Fault) → first_answer all ≡ None → all ≡ []
no_fault [] e = refl
no_fault (fault ∷ all) e = absurd cc

-- ---- what is kept

-- with the same design and script
good_same : (s t : State) → t.design ≡ s.design → t.script ≡ s.script → IsGood s → IsGood t
good_same s t design script g = record {
  readable = subst IsReadable (sym design) g.readable;
  faultless = ap (λ (d : Design). check_faults d.modules) design ∙ g.faultless;
  script = subst IsScript (sym script) g.script;
}

good_checked : (s : State) (modules : List Module) (o : Option CheckFault) → IsGood s → IsReadable (record { modules = modules }) → first_answer (check_faults modules) ≡ o
    → IsGood (checked_answer s modules o).after
good_checked s modules None g readable e = record { readable = readable; faultless = no_fault (check_faults modules) e; script = g.script }
good_checked s modules (Some fault) g readable e = g

good_design : (s : State) (modules : List Module) → IsGood s → IsReadable (record { modules = modules }) → IsGood (design_answer s modules).after
good_design s modules g readable = good_checked s modules (first_answer (check_faults modules)) g readable refl

-- the state after an answer that is one of these
good_is : (a b : Answer) → a ≡ b → IsGood b.after → IsGood a.after
good_is a b e g = subst (λ (x : Answer). IsGood x.after) (sym e) g

good_text : (s : State) (text : List ℕ) (by : Design → Answer → Type 0) (a : Answer) → IsGood s → ((design : Design) → Reads text design → by design a → IsGood a.after)
    → IsTextAnswer s text by a → IsGood a.after
good_text s text by a g next (inl (design, reads, is)) = next design reads is
good_text s text by a g next (inr (fault, first, is)) = good_is a (refusal s (read_words fault)) is g

good_edited : (s : State) (text : List ℕ) (edits : Design) (a : Answer) → IsGood s → Reads text edits → IsEdited s text edits a → IsGood a.after
good_edited s text edits a g reads (inl (few, is)) =
    good_is a (design_answer s (with_modules s.design.modules edits.modules)) is
    (good_design s (with_modules s.design.modules edits.modules) g (readable_edits s.design.modules edits.modules g.readable (readable text edits reads) few))
good_edited s text edits a g reads (inr (at, items, passes, are, is)) = good_is a (refusal s (codes "17 " ++ place_text (module_place items at))) is g

good_removed : (t : Bool) (s : State) (name : List ℕ) → IsGood s → IsGood (if t then design_answer s (without_module s.design.modules name) else refusal s (codes "18 " ++ name)).after
good_removed true s name g = good_design s (without_module s.design.modules name) g (readable_without s.design.modules name g.readable)
good_removed false s name g = g

-- a text that has a script has one
first_word : (word : List ℕ) (more : List (List ℕ)) → bad_from 1 (word ∷ more) ≡ None → 0 < length (filter_map word_of (word ∷ more))
first_word word more none = by (word_of word) refl
  where
    by : (o : Option Word) → word_of word ≡ o → 0 < length (filter_map word_of (word ∷ more))
    by None e =
        let bad : is_bad 1 word ≡ true = ap (λ (o : Option Word). not (is_some o) || is_misplaced 1 word) e in
        let first : bad_from 1 (word ∷ more) ≡ Some 1 = ap (λ (t : Bool). if t then Some 1 else bad_from 2 more) bad in
        absurd cc
    by (Some w) e = rw e (omega arith)

pub script_found : (text : List ℕ) (words : List Word) → script_of text ≡ Ok words → IsScript words
script_found text words e = by (words_of text) refl
  where
    with_first : (all : List (List ℕ)) (o : Option ℕ) → first_bad all ≡ o → option_map_or Err (first_bad all) (Ok (filter_map word_of all)) ≡ Ok words
        → (o ≡ None) × (words ≡ filter_map word_of all)
    with_first all None f e = (refl, let is : Ok (filter_map word_of all) ≡ Ok words = sym (ap (λ (o : Option ℕ). option_map_or Err o (Ok (filter_map word_of all))) f) ∙ e in cc)
    with_first all (Some n) f e = absurd (let is : Err n ≡ Ok words = sym (ap (λ (o : Option ℕ). option_map_or Err o (Ok (filter_map word_of all))) f) ∙ e in cc)

    by : (all : List (List ℕ)) → words_of text ≡ all → IsScript words
    by [] is =
        let here = with_first [] (Some 1) refl (ap (λ (ws : List (List ℕ)). option_map_or Err (first_bad ws) (Ok (filter_map word_of ws))) (sym is) ∙ e) in
        absurd (let no : Some 1 ≡ None = here.0 in cc)
    by (word ∷ more) is =
        let all = word ∷ more in
        let here = with_first all (first_bad all) refl (ap (λ (ws : List (List ℕ)). option_map_or Err (first_bad ws) (Ok (filter_map word_of ws))) (sym is) ∙ e) in
        are_script all words here.1 here.0 (subst (λ (ws : List Word). 0 < length ws) (sym here.1) (first_word word more here.0))

good_script : (s : State) (r : Result (List Word) ℕ) → IsGood s → ((words : List Word) → r ≡ Ok words → IsScript words) → IsGood (script_answer_by s r).after
good_script s (Ok words) g is = record { readable = g.readable; faultless = g.faultless; script = is words refl }
good_script s (Err number) g is = g

good_by_module : (s : State) (o : Option Module) (other : Answer) (answer : Module → Answer) → ((m : Module) → IsGood (answer m).after) → IsGood other.after
    → IsGood (option_map_or answer o other).after
good_by_module s None other answer h g = g
good_by_module s (Some m) other answer h g = h m

good_by_stimulus : (s : State) (r : Result (List (List Bit)) ℕ) (answer : List (List Bit) → Answer) → IsGood s → ((stimulus : List (List Bit)) → IsGood (answer stimulus).after)
    → IsGood (by_stimulus s r answer).after
good_by_stimulus s (Ok stimulus) answer g h = h stimulus
good_by_stimulus s (Err number) answer g h = g

good_kept : (s : State) → IsGood s → IsGood (all_kept s)
good_kept s g = record { readable = g.readable; faultless = g.faultless; script = g.script }

-- the state after a step
pub step_good : (command : Command) (s : State) (a : Answer) → IsGood s → IsAnswer s command a → IsGood a.after
step_good (Load text) s a g is =
    good_text s text (λ design a. a ≡ design_answer s design.modules) a g
    (λ design reads e. good_is a (design_answer s design.modules) e (good_design s design.modules g (readable text design reads))) is
step_good (Edit text) s a g is = good_text s text (IsEdited s text) a g (λ edits reads edited. good_edited s text edits a g reads edited) is
step_good (Remove name) s a g is = good_is a (remove_answer s name) is (good_removed (has_module s.design.modules name) s name g)
step_good (Script text) s a g is = good_is a (script_answer s text) is (good_script s (script_of text) g (λ words e. script_found text words e))
step_good Run s a g is = good_is a (run_answer s) is (good_kept s g)
step_good Print s a g is = good_is a (print_answer s) is (good_kept s g)
step_good (Show name) s a g is = good_is a (show_answer s name) is (good_by_module s (module_named s.design.modules name) _ _ (λ m. g) g)
step_good Version s a g is = good_is a (version_answer s) is g
step_good Modules s a g is = good_is a (modules_answer s) is g
step_good (Ports name) s a g is = good_is a (ports_answer s name) is (good_by_module s (module_named s.design.modules name) _ _ (λ m. g) g)
step_good (SimSource ask) s a g is =
    good_is a (source_answer s ask.order ask.module ask.steps) is
    (good_by_module s (module_named s.design.modules ask.module) _ _ (λ m. good_by_stimulus s _ _ g (λ stimulus. g)) g)
step_good (SimNetlist ask) s a g is =
    good_is a (netlist_run_answer s ask.order ask.module ask.steps) is
    (good_by_module s (module_named s.design.modules ask.module) _ _ (λ m. good_by_stimulus s _ _ g (λ stimulus. good_kept s g)) g)
step_good Quit s a g is = good_is a (unchanged s last_reply) is g
step_good Bad s a g is = good_is a (refusal s (codes "21")) is g
step_good Unclosed s a g is = good_is a (refusal s (codes "22")) is g

-- ---- there is an answer

some_text : (s : State) (text : List ℕ) (by : Design → Answer → Type 0) → ((design : Design) → Reads text design → (a : Answer) × by design a) → (a : Answer) × IsTextAnswer s text by a
some_text s text by next = go (some_answer text)
  where
    go : ((design : Design) × Reads text design) ⊎ ((fault : ReadFault) × IsFirstFault text fault) → (a : Answer) × IsTextAnswer s text by a
    go (inl (design, reads)) = let found = next design reads in (found.0, inl (design, reads, found.1))
    go (inr (fault, first)) = (refusal s (read_words fault), inr (fault, first, refl))

-- modules that become too many do so at some edit
passes_at : (modules edits : List Module) → length modules ≤ MAX_MODULES → MAX_MODULES < length (with_modules modules edits) → (at : ℕ) × PassesAt modules edits at
passes_at modules [] few many = absurd (omega (arith, few, many))
passes_at modules (new ∷ edits) few many = by (nat_lt MAX_MODULES (length (with_module modules new))) refl (λ less. passes_at (with_module modules new) edits less many)
  where
    by : (t : Bool) → nat_lt MAX_MODULES (length (with_module modules new)) ≡ t → (length (with_module modules new) ≤ MAX_MODULES → (at : ℕ) × PassesAt (with_module modules new) edits at)
        → (at : ℕ) × PassesAt modules (new ∷ edits) at
    by true e next = (0, record { within = few; passes = grind (arith, nat_tests) })
    by false e next =
        let less : length (with_module modules new) ≤ MAX_MODULES = grind (arith, nat_tests) in
        let later = next less in
        (suc later.0, record { within = later.1.within; passes = rw add-one (rw add-one at later.1.passes) })

some_edited : (s : State) (text : List ℕ) (edits : Design) → IsGood s → Reads text edits → (a : Answer) × IsEdited s text edits a
some_edited s text edits g reads = by (nat_lt MAX_MODULES (length (with_modules s.design.modules edits.modules))) refl
  where
    by : (t : Bool) → nat_lt MAX_MODULES (length (with_modules s.design.modules edits.modules)) ≡ t → (a : Answer) × IsEdited s text edits a
    by true e =
        let many : MAX_MODULES < length (with_modules s.design.modules edits.modules) = grind (arith, nat_tests) in
        let at = passes_at s.design.modules edits.modules g.readable.count many in (
          refusal s (codes "17 " ++ place_text (module_place (items_of reads.uses) at.0)),
          inr (at.0, items_of reads.uses, at.1, reads.tokens, refl),
        )
    by false e =
        let few : length (with_modules s.design.modules edits.modules) ≤ MAX_MODULES = grind (arith, nat_tests) in
        (design_answer s (with_modules s.design.modules edits.modules), inl (few, refl))

-- a command in a state of a session
pub some_step : (command : Command) (s : State) → IsGood s → (a : Answer) × IsAnswer s command a
some_step (Load text) s g = some_text s text (λ design a. a ≡ design_answer s design.modules) (λ design reads. (design_answer s design.modules, refl))
some_step (Edit text) s g = some_text s text (IsEdited s text) (λ edits reads. some_edited s text edits g reads)
some_step (Remove name) s g = (remove_answer s name, refl)
some_step (Script text) s g = (script_answer s text, refl)
some_step Run s g = (run_answer s, refl)
some_step Print s g = (print_answer s, refl)
some_step (Show name) s g = (show_answer s name, refl)
some_step Version s g = (version_answer s, refl)
some_step Modules s g = (modules_answer s, refl)
some_step (Ports name) s g = (ports_answer s name, refl)
some_step (SimSource ask) s g = (source_answer s ask.order ask.module ask.steps, refl)
some_step (SimNetlist ask) s g = (netlist_run_answer s ask.order ask.module ask.steps, refl)
some_step Quit s g = (unchanged s last_reply, refl)
some_step Bad s g = (refusal s (codes "21"), refl)
some_step Unclosed s g = (refusal s (codes "22"), refl)

-- ---- turns

pub turns_good : (s : State) (turns : List Turn) → IsGood s → AreTurns s turns → IsGood (state_after s turns)
turns_good s [] g h = g
turns_good s (turn ∷ turns) g h = turns_good turn.after turns (step_good turn.command s (answer turn.reply turn.after) g h.1) h.2

pub some_turns : (commands : List Command) (s : State) → IsGood s → (turns : List Turn) × AreTurns s turns × (commands_in turns ≡ commands)
some_turns [] s g = ([], tt, refl)
some_turns (command ∷ commands) s g =
    let step = some_step command s g in
    let next = some_turns commands step.0.after (step_good command s step.0 g step.1) in (
      record { command = command; before = s; reply = step.0.reply; after = step.0.after } ∷ next.0,
      (refl, step.1, next.1),
      ap (λ (cs : List Command). command ∷ cs) next.2,
    )

none_readable : IsReadable (record { modules = [] })
unfolding IsDistinct
none_readable = record { modules = All-nil IsReadableModule; distinct = tt; count = omega arith }

none_faults : check_faults [] ≡ []
none_faults = refl

-- the first state of a session
pub first_good : (script : List Word) → IsScript script → IsGood (first_state script)
first_good script is = record { readable = none_readable; faultless = none_faults; script = is }
