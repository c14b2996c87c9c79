-- Each command has one answer in a state, so each input has one reply.
use Rattle.std.proofs.Common.{◌≡◌, ◌⊎◌, inl, inr, ℕ, zero, suc, ◌+◌, ◌≤◌, ◌<◌, List, [], ◌∷◌, ◌++◌, Bool, true, false, length, take, refl, sym, ap, subst, ◌∙◌, arith}
use Rattle.std.specs.Prelude.{codes, if◌then◌else◌}
use Rattle.std.specs.Str.{bytes_eq}
use Rattle.rtl_ir.specs.declared.module.Design.{Design}
use Rattle.rtl_ir.specs.declared.module.Module.{Module}
use Rattle.rtl_ir.specs.declared.limits.TheConstants.{MAX_MODULES}
use Rattle.rtl_lex.specs.Items.{Seen}
use Rattle.rtl_lex.specs.Place.{place_text, start}
use Rattle.rtl_lex.proofs.ItemLemmas.{same_items}
use Rattle.rtl_read.specs.declared.read_fault.ReadFault.{ReadFault}
use Rattle.rtl_read.proofs.Unique.{not_both, one_design, one_fault}
use Rattle.script_core.specs.declared.word.Word.{Word}
use Rattle.desk_read.specs.declared.command.Command.{Command}
use Rattle.desk_read.specs.declared.command.Command.TheVariants.{Load, Edit, Remove, Script, Run, Print, Show, Version, Modules, Ports, SimSource, SimNetlist, Quit, Bad, Unclosed}
use Rattle.reply_lines.specs.declared.reply.Reply.{Reply}
use Rattle.reply_lines.specs.Lines.{error_reply, read_words}
use Rattle.design_edit.specs.Modules.{PassesAt, with_module, with_modules}
use Rattle.design_edit.specs.Places.{module_place}
use Rattle.desk_core.specs.Answers.{IsEdited, IsTextAnswer, design_answer, refusal}
use Rattle.desk_core.specs.State.{Answer, State, answer}
use Rattle.desk_core.specs.Step.{IsAnswer, IsStep}
use Rattle.synth_run.specs.Said.{Said, said_of}
use Rattle.synth_run.specs.Session.{AreTurns, Turn, commands_in}
use Rattle.synth_run.specs.Synth.{IsInputReply, IsTextReply, design_said}

-- ---- one text

same_text : (script : List Word) (text : List ℕ) (said other : Said) → IsTextReply script text said → IsTextReply script text other → said ≡ other
same_text script text said other (inl (design, reads, is)) (inl (design', reads', is')) = is ∙ ap (design_said script) (one_design text design design' reads reads') ∙ sym is'
same_text script text said other (inl (design, reads, is)) (inr (fault, first, is')) = absurd (not_both text design fault reads first)
same_text script text said other (inr (fault, first, is)) (inl (design, reads, is')) = absurd (not_both text design fault reads first)
same_text script text said other (inr (fault, first, is)) (inr (fault', first', is')) =
    is ∙ ap (λ (f : ReadFault). said_of (error_reply (read_words f))) (one_fault text fault fault' first first') ∙ sym is'

pub same_input : (long : Bool) (script : List Word) (input : List ℕ) (said other : Said) → IsInputReply long script input said → IsInputReply long script input other → said ≡ other
same_input true script input said other is is' = is ∙ sym is'
same_input false script input said other is is' = same_text script input said other is is'

-- ---- a command

same_by_text : (s : State) (text : List ℕ) (by : Design → Answer → Type 0) (a b : Answer) → ((design : Design) → by design a → by design b → a ≡ b)
    → IsTextAnswer s text by a → IsTextAnswer s text by b → a ≡ b
same_by_text s text by a b same (inl (design, reads, is)) (inl (design', reads', is')) =
    same design is (subst (λ (d : Design). by d b) (sym (one_design text design design' reads reads')) is')
same_by_text s text by a b same (inl (design, reads, is)) (inr (fault, first, is')) = absurd (not_both text design fault reads first)
same_by_text s text by a b same (inr (fault, first, is)) (inl (design, reads, is')) = absurd (not_both text design fault reads first)
same_by_text s text by a b same (inr (fault, first, is)) (inr (fault', first', is')) =
    is ∙ ap (λ (f : ReadFault). refusal s (read_words f)) (one_fault text fault fault' first first') ∙ sym is'

-- modules in the places of others are no fewer
grown_one : (modules : List Module) (new : Module) → length modules ≤ length (with_module modules new)
grown_one [] new = omega arith
grown_one (m ∷ modules) new = by (bytes_eq m.id new.id) (grown_one modules new)
  where
    by : (t : Bool) → length modules ≤ length (with_module modules new) → length (m ∷ modules) ≤ length (if t then new ∷ modules else m ∷ with_module modules new)
    by true rest = omega arith
    by false rest = omega arith

grown : (modules edits : List Module) (k : ℕ) → length (with_modules modules (take k edits)) ≤ length (with_modules modules edits)
grown modules [] zero = omega arith
grown modules [] (suc k) = omega arith
grown modules (new ∷ edits) zero =
    let more = grown (with_module modules new) edits 0 in
    omega (arith, grown_one modules new, more)
grown modules (new ∷ edits) (suc k) = grown (with_module modules new) edits k

grown_more : (modules edits : List Module) (j k : ℕ) → j ≤ k → length (with_modules modules (take j edits)) ≤ length (with_modules modules (take k edits))
grown_more modules [] zero k le = grown modules (take k []) 0
grown_more modules [] (suc j) zero le = absurd (omega (arith, le))
grown_more modules [] (suc j) (suc k) le = omega arith
grown_more modules (new ∷ edits) zero k le = grown modules (take k (new ∷ edits)) 0
grown_more modules (new ∷ edits) (suc j) zero le = absurd (omega (arith, le))
grown_more modules (new ∷ edits) (suc j) (suc k) le = grown_more (with_module modules new) edits j k (omega (arith, le))

never_passes : (modules edits : List Module) (at : ℕ) → length (with_modules modules edits) ≤ MAX_MODULES → PassesAt modules edits at → ⊥
never_passes modules edits at few passes = absurd (omega (arith, few, passes.passes, grown modules edits (at + 1)))

-- the first one is not before another
not_before : (modules edits : List Module) (at other : ℕ) → PassesAt modules edits at → PassesAt modules edits other → at < other → ⊥
not_before modules edits at other p q lt = absurd (omega (arith, p.passes, q.within, grown_more modules edits (at + 1) other (omega (arith, lt))))

split : (a b : ℕ) → (a ≡ b) ⊎ ((a < b) ⊎ (b < a))
split zero zero = inl refl
split zero (suc b) = inr (inl (omega arith))
split (suc a) zero = inr (inr (omega arith))
split (suc a) (suc b) = by (split a b)
  where
    by : (a ≡ b) ⊎ ((a < b) ⊎ (b < a)) → (suc a ≡ suc b) ⊎ ((suc a < suc b) ⊎ (suc b < suc a))
    by (inl e) = inl (ap suc e)
    by (inr (inl lt)) = inr (inl (omega (arith, lt)))
    by (inr (inr lt)) = inr (inr (omega (arith, lt)))

one_place : (modules edits : List Module) (at other : ℕ) → PassesAt modules edits at → PassesAt modules edits other → at ≡ other
one_place modules edits at other p q = by (split at other)
  where
    by : (at ≡ other) ⊎ ((at < other) ⊎ (other < at)) → at ≡ other
    by (inl e) = e
    by (inr (inl lt)) = absurd (not_before modules edits at other p q lt)
    by (inr (inr lt)) = absurd (not_before modules edits other at q p lt)

same_edited : (s : State) (text : List ℕ) (edits : Design) (a b : Answer) → IsEdited s text edits a → IsEdited s text edits b → a ≡ b
same_edited s text edits a b (inl (few, is)) (inl (few', is')) = is ∙ sym is'
same_edited s text edits a b (inl (few, is)) (inr (at, items, passes, are, is')) = absurd (never_passes s.design.modules edits.modules at few passes)
same_edited s text edits a b (inr (at, items, passes, are, is)) (inl (few, is')) = absurd (never_passes s.design.modules edits.modules at few passes)
same_edited s text edits a b (inr (at, items, passes, are, is)) (inr (at', items', passes', are', is')) =
    let place = one_place s.design.modules edits.modules at at' passes passes' in
    let seen = same_items items items' text start false are are' in
    is ∙ ap (λ (k : ℕ). refusal s (codes "17 " ++ place_text (module_place items k))) place
    ∙ ap (λ (l : List Seen). refusal s (codes "17 " ++ place_text (module_place l at'))) seen ∙ sym is'

pub same_answer : (command : Command) (s : State) (a b : Answer) → IsAnswer s command a → IsAnswer s command b → a ≡ b
same_answer (Load text) s a b f g = same_by_text s text (λ design x. x ≡ design_answer s design.modules) a b (λ design e e'. e ∙ sym e') f g
same_answer (Edit text) s a b f g = same_by_text s text (IsEdited s text) a b (λ edits e e'. same_edited s text edits a b e e') f g
same_answer (Remove name) s a b f g = f ∙ sym g
same_answer (Script text) s a b f g = f ∙ sym g
same_answer Run s a b f g = f ∙ sym g
same_answer Print s a b f g = f ∙ sym g
same_answer (Show name) s a b f g = f ∙ sym g
same_answer Version s a b f g = f ∙ sym g
same_answer Modules s a b f g = f ∙ sym g
same_answer (Ports name) s a b f g = f ∙ sym g
same_answer (SimSource ask) s a b f g = f ∙ sym g
same_answer (SimNetlist ask) s a b f g = f ∙ sym g
same_answer Quit s a b f g = f ∙ sym g
same_answer Bad s a b f g = f ∙ sym g
same_answer Unclosed s a b f g = f ∙ sym g

-- ---- a session

abbrev turn_of : Command → State → Reply → State → Turn
turn_of command before reply after = record { command = command; before = before; reply = reply; after = after }

-- turns are the same that have the same parts
turn_is : (t u : Turn) → t.command ≡ u.command → t.before ≡ u.before → t.reply ≡ u.reply → t.after ≡ u.after → t ≡ u
turn_is t u command before reply after =
    ap (λ (c : Command). turn_of c t.before t.reply t.after) command ∙ ap (λ (s : State). turn_of u.command s t.reply t.after) before
    ∙ ap (λ (r : Reply). turn_of u.command u.before r t.after) reply ∙ ap (λ (s : State). turn_of u.command u.before u.reply s) after

pub same_turns : (s : State) (ts us : List Turn) → AreTurns s ts → AreTurns s us → commands_in ts ≡ commands_in us → ts ≡ us
same_turns s [] [] f g e = refl
same_turns s [] (u ∷ us) f g e = absurd cc
same_turns s (t ∷ ts) [] f g e = absurd cc
same_turns s (t ∷ ts) (u ∷ us) f g e =
    let command : t.command ≡ u.command = cc in
    let rest : commands_in ts ≡ commands_in us = cc in
    let one : answer t.reply t.after ≡ answer u.reply u.after =
    same_answer u.command s (answer t.reply t.after) (answer u.reply u.after) (subst (λ (c : Command). IsStep c s t.reply t.after) command f.1) g.1 in
    let reply : t.reply ≡ u.reply = ap (λ (a : Answer). a.reply) one in
    let after : t.after ≡ u.after = ap (λ (a : Answer). a.after) one in
    let before : t.before ≡ u.before = f.0 ∙ sym g.0 in
    let turn : t ≡ u = turn_is t u command before reply after in
    let others : ts ≡ us = same_turns u.after ts us (subst (λ (x : State). AreTurns x ts) after f.2) g.2 rest in
    cc
