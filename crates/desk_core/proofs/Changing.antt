-- Answers to commands that change the design or the script.
use Rattle.std.proofs.Common.{Global, Vec, ◌≡◌, ◌≢◌, inl, inr, ℕ, zero, suc, ◌≤◌, List, [], ◌++◌, Bool, false, cond, Option, Some, None, Result, Ok, Err, length, slice_get, refl, sym, ap, subst, ◌∙◌}
use Rattle.std.specs.Prelude.{IfOk, OnErr, codes, replicate}
use Rattle.rtl_bits.specs.declared.memory.Memory.{Memory}
use Rattle.desk_read.specs.declared.command.Command.{Command}
use Rattle.desk_read.specs.declared.command.Command.TheVariants.{Load, Edit, Remove, Script, Run, Print, Show, Version, Modules, Ports, SimSource, SimNetlist, Quit, Bad, Unclosed}
use Rattle.desk_read.specs.declared.command.SimAsk.{SimAsk}
use Rattle.rtl_ir.specs.declared.module.Design.{Design}
use Rattle.rtl_ir.specs.declared.module.Module.{Module}
use Rattle.rtl_ir.specs.Fault.{Fault}
use Rattle.rtl_ir.specs.Faults.{check_faults}
use Rattle.rtl_check.specs.declared.edit.EditFault.{EditFault}
use Rattle.rtl_check.specs.declared.edit.EditFault.TheVariants as edit
use Rattle.rtl_check.specs.declared.checked.Checked.{Checked}
use Rattle.rtl_check.specs.declared.fault.CheckFault.{CheckFault}
use Rattle.rtl_check.specs.declared.fault.CheckFault.TheVariants as check
use Rattle.rtl_check.specs.Edits.{IsEditFault}
use Rattle.rtl_check.specs.Finds.{IsFirst, first_answer}
use Rattle.rtl_read.specs.declared.read_fault.ReadFault.{ReadFault}
use Rattle.rtl_read.specs.declared.read_fault.ReadFault.TheVariants as faults
use Rattle.rtl_read.specs.Reads.{Reads, AreItemsOf, IsFirstFault, OnFault}
use Rattle.std.specs.Coded as coded
use Rattle.std.specs.Fmt.{decimal}
use Rattle.rtl_readable.specs.Readable.{IsReadable}
use Rattle.result_cache.specs.Seats.{Seated}
use Rattle.build_crew.specs.Kept.{kept_by}
use Rattle.script_core.specs.declared.built.Built.{Built}
use Rattle.script_core.specs.declared.word.Word.{Word}
use Rattle.script_core.specs.Words.{script_of}
use Rattle.reply_lines.specs.declared.reply.Reply.{Reply}
use Rattle.reply_lines.specs.Lines.{check_words, counted, error_reply, ok_line, ok_reply, read_words}
use Rattle.design_edit.specs.Modules.{with_modules, without_module}
use Rattle.design_edit.proofs.Readings.{readable_edits}
use Rattle.rtl_grammar.specs.Uses.{items_of}
use Rattle.rtl_ir.specs.declared.limits.TheConstants.{MAX_MODULES}
use Rattle.rtl_lex.specs.Items.{Seen}
use Rattle.rtl_write.proofs.Kept.{readable}
use Rattle.design_edit.proofs.Naming.{has_none, has_one}
use Rattle.rtl_ir.specs.Faults.Recursion.{place_named}
use Rattle.std.proofs.lemmas.List.{length-replicate}
use Rattle.desk_core.specs.declared.present.Present.{Present}
use Rattle.desk_core.specs.declared.results.Results.{Results}
use Rattle.desk_core.specs.Answers.{IsEditAnswer, IsEdited, IsLoadAnswer, checked_answer, design_answer, refusal, remove_answer, script_answer, script_answer_by}
use Rattle.desk_core.specs.Ages.{kept_in}
use Rattle.desk_core.specs.Builds.{HasClaims, KeepsAll, asked_by, needs_netlist}
use Rattle.desk_core.specs.Edits.{IsEditReply}
use Rattle.desk_core.specs.Present.{KeepsBeside, state_with}
use Rattle.desk_core.specs.Results.{AreBeside, AreSound, state_of, view_of}
use Rattle.desk_core.specs.State.{DeskView, KeptKey, State, answer}
use Rattle.desk_core.specs.Step.{IsStep}
use Rattle.desk_core.proofs.Rises.{claims_none}
use Rattle.desk_core.proofs.Told.{keeps_same}

abbrev nones : ℕ → List (Option Built)
nones n = replicate n None

nothing_there : (n at : ℕ) (built : Built) → slice_get (nones n) at ≡ Some (Some built) → ⊥
nothing_there zero at built h = absurd cc
nothing_there (suc n) zero built h = absurd cc
nothing_there (suc n) (suc at) built h = nothing_there n at built h

length_none : (n : ℕ) → length (nones n) ≡ n
length_none n = length-replicate n None

-- results beside no module stand there for any readable design and any script
pub present_fresh : (keys : List (List ℕ)) (design : Design) (script : List Word) (found : List (Option Built)) → IsReadable design → found ≡ replicate (length design.modules) None
    → AreBeside keys design script found
present_fresh keys design script found readable are = record {
  readable = readable;
  beside = ap length are ∙ length_none (length design.modules);
  own = λ at built is. absurd (nothing_there (length design.modules) at built (ap (λ (l : List (Option Built)). slice_get l at) (sym are) ∙ is));
}

-- ---- a desk whose present design and script change

module _ (old new : Present) (results : Results) (found : Vec (Option Built) Global) where
  -- its results stay sound where those beside the modules are still those of their keys
  pub sound_present : AreSound old.design.design old.script results → KeepsBeside old results.found.items new found.items → AreSound new.design.design new.script (record results { found = found })
  sound_present sound keeps =
      let stand = keeps (kept_by results.seats.items) (record { readable = sound.readable; beside = sound.beside; own = sound.own }) in record {
        readable = stand.readable;
        idle = sound.idle;
        aged = sound.aged;
        beside = stand.beside;
        own = stand.own;
      }

  module _ (v : DeskView) (r : Result Reply Memory) (is : view_of old.design.design old.script results ≡ v) where
    -- after an error contracts see what they saw
    pub view_kept : OnErr r ((new ≡ old) × (found ≡ results.found)) → OnErr r (view_of new.design.design new.script (record results { found = found }) ≡ v)
    view_kept err = by r err
      where
        by : (r : Result Reply Memory) → OnErr r ((new ≡ old) × (found ≡ results.found)) → OnErr r (view_of new.design.design new.script (record results { found = found }) ≡ v)
        by (Ok reply) err = tt
        by (Err memory) err = ap (λ (p : Present). view_of p.design.design p.script results) err.0 ∙ is

    -- and the state is as it was
    pub kept_seen : OnErr r ((new ≡ old) × (found ≡ results.found)) → OnErr r (KeepsAll v.state (state_of new.design.design new.script (record results { found = found })))
    kept_seen err = by r (view_kept err)
      where
        by : (r : Result Reply Memory) → OnErr r (view_of new.design.design new.script (record results { found = found }) ≡ v) → OnErr r (KeepsAll v.state (state_of new.design.design new.script (record results { found = found })))
        by (Ok reply) same = tt
        by (Err memory) same = keeps_same v.state (state_of new.design.design new.script (record results { found = found })) (ap (λ (w : DeskView). w.state) same)

    -- a step of the present design and script is one of the desk
    pub step_seen : (command : Command) → ((kept : List KeptKey) → IfOk r (λ reply. IsStep command (state_with kept old) reply (state_with kept new)))
        → IfOk r (λ reply. IsStep command v.state reply (state_of new.design.design new.script (record results { found = found })))
    step_seen command steps =
        subst (λ (w : DeskView). IfOk r (λ reply. IsStep command w.state reply (state_of new.design.design new.script (record results { found = found })))) is
        (steps (kept_in results.ages.keys results.ages.ages.items))

-- ---- commands that need no netlist

-- all but three
pub plain : (command : Command) → (command ≡ Run → ⊥) → (command ≡ Print → ⊥) → ((ask : SimAsk) → command ≡ SimNetlist ask → ⊥) → needs_netlist command ≡ false
plain (Load text) run print simulate = refl
plain (Edit text) run print simulate = refl
plain (Remove name) run print simulate = refl
plain (Script text) run print simulate = refl
plain Run run print simulate = absurd (run refl)
plain Print run print simulate = absurd (print refl)
plain (Show name) run print simulate = refl
plain Version run print simulate = refl
plain Modules run print simulate = refl
plain (Ports name) run print simulate = refl
plain (SimSource ask) run print simulate = refl
plain (SimNetlist ask) run print simulate = absurd (simulate ask refl)
plain Quit run print simulate = refl
plain Bad run print simulate = refl
plain Unclosed run print simulate = refl

-- they ask for no key
pub asked_none : (command : Command) (s : State) → needs_netlist command ≡ false → asked_by command s ≡ []
asked_none (Load text) s none = refl
asked_none (Edit text) s none = refl
asked_none (Remove name) s none = refl
asked_none (Script text) s none = refl
asked_none Run s none = absurd cc
asked_none Print s none = absurd cc
asked_none (Show name) s none = refl
asked_none Version s none = refl
asked_none Modules s none = refl
asked_none (Ports name) s none = refl
asked_none (SimSource ask) s none = refl
asked_none (SimNetlist ask) s none = absurd cc
asked_none Quit s none = refl
asked_none Bad s none = refl
asked_none Unclosed s none = refl

-- a desk makes no claim for them
pub claims_plain : (command : Command) (s : State) (olds news : List Seated) → needs_netlist command ≡ false → news ≡ olds → HasClaims (asked_by command s) olds news
claims_plain command s olds news none same = subst (λ (keys : List (List ℕ)). HasClaims keys olds news) (sym (asked_none command s none)) (claims_none olds news same)

-- ---- a design that stayed

faults_set : IsSet (List Fault)
faults_set = coded.Coded-set (hlevel coded.codes)

-- designs without faults are the same where their modules are
pub same_checked : (a b : Checked) → a.design ≡ b.design → a ≡ b
same_checked a b same = by a.design b.design same a.faultless b.faultless
  where
    by : (c d : Design) → c ≡ d → (p : check_faults c.modules ≡ []) (q : check_faults d.modules ≡ []) → ◌≡◌ {A = Checked} (record { design = c; faultless = p }) (record { design = d; faultless = q })
    by c d e =
        subst (λ (x : Design). (p : check_faults c.modules ≡ []) (q : check_faults x.modules ≡ []) → ◌≡◌ {A = Checked} (record { design = c; faultless = p }) (record { design = x; faultless = q })) e
        (λ p q. ap (λ (h : check_faults c.modules ≡ []). record { design = c; faultless = h }) (faults_set (check_faults c.modules) [] p q))

-- what is present stays where its design does
pub same_present : (p : Present) (checked : Checked) → checked.design ≡ p.design.design → record p { design = checked } ≡ p
same_present p checked same = ap (λ (d : Checked). record p { design = d }) (same_checked checked p.design same)

pub first_is : (fault : CheckFault) (all : List Fault) → IsFirst fault all → (fault ≡ check.Memory → ⊥) → first_answer all ≡ Some fault
first_is (check.Width s) all first other = first
first_is (check.UnknownCell s) all first other = first
first_is (check.UnsupportedCell s) all first other = first
first_is (check.BadParameterOrPort s) all first other = first
first_is (check.TooWide s) all first other = first
first_is (check.TwoDrivers s) all first other = first
first_is (check.BadPort s) all first other = first
first_is (check.BadProcess s) all first other = first
first_is (check.BadMemory s) all first other = first
first_is (check.Recursion id) all first other = first
first_is check.Memory all first other = absurd (other refl)

-- a fault of a text that is no want of memory is the first
pub is_first : (text : List ℕ) (fault : ReadFault) → OnFault {X = Design} (Err fault) (IsFirstFault text) → (fault ≡ faults.Memory → ⊥) → IsFirstFault text fault
is_first text (faults.Lex place) first other = first
is_first text (faults.Syntax place) first other = first
is_first text (faults.Int place) first other = first
is_first text (faults.Duplicate place) first other = first
is_first text (faults.UnknownName place) first other = first
is_first text (faults.Range place) first other = first
is_first text (faults.Limit place) first other = first
is_first text faults.Memory first other = absurd (other refl)

-- a design without faults becomes the present one
pub taken_design : (s after : State) (modules : List Module) (reply : Reply) → check_faults modules ≡ [] → reply ≡ ok_reply (ok_line (counted (codes "modules") (length modules)))
    → after ≡ record s { design = record { modules = modules } } → answer reply after ≡ design_answer s modules
taken_design s after modules reply fine is state =
    ap (λ (r : Reply). answer r after) is
    ∙ ap (answer (ok_reply (ok_line (counted (codes "modules") (length modules))))) state
    ∙ sym (ap (λ (fs : List Fault). checked_answer s modules (first_answer fs)) fine)

-- the design that the check handed on is the one that it was given
pub accepted_design : (s after : State) (checked design : Design) (r : Result Reply Memory) → checked ≡ design
    → IfOk r (λ reply. answer reply after ≡ design_answer s checked.modules) → IfOk r (λ reply. answer reply after ≡ design_answer s design.modules)
accepted_design s after checked design (Ok reply) same is = is ∙ ap (λ (d : Design). design_answer s d.modules) same
accepted_design s after checked design (Err memory) same is = tt

-- a design with a fault is refused
pub refused_design : (s : State) (modules : List Module) (fault : CheckFault) (r : Result Reply Memory) → IsFirst fault (check_faults modules) → IfOk r (λ reply. fault ≢ check.Memory)
    → IfOk r (λ reply. reply ≡ error_reply (check_words fault)) → IfOk r (λ reply. answer reply s ≡ design_answer s modules)
refused_design s modules fault (Ok reply) first other is =
    ap (λ (r : Reply). answer r s) is ∙ sym (ap (checked_answer s modules) (first_is fault (check_faults modules) first other))
refused_design s modules fault (Err memory) first other is = tt

-- the answer to the design of a text is one to the text
pub loaded : (s after : State) (text : List ℕ) (design : Design) (r : Result Reply Memory) → Reads text design
    → IfOk r (λ reply. answer reply after ≡ design_answer s design.modules) → IfOk r (λ reply. IsLoadAnswer s text (answer reply after))
loaded s after text design (Ok reply) reads is = inl (design, reads, is)
loaded s after text design (Err memory) reads is = tt

pub edited : (s after : State) (text : List ℕ) (design : Design) (r : Result Reply Memory) → Reads text design
    → IfOk r (λ reply. IsEdited s text design (answer reply after)) → IfOk r (λ reply. IsEditAnswer s text (answer reply after))
edited s after text design (Ok reply) reads is = inl (design, reads, is)
edited s after text design (Err memory) reads is = tt

-- a text with a fault is refused
pub refused_load : (s : State) (text : List ℕ) (fault : ReadFault) (r : Result Reply Memory) → OnFault {X = Design} (Err fault) (IsFirstFault text) → IfOk r (λ reply. fault ≢ faults.Memory)
    → IfOk r (λ reply. reply ≡ error_reply (read_words fault)) → IfOk r (λ reply. IsLoadAnswer s text (answer reply s))
refused_load s text fault (Ok reply) first other is = inr (fault, is_first text fault first other, ap (λ (r : Reply). answer r s) is)
refused_load s text fault (Err memory) first other is = tt

pub refused_edit : (s : State) (text : List ℕ) (fault : ReadFault) (r : Result Reply Memory) → OnFault {X = Design} (Err fault) (IsFirstFault text) → IfOk r (λ reply. fault ≢ faults.Memory)
    → IfOk r (λ reply. reply ≡ error_reply (read_words fault)) → IfOk r (λ reply. IsEditAnswer s text (answer reply s))
refused_edit s text fault (Ok reply) first other is = inr (fault, is_first text fault first other, ap (λ (r : Reply). answer r s) is)
refused_edit s text fault (Err memory) first other is = tt

-- a script becomes the present one
pub taken_script : (s after : State) (words : List Word) (reply : Reply) → reply ≡ ok_reply (ok_line (counted (codes "script") (length words)))
    → after ≡ record s { script = words } → answer reply after ≡ script_answer_by s (Ok words)
taken_script s after words reply is state = ap (λ (r : Reply). answer r after) is ∙ ap (answer (ok_reply (ok_line (counted (codes "script") (length words))))) state

pub read_script : (s after : State) (text : List ℕ) (words : List Word) (r : Result Reply Memory) → script_of text ≡ Ok words
    → IfOk r (λ reply. answer reply after ≡ script_answer_by s (Ok words)) → IfOk r (λ reply. answer reply after ≡ script_answer s text)
read_script s after text words (Ok reply) reads is = is ∙ ap (script_answer_by s) (sym reads)
read_script s after text words (Err memory) reads is = tt

pub refused_script : (s : State) (text : List ℕ) (number : ℕ) (r : Result Reply Memory) → script_of text ≡ Err number
    → IfOk r (λ reply. reply ≡ error_reply (codes "19 " ++ decimal number)) → IfOk r (λ reply. answer reply s ≡ script_answer s text)
refused_script s text number (Ok reply) bad is = ap (λ (r : Reply). answer r s) is ∙ ap (script_answer_by s) (sym bad)
refused_script s text number (Err memory) bad is = tt

-- a module that is there is taken away
pub removed : (s after : State) (name : List ℕ) (at : ℕ) (reply : Reply) → place_named s.design.modules name ≡ Some at
    → answer reply after ≡ design_answer s (without_module s.design.modules name) → answer reply after ≡ remove_answer s name
removed s after name at reply there answered =
    answered ∙ sym (ap (λ (b : Bool). cond b (design_answer s (without_module s.design.modules name)) (refusal s (codes "18 " ++ name))) (has_one s.design.modules name at there))

-- the design without it has a fault
pub refused_removal : (s : State) (name : List ℕ) (at : ℕ) (fault : CheckFault) (r : Result Reply Memory) → place_named s.design.modules name ≡ Some at → IsFirst fault (check_faults (without_module s.design.modules name))
    → IfOk r (λ reply. fault ≢ check.Memory) → IfOk r (λ reply. reply ≡ error_reply (check_words fault)) → IfOk r (λ reply. answer reply s ≡ remove_answer s name)
refused_removal s name at fault (Err memory) there first other is = tt
refused_removal s name at fault (Ok reply) there first other is =
    removed s s name at reply there (refused_design s (without_module s.design.modules name) fault (Ok reply) first other is)

-- a module that is not there is an error
pub not_removed : (s : State) (name : List ℕ) (r : Result Reply Memory) → place_named s.design.modules name ≡ None
    → IfOk r (λ reply. reply ≡ error_reply (codes "18 " ++ name)) → IfOk r (λ reply. answer reply s ≡ remove_answer s name)
not_removed s name (Err memory) none answered = tt
not_removed s name (Ok reply) none answered =
    ap (λ (r : Reply). answer r s) answered
    ∙ sym (ap (λ (b : Bool). cond b (design_answer s (without_module s.design.modules name)) (refusal s (codes "18 " ++ name))) (has_none s.design.modules name none))

-- edits that leave a design without faults
pub taken_edits : (s after : State) (text : List ℕ) (edits : Design) (count : ℕ) (reply : Reply) → length (with_modules s.design.modules edits.modules) ≤ MAX_MODULES
    → check_faults (with_modules s.design.modules edits.modules) ≡ [] → count ≡ length (with_modules s.design.modules edits.modules)
    → reply ≡ ok_reply (ok_line (counted (codes "modules") count)) → after ≡ record s { design = record { modules = with_modules s.design.modules edits.modules } }
    → IsEdited s text edits (answer reply after)
taken_edits s after text edits count reply few fine many is state =
    inl (few, taken_design s after (with_modules s.design.modules edits.modules) reply fine (is ∙ ap (λ (n : ℕ). ok_reply (ok_line (counted (codes "modules") n))) many) state)

-- edits that are refused
pub refused_edits : (s : State) (text : List ℕ) (edits : Design) (fault : EditFault) (r : Result Reply Memory) → Reads text edits → IsEditFault s.design.modules edits.modules fault
    → IfOk r (λ reply. (items : List Seen) → AreItemsOf text items → IsEditReply items fault reply) → IfOk r (λ reply. IsEdited s text edits (answer reply s))
refused_edits s text edits fault (Err memory) reads why is = tt
refused_edits s text edits (edit.Past at) (Ok reply) reads why is =
    inr (at, items_of reads.uses, why, reads.tokens, ap (λ (r : Reply). answer r s) (is (items_of reads.uses) reads.tokens))
refused_edits s text edits (edit.Check fault) (Ok reply) reads (inl memory) is = absurd ((is (items_of reads.uses) reads.tokens).0 memory)
refused_edits s text edits (edit.Check fault) (Ok reply) reads (inr why) is =
    let told = is (items_of reads.uses) reads.tokens in
    inl (why.0, refused_design s (with_modules s.design.modules edits.modules) fault (Ok reply) why.1 told.0 told.1)

-- the edited design is such as a text can give
pub readable_edited : (text : List ℕ) (modules : List Module) (edits : Design) (all : List Module) → IsReadable (record { modules = modules }) → Reads text edits → all ≡ with_modules modules edits.modules → length all ≤ MAX_MODULES
    → IsReadable (record { modules = all })
readable_edited text modules edits all h reads are few =
    subst (λ (l : List Module). IsReadable (record { modules = l })) (sym are)
    (readable_edits modules edits.modules h (readable text edits reads) (subst (λ (l : List Module). length l ≤ MAX_MODULES) are few))
