-- One text, by the replies of a desk to `load` and `print`.
use Rattle.std.proofs.Common.{◌≡◌, inl, inr, ℕ, zero, suc, ◌-◌, ◌<◌, List, [], ◌∷◌, ◌++◌, Bool, true, false, Option, Some, None, Result, Ok, Err, length, take, refl, sym, ap, subst, ◌∙◌, true≢false, append_assoc, arith}
use Rattle.std.specs.Prelude.{◌==◌, ◌&&◌, ◌/◌, ◌%◌, IfOk, not, codes, if◌then◌else◌}
use Rattle.std.specs.Fmt.{decimal, digit_glyph, digits, digits_onto}
use Rattle.std.specs.Io.KnownBytes.{Appends}
use Rattle.std.proofs.lemmas.Bool.Decides.{nat_tests}
use Rattle.rtl_ir.specs.declared.module.Design.{Design}
use Rattle.rtl_ir.specs.Faults.{check_faults}
use Rattle.rtl_read.specs.Reads.{Reads}
use Rattle.rtl_check.specs.declared.fault.CheckFault.{CheckFault}
use Rattle.rtl_check.specs.Finds.{first_answer}
use Rattle.rtl_write.specs.Text.{text_of}
use Rattle.rtl_write.proofs.Kept.{readable}
use Rattle.script_core.specs.declared.word.Word.{Word}
use Rattle.script_core.specs.Words.{IsScript}
use Rattle.script_core.specs.Cold.{cold}
use Rattle.desk_read.specs.declared.command.Command.TheVariants.{Load, Print}
use Rattle.reply_lines.specs.declared.reply.Reply.{Reply}
use Rattle.reply_lines.specs.Lines.{counted, ok_line}
use Rattle.desk_core.specs.Answers.{checked_answer, design_answer, print_answer, printed_reply}
use Rattle.rtl_bits.specs.Counts.{risen}
use Rattle.build_crew.specs.Rises.{RisesUpTo}
use Rattle.desk_core.proofs.Rises.{rises_more}
use Rattle.desk_core.specs.Netlist.{built_count, built_words, netlist_of, over_words, unless_over}
use Rattle.desk_core.specs.State.{Answer, State, answer, first_state}
use Rattle.desk_core.specs.Step.{IsStep}
use Rattle.synth_run.specs.Builds.{CountsBuilds}
use Rattle.synth_run.specs.Lines.{is_unended}
use Rattle.synth_run.specs.Refined.{IsRefinedBy}
use Rattle.synth_run.specs.Said.{Said, said_of}
use Rattle.synth_run.specs.Synth.{IsTextReply, after_line, checked_said, cold_said, design_said, fresh_state, netlist_said}
use Rattle.synth_run.specs.declared.session.Stop.{Stop}
use Rattle.synth_run.proofs.Cutting.{unended_line}
use Rattle.synth_run.proofs.LineLemmas.{unended_both}
use Rattle.synth_run.proofs.Printing.{synthesis}
use Rattle.synth_run.proofs.Stepping.{IsGood, no_fault}

-- ---- `load`

-- what a text is that was loaded without an error
pub record IsLoaded (script : List Word) (text : List ℕ) (after : State) : Type 0 where
  pub design : Design
  pub reads : Reads text design
  pub first : first_answer (check_faults design.modules) ≡ None
  pub state : after ≡ fresh_state script design

loaded_design : (script : List Word) (text : List ℕ) (design : Design) (reply : Reply) (after : State) → Reads text design
    → answer reply after ≡ design_answer (first_state script) design.modules → reply.error ≡ false → IsLoaded script text after
loaded_design script text design reply after reads is fine = by (first_answer (check_faults design.modules)) refl
  where
    by : (o : Option CheckFault) → first_answer (check_faults design.modules) ≡ o → IsLoaded script text after
    by None e = record {
      design = design;
      reads = reads;
      first = e;
      state = ap (λ (a : Answer). a.after) (is ∙ ap (checked_answer (first_state script) design.modules) e);
    }
    by (Some fault) e =
        let wrong : reply.error ≡ true = ap (λ (a : Answer). a.reply.error) (is ∙ ap (checked_answer (first_state script) design.modules) e) in
        absurd (true≢false (sym wrong ∙ fine))

pub loaded : (script : List Word) (text : List ℕ) (reply : Reply) (after : State) → IsStep (Load text) (first_state script) reply after → reply.error ≡ false → IsLoaded script text after
loaded script text reply after (inl (design, reads, is)) fine = loaded_design script text design reply after reads is fine
loaded script text reply after (inr (fault, first, is)) fine =
    let wrong : reply.error ≡ true = ap (λ (a : Answer). a.reply.error) is in
    absurd (true≢false (sym wrong ∙ fine))

refused_design : (script : List Word) (design : Design) (reply : Reply) (after : State) → answer reply after ≡ design_answer (first_state script) design.modules → reply.error ≡ true
    → said_of reply ≡ design_said script design
refused_design script design reply after is wrong = by (first_answer (check_faults design.modules)) refl
  where
    by : (o : Option CheckFault) → first_answer (check_faults design.modules) ≡ o → said_of reply ≡ design_said script design
    by None e =
        let fine : reply.error ≡ false = ap (λ (a : Answer). a.reply.error) (is ∙ ap (checked_answer (first_state script) design.modules) e) in
        absurd (true≢false (sym wrong ∙ fine))
    by (Some fault) e =
        ap (λ (a : Answer). said_of a.reply) (is ∙ ap (checked_answer (first_state script) design.modules) e) ∙ sym (ap (checked_said script design) e)

-- a text that was not taken has the reply of its first fault
pub refused : (script : List Word) (text : List ℕ) (reply : Reply) (after : State) → IsStep (Load text) (first_state script) reply after → reply.error ≡ true
    → IsTextReply script text (said_of reply)
refused script text reply after (inl (design, reads, is)) wrong = inl (design, reads, refused_design script design reply after is wrong)
refused script text reply after (inr (fault, first, is)) wrong = inr (fault, first, ap (λ (a : Answer). said_of a.reply) is)

-- ---- `print`

loaded_said : (script : List Word) (text : List ℕ) (after : State) (said : Said) → IsLoaded script text after → ((design : Design) → after ≡ fresh_state script design → said ≡ cold_said script design)
    → IsTextReply script text said
loaded_said script text after said l is = inl (l.design, l.reads, is l.design l.state ∙ sym (ap (checked_said script l.design) l.first))

-- a module passes a limit
pub over : (script : List Word) (text : List ℕ) (s t : State) (reply : Reply) → IsLoaded script text s → IsStep Print s reply t → reply.error ≡ true → IsTextReply script text (said_of reply)
over script text s t reply l is wrong = loaded_said script text s (said_of reply) l (λ design e.
    by design e (over_words design.modules (cold script design)) refl)
  where
    by : (design : Design) → s ≡ fresh_state script design → (o : Option (List ℕ)) → over_words design.modules (cold script design) ≡ o → said_of reply ≡ cold_said script design
    by design e o f =
        let f2 = fresh_state script design in
        let whole : reply ≡ unless_over f2 (printed_reply (built_words f2) (text_of (netlist_of f2))) o =
        ap (λ (a : Answer). a.reply) is ∙ ap (λ (x : State). (print_answer x).reply) e ∙ ap (unless_over f2 (printed_reply (built_words f2) (text_of (netlist_of f2)))) f in
        by_over design o f whole
      where
        by_over : (design : Design) (o : Option (List ℕ)) → over_words design.modules (cold script design) ≡ o
            → reply ≡ unless_over (fresh_state script design) (printed_reply (built_words (fresh_state script design)) (text_of (netlist_of (fresh_state script design)))) o
            → said_of reply ≡ cold_said script design
        by_over design None f whole =
            let fine : reply.error ≡ false = ap (λ (r : Reply). r.error) whole in
            absurd (true≢false (sym wrong ∙ fine))
        by_over design (Some words) f whole = ap said_of whole ∙ sym (ap (netlist_said (fresh_state script design)) f)

-- ---- the first line of a printed reply

glyph_unended : (n : ℕ) → (digit_glyph false (n % 10) == 10) ≡ false
glyph_unended n = let low : n % 10 < 10 = omega arith in grind (arith, nat_tests)

digits_unended : (k n : ℕ) (acc : List ℕ) → is_unended acc ≡ true → is_unended (digits_onto k 10 false n acc) ≡ true
digits_unended zero n acc h = h
digits_unended (suc k) n acc h =
    let more : is_unended (digit_glyph false (n % 10) ∷ acc) ≡ true = ap (λ (t : Bool). not t && is_unended acc) (glyph_unended n) ∙ h in
    by (n / 10 == 0) more (digits_unended k (n / 10) (digit_glyph false (n % 10) ∷ acc))
  where
    by : (t : Bool) → is_unended (digit_glyph false (n % 10) ∷ acc) ≡ true
        → (is_unended (digit_glyph false (n % 10) ∷ acc) ≡ true → is_unended (digits_onto k 10 false (n / 10) (digit_glyph false (n % 10) ∷ acc)) ≡ true)
        → is_unended (if t then digit_glyph false (n % 10) ∷ acc else digits_onto k 10 false (n / 10) (digit_glyph false (n % 10) ∷ acc)) ≡ true
    by true more rest = more
    by false more rest = rest more

decimal_unended : (n : ℕ) → is_unended (decimal n) ≡ true
unfolding digits
decimal_unended n = digits_unended 64 n [] refl

counted_unended : (word : List ℕ) (n : ℕ) → is_unended word ≡ true → is_unended (counted word n) ≡ true
counted_unended word n h =
    unended_both (codes " " ++ word ++ codes " ") (decimal n)
    (unended_both (codes " " ++ word) (codes " ") (unended_both (codes " ") word refl h) refl) (decimal_unended n)

built_unended : (s : State) → is_unended (built_words s) ≡ true
built_unended s =
    unended_both (counted (codes "built") (built_count s)) (counted (codes "reused") (length s.design.modules - built_count s))
    (counted_unended (codes "built") (built_count s) refl) (counted_unended (codes "reused") (length s.design.modules - built_count s) refl)

after_printed : (s : State) (text : List ℕ) → after_line (printed_reply (built_words s) text).text ≡ text
after_printed s text =
    let words = built_words s ++ counted (codes "bytes") (length text) in
    let whole : is_unended (codes "ok" ++ words) ≡ true =
    unended_both (codes "ok") words refl (unended_both (built_words s) (counted (codes "bytes") (length text)) (built_unended s) (counted_unended (codes "bytes") (length text) refl)) in
    let cut : ok_line words ++ text ≡ (codes "ok" ++ words) ++ 10 ∷ text =
    append_assoc (codes "ok") (words ++ codes "\n") text ∙ ap (λ (l : List ℕ). codes "ok" ++ l) (append_assoc words (codes "\n") text) ∙ sym (append_assoc (codes "ok") words (10 ∷ text)) in
    ap after_line cut ∙ unended_line (codes "ok" ++ words) text whole

-- ---- the netlist

-- what was printed: no module passes a limit, and behind its first line the reply is the netlist's text
pub record IsWritten (script : List Word) (design : Design) (reply : Reply) : Type 0 where
  pub none : over_words design.modules (cold script design) ≡ None
  pub text : after_line reply.text ≡ text_of (netlist_of (fresh_state script design))

written : (script : List Word) (design : Design) (s t : State) (reply : Reply) → s ≡ fresh_state script design → IsStep Print s reply t → reply.error ≡ false → IsWritten script design reply
written script design s t reply e is fine = by (over_words design.modules (cold script design)) refl
  where
    f : State
    f = fresh_state script design

    reply_is : reply ≡ (print_answer f).reply
    reply_is = ap (λ (a : Answer). a.reply) is ∙ ap (λ (x : State). (print_answer x).reply) e

    by : (o : Option (List ℕ)) → over_words design.modules (cold script design) ≡ o → IsWritten script design reply
    by None g = record {
      none = g;
      text =
          ap (λ (r : Reply). after_line r.text) (reply_is ∙ ap (unless_over f (printed_reply (built_words f) (text_of (netlist_of f)))) g)
          ∙ after_printed f (text_of (netlist_of f));
    }
    by (Some words) g =
        let wrong : reply.error ≡ true = ap (λ (r : Reply). r.error) (reply_is ∙ ap (unless_over f (printed_reply (built_words f) (text_of (netlist_of f)))) g) in
        absurd (true≢false (sym wrong ∙ fine))

-- its text is the reply to the text
pub written_said : (script : List Word) (text : List ℕ) (s t : State) (reply : Reply) → IsLoaded script text s → IsStep Print s reply t → reply.error ≡ false
    → IsTextReply script text (record { text = after_line reply.text; error = false })
written_said script text s t reply l is fine =
    let w = written script l.design s t reply l.state is fine in
    loaded_said script text s (record { text = after_line reply.text; error = false }) l (λ design e.
    let v = written script design s t reply e is fine in
    ap (λ (b : List ℕ). record { text = b; error = false }) v.text ∙ sym (ap (netlist_said (fresh_state script design)) v.none))

good_loaded : (script : List Word) (text : List ℕ) (s : State) → IsScript script → (l : IsLoaded script text s) → IsGood (fresh_state script l.design)
good_loaded script text s is l = record {
  readable = readable text l.design l.reads;
  faultless = no_fault (check_faults l.design.modules) l.first;
  script = is;
}

-- the netlist that was written is what is promised
pub refined : (script : List Word) (text : List ℕ) (s t : State) (reply : Reply) (had has : Option (List ℕ)) → IsScript script → IsLoaded script text s → IsStep Print s reply t
    → reply.error ≡ false → Appends had has (after_line reply.text) → IsRefinedBy script text had has
refined script text s t reply had has good l is fine written_text =
    let w = written script l.design s t reply l.state is fine in
    record {
      design = l.design;
      netlist = netlist_of (fresh_state script l.design);
      reads = l.reads;
      written = subst (Appends had has) w.text written_text;
      synthesis = synthesis (fresh_state script l.design) (good_loaded script text s good l) w.none;
    }

-- ---- builds

pub built_loaded : (script : List Word) (text : List ℕ) (s : State) (m n o : ℕ) → IsLoaded script text s → RisesUpTo 0 m n → RisesUpTo (built_count s) n o → CountsBuilds script text m o
built_loaded script text s m n o l f g = inr (record {
  design = l.design;
  reads = l.reads;
  faultless = no_fault (check_faults l.design.modules) l.first;
  builds = rises_more 0 (built_count (fresh_state script l.design)) (built_count (fresh_state script l.design)) m n o f (subst (λ (x : State). RisesUpTo (built_count x) n o) l.state g) (omega arith);
})

rises_same : (m n : ℕ) → RisesUpTo 0 m n → n ≡ m
rises_same m n f =
    let none : f.steps ≡ 0 = omega (arith, f.few) in
    let back : risen m 0 ≡ m = omega arith in
    f.risen ∙ ap (risen m) none ∙ back

pub built_none : (script : List Word) (text : List ℕ) (m n : ℕ) → RisesUpTo 0 m n → CountsBuilds script text m n
built_none script text m n f = inl (rises_same m n f)

-- ---- what is told

module _ (script : List Word) (text : List ℕ) (said : Said) (bytes : List ℕ) (had has : Option (List ℕ)) (reply : IsTextReply script text said) (same : bytes ≡ said.text) where
  pub told : (error : Bool) (r : Result Bool Stop) → said.error ≡ error → IfOk r (λ e. (e ≡ error) × Appends had has bytes)
      → IfOk r (λ e. (said : Said) × IsTextReply script text said × Appends had has said.text × (said.error ≡ e))
  told error (Ok e) is t = (said, reply, subst (Appends had has) same t.1, is ∙ sym t.0)
  told error (Err stop) is t = tt

  pub told_front : (n : ℕ) × Appends had has (take n bytes) → (said : Said) × IsTextReply script text said × ((n : ℕ) × Appends had has (take n said.text))
  told_front front = (said, reply, subst (λ (t : List ℕ). (n : ℕ) × Appends had has (take n t)) same front)

-- what was told whole
pub told_whole : (bytes : List ℕ) (had has : Option (List ℕ)) (error e : Bool) (r : Result Bool Stop) → r ≡ Ok e → IfOk r (λ e. (e ≡ error) × Appends had has bytes) → Appends had has bytes
told_whole bytes had has error e (Ok other) is t = t.1
told_whole bytes had has error e (Err stop) is t = absurd cc
