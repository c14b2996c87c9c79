-- A design that is made: it becomes that of a desk, and the summary of its netlist is written.
use Rattle.std.proofs.Common.{◌≡◌, ℕ, ◌≤◌, List, [], Bool, true, false, Option, Some, None, Result, Ok, Err, length, take, refl, sym, ap, subst, ◌∙◌, true≢false}
use Rattle.std.specs.Prelude.{IfOk, OnErr, OnOk}
use Rattle.std.specs.Io.KnownBytes.{Appends, Keeps}
use Rattle.std.proofs.lemmas.List.FromFn.{length-map-range_with_len}
use Rattle.rtl_bits.specs.declared.memory.Memory.{Memory}
use Rattle.rtl_ir.specs.declared.module.Design.{Design}
use Rattle.rtl_ir.specs.Fault.{Fault}
use Rattle.rtl_readable.specs.Readable.{IsReadable}
use Rattle.rtl_check.specs.Finds.{first_answer}
use Rattle.generated_design.specs.Generate.{generated, generated_module}
use Rattle.generated_design.proofs.Faultless.{no_fault}
use Rattle.generated_design.proofs.Readable.{can_be_read}
use Rattle.script_core.specs.declared.word.Word.{Word}
use Rattle.script_core.specs.Words.{IsScript}
use Rattle.script_core.specs.Cold.{cold}
use Rattle.reply_lines.specs.declared.reply.Reply.{Reply}
use Rattle.reply_lines.specs.Lines.{ok_reply}
use Rattle.desk_core.specs.Answers.{checked_answer, design_answer}
use Rattle.build_crew.specs.Rises.{RisesUpTo}
use Rattle.desk_core.specs.Netlist.{built_count, built_words, netlist_of, over_words, unless_over}
use Rattle.desk_core.specs.State.{Answer, State, answer, first_state}
use Rattle.desk_core.specs.Summary.{cells_in, summary_answer, summary_line}
use Rattle.synth_run.specs.declared.program.Status.{Status}
use Rattle.synth_run.specs.declared.program.Status.TheVariants as statuses
use Rattle.synth_run.specs.declared.session.Stop.{Stop}
use Rattle.synth_run.specs.declared.session.Stop.TheVariants as halts
use Rattle.synth_run.specs.declared.words.Mode.TheVariants.{Generate}
use Rattle.synth_run.specs.Builds.{HasCounted}
use Rattle.synth_run.specs.Generated.{IsSummary, generated_said, generated_state}
use Rattle.synth_run.specs.Replies.{HasAnswered, HasBegun, HasRefined, status_of}
use Rattle.synth_run.proofs.Printing.{synthesis}
use Rattle.synth_run.proofs.Replying.{held_begins}
use Rattle.synth_run.proofs.Speaking.{appends_kept}
use Rattle.synth_run.proofs.Stepping.{IsGood}

-- ---- the desk

-- a generated design can be read, and is accepted
pub made_readable : (count : ℕ) (design : Design) → design ≡ generated count → count ≤ 4096 → IsReadable design
made_readable count design made few = subst IsReadable (sym made) (can_be_read count few)

pub made_state : (count : ℕ) (s after : State) (design : Design) (reply : Reply) → design ≡ generated count
    → answer reply after ≡ design_answer s design.modules → after ≡ record s { design = generated count }
made_state count s after design reply made is =
    ap (λ (a : Answer). a.after)
    (is ∙ ap (λ (d : Design). design_answer s d.modules) made
    ∙ ap (λ (faults : List Fault). checked_answer s (generated count).modules (first_answer faults)) (no_fault count))

-- so it is the design of a desk that had none
state_is : (script : List Word) (count : ℕ) (first s : State) → first ≡ first_state script → s ≡ record first { design = generated count } → s ≡ generated_state script count
state_is script count first s is made = made ∙ ap (λ (t : State). record t { design = generated count }) is

-- its summary
pub summary_found : (script : List Word) (count : ℕ) (first s after : State) (r : Result Reply Memory) → first ≡ first_state script → s ≡ record first { design = generated count }
    → IfOk r (λ reply. answer reply after ≡ summary_answer s) → IfOk r (λ reply. reply ≡ (summary_answer (generated_state script count)).reply)
summary_found script count first s after (Ok reply) is made said =
    ap (λ (a : Answer). a.reply) said ∙ ap (λ (t : State). (summary_answer t).reply) (state_is script count first s is made)
summary_found script count first s after (Err memory) is made said = tt

-- the builds for it
pub summary_rises : (script : List Word) (count : ℕ) (first s : State) (r : Result Reply Memory) (m n : ℕ) → first ≡ first_state script → s ≡ record first { design = generated count }
    → OnOk r (RisesUpTo (built_count s) m n) → OnOk r (RisesUpTo (built_count (generated_state script count)) m n)
summary_rises script count first s (Ok reply) m n is made rises = subst (λ (t : State). RisesUpTo (built_count t) m n) (state_is script count first s is made) rises
summary_rises script count first s (Err memory) m n is made rises = tt

-- ---- the netlist

good_generated : (script : List Word) (count : ℕ) → IsScript script → count ≤ 4096 → IsGood (generated_state script count)
good_generated script count is few = record { readable = can_be_read count few; faultless = no_fault count; script = is }

-- the netlist whose cells were counted is what is promised
pub summarised : (script : List Word) (count : ℕ) (reply : Reply) (had has : Option (List ℕ)) → IsScript script → count ≤ 4096
    → reply ≡ (summary_answer (generated_state script count)).reply → reply.error ≡ false → Appends had has reply.text → IsSummary script count had has
summarised script count reply had has good few is fine written = by (over_words s.design.modules (cold script s.design)) refl
  where
    s : State
    s = generated_state script count

    line : ℕ → List ℕ
    line modules = summary_line modules (built_words s) (cells_in (netlist_of s).modules)

    by : (o : Option (List ℕ)) → over_words s.design.modules (cold script s.design) ≡ o → IsSummary script count had has
    by None e = record {
      netlist = netlist_of s;
      written =
          subst (Appends had has)
          (ap (λ (r : Reply). r.text) (is ∙ ap (unless_over s (ok_reply (line (length s.design.modules)))) e)
          ∙ ap line (length-map-range_with_len generated_module 0 count))
          written;
      synthesis = synthesis s (good_generated script count good few) e;
    }
    by (Some words) e =
        let wrong : reply.error ≡ true = ap (λ (r : Reply). r.error) (is ∙ ap (unless_over s (ok_reply (line (length s.design.modules)))) e) in
        absurd (true≢false (sym wrong ∙ fine))

-- ---- what is told

module _ (script : List Word) (count : ℕ) (reply : Reply) (bytes : List ℕ) (had has : Option (List ℕ))
    (is : reply ≡ (summary_answer (generated_state script count)).reply) (same : bytes ≡ reply.text) where
  pub told : (r : Result Bool Stop) → IfOk r (λ e. (e ≡ reply.error) × Appends had has bytes)
      → IfOk r (λ e. Appends had has (generated_said script count).text × ((generated_said script count).error ≡ e))
  told (Ok e) t = (
    subst (Appends had has) (same ∙ ap (λ (x : Reply). x.text) is) t.1,
    sym (t.0 ∙ ap (λ (x : Reply). x.error) is),
  )
  told (Err stop) t = tt

  pub told_front : (r : Result Bool Stop) → (n : ℕ) × Appends had has (take n bytes) → OnErr r ((n : ℕ) × Appends had has (take n (generated_said script count).text))
  told_front (Ok e) front = tt
  told_front (Err stop) front = subst (λ (t : List ℕ). (n : ℕ) × Appends had has (take n t)) (same ∙ ap (λ (x : Reply). x.text) is) front

  pub told_netlist : (r : Result Bool Stop) → IsScript script → count ≤ 4096 → IfOk r (λ e. (e ≡ reply.error) × Appends had has bytes) → r ≡ Ok false → IsSummary script count had has
  told_netlist (Ok true) good few t e = absurd cc
  told_netlist (Ok false) good few t e = summarised script count reply had has good few is (sym t.0) (subst (Appends had has) same t.1)
  told_netlist (Err stop) good few t e = absurd cc

-- nothing is read
pub unread : (r : Result Bool Stop) (left : Option (List ℕ)) → OnOk r (left ≡ left)
unread (Ok error) left = refl
unread (Err stop) left = tt

-- nothing is a front of it
pub kept_front : (script : List Word) (count : ℕ) (had has : Option (List ℕ)) → Keeps had has → (n : ℕ) × Appends had has (take n (generated_said script count).text)
kept_front script count had has kept = (0, appends_kept had has kept)

-- ---- the call

module _ (script : List Word) (count : ℕ) (left had has : Option (List ℕ)) where
  pub answered : (r : Result Bool Stop) → IfOk r (λ e. Appends had has (generated_said script count).text × ((generated_said script count).error ≡ e))
      → IfOk r (λ error. HasAnswered (Generate count) script error left had has)
  answered (Ok error) t = (generated_said script count, refl, t.0, t.1)
  answered (Err stop) t = tt

  pub begun : (r : Result Bool Stop) → IfOk r (λ e. Appends had has (generated_said script count).text × ((generated_said script count).error ≡ e))
      → OnErr r ((n : ℕ) × Appends had has (take n (generated_said script count).text)) → HasBegun (Generate count) script left had has
  begun (Ok error) t front = (generated_said script count, refl, held_begins (generated_said script count) had has t.0)
  begun (Err stop) t front = (generated_said script count, refl, front)

  pub refined : (r : Result Bool Stop) (status : Status) → status ≡ status_of r → (r ≡ Ok false → IsSummary script count had has)
      → HasRefined (Generate count) status script [] had has
  refined (Ok false) status is summary = λ done. summary refl
  refined (Ok true) status is summary = λ done. let e : statuses.Refused ≡ statuses.Done = sym is ∙ done in absurd cc
  refined (Err halts.Source) status is summary = λ done. let e : statuses.ReadFault ≡ statuses.Done = sym is ∙ done in absurd cc
  refined (Err halts.Sink) status is summary = λ done. let e : statuses.WriteFault ≡ statuses.Done = sym is ∙ done in absurd cc
  refined (Err halts.Memory) status is summary = λ done. let e : statuses.Memory ≡ statuses.Done = sym is ∙ done in absurd cc

  pub counted : (r : Result Bool Stop) (status : Status) (m n : ℕ) → status ≡ status_of r
      → ((r ≡ Err halts.Memory → ⊥) → RisesUpTo (built_count (generated_state script count)) m n) → HasCounted (Generate count) status script left left m n
  counted r status m n is rises = λ other. rises (λ e. other (is ∙ ap status_of e))
