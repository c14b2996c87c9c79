-- Replies by what is told where the netlist is needed.
use Rattle.std.proofs.Common.{◌≡◌, ℕ, ◌-◌, ◌≤◌, List, ◌++◌, Option, Some, None, Result, Ok, Err, length, refl, sym, ap, subst, ◌∙◌}
use Rattle.std.specs.Prelude.{IfOk, OnErr, OnOk, codes}
use Rattle.rtl_bits.specs.declared.memory.Memory.{Memory}
use Rattle.rtl_ir.specs.declared.module.Design.{Design}
use Rattle.rtl_write.specs.Text.{text_of}
use Rattle.result_cache.specs.Filled.{new_count}
use Rattle.rtl_sig.specs.Names.{has_name}
use Rattle.script_core.specs.declared.outcome.Outcome.{Outcome}
use Rattle.script_core.specs.declared.word.Word.{Word}
use Rattle.script_core.specs.Cold.{cold}
use Rattle.reply_lines.specs.declared.reply.Reply.{Reply}
use Rattle.reply_lines.specs.Lines.{counted, error_reply, ok_line, ok_reply}
use Rattle.desk_core.specs.declared.ages.Ages.{Ages}
use Rattle.desk_core.specs.declared.results.Results.{Results}
use Rattle.desk_core.specs.declared.runs.Told.{Told}
use Rattle.desk_core.specs.declared.runs.Told.TheVariants.{Built, Over}
use Rattle.desk_core.specs.Answers.{print_answer, printed_reply, run_answer}
use Rattle.result_cache.specs.Seats.{Seated}
use Rattle.build_crew.specs.Kept.{kept_by}
use Rattle.build_crew.specs.Rises.{RisesUpTo}
use Rattle.desk_core.specs.Builds.{BuildsOrReturns, HasClaims, KeepsAll, present_keys}
use Rattle.desk_core.specs.Netlist.{all_kept, built_count, built_words, done_modules, key_texts, netlist_answer, netlist_of, over_words, unless_over}
use Rattle.desk_core.specs.Results.{AreFound, AreSound, over_of, state_of, view_of}
use Rattle.desk_core.specs.Ages.{AreYoung, kept_after, kept_in, texts_of}
use Rattle.desk_core.specs.State.{DeskView, KeptKey, State, answer}
use Rattle.desk_core.specs.Told.{told_by, told_of}
use Rattle.desk_core.proofs.Ended.{fewer_new}
use Rattle.desk_core.proofs.Outcomes.{over_cold}

-- where it is told what was built, no module passes a limit
pub reply_built : (s : State) (f : List ℕ → Reply) (words : List ℕ) (over : Option (List ℕ)) → Built words ≡ told_by (built_words s) over → f words ≡ unless_over s (f (built_words s)) over
reply_built s f words None h = let e : words ≡ built_words s = cc in ap f e
reply_built s f words (Some o) h = absurd cc

pub none_over_built : (s : State) (words : List ℕ) (over : Option (List ℕ)) → Built words ≡ told_by (built_words s) over → over ≡ None
none_over_built s words None h = refl
none_over_built s words (Some o) h = absurd cc

-- where the words of an error are told, the reply is that error
pub reply_over : (s : State) (reply : Reply) (words : List ℕ) (over : Option (List ℕ)) → Over words ≡ told_by (built_words s) over → error_reply words ≡ unless_over s reply over
reply_over s reply words None h = absurd cc
reply_over s reply words (Some o) h = let e : words ≡ o ++ built_words s = cc in ap error_reply e

-- what is told of results that are found
pub told_is : (s : State) (words : List ℕ) (over : Option (List ℕ)) (built : ℕ) (r : Result Told Memory) → IfOk r (λ told. told ≡ told_by words over)
    → words ≡ counted (codes "built") built ++ counted (codes "reused") (length s.design.modules - built) → built ≡ built_count s
    → over ≡ over_words s.design.modules (cold s.script s.design) → IfOk r (λ told. told ≡ told_of s)
told_is s words over built (Err memory) is are count first = tt
told_is s words over built (Ok told) is are count first =
    is ∙ ap (λ (w : List ℕ). told_by w over) (are ∙ ap (λ (b : ℕ). counted (codes "built") b ++ counted (codes "reused") (length s.design.modules - b)) count)
    ∙ ap (told_by (built_words s)) first

pub told_over : (design : Design) (script : List Word) (results : Results) (over : Option (List ℕ)) → AreSound design script results → AreFound results.found.items → over ≡ over_of design.modules results.found.items
    → over ≡ over_words design.modules (cold script design)
told_over design script results over sound found is = is ∙ over_cold design script results sound found

-- the reply to `run` where it is told what was built
pub run_told : (told : Told) (words : List ℕ) (r : Result Reply Memory) → told ≡ Built words → IfOk r (λ reply. reply ≡ ok_reply (ok_line words))
    → IfOk r (λ reply. (s : State) → told ≡ told_of s → reply ≡ (run_answer s).reply)
run_told told words (Err memory) built is = tt
run_told told words (Ok reply) built is = λ s same. is ∙ reply_built s (λ w. ok_reply (ok_line w)) words (over_words s.design.modules (cold s.script s.design)) (sym built ∙ same)

-- the reply to `print`
pub print_told : (told : Told) (words : List ℕ) (outcomes : List Outcome) (r : Result Reply Memory) → told ≡ Built words
    → IfOk r (λ reply. reply ≡ printed_reply words (text_of (record { modules = done_modules outcomes })))
    → IfOk r (λ reply. (s : State) → told ≡ told_of s → outcomes ≡ cold s.script s.design → reply ≡ (print_answer s).reply)
print_told told words outcomes (Err memory) built is = tt
print_told told words outcomes (Ok reply) built is = λ s same are.
    is ∙ ap (λ (os : List Outcome). printed_reply words (text_of (record { modules = done_modules os }))) are
    ∙ reply_built s (λ w. printed_reply w (text_of (netlist_of s))) words (over_words s.design.modules (cold s.script s.design)) (sym built ∙ same)

-- where the words of an error are told, that error is the reply to each command that needs the netlist
pub over_told : (told : Told) (words : List ℕ) (r : Result Reply Memory) → told ≡ Over words → IfOk r (λ reply. reply ≡ error_reply words)
    → IfOk r (λ reply. (s : State) (other : Reply) → told ≡ told_of s → reply ≡ (netlist_answer s other).reply)
over_told told words (Err memory) over is = tt
over_told told words (Ok reply) over is = λ s other same. is ∙ reply_over s other words (over_words s.design.modules (cold s.script s.design)) (sym over ∙ same)

-- the answer by its reply and the state after it
pub answered : (s after : State) (reply other : Reply) → reply ≡ (netlist_answer s other).reply → after ≡ all_kept s → answer reply after ≡ netlist_answer s other
answered s after reply other is state = ap (λ (r : Reply). answer r after) is ∙ ap (answer (netlist_answer s other).reply) state

-- what a command that finds no memory leaves
pub keeps_all : (design : Design) (script : List Word) (old new : Results) → state_of design script new ≡ state_of design script old → KeepsAll (state_of design script old) (state_of design script new)
keeps_all design script old new same = record { design = refl; script = refl; kept = ap (λ (s : State). s.kept) same }

pub keeps_same : (before after : State) → after ≡ before → KeepsAll before after
keeps_same before after same = subst (KeepsAll before) (sym same) record { design = refl; script = refl; kept = refl }

-- results of which only the table of keys grew, by keys without an age
module _ (design : Design) (script : List Word) (old : Results) (ages : Ages) (same : kept_in ages.keys ages.ages.items ≡ kept_in old.ages.keys old.ages.ages.items) where
  pub grown_sound : AreSound design script old → length ages.ages.items ≡ length ages.keys → (AreYoung old.ages.ages.items → AreYoung ages.ages.items) → AreSound design script (record old { ages = ages })
  grown_sound h beside young = record {
    readable = h.readable;
    idle = h.idle;
    aged = record {
      beside = beside;
      kept = λ q is. h.aged.kept q (ap (λ (kept : List KeptKey). has_name (texts_of kept) q) (sym same) ∙ is);
      young = young h.aged.young;
    };
    beside = h.beside;
    own = h.own;
  }

  pub grown_state : (new : Results) → new.ages ≡ ages → state_of design script new ≡ state_of design script old
  grown_state new is =
      ap (λ (kept : List KeptKey). record { design = design; script = script; kept = kept }) (ap (λ (a : Ages). kept_in a.keys a.ages.items) is ∙ same)

-- no more is built than was not kept
pub built_more : (design : Design) (script : List Word) (results : Results) → AreSound design script results
    → new_count (kept_by results.seats.items) (key_texts script design.modules) ≤ built_count (state_of design script results)
built_more design script results h =
    fewer_new (texts_of (kept_in results.ages.keys results.ages.ages.items)) (kept_by results.seats.items) (key_texts script design.modules) h.aged.kept

-- what holds of the parts of a desk holds of what contracts see of it
module _ (design : Design) (script : List Word) (old : Results) (v : DeskView) (is : view_of design script old ≡ v) where
  pub claims_seen : (news : List Seated) → HasClaims (key_texts script design.modules) old.seats.items news → HasClaims (present_keys v.state) v.seats news
  claims_seen news h = subst (λ (w : DeskView). HasClaims (present_keys w.state) w.seats news) is h

  pub ticks_seen : (m n : ℕ) → RisesUpTo (built_count (state_of design script old)) m n → RisesUpTo (built_count v.state) m n
  ticks_seen m n h = subst (λ (w : DeskView). RisesUpTo (built_count w.state) m n) is h

  pub returns_seen : (news : List Seated) (m n : ℕ) → BuildsOrReturns (built_count (state_of design script old)) old.seats.items news m n
      → BuildsOrReturns (built_count v.state) v.seats news m n
  returns_seen news m n h = subst (λ (w : DeskView). BuildsOrReturns (built_count w.state) w.seats news m n) is h

-- what holds anyhow holds after an answer
pub on_ok : {T P : Type 0} (r : Result T Memory) → P → OnOk r P
on_ok (Ok value) p = p
on_ok (Err memory) p = tt

-- what holds anyhow holds after an error
pub on_err : {T P : Type 0} (r : Result T Memory) → P → OnErr r P
on_err (Ok value) p = tt
on_err (Err memory) p = p
