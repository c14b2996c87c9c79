-- What the pass of each word keeps.
use Rattle.std.proofs.Common.{◌≡◌, ◌⊎◌, ⊎_elim, ℕ, zero, suc, Bool, true, false, cond, Option, Some, None, List, [], ◌∷◌, inl, inr, refl, sym, ◌∙◌, ap, subst}
use Rattle.rtl_ir.specs.Flat.Tree as flat
use Rattle.rtl_ir.specs.Types.{Ports, table_ports}
use Rattle.rtl_ir.specs.declared.module.Module.{Module}
use Rattle.rtl_ir.specs.declared.ports.PortTable.{PortTable}
use Rattle.net_index.specs.Builder.{IsInLimits}
use Rattle.rtl_ir.specs.declared.process.Process.{Process}
use Rattle.rtl_ir.specs.declared.store.Store.{Store}
use Rattle.net_model.specs.Lists.{Distinct}
use Rattle.pass_laws.specs.OwnNames.{HaveOwnNames}
use Rattle.fsm_steps.specs.Within.{fsm_within}
use Rattle.fsm_steps.proofs.Giving.{fsm_gives}
use Rattle.mem_steps.specs.Within.{memory_within}
use Rattle.mem_steps.proofs.Giving.{memory_gives}
use Rattle.std.specs.Prelude.{map}
use Rattle.proc_laws.proofs.Turns.{step_passes}
use Rattle.pass_laws.specs.Pass.{IsPass}
use Rattle.pass_laws.proofs.Faultless.{plain}
use Rattle.pass_laws.proofs.Passes.{IsPass_refl, IsPass_trans}
use Rattle.opt_expr.specs.Sweep.{expr_of}
use Rattle.opt_merge.specs.Merge.{merge_of}
use Rattle.opt_clean.specs.Clean.{clean_of}
use Rattle.opt_rounds.specs.Rounds.{opt_of, round_of, rounds_of}
use Rattle.opt_expr.proofs.Sweeping.{expr_passes}
use Rattle.opt_merge.proofs.Refining.{merge_pass}
use Rattle.opt_clean.proofs.Cleaning.{clean_pass}
use Rattle.opt_rounds.proofs.Rounding.{opt_pass, pass_driven}
use Rattle.opt_more.specs.Dff.{dff_of}
use Rattle.opt_more.specs.Muxtree.{muxtree_of}
use Rattle.opt_more.specs.Reduce.{reduce_of}
use Rattle.opt_more.proofs.DffSweeping.{dff_is_pass}
use Rattle.opt_more.proofs.MuxSweeping.{muxtree_is_pass}
use Rattle.opt_more.proofs.Sweeping.{reduce_is_pass}
use Rattle.tech_map.specs.Techmap.{beside, techmap_of}
use Rattle.tech_map.proofs.Forming.{takable}
use Rattle.tech_map.proofs.Promised.{techmap_passes}
use Rattle.tech_map.proofs.Standing.{swapped_is}
use Rattle.script_core.specs.declared.outcome.Outcome.TheVariants.{Done}
use Rattle.script_core.specs.declared.word.Word.{Word}
use Rattle.script_core.specs.declared.word.Word.TheVariants.{Proc, OptExpr, OptMerge, OptClean, Opt, Fsm, Memory, Techmap, Muxtree, Reduce, Dff, Flatten}
use Rattle.script_core.specs.Words.{IsScript}
use Rattle.script_core.specs.Fold.{pass_of, after_word, fold_words, AfterWord, AreApplicable, StartsWithProc, MayBeGiven, MayGoOn, MayStart}
use Rattle.proc_steps.specs.Limits.{is_within}
use Rattle.proc_steps.specs.Steps.{proc_result, proc_within}
use Rattle.proc_steps.proofs.Limits.{within_limits}
use Rattle.proc_steps.proofs.Giving.{proc_gives, stays}

-- what the pass of a word gives: it is a pass, its module may be given on, and has the same memories or none
pub record GoesOn (table : PortTable) (m n : Module) : Type 0 where
  pub pass : IsPass table m n
  pub next : MayGoOn table n
  pub stores : (n.memories ≡ m.memories) ⊎ (n.memories ≡ [])

-- where there was no memory there is none
pub still_none : (table : PortTable) (m n : Module) → GoesOn table m n → m.memories ≡ [] → n.memories ≡ []
still_none table m n g e = ⊎_elim (λ same. same ∙ e) (λ none. none) g.stores

-- the same memories have the same names
same_names : (m n : Module) → n.memories ≡ m.memories → HaveOwnNames m → HaveOwnNames n
same_names m n e named = subst (λ (ss : List Store). Distinct (map (λ (s : Store). s.name) ss)) (sym e) named

-- a pass that keeps the memories
goes : (table : PortTable) (m n : Module) → MayGoOn table m → IsPass table m n → n.memories ≡ m.memories → GoesOn table m n
goes table m n h pass e =
    record {
      pass = pass;
      next = record { ready = pass.ready h.ready; driven = pass_driven table m n pass h.driven; named = same_names m n e h.named };
      stores = inl e;
    }

goes_to : (table : PortTable) (m k n : Module) → GoesOn table m k → Some k ≡ Some n → GoesOn table m n
goes_to table m k n g e = let same : k ≡ n = cc in subst (GoesOn table m) same g

-- ---- the memories stay

clean_stores : (ports : Ports) (m : Module) → (clean_of ports m).memories ≡ m.memories
clean_stores ports m = refl

round_stores : (ports : Ports) (m : Module) → (round_of ports m).memories ≡ m.memories
unfolding round_of
round_stores ports m = clean_stores ports (merge_of (expr_of ports m))

rounds_stores : (ports : Ports) (n : ℕ) (m : Module) → (rounds_of ports n m).memories ≡ m.memories
unfolding rounds_of
rounds_stores ports zero m = refl
rounds_stores ports (suc n) m = rounds_stores ports n (round_of ports m) ∙ round_stores ports m

opt_stores : (ports : Ports) (m : Module) → (opt_of ports m).memories ≡ m.memories
unfolding opt_of
opt_stores ports m = rounds_stores ports 32 m

-- ---- the words

-- `techmap` within the limits
techmap_goes : (table : PortTable) (m : Module) → MayGoOn table m → IsInLimits (beside m) → GoesOn table m (techmap_of m)
techmap_goes table m h limits =
    goes table m (techmap_of m) h (techmap_passes table m h.ready limits)
    (ap (λ (n : Module). n.memories) (swapped_is m (takable (table_ports table.modules) m h.ready)))

-- `memory` leaves none
memory_goes : (table : PortTable) (m n : Module) → MayGoOn table m → memory_within m ≡ Some n → GoesOn table m n
memory_goes table m n h e =
    let all = memory_gives table m h.ready h.named n e in
    record {
      pass = all.pass;
      next = record {
        ready = all.pass.ready h.ready;
        driven = pass_driven table m n all.pass h.driven;
        named = subst (λ (ss : List Store). Distinct (map (λ (s : Store). s.name) ss)) (sym all.memories) tt;
      };
      stores = inr all.memories;
    }

-- `fsm` keeps the memories
fsm_goes : (table : PortTable) (m n : Module) → MayGoOn table m → fsm_within (table_ports table.modules) m ≡ Some n → GoesOn table m n
fsm_goes table m n h e =
    let all = fsm_gives table m h.ready n e in
    goes table m n h all.pass all.memories

no_process : (table : PortTable) (m n : Module) (p : Process) (ps : List Process) → m.processes ≡ p ∷ ps → MayGoOn table m → GoesOn table m n
no_process table m n p ps e h = let none = (plain (table_ports table.modules) m h.ready.faultless).processes in absurd cc

stays_on : (table : PortTable) (m : Module) → m.processes ≡ [] → MayStart table m → GoesOn table m m
stays_on table m e h =
    let g = stays table m h.begins e in
    record { pass = step_passes table m m g.step g.ready; next = record { ready = g.ready; driven = h.driven; named = h.named }; stores = inl refl }

proc_goes : (table : PortTable) (m n : Module) → MayStart table m → proc_result (table_ports table.modules) m ≡ Some n → GoesOn table m n
proc_goes table m n h e =
    let g = proc_gives table m n h.begins e in
    record {
      pass = step_passes table m n g.step g.ready;
      next = record { ready = g.ready; driven = g.step.driven (flat.table_ports table) h.driven; named = same_names m n g.stores h.named };
      stores = inl g.stores;
    }

proc_word : (table : PortTable) (m n : Module) → MayBeGiven table Proc m → proc_within (table_ports table.modules) m m.processes ≡ Some n → GoesOn table m n
proc_word table m n h e = by m.processes refl h e
  where
    by : (ps : List Process) → m.processes ≡ ps → MayBeGiven table Proc m → proc_within (table_ports table.modules) m ps ≡ Some n → GoesOn table m n
    by [] f (inr k) g = goes_to table m m n (record { pass = IsPass_refl table m; next = k; stores = inl refl }) g
    by [] f (inl k) g = goes_to table m m n (stays_on table m f k) g
    by (p ∷ ps) f (inr k) g = no_process table m n p ps f k
    by (p ∷ ps) f (inl k) g = proc_goes table m n k g

-- a word
pub word_goes : (table : PortTable) (word : Word) (m n : Module) → MayBeGiven table word m → pass_of table word m ≡ Some n → GoesOn table m n
word_goes table Proc m n h e = proc_word table m n h e
word_goes table OptExpr m n h e = goes_to table m (expr_of (table_ports table.modules) m) n (goes table m _ h (expr_passes table m h.ready) refl) e
word_goes table OptMerge m n h e = goes_to table m (merge_of m) n (goes table m _ h (merge_pass table m h.ready) refl) e
word_goes table OptClean m n h e =
    goes_to table m (clean_of (table_ports table.modules) m) n (goes table m _ h (clean_pass table m h.ready) (clean_stores (table_ports table.modules) m)) e
word_goes table Opt m n h e =
    goes_to table m (opt_of (table_ports table.modules) m) n (goes table m _ h (opt_pass table m h.ready) (opt_stores (table_ports table.modules) m)) e
word_goes table Fsm m n h e = fsm_goes table m n h e
word_goes table Memory m n h e = memory_goes table m n h e
word_goes table Muxtree m n h e =
    goes_to table m (muxtree_of (table_ports table.modules) m) n (goes table m _ h (muxtree_is_pass table m h.ready) refl) e
word_goes table Reduce m n h e =
    goes_to table m (reduce_of (table_ports table.modules) m) n (goes table m _ h (reduce_is_pass table m h.ready) refl) e
word_goes table Dff m n h e =
    goes_to table m (dff_of (table_ports table.modules) m) n (goes table m _ h (dff_is_pass table m h.ready) refl) e
word_goes table Flatten m n h e = goes_to table m m n (record { pass = IsPass_refl table m; next = h; stores = inl refl }) e
word_goes table Techmap m n h e = by (is_within (beside m)) refl e
  where
    by : (t : Bool) → is_within (beside m) ≡ t → cond t (Some (techmap_of m)) None ≡ Some n → GoesOn table m n
    by true w f = goes_to table m (techmap_of m) n (techmap_goes table m h (within_limits (beside m) w)) f
    by false w f = absurd cc

-- what may be given to each pass may be given to that of a word
pub given_word : (table : PortTable) (word : Word) (m : Module) → MayGoOn table m → MayBeGiven table word m
given_word table Proc m h = inr h
given_word table OptExpr m h = h
given_word table OptMerge m h = h
given_word table OptClean m h = h
given_word table Opt m h = h
given_word table Fsm m h = h
given_word table Memory m h = h
given_word table Techmap m h = h
given_word table Muxtree m h = h
given_word table Reduce m h = h
given_word table Dff m h = h
given_word table Flatten m h = h

-- words may be applied to a module that may be given to each pass, and make of it what one pass could
module _ (table : PortTable) where
  behind : (w : Word) (ws : List Word) (m : Module) → MayBeGiven table w m → ((n : Module) → MayGoOn table n → AreApplicable ws table n) → AfterWord (AreApplicable ws table) (pass_of table w m)
  behind w ws m given rest = by (pass_of table w m) refl
    where
      by : (o : Option Module) → pass_of table w m ≡ o → AfterWord (AreApplicable ws table) o
      by None e = tt
      by (Some n) e = rest n (word_goes table w m n given e).next

  pub applicable_from : (words : List Word) (m : Module) → MayGoOn table m → AreApplicable words table m
  applicable_from [] m h = tt
  applicable_from (w ∷ ws) m h = (given_word table w m h, behind w ws m (given_word table w m h) (λ n k. applicable_from ws n k))

  then_pass : (w : Word) (ws : List Word) (m n : Module) → MayBeGiven table w m → ((k : Module) → MayGoOn table k → fold_words ws table k ≡ Done n → IsPass table k n) → fold_words (w ∷ ws) table m ≡ Done n → IsPass table m n
  then_pass w ws m n given rest e = by (pass_of table w m) refl e
    where
      by : (o : Option Module) → pass_of table w m ≡ o → after_word w (fold_words ws table) o ≡ Done n → IsPass table m n
      by None f g = absurd cc
      by (Some k) f g =
          let first = word_goes table w m k given f in
          IsPass_trans table m k n first.pass (rest k first.next g)

  pub passes_from : (words : List Word) (m n : Module) → MayGoOn table m → fold_words words table m ≡ Done n → IsPass table m n
  passes_from [] m n h e = let same : m ≡ n = cc in subst (IsPass table m) same (IsPass_refl table m)
  passes_from (w ∷ ws) m n h e = then_pass w ws m n (given_word table w m h) (λ k r f. passes_from ws k n r f) e

  -- and may still be given to each pass
  then_leaves : (w : Word) (ws : List Word) (m n : Module) → MayBeGiven table w m → ((k : Module) → MayGoOn table k → fold_words ws table k ≡ Done n → MayGoOn table n) → fold_words (w ∷ ws) table m ≡ Done n → MayGoOn table n
  then_leaves w ws m n given rest e = by (pass_of table w m) refl e
    where
      by : (o : Option Module) → pass_of table w m ≡ o → after_word w (fold_words ws table) o ≡ Done n → MayGoOn table n
      by None f g = absurd cc
      by (Some k) f g = rest k (word_goes table w m k given f).next g

  pub leaves_from : (words : List Word) (m n : Module) → MayGoOn table m → fold_words words table m ≡ Done n → MayGoOn table n
  leaves_from [] m n h e = let same : m ≡ n = cc in subst (MayGoOn table) same h
  leaves_from (w ∷ ws) m n h e = then_leaves w ws m n (given_word table w m h) (λ k r f. leaves_from ws k n r f) e

-- a script starts with `proc`
pub starts : (words : List Word) → IsScript words → StartsWithProc words
starts [] h = let no : None ≡ Some Proc = h.first in absurd cc
starts (w ∷ ws) h = let first : Some w ≡ Some Proc = h.first in cc

-- a script may be applied to a module that it may be given
pub stage_applicable : (script : List Word) (table : PortTable) (m : Module) → StartsWithProc script → MayStart table m → AreApplicable script table m
stage_applicable [] table m is h = absurd is
stage_applicable (w ∷ ws) table m is h =
    subst (λ (v : Word). AreApplicable (v ∷ ws) table m) (sym is) (inl h, behind table Proc ws m (inl h) (λ n k. applicable_from table ws n k))

-- what it makes of the module is what one pass could
pub fold_passes : (script : List Word) (table : PortTable) (m n : Module) → StartsWithProc script → MayStart table m → fold_words script table m ≡ Done n → IsPass table m n
fold_passes [] table m n is h e = absurd is
fold_passes (w ∷ ws) table m n is h e =
    then_pass table Proc ws m n (inl h) (λ k r f. passes_from table ws k n r f) (subst (λ (v : Word). fold_words (v ∷ ws) table m ≡ Done n) is e)

-- and may be given to each pass
pub fold_leaves : (script : List Word) (table : PortTable) (m n : Module) → StartsWithProc script → MayStart table m → fold_words script table m ≡ Done n → MayGoOn table n
fold_leaves [] table m n is h e = absurd is
fold_leaves (w ∷ ws) table m n is h e =
    then_leaves table Proc ws m n (inl h) (λ k r f. leaves_from table ws k n r f) (subst (λ (v : Word). fold_words (v ∷ ws) table m ≡ Done n) is e)
