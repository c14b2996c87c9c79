-- The pass of each word keeps that a text can give the module, and so does a script.
use Rattle.std.proofs.Common.{◌≡◌, Bool, true, false, cond, length, List, [], ◌∷◌, Option, Some, None, inl, inr, refl, sym, subst, arith}
use Rattle.rtl_ir.specs.Types.{Ports, table_ports}
use Rattle.rtl_ir.specs.declared.module.Module.{Module}
use Rattle.rtl_ir.specs.declared.ports.PortTable.{PortTable}
use Rattle.rtl_ir.specs.declared.process.Process.{Process}
use Rattle.rtl_ir.specs.declared.process.SyncRule.{SyncRule}
use Rattle.net_index.specs.Builder.{IsInLimits, building_from}
use Rattle.net_model.specs.Fsm.Code.{fsm_of}
use Rattle.net_model.specs.Mem.Expand.{memory_of}
use Rattle.net_model.specs.Within.{Each}
use Rattle.pass_laws.proofs.Faultless.{plain}
use Rattle.opt_clean.specs.Clean.{clean_of}
use Rattle.opt_expr.specs.Sweep.{expr_of}
use Rattle.opt_merge.specs.Merge.{merge_of}
use Rattle.opt_rounds.specs.Rounds.{opt_of}
use Rattle.opt_more.specs.Dff.{dff_of}
use Rattle.opt_more.specs.Muxtree.{muxtree_of}
use Rattle.opt_more.specs.Reduce.{reduce_of}
use Rattle.fsm_steps.specs.Within as machines
use Rattle.fsm_steps.proofs.Giving as machine_giving
use Rattle.mem_steps.specs.Within as memories
use Rattle.mem_steps.proofs.Giving as memory_giving
use Rattle.proc_steps.specs.Limits.{is_within}
use Rattle.proc_steps.specs.Steps.{proc_within}
use Rattle.proc_steps.proofs.Limits as steps
use Rattle.tech_map.specs.Techmap.{beside, techmap_of}
use Rattle.script_core.specs.declared.outcome.Outcome.TheVariants.{Done}
use Rattle.script_core.specs.declared.word.Word.{Word}
use Rattle.script_core.specs.declared.word.Word.TheVariants.{Proc, OptExpr, OptMerge, OptClean, Opt, Fsm, Memory, Techmap, Muxtree, Reduce, Dff, Flatten}
use Rattle.script_core.specs.Fold.{AreApplicable, MayBeGiven, MayGoOn, MayStart, StartsWithProc, after_word, fold_words, pass_of, techmap_within}
use Rattle.script_core.proofs.Stepping.{given_word, word_goes}
use Rattle.rtl_readable.specs.Readable.{IsReadableModule}
use Rattle.readable_passes.specs.Named.{IsNamed, NamesMemories}
use Rattle.readable_passes.proofs.Clean.{clean_reads}
use Rattle.readable_passes.proofs.Dff.{dff_reads}
use Rattle.readable_passes.proofs.Expr.{expr_reads}
use Rattle.readable_passes.proofs.Limits.{items_of, within_limits}
use Rattle.readable_passes.proofs.Machines.{fsm_reads}
use Rattle.readable_passes.proofs.Memories.{all_memories_read}
use Rattle.readable_passes.proofs.Merge.{merge_reads}
use Rattle.readable_passes.proofs.Muxtree.{muxtree_reads}
use Rattle.readable_passes.proofs.Reduce.{reduce_reads}
use Rattle.readable_passes.proofs.Rounds.{opt_reads}
use Rattle.readable_maps.proofs.Techmap.{techmap_fewer, techmap_reads}
use Rattle.readable_runs.proofs.Fitting.{codes_fit, readable_fits, words_fit}
use Rattle.readable_runs.proofs.Proc.{proc_reads}

-- a module without processes names no memory in a line
pub unwritten : (m : Module) → m.processes ≡ [] → NamesMemories m
unwritten m e = subst (λ (ps : List Process). Each (λ (p : Process). Each (λ (r : SyncRule). Each IsNamed r.writes) p.syncs) ps) (sym e) (λ p i. absurd i)

module _ (table : PortTable) (m : Module) (is : IsReadableModule m) where
  abbrev P : Ports
  P = table_ports table.modules

  reads_same : (k n : Module) → IsReadableModule k → Some k ≡ Some n → IsReadableModule n
  reads_same k n reads e = let same : k ≡ n = cc in subst IsReadableModule same reads

  -- ---- `proc`
  proc_word : NamesMemories m → MayBeGiven table Proc m → (n : Module) → proc_within P m m.processes ≡ Some n → IsReadableModule n
  proc_word names given n e = by m.processes refl given e
    where
      by : (ps : List Process) → m.processes ≡ ps → MayBeGiven table Proc m → proc_within P m ps ≡ Some n → IsReadableModule n
      by [] f given g = reads_same m n is g
      by (p ∷ ps) f (inr k) g = let none = (plain P m k.ready.faultless).processes in absurd cc
      by (p ∷ ps) f (inl k) g = proc_reads table m k.begins names is n g

  -- ---- the others
  module _ (given : MayGoOn table m) where
    clean_word : IsReadableModule (clean_of P m)
    clean_word = clean_reads P m (plain P m given.ready.faultless).processes is

    codes_word : machines.are_within P 0 (length m.wires) m ≡ true → IsReadableModule (fsm_of P m)
    codes_word e =
        within_limits (building_from 0 (fsm_of P m))
        (fsm_reads P m given.ready (machine_giving.are_short P 0 (length m.wires) m e) (items_of m is))
        (codes_fit P m e (readable_fits m is))

    fsm_word : (n : Module) → machines.fsm_within P m ≡ Some n → IsReadableModule n
    fsm_word n e = by (machines.are_within P 0 (length m.wires) m) refl e
      where
        by : (s : Bool) → machines.are_within P 0 (length m.wires) m ≡ s → cond s (Some (fsm_of P m)) None ≡ Some n → IsReadableModule n
        by true f g = reads_same (fsm_of P m) n (codes_word f) g
        by false f g = absurd cc

    words_word : memories.are_within (length m.memories) m ≡ true → IsReadableModule (memory_of m)
    words_word e =
        within_limits (building_from 0 (memory_of m))
        (all_memories_read P m given.ready given.named (memory_giving.are_short (length m.memories) m e) (items_of m is))
        (words_fit m e (readable_fits m is))

    memory_word : (n : Module) → memories.memory_within m ≡ Some n → IsReadableModule n
    memory_word n e = by (memories.are_within (length m.memories) m) refl e
      where
        by : (t : Bool) → memories.are_within (length m.memories) m ≡ t → cond t (Some (memory_of m)) None ≡ Some n → IsReadableModule n
        by true f g = reads_same (memory_of m) n (words_word f) g
        by false f g = absurd cc

  gates_word : IsInLimits (beside m) → IsReadableModule (techmap_of m)
  gates_word limits =
      within_limits (building_from 0 (techmap_of m))
      (techmap_reads m (items_of m is) limits.names)
      (record { cells = omega (arith, techmap_fewer m (items_of m is), limits.cells); bits = limits.bits; names = omega arith })

  techmap_word : (n : Module) → techmap_within m ≡ Some n → IsReadableModule n
  techmap_word n e = by (is_within (beside m)) refl e
    where
      by : (t : Bool) → is_within (beside m) ≡ t → cond t (Some (techmap_of m)) None ≡ Some n → IsReadableModule n
      by true f g = reads_same (techmap_of m) n (gates_word (steps.within_limits (beside m) f)) g
      by false f g = absurd cc

-- a word
pub word_reads : (table : PortTable) (word : Word) (m n : Module) → MayBeGiven table word m → NamesMemories m → IsReadableModule m → pass_of table word m ≡ Some n → IsReadableModule n
word_reads table Proc m n given names is e = proc_word table m is names given n e
word_reads table OptExpr m n given names is e = reads_same table m is (expr_of (table_ports table.modules) m) n (expr_reads table m given.ready is) e
word_reads table OptMerge m n given names is e = reads_same table m is (merge_of m) n (merge_reads m is) e
word_reads table OptClean m n given names is e = reads_same table m is (clean_of (table_ports table.modules) m) n (clean_word table m is given) e
word_reads table Opt m n given names is e = reads_same table m is (opt_of (table_ports table.modules) m) n (opt_reads table m given.ready is) e
word_reads table Fsm m n given names is e = fsm_word table m is given n e
word_reads table Memory m n given names is e = memory_word table m is given n e
word_reads table Techmap m n given names is e = techmap_word table m is n e
word_reads table Muxtree m n given names is e = reads_same table m is (muxtree_of (table_ports table.modules) m) n (muxtree_reads (table_ports table.modules) m is) e
word_reads table Reduce m n given names is e = reads_same table m is (reduce_of (table_ports table.modules) m) n (reduce_reads (table_ports table.modules) m is) e
word_reads table Dff m n given names is e = reads_same table m is (dff_of (table_ports table.modules) m) n (dff_reads (table_ports table.modules) m is) e
word_reads table Flatten m n given names is e = reads_same table m is m n is e

-- words
module _ (table : PortTable) where
  then_reads : (w : Word) (ws : List Word) (m n : Module) → MayBeGiven table w m → NamesMemories m → IsReadableModule m → ((k : Module) → MayGoOn table k → IsReadableModule k → fold_words ws table k ≡ Done n → IsReadableModule n) → fold_words (w ∷ ws) table m ≡ Done n → IsReadableModule n
  then_reads w ws m n given names is rest e = by (pass_of table w m) refl e
    where
      by : (o : Option Module) → pass_of table w m ≡ o → after_word w (fold_words ws table) o ≡ Done n → IsReadableModule n
      by None f g = absurd cc
      by (Some k) f g = rest k (word_goes table w m k given f).next (word_reads table w m k given names is f) g

  reads_on : (ws : List Word) (m n : Module) → MayGoOn table m → IsReadableModule m → fold_words ws table m ≡ Done n → IsReadableModule n
  reads_on [] m n h is e = let same : m ≡ n = cc in subst IsReadableModule same is
  reads_on (w ∷ ws) m n h is e =
      then_reads w ws m n (given_word table w m h) (unwritten m (plain (table_ports table.modules) m h.ready.faultless).processes) is
      (λ k g reads f. reads_on ws k n g reads f) e

  -- words that may be applied
  pub reads_applied : (words : List Word) (m n : Module) → AreApplicable words table m → NamesMemories m → IsReadableModule m → fold_words words table m ≡ Done n → IsReadableModule n
  reads_applied [] m n h names is e = let same : m ≡ n = cc in subst IsReadableModule same is
  reads_applied (w ∷ ws) m n h names is e =
      then_reads w ws m n h.0 names is (λ k g reads f. reads_on ws k n g reads f) e

-- words that begin with `proc`
pub script_reads : (script : List Word) (table : PortTable) (m n : Module) → StartsWithProc script → MayStart table m → NamesMemories m → IsReadableModule m → fold_words script table m ≡ Done n → IsReadableModule n
script_reads [] table m n stage h names is e = absurd stage
script_reads (w ∷ ws) table m n stage h names is e =
    then_reads table Proc ws m n (inl h) names is (λ k g reads f. reads_on table ws k n g reads f)
    (subst (λ (v : Word). fold_words (v ∷ ws) table m ≡ Done n) stage e)
