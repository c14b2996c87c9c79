-- Scripts with `memory` and `techmap` leave nothing but gates and instances.
use Rattle.std.proofs.Common.{◌≡◌, ◌⊎◌, ⊎_elim, Bool, true, false, cond, Option, Some, None, List, [], ◌∷◌, inl, inr, refl, sym, ◌∙◌, ap, subst}
use Rattle.std.specs.Prelude.{◌||◌}
use Rattle.std.specs.List.{list_all}
use Rattle.cell_types.specs.declared.kind.CellKind.TheVariants as kinds
use Rattle.rtl_ir.specs.Flat.Cell.{cell_kind}
use Rattle.rtl_ir.specs.Types.{Ports, table_ports}
use Rattle.rtl_ir.specs.declared.cell.Cell.{Cell}
use Rattle.rtl_ir.specs.declared.module.Module.{Module}
use Rattle.rtl_ir.specs.declared.ports.PortTable.{PortTable}
use Rattle.net_model.specs.Mem.Expand.{is_memory_kind}
use Rattle.pass_laws.specs.Replaces.{IsOutside}
use Rattle.memory_laws.proofs.Turned.{no_memory_cell}
use Rattle.mem_steps.proofs.Giving.{memory_gives}
use Rattle.opt_clean.specs.Clean.{clean_of}
use Rattle.opt_expr.specs.Sweep.{expr_of}
use Rattle.opt_merge.specs.Merge.{merge_of}
use Rattle.opt_rounds.specs.Rounds.{opt_of}
use Rattle.tech_map.specs.Gates.{HasGatesAlone}
use Rattle.tech_map.specs.Techmap.{beside, techmap_of}
use Rattle.tech_map.proofs.Forming.{takable}
use Rattle.tech_map.proofs.Gates.{techmap_gates}
use Rattle.gate_laws.proofs.Keeping.{clean_gates, merge_gates}
use Rattle.gate_laws.proofs.Rounding.{opt_gates}
use Rattle.gate_laws.proofs.Sweeping.{expr_gates}
use Rattle.proc_steps.specs.Limits.{is_within}
use Rattle.script_core.specs.declared.outcome.Outcome.TheVariants.{Done}
use Rattle.script_core.specs.declared.word.Word.{Word}
use Rattle.script_core.specs.declared.word.Word.TheVariants.{Proc, OptExpr, OptMerge, OptClean, Opt, Fsm, Memory, Techmap, Muxtree, Reduce, Dff, Flatten}
use Rattle.script_core.specs.Fold.{StartsWithProc, MayGoOn, MayStart, after_word, fold_words, pass_of, techmap_within}
use Rattle.script_core.specs.Mapping.{is_opt, maps_all, maps_last}
use Rattle.script_core.proofs.Stepping.{GoesOn, given_word, still_none, word_goes}

-- a cell that is none of a memory
outside : (c : Cell) → is_memory_kind (cell_kind c) ≡ false → IsOutside c
outside c e (kinds.Word kind) own = refl
outside c e (kinds.Gate kind) own = refl
outside c e (kinds.Storage kind) own = refl
outside c e (kinds.StorageGate kind) own = refl
outside c e (kinds.Memory kind) own = let no : true ≡ false = sym (ap is_memory_kind own) ∙ e in absurd cc

either : (a b : Bool) → (a || b) ≡ true → (a ≡ true) ⊎ (b ≡ true)
either true b e = inl refl
either false b e = inr e

module _ (table : PortTable) where
  abbrev ports : Ports
  ports = table_ports table.modules

  -- `techmap` of a module without memories
  all_gates : (m k : Module) → MayGoOn table m → m.memories ≡ [] → techmap_within m ≡ Some k → HasGatesAlone k
  all_gates m k h none e = by (is_within (beside m)) e
    where
      gates : HasGatesAlone (techmap_of m)
      gates =
          techmap_gates m (takable ports m h.ready).whole (λ c i. outside c (no_memory_cell ports m h.ready none c i))

      by : (t : Bool) → cond t (Some (techmap_of m)) None ≡ Some k → HasGatesAlone k
      by true f = let same : techmap_of m ≡ k = cc in subst HasGatesAlone same gates
      by false f = absurd cc

  -- words of `opt` keep gates
  tidied : (ws : List Word) (m n : Module) → list_all is_opt ws ≡ true → HasGatesAlone m → fold_words ws table m ≡ Done n → HasGatesAlone n
  tidied [] m n e gates f = let same : m ≡ n = cc in subst HasGatesAlone same gates
  tidied (OptExpr ∷ ws) m n e gates f = tidied ws (expr_of ports m) n e (expr_gates ports m gates) f
  tidied (OptMerge ∷ ws) m n e gates f = tidied ws (merge_of m) n e (merge_gates m gates) f
  tidied (OptClean ∷ ws) m n e gates f = tidied ws (clean_of ports m) n e (clean_gates ports m gates) f
  tidied (Opt ∷ ws) m n e gates f = tidied ws (opt_of ports m) n e (opt_gates ports m gates) f
  tidied (Proc ∷ ws) m n e gates f = absurd cc
  tidied (Fsm ∷ ws) m n e gates f = absurd cc
  tidied (Memory ∷ ws) m n e gates f = absurd cc
  tidied (Techmap ∷ ws) m n e gates f = absurd cc
  tidied (Muxtree ∷ ws) m n e gates f = absurd cc
  tidied (Reduce ∷ ws) m n e gates f = absurd cc
  tidied (Dff ∷ ws) m n e gates f = absurd cc
  tidied (Flatten ∷ ws) m n e gates f = absurd cc

  -- behind a word
  behind : (w : Word) (ws : List Word) (m n : Module) → ((k : Module) → pass_of table w m ≡ Some k → fold_words ws table k ≡ Done n → HasGatesAlone n) → fold_words (w ∷ ws) table m ≡ Done n → HasGatesAlone n
  behind w ws m n rest f = by (pass_of table w m) refl f
    where
      by : (o : Option Module) → pass_of table w m ≡ o → after_word w (fold_words ws table) o ≡ Done n → HasGatesAlone n
      by None e g = absurd cc
      by (Some k) e g = rest k e g

  -- behind a `memory`: a `techmap`, and then words of `opt`
  behind_memory : (ws : List Word) (m n : Module) → MayGoOn table m → m.memories ≡ [] → maps_last ws ≡ true → fold_words ws table m ≡ Done n → HasGatesAlone n
  behind_memory [] m n h none e f = absurd cc
  behind_memory (w ∷ ws) m n h none e f =
      behind w ws m n
      (λ k is g. let goes = word_goes table w m k (given_word table w m h) is in by w e k is (λ last. behind_memory ws k n goes.next (still_none table m k goes none) last g) g)
      f
    where
      by : (w : Word) → maps_last (w ∷ ws) ≡ true → (k : Module) → pass_of table w m ≡ Some k → (maps_last ws ≡ true → HasGatesAlone n) → fold_words ws table k ≡ Done n → HasGatesAlone n
      by Proc last k is on g = on last
      by OptExpr last k is on g = on last
      by OptMerge last k is on g = on last
      by OptClean last k is on g = on last
      by Opt last k is on g = on last
      by Fsm last k is on g = on last
      by Memory last k is on g = on last
      by Muxtree last k is on g = on last
      by Reduce last k is on g = on last
      by Dff last k is on g = on last
      by Flatten last k is on g = on last
      by Techmap last k is on g =
          ⊎_elim (λ only. tidied ws k n only (all_gates m k h none is) g) on (either (list_all is_opt ws) (maps_last ws) last)

  -- a `memory`, and so on
  pub from_memory : (ws : List Word) (m n : Module) → MayGoOn table m → maps_all ws ≡ true → fold_words ws table m ≡ Done n → HasGatesAlone n
  from_memory [] m n h e f = absurd cc
  from_memory (w ∷ ws) m n h e f =
      behind w ws m n
      (λ k is g. let goes = word_goes table w m k (given_word table w m h) is in by w e k is goes (λ all. from_memory ws k n goes.next all g) g)
      f
    where
      by : (w : Word) → maps_all (w ∷ ws) ≡ true → (k : Module) → pass_of table w m ≡ Some k → GoesOn table m k → (maps_all ws ≡ true → HasGatesAlone n) → fold_words ws table k ≡ Done n → HasGatesAlone n
      by Proc all k is goes on g = on all
      by OptExpr all k is goes on g = on all
      by OptMerge all k is goes on g = on all
      by OptClean all k is goes on g = on all
      by Opt all k is goes on g = on all
      by Fsm all k is goes on g = on all
      by Techmap all k is goes on g = on all
      by Muxtree all k is goes on g = on all
      by Reduce all k is goes on g = on all
      by Dff all k is goes on g = on all
      by Flatten all k is goes on g = on all
      by Memory all k is goes on g =
          behind_memory ws k n goes.next (memory_gives table m h.ready h.named k is).memories all g

-- a script that maps all leaves gates and instances alone
pub fold_gates : (script : List Word) (table : PortTable) (m n : Module) → StartsWithProc script → maps_all script ≡ true → MayStart table m → fold_words script table m ≡ Done n → HasGatesAlone n
fold_gates [] table m n is all h f = absurd is
fold_gates (w ∷ ws) table m n is all h f =
    by (subst (λ (v : Word). maps_all (v ∷ ws) ≡ true) is all) (subst (λ (v : Word). fold_words (v ∷ ws) table m ≡ Done n) is f)
  where
    by : maps_all (Proc ∷ ws) ≡ true → fold_words (Proc ∷ ws) table m ≡ Done n → HasGatesAlone n
    by all f = behind table Proc ws m n (λ k made g. from_memory table ws k n (word_goes table Proc m k (inl h) made).next all g) f
