-- The cold run of an accepted design is a design that a text can give, where it is a netlist.
use Rattle.std.proofs.Common.{◌≡◌, ℕ, zero, suc, Bool, true, false, cond, Some, List, [], ◌∷◌, drop, length, inl, inr, refl, sym, ◌∙◌, ap, subst, arith}
use Rattle.std.specs.Prelude.{map, slice_get}
use Rattle.std.specs.List.{All}
use Rattle.std.proofs.lemmas.List.{length-map}
use Rattle.std.proofs.lemmas.List.Elements.{All-cons, All-nil}
use Rattle.rtl_sig.specs.Names.{AreDistinct}
use Rattle.rtl_ir.specs.Faults.{check_faults}
use Rattle.rtl_ir.specs.declared.module.Design.{Design}
use Rattle.rtl_ir.specs.declared.module.Module.{Module}
use Rattle.rtl_ir.specs.declared.ports.PortTable.{PortTable}
use Rattle.net_model.specs.Lists.{In}
use Rattle.script_core.specs.declared.outcome.Outcome.TheVariants.{Done}
use Rattle.script_core.specs.declared.word.Word.{Word}
use Rattle.script_core.specs.Built.{IsValueOf, body_name, unnamed}
use Rattle.script_core.specs.Cold.{IsNetlist, cold, outcome_of}
use Rattle.script_core.specs.Fold.{StartsWithProc, fold_flat, fold_script, fold_words}
use Rattle.script_core.specs.Keys.{key_of}
use Rattle.script_core.specs.Reached.{below_of, reached_of, table_of}
use Rattle.script_core.specs.Words.{flattens}
use Rattle.script_core.proofs.FlatRuns.{flat_given}
use Rattle.script_core.proofs.FoldLemmas.{fold_plain}
use Rattle.script_core.proofs.Given.{given_first}
use Rattle.script_core.proofs.Refining.{outcome_made, value_is}
use Rattle.script_core.proofs.Renaming.{fold_renamed}
use Rattle.script_core.proofs.Under.{under_from}
use Rattle.rtl_write.proofs.BodyLaws.{readable_named}
use Rattle.rtl_readable.specs.Readable.{IsName, IsReadable, IsReadableModule}
use Rattle.readable_passes.proofs.Replaced.{all_each}
use Rattle.readable_runs.specs.Short.{HasShortMemories, NamesShortMemories}
use Rattle.readable_runs.proofs.Flat.{flat_script_reads}
use Rattle.readable_runs.proofs.Names.{short_named}
use Rattle.readable_runs.proofs.Scripts.{script_reads}

-- a module at a place is one of the modules
place_in : (m : Module) (ms : List Module) (k : ℕ) → slice_get ms k ≡ Some m → In m ms
place_in m [] k e = absurd cc
place_in m (x ∷ xs) zero e = inl cc
place_in m (x ∷ xs) (suc k) e = inr (place_in m xs k e)

-- the names of modules
abbrev ids_of : List Module → List (List ℕ)
ids_of ms = map (λ (m : Module). m.id) ms

-- modules that a text can give, with these names
record AreReadable (names : List (List ℕ)) (ms : List Module) : Type 0 where
  modules : All IsReadableModule ms
  ids : ids_of ms ≡ names

-- a script that flattens, as it is folded over the modules that are reached
flat_fold : (script : List Word) (table : PortTable) (below : List Module) (m : Module) → flattens script ≡ true → fold_script script table (cond (flattens script) below []) m ≡ fold_flat (drop 2 script) table below m
flat_fold script table below m e =
    λ i. cond (e i) (fold_flat (drop 2 script) table (cond (e i) below []) m) (fold_words script table m)

-- what a script makes of a module of an accepted design, under any name
module _ (d : Design) (readable : IsReadable d) (none : check_faults d.modules ≡ []) (script : List Word) (stage : StartsWithProc script) (m : Module) (i : In m d.modules) (short : NamesShortMemories m) (all : flattens script ≡ true → HasShortMemories d) where
  abbrev below : List Module
  below = reached_of d.modules m.cells

  reached : (n : Module) → In n below → In n d.modules
  reached n j = (under_from d readable none m.cells n j).0

  own_is : IsReadableModule m
  own_is = all_each IsReadableModule d.modules readable.modules m i

  fold_reads : (name : List ℕ) (n : Module) → IsName name → fold_script script (table_of d.modules m) (below_of script d.modules m.cells) (record m { id = name }) ≡ Done n → IsReadableModule n
  fold_reads name n is e = by (flattens script) refl
    where
      k : Module
      k = record m { id = name }

      k_is : IsReadableModule k
      k_is = readable_named m name own_is is

      by : (t : Bool) → flattens script ≡ t → IsReadableModule n
      by false plain =
          script_reads script (table_of d.modules m) k n stage (given_first d readable none m i name) (short_named k k_is short) k_is
          (sym (fold_plain script (table_of d.modules m) (below_of script d.modules m.cells) k plain) ∙ e)
      by true flat =
          flat_script_reads (drop 2 script) (table_of d.modules m) below k n (flat_given d readable none m i (drop 2 script) name)
          short (λ l j. all flat l (reached l j)) k_is (λ l j. all_each IsReadableModule d.modules readable.modules l (reached l j))
          (sym (flat_fold script (table_of d.modules m) below k flat) ∙ e)

module _ (d : Design) (readable : IsReadable d) (short : HasShortMemories d) (none : check_faults d.modules ≡ []) (script : List Word) (stage : StartsWithProc script) where
  own_reads : (m : Module) → In m d.modules → (n : Module) → outcome_of script d.modules m ≡ Done n → IsReadableModule n
  own_reads m i n e =
      fold_reads d readable none script stage m i (short m i) (λ flat. short) m.id n
      (all_each IsReadableModule d.modules readable.modules m i).id
      (fold_renamed m.id script (table_of d.modules m) (below_of script d.modules m.cells) (unnamed m) ∙ e)

  own_id : (m : Module) → In m d.modules → (n : Module) → outcome_of script d.modules m ≡ Done n → n.id ≡ m.id
  own_id m i n e = sym (outcome_made d readable none script stage m i n e).id

  each_reads : (bs cs : List Module) → ((b : Module) → In b bs → In b d.modules) → map (outcome_of script d.modules) bs ≡ map Done cs → AreReadable (ids_of bs) cs
  each_reads [] [] h e = record { modules = All-nil IsReadableModule; ids = refl }
  each_reads [] (c ∷ cs) h e = absurd cc
  each_reads (b ∷ bs) [] h e = absurd cc
  each_reads (b ∷ bs) (c ∷ cs) h e =
      let first : outcome_of script d.modules b ≡ Done c = cc in
      let rest : map (outcome_of script d.modules) bs ≡ map Done cs = cc in
      let later = each_reads bs cs (λ x i. h x (inr i)) rest in
      let here = h b (inl refl) in
      record {
        modules = All-cons IsReadableModule c cs (own_reads b here c first) later.modules;
        ids = λ i. own_id b here c first i ∷ later.ids i;
      }

  pub cold_reads : (n : Design) → IsNetlist (cold script d) n → IsReadable n
  cold_reads n e =
      let all = each_reads d.modules n.modules (λ b i. i) e in
      let same : length (ids_of n.modules) ≡ length (ids_of d.modules) = ap (λ (names : List (List ℕ)). length names) all.ids in
      record {
        modules = all.modules;
        distinct = subst AreDistinct (sym all.ids) readable.distinct;
        count = omega (arith, same, length-map n.modules (λ (m : Module). m.id), length-map d.modules (λ (m : Module). m.id), readable.count);
      }

-- the value of the key of a module, where it is a module
module _ (d : Design) (readable : IsReadable d) (at : ℕ) (m : Module) (here : slice_get d.modules at ≡ Some m) (script : List Word) (none : check_faults d.modules ≡ []) (stage : StartsWithProc script) (short : NamesShortMemories m) (all : flattens script ≡ true → HasShortMemories d) where
  pub value_reads : (after : Module) → IsValueOf (key_of d.modules at script) (Done after) → IsReadableModule after
  value_reads after h =
      fold_reads d readable none script stage m (place_in m d.modules at here) short all body_name after refl
      (sym (value_is d readable at m here script (Done after) h))
