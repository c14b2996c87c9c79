-- No pass looks at the name of a module.
use Rattle.std.proofs.Common.{◌≡◌, ℕ, zero, suc, List, [], ◌∷◌, ◌++◌, Bool, true, false, cond, Option, Some, None, refl, ap, ◌∙◌}
use Rattle.std.specs.Option.{option_map}
use Rattle.cell_types.specs.declared.kind.CellKind.{CellKind}
use Rattle.rtl_ir.specs.declared.cell.Cell.{Cell}
use Rattle.rtl_ir.specs.declared.module.Module.{Module}
use Rattle.rtl_ir.specs.declared.ports.PortTable.{PortTable}
use Rattle.rtl_ir.specs.Build.{Building, building_of}
use Rattle.rtl_ir.specs.Types.{Ports, table_ports}
use Rattle.opt_expr.specs.Sweep.{expr_of}
use Rattle.opt_merge.specs.Merge.{merge_of}
use Rattle.opt_clean.specs.Clean.{clean_of}
use Rattle.opt_rounds.specs.Rounds.{opt_of, round_of, rounds_of}
use Rattle.map_laws.specs.Expansion.{cells_added}
use Rattle.tech_map.proofs.Renaming.{expand_renamed}
use Rattle.tech_map.specs.Techmap.{taken_kind, with_gates, stand_in, with_all_gates, stand_ins, beside, techmap_of}
use Rattle.script_core.specs.declared.word.Word as words
use Rattle.script_core.specs.declared.word.Word.TheVariants.{Proc, OptExpr, OptMerge, OptClean, Opt, Fsm, Memory, Techmap, Muxtree, Reduce, Dff, Flatten}
use Rattle.script_core.specs.Cold.{named}
use Rattle.proc_steps.specs.Limits.{is_within}
use Rattle.fsm_steps.proofs.Renaming.{fsm_renamed}
use Rattle.mem_steps.proofs.Renaming.{memory_renamed}
use Rattle.proc_steps.proofs.Renaming.{proc_renamed}
use Rattle.flat_pass.proofs.Renaming as flat
use Rattle.flat_pass.specs.Flat.{flat_of}
use Rattle.std.specs.Prelude.{drop, option_and_then}
use Rattle.script_core.specs.declared.outcome.Outcome.{Outcome}
use Rattle.script_core.specs.Words.{flattens}
use Rattle.script_core.specs.Fold.{techmap_within, pass_of, after_word, each_proc, fold_flat, fold_script, fold_words}

module _ (id : List ℕ) where
  -- a module under the name, and one that is added to
  abbrev pub under : Module → Module
  under m = record m { id = id }

  abbrev renamed : Building → Building
  renamed b = record { body = under b.body; next = b.next }

  one_renamed : (c : Cell) (b : Building) (k : Option CellKind) → with_gates k c (renamed b) ≡ renamed (with_gates k c b)
  one_renamed c b None = refl
  one_renamed c b (Some kind) = expand_renamed id kind c b

  gates_renamed : (c : Cell) (b : Building) → with_gates (taken_kind c) c (renamed b) ≡ renamed (with_gates (taken_kind c) c b)
  gates_renamed c b = one_renamed c b (taken_kind c)

  all_renamed : (cs : List Cell) (b : Building) → with_all_gates cs (renamed b) ≡ renamed (with_all_gates cs b)
  all_renamed [] b = refl
  all_renamed (c ∷ cs) b = ap (with_all_gates cs) (gates_renamed c b) ∙ all_renamed cs (with_gates (taken_kind c) c b)

  in_renamed : (c : Cell) (b : Building) (k : Option CellKind) → stand_in k c (renamed b) ≡ stand_in k c b
  in_renamed c b None = refl
  in_renamed c b (Some kind) = ap (cells_added b) (one_renamed c b (Some kind))

  ins_renamed : (cs : List Cell) (b : Building) → stand_ins cs (renamed b) ≡ stand_ins cs b
  ins_renamed [] b = refl
  ins_renamed (c ∷ cs) b = (λ i. in_renamed c b (taken_kind c) i ++ (ap (stand_ins cs) (gates_renamed c b) ∙ ins_renamed cs (with_gates (taken_kind c) c b)) i)

  beside_renamed : (m : Module) → beside (under m) ≡ renamed (beside m)
  beside_renamed m = all_renamed m.cells (building_of m)

  pub techmap_renamed : (m : Module) → techmap_of (under m) ≡ under (techmap_of m)
  techmap_renamed m = (λ i. record (beside_renamed m i).body { cells = ins_renamed m.cells (building_of m) i })

  within_kept : (b : Building) → is_within (renamed b) ≡ is_within b
  unfolding is_within
  within_kept b = refl

  within_renamed : (m : Module) → techmap_within (under m) ≡ option_map under (techmap_within m)
  within_renamed m =
      (λ i. cond ((ap is_within (beside_renamed m) ∙ within_kept (beside m)) i) (Some (techmap_renamed m i)) None) ∙ by (is_within (beside m))
    where
      by : (t : Bool) → cond t (Some (under (techmap_of m))) None ≡ option_map under (cond t (Some (techmap_of m)) None)
      by true = refl
      by false = refl

  clean_renamed : (P : Ports) (m : Module) → clean_of P (under m) ≡ under (clean_of P m)
  clean_renamed P m = refl

  round_renamed : (P : Ports) (m : Module) → round_of P (under m) ≡ under (round_of P m)
  unfolding round_of
  round_renamed P m = clean_renamed P (merge_of (expr_of P m))

  rounds_renamed : (P : Ports) (n : ℕ) (m : Module) → rounds_of P n (under m) ≡ under (rounds_of P n m)
  unfolding rounds_of
  rounds_renamed P zero m = refl
  rounds_renamed P (suc n) m = ap (rounds_of P n) (round_renamed P m) ∙ rounds_renamed P n (round_of P m)

  opt_renamed : (P : Ports) (m : Module) → opt_of P (under m) ≡ under (opt_of P m)
  unfolding opt_of
  opt_renamed P m = rounds_renamed P 32 m

  pub pass_renamed : (table : PortTable) (word : words.Word) (m : Module) → pass_of table word (under m) ≡ option_map under (pass_of table word m)
  pass_renamed table Proc m = proc_renamed id (table_ports table.modules) m m.processes
  pass_renamed table OptExpr m = refl
  pass_renamed table OptMerge m = refl
  pass_renamed table OptClean m = ap Some (clean_renamed (table_ports table.modules) m)
  pass_renamed table Opt m = ap Some (opt_renamed (table_ports table.modules) m)
  pass_renamed table Fsm m = fsm_renamed id (table_ports table.modules) m
  pass_renamed table Memory m = memory_renamed id m
  pass_renamed table Techmap m = within_renamed m
  pass_renamed table Muxtree m = refl
  pass_renamed table Reduce m = refl
  pass_renamed table Dff m = refl
  pass_renamed table Flatten m = refl

  pub words_renamed : (ws : List words.Word) (table : PortTable) (m : Module) → fold_words ws table (under m) ≡ named id (fold_words ws table m)
  words_renamed [] table m = refl
  words_renamed (w ∷ ws) table m = ap (after_word w (fold_words ws table)) (pass_renamed table w m) ∙ by (λ n. words_renamed ws table n) (pass_of table w m)
    where
      by : ((n : Module) → fold_words ws table (under n) ≡ named id (fold_words ws table n)) → (o : Option Module) → after_word w (fold_words ws table) (option_map under o) ≡ named id (after_word w (fold_words ws table) o)
      by ih None = refl
      by ih (Some n) = ih n

  -- `flatten` over modules of `proc`, and what follows it
  flat_renamed : (ws : List words.Word) (table : PortTable) (below : List Module) (m : Module) → fold_flat ws table below (under m) ≡ named id (fold_flat ws table below m)
  flat_renamed ws table below m =
      ap (λ o. after_word Proc rest (option_and_then (λ body. option_map (λ all. (body, all)) (each_proc below below)) o)) (pass_renamed table Proc m)
      ∙ by (pass_of table Proc m) (each_proc below below)
    where
      rest : Module × List Module → Outcome
      rest r = after_word Flatten (fold_words ws table) (flat_of r.1 r.0)

      behind : (o : Option Module) → after_word Flatten (fold_words ws table) (option_map under o) ≡ named id (after_word Flatten (fold_words ws table) o)
      behind None = refl
      behind (Some n) = words_renamed ws table n

      by : (o : Option Module) (a : Option (List Module)) → after_word Proc rest (option_and_then (λ body. option_map (λ all. (body, all)) a) (option_map under o)) ≡ named id (after_word Proc rest (option_and_then (λ body. option_map (λ all. (body, all)) a) o))
      by None a = refl
      by (Some body) None = refl
      by (Some body) (Some all) = ap (after_word Flatten (fold_words ws table)) (flat.flat_renamed id all body) ∙ behind (flat_of all body)

  pub fold_renamed : (script : List words.Word) (table : PortTable) (below : List Module) (m : Module) → fold_script script table below (under m) ≡ named id (fold_script script table below m)
  fold_renamed script table below m = by (flattens script)
    where
      by : (t : Bool) → cond t (fold_flat (drop 2 script) table below (under m)) (fold_words script table (under m)) ≡ named id (cond t (fold_flat (drop 2 script) table below m) (fold_words script table m))
      by true = flat_renamed (drop 2 script) table below m
      by false = words_renamed script table m
