-- What a script makes of a module, word by word.
use Rattle.std.specs.Prelude.{◌≡◌, ◌⊎◌, cond, Bool, true, List, [], ◌∷◌, drop, Option, Some, None, option_and_then, option_map, if◌then◌else◌}
use Rattle.rtl_ir.specs.declared.module.Module.{Module}
use Rattle.rtl_ir.specs.declared.ports.PortTable.{PortTable}
use Rattle.rtl_ir.specs.Flat.Tree as flat
use Rattle.rtl_ir.specs.Types.{table_ports}
use Rattle.net_model.specs.Refine.{IsWellDriven}
use Rattle.pass_laws.specs.OwnNames.{HaveOwnNames}
use Rattle.fsm_steps.specs.Within.{fsm_within}
use Rattle.mem_steps.specs.Within.{memory_within}
use Rattle.pass_laws.specs.Ready.{IsReady}
use Rattle.proc_steps.specs.Limits.{is_within}
use Rattle.proc_steps.specs.Steps.{MayBegin, proc_within}
use Rattle.opt_expr.specs.Sweep.{expr_of}
use Rattle.opt_merge.specs.Merge.{merge_of}
use Rattle.opt_clean.specs.Clean.{clean_of}
use Rattle.opt_rounds.specs.Rounds.{opt_of}
use Rattle.opt_more.specs.Dff.{dff_of}
use Rattle.opt_more.specs.Muxtree.{muxtree_of}
use Rattle.opt_more.specs.Reduce.{reduce_of}
use Rattle.tech_map.specs.Techmap.{beside, techmap_of}
use Rattle.flat_pass.specs.Flat.{flat_of}
use Rattle.net_model.specs.Within.{Each}
use Rattle.script_core.specs.Reached.{table_of}
use Rattle.script_core.specs.Words.{flattens}
use Rattle.script_core.specs.declared.outcome.Outcome.{Outcome}
use Rattle.script_core.specs.declared.outcome.Outcome.TheVariants.{Done, Over}
use Rattle.script_core.specs.declared.word.Word.{Word}
use Rattle.script_core.specs.declared.word.Word.TheVariants.{Proc, OptExpr, OptMerge, OptClean, Opt, Fsm, Memory, Techmap, Muxtree, Reduce, Dff, Flatten}

-- `techmap`: None where the gates, beside the cells that they replace, pass a limit
abbrev pub techmap_within : Module → Option Module
techmap_within m = if is_within (beside m) then Some (techmap_of m) else None

-- what the pass of a word makes of a module, over the ports of a table; None where that passes a limit
abbrev pub pass_of : PortTable → Word → Module → Option Module
pass_of table Proc m = proc_within (table_ports table.modules) m m.processes
pass_of table OptExpr m = Some (expr_of (table_ports table.modules) m)
pass_of table OptMerge m = Some (merge_of m)
pass_of table OptClean m = Some (clean_of (table_ports table.modules) m)
pass_of table Opt m = Some (opt_of (table_ports table.modules) m)
pass_of table Fsm m = fsm_within (table_ports table.modules) m
pass_of table Memory m = memory_within m
pass_of table Techmap m = techmap_within m
pass_of table Muxtree m = Some (muxtree_of (table_ports table.modules) m)
pass_of table Reduce m = Some (reduce_of (table_ports table.modules) m)
pass_of table Dff m = Some (dff_of (table_ports table.modules) m)
-- over the ports alone `flatten` has nothing to put in: it acts in scripts that flatten, as the second word
pass_of table Flatten m = Some m

-- where that is known, `opt` changes nothing of a module
abbrev pub IsSettledIf : Bool → PortTable → Module → Type 0
IsSettledIf known table m = known ≡ true → opt_of (table_ports table.modules) m ≡ m

-- the rest of a fold, behind a word that gave what the rest goes on with, or passed a limit
abbrev pub after_word : {A : Type 0} → Word → (A → Outcome) → Option A → Outcome
after_word word rest None = Over word
after_word word rest (Some a) = rest a

-- what the words make of a module, in order: the last module, or the first word whose result would pass a limit
abbrev pub fold_words : List Word → PortTable → Module → Outcome
fold_words [] table m = Done m
fold_words (word ∷ words) table m = after_word word (fold_words words table) (pass_of table word m)

-- `proc` of each of these modules of a list, over the ports of the modules of the list that it instantiates; None where one passes
-- a limit
abbrev pub each_proc : List Module → List Module → Option (List Module)
each_proc modules [] = Some []
each_proc modules (m ∷ ms) =
    option_and_then (λ after. option_map (λ rest. after ∷ rest) (each_proc modules ms)) (pass_of (table_of modules m) Proc m)

-- `proc` of a module and of each of those that it reaches; None where one passes a limit
abbrev pub all_proc : PortTable → List Module → Module → Option (Module × List Module)
all_proc table below m =
    option_and_then (λ body. option_map (λ all. (body, all)) (each_proc below below)) (pass_of table Proc m)

-- what `proc`, `flatten` and then these words make of a module that reaches these
abbrev pub fold_flat : List Word → PortTable → List Module → Module → Outcome
fold_flat words table below m =
    after_word Proc (λ r. after_word Flatten (fold_words words table) (flat_of r.1 r.0)) (all_proc table below m)

-- what a script makes of a module, over the ports of the modules that it instantiates and, where the script flattens, over the
-- modules that it reaches
abbrev pub fold_script : List Word → PortTable → List Module → Module → Outcome
fold_script script table below m =
    if flattens script then fold_flat (drop 2 script) table below m else fold_words script table m

-- a module may be given to a script, over the ports of a table: to `proc`, no bit has two drivers, and no two of its memories
-- have one name
pub record MayStart (table : PortTable) (m : Module) : Type 0 where
  pub begins : MayBegin table m
  pub driven : IsWellDriven (flat.table_ports table) m
  pub named : HaveOwnNames m

-- a module may be given to each pass: without processes, no bit has two drivers, and no two of its memories have one name
pub record MayGoOn (table : PortTable) (m : Module) : Type 0 where
  pub ready : IsReady (table_ports table.modules) m
  pub driven : IsWellDriven (flat.table_ports table) m
  pub named : HaveOwnNames m

-- a module may be given to the pass of a word
abbrev pub MayBeGiven : PortTable → Word → Module → Type 0
MayBeGiven table Proc m = MayStart table m ⊎ MayGoOn table m
MayBeGiven table word m = MayGoOn table m

-- the rest of the words may be applied, behind a word that gave what they go on with
abbrev pub AfterWord : {A : Type 0} → (A → Type 0) → Option A → Type 0
AfterWord rest None = Unit {0}
AfterWord rest (Some a) = rest a

-- the words may be applied to a module: each to what the words before it give
abbrev pub AreApplicable : List Word → PortTable → Module → Type 0
AreApplicable [] table m = Unit {0}
AreApplicable (word ∷ words) table m = MayBeGiven table word m × AfterWord (AreApplicable words table) (pass_of table word m)

-- each of these modules of a list may be given to `proc`
abbrev pub MayEachStart : List Module → Type 0
MayEachStart modules = Each (λ m. MayBeGiven (table_of modules m) Proc m) modules

-- a script that flattens may be applied to a module that reaches these: `proc` to it and to each of them, and to what `flatten` gives
-- the words after it
pub record AreFlatApplicable (words : List Word) (table : PortTable) (below : List Module) (m : Module) : Type 0 where
  pub given : MayBeGiven table Proc m
  pub each : MayEachStart below
  pub rest : AfterWord (λ r. AfterWord (AreApplicable words table) (flat_of r.1 r.0)) (all_proc table below m)

-- a script may be applied to a module
abbrev pub IsApplicable : List Word → PortTable → List Module → Module → Type 0
IsApplicable script table below m =
    cond (flattens script) (AreFlatApplicable (drop 2 script) table below m) (AreApplicable script table m)

-- the first word is `proc`
abbrev pub StartsWithProc : List Word → Type 0
StartsWithProc [] = ⊥
StartsWithProc (word ∷ words) = word ≡ Proc
