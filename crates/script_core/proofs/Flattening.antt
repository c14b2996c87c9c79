-- What a script that flattens makes of a module of an accepted design loses no known output bit of it.
use Rattle.std.proofs.Common.{◌≡◌, ℕ, true, List, [], Some, sym}
use Rattle.std.specs.Prelude.{slice_get}
use Rattle.rtl_ir.specs.declared.module.Design.{Design}
use Rattle.rtl_ir.specs.declared.module.Module.{Module}
use Rattle.rtl_ir.specs.Faults.{check_faults}
use Rattle.rtl_readable.specs.Readable.{IsReadable}
use Rattle.net_model.specs.Lists.{In}
use Rattle.net_model.specs.Refine.{ModuleBelow}
use Rattle.script_core.specs.declared.outcome.Outcome.TheVariants.{Done}
use Rattle.script_core.specs.declared.word.Word.{Word}
use Rattle.script_core.specs.Built.{IsValueOf}
use Rattle.script_core.specs.Keys.{key_of}
use Rattle.script_core.specs.Words.{flattens}
use Rattle.script_core.proofs.FlatRuns.{outcome_below}
use Rattle.script_core.proofs.Refining.{stands_in, value_named}

module _ (d : Design) (readable : IsReadable d) (none : check_faults d.modules ≡ []) (at : ℕ) (m : Module) (here : slice_get d.modules at ≡ Some m) (script : List Word) (flat : flattens script ≡ true) where
  pub value_below : (after : Module) → IsValueOf (key_of d.modules at script) (Done after) → (netlist : Design) → In (record after { id = m.id }) netlist.modules → ModuleBelow d netlist m (record after { id = m.id })
  value_below after h netlist there =
      outcome_below d readable none script flat m (stands_in d readable at m here script) (record after { id = m.id })
      (sym (value_named d readable at m here script (Done after) h)) netlist there
