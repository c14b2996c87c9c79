-- The cells and connections of the module in which a memory became words are the module's own, or have no fault.
use Rattle.std.proofs.Common.{◌≡◌, ℕ, Some, ◌⊎◌, inl, inr}
use Rattle.std.specs.Prelude.{slice_get}
use Rattle.rtl_ir.specs.Types.{Ports}
use Rattle.rtl_ir.specs.declared.cell.Cell.{Cell}
use Rattle.rtl_ir.specs.declared.module.Link.{Link}
use Rattle.rtl_ir.specs.declared.module.Module.{Module}
use Rattle.rtl_ir.specs.declared.store.Store.{Store}
use Rattle.rtl_ir.specs.Build.{building_of}
use Rattle.net_model.proofs.Ranges.{each_filter}
use Rattle.net_model.specs.Lists.{In}
use Rattle.net_model.specs.Mem.Expand.{expanded_memory, memory_step}
use Rattle.net_model.specs.Mem.Gather.{gathered}
use Rattle.pass_laws.specs.Replaces.{IsEven, IsFaultless}
use Rattle.pass_laws.proofs.Alone.{library_faultless}
use Rattle.pass_laws.specs.Ready.{IsReady}
use Rattle.pass_laws.specs.OwnNames.{HaveOwnNames}
use Rattle.pass_laws.proofs.Finding.{in_place}
use Rattle.memory_laws.proofs.Fitting.{IsFit}
use Rattle.memory_laws.proofs.FittingPlan.{built_fits}
use Rattle.memory_laws.proofs.FittingSteps.{AreFit}
use Rattle.net_model.proofs.MemoryCells.{stays}

module _ (ports : Ports) (m : Module) (s : Store) (at : ℕ) (ready : IsReady ports m) (named : HaveOwnNames m) (there : slice_get m.memories at ≡ Some s) where
  fit : AreFit m.cells m.links (memory_step (gathered m at s) s (building_of m))
  fit = built_fits ports m ready named s (in_place m.memories at s there) at

  one_faultless : (c : Cell) → In c m.cells ⊎ IsFit c → In c m.cells ⊎ IsFaultless ports c
  one_faultless c (inl i) = inl i
  one_faultless c (inr h) = inr (library_faultless ports c h.kind h.own h.plain h.shape h.output)

  pub faultless : (c : Cell) → In c (expanded_memory m (gathered m at s) s).cells → In c m.cells ⊎ IsFaultless ports c
  faultless c i =
      one_faultless c (each_filter (λ (d : Cell). In d m.cells ⊎ IsFit d) (stays s.name) (memory_step (gathered m at s) s (building_of m)).body.cells fit.cells c i)

  pub even : (l : Link) → In l (expanded_memory m (gathered m at s) s).links → In l m.links ⊎ IsEven l
  even l i = fit.lines l i
