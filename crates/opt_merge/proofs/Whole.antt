-- The whole pass.
use Rattle.std.proofs.Common.{◌≡◌, ℕ, List, [], sym, ◌∙◌, ap, subst}
use Rattle.std.specs.Prelude.{IfOk, Result, Ok, Err}
use Rattle.rtl_bits.specs.declared.memory.Memory.{Memory}
use Rattle.rtl_ir.specs.declared.cell.Cell.{Cell}
use Rattle.rtl_ir.specs.declared.module.Link.{Link}
use Rattle.rtl_ir.specs.declared.module.Module.{Module}
use Rattle.rtl_ir.specs.Flat.Cell as flat
use Rattle.rtl_ir.specs.Flat.Start.{start_of}
use Rattle.rtl_ir.specs.Types.{Ports}
use Rattle.net_model.specs.Refine.{IsWellDriven}
use Rattle.pass_laws.specs.Ready.{IsReady}
use Rattle.pass_laws.proofs.Faultless.{plain}
use Rattle.opt_merge.specs.declared.merger.Merger.{Merger}
use Rattle.opt_merge.specs.Picked.{AreThese}
use Rattle.opt_merge.specs.State.{IsDrivenOnce, IsState}
use Rattle.opt_merge.specs.Merge.{after_cells, first_of, merge_of, merging_of, swept_of, with_merging}
use Rattle.opt_merge.proofs.Starting.{once_start}

pub state_over : (m : Module) (cells : List Cell) (merger : Merger) → cells ≡ m.cells → IsState merger m.wires m.links m.cells 0 (first_of m) → IsState merger m.wires m.links cells 0 (first_of m)
state_over m cells merger same state = subst (λ cs. IsState merger m.wires m.links cs 0 (first_of m)) (sym same) state

module _ (m : Module) (cells : List Cell) (merger : Merger) (same : cells ≡ m.cells) (state : (at : ℕ) × IsState merger m.wires m.links cells at (after_cells (start_of m.wires []) (first_of m) cells)) where
  pub swept_cells : AreThese m.cells merger.kept.items (swept_of m).cells
  swept_cells = subst (λ cs. AreThese cs merger.kept.items (after_cells (start_of m.wires []) (first_of m) cs).cells) same (record { there = state.1.kept; rising = state.1.rising })

  pub swept_links : merger.links ≡ (swept_of m).links
  swept_links = state.1.links ∙ ap (λ cs. (after_cells (start_of m.wires []) (first_of m) cs).links) same

-- the module that a sweep leaves
pub merged_is : (m : Module) (kept : List Cell) (links : List Link) → m.processes ≡ [] → kept ≡ (swept_of m).cells
    → links ≡ (swept_of m).links → record m { cells = kept; links = links } ≡ with_merging m (merging_of m)
merged_is m kept links none cells same =
    (λ i. record m { cells = cells i; links = same i })
    ∙ ap (λ ps. with_merging m (after_cells (start_of m.wires ps) (first_of m) m.cells)) (sym none)

-- of a module that is ready and well driven
module _ (ports : Ports) (over : flat.Ports) (m : Module) (ready : IsReady ports m) (driven : IsWellDriven over m) where
  pub exact_driven : (r : Result Module Memory) → IfOk r (λ after. IsDrivenOnce (first_of m) m.cells → m.processes ≡ [] → after ≡ merge_of m) → IfOk r (λ after. after ≡ merge_of m)
  exact_driven (Ok after) h = h (once_start ports over m ready driven) (plain ports m ready.faultless).processes
  exact_driven (Err e) h = tt
