-- `proc` within the limits leaves a module that a text can give.
use Rattle.std.proofs.Common.{◌≡◌, Bool, true, false, cond, Some, None, refl, subst}
use Rattle.std.specs.Prelude.{◌&&◌}
use Rattle.rtl_ir.specs.Types.{Ports, table_ports}
use Rattle.rtl_ir.specs.declared.module.Module.{Module}
use Rattle.rtl_ir.specs.declared.ports.PortTable.{PortTable}
use Rattle.net_index.specs.Builder.{IsInLimits}
use Rattle.net_model.specs.Proc.Start.{proc_tree_of}
use Rattle.net_model.specs.Proc.Steps.{proc_of}
use Rattle.proc_steps.specs.Limits.{is_within}
use Rattle.proc_steps.specs.Steps.{MayBegin, clocked, clocking, latched, latching, leveled, muxing, proc_result}
use Rattle.proc_steps.proofs.Giving.{clocked_ready, latched_ready, level}
use Rattle.proc_steps.proofs.Limits as steps
use Rattle.rtl_readable.specs.Readable.{IsReadableModule}
use Rattle.readable_laws.specs.Extends.{HasReadableItems}
use Rattle.readable_passes.specs.Named.{NamesMemories}
use Rattle.readable_passes.proofs.Latch.{latch_reads}
use Rattle.readable_passes.proofs.Limits.{items_of, within_limits}
use Rattle.readable_passes.proofs.Mux.{mux_reads}
use Rattle.readable_passes.proofs.Reset.{reset_reads}
use Rattle.readable_passes.proofs.Tree.{tree_reads}
use Rattle.readable_passes.proofs.Writes.{sync_reads}
use Rattle.readable_runs.proofs.Lines.{latch_names, reset_names, tree_names}

module _ (table : PortTable) (m : Module) (h : MayBegin table m) (names : NamesMemories m) (is : IsReadableModule m) where
  abbrev P : Ports
  P = table_ports table.modules

  level_items : HasReadableItems (leveled P m)
  level_items = items_of (leveled P m) (reset_reads P (proc_tree_of m) (tree_reads m is))

  module _ (first : IsInLimits (latching P m)) (second : IsInLimits (clocking P m)) (third : IsInLimits (muxing P m)) where
    latch_items : HasReadableItems (latched P m)
    latch_items = latch_reads P (leveled P m) (level table m h).ready level_items first.names

    latch_named : NamesMemories (latched P m)
    latch_named = latch_names (leveled P m) (reset_names P (proc_tree_of m) (tree_names m names))

    clock_items : HasReadableItems (clocked P m)
    clock_items = sync_reads P (latched P m) (latched_ready table m h first.names) latch_named latch_items second.names

    all_items : HasReadableItems (proc_of P m)
    all_items = mux_reads P (clocked P m) (clocked_ready table m h first.names) clock_items third.names

    all_reads : IsReadableModule (proc_of P m)
    all_reads =
        within_limits (record { body = proc_of P m; next = (muxing P m).next }) all_items
        (record { cells = third.cells; bits = third.bits; names = third.names })

  pub proc_reads : (n : Module) → proc_result P m ≡ Some n → IsReadableModule n
  proc_reads n e = by (is_within (latching P m)) (is_within (clocking P m)) (is_within (muxing P m)) refl refl refl e
    where
      by : (a b c : Bool) → is_within (latching P m) ≡ a → is_within (clocking P m) ≡ b → is_within (muxing P m) ≡ c → cond (a && (b && c)) (Some (proc_of P m)) None ≡ Some n → IsReadableModule n
      by true true true f g k w =
          let same : proc_of P m ≡ n = cc in
          subst IsReadableModule same (all_reads (steps.within_limits (latching P m) f) (steps.within_limits (clocking P m) g) (steps.within_limits (muxing P m) k))
      by true true false f g k w = absurd cc
      by true false c f g k w = absurd cc
      by false b c f g k w = absurd cc
