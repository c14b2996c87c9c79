-- What each step is given, and what is answered of the limits.
use Rattle.std.proofs.Common.{◌≡◌, Bool, true, false, cond, Some, None, inl, inr, ◌⊎◌, Result, Ok, Err, refl, sym, ◌∙◌, ap, subst}
use Rattle.std.specs.Prelude.{◌&&◌, IfOk, OnOk}
use Rattle.rtl_ir.specs.declared.module.Module.{Module}
use Rattle.rtl_ir.specs.declared.ports.PortTable.{PortTable}
use Rattle.rtl_ir.specs.Build.{building_of}
use Rattle.rtl_ir.specs.Scope.{with_processes}
use Rattle.rtl_ir.specs.Types.{Ports, table_ports}
use Rattle.net_index.specs.Builder.{IsInLimits, PassesLimit}
use Rattle.net_index.specs.declared.builder_fault.PassFault.{PassFault}
use Rattle.net_model.specs.Proc.Latch.{latches_step, proc_latch_of}
use Rattle.net_model.specs.Proc.Mux.{proc_mux_of, processes_step}
use Rattle.net_model.specs.Proc.Reset.{proc_reset_of}
use Rattle.net_model.specs.Proc.Start.{proc_tree_of}
use Rattle.net_model.specs.Proc.Steps.{proc_of}
use Rattle.net_model.specs.Proc.Sync.{proc_sync_of, sync_step}
use Rattle.proc_laws.specs.Ready.{AreRuled, HaveNoStarts, IsReady}
use Rattle.proc_laws.specs.Kinds.{HaveNoAlways, HaveNoTwoEdges}
use Rattle.latch_laws.proofs.Left as left
use Rattle.proc_steps.specs.Limits.{is_within}
use Rattle.proc_steps.specs.Steps.{Gives, MayBegin, clocked, clocking, latched, latching, leveled, muxing, proc_result}
use Rattle.proc_steps.proofs.Giving.{latched_edges, latched_ready, latched_starts, level, proc_gives, ruled_ready as tree_ready}
use Rattle.proc_steps.proofs.Limits.{limits_passed, limits_within}

module _ (table : PortTable) (m : Module) (h : MayBegin table m) where
  abbrev P : Ports
  P = table_ports table.modules

  module _ (ruled : Module) (is_ruled : ruled ≡ proc_tree_of m) where
    pub ruled_ready : IsReady with_processes P ruled
    ruled_ready = subst (IsReady with_processes P) (sym is_ruled) (tree_ready table m h)

    module _ (to : Module) (is_to : to ≡ proc_reset_of P ruled) where
      pub level_is : to ≡ leveled P m
      level_is = is_to ∙ ap (proc_reset_of P) is_ruled

      pub level_ruled : AreRuled to
      level_ruled = subst AreRuled (sym level_is) (level table m h).ruled

      module _ (next : Module) (is_next : next ≡ proc_latch_of to) (inside : IsInLimits (latches_step to.processes (building_of to))) where
        pub next_is : next ≡ latched P m
        next_is = is_next ∙ ap proc_latch_of level_is

        pub latching_inside : IsInLimits (latching P m)
        latching_inside = subst (λ (n : Module). IsInLimits (latches_step n.processes (building_of n))) level_is inside

        pub next_ready : IsReady with_processes P next
        next_ready = subst (IsReady with_processes P) (sym next_is) (latched_ready table m h latching_inside.names)

        pub next_ruled : AreRuled next
        next_ruled = subst AreRuled (sym is_next) (left.ruled to level_ruled)

        pub next_always : HaveNoAlways next
        next_always = subst HaveNoAlways (sym is_next) (left.no_always to)

        pub next_starts : HaveNoStarts next
        next_starts = subst HaveNoStarts (sym next_is) (latched_starts table m h latching_inside.names)

        pub next_edges : HaveNoTwoEdges next
        next_edges = subst HaveNoTwoEdges (sym next_is) (latched_edges table m h latching_inside.names)

        module _ (last : Module) (is_last : last ≡ proc_sync_of next) (within : IsInLimits (sync_step next (building_of next))) where
          pub last_is : last ≡ clocked P m
          last_is = is_last ∙ ap proc_sync_of next_is

          pub clocking_inside : IsInLimits (clocking P m)
          clocking_inside = subst (λ (n : Module). IsInLimits (sync_step n (building_of n))) next_is within

-- ---- the limits
module _ (P : Ports) (m : Module) where
  -- three tests of which one is missed
  none_of : (a b c : Bool) → (a ≡ false) ⊎ ((b ≡ false) ⊎ (c ≡ false)) → (n : Module) → cond (a && (b && c)) (Some n) None ≡ None
  none_of true true true (inl e) n = absurd cc
  none_of true true true (inr (inl e)) n = absurd cc
  none_of true true true (inr (inr e)) n = absurd cc
  none_of true true false e n = refl
  none_of true false c e n = refl
  none_of false b c e n = refl

  pub latched_over : (to : Module) → to ≡ leveled P m → PassesLimit (latches_step to.processes (building_of to)) → proc_result P m ≡ None
  latched_over to is over =
      none_of (is_within (latching P m)) (is_within (clocking P m)) (is_within (muxing P m))
      (inl (limits_passed (latching P m) (subst (λ (n : Module). PassesLimit (latches_step n.processes (building_of n))) is over))) (proc_of P m)

  pub clocked_over : (next : Module) → next ≡ latched P m → PassesLimit (sync_step next (building_of next)) → proc_result P m ≡ None
  clocked_over next is over =
      none_of (is_within (latching P m)) (is_within (clocking P m)) (is_within (muxing P m))
      (inr (inl (limits_passed (clocking P m) (subst (λ (n : Module). PassesLimit (sync_step n (building_of n))) is over)))) (proc_of P m)

  pub muxed_over : (last : Module) → last ≡ clocked P m → PassesLimit (processes_step (building_of last) last.processes) → proc_result P m ≡ None
  muxed_over last is over =
      none_of (is_within (latching P m)) (is_within (clocking P m)) (is_within (muxing P m))
      (inr (inr (limits_passed (muxing P m) (subst (λ (n : Module). PassesLimit (processes_step (building_of n) n.processes)) is over)))) (proc_of P m)

  pub all_inside : (last after : Module) → last ≡ clocked P m → IsInLimits (latching P m) → IsInLimits (clocking P m) → IsInLimits (processes_step (building_of last) last.processes) → after ≡ proc_mux_of last → proc_result P m ≡ Some after
  all_inside last after is a b c e =
      (λ i. cond (limits_within (latching P m) a i && (limits_within (clocking P m) b i && limits_within (muxing P m) (subst (λ (n : Module). IsInLimits (processes_step (building_of n) n.processes)) is c) i)) (Some (proc_of P m)) None)
      ∙ ap Some (sym (e ∙ ap proc_mux_of is))

  pub answered : (last : Module) → last ≡ clocked P m → IsInLimits (latching P m) → IsInLimits (clocking P m) → (r : Result Module PassFault) → IfOk r (λ after. after ≡ proc_mux_of last)
      → OnOk r (IsInLimits (processes_step (building_of last) last.processes)) → IfOk r (λ after. proc_result P m ≡ Some after)
  answered last is a b (Ok after) e c = all_inside last after is a b c e
  answered last is a b (Err fault) e c = tt

-- what is answered keeps what each step keeps
pub all_given : (table : PortTable) (m : Module) → MayBegin table m → (r : Result Module PassFault) → IfOk r (λ after. proc_result (table_ports table.modules) m ≡ Some after) → IfOk r (λ after. Gives table m after)
all_given table m h (Ok after) e = proc_gives table m after h e
all_given table m h (Err fault) e = tt
