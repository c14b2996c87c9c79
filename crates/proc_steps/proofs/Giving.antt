-- What the steps in turn keep.
use Rattle.std.proofs.Common.{◌≡◌, ◌≤◌, Bool, true, false, cond, Some, None, [], refl, ap, subst, ◌∙◌}
use Rattle.std.specs.Prelude.{◌&&◌}
use Rattle.rtl_ir.specs.declared.module.Module.{Module}
use Rattle.rtl_ir.specs.declared.ports.PortTable.{PortTable}
use Rattle.rtl_ir.specs.Scope.{with_processes, without_processes}
use Rattle.rtl_ir.specs.Types.{Ports, table_ports}
use Rattle.net_model.specs.Proc.Steps.{proc_of}
use Rattle.net_model.specs.Proc.Start.{proc_tree_of}
use Rattle.proc_laws.specs.Ready.{AreRuled, HasItsBits, HaveNoStarts, IsReady}
use Rattle.proc_laws.specs.Step.{IsStep}
use Rattle.proc_laws.proofs.Taking.{ready_without}
use Rattle.proc_laws.proofs.Turns.{IsStep_refl, IsStep_trans}
use Rattle.proc_tree.proofs.Promised as tree
use Rattle.latch_laws.proofs.Formed as latch
use Rattle.latch_laws.proofs.Left as left
use Rattle.proc_laws.specs.Kinds.{HaveNoAlways, HaveNoTwoEdges}
use Rattle.sync_laws.specs.Lines.{WritesHaveBits}
use Rattle.sync_laws.proofs.Formed as storage
use Rattle.sync_laws.proofs.Kept.{latch_keeps, reset_keeps, tree_keeps}
use Rattle.sync_laws.proofs.Steps as written
use Rattle.sync_laws.proofs.Written.{sync_is}
use Rattle.proc_reset.specs.Promise.{Levels}
use Rattle.proc_reset.proofs.Promised.{levels}
use Rattle.proc_latch.proofs.Promised.{latch_step}
use Rattle.mux_laws.proofs.FormingModule.{mux_is, mux_ready, mux_step}
use Rattle.proc_steps.specs.Limits.{is_within}
use Rattle.proc_steps.specs.Steps.{Gives, MayBegin, clocked, clocking, latched, latching, leveled, muxing, proc_result}
use Rattle.proc_steps.proofs.Limits.{within_limits}
use Rattle.proc_steps.proofs.Trees.{tree_trees}

-- ---- the module itself
module _ (table : PortTable) (m : Module) (h : MayBegin table m) where
  abbrev P : Ports
  P = table_ports table.modules

  -- ---- switches and start values
  ruling : IsStep table m (proc_tree_of m)
  ruling = tree.tree_step table m h.placed h.ready

  pub ruled_ready : IsReady with_processes P (proc_tree_of m)
  ruled_ready = tree.tree_ready m with_processes (λ p e. e) P h.ready

  ruled_placed : HasItsBits (proc_tree_of m)
  ruled_placed = tree.bits_stay m h.placed

  -- ---- resets
  pub level : Levels table (proc_tree_of m) (leveled P m)
  level = levels table (proc_tree_of m) ruled_ready (tree.are_ruled m) (tree.have_no_starts m) ruled_placed (tree_trees m h.trees)

  -- ---- latches
  module _ (few : (latching P m).next ≤ 1000000000) where
    pub latched_ready : IsReady with_processes P (latched P m)
    latched_ready = latch.latch_ready P (leveled P m) level.ready few level.edges

    latching_step : IsStep table (leveled P m) (latched P m)
    latching_step = latch_step table (leveled P m) level.ready few level.ruled level.edges

    -- ---- flip-flops and write ports
    pub latched_ruled : AreRuled (latched P m)
    latched_ruled = left.ruled (leveled P m) level.ruled

    latched_always : HaveNoAlways (latched P m)
    latched_always = left.no_always (leveled P m)

    pub latched_edges : HaveNoTwoEdges (latched P m)
    latched_edges = left.no_two_edges (leveled P m) level.edges

    latched_writes : WritesHaveBits (latched P m)
    latched_writes = latch_keeps (leveled P m) (reset_keeps P (proc_tree_of m) (tree_keeps m h.writes))

    pub latched_starts : HaveNoStarts (latched P m)
    latched_starts = left.no_starts (leveled P m) level.starts

    pub clocked_ready : IsReady with_processes P (clocked P m)
    clocked_ready = storage.stays_ready table (latched P m) latched_always latched_edges latched_writes latched_ready

    clocking_step : IsStep table (latched P m) (clocked P m)
    clocking_step = written.is_step table (latched P m) latched_ready latched_always latched_edges latched_starts

    -- ---- multiplexers
    module _ (fewer : (muxing P m).next ≤ 1000000000) where
      muxing_step : IsStep table (clocked P m) (proc_of P m)
      muxing_step = mux_step table (clocked P m) clocked_ready (written.are_ruled (latched P m) latched_ruled) (written.none_left (latched P m)) fewer

      -- all of them
      pub all_steps : IsStep table m (proc_of P m)
      all_steps =
          IsStep_trans table m (proc_tree_of m) (proc_of P m) ruling
          (IsStep_trans table (proc_tree_of m) (leveled P m) (proc_of P m) level.step
          (IsStep_trans table (leveled P m) (latched P m) (proc_of P m) latching_step
          (IsStep_trans table (latched P m) (clocked P m) (proc_of P m) clocking_step muxing_step)))

      pub all_ready : IsReady without_processes P (proc_of P m)
      all_ready = mux_ready P (clocked P m) clocked_ready fewer

      -- the memories stay
      pub all_stores : (proc_of P m).memories ≡ m.memories
      all_stores =
          ap (λ (n : Module). n.memories) (mux_is P (clocked P m) clocked_ready)
          ∙ ap (λ (n : Module). n.memories) (sync_is (latched P m))
          ∙ ap (λ (n : Module). n.memories) (latch.latch_is P (leveled P m) level.ready)

  -- a module without processes
  pub stays : m.processes ≡ [] → Gives table m m
  stays none = record { step = IsStep_refl table m; stores = refl; ready = ready_without P m none h.ready }

-- `proc` within the limits
pub proc_gives : (table : PortTable) (m n : Module) → MayBegin table m → proc_result (table_ports table.modules) m ≡ Some n → Gives table m n
proc_gives table m n h e = by (is_within (latching (table_ports table.modules) m)) (is_within (clocking (table_ports table.modules) m)) (is_within (muxing (table_ports table.modules) m)) refl refl e
  where
    by : (a b c : Bool) → is_within (latching (table_ports table.modules) m) ≡ a → is_within (muxing (table_ports table.modules) m) ≡ c → cond (a && (b && c)) (Some (proc_of (table_ports table.modules) m)) None ≡ Some n → Gives table m n
    by true true true f g w =
        let same : proc_of (table_ports table.modules) m ≡ n = cc in
        let few = (within_limits (latching (table_ports table.modules) m) f).names in
        let fewer = (within_limits (muxing (table_ports table.modules) m) g).names in
        subst (Gives table m) same
        (record { step = all_steps table m h few fewer; stores = all_stores table m h few fewer; ready = all_ready table m h few fewer })
    by true true false f g w = absurd cc
    by true false c f g w = absurd cc
    by false b c f g w = absurd cc
