-- The traces of a module's source and of the module in the netlist.
use Rattle.std.specs.Prelude.{◌≡◌, ◌⊎◌, ℕ, List, [], ◌∷◌, Some}
use Rattle.rtl_bits.specs.declared.bit.Bit.{Bit}
use Rattle.rtl_ir.specs.declared.module.Module.{Module}
use Rattle.net_model.specs.declared.order.Order.{Order}
use Rattle.sim_trace.specs.Stimulus.{trace_text}
use Rattle.desk_core.specs.Answers.{netlist_reply, netlist_run_answer, source_answer, source_reply}
use Rattle.desk_core.specs.Netlist.{netlist_of}
use Rattle.desk_core.specs.State.{State}

-- a character of a trace says no more than another: it is x or z, or the two are the same
abbrev pub SaysNoMore : ℕ → ℕ → Type 0
SaysNoMore a b = (a ≡ 120) ⊎ ((a ≡ 122) ⊎ (a ≡ b))

-- a trace is below another: it has as many characters, and each says no more than the one in its place
abbrev pub IsTraceBelow : List ℕ → List ℕ → Type 0
IsTraceBelow [] [] = Unit {0}
IsTraceBelow [] (b ∷ bs) = ⊥
IsTraceBelow (a ∷ as') [] = ⊥
IsTraceBelow (a ∷ as') (b ∷ bs) = SaysNoMore a b × IsTraceBelow as' bs

-- `sim source` and `sim netlist` of a module over a stimulus are answered in an order of time with traces, and the first is below
-- the second
pub record HasTraces (s : State) (order : Order) (name text : List ℕ) : Type 0 where
  pub source : Module
  pub target : Module
  pub stimulus : List (List Bit)
  pub source_is : (source_answer s order name text).reply ≡ source_reply s order source stimulus
  pub netlist_is : (netlist_run_answer s order name text).reply ≡ netlist_reply s order name stimulus (Some target)
  pub below : IsTraceBelow (trace_text order s.design source stimulus) (trace_text order (netlist_of s) target stimulus)
