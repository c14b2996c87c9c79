use Rattle.std.proofs.Common.{◌≡◌, true, false, List, length, subst}
use Rattle.std.specs.Prelude.{MatchOption}
use Rattle.rtl_bits.specs.declared.bit.Bit.{Bit}
use Rattle.net_model.specs.Fsm.Find.{in_state_order}
use Rattle.fsm_find.specs.Starts.{is_count}
use Rattle.fsm_find.proofs.Counting.{many_states}
use Rattle.fsm_find.proofs.TreeFound.{none_case, some_case}
use Rattle.fsm_find.proofs.starts.counted_states.Goals as goal

pub returns-in-Some : goal.returns-in-Some
returns-in-Some c = record {
  value = subst (λ (l : List (List Bit)). MatchOption c.if_counted.result (is_count (length l) ≡ false) (λ s. (s.items ≡ l) × (is_count (length l) ≡ true))) (some_case _ _ _ _ c.in-Some.is c.in_ok-states.ensures.value) c.if_counted.ensures.value;
}

pub returns-in-None : goal.returns-in-None
returns-in-None c = record { value = many_states (length (in_state_order c.args.list.now)) (none_case _ _ _ c.in-None.is c.in_ok-states.ensures.value) }
