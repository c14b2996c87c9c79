use Rattle.std.proofs.Common.{◌≡◌, true, false, List, length, subst, ◌∙◌}
use Rattle.std.specs.Prelude.{MatchOption}
use Rattle.rtl_bits.specs.declared.bit.Bit.{Bit}
use Rattle.net_model.specs.Fsm.Find.{in_state_order}
use Rattle.fsm_find.specs.Starts.{is_count}
use Rattle.fsm_find.proofs.starts.states_of.Goals as goal

pub returns-clause-value : goal.returns-clause-value
returns-clause-value c =
    subst (λ (l : List (List Bit)). MatchOption c.in_ok-states.states (is_count (length (in_state_order l)) ≡ false) (λ s. (s.items ≡ in_state_order l) × (is_count (length (in_state_order l)) ≡ true)))
    (c.as_slice-slice.ensures.value ∙ c.in_ok-list.ensures.value) c.in_ok-states.ensures.value
