-- One machine after another: what is left to do, and whether it stays within the limits.
use Rattle.std.proofs.Common.{◌≡◌, ◌≤◌, nat_lt, ◌+◌, ◌-◌, ℕ, zero, suc, Bool, true, false, [], None, refl, sym, ◌∙◌, ap, arith}
use Rattle.std.proofs.lemmas.Bool.Decides.{nat_tests}
use Rattle.std.specs.Prelude.{◌&&◌}
use Rattle.std.specs.Option.{option_map_or}
use Rattle.rtl_ir.specs.Build.{Building}
use Rattle.rtl_ir.specs.declared.machine.Machine.{Machine}
use Rattle.rtl_ir.specs.declared.module.Module.{Module}
use Rattle.rtl_ir.specs.Types.{Ports}
use Rattle.net_index.specs.Builder.{IsInLimits, PassesLimit}
use Rattle.net_model.specs.Fsm.Code.{recoded_of, wires_recoded}
use Rattle.net_model.specs.Fsm.Find.{machine_of}
use Rattle.fsm_code.specs.Limits.{recoding, widened}
use Rattle.fsm_code.proofs.Giving.{recoding_is, stays}
use Rattle.fsm_steps.specs.Search.{HasNone, IsNext}
use Rattle.fsm_steps.specs.Within.{are_within, is_within, machine_within}

pub within_limits : (b : Building) → is_within b ≡ true → IsInLimits b
unfolding is_within
within_limits b e = record { cells = grind (arith, nat_tests); bits = grind (arith, nat_tests); names = grind (arith, nat_tests) }

limits_within : (b : Building) → IsInLimits b → is_within b ≡ true
unfolding is_within
limits_within b h =
    let c = h.cells in
    let w = h.bits in
    let n = h.names in
    grind (arith, nat_tests)

limits_passed : (b : Building) → PassesLimit b → is_within b ≡ false
limits_passed b over = by (is_within b) refl
  where
    by : (t : Bool) → is_within b ≡ t → is_within b ≡ false
    by false e = e
    by true e = absurd (over (within_limits b e))

module _ (ports : Ports) (m : Module) where
  none_left : (at n : ℕ) → machine_of ports m at ≡ None → wires_recoded ports at (suc n) m ≡ wires_recoded ports (at + 1) n m
  none_left at n e = ap (λ o. wires_recoded ports (at + 1) n (option_map_or (recoded_of m) o m)) e

  none_within : (at n : ℕ) → machine_of ports m at ≡ None → are_within ports at (suc n) m ≡ are_within ports (at + 1) n m
  none_within at n e = ap (λ o. machine_within m o && are_within ports (at + 1) n (option_map_or (recoded_of m) o m)) e

  -- what is left from a place on, behind wires of which none is a state wire
  pub skip_left : (k at n count there : ℕ) → count ≡ k + n → there ≡ at + k → HasNone ports m at there → wires_recoded ports at count m ≡ wires_recoded ports there n m
  skip_left zero at n count there c e none =
      let same : count ≡ n = omega (arith, c) in
      let place : at ≡ there = omega (arith, e) in
      λ i. wires_recoded ports (place i) (same i) m
  skip_left (suc k) at n count there c e none =
      let one : count ≡ suc (k + n) = omega (arith, c) in
      ap (λ x. wires_recoded ports at x m) one
      ∙ none_left at (k + n) (none at (omega arith) (omega (arith, e)))
      ∙ skip_left k (at + 1) n (k + n) there refl (omega (arith, e)) (λ j a b. none j (omega (arith, a)) b)

  pub skip_within : (k at n count there : ℕ) → count ≡ k + n → there ≡ at + k → HasNone ports m at there → are_within ports at count m ≡ are_within ports there n m
  skip_within zero at n count there c e none =
      let same : count ≡ n = omega (arith, c) in
      let place : at ≡ there = omega (arith, e) in
      λ i. are_within ports (place i) (same i) m
  skip_within (suc k) at n count there c e none =
      let one : count ≡ suc (k + n) = omega (arith, c) in
      ap (λ x. are_within ports at x m) one
      ∙ none_within at (k + n) (none at (omega arith) (omega (arith, e)))
      ∙ skip_within k (at + 1) n (k + n) there refl (omega (arith, e)) (λ j a b. none j (omega (arith, a)) b)

  -- at a state wire
  module _ (from end wire : ℕ) (machine : Machine) (is : IsNext ports m from end wire machine) where
    pub next_left : (left rest : ℕ) → left ≡ end - from → rest ≡ end - (wire + 1) → wires_recoded ports from left m ≡ wires_recoded ports (wire + 1) rest (recoded_of m machine)
    next_left left rest l r =
        skip_left (wire - from) from (suc rest) left wire (omega (arith, l, r, is.after, is.before)) (omega (arith, is.after)) is.none
        ∙ ap (λ o. wires_recoded ports (wire + 1) rest (option_map_or (recoded_of m) o m)) is.is

    pub next_within : (left rest : ℕ) → left ≡ end - from → rest ≡ end - (wire + 1) → are_within ports from left m ≡ (is_within (widened m machine) && are_within ports (wire + 1) rest (recoded_of m machine))
    next_within left rest l r =
        skip_within (wire - from) from (suc rest) left wire (omega (arith, l, r, is.after, is.before)) (omega (arith, is.after)) is.none
        ∙ ap (λ o. machine_within m o && are_within ports (wire + 1) rest (option_map_or (recoded_of m) o m)) is.is

    pub step_within : IsInLimits (recoding m machine) → is_within (widened m machine) ≡ true
    step_within h = ap is_within (sym (recoding_is ports m wire machine is.is)) ∙ limits_within (recoding m machine) h

    pub step_passes : PassesLimit (recoding m machine) → is_within (widened m machine) ≡ false
    step_passes h = ap is_within (sym (recoding_is ports m wire machine is.is)) ∙ limits_passed (recoding m machine) h

-- no process comes
pub processes_stay : (m : Module) (machine : Machine) → (recoded_of m machine).processes ≡ m.processes
processes_stay m machine = stays (λ n. n.processes ≡ m.processes) m machine refl (λ state. refl)

-- one wire more that is none
pub none_more : (ports : Ports) (m : Module) (from wire : ℕ) → HasNone ports m from wire → machine_of ports m wire ≡ None → HasNone ports m from (wire + 1)
none_more ports m from wire none e k a b = by (nat_lt k wire) refl
  where
    by : (t : Bool) → nat_lt k wire ≡ t → machine_of ports m k ≡ None
    by true f = none k a (grind (arith, nat_tests))
    by false f =
        let same : k ≡ wire = grind (arith, nat_tests) in
        ap (machine_of ports m) same ∙ e

-- where none is left, nothing is left to do
module _ (ports : Ports) (m : Module) (from end : ℕ) (inside : from ≤ end) (none : HasNone ports m from end) where
  pub all_left : wires_recoded ports from (end - from) m ≡ m
  all_left = skip_left ports m (end - from) from 0 (end - from) end (omega arith) (omega (arith, inside)) none

  pub all_within : are_within ports from (end - from) m ≡ true
  all_within = skip_within ports m (end - from) from 0 (end - from) end (omega arith) (omega (arith, inside)) none

-- behind a state wire as much is left as before it
module _ (ports : Ports) (m : Module) (from end wire : ℕ) (machine : Machine) (is : IsNext ports m from end wire machine) (n : Module) (same : n ≡ recoded_of m machine) where
  pub goes_free : m.processes ≡ [] → n.processes ≡ []
  goes_free free = ap (λ (x : Module). x.processes) same ∙ processes_stay m machine ∙ free

  pub goes_left : wires_recoded ports (wire + 1) (end - (wire + 1)) n ≡ wires_recoded ports from (end - from) m
  goes_left =
      ap (wires_recoded ports (wire + 1) (end - (wire + 1))) same
      ∙ sym (next_left ports m from end wire machine is (end - from) (end - (wire + 1)) refl refl)

  pub goes_within : IsInLimits (recoding m machine) → are_within ports (wire + 1) (end - (wire + 1)) n ≡ are_within ports from (end - from) m
  goes_within limits =
      ap (are_within ports (wire + 1) (end - (wire + 1))) same
      ∙ ap (λ t. t && are_within ports (wire + 1) (end - (wire + 1)) (recoded_of m machine)) (sym (step_within ports m from end wire machine is limits))
      ∙ sym (next_within ports m from end wire machine is (end - from) (end - (wire + 1)) refl refl)
