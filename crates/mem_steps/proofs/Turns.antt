-- One memory after another: what is left to do, and whether it stays within the limits.
use Rattle.std.proofs.Common.{◌≡◌, ◌<◌, ◌+◌, Bool, true, false, List, [], ◌∷◌, ◌++◌, length, Some, refl, sym, ◌∙◌, ap, arith}
use Rattle.std.proofs.lemmas.Bool.{eqb-true}
use Rattle.std.proofs.lemmas.Bool.Decides.{nat_tests}
use Rattle.std.specs.Prelude.{◌&&◌, ◌==◌, drop, option_map, slice_get, slice_index_or, take}
use Rattle.rtl_ir.specs.Build.{Building, building_of}
use Rattle.rtl_ir.specs.declared.module.Module.{Module}
use Rattle.rtl_ir.specs.declared.plan.MemPlan.{MemPlan}
use Rattle.rtl_ir.specs.declared.store.Store.{Store}
use Rattle.net_index.specs.Builder.{IsInLimits, PassesLimit}
use Rattle.net_model.specs.Mem.Expand.{building_without, expanded_memory, first_memory, memories_gone, memory_of, memory_step}
use Rattle.net_model.specs.Mem.Gather.{gathered, plan_of}
use Rattle.mem_map.specs.Limits.{ExpandPassesLimit, expanded, no_store, planned_store}
use Rattle.memory_laws.proofs.MadeSteps.{memory_makes}
use Rattle.mem_steps.specs.Within.{are_within, first_within, is_within}

pub within_limits : (b : Building) → is_within b ≡ true → IsInLimits b
unfolding is_within
within_limits b e = record { cells = grind (arith, nat_tests); bits = grind (arith, nat_tests); names = grind (arith, nat_tests) }

limits_within : (b : Building) → IsInLimits b → is_within b ≡ true
unfolding is_within
limits_within b h =
    let c = h.cells in
    let w = h.bits in
    let n = h.names in
    grind (arith, nat_tests)

limits_passed : (b : Building) → PassesLimit b → is_within b ≡ false
limits_passed b over = by (is_within b) refl
  where
    by : (t : Bool) → is_within b ≡ t → is_within b ≡ false
    by false e = e
    by true e = absurd (over (within_limits b e))

-- at the end nothing is left to do
pub at_end : (n : Module) → (length n.memories == 0) ≡ true → n ≡ memory_of n
at_end n e = sym (ap (λ k. memories_gone k n) (eqb-true (length n.memories) 0 e))

pub end_within : (n : Module) → (length n.memories == 0) ≡ true → are_within (length n.memories) n ≡ true
end_within n e = ap (λ k. are_within k n) (eqb-true (length n.memories) 0 e)

-- where the plan of the first memory is gathered
module _ (m : Module) (plan : MemPlan) (gathers : Some plan ≡ plan_of m 0) where
  module _ (s : Store) (rest : List Store) (are : m.memories ≡ s ∷ rest) where
    abbrev next : Module
    next = expanded_memory m (gathered m 0 s) s

    plan_is : plan ≡ gathered m 0 s
    plan_is =
        let same : Some plan ≡ Some (gathered m 0 s) = gathers ∙ ap (λ ss. option_map (gathered m 0) (slice_get ss 0)) are in
        cc

    pub store_is : planned_store m plan ≡ s
    store_is = λ i. slice_index_or (are i) ((plan_is i).store) no_store

    building_is : expanded m plan ≡ memory_step (gathered m 0 s) s (building_without 0 s m)
    building_is = λ i. memory_step (plan_is i) (store_is i) (building_without ((plan_is i).store) (store_is i) m)

    next_is : expanded_memory m plan (planned_store m plan) ≡ next
    next_is = λ i. expanded_memory m (plan_is i) (store_is i)

    rest_left : next.memories ≡ rest
    rest_left =
        ap (λ (ss : List Store). take 0 ss ++ drop (0 + 1) ss)
        (ap (λ (n : Module). n.memories) (memory_makes (gathered m 0 s) s (building_of m)).body ∙ are)

    same_end : memory_of next ≡ memory_of m
    same_end =
        ap (λ (ss : List Store). memories_gone (length ss) next) rest_left
        ∙ sym (ap (λ (ss : List Store). memories_gone (length ss) m) are ∙ ap (λ ss. memories_gone (length rest) (first_memory m ss)) are)

    all_within : are_within (length m.memories) m ≡ (is_within (expanded m plan) && are_within (length next.memories) next)
    all_within =
        ap (λ (ss : List Store). are_within (length ss) m) are
        ∙ ap (λ ss. first_within m ss && are_within (length rest) (first_memory m ss)) are
        ∙ (λ i. is_within (sym building_is i) && are_within (length (sym rest_left i)) next)

  pub in_range : 0 < length m.memories → plan.store < length m.memories
  in_range some = by m.memories refl
    where
      by : (ss : List Store) → m.memories ≡ ss → plan.store < length m.memories
      by [] e = let count = ap (λ (ss : List Store). length ss) e in absurd (omega (arith, count))
      by (s ∷ rest) e = let first : plan.store ≡ 0 = ap (λ (p : MemPlan). p.store) (plan_is s rest e) in omega (arith, first)

  -- the module after the first memory: as much is left to do, and one memory less
  pub record Goes (n : Module) : Type 0 where
    pub end : memory_of n ≡ memory_of m
    pub within : are_within (length n.memories) n ≡ are_within (length m.memories) m
    pub fewer : length n.memories < length m.memories

  module _ (some : (length m.memories == 0) ≡ false) where
    pub goes : (n : Module) → n ≡ expanded_memory m plan (planned_store m plan) → IsInLimits (expanded m plan) → Goes n
    goes n is limits = by m.memories refl
      where
        by : (ss : List Store) → m.memories ≡ ss → Goes n
        by [] e = let differ : true ≡ false = sym (ap (λ (ss : List Store). length ss == 0) e) ∙ some in absurd (cc)
        by (s ∷ rest) e =
            let same : n ≡ next s rest e = is ∙ next_is s rest e in
            let inside : are_within (length m.memories) m ≡ are_within (length (next s rest e).memories) (next s rest e) =
            all_within s rest e ∙ ap (λ t. t && are_within (length (next s rest e).memories) (next s rest e)) (limits_within (expanded m plan) limits) in
            let left = ap (λ (k : Module). length k.memories) same in
            let count = ap (λ (ss : List Store). length ss) (rest_left s rest e) in
            let all = ap (λ (ss : List Store). length ss) e in
            record {
              end = ap memory_of same ∙ same_end s rest e;
              within = ap (λ (k : Module). are_within (length k.memories) k) same ∙ sym inside;
              fewer = omega (arith, left, count, all);
            }

    pub passes : ExpandPassesLimit m plan → are_within (length m.memories) m ≡ false
    passes over = by m.memories refl
      where
        by : (ss : List Store) → m.memories ≡ ss → are_within (length m.memories) m ≡ false
        by [] e = let differ : true ≡ false = sym (ap (λ (ss : List Store). length ss == 0) e) ∙ some in absurd (cc)
        by (s ∷ rest) e =
            all_within s rest e ∙ ap (λ t. t && are_within (length (next s rest e).memories) (next s rest e)) (limits_passed (expanded m plan) over)
