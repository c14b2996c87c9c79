-- What a table learns on a way.
use Rattle.std.proofs.Common.{◌≡◌, ℕ, suc, ◌+◌, ◌<◌, ◌≤◌, List, length, Some, None, cond, Bool, true, false, ◌⊎◌, inl, inr, refl, sym, ap, subst, arith}
use Rattle.rtl_sig.specs.declared.sig.SigBit.{SigBit}
use Rattle.rtl_sig.specs.declared.sig.SigBit.TheVariants as sig
use Rattle.rtl_sig.specs.declared.sig.WireBit.{WireBit}
use Rattle.rtl_ir.specs.Follow.{follow_joins}
use Rattle.rtl_ir.specs.declared.follow.Join.{Join}
use Rattle.rtl_ir.specs.Signals.{same_bit}
use Rattle.net_index.proofs.IndexTables.{same_bit-true}
use Rattle.net_alias.specs.Aliases.{AreAliases, IsStep, Reaches}
use Rattle.net_alias.specs.StepTable.{at_bit, at_sig, IsLearnt}
use Rattle.net_alias.specs.declared.aliases.Aliases.{Aliases}
use Rattle.net_alias.specs.declared.step_table.Step.{Step}
use Rattle.net_alias.specs.declared.step_table.Step.TheVariants.{To, Loop}
use Rattle.net_alias.specs.declared.step_table.StepTable.{StepTable}
use Rattle.net_alias.proofs.Steps.{far_runs, loop_follows, reach_on, runs_follow, step_on, stop_follows}

-- a table that learns nothing
pub not_learnt : (table : StepTable) (bit : SigBit) (step : Step) → IsLearnt table table bit step
not_learnt table bit step = record { all = λ s. inl refl }

-- a step that is put is learnt
pub put_learnt : (old new : StepTable) (bit : WireBit) (step : Step) → ((b : WireBit) → at_bit new b ≡ cond (same_bit bit b) (Some step) (at_bit old b)) → IsLearnt old new (sig.Wire bit) step
put_learnt old new bit step put = record { all = all }
  where
    all : (s : SigBit) → (at_sig new s ≡ at_sig old s) ⊎ ((s ≡ sig.Wire bit) × (at_sig new s ≡ Some step))
    all (sig.Fixed c) = inl refl
    all (sig.Wire b) = by (same_bit bit b) refl (put b)
      where
        by : (t : Bool) → same_bit bit b ≡ t → at_bit new b ≡ cond t (Some step) (at_bit old b) → (at_bit new b ≡ at_bit old b) ⊎ ((sig.Wire b ≡ sig.Wire bit) × (at_bit new b ≡ Some step))
        by true e f = inr (ap sig.Wire (sym (same_bit-true bit b e)), f)
        by false e f = inl f

-- the second step is one of the bit
pub second_known : (aliases : Aliases) (js : List Join) (bit next : SigBit) (second : Step)
    → at_sig aliases.table bit ≡ Some (To next) → at_sig aliases.table next ≡ Some second → AreAliases aliases js → IsStep js bit (Some second)
second_known aliases js bit next second one two are =
    step_on js bit next second (subst (IsStep js bit) one (are.known bit)) (subst (IsStep js next) two (are.known next))

-- what is learnt is so
pub learnt_are : (old new : Aliases) (js : List Join) (bit next : SigBit) (second : Step)
    → at_sig old.table bit ≡ Some (To next) → at_sig old.table next ≡ Some second → IsLearnt old.table new.table bit second → new.steps ≡ old.steps → AreAliases old js → AreAliases new js
learnt_are old new js bit next second one two learnt same are = record {
  steps = omega (arith, same, are.steps);
  known = λ s. by s (learnt.all s);
}
  where
    by : (s : SigBit) → (at_sig new.table s ≡ at_sig old.table s) ⊎ ((s ≡ bit) × (at_sig new.table s ≡ Some second)) → IsStep js s (at_sig new.table s)
    by s (inl e) = rw e (are.known s)
    by s (inr h) = rw h.1 (subst (λ x. IsStep js x (Some second)) (sym h.0) (second_known old js bit next second one two are))

-- so many steps were made from a bit, at least, and lead to this one
pub record Walked (js : List Join) (bit at : SigBit) (step : ℕ) : Type 0 where
  pub count : ℕ
  pub many : step ≤ count
  pub way : Reaches js count bit at

pub walked_start : (js : List Join) (bit : SigBit) → Walked js bit bit 0
walked_start js bit = record { count = 0; many = omega arith; way = refl }

pub walked_on : (js : List Join) (bit at next : SigBit) (step : ℕ) → Walked js bit at step → IsStep js at (Some (To next)) → Walked js bit next (step + 1)
walked_on js bit at next step w h = record { count = w.count + suc h.0; many = omega (arith, w.many); way = reach_on js w.count (suc h.0) bit at next w.way h.1 }

pub walked_end : (js : List Join) (bit at : SigBit) (step : ℕ) → Walked js bit at step → IsStep js at None → at ≡ follow_joins js bit
walked_end js bit at step w h = stop_follows js w.count bit at w.way h

pub walked_loop : (js : List Join) (bit at : SigBit) (step : ℕ) → Walked js bit at step → IsStep js at (Some Loop) → bit ≡ follow_joins js bit
walked_loop js bit at step w h = loop_follows js w.count bit at w.way h

pub walked_far : (js : List Join) (bit at : SigBit) (step : ℕ) → Walked js bit at step → length js < step → bit ≡ follow_joins js bit
walked_far js bit at step w far = runs_follow js bit (far_runs js w.count bit at w.way (omega (arith, w.many)))
