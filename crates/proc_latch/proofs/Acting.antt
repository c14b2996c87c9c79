-- The rules that act, one after another.
use Rattle.std.proofs.Common.{◌≡◌, ℕ, suc, ◌+◌, ◌<◌, Bool, true, false, List, [], ◌∷◌, length, drop, get_or, Some, None, if◌then◌else◌, refl, sym, ◌∙◌, ap, add-one}
use Rattle.std.specs.Prelude.{◌||◌}
use Rattle.std.specs.List.{list_any}
use Rattle.std.proofs.Math.Seq.{drop-cons}
use Rattle.rtl_ir.specs.declared.process.SyncRule.{SyncRule}
use Rattle.rtl_ir.specs.Rules.{acting_rules}
use Rattle.process_trees.specs.Acting.{acts}
use Rattle.proc_latch.specs.Steps.{lone}

-- where one rule acts, and none behind it, it is the only one
pub lone_at : (rules : List SyncRule) (at : ℕ) (r : SyncRule) → at < length rules → r ≡ get_or rules at r → acts r ≡ true → acting_rules (drop at rules) ≡ acting_rules rules → lone (acting_rules rules) ≡ (if list_any acts (drop (at + 1) rules) then None else Some r)
lone_at rules at r h e here left =
    ap lone (sym left ∙ ap acting_rules (drop-cons rules at r h ∙ ap (λ x. x ∷ drop (suc at) rules) (sym e)))
    ∙ first (acts r) here
    ∙ ap (λ n. if list_any acts (drop n rules) then None else Some r) (sym (add-one at))
  where
    rest : (ls : List SyncRule) → lone (r ∷ acting_rules ls) ≡ (if list_any acts ls then None else Some r)
    rest [] = refl
    rest (l ∷ ls) = by (acts l) (rest ls)
      where
        by : (t : Bool) → lone (r ∷ acting_rules ls) ≡ (if list_any acts ls then None else Some r) → lone (r ∷ (if t then l ∷ acting_rules ls else acting_rules ls)) ≡ (if t || list_any acts ls then None else Some r)
        by true g = refl
        by false g = g

    first : (t : Bool) → t ≡ true → lone (if t then r ∷ acting_rules (drop (suc at) rules) else acting_rules (drop (suc at) rules)) ≡ (if list_any acts (drop (suc at) rules) then None else Some r)
    first true f = rest (drop (suc at) rules)
    first false f = absurd (cc)
