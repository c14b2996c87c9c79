-- The rules that act, as far as they may stand together.
use Rattle.std.specs.Prelude.{Bool, true, false, not, ◌&&◌, ◌||◌, List}
use Rattle.std.specs.List.{list_any, list_all}
use Rattle.rtl_ir.specs.declared.process.SyncRule.{SyncRule}
use Rattle.rtl_ir.specs.Faults.RuleKinds.{RuleKind, AtLevel, edges_agree, has_one_bit, is_one_edge, kinds_of, may_stand, writes}

-- the kind of a level
abbrev pub is_level : RuleKind → Bool
is_level AtLevel = true
is_level kind = false

-- these rules may act together, and each of their events has one bit of a wire
abbrev pub acting_stand : List SyncRule → Bool
acting_stand rules =
    may_stand (kinds_of rules)
    && edges_agree rules
    && list_all (λ (r : SyncRule). has_one_bit r.event) rules
    && (not (list_any writes rules) || is_one_edge (kinds_of rules))
