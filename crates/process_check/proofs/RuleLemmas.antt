-- Which rules may stand together.
use Rattle.std.proofs.Math.Seq.{take-suc}
use Rattle.std.proofs.Common.{◌≡◌, ℕ, ◌+◌, ◌<◌, Bool, true, false, cond, not, ◌&&◌, ◌||◌, List, [], ◌∷◌, ◌++◌, length, get_or, take, add-one, refl, sym, ◌∙◌, ap, subst}
use Rattle.std.proofs.lemmas.List.Elements.{filter-append}
use Rattle.std.specs.List.{list_any, list_all}
use Rattle.std.specs.Bool.{Decides}
use Rattle.std.specs.Cmp.Lexicographic.{pointwise, pointwise_decides}
use Rattle.rtl_ir.specs.declared.module.Link.{Link}
use Rattle.rtl_ir.specs.declared.process.SyncRule.{SyncRule}
use Rattle.rtl_ir.specs.Faults.RuleKinds.{RuleKind, AtLevel, AtEdge, edges_agree, has_one_bit, is_edge, is_one_edge, kind_of_event, kinds_of, may_stand, rules_stand, same_line, writes}
use Rattle.rtl_ir.proofs.SamePlaces.{signal-decides}
use Rattle.rtl_ir.specs.Rules.{acting_rules, is_init}
use Rattle.rtl_ir.specs.Signals.{same_signal}
use Rattle.process_trees.specs.Acting.{acts}
use Rattle.process_check.specs.Acting.{acting_stand, is_level}
use Rattle.process_check.proofs.Among.{both}

-- equal lines are the same
line_own : (a : Link) → same_line a a ≡ true
line_own a = λ i. both_own i && (signal-decides a.right a.right).1 refl i
  where
    both_own : same_signal a.left a.left ≡ true
    both_own = (signal-decides a.left a.left).1 refl

line-decides : (a b : Link) → Decides (same_line a b) (a ≡ b)
line-decides a b = (
  λ e.
      let p = both (same_signal a.left b.left) (same_signal a.right b.right) e in
      let left = (signal-decides a.left b.left).0 p.0 in
      let right = (signal-decides a.right b.right).0 p.1 in
      (λ i. record { left = left i; right = right i }),
  λ e. subst (λ c. same_line a c ≡ true) e (line_own a),
)

pub lines-decides : (a b : List Link) → Decides (pointwise same_line a b) (a ≡ b)
lines-decides = pointwise_decides line-decides

-- two kinds that may stand together
pub pair_may : (k l : RuleKind) → ((is_edge k && (is_edge l || is_level l)) || (is_level k && is_edge l)) ≡ may_stand (k ∷ l ∷ [])
pair_may AtEdge AtEdge = refl
pair_may AtEdge AtLevel = refl
pair_may AtEdge l = refl
pair_may AtLevel AtEdge = refl
pair_may AtLevel l = refl
pair_may k l = refl

-- the rules that act, one rule further
pub acting_next : (rules : List SyncRule) (i : ℕ) (r : SyncRule) → i < length rules → r ≡ get_or rules i r
    → acting_rules (take (i + 1) rules) ≡ acting_rules (take i rules) ++ cond (acts r) (r ∷ []) []
acting_next rules i r h is =
    let more : take (i + 1) rules ≡ take i rules ++ r ∷ [] = ap (λ n. take n rules) (add-one i) ∙ take-suc rules i r h ∙ (λ j. take i rules ++ sym is j ∷ []) in
    ap acting_rules more ∙ filter-append acts (take i rules) (r ∷ [])

-- the rules, of which all parts stand
pub parts_stand : (rules : List SyncRule) → (acting_stand (acting_rules rules) && not (list_any (λ (r : SyncRule). is_init r.event && writes r) rules)) ≡ rules_stand rules
parts_stand rules =
    by (may_stand (kinds_of (acting_rules rules))) (edges_agree (acting_rules rules)) (list_all (λ (r : SyncRule). has_one_bit r.event) (acting_rules rules))
    (not (list_any writes (acting_rules rules)) || is_one_edge (kinds_of (acting_rules rules)))
    (not (list_any (λ (r : SyncRule). is_init r.event && writes r) rules))
  where
    by : (a b c d e : Bool) → ((((a && b) && c) && d) && e) ≡ (((a && b) && c) && (e && d))
    by true true true true true = refl
    by true true true true false = refl
    by true true true false true = refl
    by true true true false false = refl
    by true true false d e = refl
    by true false c d e = refl
    by false b c d e = refl

-- three or more rules do not
pub several_fall : (rules : List SyncRule) (a b c : SyncRule) (rest : List SyncRule) → rules ≡ a ∷ b ∷ c ∷ rest → acting_stand rules ≡ false
several_fall rules a b c rest e =
    ap acting_stand e ∙ ap (λ t. ((t && edges_agree (a ∷ b ∷ c ∷ rest)) && list_all (λ (r : SyncRule). has_one_bit r.event) (a ∷ b ∷ c ∷ rest)) && (not (list_any writes (a ∷ b ∷ c ∷ rest)) || is_one_edge (kinds_of (a ∷ b ∷ c ∷ rest)))) (by (kind_of_event a.event) (kind_of_event b.event) (kind_of_event c.event) (kinds_of rest))
  where
    by : (j k l : RuleKind) (ks : List RuleKind) → may_stand (j ∷ k ∷ l ∷ ks) ≡ false
    by AtEdge AtEdge l ks = refl
    by AtEdge AtLevel l ks = refl
    by AtEdge k l ks = refl
    by AtLevel AtEdge l ks = refl
    by AtLevel k l ks = refl
    by j k l ks = refl

-- the rules as they are found to stand
pub all_found : (rules : List SyncRule) (stand some : Bool) → stand ≡ acting_stand (acting_rules rules) → some ≡ list_any (λ (r : SyncRule). is_init r.event && writes r) rules
    → (stand && not some) ≡ rules_stand rules
all_found rules stand some a b = (λ i. a i && not (b i)) ∙ parts_stand rules
