-- Which rules a process may have together.
use Rattle.std.specs.Prelude.{Bool, true, false, not, ◌&&◌, ◌||◌, List, [], ◌∷◌, map}
use Rattle.std.specs.Cmp.Lexicographic.{pointwise}
use Rattle.std.specs.List.{list_any, list_all}
use Rattle.rtl_sig.specs.declared.sig.SigBit.{SigBit}
use Rattle.rtl_sig.specs.declared.sig.SigBit.TheVariants as sig
use Rattle.rtl_ir.specs.declared.module.Link.{Link}
use Rattle.rtl_ir.specs.declared.process.Event.{Event}
use Rattle.rtl_ir.specs.declared.process.Event.TheVariants.{Low, High, Posedge, Negedge, Edge, Global, Init, Always}
use Rattle.rtl_ir.specs.declared.process.SyncRule.{SyncRule}
use Rattle.rtl_ir.specs.Rules.{acting_rules, has_item, is_init}
use Rattle.rtl_ir.specs.Signals.{same_signal}

-- how a rule acts: at a level, at one edge, at both edges of a signal, in each step, or always
pub data RuleKind : Type 0 where
  AtLevel : RuleKind
  AtEdge : RuleKind
  AtBothEdges : RuleKind
  AtSteps : RuleKind
  AtAll : RuleKind
  AtStart : RuleKind

abbrev pub kind_of_event : Event → RuleKind
kind_of_event (Low signal) = AtLevel
kind_of_event (High signal) = AtLevel
kind_of_event (Posedge signal) = AtEdge
kind_of_event (Negedge signal) = AtEdge
kind_of_event (Edge signal) = AtBothEdges
kind_of_event Global = AtSteps
kind_of_event Always = AtAll
kind_of_event Init = AtStart

-- the kinds that may stand together: none, one but for both edges, an edge and a level, two edges
abbrev pub may_stand : List RuleKind → Bool
may_stand [] = true
may_stand (AtAll ∷ []) = true
may_stand (AtSteps ∷ []) = true
may_stand (AtEdge ∷ []) = true
may_stand (AtLevel ∷ []) = true
may_stand (AtEdge ∷ AtLevel ∷ []) = true
may_stand (AtLevel ∷ AtEdge ∷ []) = true
may_stand (AtEdge ∷ AtEdge ∷ []) = true
may_stand kinds = false

-- the kinds of the rules
abbrev pub kinds_of : List SyncRule → List RuleKind
kinds_of rules = map (λ (r : SyncRule). kind_of_event r.event) rules

-- two lines with equal sides
abbrev pub same_line : Link → Link → Bool
same_line a b = same_signal a.left b.left && same_signal a.right b.right

-- two rules with equal lines that update, line by line
abbrev pub same_updates : SyncRule → SyncRule → Bool
same_updates a b = pointwise same_line a.updates b.updates

-- the kind of one edge
abbrev pub is_edge : RuleKind → Bool
is_edge AtEdge = true
is_edge kind = false

-- where two rules are at edges, they have the same updates
abbrev pub edges_agree : List SyncRule → Bool
edges_agree (a ∷ b ∷ []) = not (is_edge (kind_of_event a.event) && is_edge (kind_of_event b.event)) || same_updates a b
edges_agree rules = true

-- a signal is one bit of a wire
abbrev pub is_one_bit : List SigBit → Bool
is_one_bit (sig.Wire b ∷ []) = true
is_one_bit signal = false

-- the signal of an event, where it has one, is one bit of a wire
abbrev pub has_one_bit : Event → Bool
has_one_bit (Low signal) = is_one_bit signal
has_one_bit (High signal) = is_one_bit signal
has_one_bit (Posedge signal) = is_one_bit signal
has_one_bit (Negedge signal) = is_one_bit signal
has_one_bit (Edge signal) = is_one_bit signal
has_one_bit event = true

-- one rule, at an edge
abbrev pub is_one_edge : List RuleKind → Bool
is_one_edge (AtEdge ∷ []) = true
is_one_edge kinds = false

-- a rule has a line that writes
abbrev pub writes : SyncRule → Bool
writes r = has_item r.writes

-- the lines that write stand in a process with one rule, at an edge, and not among start values
abbrev pub writes_stand : List SyncRule → Bool
writes_stand rules =
    not (list_any (λ (r : SyncRule). is_init r.event && writes r) rules)
    && (not (list_any writes (acting_rules rules)) || is_one_edge (kinds_of (acting_rules rules)))

-- the rules of a process may stand together, and each of their events has one bit of a wire
abbrev pub rules_stand : List SyncRule → Bool
rules_stand rules =
    may_stand (kinds_of (acting_rules rules))
    && edges_agree (acting_rules rules)
    && list_all (λ (r : SyncRule). has_one_bit r.event) (acting_rules rules)
    && writes_stand rules
