-- What a process drives and writes once its switches are read by the rules and it gives no start value any more.
use Rattle.std.proofs.Common.{◌≡◌, ℕ, ◌+◌, Bool, true, false, if◌then◌else◌, ◌&&◌, List, [], ◌∷◌, ◌++◌, inl, inr, length, add-zero, refl, sym, ◌∙◌, ap}
use Rattle.std.specs.Prelude.{map, filter, flat_map, not}
use Rattle.rtl_bits.specs.declared.bit.Bit.{Bit}
use Rattle.rtl_sig.specs.declared.sig.SigBit.{SigBit}
use Rattle.rtl_sig.specs.declared.sig.WireBit.{WireBit}
use Rattle.rtl_ir.specs.declared.cell.Cell.{Cell}
use Rattle.rtl_ir.specs.declared.module.Module.{Module}
use Rattle.rtl_ir.specs.declared.process.Process.{Process}
use Rattle.rtl_ir.specs.declared.process.SyncRule.{SyncRule}
use Rattle.rtl_ir.specs.declared.wire.Wire.{Wire}
use Rattle.rtl_ir.specs.Assigns.{tree_bits}
use Rattle.rtl_ir.specs.Decisions.{case_decision, expanded, leaves_of}
use Rattle.rtl_ir.specs.Flat.Access.{Access, accesses_of, cell_accesses, line_accesses, next_number, rule_accesses}
use Rattle.rtl_ir.specs.Flat.Driver.{Decided}
use Rattle.rtl_ir.specs.Flat.Pick.{pick_of, no_test}
use Rattle.rtl_ir.specs.Flat.Place.{Path}
use Rattle.rtl_ir.specs.Flat.Point.{bit_place}
use Rattle.rtl_ir.specs.Flat.Process.{process_rows, rules_rows}
use Rattle.rtl_ir.specs.Flat.Start.{first_constant, process_starts}
use Rattle.rtl_ir.specs.Follow.{all_joins}
use Rattle.rtl_ir.specs.declared.follow.Join.{Join}
use Rattle.rtl_ir.specs.Rules.{acting_rules, has_line, init_lines, is_init}
use Rattle.rtl_ir.specs.SwitchRules.{root_by_rules}
use Rattle.net_model.specs.Within.{Each}
use Rattle.net_model.specs.Proc.Start.{ruled_process}
use Rattle.proc_tree.proofs.Ruling.{root_again, tree_bits_again}

-- the rules that give no start value
abbrev pub rules_left : List SyncRule → List SyncRule
rules_left rules = filter (λ (r : SyncRule). not (is_init r.event)) rules

-- the rules that act are all left
pub acting_left : (rules : List SyncRule) → acting_rules (rules_left rules) ≡ acting_rules rules
acting_left [] = refl
acting_left (r ∷ rules) = by (is_init r.event) (has_line r) (acting_left rules) refl refl
  where
    by : (t u : Bool) → acting_rules (rules_left rules) ≡ acting_rules rules → is_init r.event ≡ t → has_line r ≡ u
        → acting_rules (if not t then r ∷ rules_left rules else rules_left rules) ≡ (if u && not t then r ∷ acting_rules rules else acting_rules rules)
    by true true e f g = e
    by true false e f g = e
    by false true e f g =
        (λ i. if g i && not (f i) then r ∷ acting_rules (rules_left rules) else acting_rules (rules_left rules)) ∙ ap (λ z. r ∷ z) e
    by false false e f g =
        (λ i. if g i && not (f i) then r ∷ acting_rules (rules_left rules) else acting_rules (rules_left rules)) ∙ e

-- no start value is left
pub no_lines_left : (rules : List SyncRule) → init_lines (rules_left rules) ≡ []
no_lines_left [] = refl
no_lines_left (r ∷ rules) = by (is_init r.event) (no_lines_left rules) refl
  where
    by : (t : Bool) → init_lines (rules_left rules) ≡ [] → is_init r.event ≡ t → init_lines (if not t then r ∷ rules_left rules else rules_left rules) ≡ []
    by true e f = e
    by false e f =
        ap (λ t. flat_map (λ (rule : SyncRule). rule.updates) (if t then r ∷ filter (λ (rule : SyncRule). is_init rule.event) (rules_left rules) else filter (λ (rule : SyncRule). is_init rule.event) (rules_left rules))) f ∙ e

pub no_starts_left : (p : Process) → process_starts (ruled_process p) ≡ []
no_starts_left p =
    ap (λ lines. map
    (λ (j : Join). record {
      bit = j.bit;
      value = first_constant (leaves_of (expanded (root_by_rules (root_by_rules p.root)) (tree_bits (root_by_rules p.root)) j.source));
    })
    (all_joins lines)) (no_lines_left p.syncs)

-- no rule that gives start values writes a memory
abbrev pub WritesNoStart : SyncRule → Type 0
WritesNoStart r = is_init r.event ≡ true → r.writes ≡ []

-- so the write ports are those of the rules that are left
writes_left : (name : List ℕ) (rules : List SyncRule) → Each WritesNoStart rules → (number : ℕ) → rule_accesses name number (rules_left rules) ≡ rule_accesses name number rules
writes_left name [] h number = refl
writes_left name (r ∷ rules) h number =
    by (is_init r.event) refl (h r (inl refl)) (writes_left name rules (λ x i. h x (inr i)))
  where
    by : (t : Bool) → is_init r.event ≡ t → WritesNoStart r → ((n : ℕ) → rule_accesses name n (rules_left rules) ≡ rule_accesses name n rules)
        → rule_accesses name number (if not t then r ∷ rules_left rules else rules_left rules) ≡ rule_accesses name number (r ∷ rules)
    by true e w left =
        left number ∙ sym (
        (λ i. line_accesses name r.event number [] (w e i) ++ rule_accesses name (number + length (line_accesses name r.event number [] (w e i))) rules)
        ∙ ap (λ n. rule_accesses name n rules) (add-zero number))
    by false e w left =
        let here : List Access = line_accesses name r.event number [] r.writes in
        ap (λ z. here ++ z) (left (number + length here))

rules_both : (xs ys : List SyncRule) → rules_left (xs ++ ys) ≡ rules_left xs ++ rules_left ys
rules_both [] ys = refl
rules_both (r ∷ xs) ys = by (not (is_init r.event)) (rules_both xs ys)
  where
    by : (t : Bool) → rules_left (xs ++ ys) ≡ rules_left xs ++ rules_left ys
        → (if t then r ∷ rules_left (xs ++ ys) else rules_left (xs ++ ys)) ≡ (if t then r ∷ rules_left xs else rules_left xs) ++ rules_left ys
    by true e = ap (λ z. r ∷ z) e
    by false e = e

abbrev pub syncs_of : List Process → List SyncRule
syncs_of ps = flat_map (λ (p : Process). p.syncs) ps

syncs_ruled : (ps : List Process) → syncs_of (map ruled_process ps) ≡ rules_left (syncs_of ps)
syncs_ruled [] = refl
syncs_ruled (p ∷ ps) = ap (λ z. rules_left p.syncs ++ z) (syncs_ruled ps) ∙ sym (rules_both p.syncs (syncs_of ps))

pub accesses_ruled : (cells : List Cell) (ps : List Process) → Each WritesNoStart (syncs_of ps) → (name : List ℕ) → accesses_of name cells (map ruled_process ps) ≡ accesses_of name cells ps
accesses_ruled cells ps h name =
    let here : List Access = cell_accesses name cells in
    (λ i. here ++ rule_accesses name (next_number here) (syncs_ruled ps i)) ∙ ap (λ z. here ++ z) (writes_left name (syncs_of ps) h (next_number here))

-- a process drives what it drove
pub process_ruled : (start : SigBit → Bit) (p : Path) (wires : List Wire) (m : Module) (q : Process) → process_rows start p wires m (ruled_process q) ≡ process_rows start p wires m q
process_ruled start p wires m q = λ i. map (λ (b : WireBit). record { place = bit_place p wires b; driver = Decided (pick_of no_test p wires (case_decision (root_again q.root i) b)) }) (tree_bits_again q.root i) ++ rules_rows start p wires m (root_again q.root i) (tree_bits_again q.root i) (acting_left q.syncs i)
