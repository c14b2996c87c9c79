-- A process with a level rule for its reset.
use Rattle.std.proofs.Common.{◌≡◌, ℕ, ◌+◌, ◌<◌, ◌≤◌, Bool, cond, ◌&&◌, not, List, [], ◌∷◌, ◌++◌, length, get_or, drop, sym, ◌∙◌, ap}
use Rattle.std.proofs.lemmas.List.{drop_all}
use Rattle.std.specs.List.{list_any}
use Rattle.rtl_sig.specs.declared.sig.WireBit.{WireBit}
use Rattle.rtl_ir.specs.declared.module.Link.{Link}
use Rattle.rtl_ir.specs.declared.module.Module.{Module}
use Rattle.rtl_ir.specs.declared.process.Process.{Process}
use Rattle.rtl_ir.specs.declared.process.SyncRule.{SyncRule}
use Rattle.rtl_ir.specs.declared.value.Attribute.{Attribute}
use Rattle.rtl_ir.specs.Assigns.{tree_bits}
use Rattle.rtl_ir.specs.EventTests.{switch_test}
use Rattle.rtl_ir.specs.Faults.TwoEdges.{EdgeBit, are_all}
use Rattle.rtl_ir.specs.Follow.{all_joins}
use Rattle.rtl_ir.specs.declared.follow.Join.{Join}
use Rattle.rtl_ir.specs.Rules.{acting_rules}
use Rattle.rtl_ir.specs.Tree.{CaseView}
use Rattle.rtl_ir.specs.Types.{Ports}
use Rattle.net_model.specs.Proc.Reset.{active_leaves, are_unread, control_reads, outer_reads, reset_process, reset_rule, resets_step, with_level, with_reset}
use Rattle.process_trees.proofs.Leveled.{leveled_leaves}
use Rattle.process_trees.specs.Levels.{open_case}
use Rattle.proc_reset.specs.Places.{is_held, leaves_at}
use Rattle.process_trees.proofs.Fronts.{front}

-- the leaves below the root at the reset's level are those with the reset active
pub active_is : (ports : Ports) (m : Module) (root active : CaseView) (bits : List WireBit) (reset : EdgeBit)
    → active ≡ open_case (switch_test ports m reset.bit) reset.level root → leaves_at active bits ≡ active_leaves ports m root bits reset
active_is ports m root active bits reset e =
    ap (λ r. leaves_at r bits) e ∙ (λ i j. sym (leveled_leaves (switch_test ports m reset.bit) reset.level root bits j.source) i)

-- a process of its parts
pub leveled : (ports : Ports) (m : Module) (others : List Process) (p : Process) (reset : EdgeBit) (lines : List Link)
    (bits : List WireBit) → bits ≡ tree_bits p.root
    → (active : CaseView) → active ≡ open_case (switch_test ports m reset.bit) reset.level p.root
    → (rule : SyncRule) → rule ≡ reset_rule (leaves_at active bits) reset lines
    → (syncs : List SyncRule) → syncs ≡ with_reset reset.bit rule p.syncs
    → (free : Bool) → free ≡ (not (list_any (is_held active bits) (all_joins lines)) && (are_unread bits (outer_reads ports m others) && are_unread bits (control_reads p)))
    → (root : CaseView) → root ≡ cond free (open_case (switch_test ports m reset.bit) (not reset.level) p.root) p.root
    → (name : List ℕ) → name ≡ p.name → (attributes : List Attribute) → attributes ≡ p.attributes
    → record { name = name; root = root; syncs = syncs; attributes = attributes } ≡ with_level ports m others p reset lines
leveled ports m others p reset lines bits b active a rule r syncs s free f root t name n attributes u =
    let leaves : leaves_at active bits ≡ active_leaves ports m p.root (tree_bits p.root) reset = active_is ports m p.root active bits reset a ∙ ap (λ x. active_leaves ports m p.root x reset) b in
    let rules = s ∙ ap (λ x. with_reset reset.bit x p.syncs) (r ∙ ap (λ x. reset_rule x reset lines) leaves) in
    let is_free = f ∙ (λ i. not (list_any (λ (j : Join). are_all j.bit (leaves i j)) (all_joins lines)) && (are_unread (b i) (outer_reads ports m others) && are_unread (b i) (control_reads p))) in
    let tree = t ∙ ap (λ x. cond x (open_case (switch_test ports m reset.bit) (not reset.level) p.root) p.root) is_free in
    λ i. record { name = n i; root = tree i; syncs = rules i; attributes = u i }

-- one process more
pub next_process : (ports : Ports) (m : Module) (ps : List Process) (i : ℕ) (p : Process) → i < length ps → p ≡ get_or ps i p → (done new : List Process) (made : Process)
    → new ≡ done ++ made ∷ [] → made ≡ reset_process ports m (done ++ drop (i + 1) ps) p (acting_rules p.syncs)
    → (all : List Process) → resets_step ports m done (drop i ps) ≡ all → resets_step ports m new (drop (i + 1) ps) ≡ all
next_process ports m ps i p h is done new made put same all so_far =
    ap (λ ds. resets_step ports m ds (drop (i + 1) ps)) (put ∙ ap (λ q. done ++ q ∷ []) same)
    ∙ sym (ap (resets_step ports m done) (front ps i p h is))
    ∙ so_far

pub last_process : (ports : Ports) (m : Module) (ps : List Process) (i : ℕ) → length ps ≤ i → (done all : List Process) → resets_step ports m done (drop i ps) ≡ all → done ≡ all
last_process ports m ps i h done all so_far = sym (ap (resets_step ports m done) (drop_all i ps h)) ∙ so_far
