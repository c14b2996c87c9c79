-- Bits with one driver: only which bits they are matters, and not how often or in which order.
use Rattle.std.proofs.Common.{◌≡◌, ℕ, Bool, true, false, cond, ◌||◌, List, [], ◌∷◌, ◌++◌, length, get_or, drop, Some, None, option_map, ◌+◌, ◌<◌, suc, flat_map, refl, sym, ◌∙◌, ap, subst, add-one}
use Rattle.std.specs.Option.{option_or}
use Rattle.std.proofs.Math.Seq.{drop-cons}
use Rattle.rtl_sig.specs.declared.sig.WireBit.{WireBit}
use Rattle.rtl_ir.specs.declared.process.Process.{Process}
use Rattle.rtl_ir.specs.declared.process.SyncRule.{SyncRule}
use Rattle.rtl_ir.specs.Assigns.{case_assigns, each_once, left_bits, tree_bits}
use Rattle.rtl_ir.specs.Drivers.{Source, FromTree, FromRules, all_by, driver_in, rule_drives, tree_drives}
use Rattle.rtl_ir.specs.Rules.{acting_rules, beyond, updated_bits, updated_by, without_bit}
use Rattle.rtl_ir.specs.Signals.{has_bit, same_bit}
use Rattle.rtl_ir.specs.SwitchRules.{root_by_rules}
use Rattle.net_index.specs.declared.driver.Driver.{Driver}
use Rattle.net_index.specs.declared.index_table.BitTable.{BitTable}
use Rattle.net_index.specs.Driver.{driver_by}
use Rattle.net_index.specs.DriverFill.{Adds, marked_at}
use Rattle.net_index.specs.DriverTree.{rule_lefts}
use Rattle.net_index.specs.IndexTable.{at_bit}
use Rattle.net_index.proofs.IndexTables.{same_bit-refl, same_bit-true}

-- the test goes both ways
pub turned : (b c : WireBit) → same_bit b c ≡ same_bit c b
turned b c = by (same_bit b c) (same_bit c b) refl refl
  where
    by : (s t : Bool) → same_bit b c ≡ s → same_bit c b ≡ t → s ≡ t
    by true true e f = refl
    by false false e f = refl
    by true false e f =
        absurd (let g : same_bit c b ≡ true = subst (λ x. same_bit x b ≡ true) (same_bit-true b c e) (same_bit-refl b) in cc)
    by false true e f =
        absurd (let g : same_bit b c ≡ true = subst (λ x. same_bit x c ≡ true) (same_bit-true c b f) (same_bit-refl c) in cc)

-- the driver of bits that are driven alike
driver_in-all_by : (s : Source) (bits : List WireBit) (b : WireBit) → driver_in (all_by s bits) b ≡ cond (has_bit bits b) (Some s) None
driver_in-all_by s [] b = refl
driver_in-all_by s (c ∷ cs) b = by (same_bit b c) (turned c b) (driver_in-all_by s cs b)
  where
    by : (t : Bool) → same_bit c b ≡ t → driver_in (all_by s cs) b ≡ cond (has_bit cs b) (Some s) None
        → driver_in (all_by s (c ∷ cs)) b ≡ cond (t || has_bit cs b) (Some s) None
    by true e rest = rw e refl
    by false e rest = rw e rest

-- what was marked of these bits is what those that are the same bits drive
pub marks_add : (t new : BitTable Driver) (s : Source) (bits others : List WireBit) → ((b : WireBit) → has_bit bits b ≡ has_bit others b)
    → ((b : WireBit) → at_bit new b ≡ marked_at t bits (driver_by s) b) → Adds t (all_by s others) new
marks_add t new s bits others same h b =
    h b
    ∙ ap (λ x. option_or (at_bit t b) (cond x (Some (driver_by s)) None)) (same b)
    ∙ ap (option_or (at_bit t b)) (by (has_bit others b))
    ∙ ap (λ o. option_or (at_bit t b) (option_map driver_by o)) (sym (driver_in-all_by s others b))
  where
    by : (x : Bool) → cond x (Some (driver_by s)) None ≡ option_map driver_by (cond x (Some s) None)
    by true = refl
    by false = refl

-- one list of bits and another
has_bit-append : (xs ys : List WireBit) (b : WireBit) → has_bit (xs ++ ys) b ≡ (has_bit xs b || has_bit ys b)
has_bit-append [] ys b = refl
has_bit-append (x ∷ xs) ys b = by (same_bit b x) (has_bit-append xs ys b)
  where
    by : (t : Bool) → has_bit (xs ++ ys) b ≡ (has_bit xs b || has_bit ys b) → (t || has_bit (xs ++ ys) b) ≡ ((t || has_bit xs b) || has_bit ys b)
    by true rest = refl
    by false rest = rest

-- each once: the same bits
pub once_same : (xs : List WireBit) (b : WireBit) → has_bit (each_once xs) b ≡ has_bit xs b
once_same [] b = refl
once_same (c ∷ cs) b = by (has_bit cs c) refl (once_same cs b)
  where
    at : (s : Bool) → same_bit b c ≡ s → has_bit cs c ≡ true → has_bit cs b ≡ (s || has_bit cs b)
    at true e some = subst (λ x. has_bit cs x ≡ true) (sym (same_bit-true b c e)) some
    at false e some = refl

    by : (t : Bool) → has_bit cs c ≡ t → has_bit (each_once cs) b ≡ has_bit cs b → has_bit (cond t (each_once cs) (c ∷ each_once cs)) b ≡ (same_bit b c || has_bit cs b)
    by true some rest = rest ∙ at (same_bit b c) refl some
    by false none rest = ap (λ x. same_bit b c || x) rest

-- without one place of another bit
without_same : (x b : WireBit) (ys : List WireBit) → same_bit b x ≡ false → has_bit (without_bit x ys) b ≡ has_bit ys b
without_same x b [] other = refl
without_same x b (c ∷ cs) other = by (same_bit x c) refl (without_same x b cs other)
  where
    by : (t : Bool) → same_bit x c ≡ t → has_bit (without_bit x cs) b ≡ has_bit cs b → has_bit (cond t cs (c ∷ without_bit x cs)) b ≡ (same_bit b c || has_bit cs b)
    by true e rest = let n : same_bit b c ≡ false = subst (λ y. same_bit b y ≡ false) (same_bit-true x c e) other in ap (λ s. s || has_bit cs b) (sym n)
    by false e rest = ap (λ s. same_bit b c || s) rest

-- bits, and those beyond them: the same as all
beyond_same : (xs ys : List WireBit) (b : WireBit) → (has_bit xs b || has_bit (beyond xs ys) b) ≡ (has_bit xs b || has_bit ys b)
beyond_same [] ys b = refl
beyond_same (x ∷ xs) ys b = by (same_bit b x) refl (beyond_same xs (without_bit x ys) b)
  where
    by : (t : Bool) → same_bit b x ≡ t → (has_bit xs b || has_bit (beyond xs (without_bit x ys)) b) ≡ (has_bit xs b || has_bit (without_bit x ys) b)
        → ((t || has_bit xs b) || has_bit (beyond xs (without_bit x ys)) b) ≡ ((t || has_bit xs b) || has_bit ys b)
    by true e rest = refl
    by false e rest = rest ∙ ap (λ s. has_bit xs b || s) (without_same x b ys e)

-- the updated bits of rules are those on their left sides
pub updated_same : (rules : List SyncRule) (b : WireBit) → has_bit (flat_map (λ (rule : SyncRule). left_bits rule.updates) rules) b ≡ has_bit (updated_by rules) b
updated_same [] b = refl
updated_same (r ∷ rs) b =
    has_bit-append (left_bits r.updates) (flat_map (λ (rule : SyncRule). left_bits rule.updates) rs) b
    ∙ ap (λ x. has_bit (left_bits r.updates) b || x) (updated_same rs b)
    ∙ sym (beyond_same (left_bits r.updates) (updated_by rs) b)
    ∙ sym (has_bit-append (left_bits r.updates) (beyond (left_bits r.updates) (updated_by rs)) b)

-- what the tree of a process drives, and what its rules drive
pub tree_added : (t new : BitTable Driver) (process : ℕ) (p : Process) (bits : List WireBit) → bits ≡ left_bits (case_assigns (root_by_rules p.root))
    → ((b : WireBit) → at_bit new b ≡ marked_at t bits (driver_by (FromTree process)) b) → Adds t (all_by (FromTree process) (tree_bits p.root)) new
tree_added t new process p bits e =
    marks_add t new (FromTree process) bits (tree_bits p.root) (λ b. ap (λ xs. has_bit xs b) e ∙ sym (once_same (left_bits (case_assigns (root_by_rules p.root))) b))

pub rules_added : (t new : BitTable Driver) (process : ℕ) (p : Process) (bits : List WireBit) → bits ≡ rule_lefts p.syncs
    → ((b : WireBit) → at_bit new b ≡ marked_at t bits (driver_by (FromRules process)) b) → Adds t (all_by (FromRules process) (updated_bits p.syncs)) new
rules_added t new process p bits e =
    marks_add t new (FromRules process) bits (updated_bits p.syncs) (λ b. ap (λ xs. has_bit xs b) e ∙ updated_same (acting_rules p.syncs) b)

-- the next process and those behind it
pub next_tree : (ps : List Process) (i : ℕ) (p : Process) → i < length ps → p ≡ get_or ps i p
    → tree_drives i (drop i ps) ≡ all_by (FromTree i) (tree_bits p.root) ++ tree_drives (i + 1) (drop (i + 1) ps)
next_tree ps i p h is =
    let next : suc i ≡ i + 1 = sym (add-one i) in
    ap (tree_drives i) (drop-cons ps i p h ∙ (λ j. sym is j ∷ drop (next j) ps))

pub next_rules : (ps : List Process) (i : ℕ) (p : Process) → i < length ps → p ≡ get_or ps i p
    → rule_drives i (drop i ps) ≡ all_by (FromRules i) (updated_bits p.syncs) ++ rule_drives (i + 1) (drop (i + 1) ps)
next_rules ps i p h is =
    let next : suc i ≡ i + 1 = sym (add-one i) in
    ap (rule_drives i) (drop-cons ps i p h ∙ (λ j. sym is j ∷ drop (next j) ps))
