-- A bit that no tree bit may be given is no leaf of another source.
use Rattle.std.proofs.Common.{◌≡◌, ℕ, zero, suc, ◌||◌, Bool, true, false, List, [], ◌∷◌, length, if◌then◌else◌, refl, sym, ap, ◌∙◌}
use Rattle.std.specs.Prelude.{slice_index_or}
use Rattle.std.specs.HashSet.{contains}
use Rattle.std.specs.List.{list_any}
use Rattle.rtl_sig.specs.declared.sig.SigBit.{SigBit}
use Rattle.rtl_sig.specs.declared.sig.SigBit.TheVariants.{Fixed, Wire as OnWire}
use Rattle.rtl_sig.specs.declared.sig.WireBit.{WireBit}
use Rattle.rtl_ir.specs.Decisions.{Leaf, case_decision, expanded, expanded_within, leaves_of, with_leaves}
use Rattle.rtl_ir.specs.EventTests.{is_bit}
use Rattle.rtl_ir.specs.Signals.{has_bit, same_bit}
use Rattle.rtl_ir.specs.Tree.{CaseView}
use Rattle.process_trees.specs.declared.reaching.Reaching.{Reaching}
use Rattle.process_trees.specs.Reach.{reaching}
use Rattle.process_trees.specs.Reaching.{AreReaching}
use Rattle.process_trees.specs.Walk.{rows_of}
use Rattle.process_trees.proofs.Alike.{any_flat, reaching_alike}
use Rattle.process_trees.proofs.Numbering.{numbered}
use Rattle.process_trees.proofs.Replaced.{leaves_replaced}

neither_met : (a b : Bool) → (a || b) ≡ false → (a ≡ false) × (b ≡ false)
neither_met true b e = absurd cc
neither_met false b e = (refl, e)

-- none of some rows has the bit
none_at : (f : SigBit → Bool) (rows : List (List SigBit)) → list_any (list_any f) rows ≡ false → (k : ℕ) → list_any f (slice_index_or rows k []) ≡ false
none_at f [] e k = refl
none_at f (r ∷ rows) e zero = (neither_met (list_any f r) (list_any (list_any f) rows) e).0
none_at f (r ∷ rows) e (suc k) = none_at f rows (neither_met (list_any f r) (list_any (list_any f) rows) e).1 k

none_of : (f g : SigBit → Bool) (xs : List SigBit) → list_any f xs ≡ false → ((s : SigBit) → f s ≡ false → g s ≡ false) → list_any g xs ≡ false
none_of f g [] e h = refl
none_of f g (x ∷ xs) e h =
    let two = neither_met (f x) (list_any f xs) e in
    λ i. h x two.0 i || none_of f g xs two.1 h i

module _ (table : Reaching) (root : CaseView) (bits : List WireBit) (are : AreReaching table root bits) (q : WireBit) (off : contains same_bit table.read q ≡ false) where
  none_given : (b : WireBit) → has_bit bits b ≡ true → list_any (is_bit q) (reaching root b) ≡ false
  none_given b among =
      let n = numbered 0 bits b among in
      ap (list_any (is_bit q)) (sym (are.sources b n.0 n.1)) ∙ none_at (is_bit q) (rows_of table.sources.items) (sym (are.read q) ∙ off) n.0

  none_within : (n : ℕ) (s : SigBit) → is_bit q s ≡ false → list_any (is_bit q) (leaves_of (expanded_within root bits n s)) ≡ false
  none_within zero s e = λ i. e i || false
  none_within (suc n) (Fixed c) e = refl
  none_within (suc n) (OnWire b) e = by (has_bit bits b) refl (none_within n)
    where
      by : (t : Bool) → has_bit bits b ≡ t → ((s : SigBit) → is_bit q s ≡ false → list_any (is_bit q) (leaves_of (expanded_within root bits n s)) ≡ false)
          → list_any (is_bit q) (leaves_of (if t then with_leaves (expanded_within root bits n) (case_decision root b) else Leaf (OnWire b))) ≡ false
      by false h ih = λ i. e i || false
      by true h ih =
          ap (list_any (is_bit q)) (leaves_replaced (expanded_within root bits n) (case_decision root b))
          ∙ any_flat (is_bit q) (λ s. leaves_of (expanded_within root bits n s)) (leaves_of (case_decision root b))
          ∙ reaching_alike root b (λ s. list_any (is_bit q) (leaves_of (expanded_within root bits n s)))
          ∙ none_of (is_bit q) (λ s. list_any (is_bit q) (leaves_of (expanded_within root bits n s))) (reaching root b) (none_given b h) ih

  pub none_held : (s : SigBit) → is_bit q s ≡ false → list_any (is_bit q) (leaves_of (expanded root bits s)) ≡ false
  none_held s e = none_within (length bits) s e
