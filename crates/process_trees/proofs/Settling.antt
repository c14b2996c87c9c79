-- The tree bits after so many rounds are expanded so many times.
use Rattle.std.proofs.Common.{◌≡◌, ℕ, zero, suc, ◌+◌, ◌<◌, true, false, List, [], ◌∷◌, length, map, Option, Some, None, if◌then◌else◌, Vec, Global, refl, sym, ap, subst, ◌∙◌, arith}
use Rattle.std.specs.Prelude.{flat_map, slice_index_or}
use Rattle.std.specs.Option.{option_map_or}
use Rattle.rtl_sig.specs.declared.sig.SigBit.{SigBit}
use Rattle.rtl_sig.specs.declared.sig.SigBit.TheVariants.{Fixed, Wire as OnWire}
use Rattle.rtl_sig.specs.declared.sig.WireBit.{WireBit}
use Rattle.rtl_ir.specs.Decisions.{Leaf, case_decision, expanded, expanded_within, leaves_of, with_leaves}
use Rattle.rtl_ir.specs.Signals.{has_bit}
use Rattle.rtl_ir.specs.Tree.{CaseView}
use Rattle.process_trees.specs.declared.reaching.Reaching.{Reaching}
use Rattle.process_trees.specs.declared.summary.Summary.{Summary}
use Rattle.process_trees.specs.Leaves.{rows_summaries, sources_summary, summary_of}
use Rattle.process_trees.specs.Numbers.{number_in}
use Rattle.process_trees.specs.Reach.{reaching}
use Rattle.process_trees.specs.Reaching.{AreReaching}
use Rattle.process_trees.specs.Rounds.{AreAfter, first_summaries, leaf_summary}
use Rattle.process_trees.specs.Walk.{sources_at}
use Rattle.process_trees.proofs.Replaced.{leaves_replaced}
use Rattle.process_trees.proofs.Numbering.{stands_at, unnumbered}
use Rattle.process_trees.proofs.Alike.{flat_alike, reaching_alike, some_leaf, some_reaching}
use Rattle.process_trees.proofs.Summaries.{HasItem, some_append, summary_alike, together_is}

some_flat : (g : SigBit → List SigBit) → ((s : SigBit) → HasItem (g s)) → (xs : List SigBit) → HasItem xs → HasItem (flat_map g xs)
some_flat g some [] h = absurd h
some_flat g some (x ∷ xs) h = some_append (g x) (flat_map g xs) (some x)

row_mapped : (f : SigBit → Summary) (rows : List (Vec SigBit Global)) (k : ℕ) → k < length rows → (other : Summary) → slice_index_or (rows_summaries f rows) k other ≡ sources_summary f (sources_at rows k)
row_mapped f [] k h other = absurd (omega (arith, h))
row_mapped f (r ∷ rows) zero h other = refl
row_mapped f (r ∷ rows) (suc k) h other = row_mapped f rows k (omega (arith, h)) other

bit_mapped : (f : WireBit → Summary) (bits : List WireBit) (k : ℕ) (d : WireBit) → k < length bits → (other : Summary) → slice_index_or (map f bits) k other ≡ f (slice_index_or bits k d)
bit_mapped f [] k d h other = absurd (omega (arith, h))
bit_mapped f (b ∷ bits) zero d h other = refl
bit_mapped f (b ∷ bits) (suc k) d h other = bit_mapped f bits k d (omega (arith, h)) other

module _ (asked : Option WireBit) (bits : List WireBit) (root : CaseView) where
  abbrev leaves : ℕ → SigBit → List SigBit
  leaves n s = leaves_of (expanded_within root bits n s)

  -- a leaf, by the tree bits expanded so many times
  pub leaf_is : (n : ℕ) → (values : List Summary) → AreAfter asked root bits n values → (s : SigBit) → leaf_summary asked bits values s ≡ summary_of asked (leaves n s)
  leaf_is zero values e (Fixed c) = refl
  leaf_is (suc n) values e (Fixed c) = refl
  leaf_is n values e (OnWire b) = by (number_in bits b) refl
    where
      alone : (k : ℕ) → has_bit bits b ≡ false → summary_of asked (OnWire b ∷ []) ≡ summary_of asked (leaves k (OnWire b))
      alone zero h = refl
      alone (suc k) h = sym (ap (λ t. summary_of asked (leaves_of (if t then with_leaves (expanded_within root bits k) (case_decision root b) else Leaf (OnWire b)))) h)

      by : (o : Option ℕ) → number_in bits b ≡ o
          → option_map_or (λ k. slice_index_or values k (summary_of asked (OnWire b ∷ []))) o (summary_of asked (OnWire b ∷ [])) ≡ summary_of asked (leaves n (OnWire b))
      by None f = alone n (unnumbered 0 bits b f)
      by (Some k) f = e b k f (summary_of asked (OnWire b ∷ []))

  -- the sources of a tree bit, expanded so many times
  one_after : (n : ℕ) (f : SigBit → Summary) → ((s : SigBit) → f s ≡ summary_of asked (leaves n s)) → (b : WireBit) → has_bit bits b ≡ true
      → sources_summary f (reaching root b) ≡ summary_of asked (leaves (suc n) (OnWire b))
  one_after n f h b among =
      let some : (s : SigBit) → HasItem (leaves n s) = λ s. some_leaf (expanded_within root bits n s) in
      together_is asked f (leaves n) h some (reaching root b) (some_reaching root b)
      ∙ summary_alike asked (flat_map (leaves n) (reaching root b)) (flat_map (leaves n) (leaves_of (case_decision root b)))
      (some_flat (leaves n) some (reaching root b) (some_reaching root b)) (some_flat (leaves n) some (leaves_of (case_decision root b)) (some_leaf (case_decision root b)))
      (flat_alike (leaves n) (reaching root b) (leaves_of (case_decision root b)) (λ g. sym (reaching_alike root b g)))
      ∙ ap (summary_of asked) (sym (leaves_replaced (expanded_within root bits n) (case_decision root b)))
      ∙ sym (ap (λ t. summary_of asked (leaves_of (if t then with_leaves (expanded_within root bits n) (case_decision root b) else Leaf (OnWire b)))) among)

  pub first_are : AreAfter asked root bits 0 (first_summaries asked bits)
  first_are b k e other =
      let at = stands_at bits b k e in
      bit_mapped (λ c. summary_of asked (OnWire c ∷ [])) bits k b at.0 other ∙ ap (λ c. summary_of asked (OnWire c ∷ [])) (at.1 b)

  -- one round more
  pub next_are : (table : Reaching) → AreReaching table root bits → (n : ℕ) (values : List Summary) → AreAfter asked root bits n values
      → (next : List Summary) → next ≡ rows_summaries (leaf_summary asked bits values) table.sources.items → AreAfter asked root bits (n + 1) next
  next_are table are n values after next is b k e other =
      let at = stands_at bits b k e in
      let inside : k < length table.sources.items = subst (λ n. k < n) (sym are.size) at.0 in
      ap (λ xs. slice_index_or xs k other) is
      ∙ row_mapped (leaf_summary asked bits values) table.sources.items k inside other
      ∙ ap (sources_summary (leaf_summary asked bits values)) (are.sources b k e)
      ∙ one_after n (leaf_summary asked bits values) (leaf_is n values after) b at.2
      ∙ ap (λ m. summary_of asked (leaves m (OnWire b))) (let same : suc n ≡ n + 1 = omega arith in same)

  -- where a round changes nothing, no later one does
  pub stays : (table : Reaching) → AreReaching table root bits → (n : ℕ) (values : List Summary) → AreAfter asked root bits n values
      → values ≡ rows_summaries (leaf_summary asked bits values) table.sources.items → (m k : ℕ) → m ≡ k + n → AreAfter asked root bits m values
  stays table are n values after same m zero is =
      let e : n ≡ m = omega (arith, is) in
      subst (λ x. AreAfter asked root bits x values) e after
  stays table are n values after same m (suc k) is =
      let e : k + n + 1 ≡ m = omega (arith, is) in
      subst (λ x. AreAfter asked root bits x values) e
      (next_are table are (k + n) values (stays table are n values after same (k + n) k refl) values same)

  -- what a source comes to
  pub source_is : (values : List Summary) → AreAfter asked root bits (length bits) values → (s : SigBit) → leaf_summary asked bits values s ≡ summary_of asked (leaves_of (expanded root bits s))
  source_is values after s = leaf_is (length bits) values after s
