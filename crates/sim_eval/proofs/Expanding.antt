-- Values that lead through tree bits to their leaves, round by round.
use Rattle.std.proofs.Common.{◌≡◌, ◌<◌, ◌≤◌, ◌+◌, ◌-◌, ℕ, zero, suc, Bool, true, false, if◌then◌else◌, Option, Some, None, List, length, true≢false, refl, sym, ◌∙◌, ap, subst, arith, add-one}
use Rattle.std.specs.Prelude.{nat_eq}
use Rattle.std.proofs.lemmas.Bool.{eqb-true, eq-eqb}
use Rattle.rtl_bits.specs.declared.bit.Bit.{Bit}
use Rattle.rtl_bits.specs.declared.bit.Bit.TheVariants.{S0, S1, X}
use Rattle.rtl_ir.specs.Flat.Place.{Place, place_same}
use Rattle.rtl_ir.specs.Flat.Point as flat
use Rattle.net_model.proofs.Places.{place_same-same}
use Rattle.flat_net.specs.declared.leaves.Source.{Source}
use Rattle.flat_net.specs.declared.net.Point.{Point}
use Rattle.flat_net.specs.declared.net.Point.TheVariants.{Constant, At}
use Rattle.flat_net.specs.Choices.{BranchView}
use Rattle.flat_net.specs.Picks.{expanded_pick}
use Rattle.flat_net.specs.Points.{place_at, AreApart, point_of}
use Rattle.flat_net.specs.Within.{IsBranchWithin, IsPointWithin, IsSourceWithin}
use Rattle.sim_eval.specs.declared.walk.Leaves.{Leaves}
use Rattle.sim_eval.specs.declared.walk.Leaves.TheVariants.{Values, Marks, Owned}
use Rattle.sim_eval.specs.Leaves.{AreExpanded, AreLeavesWithin, comes_to, leaf_at, tree_source}
use Rattle.sim_eval.specs.Trees.{bit_of, tree_value, unassigned}
use Rattle.sim_eval.specs.Walk.{followed, leaf_of}
use Rattle.sim_eval.proofs.Bridges.{read_same}
use Rattle.sim_eval.proofs.Tables.{found_at, same_itself}
use Rattle.sim_eval.proofs.Trees.{root_same}

-- two numbers are the same where their bits are
number_same : (ps : List Place) → AreApart ps → (n own : ℕ) → n < length ps → own < length ps → place_same (place_at ps n) (place_at ps own) ≡ nat_eq n own
number_same ps apart n own l k =
    by (nat_eq n own) refl (place_same (place_at ps n) (place_at ps own)) refl
  where
    by : (s : Bool) → nat_eq n own ≡ s → (t : Bool) → place_same (place_at ps n) (place_at ps own) ≡ t → place_same (place_at ps n) (place_at ps own) ≡ nat_eq n own
    by true e t f =
        let same : n ≡ own = eqb-true n own e in
        subst (λ z. place_same (place_at ps n) (place_at ps z) ≡ true) same (same_itself (place_at ps n)) ∙ sym e
    by false e true f =
        let same : n ≡ own = apart n own l k ((place_same-same (place_at ps n) (place_at ps own)).0 f) in
        absurd (true≢false (sym (eq-eqb n own same) ∙ e))
    by false e false f = f ∙ sym e

module _ (ps : List Place) (values : List Bit) (apart : AreApart ps) (same : length ps ≡ length values) where
  -- a leaf
  leaf_same : (leaves : Leaves) → AreLeavesWithin (length ps) leaves → (p : Point) → IsPointWithin (length ps) p → leaf_at ps values leaves (point_of ps p) ≡ leaf_of leaves values p
  leaf_same Values m p h = read_same ps values apart same p h
  leaf_same (Marks own) m (Constant b) h = refl
  leaf_same (Marks own) m (At n) h = ap (λ t. if t then S1 else S0) (number_same ps apart n own h m)
  leaf_same (Owned own bit) m (Constant b) h = refl
  leaf_same (Owned own bit) m (At n) h =
      let same_number = number_same ps apart n own h m in
      let value = found_at X ps values n apart same h in
      (λ i. if same_number i then bit else value i)

  module _ (reset : Bit) (leaves : Leaves) (marked : AreLeavesWithin (length ps) leaves) (root : BranchView) where
    -- what a source comes to in so many rounds
    abbrev come : ℕ → Source → Bit
    come n s = comes_to ps values reset leaves root n s

    -- a source comes to what its tree bit comes to, or is a leaf
    followed_same : (width n : ℕ) (bits : List Bit) → AreExpanded ps values reset leaves root width (suc n) bits → (s : Source) → IsSourceWithin (length ps) width s → come (suc n) s ≡ followed (leaf_of leaves values) (Some bits) s
    followed_same width n bits h s k = by s.from s.tree k
      where
        by : (from : Point) (tree : Option ℕ) → IsSourceWithin (length ps) width (record { from = from; tree = tree }) → come (suc n) (record { from = from; tree = tree }) ≡ followed (leaf_of leaves values) (Some bits) (record { from = from; tree = tree })
        by from None k = leaf_same leaves marked from k.0
        by from (Some at) k = sym (h at k.1)

    pub source_same : (width : ℕ) (bits : List Bit) → AreExpanded ps values reset leaves root width width bits → (s : Source) → IsSourceWithin (length ps) width s → followed (leaf_of leaves values) (Some bits) s ≡ come width s
    source_same zero bits h s k = by s.from s.tree k
      where
        by : (from : Point) (tree : Option ℕ) → IsSourceWithin (length ps) 0 (record { from = from; tree = tree }) → followed (leaf_of leaves values) (Some bits) (record { from = from; tree = tree }) ≡ come 0 (record { from = from; tree = tree })
        by from None k = sym (leaf_same leaves marked from k.0)
        by from (Some at) k = absurd (omega (arith, k.1))
    source_same (suc n) bits h s k = sym (followed_same (suc n) n bits h s k)

    unassigned_same : (n : ℕ) → come n unassigned ≡ leaf_at ps values leaves (flat.Constant X)
    unassigned_same zero = refl
    unassigned_same (suc n) = refl

    module _ (width : ℕ) (within : IsBranchWithin (length ps) width root) where
      -- these are what the tree bits come to in so many rounds
      abbrev Are : ℕ → List Bit → Type 0
      Are n bits = AreExpanded ps values reset leaves root width n bits

      -- a round more
      pub more : (n : ℕ) (given : Source → Bit) → ((s : Source) → IsSourceWithin (length ps) width s → come n s ≡ given s) → (at : ℕ) → come (suc n) (tree_source at) ≡ tree_value values reset given at root
      more n given agree at =
          root_same ps values apart same (leaf_at ps values leaves) reset (expanded_pick ps root n) given width agree (sym (unassigned_same n) ∙ agree unassigned (tt, tt)) at root within

      -- the first round
      pub first_round : (bits : List Bit) → ((at : ℕ) → at < width → bit_of bits at ≡ tree_value values reset (λ s. leaf_of leaves values s.from) at root) → Are 1 bits
      first_round bits is at l =
          is at l ∙ sym (more 0 (λ s. leaf_of leaves values s.from) (λ s k. leaf_same leaves marked s.from k.0) at)

      next_round : (n : ℕ) (bits new : List Bit) → Are (suc n) bits → ((at : ℕ) → at < width → bit_of new at ≡ tree_value values reset (followed (leaf_of leaves values) (Some bits)) at root) → Are (suc (suc n)) new
      next_round n bits new h is at l =
          is at l ∙ sym (more (suc n) (followed (leaf_of leaves values) (Some bits)) (followed_same width n bits h) at)

      -- sources that come to the same come to the same in one round more
      step : (k n : ℕ) → ((s : Source) → IsSourceWithin (length ps) width s → come k s ≡ come n s) → (s : Source) → come (suc k) s ≡ come (suc n) s
      step k n agree s = by s.from s.tree
        where
          by : (from : Point) (tree : Option ℕ) → come (suc k) (record { from = from; tree = tree }) ≡ come (suc n) (record { from = from; tree = tree })
          by from None = refl
          by from (Some at) = more k (come n) agree at ∙ sym (more n (come n) (λ s w. refl) at)

      -- a round that changes nothing ends them
      stays : (n : ℕ) → ((s : Source) → IsSourceWithin (length ps) width s → come (suc n) s ≡ come n s) → (k behind : ℕ) → k ≡ behind + n → (s : Source) → IsSourceWithin (length ps) width s → come k s ≡ come n s
      stays n fixed k zero e s w = let same : k ≡ n = omega arith in ap (λ z. come z s) same
      stays n fixed zero (suc behind) e s w = absurd (omega arith)
      stays n fixed (suc k) (suc behind) e s w =
          step k n (λ z v. stays n fixed k behind (omega arith) z v) s ∙ fixed s w

      settled : (n : ℕ) (bits : List Bit) → Are (suc n) bits → Are (suc (suc n)) bits → (k behind : ℕ) → k ≡ behind + suc n → Are k bits
      settled n bits h g k behind e at l =
          h at l ∙ sym (stays (suc n) (λ s w. followed_same width (suc n) bits g s w ∙ sym (followed_same width n bits h s w)) k behind e (tree_source at) (tt, l))

      -- a further round, behind at least one
      pub round_next : (i : ℕ) (bits new : List Bit) → 1 ≤ i → Are i bits → ((at : ℕ) → at < width → bit_of new at ≡ tree_value values reset (followed (leaf_of leaves values) (Some bits)) at root) → Are (i + 1) new
      round_next zero bits new l h is = absurd (omega arith)
      round_next (suc n) bits new l h is =
          let e : suc (suc n) ≡ suc n + 1 = sym (add-one (suc n)) in subst (λ z. Are z new) e (next_round n bits new h is)

      -- a further round that changed nothing
      pub round_same : (i : ℕ) (bits new : List Bit) → 1 ≤ i → i ≤ width → Are i bits → ((at : ℕ) → at < width → bit_of new at ≡ tree_value values reset (followed (leaf_of leaves values) (Some bits)) at root) → new ≡ bits → Are width bits
      round_same zero bits new l m h is e = absurd (omega arith)
      round_same (suc n) bits new l m h is e =
          settled n bits h (subst (λ z. Are (suc (suc n)) z) e (next_round n bits new h is)) width (width - suc n) (omega arith)

      -- all rounds
      pub round_last : (i : ℕ) (bits : List Bit) → (0 < width → i ≡ width) → Are i bits → Are width bits
      round_last i bits e h at l =
          let all : i ≡ width = e (omega arith) in subst (λ n. bit_of bits at ≡ come n (tree_source at)) all (h at l)
