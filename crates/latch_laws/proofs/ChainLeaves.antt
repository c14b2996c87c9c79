-- A value as it is read on one side of a latch, through the chains of tree bits, stands for its decision.
use Rattle.std.proofs.Common.{◌≡◌, ℕ, zero, suc, Bool, true, false, List, [], ◌∷◌, ◌++◌, length, Option, Some, None, ⊎_elim, inl, inr, refl, sym, ◌∙◌, ap, subst}
use Rattle.std.specs.Prelude.{◌⊎◌, if◌then◌else◌}
use Rattle.std.specs.Option.{option_map_or}
use Rattle.rtl_bits.proofs.Orders.{Below_refl, Below_trans}
use Rattle.rtl_bits.specs.Knowledge.{Below}
use Rattle.rtl_bits.specs.declared.bit.Bit.{Bit}
use Rattle.rtl_bits.specs.declared.bit.Bit.TheVariants.{X}
use Rattle.rtl_ir.specs.Decisions.{Leaf, after_assigns, case_decision}
use Rattle.rtl_ir.specs.EventTests.{is_bit}
use Rattle.rtl_ir.specs.Signals.{has_bit, same_bit}
use Rattle.rtl_ir.specs.Tree.{CaseView}
use Rattle.rtl_sig.specs.declared.sig.SigBit.{SigBit}
use Rattle.rtl_sig.specs.declared.sig.SigBit.TheVariants.{Fixed, Wire as OnWire}
use Rattle.rtl_sig.specs.declared.sig.WireBit.{WireBit}
use Rattle.pass_laws.proofs.Once.{same_bit-true}
use Rattle.net_model.specs.Proc.Latch.{Chain, Chains, ForData, ForEnable, Leaves, Side, assigned_leaf, chain_of, leaf_within, made_chain, missing_leaf, other_leaf, own_leaf, side_value, switches_chain}
use Rattle.net_model.specs.Proc.Mux.{Trees}
use Rattle.mux_laws.proofs.MatchMade.{MadeStand}
use Rattle.build_laws.proofs.Growing.{met_before}
use Rattle.mux_laws.proofs.TreePlaces.{switches_find, tree_at}
use Rattle.mux_laws.proofs.TreeRead.{read_by}
use Rattle.build_laws.proofs.Moments.{AreMet, Moment, seen}
use Rattle.latch_laws.proofs.ChainGrows.{LeafGrows, chain_new, end_by, leaf_by, leaf_grows, switches_chain_grow}
use Rattle.latch_laws.proofs.ChainStands.{AreSound, LeafStands, assigned_stand, switches_chain_stand}
use Rattle.latch_laws.proofs.Depths.{Ends, sources_end}
use Rattle.latch_laws.proofs.Expanded.{ends_keep, stays, through, through_fixed, through_other, through_tree}
use Rattle.latch_laws.proofs.SourcesGiven.{CaseGives, case_map}

-- a chain that is found with one more is found without it, or is the new one
chain_more : (chains : List Chain) (new : Chain) (b : WireBit) (s : SigBit) → made_chain (chains ++ new ∷ []) b ≡ Some s → (made_chain chains b ≡ Some s) ⊎ ((new.bit ≡ b) × (new.result ≡ s))
chain_more [] new b s e = by (same_bit new.bit b) refl e
  where
    by : (t : Bool) → same_bit new.bit b ≡ t → (if t then Some new.result else None) ≡ Some s → (made_chain [] b ≡ Some s) ⊎ ((new.bit ≡ b) × (new.result ≡ s))
    by true f g = inr (same_bit-true new.bit b f, (let same : new.result ≡ s = cc in same))
    by false f g = absurd (cc)
chain_more (c ∷ chains) new b s e = by (same_bit c.bit b) (chain_more chains new b s) e
  where
    by : (t : Bool) → (made_chain (chains ++ new ∷ []) b ≡ Some s → (made_chain chains b ≡ Some s) ⊎ ((new.bit ≡ b) × (new.result ≡ s))) → (if t then Some c.result else made_chain (chains ++ new ∷ []) b) ≡ Some s → ((if t then Some c.result else made_chain chains b) ≡ Some s) ⊎ ((new.bit ≡ b) × (new.result ≡ s))
    by true later f = inl f
    by false later f = later f

-- a leaf as it is read: the bit itself, or any other
abbrev pub read_leaf : Side → WireBit → SigBit → SigBit
read_leaf side q s = if is_bit q s then own_leaf side else other_leaf side s

module _ (m : Moment) (root : CaseView) (bits : List WireBit) (side : Side) (q : WireBit) where
  -- its value
  abbrev pub leaf_value : SigBit → Bit
  leaf_value s = seen m (read_leaf side q s)

  -- the value of a bit through so many tree bits, by leaves as they are read
  abbrev pub side_through : ℕ → SigBit → Bit
  side_through n s = through m root bits leaf_value n s

  -- that of a tree bit through all of them
  abbrev pub full : WireBit → Bit
  full b = read_by m (side_through (length bits)) (case_decision root b)

  abbrev Met : Chains → Type 0
  Met t = AreMet m t.trees.building.body.cells

  abbrev Sound : Chains → Type 0
  Sound t = AreSound m (switches_find root.switches) full t

  -- what is so of each leaf as it is read
  abbrev Stand : Leaves → (SigBit → Bit) → SigBit → Type 0
  Stand leaf g s = LeafStands m (switches_find root.switches) full leaf g s

  -- what is missing is read as an unknown constant
  missing_read : Below (leaf_value (Fixed X)) (seen m (missing_leaf side))
  missing_read = by side
    where
      by : (s : Side) → Below (seen m (other_leaf s (Fixed X))) (seen m (missing_leaf s))
      by ForData = tt
      by ForEnable = refl

  module _ (all : (s : SigBit) → Ends root bits (length bits) s) (n : ℕ) (leaf : Leaves) (grows : LeafGrows leaf) (stand : (s : SigBit) → Ends root bits n s → Stand leaf (side_through n) s) where
    missing_below : Below (side_through n (Fixed X)) (seen m (missing_leaf side))
    missing_below = subst (λ z. Below z (seen m (missing_leaf side))) (sym (through_fixed m root bits leaf_value n X)) missing_read

    -- a new chain
    new_stands : (b : WireBit) (t : Chains) → has_bit bits b ≡ true → Ends root bits (suc n) (OnWire b) → Met (chain_new leaf side root b t).1 → Sound t
        → Below (read_by m (side_through n) (case_decision root b)) (seen m (chain_new leaf side root b t).0) × Sound (chain_new leaf side root b t).1
    new_stands b t has ends met sound =
        let gives : CaseGives (Stand leaf (side_through n)) b root = case_map (Ends root bits n) (Stand leaf (side_through n)) b root stand (sources_end root bits n b has ends) in
        let start = assigned_leaf leaf root.assigns b (missing_leaf side) t in
        let value = switches_chain leaf b [] 0 root.switches start.0 start.1 in
        let before : Met start.1 = met_before m start.1.trees.building _ (switches_chain_grow leaf grows b [] 0 root.switches start.0 start.1) met in
        let first = assigned_stand m (switches_find root.switches) full leaf (side_through n) grows b root.assigns (missing_leaf side) t (Leaf (Fixed X)) gives.assigns before sound missing_below in
        let second = switches_chain_stand m (switches_find root.switches) full leaf (side_through n) grows b [] 0 root.switches start.0 start.1 (after_assigns root.assigns b (Leaf (Fixed X))) gives.switches (tree_at root.switches) met first.1 first.0 in
        let low : Below (full b) (seen m value.0) = Below_trans _ _ _ (ends_keep m root bits leaf_value (length bits) n b (λ s i j. stays m root bits leaf_value (length bits) n s i j) has (λ h c i. all (OnWire c)) ends) second.0 in (
          second.0,
          record {
            made = second.1.made;
            chains = λ c s e. ⊎_elim
                (λ old. second.1.chains c s old)
                (λ new. subst (λ z. Below (full z) (seen m s)) new.0 (subst (λ z. Below (full b) (seen m z)) new.1 low))
                (chain_more value.1.chains (record { bit = b; result = value.0 }) c s e);
          },
        )

    -- a chain that is made once
    chain_stands : (b : WireBit) (t : Chains) → has_bit bits b ≡ true → Ends root bits (suc n) (OnWire b) → Met (chain_of leaf side root b t).1 → Sound t
        → Below (read_by m (side_through n) (case_decision root b)) (seen m (chain_of leaf side root b t).0) × Sound (chain_of leaf side root b t).1
    chain_stands b t has ends met sound = by (made_chain t.chains b) refl met
      where
        by : (o : Option SigBit) → made_chain t.chains b ≡ o → Met (option_map_or (λ s. (s, t)) o (chain_new leaf side root b t)).1
            → Below (read_by m (side_through n) (case_decision root b)) (seen m (option_map_or (λ s. (s, t)) o (chain_new leaf side root b t)).0) × Sound (option_map_or (λ s. (s, t)) o (chain_new leaf side root b t)).1
        by (Some s) e met' =
            (Below_trans _ _ _ (ends_keep m root bits leaf_value n (length bits) b (λ r i j. stays m root bits leaf_value n (length bits) r i j) has ends (λ h c i. all (OnWire c))) (sound.chains b s e), sound)
        by None e met' = new_stands b t has ends met' sound

  module _ (all : (s : SigBit) → Ends root bits (length bits) s) (free : has_bit bits q ≡ false) where
    -- the bit itself is read as such
    own_stands : (n : ℕ) (b : WireBit) → same_bit b q ≡ true → Below (side_through n (OnWire b)) (seen m (own_leaf side))
    own_stands n b own =
        let none : has_bit bits b ≡ false = ap (has_bit bits) (same_bit-true b q own) ∙ free in
        let value : side_through n (OnWire b) ≡ seen m (own_leaf side) = through_other m root bits leaf_value n b none ∙ ap (λ (t : Bool). seen m (if t then own_leaf side else other_leaf side (OnWire b))) own in
        subst (λ z. Below z (seen m (own_leaf side))) (sym value) (Below_refl (seen m (own_leaf side)))

    other_stands : (n : ℕ) (b : WireBit) → same_bit b q ≡ false → has_bit bits b ≡ false → Below (side_through n (OnWire b)) (seen m (other_leaf side (OnWire b)))
    other_stands n b own none =
        let value : side_through n (OnWire b) ≡ seen m (other_leaf side (OnWire b)) = through_other m root bits leaf_value n b none ∙ ap (λ (t : Bool). seen m (if t then own_leaf side else other_leaf side (OnWire b))) own in
        subst (λ z. Below z (seen m (other_leaf side (OnWire b)))) (sym value) (Below_refl (seen m (other_leaf side (OnWire b))))

    -- each leaf as it is read
    pub leaf_stands : (n : ℕ) (s : SigBit) → Ends root bits n s → Stand (leaf_within n side root bits q) (side_through n) s
    leaf_stands zero (Fixed c) ends t met sound = (Below_refl (seen m (other_leaf side (Fixed c))), sound)
    leaf_stands (suc n) (Fixed c) ends t met sound = (Below_refl (seen m (other_leaf side (Fixed c))), sound)
    leaf_stands zero (OnWire b) ends t met sound = by (same_bit b q) refl met
      where
        by : (own : Bool) → same_bit b q ≡ own → Met (end_by own side b t).1 → Below (side_through 0 (OnWire b)) (seen m (end_by own side b t).0) × Sound (end_by own side b t).1
        by true e met' = (own_stands 0 b e, sound)
        by false e met' = (other_stands 0 b e ends, sound)
    leaf_stands (suc n) (OnWire b) ends t met sound =
        by (same_bit b q) (has_bit bits b) refl refl (λ has met'. chain_stands all n (leaf_within n side root bits q) (leaf_grows n side root bits q) (leaf_stands n) b t has ends met' sound) met
      where
        by : (own has : Bool) → same_bit b q ≡ own → has_bit bits b ≡ has
            → (has_bit bits b ≡ true → Met (chain_of (leaf_within n side root bits q) side root b t).1 → Below (read_by m (side_through n) (case_decision root b)) (seen m (chain_of (leaf_within n side root bits q) side root b t).0) × Sound (chain_of (leaf_within n side root bits q) side root b t).1)
            → Met (leaf_by own has side b t (chain_of (leaf_within n side root bits q) side root b t)).1
            → Below (side_through (suc n) (OnWire b)) (seen m (leaf_by own has side b t (chain_of (leaf_within n side root bits q) side root b t)).0) × Sound (leaf_by own has side b t (chain_of (leaf_within n side root bits q) side root b t)).1
        by true has e f chain met' = (own_stands (suc n) b e, sound)
        by false false e f chain met' = (other_stands (suc n) b e f, sound)
        by false true e f chain met' =
            let both = chain f met' in
            (subst (λ z. Below z (seen m (chain_of (leaf_within n side root bits q) side root b t).0)) (sym (through_tree m root bits leaf_value n b f)) both.0, both.1)

    -- the value on one side, with chains of its own
    pub side_stands : (source : SigBit) (t : Trees) → AreMet m (side_value side root bits (record { bit = q; source = source }) t).1.building.body.cells → MadeStand m (switches_find root.switches) t.made
        → Below (side_through (length bits) source) (seen m (side_value side root bits (record { bit = q; source = source }) t).0) × MadeStand m (switches_find root.switches) (side_value side root bits (record { bit = q; source = source }) t).1.made
    side_stands source t met made =
        let both = leaf_stands (length bits) source (all source) (record { trees = t; chains = [] }) met (record { made = made; chains = λ b s e. absurd (cc) }) in
        (both.0, both.1.made)
