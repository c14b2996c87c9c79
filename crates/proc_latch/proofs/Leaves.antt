-- Leaves as they are read, and chains: what they add, and what they are.
use Rattle.std.proofs.Common.{◌≡◌, ℕ, zero, suc, Bool, true, false, List, Option, Some, None, if◌then◌else◌, ◌⊎◌, inl, inr, refl, sym, ◌∙◌, ap, subst}
use Rattle.std.specs.Option.{option_map_or}
use Rattle.rtl_sig.specs.declared.sig.SigBit.{SigBit}
use Rattle.rtl_sig.specs.declared.sig.SigBit.TheVariants.{Fixed, Wire as OnWire}
use Rattle.rtl_sig.specs.declared.sig.WireBit.{WireBit}
use Rattle.rtl_ir.specs.Assigns.{tree_bits}
use Rattle.rtl_ir.specs.Signals.{has_bit, same_bit}
use Rattle.rtl_ir.specs.Tree.{CaseView, Switches}
use Rattle.net_index.specs.Builder.{PassesLimit}
use Rattle.net_model.specs.Proc.Latch.{Side, missing_leaf, other_leaf, own_leaf}
use Rattle.match_cells.proofs.Growing.{grows_none}
use Rattle.proc_latch.specs.Chains.{Chained, Leaf, chain_at, chain_of, leaf_within, new_chain, put_chain, reads, start_leaf, switches_chain}
use Rattle.proc_latch.specs.Sides.{side_of}
use Rattle.proc_latch.specs.Givens.{case_given, value_at}
use Rattle.proc_latch.specs.declared.given.Given.{Given}
use Rattle.proc_latch.specs.declared.reading.Reading.{Reading}
use Rattle.proc_latch.proofs.Walking.{Adds, LeafAdds, adds_both, adds_over, start_adds, switches_add}

-- a constant
abbrev pub is_fixed : SigBit → Type 0
is_fixed (Fixed c) = Unit {0}
is_fixed (OnWire b) = ⊥

pub put_trees : (b : WireBit) (s : SigBit) (t : Chained) → (put_chain b s t).trees ≡ t.trees
unfolding put_chain
put_trees b s t = refl

module _ (leaf : Leaf) (leaves : LeafAdds leaf) (side : Side) (root : CaseView) (b : WireBit) (t : Chained) where
  abbrev given : List Given
  given = case_given b 0 root

  abbrev begun : SigBit × Chained
  begun = start_leaf leaf (value_at given 0) (missing_leaf side) t

  abbrev value : SigBit × Chained
  value = switches_chain leaf given 1 root.switches begun.0 begun.1

  -- the chain is put where it is made
  value_on : Adds value.1 (new_chain leaf side root b t)
  unfolding new_chain
  value_on = subst (λ k. Adds value.1 (value.0, record { trees = k; chains = (put_chain b value.0 value.1).chains })) (sym (put_trees b value.0 value.1)) (grows_none value.1.trees.building)

  pub new_adds : Adds t (new_chain leaf side root b t)
  new_adds =
      adds_both t begun (new_chain leaf side root b t) (start_adds leaf given leaves (value_at given 0) (missing_leaf side) t)
      (adds_both begun.1 value (new_chain leaf side root b t) (switches_add leaf given leaves 1 root.switches begun.0 begun.1) value_on)

  module _ (gs : List Given) (are : gs ≡ given) (missing : SigBit) (none : missing ≡ missing_leaf side) (o : Option SigBit) (first : o ≡ value_at gs 0) where
    begun_is : start_leaf leaf o missing t ≡ begun
    begun_is = λ i. start_leaf leaf ((first ∙ ap (λ g. value_at g 0) are) i) (none i) t

    -- where what it begins with passes a limit, the chain does
    pub new_start_over : PassesLimit (start_leaf leaf o missing t).1.trees.building → PassesLimit (new_chain leaf side root b t).1.trees.building
    new_start_over over =
        adds_over begun (new_chain leaf side root b t)
        (adds_both begun.1 value (new_chain leaf side root b t) (switches_add leaf given leaves 1 root.switches begun.0 begun.1) value_on)
        (subst (λ (r : SigBit × Chained). PassesLimit r.1.trees.building) begun_is over)

    module _ (start : SigBit) (t' : Chained) (made : (start, t') ≡ start_leaf leaf o missing t) (inner : Switches) (same : inner ≡ root.switches) where
      value_is : switches_chain leaf gs 1 inner start t' ≡ value
      value_is =
          let e : (start, t') ≡ begun = made ∙ begun_is in
          λ i. switches_chain leaf (are i) 1 (same i) (e i).0 (e i).1

      -- .. or where the switches do
      pub new_value_over : PassesLimit (switches_chain leaf gs 1 inner start t').1.trees.building → PassesLimit (new_chain leaf side root b t).1.trees.building
      new_value_over over =
          adds_over value (new_chain leaf side root b t) value_on (subst (λ (r : SigBit × Chained). PassesLimit r.1.trees.building) value_is over)

      -- all of it is the chain
      pub new_is : (v : SigBit) (t'' : Chained) → (v, t'') ≡ switches_chain leaf gs 1 inner start t' → (v, put_chain b v t'') ≡ new_chain leaf side root b t
      unfolding new_chain
      new_is v t'' is = let e : (v, t'') ≡ value = is ∙ value_is in λ i. ((e i).0, put_chain b (e i).0 (e i).1)

  pub chain_adds : Adds t (chain_of leaf side root b t)
  unfolding chain_of
  chain_adds = by (chain_at t.chains b)
    where
      by : (o : Option SigBit) → Adds t (option_map_or {T = SigBit} {U = SigBit × Chained} (λ s. (s, t)) o (new_chain leaf side root b t))
      by (Some s) = grows_none t.trees.building
      by None = new_adds

module _ (leaf : Leaf) (side : Side) (root : CaseView) (b : WireBit) (t : Chained) where
  abbrev by_chain : Option SigBit → SigBit × Chained
  by_chain o = option_map_or {T = SigBit} {U = SigBit × Chained} (λ s. (s, t)) o (new_chain leaf side root b t)

  pub chain_made : (s : SigBit) → chain_at t.chains b ≡ Some s → (s, t) ≡ chain_of leaf side root b t
  unfolding chain_of
  chain_made s e = ap by_chain (sym e)

  pub chain_new : chain_at t.chains b ≡ None → new_chain leaf side root b t ≡ chain_of leaf side root b t
  unfolding chain_of
  chain_new e = ap by_chain (sym e)

  pub chain_over : chain_at t.chains b ≡ None → PassesLimit (new_chain leaf side root b t).1.trees.building → PassesLimit (chain_of leaf side root b t).1.trees.building
  chain_over e over = subst (λ (r : SigBit × Chained). PassesLimit r.1.trees.building) (chain_new e) over

module _ (side : Side) (root : CaseView) (bits : List WireBit) (q : WireBit) where
  pub leaf_adds : (n : ℕ) → LeafAdds (leaf_within n side root bits q)
  unfolding leaf_within
  leaf_adds n (Fixed c) t = grows_none t.trees.building
  leaf_adds zero (OnWire b) t = by (same_bit b q)
    where
      by : (o : Bool) → Adds t (if o then (own_leaf side, t) else (other_leaf side (OnWire b), t))
      by true = grows_none t.trees.building
      by false = grows_none t.trees.building
  leaf_adds (suc n) (OnWire b) t = by (same_bit b q) (has_bit bits b) (chain_adds (leaf_within n side root bits q) (leaf_adds n) side root b t)
    where
      by : (o h : Bool) → Adds t (chain_of (leaf_within n side root bits q) side root b t) → Adds t (if o then (own_leaf side, t) else if h then chain_of (leaf_within n side root bits q) side root b t else (other_leaf side (OnWire b), t))
      by true h more = grows_none t.trees.building
      by false true more = more
      by false false more = grows_none t.trees.building

  pub leaf_fixed : (n : ℕ) (s : SigBit) (t : Chained) → is_fixed s → leaf_within n side root bits q s t ≡ (other_leaf side s, t)
  unfolding leaf_within
  leaf_fixed n (Fixed c) t h = refl
  leaf_fixed n (OnWire b) t h = absurd h

  pub leaf_own : (n : ℕ) (b : WireBit) (t : Chained) → same_bit b q ≡ true → leaf_within n side root bits q (OnWire b) t ≡ (own_leaf side, t)
  unfolding leaf_within
  leaf_own zero b t e = λ i. if e i then (own_leaf side, t) else (other_leaf side (OnWire b), t)
  leaf_own (suc n) b t e = λ i. if e i then (own_leaf side, t) else if has_bit bits b then chain_of (leaf_within n side root bits q) side root b t else (other_leaf side (OnWire b), t)

  pub leaf_other : (n : ℕ) (b : WireBit) (t : Chained) → same_bit b q ≡ false → (n ≡ 0) ⊎ (has_bit bits b ≡ false) → leaf_within n side root bits q (OnWire b) t ≡ (other_leaf side (OnWire b), t)
  unfolding leaf_within
  leaf_other zero b t e h = λ i. if e i then (own_leaf side, t) else (other_leaf side (OnWire b), t)
  leaf_other (suc n) b t e (inl h) = absurd (cc)
  leaf_other (suc n) b t e (inr h) = λ i. if e i then (own_leaf side, t) else if h i then chain_of (leaf_within n side root bits q) side root b t else (other_leaf side (OnWire b), t)

  one_deeper : (m : ℕ) (b : WireBit) (t : Chained) → same_bit b q ≡ false → has_bit bits b ≡ true → leaf_within (suc m) side root bits q (OnWire b) t ≡ chain_of (leaf_within m side root bits q) side root b t
  unfolding leaf_within
  one_deeper m b t e h = λ i. if e i then (own_leaf side, t) else if h i then chain_of (leaf_within m side root bits q) side root b t else (other_leaf side (OnWire b), t)

  pub leaf_deeper : (n m : ℕ) (b : WireBit) (t : Chained) → n ≡ suc m → same_bit b q ≡ false → has_bit bits b ≡ true → leaf_within n side root bits q (OnWire b) t ≡ chain_of (leaf_within m side root bits q) side root b t
  leaf_deeper n m b t deep e h = ap (λ k. leaf_within k side root bits q (OnWire b) t) deep ∙ one_deeper m b t e h

-- leaves as they are read for the bit of a latch
pub reads_add : (r : Reading) (n : ℕ) → LeafAdds (reads r n)
reads_add r n = leaf_adds (side_of r.side) r.root.now (tree_bits r.root.now) r.own n
