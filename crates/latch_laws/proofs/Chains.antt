-- The chains of tree bits: each result is a bit of the module, and each cell drives a fresh wire.
use Rattle.std.proofs.Common.{◌≡◌, ◌≤◌, ℕ, zero, suc, ◌+◌, Bool, true, false, List, [], ◌∷◌, ◌++◌, length, Option, Some, None, if◌then◌else◌, inl, inr, refl, arith}
use Rattle.std.specs.Prelude.{◌||◌}
use Rattle.std.specs.Option.{option_map_or}
use Rattle.std.proofs.lemmas.Bool.{ltb-false, or_parts}
use Rattle.rtl_sig.specs.declared.sig.SigBit.{SigBit}
use Rattle.rtl_sig.specs.declared.sig.SigBit.TheVariants.{Fixed, Wire as OnWire}
use Rattle.rtl_sig.specs.declared.sig.WireBit.{WireBit}
use Rattle.rtl_ir.specs.Assigns.{assigned, cases_assigns}
use Rattle.rtl_ir.specs.Faults.ProcessLimits.{cases_pass, passes_limit, switches_pass}
use Rattle.rtl_ir.specs.Follow.{all_joins}
use Rattle.rtl_ir.specs.Signals.{has_bit, same_bit}
use Rattle.rtl_ir.specs.Tree.{CaseView, Switches, NoSwitch, OneSwitch, Cases, NoCase, OneCase}
use Rattle.rtl_ir.specs.declared.module.Link.{Link}
use Rattle.net_model.proofs.Ranges.{OptionIn, RootIn, all_joins_in, each_both, each_more, each_none}
use Rattle.net_model.specs.Proc.Latch.{Chain, Chains, Leaves, Side, ForData, ForEnable, assigned_leaf, cases_chain, chain_of, leaf_within, made_chain, missing_leaf, other_leaf, own_leaf, switches_chain, with_case_bit}
use Rattle.net_model.specs.Proc.Mux.{assigns_run, lowest, with_case}
use Rattle.net_model.specs.Within.{BitIn, CasesIn, Each, LinkIn, SigIn, SwitchesIn}
use Rattle.mux_laws.proofs.FrameGrowing.{GrowsBy, grows_both, grows_none, no_fewer}
use Rattle.mux_laws.proofs.FrameTrees.{AreMade, bit_later, count_of, gives_case, sig_later, last_in}

-- how many wires there are
abbrev pub wires_of : Chains → ℕ
wires_of t = count_of t.trees.building

-- each match and each chain that is made is a bit of the module
pub record AreThere (t : Chains) : Type 0 where
  pub made : AreMade t.trees
  pub chains : Each (λ (k : Chain). BitIn (wires_of t) k.result) t.chains

-- a bit that is given, with what was built
pub record Gives (old : Chains) (r : SigBit × Chains) : Type 0 where
  pub grows : GrowsBy old.trees.building r.1.trees.building []
  pub within : BitIn (wires_of r.1) r.0
  pub there : AreThere r.1

pub more_wires : (old : Chains) (r : SigBit × Chains) → Gives old r → wires_of old ≤ wires_of r.1
more_wires old r g = no_fewer old.trees.building r.1.trees.building [] g.grows

-- two in turn
pub gives_both : (old : Chains) (r r' : SigBit × Chains) → Gives old r → Gives r.1 r' → Gives old r'
gives_both old r r' g h = record {
  grows = grows_both old.trees.building r.1.trees.building r'.1.trees.building g.grows h.grows;
  within = h.within;
  there = h.there;
}

gives_same : (t : Chains) (s : SigBit) → BitIn (wires_of t) s → AreThere t → Gives t (s, t)
gives_same t s i there = record { grows = grows_none t.trees.building; within = i; there = there }

-- leaves give bits, in a module of so many wires or more
abbrev pub LeavesGive : ℕ → Leaves → Type 0
LeavesGive n leaf = (s : SigBit) (t : Chains) → n ≤ wires_of t → BitIn (wires_of t) s → AreThere t → Gives t (leaf s t)

lowest_in : (n : ℕ) (signal : List SigBit) → SigIn n signal → BitIn n (lowest signal)
lowest_in n [] h = tt
lowest_in n (s ∷ signal) h = h s (inl refl)

one_in : (n : ℕ) (s : SigBit) → BitIn n s → SigIn n (s ∷ [])
one_in n s h = each_more (BitIn n) s [] h (each_none (BitIn n))

narrow_of : {A : Type 0} (items : List A) → passes_limit items ≡ false → length items ≤ 4096
narrow_of items e = ltb-false 4096 (length items) e

-- chains that are made are there still
chains_later : (n k : ℕ) (chains : List Chain) → n ≤ k → Each (λ (c : Chain). BitIn n c.result) chains → Each (λ (c : Chain). BitIn k c.result) chains
chains_later n k chains more h c i = bit_later n k more c.result (h c i)

-- a case of one bit
gives_case_bit : (at : List ℕ) (signal : List SigBit) (patterns : List (List SigBit)) (body acc : SigBit) (t : Chains) → length patterns ≤ 4096 → length signal ≤ 4096 → SigIn (wires_of t) signal → Each (SigIn (wires_of t)) patterns → BitIn (wires_of t) body → BitIn (wires_of t) acc → AreThere t → Gives t (with_case_bit at signal patterns body acc t)
gives_case_bit at signal patterns body acc t many narrow h k i j there =
    let value = with_case at signal patterns (body ∷ []) (acc ∷ []) t.trees in
    let g = gives_case 1 (omega arith) (omega arith) at signal patterns (body ∷ []) (acc ∷ []) t.trees many narrow h k refl (one_in (wires_of t) body i) refl (one_in (wires_of t) acc j) there.made in
    let more = no_fewer t.trees.building value.1.building [] g.grows in
    record {
      grows = g.grows;
      within = lowest_in (count_of value.1.building) value.0 g.within;
      there = record { made = g.made; chains = chains_later (wires_of t) (count_of value.1.building) t.chains more there.chains };
    }

either : (old : Chains) (x y : SigBit × Chains) (t : Bool) → Gives old x → Gives old y → Gives old (if t then x else y)
either old x y true g h = g
either old x y false g h = h

module _ (n : ℕ) (leaf : Leaves) (leaves : LeavesGive n leaf) (b : WireBit) where
  -- what a bit is assigned
  gives_start : (assigns : List Link) → Each (LinkIn n) assigns → (prior : SigBit) (t : Chains) → n ≤ wires_of t → BitIn (wires_of t) prior → AreThere t → Gives t (assigned_leaf leaf assigns b prior t)
  gives_start assigns h prior t more i there = by (assigned assigns b) (last_in n (all_joins assigns) b (all_joins_in n assigns h))
    where
      by : (o : Option SigBit) → OptionIn n o → Gives t (option_map_or {T = SigBit} {U = SigBit × Chains} (λ s. leaf s t) o (prior, t))
      by (Some s) k = leaves s t more (bit_later n (wires_of t) more s k) there
      by None k = gives_same t prior i there

  mutual
    pub gives_switches : (above : List ℕ) (number : ℕ) (switches : Switches) (prior : SigBit) (t : Chains) → SwitchesIn n switches → switches_pass switches ≡ false → n ≤ wires_of t → BitIn (wires_of t) prior → AreThere t → Gives t (switches_chain leaf b above number switches prior t)
    gives_switches above number NoSwitch prior t h e more i there = gives_same t prior i there
    gives_switches above number (OneSwitch signal attributes cases rest) prior t h e more i there =
        let k = or_parts (passes_limit signal || cases_pass cases) (switches_pass rest) e in
        let j = or_parts (passes_limit signal) (cases_pass cases) k.0 in
        let inner : SigBit × Chains = cases_chain leaf b (above ++ number ∷ []) 0 signal cases prior t in
        let r : SigBit × Chains = if assigns_run (cases_assigns cases) (b ∷ []) then inner else (prior, t) in
        let first : Gives t r = either t inner (prior, t) (assigns_run (cases_assigns cases) (b ∷ [])) (gives_cases (above ++ number ∷ []) 0 signal cases prior t (narrow_of signal j.0) h.0 h.1.0 j.1 more i there) (gives_same t prior i there) in
        let grown = more_wires t r first in
        gives_both t r (switches_chain leaf b above (number + 1) rest r.0 r.1) first
        (gives_switches above (number + 1) rest r.0 r.1 h.1.1 k.1 (omega (arith, more, grown)) first.within first.there)

    pub gives_cases : (above : List ℕ) (number : ℕ) (signal : List SigBit) (cases : Cases) (prior : SigBit) (t : Chains) → length signal ≤ 4096 → SigIn n signal → CasesIn n cases → cases_pass cases ≡ false → n ≤ wires_of t → BitIn (wires_of t) prior → AreThere t → Gives t (cases_chain leaf b above number signal cases prior t)
    gives_cases above number signal NoCase prior t narrow s h e more i there = gives_same t prior i there
    gives_cases above number signal (OneCase patterns assigns attributes switches rest) prior t narrow s h e more i there =
        let k = or_parts (passes_limit patterns || switches_pass switches) (cases_pass rest) e in
        let j = or_parts (passes_limit patterns) (switches_pass switches) k.0 in
        let acc : SigBit × Chains = cases_chain leaf b above (number + 1) signal rest prior t in
        let first : Gives t acc = gives_cases above (number + 1) signal rest prior t narrow s h.1.1.1 k.1 more i there in
        let one = more_wires t acc first in
        let start : SigBit × Chains = assigned_leaf leaf assigns b prior acc.1 in
        let second : Gives acc.1 start = gives_start assigns h.1.0 prior acc.1 (omega (arith, more, one)) (bit_later (wires_of t) (wires_of acc.1) one prior i) first.there in
        let two = more_wires acc.1 start second in
        let body : SigBit × Chains = switches_chain leaf b (above ++ number ∷ []) 0 switches start.0 start.1 in
        let third : Gives start.1 body = gives_switches (above ++ number ∷ []) 0 switches start.0 start.1 h.1.1.0 j.1 (omega (arith, more, one, two)) second.within second.there in
        let three = more_wires start.1 body third in
        let many : n ≤ wires_of body.1 = omega (arith, more, one, two, three) in
        let far : wires_of acc.1 ≤ wires_of body.1 = omega (arith, two, three) in
        let last : SigBit × Chains = with_case_bit (above ++ number ∷ []) signal patterns body.0 acc.0 body.1 in
        gives_both t acc last first
        (gives_both acc.1 start last second
        (gives_both start.1 body last third
        (gives_case_bit (above ++ number ∷ []) signal patterns body.0 acc.0 body.1 (narrow_of patterns j.0) narrow
        (sig_later n (wires_of body.1) many signal s) (λ q y. sig_later n (wires_of body.1) many q (h.0 q y))
        third.within (bit_later (wires_of acc.1) (wires_of body.1) far acc.0 first.within) third.there)))

missing_in : (n : ℕ) (side : Side) → BitIn n (missing_leaf side)
missing_in n ForData = tt
missing_in n ForEnable = tt

own_in : (n : ℕ) (side : Side) → BitIn n (own_leaf side)
own_in n ForData = tt
own_in n ForEnable = tt

other_in : (n : ℕ) (side : Side) (s : SigBit) → BitIn n s → BitIn n (other_leaf side s)
other_in n ForData s h = h
other_in n ForEnable s h = tt

chain_there : (n : ℕ) (chains : List Chain) → Each (λ (k : Chain). BitIn n k.result) chains → (b : WireBit) → OptionIn n (made_chain chains b)
chain_there n [] h b = tt
chain_there n (k ∷ chains) h b = by (same_bit k.bit b) (chain_there n chains (λ x i. h x (inr i)) b)
  where
    by : (t : Bool) → OptionIn n (made_chain chains b) → OptionIn n (if t then Some k.result else made_chain chains b)
    by true later = h k (inl refl)
    by false later = later

-- chains of a tree in a module of so many wires
module _ (n : ℕ) (root : CaseView) (is : RootIn n root) (narrow : switches_pass root.switches ≡ false) (side : Side) where
  module _ (leaf : Leaves) (leaves : LeavesGive n leaf) (b : WireBit) (t : Chains) (more : n ≤ wires_of t) (there : AreThere t) where
    abbrev begun : SigBit × Chains
    begun = assigned_leaf leaf root.assigns b (missing_leaf side) t

    abbrev value : SigBit × Chains
    value = switches_chain leaf b [] 0 root.switches begun.0 begun.1

    first : Gives t begun
    first = gives_start n leaf leaves b root.assigns is.assigns (missing_leaf side) t more (missing_in (wires_of t) side) there

    second : Gives begun.1 value
    second =
        let one = more_wires t begun first in
        gives_switches n leaf leaves b [] 0 root.switches begun.0 begun.1 is.switches narrow (omega (arith, more, one)) first.within first.there

    abbrev new : Chain
    new = record { bit = b; result = value.0 }

    made_now : Gives t (value.0, record { trees = value.1.trees; chains = value.1.chains ++ new ∷ [] })
    made_now = record {
      grows = (gives_both t begun value first second).grows;
      within = second.within;
      there = record {
        made = second.there.made;
        chains = each_both (λ (k : Chain). BitIn (wires_of value.1) k.result) value.1.chains (new ∷ []) second.there.chains (each_more (λ (k : Chain). BitIn (wires_of value.1) k.result) new [] second.within (each_none (λ (k : Chain). BitIn (wires_of value.1) k.result)));
      };
    }

    pub gives_chain : Gives t (chain_of leaf side root b t)
    gives_chain = by (made_chain t.chains b) (chain_there (wires_of t) t.chains there.chains b)
      where
        by : (o : Option SigBit) → OptionIn (wires_of t) o → Gives t (option_map_or {T = SigBit} {U = SigBit × Chains} (λ s. (s, t)) o (value.0, record { trees = value.1.trees; chains = value.1.chains ++ new ∷ [] }))
        by (Some s) i = gives_same t s i there
        by None i = made_now

  deeper : (t : Chains) (s : SigBit) (chain : SigBit × Chains) → BitIn (wires_of t) s → AreThere t → Gives t chain → (own among : Bool) → Gives t (if own then (own_leaf side, t) else if among then chain else (other_leaf side s, t))
  deeper t s chain i there g true among = gives_same t (own_leaf side) (own_in (wires_of t) side) there
  deeper t s chain i there g false true = g
  deeper t s chain i there g false false = gives_same t (other_leaf side s) (other_in (wires_of t) side s i) there

  pub gives_leaf : (depth : ℕ) (bits : List WireBit) (q : WireBit) → LeavesGive n (leaf_within depth side root bits q)
  gives_leaf depth bits q (Fixed c) t more i there = gives_same t (other_leaf side (Fixed c)) (other_in (wires_of t) side (Fixed c) tt) there
  gives_leaf zero bits q (OnWire b) t more i there = deeper t (OnWire b) (own_leaf side, t) i there (gives_same t (own_leaf side) (own_in (wires_of t) side) there) (same_bit b q) false
  gives_leaf (suc depth) bits q (OnWire b) t more i there =
      deeper t (OnWire b) (chain_of (leaf_within depth side root bits q) side root b t) i there
      (gives_chain (leaf_within depth side root bits q) (gives_leaf depth bits q) b t more there)
      (same_bit b q) (has_bit bits b)
