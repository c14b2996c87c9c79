-- What the step of `proc` builds in which bits that are always updated become latches is such as a text can give.
use Rattle.std.proofs.Common.{◌≡◌, ℕ, zero, suc, ◌+◌, ◌≤◌, Bool, true, false, if◌then◌else◌, List, [], ◌∷◌, ◌++◌, length, Option, Some, None, inl, inr, refl, sym, ◌∙◌, ap, subst, arith}
use Rattle.std.specs.Prelude.{◌||◌, codes, map}
use Rattle.std.specs.List.{All}
use Rattle.std.specs.Option.{option_map_or}
use Rattle.std.proofs.lemmas.Bool.{or_parts}
use Rattle.std.proofs.lemmas.List.Elements.{All-cons, All-filter, All-head, All-nil, All-tail}
use Rattle.rtl_sig.specs.declared.sig.SigBit.{SigBit}
use Rattle.rtl_sig.specs.declared.sig.SigBit.TheVariants.{Fixed, Wire as OnWire}
use Rattle.rtl_sig.specs.declared.sig.WireBit.{WireBit}
use Rattle.rtl_ir.specs.Assigns.{assigned, cases_assigns, tree_bits}
use Rattle.rtl_ir.specs.Build.{Building, building_of, integer_param, new_link, pin_of}
use Rattle.rtl_ir.specs.Faults.ProcessLimits.{cases_pass, passes_limit, switches_pass}
use Rattle.rtl_ir.specs.Flat.Process.{may_hold}
use Rattle.rtl_ir.specs.Follow.{all_joins}
use Rattle.rtl_ir.specs.Rules.{acting_rules}
use Rattle.rtl_ir.specs.Scope.{with_processes}
use Rattle.rtl_ir.specs.Signals.{has_bit, same_bit}
use Rattle.rtl_ir.specs.Tree.{Cases, CaseView, NoCase, NoSwitch, OneCase, OneSwitch, Switches}
use Rattle.rtl_ir.specs.Types as types
use Rattle.rtl_ir.specs.declared.follow.Join.{Join}
use Rattle.rtl_ir.specs.declared.module.Link.{Link}
use Rattle.rtl_ir.specs.declared.module.Module.{Module}
use Rattle.rtl_ir.specs.declared.process.Process.{Process}
use Rattle.rtl_ir.specs.declared.process.SyncRule.{SyncRule}
use Rattle.rtl_ir.specs.declared.wire.Wire.{Wire}
use Rattle.net_model.proofs.Ranges.{each_both, each_more, each_none}
use Rattle.net_model.specs.Proc.Latch.{Chain, Chains, ForData, ForEnable, Leaves, Side, always_step, always_steps, assigned_leaf, cases_chain, chain_of, is_always, latch_cell, latch_process, latch_step, latches_step, leaf_within, made_chain, missing_leaf, other_leaf, own_leaf, proc_latch_of, side_value, switches_chain, with_case_bit, without_always}
use Rattle.net_model.specs.Proc.Mux.{Made, Trees, assigns_run, with_case}
use Rattle.net_model.specs.Within.{Each}
use Rattle.pass_laws.specs.Ready.{IsReadyWithin}
use Rattle.rtl_readable.specs.Changing.{times}
use Rattle.rtl_readable.specs.Readable.{AreCases, AreSwitches, IsBitOf, IsLink, IsProcess, IsRule, IsSomeSignal, item_names}
use Rattle.rtl_readable.proofs.Counting.{item_times, process_names, still_distinct}
use Rattle.rtl_readable.proofs.Signals.{all_joins_are, rights_are}
use Rattle.readable_laws.specs.Extends.{Extends, HasReadableItems}
use Rattle.readable_laws.proofs.Cells.{apart_distinct, number_is, params_two, pins_three}
use Rattle.readable_laws.proofs.Extending.{bit_later, extended, extends_both, extends_cell, extends_link, extends_none}
use Rattle.readable_laws.proofs.Parts.{one_signal}
use Rattle.readable_passes.proofs.Mux.{AreMade, OptionIs, bits_later, gives_case, last_is, low_is, narrow_of, narrow_processes}
use Rattle.readable_passes.proofs.Replaced.{all_each}
use Rattle.readable_passes.proofs.TreeBits.{JoinIs, lines_are}

-- each chain that is made is a bit of the module
abbrev AreChained : Chains → Type 0
AreChained t = Each (λ (c : Chain). IsBitOf t.trees.building.body.wires c.result) t.chains

-- a bit that is given, with what was built
record GivesLeaf (old : Chains) (r : SigBit × Chains) : Type 0 where
  steps : Extends old.trees.building r.1.trees.building
  is : IsBitOf r.1.trees.building.body.wires r.0
  made : AreMade r.1.trees
  chained : AreChained r.1

leaf_both : (a b : Chains) (r : SigBit × Chains) → Extends a.trees.building b.trees.building → GivesLeaf b r → GivesLeaf a r
leaf_both a b r e g = record { steps = extends_both a.trees.building b.trees.building r.1.trees.building e g.steps; is = g.is; made = g.made; chained = g.chained }

leaf_none : (t : Chains) (s : SigBit) → IsBitOf t.trees.building.body.wires s → AreMade t.trees → AreChained t → GivesLeaf t (s, t)
leaf_none t s h made chained = record { steps = extends_none t.trees.building; is = h; made = made; chained = chained }

either : (t : Chains) (x y : SigBit × Chains) (z : Bool) → GivesLeaf t x → GivesLeaf t y → GivesLeaf t (if z then x else y)
either t x y true g h = g
either t x y false g h = h

chain_there : (wires : List Wire) (chains : List Chain) → Each (λ (c : Chain). IsBitOf wires c.result) chains → (b : WireBit) → OptionIs wires (made_chain chains b)
chain_there wires [] h b = tt
chain_there wires (c ∷ chains) h b = by (same_bit c.bit b) (chain_there wires chains (λ x i. h x (inr i)) b)
  where
    by : (t : Bool) → OptionIs wires (made_chain chains b) → OptionIs wires (if t then Some c.result else made_chain chains b)
    by true later = h c (inl refl)
    by false later = later

module _ (old : Building) where
  -- leaves that are given well, of bits of the module as it was
  abbrev AreGood : Leaves → Type 0
  AreGood leaf =
      (s : SigBit) (t : Chains) → IsBitOf old.body.wires s → Extends old t.trees.building → AreMade t.trees → AreChained t → GivesLeaf t (leaf s t)

  module _ (leaf : Leaves) (good : AreGood leaf) (b : WireBit) where
    assigned_gives : (assigns : List Link) (prior : SigBit) (t : Chains) → All (IsLink old.body.wires) assigns → Extends old t.trees.building → IsBitOf t.trees.building.body.wires prior → AreMade t.trees → AreChained t → GivesLeaf t (assigned_leaf leaf assigns b prior t)
    assigned_gives assigns prior t all more h made chained =
        by (assigned assigns b) (last_is old.body.wires (all_joins assigns) b (all_joins_are (IsBitOf old.body.wires) assigns (rights_are old.body.wires assigns all)))
      where
        by : (o : Option SigBit) → OptionIs old.body.wires o → GivesLeaf t (option_map_or (λ s. leaf s t) o (prior, t))
        by None k = leaf_none t prior h made chained
        by (Some s) k = good s t k more made chained

    case_gives : (at : List ℕ) (signal : List SigBit) (patterns : List (List SigBit)) (body acc : SigBit) (t : Chains) → length patterns ≤ 4096 → length signal ≤ 4096 → Each (IsBitOf t.trees.building.body.wires) signal → Each (Each (IsBitOf t.trees.building.body.wires)) patterns → IsBitOf t.trees.building.body.wires body → IsBitOf t.trees.building.body.wires acc → AreMade t.trees → AreChained t
        → GivesLeaf t (with_case_bit at signal patterns body acc t)
    case_gives at signal patterns body acc t many narrow hs hp hb ha made chained =
        let wires = t.trees.building.body.wires in
        let g = gives_case 1 (omega arith) (omega arith) at signal patterns (body ∷ []) (acc ∷ []) t.trees many narrow hs hp refl (one_signal wires body hb) refl (one_signal wires acc ha) made in
        let value = with_case at signal patterns (body ∷ []) (acc ∷ []) t.trees in
        record {
          steps = g.steps;
          is = low_is value.1.building.body.wires value.0 g.is;
          made = g.made;
          chained = λ c i. bit_later t.trees.building value.1.building g.steps c.result (chained c i);
        }

    mutual
      switches_give : (above : List ℕ) (number depth : ℕ) (switches : Switches) (prior : SigBit) (t : Chains) → AreSwitches old.body.wires depth switches → switches_pass switches ≡ false → Extends old t.trees.building → IsBitOf t.trees.building.body.wires prior → AreMade t.trees → AreChained t → GivesLeaf t (switches_chain leaf b above number switches prior t)
      switches_give above number depth NoSwitch prior t h e more i made chained = leaf_none t prior i made chained
      switches_give above number depth (OneSwitch signal attributes cases rest) prior t h e more i made chained =
          let k = or_parts (passes_limit signal || cases_pass cases) (switches_pass rest) e in
          let j = or_parts (passes_limit signal) (cases_pass cases) k.0 in
          let r : SigBit × Chains = if assigns_run (cases_assigns cases) (b ∷ []) then cases_chain leaf b (above ++ number ∷ []) 0 signal cases prior t else (prior, t) in
          let inner = cases_give (above ++ number ∷ []) 0 (depth + 1) signal cases prior t (narrow_of signal j.0) (all_each (IsBitOf old.body.wires) signal h.1.signal.bits) h.3 j.1 more i made chained in
          let first : GivesLeaf t r = either t (cases_chain leaf b (above ++ number ∷ []) 0 signal cases prior t) (prior, t) (assigns_run (cases_assigns cases) (b ∷ [])) inner (leaf_none t prior i made chained) in
          leaf_both t r.1 (switches_chain leaf b above (number + 1) rest r.0 r.1) first.steps
          (switches_give above (number + 1) depth rest r.0 r.1 h.4 k.1 (extends_both old t.trees.building r.1.trees.building more first.steps) first.is first.made first.chained)

      cases_give : (above : List ℕ) (number depth : ℕ) (signal : List SigBit) (cases : Cases) (prior : SigBit) (t : Chains) → length signal ≤ 4096 → Each (IsBitOf old.body.wires) signal → AreCases old.body.wires depth cases → cases_pass cases ≡ false → Extends old t.trees.building → IsBitOf t.trees.building.body.wires prior → AreMade t.trees → AreChained t → GivesLeaf t (cases_chain leaf b above number signal cases prior t)
      cases_give above number depth signal NoCase prior t narrow s h e more i made chained = leaf_none t prior i made chained
      cases_give above number depth signal (OneCase patterns assigns attributes switches rest) prior t narrow s h e more i made chained =
          let k = or_parts (passes_limit patterns || switches_pass switches) (cases_pass rest) e in
          let j = or_parts (passes_limit patterns) (switches_pass switches) k.0 in
          let acc = cases_chain leaf b above (number + 1) signal rest prior t in
          let one = cases_give above (number + 1) depth signal rest prior t narrow s h.4 k.1 more i made chained in
          let here = extends_both old t.trees.building acc.1.trees.building more one.steps in
          let start = assigned_leaf leaf assigns b prior acc.1 in
          let two = assigned_gives assigns prior acc.1 h.1 here (bit_later t.trees.building acc.1.trees.building one.steps prior i) one.made one.chained in
          let there = extends_both old acc.1.trees.building start.1.trees.building here two.steps in
          let body = switches_chain leaf b (above ++ number ∷ []) 0 switches start.0 start.1 in
          let three = switches_give (above ++ number ∷ []) 0 depth switches start.0 start.1 h.3 j.1 there two.is two.made two.chained in
          let last = extends_both old start.1.trees.building body.1.trees.building there three.steps in
          let since = extends_both acc.1.trees.building start.1.trees.building body.1.trees.building two.steps three.steps in
          leaf_both t body.1 (with_case_bit (above ++ number ∷ []) signal patterns body.0 acc.0 body.1)
          (extends_both t.trees.building acc.1.trees.building body.1.trees.building one.steps since)
          (case_gives (above ++ number ∷ []) signal patterns body.0 acc.0 body.1 (narrow_of patterns j.0) narrow
          (bits_later old body.1.trees.building last signal s)
          (λ q y. bits_later old body.1.trees.building last q (all_each (IsBitOf old.body.wires) q (all_each (IsSomeSignal old.body.wires) patterns h.0 q y).signal.bits))
          three.is (bit_later acc.1.trees.building body.1.trees.building since acc.0 one.is) three.made three.chained)

  missing_is : (side : Side) (wires : List Wire) → IsBitOf wires (missing_leaf side)
  missing_is ForData wires = tt
  missing_is ForEnable wires = tt

  own_is : (side : Side) (wires : List Wire) → IsBitOf wires (own_leaf side)
  own_is ForData wires = tt
  own_is ForEnable wires = tt

  other_is : (side : Side) (wires : List Wire) (s : SigBit) → IsBitOf wires s → IsBitOf wires (other_leaf side s)
  other_is ForData wires s h = h
  other_is ForEnable wires s h = tt

  module _ (root : CaseView) (assigns : All (IsLink old.body.wires) root.assigns) (switches : AreSwitches old.body.wires 0 root.switches) (narrow : switches_pass root.switches ≡ false) (bits : List WireBit) (side : Side) where
    chain_gives : (leaf : Leaves) → AreGood leaf → (b : WireBit) (t : Chains) → Extends old t.trees.building → AreMade t.trees → AreChained t → GivesLeaf t (chain_of leaf side root b t)
    chain_gives leaf good b t more made chained =
        by (made_chain t.chains b) (chain_there t.trees.building.body.wires t.chains chained b)
      where
        by : (o : Option SigBit) → OptionIs t.trees.building.body.wires o
            → GivesLeaf t (option_map_or (λ s. (s, t)) o (let start = assigned_leaf leaf root.assigns b (missing_leaf side) t in let value = switches_chain leaf b [] 0 root.switches start.0 start.1 in (value.0, record { trees = value.1.trees; chains = value.1.chains ++ record { bit = b; result = value.0 } ∷ [] })))
        by (Some s) h = leaf_none t s h made chained
        by None h =
            let start = assigned_leaf leaf root.assigns b (missing_leaf side) t in
            let one = assigned_gives leaf good b root.assigns (missing_leaf side) t assigns more (missing_is side t.trees.building.body.wires) made chained in
            let here = extends_both old t.trees.building start.1.trees.building more one.steps in
            let value = switches_chain leaf b [] 0 root.switches start.0 start.1 in
            let two = switches_give leaf good b [] 0 0 root.switches start.0 start.1 switches narrow here one.is one.made one.chained in
            record {
              steps = extends_both t.trees.building start.1.trees.building value.1.trees.building one.steps two.steps;
              is = two.is;
              made = two.made;
              chained = each_both (λ (c : Chain). IsBitOf value.1.trees.building.body.wires c.result) value.1.chains _ two.chained (each_more (λ (c : Chain). IsBitOf value.1.trees.building.body.wires c.result) (record { bit = b; result = value.0 }) [] two.is (each_none (λ (c : Chain). IsBitOf value.1.trees.building.body.wires c.result)));
            }

    leaves_good : (n : ℕ) (q : WireBit) → AreGood (leaf_within n side root bits q)
    leaves_good zero q (Fixed c) t h more made chained = leaf_none t (other_leaf side (Fixed c)) (other_is side t.trees.building.body.wires (Fixed c) tt) made chained
    leaves_good zero q (OnWire b) t h more made chained = by (same_bit b q)
      where
        by : (z : Bool) → GivesLeaf t (if z then (own_leaf side, t) else (other_leaf side (OnWire b), t))
        by true = leaf_none t (own_leaf side) (own_is side t.trees.building.body.wires) made chained
        by false = leaf_none t (other_leaf side (OnWire b)) (other_is side t.trees.building.body.wires (OnWire b) (bit_later old t.trees.building more (OnWire b) h)) made chained
    leaves_good (suc n) q (Fixed c) t h more made chained = leaf_none t (other_leaf side (Fixed c)) (other_is side t.trees.building.body.wires (Fixed c) tt) made chained
    leaves_good (suc n) q (OnWire b) t h more made chained =
        by (same_bit b q) (has_bit bits b) (chain_gives (leaf_within n side root bits q) (leaves_good n q) b t more made chained)
      where
        by : (z y : Bool) → GivesLeaf t (chain_of (leaf_within n side root bits q) side root b t) → GivesLeaf t (if z then (own_leaf side, t) else if y then chain_of (leaf_within n side root bits q) side root b t else (other_leaf side (OnWire b), t))
        by true y g = leaf_none t (own_leaf side) (own_is side t.trees.building.body.wires) made chained
        by false true g = g
        by false false g = leaf_none t (other_leaf side (OnWire b)) (other_is side t.trees.building.body.wires (OnWire b) (bit_later old t.trees.building more (OnWire b) h)) made chained

  -- a bit that is given, with what was built and the matches that are made
  record GivesSide (t : Trees) (r : SigBit × Trees) : Type 0 where
    steps : Extends t.building r.1.building
    is : IsBitOf r.1.building.body.wires r.0
    made : AreMade r.1

  record AddsLatch (t r : Trees) : Type 0 where
    steps : Extends t.building r.building
    made : AreMade r

  module _ (root : CaseView) (assigns : All (IsLink old.body.wires) root.assigns) (switches : AreSwitches old.body.wires 0 root.switches) (narrow : switches_pass root.switches ≡ false) (bits : List WireBit) where
    side_gives : (side : Side) (j : Join) (t : Trees) → IsBitOf old.body.wires j.source → Extends old t.building → AreMade t → GivesSide t (side_value side root bits j t)
    side_gives side j t h more made =
        let g = leaves_good root assigns switches narrow bits side (length bits) j.bit j.source (record { trees = t; chains = [] }) h more made (λ c i. absurd i) in
        record { steps = g.steps; is = g.is; made = g.made }

    latch_gives : (j : Join) (t : Trees) → JoinIs old.body.wires j → Extends old t.building → AreMade t → AddsLatch t (latch_step root bits j t)
    latch_gives j t h more made =
        let new = side_value ForData root bits j t in
        let one = side_gives ForData j t h.source more made in
        let here = extends_both old t.building new.1.building more one.steps in
        let enable = side_value ForEnable root bits j new.1 in
        let two = side_gives ForEnable j new.1 h.source here one.made in
        let there = extends_both old new.1.building enable.1.building here two.steps in
        let wires = enable.1.building.body.wires in
        let last = latch_cell j.bit new.0 enable.0 enable.1.building in
        let cell = extends_cell (codes "$dlatch") (integer_param (codes "\\WIDTH") 1 ∷ integer_param (codes "\\EN_POLARITY") 1 ∷ []) (pin_of (codes "\\EN") (enable.0 ∷ []) ∷ pin_of (codes "\\D") (new.0 ∷ []) ∷ pin_of (codes "\\Q") (OnWire j.bit ∷ []) ∷ []) enable.1.building
        (record {
          kind_name = refl;
          values = params_two (integer_param (codes "\\WIDTH") 1) (integer_param (codes "\\EN_POLARITY") 1) (number_is (codes "\\WIDTH") 1 refl (omega arith)) (number_is (codes "\\EN_POLARITY") 1 refl (omega arith));
          distinct_params = apart_distinct (codes "\\WIDTH" ∷ codes "\\EN_POLARITY" ∷ []) refl;
          distinct_pins = apart_distinct (codes "\\EN" ∷ codes "\\D" ∷ codes "\\Q" ∷ []) refl;
        })
        (pins_three wires (pin_of (codes "\\EN") (enable.0 ∷ [])) (pin_of (codes "\\D") (new.0 ∷ [])) (pin_of (codes "\\Q") (OnWire j.bit ∷ []))
        (record { name = refl; sig = one_signal wires enable.0 two.is })
        (record { name = refl; sig = one_signal wires new.0 (bit_later new.1.building enable.1.building two.steps new.0 one.is) })
        (record { name = refl; sig = one_signal wires (OnWire j.bit) (bit_later old enable.1.building there (OnWire j.bit) h.bit) })) in
        record {
          steps = extends_both t.building enable.1.building last (extends_both t.building new.1.building enable.1.building one.steps two.steps) cell;
          made = λ k i. bit_later enable.1.building last cell k.bit (two.made k i);
        }

    always_gives : (j : Join) (t : Trees) → JoinIs old.body.wires j → Extends old t.building → AreMade t → AddsLatch t (always_step root bits j t)
    always_gives j t h more made = by (may_hold root bits j) (latch_gives j t h more made)
      where
        by : (z : Bool) → AddsLatch t (latch_step root bits j t) → AddsLatch t (if z then latch_step root bits j t else record { building = new_link (OnWire j.bit ∷ []) (j.source ∷ []) t.building; made = t.made })
        by true g = g
        by false g = record {
          steps = extends_link (OnWire j.bit ∷ []) (j.source ∷ []) t.building (one_signal t.building.body.wires (OnWire j.bit) (bit_later old t.building more (OnWire j.bit) h.bit)) (one_signal t.building.body.wires j.source (bit_later old t.building more j.source h.source));
          made = made;
        }

    steps_give : (js : List Join) (t : Trees) → Each (JoinIs old.body.wires) js → Extends old t.building → AreMade t → Extends t.building (always_steps root bits js t).building
    steps_give [] t h more made = extends_none t.building
    steps_give (j ∷ js) t h more made =
        let one = always_gives j t (h j (inl refl)) more made in
        let next = always_step root bits j t in
        extends_both t.building next.building (always_steps root bits js next).building one.steps (steps_give js next (λ x i. h x (inr i)) (extends_both old t.building next.building more one.steps) one.made)

  process_gives : (p : Process) → IsProcess old.body.wires p → switches_pass p.root.switches ≡ false → (rules : List SyncRule) → All (IsRule old.body.wires) rules → (b : Building) → Extends old b → Extends b (latch_process p rules b)
  process_gives p is narrow [] all b more = extends_none b
  process_gives p is narrow (r ∷ []) all b more = by (is_always r.event)
    where
      by : (z : Bool) → Extends b (if z then (always_steps p.root (tree_bits p.root) (all_joins r.updates) (record { building = b; made = [] })).building else b)
      by true =
          steps_give p.root is.assigns is.switches narrow (tree_bits p.root) (all_joins r.updates) (record { building = b; made = [] })
          (lines_are old.body.wires r.updates (All-head (IsRule old.body.wires) r [] all).updates) more (each_none (λ (k : Made). IsBitOf b.body.wires k.bit))
      by false = extends_none b
  process_gives p is narrow (r ∷ s ∷ rules) all b more = extends_none b

  latches_give : (ps : List Process) (b : Building) → Each (IsProcess old.body.wires) ps → Each (λ (q : Process). switches_pass q.root.switches ≡ false) ps → Extends old b → Extends b (latches_step ps b)
  latches_give [] b h narrow more = extends_none b
  latches_give (p ∷ ps) b h narrow more =
      let own = h p (inl refl) in
      let one = process_gives p own (narrow p (inl refl)) (acting_rules p.syncs) (All-filter _ (IsRule old.body.wires) p.syncs own.rules) b more in
      let next = latch_process p (acting_rules p.syncs) b in
      extends_both b next (latches_step ps next) one (latches_give ps next (λ q i. h q (inr i)) (λ q i. narrow q (inr i)) (extends_both old b next more one))

-- processes without the rules that always act
without_are : (wires : List Wire) (ps : List Process) → All (IsProcess wires) ps → All (IsProcess wires) (map without_always ps)
without_are wires [] all = All-nil (IsProcess wires)
without_are wires (p ∷ ps) all =
    let is = All-head (IsProcess wires) p ps all in
    All-cons (IsProcess wires) (without_always p) (map without_always ps)
    (record {
      name = is.name;
      patterns = is.patterns;
      plain = is.plain;
      assigns = is.assigns;
      switches = is.switches;
      rules = All-filter (λ (r : SyncRule). if is_always r.event then false else true) (IsRule wires) p.syncs is.rules;
      attributes = is.attributes;
    })
    (without_are wires ps (All-tail (IsProcess wires) p ps all))

names_stay : (ps : List Process) → process_names (map without_always ps) ≡ process_names ps
names_stay [] = refl
names_stay (p ∷ ps) = ap (λ z. p.name ∷ z) (names_stay ps)

latched : (m : Module) (ps : List Process) → m.processes ≡ ps → HasReadableItems m → HasReadableItems (record m { processes = map without_always ps })
latched m ps e is =
    let old : process_names m.processes ≡ process_names ps = ap process_names e in
    record {
      id = is.id;
      attributes = is.attributes;
      parameters = is.parameters;
      wires = is.wires;
      memories = is.memories;
      cells = is.cells;
      processes = without_are m.wires ps (subst (All (IsProcess m.wires)) e is.processes);
      links = is.links;
      distinct = still_distinct (item_names (record m { processes = map without_always ps })) (item_names m)
          (λ name.
          let same : times name (process_names (map without_always ps)) ≡ times name (process_names m.processes) = ap (times name) (names_stay ps ∙ sym old) in
          omega (arith, item_times name (record m { processes = map without_always ps }), item_times name m, same)) is.distinct;
    }

pub latch_reads : (ports : types.Ports) (m : Module) → IsReadyWithin with_processes ports m → HasReadableItems m → (latches_step m.processes (building_of m)).next ≤ 1000000000 → HasReadableItems (proc_latch_of m)
latch_reads ports m ready is few =
    let last : Building = latches_step m.processes (building_of m) in
    let e = latches_give (building_of m) m.processes (building_of m) (all_each (IsProcess m.wires) m.processes is.processes) (narrow_processes ports m ready) (extends_none (building_of m)) in
    latched last.body m.processes (ap (λ (b : Module). b.processes) e.body) (extended m last is e few)
