-- Designs that a text can give are sound.
use Rattle.std.proofs.Common.{◌≡◌, ℕ, ◌+◌, Bool, true, false, List, [], ◌∷◌, ◌++◌, inl, inr, ⊎_elim, refl, sym, ◌∙◌, subst, true≢false}
use Rattle.std.specs.Prelude.{map, filter, if◌then◌else◌}
use Rattle.std.specs.List.{All, AllByRecursion, IsDistinct}
use Rattle.std.specs.Str.{bytes_eq}
use Rattle.std.proofs.lemmas.List.Elements.{All-head, All-tail}
use Rattle.std.proofs.lemmas.Slice.Eq.{bytes_eq-Decides}
use Rattle.rtl_sig.specs.declared.sig.SigBit.{SigBit}
use Rattle.rtl_sig.specs.declared.sig.SigBit.TheVariants.{Fixed, Wire as OnWire}
use Rattle.rtl_sig.specs.declared.sig.WireBit.{WireBit}
use Rattle.rtl_sig.specs.Names.{AreDistinct}
use Rattle.rtl_ir.specs.declared.cell.Cell.{Cell}
use Rattle.rtl_ir.specs.declared.module.Design.{Design}
use Rattle.rtl_ir.specs.declared.module.Link.{Link}
use Rattle.rtl_ir.specs.declared.module.Module.{Module}
use Rattle.rtl_ir.specs.declared.process.Process.{Process}
use Rattle.rtl_ir.specs.declared.process.SyncRule.{SyncRule}
use Rattle.rtl_ir.specs.declared.store.Store.{Store}
use Rattle.rtl_ir.specs.declared.value.Attribute.{Attribute}
use Rattle.rtl_ir.specs.declared.wire.Wire.{Wire}
use Rattle.rtl_ir.specs.Assigns.{switches_assigns, cases_assigns, case_assigns, left_bits, each_once, tree_bits}
use Rattle.rtl_ir.specs.Rules.{acting_rules, without_bit, beyond, updated_by, updated_bits}
use Rattle.rtl_ir.specs.Signals.{same_bit, has_bit, wire_bits, is_all_constant}
use Rattle.rtl_ir.specs.SwitchRules.{patterns_left, takes_the_rest, kept_case, switches_by_rules, cases_by_rules, root_by_rules}
use Rattle.rtl_ir.specs.Tree.{Switches, NoSwitch, OneSwitch, Cases, NoCase, OneCase}
use Rattle.net_model.specs.Lists.{In, Apart, Distinct}
use Rattle.net_model.specs.Within.{Each}
use Rattle.net_model.proofs.Members.{In-cases}
use Rattle.net_model.proofs.Ranges.{each_none, each_both, each_flat_map}
use Rattle.rtl_readable.specs.Readable.{IsBitOf, IsLink, IsPin, IsCell, IsRule, IsProcess, AreSwitches, AreCases, IsReadableModule, IsReadable, item_names}
use Rattle.check_laws.specs.Sound.{HasBit, IsSoundModule, IsSound}
use Rattle.check_laws.proofs.Parts.{apart_parts, part_filter}

all_each : {A : Type 0} (P : A → Type 0) (xs : List A) → All P xs → Each P xs
all_each P [] all x i = absurd i
all_each P (y ∷ ys) all x (inl e) = subst P (sym e) (All-head P y ys all)
all_each P (y ∷ ys) all x (inr i) = all_each P ys (All-tail P y ys all) x i

-- names
name_apart : (name : List ℕ) (names : List (List ℕ)) → AllByRecursion (λ y. bytes_eq name y ≡ false) names → Apart name names
name_apart name [] h = tt
name_apart name (y ∷ ys) h = (λ e. true≢false (sym ((bytes_eq-Decides name y).1 e) ∙ h.0), name_apart name ys h.1)

names_distinct : (names : List (List ℕ)) → AreDistinct names → Distinct names
unfolding IsDistinct
names_distinct [] d = tt
names_distinct (name ∷ names) d = (name_apart name names d.0, names_distinct names d.1)

module _ (wires : List Wire) where
  -- the bits of a signal
  signal_has : (ss : List SigBit) → All (IsBitOf wires) ss → Each (HasBit wires) (wire_bits ss)
  signal_has [] all b i = absurd i
  signal_has (Fixed c ∷ ss) all b i = signal_has ss (All-tail (IsBitOf wires) (Fixed c) ss all) b i
  signal_has (OnWire x ∷ ss) all b (inl e) = subst (HasBit wires) (sym e) (All-head (IsBitOf wires) (OnWire x) ss all)
  signal_has (OnWire x ∷ ss) all b (inr i) = signal_has ss (All-tail (IsBitOf wires) (OnWire x) ss all) b i

  -- the left bits of lines
  left_have : (lines : List Link) → Each (IsLink wires) lines → Each (HasBit wires) (left_bits lines)
  left_have lines h = each_flat_map (HasBit wires) (λ (l : Link). wire_bits l.left) lines (λ l i. signal_has l.left (h l i).left.bits)

  -- the assigns of switches that are read by the rules
  kept_have : (signal : List SigBit) (patterns constants : List (List SigBit)) (assigns : List Link) (attributes : List Attribute) (switches : Switches) (rest : Cases) → Each (IsLink wires) assigns → Each (IsLink wires) (switches_assigns switches) → Each (IsLink wires) (cases_assigns rest) → Each (IsLink wires) (cases_assigns (kept_case signal patterns constants (λ left behind. OneCase left assigns attributes switches behind) rest))
  kept_have signal [] constants assigns attributes switches rest h i j = j
  kept_have signal (p ∷ ps) constants assigns attributes switches rest h i j = by (takes_the_rest signal (p ∷ ps) constants)
    where
      by : (t : Bool) → Each (IsLink wires) (cases_assigns (if t then OneCase [] assigns attributes switches NoCase else OneCase (p ∷ ps) assigns attributes switches rest))
      by true = each_both (IsLink wires) (assigns ++ switches_assigns switches) [] (each_both (IsLink wires) assigns (switches_assigns switches) h i) (each_none (IsLink wires))
      by false = each_both (IsLink wires) (assigns ++ switches_assigns switches) (cases_assigns rest) (each_both (IsLink wires) assigns (switches_assigns switches) h i) j

  mutual
    switches_have : (depth : ℕ) (switches : Switches) → AreSwitches wires depth switches → Each (IsLink wires) (switches_assigns (switches_by_rules switches))
    switches_have depth NoSwitch h = each_none (IsLink wires)
    switches_have depth (OneSwitch signal attributes cases rest) h =
        each_both (IsLink wires) (cases_assigns (cases_by_rules signal [] cases)) (switches_assigns (switches_by_rules rest)) (cases_have (depth + 1) signal [] cases h.3) (switches_have depth rest h.4)

    cases_have : (depth : ℕ) (signal : List SigBit) (earlier : List (List SigBit)) (cases : Cases) → AreCases wires depth cases → Each (IsLink wires) (cases_assigns (cases_by_rules signal earlier cases))
    cases_have depth signal earlier NoCase h = each_none (IsLink wires)
    cases_have depth signal earlier (OneCase [] assigns attributes switches rest) h =
        each_both (IsLink wires) (assigns ++ switches_assigns (switches_by_rules switches)) []
        (each_both (IsLink wires) assigns (switches_assigns (switches_by_rules switches)) (all_each (IsLink wires) assigns h.1) (switches_have depth switches h.3))
        (each_none (IsLink wires))
    cases_have depth signal earlier (OneCase (p ∷ ps) assigns attributes switches rest) h =
        let left = patterns_left signal earlier (p ∷ ps) in
        let constants = earlier ++ filter is_all_constant left in
        kept_have signal left constants assigns attributes (switches_by_rules switches) (cases_by_rules signal constants rest)
        (all_each (IsLink wires) assigns h.1) (switches_have depth switches h.3) (cases_have depth signal constants rest h.4)

  -- tree bits
  once_in : (bits : List WireBit) (b : WireBit) → In b (each_once bits) → In b bits
  once_in [] b i = absurd i
  once_in (c ∷ bits) b i = by (has_bit bits c) (once_in bits b) i
    where
      by : (t : Bool) → (In b (each_once bits) → In b bits) → In b (if t then each_once bits else c ∷ each_once bits) → In b (c ∷ bits)
      by true later j = inr (later j)
      by false later (inl e) = inl e
      by false later (inr j) = inr (later j)

  trees_have : (p : Process) → IsProcess wires p → Each (HasBit wires) (tree_bits p.root)
  trees_have p is b i =
      left_have (case_assigns (root_by_rules p.root))
      (each_both (IsLink wires) p.root.assigns (switches_assigns (switches_by_rules p.root.switches)) (all_each (IsLink wires) p.root.assigns is.assigns) (switches_have 0 p.root.switches is.switches))
      b (once_in (left_bits (case_assigns (root_by_rules p.root))) b i)

  -- updated bits
  without_in : (c : WireBit) (bits : List WireBit) (b : WireBit) → In b (without_bit c bits) → In b bits
  without_in c [] b i = absurd i
  without_in c (d ∷ bits) b i = by (same_bit c d) (without_in c bits b) i
    where
      by : (t : Bool) → (In b (without_bit c bits) → In b bits) → In b (if t then bits else d ∷ without_bit c bits) → In b (d ∷ bits)
      by true later j = inr j
      by false later (inl e) = inl e
      by false later (inr j) = inr (later j)

  beyond_in : (seen bits : List WireBit) (b : WireBit) → In b (beyond seen bits) → In b bits
  beyond_in [] bits b i = i
  beyond_in (c ∷ seen) bits b i = without_in c bits b (beyond_in seen (without_bit c bits) b i)

  updated_have : (rules : List SyncRule) → Each (IsRule wires) rules → Each (HasBit wires) (updated_by rules)
  updated_have [] h b i = absurd i
  updated_have (r ∷ rules) h b i =
      ⊎_elim
      (λ l. left_have r.updates (all_each (IsLink wires) r.updates (h r (inl refl)).updates) b l)
      (λ k. updated_have rules (λ z j. h z (inr j)) b (beyond_in (left_bits r.updates) (updated_by rules) b k))
      (In-cases b (left_bits r.updates) (beyond (left_bits r.updates) (updated_by rules)) i)

  rules_have : (p : Process) → IsProcess wires p → Each (HasBit wires) (updated_bits p.syncs)
  rules_have p is = updated_have (acting_rules p.syncs) (λ r i. all_each (IsRule wires) p.syncs is.rules r ((part_filter _ p.syncs).each r i))

sound_module : (m : Module) → IsReadableModule m → IsSoundModule m
sound_module m is =
    let wires = map (λ (w : Wire). w.name) m.wires in
    let memories = map (λ (s : Store). s.name) m.memories in
    let cells = map (λ (c : Cell). c.name) m.cells in
    let processes = map (λ (p : Process). p.name) m.processes in
    let all = apart_parts wires (memories ++ (cells ++ processes)) (names_distinct (item_names m) is.distinct) in
    let behind = apart_parts memories (cells ++ processes) all.second in
    record {
      wires = all.first;
      memories = behind.first;
      cells = (apart_parts cells processes behind.second).first;
      pins = λ c i pin j. signal_has m.wires pin.sig (all_each (IsPin m.wires) c.pins (all_each (IsCell m.wires) m.cells is.cells c i).pins pin j).sig.bits;
      links = left_have m.wires m.links (all_each (IsLink m.wires) m.links is.links);
      processes = λ p i. let k = all_each (IsProcess m.wires) m.processes is.processes p i in
          each_both (HasBit m.wires) (tree_bits p.root) (updated_bits p.syncs) (trees_have m.wires p k) (rules_have m.wires p k);
    }

pub sound : (d : Design) → IsReadable d → IsSound d
sound d is = record {
  ids = names_distinct (map (λ (m : Module). m.id) d.modules) is.distinct;
  modules = λ m i. sound_module m (all_each IsReadableModule d.modules is.modules m i);
}
