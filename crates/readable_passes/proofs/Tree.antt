-- The first two steps of `proc` leave a module that a text can give: switches by their rules, and start values in attributes.
use Rattle.std.proofs.Common.{◌≡◌, ℕ, zero, suc, ◌+◌, ◌<◌, ◌≤◌, Bool, true, false, if◌then◌else◌, List, [], ◌∷◌, ◌++◌, length, true≢false, refl, sym, ◌∙◌, ap, subst, arith}
use Rattle.std.specs.Prelude.{IsSomeAnd, filter, map, not, slice_get}
use Rattle.std.specs.List.{All, range_with_len, sum_by}
use Rattle.std.specs.Str.{bytes_eq}
use Rattle.std.proofs.lemmas.List.{length-map}
use Rattle.std.proofs.lemmas.List.Elements.{All-cons, All-filter, All-head, All-nil, All-tail, All-weaker}
use Rattle.std.proofs.lemmas.Slice.Eq.{bytes_eq-Decides}
use Rattle.rtl_bits.specs.declared.bit.Bit.{Bit}
use Rattle.rtl_sig.specs.declared.sig.SigBit.{SigBit}
use Rattle.rtl_sig.specs.declared.sig.SigBit.TheVariants.{Fixed, Wire as OnWire}
use Rattle.rtl_ir.specs.Flat.Start.{start_of}
use Rattle.rtl_ir.specs.Rules.{is_init}
use Rattle.rtl_ir.specs.Signals.{is_all_constant}
use Rattle.rtl_ir.specs.SwitchRules.{cases_by_rules, is_dropped, kept_case, patterns_left, switches_by_rules, takes_the_rest, with_pattern}
use Rattle.rtl_ir.specs.Tree.{Cases, NoCase, NoSwitch, OneCase, OneSwitch, Switches}
use Rattle.rtl_ir.specs.declared.module.Link.{Link}
use Rattle.rtl_ir.specs.declared.module.Module.{Module}
use Rattle.rtl_ir.specs.declared.process.Process.{Process}
use Rattle.rtl_ir.specs.declared.process.SyncRule.{SyncRule}
use Rattle.rtl_ir.specs.declared.value.Attribute.{Attribute}
use Rattle.rtl_ir.specs.declared.wire.Wire.{Wire}
use Rattle.net_model.specs.Proc.Start.{begun_wires, init_attribute, is_begun, proc_tree_of, ruled_process, wire_starts, with_attribute}
use Rattle.build_laws.proofs.CellFits.{range_length}
use Rattle.rtl_readable.specs.Changing.{times}
use Rattle.rtl_readable.specs.Readable.{AreAttributes, AreCases, AreSwitches, IsAttribute, IsBitOf, IsCell, IsLink, IsProcess, IsReadableModule, IsRule, IsSomeSignal, IsWire, item_names}
use Rattle.rtl_readable.proofs.Counting.{counted, distinct_from_times, item_times, itself, process_names, still_distinct, times_from_distinct, wire_names}
use Rattle.readable_passes.proofs.Carried.{carried_cell, carried_link, carried_process}
use Rattle.readable_passes.proofs.Limits.{widths_more}

-- attributes

differs_back : (x y : List ℕ) → bytes_eq x y ≡ false → counted (bytes_eq y x) ≡ 0
differs_back x y e = by (bytes_eq y x) refl
  where
    by : (t : Bool) → bytes_eq y x ≡ t → counted (bytes_eq y x) ≡ 0
    by true f = absurd (true≢false (sym ((bytes_eq-Decides x y).1 (sym ((bytes_eq-Decides y x).0 f))) ∙ e))
    by false f = ap counted f

few_more : (a : Attribute) (attributes : List Attribute) (name : List ℕ) → times name (map (λ (b : Attribute). b.name) (with_attribute a attributes)) ≤ times name (map (λ (b : Attribute). b.name) attributes) + counted (bytes_eq name a.name)
few_more a [] name = omega arith
few_more a (b ∷ attributes) name = by (bytes_eq b.name a.name) (few_more a attributes name)
  where
    by : (t : Bool) → times name (map (λ (c : Attribute). c.name) (with_attribute a attributes)) ≤ times name (map (λ (c : Attribute). c.name) attributes) + counted (bytes_eq name a.name)
        → times name (map (λ (c : Attribute). c.name) (if t then a ∷ attributes else b ∷ with_attribute a attributes)) ≤ (counted (bytes_eq name b.name) + times name (map (λ (c : Attribute). c.name) attributes)) + counted (bytes_eq name a.name)
    by true later = omega arith
    by false later = omega (arith, later)

own_once : (a : Attribute) (attributes : List Attribute) → times a.name (map (λ (b : Attribute). b.name) attributes) ≤ 1 → times a.name (map (λ (b : Attribute). b.name) (with_attribute a attributes)) ≤ 1
own_once a [] h = omega (arith, itself a.name)
own_once a (b ∷ attributes) h = by (bytes_eq b.name a.name) refl (own_once a attributes)
  where
    by : (t : Bool) → bytes_eq b.name a.name ≡ t → (times a.name (map (λ (c : Attribute). c.name) attributes) ≤ 1 → times a.name (map (λ (c : Attribute). c.name) (with_attribute a attributes)) ≤ 1) → times a.name (map (λ (c : Attribute). c.name) (if t then a ∷ attributes else b ∷ with_attribute a attributes)) ≤ 1
    by true e later =
        let same : counted (bytes_eq a.name b.name) ≡ counted (bytes_eq a.name a.name) = ap (λ z. counted (bytes_eq a.name z)) ((bytes_eq-Decides b.name a.name).0 e) in
        omega (arith, same, h)
    by false e later = omega (arith, differs_back b.name a.name e, later (omega (arith, h)))

each_with : (a : Attribute) → IsAttribute a → (bs : List Attribute) → All IsAttribute bs → All IsAttribute (with_attribute a bs)
each_with a own [] all = All-cons IsAttribute a [] own (All-nil IsAttribute)
each_with a own (b ∷ bs) all = by (bytes_eq b.name a.name) (each_with a own bs (All-tail IsAttribute b bs all))
  where
    by : (t : Bool) → All IsAttribute (with_attribute a bs) → All IsAttribute (if t then a ∷ bs else b ∷ with_attribute a bs)
    by true later = All-cons IsAttribute a bs own (All-tail IsAttribute b bs all)
    by false later = All-cons IsAttribute b (with_attribute a bs) (All-head IsAttribute b bs all) later

once_with : (a : Attribute) (attributes : List Attribute) → AreAttributes attributes → (name : List ℕ) → times name (map (λ (b : Attribute). b.name) (with_attribute a attributes)) ≤ 1
once_with a attributes are name = by (bytes_eq name a.name) refl
  where
    by : (t : Bool) → bytes_eq name a.name ≡ t → times name (map (λ (b : Attribute). b.name) (with_attribute a attributes)) ≤ 1
    by true e =
        subst (λ z. times z (map (λ (b : Attribute). b.name) (with_attribute a attributes)) ≤ 1) (sym ((bytes_eq-Decides name a.name).0 e))
        (own_once a attributes (times_from_distinct (map (λ (b : Attribute). b.name) attributes) are.distinct a.name))
    by false e =
        let none : counted (bytes_eq name a.name) ≡ 0 = ap counted e in
        omega (arith, none, few_more a attributes name, times_from_distinct (map (λ (b : Attribute). b.name) attributes) are.distinct name)

with_is : (a : Attribute) (attributes : List Attribute) → IsAttribute a → AreAttributes attributes → AreAttributes (with_attribute a attributes)
with_is a attributes own are = record {
  each = each_with a own attributes are.each;
  distinct = distinct_from_times (map (λ (b : Attribute). b.name) (with_attribute a attributes)) (once_with a attributes are);
}

-- wires with start values
starts_long : (m : Module) (at width : ℕ) → length (wire_starts m at width) ≡ width
starts_long m at width = length-map (range_with_len 0 width) (λ k. start_of m.wires m.processes (OnWire (record { wire = at; at = k }))) ∙ range_length 0 width

begun_wire : (t : Bool) (bits : List Bit) (w : Wire) → length bits ≤ 1048576 → IsWire w → IsWire (if t then record w { attributes = with_attribute (init_attribute bits) w.attributes } else w)
begun_wire true bits w few is = record {
  name = is.name;
  some = is.some;
  width = is.width;
  offset = is.offset;
  number = is.number;
  inner = is.inner;
  attributes = with_is (init_attribute bits) w.attributes (record { name = refl; value = few }) is.attributes;
}
begun_wire false bits w few is = is

module _ (m : Module) where
  wires_are : (at : ℕ) (ws : List Wire) → All IsWire ws → All IsWire (begun_wires m at ws)
  wires_are at [] all = All-nil IsWire
  wires_are at (w ∷ ws) all =
      let one = All-head IsWire w ws all in
      All-cons IsWire _ (begun_wires m (at + 1) ws) (begun_wire (is_begun m at) (wire_starts m at w.width) w (omega (arith, starts_long m at w.width, one.width)) one) (wires_are (at + 1) ws (All-tail IsWire w ws all))

  names_stay : (at : ℕ) (ws : List Wire) → wire_names (begun_wires m at ws) ≡ wire_names ws
  names_stay at [] = refl
  names_stay at (w ∷ ws) = by (is_begun m at) (names_stay (at + 1) ws)
    where
      by : (t : Bool) → wire_names (begun_wires m (at + 1) ws) ≡ wire_names ws → wire_names ((if t then record w { attributes = with_attribute (init_attribute (wire_starts m at w.width)) w.attributes } else w) ∷ begun_wires m (at + 1) ws) ≡ w.name ∷ wire_names ws
      by true e = ap (λ z. w.name ∷ z) e
      by false e = ap (λ z. w.name ∷ z) e

  widths_stay : (at : ℕ) (ws : List Wire) → sum_by (λ (w : Wire). w.width) (begun_wires m at ws) ≡ sum_by (λ (w : Wire). w.width) ws
  widths_stay at [] = refl
  widths_stay at (w ∷ ws) = by (is_begun m at) (widths_stay (at + 1) ws) ∙ sym (widths_more w ws)
    where
      by : (t : Bool) → sum_by (λ (v : Wire). v.width) (begun_wires m (at + 1) ws) ≡ sum_by (λ (v : Wire). v.width) ws → sum_by (λ (v : Wire). v.width) ((if t then record w { attributes = with_attribute (init_attribute (wire_starts m at w.width)) w.attributes } else w) ∷ begun_wires m (at + 1) ws) ≡ w.width + sum_by (λ (v : Wire). v.width) ws
      by true e = omega (arith, widths_more (record w { attributes = with_attribute (init_attribute (wire_starts m at w.width)) w.attributes }) (begun_wires m (at + 1) ws), e)
      by false e = omega (arith, widths_more w (begun_wires m (at + 1) ws), e)

  place_stays : (at : ℕ) (ws : List Wire) (k i : ℕ) → IsSomeAnd (slice_get ws k) (λ (w : Wire). i < w.width) → IsSomeAnd (slice_get (begun_wires m at ws) k) (λ (w : Wire). i < w.width)
  place_stays at [] k i h = absurd h
  place_stays at (w ∷ ws) zero i h = by (is_begun m at)
    where
      by : (t : Bool) → i < (if t then record w { attributes = with_attribute (init_attribute (wire_starts m at w.width)) w.attributes } else w).width
      by true = h
      by false = h
  place_stays at (w ∷ ws) (suc k) i h = place_stays (at + 1) ws k i h

  bit_stays : (s : SigBit) → IsBitOf m.wires s → IsBitOf (begun_wires m 0 m.wires) s
  bit_stays (Fixed c) h = tt
  bit_stays (OnWire b) h = place_stays 0 m.wires b.wire b.at h

-- switches by their rules
module _ (wires : List Wire) where
  patterns_are : (signal : List SigBit) (earlier patterns : List (List SigBit)) → All (IsSomeSignal wires) patterns → All (IsSomeSignal wires) (patterns_left signal earlier patterns)
  patterns_are signal earlier [] all = All-nil (IsSomeSignal wires)
  patterns_are signal earlier (p ∷ ps) all =
      by (is_dropped signal earlier p) (patterns_are signal earlier ps (All-tail (IsSomeSignal wires) p ps all)) (patterns_are signal (with_pattern earlier p) ps (All-tail (IsSomeSignal wires) p ps all))
    where
      by : (t : Bool) → All (IsSomeSignal wires) (patterns_left signal earlier ps) → All (IsSomeSignal wires) (patterns_left signal (with_pattern earlier p) ps) → All (IsSomeSignal wires) (if t then patterns_left signal earlier ps else p ∷ patterns_left signal (with_pattern earlier p) ps)
      by true i j = i
      by false i j = All-cons (IsSomeSignal wires) p _ (All-head (IsSomeSignal wires) p ps all) j

  kept_is : (depth : ℕ) (signal : List SigBit) (patterns constants : List (List SigBit)) (assigns : List Link) (attributes : List Attribute) (switches : Switches) (rest : Cases) → All (IsSomeSignal wires) patterns → All (IsLink wires) assigns → AreAttributes attributes → AreSwitches wires depth switches → AreCases wires depth rest
      → AreCases wires depth (kept_case signal patterns constants (λ left behind. OneCase left assigns attributes switches behind) rest)
  kept_is depth signal [] constants assigns attributes switches rest ps h a s r = r
  kept_is depth signal (p ∷ patterns) constants assigns attributes switches rest ps h a s r = by (takes_the_rest signal (p ∷ patterns) constants)
    where
      by : (t : Bool) → AreCases wires depth (if t then OneCase [] assigns attributes switches NoCase else OneCase (p ∷ patterns) assigns attributes switches rest)
      by true = (All-nil (IsSomeSignal wires), h, a, s, tt)
      by false = (ps, h, a, s, r)

  mutual
    switches_are : (depth : ℕ) (switches : Switches) → AreSwitches wires depth switches → AreSwitches wires depth (switches_by_rules switches)
    switches_are depth NoSwitch are = tt
    switches_are depth (OneSwitch signal attributes cases rest) are = (are.0, are.1, are.2, cases_are (depth + 1) signal [] cases are.3, switches_are depth rest are.4)

    cases_are : (depth : ℕ) (signal : List SigBit) (earlier : List (List SigBit)) (cases : Cases) → AreCases wires depth cases → AreCases wires depth (cases_by_rules signal earlier cases)
    cases_are depth signal earlier NoCase are = tt
    cases_are depth signal earlier (OneCase [] assigns attributes switches rest) are = (All-nil (IsSomeSignal wires), are.1, are.2, switches_are depth switches are.3, tt)
    cases_are depth signal earlier (OneCase (p ∷ ps) assigns attributes switches rest) are =
        let left = patterns_left signal earlier (p ∷ ps) in
        let constants = earlier ++ filter is_all_constant left in
        kept_is depth signal left constants assigns attributes (switches_by_rules switches) (cases_by_rules signal constants rest) (patterns_are signal earlier (p ∷ ps) are.0) are.1 are.2 (switches_are depth switches are.3) (cases_are depth signal constants rest are.4)

  ruled_is : (p : Process) → IsProcess wires p → IsProcess wires (ruled_process p)
  ruled_is p is = record {
    name = is.name;
    patterns = is.patterns;
    plain = is.plain;
    assigns = is.assigns;
    switches = switches_are 0 p.root.switches is.switches;
    rules = All-filter (λ (r : SyncRule). not (is_init r.event)) (IsRule wires) p.syncs is.rules;
    attributes = is.attributes;
  }

processes_are : (wires others : List Wire) → ((s : SigBit) → IsBitOf wires s → IsBitOf others s) → (ps : List Process) → All (IsProcess wires) ps → All (IsProcess others) (map ruled_process ps)
processes_are wires others each [] all = All-nil (IsProcess others)
processes_are wires others each (p ∷ ps) all =
    All-cons (IsProcess others) (ruled_process p) (map ruled_process ps) (carried_process wires others each (ruled_process p) (ruled_is wires p (All-head (IsProcess wires) p ps all))) (processes_are wires others each ps (All-tail (IsProcess wires) p ps all))

process_names_stay : (ps : List Process) → process_names (map ruled_process ps) ≡ process_names ps
process_names_stay [] = refl
process_names_stay (p ∷ ps) = ap (λ z. p.name ∷ z) (process_names_stay ps)

pub tree_reads : (m : Module) → IsReadableModule m → IsReadableModule (proc_tree_of m)
tree_reads m is =
    let wires : List Wire = begun_wires m 0 m.wires in
    record {
      id = is.id;
      attributes = is.attributes;
      parameters = is.parameters;
      wires = wires_are m 0 m.wires is.wires;
      memories = is.memories;
      cells = All-weaker (IsCell m.wires) (IsCell wires) (carried_cell m.wires wires (bit_stays m)) m.cells is.cells;
      processes = processes_are m.wires wires (bit_stays m) m.processes is.processes;
      links = All-weaker (IsLink m.wires) (IsLink wires) (carried_link m.wires wires (bit_stays m)) m.links is.links;
      distinct = still_distinct (item_names (proc_tree_of m)) (item_names m)
          (λ name.
          let ws : times name (wire_names wires) ≡ times name (wire_names m.wires) = ap (times name) (names_stay m 0 m.wires) in
          let ps : times name (process_names (map ruled_process m.processes)) ≡ times name (process_names m.processes) = ap (times name) (process_names_stay m.processes) in
          omega (arith, item_times name (proc_tree_of m), item_times name m, ws, ps)) is.distinct;
      bits = omega (arith, widths_stay m 0 m.wires, is.bits);
      count = is.count;
    }
