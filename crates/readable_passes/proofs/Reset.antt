-- The step of `proc` in which, of two edges, the reset's becomes a level leaves a module that a text can give.
use Rattle.std.proofs.Common.{◌≡◌, ℕ, ◌+◌, ◌≤◌, Bool, true, false, if◌then◌else◌, List, [], ◌∷◌, ◌++◌, length, Option, Some, None, refl, ◌∙◌, ap, arith, length-append}
use Rattle.std.specs.Prelude.{◌&&◌, flat_map, map, not, take}
use Rattle.std.specs.List.{All}
use Rattle.std.proofs.lemmas.List.{length-map}
use Rattle.std.proofs.lemmas.List.Elements.{All-append, All-cons, All-filter, All-head, All-nil, All-push, All-tail}
use Rattle.rtl_sig.specs.declared.sig.SigBit.{SigBit}
use Rattle.rtl_sig.specs.declared.sig.SigBit.TheVariants.{Fixed, Wire as OnWire}
use Rattle.rtl_sig.specs.declared.sig.WireBit.{WireBit}
use Rattle.rtl_ir.specs.Assigns.{tree_bits}
use Rattle.rtl_ir.specs.EventTests.{switch_test}
use Rattle.rtl_ir.specs.Faults.TwoEdges.{EdgeBit, SwitchTest, are_one_constant, cases_patterns, edge_bit, is_tested, tested_bit}
use Rattle.rtl_ir.specs.Follow.{all_joins, joins}
use Rattle.rtl_ir.specs.Rules.{acting_rules, has_line, is_init}
use Rattle.rtl_ir.specs.Tree.{Cases, NoCase, NoSwitch, OneCase, OneSwitch, Switches}
use Rattle.rtl_ir.specs.Types.{Ports}
use Rattle.rtl_ir.specs.declared.follow.Join.{Join}
use Rattle.rtl_ir.specs.declared.module.Link.{Link}
use Rattle.rtl_ir.specs.declared.module.Module.{Module}
use Rattle.rtl_ir.specs.declared.process.Event.{Event}
use Rattle.rtl_ir.specs.declared.process.Event.TheVariants.{Always, Edge, Global, High, Init, Low, Negedge, Posedge}
use Rattle.rtl_ir.specs.declared.process.Process.{Process}
use Rattle.rtl_ir.specs.declared.process.SyncRule.{SyncRule}
use Rattle.rtl_ir.specs.declared.value.Attribute.{Attribute}
use Rattle.rtl_ir.specs.declared.wire.Wire.{Wire}
use Rattle.net_model.proofs.Members.{map-append}
use Rattle.net_model.specs.Proc.Reset.{active_leaves, cases_at, is_edge_of, is_free, is_taken, line_of_places, proc_reset_of, reset_by, reset_places, reset_process, reset_rule, resets_step, switches_at, with_level, with_reset}
use Rattle.rtl_readable.specs.Changing.{times}
use Rattle.rtl_readable.specs.Readable.{AreAttributes, AreCases, AreSwitches, IsBitOf, IsEvent, IsLink, IsProcess, IsReadableModule, IsRule, IsSomeSignal, IsWrite, item_names}
use Rattle.rtl_readable.proofs.Counting.{item_times, process_names, still_distinct, times_more}
use Rattle.readable_passes.proofs.TreeBits.{JoinIs}

module _ (wires : List Wire) where
  -- a case that is taken, or those behind it
  taken_is : (test : SwitchTest) (level : Bool) (depth : ℕ) (inverse : Bool) (patterns : List (List SigBit)) (assigns : List Link) (attributes : List Attribute) (switches : Switches) (rest : Cases) → All (IsLink wires) assigns × AreAttributes attributes → (t : Bool) → AreSwitches wires depth (switches_at test level switches) → AreCases wires depth (cases_at test level (Some inverse) rest)
      → AreCases wires depth (if t then OneCase [] assigns attributes (switches_at test level switches) NoCase else cases_at test level (Some inverse) rest)
  taken_is test level depth inverse patterns assigns attributes switches rest h true i j = (All-nil (IsSomeSignal wires), h.0, h.1, i, tt)
  taken_is test level depth inverse patterns assigns attributes switches rest h false i j = j

  -- switches with the reset at a level
  mutual
    switches_are : (test : SwitchTest) (level : Bool) (depth : ℕ) (s : Switches) → AreSwitches wires depth s → AreSwitches wires depth (switches_at test level s)
    switches_are test level depth NoSwitch are = tt
    switches_are test level depth (OneSwitch signal attributes cases rest) are =
        (are.0, are.1, are.2, cases_are test level (depth + 1) (test signal (cases_patterns cases)) cases are.3, switches_are test level depth rest are.4)

    cases_are : (test : SwitchTest) (level : Bool) (depth : ℕ) (inverse : Option Bool) (s : Cases) → AreCases wires depth s → AreCases wires depth (cases_at test level inverse s)
    cases_are test level depth None NoCase are = tt
    cases_are test level depth (Some inverse) NoCase are = tt
    cases_are test level depth None (OneCase patterns assigns attributes switches rest) are =
        (are.0, are.1, are.2, switches_are test level depth switches are.3, cases_are test level depth None rest are.4)
    cases_are test level depth (Some inverse) (OneCase patterns assigns attributes switches rest) are =
        taken_is test level depth inverse patterns assigns attributes switches rest (are.1, are.2) (is_taken (tested_bit level inverse) patterns) (switches_are test level depth switches are.3) (cases_are test level depth (Some inverse) rest are.4)

  -- the bit of an edge
  abbrev EdgeIs : Option EdgeBit → Type 0
  EdgeIs None = Unit {0}
  EdgeIs (Some e) = IsBitOf wires (OnWire e.bit)

  edge_is : (e : Event) → IsEvent wires e → EdgeIs (edge_bit e)
  edge_is (Posedge []) is = tt
  edge_is (Posedge (Fixed c ∷ [])) is = tt
  edge_is (Posedge (Fixed c ∷ s ∷ ss)) is = tt
  edge_is (Posedge (OnWire b ∷ [])) is = All-head (IsBitOf wires) (OnWire b) [] is.signal.bits
  edge_is (Posedge (OnWire b ∷ s ∷ ss)) is = tt
  edge_is (Negedge []) is = tt
  edge_is (Negedge (Fixed c ∷ [])) is = tt
  edge_is (Negedge (Fixed c ∷ s ∷ ss)) is = tt
  edge_is (Negedge (OnWire b ∷ [])) is = All-head (IsBitOf wires) (OnWire b) [] is.signal.bits
  edge_is (Negedge (OnWire b ∷ s ∷ ss)) is = tt
  edge_is (Low signal) is = tt
  edge_is (High signal) is = tt
  edge_is (Edge signal) is = tt
  edge_is Global is = tt
  edge_is Init is = tt
  edge_is Always is = tt

  abbrev BitIs : Join → Type 0
  BitIs j = IsBitOf wires (OnWire j.bit)

  joins_are : (ls rs : List SigBit) → All (IsBitOf wires) ls → All BitIs (joins ls rs)
  joins_are [] rs all = All-nil BitIs
  joins_are (l ∷ ls) [] all = All-nil BitIs
  joins_are (Fixed c ∷ ls) (r ∷ rs) all = joins_are ls rs (All-tail (IsBitOf wires) (Fixed c) ls all)
  joins_are (OnWire b ∷ ls) (r ∷ rs) all = All-cons BitIs _ (joins ls rs) (All-head (IsBitOf wires) (OnWire b) ls all) (joins_are ls rs (All-tail (IsBitOf wires) (OnWire b) ls all))

  joins_short : (ls rs : List SigBit) → length (joins ls rs) ≤ length ls
  joins_short [] rs = omega arith
  joins_short (l ∷ ls) [] = omega arith
  joins_short (Fixed c ∷ ls) (r ∷ rs) = omega (arith, joins_short ls rs)
  joins_short (OnWire b ∷ ls) (r ∷ rs) = omega (arith, joins_short ls rs)

  one_constant : (b : WireBit) → IsBitOf wires (OnWire b) → (ls : List SigBit) → are_one_constant ls ≡ true → All (JoinIs wires) (map (λ s. record { bit = b; source = s }) (take 1 ls))
  one_constant b h [] e = absurd (cc)
  one_constant b h (Fixed c ∷ ls) e = All-cons (JoinIs wires) _ [] (record { bit = h; source = tt }) (All-nil (JoinIs wires))
  one_constant b h (OnWire d ∷ ls) e = absurd (cc)

  places_are : (leaves : Join → List SigBit) (js : List Join) → All BitIs js → All (JoinIs wires) (reset_places leaves js)
  places_are leaves [] all = All-nil (JoinIs wires)
  places_are leaves (j ∷ js) all = by (are_one_constant (leaves j)) refl (places_are leaves js (All-tail BitIs j js all))
    where
      by : (t : Bool) → are_one_constant (leaves j) ≡ t → All (JoinIs wires) (reset_places leaves js) → All (JoinIs wires) (if t then map (λ s. record { bit = j.bit; source = s }) (take 1 (leaves j)) ++ reset_places leaves js else reset_places leaves js)
      by true e later = All-append (JoinIs wires) _ (reset_places leaves js) (one_constant j.bit (All-head BitIs j js all) (leaves j) e) later
      by false e later = later

  -- the places of the first of several bits
  abbrev placed : WireBit → List SigBit → List Join
  placed b ls = map (λ s. record { bit = b; source = s }) (take 1 ls)

  one_short : (b : WireBit) (ls : List SigBit) → length (placed b ls) ≤ 1
  one_short b [] = omega arith
  one_short b (s ∷ ls) = omega arith

  places_short : (leaves : Join → List SigBit) (js : List Join) → length (reset_places leaves js) ≤ length js
  places_short leaves [] = omega arith
  places_short leaves (j ∷ js) = by (are_one_constant (leaves j)) (places_short leaves js)
    where
      by : (t : Bool) → length (reset_places leaves js) ≤ length js → length (if t then placed j.bit (leaves j) ++ reset_places leaves js else reset_places leaves js) ≤ length (j ∷ js)
      by true later = omega (arith, later, one_short j.bit (leaves j), length-append (placed j.bit (leaves j)) (reset_places leaves js))
      by false later = omega (arith, later)

  lefts_are : (js : List Join) → All (JoinIs wires) js → All (IsBitOf wires) (map (λ (k : Join). OnWire k.bit) js)
  lefts_are [] all = All-nil (IsBitOf wires)
  lefts_are (j ∷ js) all = All-cons (IsBitOf wires) (OnWire j.bit) _ (All-head (JoinIs wires) j js all).bit (lefts_are js (All-tail (JoinIs wires) j js all))

  rights_are : (js : List Join) → All (JoinIs wires) js → All (IsBitOf wires) (map (λ (k : Join). k.source) js)
  rights_are [] all = All-nil (IsBitOf wires)
  rights_are (j ∷ js) all = All-cons (IsBitOf wires) j.source _ (All-head (JoinIs wires) j js all).source (rights_are js (All-tail (JoinIs wires) j js all))

  line_is : (js : List Join) → All (JoinIs wires) js → length js ≤ 4194304 → All (IsLink wires) (line_of_places js)
  line_is [] all few = All-nil (IsLink wires)
  line_is (j ∷ js) all few =
      All-cons (IsLink wires) _ []
      (record {
        left = record { bits = lefts_are (j ∷ js) all; width = omega (arith, few, length-map (j ∷ js) (λ (k : Join). OnWire k.bit)) };
        right = record { bits = rights_are (j ∷ js) all; width = omega (arith, few, length-map (j ∷ js) (λ (k : Join). k.source)) };
      }) (All-nil (IsLink wires))

  lines_are : (leaves : Join → List SigBit) (lines : List Link) → All (IsLink wires) lines → All (IsLink wires) (flat_map (λ (line : Link). line_of_places (reset_places leaves (joins line.left line.right))) lines)
  lines_are leaves [] all = All-nil (IsLink wires)
  lines_are leaves (l ∷ lines) all =
      let one = All-head (IsLink wires) l lines all in
      All-append (IsLink wires) (line_of_places (reset_places leaves (joins l.left l.right))) _
      (line_is (reset_places leaves (joins l.left l.right)) (places_are leaves (joins l.left l.right) (joins_are l.left l.right one.left.bits)) (omega (arith, places_short leaves (joins l.left l.right), joins_short l.left l.right, one.left.width)))
      (lines_are leaves lines (All-tail (IsLink wires) l lines all))

  rule_is : (leaves : Join → List SigBit) (reset : EdgeBit) (lines : List Link) → IsBitOf wires (OnWire reset.bit) → All (IsLink wires) lines → IsRule wires (reset_rule leaves reset lines)
  rule_is leaves reset lines h all = record {
    event = by reset.level;
    updates = lines_are leaves lines all;
    writes = All-nil (IsWrite wires);
  }
    where
      one : IsSomeSignal wires (OnWire reset.bit ∷ [])
      one = record { some = omega arith; signal = record { bits = All-cons (IsBitOf wires) (OnWire reset.bit) [] h (All-nil (IsBitOf wires)); width = omega arith } }

      by : (t : Bool) → IsEvent wires (if t then High (OnWire reset.bit ∷ []) else Low (OnWire reset.bit ∷ []))
      by true = one
      by false = one

  with_is : (b : WireBit) (rule : SyncRule) → IsRule wires rule → (rules : List SyncRule) → All (IsRule wires) rules → All (IsRule wires) (with_reset b rule rules)
  with_is b rule is [] all = All-nil (IsRule wires)
  with_is b rule is (r ∷ rules) all = All-cons (IsRule wires) _ (with_reset b rule rules) (by (has_line r && is_edge_of b (edge_bit r.event))) (with_is b rule is rules (All-tail (IsRule wires) r rules all))
    where
      by : (t : Bool) → IsRule wires (if t then rule else r)
      by true = is
      by false = All-head (IsRule wires) r rules all

  level_is : (ports : Ports) (m : Module) (others : List Process) (p : Process) (reset : EdgeBit) (lines : List Link) → IsProcess wires p → IsBitOf wires (OnWire reset.bit) → All (IsLink wires) lines → IsProcess wires (with_level ports m others p reset lines)
  level_is ports m others p reset lines is h all = by (is_free ports m others p reset (all_joins lines))
    where
      rules : All (IsRule wires) (with_reset reset.bit (reset_rule (active_leaves ports m p.root (tree_bits p.root) reset) reset lines) p.syncs)
      rules = with_is reset.bit (reset_rule (active_leaves ports m p.root (tree_bits p.root) reset) reset lines) (rule_is (active_leaves ports m p.root (tree_bits p.root) reset) reset lines h all) p.syncs is.rules

      by : (t : Bool) → IsProcess wires (record p { root = if t then record p.root { switches = switches_at (switch_test ports m reset.bit) (not reset.level) p.root.switches } else p.root; syncs = with_reset reset.bit (reset_rule (active_leaves ports m p.root (tree_bits p.root) reset) reset lines) p.syncs })
      by true = record {
        name = is.name;
        patterns = is.patterns;
        plain = is.plain;
        assigns = is.assigns;
        switches = switches_are (switch_test ports m reset.bit) (not reset.level) 0 p.root.switches is.switches;
        rules = rules;
        attributes = is.attributes;
      }
      by false = record {
        name = is.name;
        patterns = is.patterns;
        plain = is.plain;
        assigns = is.assigns;
        switches = is.switches;
        rules = rules;
        attributes = is.attributes;
      }

  by_is : (ports : Ports) (m : Module) (others : List Process) (p : Process) (lines : List Link) (a b : Option EdgeBit) → IsProcess wires p → EdgeIs a → EdgeIs b → All (IsLink wires) lines → IsProcess wires (reset_by ports m others p lines a b)
  by_is ports m others p lines (Some a) (Some b) is ha hb all = by (is_tested ports m p.root a)
    where
      by : (t : Bool) → IsProcess wires (if t then with_level ports m others p a lines else with_level ports m others p b lines)
      by true = level_is ports m others p a lines is ha all
      by false = level_is ports m others p b lines is hb all
  by_is ports m others p lines (Some a) None is ha hb all = is
  by_is ports m others p lines None (Some b) is ha hb all = is
  by_is ports m others p lines None None is ha hb all = is

  process_is : (ports : Ports) (m : Module) (others : List Process) (p : Process) (rules : List SyncRule) → IsProcess wires p → All (IsRule wires) rules → IsProcess wires (reset_process ports m others p rules)
  process_is ports m others p [] is all = is
  process_is ports m others p (a ∷ []) is all = is
  process_is ports m others p (a ∷ b ∷ []) is all =
      let one = All-head (IsRule wires) a (b ∷ []) all in
      let other = All-head (IsRule wires) b [] (All-tail (IsRule wires) a (b ∷ []) all) in
      by_is ports m others p a.updates (edge_bit a.event) (edge_bit b.event) is (edge_is a.event one.event) (edge_is b.event other.event) one.updates
  process_is ports m others p (a ∷ b ∷ c ∷ rules) is all = is

  resets_are : (ports : Ports) (m : Module) (before ps : List Process) → All (IsProcess wires) before → All (IsProcess wires) ps → All (IsProcess wires) (resets_step ports m before ps)
  resets_are ports m before [] done all = done
  resets_are ports m before (p ∷ ps) done all =
      let q : Process = reset_process ports m (before ++ ps) p (acting_rules p.syncs) in
      let own = All-head (IsProcess wires) p ps all in
      resets_are ports m (before ++ q ∷ []) ps
      (All-push (IsProcess wires) before q done (process_is ports m (before ++ ps) p (acting_rules p.syncs) own (All-filter (λ (r : SyncRule). has_line r && not (is_init r.event)) (IsRule wires) p.syncs own.rules)))
      (All-tail (IsProcess wires) p ps all)

-- names
by_named : (ports : Ports) (m : Module) (others : List Process) (p : Process) (lines : List Link) (a b : Option EdgeBit) → (reset_by ports m others p lines a b).name ≡ p.name
by_named ports m others p lines (Some a) (Some b) = by (is_tested ports m p.root a)
  where
    by : (t : Bool) → (if t then with_level ports m others p a lines else with_level ports m others p b lines).name ≡ p.name
    by true = refl
    by false = refl
by_named ports m others p lines (Some a) None = refl
by_named ports m others p lines None (Some b) = refl
by_named ports m others p lines None None = refl

process_named : (ports : Ports) (m : Module) (others : List Process) (p : Process) (rules : List SyncRule) → (reset_process ports m others p rules).name ≡ p.name
process_named ports m others p [] = refl
process_named ports m others p (a ∷ []) = refl
process_named ports m others p (a ∷ b ∷ []) = by_named ports m others p a.updates (edge_bit a.event) (edge_bit b.event)
process_named ports m others p (a ∷ b ∷ c ∷ rules) = refl

resets_named : (name : List ℕ) (ports : Ports) (m : Module) (before ps : List Process) → times name (process_names (resets_step ports m before ps)) ≡ times name (process_names before) + times name (process_names ps)
resets_named name ports m before [] = omega arith
resets_named name ports m before (p ∷ ps) =
    let q : Process = reset_process ports m (before ++ ps) p (acting_rules p.syncs) in
    let later = resets_named name ports m (before ++ q ∷ []) ps in
    let more = ap (times name) (map-append (λ (r : Process). r.name) before (q ∷ [])) ∙ times_more name (process_names before) (q.name ∷ []) in
    let own : times name (q.name ∷ []) ≡ times name (p.name ∷ []) = ap (λ z. times name (z ∷ [])) (process_named ports m (before ++ ps) p (acting_rules p.syncs)) in
    omega (arith, later, more, own)

pub reset_reads : (ports : Ports) (m : Module) → IsReadableModule m → IsReadableModule (proc_reset_of ports m)
reset_reads ports m is = record {
  id = is.id;
  attributes = is.attributes;
  parameters = is.parameters;
  wires = is.wires;
  memories = is.memories;
  cells = is.cells;
  processes = resets_are m.wires ports m [] m.processes (All-nil (IsProcess m.wires)) is.processes;
  links = is.links;
  distinct = still_distinct (item_names (proc_reset_of ports m)) (item_names m)
      (λ name. omega (arith, item_times name (proc_reset_of ports m), item_times name m, resets_named name ports m [] m.processes)) is.distinct;
  bits = is.bits;
  count = is.count;
}
