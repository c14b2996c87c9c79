-- What the last step of `proc` builds is such as a text can give.
use Rattle.std.proofs.Common.{◌≡◌, ℕ, ◌+◌, ◌<◌, ◌≤◌, Bool, true, false, if◌then◌else◌, List, [], ◌∷◌, ◌++◌, length, Option, Some, None, inl, inr, refl, ◌∙◌, arith}
use Rattle.std.specs.Prelude.{◌||◌, map, zip}
use Rattle.std.specs.List.{All, list_any}
use Rattle.std.specs.Option.{option_map_or, option_or}
use Rattle.std.proofs.lemmas.Bool.{ltb-false, or_parts}
use Rattle.std.proofs.lemmas.List.{length-map}
use Rattle.std.proofs.lemmas.List.Elements.{All-cons, All-head, All-nil, All-tail}
use Rattle.rtl_bits.specs.declared.bit.Bit.TheVariants.{S1, X}
use Rattle.rtl_sig.specs.declared.sig.SigBit.{SigBit}
use Rattle.rtl_sig.specs.declared.sig.SigBit.TheVariants.{Fixed, Wire as OnWire}
use Rattle.rtl_sig.specs.declared.sig.WireBit.{WireBit}
use Rattle.rtl_ir.specs.Assigns.{assigned, cases_assigns, last_source}
use Rattle.rtl_ir.specs.Build.{Building, building_of, whole}
use Rattle.rtl_ir.specs.Faults.ProcessLimits.{cases_pass, memory_lines, passes_limit, switches_pass}
use Rattle.rtl_ir.specs.Follow.{all_joins}
use Rattle.rtl_ir.specs.Signals.{same_bit, same_signal}
use Rattle.rtl_ir.specs.Tree.{Cases, CaseView, NoCase, NoSwitch, OneCase, OneSwitch, Switches}
use Rattle.rtl_ir.specs.Types as types
use Rattle.rtl_ir.specs.Scope.{with_processes}
use Rattle.rtl_ir.specs.declared.follow.Join.{Join}
use Rattle.rtl_ir.specs.declared.module.Link.{Link}
use Rattle.rtl_ir.specs.declared.module.Module.{Module}
use Rattle.rtl_ir.specs.declared.process.Process.{Process}
use Rattle.rtl_ir.specs.declared.process.WriteLine.{WriteLine}
use Rattle.rtl_ir.specs.declared.wire.Wire.{Wire}
use Rattle.net_model.proofs.Ranges.{each_both, each_filter, each_more, each_none}
use Rattle.net_model.specs.Lists.{In}
use Rattle.net_model.specs.Proc.Mux.{Made, Trees, asked_places, assigns_run, cases_value, equal_cell, is_asked, is_default, joined_bits, lowest, made_match, match_bit, mux_cell, pattern_bit, pattern_bits, proc_mux_of, process_step, processes_step, run_step, run_value, runs_step, same_case, switches_value, tree_runs, with_case}
use Rattle.net_model.specs.Within.{Each}
use Rattle.pass_laws.proofs.Faultless.{no_faults}
use Rattle.pass_laws.specs.Ready.{IsReadyWithin}
use Rattle.proc_laws.proofs.RebuildProcesses.{each_good}
use Rattle.build_laws.proofs.CellFits.{whole_length as whole_is}
use Rattle.mux_laws.proofs.FrameTrees.{asked_few}
use Rattle.mux_laws.proofs.FrameRuns.{IsRun, run_in, tree_fit}
use Rattle.mux_laws.proofs.FrameTrees.{value_wide}
use Rattle.rtl_readable.specs.Readable.{AreCases, AreSwitches, IsBitOf, IsLink, IsProcess, IsSignal, IsSomeSignal, item_names}
use Rattle.rtl_readable.proofs.Counting.{item_times, still_distinct}
use Rattle.rtl_readable.proofs.Signals.{SourceIs, all_joins_are, rights_are}
use Rattle.readable_laws.specs.Extends.{Extends, HasReadableItems}
use Rattle.readable_laws.proofs.Cells.{eq_builds, mux_builds, or_builds}
use Rattle.readable_laws.proofs.Extending.{bit_later, extended, extends_both, extends_link, extends_none, links_later, signal_later}
use Rattle.readable_passes.proofs.Replaced.{all_each, each_all}
use Rattle.readable_passes.proofs.TreeBits.{HasIt, trees_have}

pub low_is : (wires : List Wire) (signal : List SigBit) → IsSignal wires signal → IsBitOf wires (lowest signal)
low_is wires [] is = tt
low_is wires (s ∷ signal) is = All-head (IsBitOf wires) s signal is.bits

-- a bit that is given with what was built for it
record GivesBit (old : Building) (s : SigBit) (new : Building) : Type 0 where
  steps : Extends old new
  is : IsBitOf new.body.wires s

-- several bits
record GivesBits (old : Building) (width : ℕ) (signal : List SigBit) (new : Building) : Type 0 where
  steps : Extends old new
  wide : length signal ≡ width
  is : Each (IsBitOf new.body.wires) signal

-- a place of a pattern and of a signal
abbrev PlaceIs : List Wire → SigBit × SigBit → Type 0
PlaceIs wires q = IsBitOf wires q.0 × IsBitOf wires q.1

firsts_are : (wires : List Wire) (places : List (SigBit × SigBit)) → Each (PlaceIs wires) places → All (IsBitOf wires) (map (λ (q : SigBit × SigBit). q.0) places)
firsts_are wires [] h = All-nil (IsBitOf wires)
firsts_are wires (q ∷ places) h = All-cons (IsBitOf wires) q.0 _ (h q (inl refl)).0 (firsts_are wires places (λ x i. h x (inr i)))

seconds_are : (wires : List Wire) (places : List (SigBit × SigBit)) → Each (PlaceIs wires) places → All (IsBitOf wires) (map (λ (q : SigBit × SigBit). q.1) places)
seconds_are wires [] h = All-nil (IsBitOf wires)
seconds_are wires (q ∷ places) h = All-cons (IsBitOf wires) q.1 _ (h q (inl refl)).1 (seconds_are wires places (λ x i. h x (inr i)))

gives_equal : (b : Building) (places : List (SigBit × SigBit)) → length places ≤ 4096 → Each (PlaceIs b.body.wires) places → GivesBit b (equal_cell places b).0 (equal_cell places b).1
gives_equal b places few h =
    let g = eq_builds b (length places) (map (λ (q : SigBit × SigBit). q.1) places) (map (λ (q : SigBit × SigBit). q.0) places) (omega (arith, few))
    (record { bits = seconds_are b.body.wires places h; width = omega (arith, few, length-map places (λ (q : SigBit × SigBit). q.1)) })
    (record { bits = firsts_are b.body.wires places h; width = omega (arith, few, length-map places (λ (q : SigBit × SigBit). q.0)) }) in
    record { steps = g.steps; is = low_is (equal_cell places b).1.body.wires (whole (length b.body.wires) 1) g.signal_is }

gives_pattern : (b : Building) (places : List (SigBit × SigBit)) → length places ≤ 4096 → Each (PlaceIs b.body.wires) places → GivesBit b (pattern_bit places b).0 (pattern_bit places b).1
gives_pattern b [] few h = record { steps = extends_none b; is = tt }
gives_pattern b ((Fixed S1, s) ∷ []) few h = record { steps = extends_none b; is = (h (Fixed S1, s) (inl refl)).1 }
gives_pattern b (q ∷ places) few h = gives_equal b (q ∷ places) few h

zip_places : (wires : List Wire) (pattern signal : List SigBit) → Each (IsBitOf wires) pattern → Each (IsBitOf wires) signal → Each (PlaceIs wires) (zip pattern signal)
zip_places wires [] signal h k = each_none (PlaceIs wires)
zip_places wires (p ∷ pattern) [] h k = each_none (PlaceIs wires)
zip_places wires (p ∷ pattern) (s ∷ signal) h k =
    each_more (PlaceIs wires) (p, s) (zip pattern signal) (h p (inl refl), k s (inl refl)) (zip_places wires pattern signal (λ x i. h x (inr i)) (λ x i. k x (inr i)))

pub bits_later : (a b : Building) → Extends a b → (signal : List SigBit) → Each (IsBitOf a.body.wires) signal → Each (IsBitOf b.body.wires) signal
bits_later a b e signal h s i = bit_later a b e s (h s i)

gives_patterns : (b : Building) (signal : List SigBit) (patterns : List (List SigBit)) → length signal ≤ 4096 → Each (IsBitOf b.body.wires) signal → Each (Each (IsBitOf b.body.wires)) patterns → GivesBits b (length patterns) (pattern_bits signal patterns b).0 (pattern_bits signal patterns b).1
gives_patterns b signal [] few h k = record { steps = extends_none b; wide = refl; is = each_none (IsBitOf b.body.wires) }
gives_patterns b signal (p ∷ patterns) few h k =
    let places : List (SigBit × SigBit) = asked_places p signal in
    let first = gives_pattern b places (omega (arith, asked_few p signal, few)) (each_filter (PlaceIs b.body.wires) is_asked (zip p signal) (zip_places b.body.wires p signal (k p (inl refl)) h)) in
    let next : Building = (pattern_bit places b).1 in
    let rest = gives_patterns next signal patterns few (bits_later b next first.steps signal h) (λ q i. bits_later b next first.steps q (k q (inr i))) in
    let last : Building = (pattern_bits signal patterns next).1 in
    record {
      steps = extends_both b next last first.steps rest.steps;
      wide = omega (arith, rest.wide);
      is = each_more (IsBitOf last.body.wires) (pattern_bit places b).0 (pattern_bits signal patterns next).0 (bit_later next last rest.steps (pattern_bit places b).0 first.is) rest.is;
    }

gives_joined : (b : Building) (bits : List SigBit) → 0 < length bits → length bits ≤ 4096 → Each (IsBitOf b.body.wires) bits → GivesBit b (joined_bits bits b).0 (joined_bits bits b).1
gives_joined b [] some few h = absurd (omega (arith, some))
gives_joined b (s ∷ []) some few h = record { steps = extends_none b; is = h s (inl refl) }
gives_joined b (s ∷ t ∷ bits) some few h =
    let all : List SigBit = s ∷ t ∷ bits in
    let g = or_builds b all (omega (arith, few)) (record { bits = each_all (IsBitOf b.body.wires) all h; width = omega (arith, few) }) in
    record { steps = g.steps; is = low_is (joined_bits all b).1.body.wires (whole (length b.body.wires) 1) g.signal_is }

-- each match that is made is a bit of the module
abbrev pub AreMade : Trees → Type 0
AreMade t = Each (λ (k : Made). IsBitOf t.building.body.wires k.bit) t.made

-- a signal that is given, with what was built and the matches that are made
pub record Gives (width : ℕ) (old : Trees) (r : List SigBit × Trees) : Type 0 where
  pub steps : Extends old.building r.1.building
  pub wide : length r.0 ≡ width
  pub is : IsSignal r.1.building.body.wires r.0
  pub made : AreMade r.1

-- the match of a case
record GivesMatch (old : Trees) (r : SigBit × Trees) : Type 0 where
  steps : Extends old.building r.1.building
  is : IsBitOf r.1.building.body.wires r.0
  made : AreMade r.1

-- a bit that may be there
abbrev pub OptionIs : List Wire → Option SigBit → Type 0
OptionIs wires None = Unit {0}
OptionIs wires (Some s) = IsBitOf wires s

match_there : (wires : List Wire) (made : List Made) → Each (λ (k : Made). IsBitOf wires k.bit) made → (at : List ℕ) → OptionIs wires (made_match made at)
match_there wires [] h at = tt
match_there wires (k ∷ made) h at = by (same_case k.case_at at) (match_there wires made (λ x i. h x (inr i)) at)
  where
    by : (t : Bool) → OptionIs wires (made_match made at) → OptionIs wires (if t then Some k.bit else made_match made at)
    by true later = h k (inl refl)
    by false later = later

gives_match : (at : List ℕ) (signal : List SigBit) (patterns : List (List SigBit)) (t : Trees) → 0 < length patterns → length patterns ≤ 4096 → length signal ≤ 4096 → Each (IsBitOf t.building.body.wires) signal → Each (Each (IsBitOf t.building.body.wires)) patterns → AreMade t → GivesMatch t (match_bit at signal patterns t)
gives_match at signal patterns t some few narrow h k made =
    by (made_match t.made at) (match_there t.building.body.wires t.made made at)
  where
    by : (o : Option SigBit) → OptionIs t.building.body.wires o → GivesMatch t (option_map_or (λ s. (s, t)) o (let bits = pattern_bits signal patterns t.building in let joined = joined_bits bits.0 bits.1 in (joined.0, record { building = joined.1; made = t.made ++ record { case_at = at; bit = joined.0 } ∷ [] })))
    by (Some s) i = record { steps = extends_none t.building; is = i; made = made }
    by None i =
        let first = gives_patterns t.building signal patterns narrow h k in
        let bits = pattern_bits signal patterns t.building in
        let second = gives_joined bits.1 bits.0 (omega (arith, first.wide, some)) (omega (arith, first.wide, few)) first.is in
        let joined = joined_bits bits.0 bits.1 in
        let all = extends_both t.building bits.1 joined.1 first.steps second.steps in
        record {
          steps = all;
          is = second.is;
          made = each_both (λ (k : Made). IsBitOf joined.1.body.wires k.bit) t.made _ (λ k i. bit_later t.building joined.1 all k.bit (made k i)) (each_more (λ (k : Made). IsBitOf joined.1.body.wires k.bit) (record { case_at = at; bit = joined.0 }) [] second.is (each_none (λ (k : Made). IsBitOf joined.1.body.wires k.bit)));
        }

some_patterns : (signal : List SigBit) (patterns : List (List SigBit)) → is_default signal patterns ≡ false → 0 < length patterns
some_patterns signal [] e = absurd (cc)
some_patterns signal (p ∷ patterns) e = omega arith

pub gives_case : (width : ℕ) → 0 < width → width ≤ 4096 → (at : List ℕ) (signal : List SigBit) (patterns : List (List SigBit)) (body acc : List SigBit) (t : Trees) → length patterns ≤ 4096 → length signal ≤ 4096 → Each (IsBitOf t.building.body.wires) signal → Each (Each (IsBitOf t.building.body.wires)) patterns → length body ≡ width → IsSignal t.building.body.wires body → length acc ≡ width → IsSignal t.building.body.wires acc → AreMade t → Gives width t (with_case at signal patterns body acc t)
gives_case width some few at signal patterns body acc t many narrow h k lb ib la ia made =
    by (is_default signal patterns) refl (same_signal body acc)
  where
    by : (d : Bool) → is_default signal patterns ≡ d → (e : Bool) → Gives width t (if d then (body, t) else if e then (acc, t) else let m = match_bit at signal patterns t in let mux = mux_cell acc body m.0 m.1.building in (mux.0, record { building = mux.1; made = m.1.made }))
    by true f e = record { steps = extends_none t.building; wide = lb; is = ib; made = made }
    by false f true = record { steps = extends_none t.building; wide = la; is = ia; made = made }
    by false f false =
        let m = match_bit at signal patterns t in
        let first = gives_match at signal patterns t (some_patterns signal patterns f) many narrow h k made in
        let second = mux_builds m.1.building acc body m.0 (omega (arith, la, some)) (omega (arith, la, few)) (signal_later t.building m.1.building first.steps acc ia) (signal_later t.building m.1.building first.steps body ib) first.is in
        let mux = mux_cell acc body m.0 m.1.building in
        record {
          steps = extends_both t.building m.1.building mux.1 first.steps second.steps;
          wide = whole_is (length m.1.building.body.wires) (length acc) ∙ la;
          is = second.signal_is;
          made = λ k i. bit_later m.1.building mux.1 second.steps k.bit (first.made k i);
        }

pub last_is : (wires : List Wire) (js : List Join) (b : WireBit) → All (SourceIs (IsBitOf wires)) js → OptionIs wires (last_source js b)
last_is wires [] b all = tt
last_is wires (j ∷ js) b all = by (last_source js b) (same_bit j.bit b) (last_is wires js b (All-tail (SourceIs (IsBitOf wires)) j js all))
  where
    by : (o : Option SigBit) (t : Bool) → OptionIs wires o → OptionIs wires (option_or o (if t then Some j.source else None))
    by (Some s) t i = i
    by None true i = All-head (SourceIs (IsBitOf wires)) j js all
    by None false i = tt

value_is : (wires : List Wire) (assigns : List Link) → All (IsLink wires) assigns → (run : List WireBit) (prior : List SigBit) → All (IsBitOf wires) prior → All (IsBitOf wires) (run_value assigns run prior)
value_is wires assigns h [] prior k = All-nil (IsBitOf wires)
value_is wires assigns h (b ∷ run) [] k = All-nil (IsBitOf wires)
value_is wires assigns h (b ∷ run) (s ∷ prior) k =
    All-cons (IsBitOf wires) _ (run_value assigns run prior) (by (assigned assigns b) (last_is wires (all_joins assigns) b (all_joins_are (IsBitOf wires) assigns (rights_are wires assigns h)))) (value_is wires assigns h run prior (All-tail (IsBitOf wires) s prior k))
  where
    by : (o : Option SigBit) → OptionIs wires o → IsBitOf wires (option_map_or (λ t. t) o s)
    by (Some t) i = i
    by None i = All-head (IsBitOf wires) s prior k

gives_both : (width : ℕ) (a b : Trees) (r : List SigBit × Trees) → Extends a.building b.building → Gives width b r → Gives width a r
gives_both width a b r g h = record { steps = extends_both a.building b.building r.1.building g h.steps; wide = h.wide; is = h.is; made = h.made }

either : (width : ℕ) (old : Trees) (x y : List SigBit × Trees) (t : Bool) → Gives width old x → Gives width old y → Gives width old (if t then x else y)
either width old x y true g h = g
either width old x y false g h = h

pub narrow_of : {A : Type 0} (items : List A) → passes_limit items ≡ false → length items ≤ 4096
narrow_of items e = ltb-false 4096 (length items) e

-- the decisions of a process of a module, for a run
module _ (old : Building) (run : List WireBit) (some : 0 < length run) (few : length run ≤ 4096) where
  mutual
    gives_switches : (above : List ℕ) (number depth : ℕ) (switches : Switches) (prior : List SigBit) (t : Trees) → AreSwitches old.body.wires depth switches → switches_pass switches ≡ false → Extends old t.building → length prior ≡ length run → IsSignal t.building.body.wires prior → AreMade t → Gives (length run) t (switches_value run above number switches prior t)
    gives_switches above number depth NoSwitch prior t h e more l i made = record { steps = extends_none t.building; wide = l; is = i; made = made }
    gives_switches above number depth (OneSwitch signal attributes cases rest) prior t h e more l i made =
        let k = or_parts (passes_limit signal || cases_pass cases) (switches_pass rest) e in
        let j = or_parts (passes_limit signal) (cases_pass cases) k.0 in
        let r : List SigBit × Trees = if assigns_run (cases_assigns cases) run then cases_value run (above ++ number ∷ []) 0 signal cases prior t else (prior, t) in
        let inner : Gives (length run) t (cases_value run (above ++ number ∷ []) 0 signal cases prior t) = gives_cases (above ++ number ∷ []) 0 (depth + 1) signal cases prior t (narrow_of signal j.0) (all_each (IsBitOf old.body.wires) signal h.1.signal.bits) h.3 j.1 more l i made in
        let outer : Gives (length run) t (prior, t) = record { steps = extends_none t.building; wide = l; is = i; made = made } in
        let first : Gives (length run) t r = either (length run) t (cases_value run (above ++ number ∷ []) 0 signal cases prior t) (prior, t) (assigns_run (cases_assigns cases) run) inner outer in
        gives_both (length run) t r.1 (switches_value run above (number + 1) rest r.0 r.1) first.steps
        (gives_switches above (number + 1) depth rest r.0 r.1 h.4 k.1 (extends_both old t.building r.1.building more first.steps) first.wide first.is first.made)

    gives_cases : (above : List ℕ) (number depth : ℕ) (signal : List SigBit) (cases : Cases) (prior : List SigBit) (t : Trees) → length signal ≤ 4096 → Each (IsBitOf old.body.wires) signal → AreCases old.body.wires depth cases → cases_pass cases ≡ false → Extends old t.building → length prior ≡ length run → IsSignal t.building.body.wires prior → AreMade t → Gives (length run) t (cases_value run above number signal cases prior t)
    gives_cases above number depth signal NoCase prior t narrow s h e more l i made = record { steps = extends_none t.building; wide = l; is = i; made = made }
    gives_cases above number depth signal (OneCase patterns assigns attributes switches rest) prior t narrow s h e more l i made =
        let k = or_parts (passes_limit patterns || switches_pass switches) (cases_pass rest) e in
        let j = or_parts (passes_limit patterns) (switches_pass switches) k.0 in
        let acc = cases_value run above (number + 1) signal rest prior t in
        let first : Gives (length run) t acc = gives_cases above (number + 1) depth signal rest prior t narrow s h.4 k.1 more l i made in
        let here = extends_both old t.building acc.1.building more first.steps in
        let start : List SigBit = run_value assigns run prior in
        let wide : length start ≡ length run = value_wide assigns run prior l in
        let begun : IsSignal acc.1.building.body.wires start = record { bits = value_is acc.1.building.body.wires assigns (links_later old acc.1.building here assigns h.1) run prior (signal_later t.building acc.1.building first.steps prior i).bits; width = omega (arith, wide, few) } in
        let body = switches_value run (above ++ number ∷ []) 0 switches start acc.1 in
        let second : Gives (length run) acc.1 body = gives_switches (above ++ number ∷ []) 0 depth switches start acc.1 h.3 j.1 here wide begun first.made in
        let there = extends_both old acc.1.building body.1.building here second.steps in
        gives_both (length run) t body.1 (with_case (above ++ number ∷ []) signal patterns body.0 acc.0 body.1)
        (extends_both t.building acc.1.building body.1.building first.steps second.steps)
        (gives_case (length run) some few (above ++ number ∷ []) signal patterns body.0 acc.0 body.1 (narrow_of patterns j.0) narrow
        (bits_later old body.1.building there signal s)
        (λ q y. bits_later old body.1.building there q (all_each (IsBitOf old.body.wires) q (all_each (IsSomeSignal old.body.wires) patterns h.0 q y).signal.bits))
        second.wide second.is first.wide (signal_later acc.1.building body.1.building second.steps acc.0 first.is) second.made)

-- what is added for a run
record AddsRuns (old new : Trees) : Type 0 where
  steps : Extends old.building new.building
  made : AreMade new

unknown_are : (wires : List Wire) (run : List WireBit) → All (IsBitOf wires) (map (λ b. Fixed X) run)
unknown_are wires [] = All-nil (IsBitOf wires)
unknown_are wires (b ∷ run) = All-cons (IsBitOf wires) (Fixed X) (map (λ c. Fixed X) run) tt (unknown_are wires run)

on_wires : (wires : List Wire) (run : List WireBit) → Each (HasIt wires) run → All (IsBitOf wires) (map OnWire run)
on_wires wires [] h = All-nil (IsBitOf wires)
on_wires wires (b ∷ run) h = All-cons (IsBitOf wires) (OnWire b) (map OnWire run) (h b (inl refl)) (on_wires wires run (λ x i. h x (inr i)))

module _ (old : Building) (root : CaseView) (assigns : All (IsLink old.body.wires) root.assigns) (switches : AreSwitches old.body.wires 0 root.switches) (narrow : switches_pass root.switches ≡ false) where
  adds_run : (run : List WireBit) (t : Trees) → IsRun run → Each (HasIt old.body.wires) run → Extends old t.building → AreMade t → AddsRuns t (run_step root run t)
  adds_run run t fit has more made =
      let start : List SigBit = run_value root.assigns run (map (λ b. Fixed X) run) in
      let long : length start ≡ length run = value_wide root.assigns run (map (λ b. Fixed X) run) (length-map run (λ b. Fixed X)) in
      let begun : IsSignal t.building.body.wires start = record { bits = value_is t.building.body.wires root.assigns (links_later old t.building more root.assigns assigns) run (map (λ b. Fixed X) run) (unknown_are t.building.body.wires run); width = omega (arith, long, fit.1) } in
      let value = switches_value run [] 0 root.switches start t in
      let first : Gives (length run) t value = gives_switches old run fit.0 fit.1 [] 0 0 root.switches start t switches narrow more long begun made in
      let last = extends_both old t.building value.1.building more first.steps in
      record {
        steps = extends_both t.building value.1.building (run_step root run t).building first.steps
            (extends_link (map OnWire run) value.0 value.1.building (record { bits = on_wires value.1.building.body.wires run (λ b i. bit_later old value.1.building last (OnWire b) (has b i)); width = omega (arith, length-map run OnWire, fit.1) }) first.is);
        made = first.made;
      }

  adds_runs : (runs : List (List WireBit)) (t : Trees) → Each IsRun runs → ((run : List WireBit) → In run runs → Each (HasIt old.body.wires) run) → Extends old t.building → AreMade t → AddsRuns t (runs_step root runs t)
  adds_runs [] t fit has more made = record { steps = extends_none t.building; made = made }
  adds_runs (run ∷ runs) t fit has more made =
      let first = adds_run run t (fit run (inl refl)) (has run (inl refl)) more made in
      let next : Trees = run_step root run t in
      let rest = adds_runs runs next (λ r i. fit r (inr i)) (λ r i. has r (inr i)) (extends_both old t.building next.building more first.steps) first.made in
      record { steps = extends_both t.building next.building (runs_step root runs next).building first.steps rest.steps; made = rest.made }

adds_process : (old : Building) (q : Process) (b : Building) → IsProcess old.body.wires q → switches_pass q.root.switches ≡ false → Extends old b → Extends b (process_step b q)
adds_process old q b is narrow more =
    (adds_runs old q.root is.assigns is.switches narrow (tree_runs q.root) (record { building = b; made = [] }) (tree_fit q.root)
    (λ run i x j. trees_have old.body.wires q is x (run_in q.root run i x j)) more (each_none (λ (k : Made). IsBitOf b.body.wires k.bit))).steps

adds_processes : (old : Building) (qs : List Process) (b : Building) → Each (IsProcess old.body.wires) qs → Each (λ (q : Process). switches_pass q.root.switches ≡ false) qs → Extends old b → Extends b (processes_step b qs)
adds_processes old [] b h narrow more = extends_none b
adds_processes old (q ∷ qs) b h narrow more =
    let first = adds_process old q b (h q (inl refl)) (narrow q (inl refl)) more in
    let next : Building = process_step b q in
    extends_both b next (processes_step next qs) first (adds_processes old qs next (λ p i. h p (inr i)) (λ p i. narrow p (inr i)) (extends_both old b next more first))

-- a module without its processes
pub unprocessed : (m : Module) → HasReadableItems m → HasReadableItems (record m { processes = [] })
unprocessed m is = record {
  id = is.id;
  attributes = is.attributes;
  parameters = is.parameters;
  wires = is.wires;
  memories = is.memories;
  cells = is.cells;
  processes = All-nil (IsProcess m.wires);
  links = is.links;
  distinct = still_distinct (item_names (record m { processes = [] })) (item_names m) (λ name. omega (arith, item_times name (record m { processes = [] }), item_times name m)) is.distinct;
}

pub narrow_processes : (ports : types.Ports) (m : Module) → IsReadyWithin with_processes ports m → Each (λ (q : Process). switches_pass q.root.switches ≡ false) m.processes
narrow_processes ports m ready q i =
    let good = each_good ports m [] m.processes (no_faults with_processes ports m ready.faultless).processes q i in
    (or_parts (switches_pass q.root.switches) (list_any (λ (l : WriteLine). passes_limit l.value) (memory_lines q)) good.1.narrow).0

pub mux_reads : (ports : types.Ports) (m : Module) → IsReadyWithin with_processes ports m → HasReadableItems m → (processes_step (building_of m) m.processes).next ≤ 1000000000 → HasReadableItems (proc_mux_of m)
mux_reads ports m ready is few =
    let last : Building = processes_step (building_of m) m.processes in
    unprocessed last.body
    (extended m last is (adds_processes (building_of m) m.processes (building_of m) (all_each (IsProcess m.wires) m.processes is.processes) (narrow_processes ports m ready) (extends_none (building_of m))) few)
