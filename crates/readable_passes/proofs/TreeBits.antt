-- The bits that the assigns of a readable process name are bits that wires have.
use Rattle.std.proofs.Common.{ℕ, ◌+◌, Bool, true, false, List, [], ◌∷◌, ◌++◌, inl, inr, sym, subst}
use Rattle.std.specs.Prelude.{filter, if◌then◌else◌}
use Rattle.std.specs.List.{All}
use Rattle.std.proofs.lemmas.List.Elements.{All-head, All-tail}
use Rattle.rtl_sig.specs.declared.sig.SigBit.{SigBit}
use Rattle.rtl_sig.specs.declared.sig.SigBit.TheVariants.{Fixed, Wire as OnWire}
use Rattle.rtl_sig.specs.declared.sig.WireBit.{WireBit}
use Rattle.rtl_ir.specs.Follow.{all_joins, joins}
use Rattle.rtl_ir.specs.declared.follow.Join.{Join}
use Rattle.rtl_ir.specs.declared.module.Link.{Link}
use Rattle.rtl_ir.specs.declared.process.Process.{Process}
use Rattle.rtl_ir.specs.declared.value.Attribute.{Attribute}
use Rattle.rtl_ir.specs.declared.wire.Wire.{Wire}
use Rattle.rtl_ir.specs.Assigns.{case_assigns, cases_assigns, each_once, left_bits, switches_assigns, tree_bits}
use Rattle.rtl_ir.specs.Signals.{has_bit, is_all_constant, wire_bits}
use Rattle.rtl_ir.specs.SwitchRules.{cases_by_rules, kept_case, patterns_left, root_by_rules, switches_by_rules, takes_the_rest}
use Rattle.rtl_ir.specs.Tree.{Cases, NoCase, NoSwitch, OneCase, OneSwitch, Switches}
use Rattle.net_model.proofs.Ranges.{each_both, each_flat_map, each_more, each_none}
use Rattle.net_model.specs.Lists.{In}
use Rattle.net_model.specs.Within.{Each}
use Rattle.rtl_readable.specs.Readable.{AreCases, AreSwitches, IsBitOf, IsLink, IsProcess}
use Rattle.readable_passes.proofs.Replaced.{all_each}

module _ (wires : List Wire) where
  -- a wire has the bit
  abbrev pub HasIt : WireBit → Type 0
  HasIt b = IsBitOf wires (OnWire b)

  signal_has : (ss : List SigBit) → All (IsBitOf wires) ss → Each HasIt (wire_bits ss)
  signal_has [] all b i = absurd i
  signal_has (Fixed c ∷ ss) all b i = signal_has ss (All-tail (IsBitOf wires) (Fixed c) ss all) b i
  signal_has (OnWire x ∷ ss) all b (inl e) = subst HasIt (sym e) (All-head (IsBitOf wires) (OnWire x) ss all)
  signal_has (OnWire x ∷ ss) all b (inr i) = signal_has ss (All-tail (IsBitOf wires) (OnWire x) ss all) b i

  left_have : (lines : List Link) → Each (IsLink wires) lines → Each HasIt (left_bits lines)
  left_have lines h = each_flat_map HasIt (λ (l : Link). wire_bits l.left) lines (λ l i. signal_has l.left (h l i).left.bits)

  kept_have : (signal : List SigBit) (patterns constants : List (List SigBit)) (assigns : List Link) (attributes : List Attribute) (switches : Switches) (rest : Cases) → Each (IsLink wires) assigns → Each (IsLink wires) (switches_assigns switches) → Each (IsLink wires) (cases_assigns rest) → Each (IsLink wires) (cases_assigns (kept_case signal patterns constants (λ left behind. OneCase left assigns attributes switches behind) rest))
  kept_have signal [] constants assigns attributes switches rest h i j = j
  kept_have signal (p ∷ ps) constants assigns attributes switches rest h i j = by (takes_the_rest signal (p ∷ ps) constants)
    where
      by : (t : Bool) → Each (IsLink wires) (cases_assigns (if t then OneCase [] assigns attributes switches NoCase else OneCase (p ∷ ps) assigns attributes switches rest))
      by true = each_both (IsLink wires) (assigns ++ switches_assigns switches) [] (each_both (IsLink wires) assigns (switches_assigns switches) h i) (each_none (IsLink wires))
      by false = each_both (IsLink wires) (assigns ++ switches_assigns switches) (cases_assigns rest) (each_both (IsLink wires) assigns (switches_assigns switches) h i) j

  mutual
    switches_have : (depth : ℕ) (switches : Switches) → AreSwitches wires depth switches → Each (IsLink wires) (switches_assigns (switches_by_rules switches))
    switches_have depth NoSwitch h = each_none (IsLink wires)
    switches_have depth (OneSwitch signal attributes cases rest) h =
        each_both (IsLink wires) (cases_assigns (cases_by_rules signal [] cases)) (switches_assigns (switches_by_rules rest)) (cases_have (depth + 1) signal [] cases h.3) (switches_have depth rest h.4)

    cases_have : (depth : ℕ) (signal : List SigBit) (earlier : List (List SigBit)) (cases : Cases) → AreCases wires depth cases → Each (IsLink wires) (cases_assigns (cases_by_rules signal earlier cases))
    cases_have depth signal earlier NoCase h = each_none (IsLink wires)
    cases_have depth signal earlier (OneCase [] assigns attributes switches rest) h =
        each_both (IsLink wires) (assigns ++ switches_assigns (switches_by_rules switches)) []
        (each_both (IsLink wires) assigns (switches_assigns (switches_by_rules switches)) (all_each (IsLink wires) assigns h.1) (switches_have depth switches h.3))
        (each_none (IsLink wires))
    cases_have depth signal earlier (OneCase (p ∷ ps) assigns attributes switches rest) h =
        let left = patterns_left signal earlier (p ∷ ps) in
        let constants = earlier ++ filter is_all_constant left in
        kept_have signal left constants assigns attributes (switches_by_rules switches) (cases_by_rules signal constants rest)
        (all_each (IsLink wires) assigns h.1) (switches_have depth switches h.3) (cases_have depth signal constants rest h.4)

  once_in : (bits : List WireBit) (b : WireBit) → In b (each_once bits) → In b bits
  once_in [] b i = absurd i
  once_in (c ∷ bits) b i = by (has_bit bits c) (once_in bits b) i
    where
      by : (t : Bool) → (In b (each_once bits) → In b bits) → In b (if t then each_once bits else c ∷ each_once bits) → In b (c ∷ bits)
      by true later j = inr (later j)
      by false later (inl e) = inl e
      by false later (inr j) = inr (later j)

  -- each tree bit of a process
  pub trees_have : (p : Process) → IsProcess wires p → Each HasIt (tree_bits p.root)
  trees_have p is b i =
      left_have (case_assigns (root_by_rules p.root))
      (each_both (IsLink wires) p.root.assigns (switches_assigns (switches_by_rules p.root.switches)) (all_each (IsLink wires) p.root.assigns is.assigns) (switches_have 0 p.root.switches is.switches))
      b (once_in (left_bits (case_assigns (root_by_rules p.root))) b i)

  -- a place of a line: both sides are bits that wires have, or constants
  pub record JoinIs (j : Join) : Type 0 where
    pub bit : IsBitOf wires (OnWire j.bit)
    pub source : IsBitOf wires j.source

  pub joins_are : (ls rs : List SigBit) → All (IsBitOf wires) ls → All (IsBitOf wires) rs → Each JoinIs (joins ls rs)
  joins_are [] rs h k = each_none JoinIs
  joins_are (l ∷ ls) [] h k = each_none JoinIs
  joins_are (Fixed c ∷ ls) (r ∷ rs) h k = joins_are ls rs (All-tail (IsBitOf wires) (Fixed c) ls h) (All-tail (IsBitOf wires) r rs k)
  joins_are (OnWire b ∷ ls) (r ∷ rs) h k =
      each_more JoinIs (record { bit = b; source = r }) (joins ls rs) (record { bit = All-head (IsBitOf wires) (OnWire b) ls h; source = All-head (IsBitOf wires) r rs k }) (joins_are ls rs (All-tail (IsBitOf wires) (OnWire b) ls h) (All-tail (IsBitOf wires) r rs k))

  pub lines_are : (lines : List Link) → All (IsLink wires) lines → Each JoinIs (all_joins lines)
  lines_are [] all = each_none JoinIs
  lines_are (l ∷ lines) all =
      let one = All-head (IsLink wires) l lines all in
      each_both JoinIs (joins l.left l.right) (all_joins lines) (joins_are l.left l.right one.left.bits one.right.bits) (lines_are lines (All-tail (IsLink wires) l lines all))
