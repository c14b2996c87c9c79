-- Reading the switches by the rules keeps the bits that assigns name within their wires.
use Rattle.std.proofs.Common.{ℕ, zero, suc, ◌+◌, ◌<◌, Bool, true, false, List, [], ◌∷◌, ◌++◌, ⊎_elim, subst}
use Rattle.std.specs.Prelude.{IsSomeAnd, filter, if◌then◌else◌, slice_get}
use Rattle.rtl_sig.specs.declared.sig.SigBit.{SigBit}
use Rattle.rtl_sig.specs.declared.sig.SigBit.TheVariants.{Fixed, Wire as OnWire}
use Rattle.rtl_ir.specs.Assigns.{case_assigns, cases_assigns, switches_assigns}
use Rattle.rtl_ir.specs.Signals.{is_all_constant}
use Rattle.rtl_ir.specs.SwitchRules.{cases_by_rules, kept_case, patterns_left, root_by_rules, switches_by_rules, takes_the_rest}
use Rattle.rtl_ir.specs.Tree.{Cases, NoCase, NoSwitch, OneCase, OneSwitch, Switches}
use Rattle.rtl_ir.specs.declared.module.Link.{Link}
use Rattle.rtl_ir.specs.declared.module.Module.{Module}
use Rattle.rtl_ir.specs.declared.process.Process.{Process}
use Rattle.rtl_ir.specs.declared.wire.Wire.{Wire}
use Rattle.net_model.proofs.Members.{In-cases, In-left, In-mapped, In-right}
use Rattle.net_model.specs.Lists.{In}
use Rattle.net_model.specs.Proc.Start.{begun_wires, is_begun, proc_tree_of, ruled_process, init_attribute, wire_starts, with_attribute}
use Rattle.proc_laws.specs.Ready.{IsBitOf}
use Rattle.reset_laws.specs.Trees.{TreesHaveBits}
use Rattle.reset_laws.proofs.FreedTrees.{both}

-- the assigns that are left by the rules
mutual
  switches_left : (switches : Switches) (l : Link) → In l (switches_assigns (switches_by_rules switches)) → In l (switches_assigns switches)
  switches_left NoSwitch l i = absurd i
  switches_left (OneSwitch signal attributes cases rest) l i =
      ⊎_elim
      (λ h. In-left l (cases_assigns cases) (switches_assigns rest) (cases_left signal [] cases l h))
      (λ h. In-right l (cases_assigns cases) (switches_assigns rest) (switches_left rest l h))
      (In-cases l (cases_assigns (cases_by_rules signal [] cases)) (switches_assigns (switches_by_rules rest)) i)

  cases_left : (signal : List SigBit) (earlier : List (List SigBit)) (cases : Cases) (l : Link) → In l (cases_assigns (cases_by_rules signal earlier cases)) → In l (cases_assigns cases)
  cases_left signal earlier NoCase l i = absurd i
  cases_left signal earlier (OneCase [] assigns attributes switches rest) l i =
      In-left l (assigns ++ switches_assigns switches) (cases_assigns rest)
      (⊎_elim (λ h. both assigns (switches_assigns (switches_by_rules switches)) (switches_assigns switches) l (switches_left switches l) h) (λ h. absurd h) (In-cases l (assigns ++ switches_assigns (switches_by_rules switches)) [] i))
  cases_left signal earlier (OneCase (p ∷ ps) assigns attributes switches rest) l i =
      by (patterns_left signal earlier (p ∷ ps)) i (switches_left switches l) (cases_left signal (earlier ++ filter is_all_constant (patterns_left signal earlier (p ∷ ps))) rest l)
    where
      constants : List (List SigBit)
      constants = earlier ++ filter is_all_constant (patterns_left signal earlier (p ∷ ps))

      here : (behind : Cases) → In l (cases_assigns (OneCase [] assigns attributes (switches_by_rules switches) behind)) → (In l (switches_assigns (switches_by_rules switches)) → In l (switches_assigns switches)) → (In l (cases_assigns behind) → In l (cases_assigns rest)) → In l ((assigns ++ switches_assigns switches) ++ cases_assigns rest)
      here behind j inner later =
          ⊎_elim
          (λ h. In-left l (assigns ++ switches_assigns switches) (cases_assigns rest) (both assigns (switches_assigns (switches_by_rules switches)) (switches_assigns switches) l inner h))
          (λ h. In-right l (assigns ++ switches_assigns switches) (cases_assigns rest) (later h))
          (In-cases l (assigns ++ switches_assigns (switches_by_rules switches)) (cases_assigns behind) j)

      at : (q : List SigBit) (qs : List (List SigBit)) (t : Bool) → In l (cases_assigns (if t then OneCase [] assigns attributes (switches_by_rules switches) NoCase else OneCase (q ∷ qs) assigns attributes (switches_by_rules switches) (cases_by_rules signal constants rest))) → (In l (switches_assigns (switches_by_rules switches)) → In l (switches_assigns switches)) → (In l (cases_assigns (cases_by_rules signal constants rest)) → In l (cases_assigns rest)) → In l ((assigns ++ switches_assigns switches) ++ cases_assigns rest)
      at q qs true j inner later = here NoCase j inner (λ h. absurd h)
      at q qs false j inner later = here (cases_by_rules signal constants rest) j inner later

      by : (ls : List (List SigBit)) → In l (cases_assigns (kept_case signal ls constants (λ left behind. OneCase left assigns attributes (switches_by_rules switches) behind) (cases_by_rules signal constants rest))) → (In l (switches_assigns (switches_by_rules switches)) → In l (switches_assigns switches)) → (In l (cases_assigns (cases_by_rules signal constants rest)) → In l (cases_assigns rest)) → In l ((assigns ++ switches_assigns switches) ++ cases_assigns rest)
      by [] j inner later = In-right l (assigns ++ switches_assigns switches) (cases_assigns rest) (later j)
      by (q ∷ qs) j inner later = at q qs (takes_the_rest signal (q ∷ qs) constants) j inner later

-- wires with start values have their widths
begun_has : (m : Module) (at : ℕ) (ws : List Wire) (k x : ℕ) → IsSomeAnd (slice_get ws k) (λ w. x < w.width) → IsSomeAnd (slice_get (begun_wires m at ws) k) (λ w. x < w.width)
begun_has m at [] k x h = absurd h
begun_has m at (w ∷ ws) zero x h = by (is_begun m at)
  where
    by : (t : Bool) → x < (if t then record w { attributes = with_attribute (init_attribute (wire_starts m at w.width)) w.attributes } else w).width
    by true = h
    by false = h
begun_has m at (w ∷ ws) (suc k) x h = begun_has m (at + 1) ws k x h

pub trees_placed : (m : Module) → TreesHaveBits m → TreesHaveBits (proc_tree_of m)
trees_placed m h s i l j b k =
    let z = In-mapped ruled_process s m.processes i in
    let line : In l (case_assigns (root_by_rules z.0.root)) = subst (λ (x : Process). In l (case_assigns x.root)) z.2 j in
    let old : In l (case_assigns z.0.root) = both z.0.root.assigns (switches_assigns (switches_by_rules z.0.root.switches)) (switches_assigns z.0.root.switches) l (switches_left z.0.root.switches l) line in
    by b (h z.0 z.1 l old b k)
  where
    by : (c : SigBit) → IsBitOf m.wires c → IsBitOf (begun_wires m 0 m.wires) c
    by (Fixed c) g = tt
    by (OnWire c) g = begun_has m 0 m.wires c.wire c.at g
