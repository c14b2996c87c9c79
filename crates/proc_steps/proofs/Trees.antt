-- Reading switches by the rules adds no assign, so that each bit that assigns name is still one that its wire has.
use Rattle.std.proofs.Common.{Bool, true, false, if◌then◌else◌, List, [], ◌∷◌, ◌++◌, filter, ⊎_elim, sym, subst}
use Rattle.rtl_sig.specs.declared.sig.SigBit.{SigBit}
use Rattle.rtl_ir.specs.declared.module.Link.{Link}
use Rattle.rtl_ir.specs.declared.module.Module.{Module}
use Rattle.rtl_ir.specs.declared.process.Process.{Process}
use Rattle.rtl_ir.specs.declared.value.Attribute.{Attribute}
use Rattle.rtl_ir.specs.Assigns.{case_assigns, cases_assigns, switches_assigns}
use Rattle.rtl_ir.specs.Signals.{is_all_constant}
use Rattle.rtl_ir.specs.SwitchRules.{cases_by_rules, kept_case, patterns_left, root_by_rules, switches_by_rules, takes_the_rest}
use Rattle.rtl_ir.specs.Tree.{Switches, NoSwitch, OneSwitch, Cases, NoCase, OneCase, CaseView}
use Rattle.net_model.specs.Lists.{In}
use Rattle.net_model.specs.Proc.Start.{begun_wires, proc_tree_of, ruled_process}
use Rattle.net_model.specs.Within.{Each}
use Rattle.net_model.proofs.Members.{In-cases, In-left, In-mapped, In-right}
use Rattle.proc_laws.specs.Ready.{IsBitOf}
use Rattle.proc_tree.proofs.Lines.{begun_lines, same_bits}
use Rattle.reset_laws.specs.Trees.{TreesHaveBits}

module _ (l : Link) where
  -- what stands in one of two lists stands in one of two longer ones
  more : (xs ys xs' ys' : List Link) → (In l xs → In l xs') → (In l ys → In l ys') → In l (xs ++ ys) → In l (xs' ++ ys')
  more xs ys xs' ys' f g i = ⊎_elim (λ a. In-left l xs' ys' (f a)) (λ b. In-right l xs' ys' (g b)) (In-cases l xs ys i)

  none : (xs : List Link) → In l [] → In l xs
  none xs i = absurd i

  -- a case among what is kept
  keep_case : (signal : List SigBit) (left constants : List (List SigBit)) (assigns : List Link) (attributes : List Attribute) (switches : Switches) (rest : Cases)
      → In l (cases_assigns (kept_case signal left constants (λ ps behind. OneCase ps assigns attributes switches behind) rest)) → In l (assigns ++ switches_assigns switches ++ cases_assigns rest)
  keep_case signal [] constants assigns attributes switches rest i = In-right l (assigns ++ switches_assigns switches) (cases_assigns rest) i
  keep_case signal (p ∷ ps) constants assigns attributes switches rest i = by (takes_the_rest signal (p ∷ ps) constants) i
    where
      by : (t : Bool) → In l (cases_assigns (if t then OneCase [] assigns attributes switches NoCase else OneCase (p ∷ ps) assigns attributes switches rest)) → In l (assigns ++ switches_assigns switches ++ cases_assigns rest)
      by true j = more (assigns ++ switches_assigns switches) [] (assigns ++ switches_assigns switches) (cases_assigns rest) (λ a. a) (none (cases_assigns rest)) j
      by false j = j

  mutual
    ruled_switches : (switches : Switches) → In l (switches_assigns (switches_by_rules switches)) → In l (switches_assigns switches)
    ruled_switches NoSwitch i = i
    ruled_switches (OneSwitch signal attributes cases rest) i =
        more (cases_assigns (cases_by_rules signal [] cases)) (switches_assigns (switches_by_rules rest)) (cases_assigns cases) (switches_assigns rest) (ruled_cases signal [] cases) (ruled_switches rest) i

    ruled_cases : (signal : List SigBit) (earlier : List (List SigBit)) (cases : Cases) → In l (cases_assigns (cases_by_rules signal earlier cases)) → In l (cases_assigns cases)
    ruled_cases signal earlier NoCase i = i
    ruled_cases signal earlier (OneCase [] assigns attributes switches rest) i =
        more (assigns ++ switches_assigns (switches_by_rules switches)) [] (assigns ++ switches_assigns switches) (cases_assigns rest)
        (more assigns (switches_assigns (switches_by_rules switches)) assigns (switches_assigns switches) (λ a. a) (ruled_switches switches)) (none (cases_assigns rest)) i
    ruled_cases signal earlier (OneCase (p ∷ ps) assigns attributes switches rest) i =
        let patterns : List (List SigBit) = patterns_left signal earlier (p ∷ ps) in
        let constants : List (List SigBit) = earlier ++ filter is_all_constant patterns in
        more (assigns ++ switches_assigns (switches_by_rules switches)) (cases_assigns (cases_by_rules signal constants rest)) (assigns ++ switches_assigns switches) (cases_assigns rest)
        (more assigns (switches_assigns (switches_by_rules switches)) assigns (switches_assigns switches) (λ a. a) (ruled_switches switches)) (ruled_cases signal constants rest)
        (keep_case signal patterns constants assigns attributes (switches_by_rules switches) (cases_by_rules signal constants rest) i)

  ruled_root : (root : CaseView) → In l (case_assigns (root_by_rules root)) → In l (case_assigns root)
  ruled_root root i = more root.assigns (switches_assigns (switches_by_rules root.switches)) root.assigns (switches_assigns root.switches) (λ a. a) (ruled_switches root.switches) i

pub tree_trees : (m : Module) → TreesHaveBits m → TreesHaveBits (proc_tree_of m)
tree_trees m h q i =
    let from = In-mapped ruled_process q m.processes i in
    subst (λ (p : Process). Each (λ (l : Link). Each (IsBitOf (begun_wires m 0 m.wires)) l.left) (case_assigns p.root)) (sym from.2)
    (λ l j b k. same_bits (begun_wires m 0 m.wires) m.wires (begun_lines m 0 m.wires) b (h from.0 from.1 l (ruled_root l from.0.root j) b k))
