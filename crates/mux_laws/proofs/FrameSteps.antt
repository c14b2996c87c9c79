-- What the step adds to a module, run by run and process by process.
use Rattle.std.proofs.Common.{◌≡◌, ◌≤◌, ◌<◌, ℕ, false, List, [], ◌∷◌, length, inl, inr, refl, arith}
use Rattle.std.specs.Prelude.{flat_map, map}
use Rattle.std.proofs.lemmas.List.{length-map}
use Rattle.rtl_bits.specs.declared.bit.Bit.TheVariants.{X}
use Rattle.rtl_sig.specs.declared.sig.SigBit.{SigBit}
use Rattle.rtl_sig.specs.declared.sig.SigBit.TheVariants.{Fixed}
use Rattle.rtl_sig.specs.declared.sig.WireBit.{WireBit}
use Rattle.rtl_ir.specs.Build.{Building}
use Rattle.rtl_ir.specs.Faults.ProcessLimits.{switches_pass}
use Rattle.rtl_ir.specs.Tree.{CaseView}
use Rattle.rtl_ir.specs.declared.process.Process.{Process}
use Rattle.net_model.proofs.Ranges.{RootIn, each_more, each_none, tree_bits_in}
use Rattle.net_model.specs.Lists.{In}
use Rattle.net_model.specs.Proc.Mux.{Made, Trees, process_step, processes_step, run_step, run_value, runs_step, switches_value, tree_runs}
use Rattle.net_model.specs.Within.{BitIn, Each, SigIn}
use Rattle.mux_laws.proofs.FrameGrowing.{GrowsBy, grows_link, grows_more, grows_none, no_fewer}
use Rattle.mux_laws.proofs.FrameRuns.{IsRun, run_in, together, tree_fit}
use Rattle.mux_laws.proofs.FrameTrees.{AreMade, Gives, count_of, gives_switches, sig_later, value_wide, value_within}

-- what is added for a run: connections that drive it, besides cells with their wires
record AddsRuns (old : Trees) (driven : List WireBit) (new : Trees) : Type 0 where
  grows : GrowsBy old.building new.building driven
  made : AreMade new

unknown_in : (n : ℕ) (run : List WireBit) → SigIn n (map (λ b. Fixed X) run)
unknown_in n [] = each_none (BitIn n)
unknown_in n (b ∷ run) = each_more (BitIn n) (Fixed X) (map (λ c. Fixed X) run) tt (unknown_in n run)

module _ (n : ℕ) (root : CaseView) (is : RootIn n root) (narrow : switches_pass root.switches ≡ false) where
  adds_run : (run : List WireBit) (t : Trees) → IsRun run → Each (λ (b : WireBit). b.wire < n) run → n ≤ count_of t.building → AreMade t → AddsRuns t run (run_step root run t)
  adds_run run t fit low more made =
      let k : ℕ = count_of t.building in
      let start : List SigBit = run_value root.assigns run (map (λ b. Fixed X) run) in
      let long = value_wide root.assigns run (map (λ b. Fixed X) run) (length-map run (λ b. Fixed X)) in
      let begun = value_within k root.assigns (λ l i. (sig_later n k more l.left (is.assigns l i).0, sig_later n k more l.right (is.assigns l i).1)) run (map (λ b. Fixed X) run) (unknown_in k run) in
      let value = switches_value run [] 0 root.switches start t in
      let first : Gives (length run) t value = gives_switches n run fit.0 fit.1 [] 0 root.switches start t is.switches narrow more long begun made in
      let grown = no_fewer t.building value.1.building [] first.grows in
      record {
        grows = grows_more t.building value.1.building (run_step root run t).building [] run first.grows
            (grows_link value.1.building run value.0 first.wide (λ b i. let l : b.wire < n = low b i in omega (arith, l, more, grown)) first.within);
        made = first.made;
      }

  adds_runs : (runs : List (List WireBit)) (t : Trees) → Each IsRun runs → ((run : List WireBit) → In run runs → Each (λ (b : WireBit). b.wire < n) run) → n ≤ count_of t.building → AreMade t → AddsRuns t (together runs) (runs_step root runs t)
  adds_runs [] t fit low more made = record { grows = grows_none t.building; made = made }
  adds_runs (run ∷ runs) t fit low more made =
      let first = adds_run run t (fit run (inl refl)) (low run (inl refl)) more made in
      let next : Trees = run_step root run t in
      let grown = no_fewer t.building next.building run first.grows in
      let rest = adds_runs runs next (λ r i. fit r (inr i)) (λ r i. low r (inr i)) (omega (arith, more, grown)) first.made in
      record {
        grows = grows_more t.building next.building (runs_step root runs next).building run (together runs) first.grows rest.grows;
        made = rest.made;
      }

-- the left sides of what is added for processes
abbrev pub process_runs : Process → List WireBit
process_runs q = together (tree_runs q.root)

-- what is asked of a process in a module of so many wires
pub record IsMuxed (n : ℕ) (q : Process) : Type 0 where
  pub within : RootIn n q.root
  pub narrow : switches_pass q.root.switches ≡ false

adds_process : (n : ℕ) (q : Process) (b : Building) → IsMuxed n q → n ≤ count_of b → GrowsBy b (process_step b q) (process_runs q)
adds_process n q b is more =
    (adds_runs n q.root is.within is.narrow (tree_runs q.root) (record { building = b; made = [] }) (tree_fit q.root)
    (λ run i x j. tree_bits_in n q.root is.within x (run_in q.root run i x j)) more (each_none (λ (k : Made). BitIn (count_of b) k.bit))).grows

pub adds_processes : (n : ℕ) (qs : List Process) (b : Building) → Each (IsMuxed n) qs → n ≤ count_of b → GrowsBy b (processes_step b qs) (flat_map process_runs qs)
adds_processes n [] b h more = grows_none b
adds_processes n (q ∷ qs) b h more =
    let first = adds_process n q b (h q (inl refl)) more in
    let next : Building = process_step b q in
    let grown = no_fewer b next (process_runs q) first in
    grows_more b next (processes_step next qs) (process_runs q) (flat_map process_runs qs) first (adds_processes n qs next (λ p i. h p (inr i)) (omega (arith, more, grown)))
