-- Trees by the numbers of nodes become the multiplexers of the definition.
use Rattle.std.proofs.Common.{◌≡◌, ℕ, suc, ◌+◌, ◌<◌, List, [], ◌∷◌, length, map, drop, get_or, add-one, refl, sym, ◌∙◌, ap, subst, arith, inl, inr}
use Rattle.std.specs.Prelude.{unwrap_or}
use Rattle.std.proofs.lemmas.List.{length-map}
use Rattle.rtl_sig.specs.declared.sig.SigBit.TheVariants.{Wire as OnWire}
use Rattle.rtl_sig.specs.declared.sig.WireBit.{WireBit}
use Rattle.rtl_ir.specs.Build.{Building, new_link}
use Rattle.rtl_ir.specs.Assigns.{case_assigns, tree_bits}
use Rattle.rtl_ir.specs.Tree.{CaseView, Switches}
use Rattle.rtl_ir.specs.declared.process.Process.{Process}
use Rattle.net_model.specs.Within.{Each}
use Rattle.net_model.specs.Proc.Mux.{Trees, in_bit_order, run_value, tree_runs}
use Rattle.net_model.specs.Proc.Mux as by_places
use Rattle.proc_mux.specs.Givens.{unknowns}
use Rattle.proc_mux.specs.Rows.{tree_given}
use Rattle.match_cells.specs.Trees.{Numbered, none_made}
use Rattle.proc_mux.specs.Trees.{run_step, runs_step, switches_value, value_at}
use Rattle.match_cells.proofs.Growing.{Grows, grows_more, grows_none, over_later}
use Rattle.proc_mux.proofs.RunSteps.{runs_grow}
use Rattle.std.proofs.Math.Seq.{drop-cons}
use Rattle.net_index.specs.Builder.{PassesLimit}
use Rattle.proc_mux.proofs.Fitting.{AreEven, root_fits, root_value}
use Rattle.match_cells.proofs.Places.{IsInSwitches, switch_number}
use Rattle.match_cells.proofs.Same.{Agrees, IsMade, none_is_made}
use Rattle.proc_mux.proofs.RowGivens.{given_is}
use Rattle.proc_mux.proofs.Same.{FitsSwitches, switches_same, value_width}
use Rattle.proc_mux.proofs.Uniform.{runs_uniform}

-- what is built is the same, and so are the matches that are made
pub record AreSame (root : Switches) (d : Trees) (f : Numbered) : Type 0 where
  pub building : d.building ≡ f.building
  pub made : IsMade root d.made f.made

run_same : (c : CaseView) (run : List WireBit) → AreEven run (case_assigns c) → (d : Trees) (f : Numbered) → AreSame c.switches d f → AreSame c.switches (by_places.run_step c run d) (run_step c run f)
unfolding run_step
run_same c run even d f same =
    let given = tree_given c run in
    let e = given_is c run even in
    let start = run_value c.assigns run (unknowns run) in
    let w : length (unknowns run) ≡ length run = length-map run _ in
    let begins : unwrap_or (value_at given 0) (unknowns run) ≡ start = ap (λ gs. unwrap_or (value_at gs 0) (unknowns run)) e ∙ root_value c run even (unknowns run) w in
    let fits : FitsSwitches c.switches run given 1 c.switches = subst (λ gs. FitsSwitches c.switches run gs 1 c.switches) (sym e) (root_fits c run even) in
    let a =
    switches_same c.switches run given [] 0 1 c.switches start d f fits
    (λ j q i. let e : j ≡ 0 + j = omega arith in subst (λ m. IsInSwitches c.switches (m ∷ q) × (switch_number 1 c.switches (m ∷ q) ≡ switch_number 1 c.switches (j ∷ q))) e (i, refl))
    (value_width c.switches run given c.assigns run (unknowns run) w) same.building same.made in
    let b : Agrees c.switches (length run) (by_places.switches_value run [] 0 c.switches start d) (switches_value given 1 c.switches (unwrap_or (value_at given 0) (unknowns run)) f) =
    subst (λ v. Agrees c.switches (length run) (by_places.switches_value run [] 0 c.switches start d) (switches_value given 1 c.switches v f)) (sym begins) a in
    record { building = (λ i. new_link (map OnWire run) (b.value i) (b.building i)); made = b.made }

runs_same : (c : CaseView) (runs : List (List WireBit)) → Each (λ r. AreEven r (case_assigns c)) runs → (d : Trees) (f : Numbered) → AreSame c.switches d f → AreSame c.switches (by_places.runs_step c runs d) (runs_step c runs f)
runs_same c [] even d f same = same
runs_same c (run ∷ runs) even d f same =
    runs_same c runs (λ r i. even r (inr i)) (by_places.run_step c run d) (run_step c run f) (run_same c run (even run (inl refl)) d f same)

none_same : (c : CaseView) (b : Building) → AreSame c.switches (record { building = b; made = [] }) (none_made b c)
none_same c b = record { building = refl; made = none_is_made c }

pub numbers_are : (b : Building) (p : Process) → (runs_step p.root (tree_runs p.root) (none_made b p.root)).building ≡ by_places.process_step b p
numbers_are b p =
    let even = runs_uniform (case_assigns p.root) (in_bit_order (tree_bits p.root)) in
    sym (runs_same p.root (tree_runs p.root) even (record { building = b; made = [] }) (none_made b p.root) (none_same p.root b)).building

pub process_grows : (b : Building) (p : Process) → Grows b (by_places.process_step b p)
process_grows b p = subst (Grows b) (numbers_are b p) (runs_grow p.root (tree_runs p.root) (none_made b p.root))

pub processes_grow : (b : Building) (ps : List Process) → Grows b (by_places.processes_step b ps)
processes_grow b [] = grows_none b
processes_grow b (p ∷ ps) = grows_more b (by_places.process_step b p) (by_places.processes_step (by_places.process_step b p) ps) (process_grows b p) (processes_grow (by_places.process_step b p) ps)

-- one more process, at a place
module _ (ps : List Process) (at : ℕ) (p : Process) (h : at < length ps) (e : p ≡ get_or ps at p) where
  next : drop at ps ≡ p ∷ drop (suc at) ps
  next = drop-cons ps at p h ∙ ap (λ q. q ∷ drop (suc at) ps) (sym e)

  pub process_goes : (b b' all : Building) → b' ≡ by_places.process_step b p → by_places.processes_step b (drop at ps) ≡ all → by_places.processes_step b' (drop (at + 1) ps) ≡ all
  process_goes b b' all made so = (λ i. by_places.processes_step (made i) (drop (add-one at i) ps)) ∙ ap (by_places.processes_step b) (sym next) ∙ so

  pub process_over : (b all : Building) → by_places.processes_step b (drop at ps) ≡ all → PassesLimit (by_places.process_step b p) → PassesLimit all
  process_over b all so over =
      let then = by_places.process_step b p in
      subst PassesLimit (ap (by_places.processes_step b) (sym next) ∙ so) (over_later then (by_places.processes_step then (drop (suc at) ps)) (processes_grow then (drop (suc at) ps)) over)
