-- Each tree bit of a process is connected to what stands for its decision.
use Rattle.std.proofs.Common.{◌≡◌, ◌≤◌, ℕ, suc, List, [], ◌∷◌, length, Some, ⊎_elim, inl, inr, refl, sym, ◌∙◌, ap, subst}
use Rattle.std.specs.Prelude.{map, slice_get, slice_index_or}
use Rattle.rtl_bits.proofs.Orders.{Below_trans}
use Rattle.rtl_bits.specs.Knowledge.{Below}
use Rattle.rtl_bits.specs.declared.bit.Bit.{Bit}
use Rattle.rtl_bits.specs.declared.bit.Bit.TheVariants.{S0, X}
use Rattle.rtl_ir.specs.Assigns.{tree_bits}
use Rattle.rtl_ir.specs.Build.{Building}
use Rattle.rtl_ir.specs.Decisions.{Leaf, after_assigns, case_decision}
use Rattle.rtl_ir.specs.Flat.Driver.{Driven, Joined}
use Rattle.rtl_ir.specs.Flat.Link.{joins}
use Rattle.rtl_ir.specs.Flat.Pick.{no_test, pick_of}
use Rattle.rtl_ir.specs.Flat.Point.{point, points}
use Rattle.rtl_ir.specs.Tree.{CaseView}
use Rattle.rtl_ir.specs.declared.process.Process.{Process}
use Rattle.rtl_sig.specs.declared.sig.SigBit.{SigBit}
use Rattle.rtl_sig.specs.declared.sig.SigBit.TheVariants.{Fixed, Wire as OnWire}
use Rattle.rtl_sig.specs.declared.sig.WireBit.{WireBit}
use Rattle.net_model.specs.Lists.{In}
use Rattle.net_model.specs.Picked.{picked}
use Rattle.net_model.specs.Proc.Mux.{Trees, process_step, processes_step, run_step, run_value, runs_step, switches_value, tree_runs}
use Rattle.net_model.specs.Refine.{IsMet}
use Rattle.net_model.specs.Valuation.{read}
use Rattle.net_model.specs.Within.{Each}
use Rattle.pass_laws.proofs.Driving.{joined_in, row_of}
use Rattle.pass_laws.proofs.Giving.{passed_on}
use Rattle.mux_laws.proofs.MatchMade.{MadeStand, none_made}
use Rattle.build_laws.proofs.Growing.{Grows, grows_both, grows_link, grows_none, met_before}
use Rattle.mux_laws.proofs.TreePlaces.{switches_find, tree_at}
use Rattle.mux_laws.proofs.TreeRead.{decided, picked_is}
use Rattle.mux_laws.proofs.TreeRuns.{tree_run, tree_runs_short}
use Rattle.mux_laws.proofs.TreeValue.{assigns_stand, switches_grow, switches_stand}
use Rattle.build_laws.proofs.Moments.{AreMet, Moment, Stands, seen, stands_long}
use Rattle.build_laws.proofs.Meeting.{BodyMet, body_before, links_last}

-- what is added for a run, runs, a process and processes
abbrev start_value : CaseView → List WireBit → List SigBit
start_value root run = run_value root.assigns run (map (λ b. Fixed X) run)

run_grows : (root : CaseView) (run : List WireBit) (t : Trees) → Grows t.building (run_step root run t).building
run_grows root run t =
    let value = switches_value run [] 0 root.switches (start_value root run) t in
    grows_both t.building value.1.building _ (switches_grow run [] 0 root.switches (start_value root run) t) (grows_link (map OnWire run) value.0 value.1.building)

runs_grow : (root : CaseView) (runs : List (List WireBit)) (t : Trees) → Grows t.building (runs_step root runs t).building
runs_grow root [] t = grows_none t.building
runs_grow root (run ∷ runs) t =
    grows_both t.building (run_step root run t).building _ (run_grows root run t) (runs_grow root runs (run_step root run t))

process_grows : (b : Building) (p : Process) → Grows b (process_step b p)
process_grows b p = runs_grow p.root (tree_runs p.root) (record { building = b; made = [] })

pub processes_grow : (b : Building) (ps : List Process) → Grows b (processes_step b ps)
processes_grow b [] = grows_none b
processes_grow b (p ∷ ps) = grows_both b (process_step b p) _ (process_grows b p) (processes_grow (process_step b p) ps)

module _ (m : Moment) where
  -- a bit of a run that is connected to what stands for it
  record IsPlace (run : List WireBit) (signal : List SigBit) (value : WireBit → Bit) (b : WireBit) : Type 0 where
    at : ℕ
    there : slice_get (map OnWire run) at ≡ Some (OnWire b)
    below : Below (value b) (seen m (slice_index_or signal at (Fixed S0)))

  place_of : (run : List WireBit) (signal : List SigBit) (value : WireBit → Bit) → Stands m run signal value → (b : WireBit) → In b run → IsPlace run signal value b
  place_of [] signal value h b i = absurd i
  place_of (c ∷ run) [] value h b i = absurd h
  place_of (c ∷ run) (s ∷ signal) value h b (inl e) =
      record { at = 0; there = ap (λ z. Some (OnWire z)) (sym e); below = subst (λ z. Below (value z) (seen m s)) (sym e) h.0 }
  place_of (c ∷ run) (s ∷ signal) value h b (inr i) =
      let k = place_of run signal value h.1 b i in
      record { at = suc k.at; there = k.there; below = k.below }

  wires_long : (run : List WireBit) → length (map OnWire run) ≡ length run
  wires_long [] = refl
  wires_long (b ∷ run) = ap suc (wires_long run)

  connected : (run : List WireBit) (signal : List SigBit) (value : WireBit → Bit) → ((d : Driven) → In d (joins (points m.path m.wires (map OnWire run)) (points m.path m.wires signal)) → IsMet d m.time m.has) → Stands m run signal value → (b : WireBit) → In b run → Below (value b) (seen m (OnWire b))
  connected run signal value met h b i =
      let k = place_of run signal value h b i in
      let long : length (map OnWire run) ≡ length signal = wires_long run ∙ sym (stands_long m run signal value h) in
      Below_trans _ _ _ (passed_on _ _ k.below)
      (met (row_of m.path m.wires b (Joined (point m.path m.wires (slice_index_or signal k.at (Fixed S0))))) (joined_in m.path m.wires (map OnWire run) signal long k.at b k.there))

  module _ (root : CaseView) where
    unknown_stands : (run : List WireBit) → Stands m run (map (λ b. Fixed X) run) (λ b. decided m (Leaf (Fixed X)))
    unknown_stands [] = tt
    unknown_stands (b ∷ run) = (tt, unknown_stands run)

    -- what the switches make of a run
    run_stands : (run : List WireBit) → length run ≤ 4096 → (t : Trees) → BodyMet m (run_step root run t).building → MadeStand m (switches_find root.switches) t.made
        → Stands m run (switches_value run [] 0 root.switches (start_value root run) t).0 (λ b. decided m (case_decision root b)) × MadeStand m (switches_find root.switches) (run_step root run t).made
    run_stands run few t met made =
        let value = switches_value run [] 0 root.switches (start_value root run) t in
        let before : AreMet m value.1.building.body.cells = met_before m value.1.building _ (grows_link (map OnWire run) value.0 value.1.building) met.cells in
        let first = assigns_stand m (switches_find root.switches) run few root.assigns run (map (λ b. Fixed X) run) (λ b. Leaf (Fixed X)) (unknown_stands run) in
        switches_stand m (switches_find root.switches) run few [] 0 root.switches (start_value root run) t (λ b. after_assigns root.assigns b (Leaf (Fixed X))) (tree_at root.switches) before made first

    run_met : (run : List WireBit) → length run ≤ 4096 → (t : Trees) → BodyMet m (run_step root run t).building → MadeStand m (switches_find root.switches) t.made → (b : WireBit) → In b run → Below (decided m (case_decision root b)) (seen m (OnWire b))
    run_met run few t met made b i =
        let value = switches_value run [] 0 root.switches (start_value root run) t in
        connected run value.0 (λ c. decided m (case_decision root c)) (links_last m value.1.building.body.links (record { left = map OnWire run; right = value.0 }) met.links) (run_stands run few t met made).0 b i

    runs_met : (runs : List (List WireBit)) → Each (λ run. length run ≤ 4096) runs → (t : Trees) → BodyMet m (runs_step root runs t).building → MadeStand m (switches_find root.switches) t.made → (run : List WireBit) → In run runs → (b : WireBit) → In b run → Below (decided m (case_decision root b)) (seen m (OnWire b))
    runs_met [] few t met made run i b j = absurd i
    runs_met (r ∷ runs) few t met made run i b j =
        let next : Trees = run_step root r t in
        let here : BodyMet m next.building = body_before m next.building _ (runs_grow root runs next) met in
        let short : length r ≤ 4096 = few r (inl refl) in
        ⊎_elim
        (λ e. run_met r short t here made b (subst (In b) e j))
        (λ l. runs_met runs (λ x k. few x (inr k)) next met (run_stands r short t here made).1 run l b j)
        i

  -- each tree bit of one of the processes
  processes_met : (b : Building) (ps : List Process) → BodyMet m (processes_step b ps) → (p : Process) → In p ps → (x : WireBit) → In x (tree_bits p.root) → Below (decided m (case_decision p.root x)) (seen m (OnWire x))
  processes_met b [] met p i x j = absurd i
  processes_met b (q ∷ ps) met p (inl e) x j =
      let here : BodyMet m (process_step b q) = body_before m (process_step b q) _ (processes_grow (process_step b q) ps) met in
      let k : In x (tree_bits q.root) = subst (λ (z : Process). In x (tree_bits z.root)) e j in
      let r = tree_run q.root x k in
      subst (λ (z : Process). Below (decided m (case_decision z.root x)) (seen m (OnWire x))) (sym e) (runs_met q.root (tree_runs q.root) (tree_runs_short q.root) (record { building = b; made = [] }) here (none_made m (switches_find q.root.switches)) r.run r.there x r.bit)
  processes_met b (q ∷ ps) met p (inr i) x j = processes_met (process_step b q) ps met p i x j

  -- and so what the flat netlist picks for it
  pub picks_met : (b : Building) (ps : List Process) → BodyMet m (processes_step b ps) → (p : Process) → In p ps → (x : WireBit) → In x (tree_bits p.root) → Below (picked m.has X (pick_of no_test m.path m.wires (case_decision p.root x))) (seen m (OnWire x))
  picks_met b ps met p i x j =
      subst (λ z. Below z (seen m (OnWire x))) (sym (picked_is m (read m.has) X (case_decision p.root x))) (processes_met b ps met p i x j)
