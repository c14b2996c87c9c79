-- The module in which each reset has become a level may be given on.
use Rattle.std.proofs.Common.{◌≡◌, ◌≤◌, List, [], ◌∷◌, ◌++◌, append_assoc, length, inl, inr, ⊎_elim, refl, sym, ◌∙◌, ap, subst, arith}
use Rattle.std.specs.Prelude.{flat_map, map}
use Rattle.std.proofs.lemmas.List.{append-nil}
use Rattle.rtl_sig.specs.declared.sig.WireBit.{WireBit}
use Rattle.rtl_ir.specs.Fault.{Fault}
use Rattle.rtl_ir.specs.Faults.Processes.{faults_of_process, process_faults}
use Rattle.rtl_ir.specs.Rules.{acting_rules}
use Rattle.rtl_ir.specs.Scope.{with_processes}
use Rattle.rtl_ir.specs.Types.{Ports}
use Rattle.rtl_ir.specs.WritePorts.{write_lines}
use Rattle.rtl_ir.specs.declared.module.Module.{Module}
use Rattle.rtl_ir.specs.declared.process.Process.{Process}
use Rattle.rtl_ir.specs.declared.wire.Wire.{Wire}
use Rattle.net_model.proofs.Members.{In-cases}
use Rattle.net_model.specs.Lists.{Distinct, In}
use Rattle.net_model.specs.Proc.Reset.{proc_reset_of, reset_process, resets_step}
use Rattle.net_model.specs.Within.{Each, ProcessIn}
use Rattle.pass_laws.proofs.Counting.{count, count_more}
use Rattle.pass_laws.proofs.Faultless.{no_faults, none_left, none_right}
use Rattle.build_laws.proofs.CountingBits.{among, fewer}
use Rattle.proc_laws.proofs.RebuildFaults.{still_ready}
use Rattle.proc_laws.proofs.RebuildProcesses.{IsGoodProcess, good_of, of_good}
use Rattle.proc_laws.specs.Ready.{AreRuled, HasItsBits, HaveNoStarts, IsReady}
use Rattle.build_laws.specs.Rebuilds.{AreAmong, Rebuilds, checked_bits, driven_bits, rebuilt}
use Rattle.reset_laws.specs.Trees.{TreesHaveBits}
use Rattle.reset_laws.proofs.AfterRace.{edge_count}
use Rattle.reset_laws.proofs.FormTurn.{IsTurn, stays, turn}
use Rattle.reset_laws.proofs.FrameRows.{with_all}
use Rattle.reset_laws.proofs.StepOne.{IsKept}
use Rattle.reset_laws.proofs.StepTurn.{becomes}

-- processes in the places of others
abbrev pub Turns : Ports → Module → List Process → List Process → Type 0
Turns ports m [] [] = Unit {0}
Turns ports m (q ∷ qs) (s ∷ ss) = IsTurn ports m q s × Turns ports m qs ss
Turns ports m [] (s ∷ ss) = ⊥
Turns ports m (q ∷ qs) [] = ⊥

-- what is so of each that goes for another one
pub each_turn : (ports : Ports) (m : Module) (P : Process → Type 0) → ((q s : Process) → IsTurn ports m q s → P s) → (qs ss : List Process) → Turns ports m qs ss → Each P ss
each_turn ports m P h [] [] t s i = absurd i
each_turn ports m P h (q ∷ qs) (z ∷ ss) t s (inl e) = subst P (sym e) (h q z t.0)
each_turn ports m P h (q ∷ qs) (z ∷ ss) t s (inr i) = each_turn ports m P h qs ss t.1 s i
each_turn ports m P h [] (z ∷ ss) t s i = absurd t
each_turn ports m P h (q ∷ qs) [] t s i = absurd t

-- the bits that they drive
turns_few : (ports : Ports) (m : Module) (f : Process → List WireBit) → ((q s : Process) → IsTurn ports m q s → AreAmong (f s) (f q)) → (x : WireBit) (qs ss : List Process) → Turns ports m qs ss → count x (flat_map f ss) ≤ count x (flat_map f qs)
turns_few ports m f h x [] [] t = omega arith
turns_few ports m f h x (q ∷ qs) (s ∷ ss) t =
    omega (arith, count_more x (f s) (flat_map f ss), count_more x (f q) (flat_map f qs), fewer (f s) (f q) (h q s t.0) x, turns_few ports m f h x qs ss t.1)
turns_few ports m f h x [] (s ∷ ss) t = absurd t
turns_few ports m f h x (q ∷ qs) [] t = absurd t

module _ (ports : Ports) (m : Module) (ready : IsReady with_processes ports m) (placed : HasItsBits m) (trees : TreesHaveBits m) (no_starts : HaveNoStarts m) (ruled_all : AreRuled m) where
  original : (q : Process) → In q m.processes → IsKept m q
  original q i = record { ruled = ruled_all q i; within = ready.within.processes q i }

  one : (done post : List Process) (kept : Each (IsKept m) (done ++ post)) (q : Process) (i : In q m.processes) → IsTurn ports m q (reset_process ports m (done ++ post) q (acting_rules q.syncs))
  one done post kept q i =
      becomes ports m ready placed trees no_starts ruled_all done post kept q i (IsTurn ports m q)
      (λ e. stays ports m q (original q i) (no_starts q i) e (placed.updates q i) (trees q i))
      (λ race. turn ports m ready placed trees no_starts q i (ruled_all q i) (ready.within.processes q i) (done ++ post) race)

  both : (xs ys : List Process) → Each (IsKept m) xs → Each (IsKept m) ys → Each (IsKept m) (xs ++ ys)
  both xs ys h k s i = ⊎_elim (h s) (k s) (In-cases s xs ys i)

  turns_from : (done post : List Process) → Each (IsKept m) done → Each (λ (q : Process). In q m.processes) post → (new : List Process) × (resets_step ports m done post ≡ done ++ new) × Turns ports m post new
  turns_from done [] kept there = ([], sym (append-nil done), tt)
  turns_from done (q ∷ post) kept there =
      let all : Each (IsKept m) (done ++ post) = both done post kept (λ s i. original s (there s (inr i))) in
      let new : Process = reset_process ports m (done ++ post) q (acting_rules q.syncs) in
      let first = one done post all q (there q (inl refl)) in
      let rest = turns_from (done ++ new ∷ []) post (both done (new ∷ []) kept (λ s i. ⊎_elim (λ e. subst (IsKept m) (sym e) first.kept) (λ j. absurd j) i)) (λ s i. there s (inr i)) in
      (new ∷ rest.0, rest.1 ∙ append_assoc done (new ∷ []) rest.0, (first, rest.2))

  -- of the whole module
  pub turns : Turns ports m m.processes (proc_reset_of ports m).processes
  turns =
      let z = turns_from [] m.processes (λ s i. absurd i) (λ s i. i) in
      subst (Turns ports m m.processes) (sym z.1) z.2

  abbrev changed : List Process
  changed = (proc_reset_of ports m).processes

  -- they have no faults
  turned_faults : (earlier before : List Process) → flat_map write_lines before ≡ flat_map write_lines earlier → (qs ss : List Process) → Turns ports m qs ss → process_faults with_processes ports m earlier qs ≡ [] → process_faults with_processes ports (with_all m changed) before ss ≡ []
  turned_faults earlier before same [] [] t e = refl
  turned_faults earlier before same (q ∷ qs) (s ∷ ss) t e =
      let here : List Fault = faults_of_process with_processes ports m earlier q in
      let later : List Fault = process_faults with_processes ports m (earlier ++ q ∷ []) qs in
      let g : IsGoodProcess ports m (flat_map write_lines earlier) s = t.0.good (flat_map write_lines earlier) (good_of ports m earlier q (none_left here later e)) in
      let h : IsGoodProcess ports m (flat_map write_lines before) s = subst (λ z. IsGoodProcess ports m z s) (sym same) g in
      let first : faults_of_process with_processes ports (with_all m changed) before s ≡ [] = of_good ports (with_all m changed) before s (record { narrow = h.narrow; even = h.even; wires = h.wires; rules = h.rules; acyclic = h.acyclic; starts = h.starts; edges = h.edges; lines = h.lines }) in
      let rest = turned_faults (earlier ++ q ∷ []) (before ++ s ∷ []) (more before s ∙ (λ i. same i ++ (t.0.lines i ++ [])) ∙ sym (more earlier q)) qs ss t.1 (none_right here later e) in
      λ i. first i ++ rest i
    where
      more : (xs : List Process) (x : Process) → flat_map write_lines (xs ++ x ∷ []) ≡ flat_map write_lines xs ++ (write_lines x ++ [])
      more [] x = refl
      more (y ∷ xs) x = ap (λ z. write_lines y ++ z) (more xs x) ∙ sym (append_assoc (write_lines y) (flat_map write_lines xs) (write_lines x ++ []))
  turned_faults earlier before same [] (s ∷ ss) t e = absurd t
  turned_faults earlier before same (q ∷ qs) [] t e = absurd t

  -- the module with nothing added
  nothing : rebuilt [] [] [] changed m ≡ with_all m changed
  nothing = λ i. record m { wires = append-nil m.wires i; cells = append-nil m.cells i; links = append-nil m.links i; processes = changed }

  rebuilds : Rebuilds ports m [] [] [] changed
  rebuilds = record {
    inner = λ w i. absurd i;
    named = subst (λ ws. Distinct (map (λ (w : Wire). w.name) ws)) (sym (append-nil m.wires)) ready.named;
    plain = refl;
    cells = λ c i. absurd i;
    links = λ l i. absurd i;
    processes = subst (λ z. process_faults with_processes ports z [] changed ≡ []) (sym nothing) (turned_faults [] [] refl m.processes changed turns (no_faults with_processes ports m ready.faultless).processes);
    cells_within = λ c i. absurd i;
    links_within = λ l i. absurd i;
    processes_within = subst (λ ws. Each (ProcessIn (length ws)) changed) (sym (append-nil m.wires)) (each_turn ports m (ProcessIn (length m.wires)) (λ q s t. t.kept.within) m.processes changed turns);
    checked = among (flat_map checked_bits changed) (flat_map checked_bits m.processes) (λ x. turns_few ports m checked_bits (λ q s t. t.checked) x m.processes changed turns);
    driven = among (flat_map driven_bits changed) (flat_map driven_bits m.processes) (λ x. turns_few ports m driven_bits (λ q s t. t.driven) x m.processes changed turns);
  }

  pub reset_ready : IsReady with_processes ports (proc_reset_of ports m)
  reset_ready =
      subst (IsReady with_processes ports) nothing (still_ready ports m [] [] [] changed ready rebuilds)

  pub reset_placed : HasItsBits (proc_reset_of ports m)
  reset_placed = record {
    pins = placed.pins;
    updates = each_turn ports m _ (λ q s t. t.updates) m.processes changed turns;
  }

  pub reset_trees : TreesHaveBits (proc_reset_of ports m)
  reset_trees = each_turn ports m _ (λ q s t. t.trees) m.processes changed turns

  pub reset_starts : HaveNoStarts (proc_reset_of ports m)
  reset_starts = each_turn ports m _ (λ q s t. t.starts) m.processes changed turns

  pub reset_edges : Each (λ (s : Process). edge_count (acting_rules s.syncs) ≤ 1) (proc_reset_of ports m).processes
  reset_edges = each_turn ports m _ (λ q s t. t.edges) m.processes changed turns
