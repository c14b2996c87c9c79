-- The processes in turn: the module in which each reset has become a level refines the module.
use Rattle.std.proofs.Common.{◌≡◌, ℕ, ◌≤◌, Bool, true, false, List, [], ◌∷◌, ◌++◌, append_assoc, length, ◌⊎◌, inl, inr, ⊎_elim, refl, sym, ◌∙◌, ap, subst, arith}
use Rattle.std.specs.Prelude.{flat_map, if◌then◌else◌, map, not}
use Rattle.std.specs.Prelude.{◌&&◌}
use Rattle.std.proofs.lemmas.List.{append-nil}
use Rattle.std.specs.List.{list_any}
use Rattle.std.proofs.lemmas.Bool.{and_parts}
use Rattle.rtl_sig.specs.declared.sig.SigBit.TheVariants.{Wire as OnWire}
use Rattle.rtl_sig.specs.declared.sig.WireBit.{WireBit}
use Rattle.rtl_ir.specs.Assigns.{case_assigns, tree_bits}
use Rattle.rtl_ir.specs.Decisions.{case_decision}
use Rattle.rtl_ir.specs.Faults.SelfReading.{reads_itself}
use Rattle.rtl_ir.specs.Faults.TwoEdges.{are_all}
use Rattle.build_laws.proofs.Staying.{SameAccesses}
use Rattle.pass_laws.proofs.Faultless.{AreFit}
use Rattle.proc_laws.proofs.RebuildProcesses.{IsGoodProcess}
use Rattle.reset_laws.proofs.AfterRace.{SameTests}
use Rattle.reset_laws.proofs.ChoiceEven.{EvenSwitches}
use Rattle.rtl_ir.specs.Flat.Place.{OfWire}
use Rattle.rtl_ir.specs.Flat.Cell as flat
use Rattle.rtl_ir.specs.Flat.Cell.{cells_rows, instances}
use Rattle.rtl_ir.specs.Flat.Driver.{Decided, Driven}
use Rattle.rtl_ir.specs.Flat.Link.{link_rows}
use Rattle.rtl_ir.specs.Flat.Memory.{memories_rows}
use Rattle.rtl_ir.specs.Flat.Pick.{no_test, pick_of}
use Rattle.rtl_ir.specs.Flat.Place.{IsOf}
use Rattle.rtl_ir.specs.Flat.Point.{bit_place}
use Rattle.rtl_ir.specs.Flat.Process.{process_rows, processes_rows, rules_rows, tree_bit_rows}
use Rattle.rtl_ir.specs.Flat.Rows.{plain_rows, rows_of}
use Rattle.rtl_ir.specs.Flat.Start.{start_of}
use Rattle.rtl_ir.specs.Flat.Tree.{design_ports}
use Rattle.rtl_ir.specs.Follow.{all_joins}
use Rattle.rtl_ir.specs.declared.follow.Join.{Join}
use Rattle.rtl_ir.specs.Ports.{ports_of}
use Rattle.rtl_ir.specs.Rules.{acting_rules}
use Rattle.rtl_ir.specs.Signals.{wire_bits}
use Rattle.rtl_ir.specs.SwitchRules.{root_by_rules}
use Rattle.rtl_ir.specs.Types.{Ports}
use Rattle.rtl_ir.specs.EventTests.{switch_test}
use Rattle.rtl_ir.specs.Scope.{with_processes}
use Rattle.rtl_ir.specs.Tree.{CaseView}
use Rattle.rtl_ir.specs.declared.module.Link.{Link}
use Rattle.rtl_ir.specs.declared.module.Module.{Module}
use Rattle.rtl_ir.specs.declared.ports.PortLine.{PortLine}
use Rattle.rtl_ir.specs.declared.process.Process.{Process}
use Rattle.rtl_ir.specs.declared.wire.Role.TheVariants.{Input}
use Rattle.net_model.proofs.Composing.{RefinesOver_refl, RefinesOver_trans}
use Rattle.net_model.proofs.Members.{In-cases, In-left, In-map, In-right}
use Rattle.net_model.specs.Lists.{Distinct, In}
use Rattle.net_model.specs.Proc.Reset.{active_leaves, are_unread, cell_reads, control_reads, is_free, outer_reads, output_bits, process_reads, proc_reset_of, reset_process, resets_step, switches_at, with_level}
use Rattle.net_model.specs.Refine.{IsWellDriven, RefinesOver, with_body}
use Rattle.net_model.specs.Within.{Each, ProcessIn}
use Rattle.pass_laws.proofs.Alone.{links_even}
use Rattle.pass_laws.proofs.Faultless.{no_faults}
use Rattle.pass_laws.specs.Bits.{cells_bits}
use Rattle.build_laws.proofs.CountingBits.{AreBelow}
use Rattle.build_laws.proofs.RebuildBits.{driven_below, not_both}
use Rattle.proc_laws.proofs.RebuildFaults.{drives_count}
use Rattle.proc_laws.specs.Ready.{AreRuled, HasItsBits, HaveNoStarts, IsBitOf, IsReady}
use Rattle.build_laws.specs.Rebuilds.{checked_bits, driven_bits, rules_bits}
use Rattle.reset_laws.specs.Trees.{TreesHaveBits}
use Rattle.reset_laws.proofs.AfterRace.{IsRace, edge_count, race_or}
use Rattle.reset_laws.proofs.FrameDriven.{bits_distinct, part_left, part_right, still_driven}
use Rattle.reset_laws.proofs.FrameRows.{accesses_stay, among_process, starts_stay, with_all}
use Rattle.reset_laws.proofs.FrameStep.{IsNone, nothing_goes, spot_of, step_refines}
use Rattle.reset_laws.proofs.FreeOthers.{IsUnread, unread_apart}
use Rattle.reset_laws.proofs.FreePorts.{ports_clear}
use Rattle.reset_laws.proofs.FreeReads.{in_flat}
use Rattle.reset_laws.proofs.FreeStep.{trees_go}
use Rattle.reset_laws.proofs.FreedBits.{tree_in}
use Rattle.reset_laws.proofs.ReadMemories.{from_flat}
use Rattle.reset_laws.proofs.StepOne.{IsGood, IsKept, after_ruled, after_within, agree_refl, drives_among, fit, good, starts_after, tests, writes_after, writes_before}
use Rattle.reset_laws.proofs.StepWrites.{even_of, none_begun}
use Rattle.reset_laws.proofs.TestOnce.{driven_once, wire_bit}
use Rattle.pass_laws.proofs.Once.{count_in}
use Rattle.pass_laws.proofs.Ports.{single}

module _ (ports : Ports) (m : Module) (ready : IsReady with_processes ports m) (placed : HasItsBits m) (trees : TreesHaveBits m) (no_starts : HaveNoStarts m) (ruled_all : AreRuled m) where
  -- tree bits lie within their wires, and no cell drives one
  tree_bit : (q : Process) → In q m.processes → (b : WireBit) → In b (tree_bits q.root) → IsBitOf m.wires (OnWire b)
  tree_bit q i b j =
      let l = from_flat (λ (x : Link). wire_bits x.left) (case_assigns q.root) b (tree_in q.root (ruled_all q i) b j) in
      trees q i l.0 l.1 (OnWire b) (wire_bit l.0.left b l.2)

  not_of_cells : (q : Process) → In q m.processes → (b : WireBit) → In b (tree_bits q.root) → In b (cells_bits ports m.cells) → ⊥
  not_of_cells q i b j k =
      let once = driven_once ports m ready b (tree_bit q i b j) in
      let all = drives_count ports m (links_even m.id 1 m.links (no_faults with_processes ports m ready.faultless).links) b in
      let tree = count_in b (flat_map checked_bits m.processes) (in_flat checked_bits m.processes q b i (In-left b (tree_bits q.root) _ j)) in
      absurd (omega (arith, once, all, tree, count_in b (cells_bits ports m.cells) k))

  module _ (done post : List Process) (kept : Each (IsKept m) (done ++ post)) (q : Process) (there : In q m.processes) where
    ruled : root_by_rules q.root ≡ q.root
    ruled = ruled_all q there

    within : ProcessIn (length m.wires) q
    within = ready.within.processes q there

    abbrev before : Module
    before = with_all m (done ++ q ∷ post)

    kept_q : Each (IsKept m) (done ++ q ∷ post)
    kept_q s i =
        ⊎_elim (λ l. kept s (In-left s done post l)) (λ k. ⊎_elim (λ e. subst (IsKept m) (sym e) (record { ruled = ruled; within = within })) (λ l. kept s (In-right s done post l)) k) (In-cases s done (q ∷ post) i)

    low_all : AreBelow (length m.wires) (flat_map driven_bits (done ++ q ∷ post))
    low_all = driven_below (length m.wires) (done ++ q ∷ post) (λ s i. (kept_q s i).within)

    q_in : In q (done ++ q ∷ post)
    q_in = In-right q done (q ∷ post) (inl refl)

    module _ (race : IsRace ports m (done ++ post) q) where
      abbrev r : Process
      r = with_level ports m (done ++ post) q race.reset race.lines

      abbrev after : Module
      after = with_all m (done ++ r ∷ post)

      abbrev gone : List WireBit
      gone = tree_bits q.root

      race_driven : (own : flat.Ports) → IsWellDriven own before → IsWellDriven own after
      race_driven own h =
          still_driven m done post q r (drives_among ports m ready placed trees no_starts q there ruled within (done ++ post) race) ready.named low_all own h

      module _ (own : flat.Ports) (fine : IsWellDriven own before) where
        all_once : Distinct (flat_map driven_bits (done ++ q ∷ post))
        all_once =
            bits_distinct m done post q r (drives_among ports m ready placed trees no_starts q there ruled within (done ++ post) race) ready.named low_all own fine

        -- the bits of the processes before, of this one and of those behind
        split : flat_map driven_bits (done ++ q ∷ post) ≡ flat_map driven_bits done ++ (driven_bits q ++ flat_map driven_bits post)
        split = flat_both done (q ∷ post)
          where
            flat_both : (xs ys : List Process) → flat_map driven_bits (xs ++ ys) ≡ flat_map driven_bits xs ++ flat_map driven_bits ys
            flat_both [] ys = refl
            flat_both (x ∷ xs) ys = ap (λ z. driven_bits x ++ z) (flat_both xs ys) ∙ sym (append_assoc (driven_bits x) (flat_map driven_bits xs) (flat_map driven_bits ys))

        once_split : Distinct (flat_map driven_bits done ++ (driven_bits q ++ flat_map driven_bits post))
        once_split = subst Distinct split all_once

        once_behind : Distinct (driven_bits q ++ flat_map driven_bits post)
        once_behind = part_right (flat_map driven_bits done) (driven_bits q ++ flat_map driven_bits post) once_split

        once_q : Distinct (driven_bits q)
        once_q = part_left (driven_bits q) (flat_map driven_bits post) once_behind

        distinct : Distinct (map (λ (j : Join). j.bit) (all_joins race.lines))
        distinct = subst Distinct race.bits_before (part_right gone (rules_bits (acting_rules q.syncs)) once_q)

        apart : (s : Process) → In s (done ++ post) → (b : WireBit) → In b (driven_bits s) → In b gone → ⊥
        apart s i b j k =
            let own_bit : In b (driven_bits q) = In-left b gone (rules_bits (acting_rules q.syncs)) k in
            ⊎_elim
            (λ l. not_both (flat_map driven_bits done) (driven_bits q ++ flat_map driven_bits post) once_split b (in_flat driven_bits done s b l j) (In-left b (driven_bits q) (flat_map driven_bits post) own_bit))
            (λ l. not_both (driven_bits q) (flat_map driven_bits post) once_behind b own_bit (in_flat driven_bits post s b l j))
            (In-cases s done post i)

        starts : start_of m.wires (done ++ q ∷ post) ≡ start_of m.wires (done ++ r ∷ post)
        starts =
            starts_stay done post q r m.wires (none_begun q (no_starts q there)) (none_begun r (starts_after ports m ready placed trees no_starts q there ruled within (done ++ post) race))

        accesses : SameAccesses (done ++ q ∷ post) (done ++ r ∷ post)
        accesses =
            accesses_stay done post q r (writes_before ports m ready placed trees no_starts q there ruled within (done ++ post) race) (writes_after ports m ready placed trees no_starts q there ruled within (done ++ post) race)

        g : IsGoodProcess ports m (good ports m ready placed trees no_starts q there).0 q
        g = (good ports m ready placed trees no_starts q there).1

        even : EvenSwitches q.root.switches
        even = even_of q g.even

        abbrev same_tests : SameTests ports m
        same_tests = tests ports m ready placed trees no_starts

        abbrev fits : AreFit m.cells
        fits = fit ports m ready placed trees no_starts

        q_low : AreBelow (length m.wires) (driven_bits q)
        q_low b i = low_all b (in_flat driven_bits (done ++ q ∷ post) q b q_in i)

        s_low : (s : Process) → In s (done ++ post) → AreBelow (length m.wires) (driven_bits s)
        s_low s i b j = driven_below (length m.wires) (done ++ post) (λ z k. (kept z k).within) b (in_flat driven_bits (done ++ post) s b i j)

        outer_unread : is_free ports m (done ++ post) q race.reset (all_joins race.lines) ≡ true → are_unread gone (outer_reads ports m (done ++ post)) ≡ true
        outer_unread free =
            let two = and_parts (not (list_any (λ (j : Join). are_all j.bit (active_leaves ports m q.root gone race.reset j)) (all_joins race.lines))) (are_unread gone (outer_reads ports m (done ++ post)) && are_unread gone (control_reads q)) free in
            (and_parts (are_unread gone (outer_reads ports m (done ++ post))) (are_unread gone (control_reads q)) two.1).0

        unread : is_free ports m (done ++ post) q race.reset (all_joins race.lines) ≡ true → IsUnread ports m (done ++ post) q gone
        unread free = record {
          named = ready.named;
          within = ready.within;
          others_within = λ s i. (kept s i).within;
          others_ruled = λ s i. (kept s i).ruled;
          low = λ b i. q_low b (In-left b gone (rules_bits (acting_rules q.syncs)) i);
          outer = λ b i j. unread_apart gone (outer_reads ports m (done ++ post)) (outer_unread free) b i j;
          cells = not_of_cells q there;
          apart = apart;
          driven_low = s_low;
          writes = writes_before ports m ready placed trees no_starts q there ruled within (done ++ post) race;
        }

        no_port : is_free ports m (done ++ post) q race.reset (all_joins race.lines) ≡ true → (n : PortLine) → In n (ports_of m.wires) → (at : ℕ) → IsNone m gone (OfWire n.name at)
        no_port free =
            ports_clear m gone ready.named (tree_bit q there) hidden given (single m.id [] m.wires (no_faults with_processes ports m ready.faultless).wires)
          where
            hidden : (b : WireBit) → In b gone → In b (output_bits 0 m.wires) → ⊥
            hidden b i j =
                (unread free).outer b i
                (In-right b (flat_map (λ (l : Link). wire_bits l.right) m.links) (flat_map (cell_reads ports) m.cells ++ (flat_map process_reads (done ++ post) ++ output_bits 0 m.wires))
                (In-right b (flat_map (cell_reads ports) m.cells) (flat_map process_reads (done ++ post) ++ output_bits 0 m.wires)
                (In-right b (flat_map process_reads (done ++ post)) (output_bits 0 m.wires) j)))

            given : (b : WireBit) → In b gone → (n : PortLine) → In n (ports_of m.wires) → n.role ≡ Input → IsOf n.name (spot_of m b) → ⊥
            given b i n j role of =
                let begun = start_of m.wires (done ++ q ∷ post) in
                let row : Driven = record { place = bit_place [] m.wires b; driver = Decided (pick_of no_test [] m.wires (case_decision (root_by_rules q.root) b)) } in
                let tree : In row (tree_bit_rows begun [] m.wires (root_by_rules q.root) gone) = In-map (λ (c : WireBit). record { place = bit_place [] m.wires c; driver = Decided (pick_of no_test [] m.wires (case_decision (root_by_rules q.root) c)) }) b gone i in
                let here : In row (process_rows begun [] m.wires before q) = In-left row (tree_bit_rows begun [] m.wires (root_by_rules q.root) gone) (rules_rows begun [] m.wires before (root_by_rules q.root) gone (acting_rules q.syncs)) tree in
                let all : In row (processes_rows begun [] m.wires before (done ++ q ∷ post)) = among_process begun [] m.wires before (done ++ q ∷ post) row q q_in here in
                let rows : In row (rows_of own [] before) = In-right row (cells_rows begun own [] m.wires m.cells) (plain_rows [] before) (In-right row (link_rows [] m.wires m.links) (processes_rows begun [] m.wires before (done ++ q ∷ post) ++ memories_rows [] m.wires m.cells (done ++ q ∷ post) m.memories) (In-left row (processes_rows begun [] m.wires before (done ++ q ∷ post)) (memories_rows [] m.wires m.cells (done ++ q ∷ post) m.memories) all)) in
                fine.apart [] row rows refl n j role of

        abbrev freed_root : CaseView
        freed_root = record q.root { switches = switches_at (switch_test ports m race.reset.bit) (not race.reset.level) q.root.switches }

        refine_own : RefinesOver before after own
        refine_own = by (is_free ports m (done ++ post) q race.reset (all_joins race.lines)) refl
          where
            by : (t : Bool) → is_free ports m (done ++ post) q race.reset (all_joins race.lines) ≡ t → RefinesOver before after own
            by false e =
                step_refines ports own m done post q same_tests fits even ruled race distinct starts accesses []
                (nothing_goes ports own m done post q same_tests fits even ruled race distinct starts accesses (ap (λ t. if t then freed_root else q.root) e))
            by true e =
                step_refines ports own m done post q same_tests fits even ruled race distinct starts accesses gone
                (trees_go ports own m done post q same_tests fits even ruled race distinct starts accesses e within (unread e) (ap (λ z. reads_itself z gone) (sym ruled) ∙ g.acyclic) once_q q_low (no_port e))

      race_refines : (over : flat.Ports) → RefinesOver before after over
      race_refines over = record {
        holds = λ ds es fine fine' agree.
            let own : flat.Ports = design_ports (with_body ds before es) in
            let here : IsWellDriven own before = fine.modules before (In-right before ds (before ∷ es) (inl refl)) in
            (refine_own own here).holds ds es fine fine' (agree_refl own (instances m.cells));
      }

    abbrev changed : Process
    changed = reset_process ports m (done ++ post) q (acting_rules q.syncs)

    -- a process that stays, or one with two edges
    sorts : ((changed ≡ q) × (edge_count (acting_rules q.syncs) ≤ 1)) ⊎ IsRace ports m (done ++ post) q
    sorts =
        race_or ports m (done ++ post) q (good ports m ready placed trees no_starts q there).0 (good ports m ready placed trees no_starts q there).1 ruled (tests ports m ready placed trees no_starts)

    -- what becomes of a property of processes
    pub becomes : (P : Process → Type 0) → (edge_count (acting_rules q.syncs) ≤ 1 → P q) → ((race : IsRace ports m (done ++ post) q) → P (with_level ports m (done ++ post) q race.reset race.lines)) → P changed
    becomes P h k = by sorts
      where
        by : ((changed ≡ q) × (edge_count (acting_rules q.syncs) ≤ 1)) ⊎ IsRace ports m (done ++ post) q → P changed
        by (inl e) = subst P (sym e.0) (h e.1)
        by (inr race) = subst P (sym race.process) (k race)

    pub changed_kept : IsKept m changed
    changed_kept =
        becomes (IsKept m) (λ _. record { ruled = ruled; within = within })
        (λ race. record {
          ruled = after_ruled ports m ready placed trees no_starts q there ruled within (done ++ post) race;
          within = after_within ports m ready placed trees no_starts q there ruled within (done ++ post) race;
        })

    pub one_turn : (over : flat.Ports) → IsGood over before (with_all m (done ++ changed ∷ post))
    one_turn over =
        becomes (λ z. IsGood over before (with_all m (done ++ z ∷ post)))
        (λ _. record { driven = λ own h. h; refines = RefinesOver_refl before over })
        (λ race. record { driven = race_driven race; refines = race_refines race over })

  -- all of them
  pub in_turn : (over : flat.Ports) (done post : List Process) → Each (IsKept m) done → Each (λ (q : Process). In q m.processes) post → IsGood over (with_all m (done ++ post)) (with_all m (resets_step ports m done post)) × Each (IsKept m) (resets_step ports m done post)
  in_turn over done [] kept there =
      (subst (λ z. IsGood over (with_all m z) (with_all m done)) (sym (append-nil done)) (record { driven = λ own h. h; refines = RefinesOver_refl (with_all m done) over }), kept)
  in_turn over done (q ∷ post) kept there =
      let all : Each (IsKept m) (done ++ post) = both done post kept (λ s i. original s (there s (inr i))) in
      let new : Process = reset_process ports m (done ++ post) q (acting_rules q.syncs) in
      let first = one_turn done post all q (there q (inl refl)) over in
      let rest = in_turn over (done ++ new ∷ []) post (both done (new ∷ []) kept (λ s i. ⊎_elim (λ e. subst (IsKept m) (sym e) (changed_kept done post all q (there q (inl refl)))) (λ j. absurd j) i)) (λ s i. there s (inr i)) in
      let moved : (done ++ new ∷ []) ++ post ≡ done ++ new ∷ post = append_assoc done (new ∷ []) post in
      let later : IsGood over (with_all m (done ++ new ∷ post)) (with_all m (resets_step ports m (done ++ new ∷ []) post)) = subst (λ z. IsGood over (with_all m z) (with_all m (resets_step ports m (done ++ new ∷ []) post))) moved rest.0 in (
        record {
          driven = λ own h. later.driven own (first.driven own h);
          refines = RefinesOver_trans (with_all m (done ++ q ∷ post)) (with_all m (done ++ new ∷ post)) (with_all m (resets_step ports m (done ++ new ∷ []) post)) over refl refl refl first.driven first.refines later.refines;
        },
        rest.1,
      )
    where
      original : (s : Process) → In s m.processes → IsKept m s
      original s i = record { ruled = ruled_all s i; within = ready.within.processes s i }

      both : (xs ys : List Process) → Each (IsKept m) xs → Each (IsKept m) ys → Each (IsKept m) (xs ++ ys)
      both xs ys h k s i = ⊎_elim (h s) (k s) (In-cases s xs ys i)

  pub resets_refine : (over : flat.Ports) → IsGood over m (proc_reset_of ports m) × Each (IsKept m) (proc_reset_of ports m).processes
  resets_refine over = in_turn over [] m.processes (λ s i. absurd i) (λ s i. i)
