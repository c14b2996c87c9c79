-- What a process is that goes for another one of the module, where its reset has become a level.
use Rattle.std.proofs.Common.{◌≡◌, ℕ, ◌≤◌, Bool, false, ◌||◌, List, [], ◌∷◌, ◌++◌, length, inl, inr, ⊎_elim, refl, sym, ◌∙◌, ap, subst, arith}
use Rattle.std.specs.Prelude.{flat_map, map, not, ◌==◌}
use Rattle.std.specs.List.{list_all, list_any}
use Rattle.std.proofs.lemmas.Bool.{or_parts}
use Rattle.rtl_sig.specs.declared.sig.SigBit.{SigBit}
use Rattle.rtl_sig.specs.declared.sig.SigBit.TheVariants.{Fixed, Wire as OnWire}
use Rattle.rtl_sig.specs.declared.sig.WireBit.{WireBit}
use Rattle.rtl_ir.specs.Assigns.{case_assigns, left_bits, switches_assigns, tree_bits}
use Rattle.rtl_ir.specs.Decisions.{expanded, leaves_of}
use Rattle.rtl_ir.specs.EventTests.{switch_test}
use Rattle.rtl_ir.specs.Faults.Links.{is_uneven}
use Rattle.rtl_ir.specs.Faults.ProcessLimits.{memory_lines, passes_limit, switches_pass, switches_uneven, update_lines}
use Rattle.rtl_ir.specs.Faults.Processes.{has_bad_line}
use Rattle.rtl_ir.specs.Faults.SelfReading.{assigns_read, bits_read, reads_itself, switches_read}
use Rattle.rtl_ir.specs.Faults.TwoEdges.{are_one_constant}
use Rattle.rtl_ir.specs.Follow.{all_joins, joins}
use Rattle.rtl_ir.specs.declared.follow.Join.{Join}
use Rattle.rtl_ir.specs.Rules.{acting_rules, is_init, updated_bits, updated_by}
use Rattle.rtl_ir.specs.Scope.{with_processes}
use Rattle.rtl_ir.specs.Signals.{has_constant}
use Rattle.rtl_ir.specs.SwitchRules.{root_by_rules}
use Rattle.rtl_ir.specs.Tree.{CaseView}
use Rattle.rtl_ir.specs.Types.{Ports}
use Rattle.rtl_ir.specs.WritePorts.{EventLine, write_lines}
use Rattle.rtl_ir.specs.declared.module.Link.{Link}
use Rattle.rtl_ir.specs.declared.module.Module.{Module}
use Rattle.rtl_ir.specs.declared.process.Process.{Process}
use Rattle.rtl_ir.specs.declared.process.SyncRule.{SyncRule}
use Rattle.rtl_ir.specs.declared.process.WriteLine.{WriteLine}
use Rattle.net_model.proofs.Members.{In-cases, In-left, In-mapped, In-right}
use Rattle.net_model.specs.Lists.{In}
use Rattle.net_model.specs.Proc.Reset.{reset_places, with_level}
use Rattle.net_model.specs.Within.{Each, ProcessIn}
use Rattle.pass_laws.proofs.Counting.{count, count_more}
use Rattle.build_laws.proofs.CountingBits.{among, fewer}
use Rattle.proc_laws.proofs.RebuildProcesses.{IsGoodProcess}
use Rattle.proc_laws.specs.Ready.{HasItsBits, HaveNoStarts, IsBitOf, IsReady, UpdatesHaveBits}
use Rattle.build_laws.specs.Rebuilds.{AreAmong, checked_bits, driven_bits}
use Rattle.reset_laws.specs.Trees.{TreesHaveBits}
use Rattle.reset_laws.proofs.AfterBits.{place_from}
use Rattle.reset_laws.proofs.AfterRace.{IsRace, edge_count}
use Rattle.reset_laws.proofs.FormLines.{rule_bits, rule_few, rule_lines, updated_first, updates_few}
use Rattle.reset_laws.proofs.FormRules.{edges_after, few_edges, rules_after}
use Rattle.reset_laws.proofs.FormTrees.{even_at, narrow_at, reads_before, still_acyclic}
use Rattle.reset_laws.proofs.FrameRows.{WriteNothing}
use Rattle.reset_laws.proofs.FreeReads.{acting_in, in_flat}
use Rattle.reset_laws.proofs.FreedBits.{in_tree, tree_distinct, tree_in}
use Rattle.reset_laws.proofs.FreedTrees.{bits_fewer, both, in_left, switches_fewer}
use Rattle.reset_laws.proofs.ReadLeaves.{wires_in}
use Rattle.reset_laws.proofs.ReadMemories.{from_flat}
use Rattle.reset_laws.proofs.StepOne
use Rattle.reset_laws.proofs.StepOne.{IsKept, after_ruled, after_within, by_root, drives_among, root_ruled, rule_cases, starts_after, trees_among, writes_after, writes_before}
use Rattle.reset_laws.proofs.StepWrites.{no_begin}
use Rattle.reset_laws.proofs.TestOnce.{wire_bit}
use Rattle.build_laws.proofs.CountingBits.{among_in}

-- a process that goes for another one of the module
pub record IsTurn (ports : Ports) (m : Module) (q s : Process) : Type 0 where
  pub kept : IsKept m s
  pub starts : Each (λ (z : SyncRule). is_init z.event ≡ false) s.syncs
  pub edges : edge_count (acting_rules s.syncs) ≤ 1
  pub good : (before : List EventLine) → IsGoodProcess ports m before q → IsGoodProcess ports m before s
  pub lines : write_lines s ≡ write_lines q
  pub checked : AreAmong (checked_bits s) (checked_bits q)
  pub driven : AreAmong (driven_bits s) (driven_bits q)
  pub updates : Each (UpdatesHaveBits m.wires) s.syncs
  pub trees : Each (λ (l : Link). Each (IsBitOf m.wires) l.left) (case_assigns s.root)

any_none : {A : Type 0} (test : A → Bool) (xs : List A) → ((x : A) → In x xs → test x ≡ false) → list_any test xs ≡ false
any_none test [] h = refl
any_none test (x ∷ xs) h = λ i. h x (inl refl) i || any_none test xs (λ y j. h y (inr j)) i

none_any : {A : Type 0} (test : A → Bool) (xs : List A) → list_any test xs ≡ false → (x : A) → In x xs → test x ≡ false
none_any test [] e x i = absurd i
none_any test (z ∷ xs) e x (inl f) = ap test f ∙ (or_parts (test z) (list_any test xs) e).0
none_any test (z ∷ xs) e x (inr i) = none_any test xs (or_parts (test z) (list_any test xs) e).1 x i

no_flat : {A : Type 0} (f : SyncRule → List A) (rules : List SyncRule) → Each (λ (r : SyncRule). f r ≡ []) rules → flat_map f rules ≡ []
no_flat f [] h = refl
no_flat f (r ∷ rules) h = λ i. h r (inl refl) i ++ no_flat f rules (λ z j. h z (inr j)) i

no_lines : (s : Process) → WriteNothing s.syncs → write_lines s ≡ []
no_lines s h = no_flat (λ (r : SyncRule). map (λ l. record { event = r.event; line = l }) r.writes) s.syncs (λ r i. ap (map (λ (l : WriteLine). record { event = r.event; line = l })) (h r i))

joined : (ls rs : List SigBit) (j : Join) → In j (joins ls rs) → In (OnWire j.bit) ls
joined [] rs j i = absurd i
joined (x ∷ ls) [] j i = absurd i
joined (Fixed c ∷ ls) (y ∷ rs) j i = inr (joined ls rs j i)
joined (OnWire b ∷ ls) (y ∷ rs) j (inl e) = inl (ap (λ (x : Join). OnWire x.bit) e)
joined (OnWire b ∷ ls) (y ∷ rs) j (inr i) = inr (joined ls rs j i)

module _ (ports : Ports) (m : Module) (ready : IsReady with_processes ports m) (placed : HasItsBits m) (trees : TreesHaveBits m) (no_starts : HaveNoStarts m) (q : Process) (there : In q m.processes) (ruled : root_by_rules q.root ≡ q.root) (within : ProcessIn (length m.wires) q) (others : List Process) (race : IsRace ports m others q) where
  abbrev s : Process
  s = with_level ports m others q race.reset race.lines

  abbrev leaves : Join → List SigBit
  leaves = StepOne.leaves ports m ready placed trees no_starts q there ruled within others race

  abbrev rule : SyncRule
  rule = StepOne.rule ports m ready placed trees no_starts q there ruled within others race

  abbrev root : CaseView
  root = StepOne.root ports m ready placed trees no_starts q there ruled within others race

  writes : WriteNothing s.syncs
  writes = writes_after ports m ready placed trees no_starts q there ruled within others race

  of_root : (P : CaseView → Type 0) → P root → P q.root → P s.root
  of_root = by_root ports m ready placed trees no_starts q there ruled within others race

  of_rules : (P : SyncRule → Type 0) → P rule → Each P q.syncs → Each P s.syncs
  of_rules = rule_cases ports m ready placed trees no_starts q there ruled within others race

  -- its assigns are among those that were there
  assigns_in : (l : Link) → In l (case_assigns s.root) → In l (case_assigns q.root)
  assigns_in =
      of_root (λ z. (l : Link) → In l (case_assigns z) → In l (case_assigns q.root))
      (λ l i. both q.root.assigns (switches_assigns root.switches) (switches_assigns q.root.switches) l (switches_fewer (switch_test ports m race.reset.bit) (not race.reset.level) q.root.switches l) i)
      (λ l i. i)

  -- a test that no line of its rules passes
  updates_none : (test : Link → Bool) → ((l : Link) → In l rule.updates → test l ≡ false) → list_any test (update_lines q) ≡ false → list_any test (update_lines s) ≡ false
  updates_none test h e =
      any_none test (update_lines s) (λ l i.
      let z = from_flat (λ (r : SyncRule). r.updates) s.syncs l i in
      of_rules (λ r. (x : Link) → In x r.updates → test x ≡ false) h (λ r j x k. none_any test (update_lines q) e x (in_flat (λ (y : SyncRule). y.updates) q.syncs r x j k)) z.0 z.1 l z.2)

  no_memory : memory_lines s ≡ []
  no_memory = no_flat (λ (r : SyncRule). r.writes) s.syncs writes

  reads_of : (b c : WireBit) → In c (bits_read root b) → In c (bits_read q.root b)
  reads_of b c i =
      let own : List SigBit = assigns_read b q.root.assigns in
      let before : List SigBit = switches_read b q.root.switches in
      let after : List SigBit = switches_read b root.switches in
      wires_in (own ++ before) c
      (⊎_elim
      (λ l. In-left (OnWire c) own before l)
      (λ l. In-right (OnWire c) own before (reads_before (switch_test ports m race.reset.bit) (not race.reset.level) b q.root.switches (OnWire c) l))
      (In-cases (OnWire c) own after (wire_bit (own ++ after) c i)))

  trees_in : (b : WireBit) → In b (tree_bits s.root) → In b (tree_bits q.root)
  trees_in b i = among_in (tree_bits s.root) (tree_bits q.root) (trees_among ports m ready placed trees no_starts q there ruled within others race) b i

  good_after : (before : List EventLine) → IsGoodProcess ports m before q → IsGoodProcess ports m before s
  good_after before g = record {
    narrow = λ i. of_root (λ z. switches_pass z.switches ≡ false) (narrow_at (switch_test ports m race.reset.bit) (not race.reset.level) q.root.switches narrow_q) narrow_q i || list_any (λ (l : WriteLine). passes_limit l.value) (no_memory i);
    even = λ i. ((of_root (λ z. switches_uneven z.switches ≡ false) (even_at (switch_test ports m race.reset.bit) (not race.reset.level) q.root.switches even_q.0) even_q.0 i
        || any_none is_uneven (case_assigns s.root) (λ l j. none_any is_uneven (case_assigns q.root) even_q.1.0 l (assigns_in l j)) i)
        || updates_none is_uneven (λ l j. (rule_lines leaves race.reset race.lines l j).0) even_q.1.1 i)
        || list_any (λ (l : WriteLine). not (length l.enable == length l.value)) (no_memory i);
    wires = λ i. any_none (λ (l : Link). has_constant l.left) (case_assigns s.root) (λ l j. none_any (λ (x : Link). has_constant x.left) (case_assigns q.root) wires_q.0 l (assigns_in l j)) i
        || updates_none (λ (l : Link). has_constant l.left) (λ l j. (rule_lines leaves race.reset race.lines l j).1) wires_q.1 i;
    rules = rules_after leaves race.reset race.lines race.other race.clock race.other_edge s.syncs (race.acts_after leaves) writes;
    acyclic = of_root (λ z. reads_itself (root_by_rules z) (tree_bits z) ≡ false) freed_acyclic g.acyclic;
    starts = ap (λ ls. list_all (λ (j : Join). are_one_constant (leaves_of (expanded (root_by_rules s.root) (tree_bits s.root) j.source))) (all_joins ls)) (no_begin s.syncs (starts_after ports m ready placed trees no_starts q there ruled within others race));
    edges = edges_after leaves race.reset race.lines race.other race.clock race.other_edge ports m (root_by_rules s.root) (tree_bits s.root) (acting_rules s.syncs) (race.acts_after leaves);
    lines = ap (has_bad_line false m before) (no_lines s writes);
  }
    where
      narrow_q : switches_pass q.root.switches ≡ false
      narrow_q = (or_parts (switches_pass q.root.switches) (list_any (λ (l : WriteLine). passes_limit l.value) (memory_lines q)) g.narrow).0

      even_q : (switches_uneven q.root.switches ≡ false) × ((list_any is_uneven (case_assigns q.root) ≡ false) × (list_any is_uneven (update_lines q) ≡ false))
      even_q =
          let a = or_parts ((switches_uneven q.root.switches || list_any is_uneven (case_assigns q.root)) || list_any is_uneven (update_lines q)) (list_any (λ (l : WriteLine). not (length l.enable == length l.value)) (memory_lines q)) g.even in
          let b = or_parts (switches_uneven q.root.switches || list_any is_uneven (case_assigns q.root)) (list_any is_uneven (update_lines q)) a.0 in
          let c = or_parts (switches_uneven q.root.switches) (list_any is_uneven (case_assigns q.root)) b.0 in
          (c.0, (c.1, b.1))

      wires_q : (list_any (λ (l : Link). has_constant l.left) (case_assigns q.root) ≡ false) × (list_any (λ (l : Link). has_constant l.left) (update_lines q) ≡ false)
      wires_q = or_parts (list_any (λ (l : Link). has_constant l.left) (case_assigns q.root)) (list_any (λ (l : Link). has_constant l.left) (update_lines q)) g.wires

      freed_acyclic : reads_itself (root_by_rules root) (tree_bits root) ≡ false
      freed_acyclic =
          ap (λ z. reads_itself z (tree_bits root)) (root_ruled ports m ready placed trees no_starts q there ruled within others race)
          ∙ still_acyclic q.root root (tree_bits q.root) (tree_bits root) reads_of freed_in (tree_distinct root) (ap (λ z. reads_itself z (tree_bits q.root)) (sym ruled) ∙ g.acyclic)
        where
          freed_in : (b : WireBit) → In b (tree_bits root) → In b (tree_bits q.root)
          freed_in b i =
              in_tree q.root ruled b (bits_fewer (switch_test ports m race.reset.bit) (not race.reset.level) q.root b (tree_in root (root_ruled ports m ready placed trees no_starts q there ruled within others race) b i))

  checked_after : AreAmong (checked_bits s) (checked_bits q)
  checked_after =
      among (checked_bits s) (checked_bits q) (λ x.
      let n : ℕ = count x (updated_bits q.syncs) in
      let lines : count x (left_bits race.lines) ≤ count x (updated_bits q.syncs) = omega (arith, ap (λ z. count x (left_bits z)) race.given, ap (λ z. count x (updated_by z)) race.acting, updated_first x race.first (race.second ∷ [])) in
      let few = updates_few x (count x (updated_bits q.syncs)) rule race.other (acting_rules s.syncs) (race.acts_after leaves) (omega (arith, rule_few leaves race.reset x race.lines, lines)) (omega (arith, lines, ap (λ z. count x (left_bits z)) race.other_lines)) in
      omega (arith, few, count_more x (tree_bits s.root) (updated_bits s.syncs), count_more x (tree_bits q.root) (updated_bits q.syncs), fewer (tree_bits s.root) (tree_bits q.root) (trees_among ports m ready placed trees no_starts q there ruled within others race) x))

  -- bits of lines that the reset's rule updates
  rule_has : UpdatesHaveBits m.wires rule
  rule_has l i b j = by b refl j
    where
      wire : (x : WireBit) → In (OnWire x) l.left → IsBitOf m.wires (OnWire x)
      wire x k =
          let bit : In x (left_bits rule.updates) = in_left rule.updates l x i (wires_in l.left x k) in
          let places = In-mapped (λ (z : Join). z.bit) x (reset_places leaves (all_joins race.lines)) (subst (In x) (rule_bits leaves race.reset race.lines) bit) in
          let of = place_from leaves (all_joins race.lines) places.0 places.1 in
          let line = from_flat (λ (z : Link). joins z.left z.right) race.lines of.0 of.1 in
          let here : In line.0 race.other.updates = subst (In line.0) (sym race.other_lines) line.1 in
          let has = placed.updates q there race.other (acting_in q.syncs race.other race.other_acts) line.0 here (OnWire of.0.bit) (joined line.0.left line.0.right of.0 line.2) in
          subst (λ z. IsBitOf m.wires (OnWire z)) (sym (places.2 ∙ of.2)) has

      by : (c : SigBit) → b ≡ c → In b l.left → IsBitOf m.wires b
      by (Fixed c) e k = subst (IsBitOf m.wires) (sym e) tt
      by (OnWire x) e k = subst (IsBitOf m.wires) (sym e) (wire x (subst (λ z. In z l.left) e k))

  pub turn : IsTurn ports m q s
  turn = record {
    kept = record {
      ruled = after_ruled ports m ready placed trees no_starts q there ruled within others race;
      within = after_within ports m ready placed trees no_starts q there ruled within others race;
    };
    starts = starts_after ports m ready placed trees no_starts q there ruled within others race;
    edges = few_edges leaves race.reset race.lines race.other race.clock race.other_edge (acting_rules s.syncs) (race.acts_after leaves);
    good = good_after;
    lines = no_lines s writes ∙ sym (no_lines q (writes_before ports m ready placed trees no_starts q there ruled within others race));
    checked = checked_after;
    driven = drives_among ports m ready placed trees no_starts q there ruled within others race;
    updates = of_rules (UpdatesHaveBits m.wires) rule_has (placed.updates q there);
    trees = λ l i. trees q there l (assigns_in l i);
  }

-- a process that stays
pub stays : (ports : Ports) (m : Module) (q : Process) → IsKept m q → Each (λ (z : SyncRule). is_init z.event ≡ false) q.syncs → edge_count (acting_rules q.syncs) ≤ 1 → Each (UpdatesHaveBits m.wires) q.syncs → Each (λ (l : Link). Each (IsBitOf m.wires) l.left) (case_assigns q.root) → IsTurn ports m q q
stays ports m q kept starts edges updates trees = record {
  kept = kept;
  starts = starts;
  edges = edges;
  good = λ before g. g;
  lines = refl;
  checked = λ b. omega arith;
  driven = λ b. omega arith;
  updates = updates;
  trees = trees;
}
