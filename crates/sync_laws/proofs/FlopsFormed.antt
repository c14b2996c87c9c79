-- The module with flip-flops and latches in the place of rules, without what rules write: it has no fault, and no bit gets a
-- second driver.
use Rattle.std.proofs.Common.{◌≡◌, ◌≤◌, ℕ, ◌+◌, Bool, false, List, [], ◌∷◌, ◌++◌, length, inl, inr, refl, sym, ◌∙◌, ap, subst, append-nil, arith}
use Rattle.std.specs.Prelude.{◌||◌, flat_map, map}
use Rattle.std.specs.List.{list_any}
use Rattle.std.proofs.lemmas.Bool.{or_parts}
use Rattle.cell_types.specs.declared.kind.CellKind.TheVariants.{Storage}
use Rattle.cell_types.specs.declared.pin_name.PinName.TheVariants.{Q}
use Rattle.rtl_sig.specs.declared.sig.WireBit.{WireBit}
use Rattle.rtl_ir.specs.Assigns.{case_assigns, tree_bits}
use Rattle.rtl_ir.specs.Build.{building_of}
use Rattle.rtl_ir.specs.Faults.Links.{is_uneven}
use Rattle.rtl_ir.specs.Faults.ProcessLimits.{memory_lines, passes_limit, switches_pass, switches_uneven, update_lines}
use Rattle.rtl_ir.specs.Flat.Cell.{Ports as FlatPorts, instance_of, instances, listed}
use Rattle.rtl_ir.specs.Scope.{with_processes}
use Rattle.rtl_ir.specs.Signals.{has_constant}
use Rattle.rtl_ir.specs.Types.{Ports, cell_type}
use Rattle.rtl_ir.specs.WritePorts.{EventLine}
use Rattle.rtl_ir.specs.declared.cell.Cell.{Cell}
use Rattle.rtl_ir.specs.declared.module.Link.{Link}
use Rattle.rtl_ir.specs.declared.module.Module.{Module}
use Rattle.rtl_ir.specs.declared.process.Process.{Process}
use Rattle.rtl_ir.specs.declared.process.WriteLine.{WriteLine}
use Rattle.net_model.proofs.Members.{In-mapped}
use Rattle.net_model.proofs.Ranges.{each_more, each_none}
use Rattle.net_model.specs.Lists.{Distinct, In}
use Rattle.net_model.specs.Refine.{IsWellDriven}
use Rattle.net_model.specs.Within.{CellIn, Each, LinkIn, ProcessIn, RuleIn}
use Rattle.map_laws.proofs.FreshWires.{names_of}
use Rattle.pass_laws.proofs.Alone.{library_faultless}
use Rattle.pass_laws.proofs.Counting.{count, count_more}
use Rattle.pass_laws.proofs.Faultless.{no_faults, type_is}
use Rattle.pass_laws.proofs.Outputs.{output_bits}
use Rattle.pass_laws.specs.Bits.{cells_bits, pin_bits}
use Rattle.pass_laws.specs.Replaces.{IsEven, IsFaultless}
use Rattle.build_laws.proofs.CountingBits.{among}
use Rattle.proc_laws.proofs.CountingRules.{driven_checked}
use Rattle.proc_laws.proofs.RebuildDriven.{instances_stay, still_driven}
use Rattle.proc_laws.proofs.RebuildFaults.{still_ready}
use Rattle.proc_laws.proofs.RebuildProcesses.{IsGoodProcess, each_good, none_bad}
use Rattle.proc_laws.specs.Ready.{IsReady}
use Rattle.build_laws.specs.Rebuilds.{Rebuilds, checked_bits, driven_bits, rebuilt}
use Rattle.proc_laws.specs.Kinds.{HaveNoAlways, HaveNoTwoEdges}
use Rattle.sync_laws.proofs.GoodRules.{all_whole, rule_bits, without_rules}
use Rattle.sync_laws.proofs.Parts.{Part, all_parts, cells_from, named}
use Rattle.sync_laws.proofs.RuleParts.{AreWhole}
use Rattle.sync_laws.proofs.StoreParts.{IsStorePart, part_bits}

-- the cells of whole parts
module _ (count : ℕ) where
  cells_free : (n : ℕ) (qs : List Part) → Each (IsStorePart count) qs → instances (cells_from n qs) ≡ []
  cells_free n [] h = refl
  cells_free n (q ∷ qs) h =
      (λ i. listed (instance_of (named q n) (((h q (inl refl)).whole n).own i)) ++ cells_free (n + 1) qs (λ x j. h x (inr j)) i)

  pub cells_each : (P : Cell → Type 0) (n : ℕ) (qs : List Part) → ((q : Part) → In q qs → (k : ℕ) → P (named q k)) → Each P (cells_from n qs)
  cells_each P n [] h = each_none P
  cells_each P n (q ∷ qs) h =
      each_more P (named q n) (cells_from (n + 1) qs) (h q (inl refl) n) (cells_each P (n + 1) qs (λ x i. h x (inr i)))

  module _ (ports : Ports) where
    cell_bits_are : (q : Part) (is : IsStorePart count q) (n : ℕ) → pin_bits (cell_type ports (named q n).kind_name) (named q n).pins ≡ part_bits q
    cell_bits_are q is n =
        ap (λ t. pin_bits t (named q n).pins) (type_is ports (named q n) (Storage is.kind) (is.whole n).own)
        ∙ output_bits (Storage is.kind) (named q n) refl (is.whole n).shape Q refl

    cells_bits_are : (n : ℕ) (qs : List Part) → Each (IsStorePart count) qs → cells_bits ports (cells_from n qs) ≡ flat_map part_bits qs
    cells_bits_are n [] h = refl
    cells_bits_are n (q ∷ qs) h =
        λ i. cell_bits_are q (h q (inl refl)) n i ++ cells_bits_are (n + 1) qs (λ x j. h x (inr j)) i

-- a process without rules has no faults where it had none
module _ (ports : Ports) (m n : Module) where
  pub still_good : (before after : List EventLine) (q : Process) → IsGoodProcess ports m before q → IsGoodProcess ports n after (without_rules q)
  still_good before after q g =
      let wide : WriteLine → Bool = λ (l : WriteLine). passes_limit l.value in
      let constant : Link → Bool = λ (l : Link). has_constant l.left in
      let three = or_parts ((switches_uneven q.root.switches || list_any is_uneven (case_assigns q.root)) || list_any is_uneven (update_lines q)) _ g.even in
      let two = or_parts (switches_uneven q.root.switches || list_any is_uneven (case_assigns q.root)) (list_any is_uneven (update_lines q)) three.0 in
      record {
        narrow = ap (λ t. t || false) (or_parts (switches_pass q.root.switches) (list_any wide (memory_lines q)) g.narrow).0;
        even = ap (λ t. (t || false) || false) two.0;
        wires = ap (λ t. t || false) (or_parts (list_any constant (case_assigns q.root)) (list_any constant (update_lines q)) g.wires).0;
        rules = refl;
        acyclic = g.acyclic;
        starts = refl;
        edges = refl;
        lines = refl;
      }

-- what is driven is what was
rules_count : (x : WireBit) (ps : List Process) → count x (flat_map rule_bits ps) + count x (flat_map checked_bits (map without_rules ps)) ≤ count x (flat_map checked_bits ps)
rules_count x [] = omega arith
rules_count x (p ∷ ps) =
    let a = count_more x (rule_bits p) (flat_map rule_bits ps) in
    let b = count_more x (checked_bits (without_rules p)) (flat_map checked_bits (map without_rules ps)) in
    let c = count_more x (checked_bits p) (flat_map checked_bits ps) in
    let d = count_more x (tree_bits p.root) [] in
    let e = count_more x (tree_bits p.root) (rule_bits p) in
    omega (arith, a, b, c, d, e, driven_checked x p, rules_count x ps)

rules_driven : (x : WireBit) (ps : List Process) → count x (flat_map rule_bits ps) + count x (flat_map driven_bits (map without_rules ps)) ≤ count x (flat_map driven_bits ps)
rules_driven x [] = omega arith
rules_driven x (p ∷ ps) =
    let a = count_more x (rule_bits p) (flat_map rule_bits ps) in
    let b = count_more x (driven_bits (without_rules p)) (flat_map driven_bits (map without_rules ps)) in
    let c = count_more x (driven_bits p) (flat_map driven_bits ps) in
    let d = count_more x (tree_bits p.root) [] in
    let e = count_more x (tree_bits p.root) (rule_bits p) in
    omega (arith, a, b, c, d, e, rules_driven x ps)

module _ (ports : Ports) (m : Module) (ready : IsReady with_processes ports m) (acts : HaveNoAlways m) (edges : HaveNoTwoEdges m) where
  abbrev pub changed : List Process
  changed = map without_rules m.processes

  abbrev pub new : List Cell
  new = cells_from (building_of m).next (all_parts m)

  same_wires : m.wires ≡ m.wires ++ []
  same_wires = sym (append-nil m.wires)

  whole : AreWhole (length m.wires) (all_parts m) (flat_map rule_bits m.processes)
  whole = all_whole ports m ready acts edges

  -- the bits that are driven
  drives : (f : Process → List WireBit) → ((x : WireBit) → count x (flat_map rule_bits m.processes) + count x (flat_map f (map without_rules m.processes)) ≤ count x (flat_map f m.processes)) → (x : WireBit) → count x (cells_bits ports new ++ ([] ++ flat_map f changed)) ≤ count x (flat_map f m.processes)
  drives f h x =
      let cells = ap (count x) (cells_bits_are (length m.wires) ports (building_of m).next (all_parts m) whole.whole ∙ whole.bits) in
      omega (arith, cells, count_more x (cells_bits ports new) (flat_map f changed), h x)

  process_in : (q : Process) → ProcessIn (length m.wires) q → ProcessIn (length m.wires) (without_rules q)
  process_in q h = record { assigns = h.assigns; switches = h.switches; syncs = each_none (RuleIn (length m.wires)) }

  pub rebuilds : Rebuilds ports m [] new [] changed
  rebuilds = record {
    inner = λ w i. absurd i;
    named = subst (λ ws. Distinct (names_of ws)) same_wires ready.named;
    plain = cells_free (length m.wires) (building_of m).next (all_parts m) whole.whole;
    cells = cells_each (length m.wires) (IsFaultless ports) (building_of m).next (all_parts m) (λ q i k.
        let is : IsStorePart (length m.wires) q = whole.whole q i in
        library_faultless ports (named q k) (Storage is.kind) (is.whole k).own refl (is.whole k).shape (is.whole k).output);
    links = each_none IsEven;
    processes = none_bad ports (rebuilt [] new [] changed m) [] changed
        (λ before q i.
        let f = In-mapped without_rules q m.processes i in
        let good = each_good ports m [] m.processes (no_faults with_processes ports m ready.faultless).processes f.0 f.1 in
        subst (IsGoodProcess ports (rebuilt [] new [] changed m) before) (sym f.2) (still_good ports m (rebuilt [] new [] changed m) good.0 before f.0 good.1));
    cells_within = subst (λ ws. Each (CellIn (length ws)) new) same_wires
        (cells_each (length m.wires) (CellIn (length m.wires)) (building_of m).next (all_parts m) (λ q i k. ((whole.whole q i).whole k).within));
    links_within = each_none (LinkIn (length (m.wires ++ [])));
    processes_within = subst (λ ws. Each (ProcessIn (length ws)) changed) same_wires
        (λ q i. let f = In-mapped without_rules q m.processes i in subst (ProcessIn (length m.wires)) (sym f.2) (process_in f.0 (ready.within.processes f.0 f.1)));
    checked = among _ _ (drives checked_bits (λ x. rules_count x m.processes));
    driven = among _ _ (drives driven_bits (λ x. rules_driven x m.processes));
  }

  pub flops_driven : (over : FlatPorts) → IsWellDriven over m → IsWellDriven over (rebuilt [] new [] changed m)
  flops_driven over h = still_driven ports m [] new [] changed ready.within rebuilds over h

  pub flops_instances : instances m.cells ≡ instances (m.cells ++ new)
  flops_instances = instances_stay ports m [] new [] changed rebuilds

  pub flops_ready : IsReady with_processes ports (rebuilt [] new [] changed m)
  flops_ready = still_ready ports m [] new [] changed ready rebuilds
