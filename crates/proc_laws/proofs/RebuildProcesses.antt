-- Processes without faults: what they have, and when others have none.
use Rattle.std.proofs.Common.{◌≡◌, Bool, true, false, List, [], ◌∷◌, ◌++◌, inl, inr, refl, sym, subst}
use Rattle.std.specs.Prelude.{flat_map, not, ◌||◌}
use Rattle.std.proofs.lemmas.Bool.{or_parts}
use Rattle.rtl_ir.specs.Assigns.{tree_bits}
use Rattle.rtl_ir.specs.Fault.{BadMemory, BadPort, BadProcess, Fault, Spot, TooWide, fault_if, spot}
use Rattle.rtl_ir.specs.Fault as fault
use Rattle.rtl_ir.specs.Faults.ProcessLimits.{gives_to_constant, has_uneven, is_too_wide}
use Rattle.rtl_ir.specs.Faults.Processes.{faults_of_process, has_bad_line, is_bad_process, process_faults, starts_stand}
use Rattle.rtl_ir.specs.Faults.RuleKinds.{rules_stand}
use Rattle.rtl_ir.specs.Faults.SelfReading.{reads_itself}
use Rattle.rtl_ir.specs.Faults.TwoEdges.{two_edges_stand}
use Rattle.rtl_ir.specs.Rules.{acting_rules}
use Rattle.rtl_ir.specs.Scope.{with_processes}
use Rattle.rtl_ir.specs.SwitchRules.{root_by_rules}
use Rattle.rtl_ir.specs.Types.{Ports}
use Rattle.rtl_ir.specs.WritePorts.{EventLine, write_lines}
use Rattle.rtl_ir.specs.declared.module.Module.{Module}
use Rattle.rtl_ir.specs.declared.process.Process.{Process}
use Rattle.net_model.specs.Within.{Each}
use Rattle.net_model.specs.Lists.{In}
use Rattle.pass_laws.proofs.Alone.{is_false}
use Rattle.pass_laws.proofs.Faultless.{none_left, none_right}

-- what a process without faults has
pub record IsGoodProcess (ports : Ports) (m : Module) (before : List EventLine) (q : Process) : Type 0 where
  pub narrow : is_too_wide q ≡ false
  pub even : has_uneven q ≡ false
  pub wires : gives_to_constant q ≡ false
  pub rules : rules_stand q.syncs ≡ true
  pub acyclic : reads_itself (root_by_rules q.root) (tree_bits q.root) ≡ false
  pub starts : starts_stand (root_by_rules q.root) (tree_bits q.root) q ≡ true
  pub edges : two_edges_stand ports m (root_by_rules q.root) (tree_bits q.root) (acting_rules q.syncs) ≡ true
  pub lines : has_bad_line false m before (write_lines q) ≡ false

not_false : (t : Bool) → not t ≡ false → t ≡ true
not_false true e = refl
not_false false e = absurd (cc)

module _ (ports : Ports) (m : Module) where
  pub good_of : (earlier : List Process) (q : Process) → faults_of_process with_processes ports m earlier q ≡ [] → IsGoodProcess ports m (flat_map write_lines earlier) q
  good_of earlier q e =
      let here : Spot = spot m.id q.name in
      let a : List Fault = fault_if (is_too_wide q) (TooWide here) in
      let b : List Fault = fault_if (has_uneven q) (fault.Width here) in
      let c : List Fault = fault_if (gives_to_constant q) (BadPort here) in
      let d : List Fault = fault_if (is_bad_process ports m q) (BadProcess here) in
      let f : List Fault = fault_if (has_bad_line false m (flat_map write_lines earlier) (write_lines q)) (BadMemory here) in
      let four : ((a ++ b) ++ c) ++ d ≡ [] = none_left (((a ++ b) ++ c) ++ d) f e in
      let three : (a ++ b) ++ c ≡ [] = none_left ((a ++ b) ++ c) d four in
      let two : a ++ b ≡ [] = none_left (a ++ b) c three in
      let bad = is_false (is_bad_process ports m q) (BadProcess here) (none_right ((a ++ b) ++ c) d four) in
      let stand : Bool = rules_stand q.syncs in
      let itself : Bool = reads_itself (root_by_rules q.root) (tree_bits q.root) in
      let starts : Bool = starts_stand (root_by_rules q.root) (tree_bits q.root) q in
      let edges : Bool = two_edges_stand ports m (root_by_rules q.root) (tree_bits q.root) (acting_rules q.syncs) in
      let x = or_parts ((not stand || itself) || not starts) (not edges) bad in
      let y = or_parts (not stand || itself) (not starts) x.0 in
      let z = or_parts (not stand) itself y.0 in
      record {
        narrow = is_false (is_too_wide q) (TooWide here) (none_left a b two);
        even = is_false (has_uneven q) (fault.Width here) (none_right a b two);
        wires = is_false (gives_to_constant q) (BadPort here) (none_right (a ++ b) c three);
        rules = not_false stand z.0;
        acyclic = z.1;
        starts = not_false starts y.1;
        edges = not_false edges x.1;
        lines = is_false (has_bad_line false m (flat_map write_lines earlier) (write_lines q)) (BadMemory here) (none_right (((a ++ b) ++ c) ++ d) f e);
      }

  pub of_good : (earlier : List Process) (q : Process) → IsGoodProcess ports m (flat_map write_lines earlier) q → faults_of_process with_processes ports m earlier q ≡ []
  of_good earlier q g =
      let here : Spot = spot m.id q.name in
      let bad : is_bad_process ports m q ≡ false = λ i. ((not (g.rules i) || g.acyclic i) || not (g.starts i)) || not (g.edges i) in
      λ i. (((fault_if (g.narrow i) (TooWide here) ++ fault_if (g.even i) (fault.Width here)) ++ fault_if (g.wires i) (BadPort here)) ++ fault_if (bad i) (BadProcess here)) ++ fault_if (g.lines i) (BadMemory here)

  -- each process of a module without faults is one, behind some others
  pub each_good : (earlier qs : List Process) → process_faults with_processes ports m earlier qs ≡ [] → (q : Process) → In q qs → (before : List EventLine) × IsGoodProcess ports m before q
  each_good earlier [] e q i = absurd i
  each_good earlier (p ∷ ps) e q (inl here) =
      subst (λ z. (before : List EventLine) × IsGoodProcess ports m before z) (sym here) (flat_map write_lines earlier, good_of earlier p (none_left (faults_of_process with_processes ports m earlier p) (process_faults with_processes ports m (earlier ++ p ∷ []) ps) e))
  each_good earlier (p ∷ ps) e q (inr i) =
      each_good (earlier ++ p ∷ []) ps (none_right (faults_of_process with_processes ports m earlier p) (process_faults with_processes ports m (earlier ++ p ∷ []) ps) e) q i

  -- processes that are good whatever lines stand before them have no faults together
  pub none_bad : (earlier qs : List Process) → ((before : List EventLine) → Each (IsGoodProcess ports m before) qs) → process_faults with_processes ports m earlier qs ≡ []
  none_bad earlier [] h = refl
  none_bad earlier (q ∷ qs) h =
      λ i. of_good earlier q (h (flat_map write_lines earlier) q (inl refl)) i ++ none_bad (earlier ++ q ∷ []) qs (λ before x j. h before x (inr j)) i
