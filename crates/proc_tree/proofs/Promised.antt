-- What the two steps promise of a module that may be given.
use Rattle.std.proofs.Common.{◌≡◌, ◌≤◌, ℕ, Bool, true, false, List, [], ◌∷◌, if◌then◌else◌, inl, inr, length, refl, sym, subst}
use Rattle.std.specs.Prelude.{map, not}
use Rattle.rtl_ir.specs.declared.module.Module.{Module}
use Rattle.rtl_ir.specs.declared.ports.PortTable.{PortTable}
use Rattle.rtl_ir.specs.declared.process.Process.{Process}
use Rattle.rtl_ir.specs.declared.process.SyncRule.{SyncRule}
use Rattle.rtl_ir.specs.declared.wire.Role.TheVariants.{Input}
use Rattle.rtl_ir.specs.Drivers.{drive_count}
use Rattle.rtl_ir.specs.Flat.Cell as flat
use Rattle.rtl_ir.specs.Flat.Tree as tree
use Rattle.rtl_ir.specs.Ports.{ports_of}
use Rattle.rtl_ir.specs.Rules.{has_line, is_init}
use Rattle.rtl_ir.specs.Scope.{Scope, with_processes}
use Rattle.rtl_ir.specs.SwitchRules.{root_by_rules}
use Rattle.rtl_ir.specs.Types as types
use Rattle.net_model.specs.Lists.{Distinct, In}
use Rattle.net_model.specs.Refine.{IsWellDriven, RefinesOver, places_of}
use Rattle.net_model.specs.Within.{CellIn, Each, IsWithin, LinkIn, ProcessIn}
use Rattle.net_model.specs.Proc.Start.{begun_wires, proc_tree_of, ruled_process}
use Rattle.net_model.proofs.Lifted.{lifted}
use Rattle.net_model.proofs.Ranges.{RootIn, root_in}
use Rattle.net_model.proofs.Members.{In-mapped}
use Rattle.proc_laws.specs.Ready.{AreRuled, HasItsBits, HaveNoLines, HaveNoStarts, IsReady, UpdatesHaveBits}
use Rattle.proc_laws.specs.Step.{IsStep}
use Rattle.proc_tree.proofs.Faultless.{all_write}
use Rattle.proc_tree.proofs.Forming.{drives_stay, rules_among, tree_faultless}
use Rattle.proc_tree.proofs.Lines.{begun_lines, same_bits, same_length, same_names, same_ports}
use Rattle.proc_tree.proofs.Ruled.{WritesNoStart, rules_left, syncs_of}
use Rattle.proc_tree.proofs.Ruling.{root_again}
use Rattle.proc_tree.proofs.Standing.{rows_stay}
use Rattle.pass_laws.proofs.Faultless.{no_faults}

-- the rules that are left give no start values
none_begins : (rules : List SyncRule) → Each (λ (r : SyncRule). is_init r.event ≡ false) (rules_left rules)
none_begins [] x i = absurd i
none_begins (r ∷ rules) x i = by (is_init r.event) refl (none_begins rules) i
  where
    by : (t : Bool) → is_init r.event ≡ t → Each (λ (r : SyncRule). is_init r.event ≡ false) (rules_left rules) → In x (if not t then r ∷ rules_left rules else rules_left rules) → is_init x.event ≡ false
    by true e h i = h x i
    by false e h (inl here) = subst (λ (y : SyncRule). is_init y.event ≡ false) (sym here) e
    by false e h (inr later) = h x later

module _ (m : Module) where
  pub ports_stay : ports_of (proc_tree_of m).wires ≡ ports_of m.wires
  ports_stay = same_ports (begun_wires m 0 m.wires) m.wires (begun_lines m 0 m.wires)

  -- each bit still has its row
  module _ (placed : HasItsBits m) (quiet : Each WritesNoStart (syncs_of m.processes)) where
    tree_refines : (ports : flat.Ports) → RefinesOver m (proc_tree_of m) ports
    tree_refines ports = lifted m (proc_tree_of m) ports (record {
      id = refl;
      ports_same = sym ports_stay;
      children = refl;
      rows = λ p t w s before d i. s.met d (subst (In d) (sym (rows_stay ports p m placed quiet)) i);
    })

    tree_driven : (ports : flat.Ports) → IsWellDriven ports m → IsWellDriven ports (proc_tree_of m)
    tree_driven ports h = record {
      inputs = λ p. subst (λ ns. Distinct (tree.places (tree.role_points Input p ns))) (sym ports_stay) (h.inputs p);
      rows = λ p. subst (λ rows. Distinct (places_of rows)) (sym (rows_stay ports p m placed quiet)) (h.rows p);
      apart = λ p x i o n j. h.apart p x (subst (In x) (rows_stay ports p m placed quiet) i) o n (subst (In n) ports_stay j);
      instances = h.instances;
    }

  -- signals still name wires, and their bits
  process_within : (n : ℕ) (q : Process) → ProcessIn n q → ProcessIn n (ruled_process q)
  process_within n q h =
      let root : RootIn n _ = root_in n q.root (record { assigns = h.assigns; switches = h.switches }) in
      record { assigns = root.assigns; switches = root.switches; syncs = λ r i. h.syncs r (rules_among q.syncs r i) }

  within_stays : IsWithin m → IsWithin (proc_tree_of m)
  within_stays h =
      let same : length m.wires ≡ length (begun_wires m 0 m.wires) = sym (same_length (begun_wires m 0 m.wires) m.wires (begun_lines m 0 m.wires)) in
      record {
        cells = subst (λ n. Each (CellIn n) m.cells) same h.cells;
        links = subst (λ n. Each (LinkIn n) m.links) same h.links;
        processes = subst (λ n. Each (ProcessIn n) (map ruled_process m.processes)) same
            (λ q i. let f = In-mapped ruled_process q m.processes i in subst (ProcessIn (length m.wires)) (sym f.2) (process_within (length m.wires) f.0 (h.processes f.0 f.1)));
      }

  pub bits_stay : HasItsBits m → HasItsBits (proc_tree_of m)
  bits_stay h =
      let there = same_bits (begun_wires m 0 m.wires) m.wires (begun_lines m 0 m.wires) in
      record {
        pins = λ c i pin j s k. there s (h.pins c i pin j s k);
        updates = λ q i.
            let f = In-mapped ruled_process q m.processes i in
            subst (λ (q : Process). Each (UpdatesHaveBits (begun_wires m 0 m.wires)) q.syncs) (sym f.2)
            (λ r j l k s o. there s (h.updates f.0 f.1 r (rules_among f.0.syncs r j) l k s o));
      }

  module _ (scope : Scope) (takes : (p : Process) → scope.processes p ≡ true → scope.processes (ruled_process p) ≡ true) where
    pub tree_ready : (ports : types.Ports) → IsReady scope ports m → IsReady scope ports (proc_tree_of m)
    tree_ready ports h = record {
      faultless = tree_faultless scope ports m takes h.faultless;
      named = subst Distinct (sym (same_names (begun_wires m 0 m.wires) m.wires (begun_lines m 0 m.wires))) h.named;
      within = within_stays h.within;
      once = λ b. subst (λ ds. drive_count ds b ≤ 1) (sym (drives_stay scope ports m takes)) (h.once b);
    }

  -- no rule gives start values any more, and the others are as they were
  each_ruled : (P : Process → Type 0) → Each (λ (p : Process). P (ruled_process p)) m.processes → Each P (map ruled_process m.processes)
  each_ruled P h q i = let f = In-mapped ruled_process q m.processes i in subst P (sym f.2) (h f.0 f.1)

  pub are_ruled : AreRuled (proc_tree_of m)
  are_ruled = each_ruled (λ (p : Process). root_by_rules p.root ≡ p.root) (λ p i. root_again p.root)

  pub have_no_starts : HaveNoStarts (proc_tree_of m)
  have_no_starts = each_ruled (λ (p : Process). Each (λ (r : SyncRule). is_init r.event ≡ false) p.syncs) (λ p i. none_begins p.syncs)

  pub have_no_lines : HaveNoLines m → HaveNoLines (proc_tree_of m)
  have_no_lines h =
      each_ruled (λ (p : Process). Each (λ (r : SyncRule). has_line r ≡ false) p.syncs) (λ p i r j. h p i r (rules_among p.syncs r j))

-- no rule of a module that may be given writes at the start
pub quiet_all : (scope : Scope) (ports : types.Ports) (m : Module) → IsReady scope ports m → Each WritesNoStart (syncs_of m.processes)
quiet_all scope ports m h = all_write scope ports m (no_faults scope ports m h.faultless).processes

-- the two steps are one
pub tree_step : (table : PortTable) (m : Module) → HasItsBits m → IsReady with_processes (types.table_ports table.modules) m → IsStep table m (proc_tree_of m)
tree_step table m placed h =
    let quiet : Each WritesNoStart (syncs_of m.processes) = quiet_all with_processes (types.table_ports table.modules) m h in
    record {
      refines = tree_refines m placed quiet (tree.table_ports table);
      driven = tree_driven m placed quiet;
      id = refl;
      ports = sym (ports_stay m);
      instances = refl;
    }
