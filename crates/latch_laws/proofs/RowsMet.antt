-- A module with latches in the place of bits that are always updated refines the module.
use Rattle.std.proofs.Common.{◌≡◌, true, false, List, [], ◌∷◌, length, inl, inr, ⊎_elim, refl, sym, ◌∙◌, subst}
use Rattle.std.specs.Prelude.{flat_map, map}
use Rattle.rtl_bits.specs.Knowledge.{Below}
use Rattle.rtl_bits.specs.declared.bit.Bit.{Bit}
use Rattle.rtl_bits.specs.declared.bit.Bit.TheVariants.{X}
use Rattle.rtl_ir.specs.Assigns.{tree_bits}
use Rattle.rtl_ir.specs.Build.{Building, building_of}
use Rattle.rtl_ir.specs.Decisions.{case_decision}
use Rattle.rtl_ir.specs.Faults.RuleKinds.{rules_stand}
use Rattle.rtl_ir.specs.Faults.SelfReading.{reads_itself}
use Rattle.rtl_ir.specs.Flat.Cell.{Ports, cells_rows}
use Rattle.rtl_ir.specs.Flat.Driver.{Decided, Driven}
use Rattle.rtl_ir.specs.Flat.Link.{link_rows}
use Rattle.rtl_ir.specs.Flat.Memory.{memories_rows}
use Rattle.rtl_ir.specs.Flat.Pick.{no_test, pick_of}
use Rattle.rtl_ir.specs.Flat.Place.{Path, Place}
use Rattle.rtl_ir.specs.Flat.Point.{bit_place}
use Rattle.rtl_ir.specs.Flat.Process.{process_rows, processes_rows, tree_bit_rows}
use Rattle.rtl_ir.specs.Flat.Rows.{plain_rows, rows_of}
use Rattle.rtl_ir.specs.Flat.Start.{process_starts, start_of}
use Rattle.rtl_ir.specs.Flat.Tree as flat
use Rattle.rtl_ir.specs.Follow.{all_joins}
use Rattle.rtl_ir.specs.declared.follow.Join.{Join}
use Rattle.rtl_ir.specs.Rules.{acting_rules}
use Rattle.rtl_ir.specs.Signals.{has_bit}
use Rattle.rtl_ir.specs.SwitchRules.{root_by_rules}
use Rattle.rtl_ir.specs.Types as types
use Rattle.rtl_ir.specs.declared.module.Module.{Module}
use Rattle.rtl_ir.specs.declared.ports.PortTable.{PortTable}
use Rattle.rtl_ir.specs.declared.process.Process.{Process}
use Rattle.rtl_ir.specs.declared.process.SyncRule.{SyncRule}
use Rattle.rtl_ir.specs.declared.wire.Wire.{Wire}
use Rattle.rtl_sig.specs.declared.sig.SigBit.{SigBit}
use Rattle.rtl_sig.specs.declared.sig.SigBit.TheVariants.{Wire as OnWire}
use Rattle.rtl_sig.specs.declared.sig.WireBit.{WireBit}
use Rattle.rtl_ir.specs.Scope.{with_processes}
use Rattle.net_model.proofs.Growing.{place_more}
use Rattle.net_model.proofs.Members.{In-left, In-map, In-right}
use Rattle.net_model.proofs.Ranges.{all_joins_in, each_filter}
use Rattle.net_model.specs.Lists.{In}
use Rattle.net_model.specs.Proc.Latch.{is_always, latches_step, proc_latch_of, without_always}
use Rattle.net_model.specs.Refine.{IsMet, RefinesIn, Solved}
use Rattle.net_model.specs.Run.{Time}
use Rattle.net_model.specs.Valuation.{Valuation, read}
use Rattle.net_model.specs.Within.{ProcessIn, RuleIn, with_wires}
use Rattle.pass_laws.proofs.Faultless.{no_faults}
use Rattle.build_laws.proofs.RebuildBits.{one_place}
use Rattle.proc_laws.proofs.RebuildProcesses.{each_good}
use Rattle.proc_laws.specs.Ready.{AreRuled, IsReady}
use Rattle.build_laws.proofs.Built.{after, built_refines, moment, process_among}
use Rattle.build_laws.proofs.Growing.{Grows}
use Rattle.build_laws.proofs.Staying.{SameAccesses}
use Rattle.mux_laws.proofs.TreeRead.{picked_is, read_by}
use Rattle.build_laws.proofs.Meeting.{BodyMet}
use Rattle.build_laws.proofs.Moments.{Moment, seen}
use Rattle.proc_laws.specs.Kinds.{HaveNoTwoEdges}
use Rattle.latch_laws.proofs.Depths.{all_end}
use Rattle.latch_laws.proofs.Finding.{has_in}
use Rattle.latch_laws.proofs.LatchSteps.{HasLatches, latches_grow, latches_met}
use Rattle.latch_laws.proofs.RowsStay.{row_case}
use Rattle.latch_laws.proofs.RulesLess.{accesses_stay, starts_stay}
use Rattle.latch_laws.proofs.UpdatesFree.{update_free}

-- a row of a process is one of the processes
process_in : (start : SigBit → Bit) (p : Path) (wires : List Wire) (m : Module) (ps : List Process) (q : Process) → In q ps → (d : Driven) → In d (process_rows start p wires m q) → In d (processes_rows start p wires m ps)
process_in start p wires m [] q i d j = absurd i
process_in start p wires m (x ∷ ps) q (inl e) d j =
    In-left d (process_rows start p wires m x) (processes_rows start p wires m ps) (subst (λ z. In d (process_rows start p wires m z)) e j)
process_in start p wires m (x ∷ ps) q (inr i) d j =
    In-right d (process_rows start p wires m x) (processes_rows start p wires m ps) (process_in start p wires m ps q i d j)

-- and one of the module
module_in : (ports : Ports) (p : Path) (m : Module) (d : Driven) → In d (processes_rows (start_of m.wires m.processes) p m.wires m m.processes) → In d (rows_of ports p m)
module_in ports p m d i =
    In-right d (cells_rows (start_of m.wires m.processes) ports p m.wires m.cells) (plain_rows p m)
    (In-right d (link_rows p m.wires m.links) _ (In-left d _ (memories_rows p m.wires m.cells m.processes m.memories) i))

-- no bit that is always updated is a tree bit of its process
abbrev AreFree : Module → Type 0
AreFree m =
    (q : Process) → In q m.processes → (r : SyncRule) → acting_rules q.syncs ≡ r ∷ [] → is_always r.event ≡ true → (j : Join) → In j (all_joins r.updates) → has_bit (tree_bits q.root) j.bit ≡ false

module _ (table : types.Ports) (m : Module) (ready : IsReady with_processes table m) (ruled : AreRuled m) (edges : HaveNoTwoEdges m) (free : AreFree m) where
  abbrev built : Building
  built = latches_step m.processes (building_of m)

  abbrev less : List Process
  less = map without_always m.processes

  abbrev grown : Grows (building_of m) built
  grown = latches_grow m.processes (building_of m)

  -- what a process has that the check accepts
  record IsAccepted (q : Process) : Type 0 where
    stand : rules_stand q.syncs ≡ true
    acyclic : reads_itself q.root (tree_bits q.root) ≡ false

  accepted : (q : Process) → In q m.processes → IsAccepted q
  accepted q i =
      let good = (each_good table m [] m.processes (no_faults with_processes table m ready.faultless).processes q i).1 in
      record { stand = good.rules; acyclic = subst (λ z. reads_itself z (tree_bits q.root) ≡ false) (ruled q i) good.acyclic }

  starts : flat_map process_starts m.processes ≡ flat_map process_starts less
  starts = starts_stay m.processes

  accesses : SameAccesses m.processes less
  accesses = accesses_stay m.processes (λ q i. (accepted q i).stand)

  -- the module after the step
  abbrev then' : Module
  then' = after m built less grown starts accesses

  module _ (ports : Ports) (p : Path) (t : Time Place) (w : Valuation) (s : Solved (rows_of ports p then') t w) where
    abbrev here : Moment
    here = moment m built less grown starts accesses ports p t w

    -- a row of a process that stays
    row_there : (q : Process) → In q m.processes → (d : Driven) → In d (process_rows here.start p here.wires then' (without_always q)) → In d (rows_of ports p then')
    row_there q i d j =
        module_in ports p then' d (process_in here.start p here.wires then' less (without_always q) (In-map without_always q m.processes i) d j)

    -- a tree bit has no more than its decision
    tree_tight : (q : Process) → In q m.processes → (b : WireBit) → has_bit (tree_bits q.root) b ≡ true → Below (seen here (OnWire b)) (read_by here (seen here) (case_decision q.root b))
    tree_tight q i b has =
        let row : Driven = record { place = bit_place p here.wires b; driver = Decided (pick_of no_test p here.wires (case_decision q.root b)) } in
        let trees : List Driven = tree_bit_rows here.start p here.wires q.root (tree_bits q.root) in
        let own : In row trees = In-map (λ (c : WireBit). record { place = bit_place p here.wires c; driver = Decided (pick_of no_test p here.wires (case_decision q.root c)) }) b (tree_bits q.root) (has_in (tree_bits q.root) b has) in
        let there : In row (process_rows here.start p here.wires then' (without_always q)) = In-left row (tree_bit_rows here.start p here.wires (root_by_rules q.root) (tree_bits q.root)) _ (subst (λ z. In row (tree_bit_rows here.start p here.wires z (tree_bits q.root))) (sym (ruled q i)) own) in
        subst (Below (seen here (OnWire b))) (picked_is here (read w) X (case_decision q.root b)) (s.tight row (row_there q i row there))

    has_latches : (q : Process) → In q m.processes → (r : SyncRule) → acting_rules q.syncs ≡ r ∷ [] → is_always r.event ≡ true → HasLatches here (length m.wires) q r
    has_latches q i r one always =
        let within : ProcessIn (length m.wires) q = ready.within.processes q i in
        let rule : RuleIn (length m.wires) r = each_filter (RuleIn (length m.wires)) _ q.syncs within.syncs r (subst (In r) (sym one) (inl refl)) in
        record {
          tree = record {
            ends = all_end q.root (tree_bits q.root) (accepted q i).acyclic;
            within = record { assigns = within.assigns; switches = within.switches };
            tight = tree_tight q i;
          };
          updates = λ j k. let both = all_joins_in (length m.wires) r.updates rule.updates j k in
              record {
                free = free q i r one always j k;
                alone = λ b h e. one_place p m.wires ready.named b j.bit h both.bit (sym (place_more p m.wires grown.wires b h) ∙ e ∙ place_more p m.wires grown.wires j.bit both.bit);
                source = both.source;
              };
        }

    rows_met : BodyMet here built → (d : Driven) → In d (processes_rows here.start p here.wires (with_wires grown.wires m) m.processes) → IsMet d t w
    rows_met met d i =
        let k = process_among here.start p here.wires (with_wires grown.wires m) m.processes d i in
        ⊎_elim
        (λ a. subst (λ z. IsMet z t w) (sym a.is) (latches_met here (length m.wires) (building_of m) m.processes met k.0 k.1 a.rule a.one a.always (has_latches k.0 k.1 a.rule a.one a.always) a.update a.there))
        (λ j. s.met d (row_there k.0 k.1 d j))
        (row_case here.start p here.wires (with_wires grown.wires m) then' k.0 (ruled k.0 k.1) (edges k.0 k.1) d k.2)

pub refines : (table : PortTable) (m : Module) → IsReady with_processes (types.table_ports table.modules) m → AreRuled m → HaveNoTwoEdges m → RefinesIn m (proc_latch_of m) table
refines table m ready ruled edges = record {
  holds = λ pre post h k agree. let ports : types.Ports = types.table_ports table.modules in
      let free : AreFree m = update_free _ m (h.modules m (In-right m pre (m ∷ post) (inl refl))) in
      (built_refines m (built ports m ready ruled edges free) (less ports m ready ruled edges free) (grown ports m ready ruled edges free) (starts ports m ready ruled edges free) (accesses ports m ready ruled edges free)
      (λ over p t w s met d i. rows_met ports m ready ruled edges free over p t w s met d i) (flat.table_ports table) ready.within).holds pre post h k agree;
}
