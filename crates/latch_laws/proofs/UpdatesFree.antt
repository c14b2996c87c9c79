-- A bit that is always updated is no tree bit of its process, where no bit has two drivers.
use Rattle.std.proofs.Common.{◌≡◌, Bool, true, false, List, [], ◌∷◌, ◌++◌, ⊎_elim, refl, sym, ◌∙◌, ap, subst}
use Rattle.std.specs.Prelude.{flat_map}
use Rattle.rtl_ir.specs.Assigns.{tree_bits}
use Rattle.rtl_ir.specs.Flat.Cell.{Ports, cells_rows}
use Rattle.rtl_ir.specs.Flat.Driver.{Driven}
use Rattle.rtl_ir.specs.Flat.Link.{link_rows}
use Rattle.rtl_ir.specs.Flat.Memory.{memories_rows}
use Rattle.rtl_ir.specs.Flat.Place.{Place}
use Rattle.rtl_ir.specs.Flat.Point.{bit_place}
use Rattle.rtl_ir.specs.Flat.Process.{processes_rows}
use Rattle.rtl_ir.specs.Flat.Rows.{plain_rows}
use Rattle.rtl_ir.specs.Flat.Start.{start_of}
use Rattle.rtl_ir.specs.Follow.{all_joins}
use Rattle.rtl_ir.specs.declared.follow.Join.{Join}
use Rattle.rtl_ir.specs.Rules.{acting_rules}
use Rattle.rtl_ir.specs.Signals.{has_bit}
use Rattle.rtl_ir.specs.declared.module.Module.{Module}
use Rattle.rtl_ir.specs.declared.process.Process.{Process}
use Rattle.rtl_ir.specs.declared.process.SyncRule.{SyncRule}
use Rattle.rtl_ir.specs.declared.wire.Wire.{Wire}
use Rattle.net_model.proofs.Members.{In-map, map-append}
use Rattle.net_model.specs.Lists.{Distinct, In}
use Rattle.net_model.specs.Proc.Latch.{is_always}
use Rattle.net_model.specs.Refine.{IsWellDriven, places_of}
use Rattle.pass_laws.proofs.Moving.{split}
use Rattle.pass_laws.proofs.Placing.{bits_places}
use Rattle.build_laws.proofs.RebuildPlaces.{processes_places}
use Rattle.build_laws.specs.Rebuilds.{driven_bits, join_bits, one_rule_bits, rules_bits}
use Rattle.latch_laws.proofs.Finding.{has_in}
use Rattle.latch_laws.proofs.RowsStay.{always_is}

-- no two rows of the processes drive one bit
processes_apart : (ports : Ports) (m : Module) → IsWellDriven ports m → Distinct (places_of (processes_rows (start_of m.wires m.processes) [] m.wires m m.processes))
processes_apart ports m h =
    let cells : List Driven = cells_rows (start_of m.wires m.processes) ports [] m.wires m.cells in
    let links : List Driven = link_rows [] m.wires m.links in
    let processes : List Driven = processes_rows (start_of m.wires m.processes) [] m.wires m m.processes in
    let memories : List Driven = memories_rows [] m.wires m.cells m.processes m.memories in
    let place : Driven → Place = λ d. d.place in
    let plain : Distinct (places_of (plain_rows [] m)) = (split (places_of cells) (places_of (plain_rows [] m)) (subst Distinct (map-append place cells (plain_rows [] m)) (h.rows []))).1 in
    let rest : Distinct (places_of (processes ++ memories)) = (split (places_of links) (places_of (processes ++ memories)) (subst Distinct (map-append place links (processes ++ memories)) plain)).1 in
    (split (places_of processes) (places_of memories) (subst Distinct (map-append place processes memories) rest)).0

-- so neither do tree bits and updated bits of one process
process_apart : (wires : List Wire) (qs : List Process) (q : Process) → In q qs → Distinct (bits_places [] wires (flat_map driven_bits qs)) → Distinct (bits_places [] wires (driven_bits q))
process_apart wires [] q i d = absurd i
process_apart wires (p ∷ qs) q i d =
    let parts : Distinct (bits_places [] wires (driven_bits p) ++ bits_places [] wires (flat_map driven_bits qs)) = subst Distinct (map-append (bit_place [] wires) (driven_bits p) (flat_map driven_bits qs)) d in
    let both = split (bits_places [] wires (driven_bits p)) (bits_places [] wires (flat_map driven_bits qs)) parts in
    ⊎_elim
    (λ e. subst (λ (z : Process). Distinct (bits_places [] wires (driven_bits z))) (sym e) both.0)
    (λ j. process_apart wires qs q j both.1)
    i

pub update_free : (ports : Ports) (m : Module) → IsWellDriven ports m → (q : Process) → In q m.processes → (r : SyncRule) → acting_rules q.syncs ≡ r ∷ [] → is_always r.event ≡ true → (j : Join) → In j (all_joins r.updates) → has_bit (tree_bits q.root) j.bit ≡ false
update_free ports m h q i r one always j k = by (has_bit (tree_bits q.root) j.bit) refl
  where
    rules : rules_bits (acting_rules q.syncs) ≡ join_bits (all_joins r.updates)
    rules = ap rules_bits one ∙ ap (one_rule_bits (all_joins r.updates)) (always_is r.event always)

    all : Distinct (bits_places [] m.wires (flat_map driven_bits m.processes))
    all = subst Distinct (processes_places (start_of m.wires m.processes) [] m.wires m m.processes) (processes_apart ports m h)

    parts : Distinct (bits_places [] m.wires (tree_bits q.root) ++ bits_places [] m.wires (rules_bits (acting_rules q.syncs)))
    parts = subst Distinct (map-append (bit_place [] m.wires) (tree_bits q.root) (rules_bits (acting_rules q.syncs))) (process_apart m.wires m.processes q i all)

    updated : In j.bit (rules_bits (acting_rules q.syncs))
    updated = subst (In j.bit) (sym rules) (In-map (λ (x : Join). x.bit) j (all_joins r.updates) k)

    by : (t : Bool) → has_bit (tree_bits q.root) j.bit ≡ t → t ≡ false
    by false e = refl
    by true e =
        absurd ((split (bits_places [] m.wires (tree_bits q.root)) (bits_places [] m.wires (rules_bits (acting_rules q.syncs))) parts).2 (bit_place [] m.wires j.bit)
        (In-map (bit_place [] m.wires) j.bit (tree_bits q.root) (has_in (tree_bits q.root) j.bit e)) (In-map (bit_place [] m.wires) j.bit (rules_bits (acting_rules q.syncs)) updated))
