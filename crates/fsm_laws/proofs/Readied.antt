-- Where a module may be given to a pass, so may the module in which a machine has its code.
use Rattle.std.proofs.Common.{◌≡◌, ◌<◌, ◌≤◌, ℕ, ◌+◌, List, [], ◌∷◌, ◌++◌, length, refl, sym, ◌∙◌, ap, subst, arith}
use Rattle.rtl_sig.specs.declared.sig.SigBit.{SigBit}
use Rattle.rtl_sig.specs.declared.sig.WireBit.{WireBit}
use Rattle.rtl_ir.specs.Drivers.{drive_count, drives_of, port_drives}
use Rattle.rtl_ir.specs.Faults.Bits.{bits_faults}
use Rattle.rtl_ir.specs.Faults.Cells.{cell_faults}
use Rattle.rtl_ir.specs.Faults.Processes.{process_faults}
use Rattle.rtl_ir.specs.Scope.{without_processes}
use Rattle.rtl_ir.specs.Types.{Ports}
use Rattle.rtl_ir.specs.declared.cell.Cell.{Cell}
use Rattle.rtl_ir.specs.declared.machine.Machine.{Machine}
use Rattle.rtl_ir.specs.declared.module.Link.{Link}
use Rattle.rtl_ir.specs.declared.module.Module.{Module}
use Rattle.rtl_ir.specs.declared.wire.Wire.{Wire}
use Rattle.net_model.proofs.Members.{Distinct-append, map-append}
use Rattle.net_model.specs.Fsm.Find.{whole_wire}
use Rattle.net_model.specs.Lists.{Distinct, In}
use Rattle.net_model.specs.Within.{CellIn, Each, IsWithin, LinkIn}
use Rattle.map_laws.proofs.FreshWires.{names_of}
use Rattle.map_laws.specs.Expansion.{bits_from}
use Rattle.pass_laws.proofs.Accesses.{accesses_stay, none_there}
use Rattle.pass_laws.proofs.Alone.{no_link_faults}
use Rattle.pass_laws.proofs.Counting.{bits_of, cells_more, count, count_more, driven_count, links_more}
use Rattle.pass_laws.proofs.Faultless.{HasNoFaults, IsPlain, no_faults, plain}
use Rattle.pass_laws.proofs.Forming.{all_none, own_links}
use Rattle.pass_laws.specs.Bits.{cells_bits, links_bits}
use Rattle.pass_laws.specs.Ready.{IsReady}
use Rattle.pass_laws.specs.Replaces.{IsEven}
use Rattle.build_laws.proofs.CountingBits.{cells_below, count_beyond, fresh_below, fresh_once, links_below, no_two, once_more, ports_below}
use Rattle.fsm_laws.specs.Machines.{IsFoundMachine}
use Rattle.fsm_laws.specs.Recoded.{all_links_made, fresh_wires, machine_coding, recoded_with}
use Rattle.fsm_laws.proofs.Formed.{cells_access, cells_sound, cells_within, fresh_names, inner, links_even, links_within, names_apart, wires_count}
use Rattle.fsm_laws.proofs.Measures.{IsMeasure}
use Rattle.fsm_laws.proofs.Totals.{total, weights}
use Rattle.fsm_laws.specs.Short.{IsShort}
use Rattle.pass_laws.proofs.Widening.{more_faults, more_drives}

-- the bits of cells, cell by cell
counted_cells : (ports : Ports) (x : WireBit) (cs : List Cell) → weights (λ (c : Cell). count x (cells_bits ports (c ∷ []))) cs ≡ count x (cells_bits ports cs)
counted_cells ports x [] = refl
counted_cells ports x (c ∷ cs) =
    let later = counted_cells ports x cs in
    let all = ap (count x) (cells_more ports (c ∷ []) cs) ∙ count_more x (cells_bits ports (c ∷ [])) (cells_bits ports cs) in
    omega (arith, later, all)

module _ (ports : Ports) (m : Module) (wire : ℕ) (machine : Machine) (ready : IsReady ports m) (found : IsFoundMachine ports m wire machine) (few : IsShort m machine) where
  abbrev state : List SigBit
  state = whole_wire wire found.wire

  abbrev next : Module
  next = recoded_with m machine state

  abbrev fresh : List Wire
  fresh = fresh_wires m machine

  abbrev more : List Link
  more = all_links_made m machine (machine_coding m machine state) 0 m.cells

  none : HasNoFaults without_processes ports m
  none = no_faults without_processes ports m ready.faultless

  fine : IsPlain m
  fine = plain ports m ready.faultless

  even_after : Each IsEven next.links
  even_after = links_even ports m wire machine ready found

  cells_none : cell_faults without_processes ports next [] next.cells ≡ []
  cells_none =
      none_there ports next [] next.cells (cells_sound ports m wire machine ready found)
      (accesses_stay ports m next refl [] [] (λ name. refl) next.cells (cells_access ports m wire machine ready found))

  -- how often a bit is driven
  module _ (x : WireBit) where
    bits_low : count x (cells_bits ports next.cells) + count x (links_bits more) ≤ count x (cells_bits ports m.cells) + count x (bits_from (length m.wires) fresh)
    bits_low =
        let measure : IsMeasure (count x) = record { none = refl; more = count_more x } in
        let low = total ports m wire machine ready found (count x) measure (λ (c : Cell). count x (cells_bits ports (c ∷ []))) (λ kind c fits. refl) in
        omega (arith, low, counted_cells ports x next.cells, counted_cells ports x m.cells)

    driven_low : drive_count (drives_of ports next) x ≤ drive_count (drives_of ports m) x + count x (bits_from (length m.wires) fresh)
    driven_low =
        let old = driven_count ports m fine.processes (own_links ports m ready) x in
        let new = driven_count ports next fine.processes even_after x in
        let outside : count x (bits_of (port_drives 0 (m.wires ++ fresh))) ≡ count x (bits_of (port_drives 0 m.wires)) = ap (λ z. count x (bits_of z)) (more_drives 0 m.wires fresh (inner m machine)) in
        let links = ap (count x) (links_more m.links more) ∙ count_more x (links_bits m.links) (links_bits more) in
        omega (arith, old, new, outside, bits_low, links, count_more x (cells_bits ports m.cells) (links_bits m.links), count_more x (cells_bits ports next.cells) (links_bits next.links))

    old_only : x.wire < length m.wires → drive_count (drives_of ports next) x ≤ drive_count (drives_of ports m) x
    old_only h = omega (arith, driven_low, fresh_below x (length m.wires) fresh h)

    fresh_only : length m.wires ≤ x.wire → drive_count (drives_of ports next) x ≤ 1
    fresh_only h =
        let n : ℕ = length m.wires in
        let p : count x (bits_of (port_drives 0 m.wires)) ≡ 0 = count_beyond n x _ (ports_below n 0 m.wires (omega arith)) h in
        let c : count x (cells_bits ports m.cells) ≡ 0 = count_beyond n x _ (cells_below n ports m.cells ready.within.cells) h in
        let l : count x (links_bits m.links) ≡ 0 = count_beyond n x _ (links_below n m.links ready.within.links) h in
        omega (arith, driven_low, driven_count ports m fine.processes (own_links ports m ready) x, count_more x (cells_bits ports m.cells) (links_bits m.links), fresh_once x n fresh, p, c, l)

  bits_none : bits_faults m.id (drives_of ports next) 0 (m.wires ++ fresh) ≡ []
  bits_none = no_two m.id (drives_of ports next) (drives_of ports m) (length m.wires) old_only m.wires fresh refl fresh_only none.bits

  all_named : Distinct (names_of (m.wires ++ fresh))
  all_named =
      subst Distinct (sym (map-append (λ (w : Wire). w.name) m.wires fresh))
      (Distinct-append (names_of m.wires) (names_of fresh) ready.named (fresh_names m machine few) (names_apart m machine few))

  all_within : IsWithin next
  all_within = record {
    cells = subst (λ n. Each (CellIn n) next.cells) (sym (wires_count m machine)) (cells_within ports m wire machine ready found);
    links = subst (λ n. Each (LinkIn n) next.links) (sym (wires_count m machine)) (links_within ports m wire machine ready found);
    processes = λ q i. absurd (subst (In q) fine.processes i);
  }

  pub next_ready : IsReady ports (recoded_with m machine (whole_wire wire found.wire))
  next_ready = record {
    faultless =
        all_none (more_faults m.id [] m.wires fresh (inner m machine) ∙ none.wires) none.stores cells_none
        (ap (process_faults without_processes ports next []) fine.processes) (no_link_faults m.id 1 next.links even_after) bits_none;
    named = all_named;
    within = all_within;
    once = once_more (length m.wires) (drives_of ports m) (drives_of ports next) old_only fresh_only ready.once;
  }
