-- The plan of a memory names wires of the module, and so does the module in which the memory became words.
use Rattle.std.proofs.Common.{◌≡◌, ℕ, ◌+◌, Bool, true, false, ◌&&◌, List, [], ◌∷◌, length, if◌then◌else◌, inl, inr, refl, sym, ◌∙◌, ap, subst}
use Rattle.std.specs.Prelude.{filter, map}
use Rattle.std.proofs.lemmas.Bool.{and_parts}
use Rattle.cell_types.specs.PinName.{pin_text}
use Rattle.cell_types.specs.declared.pin_name.PinName.TheVariants.{Addr, Clk, Data, En}
use Rattle.rtl_ir.specs.Build.{Building, building_of}
use Rattle.rtl_ir.specs.Flat.Access.{Access, cell_access, cell_accesses, first_trigger}
use Rattle.rtl_ir.specs.Flat.Cell.{cell_kind}
use Rattle.rtl_ir.specs.Flat.Memory.{is_read_kind}
use Rattle.rtl_ir.specs.WritePorts.{is_of_memory, is_write_cell}
use Rattle.rtl_ir.specs.declared.cell.Cell.{Cell}
use Rattle.rtl_ir.specs.declared.module.Module.{Module}
use Rattle.rtl_ir.specs.declared.process.Process.{Process}
use Rattle.rtl_ir.specs.declared.store.Store.{Store}
use Rattle.rtl_sig.specs.declared.sig.SigBit.{SigBit}
use Rattle.net_model.proofs.Members.{In-mapped}
use Rattle.net_model.proofs.Ranges.{each_filter, each_none, signal_in}
use Rattle.net_model.specs.Lists.{In}
use Rattle.net_model.specs.Mem.Expand.{expanded_memory}
use Rattle.net_model.specs.Mem.Gather.{clock_bit, read_port, read_ports, write_port}
use Rattle.net_model.specs.Within.{BitIn, CellIn, Each, IsWithin, ProcessIn, SigIn}
use Rattle.memory_laws.proofs.Faultless.{in_order}
use Rattle.memory_laws.proofs.Inside.{PortIn, StaysIn}
use Rattle.memory_laws.proofs.InsideSteps.{ReadIn, memory_stays}
use Rattle.net_model.proofs.MemoryCells.{stays}
use Rattle.memory_laws.proofs.MemoryThere.{before, built, grown, plan}
use Rattle.pass_laws.proofs.Finding.{filtered_in}

-- each access is one of a cell that writes the memory
pub access_cell : (cells : List Cell) (name : List ℕ) (a : Access) → In a (cell_accesses name cells) → (c : Cell) × In c cells × (a ≡ cell_access c) × (is_write_cell c.kind_name ≡ true) × (is_of_memory name c ≡ true)
access_cell cells name a i =
    let test = λ (c : Cell). is_write_cell c.kind_name && is_of_memory name c in
    let c = In-mapped cell_access a (filter test cells) (in_order a (map cell_access (filter test cells)) i) in
    let k = filtered_in test cells c.0 c.1 in
    let both = and_parts (is_write_cell c.0.kind_name) (is_of_memory name c.0) k.1 in
    (c.0, k.0, c.2, both.0, both.1)

module _ (n : ℕ) (cells : List Cell) (within : Each (CellIn n) cells) (name : List ℕ) where
  writes_in : Each (PortIn n) (map write_port (cell_accesses name cells))
  writes_in port i =
      let a = In-mapped write_port port (cell_accesses name cells) i in
      let c = access_cell cells name a.0 a.1 in
      let own : PortIn n (write_port (cell_access c.0)) = record {
        address = signal_in n c.0.pins (pin_text Addr) (within c.0 c.1);
        new = signal_in n c.0.pins (pin_text Data) (within c.0 c.1);
        enable = signal_in n c.0.pins (pin_text En) (within c.0 c.1);
      } in
      subst (PortIn n) (sym (a.2 ∙ ap write_port c.2)) own

  clock_low : (signal : List SigBit) → SigIn n signal → BitIn n (clock_bit signal)
  clock_low [] h = tt
  clock_low (s ∷ signal) h = h s (inl refl)

  clock_in : BitIn n (clock_bit (first_trigger (cell_accesses name cells)).signal)
  clock_in = by (cell_accesses name cells) (λ a i. let c = access_cell cells name a i in (c.0, c.1, c.2))
    where
      by : (accesses : List Access) → ((a : Access) → In a accesses → (c : Cell) × In c cells × (a ≡ cell_access c)) → BitIn n (clock_bit (first_trigger accesses).signal)
      by [] h = tt
      by (a ∷ accesses) h =
          let c = h a (inl refl) in
          subst (λ (z : Access). BitIn n (clock_bit z.clock.signal)) (sym c.2) (clock_low _ (signal_in n c.0.pins (pin_text Clk) (within c.0 c.1)))

reads_in : (n : ℕ) (name : List ℕ) (from : ℕ) (cells : List Cell) → Each (CellIn n) cells → Each (ReadIn n) (read_ports name from cells)
reads_in n name from [] h port i = absurd i
reads_in n name from (c ∷ cells) h port i =
    by (is_read_kind (cell_kind c) && is_of_memory name c) i (reads_in n name (from + 1) cells (λ d j. h d (inr j)) port)
  where
    by : (t : Bool) → In port (if t then read_port from c ∷ read_ports name (from + 1) cells else read_ports name (from + 1) cells) → (In port (read_ports name (from + 1) cells) → ReadIn n port) → ReadIn n port
    by true (inl e) later = subst (ReadIn n) (sym e) (record { address = signal_in n c.pins (pin_text Addr) (h c (inl refl)); new = signal_in n c.pins (pin_text Data) (h c (inl refl)) })
    by true (inr j) later = later j
    by false j later = later j

-- after the step each signal names wires that are there
pub expanded_within : (n : Module) (s : Store) (place : ℕ) → IsWithin (before n s place) → IsWithin (expanded_memory (before n s place) (plan n s place) s)
expanded_within n s place h =
    let count : ℕ = length n.wires in
    let b : Building = building_of (before n s place) in
    let k : StaysIn b (built n s place) = memory_stays (plan n s place) s b (record { cells = h.cells; links = h.links }) (writes_in count n.cells h.cells s.name) (clock_in count n.cells h.cells s.name) (reads_in count s.name 0 n.cells h.cells) in
    let none : (built n s place).body.processes ≡ [] = ap (λ (m : Module). m.processes) (grown n s place).body in
    record {
      cells = each_filter (CellIn (length (built n s place).body.wires)) (stays s.name) (built n s place).body.cells k.is.cells;
      links = k.is.links;
      processes = subst (λ (ps : List Process). Each (ProcessIn (length (built n s place).body.wires)) ps) (sym none) (each_none (ProcessIn (length (built n s place).body.wires)));
    }
