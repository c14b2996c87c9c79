-- A memory that becomes words, write chains and read trees leaves a module that a text can give.
use Rattle.std.proofs.Common.{◌≡◌, ℕ, zero, suc, ◌+◌, ◌≤◌, Bool, true, false, if◌then◌else◌, List, [], ◌∷◌, ◌++◌, length, Some, inl, inr, refl, sym, ◌∙◌, ap, subst, arith}
use Rattle.std.specs.Prelude.{◌&&◌, drop, filter, map, not, slice_get, take}
use Rattle.std.proofs.lemmas.List.Elements.{All-append, All-drop, All-filter, All-head, All-take}
use Rattle.cell_types.specs.declared.pin_name.PinName.TheVariants.{Addr, Clk, Data, En}
use Rattle.cell_types.specs.PinName.{pin_text}
use Rattle.rtl_sig.specs.declared.sig.SigBit.{SigBit}
use Rattle.rtl_ir.specs.Build.{building_of}
use Rattle.rtl_ir.specs.Flat.Access.{Access, cell_access, cell_accesses, first_trigger}
use Rattle.rtl_ir.specs.Flat.Cell.{cell_kind}
use Rattle.rtl_ir.specs.Flat.Memory.{is_read_kind}
use Rattle.rtl_ir.specs.Parameters.{signal_at}
use Rattle.rtl_ir.specs.Types.{Ports}
use Rattle.rtl_ir.specs.WritePorts.{is_of_memory}
use Rattle.rtl_ir.specs.declared.cell.Cell.{Cell}
use Rattle.rtl_ir.specs.declared.module.Module.{Module}
use Rattle.rtl_ir.specs.declared.store.Store.{Store}
use Rattle.net_model.proofs.Members.{In-mapped}
use Rattle.net_model.specs.Lists.{In}
use Rattle.net_model.specs.Mem.Expand.{expanded_memory, first_memory, is_memory_kind, memories_gone, memory_of, memory_step, without_memory}
use Rattle.net_model.specs.Mem.Gather.{clock_bit, gathered, read_port, read_ports, write_port}
use Rattle.net_model.specs.Within.{Each}
use Rattle.pass_laws.specs.OwnNames.{HaveOwnNames}
use Rattle.pass_laws.specs.Ready.{IsReady}
use Rattle.memory_laws.specs.Named.{AreShort, IsShort}
use Rattle.memory_laws.proofs.FittingPlan.{reads_fit, words_long, writes_fit}
use Rattle.memory_laws.proofs.PlanIn.{access_cell}
use Rattle.memory_laws.proofs.Readied.{still_named, still_ready}
use Rattle.rtl_readable.specs.Changing.{cell_names, times}
use Rattle.rtl_readable.specs.Readable.{IsBitOf, IsCell, IsSignal, IsStore, item_names}
use Rattle.rtl_readable.proofs.Counting.{item_times, still_distinct, store_names}
use Rattle.rtl_readable.proofs.Signals.{pin_signal}
use Rattle.readable_laws.specs.Extends.{Extends, HasReadableItems}
use Rattle.readable_laws.proofs.Extending.{extended}
use Rattle.readable_passes.proofs.Memory.{ReadReads, WriteReads, memory_builds}
use Rattle.readable_passes.proofs.Replaced.{all_each}

-- names that are left
drop_less : (name : List ℕ) (n : ℕ) (ms : List Store) → times name (store_names (drop n ms)) ≤ times name (store_names ms)
drop_less name zero ms = omega arith
drop_less name (suc n) [] = omega arith
drop_less name (suc n) (s ∷ ms) = omega (arith, drop_less name n ms)

gone_less : (name : List ℕ) (at n : ℕ) (ms : List Store) → n ≡ at + 1 → times name (store_names (take at ms ++ drop n ms)) ≤ times name (store_names ms)
gone_less name at zero ms e = absurd (omega (arith, e))
gone_less name zero (suc n) [] e = omega arith
gone_less name zero (suc n) (s ∷ ms) e = omega (arith, drop_less name n ms)
gone_less name (suc at) (suc n) [] e = omega arith
gone_less name (suc at) (suc n) (s ∷ ms) e = omega (arith, gone_less name at n ms (omega (arith, e)))

filter_less : (name : List ℕ) (test : Cell → Bool) (cells : List Cell) → times name (cell_names (filter test cells)) ≤ times name (cell_names cells)
filter_less name test [] = omega arith
filter_less name test (c ∷ cells) = by (test c) (filter_less name test cells)
  where
    by : (t : Bool) → times name (cell_names (filter test cells)) ≤ times name (cell_names cells) → times name (cell_names (if t then c ∷ filter test cells else filter test cells)) ≤ times name (cell_names (c ∷ cells))
    by true later = omega (arith, later)
    by false later = omega (arith, later)

-- a module without a memory and its cells
dropped_reads : (at : ℕ) (s : Store) (m : Module) → HasReadableItems m → HasReadableItems (without_memory at s m)
dropped_reads at s m is =
    let test : Cell → Bool = λ (c : Cell). not (is_memory_kind (cell_kind c) && is_of_memory s.name c) in
    record {
      id = is.id;
      attributes = is.attributes;
      parameters = is.parameters;
      wires = is.wires;
      memories = All-append IsStore (take at m.memories) (drop (at + 1) m.memories) (All-take IsStore at m.memories is.memories) (All-drop IsStore (at + 1) m.memories is.memories);
      cells = All-filter test (IsCell m.wires) m.cells is.cells;
      processes = is.processes;
      links = is.links;
      distinct = still_distinct (item_names (without_memory at s m)) (item_names m)
          (λ name. omega (arith, item_times name (without_memory at s m), item_times name m, gone_less name at (at + 1) m.memories refl, filter_less name test m.cells)) is.distinct;
    }

place_in : (at : ℕ) (ms : List Store) (s : Store) → slice_get ms at ≡ Some s → In s ms
place_in at [] s e = absurd (cc)
place_in zero (r ∷ ms) s e = let same : r ≡ s = cc in inl (sym same)
place_in (suc at) (r ∷ ms) s e = inr (place_in at ms s e)

module _ (ports : Ports) (m : Module) (ready : IsReady ports m) (named : HaveOwnNames m) (s : Store) (at : ℕ) (there : slice_get m.memories at ≡ Some s) (is : HasReadableItems m) where
  pin_is : (c : Cell) → In c m.cells → (name : List ℕ) → IsSignal m.wires (signal_at c.pins name)
  pin_is c i name = pin_signal m.wires c.pins name (all_each (IsCell m.wires) m.cells is.cells c i).pins

  writes_are : Each (WriteReads m.wires) (map write_port (cell_accesses s.name m.cells))
  writes_are port i =
      let a = In-mapped write_port port (cell_accesses s.name m.cells) i in
      let c = access_cell m.cells s.name a.0 a.1 in
      let own : WriteReads m.wires (write_port (cell_access c.0)) = record { address = pin_is c.0 c.1 (pin_text Addr); new = pin_is c.0 c.1 (pin_text Data); enable = pin_is c.0 c.1 (pin_text En) } in
      subst (WriteReads m.wires) (sym (a.2 ∙ ap write_port c.2)) own

  clock_low : (signal : List SigBit) → IsSignal m.wires signal → IsBitOf m.wires (clock_bit signal)
  clock_low [] h = tt
  clock_low (b ∷ signal) h = All-head (IsBitOf m.wires) b signal h.bits

  clock_is : IsBitOf m.wires (gathered m at s).clock
  clock_is = by (cell_accesses s.name m.cells) (λ a i. let c = access_cell m.cells s.name a i in (c.0, c.1, c.2))
    where
      by : (accesses : List Access) → ((a : Access) → In a accesses → (c : Cell) × In c m.cells × (a ≡ cell_access c)) → IsBitOf m.wires (clock_bit (first_trigger accesses).signal)
      by [] h = tt
      by (a ∷ accesses) h =
          let c = h a (inl refl) in
          subst (λ (z : Access). IsBitOf m.wires (clock_bit z.clock.signal)) (sym c.2) (clock_low _ (pin_is c.0 c.1 (pin_text Clk)))

  reads_are : (from : ℕ) (cells : List Cell) → Each (λ (c : Cell). In c m.cells) cells → Each (ReadReads m.wires) (read_ports s.name from cells)
  reads_are from [] h port i = absurd i
  reads_are from (c ∷ cells) h port i =
      by (is_read_kind (cell_kind c) && is_of_memory s.name c) i (reads_are (from + 1) cells (λ d j. h d (inr j)) port)
    where
      by : (t : Bool) → In port (if t then read_port from c ∷ read_ports s.name (from + 1) cells else read_ports s.name (from + 1) cells) → (In port (read_ports s.name (from + 1) cells) → ReadReads m.wires port) → ReadReads m.wires port
      by true (inl e) later = subst (ReadReads m.wires) (sym e) (record { address = pin_is c (h c (inl refl)) (pin_text Addr); new = pin_is c (h c (inl refl)) (pin_text Data) })
      by true (inr j) later = later j
      by false j later = later j

  builds : Extends (building_of m) (memory_step (gathered m at s) s (building_of m))
  builds =
      let i = place_in at m.memories s there in
      memory_builds s.width (gathered m at s) s (building_of m) (words_long ports m ready named s i at) clock_is (writes_fit ports m ready named s i) (reads_fit ports m ready named s i 0 m.cells (λ c j. j)) writes_are (reads_are 0 m.cells (λ c j. j))

  pub memory_reads : (memory_step (gathered m at s) s (building_of m)).next ≤ 1000000000 → HasReadableItems (expanded_memory m (gathered m at s) s)
  memory_reads few = dropped_reads at s (memory_step (gathered m at s) s (building_of m)).body (extended m (memory_step (gathered m at s) s (building_of m)) is builds few)

-- so many memories, one after another
memories_read : (ports : Ports) (k : ℕ) (m : Module) → IsReady ports m → HaveOwnNames m → AreShort k m → HasReadableItems m → HasReadableItems (memories_gone k m)
memories_read ports zero m ready named short is = is
memories_read ports (suc k) m ready named short is = by m.memories refl short (λ n r d h i. memories_read ports k n r d h i)
  where
    by : (ss : List Store) → m.memories ≡ ss → IsShort m ss × AreShort k (first_memory m ss) → ((n : Module) → IsReady ports n → HaveOwnNames n → AreShort k n → HasReadableItems n → HasReadableItems (memories_gone k n)) → HasReadableItems (memories_gone k (first_memory m ss))
    by [] e i later = later m ready named i.1 is
    by (s ∷ ss) e i later =
        let there : slice_get m.memories 0 ≡ Some s = ap (λ z. slice_get z 0) e in
        later (expanded_memory m (gathered m 0 s) s) (still_ready ports m s 0 ready named there i.0) (still_named ports m s 0 ready named there i.0) i.1 (memory_reads ports m ready named s 0 there is i.0)

-- all of them
pub all_memories_read : (ports : Ports) (m : Module) → IsReady ports m → HaveOwnNames m → AreShort (length m.memories) m → HasReadableItems m → HasReadableItems (memory_of m)
all_memories_read ports m ready named short is = memories_read ports (length m.memories) m ready named short is
