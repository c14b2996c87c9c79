-- The rows of memories neither drive nor read what carries something of the state.
use Rattle.std.proofs.Common.{◌≡◌, ℕ, suc, Bool, true, false, cond, List, [], ◌∷◌, ◌++◌, map, filter, Option, Some, inl, inr, ⊎_elim, refl, sym, ◌∙◌, ap, subst}
use Rattle.std.specs.Prelude.{◌==◌, ◌&&◌, ◌||◌, flat_map, nat_le, slice_get}
use Rattle.std.proofs.lemmas.Bool.{and_parts, eqb-true}
use Rattle.std.proofs.lemmas.List.{append-nil}
use Rattle.cell_types.specs.Kind.{kind_of}
use Rattle.cell_types.specs.PinName.{pin_text}
use Rattle.cell_types.specs.declared.kind.CellKind.{CellKind}
use Rattle.cell_types.specs.declared.kind.CellKind.TheVariants.{Memory}
use Rattle.cell_types.specs.declared.memory.MemoryKind.{MemoryKind}
use Rattle.cell_types.specs.declared.memory.MemoryKind.TheVariants.{Memrd, MemrdV2, MemwrV2}
use Rattle.cell_types.specs.declared.pin_name.PinName.TheVariants.{A, Addr, B, Clk, Data, En, Q}
use Rattle.rtl_ir.specs.Flat.Access.{Access, accesses_of, cell_access, cell_accesses, in_access_order, place_access}
use Rattle.rtl_ir.specs.Flat.Cell as flat
use Rattle.rtl_ir.specs.Flat.Cell.{cell_kind}
use Rattle.rtl_ir.specs.Flat.Driver.{Driven}
use Rattle.rtl_ir.specs.Flat.Memory.{init_cells, is_read_kind, memories_rows, memory_rows, read_rows, reading_cells, word_rows}
use Rattle.rtl_ir.specs.Flat.Place.{Path}
use Rattle.rtl_ir.specs.Parameters.{signal_at}
use Rattle.rtl_ir.specs.Types.{Ports}
use Rattle.rtl_ir.specs.WritePorts.{is_of_memory, is_write_cell, is_write_kind}
use Rattle.rtl_ir.specs.Signals.{same_signal}
use Rattle.rtl_ir.specs.declared.cell.Cell.{Cell}
use Rattle.rtl_ir.specs.declared.machine.Machine.{Machine}
use Rattle.rtl_ir.specs.declared.module.Module.{Module}
use Rattle.rtl_ir.specs.declared.ports.PortLine.{PortLine}
use Rattle.rtl_ir.specs.declared.store.Store.{Store}
use Rattle.net_model.proofs.Members.{In-cases, In-mapped}
use Rattle.net_model.proofs.Ranges.{each_more, each_none}
use Rattle.net_model.specs.Fsm.Find.{at_pin, compares, compares_with, has_place, is_compare, is_flop, is_fork}
use Rattle.net_model.specs.Lists.{In}
use Rattle.net_model.specs.Refine.{IsWellDriven}
use Rattle.net_model.specs.Within.{Each}
use Rattle.pass_laws.specs.Ready.{IsReady}
use Rattle.fsm_laws.specs.Machines.{IsFoundMachine}
use Rattle.fsm_laws.specs.Recodes.{IsFree, IsFreeRow}
use Rattle.fsm_laws.proofs.Places.{has_in}
use Rattle.fsm_laws.proofs.FrameFound.{fork_found}
use Rattle.fsm_laws.proofs.FreePins.{all_free}
use Rattle.fsm_laws.proofs.RowsFree.{IsFreeAccess, free_flat_map, free_read, free_words_of}
use Rattle.fsm_laws.proofs.Setting.{fresh, outputs, state}

-- what is left of some cells is one of them and passes
left : (test : Cell → Bool) (cells : List Cell) (c : Cell) → In c (filter test cells) → (k : ℕ) × ((slice_get cells k ≡ Some c) × (test c ≡ true))
left test [] c i = absurd i
left test (d ∷ cells) c i = by (left test cells c) (test d) refl i
  where
    by : (In c (filter test cells) → (k : ℕ) × ((slice_get cells k ≡ Some c) × (test c ≡ true))) → (t : Bool) → test d ≡ t → In c (cond t (d ∷ filter test cells) (filter test cells)) → (k : ℕ) × ((slice_get (d ∷ cells) k ≡ Some c) × (test c ≡ true))
    by later true e (inl f) = (0, (ap Some (sym f), ap test f ∙ e))
    by later true e (inr j) = let k = later j in (suc k.0, k.1)
    by later false e j = let k = later j in (suc k.0, k.1)

-- ports in order are the same ports
placed : (P : Access → Type 0) (a : Access) (accesses : List Access) → P a → Each P accesses → Each P (place_access a accesses)
placed P a [] h i = each_more P a [] h (each_none P)
placed P a (b ∷ accesses) h i = by (nat_le a.number b.number) (placed P a accesses h (λ x j. i x (inr j)))
  where
    by : (t : Bool) → Each P (place_access a accesses) → Each P (cond t (a ∷ b ∷ accesses) (b ∷ place_access a accesses))
    by true later = each_more P a (b ∷ accesses) h i
    by false later = each_more P b (place_access a accesses) (i b (inl refl)) later

in_order : (P : Access → Type 0) (accesses : List Access) → Each P accesses → Each P (in_access_order accesses)
in_order P [] h = each_none P
in_order P (a ∷ accesses) h = placed P a (in_access_order accesses) (h a (inl refl)) (in_order P accesses (λ x i. h x (inr i)))

-- cells that read or write are of a memory
read_kind : (o : Option CellKind) → is_read_kind o ≡ true → (kind : MemoryKind) × (o ≡ Some (Memory kind))
read_kind (Some (Memory Memrd)) e = (Memrd, refl)
read_kind (Some (Memory MemrdV2)) e = (MemrdV2, refl)
read_kind o e = absurd (cc)

write_kind : (c : Cell) → is_write_cell c.kind_name ≡ true → cell_kind c ≡ Some (Memory MemwrV2)
unfolding is_write_cell cell_kind
write_kind c e = by (kind_of c.kind_name) e
  where
    by : (o : Option CellKind) → is_write_kind o ≡ true → o ≡ Some (Memory MemwrV2)
    by (Some (Memory MemwrV2)) f = refl
    by o f = absurd (cc)

module _ (ports : Ports) (m : Module) (at : ℕ) (machine : Machine) (found : IsFoundMachine ports m at machine) (ready : IsReady ports m) (over : flat.Ports) (driven : IsWellDriven over m) (agree : (name : List ℕ) (lines : List PortLine) → ports name ≡ Some lines → over name ≡ lines) where
  abbrev pub IsFreeCell : Cell → Type 0
  IsFreeCell c = (name : List ℕ) → Each (IsFree m.links m.wires (outputs ports m at machine found)) (signal_at c.pins name)

  -- a cell of a memory is none of the machine
  memory_cell : (k : ℕ) (c : Cell) → slice_get m.cells k ≡ Some c → (kind : MemoryKind) → cell_kind c ≡ Some (Memory kind) → IsFreeCell c
  memory_cell k c there kind own =
      all_free ports m at machine found ready over driven agree k c there (no_flop (k == machine.flop) refl) (no_fork (has_place machine.muxes k) refl) none
    where
      no_flop : (t : Bool) → (k == machine.flop) ≡ t → t ≡ false
      no_flop false e = refl
      no_flop true e =
          let place : k ≡ found.place = eqb-true k machine.flop e ∙ ap (λ (z : Machine). z.flop) found.made in
          let both : Some found.flop ≡ Some c = sym found.flop_there ∙ ap (slice_get m.cells) (sym place) ∙ there in
          let same : found.flop ≡ c = cc in
          let yes : is_flop (cell_kind found.flop) ≡ true = (and_parts (is_flop (cell_kind found.flop)) (same_signal (at_pin found.flop Q) (state ports m at machine found)) found.flop_is).0 in
          let no : true ≡ false = sym yes ∙ ap (λ (z : Cell). is_flop (cell_kind z)) same ∙ ap is_flop own in
          absurd (cc)

      no_fork : (t : Bool) → has_place machine.muxes k ≡ t → t ≡ false
      no_fork false e = refl
      no_fork true e =
          let fork = fork_found ports m at machine found ready k (has_in machine.muxes k e) in
          let both : Some fork.cell ≡ Some c = sym fork.there ∙ there in
          let same : fork.cell ≡ c = cc in
          let no : true ≡ false = sym fork.fork ∙ ap (λ (z : Cell). is_fork (cell_kind z)) same ∙ ap is_fork own in
          absurd (cc)

      none : compares m (state ports m at machine found) c ≡ false
      none = ap (λ o. is_compare o && (compares_with m (state ports m at machine found) c (at_pin c A) (at_pin c B) || compares_with m (state ports m at machine found) c (at_pin c B) (at_pin c A))) own

  abbrev IsFreeOne : Access → Type 0
  IsFreeOne a = (p : Path) → IsFreeAccess m.links m.wires (fresh ports m at machine found) ready.named (outputs ports m at machine found) p a

  written : (name : List ℕ) (a : Access) → In a (map cell_access (filter (λ (c : Cell). is_write_cell c.kind_name && is_of_memory name c) m.cells)) → IsFreeOne a
  written name a i p =
      let from = In-mapped cell_access a (filter (λ (c : Cell). is_write_cell c.kind_name && is_of_memory name c) m.cells) i in
      let cell = left (λ (c : Cell). is_write_cell c.kind_name && is_of_memory name c) m.cells from.0 from.1 in
      let free = memory_cell cell.0 from.0 cell.1.0 MemwrV2 (write_kind from.0 (and_parts (is_write_cell from.0.kind_name) (is_of_memory name from.0) cell.1.1).0) in
      subst (IsFreeAccess m.links m.wires (fresh ports m at machine found) ready.named (outputs ports m at machine found) p) (sym from.2)
      (record { clock = free (pin_text Clk); address = free (pin_text Addr); new = free (pin_text Data); enable = free (pin_text En) })

  accesses_free : (name : List ℕ) (p : Path) → Each (IsFreeAccess m.links m.wires (fresh ports m at machine found) ready.named (outputs ports m at machine found) p) (accesses_of name m.cells [])
  accesses_free name p =
      subst (Each (IsFreeAccess m.links m.wires (fresh ports m at machine found) ready.named (outputs ports m at machine found) p)) (sym (append-nil (cell_accesses name m.cells)))
      (in_order (IsFreeAccess m.links m.wires (fresh ports m at machine found) ready.named (outputs ports m at machine found) p) (map cell_access (filter (λ (c : Cell). is_write_cell c.kind_name && is_of_memory name c) m.cells)) (λ a i. written name a i p))

  pub memories_free : (p : Path) (x : Driven) → In x (memories_rows p (m.wires ++ fresh ports m at machine found) m.cells [] m.memories) → IsFreeRow m.links m.wires (outputs ports m at machine found) p x
  memories_free p =
      free_flat_map m.links m.wires (fresh ports m at machine found) ready.named (outputs ports m at machine found) p (memory_rows p (m.wires ++ fresh ports m at machine found) m.cells []) m.memories (λ s i. one s)
    where
      one : (s : Store) (x : Driven) → In x (memory_rows p (m.wires ++ fresh ports m at machine found) m.cells [] s) → IsFreeRow m.links m.wires (outputs ports m at machine found) p x
      one s x i =
          ⊎_elim
          (λ l. free_words_of m.links m.wires (fresh ports m at machine found) ready.named (outputs ports m at machine found) p s (accesses_of s.name m.cells []) (init_cells s.name m.cells) (accesses_free s.name p) x l)
          (λ r. free_flat_map m.links m.wires (fresh ports m at machine found) ready.named (outputs ports m at machine found) p (read_rows p (m.wires ++ fresh ports m at machine found) s) (reading_cells s.name m.cells) (λ c j. reads s c j) x r)
          (In-cases x (word_rows p (m.wires ++ fresh ports m at machine found) s (accesses_of s.name m.cells []) (init_cells s.name m.cells)) (flat_map (read_rows p (m.wires ++ fresh ports m at machine found) s) (reading_cells s.name m.cells)) i)
        where
          reads : (s : Store) (c : Cell) → In c (reading_cells s.name m.cells) → (y : Driven) → In y (read_rows p (m.wires ++ fresh ports m at machine found) s c) → IsFreeRow m.links m.wires (outputs ports m at machine found) p y
          reads s c j =
              let cell = left (λ (d : Cell). is_read_kind (cell_kind d) && is_of_memory s.name d) m.cells c j in
              let kind = read_kind (cell_kind c) (and_parts (is_read_kind (cell_kind c)) (is_of_memory s.name c) cell.1.1).0 in
              free_read m.links m.wires (fresh ports m at machine found) ready.named (outputs ports m at machine found) p s c (memory_cell cell.0 c cell.1.0 kind.0 kind.1)
