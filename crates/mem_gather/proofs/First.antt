-- Cells that are none of a memory give nothing to one.
use Rattle.std.proofs.Common.{◌≡◌, ℕ, ◌+◌, ◌≤◌, Bool, true, false, cond, ltb, List, [], ◌∷◌, ◌++◌, map, length, take, drop, inl, inr, Option, Some, None, refl, sym, ◌∙◌, ap, subst, arith}
use Rattle.std.specs.Prelude.{◌&&◌, filter, min}
use Rattle.std.specs.List.{range_with_len}
use Rattle.std.proofs.Math.ListN.{drop_of_length-le}
use Rattle.std.proofs.lemmas.Bool.{ltb-false, ltb-true}
use Rattle.std.proofs.lemmas.List.{append-nil, take-append-drop}
use Rattle.std.proofs.lemmas.List.Elements.{filter-append}
use Rattle.cell_types.specs.declared.kind.CellKind.{CellKind}
use Rattle.cell_types.specs.declared.kind.CellKind.TheVariants as Cells
use Rattle.rtl_ir.specs.declared.cell.Cell.{Cell}
use Rattle.rtl_ir.specs.declared.module.Module.{Module}
use Rattle.rtl_ir.specs.declared.store.Store.{Store}
use Rattle.rtl_ir.specs.Flat.Access.{cell_access, cell_accesses, first_trigger, in_access_order}
use Rattle.rtl_ir.specs.Flat.Cell.{cell_kind}
use Rattle.rtl_ir.specs.Flat.Memory.{addresses_of, in_priority_order, init_cells, is_init_kind, is_read_kind, start_word_bit}
use Rattle.rtl_ir.specs.WritePorts.{is_of_memory, is_write_cell, is_write_kind}
use Rattle.net_model.proofs.MemoryCells.{IsPlain}
use Rattle.net_model.specs.Lists.{In}
use Rattle.net_model.specs.Mem.Expand.{is_memory_kind}
use Rattle.net_model.specs.Mem.Gather.{clock_bit, gathered, is_rising, read_port, read_ports, words_of, write_port}
use Rattle.net_model.specs.Within.{Each}
use Rattle.mem_gather.specs.First.{gathered_from}

no_read : (k : Option CellKind) → is_memory_kind k ≡ false → is_read_kind k ≡ false
no_read None e = refl
no_read (Some (Cells.Word k)) e = refl
no_read (Some (Cells.Gate k)) e = refl
no_read (Some (Cells.Storage k)) e = refl
no_read (Some (Cells.StorageGate k)) e = refl
no_read (Some (Cells.Memory k)) e = absurd (cc)

no_init : (k : Option CellKind) → is_memory_kind k ≡ false → is_init_kind k ≡ false
no_init None e = refl
no_init (Some (Cells.Word k)) e = refl
no_init (Some (Cells.Gate k)) e = refl
no_init (Some (Cells.Storage k)) e = refl
no_init (Some (Cells.StorageGate k)) e = refl
no_init (Some (Cells.Memory k)) e = absurd (cc)

no_write : (k : Option CellKind) → is_memory_kind k ≡ false → is_write_kind k ≡ false
no_write None e = refl
no_write (Some (Cells.Word k)) e = refl
no_write (Some (Cells.Gate k)) e = refl
no_write (Some (Cells.Storage k)) e = refl
no_write (Some (Cells.StorageGate k)) e = refl
no_write (Some (Cells.Memory k)) e = absurd (cc)

no_write_cell : (c : Cell) → IsPlain c → is_write_cell c.kind_name ≡ false
unfolding cell_kind is_write_cell
no_write_cell c plain = no_write (cell_kind c) plain

filter_none : {A : Type 0} (p : A → Bool) (xs : List A) → ((x : A) → In x xs → p x ≡ false) → filter p xs ≡ []
filter_none p [] h = refl
filter_none p (x ∷ xs) h = ap (λ t. cond t (x ∷ filter p xs) (filter p xs)) (h x (inl refl)) ∙ filter_none p xs (λ y i. h y (inr i))

filter_first : {A : Type 0} (p : A → Bool) (xs rest : List A) → ((x : A) → In x rest → p x ≡ false) → filter p (xs ++ rest) ≡ filter p xs
filter_first p xs rest h = filter-append p xs rest ∙ ap (λ ys. filter p xs ++ ys) (filter_none p rest h) ∙ append-nil (filter p xs)

module _ (name : List ℕ) where
  inits_first : (cells rest : List Cell) → Each IsPlain rest → init_cells name (cells ++ rest) ≡ init_cells name cells
  inits_first cells rest plain =
      ap (in_priority_order [])
      (filter_first (λ (c : Cell). is_init_kind (cell_kind c) && is_of_memory name c) cells rest (λ c i. ap (λ t. t && is_of_memory name c) (no_init (cell_kind c) (plain c i))))

  accesses_first : (cells rest : List Cell) → Each IsPlain rest → cell_accesses name (cells ++ rest) ≡ cell_accesses name cells
  accesses_first cells rest plain =
      ap (λ cs. in_access_order (map cell_access cs))
      (filter_first (λ (c : Cell). is_write_cell c.kind_name && is_of_memory name c) cells rest (λ c i. ap (λ t. t && is_of_memory name c) (no_write_cell c (plain c i))))

  reads_none : (at : ℕ) (rest : List Cell) → Each IsPlain rest → read_ports name at rest ≡ []
  reads_none at [] plain = refl
  reads_none at (c ∷ rest) plain =
      ap (λ t. cond (t && is_of_memory name c) (read_port at c ∷ read_ports name (at + 1) rest) (read_ports name (at + 1) rest)) (no_read (cell_kind c) (plain c (inl refl)))
      ∙ reads_none (at + 1) rest (λ d i. plain d (inr i))

  reads_first : (at : ℕ) (cells rest : List Cell) → Each IsPlain rest → read_ports name at (cells ++ rest) ≡ read_ports name at cells
  reads_first at [] rest plain = reads_none at rest plain
  reads_first at (c ∷ cells) rest plain =
      ap (λ ports. cond (is_read_kind (cell_kind c) && is_of_memory name c) (read_port at c ∷ ports) ports) (reads_first (at + 1) cells rest plain)

-- the plan from the first cells is that from all
pub gathered_first : (cells rest : List Cell) (at : ℕ) (s : Store) → Each IsPlain rest → gathered_from cells at s ≡ gathered_from (cells ++ rest) at s
gathered_first cells rest at s plain =
    let starts : words_of s (cells ++ rest) ≡ words_of s cells =
    ap (λ inits. map (λ address. map (start_word_bit inits s.width address) (range_with_len 0 s.width)) (addresses_of s)) (inits_first s.name cells rest plain) in
    let reads = reads_first s.name 0 cells rest plain in
    let accesses = accesses_first s.name cells rest plain in
    sym (λ i. record {
      store = at;
      words = starts i;
      reads = reads i;
      writes = map write_port (accesses i);
      clock = clock_bit (first_trigger (accesses i)).signal;
      rising = is_rising (first_trigger (accesses i)).level;
    })

pub planned_first : (m : Module) (count first at : ℕ) (s : Store) → first ≡ min (length m.cells) count → Each IsPlain (drop count m.cells) → gathered_from (take first m.cells) at s ≡ gathered m at s
planned_first m count first at s is plain =
    gathered_first (take first m.cells) (drop first m.cells) at s rest ∙ ap (λ cells. gathered_from cells at s) (take-append-drop first m.cells)
  where
    rest : Each IsPlain (drop first m.cells)
    rest = by (ltb count (length m.cells)) refl
      where
        by : (t : Bool) → ltb count (length m.cells) ≡ t → Each IsPlain (drop first m.cells)
        by true f =
            let lt = ltb-true count (length m.cells) f in
            let same : first ≡ count = omega (arith, is, lt) in
            subst (λ n. Each IsPlain (drop n m.cells)) (sym same) plain
        by false f =
            let le = ltb-false count (length m.cells) f in
            let over : length m.cells ≤ first = omega (arith, is, le) in
            λ c i. absurd (subst (In c) (drop_of_length-le m.cells over) i)
