-- The rows of memories are the same where lines have become cells.
use Rattle.std.proofs.Common.{◌≡◌, ℕ, ◌+◌, Bool, false, if◌then◌else◌, List, [], ◌∷◌, ◌++◌, length, Some, inl, inr, refl, sym, ◌∙◌, ap, subst, append-nil}
use Rattle.std.specs.Prelude.{◌&&◌, filter, flat_map, map}
use Rattle.cell_types.specs.declared.kind.CellKind.{CellKind}
use Rattle.cell_types.specs.declared.kind.CellKind.TheVariants.{Memory}
use Rattle.cell_types.specs.declared.memory.MemoryKind.TheVariants.{MemwrV2}
use Rattle.rtl_ir.specs.Faults.Cells.{is_memory_kind}
use Rattle.rtl_ir.specs.Flat.Cell.{cell_kind}
use Rattle.rtl_ir.specs.Flat.Memory.{in_priority_order, init_cells, is_init_kind, is_read_kind, memories_rows, read_rows, reading_cells, word_rows}
use Rattle.rtl_ir.specs.Flat.Place.{Path}
use Rattle.rtl_ir.specs.WritePorts.{is_of_memory}
use Rattle.rtl_ir.specs.declared.cell.Cell.{Cell}
use Rattle.rtl_ir.specs.declared.module.Module.{Module}
use Rattle.rtl_ir.specs.declared.process.Event.{Event}
use Rattle.rtl_ir.specs.declared.process.SyncRule.{SyncRule}
use Rattle.rtl_ir.specs.declared.process.WriteLine.{WriteLine}
use Rattle.rtl_ir.specs.declared.store.Store.{Store}
use Rattle.rtl_ir.specs.declared.wire.Wire.{Wire}
use Rattle.net_model.proofs.Ranges.{each_both, each_more, each_none}
use Rattle.net_model.specs.Proc.Sync.{Numbered, line_number}
use Rattle.net_model.specs.Within.{Each}
use Rattle.build_laws.proofs.Growing.{IsPlainCell}
use Rattle.sync_laws.proofs.GoodRules.{without_rules}
use Rattle.sync_laws.proofs.Parts.{Part, cells_from, named}
use Rattle.sync_laws.proofs.AllPorts.{all_write}
use Rattle.sync_laws.proofs.Lines.{RulesSmall, filter_both}
use Rattle.sync_laws.proofs.WriteParts.{cells_both, lines_parts, module_rules, numbered_line, numbered_lines, write_part, write_parts, written_parts}

-- a cell is a write port
abbrev pub IsWrite : Cell → Type 0
IsWrite c = cell_kind c ≡ Some (Memory MemwrV2)

lines_write : (m : Module) (event : Event) (rule before : List Numbered) (lines : List WriteLine) (n : ℕ) → Each IsWrite (cells_from n (lines_parts m event rule before lines))
unfolding cell_kind
lines_write m event rule before [] n = each_none IsWrite
lines_write m event rule before (line ∷ lines) n =
    each_more IsWrite (named (write_part event line (line_number m before line.memory) rule) n)
    (cells_from (n + 1) (lines_parts m event (rule ++ numbered_line m before line ∷ []) (before ++ numbered_line m before line ∷ []) lines))
    refl
    (lines_write m event (rule ++ numbered_line m before line ∷ []) (before ++ numbered_line m before line ∷ []) lines (n + 1))

pub all_writes : (m : Module) (before : List Numbered) (rules : List SyncRule) (n : ℕ) → Each IsWrite (cells_from n (written_parts m before rules))
all_writes m before [] n = each_none IsWrite
all_writes m before (r ∷ rules) n =
    let here : List Part = lines_parts m r.event [] before r.writes in
    subst (Each IsWrite) (sym (cells_both n here (written_parts m (numbered_lines m before r.writes) rules)))
    (each_both IsWrite (cells_from n here) (cells_from (n + length here) (written_parts m (numbered_lines m before r.writes) rules)) (lines_write m r.event [] before r.writes n) (all_writes m (numbered_lines m before r.writes) rules (n + length here)))

-- a cell neither reads a memory nor gives it start words
pub record IsSilent (c : Cell) : Type 0 where
  pub read : is_read_kind (cell_kind c) ≡ false
  pub init : is_init_kind (cell_kind c) ≡ false

write_silent : (c : Cell) → IsWrite c → IsSilent c
write_silent c e = record { read = ap is_read_kind e; init = ap is_init_kind e }

plain_silent : (c : Cell) → IsPlainCell c → IsSilent c
plain_silent c h = record {
  read = ap is_read_kind h.is ∙ reads h.kind h.plain;
  init = ap is_init_kind h.is ∙ inits h.kind h.plain;
}
  where
    reads : (kind : CellKind) → is_memory_kind kind ≡ false → is_read_kind (Some kind) ≡ false
    reads (Memory kind) e = absurd (cc)
    reads kind e = refl

    inits : (kind : CellKind) → is_memory_kind kind ≡ false → is_init_kind (Some kind) ≡ false
    inits (Memory kind) e = absurd (cc)
    inits kind e = refl

filter_none : {A : Type 0} (test : A → Bool) (xs : List A) → Each (λ x. test x ≡ false) xs → filter test xs ≡ []
filter_none test [] h = refl
filter_none test (x ∷ xs) h =
    ap (λ t. if t then x ∷ filter test xs else filter test xs) (h x (inl refl)) ∙ filter_none test xs (λ y i. h y (inr i))

pub filter_old : {A : Type 0} (test : A → Bool) (xs ys : List A) → Each (λ y. test y ≡ false) ys → filter test (xs ++ ys) ≡ filter test xs
filter_old test xs ys h =
    filter_both test xs ys ∙ ap (λ z. filter test xs ++ z) (filter_none test ys h) ∙ append-nil (filter test xs)

module _ (cells new : List Cell) (silent : Each IsSilent new) (name : List ℕ) where
  pub same_inits : init_cells name (cells ++ new) ≡ init_cells name cells
  same_inits =
      ap (in_priority_order []) (filter_old (λ (c : Cell). is_init_kind (cell_kind c) && is_of_memory name c) cells new (λ c i. ap (λ t. t && is_of_memory name c) (silent c i).init))

  pub same_readers : reading_cells name (cells ++ new) ≡ reading_cells name cells
  same_readers =
      filter_old (λ (c : Cell). is_read_kind (cell_kind c) && is_of_memory name c) cells new (λ c i. ap (λ t. t && is_of_memory name c) (silent c i).read)

module _ (m : Module) (new : List Cell) (plain : Each IsPlainCell new) (n : ℕ) where
  pub made_silent : Each IsSilent (new ++ cells_from n (write_parts m))
  made_silent =
      each_both IsSilent new (cells_from n (write_parts m)) (λ c i. plain_silent c (plain c i)) (λ c i. write_silent c (all_writes m [] (module_rules m) n c i))

  module _ (small : RulesSmall m [] (module_rules m)) (p : Path) (wires : List Wire) where
    pub words_same : (stores : List Store) → memories_rows p wires (m.cells ++ (new ++ cells_from n (write_parts m))) (map without_rules m.processes) stores ≡ memories_rows p wires m.cells m.processes stores
    words_same [] = refl
    words_same (s ∷ stores) =
        λ i. (word_rows p wires s (all_write m small new plain n s.name i) (same_inits m.cells (new ++ cells_from n (write_parts m)) made_silent s.name i) ++ flat_map (read_rows p wires s) (same_readers m.cells (new ++ cells_from n (write_parts m)) made_silent s.name i)) ++ words_same stores i
