-- Where clocks are not compared, lines that write have the same faults where connections and cells that write no memory go last.
use Rattle.std.proofs.Common.{◌≡◌, ℕ, ◌+◌, Bool, true, false, List, [], ◌∷◌, ◌++◌, Option, Some, None, if◌then◌else◌, inl, inr, refl, ◌∙◌, ap}
use Rattle.std.specs.Prelude.{map, filter, not, nat_lt, ◌&&◌, ◌||◌, ◌==◌, length, max}
use Rattle.std.specs.Option.{option_map_or}
use Rattle.rtl_ir.specs.declared.cell.Cell.{Cell}
use Rattle.rtl_ir.specs.declared.module.Link.{Link}
use Rattle.rtl_ir.specs.declared.module.Module.{Module}
use Rattle.rtl_ir.specs.declared.store.Store.{Store}
use Rattle.rtl_ir.specs.Faults.MemoryCells.{store_named}
use Rattle.rtl_ir.specs.Faults.Processes.{has_bad_line, is_bad_line, is_bad_write_in}
use Rattle.rtl_ir.specs.WritePorts.{EventLine, cell_port, is_of_memory, is_write_cell, lines_of, next_port}
use Rattle.net_model.specs.Within.{Each}

-- numbers do not depend on connections
next_same : (links links' : List Link) (ds : List Cell) → next_port (map (cell_port links) ds) ≡ next_port (map (cell_port links') ds)
next_same links links' [] = refl
next_same links links' (d ∷ ds) = ap (λ n. max ((cell_port links d).number + 1) n) (next_same links links' ds)

-- the write ports of a memory
abbrev writers : List ℕ → List Cell → List Cell
writers name cells = filter (λ (c : Cell). is_write_cell c.kind_name && is_of_memory name c) cells

writers_same : (name : List ℕ) (cells new : List Cell) → Each (λ (c : Cell). is_write_cell c.kind_name ≡ false) new → writers name (cells ++ new) ≡ writers name cells
writers_same name [] [] h = refl
writers_same name [] (c ∷ new) h =
    (λ i. if h c (inl refl) i && is_of_memory name c then c ∷ writers name new else writers name new)
    ∙ writers_same name [] new (λ d j. h d (inr j))
writers_same name (c ∷ cells) new h =
    ap (λ z. if is_write_cell c.kind_name && is_of_memory name c then c ∷ z else z) (writers_same name cells new h)

module _ (m n : Module) (new : List Cell) (cells : n.cells ≡ m.cells ++ new) (memories : n.memories ≡ m.memories) (quiet : Each (λ (c : Cell). is_write_cell c.kind_name ≡ false) new) where
  write_same : (before : List EventLine) (l : EventLine) (s : Store) → is_bad_write_in false n before l s ≡ is_bad_write_in false m before l s
  write_same before l s =
      let shape : Bool = not (length l.line.value == s.width) || nat_lt 32 (length l.line.address) in
      let ports = ap (λ ds. next_port (map (cell_port n.links) ds)) (ap (writers s.name) cells ∙ writers_same s.name m.cells new quiet) ∙ next_same n.links m.links (writers s.name m.cells) in
      ap (λ z. (shape || nat_lt 65535 (z + length (lines_of s.name before))) || false) ports

  line_same : (before : List EventLine) (l : EventLine) → is_bad_line false n before l ≡ is_bad_line false m before l
  line_same before l =
      ap (λ z. option_map_or (is_bad_write_in false n before l) (store_named z l.line.memory) true) memories
      ∙ by (store_named m.memories l.line.memory)
    where
      by : (o : Option Store) → option_map_or (is_bad_write_in false n before l) o true ≡ option_map_or (is_bad_write_in false m before l) o true
      by None = refl
      by (Some s) = write_same before l s

  pub lines_same : (before ls : List EventLine) → has_bad_line false n before ls ≡ has_bad_line false m before ls
  lines_same before [] = refl
  lines_same before (l ∷ ls) = λ i. line_same before l i || lines_same (before ++ l ∷ []) ls i
