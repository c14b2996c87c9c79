-- A summary of the netlist: how many cells it has.
use Rattle.std.specs.Prelude.{ℕ, ◌+◌, List, [], ◌∷◌, ◌++◌, Option, Some, None, codes, length}
use Rattle.std.specs.Fmt.{decimal}
use Rattle.rtl_ir.specs.declared.module.Module.{Module}
use Rattle.script_core.specs.declared.built.Built.{Built}
use Rattle.script_core.specs.declared.outcome.Outcome.{Outcome}
use Rattle.script_core.specs.declared.outcome.Outcome.TheVariants.{Done, Over}
use Rattle.reply_lines.specs.Lines.{counted, ok_reply}
use Rattle.desk_core.specs.Netlist.{built_words, netlist_answer, netlist_of}
use Rattle.desk_core.specs.State.{Answer, State}

-- how many cells modules have together
abbrev pub cells_in : List Module → ℕ
cells_in [] = 0
cells_in (m ∷ modules) = length m.cells + cells_in modules

-- how many cells a result has: none where its module passes a limit
abbrev pub cells_of : Outcome → ℕ
cells_of (Done m) = length m.cells
cells_of (Over word) = 0

-- how many cells the result beside a module has
abbrev pub cells_beside : Option Built → ℕ
cells_beside None = 0
cells_beside (Some built) = cells_of built.outcome

-- how many cells the results beside modules have together
abbrev pub cells_found : List (Option Built) → ℕ
cells_found [] = 0
cells_found (result ∷ found) = cells_beside result + cells_found found

-- the line of a summary: how many modules the design has, what was built of it, and how many cells the netlist has
abbrev pub summary_line : ℕ → List ℕ → ℕ → List ℕ
summary_line modules built cells = codes "modules " ++ decimal modules ++ built ++ counted (codes "cells") cells ++ codes "\n"

-- all keys of the present design are built that are not kept, and the cells of its netlist are counted
abbrev pub summary_answer : State → Answer
summary_answer s = netlist_answer s (ok_reply (summary_line (length s.design.modules) (built_words s) (cells_in (netlist_of s).modules)))
