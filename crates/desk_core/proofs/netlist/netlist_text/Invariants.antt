use Rattle.std.proofs.Common.{◌≡◌, ◌++◌, drop}
use Rattle.std.specs.List.{flat_map}
use Rattle.rtl_write.specs.Text.{module_text}
use Rattle.desk_core.specs.Netlist.{done_modules}
use Rattle.desk_core.specs.Results.{outcomes_of}
use Rattle.desk_core.proofs.netlist.netlist_text.Given as goal

-- the text so far, and that of the modules that are left, are the whole
abbrev pub invariant-loop-at : goal.invariant-loop-at
invariant-loop-at l =
    l.out ++ flat_map module_text (done_modules (outcomes_of (drop l.at l.modules) (drop l.at l.found))) ≡ flat_map module_text (done_modules (outcomes_of l.modules l.found))
