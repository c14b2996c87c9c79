use Rattle.std.proofs.Common.{◌≡◌, [], take, map}
use Rattle.std.specs.List.{fold}
use Rattle.rtl_write.specs.PortTables.{with_line}
use Rattle.rtl_write.proofs.port_table.modules_of.Given as goal

-- the modules of the lines so far
abbrev pub invariant-loop-line : goal.invariant-loop-line
invariant-loop-line l = l.modules.items ≡ fold with_line [] (map (λ line. line.now) (take l.line-index l.line-items))
