use Rattle.std.proofs.Common.{◌≡◌, map, drop}
use Rattle.cell_types.specs.Names.{named}
use Rattle.cell_types.proofs.names.find_named.Given as goal

-- the rows so far have other names
abbrev pub invariant-loop-text : goal.invariant-loop-text
invariant-loop-text g l =
    named (map (λ row. (row.0.now, row.1)) l.rows) l.name
    ≡ named (map (λ row. (row.0.now, row.1)) (drop l.text-index l.rows)) l.name
