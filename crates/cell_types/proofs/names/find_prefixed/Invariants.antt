use Rattle.std.proofs.Common.{◌≡◌, map, drop}
use Rattle.cell_types.specs.Names.{prefixed}
use Rattle.cell_types.proofs.names.find_prefixed.Given as goal

-- the text begins with none of the rows so far
abbrev pub invariant-loop-prefix : goal.invariant-loop-prefix
invariant-loop-prefix g l =
    prefixed (map (λ row. (row.0.now, row.1)) l.rows) l.text
    ≡ prefixed (map (λ row. (row.0.now, row.1)) (drop l.prefix-index l.rows)) l.text
