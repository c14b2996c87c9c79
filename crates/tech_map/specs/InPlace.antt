-- Gates that stand in a row, put into the places of the cells that they replace.
use Rattle.std.specs.Prelude.{ℕ, List, [], ◌∷◌, ◌++◌, length, take, drop, get_or, Option, Some, None}
use Rattle.cell_types.specs.declared.kind.CellKind.{CellKind}
use Rattle.rtl_ir.specs.Build.{Building}
use Rattle.rtl_ir.specs.declared.cell.Cell.{Cell}
use Rattle.map_laws.specs.Expansion.{cells_added}
use Rattle.tech_map.specs.Techmap.{taken_kind, with_gates}

-- how many gates a cell has, where it becomes gates
abbrev pub count_of : Option CellKind → Cell → Building → List ℕ
count_of (Some kind) c b = length (cells_added b (with_gates (Some kind) c b)) ∷ []
count_of None c b = []

-- the same of each of these cells that becomes gates
abbrev pub counts_of : List Cell → Building → List ℕ
counts_of [] b = []
counts_of (c ∷ cs) b = count_of (taken_kind c) c b ++ counts_of cs (with_gates (taken_kind c) c b)

-- the first of these counts
abbrev pub first_count : List ℕ → ℕ
first_count counts = get_or counts 0 0

-- what of the gates stands in the place of a cell: as many as the first count says, or the cell itself
abbrev pub first_of : Option CellKind → Cell → List ℕ → List Cell → List Cell
first_of (Some kind) c counts gates = take (first_count counts) gates
first_of None c counts gates = c ∷ []

-- the counts of the cells behind it
abbrev pub counts_after : Option CellKind → List ℕ → List ℕ
counts_after (Some kind) counts = drop 1 counts
counts_after None counts = counts

-- the gates of the cells behind it
abbrev pub rest_of : Option CellKind → List ℕ → List Cell → List Cell
rest_of (Some kind) counts gates = drop (first_count counts) gates
rest_of None counts gates = gates

-- the cells in order, with the gates in the places of those that become gates
abbrev pub put_in : List Cell → List ℕ → List Cell → List Cell
put_in [] counts gates = []
put_in (c ∷ cs) counts gates =
    first_of (taken_kind c) c counts gates
    ++ put_in cs (counts_after (taken_kind c) counts) (rest_of (taken_kind c) counts gates)
