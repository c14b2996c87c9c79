-- The places of cells that are to be entered by what they read now.
use Rattle.std.specs.Prelude.{ℕ, List, [], map, slice_index_or}
use Rattle.std.specs.HashSet.{HashSet}
use Rattle.opt_merge.specs.declared.late.Late.{Late}
use Rattle.opt_merge.specs.Classes.{class_of}

-- the places of each of these sets
abbrev pub lists_of : {S : Type 0} → List (HashSet ℕ S) → List (List ℕ)
lists_of {S} sets = map (λ (s : HashSet ℕ S). s.keys) sets

-- the places of the cells that are to be entered whose rows are about so long
abbrev pub late_at : Late → ℕ → List ℕ
late_at late row = slice_index_or (lists_of late.places.items) (class_of row) []
