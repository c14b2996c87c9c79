-- The search for a way back to a place of a graph.
use Rattle.std.specs.Prelude.{◌+◌, ◌-◌, ◌≡◌, ◌≢◌, ◌⊎◌, ℕ, zero, suc, ◌<◌, Bool, true, false, List, [], ◌∷◌, ◌++◌, if◌then◌else◌, length, map, slice_index_or, count_by, Vec}
use Rattle.std.specs.declared.alloc.Global.{Global}

-- the rows of a graph: for each place those that follow it
abbrev pub rows_of : List (Vec ℕ Global) → List (List ℕ)
rows_of graph = map (λ (v : Vec ℕ Global). v.items) graph

-- the places that follow one
abbrev pub followers : List (List ℕ) → ℕ → List ℕ
followers graph k = slice_index_or graph k []

-- a place stands in a list
abbrev pub In : ℕ → List ℕ → Type 0
In k [] = ⊥
In k (x ∷ xs) = (k ≡ x) ⊎ In k xs

-- each follower is a place of the graph
abbrev pub IsGraph : List (List ℕ) → Type 0
IsGraph graph = (i k : ℕ) → In k (followers graph i) → k < length graph

-- a chain of at most so many steps leads from one place to another
abbrev pub Within : List (List ℕ) → ℕ → ℕ → ℕ → Type 0
Within graph zero i j = ⊥
Within graph (suc n) i j = (k : ℕ) × In k (followers graph i) × ((k ≡ j) ⊎ Within graph n k j)

-- a place is marked
abbrev pub IsMarked : List Bool → ℕ → Type 0
IsMarked seen k = slice_index_or seen k false ≡ true

-- how many places are marked
abbrev pub marks : List Bool → ℕ
marks seen = count_by (λ b. b) seen

-- a place is the start, or no more steps than there are marks lead from the start to it
abbrev pub IsReached : List (List ℕ) → ℕ → List Bool → ℕ → Type 0
IsReached graph start seen k = (k ≡ start) ⊎ Within graph (marks seen) start k

-- a follower that was looked at: it is not the start, and it is marked
abbrev pub IsLooked : ℕ → List Bool → ℕ → Type 0
IsLooked start seen k = (k ≢ start) × IsMarked seen k

-- the places that wait, with one that is new
abbrev pub with_new : List Bool → List ℕ → ℕ → List ℕ
with_new seen waiting k = if slice_index_or seen k false then waiting else waiting ++ k ∷ []

-- a place is done with: each of its followers was looked at
abbrev pub IsDone : List (List ℕ) → ℕ → List Bool → ℕ → Type 0
IsDone graph start seen k = (c : ℕ) → In c (followers graph k) → IsLooked start seen c

-- there is a mark for each place, but none at the start
pub record AreMarks (graph : List (List ℕ)) (start : ℕ) (seen : List Bool) : Type 0 where
  pub size : length seen ≡ length graph
  pub below : start < length graph
  pub fresh : slice_index_or seen start false ≡ false

-- between two places: what waits was reached, and what was reached waits or is done with
pub record Searching (graph : List (List ℕ)) (start : ℕ) (seen : List Bool) (waiting : List ℕ) : Type 0 where
  pub are : AreMarks graph start seen
  pub reached : (k : ℕ) → In k waiting → (k < length graph) × IsReached graph start seen k
  pub closed : (k : ℕ) → (k ≡ start) ⊎ IsMarked seen k → In k waiting ⊎ IsDone graph start seen k

-- at a place, of whose followers these are left to look at
pub record Visiting (graph : List (List ℕ)) (start : ℕ) (seen : List Bool) (waiting : List ℕ) (at : ℕ) (left : List ℕ) : Type 0 where
  pub are : AreMarks graph start seen
  pub here : (at < length graph) × IsReached graph start seen at
  pub reached : (k : ℕ) → In k waiting → (k < length graph) × IsReached graph start seen k
  pub looked : (c : ℕ) → In c (followers graph at) → In c left ⊎ IsLooked start seen c
  pub closed : (k : ℕ) → (k ≡ start) ⊎ IsMarked seen k → (k ≡ at) ⊎ (In k waiting ⊎ IsDone graph start seen k)

-- what is still to be done: places without a mark, and places that wait
abbrev pub work_left : List Bool → List ℕ → ℕ
work_left seen waiting = (length seen - marks seen) + length waiting
