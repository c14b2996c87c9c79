-- How deep the forks below a fork go.
use Rattle.std.specs.Prelude.{◌≡◌, ℕ, zero, suc, Bool, true, false, List, [], ◌∷◌, slice_index_or}
use Rattle.std.specs.List.{list_all}
use Rattle.net_model.specs.Lists.{In}
use Rattle.fsm_find.specs.declared.reach.Node.{Node}

-- a fork is marked
abbrev pub is_done : List Bool → ℕ → Bool
is_done done fork = slice_index_or done fork false

-- the forks below a fork go less than so many levels deep
abbrev pub IsShallow : List Node → ℕ → ℕ → Type 0
IsShallow nodes zero fork = ⊥
IsShallow nodes (suc n) fork = (node : Node) × In node nodes × (node.fork ≡ fork) × ((at : ℕ) → In at node.below.items → IsShallow nodes n at)

-- how many forks are marked
abbrev pub marks : List Bool → ℕ
marks [] = 0
marks (true ∷ done) = suc (marks done)
marks (false ∷ done) = marks done

-- marked forks go less deep than forks are marked, or as deep
abbrev pub AreShallow : List Node → List Bool → Type 0
AreShallow nodes done = (fork : ℕ) → is_done done fork ≡ true → IsShallow nodes (marks done) fork

-- a node that is not marked has a fork below that is not
abbrev pub IsStuck : List Bool → Node → Type 0
IsStuck done node = is_done done node.fork ≡ false → list_all (is_done done) node.below.items ≡ false
