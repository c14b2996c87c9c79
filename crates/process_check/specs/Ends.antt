-- Places of a graph from which each chain ends.
use Rattle.std.specs.Prelude.{◌+◌, ◌≡◌, ◌⊎◌, ℕ, ◌<◌, Bool, false, List, length, nat_lt, count_by}
use Rattle.rtl_ir.specs.Faults.Recursion.{leads_within}
use Rattle.process_check.specs.Search.{In, IsMarked, followers}

-- what follows a marked place is marked, and no chain leads back to it
pub record AreEnding (graph : List (List ℕ)) (marks : List Bool) : Type 0 where
  pub size : length marks ≡ length graph
  pub closed : (i : ℕ) → IsMarked marks i → (k : ℕ) → In k (followers graph i) → IsMarked marks k
  pub off : (i : ℕ) → IsMarked marks i → (n : ℕ) → leads_within graph n i i ≡ false

-- the places that wait are below the bound
abbrev pub AreBelow : ℕ → List ℕ → Type 0
AreBelow n places = (k : ℕ) → In k places → k < n

-- all these places are marked
abbrev pub AreMarked : List Bool → List ℕ → Type 0
AreMarked marks places = (k : ℕ) → In k places → IsMarked marks k

-- places of which none follows another
abbrev pub AreUnlinked : List (List ℕ) → Type 0
AreUnlinked graph = (i k : ℕ) → In k (followers graph i) → ⊥

-- a place follows another one now, and beside that each follows those that it followed before
pub record Links (old : List (List ℕ)) (place at : ℕ) (new : List (List ℕ)) : Type 0 where
  pub there : In at (followers new place)
  pub kept : (i k : ℕ) → In k (followers old i) → In k (followers new i)
  pub only : (i k : ℕ) → In k (followers new i) → ((i ≡ place) × (k ≡ at)) ⊎ In k (followers old i)

-- how many places have followers left
abbrev pub some_left : List ℕ → ℕ
some_left left = count_by (λ n. nat_lt 0 n) left

-- what is still to be done: places that have followers left, and places that wait
abbrev pub to_do : List ℕ → List ℕ → ℕ
to_do left waiting = some_left left + length waiting
