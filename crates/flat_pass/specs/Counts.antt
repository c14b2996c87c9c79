-- How often names stand in a module.
use Rattle.std.specs.Prelude.{◌≡◌, ℕ, ◌+◌, ◌≤◌, List, [], ◌∷◌, unwrap_or, if◌then◌else◌}
use Rattle.std.specs.Global.{Vec}
use Rattle.std.specs.HashMap.{get_by}
use Rattle.std.specs.Str.{bytes_eq}
use Rattle.rtl_ir.specs.Build.{Building, module_names}
use Rattle.flat_pass.specs.declared.counts.Counts.{Counts}
use Rattle.flat_pass.specs.declared.namer.Namer.{Namer}

-- how often a name is counted
abbrev pub count_of : Counts → List ℕ → ℕ
count_of counts name = unwrap_or (get_by (λ (k : Vec ℕ). bytes_eq name k.items) counts.found) 0

-- how often a name stands among names
abbrev pub times : List (List ℕ) → List ℕ → ℕ
times [] name = 0
times (n ∷ names) name = (if bytes_eq name n then 1 else 0) + times names name

-- a name is counted so often, and all others as before
abbrev pub Counted : Counts → Counts → List ℕ → ℕ → Type 0
Counted old new name count = (n : List ℕ) → count_of new n ≡ (if bytes_eq n name then count else count_of old n)

-- the names of a module are counted, and fresh names go on as they do in it
pub record AreNames (namer : Namer) (b : Building) : Type 0 where
  pub counts : (name : List ℕ) → count_of namer.counts name ≡ times (module_names b.body) name
  pub next : namer.next ≡ b.next
  pub small : b.next ≤ 1000000000
