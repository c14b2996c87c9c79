-- The results beside the modules of a design that changes.
use Rattle.std.specs.Prelude.{◌≡◌, ℕ, List, [], ◌∷◌, Option, Some, None, length, slice_get, if◌then◌else◌}
use Rattle.rtl_ir.specs.declared.module.Module.{Module}
use Rattle.rtl_ir.specs.Ports.{port_table_of}
use Rattle.rtl_write.specs.Ports.{ports_text}
use Rattle.design_edit.specs.Modules.{has_module}
use Rattle.script_core.specs.declared.built.Built.{Built}
use Rattle.script_core.specs.declared.word.Word.{Word}
use Rattle.script_core.specs.Keys.{below_text_at}
use Rattle.desk_core.specs.Results.{IsResultAt}

-- the result of a module, unless one of these edits has the module's name
abbrev pub unless_edited : List Module → Module → Option Built → Option Built
unless_edited edits m result = if has_module edits m.id then None else result

-- the results beside modules, but of those that are edited
abbrev pub unedited : List Module → List Module → List (Option Built) → List (Option Built)
unedited edits [] found = []
unedited edits (m ∷ modules) [] = []
unedited edits (m ∷ modules) (result ∷ found) = unless_edited edits m result ∷ unedited edits modules found

-- the module at a place of a design is one of an earlier design, of whose key there this is the result
pub record IsStillAt (script : List Word) (old new : List Module) (keys : List (List ℕ)) (at : ℕ) (built : Built) : Type 0 where
  pub was : ℕ
  pub same : slice_get new at ≡ slice_get old was
  pub result : IsResultAt script old keys was built

-- the results beside modules of a design are those that these modules had in an earlier one
abbrev pub AreStill : List Word → List Module → List Module → List (List ℕ) → List (Option Built) → Type 0
AreStill script old new keys found =
    (at : ℕ) (built : Built) → slice_get found at ≡ Some (Some built) → IsStillAt script old new keys at built

-- the module at a place sees the ports that are in the key of this result, and where the key's script flattens, it reaches the
-- modules that are in the key
pub record SeesOwn (modules : List Module) (at : ℕ) (built : Built) : Type 0 where
  pub ports : built.key.ports ≡ ports_text (record { modules = port_table_of modules at })
  pub below : built.key.below ≡ below_text_at built.key.script modules at

-- of the results beside modules some stayed, and each of these modules sees what is in the key of its result
pub record AreSeen (modules : List Module) (old new : List (Option Built)) : Type 0 where
  pub count : length new ≡ length old
  pub own :
      (at : ℕ) (built : Built) → slice_get new at ≡ Some (Some built) →
      (slice_get old at ≡ Some (Some built)) × SeesOwn modules at built
