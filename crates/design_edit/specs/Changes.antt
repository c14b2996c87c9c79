-- Changes of modules, and the modules as they were before them.
use Rattle.std.specs.Prelude.{ℕ, List, [], ◌∷◌, Option, Some, None, slice_set, take}
use Rattle.rtl_ir.specs.declared.module.Module.{Module}
use Rattle.design_edit.specs.declared.changes.Change.{Change}

-- modules before one was put at a place: what it took the place of stands there again, or nothing stands there and behind it
abbrev pub before_at : ℕ → Option Module → List Module → List Module
before_at at None modules = take at modules
before_at at (Some old) modules = slice_set modules at old

-- the modules before some changes, of which the last is taken back first
abbrev pub before_changes : List Change → List Module → List Module
before_changes [] modules = modules
before_changes (c ∷ changes) modules = before_at c.at c.old (before_changes changes modules)
