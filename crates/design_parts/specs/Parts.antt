-- Parts of a design: some of its modules, and of the modules that these need as much as they need.
use Rattle.std.specs.Prelude.{ℕ, Bool, not, ◌&&◌, ◌||◌, List, [], codes, filter, length, map, if◌then◌else◌}
use Rattle.std.specs.List.{list_any}
use Rattle.std.specs.Str.{bytes_eq}
use Rattle.rtl_ir.specs.declared.cell.Cell.{Cell}
use Rattle.rtl_ir.specs.declared.module.Design.{Design}
use Rattle.rtl_ir.specs.declared.module.Module.{Module}
use Rattle.rtl_ir.specs.declared.value.Attribute.{Attribute}
use Rattle.rtl_ir.specs.declared.wire.Wire.{Wire}
use Rattle.rtl_ir.specs.Ports.{instantiates, is_port}
use Rattle.script_core.specs.declared.outcome.Outcome.{Outcome}
use Rattle.script_core.specs.declared.word.Word.{Word}
use Rattle.script_core.specs.Cold.{outcome_of}
use Rattle.script_core.specs.Reached.{leads_to}
use Rattle.script_core.specs.Words.{flattens}

-- a wire without its attributes
abbrev pub bare : Wire → Wire
bare w = record w { attributes = [] }

-- the place in a source text
abbrev pub is_source : Attribute → Bool
is_source a = bytes_eq a.name (codes "\\src")

-- a module as its parents see it: its name, its attributes but for its place in a source text, and its ports
abbrev pub face : Module → Module
face m = record {
  id = m.id;
  attributes = filter (λ a. not (is_source a)) m.attributes;
  parameters = [];
  wires = map bare (filter (λ w. is_port w.role) m.wires);
  memories = [];
  cells = [];
  processes = [];
  links = [];
}

-- what a script makes of a module with these cells depends on the module of this name: it is instantiated or, where the
-- script flattens, reached
abbrev pub depends : List Word → List Module → List Cell → List ℕ → Bool
depends script modules cells id = if flattens script then leads_to (length modules) modules cells id else instantiates cells id

-- a part with the modules whose names pass a test as its own has the module of this name: it is its own, or one of its own
-- depends on it
abbrev pub has_name : List Word → (List ℕ → Bool) → List Module → List ℕ → Bool
has_name script own modules id = own id || list_any (λ m. own m.id && depends script modules m.cells id) modules

-- a module as a part has it: whole where it is the part's own, and where the script flattens, else its face
abbrev pub shown : List Word → (List ℕ → Bool) → Module → Module
shown script own m = if own m.id || flattens script then m else face m

-- the part of a design that has the modules whose names pass a test as its own, in the order of the design
abbrev pub part : List Word → (List ℕ → Bool) → List Module → List Module
part script own modules = map (shown script own) (filter (λ m. has_name script own modules m.id) modules)

-- the modules whose names pass a test
abbrev pub owned : (List ℕ → Bool) → List Module → List Module
owned own modules = filter (λ m. own m.id) modules

-- the outcomes of the modules of a design, in its order: of each in the cold run of the part that it stands in
abbrev pub gathered : List Word → (List ℕ → List ℕ → Bool) → Design → List Outcome
gathered script part_of d = map (λ m. outcome_of script (part script (part_of m.id) d.modules) m) d.modules
