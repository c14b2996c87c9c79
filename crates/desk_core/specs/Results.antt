-- What is kept of results: under their keys, and beside the modules.
use Rattle.std.specs.Prelude.{◌≡◌, ◌<◌, ◌≤◌, ℕ, true, List, [], ◌∷◌, ◌++◌, Option, Some, None, length, slice_get}
use Rattle.std.specs.List.{list_all}
use Rattle.std.specs.Option.{is_some, option_or}
use Rattle.rtl_ir.specs.declared.module.Design.{Design}
use Rattle.rtl_ir.specs.declared.module.Module.{Module}
use Rattle.rtl_sig.specs.Names.{has_name}
use Rattle.rtl_readable.specs.Readable.{IsReadable}
use Rattle.atomic_table.specs.Seated.{TableId}
use Rattle.result_cache.specs.Meet.{Share}
use Rattle.result_cache.specs.Seats.{Seated}
use Rattle.build_crew.specs.Kept.{AreAllSeats, HasStill, kept_by}
use Rattle.build_crew.specs.declared.finding.Found.{Found}
use Rattle.script_core.specs.declared.built.Built.{Built}
use Rattle.script_core.specs.declared.outcome.Outcome.{Outcome}
use Rattle.script_core.specs.declared.word.Word.{Word}
use Rattle.script_core.specs.Built.{IsValueOf}
use Rattle.script_core.specs.Cold.{named}
use Rattle.script_core.specs.Keys.{KeyParts, key_of}
use Rattle.desk_core.specs.declared.ages.Ages.{Ages}
use Rattle.desk_core.specs.declared.results.Results.{Results}
use Rattle.desk_core.specs.Ages.{kept_in, oldest, texts_of}
use Rattle.desk_core.specs.Netlist.{key_text_at, module_keys, over_line}
use Rattle.desk_core.specs.State.{DeskView, State}

-- a result is that of the key of the module at a place, and the key is kept
pub record IsResultAt (script : List Word) (modules : List Module) (keys : List (List ℕ)) (at : ℕ) (built : Built) : Type 0 where
  pub key : built.key ≡ key_of modules at script
  pub value : IsValueOf built.key built.outcome
  pub kept : has_name keys (key_text_at script modules at) ≡ true

-- these are all seats of a cache, at least one and at most 64, none of them has a ticket, and they share one history of each
-- shard
pub record AreSeated (cache : TableId) (shards : ℕ) (seats : List Seated) : Type 0 where
  pub some : 0 < length seats
  pub few : length seats ≤ 64
  pub all : AreAllSeats cache (length seats) shards 0 seats
  pub shared : Share shards seats

-- the keys of the modules of a design are told by a table of these modules, and by the results beside them
pub record TellKeys (design : Design) (table : List Module) (script : List Word) (found : List (Option Built)) : Type 0 where
  pub readable : IsReadable design
  pub same : table ≡ design.modules
  pub beside : length found ≡ length design.modules
  pub own :
      (at : ℕ) (built : Built) → slice_get found at ≡ Some (Some built) →
      built.key ≡ key_of design.modules at script

-- these are the keys of the modules of a readable design, by a table of these modules
pub record AreKeys (design : Design) (table : List Module) (script : List Word) (keys : List KeyParts) : Type 0 where
  pub readable : IsReadable design
  pub same : table ≡ design.modules
  pub all : keys ≡ module_keys script design.modules

-- beside the modules of a readable design stand the results of their keys, which are among these, or nothing
pub record AreBeside (keys : List (List ℕ)) (design : Design) (script : List Word) (found : List (Option Built)) : Type 0 where
  pub readable : IsReadable design
  pub beside : length found ≡ length design.modules
  pub own :
      (at : ℕ) (built : Built) → slice_get found at ≡ Some (Some built) →
      IsResultAt script design.modules keys at built

-- the keys of a table that have an age are among these, and no age passes the greatest
pub record AreAged (ages : Ages) (keys : List (List ℕ)) : Type 0 where
  pub beside : length ages.ages.items ≡ length ages.keys
  pub kept : HasStill (texts_of (kept_in ages.keys ages.ages.items)) keys
  pub young : (at age : ℕ) → slice_get ages.ages.items at ≡ Some (Some age) → age ≤ oldest

-- the results of a desk with this design and script: the seats are all seats of the cache and have no ticket, the keys that
-- have an age are kept, and beside a module stands the result of its key, or nothing
pub record AreSound (design : Design) (script : List Word) (results : Results) : Type 0 where
  pub readable : IsReadable design
  pub idle : AreSeated results.cache.table.shared.table_id results.cache.shards results.seats.items
  pub aged : AreAged results.ages (kept_by results.seats.items)
  pub beside : length results.found.items ≡ length design.modules
  pub own :
      (at : ℕ) (built : Built) → slice_get results.found.items at ≡ Some (Some built) →
      IsResultAt script design.modules (kept_by results.seats.items) at built

-- what was found at each place is the result of the key of the module there
abbrev pub AreAnswers : List Word → List Module → List (Found Built) → Type 0
AreAnswers script modules items =
    (at : ℕ) (found : Found Built) → slice_get items at ≡ Some found →
    (found.value.key ≡ key_of modules at script) × IsValueOf found.value.key found.value.outcome

-- beside each module stands its result
abbrev pub AreFound : List (Option Built) → Type 0
AreFound found = list_all is_some found ≡ true

-- the outcome of the result beside a module, under the module's own name, where it has one
abbrev pub outcome_beside : Module → Option Built → List Outcome
outcome_beside m None = []
outcome_beside m (Some built) = named m.id built.outcome ∷ []

-- the outcomes of the results beside modules
abbrev pub outcomes_of : List Module → List (Option Built) → List Outcome
outcomes_of [] found = []
outcomes_of (m ∷ modules) [] = []
outcomes_of (m ∷ modules) (result ∷ found) = outcome_beside m result ++ outcomes_of modules found

-- the error of a module by the result beside it
abbrev pub over_beside : Module → Option Built → Option (List ℕ)
over_beside m None = None
over_beside m (Some built) = over_line m built.outcome

-- the error of the first module by the results beside them
abbrev pub over_of : List Module → List (Option Built) → Option (List ℕ)
over_of [] found = None
over_of (m ∷ modules) [] = None
over_of (m ∷ modules) (result ∷ found) = option_or (over_beside m result) (over_of modules found)

-- the state of a desk with this design, script and results
abbrev pub state_of : Design → List Word → Results → State
state_of design script results = record { design = design; script = script; kept = kept_in results.ages.keys results.ages.ages.items }

-- what contracts see of a desk with them
abbrev pub view_of : Design → List Word → Results → DeskView
view_of design script results = record { state = state_of design script results; seats = results.seats.items }
