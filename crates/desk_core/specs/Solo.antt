-- A desk that keeps its results itself, and finds those that it lacks in a cache that other desks share.
use Rattle.std.specs.Prelude.{◌≡◌, ◌≢◌, ◌≤◌, ℕ, true, false, List, Option, Some, slice_set}
use Rattle.std.specs.Str.{bytes_eq}
use Rattle.rtl_bits.specs.Counts.{risen}
use Rattle.rtl_ir.specs.declared.module.Design.{Design}
use Rattle.rtl_sig.specs.Names.{has_name}
use Rattle.result_cache.specs.Counts.{claims, count_of, drops, fills, give_backs, times_of}
use Rattle.result_cache.specs.Filled.{HoldsNone, filled_keys}
use Rattle.result_cache.specs.History.{held}
use Rattle.result_cache.specs.Seats.{Seated}
use Rattle.result_cache.specs.Stored.{Contents, mode_at}
use Rattle.result_cache.specs.declared.call.Call.{Call}
use Rattle.build_crew.specs.Calls.{MadeMore}
use Rattle.script_core.specs.declared.built.Built.{Built}
use Rattle.script_core.specs.declared.word.Word.{Word}
use Rattle.desk_core.specs.declared.own_results.OwnResults.{OwnResults}
use Rattle.desk_core.specs.Ages.{kept_in}
use Rattle.desk_core.specs.Results.{AreAged, AreBeside}
use Rattle.desk_core.specs.State.{State}

-- the results of a desk with this design and script: no key of its own shard is held, the shard has the keys that have an
-- age, and beside a module stands the result of its key, or nothing
pub record AreOwn (design : Design) (script : List Word) (results : OwnResults) : Type 0 where
  pub free : HoldsNone results.shard
  pub aged : AreAged results.ages (filled_keys results.shard)
  pub stand : AreBeside (filled_keys results.shard) design script results.found.items

-- no key of a shard is held but this one
abbrev pub HoldsNoOther : {V : Type 0} → List ℕ → Contents V → Type 0
HoldsNoOther key s = (q : List ℕ) (seat : ℕ) → bytes_eq key q ≡ false → mode_at s q ≢ held seat

-- the state of a desk with them: it keeps the keys that have an age
abbrev pub own_state : Design → List Word → OwnResults → State
own_state design script results =
    record { design = design; script = script; kept = kept_in results.ages.keys results.ages.ages.items }

-- the result of the module at a place stands beside it, and the others are as they were
abbrev pub IsFoundAt : List (Option Built) → List (Option Built) → ℕ → Type 0
IsFoundAt old new at = (built : Built) × (new ≡ slice_set old at (Some built))

-- a seat, of a desk that keeps some keys and asks for these, filled no others and claimed none that was kept; there were so
-- many steps as it filled, it gave no ticket back, and it gave up no value
pub record HasBuilt (kept keys : List (List ℕ)) (old new : Seated) (n : ℕ) : Type 0 where
  pub more : List Call
  pub made : MadeMore old new more
  pub claimed : (q : List ℕ) → has_name kept q ≡ true → times_of claims q more ≡ 0
  pub filled : (q : List ℕ) → 1 ≤ times_of fills q more → has_name keys q ≡ true
  pub dropped : (q : List ℕ) → times_of drops q more ≡ 0
  pub gave : count_of give_backs more ≡ 0
  pub ticks : n ≡ count_of fills more

-- a meter rose by the steps of what such a seat did
abbrev pub Builds : List (List ℕ) → List (List ℕ) → Seated → Seated → ℕ → ℕ → Type 0
Builds kept keys old new before after = (n : ℕ) × (after ≡ risen before n) × HasBuilt kept keys old new n
