-- Crews that build what a desk needs, and that they agree with a desk on one thread.
use Rattle.std.specs.Prelude.{◌≡◌, ℕ, ◌-◌, List, ◌++◌, codes, length}
use Rattle.result_cache.specs.Filled.{with_keys}
use Rattle.reply_lines.specs.Lines.{counted}
use Rattle.script_core.specs.declared.built.Built.{Built}
use Rattle.script_core.specs.Built.{IsValueOf}
use Rattle.script_core.specs.Cold.{cold}
use Rattle.script_core.specs.Keys.{KeyParts, key_text}
use Rattle.desk_core.specs.Crew.{Crew, Event}
use Rattle.desk_core.specs.CrewRuns.{IsCrewRun, CrewHolds, KnowsFilled}
use Rattle.desk_core.specs.Ages.{texts_of}
use Rattle.desk_core.specs.Netlist.{built_count, key_text_at, key_texts}
use Rattle.desk_core.specs.Results.{outcomes_of, over_of}
use Rattle.desk_core.specs.State.{State}
use Rattle.desk_core.specs.Told.{told_by, told_of}

-- a result is the value of each key that has this text
abbrev pub IsResultOf : Built → List ℕ → Type 0
IsResultOf built text = (key : KeyParts) → key_text key ≡ text → IsValueOf key built.outcome

module _ (s : State) where
  -- a run of a crew of so many workers for a desk in this state: job n is the module at place n
  abbrev pub IsBuild : ℕ → Crew Built → List (Event Built) → Crew Built → Type 0
  IsBuild workers first events last = IsCrewRun IsResultOf (key_text_at s.script s.design.modules) workers (length s.design.modules) first events last

  -- what holds of it at its end, whatever the order of its events
  abbrev pub BuildHolds : Crew Built → List (Event Built) → Crew Built → Type 0
  BuildHolds first events last = CrewHolds IsResultOf (key_text_at s.script s.design.modules) first events last

  -- a crew that is done agrees with a desk on one thread: its outputs are the cold run, as many keys were built, the same keys are kept until some are given up, and so the same is told
  pub record AgreesWithDesk (last : Crew Built) : Type 0 where
    pub outcomes : outcomes_of s.design.modules last.outputs ≡ cold s.script s.design
    pub builds : last.builds ≡ built_count s
    pub kept : KnowsFilled (with_keys (texts_of s.kept) (key_texts s.script s.design.modules)) last
    pub told :
        told_by (counted (codes "built") last.builds ++ counted (codes "reused") (length s.design.modules - last.builds)) (over_of s.design.modules last.outputs)
        ≡ told_of s
