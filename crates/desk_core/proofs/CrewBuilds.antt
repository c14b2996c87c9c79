-- A crew that is done agrees with a desk on one thread.
use Rattle.std.proofs.Common.{◌≡◌, ℕ, ◌-◌, List, ◌++◌, length, refl, ap, ◌∙◌}
use Rattle.std.specs.Prelude.{codes}
use Rattle.rtl_readable.specs.Readable.{IsReadable}
use Rattle.reply_lines.specs.Lines.{counted}
use Rattle.script_core.specs.declared.built.Built.{Built}
use Rattle.script_core.specs.Cold.{cold, outcome_of}
use Rattle.script_core.specs.Keys.{key_of}
use Rattle.script_core.proofs.Refining.{value_named}
use Rattle.desk_core.specs.Crew.{Crew, Event}
use Rattle.desk_core.specs.CrewRuns.{AgreesAlone, KnowsFilled, AllDone}
use Rattle.desk_core.specs.CrewBuilds.{IsBuild, BuildHolds, AgreesWithDesk}
use Rattle.desk_core.specs.Ages.{texts_of}
use Rattle.desk_core.specs.Netlist.{built_count, key_text_at, over_words}
use Rattle.desk_core.specs.Results.{outcomes_of, over_of}
use Rattle.desk_core.specs.State.{State}
use Rattle.desk_core.specs.Told.{told_by}
use Rattle.desk_core.proofs.CrewEnds.{crew_holds, agrees_alone}
use Rattle.desk_core.proofs.Outcomes.{outcomes_are, over_outcomes}

pub build_holds : (s : State) (workers : ℕ) (first last : Crew Built) (events : List (Event Built)) → IsBuild s workers first events last → BuildHolds s first events last
build_holds s workers first last events run = crew_holds workers (length s.design.modules) first last events run

pub agrees_with_desk : (s : State) (workers : ℕ) (first last : Crew Built) (events : List (Event Built)) → IsReadable s.design → IsBuild s workers first events last
    → KnowsFilled (texts_of s.kept) first → AllDone last → AgreesWithDesk s last
agrees_with_desk s workers first last events readable run knows all = record {
  outcomes = outcomes;
  builds = alone.builds;
  kept = alone.filled;
  told =
      ap (λ (n : ℕ). told_by (counted (codes "built") n ++ counted (codes "reused") (length s.design.modules - n)) (over_of s.design.modules last.outputs)) alone.builds
      ∙ ap (told_by (counted (codes "built") (built_count s) ++ counted (codes "reused") (length s.design.modules - built_count s)))
      (over_outcomes s.design.modules last.outputs alone.len all ∙ ap (over_words s.design.modules) outcomes);
}
  where
    alone : AgreesAlone (key_text_at s.script s.design.modules) (length s.design.modules) (texts_of s.kept) last
    alone = agrees_alone workers (length s.design.modules) first last events (texts_of s.kept) run knows all

    holds : BuildHolds s first events last
    holds = build_holds s workers first last events run

    outcomes : outcomes_of s.design.modules last.outputs ≡ cold s.script s.design
    outcomes =
        outcomes_are (outcome_of s.script s.design.modules) s.design.modules last.outputs
        (λ i m b at there. value_named s.design readable i m at s.script b.outcome (holds.outputs i b there (key_of s.design.modules i s.script) refl))
        alone.len all
