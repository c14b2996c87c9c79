use Rattle.desk_core.proofs.CrewBuilds.{build_holds, agrees_with_desk}
use Rattle.desk_core.proofs.laws.crew_runs.Goals as goal

pub returns : goal.returns
returns c = record { holds = build_holds; agrees = agrees_with_desk }
