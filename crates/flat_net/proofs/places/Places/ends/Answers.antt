use Rattle.std.proofs.Common.{[], refl}
use Rattle.std.proofs.lemmas.Option.{slice_get_within}
use Rattle.flat_net.proofs.Kept.{within-Keeps}
use Rattle.flat_net.proofs.Reading.{Extends-then}
use Rattle.flat_net.proofs.Ending.{ends_are}
use Rattle.flat_net.proofs.places.Places.ends.Goals as goal

pub enter-requires : goal.enter-requires
enter-requires c = record { in_range = slice_get_within _ _ _ c.requires.outside }

pub role_numbers-requires : goal.role_numbers-requires
role_numbers-requires c = record { in_range = slice_get_within _ _ _ (c.in_ok-root.ensures.value [] c.requires.outside) }

pub role_numbers-requires-2 : goal.role_numbers-requires-2
role_numbers-requires-2 c = record { in_range = within-Keeps _ _ _ c.in_ok-inputs.ensures.grows.paths (slice_get_within _ _ _ (c.in_ok-root.ensures.value [] c.requires.outside)) }

pub returns-clause-grows : goal.returns-clause-grows
returns-clause-grows c = Extends-then _ _ _ (Extends-then _ _ _ c.in_ok-root.ensures.grows c.in_ok-inputs.ensures.grows) c.in_ok-outputs.ensures.grows

pub returns-clause-value : goal.returns-clause-value
returns-clause-value c =
    let path = c.in_ok-root.ensures.value [] c.requires.outside in
    ends_are _ _ _ _ (record c.args.body.now { id = c.args.id.now }) c.as_slice.result.now c.in_ok-found.found.items c.as_slice-ports.result.now _ c.args.id.now c.in_ok-inputs.ensures.grows c.in_ok-outputs.ensures.grows path refl
    refl c.as_slice-ports.ensures.value c.in_ok-found.ensures.value c.as_slice.ensures.value (c.in_ok-inputs.ensures.value _ path) (c.in_ok-outputs.ensures.value _ (c.in_ok-inputs.ensures.grows.paths _ _ path))
