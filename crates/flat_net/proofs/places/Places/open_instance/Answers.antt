use Rattle.std.proofs.Common.{◌≡◌, ◌-◌, suc, refl, [], arith}
use Rattle.flat_net.proofs.Treeing.{Opens-no_level, Opens-library, Opens-missing, Opens-found, one_pathed}
use Rattle.std.proofs.lemmas.Option.{slice_get-get_or}
use Rattle.flat_net.proofs.places.Places.open_instance.Goals as goal
use Rattle.flat_net.proofs.places.Places.open_instance.Goals.{then-below-eq0-via-then-below-eq0, then-below-eq0-via-else-below-eq0+then-is_some}

pub returns-then-below-eq0-clause-opens : goal.returns-then-below-eq0-clause-opens
returns-then-below-eq0-clause-opens c = λ d table p path. elim c.then-below-eq0.branch [
  | then-below-eq0-via-then-below-eq0 w ↦ Opens-no_level d _ _ _ p _ w.if-below-eq0.true
  | then-below-eq0-via-else-below-eq0+then-is_some w ↦ Opens-library d _ _ _ p c.args.cell.now _ _ _ c.as_slice-id.ensures.value w.kind_of.ensures.value w.is_some.ensures w.if-is_some.true
]

pub returns-in_default-clause-opens : goal.returns-in_default-clause-opens
returns-in_default-clause-opens c = λ d table p path.
    Opens-missing d _ _ _ p c.args.cell.now _ _ _ c.as_slice-id.ensures.value c.kind_of.ensures.value c.is_some.ensures c.if-is_some.false (c.in_default.ensures.value d.modules table)

pub returns-clause-opens : goal.returns-clause-opens
returns-clause-opens c = λ d table p path.
    let levels : suc (c.args.below - 1) ≡ c.args.below = omega arith in
    Opens-found d _ _ _ p c.args.cell.now _ _ _ c.as_slice-id.ensures.value c.kind_of.ensures.value c.is_some.ensures c.if-is_some.false _ _ c.in-Some.entry.now _ (c.in-Some.ensures.value d.modules table) refl levels
    c.as_slice.ensures.value (c.in_ok-enter.ensures.value p path) c.in_ok-push.ensures.items

pub returns-clause-pathed : goal.returns-clause-pathed
returns-clause-pathed c = λ h.
    one_pathed _ _ _ _ _ _ c.in_ok-enter.ensures.grows.paths h c.in_ok-push.ensures.items (c.in_ok-enter.ensures.value _ (slice_get-get_or _ _ [] c.requires.in_range))
