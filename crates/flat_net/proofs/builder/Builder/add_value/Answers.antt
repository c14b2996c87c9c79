use Rattle.std.proofs.Common.{[], ◌∷◌}
use Rattle.std.proofs.lemmas.Option.{get_or_from_slice_get, slice_get_within}
use Rattle.rtl_ir.specs.Flat.Driver.{Joined}
use Rattle.flat_net.proofs.Adding.{Adds-part}
use Rattle.flat_net.proofs.Kept.{within-Keeps}
use Rattle.flat_net.proofs.Reading.{Extends-then, IsPoint-kept}
use Rattle.flat_net.proofs.builder.Builder.add_value.Goals as goal

pub bit-requires : goal.bit-requires
bit-requires c = record { in_range = within-Keeps _ _ _ c.in_ok-from.ensures.grows.paths c.requires.in_range }

pub returns-clause-rows : goal.returns-clause-rows
returns-clause-rows c = λ p path.
    let e = Extends-then _ _ _ c.in_ok-from.ensures.grows c.in_ok-to.ensures.grows in
    let from = IsPoint-kept _ _ c.in_ok-to.ensures.grows.places c.in_ok-from.from _ (c.in_ok-from.ensures.value p path) in
    let there = c.in_ok-to.ensures.value p (c.in_ok-from.ensures.grows.paths _ _ path) in
    let place = get_or_from_slice_get c.bit.new.self.places c.in_ok-to.to _ _ there in
    Adds-part _ _ _ _ e c.in_ok-push.ensures.items (λ i. record { place = place i; driver = Joined (from.is i) } ∷ []) (slice_get_within c.bit.new.self.places c.in_ok-to.to _ there, from.within)
