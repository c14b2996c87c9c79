use Rattle.std.proofs.Common.{◌≡◌, ◌++◌, ◌∷◌, [], None, arith, refl, ◌∙◌}
use Rattle.std.specs.Vec.{vec_capacity}
use Rattle.result_cache.specs.declared.call.Kept.TheVariants.{Held}
use Rattle.result_cache.specs.Stored.{look_up, value_of}
use Rattle.result_cache.proofs.Calls.{new_at, mode_absent, sound_claimed, calls_claimed, values_claimed}
use Rattle.result_cache.proofs.shard.Shard.claim_new.Goals as goal

pub invariant_of-self-2 : goal.invariant_of-self-2
invariant_of-self-2 g c =
    let new = new_at c.self.invariant c.self.view_is c.requires.absent c.in_ok-id.ensures.names c.in_ok-id.ensures.number in
    rw (new.keys_are, c.push_reserved.ensures.items, c.in_ok-reserve.ensures.items, c.push_reserved-2.ensures.items, c.in_ok-make_room.ensures.items, new.place_is)
    (sound_claimed c.args.seat (vec_capacity c.push_reserved-2.new.self) c.self.invariant new.absent (let r = c.in_ok-make_room.ensures.room in let p = c.push_reserved-2.ensures.capacity in omega arith))

pub returns-clause-ok : goal.returns-clause-ok
returns-clause-ok g c =
    let new = new_at c.self.invariant c.self.view_is c.requires.absent c.in_ok-id.ensures.names c.in_ok-id.ensures.number in (
      mode_absent c.self.invariant c.self.view_is new.absent,
      refl,
      c.in_ok-own.ensures.value,
      rw (new.keys_are, c.push_reserved-2.ensures.items, c.in_ok-make_room.ensures.items, new.place_is) (calls_claimed c.args.key.now c.args.seat c.self.invariant c.self.view_is),
    )

pub returns-clause-values : goal.returns-clause-values
returns-clause-values g c = λ q.
    let new = new_at c.self.invariant c.self.view_is c.requires.absent c.in_ok-id.ensures.names c.in_ok-id.ensures.number in
    let kept_are : c.push_reserved.new.self.items ≡ c.self.inside.kept.items ++ Held c.args.seat ∷ [] = rw (c.push_reserved.ensures.items, c.in_ok-reserve.ensures.items) refl in
    (λ j. look_up None value_of (new.keys_are j) (kept_are j) q) ∙ values_claimed c.args.seat c.self.invariant c.self.view_is new.absent q
