use Rattle.std.proofs.Common.{arith, refl}
use Rattle.std.specs.Vec.{vec_capacity}
use Rattle.result_cache.specs.declared.call.Act.TheVariants.{GiveBack}
use Rattle.result_cache.specs.declared.call.Kept.TheVariants.{Free}
use Rattle.result_cache.proofs.Calls.{found_at, none_here, held_known, held_found, sound_spent, calls_become, values_stay}
use Rattle.result_cache.proofs.shard.Shard.give_back.Goals as goal

pub unreachable-requires : goal.unreachable-requires
unreachable-requires g c = held_known c.self.invariant c.self.view_is c.requires.held (none_here c.in_default.ensures.found c.as_slice.ensures.value)

pub push_reserved-requires : goal.push_reserved-requires
push_reserved-requires g c =
    let at = held_found c.self.invariant c.self.view_is c.requires.held (found_at c.in-Some.ensures.within c.in-Some.ensures.text c.as_slice.ensures.value) in
    let some = at.some_owed in let r = c.self.invariant.reserved in let n = c.self.inside.entries.ok.0 in omega arith

pub overflow_sub-self : goal.overflow_sub-self
overflow_sub-self g c = (held_found c.self.invariant c.self.view_is c.requires.held (found_at c.in-Some.ensures.within c.in-Some.ensures.text c.as_slice.ensures.value)).some_owed

pub invariant_of-self : goal.invariant_of-self
invariant_of-self g c =
    let at = held_found c.self.invariant c.self.view_is c.requires.held (found_at c.in-Some.ensures.within c.in-Some.ensures.text c.as_slice.ensures.value) in
    rw (c.push_reserved.ensures.items) (sound_spent c.args.seat GiveBack Free 2 (vec_capacity c.push_reserved.new.self) c.self.invariant at refl refl tt refl refl (omega arith) c.push_reserved.ensures.capacity)

pub returns-clause-history : goal.returns-clause-history
returns-clause-history g c =
    rw (c.push_reserved.ensures.items) (calls_become c.args.seat GiveBack c.self.invariant c.self.view_is (found_at c.in-Some.ensures.within c.in-Some.ensures.text c.as_slice.ensures.value))

pub returns-clause-values : goal.returns-clause-values
returns-clause-values g c =
    let at = held_found c.self.invariant c.self.view_is c.requires.held (found_at c.in-Some.ensures.within c.in-Some.ensures.text c.as_slice.ensures.value) in
    values_stay Free Free c.self.invariant c.self.view_is at.at at.is refl
