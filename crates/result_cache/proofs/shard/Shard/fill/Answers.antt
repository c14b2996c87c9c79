use Rattle.std.proofs.Common.{◌≡◌, ◌++◌, ◌∷◌, [], length, arith, refl, ap, ◌∙◌}
use Rattle.std.specs.Vec.{vec_capacity}
use Rattle.result_cache.specs.History.{call}
use Rattle.result_cache.specs.declared.call.Act.TheVariants.{Fill}
use Rattle.result_cache.specs.declared.call.Kept.TheVariants.{Filled}
use Rattle.result_cache.proofs.Calls.{found_at, none_here, held_known, held_found, sound_spent, calls_become, values_become, number_is}
use Rattle.result_cache.proofs.shard.Shard.fill.Goals as goal

pub unreachable-requires : goal.unreachable-requires
unreachable-requires g c = held_known c.self.invariant c.self.view_is c.requires.held (none_here c.in_default.ensures.found c.as_slice.ensures.value)

pub push_reserved-requires : goal.push_reserved-requires
push_reserved-requires g c =
    let at = held_found c.self.invariant c.self.view_is c.requires.held (found_at c.in-Some.ensures.within c.in-Some.ensures.text c.as_slice.ensures.value) in
    let some = at.some_owed in let r = c.self.invariant.reserved in let n = c.self.inside.entries.ok.0 in omega arith

pub overflow_sub-self : goal.overflow_sub-self
overflow_sub-self g c =
    let at = held_found c.self.invariant c.self.view_is c.requires.held (found_at c.in-Some.ensures.within c.in-Some.ensures.text c.as_slice.ensures.value) in
    let some = at.some_owed in omega arith

pub invariant_of-self : goal.invariant_of-self
invariant_of-self g c =
    let at = held_found c.self.invariant c.self.view_is c.requires.held (found_at c.in-Some.ensures.within c.in-Some.ensures.text c.as_slice.ensures.value) in
    let number = c.len-number.ensures ∙ c.self.inside.entries.ok.0 in
    rw (c.push_reserved.ensures.items)
    (sound_spent c.args.seat (Fill c.len-number.result) (Filled c.len-number.result c.args.value) 1 (vec_capacity c.push_reserved.new.self) c.self.invariant at (refl, number) refl c.requires.stands refl refl (omega arith) c.push_reserved.ensures.capacity)

pub returns-clause-history : goal.returns-clause-history
returns-clause-history g c =
    let at = found_at c.in-Some.ensures.within c.in-Some.ensures.text c.as_slice.ensures.value in
    let number : c.len-number.result ≡ length c.args.self.now.history = c.len-number.ensures ∙ c.self.inside.entries.ok.0 ∙ number_is c.self.invariant c.self.view_is in
    rw (c.push_reserved.ensures.items)
    (calls_become c.args.seat (Fill c.len-number.result) c.self.invariant c.self.view_is at ∙ ap (λ n. c.args.self.now.history ++ call c.args.seat c.args.ticket.key (Fill n) ∷ []) number)

pub returns-clause-values : goal.returns-clause-values
returns-clause-values g c =
    values_become (Filled c.len-number.result c.args.value) c.self.invariant c.self.view_is (found_at c.in-Some.ensures.within c.in-Some.ensures.text c.as_slice.ensures.value)
