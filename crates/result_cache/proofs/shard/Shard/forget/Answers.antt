use Rattle.std.proofs.Common.{◌≡◌, ◌<◌, length, set, sym, ap, ◌∙◌, arith, refl, None}
use Rattle.std.specs.Vec.{vec_capacity}
use Rattle.result_cache.specs.declared.call.Act.TheVariants.{Forget}
use Rattle.result_cache.specs.declared.call.Kept.TheVariants.{Free}
use Rattle.result_cache.specs.Stored.{look_up, value_of}
use Rattle.result_cache.proofs.Calls.{same_at, found_at, none_here, mode_found, mode_absent, value_found, value_absent, values_without, stands_found, kept_found, sound_spent, calls_become, values_become}
use Rattle.result_cache.proofs.shard.Shard.forget.Goals as goal

pub returns-in_default-clause-forgot : goal.returns-in_default-clause-forgot
returns-in_default-clause-forgot g c = (mode_absent c.self.invariant c.self.view_is (none_here c.in_default.ensures.found c.as_slice.ensures.value), refl)

pub returns-in_default-clause-values : goal.returns-in_default-clause-values
returns-in_default-clause-values g c = values_without c.args.self.now c.args.key.now (value_absent c.self.invariant c.self.view_is (none_here c.in_default.ensures.found c.as_slice.ensures.value))

pub returns-in-Free-clause-forgot : goal.returns-in-Free-clause-forgot
returns-in-Free-clause-forgot g c =
    let at = found_at c.in-Some.ensures.within c.in-Some.ensures.text c.as_slice.ensures.value in
    (mode_found c.index.result.now c.self.invariant c.self.view_is at (sym c.index.ensures ∙ c.in-Free.is), refl)

pub returns-in-Free-clause-values : goal.returns-in-Free-clause-values
returns-in-Free-clause-values g c =
    let at = found_at c.in-Some.ensures.within c.in-Some.ensures.text c.as_slice.ensures.value in
    values_without c.args.self.now c.args.key.now (value_found c.index.result.now c.self.invariant c.self.view_is at (sym c.index.ensures ∙ c.in-Free.is))

pub returns-in-Held-clause-forgot : goal.returns-in-Held-clause-forgot
returns-in-Held-clause-forgot g c =
    let at = found_at c.in-Some.ensures.within c.in-Some.ensures.text c.as_slice.ensures.value in
    (mode_found c.index.result.now c.self.invariant c.self.view_is at (sym c.index.ensures ∙ c.in-Held.is), refl)

pub returns-in-Held-clause-values : goal.returns-in-Held-clause-values
returns-in-Held-clause-values g c =
    let at = found_at c.in-Some.ensures.within c.in-Some.ensures.text c.as_slice.ensures.value in
    values_without c.args.self.now c.args.key.now (value_found c.index.result.now c.self.invariant c.self.view_is at (sym c.index.ensures ∙ c.in-Held.is))

pub unreachable-requires : goal.unreachable-requires
unreachable-requires g c =
    let within : c.in-Some.id.index < length c.self.inside.kept.items = let b = c.self.invariant.beside in let w = c.in-Some.ensures.within in omega arith in
    c.in_default-replace.not-Filled c.in-Filled.number c.in-Filled._value
    (c.replace.ensures.value ∙ c.index_mut.ensures.value ∙ same_at c.self.inside.kept.items c.in-Some.id.index c.index_mut.result.now c.index.result.now within ∙ sym c.index.ensures ∙ c.in-Filled.is)

pub push_reserved-requires : goal.push_reserved-requires
push_reserved-requires g c =
    let at = found_at c.in-Some.ensures.within c.in-Some.ensures.text c.as_slice.ensures.value in
    let kept = kept_found c.index.result.now c.self.invariant at (sym c.index.ensures ∙ c.in-Filled.is) in
    let some = kept.some_owed in let r = c.self.invariant.reserved in let n = c.self.inside.entries.ok.0 in omega arith

pub overflow_sub-self : goal.overflow_sub-self
overflow_sub-self g c =
    let at = found_at c.in-Some.ensures.within c.in-Some.ensures.text c.as_slice.ensures.value in
    (kept_found c.index.result.now c.self.invariant at (sym c.index.ensures ∙ c.in-Filled.is)).some_owed

pub invariant_of-self : goal.invariant_of-self
invariant_of-self g c =
    let at = found_at c.in-Some.ensures.within c.in-Some.ensures.text c.as_slice.ensures.value in
    let kept = kept_found c.index.result.now c.self.invariant at (sym c.index.ensures ∙ c.in-Filled.is) in
    rw (c.replace.ensures.after, c.push_reserved.ensures.items)
    (sound_spent c.args.seat (Forget c.in-Filled.number) Free 1 (vec_capacity c.push_reserved.new.self) c.self.invariant kept refl refl tt refl refl (omega arith) c.push_reserved.ensures.capacity)

pub returns-clause-forgot : goal.returns-clause-forgot
returns-clause-forgot g c =
    let at = found_at c.in-Some.ensures.within c.in-Some.ensures.text c.as_slice.ensures.value in (
      c.in-Filled.number,
      mode_found c.index.result.now c.self.invariant c.self.view_is at (sym c.index.ensures ∙ c.in-Filled.is),
      value_found c.index_mut.result.now c.self.invariant c.self.view_is at (sym (c.replace.ensures.value ∙ c.index_mut.ensures.value) ∙ c.in-Filled-replace.is),
      rw (c.push_reserved.ensures.items) (calls_become c.args.seat (Forget c.in-Filled.number) c.self.invariant c.self.view_is at),
    )

pub returns-clause-stands : goal.returns-clause-stands
returns-clause-stands g c =
    let at = found_at c.in-Some.ensures.within c.in-Some.ensures.text c.as_slice.ensures.value in
    stands_found c.index_mut.result.now c.self.invariant at (sym (c.replace.ensures.value ∙ c.index_mut.ensures.value) ∙ c.in-Filled-replace.is)

pub returns-clause-values : goal.returns-clause-values
returns-clause-values g c = λ q.
    ap (λ k. look_up None value_of c.self.inside.keys (set c.self.inside.kept.items c.in-Some.id.index k) q) c.replace.ensures.after
    ∙ values_become Free c.self.invariant c.self.view_is (found_at c.in-Some.ensures.within c.in-Some.ensures.text c.as_slice.ensures.value) q
