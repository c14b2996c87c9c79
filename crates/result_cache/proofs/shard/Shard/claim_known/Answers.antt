use Rattle.std.proofs.Common.{◌∙◌, sym, ap, refl, arith, Some}
use Rattle.std.specs.Vec.{vec_capacity}
use Rattle.result_cache.specs.History.{held}
use Rattle.result_cache.specs.declared.call.Act.TheVariants.{Hit, Busy, Yours}
use Rattle.result_cache.specs.declared.call.Kept.TheVariants.{Held}
use Rattle.result_cache.proofs.Calls.{known_at, mode_found, value_found, stands_found, calls_become, values_stay, sound_looked, sound_taken}
use Rattle.result_cache.proofs.shard.Shard.claim_known.Goals as goal

pub invariant_of-self-in-Filled : goal.invariant_of-self-in-Filled
invariant_of-self-in-Filled g c =
    let at = known_at c.self.invariant c.self.view_is c.requires.within c.requires.text in
    rw (c.push_reserved.ensures.items, c.in_ok-make_room.ensures.items)
    (sound_looked c.args.seat (Hit c.in-Filled.number) c.index.result.now (vec_capacity c.push_reserved.new.self) c.self.invariant at (sym c.index.ensures ∙ c.in-Filled.is) refl refl refl
    (let r = c.in_ok-make_room.ensures.room in let p = c.push_reserved.ensures.capacity in omega arith))

pub invariant_of-self-in-Held : goal.invariant_of-self-in-Held
invariant_of-self-in-Held g c =
    let at = known_at c.self.invariant c.self.view_is c.requires.within c.requires.text in
    let is = sym c.index.ensures ∙ c.in-Held.is in
    rw (c.push_reserved-in-Held.ensures.items, c.in_ok-make_room.ensures.items)
    (sound_looked c.args.seat (Busy c.in-Held.by) c.index.result.now (vec_capacity c.push_reserved-in-Held.new.self) c.self.invariant at is
    (refl, λ same. c.requires.not_held (mode_found c.index.result.now c.self.invariant c.self.view_is at is ∙ ap held same)) refl refl
    (let r = c.in_ok-make_room.ensures.room in let p = c.push_reserved-in-Held.ensures.capacity in omega arith))

pub invariant_of-self-in-Free : goal.invariant_of-self-in-Free
invariant_of-self-in-Free g c =
    let at = known_at c.self.invariant c.self.view_is c.requires.within c.requires.text in
    rw (c.push_reserved-in-Free.ensures.items, c.in_ok-make_room.ensures.items)
    (sound_taken c.args.seat c.index.result.now (vec_capacity c.push_reserved-in-Free.new.self) c.self.invariant at (sym c.index.ensures ∙ c.in-Free.is)
    (let r = c.in_ok-make_room.ensures.room in let p = c.push_reserved-in-Free.ensures.capacity in omega arith))

pub returns-in_ok-value-in-Filled-clause-ok : goal.returns-in_ok-value-in-Filled-clause-ok
returns-in_ok-value-in-Filled-clause-ok g c =
    let at = known_at c.self.invariant c.self.view_is c.requires.within c.requires.text in
    let is = sym c.index.ensures ∙ c.in-Filled.is in (
      c.in-Filled.number,
      mode_found c.index.result.now c.self.invariant c.self.view_is at is,
      value_found c.index.result.now c.self.invariant c.self.view_is at is ∙ ap Some (sym c.in_ok-value-in-Filled.ensures.value),
      rw (c.push_reserved.ensures.items, c.in_ok-make_room.ensures.items) (calls_become c.args.seat (Hit c.in-Filled.number) c.self.invariant c.self.view_is at),
    )

pub returns-in_ok-value-in-Filled-clause-stands : goal.returns-in_ok-value-in-Filled-clause-stands
returns-in_ok-value-in-Filled-clause-stands g c =
    let at = known_at c.self.invariant c.self.view_is c.requires.within c.requires.text in
    rw c.in_ok-value-in-Filled.ensures.value (stands_found c.index.result.now c.self.invariant at (sym c.index.ensures ∙ c.in-Filled.is))

pub returns-in-Held-clause-ok : goal.returns-in-Held-clause-ok
returns-in-Held-clause-ok g c =
    let at = known_at c.self.invariant c.self.view_is c.requires.within c.requires.text in (
      mode_found c.index.result.now c.self.invariant c.self.view_is at (sym c.index.ensures ∙ c.in-Held.is),
      rw (c.push_reserved-in-Held.ensures.items, c.in_ok-make_room.ensures.items) (calls_become c.args.seat (Busy c.in-Held.by) c.self.invariant c.self.view_is at),
    )

pub returns-in_ok-key-in-Free-clause-ok : goal.returns-in_ok-key-in-Free-clause-ok
returns-in_ok-key-in-Free-clause-ok g c =
    let at = known_at c.self.invariant c.self.view_is c.requires.within c.requires.text in (
      mode_found c.index.result.now c.self.invariant c.self.view_is at (sym c.index.ensures ∙ c.in-Free.is),
      refl,
      c.in_ok-key-in-Free.ensures.value,
      rw (c.push_reserved-in-Free.ensures.items, c.in_ok-make_room.ensures.items) (calls_become c.args.seat Yours c.self.invariant c.self.view_is at),
    )

pub returns-in_ok-key-in-Free-clause-values : goal.returns-in_ok-key-in-Free-clause-values
returns-in_ok-key-in-Free-clause-values g c =
    let at = known_at c.self.invariant c.self.view_is c.requires.within c.requires.text in
    values_stay c.index.result.now (Held c.args.seat) c.self.invariant c.self.view_is at (sym c.index.ensures ∙ c.in-Free.is) refl
