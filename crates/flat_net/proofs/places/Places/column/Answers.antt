use Rattle.std.proofs.Common.{◌≡◌, ◌+◌, ◌∙◌, Some, ap, arith, map, subst, sym}
use Rattle.std.specs.Prelude.{nat_abs}
use Rattle.std.specs.List.{range_with_len}
use Rattle.rtl_ir.specs.Flat.Place.{word_place}
use Rattle.flat_net.specs.Reads.{AreNumbers}
use Rattle.flat_net.proofs.Fetching.{AreNumbers-end, mapped-more}
use Rattle.flat_net.proofs.Kept.{within-Keeps}
use Rattle.flat_net.proofs.Reading.{Extends-then}
use Rattle.flat_net.proofs.places.Places.column.Goals as goal

pub word_number-requires : goal.word_number-requires
word_number-requires c = record { in_range = within-Keeps _ _ _ c.loop-word.invariant.grows.paths c.requires.in_range }

pub loop-word-preserved : goal.loop-word-preserved
loop-word-preserved c = record {
  grows = Extends-then _ _ _ c.loop-word.invariant.grows c.in_ok-number.ensures.grows;
  made = λ p path.
      let s = c.args.store.now in
      let first = nat_abs s.offset in
      let word = c.loop-word.word in
      let address : c.in_ok-address.address ≡ first + word = c.in_ok-address.ensures.value ∙ ap (λ k. k + word) c.first_address-first.ensures.value in
      let place = c.in_ok-number.ensures.value p (c.loop-word.invariant.grows.paths _ _ path) ∙ (λ i. Some (word_place p (c.as_slice.ensures.value i) (address i) c.args.at)) in
      subst (AreNumbers c.word_number.new.self.places c.push.new.self.items) (sym (mapped-more (λ address. word_place p s.name address c.args.at) first word))
      (AreNumbers-end _ _ _ _ _ _ _ c.in_ok-number.ensures.grows.places (c.loop-word.invariant.made p path) place c.in_ok-push.ensures.items);
}

pub returns-clause-value : goal.returns-clause-value
returns-clause-value c = λ p path.
    let s = c.args.store.now in
    let end : c.loop-word.word ≡ nat_abs s.size = omega (arith, c.word_count-size.ensures.value) in
    rw c.from_vec.ensures.value
    (subst (λ n. AreNumbers c.loop-word.self.places c.loop-word.numbers.items (map (λ address. word_place p s.name address c.args.at) (range_with_len (nat_abs s.offset) n))) end (c.loop-word.invariant.made p path))
