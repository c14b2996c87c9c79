use Rattle.std.proofs.Common.{◌++◌, refl, subst}
use Rattle.std.proofs.lemmas.List.{take_all}
use Rattle.flat_net.specs.Memories.{AreBegins, word_begins}
use Rattle.flat_net.proofs.Kept.{within-Keeps}
use Rattle.flat_net.proofs.Reading.{Extends-then}
use Rattle.flat_net.proofs.Wording.{word_next}
use Rattle.flat_net.proofs.places.Places.put_word.Goals as goal

pub word_number-requires : goal.word_number-requires
word_number-requires c = record { in_range = within-Keeps _ _ _ c.loop-at.invariant.grows.paths c.requires.in_range }

pub loop-at-preserved : goal.loop-at-preserved
loop-at-preserved c = record {
  grows = Extends-then _ _ _ c.loop-at.invariant.grows c.in_ok-number.ensures.grows;
  made = λ p path they h.
      word_next _ _ p c.args.name.now c.args.address c.args.word.now c.loop-at.at _ _ _ they _ c.in_ok-number.ensures.grows.places c.loop-at-test.true
      (c.loop-at.invariant.made p path they h) (c.in_ok-number.ensures.value p (c.loop-at.invariant.grows.paths _ _ path)) refl refl c.in_ok-place.ensures.value c.in_ok-push.ensures.items;
}

pub returns-clause-value : goal.returns-clause-value
returns-clause-value c = λ p path they h.
    subst (λ word. AreBegins c.loop-at.self.places c.loop-at.bits.items (they ++ word_begins p c.args.name.now c.args.address 0 word)) (take_all _ c.args.word.now c.loop-at-test.false) (c.loop-at.invariant.made p path they h)
