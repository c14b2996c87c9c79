use Rattle.std.proofs.Common.{◌++◌, subst, take}
use Rattle.std.proofs.lemmas.List.{take_all}
use Rattle.flat_net.specs.Memories.{AreBegins, word_begins, words_begins}
use Rattle.flat_net.proofs.Kept.{within-Keeps}
use Rattle.flat_net.proofs.Reading.{Extends-then}
use Rattle.flat_net.proofs.Wording.{words_next}
use Rattle.flat_net.proofs.places.Places.word_bits.Goals as goal

pub put_word-requires : goal.put_word-requires
put_word-requires c = record { in_range = within-Keeps _ _ _ c.loop-at.invariant.grows.paths c.requires.in_range }

pub loop-at-preserved : goal.loop-at-preserved
loop-at-preserved c = record {
  grows = Extends-then _ _ _ c.loop-at.invariant.grows c.in_ok-put_word.ensures.grows;
  made = λ p path.
      let name = c.args.name.now in
      let words = c.args.words.now in
      let at = c.loop-at.at in
      let made = c.in_ok-put_word.ensures.value p (c.loop-at.invariant.grows.paths _ _ path) _ (c.loop-at.invariant.made p path) in
      words_next _ p name c.args.first c.in_ok-address.address words at c.index-words-at.result _ c.loop-at-test.true c.index-words-at.is c.in_ok-address.ensures.value
      (subst (λ word. AreBegins c.put_word.new.self.places c.put_word.new.bits.items (words_begins p name c.args.first (take at words) ++ word_begins p name c.in_ok-address.address 0 word)) c.as_slice.ensures.value made);
}

pub returns-clause-value : goal.returns-clause-value
returns-clause-value c = λ p path.
    rw c.from_vec.ensures.value (subst (λ words. AreBegins c.loop-at.self.places c.loop-at.bits.items (words_begins p c.args.name.now c.args.first words)) (take_all _ c.args.words.now c.loop-at-test.false) (c.loop-at.invariant.made p path))
