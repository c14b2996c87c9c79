use Rattle.std.proofs.Common.{◌≡◌, ◌==◌, IfOk, length, map, not, subst, take, rules, tests}
use Rattle.std.proofs.lemmas.Iterator.{YieldsList-from_take}
use Rattle.std.proofs.lemmas.Iterator.Consumers.{YieldsList-at, YieldsList-from_filter, map_from_collect}
use Rattle.std.proofs.lemmas.Iterator.Splits.{YieldsList-from_slice_split}
use Rattle.desk_read.specs.Words.{is_blank, words_of}
use Rattle.desk_read.proofs.words.first_words.Goals as goal

pub returns : goal.returns
returns c = record {
  value =
      subst (λ r. IfOk r (λ words. map (λ word. word.now) words.items ≡ take 5 (words_of c.args.line.now))) c.in_ok-collect.was
      (map_from_collect _ c.collect.ensures.ran
      (YieldsList-from_take 5
      (YieldsList-at c.take.ensures.source
      (YieldsList-from_filter _ (λ word. not (length word == 0))
      (YieldsList-at c.filter-words.ensures.source
      (YieldsList-from_slice_split _ is_blank c.args.line.now c.split-parts.ensures.rest c.split-parts.ensures.done c.split-parts.ensures.closure (λ x r q k. search (rules, tests))))
      c.filter-words.ensures.closure (λ x r q k. search (rules, tests))))
      c.take.ensures.count));
}
