use Rattle.std.proofs.Common.{rules, tests, ◌==◌, not, length, sym, subst}
use Rattle.std.proofs.lemmas.Iterator.Consumers.{YieldsList-at, YieldsList-from_filter}
use Rattle.std.proofs.lemmas.List.{length_push}
use Rattle.std.proofs.lemmas.Iterator.Splits.{YieldsList-from_slice_split}
use Rattle.script_core.specs.Words.{is_separator, words_of}
use Rattle.script_core.proofs.ParseLemmas.{AreRead, read_more, read_bad, read_all, turn, end}
use Rattle.script_core.proofs.parse.read_words.Goals as goal

pub returns-in_default-clause-first_fault : goal.returns-in_default-clause-first_fault
returns-in_default-clause-first_fault c =
    let at = turn c.loop-spelling.yielded _ c.loop-spelling.yielded_by _ _ c.in-Some.spelling c.in-Some.is c.next.ensures.steps
    (YieldsList-at c.into_iter-spelling-iterator.ensures.into_iter_gives
    (YieldsList-from_filter _ (λ word. not (length word == 0))
    (YieldsList-at c.filter-spelling-items.ensures.source
    (YieldsList-from_slice_split _ is_separator c.args.text.now c.split-parts.ensures.rest c.split-parts.ensures.done c.split-parts.ensures.closure (λ x r q k. search (rules, tests))))
    c.filter-spelling-items.ensures.closure (λ x r q k. search (rules, tests)))) in
    let e = read_bad (words_of c.args.text.now) _ _ _ c.loop-spelling.invariant.2 at cc in
    λ n is. cc

pub loop-spelling-preserved : goal.loop-spelling-preserved
loop-spelling-preserved c =
    let at = turn c.loop-spelling.yielded _ c.loop-spelling.yielded_by _ _ c.in-Some.spelling c.in-Some.is c.next.ensures.steps
    (YieldsList-at c.into_iter-spelling-iterator.ensures.into_iter_gives
    (YieldsList-from_filter _ (λ word. not (length word == 0))
    (YieldsList-at c.filter-spelling-items.ensures.source
    (YieldsList-from_slice_split _ is_separator c.args.text.now c.split-parts.ensures.rest c.split-parts.ensures.done c.split-parts.ensures.closure (λ x r q k. search (rules, tests))))
    c.filter-spelling-items.ensures.closure (λ x r q k. search (rules, tests)))) in
    let more = read_more (words_of c.args.text.now) _ _ _ c.in-Some-word_at.word c.loop-spelling.invariant.2 at cc in
    let count = length_push c.loop-spelling.yielded c.in-Some.spelling in
    (search rules, tt, subst (λ n. AreRead (words_of c.args.text.now) n c.push.new.self) (sym count) (subst (AreRead (words_of c.args.text.now) _) (sym c.in_ok-push.ensures.ok) more))

pub returns : goal.returns
returns c =
    let ends = end c.loop-spelling.yielded _ c.loop-spelling.yielded_by _ _ c.in-None.is c.next.ensures.steps
    (YieldsList-at c.into_iter-spelling-iterator.ensures.into_iter_gives
    (YieldsList-from_filter _ (λ word. not (length word == 0))
    (YieldsList-at c.filter-spelling-items.ensures.source
    (YieldsList-from_slice_split _ is_separator c.args.text.now c.split-parts.ensures.rest c.split-parts.ensures.done c.split-parts.ensures.closure (λ x r q k. search (rules, tests))))
    c.filter-spelling-items.ensures.closure (λ x r q k. search (rules, tests)))) in
    let all = read_all (words_of c.args.text.now) _ _ c.loop-spelling.invariant.2 ends in
    record { reads = all.0; good = all.1; first_fault = search rules }
