use Rattle.std.proofs.Common.{length}
use Rattle.script_core.specs.Words.{words_of}
use Rattle.script_core.proofs.ParseLemmas.{AreRead}
use Rattle.script_core.proofs.parse.read_words.Given as goal

-- the words so far are read
abbrev pub invariant-loop-spelling : goal.invariant-loop-spelling
invariant-loop-spelling l =
    (goal.iterator-loop-spelling).can_next l.spelling-iterator
    × (goal.iterator-loop-spelling).is_finite l.spelling-iterator
    × AreRead (words_of l.text) (length l.yielded) l.words
