-- The words so far are read.
use Rattle.std.proofs.Common.{take}
use Rattle.sim_eval.specs.Reads.{AddsReads, words_points}
use Rattle.sim_eval.proofs.readers.Readers.add_words.Given as goal

abbrev pub invariant-loop-word : goal.invariant-loop-word
invariant-loop-word l = AddsReads l.fn.self l.self l.place (words_points (take l.word-index l.words))
