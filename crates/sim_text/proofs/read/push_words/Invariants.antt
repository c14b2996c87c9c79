use Rattle.std.proofs.Common.{◌≡◌, ◌++◌, map, take}
use Rattle.std.specs.List.{flat_map}
use Rattle.sim_text.specs.Lines.{word_bits}
use Rattle.sim_text.proofs.read.push_words.Given as goal

-- the bits of the words so far are put last
abbrev pub invariant-loop-word : goal.invariant-loop-word
invariant-loop-word l = l.bits ≡ l.initial.bits ++ flat_map word_bits (map (λ w. w.now) (take l.word-index l.words))
