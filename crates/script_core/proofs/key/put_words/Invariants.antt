use Rattle.std.proofs.Common.{◌≡◌, ◌++◌, map, take}
use Rattle.script_core.specs.Words.{letter_of}
use Rattle.script_core.proofs.key.put_words.Given as goal

-- the letters of the words so far are written
abbrev pub invariant-loop-word : goal.invariant-loop-word
invariant-loop-word l = l.out.items ≡ l.initial.out.items ++ map letter_of (take l.word-index l.words)
