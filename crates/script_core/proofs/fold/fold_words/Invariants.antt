use Rattle.std.proofs.Common.{◌≡◌, drop}
use Rattle.script_core.specs.Fold.{fold_words, AreApplicable, IsSettledIf}
use Rattle.script_core.proofs.fold.fold_words.Given as goal

-- the words that are left make of the module what all words make of the first
abbrev pub invariant-loop-word : goal.invariant-loop-word
invariant-loop-word l =
    (fold_words (drop l.word-index l.words) l.ports l.module ≡ fold_words l.words l.ports l.fn.module)
    × AreApplicable (drop l.word-index l.words) l.ports l.module
    × IsSettledIf l.is_settled l.ports l.module
