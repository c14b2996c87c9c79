use Rattle.std.proofs.Common.{arith}
use Rattle.script_core.specs.Words.{words_of}
use Rattle.script_core.proofs.ParseLemmas.{are_script}
use Rattle.script_core.proofs.parse.parse_script.Goals as goal

pub of_words-requires : goal.of_words-requires
of_words-requires c = record { script = are_script (words_of c.args.text.now) _ c.in_ok-words.ensures.reads c.in_ok-words.ensures.good (grind arith) }
