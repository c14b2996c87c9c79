-- A name is found among the words whose names have its length.
use Rattle.std.proofs.Common.{◌≡◌, ◌∙◌, ℕ, length, List}
use Rattle.cell_types.specs.Word.{words, word_of}
use Rattle.cell_types.specs.Names.{named}
use Rattle.cell_types.proofs.Lengths.{named_at, rows_of}
use Rattle.cell_types.proofs.word.word_named.Goals as goal

at : (name : List ℕ) (n : ℕ) → length name ≡ n → named (rows_of words n) name ≡ word_of name
at name n e = named_at words name n e

pub returns-in-3 : goal.returns-in-3
returns-in-3 c = record { value = c.find_named.ensures.value ∙ at c.args.name.now 3 c.in-3.is }

pub returns-in-4 : goal.returns-in-4
returns-in-4 c = record { value = c.find_named-in-4.ensures.value ∙ at c.args.name.now 4 c.in-4.is }

pub returns-in-5 : goal.returns-in-5
returns-in-5 c = record { value = c.find_named-in-5.ensures.value ∙ at c.args.name.now 5 c.in-5.is }

pub returns-in-6 : goal.returns-in-6
returns-in-6 c = record { value = c.find_named-in-6.ensures.value ∙ at c.args.name.now 6 c.in-6.is }

pub returns-in-7 : goal.returns-in-7
returns-in-7 c = record { value = c.find_named-in-7.ensures.value ∙ at c.args.name.now 7 c.in-7.is }

pub returns-in-9 : goal.returns-in-9
returns-in-9 c = record { value = c.find_named-in-9.ensures.value ∙ at c.args.name.now 9 c.in-9.is }

pub returns-in-10 : goal.returns-in-10
returns-in-10 c = record { value = c.find_named-in-10.ensures.value ∙ at c.args.name.now 10 c.in-10.is }

pub returns-in-11 : goal.returns-in-11
returns-in-11 c = record { value = c.find_named-in-11.ensures.value ∙ at c.args.name.now 11 c.in-11.is }
