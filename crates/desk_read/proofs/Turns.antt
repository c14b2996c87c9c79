-- Lines that are taken in turn.
use Rattle.std.proofs.Common.{◌≡◌, List, [], ◌∷◌, ◌++◌, Option, map, option_to_list, sym, ap, ◌∙◌}
use Rattle.std.proofs.lemmas.List.{append_assoc}
use Rattle.std.specs.List.{flat_map}
use Rattle.desk_read.specs.declared.command.Command.{Command}
use Rattle.desk_read.specs.Taking.{OpenBlock, Taken, TakesInTurn, commands_from}

-- the answers to these lines
abbrev pub answers_of : List Taken → List Command
answers_of = flat_map (λ taken. option_to_list taken.answer)

-- the answers to lines that are taken in turn, and what is left at their end, are the commands of the lines
pub in_turn : (before : Option OpenBlock) (lines : List Taken) (last : Option OpenBlock) → TakesInTurn before lines last
    → answers_of lines ++ commands_from last [] ≡ commands_from before (map (λ taken. taken.line) lines)
in_turn before [] last is = ap (λ block. commands_from block []) (sym is)
in_turn before (taken ∷ lines) last takes =
    append_assoc (option_to_list taken.answer) (answers_of lines) (commands_from last [])
    ∙ ap (λ commands. option_to_list taken.answer ++ commands) (in_turn taken.after lines last takes.1)
    ∙ sym (takes.0 (map (λ t. t.line) lines))
