-- The netlist of the present design, and the keys that it needs.
use Rattle.std.specs.Prelude.{ℕ, ◌-◌, List, [], ◌∷◌, ◌++◌, Option, Some, None, codes, length, map}
use Rattle.std.specs.List.{range_with_len}
use Rattle.std.specs.Option.{option_or}
use Rattle.rtl_ir.specs.declared.module.Design.{Design}
use Rattle.rtl_ir.specs.declared.module.Module.{Module}
use Rattle.result_cache.specs.Filled.{new_count}
use Rattle.script_core.specs.declared.outcome.Outcome.{Outcome}
use Rattle.script_core.specs.declared.outcome.Outcome.TheVariants.{Done, Over}
use Rattle.script_core.specs.declared.word.Word.{Word}
use Rattle.script_core.specs.Cold.{cold}
use Rattle.script_core.specs.Keys.{KeyParts, key_of, key_text}
use Rattle.script_core.specs.Words.{spelling_of}
use Rattle.reply_lines.specs.declared.reply.Reply.{Reply}
use Rattle.reply_lines.specs.Lines.{counted, error_reply}
use Rattle.desk_core.specs.Ages.{kept_after, texts_of}
use Rattle.desk_core.specs.State.{Answer, State}

-- the keys of the modules, in order
abbrev pub module_keys : List Word → List Module → List KeyParts
module_keys script modules = map (λ at. key_of modules at script) (range_with_len 0 (length modules))

-- the text of the key of the module at a place
abbrev pub key_text_at : List Word → List Module → ℕ → List ℕ
key_text_at script modules at = key_text (key_of modules at script)

-- the texts of the keys of the modules, in order
abbrev pub key_texts : List Word → List Module → List (List ℕ)
key_texts script modules = map (key_text_at script modules) (range_with_len 0 (length modules))

-- how many keys of the present design are built where its netlist is asked for
abbrev pub built_count : State → ℕ
built_count s = new_count (texts_of s.kept) (key_texts s.script s.design.modules)

-- the state after a command that needs the netlist: all keys of the present design are kept, with age 0, and the other kept
-- keys are older by one
abbrev pub all_kept : State → State
all_kept s = record s { kept = kept_after (key_texts s.script s.design.modules) s.kept }

-- how many keys were built, and for how many of the modules the result was there
abbrev pub built_words : State → List ℕ
built_words s = counted (codes "built") (built_count s) ++ counted (codes "reused") (length s.design.modules - built_count s)

-- the modules that are done
abbrev pub done_modules : List Outcome → List Module
done_modules [] = []
done_modules (Done m ∷ outcomes) = m ∷ done_modules outcomes
done_modules (Over word ∷ outcomes) = done_modules outcomes

-- the netlist of the present design, where each outcome is done
abbrev pub netlist_of : State → Design
netlist_of s = record { modules = done_modules (cold s.script s.design) }

-- the error of a module whose outcome is Over: its number, the module, and the word whose result would pass a limit
abbrev pub over_line : Module → Outcome → Option (List ℕ)
over_line m (Done n) = None
over_line m (Over word) = Some (codes "20 " ++ m.id ++ codes " " ++ spelling_of word)

-- the error of the first of the modules whose outcome is Over
abbrev pub over_words : List Module → List Outcome → Option (List ℕ)
over_words [] outcomes = None
over_words (m ∷ modules) [] = None
over_words (m ∷ modules) (outcome ∷ outcomes) = option_or (over_line m outcome) (over_words modules outcomes)

-- a reply that needs the netlist: an error where some module passes a limit
abbrev pub unless_over : State → Reply → Option (List ℕ) → Reply
unless_over s reply None = reply
unless_over s reply (Some words) = error_reply (words ++ built_words s)

-- the answer to a command that needs the netlist: all keys of the present design are kept after it, whatever the reply is
abbrev pub netlist_answer : State → Reply → Answer
netlist_answer s reply = record {
  reply = unless_over s reply (over_words s.design.modules (cold s.script s.design));
  after = all_kept s;
}
