-- The lines of replies.
use Rattle.std.specs.Prelude.{ℕ, List, [], ◌++◌, true, false, codes}
use Rattle.std.specs.Fmt.{decimal}
use Rattle.rtl_lex.specs.Place.{place_text}
use Rattle.rtl_read.specs.declared.read_fault.ReadFault.{ReadFault}
use Rattle.rtl_read.specs.declared.read_fault.ReadFault.TheVariants as faults
use Rattle.rtl_check.specs.declared.fault.CheckFault.{CheckFault}
use Rattle.rtl_check.specs.Words.{fault_number, fault_words}
use Rattle.reply_lines.specs.declared.reply.Reply.{Reply}

-- a line of a reply that is no error, with these words behind its `ok`
abbrev pub ok_line : List ℕ → List ℕ
ok_line words = codes "ok" ++ words ++ codes "\n"

-- a word with a number, behind a blank
abbrev pub counted : List ℕ → ℕ → List ℕ
counted word number = codes " " ++ word ++ codes " " ++ decimal number

-- a reply that is no error
abbrev pub ok_reply : List ℕ → Reply
ok_reply text = record { text = text; error = false; last = false }

-- the reply to the last command
abbrev pub last_reply : Reply
last_reply = record { text = ok_line []; error = false; last = true }

-- the reply of an error: its number and what is told of it
abbrev pub error_reply : List ℕ → Reply
error_reply words = record { text = codes "error " ++ words ++ codes "\n"; error = true; last = false }

-- the number and the place of a text's fault; want of memory has none
abbrev pub read_words : ReadFault → List ℕ
read_words (faults.Lex place) = codes "1 " ++ place_text place
read_words (faults.Syntax place) = codes "2 " ++ place_text place
read_words (faults.Int place) = codes "3 " ++ place_text place
read_words (faults.Duplicate place) = codes "4 " ++ place_text place
read_words (faults.UnknownName place) = codes "5 " ++ place_text place
read_words (faults.Range place) = codes "6 " ++ place_text place
read_words (faults.Limit place) = codes "17 " ++ place_text place
read_words faults.Memory = []

-- the number and the words of a design's fault
abbrev pub check_words : CheckFault → List ℕ
check_words fault = fault_number fault ++ codes " " ++ fault_words fault
