-- How the code reads: an item at a time, with what is still expected. No public contract cites this file.
use Rattle.std.specs.Prelude.{◌≡◌, List, Result, Ok, Err}
use Rattle.rtl_lex.specs.Place.{start}
use Rattle.rtl_lex.specs.Items.{Seen}
use Rattle.rtl_ir.specs.declared.module.Design.{Design}
use Rattle.rtl_grammar.specs.declared.expect.Expect.{Expect}
use Rattle.rtl_grammar.specs.Uses.{◌>>=◌}
use Rattle.rtl_grammar.proofs.ReadOn.{read_on}
use Rattle.rtl_read.specs.declared.draft.Draft.{Draft}
use Rattle.rtl_read.specs.declared.read_fault.ReadFault.{ReadFault}
use Rattle.rtl_read.specs.declared.read_fault.ReadFault.TheVariants.{Syntax}
use Rattle.rtl_read.specs.Gives.{Fails}
use Rattle.rtl_read.specs.Draft.{design_of}
use Rattle.rtl_read.specs.Act.{act}
use Rattle.rtl_read.specs.Reads.{refusal}

-- what reading these items gives, with this still expected and this read before
unfoldable pub reading : List Seen → List Expect → Draft → Result Draft ReadFault
reading items roles draft = read_on act refusal (Syntax start) items roles draft

-- a call that takes an item goes on reading from there
abbrev pub GoesOn : {X : Type 0} → Result X ReadFault → Result Draft ReadFault → Result Draft ReadFault → Type 0
GoesOn (Ok x) before after = before ≡ after
GoesOn (Err fault) before after = Fails fault before

-- the design of what was read
abbrev pub design_read : Result Draft ReadFault → Result Design ReadFault
design_read read = read >>= λ draft. Ok (design_of draft)
