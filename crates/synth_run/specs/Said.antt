-- What is written, and whether it is an error.
use Rattle.std.specs.Prelude.{ℕ, Bool, List, codes}
use Rattle.reply_lines.specs.declared.reply.Reply.{Reply}
use Rattle.reply_lines.specs.Lines.{error_reply}

-- what is written for an input, and whether there is an error in it
pub record Said : Type 0 where
  pub text : List ℕ
  pub error : Bool

-- a reply alone
abbrev pub said_of : Reply → Said
said_of reply = record { text = reply.text; error = reply.error }

-- the reply to an input that is too long
abbrev pub too_long : Said
too_long = said_of (error_reply (codes "17 input"))
