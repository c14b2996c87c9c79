-- The reply to an edit that is refused.
use Rattle.std.specs.Prelude.{◌≡◌, ◌≢◌, List, ◌++◌, codes}
use Rattle.rtl_lex.specs.Items.{Seen}
use Rattle.rtl_lex.specs.Place.{place_text}
use Rattle.rtl_check.specs.declared.edit.EditFault.{EditFault}
use Rattle.rtl_check.specs.declared.edit.EditFault.TheVariants.{Past, Check}
use Rattle.rtl_check.specs.declared.fault.CheckFault.TheVariants as check
use Rattle.design_edit.specs.Places.{module_place}
use Rattle.reply_lines.specs.declared.reply.Reply.{Reply}
use Rattle.reply_lines.specs.Lines.{check_words, error_reply}

-- the place of the module that is too many, among the items of the edit's text, or the fault of the edited design
abbrev pub IsEditReply : List Seen → EditFault → Reply → Type 0
IsEditReply items (Past at) reply = reply ≡ error_reply (codes "17 " ++ place_text (module_place items at))
IsEditReply items (Check fault) reply = (fault ≢ check.Memory) × (reply ≡ error_reply (check_words fault))
