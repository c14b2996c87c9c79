-- Replies to commands, one after another, and printed netlists.
use Rattle.std.proofs.Common.{◌≡◌, ℕ, List, [], ◌∷◌, ◌++◌, false, Option, Some, None, refl, sym, subst, true≢false}
use Rattle.desk_read.specs.declared.command.Command.{Command}
use Rattle.reply_lines.specs.declared.reply.Reply.{Reply}
use Rattle.rtl_ir.specs.Faults.{check_faults}
use Rattle.rtl_readable.specs.Readable.{IsReadable}
use Rattle.rtl_write.specs.Text.{text_of}
use Rattle.net_model.specs.Refine.{Refines}
use Rattle.script_core.specs.Cold.{cold, outcome_of}
use Rattle.script_core.specs.Words.{IsScript}
use Rattle.script_core.proofs.Refining.{cold_refines}
use Rattle.script_core.proofs.Stepping.{starts}
use Rattle.desk_core.specs.Answers.{print_answer, printed_reply}
use Rattle.desk_core.specs.Netlist.{built_words, netlist_of, over_words, unless_over}
use Rattle.desk_core.specs.State.{State}
use Rattle.desk_core.specs.Step.{AreReplies, IsStep}
use Rattle.desk_core.proofs.Outcomes.{none_over}

pub one_reply_more : (commands : List Command) (command : Command) (replies : List Reply) (reply : Reply) (first before after : State)
    → AreReplies commands first replies before → IsStep command before reply after → AreReplies (commands ++ command ∷ []) first (replies ++ reply ∷ []) after
one_reply_more [] command [] reply first before after h step = (after, subst (λ (s : State). IsStep command s reply after) (sym h) step, refl)
one_reply_more [] command (r ∷ replies) reply first before after h step = absurd h
one_reply_more (c ∷ commands) command [] reply first before after h step = absurd h
one_reply_more (c ∷ commands) command (r ∷ replies) reply first before after h step =
    (h.0, h.1, one_reply_more commands command replies reply h.0 before after h.2 step)

pub printed_refines : (s : State) → IsReadable s.design → check_faults s.design.modules ≡ [] → IsScript s.script → (print_answer s).reply.error ≡ false → Refines s.design (netlist_of s)
printed_refines s readable fine script = by (over_words s.design.modules (cold s.script s.design)) refl
  where
    by : (o : Option (List ℕ)) → over_words s.design.modules (cold s.script s.design) ≡ o
        → (unless_over s (printed_reply (built_words s) (text_of (netlist_of s))) o).error ≡ false → Refines s.design (netlist_of s)
    by None e h =
        cold_refines s.design readable fine s.script (starts s.script script) (netlist_of s)
        (none_over (outcome_of s.script s.design.modules) s.design.modules e)
    by (Some words) e h = absurd (true≢false h)
