-- The steps of a desk.
use Rattle.std.specs.Prelude.{◌≡◌, List, [], ◌∷◌, codes}
use Rattle.desk_read.specs.declared.command.Command.{Command}
use Rattle.desk_read.specs.declared.command.Command.TheVariants.{Load, Edit, Remove, Script, Run, Print, Show, Version, Modules, Ports, SimSource, SimNetlist, Quit, Bad, Unclosed}
use Rattle.reply_lines.specs.declared.reply.Reply.{Reply}
use Rattle.desk_core.specs.Answers.{IsEditAnswer, IsLoadAnswer, modules_answer, netlist_run_answer, ports_answer, print_answer, refusal, remove_answer, run_answer, script_answer, show_answer, source_answer, unchanged, version_answer}
use Rattle.reply_lines.specs.Lines.{last_reply}
use Rattle.desk_core.specs.State.{Answer, State, answer}

-- this is the answer to a command in a state: its reply, and the state after it
abbrev pub IsAnswer : State → Command → Answer → Type 0
IsAnswer s (Load text) a = IsLoadAnswer s text a
IsAnswer s (Edit text) a = IsEditAnswer s text a
IsAnswer s (Remove name) a = a ≡ remove_answer s name
IsAnswer s (Script text) a = a ≡ script_answer s text
IsAnswer s Run a = a ≡ run_answer s
IsAnswer s Print a = a ≡ print_answer s
IsAnswer s (Show name) a = a ≡ show_answer s name
IsAnswer s Version a = a ≡ version_answer s
IsAnswer s Modules a = a ≡ modules_answer s
IsAnswer s (Ports name) a = a ≡ ports_answer s name
IsAnswer s (SimSource ask) a = a ≡ source_answer s ask.order ask.module ask.steps
IsAnswer s (SimNetlist ask) a = a ≡ netlist_run_answer s ask.order ask.module ask.steps
IsAnswer s Quit a = a ≡ unchanged s last_reply
IsAnswer s Bad a = a ≡ refusal s (codes "21")
IsAnswer s Unclosed a = a ≡ refusal s (codes "22")

-- a desk takes a step by a command: it gives this reply, and goes from one state to the other
abbrev pub IsStep : Command → State → Reply → State → Type 0
IsStep command before reply after = IsAnswer before command (answer reply after)

-- these are the replies to commands, from a state to another: each command is a step
abbrev pub AreReplies : List Command → State → List Reply → State → Type 0
AreReplies [] before [] after = before ≡ after
AreReplies [] before (reply ∷ replies) after = ⊥
AreReplies (command ∷ commands) before [] after = ⊥
AreReplies (command ∷ commands) before (reply ∷ replies) after =
    (between : State) × IsStep command before reply between × AreReplies commands between replies after
