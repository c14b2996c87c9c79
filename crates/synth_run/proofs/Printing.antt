-- Netlists that are written.
use Rattle.std.proofs.Common.{◌≡◌, ℕ, List, [], ◌∷◌, true, false, Option, Some, None, refl, sym, ap, subst, ◌∙◌, true≢false}
use Rattle.rtl_ir.specs.declared.module.Design.{Design}
use Rattle.rtl_write.proofs.Trip.{reads_design}
use Rattle.rtl_write.specs.Text.{text_of}
use Rattle.script_core.specs.Cold.{IsNetlist, cold, outcome_of}
use Rattle.script_core.specs.Fold.{StartsWithProc}
use Rattle.script_core.proofs.Refining.{cold_gates, cold_refines}
use Rattle.script_core.proofs.Stepping.{starts}
use Rattle.readable_runs.proofs.Cold.{cold_reads}
use Rattle.readable_runs.proofs.Driven.{cold_driven}
use Rattle.readable_runs.proofs.Faultless.{cold_accepted, cold_faultless}
use Rattle.desk_read.specs.declared.command.Command.{Command}
use Rattle.desk_read.specs.declared.command.Command.TheVariants.{Load, Edit, Remove, Script, Run, Print, Show, Version, Modules, Ports, SimSource, SimNetlist, Quit, Bad, Unclosed}
use Rattle.reply_lines.specs.declared.reply.Reply.{Reply}
use Rattle.desk_core.specs.Answers.{print_answer, printed_reply}
use Rattle.desk_core.specs.Netlist.{built_words, netlist_of, over_words, unless_over}
use Rattle.script_core.specs.declared.word.Word.{Word}
use Rattle.script_core.specs.Words.{IsScript}
use Rattle.desk_core.specs.State.{State, answer, first_state}
use Rattle.desk_core.specs.Step.{IsStep}
use Rattle.desk_core.proofs.Outcomes.{none_over}
use Rattle.synth_run.specs.Refined.{IsPrinted, IsSynthesis, PrintNetlists, PrintsNetlist}
use Rattle.synth_run.specs.Session.{AreTurns, Turn}
use Rattle.synth_run.proofs.Stepping.{IsGood, first_good, step_good}

-- where no module passes a limit, the netlist of a state is what is promised
pub synthesis : (s : State) → IsGood s → over_words s.design.modules (cold s.script s.design) ≡ None → IsSynthesis s.script s.design (netlist_of s)
synthesis s g e =
    let n : Design = netlist_of s in
    let stage : StartsWithProc s.script = starts s.script g.script in
    let run : IsNetlist (cold s.script s.design) n = none_over (outcome_of s.script s.design.modules) s.design.modules e in
    record {
      faultless = g.faultless;
      run = run;
      again = λ short. reads_design n (cold_reads s.design g.readable short g.faultless s.script stage n run);
      one_driver = cold_driven s.design g.readable g.faultless s.script stage n run;
      no_faults = cold_faultless s.design g.readable g.faultless s.script stage n run;
      accepted = λ all. cold_accepted s.design g.readable g.faultless s.script stage n run all;
      refines = cold_refines s.design g.readable g.faultless s.script stage n run;
      gates = λ all. cold_gates s.design g.readable g.faultless s.script stage n run all;
    }

-- the reply to `print`, where it is no error
printed : (s t : State) (reply : Reply) → IsGood s → answer reply t ≡ print_answer s → reply.error ≡ false → IsPrinted s reply
printed s t reply g is fine = by (over_words s.design.modules (cold s.script s.design)) refl
  where
    reply_is : reply ≡ (print_answer s).reply
    reply_is = ap (λ a. a.reply) is

    by : (o : Option (List ℕ)) → over_words s.design.modules (cold s.script s.design) ≡ o → IsPrinted s reply
    by None e = record {
      netlist = netlist_of s;
      written = reply_is ∙ ap (unless_over s (printed_reply (built_words s) (text_of (netlist_of s)))) e;
      synthesis = synthesis s g e;
    }
    by (Some words) e =
        let wrong : reply.error ≡ true = ap (λ (r : Reply). r.error) (reply_is ∙ ap (unless_over s (printed_reply (built_words s) (text_of (netlist_of s)))) e) in
        absurd (true≢false (sym wrong ∙ fine))

pub turn_prints : (command : Command) (s t : State) (reply : Reply) → IsGood s → IsStep command s reply t → PrintsNetlist command s reply
turn_prints (Load text) s t reply g is = tt
turn_prints (Edit text) s t reply g is = tt
turn_prints (Remove name) s t reply g is = tt
turn_prints (Script text) s t reply g is = tt
turn_prints Run s t reply g is = tt
turn_prints Print s t reply g is = printed s t reply g is
turn_prints (Show name) s t reply g is = tt
turn_prints Version s t reply g is = tt
turn_prints Modules s t reply g is = tt
turn_prints (Ports name) s t reply g is = tt
turn_prints (SimSource ask) s t reply g is = tt
turn_prints (SimNetlist ask) s t reply g is = tt
turn_prints Quit s t reply g is = tt
turn_prints Bad s t reply g is = tt
turn_prints Unclosed s t reply g is = tt

-- in turns from a state of a session each netlist that is printed is what is promised
pub turns_print : (s : State) (turns : List Turn) → IsGood s → AreTurns s turns → PrintNetlists turns
turns_print s [] g h = tt
turns_print s (turn ∷ turns) g h =
    let same = h.0 in (
      subst (λ (b : State). PrintsNetlist turn.command b turn.reply) (sym same) (turn_prints turn.command s turn.after turn.reply g h.1),
      turns_print turn.after turns (step_good turn.command s (answer turn.reply turn.after) g h.1) h.2,
    )

-- in a session from its start
pub prints_in_session : (script : List Word) (turns : List Turn) → IsScript script → AreTurns (first_state script) turns → PrintNetlists turns
prints_in_session script turns good steps = turns_print (first_state script) turns (first_good script good) steps
