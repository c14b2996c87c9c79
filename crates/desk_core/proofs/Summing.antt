-- The cells of the netlist, by the results beside the modules.
use Rattle.std.proofs.Common.{◌≡◌, ℕ, ◌+◌, List, [], ◌∷◌, Option, Some, None, Result, Ok, Err, true, length, refl, sym, ap, ◌∙◌, arith, true≢false}
use Rattle.std.specs.Prelude.{IfOk}
use Rattle.std.specs.List.{list_all}
use Rattle.std.specs.Option.{is_some}
use Rattle.rtl_bits.specs.declared.memory.Memory.{Memory}
use Rattle.rtl_ir.specs.declared.module.Design.{Design}
use Rattle.rtl_ir.specs.declared.module.Module.{Module}
use Rattle.script_core.specs.declared.built.Built.{Built}
use Rattle.script_core.specs.declared.outcome.Outcome.{Outcome}
use Rattle.script_core.specs.declared.outcome.Outcome.TheVariants.{Done, Over}
use Rattle.script_core.specs.declared.word.Word.{Word}
use Rattle.script_core.specs.Cold.{cold, named}
use Rattle.reply_lines.specs.declared.reply.Reply.{Reply}
use Rattle.reply_lines.specs.Lines.{ok_reply}
use Rattle.desk_core.specs.declared.results.Results.{Results}
use Rattle.desk_core.specs.declared.runs.Told.{Told}
use Rattle.desk_core.specs.declared.runs.Told.TheVariants.{Built as WereBuilt}
use Rattle.desk_core.specs.Netlist.{done_modules, netlist_of, over_words}
use Rattle.desk_core.specs.Results.{AreFound, AreSound, outcomes_of}
use Rattle.desk_core.specs.State.{State}
use Rattle.desk_core.specs.Summary.{cells_found, cells_in, cells_of, summary_answer, summary_line}
use Rattle.desk_core.specs.Told.{told_of}
use Rattle.desk_core.proofs.Outcomes.{outcomes_cold}
use Rattle.desk_core.proofs.Told.{reply_built}

-- a result's cells, and those of the others
cells_next : (id : List ℕ) (o : Outcome) (others : List Outcome) → cells_in (done_modules (named id o ∷ others)) ≡ cells_of o + cells_in (done_modules others)
cells_next id (Done m) others = refl
cells_next id (Over word) others = omega arith

-- where each module has a result, the cells of all of them
cells_are : (ms : List Module) (found : List (Option Built)) → length found ≡ length ms → list_all is_some found ≡ true
    → cells_found found ≡ cells_in (done_modules (outcomes_of ms found))
cells_are [] [] e all = refl
cells_are [] (r ∷ found) e all = absurd (omega (arith, e))
cells_are (m ∷ ms) [] e all = absurd (omega (arith, e))
cells_are (m ∷ ms) (None ∷ found) e all = absurd (true≢false (sym all))
cells_are (m ∷ ms) (Some b ∷ found) e all =
    ap (λ (n : ℕ). cells_of b.outcome + n) (cells_are ms found (omega (arith, e)) all) ∙ sym (cells_next m.id b.outcome (outcomes_of ms found))

-- they are those of the netlist of the cold run
pub cells_cold : (design : Design) (script : List Word) (results : Results) → AreSound design script results → AreFound results.found.items
    → cells_found results.found.items ≡ cells_in (done_modules (cold script design))
cells_cold design script results sound all =
    cells_are design.modules results.found.items sound.beside all
    ∙ ap (λ (os : List Outcome). cells_in (done_modules os)) (outcomes_cold design script results sound all)

-- the reply where it is told what was built
pub summary_told : (told : Told) (words : List ℕ) (design : Design) (cells : ℕ) (r : Result Reply Memory) → told ≡ WereBuilt words
    → IfOk r (λ reply. reply ≡ ok_reply (summary_line (length design.modules) words cells))
    → IfOk r (λ reply. (s : State) → told ≡ told_of s → design ≡ s.design → cells ≡ cells_in (netlist_of s).modules → reply ≡ (summary_answer s).reply)
summary_told told words design cells (Err memory) built is = tt
summary_told told words design cells (Ok reply) built is = λ s same own are.
    is ∙ ap (λ (d : Design). ok_reply (summary_line (length d.modules) words cells)) own
    ∙ ap (λ (n : ℕ). ok_reply (summary_line (length s.design.modules) words n)) are
    ∙ reply_built s (λ w. ok_reply (summary_line (length s.design.modules) w (cells_in (netlist_of s).modules))) words (over_words s.design.modules (cold s.script s.design)) (sym built ∙ same)
