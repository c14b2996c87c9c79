use Rattle.std.proofs.Common.{◌≡◌, ℕ, List, Some, Ok, Err, get_or, refl, sym, ap, subst, ◌∙◌}
use Rattle.std.specs.Prelude.{OnOk}
use Rattle.desk_read.specs.declared.command.Command.TheVariants.{SimNetlist}
use Rattle.rtl_ir.specs.declared.module.Design.{Design}
use Rattle.rtl_ir.specs.declared.module.Module.{Module}
use Rattle.rtl_ir.specs.Faults.Recursion.{place_named}
use Rattle.rtl_ir.specs.Types.{module_named}
use Rattle.result_cache.specs.Filled.{new_count}
use Rattle.build_crew.specs.Rises.{RisesUpTo}
use Rattle.sim_trace.specs.Stimulus.{stimulus_of}
use Rattle.desk_core.specs.Ages.{texts_of}
use Rattle.desk_core.specs.Answers.{netlist_reply}
use Rattle.desk_core.specs.Builds.{asked_by}
use Rattle.desk_core.specs.Netlist.{netlist_answer, netlist_of}
use Rattle.desk_core.specs.Solo.{Builds}
use Rattle.desk_core.specs.State.{State}
use Rattle.desk_core.proofs.OwnCalls.{builds_none}
use Rattle.desk_core.proofs.Showing.{asked_all, bad_line}
use Rattle.desk_core.proofs.Simulating.{simulated}
use Rattle.desk_core.proofs.Told.{on_ok}
use Rattle.desk_core.proofs.solo.SoloDesk.run_netlist.Goals as goal

pub returns-in-Ok-clause-ok : goal.returns-in-Ok-clause-ok
returns-in-Ok-clause-ok g c =
    let s = c.args.self.now in
    let ask = c.args.ask.now in
    let here : c.as_slice-modules.result.now ≡ s.design.modules =
    c.as_slice-modules.ensures.value ∙ ap (λ (d : Design). d.modules) c.design.ensures.value ∙ ap (λ (t : State). t.design.modules) c.self.view_is in
    let asked : c.as_slice.result.now ≡ ask.module = c.as_slice.ensures.value in
    let at = c.in-Some.at in
    let m = c.index-modules-at.result in
    let place : Some at ≡ place_named s.design.modules ask.module =
    sym c.in-Some.is ∙ c.place_named.ensures.value ∙ ap (place_named c.as_slice-modules.result.now) asked ∙ ap (λ (ms : List Module). place_named ms ask.module) here in
    let own : m ≡ get_or s.design.modules at m = c.index-modules-at.is ∙ ap (λ (l : List Module). get_or l at m) here in
    let reads : stimulus_of m ask.steps ≡ Ok c.as_slice-in-Ok.result.now =
    ap (stimulus_of m) (sym c.as_slice-2.ensures.value) ∙ c.in-Ok.ensures.reads ∙ ap Ok (sym c.as_slice-in-Ok.ensures.value) in
    simulated s c.netlist_trace.new.self ask.order ask.module ask.steps at m c.as_slice-in-Ok.result.now c.netlist_trace.result place own reads (c.netlist_trace.ensures.ok ask.module (sym place))

pub returns-in-Ok-clause-built : goal.returns-in-Ok-clause-built
returns-in-Ok-clause-built g c =
    let s = c.args.self.now in
    let ask = c.args.ask.now in
    let here : c.as_slice-modules.result.now ≡ s.design.modules =
    c.as_slice-modules.ensures.value ∙ ap (λ (d : Design). d.modules) c.design.ensures.value ∙ ap (λ (t : State). t.design.modules) c.self.view_is in
    let asked : c.as_slice.result.now ≡ ask.module = c.as_slice.ensures.value in
    let at = c.in-Some.at in
    let m = c.index-modules-at.result in
    let place : Some at ≡ place_named s.design.modules ask.module =
    sym c.in-Some.is ∙ c.place_named.ensures.value ∙ ap (place_named c.as_slice-modules.result.now) asked ∙ ap (λ (ms : List Module). place_named ms ask.module) here in
    let own : m ≡ get_or s.design.modules at m = c.index-modules-at.is ∙ ap (λ (l : List Module). get_or l at m) here in
    let reads : stimulus_of m ask.steps ≡ Ok c.as_slice-in-Ok.result.now =
    ap (stimulus_of m) (sym c.as_slice-2.ensures.value) ∙ c.in-Ok.ensures.reads ∙ ap Ok (sym c.as_slice-in-Ok.ensures.value) in
    subst (λ (keys : List (List ℕ)). OnOk c.netlist_trace.result (Builds (texts_of s.kept) keys c.args.seat.now c.netlist_trace.new.seat c.args.meter.now c.netlist_trace.new.meter))
    (sym (asked_all s ask at m c.as_slice-in-Ok.result.now place own reads)) c.netlist_trace.ensures.built

pub returns-in-Ok-clause-ticks : goal.returns-in-Ok-clause-ticks
returns-in-Ok-clause-ticks g c =
    let s = c.args.self.now in
    let ask = c.args.ask.now in
    let here : c.as_slice-modules.result.now ≡ s.design.modules =
    c.as_slice-modules.ensures.value ∙ ap (λ (d : Design). d.modules) c.design.ensures.value ∙ ap (λ (t : State). t.design.modules) c.self.view_is in
    let asked : c.as_slice.result.now ≡ ask.module = c.as_slice.ensures.value in
    let at = c.in-Some.at in
    let m = c.index-modules-at.result in
    let place : Some at ≡ place_named s.design.modules ask.module =
    sym c.in-Some.is ∙ c.place_named.ensures.value ∙ ap (place_named c.as_slice-modules.result.now) asked ∙ ap (λ (ms : List Module). place_named ms ask.module) here in
    let own : m ≡ get_or s.design.modules at m = c.index-modules-at.is ∙ ap (λ (l : List Module). get_or l at m) here in
    let reads : stimulus_of m ask.steps ≡ Ok c.as_slice-in-Ok.result.now =
    ap (stimulus_of m) (sym c.as_slice-2.ensures.value) ∙ c.in-Ok.ensures.reads ∙ ap Ok (sym c.as_slice-in-Ok.ensures.value) in
    subst (λ (keys : List (List ℕ)). RisesUpTo (new_count (texts_of s.kept) keys) c.args.meter.now c.netlist_trace.new.meter)
    (sym (asked_all s ask at m c.as_slice-in-Ok.result.now place own reads)) c.netlist_trace.ensures.ticks

pub returns-in-Err-Bad-clause-ok : goal.returns-in-Err-Bad-clause-ok
returns-in-Err-Bad-clause-ok g c =
    let s = c.args.self.now in
    let ask = c.args.ask.now in
    let here : c.as_slice-modules.result.now ≡ s.design.modules =
    c.as_slice-modules.ensures.value ∙ ap (λ (d : Design). d.modules) c.design.ensures.value ∙ ap (λ (t : State). t.design.modules) c.self.view_is in
    let asked : c.as_slice.result.now ≡ ask.module = c.as_slice.ensures.value in
    let at = c.in-Some.at in
    let m = c.index-modules-at.result in
    let place : Some at ≡ place_named s.design.modules ask.module =
    sym c.in-Some.is ∙ c.place_named.ensures.value ∙ ap (place_named c.as_slice-modules.result.now) asked ∙ ap (λ (ms : List Module). place_named ms ask.module) here in
    let own : m ≡ get_or s.design.modules at m = c.index-modules-at.is ∙ ap (λ (l : List Module). get_or l at m) here in
    let bad : stimulus_of m ask.steps ≡ Err c.in-Err-Bad.number =
    ap (stimulus_of m) (sym c.as_slice-2.ensures.value) ∙ c.in-Err-Bad.ensures.bad c.in-Err-Bad.number cc in
    bad_line s ask.module ask.steps at m c.in-Err-Bad.number
    (λ n steps. netlist_answer s (netlist_reply s ask.order ask.module steps (module_named (netlist_of s).modules ask.module)))
    c.number_reply.result place own bad c.number_reply.ensures.value

pub returns-in-Err-Bad-clause-built : goal.returns-in-Err-Bad-clause-built
returns-in-Err-Bad-clause-built g c =
    on_ok c.number_reply.result
    (builds_none (texts_of c.args.self.now.kept) (asked_by (SimNetlist c.args.ask.now) c.args.self.now) c.args.seat.now c.args.seat.now c.args.meter.now c.args.meter.now refl refl)

pub returns-in_default-clause-built : goal.returns-in_default-clause-built
returns-in_default-clause-built g c =
    on_ok c.told_reply.result
    (builds_none (texts_of c.args.self.now.kept) (asked_by (SimNetlist c.args.ask.now) c.args.self.now) c.args.seat.now c.args.seat.now c.args.meter.now c.args.meter.now refl refl)
