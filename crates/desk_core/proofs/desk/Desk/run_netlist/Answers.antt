use Rattle.std.proofs.Common.{◌≡◌, ℕ, List, Some, None, Ok, Err, get_or, refl, sym, ap, subst, ◌∙◌}
use Rattle.std.specs.Prelude.{OnOk}
use Rattle.result_cache.specs.Filled.{new_count}
use Rattle.build_crew.specs.Rises.{RisesUpTo}
use Rattle.rtl_ir.specs.declared.module.Design.{Design}
use Rattle.rtl_ir.specs.declared.module.Module.{Module}
use Rattle.rtl_ir.specs.Faults.Recursion.{place_named}
use Rattle.rtl_ir.specs.Types.{module_named}
use Rattle.sim_trace.specs.Stimulus.{stimulus_of}
use Rattle.desk_core.specs.Ages.{texts_of}
use Rattle.desk_core.specs.Answers.{netlist_reply}
use Rattle.desk_core.specs.Builds.{BuildsOrReturns, HasClaims}
use Rattle.desk_core.specs.Netlist.{netlist_answer, netlist_of}
use Rattle.desk_core.specs.State.{DeskView}
use Rattle.desk_core.proofs.Rises.{claims_none}
use Rattle.desk_core.proofs.Showing.{asked_all, asked_bad, asked_unknown, bad_line}
use Rattle.desk_core.proofs.Told.{on_ok}
use Rattle.desk_core.proofs.Simulating.{simulated}
use Rattle.desk_core.proofs.desk.Desk.run_netlist.Goals as goal

pub returns-in-Ok-clause-ok : goal.returns-in-Ok-clause-ok
returns-in-Ok-clause-ok g c =
    let s = c.args.self.now.state in
    let name = c.args.ask.now.module in
    let at = c.in-Some.at in
    let m = c.index-modules-at.result in
    let steps = c.as_slice-in-Ok.result.now in
    let here : c.as_slice-modules.result.now ≡ s.design.modules =
    c.as_slice-modules.ensures.value ∙ ap (λ (d : Design). d.modules) c.design.ensures.value ∙ ap (λ (t : DeskView). t.state.design.modules) c.self.view_is in
    let asked : c.as_slice.result.now ≡ name = c.as_slice.ensures.value in
    let place : Some at ≡ place_named s.design.modules name =
    sym c.in-Some.is ∙ c.place_named.ensures.value ∙ ap (place_named c.as_slice-modules.result.now) asked ∙ ap (λ (ms : List Module). place_named ms name) here in
    let own : m ≡ get_or s.design.modules at m = c.index-modules-at.is ∙ ap (λ (l : List Module). get_or l at m) here in
    let reads : stimulus_of m c.args.ask.now.steps ≡ Ok steps =
    ap (stimulus_of m) (sym c.as_slice-2.ensures.value) ∙ c.in-Ok.ensures.reads ∙ ap Ok (sym c.as_slice-in-Ok.ensures.value) in
    simulated s c.netlist_trace.new.self.state c.args.ask.now.order name c.args.ask.now.steps at m steps c.netlist_trace.result place own reads (c.netlist_trace.ensures.ok name (sym place))

pub returns-in-Err-Bad-clause-ok : goal.returns-in-Err-Bad-clause-ok
returns-in-Err-Bad-clause-ok g c =
    let s = c.args.self.now.state in
    let name = c.args.ask.now.module in
    let at = c.in-Some.at in
    let m = c.index-modules-at.result in
    let here : c.as_slice-modules.result.now ≡ s.design.modules =
    c.as_slice-modules.ensures.value ∙ ap (λ (d : Design). d.modules) c.design.ensures.value ∙ ap (λ (t : DeskView). t.state.design.modules) c.self.view_is in
    let asked : c.as_slice.result.now ≡ name = c.as_slice.ensures.value in
    let place : Some at ≡ place_named s.design.modules name =
    sym c.in-Some.is ∙ c.place_named.ensures.value ∙ ap (place_named c.as_slice-modules.result.now) asked ∙ ap (λ (ms : List Module). place_named ms name) here in
    let own : m ≡ get_or s.design.modules at m = c.index-modules-at.is ∙ ap (λ (l : List Module). get_or l at m) here in
    let bad : stimulus_of m c.args.ask.now.steps ≡ Err c.in-Err-Bad.number =
    ap (stimulus_of m) (sym c.as_slice-2.ensures.value) ∙ c.in-Err-Bad.ensures.bad c.in-Err-Bad.number cc in
    bad_line s name c.args.ask.now.steps at m c.in-Err-Bad.number
    (λ n steps. netlist_answer s (netlist_reply s c.args.ask.now.order name steps (module_named (netlist_of s).modules name)))
    c.number_reply.result place own bad c.number_reply.ensures.value

pub returns-in_default-clause-claims : goal.returns-in_default-clause-claims
returns-in_default-clause-claims g c =
    let s = c.args.self.now.state in
    let ask = c.args.ask.now in
    let here : c.as_slice-modules.result.now ≡ s.design.modules =
    c.as_slice-modules.ensures.value ∙ ap (λ (d : Design). d.modules) c.design.ensures.value ∙ ap (λ (t : DeskView). t.state.design.modules) c.self.view_is in
    let asked : c.as_slice.result.now ≡ ask.module = c.as_slice.ensures.value in
    let place : None ≡ place_named s.design.modules ask.module = cc here in
    on_ok c.told_reply.result
    (subst (λ (keys : List (List ℕ)). HasClaims keys c.args.self.now.seats c.args.self.now.seats) (sym (asked_unknown s ask place))
    (claims_none c.args.self.now.seats c.args.self.now.seats refl))

pub returns-in-Ok-clause-claims : goal.returns-in-Ok-clause-claims
returns-in-Ok-clause-claims g c =
    let s = c.args.self.now.state in
    let ask = c.args.ask.now in
    let here : c.as_slice-modules.result.now ≡ s.design.modules =
    c.as_slice-modules.ensures.value ∙ ap (λ (d : Design). d.modules) c.design.ensures.value ∙ ap (λ (t : DeskView). t.state.design.modules) c.self.view_is in
    let asked : c.as_slice.result.now ≡ ask.module = c.as_slice.ensures.value in
    let at = c.in-Some.at in
    let m = c.index-modules-at.result in
    let place : Some at ≡ place_named s.design.modules ask.module =
    sym c.in-Some.is ∙ c.place_named.ensures.value ∙ ap (place_named c.as_slice-modules.result.now) asked ∙ ap (λ (ms : List Module). place_named ms ask.module) here in
    let own : m ≡ get_or s.design.modules at m = c.index-modules-at.is ∙ ap (λ (l : List Module). get_or l at m) here in
    let reads : stimulus_of m ask.steps ≡ Ok c.as_slice-in-Ok.result.now =
    ap (stimulus_of m) (sym c.as_slice-2.ensures.value) ∙ c.in-Ok.ensures.reads ∙ ap Ok (sym c.as_slice-in-Ok.ensures.value) in
    let all = asked_all s ask at m c.as_slice-in-Ok.result.now place own reads in
    subst (λ (keys : List (List ℕ)). OnOk c.netlist_trace.result (HasClaims keys c.args.self.now.seats c.netlist_trace.new.self.seats)) (sym all) c.netlist_trace.ensures.claims

pub returns-in-Ok-clause-ticks : goal.returns-in-Ok-clause-ticks
returns-in-Ok-clause-ticks g c =
    let s = c.args.self.now.state in
    let ask = c.args.ask.now in
    let here : c.as_slice-modules.result.now ≡ s.design.modules =
    c.as_slice-modules.ensures.value ∙ ap (λ (d : Design). d.modules) c.design.ensures.value ∙ ap (λ (t : DeskView). t.state.design.modules) c.self.view_is in
    let asked : c.as_slice.result.now ≡ ask.module = c.as_slice.ensures.value in
    let at = c.in-Some.at in
    let m = c.index-modules-at.result in
    let place : Some at ≡ place_named s.design.modules ask.module =
    sym c.in-Some.is ∙ c.place_named.ensures.value ∙ ap (place_named c.as_slice-modules.result.now) asked ∙ ap (λ (ms : List Module). place_named ms ask.module) here in
    let own : m ≡ get_or s.design.modules at m = c.index-modules-at.is ∙ ap (λ (l : List Module). get_or l at m) here in
    let reads : stimulus_of m ask.steps ≡ Ok c.as_slice-in-Ok.result.now =
    ap (stimulus_of m) (sym c.as_slice-2.ensures.value) ∙ c.in-Ok.ensures.reads ∙ ap Ok (sym c.as_slice-in-Ok.ensures.value) in
    let all = asked_all s ask at m c.as_slice-in-Ok.result.now place own reads in
    subst (λ (keys : List (List ℕ)). OnOk c.netlist_trace.result (RisesUpTo (new_count (texts_of s.kept) keys) c.args.meter.now c.netlist_trace.new.meter)) (sym all) c.netlist_trace.ensures.ticks

pub returns-in-Ok-clause-returned : goal.returns-in-Ok-clause-returned
returns-in-Ok-clause-returned g c =
    let s = c.args.self.now.state in
    let ask = c.args.ask.now in
    let here : c.as_slice-modules.result.now ≡ s.design.modules =
    c.as_slice-modules.ensures.value ∙ ap (λ (d : Design). d.modules) c.design.ensures.value ∙ ap (λ (t : DeskView). t.state.design.modules) c.self.view_is in
    let asked : c.as_slice.result.now ≡ ask.module = c.as_slice.ensures.value in
    let at = c.in-Some.at in
    let m = c.index-modules-at.result in
    let place : Some at ≡ place_named s.design.modules ask.module =
    sym c.in-Some.is ∙ c.place_named.ensures.value ∙ ap (place_named c.as_slice-modules.result.now) asked ∙ ap (λ (ms : List Module). place_named ms ask.module) here in
    let own : m ≡ get_or s.design.modules at m = c.index-modules-at.is ∙ ap (λ (l : List Module). get_or l at m) here in
    let reads : stimulus_of m ask.steps ≡ Ok c.as_slice-in-Ok.result.now =
    ap (stimulus_of m) (sym c.as_slice-2.ensures.value) ∙ c.in-Ok.ensures.reads ∙ ap Ok (sym c.as_slice-in-Ok.ensures.value) in
    let all = asked_all s ask at m c.as_slice-in-Ok.result.now place own reads in
    subst (λ (keys : List (List ℕ)). BuildsOrReturns (new_count (texts_of s.kept) keys) c.args.self.now.seats c.netlist_trace.new.self.seats c.args.meter.now c.netlist_trace.new.meter) (sym all)
    c.netlist_trace.ensures.returned

pub returns-in-Err-Bad-clause-claims : goal.returns-in-Err-Bad-clause-claims
returns-in-Err-Bad-clause-claims g c =
    let s = c.args.self.now.state in
    let ask = c.args.ask.now in
    let here : c.as_slice-modules.result.now ≡ s.design.modules =
    c.as_slice-modules.ensures.value ∙ ap (λ (d : Design). d.modules) c.design.ensures.value ∙ ap (λ (t : DeskView). t.state.design.modules) c.self.view_is in
    let asked : c.as_slice.result.now ≡ ask.module = c.as_slice.ensures.value in
    let at = c.in-Some.at in
    let m = c.index-modules-at.result in
    let place : Some at ≡ place_named s.design.modules ask.module =
    sym c.in-Some.is ∙ c.place_named.ensures.value ∙ ap (place_named c.as_slice-modules.result.now) asked ∙ ap (λ (ms : List Module). place_named ms ask.module) here in
    let own : m ≡ get_or s.design.modules at m = c.index-modules-at.is ∙ ap (λ (l : List Module). get_or l at m) here in
    let bad : stimulus_of m ask.steps ≡ Err c.in-Err-Bad.number =
    ap (stimulus_of m) (sym c.as_slice-2.ensures.value) ∙ c.in-Err-Bad.ensures.bad c.in-Err-Bad.number cc in
    on_ok c.number_reply.result
    (subst (λ (keys : List (List ℕ)). HasClaims keys c.args.self.now.seats c.args.self.now.seats) (sym (asked_bad s ask at m c.in-Err-Bad.number place own bad))
    (claims_none c.args.self.now.seats c.args.self.now.seats refl))
