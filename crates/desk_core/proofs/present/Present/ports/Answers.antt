use Rattle.std.proofs.Common.{◌≡◌, List, [], Some, None, get_or, sym, ap, ◌∙◌}
use Rattle.std.specs.List.{flat_map}
use Rattle.rtl_ir.specs.declared.module.Design.{Design}
use Rattle.rtl_ir.specs.declared.module.Module.{Module}
use Rattle.rtl_ir.specs.declared.wire.Wire.{Wire}
use Rattle.rtl_ir.specs.Faults.Recursion.{place_named}
use Rattle.rtl_ir.specs.Ports.{ports_of}
use Rattle.desk_core.specs.Answers.{port_line, printed_reply, unchanged}
use Rattle.desk_core.specs.Present.{state_with}
use Rattle.desk_core.proofs.Showing.{ported, told_same, unknown}
use Rattle.desk_core.proofs.present.Present.ports.Goals as goal

pub returns-in_default : goal.returns-in_default
returns-in_default c =
    let here = c.as_slice-modules.ensures.value ∙ ap (λ (d : Design). d.modules) c.design.ensures.value in
    let place : None ≡ place_named c.args.self.now.design.design.modules c.args.name.now = cc here in
    record {
      ok = λ kept.
          let s = state_with kept c.args.self.now in
          unknown s c.args.name.now (λ m. unchanged s (printed_reply [] (flat_map port_line (ports_of m.wires)))) c.told_reply.result place c.told_reply.ensures.value;
    }

pub returns : goal.returns
returns c =
    let modules = c.args.self.now.design.design.modules in
    let m = c.index-modules-at.result in
    let here = c.as_slice-modules.ensures.value ∙ ap (λ (d : Design). d.modules) c.design.ensures.value in
    let place : Some c.in-Some.at ≡ place_named modules c.args.name.now = cc here in
    let own : m ≡ get_or modules c.in-Some.at m = c.index-modules-at.is ∙ ap (λ (l : List Module). get_or l c.in-Some.at m) here in
    let text : c.in_ok-ports_text.field-0 ≡ flat_map port_line (ports_of m.wires) =
    c.in_ok-ports_text.ensures.value
    ∙ ap (λ (ws : List Wire). flat_map port_line (ports_of ws)) (c.as_slice.ensures.value ∙ ap (λ (n : Module). n.wires) (sym c.index-modules-at.is)) in
    record {
      ok = λ kept. ported (state_with kept c.args.self.now) c.args.name.now c.in-Some.at m c.listed.result place own (told_same c.listed.result _ _ (ap (printed_reply []) text) c.listed.ensures.value);
    }
