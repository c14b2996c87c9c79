use Rattle.std.proofs.Common.{◌≡◌, ◌++◌, ◌<◌, ◌^◌, List, ℕ, length, map, slice_get, sym, subst, ap, ◌∙◌}
use Rattle.std.specs.Prelude.{codes}
use Rattle.std.proofs.lemmas.List.{length-map}
use Rattle.rtl_ir.specs.declared.module.Design.{Design}
use Rattle.rtl_ir.specs.declared.module.Module.{Module}
use Rattle.flat_net.specs.declared.titled.Titled.{Titled}
use Rattle.flat_net.specs.Titled.{HaveNoProcess, titled_design, titled_module}
use Rattle.net_model.specs.Within.{Each}
use Rattle.sim_eval.specs.Shapes.{HaveShapes}
use Rattle.reply_lines.specs.Lines.{counted, ok_line, ok_reply}
use Rattle.sim_trace.specs.Stimulus.{trace_text}
use Rattle.desk_core.specs.Netlist.{done_modules}
use Rattle.desk_core.specs.Results.{outcomes_of}
use Rattle.desk_core.specs.Shaped.{IsShaped}
use Rattle.desk_core.proofs.Outcomes.{lent_plain}
use Rattle.desk_core.proofs.simulate.traced.Goals as goal

pub put_titled_trace_in-requires : goal.put_titled_trace_in-requires
put_titled_trace_in-requires c =
    let all = done_modules (outcomes_of c.args.design.now.design.modules c.args.found.now) in
    let source = c.as_slice-modules.ensures.value ∙ ap (λ (d : Design). d.modules) c.design.ensures.value in
    let lent = c.in_ok-netlist.netlist.items in
    let made : map titled_module lent ≡ all =
    c.in_ok-netlist.ensures.value
    ∙ ap (λ (ms : List Module). done_modules (outcomes_of ms c.args.found.now)) source in
    let same = c.as_slice-2.ensures.value in
    let count : length all ≡ length c.as_slice-2.result.now = ap length (sym made) ∙ length-map lent titled_module ∙ ap length (sym same) in
    let shaped : Each IsShaped (map titled_module lent) = subst (Each IsShaped) (sym made) c.requires.gates in
    record {
      in_range = subst (λ (n : ℕ). c.args.at < n) count c.requires.in_range;
      small = subst (λ (n : ℕ). n < 2 ^ 32) count c.requires.small;
      plain = subst (λ (ts : List Titled). HaveNoProcess ts) (sym same) (lent_plain lent shaped);
      shapes = subst (λ (ts : List Titled). Each (λ (m : Module). HaveShapes m.cells) (titled_design ts).modules) (sym same) (λ m i. (shaped m i).cells);
    }

pub returns : goal.returns
returns c = record {
  value = λ m there.
      let steps = c.args.stimulus.now in
      let all : Design = record { modules = done_modules (outcomes_of c.args.design.now.design.modules c.args.found.now) } in
      let source = c.as_slice-modules.ensures.value ∙ ap (λ (d : Design). d.modules) c.design.ensures.value in
      let made : (titled_design c.as_slice-2.result.now).modules ≡ all.modules =
      ap (λ (ts : List Titled). (titled_design ts).modules) c.as_slice-2.ensures.value
      ∙ c.in_ok-netlist.ensures.value
      ∙ ap (λ (ms : List Module). done_modules (outcomes_of ms c.args.found.now)) source in
      let netlist : titled_design c.as_slice-2.result.now ≡ all = ap (λ (ms : List Module). record { modules = ms }) made in
      let words : c.as_slice.result.now ≡ c.args.words ++ counted (codes "steps") (length steps) = c.as_slice.ensures.value ∙ c.in_ok-put_counted.ensures.ok in
      let line : c.in_ok-text.text ≡ ok_line (c.args.words ++ counted (codes "steps") (length steps)) = c.in_ok-text.ensures.value ∙ ap ok_line words in
      c.ok_reply.ensures.value
      ∙ ap ok_reply
      (c.in_ok-put_titled_trace_in.ensures.ok m (ap (λ (d : Design). slice_get d.modules c.args.at) netlist ∙ there)
      ∙ ap (λ (d : Design). c.in_ok-text.text ++ trace_text c.args.order d m steps) netlist
      ∙ ap (λ (t : List ℕ). t ++ trace_text c.args.order all m steps) line);
}
