use Rattle.std.proofs.Common.{◌≡◌, ◌++◌, List, ℕ, length, slice_get, ap, ◌∙◌}
use Rattle.std.specs.Prelude.{codes}
use Rattle.rtl_ir.specs.declared.module.Design.{Design}
use Rattle.reply_lines.specs.Lines.{counted, ok_line, ok_reply}
use Rattle.sim_trace.specs.Stimulus.{trace_text}
use Rattle.desk_core.proofs.present.Present.source_trace.Goals as goal

pub returns : goal.returns
returns c = record {
  value = λ kept m there.
      let design = c.args.self.now.design.design in
      let steps = c.args.stimulus.now in
      let here : c.design.result.now ≡ design = c.design.ensures.value in
      let words : c.as_slice.result.now ≡ counted (codes "steps") (length steps) = c.as_slice.ensures.value ∙ c.in_ok-words.ensures.value in
      let line : c.in_ok-text.text ≡ ok_line (counted (codes "steps") (length steps)) = c.in_ok-text.ensures.value ∙ ap ok_line words in
      c.ok_reply.ensures.value
      ∙ ap ok_reply
      (c.in_ok-put_trace_in.ensures.ok m (ap (λ (d : Design). slice_get d.modules c.args.at) here ∙ there)
      ∙ ap (λ (d : Design). c.in_ok-text.text ++ trace_text c.args.order d m steps) here
      ∙ ap (λ (t : List ℕ). t ++ trace_text c.args.order design m steps) line);
}
