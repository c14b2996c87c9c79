use Rattle.std.proofs.Common.{◌≡◌, List, Some, get_or, slice_get, refl, sym, ap, ◌∙◌}
use Rattle.std.proofs.lemmas.Option.{slice_get-get_or}
use Rattle.rtl_ir.specs.declared.module.Module.{Module}
use Rattle.sim_trace.proofs.trace.put_trace_in.Goals as goal

pub put_steps-requires : goal.put_steps-requires
put_steps-requires c =
    let d = c.args.design.now in
    let m = c.index-as_slice-at.result in
    let own : m ≡ get_or d.modules c.args.at m = c.index-as_slice-at.is ∙ ap (λ (l : List Module). get_or l c.args.at m) c.as_slice.ensures.value in
    let here : slice_get d.modules c.args.at ≡ Some m = slice_get-get_or d.modules c.args.at m c.requires.in_range ∙ ap Some (sym own) in
    record { fresh = record { order = c.args.order; design = d; body = m; over = refl; is = c.in_ok-sim.ensures.settled m here } }

pub returns : goal.returns
returns c = record {
  ok = λ n there.
      let d = c.args.design.now in
      let m = c.index-as_slice-at.result in
      let own : m ≡ get_or d.modules c.args.at m = c.index-as_slice-at.is ∙ ap (λ (l : List Module). get_or l c.args.at m) c.as_slice.ensures.value in
      let here : slice_get d.modules c.args.at ≡ Some m = slice_get-get_or d.modules c.args.at m c.requires.in_range ∙ ap Some (sym own) in
      let both : Some n ≡ Some m = sym there ∙ here in
      let one : n ≡ m = cc in
      c.put_steps.ensures.ok c.args.order d n (ap (λ (k : Module). k.wires) one) (c.in_ok-sim.ensures.settled n there);
}
