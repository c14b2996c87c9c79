use Rattle.std.proofs.Common.{◌<◌, ◌∙◌, ap, length, map, subst, sym}
use Rattle.std.specs.List.{AllByRecursion}
use Rattle.flat_net.specs.declared.net.Output.{Output}
use Rattle.sim_eval.specs.declared.cell.Worked.TheVariants.{Word}
use Rattle.sim_eval.specs.Advance.{Takes, output_fact}
use Rattle.sim_eval.specs.Fetched.{number_fetched}
use Rattle.sim_eval.proofs.Reading.{advances_read}
use Rattle.sim_eval.proofs.fetched.update_port.Goals as goal

pub returns-clause-advances : goal.returns-clause-advances
returns-clause-advances c = λ ps apart same fetched within t.
    let f = c.args.fetched.now in
    let r = c.args.port.now in
    let old = c.args.now.now in
    let word = c.in_ok-word.word in
    let is = c.in_ok-word.ensures.value ∙ ap (λ address. map (number_fetched old f.first address) f.columns) c.as_slice.ensures.value in
    advances_read ps old apart same t f r word c.put_all.new.now c.put_all.result fetched within is
    (subst (λ z. Takes ps (map (output_fact ps (Word word)) z) old c.put_all.new.now c.put_all.result) c.as_slice-2.ensures.value
    (c.put_all.ensures.takes ps apart same (subst (AllByRecursion (λ (o : Output). o.number < length ps)) (sym c.as_slice-2.ensures.value) within.outputs)))
