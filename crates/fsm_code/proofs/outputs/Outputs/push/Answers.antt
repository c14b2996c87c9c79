-- The table has the places of the list still.
use Rattle.std.proofs.Common.{rules, map, ◌≡◌, length, cond, Some, None, sym, ◌∙◌, ap}
use Rattle.std.specs.Option.{option_or}
use Rattle.rtl_ir.specs.Signals.{same_signal}
use Rattle.fsm_parts.specs.SignalTable.{place_in}
use Rattle.fsm_code.specs.declared.outputs.Output.{Output}
use Rattle.fsm_code.specs.Outputs.{first_output, pair_of}
use Rattle.fsm_code.proofs.Tabling.{tabled_more}
use Rattle.fsm_code.proofs.outputs.Outputs.push.Goals as goal

-- src/outputs.rt:44:5
pub returns-clause-tabled : goal.returns-clause-tabled
returns-clause-tabled c t signal =
    let o : Output = record { before = c.args.before; after = c.args.after } in
    let list = c.args.self.now.list.items in
    let put : place_in c.put_first.new.self signal ≡ option_or (place_in c.args.self.now.table signal) (cond (same_signal c.args.before signal) (Some (length list)) None) = search (rules, c.in_ok-put_first.ensures, c.len-at.ensures, c.as_slice.ensures.value) in
    put ∙ tabled_more list o signal (place_in c.args.self.now.table signal) (t signal) ∙ ap (λ items. first_output (map pair_of items) 0 signal) (sym c.in_ok-push.ensures.items)
