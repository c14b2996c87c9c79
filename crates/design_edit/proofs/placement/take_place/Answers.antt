use Rattle.std.proofs.Common.{sym, ap, ◌∙◌}
use Rattle.net_index.specs.Types.{at_name}
use Rattle.design_edit.proofs.Placing.{place_last}
use Rattle.design_edit.proofs.Tables.{table_again, table_last}
use Rattle.design_edit.proofs.placement.take_place.Goals as goal

pub returns-in-Some-clause-table : goal.returns-in-Some-clause-table
returns-in-Some-clause-table c = λ modules new are is named.
    table_again new c.args.table.now modules c.in-Some.place.now are (ap (at_name c.args.table.now) named ∙ sym c.in-Some.ensures.value)

pub returns-clause-place : goal.returns-clause-place
returns-clause-place c = λ modules are is. is ∙ sym (place_last modules c.args.name.now (sym (are c.args.name.now) ∙ sym c.in_default.ensures.value))

pub returns-clause-table : goal.returns-clause-table
returns-clause-table c = λ modules new are is named.
    table_last new c.args.table.now c.insert.new.self modules c.args.name c.args.count are (ap (at_name c.args.table.now) named ∙ sym c.in_default.ensures.value) is (record { updates = c.in_ok-insert.ensures.updates }) (sym named)
