use Rattle.std.proofs.Common.{Some, sym, ap, ◌∙◌}
use Rattle.rtl_ir.specs.Types.{port_lines}
use Rattle.net_index.specs.Types.{at_name}
use Rattle.rtl_check.proofs.Noting.{kept_ports, placed_within}
use Rattle.rtl_check.proofs.due.keeps_ports.Goals as goal

pub has_ports-requires : goal.has_ports-requires
has_ports-requires c =
    let found = sym (c.in-Some.ensures.value ∙ ap (at_name c.args.places.now) c.as_slice.ensures.value) in
    record { in_range = placed_within c.args.places.now c.args.modules.now c.args.edit.now.id c.in-Some.at.now c.args.edit.now c.requires.placed found }

pub returns-in-Some : goal.returns-in-Some
returns-in-Some c =
    let found = sym (c.in-Some.ensures.value ∙ ap (at_name c.args.places.now) c.as_slice.ensures.value) in
    record { keeps = λ t. kept_ports c.args.places.now c.args.modules.now c.args.edit.now c.in-Some.at.now c.requires.placed found (c.has_ports.ensures.same t ∙ ap (λ ws. Some (port_lines ws)) c.as_slice-in-Some.ensures.value) }
