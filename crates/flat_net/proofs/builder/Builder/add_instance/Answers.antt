use Rattle.std.proofs.Common.{◌∙◌, [], map, ap}
use Rattle.std.proofs.lemmas.Option.{slice_get_within, slice_get-get_or}
use Rattle.rtl_ir.specs.Flat.Cell.{instance_rows}
use Rattle.rtl_ir.specs.Flat.Place.{frame}
use Rattle.rtl_ir.specs.Flat.Tree.{ports_or_none, named}
use Rattle.rtl_ir.specs.Ports.{line_of}
use Rattle.flat_net.specs.Tables.{all_now}
use Rattle.flat_net.proofs.Kept.{within-Keeps}
use Rattle.flat_net.proofs.Moduling.{Adds-behind, found_ports}
use Rattle.flat_net.proofs.builder.Builder.add_instance.Goals as goal

pub add_ports-requires-clause-in_range : goal.add_ports-requires-clause-in_range
add_ports-requires-clause-in_range c = within-Keeps _ _ _ c.in_ok-inner.ensures.grows.paths c.requires.in_range

pub add_ports-requires-clause-inner_in_range : goal.add_ports-requires-clause-inner_in_range
add_ports-requires-clause-inner_in_range c = slice_get_within _ _ _ (c.in_ok-inner.ensures.value _ (slice_get-get_or _ _ [] c.requires.in_range))

pub returns-clause-rows : goal.returns-clause-rows
returns-clause-rows c = λ p path d table.
    let id = c.as_slice-id.ensures.value in
    let ports = ap (λ ws. map line_of (all_now ws)) c.as_slice-ports.ensures.value ∙ found_ports c.in-Some.entry.now d.modules c.as_slice-id.result.now (c.in-Some.ensures.value d.modules table) ∙ ap (λ i. ports_or_none (named d.modules i)) id in
    Adds-behind c.args.self.now c.add_ports.new.self c.enter.new.self _ _ c.in_ok-inner.ensures.grows
    (λ i. instance_rows p c.args.scope.now.wires.now (c.as_slice-2.ensures.value i) (frame (c.as_slice.ensures.value i) (id i)) (ports i)) c.add_ports.result
    (c.add_ports.ensures.rows p (c.in_ok-inner.ensures.grows.paths _ _ path) (frame c.as_slice.result.now c.as_slice-id.result.now) (c.in_ok-inner.ensures.value p path))
