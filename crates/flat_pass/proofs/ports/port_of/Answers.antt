use Rattle.std.proofs.Common.{◌≡◌, ◌∙◌, ap, map, length, rules}
use Rattle.std.specs.Prelude.{unwrap_or}
use Rattle.rtl_ir.specs.declared.wire.Wire.{Wire}
use Rattle.flat_pass.specs.ByName.{place_from}
use Rattle.flat_pass.proofs.Firsts.{wire_place_is}
use Rattle.flat_pass.proofs.ports.port_of.Goals as goal

pub returns-clause-place : goal.returns-clause-place
returns-clause-place c =
    let names = map (λ (w : Wire). w.name) c.args.wires.now in
    let found = c.find-place.ensures.value names c.requires.places in
    let at : c.unwrap_or.result ≡ unwrap_or c.find-place.result (length c.args.wires.now) = search rules in
    at ∙ ap (λ o. unwrap_or o (length c.args.wires.now)) found ∙ ap (λ n. unwrap_or (place_from 0 names n) (length c.args.wires.now)) c.as_slice.ensures.value ∙ wire_place_is c.args.wires.now c.args.wire.now.name
