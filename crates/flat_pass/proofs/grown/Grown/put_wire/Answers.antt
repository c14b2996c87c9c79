use Rattle.std.proofs.Common.{◌≡◌, ◌+◌, ◌∙◌, ap, sym, subst, rules, arith}
use Rattle.net_index.proofs.Rooms.{bit_count_last}
use Rattle.net_index.specs.Numbering.{bit_count, widths_of}
use Rattle.flat_pass.specs.Counts.{AreNames}
use Rattle.flat_pass.specs.Grown.{built}
use Rattle.flat_pass.proofs.Adding.{given, given_over, wire_names, wire_put}
use Rattle.flat_pass.proofs.grown.Grown.put_wire.Goals as goal

pub returns-in_err-name-clause-over : goal.returns-in_err-name-clause-over
returns-in_err-name-clause-over c = λ e.
    given_over (built c.args.self.now) c.args.instance.now c.args.wire.now.name c.as_slice.result.now c.as_slice.ensures.value (c.name.ensures.over (search (rules, e, c.from_residual-in_err-name.ensures)) (built c.args.self.now) c.requires.sound.names)

pub returns-clause-exact : goal.returns-clause-exact
returns-clause-exact c =
    let b = built c.args.self.now in
    let names = c.requires.sound.names in
    let g = given c.args.self.now.namer c.name.new.self b c.args.instance.now c.args.wire.now.name c.as_slice.result.now c.in_ok-name.name names c.as_slice.ensures.value (c.in_ok-name.ensures.name b names) (c.in_ok-name.ensures.next b names) (c.in_ok-name.ensures.small b names) c.in_ok-name.ensures.counts in
    wire_put c.args.self.now.namer c.name.new.self b c.args.instance.now c.in_ok-name.name c.args.wire.now c.in_ok-copy.copy c.push.new.self g c.in_ok-copy.ensures.value c.in_ok-push.ensures.ok

pub returns-clause-sound : goal.returns-clause-sound
returns-clause-sound c =
    let b = built c.args.self.now in
    let names = c.requires.sound.names in
    let g = given c.args.self.now.namer c.name.new.self b c.args.instance.now c.args.wire.now.name c.as_slice.result.now c.in_ok-name.name names c.as_slice.ensures.value (c.in_ok-name.ensures.name b names) (c.in_ok-name.ensures.next b names) (c.in_ok-name.ensures.small b names) c.in_ok-name.ensures.counts in
    let exact = wire_put c.args.self.now.namer c.name.new.self b c.args.instance.now c.in_ok-name.name c.args.wire.now c.in_ok-copy.copy c.push.new.self g c.in_ok-copy.ensures.value c.in_ok-push.ensures.ok in
    let bits : c.in_ok-bits.bits ≡ c.args.self.now.bits + c.args.wire.now.width = search rules in
    let more : bit_count (widths_of c.push.new.self) ≡ bit_count (widths_of c.args.self.now.body.wires) + c.in_ok-copy.copy.width = ap (λ ws. bit_count (widths_of ws)) c.in_ok-push.ensures.ok ∙ bit_count_last c.args.self.now.body.wires c.in_ok-copy.copy in
    let width : c.in_ok-copy.copy.width ≡ c.args.wire.now.width = ap (λ w. w.width) c.in_ok-copy.ensures.value in
    let were = c.requires.sound.bits in
    record {
      names = subst (AreNames c.name.new.self) (sym exact) (wire_names c.args.self.now.namer c.name.new.self b c.args.instance.now c.in_ok-name.name c.args.wire.now g);
      bits = omega (arith, bits, more, width, were);
      library = c.requires.sound.library;
    }
