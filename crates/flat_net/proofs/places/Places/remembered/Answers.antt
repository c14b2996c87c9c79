use Rattle.std.proofs.Common.{◌++◌, [], map, subst, sym}
use Rattle.std.proofs.lemmas.List.{map-append}
use Rattle.flat_net.specs.Memories.{AreBegins, ArePorts, port_in, words_begins}
use Rattle.flat_net.proofs.Kept.{within-Keeps}
use Rattle.flat_net.proofs.Reading.{ArePorts-kept, Extends-then, IsPoint-kept}
use Rattle.flat_net.proofs.Wording.{ArePorts-none, remembered_is}
use Rattle.flat_net.proofs.places.Places.remembered.Goals as goal

pub put_ports-requires-2 : goal.put_ports-requires-2
put_ports-requires-2 c = record { in_range = within-Keeps _ _ _ c.in_ok-put_ports.ensures.grows.paths c.requires.in_range }

pub write_clock-requires : goal.write_clock-requires
write_clock-requires c = record { in_range = within-Keeps _ _ _ (Extends-then _ _ _ c.in_ok-put_ports.ensures.grows c.in_ok-put_ports-2.ensures.grows).paths c.requires.in_range }

pub word_bits-requires : goal.word_bits-requires
word_bits-requires c =
    let e = Extends-then _ _ _ (Extends-then _ _ _ c.in_ok-put_ports.ensures.grows c.in_ok-put_ports-2.ensures.grows) c.in_ok-clock.ensures.grows in
    record { in_range = within-Keeps _ _ _ e.paths c.requires.in_range }

pub returns-clause-grows : goal.returns-clause-grows
returns-clause-grows c =
    Extends-then _ _ _ (Extends-then _ _ _ (Extends-then _ _ _ c.in_ok-put_ports.ensures.grows c.in_ok-put_ports-2.ensures.grows) c.in_ok-clock.ensures.grows) c.in_ok-bits.ensures.grows

pub returns-clause-value : goal.returns-clause-value
returns-clause-value c = λ p path.
    let wires = c.args.scope.now.wires.now in
    let plan = c.args.plan.now in
    let one = c.in_ok-put_ports.ensures.grows in
    let two = Extends-then _ _ _ one c.in_ok-put_ports-2.ensures.grows in
    let three = Extends-then _ _ _ two c.in_ok-clock.ensures.grows in
    let last = c.in_ok-bits.ensures.grows in
    let qs = c.word_bits.new.self.places in
    let none = subst (λ ports. ArePorts c.args.self.now.places ports []) (sym c.new-ports.ensures.items) (ArePorts-none c.args.self.now.places) in
    let cells = c.in_ok-put_ports.ensures.value p path [] none in
    let all = c.in_ok-put_ports-2.ensures.value p (one.paths _ _ path) _ cells in
    let control = c.in_ok-clock.ensures.value p (two.paths _ _ path) in
    let point = IsPoint-kept _ qs last.places _ _ control.point in
    let bits = c.in_ok-bits.ensures.value p (three.paths _ _ path) in
    let lines = subst (λ ws. ArePorts c.put_ports-2.new.self.places c.put_ports-2.new.ports.items (map (port_in p wires) ws ++ map (port_in p wires) c.args.lines.now)) c.as_slice.ensures.value all in
    let ports = ArePorts-kept _ qs (Extends-then _ _ _ c.in_ok-clock.ensures.grows last).places _ _ lines in
    let whole = subst (ArePorts qs c.put_ports-2.new.ports.items) (sym (map-append (port_in p wires) plan.writes c.args.lines.now)) ports in
    let boxed = subst (λ ws. ArePorts qs ws (map (port_in p wires) (plan.writes ++ c.args.lines.now))) (sym c.from_vec.ensures.value) whole in
    let begins = subst (AreBegins qs c.in_ok-bits.bits) (λ i. words_begins p (c.as_slice-name.ensures.value i) (c.first_address-first.ensures.value i) (c.as_slice-2.ensures.value i)) bits in
    remembered_is qs p wires _ _ _ _ point.is point.within control.level boxed begins
