use Rattle.std.proofs.Common.{◌≡◌, ◌+◌, ◌∙◌, ap, arith, length, true}
use Rattle.std.specs.Str.{bytes_eq}
use Rattle.rtl_ir.specs.Flat.Access.{line_access}
use Rattle.net_model.specs.Mem.Gather.{write_port}
use Rattle.flat_net.proofs.Lining.{line_written}
use Rattle.flat_net.proofs.line_ports.put_line.Goals as goal

pub returns-then-eq : goal.returns-then-eq
returns-then-eq c =
    let e : bytes_eq c.args.name.now c.args.line.now.memory ≡ true = cc in
    let at : c.in_ok-at.at ≡ c.args.number + length c.args.ports.now.items = omega (arith, c.in_ok-at.ensures.value, c.len.ensures, c.args.ports.now.ok) in
    record {
      ok = λ event rest.
          line_written c.args.name.now event c.args.number c.in_ok-at.at c.args.before.now.items _ c.args.line.now rest c.args.ports.now.items _ c.in_ok-port.port e
          at
          (c.in_ok-port.ensures.value event ∙ ap (λ bs. write_port (line_access event c.in_ok-at.at bs c.args.line.now)) c.as_slice-then-eq.ensures.value)
          c.in_ok-push.ensures.items c.in_ok-push-2.ensures.items;
    }
