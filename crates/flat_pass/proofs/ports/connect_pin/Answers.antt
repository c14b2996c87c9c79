use Rattle.std.proofs.Common.{◌≡◌, ◌+◌, ◌++◌, ◌∙◌, OnOk, subst, sym}
use Rattle.rtl_ir.specs.Build.{whole}
use Rattle.flat_pass.proofs.Porting.{no_links, some_links}
use Rattle.flat_pass.proofs.ports.connect_pin.Goals as goal

pub returns-then-is_empty : goal.returns-then-is_empty
returns-then-is_empty c = record {
  ok = no_links c.args.port.now.wire.now.role c.args.pin.now (whole (c.args.first + c.args.port.now.place) c.args.port.now.wire.now.width) c.args.links.now (sym c.is_empty.ensures ∙ c.if-is_empty.true);
}

pub returns : goal.returns
returns c = record {
  ok = subst (λ z. OnOk c.connect_port.result (c.connect_port.new.links ≡ c.args.links.now ++ z)) (some_links c.args.port.now.wire.now.role c.args.pin.now (whole (c.args.first + c.args.port.now.place) c.args.port.now.wire.now.width) (sym c.is_empty.ensures ∙ c.if-is_empty.false)) c.connect_port.ensures.ok;
}
