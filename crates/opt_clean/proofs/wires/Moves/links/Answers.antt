use Rattle.std.proofs.Common.{◌≡◌, ◌∙◌, ap, map}
use Rattle.rtl_ir.specs.declared.module.Link.{Link}
use Rattle.opt_clean.specs.Wires.{moved_bit, moved_link}
use Rattle.opt_clean.proofs.Steps.{map_done, map_next}
use Rattle.opt_clean.proofs.wires.Moves.links.Goals as goal

pub loop-link-preserved : goal.loop-link-preserved
loop-link-preserved c = λ marks are.
    let left = c.in_ok-signal.ensures.value marks are ∙ ap (map (moved_bit marks)) c.as_slice.ensures.value in
    let right = c.in_ok-signal-2.ensures.value marks are ∙ ap (map (moved_bit marks)) c.as_slice-in-loop-link.ensures.value in
    let link : Link = record { left = c.in_ok-signal.field-0; right = c.in_ok-signal-2.field-0 } in
    let is : link ≡ moved_link marks c.link-item.result = λ i. record { left = left i; right = right i } in
    map_next (moved_link marks) c.args.links.now c.loop-link.link-index c.link-item.result link c.loop-link.moved.items c.push-in-loop-link.new.self.items c.loop-link-test.true c.link-item.is is c.in_ok-push.ensures.items (c.loop-link.invariant marks are)

pub returns : goal.returns
returns c = record {
  value = λ marks are. map_done (moved_link marks) c.args.links.now c.loop-link.link-index c.loop-link.moved.items c.loop-link-test.false (c.loop-link.invariant marks are);
}
