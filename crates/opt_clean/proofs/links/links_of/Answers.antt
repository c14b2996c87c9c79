use Rattle.std.proofs.Common.{ap, ◌++◌, false, get_or}
use Rattle.rtl_ir.specs.declared.wire.Wire.{Wire}
use Rattle.opt_clean.specs.Linked.{is_linked}
use Rattle.opt_clean.specs.Runs.{shown_links, source_of}
use Rattle.opt_clean.proofs.Running.{shown_at, wire_next, wires_end}
use Rattle.opt_clean.proofs.links.links_of.Goals as goal

pub loop-place-init : goal.loop-place-init
loop-place-init c = λ ports m is.
    ap (λ links. links ++ shown_links (is_linked ports m) (source_of m.links) 0 c.args.wires.now) c.new-links.ensures.items

pub loop-place-preserved : goal.loop-place-preserved
loop-place-preserved c = λ ports m is.
    let w : Wire = c.index-wires-place.result in
    wire_next (is_linked ports m) (source_of m.links) c.args.wires.now c.loop-place.place w (get_or c.args.shown.now c.loop-place.place false) c.in_ok-narrowed.field-0 c.loop-place.links.items c.add_if_shown.new.links.items
    (shown_links (is_linked ports m) (source_of m.links) 0 c.args.wires.now) c.loop-place-test.true c.index-wires-place.is
    (shown_at c.args.wires.now c.args.shown.now c.loop-place.place w c.loop-place-test.true c.requires.shown c.index-wires-place.is)
    c.in_ok-narrowed.ensures.value (c.in_ok-add_if_shown.ensures.value ports m is) (c.loop-place.invariant ports m is)

pub returns : goal.returns
returns c = record {
  value = λ ports m is.
      wires_end (is_linked ports m) (source_of m.links) c.args.wires.now c.loop-place.place c.loop-place.links.items (shown_links (is_linked ports m) (source_of m.links) 0 c.args.wires.now) c.loop-place-test.false (c.loop-place.invariant ports m is);
}
