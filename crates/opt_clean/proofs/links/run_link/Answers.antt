use Rattle.std.proofs.Common.{◌≡◌, ◌∙◌, ap, map}
use Rattle.rtl_sig.specs.declared.sig.SigBit.TheVariants.{Wire as OnWire}
use Rattle.rtl_ir.specs.Follow.{follow}
use Rattle.net_model.proofs.Members.{map-map}
use Rattle.opt_clean.proofs.links.run_link.Goals as goal

pub returns : goal.returns
returns c = record {
  value = λ ports m is.
      let left = c.in_ok-left.ensures.value in
      let signal : c.as_slice.result.now ≡ map OnWire c.args.run.now = c.as_slice.ensures.value ∙ left in
      let right = c.in_ok-right.ensures.value ports m is ∙ ap (map (follow m.links)) signal ∙ map-map OnWire (follow m.links) c.args.run.now in
      λ i. record { left = left i; right = right i };
}
