use Rattle.std.proofs.Common.{◌∙◌, ap, sym}
use Rattle.rtl_sig.specs.declared.sig.SigBit.TheVariants as sig
use Rattle.rtl_ir.specs.Follow.{all_joins, follow}
use Rattle.net_index.proofs.IndexEnds.{end_follows, fixed_follows}
use Rattle.net_index.proofs.drivers.Drivers.follow.Goals as goal

pub returns-in-Fixed : goal.returns-in-Fixed
returns-in-Fixed c = record {
  value = λ ports m is. c.in-Fixed.is ∙ fixed_follows (all_joins m.links) c.in-Fixed.field-0 ∙ ap (follow m.links) (sym c.in-Fixed.is);
}

pub returns-in-Wire : goal.returns-in-Wire
returns-in-Wire c = record {
  value = λ ports m is.
      let e = end_follows (all_joins m.links) (sig.Wire c.in-Wire.start) c.end_of.result (c.end_of.ensures.value (all_joins m.links) is.ways) in
      c.unwrap_or.ensures ∙ e ∙ ap (follow m.links) (sym c.in-Wire.is);
}
