use Rattle.std.proofs.Common.{◌∙◌, ap, unwrap_or}
use Rattle.rtl_ir.specs.Drivers.{driver_in, drives_of}
use Rattle.net_index.specs.declared.driver.Driver.TheVariants.{Nothing}
use Rattle.net_index.proofs.Indexing.{answer_is}
use Rattle.net_index.proofs.drivers.Drivers.driver.Goals as goal

pub returns : goal.returns
returns c = record {
  value = λ ports m is.
      c.unwrap_or.ensures ∙ ap (λ o. unwrap_or o Nothing) (c.get.ensures.value ∙ is.table c.args.bit) ∙ answer_is (driver_in (drives_of ports m) c.args.bit);
}
