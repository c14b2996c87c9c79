use Rattle.rtl_check.specs.Tallies.{bits_of_link}
use Rattle.rtl_check.proofs.Tallying.{counted_next}
use Rattle.rtl_check.proofs.bits.count_links.Goals as goal

pub loop-link-preserved : goal.loop-link-preserved
loop-link-preserved c =
    counted_next bits_of_link c.args.links.now c.loop-link.link-index c.link-item.result c.loop-link-test.true c.link-item.is c.loop-link.tally c.count_link.new.tally _ c.count_link.ensures.value c.loop-link.invariant
