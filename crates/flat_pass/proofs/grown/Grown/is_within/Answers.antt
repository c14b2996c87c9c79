use Rattle.std.proofs.Common.{◌∙◌}
use Rattle.flat_pass.specs.Grown.{built}
use Rattle.flat_pass.proofs.Limits.{within_is}
use Rattle.flat_pass.proofs.grown.Grown.is_within.Goals as goal

pub returns : goal.returns
returns c = record {
  value = c.are_within.ensures.value ∙ within_is (built c.args.self.now) c.cell_count.result c.args.self.now.bits c.cell_count.ensures.value c.requires.sound.bits;
}
