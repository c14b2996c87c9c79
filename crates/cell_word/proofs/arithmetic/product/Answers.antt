use Rattle.std.proofs.Common.{refl, ◌*◌}
use Rattle.cell_word.proofs.Signs.{product_of}
use Rattle.cell_word.proofs.arithmetic.product.Goals as goal

pub returns : goal.returns
returns c = record {
  value = record {
    size = c.args.a.size * c.args.b.size;
    residue = refl;
    value = product_of c.args.a.negative c.args.b.negative c.args.a.size c.args.b.size;
  };
}
