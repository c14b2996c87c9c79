use Rattle.std.proofs.Common.{◌∙◌, ap}
use Rattle.cell_word.specs.Values.{word_value_of}
use Rattle.rtl_ir.specs.EventTests.{bit_in}
use Rattle.rtl_ir.specs.Flat.Cell.{cell_shape}
use Rattle.process_trees.proofs.Fits.{inputs_there}
use Rattle.process_trees.proofs.values.word_bit.Goals as goal

pub word_value-requires : goal.word_value-requires
word_value-requires c = record { inputs = inputs_there c.args.kind c.args.cell.now c.in-Ok.shape c.args.words.now c.in-Ok.ensures.shape.0 c.in-Ok.ensures.shape.1 c.requires.widths }

pub returns-in_ok-value-in-Ok : goal.returns-in_ok-value-in-Ok
unfolding cell_shape
returns-in_ok-value-in-Ok c = record {
  value = λ e.
      c.first_bit.ensures.value
      ∙ ap (λ v. bit_in v 0) (c.as_slice.ensures.value ∙ c.in_ok-value-in-Ok.ensures.value ∙ ap (λ s. word_value_of s c.args.words.now) c.in-Ok.ensures.shape.1);
}
