use Rattle.std.proofs.Common.{◌&&◌, ◌||◌, not, ◌∙◌, ap}
use Rattle.std.specs.List.{list_any}
use Rattle.proc_reset.specs.Reads.{is_among}
use Rattle.proc_reset.proofs.free.are_apart.Goals as goal

pub returns : goal.returns
returns c = record {
  value = λ bits are.
      let before = c.in_ok-before.ensures.value bits are in
      let after = c.in_ok-after.ensures.value bits are in
      let tested = c.meets-tested.ensures.value bits are ∙ ap (list_any (is_among bits)) (c.as_slice.ensures.value ∙ c.in_ok-control.ensures.value) in
      c.neither.ensures.value ∙ (λ i. not (before i || after i) && not (tested i));
}
