use Rattle.std.proofs.Common.{drop, sym, ◌∙◌, ap}
use Rattle.std.proofs.lemmas.List.{drop-map, take_rest}
use Rattle.proc_sync.specs.Lines.{numbered_of, numbers_of}
use Rattle.proc_sync.proofs.writer.Writer.behind.Goals as goal

pub returns : goal.returns
returns c = record {
  value =
      ap numbers_of (take_rest c.as_slice.result.now c.args.count)
      ∙ sym (drop-map numbered_of c.args.count c.as_slice.result.now)
      ∙ ap (λ xs. drop c.args.count (numbers_of xs)) c.as_slice.ensures.value;
}
