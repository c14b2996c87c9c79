use Rattle.std.proofs.Common.{ap}
use Rattle.std.proofs.lemmas.List.{drop_all}
use Rattle.net_index.specs.ReaderFill.{reads_of_pin}
use Rattle.net_index.specs.Readers.{cell_readers, pin_reads}
use Rattle.net_index.proofs.ReaderAdds.{left_end, left_next, left_start, next_pin}
use Rattle.net_index.proofs.reader_fill.add_pins.Goals as goal

pub loop-place-init : goal.loop-place-init
loop-place-init c = λ type is. left_start _ _ _

pub loop-place-preserved : goal.loop-place-preserved
loop-place-preserved c = λ type is.
    let p = c.index-pins-place.result in
    left_next c.args.numbering.now c.args.list.now.items c.loop-place.list.items c.add_pin.new.list.items _ _ (cell_readers (reads_of_pin type c.args.cell c.loop-place.place p)) _
    (next_pin type c.args.cell c.args.pins.now c.loop-place.place p c.loop-place-test.true c.index-pins-place.is) (c.in_ok-add_pin.ensures.ok type is) (c.loop-place.invariant type is)

pub returns : goal.returns
returns c = record {
  ok = λ type is.
      left_end c.args.numbering.now c.args.list.now.items c.loop-place.list.items _ _
      (λ b. ap (λ ps. cell_readers (pin_reads type c.args.cell c.loop-place.place ps) b) (drop_all c.loop-place.place c.args.pins.now c.loop-place-test.false)) (c.loop-place.invariant type is);
}
