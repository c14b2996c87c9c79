use Rattle.std.proofs.Common.{◌+◌, drop, subst, sym}
use Rattle.std.specs.Global.{Vec}
use Rattle.net_index.specs.declared.reader.Reader.TheVariants as reader
use Rattle.net_index.specs.declared.reader_fill.BitReader.{BitReader}
use Rattle.net_index.specs.ReaderFill.{Adds, reader_of}
use Rattle.net_index.specs.Readers.{cell_readers, places_read}
use Rattle.net_index.proofs.ReaderAdds.{IsLeft, bit_next, fixed_next}
use Rattle.net_index.proofs.reader_fill.add_places.Goals as goal
use Rattle.net_index.proofs.reader_fill.add_places.Goals.{in-Wire+in_ok-at+in_ok-add_reader, in_default}

pub loop-place-preserved : goal.loop-place-preserved
loop-place-preserved c =
    let w = c.args.numbering.now in
    let old = c.args.list.now.items in
    let now = c.loop-place.list.items in
    let bits = c.args.bits.now in
    let i = c.loop-place.place in
    let all = cell_readers (places_read c.args.cell c.args.pin 0 bits) in
    let rest = cell_readers (places_read c.args.cell c.args.pin (i + 1) (drop (i + 1) bits)) in
    elim c.match-bits-place.branch [
      | in-Wire+in_ok-at+in_ok-add_reader b ↦
          let new = b.add_reader.new.list.items in
          let added : Adds w now (reader_of b.in-Wire.bit (reader.Cell (record { cell = c.args.cell; pin = c.args.pin; at = i }))) new =
          subst (λ n. Adds w now (reader_of b.in-Wire.bit (reader.Cell (record { cell = c.args.cell; pin = c.args.pin; at = n }))) new) b.in_ok-at.ensures.value b.in_ok-add_reader.ensures.ok in
          subst (λ (v : Vec BitReader). IsLeft w old all v.items rest) (sym b.list-is) (bit_next w old now new all c.args.cell c.args.pin bits i b.in-Wire.bit _ c.loop-place-test.true b.in-Wire.is added c.loop-place.invariant)
      | in_default b ↦
          subst (λ (v : Vec BitReader). IsLeft w old all v.items rest) (sym b.list-is) (fixed_next w old now all c.args.cell c.args.pin bits i _ _ c.loop-place-test.true b.in_default.is c.loop-place.invariant)
    ]
