-- The bits so far were given their values.
use Rattle.std.proofs.Common.{List, ◌<◌, length, map, take}
use Rattle.std.specs.List.{AllByRecursion}
use Rattle.rtl_ir.specs.Flat.Place.{Place}
use Rattle.flat_net.specs.declared.memory.WordBit.{WordBit}
use Rattle.flat_net.specs.Within.{IsRememberedWithin}
use Rattle.flat_net.specs.Words.{word_row}
use Rattle.sim_eval.specs.Advance.{Advances, AreFewer}
use Rattle.sim_eval.specs.Moment.{IsBoard, time_of}
use Rattle.sim_eval.proofs.remembered.update_words.Given as goal

abbrev pub invariant-loop-bit : goal.invariant-loop-bit
invariant-loop-bit l = record {
  fewer : AreFewer l.fn.now l.now l.changed;
  advances : (ps : List Place) → IsBoard ps l.moment l.fn.now → IsRememberedWithin (length ps) l.words → AllByRecursion (λ (b : WordBit). b.number < length ps) l.bits → Advances ps (time_of ps l.moment) (map (word_row ps l.words) (take l.bit-index l.bits)) l.fn.now l.now l.changed;
}
