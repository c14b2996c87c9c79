use Rattle.std.proofs.Common.{List}
use Rattle.std.specs.Prelude.{IfSome}
use Rattle.rtl_lex.specs.Place.{IsPlaceIn}
use Rattle.rtl_lex.specs.Items.{Seen}
use Rattle.rtl_read.specs.Reads.{AreItemsOf}
use Rattle.rtl_read.specs.Taking.{reading}
use Rattle.rtl_read.proofs.Taking.{OnFrom, to_read}
use Rattle.rtl_read.proofs.reader.Reader.take_all.Given as goal

abbrev pub invariant-loop-at : goal.invariant-loop-at
invariant-loop-at l = record {
  place : IfSome l.at (λ at. IsPlaceIn l.text at.0);
  goes_on : (items : List Seen) → AreItemsOf l.text items → OnFrom l.text l.at l.self.expected l.self.draft (reading items l.initial.self.expected l.initial.self.draft);
}

abbrev pub decreases-loop-at : goal.decreases-loop-at
decreases-loop-at l = to_read l.text l.at
