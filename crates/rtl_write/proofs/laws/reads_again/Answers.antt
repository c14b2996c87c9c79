use Rattle.rtl_read.proofs.Unique.{one_design}
use Rattle.rtl_write.specs.Text.{text_of}
use Rattle.rtl_write.proofs.Kept.{readable}
use Rattle.rtl_write.proofs.Trip.{reads_design}
use Rattle.rtl_write.proofs.laws.reads_again.Goals as goal

pub returns : goal.returns
returns c = record {
  round_trip = reads_design;
  only = λ design other is r. one_design (text_of design) other design r (reads_design design is);
  readable = readable;
  again = λ text design r. reads_design design (readable text design r);
}
