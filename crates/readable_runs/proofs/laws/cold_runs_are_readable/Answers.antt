use Rattle.rtl_read.proofs.Unique.{one_design}
use Rattle.rtl_write.specs.Text.{text_of}
use Rattle.rtl_write.proofs.Trip.{reads_design}
use Rattle.readable_runs.proofs.Cold.{cold_reads}
use Rattle.readable_runs.proofs.laws.cold_runs_are_readable.Goals as goal

pub returns : goal.returns
returns c = record {
  readable = λ d netlist script readable short none stage run. cold_reads d readable short none script stage netlist run;
  round_trip = λ d netlist script readable short none stage run. reads_design netlist (cold_reads d readable short none script stage netlist run);
  only = λ d netlist other script readable short none stage run read.
      one_design (text_of netlist) other netlist read (reads_design netlist (cold_reads d readable short none script stage netlist run));
}
