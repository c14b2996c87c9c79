use Rattle.rtl_read.proofs.Unique.{what_reads, only_that, which_fault, refused_is}
use Rattle.rtl_read.proofs.reader.read.Goals as goal

pub returns-clause-reads : goal.returns-clause-reads
returns-clause-reads c = what_reads _ _ c.read_all.ensures

pub returns-clause-only : goal.returns-clause-only
returns-clause-only c = only_that _ _ c.read_all.ensures

pub returns-clause-first_fault : goal.returns-clause-first_fault
returns-clause-first_fault c = which_fault _ _ c.read_all.ensures

pub returns-clause-refused : goal.returns-clause-refused
returns-clause-refused c = refused_is _ _ c.read_all.ensures
