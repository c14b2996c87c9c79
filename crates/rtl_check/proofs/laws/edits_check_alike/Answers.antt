use Rattle.rtl_check.proofs.Edited.{edited_faults, edits_edited, removal_edited}
use Rattle.rtl_check.proofs.laws.edits_check_alike.Goals as goal

pub returns : goal.returns
returns c = record { faults = edited_faults; edits = edits_edited; removal = removal_edited }
