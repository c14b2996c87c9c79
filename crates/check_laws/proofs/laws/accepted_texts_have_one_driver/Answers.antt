use Rattle.net_model.proofs.WellDriven.{one_driver}
use Rattle.rtl_write.proofs.Kept.{readable}
use Rattle.check_laws.proofs.Accepted.{accepted}
use Rattle.check_laws.proofs.Readable.{sound}
use Rattle.check_laws.proofs.laws.accepted_texts_have_one_driver.Goals as goal

pub returns : goal.returns
returns c = record { one_driver = λ text d scope reads e. one_driver d (accepted scope d (sound d (readable text d reads)) e) }
