use Rattle.result_cache.proofs.Sharing.{share_met, share_new}
use Rattle.result_cache.proofs.laws.seats_share.Goals as goal

pub returns : goal.returns
returns c = record { met = share_met; new = share_new }
