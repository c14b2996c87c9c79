use Rattle.follow_laws.proofs.Following.{follow_read}
use Rattle.follow_laws.proofs.laws.followed_bits_are_alike.Goals as goal

pub returns : goal.returns
returns c = record { alike = follow_read }
