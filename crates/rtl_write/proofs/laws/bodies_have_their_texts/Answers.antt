use Rattle.rtl_write.proofs.BodyLaws.{place_for_name, body_kept, equal_texts}
use Rattle.rtl_write.proofs.laws.bodies_have_their_texts.Goals as goal

pub returns : goal.returns
returns c = record { place = place_for_name; name = body_kept; equal = equal_texts }
