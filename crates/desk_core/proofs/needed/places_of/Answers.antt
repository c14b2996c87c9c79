use Rattle.std.proofs.Common.{◌∙◌, ap, arith, length, map, slice_get, sym}
use Rattle.script_core.specs.Keys.{key_text}
use Rattle.desk_core.proofs.Placing.{named_few, places_more}
use Rattle.desk_core.proofs.needed.places_of.Goals as goal

pub loop-key-preserved : goal.loop-key-preserved
loop-key-preserved c =
    let before = c.loop-key.invariant in
    let placed = c.in_ok-place.ensures in
    let keys = c.loop-key.ages.keys in
    let text = c.in_ok-text.text in
    record {
      beside = placed.beside;
      kept = placed.kept ∙ before.kept;
      young = λ h. placed.young (before.young h);
      few = omega (arith, ap length placed.keys, named_few keys text, before.few);
      places =
          ap (map (slice_get c.place.new.self.keys)) c.in_ok-push.ensures.items
          ∙ places_more key_text c.args.all.now keys c.place.new.self.keys c.loop-key.key-index c.in_ok-place.field-0 c.key-item.result text c.loop-key.places.items before.places c.loop-key-test.true (sym c.key-item.is) c.in_ok-text.ensures.exact placed.keys placed.place;
    }
