use Rattle.std.proofs.Common.{◌≡◌, ◌<◌, ◌∙◌, ap, length, map, subst, sym}
use Rattle.std.specs.List.{All}
use Rattle.script_core.specs.Keys.{key_text}
use Rattle.desk_core.specs.Needed.{marks_of, new_places, places_marked, too_old}
use Rattle.desk_core.proofs.Aging.{places_count}
use Rattle.desk_core.proofs.Placing.{marked_many, marks_are, there_are, within_are}
use Rattle.desk_core.proofs.needed.needed_by.Goals as goal

pub marks_of-requires : goal.marks_of-requires
marks_of-requires c =
    let texts = map key_text c.args.all.now in
    let places = c.in_ok-places.places.items in
    record {
      within =
          subst (All (λ place. place < c.count.result)) (sym c.as_slice.ensures.value)
          (subst (λ n. All (λ place. place < n) places) (sym c.count.ensures.value) (within_are c.places_of.new.ages.keys places texts c.in_ok-places.ensures.places));
    }

pub too_old-requires-clause-marks : goal.too_old-requires-clause-marks
too_old-requires-clause-marks c =
    ap length (c.as_slice-4.ensures.value ∙ c.in_ok-marks.ensures.value) ∙ marked_many c.as_slice.result.now c.count.result ∙ c.count.ensures.value

pub returns-clause-needed : goal.returns-clause-needed
returns-clause-needed c =
    let texts = map key_text c.args.all.now in
    let keys = c.places_of.new.ages.keys in
    let ages = c.places_of.new.ages.ages.items in
    let places = c.in_ok-places.places.items in
    let standing = c.in_ok-places.ensures.places in
    let distinct = c.count.ensures.distinct in
    let there = there_are keys places texts standing in
    let marks : c.in_ok-marks.marks.items ≡ marks_of texts keys =
    c.in_ok-marks.ensures.value ∙ ap (λ ps. places_marked ps c.count.result) c.as_slice.ensures.value ∙ ap (places_marked places) c.count.ensures.value ∙ marks_are keys places texts distinct standing in
    record {
      there = there;
      distinct = distinct;
      marks = marks;
      built =
          c.count_new-built.ensures.value ∙ ap (λ ms. new_places ms c.as_slice-3.result.now) (c.as_slice-2.ensures.value ∙ marks)
          ∙ ap (new_places (marks_of texts keys)) c.as_slice-3.ensures.value
          ∙ places_count texts keys ages distinct c.in_ok-places.ensures.beside there;
      gone = c.in_ok-too_old.ensures.value ∙ ap (λ ms. too_old ms keys ages) c.as_slice-4.ensures.value;
    }
