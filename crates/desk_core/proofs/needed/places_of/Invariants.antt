use Rattle.std.proofs.Common.{◌≡◌, ◌+◌, ◌≤◌, Some, length, map, slice_get, take}
use Rattle.script_core.specs.Keys.{key_text}
use Rattle.desk_core.specs.Ages.{AreYoung, kept_in}
use Rattle.desk_core.proofs.needed.places_of.Given as goal

-- the keys so far have their places, and what was kept is kept
abbrev pub invariant-loop-key : goal.invariant-loop-key
invariant-loop-key l = record {
  beside : length l.ages.ages.items ≡ length l.ages.keys;
  kept : kept_in l.ages.keys l.ages.ages.items ≡ kept_in l.initial.ages.keys l.initial.ages.ages.items;
  young : AreYoung l.initial.ages.ages.items → AreYoung l.ages.ages.items;
  few : length l.ages.keys ≤ length l.initial.ages.keys + l.key-index;
  places : map (slice_get l.ages.keys) l.places.items ≡ map Some (map key_text (take l.key-index l.all));
}
