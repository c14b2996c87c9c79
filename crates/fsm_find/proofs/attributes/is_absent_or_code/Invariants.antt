-- The attributes so far have other names.
use Rattle.std.proofs.Common.{◌≡◌, drop}
use Rattle.fsm_find.specs.Attributes.{is_absent_or_code}
use Rattle.fsm_find.proofs.attributes.is_absent_or_code.Given as goal

abbrev pub invariant-loop-attribute : goal.invariant-loop-attribute
invariant-loop-attribute l = is_absent_or_code l.attributes l.name ≡ is_absent_or_code (drop l.attribute-index l.attributes) l.name
