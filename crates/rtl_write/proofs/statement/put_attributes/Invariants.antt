use Rattle.std.proofs.Common.{◌≡◌, ◌++◌, take}
use Rattle.std.specs.List.{flat_map}
use Rattle.rtl_write.specs.Text.{attribute_text}
use Rattle.rtl_write.proofs.statement.put_attributes.Given as goal

-- what was passed so far is written
abbrev pub invariant-loop-attribute : goal.invariant-loop-attribute
invariant-loop-attribute l = l.out ≡ l.initial.out ++ flat_map (attribute_text l.blanks) (take l.attribute-index l.attributes)
