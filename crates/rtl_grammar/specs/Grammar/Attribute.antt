-- Attributes, each of which stands before the item that it speaks of.
use Rattle.std.specs.Prelude.{List, [], ◌∷◌, Option, Some, None}
use Rattle.rtl_lex.specs.declared.sort.Sort.{Sort}
use Rattle.rtl_lex.specs.declared.sort.Sort.TheVariants as sorts
use Rattle.rtl_grammar.specs.declared.expect.Expect.{Expect}
use Rattle.rtl_grammar.specs.declared.expect.Expect.TheVariants.{AttributeValue, EndOfLine}

-- the name of an attribute
abbrev pub after_attribute_name : Sort → Option (List Expect)
after_attribute_name sorts.Id = Some (AttributeValue ∷ [])
after_attribute_name sort = None

-- the value of an attribute, and the end of its line
abbrev pub after_attribute_value : Sort → Option (List Expect)
after_attribute_value sorts.Value = Some (EndOfLine ∷ [])
after_attribute_value sorts.Int = Some (EndOfLine ∷ [])
after_attribute_value sorts.Chars = Some (EndOfLine ∷ [])
after_attribute_value sort = None
