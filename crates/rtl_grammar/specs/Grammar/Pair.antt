-- Pairs of signals, up to the end of the line: those of `connect`, `assign` and `update`.
use Rattle.std.specs.Prelude.{List, [], ◌∷◌, Option, Some, None}
use Rattle.rtl_lex.specs.declared.sort.Sort.{Sort}
use Rattle.rtl_lex.specs.declared.sort.Sort.TheVariants as sorts
use Rattle.rtl_grammar.specs.declared.expect.Expect.{Expect}
use Rattle.rtl_grammar.specs.declared.expect.Expect.TheVariants.{Index, BehindLeft, BehindRight, Inside}

-- what stands behind the left signal: a slice of it, or the right signal
abbrev pub after_behind_left : Sort → Option (List Expect)
after_behind_left sorts.OpenIndex = Some (Index ∷ BehindLeft ∷ [])
after_behind_left sorts.Id = Some (BehindRight ∷ [])
after_behind_left sorts.Value = Some (BehindRight ∷ [])
after_behind_left sorts.Int = Some (BehindRight ∷ [])
after_behind_left sorts.Chars = Some (BehindRight ∷ [])
after_behind_left sorts.OpenBrace = Some (Inside ∷ BehindRight ∷ [])
after_behind_left sort = None

-- what stands behind the right signal: a slice of it, or the end of the line
abbrev pub after_behind_right : Sort → Option (List Expect)
after_behind_right sorts.OpenIndex = Some (Index ∷ BehindRight ∷ [])
after_behind_right sorts.Line = Some []
after_behind_right sort = None
