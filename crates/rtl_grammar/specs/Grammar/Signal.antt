-- Signals: constants, wires, braces round signals, and slices.
use Rattle.std.specs.Prelude.{List, [], ◌∷◌, Option, Some, None}
use Rattle.rtl_lex.specs.declared.sort.Sort.{Sort}
use Rattle.rtl_lex.specs.declared.sort.Sort.TheVariants as sorts
use Rattle.rtl_grammar.specs.declared.expect.Expect.{Expect}
use Rattle.rtl_grammar.specs.declared.expect.Expect.TheVariants.{Inside, BehindInside, Index, BehindIndex, LowIndex, IndexEnd}

-- a signal without its slices
abbrev pub after_signal : Sort → Option (List Expect)
after_signal sorts.Id = Some []
after_signal sorts.Value = Some []
after_signal sorts.Int = Some []
after_signal sorts.Chars = Some []
after_signal sorts.OpenBrace = Some (Inside ∷ [])
after_signal sort = None

-- what stands behind an opening brace: the first signal, or the closing brace
abbrev pub after_inside : Sort → Option (List Expect)
after_inside sorts.Id = Some (BehindInside ∷ [])
after_inside sorts.Value = Some (BehindInside ∷ [])
after_inside sorts.Int = Some (BehindInside ∷ [])
after_inside sorts.Chars = Some (BehindInside ∷ [])
after_inside sorts.OpenBrace = Some (Inside ∷ BehindInside ∷ [])
after_inside sorts.CloseBrace = Some []
after_inside sort = None

-- what stands behind a signal in braces: a slice of it, the next signal, or the closing brace
abbrev pub after_behind_inside : Sort → Option (List Expect)
after_behind_inside sorts.OpenIndex = Some (Index ∷ BehindInside ∷ [])
after_behind_inside sorts.Id = Some (BehindInside ∷ [])
after_behind_inside sorts.Value = Some (BehindInside ∷ [])
after_behind_inside sorts.Int = Some (BehindInside ∷ [])
after_behind_inside sorts.Chars = Some (BehindInside ∷ [])
after_behind_inside sorts.OpenBrace = Some (Inside ∷ BehindInside ∷ [])
after_behind_inside sorts.CloseBrace = Some []
after_behind_inside sort = None

-- the first number in brackets
abbrev pub after_index : Sort → Option (List Expect)
after_index sorts.Int = Some (BehindIndex ∷ [])
after_index sort = None

-- what stands behind it: the closing bracket, or a colon and the second number
abbrev pub after_behind_index : Sort → Option (List Expect)
after_behind_index sorts.CloseIndex = Some []
after_behind_index sorts.Colon = Some (LowIndex ∷ [])
after_behind_index sort = None

-- the second number in brackets
abbrev pub after_low_index : Sort → Option (List Expect)
after_low_index sorts.Int = Some (IndexEnd ∷ [])
after_low_index sort = None

-- the closing bracket behind the second number
abbrev pub after_index_end : Sort → Option (List Expect)
after_index_end sorts.CloseIndex = Some []
after_index_end sort = None
