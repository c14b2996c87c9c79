-- Memories: options, and then a name.
use Rattle.std.specs.Prelude.{List, [], ◌∷◌, Option, Some, None}
use Rattle.rtl_lex.specs.declared.sort.Sort.{Sort}
use Rattle.rtl_lex.specs.declared.sort.Sort.TheVariants as sorts
use Rattle.rtl_grammar.specs.declared.expect.Expect.{Expect}
use Rattle.rtl_grammar.specs.declared.expect.Expect.TheVariants.{MemoryWidth, MemoryOption, MemorySize, MemoryOffset, EndOfLine}

-- the options of a memory, up to its name
abbrev pub after_memory_option : Sort → Option (List Expect)
after_memory_option sorts.Width = Some (MemoryWidth ∷ MemoryOption ∷ [])
after_memory_option sorts.Size = Some (MemorySize ∷ MemoryOption ∷ [])
after_memory_option sorts.Offset = Some (MemoryOffset ∷ MemoryOption ∷ [])
after_memory_option sorts.Id = Some (EndOfLine ∷ [])
after_memory_option sort = None

-- the number behind `width`
abbrev pub after_memory_width : Sort → Option (List Expect)
after_memory_width sorts.Int = Some []
after_memory_width sort = None

-- the number behind `size`
abbrev pub after_memory_size : Sort → Option (List Expect)
after_memory_size sorts.Int = Some []
after_memory_size sort = None

-- the number behind `offset`
abbrev pub after_memory_offset : Sort → Option (List Expect)
after_memory_offset sorts.Int = Some []
after_memory_offset sort = None
