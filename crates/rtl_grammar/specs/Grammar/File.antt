-- Files: an optional `autoidx`, then modules.
use Rattle.std.specs.Prelude.{List, [], ◌∷◌, Option, Some, None}
use Rattle.rtl_lex.specs.declared.sort.Sort.{Sort}
use Rattle.rtl_lex.specs.declared.sort.Sort.TheVariants as sorts
use Rattle.rtl_grammar.specs.declared.expect.Expect.{Expect}
use Rattle.rtl_grammar.specs.declared.expect.Expect.TheVariants.{FileHead, AutoidxNumber, EndOfLine, Modules, AttributeName, NextModule, ModuleName}

-- where the first statement of a file stands: `autoidx`, or a module, or the end
abbrev pub after_file_head : Sort → Option (List Expect)
after_file_head sorts.Autoidx = Some (AutoidxNumber ∷ EndOfLine ∷ Modules ∷ [])
after_file_head sorts.Attribute = Some (AttributeName ∷ NextModule ∷ [])
after_file_head sorts.Module = Some (ModuleName ∷ Modules ∷ [])
after_file_head sorts.Finish = Some []
after_file_head sort = None

-- where a text begins: an end of line there is skipped
abbrev pub after_start : Sort → Option (List Expect)
after_start sorts.Line = Some (FileHead ∷ [])
after_start sort = after_file_head sort

-- the number behind `autoidx`
abbrev pub after_autoidx_number : Sort → Option (List Expect)
after_autoidx_number sorts.Int = Some []
after_autoidx_number sort = None

-- the modules of a file, up to its end
abbrev pub after_modules : Sort → Option (List Expect)
after_modules sorts.Attribute = Some (AttributeName ∷ NextModule ∷ [])
after_modules sorts.Module = Some (ModuleName ∷ Modules ∷ [])
after_modules sorts.Finish = Some []
after_modules sort = None

-- the module behind its attributes, and the modules behind it
abbrev pub after_next_module : Sort → Option (List Expect)
after_next_module sorts.Attribute = Some (AttributeName ∷ NextModule ∷ [])
after_next_module sorts.Module = Some (ModuleName ∷ Modules ∷ [])
after_next_module sort = None

-- the end of a statement
abbrev pub after_end_of_line : Sort → Option (List Expect)
after_end_of_line sorts.Line = Some []
after_end_of_line sort = None
