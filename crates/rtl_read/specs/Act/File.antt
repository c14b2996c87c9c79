-- Files: an optional `autoidx`, whose number is dropped, then modules.
use Rattle.std.specs.Prelude.{length, nat_le, if◌then◌else◌, Result, Ok, Err}
use Rattle.rtl_lex.specs.declared.sort.Sort.{Sort}
use Rattle.rtl_lex.specs.declared.sort.Sort.TheVariants as sorts
use Rattle.rtl_lex.specs.Items.{Seen}
use Rattle.rtl_read.specs.declared.draft.Draft.{Draft}
use Rattle.rtl_ir.specs.declared.limits.TheConstants.{MAX_MODULES}
use Rattle.rtl_read.specs.declared.read_fault.ReadFault.{ReadFault}
use Rattle.rtl_read.specs.declared.read_fault.ReadFault.TheVariants as faults
use Rattle.rtl_grammar.specs.Uses.{◌>>=◌}
use Rattle.rtl_read.specs.Constant.{integer}

-- the number behind `autoidx` is an integer
abbrev pub act_autoidx_number : Seen → Draft → Result Draft ReadFault
act_autoidx_number i d = integer i.number i >>= λ n. Ok d

-- the word `module`: there is room for one more
abbrev pub act_modules : Sort → Seen → Draft → Result Draft ReadFault
act_modules sorts.Module i d = if nat_le MAX_MODULES (length d.modules) then Err (faults.Limit i.place) else Ok d
act_modules sort i d = Ok d
