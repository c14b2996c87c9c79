-- The wire and the memory that are open: their options.
use Rattle.std.specs.Prelude.{ℕ, ◌==◌, ℤ, pos, negsuc, List, [], true, false, nat_lt, if◌then◌else◌, Option, Some, None, Result, Ok, Err}
use Rattle.rtl_lex.specs.declared.sort.Sort.{Sort}
use Rattle.rtl_lex.specs.declared.sort.Sort.TheVariants as sorts
use Rattle.rtl_lex.specs.Items.{Seen}
use Rattle.rtl_ir.specs.declared.value.Attribute.{Attribute}
use Rattle.rtl_ir.specs.declared.wire.Role.TheVariants as roles
use Rattle.rtl_ir.specs.declared.wire.Wire.{Wire}
use Rattle.rtl_ir.specs.declared.store.Store.{Store}
use Rattle.rtl_ir.specs.declared.limits.TheConstants.{MAX_WIDTH}
use Rattle.rtl_read.specs.declared.read_fault.ReadFault.{ReadFault}
use Rattle.rtl_read.specs.declared.read_fault.ReadFault.TheVariants as faults
use Rattle.rtl_grammar.specs.Uses.{◌>>=◌}
use Rattle.rtl_read.specs.Constant.{integer}

-- a width is at least 1
abbrev pub some_width : Option ℤ → Seen → Result ℕ ReadFault
some_width None i = Err (faults.Int i.place)
some_width (Some (negsuc n)) i = Err (faults.Int i.place)
some_width (Some (pos n)) i = if n == 0 then Err (faults.Int i.place) else Ok n

-- .. and that of a wire is within the limit
abbrev pub within_limit : Seen → ℕ → Result ℕ ReadFault
within_limit i n = if nat_lt MAX_WIDTH n then Err (faults.Limit i.place) else Ok n

-- a wire and a memory without options
abbrev pub plain_wire : List Attribute → Wire
plain_wire attributes = record {
  name = [];
  width = 1;
  offset = pos 0;
  upto = false;
  signed = false;
  role = roles.Inner;
  number = pos 0;
  attributes = attributes;
}

abbrev pub plain_store : List Attribute → Store
plain_store attributes = record { name = []; width = 1; size = pos 0; offset = pos 0; attributes = attributes }

-- the word of an option of a wire
abbrev pub with_option : Sort → Wire → Wire
with_option sorts.Input w = record w { role = roles.Input }
with_option sorts.Output w = record w { role = roles.Output }
with_option sorts.Inout w = record w { role = roles.Inout }
with_option sorts.Upto w = record w { upto = true }
with_option sorts.Signed w = record w { signed = true }
with_option sort w = w

-- the number of an option of a wire
abbrev pub with_width : Seen → Wire → Result Wire ReadFault
with_width i w = some_width i.number i >>= λ n. within_limit i n >>= λ m. Ok (record w { width = m })

abbrev pub with_offset : Seen → Wire → Result Wire ReadFault
with_offset i w = integer i.number i >>= λ n. Ok (record w { offset = n })

abbrev pub with_number : Seen → Wire → Result Wire ReadFault
with_number i w = integer i.number i >>= λ n. Ok (record w { number = n })

-- the number of an option of a memory
abbrev pub store_width : Seen → Store → Result Store ReadFault
store_width i s = some_width i.number i >>= λ n. Ok (record s { width = n })

abbrev pub store_size : Seen → Store → Result Store ReadFault
store_size i s = integer i.number i >>= λ n. Ok (record s { size = n })

abbrev pub store_offset : Seen → Store → Result Store ReadFault
store_offset i s = integer i.number i >>= λ n. Ok (record s { offset = n })
