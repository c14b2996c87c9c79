-- The faults of memories.
use Rattle.std.specs.Prelude.{ℕ, ◌*◌, pos, nat_abs, nat_lt, int_lt, Bool, not, ◌||◌, List, ◌++◌}
use Rattle.rtl_ir.specs.declared.store.Store.{Store}
use Rattle.rtl_ir.specs.Fault.{Fault, UnsupportedCell, BadMemory, spot, fault_if}
use Rattle.rtl_ir.specs.Scope.{Scope}

-- a memory has no word, an address below 0, or more than 65,536 bits
abbrev pub is_bad_store : Store → Bool
is_bad_store s = int_lt s.size (pos 1) || int_lt s.offset (pos 0) || nat_lt 65536 (s.width * nat_abs s.size)

-- the faults of a memory
abbrev pub store_faults : Scope → List ℕ → Store → List Fault
store_faults scope id s =
    fault_if (not scope.memories) (UnsupportedCell (spot id s.name)) ++ fault_if (is_bad_store s) (BadMemory (spot id s.name))
