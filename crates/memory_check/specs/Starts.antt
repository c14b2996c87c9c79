-- The addresses of start words.
use Rattle.std.specs.Prelude.{◌≡◌, ◌^◌, ◌+◌, ◌&&◌, ℕ, Bool, true, false, List, Option, Some, None, map, min}
use Rattle.std.specs.List.{list_all, range_with_len}
use Rattle.rtl_bits.specs.Knowledge.{all_known}
use Rattle.rtl_bits.specs.Numbers.{number_of}
use Rattle.rtl_sig.specs.declared.sig.SigBit.{SigBit}
use Rattle.rtl_ir.specs.declared.store.Store.{Store}
use Rattle.rtl_ir.specs.Faults.MemoryCells.{is_address}
use Rattle.rtl_ir.specs.Signals.{constant_of}

-- the number that a signal of constants stands for
abbrev pub constant_number : List SigBit → ℕ
constant_number signal = number_of (map constant_of signal)

-- the signal is known constants
abbrev pub are_constants : List SigBit → Bool
are_constants signal = all_known (map constant_of signal)

-- so many words from this address on stand in the memory; of no words nothing is asked
abbrev pub are_inside : Store → List SigBit → ℕ → Bool
are_inside s address count =
    list_all (λ k. are_constants address && is_address s (constant_number address + k)) (range_with_len 0 count)

-- this is the number of the signal, cut off at 2^33, or the signal has none
abbrev pub IsNumber : List SigBit → Option ℕ → Type 0
IsNumber signal None = are_constants signal ≡ false
IsNumber signal (Some n) = (are_constants signal ≡ true) × (n ≡ min (2 ^ 33) (constant_number signal))
