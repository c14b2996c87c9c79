-- Parts of signals, and signals that are put together.
use Rattle.std.proofs.Common.{ℕ, zero, suc, ◌+◌, ◌≤◌, List, [], ◌∷◌, ◌++◌, length, arith, length-append, length-drop}
use Rattle.std.specs.Prelude.{drop, map, replicate, take}
use Rattle.std.specs.List.{All}
use Rattle.std.proofs.lemmas.List.{length-map, length-replicate}
use Rattle.std.proofs.lemmas.List.Elements.{All-append, All-cons, All-drop, All-nil, All-replicate, All-take}
use Rattle.rtl_bits.specs.declared.bit.Bit.{Bit}
use Rattle.rtl_sig.specs.declared.sig.SigBit.{SigBit}
use Rattle.rtl_sig.specs.declared.sig.SigBit.TheVariants.{Fixed}
use Rattle.rtl_ir.specs.declared.wire.Wire.{Wire}
use Rattle.rtl_readable.specs.Readable.{IsBitOf, IsSignal}

take_short : {A : Type 0} (n : ℕ) (xs : List A) → length (take n xs) ≤ length xs
take_short zero xs = omega arith
take_short (suc n) [] = omega arith
take_short (suc n) (x ∷ xs) = omega (arith, take_short n xs)

module _ (wires : List Wire) where
  pub take_signal : (n : ℕ) (signal : List SigBit) → IsSignal wires signal → IsSignal wires (take n signal)
  take_signal n signal is = record { bits = All-take (IsBitOf wires) n signal is.bits; width = omega (arith, is.width, take_short n signal) }

  pub drop_signal : (n : ℕ) (signal : List SigBit) → IsSignal wires signal → IsSignal wires (drop n signal)
  drop_signal n signal is = record { bits = All-drop (IsBitOf wires) n signal is.bits; width = omega (arith, is.width, length-drop n signal) }

  pub append_signal : (xs ys : List SigBit) → IsSignal wires xs → IsSignal wires ys → length xs + length ys ≤ 4194304 → IsSignal wires (xs ++ ys)
  append_signal xs ys is are few = record { bits = All-append (IsBitOf wires) xs ys is.bits are.bits; width = omega (arith, few, length-append xs ys) }

  pub one_signal : (s : SigBit) → IsBitOf wires s → IsSignal wires (s ∷ [])
  one_signal s is = record { bits = All-cons (IsBitOf wires) s [] is (All-nil (IsBitOf wires)); width = omega arith }

  fixed_bits : (bits : List Bit) → All (IsBitOf wires) (map Fixed bits)
  fixed_bits [] = All-nil (IsBitOf wires)
  fixed_bits (b ∷ bits) = All-cons (IsBitOf wires) (Fixed b) (map Fixed bits) tt (fixed_bits bits)

  pub fixed_signal : (bits : List Bit) → length bits ≤ 4194304 → IsSignal wires (map Fixed bits)
  fixed_signal bits few = record { bits = fixed_bits bits; width = omega (arith, few, length-map bits Fixed) }

  pub filled_signal : (n : ℕ) (b : Bit) → n ≤ 4194304 → IsSignal wires (replicate n (Fixed b))
  filled_signal n b few = record { bits = All-replicate (IsBitOf wires) n (Fixed b) tt; width = omega (arith, few, length-replicate n (Fixed b)) }
