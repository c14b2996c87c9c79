-- A write port of a line fits its kind.
use Rattle.std.proofs.Common.{◌≡◌, ◌<◌, ◌≤◌, ℕ, true, false, List, [], ◌∷◌, None, refl, arith}
use Rattle.std.specs.Prelude.{◌==◌, nat_lt}
use Rattle.std.proofs.lemmas.Bool.{eq-eqb, lt-ltb}
use Rattle.cell_types.specs.declared.kind.CellKind.TheVariants.{Memory}
use Rattle.cell_types.specs.declared.memory.MemoryKind.TheVariants.{MemwrV2}
use Rattle.cell_types.specs.declared.param_name.ParamName.TheVariants.{Memid, Abits, Width, ClkEnable, ClkPolarity, Portid, PriorityMask}
use Rattle.cell_types.specs.declared.pin_name.PinName.TheVariants.{Clk, En, Addr, Data}
use Rattle.cell_types.specs.Fault.{fault_of}
use Rattle.cell_types.specs.ParamName.{param_text}
use Rattle.cell_types.specs.PinName.{pin_text}
use Rattle.rtl_bits.specs.Knowledge.{all_known}
use Rattle.rtl_bits.specs.Numbers.{number_of}
use Rattle.rtl_bits.specs.declared.bit.Bit.{Bit}

module _ (v : List Bit) (n : ℕ) (kv : all_known v ≡ true) (nv : number_of v ≡ n) (some : 0 < n) (few : n ≤ 4096) where
  positive : nat_lt 0 n ≡ true
  positive = lt-ltb 0 n some

  narrow : nat_lt 4096 n ≡ false
  narrow = grind (arith, few)

  same : (n == n) ≡ true
  same = eq-eqb n n refl

  pub memwr_fits : (id a e p i mask : List Bit) (k lc le la ld : ℕ) → all_known a ≡ true → all_known e ≡ true → all_known p ≡ true → all_known i ≡ true → number_of a ≡ k → (k == k) ≡ true → lc ≡ 1 → le ≡ n → la ≡ k → ld ≡ n
      → fault_of (Memory MemwrV2)
      (record { name = param_text Memid; value = id } ∷ record { name = param_text Abits; value = a } ∷ record { name = param_text Width; value = v } ∷ record { name = param_text ClkEnable; value = e } ∷ record { name = param_text ClkPolarity; value = p } ∷ record { name = param_text Portid; value = i } ∷ record { name = param_text PriorityMask; value = mask } ∷ [])
      (record { name = pin_text Clk; width = lc } ∷ record { name = pin_text En; width = le } ∷ record { name = pin_text Addr; width = la } ∷ record { name = pin_text Data; width = ld } ∷ []) ≡ None
  memwr_fits id a e p i mask k lc le la ld ka ke kp ki na own ec ee ea ed =
      rw (kv, ka, ke, kp, ki, nv, na, ec, ee, ea, ed, positive, narrow, same, own) refl
