-- Flip-flops and latches of runs fit their kinds.
use Rattle.std.proofs.Common.{◌≡◌, ℕ, ◌<◌, ◌≤◌, true, false, List, [], ◌∷◌, length, None, refl, arith}
use Rattle.std.specs.Prelude.{◌==◌, nat_lt}
use Rattle.std.proofs.lemmas.Bool.{eq-eqb, lt-ltb}
use Rattle.cell_types.specs.declared.kind.CellKind.TheVariants.{Storage}
use Rattle.cell_types.specs.declared.param_name.ParamName.TheVariants.{Width, ClkPolarity, EnPolarity, ArstPolarity, ArstValue, AloadPolarity}
use Rattle.cell_types.specs.declared.pin_name.PinName.TheVariants.{Clk, En, Arst, Aload, Ad, D, Q}
use Rattle.cell_types.specs.declared.storage.StorageKind.TheVariants.{Ff, Dff, Adff, Aldff, Dlatch}
use Rattle.cell_types.specs.Fault.{fault_of}
use Rattle.cell_types.specs.ParamName.{param_text}
use Rattle.cell_types.specs.PinName.{pin_text}
use Rattle.rtl_bits.specs.Knowledge.{all_known}
use Rattle.rtl_bits.specs.Numbers.{number_of}
use Rattle.rtl_bits.specs.declared.bit.Bit.{Bit}

-- a number as a parameter, of a width that a cell may have
module _ (v : List Bit) (n : ℕ) (kv : all_known v ≡ true) (nv : number_of v ≡ n) (some : 0 < n) (few : n ≤ 4096) where
  positive : nat_lt 0 n ≡ true
  positive = lt-ltb 0 n some

  narrow : nat_lt 4096 n ≡ false
  narrow = grind (arith, few)

  same : (n == n) ≡ true
  same = eq-eqb n n refl

  pub ff_fits : (ld lq : ℕ) → ld ≡ n → lq ≡ n
      → fault_of (Storage Ff) (record { name = param_text Width; value = v } ∷ [])
      (record { name = pin_text D; width = ld } ∷ record { name = pin_text Q; width = lq } ∷ []) ≡ None
  ff_fits ld lq ed eq = rw (kv, nv, ed, eq, positive, narrow, same) refl

  pub dlatch_fits : (p : List Bit) (le ld lq : ℕ) → all_known p ≡ true → le ≡ 1 → ld ≡ n → lq ≡ n
      → fault_of (Storage Dlatch) (record { name = param_text Width; value = v } ∷ record { name = param_text EnPolarity; value = p } ∷ [])
      (record { name = pin_text En; width = le } ∷ record { name = pin_text D; width = ld } ∷ record { name = pin_text Q; width = lq } ∷ []) ≡ None
  dlatch_fits p le ld lq kp ee ed eq = rw (kv, kp, nv, ee, ed, eq, positive, narrow, same) refl

  pub dff_fits : (p : List Bit) (lc ld lq : ℕ) → all_known p ≡ true → lc ≡ 1 → ld ≡ n → lq ≡ n
      → fault_of (Storage Dff) (record { name = param_text Width; value = v } ∷ record { name = param_text ClkPolarity; value = p } ∷ [])
      (record { name = pin_text Clk; width = lc } ∷ record { name = pin_text D; width = ld } ∷ record { name = pin_text Q; width = lq } ∷ []) ≡ None
  dff_fits p lc ld lq kp ec ed eq = rw (kv, kp, nv, ec, ed, eq, positive, narrow, same) refl

  pub adff_fits : (p r z : List Bit) (lc lr ld lq : ℕ) → all_known p ≡ true → all_known r ≡ true → length z ≡ n → lc ≡ 1 → lr ≡ 1 → ld ≡ n → lq ≡ n
      → fault_of (Storage Adff)
      (record { name = param_text Width; value = v } ∷ record { name = param_text ClkPolarity; value = p } ∷ record { name = param_text ArstPolarity; value = r } ∷ record { name = param_text ArstValue; value = z } ∷ [])
      (record { name = pin_text Clk; width = lc } ∷ record { name = pin_text Arst; width = lr } ∷ record { name = pin_text D; width = ld } ∷ record { name = pin_text Q; width = lq } ∷ []) ≡ None
  adff_fits p r z lc lr ld lq kp kr ez ec er ed eq = rw (kv, kp, kr, nv, ez, ec, er, ed, eq, positive, narrow, same) refl

  pub aldff_fits : (p r : List Bit) (lc ll la ld lq : ℕ) → all_known p ≡ true → all_known r ≡ true → lc ≡ 1 → ll ≡ 1 → la ≡ n → ld ≡ n → lq ≡ n
      → fault_of (Storage Aldff)
      (record { name = param_text Width; value = v } ∷ record { name = param_text ClkPolarity; value = p } ∷ record { name = param_text AloadPolarity; value = r } ∷ [])
      (record { name = pin_text Clk; width = lc } ∷ record { name = pin_text Aload; width = ll } ∷ record { name = pin_text Ad; width = la } ∷ record { name = pin_text D; width = ld } ∷ record { name = pin_text Q; width = lq } ∷ []) ≡ None
  aldff_fits p r lc ll la ld lq kp kr ec el ea ed eq = rw (kv, kp, kr, nv, ec, el, ea, ed, eq, positive, narrow, same) refl
