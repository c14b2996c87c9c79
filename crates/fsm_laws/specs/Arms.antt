-- Signals that stand for others in the code.
use Rattle.std.specs.Prelude.{◌≡◌, ◌⊎◌, ◌<◌, ℕ, List, map, Some, length, slice_get, slice_index_or}
use Rattle.rtl_bits.specs.Knowledge.{AreKnown, IsKnown}
use Rattle.rtl_bits.specs.Numbers.{number_of}
use Rattle.rtl_bits.specs.declared.bit.Bit.{Bit}
use Rattle.rtl_bits.specs.declared.bit.Bit.TheVariants.{X}
use Rattle.rtl_sig.specs.declared.sig.SigBit.{SigBit}
use Rattle.rtl_sig.specs.declared.sig.SigBit.TheVariants.{Fixed}
use Rattle.rtl_ir.specs.declared.module.Link.{Link}
use Rattle.rtl_ir.specs.Follow.{follow}
use Rattle.net_model.specs.Fsm.Code.{Output, code_of}
use Rattle.fsm_laws.specs.Carried.{carrier_of}

-- the bit at a place carries that bit of the state in this code
abbrev pub IsCarried : List Link → List Output → SigBit → ℕ → List SigBit → Type 0
IsCarried links outputs s k new = carrier_of outputs (follow links s) ≡ Some (record { code = new; bit = k })

-- it leads to the bit of a constant of the state's width, whose code this is
pub record IsConstant (width : ℕ) (states : List (List Bit)) (links : List Link) (s : SigBit) (k : ℕ) (new : List SigBit) : Type 0 where
  pub constant : List Bit
  pub known : AreKnown constant
  pub wide : length constant ≡ width
  pub leads : follow links s ≡ Fixed (slice_index_or constant k X)
  pub code : new ≡ map Fixed (code_of states (number_of constant))

-- it leads to an unknown constant
pub record IsUnknown (links : List Link) (s : SigBit) : Type 0 where
  pub value : Bit
  pub unknown : IsKnown value → ⊥
  pub leads : follow links s ≡ Fixed value

-- a signal stands for another, bit by bit
abbrev pub StandsFor : ℕ → List (List Bit) → List Link → List Output → List SigBit → List SigBit → Type 0
StandsFor width states links outputs old new =
    (k : ℕ) (s : SigBit) → slice_get old k ≡ Some s → k < width →
    IsCarried links outputs s k new ⊎ (IsConstant width states links s k new ⊎ IsUnknown links s)
