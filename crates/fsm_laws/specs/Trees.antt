-- The tree in front of a flip-flop in the code.
use Rattle.std.specs.Prelude.{◌≡◌, ℕ, List, flat_map, length, map, replicate, Some, slice_get}
use Rattle.cell_types.specs.declared.kind.CellKind.TheVariants.{Word}
use Rattle.cell_types.specs.declared.word.WordKind.TheVariants.{Mux, Pmux}
use Rattle.rtl_bits.specs.Numbers.{number_of}
use Rattle.rtl_bits.specs.declared.bit.Bit.{Bit}
use Rattle.rtl_bits.specs.declared.bit.Bit.TheVariants.{X}
use Rattle.rtl_sig.specs.declared.sig.SigBit.{SigBit}
use Rattle.rtl_sig.specs.declared.sig.SigBit.TheVariants.{Fixed}
use Rattle.rtl_ir.specs.Build.{whole}
use Rattle.rtl_ir.specs.Flat.Cell.{cell_kind}
use Rattle.rtl_ir.specs.declared.cell.Cell.{Cell}
use Rattle.net_model.specs.Fsm.Code.{code_of}
use Rattle.net_model.specs.Lists.{In}
use Rattle.fsm_laws.specs.Forks.{mux_like, pmux_like}

-- a signal is the code of a state or the code wire, all unknown, or the output of a cell that chooses between such signals
pub data IsCodeTree (states : List (List Bit)) (code : List SigBit) (cells : List Cell) : List SigBit → Type 0 where
  Constant : (i : ℕ) (s : List Bit) → slice_get states i ≡ Some s → (n : ℕ) → number_of s ≡ n → IsCodeTree states code cells (map Fixed (code_of states n))
  Unknown : IsCodeTree states code cells (replicate (length states) (Fixed X))
  State : IsCodeTree states code cells code
  Chosen :
      (c : Cell) (a b s : List SigBit) (wire : ℕ) → cell_kind c ≡ Some (Word Mux) →
      In (mux_like c (length states) a b s (whole wire (length states))) cells →
      IsCodeTree states code cells a → IsCodeTree states code cells b → IsCodeTree states code cells (whole wire (length states))
  Picked :
      (c : Cell) (selects : ℕ) (a s : List SigBit) (parts : List (List SigBit)) (wire : ℕ) → cell_kind c ≡ Some (Word Pmux) →
      In (pmux_like c (length states) selects a (flat_map (λ (t : List SigBit). t) parts) s (whole wire (length states))) cells →
      IsCodeTree states code cells a →
      ((j : ℕ) (part : List SigBit) → slice_get parts j ≡ Some part → length part ≡ length states) →
      ((j : ℕ) (part : List SigBit) → slice_get parts j ≡ Some part → IsCodeTree states code cells part) →
      IsCodeTree states code cells (whole wire (length states))
