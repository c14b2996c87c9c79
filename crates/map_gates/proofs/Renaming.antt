-- The gates do not go by the name of the module.
use Rattle.std.proofs.Common.{◌≡◌, ℕ, zero, suc, ◌+◌, true, List, [], ◌∷◌, drop, length, take, refl, ◌∙◌, ap}
use Rattle.cell_types.specs.declared.kind.CellKind.{CellKind}
use Rattle.cell_types.specs.declared.kind.CellKind.TheVariants.{Word}
use Rattle.cell_types.specs.declared.pin_name.PinName.TheVariants.{A, S, Y}
use Rattle.cell_types.specs.declared.shape.Shape.{Shape}
use Rattle.cell_types.specs.declared.word.UnaryKind.TheVariants.{Not, Pos}
use Rattle.cell_types.specs.declared.word.WordKind.{WordKind}
use Rattle.cell_types.specs.declared.word.WordKind.TheVariants.{Unary, Fold, Bitwise, Logic, Equal, Mux, Pmux, Slice, Concat, Buf, Bwmux, Bmux, Demux}
use Rattle.rtl_bits.specs.declared.bit.Bit.TheVariants.{X}
use Rattle.rtl_ir.specs.Build.{Building}
use Rattle.rtl_ir.specs.declared.cell.Cell.{Cell}
use Rattle.rtl_sig.specs.declared.sig.SigBit.{SigBit}
use Rattle.map_laws.proofs.Renaming.{renamed}
use Rattle.map_laws.specs.Operand.{pin_signal}
use Rattle.gate_nets.specs.Give.{given}
use Rattle.gate_nets.proofs.Expanding.{given_renamed}
use Rattle.cell_types.specs.declared.gate.GateKind.TheVariants as GateOf
use Rattle.cell_types.specs.declared.word.BitwiseKind.TheVariants.{And}
use Rattle.gate_nets.proofs.Nets.{Goods, net_fold, net_inverse, nothing}
use Rattle.gate_nets.specs.Words.{fold_of, inverse_of}
use Rattle.map_gates.specs.Bitwise.{binary_gates}
use Rattle.map_gates.specs.Parts.{demux_gates, hits_for, part_gates, parts_from}
use Rattle.map_gates.specs.Expand.{gates_of, map_of, value_of}
use Rattle.map_gates.specs.Gates.{each_bit}
use Rattle.map_gates.proofs.Valued.{net_value}

-- nothing is said of bits
none_said : (bits : List SigBit) → Goods nothing (λ at. X) bits
none_said [] = tt
none_said (b ∷ bits) = (tt, none_said bits)

module _ (id : List ℕ) where
  each_renamed : (put : ℕ → SigBit → Building → Building) → ((at : ℕ) (y : SigBit) (b : Building) → put at y (renamed id b) ≡ renamed id (put at y b)) → (at : ℕ) (ys : List SigBit) (b : Building) → each_bit put at ys (renamed id b) ≡ renamed id (each_bit put at ys b)
  each_renamed put same at [] b = refl
  each_renamed put same at (y ∷ ys) b = ap (each_bit put (suc at) ys) (same at y b) ∙ each_renamed put same (suc at) ys (put at y b)

  part_renamed : (a s inverses : List SigBit) (part : ℕ) (ys : List SigBit) (b : Building) → part_gates a s inverses part ys (renamed id b) ≡ renamed id (part_gates a s inverses part ys b)
  part_renamed a s inverses part ys b =
      let net = net_fold nothing And (λ at. X) (hits_for s inverses part) {R = Unit {0}} (λ r. none_said (hits_for s inverses part)) in
      let m = fold_of And (hits_for s inverses part) b in
      ap (λ z. binary_gates GateOf.And true (z.0 ∷ []) a ys z.1) (net.unnamed id b) ∙ each_renamed _ (λ at y b. refl) 0 ys m.1

  parts_renamed : (a s inverses : List SigBit) (part most : ℕ) (ys : List SigBit) (b : Building) → parts_from a s inverses part most ys (renamed id b) ≡ renamed id (parts_from a s inverses part most ys b)
  parts_renamed a s inverses part zero ys b = refl
  parts_renamed a s inverses part (suc most) [] b = refl
  parts_renamed a s inverses part (suc most) (y ∷ ys) b =
      ap (parts_from a s inverses (part + 1) most (drop (length a) (y ∷ ys))) (part_renamed a s inverses part (take (length a) (y ∷ ys)) b)
      ∙ parts_renamed a s inverses (part + 1) most (drop (length a) (y ∷ ys)) (part_gates a s inverses part (take (length a) (y ∷ ys)) b)

  demux_renamed : (a s ys : List SigBit) (b : Building) → demux_gates a s ys (renamed id b) ≡ renamed id (demux_gates a s ys b)
  demux_renamed a s ys b =
      let net = net_inverse nothing (λ at. X) s {R = Unit {0}} (λ r. none_said s) in
      ap (λ z. parts_from a s z.0 0 (length ys) ys z.1) (net.unnamed id b) ∙ parts_renamed a s (inverse_of s b).0 0 (length ys) ys (inverse_of s b).1

  value_renamed : (kind : WordKind) (shape : Shape) (c : Cell) (b : Building) → given (pin_signal c Y) (value_of kind shape c) (renamed id b) ≡ renamed id (given (pin_signal c Y) (value_of kind shape c) b)
  value_renamed kind shape c b =
      given_renamed id (pin_signal c Y) (value_of kind shape c) b (net_value nothing (λ s. X) shape c kind (λ s i. tt) (λ s i. tt) (λ s i. tt))

  kind_renamed : (kind : CellKind) (shape : Shape) (c : Cell) (b : Building) → gates_of kind shape c (renamed id b) ≡ renamed id (gates_of kind shape c b)
  kind_renamed (Word (Unary Not)) shape c b = each_renamed _ (λ at y b. refl) 0 (pin_signal c Y) b
  kind_renamed (Word (Bitwise kind)) shape c b = each_renamed _ (λ at y b. refl) 0 (pin_signal c Y) b
  kind_renamed (Word Mux) shape c b = each_renamed _ (λ at y b. refl) 0 (pin_signal c Y) b
  kind_renamed (Word Demux) shape c b = demux_renamed (pin_signal c A) (pin_signal c S) (pin_signal c Y) b
  kind_renamed (Word Bwmux) shape c b = each_renamed _ (λ at y b. refl) 0 (pin_signal c Y) b
  kind_renamed (Word (Unary Pos)) shape c b = value_renamed (Unary Pos) shape c b
  kind_renamed (Word (Fold kind)) shape c b = value_renamed (Fold kind) shape c b
  kind_renamed (Word (Logic kind)) shape c b = value_renamed (Logic kind) shape c b
  kind_renamed (Word (Equal kind)) shape c b = value_renamed (Equal kind) shape c b
  kind_renamed (Word Pmux) shape c b = value_renamed Pmux shape c b
  kind_renamed (Word Slice) shape c b = value_renamed Slice shape c b
  kind_renamed (Word Concat) shape c b = value_renamed Concat shape c b
  kind_renamed (Word Buf) shape c b = value_renamed Buf shape c b
  kind_renamed (Word Bmux) shape c b = value_renamed Bmux shape c b
  kind_renamed kind shape c b = refl

  pub map_renamed : (shape : Shape) (c : Cell) (b : Building) → map_of shape c (renamed id b) ≡ renamed id (map_of shape c b)
  map_renamed shape c b = kind_renamed shape.kind shape c b
