-- What the shape of a cell of a memory says.
use Rattle.std.proofs.Common.{◌≡◌, ℕ, ◌≤◌, ◌<◌, Bool, true, false, not, ◌||◌, cond, refl, sym, ◌∙◌, ap, subst, arith}
use Rattle.std.specs.Prelude.{nat_lt, ◌==◌}
use Rattle.std.proofs.lemmas.Bool.{eq-eqb, ne_eqb}
use Rattle.std.proofs.lemmas.Bool.Decides.{nat_tests}
use Rattle.cell_types.specs.declared.kind.CellKind.TheVariants as Cells
use Rattle.cell_types.specs.declared.level.Level.TheVariants.{Low, High}
use Rattle.cell_types.specs.declared.memory.MemoryKind.{MemoryKind}
use Rattle.cell_types.specs.declared.memory.MemoryKind.TheVariants.{MemwrV2}
use Rattle.cell_types.specs.declared.param_name.ParamName.TheVariants as Param
use Rattle.cell_types.specs.declared.shape.Shape.{Shape}
use Rattle.cell_types.specs.Bounds.{KindKeeps}
use Rattle.cell_types.specs.Shape.{is_set, small}
use Rattle.rtl_ir.specs.declared.cell.Cell.{Cell}
use Rattle.rtl_ir.specs.declared.store.Store.{Store}
use Rattle.rtl_ir.specs.Faults.MemoryCells.{is_clocked, is_unlike, number_at}
use Rattle.rtl_ir.specs.Flat.Cell.{cell_shape}
use Rattle.rtl_ir.specs.Parameters.{given_params}
use Rattle.memory_check.specs.Clocks.{is_high}
use Rattle.memory_check.specs.Shapes.{HasShape}

-- the numbers of a shape are those of the cell's parameters, as far as it matters
pub record Says (shape : Shape) (c : Cell) : Type 0 where
  pub width : shape.width ≡ number_at c Param.Width
  pub address : shape.port.address ≡ small (number_at c Param.Abits)
  pub clocked : shape.port.clocked ≡ is_clocked c
  pub number : shape.port.number ≡ small (number_at c Param.Portid)
  pub words : shape.port.words ≡ small (number_at c Param.Words)

uncut : (n width : ℕ) → width ≡ small n → width ≤ 4096 → width ≡ n
uncut n width e h = grind (arith)

pub says : (shape : Shape) (kind : MemoryKind) (c : Cell) → HasShape shape kind c → Says shape c
unfolding cell_shape
says shape kind c has =
    let bounds : KindKeeps (Cells.Memory kind) shape = subst (λ k. KindKeeps k shape) (ap (λ (s : Shape). s.kind) has.is) has.bounds in
    record {
      width = uncut (number_at c Param.Width) shape.width (ap (λ (s : Shape). s.width) has.is) bounds.1;
      address = ap (λ (s : Shape). s.port.address) has.is;
      clocked = ap (λ (s : Shape). s.port.clocked) has.is;
      number = ap (λ (s : Shape). s.port.number) has.is;
      words = ap (λ (s : Shape). s.port.words) has.is;
    }

none_cut : (n : ℕ) → (small n == 0) ≡ (n == 0)
none_cut n = grind (arith, nat_tests)

above_cut : (n : ℕ) → nat_lt 32 (small n) ≡ nat_lt 32 n
above_cut n = grind (arith, nat_tests)

module _ (shape : Shape) (kind : MemoryKind) (s : Store) (c : Cell) (has : HasShape shape kind c) where
  unlike_is : (not (shape.width == s.width) || (shape.port.address == 0) || nat_lt 32 shape.port.address) ≡ is_unlike s c
  unlike_is =
      let is = says shape kind c has in
      (λ i. not (is.width i == s.width) || (is.address i == 0) || nat_lt 32 (is.address i))
      ∙ (λ i. not (number_at c Param.Width == s.width) || none_cut (number_at c Param.Abits) i || above_cut (number_at c Param.Abits) i)

  -- words of another width
  pub unlike_width : (shape.width ≡ s.width → ⊥) → true ≡ is_unlike s c
  unlike_width n = (λ i. not (sym (ne_eqb shape.width s.width n) i) || (shape.port.address == 0) || nat_lt 32 shape.port.address) ∙ unlike_is

  -- words of the same width
  pub unlike_address : (b : Bool) → shape.width ≡ s.width → b ≡ ((shape.port.address == 0) || nat_lt 32 shape.port.address) → b ≡ is_unlike s c
  unlike_address b e f = f ∙ (λ i. not (sym (eq-eqb shape.width s.width e) i) || (shape.port.address == 0) || nat_lt 32 shape.port.address) ∙ unlike_is

-- whether the cell has start words
pub no_words : (shape : Shape) (kind : MemoryKind) (c : Cell) → HasShape shape kind c → (shape.port.words == 0) ≡ (number_at c Param.Words == 0)
no_words shape kind c has = let is = says shape kind c has in ap (λ n. n == 0) is.words ∙ none_cut (number_at c Param.Words)

-- the edge of a write cell
pub rising_is : (shape : Shape) (c : Cell) → HasShape shape MemwrV2 c → is_high shape.levels.clk ≡ is_set (given_params c.params) Param.ClkPolarity
unfolding cell_shape
rising_is shape c has = ap (λ (s : Shape). is_high s.levels.clk) has.is ∙ by (number_at c Param.ClkPolarity)
  where
    chosen : (b : Bool) → is_high (cond b Low High) ≡ not b
    chosen true = refl
    chosen false = refl

    by : (n : ℕ) → is_high (cond (n == 0) Low High) ≡ nat_lt 0 n
    by n = chosen (n == 0) ∙ grind (arith, nat_tests)

-- a port's number, where it is not too great
pub number_is : (shape : Shape) (kind : MemoryKind) (c : Cell) → HasShape shape kind c → shape.port.number ≤ 65535 → shape.port.number ≡ number_at c Param.Portid
number_is shape kind c has low = let is = (says shape kind c has).number in by (number_at c Param.Portid) shape.port.number is low
  where
    by : (n number : ℕ) → number ≡ small n → number ≤ 65535 → number ≡ n
    by n number e h = grind arith

-- a number that is too great
pub number_great : (shape : Shape) (kind : MemoryKind) (c : Cell) → HasShape shape kind c → 65535 < shape.port.number → nat_lt 65535 (number_at c Param.Portid) ≡ true
number_great shape kind c has high = let is = (says shape kind c has).number in by (number_at c Param.Portid) shape.port.number is high
  where
    by : (n number : ℕ) → number ≡ small n → 65535 < number → nat_lt 65535 n ≡ true
    by n number e h = grind (arith, nat_tests)
