-- the shape of each kind of cell is within bounds
use Rattle.std.proofs.Common.{◌≡◌, ℕ, ◌+◌, ◌*◌, ◌^◌, ◌<◌, ◌≤◌, Bool, true, false, ltb, List, None, refl, sym, ◌∙◌, subst, arith}
use Rattle.std.proofs.lemmas.Bool.{ltb-false}
use Rattle.cell_types.specs.declared.given.Param.{Param}
use Rattle.cell_types.specs.declared.given.PinWidth.{PinWidth}
use Rattle.cell_types.specs.declared.kind.CellKind.{CellKind}
use Rattle.cell_types.specs.declared.kind.CellKind.TheVariants as Cell
use Rattle.cell_types.specs.declared.memory.MemoryKind.{MemoryKind}
use Rattle.cell_types.specs.declared.memory.MemoryKind.TheVariants as Memory
use Rattle.cell_types.specs.declared.param_name.ParamName.TheVariants.{AWidth, BWidth, YWidth, Width, SWidth, Offset, ArstValue, SrstValue}
use Rattle.cell_types.specs.declared.shape.Shape.{Shape}
use Rattle.cell_types.specs.declared.storage.StorageKind.{StorageKind}
use Rattle.cell_types.specs.declared.storage.StorageKind.TheVariants as Storage
use Rattle.cell_types.specs.declared.word.UnaryKind.TheVariants as UnaryOf
use Rattle.cell_types.specs.declared.storage_gate.StorageGate.{StorageGate}
use Rattle.cell_types.specs.declared.storage_gate.StorageGate.TheVariants as Gate
use Rattle.cell_types.specs.declared.word.WordKind.{WordKind}
use Rattle.cell_types.specs.declared.word.WordKind.TheVariants.{Unary, Fold, Bitwise, Logic, Equal, Order, Arith, Division, Shift, Mux, Pmux, Slice, Concat, Buf, Bwmux, Bmux, Demux}
use Rattle.cell_types.specs.Bounds.{AreWordWidths, IsWithin, KeepsBounds, KindKeeps, ResetsFit, OneOperand, TwoOperands}
use Rattle.cell_types.specs.Fault.{fault_of, has_no_meaning, is_bad, is_given, is_wide, is_wide_pin, limit_of}
use Rattle.cell_types.specs.Given.{number_in}
use Rattle.cell_types.specs.Params.{params_of}
use Rattle.cell_types.specs.Pins.{pins_of}
use Rattle.cell_types.specs.Shape.{made_shape, pin_widths, small}
use Rattle.cell_types.specs.StorageGate.{kind_of_gate}
use Rattle.cell_types.proofs.BoundLemmas.{EachIs, each_none, filling, not_bad, positive}
use Rattle.cell_types.proofs.NumberLemmas.{few_bits}

within : (limit n : ℕ) → 0 < n → ltb limit n ≡ false → IsWithin limit (small n)
within limit n some narrow =
    let low : n ≤ limit = ltb-false limit n narrow in
    (omega arith, omega arith)

small_is : (n : ℕ) → ltb 4096 n ≡ false → small n ≡ n
small_is n narrow =
    let low : n ≤ 4096 = ltb-false 4096 n narrow in
    omega arith

one : (kind : WordKind) (params : List Param) (limit : ℕ) → is_given (Cell.Word kind) params AWidth ≡ true → is_given (Cell.Word kind) params YWidth ≡ true → ltb limit (number_in params AWidth) ≡ false → ltb limit (number_in params YWidth) ≡ false → OneOperand limit (pin_widths (Cell.Word (Unary UnaryOf.Not)) params)
one kind params limit a y a_narrow y_narrow = (
  within limit _ (positive (Cell.Word kind) params AWidth refl a) a_narrow,
  within limit _ (positive (Cell.Word kind) params YWidth refl y) y_narrow,
)

two : (kind : WordKind) (params : List Param) (limit : ℕ) → is_given (Cell.Word kind) params AWidth ≡ true → is_given (Cell.Word kind) params BWidth ≡ true → is_given (Cell.Word kind) params YWidth ≡ true → ltb limit (number_in params AWidth) ≡ false → ltb limit (number_in params BWidth) ≡ false → ltb limit (number_in params YWidth) ≡ false → TwoOperands limit (pin_widths (Cell.Word (Unary UnaryOf.Not)) params)
two kind params limit a b y a_narrow b_narrow y_narrow = (
  within limit _ (positive (Cell.Word kind) params AWidth refl a) a_narrow,
  within limit _ (positive (Cell.Word kind) params BWidth refl b) b_narrow,
  within limit _ (positive (Cell.Word kind) params YWidth refl y) y_narrow,
)

pmux : (w s : ℕ) → 0 < w → 0 < s → ltb 4096 w ≡ false → ltb 4096 s ≡ false → ltb 4096 (w * s) ≡ false → IsWithin 4096 (small w) × (small (w * s) ≡ small w * small s) × IsWithin 4096 (small s) × (small w ≡ small w) × (small (w * s) ≤ 4096)
pmux w s w_some s_some w_narrow s_narrow narrow =
    let low : w * s ≤ 4096 = ltb-false 4096 (w * s) narrow in (
      within 4096 w w_some w_narrow,
      rw (small_is (w * s) narrow, small_is w w_narrow, small_is s s_narrow) refl,
      within 4096 s s_some s_narrow,
      refl,
      omega arith,
    )

slice : (o a y : ℕ) → ltb 4096 a ≡ false → ltb a (o + y) ≡ false → small o + small y ≤ small a
slice o a y narrow inside =
    let low : a ≤ 4096 = ltb-false 4096 a narrow in
    let in_a : o + y ≤ a = ltb-false a (o + y) inside in
    omega arith

concat : (a b : ℕ) → ltb 4096 (a + b) ≡ false → (small (a + b) ≡ small a + small b) × (small (a + b) ≤ 4096)
concat a b narrow =
    let low : a + b ≤ 4096 = ltb-false 4096 (a + b) narrow in
    (omega arith, omega arith)

-- of parts, as many as some bits have values
parts : (w s : ℕ) → 0 < w → 0 < s → ltb 4096 w ≡ false → ltb 4096 (w * 2 ^ s) ≡ false → IsWithin 4096 (small w) × IsWithin 12 (small s) × (small (w * 2 ^ s) ≡ small w * 2 ^ small s) × (small (w * 2 ^ s) ≤ 4096)
parts w s w_some s_some w_narrow narrow =
    let low : w * 2 ^ s ≤ 4096 = ltb-false 4096 (w * 2 ^ s) narrow in
    let few : s ≤ 12 = few_bits w s w_some low in
    let same : small s ≡ s = omega arith in (
      within 4096 w w_some w_narrow,
      (omega arith, omega arith),
      rw (small_is (w * 2 ^ s) narrow, small_is w w_narrow, same) refl,
      omega arith,
    )

-- of a combinational cell on words
pub word_bounds : (kind : WordKind) (params : List Param) → EachIs true (is_given (Cell.Word kind) params) (params_of (Cell.Word kind)) → EachIs false (is_wide_pin kind params) (pins_of (Cell.Word kind)) → has_no_meaning (Cell.Word kind) params ≡ false → AreWordWidths kind (pin_widths (Cell.Word kind) params) (small (number_in params Offset))
word_bounds (Unary kind) params g n m = one (Unary kind) params (limit_of (Unary kind)) g.1.0 g.1.1.0 n.0 n.1.0
word_bounds (Fold kind) params g n m = one (Fold kind) params 4096 g.1.0 g.1.1.0 n.0 n.1.0
word_bounds (Bitwise kind) params g n m =
    two (Bitwise kind) params 4096 g.1.0 g.1.1.1.0 g.1.1.1.1.0 n.0 n.1.0 n.1.1.0
word_bounds (Logic kind) params g n m =
    two (Logic kind) params 4096 g.1.0 g.1.1.1.0 g.1.1.1.1.0 n.0 n.1.0 n.1.1.0
word_bounds (Equal kind) params g n m =
    two (Equal kind) params 4096 g.1.0 g.1.1.1.0 g.1.1.1.1.0 n.0 n.1.0 n.1.1.0
word_bounds (Order kind) params g n m =
    two (Order kind) params 128 g.1.0 g.1.1.1.0 g.1.1.1.1.0 n.0 n.1.0 n.1.1.0
word_bounds (Arith kind) params g n m =
    two (Arith kind) params 128 g.1.0 g.1.1.1.0 g.1.1.1.1.0 n.0 n.1.0 n.1.1.0
word_bounds (Division kind) params g n m =
    two (Division kind) params 128 g.1.0 g.1.1.1.0 g.1.1.1.1.0 n.0 n.1.0 n.1.1.0
word_bounds (Shift kind) params g n m =
    two (Shift kind) params 4096 g.1.0 g.1.1.1.0 g.1.1.1.1.0 n.0 n.1.0 n.1.1.0
word_bounds Mux params g n m =
    (within 4096 _ (positive (Cell.Word Mux) params Width refl g.0) n.0, refl, refl, refl)
word_bounds Pmux params g n m =
    pmux _ _ (positive (Cell.Word Pmux) params Width refl g.0) (positive (Cell.Word Pmux) params SWidth refl g.1.0) n.0 n.1.1.0 n.1.0
word_bounds Slice params g n m = (
  one Slice params 4096 g.1.0 g.1.1.0 n.0 n.1.0,
  slice _ _ _ n.0 m,
)
word_bounds Concat params g n m =
    let sum = concat (number_in params AWidth) (number_in params BWidth) n.1.1.0 in (
      within 4096 _ (positive (Cell.Word Concat) params AWidth refl g.0) n.0,
      within 4096 _ (positive (Cell.Word Concat) params BWidth refl g.1.0) n.1.0,
      sum.0,
      sum.1,
    )
word_bounds Buf params g n m = (within 4096 _ (positive (Cell.Word Buf) params Width refl g.0) n.0, refl)
word_bounds Bwmux params g n m =
    (within 4096 _ (positive (Cell.Word Bwmux) params Width refl g.0) n.0, refl, refl, refl)
word_bounds Bmux params g n m =
    parts _ _ (positive (Cell.Word Bmux) params Width refl g.0) (positive (Cell.Word Bmux) params SWidth refl g.1.0) n.1.1.0 n.0
word_bounds Demux params g n m =
    parts _ _ (positive (Cell.Word Demux) params Width refl g.0) (positive (Cell.Word Demux) params SWidth refl g.1.0) n.0 n.1.1.0

-- the first parameter of each storage cell is its width
storage_bounds : (kind : StorageKind) (params : List Param) → EachIs true (is_given (Cell.Storage kind) params) (params_of (Cell.Storage kind)) → 0 < number_in params Width
storage_bounds Storage.Ff params g = positive (Cell.Storage Storage.Ff) params Width refl g.0
storage_bounds Storage.Dff params g = positive (Cell.Storage Storage.Dff) params Width refl g.0
storage_bounds Storage.Dffe params g = positive (Cell.Storage Storage.Dffe) params Width refl g.0
storage_bounds Storage.Sdff params g = positive (Cell.Storage Storage.Sdff) params Width refl g.0
storage_bounds Storage.Sdffe params g = positive (Cell.Storage Storage.Sdffe) params Width refl g.0
storage_bounds Storage.Sdffce params g = positive (Cell.Storage Storage.Sdffce) params Width refl g.0
storage_bounds Storage.Adff params g = positive (Cell.Storage Storage.Adff) params Width refl g.0
storage_bounds Storage.Adffe params g = positive (Cell.Storage Storage.Adffe) params Width refl g.0
storage_bounds Storage.Aldff params g = positive (Cell.Storage Storage.Aldff) params Width refl g.0
storage_bounds Storage.Aldffe params g = positive (Cell.Storage Storage.Aldffe) params Width refl g.0
storage_bounds Storage.Dffsr params g = positive (Cell.Storage Storage.Dffsr) params Width refl g.0
storage_bounds Storage.Dffsre params g = positive (Cell.Storage Storage.Dffsre) params Width refl g.0
storage_bounds Storage.Dlatch params g = positive (Cell.Storage Storage.Dlatch) params Width refl g.0
storage_bounds Storage.Adlatch params g = positive (Cell.Storage Storage.Adlatch) params Width refl g.0
storage_bounds Storage.Dlatchsr params g = positive (Cell.Storage Storage.Dlatchsr) params Width refl g.0
storage_bounds Storage.Sr params g = positive (Cell.Storage Storage.Sr) params Width refl g.0

-- the third parameter of each memory cell is its width
memory_bounds : (kind : MemoryKind) (params : List Param) → EachIs true (is_given (Cell.Memory kind) params) (params_of (Cell.Memory kind)) → 0 < number_in params Width
memory_bounds Memory.Memrd params g = positive (Cell.Memory Memory.Memrd) params Width refl g.1.1.0
memory_bounds Memory.MemrdV2 params g = positive (Cell.Memory Memory.MemrdV2) params Width refl g.1.1.0
memory_bounds Memory.MemwrV2 params g = positive (Cell.Memory Memory.MemwrV2) params Width refl g.1.1.0
memory_bounds Memory.Meminit params g = positive (Cell.Memory Memory.Meminit) params Width refl g.1.1.0
memory_bounds Memory.MeminitV2 params g = positive (Cell.Memory Memory.MeminitV2) params Width refl g.1.1.0

resets_fit : (kind : StorageKind) (params : List Param) → EachIs true (is_given (Cell.Storage kind) params) (params_of (Cell.Storage kind)) → small (number_in params Width) ≡ number_in params Width → ResetsFit kind (made_shape (Cell.Storage kind) params)
resets_fit Storage.Adff params g e = filling (Cell.Storage Storage.Adff) params ArstValue refl g.1.1.1.0 ∙ sym e
resets_fit Storage.Adffe params g e = filling (Cell.Storage Storage.Adffe) params ArstValue refl g.1.1.1.1.0 ∙ sym e
resets_fit Storage.Sdff params g e = filling (Cell.Storage Storage.Sdff) params SrstValue refl g.1.1.1.0 ∙ sym e
resets_fit Storage.Sdffe params g e = filling (Cell.Storage Storage.Sdffe) params SrstValue refl g.1.1.1.1.0 ∙ sym e
resets_fit Storage.Sdffce params g e = filling (Cell.Storage Storage.Sdffce) params SrstValue refl g.1.1.1.1.0 ∙ sym e
resets_fit Storage.Adlatch params g e = filling (Cell.Storage Storage.Adlatch) params ArstValue refl g.1.1.1.0 ∙ sym e
resets_fit _ params g e = tt

gate_resets_fit : (gate : StorageGate) (params : List Param) → ResetsFit (kind_of_gate gate) (made_shape (Cell.StorageGate gate) params)
gate_resets_fit Gate.Ff params = tt
gate_resets_fit (Gate.Dff a) params = tt
gate_resets_fit (Gate.Dffe a b) params = tt
gate_resets_fit (Gate.Adff a b c) params = refl
gate_resets_fit (Gate.Adffe a b c d) params = refl
gate_resets_fit (Gate.Sdff a b c) params = refl
gate_resets_fit (Gate.Sdffe a b c d) params = refl
gate_resets_fit (Gate.Sdffce a b c d) params = refl
gate_resets_fit (Gate.Dffsr a b c) params = tt
gate_resets_fit (Gate.Dffsre a b c d) params = tt
gate_resets_fit (Gate.Aldff a b) params = tt
gate_resets_fit (Gate.Aldffe a b c) params = tt
gate_resets_fit (Gate.Dlatch a) params = tt
gate_resets_fit (Gate.Adlatch a b c) params = refl
gate_resets_fit (Gate.Dlatchsr a b c) params = tt
gate_resets_fit (Gate.Sr a b) params = tt

-- of any cell that is not bad and not wide
kind_bounds : (kind : CellKind) (params : List Param) (pins : List PinWidth) → is_bad kind params pins ≡ false → is_wide kind params ≡ false → KindKeeps kind (made_shape kind params)
kind_bounds (Cell.Word kind) params pins bad wide =
    let good = not_bad (Cell.Word kind) params pins bad in
    word_bounds kind params good.0 (each_none (is_wide_pin kind params) (pins_of (Cell.Word kind)) wide) good.1
kind_bounds (Cell.Gate kind) params pins bad wide = refl
kind_bounds (Cell.Storage kind) params pins bad wide =
    let good = not_bad (Cell.Storage kind) params pins bad in (
      within 4096 _ (storage_bounds kind params good.0) wide,
      resets_fit kind params good.0 (small_is (number_in params Width) wide),
    )
kind_bounds (Cell.StorageGate gate) params pins bad wide = (refl, gate_resets_fit gate params)
kind_bounds (Cell.Memory kind) params pins bad wide =
    within 4096 _ (memory_bounds kind params (not_bad (Cell.Memory kind) params pins bad).0) wide

-- of any cell without faults
pub made_bounds : (kind : CellKind) (params : List Param) (pins : List PinWidth) → fault_of kind params pins ≡ None → KindKeeps kind (made_shape kind params)
made_bounds kind params pins e = by_cases (is_bad kind params pins) (is_wide kind params) refl refl
  where
    by_cases : (bad wide : Bool) → is_bad kind params pins ≡ bad → is_wide kind params ≡ wide → KindKeeps kind (made_shape kind params)
    by_cases true wide bad_is wide_is = absurd (let none : fault_of kind params pins ≡ None = e in cc)
    by_cases false true bad_is wide_is = absurd (cc)
    by_cases false false bad_is wide_is = kind_bounds kind params pins bad_is wide_is

-- of a shape that was made of a cell without faults
pub shape_bounds : (kind : CellKind) (params : List Param) (pins : List PinWidth) (shape : Shape) → fault_of kind params pins ≡ None → shape ≡ made_shape kind params → KeepsBounds shape
shape_bounds kind params pins shape faultless made =
    subst KeepsBounds (sym made) (made_bounds kind params pins faultless)
