-- The names of the kinds of cells, as new cells have them.
use Rattle.std.specs.Prelude.{ℕ, Bool, true, false, List, [], ◌∷◌, ◌++◌, codes}
use Rattle.std.specs.Str.{byte}
use Rattle.cell_types.specs.declared.gate.GateKind.{GateKind}
use Rattle.cell_types.specs.declared.gate.GateKind.TheVariants as Gate
use Rattle.cell_types.specs.declared.kind.CellKind.{CellKind}
use Rattle.cell_types.specs.declared.kind.CellKind.TheVariants as Cell
use Rattle.cell_types.specs.declared.level.Level.{Level}
use Rattle.cell_types.specs.declared.level.Level.TheVariants.{Low, High}
use Rattle.cell_types.specs.declared.memory.MemoryKind.{MemoryKind}
use Rattle.cell_types.specs.declared.memory.MemoryKind.TheVariants as Memory
use Rattle.cell_types.specs.declared.storage.StorageKind.{StorageKind}
use Rattle.cell_types.specs.declared.storage.StorageKind.TheVariants as Storage
use Rattle.cell_types.specs.declared.storage_gate.StorageGate.{StorageGate}
use Rattle.cell_types.specs.declared.storage_gate.StorageGate.TheVariants as Store
use Rattle.cell_types.specs.declared.word.WordKind.{WordKind}
use Rattle.cell_types.specs.declared.word.WordKind.TheVariants as Word
use Rattle.cell_types.specs.declared.word.UnaryKind.TheVariants as Unary
use Rattle.cell_types.specs.declared.word.FoldKind.TheVariants as Fold
use Rattle.cell_types.specs.declared.word.BitwiseKind.TheVariants as Bitwise
use Rattle.cell_types.specs.declared.word.LogicKind.TheVariants as Logic
use Rattle.cell_types.specs.declared.word.EqualKind.TheVariants as Equal
use Rattle.cell_types.specs.declared.word.OrderKind.TheVariants as Order
use Rattle.cell_types.specs.declared.word.ArithKind.TheVariants as Arith
use Rattle.cell_types.specs.declared.word.DivisionKind.TheVariants as Division
use Rattle.cell_types.specs.declared.word.ShiftKind.TheVariants as Shift

-- of a word cell
abbrev pub word_name : WordKind → List ℕ
word_name (Word.Unary Unary.Not) = codes "$not"
word_name (Word.Unary Unary.Pos) = codes "$pos"
word_name (Word.Unary Unary.Neg) = codes "$neg"
word_name (Word.Fold Fold.And) = codes "$reduce_and"
word_name (Word.Fold Fold.Or) = codes "$reduce_or"
word_name (Word.Fold Fold.Xor) = codes "$reduce_xor"
word_name (Word.Fold Fold.Xnor) = codes "$reduce_xnor"
word_name (Word.Fold Fold.Bool) = codes "$reduce_bool"
word_name (Word.Fold Fold.LogicNot) = codes "$logic_not"
word_name (Word.Bitwise Bitwise.And) = codes "$and"
word_name (Word.Bitwise Bitwise.Or) = codes "$or"
word_name (Word.Bitwise Bitwise.Xor) = codes "$xor"
word_name (Word.Bitwise Bitwise.Xnor) = codes "$xnor"
word_name (Word.Logic Logic.And) = codes "$logic_and"
word_name (Word.Logic Logic.Or) = codes "$logic_or"
word_name (Word.Equal Equal.Eq) = codes "$eq"
word_name (Word.Equal Equal.Ne) = codes "$ne"
word_name (Word.Order Order.Lt) = codes "$lt"
word_name (Word.Order Order.Le) = codes "$le"
word_name (Word.Order Order.Ge) = codes "$ge"
word_name (Word.Order Order.Gt) = codes "$gt"
word_name (Word.Arith Arith.Add) = codes "$add"
word_name (Word.Arith Arith.Sub) = codes "$sub"
word_name (Word.Arith Arith.Mul) = codes "$mul"
word_name (Word.Division Division.Div) = codes "$div"
word_name (Word.Division Division.Mod) = codes "$mod"
word_name (Word.Division Division.DivFloor) = codes "$divfloor"
word_name (Word.Division Division.ModFloor) = codes "$modfloor"
word_name (Word.Shift Shift.Shl) = codes "$shl"
word_name (Word.Shift Shift.Sshl) = codes "$sshl"
word_name (Word.Shift Shift.Shr) = codes "$shr"
word_name (Word.Shift Shift.Sshr) = codes "$sshr"
word_name (Word.Shift Shift.Shift) = codes "$shift"
word_name (Word.Shift Shift.Shiftx) = codes "$shiftx"
word_name Word.Mux = codes "$mux"
word_name Word.Pmux = codes "$pmux"
word_name Word.Slice = codes "$slice"
word_name Word.Concat = codes "$concat"
word_name Word.Buf = codes "$buf"
word_name Word.Bwmux = codes "$bwmux"
word_name Word.Bmux = codes "$bmux"
word_name Word.Demux = codes "$demux"

-- of a combinational gate
abbrev pub gate_name : GateKind → List ℕ
gate_name Gate.Buf = codes "$_BUF_"
gate_name Gate.Not = codes "$_NOT_"
gate_name Gate.And = codes "$_AND_"
gate_name Gate.Nand = codes "$_NAND_"
gate_name Gate.Or = codes "$_OR_"
gate_name Gate.Nor = codes "$_NOR_"
gate_name Gate.Xor = codes "$_XOR_"
gate_name Gate.Xnor = codes "$_XNOR_"
gate_name Gate.AndNot = codes "$_ANDNOT_"
gate_name Gate.OrNot = codes "$_ORNOT_"
gate_name Gate.Mux = codes "$_MUX_"
gate_name Gate.Nmux = codes "$_NMUX_"

-- of a storage cell on words
abbrev pub storage_name : StorageKind → List ℕ
storage_name Storage.Ff = codes "$ff"
storage_name Storage.Dff = codes "$dff"
storage_name Storage.Dffe = codes "$dffe"
storage_name Storage.Sdff = codes "$sdff"
storage_name Storage.Sdffe = codes "$sdffe"
storage_name Storage.Sdffce = codes "$sdffce"
storage_name Storage.Adff = codes "$adff"
storage_name Storage.Adffe = codes "$adffe"
storage_name Storage.Aldff = codes "$aldff"
storage_name Storage.Aldffe = codes "$aldffe"
storage_name Storage.Dffsr = codes "$dffsr"
storage_name Storage.Dffsre = codes "$dffsre"
storage_name Storage.Dlatch = codes "$dlatch"
storage_name Storage.Adlatch = codes "$adlatch"
storage_name Storage.Dlatchsr = codes "$dlatchsr"
storage_name Storage.Sr = codes "$sr"

-- the letter of a level
abbrev pub letter_of : Level → ℕ
letter_of Low = byte "N"
letter_of High = byte "P"

-- the digit of the value that a reset gives
abbrev pub digit_of : Bool → ℕ
digit_of false = byte "0"
digit_of true = byte "1"

-- of a storage gate, without its end
abbrev pub store_front : StorageGate → List ℕ
store_front Store.Ff = codes "$_FF"
store_front (Store.Dff clk) = codes "$_DFF_" ++ letter_of clk ∷ []
store_front (Store.Dffe clk en) = codes "$_DFFE_" ++ letter_of clk ∷ letter_of en ∷ []
store_front (Store.Adff clk arst value) = codes "$_DFF_" ++ letter_of clk ∷ letter_of arst ∷ digit_of value ∷ []
store_front (Store.Adffe clk arst value en) =
    codes "$_DFFE_" ++ letter_of clk ∷ letter_of arst ∷ digit_of value ∷ letter_of en ∷ []
store_front (Store.Sdff clk srst value) = codes "$_SDFF_" ++ letter_of clk ∷ letter_of srst ∷ digit_of value ∷ []
store_front (Store.Sdffe clk srst value en) =
    codes "$_SDFFE_" ++ letter_of clk ∷ letter_of srst ∷ digit_of value ∷ letter_of en ∷ []
store_front (Store.Sdffce clk srst value en) =
    codes "$_SDFFCE_" ++ letter_of clk ∷ letter_of srst ∷ digit_of value ∷ letter_of en ∷ []
store_front (Store.Dffsr clk set clr) = codes "$_DFFSR_" ++ letter_of clk ∷ letter_of set ∷ letter_of clr ∷ []
store_front (Store.Dffsre clk set clr en) =
    codes "$_DFFSRE_" ++ letter_of clk ∷ letter_of set ∷ letter_of clr ∷ letter_of en ∷ []
store_front (Store.Aldff clk aload) = codes "$_ALDFF_" ++ letter_of clk ∷ letter_of aload ∷ []
store_front (Store.Aldffe clk aload en) = codes "$_ALDFFE_" ++ letter_of clk ∷ letter_of aload ∷ letter_of en ∷ []
store_front (Store.Dlatch en) = codes "$_DLATCH_" ++ letter_of en ∷ []
store_front (Store.Adlatch en arst value) = codes "$_DLATCH_" ++ letter_of en ∷ letter_of arst ∷ digit_of value ∷ []
store_front (Store.Dlatchsr en set clr) = codes "$_DLATCHSR_" ++ letter_of en ∷ letter_of set ∷ letter_of clr ∷ []
store_front (Store.Sr set clr) = codes "$_SR_" ++ letter_of set ∷ letter_of clr ∷ []

-- of a cell of a memory
abbrev pub memory_name : MemoryKind → List ℕ
memory_name Memory.Memrd = codes "$memrd"
memory_name Memory.MemrdV2 = codes "$memrd_v2"
memory_name Memory.MemwrV2 = codes "$memwr_v2"
memory_name Memory.Meminit = codes "$meminit"
memory_name Memory.MeminitV2 = codes "$meminit_v2"

-- of a cell of the library
abbrev pub name_of : CellKind → List ℕ
name_of (Cell.Word kind) = word_name kind
name_of (Cell.Gate kind) = gate_name kind
name_of (Cell.Storage kind) = storage_name kind
name_of (Cell.StorageGate gate) = store_front gate ++ codes "_"
name_of (Cell.Memory kind) = memory_name kind
