-- which parameters each cell has
use Rattle.std.specs.Prelude.{List, [], ◌∷◌}
use Rattle.cell_types.specs.declared.kind.CellKind.{CellKind}
use Rattle.cell_types.specs.declared.word.WordKind.{WordKind}
use Rattle.cell_types.specs.declared.storage.StorageKind.{StorageKind}
use Rattle.cell_types.specs.declared.memory.MemoryKind.{MemoryKind}
use Rattle.cell_types.specs.declared.param_name.ParamName.{ParamName}
use Rattle.cell_types.specs.declared.kind.CellKind.TheVariants as Cell
use Rattle.cell_types.specs.declared.word.WordKind.TheVariants as Word
use Rattle.cell_types.specs.declared.storage.StorageKind.TheVariants as Storage
use Rattle.cell_types.specs.declared.memory.MemoryKind.TheVariants as Memory
use Rattle.cell_types.specs.declared.param_name.ParamName.TheVariants.{ASigned, AWidth, BSigned, BWidth, YWidth, Width, SWidth, Offset, ClkPolarity, EnPolarity, ArstPolarity, SrstPolarity, AloadPolarity, SetPolarity, ClrPolarity, ArstValue, SrstValue, Memid, Abits, ClkEnable, Transparent, TransparencyMask, CollisionXMask, InitValue, CeOverSrst, Portid, PriorityMask, Words, Priority}

-- of combinational cells on words
abbrev pub word_params : WordKind → List ParamName
word_params (Word.Unary _) = ASigned ∷ AWidth ∷ YWidth ∷ []
word_params (Word.Fold _) = ASigned ∷ AWidth ∷ YWidth ∷ []
word_params Word.Mux = Width ∷ []
word_params Word.Pmux = Width ∷ SWidth ∷ []
word_params Word.Slice = Offset ∷ AWidth ∷ YWidth ∷ []
word_params Word.Concat = AWidth ∷ BWidth ∷ []
word_params Word.Buf = Width ∷ []
word_params Word.Bwmux = Width ∷ []
word_params Word.Bmux = Width ∷ SWidth ∷ []
word_params Word.Demux = Width ∷ SWidth ∷ []
word_params _ = ASigned ∷ AWidth ∷ BSigned ∷ BWidth ∷ YWidth ∷ []

-- of storage cells on words
abbrev pub storage_params : StorageKind → List ParamName
storage_params Storage.Ff = Width ∷ []
storage_params Storage.Dff = Width ∷ ClkPolarity ∷ []
storage_params Storage.Dffe = Width ∷ ClkPolarity ∷ EnPolarity ∷ []
storage_params Storage.Sdff = Width ∷ ClkPolarity ∷ SrstPolarity ∷ SrstValue ∷ []
storage_params Storage.Sdffe = Width ∷ ClkPolarity ∷ EnPolarity ∷ SrstPolarity ∷ SrstValue ∷ []
storage_params Storage.Sdffce = Width ∷ ClkPolarity ∷ EnPolarity ∷ SrstPolarity ∷ SrstValue ∷ []
storage_params Storage.Adff = Width ∷ ClkPolarity ∷ ArstPolarity ∷ ArstValue ∷ []
storage_params Storage.Adffe = Width ∷ ClkPolarity ∷ EnPolarity ∷ ArstPolarity ∷ ArstValue ∷ []
storage_params Storage.Aldff = Width ∷ ClkPolarity ∷ AloadPolarity ∷ []
storage_params Storage.Aldffe = Width ∷ ClkPolarity ∷ EnPolarity ∷ AloadPolarity ∷ []
storage_params Storage.Dffsr = Width ∷ ClkPolarity ∷ SetPolarity ∷ ClrPolarity ∷ []
storage_params Storage.Dffsre = Width ∷ ClkPolarity ∷ EnPolarity ∷ SetPolarity ∷ ClrPolarity ∷ []
storage_params Storage.Dlatch = Width ∷ EnPolarity ∷ []
storage_params Storage.Adlatch = Width ∷ EnPolarity ∷ ArstPolarity ∷ ArstValue ∷ []
storage_params Storage.Dlatchsr = Width ∷ EnPolarity ∷ SetPolarity ∷ ClrPolarity ∷ []
storage_params Storage.Sr = Width ∷ SetPolarity ∷ ClrPolarity ∷ []

-- of memory cells
abbrev pub memory_params : MemoryKind → List ParamName
memory_params Memory.Memrd = Memid ∷ Abits ∷ Width ∷ ClkEnable ∷ ClkPolarity ∷ Transparent ∷ []
memory_params Memory.MemrdV2 = Memid ∷ Abits ∷ Width ∷ ClkEnable ∷ ClkPolarity ∷ TransparencyMask ∷ CollisionXMask ∷ ArstValue ∷ SrstValue ∷ InitValue ∷ CeOverSrst ∷ []
memory_params Memory.MemwrV2 = Memid ∷ Abits ∷ Width ∷ ClkEnable ∷ ClkPolarity ∷ Portid ∷ PriorityMask ∷ []
memory_params Memory.Meminit = Memid ∷ Abits ∷ Width ∷ Words ∷ Priority ∷ []
memory_params Memory.MeminitV2 = Memid ∷ Abits ∷ Width ∷ Words ∷ Priority ∷ []

-- the params of a cell, in the order in which new cells write them
abbrev pub params_of : CellKind → List ParamName
params_of (Cell.Word kind) = word_params kind
params_of (Cell.Gate _) = []
params_of (Cell.Storage kind) = storage_params kind
params_of (Cell.StorageGate _) = []
params_of (Cell.Memory kind) = memory_params kind
