-- the widths that a cell's parameters give its pins
use Rattle.std.specs.Prelude.{ℕ, List, ◌+◌, ◌*◌, ◌^◌}
use Rattle.cell_types.specs.declared.given.Param.{Param}
use Rattle.cell_types.specs.declared.kind.CellKind.{CellKind}
use Rattle.cell_types.specs.declared.kind.CellKind.TheVariants as Cell
use Rattle.cell_types.specs.declared.memory.MemoryKind.{MemoryKind}
use Rattle.cell_types.specs.declared.memory.MemoryKind.TheVariants.{Memrd, MemrdV2, MemwrV2, Meminit, MeminitV2}
use Rattle.cell_types.specs.declared.param_name.ParamName.TheVariants.{AWidth, BWidth, YWidth, Width, SWidth, Abits, Words}
use Rattle.cell_types.specs.declared.pin_name.PinName.{PinName}
use Rattle.cell_types.specs.declared.pin_name.PinName.TheVariants.{A, B, S, Y, En, Set, Clr, Ad, D, Q, Addr, Data}
use Rattle.cell_types.specs.declared.word.WordKind.{WordKind}
use Rattle.cell_types.specs.declared.word.WordKind.TheVariants.{Mux, Pmux, Concat, Buf, Bwmux, Bmux, Demux}
use Rattle.cell_types.specs.Given.{number_in}

-- each pin has the width that is named for it
abbrev pub own_width : List Param → PinName → ℕ
own_width params A = number_in params AWidth
own_width params B = number_in params BWidth
own_width params Y = number_in params YWidth
own_width params _ = 0

-- words, and one bit that chooses
abbrev pub mux_width : List Param → PinName → ℕ
mux_width params S = 1
mux_width params _ = number_in params Width

-- words, and as many words as there are bits that choose
abbrev pub pmux_width : List Param → PinName → ℕ
pmux_width params B = number_in params Width * number_in params SWidth
pmux_width params S = number_in params SWidth
pmux_width params _ = number_in params Width

-- the result is as wide as the operands together
abbrev pub concat_width : List Param → PinName → ℕ
concat_width params A = number_in params AWidth
concat_width params B = number_in params BWidth
concat_width params Y = number_in params AWidth + number_in params BWidth
concat_width params _ = 0

-- a word, and the word itself
abbrev pub buf_width : List Param → PinName → ℕ
buf_width params A = number_in params Width
buf_width params Y = number_in params Width
buf_width params _ = 0

-- as many words as the bits that choose have values
abbrev pub parts_in : List Param → ℕ
parts_in params = number_in params Width * 2 ^ number_in params SWidth

-- parts, and the bits that choose one of them
abbrev pub bmux_width : List Param → PinName → ℕ
bmux_width params A = parts_in params
bmux_width params S = number_in params SWidth
bmux_width params Y = number_in params Width
bmux_width params _ = 0

-- a word, and parts of which one takes it
abbrev pub demux_width : List Param → PinName → ℕ
demux_width params A = number_in params Width
demux_width params S = number_in params SWidth
demux_width params Y = parts_in params
demux_width params _ = 0

-- of combinational cells on words
abbrev pub word_width : WordKind → List Param → PinName → ℕ
word_width Mux params pin = mux_width params pin
word_width Pmux params pin = pmux_width params pin
word_width Concat params pin = concat_width params pin
word_width Buf params pin = buf_width params pin
word_width Bwmux params pin = number_in params Width
word_width Bmux params pin = bmux_width params pin
word_width Demux params pin = demux_width params pin
word_width _ params pin = own_width params pin

-- of storage cells: words, and single bits that control them
abbrev pub storage_width : List Param → PinName → ℕ
storage_width params Set = number_in params Width
storage_width params Clr = number_in params Width
storage_width params Ad = number_in params Width
storage_width params D = number_in params Width
storage_width params Q = number_in params Width
storage_width params _ = 1

-- an address and a word; the pins that are not read have one bit
abbrev pub read_width : List Param → PinName → ℕ
read_width params Addr = number_in params Abits
read_width params Data = number_in params Width
read_width params _ = 1

-- an address, a word, and an enable for each of its bits
abbrev pub write_width : List Param → PinName → ℕ
write_width params Addr = number_in params Abits
write_width params Data = number_in params Width
write_width params En = number_in params Width
write_width params _ = 1

-- an address, words, and an enable for each bit of a word
abbrev pub init_width : List Param → PinName → ℕ
init_width params Addr = number_in params Abits
init_width params Data = number_in params Width * number_in params Words
init_width params _ = number_in params Width

-- of memory cells
abbrev pub memory_width : MemoryKind → List Param → PinName → ℕ
memory_width Memrd params pin = read_width params pin
memory_width MemrdV2 params pin = read_width params pin
memory_width MemwrV2 params pin = write_width params pin
memory_width Meminit params pin = init_width params pin
memory_width MeminitV2 params pin = init_width params pin

-- the width that the parameters give a pin
abbrev pub pin_width : CellKind → List Param → PinName → ℕ
pin_width (Cell.Word kind) params pin = word_width kind params pin
pin_width (Cell.Gate _) params pin = 1
pin_width (Cell.Storage _) params pin = storage_width params pin
pin_width (Cell.StorageGate _) params pin = 1
pin_width (Cell.Memory kind) params pin = memory_width kind params pin
