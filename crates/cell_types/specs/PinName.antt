-- the names of pins
use Rattle.std.specs.Prelude.{ℕ, List, codes}
use Rattle.cell_types.specs.declared.pin_name.PinName.{PinName}
use Rattle.cell_types.specs.declared.pin_name.PinName.TheVariants.{A, B, S, Y, Clk, En, Arst, Srst, Aload, Set, Clr, Ad, D, Q, C, E, R, L, Addr, Data}

-- the name as a cell has it
abbrev pub pin_text : PinName → List ℕ
pin_text A = codes "\\A"
pin_text B = codes "\\B"
pin_text S = codes "\\S"
pin_text Y = codes "\\Y"
pin_text Clk = codes "\\CLK"
pin_text En = codes "\\EN"
pin_text Arst = codes "\\ARST"
pin_text Srst = codes "\\SRST"
pin_text Aload = codes "\\ALOAD"
pin_text Set = codes "\\SET"
pin_text Clr = codes "\\CLR"
pin_text Ad = codes "\\AD"
pin_text D = codes "\\D"
pin_text Q = codes "\\Q"
pin_text C = codes "\\C"
pin_text E = codes "\\E"
pin_text R = codes "\\R"
pin_text L = codes "\\L"
pin_text Addr = codes "\\ADDR"
pin_text Data = codes "\\DATA"
