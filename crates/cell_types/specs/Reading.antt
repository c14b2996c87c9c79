-- how the value of each parameter is read
use Rattle.std.specs.Prelude.{Bool, true, List, ◌&&◌, ◌==◌, length, nat_lt}
use Rattle.rtl_bits.specs.Knowledge.{all_known}
use Rattle.cell_types.specs.declared.given.Param.{Param}
use Rattle.cell_types.specs.declared.kind.CellKind.{CellKind}
use Rattle.cell_types.specs.declared.kind.CellKind.TheVariants.{Memory}
use Rattle.cell_types.specs.declared.memory.MemoryKind.TheVariants.{Memrd, MemrdV2}
use Rattle.cell_types.specs.declared.param_name.ParamName.{ParamName}
use Rattle.cell_types.specs.declared.param_name.ParamName.TheVariants as Param
use Rattle.cell_types.specs.declared.reading.Reading.{Reading}
use Rattle.cell_types.specs.declared.reading.Reading.TheVariants.{Width, Number, Word, Any}
use Rattle.cell_types.specs.Given.{number_in, value_in}

-- what the name alone asks of the value
abbrev pub own_reading : ParamName → Reading
own_reading Param.AWidth = Width
own_reading Param.BWidth = Width
own_reading Param.YWidth = Width
own_reading Param.SWidth = Width
own_reading Param.Width = Width
own_reading Param.ArstValue = Word
own_reading Param.SrstValue = Word
own_reading Param.Memid = Any
own_reading Param.PriorityMask = Any
own_reading _ = Number

-- what a read port asks: little of it is read
abbrev pub port_reading : ParamName → Reading
port_reading Param.Width = Width
port_reading Param.Abits = Number
port_reading Param.ClkEnable = Number
port_reading _ = Any

-- what is asked of the value of a cell's parameter
abbrev pub reading_of : CellKind → ParamName → Reading
reading_of (Memory Memrd) name = port_reading name
reading_of (Memory MemrdV2) name = port_reading name
reading_of _ name = own_reading name

-- the value is as its reading asks
abbrev pub is_read_as : Reading → List Param → ParamName → Bool
is_read_as Width params name = all_known (value_in params name) && nat_lt 0 (number_in params name)
is_read_as Number params name = all_known (value_in params name)
is_read_as Word params name = length (value_in params name) == number_in params Param.Width
is_read_as Any params name = true

-- the parameter's value can be read
abbrev pub is_readable : CellKind → List Param → ParamName → Bool
is_readable kind params name = is_read_as (reading_of kind name) params name
