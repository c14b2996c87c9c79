-- How the code names the two ways in which leaves are read.
use Rattle.net_model.specs.Proc.Latch.{Side}
use Rattle.net_model.specs.Proc.Latch.{ForData, ForEnable}
use Rattle.proc_latch.specs.declared.side.Side as code
use Rattle.proc_latch.specs.declared.side.Side.TheVariants as names

-- a way, by the definition's name
abbrev pub side_of : code.Side → Side
side_of names.Data = ForData
side_of names.Enable = ForEnable
