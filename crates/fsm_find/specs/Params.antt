-- What the parameters of cells say.
use Rattle.std.specs.Prelude.{Bool, ◌&&◌, List}
use Rattle.cell_types.specs.declared.param_name.ParamName.TheVariants.{ASigned, BSigned}
use Rattle.cell_types.specs.Shape.{is_set}
use Rattle.rtl_ir.specs.declared.cell.CellParam.{CellParam}
use Rattle.rtl_ir.specs.Parameters.{given_params}

-- both operands are signed
abbrev pub are_signed : List CellParam → Bool
are_signed params = is_set (given_params params) ASigned && is_set (given_params params) BSigned
