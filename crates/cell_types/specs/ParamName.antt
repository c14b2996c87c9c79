-- the names of parameters
use Rattle.std.specs.Prelude.{ℕ, List, codes}
use Rattle.cell_types.specs.declared.param_name.ParamName.{ParamName}
use Rattle.cell_types.specs.declared.param_name.ParamName.TheVariants.{ASigned, AWidth, BSigned, BWidth, YWidth, Width, SWidth, Offset, ClkPolarity, EnPolarity, ArstPolarity, SrstPolarity, AloadPolarity, SetPolarity, ClrPolarity, ArstValue, SrstValue, Memid, Abits, ClkEnable, Transparent, TransparencyMask, CollisionXMask, InitValue, CeOverSrst, Portid, PriorityMask, Words, Priority}

-- the name as a cell has it
abbrev pub param_text : ParamName → List ℕ
param_text ASigned = codes "\\A_SIGNED"
param_text AWidth = codes "\\A_WIDTH"
param_text BSigned = codes "\\B_SIGNED"
param_text BWidth = codes "\\B_WIDTH"
param_text YWidth = codes "\\Y_WIDTH"
param_text Width = codes "\\WIDTH"
param_text SWidth = codes "\\S_WIDTH"
param_text Offset = codes "\\OFFSET"
param_text ClkPolarity = codes "\\CLK_POLARITY"
param_text EnPolarity = codes "\\EN_POLARITY"
param_text ArstPolarity = codes "\\ARST_POLARITY"
param_text SrstPolarity = codes "\\SRST_POLARITY"
param_text AloadPolarity = codes "\\ALOAD_POLARITY"
param_text SetPolarity = codes "\\SET_POLARITY"
param_text ClrPolarity = codes "\\CLR_POLARITY"
param_text ArstValue = codes "\\ARST_VALUE"
param_text SrstValue = codes "\\SRST_VALUE"
param_text Memid = codes "\\MEMID"
param_text Abits = codes "\\ABITS"
param_text ClkEnable = codes "\\CLK_ENABLE"
param_text Transparent = codes "\\TRANSPARENT"
param_text TransparencyMask = codes "\\TRANSPARENCY_MASK"
param_text CollisionXMask = codes "\\COLLISION_X_MASK"
param_text InitValue = codes "\\INIT_VALUE"
param_text CeOverSrst = codes "\\CE_OVER_SRST"
param_text Portid = codes "\\PORTID"
param_text PriorityMask = codes "\\PRIORITY_MASK"
param_text Words = codes "\\WORDS"
param_text Priority = codes "\\PRIORITY"
