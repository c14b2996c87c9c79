-- Classes and runs, as contracts see them.
use Rattle.std.specs.Prelude.{Bool, true, false, List, Option, Some, None}
use Rattle.rtl_sig.specs.declared.sig.SigBit.{SigBit}
use Rattle.rtl_ir.specs.Follow.{source_at}
use Rattle.rtl_ir.specs.declared.follow.Join.{Join}
use Rattle.net_model.specs.Proc.Sync as sync
use Rattle.proc_sync.specs.declared.runs.Class.{Class}
use Rattle.proc_sync.specs.declared.runs.Class.TheVariants.{Plain, Resets, Loads}
use Rattle.proc_sync.specs.declared.runs.Run.{Run}

-- a class
abbrev pub class_code : Class → sync.Class
class_code Plain = sync.Plain
class_code Resets = sync.Resets
class_code Loads = sync.Loads

-- a run
abbrev pub run_of : Run → sync.Run
run_of r = record { class = class_code r.class; places = r.places.items }

-- the class of what a rule gives beside an edge rule; else whether it gives nothing
abbrev pub class_by : Bool → Option SigBit → sync.Class
class_by true source = sync.class_of source
class_by false None = sync.Plain
class_by false (Some s) = sync.Loads

-- the class of a place, by what these places give it
abbrev pub class_in : List Join → Bool → Join → sync.Class
class_in js beside j = class_by beside (source_at js j.bit)
