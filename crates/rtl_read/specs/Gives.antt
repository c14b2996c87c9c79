-- What a call of the reader answers, beside what reading gives.
use Rattle.std.specs.Prelude.{◌≡◌, Result, Ok, Err}
use Rattle.rtl_read.specs.declared.read_fault.ReadFault.{ReadFault}
use Rattle.rtl_read.specs.declared.read_fault.ReadFault.TheVariants.{Memory}

-- a fault is the one that reading gives; want of memory says nothing
abbrev pub Fails : {Y : Type 0} → ReadFault → Result Y ReadFault → Type 0
Fails Memory read = Unit {0}
Fails fault read = read ≡ Err fault

-- a call answers what reading gives, unless memory runs out
abbrev pub Gives : {Y : Type 0} → Result Y ReadFault → Result Y ReadFault → Type 0
Gives (Ok y) read = read ≡ Ok y
Gives (Err fault) read = Fails fault read

-- a call that changes a value leaves what reading gives, unless memory runs out
abbrev pub Sets : {X Y : Type 0} → Result X ReadFault → Y → Result Y ReadFault → Type 0
Sets (Ok x) new read = read ≡ Ok new
Sets (Err fault) new read = Fails fault read
