-- Values that are given to outputs.
use Rattle.std.specs.Prelude.{List, length, false}
use Rattle.rtl_ir.specs.Build.{Build, Building, new_link}
use Rattle.rtl_sig.specs.Signal.{extended}
use Rattle.rtl_sig.specs.declared.sig.SigBit.{SigBit}

-- a signal is connected to bits, which are cut to its width or filled with 0
abbrev pub give_to : List SigBit → List SigBit → Building → Building
give_to y bits = new_link y (extended bits (length y) false)

-- a net, and its result given to a signal
abbrev pub given : List SigBit → Build (List SigBit) → Building → Building
given y net b = give_to y (net b).0 (net b).1
