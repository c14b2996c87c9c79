-- The places whose sources are kept.
use Rattle.std.specs.Prelude.{◌≡◌, List, Option}
use Rattle.rtl_sig.specs.declared.sig.SigBit.{SigBit}
use Rattle.rtl_sig.specs.declared.sig.WireBit.{WireBit}
use Rattle.rtl_ir.specs.Follow.{source_at}
use Rattle.rtl_ir.specs.declared.follow.Join.{Join}
use Rattle.proc_sync.specs.declared.sources.Sources.{Sources}

-- the places
abbrev pub joins_in : Sources → List Join
joins_in s = s.places.items

-- the sources are those of these places
abbrev pub Gives : Sources → List Join → Type 0
Gives s places = joins_in s ≡ places

-- what the first place of a bit gives it
abbrev pub given_at : Sources → WireBit → Option SigBit
given_at s b = source_at (joins_in s) b
