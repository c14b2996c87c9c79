-- What the first of some places gives to each bit, in a table.
use Rattle.std.specs.Prelude.{◌≡◌, List}
use Rattle.std.specs.HashMap.{HashMap, get_by}
use Rattle.std.specs.declared.hash.BuildHasherDefault.{BuildHasherDefault}
use Rattle.std.specs.declared.hash.FoldHasher.{FoldHasher}
use Rattle.rtl_sig.specs.declared.sig.SigBit.{SigBit}
use Rattle.rtl_sig.specs.declared.sig.WireBit.{WireBit}
use Rattle.rtl_ir.specs.Follow.{source_at}
use Rattle.rtl_ir.specs.declared.follow.Join.{Join}
use Rattle.rtl_ir.specs.Signals.{same_bit}

-- a table of what bits are given
abbrev pub Sources : Type 0
Sources = HashMap WireBit SigBit (BuildHasherDefault FoldHasher)

-- the table has what the first of these places gives to each bit
abbrev pub AreSources : Sources → List Join → Type 0
AreSources sources js = (b : WireBit) → get_by (same_bit b) sources ≡ source_at js b
