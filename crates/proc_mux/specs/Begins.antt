-- Where new runs begin: at a bit that a line names without the bit before it, or not with it.
use Rattle.std.specs.Prelude.{◌≡◌, ◌+◌, ◌^◌, ◌<◌, Bool, not, ◌&&◌, ◌||◌, List}
use Rattle.std.specs.HashSet.{HashSet, contains}
use Rattle.std.specs.List.{list_any}
use Rattle.std.specs.declared.hash.BuildHasherDefault.{BuildHasherDefault}
use Rattle.std.specs.declared.hash.FoldHasher.{FoldHasher}
use Rattle.rtl_sig.specs.declared.sig.SigBit.{SigBit}
use Rattle.rtl_sig.specs.declared.sig.WireBit.{WireBit}
use Rattle.rtl_ir.specs.declared.follow.Join.{Join}
use Rattle.rtl_ir.specs.declared.module.Link.{Link}
use Rattle.rtl_ir.specs.Follow.{joins}
use Rattle.rtl_ir.specs.Signals.{same_bit}

-- sets of bits
abbrev pub Bits : Type 0
Bits = HashSet WireBit (BuildHasherDefault FoldHasher)

-- a bit is at the next place of the wire of another, at a place that there may be
pub record IsNext (a b : WireBit) : Type 0 where
  pub wire : a.wire ≡ b.wire
  pub at : a.at + 1 ≡ b.at
  pub fits : b.at < 2 ^ 32

-- places of a line name a bit
abbrev pub is_named : List SigBit → List SigBit → WireBit → Bool
is_named left right b = list_any (λ (j : Join). same_bit j.bit b) (joins left right)

-- one of two is so, and the other is not
abbrev pub differ : Bool → Bool → Bool
differ s t = (s && not t) || (t && not s)

-- a line with these sides names one of two bits alone
abbrev pub parts : WireBit → WireBit → List SigBit → List SigBit → Bool
parts a b left right = differ (is_named left right a) (is_named left right b)

-- these are the bits that some of the lines part from the bit before them
abbrev pub AreBegins : Bits → List Link → Type 0
AreBegins begins lines =
    (a b : WireBit) → IsNext a b → contains same_bit begins b ≡ list_any (λ (l : Link). parts a b l.left l.right) lines
