-- What a signal stands for as bits, by its parts.
use Rattle.std.specs.Prelude.{Option, None, ◌≡◌, ℕ, ◌+◌, ◌-◌, ◌<◌, ◌≤◌, max, pos, List, [], ◌∷◌, ◌++◌, length, take, drop, Some, Ok, Bool, true, false}
use Rattle.rtl_lex.specs.declared.sort.Sort.{Sort}
use Rattle.rtl_lex.specs.declared.sort.Sort.TheVariants as sorts
use Rattle.rtl_lex.specs.Items.{Seen}
use Rattle.rtl_sig.specs.declared.sig.SigBit.{SigBit}
use Rattle.rtl_ir.specs.declared.wire.Wire.{Wire}
use Rattle.rtl_grammar.specs.declared.expect.Expect.{Expect}
use Rattle.rtl_grammar.specs.declared.expect.Expect.TheVariants as expects
use Rattle.rtl_grammar.specs.Uses.{Use}
use Rattle.rtl_ir.specs.declared.limits.TheConstants.{MAX_BITS}
use Rattle.rtl_read.specs.declared.draft.Draft.{Draft}
use Rattle.rtl_read.specs.Signal.{plain_signal}
use Rattle.rtl_read.specs.Meaning.Process.{with_address, with_value}
use Rattle.rtl_read.specs.Act.Signal.{without_signal}

mutual
  -- a signal as it is written, by its items: a name or a constant; a signal and `[n]`, or `[m:n]`; or signals in braces
  pub data Written : Type 0 where
    Plain : Seen → Written
    At : Written → Seen → Seen → Seen → Written
    Slice : Written → Seen → Seen → Seen → Seen → Seen → Written
    Braced : Seen → Parts → Seen → Written

  -- the signals in braces: none, or the leftmost and those behind it
  pub data Parts : Type 0 where
    NoPart : Parts
    OnePart : Written → Parts → Parts

-- the sorts of names and constants
abbrev pub is_plain : Sort → Bool
is_plain sorts.Id = true
is_plain sorts.Value = true
is_plain sorts.Int = true
is_plain sorts.Chars = true
is_plain sort = false

abbrev mutual
  -- the items have the sorts that a signal so written has
  pub IsWritten : Written → Type 0
  IsWritten (Plain i) = is_plain i.sort ≡ true
  IsWritten (At signal left n right) = IsWritten signal × (left.sort ≡ sorts.OpenIndex) × (n.sort ≡ sorts.Int) × (right.sort ≡ sorts.CloseIndex)
  IsWritten (Slice signal left m colon n right) =
      IsWritten signal × (left.sort ≡ sorts.OpenIndex) × (m.sort ≡ sorts.Int) × (colon.sort ≡ sorts.Colon) × (n.sort ≡ sorts.Int) × (right.sort ≡ sorts.CloseIndex)
  IsWritten (Braced left parts right) = (left.sort ≡ sorts.OpenBrace) × AreWritten parts × (right.sort ≡ sorts.CloseBrace)

  pub AreWritten : Parts → Type 0
  AreWritten NoPart = Unit {0}
  AreWritten (OnePart signal parts) = IsWritten signal × AreWritten parts

-- the bits are those from bit n up to bit m of the whole, which has them
pub record IsCut (whole : List SigBit) (high low : Seen) (bits : List SigBit) : Type 0 where
  pub m : ℕ
  pub n : ℕ
  pub is_high : high.number ≡ Some (pos m)
  pub is_low : low.number ≡ Some (pos n)
  pub order : n ≤ m
  pub within : m < length whole
  pub are : bits ≡ take (m + 1 - n) (drop n whole)

abbrev mutual
  -- the signal stands for these bits, bit 0 first: those of a wire or a constant; those that are cut out of the bits
  -- of the signal before a bracket; or, in braces, those of all signals, the leftmost on top
  pub StandsFor : List Wire → List (List ℕ) → Written → List SigBit → Type 0
  StandsFor wires names (Plain i) bits = plain_signal wires names i.sort i ≡ Ok bits
  StandsFor wires names (At signal left n right) bits = (whole : List SigBit) × StandsFor wires names signal whole × IsCut whole n n bits
  StandsFor wires names (Slice signal left m colon n right) bits = (whole : List SigBit) × StandsFor wires names signal whole × IsCut whole m n bits
  StandsFor wires names (Braced left parts right) bits = StandFor wires names parts bits × (length bits ≤ MAX_BITS)

  -- the signals stand for these bits together, the leftmost on top
  pub StandFor : List Wire → List (List ℕ) → Parts → List SigBit → Type 0
  StandFor wires names NoPart bits = bits ≡ []
  StandFor wires names (OnePart signal parts) bits =
      (top : List SigBit) × (rest : List SigBit) × StandsFor wires names signal top × StandFor wires names parts rest × (bits ≡ rest ++ top)

abbrev mutual
  -- how many braces stand in one another
  pub depth_of : Written → ℕ
  depth_of (Plain i) = 0
  depth_of (At signal left n right) = depth_of signal
  depth_of (Slice signal left m colon n right) = depth_of signal
  depth_of (Braced left parts right) = depth_in parts + 1

  pub depth_in : Parts → ℕ
  depth_in NoPart = 0
  depth_in (OnePart signal parts) = max (depth_of signal) (depth_in parts)

-- an item in its place
abbrev pub placed : Expect → Seen → Use
placed role i = record { role = role; item = i }

abbrev mutual
  -- the items in their places, where the first of them stands at this place, and a bracket behind the signal at that one
  pub places_of : Expect → Expect → Written → List Use
  places_of first behind (Plain i) = placed first i ∷ []
  places_of first behind (At signal left n right) = places_of first behind signal ++ placed behind left ∷ placed expects.Index n ∷ placed expects.BehindIndex right ∷ []
  places_of first behind (Slice signal left m colon n right) =
      places_of first behind signal ++ placed behind left ∷ placed expects.Index m ∷ placed expects.BehindIndex colon ∷ placed expects.LowIndex n ∷ placed expects.IndexEnd right ∷ []
  places_of first behind (Braced left parts right) = placed first left ∷ places_in expects.Inside parts right

  -- .. of the signals in braces and the closing brace
  pub places_in : Expect → Parts → Seen → List Use
  places_in place NoPart right = placed place right ∷ []
  places_in place (OnePart signal parts) right = places_of place expects.BehindInside signal ++ places_in expects.BehindInside parts right

-- the places of a bracket behind a signal
abbrev pub is_behind : Expect → Bool
is_behind expects.BehindPin = true
is_behind expects.BehindLeft = true
is_behind expects.BehindRight = true
is_behind expects.BehindSwitch = true
is_behind expects.BehindPattern = true
is_behind expects.BehindEvent = true
is_behind expects.BehindAddress = true
is_behind expects.BehindValue = true
is_behind expects.BehindEnable = true
is_behind expects.BehindInside = true
is_behind role = false

-- where a signal may stand: where one is expected; or as the first pattern of a case, the right signal of a pair, the
-- value or the enable of a `memwr` line; with the place of a bracket behind it
abbrev pub may_stand : Expect → Expect → Bool
may_stand expects.Signal behind = is_behind behind
may_stand expects.Patterns expects.BehindPattern = true
may_stand expects.BehindLeft expects.BehindRight = true
may_stand expects.BehindAddress expects.BehindValue = true
may_stand expects.BehindValue expects.BehindEnable = true
may_stand first behind = false

-- what is expected there, with this behind all
abbrev pub expected_at : Expect → Expect → List Expect → List Expect
expected_at expects.Signal behind roles = expects.Signal ∷ behind ∷ roles
expected_at first behind roles = first ∷ roles

-- the draft, where the bits are some
abbrev pub where_some : List SigBit → Draft → Option Draft
where_some [] d = None
where_some (b ∷ bs) d = Some d

-- what was read before the signal, once the signal before it is taken: the left one of a pair; the address and the
-- value of a `memwr` line, which may not be empty
abbrev pub taken_at : Expect → Draft → Option Draft
taken_at expects.BehindLeft d = Some (record (without_signal d) { left = d.signal.part })
taken_at expects.BehindAddress d = where_some d.signal.part (record (without_signal d) { process = with_address d.signal.part d.process })
taken_at expects.BehindValue d = where_some d.signal.part (record (without_signal d) { process = with_value d.signal.part d.process })
taken_at first d = Some d
