-- Tree bits that depend on themselves.
use Rattle.std.specs.Prelude.{ℕ, zero, suc, Bool, false, ◌&&◌, ◌||◌, List, [], ◌++◌, length, if◌then◌else◌}
use Rattle.std.specs.List.{list_any}
use Rattle.std.specs.Option.{option_to_list}
use Rattle.rtl_sig.specs.declared.sig.SigBit.{SigBit}
use Rattle.rtl_sig.specs.declared.sig.WireBit.{WireBit}
use Rattle.rtl_ir.specs.declared.module.Link.{Link}
use Rattle.rtl_ir.specs.Assigns.{assigned, cases_assigns, left_bits}
use Rattle.rtl_ir.specs.Signals.{same_bit, has_bit, wire_bits}
use Rattle.rtl_ir.specs.Tree.{Switches, NoSwitch, OneSwitch, Cases, NoCase, OneCase, CaseView}

-- the cases of a switch assign the bit, or cases below them do
abbrev pub cases_name : WireBit → Cases → Bool
cases_name b cases = has_bit (left_bits (cases_assigns cases)) b

-- what the last of these assigns of a bit reads for it
abbrev pub assigns_read : WireBit → List Link → List SigBit
assigns_read b assigns = option_to_list (assigned assigns b)

abbrev mutual
  -- what a bit reads below these switches: what is assigned to it, and the signals of the switches that assign it
  pub switches_read : WireBit → Switches → List SigBit
  switches_read b NoSwitch = []
  switches_read b (OneSwitch signal attributes cases rest) =
      (if cases_name b cases then signal ++ cases_read b cases else []) ++ switches_read b rest

  -- the same in these cases: of each case the last assign of the bit counts
  pub cases_read : WireBit → Cases → List SigBit
  cases_read b NoCase = []
  cases_read b (OneCase patterns assigns attributes switches rest) =
      assigns_read b assigns ++ switches_read b switches ++ cases_read b rest

-- the bits that a tree bit reads
abbrev pub bits_read : CaseView → WireBit → List WireBit
bits_read root b = wire_bits (assigns_read b root.assigns ++ switches_read b root.switches)

-- a tree bit reads another one through at most so many tree bits
abbrev pub reads_within : CaseView → List WireBit → ℕ → WireBit → WireBit → Bool
reads_within root bits zero b c = false
reads_within root bits (suc n) b c =
    list_any (λ r. has_bit bits r && (same_bit r c || reads_within root bits n r c)) (bits_read root b)

-- some tree bit of a root case whose switches are read by the rules depends on itself
abbrev pub reads_itself : CaseView → List WireBit → Bool
reads_itself root bits = list_any (λ b. reads_within root bits (length bits) b b) bits
