-- The last step of `proc`: trees become multiplexers, and the processes go.
use Rattle.std.specs.Prelude.{ℕ, ◌+◌, ◌==◌, Bool, true, false, not, ◌&&◌, ◌||◌, nat_lt, List, [], ◌∷◌, ◌++◌, length, map, filter, codes, Option, Some, None, if◌then◌else◌, zip}
use Rattle.std.specs.List.{list_any, list_all}
use Rattle.std.specs.Option.{option_map_or}
use Rattle.std.specs.Cmp.Lexicographic.{pointwise}
use Rattle.rtl_bits.specs.declared.bit.Bit.TheVariants.{S1, X}
use Rattle.rtl_bits.specs.Knowledge.{is_known}
use Rattle.rtl_sig.specs.declared.sig.SigBit.{SigBit}
use Rattle.rtl_sig.specs.declared.sig.SigBit.TheVariants.{Fixed, Wire as OnWire}
use Rattle.rtl_sig.specs.declared.sig.WireBit.{WireBit}
use Rattle.rtl_ir.specs.declared.module.Link.{Link}
use Rattle.rtl_ir.specs.declared.module.Module.{Module}
use Rattle.rtl_ir.specs.declared.process.Process.{Process}
use Rattle.rtl_ir.specs.Assigns.{cases_assigns, case_assigns, tree_bits, assigned}
use Rattle.rtl_ir.specs.Follow.{joins}
use Rattle.rtl_ir.specs.declared.follow.Join.{Join}
use Rattle.rtl_ir.specs.Signals.{same_bit, same_signal}
use Rattle.rtl_ir.specs.Tree.{Switches, NoSwitch, OneSwitch, Cases, NoCase, OneCase, CaseView}
use Rattle.rtl_ir.specs.Build.{Building, Build, building_of, integer_param, pin_of, new_driver, new_link}

-- a bit of a wire before another, by wire and place
abbrev pub comes_before : WireBit → WireBit → Bool
comes_before a b = nat_lt a.wire b.wire || ((a.wire == b.wire) && nat_lt a.at b.at)

-- a bit before the first one that does not come before it
abbrev pub place_bit : WireBit → List WireBit → List WireBit
place_bit b [] = b ∷ []
place_bit b (c ∷ bits) = if comes_before b c then b ∷ c ∷ bits else c ∷ place_bit b bits

-- bits in order of wire and place
abbrev pub in_bit_order : List WireBit → List WireBit
in_bit_order [] = []
in_bit_order (b ∷ bits) = place_bit b (in_bit_order bits)

-- a line names a bit on its left
abbrev pub names_bit : WireBit → Link → Bool
names_bit b l = list_any (λ (j : Join). same_bit j.bit b) (joins l.left l.right)

-- the same of these lines name two bits
abbrev pub same_lines : List Link → WireBit → WireBit → Bool
same_lines lines a b =
    list_all (λ (l : Link). if names_bit a l then names_bit b l else not (names_bit b l)) lines

-- a bit follows another in one run: the next place of the wire, named by the same lines
abbrev pub goes_on : List Link → WireBit → WireBit → Bool
goes_on lines a b = (a.wire == b.wire) && (((a.at + 1) == b.at) && same_lines lines a b)

-- bits in order as runs, behind a run that has begun and has this length; a run has at most 4,096 bits
abbrev pub runs_behind : List Link → List WireBit → WireBit → ℕ → List WireBit → List (List WireBit)
runs_behind lines run last count [] = run ∷ []
runs_behind lines run last count (b ∷ bits) =
    if goes_on lines last b && nat_lt count 4096
    then runs_behind lines (run ++ b ∷ []) b (count + 1) bits
    else run ∷ runs_behind lines (b ∷ []) b 1 bits

-- the runs of bits in order
abbrev pub runs_of : List Link → List WireBit → List (List WireBit)
runs_of lines [] = []
runs_of lines (b ∷ bits) = runs_behind lines (b ∷ []) b 1 bits

-- the runs of the tree bits of a process whose switches are read by the rules
abbrev pub tree_runs : CaseView → List (List WireBit)
tree_runs root = runs_of (case_assigns root) (in_bit_order (tree_bits root))

-- what the last assign of a run gives it, place by place, where one of these lines names it, else what it had
abbrev pub run_value : List Link → List WireBit → List SigBit → List SigBit
run_value assigns [] prior = []
run_value assigns (b ∷ run) [] = []
run_value assigns (b ∷ run) (s ∷ prior) = option_map_or (λ t. t) (assigned assigns b) s ∷ run_value assigns run prior

-- one of these lines names a bit of the run
abbrev pub assigns_run : List Link → List WireBit → Bool
assigns_run lines run = list_any (λ b. list_any (names_bit b) lines) run

-- a match that is made: the case, by its places among the switches and cases above it, and the bit
pub record Made : Type 0 where
  pub case_at : List ℕ
  pub bit : SigBit

-- what is built, and the matches that are made
pub record Trees : Type 0 where
  pub building : Building
  pub made : List Made

-- the same places
abbrev pub same_case : List ℕ → List ℕ → Bool
same_case a b = pointwise (λ x y. x == y) a b

-- the match of a case, where it is made
abbrev pub made_match : List Made → List ℕ → Option SigBit
made_match [] at = None
made_match (m ∷ made) at = if same_case m.case_at at then Some m.bit else made_match made at

-- a place of a pattern is asked: it is no unknown constant
abbrev pub is_asked : SigBit × SigBit → Bool
is_asked (Fixed p, s) = is_known p
is_asked (OnWire b, s) = true

-- the places of a pattern and of a signal that are asked
abbrev pub asked_places : List SigBit → List SigBit → List (SigBit × SigBit)
asked_places pattern signal = filter is_asked (zip pattern signal)

-- the lowest bit of a signal
abbrev pub lowest : List SigBit → SigBit
lowest [] = Fixed X
lowest (s ∷ signal) = s

-- a one-bit `$eq` of the places that are asked, A from the signal and B from the pattern
abbrev pub equal_cell : List (SigBit × SigBit) → Build SigBit
equal_cell places b =
    let made =
    new_driver (codes "$eq")
    (integer_param (codes "\\A_SIGNED") 0 ∷ integer_param (codes "\\A_WIDTH") (length places) ∷ integer_param (codes "\\B_SIGNED") 0 ∷ integer_param (codes "\\B_WIDTH") (length places) ∷ integer_param (codes "\\Y_WIDTH") 1 ∷ [])
    (pin_of (codes "\\A") (map (λ (q : SigBit × SigBit). q.1) places) ∷ pin_of (codes "\\B") (map (λ (q : SigBit × SigBit). q.0) places) ∷ [])
    (codes "\\Y") 1 b in
    (lowest made.0, made.1)

-- what a pattern gives: 1 where no place is asked, the signal's bit where one is and is 1, else an `$eq`
abbrev pub pattern_bit : List (SigBit × SigBit) → Build SigBit
pattern_bit [] b = (Fixed S1, b)
pattern_bit ((Fixed S1, s) ∷ []) b = (s, b)
pattern_bit places b = equal_cell places b

-- what patterns give, in order
abbrev pub pattern_bits : List SigBit → List (List SigBit) → Build (List SigBit)
pattern_bits signal [] b = ([], b)
pattern_bits signal (p ∷ patterns) b =
    let first = pattern_bit (asked_places p signal) b in
    let rest = pattern_bits signal patterns first.1 in
    (first.0 ∷ rest.0, rest.1)

-- the values of several patterns joined by `$reduce_or`, the first as bit 0
abbrev pub joined_bits : List SigBit → Build SigBit
joined_bits (s ∷ []) b = (s, b)
joined_bits bits b =
    let made =
    new_driver (codes "$reduce_or")
    (integer_param (codes "\\A_SIGNED") 0 ∷ integer_param (codes "\\A_WIDTH") (length bits) ∷ integer_param (codes "\\Y_WIDTH") 1 ∷ [])
    (pin_of (codes "\\A") bits ∷ []) (codes "\\Y") 1 b in
    (lowest made.0, made.1)

-- the match of the case at these places: made once, by its patterns
abbrev pub match_bit : List ℕ → List SigBit → List (List SigBit) → Trees → SigBit × Trees
match_bit at signal patterns t =
    option_map_or (λ s. (s, t))
    (made_match t.made at)
    (let bits = pattern_bits signal patterns t.building in
    let joined = joined_bits bits.0 bits.1 in
    (joined.0, record { building = joined.1; made = t.made ++ record { case_at = at; bit = joined.0 } ∷ [] }))

-- a `$mux` of two signals by a bit
abbrev pub mux_cell : List SigBit → List SigBit → SigBit → Build (List SigBit)
mux_cell a b s building =
    new_driver (codes "$mux") (integer_param (codes "\\WIDTH") (length a) ∷ [])
    (pin_of (codes "\\A") a ∷ pin_of (codes "\\B") b ∷ pin_of (codes "\\S") (s ∷ []) ∷ []) (codes "\\Y") (length a) building

-- a case that always matches: a default, or one whose only pattern asks nothing
abbrev pub is_default : List SigBit → List (List SigBit) → Bool
is_default signal [] = true
is_default signal (p ∷ []) = not (list_any is_asked (zip p signal))
is_default signal patterns = false

-- what a case makes of what stands for the cases behind it: its body where it is a default, else a multiplexer of the two
-- where they differ
abbrev pub with_case : List ℕ → List SigBit → List (List SigBit) → List SigBit → List SigBit → Trees → List SigBit × Trees
with_case at signal patterns body acc t =
    if is_default signal patterns
    then (body, t)
    else if same_signal body acc
    then (acc, t)
    else
    let m = match_bit at signal patterns t in
    let mux = mux_cell acc body m.0 m.1.building in
    (mux.0, record { building = mux.1; made = m.1.made })

abbrev mutual
  -- the switches from a number on, below these places, act in order on the value of a run
  pub switches_value : List WireBit → List ℕ → ℕ → Switches → List SigBit → Trees → List SigBit × Trees
  switches_value run above number NoSwitch prior t = (prior, t)
  switches_value run above number (OneSwitch signal attributes cases rest) prior t =
      let value =
      if assigns_run (cases_assigns cases) run
      then cases_value run (above ++ number ∷ []) 0 signal cases prior t
      else (prior, t) in
      switches_value run above (number + 1) rest value.0 value.1

  -- the cases of a switch from a number on, the last one first, over the value before the switch
  pub cases_value : List WireBit → List ℕ → ℕ → List SigBit → Cases → List SigBit → Trees → List SigBit × Trees
  cases_value run above number signal NoCase prior t = (prior, t)
  cases_value run above number signal (OneCase patterns assigns attributes switches rest) prior t =
      let acc = cases_value run above (number + 1) signal rest prior t in
      let body = switches_value run (above ++ number ∷ []) 0 switches (run_value assigns run prior) acc.1 in
      with_case (above ++ number ∷ []) signal patterns body.0 acc.0 body.1

-- a run is connected to what the root case makes of x
abbrev pub run_step : CaseView → List WireBit → Trees → Trees
run_step root run t =
    let start = run_value root.assigns run (map (λ b. Fixed X) run) in
    let value = switches_value run [] 0 root.switches start t in
    record { building = new_link (map OnWire run) value.0 value.1.building; made = value.1.made }

-- the runs in order
abbrev pub runs_step : CaseView → List (List WireBit) → Trees → Trees
runs_step root [] t = t
runs_step root (run ∷ runs) t = runs_step root runs (run_step root run t)

-- a process becomes multiplexers
abbrev pub process_step : Building → Process → Building
process_step b p = (runs_step p.root (tree_runs p.root) (record { building = b; made = [] })).building

-- processes, one after another
abbrev pub processes_step : Building → List Process → Building
processes_step b [] = b
processes_step b (p ∷ processes) = processes_step (process_step b p) processes

-- the module after the step; it has no process
abbrev pub proc_mux_of : Module → Module
proc_mux_of m = record (processes_step (building_of m) m.processes).body { processes = [] }
