-- What the assigns of the cases of a tree give each bit: a row, in the order of the numbers of the cases' nodes.
use Rattle.std.specs.Prelude.{◌≡◌, ℕ, ◌+◌, ◌-◌, ◌==◌, Bool, false, List, [], ◌∷◌, ◌++◌, length, take, map, if◌then◌else◌, slice_get, slice_index_or, Vec}
use Rattle.std.specs.HashMap.{HashMap, get_by}
use Rattle.std.specs.Option.{option_map_or}
use Rattle.std.specs.declared.alloc.Global.{Global}
use Rattle.std.specs.declared.hash.BuildHasherDefault.{BuildHasherDefault}
use Rattle.std.specs.declared.hash.FoldHasher.{FoldHasher}
use Rattle.rtl_bits.specs.declared.bit.Bit.TheVariants.{X}
use Rattle.rtl_sig.specs.declared.sig.SigBit.{SigBit}
use Rattle.rtl_sig.specs.declared.sig.SigBit.TheVariants.{Fixed}
use Rattle.rtl_sig.specs.declared.sig.WireBit.{WireBit}
use Rattle.rtl_ir.specs.declared.follow.Join.{Join}
use Rattle.rtl_ir.specs.Follow.{all_joins}
use Rattle.rtl_ir.specs.Signals.{same_bit}
use Rattle.rtl_ir.specs.Tree.{Switches, NoSwitch, OneSwitch, Cases, NoCase, OneCase, CaseView, SwitchView}
use Rattle.match_cells.specs.Numbers.{behind_case, behind_switch}
use Rattle.proc_mux.specs.declared.given.Given.{Given}
use Rattle.proc_mux.specs.declared.rows.Placed.{Placed}

-- what the case at a node gives
abbrev pub placed : ℕ → SigBit → Placed
placed n s = record { node = n; source = s }

-- the last in a row is what the case at this node gives
abbrev pub ends_at : ℕ → List Placed → Bool
ends_at n row = option_map_or (λ (p : Placed). p.node == n) (slice_get row (length row - 1)) false

-- a row with what one more assign of the case at a node gives: of one case the last assign counts
abbrev pub with_placed : ℕ → SigBit → List Placed → List Placed
with_placed n s row = (if ends_at n row then take (length row - 1) row else row) ++ placed n s ∷ []

-- a row with what places of assigns of the case at a node give the bit
abbrev pub joins_row : ℕ → WireBit → List Join → List Placed → List Placed
joins_row n b [] row = row
joins_row n b (j ∷ js) row = joins_row n b js (if same_bit j.bit b then with_placed n j.source row else row)

abbrev mutual
  -- a row with what the cases below these switches give the bit, the first of which has this number
  pub switches_row : ℕ → WireBit → Switches → List Placed → List Placed
  switches_row n b NoSwitch row = row
  switches_row n b (OneSwitch signal attributes cases rest) row =
      switches_row (behind_switch n cases) b rest (cases_row (n + 1) b cases row)

  -- the same of these cases and those below them
  pub cases_row : ℕ → WireBit → Cases → List Placed → List Placed
  cases_row n b NoCase row = row
  cases_row n b (OneCase patterns assigns attributes switches rest) row =
      cases_row (behind_case n switches) b rest (switches_row (n + 1) b switches (joins_row n b (all_joins assigns) row))

-- the same of a case and those below it
abbrev pub case_row : ℕ → WireBit → CaseView → List Placed → List Placed
case_row n b c row = switches_row (n + 1) b c.switches (joins_row n b (all_joins c.assigns) row)

-- the same of the cases of a switch
abbrev pub switch_row : ℕ → WireBit → SwitchView → List Placed → List Placed
switch_row n b s row = cases_row (n + 1) b s.cases row

-- rows of bits
abbrev pub Rows : Type 0
Rows = HashMap WireBit (Vec Placed Global) (BuildHasherDefault FoldHasher)

-- the row of a bit
abbrev pub row_at : Rows → WireBit → List Placed
row_at rows b = option_map_or (λ (v : Vec Placed Global). v.items) (get_by (same_bit b) rows) []

-- these are the rows of a tree
abbrev pub AreRows : Rows → CaseView → Type 0
AreRows rows root = (b : WireBit) → row_at rows b ≡ case_row 0 b root []

-- the source at a place of a row
abbrev pub source_at : List Placed → ℕ → SigBit
source_at row at = (slice_index_or row at (placed 0 (Fixed X))).source

-- what the rows of a run give it, where this is left of the row of its first bit from a place on
abbrev pub places_given : (WireBit → List Placed) → List WireBit → ℕ → List Placed → List Given
places_given rows run at [] = []
places_given rows run at (p ∷ row) =
    record { node = p.node; value = map (λ b. source_at (rows b) at) run } ∷ places_given rows run (at + 1) row

-- what its rows give a run, case after case
abbrev pub run_given : (WireBit → List Placed) → List WireBit → List Given
run_given rows [] = []
run_given rows (b ∷ run) = places_given rows (b ∷ run) 0 (rows b)

-- what the cases of a tree give a run, case after case
abbrev pub tree_given : CaseView → List WireBit → List Given
tree_given root run = run_given (λ b. case_row 0 b root []) run
