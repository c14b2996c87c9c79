-- What is noted of ways.
use Rattle.std.proofs.Common.{◌≡◌, zero, suc, Bool, true, false, cond, List, Option, Some, None, option_map, unwrap_or, refl, sym, ◌∙◌, ap, subst}
use Rattle.std.specs.Option.{option_or}
use Rattle.rtl_sig.specs.declared.sig.SigBit.{SigBit}
use Rattle.rtl_sig.specs.declared.sig.SigBit.TheVariants as sig
use Rattle.rtl_sig.specs.declared.sig.WireBit.{WireBit}
use Rattle.rtl_ir.specs.Follow.{end_within, source_at}
use Rattle.rtl_ir.specs.declared.follow.Join.{Join}
use Rattle.rtl_ir.specs.Signals.{same_bit}
use Rattle.net_index.specs.declared.index_table.BitTable.{BitTable}
use Rattle.net_index.specs.declared.index_ways.Way.{Way}
use Rattle.net_index.specs.declared.index_ways.Way.TheVariants.{To, End, Loop}
use Rattle.net_index.specs.IndexTable.{at_bit}
use Rattle.net_index.specs.IndexWays.{IsFound, IsWay, first_way, way_at, way_by}
use Rattle.net_index.proofs.IndexEnds.{ends_here, ends_not, ends_on}
use Rattle.net_index.proofs.IndexTables.{same_bit-true}

-- what is found of a bit is so of the next one
pub found_next : (js : List Join) (bit next : WireBit) (found : Way) → source_at js bit ≡ Some (sig.Wire next) → IsFound js bit found → IsFound js next found
found_next js bit next (To c) on h = h
found_next js bit next (End e) on (zero, h) = absurd (let f : end_within js 0 (sig.Wire bit) ≡ None = ends_not js (sig.Wire bit) (sig.Wire next) on in cc)
found_next js bit next (End e) on (suc n, h) = (n, sym (ends_on js n (sig.Wire bit) (sig.Wire next) on) ∙ h)
found_next js bit next Loop on h = λ n. sym (ends_on js n (sig.Wire bit) (sig.Wire next) on) ∙ h (suc n)

found_is_way : (js : List Join) (b : WireBit) (found : Way) → IsFound js b found → IsWay js b found
found_is_way js b (To c) h = absurd h
found_is_way js b (End e) h = h
found_is_way js b Loop h = h

-- all that is known is still so with what was found of one bit
pub ways_noted : (js : List Join) (old new : BitTable Way) (bit : WireBit) (found : Way) → IsFound js bit found
    → ((b : WireBit) → at_bit new b ≡ cond (same_bit bit b) (Some found) (at_bit old b)) → ((b : WireBit) → IsWay js b (way_at old b)) → (b : WireBit) → IsWay js b (way_at new b)
ways_noted js old new bit found is put ways b =
    subst (λ o. IsWay js b (unwrap_or o (End (sig.Wire b)))) (sym (put b)) (by (same_bit bit b) refl)
  where
    by : (t : Bool) → same_bit bit b ≡ t → IsWay js b (unwrap_or (cond t (Some found) (at_bit old b)) (End (sig.Wire b)))
    by true same = subst (λ c. IsWay js c found) (same_bit-true bit b same) (found_is_way js bit found is)
    by false same = ways b

-- the first connection of each bit is the first step of its way
pub ways_put : (js : List Join) (t : BitTable Way) (b : WireBit) → at_bit t b ≡ option_map way_by (source_at js b) → IsWay js b (way_at t b)
ways_put js t b e = subst (λ o. IsWay js b (unwrap_or o (End (sig.Wire b)))) (sym e) (by (source_at js b) refl)
  where
    by : (o : Option SigBit) → source_at js b ≡ o → IsWay js b (unwrap_or (option_map way_by o) (End (sig.Wire b)))
    by None none = (0, ends_here js 0 (sig.Wire b) none)
    by (Some (sig.Fixed c)) one = (1, ends_on js 0 (sig.Wire b) (sig.Fixed c) one ∙ ends_here js 0 (sig.Fixed c) refl)
    by (Some (sig.Wire next)) one = one

-- a table that had nothing has the first of these connections
pub first_alone : (table : BitTable Way) (js : List Join) (b : WireBit) → at_bit table b ≡ None → first_way table js b ≡ option_map way_by (source_at js b)
first_alone table js b e = ap (λ o. option_or o (option_map way_by (source_at js b))) e
