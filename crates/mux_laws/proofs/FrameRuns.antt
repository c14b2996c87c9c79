-- The runs of a process are its tree bits in another order, cut into pieces of at most 4,096 bits.
use Rattle.std.proofs.Common.{◌≡◌, ◌≤◌, ◌<◌, ℕ, ◌+◌, Bool, true, false, List, [], ◌∷◌, ◌++◌, length, inl, inr, refl, ◌∙◌, ap, subst, append_assoc, arith, length-append}
use Rattle.std.specs.Prelude.{◌&&◌, flat_map, if◌then◌else◌, nat_lt}
use Rattle.std.proofs.lemmas.Bool.{and_parts, ltb-true}
use Rattle.rtl_sig.specs.declared.sig.WireBit.{WireBit}
use Rattle.rtl_ir.specs.Assigns.{case_assigns, tree_bits}
use Rattle.rtl_ir.specs.Tree.{CaseView}
use Rattle.rtl_ir.specs.declared.module.Link.{Link}
use Rattle.net_model.proofs.Members.{In-left, In-right}
use Rattle.net_model.proofs.Ranges.{each_more, each_none}
use Rattle.net_model.specs.Lists.{In}
use Rattle.net_model.specs.Proc.Mux.{comes_before, goes_on, in_bit_order, place_bit, runs_behind, runs_of, tree_runs}
use Rattle.net_model.specs.Within.{Each}
use Rattle.pass_laws.proofs.Counting.{count}
use Rattle.build_laws.proofs.CountingBits.{among, among_in}

-- a run has a bit, and at most 4,096
abbrev pub IsRun : List WireBit → Type 0
IsRun run = (0 < length run) × (length run ≤ 4096)

-- runs behind one another
abbrev pub together : List (List WireBit) → List WireBit
together runs = flat_map (λ run. run) runs

behind_are : (lines : List Link) (run : List WireBit) (last : WireBit) (n : ℕ) (bits : List WireBit) → together (runs_behind lines run last n bits) ≡ run ++ bits
behind_are lines run last n [] = refl
behind_are lines run last n (b ∷ bits) =
    by (goes_on lines last b && nat_lt n 4096) (behind_are lines (run ++ b ∷ []) b (n + 1) bits) (behind_are lines (b ∷ []) b 1 bits)
  where
    by : (t : Bool) → together (runs_behind lines (run ++ b ∷ []) b (n + 1) bits) ≡ (run ++ b ∷ []) ++ bits → together (runs_behind lines (b ∷ []) b 1 bits) ≡ b ∷ bits → together (if t then runs_behind lines (run ++ b ∷ []) b (n + 1) bits else run ∷ runs_behind lines (b ∷ []) b 1 bits) ≡ run ++ b ∷ bits
    by true e f = e ∙ append_assoc run (b ∷ []) bits
    by false e f = ap (λ z. run ++ z) f

behind_fit : (lines : List Link) (run : List WireBit) (last : WireBit) (n : ℕ) (bits : List WireBit) → length run ≡ n → 0 < n → n ≤ 4096 → Each IsRun (runs_behind lines run last n bits)
behind_fit lines run last n [] e some few = each_more IsRun run [] (omega (arith, e, some), omega (arith, e, few)) (each_none IsRun)
behind_fit lines run last n (b ∷ bits) e some few =
    by (goes_on lines last b && nat_lt n 4096) refl (λ room. behind_fit lines (run ++ b ∷ []) b (n + 1) bits (omega (arith, e, length-append run (b ∷ []))) (omega arith) room) (behind_fit lines (b ∷ []) b 1 bits refl (omega arith) (omega arith))
  where
    by : (t : Bool) → (goes_on lines last b && nat_lt n 4096) ≡ t → (n + 1 ≤ 4096 → Each IsRun (runs_behind lines (run ++ b ∷ []) b (n + 1) bits)) → Each IsRun (runs_behind lines (b ∷ []) b 1 bits) → Each IsRun (if t then runs_behind lines (run ++ b ∷ []) b (n + 1) bits else run ∷ runs_behind lines (b ∷ []) b 1 bits)
    by true f longer cut =
        let room : n < 4096 = ltb-true n 4096 (and_parts (goes_on lines last b) (nat_lt n 4096) f).1 in
        longer (omega (arith, room))
    by false f longer cut = each_more IsRun run _ (omega (arith, e, some), omega (arith, e, few)) cut

runs_are : (lines : List Link) (bits : List WireBit) → together (runs_of lines bits) ≡ bits
runs_are lines [] = refl
runs_are lines (b ∷ bits) = behind_are lines (b ∷ []) b 1 bits

runs_fit : (lines : List Link) (bits : List WireBit) → Each IsRun (runs_of lines bits)
runs_fit lines [] = each_none IsRun
runs_fit lines (b ∷ bits) = behind_fit lines (b ∷ []) b 1 bits refl (omega arith) (omega arith)

-- order does not matter to counts
placed_count : (x b : WireBit) (bits : List WireBit) → count x (place_bit b bits) ≡ count x (b ∷ bits)
placed_count x b [] = refl
placed_count x b (c ∷ bits) = by (comes_before b c) (placed_count x b bits)
  where
    by : (t : Bool) → count x (place_bit b bits) ≡ count x (b ∷ bits) → count x (if t then b ∷ c ∷ bits else c ∷ place_bit b bits) ≡ count x (b ∷ c ∷ bits)
    by true e = refl
    by false e = omega (arith, e)

order_count : (x : WireBit) (bits : List WireBit) → count x (in_bit_order bits) ≡ count x bits
order_count x [] = refl
order_count x (b ∷ bits) = omega (arith, placed_count x b (in_bit_order bits), order_count x bits)

module _ (root : CaseView) where
  pub tree_fit : Each IsRun (tree_runs root)
  tree_fit = runs_fit (case_assigns root) (in_bit_order (tree_bits root))

  -- together they have each tree bit as often as the process
  pub tree_count : (x : WireBit) → count x (together (tree_runs root)) ≡ count x (tree_bits root)
  tree_count x =
      ap (count x) (runs_are (case_assigns root) (in_bit_order (tree_bits root))) ∙ order_count x (tree_bits root)

  in_runs : (x : WireBit) (runs : List (List WireBit)) (run : List WireBit) → In run runs → In x run → In x (together runs)
  in_runs x [] run i j = absurd i
  in_runs x (r ∷ runs) run (inl e) j = In-left x r (together runs) (subst (In x) e j)
  in_runs x (r ∷ runs) run (inr i) j = In-right x r (together runs) (in_runs x runs run i j)

  -- and each of their bits is a tree bit
  pub run_in : (run : List WireBit) → In run (tree_runs root) → (x : WireBit) → In x run → In x (tree_bits root)
  run_in run i x j =
      among_in (together (tree_runs root)) (tree_bits root) (among (together (tree_runs root)) (tree_bits root) (λ b. omega (arith, tree_count b))) x (in_runs x (tree_runs root) run i j)
