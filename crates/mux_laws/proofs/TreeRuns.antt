-- Each tree bit stands in a run, and each run is short.
use Rattle.std.proofs.Common.{◌≡◌, ◌≤◌, ◌<◌, ℕ, ◌+◌, Bool, true, false, ◌&&◌, if◌then◌else◌, List, [], ◌∷◌, ◌++◌, length, inl, inr, ⊎_elim, refl, sym, ◌∙◌, ap, subst, arith, length-append, append_assoc}
use Rattle.std.specs.Prelude.{nat_lt}
use Rattle.std.proofs.lemmas.Bool.{and_parts, ltb-true}
use Rattle.rtl_ir.specs.Assigns.{case_assigns, tree_bits}
use Rattle.rtl_ir.specs.Tree.{CaseView}
use Rattle.rtl_ir.specs.declared.module.Link.{Link}
use Rattle.rtl_sig.specs.declared.sig.WireBit.{WireBit}
use Rattle.net_model.proofs.Members.{In-cases}
use Rattle.net_model.proofs.Ranges.{each_more, each_none}
use Rattle.net_model.specs.Lists.{In}
use Rattle.net_model.specs.Within.{Each}
use Rattle.net_model.specs.Proc.Mux.{comes_before, goes_on, in_bit_order, place_bit, runs_behind, runs_of, tree_runs}

-- a bit that is placed is there, and so are the others
placed_here : (b : WireBit) (bits : List WireBit) → In b (place_bit b bits)
placed_here b [] = inl refl
placed_here b (c ∷ bits) = by (comes_before b c) (placed_here b bits)
  where
    by : (t : Bool) → In b (place_bit b bits) → In b (if t then b ∷ c ∷ bits else c ∷ place_bit b bits)
    by true i = inl refl
    by false i = inr i

placed_other : (b x : WireBit) (bits : List WireBit) → In x bits → In x (place_bit b bits)
placed_other b x [] i = absurd i
placed_other b x (c ∷ bits) i = by (comes_before b c) (placed_other b x bits) i
  where
    by : (t : Bool) → (In x bits → In x (place_bit b bits)) → In x (c ∷ bits) → In x (if t then b ∷ c ∷ bits else c ∷ place_bit b bits)
    by true later j = inr j
    by false later (inl e) = inl e
    by false later (inr j) = inr (later j)

ordered_in : (x : WireBit) (bits : List WireBit) → In x bits → In x (in_bit_order bits)
ordered_in x [] i = absurd i
ordered_in x (b ∷ bits) (inl e) = subst (λ z. In z (place_bit b (in_bit_order bits))) (sym e) (placed_here b (in_bit_order bits))
ordered_in x (b ∷ bits) (inr i) = placed_other b x (in_bit_order bits) (ordered_in x bits i)

-- a run with a bit in it
pub record HasRun (runs : List (List WireBit)) (x : WireBit) : Type 0 where
  pub run : List WireBit
  pub there : In run runs
  pub bit : In x run

later_run : (run : List WireBit) (runs : List (List WireBit)) (x : WireBit) → HasRun runs x → HasRun (run ∷ runs) x
later_run run runs x h = record { run = h.run; there = inr h.there; bit = h.bit }

-- runs of at most 4,096 bits
abbrev pub AreShort : List (List WireBit) → Type 0
AreShort runs = Each (λ (run : List WireBit). length run ≤ 4096) runs

behind_has : (lines : List Link) (run : List WireBit) (last : WireBit) (count : ℕ) (bits : List WireBit) (x : WireBit) → In x (run ++ bits) → HasRun (runs_behind lines run last count bits) x
behind_has lines run last count [] x i =
    record { run = run; there = inl refl; bit = ⊎_elim (λ l. l) (λ r. absurd r) (In-cases x run [] i) }
behind_has lines run last count (b ∷ bits) x i =
    by (goes_on lines last b && nat_lt count 4096) (behind_has lines (run ++ b ∷ []) b (count + 1) bits x) (behind_has lines (b ∷ []) b 1 bits x)
  where
    by : (t : Bool) → (In x ((run ++ b ∷ []) ++ bits) → HasRun (runs_behind lines (run ++ b ∷ []) b (count + 1) bits) x) → (In x (b ∷ bits) → HasRun (runs_behind lines (b ∷ []) b 1 bits) x) → HasRun (if t then runs_behind lines (run ++ b ∷ []) b (count + 1) bits else run ∷ runs_behind lines (b ∷ []) b 1 bits) x
    by true on anew = on (subst (In x) (sym (append_assoc run (b ∷ []) bits)) i)
    by false on anew =
        ⊎_elim
        (λ l. record { run = run; there = inl refl; bit = l })
        (λ r. later_run run _ x (anew r))
        (In-cases x run (b ∷ bits) i)

runs_have : (lines : List Link) (bits : List WireBit) (x : WireBit) → In x bits → HasRun (runs_of lines bits) x
runs_have lines [] x i = absurd i
runs_have lines (b ∷ bits) x i = behind_has lines (b ∷ []) b 1 bits x i

behind_short : (lines : List Link) (run : List WireBit) (last : WireBit) (count : ℕ) (bits : List WireBit) → length run ≡ count → count ≤ 4096 → AreShort (runs_behind lines run last count bits)
behind_short lines run last count [] e few = each_more _ run [] (omega (arith, e, few)) (each_none _)
behind_short lines run last count (b ∷ bits) e few =
    by (goes_on lines last b && nat_lt count 4096) refl (behind_short lines (run ++ b ∷ []) b (count + 1) bits) (behind_short lines (b ∷ []) b 1 bits refl (omega arith))
  where
    by : (t : Bool) → (goes_on lines last b && nat_lt count 4096) ≡ t → (length (run ++ b ∷ []) ≡ count + 1 → count + 1 ≤ 4096 → AreShort (runs_behind lines (run ++ b ∷ []) b (count + 1) bits)) → AreShort (runs_behind lines (b ∷ []) b 1 bits) → AreShort (if t then runs_behind lines (run ++ b ∷ []) b (count + 1) bits else run ∷ runs_behind lines (b ∷ []) b 1 bits)
    by true t on anew =
        let less : count < 4096 = ltb-true count 4096 (and_parts (goes_on lines last b) (nat_lt count 4096) t).1 in
        let long : length (run ++ b ∷ []) ≡ count + 1 = length-append run (b ∷ []) ∙ ap (λ n. n + 1) e in
        on long (omega (arith, less))
    by false t on anew = each_more _ run _ (omega (arith, e, few)) anew

runs_short : (lines : List Link) (bits : List WireBit) → AreShort (runs_of lines bits)
runs_short lines [] = each_none _
runs_short lines (b ∷ bits) = behind_short lines (b ∷ []) b 1 bits refl (omega arith)

-- each tree bit of a process has a run, and the runs are short
pub tree_run : (root : CaseView) (x : WireBit) → In x (tree_bits root) → HasRun (tree_runs root) x
tree_run root x i = runs_have (case_assigns root) (in_bit_order (tree_bits root)) x (ordered_in x (tree_bits root) i)

pub tree_runs_short : (root : CaseView) → AreShort (tree_runs root)
tree_runs_short root = runs_short (case_assigns root) (in_bit_order (tree_bits root))
