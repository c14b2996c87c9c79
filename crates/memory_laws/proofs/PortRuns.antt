-- Runs of equal enable bits: what stands behind a port has no less than what the port makes of each bit.
use Rattle.std.proofs.Common.{◌≡◌, ◌<◌, ◌≤◌, ℕ, zero, suc, ◌+◌, ◌-◌, Bool, true, false, List, [], ◌∷◌, ◌++◌, length, if◌then◌else◌, refl, sym, ◌∙◌, ap, subst, arith, length-append}
use Rattle.std.specs.Prelude.{drop, slice_index_or, take}
use Rattle.std.proofs.lemmas.List.{length-drop, length-take-le}
use Rattle.std.proofs.lemmas.Bool.{ltb-false, ltb-true}
use Rattle.std.specs.Prelude.{nat_lt}
use Rattle.cell_gate.specs.Control.{pick_of}
use Rattle.rtl_bits.proofs.Orders.{Below_refl, Below_trans}
use Rattle.rtl_bits.proofs.Tables.{mux_of_mono}
use Rattle.rtl_bits.specs.Knowledge.{Below}
use Rattle.rtl_bits.specs.Tables.{and_of, mux_of}
use Rattle.rtl_bits.specs.declared.bit.Bit.{Bit}
use Rattle.rtl_bits.specs.declared.bit.Bit.TheVariants.{X}
use Rattle.rtl_sig.specs.declared.sig.SigBit.{SigBit}
use Rattle.rtl_sig.specs.declared.sig.SigBit.TheVariants.{Fixed}
use Rattle.rtl_ir.specs.Build.{Building}
use Rattle.rtl_ir.specs.Signals.{same_place}
use Rattle.net_model.specs.Mem.Expand.{low_bit, mux_of_signals, port_runs, run_length, run_lengths, run_select}
use Rattle.build_laws.proofs.Growing.{Grows, grows_both, grows_none, met_before}
use Rattle.build_laws.proofs.Moments.{AreMet, Moment, seen}
use Rattle.memory_laws.proofs.PortCells.{at, at_drop, at_get, at_left, at_right, at_take, mux_at, mux_grows, select_grows, select_stands, whole_long}
use Rattle.rtl_ir.proofs.SamePlaces.{place_is}

-- runs of equal bits that fill a signal
abbrev pub AreRuns : List ℕ → List SigBit → Type 0
AreRuns [] enable = length enable ≡ 0
AreRuns (n ∷ runs) enable =
    (n ≤ length enable)
    × ((k : ℕ) → k < n → slice_index_or enable k (Fixed X) ≡ low_bit enable)
    × AreRuns runs (drop n enable)

pub run_length_long : (e : SigBit) (enable : List SigBit) → run_length e enable ≤ length enable
run_length_long e [] = omega arith
run_length_long e (f ∷ enable) = by (same_place e f) (run_length_long e enable)
  where
    by : (t : Bool) → run_length e enable ≤ length enable → (if t then suc (run_length e enable) else 0) ≤ suc (length enable)
    by true h = omega (arith, h)
    by false h = omega arith

run_length_same : (e : SigBit) (enable : List SigBit) (k : ℕ) → k < run_length e enable → slice_index_or enable k (Fixed X) ≡ e
run_length_same e [] k lt = absurd (omega (arith, lt))
run_length_same e (f ∷ enable) k lt = by (same_place e f) refl lt (run_length_same e enable)
  where
    at_place : (k : ℕ) → same_place e f ≡ true → k < suc (run_length e enable) → ((j : ℕ) → j < run_length e enable → slice_index_or enable j (Fixed X) ≡ e) → slice_index_or (f ∷ enable) k (Fixed X) ≡ e
    at_place zero is lt' h = sym (place_is e f is)
    at_place (suc k) is lt' h = h k (omega (arith, lt'))

    by : (t : Bool) → same_place e f ≡ t → k < (if t then suc (run_length e enable) else 0) → ((j : ℕ) → j < run_length e enable → slice_index_or enable j (Fixed X) ≡ e) → slice_index_or (f ∷ enable) k (Fixed X) ≡ e
    by true is lt' h = at_place k is lt' h
    by false is lt' h = absurd (omega (arith, lt'))

pub runs_are : (fuel : ℕ) (enable : List SigBit) → length enable ≤ fuel → AreRuns (run_lengths fuel enable) enable
runs_are zero enable few = omega (arith, few)
runs_are (suc n) [] few = refl
runs_are (suc n) (e ∷ enable) few =
    let long = run_length_long e enable in
    let left : length (drop (run_length e enable) enable) ≤ n = omega (arith, few, length-drop (run_length e enable) enable) in
    (omega (arith, long), same, runs_are n (drop (run_length e enable) enable) left)
  where
    same : (k : ℕ) → k < suc (run_length e enable) → slice_index_or (e ∷ enable) k (Fixed X) ≡ e
    same zero lt = refl
    same (suc k) lt = run_length_same e enable k (omega (arith, lt))

pub runs_grow : (match : SigBit) (runs : List ℕ) (acc new enable : List SigBit) (b : Building) → Grows b (port_runs match runs acc new enable b).1
runs_grow match [] acc new enable b = grows_none b
runs_grow match (n ∷ runs) acc new enable b =
    let select = run_select match (low_bit enable) b in
    let mux = mux_of_signals (take n acc) (take n new) select.0 select.1 in
    grows_both b select.1 _ (select_grows match (low_bit enable) b)
    (grows_both select.1 mux.1 _ (mux_grows (take n acc) (take n new) select.0 select.1) (runs_grow match runs (drop n acc) (drop n new) (drop n enable) mux.1))

pub runs_long : (match : SigBit) (runs : List ℕ) (acc new enable : List SigBit) (b : Building) → AreRuns runs enable → length acc ≡ length enable → length (port_runs match runs acc new enable b).0 ≡ length acc
runs_long match [] acc new enable b are la = sym (la ∙ are)
runs_long match (n ∷ runs) acc new enable b are la =
    let select = run_select match (low_bit enable) b in
    let mux = mux_of_signals (take n acc) (take n new) select.0 select.1 in
    let rest = port_runs match runs (drop n acc) (drop n new) (drop n enable) mux.1 in
    let under : n ≤ length acc = omega (arith, are.0, la) in
    let here : length mux.0 ≡ n = whole_long (length select.1.body.wires) (length (take n acc)) ∙ length-take-le n acc under in
    let left : length (drop n acc) ≡ length (drop n enable) = omega (arith, length-drop n acc, length-drop n enable, la) in
    let later : length rest.0 ≡ length (drop n acc) = runs_long match runs (drop n acc) (drop n new) (drop n enable) mux.1 are.2 left in
    length-append mux.0 rest.0 ∙ omega (arith, here, later, length-drop n acc, under)

module _ (m : Moment) (match : SigBit) (c : Bit) (low : Below c (seen m match)) where
  -- what the port makes of a bit, over what it was
  abbrev made : List SigBit → List SigBit → (ℕ → Bit) → ℕ → Bit
  made new enable g k = pick_of (and_of (at m enable k) c) (at m new k) (g k)

  module _ (n : ℕ) (runs : List ℕ) (acc new enable : List SigBit) (b : Building) (g : ℕ → Bit) (are : AreRuns (n ∷ runs) enable) (la : length acc ≡ length enable) (few : length acc ≤ 65536) (h : (k : ℕ) → k < length acc → Below (g k) (at m acc k)) where
    abbrev select : SigBit × Building
    select = run_select match (low_bit enable) b

    abbrev mux : List SigBit × Building
    mux = mux_of_signals (take n acc) (take n new) select.0 select.1

    abbrev rest : List SigBit × Building
    rest = port_runs match runs (drop n acc) (drop n new) (drop n enable) mux.1

    under : n ≤ length acc
    under = omega (arith, are.0, la)

    taken : length (take n acc) ≡ n
    taken = length-take-le n acc under

    here : length mux.0 ≡ n
    here = whole_long (length select.1.body.wires) (length (take n acc)) ∙ taken

    module _ (met : AreMet m rest.1.body.cells) where
      met_mux : AreMet m mux.1.body.cells
      met_mux = met_before m mux.1 rest.1 (runs_grow match runs (drop n acc) (drop n new) (drop n enable) mux.1) met

      met_select : AreMet m select.1.body.cells
      met_select = met_before m select.1 mux.1 (mux_grows (take n acc) (take n new) select.0 select.1) met_mux

      near : (k : ℕ) → k < n → Below (made new enable g k) (at m (mux.0 ++ rest.0) k)
      near k small =
          let few' : length (take n acc) ≤ 65536 = omega (arith, taken, under, few) in
          let small' : k < length (take n acc) = omega (arith, taken, small) in
          let among : k < length mux.0 = omega (arith, here, small) in
          let inside : k < length acc = omega (arith, under, small) in
          let old : Below (g k) (at m (take n acc) k) = subst (Below (g k)) (sym (at_take m n acc k small)) (h k inside) in
          let new' : Below (at m new k) (at m (take n new) k) = subst (Below (at m new k)) (sym (at_take m n new k small)) (Below_refl (at m new k)) in
          let first : at m enable k ≡ seen m (low_bit enable) = at_get m enable k ∙ ap (seen m) (are.1 k small) in
          let chosen : Below (and_of (at m enable k) c) (seen m select.0) = subst (λ z. Below (and_of z c) (seen m select.0)) (sym first) (select_stands m match (low_bit enable) c b low met_select) in
          subst (Below (made new enable g k)) (sym (at_left m mux.0 rest.0 k among))
          (Below_trans (made new enable g k) (mux_of (at m (take n acc) k) (at m (take n new) k) (seen m select.0)) (at m mux.0 k)
          (mux_of_mono (g k) (at m (take n acc) k) (at m new k) (at m (take n new) k) (and_of (at m enable k) c) (seen m select.0) old new' chosen)
          (mux_at m (take n acc) (take n new) select.0 select.1 k few' small' met_mux))

      far : (k j : ℕ) → k ≡ n + j → Below (made (drop n new) (drop n enable) (λ i. g (n + i)) j) (at m rest.0 j) → Below (made new enable g k) (at m (mux.0 ++ rest.0) k)
      far k j is later =
          let place : length mux.0 + j ≡ k = omega (arith, here, is) in
          let there : at m (mux.0 ++ rest.0) k ≡ at m rest.0 j = ap (at m (mux.0 ++ rest.0)) (sym place) ∙ at_right m mux.0 rest.0 j in
          let e : at m (drop n enable) j ≡ at m enable k = at_drop m n enable j ∙ ap (at m enable) (sym is) in
          let d : at m (drop n new) j ≡ at m new k = at_drop m n new j ∙ ap (at m new) (sym is) in
          let f : g (n + j) ≡ g k = ap g (sym is) in
          subst (λ z. z) (λ i. Below (pick_of (and_of (e i) c) (d i) (f i)) (sym there i)) later

  -- what stands behind a port
  pub runs_stand : (runs : List ℕ) (acc new enable : List SigBit) (b : Building) (g : ℕ → Bit) → AreRuns runs enable → length acc ≡ length enable → length acc ≤ 65536 → ((k : ℕ) → k < length acc → Below (g k) (at m acc k)) → AreMet m (port_runs match runs acc new enable b).1.body.cells
      → (k : ℕ) → k < length acc → Below (made new enable g k) (at m (port_runs match runs acc new enable b).0 k)
  runs_stand [] acc new enable b g are la few h met k lt = absurd (omega (arith, lt, la, are))
  runs_stand (n ∷ runs) acc new enable b g are la few h met k lt =
      let left : length (drop n acc) ≡ length (drop n enable) = omega (arith, length-drop n acc, length-drop n enable, la) in
      let few' : length (drop n acc) ≤ 65536 = omega (arith, length-drop n acc, few) in
      let later = runs_stand runs (drop n acc) (drop n new) (drop n enable) (mux n runs acc new enable b g are la few h).1 (λ i. g (n + i)) are.2 left few'
      (λ i lt'. let inside : n + i < length acc = omega (arith, length-drop n acc, lt') in subst (Below (g (n + i))) (sym (at_drop m n acc i)) (h (n + i) inside)) met in
      by later (nat_lt k n) refl
    where
      by : ((j : ℕ) → j < length (drop n acc) → Below (made (drop n new) (drop n enable) (λ i. g (n + i)) j) (at m (rest n runs acc new enable b g are la few h).0 j)) → (t : Bool) → nat_lt k n ≡ t → Below (made new enable g k) (at m (port_runs match (n ∷ runs) acc new enable b).0 k)
      by later true is = near n runs acc new enable b g are la few h met k (ltb-true k n is)
      by later false is =
          let over : n ≤ k = ltb-false k n is in
          let at_far : k ≡ n + (k - n) = omega (arith, over) in
          let small : k - n < length (drop n acc) = omega (arith, length-drop n acc, lt, over) in
          far n runs acc new enable b g are la few h met k (k - n) at_far (later (k - n) small)
