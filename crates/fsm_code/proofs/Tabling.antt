-- The table of outputs by their old signals.
use Rattle.std.proofs.Common.{◌≡◌, ℕ, zero, suc, ◌+◌, ◌<◌, ◌≤◌, Bool, true, false, cond, List, [], ◌∷◌, ◌++◌, length, get_or, ltb, map, Option, Some, None, refl, sym, ◌∙◌, ap, arith}
use Rattle.std.proofs.lemmas.Bool.{ltb-true, ltb-false}
use Rattle.std.proofs.lemmas.List.{map-append, length-map}
use Rattle.std.specs.Prelude.{option_map, slice_get}
use Rattle.std.specs.Option.{option_or}
use Rattle.rtl_sig.specs.declared.sig.SigBit.{SigBit}
use Rattle.rtl_ir.specs.Signals.{same_signal}
use Rattle.net_model.specs.Fsm.Code.{Output as Pair, output_code}
use Rattle.fsm_code.specs.declared.outputs.Output.{Output}
use Rattle.fsm_code.specs.Outputs.{first_output, pair_of}

-- an output goes last
pub first_more : (outputs : List Pair) (o : Pair) (at : ℕ) (signal : List SigBit) → first_output (outputs ++ o ∷ []) at signal ≡ option_or (first_output outputs at signal) (cond (same_signal o.before signal) (Some (at + length outputs)) None)
first_more [] o at signal = let same : at ≡ at + 0 = omega arith in ap (λ k. cond (same_signal o.before signal) (Some k) None) same
first_more (p ∷ outputs) o at signal = by (first_more outputs o (at + 1) signal) (same_signal p.before signal)
  where
    by : first_output (outputs ++ o ∷ []) (at + 1) signal ≡ option_or (first_output outputs (at + 1) signal) (cond (same_signal o.before signal) (Some ((at + 1) + length outputs)) None) → (t : Bool) → cond t (Some at) (first_output (outputs ++ o ∷ []) (at + 1) signal) ≡ option_or (cond t (Some at) (first_output outputs (at + 1) signal)) (cond (same_signal o.before signal) (Some (at + length (p ∷ outputs))) None)
    by later true = refl
    by later false =
        let same : (at + 1) + length outputs ≡ at + length (p ∷ outputs) = omega arith in
        later ∙ ap (λ k. option_or (first_output outputs (at + 1) signal) (cond (same_signal o.before signal) (Some k) None)) same

-- the output at the first place
first_some : (outputs : List Pair) (at k : ℕ) (signal : List SigBit) → first_output outputs at signal ≡ Some k → (j : ℕ) × ((k ≡ at + j) × (option_map (λ (o : Pair). o.after) (slice_get outputs j) ≡ output_code outputs signal))
first_some [] at k signal e = absurd (cc)
first_some (o ∷ outputs) at k signal e = by (first_some outputs (at + 1) k signal) (same_signal o.before signal) refl e
  where
    by : (first_output outputs (at + 1) signal ≡ Some k → (j : ℕ) × ((k ≡ (at + 1) + j) × (option_map (λ (o : Pair). o.after) (slice_get outputs j) ≡ output_code outputs signal))) → (t : Bool) → same_signal o.before signal ≡ t → cond t (Some at) (first_output outputs (at + 1) signal) ≡ Some k → (j : ℕ) × ((k ≡ at + j) × (option_map (λ (o : Pair). o.after) (slice_get (o ∷ outputs) j) ≡ output_code (o ∷ outputs) signal))
    by go true f g =
        let same : at ≡ k = cc in
        (0, (omega (arith, same), ap (λ t. cond t (Some o.after) (output_code outputs signal)) (sym f)))
    by go false f g =
        let later = go g in
        let same : k ≡ at + suc later.0 = omega (arith, later.1.0) in
        (suc later.0, (same, later.1.1 ∙ ap (λ t. cond t (Some o.after) (output_code outputs signal)) (sym f)))

first_none : (outputs : List Pair) (at : ℕ) (signal : List SigBit) → first_output outputs at signal ≡ None → output_code outputs signal ≡ None
first_none [] at signal e = refl
first_none (o ∷ outputs) at signal e = by (first_none outputs (at + 1) signal) (same_signal o.before signal) refl e
  where
    by : (first_output outputs (at + 1) signal ≡ None → output_code outputs signal ≡ None) → (t : Bool) → same_signal o.before signal ≡ t → cond t (Some at) (first_output outputs (at + 1) signal) ≡ None → output_code (o ∷ outputs) signal ≡ None
    by go true f g = absurd (cc)
    by go false f g = ap (λ t. cond t (Some o.after) (output_code outputs signal)) f ∙ go g

after_at : (list : List Output) (k : ℕ) → option_map (λ (o : Pair). o.after) (slice_get (map pair_of list) k) ≡ option_map (λ (o : Output). o.after) (slice_get list k)
after_at [] k = refl
after_at (o ∷ list) zero = refl
after_at (o ∷ list) (suc k) = after_at list k

found_after : (list : List Output) (k : ℕ) (signal : List SigBit) → first_output (map pair_of list) 0 signal ≡ Some k → option_map (λ (o : Output). o.after) (slice_get list k) ≡ output_code (map pair_of list) signal
found_after list k signal e =
    let found = first_some (map pair_of list) 0 k signal e in
    let place : k ≡ found.0 = omega (arith, found.1.0) in
    ap (λ j. option_map (λ (o : Output). o.after) (slice_get list j)) place ∙ sym (after_at list found.0) ∙ found.1.1

get_some : (list : List Output) (k : ℕ) (o : Output) → k < length list → o ≡ get_or list k o → slice_get list k ≡ Some o
get_some [] k o inside is = absurd (omega (arith, inside))
get_some (x ∷ list) zero o inside is = ap Some (sym is)
get_some (x ∷ list) (suc k) o inside is = get_some list k o (omega (arith, inside)) is

get_none : (list : List Output) (k : ℕ) → length list ≤ k → slice_get list k ≡ None
get_none [] k past = refl
get_none (x ∷ list) zero past = absurd (omega (arith, past))
get_none (x ∷ list) (suc k) past = get_none list k (omega (arith, past))

-- the output at the place found
pub found_one : (list : List Output) (k : ℕ) (signal : List SigBit) (o : Output) → first_output (map pair_of list) 0 signal ≡ Some k → true ≡ ltb k (length list) → o ≡ get_or list k o → Some o.after ≡ output_code (map pair_of list) signal
found_one list k signal o e inside is = ap (option_map (λ (o : Output). o.after)) (sym (get_some list k o (ltb-true k (length list) (sym inside)) is)) ∙ found_after list k signal e

pub found_past : (list : List Output) (k : ℕ) (signal : List SigBit) → first_output (map pair_of list) 0 signal ≡ Some k → false ≡ ltb k (length list) → None ≡ output_code (map pair_of list) signal
found_past list k signal e past = ap (option_map (λ (o : Output). o.after)) (sym (get_none list k (ltb-false k (length list) (sym past)))) ∙ found_after list k signal e

pub none_after : (list : List Output) (signal : List SigBit) → first_output (map pair_of list) 0 signal ≡ None → None ≡ output_code (map pair_of list) signal
none_after list signal e = sym (first_none (map pair_of list) 0 signal e)

pub tabled_more : (list : List Output) (o : Output) (signal : List SigBit) (p : Option ℕ) → p ≡ first_output (map pair_of list) 0 signal
    → option_or p (cond (same_signal o.before signal) (Some (length list)) None) ≡ first_output (map pair_of (list ++ o ∷ [])) 0 signal
tabled_more list o signal p e =
    let count : length list ≡ 0 + length (map pair_of list) = omega (arith, length-map list pair_of) in
    (λ i. option_or (e i) (cond (same_signal o.before signal) (Some (count i)) None))
    ∙ sym (first_more (map pair_of list) (pair_of o) 0 signal)
    ∙ ap (λ ps. first_output ps 0 signal) (sym (map-append pair_of list (o ∷ [])))
