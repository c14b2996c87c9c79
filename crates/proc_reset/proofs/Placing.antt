-- The places that a reset sets, one behind another.
use Rattle.std.proofs.Common.{◌≡◌, ℕ, ◌+◌, ◌<◌, ◌≤◌, min, Bool, true, false, cond, ◌&&◌, ◌||◌, List, [], ◌∷◌, ◌++◌, length, get_or, map, take, drop, Some, None, append_assoc, append-nil, refl, sym, ◌∙◌, ap}
use Rattle.std.specs.List.{list_all, list_any}
use Rattle.std.proofs.lemmas.List.Folds.{list_any-append}
use Rattle.rtl_bits.specs.declared.bit.Bit.{Bit}
use Rattle.rtl_sig.specs.declared.sig.SigBit.{SigBit}
use Rattle.rtl_sig.specs.declared.sig.SigBit.TheVariants.{Fixed, Wire as OnWire}
use Rattle.rtl_sig.specs.declared.sig.WireBit.{WireBit}
use Rattle.rtl_ir.specs.Faults.TwoEdges.{are_one_constant, is_value}
use Rattle.rtl_ir.specs.Follow.{joins}
use Rattle.rtl_ir.specs.declared.follow.Join.{Join}
use Rattle.rtl_ir.specs.Signals.{same_place}
use Rattle.rtl_ir.proofs.JoinPlaces.{place_added, places_all}
use Rattle.net_model.specs.Proc.Reset.{reset_places}
use Rattle.process_trees.specs.Leaves.{one_leaf}
use Rattle.proc_reset.specs.Places.{given_place, one_constant}

module _ (leaves : Join → List SigBit) where
  pub reset_more : (js ks : List Join) → reset_places leaves (js ++ ks) ≡ reset_places leaves js ++ reset_places leaves ks
  reset_more [] ks = refl
  reset_more (j ∷ js) ks = by (are_one_constant (leaves j)) (reset_more js ks)
    where
      own : List Join
      own = map (λ s. record { bit = j.bit; source = s }) (take 1 (leaves j))

      by : (t : Bool) → reset_places leaves (js ++ ks) ≡ reset_places leaves js ++ reset_places leaves ks
          → cond t (own ++ reset_places leaves (js ++ ks)) (reset_places leaves (js ++ ks)) ≡ cond t (own ++ reset_places leaves js) (reset_places leaves js) ++ reset_places leaves ks
      by true e = ap (λ rest. own ++ rest) e ∙ sym (append_assoc own (reset_places leaves js) (reset_places leaves ks))
      by false e = e

  -- the places so far, with the next one, and those that are left are all
  pub reset_next : (left right : List SigBit) (i : ℕ) (d : SigBit) → i < min (length left) (length right) → (done new all : List Join)
      → new ≡ done ++ reset_places leaves (joins (get_or left i d ∷ []) (get_or right i d ∷ [])) → done ++ reset_places leaves (joins (drop i left) (drop i right)) ≡ all
      → new ++ reset_places leaves (joins (drop (i + 1) left) (drop (i + 1) right)) ≡ all
  reset_next left right i d h done new all put so_far =
      let here = joins (get_or left i d ∷ []) (get_or right i d ∷ []) in
      let rest = joins (drop (i + 1) left) (drop (i + 1) right) in
      let parts : here ++ rest ≡ joins (drop i left) (drop i right) = place_added left right i d h [] here (joins (drop i left) (drop i right)) refl refl in
      ap (λ js. js ++ reset_places leaves rest) put
      ∙ append_assoc done (reset_places leaves here) (reset_places leaves rest)
      ∙ ap (λ js. done ++ js) (sym (reset_more here rest) ∙ ap (reset_places leaves) parts)
      ∙ so_far

  pub reset_all : (left right : List SigBit) (i : ℕ) → min (length left) (length right) ≤ i → (done all : List Join)
      → done ++ reset_places leaves (joins (drop i left) (drop i right)) ≡ all → done ≡ all
  reset_all left right i h done all so_far =
      let none : [] ≡ joins (drop i left) (drop i right) = places_all left right i h [] (joins (drop i left) (drop i right)) refl in
      sym (append-nil done) ∙ ap (λ js. done ++ reset_places leaves js) none ∙ so_far

-- the next place and those behind it
line_step : (f : Join → Bool) (left right : List SigBit) (i : ℕ) (d : SigBit) → i < min (length left) (length right) → (here all : Bool)
    → here ≡ list_any f (joins (get_or left i d ∷ []) (get_or right i d ∷ [])) → list_any f (joins (drop i left) (drop i right)) ≡ all
    → (here || list_any f (joins (drop (i + 1) left) (drop (i + 1) right))) ≡ all
line_step f left right i d h here all e inv =
    let one : List Join = joins (get_or left i d ∷ []) (get_or right i d ∷ []) in
    let rest : List Join = joins (drop (i + 1) left) (drop (i + 1) right) in
    ap (λ b. b || list_any f rest) e ∙ sym (list_any-append f one rest)
    ∙ ap (list_any f) (place_added left right i d h [] one (joins (drop i left) (drop i right)) refl refl) ∙ inv

-- a place that does not hold
pub holds_further : (f : Join → Bool) (left right : List SigBit) (i : ℕ) (d : SigBit) → i < min (length left) (length right) → (here all : Bool) → here ≡ false
    → here ≡ list_any f (joins (get_or left i d ∷ []) (get_or right i d ∷ [])) → list_any f (joins (drop i left) (drop i right)) ≡ all
    → list_any f (joins (drop (i + 1) left) (drop (i + 1) right)) ≡ all
holds_further f left right i d h here all t e inv =
    ap (λ b. b || list_any f (joins (drop (i + 1) left) (drop (i + 1) right))) (sym t) ∙ line_step f left right i d h here all e inv

-- a place that holds
pub holds_here : (f : Join → Bool) (left right : List SigBit) (i : ℕ) (d : SigBit) → i < min (length left) (length right) → (here all : Bool) → here ≡ true
    → here ≡ list_any f (joins (get_or left i d ∷ []) (get_or right i d ∷ [])) → list_any f (joins (drop i left) (drop i right)) ≡ all → true ≡ all
holds_here f left right i d h here all t e inv =
    ap (λ b. b || list_any f (joins (drop (i + 1) left) (drop (i + 1) right))) (sym t) ∙ line_step f left right i d h here all e inv

-- past the last place
pub none_holds : (f : Join → Bool) (left right : List SigBit) (i : ℕ) → min (length left) (length right) ≤ i → (all : Bool)
    → list_any f (joins (drop i left) (drop i right)) ≡ all → false ≡ all
none_holds f left right i h all e =
    let none : [] ≡ joins (drop i left) (drop i right) = places_all left right i h [] (joins (drop i left) (drop i right)) refl in
    ap (list_any f) none ∙ e

-- places that are one constant
same_values : (c : Bit) (leaves : List SigBit) → list_all (is_value c) leaves ≡ list_all (same_place (Fixed c)) leaves
same_values c [] = refl
same_values c (Fixed d ∷ leaves) = ap (λ t. is_value c (Fixed d) && t) (same_values c leaves)
same_values c (OnWire b ∷ leaves) = refl

-- a place by the one leaf of its value
given : (b : WireBit) (leaves : List SigBit) → cond (are_one_constant leaves) (map (λ s. record { bit = b; source = s }) (take 1 leaves) ++ []) [] ≡ given_place b (one_constant (one_leaf leaves))
given b [] = refl
given b (OnWire c ∷ leaves) = by (list_all (same_place (OnWire c)) leaves)
  where
    by : (t : Bool) → [] ≡ given_place b (one_constant (cond t (Some (OnWire c)) None))
    by true = refl
    by false = refl
given b (Fixed c ∷ leaves) = ap (λ t. cond t (record { bit = b; source = Fixed c } ∷ []) []) (same_values c leaves) ∙ by (list_all (same_place (Fixed c)) leaves)
  where
    by : (t : Bool) → cond t (record { bit = b; source = Fixed c } ∷ []) [] ≡ given_place b (one_constant (cond t (Some (Fixed c)) None))
    by true = refl
    by false = refl

pub place_given : (leaves : Join → List SigBit) (j : Join) → reset_places leaves (j ∷ []) ≡ given_place j.bit (one_constant (one_leaf (leaves j)))
place_given leaves j = given j.bit (leaves j)
