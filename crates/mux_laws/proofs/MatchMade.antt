-- A match that is made once is that of its case, and a case with it stands for the choice that it is.
use Rattle.std.proofs.Common.{◌≡◌, ◌≤◌, ◌<◌, ℕ, zero, suc, Bool, true, false, if◌then◌else◌, List, [], ◌∷◌, ◌++◌, length, Option, Some, None, ◌⊎◌, inl, inr, ⊎_elim, refl, sym, ◌∙◌, ap, subst, arith}
use Rattle.std.specs.Prelude.{codes, not, slice_get, zip}
use Rattle.std.specs.List.{list_any}
use Rattle.std.specs.Option.{option_map_or}
use Rattle.std.proofs.lemmas.Bool.Decides.{Decides-eqb}
use Rattle.std.proofs.lemmas.Slice.Eq.{slice_eq-Decides}
use Rattle.cell_types.specs.declared.word.WordKind.TheVariants.{Mux}
use Rattle.rtl_bits.proofs.Orders.{Below_trans}
use Rattle.rtl_bits.specs.Knowledge.{Below}
use Rattle.rtl_bits.specs.Tables.{or_of}
use Rattle.rtl_bits.specs.declared.bit.Bit.{Bit}
use Rattle.rtl_bits.specs.declared.bit.Bit.TheVariants.{S0, S1}
use Rattle.rtl_ir.specs.Build.{Building, made_name, pin_of, whole}
use Rattle.rtl_ir.specs.Signals.{same_signal}
use Rattle.rtl_sig.specs.declared.sig.SigBit.{SigBit}
use Rattle.rtl_sig.specs.declared.sig.WireBit.{WireBit}
use Rattle.net_model.specs.Picked.{chosen_of}
use Rattle.net_model.specs.Proc.Mux.{Made, Trees, is_asked, is_default, joined_bits, made_match, match_bit, mux_cell, pattern_bits, same_case, with_case}
use Rattle.mux_laws.proofs.MatchBits.{any_matched, case_stands, joined_grow, patterns_grow, unasked_matched}
use Rattle.build_laws.proofs.Growing.{Grows, grows_both, grows_driver, grows_none, met_before}
use Rattle.mux_laws.proofs.TreePlaces.{Asked}
use Rattle.build_laws.proofs.CellValues.{mux_gives}
use Rattle.build_laws.proofs.Moments.{AreMet, Moment, Stands, met_last, seen, stands_at, stands_long, stands_two, wire_stands}
use Rattle.build_laws.proofs.Orders.{chosen_both, chosen_mux}
use Rattle.rtl_ir.proofs.SamePlaces.{signal_is}

case_is : (a b : List ℕ) → same_case a b ≡ true → a ≡ b
case_is a b e = (slice_eq-Decides Decides-eqb a b (same_case a b) refl).0 e

-- a match that is found with one more is found without it, or is the new one
made_more : (made : List Made) (new : Made) (at : List ℕ) (s : SigBit) → made_match (made ++ new ∷ []) at ≡ Some s → (made_match made at ≡ Some s) ⊎ ((new.case_at ≡ at) × (new.bit ≡ s))
made_more [] new at s e = by (same_case new.case_at at) refl e
  where
    by : (t : Bool) → same_case new.case_at at ≡ t → (if t then Some new.bit else None) ≡ Some s → (made_match [] at ≡ Some s) ⊎ ((new.case_at ≡ at) × (new.bit ≡ s))
    by true f g = inr (case_is new.case_at at f, (let same : new.bit ≡ s = cc in same))
    by false f g = absurd (cc)
made_more (m ∷ made) new at s e = by (same_case m.case_at at) (made_more made new at s) e
  where
    by : (t : Bool) → (made_match (made ++ new ∷ []) at ≡ Some s → (made_match made at ≡ Some s) ⊎ ((new.case_at ≡ at) × (new.bit ≡ s))) → (if t then Some m.bit else made_match (made ++ new ∷ []) at) ≡ Some s → ((if t then Some m.bit else made_match made at) ≡ Some s) ⊎ ((new.case_at ≡ at) × (new.bit ≡ s))
    by true later f = inl f
    by false later f = later f

-- what is added for the match of a case that is not made yet
abbrev match_new : List ℕ → List SigBit → List (List SigBit) → Trees → SigBit × Trees
match_new at signal patterns t =
    let bits = pattern_bits signal patterns t.building in
    let joined = joined_bits bits.0 bits.1 in
    (joined.0, record { building = joined.1; made = t.made ++ record { case_at = at; bit = joined.0 } ∷ [] })

match_grows : (at : List ℕ) (signal : List SigBit) (patterns : List (List SigBit)) (t : Trees) → Grows t.building (match_bit at signal patterns t).1.building
match_grows at signal patterns t = by (made_match t.made at)
  where
    by : (o : Option SigBit) → Grows t.building (option_map_or (λ s. (s, t)) o (match_new at signal patterns t)).1.building
    by (Some s) = grows_none t.building
    by None =
        let bits = pattern_bits signal patterns t.building in
        grows_both t.building bits.1 _ (patterns_grow signal patterns t.building) (joined_grow bits.0 bits.1)

mux_grows : (a b : List SigBit) (s : SigBit) (b' : Building) → Grows b' (mux_cell a b s b').1
mux_grows a b s b' =
    grows_driver (codes "$mux") Mux refl _ (pin_of (codes "\\A") a ∷ pin_of (codes "\\B") b ∷ pin_of (codes "\\S") (s ∷ []) ∷ []) (codes "\\Y") (length a) b'

-- what a case makes, by whether it is a default and whether its body is what stands for the cases behind it
abbrev with_case_by : Bool → Bool → List ℕ → List SigBit → List (List SigBit) → List SigBit → List SigBit → Trees → List SigBit × Trees
with_case_by default same at signal patterns body acc t =
    if default
    then (body, t)
    else if same
    then (acc, t)
    else
    let m = match_bit at signal patterns t in
    let mux = mux_cell acc body m.0 m.1.building in
    (mux.0, record { building = mux.1; made = m.1.made })

pub with_case_grows : (at : List ℕ) (signal : List SigBit) (patterns : List (List SigBit)) (body acc : List SigBit) (t : Trees) → Grows t.building (with_case at signal patterns body acc t).1.building
with_case_grows at signal patterns body acc t = by (is_default signal patterns) (same_signal body acc)
  where
    by : (d e : Bool) → Grows t.building (with_case_by d e at signal patterns body acc t).1.building
    by true e = grows_none t.building
    by false true = grows_none t.building
    by false false =
        let m = match_bit at signal patterns t in
        grows_both t.building m.1.building _ (match_grows at signal patterns t) (mux_grows acc body m.0 m.1.building)

-- a place that is there is within the length
got_below : {A : Type 0} (xs : List A) (k : ℕ) (x : A) → slice_get xs k ≡ Some x → k < length xs
got_below [] k x e = absurd (cc)
got_below (y ∷ xs) zero x e = omega arith
got_below (y ∷ xs) (suc k) x e = omega (arith, got_below xs k x e)

module _ (m : Moment) (find : List ℕ → Option Asked) where
  -- each match that is made has no less than what the patterns of its case give
  abbrev pub MadeStand : List Made → Type 0
  MadeStand made =
      (at : List ℕ) (s : SigBit) (asked : Asked) → made_match made at ≡ Some s → find at ≡ Some asked → Below (any_matched m asked.signal asked.patterns) (seen m s)

  pub none_made : MadeStand []
  none_made at s asked e f = absurd (cc)

  match_stands : (at : List ℕ) (signal : List SigBit) (patterns : List (List SigBit)) (t : Trees) → find at ≡ Some (record { signal = signal; patterns = patterns }) → AreMet m (match_bit at signal patterns t).1.building.body.cells → MadeStand t.made
      → Below (any_matched m signal patterns) (seen m (match_bit at signal patterns t).0) × MadeStand (match_bit at signal patterns t).1.made
  match_stands at signal patterns t found met made = by (made_match t.made at) refl met
    where
      by : (o : Option SigBit) → made_match t.made at ≡ o → AreMet m (option_map_or (λ s. (s, t)) o (match_new at signal patterns t)).1.building.body.cells
          → Below (any_matched m signal patterns) (seen m (option_map_or (λ s. (s, t)) o (match_new at signal patterns t)).0) × MadeStand (option_map_or (λ s. (s, t)) o (match_new at signal patterns t)).1.made
      by (Some s) e met' = (made at s (record { signal = signal; patterns = patterns }) e found, made)
      by None e met' =
          let low = case_stands m signal patterns t.building met' in (
            low,
            (λ at' s asked e' f. ⊎_elim
                (λ old. made at' s asked old f)
                (λ new.
                let same : Some (record { signal = signal; patterns = patterns }) ≡ Some asked = sym found ∙ ap find new.0 ∙ f in
                let asked_is : record { signal = signal; patterns = patterns } ≡ asked = cc in
                subst (λ z. Below (any_matched m z.signal z.patterns) (seen m s)) asked_is (subst (λ z. Below (any_matched m signal patterns) (seen m z)) new.1 low))
                (made_more t.made _ at' s e')),
          )

  -- a multiplexer of two signals that stand for a run
  mux_stands : (run : List WireBit) → length run ≤ 4096 → (acc body : List SigBit) (s : SigBit) (b : Building) (c : Bit) (g h : WireBit → Bit) → AreMet m (mux_cell acc body s b).1.body.cells → Below c (seen m s) → Stands m run body g → Stands m run acc h
      → Stands m run (mux_cell acc body s b).0 (λ bit. chosen_of c (g bit) (h bit))
  mux_stands run few acc body s b c g h met low x y =
      let long : length acc ≡ length run = stands_long m run acc h y in
      let short : length acc ≤ 4096 = omega (arith, long, few) in
      subst (λ n. Stands m run (whole (length b.body.wires) n) (λ bit. chosen_of c (g bit) (h bit))) (sym long)
      (wire_stands m (length b.body.wires) 0 run (λ bit. chosen_of c (g bit) (h bit)) (λ k bit e.
      let under : k < length acc = omega (arith, long, got_below run k bit e) in
      Below_trans _ _ _
      (chosen_mux c (g bit) (h bit) _ _ _ low (stands_at m run body g x k bit e) (stands_at m run acc h y k bit e))
      (mux_gives m (made_name b.next) acc body s (length b.body.wires) short (met_last m b.body.cells _ met) k under)))

  not_true : (t : Bool) → not t ≡ true → t ≡ false
  not_true true e = absurd (cc)
  not_true false e = refl

  -- a default that has patterns always matches
  default_matched : (signal p : List SigBit) (patterns : List (List SigBit)) → is_default signal (p ∷ patterns) ≡ true → any_matched m signal (p ∷ patterns) ≡ S1
  default_matched signal p [] e =
      ap (λ z. or_of z S0) (unasked_matched m p signal (not_true (list_any is_asked (zip p signal)) e))
  default_matched signal p (q ∷ patterns) e = absurd (cc)

  -- a case with patterns
  pub with_case_stands : (run : List WireBit) → length run ≤ 4096 → (at : List ℕ) (signal p : List SigBit) (patterns : List (List SigBit)) (body acc : List SigBit) (t : Trees) (g h : WireBit → Bit) → find at ≡ Some (record { signal = signal; patterns = p ∷ patterns })
      → AreMet m (with_case at signal (p ∷ patterns) body acc t).1.building.body.cells → MadeStand t.made → Stands m run body g → Stands m run acc h
      → Stands m run (with_case at signal (p ∷ patterns) body acc t).0 (λ b. chosen_of (any_matched m signal (p ∷ patterns)) (g b) (h b)) × MadeStand (with_case at signal (p ∷ patterns) body acc t).1.made
  with_case_stands run few at signal p patterns body acc t g h found met made x y =
      by (is_default signal (p ∷ patterns)) (same_signal body acc) refl refl met
    where
      by : (d e : Bool) → is_default signal (p ∷ patterns) ≡ d → same_signal body acc ≡ e
          → AreMet m (with_case_by d e at signal (p ∷ patterns) body acc t).1.building.body.cells
          → Stands m run (with_case_by d e at signal (p ∷ patterns) body acc t).0 (λ b. chosen_of (any_matched m signal (p ∷ patterns)) (g b) (h b))
          × MadeStand (with_case_by d e at signal (p ∷ patterns) body acc t).1.made
      by true e is same met' =
          (subst (λ z. Stands m run body (λ b. chosen_of z (g b) (h b))) (sym (default_matched signal p patterns is)) x, made)
      by false true is same met' =
          let equal : body ≡ acc = signal_is body acc same in
          (stands_two m run acc g h (λ b. chosen_of (any_matched m signal (p ∷ patterns)) (g b) (h b)) (λ b r. chosen_both (any_matched m signal (p ∷ patterns)) (g b) (h b) r) (subst (λ z. Stands m run z g) equal x) y, made)
      by false false is same met' =
          let n = match_bit at signal (p ∷ patterns) t in
          let before : AreMet m n.1.building.body.cells = met_before m n.1.building _ (mux_grows acc body n.0 n.1.building) met' in
          let match = match_stands at signal (p ∷ patterns) t found before made in
          (mux_stands run few acc body n.0 n.1.building (any_matched m signal (p ∷ patterns)) g h met' match.0 x y, match.1)
