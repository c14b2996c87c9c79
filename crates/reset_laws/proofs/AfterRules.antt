-- The rules of a process once the reset's is a level.
use Rattle.std.proofs.Common.{◌≡◌, Bool, true, false, cond, ◌&&◌, List, [], ◌∷◌, ◌++◌, append_assoc, ◌⊎◌, inl, inr, refl, sym, ◌∙◌, ap, subst}
use Rattle.std.specs.Prelude.{flat_map, if◌then◌else◌, map, not, take}
use Rattle.rtl_sig.specs.declared.sig.SigBit.{SigBit}
use Rattle.rtl_sig.specs.declared.sig.SigBit.TheVariants.{Wire as OnWire}
use Rattle.rtl_sig.specs.declared.sig.WireBit.{WireBit}
use Rattle.rtl_ir.specs.Faults.TwoEdges.{EdgeBit, are_one_constant, edge_bit}
use Rattle.rtl_ir.specs.Follow.{all_joins, joins}
use Rattle.rtl_ir.specs.declared.follow.Join.{Join}
use Rattle.rtl_ir.specs.Rules.{acting_rules, has_line, is_init}
use Rattle.rtl_ir.specs.declared.module.Link.{Link}
use Rattle.rtl_ir.specs.declared.process.Event.{Event}
use Rattle.rtl_ir.specs.declared.process.Event.TheVariants.{Low, High, Posedge, Negedge, Edge, Global, Init, Always}
use Rattle.rtl_ir.specs.declared.process.SyncRule.{SyncRule}
use Rattle.net_model.proofs.Members.{In-mapped}
use Rattle.net_model.specs.Lists.{In}
use Rattle.net_model.specs.Proc.Reset.{is_edge_of, line_of_places, reset_places, reset_rule, with_reset}

-- an event at an edge gives no start values
edge_acts : (b : WireBit) (e : Event) → is_edge_of b (edge_bit e) ≡ true → is_init e ≡ false
edge_acts b (Low s) h = refl
edge_acts b (High s) h = refl
edge_acts b (Posedge s) h = refl
edge_acts b (Negedge s) h = refl
edge_acts b (Edge s) h = refl
edge_acts b Global h = refl
edge_acts b Always h = refl
edge_acts b Init h = absurd (cc)

module _ (bit : WireBit) (rule : SyncRule) (plain : is_init rule.event ≡ false) where
  -- what becomes of a rule that acts
  abbrev pub kept : SyncRule → List SyncRule
  kept r = if is_edge_of bit (edge_bit r.event) then (if has_line rule then rule ∷ [] else []) else r ∷ []

  abbrev acts : SyncRule → Bool
  acts r = has_line r && not (is_init r.event)

  abbrev changed : SyncRule → SyncRule
  changed r = if has_line r && is_edge_of bit (edge_bit r.event) then rule else r

  pub acting_after : (rules : List SyncRule) → acting_rules (with_reset bit rule rules) ≡ flat_map kept (acting_rules rules)
  acting_after [] = refl
  acting_after (r ∷ rules) =
      by (has_line r) refl (is_edge_of bit (edge_bit r.event)) refl (is_init r.event) refl (acting_after rules)
    where
      rest : List SyncRule
      rest = acting_rules (with_reset bit rule rules)

      later : List SyncRule
      later = flat_map kept (acting_rules rules)

      left : (s : SyncRule) → changed r ≡ s → (t : Bool) → acts s ≡ t → acting_rules (with_reset bit rule (r ∷ rules)) ≡ cond t (s ∷ rest) rest
      left s e t f = (λ i. cond (acts (e i)) (e i ∷ rest) rest) ∙ (λ i. cond (f i) (s ∷ rest) rest)

      right : (t : Bool) → acts r ≡ t → cond t (kept r ++ later) later ≡ flat_map kept (acting_rules (r ∷ rules))
      right true f = ap (λ t. flat_map kept (cond t (r ∷ acting_rules rules) (acting_rules rules))) (sym f)
      right false f = ap (λ t. flat_map kept (cond t (r ∷ acting_rules rules) (acting_rules rules))) (sym f)

      becomes : (t : Bool) → has_line r ≡ true → is_edge_of bit (edge_bit r.event) ≡ t → changed r ≡ (if t then rule else r)
      becomes t h e = λ i. if (h i && e i) then rule else r

      stays : has_line r ≡ false → changed r ≡ r
      stays h = ap (λ t. if (t && is_edge_of bit (edge_bit r.event)) then rule else r) h

      rule_acts : acts rule ≡ has_line rule
      rule_acts = ap (λ t. has_line rule && not t) plain ∙ always (has_line rule)
        where
          always : (t : Bool) → (t && true) ≡ t
          always true = refl
          always false = refl

      kept_edge : is_edge_of bit (edge_bit r.event) ≡ true → (if has_line rule then rule ∷ [] else []) ++ later ≡ kept r ++ later
      kept_edge e = ap (λ t. (if t then (if has_line rule then rule ∷ [] else []) else r ∷ []) ++ later) (sym e)

      kept_other : is_edge_of bit (edge_bit r.event) ≡ false → r ∷ later ≡ kept r ++ later
      kept_other e = ap (λ t. (if t then (if has_line rule then rule ∷ [] else []) else r ∷ []) ++ later) (sym e)

      one_or_none : (t : Bool) → cond t (rule ∷ rest) rest ≡ (if t then rule ∷ [] else []) ++ rest
      one_or_none true = refl
      one_or_none false = refl

      by : (h : Bool) → has_line r ≡ h → (e : Bool) → is_edge_of bit (edge_bit r.event) ≡ e → (i : Bool) → is_init r.event ≡ i → rest ≡ later → acting_rules (with_reset bit rule (r ∷ rules)) ≡ flat_map kept (acting_rules (r ∷ rules))
      by false h e f i g k =
          let none : acts r ≡ false = ap (λ t. t && not (is_init r.event)) h in
          left r (stays h) false none ∙ k ∙ right false none
      by true h true f i g k =
          let own : acts r ≡ true = (λ j. h j && not (edge_acts bit r.event f j)) in
          left rule (becomes true h f) (has_line rule) rule_acts
          ∙ one_or_none (has_line rule)
          ∙ ap (λ z. (if has_line rule then rule ∷ [] else []) ++ z) k
          ∙ kept_edge f
          ∙ right true own
      by true h false f true g k =
          let none : acts r ≡ false = (λ j. h j && not (g j)) in
          left r (becomes false h f) false none ∙ k ∙ right false none
      by true h false f false g k =
          let own : acts r ≡ true = (λ j. h j && not (g j)) in
          left r (becomes false h f) true own ∙ ap (λ z. r ∷ z) k ∙ kept_other f ∙ right true own

  -- each rule is one that was there, or the reset's
  pub rule_after : (rules : List SyncRule) (s : SyncRule) → In s (with_reset bit rule rules) → (s ≡ rule) ⊎ In s rules
  rule_after rules s i =
      let k = In-mapped changed s rules i in
      at (has_line k.0 && is_edge_of bit (edge_bit k.0.event)) k.0 k.1 k.2
    where
      at : (t : Bool) (r : SyncRule) → In r rules → s ≡ (if t then rule else r) → (s ≡ rule) ⊎ In s rules
      at true r j e = inl e
      at false r j e = inr (subst (λ z. In z rules) (sym e) j)

-- the reset's rule
module _ (leaves : Join → List SigBit) (reset : EdgeBit) (lines : List Link) where
  pub reset_plain : is_init (reset_rule leaves reset lines).event ≡ false
  reset_plain = by reset.level
    where
      by : (t : Bool) → is_init (if t then High (OnWire reset.bit ∷ []) else Low (OnWire reset.bit ∷ [])) ≡ false
      by true = refl
      by false = refl

-- the places of lines that were made of places are these
placed : (js : List Join) → joins (map (λ (k : Join). OnWire k.bit) js) (map (λ (k : Join). k.source) js) ≡ js
placed [] = refl
placed (j ∷ js) = ap (λ z. j ∷ z) (placed js)

nothing_behind : (js : List Join) → js ++ [] ≡ js
nothing_behind [] = refl
nothing_behind (j ∷ js) = ap (λ z. j ∷ z) (nothing_behind js)

one_line : (js : List Join) → all_joins (line_of_places js) ≡ js
one_line [] = refl
one_line (j ∷ js) = nothing_behind _ ∙ placed (j ∷ js)

joins_more : (ks ls : List Link) → all_joins (ks ++ ls) ≡ all_joins ks ++ all_joins ls
joins_more [] ls = refl
joins_more (k ∷ ks) ls =
    ap (λ z. joins k.left k.right ++ z) (joins_more ks ls) ∙ sym (append_assoc (joins k.left k.right) (all_joins ks) (all_joins ls))

pub places_more : (leaves : Join → List SigBit) (js ks : List Join) → reset_places leaves (js ++ ks) ≡ reset_places leaves js ++ reset_places leaves ks
places_more leaves [] ks = refl
places_more leaves (j ∷ js) ks = by (are_one_constant (leaves j)) (places_more leaves js ks)
  where
    here : List Join
    here = map (λ s. record { bit = j.bit; source = s }) (take 1 (leaves j))

    by : (t : Bool) → reset_places leaves (js ++ ks) ≡ reset_places leaves js ++ reset_places leaves ks → (if t then here ++ reset_places leaves (js ++ ks) else reset_places leaves (js ++ ks)) ≡ (if t then here ++ reset_places leaves js else reset_places leaves js) ++ reset_places leaves ks
    by true e = ap (λ z. here ++ z) e ∙ sym (append_assoc here (reset_places leaves js) (reset_places leaves ks))
    by false e = e

pub reset_joins : (leaves : Join → List SigBit) (reset : EdgeBit) (lines : List Link) → all_joins (reset_rule leaves reset lines).updates ≡ reset_places leaves (all_joins lines)
reset_joins leaves reset [] = refl
reset_joins leaves reset (l ∷ lines) =
    joins_more (line_of_places (reset_places leaves (joins l.left l.right))) (reset_rule leaves reset lines).updates
    ∙ (λ i. one_line (reset_places leaves (joins l.left l.right)) i ++ reset_joins leaves reset lines i)
    ∙ sym (places_more leaves (joins l.left l.right) (all_joins lines))
