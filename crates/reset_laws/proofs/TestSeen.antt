-- A bit that tests a reset has what the test gives, where the rows of connections and cells are solved.
use Rattle.std.proofs.Common.{◌≡◌, ℕ, zero, suc, Bool, true, false, cond, ◌||◌, List, [], ◌∷◌, length, Option, Some, None, inl, inr, refl, sym, ◌∙◌, ap, subst}
use Rattle.std.specs.Prelude.{if◌then◌else◌, option_and_then, option_map}
use Rattle.std.specs.List.{list_all}
use Rattle.std.proofs.lemmas.Bool.{and_parts}
use Rattle.std.specs.Option.{option_map_or}
use Rattle.rtl_bits.specs.declared.bit.Bit.{Bit}
use Rattle.rtl_bits.specs.declared.bit.Bit.TheVariants.{S0, S1, X, Z, M, Dash}
use Rattle.rtl_bits.specs.Knowledge.{AreBelow, Below}
use Rattle.rtl_bits.proofs.Orders.{Below_refl, Below_trans}
use Rattle.rtl_sig.specs.declared.sig.SigBit.{SigBit}
use Rattle.rtl_sig.specs.declared.sig.SigBit.TheVariants.{Fixed, Wire as OnWire}
use Rattle.rtl_sig.specs.declared.sig.WireBit.{WireBit}
use Rattle.rtl_ir.specs.EventTests.{Step, differs, is_bit, lowest_bit, meets, meets_within, probe, step_at, switch_test, test_of, test_within}
use Rattle.rtl_ir.specs.Flat.Cell as flat
use Rattle.rtl_ir.specs.Flat.Cell.{cells_rows}
use Rattle.rtl_ir.specs.Flat.Driver.{Driven}
use Rattle.rtl_ir.specs.Flat.Link.{link_rows}
use Rattle.rtl_ir.specs.Flat.Place.{Path, Place}
use Rattle.rtl_ir.specs.Flat.Point.{points}
use Rattle.rtl_ir.specs.Follow.{all_joins, back, follow_joins}
use Rattle.rtl_ir.specs.declared.follow.Join.{Join}
use Rattle.rtl_ir.specs.Signals.{is_all_constant}
use Rattle.rtl_ir.specs.Types.{Ports, cell_type}
use Rattle.rtl_ir.specs.declared.module.Module.{Module}
use Rattle.net_model.specs.Lists.{In}
use Rattle.net_model.specs.Picked.{tested_of}
use Rattle.net_model.specs.Refine.{IsMet, Solved}
use Rattle.net_model.specs.Run.{Time}
use Rattle.net_model.specs.Valuation.{Valuation, passed_of, read_all}
use Rattle.net_model.specs.Within.{Each}
use Rattle.follow_laws.proofs.Following.{follow_alike, join_row, link_in, same_bit-same, source_in}
use Rattle.pass_laws.proofs.Faultless.{AreFit}
use Rattle.reset_laws.proofs.ChoiceEven.{level_value}
use Rattle.reset_laws.proofs.ChoiceReset.{IsTest, tested_level}
use Rattle.reset_laws.proofs.ChoiceValue.{AreSeen, had}
use Rattle.reset_laws.proofs.TestCells.{probe_below, row_lowest}
use Rattle.reset_laws.proofs.TestSteps.{inverts_gives, kind_plain, one_row, output_row, step_cell, stepped}

below_pass : (b : Bit) → Below b (passed_of b)
below_pass S0 = refl
below_pass S1 = refl
below_pass b = tt

differs_twice : (i level inverse : Bool) → differs i (differs level inverse) ≡ differs level (differs i inverse)
differs_twice true true true = refl
differs_twice true true false = refl
differs_twice true false true = refl
differs_twice true false false = refl
differs_twice false true true = refl
differs_twice false true false = refl
differs_twice false false true = refl
differs_twice false false false = refl

differs_none : (level : Bool) → differs level false ≡ level
differs_none true = refl
differs_none false = refl

differs_cond : (i level : Bool) → level_value (cond i (cond level false true) level) ≡ level_value (differs i level)
differs_cond true true = refl
differs_cond true false = refl
differs_cond false level = refl

module _ (m : Module) (p : Path) (t : Time Place) (w : Valuation) (start : SigBit → Bit) (over : flat.Ports) (links : Solved (link_rows p m.wires m.links) t w) (cells : (d : Driven) → In d (cells_rows start over p m.wires m.cells) → IsMet d t w) (fit : AreFit m.cells) where
  abbrev js : List Join
  js = all_joins m.links

  abbrev own : SigBit → Bit
  own s = had p m.wires w s

  -- one connection back
  back_below : (s r : SigBit) → back js s ≡ Some r → Below (own r) (own s)
  back_below (Fixed c) r e = absurd (cc)
  back_below (OnWire b) r e =
      Below_trans (own r) (passed_of (own r)) (own (OnWire b)) (below_pass (own r))
      (links.met (join_row p m.wires (record { bit = b; source = r })) (link_in p m.wires m.links (record { bit = b; source = r }) (source_in js b r e)))

  meets_below : (b : WireBit) (n : ℕ) (s : SigBit) → meets_within js n b s ≡ true → Below (own (OnWire b)) (own s)
  meets_below b zero s e = here s e
    where
      here : (s : SigBit) → is_bit b s ≡ true → Below (own (OnWire b)) (own s)
      here (Fixed c) f = absurd (cc)
      here (OnWire a) f = subst (λ z. Below (own (OnWire b)) (own (OnWire z))) (sym (same_bit-same a b f)) (Below_refl (own (OnWire b)))
  meets_below b (suc n) s e = by (is_bit b s) refl e (back js s) refl (meets_below b n)
    where
      here : (s : SigBit) → is_bit b s ≡ true → Below (own (OnWire b)) (own s)
      here (Fixed c) f = absurd (cc)
      here (OnWire a) f = subst (λ z. Below (own (OnWire b)) (own (OnWire z))) (sym (same_bit-same a b f)) (Below_refl (own (OnWire b)))

      by : (u : Bool) → is_bit b s ≡ u → (u || option_map_or (meets_within js n b) (back js s) false) ≡ true → (o : Option SigBit) → back js s ≡ o → ((r : SigBit) → meets_within js n b r ≡ true → Below (own (OnWire b)) (own r)) → Below (own (OnWire b)) (own s)
      by true f g o h later = here s f
      by false f g None h later = absurd (let k : false ≡ true = ap (λ o. option_map_or (meets_within js n b) o false) (sym h) ∙ g in cc)
      by false f g (Some r) h later =
          let k : meets_within js n b r ≡ true = ap (λ o. option_map_or (meets_within js n b) o false) (sym h) ∙ g in
          Below_trans (own (OnWire b)) (own r) (own s) (later r k) (back_below s r h)

  constants : (s : SigBit) (c : Bit) → follow_joins js s ≡ Fixed c → Below c (own s)
  constants s c e =
      subst (λ z. Below (own z) (own s)) e (follow_alike p m.wires m.links t w links s).back

  ends_below : (s : SigBit) → Below (own (follow_joins js s)) (own s)
  ends_below s = (follow_alike p m.wires m.links t w links s).back

  module _ (ports : Ports) (b : WireBit) (level : Bool) (known : Below (level_value level) (own (OnWire b))) where
    -- a cell on the way
    step_below : (s : SigBit) (step : Step) → step_at ports m s ≡ Some step → (inverse : Bool) → Below (level_value (differs level inverse)) (own step.input) → Below (level_value (differs level (differs step.inverse inverse))) (own s)
    step_below (Fixed c) step e inverse h = absurd (cc)
    step_below (OnWire q) step e inverse h =
        let k = step_cell ports m q step e in
        let st = stepped js k.cell k.kind step k.through in
        let plain = kind_plain (cell_type ports k.cell.kind_name) k.kind k.is in
        let row : Driven = output_row p m.wires k.cell k.kind q in
        let met = cells row (one_row start over ports p m.wires m.cells fit k.cell k.there k.kind k.is q k.driven st.one) in
        let bit : Bit = level_value (differs level inverse) in
        let probed : Below (probe js k.kind k.cell bit) (lowest_bit k.kind k.cell _) = probe_below p m.wires w js constants k.kind plain.1 k.cell step.input bit st.once st.found h in
        let out : Below (probe js k.kind k.cell bit) (own (OnWire q)) = Below_trans (probe js k.kind k.cell bit) _ (own (OnWire q)) probed (subst (λ z. Below z (own (OnWire q))) (row_lowest p m.wires w k.kind plain.1 k.cell t) met) in
        let gives : probe js k.kind k.cell bit ≡ level_value (differs level (differs step.inverse inverse)) = inverts_gives (probe js k.kind k.cell) step.inverse st.inverse (differs level inverse) ∙ differs_cond step.inverse (differs level inverse) ∙ ap level_value (differs_twice step.inverse level inverse) in
        subst (λ z. Below z (own (OnWire q))) gives out

    test_below : (n : ℕ) (s : SigBit) (inverse : Bool) → test_within ports m n b s ≡ Some inverse → Below (level_value (differs level inverse)) (own s)
    test_below n s inverse e = start_with n s inverse e
      where
        met : (s : SigBit) (inverse : Bool) → meets js b s ≡ true → Some false ≡ Some inverse → Below (level_value (differs level inverse)) (own s)
        met s inverse f g =
            let none : inverse ≡ false = cc in
            subst (λ z. Below (level_value z) (own s)) (sym (ap (differs level) none ∙ differs_none level)) (Below_trans (level_value level) (own (OnWire b)) (own s) known (meets_below b (length js) s f))

        zero_with : (s : SigBit) (inverse : Bool) (u : Bool) → meets js b s ≡ u → (if u then Some false else None) ≡ Some inverse → Below (level_value (differs level inverse)) (own s)
        zero_with s inverse true f g = met s inverse f g
        zero_with s inverse false f g = absurd (cc)

        inner : (n : ℕ) (s : SigBit) (inverse : Bool) (step : Step) → step_at ports m (follow_joins js s) ≡ Some step → ((inverse : Bool) → test_within ports m n b step.input ≡ Some inverse → Below (level_value (differs level inverse)) (own step.input)) → (o : Option Bool) → test_within ports m n b step.input ≡ o → option_map (differs step.inverse) o ≡ Some inverse → Below (level_value (differs level inverse)) (own s)
        inner n s inverse step f later None g h = absurd (cc)
        inner n s inverse step f later (Some i) g h =
            let same : differs step.inverse i ≡ inverse = cc in
            subst (λ z. Below (level_value (differs level z)) (own s)) same (Below_trans (level_value (differs level (differs step.inverse i))) (own (follow_joins js s)) (own s) (step_below (follow_joins js s) step f i (later i g)) (ends_below s))

        steps : (n : ℕ) (s : SigBit) (inverse : Bool) → ((r : SigBit) (i : Bool) → test_within ports m n b r ≡ Some i → Below (level_value (differs level i)) (own r)) → (o : Option Step) → step_at ports m (follow_joins js s) ≡ o → option_and_then (λ (step : Step). option_map (differs step.inverse) (test_within ports m n b step.input)) o ≡ Some inverse → Below (level_value (differs level inverse)) (own s)
        steps n s inverse later None f g = absurd (cc)
        steps n s inverse later (Some step) f g = inner n s inverse step f (later step.input) (test_within ports m n b step.input) refl g

        suc_with : (n : ℕ) (s : SigBit) (inverse : Bool) → ((r : SigBit) (i : Bool) → test_within ports m n b r ≡ Some i → Below (level_value (differs level i)) (own r)) → (u : Bool) → meets js b s ≡ u → (if u then Some false else option_and_then (λ (step : Step). option_map (differs step.inverse) (test_within ports m n b step.input)) (step_at ports m (follow_joins js s))) ≡ Some inverse → Below (level_value (differs level inverse)) (own s)
        suc_with n s inverse later true f g = met s inverse f g
        suc_with n s inverse later false f g = steps n s inverse later (step_at ports m (follow_joins js s)) refl g

        start_with : (n : ℕ) (s : SigBit) (inverse : Bool) → test_within ports m n b s ≡ Some inverse → Below (level_value (differs level inverse)) (own s)
        start_with zero s inverse e = zero_with s inverse (meets js b s) refl e
        start_with (suc n) s inverse e = suc_with n s inverse (start_with n) (meets js b s) refl e

  -- whatever the reset has
  test_seen : (ports : Ports) (b : WireBit) (s : SigBit) (inverse : Bool) → test_of ports m b s ≡ Some inverse → Below (tested_of inverse (own (OnWire b))) (own s)
  test_seen ports b s inverse e = by (own (OnWire b)) refl
    where
      known : (level : Bool) → own (OnWire b) ≡ level_value level → Below (tested_of inverse (own (OnWire b))) (own s)
      known level f =
          subst (λ z. Below z (own s)) (sym (ap (tested_of inverse) f ∙ tested_level level inverse)) (test_below ports b level (subst (Below (level_value level)) (sym f) (Below_refl (level_value level))) 4 s inverse e)

      unknown : (i : Bool) (a : Bit) → (tested_of i a ≡ X) → own (OnWire b) ≡ a → Below (tested_of i (own (OnWire b))) (own s)
      unknown i a f g = subst (λ z. Below z (own s)) (sym (ap (tested_of i) g ∙ f)) tt

      x_of : (i : Bool) (a : Bit) → (a ≡ S0 → ⊥) → (a ≡ S1 → ⊥) → tested_of i a ≡ X
      x_of true S0 f g = absurd (f refl)
      x_of true S1 f g = absurd (g refl)
      x_of true X f g = refl
      x_of true Z f g = refl
      x_of true M f g = refl
      x_of true Dash f g = refl
      x_of false S0 f g = absurd (f refl)
      x_of false S1 f g = absurd (g refl)
      x_of false X f g = refl
      x_of false Z f g = refl
      x_of false M f g = refl
      x_of false Dash f g = refl

      by : (a : Bit) → own (OnWire b) ≡ a → Below (tested_of inverse (own (OnWire b))) (own s)
      by S0 f = known false f
      by S1 f = known true f
      by X f = unknown inverse X (x_of inverse X (λ h. absurd (cc)) (λ h. absurd (cc))) f
      by Z f = unknown inverse Z (x_of inverse Z (λ h. absurd (cc)) (λ h. absurd (cc))) f
      by M f = unknown inverse M (x_of inverse M (λ h. absurd (cc)) (λ h. absurd (cc))) f
      by Dash f = unknown inverse Dash (x_of inverse Dash (λ h. absurd (cc)) (λ h. absurd (cc))) f

  pub switch_seen : (ports : Ports) (b : WireBit) → AreSeen p m.wires w (switch_test ports m b) (own (OnWire b))
  switch_seen ports b [] patterns inverse e = absurd (cc)
  switch_seen ports b (r ∷ s ∷ signal) patterns inverse e = absurd (cc)
  switch_seen ports b (s ∷ []) patterns inverse e = by (list_all is_all_constant patterns) e
    where
      by : (u : Bool) → (if u then test_of ports m b s else None) ≡ Some inverse → AreBelow (tested_of inverse (own (OnWire b)) ∷ []) (read_all w (points p m.wires (s ∷ [])))
      by true f = (test_seen ports b s inverse f, tt)
      by false f = absurd (cc)

-- a switch that tests has a signal of one bit and patterns of constants
pub switch_is_test : (ports : Ports) (m : Module) (b : WireBit) → IsTest (switch_test ports m b)
switch_is_test ports m b = record { one = one; constant = constant }
  where
    one : (signal : List SigBit) (patterns : List (List SigBit)) (inverse : Bool) → switch_test ports m b signal patterns ≡ Some inverse → length signal ≡ 1
    one [] patterns inverse e = absurd (cc)
    one (s ∷ []) patterns inverse e = refl
    one (r ∷ s ∷ signal) patterns inverse e = absurd (cc)

    all_in : (patterns : List (List SigBit)) → list_all is_all_constant patterns ≡ true → Each (λ (q : List SigBit). is_all_constant q ≡ true) patterns
    all_in [] e q i = absurd i
    all_in (r ∷ patterns) e q (inl h) = ap is_all_constant h ∙ (and_parts (is_all_constant r) (list_all is_all_constant patterns) e).0
    all_in (r ∷ patterns) e q (inr h) = all_in patterns (and_parts (is_all_constant r) (list_all is_all_constant patterns) e).1 q h

    constant : (signal : List SigBit) (patterns : List (List SigBit)) (inverse : Bool) → switch_test ports m b signal patterns ≡ Some inverse → Each (λ (q : List SigBit). is_all_constant q ≡ true) patterns
    constant [] patterns inverse e = absurd (cc)
    constant (r ∷ s ∷ signal) patterns inverse e = absurd (cc)
    constant (s ∷ []) patterns inverse e = by (list_all is_all_constant patterns) refl e
      where
        by : (u : Bool) → list_all is_all_constant patterns ≡ u → (if u then test_of ports m b s else None) ≡ Some inverse → Each (λ (q : List SigBit). is_all_constant q ≡ true) patterns
        by true f g = all_in patterns f
        by false f g = absurd (cc)
