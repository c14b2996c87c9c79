-- The start value of the code of a machine that is found: the bit of the state in which it starts, where it is known.
use Rattle.std.proofs.Common.{◌≡◌, ◌<◌, ◌≤◌, ℕ, zero, suc, Bool, true, false, cond, List, [], ◌∷◌, ◌++◌, length, Option, Some, None, refl, sym, ◌∙◌, ap, subst, arith}
use Rattle.std.specs.Prelude.{◌==◌, ◌&&◌, ◌||◌, codes, nat_le, not, slice_get, slice_index_or}
use Rattle.std.specs.List.{list_all, list_any}
use Rattle.std.proofs.lemmas.Bool.{and_parts, eq-eqb, eqb-true, or_parts}
use Rattle.rtl_bits.proofs.Lists.{all_known_true}
use Rattle.rtl_bits.specs.Knowledge.{AreKnown, Below, IsKnown, all_known, is_known}
use Rattle.rtl_bits.specs.Numbers.{number_of}
use Rattle.rtl_bits.specs.Tables.{seen_of}
use Rattle.rtl_bits.specs.declared.bit.Bit.{Bit}
use Rattle.rtl_bits.specs.declared.bit.Bit.TheVariants.{S0, S1, X}
use Rattle.rtl_sig.specs.declared.sig.SigBit.{SigBit}
use Rattle.rtl_sig.specs.declared.sig.SigBit.TheVariants.{Wire as OnWire}
use Rattle.rtl_sig.specs.declared.sig.WireBit.{WireBit}
use Rattle.rtl_ir.specs.Flat.Start.{init_bits, start_of}
use Rattle.rtl_ir.specs.Attributes.{attribute_bits}
use Rattle.rtl_ir.specs.Signals.{wire_bits}
use Rattle.rtl_ir.specs.Types.{Ports}
use Rattle.rtl_ir.specs.declared.machine.Machine.{Machine}
use Rattle.rtl_ir.specs.declared.module.Module.{Module}
use Rattle.net_model.specs.Fsm.Code.{code_init, code_of}
use Rattle.net_model.specs.Fsm.Find.{cells_at_places, cells_read_well, fits_code, known_start, option_state, ports_read_well, reset_value, start_bits, tree_outputs}
use Rattle.pass_laws.proofs.Faultless.{plain}
use Rattle.pass_laws.specs.Ready.{IsReady}
use Rattle.fsm_laws.proofs.Coded.{apart_low, apart_same, apart_unknown, unknown_hot}
use Rattle.fsm_laws.proofs.Numbers.{known_inside, known_same, inside_any, same_digits}
use Rattle.fsm_laws.proofs.StateOrder.{HasNumber}
use Rattle.fsm_laws.proofs.StatesFound.{start_state, states_are}
use Rattle.fsm_laws.specs.Codes.{OneHot, apart}
use Rattle.fsm_laws.specs.Machines.{IsFoundMachine}
use Rattle.fsm_laws.specs.States.{AreStates}
use Rattle.fsm_laws.proofs.Asked.{asked_of}
use Rattle.fsm_laws.proofs.CarriersFound.{whole_get_bit}
use Rattle.fsm_laws.proofs.Setting.{start, state}
use Rattle.fsm_laws.proofs.StandFound.{got_below, mapped_at}
use Rattle.fsm_laws.proofs.Widths.{leaves_wide, reset_known, reset_wide, start_wide}

-- what stands at places of lists
got_left : {T : Type 0} (xs ys : List T) (k : ℕ) (x : T) → slice_get xs k ≡ Some x → slice_get (xs ++ ys) k ≡ Some x
got_left [] ys k x e = absurd (cc)
got_left (y ∷ xs) ys zero x e = e
got_left (y ∷ xs) ys (suc k) x e = got_left xs ys k x e

got_next : {T : Type 0} (xs : List T) (y : T) (ys : List T) → slice_get (xs ++ y ∷ ys) (length xs) ≡ Some y
got_next [] y ys = refl
got_next (x ∷ xs) y ys = got_next xs y ys

got_or : {T : Type 0} (xs : List T) (k : ℕ) (x d : T) → slice_get xs k ≡ Some x → slice_index_or xs k d ≡ x
got_or [] k x d e = absurd (cc)
got_or (y ∷ xs) zero x d e = cc
got_or (y ∷ xs) (suc k) x d e = got_or xs k x d e

-- none of these is known
none_known : (bits : List Bit) → list_any is_known bits ≡ false → (k : ℕ) → IsKnown (slice_index_or bits k X) → ⊥
none_known [] e k h = h
none_known (b ∷ bits) e zero h = by b (or_parts (is_known b) (list_any is_known bits) e).0 h
  where
    by : (b : Bit) → is_known b ≡ false → IsKnown b → ⊥
    by S0 f g = cc
    by S1 f g = cc
    by b f g = g
none_known (b ∷ bits) e (suc k) h = none_known bits (or_parts (is_known b) (list_any is_known bits) e).1 k h

-- the bits of a code
abbrev started : List (List Bit) → Option (List Bit) → List Bit
started states None = []
started states (Some s) = code_of states (number_of s)

code_starts : (states : List (List Bit)) (o : Option (List Bit)) → attribute_bits (code_init states o) (codes "\\init") ≡ started states o
code_starts states None = refl
code_starts states (Some s) = refl

code_at : (states : List (List Bit)) (number i : ℕ) (r : List Bit) → slice_get states i ≡ Some r → slice_index_or (code_of states number) i X ≡ cond (number_of r == number) S1 S0
code_at states number i r e = got_or (code_of states number) i (cond (number_of r == number) S1 S0) X (mapped_at (λ s. cond (number_of s == number) S1 S0) states i r e)

module _ (ports : Ports) (m : Module) (at : ℕ) (machine : Machine) (found : IsFoundMachine ports m at machine) (ready : IsReady ports m) where
  abbrev n : ℕ
  n = length machine.states

  abbrev held : List SigBit
  held = state ports m at machine found

  abbrev bits : List Bit
  bits = start_bits m held

  abbrev begun : SigBit → Bit
  begun = start ports m at machine found

  -- the bit of the code at a place
  abbrev code_bit : ℕ → SigBit
  code_bit i = OnWire (record { wire = length m.wires; at = i })

  start_is : machine.start ≡ known_start bits
  start_is = ap (λ (z : Machine). z.start) found.made

  -- the start value is known, or no bit of it
  all_or_none : (all_known bits || not (list_any is_known bits)) ≡ true
  all_or_none =
      let outs = tree_outputs m machine.muxes in
      let last : Bool = list_all (fits_code n) (cells_at_places m.cells machine.muxes) in
      let states : Bool = nat_le 2 n && (nat_le n 64 && last) in
      let known : Bool = (all_known bits || not (list_any is_known bits)) && states in
      let reset : Bool = list_all all_known (option_state machine.reset) && known in
      let a = and_parts (cells_read_well ports m machine.muxes machine.flop held outs 0 m.cells) (ports_read_well m (wire_bits held ++ outs) 0 m.wires && reset) found.asked in
      let b = and_parts (ports_read_well m (wire_bits held ++ outs) 0 m.wires) reset a.1 in
      let c = and_parts (list_all all_known (option_state machine.reset)) known b.1 in
      (and_parts (all_known bits || not (list_any is_known bits)) states c.1).0

  states_from : AreStates found.wire.width machine.states
  states_from =
      let is = ap (λ (z : Machine). z.states) found.made in
      subst (AreStates found.wire.width) (sym is)
      (states_are found.wire.width found.tree.leaves (reset_value found.flop) bits (leaves_wide ports m at machine found ready) (reset_known ports m at machine found ready) (reset_wide ports m at machine found ready) (start_wide ports m at machine found ready) (subst (λ z. 2 ≤ length z) is (asked_of ports m at machine found).two))

  start_number : known_start bits ≡ Some bits → HasNumber machine.states (number_of bits)
  start_number e =
      subst (λ z. HasNumber z (number_of bits)) (sym (ap (λ (z : Machine). z.states) found.made))
      (start_state found.wire.width found.tree.leaves (reset_value found.flop) bits (leaves_wide ports m at machine found ready) (reset_known ports m at machine found ready) (reset_wide ports m at machine found ready) (start_wide ports m at machine found ready) bits e)

  -- where a bit of the code begins
  code_begins : (i : ℕ) → begun (code_bit i) ≡ seen_of (slice_index_or (started machine.states machine.start) i X)
  code_begins i =
      ap (λ o. seen_of (slice_index_or (init_bits o) i X)) (got_next m.wires _ _)
      ∙ ap (λ z. seen_of (slice_index_or z i X)) (code_starts machine.states machine.start)

  -- and one of the state
  state_begins : (k : ℕ) (q : WireBit) → slice_get held k ≡ Some (OnWire q) → begun (OnWire q) ≡ slice_index_or bits k X
  state_begins k q e =
      let is = (whole_get_bit at found.wire.width k (OnWire q) e).1 in
      let old : start_of m.wires m.processes (OnWire q) ≡ slice_index_or bits k X = sym (got_or bits k (start_of m.wires m.processes (OnWire q)) X (mapped_at (start_of m.wires m.processes) held k (OnWire q) e)) in
      let none : start_of m.wires m.processes (OnWire q) ≡ start_of m.wires [] (OnWire q) = ap (λ ps. start_of m.wires ps (OnWire q)) (plain ports m ready.faultless).processes in
      ap begun is ∙ ap (λ o. seen_of (slice_index_or (init_bits o) k X)) (got_left m.wires _ at found.wire found.there ∙ sym found.there) ∙ ap (start_of m.wires []) (sym is) ∙ sym none ∙ old

  abbrev Begins : Type 0
  Begins =
      (k : ℕ) (q : WireBit) → slice_get held k ≡ Some (OnWire q) → (i : ℕ) (r : List Bit) → slice_get machine.states i ≡ Some r →
      Below (apart (begun (OnWire q)) (slice_index_or r k X)) (begun (code_bit i))

  abbrev IsHot : Type 0
  IsHot = OneHot n (λ i. begun (code_bit i))

  -- known bits of one number are the same
  same_bits : all_known bits ≡ true → (k : ℕ) → k < found.wire.width → (i : ℕ) (r : List Bit) → slice_get machine.states i ≡ Some r → number_of r ≡ number_of bits → slice_index_or bits k X ≡ slice_index_or r k X
  same_bits e k lt i r there number =
      let r_known : AreKnown r = states_from.known i r there in
      let r_wide : length r ≡ found.wire.width = states_from.wide i r there in
      let wide : length bits ≡ found.wire.width = start_wide ports m at machine found ready in
      let in_r : k < length r = omega (arith, lt, r_wide) in
      let in_bits : k < length bits = omega (arith, lt, wide) in
      let one : slice_index_or bits k S0 ≡ slice_index_or r k S0 = known_same (slice_index_or bits k S0) (slice_index_or r k S0) (known_inside bits k S0 (all_known_true bits e) in_bits) (known_inside r k S0 r_known in_r) (same_digits bits r (sym number) k) in
      inside_any bits k X S0 in_bits ∙ one ∙ inside_any r k S0 X in_r

  module _ (e : all_known bits ≡ true) where
    started_is : machine.start ≡ Some bits
    started_is = start_is ∙ ap (λ t. cond t (Some bits) None) e

    code_is : (i : ℕ) (r : List Bit) → slice_get machine.states i ≡ Some r → begun (code_bit i) ≡ cond (number_of r == number_of bits) S1 S0
    code_is i r there =
        code_begins i ∙ ap (λ o. seen_of (slice_index_or (started machine.states o) i X)) started_is
        ∙ ap seen_of (code_at machine.states (number_of bits) i r there) ∙ seen (number_of r == number_of bits)
      where
        seen : (t : Bool) → seen_of (cond t S1 S0) ≡ cond t S1 S0
        seen true = refl
        seen false = refl

    known_begins : Begins
    known_begins k q f i r there = by (number_of r == number_of bits) refl
      where
        lt : k < found.wire.width
        lt = (whole_get_bit at found.wire.width k (OnWire q) f).0

        by : (t : Bool) → (number_of r == number_of bits) ≡ t → Below (apart (begun (OnWire q)) (slice_index_or r k X)) (begun (code_bit i))
        by true g =
            let one : begun (OnWire q) ≡ slice_index_or r k X = state_begins k q f ∙ same_bits e k lt i r there (eqb-true (number_of r) (number_of bits) g) in
            let none : apart (begun (OnWire q)) (slice_index_or r k X) ≡ X = ap (λ z. apart z (slice_index_or r k X)) one ∙ apart_same (slice_index_or r k X) in
            subst (λ z. Below z (begun (code_bit i))) (sym none) tt
        by false g =
            subst (Below (apart (begun (OnWire q)) (slice_index_or r k X))) (sym (code_is i r there ∙ ap (λ t. cond t S1 S0) g)) (apart_low (begun (OnWire q)) (slice_index_or r k X))

    known_hot : IsHot
    known_hot i lt rest = by (mine.place == i) refl
      where
        mine : HasNumber machine.states (number_of bits)
        mine = start_number (ap (λ t. cond t (Some bits) None) e)

        one : begun (code_bit mine.place) ≡ S1
        one = code_is mine.place mine.state mine.there ∙ ap (λ t. cond t S1 S0) (eq-eqb (number_of mine.state) (number_of bits) mine.number)

        by : (t : Bool) → (mine.place == i) ≡ t → begun (code_bit i) ≡ S1
        by true g = ap (λ k. begun (code_bit k)) (sym (eqb-true mine.place i g)) ∙ one
        by false g =
            let zero_there : begun (code_bit mine.place) ≡ S0 = rest mine.place (got_below machine.states mine.place mine.state mine.there) (λ f. differ (sym (eq-eqb mine.place i f) ∙ g)) in
            absurd (bits_differ (sym one ∙ zero_there))
          where
            differ : true ≡ false → ⊥
            differ f = cc

            bits_differ : S1 ≡ S0 → ⊥
            bits_differ f = cc

  module _ (e : all_known bits ≡ false) where
    none_is : list_any is_known bits ≡ false
    none_is = by (list_any is_known bits) (ap (λ t. t || not (list_any is_known bits)) (sym e) ∙ all_or_none)
      where
        by : (t : Bool) → (false || not t) ≡ true → t ≡ false
        by false f = refl
        by true f = absurd (cc)

    code_none : (i : ℕ) → begun (code_bit i) ≡ X
    code_none i =
        code_begins i ∙ ap (λ o. seen_of (slice_index_or (started machine.states o) i X)) (start_is ∙ ap (λ t. cond t (Some bits) None) e)

    unknown_begins : Begins
    unknown_begins k q f i r there =
        let none : apart (begun (OnWire q)) (slice_index_or r k X) ≡ X = ap (λ z. apart z (slice_index_or r k X)) (state_begins k q f) ∙ apart_unknown (slice_index_or bits k X) (slice_index_or r k X) (none_known bits none_is k) in
        subst (λ z. Below z (begun (code_bit i))) (sym none) tt

    not_hot : IsHot
    not_hot = unknown_hot n (asked_of ports m at machine found).two (λ i. begun (code_bit i)) (λ i lt. code_none i)

  pub starts : Begins × IsHot
  starts = by (all_known bits) refl
    where
      by : (t : Bool) → all_known bits ≡ t → Begins × IsHot
      by true e = (known_begins e, known_hot e)
      by false e = (unknown_begins e, not_hot e)
