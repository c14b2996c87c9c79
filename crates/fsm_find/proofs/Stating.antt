-- The states of a machine by what is found of its tree.
use Rattle.std.proofs.Common.{◌≡◌, ℕ, Bool, true, List, [], ◌∷◌, ◌++◌, inl, inr, ⊎_elim, length, map, Some, sym, ◌∙◌, ap}
use Rattle.std.specs.Prelude.{◌==◌, slice_get, slice_index_or}
use Rattle.std.specs.List.{list_all, range_with_len}
use Rattle.std.proofs.lemmas.Bool.{and_parts, eqb-true}
use Rattle.rtl_bits.specs.declared.bit.Bit.{Bit}
use Rattle.rtl_bits.specs.declared.bit.Bit.TheVariants.{X}
use Rattle.rtl_bits.specs.Knowledge.{all_known}
use Rattle.rtl_bits.specs.Numbers.{bits_of, number_of}
use Rattle.rtl_bits.specs.Tables.{seen_of}
use Rattle.rtl_bits.proofs.Lists.{all_known_true}
use Rattle.rtl_bits.proofs.NumberLemmas.{bits_of_number_of}
use Rattle.rtl_sig.specs.declared.sig.SigBit.TheVariants.{Wire as OnWire}
use Rattle.rtl_sig.specs.declared.sig.WireBit.{WireBit}
use Rattle.rtl_ir.specs.declared.module.Module.{Module}
use Rattle.rtl_ir.specs.declared.wire.Wire.{Wire}
use Rattle.rtl_ir.specs.Flat.Start as whole
use Rattle.rtl_ir.specs.Flat.Start.{start_of}
use Rattle.rtl_ir.specs.Signals.{bits_of_wire}
use Rattle.net_model.specs.Fsm.Find.{in_state_order, start_bits, whole_wire}
use Rattle.net_model.specs.Lists.{In}
use Rattle.net_model.proofs.Members.{In-cases, In-left, In-right, map-map}
use Rattle.fsm_find.specs.Attributes.{init_bits}
use Rattle.fsm_find.specs.Starts.{is_state_of}
use Rattle.fsm_find.specs.Trees.{Includes}
use Rattle.fsm_find.proofs.Ordered.{order_same}

all_in : {A : Type 0} (test : A → Bool) (xs : List A) → list_all test xs ≡ true → (x : A) → In x xs → test x ≡ true
all_in test [] h x i = absurd i
all_in test (y ∷ xs) h x (inl e) = ap test e ∙ (and_parts (test y) (list_all test xs) h).0
all_in test (y ∷ xs) h x (inr i) = all_in test xs (and_parts (test y) (list_all test xs) h).1 x i

-- known bits of one width and one number are one
one_state : (n : ℕ) (s t : List Bit) → is_state_of n s ≡ true → is_state_of n t ≡ true → number_of s ≡ number_of t → s ≡ t
one_state n s t p q e =
    let a = and_parts (length s == n) (all_known s) p in
    let b = and_parts (length t == n) (all_known t) q in
    let width : length s ≡ length t = eqb-true (length s) n a.0 ∙ sym (eqb-true (length t) n b.0) in
    sym (bits_of_number_of s (all_known_true s a.1)) ∙ (λ i. bits_of (e i) (width i)) ∙ bits_of_number_of t (all_known_true t b.1)

-- the states of a list are those of a list with the same leaves
pub order_is : (n : ℕ) (found leaves rest : List (List Bit)) → list_all (is_state_of n) (found ++ rest) ≡ true → Includes found leaves → Includes leaves found → in_state_order (found ++ rest) ≡ in_state_order (leaves ++ rest)
order_is n found leaves rest told f g =
    order_same (found ++ rest) (leaves ++ rest)
    (λ s t i j e. one_state n s t (all_in (is_state_of n) (found ++ rest) told s i) (all_in (is_state_of n) (found ++ rest) told t j) e)
    (λ s t i j e. one_state n s t (all_in (is_state_of n) (found ++ rest) told s (back s i)) (all_in (is_state_of n) (found ++ rest) told t (back t j)) e)
    there back
  where
    there : (x : List Bit) → In x (found ++ rest) → In x (leaves ++ rest)
    there x i = ⊎_elim (λ j. In-left x leaves rest (f x j)) (λ j. In-right x leaves rest j) (In-cases x found rest i)

    back : (x : List Bit) → In x (leaves ++ rest) → In x (found ++ rest)
    back x i = ⊎_elim (λ j. In-left x found rest (g x j)) (λ j. In-right x found rest j) (In-cases x leaves rest i)

-- the start values of a wire where no process is left
pub start_is : (m : Module) (at : ℕ) (w : Wire) → m.processes ≡ [] → slice_get m.wires at ≡ Some w → start_bits m (whole_wire at w) ≡ init_bits w
start_is m at w none is =
    ap (λ ps. map (start_of m.wires ps) (whole_wire at w)) none
    ∙ map-map OnWire (start_of m.wires []) (bits_of_wire at w.width)
    ∙ map-map (λ (k : ℕ). record { wire = at; at = k }) (λ (b : WireBit). start_of m.wires [] (OnWire b)) (range_with_len 0 w.width)
    ∙ ap (λ o. map (λ k. seen_of (slice_index_or (whole.init_bits o) k X)) (range_with_len 0 w.width)) is
