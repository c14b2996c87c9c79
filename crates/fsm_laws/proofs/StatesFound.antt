-- The states of a machine that is found are known bits that stand for different numbers, and each value that it may have is one of
-- them.
use Rattle.std.proofs.Common.{◌≡◌, ◌≤◌, ℕ, suc, Bool, true, false, cond, List, [], ◌∷◌, ◌++◌, length, map, filter, Option, Some, None, inl, inr, ⊎_elim, refl, sym, ◌∙◌, ap, subst}
use Rattle.std.specs.List.{list_all}
use Rattle.std.proofs.lemmas.Bool.{and_parts}
use Rattle.rtl_bits.proofs.Lists.{all_known_true}
use Rattle.rtl_bits.specs.Knowledge.{AreKnown, all_known}
use Rattle.rtl_bits.specs.Numbers.{number_of}
use Rattle.rtl_bits.specs.declared.bit.Bit.{Bit}
use Rattle.rtl_sig.specs.declared.sig.SigBit.{SigBit}
use Rattle.rtl_ir.specs.Signals.{is_all_constant, constant_of}
use Rattle.net_model.proofs.Members.{In-cases, In-left, In-map, In-mapped, In-right}
use Rattle.net_model.specs.Fsm.Find.{in_state_order, is_state_constant, known_leaves, known_start, option_state}
use Rattle.net_model.specs.Lists.{In}
use Rattle.fsm_laws.specs.States.{AreStates}
use Rattle.fsm_laws.proofs.StateOrder.{HasNumber, order_apart, order_from, order_has}

-- what a filter leaves passes its test
filter_passes : {A : Type 0} (test : A → Bool) (xs : List A) (x : A) → In x (filter test xs) → (test x ≡ true) × In x xs
filter_passes test [] x i = absurd i
filter_passes test (y ∷ xs) x i = by (filter_passes test xs x) (test y) refl i
  where
    by : (In x (filter test xs) → (test x ≡ true) × In x xs) → (t : Bool) → test y ≡ t → In x (cond t (y ∷ filter test xs) (filter test xs)) → (test x ≡ true) × In x (y ∷ xs)
    by later true e (inl f) = (ap test f ∙ e, inl f)
    by later true e (inr j) = let k = later j in (k.0, inr k.1)
    by later false e j = let k = later j in (k.0, inr k.1)

filter_keeps : {A : Type 0} (test : A → Bool) (xs : List A) (x : A) → In x xs → test x ≡ true → In x (filter test xs)
filter_keeps test [] x i e = absurd i
filter_keeps test (y ∷ xs) x i e = by (filter_keeps test xs x) (test y) refl i
  where
    by : (In x xs → test x ≡ true → In x (filter test xs)) → (t : Bool) → test y ≡ t → In x (y ∷ xs) → In x (cond t (y ∷ filter test xs) (filter test xs))
    by later true f (inl g) = inl g
    by later true f (inr j) = inr (later j e)
    by later false f (inl g) = let no : true ≡ false = sym e ∙ ap test g ∙ f in absurd (cc)
    by later false f (inr j) = later j e

-- a known leaf is a leaf that is constant, bit by bit
pub leaf_from : (leaves : List (List SigBit)) (s : List Bit) → In s (known_leaves leaves) → (leaf : List SigBit) × (In leaf leaves × ((is_state_constant leaf ≡ true) × (s ≡ map constant_of leaf)))
leaf_from leaves s i =
    let k = In-mapped (map constant_of) s (filter is_state_constant leaves) i in
    let f = filter_passes is_state_constant leaves k.0 k.1 in
    (k.0, (f.1, (f.0, k.2)))

pub leaf_in : (leaves : List (List SigBit)) (leaf : List SigBit) → In leaf leaves → is_state_constant leaf ≡ true → In (map constant_of leaf) (known_leaves leaves)
leaf_in leaves leaf i e = In-map (map constant_of) leaf (filter is_state_constant leaves) (filter_keeps is_state_constant leaves leaf i e)

one_option : (o : Option (List Bit)) (s : List Bit) → In s (option_state o) → o ≡ Some s
one_option None s i = absurd i
one_option (Some t) s (inl e) = ap Some (sym e)
one_option (Some t) s (inr i) = absurd i

start_known : (bits s : List Bit) → known_start bits ≡ Some s → (all_known bits ≡ true) × (bits ≡ s)
start_known bits s e = by (all_known bits) refl e
  where
    by : (t : Bool) → all_known bits ≡ t → cond t (Some bits) None ≡ Some s → (all_known bits ≡ true) × (bits ≡ s)
    by true f g = let same : bits ≡ s = cc in (f, same)
    by false f g = absurd (cc)

-- the states of known leaves, of a reset value and of a start value, where all are as wide as the state
module _ (width : ℕ) (leaves : List (List SigBit)) (reset : Option (List Bit)) (start : List Bit) (leaves_wide : (leaf : List SigBit) → In leaf leaves → length leaf ≡ width) (reset_known : list_all all_known (option_state reset) ≡ true) (reset_wide : (s : List Bit) → reset ≡ Some s → length s ≡ width) (start_wide : length start ≡ width) where
  abbrev given : List (List Bit)
  given = known_leaves leaves ++ (option_state reset ++ option_state (known_start start))

  abbrev states : List (List Bit)
  states = in_state_order given

  length_mapped : (leaf : List SigBit) → length (map constant_of leaf) ≡ length leaf
  length_mapped [] = refl
  length_mapped (s ∷ leaf) = ap suc (length_mapped leaf)

  reset_is_known : (s : List Bit) → reset ≡ Some s → all_known s ≡ true
  reset_is_known s e = (and_parts (all_known s) true (ap (λ o. list_all all_known (option_state o)) (sym e) ∙ reset_known)).0

  of_given : (s : List Bit) → In s given → AreKnown s × (length s ≡ width)
  of_given s i =
      ⊎_elim
      (λ l. let leaf = leaf_from leaves s l in
      let both = and_parts (is_all_constant leaf.0) (all_known (map constant_of leaf.0)) leaf.1.1.0 in
      (subst AreKnown (sym leaf.1.1.1) (all_known_true (map constant_of leaf.0) both.1), ap length leaf.1.1.1 ∙ length_mapped leaf.0 ∙ leaves_wide leaf.0 leaf.1.0))
      (λ q. ⊎_elim
      (λ l. let e = one_option reset s l in (all_known_true s (reset_is_known s e), reset_wide s e))
      (λ l. let e = start_known start s (one_option (known_start start) s l) in (all_known_true s (ap all_known (sym e.1) ∙ e.0), ap length (sym e.1) ∙ start_wide))
      (In-cases s (option_state reset) (option_state (known_start start)) q))
      (In-cases s (known_leaves leaves) (option_state reset ++ option_state (known_start start)) i)

  pub states_are : 2 ≤ length states → AreStates width states
  states_are two = record {
    known = λ i s e. (of_given s (order_from given i s e)).0;
    wide = λ i s e. (of_given s (order_from given i s e)).1;
    distinct = λ i j s r e f n. order_apart given i j s r e f n;
    two = two;
  }

  -- each value is one of them
  pub leaf_state : (leaf : List SigBit) → In leaf leaves → is_state_constant leaf ≡ true → HasNumber states (number_of (map constant_of leaf))
  leaf_state leaf i e = order_has given (map constant_of leaf) (In-left (map constant_of leaf) (known_leaves leaves) (option_state reset ++ option_state (known_start start)) (leaf_in leaves leaf i e))

  pub reset_state : (s : List Bit) → reset ≡ Some s → HasNumber states (number_of s)
  reset_state s e =
      order_has given s (In-right s (known_leaves leaves) (option_state reset ++ option_state (known_start start)) (In-left s (option_state reset) (option_state (known_start start)) (subst (λ o. In s (option_state o)) (sym e) (inl refl))))

  pub start_state : (s : List Bit) → known_start start ≡ Some s → HasNumber states (number_of s)
  start_state s e =
      order_has given s (In-right s (known_leaves leaves) (option_state reset ++ option_state (known_start start)) (In-right s (option_state reset) (option_state (known_start start)) (subst (λ o. In s (option_state o)) (sym e) (inl refl))))
