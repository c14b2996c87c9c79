-- The machine of a wire by what is found of it.
use Rattle.std.proofs.Common.{◌≡◌, ℕ, ◌+◌, zero, suc, ◌<◌, Bool, true, false, List, [], ◌∷◌, ◌++◌, inl, inr, length, filter, cond, Option, Some, None, refl, sym, ◌∙◌, ap, subst, arith}
use Rattle.std.specs.Prelude.{◌&&◌, ◌||◌, nat_le, not}
use Rattle.std.specs.List.{list_all, list_any, range_with_len}
use Rattle.std.proofs.lemmas.Option.{slice_get_within}
use Rattle.rtl_bits.specs.declared.bit.Bit.{Bit}
use Rattle.rtl_bits.specs.Knowledge.{all_known, is_known}
use Rattle.rtl_sig.specs.declared.sig.SigBit.{SigBit}
use Rattle.rtl_ir.specs.declared.cell.Cell.{Cell}
use Rattle.rtl_ir.specs.declared.machine.Machine.{Machine}
use Rattle.rtl_ir.specs.declared.module.Module.{Module}
use Rattle.rtl_ir.specs.Signals.{wire_bits}
use Rattle.rtl_ir.specs.Types.{Ports}
use Rattle.net_model.specs.Fsm.Find.{Tree, cells_at_places, cells_read_well, compares, fits_code, has_place, if_machine, in_state_order, is_machine, known_leaves, made_machine, option_state, ports_read_well, reset_value, rising_places, start_bits, tree_outputs}
use Rattle.net_model.specs.Lists.{In}
use Rattle.fsm_find.specs.declared.reach.Reach.{Reach}
use Rattle.fsm_find.specs.declared.starts.Starts.{Starts}
use Rattle.fsm_find.specs.Finder.{IsDraft}
use Rattle.fsm_find.specs.Found.{IsFound}
use Rattle.fsm_find.specs.Order.{is_done}
use Rattle.fsm_find.specs.Readers.{ArePlaces, are_read_well}
use Rattle.fsm_find.specs.Starts.{AreStarts, are_starts, is_count, is_state_of, with_starts}
use Rattle.fsm_find.proofs.Stating.{order_is}
use Rattle.fsm_find.proofs.TreeFound.{both_ways, done_get, in_filter, in_place, place_in}

in_range : (a n k : ℕ) → k < n → In (a + k) (range_with_len a n)
in_range a zero k h = absurd (omega (arith, h))
in_range a (suc n) zero h = let e : a + 0 ≡ a = omega arith in inl e
in_range a (suc n) (suc k) h =
    let less : k < n = omega (arith, h) in
    let e : (a + 1) + k ≡ a + suc k = omega arith in
    inr (subst (λ x. In x (range_with_len (a + 1) n)) e (in_range (a + 1) n k less))

filter_in : (test : ℕ → Bool) (xs : List ℕ) (x : ℕ) → test x ≡ true → In x xs → In x (filter test xs)
filter_in test [] x t i = absurd i
filter_in test (y ∷ xs) x t (inl e) = subst (λ b. In x (cond b (y ∷ filter test xs) (filter test xs))) (sym (ap test (sym e) ∙ t)) (inl e)
filter_in test (y ∷ xs) x t (inr i) = by (test y) (filter_in test xs x t i)
  where
    by : (b : Bool) → In x (filter test xs) → In x (cond b (y ∷ filter test xs) (filter test xs))
    by true j = inr j
    by false j = j

-- the marked places are those that are marked
pub marked_are : (done : List Bool) → ArePlaces (filter (is_done done) (range_with_len 0 (length done))) done
marked_are done at =
    both_ways (has_place (filter (is_done done) (range_with_len 0 (length done))) at) (is_done done at)
    (λ e. (in_filter (is_done done) (range_with_len 0 (length done)) at (place_in (filter (is_done done) (range_with_len 0 (length done))) at e)).1)
    (λ e. in_place (filter (is_done done) (range_with_len 0 (length done))) at (filter_in (is_done done) (range_with_len 0 (length done)) at e (here e)))
  where
    here : is_done done at ≡ true → In at (range_with_len 0 (length done))
    here e =
        let h : at < length done = slice_get_within done at true (done_get done at e) in
        let zero_more : 0 + at ≡ at = omega arith in
        subst (λ x. In x (range_with_len 0 (length done))) zero_more (in_range 0 (length done) at h)

none : (r p : Bool) → (r && (p && false)) ≡ false
none true true = refl
none true false = refl
none false p = refl

-- the tests of a machine, those of its states first
regrouped : (r p k s a b f : Bool) → (r && (p && (k && (s && (a && (b && f)))))) ≡ ((k && s) && ((a && b) && ((r && p) && f)))
regrouped true p true true true true f = refl
regrouped false p true true true true f = refl
regrouped r p false s a b f = none r p
regrouped r p true false a b f = none r p
regrouped r p true true false b f = none r p
regrouped r p true true true false f = none r p

module _ (ports : Ports) (m : Module) (state : List SigBit) (c : Cell) (machine : Machine) where
  asked : is_machine ports m state c machine ≡ (are_starts machine.reset (start_bits m state) && (is_count (length machine.states) && (are_read_well ports m machine.muxes machine.flop state && list_all (fits_code (length machine.states)) (cells_at_places m.cells machine.muxes))))
  asked =
      regrouped (cells_read_well ports m machine.muxes machine.flop state (tree_outputs m machine.muxes) 0 m.cells) (ports_read_well m (wire_bits state ++ tree_outputs m machine.muxes) 0 m.wires)
      (list_all all_known (option_state machine.reset)) (all_known (start_bits m state) || not (list_any is_known (start_bits m state)))
      (nat_le 2 (length machine.states)) (nat_le (length machine.states) 64) (list_all (fits_code (length machine.states)) (cells_at_places m.cells machine.muxes))

  pub no_starts : are_starts machine.reset (start_bits m state) ≡ false → None ≡ if_machine ports m state c machine
  no_starts e = sym (ap (λ t. cond t (Some machine) None) (asked ∙ ap (λ t. t && (is_count (length machine.states) && (are_read_well ports m machine.muxes machine.flop state && list_all (fits_code (length machine.states)) (cells_at_places m.cells machine.muxes)))) e))

  pub starts_well : are_starts machine.reset (start_bits m state) ≡ true → is_machine ports m state c machine ≡ (is_count (length machine.states) && (are_read_well ports m machine.muxes machine.flop state && list_all (fits_code (length machine.states)) (cells_at_places m.cells machine.muxes)))
  starts_well e = asked ∙ ap (λ t. t && (is_count (length machine.states) && (are_read_well ports m machine.muxes machine.flop state && list_all (fits_code (length machine.states)) (cells_at_places m.cells machine.muxes)))) e

  pub no_count : are_starts machine.reset (start_bits m state) ≡ true → is_count (length machine.states) ≡ false → None ≡ if_machine ports m state c machine
  no_count e f = sym (ap (λ t. cond t (Some machine) None) (starts_well e ∙ ap (λ t. t && (are_read_well ports m machine.muxes machine.flop state && list_all (fits_code (length machine.states)) (cells_at_places m.cells machine.muxes))) f))

  counts_well : are_starts machine.reset (start_bits m state) ≡ true → is_count (length machine.states) ≡ true → is_machine ports m state c machine ≡ (are_read_well ports m machine.muxes machine.flop state && list_all (fits_code (length machine.states)) (cells_at_places m.cells machine.muxes))
  counts_well e f = starts_well e ∙ ap (λ t. t && (are_read_well ports m machine.muxes machine.flop state && list_all (fits_code (length machine.states)) (cells_at_places m.cells machine.muxes))) f

  pub no_readers : are_starts machine.reset (start_bits m state) ≡ true → is_count (length machine.states) ≡ true → are_read_well ports m machine.muxes machine.flop state ≡ false → None ≡ if_machine ports m state c machine
  no_readers e f g = sym (ap (λ t. cond t (Some machine) None) (counts_well e f ∙ ap (λ t. t && list_all (fits_code (length machine.states)) (cells_at_places m.cells machine.muxes)) g))

  pub by_width : are_starts machine.reset (start_bits m state) ≡ true → is_count (length machine.states) ≡ true → are_read_well ports m machine.muxes machine.flop state ≡ true → (b : Bool) → list_all (fits_code (length machine.states)) (cells_at_places m.cells machine.muxes) ≡ b → cond b (Some machine) None ≡ if_machine ports m state c machine
  by_width e f g b h = sym (ap (λ t. cond t (Some machine) None) (counts_well e f ∙ ap (λ t. t && list_all (fits_code (length machine.states)) (cells_at_places m.cells machine.muxes)) g ∙ h))

-- a machine of its parts
abbrev pub made_of : ℕ → ℕ → List ℕ → List ℕ → List (List Bit) → Option (List Bit) → Option (List Bit) → Machine
made_of wire flop muxes compares states reset start =
    record { wire = wire; flop = flop; muxes = muxes; compares = compares; states = states; reset = reset; start = start }

-- the places that are marked, in a list
pub places_are : (found : List Bool) (muxes : List ℕ) → muxes ≡ filter (is_done found) (range_with_len 0 (length found)) → ArePlaces muxes found
places_are found muxes e = subst (λ ps. ArePlaces ps found) (sym e) (marked_are found)

module _ (ports : Ports) (m : Module) (state : List SigBit) (c : Cell) (place at : ℕ) (found : List Bool) (list : List (List Bit)) (values : Starts) (made : Machine) (d : IsDraft m state place at found list values made) (muxes : List ℕ) (f : muxes ≡ filter (is_done found) (range_with_len 0 (length found))) where
  same_reads : are_read_well ports m made.muxes made.flop state ≡ are_read_well ports m muxes at state
  same_reads = λ i. are_read_well ports m ((d.muxes ∙ sym f) i) (d.flop i) state

  same_fits : list_all (fits_code (length made.states)) (cells_at_places m.cells made.muxes) ≡ list_all (fits_code (length list)) (cells_at_places m.cells muxes)
  same_fits = λ i. list_all (fits_code (length (d.states i))) (cells_at_places m.cells ((d.muxes ∙ sym f) i))

  pub draft_unread : are_read_well ports m muxes at state ≡ false → None ≡ if_machine ports m state c made
  draft_unread e = no_readers ports m state c made d.may_start d.count (same_reads ∙ e)

  pub draft_wide : are_read_well ports m muxes at state ≡ true → list_all (fits_code (length list)) (cells_at_places m.cells muxes) ≡ false → None ≡ if_machine ports m state c made
  draft_wide e g = by_width ports m state c made d.may_start d.count (same_reads ∙ e) false (same_fits ∙ g)

  pub draft_kept : are_read_well ports m muxes at state ≡ true → list_all (fits_code (length list)) (cells_at_places m.cells muxes) ≡ true
      → (flop : ℕ) → flop ≡ at → (compared : List ℕ) → compared ≡ filter (λ k. list_any (compares m state) (cells_at_places m.cells (k ∷ []))) (range_with_len 0 (length m.cells)) → (states : List (List Bit)) → states ≡ list
      → Some (made_of place flop muxes compared states values.reset values.start) ≡ if_machine ports m state c made
  draft_kept e g flop h compared k states l =
      (λ i. Some (made_of (sym d.wire i) ((h ∙ sym d.flop) i) ((f ∙ sym d.muxes) i) ((k ∙ sym d.compares) i) ((l ∙ sym d.states) i) (sym d.reset i) (sym d.start i)))
      ∙ by_width ports m state c made d.may_start d.count (same_reads ∙ e) true (same_fits ∙ g)

-- the machine of what is found
module _ (ports : Ports) (m : Module) (place : ℕ) (state : List SigBit) (flop : ℕ) (c : Cell) (t : Tree) (reach : Reach) (f : IsFound m reach t) where
  muxes_are : filter (is_done reach.found.items) (range_with_len 0 (length reach.found.items)) ≡ rising_places (length m.cells) t.forks
  muxes_are = λ i. filter (λ at. sym (f.forks at) i) (range_with_len 0 (f.count i))

  module _ (n : ℕ) (s : Starts) (are : AreStarts (reset_value c) (start_bits m state) s) (told : list_all (is_state_of n) (with_starts reach.known.items s) ≡ true) where
    states_are : in_state_order (with_starts reach.known.items s) ≡ (made_machine m place state flop c t).states
    states_are =
        order_is n reach.known.items (known_leaves t.leaves) (option_state s.reset ++ option_state s.start) told f.known f.learns
        ∙ (λ i. in_state_order (known_leaves t.leaves ++ (option_state (are.reset i) ++ option_state (are.start i))))

    pub found_draft : (states : List (List Bit)) → states ≡ in_state_order (with_starts reach.known.items s) → is_count (length (in_state_order (with_starts reach.known.items s))) ≡ true
        → IsDraft m state place flop reach.found.items states s (made_machine m place state flop c t)
    found_draft states is count = record {
      wire = refl;
      flop = refl;
      muxes = sym muxes_are;
      compares = refl;
      states = sym states_are ∙ sym is;
      reset = sym are.reset;
      start = sym are.start;
      may_start = are.test;
      count = ap (λ (l : List (List Bit)). is_count (length l)) (sym states_are) ∙ count;
    }

    pub found_few : is_count (length (in_state_order (with_starts reach.known.items s))) ≡ false → None ≡ if_machine ports m state c (made_machine m place state flop c t)
    found_few e = no_count ports m state c (made_machine m place state flop c t) are.test (ap (λ (l : List (List Bit)). is_count (length l)) (sym states_are) ∙ e)

  pub found_unknown : are_starts (reset_value c) (start_bits m state) ≡ false → None ≡ if_machine ports m state c (made_machine m place state flop c t)
  found_unknown e = no_starts ports m state c (made_machine m place state flop c t) e
