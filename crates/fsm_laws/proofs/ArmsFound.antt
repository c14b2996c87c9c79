-- The cells of the tree of a machine that is found, in the code: what they become, what their outputs carry, and what stands for
-- their arms.
use Rattle.std.proofs.Common.{◌≡◌, ◌<◌, ℕ, zero, suc, ◌+◌, Bool, true, false, cond, List, [], ◌∷◌, ◌++◌, append-nil, length, map, Option, Some, None, inl, inr, refl, sym, ◌∙◌, ap, subst, arith}
use Rattle.std.specs.Prelude.{◌==◌, ◌||◌, codes, flat_map, slice_get}
use Rattle.std.specs.List.{range_with_len}
use Rattle.std.specs.Option.{option_map_or}
use Rattle.std.proofs.lemmas.Bool.{and_parts, eq-eqb, eqb-true}
use Rattle.rtl_sig.specs.declared.sig.SigBit.{SigBit}
use Rattle.rtl_sig.specs.declared.sig.SigBit.TheVariants.{Fixed, Wire as OnWire}
use Rattle.rtl_sig.specs.declared.sig.WireBit.{WireBit}
use Rattle.cell_types.specs.declared.kind.CellKind.{CellKind}
use Rattle.cell_types.specs.declared.kind.CellKind.TheVariants.{Storage, Word}
use Rattle.cell_types.specs.declared.pin_name.PinName.TheVariants.{A, B, D, Q, S, Y}
use Rattle.cell_types.specs.declared.storage.StorageKind.TheVariants.{Adff, Dff}
use Rattle.cell_types.specs.declared.word.WordKind.TheVariants.{Mux, Pmux}
use Rattle.rtl_ir.specs.Build.{pin_of, whole}
use Rattle.rtl_ir.specs.Flat.Cell as flat
use Rattle.rtl_ir.specs.Flat.Cell.{cell_kind}
use Rattle.rtl_ir.specs.Follow.{follow}
use Rattle.rtl_ir.specs.Types.{Ports}
use Rattle.rtl_ir.specs.Signals.{same_signal}
use Rattle.rtl_ir.specs.declared.cell.Cell.{Cell}
use Rattle.rtl_ir.specs.declared.machine.Machine.{Machine}
use Rattle.rtl_ir.specs.declared.module.Module.{Module}
use Rattle.follow_laws.proofs.Following.{stays}
use Rattle.net_model.specs.Fsm.Code.{coded, coded_flop, coded_fork, fork_params, or_nothing, output_code}
use Rattle.net_model.specs.Fsm.Find.{at_pin, has_place, is_flop, is_fork, parts_of, rising_places}
use Rattle.net_model.specs.Lists.{In}
use Rattle.net_model.specs.Refine.{IsWellDriven}
use Rattle.pass_laws.specs.Ready.{IsReady}
use Rattle.pass_laws.proofs.Finding.{in_place, in_filtered}
use Rattle.fsm_laws.proofs.Made.{made_among}
use Rattle.fsm_laws.specs.Carried.{carrier_in, carrier_of, place_in}
use Rattle.fsm_laws.specs.Forks.{mux_like, pmux_like}
use Rattle.fsm_laws.specs.Machines.{IsFoundMachine}
use Rattle.fsm_laws.specs.Recoded.{cell_made, compare_cells, asked_bit}
use Rattle.net_model.specs.Fsm.Code.{is_equal}
use Rattle.fsm_laws.proofs.Measures.{position}
use Rattle.fsm_laws.proofs.Places.{forks_apart, has_in, in_passed, output_at}
use Rattle.fsm_laws.proofs.Trees.{IsForkAt, tree_forks}
use Rattle.fsm_laws.proofs.CarriersFound.{carried_at, place_is, place_none, whole_get_bit}
use Rattle.fsm_laws.proofs.OneDriver.{Gives, no_connection, one_bit, one_cell}
use Rattle.fsm_laws.proofs.StandFound.{got_below}
use Rattle.fsm_laws.proofs.Setting.{cells, coding, outputs, state}
use Rattle.pass_laws.proofs.SamePlaces.{signal_is}

-- places among places
pub in_has : (places : List ℕ) (at : ℕ) → In at places → has_place places at ≡ true
in_has [] at i = absurd i
in_has (p ∷ places) at (inl e) = ap (λ t. t || has_place places at) (eq-eqb p at (sym e))
in_has (p ∷ places) at (inr i) = by (p == at) (in_has places at i)
  where
    by : (t : Bool) → has_place places at ≡ true → (t || has_place places at) ≡ true
    by true h = refl
    by false h = h

in_range : (from n k : ℕ) → k < n → In (from + k) (range_with_len from n)
in_range from zero k lt = absurd (omega (arith, lt))
in_range from (suc n) zero lt = inl (omega arith)
in_range from (suc n) (suc k) lt =
    let next : (from + 1) + k ≡ from + suc k = omega arith in
    inr (subst (λ z. In z (range_with_len (from + 1) n)) next (in_range (from + 1) n k (omega (arith, lt))))

-- bits of a wire are one at one place alone
place_on : SigBit → ℕ
place_on (Fixed c) = 0
place_on (OnWire b) = b.at

same_at : (at k j : ℕ) → OnWire (record { wire = at; at = k }) ≡ OnWire (record { wire = at; at = j }) → k ≡ j
unfolding place_on
same_at at k j e = ap place_on e

-- no cell is both
fork_no_flop : (o : Option CellKind) → is_fork o ≡ true → is_flop o ≡ true → ⊥
fork_no_flop (Some (Word Mux)) e f = cc
fork_no_flop (Some (Word Pmux)) e f = cc
fork_no_flop o e f = cc

module _ (ports : Ports) (m : Module) (at : ℕ) (machine : Machine) (found : IsFoundMachine ports m at machine) (ready : IsReady ports m) where
  abbrev n : ℕ
  n = length machine.states

  abbrev held : List SigBit
  held = state ports m at machine found

  -- the fresh output of a cell of the tree
  abbrev pub fresh_at : ℕ → ℕ
  fresh_at k = length m.wires + 1 + position machine.muxes k

  -- the flip-flop is at its place
  pub flop_same : (k : ℕ) (c : Cell) → slice_get m.cells k ≡ Some c → (k == machine.flop) ≡ true → found.flop ≡ c
  flop_same k c there e =
      let place : k ≡ found.place = eqb-true k machine.flop e ∙ ap (λ (z : Machine). z.flop) found.made in
      let both : Some found.flop ≡ Some c = sym found.flop_there ∙ ap (slice_get m.cells) (sym place) ∙ there in
      cc

  pub flop_kind : is_flop (cell_kind found.flop) ≡ true
  flop_kind = (and_parts (is_flop (cell_kind found.flop)) (same_signal (at_pin found.flop Q) held) found.flop_is).0

  pub flop_output : at_pin found.flop Q ≡ held
  flop_output =
      signal_is (at_pin found.flop Q) held (and_parts (is_flop (cell_kind found.flop)) (same_signal (at_pin found.flop Q) held) found.flop_is).1

  -- the places of the tree
  muxes_are : machine.muxes ≡ rising_places (length m.cells) found.tree.forks
  muxes_are = ap (λ (z : Machine). z.muxes) found.made

  pub mux_has : (k : ℕ) (c : Cell) → slice_get m.cells k ≡ Some c → In k found.tree.forks → has_place machine.muxes k ≡ true
  mux_has k c there i =
      let below : k < length m.cells = got_below m.cells k c there in
      let zero_more : 0 + k ≡ k = omega arith in
      let ranged : In k (range_with_len 0 (length m.cells)) = subst (λ z. In z (range_with_len 0 (length m.cells))) zero_more (in_range 0 (length m.cells) k below) in
      let passed : In k (rising_places (length m.cells) found.tree.forks) = in_filtered (has_place found.tree.forks) (range_with_len 0 (length m.cells)) k ranged (in_has found.tree.forks k i) in
      in_has machine.muxes k (subst (In k) (sym muxes_are) passed)

  pub fork_at : (p : ℕ) → In p machine.muxes → (In p found.tree.forks) × IsForkAt m p
  fork_at p i =
      let j : In p (rising_places (length m.cells) found.tree.forks) = subst (In p) muxes_are i in
      let has : has_place found.tree.forks p ≡ true = in_passed (has_place found.tree.forks) (range_with_len 0 (length m.cells)) p j in
      (has_in found.tree.forks p has, tree_forks m held (length m.cells + 1) (map (follow m.links) (at_pin found.flop D)) found.tree found.tree_is p (has_in found.tree.forks p has))

  pub fork_kind : (k : ℕ) (c : Cell) → slice_get m.cells k ≡ Some c → has_place machine.muxes k ≡ true → is_fork (cell_kind c) ≡ true
  fork_kind k c there e =
      let mine = (fork_at k (has_in machine.muxes k e)).1 in
      let both : Some mine.cell ≡ Some c = sym mine.there ∙ there in
      let same : mine.cell ≡ c = cc in
      ap (λ (z : Cell). is_fork (cell_kind z)) (sym same) ∙ mine.fork

  pub not_flop : (k : ℕ) (c : Cell) → slice_get m.cells k ≡ Some c → is_fork (cell_kind c) ≡ true → (k == machine.flop) ≡ false
  not_flop k c there e = by (k == machine.flop) refl
    where
      by : (t : Bool) → (k == machine.flop) ≡ t → t ≡ false
      by false f = refl
      by true f = absurd (fork_no_flop (cell_kind c) e (ap (λ (z : Cell). is_flop (cell_kind z)) (sym (flop_same k c there f)) ∙ flop_kind))

  -- a cell of the tree
  module _ (k : ℕ) (c : Cell) (there : slice_get m.cells k ≡ Some c) (has : has_place machine.muxes k ≡ true) where
    pub fork_output : output_code (coding ports m at machine found).outputs (at_pin c Y) ≡ Some (whole (fresh_at k) n)
    fork_output =
        output_at n m.cells (length m.wires + 1) machine.muxes k c there has (λ p x i f g. forks_apart m p k x c (fork_at p i).1 (fork_at k (has_in machine.muxes k has)).1 f there g)

    abbrev code_arm : List SigBit → List SigBit
    code_arm arm = coded (coding ports m at machine found) (map (follow m.links) arm)

    abbrev parts : List (List SigBit)
    parts = parts_of (length (at_pin c B)) (length (at_pin c A)) (at_pin c B)

    -- it stands among the cells that are made
    fork_here : cell_made m machine (coding ports m at machine found) k c ≡ coded_fork m (coding ports m at machine found) c ∷ []
    fork_here =
        (λ i. cond (not_flop k c there (fork_kind k c there has) i) (coded_flop m (coding ports m at machine found) machine.reset c ∷ []) (cond (has i) (coded_fork m (coding ports m at machine found) c ∷ []) (cond (has_place machine.compares k) (compare_cells c (is_equal (cell_kind c)) (asked_bit m (coding ports m at machine found) c) (at_pin c Y)) (c ∷ []))))

    fork_made : In (coded_fork m (coding ports m at machine found) c) (cells ports m at machine found)
    fork_made =
        let first : k ≡ 0 + k = omega arith in
        let here : In (coded_fork m (coding ports m at machine found) c) (cell_made m machine (coding ports m at machine found) k c) = subst (In (coded_fork m (coding ports m at machine found) c)) (sym fork_here) (inl refl) in
        made_among m machine (coding ports m at machine found) 0 k m.cells c there (coded_fork m (coding ports m at machine found) c) (subst (λ z. In (coded_fork m (coding ports m at machine found) c) (cell_made m machine (coding ports m at machine found) z c)) first here)

    pub pmux_made : cell_kind c ≡ Some (Word Pmux) → In (pmux_like c n (length (at_pin c S)) (code_arm (at_pin c A)) (flat_map (λ (s : List SigBit). s) (map code_arm parts)) (at_pin c S) (whole (fresh_at k) n)) (cells ports m at machine found)
    pmux_made own =
        subst (λ d. In d (cells ports m at machine found)) is fork_made
      where
        is : coded_fork m (coding ports m at machine found) c ≡ pmux_like c n (length (at_pin c S)) (code_arm (at_pin c A)) (flat_map (λ (s : List SigBit). s) (map code_arm parts)) (at_pin c S) (whole (fresh_at k) n)
        is = λ i. record c {
          params = fork_params (own i) n (length (at_pin c S));
          pins =
              pin_of (codes "\\A") (code_arm (at_pin c A))
              ∷ pin_of (codes "\\B") (flat_map (λ (s : List SigBit). s) (map code_arm parts))
              ∷ pin_of (codes "\\S") (at_pin c S)
              ∷ pin_of (codes "\\Y") (or_nothing (fork_output i))
              ∷ [];
        }

    pub mux_made : cell_kind c ≡ Some (Word Mux) → parts ≡ at_pin c B ∷ [] → In (mux_like c n (code_arm (at_pin c A)) (code_arm (at_pin c B)) (at_pin c S) (whole (fresh_at k) n)) (cells ports m at machine found)
    mux_made own one =
        subst (λ d. In d (cells ports m at machine found)) (is ∙ last) fork_made
      where
        is : coded_fork m (coding ports m at machine found) c ≡ mux_like c n (code_arm (at_pin c A)) (code_arm (at_pin c B) ++ []) (at_pin c S) (whole (fresh_at k) n)
        is = λ i. record c {
          params = fork_params (own i) n (length (at_pin c S));
          pins =
              pin_of (codes "\\A") (code_arm (at_pin c A))
              ∷ pin_of (codes "\\B") (flat_map (λ (s : List SigBit). s) (map code_arm (one i)))
              ∷ pin_of (codes "\\S") (at_pin c S)
              ∷ pin_of (codes "\\Y") (or_nothing (fork_output i))
              ∷ [];
        }

        last : mux_like c n (code_arm (at_pin c A)) (code_arm (at_pin c B) ++ []) (at_pin c S) (whole (fresh_at k) n) ≡ mux_like c n (code_arm (at_pin c A)) (code_arm (at_pin c B)) (at_pin c S) (whole (fresh_at k) n)
        last = ap (λ b. mux_like c n (code_arm (at_pin c A)) b (at_pin c S) (whole (fresh_at k) n)) (append-nil (code_arm (at_pin c B)))

  -- the state carries itself
  pub state_carries : (k : ℕ) → k < found.wire.width → (s : SigBit) → slice_get held k ≡ Some s → carrier_of (outputs ports m at machine found) s ≡ Some (record { code = (coding ports m at machine found).code; bit = k })
  state_carries k lt s e =
      let is = whole_get_bit at found.wire.width k s e in
      let b : WireBit = record { wire = at; at = k } in
      let there : slice_get held k ≡ Some (OnWire b) = e ∙ ap Some is.1 in
      let zero_more : 0 + k ≡ k = omega arith in
      let placed : place_in held b 0 ≡ Some k = place_is held b 0 k there (λ j f.
      let other : OnWire b ≡ OnWire (record { wire = at; at = j }) = (whole_get_bit at found.wire.width j (OnWire b) f).1 in
      sym (same_at at k j other)) ∙ ap Some zero_more in
      ap (carrier_of (outputs ports m at machine found)) is.1
      ∙ ap (λ o. option_map_or (λ j. Some (record { code = (coding ports m at machine found).code; bit = j })) o (carrier_in (coding ports m at machine found).outputs b)) placed

  module _ (over : flat.Ports) (driven : IsWellDriven over m) where
    -- what the flip-flop and the cells of the tree drive
    gives_y : (c : Cell) → is_fork (cell_kind c) ≡ true → (j : ℕ) (b : WireBit) → slice_get (at_pin c Y) j ≡ Some (OnWire b) → Gives over m driven c b
    gives_y c e j b f = by (cell_kind c) refl e
      where
        by : (o : Option CellKind) → cell_kind c ≡ o → is_fork o ≡ true → Gives over m driven c b
        by (Some (Word Mux)) own g = record { kind = Word Mux; own = own; plain = refl; place = j; there = f }
        by (Some (Word Pmux)) own g = record { kind = Word Pmux; own = own; plain = refl; place = j; there = f }
        by o own g = absurd (cc)

    gives_q : (c : Cell) → is_flop (cell_kind c) ≡ true → (j : ℕ) (b : WireBit) → slice_get (at_pin c Q) j ≡ Some (OnWire b) → Gives over m driven c b
    gives_q c e j b f = by (cell_kind c) refl e
      where
        by : (o : Option CellKind) → cell_kind c ≡ o → is_flop o ≡ true → Gives over m driven c b
        by (Some (Storage Dff)) own g = record { kind = Storage Dff; own = own; plain = refl; place = j; there = f }
        by (Some (Storage Adff)) own g = record { kind = Storage Adff; own = own; plain = refl; place = j; there = f }
        by o own g = absurd (cc)

    y_once : (k : ℕ) (c : Cell) → slice_get m.cells k ≡ Some c → is_fork (cell_kind c) ≡ true → (i j : ℕ) (b : WireBit) → slice_get (at_pin c Y) i ≡ Some (OnWire b) → slice_get (at_pin c Y) j ≡ Some (OnWire b) → i ≡ j
    y_once k c there e i j b f h = by (cell_kind c) refl e
      where
        by : (o : Option CellKind) → cell_kind c ≡ o → is_fork o ≡ true → i ≡ j
        by (Some (Word Mux)) own g = one_bit over m driven c (in_place m.cells k c there) (Word Mux) own refl i j b f h
        by (Some (Word Pmux)) own g = one_bit over m driven c (in_place m.cells k c there) (Word Pmux) own refl i j b f h
        by o own g = absurd (cc)

    -- a bit of the output of a cell of the tree
    pub fork_carries : (k : ℕ) (c : Cell) → slice_get m.cells k ≡ Some c → has_place machine.muxes k ≡ true → (j : ℕ) (q : WireBit) → slice_get (at_pin c Y) j ≡ Some (OnWire q) → carrier_of (outputs ports m at machine found) (OnWire q) ≡ Some (record { code = whole (fresh_at k) n; bit = j })
    fork_carries k c there has j q bit =
        let fork = fork_kind k c there has in
        let mine = gives_y c fork j q bit in
        let none : place_in held q 0 ≡ None = place_none held q 0 (λ i e.
        let of_flop = gives_q found.flop flop_kind i q (ap (λ s. slice_get s i) flop_output ∙ e) in
        let place : k ≡ found.place = one_cell over m driven k found.place c found.flop there found.flop_there q mine of_flop in
        let yes : (k == machine.flop) ≡ true = eq-eqb k machine.flop (place ∙ sym (ap (λ (z : Machine). z.flop) found.made)) in
        let no : true ≡ false = sym yes ∙ not_flop k c there fork in
        absurd (cc)) in
        ap (λ o. option_map_or (λ i. Some (record { code = (coding ports m at machine found).code; bit = i })) o (carrier_in (coding ports m at machine found).outputs q)) none
        ∙ carried_at n m.cells k c there q j bit (λ i e. y_once k c there fork i j q e bit) (length m.wires + 1) machine.muxes has
        (λ p d i l e f. one_cell over m driven p k d c e there q (gives_y d (fork_kind p d e (in_has machine.muxes p l)) i q f) mine)

    -- no connection drives it, nor the state
    pub fork_stays : (k : ℕ) (c : Cell) → slice_get m.cells k ≡ Some c → has_place machine.muxes k ≡ true → (j : ℕ) (q : WireBit) → slice_get (at_pin c Y) j ≡ Some (OnWire q) → follow m.links (OnWire q) ≡ OnWire q
    fork_stays k c there has j q bit =
        stays m.links (OnWire q) (no_connection over m driven c (in_place m.cells k c there) q (gives_y c (fork_kind k c there has) j q bit))

    pub state_stays : (j : ℕ) (q : WireBit) → slice_get held j ≡ Some (OnWire q) → follow m.links (OnWire q) ≡ OnWire q
    state_stays j q bit =
        stays m.links (OnWire q) (no_connection over m driven found.flop (in_place m.cells found.place found.flop found.flop_there) q (gives_q found.flop flop_kind j q (ap (λ s. slice_get s j) flop_output ∙ bit)))
