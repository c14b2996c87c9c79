-- What stands for each signal of the tree of a machine that is found, and the tree of such signals.
use Rattle.std.proofs.Common.{◌≡◌, ◌<◌, ℕ, zero, suc, ◌+◌, Bool, true, false, cond, List, [], ◌∷◌, ◌++◌, length, map, Option, Some, None, inl, inr, refl, sym, ◌∙◌, ap, subst, arith, take}
use Rattle.std.specs.Prelude.{◌&&◌, ◌||◌, drop, nat_lt, not, replicate, slice_get}
use Rattle.std.specs.List.{list_any}
use Rattle.std.specs.Option.{option_map_or}
use Rattle.std.proofs.lemmas.Bool.{and_parts, ltb-true, or_parts}
use Rattle.rtl_bits.proofs.Lists.{all_known_true}
use Rattle.rtl_bits.specs.Knowledge.{all_known, is_known}
use Rattle.rtl_bits.specs.Numbers.{number_of}
use Rattle.rtl_bits.specs.declared.bit.Bit.{Bit}
use Rattle.rtl_bits.specs.declared.bit.Bit.TheVariants.{X}
use Rattle.rtl_sig.specs.declared.sig.SigBit.{SigBit}
use Rattle.rtl_sig.specs.declared.sig.SigBit.TheVariants.{Fixed, Wire as OnWire}
use Rattle.cell_types.specs.Given.{number_in, value_in}
use Rattle.cell_types.specs.declared.kind.CellKind.{CellKind}
use Rattle.cell_types.specs.declared.kind.CellKind.TheVariants.{Word}
use Rattle.cell_types.specs.declared.param_name.ParamName.TheVariants.{Width}
use Rattle.cell_types.specs.declared.pin_name.PinName.TheVariants.{A, B, D, S, Y}
use Rattle.cell_types.specs.declared.word.WordKind.TheVariants.{Mux, Pmux}
use Rattle.rtl_ir.specs.Build.{whole}
use Rattle.rtl_ir.specs.Flat.Cell as flat
use Rattle.rtl_ir.specs.Flat.Cell.{cell_kind}
use Rattle.rtl_ir.specs.Follow.{follow}
use Rattle.rtl_ir.specs.Parameters.{given_params}
use Rattle.rtl_ir.specs.Signals.{has_constant, is_all_constant, constant_of, same_signal}
use Rattle.rtl_ir.specs.Types.{Ports}
use Rattle.rtl_ir.specs.declared.cell.Cell.{Cell}
use Rattle.rtl_ir.specs.declared.machine.Machine.{Machine}
use Rattle.rtl_ir.specs.declared.module.Module.{Module}
use Rattle.net_model.specs.Fsm.Code.{Output, code_of, coded, output_code}
use Rattle.net_model.specs.Fsm.Find.{arms_of, at_pin, has_place, is_fork, is_leaf, is_state_constant, is_unknown, parts_of, reset_value, start_bits}
use Rattle.net_model.specs.Lists.{In}
use Rattle.net_model.specs.Refine.{IsWellDriven}
use Rattle.net_model.specs.Within.{Each}
use Rattle.pass_laws.proofs.Outputs.{output_wires}
use Rattle.pass_laws.specs.Ready.{IsReady}
use Rattle.pass_laws.proofs.Finding.{in_place}
use Rattle.pass_laws.proofs.PinWidths.{param_reads, pin_fits}
use Rattle.fsm_laws.proofs.StateOrder.{HasNumber}
use Rattle.fsm_laws.proofs.StatesFound.{leaf_state}
use Rattle.fsm_laws.specs.Arms.{StandsFor}
use Rattle.fsm_laws.specs.Carried.{carrier_of}
use Rattle.fsm_laws.specs.Machines.{IsFoundMachine}
use Rattle.fsm_laws.specs.Recoded.{outputs_made}
use Rattle.fsm_laws.specs.Trees.{IsCodeTree, Constant, Unknown, State, Chosen, Picked}
use Rattle.fsm_laws.proofs.Standing.{in_code, old_fits}
use Rattle.fsm_laws.proofs.ArmsFound.{in_has, fork_carries, fork_kind, fork_output, fresh_at, mux_has, mux_made, pmux_made, state_carries}
use Rattle.fsm_laws.proofs.Setting.{cells, coding, outputs, state}
use Rattle.fsm_laws.proofs.StandFound.{constant_at, mapped_at, unknown_at, wire_at}
use Rattle.fsm_laws.proofs.TreeFound.{length_mapped, tree_all}
use Rattle.fsm_laws.proofs.Widths.{arms_wide, data_wide, leaves_wide, reset_known, reset_wide, start_wide}
use Rattle.pass_laws.proofs.SamePlaces.{signal_is}

pub positive : (known : Bool) (n : ℕ) → (known && nat_lt 0 n) ≡ true → 0 < n
positive known n e = ltb-true 0 n (and_parts known (nat_lt 0 n) e).1

-- a signal as wide as its parts is one part
pub one_part : (signal : List SigBit) (width : ℕ) → length signal ≡ width → 0 < width → parts_of (length signal) width signal ≡ signal ∷ []
one_part [] width e some = absurd (omega (arith, e, some))
one_part (s ∷ signal) width e some =
    let whole_is : take width (s ∷ signal) ≡ s ∷ signal = taken (s ∷ signal) width e in
    let none : drop width (s ∷ signal) ≡ [] = dropped (s ∷ signal) width e in
    (λ i. whole_is i ∷ parts_of (length signal) width (none i)) ∙ ap (λ z. (s ∷ signal) ∷ z) (no_parts (length signal))
  where
    taken : (xs : List SigBit) (w : ℕ) → length xs ≡ w → take w xs ≡ xs
    taken [] zero f = refl
    taken [] (suc w) f = absurd (omega (arith, f))
    taken (x ∷ xs) zero f = absurd (omega (arith, f))
    taken (x ∷ xs) (suc w) f = ap (λ z. x ∷ z) (taken xs w (omega (arith, f)))

    dropped : (xs : List SigBit) (w : ℕ) → length xs ≡ w → drop w xs ≡ []
    dropped [] zero f = refl
    dropped [] (suc w) f = absurd (omega (arith, f))
    dropped (x ∷ xs) zero f = absurd (omega (arith, f))
    dropped (x ∷ xs) (suc w) f = dropped xs w (omega (arith, f))

    no_parts : (k : ℕ) → parts_of k width [] ≡ []
    no_parts zero = refl
    no_parts (suc k) = refl

-- what stands at a place of what is made of a list
mapped_from : {X Z : Type 0} (f : X → Z) (xs : List X) (k : ℕ) (z : Z) → slice_get (map f xs) k ≡ Some z → (x : X) × ((slice_get xs k ≡ Some x) × (f x ≡ z))
mapped_from f [] k z e = absurd (cc)
mapped_from f (x ∷ xs) zero z e = let same : f x ≡ z = cc in (x, (refl, same))
mapped_from f (x ∷ xs) (suc k) z e = mapped_from f xs k z e

unlike : (ys : List SigBit) (b : Bit) (signal : List SigBit) → has_constant ys ≡ false → same_signal ys (Fixed b ∷ signal) ≡ false
unlike [] b signal e = refl
unlike (Fixed c ∷ ys) b signal e = absurd (cc)
unlike (OnWire q ∷ ys) b signal e = refl

-- a constant is no output
no_output : (width : ℕ) (all : List Cell) (wire : ℕ) (places : List ℕ) → ((p : ℕ) (c : Cell) → In p places → slice_get all p ≡ Some c → has_constant (at_pin c Y) ≡ false) → (b : Bit) (signal : List SigBit) → output_code (outputs_made width all wire places) (Fixed b ∷ signal) ≡ None
no_output width all wire [] h b signal = refl
no_output width all wire (p ∷ places) h b signal =
    by (slice_get all p) refl (no_output width all (wire + 1) places (λ q c i. h q c (inr i)) b signal)
  where
    rest : List Output
    rest = outputs_made width all (wire + 1) places

    by : (o : Option Cell) → slice_get all p ≡ o → output_code rest (Fixed b ∷ signal) ≡ None → output_code (option_map_or (λ (c : Cell). record { before = at_pin c Y; after = whole wire width } ∷ []) o [] ++ rest) (Fixed b ∷ signal) ≡ None
    by None e later = later
    by (Some c) e later =
        ap (λ t. cond t (Some (whole wire width)) (output_code rest (Fixed b ∷ signal))) (unlike (at_pin c Y) b signal (h p c (inl refl) e)) ∙ later

module _ (ports : Ports) (m : Module) (at : ℕ) (machine : Machine) (found : IsFoundMachine ports m at machine) (ready : IsReady ports m) (over : flat.Ports) (driven : IsWellDriven over m) where
  abbrev n : ℕ
  n = length machine.states

  abbrev held : List SigBit
  held = state ports m at machine found

  abbrev pub coded_by : List SigBit → List SigBit
  coded_by signal = coded (coding ports m at machine found) signal

  abbrev pub Stands : List SigBit → List SigBit → Type 0
  Stands old new = StandsFor found.wire.width machine.states m.links (outputs ports m at machine found) old new

  abbrev pub IsTree : List SigBit → Type 0
  IsTree new = IsCodeTree machine.states (coding ports m at machine found).code (cells ports m at machine found) new

  -- a followed signal, and what stands for it
  pub record IsStood (signal new : List SigBit) : Type 0 where
    pub stands : (old : List SigBit) → map (follow m.links) old ≡ signal → Stands old new
    pub tree : IsTree new

  abbrev pub Stood : List SigBit → Type 0
  Stood signal = IsStood signal (coded_by signal)

  -- what a bit leads to
  followed_at : (old signal : List SigBit) → map (follow m.links) old ≡ signal → (k : ℕ) (s : SigBit) → slice_get old k ≡ Some s → slice_get signal k ≡ Some (follow m.links s)
  followed_at old signal e k s f = ap (λ z. slice_get z k) (sym e) ∙ mapped_at (follow m.links) old k s f

  pub fork_wires : (k : ℕ) (c : Cell) → slice_get m.cells k ≡ Some c → is_fork (cell_kind c) ≡ true → has_constant (at_pin c Y) ≡ false
  fork_wires k c there e = by (cell_kind c) refl e
    where
      by : (o : Option CellKind) → cell_kind c ≡ o → is_fork o ≡ true → has_constant (at_pin c Y) ≡ false
      by (Some (Word Mux)) own f =
          output_wires (Word Mux) c Y refl (old_fits ports m at machine ready found k c there (Word Mux) own refl).output
      by (Some (Word Pmux)) own f =
          output_wires (Word Pmux) c Y refl (old_fits ports m at machine ready found k c there (Word Pmux) own refl).output
      by o own f = absurd (cc)

  -- the state
  state_stood : (signal : List SigBit) → held ≡ signal → IsStood signal (coding ports m at machine found).code
  state_stood signal e = record {
    stands = λ old f k s g lt. inl (state_carries ports m at machine found ready k lt (follow m.links s) (ap (λ z. slice_get z k) e ∙ followed_at old signal f k s g));
    tree = State;
  }

  -- a known constant
  has_number : (signal : List SigBit) → In signal found.tree.leaves → is_state_constant signal ≡ true → HasNumber machine.states (number_of (map constant_of signal))
  has_number signal i e =
      subst (λ z. HasNumber z (number_of (map constant_of signal))) (sym (ap (λ (z : Machine). z.states) found.made))
      (leaf_state found.wire.width found.tree.leaves (reset_value found.flop) (start_bits m held) (leaves_wide ports m at machine found ready) (reset_known ports m at machine found ready) (reset_wide ports m at machine found ready) (start_wide ports m at machine found ready) signal i e)

  constant_stood : (signal : List SigBit) → In signal found.tree.leaves → is_state_constant signal ≡ true → length signal ≡ found.wire.width → IsStood signal (map Fixed (code_of machine.states (number_of (map constant_of signal))))
  constant_stood signal i e wide =
      let both = and_parts (is_all_constant signal) (all_known (map constant_of signal)) e in
      let number = has_number signal i e in
      record {
        stands = λ old f k s g lt. inr (inl (record {
          constant = map constant_of signal;
          known = all_known_true (map constant_of signal) both.1;
          wide = length_mapped constant_of signal ∙ wide;
          leads = constant_at signal k (follow m.links s) both.0 (followed_at old signal f k s g);
          code = refl;
        }));
        tree = Constant number.place number.state number.there (number_of (map constant_of signal)) number.number;
      }

  -- an unknown constant
  unknown_code : (signal : List SigBit) → is_all_constant signal ≡ true → is_state_constant signal ≡ false → output_code (coding ports m at machine found).outputs signal ≡ None
  unknown_code [] e f = absurd (cc)
  unknown_code (OnWire q ∷ signal) e f = absurd (cc)
  unknown_code (Fixed b ∷ signal) e f =
      no_output n m.cells (length m.wires + 1) machine.muxes (λ p c i there. fork_wires p c there (fork_kind ports m at machine found ready p c there (in_has machine.muxes p i))) b signal

  unknown_stood : (signal : List SigBit) → is_unknown signal ≡ true → (new : List SigBit) → new ≡ replicate n (Fixed X) → IsStood signal new
  unknown_stood signal e new is =
      let both = and_parts (is_all_constant signal) (not (list_any (λ s. is_known (constant_of s)) signal)) e in
      let none : list_any (λ s. is_known (constant_of s)) signal ≡ false = turned (list_any (λ s. is_known (constant_of s)) signal) both.1 in
      record {
        stands = λ old f k s g lt.
            let bit = unknown_at signal k (follow m.links s) both.0 none (followed_at old signal f k s g) in
            inr (inr (record { value = bit.0; unknown = bit.1.0; leads = bit.1.1 }));
        tree = subst IsTree (sym is) Unknown;
      }
    where
      turned : (t : Bool) → not t ≡ true → t ≡ false
      turned false f = refl
      turned true f = absurd (cc)

  leaf_stood : (signal : List SigBit) → In signal found.tree.leaves → is_leaf held signal ≡ true → length signal ≡ found.wire.width → Stood signal
  leaf_stood signal i e wide = by (same_signal held signal) refl (is_state_constant signal) refl (is_unknown signal) refl e
    where
      by : (t : Bool) → same_signal held signal ≡ t → (u : Bool) → is_state_constant signal ≡ u → (v : Bool) → is_unknown signal ≡ v → (u || (v || t)) ≡ true
          → IsStood signal (cond t (coding ports m at machine found).code (cond u (map Fixed (code_of machine.states (number_of (map constant_of signal)))) (option_map_or (λ (s : List SigBit). s) (output_code (coding ports m at machine found).outputs signal) (replicate n (Fixed X)))))
      by true et u eu v ev h = state_stood signal (signal_is held signal et)
      by false et true eu v ev h = constant_stood signal i eu wide
      by false et false eu true ev h =
          unknown_stood signal ev _ (ap (λ o. option_map_or (λ (s : List SigBit). s) o (replicate n (Fixed X))) (unknown_code signal (and_parts (is_all_constant signal) (not (list_any (λ s. is_known (constant_of s)) signal)) ev).0 eu))
      by false et false eu false ev h = absurd (cc)

  -- the output of a cell of the tree
  module _ (k : ℕ) (c : Cell) (there : slice_get m.cells k ≡ Some c) (has : has_place machine.muxes k ≡ true) where
    abbrev fresh : List SigBit
    fresh = whole (fresh_at ports m at machine found ready k) n

    abbrev pub code_arm : List SigBit → List SigBit
    code_arm arm = coded_by (map (follow m.links) arm)

    abbrev pub parts : List (List SigBit)
    parts = parts_of (length (at_pin c B)) (length (at_pin c A)) (at_pin c B)

    pub mux_parts : cell_kind c ≡ Some (Word Mux) → parts ≡ at_pin c B ∷ []
    mux_parts own =
        let was = old_fits ports m at machine ready found k c there (Word Mux) own refl in
        let params = given_params c.params in
        let wide : 0 < number_in params Width = positive (all_known (value_in params Width)) (number_in params Width) (param_reads (Word Mux) c Width was.shape (inl refl)) in
        let la : length (at_pin c A) ≡ number_in params Width = pin_fits (Word Mux) c A was.shape refl (inl refl) in
        let lb : length (at_pin c B) ≡ number_in params Width = pin_fits (Word Mux) c B was.shape refl (inr (inl refl)) in
        one_part (at_pin c B) (length (at_pin c A)) (lb ∙ sym la) (omega (arith, la, wide))

    pub arms_long : (j : ℕ) (part : List SigBit) → slice_get (map code_arm parts) j ≡ Some part → length part ≡ n
    arms_long j part e =
        let from = mapped_from code_arm parts j part e in
        ap length (sym from.1.1) ∙ (in_code ports m at machine ready found (map (follow m.links) from.0)).wide

    fork_tree : Each (λ arm. IsTree (code_arm arm)) (arms_of c) → IsTree fresh
    fork_tree below = by (cell_kind c) refl (fork_kind ports m at machine found ready k c there has)
      where
        by : (o : Option CellKind) → cell_kind c ≡ o → is_fork o ≡ true → IsTree fresh
        by (Some (Word Mux)) own f =
            let last : In (at_pin c B) parts = subst (In (at_pin c B)) (sym (mux_parts own)) (inl refl) in
            Chosen c (code_arm (at_pin c A)) (code_arm (at_pin c B)) (at_pin c S) (fresh_at ports m at machine found ready k) own
            (mux_made ports m at machine found ready k c there has own (mux_parts own)) (below (at_pin c A) (inl refl)) (below (at_pin c B) (inr last))
        by (Some (Word Pmux)) own f =
            Picked c (length (at_pin c S)) (code_arm (at_pin c A)) (at_pin c S) (map code_arm parts) (fresh_at ports m at machine found ready k) own
            (pmux_made ports m at machine found ready k c there has own) (below (at_pin c A) (inl refl)) arms_long
            (λ j part e. let from = mapped_from code_arm parts j part e in subst IsTree from.1.1 (below from.0 (inr (in_place parts j from.0 from.1.0))))
        by o own f = absurd (cc)

    fork_code : is_leaf held (at_pin c Y) ≡ false → coded_by (at_pin c Y) ≡ fresh
    fork_code e =
        let known = or_parts (is_state_constant (at_pin c Y)) (is_unknown (at_pin c Y) || same_signal held (at_pin c Y)) e in
        let other = or_parts (is_unknown (at_pin c Y)) (same_signal held (at_pin c Y)) known.1 in
        λ i. cond (other.1 i) (coding ports m at machine found).code (cond (known.0 i) (map Fixed (code_of machine.states (number_of (map constant_of (at_pin c Y))))) (option_map_or (λ (s : List SigBit). s) (fork_output ports m at machine found ready k c there has i) (replicate n (Fixed X))))

    pub fork_stood : is_leaf held (at_pin c Y) ≡ false → Each (λ arm. IsTree (code_arm arm)) (arms_of c) → Stood (at_pin c Y)
    fork_stood e below =
        subst (IsStood (at_pin c Y)) (sym (fork_code e)) (record { stands = stands_for; tree = fork_tree below })
      where
        stands_for : (old : List SigBit) → map (follow m.links) old ≡ at_pin c Y → Stands old fresh
        stands_for old f j s g lt =
            let bit = followed_at old (at_pin c Y) f j s g in
            let wire = wire_at (at_pin c Y) j (follow m.links s) (fork_wires k c there (fork_kind ports m at machine found ready k c there has)) bit in
            inl (ap (carrier_of (outputs ports m at machine found)) wire.1 ∙ fork_carries ports m at machine found ready over driven k c there has j wire.0 (bit ∙ ap Some wire.1))

  -- all of the tree, from what the flip-flop reads
  pub record IsArms (k : ℕ) : Type 0 where
    pub wide : (c : Cell) → slice_get m.cells k ≡ Some c → length (at_pin c Y) ≡ found.wire.width
    pub arms : (c : Cell) → slice_get m.cells k ≡ Some c → Each (λ arm. Stood (map (follow m.links) arm)) (arms_of c)

  pub tree_stood : Stood (map (follow m.links) (at_pin found.flop D)) × Each IsArms found.tree.forks
  tree_stood =
      tree_all m held found.tree.forks found.tree.leaves found.wire.width Stood IsArms (arms_wide ports m at machine found ready) leaf_stood fork (length m.cells + 1) (map (follow m.links) (at_pin found.flop D)) found.tree found.tree_is
      (length_mapped (follow m.links) (at_pin found.flop D) ∙ data_wide ports m at machine found ready) (λ p i. i, λ l i. i)
    where
      same_cell : (p : ℕ) (c d : Cell) → slice_get m.cells p ≡ Some c → slice_get m.cells p ≡ Some d → c ≡ d
      same_cell p c d e f = let both : Some c ≡ Some d = sym e ∙ f in cc

      fork : (p : ℕ) (c : Cell) → slice_get m.cells p ≡ Some c → In p found.tree.forks → is_fork (cell_kind c) ≡ true → length (at_pin c Y) ≡ found.wire.width → is_leaf held (at_pin c Y) ≡ false → Each (λ arm. Stood (map (follow m.links) arm)) (arms_of c) → Stood (at_pin c Y) × IsArms p
      fork p c there i kind wide e below = (
        fork_stood p c there (mux_has ports m at machine found ready p c there i) e (λ arm j. (below arm j).tree),
        record {
          wide = λ d f. ap (λ (z : Cell). length (at_pin z Y)) (same_cell p d c f there) ∙ wide;
          arms = λ d f. subst (λ (z : Cell). Each (λ arm. Stood (map (follow m.links) arm)) (arms_of z)) (same_cell p c d there f) below;
        },
      )
