-- What stands in the place of a cell of the tree.
use Rattle.std.proofs.Common.{◌≡◌, ◌<◌, ◌≤◌, ℕ, zero, suc, ◌+◌, ◌*◌, Bool, true, List, [], ◌∷◌, length, map, Option, Some, inl, inr, refl, sym, ◌∙◌, ap, subst, arith}
use Rattle.std.specs.Prelude.{◌&&◌, codes, flat_map, nat_lt, slice_get}
use Rattle.std.specs.List.{range_with_len}
use Rattle.std.proofs.lemmas.Bool.{and_parts, leb-true, ltb-true}
use Rattle.rtl_bits.specs.Knowledge.{all_known}
use Rattle.rtl_sig.specs.declared.sig.SigBit.{SigBit}
use Rattle.cell_types.specs.Given.{number_in, value_in}
use Rattle.cell_types.specs.declared.kind.CellKind.{CellKind}
use Rattle.cell_types.specs.declared.kind.CellKind.TheVariants.{Word}
use Rattle.cell_types.specs.declared.param_name.ParamName.TheVariants.{SWidth, Width}
use Rattle.cell_types.specs.declared.pin_name.PinName.TheVariants.{A, B, D, S, Y}
use Rattle.cell_types.specs.declared.word.WordKind.TheVariants.{Mux, Pmux}
use Rattle.rtl_ir.specs.Build.{pin_of, whole}
use Rattle.rtl_ir.specs.Flat.Cell.{cell_kind}
use Rattle.rtl_ir.specs.Follow.{follow}
use Rattle.rtl_ir.specs.Parameters.{given_params}
use Rattle.rtl_ir.specs.Signals.{bits_of_wire}
use Rattle.rtl_ir.specs.Types.{Ports}
use Rattle.rtl_ir.specs.declared.cell.Cell.{Cell}
use Rattle.rtl_ir.specs.declared.machine.Machine.{Machine}
use Rattle.rtl_ir.specs.declared.module.Module.{Module}
use Rattle.net_model.specs.Fsm.Code.{Coding, coded, coded_fork, fork_params, or_nothing, output_code}
use Rattle.net_model.specs.Fsm.Find.{at_pin, fits_code, has_place, is_fork, parts_of, rising_places, whole_wire}
use Rattle.net_model.specs.Lists.{In}
use Rattle.net_model.specs.Within.{CellIn}
use Rattle.pass_laws.specs.Ready.{IsReady}
use Rattle.build_laws.proofs.CellFits.{no_constant}
use Rattle.pass_laws.proofs.PinWidths.{param_reads, pin_fits}
use Rattle.fsm_laws.specs.Machines.{IsFoundMachine}
use Rattle.fsm_laws.specs.Recoded.{machine_coding}
use Rattle.fsm_laws.proofs.Fits.{mux_fit, pmux_fit}
use Rattle.fsm_laws.proofs.Measures.{position}
use Rattle.fsm_laws.proofs.Places.{cells_all, forks_apart, has_in, in_passed, output_at}
use Rattle.fsm_laws.proofs.Signals.{IsSignal, joined_is, output_in, parts_count}
use Rattle.fsm_laws.proofs.Trees.{IsForkAt, tree_forks}
use Rattle.fsm_laws.proofs.Standing.{Fresh, IsReplaced, four_pins, asked, some, narrow, codes_are, in_code, old_in, old_fits, one_new}

positive : (known : Bool) (n : ℕ) → (known && nat_lt 0 n) ≡ true → 0 < n
positive known n e = ltb-true 0 n (and_parts known (nat_lt 0 n) e).1

less_times : (a b : ℕ) → 0 < b → a * b ≤ 4096 → a ≤ 4096
less_times a zero h k = absurd (omega (arith, h))
less_times a (suc b) h k = let more : a * suc b ≡ a + a * b = grind arith in omega (arith, k, more)

below_times : (a b : ℕ) → 0 < a → b ≤ a * b
below_times zero b h = absurd (omega (arith, h))
below_times (suc a) b h = let more : suc a * b ≡ b + a * b = grind arith in omega (arith, more)

module _ (ports : Ports) (m : Module) (wire : ℕ) (machine : Machine) (ready : IsReady ports m) (found : IsFoundMachine ports m wire machine) (at : ℕ) (cell : Cell) (there : slice_get m.cells at ≡ Some cell) where
  abbrev count : ℕ
  count = length m.wires + 1 + length machine.muxes

  abbrev state : List SigBit
  state = whole_wire wire found.wire

  abbrev coding : Coding
  coding = machine_coding m machine state

  abbrev n : ℕ
  n = length machine.states

  -- a cell of the tree
  fork_at : (p : ℕ) → In p machine.muxes → (has_place found.tree.forks p ≡ true) × IsForkAt m p
  fork_at p i =
      let j : In p (rising_places (length m.cells) found.tree.forks) = subst (In p) (ap (λ (z : Machine). z.muxes) found.made) i in
      let has : has_place found.tree.forks p ≡ true = in_passed (has_place found.tree.forks) (range_with_len 0 (length m.cells)) p j in
      (has, tree_forks m state (length m.cells + 1) (map (follow m.links) (at_pin found.flop D)) found.tree found.tree_is p (has_in found.tree.forks p has))

  abbrev arms : List (List SigBit)
  arms = parts_of (length (at_pin cell B)) (length (at_pin cell A)) (at_pin cell B)

  abbrev code_arm : List SigBit → List SigBit
  code_arm arm = coded coding (map (follow m.links) arm)

  -- a cell of the tree in the code, of a kind and with an output
  abbrev forked : Option CellKind → Option (List SigBit) → Cell
  forked o out = record cell {
    params = fork_params o n (length (at_pin cell S));
    pins =
        pin_of (codes "\\A") (code_arm (at_pin cell A))
        ∷ pin_of (codes "\\B") (flat_map (λ (s : List SigBit). s) (map code_arm arms))
        ∷ pin_of (codes "\\S") (at_pin cell S)
        ∷ pin_of (codes "\\Y") (or_nothing out)
        ∷ [];
  }

  fork_output : has_place machine.muxes at ≡ true → output_code coding.outputs (at_pin cell Y) ≡ Some (whole (length m.wires + 1 + position machine.muxes at) n)
  fork_output e =
      let mine = fork_at at (has_in machine.muxes at e) in
      output_at n m.cells (length m.wires + 1) machine.muxes at cell there e (λ p x i f g. forks_apart m p at x cell (fork_at p i).1 mine.1 f there g)

  pub fork_stands : has_place machine.muxes at ≡ true → IsReplaced ports m wire machine ready found at cell (coded_fork m coding cell ∷ []) []
  fork_stands e =
      let mine = fork_at at (has_in machine.muxes at e) in
      let both : Some mine.1.cell ≡ Some cell = sym mine.1.there ∙ there in
      let same : mine.1.cell ≡ cell = cc in
      let kind : is_fork (cell_kind cell) ≡ true = ap (λ (z : Cell). is_fork (cell_kind z)) (sym same) ∙ mine.1.fork in
      let out = fork_output e in
      subst (λ o. IsReplaced ports m wire machine ready found at cell (forked (cell_kind cell) o ∷ []) []) (sym out) (by mine.0 (cell_kind cell) refl kind)
    where
      w : ℕ
      w = length m.wires + 1 + position machine.muxes at

      a_is : IsSignal n count (code_arm (at_pin cell A))
      a_is = in_code ports m wire machine ready found (map (follow m.links) (at_pin cell A))

      b_is : IsSignal (n * length arms) count (flat_map (λ (s : List SigBit). s) (map code_arm arms))
      b_is = joined_is n count code_arm (λ s. in_code ports m wire machine ready found (map (follow m.links) s)) arms

      y_is : IsSignal n count (whole w n)
      y_is = output_in (IsSignal n count) coding.outputs (codes_are ports m wire machine ready found).outputs (at_pin cell Y) (whole w n) (fork_output e)

      low : length arms * n ≤ 4096
      low = leb-true (length arms * n) 4096 (cells_all (fits_code n) m.cells machine.muxes at cell (asked ports m wire machine ready found).fits e there)

      inside : (o : Option CellKind) → CellIn count (forked o (Some (whole w n)))
      inside o =
          four_pins count (pin_of (codes "\\A") (code_arm (at_pin cell A))) (pin_of (codes "\\B") (flat_map (λ (s : List SigBit). s) (map code_arm arms))) (pin_of (codes "\\S") (at_pin cell S)) (pin_of (codes "\\Y") (whole w n)) a_is.within b_is.within (old_in ports m wire machine ready found at cell there S) y_is.within

      by : has_place found.tree.forks at ≡ true → (o : Option CellKind) → cell_kind cell ≡ o → is_fork o ≡ true → IsReplaced ports m wire machine ready found at cell (forked o (Some (whole w n)) ∷ []) []
      by has (Some (Word Mux)) own f =
          let was = old_fits ports m wire machine ready found at cell there (Word Mux) own refl in
          let params = given_params cell.params in
          let wide : 0 < number_in params Width = positive (all_known (value_in params Width)) (number_in params Width) (param_reads (Word Mux) cell Width was.shape (inl refl)) in
          let la : length (at_pin cell A) ≡ number_in params Width = pin_fits (Word Mux) cell A was.shape refl (inl refl) in
          let lb : length (at_pin cell B) ≡ number_in params Width = pin_fits (Word Mux) cell B was.shape refl (inr (inl refl)) in
          let ls : length (at_pin cell S) ≡ 1 = pin_fits (Word Mux) cell S was.shape refl (inr (inr (inl refl))) in
          let one : length arms ≡ 1 = parts_count (length (at_pin cell B)) (length (at_pin cell A)) 1 (at_pin cell B) (omega (arith, la, wide)) (omega (arith, la, lb)) (omega (arith, lb, wide)) in
          let b_wide : length (flat_map (λ (s : List SigBit). s) (map code_arm arms)) ≡ n = b_is.wide ∙ ap (λ k. n * k) one ∙ omega arith in
          one_new ports m wire machine ready found at cell there (Word Mux) (Word Mux) was (forked (Some (Word Mux)) (Some (whole w n)))
          (mux_fit cell own n (code_arm (at_pin cell A)) (flat_map (λ (s : List SigBit). s) (map code_arm arms)) (at_pin cell S) (whole w n) a_is.wide b_wide ls y_is.wide (some ports m wire machine ready found) (narrow ports m wire machine ready found) (no_constant (bits_of_wire w n)))
          (inside (Some (Word Mux))) Y refl w refl (λ bits is. Fresh has is)
      by has (Some (Word Pmux)) own f =
          let was = old_fits ports m wire machine ready found at cell there (Word Pmux) own refl in
          let params = given_params cell.params in
          let wide : 0 < number_in params Width = positive (all_known (value_in params Width)) (number_in params Width) (param_reads (Word Pmux) cell Width was.shape (inl refl)) in
          let many : 0 < number_in params SWidth = positive (all_known (value_in params SWidth)) (number_in params SWidth) (param_reads (Word Pmux) cell SWidth was.shape (inr (inl refl))) in
          let la : length (at_pin cell A) ≡ number_in params Width = pin_fits (Word Pmux) cell A was.shape refl (inl refl) in
          let lb : length (at_pin cell B) ≡ number_in params Width * number_in params SWidth = pin_fits (Word Pmux) cell B was.shape refl (inr (inl refl)) in
          let ls : length (at_pin cell S) ≡ number_in params SWidth = pin_fits (Word Pmux) cell S was.shape refl (inr (inr (inl refl))) in
          let turned : length (at_pin cell B) ≡ length (at_pin cell S) * length (at_pin cell A) = lb ∙ turn (number_in params Width) (number_in params SWidth) (length (at_pin cell A)) (length (at_pin cell S)) la ls in
          let parts : length arms ≡ length (at_pin cell S) = parts_count (length (at_pin cell B)) (length (at_pin cell A)) (length (at_pin cell S)) (at_pin cell B) (omega (arith, la, wide)) turned (enough (number_in params Width) (number_in params SWidth) wide lb ls) in
          let b_wide : length (flat_map (λ (s : List SigBit). s) (map code_arm arms)) ≡ n * length (at_pin cell S) = b_is.wide ∙ ap (λ k. n * k) parts in
          let low_s : length (at_pin cell S) * n ≤ 4096 = subst (λ k. k * n ≤ 4096) parts low in
          one_new ports m wire machine ready found at cell there (Word Pmux) (Word Pmux) was (forked (Some (Word Pmux)) (Some (whole w n)))
          (pmux_fit cell own n (length (at_pin cell S)) (code_arm (at_pin cell A)) (flat_map (λ (s : List SigBit). s) (map code_arm arms)) (at_pin cell S) (whole w n) a_is.wide b_wide refl y_is.wide (some ports m wire machine ready found) (omega (arith, ls, many)) (narrow ports m wire machine ready found) (less_times (length (at_pin cell S)) n (some ports m wire machine ready found) low_s) (swap (length (at_pin cell S)) low_s) (no_constant (bits_of_wire w n)))
          (inside (Some (Word Pmux))) Y refl w refl (λ bits is. Fresh has is)
        where
          turn : (a b x y : ℕ) → x ≡ a → y ≡ b → a * b ≡ y * x
          turn a b x y p q = let same : a * b ≡ b * a = grind arith in same ∙ (λ i. sym q i * sym p i)

          enough : (a b : ℕ) → 0 < a → length (at_pin cell B) ≡ a * b → length (at_pin cell S) ≡ b → length (at_pin cell S) ≤ length (at_pin cell B)
          enough a b h p q = omega (arith, below_times a b h, p, q)

          swap : (k : ℕ) → k * n ≤ 4096 → n * k ≤ 4096
          swap k h = let same : n * k ≡ k * n = grind arith in omega (arith, same, h)
      by has o own f = absurd (cc)
