-- Each cell of the tree of a machine that is found has what is asked of one that gets its code.
use Rattle.std.proofs.Common.{◌≡◌, ◌<◌, ◌≤◌, ℕ, zero, suc, Bool, true, false, List, [], ◌∷◌, length, map, Option, Some, inl, inr, refl, sym, ◌∙◌, ap, subst, arith}
use Rattle.std.specs.Prelude.{◌==◌, ◌&&◌, ◌||◌, drop, nat_lt, slice_get, take}
use Rattle.std.specs.List.{list_any}
use Rattle.std.proofs.lemmas.Bool.{ltb-false, or_parts}
use Rattle.rtl_bits.specs.Knowledge.{all_known}
use Rattle.rtl_sig.specs.declared.sig.SigBit.{SigBit}
use Rattle.rtl_sig.specs.declared.sig.SigBit.TheVariants.{Wire as OnWire}
use Rattle.cell_types.specs.Fault.{is_wide_pin}
use Rattle.cell_types.specs.Given.{number_in, value_in}
use Rattle.cell_types.specs.PinName.{pin_text}
use Rattle.cell_types.specs.Shape.{small}
use Rattle.cell_types.specs.declared.kind.CellKind.{CellKind}
use Rattle.cell_types.specs.declared.kind.CellKind.TheVariants.{Word}
use Rattle.cell_types.specs.declared.param_name.ParamName.TheVariants.{Width}
use Rattle.cell_types.specs.declared.pin_name.PinName.{PinName}
use Rattle.cell_types.specs.declared.pin_name.PinName.TheVariants.{A, B, S, Y}
use Rattle.cell_types.specs.declared.word.WordKind.{WordKind}
use Rattle.cell_types.specs.declared.word.WordKind.TheVariants.{Mux, Pmux}
use Rattle.rtl_ir.specs.Build.{whole}
use Rattle.rtl_ir.specs.Flat.Cell as flat
use Rattle.rtl_ir.specs.Flat.Cell.{cell_kind, cell_shape}
use Rattle.rtl_ir.specs.Outputs.{drives_pin}
use Rattle.rtl_ir.specs.Parameters.{given_params}
use Rattle.rtl_ir.specs.Types.{Ports, cell_type}
use Rattle.rtl_ir.specs.declared.cell.Cell.{Cell}
use Rattle.rtl_ir.specs.declared.machine.Machine.{Machine}
use Rattle.rtl_ir.specs.declared.module.Module.{Module}
use Rattle.net_model.proofs.Ranges.{signal_in}
use Rattle.net_model.specs.Fsm.Find.{arms_of, at_pin, compares, compares_with, has_place, is_compare, is_fork, parts_of}
use Rattle.net_model.specs.Lists.{In}
use Rattle.net_model.specs.Refine.{IsWellDriven}
use Rattle.net_model.specs.Within.{Each}
use Rattle.pass_laws.proofs.Faultless.{type_is}
use Rattle.pass_laws.proofs.Outputs.{drives_own}
use Rattle.pass_laws.specs.Ready.{IsReady}
use Rattle.pass_laws.proofs.Finding.{in_place}
use Rattle.pass_laws.proofs.PinWidths.{param_reads, pin_fits, shape_of}
use Rattle.fsm_laws.specs.Carried.{carrier_of}
use Rattle.fsm_laws.specs.Machines.{IsFoundMachine}
use Rattle.fsm_laws.specs.Recodes.{IsFree, IsMux, IsOf, IsOutput, IsPmux}
use Rattle.fsm_laws.proofs.Places.{has_in}
use Rattle.fsm_laws.proofs.Standing.{old_fits}
use Rattle.fsm_laws.proofs.ArmsFound.{fork_at, fork_carries, fork_kind, fork_stays, fresh_at, mux_made, pmux_made}
use Rattle.fsm_laws.proofs.Free.{named_free, own_signal}
use Rattle.fsm_laws.proofs.Setting.{IsPart, outputs, state}
use Rattle.fsm_laws.proofs.StandFound.{got_below, mapped_at}
use Rattle.fsm_laws.proofs.StoodFound.{IsArms, Stands, arms_long, code_arm, mux_parts, parts, positive, tree_stood}
use Rattle.fsm_laws.proofs.Widths.{arms_wide}

-- what stands in a part stands in the whole
taken_in : (width : ℕ) (signal : List SigBit) (s : SigBit) → In s (take width signal) → In s signal
taken_in zero signal s i = absurd i
taken_in (suc width) [] s i = absurd i
taken_in (suc width) (x ∷ signal) s (inl e) = inl e
taken_in (suc width) (x ∷ signal) s (inr i) = inr (taken_in width signal s i)

dropped_in : (width : ℕ) (signal : List SigBit) (s : SigBit) → In s (drop width signal) → In s signal
dropped_in zero signal s i = i
dropped_in (suc width) [] s i = absurd i
dropped_in (suc width) (x ∷ signal) s i = inr (dropped_in width signal s i)

part_in : (n width : ℕ) (signal : List SigBit) (j : ℕ) (part : List SigBit) → slice_get (parts_of n width signal) j ≡ Some part → (s : SigBit) → In s part → In s signal
part_in zero width signal j part e s i = absurd (cc)
part_in (suc n) width [] j part e s i = absurd (cc)
part_in (suc n) width (x ∷ signal) zero part e s i =
    let same : take width (x ∷ signal) ≡ part = cc in
    taken_in width (x ∷ signal) s (subst (In s) (sym same) i)
part_in (suc n) width (x ∷ signal) (suc j) part e s i =
    dropped_in width (x ∷ signal) s (part_in n width (drop width (x ∷ signal)) j part e s i)

-- no pin of other names than those of the arms may be read
pub closed : (a b : Bool) → ((a && (false || false)) || (b && false)) ≡ false
closed true true = refl
closed true false = refl
closed false true = refl
closed false false = refl

small_is : (n : ℕ) → n ≤ 65536 → small n ≡ n
small_is n h = omega (arith, h)

shape_wide : (c : Cell) (k : ℕ) → small (number_in (given_params c.params) Width) ≡ k → (cell_shape (Word Pmux) c.params).widths.y ≡ k
unfolding cell_shape
shape_wide c k e = e

module _ (ports : Ports) (m : Module) (at : ℕ) (machine : Machine) (found : IsFoundMachine ports m at machine) (ready : IsReady ports m) (over : flat.Ports) (driven : IsWellDriven over m) (k : ℕ) (c : Cell) (has : has_place machine.muxes k ≡ true) (there : slice_get m.cells k ≡ Some c) where
  abbrev n : ℕ
  n = length machine.states

  mine : IsArms ports m at machine found ready over driven k
  mine =
      (tree_stood ports m at machine found ready over driven).1 k (fork_at ports m at machine found ready k (has_in machine.muxes k has)).0

  stands : (arm : List SigBit) → In arm (arms_of c) → Stands ports m at machine found ready over driven arm (code_arm ports m at machine found ready over driven k c there has arm)
  stands arm i = (mine.arms c there arm i).stands arm refl

  own : (name : PinName) → Each (IsOf m.wires) (at_pin c name)
  own name =
      own_signal m.wires (at_pin c name) (signal_in (length m.wires) c.pins (pin_text name) (ready.within.cells c (in_place m.cells k c there)))

  fork : is_fork (cell_kind c) ≡ true
  fork = fork_kind ports m at machine found ready k c there has

  is_output : IsOutput found.wire.width m.links m.wires (outputs ports m at machine found) (at_pin c Y) (whole (fresh_at ports m at machine found ready k) n)
  is_output j q bit =
      let inside : j < length (at_pin c Y) = got_below (at_pin c Y) j (OnWire q) bit in (
        omega (arith, inside, mine.wide c there),
        (
          own Y (OnWire q) (in_place (at_pin c Y) j (OnWire q) bit),
          ap (carrier_of (outputs ports m at machine found)) (fork_stays ports m at machine found ready over driven k c there has j q bit) ∙ fork_carries ports m at machine found ready over driven k c there has j q bit,
        ),
      )

  -- what chooses is free
  free : (kind : WordKind) → cell_kind c ≡ Some (Word kind) → is_compare (Some (Word kind)) ≡ false → drives_pin (cell_type ports c.kind_name) (pin_text S) ≡ false → Each (IsFree m.links m.wires (outputs ports m at machine found)) (at_pin c S)
  free kind is other out =
      named_free ports m at machine found ready k c there no (pin_text S) out (closed (has_place machine.muxes k) (k == machine.flop))
    where
      no : compares m (state ports m at machine found) c ≡ false
      no = ap (λ o. is_compare o && (compares_with m (state ports m at machine found) c (at_pin c A) (at_pin c B) || compares_with m (state ports m at machine found) c (at_pin c B) (at_pin c A))) is
          ∙ ap (λ t. t && (compares_with m (state ports m at machine found) c (at_pin c A) (at_pin c B) || compares_with m (state ports m at machine found) c (at_pin c B) (at_pin c A))) other

  pub fork_part : IsPart ports m at machine found over c
  fork_part = by (cell_kind c) refl fork
    where
      by : (o : Option CellKind) → cell_kind c ≡ o → is_fork o ≡ true → IsPart ports m at machine found over c
      by (Some (Word Mux)) is f =
          let one = mux_parts ports m at machine found ready over driven k c there has is in
          let last : In (at_pin c B) (parts ports m at machine found ready over driven k c there has) = subst (In (at_pin c B)) (sym one) (inl refl) in
          IsMux (record {
            a = code_arm ports m at machine found ready over driven k c there has (at_pin c A);
            b = code_arm ports m at machine found ready over driven k c there has (at_pin c B);
            wire = fresh_at ports m at machine found ready k;
            kind = is;
            made = mux_made ports m at machine found ready k c there has is one;
            own_a = own A;
            own_b = own B;
            free = free Mux is refl (ap (λ t. drives_pin t (pin_text S)) (type_is ports c (Word Mux) is) ∙ drives_own (Word Mux) Y refl (pin_text S));
            stands_a = stands (at_pin c A) (inl refl);
            stands_b = stands (at_pin c B) (inr last);
            output = is_output;
          })
      by (Some (Word Pmux)) is f =
          let was = old_fits ports m at machine ready found k c there (Word Pmux) is refl in
          let params = given_params c.params in
          let la : length (at_pin c A) ≡ number_in params Width = pin_fits (Word Pmux) c A was.shape refl (inl refl) in
          let wide : length (at_pin c A) ≡ found.wire.width = arms_wide ports m at machine found ready k c there fork (mine.wide c there) (at_pin c A) (inl refl) in
          let narrow : nat_lt 4096 (number_in params Width) ≡ false = (or_parts (is_wide_pin Pmux params A) (list_any (is_wide_pin Pmux params) (B ∷ S ∷ Y ∷ [])) (shape_of (Word Pmux) c was.shape).narrow).0 in
          let low : number_in params Width ≤ 4096 = ltb-false 4096 (number_in params Width) narrow in
          let full : 0 < number_in params Width = positive (all_known (value_in params Width)) (number_in params Width) (param_reads (Word Pmux) c Width was.shape (inl refl)) in
          IsPmux (record {
            a = code_arm ports m at machine found ready over driven k c there has (at_pin c A);
            parts = map (code_arm ports m at machine found ready over driven k c there has) (parts ports m at machine found ready over driven k c there has);
            selects = length (at_pin c S);
            wire = fresh_at ports m at machine found ready k;
            kind = is;
            made = pmux_made ports m at machine found ready k c there has is;
            own_a = own A;
            own_b = own B;
            free = free Pmux is refl (ap (λ t. drives_pin t (pin_text S)) (type_is ports c (Word Pmux) is) ∙ drives_own (Word Pmux) Y refl (pin_text S));
            some = omega (arith, la, full);
            inside = omega (arith, wide);
            wide = shape_wide c (length (at_pin c A)) (small_is (number_in params Width) (omega (arith, low)) ∙ sym la);
            long = arms_long ports m at machine found ready over driven k c there has;
            stands_a = stands (at_pin c A) (inl refl);
            stands = λ j old e. (
              code_arm ports m at machine found ready over driven k c there has old,
              (
                mapped_at (code_arm ports m at machine found ready over driven k c there has) (parts ports m at machine found ready over driven k c there has) j old e,
                (
                  λ s i. own B s (part_in (length (at_pin c B)) (length (at_pin c A)) (at_pin c B) j old e s i),
                  stands old (inr (in_place (parts ports m at machine found ready over driven k c there has) j old e)),
                ),
              ),
            );
            output = is_output;
          })
      by o is f = absurd (cc)
