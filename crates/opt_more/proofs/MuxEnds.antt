-- What is known of the ways from both arms stays known where a multiplexer is visited.
use Rattle.std.proofs.Common.{◌≡◌, true, List, map, Option, refl, sym, ◌∙◌, ap, subst}
use Rattle.std.specs.Prelude.{if◌then◌else◌}
use Rattle.cell_types.specs.PinName.{pin_text}
use Rattle.cell_types.specs.declared.pin_name.PinName.TheVariants.{A, B, S}
use Rattle.rtl_ir.specs.Follow.{follow}
use Rattle.rtl_ir.specs.Parameters.{signal_at}
use Rattle.rtl_ir.specs.Types.{Ports}
use Rattle.rtl_ir.specs.declared.cell.Cell.{Cell}
use Rattle.rtl_ir.specs.declared.module.Link.{Link}
use Rattle.follow_laws.specs.Inputs.{followed_cell}
use Rattle.opt_more.specs.Ends.{AreArms, AreEnds}
use Rattle.opt_more.specs.Muxtree.{arm_end, is_mux, muxed, muxed_arms, standing_now, with_arm}
use Rattle.opt_more.specs.declared.ends.Arm.{Arm as Known}
use Rattle.opt_more.proofs.ArmChanges.{arm_fixed, arm_led, inputs_followed, other_led, select_fixed, select_follows}
use Rattle.opt_more.proofs.Changing.{other_pin}
use Rattle.opt_more.proofs.Knowing.{ends_stay}
use Rattle.opt_more.proofs.MuxBits.{IsMuxCell, First, Second, mux_cell}

module _ (ports : Ports) (links : List Link) (cells : List Cell) (done : List (Option Cell)) (rest : List Cell) (cell : Cell) (is : is_mux cell ≡ true) where
  mux : IsMuxCell cell
  mux = mux_cell cell is

  abbrev d : Cell
  d = followed_cell ports links cell

  abbrev d' : Cell
  d' = with_arm A cells done rest links d

  abbrev d'' : Cell
  d'' = with_arm B cells done rest links d'

  abbrev Holds : Known → Cell → Type 0
  Holds x c = AreEnds x cells (standing_now done c rest) links

  select_d : map (follow links) (signal_at d.pins (pin_text S)) ≡ signal_at d.pins (pin_text S)
  select_d = select_follows ports links cell mux

  select_d' : map (follow links) (signal_at d'.pins (pin_text S)) ≡ signal_at d'.pins (pin_text S)
  select_d' = select_fixed links cells done rest d select_d A First

  second_d' : map (follow links) (signal_at d'.pins (pin_text B)) ≡ signal_at d'.pins (pin_text B)
  second_d' =
      let stays : signal_at d'.pins (pin_text B) ≡ signal_at d.pins (pin_text B) = other_pin A (arm_end A cells (standing_now done d rest) links d) (pin_text B) refl d.pins in
      ap (map (follow links)) stays ∙ arm_fixed ports links cell mux B Second ∙ sym stays

  a_followed : (x : Known) → x.name ≡ A → Holds x cell → Holds x d
  a_followed = ends_stay A cells links done rest cell d (inputs_followed ports links cell mux A First cells (standing_now done cell rest))

  b_followed : (x : Known) → x.name ≡ B → Holds x cell → Holds x d
  b_followed = ends_stay B cells links done rest cell d (inputs_followed ports links cell mux B Second cells (standing_now done cell rest))

  a_led : (x : Known) → x.name ≡ A → Holds x d → Holds x d'
  a_led = ends_stay A cells links done rest d d' (arm_led links cells done rest d select_d A First (arm_fixed ports links cell mux A First))

  b_kept : (x : Known) → x.name ≡ B → Holds x d → Holds x d'
  b_kept = ends_stay B cells links done rest d d' (other_led links cells done rest d select_d A First B refl)

  b_led : (x : Known) → x.name ≡ B → Holds x d' → Holds x d''
  b_led = ends_stay B cells links done rest d' d'' (arm_led links cells done rest d' select_d' B Second second_d')

  a_kept : (x : Known) → x.name ≡ A → Holds x d' → Holds x d''
  a_kept = ends_stay A cells links done rest d' d'' (other_led links cells done rest d' select_d' B Second A refl)

  -- the code's steps, of which each needs what is known before it
  module _ (followed first after : Cell) (a a' b b' : Known) (f : followed ≡ d) (one : Holds a followed → first ≡ with_arm a.name cells done rest links followed) (a_kept_by : Holds a followed → Holds a' followed) (a_name : a'.name ≡ a.name) (two : Holds b first → after ≡ with_arm b.name cells done rest links first) (b_kept_by : Holds b first → Holds b' first) (b_name : b'.name ≡ b.name) (first_name : a.name ≡ A) (second_name : b.name ≡ B) (a_holds : Holds a cell) (b_holds : Holds b cell) where
    a_at_followed : Holds a followed
    a_at_followed = subst (Holds a) (sym f) (a_followed a first_name a_holds)

    first_is : first ≡ d'
    first_is = one a_at_followed ∙ (λ i. with_arm (first_name i) cells done rest links (f i))

    b_at_first : Holds b first
    b_at_first = subst (Holds b) (sym first_is) (b_kept b second_name (b_followed b second_name b_holds))

    after_is : after ≡ d''
    after_is = two b_at_first ∙ (λ i. with_arm (second_name i) cells done rest links (first_is i))

    pub after_muxed : after ≡ muxed ports cells done rest links cell
    after_muxed = after_is ∙ ap (λ t. if t then muxed_arms cells done rest links d else cell) (sym is)

    a_after : Holds a' after
    a_after =
        let name : a'.name ≡ A = a_name ∙ first_name in
        subst (Holds a') (sym after_is) (a_kept a' name (a_led a' name (subst (Holds a') f (a_kept_by a_at_followed))))

    b_after : Holds b' after
    b_after = subst (Holds b') (sym after_is) (b_led b' (b_name ∙ second_name) (subst (Holds b') first_is (b_kept_by b_at_first)))

    pub arms_after : AreArms (record { a = a'; b = b' }) cells (standing_now done after rest) links
    arms_after = record { a = a_after; b = b_after; first = a_name ∙ first_name; second = b_name ∙ second_name }
