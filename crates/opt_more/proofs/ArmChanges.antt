-- What comes of a multiplexer chooses as it does, and leads where it leads.
use Rattle.std.proofs.Common.{◌≡◌, true, false, List, [], ◌∷◌, length, map, Option, Some, inl, inr, ⊎_elim, refl, sym, ◌∙◌, ap}
use Rattle.std.specs.Prelude.{◌&&◌, if◌then◌else◌}
use Rattle.std.specs.Str.{bytes_eq}
use Rattle.std.proofs.lemmas.Bool.{eq-eqb}
use Rattle.std.proofs.lemmas.Slice.Eq.{bytes_eq-Decides}
use Rattle.cell_types.specs.PinName.{pin_text}
use Rattle.cell_types.specs.declared.gate.GateKind.TheVariants as gate
use Rattle.cell_types.specs.declared.kind.CellKind.{CellKind}
use Rattle.cell_types.specs.declared.kind.CellKind.TheVariants.{Word, Gate}
use Rattle.cell_types.specs.declared.pin_name.PinName.{PinName}
use Rattle.cell_types.specs.declared.pin_name.PinName.TheVariants.{A, B, S, Y}
use Rattle.cell_types.specs.declared.word.WordKind.TheVariants.{Mux}
use Rattle.rtl_bits.specs.declared.bit.Bit.{Bit}
use Rattle.rtl_bits.specs.declared.bit.Bit.TheVariants.{S0, S1, X, Z, M, Dash}
use Rattle.rtl_sig.specs.declared.sig.SigBit.{SigBit}
use Rattle.rtl_sig.specs.declared.sig.SigBit.TheVariants.{Fixed, Wire as OnWire}
use Rattle.rtl_ir.specs.Follow.{follow}
use Rattle.rtl_ir.specs.Outputs.{drives_pin, output_pin}
use Rattle.rtl_ir.specs.Parameters.{signal_at}
use Rattle.rtl_ir.specs.Signals.{same_place, same_signal, same_value}
use Rattle.rtl_ir.specs.Types.{CellType, Library, Ports, cell_type}
use Rattle.rtl_ir.specs.declared.cell.Cell.{Cell}
use Rattle.rtl_ir.specs.declared.module.Link.{Link}
use Rattle.follow_laws.proofs.Signals.{output_stays, signal_followed}
use Rattle.follow_laws.specs.Inputs.{followed_cell}
use Rattle.pass_laws.proofs.Faultless.{type_is}
use Rattle.opt_more.specs.Muxtree.{arm_end, chooses_as, standing_now, walked, way_on, with_arm}
use Rattle.opt_more.proofs.Changing.{other_pin, own_pin}
use Rattle.opt_more.proofs.Knowing.{IsChange, arm_at}
use Rattle.opt_more.proofs.MuxBits.{IsArm, IsMuxCell, IsMuxKind, First, Second, OfBits, OfWords}
use Rattle.opt_more.proofs.MuxSteps.{followed_twice, walked_keeps}
use Rattle.opt_more.proofs.Muxing.{arm_free}
use Rattle.opt_more.proofs.Walks.{stays_at}

value_self : (a : Bit) → same_value a a ≡ true
value_self S0 = refl
value_self S1 = refl
value_self X = refl
value_self Z = refl
value_self M = refl
value_self Dash = refl

place_self : (a : SigBit) → same_place a a ≡ true
place_self (Fixed c) = value_self c
place_self (OnWire b) = λ i. eq-eqb b.wire b.wire refl i && eq-eqb b.at b.at refl i

signal_self : (a : List SigBit) → same_signal a a ≡ true
signal_self [] = refl
signal_self (s ∷ a) = λ i. place_self s i && signal_self a i

-- the select is not driven
select_free : (own : CellKind) → IsMuxKind own → drives_pin (Library own) (pin_text S) ≡ false
select_free (Word Mux) OfWords = refl
select_free (Gate gate.Mux) OfBits = refl
select_free own k = elim k [ ]

gives_output : (own : CellKind) → IsMuxKind own → output_pin own ≡ Some Y
gives_output (Word Mux) OfWords = refl
gives_output (Gate gate.Mux) OfBits = refl
gives_output own k = elim k [ ]

-- an arm is none of the other pins
arm_apart : (arm : PinName) → IsArm arm → (bytes_eq (pin_text arm) (pin_text S) ≡ false) × (bytes_eq (pin_text arm) (pin_text Y) ≡ false)
arm_apart A First = (refl, refl)
arm_apart B Second = (refl, refl)
arm_apart arm a = elim a [ ]

module _ (ports : Ports) (links : List Link) (c : Cell) (mux : IsMuxCell c) where
  abbrev followed : Cell
  followed = followed_cell ports links c

  -- a pin that is not driven is followed
  read_is : (name : PinName) → drives_pin (Library mux.own) (pin_text name) ≡ false → signal_at followed.pins (pin_text name) ≡ map (follow links) (signal_at c.pins (pin_text name))
  read_is name undriven =
      let type : CellType = cell_type ports c.kind_name in
      let free : drives_pin type (pin_text name) ≡ false = ap (λ t. drives_pin t (pin_text name)) (type_is ports c mux.own mux.kind) ∙ undriven in
      signal_followed type links (pin_text name) c.pins
      ∙ ap (λ t. if t then signal_at c.pins (pin_text name) else map (follow links) (signal_at c.pins (pin_text name))) free

  -- and follows to itself
  read_fixed : (name : PinName) → drives_pin (Library mux.own) (pin_text name) ≡ false → map (follow links) (signal_at followed.pins (pin_text name)) ≡ signal_at followed.pins (pin_text name)
  read_fixed name free = ap (map (follow links)) (read_is name free) ∙ followed_twice links (signal_at c.pins (pin_text name)) ∙ sym (read_is name free)

  pub arm_fixed : (arm : PinName) → IsArm arm → map (follow links) (signal_at followed.pins (pin_text arm)) ≡ signal_at followed.pins (pin_text arm)
  arm_fixed arm a = read_fixed arm (arm_free mux.own mux.mux arm a)

  pub select_follows : map (follow links) (signal_at followed.pins (pin_text S)) ≡ signal_at followed.pins (pin_text S)
  select_follows = read_fixed S (select_free mux.own mux.mux)

  -- the inputs are followed
  pub inputs_followed : (arm : PinName) → IsArm arm → (cells : List Cell) (slots : List (Option Cell)) → IsChange arm cells slots links c followed
  inputs_followed arm a cells slots = record {
    kind = refl;
    select = ap (map (follow links)) (read_is S (select_free mux.own mux.mux)) ∙ followed_twice links (signal_at c.pins (pin_text S));
    output = output_stays ports links c mux.own mux.kind Y (gives_output mux.own mux.mux);
    leads = inl (ap (map (follow links)) (read_is arm (arm_free mux.own mux.mux arm a)) ∙ followed_twice links (signal_at c.pins (pin_text arm)));
  }

module _ (links : List Link) (cells : List Cell) (done : List (Option Cell)) (rest : List Cell) (c : Cell) (select : map (follow links) (signal_at c.pins (pin_text S)) ≡ signal_at c.pins (pin_text S)) (arm : PinName) (a : IsArm arm) where
  abbrev slots : List (Option Cell)
  slots = standing_now done c rest

  abbrev word : List SigBit
  word = arm_end arm cells slots links c

  abbrev new : Cell
  new = with_arm arm cells done rest links c

  select_stays : signal_at new.pins (pin_text S) ≡ signal_at c.pins (pin_text S)
  select_stays = other_pin arm word (pin_text S) (arm_apart arm a).0 c.pins

  output_as : signal_at new.pins (pin_text Y) ≡ signal_at c.pins (pin_text Y)
  output_as = other_pin arm word (pin_text Y) (arm_apart arm a).1 c.pins

  -- the select of what comes of the cell follows to itself, too
  pub select_fixed : map (follow links) (signal_at new.pins (pin_text S)) ≡ signal_at new.pins (pin_text S)
  select_fixed = ap (map (follow links)) select_stays ∙ select ∙ sym select_stays

  chooses_itself : chooses_as links c c ≡ true
  chooses_itself = λ i. (bytes_eq-Decides c.kind_name c.kind_name).1 refl i && (ap (λ z. same_signal z (signal_at c.pins (pin_text S))) select ∙ signal_self (signal_at c.pins (pin_text S))) i

  -- the arm gets what it leads to
  pub arm_led : map (follow links) (signal_at c.pins (pin_text arm)) ≡ signal_at c.pins (pin_text arm) → IsChange arm cells slots links c new
  arm_led fixed = record {
    kind = refl;
    select = ap (map (follow links)) select_stays;
    output = output_as;
    leads = inr (c, chooses_itself, there ∙ ap (walked arm cells slots links c (length slots)) (sym fixed));
  }
    where
      word_fixed : map (follow links) word ≡ word
      word_fixed =
          walked_keeps arm links done c rest cells (λ z. map (follow links) z ≡ z) (λ from next step h. ap (map (follow links)) (sym step.leads) ∙ followed_twice links (signal_at step.cell.pins (pin_text arm)) ∙ step.leads) (length slots) (signal_at c.pins (pin_text arm)) fixed

      none : (from : List SigBit) → from ≡ [] → walked arm cells slots links c (length slots) from ≡ []
      none from e = ap (walked arm cells slots links c (length slots)) e ∙ stays_at (way_on arm cells slots links c) (length slots) [] (inl refl)

      there : arm_at arm links new ≡ word
      there =
          ⊎_elim
          (λ l. ap (map (follow links)) l ∙ word_fixed)
          (λ r. ap (map (follow links)) r.1 ∙ sym (none (signal_at c.pins (pin_text arm)) r.0))
          (own_pin arm word c.pins)

  -- the other arm stays
  pub other_led : (other : PinName) → bytes_eq (pin_text arm) (pin_text other) ≡ false → IsChange other cells slots links c new
  other_led other apart = record {
    kind = refl;
    select = ap (map (follow links)) select_stays;
    output = output_as;
    leads = inl (ap (map (follow links)) (other_pin arm word (pin_text other) apart c.pins));
  }
