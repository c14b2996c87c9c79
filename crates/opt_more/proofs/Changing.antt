-- What a cell has with another signal at one pin.
use Rattle.std.proofs.Common.{◌≡◌, ℕ, ◌+◌, Bool, true, false, cond, List, [], ◌∷◌, length, map, Some, ◌⊎◌, inl, inr, ⊎_elim, refl, sym, ◌∙◌, ap, subst, None}
use Rattle.std.specs.Prelude.{◌&&◌, ◌||◌, ◌==◌, not, find, if◌then◌else◌}
use Rattle.std.specs.List.{fold, list_all}
use Rattle.std.specs.Option.{option_map_or}
use Rattle.std.specs.Str.{bytes_eq}
use Rattle.std.proofs.lemmas.Bool.{and_parts, eqb-true}
use Rattle.std.proofs.lemmas.Slice.Eq.{bytes_eq-Decides}
use Rattle.cell_types.specs.Fault.{fault_of, fits, has_width}
use Rattle.cell_types.specs.Given.{value_in}
use Rattle.cell_types.specs.ParamName.{param_text}
use Rattle.cell_types.specs.PinName.{pin_text}
use Rattle.cell_types.specs.Pins.{pins_of}
use Rattle.cell_types.specs.Widths.{pin_width}
use Rattle.cell_types.specs.declared.kind.CellKind.{CellKind}
use Rattle.cell_types.specs.declared.given.Param.{Param}
use Rattle.cell_types.specs.declared.given.PinWidth.{PinWidth}
use Rattle.cell_types.specs.declared.param_name.ParamName.{ParamName}
use Rattle.cell_types.specs.declared.param_name.ParamName.TheVariants.{AWidth}
use Rattle.cell_types.specs.declared.pin_name.PinName.{PinName}
use Rattle.rtl_ir.specs.Build.{integer_param}
use Rattle.rtl_ir.specs.Constants.{low_bits, value_bits}
use Rattle.rtl_ir.specs.Faults.Cells.{has_constant_output, misfit, pin_widths}
use Rattle.rtl_ir.specs.Outputs.{drives_pin}
use Rattle.rtl_ir.specs.Parameters.{given_params, signal_at}
use Rattle.rtl_ir.specs.Signals.{has_constant}
use Rattle.rtl_ir.specs.Types.{CellType}
use Rattle.rtl_ir.specs.declared.cell.Cell.{Cell}
use Rattle.rtl_ir.specs.declared.cell.CellParam.{CellParam}
use Rattle.rtl_ir.specs.declared.cell.Pin.{Pin}
use Rattle.rtl_sig.specs.declared.sig.SigBit.{SigBit}
use Rattle.net_model.proofs.Members.{In-mapped}
use Rattle.net_model.specs.Lists.{In}
use Rattle.net_model.specs.Within.{SigIn}
use Rattle.pass_laws.proofs.PinWidths.{shape_of}
use Rattle.opt_more.specs.Changed.{renumbered, repinned, with_signal}

all_in : {T : Type 0} (test : T → Bool) (x : T) (xs : List T) → In x xs → list_all test xs ≡ true → test x ≡ true
all_in test x [] i e = absurd i
all_in test x (y ∷ ys) (inl here) e = ap test here ∙ (and_parts (test y) (list_all test ys) e).0
all_in test x (y ∷ ys) (inr i) e = all_in test x ys i (and_parts (test y) (list_all test ys) e).1

pub neither : (a b : Bool) → (a || b) ≡ false → (a ≡ false) × (b ≡ false)
neither false b e = (refl, e)
neither true b e = absurd (cc)

module _ (name : PinName) (bits : List SigBit) where
  -- the names stay
  pin_name : (p : Pin) → (repinned name bits p).name ≡ p.name
  pin_name p = by (bytes_eq p.name (pin_text name)) refl
    where
      by : (t : Bool) → bytes_eq p.name (pin_text name) ≡ t → (if t then record { name = pin_text name; sig = bits } else p).name ≡ p.name
      by true e = sym ((bytes_eq-Decides p.name (pin_text name)).0 e)
      by false e = refl

  -- tests of names count as many pins
  pub counted_pins : (test : List ℕ → Bool) (n : ℕ) (ps : List Pin) → fold (λ k (p : PinWidth). k + cond (test p.name) 1 0) n (pin_widths (with_signal name bits ps)) ≡ fold (λ k (p : PinWidth). k + cond (test p.name) 1 0) n (pin_widths ps)
  counted_pins test n [] = refl
  counted_pins test n (p ∷ ps) =
      counted_pins test (n + cond (test (repinned name bits p).name) 1 0) ps
      ∙ ap (λ z. fold (λ k (q : PinWidth). k + cond (test q.name) 1 0) (n + cond (test z) 1 0) (pin_widths ps)) (pin_name p)

  pub all_pins : (test : List ℕ → Bool) (ps : List Pin) → list_all (λ (p : PinWidth). test p.name) (pin_widths (with_signal name bits ps)) ≡ list_all (λ (p : PinWidth). test p.name) (pin_widths ps)
  all_pins test [] = refl
  all_pins test (p ∷ ps) = (λ i. test (pin_name p i) && all_pins test ps i)

  -- what stands at another pin
  pub other_pin : (other : List ℕ) → bytes_eq (pin_text name) other ≡ false → (ps : List Pin) → signal_at (with_signal name bits ps) other ≡ signal_at ps other
  other_pin other apart [] = refl
  other_pin other apart (p ∷ ps) = by (bytes_eq p.name (pin_text name)) refl (other_pin other apart ps)
    where
      by : (t : Bool) → bytes_eq p.name (pin_text name) ≡ t → signal_at (with_signal name bits ps) other ≡ signal_at ps other
          → option_map_or (λ (r : Pin). r.sig) (cond (bytes_eq (if t then record { name = pin_text name; sig = bits } else p).name other) (Some (if t then record { name = pin_text name; sig = bits } else p)) (find (λ (r : Pin). bytes_eq r.name other) (with_signal name bits ps))) []
          ≡ option_map_or (λ (r : Pin). r.sig) (cond (bytes_eq p.name other) (Some p) (find (λ (r : Pin). bytes_eq r.name other) ps)) []
      by true e later =
          let own : bytes_eq p.name other ≡ false = ap (λ z. bytes_eq z other) ((bytes_eq-Decides p.name (pin_text name)).0 e) ∙ apart in
          ap (λ z. option_map_or (λ (r : Pin). r.sig) (cond z (Some (record { name = pin_text name; sig = bits })) (find (λ (r : Pin). bytes_eq r.name other) (with_signal name bits ps))) []) apart
          ∙ later
          ∙ sym (ap (λ z. option_map_or (λ (r : Pin). r.sig) (cond z (Some p) (find (λ (r : Pin). bytes_eq r.name other) ps)) []) own)
      by false e later = pick (bytes_eq p.name other) later
        where
          pick : (u : Bool) → signal_at (with_signal name bits ps) other ≡ signal_at ps other → option_map_or (λ (r : Pin). r.sig) (cond u (Some p) (find (λ (r : Pin). bytes_eq r.name other) (with_signal name bits ps))) [] ≡ option_map_or (λ (r : Pin). r.sig) (cond u (Some p) (find (λ (r : Pin). bytes_eq r.name other) ps)) []
          pick true later = refl
          pick false later = later

  -- what stands at the pin, if it is there
  pub own_pin : (ps : List Pin) → (signal_at (with_signal name bits ps) (pin_text name) ≡ bits) ⊎ ((signal_at ps (pin_text name) ≡ []) × (signal_at (with_signal name bits ps) (pin_text name) ≡ []))
  own_pin [] = inr (refl, refl)
  own_pin (p ∷ ps) = by (bytes_eq p.name (pin_text name)) refl (own_pin ps)
    where
      self : bytes_eq (pin_text name) (pin_text name) ≡ true
      self = (bytes_eq-Decides (pin_text name) (pin_text name)).1 refl

      after : Bool → Bool → List SigBit
      after t u =
          option_map_or (λ (r : Pin). r.sig) (cond u (Some (if t then record { name = pin_text name; sig = bits } else p)) (find (λ (r : Pin). bytes_eq r.name (pin_text name)) (with_signal name bits ps))) []

      by : (t : Bool) → bytes_eq p.name (pin_text name) ≡ t → (signal_at (with_signal name bits ps) (pin_text name) ≡ bits) ⊎ ((signal_at ps (pin_text name) ≡ []) × (signal_at (with_signal name bits ps) (pin_text name) ≡ []))
          → (after t (bytes_eq (if t then record { name = pin_text name; sig = bits } else p).name (pin_text name)) ≡ bits)
          ⊎ ((option_map_or (λ (r : Pin). r.sig) (cond t (Some p) (find (λ (r : Pin). bytes_eq r.name (pin_text name)) ps)) [] ≡ []) × (after t (bytes_eq (if t then record { name = pin_text name; sig = bits } else p).name (pin_text name)) ≡ []))
      by true e later = inl (ap (after true) self)
      by false e later = ⊎_elim (λ l. inl (ap (after false) e ∙ l)) (λ r. inr (r.0, ap (after false) e ∙ r.1)) later

  -- a pin that is not driven may have any signal
  pub no_constant : (type : CellType) → drives_pin type (pin_text name) ≡ false → (ps : List Pin) → has_constant_output type ps ≡ false → has_constant_output type (with_signal name bits ps) ≡ false
  no_constant type free [] h = refl
  no_constant type free (p ∷ ps) h =
      let k = neither (drives_pin type p.name && has_constant p.sig) (has_constant_output type ps) h in
      by (bytes_eq p.name (pin_text name)) k.0 (no_constant type free ps k.1)
    where
      by : (t : Bool) → (drives_pin type p.name && has_constant p.sig) ≡ false → has_constant_output type (with_signal name bits ps) ≡ false
          → ((drives_pin type (if t then record { name = pin_text name; sig = bits } else p).name && has_constant (if t then record { name = pin_text name; sig = bits } else p).sig) || has_constant_output type (with_signal name bits ps)) ≡ false
      by true k later = ap (λ z. (z && has_constant bits) || has_constant_output type (with_signal name bits ps)) free ∙ later
      by false k later = ap (λ z. z || has_constant_output type (with_signal name bits ps)) k ∙ later

  -- the pins name wires that the signals do
  pub pins_within : (n : ℕ) → SigIn n bits → (ps : List Pin) → ((p : Pin) → In p ps → SigIn n p.sig) → (p : Pin) → In p (with_signal name bits ps) → SigIn n p.sig
  pins_within n own ps h p i =
      let k = In-mapped (repinned name bits) p ps i in
      subst (λ (q : Pin). SigIn n q.sig) (sym k.2) (by k.0 (bytes_eq k.0.name (pin_text name)) (h k.0 k.1))
    where
      by : (q : Pin) (t : Bool) → SigIn n q.sig → SigIn n (if t then record { name = pin_text name; sig = bits } else q).sig
      by q true g = own
      by q false g = g

module _ (width : ℕ) where
  param_name : (p : CellParam) → (renumbered width p).name ≡ p.name
  param_name p = by (bytes_eq p.name (param_text AWidth)) refl
    where
      by : (t : Bool) → bytes_eq p.name (param_text AWidth) ≡ t → (if t then integer_param (param_text AWidth) width else p).name ≡ p.name
      by true e = sym ((bytes_eq-Decides p.name (param_text AWidth)).0 e)
      by false e = refl

  pub counted_params : (test : List ℕ → Bool) (n : ℕ) (ps : List CellParam) → fold (λ k (p : Param). k + cond (test p.name) 1 0) n (given_params (map (renumbered width) ps)) ≡ fold (λ k (p : Param). k + cond (test p.name) 1 0) n (given_params ps)
  counted_params test n [] = refl
  counted_params test n (p ∷ ps) =
      counted_params test (n + cond (test (renumbered width p).name) 1 0) ps
      ∙ ap (λ z. fold (λ k (q : Param). k + cond (test q.name) 1 0) (n + cond (test z) 1 0) (given_params ps)) (param_name p)

  pub all_params : (test : List ℕ → Bool) (ps : List CellParam) → list_all (λ (p : Param). test p.name) (given_params (map (renumbered width) ps)) ≡ list_all (λ (p : Param). test p.name) (given_params ps)
  all_params test [] = refl
  all_params test (p ∷ ps) = (λ i. test (param_name p i) && all_params test ps i)

  -- another parameter keeps its value
  pub other_value : (name : ParamName) → bytes_eq (param_text AWidth) (param_text name) ≡ false → (ps : List CellParam) → value_in (given_params (map (renumbered width) ps)) name ≡ value_in (given_params ps) name
  other_value name apart [] = refl
  other_value name apart (p ∷ ps) = by (bytes_eq p.name (param_text AWidth)) refl (other_value name apart ps)
    where
      by : (t : Bool) → bytes_eq p.name (param_text AWidth) ≡ t → value_in (given_params (map (renumbered width) ps)) name ≡ value_in (given_params ps) name
          → (if bytes_eq (if t then integer_param (param_text AWidth) width else p).name (param_text name) then value_bits (if t then integer_param (param_text AWidth) width else p).value else value_in (given_params (map (renumbered width) ps)) name)
          ≡ (if bytes_eq p.name (param_text name) then value_bits p.value else value_in (given_params ps) name)
      by true e later =
          let own : bytes_eq p.name (param_text name) ≡ false = ap (λ z. bytes_eq z (param_text name)) ((bytes_eq-Decides p.name (param_text AWidth)).0 e) ∙ apart in
          ap (λ z. if z then value_bits (integer_param (param_text AWidth) width).value else value_in (given_params (map (renumbered width) ps)) name) apart
          ∙ later
          ∙ sym (ap (λ z. if z then value_bits p.value else value_in (given_params ps) name) own)
      by false e later = ap (λ z. if bytes_eq p.name (param_text name) then value_bits p.value else z) later

  -- the width of A, if it is there
  pub own_value : (ps : List CellParam) → (value_in (given_params (map (renumbered width) ps)) AWidth ≡ low_bits width 32) ⊎ (value_in (given_params ps) AWidth ≡ [])
  own_value [] = inr refl
  own_value (p ∷ ps) = by (bytes_eq p.name (param_text AWidth)) refl (own_value ps)
    where
      self : bytes_eq (param_text AWidth) (param_text AWidth) ≡ true
      self = (bytes_eq-Decides (param_text AWidth) (param_text AWidth)).1 refl

      by : (t : Bool) → bytes_eq p.name (param_text AWidth) ≡ t → (value_in (given_params (map (renumbered width) ps)) AWidth ≡ low_bits width 32) ⊎ (value_in (given_params ps) AWidth ≡ [])
          → ((if bytes_eq (if t then integer_param (param_text AWidth) width else p).name (param_text AWidth) then value_bits (if t then integer_param (param_text AWidth) width else p).value else value_in (given_params (map (renumbered width) ps)) AWidth) ≡ low_bits width 32)
          ⊎ ((if t then value_bits p.value else value_in (given_params ps) AWidth) ≡ [])
      by true e later =
          inl (ap (λ z. if z then value_bits (integer_param (param_text AWidth) width).value else value_in (given_params (map (renumbered width) ps)) AWidth) self)
      by false e later =
          ⊎_elim
          (λ l. inl (ap (λ z. if z then value_bits p.value else value_in (given_params (map (renumbered width) ps)) AWidth) e ∙ l))
          (λ r. inr r)
          later

module _ (kind : CellKind) (params : List Param) (name : PinName) (bits : List SigBit) (wide : length bits ≡ pin_width kind params name) where
  -- a signal of the same width leaves the widths of the pins
  pub widths_stay : (ps : List Pin) → has_width kind params (pin_widths ps) name ≡ true → pin_widths (with_signal name bits ps) ≡ pin_widths ps
  widths_stay [] h = refl
  widths_stay (p ∷ ps) h =
      let both = and_parts (fits kind params name (record { name = p.name; width = length p.sig })) (has_width kind params (pin_widths ps) name) h in
      by (bytes_eq p.name (pin_text name)) refl both.0 (widths_stay ps both.1)
    where
      by : (t : Bool) → bytes_eq p.name (pin_text name) ≡ t → (not t || (length p.sig == pin_width kind params name)) ≡ true → pin_widths (with_signal name bits ps) ≡ pin_widths ps
          → record { name = (if t then record { name = pin_text name; sig = bits } else p).name; width = length (if t then record { name = pin_text name; sig = bits } else p).sig } ∷ pin_widths (with_signal name bits ps) ≡ record { name = p.name; width = length p.sig } ∷ pin_widths ps
      by true e own later =
          let named : pin_text name ≡ p.name = sym ((bytes_eq-Decides p.name (pin_text name)).0 e) in
          let same : length bits ≡ length p.sig = wide ∙ sym (eqb-true (length p.sig) (pin_width kind params name) own) in
          (λ i. record { name = named i; width = same i } ∷ later i)
      by false e own later = (λ i. record { name = p.name; width = length p.sig } ∷ later i)

-- a cell with a signal of the same width at a pin fits its kind
pub fits_rewired : (kind : CellKind) (name : PinName) (bits : List SigBit) (c : Cell) → length bits ≡ pin_width kind (given_params c.params) name → In name (pins_of kind) → misfit kind c ≡ None → misfit kind (record c { pins = with_signal name bits c.pins }) ≡ None
unfolding misfit
fits_rewired kind name bits c wide i fit =
    ap (fault_of kind (given_params c.params)) (widths_stay kind (given_params c.params) name bits wide c.pins (all_in (has_width kind (given_params c.params) (pin_widths c.pins)) name (pins_of kind) i (shape_of kind c fit).widths)) ∙ fit
