-- The pins of a cell of a memory that fits its kind have their widths, and its words have 1 to 4,096 bits.
use Rattle.std.proofs.Common.{◌≡◌, ℕ, Bool, true, false, not, ◌||◌, List, [], ◌∷◌, length, Some, None, inl, inr, refl, sym, ◌∙◌, ap, subst, arith}
use Rattle.std.specs.Prelude.{if◌then◌else◌, ◌==◌, ◌&&◌, ◌+◌, cond, find}
use Rattle.std.specs.List.{count_by, fold, list_all}
use Rattle.std.specs.Option.{option_map_or}
use Rattle.std.specs.Str.{bytes_eq}
use Rattle.std.proofs.lemmas.Bool.{true≢false, and_parts, eqb-true}
use Rattle.cell_types.specs.declared.fault.CellFault.TheVariants.{Bad, Wide, Width}
use Rattle.cell_types.specs.declared.given.Param.{Param}
use Rattle.cell_types.specs.declared.given.PinWidth.{PinWidth}
use Rattle.cell_types.specs.declared.kind.CellKind.{CellKind}
use Rattle.cell_types.specs.declared.param_name.ParamName.{ParamName}
use Rattle.cell_types.specs.declared.pin_name.PinName.{PinName}
use Rattle.cell_types.specs.Fault.{are_params_good, are_pins_good, fits, has_no_meaning, has_param, has_pin, has_width, is_given, is_joined, is_wide, may_lack}
use Rattle.cell_types.specs.Params.{params_of}
use Rattle.cell_types.specs.ParamName.{param_text}
use Rattle.cell_types.specs.PinName.{pin_text}
use Rattle.cell_types.specs.Pins.{pins_of}
use Rattle.cell_types.specs.Reading.{is_readable}
use Rattle.cell_types.specs.Widths.{pin_width}
use Rattle.rtl_ir.specs.Faults.Cells.{misfit, pin_widths}
use Rattle.rtl_ir.specs.Parameters.{given_params, signal_at}
use Rattle.rtl_ir.specs.declared.cell.Cell.{Cell}
use Rattle.rtl_ir.specs.declared.cell.Pin.{Pin}
use Rattle.net_model.specs.Lists.{In}

-- the parts of the shape of a cell without fault
pub record HasShape (kind : CellKind) (c : Cell) : Type 0 where
  pub params : are_params_good kind (given_params c.params) ≡ true
  pub pins : are_pins_good kind (pin_widths c.pins) ≡ true
  pub narrow : is_wide kind (given_params c.params) ≡ false
  pub widths : list_all (has_width kind (given_params c.params) (pin_widths c.pins)) (pins_of kind) ≡ true

pub shape_of : (kind : CellKind) (c : Cell) → misfit kind c ≡ None → HasShape kind c
unfolding misfit
shape_of kind c e =
    by (are_params_good kind (given_params c.params)) (are_pins_good kind (pin_widths c.pins)) (has_no_meaning kind (given_params c.params)) (is_wide kind (given_params c.params)) (list_all (has_width kind (given_params c.params) (pin_widths c.pins)) (pins_of kind)) refl refl refl refl e
  where
    by : (a b d f g : Bool) → are_params_good kind (given_params c.params) ≡ a → are_pins_good kind (pin_widths c.pins) ≡ b → is_wide kind (given_params c.params) ≡ f → list_all (has_width kind (given_params c.params) (pin_widths c.pins)) (pins_of kind) ≡ g → (if ((not a || not b) || d) then Some Bad else if f then Some Wide else if not g then Some Width else None) ≡ None → HasShape kind c
    by true true false false true ea eb ef eg h = record { params = ea; pins = eb; narrow = ef; widths = eg }
    by true true false false false ea eb ef eg h = absurd (cc)
    by true true false true g ea eb ef eg h = absurd (cc)
    by true true true f g ea eb ef eg h = absurd (cc)
    by true false d f g ea eb ef eg h = absurd (cc)
    by false b d f g ea eb ef eg h = absurd (cc)

-- how many pins have this name
abbrev named_so : List ℕ → List Pin → ℕ
named_so name [] = 0
named_so name (p ∷ ps) = cond (bytes_eq p.name name) 1 0 + named_so name ps

counted : (name : List ℕ) (n : ℕ) (ps : List Pin) → fold (λ k (p : PinWidth). k + cond (bytes_eq p.name name) 1 0) n (pin_widths ps) ≡ n + named_so name ps
counted name n [] = omega arith
counted name n (p ∷ ps) = omega (arith, counted name (n + cond (bytes_eq p.name name) 1 0) ps)

-- the signal at a pin that is there has its width
signal_fits : (kind : CellKind) (params : List Param) (pins : List Pin) (name : PinName) → has_width kind params (pin_widths pins) name ≡ true → named_so (pin_text name) pins ≡ 1 → length (signal_at pins (pin_text name)) ≡ pin_width kind params name
signal_fits kind params [] name e one = absurd (omega (arith, one))
signal_fits kind params (p ∷ pins) name e one =
    let both = and_parts (fits kind params name (record { name = p.name; width = length p.sig })) (has_width kind params (pin_widths pins) name) e in
    by (signal_fits kind params pins name both.1) both.0 one (bytes_eq p.name (pin_text name)) refl
  where
    by : (named_so (pin_text name) pins ≡ 1 → length (signal_at pins (pin_text name)) ≡ pin_width kind params name) → fits kind params name (record { name = p.name; width = length p.sig }) ≡ true → named_so (pin_text name) (p ∷ pins) ≡ 1 → (t : Bool) → bytes_eq p.name (pin_text name) ≡ t → length (signal_at (p ∷ pins) (pin_text name)) ≡ pin_width kind params name
    by rest h once true f =
        let here : (length p.sig == pin_width kind params name) ≡ true = subst (λ z. (not z || (length p.sig == pin_width kind params name)) ≡ true) f h in
        let same : length p.sig ≡ pin_width kind params name = eqb-true (length p.sig) (pin_width kind params name) here in
        subst (λ z. length (option_map_or (λ (q : Pin). q.sig) (if z then Some p else find (λ (q : Pin). bytes_eq q.name (pin_text name)) pins) []) ≡ pin_width kind params name) (sym f) same
    by rest h once false f =
        let later : cond false 1 0 + named_so (pin_text name) pins ≡ 1 = subst (λ z. cond z 1 0 + named_so (pin_text name) pins ≡ 1) f once in
        let there : named_so (pin_text name) pins ≡ 1 = omega (arith, later) in
        subst (λ z. length (option_map_or (λ (q : Pin). q.sig) (if z then Some p else find (λ (q : Pin). bytes_eq q.name (pin_text name)) pins) []) ≡ pin_width kind params name) (sym f) (rest there)

joined_once : (t u v : Bool) → v ≡ false → (t || (u && v)) ≡ true → t ≡ true
joined_once true u v f e = refl
joined_once false true true f e = absurd (true≢false f)
joined_once false true false f e = absurd (cc)
joined_once false false v f e = absurd (cc)

all_in : {A : Type 0} (test : A → Bool) (x : A) (xs : List A) → In x xs → list_all test xs ≡ true → test x ≡ true
all_in test x [] i e = absurd i
all_in test x (y ∷ ys) (inl here) e = ap test here ∙ (and_parts (test y) (list_all test ys) e).0
all_in test x (y ∷ ys) (inr i) e = all_in test x ys i (and_parts (test y) (list_all test ys) e).1

-- the signal at a pin that may not be missing
pub pin_fits : (kind : CellKind) (c : Cell) (name : PinName) → misfit kind c ≡ None → may_lack kind name ≡ false → In name (pins_of kind) → length (signal_at c.pins (pin_text name)) ≡ pin_width kind (given_params c.params) name
pin_fits kind c name fit lacks i =
    let pins : List PinWidth = pin_widths c.pins in
    let shape = shape_of kind c fit in
    let number : ℕ = count_by (λ (pin : PinWidth). bytes_eq pin.name (pin_text name)) pins in
    let good : list_all (is_joined kind pins) (pins_of kind) ≡ true = (and_parts (list_all (is_joined kind pins) (pins_of kind)) (list_all (has_pin kind) pins) shape.pins).0 in
    let joined : ((number == 1) || ((number == 0) && may_lack kind name)) ≡ true = all_in (is_joined kind pins) name (pins_of kind) i good in
    let once : number ≡ 1 = eqb-true number 1 (joined_once (number == 1) (number == 0) (may_lack kind name) lacks joined) in
    let one : named_so (pin_text name) c.pins ≡ 1 = omega (arith, once, counted (pin_text name) 0 c.pins) in
    signal_fits kind (given_params c.params) c.pins name (all_in (has_width kind (given_params c.params) (pin_widths c.pins)) name (pins_of kind) i shape.widths) one

-- a parameter that is given can be read
pub param_reads : (kind : CellKind) (c : Cell) (name : ParamName) → misfit kind c ≡ None → In name (params_of kind) → is_readable kind (given_params c.params) name ≡ true
param_reads kind c name fit i =
    let params : List Param = given_params c.params in
    let shape = shape_of kind c fit in
    let given : list_all (is_given kind params) (params_of kind) ≡ true = (and_parts (list_all (is_given kind params) (params_of kind)) (list_all (has_param kind) params) shape.params).0 in
    let own : is_given kind params name ≡ true = all_in (is_given kind params) name (params_of kind) i given in
    (and_parts (count_by (λ param. bytes_eq param.name (param_text name)) params == 1) (is_readable kind params name) own).1
