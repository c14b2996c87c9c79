-- a cell without faults has a shape within bounds
use Rattle.std.proofs.Common.{◌≡◌, ◌<◌, ◌&&◌, ◌||◌, not, Bool, true, false, ltb, length, List, [], ◌∷◌, refl}
use Rattle.std.specs.List.{list_all, list_any}
use Rattle.std.proofs.lemmas.Bool.{eqb-true, ltb-true}
use Rattle.rtl_bits.specs.Knowledge.{all_known}
use Rattle.cell_types.specs.declared.given.Param.{Param}
use Rattle.cell_types.specs.declared.given.PinWidth.{PinWidth}
use Rattle.cell_types.specs.declared.kind.CellKind.{CellKind}
use Rattle.cell_types.specs.declared.param_name.ParamName.{ParamName}
use Rattle.cell_types.specs.declared.param_name.ParamName.TheVariants as P
use Rattle.cell_types.specs.declared.reading.Reading.TheVariants as Read
use Rattle.cell_types.specs.Fault.{are_params_good, are_pins_good, has_no_meaning, is_bad, is_given, has_param}
use Rattle.cell_types.specs.Given.{number_in, value_in}
use Rattle.cell_types.specs.Params.{params_of}
use Rattle.cell_types.specs.Reading.{is_readable, is_read_as, reading_of}

-- each test of the list is passed
abbrev pub EachIs : {A : Type 0} → Bool → (A → Bool) → List A → Type 0
EachIs r test [] = Unit {0}
EachIs r test (x ∷ xs) = (test x ≡ r) × EachIs r test xs

and_true : (a b : Bool) → (a && b) ≡ true → (a ≡ true) × (b ≡ true)
and_true true true e = (refl, refl)
and_true true false e = absurd cc
and_true false b e = absurd cc

or_false : (a b : Bool) → (a || b) ≡ false → (a ≡ false) × (b ≡ false)
or_false false false e = (refl, refl)
or_false false true e = absurd cc
or_false true b e = absurd cc

not_false : (a : Bool) → not a ≡ false → a ≡ true
not_false true e = refl
not_false false e = absurd cc

each_all : {A : Type 0} (test : A → Bool) (xs : List A) → list_all test xs ≡ true → EachIs true test xs
each_all test [] e = tt
each_all test (x ∷ xs) e =
    let both = and_true (test x) (list_all test xs) e in
    (both.0, each_all test xs both.1)

pub each_none : {A : Type 0} (test : A → Bool) (xs : List A) → list_any test xs ≡ false → EachIs false test xs
each_none test [] e = tt
each_none test (x ∷ xs) e =
    let both = or_false (test x) (list_any test xs) e in
    (both.0, each_none test xs both.1)

pub not_bad : (kind : CellKind) (params : List Param) (pins : List PinWidth) → is_bad kind params pins ≡ false → EachIs true (is_given kind params) (params_of kind) × (has_no_meaning kind params ≡ false)
not_bad kind params pins e =
    let first = or_false (not (are_params_good kind params) || not (are_pins_good kind pins)) (has_no_meaning kind params) e in
    let second = or_false (not (are_params_good kind params)) (not (are_pins_good kind pins)) first.0 in
    let good = and_true (list_all (is_given kind params) (params_of kind)) (list_all (has_param kind) params) (not_false _ second.0) in
    (each_all (is_given kind params) (params_of kind) good.0, first.1)

pub positive : (kind : CellKind) (params : List Param) (name : ParamName) → reading_of kind name ≡ Read.Width → is_given kind params name ≡ true → 0 < number_in params name
positive kind params name reads given =
    let readable = (and_true _ (is_readable kind params name) given).1 in
    let known : is_read_as Read.Width params name ≡ true = rw reads at readable in
    ltb-true 0 (number_in params name) (and_true (all_known (value_in params name)) (ltb 0 (number_in params name)) known).1

pub filling : (kind : CellKind) (params : List Param) (name : ParamName) → reading_of kind name ≡ Read.Word → is_given kind params name ≡ true → length (value_in params name) ≡ number_in params P.Width
filling kind params name reads given =
    let readable = (and_true _ (is_readable kind params name) given).1 in
    let known : is_read_as Read.Word params name ≡ true = rw reads at readable in
    eqb-true (length (value_in params name)) (number_in params P.Width) known
