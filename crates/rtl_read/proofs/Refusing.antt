-- An integer that is out of range has a fault wherever an integer may stand.
use Rattle.std.proofs.Common.{◌≡◌, ℕ, List, Option, Some, None, Result, Ok, Err, refl, sym, ap, ◌∙◌, subst}
use Rattle.std.specs.Prelude.{ℤ}
use Rattle.rtl_lex.specs.declared.sort.Sort.{Sort}
use Rattle.rtl_lex.specs.declared.place.Place.{Place}
use Rattle.rtl_lex.specs.declared.sort.Sort.TheVariants as sorts
use Rattle.rtl_lex.specs.Items.{Seen}
use Rattle.rtl_grammar.specs.declared.expect.Expect.{Expect}
use Rattle.rtl_grammar.specs.declared.expect.Expect.TheVariants as expects
use Rattle.rtl_grammar.specs.Grammar.{after}
use Rattle.rtl_grammar.specs.Uses.{◌>>=◌}
use Rattle.rtl_grammar.proofs.Reading.{RefusesNoNumber}
use Rattle.rtl_read.specs.declared.draft.Draft.{Draft}
use Rattle.rtl_read.specs.declared.read_fault.ReadFault.{ReadFault}
use Rattle.rtl_read.specs.declared.read_fault.ReadFault.TheVariants as faults
use Rattle.rtl_read.specs.Act.{act}

-- a call has some fault
abbrev Fails : {A : Type 0} → Result A ReadFault → Type 0
Fails r = (f : ReadFault) × (r ≡ Err f)

-- where what follows has a fault, so have both
then_fails : {A B : Type 0} (r : Result A ReadFault) (f : A → Result B ReadFault) → ((x : A) → Fails (f x)) → Fails (r >>= f)
then_fails (Ok x) f h = h x
then_fails (Err e) f h = (e, refl)

-- .. and where the first has one
first_fails : {A B : Type 0} (r : Result A ReadFault) (f : A → Result B ReadFault) → Fails r → Fails (r >>= f)
first_fails (Ok x) f h = absurd (cc (h.1))
first_fails (Err e) f h = (e, refl)

-- an integer that is out of range
abbrev out_of_range : List ℕ → Place → Seen
out_of_range text place = record { sort = sorts.Int; text = text; number = None; place = place }

has_fault : (role : Expect) (body : List Expect) (text : List ℕ) (place : Place) (d : Draft) → after role sorts.Int ≡ Some body → Fails (act role (out_of_range text place) d)
has_fault expects.AutoidxNumber body text place d is = (faults.Int place, refl)
has_fault expects.AttributeValue body text place d is = (faults.Int place, refl)
has_fault expects.ParameterValue body text place d is = (faults.Int place, refl)
has_fault expects.WireWidth body text place d is = (faults.Int place, refl)
has_fault expects.WireOffset body text place d is = (faults.Int place, refl)
has_fault expects.PortNumber body text place d is = (faults.Int place, refl)
has_fault expects.MemoryWidth body text place d is = (faults.Int place, refl)
has_fault expects.MemorySize body text place d is = (faults.Int place, refl)
has_fault expects.MemoryOffset body text place d is = (faults.Int place, refl)
has_fault expects.CellParameterValue body text place d is = (faults.Int place, refl)
has_fault expects.BehindLeft body text place d is = (faults.Int place, refl)
has_fault expects.Patterns body text place d is = (faults.Int place, refl)
has_fault expects.BehindAddress body text place d is = then_fails _ _ (λ sig. (faults.Int place, refl))
has_fault expects.BehindValue body text place d is = then_fails _ _ (λ sig. (faults.Int place, refl))
has_fault expects.BehindEnable body text place d is = then_fails _ _ (λ sig. (faults.Int place, refl))
has_fault expects.Signal body text place d is = (faults.Int place, refl)
has_fault expects.Inside body text place d is = (faults.Int place, refl)
has_fault expects.BehindInside body text place d is = first_fails _ _ (then_fails _ _ (λ t. (faults.Int place, refl)))
has_fault expects.Index body text place d is = (faults.Int place, refl)
has_fault expects.LowIndex body text place d is = (faults.Int place, refl)
has_fault role body text place d is = absurd cc

is_out_of_range : (i : Seen) → i.sort ≡ sorts.Int → i.number ≡ None → out_of_range i.text i.place ≡ i
is_out_of_range i sort none =
    let with : Sort → Option ℤ → Seen = λ s n. record { sort = s; text = i.text; number = n; place = i.place } in
    ap (λ (s : Sort). with s None) (sym sort) ∙ ap (λ (n : Option ℤ). with i.sort n) (sym none)

pub refuses_no_number : RefusesNoNumber act
refuses_no_number role body i d sort none is = subst (λ (x : Seen). Fails (act role x d)) (is_out_of_range i sort none) (has_fault role body i.text i.place d is)
