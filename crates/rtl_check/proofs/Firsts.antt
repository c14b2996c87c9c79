-- First faults of lists that are joined.
use Rattle.std.proofs.Common.{◌≡◌, List, [], ◌∷◌, ◌++◌, Some, sym, ◌∙◌, ap, subst}
use Rattle.rtl_ir.specs.Fault as rtl
use Rattle.rtl_check.specs.declared.fault.CheckFault.{CheckFault}
use Rattle.rtl_check.specs.declared.fault.CheckFault.TheVariants as check
use Rattle.rtl_check.specs.Finds.{IsFirst, first_answer}

some_first : (f : CheckFault) (xs ys : List rtl.Fault) → first_answer xs ≡ Some f → first_answer (xs ++ ys) ≡ Some f
some_first f [] ys e = absurd (cc)
some_first f (x ∷ xs) ys e = e

-- the first fault of a list is the first of a longer one
pub first_before : (f : CheckFault) (xs ys : List rtl.Fault) → IsFirst f xs → IsFirst f (xs ++ ys)
first_before check.Memory xs ys h = tt
first_before (check.Width s) xs ys h = some_first (check.Width s) xs ys h
first_before (check.UnknownCell s) xs ys h = some_first (check.UnknownCell s) xs ys h
first_before (check.UnsupportedCell s) xs ys h = some_first (check.UnsupportedCell s) xs ys h
first_before (check.BadParameterOrPort s) xs ys h = some_first (check.BadParameterOrPort s) xs ys h
first_before (check.TooWide s) xs ys h = some_first (check.TooWide s) xs ys h
first_before (check.TwoDrivers s) xs ys h = some_first (check.TwoDrivers s) xs ys h
first_before (check.BadPort s) xs ys h = some_first (check.BadPort s) xs ys h
first_before (check.BadProcess s) xs ys h = some_first (check.BadProcess s) xs ys h
first_before (check.BadMemory s) xs ys h = some_first (check.BadMemory s) xs ys h
first_before (check.Recursion id) xs ys h = some_first (check.Recursion id) xs ys h

-- behind a list without faults the first fault is that of the rest
pub first_behind : (f : CheckFault) (xs ys : List rtl.Fault) → xs ≡ [] → IsFirst f ys → IsFirst f (xs ++ ys)
first_behind f xs ys e h = subst (λ zs. IsFirst f (zs ++ ys)) (sym e) h

-- no faults in either
pub none_in : (xs ys : List rtl.Fault) → xs ≡ [] → ys ≡ [] → xs ++ ys ≡ []
none_in xs ys e f = ap (λ zs. zs ++ ys) e ∙ f
