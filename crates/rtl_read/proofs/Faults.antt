-- Faults and states go on through what follows.
use Rattle.std.proofs.Common.{◌≡◌, Result, Ok, ap}
use Rattle.rtl_read.specs.declared.read_fault.ReadFault.{ReadFault}
use Rattle.rtl_read.specs.declared.read_fault.ReadFault.TheVariants as faults
use Rattle.rtl_grammar.specs.Uses.{◌>>=◌}
use Rattle.rtl_read.specs.Gives.{Fails}

-- a fault of the first is one of both
pub fails_on : {A B : Type 0} (e : ReadFault) (r : Result A ReadFault) (f : A → Result B ReadFault) → Fails e r → Fails e (r >>= f)
fails_on faults.Memory r f h = tt
fails_on {A} {B} (faults.Lex p) r f h = ap (λ (y : Result A ReadFault). y >>= f) h
fails_on {A} {B} (faults.Syntax p) r f h = ap (λ (y : Result A ReadFault). y >>= f) h
fails_on {A} {B} (faults.Int p) r f h = ap (λ (y : Result A ReadFault). y >>= f) h
fails_on {A} {B} (faults.Duplicate p) r f h = ap (λ (y : Result A ReadFault). y >>= f) h
fails_on {A} {B} (faults.UnknownName p) r f h = ap (λ (y : Result A ReadFault). y >>= f) h
fails_on {A} {B} (faults.Range p) r f h = ap (λ (y : Result A ReadFault). y >>= f) h
fails_on {A} {B} (faults.Limit p) r f h = ap (λ (y : Result A ReadFault). y >>= f) h

-- where the first gives a value, both give what follows it
pub goes_on : {A B : Type 0} (r : Result A ReadFault) (x : A) (f : A → Result B ReadFault) → r ≡ Ok x → (r >>= f) ≡ f x
goes_on {A} {B} r x f h = ap (λ (y : Result A ReadFault). y >>= f) h
