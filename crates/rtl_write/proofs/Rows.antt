-- A token that stands at a place of the grammar leaves what is good at the places behind it: the ways to say so.
use Rattle.std.proofs.Common.{◌≡◌, List, ◌++◌, Option, Some, None, Result, Ok, Err, Bool, true, false, refl}
use Rattle.std.specs.Prelude.{if◌then◌else◌}
use Rattle.rtl_grammar.specs.declared.expect.Expect.{Expect}
use Rattle.rtl_grammar.specs.Uses.{◌>>=◌}
use Rattle.rtl_read.specs.declared.draft.Draft.{Draft}
use Rattle.rtl_read.specs.declared.read_fault.ReadFault.{ReadFault}
use Rattle.rtl_write.proofs.Stages.{Fits}

-- what the token leaves is good at the places that it is followed by, and then at these
abbrev pub Leaves : List Expect → Option (List Expect) → Result Draft ReadFault → Type 0
Leaves roles None r = Unit {0}
Leaves roles (Some body) (Err fault) = Unit {0}
Leaves roles (Some body) (Ok next) = Fits (body ++ roles) next

pub leaves_bind : {X : Type 0} (roles body : List Expect) (r : Result X ReadFault) (f : X → Result Draft ReadFault) → ((x : X) → r ≡ Ok x → Leaves roles (Some body) (f x)) → Leaves roles (Some body) (r >>= f)
leaves_bind roles body (Ok x) f on = on x refl
leaves_bind roles body (Err fault) f on = tt

pub leaves_if : (roles body : List Expect) (b : Bool) (fault : ReadFault) (r : Result Draft ReadFault) → (b ≡ false → Leaves roles (Some body) r) → Leaves roles (Some body) (if b then Err fault else r)
leaves_if roles body true fault r on = tt
leaves_if roles body false fault r on = on refl

-- .. of steps whose answer goes on
pub leaves_bind_bind : {X Y : Type 0} (roles body : List Expect) (r : Result X ReadFault) (f : X → Result Y ReadFault) (g : Y → Result Draft ReadFault) → ((x : X) → r ≡ Ok x → Leaves roles (Some body) (f x >>= g)) → Leaves roles (Some body) ((r >>= f) >>= g)
leaves_bind_bind roles body (Ok x) f g on = on x refl
leaves_bind_bind roles body (Err fault) f g on = tt

pub leaves_if_bind : {Y : Type 0} (roles body : List Expect) (b : Bool) (fault : ReadFault) (r : Result Y ReadFault) (g : Y → Result Draft ReadFault) → (b ≡ false → Leaves roles (Some body) (r >>= g)) → Leaves roles (Some body) ((if b then Err fault else r) >>= g)
leaves_if_bind roles body true fault r g on = tt
leaves_if_bind roles body false fault r g on = on refl

pub leaves_if_bind_bind : {X Y : Type 0} (roles body : List Expect) (b : Bool) (fault : ReadFault) (r : Result X ReadFault) (f : X → Result Y ReadFault) (g : Y → Result Draft ReadFault) → (b ≡ false → Leaves roles (Some body) ((r >>= f) >>= g)) → Leaves roles (Some body) (((if b then Err fault else r) >>= f) >>= g)
leaves_if_bind_bind roles body true fault r f g on = tt
leaves_if_bind_bind roles body false fault r f g on = on refl
