-- Settling: what an unordered list of drivers comes to, from x at every bit.
use Rattle.std.specs.Prelude.{◌≡◌, ℕ, zero, suc, Bool, true, cond, List, [], ◌∷◌, length, map}
use Rattle.rtl_bits.specs.declared.bit.Bit.{Bit}
use Rattle.rtl_bits.specs.declared.bit.Bit.TheVariants.{X}
use Rattle.net_model.specs.Lists.{In}

-- a valuation gives each bit a value; one stands in an order to another where it does so at each bit
abbrev pub Pointwise : {B : Type 0} → (Bit → Bit → Type 0) → (B → Bit) → (B → Bit) → Type 0
Pointwise {B} order v w = (b : B) → order (v b) (w b)

-- a bit, and its value over all bits
pub record Row (B : Type 0) : Type 0 where
  pub bit : B
  pub value : (B → Bit) → Bit

-- a value keeps an order: from valuations that stand in it come bits that do
abbrev pub KeepsOrder : {B : Type 0} → (Bit → Bit → Type 0) → ((B → Bit) → Bit) → Type 0
KeepsOrder {B} order f = (v w : B → Bit) → Pointwise order v w → order (f v) (f w)

-- each row keeps an order
abbrev pub AreMonotone : {B : Type 0} → (Bit → Bit → Type 0) → List (Row B) → Type 0
AreMonotone {B} order rows = (r : Row B) → In r rows → KeepsOrder order r.value

-- a valuation is above what the rows give from it
abbrev pub IsAboveRows : {B : Type 0} → (Bit → Bit → Type 0) → List (Row B) → (B → Bit) → Type 0
IsAboveRows {B} order rows w = (r : Row B) → In r rows → order (r.value w) (w r.bit)

-- a test says whether two bits are the same
abbrev pub IsSame : {B : Type 0} → (B → B → Bool) → Type 0
IsSame {B} same = (a b : B) → ((same a b ≡ true) → a ≡ b) × (a ≡ b → same a b ≡ true)

-- every row applied at once; a bit without a row is x
abbrev pub applied : {B : Type 0} → (B → B → Bool) → List (Row B) → (B → Bit) → B → Bit
applied same [] v b = X
applied same (r ∷ rows) v b = cond (same r.bit b) (r.value v) (applied same rows v b)

-- from x at every bit, every row applied at once, so many times
abbrev pub rounds : {B : Type 0} → (B → B → Bool) → List (Row B) → ℕ → B → Bit
rounds same rows zero b = X
rounds same rows (suc n) b = applied same rows (rounds same rows n) b

-- as often as there are bits
abbrev pub settled : {B : Type 0} → (B → B → Bool) → List (Row B) → B → Bit
settled same rows b = rounds same rows (length rows) b

-- the bits of the rows
abbrev pub bits_of : {B : Type 0} → List (Row B) → List B
bits_of rows = map (λ r. r.bit) rows
