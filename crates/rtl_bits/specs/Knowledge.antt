-- What is known of a bit and of a list of bits, and the two orders of knowledge.
use Rattle.std.specs.Prelude.{◌≡◌, Bool, true, false, List, [], ◌∷◌}
use Rattle.std.specs.List.{list_all}
use Rattle.rtl_bits.specs.declared.bit.Bit.{Bit}
use Rattle.rtl_bits.specs.declared.bit.Bit.TheVariants.{S0, S1, X, Z, M, Dash}

-- a bit is known where it is 0 or 1
abbrev pub IsKnown : Bit → Type 0
IsKnown S0 = Unit {0}
IsKnown S1 = Unit {0}
IsKnown X = ⊥
IsKnown Z = ⊥
IsKnown M = ⊥
IsKnown Dash = ⊥

-- the test of that
abbrev pub is_known : Bit → Bool
is_known S0 = true
is_known S1 = true
is_known X = false
is_known Z = false
is_known M = false
is_known Dash = false

-- each bit of the list is known
abbrev pub AreKnown : List Bit → Type 0
AreKnown [] = Unit {0}
AreKnown (b ∷ bs) = IsKnown b × AreKnown bs

-- the test of that
abbrev pub all_known : List Bit → Bool
all_known bits = list_all is_known bits

-- the order of knowledge: a is below b where a is unknown, or equals b
abbrev pub Below : Bit → Bit → Type 0
Below S0 b = b ≡ S0
Below S1 b = b ≡ S1
Below X b = Unit {0}
Below Z b = Unit {0}
Below M b = Unit {0}
Below Dash b = Unit {0}

-- the flat order: x is below all, and any other bit is below itself alone
abbrev pub FlatBelow : Bit → Bit → Type 0
FlatBelow S0 b = b ≡ S0
FlatBelow S1 b = b ≡ S1
FlatBelow X b = Unit {0}
FlatBelow Z b = b ≡ Z
FlatBelow M b = b ≡ M
FlatBelow Dash b = b ≡ Dash

-- two lists of one length stand in an order where their bits do, place by place
abbrev pub Placewise : (Bit → Bit → Type 0) → List Bit → List Bit → Type 0
Placewise order [] [] = Unit {0}
Placewise order [] (b ∷ bs) = ⊥
Placewise order (a ∷ as') [] = ⊥
Placewise order (a ∷ as') (b ∷ bs) = order a b × Placewise order as' bs

-- a list is below a list of the same length where it is so place by place
abbrev pub AreBelow : List Bit → List Bit → Type 0
AreBelow = Placewise Below

-- the same in the flat order
abbrev pub AreFlatBelow : List Bit → List Bit → Type 0
AreFlatBelow = Placewise FlatBelow

-- a function of one bit keeps an order
abbrev pub IsMonotone : (Bit → Bit → Type 0) → (Bit → Bit) → Type 0
IsMonotone order f = (a b : Bit) → order a b → order (f a) (f b)

-- a function of two bits keeps an order
abbrev pub IsMonotone2 : (Bit → Bit → Type 0) → (Bit → Bit → Bit) → Type 0
IsMonotone2 order f = (a a' b b' : Bit) → order a a' → order b b' → order (f a b) (f a' b')

-- a function of three bits keeps an order
abbrev pub IsMonotone3 : (Bit → Bit → Type 0) → (Bit → Bit → Bit → Bit) → Type 0
IsMonotone3 order f =
    (a a' b b' c c' : Bit) → order a a' → order b b' → order c c' → order (f a b c) (f a' b' c')
