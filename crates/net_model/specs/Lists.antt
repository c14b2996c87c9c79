-- What stands in a list, and lists in which nothing stands twice.
use Rattle.std.specs.Prelude.{◌≡◌, ◌⊎◌, List, [], ◌∷◌}

-- x is one of these
abbrev pub In : {A : Type 0} → A → List A → Type 0
In x [] = ⊥
In x (y ∷ ys) = (x ≡ y) ⊎ In x ys

-- x is none of these
abbrev pub Apart : {A : Type 0} → A → List A → Type 0
Apart x [] = Unit {0}
Apart x (y ∷ ys) = (x ≡ y → ⊥) × Apart x ys

-- nothing stands twice
abbrev pub Distinct : {A : Type 0} → List A → Type 0
Distinct [] = Unit {0}
Distinct (x ∷ xs) = Apart x xs × Distinct xs
