-- The cells that passes build, each with the wire that it drives.
use Rattle.std.proofs.Common.{◌≡◌, ℕ, ◌+◌, ◌<◌, ◌≤◌, Bool, true, false, List, [], ◌∷◌, ◌++◌, length, refl, sym, arith}
use Rattle.std.specs.Prelude.{◌&&◌, codes, not}
use Rattle.std.specs.List.{All, AllByRecursion, IsDistinct, list_any}
use Rattle.std.specs.Str.{bytes_eq}
use Rattle.std.proofs.lemmas.Bool.{and_parts, lt-ltb, or_parts}
use Rattle.std.proofs.lemmas.List.Elements.{All-cons, All-nil}
use Rattle.cell_types.specs.declared.level.Level.{Level}
use Rattle.cell_types.specs.declared.level.Level.TheVariants as At
use Rattle.rtl_bits.specs.declared.bit.Bit.{Bit}
use Rattle.rtl_sig.specs.Names.{AreDistinct}
use Rattle.rtl_sig.specs.declared.sig.SigBit.{SigBit}
use Rattle.rtl_ir.specs.Build.{Building, inner_wire, integer_param, made_name, new_driver, pin_of, whole}
use Rattle.rtl_ir.specs.declared.cell.CellParam.{CellParam}
use Rattle.rtl_ir.specs.declared.cell.Pin.{Pin}
use Rattle.rtl_ir.specs.declared.wire.Wire.{Wire}
use Rattle.net_model.specs.Proc.Start.{init_attribute}
use Rattle.net_model.specs.Proc.Sync.{polarity_of}
use Rattle.rtl_readable.specs.Readable.{AreAttributes, IsAttribute, IsBitOf, IsCellParam, IsName, IsPin, IsSignal}
use Rattle.readable_laws.specs.Extends.{Extends}
use Rattle.readable_laws.proofs.Extending.{extends_driver, whole_signal}
use Rattle.readable_laws.proofs.Parts.{one_signal}

-- a test of names that are told
abbrev pub are_apart : List (List ℕ) → Bool
are_apart [] = true
are_apart (x ∷ xs) = not (list_any (bytes_eq x) xs) && are_apart xs

apart_from : (x : List ℕ) (xs : List (List ℕ)) → list_any (bytes_eq x) xs ≡ false → AllByRecursion (λ y. bytes_eq x y ≡ false) xs
apart_from x [] e = tt
apart_from x (y ∷ ys) e = let both = or_parts (bytes_eq x y) (list_any (bytes_eq x) ys) e in (both.0, apart_from x ys both.1)

not_true : (t : Bool) → not t ≡ true → t ≡ false
not_true true e = sym e
not_true false e = refl

pub apart_distinct : (names : List (List ℕ)) → are_apart names ≡ true → AreDistinct names
unfolding IsDistinct
apart_distinct [] e = tt
apart_distinct (x ∷ xs) e =
    let both = and_parts (not (list_any (bytes_eq x) xs)) (are_apart xs) e in
    (apart_from x xs (not_true (list_any (bytes_eq x) xs) both.0), apart_distinct xs both.1)

-- parameters
pub number_is : (name : List ℕ) (n : ℕ) → IsName name → n < 2147483648 → IsCellParam (integer_param name n)
number_is name n is few = record { name = is; value = lt-ltb n 2147483648 few }

pub params_one : (p : CellParam) → IsCellParam p → All IsCellParam (p ∷ [])
params_one p h = All-cons IsCellParam p [] h (All-nil IsCellParam)

pub params_two : (p q : CellParam) → IsCellParam p → IsCellParam q → All IsCellParam (p ∷ q ∷ [])
params_two p q h i = All-cons IsCellParam p (q ∷ []) h (params_one q i)

pub params_three : (p q r : CellParam) → IsCellParam p → IsCellParam q → IsCellParam r → All IsCellParam (p ∷ q ∷ r ∷ [])
params_three p q r h i j = All-cons IsCellParam p (q ∷ r ∷ []) h (params_two q r i j)

-- the number of a level
pub polarity_is : (name : List ℕ) (level : Level) → IsName name → IsCellParam (integer_param name (polarity_of level))
polarity_is name At.Low h = number_is name 0 h (omega arith)
polarity_is name At.High h = number_is name 1 h (omega arith)

-- a start value as an attribute
pub init_is : (bits : List Bit) → length bits ≤ 1048576 → AreAttributes (init_attribute bits ∷ [])
init_is bits few = record {
  each = All-cons IsAttribute (init_attribute bits) [] (record { name = refl; value = few }) (All-nil IsAttribute);
  distinct = apart_distinct (codes "\\init" ∷ []) refl;
}

pub pins_one : (wires : List Wire) (p : Pin) → IsPin wires p → All (IsPin wires) (p ∷ [])
pins_one wires p h = All-cons (IsPin wires) p [] h (All-nil (IsPin wires))

pub pins_two : (wires : List Wire) (p q : Pin) → IsPin wires p → IsPin wires q → All (IsPin wires) (p ∷ q ∷ [])
pins_two wires p q h i = All-cons (IsPin wires) p (q ∷ []) h (pins_one wires q i)

pub pins_three : (wires : List Wire) (p q r : Pin) → IsPin wires p → IsPin wires q → IsPin wires r → All (IsPin wires) (p ∷ q ∷ r ∷ [])
pins_three wires p q r h i j = All-cons (IsPin wires) p (q ∷ r ∷ []) h (pins_two wires q r i j)

-- what is built, with a signal over its wires
pub record Builds (old new : Building) (signal : List SigBit) : Type 0 where
  pub steps : Extends old new
  pub signal_is : IsSignal new.body.wires signal

-- the parameters of a cell with operands of these widths
binary_params : (n m y : ℕ) → n < 2147483648 → m < 2147483648 → y < 2147483648 → All IsCellParam (integer_param (codes "\\A_SIGNED") 0 ∷ integer_param (codes "\\A_WIDTH") n ∷ integer_param (codes "\\B_SIGNED") 0 ∷ integer_param (codes "\\B_WIDTH") m ∷ integer_param (codes "\\Y_WIDTH") y ∷ [])
binary_params n m y h i j =
    let last = params_three (integer_param (codes "\\B_SIGNED") 0) (integer_param (codes "\\B_WIDTH") m) (integer_param (codes "\\Y_WIDTH") y) (number_is (codes "\\B_SIGNED") 0 refl (omega arith)) (number_is (codes "\\B_WIDTH") m refl i) (number_is (codes "\\Y_WIDTH") y refl j) in
    All-cons IsCellParam (integer_param (codes "\\A_SIGNED") 0) (integer_param (codes "\\A_WIDTH") n ∷ integer_param (codes "\\B_SIGNED") 0 ∷ integer_param (codes "\\B_WIDTH") m ∷ integer_param (codes "\\Y_WIDTH") y ∷ []) (number_is (codes "\\A_SIGNED") 0 refl (omega arith))
    (All-cons IsCellParam (integer_param (codes "\\A_WIDTH") n) (integer_param (codes "\\B_SIGNED") 0 ∷ integer_param (codes "\\B_WIDTH") m ∷ integer_param (codes "\\Y_WIDTH") y ∷ []) (number_is (codes "\\A_WIDTH") n refl h) last)

-- the signal of the wire that a new cell drives
driven_is : (b : Building) (width : ℕ) → width ≤ 1048576 → IsSignal (b.body.wires ++ inner_wire (made_name (b.next + 1)) width [] ∷ []) (whole (length b.body.wires) width)
driven_is b width narrow = whole_signal b.body.wires (inner_wire (made_name (b.next + 1)) width []) narrow

module _ (b : Building) where
  -- a comparison of two words
  pub eq_builds : (n : ℕ) (a c : List SigBit) → n < 2147483648 → IsSignal b.body.wires a → IsSignal b.body.wires c
      → (let made = new_driver (codes "$eq") (integer_param (codes "\\A_SIGNED") 0 ∷ integer_param (codes "\\A_WIDTH") n ∷ integer_param (codes "\\B_SIGNED") 0 ∷ integer_param (codes "\\B_WIDTH") n ∷ integer_param (codes "\\Y_WIDTH") 1 ∷ []) (pin_of (codes "\\A") a ∷ pin_of (codes "\\B") c ∷ []) (codes "\\Y") 1 b in Builds b made.1 made.0)
  eq_builds n a c few ha hc = record {
    steps = extends_driver (codes "$eq") _ (pin_of (codes "\\A") a ∷ pin_of (codes "\\B") c ∷ []) (codes "\\Y") 1 b
        (record { kind_name = refl; values = binary_params n n 1 few few (omega arith); distinct_params = apart_distinct _ refl; distinct_pins = apart_distinct _ refl })
        (pins_two b.body.wires (pin_of (codes "\\A") a) (pin_of (codes "\\B") c) (record { name = refl; sig = ha }) (record { name = refl; sig = hc })) refl (omega arith) (omega arith);
    signal_is = driven_is b 1 (omega arith);
  }

  -- both of two bits
  pub and_builds : (s t : SigBit) → IsBitOf b.body.wires s → IsBitOf b.body.wires t
      → (let made = new_driver (codes "$and") (integer_param (codes "\\A_SIGNED") 0 ∷ integer_param (codes "\\A_WIDTH") 1 ∷ integer_param (codes "\\B_SIGNED") 0 ∷ integer_param (codes "\\B_WIDTH") 1 ∷ integer_param (codes "\\Y_WIDTH") 1 ∷ []) (pin_of (codes "\\A") (s ∷ []) ∷ pin_of (codes "\\B") (t ∷ []) ∷ []) (codes "\\Y") 1 b in Builds b made.1 made.0)
  and_builds s t hs ht = record {
    steps = extends_driver (codes "$and") _ (pin_of (codes "\\A") (s ∷ []) ∷ pin_of (codes "\\B") (t ∷ []) ∷ []) (codes "\\Y") 1 b
        (record { kind_name = refl; values = binary_params 1 1 1 (omega arith) (omega arith) (omega arith); distinct_params = apart_distinct _ refl; distinct_pins = apart_distinct _ refl })
        (pins_two b.body.wires (pin_of (codes "\\A") (s ∷ [])) (pin_of (codes "\\B") (t ∷ [])) (record { name = refl; sig = one_signal b.body.wires s hs }) (record { name = refl; sig = one_signal b.body.wires t ht })) refl (omega arith) (omega arith);
    signal_is = driven_is b 1 (omega arith);
  }

  -- one of several bits
  pub or_builds : (a : List SigBit) → length a < 2147483648 → IsSignal b.body.wires a
      → (let made = new_driver (codes "$reduce_or") (integer_param (codes "\\A_SIGNED") 0 ∷ integer_param (codes "\\A_WIDTH") (length a) ∷ integer_param (codes "\\Y_WIDTH") 1 ∷ []) (pin_of (codes "\\A") a ∷ []) (codes "\\Y") 1 b in Builds b made.1 made.0)
  or_builds a few ha = record {
    steps = extends_driver (codes "$reduce_or") _ (pin_of (codes "\\A") a ∷ []) (codes "\\Y") 1 b
        (record {
          kind_name = refl;
          values = params_three (integer_param (codes "\\A_SIGNED") 0) (integer_param (codes "\\A_WIDTH") (length a)) (integer_param (codes "\\Y_WIDTH") 1)
              (number_is (codes "\\A_SIGNED") 0 refl (omega arith)) (number_is (codes "\\A_WIDTH") (length a) refl few) (number_is (codes "\\Y_WIDTH") 1 refl (omega arith));
          distinct_params = apart_distinct _ refl;
          distinct_pins = apart_distinct _ refl;
        })
        (pins_one b.body.wires (pin_of (codes "\\A") a) (record { name = refl; sig = ha })) refl (omega arith) (omega arith);
    signal_is = driven_is b 1 (omega arith);
  }

  -- a multiplexer of two words
  pub mux_builds : (a c : List SigBit) (s : SigBit) → 0 < length a → length a ≤ 4096 → IsSignal b.body.wires a → IsSignal b.body.wires c → IsBitOf b.body.wires s
      → (let made = new_driver (codes "$mux") (integer_param (codes "\\WIDTH") (length a) ∷ []) (pin_of (codes "\\A") a ∷ pin_of (codes "\\B") c ∷ pin_of (codes "\\S") (s ∷ []) ∷ []) (codes "\\Y") (length a) b in Builds b made.1 made.0)
  mux_builds a c s some few ha hc hs = record {
    steps = extends_driver (codes "$mux") _ (pin_of (codes "\\A") a ∷ pin_of (codes "\\B") c ∷ pin_of (codes "\\S") (s ∷ []) ∷ []) (codes "\\Y") (length a) b
        (record {
          kind_name = refl;
          values = params_one (integer_param (codes "\\WIDTH") (length a)) (number_is (codes "\\WIDTH") (length a) refl (omega (arith, few)));
          distinct_params = apart_distinct _ refl;
          distinct_pins = apart_distinct _ refl;
        })
        (pins_three b.body.wires (pin_of (codes "\\A") a) (pin_of (codes "\\B") c) (pin_of (codes "\\S") (s ∷ [])) (record { name = refl; sig = ha }) (record { name = refl; sig = hc }) (record { name = refl; sig = one_signal b.body.wires s hs })) refl some (omega (arith, few));
    signal_is = driven_is b (length a) (omega (arith, few));
  }
