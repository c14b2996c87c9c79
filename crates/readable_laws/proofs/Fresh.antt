-- Fresh names: they are names, none of them stands twice, and none is one that a module has already.
use Rattle.std.proofs.Common.{◌≡◌, ℕ, zero, suc, ◌+◌, ◌%◌, ◌<◌, ◌≤◌, ◌^◌, max, Bool, true, false, List, [], ◌∷◌, ◌++◌, length, refl, ◌∙◌, ap, arith}
use Rattle.std.specs.Prelude.{◌&&◌, map, nat_lt}
use Rattle.std.specs.Fmt.{decimal}
use Rattle.std.specs.List.{fold, list_all}
use Rattle.std.specs.Str.{bytes_eq}
use Rattle.std.proofs.lemmas.Bool.{and_from, lt-ltb}
use Rattle.std.proofs.lemmas.Fmt.{decimal_by_steps}
use Rattle.std.proofs.lemmas.Slice.Eq.{bytes_eq-Decides}
use Rattle.rtl_lex.specs.Bytes.{is_name}
use Rattle.rtl_ir.specs.Build.{first_number, made_name, made_number, module_names}
use Rattle.rtl_ir.specs.declared.module.Module.{Module}
use Rattle.map_laws.proofs.FreshNames.{number_of_made}
use Rattle.rtl_readable.specs.Changing.{times}
use Rattle.rtl_readable.specs.Readable.{IsName, item_names}
use Rattle.rtl_readable.proofs.Counting.{counted, item_times, times_more}
use Rattle.readable_laws.specs.Extends.{made_names}

-- a fresh name is a name
all_more : (ds : List ℕ) (d : ℕ) → list_all is_name ds ≡ true → is_name d ≡ true → list_all is_name (ds ++ d ∷ []) ≡ true
all_more [] d e h = grind (arith, h)
all_more (c ∷ ds) d e h = grind (arith, all_more ds d, e, h)

digit_is : (n : ℕ) → n < 10 → is_name (48 + n) ≡ true
digit_is n small =
    and_from (nat_lt 32 (48 + n)) (nat_lt (48 + n) 256) (lt-ltb 32 (48 + n) (omega arith)) (lt-ltb (48 + n) 256 (omega (arith, small)))

decimal_is : (n : ℕ) → n < 2 ^ 64 → list_all is_name (decimal n) ≡ true
decimal_is = decimal_by_steps (λ n ds. list_all is_name ds ≡ true) (λ n h. grind (arith, digit_is n h)) (λ n ds h e. all_more ds (48 + n % 10) e (digit_is (n % 10) (omega arith)))

pub made_is_name : (n : ℕ) → n < 1000000000 → IsName (made_name n)
made_is_name n few =
    both (nat_lt 0 (length (115 ∷ 121 ∷ 110 ∷ 36 ∷ decimal n))) (list_all is_name (115 ∷ 121 ∷ 110 ∷ 36 ∷ decimal n)) (lt-ltb 0 (length (115 ∷ 121 ∷ 110 ∷ 36 ∷ decimal n)) (omega arith)) (decimal_is n (omega arith))
  where
    both : (a b : Bool) → a ≡ true → b ≡ true → (a && b) ≡ true
    both a b e f = rw (e, f) refl

-- the fresh names of numbers from one on, cut in two
pub names_split : (name : List ℕ) (low n m k : ℕ) → k ≡ n + m → times name (made_names low k) ≡ times name (made_names low n) + times name (made_names (low + n) m)
names_split name low zero m k e =
    let all : k ≡ m = omega arith in
    let here : low ≡ low + 0 = omega arith in
    let same : times name (made_names low k) ≡ times name (made_names (low + 0) m) = ap (λ z. times name (made_names low z)) all ∙ ap (λ z. times name (made_names z m)) here in
    omega (arith, same)
names_split name low (suc n) m zero e = absurd (omega (arith, e))
names_split name low (suc n) m (suc k) e =
    let later = names_split name (low + 1) n m k (omega (arith, e)) in
    let here : (low + 1) + n ≡ low + suc n = omega arith in
    let same : times name (made_names ((low + 1) + n) m) ≡ times name (made_names (low + suc n) m) = ap (λ z. times name (made_names z m)) here in
    omega (arith, later, same)

-- the name of a smaller number is none of them
pub none_made : (name : List ℕ) (low n : ℕ) → 0 < low → low + n ≤ 1000000000 → made_number name < low → times name (made_names low n) ≤ 0
none_made name low zero some few less = omega arith
none_made name low (suc n) some few less =
    by (bytes_eq name (made_name low)) refl (none_made name (low + 1) n (omega arith) (omega (arith, few)) (omega (arith, less)))
  where
    by : (t : Bool) → bytes_eq name (made_name low) ≡ t → times name (made_names (low + 1) n) ≤ 0 → counted t + times name (made_names (low + 1) n) ≤ 0
    by true e later =
        let same : made_number name ≡ low = ap made_number ((bytes_eq-Decides name (made_name low)).0 e) ∙ number_of_made low some (omega (arith, few)) in
        absurd (omega (arith, same, less))
    by false e later = omega (arith, later)

-- each of them stands once
pub once_made : (name : List ℕ) (low n : ℕ) → 0 < low → low + n ≤ 1000000000 → times name (made_names low n) ≤ 1
once_made name low zero some few = omega arith
once_made name low (suc n) some few =
    by (bytes_eq name (made_name low)) refl (once_made name (low + 1) n (omega arith) (omega (arith, few)))
  where
    by : (t : Bool) → bytes_eq name (made_name low) ≡ t → times name (made_names (low + 1) n) ≤ 1 → counted t + times name (made_names (low + 1) n) ≤ 1
    by true e later =
        let same : made_number name ≡ low = ap made_number ((bytes_eq-Decides name (made_name low)).0 e) ∙ number_of_made low some (omega (arith, few)) in
        let none : times name (made_names (low + 1) n) ≤ 0 = none_made name (low + 1) n (omega arith) (omega (arith, few)) (omega (arith, same)) in
        omega (arith, none)
    by false e later = omega (arith, later)

-- the numbers of the names of a module
greatest : (n : ℕ) (ns : List ℕ) → n ≤ fold max n ns
greatest n [] = omega arith
greatest n (m ∷ ns) = omega (arith, greatest (max n m) ns)

counted_low : (name : List ℕ) (n : ℕ) (names : List (List ℕ)) → 1 ≤ times name names → made_number name ≤ fold max n (map made_number names)
counted_low name n [] h = absurd (omega (arith, h))
counted_low name n (x ∷ names) h =
    by (bytes_eq name x) refl h (counted_low name (max n (made_number x)) names)
  where
    by : (t : Bool) → bytes_eq name x ≡ t → 1 ≤ counted t + times name names → (1 ≤ times name names → made_number name ≤ fold max (max n (made_number x)) (map made_number names)) → made_number name ≤ fold max (max n (made_number x)) (map made_number names)
    by true e k later =
        let same : made_number name ≡ made_number x = ap made_number ((bytes_eq-Decides name x).0 e) in
        omega (arith, same, greatest (max n (made_number x)) (map made_number names))
    by false e k later = later (omega (arith, k))

-- a name of a module has a number below the first fresh one
pub old_low : (name : List ℕ) (m : Module) → 1 ≤ times name (item_names m) → made_number name < first_number m
old_low name m h =
    let wires : List (List ℕ) = map (λ w. w.name) m.wires in
    let stores : List (List ℕ) = map (λ s. s.name) m.memories in
    let cells : List (List ℕ) = map (λ c. c.name) m.cells in
    let processes : List (List ℕ) = map (λ p. p.name) m.processes in
    let one = times_more name wires stores in
    let two = times_more name (wires ++ stores) cells in
    let three = times_more name ((wires ++ stores) ++ cells) processes in
    let low = counted_low name 0 (module_names m) (omega (arith, one, two, three, item_times name m, h)) in
    omega (arith, low)
