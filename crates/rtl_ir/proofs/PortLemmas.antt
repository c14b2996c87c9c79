-- What a map of keys holds is what the definitions put in order.
use Rattle.std.proofs.Common.{◌≡◌, ℕ, suc, ℤ, ◌-◌, ◌<◌, ◌≤◌, true, false, List, [], ◌∷◌, Bor, Vec, Global, Result, Ok, Err, IfOk, map, filter, drop, length, get_or, refl, sym, ◌∙◌, ap, subst, arith, le_refl}
use Rattle.std.proofs.Math.Seq.{drop-cons}
use Rattle.std.proofs.lemmas.Map.Text.{is_eq-slice_cmp}
use Rattle.std.proofs.lemmas.Slice.Eq.{bytes_eq-Decides}
use Rattle.std.specs.BTreeMap.{insert_entry}
use Rattle.std.specs.Cmp.{nat_cmp_is}
use Rattle.std.specs.Cmp.Lexicographic.{slice_cmp}
use Rattle.std.specs.Ordering.{nat_cmp, int_cmp, ordering_then, match_ordering, is_eq}
use Rattle.std.specs.declared.cmp.Ordering.{Ordering}
use Rattle.std.specs.declared.cmp.Ordering.TheVariants.{Less, Equal, Greater}
use Rattle.rtl_ir.specs.declared.wire.Wire.{Wire}
use Rattle.rtl_ir.specs.declared.module.Module.{Module}
use Rattle.rtl_ir.specs.Ports.{is_port, place_wire, in_number_order, place_module}

-- what is left from one place down
pub drop-before : {A : Type 0} (xs : List A) (at : ℕ) (x : A) → 0 < at → at ≤ length xs → x ≡ get_or xs (at - 1) x → drop (at - 1) xs ≡ x ∷ drop at xs
drop-before xs at x some within is =
    let next : suc (at - 1) ≡ at = omega arith in
    let inside : at - 1 < length xs = omega arith in
    drop-cons xs (at - 1) x inside ∙ (λ i. sym is i ∷ drop (next i) xs)

map-map : {A B C : Type 0} (f : A → B) (g : B → C) (xs : List A) → map g (map f xs) ≡ map (λ x. g (f x)) xs
map-map f g [] = refl
map-map f g (x ∷ xs) = ap (λ ys. g (f x) ∷ ys) (map-map f g xs)

-- the values of a map, as what they point to
pub found_values : {E T K : Type 0} (r : Result (Vec (Bor T) Global) E) (es : List (K × Bor T)) (all : List T) → map (λ e. e.1.now) es ≡ all
    → IfOk r (λ v. v.items ≡ map (λ e. e.1) es) → IfOk r (λ v. map (λ x. x.now) v.items ≡ all)
found_values (Ok v) es all is h = ap (map (λ x. x.now)) h ∙ map-map (λ e. e.1) (λ x. x.now) es ∙ is
found_values (Err e) es all is h = tt

-- a wire under its number and its place
abbrev pub NumberedWire : Type 0
NumberedWire = (ℤ × ℕ) × Bor Wire

abbrev pub wire_of : NumberedWire → Wire
wire_of e = e.1.now

-- each wire stands under its number, and its place is not below this one
abbrev pub AreNumbered : ℕ → List NumberedWire → Type 0
AreNumbered at [] = Unit {0}
AreNumbered at (e ∷ es) = (e.0.0 ≡ e.1.now.number) × (at ≤ e.0.1) × AreNumbered at es

abbrev pub number_cmp : ℤ × ℕ → ℤ × ℕ → Ordering
number_cmp p q = ordering_then (int_cmp p.0 q.0) (nat_cmp p.1 q.1)

pub AreNumbered-below : (at lower : ℕ) → lower ≤ at → (es : List NumberedWire) → AreNumbered at es → AreNumbered lower es
AreNumbered-below at lower h [] n = tt
AreNumbered-below at lower h (e ∷ es) n = (n.0, omega arith, AreNumbered-below at lower h es n.2)

pub AreNumbered-next : (at : ℕ) (es : List NumberedWire) → 0 < at → AreNumbered at es → AreNumbered (suc (at - 1)) es
AreNumbered-next at es some n = AreNumbered-below at (suc (at - 1)) (omega arith) es n

number_cmp-before : (at : ℕ) (w : Bor Wire) (e : NumberedWire) → e.0.0 ≡ e.1.now.number → at < e.0.1 → number_cmp (w.now.number, at) e.0 ≡ ordering_then (int_cmp w.now.number e.1.now.number) Less
number_cmp-before at w e is before = (λ i. ordering_then (int_cmp w.now.number (is i)) (sym (nat_cmp_is at e.0.1 Less before) i))

-- the map puts a wire where the order of numbers does, if its place is before all others
pub map-insert_entry-wire : (at : ℕ) (w : Bor Wire) (es : List NumberedWire) → AreNumbered (suc at) es → map wire_of (insert_entry number_cmp es (w.now.number, at) w) ≡ place_wire w.now (map wire_of es)
map-insert_entry-wire at w [] n = refl
map-insert_entry-wire at w (e ∷ es) n = rw (number_cmp-before at w e n.0 n.1) (by (int_cmp w.now.number e.1.now.number) (map-insert_entry-wire at w es n.2))
  where
    by : (o : Ordering) → map wire_of (insert_entry number_cmp es (w.now.number, at) w) ≡ place_wire w.now (map wire_of es)
        → map wire_of (match_ordering (ordering_then o Less) (((w.now.number, at), w) ∷ e ∷ es) ((e.0, w) ∷ es) (e ∷ insert_entry number_cmp es (w.now.number, at) w))
        ≡ match_ordering o (w.now ∷ e.1.now ∷ map wire_of es) (w.now ∷ e.1.now ∷ map wire_of es) (e.1.now ∷ place_wire w.now (map wire_of es))
    by Less ih = refl
    by Equal ih = refl
    by Greater ih = ap (λ ws. e.1.now ∷ ws) ih

pub AreNumbered-insert_entry : (at : ℕ) (w : Bor Wire) (es : List NumberedWire) → AreNumbered (suc at) es → AreNumbered at (insert_entry number_cmp es (w.now.number, at) w)
AreNumbered-insert_entry at w [] n = (refl, le_refl at, tt)
AreNumbered-insert_entry at w (e ∷ es) n =
    let lower : at ≤ suc at = omega arith in
    let rest = AreNumbered-below (suc at) at lower (e ∷ es) n in
    rw (number_cmp-before at w e n.0 n.1) (by (int_cmp w.now.number e.1.now.number) rest (AreNumbered-insert_entry at w es n.2))
  where
    by : (o : Ordering) → AreNumbered at (e ∷ es) → AreNumbered at (insert_entry number_cmp es (w.now.number, at) w)
        → AreNumbered at (match_ordering (ordering_then o Less) (((w.now.number, at), w) ∷ e ∷ es) ((e.0, w) ∷ es) (e ∷ insert_entry number_cmp es (w.now.number, at) w))
    by Less rest ih = (refl, le_refl at, rest)
    by Equal rest ih = (refl, le_refl at, rest)
    by Greater rest ih = (rest.0, rest.1, ih)

-- a module under its name
abbrev pub NamedModule : Type 0
NamedModule = Bor (List ℕ) × Bor Module

abbrev pub module_of : NamedModule → Module
module_of e = e.1.now

-- each module stands under its name
abbrev pub AreNamed : List NamedModule → Type 0
AreNamed [] = Unit {0}
AreNamed (e ∷ es) = (e.0.now ≡ e.1.now.id) × AreNamed es

abbrev pub name_cmp : Bor (List ℕ) → Bor (List ℕ) → Ordering
name_cmp p q = slice_cmp nat_cmp p.now q.now

-- the map puts a module where the order of names does
pub map-insert_entry-module : (id : Bor (List ℕ)) (m : Bor Module) → id.now ≡ m.now.id → (es : List NamedModule) → AreNamed es
    → map module_of (insert_entry name_cmp es id m) ≡ place_module m.now (map module_of es)
map-insert_entry-module id m is [] n = refl
map-insert_entry-module id m is (e ∷ es) n =
    let same : slice_cmp nat_cmp id.now e.0.now ≡ slice_cmp nat_cmp m.now.id e.1.now.id = (λ i. slice_cmp nat_cmp (is i) (n.0 i)) in
    rw same (by (slice_cmp nat_cmp m.now.id e.1.now.id) (map-insert_entry-module id m is es n.1))
  where
    by : (o : Ordering) → map module_of (insert_entry name_cmp es id m) ≡ place_module m.now (map module_of es)
        → map module_of (match_ordering o ((id, m) ∷ e ∷ es) ((e.0, m) ∷ es) (e ∷ insert_entry name_cmp es id m))
        ≡ match_ordering o (m.now ∷ e.1.now ∷ map module_of es) (m.now ∷ map module_of es) (e.1.now ∷ place_module m.now (map module_of es))
    by Less ih = refl
    by Equal ih = refl
    by Greater ih = ap (λ ms. e.1.now ∷ ms) ih

pub same_name : (x y : List ℕ) → slice_cmp nat_cmp x y ≡ Equal → x ≡ y
same_name x y h = (bytes_eq-Decides x y).0 (sym (is_eq-slice_cmp x y) ∙ ap is_eq h)

pub AreNamed-insert_entry : (id : Bor (List ℕ)) (m : Bor Module) → id.now ≡ m.now.id → (es : List NamedModule) → AreNamed es → AreNamed (insert_entry name_cmp es id m)
AreNamed-insert_entry id m is [] n = (is, tt)
AreNamed-insert_entry id m is (e ∷ es) n = by (slice_cmp nat_cmp id.now e.0.now) refl (AreNamed-insert_entry id m is es n.1)
  where
    by : (o : Ordering) → slice_cmp nat_cmp id.now e.0.now ≡ o → AreNamed (insert_entry name_cmp es id m)
        → AreNamed (match_ordering (slice_cmp nat_cmp id.now e.0.now) ((id, m) ∷ e ∷ es) ((e.0, m) ∷ es) (e ∷ insert_entry name_cmp es id m))
    by Less o ih = rw o (is, n)
    by Equal o ih = rw o (sym (same_name id.now e.0.now o) ∙ is, n.1)
    by Greater o ih = rw o (n.0, ih)

-- a step of the loop over the wires
module _ (ws : List Wire) (at : ℕ) (w : Wire) (es : List NumberedWire) (some : 0 < at) (within : at ≤ length ws) (is : w ≡ get_or ws (at - 1) w)
    (found : map wire_of es ≡ in_number_order (filter (λ w. is_port w.role) (drop at ws))) where
  pub with_port : (b : Bor Wire) → b.now ≡ w → is_port w.role ≡ true → AreNumbered at es
      → map wire_of (insert_entry number_cmp es (w.number, at - 1) b) ≡ in_number_order (filter (λ w. is_port w.role) (drop (at - 1) ws))
  with_port b same port n =
      rw (drop-before ws at w some within is, port, ← found, ← same) (map-insert_entry-wire (at - 1) b es (AreNumbered-next at es some n))

  pub with_inner : is_port w.role ≡ false → map wire_of es ≡ in_number_order (filter (λ w. is_port w.role) (drop (at - 1) ws))
  with_inner inner = rw (drop-before ws at w some within is, inner) found

-- the loop over the wires has come to the first
pub all_wires : (ws : List Wire) (at : ℕ) (es : List NumberedWire) → at ≤ 0 → map wire_of es ≡ in_number_order (filter (λ w. is_port w.role) (drop at ws))
    → map wire_of es ≡ in_number_order (filter (λ w. is_port w.role) ws)
all_wires ws at es none found =
    let first : at ≡ 0 = omega arith in
    subst (λ n. map wire_of es ≡ in_number_order (filter (λ w. is_port w.role) (drop n ws))) first found
