-- What stands at the first place of a name.
use Rattle.std.proofs.Common.{◌≡◌, ℕ, zero, suc, ◌+◌, ◌<◌, not, Bool, true, false, cond, List, [], ◌∷◌, length, get_or, map, Option, Some, None, refl, sym, ◌∙◌, ap, subst, arith}
use Rattle.std.specs.Prelude.{slice_get, find, unwrap_or}
use Rattle.std.specs.Option.{option_map_or}
use Rattle.std.specs.Str.{bytes_eq}
use Rattle.rtl_ir.specs.declared.cell.Pin.{Pin}
use Rattle.rtl_ir.specs.declared.wire.Wire.{Wire}
use Rattle.rtl_ir.specs.Parameters.{signal_at}
use Rattle.flat_pass.specs.ByName.{place_from}
use Rattle.flat_pass.specs.Copies.{renamed}
use Rattle.flat_pass.specs.Flat.{place_of_wire}

-- a name stands first at a place of names
abbrev pub IsFirst : ℕ → List (List ℕ) → List ℕ → Type 0
IsFirst at [] name = ⊥
IsFirst zero (n ∷ names) name = bytes_eq n name ≡ true
IsFirst (suc at) (n ∷ names) name = (bytes_eq n name ≡ false) × IsFirst at names name

-- a name is none of these
abbrev pub IsNone : List (List ℕ) → List ℕ → Type 0
IsNone [] name = Unit {0}
IsNone (n ∷ names) name = (bytes_eq n name ≡ false) × IsNone names name

-- what a search that begins at a number found
abbrev pub Found : ℕ → List (List ℕ) → List ℕ → Option ℕ → Type 0
Found from names name None = IsNone names name
Found from names name (Some at) = (k : ℕ) × (at ≡ from + k) × IsFirst k names name

pub found : (from : ℕ) (names : List (List ℕ)) (name : List ℕ) → Found from names name (place_from from names name)
found from [] name = tt
found from (n ∷ names) name = by (bytes_eq n name) refl (place_from (suc from) names name) (found (suc from) names name)
  where
    by : (b : Bool) → bytes_eq n name ≡ b → (o : Option ℕ) → Found (suc from) names name o → Found from (n ∷ names) name (cond b (Some from) o)
    by true e o h = (zero, omega arith, e)
    by false e None h = (e, h)
    by false e (Some at) h = let is = h.1 in (suc h.0, omega (arith, is), (e, h.2))

-- what is found of a name
pub found_at : (names : List (List ℕ)) (name : List ℕ) (at : ℕ) → Some at ≡ place_from 0 names name → IsFirst at names name
found_at names name at e =
    by (place_from 0 names name) (found 0 names name) e
  where
    by : (o : Option ℕ) → Found 0 names name o → Some at ≡ o → IsFirst at names name
    by None h f = absurd (cc)
    by (Some k) h f =
        let same : at ≡ k = cc in
        let is = h.1 in
        let here : h.0 ≡ at = omega (arith, is, same) in
        subst (λ z. IsFirst z names name) here h.2

-- that nothing is found of a name
pub found_none : (names : List (List ℕ)) (name : List ℕ) → None ≡ place_from 0 names name → IsNone names name
found_none names name e = by (place_from 0 names name) (found 0 names name) e
  where
    by : (o : Option ℕ) → Found 0 names name o → None ≡ o → IsNone names name
    by None h f = h
    by (Some k) h f = absurd (cc)

-- the signal at the pin that stands there
pub signal_first : (pins : List Pin) (name : List ℕ) (at : ℕ) (p : Pin) → IsFirst at (map (λ (q : Pin). q.name) pins) name → slice_get pins at ≡ Some p → signal_at pins name ≡ p.sig
signal_first [] name at p h e = absurd h
signal_first (q ∷ pins) name zero p h e =
    let same : q ≡ p = cc in
    ap (λ b. option_map_or (λ (r : Pin). r.sig) (cond b (Some q) (find (λ (r : Pin). bytes_eq r.name name) pins)) []) h ∙ ap (λ (r : Pin). r.sig) same
signal_first (q ∷ pins) name (suc at) p h e =
    ap (λ b. option_map_or (λ (r : Pin). r.sig) (cond b (Some q) (find (λ (r : Pin). bytes_eq r.name name) pins)) []) h.0 ∙ signal_first pins name at p h.1 e

pub signal_none : (pins : List Pin) (name : List ℕ) → IsNone (map (λ (q : Pin). q.name) pins) name → signal_at pins name ≡ []
signal_none [] name h = refl
signal_none (q ∷ pins) name h =
    ap (λ b. option_map_or (λ (r : Pin). r.sig) (cond b (Some q) (find (λ (r : Pin). bytes_eq r.name name) pins)) []) h.0 ∙ signal_none pins name h.1

-- a pin stands at each such place
pub first_within : (names : List (List ℕ)) (name : List ℕ) (at : ℕ) → IsFirst at names name → at < length names
first_within [] name at h = absurd h
first_within (n ∷ names) name zero h = omega arith
first_within (n ∷ names) name (suc at) h = let k = first_within names name at h.1 in omega (arith, k)

-- the name of the copy that stands there
pub renamed_first : (memories copies : List (List ℕ)) (name : List ℕ) (at : ℕ) (copy : List ℕ) → IsFirst at memories name → slice_get copies at ≡ Some copy → copy ≡ renamed memories copies name
renamed_first [] copies name at copy h e = absurd h
renamed_first (m ∷ memories) [] name at copy h e = absurd (cc)
renamed_first (m ∷ memories) (k ∷ copies) name zero copy h e =
    let same : copy ≡ k = cc in
    same ∙ sym (ap (λ b. cond b k (renamed memories copies name)) h)
renamed_first (m ∷ memories) (k ∷ copies) name (suc at) copy h e =
    renamed_first memories copies name at copy h.1 e ∙ sym (ap (λ b. cond b k (renamed memories copies name)) h.0)

pub renamed_none : (memories copies : List (List ℕ)) (name : List ℕ) → IsNone memories name → name ≡ renamed memories copies name
renamed_none [] copies name h = refl
renamed_none (m ∷ memories) [] name h = refl
renamed_none (m ∷ memories) (k ∷ copies) name h =
    renamed_none memories copies name h.1 ∙ sym (ap (λ b. cond b k (renamed memories copies name)) h.0)

-- the place of the wire that stands there
pub wire_first : (wires : List Wire) (name : List ℕ) (at : ℕ) → IsFirst at (map (λ (w : Wire). w.name) wires) name → at ≡ place_of_wire wires name
wire_first [] name at h = absurd h
wire_first (w ∷ wires) name zero h = sym (ap (λ b. cond (not b) (1 + place_of_wire wires name) 0) h)
wire_first (w ∷ wires) name (suc at) h =
    let rest = wire_first wires name at h.1 in
    let here : suc at ≡ 1 + place_of_wire wires name = omega (arith, rest) in
    here ∙ sym (ap (λ b. cond (not b) (1 + place_of_wire wires name) 0) h.0)

pub wire_none : (wires : List Wire) (name : List ℕ) → IsNone (map (λ (w : Wire). w.name) wires) name → length wires ≡ place_of_wire wires name
wire_none [] name h = refl
wire_none (w ∷ wires) name h =
    let rest = wire_none wires name h.1 in
    let here : length (w ∷ wires) ≡ 1 + place_of_wire wires name = omega (arith, rest) in
    here ∙ sym (ap (λ b. cond (not b) (1 + place_of_wire wires name) 0) h.0)

-- the place that is found, behind the end where there is none
pub wire_place_is : (wires : List Wire) (name : List ℕ) → unwrap_or (place_from 0 (map (λ (w : Wire). w.name) wires) name) (length wires) ≡ place_of_wire wires name
wire_place_is wires name = by (place_from 0 (map (λ (w : Wire). w.name) wires) name) refl
  where
    by : (o : Option ℕ) → place_from 0 (map (λ (w : Wire). w.name) wires) name ≡ o → unwrap_or o (length wires) ≡ place_of_wire wires name
    by None e = wire_none wires name (found_none (map (λ (w : Wire). w.name) wires) name (sym e))
    by (Some at) e = wire_first wires name at (found_at (map (λ (w : Wire). w.name) wires) name at (sym e))

pub get_some : {A : Type 0} (xs : List A) (at : ℕ) (x : A) → at < length xs → x ≡ get_or xs at x → slice_get xs at ≡ Some x
get_some [] at x h e = absurd (omega arith)
get_some (y ∷ xs) zero x h e = ap Some (sym e)
get_some (y ∷ xs) (suc at) x h e = let inside : at < length xs = omega arith in get_some xs at x inside e

-- the same of what the code reads there
pub renamed_at : (memories copies : List (List ℕ)) (name text : List ℕ) (at : ℕ) (copy : List ℕ) → text ≡ name → Some at ≡ place_from 0 memories text → at < length copies → copy ≡ get_or copies at copy → copy ≡ renamed memories copies name
renamed_at memories copies name text at copy same found inside is =
    renamed_first memories copies name at copy (found_at memories name at (subst (λ z. Some at ≡ place_from 0 memories z) same found)) (get_some copies at copy inside is)

pub renamed_not : (memories copies : List (List ℕ)) (name text : List ℕ) → text ≡ name → None ≡ place_from 0 memories text → name ≡ renamed memories copies name
renamed_not memories copies name text same found =
    renamed_none memories copies name (found_none memories name (subst (λ z. None ≡ place_from 0 memories z) same found))

pub within_copies : (memories : List (List ℕ)) (text : List ℕ) (at n : ℕ) → Some at ≡ place_from 0 memories text → n ≡ length memories → at < n
within_copies memories text at n found same = let k = first_within memories text at (found_at memories text at found) in omega (arith, k, same)
