-- Names are distinct exactly where none is counted twice; so they stay so where each is counted no more often than before.
use Rattle.std.proofs.Common.{◌≡◌, ℕ, ◌+◌, ◌≤◌, Bool, true, false, cond, List, [], ◌∷◌, ◌++◌, refl, sym, ap, subst, arith}
use Rattle.std.specs.Prelude.{map}
use Rattle.std.specs.List.{AllByRecursion, IsDistinct}
use Rattle.std.specs.Str.{bytes_eq}
use Rattle.std.proofs.lemmas.Slice.Eq.{bytes_eq-Decides}
use Rattle.rtl_sig.specs.Names.{AreDistinct}
use Rattle.rtl_ir.specs.declared.module.Module.{Module}
use Rattle.rtl_ir.specs.declared.process.Process.{Process}
use Rattle.rtl_ir.specs.declared.store.Store.{Store}
use Rattle.rtl_ir.specs.declared.wire.Wire.{Wire}
use Rattle.rtl_readable.specs.Readable.{item_names}
use Rattle.rtl_readable.specs.Changing.{NoMore, cell_names, times}

pub times_more : (name : List ℕ) (xs ys : List (List ℕ)) → times name (xs ++ ys) ≡ times name xs + times name ys
times_more name [] ys = omega arith
times_more name (x ∷ xs) ys = omega (arith, times_more name xs ys)

-- what a test counts for
abbrev pub counted : Bool → ℕ
counted t = cond t 1 0

-- a name that is not counted is none of these
none_apart : (name : List ℕ) (names : List (List ℕ)) → times name names ≤ 0 → AllByRecursion (λ y. bytes_eq name y ≡ false) names
none_apart name [] h = tt
none_apart name (y ∷ ys) h = by (bytes_eq name y) refl h (none_apart name ys)
  where
    by : (t : Bool) → bytes_eq name y ≡ t → cond t 1 0 + times name ys ≤ 0 → (times name ys ≤ 0 → AllByRecursion (λ z. bytes_eq name z ≡ false) ys) → AllByRecursion (λ z. bytes_eq name z ≡ false) (y ∷ ys)
    by true e k later = absurd (omega (arith, k))
    by false e k later = (e, later (omega (arith, k)))

apart_none : (name : List ℕ) (names : List (List ℕ)) → AllByRecursion (λ y. bytes_eq name y ≡ false) names → times name names ≤ 0
apart_none name [] h = omega arith
apart_none name (y ∷ ys) h =
    let other : counted (bytes_eq name y) ≡ 0 = ap counted h.0 in
    omega (arith, other, apart_none name ys h.1)

-- a name counts for itself
pub itself : (name : List ℕ) → counted (bytes_eq name name) ≡ 1
itself name = ap counted ((bytes_eq-Decides name name).1 refl)

pub distinct_from_times : (names : List (List ℕ)) → ((name : List ℕ) → times name names ≤ 1) → AreDistinct names
unfolding IsDistinct
distinct_from_times [] once = tt
distinct_from_times (x ∷ xs) once = (
  none_apart x xs (omega (arith, once x, itself x)),
  distinct_from_times xs (λ name. omega (arith, once name)),
)

pub times_from_distinct : (names : List (List ℕ)) → AreDistinct names → (name : List ℕ) → times name names ≤ 1
unfolding IsDistinct
times_from_distinct [] distinct name = omega arith
times_from_distinct (x ∷ xs) distinct name = by (bytes_eq name x) refl (times_from_distinct xs distinct.1 name)
  where
    by : (t : Bool) → bytes_eq name x ≡ t → times name xs ≤ 1 → counted t + times name xs ≤ 1
    by true e later =
        let same : name ≡ x = (bytes_eq-Decides name x).0 e in
        let none : times name xs ≤ 0 = subst (λ y. times y xs ≤ 0) (sym same) (apart_none x xs distinct.0) in
        omega (arith, none)
    by false e later = omega (arith, later)

pub still_distinct : (names those : List (List ℕ)) → NoMore names those → AreDistinct those → AreDistinct names
still_distinct names those fewer distinct =
    distinct_from_times names (λ name. omega (arith, fewer name, times_from_distinct those distinct name))

-- the names of items
abbrev pub wire_names : List Wire → List (List ℕ)
wire_names wires = map (λ (w : Wire). w.name) wires

abbrev pub store_names : List Store → List (List ℕ)
store_names stores = map (λ (s : Store). s.name) stores

abbrev pub process_names : List Process → List (List ℕ)
process_names processes = map (λ (p : Process). p.name) processes

-- a name of a module is counted among its wires, memories, cells and processes
pub item_times : (name : List ℕ) (m : Module)
    → times name (item_names m) ≡ times name (wire_names m.wires) + (times name (store_names m.memories) + (times name (cell_names m.cells) + times name (process_names m.processes)))
item_times name m =
    let processes = times_more name (cell_names m.cells) (process_names m.processes) in
    let stores = times_more name (store_names m.memories) (cell_names m.cells ++ process_names m.processes) in
    let wires = times_more name (wire_names m.wires) (store_names m.memories ++ (cell_names m.cells ++ process_names m.processes)) in
    omega (arith, wires, stores, processes)
