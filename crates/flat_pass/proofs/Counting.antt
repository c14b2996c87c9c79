-- How often names stand in lists and in modules.
use Rattle.std.proofs.Common.{◌≡◌, ℕ, ◌+◌, ◌<◌, Bool, true, false, cond, not, ◌||◌, List, [], ◌∷◌, ◌++◌, length, drop, get_or, map, suc, Bor, refl, ◌∙◌, ap, arith, add-one}
use Rattle.std.proofs.Math.Seq.{drop-cons}
use Rattle.std.specs.Prelude.{◌==◌}
use Rattle.std.specs.Str.{bytes_eq}
use Rattle.std.proofs.lemmas.Bool.Decides.{nat_tests}
use Rattle.std.proofs.lemmas.Slice.Eq.{bytes_eq-Decides}
use Rattle.rtl_ir.specs.declared.cell.Cell.{Cell}
use Rattle.rtl_ir.specs.declared.module.Module.{Module}
use Rattle.rtl_ir.specs.declared.process.Process.{Process}
use Rattle.rtl_ir.specs.declared.store.Store.{Store}
use Rattle.rtl_ir.specs.declared.wire.Wire.{Wire}
use Rattle.rtl_ir.specs.Build.{module_names}
use Rattle.rtl_sig.specs.Names.{has_name}
use Rattle.flat_pass.specs.ByName.{names_now}
use Rattle.flat_pass.specs.Counts.{Counted, count_of, times}
use Rattle.flat_pass.specs.declared.counts.Counts.{Counts}
use Rattle.net_model.proofs.Members.{map-append}

pub times-append : (xs ys : List (List ℕ)) (name : List ℕ) → times (xs ++ ys) name ≡ times xs name + times ys name
times-append [] ys name = omega arith
times-append (x ∷ xs) ys name = let rest = times-append xs ys name in omega (arith, rest)

-- a name that stands nowhere is counted 0 times, and only such a name
pub none_times : (names : List (List ℕ)) (name : List ℕ) → (times names name == 0) ≡ not (has_name names name)
none_times [] name = refl
none_times (n ∷ names) name = by (bytes_eq name n) (none_times names name)
  where
    by : (b : Bool) → (times names name == 0) ≡ not (has_name names name) → ((cond b 1 0 + times names name) == 0) ≡ not (b || has_name names name)
    by true h = grind (arith, nat_tests)
    by false h = let e : 0 + times names name ≡ times names name = omega arith in ap (λ k. k == 0) e ∙ h

-- once more
abbrev pub once : List ℕ → List ℕ → ℕ
once name n = cond (bytes_eq name n) 1 0

module _ (m : Module) (r : List ℕ) where
  abbrev wires_of : List (List ℕ)
  wires_of = map (λ (w : Wire). w.name) m.wires

  abbrev stores_of : List (List ℕ)
  stores_of = map (λ (s : Store). s.name) m.memories

  abbrev cells_of : List (List ℕ)
  cells_of = map (λ (c : Cell). c.name) m.cells

  abbrev processes_of : List (List ℕ)
  processes_of = map (λ (p : Process). p.name) m.processes

  -- the names of a module by their kinds
  pub times_parts : times (module_names m) r ≡ times wires_of r + (times stores_of r + (times cells_of r + times processes_of r))
  times_parts =
      let c : times (((wires_of ++ stores_of) ++ cells_of) ++ processes_of) r ≡ times ((wires_of ++ stores_of) ++ cells_of) r + times processes_of r = times-append ((wires_of ++ stores_of) ++ cells_of) processes_of r in
      let b : times ((wires_of ++ stores_of) ++ cells_of) r ≡ times (wires_of ++ stores_of) r + times cells_of r = times-append (wires_of ++ stores_of) cells_of r in
      let a : times (wires_of ++ stores_of) r ≡ times wires_of r + times stores_of r = times-append wires_of stores_of r in
      let sum : times ((wires_of ++ stores_of) ++ cells_of) r + times processes_of r ≡ times wires_of r + (times stores_of r + (times cells_of r + times processes_of r)) = omega (arith, a, b) in
      c ∙ sum

-- the names of a list with one more item
times_more : {A : Type 0} (f : A → List ℕ) (xs : List A) (x : A) (r : List ℕ) → times (map f (xs ++ x ∷ [])) r ≡ once r (f x) + times (map f xs) r
times_more f xs x r =
    let a = ap (λ ns. times ns r) (map-append f xs (x ∷ [])) in
    let b = times-append (map f xs) (f x ∷ []) r in
    omega (arith, a, b)

pub times_wire : (m : Module) (w : Wire) (r : List ℕ) → times (module_names (record m { wires = m.wires ++ w ∷ [] })) r ≡ once r w.name + times (module_names m) r
times_wire m w r =
    let a = times_parts (record m { wires = m.wires ++ w ∷ [] }) r in
    let b = times_parts m r in
    let c = times_more (λ (v : Wire). v.name) m.wires w r in
    omega (arith, a, b, c)

pub times_store : (m : Module) (s : Store) (r : List ℕ) → times (module_names (record m { memories = m.memories ++ s ∷ [] })) r ≡ once r s.name + times (module_names m) r
times_store m s r =
    let a = times_parts (record m { memories = m.memories ++ s ∷ [] }) r in
    let b = times_parts m r in
    let c = times_more (λ (t : Store). t.name) m.memories s r in
    omega (arith, a, b, c)

pub times_cell : (m : Module) (k : Cell) (r : List ℕ) → times (module_names (record m { cells = m.cells ++ k ∷ [] })) r ≡ once r k.name + times (module_names m) r
times_cell m k r =
    let a = times_parts (record m { cells = m.cells ++ k ∷ [] }) r in
    let b = times_parts m r in
    let c = times_more (λ (d : Cell). d.name) m.cells k r in
    omega (arith, a, b, c)

-- the names of cells, one of which goes
pub times_without : (m : Module) (pre : List Cell) (k : Cell) (post : List Cell) (r : List ℕ) → times (module_names (record m { cells = pre ++ k ∷ post })) r ≡ once r k.name + times (module_names (record m { cells = pre ++ post })) r
times_without m pre k post r =
    let f = λ (d : Cell). d.name in
    let a = times_parts (record m { cells = pre ++ k ∷ post }) r in
    let b = times_parts (record m { cells = pre ++ post }) r in
    let c = ap (λ ns. times ns r) (map-append f pre (k ∷ post)) ∙ times-append (map f pre) (map f (k ∷ post)) r in
    let d = ap (λ ns. times ns r) (map-append f pre post) ∙ times-append (map f pre) (map f post) r in
    omega (arith, a, b, c, d)

-- one more name is counted
pub add_step : (names : List (Bor (List ℕ))) (at : ℕ) (d : Bor (List ℕ)) (old new : Counts) → at < length names → Counted old new (get_or names at d).now (count_of old (get_or names at d).now + 1) → (n : List ℕ) (all : ℕ) → count_of old n + times (names_now (drop at names)) n ≡ all → count_of new n + times (names_now (drop (at + 1) names)) n ≡ all
add_step names at d old new inside put n all so =
    let x : Bor (List ℕ) = get_or names at d in
    let one : drop at names ≡ x ∷ drop (suc at) names = drop-cons names at d inside in
    let before : times (names_now (drop at names)) n ≡ once n x.now + times (names_now (drop (suc at) names)) n = ap (λ z. times (names_now z) n) one in
    let more : times (names_now (drop (at + 1) names)) n ≡ times (names_now (drop (suc at) names)) n = ap (λ k. times (names_now (drop k names)) n) (add-one at) in
    by (bytes_eq n x.now) refl (put n) before more
  where
    by : (b : Bool) → bytes_eq n (get_or names at d).now ≡ b → count_of new n ≡ cond b (count_of old (get_or names at d).now + 1) (count_of old n) → times (names_now (drop at names)) n ≡ cond b 1 0 + times (names_now (drop (suc at) names)) n → times (names_now (drop (at + 1) names)) n ≡ times (names_now (drop (suc at) names)) n → count_of new n + times (names_now (drop (at + 1) names)) n ≡ all
    by true e put before more =
        let same : count_of old n ≡ count_of old (get_or names at d).now = ap (count_of old) ((bytes_eq-Decides n (get_or names at d).now).0 e) in
        omega (arith, put, before, more, same, so)
    by false e put before more = omega (arith, put, before, more, so)

-- all names of a module are counted
pub all_counted : (m : Module) (r : List ℕ) (k0 k1 k2 k3 k4 : ℕ) (a b c d : List (List ℕ)) → k0 ≡ 0 → k1 ≡ k0 + times a r → a ≡ wires_of m r → k2 ≡ k1 + times b r → b ≡ stores_of m r → k3 ≡ k2 + times c r → c ≡ cells_of m r → k4 ≡ k3 + times d r → d ≡ processes_of m r → k4 ≡ times (module_names m) r
all_counted m r k0 k1 k2 k3 k4 a b c d zero e1 f1 e2 f2 e3 f3 e4 f4 =
    let parts = times_parts m r in
    let g1 = ap (λ z. times z r) f1 in
    let g2 = ap (λ z. times z r) f2 in
    let g3 = ap (λ z. times z r) f3 in
    let g4 = ap (λ z. times z r) f4 in
    omega (arith, parts, zero, e1, g1, e2, g2, e3, g3, e4, g4)
