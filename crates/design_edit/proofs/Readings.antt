-- Edited designs are such as a text can give.
use Rattle.std.proofs.Common.{◌≡◌, ℕ, suc, ◌≤◌, List, [], ◌∷◌, Bool, true, false, not, cond, length, refl, subst, arith}
use Rattle.std.specs.Prelude.{map}
use Rattle.std.specs.List.{All, AllByRecursion, IsDistinct}
use Rattle.std.specs.Str.{bytes_eq}
use Rattle.std.proofs.lemmas.List.Elements.{All-cons, All-head, All-tail, All-nil}
use Rattle.std.proofs.lemmas.Slice.Eq.{bytes_eq-Decides}
use Rattle.rtl_ir.specs.declared.limits.TheConstants.{MAX_MODULES}
use Rattle.rtl_ir.specs.declared.module.Module.{Module}
use Rattle.rtl_readable.specs.Readable.{IsReadable, IsReadableModule}
use Rattle.design_edit.specs.Modules.{with_module, with_modules, without_module}

abbrev ids : List Module → List (List ℕ)
ids ms = map (λ (m : Module). m.id) ms

-- a name is none of these
abbrev Differs : List ℕ → List (List ℕ) → Type 0
Differs name names = AllByRecursion (λ other. bytes_eq name other ≡ false) names

true_bytes : (a b : List ℕ) → bytes_eq a b ≡ true → a ≡ b
true_bytes a b e = (bytes_eq-Decides a b).0 e

-- what holds of each module holds of each after a module is put among them
all_with : (P : Module → Type 0) (new : Module) (ms : List Module) → P new → All P ms → All P (with_module ms new)
all_with P new [] p h = All-cons P new [] p h
all_with P new (m ∷ ms) p h = by (bytes_eq m.id new.id) (all_with P new ms p (All-tail P m ms h))
  where
    by : (b : Bool) → All P (with_module ms new) → All P (cond b (new ∷ ms) (m ∷ with_module ms new))
    by true rest = All-cons P new ms p (All-tail P m ms h)
    by false rest = All-cons P m (with_module ms new) (All-head P m ms h) rest

all_without : (P : Module → Type 0) (name : List ℕ) (ms : List Module) → All P ms → All P (without_module ms name)
all_without P name [] h = All-nil P
all_without P name (m ∷ ms) h = by (bytes_eq m.id name) (all_without P name ms (All-tail P m ms h))
  where
    by : (b : Bool) → All P (without_module ms name) → All P (cond (not b) (m ∷ without_module ms name) (without_module ms name))
    by true rest = rest
    by false rest = All-cons P m (without_module ms name) (All-head P m ms h) rest

-- a name that differs from those of modules and of one more differs from those with that one among them
differs_with : (name : List ℕ) (new : Module) (ms : List Module) → bytes_eq name new.id ≡ false → Differs name (ids ms) → Differs name (ids (with_module ms new))
differs_with name new [] ne h = (ne, tt)
differs_with name new (m ∷ ms) ne h = by (bytes_eq m.id new.id) (differs_with name new ms ne h.1)
  where
    by : (b : Bool) → Differs name (ids (with_module ms new)) → Differs name (ids (cond b (new ∷ ms) (m ∷ with_module ms new)))
    by true rest = (ne, h.1)
    by false rest = (h.0, rest)

distinct_with : (new : Module) (ms : List Module) → IsDistinct bytes_eq (ids ms) → IsDistinct bytes_eq (ids (with_module ms new))
unfolding IsDistinct
distinct_with new [] h = (tt, tt)
distinct_with new (m ∷ ms) h = by (bytes_eq m.id new.id) refl (distinct_with new ms h.1)
  where
    by : (b : Bool) → bytes_eq m.id new.id ≡ b → IsDistinct bytes_eq (ids (with_module ms new)) → IsDistinct bytes_eq (ids (cond b (new ∷ ms) (m ∷ with_module ms new)))
    by true is rest = (subst (λ (name : List ℕ). Differs name (ids ms)) (true_bytes m.id new.id is) h.0, h.1)
    by false is rest = (differs_with m.id new ms is h.0, rest)

differs_without : (name gone : List ℕ) (ms : List Module) → Differs name (ids ms) → Differs name (ids (without_module ms gone))
differs_without name gone [] h = tt
differs_without name gone (m ∷ ms) h = by (bytes_eq m.id gone) (differs_without name gone ms h.1)
  where
    by : (b : Bool) → Differs name (ids (without_module ms gone)) → Differs name (ids (cond (not b) (m ∷ without_module ms gone) (without_module ms gone)))
    by true rest = rest
    by false rest = (h.0, rest)

distinct_without : (gone : List ℕ) (ms : List Module) → IsDistinct bytes_eq (ids ms) → IsDistinct bytes_eq (ids (without_module ms gone))
unfolding IsDistinct
distinct_without gone [] h = tt
distinct_without gone (m ∷ ms) h = by (bytes_eq m.id gone) (distinct_without gone ms h.1)
  where
    by : (b : Bool) → IsDistinct bytes_eq (ids (without_module ms gone)) → IsDistinct bytes_eq (ids (cond (not b) (m ∷ without_module ms gone) (without_module ms gone)))
    by true rest = rest
    by false rest = (differs_without m.id gone ms h.0, rest)

few_without : (gone : List ℕ) (ms : List Module) → length (without_module ms gone) ≤ length ms
few_without gone [] = omega arith
few_without gone (m ∷ ms) = by (bytes_eq m.id gone) (few_without gone ms)
  where
    by : (b : Bool) → length (without_module ms gone) ≤ length ms → length (cond (not b) (m ∷ without_module ms gone) (without_module ms gone)) ≤ suc (length ms)
    by true rest = omega (arith, rest)
    by false rest = omega (arith, rest)

-- a design without one of its modules is readable
pub readable_without : (modules : List Module) (gone : List ℕ) → IsReadable (record { modules = modules }) → IsReadable (record { modules = without_module modules gone })
readable_without modules gone h = record {
  modules = all_without IsReadableModule gone modules h.modules;
  distinct = distinct_without gone modules h.distinct;
  count = let few = few_without gone modules in omega (arith, h.count, few);
}

all_edits : (ms edits : List Module) → All IsReadableModule edits → All IsReadableModule ms → All IsReadableModule (with_modules ms edits)
all_edits ms [] e h = h
all_edits ms (m ∷ edits) e h = all_edits (with_module ms m) edits (All-tail IsReadableModule m edits e) (all_with IsReadableModule m ms (All-head IsReadableModule m edits e) h)

distinct_edits : (ms edits : List Module) → IsDistinct bytes_eq (ids ms) → IsDistinct bytes_eq (ids (with_modules ms edits))
distinct_edits ms [] h = h
distinct_edits ms (m ∷ edits) h = distinct_edits (with_module ms m) edits (distinct_with m ms h)

-- a design with modules of another in the places of those of their names is readable, where it has not too many
pub readable_edits : (modules edits : List Module) → IsReadable (record { modules = modules }) → IsReadable (record { modules = edits }) → length (with_modules modules edits) ≤ MAX_MODULES
    → IsReadable (record { modules = with_modules modules edits })
readable_edits modules edits h e few = record {
  modules = all_edits modules edits e.modules h.modules;
  distinct = distinct_edits modules edits h.distinct;
  count = few;
}
