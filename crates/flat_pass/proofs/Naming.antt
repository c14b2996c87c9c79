-- The names of a module to which a copy is added, or from which an instance is taken.
use Rattle.std.proofs.Common.{◌≡◌, ℕ, ◌+◌, ◌-◌, ◌<◌, Bool, true, false, cond, ◌&&◌, List, ◌∷◌, ◌++◌, length, refl, sym, ◌∙◌, ap, arith}
use Rattle.std.specs.Prelude.{nat_le, ◌==◌}
use Rattle.std.specs.Str.{bytes_eq}
use Rattle.std.proofs.lemmas.Slice.Eq.{bytes_eq-Decides}
use Rattle.rtl_ir.specs.declared.cell.Cell.{Cell}
use Rattle.rtl_ir.specs.declared.module.Module.{Module}
use Rattle.rtl_ir.specs.Build.{Building, made_name, module_names}
use Rattle.flat_pass.specs.Counts.{AreNames, Counted, count_of, times}
use Rattle.flat_pass.specs.Flat.{copy_name, is_free, next_after}
use Rattle.flat_pass.specs.declared.namer.Namer.{Namer}
use Rattle.flat_pass.proofs.Counting.{none_times, once, times_without}

-- the names of a module that has one item more, of the name that was given last
pub names_more : (old new : Namer) (b b' : Building) (d n : List ℕ) → AreNames old b → n ≡ copy_name b d → Counted old.counts new.counts n (count_of old.counts n + 1) → new.next ≡ next_after b d → new.next < 1000000001 → b'.next ≡ next_after b d → ((r : List ℕ) → times (module_names b'.body) r ≡ once r n + times (module_names b.body) r) → AreNames new b'
names_more old new b b' d n h named counted next small next' more = record {
  counts = λ r. counted r ∙ by r (bytes_eq r n) refl;
  next = next ∙ sym next';
  small = omega (arith, small, next, next');
}
  where
    by : (r : List ℕ) (t : Bool) → bytes_eq r n ≡ t → cond t (count_of old.counts n + 1) (count_of old.counts r) ≡ times (module_names b'.body) r
    by r true e =
        let same : r ≡ n = (bytes_eq-Decides r n).0 e in
        let was : count_of old.counts n ≡ times (module_names b.body) r = h.counts n ∙ ap (times (module_names b.body)) (sym same) in
        let one : once r n ≡ 1 = ap (λ z. cond z 1 0) e in
        let all = more r in
        omega (arith, was, one, all)
    by r false e =
        let was = h.counts r in
        let none : once r n ≡ 0 = ap (λ z. cond z 1 0) e in
        let all = more r in
        omega (arith, was, none, all)

-- the names of a module from which a cell is taken
pub names_less : (old new : Namer) (m : Module) (pre : List Cell) (c : Cell) (post : List Cell) → AreNames old (record { body = record m { cells = pre ++ c ∷ post }; next = old.next }) → Counted old.counts new.counts c.name (count_of old.counts c.name - 1) → new.next ≡ old.next → AreNames new (record { body = record m { cells = pre ++ post }; next = new.next })
names_less old new m pre c post h counted next = record {
  counts = λ r. counted r ∙ by r (bytes_eq r c.name) refl;
  next = refl;
  small = let small = h.small in omega (arith, small, next);
}
  where
    by : (r : List ℕ) (t : Bool) → bytes_eq r c.name ≡ t → cond t (count_of old.counts c.name - 1) (count_of old.counts r) ≡ times (module_names (record m { cells = pre ++ post })) r
    by r true e =
        let same : r ≡ c.name = (bytes_eq-Decides r c.name).0 e in
        let was : count_of old.counts c.name ≡ times (module_names (record m { cells = pre ++ c ∷ post })) r = h.counts c.name ∙ ap (times (module_names (record m { cells = pre ++ c ∷ post }))) (sym same) in
        let one : once r c.name ≡ 1 = ap (λ z. cond z 1 0) e in
        let all = times_without m pre c post r in
        omega (arith, was, one, all)
    by r false e =
        let was = h.counts r in
        let none : once r c.name ≡ 0 = ap (λ z. cond z 1 0) e in
        let all = times_without m pre c post r in
        omega (arith, was, none, all)

-- whether a name is free, by counts
pub free_by_counts : (namer : Namer) (b : Building) (name : List ℕ) → AreNames namer b → is_free b.body name ≡ (nat_le (length name) 1024 && (count_of namer.counts name == 0))
free_by_counts namer b name h =
    ap (λ t. nat_le (length name) 1024 && t) (sym (none_times (module_names b.body) name) ∙ ap (λ n. n == 0) (sym (h.counts name)))

-- a name that is free
pub name_free : (b : Building) (name : List ℕ) → is_free b.body name ≡ true → (name ≡ copy_name b name) × (b.next ≡ next_after b name)
name_free b name e = (sym (ap (λ t. cond t name (made_name b.next)) e), sym (ap (λ t. cond t b.next (b.next + 1)) e))

-- a name that is not
pub name_taken : (b : Building) (name : List ℕ) → is_free b.body name ≡ false → (made_name b.next ≡ copy_name b name) × (b.next + 1 ≡ next_after b name)
name_taken b name e = (sym (ap (λ t. cond t name (made_name b.next)) e), sym (ap (λ t. cond t b.next (b.next + 1)) e))

-- whether a name is free, by the test of the code
pub free_is : (namer : Namer) (b : Building) (name text : List ℕ) (t : Bool) → AreNames namer b → text ≡ name → t ≡ (nat_le (length text) 1024 && (count_of namer.counts text == 0)) → is_free b.body name ≡ t
free_is namer b name text t h e v =
    free_by_counts namer b name h ∙ ap (λ n. nat_le (length n) 1024 && (count_of namer.counts n == 0)) (sym e) ∙ sym v

-- past the fresh names
pub fresh_over : (b : Building) (name : List ℕ) (next : ℕ) → is_free b.body name ≡ false → next ≡ b.next → 999999999 < next → 1000000000 < next_after b name
fresh_over b name next taken same over =
    let after = (name_taken b name taken).1 in
    omega (arith, after, same, over)
