-- A module is put among those that were found, and is looked up among them.
use Rattle.std.proofs.Common.{◌≡◌, ℕ, zero, suc, ◌+◌, ◌<◌, true, false, cond, is_some, List, [], ◌∷◌, ◌++◌, length, get_or, map, Option, Some, None, Less, Equal, Greater, Ordering, Bor, slice_get, inl, inr, refl, sym, ◌∙◌, ap, subst, arith}
use Rattle.std.specs.BTreeMap.{insert_entry, is_at}
use Rattle.std.specs.Map.{lookup}
use Rattle.std.specs.Cmp.Lexicographic.{slice_cmp}
use Rattle.std.specs.Ordering.{nat_cmp, is_eq}
use Rattle.std.proofs.lemmas.List.{length-map, map-append}
use Rattle.std.proofs.lemmas.Option.{get_or_from_slice_get}
use Rattle.rtl_ir.specs.declared.module.Module.{Module}
use Rattle.rtl_ir.specs.Ports.{cells_at, place_module}
use Rattle.rtl_ir.proofs.PortLemmas.{AreNamed-insert_entry, map-insert_entry-module, name_cmp, same_name}
use Rattle.script_core.specs.declared.key_table.Search.{Search}
use Rattle.script_core.specs.Searching.{AreNamed, Finds, HasName, NamedModule, found_modules, waiting_modules}

abbrev module_of : NamedModule → Module
module_of e = e.1.now

-- what is looked up by a name has this name
looked_up : (id : Bor (List ℕ)) (es : List NamedModule) (x : Bor Module) → AreNamed es → lookup (is_at (name_cmp id)) es ≡ Some x → HasName (map module_of es) id.now
looked_up id [] x n e = absurd cc
looked_up id (p ∷ es) x n e = by (slice_cmp nat_cmp id.now p.0.now) refl e (looked_up id es x n.1)
  where
    by : (o : Ordering) → slice_cmp nat_cmp id.now p.0.now ≡ o → cond (is_eq o) (Some p.1) (lookup (is_at (name_cmp id)) es) ≡ Some x
        → (lookup (is_at (name_cmp id)) es ≡ Some x → HasName (map module_of es) id.now) → HasName (p.1.now ∷ map module_of es) id.now
    by Equal q f later = (p.1.now, inl refl, sym n.0 ∙ sym (same_name id.now p.0.now q))
    by Less q f later = let k = later f in (k.0, inr k.1, k.2)
    by Greater q f later = let k = later f in (k.0, inr k.1, k.2)

-- how many were found
count : (s : Search) → length (found_modules s) ≡ length s.found.entries
count s = length-map s.found.entries module_of

module _ (old new : Search) (id : Bor (List ℕ)) (m : Bor Module) (own : id.now ≡ m.now.id) (named : AreNamed old.found.entries) (put : new.found.entries ≡ insert_entry name_cmp old.found.entries id m) where
  put_found : found_modules new ≡ place_module m.now (found_modules old)
  put_found = ap (map module_of) put ∙ map-insert_entry-module id m own old.found.entries named

  put_named : AreNamed new.found.entries
  put_named = subst AreNamed (sym put) (AreNamed-insert_entry id m own old.found.entries named)

  -- none of its name was found
  pub finds_new : (o : Option (Bor Module)) → length new.found.entries ≡ length old.found.entries + cond (is_some o) 0 1 → is_some o ≡ false → new.waiting.items ≡ old.waiting.items ++ m ∷ [] → Finds old new m.now
  finds_new o size none waits =
      let more : length new.found.entries ≡ length old.found.entries + 1 = size ∙ ap (λ t. length old.found.entries + cond t 0 1) none in
      let before = count old in
      let after = count new in
      record {
        found = put_found;
        named = put_named;
        waits = inl (ap (map (λ (x : Bor Module). x.now)) waits ∙ map-append (λ (x : Bor Module). x.now) old.waiting.items (m ∷ []), omega (arith, before, after, more));
      }

  -- one was
  pub finds_again : (o : Option (Bor Module)) → o ≡ lookup (is_at (name_cmp id)) old.found.entries → length new.found.entries ≡ length old.found.entries + cond (is_some o) 0 1 → is_some o ≡ true → new.waiting.items ≡ old.waiting.items → Finds old new m.now
  finds_again None there size some waits = absurd cc
  finds_again (Some x) there size some waits =
      let before = count old in
      let after = count new in
      record {
        found = put_found;
        named = put_named;
        waits = inr (ap (map (λ (x : Bor Module). x.now)) waits, omega (arith, before, after, size), subst (HasName (found_modules old)) own (looked_up id old.found.entries x named (sym there)));
      }

-- a module that waits is taken out
pub taken_out : (old new : Search) (m : Bor Module) → old.waiting.items ≡ new.waiting.items ++ m ∷ [] → waiting_modules old ≡ waiting_modules new ++ m.now ∷ []
taken_out old new m e = ap (map (λ (x : Bor Module). x.now)) e ∙ map-append (λ (x : Bor Module). x.now) new.waiting.items (m ∷ [])

pub none_waits : (s : Search) → length s.waiting.items ≡ 0 → waiting_modules s ≡ []
none_waits s e = none s.waiting.items e
  where
    none : (ms : List (Bor Module)) → length ms ≡ 0 → map (λ (x : Bor Module). x.now) ms ≡ []
    none [] e = refl
    none (m ∷ ms) e = absurd (omega (arith, e))

-- the module at a place
pub module_there : (ms : List Module) (at : ℕ) → at < length ms → (m : Module) × (slice_get ms at ≡ Some m)
module_there [] at h = absurd (omega (arith, h))
module_there (m ∷ ms) zero h = (m, refl)
module_there (m ∷ ms) (suc at) h = module_there ms at (omega (arith, h))

-- it alone waits when the search begins
pub first_waits : (ms : List Module) (at : ℕ) (m : Module) → slice_get ms at ≡ Some m → (x : Module) → x ≡ get_or ms at x
    → (s : Search) (none : List (Bor Module)) (first : Bor Module) → none ≡ [] → s.waiting.items ≡ none ++ first ∷ [] → first.now ≡ x → waiting_modules s ≡ m ∷ []
first_waits ms at m e x is s none first empty waits same =
    ap (map (λ (y : Bor Module). y.now)) (waits ∙ ap (λ ys. ys ++ first ∷ []) empty) ∙ ap (λ (y : Module). y ∷ []) (same ∙ is ∙ get_or_from_slice_get ms at m x e)

pub cells_there : (ms : List Module) (at : ℕ) (m : Module) → slice_get ms at ≡ Some m → cells_at ms at ≡ m.cells
cells_there ms at m e = rw e refl
