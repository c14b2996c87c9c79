-- Tables after something was put at a name.
use Rattle.std.proofs.Common.{◌≡◌, ℕ, suc, ◌-◌, ◌<◌, ◌≤◌, Bool, true, false, cond, List, length, get_or, drop, Option, Some, Bor, refl, sym, ◌∙◌, ap, subst, arith}
use Rattle.std.specs.Cmp.Lexicographic.{nat_list_eq_equiv}
use Rattle.std.specs.Global.{Vec}
use Rattle.std.specs.HashMap as hash
use Rattle.std.specs.HashMap.{HashMap}
use Rattle.std.specs.Map.{AreApart, IsKeyTest, KeepsOthers, lookup}
use Rattle.std.specs.Prelude.{option_map, unwrap_or}
use Rattle.std.specs.Str.{bytes_eq}
use Rattle.std.proofs.lemmas.Map.Text.{hash_map_updates_str}
use Rattle.std.proofs.lemmas.Slice.Eq.{bytes_eq-Decides}
use Rattle.std.proofs.lemmas.List.{get_or_default}
use Rattle.rtl_ir.specs.declared.module.Module.{Module}
use Rattle.rtl_ir.specs.Flat.Tree.{named}
use Rattle.rtl_ir.proofs.PortLemmas.{drop-before}
use Rattle.flat_pass.specs.ByName.{Named, at_name, place_from}
use Rattle.flat_pass.specs.ByName.{names_now}
use Rattle.flat_pass.specs.declared.child.Child.{Child}

-- a table after a value is put at a name
pub record Puts {A : Type 0} (old new : Named A) (key : Bor (List ℕ)) (value : A) : Type 0 where
  pub updates : hash.UpdatesBy (λ (x y : Bor (List ℕ)). bytes_eq x.now y.now) (λ (k : Bor (List ℕ)). bytes_eq key.now k.now) old new (Some value)

-- the name has the value, and other names keep theirs
pub at_name-put : {A : Type 0} (old new : Named A) (key : Bor (List ℕ)) (value : A) → Puts old new key value → (name : List ℕ) → at_name new name ≡ cond (bytes_eq key.now name) (Some value) (at_name old name)
at_name-put old new key value p name = hash_map_updates_str key.now old new (Some value) p.updates name

-- a name goes before those behind it
pub place_put : (old new : Named ℕ) (d : Bor (List ℕ)) (names : List (Bor (List ℕ))) (at : ℕ) → Puts old new (get_or names (at - 1) d) (at - 1) → 0 < at → at ≤ length names → ((name : List ℕ) → at_name old name ≡ place_from at (names_now (drop at names)) name) → (name : List ℕ) → at_name new name ≡ place_from (at - 1) (names_now (drop (at - 1) names)) name
place_put old new d names at p some within others name =
    let next : suc (at - 1) ≡ at = omega arith in
    let inside : at - 1 < length names = omega arith in
    let key : Bor (List ℕ) = get_or names (at - 1) d in
    let is : key ≡ get_or names (at - 1) key = get_or_default names (at - 1) d key inside in
    at_name-put old new key (at - 1) p name
    ∙ ap (cond (bytes_eq key.now name) (Some (at - 1))) (others name ∙ ap (λ k. place_from k (names_now (drop at names)) name) (sym next))
    ∙ ap (λ ns. place_from (at - 1) (names_now ns) name) (sym (drop-before names at key some within is))

-- a module goes before those behind it
pub child_put : (old new : Named Child) (key : Bor (List ℕ)) (m : Module) (child : Child) → Puts old new key child → key.now ≡ m.id → child.body.now ≡ m → (modules : List Module) (at : ℕ) → 0 < at → at ≤ length modules → m ≡ get_or modules (at - 1) m → ((id : List ℕ) → option_map (λ (c : Child). c.body.now) (at_name old id) ≡ named (drop at modules) id) → (id : List ℕ) → option_map (λ (c : Child). c.body.now) (at_name new id) ≡ named (drop (at - 1) modules) id
child_put old new key m child p keyed own modules at some within is others id =
    rw (drop-before modules at m some within is, at_name-put old new key child p id, keyed) (by (bytes_eq m.id id) (others id))
  where
    by : (b : Bool) → option_map (λ (c : Child). c.body.now) (at_name old id) ≡ named (drop at modules) id → option_map (λ (c : Child). c.body.now) (cond b (Some child) (at_name old id)) ≡ cond b (Some m) (named (drop at modules) id)
    by true h = ap Some own
    by false h = h

module _ {K : Type 0} (eq : K → K → Bool) (test : K → Bool) where
  others_kept : {X : Type 0} (old new : List (K × X)) → KeepsOthers eq test old new → (other : K → Bool) → IsKeyTest eq other → AreApart test other → lookup other new ≡ lookup other old
  unfolding KeepsOthers
  others_kept old new h = h

apart : (bs cs ks : List ℕ) → bytes_eq bs cs ≡ false → bytes_eq bs ks ≡ true → bytes_eq cs ks ≡ false
apart bs cs ks n y = nat_list_eq_equiv.symm cs ks ∙ sym (nat_list_eq_equiv.congr bs ks cs y) ∙ n

-- a count is put at a name
pub count_put : {S : Type 0} (bs : List ℕ) (m n : HashMap (Vec ℕ) ℕ S) (count : ℕ) → hash.UpdatesBy (λ (x y : Vec ℕ). bytes_eq x.items y.items) (λ (k : Vec ℕ). bytes_eq bs k.items) m n (Some count)
    → (cs : List ℕ) → hash.get_by (λ (k : Vec ℕ). bytes_eq cs k.items) n ≡ cond (bytes_eq cs bs) (Some count) (hash.get_by (λ (k : Vec ℕ). bytes_eq cs k.items) m)
count_put bs m n count h cs = by (bytes_eq cs bs) refl
  where
    by : (t : Bool) → bytes_eq cs bs ≡ t → hash.get_by (λ (k : Vec ℕ). bytes_eq cs k.items) n ≡ cond t (Some count) (hash.get_by (λ (k : Vec ℕ). bytes_eq cs k.items) m)
    by true e =
        let same : bs ≡ cs = sym ((bytes_eq-Decides cs bs).0 e) in
        subst (λ l. hash.get_by (λ (k : Vec ℕ). bytes_eq l k.items) n ≡ Some count) same h.1
    by false e = others_kept (λ (x y : Vec ℕ). bytes_eq x.items y.items) (λ (k : Vec ℕ). bytes_eq bs k.items) m.entries n.entries h.3 (λ (k : Vec ℕ). bytes_eq cs k.items) (λ x y. nat_list_eq_equiv.congr cs x.items y.items) (λ k. apart bs cs k.items (nat_list_eq_equiv.symm bs cs ∙ e))

-- the same as a number, 0 where none is there
pub counted : {S : Type 0} (bs name : List ℕ) (m n : HashMap (Vec ℕ) ℕ S) (count : ℕ) → hash.UpdatesBy (λ (x y : Vec ℕ). bytes_eq x.items y.items) (λ (k : Vec ℕ). bytes_eq bs k.items) m n (Some count) → bs ≡ name
    → (q : List ℕ) → unwrap_or (hash.get_by (λ (k : Vec ℕ). bytes_eq q k.items) n) 0 ≡ cond (bytes_eq q name) count (unwrap_or (hash.get_by (λ (k : Vec ℕ). bytes_eq q k.items) m) 0)
counted bs name m n count h same q =
    ap (λ o. unwrap_or o 0) (count_put bs m n count h q) ∙ ap (λ z. unwrap_or (cond (bytes_eq q z) (Some count) (hash.get_by (λ (k : Vec ℕ). bytes_eq q k.items) m)) 0) same ∙ by (bytes_eq q name) (hash.get_by (λ (k : Vec ℕ). bytes_eq q k.items) m)
  where
    by : (b : Bool) (o : Option ℕ) → unwrap_or (cond b (Some count) o) 0 ≡ cond b count (unwrap_or o 0)
    by true o = refl
    by false o = refl
