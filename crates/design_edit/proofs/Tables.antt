-- Tables of the places of modules.
use Rattle.std.proofs.Common.{◌≡◌, ℕ, ◌+◌, ◌-◌, ◌<◌, ◌≤◌, Bool, true, false, cond, List, [], ◌∷◌, length, get_or, drop, Option, Some, None, option_map, nat_lt, Bor, subst, suc, refl, sym, ◌∙◌, ap, arith, true≢false}
use Rattle.std.proofs.lemmas.Bool.Decides.{nat_tests}
use Rattle.std.proofs.lemmas.Slice.Eq.{bytes_eq-Decides}
use Rattle.std.specs.List.{position_or_len}
use Rattle.std.specs.Str.{bytes_eq}
use Rattle.rtl_ir.specs.declared.module.Module.{Module}
use Rattle.rtl_ir.specs.Faults.Recursion.{place_named}
use Rattle.rtl_ir.proofs.PortLemmas.{drop-before}
use Rattle.net_index.specs.Types.{Named, at_name}
use Rattle.net_index.proofs.Tables.{Puts, at_name-put}
use Rattle.design_edit.specs.Modules.{with_module}
use Rattle.design_edit.specs.Table.{ArePlaces, place_from}

-- the place of a module goes before those of the others
pub place_put : (old new : Named ℕ) (key : Bor (List ℕ)) (m : Module) (modules : List Module) (at : ℕ) → Puts old new key (at - 1) → key.now ≡ m.id → 0 < at → at ≤ length modules → m ≡ get_or modules (at - 1) m
    → ((name : List ℕ) → at_name old name ≡ place_from at (drop at modules) name)
    → (name : List ℕ) → at_name new name ≡ place_from (at - 1) (drop (at - 1) modules) name
place_put old new key m modules at p named some within is places name =
    let next : at - 1 + 1 ≡ at = omega arith in
    rw (drop-before modules at m some within is, at_name-put old new key (at - 1) p name, named, next, places name) refl

place_from-is : (modules : List Module) (at : ℕ) (name : List ℕ) → place_from at modules name ≡ option_map (λ k. at + k) (place_named modules name)
place_from-is [] at name = refl
place_from-is (m ∷ modules) at name =
    by (bytes_eq m.id name) refl (place_from-is modules (at + 1) name)
  where
    chosen : (b : Bool) (n : ℕ) → option_map (λ k. at + 1 + k) (cond b (Some n) None) ≡ option_map (λ k. at + k) (cond b (Some (suc n)) None)
    chosen true n = ap Some (omega arith)
    chosen false n = refl

    moved : (n l : ℕ) → option_map (λ k. at + 1 + k) (cond (nat_lt n l) (Some n) None) ≡ option_map (λ k. at + k) (cond (nat_lt (1 + n) (suc l)) (Some (1 + n)) None)
    moved n l =
        let one_more : suc n ≡ 1 + n = omega arith in
        let below : nat_lt (suc n) (suc l) ≡ nat_lt n l = grind (arith, nat_tests) in
        subst (λ (s : ℕ). option_map (λ k. at + 1 + k) (cond (nat_lt n l) (Some n) None) ≡ option_map (λ k. at + k) (cond (nat_lt s (suc l)) (Some s) None)) one_more (chosen (nat_lt n l) n ∙ ap (λ b. option_map (λ k. at + k) (cond b (Some (suc n)) None)) (sym below))

    here : (l : ℕ) → Some at ≡ option_map (λ k. at + k) (cond (nat_lt 0 (suc l)) (Some 0) None)
    here l =
        let some : nat_lt 0 (suc l) ≡ true = grind (arith, nat_tests) in
        let same : at ≡ at + 0 = omega arith in
        rw some (ap Some same)

    by : (b : Bool) → bytes_eq m.id name ≡ b → place_from (at + 1) modules name ≡ option_map (λ k. at + 1 + k) (place_named modules name)
        → cond b (Some at) (place_from (at + 1) modules name) ≡ option_map (λ k. at + k) (place_named (m ∷ modules) name)
    by true e h = rw e (here (length modules))
    by false e h = rw (e, h) (moved (position_or_len (λ n. bytes_eq n.id name) modules) (length modules))

unmoved : (o : Option ℕ) → option_map (λ k. 0 + k) o ≡ o
unmoved None = refl
unmoved (Some k) = ap Some (omega arith)

-- once the loop has come to the first module, all are placed
pub all_placed : (places : Named ℕ) (modules : List Module) (at : ℕ) → at ≤ 0 → ((name : List ℕ) → at_name places name ≡ place_from at (drop at modules) name) → ArePlaces places modules
all_placed places modules at none h name =
    let first : at ≡ 0 = omega arith in
    h name ∙ ap (λ k. place_from k (drop k modules) name) first ∙ place_from-is modules 0 name ∙ unmoved (place_named modules name)

pub from_first : (modules : List Module) (name : List ℕ) → place_from 0 modules name ≡ place_named modules name
from_first modules name = place_from-is modules 0 name ∙ unmoved (place_named modules name)

same_name : (a b : List ℕ) → bytes_eq a b ≡ true → a ≡ b
same_name a b e = (bytes_eq-Decides a b).0 e

module _ (new : Module) where
  -- a module in the place of another one changes no place
  placed_again : (modules : List Module) (at k : ℕ) → place_from at modules new.id ≡ Some k → (name : List ℕ) → place_from at (with_module modules new) name ≡ place_from at modules name
  placed_again [] at k e name = absurd (cc)
  placed_again (m ∷ modules) at k e name = by (bytes_eq m.id new.id) refl e (placed_again modules (at + 1) k)
    where
      by : (b : Bool) → bytes_eq m.id new.id ≡ b → cond b (Some at) (place_from (at + 1) modules new.id) ≡ Some k
          → (place_from (at + 1) modules new.id ≡ Some k → (name : List ℕ) → place_from (at + 1) (with_module modules new) name ≡ place_from (at + 1) modules name)
          → place_from at (cond b (new ∷ modules) (m ∷ with_module modules new)) name ≡ place_from at (m ∷ modules) name
      by true same f rest = ap (λ (id : List ℕ). cond (bytes_eq id name) (Some at) (place_from (at + 1) modules name)) (sym (same_name m.id new.id same))
      by false same f rest = ap (cond (bytes_eq m.id name) (Some at)) (rest f name)

  -- a module of a new name comes last
  placed_last : (modules : List Module) (at : ℕ) → place_from at modules new.id ≡ None → (name : List ℕ)
      → place_from at (with_module modules new) name ≡ cond (bytes_eq new.id name) (Some (at + length modules)) (place_from at modules name)
  placed_last [] at e name = let same : at ≡ at + 0 = omega arith in ap (λ n. cond (bytes_eq new.id name) (Some n) None) same
  placed_last (m ∷ modules) at e name = by (bytes_eq m.id new.id) refl e (placed_last modules (at + 1))
    where
      next : at + 1 + length modules ≡ at + suc (length modules)
      next = omega arith

      pick : (b c : Bool) → bytes_eq m.id name ≡ b → bytes_eq new.id name ≡ c → bytes_eq m.id new.id ≡ false
          → cond b (Some at) (cond c (Some (at + 1 + length modules)) (place_from (at + 1) modules name)) ≡ cond c (Some (at + suc (length modules))) (cond b (Some at) (place_from (at + 1) modules name))
      pick true true here there other =
          let same : m.id ≡ new.id = same_name m.id name here ∙ sym (same_name new.id name there) in
          absurd (true≢false (sym ((bytes_eq-Decides m.id new.id).1 same) ∙ other))
      pick true false here there other = refl
      pick false true here there other = ap Some next
      pick false false here there other = refl

      by : (b : Bool) → bytes_eq m.id new.id ≡ b → cond b (Some at) (place_from (at + 1) modules new.id) ≡ None
          → (place_from (at + 1) modules new.id ≡ None → (name : List ℕ) → place_from (at + 1) (with_module modules new) name ≡ cond (bytes_eq new.id name) (Some (at + 1 + length modules)) (place_from (at + 1) modules name))
          → place_from at (cond b (new ∷ modules) (m ∷ with_module modules new)) name ≡ cond (bytes_eq new.id name) (Some (at + suc (length modules))) (place_from at (m ∷ modules) name)
      by true same f rest = absurd (cc)
      by false same f rest = ap (cond (bytes_eq m.id name) (Some at)) (rest f name) ∙ pick (bytes_eq m.id name) (bytes_eq new.id name) refl refl same

  -- the table of the modules is that of the modules with a module of a known name
  pub table_again : (places : Named ℕ) (modules : List Module) (k : ℕ) → ArePlaces places modules → at_name places new.id ≡ Some k → ArePlaces places (with_module modules new)
  table_again places modules k are found name =
      are name ∙ sym (from_first modules name) ∙ sym (placed_again modules 0 k (from_first modules new.id ∙ sym (are new.id) ∙ found) name) ∙ from_first (with_module modules new) name

  -- the table with a new name behind the others is that of the modules with this one
  pub table_last : (old places : Named ℕ) (modules : List Module) (key : Bor (List ℕ)) (count : ℕ) → ArePlaces old modules → at_name old new.id ≡ None → count ≡ length modules → Puts old places key count → key.now ≡ new.id
      → ArePlaces places (with_module modules new)
  table_last old places modules key count are none is put named name =
      let first : 0 + length modules ≡ length modules = omega arith in
      at_name-put old places key count put name
      ∙ (λ i. cond (bytes_eq (named i) name) (Some ((is ∙ sym first) i)) ((are name ∙ sym (from_first modules name)) i))
      ∙ sym (placed_last modules 0 (from_first modules new.id ∙ sym (are new.id) ∙ none) name) ∙ from_first (with_module modules new) name
