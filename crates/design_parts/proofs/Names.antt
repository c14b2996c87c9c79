-- Modules by their names, where some are left out and the others changed.
use Rattle.std.proofs.Common.{◌≡◌, ℕ, Bool, true, false, cond, List, [], ◌∷◌, Some, None, inl, inr, refl, sym, ◌∙◌, ap}
use Rattle.std.specs.Prelude.{filter, map, option_map}
use Rattle.std.specs.Str.{bytes_eq}
use Rattle.std.proofs.lemmas.Slice.Eq.{bytes_eq-Decides}
use Rattle.rtl_ir.specs.declared.module.Module.{Module}
use Rattle.rtl_ir.specs.Types.{module_named}
use Rattle.net_model.specs.Lists.{Distinct, In}
use Rattle.net_model.proofs.Members.{In-map, apart_at}
use Rattle.script_core.proofs.Instancing.{found_in, found_name}
use Rattle.design_parts.proofs.Outcomes.{first_named}

-- a module whose name stands once
once : (ms : List Module) → Distinct (map (λ (m : Module). m.id) ms) → (m n : Module) → In m ms → In n ms → m.id ≡ n.id → m ≡ n
once [] u m n i j e = absurd i
once (k ∷ ks) u m n (inl f) (inl g) e = f ∙ sym g
once (k ∷ ks) u m n (inl f) (inr j) e =
    absurd (apart_at k.id (map (λ (z : Module). z.id) ks) u.0 n.id (In-map (λ (z : Module). z.id) n ks j) (ap (λ (z : Module). z.id) (sym f) ∙ e))
once (k ∷ ks) u m n (inr i) (inl g) e =
    absurd (apart_at k.id (map (λ (z : Module). z.id) ks) u.0 m.id (In-map (λ (z : Module). z.id) m ks i) (ap (λ (z : Module). z.id) (sym g) ∙ sym e))
once (k ∷ ks) u m n (inr i) (inr j) e = once ks u.1 m n i j e

pub named_once : (ms : List Module) → Distinct (map (λ (m : Module). m.id) ms) → (m : Module) → In m ms → module_named ms m.id ≡ Some m
named_once ms u m i =
    let first = first_named ms m i in
    let l : Module = first.0 in
    first.1 ∙ ap Some (once ms u l m (found_in ms m.id l first.1) i (found_name ms m.id l first.1))

module _ (change : Module → Module) (same : (m : Module) → (change m).id ≡ m.id) (kept : List ℕ → Bool) (id : List ℕ) where
  abbrev left : List Module → List Module
  left ms = map change (filter (λ (m : Module). kept m.id) ms)

  -- a name of these is found as before
  pub named_kept : kept id ≡ true → (ms : List Module) → module_named (left ms) id ≡ option_map change (module_named ms id)
  named_kept k [] = refl
  named_kept k (m ∷ ms) = by (kept m.id) (bytes_eq m.id id) refl refl (named_kept k ms)
    where
      by : (a b : Bool) → kept m.id ≡ a → bytes_eq m.id id ≡ b → module_named (left ms) id ≡ option_map change (module_named ms id)
          → module_named (map change (cond a (m ∷ filter (λ (n : Module). kept n.id) ms) (filter (λ (n : Module). kept n.id) ms))) id ≡ option_map change (cond b (Some m) (module_named ms id))
      by true true e f later = ap (λ t. cond t (Some (change m)) (module_named (left ms) id)) (ap (λ z. bytes_eq z id) (same m) ∙ f)
      by true false e f later = ap (λ t. cond t (Some (change m)) (module_named (left ms) id)) (ap (λ z. bytes_eq z id) (same m) ∙ f) ∙ later
      by false true e f later =
          let no : true ≡ false = sym k ∙ ap kept (sym ((bytes_eq-Decides m.id id).0 f)) ∙ e in
          absurd cc
      by false false e f later = later

  -- and no other name
  pub named_left : kept id ≡ false → (ms : List Module) → module_named (left ms) id ≡ None
  named_left k [] = refl
  named_left k (m ∷ ms) = by (kept m.id) (bytes_eq m.id id) refl refl (named_left k ms)
    where
      by : (a b : Bool) → kept m.id ≡ a → bytes_eq m.id id ≡ b → module_named (left ms) id ≡ None
          → module_named (map change (cond a (m ∷ filter (λ (n : Module). kept n.id) ms) (filter (λ (n : Module). kept n.id) ms))) id ≡ None
      by true true e f later =
          let no : true ≡ false = sym e ∙ ap kept ((bytes_eq-Decides m.id id).0 f) ∙ k in
          absurd cc
      by true false e f later = ap (λ t. cond t (Some (change m)) (module_named (left ms) id)) (ap (λ z. bytes_eq z id) (same m) ∙ f) ∙ later
      by false b e f later = later
