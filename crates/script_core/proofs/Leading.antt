-- Modules that cells lead to through instances.
use Rattle.std.proofs.Common.{◌≡◌, ◌⊎◌, ℕ, zero, suc, ◌≤◌, Bool, true, false, ◌||◌, List, [], ◌∷◌, length, Some, inl, inr, ⊎_elim, refl, sym, ◌∙◌, ap, subst, arith}
use Rattle.std.specs.Prelude.{map}
use Rattle.std.specs.Str.{bytes_eq}
use Rattle.std.proofs.lemmas.Slice.Eq.{bytes_eq-Decides}
use Rattle.rtl_ir.specs.declared.cell.Cell.{Cell}
use Rattle.rtl_ir.specs.declared.module.Module.{Module}
use Rattle.rtl_ir.specs.Ports.{instances_of}
use Rattle.rtl_ir.specs.Types.{module_named}
use Rattle.net_model.specs.Lists.{In}
use Rattle.net_model.proofs.Members.{In-map}
use Rattle.script_core.specs.Reached.{leads_to}
use Rattle.script_core.proofs.Chains.{Goes, shorten}
use Rattle.script_core.proofs.Instancing.{any_found, any_there, found_in, instance_named, one_found}

either : (a b : Bool) → (a || b) ≡ true → (a ≡ true) ⊎ (b ≡ true)
either true b e = inl refl
either false b e = inr e

pub or_right : (a b : Bool) → b ≡ true → (a || b) ≡ true
or_right true b e = refl
or_right false b e = e

module _ (ms : List Module) where
  -- cells lead to a module, through at most so many modules
  abbrev pub Leads : ℕ → List Cell → Module → Type 0
  Leads zero cells n = ⊥
  Leads (suc k) cells n = (l : Module) × In l (instances_of ms cells) × ((l ≡ n) ⊎ Leads k l.cells n)

  pub leads_named : (k : ℕ) (cells : List Cell) (n : Module) → Leads k cells n → module_named ms n.id ≡ Some n
  leads_named zero cells n h = absurd h
  leads_named (suc k) cells n h =
      ⊎_elim
      (λ e. subst (λ (z : Module). module_named ms z.id ≡ Some z) e (instance_named ms cells h.0 h.1))
      (λ r. leads_named k h.0.cells n r)
      h.2

  pub leads_more : (k j : ℕ) (cells : List Cell) (n : Module) → k ≤ j → Leads k cells n → Leads j cells n
  leads_more zero j cells n le h = absurd h
  leads_more (suc k) zero cells n le h = absurd (omega (arith, le))
  leads_more (suc k) (suc j) cells n le h =
      (h.0, h.1, ⊎_elim (λ e. inl e) (λ r. inr (leads_more k j h.0.cells n (omega (arith, le)) r)) h.2)

  -- one module further
  pub leads_on : (k : ℕ) (cells : List Cell) (n l : Module) → Leads k cells n → In l (instances_of ms n.cells) → Leads (suc k) cells l
  leads_on zero cells n l h i = absurd h
  leads_on (suc k) cells n l h i =
      (h.0, h.1, inr (⊎_elim (λ e. (l, subst (λ (z : Module). In l (instances_of ms z.cells)) (sym e) i, inl refl)) (λ r. leads_on k h.0.cells n l r i) h.2))

  pub leads_then : (j k : ℕ) (cells : List Cell) (n l : Module) → Leads k cells n → Leads j n.cells l → (s : ℕ) × Leads s cells l
  leads_then zero k cells n l h g = absurd g
  leads_then (suc j) k cells n l h g =
      let one = leads_on k cells n g.0 h g.1 in
      ⊎_elim
      (λ e. (suc k, subst (Leads (suc k) cells) e one))
      (λ r. leads_then j (suc k) cells g.0 l one r)
      g.2

  -- by names
  abbrev Edge : List ℕ → List ℕ → Type 0
  Edge a b = (m : Module) × (module_named ms a ≡ Some m) × ((l : Module) × In l (instances_of ms m.cells) × (l.id ≡ b))

  abbrev ids : List (List ℕ)
  ids = map (λ (m : Module). m.id) ms

  id_in : (l : Module) → module_named ms l.id ≡ Some l → In l.id ids
  id_in l e = In-map (λ (m : Module). m.id) l ms (found_in ms l.id l e)

  inside : (a b : List ℕ) → Edge a b → In b ids
  inside a b e = subst (λ z. In z ids) e.2.2 (id_in e.2.0 (instance_named ms e.0.cells e.2.0 e.2.1))

  to_names : (k : ℕ) (l n : Module) → module_named ms l.id ≡ Some l → Leads k l.cells n → (xs : List (List ℕ)) × Goes Edge l.id xs n.id
  to_names zero l n named h = absurd h
  to_names (suc k) l n named h =
      ⊎_elim
      (λ e. (h.0.id ∷ [], ((l, named, (h.0, h.1, refl)), ap (λ (z : Module). z.id) e)))
      (λ r. let g = to_names k h.0 n (instance_named ms l.cells h.0 h.1) r in (h.0.id ∷ g.0, ((l, named, (h.0, h.1, refl)), g.1)))
      h.2

  from_names : (xs : List (List ℕ)) (l n : Module) → module_named ms l.id ≡ Some l → module_named ms n.id ≡ Some n → Goes Edge l.id xs n.id → (l ≡ n) ⊎ Leads (length xs) l.cells n
  from_names [] l n named found g = inl (one_found (module_named ms l.id) l n named (ap (module_named ms) g ∙ found))
  from_names (c ∷ cs) l n named found g =
      let same : g.0.0 ≡ l = one_found (module_named ms l.id) g.0.0 l g.0.1 named in
      let j : Module = g.0.2.0 in
      let i : In j (instances_of ms l.cells) = subst (λ (z : Module). In j (instances_of ms z.cells)) same g.0.2.1 in
      inr (j, i, from_names cs j n (instance_named ms l.cells j i) found (subst (λ z. Goes Edge z cs n.id) (sym g.0.2.2) g.1))

  length_ids : (ns : List Module) → length (map (λ (m : Module). m.id) ns) ≡ length ns
  length_ids [] = refl
  length_ids (n ∷ ns) = ap suc (length_ids ns)

  -- no more modules are needed than there are
  pub leads_cut : (k : ℕ) (cells : List Cell) (n : Module) → Leads k cells n → Leads (length ms) cells n
  leads_cut zero cells n h = absurd h
  leads_cut (suc k) cells n h =
      let l : Module = h.0 in
      let named = instance_named ms cells l h.1 in
      let found = leads_named (suc k) cells n h in
      let path : (xs : List (List ℕ)) × Goes Edge l.id xs n.id = ⊎_elim (λ e. ([], ap (λ (z : Module). z.id) e)) (λ r. to_names k l n named r) h.2 in
      let short = shorten Edge ids inside path.0 l.id n.id (id_in l named) path.1 in
      let count = length_ids ms in
      leads_more (suc (length short.0)) (length ms) cells n (omega (arith, short.2, count)) (l, h.1, from_names short.0 l n named found short.1)

  -- as it is tested
  pub leads_true : (k : ℕ) (cells : List Cell) (n : Module) → module_named ms n.id ≡ Some n → leads_to k ms cells n.id ≡ true → Leads k cells n
  leads_true zero cells n found e = absurd cc
  leads_true (suc k) cells n found e =
      let one = any_found (λ (m : Module). bytes_eq m.id n.id || leads_to k ms m.cells n.id) (instances_of ms cells) e in
      let l : Module = one.0 in (
        l,
        one.1,
        ⊎_elim
            (λ q. inl (one_found (module_named ms l.id) l n (instance_named ms cells l one.1) (ap (module_named ms) ((bytes_eq-Decides l.id n.id).0 q) ∙ found)))
            (λ q. inr (leads_true k l.cells n found q))
            (either (bytes_eq l.id n.id) (leads_to k ms l.cells n.id) one.2),
      )

  pub true_leads : (k : ℕ) (cells : List Cell) (n : Module) → Leads k cells n → leads_to k ms cells n.id ≡ true
  true_leads zero cells n h = absurd h
  true_leads (suc k) cells n h =
      any_there (λ (m : Module). bytes_eq m.id n.id || leads_to k ms m.cells n.id) (instances_of ms cells) h.0 h.1
      (⊎_elim
      (λ e. ap (λ t. t || leads_to k ms h.0.cells n.id) ((bytes_eq-Decides h.0.id n.id).1 (ap (λ (z : Module). z.id) e)))
      (λ r. or_right (bytes_eq h.0.id n.id) (leads_to k ms h.0.cells n.id) (true_leads k h.0.cells n r))
      h.2)
