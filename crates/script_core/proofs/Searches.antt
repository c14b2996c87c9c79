-- The search for the modules that a module reaches finds them all, and no others.
use Rattle.std.proofs.Common.{◌≡◌, ◌⊎◌, ℕ, zero, suc, ◌+◌, ◌-◌, ◌<◌, ◌≤◌, Bool, true, false, cond, ◌||◌, List, [], ◌∷◌, ◌++◌, length, take, get_or, Some, None, Bor, inl, inr, ⊎_elim, refl, sym, ◌∙◌, ap, subst, arith, length-append}
use Rattle.std.specs.Prelude.{filter, map}
use Rattle.std.specs.Option.{option_map_or}
use Rattle.std.specs.Str.{bytes_eq}
use Rattle.std.proofs.lemmas.List.{take_all, take_more}
use Rattle.std.proofs.lemmas.Slice.Eq.{bytes_eq-Decides}
use Rattle.rtl_ir.specs.declared.cell.Cell.{Cell}
use Rattle.rtl_ir.specs.declared.module.Module.{Module}
use Rattle.rtl_ir.specs.ModuleTables.{instance_of}
use Rattle.rtl_ir.specs.Ports.{in_name_order, instances_of, place_module}
use Rattle.rtl_ir.specs.Types.{module_named}
use Rattle.rtl_ir.proofs.NameOrder.{asked_more}
use Rattle.net_model.specs.Lists.{In}
use Rattle.net_model.proofs.Members.{In-cases, In-left, In-right}
use Rattle.script_core.specs.declared.key_table.Search.{Search}
use Rattle.script_core.specs.Reached.{leads_to, reached_of}
use Rattle.script_core.specs.Searching.{AreAsked, AreNamed, Finds, Looks, found_modules, waiting_modules}
use Rattle.script_core.proofs.BelowReadable.{left_count, ordered_count}
use Rattle.script_core.proofs.Instancing.{found_name, instance_from, instance_to, of_module, one_found, ordered_from, placed_first, placed_from, placed_to}
use Rattle.script_core.proofs.Leading.{Leads, leads_cut, leads_on, leads_true, true_leads}

-- ---- modules of some names, in order

left_there : {A : Type 0} (p : A → Bool) (xs : List A) (x : A) → In x (filter p xs) → p x ≡ true
left_there p [] x i = absurd i
left_there p (y ∷ ys) x i = by (p y) refl (left_there p ys x) i
  where
    by : (t : Bool) → p y ≡ t → (In x (filter p ys) → p x ≡ true) → In x (cond t (y ∷ filter p ys) (filter p ys)) → p x ≡ true
    by true q later (inl e) = ap p e ∙ q
    by true q later (inr j) = later j
    by false q later j = later j

-- the modules whose names are asked for
abbrev asked : (List ℕ → Bool) → List Module → List Module
asked test ms = filter (λ (m : Module). test m.id) ms

-- the first module of a name that is asked for stands among them
asked_in : (test : List ℕ → Bool) (ms : List Module) (y : Module) → module_named ms y.id ≡ Some y → test y.id ≡ true → In y (in_name_order (asked test ms))
asked_in test [] y e p = absurd cc
asked_in test (m ∷ ms) y e p = by (bytes_eq m.id y.id) refl (asked_in test ms y) e
  where
    kept : (t : Bool) → In y (in_name_order (asked test ms)) → (m.id ≡ y.id → ⊥) → In y (in_name_order (cond t (m ∷ asked test ms) (asked test ms)))
    kept false i other = i
    kept true i other = ⊎_elim (λ j. j) (λ f. absurd (other (sym f))) (placed_to m (in_name_order (asked test ms)) y (inr i))

    by : (t : Bool) → bytes_eq m.id y.id ≡ t → (module_named ms y.id ≡ Some y → test y.id ≡ true → In y (in_name_order (asked test ms)))
        → cond t (Some m) (module_named ms y.id) ≡ Some y → In y (in_name_order (cond (test m.id) (m ∷ asked test ms) (asked test ms)))
    by true q later f =
        let same : m ≡ y = cc in
        subst (λ t. In y (in_name_order (cond t (m ∷ asked test ms) (asked test ms)))) (sym (ap (λ (z : Module). test z.id) same ∙ p))
        (subst (λ z. In z (place_module m (in_name_order (asked test ms)))) same (placed_first m (in_name_order (asked test ms))))
    by false q later f =
        kept (test m.id) (later f p) (λ g. let no : true ≡ false = sym ((bytes_eq-Decides m.id y.id).1 g) ∙ q in absurd cc)

asked_test : (test : List ℕ → Bool) (ms : List Module) (y : Module) → In y (in_name_order (asked test ms)) → test y.id ≡ true
asked_test test ms y i = left_there (λ (m : Module). test m.id) ms y (ordered_from (asked test ms) y i)

-- the first module of a name that one has
first_of : (ms : List Module) (x : Module) → In x ms → (y : Module) × (module_named ms x.id ≡ Some y)
first_of [] x i = absurd i
first_of (m ∷ ms) x i = by (bytes_eq m.id x.id) refl (first_of ms x) i
  where
    by : (t : Bool) → bytes_eq m.id x.id ≡ t → (In x ms → (y : Module) × (module_named ms x.id ≡ Some y)) → In x (m ∷ ms) → (y : Module) × (cond t (Some m) (module_named ms x.id) ≡ Some y)
    by true q later j = (m, refl)
    by false q later (inr j) = later j
    by false q later (inl e) =
        let no : true ≡ false = sym ((bytes_eq-Decides m.id x.id).1 (sym (ap (λ (z : Module). z.id) e))) ∙ q in
        absurd cc

filter_same : {A : Type 0} (p q : A → Bool) (xs : List A) → ((x : A) → In x xs → p x ≡ q x) → filter p xs ≡ filter q xs
filter_same p q [] h = refl
filter_same p q (x ∷ xs) h =
    λ i. cond (h x (inl refl) i) (x ∷ filter_same p q xs (λ y j. h y (inr j)) i) (filter_same p q xs (λ y j. h y (inr j)) i)

none_left : {A : Type 0} (xs : List A) → filter (λ x. false) xs ≡ []
none_left [] = refl
none_left (x ∷ xs) = none_left xs

pub few_asked : (ms found : List Module) → AreAsked ms found → length found ≤ length ms
few_asked ms found a =
    let same = ap length a.all in
    let one = ordered_count (filter (λ (m : Module). a.test m.id) ms) in
    let two = left_count (λ (m : Module). a.test m.id) ms in
    omega (arith, same, one, two)

one_more : (ws : List Module) (f : Module) → length (ws ++ f ∷ []) ≡ length ws + 1
one_more ws f = length-append ws (f ∷ [])

-- ---- cells, one after another

module _ (ms : List Module) where
  -- none is looked at
  pub looks_none : (s : Search) → AreNamed s.found.entries → AreAsked ms (found_modules s) → Looks ms s s []
  looks_none s named asked = record {
    more = λ m i. i;
    inner = λ m c i e. absurd i;
    only = λ m i. inl i;
    waits = λ m i. inl i;
    stay = λ m i. i;
    come = λ m i. inl i;
    asked = asked;
    named = named;
    work = refl;
  }

  module _ (old mid : Search) (cells : List Cell) (h : Looks ms old mid cells) (c : Cell) where
    -- a cell that is no instance of a module
    pub looks_other : instance_of ms c.kind_name ≡ None → Looks ms old mid (cells ++ c ∷ [])
    looks_other e = record {
      more = h.more;
      inner = λ m x i f.
          ⊎_elim
          (λ j. h.inner m x j f)
          (λ j. ⊎_elim (λ g. absurd (none m (sym e ∙ ap (λ (z : Cell). instance_of ms z.kind_name) (sym g) ∙ f))) (λ no. absurd no) j)
          (In-cases x cells (c ∷ []) i);
      only = λ m i. ⊎_elim (λ j. inl j) (λ k. inr (k.0, In-left k.0 cells (c ∷ []) k.1, k.2)) (h.only m i);
      waits = h.waits;
      stay = h.stay;
      come = h.come;
      asked = h.asked;
      named = h.named;
      work = h.work;
    }
      where
        none : (m : Module) → None ≡ Some m → ⊥
        none m f = absurd cc

    -- a cell that is one
    pub looks_found : (f : Module) → instance_of ms c.kind_name ≡ Some f → (new : Search) → Finds mid new f → Looks ms old new (cells ++ c ∷ [])
    looks_found f e new k = record {
      more = λ m i. kept m (h.more m i);
      inner = λ m x i g.
          ⊎_elim
          (λ j. kept m (h.inner m x j g))
          (λ j. ⊎_elim (λ same. here m (one_found (instance_of ms c.kind_name) m f (ap (λ (z : Cell). instance_of ms z.kind_name) (sym same) ∙ g) e)) (λ no. absurd no) j)
          (In-cases x cells (c ∷ []) i);
      only = λ m i.
          ⊎_elim
          (λ same. inr (c, In-right c cells (c ∷ []) (inl refl), e ∙ ap Some (sym same)))
          (λ j. ⊎_elim (λ l. inl l) (λ r. inr (r.0, In-left r.0 cells (c ∷ []) r.1, r.2)) (h.only m j))
          (from m i);
      waits = λ m i. ⊎_elim (λ same. waits_first m same) (λ j. ⊎_elim (λ l. inl l) (λ r. inr (stays m r)) (h.waits m j)) (from m i);
      stay = λ m i. stays m (h.stay m i);
      come = λ m i. ⊎_elim (λ same. inr (here m same)) (λ j. ⊎_elim (λ l. inl l) (λ r. inr (kept m r)) (h.come m j)) (comes m i);
      asked = record {
        test = λ id. bytes_eq id f.id || h.asked.test id;
        all = k.found ∙ ap (place_module f) h.asked.all ∙ sym more_asked;
        first = λ m i. ⊎_elim (λ same. subst (λ (z : Module). module_named ms z.id ≡ Some z) (sym same) own) (λ j. h.asked.first m j) (from m i);
      };
      named = k.named;
      work = worked;
    }
      where
        own : module_named ms f.id ≡ Some f
        own = let is = of_module ms c.kind_name f e in ap (module_named ms) is.2 ∙ is.1

        from : (m : Module) → In m (found_modules new) → (m ≡ f) ⊎ In m (found_modules mid)
        from m i = placed_from f (found_modules mid) m (subst (In m) k.found i)

        here : (m : Module) → m ≡ f → In m (found_modules new)
        here m same = subst (In m) (sym k.found) (subst (λ z. In z (place_module f (found_modules mid))) (sym same) (placed_first f (found_modules mid)))

        twin : (m : Module) → In m (found_modules mid) → m.id ≡ f.id → m ≡ f
        twin m i same = one_found (module_named ms f.id) m f (ap (module_named ms) (sym same) ∙ h.asked.first m i) own

        kept : (m : Module) → In m (found_modules mid) → In m (found_modules new)
        kept m i =
            ⊎_elim (λ j. subst (In m) (sym k.found) j) (λ same. here m (twin m i same)) (placed_to f (found_modules mid) m (inr i))

        stays : (m : Module) → In m (waiting_modules mid) → In m (waiting_modules new)
        stays m i =
            ⊎_elim
            (λ l. subst (In m) (sym l.0) (In-left m (waiting_modules mid) (f ∷ []) i))
            (λ r. subst (In m) (sym r.0) i)
            k.waits

        comes : (m : Module) → In m (waiting_modules new) → (m ≡ f) ⊎ In m (waiting_modules mid)
        comes m i =
            ⊎_elim
            (λ l. ⊎_elim (λ j. inr j) (λ j. ⊎_elim (λ same. inl same) (λ no. absurd no) j) (In-cases m (waiting_modules mid) (f ∷ []) (subst (In m) l.0 i)))
            (λ r. inr (subst (In m) r.0 i))
            k.waits

        waits_first : (m : Module) → m ≡ f → In m (found_modules old) ⊎ In m (waiting_modules new)
        waits_first m same =
            ⊎_elim
            (λ l. inr (subst (λ z. In z (waiting_modules new)) (sym same) (subst (In f) (sym l.0) (In-right f (waiting_modules mid) (f ∷ []) (inl refl)))))
            (λ r. let x = r.2 in
            let there : In f (found_modules mid) = subst (λ z. In z (found_modules mid)) (twin x.0 x.1 x.2) x.1 in
            subst (λ z. In z (found_modules old) ⊎ In z (waiting_modules new)) (sym same)
            (⊎_elim (λ j. inl j) (λ j. inr (subst (In f) (sym r.0) j)) (h.waits f there)))
            k.waits

        more_asked : in_name_order (filter (λ (m : Module). bytes_eq m.id f.id || h.asked.test m.id) ms) ≡ place_module f (in_name_order (filter (λ (m : Module). h.asked.test m.id) ms))
        more_asked =
            asked_more h.asked.test (λ id. bytes_eq id f.id || h.asked.test id) f.id
            (λ id q. ap (λ t. t || h.asked.test id) q)
            (ap (λ t. t || h.asked.test f.id) ((bytes_eq-Decides f.id f.id).1 refl)) ms
            ∙ ap (λ o. option_map_or (λ g. place_module g (in_name_order (filter (λ (m : Module). h.asked.test m.id) ms))) o (in_name_order (filter (λ (m : Module). h.asked.test m.id) ms))) own

        worked : length (waiting_modules new) + length (found_modules old) ≡ length (waiting_modules old) + length (found_modules new)
        worked =
            let before = h.work in
            ⊎_elim
            (λ l. let waiting = ap length l.0 in
            let grown = one_more (waiting_modules mid) f in
            let found = l.1 in
            omega (arith, before, waiting, grown, found))
            (λ r. let waiting = ap length r.0 in
            let found = r.1 in
            omega (arith, before, waiting, found))
            k.waits

  -- the next cell of a list
  next_cell : (cells : List Cell) (i : ℕ) (c : Cell) → i < length cells → c ≡ get_or cells i c → take (i + 1) cells ≡ take i cells ++ c ∷ []
  next_cell cells i c inside is = take_more cells i c inside ∙ ap (λ d. take i cells ++ d ∷ []) (sym is)

  module _ (old mid : Search) (cells : List Cell) (i : ℕ) (c : Cell) (inside : i < length cells) (is : c ≡ get_or cells i c) (name : List ℕ) (type : name ≡ c.kind_name) (h : Looks ms old mid (take i cells)) where
    pub looks_on : instance_of ms name ≡ None → Looks ms old mid (take (i + 1) cells)
    looks_on e =
        subst (Looks ms old mid) (sym (next_cell cells i c inside is)) (looks_other old mid (take i cells) h c (ap (instance_of ms) (sym type) ∙ e))

    pub looks_more : (f : Module) → instance_of ms name ≡ Some f → (new : Search) → Finds mid new f → Looks ms old new (take (i + 1) cells)
    looks_more f e new k =
        subst (Looks ms old new) (sym (next_cell cells i c inside is)) (looks_found old mid (take i cells) h c f (ap (instance_of ms) (sym type) ∙ e) new k)

  pub all_looked : (old new : Search) (cells : List Cell) (i : ℕ) → length cells ≤ i → Looks ms old new (take i cells) → Looks ms old new cells
  all_looked old new cells i past h = subst (Looks ms old new) (take_all i cells past) h

  -- ---- the whole search

  -- how much is left to do
  abbrev pub work_left : Search → ℕ
  work_left s = (length ms - length (found_modules s)) + length (waiting_modules s)

  module _ (start : Module) where
    -- what was found is reached, and what was looked at leads nowhere else
    pub record IsSearching (s : Search) : Type 0 where
      pub named : AreNamed s.found.entries
      pub asked : AreAsked ms (found_modules s)
      pub leads : (m : Module) → In m (found_modules s) → (k : ℕ) × Leads ms k start.cells m
      pub started : In start (waiting_modules s) ⊎ ((l : Module) → In l (instances_of ms start.cells) → In l (found_modules s))
      pub closed : (m : Module) → In m (found_modules s) → In m (waiting_modules s) ⊎ ((l : Module) → In l (instances_of ms m.cells) → In l (found_modules s))
      pub origin : (m : Module) → In m (waiting_modules s) → (m ≡ start) ⊎ In m (found_modules s)

    pub begun : (s : Search) → s.found.entries ≡ [] → waiting_modules s ≡ start ∷ [] → IsSearching s
    begun s none waits = record {
      named = subst AreNamed (sym none) tt;
      asked = record {
        test = λ id. false;
        all = empty ∙ sym (ap in_name_order (none_left ms));
        first = λ m i. absurd (subst (In m) empty i);
      };
      leads = λ m i. absurd (subst (In m) empty i);
      started = inl (subst (In start) (sym waits) (inl refl));
      closed = λ m i. absurd (subst (In m) empty i);
      origin = λ m i. ⊎_elim (λ e. inl e) (λ no. absurd no) (subst (In m) waits i);
    }
      where
        empty : found_modules s ≡ []
        empty = ap (λ es. map (λ (e : Bor (List ℕ) × Bor Module). e.1.now) es) none

    -- one module is looked at
    module _ (s mid new : Search) (x : Module) (h : IsSearching s) (same : mid.found.entries ≡ s.found.entries) (waits : waiting_modules s ≡ waiting_modules mid ++ x ∷ []) (k : Looks ms mid new x.cells) where
      found : found_modules mid ≡ found_modules s
      found = ap (λ es. map (λ (e : Bor (List ℕ) × Bor Module). e.1.now) es) same

      stays : (m : Module) → In m (found_modules s) → In m (found_modules new)
      stays m i = k.more m (subst (In m) (sym found) i)

      inner : (m : Module) → m ≡ x → (l : Module) → In l (instances_of ms m.cells) → In l (found_modules new)
      inner m e l i =
          let j = instance_from ms x.cells l (subst (λ (z : Module). In l (instances_of ms z.cells)) e i) in
          k.inner l j.0 j.1 j.2

      waiting : (m : Module) → In m (waiting_modules s) → (m ≡ x) ⊎ In m (waiting_modules new)
      waiting m i =
          ⊎_elim (λ l. inr (k.stay m l)) (λ r. ⊎_elim (λ e. inl e) (λ no. absurd no) r) (In-cases m (waiting_modules mid) (x ∷ []) (subst (In m) waits i))

      here : In x (waiting_modules s)
      here = subst (In x) (sym waits) (In-right x (waiting_modules mid) (x ∷ []) (inl refl))

      old_one : (m : Module) → In m (found_modules s) → In m (waiting_modules new) ⊎ ((l : Module) → In l (instances_of ms m.cells) → In l (found_modules new))
      old_one m i =
          ⊎_elim
          (λ w. ⊎_elim (λ e. inr (λ l j. inner m e l j)) (λ r. inl r) (waiting m w))
          (λ all. inr (λ l j. stays l (all l j)))
          (h.closed m i)

      led : (m : Module) → (c : Cell) × In c x.cells × (instance_of ms c.kind_name ≡ Some m) → (n : ℕ) × Leads ms n start.cells m
      led m c =
          let i : In m (instances_of ms x.cells) = instance_to ms x.cells m c in
          ⊎_elim
          (λ e. (1, (m, subst (λ (z : Module). In m (instances_of ms z.cells)) e i, inl refl)))
          (λ j. let r = h.leads x j in (suc r.0, leads_on ms r.0 start.cells x m r.1 i))
          (h.origin x here)

      pub looked : IsSearching new
      looked = record {
        named = k.named;
        asked = k.asked;
        leads = λ m i. ⊎_elim (λ j. h.leads m (subst (In m) found j)) (λ c. led m c) (k.only m i);
        started = ⊎_elim (λ w. ⊎_elim (λ e. inr (λ l j. inner start e l j)) (λ r. inl r) (waiting start w)) (λ all. inr (λ l j. stays l (all l j))) h.started;
        closed = λ m i. ⊎_elim (λ j. old_one m (subst (In m) found j)) (λ w. inl w) (k.waits m i);
        origin = λ m i.
            ⊎_elim
            (λ w. ⊎_elim (λ e. inl e) (λ j. inr (stays m j)) (h.origin m (subst (In m) (sym waits) (In-left m (waiting_modules mid) (x ∷ []) w))))
            (λ j. inr j)
            (k.come m i);
      }

      pub less_left : work_left new < work_left s
      less_left =
          let work = k.work in
          let before = ap length found in
          let grown = ap length waits ∙ one_more (waiting_modules mid) x in
          let few = few_asked ms (found_modules new) k.asked in
          let fine = few_asked ms (found_modules s) h.asked in
          omega (arith, work, before, grown, few, fine)

    -- none is left
    module _ (s : Search) (h : IsSearching s) (waits : waiting_modules s ≡ []) where
      abbrev leads_test : List ℕ → Bool
      leads_test id = leads_to (length ms) ms start.cells id

      first_closed : (l : Module) → In l (instances_of ms start.cells) → In l (found_modules s)
      first_closed = ⊎_elim (λ w. absurd (subst (In start) waits w)) (λ all. all) h.started

      all_closed : (m : Module) → In m (found_modules s) → (l : Module) → In l (instances_of ms m.cells) → In l (found_modules s)
      all_closed m i = ⊎_elim (λ w. absurd (subst (In m) waits w)) (λ all. all) (h.closed m i)

      all_found : (k : ℕ) (cells : List Cell) → ((l : Module) → In l (instances_of ms cells) → In l (found_modules s)) → (y : Module) → Leads ms k cells y → In y (found_modules s)
      all_found zero cells inside y g = absurd g
      all_found (suc k) cells inside y g =
          ⊎_elim
          (λ e. subst (λ z. In z (found_modules s)) e (inside g.0 g.1))
          (λ r. all_found k g.0.cells (all_closed g.0 (inside g.0 g.1)) y r)
          g.2

      same_test : (x : Module) → In x ms → h.asked.test x.id ≡ leads_test x.id
      same_test x i = let y = first_of ms x i in by y.0 y.1 (h.asked.test x.id) (leads_test x.id) refl refl
        where
          by : (y : Module) → module_named ms x.id ≡ Some y → (t u : Bool) → h.asked.test x.id ≡ t → leads_test x.id ≡ u → t ≡ u
          by y e true true p q = refl
          by y e false false p q = refl
          by y e true false p q =
              let name = found_name ms x.id y e in
              let own = ap (module_named ms) name ∙ e in
              let there : In y (found_modules s) = subst (In y) (sym h.asked.all) (asked_in h.asked.test ms y own (ap h.asked.test name ∙ p)) in
              let g = h.leads y there in
              sym (true_leads ms (length ms) start.cells y (leads_cut ms g.0 start.cells y g.1)) ∙ ap leads_test name ∙ q
          by y e false true p q =
              let name = found_name ms x.id y e in
              let own = ap (module_named ms) name ∙ e in
              let g = leads_true ms (length ms) start.cells y own (ap leads_test name ∙ q) in
              let there = all_found (length ms) start.cells first_closed y g in
              sym p ∙ sym (ap h.asked.test name) ∙ asked_test h.asked.test ms y (subst (In y) h.asked.all there)

      pub searched : found_modules s ≡ reached_of ms start.cells
      searched =
          h.asked.all ∙ ap in_name_order (filter_same (λ (m : Module). h.asked.test m.id) (λ (m : Module). leads_test m.id) ms same_test)
