-- Which modules some cells are instances of.
use Rattle.std.proofs.Common.{◌≡◌, ◌⊎◌, ℕ, Bool, true, false, cond, ◌||◌, List, [], ◌∷◌, ◌++◌, Option, Some, None, Ordering, Less, Equal, Greater, inl, inr, ⊎_elim, refl, sym, ◌∙◌, ap, subst, append_assoc}
use Rattle.std.specs.Option.{option_map_or}
use Rattle.std.specs.List.{list_any}
use Rattle.std.specs.Cmp.Lexicographic.{slice_cmp}
use Rattle.std.specs.Ordering.{nat_cmp, match_ordering, is_eq}
use Rattle.std.specs.Str.{bytes_eq}
use Rattle.std.proofs.lemmas.List.{append-nil}
use Rattle.std.proofs.lemmas.Map.Text.{is_eq-slice_cmp}
use Rattle.std.proofs.lemmas.Slice.Eq.{bytes_eq-Decides}
use Rattle.rtl_ir.specs.declared.cell.Cell.{Cell}
use Rattle.rtl_ir.specs.declared.module.Module.{Module}
use Rattle.rtl_ir.specs.ModuleTables.{instance_of}
use Rattle.rtl_ir.specs.Ports.{in_name_order, instances_of, is_library_cell, place_module}
use Rattle.rtl_ir.specs.Types.{module_named}
use Rattle.rtl_ir.proofs.NameOrder.{instance_more, instance_none, no_cells}
use Rattle.net_model.specs.Lists.{In}
use Rattle.net_model.proofs.Members.{In-cases, In-left, In-right}

-- a test that one of a list passes
pub any_found : {A : Type 0} (test : A → Bool) (xs : List A) → list_any test xs ≡ true → (x : A) × In x xs × (test x ≡ true)
any_found {A} test [] e = absurd cc
any_found {A} test (x ∷ xs) e = by (any_found test xs) (test x) refl e
  where
    by : (list_any test xs ≡ true → (y : A) × In y xs × (test y ≡ true)) → (t : Bool) → test x ≡ t → (t || list_any test xs) ≡ true → (y : A) × In y (x ∷ xs) × (test y ≡ true)
    by later true f g = (x, inl refl, f)
    by later false f g = let k = later g in (k.0, inr k.1, k.2)

pub any_there : {A : Type 0} (test : A → Bool) (xs : List A) (x : A) → In x xs → test x ≡ true → list_any test xs ≡ true
any_there test [] x i e = absurd i
any_there test (y ∷ xs) x (inl f) e = ap (λ t. t || list_any test xs) (ap test (sym f) ∙ e)
any_there test (y ∷ xs) x (inr i) e = by (test y) (any_there test xs x i e)
  where
    by : (t : Bool) → list_any test xs ≡ true → (t || list_any test xs) ≡ true
    by true h = refl
    by false h = h

-- modules put in order of their names
pub placed_from : (m : Module) (ns : List Module) (x : Module) → In x (place_module m ns) → In x (m ∷ ns)
placed_from m [] x i = i
placed_from m (n ∷ ns) x i = by (slice_cmp nat_cmp m.id n.id) (placed_from m ns x) i
  where
    by : (o : Ordering) → (In x (place_module m ns) → In x (m ∷ ns)) → In x (match_ordering o (m ∷ n ∷ ns) (m ∷ ns) (n ∷ place_module m ns)) → In x (m ∷ n ∷ ns)
    by Less later j = j
    by Equal later (inl e) = inl e
    by Equal later (inr j) = inr (inr j)
    by Greater later (inl e) = inr (inl e)
    by Greater later (inr j) = ⊎_elim (λ e. inl e) (λ k. inr (inr k)) (later j)

pub ordered_from : (ms : List Module) (x : Module) → In x (in_name_order ms) → In x ms
ordered_from [] x i = i
ordered_from (m ∷ ms) x i = ⊎_elim (λ e. inl e) (λ j. inr (ordered_from ms x j)) (placed_from m (in_name_order ms) x i)

-- one of them stays, but where the one that is put has its name
pub placed_to : (m : Module) (ns : List Module) (x : Module) → In x (m ∷ ns) → In x (place_module m ns) ⊎ (x.id ≡ m.id)
placed_to m [] x i = inl i
placed_to m (n ∷ ns) x i = by (slice_cmp nat_cmp m.id n.id) refl (placed_to m ns x) i
  where
    equal : slice_cmp nat_cmp m.id n.id ≡ Equal → m.id ≡ n.id
    equal e = (bytes_eq-Decides m.id n.id).0 (sym (is_eq-slice_cmp m.id n.id) ∙ ap is_eq e)

    by : (o : Ordering) → slice_cmp nat_cmp m.id n.id ≡ o → (In x (m ∷ ns) → In x (place_module m ns) ⊎ (x.id ≡ m.id)) → In x (m ∷ n ∷ ns)
        → In x (match_ordering o (m ∷ n ∷ ns) (m ∷ ns) (n ∷ place_module m ns)) ⊎ (x.id ≡ m.id)
    by Less q later j = inl j
    by Equal q later (inl e) = inl (inl e)
    by Equal q later (inr (inl e)) = inr (ap (λ (k : Module). k.id) e ∙ sym (equal q))
    by Equal q later (inr (inr j)) = inl (inr j)
    by Greater q later (inl e) = ⊎_elim (λ k. inl (inr k)) (λ f. inr f) (later (inl e))
    by Greater q later (inr (inl e)) = inl (inl e)
    by Greater q later (inr (inr j)) = ⊎_elim (λ k. inl (inr k)) (λ f. inr f) (later (inr j))

pub placed_first : (m : Module) (ns : List Module) → In m (place_module m ns)
placed_first m [] = inl refl
placed_first m (n ∷ ns) = by (slice_cmp nat_cmp m.id n.id) (placed_first m ns)
  where
    by : (o : Ordering) → In m (place_module m ns) → In m (match_ordering o (m ∷ n ∷ ns) (m ∷ ns) (n ∷ place_module m ns))
    by Less later = inl refl
    by Equal later = inl refl
    by Greater later = inr later

-- a module that a name finds
pub found_name : (ms : List Module) (id : List ℕ) (l : Module) → module_named ms id ≡ Some l → l.id ≡ id
found_name [] id l e = absurd cc
found_name (m ∷ ms) id l e = by (found_name ms id l) (bytes_eq m.id id) refl e
  where
    by : (module_named ms id ≡ Some l → l.id ≡ id) → (t : Bool) → bytes_eq m.id id ≡ t → cond t (Some m) (module_named ms id) ≡ Some l → l.id ≡ id
    by later true q f = let same : m ≡ l = cc in ap (λ (k : Module). k.id) (sym same) ∙ (bytes_eq-Decides m.id id).0 q
    by later false q f = later f

pub found_in : (ms : List Module) (id : List ℕ) (l : Module) → module_named ms id ≡ Some l → In l ms
found_in [] id l e = absurd cc
found_in (m ∷ ms) id l e = by (found_in ms id l) (bytes_eq m.id id) e
  where
    by : (module_named ms id ≡ Some l → In l ms) → (t : Bool) → cond t (Some m) (module_named ms id) ≡ Some l → In l (m ∷ ms)
    by later true f = let same : m ≡ l = cc in inl (sym same)
    by later false f = inr (later f)

pub one_found : {A : Type 0} (o : Option A) (x y : A) → o ≡ Some x → o ≡ Some y → x ≡ y
one_found o x y e f = let both : Some x ≡ Some y = sym e ∙ f in cc

module _ (ms : List Module) where
  -- what an instance is of
  pub of_module : (k : List ℕ) (l : Module) → instance_of ms k ≡ Some l → (is_library_cell k ≡ false) × (module_named ms k ≡ Some l) × (l.id ≡ k)
  of_module k l e = by (is_library_cell k) refl e
    where
      by : (t : Bool) → is_library_cell k ≡ t → cond t None (module_named ms k) ≡ Some l → (is_library_cell k ≡ false) × (module_named ms k ≡ Some l) × (l.id ≡ k)
      by true q f = absurd cc
      by false q f = (q, f, found_name ms k l f)

  pub is_of : (k : List ℕ) (o : Option Module) → is_library_cell k ≡ false → module_named ms k ≡ o → instance_of ms k ≡ o
  is_of k o q e = ap (λ t. cond t None (module_named ms k)) q ∙ e

  -- one of the cells is an instance of the module
  abbrev pub IsOfCell : List Cell → Module → Type 0
  IsOfCell cells l = (c : Cell) × In c cells × (instance_of ms c.kind_name ≡ Some l)

  -- these are the modules that the cells are instances of
  record AreInstances (cells : List Cell) : Type 0 where
    pub from : (l : Module) → In l (instances_of ms cells) → IsOfCell cells l
    pub to : (l : Module) → IsOfCell cells l → In l (instances_of ms cells)

  earlier : (cells : List Cell) (c : Cell) (l : Module) → IsOfCell cells l → IsOfCell (cells ++ c ∷ []) l
  earlier cells c l h = (h.0, In-left h.0 cells (c ∷ []) h.1, h.2)

  last : (cells : List Cell) (c : Cell) (l : Module) → instance_of ms c.kind_name ≡ Some l → IsOfCell (cells ++ c ∷ []) l
  last cells c l e = (c, In-right c cells (c ∷ []) (inl refl), e)

  split : (cells : List Cell) (c : Cell) (l : Module) → IsOfCell (cells ++ c ∷ []) l → IsOfCell cells l ⊎ (instance_of ms c.kind_name ≡ Some l)
  split cells c l h =
      ⊎_elim
      (λ i. inl (h.0, i, h.2))
      (λ i. ⊎_elim (λ e. inr (ap (λ (d : Cell). instance_of ms d.kind_name) (sym e) ∙ h.2)) (λ no. absurd no) i)
      (In-cases h.0 cells (c ∷ []) h.1)

  -- one cell more
  step : (cells : List Cell) (c : Cell) → AreInstances cells → AreInstances (cells ++ c ∷ [])
  step cells c h = by (is_library_cell c.kind_name) refl
    where
      none_of : instance_of ms c.kind_name ≡ None → instances_of ms (cells ++ c ∷ []) ≡ instances_of ms cells → AreInstances (cells ++ c ∷ [])
      none_of e same = record {
        from = λ l i. earlier cells c l (h.from l (subst (In l) same i));
        to = λ l i. subst (In l) (sym same) (⊎_elim (λ k. h.to l k) (λ f. absurd (let no : None ≡ Some l = sym e ∙ f in cc)) (split cells c l i));
      }

      some_of : (f : Module) → instance_of ms c.kind_name ≡ Some f → instances_of ms (cells ++ c ∷ []) ≡ place_module f (instances_of ms cells) → AreInstances (cells ++ c ∷ [])
      some_of f e same = record {
        from = λ l i.
            ⊎_elim
            (λ g. last cells c l (e ∙ ap Some (sym g)))
            (λ j. earlier cells c l (h.from l j))
            (placed_from f (instances_of ms cells) l (subst (In l) same i));
        to = λ l i. subst (In l) (sym same) (⊎_elim (λ k. old l k) (λ g. first l (one_found (instance_of ms c.kind_name) l f g e)) (split cells c l i));
      }
        where
          first : (l : Module) → l ≡ f → In l (place_module f (instances_of ms cells))
          first l g = subst (λ z. In z (place_module f (instances_of ms cells))) (sym g) (placed_first f (instances_of ms cells))

          old : (l : Module) → IsOfCell cells l → In l (place_module f (instances_of ms cells))
          old l k =
              let of_l = of_module k.0.kind_name l k.2 in
              let of_f = of_module c.kind_name f e in
              ⊎_elim
              (λ j. j)
              (λ g. first l (one_found (module_named ms c.kind_name) l f (ap (module_named ms) (sym of_f.2 ∙ sym g ∙ of_l.2) ∙ of_l.1) of_f.1))
              (placed_to f (instances_of ms cells) l (inr (h.to l k)))

      other : is_library_cell c.kind_name ≡ false → (o : Option Module) → module_named ms c.kind_name ≡ o → AreInstances (cells ++ c ∷ [])
      other q None e =
          none_of (is_of c.kind_name None q e) (instance_more ms cells c q ∙ ap (λ o. option_map_or (λ f. place_module f (instances_of ms cells)) o (instances_of ms cells)) e)
      other q (Some f) e =
          some_of f (is_of c.kind_name (Some f) q e) (instance_more ms cells c q ∙ ap (λ o. option_map_or (λ f. place_module f (instances_of ms cells)) o (instances_of ms cells)) e)

      by : (t : Bool) → is_library_cell c.kind_name ≡ t → AreInstances (cells ++ c ∷ [])
      by true q = none_of (ap (λ t. cond t None (module_named ms c.kind_name)) q) (instance_none ms cells c q)
      by false q = other q (module_named ms c.kind_name) refl

  all_cells : (rest cells : List Cell) → AreInstances cells → AreInstances (cells ++ rest)
  all_cells [] cells h = subst AreInstances (sym (append-nil cells)) h
  all_cells (c ∷ rest) cells h = subst AreInstances (append_assoc cells (c ∷ []) rest) (all_cells rest (cells ++ c ∷ []) (step cells c h))

  are_instances : (cells : List Cell) → AreInstances cells
  are_instances cells = all_cells cells [] (record {
    from = λ l i. absurd (subst (In l) (no_cells ms) i);
    to = λ l i. absurd i.1;
  })

  pub instance_from : (cells : List Cell) (l : Module) → In l (instances_of ms cells) → IsOfCell cells l
  instance_from cells l i = (are_instances cells).from l i

  pub instance_to : (cells : List Cell) (l : Module) → IsOfCell cells l → In l (instances_of ms cells)
  instance_to cells l h = (are_instances cells).to l h

  -- each of them is the first of its name
  pub instance_named : (cells : List Cell) (l : Module) → In l (instances_of ms cells) → module_named ms l.id ≡ Some l
  instance_named cells l i =
      let h = instance_from cells l i in
      let k = of_module h.0.kind_name l h.2 in
      ap (module_named ms) k.2 ∙ k.1
