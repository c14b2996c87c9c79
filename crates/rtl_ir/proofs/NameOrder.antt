-- Modules in order of their names: what one more name adds.
use Rattle.std.proofs.Common.{◌≡◌, ℕ, ◌+◌, ◌<◌, ◌≤◌, Bool, true, false, not, cond, ◌&&◌, ◌||◌, List, [], ◌∷◌, ◌++◌, length, get_or, take, Option, Some, None, filter, refl, sym, ◌∙◌, ap, add-one}
use Rattle.std.proofs.Math.Bool.{or-false, or-true}
use Rattle.std.proofs.Math.Seq.{take-suc}
use Rattle.std.proofs.lemmas.List.{take_all}
use Rattle.std.proofs.lemmas.List.Folds.{list_any-append}
use Rattle.std.specs.List.{list_any}
use Rattle.std.specs.Option.{option_map_or}
use Rattle.std.specs.Cmp.Lexicographic.{slice_cmp}
use Rattle.std.specs.Ordering.{nat_cmp, match_ordering, ordering_reverse}
use Rattle.std.specs.Str.{bytes_eq}
use Rattle.std.specs.declared.cmp.Ordering.{Ordering}
use Rattle.std.specs.declared.cmp.Ordering.TheVariants.{Less, Equal, Greater}
use Rattle.std.proofs.lemmas.Cmp.{nat_list_cmp_total, tied_itself}
use Rattle.std.proofs.lemmas.Slice.Eq.{bytes_eq-Decides}
use Rattle.rtl_ir.specs.declared.cell.Cell.{Cell}
use Rattle.rtl_ir.specs.declared.module.Module.{Module}
use Rattle.rtl_ir.specs.Ports.{place_module, in_name_order, instances_of, instantiates, is_library_cell}
use Rattle.rtl_ir.specs.ModuleTables.{instance_of}
use Rattle.rtl_ir.specs.Types.{module_named}
use Rattle.rtl_ir.proofs.PortLemmas.{same_name}

abbrev compared : List ℕ → List ℕ → Ordering
compared x y = slice_cmp nat_cmp x y

-- of two modules of one name the later one that is placed stays
place_same : (m f : Module) → m.id ≡ f.id → (ms : List Module) → place_module m (place_module f ms) ≡ place_module m ms
place_same m f e ms = go ms
  where
    tie : compared m.id f.id ≡ Equal
    tie = ap (compared m.id) (sym e) ∙ tied_itself nat_list_cmp_total m.id

    go : (ms : List Module) → place_module m (place_module f ms) ≡ place_module m ms
    go [] = rw tie refl
    go (n ∷ ns) = by (compared f.id n.id) refl (go ns)
      where
        by : (c : Ordering) → compared f.id n.id ≡ c → place_module m (place_module f ns) ≡ place_module m ns
            → place_module m (match_ordering c (f ∷ n ∷ ns) (f ∷ ns) (n ∷ place_module f ns)) ≡ match_ordering (compared m.id n.id) (m ∷ n ∷ ns) (m ∷ ns) (n ∷ place_module m ns)
        by Less h ih = let k : compared m.id n.id ≡ Less = ap (λ x. compared x n.id) e ∙ h in rw (tie, k) refl
        by Equal h ih = let k : compared m.id n.id ≡ Equal = ap (λ x. compared x n.id) e ∙ h in rw (tie, k) refl
        by Greater h ih = let k : compared m.id n.id ≡ Greater = ap (λ x. compared x n.id) e ∙ h in rw k (ap (λ l. n ∷ l) ih)

-- two modules of different names are placed in either order
place_less : (m f : Module) → compared m.id f.id ≡ Less → (ms : List Module) → place_module m (place_module f ms) ≡ place_module f (place_module m ms)
place_less m f lt ms = go ms
  where
    gt : compared f.id m.id ≡ Greater
    gt = nat_list_cmp_total.antisymm f.id m.id ∙ ap ordering_reverse lt

    go : (ms : List Module) → place_module m (place_module f ms) ≡ place_module f (place_module m ms)
    go [] = rw (lt, gt) refl
    go (n ∷ ns) = by (compared m.id n.id) refl (compared f.id n.id) refl (go ns)
      where
        below : (a : Ordering) → compared m.id n.id ≡ a → (b : Ordering) → compared f.id n.id ≡ b → compared m.id n.id ≡ Less
            → place_module m (match_ordering b (f ∷ n ∷ ns) (f ∷ ns) (n ∷ place_module f ns)) ≡ place_module f (match_ordering Less (m ∷ n ∷ ns) (m ∷ ns) (n ∷ place_module m ns))
            → place_module m (match_ordering b (f ∷ n ∷ ns) (f ∷ ns) (n ∷ place_module f ns)) ≡ place_module f (match_ordering a (m ∷ n ∷ ns) (m ∷ ns) (n ∷ place_module m ns))
        below a ea b eb l t =
            t ∙ ap (λ o. place_module f (match_ordering o (m ∷ n ∷ ns) (m ∷ ns) (n ∷ place_module m ns))) (sym l ∙ ea)

        by : (a : Ordering) → compared m.id n.id ≡ a → (b : Ordering) → compared f.id n.id ≡ b → place_module m (place_module f ns) ≡ place_module f (place_module m ns)
            → place_module m (match_ordering b (f ∷ n ∷ ns) (f ∷ ns) (n ∷ place_module f ns)) ≡ place_module f (match_ordering a (m ∷ n ∷ ns) (m ∷ ns) (n ∷ place_module m ns))
        by a ea Less eb ih = below a ea Less eb (nat_list_cmp_total.trans m.id f.id n.id lt eb) (rw (lt, gt, eb) refl)
        by a ea Equal eb ih =
            let back : compared n.id m.id ≡ Greater = sym (nat_list_cmp_total.congr f.id n.id m.id eb) ∙ gt in
            below a ea Equal eb (nat_list_cmp_total.antisymm m.id n.id ∙ ap ordering_reverse back) (rw (lt, gt, eb) refl)
        by Less ea Greater eb ih = rw (ea, gt, eb) refl
        by Equal ea Greater eb ih = rw (ea, gt) refl
        by Greater ea Greater eb ih = rw (ea, eb) (ap (λ l. n ∷ l) ih)

place_swap : (m f : Module) → bytes_eq m.id f.id ≡ false → (ms : List Module) → place_module m (place_module f ms) ≡ place_module f (place_module m ms)
place_swap m f other ms = by (compared m.id f.id) refl
  where
    by : (o : Ordering) → compared m.id f.id ≡ o → place_module m (place_module f ms) ≡ place_module f (place_module m ms)
    by Less h = place_less m f h ms
    by Equal h = absurd (cc (sym other ∙ (bytes_eq-Decides m.id f.id).1 (same_name m.id f.id h)))
    by Greater h = sym (place_less f m (nat_list_cmp_total.antisymm f.id m.id ∙ ap ordering_reverse h) ms)

-- a module that has a name
named_so : (ms : List Module) (t : List ℕ) (f : Module) → module_named ms t ≡ Some f → f.id ≡ t
named_so [] t f h = absurd (cc)
named_so (m ∷ ms) t f h = by (bytes_eq m.id t) refl h (named_so ms t f)
  where
    by : (b : Bool) → bytes_eq m.id t ≡ b → cond b (Some m) (module_named ms t) ≡ Some f → (module_named ms t ≡ Some f → f.id ≡ t) → f.id ≡ t
    by true e h ih = let same : m ≡ f = cc in ap (λ (n : Module). n.id) (sym same) ∙ (bytes_eq-Decides m.id t).0 e
    by false e h ih = ih h

-- what is asked for among modules, in order of their names
abbrev asked : (List ℕ → Bool) → List Module → List Module
asked p ms = in_name_order (filter (λ (m : Module). p m.id) ms)

-- with one name more among those that are asked for, the first module of the name is placed among the others
module _ (p q : List ℕ → Bool) (t : List ℕ) (off : (id : List ℕ) → bytes_eq id t ≡ false → q id ≡ p id) (on : q t ≡ true) where
  over : (m : Module) (ms : List Module) → m.id ≡ t → (o : Option Module) → ((f : Module) → o ≡ Some f → f.id ≡ t)
      → place_module m (option_map_or (λ f. place_module f ms) o ms) ≡ place_module m ms
  over m ms e None so = refl
  over m ms e (Some f) so = place_same m f (e ∙ sym (so f refl)) ms

  again : (m : Module) (ms : List Module) (c : Bool) → place_module m (asked p ms) ≡ place_module m (in_name_order (cond c (m ∷ filter (λ (m : Module). p m.id) ms) (filter (λ (m : Module). p m.id) ms)))
  again m ms false = refl
  again m ms true = sym (place_same m m refl (asked p ms))

  swapped : (m : Module) (ms : List Module) → bytes_eq m.id t ≡ false → (o : Option Module) → ((f : Module) → o ≡ Some f → f.id ≡ t)
      → place_module m (option_map_or (λ f. place_module f ms) o ms) ≡ option_map_or (λ f. place_module f (place_module m ms)) o (place_module m ms)
  swapped m ms e None so = refl
  swapped m ms e (Some f) so = place_swap m f (ap (bytes_eq m.id) (so f refl) ∙ e) ms

  pub asked_more : (ms : List Module) → asked q ms ≡ option_map_or (λ f. place_module f (asked p ms)) (module_named ms t) (asked p ms)
  asked_more [] = refl
  asked_more (m ∷ ms) = by (bytes_eq m.id t) refl (asked_more ms)
    where
      by : (b : Bool) → bytes_eq m.id t ≡ b → asked q ms ≡ option_map_or (λ f. place_module f (asked p ms)) (module_named ms t) (asked p ms)
          → in_name_order (cond (q m.id) (m ∷ filter (λ (m : Module). q m.id) ms) (filter (λ (m : Module). q m.id) ms))
          ≡ option_map_or (λ f. place_module f (asked p (m ∷ ms))) (cond b (Some m) (module_named ms t)) (asked p (m ∷ ms))
      by true e ih =
          let same = (bytes_eq-Decides m.id t).0 e in
          ap (λ c. in_name_order (cond c (m ∷ filter (λ (m : Module). q m.id) ms) (filter (λ (m : Module). q m.id) ms))) (ap q same ∙ on)
          ∙ ap (place_module m) ih ∙ over m (asked p ms) same (module_named ms t) (named_so ms t) ∙ again m ms (p m.id)
      by false e ih =
          ap (λ c. in_name_order (cond c (m ∷ filter (λ (m : Module). q m.id) ms) (filter (λ (m : Module). q m.id) ms))) (off m.id e)
          ∙ kept (p m.id)
        where
          kept : (c : Bool) → in_name_order (cond c (m ∷ filter (λ (m : Module). q m.id) ms) (filter (λ (m : Module). q m.id) ms))
              ≡ option_map_or (λ f. place_module f (in_name_order (cond c (m ∷ filter (λ (m : Module). p m.id) ms) (filter (λ (m : Module). p m.id) ms)))) (module_named ms t) (in_name_order (cond c (m ∷ filter (λ (m : Module). p m.id) ms) (filter (λ (m : Module). p m.id) ms)))
          kept false = ih
          kept true = ap (place_module m) ih ∙ swapped m (asked p ms) e (module_named ms t) (named_so ms t)

-- one cell more
one_more : (cells : List Cell) (c : Cell) (id : List ℕ)
    → instantiates (cells ++ c ∷ []) id ≡ (not (is_library_cell id) && (list_any (λ (d : Cell). bytes_eq id d.kind_name) cells || bytes_eq id c.kind_name))
one_more cells c id =
    ap (λ b. not (is_library_cell id) && b) (list_any-append (λ (d : Cell). bytes_eq id d.kind_name) cells (c ∷ []) ∙ ap (λ b. list_any (λ (d : Cell). bytes_eq id d.kind_name) cells || b) (or-false (bytes_eq id c.kind_name)))

-- another name is the type of one of the cells where it was
same_others : (cells : List Cell) (c : Cell) (id : List ℕ) → bytes_eq id c.kind_name ≡ false → instantiates (cells ++ c ∷ []) id ≡ instantiates cells id
same_others cells c id e = one_more cells c id ∙ ap (λ b. not (is_library_cell id) && (list_any (λ (d : Cell). bytes_eq id d.kind_name) cells || b)) e ∙ ap (λ b. not (is_library_cell id) && b) (or-false (list_any (λ (d : Cell). bytes_eq id d.kind_name) cells))

-- a cell that is an instance of a module places it
pub instance_more : (ms : List Module) (cells : List Cell) (c : Cell) → is_library_cell c.kind_name ≡ false
    → instances_of ms (cells ++ c ∷ []) ≡ option_map_or (λ f. place_module f (instances_of ms cells)) (module_named ms c.kind_name) (instances_of ms cells)
instance_more ms cells c other =
    asked_more (instantiates cells) (instantiates (cells ++ c ∷ [])) c.kind_name (same_others cells c)
    (one_more cells c c.kind_name ∙ ap (λ b. not b && (list_any (λ (d : Cell). bytes_eq c.kind_name d.kind_name) cells || bytes_eq c.kind_name c.kind_name)) other
    ∙ ap (λ b. list_any (λ (d : Cell). bytes_eq c.kind_name d.kind_name) cells || b) ((bytes_eq-Decides c.kind_name c.kind_name).1 refl) ∙ or-true (list_any (λ (d : Cell). bytes_eq c.kind_name d.kind_name) cells)) ms

-- a cell of the library is an instance of none
pub instance_none : (ms : List Module) (cells : List Cell) (c : Cell) → is_library_cell c.kind_name ≡ true → instances_of ms (cells ++ c ∷ []) ≡ instances_of ms cells
instance_none ms cells c own = λ i. in_name_order (filter (λ (m : Module). same m.id i) ms)
  where
    same : (id : List ℕ) → instantiates (cells ++ c ∷ []) id ≡ instantiates cells id
    same id = by (bytes_eq id c.kind_name) refl
      where
        by : (b : Bool) → bytes_eq id c.kind_name ≡ b → instantiates (cells ++ c ∷ []) id ≡ instantiates cells id
        by false e = same_others cells c id e
        by true e =
            let lib : is_library_cell id ≡ true = ap is_library_cell ((bytes_eq-Decides id c.kind_name).0 e) ∙ own in
            ap (λ b. not b && list_any (λ (d : Cell). bytes_eq id d.kind_name) (cells ++ c ∷ [])) lib ∙ sym (ap (λ b. not b && list_any (λ (d : Cell). bytes_eq id d.kind_name) cells) lib)

-- a cell places the module that it is an instance of
instance_step : (ms : List Module) (cells : List Cell) (c : Cell)
    → instances_of ms (cells ++ c ∷ []) ≡ option_map_or (λ f. place_module f (instances_of ms cells)) (instance_of ms c.kind_name) (instances_of ms cells)
instance_step ms cells c = by (is_library_cell c.kind_name) refl
  where
    by : (b : Bool) → is_library_cell c.kind_name ≡ b
        → instances_of ms (cells ++ c ∷ []) ≡ option_map_or (λ f. place_module f (instances_of ms cells)) (instance_of ms c.kind_name) (instances_of ms cells)
    by true e = instance_none ms cells c e ∙ ap (λ b. option_map_or (λ f. place_module f (instances_of ms cells)) (cond b None (module_named ms c.kind_name)) (instances_of ms cells)) (sym e)
    by false e = instance_more ms cells c e ∙ ap (λ b. option_map_or (λ f. place_module f (instances_of ms cells)) (cond b None (module_named ms c.kind_name)) (instances_of ms cells)) (sym e)

-- the instances with the next cell
pub instance_next : (ms : List Module) (cells : List Cell) (i : ℕ) (c : Cell) → i < length cells → c ≡ get_or cells i c → (name : List ℕ) → name ≡ c.kind_name
    → (o : Option Module) → o ≡ instance_of ms name
    → instances_of ms (take (i + 1) cells) ≡ option_map_or (λ f. place_module f (instances_of ms (take i cells))) o (instances_of ms (take i cells))
instance_next ms cells i c inside is name named o of =
    let more : take (i + 1) cells ≡ take i cells ++ c ∷ [] = ap (λ n. take n cells) (add-one i) ∙ take-suc cells i c inside ∙ ap (λ d. take i cells ++ d ∷ []) (sym is) in
    ap (instances_of ms) more ∙ instance_step ms (take i cells) c
    ∙ ap (λ o. option_map_or (λ f. place_module f (instances_of ms (take i cells))) o (instances_of ms (take i cells))) (sym (of ∙ ap (instance_of ms) named))

-- all cells are those up to the end
pub all_cells : (ms : List Module) (cells : List Cell) (i : ℕ) → length cells ≤ i → instances_of ms (take i cells) ≡ instances_of ms cells
all_cells ms cells i past = ap (instances_of ms) (take_all i cells past)

and_false : (b : Bool) → (b && false) ≡ false
and_false true = refl
and_false false = refl

-- no cell is an instance
pub no_cells : (ms : List Module) → instances_of ms [] ≡ []
no_cells [] = refl
no_cells (m ∷ ms) =
    ap (λ b. in_name_order (cond b (m ∷ filter (λ (n : Module). instantiates [] n.id) ms) (filter (λ (n : Module). instantiates [] n.id) ms))) (and_false (not (is_library_cell m.id)))
    ∙ no_cells ms
