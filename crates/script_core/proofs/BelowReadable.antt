-- The modules below a module of a readable design are those of a readable design too.
use Rattle.std.proofs.Common.{◌≡◌, ℕ, suc, ◌≤◌, Bool, true, false, cond, List, [], ◌∷◌, length, map, Ordering, Less, Equal, Greater, ◌∙◌, arith}
use Rattle.std.specs.Prelude.{filter}
use Rattle.std.specs.List.{All, AllByRecursion, IsDistinct}
use Rattle.std.specs.Ordering.{nat_cmp, match_ordering}
use Rattle.std.specs.Cmp.Lexicographic.{nat_list_eq_equiv, slice_cmp}
use Rattle.std.specs.Str.{bytes_eq}
use Rattle.std.proofs.lemmas.List.Elements.{All-nil, All-cons, All-head, All-tail, All-filter}
use Rattle.rtl_sig.specs.Names.{AreDistinct}
use Rattle.rtl_ir.specs.declared.cell.Cell.{Cell}
use Rattle.rtl_ir.specs.declared.module.Design.{Design}
use Rattle.rtl_ir.specs.declared.module.Module.{Module}
use Rattle.rtl_ir.specs.Ports.{in_name_order, place_module}
use Rattle.rtl_readable.specs.Readable.{IsReadable, IsReadableModule}
use Rattle.script_core.specs.declared.word.Word.{Word}
use Rattle.script_core.specs.Reached.{below_of, leads_to, reached_of}
use Rattle.script_core.specs.Words.{flattens}

abbrev ids : List Module → List (List ℕ)
ids ms = map (λ (m : Module). m.id) ms

-- what holds of each module holds of each in order
placed_each : (P : Module → Type 0) (m : Module) (ns : List Module) → P m → All P ns → All P (place_module m ns)
placed_each P m [] h all = All-cons P m [] h (All-nil P)
placed_each P m (n ∷ ns) h all = by (placed_each P m ns h (All-tail P n ns all)) (slice_cmp nat_cmp m.id n.id)
  where
    by : All P (place_module m ns) → (o : Ordering) → All P (match_ordering o (m ∷ n ∷ ns) (m ∷ ns) (n ∷ place_module m ns))
    by more Less = All-cons P m (n ∷ ns) h all
    by more Equal = All-cons P m ns h (All-tail P n ns all)
    by more Greater = All-cons P n (place_module m ns) (All-head P n ns all) more

ordered_each : (P : Module → Type 0) (ms : List Module) → All P ms → All P (in_name_order ms)
ordered_each P [] all = All-nil P
ordered_each P (m ∷ ms) all = placed_each P m (in_name_order ms) (All-head P m ms all) (ordered_each P ms (All-tail P m ms all))

-- what holds of each name holds of each in order, and of each that is left
module _ (Q : List ℕ → Type 0) where
  placed_ids : (m : Module) (ns : List Module) → Q m.id → AllByRecursion Q (ids ns) → AllByRecursion Q (ids (place_module m ns))
  placed_ids m [] h all = (h, tt)
  placed_ids m (n ∷ ns) h all = by (placed_ids m ns h all.1) (slice_cmp nat_cmp m.id n.id)
    where
      by : AllByRecursion Q (ids (place_module m ns)) → (o : Ordering) → AllByRecursion Q (ids (match_ordering o (m ∷ n ∷ ns) (m ∷ ns) (n ∷ place_module m ns)))
      by more Less = (h, all)
      by more Equal = (h, all.1)
      by more Greater = (all.0, more)

  ordered_ids : (ms : List Module) → AllByRecursion Q (ids ms) → AllByRecursion Q (ids (in_name_order ms))
  ordered_ids [] all = tt
  ordered_ids (m ∷ ms) all = placed_ids m (in_name_order ms) all.0 (ordered_ids ms all.1)

  left_ids : (p : Module → Bool) (ms : List Module) → AllByRecursion Q (ids ms) → AllByRecursion Q (ids (filter p ms))
  left_ids p [] all = tt
  left_ids p (m ∷ ms) all = by (p m) (left_ids p ms all.1)
    where
      by : (t : Bool) → AllByRecursion Q (ids (filter p ms)) → AllByRecursion Q (ids (cond t (m ∷ filter p ms) (filter p ms)))
      by true more = (all.0, more)
      by false more = more

-- distinct names stay so
placed_distinct : (m : Module) (ns : List Module) → AllByRecursion (λ y. bytes_eq m.id y ≡ false) (ids ns) → AreDistinct (ids ns) → AreDistinct (ids (place_module m ns))
unfolding IsDistinct
placed_distinct m [] apart d = (tt, tt)
placed_distinct m (n ∷ ns) apart d = by (placed_distinct m ns apart.1 d.1) (slice_cmp nat_cmp m.id n.id)
  where
    by : AreDistinct (ids (place_module m ns)) → (o : Ordering) → AreDistinct (ids (match_ordering o (m ∷ n ∷ ns) (m ∷ ns) (n ∷ place_module m ns)))
    by more Less = (apart, d)
    by more Equal = (apart.1, d.1)
    by more Greater = (placed_ids (λ y. bytes_eq n.id y ≡ false) m ns (nat_list_eq_equiv.symm n.id m.id ∙ apart.0) d.0, more)

ordered_distinct : (ms : List Module) → AreDistinct (ids ms) → AreDistinct (ids (in_name_order ms))
unfolding IsDistinct
ordered_distinct [] d = tt
ordered_distinct (m ∷ ms) d = placed_distinct m (in_name_order ms) (ordered_ids (λ y. bytes_eq m.id y ≡ false) ms d.0) (ordered_distinct ms d.1)

left_distinct : (p : Module → Bool) (ms : List Module) → AreDistinct (ids ms) → AreDistinct (ids (filter p ms))
unfolding IsDistinct
left_distinct p [] d = tt
left_distinct p (m ∷ ms) d = by (p m) (left_distinct p ms d.1)
  where
    by : (t : Bool) → AreDistinct (ids (filter p ms)) → AreDistinct (ids (cond t (m ∷ filter p ms) (filter p ms)))
    by true more = (left_ids (λ y. bytes_eq m.id y ≡ false) p ms d.0, more)
    by false more = more

none_distinct : AreDistinct []
unfolding IsDistinct
none_distinct = tt

-- there are no more of them
placed_count : (m : Module) (ns : List Module) → length (place_module m ns) ≤ suc (length ns)
placed_count m [] = omega arith
placed_count m (n ∷ ns) = by (placed_count m ns) (slice_cmp nat_cmp m.id n.id)
  where
    by : length (place_module m ns) ≤ suc (length ns) → (o : Ordering) → length (match_ordering o (m ∷ n ∷ ns) (m ∷ ns) (n ∷ place_module m ns)) ≤ suc (suc (length ns))
    by more Less = omega arith
    by more Equal = omega arith
    by more Greater = omega (arith, more)

pub ordered_count : (ms : List Module) → length (in_name_order ms) ≤ length ms
ordered_count [] = omega arith
ordered_count (m ∷ ms) =
    let one = placed_count m (in_name_order ms) in
    let rest = ordered_count ms in
    omega (arith, one, rest)

pub left_count : (p : Module → Bool) (ms : List Module) → length (filter p ms) ≤ length ms
left_count p [] = omega arith
left_count p (m ∷ ms) = by (p m) (left_count p ms)
  where
    by : (t : Bool) → length (filter p ms) ≤ length ms → length (cond t (m ∷ filter p ms) (filter p ms)) ≤ suc (length ms)
    by true more = omega (arith, more)
    by false more = omega (arith, more)

-- the modules that cells lead to
pub readable_reached : (d : Design) → IsReadable d → (cells : List Cell) → IsReadable (record { modules = reached_of d.modules cells })
readable_reached d is cells =
    let p : Module → Bool = λ (m : Module). leads_to (length d.modules) d.modules cells m.id in
    let one = ordered_count (filter p d.modules) in
    let two = left_count p d.modules in
    let all = is.count in
    record {
      modules = ordered_each IsReadableModule (filter p d.modules) (All-filter p IsReadableModule d.modules is.modules);
      distinct = ordered_distinct (filter p d.modules) (left_distinct p d.modules is.distinct);
      count = omega (arith, one, two, all);
    }

-- the modules below a module, whatever the script is
pub readable_below : (d : Design) → IsReadable d → (script : List Word) (cells : List Cell) → IsReadable (record { modules = below_of script d.modules cells })
readable_below d is script cells = by (flattens script)
  where
    by : (t : Bool) → IsReadable (record { modules = cond t (reached_of d.modules cells) [] })
    by true = readable_reached d is cells
    by false = record { modules = All-nil IsReadableModule; distinct = none_distinct; count = omega arith }
