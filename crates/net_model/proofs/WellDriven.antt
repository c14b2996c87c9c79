-- Where each module is well driven, no bit of any flat netlist has two drivers.
use Rattle.std.proofs.Common.{◌≡◌, ℕ, zero, suc, ◌+◌, Bool, true, false, cond, List, [], ◌∷◌, ◌++◌, length, drop, Option, Some, None, inl, inr, ⊎_elim, refl, sym, ◌∙◌, ap, subst, arith, length-append, append_assoc}
use Rattle.std.specs.Prelude.{map}
use Rattle.std.specs.Str.{bytes_eq}
use Rattle.rtl_ir.specs.declared.module.Design.{Design}
use Rattle.rtl_ir.specs.declared.module.Module.{Module}
use Rattle.rtl_ir.specs.declared.ports.PortLine.{PortLine}
use Rattle.rtl_ir.specs.declared.wire.Role.TheVariants.{Input}
use Rattle.rtl_ir.specs.Ports.{ports_of}
use Rattle.rtl_ir.specs.Flat.Cell.{instances}
use Rattle.rtl_ir.specs.Flat.Driver.{Driven}
use Rattle.rtl_ir.specs.Flat.Place.{Frame, Path, Place}
use Rattle.rtl_ir.specs.Flat.Rows.{rows_of}
use Rattle.rtl_ir.specs.Flat.Tree.{named, ports_or_none, design_ports, in_module, in_instances, in_tree, tree_rows, root, role_points, places, given_rows, driven_rows}
use Rattle.net_model.specs.Lists.{In, Distinct}
use Rattle.net_model.specs.Refine.{places_of, AreWellDriven, HasOneDriver}
use Rattle.net_model.proofs.Members.{In-cases, In-map, In-mapped, map-append, apart_at, Distinct-append}
use Rattle.net_model.proofs.Instances.{instances_find}
use Rattle.net_model.proofs.Reaching.{rows_reach}
use Rattle.net_model.proofs.Relating.{role_is}

places-append : (xs ys : List Driven) → places_of (xs ++ ys) ≡ places_of xs ++ places_of ys
places-append xs ys = map-append (λ row. row.place) xs ys

place_at : (q : Place) (ds : List Driven) → In q (places_of ds) → (x : Driven) × In x ds × (q ≡ x.place)
place_at q ds i = In-mapped (λ row. row.place) q ds i

given-places : (qs : List Place) (at : ℕ) → places_of (given_rows qs at) ≡ qs
given-places [] at = refl
given-places (q ∷ qs) at = ap (λ z. q ∷ z) (given-places qs (suc at))

-- the path q is that of p, or of an instance within it
record Under (p q : Path) : Type 0 where
  front : Path
  is : q ≡ front ++ p

under_longer : (f : Frame) (p q : Path) → Under (f ∷ p) q → q ≡ p → ⊥
under_longer f p q u e =
    let n : length q ≡ length u.front + length (f ∷ p) = ap length u.is ∙ length-append u.front (f ∷ p) in
    let m : length q ≡ length p = ap length e in
    absurd (omega arith)

drop_front : (a p : Path) → drop (length a) (a ++ p) ≡ p
drop_front [] p = refl
drop_front (x ∷ a) p = drop_front a p

under_one : (f g : Frame) (p q : Path) → Under (f ∷ p) q → Under (g ∷ p) q → f ≡ g
under_one f g p q u v =
    let n : length q ≡ length u.front + length (f ∷ p) = ap length u.is ∙ length-append u.front (f ∷ p) in
    let m : length q ≡ length v.front + length (g ∷ p) = ap length v.is ∙ length-append v.front (g ∷ p) in
    let same : length u.front ≡ length v.front = omega arith in
    let a : drop (length u.front) q ≡ f ∷ p = ap (drop (length u.front)) u.is ∙ drop_front u.front (f ∷ p) in
    let b : drop (length v.front) q ≡ g ∷ p = ap (drop (length v.front)) v.is ∙ drop_front v.front (g ∷ p) in
    let both : f ∷ p ≡ g ∷ p = sym a ∙ ap (λ z. drop z q) same ∙ b in
    cc

under_in : (f : Frame) (p q : Path) → Under (f ∷ p) q → Under p q
under_in f p q u = record { front = u.front ++ f ∷ []; is = u.is ∙ sym (append_assoc u.front (f ∷ []) p) }

named_in : (ms : List Module) (id : List ℕ) (k : Module) → named ms id ≡ Some k → In k ms
named_in [] id k e = absurd (cc)
named_in (m ∷ ms) id k e =
    by (named_in ms id k) (bytes_eq m.id id) e
  where
    by : (named ms id ≡ Some k → In k ms) → (t : Bool) → cond t (Some m) (named ms id) ≡ Some k → In k (m ∷ ms)
    by later true f = let same : k ≡ m = cc in inl same
    by later false f = inr (later f)

module _ (d : Design) (fine : AreWellDriven d) where
  abbrev rows : Path → Module → List Driven
  rows = rows_of (design_ports d)

  abbrev tree : ℕ → Path → Module → List Driven
  tree = in_tree d (rows_of (design_ports d))

  -- where the rows of a module with its instances stand
  tree_under : (s : ℕ) (p : Path) (m : Module) (x : Driven) → In x (tree s p m) → Under p x.place.path
  tree_under zero p m x i = absurd i
  tree_under (suc s) p m x i =
      ⊎_elim
      (λ l. ⊎_elim
      (λ e. record { front = []; is = e })
      (λ o. record { front = o.0 ∷ []; is = o.4 })
      (rows_reach (design_ports d) p m x l).place)
      (λ r. let f = instances_find d (tree s) p x (instances m.cells) r in
      under_in f.0 p x.place.path (tree_under s (f.0 ∷ p) f.1 x f.4))
      (In-cases x (rows p m) (in_instances d (tree s) p (instances m.cells)) i)

  -- what stands at the bits of a module itself is a row of it
  tree_own : (s : ℕ) (p : Path) (m : Module) (x : Driven) → In x (tree s p m) → x.place.path ≡ p → In x (rows p m)
  tree_own zero p m x i e = absurd i
  tree_own (suc s) p m x i e =
      ⊎_elim
      (λ l. l)
      (λ r. let f = instances_find d (tree s) p x (instances m.cells) r in
      absurd (under_longer f.0 p x.place.path (tree_under s (f.0 ∷ p) f.1 x f.4) e))
      (In-cases x (rows p m) (in_instances d (tree s) p (instances m.cells)) i)

  ports_are : (id : List ℕ) (k : Module) → named d.modules id ≡ Some k → (n : PortLine) → In n (design_ports d id) → In n (ports_of k.wires)
  ports_are id k e n i = subst (λ z. In n (ports_or_none z)) e i

  -- no row of a module stands where a row of its instances does
  own_inner : (s : ℕ) (p : Path) (m : Module) (q : Place) → In q (places_of (rows p m)) → In q (places_of (in_instances d (tree s) p (instances m.cells))) → ⊥
  own_inner s p m q i j =
      let x = place_at q (rows p m) i in
      let y = place_at q (in_instances d (tree s) p (instances m.cells)) j in
      let f = instances_find d (tree s) p y.0 (instances m.cells) y.1 in
      let under : Under (f.0 ∷ p) y.0.place.path = tree_under s (f.0 ∷ p) f.1 y.0 f.4 in
      let same : x.0.place ≡ y.0.place = sym x.2 ∙ y.2 in
      ⊎_elim
      (λ e. under_longer f.0 p y.0.place.path under (ap (λ z. z.path) (sym same) ∙ e))
      (λ o. let at : y.0.place.path ≡ o.0 ∷ p = ap (λ z. z.path) (sym same) ∙ o.4 in
      let frames : f.0 ≡ o.0 = under_one f.0 o.0 p y.0.place.path under (record { front = []; is = at }) in
      let here : y.0.place.path ≡ f.0 ∷ p = at ∙ ap (λ z. z ∷ p) (sym frames) in
      let k = fine.modules f.1 (named_in d.modules f.0.module_name f.1 f.3) in
      k.apart (f.0 ∷ p) y.0 (tree_own s (f.0 ∷ p) f.1 y.0 f.4 here) here o.1 (ports_are f.0.module_name f.1 f.3 o.1 (subst (λ z. In o.1 (design_ports d z.module_name)) (sym frames) o.3)) o.6 (o.5.0, ap (λ z. z.spot) (sym same) ∙ o.5.2))
      (rows_reach (design_ports d) p m x.0 x.1).place

  in_module_under : (s : ℕ) (p : Path) (f : Frame) (x : Driven) → In x (in_module (tree s) (f ∷ p) (named d.modules f.module_name)) → Under (f ∷ p) x.place.path
  in_module_under s p f x i =
      by (named d.modules f.module_name) i
    where
      by : (k : Option Module) → In x (in_module (tree s) (f ∷ p) k) → Under (f ∷ p) x.place.path
      by None j = absurd j
      by (Some k) j = tree_under s (f ∷ p) k x j

  inner_apart : (s : ℕ) (p : Path) (fs : List Frame) → ((q : Path) (k : Module) → In k d.modules → Distinct (places_of (tree s q k))) → Distinct (map (λ f. f.name) fs) → Distinct (places_of (in_instances d (tree s) p fs))
  inner_apart s p [] h u = tt
  inner_apart s p (f ∷ fs) h u =
      subst Distinct (sym (places-append (in_module (tree s) (f ∷ p) (named d.modules f.module_name)) (in_instances d (tree s) p fs))) (Distinct-append (places_of (in_module (tree s) (f ∷ p) (named d.modules f.module_name))) (places_of (in_instances d (tree s) p fs)) (first (named d.modules f.module_name) refl) (inner_apart s p fs h u.1) (λ q i j. let x = place_at q (in_module (tree s) (f ∷ p) (named d.modules f.module_name)) i in
      let y = place_at q (in_instances d (tree s) p fs) j in
      let a = in_module_under s p f x.0 x.1 in
      let g = instances_find d (tree s) p y.0 fs y.1 in
      let b : Under (g.0 ∷ p) y.0.place.path = tree_under s (g.0 ∷ p) g.1 y.0 g.4 in
      let same : x.0.place ≡ y.0.place = sym x.2 ∙ y.2 in
      let names : f.name ≡ g.0.name = ap (λ z. z.name) (under_one f g.0 p y.0.place.path (subst (λ z. Under (f ∷ p) z.path) same a) b) in
      apart_at f.name (map (λ z. z.name) fs) u.0 g.0.name (In-map (λ z. z.name) g.0 fs g.2) names))
    where
      first : (k : Option Module) → named d.modules f.module_name ≡ k → Distinct (places_of (in_module (tree s) (f ∷ p) k))
      first None e = tt
      first (Some k) e = h (f ∷ p) k (named_in d.modules f.module_name k e)

  tree_apart : (s : ℕ) (p : Path) (m : Module) → In m d.modules → Distinct (places_of (tree s p m))
  tree_apart zero p m i = tt
  tree_apart (suc s) p m i =
      let k = fine.modules m i in
      subst Distinct (sym (places-append (rows p m) (in_instances d (tree s) p (instances m.cells)))) (Distinct-append (places_of (rows p m)) (places_of (in_instances d (tree s) p (instances m.cells))) (k.rows p) (inner_apart s p (instances m.cells) (tree_apart s) k.instances) (own_inner s p m))

  driven_apart : (m : Module) → In m d.modules → Distinct (places_of (driven_rows d m))
  driven_apart m i =
      let k = fine.modules m i in
      let qs = places (role_points Input (root m) (ports_of m.wires)) in
      subst Distinct (sym (places-append (given_rows qs 0) (tree_rows d (root m) m))) (Distinct-append (places_of (given_rows qs 0)) (places_of (tree_rows d (root m) m)) (subst Distinct (sym (given-places qs 0)) (k.inputs (root m))) (tree_apart (length d.modules) (root m) m i) (λ q j l. let y = place_at q (tree_rows d (root m) m) l in
      let z = role_is Input (root m) (ports_of m.wires) q (subst (λ a. In q a) (given-places qs 0) j) in
      let here : y.0.place.path ≡ root m = ap (λ a. a.path) (sym y.2) ∙ z.2 in
      k.apart (root m) y.0 (tree_own (length d.modules) (root m) m y.0 y.1 here) here z.0 z.1 z.4 (z.3.0, ap (λ a. a.spot) (sym y.2) ∙ z.3.2)))

pub one_driver : (d : Design) → AreWellDriven d → HasOneDriver d
one_driver d fine = record { ids = fine.ids; rows = driven_apart d fine }
