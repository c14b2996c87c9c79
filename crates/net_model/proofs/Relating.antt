-- From the rows of one module to whole designs, where bits of it may go or change their meaning.
use Rattle.std.proofs.Common.{◌≡◌, ℕ, zero, suc, Bool, true, false, cond, List, [], ◌∷◌, ◌++◌, length, Option, Some, None, ◌⊎◌, inl, inr, ⊎_elim, refl, sym, ◌∙◌, ap, subst}
use Rattle.std.specs.Prelude.{map}
use Rattle.std.specs.Str.{bytes_eq}
use Rattle.std.proofs.lemmas.Slice.Eq.{bytes_eq-Decides}
use Rattle.std.proofs.lemmas.Bool.{true≢false}
use Rattle.rtl_bits.specs.declared.bit.Bit.{Bit}
use Rattle.rtl_bits.specs.Knowledge.{Below, AreBelow, FlatBelow}
use Rattle.rtl_bits.proofs.Orders.{Below_trans, Below_from_equal}
use Rattle.rtl_ir.specs.declared.module.Design.{Design}
use Rattle.rtl_ir.specs.declared.module.Module.{Module}
use Rattle.rtl_ir.specs.declared.ports.PortLine.{PortLine}
use Rattle.rtl_ir.specs.declared.wire.Role.{Role}
use Rattle.rtl_ir.specs.declared.wire.Role.TheVariants.{Inner, Input, Output, Inout}
use Rattle.rtl_ir.specs.Ports.{ports_of}
use Rattle.rtl_ir.specs.Flat.Cell.{Ports, instances}
use Rattle.rtl_ir.specs.Flat.Driver.{Given, Driven}
use Rattle.rtl_ir.specs.Flat.Place.{Frame, frame, Path, Place, place_same}
use Rattle.rtl_ir.specs.Flat.Point.{Point, Constant, At, wire_points}
use Rattle.rtl_ir.specs.Flat.Reads.{reads}
use Rattle.rtl_ir.specs.Flat.Rows.{rows_of}
use Rattle.rtl_ir.specs.Flat.Tree.{named, ports_or_none, design_ports, in_instances, in_tree, tree_rows, tree_points, root, if_role, role_points, places, given_rows, driven_rows, undriven, undriven_rows, flat, output_places}
use Rattle.net_model.specs.declared.order.Order.{Order}
use Rattle.net_model.specs.Lists.{In, Apart, Distinct}
use Rattle.net_model.specs.Settle.{applied}
use Rattle.net_model.specs.Run.{Time, Start, Step, rows_at, row_at, run, TraceBelow}
use Rattle.net_model.specs.Valuation.{Valuation}
use Rattle.net_model.specs.Value.{value_of, meaning, meanings}
use Rattle.net_model.specs.Refine.{run_of, ModuleBelow, ModulesBelow, AgreeOn, places_of, Solved}
use Rattle.net_model.specs.Relate.{is_zero, Reached, OwnerIs, Says, IsBitOf, PortOf, Reach, Related as Locally, SameMoment as LocalMoment, RowsRelate}
use Rattle.net_model.proofs.Members.{In-left, In-right, In-cases, In-map, In-mapped, map-append, map-map}
use Rattle.net_model.proofs.Settling.{applied_keeps}
use Rattle.net_model.proofs.Running.{AlwaysMonotone, Solves, SameTime, run_below}
use Rattle.net_model.proofs.Places.{place_same-same}
use Rattle.net_model.proofs.Orders.{below as below_order, flat as flat_order}
use Rattle.net_model.proofs.Drivers.{value_on, TimeOn, meanings_kept}
use Rattle.net_model.proofs.Instances.{instances_find, instances_have, rows_agree, agree_at}
use Rattle.net_model.proofs.Own.{port_own}
use Rattle.net_model.proofs.Reaching.{rows_reach}

-- in instances of the module, what is said; elsewhere the order of knowledge
abbrev Rel : List ℕ → Says → Valuation → Place → Bit → Type 0
Rel id says w q a = (OwnerIs id q.path → says q.path w q.spot a) × ((OwnerIs id q.path → ⊥) → Below a (w q))

abbrev Related : List ℕ → Says → Valuation → Valuation → Type 0
Related id says v w = (q : Place) → Rel id says w q (v q)

abbrev SameMoment : List ℕ → Says → Time Place → Time Place → Type 0
SameMoment id says Start Start = Unit {0}
SameMoment id says (Step v x f) (Step w y g) = Related id says v w × (x ≡ y) × (f ≡ g)
SameMoment id says Start (Step w y g) = ⊥
SameMoment id says (Step v x f) Start = ⊥

-- one list of rows is part of another
abbrev pub Within : List Driven → List Driven → Type 0
Within ds es = (d : Driven) → In d ds → In d es

pub solved_within : (ds es : List Driven) → Within ds es → (t : Time Place) (w : Valuation) → Solved es t w → Solved ds t w
solved_within ds es h t w s = record { met = λ d i. s.met d (h d i); tight = λ d i. s.tight d (h d i) }

pub solved_from : (ds : List Driven) (t : Time Place) (w : Valuation) → Solves (meanings ds) t w → Solved ds t w
solved_from ds t w s = record {
  met = λ d i. Below_from_equal _ _ (s.at (meaning d) (In-map meaning d ds i));
  tight = λ d i. Below_from_equal _ _ (sym (s.at (meaning d) (In-map meaning d ds i)));
}

pub reached_within : (ds es : List Driven) → Within ds es → (n : ℕ) (t : Time Place) (w : Valuation) → Reached n es t w → Reached n ds t w
reached_within ds es h zero Start w r = solved_within ds es h Start w r
reached_within ds es h (suc n) (Step v x f) w r =
    (solved_within ds es h (Step v x f) w r.0, r.1, (r.2.0, reached_within ds es h n r.2.0 v r.2.1))
reached_within ds es h zero (Step v x f) w r = absurd r
reached_within ds es h (suc n) Start w r = absurd r

pub reached_solved : (ds : List Driven) (n : ℕ) (t : Time Place) (w : Valuation) → Reached n ds t w → Solved ds t w
reached_solved ds zero Start w r = r
reached_solved ds (suc n) (Step v x f) w r = r.0
reached_solved ds zero (Step v x f) w r = absurd r
reached_solved ds (suc n) Start w r = absurd r

-- the module that a name finds has it
pub named_id : (ms : List Module) (id : List ℕ) (k : Module) → named ms id ≡ Some k → k.id ≡ id
named_id [] id k e = absurd (cc)
named_id (m ∷ ms) id k e =
    by (named_id ms id k) (bytes_eq m.id id) refl e
  where
    by : (named ms id ≡ Some k → k.id ≡ id) → (t : Bool) → bytes_eq m.id id ≡ t → cond t (Some m) (named ms id) ≡ Some k → k.id ≡ id
    by later true q f = let same : m ≡ k = cc in ap (λ z. z.id) (sym same) ∙ (bytes_eq-Decides m.id id).0 q
    by later false q f = later f

owner_same : (a c : List ℕ) (p : Path) → OwnerIs a p → OwnerIs c p → a ≡ c
owner_same a c [] h k = absurd h
owner_same a c (f ∷ p) h k = sym h ∙ k

decide_id : (a c : List ℕ) → (a ≡ c) ⊎ (a ≡ c → ⊥)
decide_id a c =
    by (bytes_eq a c) refl
  where
    by : (t : Bool) → bytes_eq a c ≡ t → (a ≡ c) ⊎ (a ≡ c → ⊥)
    by true q = inl ((bytes_eq-Decides a c).0 q)
    by false q = inr (λ e. true≢false (sym ((bytes_eq-Decides a c).1 e) ∙ q))

-- what the input vector drives
pub given_is : (qs : List Place) (at : ℕ) (x : Driven) → In x (given_rows qs at) → In x.place qs × ((j : ℕ) × (x.driver ≡ Given j))
given_is [] at x i = absurd i
given_is (q ∷ qs) at x (inl e) = (inl (ap (λ z. z.place) e), (at, ap (λ z. z.driver) e))
given_is (q ∷ qs) at x (inr i) = let j = given_is qs (suc at) x i in (inr j.0, j.1)

places-append : (ls rs : List Point) → places (ls ++ rs) ≡ places ls ++ places rs
places-append [] rs = refl
places-append (Constant b ∷ ls) rs = places-append ls rs
places-append (At p ∷ ls) rs = ap (λ z. p ∷ z) (places-append ls rs)

-- the bits of ports of a role
pub role_is : (r : Role) (p : Path) (ns : List PortLine) (q : Place) → In q (places (role_points r p ns)) → (n : PortLine) × In n ns × (q.path ≡ p) × IsBitOf n q.spot × (n.role ≡ r)
role_is r p [] q i = absurd i
role_is r p (n ∷ ns) q i =
    ⊎_elim (λ l. by r n.role refl l) (λ z. let k = role_is r p ns q z in (k.0, inr k.1, k.2, k.3, k.4)) (In-cases q (places (if_role r n.role (wire_points p n.name 0 n.width))) (places (role_points r p ns)) (subst (In q) (places-append (if_role r n.role (wire_points p n.name 0 n.width)) (role_points r p ns)) i))
  where
    Is : Role → Type 0
    Is r = (z : PortLine) × In z (n ∷ ns) × (q.path ≡ p) × IsBitOf z q.spot × (z.role ≡ r)

    own : (r : Role) → n.role ≡ r → In q (places (wire_points p n.name 0 n.width)) → Is r
    own r e l = let o = port_own p n q l in (n, inl refl, o.0, o.1, e)

    by : (r s : Role) → n.role ≡ s → In q (places (if_role r s (wire_points p n.name 0 n.width))) → Is r
    by Inner Inner e l = own Inner e l
    by Input Input e l = own Input e l
    by Output Output e l = own Output e l
    by Inout Inout e l = own Inout e l
    by r s e l = absurd l

module _ (b c : Module) (ports : Ports) (says : Says) (r : RowsRelate b c ports says) where
  -- b against c, or another module against itself
  abbrev pub Pair : Module → Module → Type 0
  Pair m n = ((m ≡ b) × (n ≡ c)) ⊎ ((m.id ≡ b.id → ⊥) × (m ≡ n))

  abbrev pub Pairs : List Module → List Module → Type 0
  Pairs [] [] = Unit {0}
  Pairs (m ∷ ms) (n ∷ ns) = Pair m n × Pairs ms ns
  Pairs [] (n ∷ ns) = ⊥
  Pairs (m ∷ ms) [] = ⊥

  pairs_rest : (ms : List Module) → Apart b.id (map (λ m. m.id) ms) → Pairs ms ms
  pairs_rest [] a = tt
  pairs_rest (m ∷ ms) a = (inr (λ e. a.0 (sym e), refl), pairs_rest ms a.1)

  apart_body : (x : List ℕ) (pre post : List Module) → Apart x (map (λ m. m.id) (pre ++ b ∷ post)) → x ≡ b.id → ⊥
  apart_body x [] post a = a.0
  apart_body x (m ∷ pre) post a = apart_body x pre post a.1

  pub pairs_body : (pre post : List Module) → Distinct (map (λ m. m.id) (pre ++ b ∷ post)) → Pairs (pre ++ b ∷ post) (pre ++ c ∷ post)
  pairs_body [] post u = (inl (refl, refl), pairs_rest post u.0)
  pairs_body (m ∷ pre) post u = (inr (apart_body m.id pre post u.0, refl), pairs_body pre post u.1)

  pairs-length : (ms ns : List Module) → Pairs ms ns → length ms ≡ length ns
  pairs-length [] [] h = refl
  pairs-length (m ∷ ms) (n ∷ ns) h = ap suc (pairs-length ms ns h.1)
  pairs-length [] (n ∷ ns) h = absurd h
  pairs-length (m ∷ ms) [] h = absurd h

  pair_id : (m n : Module) → Pair m n → m.id ≡ n.id
  pair_id m n (inl e) = ap (λ z. z.id) e.0 ∙ r.id ∙ ap (λ z. z.id) (sym e.1)
  pair_id m n (inr e) = ap (λ z. z.id) e.1

  pair_ports : (m n : Module) → Pair m n → ports_of m.wires ≡ ports_of n.wires
  pair_ports m n (inl e) = ap (λ z. ports_of z.wires) e.0 ∙ r.ports_same ∙ ap (λ z. ports_of z.wires) (sym e.1)
  pair_ports m n (inr e) = ap (λ z. ports_of z.wires) e.1

  pair_children : (m n : Module) → Pair m n → instances m.cells ≡ instances n.cells
  pair_children m n (inl e) = ap (λ z. instances z.cells) e.0 ∙ r.children ∙ ap (λ z. instances z.cells) (sym e.1)
  pair_children m n (inr e) = ap (λ z. instances z.cells) e.1

  -- a module of b's name is b
  pair_is : (m n : Module) → Pair m n → m.id ≡ b.id → m ≡ b
  pair_is m n (inl e) q = e.0
  pair_is m n (inr e) q = absurd (e.0 q)

  abbrev PairOption : Option Module → Option Module → Type 0
  PairOption None None = Unit {0}
  PairOption (Some m) (Some n) = Pair m n
  PairOption None (Some n) = ⊥
  PairOption (Some m) None = ⊥

  named_pair : (ms ns : List Module) → Pairs ms ns → (id : List ℕ) → PairOption (named ms id) (named ns id)
  named_pair [] [] h id = tt
  named_pair (m ∷ ms) (n ∷ ns) h id =
      subst (λ z. PairOption (cond (bytes_eq m.id id) (Some m) (named ms id)) (cond (bytes_eq z id) (Some n) (named ns id))) (pair_id m n h.0) (elim (bytes_eq m.id id) as (λ t. PairOption (cond t (Some m) (named ms id)) (cond t (Some n) (named ns id))) [ true ↦ h.0 | false ↦ named_pair ms ns h.1 id ])
  named_pair [] (n ∷ ns) h id = absurd h
  named_pair (m ∷ ms) [] h id = absurd h

  option_ports : (o q : Option Module) → PairOption o q → ports_or_none o ≡ ports_or_none q
  option_ports None None h = refl
  option_ports (Some m) (Some n) h = pair_ports m n h
  option_ports None (Some n) h = absurd h
  option_ports (Some m) None h = absurd h

  option_some : (o q : Option Module) → PairOption o q → (k : Module) → o ≡ Some k → (l : Module) × (q ≡ Some l) × Pair k l
  option_some None None h k e = absurd (cc)
  option_some (Some m) (Some n) h k e = let e' : m ≡ k = cc in (n, refl, subst (λ z. Pair z n) e' h)
  option_some None (Some n) h k e = absurd h
  option_some (Some m) None h k e = absurd h

  module _ (d e : Design) (same : Pairs d.modules e.modules) (agree_d : AgreeOn ports (design_ports d) (instances b.cells)) (agree_e : AgreeOn ports (design_ports e) (instances c.cells)) where
    ports_all : design_ports d ≡ design_ports e
    ports_all = λ i id. option_ports (named d.modules id) (named e.modules id) (named_pair d.modules e.modules same id) i

    -- the ports of what b's name finds are b's
    b_port : (id : List ℕ) (n : PortLine) → In n (design_ports d id) → id ≡ b.id → In n (ports_of b.wires)
    b_port id n i q =
        by (named d.modules id) refl i
      where
        by : (o : Option Module) → named d.modules id ≡ o → In n (ports_or_none o) → In n (ports_of b.wires)
        by None f j = absurd j
        by (Some k) f j =
            let l = option_some (named d.modules id) (named e.modules id) (named_pair d.modules e.modules same id) k f in
            subst (λ z. In n (ports_of z.wires)) (pair_is k l.0 l.2 (named_id d.modules id k f ∙ q)) j

    -- the bits of the ports of instances
    port_below : (role : Role) (frames : List Frame) (p : Path) (w : Valuation) (q : Place) (a : Bit) → PortOf role (design_ports d) frames p q → Rel b.id says w q a → Below a (w q)
    port_below role frames p w q a o h =
        ⊎_elim
        (λ y. let s : says q.path w q.spot a = h.0 (subst (OwnerIs b.id) (sym o.4) y) in
        subst (λ z. Below a (w (record { path = q.path; spot = z }))) (sym o.5.2) (r.port_from q.path w o.1 (b_port o.0.module_name o.1 o.3 y) o.5.0 o.5.1 a (subst (λ z. says q.path w z a) o.5.2 s)))
        (λ n. h.1 (λ z. n (subst (OwnerIs b.id) o.4 z)))
        (decide_id o.0.module_name b.id)

    port_rel : (role : Role) (frames : List Frame) (p : Path) (w : Valuation) (q : Place) (a : Bit) → PortOf role (design_ports d) frames p q → Below a (w q) → Rel b.id says w q a
    port_rel role frames p w q a o h = (
      λ z. let y : o.0.module_name ≡ b.id = subst (OwnerIs b.id) o.4 z in
          subst (λ s. says q.path w s a) (sym o.5.2) (r.port_to q.path w o.1 (b_port o.0.module_name o.1 o.3 y) o.5.0 o.5.1 a (subst (λ s. Below a (w (record { path = q.path; spot = s }))) o.5.2 h)),
      λ _. h,
    )

    module _ (frames : List Frame) (p : Path) (plain : OwnerIs b.id p → ⊥) (w : Valuation) where
      -- what a row of another module reads
      below_from : (role : Role) (q : Place) (a : Bit) → Reach role (design_ports d) frames p q → Rel b.id says w q a → Below a (w q)
      below_from role q a (inl o) h = h.1 (λ z. plain (subst (OwnerIs b.id) o z))
      below_from role q a (inr o) h = port_below role frames p w q a o h

      -- what it drives
      rel_from : (q : Place) (a : Bit) → Reach Input (design_ports d) frames p q → Below a (w q) → Rel b.id says w q a
      rel_from q a (inl o) h = (λ z. absurd (plain (subst (OwnerIs b.id) o z)), λ _. h)
      rel_from q a (inr o) h = port_rel Input frames p w q a o h

    -- the same ports, by the table that is given
    from_given : (role : Role) (p : Path) (q : Place) → PortOf role ports (instances b.cells) p q → PortOf role (design_ports d) (instances b.cells) p q
    from_given role p q o =
        (o.0, o.1, o.2, subst (λ z. In o.1 z) (agree_at ports (design_ports d) (instances b.cells) agree_d o.0 o.2) o.3, o.4, o.5, o.6)

    locally : (p : Path) → OwnerIs b.id p → (v w : Valuation) → Related b.id says v w → Locally ports (instances b.cells) says p v w
    locally p o v w h = record {
      own = λ s. (h (record { path = p; spot = s })).0 o;
      outer = λ q g. port_below Output (instances b.cells) p w q (v q) (from_given Output p q g) (h q);
    }

    local_moment : (p : Path) → OwnerIs b.id p → (t u : Time Place) → SameMoment b.id says t u → LocalMoment ports (instances b.cells) says p t u
    local_moment p o Start Start st = tt
    local_moment p o (Step v x f) (Step w y g) st = (locally p o v w st.0, st.1, st.2)
    local_moment p o Start (Step w y g) st = absurd st
    local_moment p o (Step v x f) Start st = absurd st

    moment_on : (frames : List Frame) (p : Path) → (OwnerIs b.id p → ⊥) → (qs : List Place) → ((q : Place) → In q qs → Reach Output (design_ports d) frames p q) → (t u : Time Place) → SameMoment b.id says t u → TimeOn Below below_order qs t u
    moment_on frames p plain qs h Start Start st = tt
    moment_on frames p plain qs h (Step v x f) (Step w y g) st =
        (λ q i. below_from frames p plain w Output q (v q) (h q i) (st.0 q), st.1, st.2)
    moment_on frames p plain qs h Start (Step w y g) st = absurd st
    moment_on frames p plain qs h (Step v x f) Start st = absurd st

    own_related : (p : Path) (m n : Module) → Pair m n → OwnerIs m.id p → (t u : Time Place) → SameMoment b.id says t u → (v w : Valuation) → Related b.id says v w → (k : ℕ) → Reached k (rows_of (design_ports e) p n) u w → (x : Driven) → In x (rows_of (design_ports d) p m) → Rel b.id says w x.place (value_of x.driver t v)
    own_related p m n (inl g) o t u st v w h k s x i =
        let i' : In x (rows_of ports p b) = subst (λ z. In x z) (sym (rows_agree ports (design_ports d) p b agree_d)) (subst (λ z. In x (rows_of (design_ports d) p z)) g.0 i) in
        let into : Within (rows_of ports p c) (rows_of (design_ports e) p n) = λ y j. subst (λ z. In y (rows_of (design_ports e) p z)) (sym g.1) (subst (λ z. In y z) (rows_agree ports (design_ports e) p c agree_e) j) in
        let o' : OwnerIs b.id p = subst (λ z. OwnerIs z.id p) g.0 o in
        let y = r.rows p t u (local_moment p o' t u st) v w (locally p o' v w h) k (reached_within (rows_of ports p c) (rows_of (design_ports e) p n) into k u w s) x i' in
        ⊎_elim
        (λ q. (λ z. subst (λ l. says l w x.place.spot (value_of x.driver t v)) (sym q) (y.own q), λ z. absurd (z (subst (OwnerIs b.id) (sym q) o'))))
        (λ q. port_rel Input (instances b.cells) p w x.place (value_of x.driver t v) (from_given Input p x.place q) (y.outer q))
        (rows_reach ports p b x i').place
    own_related p m n (inr g) o t u st v w h k s x i =
        let plain : OwnerIs b.id p → ⊥ = λ y. g.0 (owner_same m.id b.id p o y) in
        let reach = rows_reach (design_ports d) p m x i in
        let i' : In x (rows_of (design_ports e) p n) = subst (λ z. In x (rows_of z p n)) ports_all (subst (λ z. In x (rows_of (design_ports d) p z)) g.1 i) in
        let low : Below (value_of x.driver t v) (value_of x.driver u w) = value_on Below below_order x.driver t u (moment_on (instances m.cells) p plain (reads x.driver) reach.read t u st) v w (λ q j. below_from (instances m.cells) p plain w Output q (v q) (reach.read q j) (h q)) in
        rel_from (instances m.cells) p plain w x.place (value_of x.driver t v) reach.place (Below_trans (value_of x.driver t v) (value_of x.driver u w) (w x.place) low ((reached_solved (rows_of (design_ports e) p n) k u w s).met x i'))

    abbrev tree_d : ℕ → Path → Module → List Driven
    tree_d = in_tree d (rows_of (design_ports d))

    abbrev tree_e : ℕ → Path → Module → List Driven
    tree_e = in_tree e (rows_of (design_ports e))

    tree_related : (s : ℕ) (p : Path) (m n : Module) → Pair m n → OwnerIs m.id p → (t u : Time Place) → SameMoment b.id says t u → (v w : Valuation) → Related b.id says v w → (k : ℕ) → Reached k (in_tree e (rows_of (design_ports e)) s p n) u w → (x : Driven) → In x (in_tree d (rows_of (design_ports d)) s p m) → Rel b.id says w x.place (value_of x.driver t v)
    tree_related zero p m n g o t u st v w h k a x i = absurd i
    tree_related (suc s) p m n g o t u st v w h k a x i =
        ⊎_elim
        (λ l. own_related p m n g o t u st v w h k (reached_within (rows_of (design_ports e) p n) (tree_e (suc s) p n) (λ y j. In-left y (rows_of (design_ports e) p n) (in_instances e (tree_e s) p (instances n.cells)) j) k u w a) x l)
        (λ z. let f = instances_find d (tree_d s) p x (instances m.cells) z in
        let i' : In f.0 (instances n.cells) = subst (In f.0) (pair_children m n g) f.2 in
        let y = option_some (named d.modules f.0.module_name) (named e.modules f.0.module_name) (named_pair d.modules e.modules same f.0.module_name) f.1 f.3 in
        let into : Within (tree_e s (f.0 ∷ p) y.0) (tree_e (suc s) p n) = λ l j. In-right l (rows_of (design_ports e) p n) (in_instances e (tree_e s) p (instances n.cells)) (instances_have e (tree_e s) p l (instances n.cells) f.0 y.0 i' y.1 j) in
        tree_related s (f.0 ∷ p) f.1 y.0 y.2 (sym (named_id d.modules f.0.module_name f.1 f.3)) t u st v w h k (reached_within (tree_e s (f.0 ∷ p) y.0) (tree_e (suc s) p n) into k u w a) x f.4)
        (In-cases x (rows_of (design_ports d) p m) (in_instances d (tree_d s) p (instances m.cells)) i)

    -- the bits of the ports of the module that is run
    module _ (m n : Module) (g : Pair m n) (w : Valuation) where
      root_below : (q : Place) (a : Bit) (z : PortLine) → In z (ports_of m.wires) → q.path ≡ root m → IsBitOf z q.spot → Rel b.id says w q a → Below a (w q)
      root_below q a z i o f h =
          ⊎_elim
          (λ y. let s : says q.path w q.spot a = h.0 (subst (OwnerIs b.id) (sym o) y) in
          subst (λ l. Below a (w (record { path = q.path; spot = l }))) (sym f.2) (r.port_from q.path w z (subst (λ l. In z (ports_of l.wires)) (pair_is m n g y) i) f.0 f.1 a (subst (λ l. says q.path w l a) f.2 s)))
          (λ y. h.1 (λ l. y (subst (OwnerIs b.id) o l)))
          (decide_id m.id b.id)

      root_rel : (q : Place) (a : Bit) (z : PortLine) → In z (ports_of m.wires) → q.path ≡ root m → IsBitOf z q.spot → Below a (w q) → Rel b.id says w q a
      root_rel q a z i o f h = (
        λ l. let y : m.id ≡ b.id = subst (OwnerIs b.id) o l in
            subst (λ s. says q.path w s a) (sym f.2) (r.port_to q.path w z (subst (λ s. In z (ports_of s.wires)) (pair_is m n g y) i) f.0 f.1 a (subst (λ s. Below a (w (record { path = q.path; spot = s }))) f.2 h)),
        λ _. h,
      )

    abbrev inputs : Module → List Driven
    inputs z = given_rows (places (role_points Input (root z) (ports_of z.wires))) 0

    given_same : (j : ℕ) (t u : Time Place) → SameMoment b.id says t u → (v w : Valuation) → Below (value_of (Given j) t v) (value_of (Given j) u w)
    given_same j Start Start st v w = tt
    given_same j (Step a x f) (Step z y g) st v w =
        value_on Below below_order (Given j) (Step a x f) (Step z y g) (λ q i. absurd i, st.1, st.2) v w (λ q i. absurd i)
    given_same j Start (Step z y g) st v w = absurd st
    given_same j (Step a x f) Start st v w = absurd st

    driven_related : (m n : Module) → Pair m n → (t u : Time Place) → SameMoment b.id says t u → (v w : Valuation) → Related b.id says v w → (k : ℕ) → Reached k (driven_rows e n) u w → (x : Driven) → In x (driven_rows d m) → Rel b.id says w x.place (value_of x.driver t v)
    driven_related m n g t u st v w h k a x i =
        ⊎_elim
        (λ l. let y = given_is (places (role_points Input (root m) (ports_of m.wires))) 0 x l in
        let z = role_is Input (root m) (ports_of m.wires) x.place y.0 in
        let l' : In x (inputs n) = subst (λ s. In x (given_rows (places (role_points Input (frame [] s ∷ []) (ports_of n.wires))) 0)) (pair_id m n g) (subst (λ s. In x (given_rows (places (role_points Input (root m) s)) 0)) (pair_ports m n g) l) in
        let met : Below (value_of x.driver u w) (w x.place) = (reached_solved (driven_rows e n) k u w a).met x (In-left x (inputs n) (tree_rows e (root n) n) l') in
        let low : Below (value_of x.driver t v) (value_of x.driver u w) = subst (λ s. Below (value_of s t v) (value_of s u w)) (sym y.1.1) (given_same y.1.0 t u st v w) in
        root_rel m n g w x.place (value_of x.driver t v) z.0 z.1 z.2 z.3 (Below_trans (value_of x.driver t v) (value_of x.driver u w) (w x.place) low met))
        (λ z. tree_related (length e.modules) (root m) m n g refl t u st v w h k (reached_within (tree_e (length e.modules) (root m) n) (driven_rows e n) (λ y j. In-right y (inputs n) (tree_rows e (root n) n) (subst (λ s. In y (tree_e (length e.modules) (frame [] s ∷ []) n)) (pair_id m n g) j)) k u w a) x (subst (λ s. In x (tree_d s (root m) m)) (pairs-length d.modules e.modules same) z))
        (In-cases x (inputs m) (tree_rows d (root m) m) i)

    -- a bit that nothing drives is x, which is allowed everywhere
    flat_related : (m n : Module) → Pair m n → (t u : Time Place) → SameMoment b.id says t u → (v w : Valuation) → Related b.id says v w → (k : ℕ) → Reached k (driven_rows e n) u w → (x : Driven) → In x (flat d m) → Rel b.id says w x.place (value_of x.driver t v)
    flat_related m n g t u st v w h k a x i =
        ⊎_elim
        (λ l. driven_related m n g t u st v w h k a x l)
        (λ l. let y = In-mapped undriven x _ l in
        subst (λ z. Rel b.id says w z.place (value_of z.driver t v)) (sym y.2) (λ o. r.unknown y.0.path w y.0.spot, λ o. tt))
        (In-cases x (driven_rows d m) (undriven_rows (driven_rows d m) (places (tree_points d (root m) m))) i)

    -- what was before is reached
    Was : Module → Bool → Valuation → Type 0
    Was n first w = (k : ℕ) × (first ≡ is_zero k) × ((t : Time Place) × Reached k (driven_rows e n) t w)

    moment : (n : Module) (t u : Time Place) → SameTime (Related b.id says) (Was n) t u → SameMoment b.id says t u
    moment n Start Start h = tt
    moment n (Step v x f) (Step w y g) h = (h.0, h.2, h.3)
    moment n Start (Step w y g) h = absurd h
    moment n (Step v x f) Start h = absurd h

    now_reached : (n : Module) (t u : Time Place) → SameTime (Related b.id says) (Was n) t u → (w : Valuation) → Solves (meanings (driven_rows e n)) u w → (k : ℕ) × Reached k (driven_rows e n) u w
    unfolding Was
    now_reached n Start Start h w s = (zero, solved_from (driven_rows e n) Start w s)
    now_reached n (Step v x f) (Step a y g) h w s =
        (suc h.1.0, (solved_from (driven_rows e n) (Step a y g) w s, h.1.1, h.1.2))
    now_reached n Start (Step a y g) h w s = absurd h
    now_reached n (Step v x f) Start h w s = absurd h

    kept : (m n : Module) → Pair m n → (t u : Time Place) → SameTime (Related b.id says) (Was n) t u → (v w : Valuation) → Solves (meanings (driven_rows e n)) u w → Related b.id says v w → Related b.id says (applied place_same (rows_at t (meanings (flat d m))) v) w
    kept m n g t u st v w s h =
        let a = now_reached n t u st w s in
        applied_keeps place_same place_same-same (rows_at t (meanings (flat d m))) v (λ q z. Rel b.id says w q z) (λ q. (λ o. r.unknown q.path w q.spot, λ o. tt)) (λ q i. let k = In-mapped (λ z. row_at t (meaning z)) q (flat d m) (subst (In q) (map-map meaning (row_at t) (flat d m)) i) in subst (λ z. Rel b.id says w z.bit (z.value v)) (sym k.2) (flat_related m n g t u (moment n t u st) v w h a.0 a.1 k.0 k.1))

    seen : (m n : Module) → Pair m n → (os : List Place) → ((o : Place) → In o os → (z : PortLine) × In z (ports_of m.wires) × (o.path ≡ root m) × IsBitOf z o.spot) → (v w : Valuation) → Related b.id says v w → AreBelow (map v os) (map w os)
    seen m n g [] is v w h = tt
    seen m n g (o ∷ os) is v w h =
        let k = is o (inl refl) in
        (root_below m n g w o (v o) k.0 k.1 k.2 k.3 (h o), seen m n g os (λ q i. is q (inr i)) v w h)

    module_below : (m n : Module) → Pair m n → Distinct (places_of (driven_rows e n)) → ModuleBelow d e m n
    unfolding Was
    module_below m n g u =
        let more : List Driven = undriven_rows (driven_rows e n) (places (tree_points e (root n) n)) in
        let parts : meanings (flat e n) ≡ meanings (driven_rows e n) ++ meanings more = map-append meaning (driven_rows e n) more in
        let is : (o : Place) → In o (output_places m) → (z : PortLine) × In z (ports_of m.wires) × (o.path ≡ root m) × IsBitOf z o.spot = λ o i. let z = role_is Output (root m) (ports_of m.wires) o i in (z.0, z.1, z.2, z.3) in
        let below : (order : Order) (stimulus : List (List Bit)) → TraceBelow (run_of order d m stimulus) (run place_same (meanings (driven_rows e n) ++ meanings more) (output_places m) order stimulus) = run_below place_same place_same place_same-same (Related b.id says) (Was n) (meanings (flat d m)) (meanings (driven_rows e n)) (meanings more) (output_places m) (output_places m) (subst (λ z. AlwaysMonotone FlatBelow z) parts (meanings_kept FlatBelow flat_order (flat e n))) (subst Distinct (sym (map-map meaning (λ z. z.bit) (driven_rows e n))) u) (λ w s. (zero, refl, (Start, solved_from (driven_rows e n) Start w s))) (λ v x f w q s. (suc q.0, refl, (Step v x f, (solved_from (driven_rows e n) (Step v x f) w s, q.1, q.2)))) (λ w q. (λ o. r.unknown q.path w q.spot, λ o. tt)) (kept m n g) (seen m n g (output_places m) is) in
        let outs : output_places m ≡ output_places n = ap (λ z. places (role_points Output (frame [] z ∷ []) (ports_of m.wires))) (pair_id m n g) ∙ ap (λ z. places (role_points Output (root n) z)) (pair_ports m n g) in
        (pair_id m n g, pair_ports m n g, λ order stimulus. subst (λ z. TraceBelow (run_of order d m stimulus) (run place_same (meanings (flat e n)) z order stimulus)) outs (subst (λ z. TraceBelow (run_of order d m stimulus) (run place_same z (output_places m) order stimulus)) (sym parts) (below order stimulus)))

    pub modules_below : (ms ns : List Module) → Pairs ms ns → ((n : Module) → In n ns → Distinct (places_of (driven_rows e n))) → ModulesBelow d e ms ns
    modules_below [] [] h u = tt
    modules_below (m ∷ ms) (n ∷ ns) h u =
        (module_below m n h.0 (u n (inl refl)), modules_below ms ns h.1 (λ z i. u z (inr i)))
    modules_below [] (n ∷ ns) h u = absurd h
    modules_below (m ∷ ms) [] h u = absurd h
