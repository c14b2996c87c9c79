-- One replacement of an instance: the rows of the design before it move into those of the design after it.
use Rattle.std.proofs.Common.{◌≡◌, ℕ, zero, suc, Bool, true, false, cond, ◌||◌, List, [], ◌∷◌, ◌++◌, length, map, Some, inl, inr, ⊎_elim, refl, sym, ◌∙◌, ap, subst}
use Rattle.std.specs.Str.{bytes_eq}
use Rattle.std.proofs.lemmas.Bool.{true≢false}
use Rattle.rtl_ir.specs.declared.cell.Cell.{Cell}
use Rattle.rtl_ir.specs.declared.module.Design.{Design}
use Rattle.rtl_ir.specs.declared.module.Module.{Module}
use Rattle.rtl_ir.specs.declared.wire.Role.TheVariants.{Input}
use Rattle.rtl_ir.specs.Build.{Building}
use Rattle.rtl_ir.specs.Flat.Cell.{instances}
use Rattle.rtl_ir.specs.Flat.Driver.{Driven, Given}
use Rattle.rtl_ir.specs.Flat.Place.{Frame, frame, Path, Place}
use Rattle.rtl_ir.specs.Flat.Reads.{reads}
use Rattle.rtl_ir.specs.Flat.Rows.{rows_of}
use Rattle.rtl_ir.specs.Flat.Tree.{design_ports, driven_rows, given_rows, in_tree, named, places, ports_or_none, role_points, root, tree_rows}
use Rattle.rtl_ir.specs.Ports.{ports_of}
use Rattle.net_model.specs.Below.{LeadsWithin}
use Rattle.net_model.specs.Lists.{Apart, Distinct, In}
use Rattle.net_model.specs.Refine.{with_body}
use Rattle.net_model.specs.Relate.{OwnerIs}
use Rattle.net_model.specs.Within.{AreInner}
use Rattle.net_model.proofs.Composing.{ports_swapped}
use Rattle.net_model.proofs.Grown.{ports_more}
use Rattle.net_model.proofs.Members.{apart_at, In-cases, In-left, In-map, In-right}
use Rattle.net_model.proofs.Relating.{given_is, named_id, role_is}
use Rattle.flat_pass.proofs.MovedRuns.{GoesInto}
use Rattle.flat_pass.proofs.Closed.{stored}
use Rattle.flat_pass.proofs.Fixed.{row_stays}
use Rattle.flat_pass.proofs.Paths.{Melt, go, go_path, is_beneath, not_owner, outside, path_stays, place_stays}
use Rattle.flat_pass.proofs.TreeMoved.{Melts, Twin, goes_more, tree_goes}
use Rattle.flat_pass.proofs.Partners.{Paired, WireCopied, CellCopied, bytes_apart, bytes_same, cells_paired, frame_names, instance_cell, instance_in, kind_same, paired_back, store_name, wires_paired}
use Rattle.net_model.proofs.Swapping.{instances-append}
use Rattle.flat_pass.proofs.Taking.{Split, taken_in, taken_instances}
use Rattle.flat_pass.proofs.Melting.{IsBare, unchanged_goes}
use Rattle.flat_pass.proofs.Twice.{DesignGoes, ModuleGoes}
use Rattle.flat_pass.proofs.Melted.{HasNames, IsPlain, after, around, cells_new, copying_new, inner_frames, inner_rows_go, melt, melt_sinks, own_frames, own_goes, wires_new}

-- modules that names find
pub named_in : (ms : List Module) (id : List ℕ) (k : Module) → named ms id ≡ Some k → In k ms
named_in [] id k e = absurd (cc)
named_in (m ∷ ms) id k e = by (named_in ms id k) (bytes_eq m.id id) e
  where
    by : (named ms id ≡ Some k → In k ms) → (t : Bool) → cond t (Some m) (named ms id) ≡ Some k → In k (m ∷ ms)
    by later true f = let same : k ≡ m = cc in inl same
    by later false f = inr (later f)

in_body : (pre : List Module) (b : Module) (post : List Module) → In b (pre ++ b ∷ post)
in_body [] b post = inl refl
in_body (m ∷ pre) b post = inr (in_body pre b post)

named_body : (pre : List Module) (b : Module) (post : List Module) → Distinct (map (λ (m : Module). m.id) (pre ++ b ∷ post)) → named (pre ++ b ∷ post) b.id ≡ Some b
named_body [] b post d = ap (λ t. cond t (Some b) (named post b.id)) (bytes_same b.id)
named_body (m ∷ pre) b post d =
    ap (λ t. cond t (Some m) (named (pre ++ b ∷ post) b.id)) (bytes_apart m.id b.id (apart_at m.id (map (λ (z : Module). z.id) (pre ++ b ∷ post)) d.0 b.id (In-map (λ (z : Module). z.id) b (pre ++ b ∷ post) (in_body pre b post)))) ∙ named_body pre b post d.1

length_body : (pre : List Module) (b c : Module) (post : List Module) → length (pre ++ b ∷ post) ≡ length (pre ++ c ∷ post)
length_body [] b c post = refl
length_body (m ∷ pre) b c post = ap suc (length_body pre b c post)

-- what a module reaches
pub leads_named : (d : Design) (steps : ℕ) (m n : Module) → LeadsWithin steps d m n → named d.modules n.id ≡ Some n
leads_named d zero m n h = absurd h
leads_named d (suc steps) m n h =
    ⊎_elim
    (λ e. subst (λ z. named d.modules z.id ≡ Some z) e (ap (named d.modules) (named_id d.modules h.0.module_name h.1 h.3) ∙ h.3))
    (λ r. leads_named d steps h.1 n r)
    h.4

pub leads_more : (d : Design) (steps : ℕ) (b m k : Module) (f : Frame) → LeadsWithin steps d b m → In f (instances m.cells) → named d.modules f.module_name ≡ Some k → LeadsWithin (suc steps) d b k
leads_more d zero b m k f h i e = absurd h
leads_more d (suc steps) b m k f h i e = (
  h.0,
  h.1,
  h.2,
  h.3,
  inr (⊎_elim (λ s. (f, k, subst (λ z. In f (instances z.cells)) (sym s) i, e, inl refl)) (λ r. leads_more d steps h.1 m k f r i e) h.4),
)

owner : (u v : List ℕ) (q : Path) → OwnerIs u q → OwnerIs v q → u ≡ v
owner u v [] i j = absurd i
owner u v (f ∷ q) i j = sym i ∙ j

-- designs that differ in one module alone
module _ (b c : Module) (id : b.id ≡ c.id) where
  pub twin_named : (pre post : List Module) → Distinct (map (λ (m : Module). m.id) (pre ++ b ∷ post)) → (name : List ℕ) (k : Module) → named (pre ++ b ∷ post) name ≡ Some k → (l : Module) × (named (pre ++ c ∷ post) name ≡ Some l) × Twin b c k l
  twin_named [] post d name k e = by (bytes_eq b.id name) refl e
    where
      by : (t : Bool) → bytes_eq b.id name ≡ t → cond t (Some b) (named post name) ≡ Some k → (l : Module) × (named (c ∷ post) name ≡ Some l) × Twin b c k l
      by true q g =
          let same : k ≡ b = cc in
          (c, ap (λ t. cond t (Some c) (named post name)) (ap (λ z. bytes_eq z name) (sym id) ∙ q), inl (same, refl))
      by false q g = (
        k,
        ap (λ t. cond t (Some c) (named post name)) (ap (λ z. bytes_eq z name) (sym id) ∙ q) ∙ g,
        inr (λ s. apart_at b.id (map (λ (m : Module). m.id) post) d.0 k.id (In-map (λ (m : Module). m.id) k post (named_in post name k g)) (sym s), refl),
      )
  twin_named (m ∷ pre) post d name k e =
      by (twin_named pre post d.1 name k) (bytes_eq m.id name) e
    where
      by : (named (pre ++ b ∷ post) name ≡ Some k → (l : Module) × (named (pre ++ c ∷ post) name ≡ Some l) × Twin b c k l) → (t : Bool) → cond t (Some m) (named (pre ++ b ∷ post) name) ≡ Some k → (l : Module) × (cond t (Some m) (named (pre ++ c ∷ post) name) ≡ Some l) × Twin b c k l
      by later true g =
          let same : k ≡ m = cc in
          (m, refl, inr (λ s. apart_at m.id (map (λ (z : Module). z.id) (pre ++ b ∷ post)) d.0 b.id (In-map (λ (z : Module). z.id) b (pre ++ b ∷ post) (in_body pre b post)) (ap (λ (z : Module). z.id) (sym same) ∙ s), same))
      by later false g = later g

  -- any other name finds the same module
  pub named_other : (pre post : List Module) (name : List ℕ) → (name ≡ b.id → ⊥) → named (pre ++ c ∷ post) name ≡ named (pre ++ b ∷ post) name
  named_other [] post name n =
      let no : bytes_eq b.id name ≡ false = bytes_apart b.id name (λ e. n (sym e)) in
      ap (λ t. cond t (Some c) (named post name)) (ap (λ z. bytes_eq z name) (sym id) ∙ no) ∙ ap (λ t. cond t (Some b) (named post name)) (sym no)
  named_other (m ∷ pre) post name n = ap (λ z. cond (bytes_eq m.id name) (Some m) z) (named_other pre post name n)

  twins_rest : (ms : List Module) → Apart b.id (map (λ (m : Module). m.id) ms) → Paired (Twin b c) ms ms
  twins_rest [] a = tt
  twins_rest (m ∷ ms) a = (inr (λ e. a.0 (sym e), refl), twins_rest ms a.1)

  pub twins : (pre post : List Module) → Distinct (map (λ (m : Module). m.id) (pre ++ b ∷ post)) → Paired (Twin b c) (pre ++ b ∷ post) (pre ++ c ∷ post)
  twins [] post d = (inl (refl, refl), twins_rest post d.0)
  twins (m ∷ pre) post d = (
    inr (λ s. apart_at m.id (map (λ (z : Module). z.id) (pre ++ b ∷ post)) d.0 b.id (In-map (λ (z : Module). z.id) b (pre ++ b ∷ post) (in_body pre b post)) s, refl),
    twins pre post d.1,
  )

  twin_id : (m l : Module) → Twin b c m l → m.id ≡ l.id
  twin_id m l (inl t) = ap (λ (z : Module). z.id) t.0 ∙ id ∙ ap (λ (z : Module). z.id) (sym t.1)
  twin_id m l (inr t) = ap (λ (z : Module). z.id) t.1

  twin_ports : ports_of b.wires ≡ ports_of c.wires → (m l : Module) → Twin b c m l → ports_of m.wires ≡ ports_of l.wires
  twin_ports same m l (inl t) =
      ap (λ (z : Module). ports_of z.wires) t.0 ∙ same ∙ ap (λ (z : Module). ports_of z.wires) (sym t.1)
  twin_ports same m l (inr t) = ap (λ (z : Module). ports_of z.wires) t.1

-- bits at the root stay
module _ (g : Melt) where
  root_above : (m : Module) → is_beneath g (root m) ≡ false
  root_above m = ap (λ t. t || false) (outside g (frame [] m.id) [] refl)

  root_stays : (m : Module) (q : Place) → q.path ≡ root m → go g q ≡ q
  root_stays m q e = place_stays g q (ap (is_beneath g) e ∙ root_above m)

  all_stay : (m : Module) (qs : List Place) → ((q : Place) → In q qs → q.path ≡ root m) → map (go g) qs ≡ qs
  all_stay m [] h = refl
  all_stay m (q ∷ qs) h = λ i. root_stays m q (h q (inl refl)) i ∷ all_stay m qs (λ r j. h r (inr j)) i

-- where an instance melts, the rows of one design move into those of the other
module _ (g : Melt) (pre : List Module) (b : Module) (post : List Module) (c n : Module) (Plain : Module → Type 0) (id : b.id ≡ c.id) (same : ports_of b.wires ≡ ports_of c.wires) (melts : Melts g (with_body pre b post) (with_body pre c post) b c n Plain) where
  abbrev d : Design
  d = with_body pre b post

  abbrev e : Design
  e = with_body pre c post

  module _ (m l : Module) (t : Twin b c m l) where
    abbrev inputs : Module → List Driven
    inputs z = given_rows (places (role_points Input (root z) (ports_of z.wires))) 0

    same_inputs : inputs m ≡ inputs l
    same_inputs =
        ap (λ z. given_rows (places (role_points Input (frame [] z ∷ []) (ports_of m.wires))) 0) (twin_id b c id m l t)
        ∙ ap (λ z. given_rows (places (role_points Input (root l) z)) 0) (twin_ports b c id same m l t)

    no_reads : (x : Driven) (j : ℕ) → x.driver ≡ Given j → (q : Place) → In q (reads x.driver) → go g q ≡ q
    no_reads x j k q i = absurd (subst (λ z. In q (reads z)) k i)

    input_goes : (x : Driven) → In x (inputs m) → GoesInto (go g) (driven_rows e l) x
    input_goes x i =
        let k = given_is (places (role_points Input (root m) (ports_of m.wires))) 0 x i in
        let z = role_is Input (root m) (ports_of m.wires) x.place k.0 in
        row_stays (go g) (driven_rows e l) x (root_stays g m x.place z.2) (no_reads x k.1.0 k.1.1) (In-left x (inputs l) (tree_rows e (root l) l) (subst (In x) same_inputs i))

    depth : length d.modules ≡ length e.modules
    depth = length_body pre b c post

    root_goes : go_path g (root m) ≡ root l
    root_goes = path_stays g (root m) (root_above g m) ∙ ap (λ z. frame [] z ∷ []) (twin_id b c id m l t)

    tree_row_goes : (x : Driven) → In x (tree_rows d (root m) m) → GoesInto (go g) (driven_rows e l) x
    tree_row_goes x i =
        let k = tree_goes g d e b c n Plain melts (length d.modules) (root m) m l t refl (outside g (frame [] m.id) [] refl) (λ z. absurd (true≢false (sym z ∙ root_above g m))) x i in
        goes_more g (tree_rows e (root l) l) (driven_rows e l) x (λ y j. In-right y (inputs l) (tree_rows e (root l) l) j) (subst (λ z. GoesInto (go g) (in_tree e (rows_of (design_ports e)) z (root l) l) x) depth (subst (λ z. GoesInto (go g) (in_tree e (rows_of (design_ports e)) (length d.modules) z l) x) root_goes k))

    driven_goes : (x : Driven) → In x (driven_rows d m) → GoesInto (go g) (driven_rows e l) x
    driven_goes x i =
        ⊎_elim (λ a. input_goes x a) (λ a. tree_row_goes x a) (In-cases x (inputs m) (tree_rows d (root m) m) i)

    module_goes : ModuleGoes (go g) d e m l
    module_goes = record {
      id = twin_id b c id m l t;
      ports = twin_ports b c id same m l t;
      roots = root_stays g m;
      rows = driven_goes;
    }

  modules_go : (ms ls : List Module) → Paired (Twin b c) ms ls → Paired (ModuleGoes (go g) d e) ms ls
  modules_go [] [] h = tt
  modules_go (m ∷ ms) (l ∷ ls) h = (module_goes m l h.0, modules_go ms ls h.1)
  modules_go [] (l ∷ ls) h = absurd h
  modules_go (m ∷ ms) [] h = absurd h

  pub melt_goes : Distinct (map (λ (m : Module). m.id) d.modules) → DesignGoes (go g) d e
  melt_goes ids = modules_go d.modules e.modules (twins b c id pre post ids)

-- the instances of a module, and those of the modules below it, are of modules that a design has in the same way
pub record StandsOver (d : Design) (b : Module) (below : List Module) : Type 0 where
  pub own : (f : Frame) → In f (instances b.cells) → named d.modules f.module_name ≡ named below f.module_name
  pub inner :
      (m : Module) → In m below → (f : Frame) → In f (instances m.cells) →
      named d.modules f.module_name ≡ named below f.module_name

-- the copies of wires are no ports
pub new_inner : (bb : Building) (f : Cell) (rest : List Cell) (n : Module) → AreInner (wires_new bb f rest n)
new_inner bb f rest n w i =
    let k = paired_back WireCopied n.wires (wires_new bb f rest n) (wires_paired f.name n.wires (around bb f rest n)) w i in
    k.2.2

module _ (bb : Building) (f : Cell) (rest : List Cell) (n : Module) (below : List Module) (taken : Split f rest bb.body.cells) (body : IsPlain bb.body) (body_frames : Distinct (frame_names bb.body.cells)) (found : named below f.kind_name ≡ Some n) (plain : (m : Module) → In m below → IsPlain m) (names : (m : Module) → In m below → HasNames m) (apart : (m : Module) → In m below → m.id ≡ bb.body.id → ⊥) (own_names : Distinct (map store_name (after bb f rest n).memories)) where
  child_in : In n below
  child_in = named_in below f.kind_name n found

  child_apart : f.kind_name ≡ bb.body.id → ⊥
  child_apart e = apart n child_in (named_id below f.kind_name n found ∙ e)

  pub same_ports : ports_of bb.body.wires ≡ ports_of (after bb f rest n).wires
  same_ports = sym (ports_more bb.body.wires (wires_new bb f rest n) (new_inner bb f rest n))

  module _ (pre post : List Module) (ids : Distinct (map (λ (m : Module). m.id) (pre ++ bb.body ∷ post))) (over : StandsOver (with_body pre bb.body post) bb.body below) where
    abbrev from : Design
    from = with_body pre bb.body post

    abbrev to : Design
    to = with_body pre (after bb f rest n) post

    abbrev g : Melt
    g = melt bb f rest n

    swap : design_ports from ≡ design_ports to
    swap = ports_swapped bb.body (after bb f rest n) refl same_ports pre post

    child_found : named from.modules f.kind_name ≡ Some n
    child_found =
        over.own (frame f.name f.kind_name) (instance_in bb.body.cells f (taken_in f rest bb.body.cells taken) taken.kind) ∙ found

    below_found : (m k : Module) (h : Frame) → In m below → In h (instances m.cells) → named from.modules h.module_name ≡ Some k → In k below
    below_found m k h r i e = named_in below h.module_name k (sym (over.inner m r h i) ∙ e)

    bare : (m : Module) → In m below → IsBare m
    bare m r = let k = plain m r in record { within = k.within; processes = k.processes }

    all_melts : Melts g from to bb.body (after bb f rest n) n (λ m. In m below)
    all_melts = record {
      id = refl;
      child = child_found;
      apart = child_apart;
      twins = λ name k e. twin_named bb.body (after bb f rest n) refl pre post ids name k e;
      plain_child = child_in;
      plain_below = below_found;
      others = λ p m o q out beneath x i. subst (λ z. GoesInto (go g) (rows_of z (go_path g p) m) x) swap (unchanged_goes g (design_ports from) m p (not_owner g p (λ w. q (owner m.id bb.body.id p o w))) out (λ t. bare m (beneath t)) x i);
      own = λ p is out x i. subst (λ z. GoesInto (go g) (rows_of z (go_path g p) (after bb f rest n)) x) swap (own_goes bb f rest n taken body (plain n child_in) (names n child_in) own_names body_frames child_apart (design_ports from) (ap ports_or_none child_found) (go g) p (go_path g p) (melt_sinks bb f rest n taken body (plain n child_in) (names n child_in) own_names body_frames child_apart p is out) x i);
      inner = λ p is out x i. subst (λ z. GoesInto (go g) (rows_of z (go_path g p) (after bb f rest n)) x) swap (inner_rows_go bb f rest n taken body (plain n child_in) (names n child_in) own_names body_frames child_apart (design_ports from) (ap ports_or_none child_found) (go g) p (go_path g p) (melt_sinks bb f rest n taken body (plain n child_in) (names n child_in) own_names body_frames child_apart p is out) x i);
      own_children = own_frames bb f rest n taken body (plain n child_in) (names n child_in) own_names body_frames child_apart;
      inner_children = inner_frames bb f rest n taken body (plain n child_in) (names n child_in) own_names body_frames child_apart;
    }

    -- the design with the module before the replacement moves into the one with the module after it
    pub one_goes : DesignGoes (go g) from to
    one_goes =
        melt_goes g pre bb.body post (after bb f rest n) n (λ m. In m below) refl same_ports all_melts ids

    -- what stands over the modules below still does
    body_not : (name : List ℕ) → named from.modules name ≡ named below name → name ≡ bb.body.id → ⊥
    body_not name e same =
        let here : named from.modules name ≡ Some bb.body = ap (named from.modules) same ∙ named_body pre bb.body post ids in
        apart bb.body (named_in below name bb.body (sym e ∙ here)) refl

    same_named : (name : List ℕ) → (name ≡ bb.body.id → ⊥) → named to.modules name ≡ named from.modules name
    same_named name n' = named_other bb.body (after bb f rest n) refl pre post name n'

    pub still_over : StandsOver to (after bb f rest n) below
    still_over = record { own = own; inner = inner }
      where
        inner : (m : Module) → In m below → (h : Frame) → In h (instances m.cells) → named (pre ++ after bb f rest n ∷ post) h.module_name ≡ named below h.module_name
        inner m r h i =
            let e = over.inner m r h i in
            same_named h.module_name (body_not h.module_name e) ∙ e

        by_rest : (h : Frame) → In h (instances rest) → named (pre ++ after bb f rest n ∷ post) h.module_name ≡ named below h.module_name
        by_rest h i =
            let e = over.own h (subst (In h) (sym (taken_instances f rest bb.body.cells taken)) (inr i)) in
            same_named h.module_name (body_not h.module_name e) ∙ e

        by_new : (h : Frame) → In h (instances (cells_new bb f rest n)) → named (pre ++ after bb f rest n ∷ post) h.module_name ≡ named below h.module_name
        by_new h i =
            let y = instance_cell (cells_new bb f rest n) h i in
            let x = paired_back (CellCopied (copying_new bb f rest n)) n.cells (cells_new bb f rest n) (cells_paired (copying_new bb f rest n) n.cells (stored n f (around bb f rest n))) y.0 y.1 in
            let k = inner n child_in (frame x.0.name x.0.kind_name) (instance_in n.cells x.0 x.1 (sym (kind_same x.0 y.0 x.2.kind) ∙ y.2)) in
            subst (λ z. named (pre ++ after bb f rest n ∷ post) z ≡ named below z) (sym (ap (λ (z : Frame). z.module_name) y.3 ∙ x.2.kind)) k

        own : (h : Frame) → In h (instances (after bb f rest n).cells) → named (pre ++ after bb f rest n ∷ post) h.module_name ≡ named below h.module_name
        own h i =
            ⊎_elim (λ l. by_rest h l) (λ r. by_new h r) (In-cases h (instances rest) (instances (cells_new bb f rest n)) (subst (In h) (instances-append rest (cells_new bb f rest n)) i))
