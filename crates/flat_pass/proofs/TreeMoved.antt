-- The rows of a module with all its instances, where an instance of one module melts into it: they are rows after that, once their
-- bits move.
use Rattle.std.proofs.Common.{◌≡◌, ℕ, zero, suc, true, false, ◌||◌, List, [], ◌∷◌, Some, ◌⊎◌, inl, inr, ⊎_elim, sym, ◌∙◌, ap, subst}
use Rattle.rtl_ir.specs.declared.module.Design.{Design}
use Rattle.rtl_ir.specs.declared.module.Module.{Module}
use Rattle.rtl_ir.specs.Flat.Cell.{instances}
use Rattle.rtl_ir.specs.Flat.Driver.{Driven}
use Rattle.rtl_ir.specs.Flat.Place.{Frame, Path, frame_same}
use Rattle.rtl_ir.specs.Flat.Rows.{rows_of}
use Rattle.rtl_ir.specs.Flat.Tree.{design_ports, in_instances, in_tree, named}
use Rattle.net_model.specs.Lists.{In}
use Rattle.net_model.specs.Relate.{OwnerIs}
use Rattle.net_model.proofs.Instances.{instances_find, instances_have}
use Rattle.net_model.proofs.Members.{In-cases, In-left, In-right}
use Rattle.net_model.proofs.Relating.{named_id}
use Rattle.flat_pass.proofs.MovedRuns.{GoesInto}
use Rattle.flat_pass.proofs.Paths.{Melt, copied_frame, go, go_path, is_beneath, is_inside, is_of, not_owner, of_owner, other, outside, path_below, path_outside}

-- b against c, or another module against itself
abbrev pub Twin : Module → Module → Module → Module → Type 0
Twin b c m n = ((m ≡ b) × (n ≡ c)) ⊎ ((m.id ≡ b.id → ⊥) × (m ≡ n))

abbrev pub rows_in : Design → Path → Module → List Driven
rows_in d = rows_of (design_ports d)

abbrev pub tree_in : Design → ℕ → Path → Module → List Driven
tree_in d = in_tree d (rows_in d)

-- what is deeper has more rows
pub tree_grows : (d : Design) (s : ℕ) (p : Path) (m : Module) (x : Driven) → In x (tree_in d s p m) → In x (tree_in d (suc s) p m)
tree_grows d zero p m x i = absurd i
tree_grows d (suc s) p m x i =
    ⊎_elim
    (λ l. In-left x (rows_in d p m) (in_instances d (tree_in d (suc s)) p (instances m.cells)) l)
    (λ r. let f = instances_find d (tree_in d s) p x (instances m.cells) r in
    In-right x (rows_in d p m) (in_instances d (tree_in d (suc s)) p (instances m.cells)) (instances_have d (tree_in d (suc s)) p x (instances m.cells) f.0 f.1 f.2 f.3 (tree_grows d s (f.0 ∷ p) f.1 x f.4)))
    (In-cases x (rows_in d p m) (in_instances d (tree_in d s) p (instances m.cells)) i)

pub goes_more : (g : Melt) (es fs : List Driven) (x : Driven) → ((y : Driven) → In y es → In y fs) → GoesInto (go g) es x → GoesInto (go g) fs x
goes_more g es fs x h k = record { fair = k.fair; into = h _ k.into }

-- what is owed of the rows and the instances of the three modules
pub record Melts (g : Melt) (d e : Design) (b c n : Module) (Plain : Module → Type 0) : Type 0 where
  pub id : g.id ≡ b.id
  pub child : named d.modules g.instance.module_name ≡ Some n
  pub apart : g.instance.module_name ≡ b.id → ⊥
  pub twins : (id : List ℕ) (k : Module) → named d.modules id ≡ Some k → (l : Module) × (named e.modules id ≡ Some l) × Twin b c k l
  -- modules beneath the instance that melts are plain
  pub plain_child : Plain n
  pub plain_below : (m k : Module) (f : Frame) → Plain m → In f (instances m.cells) → named d.modules f.module_name ≡ Some k → Plain k
  pub others :
      (p : Path) (m : Module) → OwnerIs m.id p → (m.id ≡ b.id → ⊥) → is_inside g p ≡ false → (is_beneath g p ≡ true → Plain m) →
      (x : Driven) → In x (rows_in d p m) → GoesInto (go g) (rows_in e (go_path g p) m) x
  pub own :
      (p : Path) → is_of g p ≡ true → is_inside g p ≡ false → (x : Driven) → In x (rows_in d p b) → GoesInto (go g) (rows_in e (go_path g p) c) x
  pub inner :
      (p : Path) → is_of g p ≡ true → is_inside g p ≡ false → (x : Driven) → In x (rows_in d (g.instance ∷ p) n) →
      GoesInto (go g) (rows_in e (go_path g p) c) x
  pub own_children :
      (f : Frame) → In f (instances b.cells) → (f ≡ g.instance) ⊎ ((frame_same f g.instance ≡ false) × In f (instances c.cells))
  pub inner_children : (f : Frame) → In f (instances n.cells) → In (copied_frame g f) (instances c.cells)

module _ (g : Melt) (d e : Design) (b c n : Module) (Plain : Module → Type 0) (h : Melts g d e b c n Plain) where
  -- in the module of an instance
  in_child : (s : ℕ) (q : Path) (l m : Module) (f : Frame) (x : Driven) → In f (instances m.cells) → named e.modules f.module_name ≡ Some l → GoesInto (go g) (tree_in e s (f ∷ q) l) x → GoesInto (go g) (tree_in e (suc s) q m) x
  in_child s q l m f x i is k =
      goes_more g (tree_in e s (f ∷ q) l) (tree_in e (suc s) q m) x (λ y j. In-right y (rows_in e q m) (in_instances e (tree_in e s) q (instances m.cells)) (instances_have e (tree_in e s) q y (instances m.cells) f l i is j)) k

  in_own : (s : ℕ) (q : Path) (m : Module) (x : Driven) → GoesInto (go g) (rows_in e q m) x → GoesInto (go g) (tree_in e (suc s) q m) x
  in_own s q m x k =
      goes_more g (rows_in e q m) (tree_in e (suc s) q m) x (λ y j. In-left y (rows_in e q m) (in_instances e (tree_in e s) q (instances m.cells)) j) k

  -- the rows of a module with its instances so many levels deep
  abbrev Goes : ℕ → Type 0
  Goes s =
      (p : Path) (m l : Module) → Twin b c m l → OwnerIs m.id p → is_inside g p ≡ false → (is_beneath g p ≡ true → Plain m) → (x : Driven) → In x (tree_in d s p m) → GoesInto (go g) (tree_in e s (go_path g p) l) x

  -- those of the instance that melts
  abbrev Melted : ℕ → Type 0
  Melted s =
      (p : Path) → is_of g p ≡ true → is_inside g p ≡ false → (x : Driven) → In x (tree_in d s (g.instance ∷ p) n) → GoesInto (go g) (tree_in e (suc s) (go_path g p) c) x

  same_owner : (u v : List ℕ) (q : Path) → OwnerIs u q → OwnerIs v q → u ≡ v
  same_owner u v [] i j = absurd i
  same_owner u v (f ∷ q) i j = sym i ∙ j

  -- of an instance that does not melt
  through : (s : ℕ) → Goes s → (p : Path) (l : Module) (f : Frame) (k : Module) → is_inside g p ≡ false → is_inside g (f ∷ p) ≡ false → (is_beneath g p ≡ true → Plain k) → In f (instances l.cells) → named d.modules f.module_name ≡ Some k → (x : Driven) → In x (tree_in d s (f ∷ p) k) → GoesInto (go g) (tree_in e (suc s) (go_path g p) l) x
  through s ih p l f k out out' plain i is x j =
      let w = h.twins f.module_name k is in
      let mine : OwnerIs k.id (f ∷ p) = sym (named_id d.modules f.module_name k is) in
      let rest : GoesInto (go g) (tree_in e s (go_path g (f ∷ p)) w.0) x = ih (f ∷ p) k w.0 w.2 mine out' (λ z. plain (sym (ap (λ t. t || is_beneath g p) out') ∙ z)) x j in
      in_child s (go_path g p) w.0 l f x i w.1 (subst (λ z. GoesInto (go g) (tree_in e s z w.0) x) (path_outside g f p out' out) rest)

  step : (s : ℕ) → Goes s → Melted s → Goes (suc s)
  step s ih melted p m l (inr t) o out plain x i =
      let none : is_of g p ≡ false = not_owner g p (λ z. t.0 (same_owner m.id g.id p o z ∙ h.id)) in
      ⊎_elim
      (λ a. in_own s (go_path g p) l x (subst (λ z. GoesInto (go g) (rows_in e (go_path g p) z) x) t.1 (h.others p m o t.0 out plain x a)))
      (λ r. let f = instances_find d (tree_in d s) p x (instances m.cells) r in
      through s ih p l f.0 f.1 out (outside g f.0 p none) (λ z. h.plain_below m f.1 f.0 (plain z) f.2 f.3) (subst (λ z. In f.0 (instances z.cells)) t.1 f.2) f.3 x f.4)
      (In-cases x (rows_in d p m) (in_instances d (tree_in d s) p (instances m.cells)) i)
  step s ih melted p m l (inl t) o out plain x i =
      let is : is_of g p ≡ true = of_owner g p (subst (λ z. OwnerIs z p) (ap (λ z. z.id) t.0 ∙ sym h.id) o) in
      subst (λ z. GoesInto (go g) (tree_in e (suc s) (go_path g p) z) x) (sym t.1) (at_own is (λ z. subst Plain t.0 (plain z)) (subst (λ z. In x (tree_in d (suc s) p z)) t.0 i))
    where
      at_own : is_of g p ≡ true → (is_beneath g p ≡ true → Plain b) → In x (tree_in d (suc s) p b) → GoesInto (go g) (tree_in e (suc s) (go_path g p) c) x
      at_own is plain' j =
          ⊎_elim
          (λ a. in_own s (go_path g p) c x (h.own p is out x a))
          (λ r. let f = instances_find d (tree_in d s) p x (instances b.cells) r in
          ⊎_elim
          (λ same. melted p is out x (subst (In x) (ap (λ z. tree_in d s (z ∷ p) f.1) same ∙ ap (tree_in d s (g.instance ∷ p)) (child f.0 f.1 same f.3)) f.4))
          (λ apart. through s ih p c f.0 f.1 out (other g f.0 p apart.0) (λ z. h.plain_below b f.1 f.0 (plain' z) f.2 f.3) apart.1 f.3 x f.4)
          (h.own_children f.0 f.2))
          (In-cases x (rows_in d p b) (in_instances d (tree_in d s) p (instances b.cells)) j)
        where
          child : (f : Frame) (k : Module) → f ≡ g.instance → named d.modules f.module_name ≡ Some k → k ≡ n
          child f k same found =
              let both : Some k ≡ Some n = sym found ∙ ap (λ z. named d.modules z.module_name) same ∙ h.child in
              cc

  melted_zero : Melted zero
  melted_zero p is out x i = absurd i

  melted_suc : (s : ℕ) → Goes s → Melted (suc s)
  melted_suc s ih p is out x i =
      let none : is_of g (g.instance ∷ p) ≡ false = not_owner g (g.instance ∷ p) (λ z. h.apart (z ∙ h.id)) in
      ⊎_elim
      (λ a. in_own (suc s) (go_path g p) c x (h.inner p is out x a))
      (λ r. let f = instances_find d (tree_in d s) (g.instance ∷ p) x (instances n.cells) r in
      let w = h.twins f.0.module_name f.1 f.3 in
      let mine : OwnerIs f.1.id (f.0 ∷ g.instance ∷ p) = sym (named_id d.modules f.0.module_name f.1 f.3) in
      let rest : GoesInto (go g) (tree_in e s (go_path g (f.0 ∷ g.instance ∷ p)) w.0) x = ih (f.0 ∷ g.instance ∷ p) f.1 w.0 w.2 mine (outside g f.0 (g.instance ∷ p) none) (λ z. h.plain_below n f.1 f.0 h.plain_child f.2 f.3) x f.4 in
      let there : GoesInto (go g) (tree_in e s (copied_frame g f.0 ∷ go_path g p) w.0) x = subst (λ z. GoesInto (go g) (tree_in e s z w.0) x) (path_below g f.0 p is none) rest in
      in_child (suc s) (go_path g p) w.0 c (copied_frame g f.0) x (h.inner_children f.0 f.2) w.1 (goes_more g (tree_in e s (copied_frame g f.0 ∷ go_path g p) w.0) (tree_in e (suc s) (copied_frame g f.0 ∷ go_path g p) w.0) x (λ y j. tree_grows e s (copied_frame g f.0 ∷ go_path g p) w.0 y j) there))
      (In-cases x (rows_in d (g.instance ∷ p) n) (in_instances d (tree_in d s) (g.instance ∷ p) (instances n.cells)) i)

  both : (s : ℕ) → Goes s × Melted s
  both zero = (λ p m l t o out plain x i. absurd i, melted_zero)
  both (suc s) = let k = both s in (step s k.0 k.1, melted_suc s k.0)

  pub tree_goes : (s : ℕ) (p : Path) (m l : Module) → Twin b c m l → OwnerIs m.id p → is_inside g p ≡ false → (is_beneath g p ≡ true → Plain m) → (x : Driven) → In x (tree_in d s p m) → GoesInto (go g) (tree_in e s (go_path g p) l) x
  tree_goes s = (both s).0
