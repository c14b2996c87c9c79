-- The names of copies are new: none is a name of the module, and no two of them are one.
use Rattle.std.proofs.Common.{◌≡◌, ℕ, zero, suc, ◌+◌, ◌<◌, ◌≤◌, max, Bool, true, false, cond, not, ◌&&◌, ◌||◌, List, [], ◌∷◌, ◌++◌, map, ◌⊎◌, inl, inr, ⊎_elim, refl, sym, ◌∙◌, ap, subst, arith}
use Rattle.std.specs.Prelude.{◌==◌, codes, drop, length, nat_le, pos, take}
use Rattle.std.specs.List.{fold, list_all}
use Rattle.std.specs.Str.{bytes_eq}
use Rattle.std.proofs.lemmas.Bool.{true≢false}
use Rattle.std.proofs.lemmas.Slice.Eq.{bytes_eq-Decides}
use Rattle.rtl_sig.specs.Names.{has_name}
use Rattle.rtl_ir.specs.declared.cell.Cell.{Cell}
use Rattle.rtl_ir.specs.declared.module.Module.{Module}
use Rattle.rtl_ir.specs.declared.process.Process.{Process}
use Rattle.rtl_ir.specs.declared.store.Store.{Store}
use Rattle.rtl_ir.specs.declared.wire.Role.TheVariants.{Inner}
use Rattle.rtl_ir.specs.declared.wire.Wire.{Wire}
use Rattle.rtl_ir.specs.Flat.Cell.{cell_kind}
use Rattle.rtl_ir.specs.Build.{Building, building_of, digits_number, is_digit, is_made_number, made_name, made_number, module_names}
use Rattle.net_model.specs.Lists.{Distinct, In}
use Rattle.net_model.proofs.Members.{apart_from, In-cases, In-left, In-map, In-right, map-append}
use Rattle.map_laws.proofs.FreshNames.{number_of_made}
use Rattle.flat_pass.specs.Copies.{Copying, copied_params, copied_pin}
use Rattle.flat_pass.specs.Flat.{copy_name, dotted, is_free, next_after, put_all, put_cell, put_store, put_wire}

-- a name with a dot is no fresh name
all_at : {A : Type 0} (test : A → Bool) (xs : List A) (x : A) → list_all test xs ≡ true → In x xs → test x ≡ true
all_at test [] x e i = absurd i
all_at test (y ∷ xs) x e i = by (test y) refl (list_all test xs) refl (λ q j. all_at test xs x q j) e i
  where
    by : (s : Bool) → test y ≡ s → (t : Bool) → list_all test xs ≡ t → (list_all test xs ≡ true → In x xs → test x ≡ true) → (s && t) ≡ true → (x ≡ y) ⊎ In x xs → test x ≡ true
    by true p true q later g (inl h) = ap test h ∙ p
    by true p true q later g (inr j) = later q j
    by true p false q later g j = absurd (cc)
    by false p t q later g j = absurd (cc)

take_drop_all : (n : ℕ) (xs : List ℕ) → take n xs ++ drop n xs ≡ xs
take_drop_all zero xs = refl
take_drop_all (suc n) [] = refl
take_drop_all (suc n) (x ∷ xs) = ap (λ z. x ∷ z) (take_drop_all n xs)

take_drop : (n : ℕ) (xs : List ℕ) (x : ℕ) → In x xs → In x (take n xs) ⊎ In x (drop n xs)
take_drop n xs x i = In-cases x (take n xs) (drop n xs) (subst (In x) (sym (take_drop_all n xs)) i)

pub dot_none : (name : List ℕ) → In 46 name → made_number name ≡ 0
unfolding made_number
dot_none name i = by (bytes_eq (take 5 name) (codes "$syn$")) refl (is_made_number (drop 5 name)) refl
  where
    digits : (ds : List ℕ) → is_made_number ds ≡ true → In 46 ds → ⊥
    digits [] e j = j
    digits (d ∷ ds) e j =
        true≢false (sym (all_at is_digit (d ∷ ds) 46 (first (list_all is_digit (d ∷ ds)) (not (d == 48) && nat_le (length (d ∷ ds)) 9) e) j))
      where
        first : (a b : Bool) → (a && b) ≡ true → a ≡ true
        first true b g = refl
        first false b g = g

    by : (s : Bool) → bytes_eq (take 5 name) (codes "$syn$") ≡ s → (t : Bool) → is_made_number (drop 5 name) ≡ t → cond (s && t) (digits_number 0 (drop 5 name)) 0 ≡ 0
    by true p true q =
        absurd (⊎_elim
        (λ l. true≢false (sym (all_at (λ c. not (c == 46)) (codes "$syn$") 46 refl (subst (In 46) ((bytes_eq-Decides (take 5 name) (codes "$syn$")).0 p) l))))
        (λ r. digits (drop 5 name) q r)
        (take_drop 5 name 46 i))
    by true p false q = refl
    by false p t q = refl

pub dotted_none : (instance name : List ℕ) → made_number (dotted instance name) ≡ 0
dotted_none instance name =
    dot_none (dotted instance name) (In-right 46 instance (codes "." ++ drop 1 name) (inl refl))

-- the fresh names of a module begin after its names
pub record IsFresh (b : Building) : Type 0 where
  pub positive : 0 < b.next
  pub below : (x : List ℕ) → In x (module_names b.body) → made_number x < b.next

greatest : (n : ℕ) (ns : List ℕ) → n ≤ fold max n ns
greatest n [] = omega arith
greatest n (m ∷ ns) = omega (arith, greatest (max n m) ns)

below_greatest : (n m : ℕ) (ns : List ℕ) → In m ns → m ≤ fold max n ns
below_greatest n m [] i = absurd i
below_greatest n m (k ∷ ns) (inl e) = omega (arith, greatest (max n k) ns, e)
below_greatest n m (k ∷ ns) (inr i) = below_greatest (max n k) m ns i

pub fresh_at_first : (m : Module) → IsFresh (building_of m)
fresh_at_first m = record {
  positive = omega arith;
  below = λ x i. omega (arith, below_greatest 0 (made_number x) (map made_number (module_names m)) (In-map made_number x (module_names m) i));
}

-- the name of a copy
pub any_in : (name : List ℕ) (names : List (List ℕ)) → In name names → has_name names name ≡ true
any_in name [] i = absurd i
any_in name (n ∷ names) (inl e) =
    ap (λ t. t || has_name names name) ((bytes_eq-Decides name n).1 e)
any_in name (n ∷ names) (inr i) = by (bytes_eq name n) (any_in name names i)
  where
    by : (t : Bool) → has_name names name ≡ true → (t || has_name names name) ≡ true
    by true e = refl
    by false e = e

pub in_any : (name : List ℕ) (names : List (List ℕ)) → has_name names name ≡ true → In name names
in_any name [] e = absurd (true≢false (sym e))
in_any name (n ∷ names) e = by (bytes_eq name n) refl (λ k. in_any name names k) e
  where
    by : (t : Bool) → bytes_eq name n ≡ t → (has_name names name ≡ true → In name names) → (t || has_name names name) ≡ true → In name (n ∷ names)
    by true q later k = inl ((bytes_eq-Decides name n).0 q)
    by false q later k = inr (later k)

free_new : (m : Module) (name : List ℕ) → is_free m name ≡ true → In name (module_names m) → ⊥
free_new m name e i =
    true≢false (sym e ∙ ap (λ t. nat_le (length name) 1024 && not t) (any_in name (module_names m) i) ∙ none (nat_le (length name) 1024))
  where
    none : (t : Bool) → (t && false) ≡ false
    none true = refl
    none false = refl

pub copy_new : (b : Building) (d : List ℕ) → IsFresh b → next_after b d ≤ 1000000000 → In (copy_name b d) (module_names b.body) → ⊥
copy_new b d h few i = by (is_free b.body d) refl few i
  where
    by : (t : Bool) → is_free b.body d ≡ t → cond t b.next (b.next + 1) ≤ 1000000000 → In (cond t d (made_name b.next)) (module_names b.body) → ⊥
    by true e l j = free_new b.body d e j
    by false e l j =
        let same : made_number (made_name b.next) ≡ b.next = number_of_made b.next h.positive (omega (arith, l)) in
        let less : made_number (made_name b.next) < b.next = h.below (made_name b.next) j in
        omega (arith, same, less)

copy_number : (b : Building) (instance name : List ℕ) → IsFresh b → next_after b (dotted instance name) ≤ 1000000000 → made_number (copy_name b (dotted instance name)) < next_after b (dotted instance name)
copy_number b instance name h few = by (is_free b.body (dotted instance name)) few
  where
    by : (t : Bool) → cond t b.next (b.next + 1) ≤ 1000000000 → made_number (cond t (dotted instance name) (made_name b.next)) < cond t b.next (b.next + 1)
    by true l =
        let none : made_number (dotted instance name) ≡ 0 = dotted_none instance name in
        let some = h.positive in
        omega (arith, none, some)
    by false l =
        let same : made_number (made_name b.next) ≡ b.next = number_of_made b.next h.positive (omega (arith, l)) in
        omega (arith, same)

pub next_rises : (b : Building) (d : List ℕ) → b.next ≤ next_after b d
next_rises b d = by (is_free b.body d)
  where
    by : (t : Bool) → b.next ≤ cond t b.next (b.next + 1)
    by true = omega arith
    by false = omega arith

-- names with a further one
pub record AddsName (x : List ℕ) (old new : List (List ℕ)) : Type 0 where
  pub names : (y : List ℕ) → In y new → (y ≡ x) ⊎ In y old
  pub there : In x new
  pub keeps : (y : List ℕ) → In y old → In y new

adds_one : (x : List ℕ) (xs : List (List ℕ)) → AddsName x xs (xs ++ x ∷ [])
adds_one x xs = record {
  names = λ y i. ⊎_elim (λ l. inr l) (λ b. ⊎_elim (λ e. inl e) (λ z. absurd z) b) (In-cases y xs (x ∷ []) i);
  there = In-right x xs (x ∷ []) (inl refl);
  keeps = λ y i. In-left y xs (x ∷ []) i;
}

adds_before : (x : List ℕ) (post old new : List (List ℕ)) → AddsName x old new → AddsName x (old ++ post) (new ++ post)
adds_before x post old new h = record {
  names = λ y i. ⊎_elim (λ l. ⊎_elim (λ e. inl e) (λ j. inr (In-left y old post j)) (h.names y l)) (λ r. inr (In-right y old post r)) (In-cases y new post i);
  there = In-left x new post h.there;
  keeps = λ y i. ⊎_elim (λ l. In-left y new post (h.keeps y l)) (λ r. In-right y new post r) (In-cases y old post i);
}

adds_after : (x : List ℕ) (pre old new : List (List ℕ)) → AddsName x old new → AddsName x (pre ++ old) (pre ++ new)
adds_after x pre old new h = record {
  names = λ y i. ⊎_elim (λ l. inr (In-left y pre old l)) (λ r. ⊎_elim (λ e. inl e) (λ j. inr (In-right y pre old j)) (h.names y r)) (In-cases y pre new i);
  there = In-right x pre new h.there;
  keeps = λ y i. ⊎_elim (λ l. In-left y pre new l) (λ r. In-right y pre new (h.keeps y r)) (In-cases y pre old i);
}

abbrev pub wire_names : Module → List (List ℕ)
wire_names m = map (λ (w : Wire). w.name) m.wires

abbrev pub memory_names : Module → List (List ℕ)
memory_names m = map (λ (s : Store). s.name) m.memories

abbrev pub cell_names : Module → List (List ℕ)
cell_names m = map (λ (c : Cell). c.name) m.cells

abbrev pub process_names : Module → List (List ℕ)
process_names m = map (λ (p : Process). p.name) m.processes

pub wire_adds : (instance : List ℕ) (w : Wire) (b : Building) → AddsName (copy_name b (dotted instance w.name)) (module_names b.body) (module_names (put_wire instance w b).body)
wire_adds instance w b =
    before (process_names b.body) (wire_names b.body ++ memory_names b.body ++ cell_names b.body) (new ++ memory_names b.body ++ cell_names b.body) (before (cell_names b.body) (wire_names b.body ++ memory_names b.body) (new ++ memory_names b.body) (before (memory_names b.body) (wire_names b.body) new (subst (AddsName x (wire_names b.body)) (sym (map-append (λ (v : Wire). v.name) b.body.wires (record w { name = x; role = Inner; number = pos 0 } ∷ []))) (adds_one x (wire_names b.body)))))
  where
    x : List ℕ
    x = copy_name b (dotted instance w.name)

    new : List (List ℕ)
    new = wire_names (put_wire instance w b).body

    before : (post olds news : List (List ℕ)) → AddsName x olds news → AddsName x (olds ++ post) (news ++ post)
    before post olds news h = adds_before x post olds news h

pub store_adds : (instance : List ℕ) (s : Store) (b : Building) → AddsName (copy_name b (dotted instance s.name)) (module_names b.body) (module_names (put_store instance s b).body)
store_adds instance s b =
    adds_before x (process_names b.body) (wire_names b.body ++ memory_names b.body ++ cell_names b.body) (wire_names b.body ++ new ++ cell_names b.body) (adds_before x (cell_names b.body) (wire_names b.body ++ memory_names b.body) (wire_names b.body ++ new) (adds_after x (wire_names b.body) (memory_names b.body) new (subst (AddsName x (memory_names b.body)) (sym (map-append (λ (v : Store). v.name) b.body.memories (record s { name = x } ∷ []))) (adds_one x (memory_names b.body)))))
  where
    x : List ℕ
    x = copy_name b (dotted instance s.name)

    new : List (List ℕ)
    new = memory_names (put_store instance s b).body

pub cell_adds : (k : Copying) (c : Cell) (b : Building) → AddsName (copy_name b (dotted k.instance c.name)) (module_names b.body) (module_names (put_cell k c b).body)
cell_adds k c b =
    adds_before x (process_names b.body) (wire_names b.body ++ memory_names b.body ++ cell_names b.body) (wire_names b.body ++ memory_names b.body ++ new) (adds_after x (wire_names b.body ++ memory_names b.body) (cell_names b.body) new (subst (AddsName x (cell_names b.body)) (sym (map-append (λ (v : Cell). v.name) b.body.cells (record c { name = x; params = copied_params k (cell_kind c) c.params; pins = map (copied_pin k.first) c.pins } ∷ []))) (adds_one x (cell_names b.body))))
  where
    x : List ℕ
    x = copy_name b (dotted k.instance c.name)

    new : List (List ℕ)
    new = cell_names (put_cell k c b).body

-- items that are put one after another get new names, which differ
module _ {A : Type 0} (put : A → Building → Building) (from : A → List ℕ) (instance : List ℕ) (next : (a : A) (b : Building) → (put a b).next ≡ next_after b (dotted instance (from a))) (adds : (a : A) (b : Building) → AddsName (copy_name b (dotted instance (from a))) (module_names b.body) (module_names (put a b).body)) where
  abbrev pub given : List A → Building → List (List ℕ)
  given [] b = []
  given (a ∷ xs) b = copy_name b (dotted instance (from a)) ∷ given xs (put a b)

  pub all_rises : (xs : List A) (b : Building) → b.next ≤ (put_all put xs b).next
  all_rises [] b = omega arith
  all_rises (a ∷ xs) b =
      let one = next_rises b (dotted instance (from a)) in
      let is = next a b in
      omega (arith, one, is, all_rises xs (put a b))

  put_fresh : (a : A) (b : Building) → IsFresh b → next_after b (dotted instance (from a)) ≤ 1000000000 → IsFresh (put a b)
  put_fresh a b h few = record {
    positive = let some = h.positive in
        let one = next_rises b (dotted instance (from a)) in
        let is = next a b in
        omega (arith, some, one, is);
    below = λ x i. ⊎_elim (λ e. let mine = copy_number b instance (from a) h few in
        let is = next a b in
        let same : made_number x ≡ made_number (copy_name b (dotted instance (from a))) = ap made_number e in
        omega (arith, mine, is, same)) (λ j. let old = h.below x j in
        let one = next_rises b (dotted instance (from a)) in
        let is = next a b in
        omega (arith, old, one, is)) ((adds a b).names x i);
  }

  pub record AreNew (xs : List A) (b : Building) : Type 0 where
    pub fresh : IsFresh (put_all put xs b)
    pub distinct : Distinct (given xs b)
    pub new : (x : List ℕ) → In x (given xs b) → In x (module_names b.body) → ⊥
    pub there : (x : List ℕ) → In x (given xs b) → In x (module_names (put_all put xs b).body)
    pub kept : (x : List ℕ) → In x (module_names b.body) → In x (module_names (put_all put xs b).body)

  pub all_new : (xs : List A) (b : Building) → IsFresh b → (put_all put xs b).next ≤ 1000000000 → AreNew xs b
  all_new [] b h few =
      record { fresh = h; distinct = tt; new = λ x i j. i; there = λ x i. absurd i; kept = λ x i. i }
  all_new (a ∷ xs) b h few =
      let is = next a b in
      let later = all_rises xs (put a b) in
      let low : next_after b (dotted instance (from a)) ≤ 1000000000 = omega (arith, few, is, later) in
      let add = adds a b in
      let k = all_new xs (put a b) (put_fresh a b h low) few in
      let x : List ℕ = copy_name b (dotted instance (from a)) in
      record {
        fresh = k.fresh;
        distinct = (apart_from x (given xs (put a b)) (λ y i e. k.new y i (subst (λ z. In z (module_names (put a b).body)) e add.there)), k.distinct);
        new = λ y i j. ⊎_elim (λ e. copy_new b (dotted instance (from a)) h low (subst (λ z. In z (module_names b.body)) e j)) (λ l. k.new y l (add.keeps y j)) i;
        there = λ y i. ⊎_elim (λ e. k.kept y (subst (λ z. In z (module_names (put a b).body)) (sym e) add.there)) (λ l. k.there y l) i;
        kept = λ y i. k.kept y (add.keeps y i);
      }
