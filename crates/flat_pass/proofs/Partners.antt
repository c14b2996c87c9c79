-- Items with their copies, one by one: the names of the copies, and which copied cells are of which copied memory.
use Rattle.std.proofs.Common.{◌≡◌, ℕ, zero, suc, ◌+◌, ◌<◌, Bool, true, false, cond, ◌&&◌, List, [], ◌∷◌, ◌++◌, length, map, Option, Some, None, ◌⊎◌, inl, inr, ⊎_elim, refl, sym, ◌∙◌, ap, subst, arith}
use Rattle.std.specs.Prelude.{codes, filter, find, option_map, slice_get}
use Rattle.std.specs.Option.{option_map_or}
use Rattle.std.specs.Str.{bytes_eq}
use Rattle.std.proofs.lemmas.Slice.Eq.{bytes_eq-Decides}
use Rattle.cell_types.specs.declared.kind.CellKind.{CellKind}
use Rattle.cell_types.specs.declared.kind.CellKind.TheVariants.{Word, Gate, Storage, StorageGate, Memory}
use Rattle.cell_types.specs.declared.memory.MemoryKind.{MemoryKind}
use Rattle.cell_types.specs.declared.param_name.ParamName.{ParamName}
use Rattle.cell_types.specs.declared.param_name.ParamName.TheVariants.{Memid}
use Rattle.cell_types.specs.Given.{value_in}
use Rattle.cell_types.specs.Kind.{kind_of}
use Rattle.cell_types.specs.ParamName.{param_text}
use Rattle.rtl_ir.specs.declared.cell.Cell.{Cell}
use Rattle.rtl_ir.specs.declared.cell.CellParam.{CellParam}
use Rattle.rtl_ir.specs.declared.store.Store.{Store}
use Rattle.rtl_ir.specs.declared.value.Value.{Value}
use Rattle.rtl_ir.specs.declared.value.Value.TheVariants.{Bits, Int, Chars}
use Rattle.rtl_ir.specs.declared.wire.Role.TheVariants.{Inner}
use Rattle.rtl_ir.specs.declared.wire.Wire.{Wire}
use Rattle.rtl_ir.specs.Attributes.{attribute_bits}
use Rattle.rtl_ir.specs.Build.{Building}
use Rattle.rtl_ir.specs.Constants.{value_bits}
use Rattle.rtl_ir.specs.Faults.Cells.{is_memory_kind}
use Rattle.rtl_ir.specs.Flat.Cell.{cell_kind, cell_shape, instance_of, instances, listed}
use Rattle.rtl_ir.specs.Flat.Place.{Frame, frame}
use Rattle.rtl_ir.specs.Flat.Point.{name_or_empty}
use Rattle.rtl_ir.specs.Flat.Start.{init_bits}
use Rattle.rtl_ir.specs.Parameters.{chars_in, given_params, memory_name}
use Rattle.rtl_ir.specs.WritePorts.{is_of_memory}
use Rattle.net_model.specs.Lists.{Distinct, In}
use Rattle.net_model.proofs.Members.{apart_at, In-cases, In-left, In-map, In-right}
use Rattle.flat_pass.specs.Copies.{Copying, copied_params, copied_pin, renamed, renamed_param, renamed_value}
use Rattle.flat_pass.specs.Flat.{put_cell, put_store, put_wire}
use Rattle.flat_pass.proofs.Closed.{cell_copies, stores_copied, wire_copies}

-- items that go together, one by one
abbrev pub Paired : {A B : Type 0} → (A → B → Type 0) → List A → List B → Type 0
Paired R [] [] = Unit {0}
Paired R (x ∷ xs) (y ∷ ys) = R x y × Paired R xs ys
Paired R [] (y ∷ ys) = ⊥
Paired R (x ∷ xs) [] = ⊥

pub bytes_same : (a : List ℕ) → bytes_eq a a ≡ true
bytes_same a = (bytes_eq-Decides a a).1 refl

pub bytes_apart : (a b : List ℕ) → (a ≡ b → ⊥) → bytes_eq a b ≡ false
bytes_apart a b n = by (bytes_eq a b) refl
  where
    by : (t : Bool) → bytes_eq a b ≡ t → t ≡ false
    by true e = absurd (n ((bytes_eq-Decides a b).0 e))
    by false e = refl

renamed_here : (old new : List ℕ) (olds news : List (List ℕ)) → renamed (old ∷ olds) (new ∷ news) old ≡ new
renamed_here old new olds news = ap (λ t. cond t new (renamed olds news old)) (bytes_same old)

renamed_on : (old new name : List ℕ) (olds news : List (List ℕ)) → (old ≡ name → ⊥) → renamed (old ∷ olds) (new ∷ news) name ≡ renamed olds news name
renamed_on old new name olds news n = ap (λ t. cond t new (renamed olds news name)) (bytes_apart old name n)

-- each item has a copy, under the name that it is renamed to
pub partner : {A B : Type 0} (R : A → B → Type 0) (from : A → List ℕ) (to : B → List ℕ) (xs : List A) (ys : List B) → Paired R xs ys → Distinct (map from xs) → (x : A) → In x xs → (y : B) × In y ys × R x y × (renamed (map from xs) (map to ys) (from x) ≡ to y)
partner R from to [] [] h d x i = absurd i
partner R from to (a ∷ xs) (b ∷ ys) h d x (inl e) = (
  b,
  inl refl,
  subst (λ z. R z b) (sym e) h.0,
  ap (λ z. renamed (from a ∷ map from xs) (to b ∷ map to ys) (from z)) e ∙ renamed_here (from a) (to b) (map from xs) (map to ys),
)
partner R from to (a ∷ xs) (b ∷ ys) h d x (inr i) =
    let k = partner R from to xs ys h.1 d.1 x i in
    (k.0, inr k.1, k.2, renamed_on (from a) (to b) (from x) (map from xs) (map to ys) (apart_at (from a) (map from xs) d.0 (from x) (In-map from x xs i)) ∙ k.3)
partner R from to [] (b ∷ ys) h d x i = absurd h
partner R from to (a ∷ xs) [] h d x i = absurd h

-- those that pass tests that agree
pub filter_paired : {A B : Type 0} (R Q : A → B → Type 0) (P : A → Bool) (P' : B → Bool) (xs : List A) (ys : List B) → Paired R xs ys → ((x : A) (y : B) → In x xs → R x y → P' y ≡ P x) → ((x : A) (y : B) → In x xs → R x y → Q x y) → Paired Q (filter P xs) (filter P' ys)
filter_paired R Q P P' [] [] h t q = tt
filter_paired R Q P P' (x ∷ xs) (y ∷ ys) h t q =
    by (P x) (P' y) (t x y (inl refl) h.0) (filter_paired R Q P P' xs ys h.1 (λ a b i. t a b (inr i)) (λ a b i. q a b (inr i)))
  where
    by : (s s' : Bool) → s' ≡ s → Paired Q (filter P xs) (filter P' ys) → Paired Q (cond s (x ∷ filter P xs) (filter P xs)) (cond s' (y ∷ filter P' ys) (filter P' ys))
    by true true e k = (q x y (inl refl) h.0, k)
    by false false e k = k
    by true false e k = absurd (cc)
    by false true e k = absurd (cc)
filter_paired R Q P P' [] (y ∷ ys) h t q = absurd h
filter_paired R Q P P' (x ∷ xs) [] h t q = absurd h

-- wires
abbrev pub wire_name : Wire → List ℕ
wire_name w = w.name

abbrev pub WireCopied : Wire → Wire → Type 0
WireCopied w k = (k.attributes ≡ w.attributes) × (k.width ≡ w.width) × (k.role ≡ Inner)

pub wires_paired : (instance : List ℕ) (ws : List Wire) (b : Building) → Paired WireCopied ws (wire_copies instance ws b)
wires_paired instance [] b = tt
wires_paired instance (w ∷ ws) b = ((refl, refl, refl), wires_paired instance ws (put_wire instance w b))

pub name_in : (ws : List Wire) (at : ℕ) → at < length ws → In (name_or_empty (slice_get ws at)) (map wire_name ws)
name_in [] at h = absurd (omega arith)
name_in (w ∷ ws) zero h = inl refl
name_in (w ∷ ws) (suc at) h = let h' : at < length ws = omega arith in inr (name_in ws at h')

pub names_at : (ws ks : List Wire) → Paired WireCopied ws ks → Distinct (map wire_name ws) → (at : ℕ) → at < length ws → renamed (map wire_name ws) (map wire_name ks) (name_or_empty (slice_get ws at)) ≡ name_or_empty (slice_get ks at)
names_at [] [] p d at h = absurd (omega arith)
names_at (w ∷ ws) (k ∷ ks) p d zero h = renamed_here w.name k.name (map wire_name ws) (map wire_name ks)
names_at (w ∷ ws) (k ∷ ks) p d (suc at) h =
    let h' : at < length ws = omega arith in
    renamed_on w.name k.name (name_or_empty (slice_get ws at)) (map wire_name ws) (map wire_name ks) (apart_at w.name (map wire_name ws) d.0 (name_or_empty (slice_get ws at)) (name_in ws at h'))
    ∙ names_at ws ks p.1 d.1 at h'
names_at [] (k ∷ ks) p d at h = absurd p
names_at (w ∷ ws) [] p d at h = absurd p

pub starts_at : (ws ks : List Wire) → Paired WireCopied ws ks → (at : ℕ) → at < length ws → init_bits (slice_get ws at) ≡ init_bits (slice_get ks at)
starts_at [] [] p at h = absurd (omega arith)
starts_at (w ∷ ws) (k ∷ ks) p zero h = ap (λ z. attribute_bits z (codes "\\init")) (sym p.0.0)
starts_at (w ∷ ws) (k ∷ ks) p (suc at) h = let h' : at < length ws = omega arith in starts_at ws ks p.1 at h'
starts_at [] (k ∷ ks) p at h = absurd p
starts_at (w ∷ ws) [] p at h = absurd p

pub get_after : {A : Type 0} (xs ys : List A) (at : ℕ) → slice_get (xs ++ ys) (length xs + at) ≡ slice_get ys at
get_after [] ys at = let e : 0 + at ≡ at = omega arith in ap (slice_get ys) e
get_after (x ∷ xs) ys at =
    let e : length (x ∷ xs) + at ≡ suc (length xs + at) = omega arith in
    ap (slice_get (x ∷ xs ++ ys)) e ∙ get_after xs ys at

-- memories
abbrev pub store_name : Store → List ℕ
store_name s = s.name

abbrev pub StoreCopied : Store → Store → Type 0
StoreCopied s k = k ≡ record s { name = k.name }

pub stores_paired : (instance : List ℕ) (ss : List Store) (b : Building) → Paired StoreCopied ss (stores_copied instance ss b)
stores_paired instance [] b = tt
stores_paired instance (s ∷ ss) b = (refl, stores_paired instance ss (put_store instance s b))

-- cells
pub record CellCopied (k : Copying) (x y : Cell) : Type 0 where
  pub kind : y.kind_name ≡ x.kind_name
  pub params : y.params ≡ copied_params k (cell_kind x) x.params
  pub pins : y.pins ≡ map (copied_pin k.first) x.pins

pub cells_paired : (k : Copying) (cs : List Cell) (b : Building) → Paired (CellCopied k) cs (cell_copies k cs b)
cells_paired k [] b = tt
cells_paired k (c ∷ cs) b = (record { kind = refl; params = refl; pins = refl }, cells_paired k cs (put_cell k c b))

pub kind_same : (x y : Cell) → y.kind_name ≡ x.kind_name → cell_kind y ≡ cell_kind x
unfolding cell_kind
kind_same x y e = ap kind_of e

abbrev pub frame_names : List Cell → List (List ℕ)
frame_names cs = map (λ (f : Frame). f.name) (instances cs)

pub instance_in : (cs : List Cell) (x : Cell) → In x cs → cell_kind x ≡ None → In (frame x.name x.kind_name) (instances cs)
instance_in [] x i e = absurd i
instance_in (c ∷ cs) x (inl s) e =
    In-left (frame x.name x.kind_name) (listed (instance_of c (cell_kind c))) (instances cs) (subst (λ z. In (frame x.name x.kind_name) (listed (instance_of z (cell_kind z)))) s (subst (λ o. In (frame x.name x.kind_name) (listed (instance_of x o))) (sym e) (inl refl)))
instance_in (c ∷ cs) x (inr i) e =
    In-right (frame x.name x.kind_name) (listed (instance_of c (cell_kind c))) (instances cs) (instance_in cs x i e)

pub instance_cell : (cs : List Cell) (f : Frame) → In f (instances cs) → (x : Cell) × In x cs × (cell_kind x ≡ None) × (f ≡ frame x.name x.kind_name)
instance_cell [] f i = absurd i
instance_cell (c ∷ cs) f i =
    ⊎_elim (λ l. by (cell_kind c) refl l) (λ r. let k = instance_cell cs f r in (k.0, inr k.1, k.2, k.3)) (In-cases f (listed (instance_of c (cell_kind c))) (instances cs) i)
  where
    by : (o : Option CellKind) → cell_kind c ≡ o → In f (listed (instance_of c o)) → (x : Cell) × In x (c ∷ cs) × (cell_kind x ≡ None) × (f ≡ frame x.name x.kind_name)
    by (Some kind) e l = absurd l
    by None e (inl s) = (c, inl refl, e, s)
    by None e (inr j) = absurd j

-- each cell has a copy; that of an instance goes by the name that it is renamed to
pub cell_partner : (k : Copying) (cs es : List Cell) → Paired (CellCopied k) cs es → Distinct (frame_names cs) → (x : Cell) → In x cs → (y : Cell) × In y es × CellCopied k x y × (cell_kind x ≡ None → renamed (frame_names cs) (frame_names es) x.name ≡ y.name)
cell_partner k [] [] h d x i = absurd i
cell_partner k (c ∷ cs) (e ∷ es) h d x i =
    by (cell_kind c) (cell_kind e) refl (kind_same c e h.0.kind) (λ u j. cell_partner k cs es h.1 u x j) d i
  where
    Later : Type 0
    Later = (y : Cell) × In y es × CellCopied k x y × (cell_kind x ≡ None → renamed (frame_names cs) (frame_names es) x.name ≡ y.name)

    by : (o o' : Option CellKind) → cell_kind c ≡ o → o' ≡ o → (Distinct (frame_names cs) → In x cs → Later) → Distinct (map (λ (f : Frame). f.name) (listed (instance_of c o) ++ instances cs)) → (x ≡ c) ⊎ In x cs → (y : Cell) × In y (e ∷ es) × CellCopied k x y × (cell_kind x ≡ None → renamed (map (λ (f : Frame). f.name) (listed (instance_of c o) ++ instances cs)) (map (λ (f : Frame). f.name) (listed (instance_of e o') ++ instances es)) x.name ≡ y.name)
    by (Some a) (Some b) q r later u (inl s) = (
      e,
      inl refl,
      subst (λ z. CellCopied k z e) (sym s) h.0,
      λ n. let both : Some a ≡ None = sym q ∙ ap cell_kind (sym s) ∙ n in absurd (cc),
    )
    by (Some a) (Some b) q r later u (inr j) = let m = later u j in (m.0, inr m.1, m.2, m.3)
    by None None q r later u (inl s) = (
      e,
      inl refl,
      subst (λ z. CellCopied k z e) (sym s) h.0,
      λ n. ap (λ (z : Cell). renamed (c.name ∷ frame_names cs) (e.name ∷ frame_names es) z.name) s ∙ renamed_here c.name e.name (frame_names cs) (frame_names es),
    )
    by None None q r later u (inr j) =
        let m = later u.1 j in
        (m.0, inr m.1, m.2, λ n. renamed_on c.name e.name x.name (frame_names cs) (frame_names es) (apart_at c.name (frame_names cs) u.0 x.name (In-map (λ (f : Frame). f.name) (frame x.name x.kind_name) (instances cs) (instance_in cs x j n))) ∙ m.3 n)
    by (Some a) None q r later u j = absurd (cc)
    by None (Some a) q r later u j = absurd (cc)
cell_partner k [] (e ∷ es) h d x i = absurd h
cell_partner k (c ∷ cs) [] h d x i = absurd h

-- a cell of the library that is none of a memory keeps its parameters
pub params_same : (k : Copying) (kind : CellKind) (params : List CellParam) → is_memory_kind kind ≡ false → copied_params k (Some kind) params ≡ params
params_same k (Word kind) params e = refl
params_same k (Gate kind) params e = refl
params_same k (Storage kind) params e = refl
params_same k (StorageGate kind) params e = refl
params_same k (Memory kind) params e = absurd (cc)

pub shape_same : (k : Copying) (x y : Cell) → CellCopied k x y → (kind : CellKind) → cell_kind x ≡ Some kind → is_memory_kind kind ≡ false → cell_shape kind y.params ≡ cell_shape kind x.params
shape_same k x y h kind e m =
    ap (cell_shape kind) (h.params ∙ ap (λ o. copied_params k o x.params) e ∙ params_same k kind x.params m)

-- which memory a copied cell names
chars_renamed : (k : Copying) (v : Value) → chars_in (renamed_value k v) ≡ option_map (renamed k.memories k.copies) (chars_in v)
chars_renamed k (Bits bits signed) = refl
chars_renamed k (Int n) = refl
chars_renamed k (Chars text) = refl

pub memory_renamed : (k : Copying) (params : List CellParam) → memory_name (map (renamed_param k) params) ≡ option_map (renamed k.memories k.copies) (memory_name params)
memory_renamed k [] = refl
memory_renamed k (p ∷ params) = by (bytes_eq p.name (param_text Memid)) refl (memory_renamed k params)
  where
    rest : List CellParam
    rest = map (renamed_param k) params

    new : CellParam
    new = record p { value = renamed_value k p.value }

    seen : Bool → CellParam → List CellParam → Option (List ℕ)
    seen t q qs =
        option_map_or (λ (r : CellParam). chars_in r.value) (cond t (Some q) (find (λ (r : CellParam). bytes_eq r.name (param_text Memid)) qs)) None

    by : (t : Bool) → bytes_eq p.name (param_text Memid) ≡ t → memory_name rest ≡ option_map (renamed k.memories k.copies) (memory_name params) → memory_name (renamed_param k p ∷ rest) ≡ option_map (renamed k.memories k.copies) (memory_name (p ∷ params))
    by true e later =
        ap (λ t. memory_name (cond t new p ∷ rest)) e ∙ ap (λ t. seen t new rest) e ∙ chars_renamed k p.value ∙ ap (λ t. option_map (renamed k.memories k.copies) (seen t p params)) (sym e)
    by false e later =
        ap (λ t. memory_name (cond t new p ∷ rest)) e ∙ ap (λ t. seen t p rest) e ∙ later ∙ ap (λ t. option_map (renamed k.memories k.copies) (seen t p params)) (sym e)

-- the other parameters stay
pub values_stay : (k : Copying) (name : ParamName) → bytes_eq (param_text Memid) (param_text name) ≡ false → (params : List CellParam) → value_in (given_params (map (renamed_param k) params)) name ≡ value_in (given_params params) name
values_stay k name h [] = refl
values_stay k name h (p ∷ params) = by (bytes_eq p.name (param_text Memid)) refl (values_stay k name h params)
  where
    rest : List CellParam
    rest = map (renamed_param k) params

    new : CellParam
    new = record p { value = renamed_value k p.value }

    by : (t : Bool) → bytes_eq p.name (param_text Memid) ≡ t → value_in (given_params rest) name ≡ value_in (given_params params) name → value_in (given_params (renamed_param k p ∷ rest)) name ≡ value_in (given_params (p ∷ params)) name
    by true e later =
        let no : bytes_eq p.name (param_text name) ≡ false = ap (λ z. bytes_eq z (param_text name)) ((bytes_eq-Decides p.name (param_text Memid)).0 e) ∙ h in
        ap (λ t. value_in (given_params (cond t new p ∷ rest)) name) e ∙ ap (λ t. cond t (value_bits (renamed_value k p.value)) (value_in (given_params rest) name)) no ∙ later ∙ ap (λ t. cond t (value_bits p.value) (value_in (given_params params) name)) (sym no)
    by false e later =
        ap (λ t. value_in (given_params (cond t new p ∷ rest)) name) e ∙ ap (λ z. cond (bytes_eq p.name (param_text name)) (value_bits p.value) z) later

pub values_copied : (k : Copying) (kind : Option CellKind) (name : ParamName) → bytes_eq (param_text Memid) (param_text name) ≡ false → (params : List CellParam) → value_in (given_params (copied_params k kind params)) name ≡ value_in (given_params params) name
values_copied k None name h params = refl
values_copied k (Some (Word kind)) name h params = refl
values_copied k (Some (Gate kind)) name h params = refl
values_copied k (Some (Storage kind)) name h params = refl
values_copied k (Some (StorageGate kind)) name h params = refl
values_copied k (Some (Memory kind)) name h params = values_stay k name h params

-- each cell of a memory among these cells names one of these memories
abbrev pub AreOf : List Store → List Cell → Type 0
AreOf stores cells =
    (x : Cell) → In x cells → (kind : MemoryKind) → cell_kind x ≡ Some (Memory kind) → (s : Store) × In s stores × (memory_name x.params ≡ Some s.name)

-- a test of a cell's type that cells of memories alone pass
pub record IsOfKind (test : Cell → Bool) : Type 0 where
  pub memory : (x : Cell) → test x ≡ true → (kind : MemoryKind) × (cell_kind x ≡ Some (Memory kind))
  pub same : (x y : Cell) → y.kind_name ≡ x.kind_name → test y ≡ test x

module _ (test : Cell → Bool) (h : IsOfKind test) where
  -- no cell is of a memory that is none of these
  pub picked_none : (stores : List Store) (name : List ℕ) → ((s : Store) → In s stores → name ≡ s.name → ⊥) → (cells : List Cell) → AreOf stores cells → filter (λ (c : Cell). test c && is_of_memory name c) cells ≡ []
  picked_none stores name n [] a = refl
  picked_none stores name n (c ∷ cells) a =
      by (test c) refl (picked_none stores name n cells (λ x i. a x (inr i)))
    where
      rest : List Cell
      rest = filter (λ (z : Cell). test z && is_of_memory name z) cells

      by : (t : Bool) → test c ≡ t → rest ≡ [] → cond (t && is_of_memory name c) (c ∷ rest) rest ≡ []
      by false e later = later
      by true e later =
          let m = h.memory c e in
          let s = a c (inl refl) m.0 m.1 in
          let no : is_of_memory name c ≡ false = ap (λ z. option_map_or (bytes_eq name) z false) s.2 ∙ bytes_apart name s.0.name (n s.0 s.1) in
          ap (λ t. cond t (c ∷ rest) rest) no ∙ later

  -- a copied cell is of a copied memory just where the cell is of the memory
  pub picked_same : (k : Copying) (stores : List Store) → ((s t : Store) → In s stores → In t stores → renamed k.memories k.copies s.name ≡ renamed k.memories k.copies t.name → s.name ≡ t.name) → (s : Store) → In s stores → (cells : List Cell) → AreOf stores cells → (x y : Cell) → In x cells → CellCopied k x y → (test y && is_of_memory (renamed k.memories k.copies s.name) y) ≡ (test x && is_of_memory s.name x)
  picked_same k stores apart s i cells a x y j g = by (test x) (test y) refl (h.same x y g.kind)
    where
      new : List ℕ → List ℕ
      new name = renamed k.memories k.copies name

      by : (t t' : Bool) → test x ≡ t → t' ≡ t → (t' && is_of_memory (new s.name) y) ≡ (t && is_of_memory s.name x)
      by false false e f = refl
      by true true e f =
          let m = h.memory x e in
          let o = a x j m.0 m.1 in
          let named : memory_name y.params ≡ Some (new o.0.name) = ap memory_name (g.params ∙ ap (λ z. copied_params k z x.params) m.1) ∙ memory_renamed k x.params ∙ ap (option_map (renamed k.memories k.copies)) o.2 in
          ap (λ z. option_map_or (bytes_eq (new s.name)) z false) named ∙ names o.0 o.1 (bytes_eq s.name o.0.name) refl ∙ ap (λ z. option_map_or (bytes_eq s.name) z false) (sym o.2)
        where
          names : (t : Store) → In t stores → (b : Bool) → bytes_eq s.name t.name ≡ b → bytes_eq (new s.name) (new t.name) ≡ bytes_eq s.name t.name
          names t l true q =
              (bytes_eq-Decides (new s.name) (new t.name)).1 (ap new ((bytes_eq-Decides s.name t.name).0 q)) ∙ sym q
          names t l false q =
              bytes_apart (new s.name) (new t.name) (λ w. let both : true ≡ false = sym ((bytes_eq-Decides s.name t.name).1 (apart s t i l w)) ∙ q in absurd (cc)) ∙ sym q
      by true false e f = absurd (cc)
      by false true e f = absurd (cc)

-- no two names go to one where the new names differ
pub new_in : (olds news : List (List ℕ)) → Paired (λ (a b : List ℕ). Unit {0}) olds news → (a : List ℕ) → In a olds → In (renamed olds news a) news
new_in [] [] h a i = absurd i
new_in (o ∷ olds) (w ∷ news) h a i = by (bytes_eq o a) refl (λ j. new_in olds news h.1 a j) i
  where
    by : (t : Bool) → bytes_eq o a ≡ t → (In a olds → In (renamed olds news a) news) → (a ≡ o) ⊎ In a olds → In (cond t w (renamed olds news a)) (w ∷ news)
    by true e later j = inl refl
    by false e later (inl s) =
        let both : true ≡ false = sym (ap (λ z. bytes_eq z a) (sym s) ∙ bytes_same a) ∙ e in
        absurd (cc)
    by false e later (inr j) = inr (later j)
new_in [] (w ∷ news) h a i = absurd h
new_in (o ∷ olds) [] h a i = absurd h

pub renamed_apart : (olds news : List (List ℕ)) → Paired (λ (a b : List ℕ). Unit {0}) olds news → Distinct news → (a b : List ℕ) → In a olds → In b olds → renamed olds news a ≡ renamed olds news b → a ≡ b
renamed_apart [] [] h d a b i j e = absurd i
renamed_apart (o ∷ olds) (w ∷ news) h d a b i j e =
    by (bytes_eq o a) (bytes_eq o b) refl refl (λ r l g. renamed_apart olds news h.1 d.1 a b r l g) i j e
  where
    by : (s t : Bool) → bytes_eq o a ≡ s → bytes_eq o b ≡ t → (In a olds → In b olds → renamed olds news a ≡ renamed olds news b → a ≡ b) → (a ≡ o) ⊎ In a olds → (b ≡ o) ⊎ In b olds → cond s w (renamed olds news a) ≡ cond t w (renamed olds news b) → a ≡ b
    by true true p q later k l g = sym ((bytes_eq-Decides o a).0 p) ∙ (bytes_eq-Decides o b).0 q
    by true false p q later k (inl r) g =
        let both : true ≡ false = sym (ap (λ z. bytes_eq z b) (sym r) ∙ bytes_same b) ∙ q in
        absurd (cc)
    by true false p q later k (inr r) g =
        absurd (apart_at w news d.0 (renamed olds news b) (new_in olds news h.1 b r) g)
    by false true p q later (inl r) l g =
        let both : true ≡ false = sym (ap (λ z. bytes_eq z a) (sym r) ∙ bytes_same a) ∙ p in
        absurd (cc)
    by false true p q later (inr r) l g =
        absurd (apart_at w news d.0 (renamed olds news a) (new_in olds news h.1 a r) (sym g))
    by false false p q later (inl r) l g =
        let both : true ≡ false = sym (ap (λ z. bytes_eq z a) (sym r) ∙ bytes_same a) ∙ p in
        absurd (cc)
    by false false p q later (inr r) (inl l) g =
        let both : true ≡ false = sym (ap (λ z. bytes_eq z b) (sym l) ∙ bytes_same b) ∙ q in
        absurd (cc)
    by false false p q later (inr r) (inr l) g = later r l g
renamed_apart [] (w ∷ news) h d a b i j e = absurd h
renamed_apart (o ∷ olds) [] h d a b i j e = absurd h

pub paired_names : {A B : Type 0} (R : A → B → Type 0) (from : A → List ℕ) (to : B → List ℕ) (xs : List A) (ys : List B) → Paired R xs ys → Paired (λ (a b : List ℕ). Unit {0}) (map from xs) (map to ys)
paired_names R from to [] [] h = tt
paired_names R from to (x ∷ xs) (y ∷ ys) h = (tt, paired_names R from to xs ys h.1)
paired_names R from to [] (y ∷ ys) h = absurd h
paired_names R from to (x ∷ xs) [] h = absurd h

-- each copy is one of some item
pub paired_back : {A B : Type 0} (R : A → B → Type 0) (xs : List A) (ys : List B) → Paired R xs ys → (y : B) → In y ys → (x : A) × In x xs × R x y
paired_back R [] [] h y i = absurd i
paired_back R (a ∷ xs) (b ∷ ys) h y (inl e) = (a, inl refl, subst (R a) (sym e) h.0)
paired_back R (a ∷ xs) (b ∷ ys) h y (inr i) = let k = paired_back R xs ys h.1 y i in (k.0, inr k.1, k.2)
paired_back R [] (b ∷ ys) h y i = absurd h
paired_back R (a ∷ xs) [] h y i = absurd h

-- pairs, one by one, with the names that they go by
pub paired_map : {A B : Type 0} (R Q : A → B → Type 0) → ((x : A) (y : B) → R x y → Q x y) → (xs : List A) (ys : List B) → Paired R xs ys → Paired Q xs ys
paired_map R Q f [] [] h = tt
paired_map R Q f (x ∷ xs) (y ∷ ys) h = (f x y h.0, paired_map R Q f xs ys h.1)
paired_map R Q f [] (y ∷ ys) h = absurd h
paired_map R Q f (x ∷ xs) [] h = absurd h

-- a pair of two lists, with the places at which it stands
abbrev pub PairIn : {A B : Type 0} → (A → B → Type 0) → List A → List B → A → B → Type 0
PairIn R xs ys x y = In x xs × In y ys × R x y

pub pairs_in : {A B : Type 0} (R : A → B → Type 0) (xs : List A) (ys : List B) → Paired R xs ys → Paired (PairIn R xs ys) xs ys
pairs_in R [] [] h = tt
pairs_in R (x ∷ xs) (y ∷ ys) h =
    ((inl refl, inl refl, h.0), paired_map (PairIn R xs ys) (PairIn R (x ∷ xs) (y ∷ ys)) (λ a b k. (inr k.0, inr k.1, k.2)) xs ys (pairs_in R xs ys h.1))
pairs_in R [] (y ∷ ys) h = absurd h
pairs_in R (x ∷ xs) [] h = absurd h

pub pairs_named : {A B : Type 0} (R : A → B → Type 0) (from : A → List ℕ) (to : B → List ℕ) (new : List ℕ → List ℕ) (xs : List A) (ys : List B) → Paired R xs ys → Distinct (map from xs) → ((x : A) → In x xs → new (from x) ≡ renamed (map from xs) (map to ys) (from x)) → Paired (λ (x : A) (y : B). R x y × (new (from x) ≡ to y)) xs ys
pairs_named R from to new [] [] h d e = tt
pairs_named R from to new (x ∷ xs) (y ∷ ys) h d e = (
  (h.0, e x (inl refl) ∙ renamed_here (from x) (to y) (map from xs) (map to ys)),
  pairs_named R from to new xs ys h.1 d.1 (λ a i. e a (inr i) ∙ renamed_on (from x) (to y) (from a) (map from xs) (map to ys) (apart_at (from x) (map from xs) d.0 (from a) (In-map from a xs i))),
)
pairs_named R from to new [] (y ∷ ys) h d e = absurd h
pairs_named R from to new (x ∷ xs) [] h d e = absurd h

-- cells, of which the instances go by names
abbrev pub CellNamed : Copying → (List ℕ → List ℕ) → Cell → Cell → Type 0
CellNamed k new x y = CellCopied k x y × (cell_kind x ≡ None → new x.name ≡ y.name)

pub cells_named_by : (k : Copying) (new : List ℕ → List ℕ) (cs es : List Cell) → Paired (CellCopied k) cs es → Distinct (frame_names cs) → ((x : Cell) → In x cs → cell_kind x ≡ None → new x.name ≡ renamed (frame_names cs) (frame_names es) x.name) → Paired (CellNamed k new) cs es
cells_named_by k new [] [] h d g = tt
cells_named_by k new (c ∷ cs) (e ∷ es) h d g =
    by (cell_kind c) (cell_kind e) refl (kind_same c e h.0.kind) (λ u m. cells_named_by k new cs es h.1 u m) d g
  where
    by : (o o' : Option CellKind) → cell_kind c ≡ o → o' ≡ o → (Distinct (frame_names cs) → ((x : Cell) → In x cs → cell_kind x ≡ None → new x.name ≡ renamed (frame_names cs) (frame_names es) x.name) → Paired (CellNamed k new) cs es) → Distinct (map (λ (f : Frame). f.name) (listed (instance_of c o) ++ instances cs)) → ((x : Cell) → (x ≡ c) ⊎ In x cs → cell_kind x ≡ None → new x.name ≡ renamed (map (λ (f : Frame). f.name) (listed (instance_of c o) ++ instances cs)) (map (λ (f : Frame). f.name) (listed (instance_of e o') ++ instances es)) x.name) → Paired (CellNamed k new) (c ∷ cs) (e ∷ es)
    by (Some a) (Some b) q r later u m =
        ((h.0, λ n. let both : Some a ≡ None = sym q ∙ n in absurd (cc)), later u (λ x i n. m x (inr i) n))
    by None None q r later u m = (
      (h.0, λ n. m c (inl refl) n ∙ renamed_here c.name e.name (frame_names cs) (frame_names es)),
      later u.1 (λ x i n. m x (inr i) n ∙ renamed_on c.name e.name x.name (frame_names cs) (frame_names es) (apart_at c.name (frame_names cs) u.0 x.name (In-map (λ (f : Frame). f.name) (frame x.name x.kind_name) (instances cs) (instance_in cs x i n)))),
    )
    by (Some a) None q r later u m = absurd (cc)
    by None (Some a) q r later u m = absurd (cc)
cells_named_by k new [] (e ∷ es) h d g = absurd h
cells_named_by k new (c ∷ cs) [] h d g = absurd h

pub frames_paired : (k : Copying) (cs es : List Cell) → Paired (CellCopied k) cs es → Paired (λ (a b : List ℕ). Unit {0}) (frame_names cs) (frame_names es)
frames_paired k [] [] h = tt
frames_paired k (c ∷ cs) (e ∷ es) h =
    by (cell_kind c) (cell_kind e) (kind_same c e h.0.kind) (frames_paired k cs es h.1)
  where
    by : (o o' : Option CellKind) → o' ≡ o → Paired (λ (a b : List ℕ). Unit {0}) (frame_names cs) (frame_names es) → Paired (λ (a b : List ℕ). Unit {0}) (map (λ (f : Frame). f.name) (listed (instance_of c o) ++ instances cs)) (map (λ (f : Frame). f.name) (listed (instance_of e o') ++ instances es))
    by (Some a) (Some b) r later = later
    by None None r later = (tt, later)
    by (Some a) None r later = absurd (cc)
    by None (Some a) r later = absurd (cc)
frames_paired k [] (e ∷ es) h = absurd h
frames_paired k (c ∷ cs) [] h = absurd h
