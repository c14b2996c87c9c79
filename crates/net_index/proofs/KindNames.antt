-- The name of a kind is the only one that names it.
use Rattle.std.proofs.Common.{◌≡◌, ℕ, ◌-◌, Bool, true, false, cond, List, [], ◌∷◌, ◌++◌, length, take, drop, Option, Some, None, refl, sym, ◌∙◌, ap}
use Rattle.std.proofs.lemmas.Bool.{eqb-true}
use Rattle.std.proofs.lemmas.List.{take-append-drop}
use Rattle.std.proofs.lemmas.Slice.Eq.{bytes_eq-Decides}
use Rattle.std.specs.Option.{option_map}
use Rattle.std.specs.Prelude.{◌==◌, codes}
use Rattle.std.specs.Str.{byte, bytes_eq}
use Rattle.cell_types.specs.Gate.{gates}
use Rattle.cell_types.specs.Kind.{kind_of, ◌or_else◌}
use Rattle.cell_types.specs.Letters.{families, gate_with, level_of, storage_gate_of, value_of, without_end, ◌>>=◌}
use Rattle.cell_types.specs.Letters.{ff_with, dff_with, dffe_with, sdff_with, sdffe_with, sdffce_with, dffsr_with, dffsre_with, aldff_with, aldffe_with, dlatch_with, dlatchsr_with, sr_with}
use Rattle.cell_types.specs.Memory.{memories, memory_of}
use Rattle.cell_types.specs.Names.{named, prefixed}
use Rattle.cell_types.specs.Storage.{storages, storage_of}
use Rattle.cell_types.specs.Gate.{gate_of}
use Rattle.cell_types.specs.Word.{words, word_of}
use Rattle.cell_types.specs.declared.kind.CellKind.{CellKind}
use Rattle.cell_types.specs.declared.kind.CellKind.TheVariants as Cell
use Rattle.cell_types.specs.declared.level.Level.{Level}
use Rattle.cell_types.specs.declared.level.Level.TheVariants.{Low, High}
use Rattle.cell_types.specs.declared.storage_gate.StorageGate.{StorageGate}
use Rattle.net_index.specs.BuilderNames.{digit_of, gate_name, letter_of, memory_name, name_of, storage_name, store_front, word_name}

some_inj : {A : Type 0} {x y : A} → Some x ≡ Some y → x ≡ y
some_inj e = cc

-- each row of a table has the name that its kind has
abbrev AreNamed : {K : Type 0} → (K → List ℕ) → List (List ℕ × K) → Type 0
AreNamed f [] = Unit {0}
AreNamed f (row ∷ rows) = (row.0 ≡ f row.1) × AreNamed f rows

named_is : {K : Type 0} (f : K → List ℕ) (rows : List (List ℕ × K)) → AreNamed f rows → (name : List ℕ) (k : K) → named rows name ≡ Some k → name ≡ f k
named_is f [] a name k e = absurd (cc)
named_is f (row ∷ rows) a name k e = by (bytes_eq name row.0) refl e (named_is f rows a.1 name k)
  where
    by : (b : Bool) → bytes_eq name row.0 ≡ b → cond b (Some row.1) (named rows name) ≡ Some k → (named rows name ≡ Some k → name ≡ f k) → name ≡ f k
    by true t e ih = (bytes_eq-Decides name row.0).0 t ∙ a.0 ∙ ap f (some_inj e)
    by false t e ih = ih e

-- what a family's text and letters spell is the front of the gate's name
abbrev AreFamilies : {K : Type 0} → (K → List ℕ → Option StorageGate) → List (List ℕ × K) → Type 0
AreFamilies with [] = Unit {0}
AreFamilies with (row ∷ rows) =
    ((letters : List ℕ) (g : StorageGate) → with row.1 letters ≡ Some g → row.0 ++ letters ≡ store_front g) × AreFamilies with rows

prefixed_is : {K : Type 0} (with : K → List ℕ → Option StorageGate) (rows : List (List ℕ × K)) → AreFamilies with rows → (text : List ℕ) (found : K × List ℕ) (g : StorageGate) → prefixed rows text ≡ Some found → with found.0 found.1 ≡ Some g → text ≡ store_front g
prefixed_is with [] a text found g e h = absurd (cc)
prefixed_is with (row ∷ rows) a text found g e h = by (bytes_eq (take (length row.0) text) row.0) refl e (λ e'. prefixed_is with rows a.1 text found g e' h)
  where
    by : (b : Bool) → bytes_eq (take (length row.0) text) row.0 ≡ b → cond b (Some (row.1, drop (length row.0) text)) (prefixed rows text) ≡ Some found → (prefixed rows text ≡ Some found → text ≡ store_front g) → text ≡ store_front g
    by true t e ih =
        sym (take-append-drop (length row.0) text)
        ∙ ap (λ front. front ++ drop (length row.0) text) ((bytes_eq-Decides (take (length row.0) text) row.0).0 t)
        ∙ a.0 (drop (length row.0) text) g (ap (λ r. with r.0 r.1) (some_inj e) ∙ h)
    by false t e ih = ih e

bound : {A B P : Type 0} (o : Option A) (f : A → Option B) (y : B) → (o >>= f) ≡ Some y → ((x : A) → o ≡ Some x → f x ≡ Some y → P) → P
bound None f y e next = absurd (cc)
bound (Some x) f y e next = next x refl e

level_is : (c : ℕ) (l : Level) → level_of c ≡ Some l → c ≡ letter_of l
level_is c l e = by (c == byte "N") refl (c == byte "P") refl e
  where
    by : (a : Bool) → (c == byte "N") ≡ a → (b : Bool) → (c == byte "P") ≡ b → cond a (Some Low) (cond b (Some High) None) ≡ Some l → c ≡ letter_of l
    by true t b u e = eqb-true c _ t ∙ ap letter_of (some_inj e)
    by false t true u e = eqb-true c _ u ∙ ap letter_of (some_inj e)
    by false t false u e = absurd (cc)

value_is : (c : ℕ) (v : Bool) → value_of c ≡ Some v → c ≡ digit_of v
value_is c v e = by (c == byte "0") refl (c == byte "1") refl e
  where
    by : (a : Bool) → (c == byte "0") ≡ a → (b : Bool) → (c == byte "1") ≡ b → cond a (Some false) (cond b (Some true) None) ≡ Some v → c ≡ digit_of v
    by true t b u e = eqb-true c _ t ∙ ap digit_of (some_inj e)
    by false t true u e = eqb-true c _ u ∙ ap digit_of (some_inj e)
    by false t false u e = absurd (cc)

at_level : {B : Type 0} (c : ℕ) (f : Level → Option B) (y : B) (P : Type 0) → (level_of c >>= f) ≡ Some y → ((l : Level) → c ≡ letter_of l → f l ≡ Some y → P) → P
at_level c f y P e next = bound (level_of c) f y e (λ l i h. next l (level_is c l i) h)

at_value : {B : Type 0} (c : ℕ) (f : Bool → Option B) (y : B) (P : Type 0) → (value_of c >>= f) ≡ Some y → ((v : Bool) → c ≡ digit_of v → f v ≡ Some y → P) → P
at_value c f y P e next = bound (value_of c) f y e (λ v i h. next v (value_is c v i) h)

ff_is : (letters : List ℕ) (g : StorageGate) → ff_with letters ≡ Some g → codes "$_FF" ++ letters ≡ store_front g
ff_is [] g e = ap store_front (some_inj e)
ff_is (c0 ∷ more) g e = absurd (cc)

dff_is : (letters : List ℕ) (g : StorageGate) → dff_with letters ≡ Some g → codes "$_DFF_" ++ letters ≡ store_front g
dff_is [] g e = absurd (cc)
dff_is (c0 ∷ []) g e =
    at_level c0 _ g _ e (λ l0 e0 h0. rw e0 (ap store_front (some_inj h0)))
dff_is (c0 ∷ c1 ∷ []) g e = absurd (cc)
dff_is (c0 ∷ c1 ∷ c2 ∷ []) g e =
    at_level c0 _ g _ e (λ l0 e0 h0. at_level c1 _ g _ h0 (λ l1 e1 h1. at_value c2 _ g _ h1 (λ l2 e2 h2. rw (e0, e1, e2) (ap store_front (some_inj h2)))))
dff_is (c0 ∷ c1 ∷ c2 ∷ c3 ∷ more) g e = absurd (cc)

dffe_is : (letters : List ℕ) (g : StorageGate) → dffe_with letters ≡ Some g → codes "$_DFFE_" ++ letters ≡ store_front g
dffe_is [] g e = absurd (cc)
dffe_is (c0 ∷ []) g e = absurd (cc)
dffe_is (c0 ∷ c1 ∷ []) g e =
    at_level c0 _ g _ e (λ l0 e0 h0. at_level c1 _ g _ h0 (λ l1 e1 h1. rw (e0, e1) (ap store_front (some_inj h1))))
dffe_is (c0 ∷ c1 ∷ c2 ∷ []) g e = absurd (cc)
dffe_is (c0 ∷ c1 ∷ c2 ∷ c3 ∷ []) g e =
    at_level c0 _ g _ e (λ l0 e0 h0. at_level c1 _ g _ h0 (λ l1 e1 h1. at_value c2 _ g _ h1 (λ l2 e2 h2. at_level c3 _ g _ h2 (λ l3 e3 h3. rw (e0, e1, e2, e3) (ap store_front (some_inj h3))))))
dffe_is (c0 ∷ c1 ∷ c2 ∷ c3 ∷ c4 ∷ more) g e = absurd (cc)

sdff_is : (letters : List ℕ) (g : StorageGate) → sdff_with letters ≡ Some g → codes "$_SDFF_" ++ letters ≡ store_front g
sdff_is [] g e = absurd (cc)
sdff_is (c0 ∷ []) g e = absurd (cc)
sdff_is (c0 ∷ c1 ∷ []) g e = absurd (cc)
sdff_is (c0 ∷ c1 ∷ c2 ∷ []) g e =
    at_level c0 _ g _ e (λ l0 e0 h0. at_level c1 _ g _ h0 (λ l1 e1 h1. at_value c2 _ g _ h1 (λ l2 e2 h2. rw (e0, e1, e2) (ap store_front (some_inj h2)))))
sdff_is (c0 ∷ c1 ∷ c2 ∷ c3 ∷ more) g e = absurd (cc)

sdffe_is : (letters : List ℕ) (g : StorageGate) → sdffe_with letters ≡ Some g → codes "$_SDFFE_" ++ letters ≡ store_front g
sdffe_is [] g e = absurd (cc)
sdffe_is (c0 ∷ []) g e = absurd (cc)
sdffe_is (c0 ∷ c1 ∷ []) g e = absurd (cc)
sdffe_is (c0 ∷ c1 ∷ c2 ∷ []) g e = absurd (cc)
sdffe_is (c0 ∷ c1 ∷ c2 ∷ c3 ∷ []) g e =
    at_level c0 _ g _ e (λ l0 e0 h0. at_level c1 _ g _ h0 (λ l1 e1 h1. at_value c2 _ g _ h1 (λ l2 e2 h2. at_level c3 _ g _ h2 (λ l3 e3 h3. rw (e0, e1, e2, e3) (ap store_front (some_inj h3))))))
sdffe_is (c0 ∷ c1 ∷ c2 ∷ c3 ∷ c4 ∷ more) g e = absurd (cc)

sdffce_is : (letters : List ℕ) (g : StorageGate) → sdffce_with letters ≡ Some g → codes "$_SDFFCE_" ++ letters ≡ store_front g
sdffce_is [] g e = absurd (cc)
sdffce_is (c0 ∷ []) g e = absurd (cc)
sdffce_is (c0 ∷ c1 ∷ []) g e = absurd (cc)
sdffce_is (c0 ∷ c1 ∷ c2 ∷ []) g e = absurd (cc)
sdffce_is (c0 ∷ c1 ∷ c2 ∷ c3 ∷ []) g e =
    at_level c0 _ g _ e (λ l0 e0 h0. at_level c1 _ g _ h0 (λ l1 e1 h1. at_value c2 _ g _ h1 (λ l2 e2 h2. at_level c3 _ g _ h2 (λ l3 e3 h3. rw (e0, e1, e2, e3) (ap store_front (some_inj h3))))))
sdffce_is (c0 ∷ c1 ∷ c2 ∷ c3 ∷ c4 ∷ more) g e = absurd (cc)

dffsr_is : (letters : List ℕ) (g : StorageGate) → dffsr_with letters ≡ Some g → codes "$_DFFSR_" ++ letters ≡ store_front g
dffsr_is [] g e = absurd (cc)
dffsr_is (c0 ∷ []) g e = absurd (cc)
dffsr_is (c0 ∷ c1 ∷ []) g e = absurd (cc)
dffsr_is (c0 ∷ c1 ∷ c2 ∷ []) g e =
    at_level c0 _ g _ e (λ l0 e0 h0. at_level c1 _ g _ h0 (λ l1 e1 h1. at_level c2 _ g _ h1 (λ l2 e2 h2. rw (e0, e1, e2) (ap store_front (some_inj h2)))))
dffsr_is (c0 ∷ c1 ∷ c2 ∷ c3 ∷ more) g e = absurd (cc)

dffsre_is : (letters : List ℕ) (g : StorageGate) → dffsre_with letters ≡ Some g → codes "$_DFFSRE_" ++ letters ≡ store_front g
dffsre_is [] g e = absurd (cc)
dffsre_is (c0 ∷ []) g e = absurd (cc)
dffsre_is (c0 ∷ c1 ∷ []) g e = absurd (cc)
dffsre_is (c0 ∷ c1 ∷ c2 ∷ []) g e = absurd (cc)
dffsre_is (c0 ∷ c1 ∷ c2 ∷ c3 ∷ []) g e =
    at_level c0 _ g _ e (λ l0 e0 h0. at_level c1 _ g _ h0 (λ l1 e1 h1. at_level c2 _ g _ h1 (λ l2 e2 h2. at_level c3 _ g _ h2 (λ l3 e3 h3. rw (e0, e1, e2, e3) (ap store_front (some_inj h3))))))
dffsre_is (c0 ∷ c1 ∷ c2 ∷ c3 ∷ c4 ∷ more) g e = absurd (cc)

aldff_is : (letters : List ℕ) (g : StorageGate) → aldff_with letters ≡ Some g → codes "$_ALDFF_" ++ letters ≡ store_front g
aldff_is [] g e = absurd (cc)
aldff_is (c0 ∷ []) g e = absurd (cc)
aldff_is (c0 ∷ c1 ∷ []) g e =
    at_level c0 _ g _ e (λ l0 e0 h0. at_level c1 _ g _ h0 (λ l1 e1 h1. rw (e0, e1) (ap store_front (some_inj h1))))
aldff_is (c0 ∷ c1 ∷ c2 ∷ more) g e = absurd (cc)

aldffe_is : (letters : List ℕ) (g : StorageGate) → aldffe_with letters ≡ Some g → codes "$_ALDFFE_" ++ letters ≡ store_front g
aldffe_is [] g e = absurd (cc)
aldffe_is (c0 ∷ []) g e = absurd (cc)
aldffe_is (c0 ∷ c1 ∷ []) g e = absurd (cc)
aldffe_is (c0 ∷ c1 ∷ c2 ∷ []) g e =
    at_level c0 _ g _ e (λ l0 e0 h0. at_level c1 _ g _ h0 (λ l1 e1 h1. at_level c2 _ g _ h1 (λ l2 e2 h2. rw (e0, e1, e2) (ap store_front (some_inj h2)))))
aldffe_is (c0 ∷ c1 ∷ c2 ∷ c3 ∷ more) g e = absurd (cc)

dlatch_is : (letters : List ℕ) (g : StorageGate) → dlatch_with letters ≡ Some g → codes "$_DLATCH_" ++ letters ≡ store_front g
dlatch_is [] g e = absurd (cc)
dlatch_is (c0 ∷ []) g e =
    at_level c0 _ g _ e (λ l0 e0 h0. rw e0 (ap store_front (some_inj h0)))
dlatch_is (c0 ∷ c1 ∷ []) g e = absurd (cc)
dlatch_is (c0 ∷ c1 ∷ c2 ∷ []) g e =
    at_level c0 _ g _ e (λ l0 e0 h0. at_level c1 _ g _ h0 (λ l1 e1 h1. at_value c2 _ g _ h1 (λ l2 e2 h2. rw (e0, e1, e2) (ap store_front (some_inj h2)))))
dlatch_is (c0 ∷ c1 ∷ c2 ∷ c3 ∷ more) g e = absurd (cc)

dlatchsr_is : (letters : List ℕ) (g : StorageGate) → dlatchsr_with letters ≡ Some g → codes "$_DLATCHSR_" ++ letters ≡ store_front g
dlatchsr_is [] g e = absurd (cc)
dlatchsr_is (c0 ∷ []) g e = absurd (cc)
dlatchsr_is (c0 ∷ c1 ∷ []) g e = absurd (cc)
dlatchsr_is (c0 ∷ c1 ∷ c2 ∷ []) g e =
    at_level c0 _ g _ e (λ l0 e0 h0. at_level c1 _ g _ h0 (λ l1 e1 h1. at_level c2 _ g _ h1 (λ l2 e2 h2. rw (e0, e1, e2) (ap store_front (some_inj h2)))))
dlatchsr_is (c0 ∷ c1 ∷ c2 ∷ c3 ∷ more) g e = absurd (cc)

sr_is : (letters : List ℕ) (g : StorageGate) → sr_with letters ≡ Some g → codes "$_SR_" ++ letters ≡ store_front g
sr_is [] g e = absurd (cc)
sr_is (c0 ∷ []) g e = absurd (cc)
sr_is (c0 ∷ c1 ∷ []) g e =
    at_level c0 _ g _ e (λ l0 e0 h0. at_level c1 _ g _ h0 (λ l1 e1 h1. rw (e0, e1) (ap store_front (some_inj h1))))
sr_is (c0 ∷ c1 ∷ c2 ∷ more) g e = absurd (cc)

all_families : AreFamilies gate_with families
all_families = (ff_is, (dff_is, (dffe_is, (sdff_is, (sdffe_is, (sdffce_is, (dffsr_is, (dffsre_is, (aldff_is, (aldffe_is, (dlatch_is, (dlatchsr_is, (sr_is, tt)))))))))))))

end_is : (name body : List ℕ) → without_end name ≡ Some body → name ≡ body ++ codes "_"
end_is name body e = by (bytes_eq (drop (length name - 1) name) (codes "_")) refl e
  where
    by : (b : Bool) → bytes_eq (drop (length name - 1) name) (codes "_") ≡ b → cond b (Some (take (length name - 1) name)) None ≡ Some body → name ≡ body ++ codes "_"
    by true t e =
        sym (take-append-drop (length name - 1) name) ∙ ap (λ end. take (length name - 1) name ++ end) ((bytes_eq-Decides (drop (length name - 1) name) (codes "_")).0 t) ∙ ap (λ front. front ++ codes "_") (some_inj e)
    by false t e = absurd (cc)

storage_gate_is : (name : List ℕ) (g : StorageGate) → storage_gate_of name ≡ Some g → name ≡ store_front g ++ codes "_"
storage_gate_is name g e =
    bound (without_end name) _ g e (λ body i h.
    bound (prefixed families body) _ g h (λ found j k.
    end_is name body i ∙ ap (λ front. front ++ codes "_") (prefixed_is gate_with families all_families body found g j k)))

split : {A P : Type 0} (f : A → CellKind) (o : Option A) (rest : Option CellKind) (kind : CellKind) → (option_map f o or_else rest) ≡ Some kind → ((x : A) → o ≡ Some x → f x ≡ kind → P) → (rest ≡ Some kind → P) → P
split f None rest kind e here there = there e
split f (Some x) rest kind e here there = here x refl (some_inj e)

mapped : {A P : Type 0} (f : A → CellKind) (o : Option A) (kind : CellKind) → option_map f o ≡ Some kind → ((x : A) → o ≡ Some x → f x ≡ kind → P) → P
mapped f None kind e here = absurd (cc)
mapped f (Some x) kind e here = here x refl (some_inj e)

pub kind_named : (name : List ℕ) (kind : CellKind) → kind_of name ≡ Some kind → name ≡ name_of kind
kind_named name kind e =
    split Cell.StorageGate (storage_gate_of name) _ kind e (λ x i k. storage_gate_is name x i ∙ ap name_of k) (λ e1.
    split Cell.Gate (gate_of name) _ kind e1 (λ x i k. named_is gate_name gates (refl, (refl, (refl, (refl, (refl, (refl, (refl, (refl, (refl, (refl, (refl, (refl, tt)))))))))))) name x i ∙ ap name_of k) (λ e2.
    split Cell.Word (word_of name) _ kind e2 (λ x i k. named_is word_name words (refl, (refl, (refl, (refl, (refl, (refl, (refl, (refl, (refl, (refl, (refl, (refl, (refl, (refl, (refl, (refl, (refl, (refl, (refl, (refl, (refl, (refl, (refl, (refl, (refl, (refl, (refl, (refl, (refl, (refl, (refl, (refl, (refl, (refl, (refl, (refl, (refl, (refl, (refl, (refl, (refl, (refl, tt)))))))))))))))))))))))))))))))))))))))))) name x i ∙ ap name_of k) (λ e3.
    split Cell.Storage (storage_of name) _ kind e3 (λ x i k. named_is storage_name storages (refl, (refl, (refl, (refl, (refl, (refl, (refl, (refl, (refl, (refl, (refl, (refl, (refl, (refl, (refl, (refl, tt)))))))))))))))) name x i ∙ ap name_of k) (λ e4.
    mapped Cell.Memory (memory_of name) kind e4 (λ x i k. named_is memory_name memories (refl, (refl, (refl, (refl, (refl, tt))))) name x i ∙ ap name_of k)))))
