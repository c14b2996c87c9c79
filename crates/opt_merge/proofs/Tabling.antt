-- The table of the first cells with their traits, as cells stay and go.
use Rattle.std.proofs.Common.{◌≡◌, ℕ, ◌+◌, ◌<◌, Bool, true, false, cond, List, [], ◌∷◌, ◌++◌, map, length, set, get_or, Option, Some, None, ◌⊎◌, inl, inr, ⊎_elim, refl, sym, ◌∙◌, ap, subst, arith, eqb}
use Rattle.std.specs.Prelude.{slice_get, slice_index_or, option_map}
use Rattle.std.specs.Option.{option_map_or}
use Rattle.std.specs.Str.{bytes_eq}
use Rattle.std.proofs.lemmas.List.{get_or-set_other, get_or-set_same, length-set, map-append}
use Rattle.std.proofs.lemmas.Bool.{eqb-true, eqb-false}
use Rattle.std.proofs.lemmas.Slice.Eq.{bytes_eq-Decides}
use Rattle.rtl_bits.specs.declared.bit.Bit.{Bit}
use Rattle.rtl_sig.specs.declared.sig.SigBit.{SigBit}
use Rattle.cell_types.specs.declared.kind.CellKind.{CellKind}
use Rattle.cell_types.specs.declared.pin_name.PinName.{PinName}
use Rattle.cell_types.specs.PinName.{pin_text}
use Rattle.rtl_ir.specs.declared.cell.Cell.{Cell}
use Rattle.rtl_ir.specs.declared.module.Link.{Link}
use Rattle.rtl_ir.specs.Follow.{all_joins, follow}
use Rattle.rtl_ir.specs.Parameters.{signal_at}
use Rattle.net_model.specs.Lists.{In}
use Rattle.net_model.proofs.Members.{In-cases, In-left, In-right}
use Rattle.opt_merge.specs.declared.table.Table.{Table}
use Rattle.opt_merge.specs.Entries.{AreEnds, HasBefore, IsTable, kind_at, noted_at, traits_at}
use Rattle.opt_merge.specs.Merge.{traits_by}
use Rattle.opt_merge.specs.Rows.{row_of}
use Rattle.opt_merge.specs.State.{AreMeasured, AreNoted, IsRising}
use Rattle.opt_merge.specs.Table.{at_row, least}
use Rattle.opt_merge.specs.Traits.{Traits, input_pins, merging_kind, traits_of}
use Rattle.opt_merge.proofs.Following.{follow_twice}
use Rattle.opt_merge.proofs.Numbers.{row_inj}

-- the inputs of a cell lead to ends
pub In-map-of : {A B : Type 0} (f : A → B) (y : B) (xs : List A) → In y (map f xs) → (x : A) × In x xs × (y ≡ f x)
In-map-of f y [] i = absurd i
In-map-of f y (x ∷ xs) (inl e) = (x, inl refl, e)
In-map-of f y (x ∷ xs) (inr i) = let w = In-map-of f y xs i in (w.0, inr w.1, w.2)

pub are_ends : (start : SigBit → Bit) (links : List Link) (kind : CellKind) (c : Cell) → AreEnds links (traits_of start links kind c)
are_ends start links kind c signal i x j =
    let w = In-map-of (λ (name : PinName). map (follow links) (signal_at c.pins (pin_text name))) signal (input_pins kind) i in
    let v = In-map-of (follow links) x (signal_at c.pins (pin_text w.0)) (subst (In x) w.2 j) in
    subst (λ y. follow links y ≡ y) (sym v.2) (follow_twice (all_joins links) v.0)

-- a place more
pub rising_more : (places : List ℕ) (at : ℕ) → IsRising places → ((p : ℕ) → In p places → p < at) → IsRising (places ++ at ∷ [])
rising_more [] at up below = (λ later i. absurd i, tt)
rising_more (p ∷ ps) at up below =
    (λ later i. ⊎_elim (λ j. up.0 later j) (λ j. ⊎_elim (λ e. let lt = below p (inl refl) in omega (arith, lt, e)) (λ bot. absurd bot) j) (In-cases later ps (at ∷ []) i), rising_more ps at up.1 (λ q j. below q (inr j)))

pub below_more : (places : List ℕ) (at : ℕ) → ((p : ℕ) → In p places → p < at) → (p : ℕ) → In p (places ++ at ∷ []) → p < at + 1
below_more places at below p i = ⊎_elim (λ j. let lt = below p j in omega (arith, lt)) (λ j. ⊎_elim (λ e. omega (arith, e)) (λ bot. absurd bot) j) (In-cases p places (at ∷ []) i)

pub kept_more : (cells : List Cell) (places : List ℕ) (cs : List Cell) (at : ℕ) (c : Cell) → slice_get cells at ≡ Some c
    → map (slice_get cells) places ≡ map Some cs → map (slice_get cells) (places ++ at ∷ []) ≡ map Some (cs ++ c ∷ [])
kept_more cells places cs at c is e =
    map-append (slice_get cells) places (at ∷ []) ∙ (λ i. e i ++ is i ∷ []) ∙ sym (map-append Some cs (c ∷ []))

module _ (traits : ℕ → Option Traits) (links : List Link) (places : List ℕ) (late : ℕ → List ℕ) where
  -- a cell that has no traits stays
  pub table_stay : (table : Table) (at : ℕ) → IsTable traits links places late table → traits at ≡ None → IsTable traits links (places ++ at ∷ []) late table
  table_stay table at t none = record {
    sound = λ own ends p e. let q = t.sound own ends p e in (In-left p places (at ∷ []) q.0, q.1);
    full = λ own ends p i e. ⊎_elim (λ j. t.full own ends p j e) (λ j. absurd (⊎_elim (λ same. let f : traits at ≡ Some own = subst (λ z. traits z ≡ Some own) same e in let g : None ≡ Some own = sym none ∙ f in cc) (λ bot. bot) j)) (In-cases p places (at ∷ []) i);
  }

  -- a cell that is the first with its traits
  pub table_first : (old new : Table) (at : ℕ) (own : Traits) → IsTable traits links places late old → traits at ≡ Some own → at_row old (row_of own) ≡ None
      → ((r : List ℕ) → at_row new r ≡ cond (bytes_eq (row_of own) r) (least at (at_row old r)) (at_row old r)) → IsTable traits links (places ++ at ∷ []) late new
  table_first old new at own t has none put = record {
    sound = λ u ends p e. sound u ends p (bytes_eq (row_of own) (row_of u)) refl (sym (put (row_of u)) ∙ e);
    full = λ u ends p i e. full u ends p e (bytes_eq (row_of own) (row_of u)) refl (put (row_of u)) (In-cases p places (at ∷ []) i);
  }
    where
      same_row : (u : Traits) → bytes_eq (row_of own) (row_of u) ≡ true → own ≡ u
      same_row u f = row_inj own u ((bytes_eq-Decides (row_of own) (row_of u)).0 f)

      sound : (u : Traits) → AreEnds links u → (p : ℕ) (b : Bool) → bytes_eq (row_of own) (row_of u) ≡ b → cond b (least at (at_row old (row_of u))) (at_row old (row_of u)) ≡ Some p
          → In p (places ++ at ∷ []) × (traits p ≡ Some u)
      sound u ends p false f e = let q = t.sound u ends p e in (In-left p places (at ∷ []) q.0, q.1)
      sound u ends p true f e =
          let one = same_row u f in
          let gone : at_row old (row_of u) ≡ None = subst (λ z. at_row old (row_of z) ≡ None) one none in
          let h : Some at ≡ Some p = sym (ap (least at) gone) ∙ e in
          let here : at ≡ p = cc in
          (In-right p places (at ∷ []) (inl (sym here)), subst (λ z. traits z ≡ Some u) here (has ∙ ap Some one))

      full : (u : Traits) → AreEnds links u → (p : ℕ) → traits p ≡ Some u → (b : Bool) → bytes_eq (row_of own) (row_of u) ≡ b
          → at_row new (row_of u) ≡ cond b (least at (at_row old (row_of u))) (at_row old (row_of u)) → In p places ⊎ In p (at ∷ []) → HasBefore new (row_of u) p ⊎ In p (late (length (row_of u)))
      full u ends p e b f g (inr (inr bot)) = absurd bot
      full u ends p e false f g (inl i) = ⊎_elim (λ q. inl (q.0, g ∙ q.1, q.2)) (λ j. inr j) (t.full u ends p i e)
      full u ends p e true f g (inl i) =
          let one = same_row u f in
          ⊎_elim (λ q. absurd (let h : None ≡ Some q.0 = sym (subst (λ z. at_row old (row_of z) ≡ None) one none) ∙ q.1 in cc)) (λ j. inr j) (t.full u ends p i e)
      full u ends p e true f g (inr (inl same)) =
          let one = same_row u f in
          let gone : at_row old (row_of u) ≡ None = subst (λ z. at_row old (row_of z) ≡ None) one none in
          inl (at, g ∙ ap (least at) gone, omega (arith, same))
      full u ends p e false f g (inr (inl same)) =
          let h : Some own ≡ Some u = sym has ∙ subst (λ z. traits z ≡ Some u) same e in
          let one : own ≡ u = cc in
          absurd (let k : bytes_eq (row_of own) (row_of u) ≡ true = (bytes_eq-Decides (row_of own) (row_of u)).1 (ap row_of one) in cc)

-- lengths of rows that are noted
module _ (start : SigBit → Bit) (cells : List Cell) (places lengths : List ℕ) (measured : AreMeasured start cells places lengths) where
  pub measured_stay : (at : ℕ) (c : Cell) → slice_get cells at ≡ Some c → merging_kind c ≡ None → AreMeasured start cells (places ++ at ∷ []) lengths
  measured_stay at c here none = record {
    count = measured.count;
    each = λ p i d is kind own links. ⊎_elim (λ j. measured.each p j d is kind own links) (λ j. absurd (⊎_elim (λ same. clash p d is kind own same) (λ bot. bot) j)) (In-cases p places (at ∷ []) i);
  }
    where
      clash : (p : ℕ) (d : Cell) → slice_get cells p ≡ Some d → (kind : CellKind) → merging_kind d ≡ Some kind → p ≡ at → ⊥
      clash p d is kind own same =
          let f : Some c ≡ Some d = sym here ∙ ap (slice_get cells) (sym same) ∙ is in
          let one : c ≡ d = cc in
          let g : None ≡ Some kind = sym none ∙ ap merging_kind one ∙ own in
          cc

  pub measured_first : (at : ℕ) (c : Cell) (kind : CellKind) (l : ℕ) → slice_get cells at ≡ Some c → merging_kind c ≡ Some kind → at < length cells
      → ((links : List Link) → l ≡ length (row_of (traits_of start links kind c))) → AreMeasured start cells (places ++ at ∷ []) (set lengths at l)
  measured_first at c kind l here own lt long = record {
    count = length-set lengths at l ∙ measured.count;
    each = λ p i d is k own_d links. by p d is k own_d links (eqb p at) refl (In-cases p places (at ∷ []) i);
  }
    where
      inside : at < length lengths
      inside = let n = measured.count in omega (arith, n, lt)

      by : (p : ℕ) (d : Cell) → slice_get cells p ≡ Some d → (k : CellKind) → merging_kind d ≡ Some k → (links : List Link) (b : Bool) → eqb p at ≡ b → In p places ⊎ In p (at ∷ [])
          → slice_index_or (set lengths at l) p 0 ≡ length (row_of (traits_of start links k d))
      by p d is k own_d links true f i =
          let same = eqb-true p at f in
          let g : Some c ≡ Some d = sym here ∙ ap (slice_get cells) (sym same) ∙ is in
          let one : c ≡ d = cc in
          let h : Some kind ≡ Some k = sym own ∙ ap merging_kind one ∙ own_d in
          let kinds : kind ≡ k = cc in
          ap (λ z. get_or (set lengths at l) z 0) same ∙ get_or-set_same lengths at l 0 inside ∙ long links ∙ (λ j. length (row_of (traits_of start links (kinds j) (one j))))
      by p d is k own_d links false f (inl i) =
          let apart = eqb-false p at f in
          get_or-set_other lengths at p l 0 apart ∙ measured.each p i d is k own_d links
      by p d is k own_d links false f (inr (inl same)) = absurd (eqb-false p at f same)
      by p d is k own_d links false f (inr (inr bot)) = absurd bot

-- kinds that are noted
module _ (cells : List Cell) (places : List ℕ) (kinds : List (Option CellKind)) (noted : AreNoted cells places kinds) where
  pub noted_stay : (at : ℕ) → kind_at cells at ≡ None → AreNoted cells (places ++ at ∷ []) kinds
  noted_stay at none = record {
    count = noted.count;
    sound = λ p kind e. let q = noted.sound p kind e in (In-left p places (at ∷ []) q.0, q.1);
    full = λ p kind i e. ⊎_elim (λ j. noted.full p kind j e) (λ j. absurd (⊎_elim (λ same. let f : kind_at cells at ≡ Some kind = subst (λ z. kind_at cells z ≡ Some kind) same e in let g : None ≡ Some kind = sym none ∙ f in cc) (λ bot. bot) j)) (In-cases p places (at ∷ []) i);
  }

  pub noted_first : (at : ℕ) (kind : CellKind) → at < length cells → kind_at cells at ≡ Some kind → AreNoted cells (places ++ at ∷ []) (set kinds at (Some kind))
  noted_first at kind lt own = record {
    count = length-set kinds at (Some kind) ∙ noted.count;
    sound = λ p k e. sound p k (eqb p at) refl e;
    full = λ p k i e. full p k (eqb p at) refl i e;
  }
    where
      inside : at < length kinds
      inside = let n = noted.count in omega (arith, n)

      sound : (p : ℕ) (k : CellKind) (b : Bool) → eqb p at ≡ b → slice_index_or (set kinds at (Some kind)) p None ≡ Some k → In p (places ++ at ∷ []) × (kind_at cells p ≡ Some k)
      sound p k true f e =
          let same = eqb-true p at f in
          let g : Some kind ≡ Some k = sym (get_or-set_same kinds at (Some kind) None inside) ∙ ap (λ z. get_or (set kinds at (Some kind)) z None) (sym same) ∙ e in
          (In-right p places (at ∷ []) (inl same), ap (kind_at cells) same ∙ own ∙ g)
      sound p k false f e =
          let apart = eqb-false p at f in
          let q = noted.sound p k (sym (get_or-set_other kinds at p (Some kind) None apart) ∙ e) in
          (In-left p places (at ∷ []) q.0, q.1)

      full : (p : ℕ) (k : CellKind) (b : Bool) → eqb p at ≡ b → In p (places ++ at ∷ []) → kind_at cells p ≡ Some k → slice_index_or (set kinds at (Some kind)) p None ≡ Some k
      full p k true f i e =
          let same = eqb-true p at f in
          ap (λ z. get_or (set kinds at (Some kind)) z None) same ∙ get_or-set_same kinds at (Some kind) None inside ∙ sym own ∙ ap (kind_at cells) (sym same) ∙ e
      full p k false f i e =
          let apart = eqb-false p at f in
          get_or-set_other kinds at p (Some kind) None apart ∙ noted.full p k (⊎_elim (λ j. j) (λ j. absurd (⊎_elim (λ same. apart same) (λ bot. bot) j)) (In-cases p places (at ∷ []) i)) e

  -- what is noted has its traits, and only that
  pub noted_traits : (start : SigBit → Bit) (links : List Link) (at : ℕ) (t : Traits) → noted_at start links kinds cells at ≡ Some t → In at places × (traits_at start links cells at ≡ Some t)
  noted_traits start links at t e = by (slice_index_or kinds at None) refl e
    where
      by : (o : Option CellKind) → slice_index_or kinds at None ≡ o → option_map_or (λ kind. option_map (traits_of start links kind) (slice_get cells at)) o None ≡ Some t → In at places × (traits_at start links cells at ≡ Some t)
      by None f g = absurd (cc)
      by (Some kind) f g =
          let q = noted.sound at kind f in
          (q.0, on (slice_get cells at) q.1 g)
        where
          on : (o : Option Cell) → option_map_or merging_kind o None ≡ Some kind → option_map (traits_of start links kind) o ≡ Some t → option_map_or (traits_by start links) o None ≡ Some t
          on None h k = absurd (cc)
          on (Some c) h k = ap (option_map (λ z. traits_of start links z c)) h ∙ k

  pub traits_noted : (start : SigBit → Bit) (links : List Link) (at : ℕ) (c : Cell) (kind : CellKind) → In at places → slice_get cells at ≡ Some c → merging_kind c ≡ Some kind
      → noted_at start links kinds cells at ≡ Some (traits_of start links kind c)
  traits_noted start links at c kind i is own =
      let f = noted.full at kind i (ap (λ o. option_map_or merging_kind o None) is ∙ own) in
      ap (λ o. option_map_or (λ k. option_map (traits_of start links k) (slice_get cells at)) o None) f ∙ ap (option_map (traits_of start links kind)) is
