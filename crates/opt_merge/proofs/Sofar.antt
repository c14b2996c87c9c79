-- What is so of the items of a list so far, and of the next.
use Rattle.std.proofs.Common.{◌≡◌, ℕ, zero, suc, ◌+◌, ◌<◌, ◌≤◌, Bool, true, false, eqb, map, set, List, [], ◌∷◌, ◌++◌, length, get_or, take, drop, Some, None, ⊎_elim, refl, sym, ◌∙◌, ap, subst, arith, add-one}
use Rattle.std.specs.Prelude.{slice_get}
use Rattle.std.proofs.Math.Seq.{drop-cons, take-suc}
use Rattle.std.specs.Global.{Vec}
use Rattle.std.proofs.lemmas.Bool.{eqb-false, eqb-true}
use Rattle.std.proofs.lemmas.List.{take_all}
use Rattle.rtl_sig.specs.declared.sig.SigBit.{SigBit}
use Rattle.cell_types.specs.declared.kind.CellKind.{CellKind}
use Rattle.cell_types.specs.declared.pin_name.PinName.{PinName}
use Rattle.rtl_ir.specs.declared.cell.Cell.{Cell}
use Rattle.rtl_ir.specs.declared.cell.Pin.{Pin}
use Rattle.rtl_ir.specs.declared.module.Link.{Link}
use Rattle.net_model.specs.Lists.{In}
use Rattle.net_model.proofs.Members.{In-cases, In-left}
use Rattle.opt_merge.specs.declared.readers.Readers.{Readers}
use Rattle.opt_merge.specs.Reading.{EachOf, HasReaders, MoreReaders, ReadsBit, ReadsCell, ReadsPin}
use Rattle.opt_merge.specs.Traits.{input_pins, merging_kind}

module _ {A : Type 0} where
  pub take_next : (xs : List A) (at : ℕ) (d item : A) → at < length xs → item ≡ get_or xs at d → take (at + 1) xs ≡ take at xs ++ item ∷ []
  take_next xs at d item lt is = ap (λ n. take n xs) (add-one at) ∙ take-suc xs at d lt ∙ ap (λ x. take at xs ++ x ∷ []) (sym is)

  pub each_next : (P : A → Type 0) (xs : List A) (at : ℕ) (d item : A) → at < length xs → item ≡ get_or xs at d → EachOf P (take at xs) → P item → EachOf P (take (at + 1) xs)
  each_next P xs at d item lt is before here x i =
      ⊎_elim (before x) (λ j. ⊎_elim (λ e. subst P (sym e) here) (λ bot. absurd bot) j) (In-cases x (take at xs) (item ∷ []) (subst (In x) (take_next xs at d item lt is) i))

  pub each_all : (P : A → Type 0) (xs : List A) (at : ℕ) → length xs ≤ at → EachOf P (take at xs) → EachOf P xs
  each_all P xs at h each x i = each x (subst (In x) (sym (take_all at xs h)) i)

  pub get_within : (xs : List A) (at : ℕ) (x : A) → slice_get xs at ≡ Some x → at < length xs
  get_within [] at x e = absurd (cc)
  get_within (y ∷ ys) zero x e = omega arith
  get_within (y ∷ ys) (suc at) x e = omega (arith, get_within ys at x e)

  pub get_beyond : (xs : List A) (at : ℕ) → slice_get xs at ≡ None → length xs ≤ at
  get_beyond [] at e = omega arith
  get_beyond (y ∷ ys) zero e = absurd (cc)
  get_beyond (y ∷ ys) (suc at) e = omega (arith, get_beyond ys at e)

  pub get_there : (xs : List A) (at : ℕ) (x : A) → slice_get xs at ≡ Some x → (d : A) → get_or xs at d ≡ x
  get_there [] at x e d = absurd (cc)
  get_there (y ∷ ys) zero x e d = let same : y ≡ x = cc in same
  get_there (y ∷ ys) (suc at) x e d = get_there ys at x e d

  pub get_at : (xs : List A) (at : ℕ) (d x : A) → at < length xs → x ≡ get_or xs at d → slice_get xs at ≡ Some x
  get_at [] at d x lt e = absurd (omega arith)
  get_at (y ∷ ys) zero d x lt e = ap Some (sym e)
  get_at (y ∷ ys) (suc at) d x lt e = get_at ys at d x (omega arith) e

  pub drop_here : (xs : List A) (at : ℕ) (x : A) → slice_get xs at ≡ Some x → drop at xs ≡ x ∷ drop (at + 1) xs
  drop_here xs at x e =
      drop-cons xs at x (get_within xs at x e) ∙ (λ i. get_there xs at x e x i ∷ drop (sym (add-one at) i) xs)

-- what reads still reads with more readers
pub bit_more : (old new : Readers) (links : List Link) (at : ℕ) → MoreReaders old new → (x : SigBit) → ReadsBit old links at x → ReadsBit new links at x
bit_more old new links at more x h b e = more.keeps b at (h b e)

pub pin_more : (old new : Readers) (links : List Link) (at : ℕ) (pins : List Pin) → MoreReaders old new → (name : PinName) → ReadsPin old links at pins name → ReadsPin new links at pins name
pin_more old new links at pins more name h x i = bit_more old new links at more x (h x i)

pub cell_more : (old new : Readers) (links : List Link) (at : ℕ) (c : Cell) → MoreReaders old new → ReadsCell old links at c → ReadsCell new links at c
cell_more old new links at c more h = record { reads = λ kind own name i. pin_more old new links at c.pins more name (h.reads kind own name i) }

pub more_self : (readers : Readers) → MoreReaders readers readers
more_self readers = record { keeps = λ b at i. i }

pub more_both : (a b c : Readers) → MoreReaders a b → MoreReaders b c → MoreReaders a c
more_both a b c h k = record { keeps = λ x at i. k.keeps x at (h.keeps x at i) }

-- no cell is read of past the end
pub cells_all : (readers : Readers) (links : List Link) (cells : List Cell) (at : ℕ) → length cells ≤ at
    → ((k : ℕ) (c : Cell) → k < at → slice_get cells k ≡ Some c → ReadsCell readers links k c) → HasReaders links cells readers
cells_all readers links cells at h each = record { each = λ k c e. each k c (omega (arith, get_within cells k c e, h)) e }

-- the next item is read too
pub each_read : {A : Type 0} (P : A → Type 0) (xs : List A) (at : ℕ) (d : A) → at < length xs → EachOf P (take at xs) → P (get_or xs at d) → EachOf P (take (at + 1) xs)
each_read P xs at d lt before here = each_next P xs at d (get_or xs at d) lt refl before here

pub cells_next : (old new : Readers) (links : List Link) (cells : List Cell) (at : ℕ) (d : Cell) → MoreReaders old new → ((k : ℕ) (c : Cell) → k < at → slice_get cells k ≡ Some c → ReadsCell old links k c)
    → ReadsCell new links at (get_or cells at d) → (k : ℕ) (c : Cell) → k < at + 1 → slice_get cells k ≡ Some c → ReadsCell new links k c
cells_next old new links cells at d more before here k c lt e = by (eqb k at) refl
  where
    by : (t : Bool) → eqb k at ≡ t → ReadsCell new links k c
    by true f =
        let same = eqb-true k at f in
        subst (λ z. ReadsCell new links z c) (sym same) (subst (ReadsCell new links at) (get_there cells at c (ap (slice_get cells) (sym same) ∙ e) d) here)
    by false f = let apart = eqb-false k at f in cell_more old new links k c more (before k c (omega arith) e)

-- the places of all bits after one more at a number
pub places_set : (inside : List (Vec ℕ)) (number : ℕ) (new : Vec ℕ) → number < length inside → get_or (map (λ (v : Vec ℕ). v.items) (set inside number new)) number [] ≡ new.items
places_set [] number new lt = absurd (omega arith)
places_set (v ∷ vs) zero new lt = refl
places_set (v ∷ vs) (suc number) new lt = places_set vs number new (omega arith)

pub places_grow : (inside : List (Vec ℕ)) (number place : ℕ) (d new : Vec ℕ) → number < length inside → new.items ≡ (get_or inside number d).items ++ place ∷ [] → (k at : ℕ)
    → In at (get_or (map (λ (v : Vec ℕ). v.items) inside) k []) → In at (get_or (map (λ (v : Vec ℕ). v.items) (set inside number new)) k [])
places_grow [] number place d new lt e k at i = absurd (omega arith)
places_grow (v ∷ vs) zero place d new lt e zero at i = subst (In at) (sym e) (In-left at v.items (place ∷ []) i)
places_grow (v ∷ vs) zero place d new lt e (suc k) at i = i
places_grow (v ∷ vs) (suc number) place d new lt e zero at i = i
places_grow (v ∷ vs) (suc number) place d new lt e (suc k) at i = places_grow vs number place d new (omega arith) e k at i

-- an item that is there
pub item_there : {A : Type 0} (xs : List A) (at : ℕ) → at < length xs → (x : A) × (slice_get xs at ≡ Some x)
item_there [] at h = absurd (omega arith)
item_there (x ∷ xs) zero h = (x, refl)
item_there (x ∷ xs) (suc at) h = item_there xs at (omega arith)

-- a cell reads its inputs, those of its kind
pub cell_reads : (readers : Readers) (links : List Link) (at : ℕ) (c : Cell) (kind : CellKind) (names : List PinName) (pins : List Pin) → merging_kind c ≡ Some kind → names ≡ input_pins kind → pins ≡ c.pins
    → EachOf (ReadsPin readers links at pins) names → ReadsCell readers links at c
cell_reads readers links at c kind names pins own is pin h = record {
  reads = λ k other.
      let f : Some kind ≡ Some k = sym own ∙ other in
      let same : kind ≡ k = cc in
      subst (λ z. EachOf (ReadsPin readers links at c.pins) (input_pins z)) same (subst (EachOf (ReadsPin readers links at c.pins)) is (subst (λ ps. EachOf (ReadsPin readers links at ps) names) pin h));
}

pub none_reads : (readers : Readers) (links : List Link) (at : ℕ) (c : Cell) → merging_kind c ≡ None → ReadsCell readers links at c
none_reads readers links at c none = record { reads = λ k own. absurd (let f : None ≡ Some k = sym none ∙ own in cc) }
