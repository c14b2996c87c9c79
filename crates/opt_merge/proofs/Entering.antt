-- Cells that are put into a table.
use Rattle.std.proofs.Common.{◌≡◌, ℕ, suc, ◌<◌, ◌≤◌, Bool, true, false, cond, ltb, List, [], ◌∷◌, ◌++◌, length, get_or, min, take, zero, ◌+◌, Option, Some, None, ◌⊎◌, inl, inr, ⊎_elim, refl, sym, ◌∙◌, ap, subst, arith}
use Rattle.std.specs.Str.{bytes_eq}
use Rattle.std.proofs.lemmas.Bool.{ltb-false, ltb-true}
use Rattle.std.proofs.lemmas.Slice.Eq.{bytes_eq-Decides}
use Rattle.rtl_bits.specs.declared.bit.Bit.{Bit}
use Rattle.rtl_sig.specs.declared.sig.SigBit.{SigBit}
use Rattle.cell_types.specs.declared.kind.CellKind.{CellKind}
use Rattle.rtl_ir.specs.declared.cell.Cell.{Cell}
use Rattle.rtl_ir.specs.declared.module.Link.{Link}
use Rattle.net_model.specs.Lists.{In}
use Rattle.net_model.proofs.Members.{In-cases}
use Rattle.opt_merge.specs.declared.table.Table.{Table}
use Rattle.opt_merge.specs.declared.entries.Entries.{Entries}
use Rattle.opt_merge.specs.declared.late.Late.{Late}
use Rattle.opt_merge.specs.Entries.{Enters, EntersPlaces, HasBefore, KeepsNotes, Settles, kind_traits, noted_at}
use Rattle.opt_merge.specs.Late.{late_at}
use Rattle.opt_merge.specs.Rows.{row_of}
use Rattle.opt_merge.specs.Table.{at_row, least}
use Rattle.opt_merge.specs.Traits.{Traits, traits_of}
use Rattle.opt_merge.proofs.Numbers.{row_inj}
use Rattle.opt_merge.proofs.Sofar.{take_next}

-- nothing is put
pub enters_none : (traits : ℕ → Option Traits) (table : Table) → Enters traits table table []
enters_none traits table = record {
  sound = λ t at e. inl e;
  stays = λ row at e. (at, e, omega arith);
  full = λ at i t e. absurd i;
}

-- a place whose cell may not be merged
pub enters_nothing : (traits : ℕ → Option Traits) (table : Table) (at : ℕ) → traits at ≡ None → Enters traits table table (at ∷ [])
enters_nothing traits table at none = record {
  sound = λ t k e. inl e;
  stays = λ row k e. (k, e, omega arith);
  full = λ k i t e. absurd (⊎_elim (λ same. let f : traits at ≡ Some t = subst (λ x. traits x ≡ Some t) same e in cc) (λ bot. bot) i);
}

before_least : (new : Table) (row : List ℕ) (at : ℕ) (o : Option ℕ) → at_row new row ≡ least at o → HasBefore new row at
before_least new row at None e = (at, e, omega arith)
before_least new row at (Some first) e = (min first at, e, omega arith)

-- a cell is put at its row
pub enters_one : (traits : ℕ → Option Traits) (old new : Table) (at : ℕ) (own : Traits) → traits at ≡ Some own
    → ((r : List ℕ) → at_row new r ≡ cond (bytes_eq (row_of own) r) (least at (at_row old r)) (at_row old r)) → Enters traits old new (at ∷ [])
enters_one traits old new at own is put = record {
  sound = λ t k e. sound t k (bytes_eq (row_of own) (row_of t)) refl (sym (put (row_of t)) ∙ e);
  stays = λ row k e. stays row k (bytes_eq (row_of own) row) e (put row);
  full = λ k i t e. full k i t e;
}
  where
    chosen : (t : Traits) (k : ℕ) (o : Option ℕ) → traits at ≡ Some t → least at o ≡ Some k → (o ≡ Some k) ⊎ (traits k ≡ Some t)
    chosen t k None f e = inr (let same : at ≡ k = cc in subst (λ x. traits x ≡ Some t) same f)
    chosen t k (Some first) f e = by (ltb at first) refl
      where
        same : min first at ≡ k
        same = let h : Some (min first at) ≡ Some k = e in cc

        by : (b : Bool) → ltb at first ≡ b → (Some first ≡ Some k) ⊎ (traits k ≡ Some t)
        by true g = let lt = ltb-true at first g in let one : at ≡ k = omega (arith, same) in inr (subst (λ x. traits x ≡ Some t) one f)
        by false g = let le = ltb-false at first g in let one : first ≡ k = omega (arith, same) in inl (ap Some one)

    sound : (t : Traits) (k : ℕ) (b : Bool) → bytes_eq (row_of own) (row_of t) ≡ b → cond b (least at (at_row old (row_of t))) (at_row old (row_of t)) ≡ Some k → (at_row old (row_of t) ≡ Some k) ⊎ (traits k ≡ Some t)
    sound t k true h e =
        let same : own ≡ t = row_inj own t ((bytes_eq-Decides (row_of own) (row_of t)).0 h) in
        chosen t k (at_row old (row_of t)) (is ∙ ap Some same) e
    sound t k false h e = inl e

    stays : (row : List ℕ) (k : ℕ) (b : Bool) → at_row old row ≡ Some k → at_row new row ≡ cond b (least at (at_row old row)) (at_row old row) → HasBefore new row k
    stays row k true e f = (min k at, f ∙ ap (least at) e, omega arith)
    stays row k false e f = (k, f ∙ e, omega arith)

    full : (k : ℕ) → In k (at ∷ []) → (t : Traits) → traits k ≡ Some t → HasBefore new (row_of t) k
    full k (inr bot) t e = absurd bot
    full k (inl same) t e =
        let f : traits at ≡ Some t = subst (λ x. traits x ≡ Some t) same e in
        let one : own ≡ t = (let g : Some own ≡ Some t = sym is ∙ f in cc) in
        let hit : bytes_eq (row_of own) (row_of t) ≡ true = (bytes_eq-Decides (row_of own) (row_of t)).1 (ap row_of one) in
        let b = before_least new (row_of t) at (at_row old (row_of t)) (put (row_of t) ∙ ap (λ x. cond x (least at (at_row old (row_of t))) (at_row old (row_of t))) hit) in
        subst (HasBefore new (row_of t)) (sym same) b

-- one after the other
pub enters_both : (traits : ℕ → Option Traits) (a b c : Table) (xs ys : List ℕ) → Enters traits a b xs → Enters traits b c ys → Enters traits a c (xs ++ ys)
enters_both traits a b c xs ys h k = record {
  sound = λ t at e. ⊎_elim (λ f. h.sound t at f) inr (k.sound t at e);
  stays = λ row at e. later row at (h.stays row at e);
  full = λ at i t e. ⊎_elim (λ i. later (row_of t) at (h.full at i t e)) (λ i. k.full at i t e) (In-cases at xs ys i);
}
  where
    later : (row : List ℕ) (at : ℕ) → HasBefore b row at → HasBefore c row at
    later row at w = let q = k.stays row w.0 w.1 in (q.0, q.1, omega (arith, q.2, w.2))

-- a place more of a list
pub enters_next : (traits : ℕ → Option Traits) (a b c : Table) (places : List ℕ) (i d : ℕ) → i < length places → Enters traits a b (take i places) → Enters traits b c (get_or places i d ∷ [])
    → Enters traits a c (take (i + 1) places)
enters_next traits a b c places i d lt h k =
    subst (Enters traits a c) (sym (take_next places i d (get_or places i d) lt refl)) (enters_both traits a b c (take i places) (get_or places i d ∷ []) h k)

-- what was late was put, or is late still
pub settles : (old new : Entries) (taken : Late) (cells : List Cell) (row : ℕ) (mine : List ℕ) → late_at taken row ≡ []
    → ((other at : ℕ) → In at (late_at old.late other) → In at (late_at taken other) ⊎ In at mine) → KeepsNotes (record old { late = taken }) new
    → EntersPlaces (record old { late = taken }) new cells mine → Settles old new cells row
settles old new taken cells row mine none others notes enters = record {
  none = subst (λ l. late_at l row ≡ []) (sym notes.late) none;
  kinds = notes.kinds;
  lengths = notes.lengths;
  enters = λ wires links view.
      let e = enters wires links view in
      record {
        sound = e.sound;
        stays = e.stays;
        full = λ other at i t f. ⊎_elim (λ j. inr (subst (λ l. In at (late_at l other)) (sym notes.late) j)) (λ j. inl (e.full at j t f)) (others other at i);
      };
}

-- the same where the kinds that are noted stay
pub noted_next : (start : SigBit → Bit) (links : List Link) (cells : List Cell) (ks ls : List (Option CellKind)) → ls ≡ ks → (a b c : Table) (places : List ℕ) (i d : ℕ) → i < length places
    → Enters (noted_at start links ks cells) a b (take i places) → Enters (noted_at start links ls cells) b c (get_or places i d ∷ []) → Enters (noted_at start links ks cells) a c (take (i + 1) places)
noted_next start links cells ks ls same a b c places i d lt h k =
    enters_next (noted_at start links ks cells) a b c places i d lt h (subst (λ z. Enters (noted_at start links z cells) b c (get_or places i d ∷ [])) same k)

-- no cell there
pub past_end : (start : SigBit → Bit) (links : List Link) (kind : CellKind) (cells : List Cell) (at : ℕ) → length cells ≤ at → kind_traits start links kind cells at ≡ None
past_end start links kind [] at h = refl
past_end start links kind (c ∷ cells) zero h = absurd (omega arith)
past_end start links kind (c ∷ cells) (suc at) h = past_end start links kind cells at (omega arith)

pub cell_there : (start : SigBit → Bit) (links : List Link) (kind : CellKind) (cells : List Cell) (at : ℕ) (d : Cell) → at < length cells → kind_traits start links kind cells at ≡ Some (traits_of start links kind (get_or cells at d))
cell_there start links kind [] at d h = absurd (omega arith)
cell_there start links kind (c ∷ cells) zero d h = refl
cell_there start links kind (c ∷ cells) (suc at) d h = cell_there start links kind cells at d (omega arith)
