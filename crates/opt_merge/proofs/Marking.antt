-- Cells that are late.
use Rattle.std.proofs.Common.{◌≡◌, ℕ, ◌<◌, ◌+◌, List, [], ◌∷◌, ◌++◌, length, get_or, take, Some, None, refl, sym, ◌∙◌, ap, subst, ⊎_elim}
use Rattle.std.specs.Prelude.{slice_index_or}
use Rattle.rtl_ir.specs.declared.module.Link.{Link}
use Rattle.rtl_ir.specs.declared.wire.Wire.{Wire}
use Rattle.net_model.specs.Lists.{In}
use Rattle.net_model.proofs.Members.{In-cases}
use Rattle.opt_merge.specs.Among.{AreAmong}
use Rattle.opt_merge.specs.declared.entries.Entries.{Entries}
use Rattle.opt_merge.specs.Entries.{IsMarked, JoinsEntries, KeepsNotes, Marks, StaysLate}
use Rattle.opt_merge.specs.Late.{late_at}
use Rattle.opt_merge.specs.View.{IsView}
use Rattle.opt_merge.proofs.Sofar.{take_next}

-- what is marked where the notes are the same
marked_same : (old mid new : Entries) (at : ℕ) → KeepsNotes old mid → IsMarked mid new at → IsMarked old new at
marked_same old mid new at notes is kind e =
    subst (λ ls. In at (late_at new.late (slice_index_or ls.items at 0))) notes.lengths (is kind (ap (λ ks. slice_index_or ks.items at None) notes.kinds ∙ e))

stays_same : (old mid new : Entries) → KeepsNotes old mid → StaysLate mid new → StaysLate old new
stays_same old mid new notes stays row at i = stays row at (subst (λ l. In at (late_at l row)) (sym notes.late) i)

-- a connection more, and then its readers are late
pub joins : (old mid new : Entries) (wires : List Wire) (links : List Link) (places : List ℕ) → IsView mid.view wires links → mid.table ≡ old.table → KeepsNotes old mid → Marks mid new places
    → JoinsEntries old new wires links places
joins old mid new wires links places view table notes marks = record {
  view = subst (λ v. IsView v wires links) (sym marks.view) view;
  marked = λ at i. marked_same old mid new at notes (marks.marked at i);
  stays = stays_same old mid new notes marks.stays;
  table = marks.table ∙ table;
  kinds = marks.kinds ∙ notes.kinds;
  lengths = marks.lengths ∙ notes.lengths;
}

-- nothing is marked yet
pub marks_none : (e : Entries) → Marks e e []
marks_none e = record { marked = λ at i. absurd i; stays = λ row at i. i; view = refl; table = refl; kinds = refl; lengths = refl }

-- one after the other
pub marks_both : (a b c : Entries) (xs ys : List ℕ) → Marks a b xs → Marks b c ys → Marks a c (xs ++ ys)
marks_both a b c xs ys h k = record {
  marked = λ at i. ⊎_elim (λ j. first at (h.marked at j)) (λ j. second at (k.marked at j)) (In-cases at xs ys i);
  stays = λ row at i. k.stays row at (h.stays row at i);
  view = k.view ∙ h.view;
  table = k.table ∙ h.table;
  kinds = k.kinds ∙ h.kinds;
  lengths = k.lengths ∙ h.lengths;
}
  where
    first : (at : ℕ) → IsMarked a b at → IsMarked a c at
    first at is kind e = k.stays (slice_index_or a.lengths.items at 0) at (is kind e)

    second : (at : ℕ) → IsMarked b c at → IsMarked a c at
    second at is kind e = subst (λ ls. In at (late_at c.late (slice_index_or ls.items at 0))) h.lengths (is kind (ap (λ ks. slice_index_or ks.items at None) h.kinds ∙ e))

-- a place more of a list
pub marks_next : (a b c : Entries) (places : List ℕ) (i d : ℕ) → i < length places → Marks a b (take i places) → Marks b c (get_or places i d ∷ []) → Marks a c (take (i + 1) places)
marks_next a b c places i d lt h k = subst (Marks a c) (sym (take_next places i d (get_or places i d) lt refl)) (marks_both a b c (take i places) (get_or places i d ∷ []) h k)

-- a place whose cell's kind is noted
pub marks_one : (old new : Entries) (at row : ℕ) → row ≡ slice_index_or old.lengths.items at 0 → In at (late_at new.late row) → StaysLate old new
    → new.view ≡ old.view → new.table ≡ old.table → new.kinds ≡ old.kinds → new.lengths ≡ old.lengths → Marks old new (at ∷ [])
marks_one old new at row is own stays view table kinds lengths = record {
  marked = λ k i. ⊎_elim (here k) (λ bot. absurd bot) i;
  stays = stays;
  view = view;
  table = table;
  kinds = kinds;
  lengths = lengths;
}
  where
    here : (k : ℕ) → k ≡ at → IsMarked old new k
    here k same kind e = subst (λ z. In z (late_at new.late (slice_index_or old.lengths.items z 0))) (sym same) (subst (λ n. In at (late_at new.late n)) is own)

-- a place whose cell's kind is not noted
pub marks_nothing : (e : Entries) (at : ℕ) → slice_index_or e.kinds.items at None ≡ None → Marks e e (at ∷ [])
marks_nothing e at none = record { marked = λ k i. ⊎_elim (here k) (λ bot. absurd bot) i; stays = λ row k i. i; view = refl; table = refl; kinds = refl; lengths = refl }
  where
    here : (k : ℕ) → k ≡ at → IsMarked e e k
    here k same kind f = absurd (let g : None ≡ Some kind = sym none ∙ ap (λ z. slice_index_or e.kinds.items z None) (sym same) ∙ f in cc)

-- places among others
pub marks_among : (old new : Entries) (places others : List ℕ) → Marks old new others → AreAmong places others → Marks old new places
marks_among old new places others marks among = record {
  marked = λ at i. marks.marked at (among at i);
  stays = marks.stays;
  view = marks.view;
  table = marks.table;
  kinds = marks.kinds;
  lengths = marks.lengths;
}
