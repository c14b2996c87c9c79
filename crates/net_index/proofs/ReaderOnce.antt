-- A connection that is added for each bit of its right side, once.
use Rattle.std.proofs.Common.{◌≡◌, ℕ, ◌+◌, ◌<◌, ◌≤◌, Bool, true, false, cond, ◌||◌, leb, List, [], ◌∷◌, ◌++◌, length, get_or, set, drop, Some, None, refl, sym, ◌∙◌, ap, subst, inl, inr, arith}
use Rattle.std.proofs.lemmas.Bool.{cases_eq, eq-eqb, eqb-true, le-leb, lt-leb}
use Rattle.std.proofs.lemmas.List.{append-nil, drop_all, get_or_default, get_or-set_same, get_or-set_other}
use Rattle.rtl_bits.specs.declared.bit.Bit.{Bit}
use Rattle.rtl_sig.specs.declared.sig.SigBit.{SigBit}
use Rattle.rtl_sig.specs.declared.sig.SigBit.TheVariants as sig
use Rattle.rtl_sig.specs.declared.sig.WireBit.{WireBit}
use Rattle.rtl_ir.specs.Signals.{has_bit, same_bit, wire_bits}
use Rattle.net_index.specs.declared.reader.Reader.{Reader}
use Rattle.net_index.specs.declared.reader.Reader.TheVariants as reader
use Rattle.net_index.specs.declared.reader_fill.BitReader.{BitReader}
use Rattle.net_index.specs.Numbering.{bit_count, number_of}
use Rattle.net_index.specs.ReaderFill.{Adds, AreBelow, readers_at}
use Rattle.net_index.specs.ReaderLinks.{AddsLink, AreMarks, left_by_link, readers_by_link}
use Rattle.net_index.proofs.DriverMarks.{turned}
use Rattle.net_index.proofs.IndexDrives.{here}
use Rattle.net_index.proofs.ReaderAdds.{not_numbered, one_added, same_number}

-- what is left of the connection for another bit
left_other : (marks : List ℕ) (link : ℕ) (bit b : WireBit) (rest : List SigBit) (k : ℕ) → same_bit b bit ≡ false
    → left_by_link marks link (sig.Wire bit ∷ rest) b k ≡ left_by_link marks link rest b k
left_other marks link bit b rest k e = ap (λ t. cond (leb (get_or marks k 0) link) (cond (t || has_bit (wire_bits rest) b) (reader.Link link ∷ []) []) []) e

-- a bit that no wire has
pub once_none : (widths : List ℕ) (link : ℕ) (bit : WireBit) (list : List BitReader) (marks : List ℕ) → number_of widths bit ≡ None
    → AddsLink widths link bit list marks list marks
once_none widths link bit list marks none =
    record {
      below = λ all. all;
      marked = λ are. are;
      readers = λ b k e rest.
          ap (λ rs. readers_at list k ++ rs) (sym (left_other marks link bit b rest k (turned b bit ∙ not_numbered widths bit b k none e)));
    }

-- a bit for which the connection was added before
pub once_marked : (widths : List ℕ) (link : ℕ) (bit : WireBit) (list : List BitReader) (marks : List ℕ) (n : ℕ) → number_of widths bit ≡ Some n
    → link < get_or marks n 0 → AddsLink widths link bit list marks list marks
once_marked widths link bit list marks n own late =
    record {
      below = λ all. all;
      marked = λ are. are;
      readers = λ b k e rest. ap (λ rs. readers_at list k ++ rs) (by b k e rest (same_bit b bit) refl);
    }
  where
    by : (b : WireBit) (k : ℕ) → number_of widths b ≡ Some k → (rest : List SigBit) (t : Bool) → same_bit b bit ≡ t
        → left_by_link marks link rest b k ≡ left_by_link marks link (sig.Wire bit ∷ rest) b k
    by b k e rest false f = sym (left_other marks link bit b rest k f)
    by b k e rest true f =
        let same : n ≡ k = eqb-true n k (same_number widths bit b n k own e ∙ turned bit b ∙ f) in
        let none : leb (get_or marks k 0) link ≡ false = subst (λ i. leb (get_or marks i 0) link ≡ false) same (lt-leb (get_or marks n 0) link late) in
        rw none refl

-- a bit for which it is added now
pub once_added : (widths : List ℕ) (link : ℕ) (bit : WireBit) (list : List BitReader) (marks : List ℕ) (n : ℕ) → number_of widths bit ≡ Some n
    → n < bit_count widths → n < length marks → get_or marks n 0 ≤ link
    → AddsLink widths link bit list marks (list ++ record { number = n; reader = reader.Link link } ∷ []) (set marks n (link + 1))
once_added widths link bit list marks n own within inside early =
    let one = one_added widths list bit n (reader.Link link) own within in
    record {
      below = one.below;
      marked = λ are k. marks_after are k;
      readers = λ b k e rest.
          ap (λ rs. rs ++ left_by_link (set marks n (link + 1)) link rest b k) (one.readers b k e)
          ∙ by b k e rest (same_bit b bit) refl;
    }
  where
    marks_after : AreMarks (link + 1) marks → (k : ℕ) → get_or (set marks n (link + 1)) k 0 ≤ link + 1
    marks_after are k = elim (cases_eq k n) [
      | inl e ↦ let g : get_or (set marks n (link + 1)) n 0 ≡ link + 1 = get_or-set_same marks n (link + 1) 0 inside in subst (λ i. get_or (set marks n (link + 1)) i 0 ≤ link + 1) (sym e) (omega arith)
      | inr ne ↦ let g : get_or (set marks n (link + 1)) k 0 ≡ get_or marks k 0 = get_or-set_other marks n k (link + 1) 0 ne in let h : get_or marks k 0 ≤ link + 1 = are k in omega arith
    ]

    by : (b : WireBit) (k : ℕ) → number_of widths b ≡ Some k → (rest : List SigBit) (t : Bool) → same_bit b bit ≡ t
        → (readers_at list k ++ cond (same_bit bit b) (reader.Link link ∷ []) []) ++ left_by_link (set marks n (link + 1)) link rest b k
        ≡ readers_at list k ++ left_by_link marks link (sig.Wire bit ∷ rest) b k
    by b k e rest false f =
        let g : same_bit bit b ≡ false = turned bit b ∙ f in
        let ne : k ≡ n → ⊥ = λ same. (let h : same_bit bit b ≡ true = sym (same_number widths bit b n k own e) ∙ eq-eqb n k (sym same) in cc) in
        rw (g, append-nil (readers_at list k), get_or-set_other marks n k (link + 1) 0 ne, left_other marks link bit b rest k f) refl
    by b k e rest true f =
        let g : same_bit bit b ≡ true = turned bit b ∙ f in
        let same : n ≡ k = eqb-true n k (same_number widths bit b n k own e ∙ g) in
        let after : get_or (set marks n (link + 1)) k 0 ≡ link + 1 = subst (λ i. get_or (set marks n (link + 1)) i 0 ≡ link + 1) same (get_or-set_same marks n (link + 1) 0 inside) in
        let before : leb (get_or marks k 0) link ≡ true = subst (λ i. leb (get_or marks i 0) link ≡ true) same (le-leb (get_or marks n 0) link early) in
        rw (g, after, lt-leb (link + 1) link (omega arith), before, f, append-nil (readers_at list k ++ reader.Link link ∷ [])) refl

-- what is left of a connection, while its right side is gone through
pub record IsLeftOf (widths : List ℕ) (link : ℕ) (right left : List SigBit) (old now : List BitReader) (marked : List ℕ) : Type 0 where
  pub below : AreBelow (bit_count widths) old → AreBelow (bit_count widths) now
  pub marks : AreMarks (link + 1) marked
  pub readers : (b : WireBit) (k : ℕ) → number_of widths b ≡ Some k → readers_at now k ++ left_by_link marked link left b k ≡ readers_at old k ++ readers_by_link link right b

pub link_start : (widths : List ℕ) (link : ℕ) (right : List SigBit) (old : List BitReader) (marks : List ℕ) → AreMarks link marks → IsLeftOf widths link right right old old marks
link_start widths link right old marks are =
    record {
      below = λ all. all;
      marks = λ k. let h : get_or marks k 0 ≤ link = are k in omega arith;
      readers = λ b k e. rw (le-leb (get_or marks k 0) link (are k)) refl;
    }

pub link_bit : (widths : List ℕ) (link : ℕ) (right : List SigBit) (old now next : List BitReader) (marks after : List ℕ) (i : ℕ) (bit : WireBit) (d : SigBit) → i < length right → get_or right i d ≡ sig.Wire bit
    → AddsLink widths link bit now marks next after → IsLeftOf widths link right (drop i right) old now marks → IsLeftOf widths link right (drop (i + 1) right) old next after
link_bit widths link right old now next marks after i bit d h is added before =
    record {
      below = λ all. added.below (before.below all);
      marks = added.marked before.marks;
      readers = λ b k e.
          added.readers b k e (drop (i + 1) right)
          ∙ ap (λ ss. readers_at now k ++ left_by_link marks link ss b k) (sym (here right i (sig.Wire bit) h (sym is ∙ get_or_default right i d (sig.Wire bit) h)))
          ∙ before.readers b k e;
    }

pub link_fixed : (widths : List ℕ) (link : ℕ) (right : List SigBit) (old now : List BitReader) (marks : List ℕ) (i : ℕ) (c : Bit) (d : SigBit) → i < length right → get_or right i d ≡ sig.Fixed c
    → IsLeftOf widths link right (drop i right) old now marks → IsLeftOf widths link right (drop (i + 1) right) old now marks
link_fixed widths link right old now marks i c d h is before =
    record {
      below = before.below;
      marks = before.marks;
      readers = λ b k e.
          ap (λ ss. readers_at now k ++ left_by_link marks link ss b k) (sym (here right i (sig.Fixed c) h (sym is ∙ get_or_default right i d (sig.Fixed c) h)))
          ∙ before.readers b k e;
    }

pub link_end : (widths : List ℕ) (link : ℕ) (right : List SigBit) (old now : List BitReader) (marks : List ℕ) (i : ℕ) → length right ≤ i → IsLeftOf widths link right (drop i right) old now marks
    → Adds widths old (readers_by_link link right) now
link_end widths link right old now marks i h before =
    record {
      below = before.below;
      readers = λ b k e.
          sym (append-nil (readers_at now k))
          ∙ ap (λ rs. readers_at now k ++ rs) (sym (none (leb (get_or marks k 0) link) [] [] refl refl))
          ∙ ap (λ ss. readers_at now k ++ left_by_link marks link ss b k) (sym (drop_all i right h))
          ∙ before.readers b k e;
    }
  where
    none : (t : Bool) (xs ys : List Reader) → xs ≡ [] → ys ≡ [] → cond t xs ys ≡ []
    none true xs ys e f = e
    none false xs ys e f = f
