-- Readers that are added to a list, one part behind another.
use Rattle.std.proofs.Common.{◌≡◌, ℕ, ◌+◌, ◌<◌, Bool, true, false, cond, nat_eq, List, [], ◌∷◌, ◌++◌, length, get_or, drop, map, filter, append_assoc, Some, None, refl, sym, ◌∙◌, ap, subst}
use Rattle.std.proofs.lemmas.Bool.{eq-eqb, eqb-true}
use Rattle.std.proofs.lemmas.List.{append-nil, get_or_default, map-append}
use Rattle.std.proofs.lemmas.List.Elements.{All-nil, All-push, filter-append}
use Rattle.rtl_bits.specs.declared.bit.Bit.{Bit}
use Rattle.rtl_sig.specs.declared.sig.SigBit.{SigBit}
use Rattle.rtl_sig.specs.declared.sig.SigBit.TheVariants as sig
use Rattle.rtl_sig.specs.declared.sig.WireBit.{WireBit}
use Rattle.rtl_ir.specs.declared.cell.Cell.{Cell}
use Rattle.rtl_ir.specs.declared.cell.Pin.{Pin}
use Rattle.rtl_ir.specs.declared.module.Link.{Link}
use Rattle.rtl_ir.specs.Signals.{same_bit}
use Rattle.rtl_ir.specs.Types.{CellType, Ports, cell_type}
use Rattle.net_index.specs.declared.reader.Reader.{Reader}
use Rattle.net_index.specs.declared.reader.Reader.TheVariants as reader
use Rattle.net_index.specs.declared.reader_fill.BitReader.{BitReader}
use Rattle.net_index.specs.Numbering.{bit_count, number_of}
use Rattle.net_index.specs.ReaderFill.{Adds, AreBelow, HasReaders, reader_of, readers_at, reads_of_pin}
use Rattle.net_index.specs.ReaderLinks.{readers_by_link}
use Rattle.net_index.specs.Readers.{Read, cell_readers, cell_reads, link_readers, pin_reads, places_read}
use Rattle.net_index.proofs.IndexDrives.{here}
use Rattle.net_index.proofs.IndexTables.{same_bit-refl, same_bit-true}
use Rattle.net_index.proofs.Numbers.{number-inj}

-- the readers of a bit in one list behind another
pub readers_at-append : (xs ys : List BitReader) (k : ℕ) → readers_at (xs ++ ys) k ≡ readers_at xs k ++ readers_at ys k
readers_at-append [] ys k = refl
readers_at-append (x ∷ xs) ys k = by (nat_eq x.number k) (readers_at-append xs ys k)
  where
    by : (t : Bool) → readers_at (xs ++ ys) k ≡ readers_at xs k ++ readers_at ys k
        → cond t (x.reader ∷ readers_at (xs ++ ys) k) (readers_at (xs ++ ys) k) ≡ cond t (x.reader ∷ readers_at xs k) (readers_at xs k) ++ readers_at ys k
    by true rest = ap (λ rs. x.reader ∷ rs) rest
    by false rest = rest

-- bits have one number where they are the same
pub same_number : (widths : List ℕ) (bit b : WireBit) (n k : ℕ) → number_of widths bit ≡ Some n → number_of widths b ≡ Some k → nat_eq n k ≡ same_bit bit b
same_number widths bit b n k own other = by (same_bit bit b) refl
  where
    apart : (t : Bool) → nat_eq n k ≡ t → same_bit bit b ≡ false → t ≡ false
    apart false e f = refl
    apart true e f =
        let same : bit ≡ b = number-inj widths bit b k (own ∙ ap Some (eqb-true n k e)) other in
        absurd (let g : same_bit bit b ≡ true = subst (λ c. same_bit bit c ≡ true) same (same_bit-refl bit) in cc)

    by : (t : Bool) → same_bit bit b ≡ t → nat_eq n k ≡ t
    by true e =
        let f : number_of widths b ≡ Some n = subst (λ c. number_of widths c ≡ Some n) (same_bit-true bit b e) own in
        let g : n ≡ k = cc in
        eq-eqb n k g
    by false e = apart (nat_eq n k) refl e

-- a bit without a number is not one that has a number
pub not_numbered : (widths : List ℕ) (bit b : WireBit) (k : ℕ) → number_of widths bit ≡ None → number_of widths b ≡ Some k → same_bit bit b ≡ false
not_numbered widths bit b k none some = by (same_bit bit b) refl
  where
    by : (t : Bool) → same_bit bit b ≡ t → t ≡ false
    by true e = absurd (let f : number_of widths b ≡ None = subst (λ c. number_of widths c ≡ None) (same_bit-true bit b e) none in cc)
    by false e = refl

-- one more reader
pub one_added : (widths : List ℕ) (list : List BitReader) (bit : WireBit) (n : ℕ) (r : Reader) → number_of widths bit ≡ Some n → n < bit_count widths
    → Adds widths list (reader_of bit r) (list ++ record { number = n; reader = r } ∷ [])
one_added widths list bit n r own within =
    record {
      below = λ all. All-push (λ (x : BitReader). x.number < bit_count widths) list (record { number = n; reader = r }) all within;
      readers = λ b k e.
          readers_at-append list (record { number = n; reader = r } ∷ []) k
          ∙ ap (λ t. readers_at list k ++ cond t (r ∷ []) []) (same_number widths bit b n k own e);
    }

pub none_added : (widths : List ℕ) (list : List BitReader) (bit : WireBit) (r : Reader) → number_of widths bit ≡ None → Adds widths list (reader_of bit r) list
none_added widths list bit r none =
    record {
      below = λ all. all;
      readers = λ b k e.
          sym (append-nil (readers_at list k)) ∙ ap (λ t. readers_at list k ++ cond t (r ∷ []) []) (sym (not_numbered widths bit b k none e));
    }

-- nothing more
pub nothing_added : (widths : List ℕ) (list : List BitReader) → Adds widths list (λ b. []) list
nothing_added widths list = record { below = λ all. all; readers = λ b k e. sym (append-nil (readers_at list k)) }

-- the list so far, and what is still to be added, are all
pub record IsLeft (widths : List ℕ) (old : List BitReader) (all : WireBit → List Reader) (now : List BitReader) (left : WireBit → List Reader) : Type 0 where
  pub below : AreBelow (bit_count widths) old → AreBelow (bit_count widths) now
  pub readers : (b : WireBit) (k : ℕ) → number_of widths b ≡ Some k → readers_at now k ++ left b ≡ readers_at old k ++ all b

pub left_start : (widths : List ℕ) (old : List BitReader) (all : WireBit → List Reader) → IsLeft widths old all old all
left_start widths old all = record { below = λ h. h; readers = λ b k e. refl }

pub left_next : (widths : List ℕ) (old now next : List BitReader) (all left own rest : WireBit → List Reader) → ((b : WireBit) → left b ≡ own b ++ rest b)
    → Adds widths now own next → IsLeft widths old all now left → IsLeft widths old all next rest
left_next widths old now next all left own rest parts added before =
    record {
      below = λ h. added.below (before.below h);
      readers = λ b k e.
          ap (λ rs. rs ++ rest b) (added.readers b k e) ∙ append_assoc (readers_at now k) (own b) (rest b)
          ∙ ap (λ rs. readers_at now k ++ rs) (sym (parts b)) ∙ before.readers b k e;
    }

pub left_end : (widths : List ℕ) (old now : List BitReader) (all left : WireBit → List Reader) → ((b : WireBit) → left b ≡ []) → IsLeft widths old all now left → Adds widths old all now
left_end widths old now all left none before =
    record {
      below = before.below;
      readers = λ b k e.
          sym (append-nil (readers_at now k)) ∙ ap (λ rs. readers_at now k ++ rs) (sym (none b)) ∙ before.readers b k e;
    }

-- two parts in a list that had nothing
pub both_added : (widths : List ℕ) (mid new : List BitReader) (f g : WireBit → List Reader) → Adds widths [] f mid → Adds widths mid g new → HasReaders widths new (λ b. f b ++ g b)
both_added widths mid new f g first second =
    record {
      below = second.below (first.below (All-nil (λ (x : BitReader). x.number < bit_count widths)));
      readers = λ b k e. second.readers b k e ∙ ap (λ rs. rs ++ g b) (first.readers b k e);
    }

-- the readers of a bit among one list of reads and another
pub cell_readers-append : (xs ys : List Read) (b : WireBit) → cell_readers (xs ++ ys) b ≡ cell_readers xs b ++ cell_readers ys b
cell_readers-append xs ys b =
    ap (map (λ (r : Read). reader.Cell r.place)) (filter-append (λ (r : Read). same_bit r.bit b) xs ys)
    ∙ map-append (λ (r : Read). reader.Cell r.place) (filter (λ (r : Read). same_bit r.bit b) xs) (filter (λ (r : Read). same_bit r.bit b) ys)

-- what is left from the next item on
pub next_cell : (ports : Ports) (cells : List Cell) (i : ℕ) (c : Cell) → i < length cells → c ≡ get_or cells i c
    → (b : WireBit) → cell_readers (cell_reads ports i (drop i cells)) b
    ≡ cell_readers (pin_reads (cell_type ports c.kind_name) i 0 c.pins) b ++ cell_readers (cell_reads ports (i + 1) (drop (i + 1) cells)) b
next_cell ports cells i c h is b =
    ap (λ cs. cell_readers (cell_reads ports i cs) b) (here cells i c h is)
    ∙ cell_readers-append (pin_reads (cell_type ports c.kind_name) i 0 c.pins) (cell_reads ports (i + 1) (drop (i + 1) cells)) b

pub next_pin : (type : CellType) (cell : ℕ) (pins : List Pin) (i : ℕ) (p : Pin) → i < length pins → p ≡ get_or pins i p
    → (b : WireBit) → cell_readers (pin_reads type cell i (drop i pins)) b
    ≡ cell_readers (reads_of_pin type cell i p) b ++ cell_readers (pin_reads type cell (i + 1) (drop (i + 1) pins)) b
next_pin type cell pins i p h is b =
    ap (λ ps. cell_readers (pin_reads type cell i ps) b) (here pins i p h is)
    ∙ cell_readers-append (reads_of_pin type cell i p) (pin_reads type cell (i + 1) (drop (i + 1) pins)) b

-- a place that holds a bit, and one that holds a constant
pub next_place : (cell pin : ℕ) (bits : List SigBit) (i : ℕ) (bit : WireBit) → i < length bits → sig.Wire bit ≡ get_or bits i (sig.Wire bit)
    → (b : WireBit) → cell_readers (places_read cell pin i (drop i bits)) b
    ≡ reader_of bit (reader.Cell (record { cell = cell; pin = pin; at = i })) b ++ cell_readers (places_read cell pin (i + 1) (drop (i + 1) bits)) b
next_place cell pin bits i bit h is b =
    ap (λ ss. cell_readers (places_read cell pin i ss) b) (here bits i (sig.Wire bit) h is) ∙ by (same_bit bit b)
  where
    by : (t : Bool)
        → map (λ (r : Read). reader.Cell r.place)
        (cond t (record { bit = bit; place = record { cell = cell; pin = pin; at = i } } ∷ filter (λ (r : Read). same_bit r.bit b) (places_read cell pin (i + 1) (drop (i + 1) bits)))
        (filter (λ (r : Read). same_bit r.bit b) (places_read cell pin (i + 1) (drop (i + 1) bits))))
        ≡ cond t (reader.Cell (record { cell = cell; pin = pin; at = i }) ∷ []) [] ++ cell_readers (places_read cell pin (i + 1) (drop (i + 1) bits)) b
    by true = refl
    by false = refl

-- what is left after a place that holds a bit, and after one that holds a constant
pub bit_next : (widths : List ℕ) (old now next : List BitReader) (all : WireBit → List Reader) (cell pin : ℕ) (bits : List SigBit) (i : ℕ) (bit : WireBit) (d : SigBit) → i < length bits → get_or bits i d ≡ sig.Wire bit
    → Adds widths now (reader_of bit (reader.Cell (record { cell = cell; pin = pin; at = i }))) next
    → IsLeft widths old all now (cell_readers (places_read cell pin i (drop i bits))) → IsLeft widths old all next (cell_readers (places_read cell pin (i + 1) (drop (i + 1) bits)))
bit_next widths old now next all cell pin bits i bit d h is added before =
    left_next widths old now next all (cell_readers (places_read cell pin i (drop i bits))) (reader_of bit (reader.Cell (record { cell = cell; pin = pin; at = i }))) (cell_readers (places_read cell pin (i + 1) (drop (i + 1) bits)))
    (next_place cell pin bits i bit h (sym is ∙ get_or_default bits i d (sig.Wire bit) h)) added before

pub fixed_next : (widths : List ℕ) (old now : List BitReader) (all : WireBit → List Reader) (cell pin : ℕ) (bits : List SigBit) (i : ℕ) (c : Bit) (d : SigBit) → i < length bits → get_or bits i d ≡ sig.Fixed c
    → IsLeft widths old all now (cell_readers (places_read cell pin i (drop i bits))) → IsLeft widths old all now (cell_readers (places_read cell pin (i + 1) (drop (i + 1) bits)))
fixed_next widths old now all cell pin bits i c d h is before =
    subst (λ ss. IsLeft widths old all now (cell_readers (places_read cell pin i ss))) (here bits i (sig.Fixed c) h (sym is ∙ get_or_default bits i d (sig.Fixed c) h)) before

-- the next connection
pub next_link : (links : List Link) (i : ℕ) (l : Link) → i < length links → l ≡ get_or links i l
    → (b : WireBit) → link_readers i (drop i links) b ≡ readers_by_link i l.right b ++ link_readers (i + 1) (drop (i + 1) links) b
next_link links i l h is b = ap (λ ls. link_readers i ls b) (here links i l h is)
