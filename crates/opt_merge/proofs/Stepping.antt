-- One cell of the sweep.
use Rattle.std.proofs.Common.{◌≡◌, ℕ, zero, suc, ◌+◌, cond, List, [], ◌∷◌, ◌++◌, map, set, drop, length, replicate, Option, Some, None, inl, refl, sym, ◌∙◌, ap, subst, arith}
use Rattle.std.specs.Prelude.{slice_get, slice_index_or, option_map}
use Rattle.std.specs.Option.{option_map_or}
use Rattle.std.specs.Str.{bytes_eq}
use Rattle.std.proofs.lemmas.List.{length-replicate}
use Rattle.rtl_bits.specs.declared.bit.Bit.{Bit}
use Rattle.rtl_sig.specs.declared.sig.SigBit.{SigBit}
use Rattle.cell_types.specs.declared.kind.CellKind.{CellKind}
use Rattle.rtl_ir.specs.declared.cell.Cell.{Cell}
use Rattle.rtl_ir.specs.declared.module.Link.{Link}
use Rattle.rtl_ir.specs.declared.wire.Wire.{Wire}
use Rattle.rtl_ir.specs.Flat.Start.{start_of}
use Rattle.net_model.specs.Lists.{In}
use Rattle.opt_merge.specs.declared.entries.Entries.{Entries}
use Rattle.opt_merge.specs.declared.merger.Merger.{Merger}
use Rattle.opt_merge.specs.Entries.{Entered, IsMarked, IsTable, JoinsEntries, StaysLate, noted_at, traits_at}
use Rattle.opt_merge.specs.Late.{late_at}
use Rattle.opt_merge.specs.Merge.{Merging, after_kind, join, stay, traits_by}
use Rattle.opt_merge.specs.Readers.{readers_of_signal}
use Rattle.opt_merge.specs.Rows.{row_of}
use Rattle.opt_merge.specs.Reading.{HasReaders}
use Rattle.opt_merge.specs.State.{AreMeasured, AreNoted, IsDrivenOnce, IsRising, IsState}
use Rattle.opt_merge.specs.Table.{at_row, least}
use Rattle.opt_merge.specs.Traits.{Traits, merging_kind, output_of, traits_of}
use Rattle.opt_merge.specs.View.{IsView}
use Rattle.opt_merge.proofs.Lengths.{rows_alike}
use Rattle.opt_merge.proofs.Changing.{led_joined, led_stay, once_joined, once_stay}
use Rattle.opt_merge.proofs.Merging.{among_kept, found_first, found_none, one_kind, table_entered, table_joined, traits_cell, traits_here}
use Rattle.opt_merge.proofs.Sofar.{drop_here, get_within}
use Rattle.opt_merge.proofs.Tabling.{are_ends, below_more, kept_more, measured_first, measured_stay, noted_first, noted_stay, rising_more, table_first, table_stay}

-- the places that stay, with one more
pub record StaysAt (old new : Merger) (at : ℕ) : Type 0 where
  pub kept : new.kept.items ≡ old.kept.items ++ at ∷ []
  pub readers : new.readers ≡ old.readers
  pub links : new.links ≡ old.links

module _ (wires : List Wire) (before : List Link) (cells : List Cell) (at : ℕ) (s : Merging) (c : Cell) (here : slice_get cells at ≡ Some c) where
  abbrev start : SigBit → Bit
  start = start_of wires []

  once_here : (old : Merger) → IsState old wires before cells at s → IsDrivenOnce s (c ∷ drop (at + 1) cells)
  once_here old is = subst (IsDrivenOnce s) (drop_here cells at c here) is.driven

  -- all but the view, the table, the kinds and the lengths
  state_with : (old new : Merger) → IsState old wires before cells at s → StaysAt old new at → IsView new.entries.view wires s.links
      → IsTable (traits_at start s.links cells) s.links (old.kept.items ++ at ∷ []) (late_at new.entries.late) new.entries.table → AreNoted cells (old.kept.items ++ at ∷ []) new.entries.kinds.items
      → AreMeasured start cells (old.kept.items ++ at ∷ []) new.entries.lengths.items → IsState new wires before cells (at + 1) (stay s c)
  state_with old new is stays view table noted measured = record {
    view = view;
    table = subst (λ ps. IsTable (traits_at start s.links cells) s.links ps (late_at new.entries.late) new.entries.table) (sym stays.kept) table;
    noted = subst (λ ps. AreNoted cells ps new.entries.kinds.items) (sym stays.kept) noted;
    measured = subst (λ ps. AreMeasured start cells ps new.entries.lengths.items) (sym stays.kept) measured;
    kept = subst (λ ps. map (slice_get cells) ps ≡ map Some (s.cells ++ c ∷ [])) (sym stays.kept) (kept_more cells old.kept.items s.cells at c here is.kept);
    rising = subst IsRising (sym stays.kept) (rising_more old.kept.items at is.rising is.below);
    below = λ p i. below_more old.kept.items at is.below p (subst (In p) stays.kept i);
    readers = subst (HasReaders before cells) (sym stays.readers) is.readers;
    links = stays.links ∙ is.links;
    driven = once_stay s c (drop (at + 1) cells) (once_here old is);
    led = led_stay before s c is.led;
  }

  -- a cell that may not be merged
  pub state_stay : (old new : Merger) → IsState old wires before cells at s → merging_kind c ≡ None → StaysAt old new at → new.entries ≡ old.entries → IsState new wires before cells (at + 1) (stay s c)
  state_stay old new is none stays same =
      state_with old new is stays (subst (λ (e : Entries). IsView e.view wires s.links) (sym same) is.view)
      (subst (λ (e : Entries). IsTable (traits_at start s.links cells) s.links (old.kept.items ++ at ∷ []) (late_at e.late) e.table) (sym same) (table_stay (traits_at start s.links cells) s.links old.kept.items (late_at old.entries.late) old.entries.table at is.table (ap (λ o. option_map_or (traits_by start s.links) o None) here ∙ ap (option_map (λ k. traits_of start s.links k c)) none)))
      (subst (λ (e : Entries). AreNoted cells (old.kept.items ++ at ∷ []) e.kinds.items) (sym same) (noted_stay cells old.kept.items old.entries.kinds.items is.noted at (ap (λ o. option_map_or merging_kind o None) here ∙ none)))
      (subst (λ (e : Entries). AreMeasured start cells (old.kept.items ++ at ∷ []) e.lengths.items) (sym same) (measured_stay start cells old.kept.items old.entries.lengths.items is.measured at c here none))

  -- what was late is in the table
  pub state_settled : (old new : Merger) → IsState old wires before cells at s → IsView new.entries.view wires s.links
      → Entered (noted_at start s.links old.entries.kinds.items cells) (late_at old.entries.late) (late_at new.entries.late) old.entries.table new.entries.table
      → new.entries.kinds ≡ old.entries.kinds → new.entries.lengths ≡ old.entries.lengths → new.kept ≡ old.kept → new.readers ≡ old.readers → new.links ≡ old.links → IsState new wires before cells at s
  state_settled old new is view entered kinds lengths kept readers links = record {
    view = view;
    table =
        subst (λ z. IsTable (traits_at start s.links cells) s.links z.items (late_at new.entries.late) new.entries.table) (sym kept)
        (table_entered start s.links cells old.kept.items old.entries.kinds.items is.noted (late_at old.entries.late) (late_at new.entries.late) old.entries.table new.entries.table is.table entered);
    noted = subst (λ z. AreNoted cells z.items new.entries.kinds.items) (sym kept) (subst (λ z. AreNoted cells old.kept.items z.items) (sym kinds) is.noted);
    measured = subst (λ z. AreMeasured start cells z.items new.entries.lengths.items) (sym kept) (subst (λ z. AreMeasured start cells old.kept.items z.items) (sym lengths) is.measured);
    kept = subst (λ z. map (slice_get cells) z.items ≡ map Some s.cells) (sym kept) is.kept;
    rising = subst (λ z. IsRising z.items) (sym kept) is.rising;
    below = λ p i. is.below p (subst (λ z. In p z.items) kept i);
    readers = subst (HasReaders before cells) (sym readers) is.readers;
    links = links ∙ is.links;
    driven = is.driven;
    led = is.led;
  }

  module _ (kind : CellKind) (own : merging_kind c ≡ Some kind) where
    abbrev pub t : Traits
    t = traits_of start s.links kind c

    -- a cell that is the first with its traits
    pub state_first : (old new : Merger) → IsState old wires before cells at s → StaysAt old new at → new.entries.view ≡ old.entries.view → new.entries.late ≡ old.entries.late
        → late_at old.entries.late (length (row_of t)) ≡ [] → at_row old.entries.table (row_of t) ≡ None
        → ((r : List ℕ) → at_row new.entries.table r ≡ cond (bytes_eq (row_of t) r) (least at (at_row old.entries.table r)) (at_row old.entries.table r))
        → new.entries.kinds.items ≡ set old.entries.kinds.items at (Some kind) → new.entries.lengths.items ≡ set old.entries.lengths.items at (length (row_of t))
        → IsState new wires before cells (at + 1) (after_kind start s c (Some kind))
    state_first old new is stays view late settled none put kinds lengths =
        subst (IsState new wires before cells (at + 1)) (sym (ap (λ o. option_map_or (λ e. join kind s e c) o (stay s c)) (found_none start s.links cells old.kept.items (late_at old.entries.late) s.cells old.entries.table t is.table is.kept (are_ends start s.links kind c) settled none)))
        (state_with old new is stays (subst (λ v. IsView v wires s.links) (sym view) is.view)
        (subst (λ l. IsTable (traits_at start s.links cells) s.links (old.kept.items ++ at ∷ []) (late_at l) new.entries.table) (sym late)
        (table_first (traits_at start s.links cells) s.links old.kept.items (late_at old.entries.late) old.entries.table new.entries.table at t is.table (traits_here start s.links cells at c kind here own) none put))
        (subst (AreNoted cells (old.kept.items ++ at ∷ [])) (sym kinds) (noted_first cells old.kept.items old.entries.kinds.items is.noted at kind (get_within cells at c here) (ap (λ o. option_map_or merging_kind o None) here ∙ own)))
        (subst (AreMeasured start cells (old.kept.items ++ at ∷ [])) (sym lengths) (measured_first start cells old.kept.items old.entries.lengths.items is.measured at c kind (length (row_of t)) here own (get_within cells at c here) (λ links. rows_alike start s.links links kind c))))

    -- the earlier cell that is found
    pub record Found (old : Merger) (first : ℕ) : Type 0 where
      pub cell : Cell
      pub there : slice_get cells first ≡ Some cell
      pub among : In cell s.cells
      pub kind_same : merging_kind cell ≡ Some kind
      pub traits_same : traits_of start s.links kind cell ≡ t
      pub after : after_kind start s c (Some kind) ≡ join kind s cell c

    pub found : (old : Merger) → IsState old wires before cells at s → late_at old.entries.late (length (row_of t)) ≡ [] → (first : ℕ) → at_row old.entries.table (row_of t) ≡ Some first → Found old first
    found old is settled first row =
        let ends = are_ends start s.links kind c in
        let q = is.table.sound t ends first row in
        let w = traits_cell start s.links cells first t q.1 in
        let same : w.2.0 ≡ kind = one_kind w.0 c w.2.0 kind (ap (λ (u : Traits). u.type) w.2.2) w.2.1 own in
        record {
          cell = w.0;
          there = w.1;
          among = among_kept cells old.kept.items s.cells first w.0 is.kept q.0 w.1;
          kind_same = w.2.1 ∙ ap Some same;
          traits_same = ap (λ k. traits_of start s.links k w.0) (sym same) ∙ w.2.2;
          after = ap (λ o. option_map_or (λ e. join kind s e c) o (stay s c)) (found_first start s.links cells old.kept.items (late_at old.entries.late) s.cells old.entries.table t is.table is.kept is.rising ends settled first row w.0 w.1);
        }

    -- a cell that goes
    pub state_merge : (old new : Merger) → IsState old wires before cells at s → late_at old.entries.late (length (row_of t)) ≡ [] → (first : ℕ) → at_row old.entries.table (row_of t) ≡ Some first → (e : Cell) → slice_get cells first ≡ Some e
        → new.kept ≡ old.kept → new.readers ≡ old.readers → new.links ≡ old.links ++ record { left = output_of kind c; right = output_of kind e } ∷ []
        → IsView new.entries.view wires (s.links ++ record { left = output_of kind c; right = output_of kind e } ∷ []) → new.entries.table ≡ old.entries.table → new.entries.kinds ≡ old.entries.kinds → new.entries.lengths ≡ old.entries.lengths
        → StaysLate old.entries new.entries → ((p : ℕ) → In p (readers_of_signal old.readers (output_of kind c)) → IsMarked old.entries new.entries p)
        → IsState new wires before cells (at + 1) (after_kind start s c (Some kind))
    state_merge old new is settled first row e there kept readers links view table kinds lengths stays marked =
        subst (IsState new wires before cells (at + 1)) (sym (f.after ∙ ap (λ x. join kind s x c) same)) (record {
          view = view;
          table =
              subst (λ z. IsTable (traits_at start (join kind s e c).links cells) (join kind s e c).links z.items (late_at new.entries.late) new.entries.table) (sym kept)
              (subst (IsTable (traits_at start (join kind s e c).links cells) (join kind s e c).links old.kept.items (late_at new.entries.late)) (sym table)
              (table_joined start before cells old.kept.items old.entries.kinds.items old.readers s c e kind (drop (at + 1) cells) once own among kind_e is.noted old.entries.lengths.items is.measured is.readers is.led (late_at old.entries.late) (late_at new.entries.late) old.entries.table is.table stays marked));
          noted = subst (λ z. AreNoted cells z.items new.entries.kinds.items) (sym kept) (subst (λ z. AreNoted cells old.kept.items z.items) (sym kinds) is.noted);
          measured = subst (λ z. AreMeasured start cells z.items new.entries.lengths.items) (sym kept) (subst (λ z. AreMeasured start cells old.kept.items z.items) (sym lengths) is.measured);
          kept = subst (λ z. map (slice_get cells) z.items ≡ map Some s.cells) (sym kept) is.kept;
          rising = subst (λ z. IsRising z.items) (sym kept) is.rising;
          below = λ p i. let lt = is.below p (subst (λ z. In p z.items) kept i) in omega (arith, lt);
          readers = subst (HasReaders before cells) (sym readers) is.readers;
          links = links ∙ ap (λ ls. ls ++ record { left = output_of kind c; right = output_of kind e } ∷ []) is.links;
          driven = once_joined s c e kind (drop (at + 1) cells) once own among kind_e;
          led = led_joined s c e kind (drop (at + 1) cells) once own among kind_e before is.led;
        })
      where
        f : Found old first
        f = found old is settled first row

        same : f.cell ≡ e
        same = let g : Some f.cell ≡ Some e = sym f.there ∙ there in cc

        once : IsDrivenOnce s (c ∷ drop (at + 1) cells)
        once = once_here old is

        among : In e s.cells
        among = subst (λ x. In x s.cells) same f.among

        kind_e : merging_kind e ≡ Some kind
        kind_e = subst (λ x. merging_kind x ≡ Some kind) same f.kind_same

    -- the same, as the entries say it
    pub state_joined : (old new : Merger) → IsState old wires before cells at s → late_at old.entries.late (length (row_of t)) ≡ [] → (first : ℕ) → at_row old.entries.table (row_of t) ≡ Some first → (e : Cell) → slice_get cells first ≡ Some e
        → (left right : List SigBit) → left ≡ output_of kind c → right ≡ output_of kind e
        → new.kept ≡ old.kept → new.readers ≡ old.readers → new.links ≡ old.links ++ record { left = left; right = right } ∷ []
        → JoinsEntries old.entries new.entries wires (s.links ++ record { left = left; right = right } ∷ []) (readers_of_signal old.readers left)
        → IsState new wires before cells (at + 1) (after_kind start s c (Some kind))
    state_joined old new is settled first row e there left right el er kept readers links joins =
        state_merge old new is settled first row e there kept readers (links ∙ (λ i. old.links ++ record { left = el i; right = er i } ∷ [])) j.view j.table j.kinds j.lengths j.stays j.marked
      where
        j : JoinsEntries old.entries new.entries wires (s.links ++ record { left = output_of kind c; right = output_of kind e } ∷ []) (readers_of_signal old.readers (output_of kind c))
        j =
            subst (λ r. JoinsEntries old.entries new.entries wires (s.links ++ record { left = output_of kind c; right = r } ∷ []) (readers_of_signal old.readers (output_of kind c))) er
            (subst (λ l. JoinsEntries old.entries new.entries wires (s.links ++ record { left = l; right = right } ∷ []) (readers_of_signal old.readers l)) el joins)

nothing_noted : (n k : ℕ) → slice_index_or {A = Option CellKind} (replicate n None) k None ≡ None
nothing_noted zero k = refl
nothing_noted (suc n) zero = refl
nothing_noted (suc n) (suc k) = nothing_noted n k

-- before the first cell
pub state_start : (new : Merger) (wires : List Wire) (links : List Link) (cells : List Cell) → IsView new.entries.view wires links → ((row : List ℕ) → at_row new.entries.table row ≡ None)
    → new.entries.kinds.items ≡ replicate (length cells) None → new.entries.lengths.items ≡ replicate (length cells) 0 → new.kept.items ≡ [] → HasReaders links cells new.readers → new.links ≡ links
    → IsDrivenOnce (record { cells = []; links = links }) cells → IsState new wires links cells 0 (record { cells = []; links = links })
state_start new wires links cells view none kinds lengths kept readers same once = record {
  view = view;
  table = record {
    sound = λ t ends at e. absurd (let f : None ≡ Some at = sym (none (row_of t)) ∙ e in cc);
    full = λ t ends at i e. absurd (subst (In at) kept i);
  };
  noted = record {
    count = ap length kinds ∙ length-replicate (length cells) None;
    sound = λ at kind e. absurd (let f : None ≡ Some kind = sym (ap (λ ks. slice_index_or ks at None) kinds ∙ nothing_noted (length cells) at) ∙ e in cc);
    full = λ at kind i e. absurd (subst (In at) kept i);
  };
  measured = record {
    count = ap length lengths ∙ length-replicate (length cells) 0;
    each = λ at i. absurd (subst (In at) kept i);
  };
  kept = ap (map (slice_get cells)) kept;
  rising = subst IsRising (sym kept) tt;
  below = λ p i. absurd (subst (In p) kept i);
  readers = readers;
  links = same;
  driven = once;
  led = λ x b e. inl e;
}
