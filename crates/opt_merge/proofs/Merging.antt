-- The table after a cell went, and the cell that is found.
use Rattle.std.proofs.Common.{◌≡◌, ℕ, ◌≤◌, Bool, true, false, cond, List, [], ◌∷◌, length, map, find, Option, Some, None, ◌⊎◌, inl, inr, ⊎_elim, refl, sym, ◌∙◌, ap, subst, arith}
use Rattle.std.specs.Prelude.{slice_get, slice_index_or, option_map}
use Rattle.std.specs.Option.{option_map_or}
use Rattle.std.specs.List.{flat_map}
use Rattle.rtl_bits.specs.declared.bit.Bit.{Bit}
use Rattle.rtl_sig.specs.declared.sig.SigBit.{SigBit}
use Rattle.rtl_sig.specs.declared.sig.SigBit.TheVariants as sig
use Rattle.rtl_sig.specs.declared.sig.WireBit.{WireBit}
use Rattle.cell_types.specs.declared.kind.CellKind.{CellKind}
use Rattle.cell_types.specs.declared.pin_name.PinName.{PinName}
use Rattle.cell_types.specs.Kind.{kind_of}
use Rattle.cell_types.specs.PinName.{pin_text}
use Rattle.rtl_ir.specs.declared.cell.Cell.{Cell}
use Rattle.rtl_ir.specs.declared.module.Link.{Link}
use Rattle.rtl_ir.specs.Flat.Cell.{cell_kind}
use Rattle.rtl_ir.specs.Follow.{follow}
use Rattle.rtl_ir.specs.Parameters.{signal_at}
use Rattle.net_model.specs.Lists.{In}
use Rattle.rtl_ir.specs.Attributes.{is_kept}
use Rattle.net_model.proofs.Members.{In-left, In-right}
use Rattle.opt_merge.specs.declared.readers.Readers.{Readers}
use Rattle.opt_merge.specs.declared.table.Table.{Table}
use Rattle.opt_merge.specs.Among.{AreAmong}
use Rattle.opt_merge.specs.Entries.{AreEnds, Entered, HasBefore, IsTable, noted_at, traits_at}
use Rattle.opt_merge.specs.Merge.{Merging, has_traits, join, traits_by}
use Rattle.opt_merge.specs.Readers.{readers_at, readers_of_bit, readers_of_signal}
use Rattle.opt_merge.specs.Rows.{row_of}
use Rattle.opt_merge.specs.Reading.{HasReaders}
use Rattle.opt_merge.specs.State.{AreMeasured, AreNoted, IsDrivenOnce, IsRising, LedBefore}
use Rattle.opt_merge.specs.Table.{at_row}
use Rattle.opt_merge.specs.Traits.{Traits, input_pins, inputs_of, logic_kind, merging_kind, output_of, traits_of}
use Rattle.opt_merge.proofs.Changing.{In-map, MovesIn, ends_joined, led_there, moves_from, traits_or_move}
use Rattle.opt_merge.proofs.Finding.{find_none, find_some}
use Rattle.opt_merge.proofs.Tabling.{noted_traits, traits_noted}

-- what is so of the cell that is there
option_at : {A B : Type 0} (f : A → Option B) (o : Option A) (b : B) → option_map_or f o None ≡ Some b → (a : A) × (o ≡ Some a) × (f a ≡ Some b)
option_at f None b e = absurd (cc)
option_at f (Some a) b e = (a, refl, e)

pub traits_cell : (start : SigBit → Bit) (links : List Link) (cells : List Cell) (at : ℕ) (t : Traits) → traits_at start links cells at ≡ Some t
    → (d : Cell) × (slice_get cells at ≡ Some d) × ((k : CellKind) × (merging_kind d ≡ Some k) × (traits_of start links k d ≡ t))
traits_cell start links cells at t e =
    let w = option_at (traits_by start links) (slice_get cells at) t e in
    (w.0, w.1, by (merging_kind w.0) refl w.2)
  where
    by : (o : Option CellKind) {d : Cell} → merging_kind d ≡ o → option_map (λ k. traits_of start links k d) o ≡ Some t → (k : CellKind) × (merging_kind d ≡ Some k) × (traits_of start links k d ≡ t)
    by None {d} f g = absurd (cc)
    by (Some k) {d} f g = (k, f, let same : traits_of start links k d ≡ t = cc in same)

pub traits_here : (start : SigBit → Bit) (links : List Link) (cells : List Cell) (at : ℕ) (d : Cell) (k : CellKind) → slice_get cells at ≡ Some d → merging_kind d ≡ Some k
    → traits_at start links cells at ≡ Some (traits_of start links k d)
traits_here start links cells at d k is own =
    ap (λ o. option_map_or (traits_by start links) o None) is ∙ ap (option_map (λ z. traits_of start links z d)) own

-- cells that may be merged and have one type have one kind
logic_same : (o : Option CellKind) (a b : CellKind) → logic_kind o ≡ Some a → logic_kind o ≡ Some b → a ≡ b
logic_same o a b e f = let g : Some a ≡ Some b = sym e ∙ f in cc

pub merging_logic : (c : Cell) (k : CellKind) → merging_kind c ≡ Some k → logic_kind (cell_kind c) ≡ Some k
merging_logic c k e = by (is_kept c.attributes) e
  where
    by : (t : Bool) → cond t None (logic_kind (cell_kind c)) ≡ Some k → logic_kind (cell_kind c) ≡ Some k
    by true f = absurd (cc)
    by false f = f

pub one_kind : (a b : Cell) (k l : CellKind) → a.kind_name ≡ b.kind_name → merging_kind a ≡ Some k → merging_kind b ≡ Some l → k ≡ l
unfolding cell_kind
one_kind a b k l e f g =
    logic_same (kind_of a.kind_name) k l (merging_logic a k f) (ap (λ n. logic_kind (kind_of n)) e ∙ merging_logic b l g)

-- a cell at a place stands among the cells at the places
pub among_kept : (cells : List Cell) (places : List ℕ) (cs : List Cell) (at : ℕ) (c : Cell) → map (slice_get cells) places ≡ map Some cs → In at places → slice_get cells at ≡ Some c → In c cs
among_kept cells [] cs at c e i is = absurd i
among_kept cells (p ∷ ps) [] at c e i is = absurd (cc)
among_kept cells (p ∷ ps) (d ∷ cs) at c e (inl same) is =
    let here : slice_get cells p ≡ Some d = cc in
    let f : Some c ≡ Some d = sym is ∙ ap (slice_get cells) same ∙ here in
    inl (let one : c ≡ d = cc in one)
among_kept cells (p ∷ ps) (d ∷ cs) at c e (inr i) is =
    let rest : map (slice_get cells) ps ≡ map Some cs = cc in
    inr (among_kept cells ps cs at c rest i is)

-- the first cell with some traits, as the table has it
pub found_first : (start : SigBit → Bit) (links : List Link) (cells : List Cell) (places : List ℕ) (late : ℕ → List ℕ) (cs : List Cell) (table : Table) (t : Traits) → IsTable (traits_at start links cells) links places late table
    → map (slice_get cells) places ≡ map Some cs → IsRising places → AreEnds links t → late (length (row_of t)) ≡ [] → (first : ℕ) → at_row table (row_of t) ≡ Some first → (e : Cell) → slice_get cells first ≡ Some e
    → find (has_traits start links t) cs ≡ Some e
found_first start links cells places late cs table t is kept up ends none first row e here =
    let q = is.sound t ends first row in
    find_some start links cells t places cs kept up first e here q.0 q.1 (λ at i own. ⊎_elim (least at) (λ j. absurd (subst (In at) none j)) (is.full t ends at i own))
  where
    least : (at : ℕ) → HasBefore table (row_of t) at → first ≤ at
    least at w = let f : Some first ≡ Some w.0 = sym row ∙ w.1 in let same : first ≡ w.0 = cc in omega (arith, same, w.2)

pub found_none : (start : SigBit → Bit) (links : List Link) (cells : List Cell) (places : List ℕ) (late : ℕ → List ℕ) (cs : List Cell) (table : Table) (t : Traits) → IsTable (traits_at start links cells) links places late table
    → map (slice_get cells) places ≡ map Some cs → AreEnds links t → late (length (row_of t)) ≡ [] → at_row table (row_of t) ≡ None → find (has_traits start links t) cs ≡ None
found_none start links cells places late cs table t is kept ends none row =
    find_none start links cells t places cs kept (λ at i own. ⊎_elim (there at) (λ j. absurd (subst (In at) none j)) (is.full t ends at i own))
  where
    there : (at : ℕ) → HasBefore table (row_of t) at → ⊥
    there at w = let f : None ≡ Some w.0 = sym row ∙ w.1 in cc

-- what was late is in the table, or late still
pub table_entered : (start : SigBit → Bit) (links : List Link) (cells : List Cell) (places : List ℕ) (kinds : List (Option CellKind)) → AreNoted cells places kinds → (before after : ℕ → List ℕ) (old new : Table)
    → IsTable (traits_at start links cells) links places before old → Entered (noted_at start links kinds cells) before after old new → IsTable (traits_at start links cells) links places after new
table_entered start links cells places kinds noted before after old new is entered = record {
  sound = λ t ends at f. ⊎_elim (λ g. is.sound t ends at g) (λ g. noted_traits cells places kinds noted start links at t g) (entered.sound t at f);
  full = λ t ends at i f. ⊎_elim (λ w. inl (later (row_of t) at w)) (λ j. here t at i f j) (is.full t ends at i f);
}
  where
    later : (row : List ℕ) (at : ℕ) → HasBefore old row at → HasBefore new row at
    later row at w = let q = entered.stays row w.0 w.1 in (q.0, q.1, omega (arith, q.2, w.2))

    here : (t : Traits) (at : ℕ) → In at places → traits_at start links cells at ≡ Some t → In at (before (length (row_of t))) → HasBefore new (row_of t) at ⊎ In at (after (length (row_of t)))
    here t at i f j =
        let w = traits_cell start links cells at t f in
        entered.full (length (row_of t)) at j t (traits_noted cells places kinds noted start links at w.0 w.2.0 i w.1 w.2.1 ∙ ap Some w.2.2)

-- the readers of a bit are among those of its signal
readers_among : (readers : Readers) (b : WireBit) (signal : List SigBit) (at : ℕ) → In (sig.Wire b) signal → In at (readers_at readers b) → In at (readers_of_signal readers signal)
readers_among readers b [] at i j = absurd i
readers_among readers b (x ∷ signal) at (inl e) j = In-left at (readers_of_bit readers x) (flat_map (readers_of_bit readers) signal) (subst (λ z. In at (readers_of_bit readers z)) e j)
readers_among readers b (x ∷ signal) at (inr i) j = In-right at (readers_of_bit readers x) (flat_map (readers_of_bit readers) signal) (readers_among readers b signal at i j)

module _ (start : SigBit → Bit) (before : List Link) (cells : List Cell) (places : List ℕ) (kinds : List (Option CellKind)) (readers : Readers) (s : Merging) (c e : Cell) (kind : CellKind) (rest : List Cell)
    (once : IsDrivenOnce s (c ∷ rest)) (own : merging_kind c ≡ Some kind) (kept : In e s.cells) (same : merging_kind e ≡ Some kind)
    (noted : AreNoted cells places kinds) (lengths : List ℕ) (measured : AreMeasured start cells places lengths) (reading : HasReaders before cells readers) (led : LedBefore before s)
    (late later : ℕ → List ℕ) (table : Table) (is : IsTable (traits_at start s.links cells) s.links places late table) (stays : (row : ℕ) → AreAmong (late row) (later row))
    (marked : (at : ℕ) → In at (readers_of_signal readers (output_of kind c)) → (k : CellKind) → slice_index_or kinds at None ≡ Some k → In at (later (slice_index_or lengths at 0))) where
  abbrev links' : List Link
  links' = (join kind s e c).links

  ends_old : (t : Traits) → AreEnds links' t → AreEnds s.links t
  ends_old t ends signal i x j = (ends_joined s c e kind rest once own kept same x (ends signal i x j)).0

  pub table_joined : IsTable (traits_at start links' cells) links' places later table
  table_joined = record {
    sound = λ t ends at f. stayed t ends at (is.sound t (ends_old t ends) at f);
    full = λ t ends at i f. let w = traits_cell start links' cells at t f in full t ends at i w.0 w.1 w.2.0 w.2.1 w.2.2;
  }
    where
      -- a bit that leads elsewhere is no end
      no_move : (t : Traits) → AreEnds links' t → (k : CellKind) (d : Cell) → traits_of start s.links k d ≡ t → MovesIn s c e kind rest once own kept same (input_pins k) d.pins → ⊥
      no_move t ends k d f m =
          let signal : In (map (follow s.links) (signal_at d.pins (pin_text m.0))) (inputs_of s.links (input_pins k) d.pins) = In-map (λ (name : PinName). map (follow s.links) (signal_at d.pins (pin_text name))) m.0 (input_pins k) m.1 in
          let bit : In (follow s.links m.2.0) (map (follow s.links) (signal_at d.pins (pin_text m.0))) = In-map (follow s.links) m.2.0 (signal_at d.pins (pin_text m.0)) m.2.1 in
          let end = ends (map (follow s.links) (signal_at d.pins (pin_text m.0))) (subst (λ (u : Traits). In (map (follow s.links) (signal_at d.pins (pin_text m.0))) u.inputs) f signal) (follow s.links m.2.0) bit in
          let none = (ends_joined s c e kind rest once own kept same (follow s.links m.2.0) end).1 in
          let some = m.2.2.1 in
          let clash : None ≡ Some m.2.2.0 = sym none ∙ some in
          cc

      stayed : (t : Traits) → AreEnds links' t → (at : ℕ) → In at places × (traits_at start s.links cells at ≡ Some t) → In at places × (traits_at start links' cells at ≡ Some t)
      stayed t ends at q =
          let w = traits_cell start s.links cells at t q.1 in
          (q.0, traits_here start links' cells at w.0 w.2.0 w.1 w.2.1 ∙ ap Some (⊎_elim (λ f. f ∙ w.2.2) (λ m. absurd (no_move t ends w.2.0 w.0 w.2.2 m)) (traits_or_move s c e kind rest once own kept same start w.2.0 w.0)))

      full : (t : Traits) → AreEnds links' t → (at : ℕ) → In at places → (d : Cell) → slice_get cells at ≡ Some d → (k : CellKind) → merging_kind d ≡ Some k → traits_of start links' k d ≡ t
          → HasBefore table (row_of t) at ⊎ In at (later (length (row_of t)))
      full t ends at i d here k own_d f = ⊎_elim unmoved moved (traits_or_move s c e kind rest once own kept same start k d)
        where
          unmoved : traits_of start links' k d ≡ traits_of start s.links k d → HasBefore table (row_of t) at ⊎ In at (later (length (row_of t)))
          unmoved g =
              ⊎_elim (λ w. inl w) (λ j. inr (stays (length (row_of t)) at j))
              (is.full t (ends_old t ends) at i (traits_here start s.links cells at d k here own_d ∙ ap Some (sym g ∙ f)))

          moved : MovesIn s c e kind rest once own kept same (input_pins k) d.pins → HasBefore table (row_of t) at ⊎ In at (later (length (row_of t)))
          moved m =
              let x = m.2.0 in
              let from = moves_from s c e kind rest once own kept same x m.2.2 in
              let there = led_there s c e kind rest once own kept same before led x from.0 from.1 from.2 in
              let reads = (reading.each at d here).reads k own_d m.0 m.1 x m.2.1 from.0 there in
              let long : slice_index_or lengths at 0 ≡ length (row_of t) = measured.each at i d here k own_d links' ∙ ap (λ u. length (row_of u)) f in
              let kind_here : slice_index_or kinds at None ≡ Some k = noted.full at k i (ap (λ o. option_map_or merging_kind o None) here ∙ own_d) in
              inr (subst (λ n. In at (later n)) long (marked at (readers_among readers from.0 (output_of kind c) at from.2 reads) k kind_here))
