-- Start words are told by constants, which follow to themselves: a cell of a memory that is no fault is none with its inputs
-- followed, and sets the same start bits.
use Rattle.std.proofs.Common.{◌≡◌, ◌≤◌, ℕ, zero, suc, ◌+◌, ◌-◌, ◌*◌, Bool, true, false, if◌then◌else◌, List, [], ◌∷◌, Option, Some, None, ◌⊎◌, inl, inr, refl, sym, ◌∙◌, ap, arith}
use Rattle.std.specs.Prelude.{map, nat_le, nat_lt, not, slice_index_or, ◌&&◌, ◌||◌, ◌==◌}
use Rattle.std.specs.List.{list_all, range_with_len}
use Rattle.std.specs.Option.{option_and_then, option_map_or}
use Rattle.std.proofs.lemmas.Bool.{and_parts, eqb-true, le-ltb, leb-true, or_parts}
use Rattle.cell_gate.specs.Control.{pick_of}
use Rattle.cell_types.specs.declared.kind.CellKind.{CellKind}
use Rattle.cell_types.specs.declared.kind.CellKind.TheVariants as Cells
use Rattle.cell_types.specs.declared.memory.MemoryKind.{MemoryKind}
use Rattle.cell_types.specs.declared.memory.MemoryKind.TheVariants.{Memrd, MemrdV2, MemwrV2, Meminit, MeminitV2}
use Rattle.cell_types.specs.declared.param_name.ParamName.TheVariants as Param
use Rattle.cell_types.specs.declared.pin_name.PinName.TheVariants.{Addr, Data, En}
use Rattle.cell_types.specs.PinName.{pin_text}
use Rattle.rtl_bits.specs.Knowledge.{all_known, is_known}
use Rattle.rtl_bits.specs.Numbers.{number_of}
use Rattle.rtl_bits.specs.declared.bit.Bit.{Bit}
use Rattle.rtl_bits.specs.declared.bit.Bit.TheVariants.{X}
use Rattle.rtl_sig.specs.declared.sig.SigBit.{SigBit}
use Rattle.rtl_sig.specs.declared.sig.SigBit.TheVariants as sig
use Rattle.rtl_ir.specs.Faults.MemoryCells.{are_enables, are_words, first_address, is_address, is_bad_access, is_bad_in, is_bad_memory_cell, is_inside, is_unlike, number_at, store_named}
use Rattle.rtl_ir.specs.Flat.Cell.{cell_kind}
use Rattle.rtl_ir.specs.Flat.Memory.{init_bit_of, init_enable, is_init_kind}
use Rattle.rtl_ir.specs.Follow.{follow}
use Rattle.rtl_ir.specs.Outputs.{drives_pin}
use Rattle.rtl_ir.specs.Parameters.{memory_name, signal_at}
use Rattle.rtl_ir.specs.Signals.{is_all_constant, constant_of}
use Rattle.rtl_ir.specs.Types.{CellType}
use Rattle.rtl_ir.specs.WritePorts.{WritePort, cell_ports}
use Rattle.rtl_ir.specs.declared.cell.Cell.{Cell}
use Rattle.rtl_ir.specs.declared.cell.Pin.{Pin}
use Rattle.rtl_ir.specs.declared.module.Link.{Link}
use Rattle.rtl_ir.specs.declared.module.Module.{Module}
use Rattle.rtl_ir.specs.declared.store.Store.{Store}
use Rattle.follow_laws.specs.Inputs.{followed_at}
use Rattle.follow_laws.proofs.Following.{stays}

constants_stay : (links : List Link) (signal : List SigBit) → is_all_constant signal ≡ true → map (follow links) signal ≡ signal
constants_stay links [] e = refl
constants_stay links (sig.Fixed b ∷ signal) e =
    let here : follow links (sig.Fixed b) ≡ sig.Fixed b = stays links (sig.Fixed b) refl in
    λ i. here i ∷ constants_stay links signal e i
constants_stay links (sig.Wire b ∷ signal) e = absurd (cc)

-- a signal of constants stays at each pin
pub constants_at : (type : CellType) (links : List Link) (name : List ℕ) (signal : List SigBit) → is_all_constant signal ≡ true → followed_at type links name signal ≡ signal
constants_at type links name signal e = by (drives_pin type name)
  where
    by : (t : Bool) → (if t then signal else map (follow links) signal) ≡ signal
    by true = refl
    by false = constants_stay links signal e

-- a signal that is known is one of constants
known_constant : (signal : List SigBit) → all_known (map constant_of signal) ≡ true → is_all_constant signal ≡ true
known_constant [] e = refl
known_constant (sig.Fixed b ∷ signal) e =
    known_constant signal (and_parts (is_known b) (all_known (map constant_of signal)) e).1
known_constant (sig.Wire b ∷ signal) e = absurd (cc)

not_false : (t : Bool) → not t ≡ false → t ≡ true
not_false true e = refl
not_false false e = absurd (cc)

-- no word begins at an address and ends there
no_word : (first address : ℕ) → (nat_le first address && nat_lt address (first + 0)) ≡ false
no_word first address = by (nat_le first address) refl
  where
    by : (t : Bool) → nat_le first address ≡ t → (t && nat_lt address (first + 0)) ≡ false
    by false e = refl
    by true e =
        let low : first ≤ address = leb-true first address e in
        let none : first + 0 ≤ address = omega (arith, low) in
        le-ltb address (first + 0) none

-- a cell with other pins, at which signals of constants stay
module _ (c : Cell) (pins : List Pin) (keeps : (name : List ℕ) → is_all_constant (signal_at c.pins name) ≡ true → signal_at pins name ≡ signal_at c.pins name) where
  abbrev other : Cell
  other = record c { pins = pins }

  abbrev count : ℕ
  count = number_at c Param.Words

  -- the address of start words, where there are any
  address_constant : (s : Store) → are_words s c ≡ true → (number_at c Param.Words ≡ 0) ⊎ (is_all_constant (signal_at c.pins (pin_text Addr)) ≡ true)
  address_constant s e =
      by (number_at c Param.Words) refl (and_parts (is_all_constant (signal_at c.pins (pin_text Data))) (list_all (is_inside s c) (range_with_len 0 (number_at c Param.Words))) e).1
    where
      by : (n : ℕ) → number_at c Param.Words ≡ n → list_all (is_inside s c) (range_with_len 0 n) ≡ true → (number_at c Param.Words ≡ 0) ⊎ (is_all_constant (signal_at c.pins (pin_text Addr)) ≡ true)
      by zero f g = inl f
      by (suc n) f g =
          let here : is_inside s c 0 ≡ true = (and_parts (is_inside s c 0) (list_all (is_inside s c) (range_with_len 1 n)) g).0 in
          inr (known_constant (signal_at c.pins (pin_text Addr)) (and_parts (all_known (map constant_of (signal_at c.pins (pin_text Addr)))) (is_address s (first_address c + 0)) here).0)

  words_stay : (s : Store) → are_words s c ≡ true → are_words s other ≡ true
  words_stay s e =
      let parts = and_parts (is_all_constant (signal_at c.pins (pin_text Data))) (list_all (is_inside s c) (range_with_len 0 (number_at c Param.Words))) e in
      let constant : is_all_constant (signal_at pins (pin_text Data)) ≡ true = ap is_all_constant (keeps (pin_text Data) parts.0) ∙ parts.0 in
      let inside : list_all (is_inside s other) (range_with_len 0 (number_at c Param.Words)) ≡ true = by parts.1 (address_constant s e) in
      λ i. constant i && inside i
    where
      by : list_all (is_inside s c) (range_with_len 0 (number_at c Param.Words)) ≡ true → (number_at c Param.Words ≡ 0) ⊎ (is_all_constant (signal_at c.pins (pin_text Addr)) ≡ true) → list_all (is_inside s other) (range_with_len 0 (number_at c Param.Words)) ≡ true
      by f (inl none) = ap (λ n. list_all (is_inside s other) (range_with_len 0 n)) none
      by f (inr constant) =
          ap (λ a. list_all (λ k. all_known (map constant_of a) && is_address s (number_of (map constant_of a) + k)) (range_with_len 0 (number_at c Param.Words))) (keeps (pin_text Addr) constant) ∙ f

  enables_stay : are_enables c ≡ true → are_enables other ≡ true
  enables_stay e = by (is_all_constant (signal_at c.pins (pin_text En))) refl e
    where
      last : (t : Bool) → (t || true) ≡ true
      last true = refl
      last false = refl

      by : (t : Bool) → is_all_constant (signal_at c.pins (pin_text En)) ≡ t → (t || (number_at c Param.Words == 0)) ≡ true → are_enables other ≡ true
      by true f g =
          ap (λ z. is_all_constant z || (number_at c Param.Words == 0)) (keeps (pin_text En) f) ∙ ap (λ t. t || (number_at c Param.Words == 0)) f
      by false f g =
          ap (λ t. is_all_constant (signal_at pins (pin_text En)) || t) g ∙ last (is_all_constant (signal_at pins (pin_text En)))

  access_stays : (links : List Link) (earlier : List WritePort) (s : Store) (kind : MemoryKind) → is_bad_access false links earlier s c kind ≡ false → is_bad_access false links earlier s other kind ≡ false
  access_stays links earlier s Memrd e = e
  access_stays links earlier s MemrdV2 e = e
  access_stays links earlier s MemwrV2 e = e
  access_stays links earlier s Meminit e = ap not (words_stay s (not_false (are_words s c) e))
  access_stays links earlier s MeminitV2 e =
      let parts = or_parts (not (are_words s c)) (not (are_enables c)) e in
      λ i. not (words_stay s (not_false (are_words s c) parts.0) i) || not (enables_stay (not_false (are_enables c) parts.1) i)

  pub bad_stays : (m : Module) (earlier : List Cell) (kind : MemoryKind) → is_bad_memory_cell false m earlier c kind ≡ false → is_bad_memory_cell false m earlier other kind ≡ false
  bad_stays m earlier kind e = by (option_and_then (store_named m.memories) (memory_name c.params)) e
    where
      by : (o : Option Store) → option_map_or (is_bad_in false m earlier c kind) o true ≡ false → option_map_or (is_bad_in false m earlier other kind) o true ≡ false
      by None f = f
      by (Some s) f =
          let parts = or_parts (is_unlike s c) (is_bad_access false m.links (cell_ports m.links s.name earlier) s c kind) f in
          let access : is_bad_access false m.links (cell_ports m.links s.name earlier) s other kind ≡ false = access_stays m.links (cell_ports m.links s.name earlier) s kind parts.1 in
          λ i. parts.0 i || access i

  -- a start bit by the signals at the pins of a cell that gives start words
  abbrev start_by : (ℕ → Bit) → List SigBit → List SigBit → ℕ → ℕ → ℕ → ℕ → Bit → Bit
  start_by enable addr words number width address at old =
      if nat_le (number_of (map constant_of addr)) address && nat_lt address (number_of (map constant_of addr) + number)
      then pick_of (enable at) (constant_of (slice_index_or words ((address - number_of (map constant_of addr)) * width + at) (sig.Fixed X))) old
      else old

  no_start : (enable : ℕ → Bit) (addr words : List SigBit) (number width address at : ℕ) (old : Bit) → number ≡ 0 → start_by enable addr words number width address at old ≡ old
  no_start enable addr words number width address at old none =
      ap (λ n. start_by enable addr words n width address at old) none
      ∙ ap (λ t. if t then pick_of (enable at) (constant_of (slice_index_or words ((address - number_of (map constant_of addr)) * width + at) (sig.Fixed X))) old else old) (no_word (number_of (map constant_of addr)) address)

  module _ (s : Store) (width address at : ℕ) (old : Bit) where
    abbrev start_at : Option CellKind → Cell → Bit
    start_at o d = start_by (init_enable o d) (signal_at d.pins (pin_text Addr)) (signal_at d.pins (pin_text Data)) (number_at c Param.Words) width address at old

    unset : (o : Option CellKind) → number_at c Param.Words ≡ 0 → start_at o c ≡ start_at o other
    unset o none =
        no_start (init_enable o c) (signal_at c.pins (pin_text Addr)) (signal_at c.pins (pin_text Data)) (number_at c Param.Words) width address at old none
        ∙ sym (no_start (init_enable o other) (signal_at pins (pin_text Addr)) (signal_at pins (pin_text Data)) (number_at c Param.Words) width address at old none)

    -- by its address and its words, where the enable is the same
    with_words : (o : Option CellKind) → are_words s c ≡ true → init_enable o c at ≡ init_enable o other at → start_at o c ≡ start_at o other
    with_words o e same = by (address_constant s e)
      where
        words : signal_at pins (pin_text Data) ≡ signal_at c.pins (pin_text Data)
        words =
            keeps (pin_text Data) (and_parts (is_all_constant (signal_at c.pins (pin_text Data))) (list_all (is_inside s c) (range_with_len 0 (number_at c Param.Words))) e).0

        by : (number_at c Param.Words ≡ 0) ⊎ (is_all_constant (signal_at c.pins (pin_text Addr)) ≡ true) → start_at o c ≡ start_at o other
        by (inl none) = unset o none
        by (inr constant) =
            let addr : signal_at pins (pin_text Addr) ≡ signal_at c.pins (pin_text Addr) = keeps (pin_text Addr) constant in
            sym (λ i. start_by (λ k. sym same i) (addr i) (words i) (number_at c Param.Words) width address at old)

    start_good : (links : List Link) (earlier : List WritePort) (kind : MemoryKind) → is_init_kind (Some (Cells.Memory kind)) ≡ true → is_bad_access false links earlier s c kind ≡ false → start_at (Some (Cells.Memory kind)) c ≡ start_at (Some (Cells.Memory kind)) other
    start_good links earlier Meminit i e = with_words (Some (Cells.Memory Meminit)) (not_false (are_words s c) e) refl
    start_good links earlier MeminitV2 i e =
        let parts = or_parts (not (are_words s c)) (not (are_enables c)) e in
        by (is_all_constant (signal_at c.pins (pin_text En))) refl (not_false (are_words s c) parts.0) (not_false (are_enables c) parts.1)
      where
        by : (t : Bool) → is_all_constant (signal_at c.pins (pin_text En)) ≡ t → are_words s c ≡ true → (t || (number_at c Param.Words == 0)) ≡ true → start_at (Some (Cells.Memory MeminitV2)) c ≡ start_at (Some (Cells.Memory MeminitV2)) other
        by true f words enables =
            with_words (Some (Cells.Memory MeminitV2)) words (ap (λ z. constant_of (slice_index_or z at (sig.Fixed X))) (sym (keeps (pin_text En) f)))
        by false f words enables = unset (Some (Cells.Memory MeminitV2)) (eqb-true (number_at c Param.Words) 0 enables)
    start_good links earlier Memrd i e = absurd (cc)
    start_good links earlier MemrdV2 i e = absurd (cc)
    start_good links earlier MemwrV2 i e = absurd (cc)

  kind_same : cell_kind other ≡ cell_kind c
  unfolding cell_kind
  kind_same = refl

  -- what a cell that is no fault makes of a start bit
  pub start_stays : (m : Module) (earlier : List Cell) (kind : MemoryKind) → cell_kind c ≡ Some (Cells.Memory kind) → is_init_kind (Some (Cells.Memory kind)) ≡ true → is_bad_memory_cell false m earlier c kind ≡ false → (width address at : ℕ) (old : Bit) → init_bit_of width c address at old ≡ init_bit_of width other address at old
  start_stays m earlier kind own init e width address at old =
      by (option_and_then (store_named m.memories) (memory_name c.params)) e
    where
      by : (o : Option Store) → option_map_or (is_bad_in false m earlier c kind) o true ≡ false → init_bit_of width c address at old ≡ init_bit_of width other address at old
      by None f = absurd (cc)
      by (Some s) f =
          let parts = or_parts (is_unlike s c) (is_bad_access false m.links (cell_ports m.links s.name earlier) s c kind) f in
          ap (λ o. start_at s width address at old o c) own
          ∙ start_good s width address at old m.links (cell_ports m.links s.name earlier) kind init parts.1
          ∙ ap (λ o. start_at s width address at old o other) (sym (kind_same ∙ own))
