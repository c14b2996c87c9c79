-- A write port of a line has no fault behind the ports before it.
use Rattle.std.proofs.Common.{◌≡◌, ◌≤◌, ℕ, ◌+◌, Bool, true, false, List, [], ◌∷◌, ◌++◌, length, None, if◌then◌else◌, refl, sym, ◌∙◌, ap, arith, append-nil, length-append}
use Rattle.std.specs.Prelude.{◌||◌, ◌==◌, filter, map, max, nat_lt, not}
use Rattle.std.specs.List.{list_any}
use Rattle.std.specs.Option.{option_map_or}
use Rattle.std.specs.Str.{bytes_eq}
use Rattle.std.proofs.lemmas.Bool.{eq-eqb}
use Rattle.std.proofs.lemmas.Slice.Eq.{bytes_eq-Decides}
use Rattle.cell_types.specs.declared.kind.CellKind.TheVariants.{Memory}
use Rattle.cell_types.specs.declared.memory.MemoryKind.TheVariants.{MemwrV2}
use Rattle.rtl_bits.specs.Numbers.{number_of}
use Rattle.rtl_ir.specs.Constants.{low_bits, value_bits}
use Rattle.rtl_ir.specs.Faults.Cells.{misfit}
use Rattle.rtl_ir.specs.Faults.MemoryCells.{is_bad_in, is_bad_memory_cell, is_bad_write, is_unlike, store_named}
use Rattle.rtl_ir.specs.Flat.Access.{line_mask, write_trigger}
use Rattle.rtl_ir.specs.WritePorts.{EventLine, WritePort, cell_port, cell_ports, lines_of, next_port}
use Rattle.rtl_ir.specs.declared.cell.Cell.{Cell}
use Rattle.rtl_ir.specs.declared.module.Module.{Module}
use Rattle.rtl_ir.specs.declared.value.Value.TheVariants.{Chars}
use Rattle.net_model.proofs.Members.{map-append}
use Rattle.net_model.specs.Proc.Sync.{Numbered, line_number, polarity_of, ports_in}
use Rattle.sync_laws.proofs.Parts.{named}
use Rattle.sync_laws.proofs.GoodLines.{AreAsMany, IsGoodLine, number_of_line, small_of}
use Rattle.sync_laws.proofs.Lines.{filter_both}
use Rattle.sync_laws.proofs.Ports.{is_port_of, number_is, port_of}
use Rattle.sync_laws.proofs.Sound.{IsSound}
use Rattle.sync_laws.proofs.WriteFits.{memwr_fits}
use Rattle.sync_laws.proofs.WriteParts.{write_part}
use Rattle.pass_laws.proofs.CellNumbers.{number_known}

-- the number behind ports, with one more
next_more : (ps : List WritePort) (p : WritePort) → next_port (ps ++ p ∷ []) ≡ max (next_port ps) (p.number + 1)
next_more [] p = omega arith
next_more (q ∷ ps) p = omega (arith, next_more ps p)

-- a number that none of these ports has
none_taken : (n : ℕ) (ps : List WritePort) → next_port ps ≤ n → list_any (λ (p : WritePort). p.number == n) ps ≡ false
none_taken n [] h = refl
none_taken n (p ∷ ps) h =
    let other : (p.number == n) ≡ false = grind (arith, h) in
    λ i. other i || none_taken n ps (omega (arith, h)) i

module _ (m : Module) where
  -- cells stand for the ports of the module and the lines before, as far as numbers are asked
  abbrev pub StandFor : List EventLine → List Cell → Type 0
  StandFor checked earlier =
      (name : List ℕ) →
      next_port (cell_ports m.links name earlier) ≤ next_port (cell_ports m.links name m.cells) + length (lines_of name checked)

  module _ (before rule : List Numbered) (checked : List EventLine) (l : EventLine) (k : ℕ) (many : AreAsMany m before checked) (good : IsGoodLine m checked l) where
    abbrev number : ℕ
    number = line_number m before l.line.memory

    abbrev pub port : Cell
    port = named (write_part l.event l.line (line_number m before l.line.memory) rule) k

    small : line_number m before l.line.memory ≤ 65535
    small = small_of m before checked l many good

    port_is : (cell_port m.links port).number ≡ number
    port_is = number_is number small

    more_ports : (name : List ℕ) (earlier : List Cell) → cell_ports m.links name (earlier ++ port ∷ []) ≡ cell_ports m.links name earlier ++ map (cell_port m.links) (if bytes_eq name l.line.memory then port ∷ [] else [])
    more_ports name earlier =
        ap (map (cell_port m.links)) (filter_both (is_port_of name) earlier (port ∷ []))
        ∙ map-append (cell_port m.links) (filter (is_port_of name) earlier) (filter (is_port_of name) (port ∷ []))
        ∙ ap (λ t. cell_ports m.links name earlier ++ map (cell_port m.links) (if t then port ∷ [] else [])) (port_of l.event l.line number rule k name)

    more_lines : (name : List ℕ) → lines_of name (checked ++ l ∷ []) ≡ lines_of name checked ++ (if bytes_eq name l.line.memory then l ∷ [] else [])
    more_lines name = filter_both (λ (x : EventLine). bytes_eq name x.line.memory) checked (l ∷ [])

    module _ (earlier : List Cell) (stand : StandFor checked earlier) where
      -- the number behind them
      pub stand_more : StandFor (checked ++ l ∷ []) (earlier ++ port ∷ [])
      stand_more name = by (bytes_eq name l.line.memory) refl (more_ports name earlier) (more_lines name)
        where
          by : (t : Bool) → bytes_eq name l.line.memory ≡ t
              → cell_ports m.links name (earlier ++ port ∷ []) ≡ cell_ports m.links name earlier ++ map (cell_port m.links) (if t then port ∷ [] else [])
              → lines_of name (checked ++ l ∷ []) ≡ lines_of name checked ++ (if t then l ∷ [] else [])
              → next_port (cell_ports m.links name (earlier ++ port ∷ [])) ≤ next_port (cell_ports m.links name m.cells) + length (lines_of name (checked ++ l ∷ []))
          by true e f g =
              let same : name ≡ good.store.name = (bytes_eq-Decides name l.line.memory).0 e ∙ sym good.named in
              let here : line_number m before l.line.memory ≡ next_port (cell_ports m.links name m.cells) + length (lines_of name checked) = number_of_line m before checked l many good ∙ ap (λ z. next_port (cell_ports m.links z m.cells) + length (lines_of z checked)) (sym same) in
              let next : next_port (cell_ports m.links name (earlier ++ port ∷ [])) ≡ max (next_port (cell_ports m.links name earlier)) (number + 1) = ap next_port f ∙ next_more (cell_ports m.links name earlier) (cell_port m.links port) ∙ ap (λ n. max (next_port (cell_ports m.links name earlier)) (n + 1)) port_is in
              let more : length (lines_of name (checked ++ l ∷ [])) ≡ length (lines_of name checked) + 1 = ap length g ∙ length-append (lines_of name checked) (l ∷ []) in
              omega (arith, stand name, here, next, more)
          by false e f g =
              let next : next_port (cell_ports m.links name (earlier ++ port ∷ [])) ≡ next_port (cell_ports m.links name earlier) = ap next_port (f ∙ append-nil (cell_ports m.links name earlier)) in
              let more : length (lines_of name (checked ++ l ∷ [])) ≡ length (lines_of name checked) = ap length (g ∙ append-nil (lines_of name checked)) in
              omega (arith, stand name, next, more)

      module _ (count : ℕ) (sound : IsSound count l.event l.line) where
        word : number_of (low_bits (length l.line.value) 32) ≡ length l.line.value
        word = let few : length l.line.value ≤ 65535 = omega (arith, sound.narrow) in number_is (length l.line.value) few

        short : length l.line.address ≤ 32
        short = grind (arith, good.address)

        long : number_of (low_bits (length l.line.address) 32) ≡ length l.line.address
        long = let few : length l.line.address ≤ 65535 = omega (arith, short) in number_is (length l.line.address) few

        -- it fits its kind
        pub port_fits : misfit (Memory MemwrV2) port ≡ None
        unfolding misfit
        port_fits =
            memwr_fits (low_bits (length l.line.value) 32) (length l.line.value) (number_known (length l.line.value)) word sound.bits.word sound.narrow (value_bits (Chars l.line.memory)) (low_bits (length l.line.address) 32) (low_bits 1 32) (low_bits (polarity_of (write_trigger l.event).level) 32) (low_bits number 32)
            (line_mask number (ports_in l.line.memory rule) (value_bits l.line.mask)) (length l.line.address) (length (write_trigger l.event).signal) (length l.line.enable) (length l.line.address) (length l.line.value) (number_known (length l.line.address)) (number_known 1) (number_known (polarity_of (write_trigger l.event).level)) (number_known number) long (eq-eqb (length l.line.address) (length l.line.address) refl) sound.clock sound.even refl refl

        like : is_unlike good.store port ≡ false
        like =
            let some : (length l.line.address == 0) ≡ false = grind (arith, sound.bits.address) in
            λ i. (not ((ap (λ n. n == good.store.width) word ∙ good.width) i) || (ap (λ n. n == 0) long ∙ some) i) || (ap (nat_lt 32) long ∙ good.address) i

        pub port_good : (n : Module) → n.links ≡ m.links → n.memories ≡ m.memories → is_bad_memory_cell false n earlier port MemwrV2 ≡ false
        port_good n links memories =
            ap (λ o. option_map_or (is_bad_in false n earlier port MemwrV2) o true) (ap (λ z. store_named z l.line.memory) memories ∙ good.there)
            ∙ ap (λ z. is_unlike good.store port || is_bad_write false z (cell_ports z good.store.name earlier) port) links
            ∙ (λ i. like i || writes i)
          where
            clocked : not (nat_lt 0 (number_of (low_bits 1 32))) ≡ false
            clocked = ap (λ n. not (nat_lt 0 n)) (number_is 1 (omega arith))

            few : nat_lt 65535 (number_of (low_bits number 32)) ≡ false
            few = ap (nat_lt 65535) (number_is number small ∙ number_of_line m before checked l many good) ∙ good.few

            taken : list_any (λ (p : WritePort). p.number == number_of (low_bits number 32)) (cell_ports m.links good.store.name earlier) ≡ false
            taken =
                let number' = number_is number small ∙ number_of_line m before checked l many good in
                none_taken (number_of (low_bits number 32)) (cell_ports m.links good.store.name earlier) (omega (arith, stand good.store.name, number'))

            writes : is_bad_write false m.links (cell_ports m.links good.store.name earlier) port ≡ false
            writes = λ i. ((clocked i || few i) || taken i) || false
