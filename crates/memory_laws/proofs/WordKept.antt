-- Each bit of each word keeps to what is said: it is below the bit that stands for it.
use Rattle.std.proofs.Common.{◌≡◌, ◌<◌, ◌≤◌, ℕ, zero, suc, ◌+◌, Bool, true, false, List, [], ◌∷◌, length, Some, refl, sym, ◌∙◌, ap, subst, arith}
use Rattle.std.specs.Prelude.{◌==◌, map, nat_abs, slice_index_or}
use Rattle.std.proofs.lemmas.Bool.{eqb-true}
use Rattle.std.proofs.lemmas.List.FromFn.{get_or-map-range_with_len, length-map-range_with_len}
use Rattle.cell_gate.specs.Control.{pick_of}
use Rattle.rtl_bits.proofs.Orders.{Below_refl, Below_trans}
use Rattle.rtl_bits.proofs.Tables.{mux_of_mono, seen_of_plain}
use Rattle.rtl_bits.specs.Knowledge.{Below}
use Rattle.rtl_bits.specs.Tables.{seen_of}
use Rattle.rtl_bits.specs.declared.bit.Bit.{Bit}
use Rattle.rtl_bits.specs.declared.bit.Bit.TheVariants.{X}
use Rattle.rtl_sig.specs.declared.sig.SigBit.TheVariants.{Fixed, Wire as OnWire}
use Rattle.rtl_ir.specs.Build.{building_of, whole}
use Rattle.rtl_ir.specs.Flat.Access.{Access, first_trigger}
use Rattle.rtl_ir.specs.Flat.Cell.{Ports}
use Rattle.rtl_ir.specs.Flat.Driver.{Driven, Driver, Remembered}
use Rattle.rtl_ir.specs.Flat.Memory.{port_points}
use Rattle.rtl_ir.specs.Flat.Place.{Frame, OfWord, Path, Place, word_place}
use Rattle.rtl_ir.specs.Flat.Point.{bit_place, point, point_at, points}
use Rattle.rtl_ir.specs.declared.module.Module.{Module}
use Rattle.rtl_ir.specs.declared.store.Store.{Store}
use Rattle.rtl_ir.specs.declared.wire.Wire.{Wire}
use Rattle.net_model.proofs.Orders.{below as below_order}
use Rattle.net_model.proofs.Relating.{reached_solved}
use Rattle.net_model.proofs.Writing.{ports_kept}
use Rattle.net_model.specs.Mem.Expand.{Word, word_at, word_step, word_wires}
use Rattle.net_model.specs.Mem.Gather.{write_port}
use Rattle.net_model.specs.Refine.{Solved}
use Rattle.net_model.specs.Relate.{Reached, Related, SameMoment}
use Rattle.net_model.specs.Order.{Manner}
use Rattle.net_model.specs.Run.{Time, Start, Step}
use Rattle.net_model.specs.Valuation.{Valuation}
use Rattle.net_model.specs.Value.{edge_at, value_of}
use Rattle.net_model.specs.Words.{after_ports}
use Rattle.build_laws.proofs.Meeting.{body_before}
use Rattle.build_laws.proofs.Moments.{AreMet}
use Rattle.memory_laws.proofs.MemoryBuilt.{IsAmong, steps_there, wires_there, words_by}
use Rattle.memory_laws.proofs.MemoryThere.{IsBuilt, before, built, clock_is, grown, plan, rising_is, says, start, start_bit, start_bits, wires, word_got, words, writes}
use Rattle.memory_laws.proofs.PortCells.{at_whole}
use Rattle.memory_laws.proofs.PortSteps.{AreWide}
use Rattle.memory_laws.proofs.ReadTrees.{mux_both}
use Rattle.memory_laws.proofs.Saying.{edge_mono, own_word, place_on, ports_on, word_has}
use Rattle.memory_laws.proofs.WordCells.{level_of, moment_of}
use Rattle.memory_laws.proofs.WordSteps.{word_remembers, word_starts}
use Rattle.memory_laws.proofs.WordWires.{HasWordWire, IsWordWire, fixed_at, word_in, word_start, wires_at}

no_writes : (accesses : List Access) → (length (map write_port accesses) == 0) ≡ true → accesses ≡ []
no_writes [] e = refl
no_writes (a ∷ accesses) e =
    let none : suc (length (map write_port accesses)) ≡ 0 = eqb-true (suc (length (map write_port accesses))) 0 e in
    absurd (omega (arith, none))

-- what constants have
fixed_has : (ws : List Wire) (p : Path) (w : Valuation) (bits : List Bit) (k : ℕ) → word_has ws p w (Some (map Fixed bits)) k ≡ slice_index_or bits k X
fixed_has ws p w [] k = refl
fixed_has ws p w (b ∷ bits) zero = refl
fixed_has ws p w (b ∷ bits) (suc k) = fixed_has ws p w bits k

module _ (n : Module) (s : Store) (place : ℕ) (over : Ports) (frames : List Frame) (p : Path) (rows : List Driven) (body : IsBuilt n s place over p rows) (few : s.width ≤ 65536) (wide : AreWide s.width (plan n s place).writes) where
  module _ (j k : ℕ) (there : j < nat_abs s.size) (inside : k < s.width) where
    abbrev address : ℕ
    address = nat_abs s.offset + j

    abbrev bits : List Bit
    bits = start_bits n s place address

    abbrev own : Place
    own = word_place p s.name address k

    long : length bits ≡ s.width
    long = length-map-range_with_len (start_bit n s place address) 0 s.width

    got : slice_index_or bits k X ≡ start_bit n s place address k
    got = get_or-map-range_with_len (start_bit n s place address) 0 s.width k k X inside (omega arith)

    -- the driver of the bit, with write ports of which these are the first and all
    abbrev remembered : List Access → Driver
    remembered accesses =
        Remembered (start_bit n s place address k) (point_at (points p (wires n s place) (first_trigger accesses).signal) 0) (first_trigger accesses).level address (port_points p (wires n s place) k [] accesses) own

    -- what the word has at the place
    abbrev stands : Valuation → Bit
    stands w = word_has (wires n s place) p w (word_at (words n s place) address) k

    -- the step before
    old_low : (v w : Valuation) → Related over frames (says n s place) p v w → Below (v own) (stands w)
    old_low v w rel = own_word s.name (wires n s place) (words n s place) p w address k (v own) (rel.own (OfWord s.name address k))

    -- without write ports
    module _ (none : (length (plan n s place).writes == 0) ≡ true) where
      at_fixed : word_at (words n s place) address ≡ Some (map Fixed bits)
      at_fixed =
          ap (λ t. word_at (words_by t (plan n s place) (nat_abs s.offset) (building_of (before n s place))).0 address) none
          ∙ fixed_at (nat_abs s.offset) (plan n s place).words j bits (word_got n s place j there)

      is_fixed : (w : Valuation) → stands w ≡ start_bit n s place address k
      is_fixed w = ap (λ o. word_has (wires n s place) p w o k) at_fixed ∙ fixed_has (wires n s place) p w bits k ∙ got

      fixed_kept : (t u : Time Place) → SameMoment over frames (says n s place) p t u → (v w : Valuation) → Below (value_of (remembered []) t v) (stands w)
      fixed_kept Start Start st v w = subst (Below (start_bit n s place address k)) (sym (is_fixed w)) (Below_refl (start_bit n s place address k))
      fixed_kept (Step a x f) (Step z y g) st v w =
          let same : stands z ≡ stands w = is_fixed z ∙ sym (is_fixed w) in
          let low : Below (a own) (stands w) = subst (Below (a own)) same (old_low a z st.0) in
          mux_both (a own) (a own) _ (stands w) low low
      fixed_kept Start (Step z y g) st v w = absurd st
      fixed_kept (Step a x f) Start st v w = absurd st

    -- with write ports
    module _ (some : (length (plan n s place).writes == 0) ≡ false) where
      has : HasWordWire (word_wires (nat_abs s.offset) (plan n s place).words (building_of (before n s place))).0 (built n s place).body.wires address bits
      has = wires_at (nat_abs s.offset) (plan n s place).words (building_of (before n s place)) (built n s place) (wires_there (plan n s place) s (building_of (before n s place)) some) j bits (word_got n s place j there)

      wires_are : (built n s place).body.wires ≡ wires n s place
      wires_are = ap (λ (m : Module). m.wires) (grown n s place).body

      wire : IsWordWire (wires n s place) has.signal bits
      wire = subst (λ z. IsWordWire z has.signal bits) wires_are has.wire

      abbrev wide_word : Word
      wide_word = record { address = address; signal = whole wire.wire (length bits) }

      among : IsAmong (word_step (plan n s place) wide_word) (built n s place)
      among =
          subst (λ z. IsAmong (word_step (plan n s place) (record { address = address; signal = z })) (built n s place)) wire.is
          (steps_there (plan n s place) s (building_of (before n s place)) some (record { address = address; signal = has.signal })
          (word_in (word_wires (nat_abs s.offset) (plan n s place).words (building_of (before n s place))).0 address has.signal has.at))

      abbrev bit_at : Place
      bit_at = bit_place p (wires n s place) (record { wire = wire.wire; at = k })

      inside' : k < length bits
      inside' = omega (arith, long, inside)

      is_wire : (w : Valuation) → stands w ≡ w bit_at
      is_wire w =
          ap (λ t. word_has (wires n s place) p w (word_at (words_by t (plan n s place) (nat_abs s.offset) (building_of (before n s place))).0 address) k) some
          ∙ ap (λ o. word_has (wires n s place) p w o k) (has.at ∙ ap Some wire.is)
          ∙ at_whole (moment_of (λ b. X) (λ b. []) p (wires n s place) w Start) wire.wire (length bits) k inside'

      step_met : (t : Time Place) (w : Valuation) → Solved rows t w → AreMet (moment_of (start n s place) over p (wires n s place) w t) (word_step (plan n s place) wide_word among.from).body.cells
      step_met t w solved =
          (body_before (moment_of (start n s place) over p (wires n s place) w t) (word_step (plan n s place) wide_word among.from) (built n s place) among.grows (body t w solved)).cells

      -- the value of a bit, of what it had
      abbrev edge : List Access → Valuation → Valuation → Manner → Bit
      edge accesses a v f = edge_at a v f.first (point_at (points p (wires n s place) (first_trigger accesses).signal) 0) (first_trigger accesses).level

      edge_is : (z w : Valuation) (g : Manner) → edge_at z w g.first (point p (wires n s place) (plan n s place).clock) (level_of (plan n s place).rising) ≡ edge (writes n s place) z w g
      edge_is z w g =
          λ i. edge_at z w g.first (sym (clock_is p (wires n s place) (first_trigger (writes n s place)).signal) i) (rising_is (first_trigger (writes n s place)).level i)

      wire_kept : (t u : Time Place) → SameMoment over frames (says n s place) p t u → (v w : Valuation) → Related over frames (says n s place) p v w → (r : ℕ) → Reached r rows u w → Below (value_of (remembered (writes n s place)) t v) (stands w)
      wire_kept Start Start st v w rel r reached =
          let low = word_starts (start n s place) over p (wires n s place) (plan n s place) address wire.wire (length bits) among.from k inside' w (step_met Start w (reached_solved rows r Start w reached)) in
          let value : start n s place (OnWire (record { wire = wire.wire; at = k })) ≡ start_bit n s place address k = word_start (wires n s place) has.signal bits wire k ∙ ap seen_of got ∙ seen_of_plain _ in
          subst (Below (start_bit n s place address k)) (sym (is_wire w)) (subst (λ z. Below z (w bit_at)) value low)
      wire_kept (Step a x f) (Step z y g) st v w rel (suc r) reached =
          let solved = reached_solved rows (suc r) (Step z y g) w reached in
          let solved' = reached_solved rows r reached.2.0 z reached.2.1 in
          let few' : length bits ≤ 65536 = omega (arith, long, few) in
          let wide' : AreWide (length bits) (plan n s place).writes = (λ q i. wide q i ∙ sym long) in
          let old : Below (a own) (z bit_at) = subst (Below (a own)) (is_wire z) (old_low a z st.0) in
          let points' = port_points p (wires n s place) k [] (writes n s place) in
          let after = word_remembers (start n s place) over p (wires n s place) (plan n s place) address wire.wire (length bits) among.from k inside' few' wide' reached.2.0 z w y g (step_met reached.2.0 z solved') (step_met (Step z y g) w solved) (writes n s place) refl [] [] (a own) old in
          let after' : Below (pick_of (edge (writes n s place) z w g) (after_ports z address [] points' (a own)) (a own)) (w bit_at) = subst (λ e. Below (pick_of e (after_ports z address [] points' (a own)) (a own)) (w bit_at)) (edge_is z w g) after in
          let ports_low : Below (after_ports a address [] points' (a own)) (after_ports z address [] points' (a own)) = ports_kept Below below_order a z address points' [] [] (a own) (a own) tt (ports_on s.name (wires n s place) (words n s place) over frames p a z st.0 k [] (writes n s place)) (Below_refl (a own)) in
          let clock = (first_trigger (writes n s place)).signal in
          let edges : Below (edge (writes n s place) a v f) (edge (writes n s place) z w g) = subst (λ h. Below (edge (writes n s place) a v f) (edge (writes n s place) z w h)) st.2 (edge_mono a z v w f.first (point_at (points p (wires n s place) clock) 0) (first_trigger (writes n s place)).level (place_on s.name (wires n s place) (words n s place) over frames p a z st.0 clock 0) (place_on s.name (wires n s place) (words n s place) over frames p v w rel clock 0)) in
          subst (Below (value_of (remembered (writes n s place)) (Step a x f) v)) (sym (is_wire w))
          (Below_trans (pick_of (edge (writes n s place) a v f) (after_ports a address [] points' (a own)) (a own)) (pick_of (edge (writes n s place) z w g) (after_ports z address [] points' (a own)) (a own)) (w bit_at)
          (mux_of_mono (a own) (a own) _ _ _ _ (Below_refl (a own)) ports_low edges) after')
      wire_kept (Step a x f) (Step z y g) st v w rel zero reached = absurd reached
      wire_kept Start (Step z y g) st v w rel r reached = absurd st
      wire_kept (Step a x f) Start st v w rel r reached = absurd st

    -- a bit of a word
    pub word_kept : (t u : Time Place) → SameMoment over frames (says n s place) p t u → (v w : Valuation) → Related over frames (says n s place) p v w → (r : ℕ) → Reached r rows u w → Below (value_of (remembered (writes n s place)) t v) (stands w)
    word_kept t u st v w rel r reached = by (length (plan n s place).writes == 0) refl
      where
        by : (b : Bool) → (length (plan n s place).writes == 0) ≡ b → Below (value_of (remembered (writes n s place)) t v) (stands w)
        by true e =
            subst (λ z. Below (value_of (remembered z) t v) (stands w)) (sym (no_writes (writes n s place) e)) (fixed_kept e t u st v w)
        by false e = wire_kept e t u st v w rel r reached
