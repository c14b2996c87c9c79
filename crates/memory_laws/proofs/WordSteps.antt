-- Each word keeps what the memory remembers.
use Rattle.std.proofs.Common.{◌≡◌, ◌<◌, ◌≤◌, ℕ, ◌+◌, Bool, false, List, [], ◌∷◌, ◌++◌, length, Some, refl, sym, ◌∙◌, subst, arith}
use Rattle.std.specs.Prelude.{codes, map}
use Rattle.std.proofs.lemmas.List.{append-nil}
use Rattle.cell_gate.specs.Control.{pick_of}
use Rattle.cell_types.specs.Kind.{kind_of}
use Rattle.cell_types.specs.declared.kind.CellKind.{CellKind}
use Rattle.cell_types.specs.declared.kind.CellKind.TheVariants.{Storage}
use Rattle.cell_types.specs.declared.storage.StorageKind.TheVariants.{Dff}
use Rattle.rtl_bits.proofs.Orders.{Below_refl, Below_trans}
use Rattle.rtl_bits.proofs.Tables.{mux_of_mono}
use Rattle.rtl_bits.specs.Knowledge.{Below}
use Rattle.rtl_bits.specs.declared.bit.Bit.{Bit}
use Rattle.rtl_sig.specs.declared.sig.SigBit.{SigBit}
use Rattle.rtl_sig.specs.declared.sig.SigBit.TheVariants.{Wire as OnWire}
use Rattle.rtl_sig.specs.declared.sig.WireBit.{WireBit}
use Rattle.rtl_ir.specs.Build.{Building, fresh_wire, inner_wire, made_name, new_cell, whole}
use Rattle.rtl_ir.specs.Faults.Cells.{is_memory_kind}
use Rattle.rtl_ir.specs.Flat.Access.{Access}
use Rattle.rtl_ir.specs.Flat.Cell.{Ports, cell_kind}
use Rattle.rtl_ir.specs.Flat.Memory.{port_points}
use Rattle.rtl_ir.specs.Flat.Place.{Path, Place}
use Rattle.rtl_ir.specs.Flat.Point.{bit_place, point}
use Rattle.rtl_ir.specs.declared.cell.CellParam.{CellParam}
use Rattle.rtl_ir.specs.declared.cell.Pin.{Pin}
use Rattle.rtl_ir.specs.declared.plan.MemPlan.{MemPlan}
use Rattle.rtl_ir.specs.declared.value.Attribute.{Attribute}
use Rattle.rtl_ir.specs.declared.wire.Wire.{Wire}
use Rattle.net_model.proofs.Ranges.{each_more, each_none}
use Rattle.net_model.specs.Mem.Expand.{Word, ports_step, word_step, word_wires, words_step}
use Rattle.net_model.specs.Mem.Gather.{write_port}
use Rattle.net_model.specs.Order.{Manner}
use Rattle.net_model.specs.Run.{Time, Start, Step}
use Rattle.net_model.specs.Valuation.{Valuation}
use Rattle.net_model.specs.Value.{edge_at}
use Rattle.net_model.specs.Words.{after_ports}
use Rattle.memory_laws.proofs.Chain.{chained}
use Rattle.build_laws.proofs.Growing.{Grows, IsPlainCell, grows_both, grows_none, met_before}
use Rattle.build_laws.proofs.Moments.{AreMet, Moment, met_last}
use Rattle.memory_laws.proofs.PortBits.{ports_chained}
use Rattle.memory_laws.proofs.PortCells.{at, at_whole, whole_long}
use Rattle.memory_laws.proofs.PortSteps.{AreWide, ports_grow, ports_stand}
use Rattle.memory_laws.proofs.WordCells.{dff_gives, dff_starts, level_of, moment_of}
use Rattle.build_laws.proofs.CellValues.{whole_get}

-- a cell of the library goes last
pub grows_cell : (name : List ℕ) (kind : CellKind) → kind_of name ≡ Some kind → is_memory_kind kind ≡ false → (params : List CellParam) (pins : List Pin) (b : Building) → Grows b (new_cell name params pins b)
unfolding cell_kind
grows_cell name kind e plain params pins b = record {
  cells = record { kind_name = name; name = made_name b.next; params = params; pins = pins; attributes = [] } ∷ [];
  wires = [];
  links = [];
  body = λ i. record b.body { cells = b.body.cells ++ record { kind_name = name; name = made_name b.next; params = params; pins = pins; attributes = [] } ∷ []; wires = sym (append-nil b.body.wires) i; links = sym (append-nil b.body.links) i };
  plain = each_more IsPlainCell _ [] (record { kind = kind; is = e; plain = plain }) (each_none IsPlainCell);
  inner = λ w i. absurd i;
}

-- a fresh wire goes last
pub grows_wire : (width : ℕ) (attributes : List Attribute) (b : Building) → Grows b (fresh_wire width attributes b).1
grows_wire width attributes b = record {
  cells = [];
  wires = inner_wire (made_name b.next) width attributes ∷ [];
  links = [];
  body = λ i. record b.body { cells = sym (append-nil b.body.cells) i; wires = b.body.wires ++ inner_wire (made_name b.next) width attributes ∷ []; links = sym (append-nil b.body.links) i };
  plain = each_none IsPlainCell;
  inner = each_more _ _ [] refl (λ w i. absurd i);
}

pub wires_grow : (address : ℕ) (words : List (List Bit)) (b : Building) → Grows b (word_wires address words b).1
wires_grow address [] b = grows_none b
wires_grow address (bits ∷ words) b =
    let wire = fresh_wire (length bits) _ b in
    grows_both b wire.1 _ (grows_wire (length bits) _ b) (wires_grow (address + 1) words wire.1)

pub word_grows : (plan : MemPlan) (word : Word) (b : Building) → Grows b (word_step plan word b)
word_grows plan word b =
    let acc = ports_step word.address plan.writes word.signal b in
    grows_both b acc.1 _ (ports_grow word.address plan.writes word.signal b) (grows_cell (codes "$dff") (Storage Dff) refl refl _ _ acc.1)

pub words_grow : (plan : MemPlan) (words : List Word) (b : Building) → Grows b (words_step plan words b)
words_grow plan [] b = grows_none b
words_grow plan (word ∷ words) b =
    grows_both b (word_step plan word b) _ (word_grows plan word b) (words_grow plan words (word_step plan word b))

module _ (start : SigBit → Bit) (ports : Ports) (p : Path) (wires : List Wire) (plan : MemPlan) (address wire width : ℕ) (b : Building) (k : ℕ) (lt : k < width) where
  -- a word that is a wire
  abbrev word : Word
  word = record { address = address; signal = whole wire width }

  abbrev bit : WireBit
  bit = record { wire = wire; at = k }

  -- it starts with its start value
  pub word_starts : (w : Valuation) → AreMet (moment_of start ports p wires w Start) (word_step plan word b).body.cells → Below (start (OnWire bit)) (w (bit_place p wires bit))
  word_starts w met =
      let acc = ports_step address plan.writes (whole wire width) b in
      dff_starts start ports p wires w (made_name acc.1.next) (length (whole wire width)) plan.rising plan.clock acc.0 (whole wire width) (met_last (moment_of start ports p wires w Start) acc.1.body.cells _ met) k bit (whole_get wire width k lt)

  module _ (few : width ≤ 65536) (wide : AreWide width plan.writes) (t : Time Place) (z w : Valuation) (inputs : List Bit) (manner : Manner) (before : AreMet (moment_of start ports p wires z t) (word_step plan word b).body.cells) (now : AreMet (moment_of start ports p wires w (Step z inputs manner)) (word_step plan word b).body.cells) where
    abbrev edge : Bit
    edge = edge_at z w manner.first (point p wires plan.clock) (level_of plan.rising)

    -- and keeps at an edge what the chain makes of it
    pub word_keeps : Below (pick_of edge (chained p wires z address k plan.writes (z (bit_place p wires bit))) (z (bit_place p wires bit))) (w (bit_place p wires bit))
    word_keeps =
        let acc = ports_step address plan.writes (whole wire width) b in
        let m : Moment = moment_of start ports p wires z t in
        let here : at m (whole wire width) k ≡ z (bit_place p wires bit) = at_whole m wire width k lt in
        let long : length (whole wire width) ≡ width = whole_long wire width in
        let few' : length (whole wire width) ≤ 65536 = omega (arith, long, few) in
        let lt' : k < length (whole wire width) = omega (arith, long, lt) in
        let met' = met_before m acc.1 _ (grows_cell (codes "$dff") (Storage Dff) refl refl _ _ acc.1) before in
        let data_low = ports_stand m address plan.writes (whole wire width) b (λ j. at m (whole wire width) j) (λ q i. wide q i ∙ sym long) few' (λ j lj. Below_refl (at m (whole wire width) j)) met' k lt' in
        let data_low' = subst (λ x. Below (chained p wires z address k plan.writes x) (at m acc.0 k)) here data_low in
        Below_trans (pick_of edge (chained p wires z address k plan.writes (z (bit_place p wires bit))) (z (bit_place p wires bit))) (pick_of edge (at m acc.0 k) (z (bit_place p wires bit))) (w (bit_place p wires bit))
        (mux_of_mono (z (bit_place p wires bit)) (z (bit_place p wires bit)) _ _ edge edge (Below_refl (z (bit_place p wires bit))) data_low' (Below_refl edge))
        (dff_gives start ports p wires w z inputs manner (made_name acc.1.next) (length (whole wire width)) plan.rising plan.clock acc.0 (whole wire width) (met_last (moment_of start ports p wires w (Step z inputs manner)) acc.1.body.cells _ now) k bit (whole_get wire width k lt))

    -- and so no less than what is remembered
    pub word_remembers : (accesses : List Access) → plan.writes ≡ map write_port accesses → (hits : List Bit) (others : List Access) (old : Bit) → Below old (z (bit_place p wires bit)) → Below (pick_of edge (after_ports z address hits (port_points p wires k others accesses) old) old) (w (bit_place p wires bit))
    word_remembers accesses are hits others old h =
        let low = ports_chained p wires z address k hits others accesses old (z (bit_place p wires bit)) h in
        let low' = subst (λ x. Below (after_ports z address hits (port_points p wires k others accesses) old) (chained p wires z address k x (z (bit_place p wires bit)))) (sym are) low in
        Below_trans (pick_of edge (after_ports z address hits (port_points p wires k others accesses) old) old) (pick_of edge (chained p wires z address k plan.writes (z (bit_place p wires bit))) (z (bit_place p wires bit))) (w (bit_place p wires bit))
        (mux_of_mono old (z (bit_place p wires bit)) _ _ edge edge h low' (Below_refl edge))
        word_keeps
