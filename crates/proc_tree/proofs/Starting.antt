-- Start values that are moved into the attributes of wires stay the same.
use Rattle.std.proofs.Common.{◌≡◌, ◌<◌, ℕ, zero, suc, ◌+◌, Bool, true, false, if◌then◌else◌, ◌&&◌, List, [], ◌∷◌, ◌++◌, Option, Some, None, add-zero, zero-add, arith, refl, sym, ◌∙◌, ap}
use Rattle.std.specs.Prelude.{◌==◌, codes, find, flat_map, map, slice_get, slice_index_or, unwrap_or, IsSomeAnd}
use Rattle.std.specs.List.{list_any}
use Rattle.std.specs.Option.{option_map, option_map_or, option_or}
use Rattle.std.specs.Str.{bytes_eq}
use Rattle.std.proofs.lemmas.Bool.{or_parts}
use Rattle.std.proofs.lemmas.List.FromFn.{get_or-map-range_with_len}
use Rattle.rtl_bits.specs.declared.bit.Bit.{Bit}
use Rattle.rtl_bits.specs.declared.bit.Bit.TheVariants.{S0, S1, X, Z, M, Dash}
use Rattle.rtl_bits.specs.Tables.{seen_of}
use Rattle.rtl_sig.specs.declared.sig.SigBit.{SigBit}
use Rattle.rtl_sig.specs.declared.sig.SigBit.TheVariants.{Fixed, Wire as OnWire}
use Rattle.rtl_sig.specs.declared.sig.WireBit.{WireBit}
use Rattle.rtl_ir.specs.declared.module.Module.{Module}
use Rattle.rtl_ir.specs.declared.process.Process.{Process}
use Rattle.rtl_ir.specs.declared.value.Attribute.{Attribute}
use Rattle.rtl_ir.specs.declared.wire.Wire.{Wire}
use Rattle.rtl_ir.specs.Constants.{value_bits}
use Rattle.rtl_ir.specs.Flat.Place.{Path, wire_place}
use Rattle.rtl_ir.specs.Flat.Point.{name_or_empty}
use Rattle.rtl_ir.specs.Flat.Start.{Begun, init_bit, init_bits, last_start, process_starts, start_of}
use Rattle.rtl_ir.specs.Attributes.{attribute_bits}
use Rattle.net_model.specs.Proc.Start.{begun_wires, init_attribute, is_begun, ruled_process, wire_starts, with_attribute}
use Rattle.proc_laws.specs.Ready.{IsBitOf}
use Rattle.proc_tree.proofs.Naming.{SamePlaces}
use Rattle.proc_tree.proofs.Ruled.{no_starts_left}

-- no process gives a start value any more
none_left : (ps : List Process) → flat_map process_starts (map ruled_process ps) ≡ []
none_left [] = refl
none_left (p ∷ ps) = λ i. no_starts_left p i ++ none_left ps i

-- an attribute that is put among others is the one of its name
put_there : (bits : List Bit) (attributes : List Attribute) → attribute_bits (with_attribute (init_attribute bits) attributes) (codes "\\init") ≡ bits
put_there bits [] = refl
put_there bits (a ∷ attributes) = by (bytes_eq a.name (codes "\\init")) refl (put_there bits attributes)
  where
    by : (t : Bool) → bytes_eq a.name (codes "\\init") ≡ t → attribute_bits (with_attribute (init_attribute bits) attributes) (codes "\\init") ≡ bits
        → attribute_bits (if t then init_attribute bits ∷ attributes else a ∷ with_attribute (init_attribute bits) attributes) (codes "\\init") ≡ bits
    by true e f = refl
    by false e f =
        ap (λ t. option_map_or (λ (b : Attribute). value_bits b.value) (if t then Some a else find (λ (b : Attribute). bytes_eq b.name (codes "\\init")) (with_attribute (init_attribute bits) attributes)) []) e ∙ f

seen_twice : (b : Bit) → seen_of (seen_of b) ≡ seen_of b
seen_twice S0 = refl
seen_twice S1 = refl
seen_twice X = refl
seen_twice Z = refl
seen_twice M = refl
seen_twice Dash = refl

-- no start value is given to a bit of a wire to which none is given
not_begun : (starts : List Begun) (b : WireBit) → list_any (λ (s : Begun). s.bit.wire == b.wire) starts ≡ false → last_start starts b ≡ None
not_begun [] b e = refl
not_begun (s ∷ starts) b e =
    let parts = or_parts (s.bit.wire == b.wire) (list_any (λ (s : Begun). s.bit.wire == b.wire) starts) e in
    λ i. option_or (not_begun starts b parts.1 i) (if (parts.0 i) && (s.bit.at == b.at) then Some s.value else None)

module _ (m : Module) where
  -- a wire at a place, with its start values where a process gives one to a bit of it
  abbrev pub begun_wire : ℕ → Wire → Wire
  begun_wire at w =
      if is_begun m at then record w { attributes = with_attribute (init_attribute (wire_starts m at w.width)) w.attributes } else w

  get_begun : (at : ℕ) (ws : List Wire) (k : ℕ) → slice_get (begun_wires m at ws) k ≡ option_map (begun_wire (at + k)) (slice_get ws k)
  get_begun at [] k = refl
  get_begun at (w ∷ ws) zero = ap (λ n. Some (begun_wire n w)) (sym (add-zero at))
  get_begun at (w ∷ ws) (suc k) =
      let same : (at + 1) + k ≡ at + suc k = omega arith in
      get_begun (at + 1) ws k ∙ ap (λ n. option_map (begun_wire n) (slice_get ws k)) same

  -- the wire at a place of the module
  pub wire_begun : (k : ℕ) → slice_get (begun_wires m 0 m.wires) k ≡ option_map (begun_wire k) (slice_get m.wires k)
  wire_begun k = get_begun 0 m.wires k ∙ ap (λ n. option_map (begun_wire n) (slice_get m.wires k)) (zero-add k)

  name_stays : (t : Bool) (k : ℕ) (o : Option Wire) → name_or_empty (option_map (λ (w : Wire). if t then record w { attributes = with_attribute (init_attribute (wire_starts m k w.width)) w.attributes } else w) o) ≡ name_or_empty o
  name_stays true k None = refl
  name_stays false k None = refl
  name_stays true k (Some w) = refl
  name_stays false k (Some w) = refl

  pub begun_places : (p : Path) → SamePlaces p (begun_wires m 0 m.wires) m.wires
  begun_places p b =
      ap (λ o. wire_place p (name_or_empty o) b.at) (wire_begun b.wire) ∙ ap (λ n. wire_place p n b.at) (name_stays (is_begun m b.wire) b.wire (slice_get m.wires b.wire))

  -- what a bit of a wire starts with
  bit_begun : (b : WireBit) (o : Option Wire) → slice_get m.wires b.wire ≡ o → IsSomeAnd o (λ w. b.at < w.width) → (t : Bool) → is_begun m b.wire ≡ t
      → seen_of (slice_index_or (init_bits (option_map (λ (w : Wire). if t then record w { attributes = with_attribute (init_attribute (wire_starts m b.wire w.width)) w.attributes } else w) o)) b.at X)
      ≡ start_of m.wires m.processes (OnWire b)
  bit_begun b None e h t f = absurd h
  bit_begun b (Some w) e h true f =
      ap (λ bits. seen_of (slice_index_or bits b.at X)) (put_there (wire_starts m b.wire w.width) w.attributes)
      ∙ ap seen_of (get_or-map-range_with_len (λ k. start_of m.wires m.processes (OnWire (record { wire = b.wire; at = k }))) 0 w.width b.at b.at X h (zero-add b.at))
      ∙ seen_twice (unwrap_or (last_start (flat_map process_starts m.processes) b) (init_bit m.wires b))
  bit_begun b (Some w) e h false f =
      ap (λ o. seen_of (slice_index_or (init_bits o) b.at X)) (sym e)
      ∙ ap (λ l. seen_of (unwrap_or l (init_bit m.wires b))) (sym (not_begun (flat_map process_starts m.processes) b f))

  pub start_begun : (s : SigBit) → IsBitOf m.wires s → start_of (begun_wires m 0 m.wires) (map ruled_process m.processes) s ≡ start_of m.wires m.processes s
  start_begun (Fixed c) h = refl
  start_begun (OnWire b) h =
      ap (λ starts. seen_of (unwrap_or (last_start starts b) (init_bit (begun_wires m 0 m.wires) b))) (none_left m.processes)
      ∙ ap (λ o. seen_of (slice_index_or (init_bits o) b.at X)) (wire_begun b.wire)
      ∙ bit_begun b (slice_get m.wires b.wire) refl h (is_begun m b.wire) refl
