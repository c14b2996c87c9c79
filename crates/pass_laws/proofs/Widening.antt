-- Fresh wires behind the wires of a module are a pass of their own.
use Rattle.std.proofs.Common.{◌≡◌, ◌<◌, ◌≤◌, ℕ, ◌+◌, Bool, true, false, cond, if◌then◌else◌, List, [], ◌∷◌, ◌++◌, length, inl, inr, ⊎_elim, refl, sym, ◌∙◌, ap, subst, arith, length-append}
use Rattle.std.specs.Prelude.{◌==◌, ◌&&◌, ◌||◌, ℤ, flat_map, int_lt, map, nat_lt, pos}
use Rattle.std.specs.List.{list_any, range_with_len}
use Rattle.std.specs.Ordering.{int_eq}
use Rattle.std.proofs.lemmas.Bool.{ne_eqb}
use Rattle.rtl_sig.specs.declared.sig.SigBit.{SigBit}
use Rattle.rtl_sig.specs.declared.sig.SigBit.TheVariants as sig
use Rattle.rtl_sig.specs.declared.sig.WireBit.{WireBit}
use Rattle.rtl_ir.specs.Drivers.{Drive, FromPort, all_by, cell_drives, drive_count, drives_of, is_input, link_drives, port_drives, rule_drives, tree_drives}
use Rattle.rtl_ir.specs.Fault.{BadPort, fault_if, spot}
use Rattle.rtl_ir.specs.Faults.Bits.{bit_faults, bits_faults, faults_of_two}
use Rattle.rtl_ir.specs.Faults.Processes.{process_faults}
use Rattle.rtl_ir.specs.Faults.Wires.{is_bad_port, is_inout, wire_faults, with_number}
use Rattle.rtl_ir.specs.Flat.Cell.{Ports}
use Rattle.rtl_ir.specs.Flat.Tree as flat
use Rattle.rtl_ir.specs.Outputs.{drives_pin}
use Rattle.rtl_ir.specs.Ports.{is_port}
use Rattle.rtl_ir.specs.Scope.{without_processes}
use Rattle.rtl_ir.specs.Signals.{bits_of_wire, wire_bits}
use Rattle.rtl_ir.specs.Types as types
use Rattle.rtl_ir.specs.Types.{CellType, cell_type}
use Rattle.rtl_ir.specs.declared.cell.Cell.{Cell}
use Rattle.rtl_ir.specs.declared.cell.Pin.{Pin}
use Rattle.rtl_ir.specs.declared.module.Link.{Link}
use Rattle.rtl_ir.specs.declared.module.Module.{Module}
use Rattle.rtl_ir.specs.declared.ports.PortTable.{PortTable}
use Rattle.rtl_ir.specs.declared.wire.Role.TheVariants.{Input}
use Rattle.rtl_ir.specs.declared.wire.Wire.{Wire}
use Rattle.net_model.proofs.Grown.{grown_refines, ports_more}
use Rattle.net_model.proofs.GrowingMore.{rows_more}
use Rattle.net_model.proofs.Members.{In-cases, In-map, In-mapped}
use Rattle.net_model.specs.Lists.{Distinct, In}
use Rattle.net_model.specs.Refine.{IsWellDriven, places_of}
use Rattle.net_model.specs.Within.{AreInner, BitIn, CellIn, Each, IsWithin, LinkIn, SigIn, with_wires}
use Rattle.pass_laws.specs.Bits.{cells_bits, links_bits, pin_bits}
use Rattle.pass_laws.specs.Pass.{IsPass}
use Rattle.pass_laws.specs.Ready.{IsReady}
use Rattle.pass_laws.proofs.Accesses.{accesses_stay, none_there}
use Rattle.pass_laws.proofs.Counting.{bits_of, count, count_more, driven_count}
use Rattle.pass_laws.proofs.Faultless.{HasNoFaults, IsPlain, no_faults, plain}
use Rattle.pass_laws.proofs.Forming.{all_none, own_accesses, own_cells, own_links}

-- wires that are no ports have no faults, and no drivers from outside
inner_faults : (id : List ℕ) (numbers : List ℤ) (fs : List Wire) → AreInner fs → wire_faults id numbers fs ≡ []
inner_faults id numbers [] h = refl
inner_faults id numbers (f ∷ fs) h =
    ap (λ r. fault_if (is_inout r || (is_port r && (int_lt f.number (pos 1) || list_any (int_eq f.number) numbers))) (BadPort (spot id f.name)) ++ wire_faults id (if is_port r then f.number ∷ numbers else numbers) fs) (h f (inl refl))
    ∙ inner_faults id numbers fs (λ x i. h x (inr i))

pub more_faults : (id : List ℕ) (numbers : List ℤ) (ws fs : List Wire) → AreInner fs → wire_faults id numbers (ws ++ fs) ≡ wire_faults id numbers ws
more_faults id numbers [] fs h = inner_faults id numbers fs h
more_faults id numbers (w ∷ ws) fs h =
    ap (λ z. fault_if (is_bad_port numbers w) (BadPort (spot id w.name)) ++ z) (more_faults id (with_number numbers w) ws fs h)

inner_drives : (n : ℕ) (fs : List Wire) → AreInner fs → port_drives n fs ≡ []
inner_drives n [] h = refl
inner_drives n (f ∷ fs) h =
    ap (λ r. (if is_input r then all_by FromPort (bits_of_wire n f.width) else []) ++ port_drives (n + 1) fs) (h f (inl refl)) ∙ inner_drives (n + 1) fs (λ x i. h x (inr i))

pub more_drives : (n : ℕ) (ws fs : List Wire) → AreInner fs → port_drives n (ws ++ fs) ≡ port_drives n ws
more_drives n [] fs h = inner_drives n fs h
more_drives n (w ∷ ws) fs h =
    ap (λ z. (if is_input w.role then all_by FromPort (bits_of_wire n w.width) else []) ++ z) (more_drives (n + 1) ws fs h)

-- bits of wires before a place of the list of wires
module _ (k : ℕ) where
  abbrev Under : List WireBit → Type 0
  Under bits = Each (λ (b : WireBit). b.wire < k) bits

  pub none_counted : (bits : List WireBit) → Under bits → (b : WireBit) → k ≤ b.wire → count b bits ≡ 0
  none_counted [] h b l = refl
  none_counted (x ∷ xs) h b l =
      let first : x.wire < k = h x (inl refl) in
      let differs : (x.wire == b.wire) ≡ false = ne_eqb x.wire b.wire (λ e. absurd (omega (arith, first, l, e))) in
      let rest = none_counted xs (λ y i. h y (inr i)) b l in
      ap (λ t. cond (t && (x.at == b.at)) 1 0 + count b xs) differs ∙ omega (arith, rest)

  under_more : (xs ys : List WireBit) → Under xs → Under ys → Under (xs ++ ys)
  under_more xs ys h l b i = ⊎_elim (λ j. h b j) (λ j. l b j) (In-cases b xs ys i)

  signal_under : (signal : List SigBit) → SigIn k signal → Under (wire_bits signal)
  signal_under [] h b i = absurd i
  signal_under (sig.Fixed c ∷ signal) h b i = signal_under signal (λ s j. h s (inr j)) b i
  signal_under (sig.Wire w ∷ signal) h b (inl e) = subst (λ z. z.wire < k) (sym e) (h (sig.Wire w) (inl refl))
  signal_under (sig.Wire w ∷ signal) h b (inr i) = signal_under signal (λ s j. h s (inr j)) b i

  pins_under : (type : CellType) (pins : List Pin) → Each (λ (pin : Pin). SigIn k pin.sig) pins → Under (pin_bits type pins)
  pins_under type [] h b i = absurd i
  pins_under type (p ∷ ps) h b i =
      ⊎_elim
      (λ l. by (drives_pin type p.name) l)
      (λ r. pins_under type ps (λ x j. h x (inr j)) b r)
      (In-cases b (if drives_pin type p.name then wire_bits p.sig else []) (pin_bits type ps) i)
    where
      by : (t : Bool) → In b (if t then wire_bits p.sig else []) → b.wire < k
      by true j = signal_under p.sig (h p (inl refl)) b j
      by false j = absurd j

  pub cells_under : (ports : types.Ports) (cs : List Cell) → Each (CellIn k) cs → Under (cells_bits ports cs)
  cells_under ports [] h b i = absurd i
  cells_under ports (c ∷ cs) h b i =
      under_more (pin_bits (cell_type ports c.kind_name) c.pins) (cells_bits ports cs) (pins_under (cell_type ports c.kind_name) c.pins (h c (inl refl))) (cells_under ports cs (λ x j. h x (inr j))) b i

  pub links_under : (ls : List Link) → Each (LinkIn k) ls → Under (links_bits ls)
  links_under [] h b i = absurd i
  links_under (l ∷ ls) h b i =
      under_more (wire_bits l.left) (links_bits ls) (signal_under l.left (h l (inl refl)).0) (links_under ls (λ x j. h x (inr j))) b i

  pub ports_under : (n : ℕ) (ws : List Wire) → n + length ws ≤ k → Under (bits_of (port_drives n ws))
  ports_under n [] h b i = absurd i
  ports_under n (w ∷ ws) h b i =
      let d = In-mapped (λ (x : Drive). x.bit) b (port_drives n (w ∷ ws)) i in
      ⊎_elim
      (λ l. by (is_input w.role) d.0 d.2 l)
      (λ r. ports_under (n + 1) ws (omega (arith, h)) b (subst (λ z. In z (bits_of (port_drives (n + 1) ws))) (sym d.2) (In-map (λ (x : Drive). x.bit) d.0 (port_drives (n + 1) ws) r)))
      (In-cases d.0 (if is_input w.role then all_by FromPort (bits_of_wire n w.width) else []) (port_drives (n + 1) ws) d.1)
    where
      by : (t : Bool) (x : Drive) → b ≡ x.bit → In x (if t then all_by FromPort (bits_of_wire n w.width) else []) → b.wire < k
      by true x e j =
          let bit = In-mapped (λ (y : WireBit). record { bit = y; source = FromPort }) x (bits_of_wire n w.width) j in
          let at = In-mapped (λ z. record { wire = n; at = z }) bit.0 (range_with_len 0 w.width) bit.1 in
          let same : b.wire ≡ n = ap (λ y. y.wire) e ∙ ap (λ (y : Drive). y.bit.wire) bit.2 ∙ ap (λ (y : WireBit). y.wire) at.2 in
          omega (arith, h, same)
      by false x e j = absurd j

  -- where no bit from this wire on is driven, none has two drivers
  module _ (id : List ℕ) (ds : List Drive) (none : (b : WireBit) → k ≤ b.wire → drive_count ds b ≡ 0) where
    fresh_at : (n : ℕ) → k ≤ n → (w : Wire) (ats : List ℕ) → flat_map (bit_faults id ds n w) ats ≡ []
    fresh_at n h w [] = refl
    fresh_at n h w (at ∷ ats) =
        ap (λ c. (if nat_lt 1 c then faults_of_two id w at else []) ++ flat_map (bit_faults id ds n w) ats) (none (record { wire = n; at = at }) h) ∙ fresh_at n h w ats

    fresh_from : (n : ℕ) → k ≤ n → (fs : List Wire) → bits_faults id ds n fs ≡ []
    fresh_from n h [] = refl
    fresh_from n h (f ∷ fs) =
        ap (λ z. z ++ bits_faults id ds (n + 1) fs) (fresh_at n h f (range_with_len 0 f.width)) ∙ fresh_from (n + 1) (omega (arith, h)) fs

    fresh_behind : (n : ℕ) (ws fs : List Wire) → k ≤ n + length ws → bits_faults id ds n (ws ++ fs) ≡ bits_faults id ds n ws
    fresh_behind n [] fs h = fresh_from n (omega (arith, h)) fs
    fresh_behind n (w ∷ ws) fs h =
        ap (λ z. flat_map (bit_faults id ds n w) (range_with_len 0 w.width) ++ z) (fresh_behind (n + 1) ws fs (omega (arith, h)))

-- what names the first wires names those of a longer list
module _ (n k : ℕ) (more : n ≤ k) where
  bit_wider : (s : SigBit) → BitIn n s → BitIn k s
  bit_wider (sig.Fixed c) h = tt
  bit_wider (sig.Wire b) h = omega (arith, more, h)

  signal_wider : (signal : List SigBit) → SigIn n signal → SigIn k signal
  signal_wider signal h s i = bit_wider s (h s i)

  pub cell_wider : (c : Cell) → CellIn n c → CellIn k c
  cell_wider c h pin i = signal_wider pin.sig (h pin i)

  pub link_wider : (l : Link) → LinkIn n l → LinkIn k l
  link_wider l h = (signal_wider l.left h.0, signal_wider l.right h.1)

module _ (m : Module) (fresh : List Wire) (inner : AreInner fresh) where
  module _ (ports : types.Ports) (ready : IsReady ports m) (named : Distinct (map (λ (w : Wire). w.name) (m.wires ++ fresh))) where
    fine : IsPlain m
    fine = plain ports m ready.faultless

    none : HasNoFaults without_processes ports m
    none = no_faults without_processes ports m ready.faultless

    count_none : (b : WireBit) → length m.wires ≤ b.wire → drive_count (drives_of ports m) b ≡ 0
    count_none b h =
        let all = driven_count ports m fine.processes (own_links ports m ready) b in
        let more = count_more b (cells_bits ports m.cells) (links_bits m.links) in
        let lines : count b (bits_of (port_drives 0 m.wires)) ≡ 0 = none_counted (length m.wires) (bits_of (port_drives 0 m.wires)) (ports_under (length m.wires) 0 m.wires (omega arith)) b h in
        let cells : count b (cells_bits ports m.cells) ≡ 0 = none_counted (length m.wires) (cells_bits ports m.cells) (cells_under (length m.wires) ports m.cells ready.within.cells) b h in
        let links : count b (links_bits m.links) ≡ 0 = none_counted (length m.wires) (links_bits m.links) (links_under (length m.wires) m.links ready.within.links) b h in
        omega (arith, all, more, lines, cells, links)

    same_drives : drives_of ports (with_wires fresh m) ≡ drives_of ports m
    same_drives =
        ap (λ z. (((z ++ cell_drives ports 0 m.cells) ++ link_drives m.links) ++ tree_drives 0 m.processes) ++ rule_drives 0 m.processes) (more_drives 0 m.wires fresh inner)

    still_bits : bits_faults m.id (drives_of ports (with_wires fresh m)) 0 (m.wires ++ fresh) ≡ []
    still_bits =
        ap (λ z. bits_faults m.id z 0 (m.wires ++ fresh)) same_drives
        ∙ fresh_behind (length m.wires) m.id (drives_of ports m) count_none 0 m.wires fresh (omega arith)
        ∙ none.bits

    longer : length m.wires ≤ length (m.wires ++ fresh)
    longer = omega (arith, length-append m.wires fresh)

    still_ready : IsReady ports (with_wires fresh m)
    still_ready = record {
      faultless = all_none (more_faults m.id [] m.wires fresh inner ∙ none.wires) none.stores (none_there ports (with_wires fresh m) [] m.cells (own_cells ports m ready) (accesses_stay ports m (with_wires fresh m) refl [] [] (λ name. refl) m.cells (own_accesses ports m ready))) (ap (process_faults without_processes ports (with_wires fresh m) []) fine.processes) none.links still_bits;
      named = named;
      within = record {
        cells = λ c i. cell_wider (length m.wires) (length (m.wires ++ fresh)) longer c (ready.within.cells c i);
        links = λ l i. link_wider (length m.wires) (length (m.wires ++ fresh)) longer l (ready.within.links l i);
        processes = λ x i. absurd (subst (In x) fine.processes i);
      };
      once = λ b. subst (λ ds. drive_count ds b ≤ 1) (sym same_drives) (ready.once b);
    }

  still_driven : IsWithin m → (ports : Ports) → IsWellDriven ports m → IsWellDriven ports (with_wires fresh m)
  still_driven within ports h = record {
    inputs = λ p. subst (λ lines. Distinct (flat.places (flat.role_points Input p lines))) (sym (ports_more m.wires fresh inner)) (h.inputs p);
    rows = λ p. subst (λ rows. Distinct (places_of rows)) (sym (rows_more ports p m fresh within)) (h.rows p);
    apart = λ p x i at n j. h.apart p x (subst (In x) (rows_more ports p m fresh within) i) at n (subst (In n) (ports_more m.wires fresh inner) j);
    instances = h.instances;
  }

-- fresh wires of new names are a pass
pub widened : (table : PortTable) (m : Module) (fresh : List Wire) → AreInner fresh → Distinct (map (λ (w : Wire). w.name) (m.wires ++ fresh)) → IsReady (types.table_ports table.modules) m → IsPass table m (with_wires fresh m)
widened table m fresh inner named ready = record {
  id = refl;
  ports = sym (ports_more m.wires fresh inner);
  instances = refl;
  driven = λ over agree. still_driven m fresh inner ready.within over;
  ready = λ h. still_ready m fresh inner (types.table_ports table.modules) ready named;
  refines = grown_refines m fresh (flat.table_ports table) ready.within inner;
}
