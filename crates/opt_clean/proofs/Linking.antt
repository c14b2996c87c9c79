-- In a module that a pass may be given, what drives a bit of a wire is the only thing that does.
use Rattle.std.proofs.Common.{◌≡◌, ℕ, zero, suc, ◌+◌, ◌<◌, ◌≤◌, Bool, true, false, cond, if◌then◌else◌, List, [], ◌∷◌, ◌++◌, map, Option, Some, None, ◌⊎◌, inl, inr, ⊎_elim, refl, sym, ◌∙◌, ap, subst, arith}
use Rattle.std.specs.Prelude.{find, is_some, option_map, slice_get}
use Rattle.rtl_sig.specs.declared.sig.SigBit.{SigBit}
use Rattle.rtl_sig.specs.declared.sig.SigBit.TheVariants as sig
use Rattle.rtl_sig.specs.declared.sig.WireBit.{WireBit}
use Rattle.rtl_ir.specs.declared.cell.Cell.{Cell}
use Rattle.rtl_ir.specs.declared.cell.Pin.{Pin}
use Rattle.rtl_ir.specs.declared.module.Module.{Module}
use Rattle.rtl_ir.specs.declared.wire.Wire.{Wire}
use Rattle.rtl_ir.specs.Drivers.{Drive, Source, FromPort, FromCell, FromLink, FromTree, FromRules, all_by, cell_drives, driver_in, drives_of, is_input, link_drives, pin_drives, places_by, port_drives, rule_drives, tree_drives}
use Rattle.rtl_ir.specs.Follow.{all_joins, source_at}
use Rattle.rtl_ir.specs.declared.follow.Join.{Join}
use Rattle.rtl_ir.specs.Outputs.{drives_pin}
use Rattle.rtl_ir.specs.Signals.{bits_of_wire, same_bit, wire_bits}
use Rattle.rtl_ir.specs.Types.{CellType, Ports, cell_type}
use Rattle.net_index.proofs.IndexTables.{same_bit-refl}
use Rattle.net_model.specs.Lists.{In}
use Rattle.net_model.proofs.Members.{In-cases, In-left, In-map, In-mapped, In-right}
use Rattle.follow_laws.specs.Inputs.{followed, followed_cell}
use Rattle.follow_laws.proofs.Faultless.{bits_stay}
use Rattle.pass_laws.specs.Bits.{pin_bits}
use Rattle.pass_laws.specs.Ready.{IsReady}
use Rattle.pass_laws.proofs.Counting.{bits_of, count, counted}
use Rattle.pass_laws.proofs.Faultless.{IsPlain, plain}
use Rattle.opt_clean.specs.Keep.{is_shown, output_bits}
use Rattle.opt_clean.specs.Linked.{Drives, IsOnce, cell_place, is_link, is_linked}
use Rattle.opt_clean.specs.Runs.{ended, is_connected, run_link, runs, shown_links}
use Rattle.opt_clean.proofs.Joins.{source_in}
use Rattle.pass_laws.proofs.Once.{count_in, driver_found}
use Rattle.opt_clean.proofs.Showing.{wire_in}

-- the only drive of a bit is found
find_only : (ds : List Drive) (d : Drive) → In d ds → count d.bit (bits_of ds) ≤ 1 → find (λ (e : Drive). same_bit e.bit d.bit) ds ≡ Some d
find_only [] d i few = absurd i
find_only (e ∷ ds) d (inl f) few =
    ap (λ t. cond t (Some e) (find (λ (z : Drive). same_bit z.bit d.bit) ds)) (ap (λ (z : Drive). same_bit z.bit d.bit) (sym f) ∙ same_bit-refl d.bit) ∙ ap Some (sym f)
find_only (e ∷ ds) d (inr i) few = by (find_only ds d i) (same_bit e.bit d.bit) refl
  where
    by : (count d.bit (bits_of ds) ≤ 1 → find (λ (z : Drive). same_bit z.bit d.bit) ds ≡ Some d) → (t : Bool) → same_bit e.bit d.bit ≡ t → cond t (Some e) (find (λ (z : Drive). same_bit z.bit d.bit) ds) ≡ Some d
    by later true f =
        let one : ◌≡◌ {A = ℕ} (cond (same_bit e.bit d.bit) 1 0) 1 = ap {B = ℕ} (λ t. cond t 1 0) f in
        let more : 1 ≤ count d.bit (bits_of ds) = count_in d.bit (bits_of ds) (In-map (λ (z : Drive). z.bit) d ds i) in
        absurd (omega (arith, few, one, more))
    by later false f =
        let none : ◌≡◌ {A = ℕ} (cond (same_bit e.bit d.bit) 1 0) 0 = ap {B = ℕ} (λ t. cond t 1 0) f in
        later (omega (arith, few, none))

-- of ports
port_source : (first : ℕ) (ws : List Wire) (d : Drive) → In d (port_drives first ws) → d.source ≡ FromPort
port_source first [] d i = absurd i
port_source first (w ∷ ws) d i =
    ⊎_elim (λ l. by (is_input w.role) l) (λ r. port_source (first + 1) ws d r) (In-cases d (if is_input w.role then all_by FromPort (bits_of_wire first w.width) else []) (port_drives (first + 1) ws) i)
  where
    by : (t : Bool) → In d (if t then all_by FromPort (bits_of_wire first w.width) else []) → d.source ≡ FromPort
    by true j = let k = In-mapped (λ (b : WireBit). record { bit = b; source = FromPort }) d (bits_of_wire first w.width) j in ap (λ (z : Drive). z.source) k.2
    by false j = absurd j

-- of cells: a drive is of a place of a pin that a cell drives
places_from : (source : ℕ → Source) (at : ℕ) (bits : List SigBit) (d : Drive) → In d (places_by source at bits) → In d.bit (wire_bits bits) × ((k : ℕ) × (d.source ≡ source k))
places_from source at [] d i = absurd i
places_from source at (sig.Fixed c ∷ bits) d i = places_from source (at + 1) bits d i
places_from source at (sig.Wire b ∷ bits) d (inl e) = (inl (ap (λ (z : Drive). z.bit) e), (at, ap (λ (z : Drive). z.source) e))
places_from source at (sig.Wire b ∷ bits) d (inr i) = let k = places_from source (at + 1) bits d i in (inr k.0, k.1)

places_have : (source : ℕ → Source) (at : ℕ) (bits : List SigBit) (b : WireBit) → In b (wire_bits bits) → (k : ℕ) × In (record { bit = b; source = source k }) (places_by source at bits)
places_have source at [] b i = absurd i
places_have source at (sig.Fixed c ∷ bits) b i = places_have source (at + 1) bits b i
places_have source at (sig.Wire d ∷ bits) b (inl e) = (at, inl (λ i. record { bit = e i; source = source at }))
places_have source at (sig.Wire d ∷ bits) b (inr i) = let k = places_have source (at + 1) bits b i in (k.0, inr k.1)

pins_from : (type : CellType) (cell pin : ℕ) (ps : List Pin) (d : Drive) → In d (pin_drives type cell pin ps) → In d.bit (pin_bits type ps) × ((j : ℕ) × (k : ℕ) × (d.source ≡ FromCell cell j k))
pins_from type cell pin [] d i = absurd i
pins_from type cell pin (p ∷ ps) d i =
    ⊎_elim
    (λ l. here (drives_pin type p.name) l)
    (λ r. let k = pins_from type cell (pin + 1) ps d r in (In-right d.bit (if drives_pin type p.name then wire_bits p.sig else []) (pin_bits type ps) k.0, k.1))
    (In-cases d (if drives_pin type p.name then places_by (λ at. FromCell cell pin at) 0 p.sig else []) (pin_drives type cell (pin + 1) ps) i)
  where
    here : (t : Bool) → In d (if t then places_by (λ at. FromCell cell pin at) 0 p.sig else []) → In d.bit ((if t then wire_bits p.sig else []) ++ pin_bits type ps) × ((j : ℕ) × (k : ℕ) × (d.source ≡ FromCell cell j k))
    here true j = let k = places_from (λ at. FromCell cell pin at) 0 p.sig d j in (In-left d.bit (wire_bits p.sig) (pin_bits type ps) k.0, (pin, k.1.0, k.1.1))
    here false j = absurd j

pins_drive : (type : CellType) (cell pin : ℕ) (ps : List Pin) (b : WireBit) → In b (pin_bits type ps) → (j : ℕ) × (k : ℕ) × In (record { bit = b; source = FromCell cell j k }) (pin_drives type cell pin ps)
pins_drive type cell pin [] b i = absurd i
pins_drive type cell pin (p ∷ ps) b i =
    ⊎_elim
    (λ l. here (drives_pin type p.name) l)
    (λ r. let k = pins_drive type cell (pin + 1) ps b r in (k.0, k.1, In-right (record { bit = b; source = FromCell cell k.0 k.1 }) (if drives_pin type p.name then places_by (λ at. FromCell cell pin at) 0 p.sig else []) (pin_drives type cell (pin + 1) ps) k.2))
    (In-cases b (if drives_pin type p.name then wire_bits p.sig else []) (pin_bits type ps) i)
  where
    here : (t : Bool) → In b (if t then wire_bits p.sig else []) → (j : ℕ) × (k : ℕ) × In (record { bit = b; source = FromCell cell j k }) ((if t then places_by (λ at. FromCell cell pin at) 0 p.sig else []) ++ pin_drives type cell (pin + 1) ps)
    here true j =
        let k = places_have (λ at. FromCell cell pin at) 0 p.sig b j in
        (pin, k.0, In-left (record { bit = b; source = FromCell cell pin k.0 }) (places_by (λ at. FromCell cell pin at) 0 p.sig) (pin_drives type cell (pin + 1) ps) k.1)
    here false j = absurd j

cell_from : (ports : Ports) (first : ℕ) (cs : List Cell) (d : Drive) → In d (cell_drives ports first cs) → (n : ℕ) × (c : Cell) × (slice_get cs n ≡ Some c) × In d.bit (output_bits ports c) × ((j : ℕ) × (k : ℕ) × (d.source ≡ FromCell (first + n) j k))
cell_from ports first [] d i = absurd i
cell_from ports first (c ∷ cs) d i =
    ⊎_elim
    (λ l. let k = pins_from (cell_type ports c.kind_name) first 0 c.pins d l in
    let z : first ≡ first + 0 = omega arith in
    (0, c, refl, k.0, (k.1.0, k.1.1, k.1.2 ∙ ap (λ n. FromCell n k.1.0 k.1.1) z)))
    (λ r. let k = cell_from ports (first + 1) cs d r in
    let z : first + 1 + k.0 ≡ first + suc k.0 = omega arith in
    (suc k.0, k.1, k.2, k.3, (k.4.0, k.4.1, k.4.2 ∙ ap (λ n. FromCell n k.4.0 k.4.1) z)))
    (In-cases d (pin_drives (cell_type ports c.kind_name) first 0 c.pins) (cell_drives ports (first + 1) cs) i)

cell_has : (ports : Ports) (first : ℕ) (cs : List Cell) (n : ℕ) (c : Cell) (b : WireBit) → slice_get cs n ≡ Some c → In b (output_bits ports c) → (j : ℕ) × (k : ℕ) × In (record { bit = b; source = FromCell (first + n) j k }) (cell_drives ports first cs)
cell_has ports first [] n c b e i = absurd (cc)
cell_has ports first (d ∷ cs) zero c b e i =
    let same : c ≡ d = cc in
    let k = pins_drive (cell_type ports d.kind_name) first 0 d.pins b (subst (λ (z : Cell). In b (output_bits ports z)) same i) in
    let z : first ≡ first + 0 = omega arith in
    (k.0, k.1, In-left (record { bit = b; source = FromCell (first + 0) k.0 k.1 }) (pin_drives (cell_type ports d.kind_name) first 0 d.pins) (cell_drives ports (first + 1) cs) (subst (λ n. In (record { bit = b; source = FromCell n k.0 k.1 }) (pin_drives (cell_type ports d.kind_name) first 0 d.pins)) z k.2))
cell_has ports first (d ∷ cs) (suc n) c b e i =
    let k = cell_has ports (first + 1) cs n c b e i in
    let z : first + 1 + n ≡ first + suc n = omega arith in
    (k.0, k.1, In-right (record { bit = b; source = FromCell (first + suc n) k.0 k.1 }) (pin_drives (cell_type ports d.kind_name) first 0 d.pins) (cell_drives ports (first + 1) cs) (subst (λ n. In (record { bit = b; source = FromCell n k.0 k.1 }) (cell_drives ports (first + 1) cs)) z k.2))

-- the connections are the same where the bits of the wires fit alike
runs_same : (fits gits : WireBit → Bool) (run bits : List WireBit) → ((b : WireBit) → In b bits → fits b ≡ gits b) → runs fits run bits ≡ runs gits run bits
runs_same fits gits run [] h = refl
runs_same fits gits run (b ∷ bits) h =
    let here = h b (inl refl) in
    let on = runs_same fits gits (run ++ b ∷ []) bits (λ c i. h c (inr i)) in
    let off = runs_same fits gits [] bits (λ c i. h c (inr i)) in
    λ i. if here i then on i else (ended run ++ off i)

shown_same : (fits gits : WireBit → Bool) (source : WireBit → SigBit) (first : ℕ) (ws : List Wire) → ((k : ℕ) (w : Wire) → slice_get ws k ≡ Some w → (b : WireBit) → b.wire ≡ first + k → b.at < w.width → fits b ≡ gits b) → shown_links fits source first ws ≡ shown_links gits source first ws
shown_same fits gits source first [] h = refl
shown_same fits gits source first (w ∷ ws) h =
    let z : first ≡ first + 0 = omega arith in
    let here = runs_same fits gits [] (bits_of_wire first w.width) (λ b i. let k = wire_in first w.width b i in h 0 w refl b (k.0 ∙ z) k.1) in
    let later = shown_same fits gits source (first + 1) ws (λ k v e b f lt. let y : first + 1 + k ≡ first + suc k = omega arith in h (suc k) v e b (f ∙ y) lt) in
    λ i. (if is_shown w then map (run_link source) (here i) else []) ++ later i

module _ (ports : Ports) (m : Module) (ready : IsReady ports m) where
  fine : IsPlain m
  fine = plain ports m ready.faultless

  abbrev p : List Drive
  p = port_drives 0 m.wires

  abbrev c : List Drive
  c = cell_drives ports 0 m.cells

  abbrev l : List Drive
  l = link_drives m.links

  abbrev t : List Drive
  t = tree_drives 0 m.processes

  abbrev r : List Drive
  r = rule_drives 0 m.processes

  -- a drive is of a port, a cell or a connection
  cases : (d : Drive) → In d (drives_of ports m) → (d.source ≡ FromPort) ⊎ (In d c ⊎ In d l)
  cases d i =
      ⊎_elim
      (λ x. ⊎_elim
      (λ y. ⊎_elim
      (λ z. ⊎_elim (λ u. inl (port_source 0 m.wires d u)) (λ u. inr (inl u)) (In-cases d p c z))
      (λ z. inr (inr z))
      (In-cases d (p ++ c) l y))
      (λ y. absurd (subst (λ ps. In d (tree_drives 0 ps)) fine.processes y))
      (In-cases d ((p ++ c) ++ l) t x))
      (λ x. absurd (subst (λ ps. In d (rule_drives 0 ps)) fine.processes x))
      (In-cases d (((p ++ c) ++ l) ++ t) r i)

  in_cells : (d : Drive) → In d c → In d (drives_of ports m)
  in_cells d i = In-left d (((p ++ c) ++ l) ++ t) r (In-left d ((p ++ c) ++ l) t (In-left d (p ++ c) l (In-right d p c i)))

  in_links : (d : Drive) → In d l → In d (drives_of ports m)
  in_links d i = In-left d (((p ++ c) ++ l) ++ t) r (In-left d ((p ++ c) ++ l) t (In-right d (p ++ c) l i))

  only : (d : Drive) → In d (drives_of ports m) → driver_in (drives_of ports m) d.bit ≡ Some d.source
  only d i =
      ap (option_map (λ (e : Drive). e.source)) (find_only (drives_of ports m) d i (omega (arith, ready.once d.bit, counted d.bit (drives_of ports m))))

  -- a connection drives the bit, and nothing else does
  linked : (b : WireBit) → is_linked ports m b ≡ is_connected m.links b
  linked b = by (source_at (all_joins m.links) b) refl
    where
      from_link : (s : Source) → driver_in (drives_of ports m) b ≡ Some s → source_at (all_joins m.links) b ≡ None → is_link (Some s) ≡ false
      from_link FromPort e f = refl
      from_link (FromCell x y z) e f = refl
      from_link (FromTree x) e f = refl
      from_link (FromRules x) e f = refl
      from_link (FromLink s) e f =
          absurd (⊎_elim
          (λ port. let no : FromLink s ≡ FromPort = port in differ_port s no)
          (λ other. ⊎_elim
          (λ cell. let k = cell_from ports 0 m.cells (record { bit = b; source = FromLink s }) cell in differ_cell s (0 + k.0) k.4.0 k.4.1 k.4.2)
          (λ link. let k = In-mapped (λ (j : Join). record { bit = j.bit; source = FromLink j.source }) (record { bit = b; source = FromLink s }) (all_joins m.links) link in
          has_source (all_joins m.links) k.0 k.1 (ap (λ (z : Drive). z.bit) k.2) f)
          other)
          (cases (record { bit = b; source = FromLink s }) (driver_found (drives_of ports m) b (FromLink s) e)))
        where
          differ_port : (s : SigBit) → FromLink s ≡ FromPort → ⊥
          differ_port s e = cc

          differ_cell : (s : SigBit) (x y z : ℕ) → FromLink s ≡ FromCell x y z → ⊥
          differ_cell s x y z e = cc

          has_source : (js : List Join) (j : Join) → In j js → b ≡ j.bit → source_at js b ≡ None → ⊥
          has_source [] j i e f = absurd i
          has_source (k ∷ js) j (inl g) e f =
              let same : same_bit k.bit b ≡ true = ap (same_bit k.bit) (e ∙ ap (λ (z : Join). z.bit) g) ∙ same_bit-refl k.bit in
              let no : Some k.source ≡ None = sym (ap (λ t. if t then Some k.source else source_at js b) same) ∙ f in
              absurd (cc)
          has_source (k ∷ js) j (inr i) e f = by (λ g. has_source js j i e g) (same_bit k.bit b) f
            where
              by : (source_at js b ≡ None → ⊥) → (t : Bool) → (if t then Some k.source else source_at js b) ≡ None → ⊥
              by later true g = cc
              by later false g = later g

      by : (o : Option SigBit) → source_at (all_joins m.links) b ≡ o → is_linked ports m b ≡ is_connected m.links b
      by (Some s) e =
          let d : Drive = record { bit = b; source = FromLink s } in
          let i : In d l = In-map (λ (j : Join). record { bit = j.bit; source = FromLink j.source }) (record { bit = b; source = s }) (all_joins m.links) (source_in (all_joins m.links) b s e) in
          ap is_link (only d (in_links d i)) ∙ sym (ap is_some e)
      by None e = none (driver_in (drives_of ports m) b) refl ∙ sym (ap is_some e)
        where
          none : (o : Option Source) → driver_in (drives_of ports m) b ≡ o → is_link (driver_in (drives_of ports m) b) ≡ false
          none None f = ap is_link f
          none (Some s) f = ap is_link f ∙ from_link s f e

  slice_map : {A B : Type 0} (f : A → B) (xs : List A) (n : ℕ) (y : B) → slice_get (map f xs) n ≡ Some y → (x : A) × (slice_get xs n ≡ Some x) × (y ≡ f x)
  slice_map f [] n y e = absurd (cc)
  slice_map f (x ∷ xs) zero y e = let same : y ≡ f x = cc in (x, refl, same)
  slice_map f (x ∷ xs) (suc n) y e = slice_map f xs n y e

  map_slice : {A B : Type 0} (f : A → B) (xs : List A) (n : ℕ) (x : A) → slice_get xs n ≡ Some x → slice_get (map f xs) n ≡ Some (f x)
  map_slice f [] n x e = absurd (cc)
  map_slice f (y ∷ xs) zero x e = let same : y ≡ x = cc in ap (λ z. Some (f z)) same
  map_slice f (y ∷ xs) (suc n) x e = map_slice f xs n x e

  -- what drives the bits of the cells, whose inputs may be followed
  same_outputs : (d : Cell) → output_bits ports (followed_cell ports m.links d) ≡ output_bits ports d
  same_outputs d = bits_stay (cell_type ports d.kind_name) m.links d.pins

  drives : Drives ports m (followed ports m).cells
  drives = record {
    forth = λ i d at b j.
        let k = slice_map (followed_cell ports m.links) m.cells i d at in
        let out : In b (output_bits ports k.0) = subst (In b) (ap (output_bits ports) k.2 ∙ same_outputs k.0) j in
        let h = cell_has ports 0 m.cells i k.0 b k.1 out in
        let z : 0 + i ≡ i = omega arith in
        ap cell_place (only (record { bit = b; source = FromCell (0 + i) h.0 h.1 }) (in_cells (record { bit = b; source = FromCell (0 + i) h.0 h.1 }) h.2)) ∙ ap (λ n. n ∷ []) z;
    back = λ b i j. place b i (driver_in (drives_of ports m) b) refl j;
  }
    where
      found : (b : WireBit) (i n at : ℕ) → driver_in (drives_of ports m) b ≡ Some (FromCell i n at) → (d : Cell) × (slice_get (followed ports m).cells i ≡ Some d) × In b (output_bits ports d)
      found b i n at e =
          let it : Drive = record { bit = b; source = FromCell i n at } in
          ⊎_elim
          (λ port. absurd (differ_port i n at port))
          (λ other. ⊎_elim
          (λ cell. let k = cell_from ports 0 m.cells it cell in
          let sum : i ≡ 0 + k.0 = same_cell i n at (0 + k.0) k.4.0 k.4.1 k.4.2 in
          let same : i ≡ k.0 = omega (arith, sum) in
          (followed_cell ports m.links k.1, map_slice (followed_cell ports m.links) m.cells i k.1 (ap (slice_get m.cells) same ∙ k.2), subst (In b) (sym (same_outputs k.1)) k.3))
          (λ link. let k = In-mapped (λ (j : Join). record { bit = j.bit; source = FromLink j.source }) it (all_joins m.links) link in absurd (differ_link i n at k.0.source (ap (λ (z : Drive). z.source) k.2)))
          other)
          (cases it (driver_found (drives_of ports m) b (FromCell i n at) e))
        where
          differ_port : (x y z : ℕ) → FromCell x y z ≡ FromPort → ⊥
          differ_port x y z e = cc

          differ_link : (x y z : ℕ) (s : SigBit) → FromCell x y z ≡ FromLink s → ⊥
          differ_link x y z s e = cc

          same_cell : (x y z u v w : ℕ) → FromCell x y z ≡ FromCell u v w → x ≡ u
          same_cell x y z u v w e = cc

      place : (b : WireBit) (i : ℕ) (o : Option Source) → driver_in (drives_of ports m) b ≡ o → In i (cell_place (driver_in (drives_of ports m) b)) → (d : Cell) × (slice_get (followed ports m).cells i ≡ Some d) × In b (output_bits ports d)
      place b i o e j = by o e (subst (λ z. In i (cell_place z)) e j)
        where
          by : (o : Option Source) → driver_in (drives_of ports m) b ≡ o → In i (cell_place o) → (d : Cell) × (slice_get (followed ports m).cells i ≡ Some d) × In b (output_bits ports d)
          by None f k = absurd k
          by (Some FromPort) f k = absurd k
          by (Some (FromLink s)) f k = absurd k
          by (Some (FromTree x)) f k = absurd k
          by (Some (FromRules x)) f k = absurd k
          by (Some (FromCell x y z)) f (inl same) = found b i y z (f ∙ ap (λ n. Some (FromCell n y z)) (sym same))
          by (Some (FromCell x y z)) f (inr k) = absurd k

-- what drives the bits of a module that a pass may be given
pub is_once : (ports : Ports) (m : Module) → IsReady ports m → IsOnce ports m
is_once ports m ready = record {
  links = λ source. shown_same (is_linked ports m) (is_connected m.links) source 0 m.wires (λ k w e b f lt. linked ports m ready b);
  drives = drives ports m ready;
}
