-- The rows of cells with followed inputs: one by one the rows of the cells, with drivers that read what is followed to.
use Rattle.std.proofs.Common.{◌≡◌, ℕ, Bool, true, false, List, [], ◌∷◌, Option, Some, None, ◌⊎◌, inl, inr, refl, sym, ◌∙◌, ap, subst}
use Rattle.std.specs.Prelude.{if◌then◌else◌, map}
use Rattle.cell_types.specs.PinName.{pin_text}
use Rattle.cell_types.specs.declared.kind.CellKind.{CellKind}
use Rattle.cell_types.specs.declared.kind.CellKind.TheVariants as Kind
use Rattle.cell_types.specs.declared.memory.MemoryKind.TheVariants.{Memrd, MemrdV2, MemwrV2, Meminit, MeminitV2}
use Rattle.cell_types.specs.declared.pin_name.PinName.TheVariants.{Data}
use Rattle.rtl_bits.specs.declared.bit.Bit.{Bit}
use Rattle.rtl_sig.specs.declared.sig.SigBit.{SigBit}
use Rattle.rtl_ir.specs.declared.cell.Cell.{Cell}
use Rattle.rtl_ir.specs.declared.cell.Pin.{Pin}
use Rattle.rtl_ir.specs.declared.module.Link.{Link}
use Rattle.rtl_ir.specs.declared.module.Module.{Module}
use Rattle.rtl_ir.specs.declared.ports.PortLine.{PortLine}
use Rattle.rtl_ir.specs.declared.wire.Role.TheVariants.{Output}
use Rattle.rtl_ir.specs.declared.wire.Wire.{Wire}
use Rattle.rtl_ir.specs.Flat.Cell as flat
use Rattle.rtl_ir.specs.Flat.Cell.{cell_kind, cell_rows, cells_rows}
use Rattle.rtl_ir.specs.Flat.Driver.{Driver, Driven}
use Rattle.rtl_ir.specs.Flat.Link.{joins}
use Rattle.rtl_ir.specs.Flat.Memory.{init_bit_of, is_init_kind, is_read_kind}
use Rattle.rtl_ir.specs.Flat.Place.{frame, Path}
use Rattle.rtl_ir.specs.Flat.Point.{Point, point, points, wire_points}
use Rattle.rtl_ir.specs.Follow.{follow}
use Rattle.rtl_ir.specs.Outputs.{drives_pin}
use Rattle.rtl_ir.specs.Parameters.{signal_at}
use Rattle.rtl_ir.specs.Types as types
use Rattle.rtl_ir.specs.Types.{CellType, cell_type}
use Rattle.net_model.specs.Lists.{In}
use Rattle.net_model.specs.Within.{Each}
use Rattle.net_model.proofs.Members.{In-left, In-right}
use Rattle.pass_laws.proofs.Accesses.{IsAccess}
use Rattle.pass_laws.proofs.Faultless.{type_is}
use Rattle.follow_laws.specs.Alike.{InPairs, SameBit}
use Rattle.follow_laws.specs.Inputs.{MayFollow, followed_at, followed_cell, followed_pin}
use Rattle.follow_laws.proofs.Apart.{IsApart, port_in, untouched_at}
use Rattle.follow_laws.proofs.Carrying.{Carries, Rows, cell_paired, rows_self}
use Rattle.follow_laws.proofs.Pairs.{pairs_append, pairs_self}
use Rattle.follow_laws.proofs.Signals.{kind_stays, output_stays, signal_followed}
use Rattle.follow_laws.proofs.Starts.{constants_at, start_stays}
use Rattle.follow_laws.proofs.Words.{CellBy}

module _ (P : Point → Point → Type 0) (related : Driver → Driver → Type 0) (k : Carries P related) (ports : types.Ports) (over : flat.Ports) (start : SigBit → Bit) (p : Path) (wires : List Wire) (links : List Link) (leads : (s : SigBit) → P (point p wires s) (point p wires (follow links s))) where
  signals_paired : (signal : List SigBit) → InPairs P (points p wires signal) (points p wires (map (follow links) signal))
  signals_paired [] = tt
  signals_paired (s ∷ signal) = (leads s, signals_paired signal)

  at_paired : (type : CellType) (name : List _) (signal : List SigBit) → InPairs P (points p wires signal) (points p wires (followed_at type links name signal))
  at_paired type name signal = by (drives_pin type name)
    where
      by : (t : Bool) → InPairs P (points p wires signal) (points p wires (if t then signal else map (follow links) signal))
      by true = pairs_self P k.same_point (points p wires signal)
      by false = signals_paired signal

  module _ (c : Cell) where
    abbrev type : CellType
    type = cell_type ports c.kind_name

    abbrev others : List Pin
    others = map (followed_pin type links) c.pins

    pins_paired : (name : List _) → InPairs P (points p wires (signal_at c.pins name)) (points p wires (signal_at others name))
    pins_paired name =
        subst (λ z. InPairs P (points p wires (signal_at c.pins name)) (points p wires z)) (sym (signal_followed type links name c.pins)) (at_paired type name (signal_at c.pins name))

    abbrev Apart : Type 0
    Apart = (d : Driven) → In d (cell_rows start over p wires c (cell_kind c)) → IsApart p wires links d

    -- what an instance drives is not followed
    port_stays : Apart → cell_kind c ≡ None → (port : PortLine) → In port (over c.kind_name) → port.role ≡ Output → joins (points p wires (signal_at c.pins port.name)) (wire_points (frame c.name c.kind_name ∷ p) port.name 0 port.width) ≡ joins (points p wires (signal_at others port.name)) (wire_points (frame c.name c.kind_name ∷ p) port.name 0 port.width)
    port_stays apart own port i role =
        let inner : List Point = wire_points (frame c.name c.kind_name ∷ p) port.name 0 port.width in
        untouched_at p wires links type port.name (signal_at c.pins port.name) inner (λ d j. apart d (subst (λ o. In d (cell_rows start over p wires c o)) (sym own) (port_in p wires c.pins (frame c.name c.kind_name) (over c.kind_name) port i role d j)))
        ∙ ap (λ z. joins (points p wires z) inner) (sym (signal_followed type links port.name c.pins))

    followed_paired : Apart → Rows P related k (cell_rows start over p wires c (cell_kind c)) (cell_rows start over p wires (followed_cell ports links c) (cell_kind (followed_cell ports links c)))
    followed_paired apart =
        subst (λ o. Rows P related k (cell_rows start over p wires c (cell_kind c)) (cell_rows start over p wires (followed_cell ports links c) o)) (sym (kind_stays ports links c)) (cell_paired P related k start over p wires c others pins_paired (cell_kind c) (λ kind own name e. sym (output_stays ports links c kind own name e)) (port_stays apart))

    either_paired : Apart → (d : Cell) → (c ≡ d) ⊎ (followed_cell ports links c ≡ d) → Rows P related k (cell_rows start over p wires c (cell_kind c)) (cell_rows start over p wires d (cell_kind d))
    either_paired apart d (inl e) =
        subst (λ z. Rows P related k (cell_rows start over p wires c (cell_kind c)) (cell_rows start over p wires z (cell_kind z))) e (rows_self P related k (cell_rows start over p wires c (cell_kind c)))
    either_paired apart d (inr e) =
        subst (λ z. Rows P related k (cell_rows start over p wires c (cell_kind c)) (cell_rows start over p wires z (cell_kind z))) e (followed_paired apart)

  -- the rows of cells, each as it is or with its inputs followed
  pub cells_paired : (cs ds : List Cell) → MayFollow ports links cs ds → ((d : Driven) → In d (cells_rows start over p wires cs) → IsApart p wires links d) → Rows P related k (cells_rows start over p wires cs) (cells_rows start over p wires ds)
  cells_paired [] [] may apart = tt
  cells_paired (c ∷ cs) (d ∷ ds) may apart =
      let here : List Driven = cell_rows start over p wires c (cell_kind c) in
      pairs_append (SameBit related) here (cell_rows start over p wires d (cell_kind d)) (cells_rows start over p wires cs) (cells_rows start over p wires ds)
      (either_paired c (λ x i. apart x (In-left x here (cells_rows start over p wires cs) i)) d may.0)
      (cells_paired cs ds may.1 (λ x i. apart x (In-right x here (cells_rows start over p wires cs) i)))
  cells_paired [] (d ∷ ds) may apart = absurd may
  cells_paired (c ∷ cs) [] may apart = absurd may

  -- the cells of memories in pairs, of a module without faults
  module _ (m : Module) where
    abbrev IsGood : Cell → Type 0
    IsGood c = (before : List Cell) × IsAccess m before c (cell_type ports c.kind_name)

    -- what a read port gives
    word_stays : (c : Cell) (o : Option CellKind) → cell_kind c ≡ o → is_read_kind o ≡ true → signal_at c.pins (pin_text Data) ≡ signal_at (followed_cell ports links c).pins (pin_text Data)
    word_stays c (Some (Kind.Memory Memrd)) own e = sym (output_stays ports links c (Kind.Memory Memrd) own Data refl)
    word_stays c (Some (Kind.Memory MemrdV2)) own e = sym (output_stays ports links c (Kind.Memory MemrdV2) own Data refl)
    word_stays c (Some (Kind.Memory MemwrV2)) own e = absurd (cc)
    word_stays c (Some (Kind.Memory Meminit)) own e = absurd (cc)
    word_stays c (Some (Kind.Memory MeminitV2)) own e = absurd (cc)
    word_stays c (Some (Kind.Word kind)) own e = absurd (cc)
    word_stays c (Some (Kind.Gate kind)) own e = absurd (cc)
    word_stays c (Some (Kind.Storage kind)) own e = absurd (cc)
    word_stays c (Some (Kind.StorageGate kind)) own e = absurd (cc)
    word_stays c None own e = absurd (cc)

    -- what start words give
    start_same : (c : Cell) → IsGood c → (o : Option CellKind) → cell_kind c ≡ o → is_init_kind o ≡ true → (width address at : ℕ) (old : Bit) → init_bit_of width c address at old ≡ init_bit_of width (followed_cell ports links c) address at old
    start_same c good (Some (Kind.Memory kind)) own e =
        start_stays c (others c) (λ name f. signal_followed (type c) links name c.pins ∙ constants_at (type c) links name (signal_at c.pins name) f) m good.0 kind own e (subst (IsAccess m good.0 c) (type_is ports c (Kind.Memory kind) own) good.1)
    start_same c good (Some (Kind.Word kind)) own e = absurd (cc)
    start_same c good (Some (Kind.Gate kind)) own e = absurd (cc)
    start_same c good (Some (Kind.Storage kind)) own e = absurd (cc)
    start_same c good (Some (Kind.StorageGate kind)) own e = absurd (cc)
    start_same c good None own e = absurd (cc)

    cell_by : (c : Cell) → IsGood c → (d : Cell) → (c ≡ d) ⊎ (followed_cell ports links c ≡ d) → CellBy P p wires c d
    cell_by c good d (inl e) = subst (CellBy P p wires c) e (record {
      type = refl;
      kind = refl;
      params = refl;
      pins = λ name. pairs_self P k.same_point (points p wires (signal_at c.pins name));
      word = λ f. refl;
      start = λ f width address at old. refl;
    })
    cell_by c good d (inr e) = subst (CellBy P p wires c) e (record {
      type = refl;
      kind = sym (kind_stays ports links c);
      params = refl;
      pins = pins_paired c;
      word = word_stays c (cell_kind c) refl;
      start = start_same c good (cell_kind c) refl;
    })

    pub cells_by : (cs ds : List Cell) → MayFollow ports links cs ds → Each IsGood cs → InPairs (CellBy P p wires) cs ds
    cells_by [] [] may good = tt
    cells_by (c ∷ cs) (d ∷ ds) may good =
        (cell_by c (good c (inl refl)) d may.0, cells_by cs ds may.1 (λ x i. good x (inr i)))
    cells_by [] (d ∷ ds) may good = absurd may
    cells_by (c ∷ cs) [] may good = absurd may
