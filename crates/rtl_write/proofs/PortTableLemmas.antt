-- The tables of ports of readable designs are such as their text gives again.
use Rattle.std.proofs.Common.{ℕ, List, [], ◌∷◌, Ordering, Less, Equal, Greater, arith}
use Rattle.std.specs.Prelude.{filter}
use Rattle.std.specs.List.{All}
use Rattle.std.specs.Ordering.{nat_cmp, int_cmp, match_ordering}
use Rattle.std.specs.Cmp.Lexicographic.{slice_cmp}
use Rattle.std.proofs.lemmas.List.Elements.{All-nil, All-cons, All-head, All-tail, All-map, All-filter, All-weaker}
use Rattle.rtl_ir.specs.declared.wire.Wire.{Wire}
use Rattle.rtl_ir.specs.declared.module.Module.{Module}
use Rattle.rtl_ir.specs.declared.module.Design.{Design}
use Rattle.rtl_ir.specs.Ports.{is_port, place_wire, in_number_order, line_of, place_module, in_name_order, instantiates, instances_of, ports_by_module, cells_at, port_table_of}
use Rattle.rtl_readable.specs.Readable.{IsWire, IsReadableModule, IsReadable}
use Rattle.rtl_write.specs.PortTables.{IsPortLine, AreModulePorts, ArePorts}

-- what holds of each wire holds of each in order
placed_wire : (P : Wire → Type 0) (w : Wire) (wires : List Wire) → P w → All P wires → All P (place_wire w wires)
placed_wire P w [] h all = All-cons P w [] h (All-nil P)
placed_wire P w (v ∷ vs) h all = by (placed_wire P w vs h (All-tail P v vs all)) (int_cmp w.number v.number)
  where
    by : All P (place_wire w vs) → (o : Ordering) → All P (match_ordering o (w ∷ v ∷ vs) (w ∷ v ∷ vs) (v ∷ place_wire w vs))
    by more Less = All-cons P w (v ∷ vs) h all
    by more Equal = All-cons P w (v ∷ vs) h all
    by more Greater = All-cons P v (place_wire w vs) (All-head P v vs all) more

ordered_wires : (P : Wire → Type 0) (wires : List Wire) → All P wires → All P (in_number_order wires)
ordered_wires P [] all = All-nil P
ordered_wires P (w ∷ ws) all = placed_wire P w (in_number_order ws) (All-head P w ws all) (ordered_wires P ws (All-tail P w ws all))

-- .. and of each module
placed_module : (P : Module → Type 0) (m : Module) (modules : List Module) → P m → All P modules → All P (place_module m modules)
placed_module P m [] h all = All-cons P m [] h (All-nil P)
placed_module P m (n ∷ ns) h all = by (placed_module P m ns h (All-tail P n ns all)) (slice_cmp nat_cmp m.id n.id)
  where
    by : All P (place_module m ns) → (o : Ordering) → All P (match_ordering o (m ∷ n ∷ ns) (m ∷ ns) (n ∷ place_module m ns))
    by more Less = All-cons P m (n ∷ ns) h all
    by more Equal = All-cons P m ns h (All-tail P n ns all)
    by more Greater = All-cons P n (place_module m ns) (All-head P n ns all) more

ordered_modules : (P : Module → Type 0) (modules : List Module) → All P modules → All P (in_name_order modules)
ordered_modules P [] all = All-nil P
ordered_modules P (m ∷ ms) all = placed_module P m (in_name_order ms) (All-head P m ms all) (ordered_modules P ms (All-tail P m ms all))

readable_port : (w : Wire) → IsWire w → IsPortLine (line_of w)
readable_port w is = record { name = is.name; width = omega (arith, is.width); number = is.number }

readable_ports : (m : Module) → IsReadableModule m → AreModulePorts (ports_by_module m)
readable_ports m is = record {
  id = is.id;
  ports = All-map IsPortLine line_of (in_number_order (filter (λ w. is_port w.role) m.wires))
      (All-weaker IsWire (λ w. IsPortLine (line_of w)) readable_port (in_number_order (filter (λ w. is_port w.role) m.wires)) (ordered_wires IsWire (filter (λ w. is_port w.role) m.wires) (All-filter (λ w. is_port w.role) IsWire m.wires is.wires)));
}

pub readable_table : (d : Design) (at : ℕ) → IsReadable d → ArePorts (record { modules = port_table_of d.modules at })
readable_table d at is =
    let cells = cells_at d.modules at in
    All-map AreModulePorts ports_by_module (instances_of d.modules cells)
    (All-weaker IsReadableModule (λ m. AreModulePorts (ports_by_module m)) readable_ports (instances_of d.modules cells) (ordered_modules IsReadableModule (filter (λ m. instantiates cells m.id) d.modules) (All-filter (λ m. instantiates cells m.id) IsReadableModule d.modules is.modules)))
