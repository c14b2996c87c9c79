-- The rows of cells by what is found of their types.
use Rattle.std.proofs.Common.{◌≡◌, ℕ, List, [], Option, Some, None, map, Result, OnOk, refl, sym, ◌∙◌, ap, subst}
use Rattle.rtl_bits.specs.declared.bit.Bit.{Bit}
use Rattle.rtl_sig.specs.declared.sig.SigBit.{SigBit}
use Rattle.cell_types.specs.declared.kind.CellKind.{CellKind}
use Rattle.cell_types.specs.declared.kind.CellKind.TheVariants.{Storage, StorageGate}
use Rattle.cell_types.specs.declared.storage.StorageKind.{StorageKind}
use Rattle.cell_types.specs.declared.storage_gate.StorageGate as gate
use Rattle.cell_types.specs.Kind.{kind_of}
use Rattle.rtl_ir.specs.declared.cell.Cell.{Cell}
use Rattle.rtl_ir.specs.declared.cell.Pin.{Pin}
use Rattle.rtl_ir.specs.declared.module.Module.{Module}
use Rattle.rtl_ir.specs.declared.wire.Wire.{Wire}
use Rattle.rtl_ir.specs.Flat.Cell.{cell_kind, cell_shape, kind_rows, stored_rows, word_store, gate_store}
use Rattle.rtl_ir.specs.Flat.Driver.{Driven}
use Rattle.rtl_ir.specs.Flat.Place.{Path}
use Rattle.rtl_ir.specs.Flat.Tree.{named, ports_or_none}
use Rattle.rtl_ir.specs.Ports.{line_of}
use Rattle.flat_net.specs.declared.builder.Builder.{Builder}
use Rattle.flat_net.specs.declared.modules.Entry.{Entry}
use Rattle.flat_net.specs.Adds.{Adds}
use Rattle.flat_net.specs.Known.{Known, Extends}
use Rattle.flat_net.specs.Tables.{Stands, all_now}
use Rattle.flat_net.proofs.Adding.{Adds-then, Adds-numbers}
use Rattle.flat_net.proofs.Results.{if_ok}

-- rows that are added over more bits
pub Adds-behind : (a b : Builder) (k : Known) (rows all : List Driven) → Extends a.places k → rows ≡ all → {E : Type 0} (r : Result (Unit {0}) E) → OnOk r (Adds (record { places = k; parts = a.parts }) b rows) → OnOk r (Adds a b all)
Adds-behind a b k rows all e same r h =
    if_ok r h (λ _ added. subst (Adds a b) same (Adds-then a (record { places = k; parts = a.parts }) b [] rows (Adds-numbers a _ e refl) added))

-- the ports of a module that was found
pub found_ports : (e : Entry) (modules : List Module) (id : List ℕ) → Stands (Some e) (named modules id) → map line_of (all_now e.ports.items) ≡ ports_or_none (named modules id)
found_ports e modules id h = by (named modules id) h
  where
    by : (m : Option Module) → Stands (Some e) m → map line_of (all_now e.ports.items) ≡ ports_or_none m
    by None h = absurd h
    by (Some m) h = ap (map line_of) h.ports

-- the ports of a module that is not there
pub no_ports : (modules : List Module) (id : List ℕ) → Stands None (named modules id) → [] ≡ ports_or_none (named modules id)
no_ports modules id h = by (named modules id) h
  where
    by : (m : Option Module) → Stands None m → [] ≡ ports_or_none m
    by None h = refl
    by (Some m) h = absurd h

module _ (start : SigBit → Bit) (p : Path) (wires : List Wire) (c : Cell) (pins : List Pin) (kind : CellKind) (same : pins ≡ c.pins) where
  pub word_rows : (k : StorageKind) → kind ≡ Storage k → stored_rows start p wires c.pins (cell_shape kind c.params) (word_store p wires pins) ≡ kind_rows start p wires c kind
  word_rows k e =
      ap (λ pins. stored_rows start p wires c.pins (cell_shape kind c.params) (word_store p wires pins)) same
      ∙ subst (λ kd. stored_rows start p wires c.pins (cell_shape kd c.params) (word_store p wires c.pins) ≡ kind_rows start p wires c kd) (sym e) refl

  pub gate_rows : (k : gate.StorageGate) → kind ≡ StorageGate k → stored_rows start p wires c.pins (cell_shape kind c.params) (gate_store p wires pins) ≡ kind_rows start p wires c kind
  gate_rows k e =
      ap (λ pins. stored_rows start p wires c.pins (cell_shape kind c.params) (gate_store p wires pins)) same
      ∙ subst (λ kd. stored_rows start p wires c.pins (cell_shape kd c.params) (gate_store p wires c.pins) ≡ kind_rows start p wires c kd) (sym e) refl

pub kind_found : (c : Cell) (name : List ℕ) (kind : Option CellKind) → kind ≡ kind_of name → name ≡ c.kind_name → kind ≡ cell_kind c
unfolding cell_kind
kind_found c name kind e f = e ∙ ap kind_of f
