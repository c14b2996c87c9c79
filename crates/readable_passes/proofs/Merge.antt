-- What a text can give, it can give with cells merged.
use Rattle.std.proofs.Common.{ℕ, ◌+◌, ◌≤◌, Bool, true, false, cond, List, [], ◌∷◌, length, Option, Some, None, ◌∙◌, ap, arith, length-append}
use Rattle.std.specs.Prelude.{find}
use Rattle.std.specs.List.{All}
use Rattle.std.specs.Option.{option_map_or}
use Rattle.std.proofs.lemmas.List.Elements.{All-append, All-cons, All-head, All-nil, All-tail}
use Rattle.cell_types.specs.declared.kind.CellKind.{CellKind}
use Rattle.cell_types.specs.declared.pin_name.PinName.{PinName}
use Rattle.cell_types.specs.PinName.{pin_text}
use Rattle.rtl_bits.specs.declared.bit.Bit.{Bit}
use Rattle.rtl_sig.specs.declared.sig.SigBit.{SigBit}
use Rattle.rtl_ir.specs.Flat.Start.{start_of}
use Rattle.rtl_ir.specs.Outputs.{output_pin}
use Rattle.rtl_ir.specs.Parameters.{signal_at}
use Rattle.rtl_ir.specs.declared.cell.Cell.{Cell}
use Rattle.rtl_ir.specs.declared.module.Module.{Module}
use Rattle.rtl_ir.specs.declared.wire.Wire.{Wire}
use Rattle.net_model.proofs.Members.{map-append}
use Rattle.rtl_readable.specs.Changing.{cell_names, times}
use Rattle.rtl_readable.specs.Readable.{IsCell, IsLink, IsReadableModule, IsSignal}
use Rattle.rtl_readable.proofs.Changing.{recelled_reads}
use Rattle.rtl_readable.proofs.Counting.{times_more}
use Rattle.rtl_readable.proofs.Signals.{no_signal, pin_signal}
use Rattle.opt_merge.specs.Merge.{Merging, after_cells, after_kind, has_traits, join, merge_of, merging_of, stay}
use Rattle.opt_merge.specs.Traits.{merging_kind, output_of, traits_of}

module _ (wires : List Wire) where
  output_signal : (kind : CellKind) (c : Cell) → IsCell wires c → IsSignal wires (output_of kind c)
  output_signal kind c is = by (output_pin kind)
    where
      by : (o : Option PinName) → IsSignal wires (option_map_or (λ pin. signal_at c.pins (pin_text pin)) o [])
      by None = no_signal wires
      by (Some pin) = pin_signal wires c.pins (pin_text pin) is.pins

  -- a cell that may be there
  abbrev OptionIs : Option Cell → Type 0
  OptionIs None = Unit {0}
  OptionIs (Some c) = IsCell wires c

  found : (test : Cell → Bool) (cells : List Cell) → All (IsCell wires) cells → OptionIs (find test cells)
  found test [] all = tt
  found test (c ∷ cells) all = by (test c) (found test cells (All-tail (IsCell wires) c cells all))
    where
      by : (t : Bool) → OptionIs (find test cells) → OptionIs (cond t (Some c) (find test cells))
      by true later = All-head (IsCell wires) c cells all
      by false later = later

  -- what a visit leaves of the cells and connections, behind these cells of which so many are left
  record Leaves (s : Merging) (rest : List Cell) (new : Merging) : Type 0 where
    cells : All (IsCell wires) new.cells
    links : All (IsLink wires) new.links
    names : (name : List ℕ) → times name (cell_names new.cells) ≤ times name (cell_names s.cells) + times name (cell_names rest)
    count : length new.cells ≤ length s.cells + length rest

  -- a cell stays
  stays : (s : Merging) (c : Cell) → All (IsCell wires) s.cells → All (IsLink wires) s.links → IsCell wires c → Leaves s (c ∷ []) (stay s c)
  stays s c cells links is = record {
    cells = All-append (IsCell wires) s.cells (c ∷ []) cells (All-cons (IsCell wires) c [] is (All-nil (IsCell wires)));
    links = links;
    names = λ name. omega (arith, ap (times name) (map-append (λ (d : Cell). d.name) s.cells (c ∷ [])) ∙ times_more name (cell_names s.cells) (cell_names (c ∷ [])));
    count = omega (arith, length-append s.cells (c ∷ []));
  }

  module _ (begins : SigBit → Bit) where
    visited : (s : Merging) (c : Cell) (o : Option CellKind) → All (IsCell wires) s.cells → All (IsLink wires) s.links → IsCell wires c → Leaves s (c ∷ []) (after_kind begins s c o)
    visited s c None cells links is = stays s c cells links is
    visited s c (Some kind) cells links is =
        by (find (has_traits begins s.links (traits_of begins s.links kind c)) s.cells) (found (has_traits begins s.links (traits_of begins s.links kind c)) s.cells cells)
      where
        by : (o : Option Cell) → OptionIs o → Leaves s (c ∷ []) (option_map_or (λ e. join kind s e c) o (stay s c))
        by None h = stays s c cells links is
        by (Some e) h = record {
          cells = cells;
          links = All-append (IsLink wires) s.links _ links (All-cons (IsLink wires) _ [] (record { left = output_signal kind c is; right = output_signal kind e h }) (All-nil (IsLink wires)));
          names = λ name. omega arith;
          count = omega arith;
        }

    all_visited : (rest : List Cell) (s : Merging) → All (IsCell wires) s.cells → All (IsLink wires) s.links → All (IsCell wires) rest → Leaves s rest (after_cells begins s rest)
    all_visited [] s cells links all = record { cells = cells; links = links; names = λ name. omega arith; count = omega arith }
    all_visited (c ∷ rest) s cells links all =
        let one = visited s c (merging_kind c) cells links (All-head (IsCell wires) c rest all) in
        let later = all_visited rest (after_kind begins s c (merging_kind c)) one.cells one.links (All-tail (IsCell wires) c rest all) in
        record {
          cells = later.cells;
          links = later.links;
          names = λ name. omega (arith, one.names name, later.names name);
          count = omega (arith, one.count, later.count);
        }

pub merge_reads : (m : Module) → IsReadableModule m → IsReadableModule (merge_of m)
merge_reads m is =
    recelled_reads m (merging_of m).cells (merging_of m).links is (record { cells = swept.cells; names = λ name. omega (arith, swept.names name); count = omega (arith, swept.count); links = swept.links })
  where
    swept : Leaves m.wires (record { cells = []; links = m.links }) m.cells (merging_of m)
    swept = all_visited m.wires (start_of m.wires m.processes) m.cells (record { cells = []; links = m.links }) (All-nil (IsCell m.wires)) is.links is.cells
