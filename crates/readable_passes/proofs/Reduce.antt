-- What a text can give, it can give with folds that read what other folds read.
use Rattle.std.proofs.Common.{◌≡◌, ℕ, ◌<◌, ◌≤◌, ◌==◌, Bool, true, false, List, [], ◌∷◌, ◌++◌, length, Option, Some, None, ⊎_elim, refl, sym, subst, arith}
use Rattle.std.specs.Prelude.{flat_map, if◌then◌else◌, map, nat_le}
use Rattle.std.specs.List.{All}
use Rattle.std.specs.Str.{bytes_eq}
use Rattle.std.proofs.lemmas.Bool.{leb-true}
use Rattle.std.proofs.lemmas.List.Elements.{All-cons, All-head, All-nil, All-tail}
use Rattle.std.proofs.lemmas.Slice.Eq.{bytes_eq-Decides}
use Rattle.cell_types.specs.ParamName.{param_text}
use Rattle.cell_types.specs.PinName.{pin_text}
use Rattle.cell_types.specs.declared.param_name.ParamName.TheVariants.{AWidth}
use Rattle.cell_types.specs.declared.pin_name.PinName.TheVariants.{A}
use Rattle.rtl_bits.specs.declared.bit.Bit.{Bit}
use Rattle.rtl_sig.specs.Names.{AreDistinct}
use Rattle.rtl_sig.specs.declared.sig.SigBit.{SigBit}
use Rattle.rtl_sig.specs.declared.sig.SigBit.TheVariants.{Fixed, Wire as OnWire}
use Rattle.rtl_ir.specs.Build.{integer_param}
use Rattle.rtl_ir.specs.Flat.Cell.{listed}
use Rattle.rtl_ir.specs.Follow.{follow}
use Rattle.rtl_ir.specs.Parameters.{signal_at}
use Rattle.rtl_ir.specs.Types.{Ports}
use Rattle.rtl_ir.specs.declared.cell.Cell.{Cell}
use Rattle.rtl_ir.specs.declared.cell.CellParam.{CellParam}
use Rattle.rtl_ir.specs.declared.module.Link.{Link}
use Rattle.rtl_ir.specs.declared.module.Module.{Module}
use Rattle.rtl_ir.specs.declared.wire.Wire.{Wire}
use Rattle.net_model.specs.Lists.{In}
use Rattle.follow_laws.specs.Inputs.{followed_cell}
use Rattle.opt_more.specs.Changed.{renumbered, with_inputs, with_signal, with_width}
use Rattle.opt_more.specs.Others.{other_of}
use Rattle.opt_more.specs.Reduce.{fold_of, folds_to, gathered, inputs_for, reduce_of, reduce_visit, reduced, reduced_fold, standing_for}
use Rattle.opt_more.proofs.Gathering.{gathered_from}
use Rattle.opt_more.proofs.OtherCells.{other_among}
use Rattle.rtl_readable.specs.Readable.{IsBitOf, IsCell, IsCellParam, IsReadableModule, IsSignal}
use Rattle.rtl_readable.proofs.Signals.{pin_signal}
use Rattle.readable_laws.proofs.Cells.{number_is}
use Rattle.readable_passes.proofs.Follow.{cell_follows}
use Rattle.readable_passes.proofs.Replaced.{MayReplace, all_each, each_all}
use Rattle.readable_passes.proofs.Visits.{MayVisit, leads_is, one_may, other_is, own_is, rewired_is, sweep_reads}

-- another width of A
module _ (width : ℕ) (few : width < 2147483648) where
  param_is : (p : CellParam) → IsCellParam p → IsCellParam (renumbered width p)
  param_is p h = by (bytes_eq p.name (param_text AWidth))
    where
      by : (t : Bool) → IsCellParam (if t then integer_param (param_text AWidth) width else p)
      by true = number_is (param_text AWidth) width refl few
      by false = h

  param_name : (p : CellParam) → (renumbered width p).name ≡ p.name
  param_name p = by (bytes_eq p.name (param_text AWidth)) refl
    where
      by : (t : Bool) → bytes_eq p.name (param_text AWidth) ≡ t → (if t then integer_param (param_text AWidth) width else p).name ≡ p.name
      by true e = sym ((bytes_eq-Decides p.name (param_text AWidth)).0 e)
      by false e = refl

  params_are : (ps : List CellParam) → All IsCellParam ps → All IsCellParam (map (renumbered width) ps)
  params_are [] are = All-nil IsCellParam
  params_are (p ∷ ps) are =
      All-cons IsCellParam (renumbered width p) (map (renumbered width) ps) (param_is p (All-head IsCellParam p ps are)) (params_are ps (All-tail IsCellParam p ps are))

  param_names : (ps : List CellParam) → map (λ (p : CellParam). p.name) (map (renumbered width) ps) ≡ map (λ (p : CellParam). p.name) ps
  param_names [] = refl
  param_names (p ∷ ps) = λ i. param_name p i ∷ param_names ps i

  -- a cell with that width, where it differs
  pub widened_is : (wires : List Wire) (old : ℕ) (c : Cell) → IsCell wires c → IsCell wires (record c { params = with_width old width c.params })
  widened_is wires old c h = by (old == width)
    where
      by : (t : Bool) → IsCell wires (record c { params = if t then c.params else map (renumbered width) c.params })
      by true = h
      by false = record {
        kind_name = h.kind_name;
        name = h.name;
        params = params_are c.params h.params;
        distinct_params = subst AreDistinct (sym (param_names c.params)) h.distinct_params;
        pins = h.pins;
        distinct_pins = h.distinct_pins;
        attributes = h.attributes;
      }

module _ (m : Module) (done : List (Option Cell)) (c : Cell) (rest : List Cell) (links : List Link) (reads : IsReadableModule (record m { cells = flat_map listed done ++ c ∷ rest; links = links })) (neutral : Bit) (cells : List Cell) where
  -- what stands for a bit
  stands_is : (b : SigBit) → IsBitOf m.wires b → (x : SigBit) → In x (standing_for neutral cells done rest links b) → IsBitOf m.wires x
  stands_is (Fixed v) h x i = ⊎_elim (λ e. subst (IsBitOf m.wires) (sym e) h) (λ z. absurd z) i
  stands_is (OnWire b) h x i = by (other_of cells done rest b) refl i
    where
      alone : In x (OnWire b ∷ []) → IsBitOf m.wires x
      alone j = ⊎_elim (λ e. subst (IsBitOf m.wires) (sym e) h) (λ z. absurd z) j

      by : (o : Option Cell) → other_of cells done rest b ≡ o → In x (inputs_for neutral links b o) → IsBitOf m.wires x
      by None e j = alone j
      by (Some d) e j = read (folds_to neutral b d) j
        where
          read : (t : Bool) → In x (if t then map (follow links) (signal_at d.pins (pin_text A)) else OnWire b ∷ []) → IsBitOf m.wires x
          read true k =
              let own : IsCell m.wires d = other_is m done c rest links reads d (other_among cells done rest b d e) in
              all_each (IsBitOf m.wires) (map (follow links) (signal_at d.pins (pin_text A))) (leads_is m done c rest links reads d own (pin_text A)).bits x k
          read false k = alone k

  module _ (d : Cell) (is : IsCell m.wires d) where
    abbrev inputs : List SigBit
    inputs = gathered neutral cells done rest links (signal_at d.pins (pin_text A))

    bit_is : (x : SigBit) → In x (gathered neutral cells done rest links (signal_at d.pins (pin_text A))) → IsBitOf m.wires x
    bit_is x i =
        ⊎_elim
        (λ l. stands_is l.0 (all_each (IsBitOf m.wires) (signal_at d.pins (pin_text A)) (pin_signal m.wires d.pins (pin_text A) is.pins).bits l.0 l.1) x l.2)
        (λ e. subst (IsBitOf m.wires) (sym e) tt)
        (gathered_from neutral (standing_for neutral cells done rest links) (signal_at d.pins (pin_text A)) x i)

    replaced_is : length (gathered neutral cells done rest links (signal_at d.pins (pin_text A))) ≤ 4096 → IsCell m.wires (with_inputs (gathered neutral cells done rest links (signal_at d.pins (pin_text A))) d)
    replaced_is few =
        let all : IsSignal m.wires inputs = record { bits = each_all (IsBitOf m.wires) inputs bit_is; width = omega (arith, few) } in
        widened_is (length inputs) (omega (arith, few)) m.wires (length (signal_at d.pins (pin_text A))) (record d { pins = with_signal A inputs d.pins }) (rewired_is m.wires A inputs all refl d is)

    pub reduced_is : IsCell m.wires (reduced_fold neutral cells done rest links d)
    reduced_is = by (nat_le (length inputs) 4096) refl
      where
        by : (t : Bool) → nat_le (length inputs) 4096 ≡ t → IsCell m.wires (if t then with_inputs inputs d else d)
        by true e = replaced_is (leb-true (length inputs) 4096 e)
        by false e = is

-- a visit
fold_may : (ports : Ports) (m : Module) (cells : List Cell) → MayVisit m (reduce_visit ports cells)
fold_may ports m cells done c rest links reads = by (fold_of c)
  where
    by : (o : Option Bit) → MayReplace (record m { cells = flat_map listed done ++ c ∷ rest; links = links }) c (reduced o ports cells done rest links c ∷ []) []
    by None = one_may _ c c refl (own_is m done c rest links reads)
    by (Some neutral) =
        one_may _ c (reduced_fold neutral cells done rest links (followed_cell ports links c)) (name_stays neutral)
        (reduced_is m done c rest links reads neutral cells (followed_cell ports links c)
        (cell_follows m.wires links reads.links ports c (own_is m done c rest links reads)))
      where
        name_stays : (neutral : Bit) → (reduced_fold neutral cells done rest links (followed_cell ports links c)).name ≡ c.name
        name_stays neutral =
            pick (nat_le (length (gathered neutral cells done rest links (signal_at (followed_cell ports links c).pins (pin_text A)))) 4096)
          where
            pick : (t : Bool) → (if t then with_inputs (gathered neutral cells done rest links (signal_at (followed_cell ports links c).pins (pin_text A))) (followed_cell ports links c) else followed_cell ports links c).name ≡ c.name
            pick true = refl
            pick false = refl

pub reduce_reads : (ports : Ports) (m : Module) → IsReadableModule m → IsReadableModule (reduce_of ports m)
reduce_reads ports m reads = sweep_reads m (reduce_visit ports m.cells) (fold_may ports m m.cells) reads
