-- The bits that cells drive, one after another.
use Rattle.std.proofs.Common.{◌≡◌, ℕ, zero, suc, ◌+◌, ◌<◌, ◌≤◌, List, [], ◌∷◌, ◌++◌, length, get_or, take, min, None, Result, Ok, Err, IfOk, refl, sym, ◌∙◌, ap, subst, arith, map, append_assoc}
use Rattle.std.specs.List.{AllByRecursion}
use Rattle.std.specs.Option.{ok_or}
use Rattle.std.specs.Result.{result_ok}
use Rattle.std.proofs.lemmas.List.{map-append, take_more, take_all, length-map, length-take-le}
use Rattle.rtl_bits.specs.declared.bit.Bit.{Bit}
use Rattle.rtl_bits.specs.declared.memory.Memory.{Memory}
use Rattle.rtl_sig.specs.declared.sig.SigBit.{SigBit}
use Rattle.cell_types.specs.declared.fault.CellFault.{CellFault}
use Rattle.cell_types.specs.declared.kind.CellKind.{CellKind}
use Rattle.cell_types.specs.declared.shape.Shape.{Shape}
use Rattle.rtl_ir.specs.declared.cell.Cell.{Cell}
use Rattle.rtl_ir.specs.Faults.Cells.{misfit}
use Rattle.rtl_ir.specs.Flat.Cell.{cell_shape, outputs, stores, worked_rows}
use Rattle.rtl_ir.specs.Flat.Driver.{Driven, StorePoints, Worked, Stored}
use Rattle.cell_types.specs.declared.pin_name.PinName.TheVariants.{A, B, S, Y}
use Rattle.rtl_ir.specs.declared.cell.Pin.{Pin}
use Rattle.rtl_ir.specs.declared.wire.Wire.{Wire}
use Rattle.rtl_ir.specs.Flat.Place.{Path, Place}
use Rattle.rtl_ir.specs.Flat.Point.{pin_points}
use Rattle.rtl_ir.specs.Flat.Point as rtl
use Rattle.std.specs.Global.{Box}
use Rattle.flat_net.specs.declared.net.Logic.{Logic}
use Rattle.flat_net.specs.declared.net.Output.{Output}
use Rattle.flat_net.specs.declared.net.Part.TheVariants as part
use Rattle.flat_net.specs.declared.net.Storage.{Storage}
use Rattle.flat_net.specs.declared.net.Point.{Point}
use Rattle.flat_net.specs.declared.net.StoreBit.{StoreBit}
use Rattle.flat_net.specs.declared.reads.Reads.{Reads}
use Rattle.flat_net.specs.Cells.{PutsOutputs, PutsStores, IsLogic, AreReads, reads_at}
use Rattle.flat_net.specs.Known.{Keeps}
use Rattle.flat_net.specs.Parts.{output_row, store_row, inputs_of, part_rows}
use Rattle.flat_net.specs.Points.{point_of, points_of, pins_of}
use Rattle.flat_net.specs.Reads.{ArePoints}
use Rattle.flat_net.specs.Within.{ArePointsWithin, IsStoreWithin, IsLogicWithin, IsPartWithin}
use Rattle.flat_net.proofs.Reading.{pins-kept, pins-within}
use Rattle.flat_net.proofs.Adding.{points_of-take, within-before, within-behind, within-take}

-- a cell without fault has its shape
pub shaped : (kind : CellKind) (c : Cell) (r : Result Shape CellFault) → IfOk r (λ shape. (misfit kind c ≡ None) × (shape ≡ cell_shape kind c.params)) → (s : Result Shape Memory) (m : Memory) → s ≡ ok_or (result_ok r) m
    → IfOk s (λ shape. shape ≡ cell_shape kind c.params)
shaped kind c (Ok shape) h s m e = rw e h.1
shaped kind c (Err fault) h s m e = rw e tt

-- outputs

outputs-append : (shape : Shape) (inputs : List (List rtl.Point)) (xs ys : List rtl.Point) (at : ℕ) → outputs shape inputs (xs ++ ys) at ≡ outputs shape inputs xs at ++ outputs shape inputs ys (at + length xs)
outputs-append shape inputs [] ys at = let e : at ≡ at + 0 = omega arith in ap (outputs shape inputs ys) e
outputs-append shape inputs (rtl.At q ∷ xs) ys at =
    let e : suc at + length xs ≡ at + length (rtl.At q ∷ xs) = omega arith in
    ap (λ rows. record { place = q; driver = Worked shape inputs at } ∷ rows) (outputs-append shape inputs xs ys (suc at) ∙ ap (λ k. outputs shape inputs xs (suc at) ++ outputs shape inputs ys k) e)
outputs-append shape inputs (rtl.Constant b ∷ xs) ys at =
    let e : suc at + length xs ≡ at + length (rtl.Constant b ∷ xs) = omega arith in
    outputs-append shape inputs xs ys (suc at) ∙ ap (λ k. outputs shape inputs xs (suc at) ++ outputs shape inputs ys k) e

pub PutsOutputs-none : PutsOutputs 0 [] [] []
PutsOutputs-none = record { rows = λ ps shape inputs. refl; within = λ count h k. k }

pub PutsOutputs-next : (old new next : List Output) (points : List Point) (i : ℕ) (d : Point) → i < length points → PutsOutputs 0 old new (take i points) → PutsOutputs i new next (get_or points i d ∷ [])
    → PutsOutputs 0 old next (take (i + 1) points)
PutsOutputs-next old new next points i d a h k =
    let more : take (i + 1) points ≡ take i points ++ get_or points i d ∷ [] = take_more points i d a in
    let so_far : (ps : List Place) → 0 + length (points_of ps (take i points)) ≡ i = (λ ps. let l : length (take i points) ≡ i = length-take-le i points (omega arith) in rw (length-map, l) (omega arith)) in
    rw more (record {
      rows = λ ps shape inputs.
          k.rows ps shape inputs
          ∙ ap (λ rows. rows ++ outputs shape inputs (points_of ps (get_or points i d ∷ [])) i) (h.rows ps shape inputs)
          ∙ append_assoc (map (output_row ps shape inputs) old) _ _
          ∙ ap (λ rows. map (output_row ps shape inputs) old ++ rows)
          (ap (λ n. outputs shape inputs (points_of ps (take i points)) 0 ++ outputs shape inputs (points_of ps (get_or points i d ∷ [])) n) (sym (so_far ps))
          ∙ sym (outputs-append shape inputs (points_of ps (take i points)) (points_of ps (get_or points i d ∷ [])) 0)
          ∙ ap (λ qs. outputs shape inputs qs 0) (sym (map-append (point_of ps) (take i points) (get_or points i d ∷ []))));
      within = λ count w before. k.within count (within-behind count (take i points) _ w) (h.within count (within-before count (take i points) _ w) before);
    })

pub PutsOutputs-all : (old new : List Output) (points : List Point) (n : ℕ) → length points ≤ n → PutsOutputs 0 old new (take n points) → PutsOutputs 0 old new points
PutsOutputs-all old new points n end h = subst (PutsOutputs 0 old new) (take_all n points end) h

-- stores

stores-append : (start : SigBit → Bit) (shape : Shape) (pins : ℕ → StorePoints) (xs more : List SigBit) (ys others : List rtl.Point) (at : ℕ) → length xs ≡ length ys
    → stores start shape pins (xs ++ more) (ys ++ others) at ≡ stores start shape pins xs ys at ++ stores start shape pins more others (at + length xs)
stores-append start shape pins [] more [] others at h = let e : at ≡ at + 0 = omega arith in ap (stores start shape pins more others) e
stores-append start shape pins [] more (y ∷ ys) others at h = absurd (omega arith)
stores-append start shape pins (x ∷ xs) more [] others at h = absurd (omega arith)
stores-append start shape pins (x ∷ xs) more (rtl.At q ∷ ys) others at h =
    let e : suc at + length xs ≡ at + length (x ∷ xs) = omega arith in
    ap (λ rows. record { place = q; driver = Stored (start x) shape at (pins at) q } ∷ rows)
    (stores-append start shape pins xs more ys others (suc at) (omega arith) ∙ ap (λ k. stores start shape pins xs ys (suc at) ++ stores start shape pins more others k) e)
stores-append start shape pins (x ∷ xs) more (rtl.Constant b ∷ ys) others at h =
    let e : suc at + length xs ≡ at + length (x ∷ xs) = omega arith in
    stores-append start shape pins xs more ys others (suc at) (omega arith) ∙ ap (λ k. stores start shape pins xs ys (suc at) ++ stores start shape pins more others k) e

stores-take : (start : SigBit → Bit) (shape : Shape) (pins : ℕ → StorePoints) (n : ℕ) (xs : List SigBit) (ys : List rtl.Point) (at : ℕ) → min (length xs) (length ys) ≤ n
    → stores start shape pins (take n xs) (take n ys) at ≡ stores start shape pins xs ys at
stores-take start shape pins zero [] ys at h = refl
stores-take start shape pins zero (x ∷ xs) [] at h = refl
stores-take start shape pins zero (x ∷ xs) (y ∷ ys) at h = absurd (omega arith)
stores-take start shape pins (suc n) [] ys at h = refl
stores-take start shape pins (suc n) (x ∷ xs) [] at h = refl
stores-take start shape pins (suc n) (x ∷ xs) (rtl.At q ∷ ys) at h = ap (λ rows. record { place = q; driver = Stored (start x) shape at (pins at) q } ∷ rows) (stores-take start shape pins n xs ys (suc at) (omega arith))
stores-take start shape pins (suc n) (x ∷ xs) (rtl.Constant b ∷ ys) at h = stores-take start shape pins n xs ys (suc at) (omega arith)

pub PutsStores-none : (start : SigBit → Bit) (reads : Reads) → PutsStores start reads 0 [] [] [] []
PutsStores-none start reads = record { rows = λ ps shape. refl; within = λ count r h k. k }

pub PutsStores-next : (start : SigBit → Bit) (reads : Reads) (old new next : List StoreBit) (signal : List SigBit) (points : List Point) (i : ℕ) (s : SigBit) (d : Point) → i < length signal → i < length points
    → PutsStores start reads 0 old new (take i signal) (take i points) → PutsStores start reads i new next (get_or signal i s ∷ []) (get_or points i d ∷ [])
    → PutsStores start reads 0 old next (take (i + 1) signal) (take (i + 1) points)
PutsStores-next start reads old new next signal points i s d a b h k =
    let bits : take (i + 1) signal ≡ take i signal ++ get_or signal i s ∷ [] = take_more signal i s a in
    let more : take (i + 1) points ≡ take i points ++ get_or points i d ∷ [] = take_more points i d b in
    let so_far : length (take i signal) ≡ i = length-take-le i signal (omega arith) in
    let even : (ps : List Place) → length (take i signal) ≡ length (points_of ps (take i points)) = (λ ps. let l : length (take i points) ≡ i = length-take-le i points (omega arith) in rw (length-map, l) so_far) in
    let behind : 0 + length (take i signal) ≡ i = omega arith in
    rw (bits, more) (record {
      rows = λ ps shape.
          let pins = λ (at : ℕ). pins_of ps (reads_at reads at) in
          k.rows ps shape
          ∙ ap (λ rows. rows ++ stores start shape pins (get_or signal i s ∷ []) (points_of ps (get_or points i d ∷ [])) i) (h.rows ps shape)
          ∙ append_assoc (map (store_row ps shape) old) _ _
          ∙ ap (λ rows. map (store_row ps shape) old ++ rows)
          (ap (λ n. stores start shape pins (take i signal) (points_of ps (take i points)) 0 ++ stores start shape pins (get_or signal i s ∷ []) (points_of ps (get_or points i d ∷ [])) n) (sym behind)
          ∙ sym (stores-append start shape pins (take i signal) (get_or signal i s ∷ []) (points_of ps (take i points)) (points_of ps (get_or points i d ∷ [])) 0 (even ps))
          ∙ ap (λ qs. stores start shape pins (take i signal ++ get_or signal i s ∷ []) qs 0) (sym (map-append (point_of ps) (take i points) (get_or points i d ∷ []))));
      within = λ count r w before. k.within count r (within-behind count (take i points) _ w) (h.within count r (within-before count (take i points) _ w) before);
    })

pub PutsStores-all : (start : SigBit → Bit) (reads : Reads) (old new : List StoreBit) (signal : List SigBit) (points : List Point) (n : ℕ) → min (length signal) (length points) ≤ n
    → PutsStores start reads 0 old new (take n signal) (take n points) → PutsStores start reads 0 old new signal points
PutsStores-all start reads old new signal points n end h = record {
  rows = λ ps shape.
      let pins = λ (at : ℕ). pins_of ps (reads_at reads at) in
      let short : min (length signal) (length (points_of ps points)) ≤ n = rw length-map end in
      h.rows ps shape ∙ ap (λ rows. map (store_row ps shape) old ++ rows)
      (ap (λ qs. stores start shape pins (take n signal) qs 0) (points_of-take ps n points) ∙ stores-take start shape pins n signal (points_of ps points) 0 short);
  within = λ count r w before. h.within count r (within-take count n points w) before;
}

-- a combinational cell of what is read at its pins
pub logic_is : (p : Path) (wires : List Wire) (pins pins' : List Pin) (ps : List Place) (c : Logic) (shape : Shape) (a b s y ys : List Point) → pins ≡ pins' → c.shape ≡ shape
    → c.a ≡ a → ArePoints ps a (pin_points p wires pins A) → c.b ≡ b → ArePoints ps b (pin_points p wires pins B) → c.s ≡ s → ArePoints ps s (pin_points p wires pins S)
    → ys ≡ y → ArePoints ps y (pin_points p wires pins Y) → PutsOutputs 0 [] c.outputs ys → IsLogic ps c (worked_rows p wires pins' shape)
logic_is p wires pins pins' ps c shape a b s y ys same e ea ha eb hb es hs ey hy put = record {
  are =
      put.rows ps c.shape (inputs_of ps c)
      ∙ (λ i. outputs (e i) ((ap (points_of ps) ea ∙ ha.are) i ∷ (ap (points_of ps) eb ∙ hb.are) i ∷ (ap (points_of ps) es ∙ hs.are) i ∷ []) ((ap (points_of ps) ey ∙ hy.are) i) 0)
      ∙ ap (λ pins. worked_rows p wires pins shape) same;
  within = record {
    a = subst (ArePointsWithin (length ps)) (sym ea) ha.within;
    b = subst (ArePointsWithin (length ps)) (sym eb) hb.within;
    s = subst (ArePointsWithin (length ps)) (sym es) hs.within;
    outputs = put.within (length ps) (subst (ArePointsWithin (length ps)) (sym ey) hy.within) tt;
  };
}

pub logic_part : (ps : List Place) (box : Box Logic) (c : Logic) (rows : List Driven) → box.value ≡ c → IsLogic ps c rows → (part_rows ps (part.Logic box) ≡ rows) × IsPartWithin (length ps) (part.Logic box)
logic_part ps box c rows e h = (ap (λ (c : Logic). map (output_row ps c.shape (inputs_of ps c)) c.outputs) e ∙ h.are, subst (IsLogicWithin (length ps)) (sym e) h.within)

pub storage_part : (ps : List Place) (box : Box Storage) (c : Storage) (shape : Shape) (start : SigBit → Bit) (reads : Reads) (they : ℕ → StorePoints) (signal bits : List SigBit) (points read : List Point) (qs : List rtl.Point)
    → box.value ≡ c → c.shape ≡ shape → AreReads ps reads they → PutsStores start reads 0 [] c.bits signal points → signal ≡ bits → points ≡ read → ArePoints ps read qs
    → (part_rows ps (part.Storage box) ≡ stores start shape they bits qs 0) × IsPartWithin (length ps) (part.Storage box)
storage_part ps box c shape start reads they signal bits points read qs e f r put same same' h =
    let within = put.within (length ps) r.within (subst (ArePointsWithin (length ps)) (sym same') h.within) tt in (
      ap (λ (c : Storage). map (store_row ps c.shape) c.bits) e
          ∙ put.rows ps c.shape
          ∙ (λ i. stores start (f i) (λ at. r.are at i) (same i) ((ap (points_of ps) same' ∙ h.are) i) 0),
      subst (λ (c : Storage). AllByRecursion (IsStoreWithin (length ps)) c.bits) (sym e) within,
    )

pub AreReads-kept : (ps qs : List Place) (reads : Reads) (they : ℕ → StorePoints) → Keeps ps qs → AreReads ps reads they → AreReads qs reads they
AreReads-kept ps qs reads they keeps h = record {
  are = λ at. pins-kept ps qs keeps (reads_at reads at) (h.within at) ∙ h.are at;
  within = λ at. pins-within ps qs keeps (reads_at reads at) (h.within at);
}
