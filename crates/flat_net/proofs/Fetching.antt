-- The read ports of memories: their columns, and the rows that they are.
use Rattle.std.proofs.Common.{◌≡◌, ℕ, zero, suc, ◌+◌, ◌<◌, ◌≤◌, List, [], ◌∷◌, ◌++◌, length, get_or, take, map, Some, slice_get, refl, sym, ◌∙◌, ap, subst, arith}
use Rattle.std.specs.Global.{Box}
use Rattle.std.specs.Prelude.{flat_map, nat_abs, ◌&&◌, if◌then◌else◌, Bool, true, false}
use Rattle.std.specs.List.{AllByRecursion, range_with_len}
use Rattle.std.proofs.lemmas.List.{map-append, take_more}
use Rattle.std.proofs.lemmas.List.FromFn.{map-range_with_len_more}
use Rattle.std.proofs.lemmas.Option.{slice_get_within, get_or_from_slice_get}
use Rattle.rtl_sig.specs.declared.sig.SigBit.{SigBit}
use Rattle.cell_types.specs.declared.shape.Shape.{Shape}
use Rattle.cell_types.specs.declared.storage.StorageKind.TheVariants.{Dff}
use Rattle.cell_types.specs.Levels.{low}
use Rattle.rtl_ir.specs.declared.cell.Cell.{Cell}
use Rattle.rtl_ir.specs.declared.plan.ReadPort.{ReadPort as PlanRead}
use Rattle.rtl_ir.specs.declared.store.Store.{Store}
use Rattle.rtl_ir.specs.declared.wire.Wire.{Wire}
use Rattle.rtl_ir.specs.Flat.Cell.{cell_kind, outputs}
use Rattle.rtl_ir.specs.Flat.Driver.{Driver, Driven, Worked, Fetched as FetchedBy}
use Rattle.rtl_ir.specs.Flat.Memory as mem
use Rattle.rtl_ir.specs.Flat.Memory.{addresses_of, fetched_rows, is_read_kind, reading_cells, words_at}
use Rattle.rtl_ir.specs.Flat.Place.{Path, Place, word_place}
use Rattle.rtl_ir.specs.Flat.Point as rtl
use Rattle.rtl_ir.specs.Flat.Point.{points}
use Rattle.rtl_ir.specs.Flat.Process.{rule_shape}
use Rattle.rtl_ir.specs.WritePorts.{is_of_memory}
use Rattle.net_model.specs.Mem.Gather.{read_port, read_ports}
use Rattle.flat_net.specs.declared.memory.Fetched.{Fetched}
use Rattle.flat_net.specs.declared.memory.ReadPort.{ReadPort}
use Rattle.flat_net.specs.declared.net.Output.{Output}
use Rattle.flat_net.specs.declared.net.Part.TheVariants as part
use Rattle.flat_net.specs.declared.net.Point.{Point}
use Rattle.flat_net.specs.Cells.{PutsOutputs}
use Rattle.flat_net.specs.Known.{Keeps}
use Rattle.flat_net.specs.Memories.{AreColumns, AreFetched, AreReadPorts, IsReadPort, column_places, read_rows}
use Rattle.flat_net.specs.Parts.{output_row, part_rows}
use Rattle.flat_net.specs.Points.{place_at, points_of}
use Rattle.flat_net.specs.Reads.{AreNumbers, ArePoints}
use Rattle.flat_net.specs.Within.{IsFetchedWithin, IsPartWithin, IsReadPortWithin}
use Rattle.flat_net.specs.Words.{column_of, fetched_row, port_rows}
use Rattle.net_model.proofs.Members.{map-map}
use Rattle.flat_net.proofs.Reading.{AreColumns-kept, AreNumbers-kept, AreReadPorts-kept, all_end}

-- numbers, one more at the end

pub AreNumbers-end : (ps qs : List Place) (ns next : List ℕ) (they : List Place) (n : ℕ) (q : Place) → Keeps ps qs → AreNumbers ps ns they → slice_get qs n ≡ Some q → next ≡ ns ++ n ∷ [] → AreNumbers qs next (they ++ q ∷ [])
AreNumbers-end ps qs ns next they n q keeps h place put =
    let old = AreNumbers-kept ps qs keeps ns they h in
    let there : place_at qs n ≡ q = get_or_from_slice_get qs n q _ place in
    rw put (record {
      are = map-append (place_at qs) ns (n ∷ []) ∙ (λ i. old.are i ++ there i ∷ []);
      within = all_end (λ n. n < length qs) ns n old.within (slice_get_within qs n q place);
    })

pub mapped-more : {A : Type 0} (f : ℕ → A) (first n : ℕ) → map f (range_with_len first (n + 1)) ≡ map f (range_with_len first n) ++ f (first + n) ∷ []
mapped-more f first n = map-range_with_len_more f first n (first + n) refl

-- columns, one more at the end

pub AreColumns-none : (ps : List Place) (p : Path) (s : Store) → AreColumns ps p s [] 0
AreColumns-none ps p s = record { are = refl; within = tt }

pub AreColumns-end : (ps qs : List Place) (p : Path) (s : Store) (columns next : List (List ℕ)) (width : ℕ) (column : List ℕ) (at : ℕ) → Keeps ps qs → AreColumns ps p s columns width → AreNumbers qs column (column_places p s at) → at ≡ width
    → next ≡ columns ++ column ∷ [] → AreColumns qs p s next (width + 1)
AreColumns-end ps qs p s columns next width column at keeps h k e put =
    let old = AreColumns-kept ps qs keeps p s columns width h in
    let here : 0 + width ≡ width = omega arith in
    rw put (record {
      are = map-append (map (place_at qs)) columns (column ∷ [])
          ∙ (λ i. old.are i ++ (k.are ∙ ap (column_places p s) (e ∙ sym here)) i ∷ [])
          ∙ sym (mapped-more (column_places p s) 0 width);
      within = all_end (AllByRecursion (λ n. n < length qs)) columns column old.within k.within;
    })

-- read ports, one more at the end

pub AreReadPorts-end : (ps : List Place) (p : Path) (wires : List Wire) (ports : List ReadPort) (they : List PlanRead) (r : ReadPort) (it : PlanRead) → AreReadPorts ps p wires ports they → IsReadPort ps p wires r it → AreReadPorts ps p wires (ports ++ r ∷ []) (they ++ it ∷ [])
AreReadPorts-end ps p wires [] [] r it h k = (k, tt)
AreReadPorts-end ps p wires [] (x ∷ they) r it h k = absurd h
AreReadPorts-end ps p wires (x ∷ ports) [] r it h k = absurd h
AreReadPorts-end ps p wires (x ∷ ports) (y ∷ they) r it h k = (h.0, AreReadPorts-end ps p wires ports they r it h.1 k)

pub AreReadPorts-next : (ps qs : List Place) (p : Path) (wires : List Wire) (ports next : List ReadPort) (reads : List PlanRead) (i : ℕ) (r : ReadPort) (it : PlanRead) → Keeps ps qs → i < length reads → it ≡ get_or reads i it
    → AreReadPorts ps p wires ports (take i reads) → IsReadPort qs p wires r it → next ≡ ports ++ r ∷ [] → AreReadPorts qs p wires next (take (i + 1) reads)
AreReadPorts-next ps qs p wires ports next reads i r it keeps h is made one put =
    let all : take (i + 1) reads ≡ take i reads ++ it ∷ [] = take_more reads i it h ∙ ap (λ x. take i reads ++ x ∷ []) (sym is) in
    rw (put, all) (AreReadPorts-end qs p wires ports (take i reads) r it (AreReadPorts-kept ps qs keeps p wires ports (take i reads) made) one)

-- a port of what is read
pub read_port_made : (ps : List Place) (p : Path) (wires : List Wire) (r : ReadPort) (it : PlanRead) (a ys : List Point) → r.address ≡ a → ArePoints ps a (points p wires it.address) → ArePoints ps ys (points p wires it.«data») → PutsOutputs 0 [] r.outputs ys
    → IsReadPort ps p wires r it
read_port_made ps p wires r it a ys at address read put = record {
  address = subst (λ xs. ArePoints ps xs (points p wires it.address)) (sym at) address;
  outputs = λ shape inputs. put.rows ps shape inputs ∙ ap (λ qs. outputs shape inputs qs 0) read.are;
  within = put.within (length ps) read.within tt;
}

-- the column at a place

column_at : (ps : List Place) (p : Path) (s : Store) (columns : List (List ℕ)) (first width : ℕ) → map (map (place_at ps)) columns ≡ map (column_places p s) (range_with_len first width) → (at : ℕ) → at < width
    → column_of ps columns at ≡ words_at p s (first + at)
column_at ps p s [] first zero e at h = absurd (omega arith)
column_at ps p s [] first (suc width) e at h = absurd (cc)
column_at ps p s (c ∷ columns) first zero e at h = absurd (omega arith)
column_at ps p s (c ∷ columns) first (suc width) e zero h =
    let here : map (place_at ps) c ≡ column_places p s first = cc in
    let at : first ≡ first + 0 = omega arith in
    sym (map-map (place_at ps) rtl.At c) ∙ ap (map rtl.At) here ∙ map-map (λ address. word_place p s.name address first) rtl.At (addresses_of s) ∙ ap (words_at p s) at
column_at ps p s (c ∷ columns) first (suc width) e (suc at) h =
    let rest : map (map (place_at ps)) columns ≡ map (column_places p s) (range_with_len (first + 1) width) = cc in
    let there : (first + 1) + at ≡ first + suc at = omega arith in
    let less : at < width = omega arith in
    column_at ps p s columns (first + 1) width rest at less ∙ ap (words_at p s) there

-- what the output of a cell is, read from columns instead
by_column : List rtl.Point → ℕ → (ℕ → List rtl.Point) → Driver → Driver
by_column address first columns (Worked shape inputs at) = FetchedBy address first (columns at)
by_column address first columns driver = driver

turned : List rtl.Point → ℕ → (ℕ → List rtl.Point) → Driven → Driven
turned address first columns r = record { place = r.place; driver = by_column address first columns r.driver }

turned_outputs : (address : List rtl.Point) (first : ℕ) (columns : ℕ → List rtl.Point) (p : Path) (s : Store) (shape : Shape) (inputs : List (List rtl.Point)) → first ≡ nat_abs s.offset → (ds : List rtl.Point) (at width : ℕ) → at + length ds ≤ width
    → ((k : ℕ) → k < width → columns k ≡ words_at p s k) → map (turned address first columns) (outputs shape inputs ds at) ≡ fetched_rows p s address ds at
unfolding by_column turned
turned_outputs address first columns p s shape inputs e [] at width h same = refl
turned_outputs address first columns p s shape inputs e (rtl.At q ∷ ds) at width h same =
    let here = same at (omega arith) in
    let rest = turned_outputs address first columns p s shape inputs e ds (suc at) width (omega arith) same in
    (λ i. record { place = q; driver = FetchedBy address (e i) (here i) } ∷ rest i)
turned_outputs address first columns p s shape inputs e (rtl.Constant b ∷ ds) at width h same =
    turned_outputs address first columns p s shape inputs e ds (suc at) width (omega arith) same

length-points : (p : Path) (wires : List Wire) (signal : List SigBit) → length (points p wires signal) ≡ length signal
length-points p wires [] = refl
length-points p wires (s ∷ signal) = ap suc (length-points p wires signal)

-- the rows of read ports
module _ (ps : List Place) (p : Path) (wires : List Wire) (s : Store) (f : Fetched) (width : ℕ) (first : f.first ≡ nat_abs s.offset) (h : AreColumns ps p s f.columns width) where
  row_turned : (r : ReadPort) (shape : Shape) (inputs : List (List rtl.Point)) (os : List Output) → map (fetched_row ps f r) os ≡ map (turned (points_of ps r.address) f.first (column_of ps f.columns)) (map (output_row ps shape inputs) os)
  unfolding by_column turned
  row_turned r shape inputs [] = refl
  row_turned r shape inputs (o ∷ os) = ap (λ rows. fetched_row ps f r o ∷ rows) (row_turned r shape inputs os)

  column_is : (k : ℕ) → k < width → column_of ps f.columns k ≡ words_at p s k
  column_is k lt =
      let at : 0 + k ≡ k = omega arith in
      column_at ps p s f.columns 0 width h.are k lt ∙ ap (words_at p s) at

  port_same : (r : ReadPort) (it : PlanRead) → length it.«data» ≤ width → IsReadPort ps p wires r it → port_rows ps f r ≡ fetched_rows p s (points p wires it.address) (points p wires it.«data») 0
  port_same r it wide k =
      let shape = rule_shape Dff low in
      let long = length-points p wires it.«data» in
      row_turned r shape [] r.outputs
      ∙ ap (map (turned (points_of ps r.address) f.first (column_of ps f.columns))) (k.outputs shape [])
      ∙ turned_outputs (points_of ps r.address) f.first (column_of ps f.columns) p s shape [] first (points p wires it.«data») 0 width (omega arith) column_is
      ∙ ap (λ address. fetched_rows p s address (points p wires it.«data») 0) k.address.are

  ports_same : (ports : List ReadPort) (reads : List PlanRead) → AllByRecursion (λ (r : PlanRead). length r.«data» ≤ width) reads → AreReadPorts ps p wires ports reads → flat_map (port_rows ps f) ports ≡ read_rows p wires s reads
  ports_same [] [] wide k = refl
  ports_same [] (it ∷ reads) wide k = absurd k
  ports_same (r ∷ ports) [] wide k = absurd k
  ports_same (r ∷ ports) (it ∷ reads) wide k =
      let here = port_same r it wide.0 k.0 in
      let rest = ports_same ports reads wide.1 k.1 in
      (λ i. here i ++ rest i)

  ports_within : (ports : List ReadPort) (reads : List PlanRead) → AreReadPorts ps p wires ports reads → AllByRecursion (IsReadPortWithin (length ps)) ports
  ports_within [] reads k = tt
  ports_within (r ∷ ports) [] k = absurd k
  ports_within (r ∷ ports) (it ∷ reads) k = (record { address = k.0.address.within; outputs = k.0.within }, ports_within ports reads k.1)

  pub fetched_is : (reads : List PlanRead) → AllByRecursion (λ (r : PlanRead). length r.«data» ≤ width) reads → AreReadPorts ps p wires f.ports reads → AreFetched ps f (read_rows p wires s reads)
  fetched_is reads wide k = record { are = ports_same f.ports reads wide k; within = record { columns = h.within; ports = ports_within f.ports reads k } }

-- the read ports of the plan are the reading cells
pub reads_same : (p : Path) (wires : List Wire) (s : Store) (at : ℕ) (cells : List Cell) → read_rows p wires s (read_ports s.name at cells) ≡ flat_map (mem.read_rows p wires s) (reading_cells s.name cells)
reads_same p wires s at [] = refl
reads_same p wires s at (c ∷ cells) = by (is_read_kind (cell_kind c) && is_of_memory s.name c) (reads_same p wires s (at + 1) cells)
  where
    by : (t : Bool) → read_rows p wires s (read_ports s.name (at + 1) cells) ≡ flat_map (mem.read_rows p wires s) (reading_cells s.name cells)
        → read_rows p wires s (if t then read_port at c ∷ read_ports s.name (at + 1) cells else read_ports s.name (at + 1) cells) ≡ flat_map (mem.read_rows p wires s) (if t then c ∷ reading_cells s.name cells else reading_cells s.name cells)
    by true e = ap (λ rows. mem.read_rows p wires s c ++ rows) e
    by false e = e

pub fetched_part : (ps : List Place) (box : Box Fetched) (f : Fetched) (rows : List Driven) → box.value ≡ f → AreFetched ps f rows → (part_rows ps (part.Fetched box) ≡ rows) × IsPartWithin (length ps) (part.Fetched box)
fetched_part ps box f rows e h = (ap (λ (f : Fetched). flat_map (port_rows ps f) f.ports) e ∙ h.are, subst (IsFetchedWithin (length ps)) (sym e) h.within)
