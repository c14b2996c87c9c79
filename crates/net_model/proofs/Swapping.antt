-- Lemmas that passes cite: cells replaced one by one, rows that stay, pass after pass.
use Rattle.std.proofs.Common.{◌≡◌, List, [], ◌∷◌, ◌++◌, inl, inr, ⊎_elim, refl, sym, ◌∙◌, ap, subst, append_assoc}
use Rattle.std.specs.Prelude.{flat_map}
use Rattle.rtl_bits.specs.declared.bit.Bit.{Bit}
use Rattle.rtl_sig.specs.declared.sig.SigBit.{SigBit}
use Rattle.rtl_ir.specs.declared.cell.Cell.{Cell}
use Rattle.rtl_ir.specs.declared.module.Module.{Module}
use Rattle.rtl_ir.specs.declared.process.Process.{Process}
use Rattle.rtl_ir.specs.declared.store.Store.{Store}
use Rattle.rtl_ir.specs.declared.wire.Wire.{Wire}
use Rattle.rtl_ir.specs.Flat.Cell.{Ports, cell_kind, instance_of, listed, instances, cell_rows, cells_rows}
use Rattle.rtl_ir.specs.Flat.Driver.{Driven}
use Rattle.rtl_ir.specs.Flat.Place.{Path, Place}
use Rattle.rtl_ir.specs.Flat.Rows.{plain_rows, rows_of}
use Rattle.rtl_ir.specs.Flat.Start.{start_of}
use Rattle.net_model.specs.Lists.{In}
use Rattle.net_model.specs.Run.{Time, Start, Step}
use Rattle.net_model.specs.Valuation.{Valuation}
use Rattle.net_model.specs.Refine.{IsMet, Solved, SolvedBefore, RefinesOver}
use Rattle.net_model.specs.Swap.{with_cells, StandsFor}
use Rattle.net_model.proofs.Members.{In-left, In-right, In-cases}
use Rattle.net_model.proofs.Relating.{Within, solved_within}
use Rattle.net_model.proofs.Lifted.{lifted}

-- parts of rows that are solved
pub before_within : (ds es : List Driven) → Within ds es → (t : Time Place) → SolvedBefore es t → SolvedBefore ds t
before_within ds es h Start s = tt
before_within ds es h (Step v x f) s = (s.0, solved_within ds es h s.0 v s.1)

-- a row that stays is met by the target's own row
pub row_stays : (es : List Driven) (t : Time Place) (w : Valuation) → Solved es t w → (d : Driven) → In d es → IsMet d t w
row_stays es t w s d i = s.met d i

pub instances-append : (cs ds : List Cell) → instances (cs ++ ds) ≡ instances cs ++ instances ds
instances-append [] ds = refl
instances-append (c ∷ cs) ds =
    ap (λ z. listed (instance_of c (cell_kind c)) ++ z) (instances-append cs ds) ∙ sym (append_assoc (listed (instance_of c (cell_kind c))) (instances cs) (instances ds))

pub rows-append : (start : SigBit → Bit) (ports : Ports) (p : Path) (wires : List Wire) (cs ds : List Cell) → cells_rows start ports p wires (cs ++ ds) ≡ cells_rows start ports p wires cs ++ cells_rows start ports p wires ds
rows-append start ports p wires [] ds = refl
rows-append start ports p wires (c ∷ cs) ds =
    ap (λ z. cell_rows start ports p wires c (cell_kind c) ++ z) (rows-append start ports p wires cs ds) ∙ sym (append_assoc (cell_rows start ports p wires c (cell_kind c)) (cells_rows start ports p wires cs) (cells_rows start ports p wires ds))

module _ (start : SigBit → Bit) (ports : Ports) (p : Path) (wires : List Wire) where
  rows_left : (cs ds : List Cell) → Within (cells_rows start ports p wires cs) (cells_rows start ports p wires (cs ++ ds))
  rows_left cs ds d i =
      subst (In d) (sym (rows-append start ports p wires cs ds)) (In-left d (cells_rows start ports p wires cs) (cells_rows start ports p wires ds) i)

  rows_right : (cs ds : List Cell) → Within (cells_rows start ports p wires ds) (cells_rows start ports p wires (cs ++ ds))
  rows_right cs ds d i =
      subst (In d) (sym (rows-append start ports p wires cs ds)) (In-right d (cells_rows start ports p wires cs) (cells_rows start ports p wires ds) i)

  -- each row of the cells is met by a solution of the rows of all that stand for them
  swapped_met : (f : Cell → List Cell) (cs : List Cell) → ((c : Cell) → In c cs → StandsFor ports start wires c (f c)) → (t : Time Place) (w : Valuation) → Solved (cells_rows start ports p wires (flat_map f cs)) t w → SolvedBefore (cells_rows start ports p wires (flat_map f cs)) t → (d : Driven) → In d (cells_rows start ports p wires cs) → IsMet d t w
  swapped_met f [] h t w s b d i = absurd i
  swapped_met f (c ∷ cs) h t w s b d i =
      ⊎_elim
      (λ l. (h c (inl refl)).rows p t w (solved_within _ _ (rows_left (f c) (flat_map f cs)) t w s) (before_within _ _ (rows_left (f c) (flat_map f cs)) t b) d l)
      (λ r. swapped_met f cs (λ x j. h x (inr j)) t w (solved_within _ _ (rows_right (f c) (flat_map f cs)) t w s) (before_within _ _ (rows_right (f c) (flat_map f cs)) t b) d r)
      (In-cases d (cell_rows start ports p wires c (cell_kind c)) (cells_rows start ports p wires cs) i)

swapped_children : (ports : Ports) (start : SigBit → Bit) (wires : List Wire) (f : Cell → List Cell) (cs : List Cell) → ((c : Cell) → In c cs → StandsFor ports start wires c (f c)) → instances cs ≡ instances (flat_map f cs)
swapped_children ports start wires f [] h = refl
swapped_children ports start wires f (c ∷ cs) h =
    instances-append (c ∷ []) cs ∙ ap (λ z. z ++ instances cs) (sym (h c (inl refl)).children) ∙ ap (λ z. instances (f c) ++ z) (swapped_children ports start wires f cs (λ x j. h x (inr j))) ∙ sym (instances-append (f c) (flat_map f cs))

-- where cells stand for each cell, and no process or memory reads the cells, the module with them refines the module
pub swapped_refines : (m : Module) (ports : Ports) (f : Cell → List Cell) → ((p : Path) → plain_rows p (with_cells (flat_map f m.cells) m) ≡ plain_rows p m) → ((c : Cell) → In c m.cells → StandsFor ports (start_of m.wires m.processes) m.wires c (f c)) → RefinesOver m (with_cells (flat_map f m.cells) m) ports
swapped_refines m ports f plain h = lifted m (with_cells (flat_map f m.cells) m) ports (record {
  id = refl;
  ports_same = refl;
  children = swapped_children ports (start_of m.wires m.processes) m.wires f m.cells h;
  rows = λ p t w s b d i.
      let start : SigBit → Bit = start_of m.wires m.processes in
      let all : List Driven = rows_of ports p (with_cells (flat_map f m.cells) m) in
      let cells : Within (cells_rows start ports p m.wires (flat_map f m.cells)) all = λ x j. In-left x (cells_rows start ports p m.wires (flat_map f m.cells)) (plain_rows p (with_cells (flat_map f m.cells) m)) j in
      ⊎_elim
      (λ l. swapped_met start ports p m.wires f m.cells h t w (solved_within _ _ cells t w s) (before_within _ _ cells t b) d l)
      (λ r. s.met d (In-right d (cells_rows start ports p m.wires (flat_map f m.cells)) (plain_rows p (with_cells (flat_map f m.cells) m)) (subst (In d) (sym (plain p)) r)))
      (In-cases d (cells_rows start ports p m.wires m.cells) (plain_rows p m) i);
})

-- a module without processes and memories: its other rows are those of its connections
pub plain_alone : (m : Module) (cells : List Cell) → m.processes ≡ [] → m.memories ≡ [] → (p : Path) → plain_rows p (with_cells cells m) ≡ plain_rows p m
plain_alone m cells e g p = by m.processes m.memories e g
  where
    by : (ps : List Process) (ss : List Store) → ps ≡ [] → ss ≡ [] → plain_rows p (record m { cells = cells; processes = ps; memories = ss }) ≡ plain_rows p (record m { processes = ps; memories = ss })
    by [] [] e g = refl
    by (q ∷ ps) ss e g = absurd (cc)
    by [] (q ∷ ss) e g = absurd (cc)
