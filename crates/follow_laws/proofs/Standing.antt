-- Cells with followed inputs in the places of cells: the module with them refines the module, and no bit has a second driver.
use Rattle.std.proofs.Common.{◌≡◌, List, [], ◌∷◌, ◌++◌, ◌⊎◌, inl, inr, refl, sym, ◌∙◌, ap, subst}
use Rattle.std.specs.Prelude.{map}
use Rattle.rtl_bits.specs.declared.bit.Bit.{Bit}
use Rattle.rtl_sig.specs.declared.sig.SigBit.{SigBit}
use Rattle.rtl_ir.specs.declared.cell.Cell.{Cell}
use Rattle.rtl_ir.specs.declared.module.Link.{Link}
use Rattle.rtl_ir.specs.declared.module.Module.{Module}
use Rattle.rtl_ir.specs.Flat.Cell as flat
use Rattle.rtl_ir.specs.Flat.Cell.{cell_kind, cells_rows, instance_of, instances, listed}
use Rattle.rtl_ir.specs.Flat.Driver.{Driven, Driver}
use Rattle.rtl_ir.specs.Flat.Link.{link_rows}
use Rattle.rtl_ir.specs.Flat.Memory.{memories_rows}
use Rattle.rtl_ir.specs.Flat.Place.{Frame, IsOf, Path, Place}
use Rattle.rtl_ir.specs.Flat.Point.{Point, point}
use Rattle.rtl_ir.specs.Flat.Process.{processes_rows}
use Rattle.rtl_ir.specs.Flat.Rows.{plain_rows, rows_of}
use Rattle.rtl_ir.specs.Flat.Start.{start_of}
use Rattle.rtl_ir.specs.Flat.Tree.{design_ports}
use Rattle.rtl_ir.specs.Follow.{follow}
use Rattle.rtl_ir.specs.Types as types
use Rattle.rtl_ir.specs.Types.{cell_type}
use Rattle.net_model.specs.Lists.{Distinct, In}
use Rattle.net_model.specs.Refine.{AgreeOn, IsWellDriven, RefinesOver, RowsRefine, Solved, SolvedBefore, places_of, with_body}
use Rattle.net_model.specs.Run.{Time}
use Rattle.net_model.specs.Swap.{with_cells}
use Rattle.net_model.specs.Valuation.{Valuation}
use Rattle.net_model.proofs.Lifted.{lifted}
use Rattle.net_model.proofs.Members.{In-left, In-map, In-mapped, In-right, map-append}
use Rattle.net_model.proofs.Relating.{Within, solved_within}
use Rattle.net_model.specs.Within.{Each}
use Rattle.net_model.proofs.Swapping.{before_within}
use Rattle.pass_laws.proofs.Accesses.{IsAccess}
use Rattle.pass_laws.proofs.Moving.{split}
use Rattle.pass_laws.proofs.Rewriting.{rows_are}
use Rattle.follow_laws.specs.Alike.{DriveAlike, ReadAlike, SameBit}
use Rattle.follow_laws.specs.Inputs.{MayFollow, followed_cell}
use Rattle.follow_laws.proofs.Apart.{IsApart}
use Rattle.follow_laws.proofs.Carrying.{Carries, Rows, rows_self}
use Rattle.follow_laws.proofs.Following.{follow_read}
use Rattle.follow_laws.proofs.Meeting.{met_by}
use Rattle.follow_laws.proofs.Pairs.{pairs_append, same_places}
use Rattle.follow_laws.proofs.Reading.{carries}
use Rattle.follow_laws.proofs.Rows.{cells_by, cells_paired}
use Rattle.follow_laws.proofs.Signals.{kind_stays}
use Rattle.follow_laws.proofs.Words.{memories_paired}

-- the instances stay
pub instances_stay : (ports : types.Ports) (links : List Link) (cs ds : List Cell) → MayFollow ports links cs ds → instances cs ≡ instances ds
instances_stay ports links [] [] may = refl
instances_stay ports links (c ∷ cs) (d ∷ ds) may =
    ap (λ z. z ++ instances cs) (by may.0) ∙ ap (λ z. listed (instance_of d (cell_kind d)) ++ z) (instances_stay ports links cs ds may.1)
  where
    by : (c ≡ d) ⊎ (followed_cell ports links c ≡ d) → listed (instance_of c (cell_kind c)) ≡ listed (instance_of d (cell_kind d))
    by (inl e) = ap (λ z. listed (instance_of z (cell_kind z))) e
    by (inr e) =
        ap (λ o. listed (instance_of (followed_cell ports links c) o)) (sym (kind_stays ports links c)) ∙ ap (λ z. listed (instance_of z (cell_kind z))) e
instances_stay ports links [] (d ∷ ds) may = absurd may
instances_stay ports links (c ∷ cs) [] may = absurd may

-- nothing is said of points and drivers
abbrev anything : Carries (λ a b. Unit {0}) (λ d e. Unit {0})
anything = record {
  same_point = λ a. tt;
  same_driver = λ d. tt;
  joined = λ a b h. tt;
  worked = λ shape low high at h. tt;
  stored = λ start shape at a b own h. tt;
  remembered = λ start a b level address low high own h ports. tt;
  fetched = λ low high first words h. tt;
}

module _ (ports : types.Ports) (over : flat.Ports) (m : Module) (cells : List Cell) (processes : m.processes ≡ []) (good : Each (λ c. (before : List Cell) × IsAccess m before c (cell_type ports c.kind_name)) m.cells) (may : MayFollow ports m.links m.cells cells) where
  abbrev after : Module
  after = with_cells cells m

  abbrev start : SigBit → Bit
  start = start_of m.wires m.processes

  abbrev before_rows : Path → List Driven
  before_rows p = cells_rows start over p m.wires m.cells

  abbrev after_rows : Path → List Driven
  after_rows p = cells_rows start over p m.wires cells

  -- what the cells drive, no connection drives
  apart : IsWellDriven over m → (p : Path) (d : Driven) → In d (before_rows p) → IsApart p m.wires m.links d
  apart fine p d i l j e =
      let rest : List Driven = processes_rows start p m.wires m m.processes ++ memories_rows p m.wires m.cells m.processes m.memories in
      let whole : Distinct (places_of (before_rows p) ++ places_of (plain_rows p m)) = subst Distinct (map-append (λ (row : Driven). row.place) (before_rows p) (plain_rows p m)) (fine.rows p) in
      let link : In l.place (places_of (plain_rows p m)) = In-map (λ (row : Driven). row.place) l (plain_rows p m) (In-left l (link_rows p m.wires m.links) rest j) in
      (split (places_of (before_rows p)) (places_of (plain_rows p m)) whole).2 d.place (In-map (λ (row : Driven). row.place) d (before_rows p) i) (subst (λ z. In z (places_of (plain_rows p m))) (sym e) link)

  module _ (fine : IsWellDriven over m) where
    -- the rows stand in pairs
    paired : (P : Point → Point → Type 0) (related : Driver → Driver → Type 0) (k : Carries P related) (p : Path) → ((s : SigBit) → P (point p m.wires s) (point p m.wires (follow m.links s))) → Rows P related k (rows_of over p m) (rows_of over p after)
    paired P related k p leads =
        subst (λ z. Rows P related k z (rows_of over p after)) (sym (rows_are over p m processes)) (subst (Rows P related k (before_rows p ++ (links ++ memories_rows p m.wires m.cells m.processes m.memories))) (sym (rows_are over p after processes)) whole)
      where
        links : List Driven
        links = link_rows p m.wires m.links

        memories : Rows P related k (memories_rows p m.wires m.cells m.processes m.memories) (memories_rows p m.wires cells m.processes m.memories)
        memories =
            memories_paired P related k p m.wires m.processes m.cells cells (cells_by P related k ports over start p m.wires m.links leads m m.cells cells may good) m.memories

        whole : Rows P related k (before_rows p ++ (links ++ memories_rows p m.wires m.cells m.processes m.memories)) (after_rows p ++ (links ++ memories_rows p m.wires cells m.processes m.memories))
        whole =
            pairs_append (SameBit related) (before_rows p) (after_rows p) (links ++ memories_rows p m.wires m.cells m.processes m.memories) (links ++ memories_rows p m.wires cells m.processes m.memories) (cells_paired P related k ports over start p m.wires m.links leads m.cells cells may (apart fine p)) (pairs_append (SameBit related) links links (memories_rows p m.wires m.cells m.processes m.memories) (memories_rows p m.wires cells m.processes m.memories) (rows_self P related k links) memories)

    same_rows : (p : Path) → places_of (rows_of over p m) ≡ places_of (rows_of over p after)
    same_rows p =
        same_places (λ d e. Unit {0}) (rows_of over p m) (rows_of over p after) (paired (λ a b. Unit {0}) (λ d e. Unit {0}) anything p (λ s. tt))

    -- no bit has a second driver
    pub driven : IsWellDriven over after
    driven = record {
      inputs = fine.inputs;
      rows = λ p. subst Distinct (same_rows p) (fine.rows p);
      apart = λ p x i here n j role of.
          let k = In-mapped (λ (row : Driven). row.place) x.place (rows_of over p m) (subst (In x.place) (sym (same_rows p)) (In-map (λ (row : Driven). row.place) x (rows_of over p after) i)) in
          fine.apart p k.0 k.1 (ap (λ q. q.path) (sym k.2) ∙ here) n j role (subst (λ q. IsOf n.name q.spot) k.2 of);
      instances = subst (λ frames. Distinct (map (λ (f : Frame). f.name) frames)) (instances_stay ports m.links m.cells cells may) fine.instances;
    }

    module _ (p : Path) (t : Time Place) (w : Valuation) (solved : Solved (rows_of over p after) t w) (before : SolvedBefore (rows_of over p after) t) where
      links_within : Within (link_rows p m.wires m.links) (rows_of over p after)
      links_within d i =
          In-right d (after_rows p) (plain_rows p after) (In-left d (link_rows p m.wires m.links) (processes_rows start p m.wires after m.processes ++ memories_rows p m.wires cells m.processes m.memories) i)

      -- the rows stand in pairs of rows that give the same
      alike : Rows (ReadAlike t w) (DriveAlike t w) (carries t w) (rows_of over p m) (rows_of over p after)
      alike =
          paired (ReadAlike t w) (DriveAlike t w) (carries t w) p (follow_read p m.wires m.links t w (solved_within (link_rows p m.wires m.links) (rows_of over p after) links_within t w solved) (before_within (link_rows p m.wires m.links) (rows_of over p after) links_within t before))

    pub refine : RowsRefine m after over
    refine = record {
      id = refl;
      ports_same = refl;
      children = instances_stay ports m.links m.cells cells may;
      rows = λ p t w solved before d i. met_by t w (rows_of over p m) (rows_of over p after) (alike p t w solved before) solved.met d i;
    }

agree_refl : (ports : flat.Ports) (frames : List Frame) → AgreeOn ports ports frames
agree_refl ports [] = tt
agree_refl ports (f ∷ frames) = (refl, agree_refl ports frames)

-- the module with followed inputs refines the module, whatever the ports of the instances are
pub refines : (ports : types.Ports) (over : flat.Ports) (m : Module) (cells : List Cell) → m.processes ≡ [] → Each (λ c. (before : List Cell) × IsAccess m before c (cell_type ports c.kind_name)) m.cells → MayFollow ports m.links m.cells cells → RefinesOver m (with_cells cells m) over
refines ports over m cells processes good may = record {
  holds = λ pre post fine fine' agree.
      let own : flat.Ports = design_ports (with_body pre m post) in
      let here : IsWellDriven own m = fine.modules m (In-right m pre (m ∷ post) (inl refl)) in
      (lifted m (with_cells cells m) own (refine ports own m cells processes good may here)).holds pre post fine fine' (agree_refl own (instances m.cells));
}
