-- The gates of cells in a row, put into the places of the cells, are what the pass puts there.
use Rattle.std.proofs.Common.{◌≡◌, ◌≤◌, ◌+◌, ℕ, List, [], ◌∷◌, ◌++◌, length, take, drop, Option, Some, None, refl, sym, ◌∙◌, ap, subst, arith, length-append}
use Rattle.std.proofs.Math.Seq.{drop-append_seam}
use Rattle.cell_types.specs.declared.kind.CellKind.{CellKind}
use Rattle.rtl_ir.specs.Build.{Building, building_of}
use Rattle.rtl_ir.specs.declared.cell.Cell.{Cell}
use Rattle.rtl_ir.specs.declared.module.Module.{Module}
use Rattle.map_laws.specs.Expansion.{cells_added}
use Rattle.tech_map.specs.InPlace.{count_of, counts_after, counts_of, first_of, put_in, rest_of}
use Rattle.tech_map.specs.Techmap.{beside, stand_in, stand_ins, taken_kind, techmap_of, with_all_gates, with_gates}
use Rattle.tech_map.proofs.Growing.{AreWhole, all_add, all_added, one_added}

take_seam : (xs ys : List Cell) → take (length xs) (xs ++ ys) ≡ xs
take_seam [] ys = refl
take_seam (x ∷ xs) ys = ap (λ z. x ∷ z) (take_seam xs ys)

-- a cell and those behind it, by its kind
placed : (c : Cell) (cs : List Cell) (b : Building) (counts : List ℕ) (gates rest : List Cell) → put_in cs counts gates ≡ rest → (k : Option CellKind)
    → first_of k c (count_of k c b ++ counts) (one_added cells_added k c b ++ gates) ++ put_in cs (counts_after k (count_of k c b ++ counts)) (rest_of k (count_of k c b ++ counts) (one_added cells_added k c b ++ gates)) ≡ stand_in k c b ++ rest
placed c cs b counts gates rest e None = ap (λ z. c ∷ z) e
placed c cs b counts gates rest e (Some kind) =
    let here : List Cell = cells_added b (with_gates (Some kind) c b) in
    ap (λ z. z ++ put_in cs counts (drop (length here) (here ++ gates))) (take_seam here gates)
    ∙ ap (λ z. here ++ put_in cs counts z) (drop-append_seam here gates)
    ∙ ap (λ z. here ++ z) e

all_placed : (cs : List Cell) (b : Building) → put_in cs (counts_of cs b) (all_added cells_added cs b) ≡ stand_ins cs b
all_placed [] b = refl
all_placed (c ∷ cs) b =
    let next : Building = with_gates (taken_kind c) c b in
    placed c cs b (counts_of cs next) (all_added cells_added cs next) (stand_ins cs next) (all_placed cs next) (taken_kind c)

module _ (m : Module) (whole : AreWhole m.cells (building_of m)) where
  abbrev row : List Cell
  row = all_added cells_added m.cells (building_of m)

  cells_beside : (beside m).body.cells ≡ m.cells ++ row
  cells_beside = ap (λ n. n.cells) (all_add m.cells (building_of m) whole).body

  no_fewer : length m.cells ≤ length (beside m).body.cells
  no_fewer = let e : length (beside m).body.cells ≡ length m.cells + length row = ap length cells_beside ∙ length-append m.cells row in omega (arith, e)

  -- the gates behind the cells, put into their places, are the pass
  in_their_places : (counts : List ℕ) → counts ≡ counts_of m.cells (building_of m) → record (beside m).body { cells = put_in (take (length m.cells) (beside m).body.cells) counts (drop (length m.cells) (beside m).body.cells) } ≡ techmap_of m
  in_their_places counts same =
      let cells : take (length m.cells) (beside m).body.cells ≡ m.cells = ap (take (length m.cells)) cells_beside ∙ take_seam m.cells row in
      let gates : drop (length m.cells) (beside m).body.cells ≡ row = ap (drop (length m.cells)) cells_beside ∙ drop-append_seam m.cells row in
      let both : put_in (take (length m.cells) (beside m).body.cells) counts (drop (length m.cells) (beside m).body.cells) ≡ stand_ins m.cells (building_of m) =
      ap (λ z. put_in z counts (drop (length m.cells) (beside m).body.cells)) cells ∙ ap (put_in m.cells counts) gates ∙ ap (λ z. put_in m.cells z row) same ∙ all_placed m.cells (building_of m)
      in
      ap (λ z. record (beside m).body { cells = z }) both

  -- the same of what the calls answer, one after another
  module _ (body : Module) (start end : Building) (cells : List Cell) (count : ℕ) (begin : start ≡ building_of m) (same : cells ≡ m.cells) (all : end ≡ with_all_gates cells start) (is : body ≡ end.body) (long : count ≡ length cells) where
    body_is : body ≡ (beside m).body
    body_is = is ∙ ap (λ b. b.body) (all ∙ (λ i. with_all_gates (same i) (begin i)))

    count_is : count ≡ length m.cells
    count_is = long ∙ ap length same

    pub all_there : count ≤ length body.cells
    all_there = let e : length body.cells ≡ length (beside m).body.cells = ap (λ n. length n.cells) body_is in omega (arith, e, count_is, no_fewer)

    pub placed_module : (after : Module) (counts : List ℕ) → counts ≡ counts_of cells start → after ≡ record body { cells = put_in (take count body.cells) counts (drop count body.cells) } → after ≡ techmap_of m
    placed_module after counts each made =
        made
        ∙ (λ i. record (body_is i) { cells = put_in (take (count_is i) (body_is i).cells) counts (drop (count_is i) (body_is i).cells) })
        ∙ in_their_places counts (each ∙ (λ i. counts_of (same i) (begin i)))

-- the cells of a module that were copied are whole
pub whole_given : (m : Module) (b : Building) (cells : List Cell) → b ≡ building_of m → cells ≡ m.cells → AreWhole m.cells (building_of m) → AreWhole cells b
whole_given m b cells f g whole =
    subst (λ z. AreWhole z b) (sym g) (subst (AreWhole m.cells) (sym f) whole)
