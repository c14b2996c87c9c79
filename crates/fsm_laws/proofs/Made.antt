-- The cells that are made stand among all, and instances and memories stay.
use Rattle.std.proofs.Common.{◌≡◌, ℕ, zero, suc, ◌+◌, List, [], ◌∷◌, ◌++◌, Some, ◌⊎◌, inl, inr, refl, sym, ◌∙◌, ap, append_assoc, arith, subst}
use Rattle.std.specs.Prelude.{slice_get}
use Rattle.rtl_ir.specs.declared.cell.Cell.{Cell}
use Rattle.rtl_ir.specs.declared.machine.Machine.{Machine}
use Rattle.rtl_ir.specs.declared.module.Link.{Link}
use Rattle.rtl_ir.specs.declared.module.Module.{Module}
use Rattle.rtl_ir.specs.declared.process.Process.{Process}
use Rattle.rtl_ir.specs.declared.store.Store.{Store}
use Rattle.rtl_ir.specs.declared.wire.Wire.{Wire}
use Rattle.rtl_ir.specs.Flat.Cell.{instances}
use Rattle.rtl_ir.specs.Flat.Memory.{memories_rows}
use Rattle.rtl_ir.specs.Flat.Place.{Path}
use Rattle.net_model.proofs.Members.{In-left, In-right}
use Rattle.net_model.proofs.Swapping.{instances-append}
use Rattle.net_model.specs.Fsm.Code.{Coding}
use Rattle.net_model.specs.Lists.{In}
use Rattle.net_model.specs.Within.{Each}
use Rattle.pass_laws.proofs.Memories.{memories_same}
use Rattle.pass_laws.specs.Replaces.{IsOutside}
use Rattle.fsm_laws.specs.Recoded.{all_links_made, cell_made, cells_made, links_made}

-- cells in the place of one: itself, or cells that are none of a memory in the place of such a cell, with its instances
pub record IsOther (c : Cell) (here : List Cell) : Type 0 where
  pub old : IsOutside c
  pub new : Each IsOutside here
  pub children : instances here ≡ instances (c ∷ [])

abbrev pub IsMade : Cell → List Cell → Type 0
IsMade c here = (here ≡ c ∷ []) ⊎ IsOther c here

module _ (m : Module) (machine : Machine) (c : Coding) where
  abbrev AreMade : ℕ → List Cell → Type 0
  AreMade from cells = (at : ℕ) (cell : Cell) → slice_get cells at ≡ Some cell → IsMade cell (cell_made m machine c (from + at) cell)

  first_made : (from : ℕ) (cell : Cell) (cells : List Cell) → AreMade from (cell ∷ cells) → IsMade cell (cell_made m machine c from cell)
  first_made from cell cells h =
      let here : from + 0 ≡ from = omega arith in
      subst (λ k. IsMade cell (cell_made m machine c k cell)) here (h 0 cell refl)

  later_made : (from : ℕ) (cell : Cell) (cells : List Cell) → AreMade from (cell ∷ cells) → AreMade (from + 1) cells
  later_made from cell cells h at d e =
      let next : from + suc at ≡ (from + 1) + at = omega arith in
      subst (λ k. IsMade d (cell_made m machine c k d)) next (h (suc at) d e)

  -- what is made for a cell stands among all
  pub made_among : (from at : ℕ) (cells : List Cell) (cell : Cell) → slice_get cells at ≡ Some cell → (d : Cell) → In d (cell_made m machine c (from + at) cell) → In d (cells_made m machine c from cells)
  made_among from at [] cell e d i = absurd (cc)
  made_among from zero (x ∷ cells) cell e d i =
      let here : from + 0 ≡ from = omega arith in
      let same : cell ≡ x = cc in
      In-left d (cell_made m machine c from x) (cells_made m machine c (from + 1) cells) (subst (λ z. In d (cell_made m machine c from z)) same (subst (λ k. In d (cell_made m machine c k cell)) here i))
  made_among from (suc at) (x ∷ cells) cell e d i =
      let next : from + suc at ≡ (from + 1) + at = omega arith in
      In-right d (cell_made m machine c from x) (cells_made m machine c (from + 1) cells) (made_among (from + 1) at cells cell e d (subst (λ k. In d (cell_made m machine c k cell)) next i))

  pub link_made_among : (from at : ℕ) (cells : List Cell) (cell : Cell) → slice_get cells at ≡ Some cell → (l : Link) → In l (links_made m machine c (from + at) cell) → In l (all_links_made m machine c from cells)
  link_made_among from at [] cell e l i = absurd (cc)
  link_made_among from zero (x ∷ cells) cell e l i =
      let here : from + 0 ≡ from = omega arith in
      let same : cell ≡ x = cc in
      In-left l (links_made m machine c from x) (all_links_made m machine c (from + 1) cells) (subst (λ z. In l (links_made m machine c from z)) same (subst (λ k. In l (links_made m machine c k cell)) here i))
  link_made_among from (suc at) (x ∷ cells) cell e l i =
      let next : from + suc at ≡ (from + 1) + at = omega arith in
      In-right l (links_made m machine c from x) (all_links_made m machine c (from + 1) cells) (link_made_among (from + 1) at cells cell e l (subst (λ k. In l (links_made m machine c k cell)) next i))

  instances_made : (cell : Cell) (here : List Cell) → IsMade cell here → instances here ≡ instances (cell ∷ [])
  instances_made cell here (inl e) = ap instances e
  instances_made cell here (inr o) = o.children

  -- the instances are the same
  pub instances_stay : (from : ℕ) (cells : List Cell) → AreMade from cells → instances (cells_made m machine c from cells) ≡ instances cells
  instances_stay from [] h = refl
  instances_stay from (x ∷ cells) h =
      instances-append (cell_made m machine c from x) (cells_made m machine c (from + 1) cells)
      ∙ (λ i. instances_made x (cell_made m machine c from x) (first_made from x cells h) i ++ instances_stay (from + 1) cells (later_made from x cells h) i)
      ∙ sym (instances-append (x ∷ []) cells)

  -- so are the rows of memories
  module _ (p : Path) (wires : List Wire) (processes : List Process) (stores : List Store) where
    one_stays : (pre : List Cell) (cell : Cell) (post here : List Cell) → IsMade cell here → memories_rows p wires (pre ++ (here ++ post)) processes stores ≡ memories_rows p wires (pre ++ cell ∷ post) processes stores
    one_stays pre cell post here (inl e) = ap (λ z. memories_rows p wires (pre ++ (z ++ post)) processes stores) e
    one_stays pre cell post here (inr o) = memories_same p wires processes pre cell post here o.old o.new stores

    all_stay : (from : ℕ) (pre cells : List Cell) → AreMade from cells → memories_rows p wires (pre ++ cells_made m machine c from cells) processes stores ≡ memories_rows p wires (pre ++ cells) processes stores
    all_stay from pre [] h = refl
    all_stay from pre (x ∷ cells) h =
        let here : List Cell = cell_made m machine c from x in
        ap (λ z. memories_rows p wires z processes stores) (sym (append_assoc pre here (cells_made m machine c (from + 1) cells)))
        ∙ all_stay (from + 1) (pre ++ here) cells (later_made from x cells h)
        ∙ ap (λ z. memories_rows p wires z processes stores) (append_assoc pre here cells)
        ∙ one_stays pre x cells here (first_made from x cells h)

    pub memories_stay : (cells : List Cell) → AreMade 0 cells → memories_rows p wires (cells_made m machine c 0 cells) processes stores ≡ memories_rows p wires cells processes stores
    memories_stay cells h = all_stay 0 [] cells h
