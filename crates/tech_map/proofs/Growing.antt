-- Gates, wires and connections are only added: all else of the module stays, and the numbers of fresh names go up.
use Rattle.std.proofs.Common.{◌≡◌, ℕ, ◌+◌, ◌≤◌, List, [], ◌∷◌, ◌++◌, length, Option, Some, None, inl, inr, refl, sym, ◌∙◌, ap, subst, arith, append_assoc}
use Rattle.cell_types.specs.declared.kind.CellKind.{CellKind}
use Rattle.rtl_ir.specs.Build.{Building}
use Rattle.rtl_ir.specs.Flat.Cell.{cell_kind}
use Rattle.rtl_ir.specs.declared.cell.Cell.{Cell}
use Rattle.net_index.specs.Builder.{PassesLimit}
use Rattle.net_model.specs.Within.{Each}
use Rattle.map_laws.specs.Expansion.{Adds, IsWholeCell, cells_added, links_added, wires_added}
use Rattle.map_laws.proofs.Expanding.{adds_more, adds_none, wires_count}
use Rattle.gate_nets.proofs.LimitsKept as limits
use Rattle.map_laws.proofs.Wholes.{whole_more}
use Rattle.tech_map.specs.InPlace.{count_of, counts_of}
use Rattle.tech_map.specs.Techmap.{taken_kind, with_all_gates, with_gates}
use Rattle.tech_map.proofs.ByKind.{mapped, taken_is}

-- what of one sort of items is added for a cell
abbrev pub one_added : {A : Type 0} → (Building → Building → List A) → Option CellKind → Cell → Building → List A
one_added items (Some kind) c b = items b (with_gates (Some kind) c b)
one_added items None c b = []

-- and for all of these cells
abbrev pub all_added : {A : Type 0} → (Building → Building → List A) → List Cell → Building → List A
all_added items [] b = []
all_added items (c ∷ cs) b = one_added items (taken_kind c) c b ++ all_added items cs (with_gates (taken_kind c) c b)

-- the cells are whole in a module that is added to
abbrev pub AreWhole : List Cell → Building → Type 0
AreWhole cs b = Each (IsWholeCell (length b.body.wires)) cs

pub one_adds : (c : Cell) (b : Building) (k : Option CellKind) → taken_kind c ≡ k → IsWholeCell (length b.body.wires) c → Adds b (with_gates k c b) (one_added cells_added k c b) (one_added wires_added k c b) (one_added links_added k c b)
one_adds c b None e whole = adds_none b
one_adds c b (Some kind) e whole =
    let is = taken_is (cell_kind c) kind e in
    (mapped kind is.taken c b (whole kind is.own)).expansion.adds

module _ (c : Cell) (b : Building) (whole : IsWholeCell (length b.body.wires) c) where
  pub gates_add : Adds b (with_gates (taken_kind c) c b) (one_added cells_added (taken_kind c) c b) (one_added wires_added (taken_kind c) c b) (one_added links_added (taken_kind c) c b)
  gates_add = one_adds c b (taken_kind c) refl whole

  pub next_wires : length (with_gates (taken_kind c) c b).body.wires ≡ length b.body.wires + length (one_added wires_added (taken_kind c) c b)
  next_wires = wires_count b (with_gates (taken_kind c) c b) _ _ _ gates_add

  pub more_wires : length b.body.wires ≤ length (with_gates (taken_kind c) c b).body.wires
  more_wires = omega (arith, next_wires)

-- the cells behind a cell are whole once its gates are there
pub whole_next : (c : Cell) (cs : List Cell) (b : Building) → AreWhole (c ∷ cs) b → AreWhole cs (with_gates (taken_kind c) c b)
whole_next c cs b whole d i = whole_more _ _ d (more_wires c b (whole c (inl refl))) (whole d (inr i))

pub all_add : (cs : List Cell) (b : Building) → AreWhole cs b → Adds b (with_all_gates cs b) (all_added cells_added cs b) (all_added wires_added cs b) (all_added links_added cs b)
all_add [] b whole = adds_none b
all_add (c ∷ cs) b whole =
    adds_more b (with_gates (taken_kind c) c b) (with_all_gates (c ∷ cs) b) _ _ _ _ _ _ (gates_add c b (whole c (inl refl))) (all_add cs (with_gates (taken_kind c) c b) (whole_next c cs b whole))

-- where a module passes a limit, it does with the gates of further cells
pub over_later : (cs : List Cell) (b : Building) → AreWhole cs b → PassesLimit b → PassesLimit (with_all_gates cs b)
over_later cs b whole = limits.over_later b (with_all_gates cs b) _ _ _ (all_add cs b whole)

-- the same of the cells that are left, of which the first comes next
module _ (left later : List Cell) (c : Cell) (b : Building) (next : left ≡ c ∷ later) where
  pub over_here : AreWhole left b → (all : Building) → with_all_gates left b ≡ all → PassesLimit (with_gates (taken_kind c) c b) → PassesLimit all
  over_here whole all rest over =
      let here : AreWhole (c ∷ later) b = subst (λ ds. AreWhole ds b) next whole in
      subst PassesLimit (ap (λ ds. with_all_gates ds b) (sym next) ∙ rest) (over_later later (with_gates (taken_kind c) c b) (whole_next c later b here) over)

  -- with the gates of the first
  module _ (new : Building) (is : new ≡ with_gates (taken_kind c) c b) where
    pub gates_here : (all : Building) → with_all_gates left b ≡ all → with_all_gates later new ≡ all
    gates_here all e = ap (with_all_gates later) is ∙ ap (λ ds. with_all_gates ds b) (sym next) ∙ e

    pub counts_here : (counts counts' all : List ℕ) → counts' ≡ counts ++ count_of (taken_kind c) c b → counts ++ counts_of left b ≡ all → counts' ++ counts_of later new ≡ all
    counts_here counts counts' all e h =
        (λ i. e i ++ counts_of later (is i)) ∙ append_assoc counts (count_of (taken_kind c) c b) (counts_of later (with_gates (taken_kind c) c b)) ∙ ap (λ ds. counts ++ counts_of ds b) (sym next) ∙ h

    pub whole_here : AreWhole left b → AreWhole later new
    whole_here whole = subst (AreWhole later) (sym is) (whole_next c later b (subst (λ ds. AreWhole ds b) next whole))
