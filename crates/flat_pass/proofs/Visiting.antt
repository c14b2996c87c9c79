-- Cells that are visited in order, up to the first instance.
use Rattle.std.proofs.Common.{◌≡◌, ℕ, ◌-◌, Bool, true, false, cond, List, [], ◌∷◌, ◌++◌, Option, Some, None, refl, sym, ◌∙◌, ap, subst, append_assoc}
use Rattle.std.specs.Prelude.{is_none, option_map}
use Rattle.std.proofs.lemmas.List.{append-nil}
use Rattle.rtl_ir.specs.declared.cell.Cell.{Cell}
use Rattle.rtl_ir.specs.declared.module.Module.{Module}
use Rattle.rtl_ir.specs.Build.{Building, building_of}
use Rattle.rtl_ir.specs.Flat.Cell.{cell_kind}
use Rattle.flat_pass.specs.Counts.{AreNames, Counted, count_of}
use Rattle.flat_pass.specs.Flat.{first_instance, with_cells}
use Rattle.flat_pass.specs.Grown.{IsSound, TakesFirst, built}
use Rattle.flat_pass.specs.declared.grown.Grown.{Grown}
use Rattle.flat_pass.specs.declared.namer.Namer.{Namer}
use Rattle.flat_pass.proofs.Naming.{names_less}

-- a cell before others
abbrev pub after_cell : Bool → Cell → List Cell → Option (Cell × List Cell) → Option (Cell × List Cell)
after_cell first c cells rest = cond first (Some (c, cells)) (option_map (λ (r : Cell × List Cell). (r.0, c ∷ r.1)) rest)

rest_none : (b : Bool) (c : Cell) (cells : List Cell) (o : Option (Cell × List Cell)) → after_cell b c cells o ≡ None → (b ≡ false) × (o ≡ None)
rest_none true c cells o e = absurd (cc)
rest_none false c cells None e = (refl, refl)
rest_none false c cells (Some r) e = absurd (cc)

-- an instance behind cells that are none
pub first_behind : (done : List Cell) (c : Cell) (rest : List Cell) → first_instance done ≡ None → is_none (cell_kind c) ≡ true → first_instance (done ++ c ∷ rest) ≡ Some (c, done ++ rest)
first_behind [] c rest none here = ap (λ b. after_cell b c rest (first_instance rest)) here
first_behind (d ∷ done) c rest none here =
    let k = rest_none (is_none (cell_kind d)) d done (first_instance done) none in
    ap (λ b. after_cell b d (done ++ c ∷ rest) (first_instance (done ++ c ∷ rest))) k.0 ∙ ap (λ o. option_map (λ (r : Cell × List Cell). (r.0, d ∷ r.1)) o) (first_behind done c rest k.1 here)

-- one more cell that is none
pub first_more : (done : List Cell) (c : Cell) → first_instance done ≡ None → is_none (cell_kind c) ≡ false → first_instance (done ++ c ∷ []) ≡ None
first_more [] c none here = ap (λ b. after_cell b c [] None) here
first_more (d ∷ done) c none here =
    let k = rest_none (is_none (cell_kind d)) d done (first_instance done) none in
    ap (λ b. after_cell b d (done ++ c ∷ []) (first_instance (done ++ c ∷ []))) k.0 ∙ ap (λ o. option_map (λ (r : Cell × List Cell). (r.0, d ∷ r.1)) o) (first_more done c k.1 here)

-- a cell goes from those that wait to those that were visited
pub one_visited : (m : Module) (next : ℕ) (done : List Cell) (c : Cell) (waiting : List Cell) → ◌≡◌ {A = Building} (record { body = record m { cells = (done ++ c ∷ []) ++ waiting }; next = next }) (record { body = record m { cells = done ++ c ∷ waiting }; next = next })
one_visited m next done c waiting = ap (λ cells. record { body = record m { cells = cells }; next = next }) (append_assoc done (c ∷ []) waiting)

-- the module, whose first waiting cell is an instance, without it
module _ (g : Grown) (namer : Namer) (c : Cell) (rest : List Cell) (waits : g.waiting.items ≡ c ∷ rest) (next : namer.next ≡ g.namer.next) where
  pub takes : (old : Building) → built g ≡ old → IsSound g → is_none (cell_kind c) ≡ true → TakesFirst old (record { body = record g.body { cells = g.body.cells ++ rest }; next = namer.next }) (Some c)
  takes old same sound here = (
    ap (λ z. first_instance z.body.cells) (sym same) ∙ ap (λ ws. first_instance (g.body.cells ++ ws)) waits ∙ first_behind g.body.cells c rest sound.library here,
    ap (λ n. record { body = record g.body { cells = g.body.cells ++ rest }; next = n }) next ∙ ap (with_cells (g.body.cells ++ rest)) same,
  )

  pub names_taken : IsSound g → Counted g.namer.counts namer.counts c.name (count_of g.namer.counts c.name - 1) → AreNames namer (record { body = record g.body { cells = g.body.cells ++ rest }; next = namer.next })
  names_taken sound counted =
      names_less g.namer namer g.body g.body.cells c rest (subst (λ ws. AreNames g.namer (record { body = record g.body { cells = g.body.cells ++ ws }; next = g.namer.next })) waits sound.names) counted next

-- the module is the same once a waiting cell that is no instance was visited
module _ (g : Grown) (c : Cell) (rest done : List Cell) (waits : g.waiting.items ≡ c ∷ rest) (visited : done ≡ g.body.cells ++ c ∷ []) where
  pub visits : ◌≡◌ {A = Building} (record { body = record g.body { cells = done ++ rest }; next = g.namer.next }) (built g)
  visits =
      ap (λ cells. record { body = record g.body { cells = cells ++ rest }; next = g.namer.next }) visited
      ∙ one_visited g.body g.namer.next g.body.cells c rest
      ∙ ap (λ ws. record { body = record g.body { cells = g.body.cells ++ ws }; next = g.namer.next }) (sym waits)

  pub none_visited : IsSound g → is_none (cell_kind c) ≡ false → first_instance done ≡ None
  none_visited sound here = ap first_instance visited ∙ first_more g.body.cells c sound.library here

-- no cell waits, so there is no instance
module _ (g : Grown) (rest : List Cell) (waits : g.waiting.items ≡ rest) where
  pub takes_none : (old : Building) → built g ≡ old → IsSound g → rest ≡ [] → TakesFirst old (record { body = record g.body { cells = g.body.cells ++ rest }; next = g.namer.next }) None
  takes_none old same sound empty = (
    ap (λ z. first_instance z.body.cells) (sym same) ∙ ap (λ ws. first_instance (g.body.cells ++ ws)) (waits ∙ empty) ∙ ap first_instance (append-nil g.body.cells) ∙ sound.library,
    ap (λ ws. record { body = record g.body { cells = g.body.cells ++ ws }; next = g.namer.next }) (sym waits) ∙ same,
  )

  pub names_none : IsSound g → AreNames g.namer (record { body = record g.body { cells = g.body.cells ++ rest }; next = g.namer.next })
  names_none sound = subst (λ ws. AreNames g.namer (record { body = record g.body { cells = g.body.cells ++ ws }; next = g.namer.next })) waits sound.names

-- a module with its cells in two lists
abbrev pub with_waiting : Module → List Cell → ℕ → Building
with_waiting m waiting next = record { body = record m { cells = m.cells ++ waiting }; next = next }

-- a module of which no cell was visited yet
pub starts : (m body : Module) (namer : Namer) (waiting : List Cell) → body ≡ record m { cells = [] } → waiting ≡ m.cells → AreNames namer (building_of m) → with_waiting body waiting namer.next ≡ building_of m
starts m body namer waiting is waits names = λ i. with_waiting (is i) (waits i) (names.next i)
