-- The first instance of a module, and the cells without it.
use Rattle.std.proofs.Common.{◌≡◌, Bool, false, cond, List, [], ◌∷◌, ◌++◌, Option, Some, None, ◌⊎◌, inl, inr, ⊎_elim, refl, sym, ◌∙◌, ap, subst}
use Rattle.std.specs.Prelude.{filter, is_none, option_map, unwrap_or}
use Rattle.cell_types.specs.declared.kind.CellKind.{CellKind}
use Rattle.rtl_ir.specs.declared.cell.Cell.{Cell}
use Rattle.rtl_ir.specs.Flat.Cell.{cell_kind, instance_of, instances, listed}
use Rattle.rtl_ir.specs.Flat.Place.{frame}
use Rattle.net_model.specs.Lists.{In}
use Rattle.net_model.proofs.Members.{In-right}
use Rattle.net_model.proofs.Swapping.{instances-append}
use Rattle.flat_pass.specs.Flat.{first_instance}

-- an instance among cells, with no instance before it, and the cells without it
pub record Split (f : Cell) (rest cells : List Cell) : Type 0 where
  pub pre : List Cell
  pub post : List Cell
  pub all : cells ≡ pre ++ f ∷ post
  pub others : rest ≡ pre ++ post
  pub none : instances pre ≡ []
  pub kind : cell_kind f ≡ None

pub some_same : {A : Type 0} (x y : A) → Some x ≡ Some y → x ≡ y
some_same x y e = ap (λ z. unwrap_or z x) e

instances_one : (c : Cell) (cells : List Cell) (kind : CellKind) → cell_kind c ≡ Some kind → instances (c ∷ cells) ≡ instances cells
instances_one c cells kind e = ap (λ o. listed (instance_of c o) ++ instances cells) e

pub first_split : (cells : List Cell) (r : Cell × List Cell) → first_instance cells ≡ Some r → Split r.0 r.1 cells
first_split [] r e = absurd (cc)
first_split (c ∷ cells) r e = by (cell_kind c) refl (first_instance cells) (λ s q. first_split cells s q) e
  where
    by : (o : Option CellKind) → cell_kind c ≡ o → (rest : Option (Cell × List Cell)) → ((s : Cell × List Cell) → rest ≡ Some s → Split s.0 s.1 cells) → cond (is_none o) (Some (c, cells)) (option_map (λ (s : Cell × List Cell). (s.0, c ∷ s.1)) rest) ≡ Some r → Split r.0 r.1 (c ∷ cells)
    by None q rest later g =
        subst (λ z. Split z.0 z.1 (c ∷ cells)) (some_same (c, cells) r g) (record { pre = []; post = cells; all = refl; others = refl; none = refl; kind = q })
    by (Some kind) q None later g = absurd (cc)
    by (Some kind) q (Some s) later g =
        let k = later s refl in
        subst (λ z. Split z.0 z.1 (c ∷ cells)) (some_same (s.0, c ∷ s.1) r g) (record { pre = c ∷ k.pre; post = k.post; all = ap (λ z. c ∷ z) k.all; others = ap (λ z. c ∷ z) k.others; none = instances_one c k.pre kind q ∙ k.none; kind = k.kind })

in_middle : (pre : List Cell) (f : Cell) (post : List Cell) (x : Cell) → In x (pre ++ f ∷ post) → (x ≡ f) ⊎ In x (pre ++ post)
in_middle [] f post x i = i
in_middle (c ∷ pre) f post x (inl e) = inr (inl e)
in_middle (c ∷ pre) f post x (inr i) = ⊎_elim (λ l. inl l) (λ r. inr (inr r)) (in_middle pre f post x i)

in_around : (pre : List Cell) (f : Cell) (post : List Cell) (x : Cell) → In x (pre ++ post) → In x (pre ++ f ∷ post)
in_around [] f post x i = inr i
in_around (c ∷ pre) f post x (inl e) = inl e
in_around (c ∷ pre) f post x (inr i) = inr (in_around pre f post x i)

filter_around : (test : Cell → Bool) (pre : List Cell) (f : Cell) (post : List Cell) → test f ≡ false → filter test (pre ++ f ∷ post) ≡ filter test (pre ++ post)
filter_around test [] f post e = ap (λ t. cond t (f ∷ filter test post) (filter test post)) e
filter_around test (c ∷ pre) f post e =
    ap (λ z. cond (test c) (c ∷ z) z) (filter_around test pre f post e)

module _ (f : Cell) (rest cells : List Cell) (h : Split f rest cells) where
  pub taken_in : In f cells
  taken_in = subst (In f) (sym h.all) (In-right f h.pre (f ∷ h.post) (inl refl))

  pub taken_cases : (x : Cell) → In x cells → (x ≡ f) ⊎ In x rest
  taken_cases x i =
      ⊎_elim (λ l. inl l) (λ r. inr (subst (In x) (sym h.others) r)) (in_middle h.pre f h.post x (subst (In x) h.all i))

  pub rest_in : (x : Cell) → In x rest → In x cells
  rest_in x i = subst (In x) (sym h.all) (in_around h.pre f h.post x (subst (In x) h.others i))

  pub taken_filter : (test : Cell → Bool) → test f ≡ false → filter test cells ≡ filter test rest
  taken_filter test e = ap (filter test) h.all ∙ filter_around test h.pre f h.post e ∙ ap (filter test) (sym h.others)

  -- its instance comes before the others
  pub taken_instances : instances cells ≡ frame f.name f.kind_name ∷ instances rest
  taken_instances =
      ap instances h.all ∙ instances-append h.pre (f ∷ h.post) ∙ (λ i. h.none i ++ (listed (instance_of f (h.kind i)) ++ instances h.post)) ∙ ap (λ z. frame f.name f.kind_name ∷ z) (sym rests)
    where
      rests : instances rest ≡ instances h.post
      rests = ap instances h.others ∙ instances-append h.pre h.post ∙ ap (λ z. z ++ instances h.post) h.none
