-- The turns of the multiplexers, one after another.
use Rattle.std.proofs.Common.{◌≡◌, arith, List, [], ◌∷◌, ◌++◌, length, map, Option, Some, refl, sym, ◌∙◌, ap, subst}
use Rattle.std.proofs.lemmas.List.{append-nil, append_assoc}
use Rattle.rtl_ir.specs.Types.{Ports}
use Rattle.rtl_ir.specs.declared.cell.Cell.{Cell}
use Rattle.rtl_ir.specs.declared.module.Link.{Link}
use Rattle.opt_expr.specs.Sweep.{Progress}
use Rattle.opt_more.specs.Ends.{AreArms}
use Rattle.opt_more.specs.Muxtree.{muxed, muxtree_visit, standing_now}
use Rattle.opt_more.specs.Sweep.{swept_by}
use Rattle.opt_more.specs.declared.ends.Arms.{Arms}

none_of : (rest : List Cell) → length rest ≡ 0 → rest ≡ []
none_of [] e = refl
none_of (c ∷ rest) e = absurd (omega (arith, e))

module _ (ports : Ports) (cells : List Cell) (links : List Link) where
  -- no cell is left
  pub all_visited : (done : List (Option Cell)) (rest : List Cell) (all : Progress) → length rest ≡ 0 → swept_by (muxtree_visit ports cells) done rest links ≡ all → (record { cells = done; links = links }) ≡ all
  all_visited done rest all none so = subst (λ z. swept_by (muxtree_visit ports cells) done z links ≡ all) (none_of rest none) so

  -- a cell's turn
  module _ (done done' slice : List (Option Cell)) (old rest : List Cell) (c after : Cell) (popped : old ≡ c ∷ rest) (pushed : done' ≡ done ++ Some after ∷ []) (at : slice ≡ done) where
    pub arms_before : (arms : Arms) → AreArms arms cells (done ++ map Some old) links → AreArms arms cells (standing_now slice c rest) links
    arms_before arms h =
        subst (λ z. AreArms arms cells (standing_now z c rest) links) (sym at)
        (subst (λ z. AreArms arms cells (done ++ map Some z) links) popped h)

    pub arms_behind : (arms : Arms) → AreArms arms cells (standing_now slice after rest) links → AreArms arms cells (done' ++ map Some rest) links
    arms_behind arms h =
        subst (λ z. AreArms arms cells z links) (sym (append_assoc done (Some after ∷ []) (map Some rest)) ∙ sym (λ i. pushed i ++ map Some rest))
        (subst (λ z. AreArms arms cells (standing_now z after rest) links) at h)

    pub visited : (all : Progress) → after ≡ muxed ports cells slice rest links c → swept_by (muxtree_visit ports cells) done old links ≡ all → swept_by (muxtree_visit ports cells) done' rest links ≡ all
    visited all is so =
        let now : after ≡ muxed ports cells done rest links c = is ∙ ap (λ z. muxed ports cells z rest links c) at in
        (λ i. swept_by (muxtree_visit ports cells) (pushed i) rest links)
        ∙ (λ i. swept_by (muxtree_visit ports cells) (done ++ Some (now i) ∷ []) rest links)
        ∙ ap (swept_by (muxtree_visit ports cells) (done ++ Some (muxed ports cells done rest links c) ∷ []) rest) (sym (append-nil links))
        ∙ ap (λ z. swept_by (muxtree_visit ports cells) done z links) (sym popped)
        ∙ so
