-- What is met of what is built: the rows of its cells and of its connections.
use Rattle.std.proofs.Common.{List, [], ◌∷◌, ◌++◌, sym, ap, subst}
use Rattle.rtl_ir.specs.Build.{Building}
use Rattle.rtl_ir.specs.Flat.Driver.{Driven}
use Rattle.rtl_ir.specs.Flat.Link.{joins, link_rows}
use Rattle.rtl_ir.specs.Flat.Point.{points}
use Rattle.rtl_ir.specs.declared.module.Link.{Link}
use Rattle.rtl_ir.specs.declared.module.Module.{Module}
use Rattle.net_model.proofs.Members.{In-left, In-right}
use Rattle.net_model.specs.Lists.{In}
use Rattle.net_model.specs.Refine.{IsMet}
use Rattle.pass_laws.proofs.Rewriting.{links-append}
use Rattle.build_laws.proofs.Growing.{Grows, met_before}
use Rattle.build_laws.proofs.Moments.{AreMet, Moment}

module _ (m : Moment) where
  -- the rows of connections are met
  abbrev pub LinksMet : List Link → Type 0
  LinksMet links = (d : Driven) → In d (link_rows m.path m.wires links) → IsMet d m.time m.has

  -- what is met of a building
  pub record BodyMet (b : Building) : Type 0 where
    pub cells : AreMet m b.body.cells
    pub links : LinksMet b.body.links

  pub links_before : (xs ys : List Link) → LinksMet (xs ++ ys) → LinksMet xs
  links_before xs ys h d i =
      h d (subst (In d) (sym (links-append m.path m.wires xs ys)) (In-left d (link_rows m.path m.wires xs) (link_rows m.path m.wires ys) i))

  pub links_last : (xs : List Link) (l : Link) → LinksMet (xs ++ l ∷ []) → (d : Driven) → In d (joins (points m.path m.wires l.left) (points m.path m.wires l.right)) → IsMet d m.time m.has
  links_last xs l h d i =
      h d (subst (In d) (sym (links-append m.path m.wires xs (l ∷ []))) (In-right d (link_rows m.path m.wires xs) _ (In-left d (joins (points m.path m.wires l.left) (points m.path m.wires l.right)) [] i)))

  pub body_before : (a b : Building) → Grows a b → BodyMet b → BodyMet a
  body_before a b g h = record {
    cells = met_before m a b g h.cells;
    links = links_before a.body.links g.links (subst LinksMet (ap (λ (n : Module). n.links) g.body) h.links);
  }
