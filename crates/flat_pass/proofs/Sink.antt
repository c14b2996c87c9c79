-- The move that takes the bits of one instance, at one path, into its module, and leaves all others.
use Rattle.std.proofs.Common.{◌≡◌, true, false, cond, ◌&&◌, List, [], ◌∷◌, length, map, refl, sym, ◌∙◌, ap, arith}
use Rattle.std.specs.Prelude.{drop}
use Rattle.std.proofs.lemmas.Bool.{true≢false}
use Rattle.rtl_ir.specs.declared.cell.Cell.{Cell}
use Rattle.rtl_ir.specs.declared.module.Module.{Module}
use Rattle.rtl_ir.specs.Build.{Building}
use Rattle.rtl_ir.specs.Flat.Place.{Frame, frame_same, Path, Place, Spot}
use Rattle.net_model.specs.Lists.{Distinct}
use Rattle.flat_pass.proofs.Moving.{Move}
use Rattle.flat_pass.proofs.Often.{path_is, path_no, path_yes}
use Rattle.flat_pass.proofs.Paths.{Melt, copied_frame, copied_spot}
use Rattle.flat_pass.proofs.Partners.{bytes_same, frame_names, store_name}
use Rattle.flat_pass.proofs.Taking.{Split}
use Rattle.flat_pass.proofs.Melting.{spot_at}
use Rattle.flat_pass.proofs.Melted.{HasNames, IsPlain, Sinks, after, melt}

pub longer : (f : Frame) (p : Path) → f ∷ p ≡ p → ⊥
longer f p e = let n : length (f ∷ p) ≡ length p = ap length e in absurd (omega (arith, n))

pub longer_two : (f g : Frame) (p : Path) → f ∷ g ∷ p ≡ p → ⊥
longer_two f g p e = let n : length (f ∷ g ∷ p) ≡ length p = ap length e in absurd (omega (arith, n))

head_or : Frame → Path → Frame
head_or f [] = f
head_or f (g ∷ p) = g

pub same_head : (f g : Frame) (p q : Path) → f ∷ p ≡ g ∷ q → f ≡ g
unfolding head_or
same_head f g p q e = ap (head_or f) e

pub same_tail : (f g : Frame) (p q : Path) → f ∷ p ≡ g ∷ q → p ≡ q
same_tail f g p q e = ap (drop 1) e

frame_yes : (f : Frame) → frame_same f f ≡ true
frame_yes f = λ i. bytes_same f.name i && bytes_same f.module_name i

module _ (g : Melt) (p : Path) where
  -- the bits of instances in the one that sinks go with it
  abbrev above : Path → Spot → Place
  above [] s = spot_at [] s
  above (x ∷ r) s = spot_at (cond (path_is r (g.instance ∷ p)) (copied_frame g x ∷ p) (x ∷ r)) s

  abbrev pub sink : Move
  sink q = cond (path_is q.path (g.instance ∷ p)) (spot_at p (copied_spot g q.spot)) (above q.path q.spot)

  above_stays : (r : Path) (s : Spot) → ((x : Frame) → r ≡ x ∷ g.instance ∷ p → ⊥) → above r s ≡ spot_at r s
  above_stays [] s h = refl
  above_stays (x ∷ r) s h =
      ap (λ t. spot_at (cond t (copied_frame g x ∷ p) (x ∷ r)) s) (path_no r (g.instance ∷ p) (λ e. h x (ap (λ z. x ∷ z) e)))

  -- what is not in the instance stays
  pub sink_stays : (r : Path) (s : Spot) → (r ≡ g.instance ∷ p → ⊥) → ((x : Frame) → r ≡ x ∷ g.instance ∷ p → ⊥) → sink (spot_at r s) ≡ spot_at r s
  sink_stays r s n h =
      ap (λ t. cond t (spot_at p (copied_spot g s)) (above r s)) (path_no r (g.instance ∷ p) n) ∙ above_stays r s h

  pub sink_own : (s : Spot) → sink (spot_at p s) ≡ spot_at p s
  sink_own s = sink_stays p s (λ e. longer g.instance p (sym e)) (λ x e. longer_two x g.instance p (sym e))

  pub sink_other : (f : Frame) → frame_same f g.instance ≡ false → (s : Spot) → sink (spot_at (f ∷ p) s) ≡ spot_at (f ∷ p) s
  sink_other f e s =
      sink_stays (f ∷ p) s (λ q. true≢false (sym (ap (λ z. frame_same z g.instance) (same_head f g.instance p p q) ∙ frame_yes g.instance) ∙ e)) (λ x q. longer g.instance p (sym (same_tail f x p (g.instance ∷ p) q)))

  pub sink_child : (s : Spot) → sink (spot_at (g.instance ∷ p) s) ≡ spot_at p (copied_spot g s)
  sink_child s =
      ap (λ t. cond t (spot_at p (copied_spot g s)) (above (g.instance ∷ p) s)) (path_yes (g.instance ∷ p))

  pub sink_deeper : (f : Frame) (s : Spot) → sink (spot_at (f ∷ g.instance ∷ p) s) ≡ spot_at (copied_frame g f ∷ p) s
  sink_deeper f s =
      ap (λ t. cond t (spot_at p (copied_spot g s)) (above (f ∷ g.instance ∷ p) s)) (path_no (f ∷ g.instance ∷ p) (g.instance ∷ p) (λ e. longer g.instance p (same_tail f g.instance (g.instance ∷ p) p e)))
      ∙ ap (λ t. spot_at (cond t (copied_frame g f ∷ p) (f ∷ g.instance ∷ p)) s) (path_yes (g.instance ∷ p))

pub sink_sinks : (bb : Building) (f : Cell) (rest : List Cell) (n : Module) (taken : Split f rest bb.body.cells) (body : IsPlain bb.body) (child : IsPlain n) (names : HasNames n) (own_names : Distinct (map store_name (after bb f rest n).memories)) (body_frames : Distinct (frame_names bb.body.cells)) (apart : f.kind_name ≡ bb.body.id → ⊥) (p : Path) → Sinks bb f rest n taken body child names own_names body_frames apart (sink (melt bb f rest n) p) p p
sink_sinks bb f rest n taken body child names own_names body_frames apart p = record {
  own = sink_own (melt bb f rest n) p;
  other = sink_other (melt bb f rest n) p;
  inside = sink_child (melt bb f rest n) p;
  deeper = sink_deeper (melt bb f rest n) p;
}
