-- Where the rows of one module in a design, once their bits move, are rows of another one in another design, no known output bit
-- is lost.
use Rattle.std.proofs.Common.{◌≡◌, Bool, List, [], ◌∷◌, ◌++◌, map, ⊎_elim, sym, ◌∙◌, subst}
use Rattle.rtl_bits.specs.declared.bit.Bit.{Bit}
use Rattle.rtl_bits.specs.Knowledge.{Below, AreBelow, FlatBelow}
use Rattle.rtl_ir.specs.declared.module.Design.{Design}
use Rattle.rtl_ir.specs.declared.module.Module.{Module}
use Rattle.rtl_ir.specs.Flat.Driver.{Driven}
use Rattle.rtl_ir.specs.Flat.Place.{Place, place_same}
use Rattle.rtl_ir.specs.Flat.Tree.{driven_rows, flat, output_places, places, root, tree_points, undriven, undriven_rows}
use Rattle.net_model.specs.declared.order.Order.{Order}
use Rattle.net_model.specs.Lists.{In, Distinct}
use Rattle.net_model.specs.Settle.{applied}
use Rattle.net_model.specs.Run.{Time, Start, Step, TimeBelow, TraceBelow, row_at, rows_at, run}
use Rattle.net_model.specs.Valuation.{Valuation}
use Rattle.net_model.specs.Value.{meaning, meanings, value_of}
use Rattle.net_model.specs.Refine.{places_of, run_of}
use Rattle.net_model.proofs.Members.{In-cases, In-map, In-mapped, map-append, map-map}
use Rattle.net_model.proofs.Settling.{applied_keeps}
use Rattle.net_model.proofs.Running.{AlwaysMonotone, SameTime, Solves, run_below}
use Rattle.net_model.proofs.Places.{place_same-same}
use Rattle.net_model.proofs.Orders.{below as below_order, flat as flat_order}
use Rattle.net_model.proofs.Drivers.{meanings_kept, value_kept}
use Rattle.flat_pass.proofs.Moving.{IsFair, Move, back, moved, time_back, value_back}

-- a row, once its bits move, is one of these
pub record GoesInto (go : Move) (es : List Driven) (x : Driven) : Type 0 where
  pub fair : IsFair go x.driver
  pub into : In (moved go x) es

module _ (go : Move) (d e : Design) (m n : Module) (rows : (x : Driven) → In x (driven_rows d m) → GoesInto go (driven_rows e n) x) (outs : map go (output_places m) ≡ output_places n) (distinct : Distinct (places_of (driven_rows e n))) where
  -- each bit has at most what it has where it went
  Behind : Valuation → Valuation → Type 0
  Behind v w = (q : Place) → Below (v q) (w (go q))

  Any : Bool → Valuation → Type 0
  Any first w = Unit {0}

  before : (t u : Time Place) → SameTime Behind Any t u → TimeBelow Below t (time_back go u)
  unfolding Behind
  before Start Start h = tt
  before (Step v x f) (Step w y g) h = (h.0, h.2, h.3)
  before Start (Step w y g) h = absurd h
  before (Step v x f) Start h = absurd h

  row_behind : (t u : Time Place) → SameTime Behind Any t u → (v w : Valuation) → Solves (meanings (driven_rows e n)) u w → Behind v w → (x : Driven) → In x (flat d m) → Below (value_of x.driver t v) (w (go x.place))
  unfolding Behind
  row_behind t u st v w s h x i =
      ⊎_elim
      (λ l. let k = rows x l in
      let low : Below (value_of x.driver t v) (value_of x.driver (time_back go u) (back go w)) = value_kept Below below_order x.driver t (time_back go u) (before t u st) v (back go w) h in
      let same : value_of x.driver (time_back go u) (back go w) ≡ w (go x.place) = sym (value_back go x.driver k.fair u w) ∙ s.at (meaning (moved go x)) (In-map meaning (moved go x) (driven_rows e n) k.into) in
      subst (Below (value_of x.driver t v)) same low)
      (λ l. let y = In-mapped undriven x _ l in
      subst (λ z. Below (value_of z.driver t v) (w (go z.place))) (sym y.2) tt)
      (In-cases x (driven_rows d m) (undriven_rows (driven_rows d m) (places (tree_points d (root m) m))) i)

  kept : (t u : Time Place) → SameTime Behind Any t u → (v w : Valuation) → Solves (meanings (driven_rows e n)) u w → Behind v w → Behind (applied place_same (rows_at t (meanings (flat d m))) v) w
  unfolding Behind
  kept t u st v w s h =
      applied_keeps place_same place_same-same (rows_at t (meanings (flat d m))) v (λ q z. Below z (w (go q))) (λ q. tt) (λ q i. let k = In-mapped (λ z. row_at t (meaning z)) q (flat d m) (subst (In q) (map-map meaning (row_at t) (flat d m)) i) in subst (λ z. Below (z.value v) (w (go z.bit))) (sym k.2) (row_behind t u st v w s h k.0 k.1))

  seen_all : (os : List Place) (v w : Valuation) → Behind v w → AreBelow (map v os) (map w (map go os))
  unfolding Behind
  seen_all [] v w h = tt
  seen_all (o ∷ os) v w h = (h o, seen_all os v w h)

  seen : (v w : Valuation) → Behind v w → AreBelow (map v (output_places m)) (map w (output_places n))
  seen v w h = subst (λ z. AreBelow (map v (output_places m)) (map w z)) outs (seen_all (output_places m) v w h)

  -- the trace of the first is below that of the second
  pub moved_run : (order : Order) (stimulus : List (List Bit)) → TraceBelow (run_of order d m stimulus) (run_of order e n stimulus)
  unfolding Behind Any
  moved_run order stimulus =
      let more : List Driven = undriven_rows (driven_rows e n) (places (tree_points e (root n) n)) in
      let parts : meanings (flat e n) ≡ meanings (driven_rows e n) ++ meanings more = map-append meaning (driven_rows e n) more in
      let mono : AlwaysMonotone FlatBelow (meanings (driven_rows e n) ++ meanings more) = subst (λ z. AlwaysMonotone FlatBelow z) parts (meanings_kept FlatBelow flat_order (flat e n)) in
      let once : Distinct (map (λ z. z.bit) (meanings (driven_rows e n))) = subst Distinct (sym (map-map meaning (λ z. z.bit) (driven_rows e n))) distinct in
      let below : TraceBelow (run_of order d m stimulus) (run place_same (meanings (driven_rows e n) ++ meanings more) (output_places n) order stimulus) = run_below place_same place_same place_same-same Behind Any (meanings (flat d m)) (meanings (driven_rows e n)) (meanings more) (output_places m) (output_places n) mono once (λ w s. tt) (λ v x f w q s. tt) (λ w q. tt) kept seen order stimulus in
      subst (λ z. TraceBelow (run_of order d m stimulus) (run place_same z (output_places n) order stimulus)) (sym parts) below
