-- Every driver keeps both orders of knowledge, over time too, and speaks of the bits that it reads alone.
use Rattle.std.proofs.Common.{◌≡◌, ℕ, Bool, true, false, List, [], ◌∷◌, refl, sym, subst, inl, inr}
use Rattle.std.specs.Prelude.{slice_index_or}
use Rattle.rtl_bits.specs.declared.bit.Bit.{Bit}
use Rattle.rtl_bits.specs.declared.bit.Bit.TheVariants.{X}
use Rattle.cell_types.specs.declared.kind.CellKind.{CellKind}
use Rattle.cell_types.specs.declared.kind.CellKind.TheVariants as Cell
use Rattle.cell_types.specs.declared.level.Level.{Level}
use Rattle.cell_types.specs.declared.level.Level.TheVariants.{Low, High}
use Rattle.cell_types.specs.declared.shape.Shape.{Shape}
use Rattle.cell_word.specs.Values.{InputsBelow}
use Rattle.cell_gate.specs.Control.{active_of, was_of}
use Rattle.cell_gate.specs.Storage.{PinsBelow}
use Rattle.rtl_ir.specs.Flat.Place.{Place}
use Rattle.rtl_ir.specs.Flat.Pick.{Pick, pick_points}
use Rattle.rtl_ir.specs.Flat.Point.{Point, At}
use Rattle.rtl_ir.specs.Flat.Driver.{StorePoints, Driver, Nothing, Given, Joined, Worked, Stored, Decided, Held, Raced, Remembered, Fetched, Driven}
use Rattle.rtl_ir.specs.Flat.Reads.{store_list, read_points, reads}
use Rattle.net_model.specs.declared.order.Order.{Order}
use Rattle.net_model.specs.declared.order.Order.TheVariants.{Together, Released}
use Rattle.net_model.specs.Lists.{In}
use Rattle.net_model.specs.Order.{Manner}
use Rattle.net_model.specs.Settle.{Pointwise, KeepsOrder}
use Rattle.net_model.specs.Run.{Time, Start, Step, TimeBelow}
use Rattle.net_model.specs.Valuation.{Valuation, read}
use Rattle.net_model.specs.Value.{worked_of, pins_of, edge_at, level_bit, raced_in, value_of, meaning, meanings}
use Rattle.net_model.proofs.Members.{In-mapped}
use Rattle.net_model.proofs.Orders.{Kept}
use Rattle.net_model.proofs.Reading.{BelowOn as BelowAt, PointsOn, points_on, on_left, on_right, word_on, words_on, at_kept}
use Rattle.net_model.proofs.Choosing.{picked_kept, owned_kept, holds_kept, held_kept}
use Rattle.net_model.proofs.Racing.{raced_kept}
use Rattle.net_model.proofs.Writing.{pick_kept, ports_kept, fetched_kept}
use Rattle.net_model.proofs.Running.{AlwaysMonotone}

module _ (order : Bit → Bit → Type 0) (k : Kept order) where
  -- two valuations stand in the order at these bits
  abbrev pub BelowOn : List Place → Valuation → Valuation → Type 0
  BelowOn = BelowAt order k

  -- the same step of two runs, where the valuations before stand in the order at these bits
  abbrev pub TimeOn : List Place → Time Place → Time Place → Type 0
  TimeOn qs Start Start = Unit {0}
  TimeOn qs (Step v x f) (Step w y g) = BelowAt order k qs v w × (x ≡ y) × (f ≡ g)
  TimeOn qs Start (Step w y g) = ⊥
  TimeOn qs (Step v x f) Start = ⊥

  worked_kept : (kind : CellKind) (shape : Shape) (at : ℕ) (low high : List (List Bit)) → InputsBelow order low high → order (worked_of kind shape low at) (worked_of kind shape high at)
  worked_kept (Cell.Gate gate) shape at low high h =
      k.gates gate _ _ _ _ _ _ (at_kept order k _ _ (h 0) 0 X) (at_kept order k _ _ (h 1) 0 X) (at_kept order k _ _ (h 2) 0 X)
  worked_kept kind shape at low high h = at_kept order k _ _ (k.words shape low high h) at X

  pins_on : (v w : Valuation) (s : StorePoints) (own : Place) → PointsOn order k (At own ∷ store_list s) v w → PinsBelow order (pins_of v s own) (pins_of w s own)
  pins_on v w s own h = record {
    clk = at s.clk (inl refl);
    en = at s.en (inr (inl refl));
    arst = at s.arst (inr (inr (inl refl)));
    srst = at s.srst (inr (inr (inr (inl refl))));
    aload = at s.aload (inr (inr (inr (inr (inl refl)))));
    ad = at s.ad (inr (inr (inr (inr (inr (inl refl))))));
    set = at s.set (inr (inr (inr (inr (inr (inr (inl refl)))))));
    clr = at s.clr (inr (inr (inr (inr (inr (inr (inr (inl refl))))))));
    d = at s.d (inr (inr (inr (inr (inr (inr (inr (inr (inl refl)))))))));
    q = h (At own) (inl refl);
  }
    where
      at : (p : Point) → In p (store_list s) → order (read v p) (read w p)
      at p i = h p (inr i)

  active_kept : (level : Level) (a b : Bit) → order a b → order (active_of level a) (active_of level b)
  active_kept High a b h = k.bits.seen a b h
  active_kept Low a b h = k.bits.not a b h

  was_kept : (first : Bool) (a b : Bit) → order a b → order (was_of first a) (was_of first b)
  was_kept true a b h = k.bits.self X
  was_kept false a b h = h

  edge_kept : (a b v w : Valuation) (first : Bool) (s : Point) (level : Level) → order (read a s) (read b s) → order (read v s) (read w s) → order (edge_at a v first s level) (edge_at b w first s level)
  edge_kept a b v w first s level h i =
      k.bits.and _ _ _ _ (k.bits.not _ _ (active_kept level _ _ (was_kept first _ _ h))) (active_kept level _ _ i)

  -- a bit of a process with two edges keeps the order, in either order of time
  raced_on : (o : Order) (f : Bool) (a b v w : Valuation) (clock : Point) (clock_level : Level) (reset : Point) (reset_level : Level) (tree : Pick) (own : Place) → order (read a clock) (read b clock) → order (read v clock) (read w clock) → order (read a reset) (read b reset) → order (read v reset) (read w reset) → PointsOn order k (pick_points tree) a b → order (a own) (b own) → order (raced_in o a v f clock clock_level reset reset_level tree own) (raced_in o b w f clock clock_level reset reset_level tree own)
  raced_on Together f a b v w clock clock_level reset reset_level tree own c c' was is before old =
      raced_kept order k _ _ _ _ _ _ _ _ _ _ _ _
      (edge_kept a b v w f clock clock_level c c')
      (edge_kept a b v w f reset reset_level was is)
      (picked_kept order k a b _ _ (was_kept f _ _ was) tree before)
      (picked_kept order k a b _ _ is tree before)
      (picked_kept order k a b _ _ (k.bits.self (level_bit reset_level)) tree before)
      old
  raced_on Released f a b v w clock clock_level reset reset_level tree own c c' was is before old =
      let clocked = pick_kept order k _ _ _ _ _ _ (edge_kept a b v w f clock clock_level c c') (picked_kept order k a b _ _ (was_kept f _ _ was) tree before) old in
      pick_kept order k _ _ _ _ _ _
      (active_kept reset_level _ _ is)
      (owned_kept order k own a b _ _ clocked (level_bit reset_level) tree before)
      clocked

  -- a driver keeps the order in the points that it reads, in a step of two runs with the same inputs
  step_on : (d : Driver) (x : List Bit) (f : Manner) (a b : Valuation) → PointsOn order k (read_points d) a b → (v w : Valuation) → PointsOn order k (read_points d) v w → order (value_of d (Step a x f) v) (value_of d (Step b x f) w)
  step_on Nothing x f a b e v w h = k.bits.self X
  step_on (Given at) x f a b e v w h = k.bits.self (slice_index_or x at X)
  step_on (Joined from) x f a b e v w h = k.passed _ _ (h from (inl refl))
  step_on (Worked shape inputs at) x f a b e v w h = worked_kept shape.kind shape at _ _ (words_on order k v w inputs h)
  step_on (Stored start shape at pins own) x f a b e v w h =
      k.storage shape at f _ _ _ _ (pins_on a b pins own e) (pins_on v w pins own h)
  step_on (Decided tree) x f a b e v w h = picked_kept order k v w X X (k.bits.self X) tree h
  step_on (Held start value tree own) x f a b e v w h =
      held_kept order k _ _ _ _ _ _ (holds_kept order k own v w tree (λ s i. h s (inr (inr i)))) (e (At own) (inl refl)) (h value (inr (inl refl)))
  step_on (Raced start clock clock_level reset reset_level tree own) x f a b e v w h =
      raced_on f.order f.first a b v w clock clock_level reset reset_level tree own
      (e clock (inr (inl refl))) (h clock (inr (inl refl)))
      (e reset (inr (inr (inl refl)))) (h reset (inr (inr (inl refl))))
      (λ s i. e s (inr (inr (inr i)))) (e (At own) (inl refl))
  step_on (Remembered start clock level address ports own) x f a b e v w h =
      let old = e (At own) (inl refl) in
      pick_kept order k _ _ _ _ _ _
      (edge_kept a b v w f.first clock level (e clock (inr (inl refl))) (h clock (inr (inl refl))))
      (ports_kept order k a b address ports [] [] _ _ tt (λ s i. e s (inr (inr i))) old) old
  step_on (Fetched address first words) x f a b e v w h =
      fetched_kept order k _ _ first _ _ (word_on order k v w address (on_left order k v w address words h)) (word_on order k v w words (on_right order k v w address words h))

  start_on : (d : Driver) (v w : Valuation) → PointsOn order k (read_points d) v w → order (value_of d Start v) (value_of d Start w)
  start_on Nothing v w h = k.bits.self X
  start_on (Given at) v w h = k.bits.self X
  start_on (Joined from) v w h = k.passed _ _ (h from (inl refl))
  start_on (Worked shape inputs at) v w h = worked_kept shape.kind shape at _ _ (words_on order k v w inputs h)
  start_on (Stored start shape at pins own) v w h = k.bits.self start
  start_on (Decided tree) v w h = picked_kept order k v w X X (k.bits.self X) tree h
  start_on (Held start value tree own) v w h = k.bits.self start
  start_on (Raced start clock clock_level reset reset_level tree own) v w h = k.bits.self start
  start_on (Remembered start clock level address ports own) v w h = k.bits.self start
  start_on (Fetched address first words) v w h =
      fetched_kept order k _ _ first _ _ (word_on order k v w address (on_left order k v w address words h)) (word_on order k v w words (on_right order k v w address words h))

  -- a driver keeps the order in the bits that it reads, before and now
  pub value_on : (d : Driver) (t u : Time Place) → TimeOn (reads d) t u → (v w : Valuation) → BelowOn (reads d) v w → order (value_of d t v) (value_of d u w)
  value_on d Start Start e v w h = start_on d v w (points_on order k v w (read_points d) h)
  value_on d (Step a x f) (Step b y g) e v w h =
      subst (λ z. order (value_of d (Step a x f) v) (value_of d (Step b y z) w)) e.2 (subst (λ z. order (value_of d (Step a x f) v) (value_of d (Step b z f) w)) e.1 (step_on d x f a b (points_on order k a b (read_points d) e.0) v w (points_on order k v w (read_points d) h)))
  value_on d Start (Step b y g) e v w h = absurd e
  value_on d (Step a x f) Start e v w h = absurd e

  pub time_on : (qs : List Place) (t u : Time Place) → TimeBelow order t u → TimeOn qs t u
  time_on qs Start Start e = tt
  time_on qs (Step v x f) (Step w y g) e = (λ q i. e.0 q, e.1, e.2)
  time_on qs Start (Step w y g) e = absurd e
  time_on qs (Step v x f) Start e = absurd e

  -- every driver keeps the order
  pub value_kept : (d : Driver) (t u : Time Place) → TimeBelow order t u → (v w : Valuation) → Pointwise order v w → order (value_of d t v) (value_of d u w)
  value_kept d t u e v w h = value_on d t u (time_on (reads d) t u e) v w (λ q i. h q)

  pub time_refl : (t : Time Place) → TimeBelow order t t
  time_refl Start = tt
  time_refl (Step v x f) = (λ b. k.bits.self (v b), refl, refl)

  pub meanings_kept : (ds : List Driven) → AlwaysMonotone order (meanings ds)
  meanings_kept ds d i t =
      let m = In-mapped meaning d ds i in
      subst (λ z. KeepsOrder order (z.value t)) (sym m.2) (λ v w h. value_kept m.0.driver t t (time_refl t) v w h)
