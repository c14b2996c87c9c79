-- Evaluating parts until none is to be evaluated gives the least values that meet them.
use Rattle.std.proofs.Common.{◌≡◌, ◌<◌, ℕ, Bool, true, false, List, length, get_or, replicate, ⊎_elim, refl, sym, ◌∙◌, ap, subst, arith}
use Rattle.std.specs.Prelude.{Some, nat_eq, nat_lt, slice_get}
use Rattle.std.proofs.lemmas.Bool.{true≢false, eq-eqb, eqb-true, ltb-false, ltb-true}
use Rattle.std.proofs.lemmas.List.{get_or_past, length-set}
use Rattle.std.proofs.lemmas.Option.{slice_get_within}
use Rattle.rtl_bits.specs.declared.bit.Bit.{Bit}
use Rattle.rtl_bits.specs.declared.bit.Bit.TheVariants.{S0, S1, X, Z, M, Dash}
use Rattle.rtl_bits.specs.Knowledge.{FlatBelow}
use Rattle.rtl_bits.proofs.Orders.{FlatBelow_trans}
use Rattle.rtl_ir.specs.Flat.Driver.{Driven}
use Rattle.rtl_ir.specs.Flat.Place.{Place}
use Rattle.net_model.specs.Lists.{In}
use Rattle.net_model.specs.Run.{Time}
use Rattle.net_model.specs.Settle.{Pointwise}
use Rattle.net_model.specs.Valuation.{Valuation}
use Rattle.net_model.specs.Value.{value_of}
use Rattle.flat_net.specs.declared.net.Part.{Part}
use Rattle.flat_net.specs.declared.net.Point.{Point}
use Rattle.flat_net.specs.declared.net.Point.TheVariants.{Constant, At}
use Rattle.flat_net.specs.Parts.{part_rows, parts_rows}
use Rattle.flat_net.specs.Points.{place_at}
use Rattle.flat_net.specs.Within.{ArePartsWithin, IsPartWithin}
use Rattle.sim_eval.specs.declared.agenda.Agenda.{Agenda}
use Rattle.sim_eval.specs.declared.moment.Moment.{Moment}
use Rattle.sim_eval.specs.declared.readers.Readers.{Readers}
use Rattle.sim_eval.specs.Advance.{Advances, AreLeast, AreMet}
use Rattle.sim_eval.specs.Agenda.{IsEmptied, IsSettling, IsSettlingBut, IsUnmarked, IsWhole, TakesOff, Tells, has_mark, is_marked, is_told}
use Rattle.sim_eval.specs.Drives.{driven}
use Rattle.sim_eval.specs.Moment.{IsBoard, time_of}
use Rattle.sim_eval.specs.Numbers.{is_x, number_read}
use Rattle.sim_eval.specs.Reads.{AreRead, present_points, readers_at}
use Rattle.sim_eval.specs.Shown.{shown}
use Rattle.sim_eval.proofs.AddingReads.{among_in}
use Rattle.sim_eval.proofs.Agreeing.{In-flat_map, In-flat_mapped, all_in, part_agrees}
use Rattle.sim_eval.proofs.Driving.{driven_at}
use Rattle.sim_eval.proofs.Marking.{mark_cases}
use Rattle.sim_eval.proofs.Places.{in_at, place_of, same_at}
use Rattle.sim_eval.proofs.Tables.{found_at}
use Rattle.sim_eval.proofs.Taking.{known_same, under_unknown}

x_is : (b : Bit) → is_x b ≡ true → b ≡ X
x_is X e = refl
x_is S0 e = absurd (true≢false (sym e))
x_is S1 e = absurd (true≢false (sym e))
x_is Z e = absurd (true≢false (sym e))
x_is M e = absurd (true≢false (sym e))
x_is Dash e = absurd (true≢false (sym e))

-- what stands below x is x
below_x : (a c : Bit) → FlatBelow a c → is_x c ≡ true → a ≡ c
below_x a c h e = by (is_x a) refl
  where
    by : (t : Bool) → is_x a ≡ t → a ≡ c
    by true f = x_is a f ∙ sym (x_is c e)
    by false f = sym (known_same a c f h)

not_marked : (a b : Bool) → (a ≡ true → b ≡ true) → b ≡ false → a ≡ false
not_marked true b h e = absurd (true≢false (sym (h refl) ∙ e))
not_marked false b h e = refl

module _ (ps : List Place) (t : Time Place) (parts : List Part) where
  -- all parts are to be evaluated where no bit has a value
  pub settling_whole : (a : Agenda) (now : List Bit) (count : ℕ) → IsWhole a (length parts) (length now) → now ≡ replicate count X → IsSettling ps t parts a now
  settling_whole a now count h e = record {
    marks = h.marks;
    bits = h.told;
    under = under_unknown ps t (parts_rows ps parts) now count e;
    met = λ at p found unmarked other w m. absurd (true≢false (sym (h.all at (slice_get_within parts at p found)) ∙ unmarked));
    told = λ n f. absurd (true≢false (sym f ∙ h.none n));
    listed = h.listed;
  }

  -- where no part is to be evaluated, the values are the least that meet them
  pub settling_least : (a : Agenda) (now : List Bit) → IsSettling ps t parts a now → IsUnmarked a → AreLeast ps t (parts_rows ps parts) now
  settling_least a now h none = record {
    under = h.under;
    met = λ w m r i.
        let k = In-flat_mapped (part_rows ps) r parts i in
        let at = place_of parts k.0 k.1 in
        h.met at.0 k.0 at.1 (none at.0) (λ z. z) w m r k.2;
  }

  -- the list is empty
  pub settling_emptied : (a b : Agenda) (now : List Bit) → IsSettling ps t parts a now → IsEmptied a b → IsSettling ps t parts b now × IsUnmarked b
  settling_emptied a b now h k =
      let none = k.none h.listed in (
        record {
          marks = ap length k.marks ∙ h.marks;
          bits = ap length k.told ∙ h.bits;
          under = h.under;
          met = λ at p found unmarked other w m. h.met at p found (sym (ap (λ z. has_mark z at) k.marks) ∙ unmarked) (λ z. z) w m;
          told = λ n e. h.told n (sym (ap (λ z. has_mark z n) k.told) ∙ e);
          listed = λ at e. absurd (true≢false (sym e ∙ none at));
        },
        none,
      )

  -- a part is taken off
  pub settling_taken : (a b : Agenda) (now : List Bit) (place : ℕ) → IsSettling ps t parts a now → TakesOff a b place → IsSettlingBut ps t parts b now (λ at. at ≡ place)
  settling_taken a b now place h k = record {
    marks = ap length k.marks ∙ (length-set a.marks.items place false ∙ h.marks);
    bits = ap length k.told ∙ h.bits;
    under = h.under;
    met = λ at p found unmarked other w m. h.met at p found (was at other unmarked) (λ z. z) w m;
    told = λ n e. h.told n (sym (ap (λ z. has_mark z n) k.told) ∙ e);
    listed = k.listed h.listed;
  }
    where
      was : (at : ℕ) → (at ≡ place → ⊥) → is_marked b at ≡ false → is_marked a at ≡ false
      was at other unmarked = ⊎_elim
          (λ c. absurd (other c.0))
          (λ c. sym c.1 ∙ (sym (ap (λ z. has_mark z at) k.marks) ∙ unmarked))
          (mark_cases a.marks.items place at false k.within)

-- a part is evaluated
module _ (ps : List Place) (moment : Moment) (parts : List Part) (place : ℕ) (p : Part) (old new : List Bit) (was : IsBoard ps moment old) (is : IsBoard ps moment new)
    (within : ArePartsWithin (length ps) parts) (found : slice_get parts place ≡ Some p) where
  abbrev t : Time Place
  t = time_of ps moment

  own : (w : Valuation) → AreMet (parts_rows ps parts) t w → AreMet (part_rows ps p) t w
  own w m r i = m r (In-flat_map (part_rows ps) r p parts (in_at parts place p found) i)

  -- nothing changed
  pub settling_still : (a : Agenda) → IsSettlingBut ps t parts a old (λ at. at ≡ place) → Advances ps t (part_rows ps p) old new false → IsSettling ps t parts a new
  settling_still a h adv =
      let e = adv.still refl in
      subst (IsSettling ps t parts a) e (record {
        marks = h.marks;
        bits = h.bits;
        under = h.under;
        met = λ at q there unmarked other w m r i. by at q there unmarked w m r i (nat_eq at place) refl;
        told = h.told;
        listed = h.listed;
      })
    where
      by : (at : ℕ) (q : Part) → slice_get parts at ≡ Some q → is_marked a at ≡ false → (w : Valuation) → AreMet (parts_rows ps parts) t w → (r : Driven) → In r (part_rows ps q) → (s : Bool) → nat_eq at place ≡ s → FlatBelow (value_of r.driver t (shown ps old)) (shown ps old r.place)
      by at q there unmarked w m r i true s =
          let same : q ≡ p = same_at parts place q p (subst (λ z. slice_get parts z ≡ Some q) (eqb-true at place s) there) found in
          subst (λ z. FlatBelow (value_of r.driver t (shown ps old)) (shown ps z r.place)) (sym (adv.still refl)) (adv.reached w (own w m) (h.under w m) r (subst (λ z. In r (part_rows ps z)) same i))
      by at q there unmarked w m r i false s =
          h.met at q there unmarked (λ f. true≢false (sym (eq-eqb at place f) ∙ s)) w m r i

  -- a bit at a number keeps its value
  keeps : Pointwise FlatBelow (shown ps old) (shown ps new) → (n : ℕ) → n < length ps → FlatBelow (get_or old n X) (get_or new n X)
  keeps h n l =
      let a = found_at X ps old n was.apart was.now l in
      let b = found_at X ps new n is.apart is.now l in
      subst (λ z. FlatBelow z (get_or new n X)) a (subst (λ z. FlatBelow (shown ps old (place_at ps n)) z) b (h (place_at ps n)))

  valued : Pointwise FlatBelow (shown ps old) (shown ps new) → (n : ℕ) → is_x (get_or old n X) ≡ false → get_or old n X ≡ get_or new n X
  valued h n e = by (nat_lt n (length ps)) refl
    where
      by : (s : Bool) → nat_lt n (length ps) ≡ s → get_or old n X ≡ get_or new n X
      by true s = sym (known_same (get_or old n X) (get_or new n X) e (keeps h n (ltb-true n (length ps) s)))
      by false s = absurd (true≢false (ap is_x (sym (get_or_past old n X (let l = ltb-false n (length ps) s in let k = was.now in omega (arith, l, k)))) ∙ e))

  module _ (readers : Readers) (a b : Agenda) (changed : Bool) (read : AreRead readers parts (length old)) (h : IsSettlingBut ps t parts a old (λ at. at ≡ place))
      (adv : Advances ps t (part_rows ps p) old new changed) (tl : Tells a b readers new (driven p)) where
    -- what is not to be evaluated reads what it read
    agree : (at : ℕ) (q : Part) → slice_get parts at ≡ Some q → is_marked b at ≡ false → (point : Point) → In point (present_points q) → number_read old point ≡ number_read new point
    agree at q there unmarked (Constant c) i = refl
    agree at q there unmarked (At n) i = by (nat_lt n (length ps)) refl
      where
        marked : is_marked b at ≡ true → ⊥
        marked e = true≢false (sym e ∙ unmarked)

        told : n < length ps → is_x (get_or new n X) ≡ false → is_told b n ≡ true → get_or old n X ≡ get_or new n X
        told l e f = ⊎_elim
            (λ g. valued adv.grows n (h.told n g))
            (λ g. absurd (marked (g.marked at (among_in at (readers_at readers n) (read.reads at q there n (subst (λ z. n < z) was.now l) i))
            (subst (λ z. at < z) (sym (tl.same ∙ h.marks)) (slice_get_within parts at q there)))))
            (tl.told n f)

        driven_one : n < length ps → In n (driven p) → (s : Bool) → is_x (get_or new n X) ≡ s → get_or old n X ≡ get_or new n X
        driven_one l j true e = below_x (get_or old n X) (get_or new n X) (keeps adv.grows n l) e
        driven_one l j false e = told l e (tl.tells n j (subst (λ z. n < z) (was.now ∙ sym h.bits) l) e)

        by : (s : Bool) → nat_lt n (length ps) ≡ s → get_or old n X ≡ get_or new n X
        by true s =
            let l = ltb-true n (length ps) s in
            ⊎_elim
            (λ e. e)
            (λ r. let d = driven_at ps p (all_in (IsPartWithin (length ps)) p parts within (in_at parts place p found)) r.0 r.1 in
            let same : d.0 ≡ n = was.apart d.0 n d.2 l (sym d.3 ∙ r.2) in
            driven_one l (subst (λ z. In z (driven p)) same d.1) (is_x (get_or new n X)) refl)
            (adv.driven n)
        by false s =
            let l = ltb-false n (length ps) s in
            let k = was.now in
            let m = is.now in
            get_or_past old n X (omega (arith, l, k)) ∙ sym (get_or_past new n X (omega (arith, l, m)))

    -- a row is met by the values before
    before : (at : ℕ) (q : Part) → slice_get parts at ≡ Some q → is_marked b at ≡ false → (w : Valuation) → AreMet (parts_rows ps parts) t w → (r : Driven) → In r (part_rows ps q) → (s : Bool) → nat_eq at place ≡ s → FlatBelow (value_of r.driver t (shown ps old)) (shown ps new r.place)
    before at q there unmarked w m r i true s =
        let same : q ≡ p = same_at parts place q p (subst (λ z. slice_get parts z ≡ Some q) (eqb-true at place s) there) found in
        adv.reached w (own w m) (h.under w m) r (subst (λ z. In r (part_rows ps z)) same i)
    before at q there unmarked w m r i false s =
        FlatBelow_trans _ _ _ (h.met at q there (not_marked (is_marked a at) (is_marked b at) (tl.keeps at) unmarked) (λ f. true≢false (sym (eq-eqb at place f) ∙ s)) w m r i) (adv.grows r.place)

    -- the readers of what changed are told
    pub settling_told : IsSettling ps t parts b new
    settling_told = record {
      marks = tl.same ∙ h.marks;
      bits = tl.same_told ∙ (h.bits ∙ (sym was.now ∙ is.now));
      under = λ w m. adv.below w (own w m) (h.under w m);
      met = λ at q there unmarked other w m r i.
          subst (λ z. FlatBelow z (shown ps new r.place))
          (part_agrees ps moment old new was is q (all_in (IsPartWithin (length ps)) q parts within (in_at parts at q there)) (agree at q there unmarked) r i)
          (before at q there unmarked w m r i (nat_eq at place) refl);
      told = λ n e. ⊎_elim
          (λ f. subst (λ z. is_x z ≡ false) (valued adv.grows n (h.told n f)) (h.told n f))
          (λ f. f.valued)
          (tl.told n e);
      listed = tl.listed h.listed;
    }
