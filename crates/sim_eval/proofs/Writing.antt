-- What write ports make of a bit of a word.
use Rattle.std.proofs.Common.{◌≡◌, ℕ, zero, suc, ◌+◌, ◌<◌, ◌≤◌, Bool, true, false, List, [], ◌∷◌, ◌++◌, length, get_or, take, drop, map, add-one, refl, sym, ◌∙◌, ap, subst}
use Rattle.std.specs.Prelude.{◌&&◌, ◌==◌, ◌/◌, if◌then◌else◌}
use Rattle.std.specs.List.{AllByRecursion}
use Rattle.std.proofs.Math.ListN.{drop_of_length-le}
use Rattle.std.proofs.Math.Seq.{drop-cons}
use Rattle.std.proofs.lemmas.Bool.{true≢false}
use Rattle.std.proofs.lemmas.List.{map-append, take_more}
use Rattle.rtl_bits.specs.declared.bit.Bit.{Bit}
use Rattle.rtl_bits.specs.declared.bit.Bit.TheVariants.{S0, S1, X, Z, M, Dash}
use Rattle.rtl_bits.specs.Numbers.{low_bit_of}
use Rattle.rtl_bits.specs.Tables.{and_of}
use Rattle.cell_gate.specs.Control.{pick_of}
use Rattle.cell_word.proofs.Numbered.{and_assoc}
use Rattle.rtl_ir.specs.Flat.Place.{Place}
use Rattle.rtl_ir.specs.Flat.Point.{point_at}
use Rattle.net_model.specs.Picked.{equal_of}
use Rattle.net_model.specs.Valuation.{read}
use Rattle.net_model.specs.Words.{address_is, after_ports, followed_by, hit_of}
use Rattle.flat_net.specs.declared.memory.WritePort.{WritePort}
use Rattle.flat_net.specs.declared.net.Point.{Point}
use Rattle.flat_net.specs.Points.{AreApart, points_of}
use Rattle.flat_net.specs.Within.{ArePointsWithin, IsWritePortWithin}
use Rattle.flat_net.specs.Words.{Ported, may_follow, ported_of, ports_at, seen_at}
use Rattle.sim_eval.specs.Numbers.{number_read, number_word}
use Rattle.sim_eval.specs.Shown.{shown}
use Rattle.sim_eval.specs.Written.{follows_all, is_zero, number_at, number_hit, writers_of}
use Rattle.sim_eval.proofs.Bridges.{read_same, word_same}
use Rattle.sim_eval.proofs.Taking.{all_at}

-- the table of and

one_and : (a b : Bit) → and_of S1 (and_of a b) ≡ and_of a b
one_and S0 b = refl
one_and S1 S0 = refl
one_and S1 S1 = refl
one_and S1 b = refl
one_and a S0 = refl
one_and a S1 = refl
one_and a b = refl

-- addresses, bit by bit

pub address_begins : (address : List Bit) (number : ℕ) → address_is address number ≡ and_of S1 (address_is address number)
address_begins [] number = by (number == 0)
  where
    by : (t : Bool) → (if t then S1 else S0) ≡ and_of S1 (if t then S1 else S0)
    by true = refl
    by false = refl
address_begins (b ∷ address) number = sym (one_and (equal_of b (low_bit_of number)) (address_is address (number / 2)))

-- one bit more is the same
pub address_goes : (values : List Bit) (points : List Point) (i : ℕ) (p : Point) (all : Bit) (number : ℕ) (total : Bit) → i < length points → total ≡ and_of all (address_is (number_word values (drop i points)) number)
    → total ≡ and_of (and_of all (equal_of (number_read values (get_or points i p)) (low_bit_of number))) (address_is (number_word values (drop (i + 1) points)) (number / 2))
address_goes values points i p all number total h so =
    let left : drop i points ≡ get_or points i p ∷ drop (i + 1) points = drop-cons points i p h ∙ ap (λ k. get_or points i p ∷ drop k points) (sym (add-one i)) in
    so
    ∙ ap (λ ps. and_of all (address_is (number_word values ps) number)) left
    ∙ and_assoc all (equal_of (number_read values (get_or points i p)) (low_bit_of number)) (address_is (number_word values (drop (i + 1) points)) (number / 2))

-- no bit is left
pub address_ends : (values : List Bit) (points : List Point) (i : ℕ) (all : Bit) (number : ℕ) (total : Bit) → length points ≤ i → total ≡ and_of all (address_is (number_word values (drop i points)) number) → total ≡ and_of all (address_is [] number)
address_ends values points i all number total h so = so ∙ ap (λ ps. and_of all (address_is (number_word values ps) number)) (drop_of_length-le points h)

-- the writers

-- one more port that may write, or not
pub writers_next : (values : List Bit) (address at : ℕ) (xs : List WritePort) (w : WritePort) → writers_of values address at (xs ++ w ∷ []) ≡ (if is_zero (number_hit values address at w) then writers_of values address at xs else writers_of values address at xs ++ w.number ∷ [])
writers_next values address at [] w = refl
writers_next values address at (x ∷ xs) w = by (is_zero (number_hit values address at x)) (is_zero (number_hit values address at w)) (writers_next values address at xs w)
  where
    rest : List ℕ
    rest = writers_of values address at xs

    by : (s t : Bool) → writers_of values address at (xs ++ w ∷ []) ≡ (if t then rest else rest ++ w.number ∷ [])
        → (if s then writers_of values address at (xs ++ w ∷ []) else x.number ∷ writers_of values address at (xs ++ w ∷ [])) ≡ (if t then (if s then rest else x.number ∷ rest) else (if s then rest else x.number ∷ rest) ++ w.number ∷ [])
    by true true e = e
    by true false e = e
    by false true e = ap (λ ns. x.number ∷ ns) e
    by false false e = ap (λ ns. x.number ∷ ns) e

-- what a port makes of a bit that the one before it may write
followed_step : (h : Bit) (f : Bool) (fs : List Bool) (hits : List Bit) (new : Bit) (all : Bool) → is_zero h ≡ false → followed_by fs hits new ≡ (if all then new else X) → followed_by (f ∷ fs) (h ∷ hits) new ≡ (if f && all then new else X)
followed_step S0 f fs hits new all e k = absurd (true≢false e)
followed_step S1 true fs hits new all e k = k
followed_step S1 false fs hits new all e k = refl
followed_step X true fs hits new all e k = k
followed_step X false fs hits new all e k = refl
followed_step Z true fs hits new all e k = k
followed_step Z false fs hits new all e k = refl
followed_step M true fs hits new all e k = k
followed_step M false fs hits new all e k = refl
followed_step Dash true fs hits new all e k = k
followed_step Dash false fs hits new all e k = refl

zero_is : (h : Bit) → is_zero h ≡ true → h ≡ S0
zero_is S0 e = refl
zero_is S1 e = absurd (true≢false (sym e))
zero_is X e = absurd (true≢false (sym e))
zero_is Z e = absurd (true≢false (sym e))
zero_is M e = absurd (true≢false (sym e))
zero_is Dash e = absurd (true≢false (sym e))

module _ (ps : List Place) (values : List Bit) (apart : AreApart ps) (same : length ps ≡ length values) (address at : ℕ) where
  at_same : (points : List Point) (k : ℕ) → ArePointsWithin (length ps) points → read (shown ps values) (point_at (points_of ps points) k) ≡ number_at values points k
  at_same [] k h = refl
  at_same (p ∷ points) zero h = read_same ps values apart same p h.0
  at_same (p ∷ points) (suc k) h = at_same points k h.1

  hit_same : (before : List Ported) (w : WritePort) → IsWritePortWithin (length ps) w → hit_of (shown ps values) address (seen_at at before (ported_of ps w)) ≡ number_hit values address at w
  hit_same before w h = (λ i. and_of (at_same w.enable at h.enable i) (address_is (word_same ps values apart same w.address h.address i) address))

  followed_same : (mask : List Bit) (before : List WritePort) (new : Bit)
      → followed_by (map (may_follow mask) (map (ported_of ps) before)) (map (number_hit values address at) before) new ≡ (if follows_all mask (writers_of values address at before) then new else X)
  followed_same mask [] new = refl
  followed_same mask (b ∷ before) new = by (is_zero (number_hit values address at b)) refl (followed_same mask before new)
    where
      follows : List Bool
      follows = map (may_follow mask) (map (ported_of ps) before)

      hits : List Bit
      hits = map (number_hit values address at) before

      by : (t : Bool) → is_zero (number_hit values address at b) ≡ t → followed_by follows hits new ≡ (if follows_all mask (writers_of values address at before) then new else X)
          → followed_by (may_follow mask (ported_of ps b) ∷ follows) (number_hit values address at b ∷ hits) new ≡ (if follows_all mask (if t then writers_of values address at before else b.number ∷ writers_of values address at before) then new else X)
      by true e k = ap (λ h. followed_by (may_follow mask (ported_of ps b) ∷ follows) (h ∷ hits) new) (zero_is (number_hit values address at b) e) ∙ k
      by false e k = followed_step (number_hit values address at b) (may_follow mask (ported_of ps b)) follows hits new (follows_all mask (writers_of values address at before)) e k

  -- what the ports make of the bit, one port more
  pub after_next : (ports : List WritePort) (i : ℕ) (w : WritePort) (value next total : Bit) → i < length ports → w ≡ get_or ports i w → AllByRecursion (IsWritePortWithin (length ps)) ports
      → total ≡ after_ports (shown ps values) address (map (number_hit values address at) (take i ports)) (ports_at at (map (ported_of ps) (take i ports)) (map (ported_of ps) (drop i ports))) value
      → next ≡ pick_of (number_hit values address at w) (if follows_all w.mask (writers_of values address at (take i ports)) then number_at values w.word at else X) value
      → total ≡ after_ports (shown ps values) address (map (number_hit values address at) (take (i + 1) ports)) (ports_at at (map (ported_of ps) (take (i + 1) ports)) (map (ported_of ps) (drop (i + 1) ports))) next
  after_next ports i w value next total h is within so made =
      let v = shown ps values in
      let hits = map (number_hit values address at) (take i ports) in
      let before = map (ported_of ps) (take i ports) in
      let rest = map (ported_of ps) (drop (i + 1) ports) in
      let inside : IsWritePortWithin (length ps) w = subst (IsWritePortWithin (length ps)) (sym is) (all_at (IsWritePortWithin (length ps)) ports i w within h) in
      let left : drop i ports ≡ w ∷ drop (i + 1) ports = drop-cons ports i w h ∙ (λ j. sym is j ∷ drop (sym (add-one i) j) ports) in
      let more : take (i + 1) ports ≡ take i ports ++ w ∷ [] = take_more ports i w h ∙ ap (λ x. take i ports ++ x ∷ []) (sym is) in
      let hit = hit_same before w inside in
      let new = at_same w.word at inside.word in
      let follows = followed_same w.mask (take i ports) (number_at values w.word at) in
      let hits_more : hits ++ number_hit values address at w ∷ [] ≡ map (number_hit values address at) (take (i + 1) ports) = sym (ap (map (number_hit values address at)) more ∙ map-append (number_hit values address at) (take i ports) (w ∷ [])) in
      let before_more : before ++ ported_of ps w ∷ [] ≡ map (ported_of ps) (take (i + 1) ports) = sym (ap (map (ported_of ps)) more ∙ map-append (ported_of ps) (take i ports) (w ∷ [])) in
      so
      ∙ ap (λ ws. after_ports v address hits (ports_at at before (map (ported_of ps) ws)) value) left
      ∙ (λ j. after_ports v address (hits ++ hit j ∷ []) (ports_at at (before ++ ported_of ps w ∷ []) rest) (pick_of (hit j) (followed_by (map (may_follow w.mask) before) hits (new j)) value))
      ∙ (λ j. after_ports v address (hits_more j) (ports_at at (before_more j) rest) (pick_of (number_hit values address at w) (follows j) value))
      ∙ ap (after_ports v address (map (number_hit values address at) (take (i + 1) ports)) (ports_at at (map (ported_of ps) (take (i + 1) ports)) rest)) (sym made)

  -- all ports were asked
  pub after_end : (ports : List WritePort) (i : ℕ) (value total : Bit) → length ports ≤ i
      → total ≡ after_ports (shown ps values) address (map (number_hit values address at) (take i ports)) (ports_at at (map (ported_of ps) (take i ports)) (map (ported_of ps) (drop i ports))) value → total ≡ value
  after_end ports i value total h so =
      so ∙ ap (λ ws. after_ports (shown ps values) address (map (number_hit values address at) (take i ports)) (ports_at at (map (ported_of ps) (take i ports)) (map (ported_of ps) ws)) value) (drop_of_length-le ports h)

-- where the edge is impossible it does not matter what would be written
pub no_edge : (edge a old : Bit) → edge ≡ S0 → pick_of edge old old ≡ pick_of edge a old
no_edge edge a old e = rw e refl
