-- Rows whose bits move: what their drivers give.
use Rattle.std.proofs.Common.{◌≡◌, ℕ, Bool, true, false, List, [], ◌∷◌, ◌++◌, map, inl, refl, ◌∙◌, ap}
use Rattle.std.specs.Prelude.{if◌then◌else◌}
use Rattle.rtl_bits.specs.declared.bit.Bit.{Bit}
use Rattle.cell_types.specs.declared.level.Level.{Level}
use Rattle.rtl_bits.specs.declared.bit.Bit.TheVariants.{S0, S1, X}
use Rattle.rtl_bits.specs.Tables.{and_of, or_of}
use Rattle.cell_gate.specs.Control.{active_of, edge_of, pick_of, was_of}
use Rattle.rtl_ir.specs.Flat.Driver.{StorePoints, PortPoints, Driver, Nothing, Given, Joined, Worked, Stored, Decided, Held, Raced, Remembered, Fetched, Driven}
use Rattle.rtl_ir.specs.Flat.Pick.{Pick, Is, Where, WhereReset}
use Rattle.rtl_ir.specs.Flat.Place.{Place, place_same}
use Rattle.rtl_ir.specs.Flat.Point.{Point, Constant, At}
use Rattle.net_model.specs.declared.order.Order.{Order}
use Rattle.net_model.specs.declared.order.Order.TheVariants.{Together, Released}
use Rattle.net_model.specs.Lists.{In}
use Rattle.net_model.specs.Order.{next_bit_of}
use Rattle.net_model.specs.Picked.{case_match, chosen_of, held_of, mark_of, own_or, pattern_match, picked, picked_by, place_match, tested_of}
use Rattle.net_model.specs.Race.{raced_of}
use Rattle.net_model.specs.Run.{Time, Start, Step}
use Rattle.net_model.specs.Valuation.{Valuation, passed_of, read, read_all, read_words}
use Rattle.net_model.specs.Value.{clocked_at, edge_at, level_bit, pins_of, raced_at, raced_in, released_at, value_of, worked_of}
use Rattle.net_model.specs.Words.{address_is, after_ports, fetched_of, followed_by, hit_of}
use Rattle.net_model.proofs.Members.{In-left, In-right}

-- the leaves of a pick
abbrev pub leaves : Pick → List Point
leaves (Is s) = s ∷ []
leaves (Where signal patterns met other) = leaves met ++ leaves other
leaves (WhereReset inverse patterns met other) = leaves met ++ leaves other

-- a bit of the flat netlist goes to another one
abbrev pub Move : Type 0
Move = Place → Place

module _ (go : Move) where
  -- a point goes where its bit goes
  abbrev pub moved_point : Point → Point
  moved_point (Constant b) = Constant b
  moved_point (At q) = At (go q)

  abbrev pub moved_word : List Point → List Point
  moved_word word = map moved_point word

  abbrev pub moved_pins : StorePoints → StorePoints
  moved_pins s = record {
    clk = moved_point s.clk;
    en = moved_point s.en;
    arst = moved_point s.arst;
    srst = moved_point s.srst;
    aload = moved_point s.aload;
    ad = moved_point s.ad;
    set = moved_point s.set;
    clr = moved_point s.clr;
    d = moved_point s.d;
  }

  abbrev pub moved_port : PortPoints → PortPoints
  moved_port port = record { address = moved_word port.address; enable = moved_point port.enable; new = moved_point port.new; follows = port.follows }

  abbrev pub moved_pick : Pick → Pick
  moved_pick (Is s) = Is (moved_point s)
  moved_pick (Where signal patterns met other) = Where (moved_word signal) (map moved_word patterns) (moved_pick met) (moved_pick other)
  moved_pick (WhereReset inverse patterns met other) = WhereReset inverse (map moved_word patterns) (moved_pick met) (moved_pick other)

  abbrev pub moved_driver : Driver → Driver
  moved_driver Nothing = Nothing
  moved_driver (Given at) = Given at
  moved_driver (Joined from) = Joined (moved_point from)
  moved_driver (Worked shape inputs at) = Worked shape (map moved_word inputs) at
  moved_driver (Stored start shape at pins own) = Stored start shape at (moved_pins pins) (go own)
  moved_driver (Decided tree) = Decided (moved_pick tree)
  moved_driver (Held start value tree own) = Held start (moved_point value) (moved_pick tree) (go own)
  moved_driver (Raced start clock clock_level reset reset_level tree own) =
      Raced start (moved_point clock) clock_level (moved_point reset) reset_level (moved_pick tree) (go own)
  moved_driver (Remembered start clock level address ports own) = Remembered start (moved_point clock) level address (map moved_port ports) (go own)
  moved_driver (Fetched address first words) = Fetched (moved_word address) first (moved_word words)

  -- a row goes with its bit and all that it reads
  abbrev pub moved : Driven → Driven
  moved x = record { place = go x.place; driver = moved_driver x.driver }

  -- what the bits have where they came from
  abbrev pub back : Valuation → Valuation
  back w q = w (go q)

  abbrev pub time_back : Time Place → Time Place
  time_back Start = Start
  time_back (Step before inputs manner) = Step (back before) inputs manner

  read_back : (w : Valuation) (p : Point) → read w (moved_point p) ≡ read (back w) p
  read_back w (Constant b) = refl
  read_back w (At q) = refl

  word_back : (w : Valuation) (word : List Point) → read_all w (moved_word word) ≡ read_all (back w) word
  word_back w [] = refl
  word_back w (p ∷ word) = λ i. read_back w p i ∷ word_back w word i

  words_back : (w : Valuation) (words : List (List Point)) → read_words w (map moved_word words) ≡ read_words (back w) words
  words_back w [] = refl
  words_back w (word ∷ words) = λ i. word_back w word i ∷ words_back w words i

  pins_back : (w : Valuation) (s : StorePoints) (own : Place) → pins_of w (moved_pins s) (go own) ≡ pins_of (back w) s own
  pins_back w s own = λ i. record {
    clk = read_back w s.clk i;
    en = read_back w s.en i;
    arst = read_back w s.arst i;
    srst = read_back w s.srst i;
    aload = read_back w s.aload i;
    ad = read_back w s.ad i;
    set = read_back w s.set i;
    clr = read_back w s.clr i;
    d = read_back w s.d i;
    q = w (go own);
  }

  hit_back : (w : Valuation) (address : ℕ) (port : PortPoints) → hit_of w address (moved_port port) ≡ hit_of (back w) address port
  hit_back w address port = λ i. and_of (read_back w port.enable i) (address_is (word_back w port.address i) address)

  ports_back : (w : Valuation) (address : ℕ) (hits : List Bit) (ports : List PortPoints) (old : Bit) → after_ports w address hits (map moved_port ports) old ≡ after_ports (back w) address hits ports old
  ports_back w address hits [] old = refl
  ports_back w address hits (port ∷ ports) old =
      (λ i. after_ports w address (hits ++ hit_back w address port i ∷ []) (map moved_port ports) (pick_of (hit_back w address port i) (followed_by port.follows hits (read_back w port.new i)) old))
      ∙ ports_back w address (hits ++ hit_of (back w) address port ∷ []) ports (pick_of (hit_of (back w) address port) (followed_by port.follows hits (read (back w) port.new)) old)

  edge_back : (v w : Valuation) (first : Bool) (s : Point) (level : Level) → edge_at v w first (moved_point s) level ≡ edge_at (back v) (back w) first s level
  edge_back v w first s level = λ i. edge_of (active_of level (was_of first (read_back v s i))) (active_of level (read_back w s i))

  place_back : (w : Valuation) (s : Bit) (p : Point) → place_match w s (moved_point p) ≡ place_match (back w) s p
  place_back w s (Constant b) = refl
  place_back w s (At q) = refl

  pattern_back : (w : Valuation) (signal : List Bit) (pattern : List Point) → pattern_match w signal (moved_word pattern) ≡ pattern_match (back w) signal pattern
  pattern_back w [] pattern = refl
  pattern_back w (s ∷ signal) [] = refl
  pattern_back w (s ∷ signal) (p ∷ pattern) = λ i. and_of (place_back w s p i) (pattern_back w signal pattern i)

  case_back : (w : Valuation) (signal : List Bit) (patterns : List (List Point)) → case_match w signal (map moved_word patterns) ≡ case_match (back w) signal patterns
  case_back w signal [] = refl
  case_back w signal (p ∷ patterns) = λ i. or_of (pattern_back w signal p i) (case_back w signal patterns i)

  -- a pick comes to the same, where its leaves do
  picked_back : (w : Valuation) (leaf leaf' : Point → Bit) (reset : Bit) (tree : Pick) → ((s : Point) → In s (leaves tree) → leaf (moved_point s) ≡ leaf' s) → picked_by leaf w reset (moved_pick tree) ≡ picked_by leaf' (back w) reset tree
  picked_back w leaf leaf' reset (Is s) h = h s (inl refl)
  picked_back w leaf leaf' reset (Where signal patterns met other) h =
      λ i. chosen_of (case_back' i) (picked_back w leaf leaf' reset met (λ s j. h s (In-left s (leaves met) (leaves other) j)) i) (picked_back w leaf leaf' reset other (λ s j. h s (In-right s (leaves met) (leaves other) j)) i)
    where
      case_back' : case_match w (read_all w (moved_word signal)) (map moved_word patterns) ≡ case_match (back w) (read_all (back w) signal) patterns
      case_back' = ap (λ z. case_match w z (map moved_word patterns)) (word_back w signal) ∙ case_back w (read_all (back w) signal) patterns
  picked_back w leaf leaf' reset (WhereReset inverse patterns met other) h =
      λ i. chosen_of (case_back w (tested_of inverse reset ∷ []) patterns i) (picked_back w leaf leaf' reset met (λ s j. h s (In-left s (leaves met) (leaves other) j)) i) (picked_back w leaf leaf' reset other (λ s j. h s (In-right s (leaves met) (leaves other) j)) i)

  pick_back : (w : Valuation) (reset : Bit) (tree : Pick) → picked w reset (moved_pick tree) ≡ picked (back w) reset tree
  pick_back w reset tree = picked_back w (read w) (read (back w)) reset tree (λ s i. read_back w s)

  raced_back : (before now : Valuation) (first : Bool) (clock : Point) (clock_level : Level) (reset : Point) (reset_level : Level) (tree : Pick) (own : Place) → raced_at before now first (moved_point clock) clock_level (moved_point reset) reset_level (moved_pick tree) (go own) ≡ raced_at (back before) (back now) first clock clock_level reset reset_level tree own
  raced_back before now first clock clock_level reset reset_level tree own =
      λ i. raced_of (edge_back before now first clock clock_level i) (edge_back before now first reset reset_level i) (was i) (is i) (pick_back before (level_bit reset_level) tree i) (before (go own))
    where
      was : picked before (was_of first (read before (moved_point reset))) (moved_pick tree) ≡ picked (back before) (was_of first (read (back before) reset)) tree
      was = ap (λ z. picked before (was_of first z) (moved_pick tree)) (read_back before reset) ∙ pick_back before (was_of first (read (back before) reset)) tree

      is : picked before (read now (moved_point reset)) (moved_pick tree) ≡ picked (back before) (read (back now) reset) tree
      is = ap (λ z. picked before z (moved_pick tree)) (read_back now reset) ∙ pick_back before (read (back now) reset) tree

  -- a leaf that is the bit itself goes where the bit goes, and no other leaf does
  own_back : (own : Place) (a : Bit) (w : Valuation) (s : Point) → mark_of (go own) (moved_point s) ≡ mark_of own s → own_or (go own) a w (moved_point s) ≡ own_or own a (back w) s
  own_back own a w (Constant b) h = refl
  own_back own a w (At q) h =
      by (place_same (go q) (go own)) (place_same q own) h
    where
      by : (t u : Bool) → (if t then S1 else S0) ≡ (if u then S1 else S0) → (if t then a else w (go q)) ≡ (if u then a else w (go q))
      by true true e = refl
      by false false e = refl
      by true false e = absurd (cc)
      by false true e = absurd (cc)

  clocked_back : (before now : Valuation) (first : Bool) (clock : Point) (clock_level : Level) (reset : Point) (tree : Pick) (own : Place) → clocked_at before now first (moved_point clock) clock_level (moved_point reset) (moved_pick tree) (go own) ≡ clocked_at (back before) (back now) first clock clock_level reset tree own
  clocked_back before now first clock clock_level reset tree own =
      λ i. pick_of (edge_back before now first clock clock_level i) (was i) (before (go own))
    where
      was : picked before (was_of first (read before (moved_point reset))) (moved_pick tree) ≡ picked (back before) (was_of first (read (back before) reset)) tree
      was = ap (λ z. picked before (was_of first z) (moved_pick tree)) (read_back before reset) ∙ pick_back before (was_of first (read (back before) reset)) tree

  released_back : (before now : Valuation) (first : Bool) (clock : Point) (clock_level : Level) (reset : Point) (reset_level : Level) (tree : Pick) (own : Place) → ((s : Point) → In s (leaves tree) → mark_of (go own) (moved_point s) ≡ mark_of own s) → released_at before now first (moved_point clock) clock_level (moved_point reset) reset_level (moved_pick tree) (go own) ≡ released_at (back before) (back now) first clock clock_level reset reset_level tree own
  released_back before now first clock clock_level reset reset_level tree own h =
      λ i. pick_of (active_of reset_level (read_back now reset i)) (active i) (clocked i)
    where
      clocked : clocked_at before now first (moved_point clock) clock_level (moved_point reset) (moved_pick tree) (go own) ≡ clocked_at (back before) (back now) first clock clock_level reset tree own
      clocked = clocked_back before now first clock clock_level reset tree own

      active : picked_by (own_or (go own) (clocked_at before now first (moved_point clock) clock_level (moved_point reset) (moved_pick tree) (go own)) before) before (level_bit reset_level) (moved_pick tree) ≡ picked_by (own_or own (clocked_at (back before) (back now) first clock clock_level reset tree own) (back before)) (back before) (level_bit reset_level) tree
      active =
          ap (λ z. picked_by (own_or (go own) z before) before (level_bit reset_level) (moved_pick tree)) clocked
          ∙ picked_back before (own_or (go own) (clocked_at (back before) (back now) first clock clock_level reset tree own) before) (own_or own (clocked_at (back before) (back now) first clock clock_level reset tree own) (back before)) (level_bit reset_level) tree (λ s i. own_back own (clocked_at (back before) (back now) first clock clock_level reset tree own) before s (h s i))

  -- in either order of time
  ordered_back : (order : Order) (before now : Valuation) (first : Bool) (clock : Point) (clock_level : Level) (reset : Point) (reset_level : Level) (tree : Pick) (own : Place) → ((s : Point) → In s (leaves tree) → mark_of (go own) (moved_point s) ≡ mark_of own s) → raced_in order before now first (moved_point clock) clock_level (moved_point reset) reset_level (moved_pick tree) (go own) ≡ raced_in order (back before) (back now) first clock clock_level reset reset_level tree own
  ordered_back Together before now first clock clock_level reset reset_level tree own h =
      raced_back before now first clock clock_level reset reset_level tree own
  ordered_back Released before now first clock clock_level reset reset_level tree own h =
      released_back before now first clock clock_level reset reset_level tree own h

  -- a bit that may hold is told from the other leaves of its value where they go
  abbrev pub IsFair : Driver → Type 0
  IsFair (Held start value tree own) = (s : Point) → In s (leaves tree) → mark_of (go own) (moved_point s) ≡ mark_of own s
  IsFair (Raced start clock clock_level reset reset_level tree own) = (s : Point) → In s (leaves tree) → mark_of (go own) (moved_point s) ≡ mark_of own s
  IsFair d = Unit {0}

  -- a driver that moves gives over a valuation what it gave over what the bits have where they came from
  pub value_back : (d : Driver) → IsFair d → (t : Time Place) (w : Valuation) → value_of (moved_driver d) t w ≡ value_of d (time_back t) (back w)
  value_back Nothing h t w = refl
  value_back (Given at) h Start w = refl
  value_back (Given at) h (Step before inputs manner) w = refl
  value_back (Joined from) h t w = ap passed_of (read_back w from)
  value_back (Worked shape inputs at) h t w = ap (λ z. worked_of shape.kind shape z at) (words_back w inputs)
  value_back (Stored start shape at pins own) h Start w = refl
  value_back (Stored start shape at pins own) h (Step before inputs manner) w =
      λ i. next_bit_of manner shape at (pins_back before pins own i) (pins_back w pins own i)
  value_back (Decided tree) h t w = pick_back w X tree
  value_back (Held start value tree own) h Start w = refl
  value_back (Held start value tree own) h (Step before inputs manner) w =
      λ i. held_of (picked_back w (mark_of (go own)) (mark_of own) X tree h i) (before (go own)) (read_back w value i)
  value_back (Raced start clock clock_level reset reset_level tree own) h Start w = refl
  value_back (Raced start clock clock_level reset reset_level tree own) h (Step before inputs manner) w =
      ordered_back manner.order before w manner.first clock clock_level reset reset_level tree own h
  value_back (Remembered start clock level address ports own) h Start w = refl
  value_back (Remembered start clock level address ports own) h (Step before inputs manner) w =
      λ i. pick_of (edge_back before w manner.first clock level i) (ports_back before address [] ports (before (go own)) i) (before (go own))
  value_back (Fetched address first words) h t w = λ i. fetched_of (word_back w address i) first (word_back w words i)
