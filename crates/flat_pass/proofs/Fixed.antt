-- Rows whose bits stay where they are.
use Rattle.std.proofs.Common.{◌≡◌, List, [], ◌∷◌, ◌++◌, map, inl, inr, ⊎_elim, refl, sym, ap, subst}
use Rattle.std.specs.Prelude.{flat_map}
use Rattle.rtl_ir.specs.Flat.Driver.{StorePoints, PortPoints, Driver, Nothing, Given, Joined, Worked, Stored, Decided, Held, Raced, Remembered, Fetched, Driven}
use Rattle.rtl_ir.specs.Flat.Pick.{Pick, Is, Where, WhereReset, pick_points}
use Rattle.rtl_ir.specs.Flat.Place.{Place}
use Rattle.rtl_ir.specs.Flat.Point.{Point, Constant, At}
use Rattle.rtl_ir.specs.Flat.Reads.{port_list, read_points, reads, store_list}
use Rattle.rtl_ir.specs.Flat.Tree.{places}
use Rattle.net_model.specs.Lists.{In}
use Rattle.net_model.specs.Picked.{mark_of}
use Rattle.net_model.proofs.Members.{In-cases, In-left, In-right}
use Rattle.flat_pass.proofs.Moving.{IsFair, Move, leaves, moved_driver, moved_pick, moved_pins, moved_point, moved_port, moved_word}
use Rattle.flat_pass.proofs.MovedRuns.{GoesInto}

module _ (go : Move) where
  -- each of these points stays
  abbrev Stay : List Point → Type 0
  Stay ps = (s : Point) → In s ps → moved_point go s ≡ s

  places_stay : (ps : List Point) → ((q : Place) → In q (places ps) → go q ≡ q) → Stay ps
  places_stay [] h s i = absurd i
  places_stay (Constant b ∷ ps) h s (inl e) = subst (λ z. moved_point go z ≡ z) (sym e) refl
  places_stay (Constant b ∷ ps) h s (inr i) = places_stay ps h s i
  places_stay (At q ∷ ps) h s (inl e) = subst (λ z. moved_point go z ≡ z) (sym e) (ap At (h q (inl refl)))
  places_stay (At q ∷ ps) h s (inr i) = places_stay ps (λ r j. h r (inr j)) s i

  word_stays : (ps : List Point) → Stay ps → moved_word go ps ≡ ps
  word_stays [] h = refl
  word_stays (s ∷ ps) h = λ i. h s (inl refl) i ∷ word_stays ps (λ r j. h r (inr j)) i

  words_stay : (words : List (List Point)) → Stay (flat_map (λ word. word) words) → map (moved_word go) words ≡ words
  words_stay [] h = refl
  words_stay (word ∷ words) h =
      λ i. word_stays word (λ s j. h s (In-left s word (flat_map (λ w. w) words) j)) i ∷ words_stay words (λ s j. h s (In-right s word (flat_map (λ w. w) words) j)) i

  pins_stay : (s : StorePoints) → Stay (store_list s) → moved_pins go s ≡ s
  pins_stay s h = λ i. record {
    clk = h s.clk (inl refl) i;
    en = h s.en (inr (inl refl)) i;
    arst = h s.arst (inr (inr (inl refl))) i;
    srst = h s.srst (inr (inr (inr (inl refl)))) i;
    aload = h s.aload (inr (inr (inr (inr (inl refl))))) i;
    ad = h s.ad (inr (inr (inr (inr (inr (inl refl)))))) i;
    set = h s.set (inr (inr (inr (inr (inr (inr (inl refl))))))) i;
    clr = h s.clr (inr (inr (inr (inr (inr (inr (inr (inl refl)))))))) i;
    d = h s.d (inr (inr (inr (inr (inr (inr (inr (inr (inl refl))))))))) i;
  }

  port_stays : (port : PortPoints) → Stay (port_list port) → moved_port go port ≡ port
  port_stays port h =
      λ i. record { address = word_stays port.address (λ s j. h s (inr (inr j))) i; enable = h port.enable (inl refl) i; new = h port.new (inr (inl refl)) i; follows = port.follows }

  ports_stay : (ports : List PortPoints) → Stay (flat_map port_list ports) → map (moved_port go) ports ≡ ports
  ports_stay [] h = refl
  ports_stay (port ∷ ports) h =
      λ i. port_stays port (λ s j. h s (In-left s (port_list port) (flat_map port_list ports) j)) i ∷ ports_stay ports (λ s j. h s (In-right s (port_list port) (flat_map port_list ports) j)) i

  pick_stays : (tree : Pick) → Stay (pick_points tree) → moved_pick go tree ≡ tree
  pick_stays (Is s) h = ap Is (h s (inl refl))
  pick_stays (Where signal patterns met other) h =
      let rest = flat_map (λ pattern. pattern) patterns ++ (pick_points met ++ pick_points other) in
      λ i. Where (word_stays signal (λ s j. h s (In-left s signal rest j)) i) (words_stay patterns (λ s j. h s (In-right s signal rest (In-left s (flat_map (λ pattern. pattern) patterns) (pick_points met ++ pick_points other) j))) i) (pick_stays met (λ s j. h s (In-right s signal rest (In-right s (flat_map (λ pattern. pattern) patterns) (pick_points met ++ pick_points other) (In-left s (pick_points met) (pick_points other) j)))) i) (pick_stays other (λ s j. h s (In-right s signal rest (In-right s (flat_map (λ pattern. pattern) patterns) (pick_points met ++ pick_points other) (In-right s (pick_points met) (pick_points other) j)))) i)
  pick_stays (WhereReset inverse patterns met other) h =
      λ i. WhereReset inverse (words_stay patterns (λ s j. h s (In-left s (flat_map (λ pattern. pattern) patterns) (pick_points met ++ pick_points other) j)) i) (pick_stays met (λ s j. h s (In-right s (flat_map (λ pattern. pattern) patterns) (pick_points met ++ pick_points other) (In-left s (pick_points met) (pick_points other) j))) i) (pick_stays other (λ s j. h s (In-right s (flat_map (λ pattern. pattern) patterns) (pick_points met ++ pick_points other) (In-right s (pick_points met) (pick_points other) j))) i)

  own_stays : (q : Place) → moved_point go (At q) ≡ At q → go q ≡ q
  own_stays q e = cc

  driver_stays : (d : Driver) → Stay (read_points d) → moved_driver go d ≡ d
  driver_stays Nothing h = refl
  driver_stays (Given at) h = refl
  driver_stays (Joined from) h = ap Joined (h from (inl refl))
  driver_stays (Worked shape inputs at) h = ap (λ z. Worked shape z at) (words_stay inputs h)
  driver_stays (Stored start shape at pins own) h =
      λ i. Stored start shape at (pins_stay pins (λ s j. h s (inr j)) i) (own_stays own (h (At own) (inl refl)) i)
  driver_stays (Decided tree) h = ap Decided (pick_stays tree h)
  driver_stays (Held start value tree own) h =
      λ i. Held start (h value (inr (inl refl)) i) (pick_stays tree (λ s j. h s (inr (inr j))) i) (own_stays own (h (At own) (inl refl)) i)
  driver_stays (Raced start clock clock_level reset reset_level tree own) h =
      λ i. Raced start (h clock (inr (inl refl)) i) clock_level (h reset (inr (inr (inl refl))) i) reset_level (pick_stays tree (λ s j. h s (inr (inr (inr j)))) i) (own_stays own (h (At own) (inl refl)) i)
  driver_stays (Remembered start clock level address ports own) h =
      λ i. Remembered start (h clock (inr (inl refl)) i) level address (ports_stay ports (λ s j. h s (inr (inr j))) i) (own_stays own (h (At own) (inl refl)) i)
  driver_stays (Fetched address first words) h =
      λ i. Fetched (word_stays address (λ s j. h s (In-left s address words j)) i) first (word_stays words (λ s j. h s (In-right s address words j)) i)

  leaf_reads : (tree : Pick) (s : Point) → In s (leaves tree) → In s (pick_points tree)
  leaf_reads (Is p) s i = i
  leaf_reads (Where signal patterns met other) s i =
      let words = flat_map (λ pattern. pattern) patterns in
      let rest = pick_points met ++ pick_points other in
      In-right s signal (words ++ rest) (In-right s words rest (⊎_elim (λ l. In-left s (pick_points met) (pick_points other) (leaf_reads met s l)) (λ r. In-right s (pick_points met) (pick_points other) (leaf_reads other s r)) (In-cases s (leaves met) (leaves other) i)))
  leaf_reads (WhereReset inverse patterns met other) s i =
      let words = flat_map (λ pattern. pattern) patterns in
      let rest = pick_points met ++ pick_points other in
      In-right s words rest (⊎_elim (λ l. In-left s (pick_points met) (pick_points other) (leaf_reads met s l)) (λ r. In-right s (pick_points met) (pick_points other) (leaf_reads other s r)) (In-cases s (leaves met) (leaves other) i))

  fair_stays : (d : Driver) → Stay (read_points d) → IsFair go d
  fair_stays (Held start value tree own) h =
      λ s i j. mark_of (own_stays own (h (At own) (inl refl)) j) (h s (inr (inr (leaf_reads tree s i))) j)
  fair_stays (Raced start clock clock_level reset reset_level tree own) h =
      λ s i j. mark_of (own_stays own (h (At own) (inl refl)) j) (h s (inr (inr (inr (leaf_reads tree s i)))) j)
  fair_stays Nothing h = tt
  fair_stays (Given at) h = tt
  fair_stays (Joined from) h = tt
  fair_stays (Worked shape inputs at) h = tt
  fair_stays (Stored start shape at pins own) h = tt
  fair_stays (Decided tree) h = tt
  fair_stays (Remembered start clock level address ports own) h = tt
  fair_stays (Fetched address first words) h = tt

  -- a row whose bit stays, and whose driver reads bits that stay
  pub row_stays : (es : List Driven) (x : Driven) → go x.place ≡ x.place → ((q : Place) → In q (reads x.driver) → go q ≡ q) → In x es → GoesInto go es x
  row_stays es x own read i =
      let stay = places_stay (read_points x.driver) read in
      record {
        fair = fair_stays x.driver stay;
        into = subst (λ z. In z es) (λ j. record { place = sym own j; driver = sym (driver_stays x.driver stay) j }) i;
      }
