-- A part gives the same where what it reads has the same values.
use Rattle.std.proofs.Common.{◌≡◌, ◌<◌, ℕ, zero, suc, Bool, true, false, Option, Some, None, if◌then◌else◌, List, [], ◌∷◌, ◌++◌, length, get_or, map, inl, inr, ⊎_elim, refl, sym, ◌∙◌, ap, subst}
use Rattle.std.specs.Prelude.{flat_map, nat_eq}
use Rattle.std.specs.List.{AllByRecursion}
use Rattle.rtl_bits.specs.declared.bit.Bit.{Bit}
use Rattle.rtl_bits.specs.declared.bit.Bit.TheVariants.{X}
use Rattle.rtl_bits.specs.Tables.{and_of, or_of}
use Rattle.cell_types.specs.declared.level.Level.{Level}
use Rattle.cell_types.specs.declared.levels.Levels.{Levels}
use Rattle.cell_types.specs.declared.shape.Shape.{Shape}
use Rattle.cell_types.specs.declared.storage.StorageKind.{StorageKind}
use Rattle.cell_types.specs.declared.storage.StorageKind.TheVariants.{Ff, Dff, Dffe, Sdff, Sdffe, Sdffce, Adff, Adffe, Aldff, Aldffe, Dffsr, Dffsre, Dlatch, Adlatch, Dlatchsr, Sr}
use Rattle.cell_gate.specs.declared.pins.Pins.{Pins}
use Rattle.cell_gate.specs.Control.{active_of, edge_of, pick_of, was_of}
use Rattle.cell_gate.specs.Storage.{acting_of, next_of}
use Rattle.cell_gate.specs.Store.{reset_at, storage_kind}
use Rattle.rtl_ir.specs.Flat.Driver.{Driven}
use Rattle.rtl_ir.specs.Flat.Pick.{Pick}
use Rattle.rtl_ir.specs.Flat.Place.{Place}
use Rattle.rtl_ir.specs.Flat.Point as flat
use Rattle.net_model.specs.declared.order.Order.{Order}
use Rattle.net_model.specs.declared.order.Order.TheVariants.{Together, Released}
use Rattle.net_model.specs.Lists.{In}
use Rattle.net_model.specs.Order.{released_of, stored_in, were_of}
use Rattle.net_model.specs.Picked.{chosen_of, equal_of, held_of, own_or, picked, picked_by}
use Rattle.net_model.specs.Race.{raced_of}
use Rattle.net_model.specs.Valuation.{Valuation, passed_of, read}
use Rattle.net_model.specs.Value.{clocked_at, level_bit, raced_in, value_of, worked_of}
use Rattle.net_model.specs.Words.{after_ports, fetched_of}
use Rattle.net_model.proofs.Members.{In-left, In-right, In-cases, In-map, In-mapped}
use Rattle.flat_net.specs.declared.choices.Assign.{Assign}
use Rattle.flat_net.specs.declared.choices.Tree.{Tree}
use Rattle.flat_net.specs.declared.leaves.HeldBit.{HeldBit}
use Rattle.flat_net.specs.declared.leaves.Raced.{Raced}
use Rattle.flat_net.specs.declared.leaves.Source.{Source}
use Rattle.flat_net.specs.declared.memory.Fetched.{Fetched}
use Rattle.flat_net.specs.declared.memory.ReadPort.{ReadPort}
use Rattle.flat_net.specs.declared.memory.Remembered.{Remembered}
use Rattle.flat_net.specs.declared.memory.WordBit.{WordBit}
use Rattle.flat_net.specs.declared.net.Logic.{Logic}
use Rattle.flat_net.specs.declared.net.Output.{Output}
use Rattle.flat_net.specs.declared.net.Part.{Part}
use Rattle.flat_net.specs.declared.net.Part.TheVariants as part
use Rattle.flat_net.specs.declared.net.Point.{Point}
use Rattle.flat_net.specs.declared.net.Point.TheVariants.{Constant, At}
use Rattle.flat_net.specs.declared.net.StoreBit.{StoreBit}
use Rattle.flat_net.specs.Choices.{Choices, NoChoice, OneChoice, Branches, NoBranch, OneBranch, BranchView}
use Rattle.flat_net.specs.Parts.{held_row, inputs_of, output_row, part_rows, raced_row, store_row, value_pick}
use Rattle.flat_net.specs.Picks.{leaf_pick, source_of, tree_row}
use Rattle.flat_net.specs.Points.{place_at, point_of}
use Rattle.flat_net.specs.Within.{ArePointsWithin, IsBranchWithin, IsFetchedWithin, IsHeldBitWithin, IsLogicWithin, IsPartWithin, IsPointWithin, IsReadPortWithin, IsStoreWithin}
use Rattle.flat_net.specs.Words.{fetched_row, ported_of, ports_at, port_rows, word_row}
use Rattle.sim_eval.specs.declared.moment.Moment.{Moment}
use Rattle.sim_eval.specs.declared.moment.Moment.TheVariants.{Start, Step}
use Rattle.sim_eval.specs.declared.walk.Leaves.TheVariants.{Marks}
use Rattle.sim_eval.specs.Fetched.{number_column}
use Rattle.sim_eval.specs.Leaves.{comes_to}
use Rattle.sim_eval.specs.Moment.{IsBoard, time_of}
use Rattle.sim_eval.specs.Numbers.{kept_of, number_inputs, number_pins, number_read, number_word}
use Rattle.sim_eval.specs.Reads.{assigns_points, branch_points, branches_points, choices_points, is_latch, is_open, points_at, present_points, store_points, words_points}
use Rattle.sim_eval.specs.Shown.{shown}
use Rattle.sim_eval.specs.Trees.{assigned_value, branch_match, branches_value, choices_value, compared, number_case_match, number_pattern_match, number_place_match, tree_value, unassigned}
use Rattle.sim_eval.proofs.Bridges.{given_same, inputs_same, kept_same, read_same, word_same}
use Rattle.sim_eval.proofs.Expanding.{more}
use Rattle.sim_eval.proofs.Reading.{column_same}
use Rattle.sim_eval.proofs.Trees.{root_same}

-- what stands in lists that are put together stands in one of them
pub In-flat_mapped : {A B : Type 0} (f : A → List B) (y : B) (xs : List A) → In y (flat_map f xs) → (x : A) × In x xs × In y (f x)
In-flat_mapped f y [] i = absurd i
In-flat_mapped f y (x ∷ xs) i = ⊎_elim
    (λ j. (x, inl refl, j))
    (λ j. let k = In-flat_mapped f y xs j in (k.0, inr k.1, k.2))
    (In-cases y (f x) (flat_map f xs) i)

pub In-flat_map : {A B : Type 0} (f : A → List B) (y : B) (x : A) (xs : List A) → In x xs → In y (f x) → In y (flat_map f xs)
In-flat_map f y x [] i j = absurd i
In-flat_map f y x (z ∷ xs) (inl e) j = In-left y (f z) (flat_map f xs) (subst (λ w. In y (f w)) e j)
In-flat_map f y x (z ∷ xs) (inr i) j = In-right y (f z) (flat_map f xs) (In-flat_map f y x xs i j)

-- something is so of what stands in a list where it is so of all
pub all_in : {A : Type 0} (P : A → Type 0) (x : A) (xs : List A) → AllByRecursion P xs → In x xs → P x
all_in P x [] h i = absurd i
all_in P x (y ∷ xs) h (inl e) = subst P (sym e) h.0
all_in P x (y ∷ xs) h (inr i) = all_in P x xs h.1 i

module _ (old new : List Bit) where
  -- these points have the same values
  abbrev pub Agree : List Point → Type 0
  Agree points = (p : Point) → In p points → number_read old p ≡ number_read new p

  agree_left : (a b : List Point) → Agree (a ++ b) → Agree a
  agree_left a b h p i = h p (In-left p a b i)

  agree_right : (a b : List Point) → Agree (a ++ b) → Agree b
  agree_right a b h p i = h p (In-right p a b i)

  agree_rest : (p : Point) (points : List Point) → Agree (p ∷ points) → Agree points
  agree_rest p points h q i = h q (inr i)

  word_agrees : (points : List Point) → Agree points → number_word old points ≡ number_word new points
  word_agrees [] h = refl
  word_agrees (p ∷ points) h = λ i. h p (inl refl) i ∷ word_agrees points (agree_rest p points h) i

  place_agrees : (s : Bit) (p : Point) → number_read old p ≡ number_read new p → number_place_match old s p ≡ number_place_match new s p
  place_agrees s (Constant b) h = refl
  place_agrees s (At n) h = ap (equal_of s) h

  pattern_agrees : (signal : List Bit) (pattern : List Point) → Agree pattern → number_pattern_match old signal pattern ≡ number_pattern_match new signal pattern
  pattern_agrees [] pattern h = refl
  pattern_agrees (s ∷ signal) [] h = refl
  pattern_agrees (s ∷ signal) (p ∷ pattern) h =
      λ i. and_of (place_agrees s p (h p (inl refl)) i) (pattern_agrees signal pattern (agree_rest p pattern h) i)

  case_agrees : (signal : List Bit) (patterns : List (List Point)) → Agree (words_points patterns) → number_case_match old signal patterns ≡ number_case_match new signal patterns
  case_agrees signal [] h = refl
  case_agrees signal (p ∷ patterns) h =
      λ i. or_of (pattern_agrees signal p (agree_left p (words_points patterns) h) i) (case_agrees signal patterns (agree_right p (words_points patterns) h) i)

  match_agrees : (signal : List Bit) (patterns : List (List Point)) → Agree (words_points patterns) → branch_match old signal patterns ≡ branch_match new signal patterns
  match_agrees signal [] h = refl
  match_agrees signal (p ∷ patterns) h = case_agrees signal (p ∷ patterns) h

  compared_agrees : (reset : Bit) (signal : List Point) (test : Option Bool) → Agree signal → compared old reset signal test ≡ compared new reset signal test
  compared_agrees reset signal None h = word_agrees signal h
  compared_agrees reset signal (Some inverse) h = refl

  -- where sources come to the same
  module _ (r : Bit) (g k : Source → Bit) (given : (s : Source) → number_read old s.from ≡ number_read new s.from → g s ≡ k s) (at : ℕ) where
    assigned_agrees : (assigns : List Assign) (e f : Bit) → e ≡ f → Agree (assigns_points assigns) → assigned_value old r g at assigns e ≡ assigned_value new r k at assigns f
    assigned_agrees [] e f same h = same
    assigned_agrees (a ∷ assigns) e f same h =
        assigned_agrees assigns (if nat_eq a.at at then g (source_of a) else e) (if nat_eq a.at at then k (source_of a) else f) (by (nat_eq a.at at)) (agree_rest a.from (assigns_points assigns) h)
      where
        by : (t : Bool) → (if t then g (source_of a) else e) ≡ (if t then k (source_of a) else f)
        by true = given (source_of a) (h a.from (inl refl))
        by false = same

    mutual
      choices_agree : (cs : Choices) (e f : Bit) → e ≡ f → Agree (choices_points cs) → choices_value old r g at cs e ≡ choices_value new r k at cs f
      choices_agree NoChoice e f same h = same
      choices_agree (OneChoice signal test bs rest) e f same h =
          let own = agree_left (signal ++ branches_points bs) (choices_points rest) h in
          choices_agree rest (branches_value old r g at (compared old r signal test) bs e e) (branches_value new r k at (compared new r signal test) bs f f)
          (branches_agree bs (compared old r signal test) (compared new r signal test) e f e f (compared_agrees r signal test (agree_left signal (branches_points bs) own)) same same (agree_right signal (branches_points bs) own))
          (agree_right (signal ++ branches_points bs) (choices_points rest) h)

      branches_agree : (bs : Branches) (s u : List Bit) (e f l m : Bit) → s ≡ u → e ≡ f → l ≡ m → Agree (branches_points bs) → branches_value old r g at s bs e l ≡ branches_value new r k at u bs f m
      branches_agree NoBranch s u e f l m word same last h = last
      branches_agree (OneBranch patterns assigns cs rest) s u e f l m word same last h =
          let own = agree_left (words_points patterns ++ (assigns_points assigns ++ choices_points cs)) (branches_points rest) h in
          let inside = agree_right (words_points patterns) (assigns_points assigns ++ choices_points cs) own in
          let takes = ap (λ z. branch_match old z patterns) word ∙ match_agrees u patterns (agree_left (words_points patterns) (assigns_points assigns ++ choices_points cs) own) in
          let met = choices_agree cs (assigned_value old r g at assigns e) (assigned_value new r k at assigns f) (assigned_agrees assigns e f same (agree_left (assigns_points assigns) (choices_points cs) inside)) (agree_right (assigns_points assigns) (choices_points cs) inside) in
          let other = branches_agree rest s u e f l m word same last (agree_right (words_points patterns ++ (assigns_points assigns ++ choices_points cs)) (branches_points rest) h) in
          (λ i. chosen_of (takes i) (met i) (other i))

    tree_agrees : (root : BranchView) → Agree (branch_points root) → tree_value old r g at root ≡ tree_value new r k at root
    tree_agrees root h =
        let inside = agree_right (words_points root.patterns) (assigns_points root.assigns ++ choices_points root.choices) h in
        choices_agree root.choices (assigned_value old r g at root.assigns (g unassigned)) (assigned_value new r k at root.assigns (k unassigned))
        (assigned_agrees root.assigns (g unassigned) (k unassigned) (given unassigned refl) (agree_left (assigns_points root.assigns) (choices_points root.choices) inside))
        (agree_right (assigns_points root.assigns) (choices_points root.choices) inside)

  column_agrees : (columns : List (List ℕ)) (at : ℕ) → Agree (flat_map points_at columns) → number_column old (get_or columns at []) ≡ number_column new (get_or columns at [])
  column_agrees [] at h = refl
  column_agrees (c ∷ columns) zero h = each c (agree_left (points_at c) (flat_map points_at columns) h)
    where
      each : (ns : List ℕ) → Agree (points_at ns) → number_column old ns ≡ number_column new ns
      each [] h = refl
      each (n ∷ ns) h = λ i. h (At n) (inl refl) i ∷ each ns (agree_rest (At n) (points_at ns) h) i
  column_agrees (c ∷ columns) (suc at) h = column_agrees columns at (agree_right (points_at c) (flat_map points_at columns) h)

  -- the pins that count
  abbrev trimmed : Bool → Pins → Pins
  trimmed true p = record p { clk = X; srst = X; aload = X; ad = X; q = X }
  trimmed false p = record p { en = X; srst = X; d = X; q = X }

  trimmed_agrees : (latch : Bool) (b : StoreBit) (n : ℕ) → Agree (store_points latch b) → trimmed latch (number_pins old b.pins n) ≡ trimmed latch (number_pins new b.pins n)
  trimmed_agrees true b n h = λ i. record {
    clk = X;
    en = h b.pins.en (inl refl) i;
    arst = h b.pins.arst (inr (inr (inl refl))) i;
    srst = X;
    aload = X;
    ad = X;
    set = h b.pins.set (inr (inr (inr (inl refl)))) i;
    clr = h b.pins.clr (inr (inr (inr (inr (inl refl))))) i;
    d = h b.pins.d (inr (inl refl)) i;
    q = X;
  }
  trimmed_agrees false b n h = λ i. record {
    clk = h b.pins.clk (inl refl) i;
    en = X;
    arst = h b.pins.arst (inr (inl refl)) i;
    srst = X;
    aload = h b.pins.aload (inr (inr (inl refl))) i;
    ad = h b.pins.ad (inr (inr (inr (inl refl)))) i;
    set = h b.pins.set (inr (inr (inr (inr (inl refl))))) i;
    clr = h b.pins.clr (inr (inr (inr (inr (inr (inl refl)))))) i;
    d = X;
    q = X;
  }

  next_trimmed : (kind : StorageKind) (value : Bit) (before : Pins) (levels : Levels) (p : Pins) → next_of kind value before (acting_of levels p) ≡ next_of kind value before (acting_of levels (trimmed (is_open kind) p))
  next_trimmed Ff value before levels p = refl
  next_trimmed Dff value before levels p = refl
  next_trimmed Dffe value before levels p = refl
  next_trimmed Sdff value before levels p = refl
  next_trimmed Sdffe value before levels p = refl
  next_trimmed Sdffce value before levels p = refl
  next_trimmed Adff value before levels p = refl
  next_trimmed Adffe value before levels p = refl
  next_trimmed Aldff value before levels p = refl
  next_trimmed Aldffe value before levels p = refl
  next_trimmed Dffsr value before levels p = refl
  next_trimmed Dffsre value before levels p = refl
  next_trimmed Dlatch value before levels p = refl
  next_trimmed Adlatch value before levels p = refl
  next_trimmed Dlatchsr value before levels p = refl
  next_trimmed Sr value before levels p = refl

  released_trimmed : (kind : StorageKind) (value : Bit) (before : Pins) (levels : Levels) (p : Pins) (other : Bit) → released_of kind value before (acting_of levels p) other ≡ released_of kind value before (acting_of levels (trimmed (is_open kind) p)) other
  released_trimmed Adff value before levels p other = refl
  released_trimmed Adffe value before levels p other = refl
  released_trimmed Aldff value before levels p other = refl
  released_trimmed Aldffe value before levels p other = refl
  released_trimmed Dffsr value before levels p other = refl
  released_trimmed Dffsre value before levels p other = refl
  released_trimmed kind value before levels p other = refl

  together_trimmed : (kind : StorageKind) (levels : Levels) (value : Bit) (was p q : Pins) (first : Bool) → trimmed (is_open kind) p ≡ trimmed (is_open kind) q → stored_in Together kind levels value was p first ≡ stored_in Together kind levels value was q first
  together_trimmed kind levels value was p q first e =
      let acting = acting_of levels (record was { clk = was_of first was.clk }) in
      next_trimmed kind value acting levels p
      ∙ (ap (λ z. next_of kind value acting (acting_of levels z)) e
      ∙ sym (next_trimmed kind value acting levels q))

  -- the pins that count decide what a storage bit has, in either order of time
  stored_trimmed : (order : Order) (kind : StorageKind) (levels : Levels) (value : Bit) (was p q : Pins) (first : Bool) → trimmed (is_open kind) p ≡ trimmed (is_open kind) q → stored_in order kind levels value was p first ≡ stored_in order kind levels value was q first
  stored_trimmed Together kind levels value was p q first e = together_trimmed kind levels value was p q first e
  stored_trimmed Released kind levels value was p q first e =
      let acting = acting_of levels (were_of first was) in
      let other = stored_in Together kind levels value was p first in
      released_trimmed kind value acting levels p other
      ∙ (ap (λ z. released_of kind value acting (acting_of levels z) other) e
      ∙ (sym (released_trimmed kind value acting levels q other)
      ∙ ap (released_of kind value acting (acting_of levels q)) (together_trimmed kind levels value was p q first e)))

  kept_agrees : (moment : Moment) (shape : Shape) (b : StoreBit) → Agree (store_points (is_latch shape.kind) b) → kept_of moment shape b old ≡ kept_of moment shape b new
  kept_agrees Start shape b h = refl
  kept_agrees (Step before inputs first order) shape b h =
      let kind = storage_kind shape.kind in
      stored_trimmed order kind shape.levels (reset_at kind shape.resets b.at) (number_pins before.now b.pins b.number) (number_pins old b.pins b.number) (number_pins new b.pins b.number) first
      (trimmed_agrees (is_latch shape.kind) b b.number h)

-- a bit of a process with two edges is the same where the clock and the reset are, in either order of time
raced_on : (order : Order) (before v w : Valuation) (first : Bool) (clock : flat.Point) (clock_level : Level) (reset : flat.Point) (reset_level : Level) (tree : Pick) (own : Place) → read v clock ≡ read w clock → read v reset ≡ read w reset
    → raced_in order before v first clock clock_level reset reset_level tree own ≡ raced_in order before w first clock clock_level reset reset_level tree own
raced_on Together before v w first clock clock_level reset reset_level tree own c r =
    let was = was_of first (read before reset) in
    (λ i. raced_of (edge_of (active_of clock_level (was_of first (read before clock))) (active_of clock_level (c i)))
    (edge_of (active_of reset_level was) (active_of reset_level (r i)))
    (picked before was tree) (picked before (r i) tree) (picked before (level_bit reset_level) tree) (before own))
raced_on Released before v w first clock clock_level reset reset_level tree own c r =
    let taken : clocked_at before v first clock clock_level reset tree own ≡ clocked_at before w first clock clock_level reset tree own = (λ i. pick_of (edge_of (active_of clock_level (was_of first (read before clock))) (active_of clock_level (c i))) (picked before (was_of first (read before reset)) tree) (before own)) in
    (λ i. pick_of (active_of reset_level (r i)) (picked_by (own_or own (taken i) before) before (level_bit reset_level) tree) (taken i))

module _ (ps : List Place) (moment : Moment) (old new : List Bit) (was : IsBoard ps moment old) (is : IsBoard ps moment new) where
  -- a row gives the same
  abbrev Same : Driven → Type 0
  Same r = value_of r.driver (time_of ps moment) (shown ps old) ≡ value_of r.driver (time_of ps moment) (shown ps new)

  read_agrees : (p : Point) → IsPointWithin (length ps) p → number_read old p ≡ number_read new p → read (shown ps old) (point_of ps p) ≡ read (shown ps new) (point_of ps p)
  read_agrees p within h = read_same ps old was.apart was.now p within ∙ (h ∙ sym (read_same ps new is.apart is.now p within))

  one : (r : Driven) (x : Driven) → In r (x ∷ []) → Same x → Same r
  one r x (inl e) h = subst Same (sym e) h
  one r x (inr i) h = absurd i

  mapped : {A : Type 0} (row : A → Driven) (xs : List A) (r : Driven) → In r (map row xs) → ((x : A) → In x xs → Same (row x)) → Same r
  mapped row xs r i h = let k = In-mapped row r xs i in subst Same (sym k.2) (h k.0 k.1)

  logic_agrees : (c : Logic) → IsLogicWithin (length ps) c → Agree old new (c.a ++ (c.b ++ c.s)) → (o : Output) → Same (output_row ps c.shape (inputs_of ps c) o)
  logic_agrees c within h o =
      let behind = agree_right old new c.a (c.b ++ c.s) h in
      let a = word_agrees old new c.a (agree_left old new c.a (c.b ++ c.s) h) in
      let b = word_agrees old new c.b (agree_left old new c.b c.s behind) in
      let s = word_agrees old new c.s (agree_right old new c.b c.s behind) in
      let inputs : number_inputs old c ≡ number_inputs new c = (λ i. a i ∷ b i ∷ s i ∷ []) in
      ap (λ z. worked_of c.shape.kind c.shape z o.at) (inputs_same ps old was.apart was.now c within ∙ (inputs ∙ sym (inputs_same ps new is.apart is.now c within)))

  store_agrees : (shape : Shape) (b : StoreBit) → IsStoreWithin (length ps) b → Agree old new (store_points (is_latch shape.kind) b) → Same (store_row ps shape b)
  store_agrees shape b within h =
      kept_same ps moment shape b old was within ∙ (kept_agrees old new moment shape b h ∙ sym (kept_same ps moment shape b new is within))

  decided_agrees : (root : BranchView) (width : ℕ) → IsBranchWithin (length ps) width root → Agree old new (branch_points root) → (o : Output) → Same (tree_row ps root o)
  decided_agrees root width within h o =
      root_same ps old was.apart was.now (read (shown ps old)) X (leaf_pick ps) (λ s. number_read old s.from) width (λ s k. read_same ps old was.apart was.now s.from k.0) refl o.at root within
      ∙ (tree_agrees old new X (λ s. number_read old s.from) (λ s. number_read new s.from) (λ s k. k) o.at root h
      ∙ sym (root_same ps new is.apart is.now (read (shown ps new)) X (leaf_pick ps) (λ s. number_read new s.from) width (λ s k. read_same ps new is.apart is.now s.from k.0) refl o.at root within))

  module _ (own : ℕ) (lt : own < length ps) (root : BranchView) (width : ℕ) (within : IsBranchWithin (length ps) width root) (h : Agree old new (branch_points root)) where
    -- whether a source comes to the bit itself
    marks_agree : (n : ℕ) (s : Source) → comes_to ps old X (Marks own) root n s ≡ comes_to ps new X (Marks own) root n s
    marks_agree zero s = refl
    marks_agree (suc n) s = by (marks_agree n) s.from s.tree
      where
        by : ((s : Source) → comes_to ps old X (Marks own) root n s ≡ comes_to ps new X (Marks own) root n s) → (from : Point) (tree : Option ℕ) → comes_to ps old X (Marks own) root (suc n) (record { from = from; tree = tree }) ≡ comes_to ps new X (Marks own) root (suc n) (record { from = from; tree = tree })
        by rest from None = refl
        by rest from (Some at) =
            more ps old was.apart was.now X (Marks own) lt root width within n (comes_to ps old X (Marks own) root n) (λ s w. refl) at
            ∙ (tree_agrees old new X (comes_to ps old X (Marks own) root n) (comes_to ps new X (Marks own) root n) (λ s e. rest s) at root h
            ∙ sym (more ps new is.apart is.now X (Marks own) lt root width within n (comes_to ps new X (Marks own) root n) (λ s w. refl) at))

  held_agrees : (tree : Tree) (b : HeldBit) → IsBranchWithin (length ps) tree.width tree.root → IsHeldBitWithin (length ps) tree.width b → Agree old new (branch_points tree.root) → number_read old b.source.from ≡ number_read new b.source.from
      → value_of (held_row ps tree b).driver (time_of ps moment) (shown ps old) ≡ value_of (held_row ps tree b).driver (time_of ps moment) (shown ps new)
  held_agrees tree b root within h e =
      by moment
    where
      by : (m : Moment) → value_of (held_row ps tree b).driver (time_of ps m) (shown ps old) ≡ value_of (held_row ps tree b).driver (time_of ps m) (shown ps new)
      by Start = refl
      by (Step before inputs first order) =
          let holds = marks_agree b.number within.0 tree.root tree.width root h tree.width b.source in
          let value = read_agrees b.source.from within.1.0 e in
          (λ i. held_of (holds i) (shown ps before.now (place_at ps b.number)) (value i))

  raced_agrees : (r : Raced) (b : HeldBit) → IsPointWithin (length ps) r.clock → IsPointWithin (length ps) r.reset → number_read old r.clock ≡ number_read new r.clock → number_read old r.reset ≡ number_read new r.reset → Same (raced_row ps r b)
  raced_agrees r b clock_within reset_within c d =
      by moment
    where
      by : (m : Moment) → value_of (raced_row ps r b).driver (time_of ps m) (shown ps old) ≡ value_of (raced_row ps r b).driver (time_of ps m) (shown ps new)
      by Start = refl
      by (Step before inputs first order) =
          raced_on order (shown ps before.now) (shown ps old) (shown ps new) first (point_of ps r.clock) r.clock_level (point_of ps r.reset) r.reset_level (value_pick ps r.tree b) (place_at ps b.number)
          (read_agrees r.clock clock_within c) (read_agrees r.reset reset_within d)

  remembered_agrees : (w : Remembered) (b : WordBit) → IsPointWithin (length ps) w.clock → number_read old w.clock ≡ number_read new w.clock → Same (word_row ps w b)
  remembered_agrees w b within c =
      by moment
    where
      by : (m : Moment) → value_of (word_row ps w b).driver (time_of ps m) (shown ps old) ≡ value_of (word_row ps w b).driver (time_of ps m) (shown ps new)
      by Start = refl
      by (Step before inputs first order) =
          let v = shown ps before.now in
          let clock = read_agrees w.clock within c in
          (λ i. pick_of (edge_of (active_of w.level (was_of first (read v (point_of ps w.clock)))) (active_of w.level (clock i)))
          (after_ports v b.address [] (ports_at b.at [] (map (ported_of ps) w.ports)) (v (place_at ps b.number))) (v (place_at ps b.number)))

  fetched_agrees : (f : Fetched) (r : ReadPort) (o : Output) → IsFetchedWithin (length ps) f → ArePointsWithin (length ps) r.address → Agree old new r.address → Agree old new (flat_map points_at f.columns) → Same (fetched_row ps f r o)
  fetched_agrees f r o within inside h k =
      let address = word_same ps old was.apart was.now r.address inside ∙ (word_agrees old new r.address h ∙ sym (word_same ps new is.apart is.now r.address inside)) in
      let column = column_same ps old was.apart was.now f.columns o.at within.columns ∙ (column_agrees old new f.columns o.at k ∙ sym (column_same ps new is.apart is.now f.columns o.at within.columns)) in
      (λ i. fetched_of (address i) f.first (column i))

  -- a part gives the same where what it reads has the same values
  pub part_agrees : (p : Part) → IsPartWithin (length ps) p → Agree old new (present_points p) → (r : Driven) → In r (part_rows ps p) → Same r
  part_agrees (part.Given o) within h r i = one r _ i (given_same ps moment o.at old ∙ sym (given_same ps moment o.at new))
  part_agrees (part.Joined j) within h r i = one r _ i (ap passed_of (read_agrees j.from within.1 (h j.from (inl refl))))
  part_agrees (part.Logic c) within h r i =
      mapped (output_row ps c.value.shape (inputs_of ps c.value)) c.value.outputs r i (λ o j. logic_agrees c.value within h o)
  part_agrees (part.Storage c) within h r i =
      mapped (store_row ps c.value.shape) c.value.bits r i (λ b j. store_agrees c.value.shape b (all_in (IsStoreWithin (length ps)) b c.value.bits within j)
      (λ p k. h p (In-flat_map (store_points (is_latch c.value.shape.kind)) p b c.value.bits j k)))
  part_agrees (part.Tree t) within h r i =
      mapped (tree_row ps t.value.root) t.value.outputs r i (λ o j. decided_agrees t.value.root t.value.width within.root h o)
  part_agrees (part.Held w) within h r i =
      let froms = map (λ (b : HeldBit). b.source.from) w.value.bits in
      mapped (held_row ps w.value.tree) w.value.bits r i (λ b j. held_agrees w.value.tree b within.tree.root (all_in (IsHeldBitWithin (length ps) w.value.tree.width) b w.value.bits within.bits j)
      (agree_left old new (branch_points w.value.tree.root) froms h)
      (agree_right old new (branch_points w.value.tree.root) froms h b.source.from (In-map (λ (b : HeldBit). b.source.from) b w.value.bits j)))
  part_agrees (part.Raced w) within h r i =
      mapped (raced_row ps w.value) w.value.bits r i (λ b j. raced_agrees w.value b within.clock within.reset (h w.value.clock (inl refl)) (h w.value.reset (inr (inl refl))))
  part_agrees (part.Remembered w) within h r i =
      mapped (word_row ps w.value) w.value.bits r i (λ b j. remembered_agrees w.value b within.clock (h w.value.clock (inl refl)))
  part_agrees (part.Fetched f) within h r i =
      let addresses = flat_map (λ (r : ReadPort). r.address) f.value.ports in
      let columns = flat_map points_at f.value.columns in
      let k = In-flat_mapped (port_rows ps f.value) r f.value.ports i in
      mapped (fetched_row ps f.value k.0) k.0.outputs r k.2 (λ o j. fetched_agrees f.value k.0 o within (all_in (IsReadPortWithin (length ps)) k.0 f.value.ports within.ports k.1).address
      (λ p m. agree_left old new addresses columns h p (In-flat_map (λ (r : ReadPort). r.address) p k.0 f.value.ports k.1 m))
      (agree_right old new addresses columns h))
