-- Numbers that stand for something go on to stand for it.
use Rattle.std.proofs.Common.{◌≡◌, ℕ, zero, suc, ◌+◌, ◌<◌, List, [], ◌∷◌, ◌++◌, length, get_or, take, Some, slice_get, refl, ◌∙◌, ap, subst, arith, map, if◌then◌else◌}
use Rattle.std.specs.Prelude.{Bool, Option, None, flat_map, nat_eq}
use Rattle.std.specs.Option.{option_map_or}
use Rattle.rtl_bits.specs.declared.bit.Bit.TheVariants.{X}
use Rattle.std.specs.List.{AllByRecursion}
use Rattle.std.proofs.lemmas.Grind.{flat_map-append}
use Rattle.std.proofs.lemmas.List.{map-append, take_more, append-nil}
use Rattle.std.proofs.lemmas.Option.{slice_get_within, get_or_from_slice_get}
use Rattle.rtl_sig.specs.declared.sig.SigBit.{SigBit}
use Rattle.rtl_sig.specs.declared.sig.WireBit.{WireBit}
use Rattle.rtl_ir.specs.declared.plan.ReadPort.{ReadPort as PlanRead}
use Rattle.rtl_ir.specs.declared.store.Store.{Store}
use Rattle.rtl_ir.specs.declared.wire.Wire.{Wire}
use Rattle.rtl_ir.specs.Flat.Driver.{Driven, Given, Joined, Worked, Stored, Decided, Held as HeldBy, Raced as RacedBy, Remembered as RememberedBy, Fetched as FetchedBy}
use Rattle.rtl_ir.specs.Flat.Pick.{Pick, Is, where_of}
use Rattle.rtl_ir.specs.Flat.Place.{Path, Place, wire_place}
use Rattle.rtl_ir.specs.Flat.Point.{point, points, point_at, wire_points}
use Rattle.rtl_ir.specs.Flat.Point as rtl
use Rattle.flat_net.specs.declared.net.Output.{Output}
use Rattle.flat_net.specs.declared.net.Part.{Part}
use Rattle.flat_net.specs.declared.net.Part.TheVariants as part
use Rattle.flat_net.specs.declared.net.Point.{Point}
use Rattle.flat_net.specs.declared.net.Point.TheVariants.{Constant, At}
use Rattle.flat_net.specs.declared.net.StoreBit.{StoreBit}
use Rattle.flat_net.specs.declared.net.StorePins.{StorePins}
use Rattle.cell_types.specs.declared.shape.Shape.{Shape}
use Rattle.flat_net.specs.Cells.{listed_point}
use Rattle.flat_net.specs.declared.choices.Assign.{Assign}
use Rattle.flat_net.specs.declared.choices.Tree.{Tree}
use Rattle.flat_net.specs.declared.leaves.HeldBit.{HeldBit}
use Rattle.flat_net.specs.declared.leaves.Raced.{Raced}
use Rattle.flat_net.specs.declared.leaves.Source.{Source}
use Rattle.flat_net.specs.declared.memory.Fetched.{Fetched}
use Rattle.flat_net.specs.declared.memory.ReadPort.{ReadPort}
use Rattle.flat_net.specs.declared.memory.Remembered.{Remembered}
use Rattle.flat_net.specs.declared.memory.WordBit.{WordBit}
use Rattle.flat_net.specs.declared.memory.WritePort.{WritePort}
use Rattle.flat_net.specs.Memories.{AreBegins, AreColumns, ArePorts, AreReadPorts, Begins, IsReadPort, begins_of}
use Rattle.flat_net.specs.Words.{Ported, column_of, fetched_row, port_rows, ported_of, ports_at, word_row}
use Rattle.flat_net.specs.Choices.{Choices, NoChoice, OneChoice, Branches, NoBranch, OneBranch, BranchView}
use Rattle.flat_net.specs.Picks.{assigned_pick, branch_pick, branches_pick, choices_pick, expanded_pick, leaf_pick, root_pick, source_of, tree_pick, tree_row}
use Rattle.flat_net.specs.Trees.{AreSignals, IsSource}
use Rattle.flat_net.specs.Known.{Known, Keeps, Extends}
use Rattle.flat_net.specs.Parts.{held_row, part_rows, parts_rows, output_row, raced_row, store_row, inputs_of}
use Rattle.flat_net.specs.Points.{place_at, point_of, points_of, pins_of}
use Rattle.flat_net.specs.Reads.{AreNumbers, IsPoint, ArePoints, AreParts}
use Rattle.flat_net.specs.Within.{IsPointWithin, ArePointsWithin, ArePinsWithin, IsStoreWithin, IsAssignWithin, IsSourceWithin, AreChoicesWithin, AreBranchesWithin, IsBranchWithin, IsOutputWithin, IsTreeWithin, IsHeldBitWithin, IsRacedWithin, IsReadPortWithin, IsWritePortWithin, IsPartWithin, ArePartsWithin}
use Rattle.flat_net.proofs.Kept.{Keeps-refl, get_or-Keeps, within-Keeps}

pub Extends-refl : (k : Known) → Extends k k
Extends-refl k = record { paths = Keeps-refl k.paths; places = Keeps-refl k.places }

pub Extends-then : (a b c : Known) → Extends a b → Extends b c → Extends a c
Extends-then a b c f g = record { paths = λ n x h. g.paths n x (f.paths n x h); places = λ n x h. g.places n x (f.places n x h) }

-- a bit with a number is read
pub number_read : (ps : List Place) (n : ℕ) (q : Place) → slice_get ps n ≡ Some q → IsPoint ps (At n) (rtl.At q)
number_read ps n q h = record { is = ap rtl.At (get_or_from_slice_get ps n q _ h); within = slice_get_within ps n q h }

-- more bits have a number

module _ (ps qs : List Place) (keeps : Keeps ps qs) where
  pub place-kept : (n : ℕ) → n < length ps → place_at qs n ≡ place_at ps n
  place-kept n h = get_or-Keeps ps qs _ n keeps h

  number-kept : (n : ℕ) → n < length ps → n < length qs
  number-kept n h = within-Keeps ps qs n keeps h

  point-kept : (x : Point) → IsPointWithin (length ps) x → point_of qs x ≡ point_of ps x
  point-kept (Constant b) h = refl
  point-kept (At n) h = ap rtl.At (place-kept n h)

  point-within : (x : Point) → IsPointWithin (length ps) x → IsPointWithin (length qs) x
  point-within (Constant b) h = tt
  point-within (At n) h = number-kept n h

  points-kept : (xs : List Point) → ArePointsWithin (length ps) xs → points_of qs xs ≡ points_of ps xs
  points-kept [] h = refl
  points-kept (x ∷ xs) h = (λ i. point-kept x h.0 i ∷ points-kept xs h.1 i)

  points-within : (xs : List Point) → ArePointsWithin (length ps) xs → ArePointsWithin (length qs) xs
  points-within [] h = tt
  points-within (x ∷ xs) h = (point-within x h.0, points-within xs h.1)

  pub IsPoint-kept : (x : Point) (q : rtl.Point) → IsPoint ps x q → IsPoint qs x q
  IsPoint-kept x q h = record { is = point-kept x h.within ∙ h.is; within = point-within x h.within }

  pub ArePoints-kept : (xs : List Point) (they : List rtl.Point) → ArePoints ps xs they → ArePoints qs xs they
  ArePoints-kept xs they h = record { are = points-kept xs h.within ∙ h.are; within = points-within xs h.within }

  pub pins-kept : (x : StorePins) → ArePinsWithin (length ps) x → pins_of qs x ≡ pins_of ps x
  pins-kept x h = (λ i. record {
    clk = point-kept x.clk h.clk i;
    en = point-kept x.en h.en i;
    arst = point-kept x.arst h.arst i;
    srst = point-kept x.srst h.srst i;
    aload = point-kept x.aload h.aload i;
    ad = point-kept x.ad h.ad i;
    set = point-kept x.set h.set i;
    clr = point-kept x.clr h.clr i;
    d = point-kept x.d h.d i;
  })

  pub pins-within : (x : StorePins) → ArePinsWithin (length ps) x → ArePinsWithin (length qs) x
  pins-within x h = record {
    clk = point-within x.clk h.clk;
    en = point-within x.en h.en;
    arst = point-within x.arst h.arst;
    srst = point-within x.srst h.srst;
    aload = point-within x.aload h.aload;
    ad = point-within x.ad h.ad;
    set = point-within x.set h.set;
    clr = point-within x.clr h.clr;
    d = point-within x.d h.d;
  }

  outputs-kept : (shape : Shape) (words others : List (List rtl.Point)) → words ≡ others → (os : List Output) → AllByRecursion (λ (o : Output). o.number < length ps) os → map (output_row qs shape words) os ≡ map (output_row ps shape others) os
  outputs-kept shape words others same [] h = refl
  outputs-kept shape words others same (o ∷ os) h =
      let place = place-kept o.number h.0 in
      let rest = outputs-kept shape words others same os h.1 in
      (λ i. record { place = place i; driver = Worked shape (same i) o.at } ∷ rest i)

  outputs-within : (os : List Output) → AllByRecursion (λ (o : Output). o.number < length ps) os → AllByRecursion (λ (o : Output). o.number < length qs) os
  outputs-within [] h = tt
  outputs-within (o ∷ os) h = (number-kept o.number h.0, outputs-within os h.1)

  pub bits-kept : (shape : Shape) (bs : List StoreBit) → AllByRecursion (IsStoreWithin (length ps)) bs → map (store_row qs shape) bs ≡ map (store_row ps shape) bs
  bits-kept shape [] h = refl
  bits-kept shape (b ∷ bs) h =
      let place = place-kept b.number h.0.0 in
      let pins = pins-kept b.pins h.0.1 in
      let rest = bits-kept shape bs h.1 in
      (λ i. record { place = place i; driver = Stored b.start shape b.at (pins i) (place i) } ∷ rest i)

  pub bits-within : (bs : List StoreBit) → AllByRecursion (IsStoreWithin (length ps)) bs → AllByRecursion (IsStoreWithin (length qs)) bs
  bits-within [] h = tt
  bits-within (b ∷ bs) h = ((number-kept b.number h.0.0, pins-within b.pins h.0.1), bits-within bs h.1)

  words-kept : (ws : List (List Point)) → AllByRecursion (ArePointsWithin (length ps)) ws → map (points_of qs) ws ≡ map (points_of ps) ws
  words-kept [] h = refl
  words-kept (w ∷ ws) h = (λ i. points-kept w h.0 i ∷ words-kept ws h.1 i)

  words-within : (ws : List (List Point)) → AllByRecursion (ArePointsWithin (length ps)) ws → AllByRecursion (ArePointsWithin (length qs)) ws
  words-within [] h = tt
  words-within (w ∷ ws) h = (points-within w h.0, words-within ws h.1)

  pub AreSignals-kept : (p : Path) (wires : List Wire) (words : List (List Point)) (signals : List (List SigBit)) → AreSignals ps p wires words signals → AreSignals qs p wires words signals
  AreSignals-kept p wires words signals h = record { are = words-kept words h.within ∙ h.are; within = words-within words h.within }

  -- trees of decisions

  source-within : (width : ℕ) (s : Source) → IsSourceWithin (length ps) width s → IsSourceWithin (length qs) width s
  source-within width s h = (point-within s.from h.0, h.1)

  pub IsSource-kept : (p : Path) (wires : List Wire) (bits : List WireBit) (source : Source) (s : SigBit) → IsSource ps p wires bits source s → IsSource qs p wires bits source s
  IsSource-kept p wires bits source s h = record { from = IsPoint-kept source.from (point p wires s) h.from; tree = h.tree }

  -- what sources come to is the same
  abbrev pub AreSame : ℕ → (Source → Pick) → (Source → Pick) → Type 0
  AreSame width old new = (s : Source) → IsSourceWithin (length ps) width s → new s ≡ old s

  pub leaf-kept : (width : ℕ) → AreSame width (leaf_pick ps) (leaf_pick qs)
  leaf-kept width s h = ap Is (point-kept s.from h.0)

  module _ (width : ℕ) (old new : Source → Pick) (same : AreSame width old new) (at : ℕ) where
    pub assigns-kept : (as' : List Assign) (e : Pick) → AllByRecursion (IsAssignWithin (length ps) width) as' → assigned_pick new at as' e ≡ assigned_pick old at as' e
    assigns-kept [] e h = refl
    assigns-kept (a ∷ as') e h =
        (λ i. assigned_pick new at as' (if nat_eq a.at at then same (source_of a) h.0 i else e))
        ∙ assigns-kept as' (if nat_eq a.at at then old (source_of a) else e) h.1

    mutual
      pub choices-kept : (cs : Choices) (e : Pick) → AreChoicesWithin (length ps) width cs → choices_pick qs new at cs e ≡ choices_pick ps old at cs e
      choices-kept NoChoice e h = refl
      choices-kept (OneChoice signal test bs rest) e h =
          (λ i. choices_pick qs new at rest (branches_pick qs new at test (points-kept signal h.0 i) bs e e))
          ∙ ap (choices_pick qs new at rest) (branches-kept test (points_of ps signal) bs e e h.1)
          ∙ choices-kept rest (branches_pick ps old at test (points_of ps signal) bs e e) h.2

      pub branches-kept : (test : Option Bool) (signal : List rtl.Point) (bs : Branches) (e last : Pick) → AreBranchesWithin (length ps) width bs
          → branches_pick qs new at test signal bs e last ≡ branches_pick ps old at test signal bs e last
      branches-kept test signal NoBranch e last h = refl
      branches-kept test signal (OneBranch [] as' cs rest) e last h =
          ap (choices_pick qs new at cs) (assigns-kept as' e h.1) ∙ choices-kept cs (assigned_pick old at as' e) h.2
      branches-kept test signal (OneBranch (w ∷ ws) as' cs rest) e last h =
          let words = words-kept (w ∷ ws) h.0 in
          let met : choices_pick qs new at cs (assigned_pick new at as' e) ≡ choices_pick ps old at cs (assigned_pick old at as' e) =
          ap (choices_pick qs new at cs) (assigns-kept as' e h.1) ∙ choices-kept cs (assigned_pick old at as' e) h.2 in
          let other = branches-kept test signal rest e last h.3 in
          (λ i. where_of test signal (words i) (met i) (other i))

    pub branch-kept : (b : BranchView) (e : Pick) → IsBranchWithin (length ps) width b → branch_pick qs new at b e ≡ branch_pick ps old at b e
    branch-kept b e h = ap (choices_pick qs new at b.choices) (assigns-kept b.assigns e h.assigns) ∙ choices-kept b.choices (assigned_pick old at b.assigns e) h.choices

  pub assigns-within : (width : ℕ) (as' : List Assign) → AllByRecursion (IsAssignWithin (length ps) width) as' → AllByRecursion (IsAssignWithin (length qs) width) as'
  assigns-within width [] h = tt
  assigns-within width (a ∷ as') h = ((point-within a.from h.0.0, h.0.1), assigns-within width as' h.1)

  mutual
    pub choices-within : (width : ℕ) (cs : Choices) → AreChoicesWithin (length ps) width cs → AreChoicesWithin (length qs) width cs
    choices-within width NoChoice h = tt
    choices-within width (OneChoice signal test bs rest) h = (points-within signal h.0, branches-within width bs h.1, choices-within width rest h.2)

    pub branches-within : (width : ℕ) (bs : Branches) → AreBranchesWithin (length ps) width bs → AreBranchesWithin (length qs) width bs
    branches-within width NoBranch h = tt
    branches-within width (OneBranch ws as' cs rest) h =
        (words-within ws h.0, assigns-within width as' h.1, choices-within width cs h.2, branches-within width rest h.3)

  pub branch-within : (width : ℕ) (b : BranchView) → IsBranchWithin (length ps) width b → IsBranchWithin (length qs) width b
  branch-within width b h = record { assigns = assigns-within width b.assigns h.assigns; choices = choices-within width b.choices h.choices }

  root-kept : (width : ℕ) (root : BranchView) (at : ℕ) → IsBranchWithin (length ps) width root → tree_pick qs root at ≡ tree_pick ps root at
  root-kept width root at h = branch-kept width (leaf_pick ps) (leaf_pick qs) (leaf-kept width) at root (Is (rtl.Constant X)) h

  expanded-kept : (width : ℕ) (root : BranchView) → IsBranchWithin (length ps) width root → (n : ℕ) → AreSame width (expanded_pick ps root n) (expanded_pick qs root n)
  expanded-kept width root h zero s w = leaf-kept width s w
  expanded-kept width root h (suc n) s w = by (expanded-kept width root h n) s.tree
    where
      by : AreSame width (expanded_pick ps root n) (expanded_pick qs root n) → (o : Option ℕ) → option_map_or (root_pick qs (expanded_pick qs root n) root) o (leaf_pick qs s) ≡ option_map_or (root_pick ps (expanded_pick ps root n) root) o (leaf_pick ps s)
      by same None = leaf-kept width s w
      by same (Some at) = branch-kept width (expanded_pick ps root n) (expanded_pick qs root n) same at root (Is (rtl.Constant X)) h

  trees-kept : (root : BranchView) (width : ℕ) (os : List Output) → IsBranchWithin (length ps) width root → AllByRecursion (IsOutputWithin (length ps) width) os → map (tree_row qs root) os ≡ map (tree_row ps root) os
  trees-kept root width [] h w = refl
  trees-kept root width (o ∷ os) h w =
      let place = place-kept o.number w.0.0 in
      let tree = root-kept width root o.at h in
      let rest = trees-kept root width os h w.1 in
      (λ i. record { place = place i; driver = Decided (tree i) } ∷ rest i)

  outputs-within-tree : (width : ℕ) (os : List Output) → AllByRecursion (IsOutputWithin (length ps) width) os → AllByRecursion (IsOutputWithin (length qs) width) os
  outputs-within-tree width [] h = tt
  outputs-within-tree width (o ∷ os) h = ((number-kept o.number h.0.0, h.0.1), outputs-within-tree width os h.1)

  tree-within : (t : Tree) → IsTreeWithin (length ps) t → IsTreeWithin (length qs) t
  tree-within t h = record { root = branch-within t.width t.root h.root; outputs = outputs-within-tree t.width t.outputs h.outputs }

  helds-kept : (t : Tree) (bs : List HeldBit) → IsTreeWithin (length ps) t → AllByRecursion (IsHeldBitWithin (length ps) t.width) bs → map (held_row qs t) bs ≡ map (held_row ps t) bs
  helds-kept t [] h w = refl
  helds-kept t (b ∷ bs) h w =
      let place = place-kept b.number w.0.0 in
      let from = point-kept b.source.from w.0.1.0 in
      let tree = expanded-kept t.width t.root h.root t.width b.source w.0.1 in
      let rest = helds-kept t bs h w.1 in
      (λ i. record { place = place i; driver = HeldBy b.start (from i) (tree i) (place i) } ∷ rest i)

  raced-kept : (r : Raced) (bs : List HeldBit) → IsRacedWithin (length ps) r → AllByRecursion (IsHeldBitWithin (length ps) r.tree.width) bs → map (raced_row qs r) bs ≡ map (raced_row ps r) bs
  raced-kept r [] h w = refl
  raced-kept r (b ∷ bs) h w =
      let place = place-kept b.number w.0.0 in
      let clock = point-kept r.clock h.clock in
      let reset = point-kept r.reset h.reset in
      let tree = expanded-kept r.tree.width r.tree.root h.tree.root r.tree.width b.source w.0.1 in
      let rest = raced-kept r bs h w.1 in
      (λ i. record { place = place i; driver = RacedBy b.start (clock i) r.clock_level (reset i) r.reset_level (tree i) (place i) } ∷ rest i)

  helds-within : (width : ℕ) (bs : List HeldBit) → AllByRecursion (IsHeldBitWithin (length ps) width) bs → AllByRecursion (IsHeldBitWithin (length qs) width) bs
  helds-within width [] h = tt
  helds-within width (b ∷ bs) h = ((number-kept b.number h.0.0, source-within width b.source h.0.1), helds-within width bs h.1)

  -- memories

  numbers-kept : (ns : List ℕ) → AllByRecursion (λ n. n < length ps) ns → map (place_at qs) ns ≡ map (place_at ps) ns
  numbers-kept [] h = refl
  numbers-kept (n ∷ ns) h = (λ i. place-kept n h.0 i ∷ numbers-kept ns h.1 i)

  numbers-within : (ns : List ℕ) → AllByRecursion (λ n. n < length ps) ns → AllByRecursion (λ n. n < length qs) ns
  numbers-within [] h = tt
  numbers-within (n ∷ ns) h = (number-kept n h.0, numbers-within ns h.1)

  pub AreNumbers-kept : (ns : List ℕ) (they : List Place) → AreNumbers ps ns they → AreNumbers qs ns they
  AreNumbers-kept ns they h = record { are = numbers-kept ns h.within ∙ h.are; within = numbers-within ns h.within }

  ported-kept : (ws : List WritePort) → AllByRecursion (IsWritePortWithin (length ps)) ws → map (ported_of qs) ws ≡ map (ported_of ps) ws
  ported-kept [] h = refl
  ported-kept (w ∷ ws) h =
      let address = points-kept w.address h.0.address in
      let enable = points-kept w.enable h.0.enable in
      let new = points-kept w.word h.0.word in
      let rest = ported-kept ws h.1 in
      (λ i. record { number = w.number; mask = w.mask; address = address i; enable = enable i; new = new i } ∷ rest i)

  ports-within : (ws : List WritePort) → AllByRecursion (IsWritePortWithin (length ps)) ws → AllByRecursion (IsWritePortWithin (length qs)) ws
  ports-within [] h = tt
  ports-within (w ∷ ws) h =
      (record { address = points-within w.address h.0.address; enable = points-within w.enable h.0.enable; word = points-within w.word h.0.word }, ports-within ws h.1)

  pub ArePorts-kept : (ws : List WritePort) (they : List Ported) → ArePorts ps ws they → ArePorts qs ws they
  ArePorts-kept ws they h = record { are = ported-kept ws h.within ∙ h.are; within = ports-within ws h.within }

  begins-kept : (bs : List WordBit) → AllByRecursion (λ (b : WordBit). b.number < length ps) bs → map (begins_of qs) bs ≡ map (begins_of ps) bs
  begins-kept [] h = refl
  begins-kept (b ∷ bs) h =
      let place = place-kept b.number h.0 in
      let rest = begins-kept bs h.1 in
      (λ i. record { place = place i; start = b.start; address = b.address; at = b.at } ∷ rest i)

  word_bits-within : (bs : List WordBit) → AllByRecursion (λ (b : WordBit). b.number < length ps) bs → AllByRecursion (λ (b : WordBit). b.number < length qs) bs
  word_bits-within [] h = tt
  word_bits-within (b ∷ bs) h = (number-kept b.number h.0, word_bits-within bs h.1)

  pub AreBegins-kept : (bs : List WordBit) (they : List Begins) → AreBegins ps bs they → AreBegins qs bs they
  AreBegins-kept bs they h = record { are = begins-kept bs h.within ∙ h.are; within = word_bits-within bs h.within }

  word_rows-kept : (w : Remembered) (bs : List WordBit) → IsPointWithin (length ps) w.clock → AllByRecursion (IsWritePortWithin (length ps)) w.ports
      → AllByRecursion (λ (b : WordBit). b.number < length ps) bs → map (word_row qs w) bs ≡ map (word_row ps w) bs
  word_rows-kept w [] c h k = refl
  word_rows-kept w (b ∷ bs) c h k =
      let place = place-kept b.number k.0 in
      let clock = point-kept w.clock c in
      let ports = ported-kept w.ports h in
      let rest = word_rows-kept w bs c h k.1 in
      (λ i. record { place = place i; driver = RememberedBy b.start (clock i) w.level b.address (ports_at b.at [] (ports i)) (place i) } ∷ rest i)

  column-kept : (cs : List (List ℕ)) (at : ℕ) → AllByRecursion (AllByRecursion (λ n. n < length ps)) cs → column_of qs cs at ≡ column_of ps cs at
  column-kept [] at h = refl
  column-kept (ns ∷ cs) zero h = each ns h.0
    where
      each : (ns : List ℕ) → AllByRecursion (λ n. n < length ps) ns → map (λ n. rtl.At (place_at qs n)) ns ≡ map (λ n. rtl.At (place_at ps n)) ns
      each [] h = refl
      each (n ∷ ns) h = (λ i. rtl.At (place-kept n h.0 i) ∷ each ns h.1 i)
  column-kept (ns ∷ cs) (suc at) h = column-kept cs at h.1

  columns-kept : (cs : List (List ℕ)) → AllByRecursion (AllByRecursion (λ n. n < length ps)) cs → map (map (place_at qs)) cs ≡ map (map (place_at ps)) cs
  columns-kept [] h = refl
  columns-kept (ns ∷ cs) h = (λ i. numbers-kept ns h.0 i ∷ columns-kept cs h.1 i)

  columns-within : (cs : List (List ℕ)) → AllByRecursion (AllByRecursion (λ n. n < length ps)) cs → AllByRecursion (AllByRecursion (λ n. n < length qs)) cs
  columns-within [] h = tt
  columns-within (ns ∷ cs) h = (numbers-within ns h.0, columns-within cs h.1)

  pub AreColumns-kept : (p : Path) (s : Store) (cs : List (List ℕ)) (width : ℕ) → AreColumns ps p s cs width → AreColumns qs p s cs width
  AreColumns-kept p s cs width h = record { are = columns-kept cs h.within ∙ h.are; within = columns-within cs h.within }

  fetched-kept : (f : Fetched) (r : ReadPort) (os : List Output) → AllByRecursion (AllByRecursion (λ n. n < length ps)) f.columns → ArePointsWithin (length ps) r.address
      → AllByRecursion (λ (o : Output). o.number < length ps) os → map (fetched_row qs f r) os ≡ map (fetched_row ps f r) os
  fetched-kept f r [] c h k = refl
  fetched-kept f r (o ∷ os) c h k =
      let place = place-kept o.number k.0 in
      let address = points-kept r.address h in
      let column = column-kept f.columns o.at c in
      let rest = fetched-kept f r os c h k.1 in
      (λ i. record { place = place i; driver = FetchedBy (address i) f.first (column i) } ∷ rest i)

  port_rows-kept : (f : Fetched) (rs : List ReadPort) → AllByRecursion (AllByRecursion (λ n. n < length ps)) f.columns → AllByRecursion (IsReadPortWithin (length ps)) rs
      → flat_map (port_rows qs f) rs ≡ flat_map (port_rows ps f) rs
  port_rows-kept f [] c h = refl
  port_rows-kept f (r ∷ rs) c h =
      let here = fetched-kept f r r.outputs c h.0.address h.0.outputs in
      let rest = port_rows-kept f rs c h.1 in
      (λ i. here i ++ rest i)

  read_ports-within : (rs : List ReadPort) → AllByRecursion (IsReadPortWithin (length ps)) rs → AllByRecursion (IsReadPortWithin (length qs)) rs
  read_ports-within [] h = tt
  read_ports-within (r ∷ rs) h =
      (record { address = points-within r.address h.0.address; outputs = outputs-within r.outputs h.0.outputs }, read_ports-within rs h.1)

  IsReadPort-kept : (p : Path) (wires : List Wire) (r : ReadPort) (it : PlanRead) → IsReadPort ps p wires r it → IsReadPort qs p wires r it
  IsReadPort-kept p wires r it h = record {
    address = ArePoints-kept r.address (points p wires it.address) h.address;
    outputs = λ shape inputs. outputs-kept shape inputs inputs refl r.outputs h.within ∙ h.outputs shape inputs;
    within = outputs-within r.outputs h.within;
  }

  pub AreReadPorts-kept : (p : Path) (wires : List Wire) (rs : List ReadPort) (they : List PlanRead) → AreReadPorts ps p wires rs they → AreReadPorts qs p wires rs they
  AreReadPorts-kept p wires [] [] h = tt
  AreReadPorts-kept p wires [] (it ∷ they) h = absurd h
  AreReadPorts-kept p wires (r ∷ rs) [] h = absurd h
  AreReadPorts-kept p wires (r ∷ rs) (it ∷ they) h = (IsReadPort-kept p wires r it h.0, AreReadPorts-kept p wires rs they h.1)

  part-kept : (x : Part) → IsPartWithin (length ps) x → part_rows qs x ≡ part_rows ps x
  part-kept (part.Given o) h = let place = place-kept o.number h in (λ i. record { place = place i; driver = Given o.at } ∷ [])
  part-kept (part.Joined j) h =
      let place = place-kept j.to h.0 in
      let from = point-kept j.from h.1 in
      (λ i. record { place = place i; driver = Joined (from i) } ∷ [])
  part-kept (part.Logic c) h =
      let a = points-kept c.value.a h.a in
      let b = points-kept c.value.b h.b in
      let s = points-kept c.value.s h.s in
      let inputs : inputs_of qs c.value ≡ inputs_of ps c.value = (λ i. a i ∷ b i ∷ s i ∷ []) in
      outputs-kept c.value.shape (inputs_of qs c.value) (inputs_of ps c.value) inputs c.value.outputs h.outputs
  part-kept (part.Storage c) h = bits-kept c.value.shape c.value.bits h
  part-kept (part.Tree t) h = trees-kept t.value.root t.value.width t.value.outputs h.root h.outputs
  part-kept (part.Held h) w = helds-kept h.value.tree h.value.bits w.tree w.bits
  part-kept (part.Raced r) w = raced-kept r.value r.value.bits w w.bits
  part-kept (part.Remembered w) h = word_rows-kept w.value w.value.bits h.clock h.ports h.bits
  part-kept (part.Fetched f) h = port_rows-kept f.value f.value.ports h.columns h.ports

  part-within : (x : Part) → IsPartWithin (length ps) x → IsPartWithin (length qs) x
  part-within (part.Given o) h = number-kept o.number h
  part-within (part.Joined j) h = (number-kept j.to h.0, point-within j.from h.1)
  part-within (part.Logic c) h = record {
    a = points-within c.value.a h.a;
    b = points-within c.value.b h.b;
    s = points-within c.value.s h.s;
    outputs = outputs-within c.value.outputs h.outputs;
  }
  part-within (part.Storage c) h = bits-within c.value.bits h
  part-within (part.Tree t) h = tree-within t.value h
  part-within (part.Held h) w = record { tree = tree-within h.value.tree w.tree; bits = helds-within h.value.tree.width h.value.bits w.bits }
  part-within (part.Raced r) w = record {
    tree = tree-within r.value.tree w.tree;
    clock = point-within r.value.clock w.clock;
    reset = point-within r.value.reset w.reset;
    bits = helds-within r.value.tree.width r.value.bits w.bits;
  }
  part-within (part.Remembered w) h = record {
    clock = point-within w.value.clock h.clock;
    ports = ports-within w.value.ports h.ports;
    bits = word_bits-within w.value.bits h.bits;
  }
  part-within (part.Fetched f) h = record { columns = columns-within f.value.columns h.columns; ports = read_ports-within f.value.ports h.ports }

  parts-kept : (xs : List Part) → ArePartsWithin (length ps) xs → parts_rows qs xs ≡ parts_rows ps xs
  parts-kept [] h = refl
  parts-kept (x ∷ xs) h = (λ i. part-kept x h.0 i ++ parts-kept xs h.1 i)

  parts-within : (xs : List Part) → ArePartsWithin (length ps) xs → ArePartsWithin (length qs) xs
  parts-within [] h = tt
  parts-within (x ∷ xs) h = (part-within x h.0, parts-within xs h.1)

  pub AreParts-kept : (xs : List Part) (rows : List Driven) → AreParts ps xs rows → AreParts qs xs rows
  AreParts-kept xs rows h = record { are = parts-kept xs h.within ∙ h.are; within = parts-within xs h.within }

-- one more at the end

pub all_end : {A : Type 0} (P : A → Type 0) (xs : List A) (y : A) → AllByRecursion P xs → P y → AllByRecursion P (xs ++ y ∷ [])
all_end P [] y h p = (p, tt)
all_end P (x ∷ xs) y h p = (h.0, all_end P xs y h.1 p)

pub ArePoints-none : (ps : List Place) → ArePoints ps [] []
ArePoints-none ps = record { are = refl; within = tt }

pub ArePoints-end : (ps : List Place) (xs : List Point) (they : List rtl.Point) (x : Point) (it : rtl.Point) → ArePoints ps xs they → IsPoint ps x it → ArePoints ps (xs ++ x ∷ []) (they ++ it ∷ [])
ArePoints-end ps xs they x it h k = record {
  are = map-append (point_of ps) xs (x ∷ []) ∙ (λ i. h.are i ++ k.is i ∷ []);
  within = all_end (IsPointWithin (length ps)) xs x h.within k.within;
}

-- the next point is read, over more bits
pub ArePoints-next : (ps qs : List Place) (xs ys : List Point) (they all : List rtl.Point) (x : Point) (it : rtl.Point) → Keeps ps qs → ArePoints ps xs they → IsPoint qs x it
    → ys ≡ xs ++ x ∷ [] → all ≡ they ++ it ∷ [] → ArePoints qs ys all
ArePoints-next ps qs xs ys they all x it keeps h k e f = rw (e, f) (ArePoints-end qs xs they x it (ArePoints-kept ps qs keeps xs they h) k)

pub AreParts-end : (ps : List Place) (xs : List Part) (rows : List Driven) (x : Part) (more : List Driven) → AreParts ps xs rows → part_rows ps x ≡ more → IsPartWithin (length ps) x → AreParts ps (xs ++ x ∷ []) (rows ++ more)
AreParts-end ps xs rows x more h e w = record {
  are = flat_map-append (part_rows ps) xs (x ∷ []) ∙ (λ i. h.are i ++ (append-nil (part_rows ps x) ∙ e) i);
  within = all_end (IsPartWithin (length ps)) xs x h.within w;
}

-- the definitions, one more at the end

points-append : (p : Path) (wires : List Wire) (xs ys : List SigBit) → points p wires (xs ++ ys) ≡ points p wires xs ++ points p wires ys
points-append p wires [] ys = refl
points-append p wires (x ∷ xs) ys = ap (λ qs. point p wires x ∷ qs) (points-append p wires xs ys)

pub points-more : (p : Path) (wires : List Wire) (signal : List SigBit) (i : ℕ) (d : SigBit) → i < length signal
    → points p wires (take (i + 1) signal) ≡ points p wires (take i signal) ++ point p wires (get_or signal i d) ∷ []
points-more p wires signal i d h = ap (points p wires) (take_more signal i d h) ∙ points-append p wires (take i signal) (get_or signal i d ∷ [])

pub wire_points-more : (p : Path) (name : List ℕ) (at n : ℕ) → wire_points p name at (n + 1) ≡ wire_points p name at n ++ rtl.At (wire_place p name (at + n)) ∷ []
wire_points-more p name at zero = let e : at + 0 ≡ at = omega arith in rw e refl
wire_points-more p name at (suc n) =
    let next : suc at + n ≡ at + suc n = omega arith in
    let step : suc n + 1 ≡ suc (n + 1) = omega arith in
    rw step (ap (λ qs. rtl.At (wire_place p name at) ∷ qs) (wire_points-more p name (suc at) n ∙ ap (λ k. wire_points p name (suc at) n ++ rtl.At (wire_place p name k) ∷ []) next))

pub wire_points-next : (p : Path) (name : List ℕ) (n : ℕ) → wire_points p name 0 (n + 1) ≡ wire_points p name 0 n ++ rtl.At (wire_place p name n) ∷ []
wire_points-next p name n =
    let here : 0 + n ≡ n = omega arith in
    subst (λ k. wire_points p name 0 (n + 1) ≡ wire_points p name 0 n ++ rtl.At (wire_place p name k) ∷ []) here (wire_points-more p name 0 n)

-- a point of a list is read
pub listed_read : (ps : List Place) (xs : List Point) (they : List rtl.Point) (at : ℕ) → ArePoints ps xs they → IsPoint ps (listed_point xs at) (point_at they at)
listed_read ps xs they at h = subst (λ qs. IsPoint ps (listed_point xs at) (point_at qs at)) h.are (each xs at h.within)
  where
    each : (xs : List Point) (at : ℕ) → ArePointsWithin (length ps) xs → IsPoint ps (listed_point xs at) (point_at (points_of ps xs) at)
    each [] at w = record { is = refl; within = tt }
    each (x ∷ xs) zero w = record { is = refl; within = w.0 }
    each (x ∷ xs) (suc at) w = each xs at w.1
