-- The places of rows of processes: tree bits and updated bits.
use Rattle.std.proofs.Common.{◌≡◌, ℕ, ◌+◌, Bool, true, false, not, List, [], ◌∷◌, ◌++◌, Option, Some, None, inl, inr, ⊎_elim, refl, sym, ◌∙◌, ap, subst, true≢false}
use Rattle.std.specs.Prelude.{map, filter, flat_map, if◌then◌else◌}
use Rattle.std.specs.Option.{is_some}
use Rattle.rtl_bits.specs.declared.bit.Bit.{Bit}
use Rattle.rtl_sig.specs.declared.sig.SigBit.{SigBit}
use Rattle.rtl_sig.specs.declared.sig.WireBit.{WireBit}
use Rattle.rtl_ir.specs.declared.module.Module.{Module}
use Rattle.rtl_ir.specs.declared.process.Event.{Event}
use Rattle.rtl_ir.specs.declared.process.Event.TheVariants.{Low, High, Posedge, Negedge, Edge, Global, Init, Always}
use Rattle.rtl_ir.specs.declared.process.Process.{Process}
use Rattle.rtl_ir.specs.declared.process.SyncRule.{SyncRule}
use Rattle.rtl_ir.specs.declared.wire.Wire.{Wire}
use Rattle.rtl_ir.specs.Assigns.{left_bits, tree_bits}
use Rattle.rtl_ir.specs.Drivers.{Source, all_by, tree_drives, rule_drives}
use Rattle.rtl_ir.specs.Faults.TwoEdges.{EdgeBit, edge_bit, is_tested}
use Rattle.rtl_ir.specs.Flat.Driver.{Driven}
use Rattle.rtl_ir.specs.Flat.Place.{Path}
use Rattle.rtl_ir.specs.Flat.Point.{bit_place}
use Rattle.rtl_ir.specs.Flat.Process.{Trigger, edge_trigger, level_trigger, no_modules, tree_bit_rows, loaded_row, loaded_rows, level_row, raced_row, raced_rows, one_rule_rows, two_rules_rows, rules_rows, processes_rows, pair_by}
use Rattle.rtl_ir.specs.Follow.{all_joins, source_at}
use Rattle.rtl_ir.specs.declared.follow.Join.{Join}
use Rattle.rtl_ir.specs.Rules.{acting_rules, updated_by, updated_bits}
use Rattle.rtl_ir.specs.Signals.{same_bit}
use Rattle.rtl_ir.specs.SwitchRules.{root_by_rules}
use Rattle.rtl_ir.specs.Tree.{CaseView}
use Rattle.net_model.specs.Lists.{In}
use Rattle.net_model.specs.Refine.{places_of}
use Rattle.net_model.proofs.Members.{In-mapped, map-append, map-map, Distinct-append, In-cases}
use Rattle.check_laws.proofs.Parts.{IsPart, part_is, part_none, part_trans, part_filter, part_map}
use Rattle.check_laws.proofs.Groups.{filter_true, part_unzip}
use Rattle.check_laws.proofs.Counting.{driven, same_self}
use Rattle.check_laws.proofs.Rows.{links_bits, links_left, driven-append, at_places, rows_pair, rows_own, rows_within}
use Rattle.check_laws.proofs.Updates.{first_updates, second_updates}

-- the bits of joins
abbrev pub joined : List Join → List WireBit
joined js = map (λ (j : Join). j.bit) js

-- what processes drive: tree bits, and updated bits
abbrev pub trees_bits : List Process → List WireBit
trees_bits processes = flat_map (λ (p : Process). tree_bits p.root) processes

abbrev pub rules_bits : List Process → List WireBit
rules_bits processes = flat_map (λ (p : Process). updated_bits p.syncs) processes

all_driven : (source : Source) (bits : List WireBit) → driven (all_by source bits) ≡ bits
all_driven source [] = refl
all_driven source (b ∷ bits) = ap (λ z. b ∷ z) (all_driven source bits)

pub trees_driven : (first : ℕ) (ps : List Process) → driven (tree_drives first ps) ≡ trees_bits ps
trees_driven first [] = refl
trees_driven first (p ∷ ps) =
    driven-append (all_by (Source.FromTree first) (tree_bits p.root)) (tree_drives (first + 1) ps)
    ∙ (λ i. all_driven (Source.FromTree first) (tree_bits p.root) i ++ trees_driven (first + 1) ps i)

pub rules_driven : (first : ℕ) (ps : List Process) → driven (rule_drives first ps) ≡ rules_bits ps
rules_driven first [] = refl
rules_driven first (p ∷ ps) =
    driven-append (all_by (Source.FromRules first) (updated_bits p.syncs)) (rule_drives (first + 1) ps)
    ∙ (λ i. all_driven (Source.FromRules first) (updated_bits p.syncs) i ++ rules_driven (first + 1) ps i)

-- a bit that joins have has a source there
has_source : (js : List Join) (b : WireBit) → In b (joined js) → is_some (source_at js b) ≡ true
has_source [] b i = absurd i
has_source (j ∷ js) b i = by (same_bit j.bit b) refl (has_source js b) i
  where
    by : (t : Bool) → same_bit j.bit b ≡ t → (In b (joined js) → is_some (source_at js b) ≡ true) → In b (j.bit ∷ joined js) → is_some (if t then Some j.source else source_at js b) ≡ true
    by true e later k = refl
    by false e later (inl p) = absurd (true≢false (sym (same_self j.bit) ∙ ap (same_bit j.bit) (sym p) ∙ e))
    by false e later (inr k) = later k

-- the joins of bits that others have no source for
abbrev pub fresh : List Join → List Join → List Join
fresh edges levels = filter (λ (j : Join). not (is_some (source_at edges j.bit))) levels

-- these and the others are part of what has both
fresh_part : (edges levels : List Join) (bits : List WireBit) → IsPart (joined edges) bits → IsPart (joined levels) bits → IsPart (joined edges ++ joined (fresh edges levels)) bits
fresh_part edges levels bits h k =
    let l : IsPart (joined (fresh edges levels)) bits = part_trans (joined (fresh edges levels)) (joined levels) bits (part_map (λ (j : Join). j.bit) (fresh edges levels) levels (part_filter (λ (j : Join). not (is_some (source_at edges j.bit))) levels)) k in
    record {
      each = λ b i. ⊎_elim (h.each b) (l.each b) (In-cases b (joined edges) (joined (fresh edges levels)) i);
      once = λ u. Distinct-append (joined edges) (joined (fresh edges levels)) (h.once u) (l.once u) (λ b i j.
          let x = In-mapped (λ (z : Join). z.bit) b (fresh edges levels) j in
          let none : not (is_some (source_at edges x.0.bit)) ≡ true = filter_true (λ (z : Join). not (is_some (source_at edges z.bit))) levels x.0 x.1 in
          let some : is_some (source_at edges x.0.bit) ≡ true = has_source edges x.0.bit (subst (λ z. In z (joined edges)) x.2 i) in
          true≢false (sym none ∙ ap not some));
    }

module _ (start : SigBit → Bit) (p : Path) (wires : List Wire) where
  -- a row for each join, which stands at its bit
  joins_at : (row : Join → Driven) → ((j : Join) → (row j).place ≡ bit_place p wires j.bit) → (js : List Join) → places_of (map row js) ≡ at_places p wires (joined js)
  joins_at row h [] = refl
  joins_at row h (j ∷ js) = λ i. h j i ∷ joins_at row h js i

  tree_part : (root : CaseView) (bits : List WireBit) → IsPart (places_of (tree_bit_rows start p wires root bits)) (at_places p wires bits)
  tree_part root bits = part_is (places_of (tree_bit_rows start p wires root bits)) (at_places p wires bits) (map-map _ (λ (x : Driven). x.place) bits)

  loaded_at : (e l : Trigger) (o : Option SigBit) (j : Join) → (loaded_row start p wires e l o j).place ≡ bit_place p wires j.bit
  loaded_at e l None j = refl
  loaded_at e l (Some s) j = refl

  -- rows of joins that are part of some bits
  own_part : (row : Join → Driven) → ((j : Join) → (row j).place ≡ bit_place p wires j.bit) → (js : List Join) (bits : List WireBit) → IsPart (joined js) bits → IsPart (places_of (map row js)) (at_places p wires bits)
  own_part row h js bits k =
      part_trans (places_of (map row js)) (at_places p wires (joined js)) (at_places p wires bits)
      (part_is (places_of (map row js)) (at_places p wires (joined js)) (joins_at row h js)) (part_map (bit_place p wires) (joined js) bits k)

  loaded_part : (e l : Trigger) (edges levels : List Join) (bits : List WireBit) → IsPart (joined edges) bits → IsPart (joined levels) bits → IsPart (places_of (loaded_rows start p wires e edges l levels)) (at_places p wires bits)
  loaded_part e l edges levels bits h k =
      let first = map (λ (j : Join). loaded_row start p wires e l (source_at levels j.bit) j) edges in
      let second = map (level_row start p wires l) (fresh edges levels) in
      let rows : places_of (first ++ second) ≡ at_places p wires (joined edges ++ joined (fresh edges levels)) =
      map-append (λ (x : Driven). x.place) first second
      ∙ ((λ i. joins_at (λ (j : Join). loaded_row start p wires e l (source_at levels j.bit) j) (λ j. loaded_at e l (source_at levels j.bit) j) edges i ++ joins_at (level_row start p wires l) (λ j. refl) (fresh edges levels) i)
      ∙ sym (map-append (bit_place p wires) (joined edges) (joined (fresh edges levels)))) in
      part_trans (places_of (first ++ second)) (at_places p wires (joined edges ++ joined (fresh edges levels))) (at_places p wires bits)
      (part_is (places_of (first ++ second)) (at_places p wires (joined edges ++ joined (fresh edges levels))) rows)
      (part_map (bit_place p wires) (joined edges ++ joined (fresh edges levels)) bits (fresh_part edges levels bits h k))

  one_rule_part : (root : CaseView) (bits : List WireBit) (updates : List Join) (event : Event) (all : List WireBit) → IsPart (joined updates) all → IsPart (places_of (one_rule_rows start p wires root bits updates event)) (at_places p wires all)
  one_rule_part root bits updates Always all h = own_part _ (λ j. refl) updates all h
  one_rule_part root bits updates Global all h = own_part _ (λ j. refl) updates all h
  one_rule_part root bits updates (Posedge signal) all h = own_part _ (λ j. refl) updates all h
  one_rule_part root bits updates (Negedge signal) all h = own_part _ (λ j. refl) updates all h
  one_rule_part root bits updates (High signal) all h = own_part _ (λ j. refl) updates all h
  one_rule_part root bits updates (Low signal) all h = own_part _ (λ j. refl) updates all h
  one_rule_part root bits updates (Edge signal) all h = part_none (at_places p wires all)
  one_rule_part root bits updates Init all h = part_none (at_places p wires all)

  module _ (m : Module) (root : CaseView) (bits : List WireBit) where
    raced_part : (updates : List Join) (a b : Option EdgeBit) (all : List WireBit) → IsPart (joined updates) all → IsPart (places_of (raced_rows start p wires m root bits updates a b)) (at_places p wires all)
    raced_part updates (Some a) (Some b) all h = by (is_tested no_modules m root a)
      where
        by : (t : Bool) → IsPart (places_of (if t then map (raced_row start p wires m root bits b a) updates else map (raced_row start p wires m root bits a b) updates)) (at_places p wires all)
        by true = own_part (raced_row start p wires m root bits b a) (λ j. refl) updates all h
        by false = own_part (raced_row start p wires m root bits a b) (λ j. refl) updates all h
    raced_part updates (Some a) None all h = part_none (at_places p wires all)
    raced_part updates None (Some b) all h = part_none (at_places p wires all)
    raced_part updates None None all h = part_none (at_places p wires all)

    two_part : (a b : SyncRule) (e f l k : Option Trigger) (all : List WireBit) → IsPart (joined (all_joins a.updates)) all → IsPart (joined (all_joins b.updates)) all → IsPart (places_of (two_rules_rows start p wires m root bits (pair_by a b e f l k))) (at_places p wires all)
    two_part a b (Some e) (Some f) (Some l) (Some k) all h i = loaded_part e k (all_joins a.updates) (all_joins b.updates) all h i
    two_part a b (Some e) (Some f) None (Some k) all h i = loaded_part e k (all_joins a.updates) (all_joins b.updates) all h i
    two_part a b (Some e) None (Some l) (Some k) all h i = loaded_part e k (all_joins a.updates) (all_joins b.updates) all h i
    two_part a b (Some e) None None (Some k) all h i = loaded_part e k (all_joins a.updates) (all_joins b.updates) all h i
    two_part a b (Some e) (Some f) (Some l) None all h i = loaded_part f l (all_joins b.updates) (all_joins a.updates) all i h
    two_part a b None (Some f) (Some l) None all h i = loaded_part f l (all_joins b.updates) (all_joins a.updates) all i h
    two_part a b None (Some f) (Some l) (Some k) all h i = loaded_part f l (all_joins b.updates) (all_joins a.updates) all i h
    two_part a b (Some e) (Some f) None None all h i = raced_part (all_joins a.updates) (edge_bit a.event) (edge_bit b.event) all h
    two_part a b (Some e) None (Some l) None all h i = raced_part (all_joins a.updates) (edge_bit a.event) (edge_bit b.event) all h
    two_part a b (Some e) None None None all h i = raced_part (all_joins a.updates) (edge_bit a.event) (edge_bit b.event) all h
    two_part a b None (Some f) None (Some k) all h i = raced_part (all_joins a.updates) (edge_bit a.event) (edge_bit b.event) all h
    two_part a b None (Some f) None None all h i = raced_part (all_joins a.updates) (edge_bit a.event) (edge_bit b.event) all h
    two_part a b None None (Some l) (Some k) all h i = raced_part (all_joins a.updates) (edge_bit a.event) (edge_bit b.event) all h
    two_part a b None None (Some l) None all h i = raced_part (all_joins a.updates) (edge_bit a.event) (edge_bit b.event) all h
    two_part a b None None None (Some k) all h i = raced_part (all_joins a.updates) (edge_bit a.event) (edge_bit b.event) all h
    two_part a b None None None None all h i = raced_part (all_joins a.updates) (edge_bit a.event) (edge_bit b.event) all h

    rules_part : (rules : List SyncRule) → IsPart (places_of (rules_rows start p wires m root bits rules)) (at_places p wires (updated_by rules))
    rules_part [] = part_none []
    rules_part (a ∷ []) =
        one_rule_part root bits (all_joins a.updates) a.event (updated_by (a ∷ []))
        (part_trans (links_bits a.updates) (left_bits a.updates) (updated_by (a ∷ [])) (links_left a.updates) (first_updates a []))
    rules_part (a ∷ b ∷ []) =
        two_part a b (edge_trigger a.event) (edge_trigger b.event) (level_trigger a.event) (level_trigger b.event) (updated_by (a ∷ b ∷ []))
        (part_trans (links_bits a.updates) (left_bits a.updates) (updated_by (a ∷ b ∷ [])) (links_left a.updates) (first_updates a (b ∷ [])))
        (part_trans (links_bits b.updates) (left_bits b.updates) (updated_by (a ∷ b ∷ [])) (links_left b.updates) (second_updates a b []))
    rules_part (a ∷ b ∷ c ∷ rules) = part_none (at_places p wires (updated_by (a ∷ b ∷ c ∷ rules)))

  processes_part : (m : Module) (ps : List Process) → IsPart (places_of (processes_rows start p wires m ps)) (at_places p wires (flat_map (λ (x : Process). tree_bits x.root ++ updated_bits x.syncs) ps) ++ [])
  processes_part m [] = part_none []
  processes_part m (x ∷ xs) =
      let root = root_by_rules x.root in
      let tree = tree_bits x.root in
      let trees = tree_bit_rows start p wires root tree in
      let rules = rules_rows start p wires m root tree (acting_rules x.syncs) in
      rows_pair p wires (trees ++ rules) (processes_rows start p wires m xs) (tree ++ updated_bits x.syncs) (flat_map (λ (z : Process). tree_bits z.root ++ updated_bits z.syncs) xs) [] []
      (rows_pair p wires trees rules tree (updated_bits x.syncs) [] [] (rows_own p wires trees tree (tree_part root tree)) (rows_own p wires rules (updated_bits x.syncs) (rules_part m root tree (acting_rules x.syncs))))
      (processes_part m xs)

  pub processes_own : (m : Module) (ps : List Process) → IsPart (places_of (processes_rows start p wires m ps)) (at_places p wires (trees_bits ps ++ rules_bits ps) ++ [])
  processes_own m ps =
      rows_within p wires (processes_rows start p wires m ps) (flat_map (λ (x : Process). tree_bits x.root ++ updated_bits x.syncs) ps) (trees_bits ps ++ rules_bits ps) []
      (processes_part m ps) (part_unzip (λ (x : Process). tree_bits x.root) (λ (x : Process). updated_bits x.syncs) ps)
