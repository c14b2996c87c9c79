-- The tree bits of a process that nothing else reads may go.
use Rattle.std.proofs.Common.{◌≡◌, ℕ, Bool, true, false, ◌&&◌, ◌||◌, List, [], ◌∷◌, ◌++◌, length, Some, ◌⊎◌, inl, inr, ⊎_elim, refl, sym, ◌∙◌, ap, subst}
use Rattle.std.specs.Prelude.{flat_map, if◌then◌else◌, map, not}
use Rattle.std.specs.List.{list_any}
use Rattle.std.proofs.lemmas.Bool.{and_parts}
use Rattle.rtl_bits.specs.declared.bit.Bit.{Bit}
use Rattle.rtl_bits.specs.declared.bit.Bit.TheVariants.{X}
use Rattle.rtl_bits.specs.Knowledge.{Below}
use Rattle.rtl_sig.specs.declared.sig.SigBit.{SigBit}
use Rattle.rtl_sig.specs.declared.sig.SigBit.TheVariants.{Fixed, Wire as OnWire}
use Rattle.rtl_sig.specs.declared.sig.WireBit.{WireBit}
use Rattle.rtl_ir.specs.Assigns.{tree_bits}
use Rattle.rtl_ir.specs.Decisions.{Branches, Choice, Decision, Leaf, NoBranch, OneBranch, case_decision, expanded}
use Rattle.rtl_ir.specs.EventTests.{switch_test}
use Rattle.rtl_ir.specs.Faults.SelfReading.{reads_itself}
use Rattle.rtl_ir.specs.Faults.TwoEdges.{EdgeBit, are_all, edge_bit}
use Rattle.rtl_ir.specs.Flat.Cell as flat
use Rattle.rtl_ir.specs.Flat.Driver.{Decided, Driven}
use Rattle.rtl_ir.specs.Flat.Pick.{no_test, pick_of, pick_points}
use Rattle.rtl_ir.specs.Flat.Place.{OfWire, Path, Place}
use Rattle.rtl_ir.specs.Flat.Point.{At, Point, bit_place, point}
use Rattle.rtl_ir.specs.Flat.Process.{no_modules, process_rows, rules_rows, tree_bit_rows}
use Rattle.rtl_ir.specs.Flat.Reads.{read_points, reads}
use Rattle.rtl_ir.specs.Flat.Start.{start_of}
use Rattle.rtl_ir.specs.Follow.{all_joins}
use Rattle.rtl_ir.specs.declared.follow.Join.{Join}
use Rattle.rtl_ir.specs.Ports.{ports_of}
use Rattle.rtl_ir.specs.Rules.{acting_rules}
use Rattle.rtl_ir.specs.Signals.{has_bit}
use Rattle.rtl_ir.specs.SwitchRules.{root_by_rules}
use Rattle.rtl_ir.specs.Tree.{CaseView}
use Rattle.rtl_ir.specs.Types.{Ports}
use Rattle.rtl_ir.specs.declared.module.Module.{Module}
use Rattle.rtl_ir.specs.declared.ports.PortLine.{PortLine}
use Rattle.rtl_ir.specs.declared.process.Event.{Event}
use Rattle.rtl_ir.specs.declared.process.Event.TheVariants.{Low, High, Posedge, Negedge, Edge, Global, Init, Always}
use Rattle.rtl_ir.specs.declared.process.Process.{Process}
use Rattle.rtl_ir.specs.declared.process.SyncRule.{SyncRule}
use Rattle.net_model.proofs.Members.{In-left, In-map, In-right}
use Rattle.net_model.specs.Lists.{Distinct, In}
use Rattle.net_model.specs.Proc.Reset.{active_leaves, are_unread, control_reads, event_signal, is_free, outer_reads, switches_at, switches_signals}
use Rattle.net_model.specs.Refine.{Solved}
use Rattle.net_model.specs.Run.{Time}
use Rattle.net_model.specs.Picked.{picked}
use Rattle.net_model.specs.Valuation.{Valuation}
use Rattle.net_model.specs.Within.{BitIn, Each, ProcessIn}
use Rattle.build_laws.proofs.Staying.{SameAccesses}
use Rattle.pass_laws.proofs.Faultless.{AreFit}
use Rattle.build_laws.proofs.CountingBits.{AreBelow}
use Rattle.build_laws.proofs.RebuildBits.{not_both}
use Rattle.build_laws.specs.Rebuilds.{driven_bits, join_bits, rules_bits}
use Rattle.reset_laws.proofs.AfterRace.{IsRace, SameTests}
use Rattle.reset_laws.proofs.ChoiceEven.{EvenSwitches}
use Rattle.reset_laws.proofs.FrameRows.{process_there, rows_after, start}
use Rattle.reset_laws.proofs.FrameStep.{Freed, IsNone, MayGo, has_in, next, race_row}
use Rattle.reset_laws.proofs.FreeOthers.{IsUnread, others_clear, unread_apart}
use Rattle.reset_laws.proofs.FreeReads.{IsClear, acting_in, bit_clear, clear, event_in, in_flat, root_links_in, signal_clear, signals_in}
use Rattle.reset_laws.proofs.FreedBits.{in_has, in_tree, unnamed_unknown}
use Rattle.reset_laws.proofs.FreedTrees.{switches_ruled}
use Rattle.pass_laws.proofs.CellReads as cells
use Rattle.reset_laws.proofs.ReadLeaves.{IsLast, leaves_last, wires_in}
use Rattle.reset_laws.proofs.ReadSources.{join_source, source_reads}
use Rattle.reset_laws.proofs.ReadSignals.{ReadsBranches, ReadsBy, pick_reads}
use Rattle.reset_laws.proofs.TreeExpanded.{AreDecided}

-- what is read in two ways
module _ (P Q S T : SigBit → Type 0) where
  abbrev Both : SigBit → Type 0
  Both s = P s × Q s

  mutual
    both_read : (d : Decision) → ReadsBy P S d → ReadsBy Q T d → ReadsBy Both S d
    both_read (Leaf s) h k = (h, k)
    both_read (Choice signal branches last) h k = (h.0, (both_branches branches h.1.0 k.1.0, both_read last h.1.1 k.1.1))

    both_branches : (branches : Branches) → ReadsBranches P S branches → ReadsBranches Q T branches → ReadsBranches Both S branches
    both_branches NoBranch h k = tt
    both_branches (OneBranch qs value rest) h k = (h.0, (both_read value h.1.0 k.1.0, both_branches rest h.1.1 k.1.1))

pub edge_in : (e : Event) (x : EdgeBit) → edge_bit e ≡ Some x → In (OnWire x.bit) (event_signal e)
edge_in (Posedge (OnWire b ∷ [])) x h = let same : b ≡ x.bit = (let whole : record { bit = b; level = true } ≡ x = cc in ap (λ (z : EdgeBit). z.bit) whole) in inl (ap OnWire (sym same))
edge_in (Negedge (OnWire b ∷ [])) x h = let same : b ≡ x.bit = (let whole : record { bit = b; level = false } ≡ x = cc in ap (λ (z : EdgeBit). z.bit) whole) in inl (ap OnWire (sym same))
edge_in (Posedge []) x h = absurd (cc)
edge_in (Posedge (Fixed c ∷ signal)) x h = absurd (cc)
edge_in (Posedge (OnWire b ∷ s ∷ signal)) x h = absurd (cc)
edge_in (Negedge []) x h = absurd (cc)
edge_in (Negedge (Fixed c ∷ signal)) x h = absurd (cc)
edge_in (Negedge (OnWire b ∷ s ∷ signal)) x h = absurd (cc)
edge_in (Low signal) x h = absurd (cc)
edge_in (High signal) x h = absurd (cc)
edge_in (Edge signal) x h = absurd (cc)
edge_in Global x h = absurd (cc)
edge_in Always x h = absurd (cc)
edge_in Init x h = absurd (cc)

module _ (ports : Ports) (over : flat.Ports) (m : Module) (pre post : List Process) (q : Process) (tests : SameTests ports m) (fit : AreFit m.cells) (even : EvenSwitches q.root.switches) (ruled : root_by_rules q.root ≡ q.root) (race : IsRace ports m (pre ++ post) q) (distinct : Distinct (map (λ (j : Join). j.bit) (all_joins race.lines))) (starts : start_of m.wires (pre ++ q ∷ post) ≡ start_of m.wires (pre ++ next ports over m pre post q tests fit even ruled race distinct ∷ post)) (accesses : SameAccesses (pre ++ q ∷ post) (pre ++ next ports over m pre post q tests fit even ruled race distinct ∷ post)) (free : is_free ports m (pre ++ post) q race.reset (all_joins race.lines) ≡ true) where
  abbrev after : Process
  after = next ports over m pre post q tests fit even ruled race distinct

  abbrev gone : List WireBit
  gone = tree_bits q.root

  abbrev js : List Join
  js = all_joins race.lines

  abbrev leaves : Join → List SigBit
  leaves j = active_leaves ports m q.root gone race.reset j

  abbrev holds : Bool
  holds = list_any (λ (j : Join). are_all j.bit (leaves j)) js

  -- the parts of what is asked
  parts : (not holds ≡ true) × ((are_unread gone (outer_reads ports m (pre ++ post)) ≡ true) × (are_unread gone (control_reads q) ≡ true))
  parts =
      let two = and_parts (not holds) (are_unread gone (outer_reads ports m (pre ++ post)) && are_unread gone (control_reads q)) free in
      (two.0, and_parts (are_unread gone (outer_reads ports m (pre ++ post))) (are_unread gone (control_reads q)) two.1)

  no_hold : (j : Join) → In j js → are_all j.bit (leaves j) ≡ false
  no_hold j i = none (λ (z : Join). are_all z.bit (leaves z)) js (by holds parts.0) j i
    where
      by : (t : Bool) → not t ≡ true → t ≡ false
      by true e = absurd (cc)
      by false e = refl

      none : (test : Join → Bool) (xs : List Join) → list_any test xs ≡ false → (x : Join) → In x xs → test x ≡ false
      none test [] e x k = absurd k
      none test (y ∷ xs) e x k = at (test y) refl e k (none test xs)
        where
          at : (t : Bool) → test y ≡ t → (t || list_any test xs) ≡ false → (x ≡ y) ⊎ In x xs → (list_any test xs ≡ false → (z : Join) → In z xs → test z ≡ false) → test x ≡ false
          at true f g l later = absurd (cc)
          at false f g (inl l) later = ap test l ∙ f
          at false f g (inr l) later = later g x l

  -- the root with its tests decided
  abbrev root : CaseView
  root = record q.root { switches = switches_at (switch_test ports m race.reset.bit) (not race.reset.level) q.root.switches }

  root_is : after.root ≡ root
  root_is = ap (λ t. if t then root else q.root) free

  root_ruled : root_by_rules root ≡ root
  root_ruled = λ i. record root { switches = switches_ruled (switch_test ports m race.reset.bit) (not race.reset.level) q.root.switches (ap (λ (z : CaseView). z.switches) ruled) i }

  -- the tree bits have the decisions of that root
  decided : (p : Path) → Freed ports over m pre post q tests fit even ruled race distinct starts accesses p
  decided p = (λ t v s. subst (λ z. AreDecided p m.wires v gone (case_decision (record q.root { switches = switches_at z (not race.reset.level) q.root.switches }))) (tests race.reset.bit) (each t v s), no_hold)
    where
      begun : SigBit → Bit
      begun = start over m pre post q after p starts accesses

      row : WireBit → Driven
      row b = record { place = bit_place p m.wires b; driver = Decided (pick_of no_test p m.wires (case_decision root b)) }

      each : (t : Time Place) (v : Valuation) → Solved (rows_after over m pre post q after p starts accesses) t v → AreDecided p m.wires v gone (case_decision root)
      each t v s b h = by (has_bit (tree_bits root) b) refl
        where
          mine : In b (tree_bits root) → In (row b) (process_rows begun p m.wires m after)
          mine i =
              In-left (row b) (tree_bit_rows begun p m.wires (root_by_rules after.root) (tree_bits after.root)) (rules_rows begun p m.wires m (root_by_rules after.root) (tree_bits after.root) (acting_rules after.syncs))
              (subst (λ z. In (row b) (tree_bit_rows begun p m.wires (root_by_rules z) (tree_bits z))) (sym root_is)
              (subst (λ z. In (row b) (tree_bit_rows begun p m.wires z (tree_bits root))) (sym root_ruled)
              (In-map (λ (c : WireBit). record { place = bit_place p m.wires c; driver = Decided (pick_of no_test p m.wires (case_decision root c)) }) b (tree_bits root) i)))

          by : (u : Bool) → has_bit (tree_bits root) b ≡ u → Below (picked v X (pick_of no_test p m.wires (case_decision root b))) (v (bit_place p m.wires b))
          by true e = s.met (row b) (process_there over m pre post q after p starts accesses (row b) (mine (has_in (tree_bits root) b e)))
          by false e =
              unnamed_unknown p m.wires v b (v (bit_place p m.wires b)) root
              (λ i. absurd (let no : true ≡ false = sym (in_has (tree_bits root) b (in_tree root root_ruled b i)) ∙ e in cc))

  module _ (within : ProcessIn (length m.wires) q) (is : IsUnread ports m (pre ++ post) q gone) (acyclic : reads_itself q.root gone ≡ false) (once : Distinct (driven_bits q)) (driven_low : AreBelow (length m.wires) (driven_bits q)) (ports_apart : (n : PortLine) → In n (ports_of m.wires) → (at : ℕ) → IsNone m gone (OfWire n.name at)) where
    control : (b : WireBit) → In b (control_reads q) → In b gone → ⊥
    control b i j = unread_apart gone (control_reads q) parts.1.1 b j i

    abbrev events : List SigBit
    events = flat_map (λ (r : SyncRule). event_signal r.event) (acting_rules q.syncs)

    module _ (p : Path) where
      abbrev F : Point → Type 0
      F = IsClear m gone is.named is.low p

      abbrev Clear : SigBit → Type 0
      Clear s = F (point p m.wires s)

      signals : Each Clear (switches_signals q.root.switches)
      signals =
          signal_clear m gone is.named is.low p (switches_signals q.root.switches) (signals_in (length m.wires) q.root.switches within.switches)
          (λ b i. control b (wires_in (switches_signals q.root.switches ++ events) b (In-left (OnWire b) (switches_signals q.root.switches) events i)))

      event : (r : SyncRule) → In r (acting_rules q.syncs) → Each Clear (event_signal r.event)
      event r i =
          signal_clear m gone is.named is.low p (event_signal r.event) (event_in (length m.wires) r.event (within.syncs r (acting_in q.syncs r i)).event)
          (λ b j. control b (wires_in (switches_signals q.root.switches ++ events) b (In-right (OnWire b) (switches_signals q.root.switches) events (in_flat (λ (z : SyncRule). event_signal z.event) (acting_rules q.syncs) r (OnWire b) i j))))

      first_acts : In race.first (acting_rules q.syncs)
      first_acts = subst (In race.first) (sym race.acting) (inl refl)

      second_acts : In race.second (acting_rules q.syncs)
      second_acts = subst (In race.second) (sym race.acting) (inr (inl refl))

      edge : (r : SyncRule) → In r (acting_rules q.syncs) → (x : EdgeBit) → edge_bit r.event ≡ Some x → F (At (bit_place p m.wires x.bit))
      edge r i x e = event r i (OnWire x.bit) (edge_in r.event x e)

      edges : F (At (bit_place p m.wires race.clock.bit)) × F (At (bit_place p m.wires race.reset.bit))
      edges =
          ⊎_elim
          (λ h. (edge race.second second_acts race.clock h.1, edge race.first first_acts race.reset h.0))
          (λ h. (edge race.first first_acts race.clock h.0, edge race.second second_acts race.reset h.1))
          race.events

      own : (j : Join) → In j js → F (At (bit_place p m.wires j.bit))
      own j i =
          let bit : In j.bit (join_bits js) = In-map (λ (z : Join). z.bit) j js i in
          let rule : In j.bit (rules_bits (acting_rules q.syncs)) = subst (In j.bit) (sym race.bits_before) bit in
          let there : In j.bit (driven_bits q) = In-right j.bit gone (rules_bits (acting_rules q.syncs)) rule in
          bit_clear m gone is.named is.low p j.bit (driven_low j.bit there) (λ k. not_both gone (rules_bits (acting_rules q.syncs)) once j.bit k rule)

      source_within : (j : Join) → In j js → BitIn (length m.wires) j.source
      source_within j i =
          let l = join_source race.first.updates j (subst (λ z. In j (all_joins z)) race.given i) in
          ((within.syncs race.first (acting_in q.syncs race.first first_acts)).updates l.0 l.1).1 j.source l.2

      abbrev Inside : SigBit → Type 0
      Inside s = BitIn (length m.wires) s

      abbrev Last : SigBit → Type 0
      Last s = IsLast q.root gone acyclic s

      picks : (j : Join) → In j js → Each F (pick_points (pick_of (switch_test no_modules m race.reset.bit) p m.wires (expanded q.root gone j.source)))
      picks j i =
          pick_reads (switch_test no_modules m race.reset.bit) p m.wires (λ s. Last s × Inside s) Clear F
          (λ s h. clear m gone is.named is.low p s h.1 (λ b e k. absurd (let no : true ≡ false = sym (in_has gone b k) ∙ h.0 b e in cc)))
          (λ s h. h) (expanded q.root gone j.source)
          (both_read Last Inside Clear Inside (expanded q.root gone j.source) (leaves_last q.root gone acyclic Clear signals j.source)
          (source_reads Inside q.root (signals_in (length m.wires) q.root.switches within.switches) (λ l k. (root_links_in (length m.wires) q within l k).1) tt gone (length gone) j.source (source_within j i)))

      races : (j : Join) → In j js → (z : Place) → In z (reads (race_row ports over m pre post q tests fit even ruled race distinct starts accesses p j).driver) → IsNone m gone z.spot
      races j i z k =
          let tree : List Point = pick_points (pick_of (switch_test no_modules m race.reset.bit) p m.wires (expanded q.root gone j.source)) in
          let all : Each F (At (bit_place p m.wires j.bit) ∷ At (bit_place p m.wires race.clock.bit) ∷ At (bit_place p m.wires race.reset.bit) ∷ tree) = more (At (bit_place p m.wires j.bit)) (At (bit_place p m.wires race.clock.bit)) (At (bit_place p m.wires race.reset.bit)) tree (own j i) edges.0 edges.1 (picks j i) in
          all (At z) (cells.in_places (read_points (race_row ports over m pre post q tests fit even ruled race distinct starts accesses p j).driver) z k) z refl
        where
          more : (a b c : Point) (ps : List Point) → F a → F b → F c → Each F ps → Each F (a ∷ b ∷ c ∷ ps)
          more a b c ps h i j k y (inl e) = subst F (sym e) h
          more a b c ps h i j k y (inr (inl e)) = subst F (sym e) i
          more a b c ps h i j k y (inr (inr (inl e))) = subst F (sym e) j
          more a b c ps h i j k y (inr (inr (inr l))) = k y l

    -- so they may go
    pub trees_go : MayGo ports over m pre post q tests fit even ruled race distinct starts accesses gone
    trees_go = record {
      ports_apart = ports_apart;
      others = λ p x h z i e. others_clear ports over m pre post q after gone is p starts accesses x h z i e;
      races = λ p j i z k. races p j i z k;
      trees = inr (λ b i. i);
      decided = λ p. inr (decided p);
    }
