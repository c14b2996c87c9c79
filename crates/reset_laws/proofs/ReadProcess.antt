-- What the rows of a process read: its signals, and the bit itself.
use Rattle.std.proofs.Common.{◌≡◌, Bool, true, false, cond, List, [], ◌∷◌, ◌++◌, length, Option, Some, None, inl, inr, ⊎_elim, refl, sym, subst}
use Rattle.std.specs.Prelude.{filter, if◌then◌else◌, map, not}
use Rattle.std.specs.Option.{is_some}
use Rattle.rtl_bits.specs.declared.bit.Bit.{Bit}
use Rattle.rtl_bits.specs.declared.bit.Bit.TheVariants.{X}
use Rattle.rtl_sig.specs.declared.sig.SigBit.{SigBit}
use Rattle.rtl_sig.specs.declared.sig.SigBit.TheVariants.{Wire as OnWire}
use Rattle.rtl_sig.specs.declared.sig.WireBit.{WireBit}
use Rattle.rtl_ir.specs.Assigns.{case_assigns, tree_bits}
use Rattle.rtl_ir.specs.Decisions.{case_decision, expanded}
use Rattle.rtl_ir.specs.EventTests.{switch_test}
use Rattle.rtl_ir.specs.Faults.TwoEdges.{EdgeBit, SwitchTest, edge_bit, is_tested}
use Rattle.rtl_ir.specs.Flat.Driver.{Decided, Driven, Held, Joined, StorePoints}
use Rattle.rtl_ir.specs.Flat.Pick.{no_test, pick_of, pick_points}
use Rattle.rtl_ir.specs.Flat.Place.{Path, Place}
use Rattle.rtl_ir.specs.Flat.Point.{At, Constant, Point, bit_place, point}
use Rattle.cell_types.specs.Levels.{low}
use Rattle.cell_types.specs.declared.level.Level.TheVariants as Levels
use Rattle.cell_types.specs.declared.storage.StorageKind.TheVariants.{Ff}
use Rattle.reset_laws.proofs.AfterRows.{at_edge}
use Rattle.reset_laws.proofs.RaceRows.{trigger}
use Rattle.rtl_ir.specs.Flat.Process.{Trigger, always_row, edge_row, edge_trigger, event_point, level_row, level_trigger, loaded_row, loaded_rows, may_hold, no_modules, no_pins, one_rule_rows, process_rows, raced_row, raced_rows, rule_row, rules_rows, tree_bit_rows, two_rules_rows, pair_by}
use Rattle.rtl_ir.specs.Flat.Reads.{read_points, store_list}
use Rattle.rtl_ir.specs.Follow.{all_joins, source_at}
use Rattle.rtl_ir.specs.declared.follow.Join.{Join}
use Rattle.rtl_ir.specs.Rules.{acting_rules}
use Rattle.rtl_ir.specs.SwitchRules.{root_by_rules}
use Rattle.rtl_ir.specs.Tree.{CaseView}
use Rattle.rtl_ir.specs.declared.module.Link.{Link}
use Rattle.rtl_ir.specs.declared.module.Module.{Module}
use Rattle.rtl_ir.specs.declared.process.Event.{Event}
use Rattle.rtl_ir.specs.declared.process.Event.TheVariants.{Low, High, Posedge, Negedge, Edge, Global, Init, Always}
use Rattle.rtl_ir.specs.declared.process.Process.{Process}
use Rattle.rtl_ir.specs.declared.process.SyncRule.{SyncRule}
use Rattle.rtl_ir.specs.declared.wire.Wire.{Wire}
use Rattle.net_model.proofs.Members.{In-cases, In-mapped}
use Rattle.net_model.specs.Lists.{In}
use Rattle.net_model.specs.Proc.Reset.{event_signal, switches_signals}
use Rattle.net_model.specs.Within.{Each}
use Rattle.follow_laws.proofs.Following.{source_in}
use Rattle.reset_laws.proofs.ReadSignals.{pick_reads}
use Rattle.reset_laws.proofs.ReadSources.{decision_reads, source_reads}

-- a point is of a sort, where constants are
module _ (F : Point → Type 0) (constant : (c : Bit) → F (Constant c)) (start : SigBit → Bit) (p : Path) (wires : List Wire) where
  abbrev pub Ok : SigBit → Type 0
  Ok s = F (point p wires s)

  -- each point that a row reads
  abbrev pub IsFree : Driven → Type 0
  IsFree x = Each F (read_points x.driver)

  one : (a : Point) (ps : List Point) → F a → Each F ps → Each F (a ∷ ps)
  one a ps h k x (inl e) = subst F (sym e) h
  one a ps h k x (inr i) = k x i

  none : Each F []
  none x i = absurd i

  event_free : (signal : List SigBit) → Each Ok signal → F (event_point start p wires signal)
  event_free [] h = constant X
  event_free (s ∷ signal) h = h s (inl refl)

  -- what a storage bit reads
  record StoreFree (s : StorePoints) : Type 0 where
    clk : F s.clk
    en : F s.en
    arst : F s.arst
    srst : F s.srst
    aload : F s.aload
    ad : F s.ad
    set : F s.set
    clr : F s.clr
    d : F s.d

  store_free : (own : Place) (s : StorePoints) → F (At own) → StoreFree s → Each F (At own ∷ store_list s)
  store_free own s h k y (inl e) = subst F (sym e) h
  store_free own s h k y (inr (inl e)) = subst F (sym e) k.clk
  store_free own s h k y (inr (inr (inl e))) = subst F (sym e) k.en
  store_free own s h k y (inr (inr (inr (inl e)))) = subst F (sym e) k.arst
  store_free own s h k y (inr (inr (inr (inr (inl e))))) = subst F (sym e) k.srst
  store_free own s h k y (inr (inr (inr (inr (inr (inl e)))))) = subst F (sym e) k.aload
  store_free own s h k y (inr (inr (inr (inr (inr (inr (inl e))))))) = subst F (sym e) k.ad
  store_free own s h k y (inr (inr (inr (inr (inr (inr (inr (inl e)))))))) = subst F (sym e) k.set
  store_free own s h k y (inr (inr (inr (inr (inr (inr (inr (inr (inl e))))))))) = subst F (sym e) k.clr
  store_free own s h k y (inr (inr (inr (inr (inr (inr (inr (inr (inr (inl e)))))))))) = subst F (sym e) k.d
  store_free own s h k y (inr (inr (inr (inr (inr (inr (inr (inr (inr (inr i)))))))))) = absurd i

  edge_free : (e : Trigger) (j : Join) → Each Ok e.signal → F (At (bit_place p wires j.bit)) → Ok j.source → IsFree (edge_row start p wires e j)
  edge_free e j h own k =
      store_free (bit_place p wires j.bit) (record no_pins { clk = event_point start p wires e.signal; d = point p wires j.source }) own (record { clk = event_free e.signal h; en = constant X; arst = constant X; srst = constant X; aload = constant X; ad = constant X; set = constant X; clr = constant X; d = k })

  level_free : (l : Trigger) (j : Join) → Each Ok l.signal → F (At (bit_place p wires j.bit)) → Ok j.source → IsFree (level_row start p wires l j)
  level_free l j h own k =
      store_free (bit_place p wires j.bit) (record no_pins { en = event_point start p wires l.signal; d = point p wires j.source }) own (record { clk = constant X; en = event_free l.signal h; arst = constant X; srst = constant X; aload = constant X; ad = constant X; set = constant X; clr = constant X; d = k })

  global_free : (j : Join) → F (At (bit_place p wires j.bit)) → Ok j.source → Each F (At (bit_place p wires j.bit) ∷ store_list (record no_pins { d = point p wires j.source }))
  global_free j own k = store_free (bit_place p wires j.bit) (record no_pins { d = point p wires j.source }) own (record { clk = constant X; en = constant X; arst = constant X; srst = constant X; aload = constant X; ad = constant X; set = constant X; clr = constant X; d = k })

  loaded_free : (e l : Trigger) (o : Option SigBit) (j : Join) → Each Ok e.signal → Each Ok l.signal → ((s : SigBit) → o ≡ Some s → Ok s) → F (At (loaded_row start p wires e l o j).place) → Ok j.source → IsFree (loaded_row start p wires e l o j)
  loaded_free e l None j h i load own k = edge_free e j h own k
  loaded_free e l (Some s) j h i load own k =
      store_free (bit_place p wires j.bit) (record no_pins { clk = event_point start p wires e.signal; d = point p wires j.source; aload = event_point start p wires l.signal; ad = point p wires s }) own
      (record { clk = event_free e.signal h; en = constant X; arst = constant X; srst = constant X; aload = event_free l.signal i; ad = load s refl; set = constant X; clr = constant X; d = k })

  module _ (root : CaseView) (bits : List WireBit) (signals : Each Ok (switches_signals root.switches)) (rights : (l : Link) → In l (case_assigns root) → Each Ok l.right) where
    tree_free : (y : Driven) → In y (tree_bit_rows start p wires root bits) → IsFree y
    tree_free y i =
        let k = In-mapped (λ (b : WireBit). record { place = bit_place p wires b; driver = Decided (pick_of no_test p wires (case_decision root b)) }) y bits i in
        subst IsFree (sym k.2) (pick_reads no_test p wires Ok Ok F (λ s h. h) (λ s h. h) (case_decision root k.0) (decision_reads Ok root signals rights (constant X) k.0))

    picked_free : (test : SwitchTest) (j : Join) → Ok j.source → Each F (pick_points (pick_of test p wires (expanded root bits j.source)))
    picked_free test j k =
        pick_reads test p wires Ok Ok F (λ s h. h) (λ s h. h) (expanded root bits j.source) (source_reads Ok root signals rights (constant X) bits (length bits) j.source k)

    always_free : (j : Join) → F (At (bit_place p wires j.bit)) → Ok j.source → IsFree (always_row start p wires root bits j)
    always_free j own k = by (may_hold root bits j)
      where
        by : (t : Bool) → Each F (read_points (if t then Held (start (OnWire j.bit)) (point p wires j.source) (pick_of no_test p wires (expanded root bits j.source)) (bit_place p wires j.bit) else Joined (point p wires j.source)))
        by true =
            let tree : List Point = pick_points (pick_of no_test p wires (expanded root bits j.source)) in
            one (At (bit_place p wires j.bit)) (point p wires j.source ∷ tree) own (one (point p wires j.source) tree k (picked_free no_test j k))
        by false = one (point p wires j.source) [] k none

    raced_free : (m : Module) (clock reset : EdgeBit) (j : Join) → F (At (bit_place p wires clock.bit)) → F (At (bit_place p wires reset.bit)) → F (At (bit_place p wires j.bit)) → Ok j.source → IsFree (raced_row start p wires m root bits clock reset j)
    raced_free m clock reset j c r own k =
        let tree : List Point = pick_points (pick_of (switch_test no_modules m reset.bit) p wires (expanded root bits j.source)) in
        one (At (bit_place p wires j.bit)) (At (bit_place p wires clock.bit) ∷ At (bit_place p wires reset.bit) ∷ tree) own
        (one (At (bit_place p wires clock.bit)) (At (bit_place p wires reset.bit) ∷ tree) c (one (At (bit_place p wires reset.bit)) tree r (picked_free (switch_test no_modules m reset.bit) j k)))

    -- rows of places of lines
    module _ (m : Module) where
      abbrev OfTrigger : Option Trigger → Type 0
      OfTrigger None = Unit {0}
      OfTrigger (Some t) = Each Ok t.signal

      of_map : (f : Join → Driven) (js : List Join) → Each (λ (j : Join). Ok j.source) js → ((j : Join) → In j js → F (At (f j).place) → Ok j.source → IsFree (f j)) → (y : Driven) → In y (map f js) → F (At y.place) → IsFree y
      of_map f js h k y i own =
          let z = In-mapped f y js i in
          subst IsFree (sym z.2) (k z.0 z.1 (subst (λ (d : Driven). F (At d.place)) z.2 own) (h z.0 z.1))

      loaded_all : (e : Trigger) (edges : List Join) (l : Trigger) (levels : List Join) → Each Ok e.signal → Each Ok l.signal → Each (λ (j : Join). Ok j.source) edges → Each (λ (j : Join). Ok j.source) levels → (y : Driven) → In y (loaded_rows start p wires e edges l levels) → F (At y.place) → IsFree y
      loaded_all e edges l levels h i k n y j own =
          ⊎_elim
          (λ a. of_map (λ (z : Join). loaded_row start p wires e l (source_at levels z.bit) z) edges k (λ z b o s. loaded_free e l (source_at levels z.bit) z h i (λ r f. n (record { bit = z.bit; source = r }) (source_in levels z.bit r f)) o s) y a own)
          (λ a. of_map (level_row start p wires l) (filter (λ (z : Join). not (is_some (source_at edges z.bit))) levels) (λ z b. n z (filtered _ levels z b)) (λ z b o s. level_free l z i o s) y a own)
          (In-cases y (map (λ (z : Join). loaded_row start p wires e l (source_at levels z.bit) z) edges) (map (level_row start p wires l) (filter (λ (z : Join). not (is_some (source_at edges z.bit))) levels)) j)
        where
          filtered : (test : Join → Bool) (js : List Join) (z : Join) → In z (filter test js) → In z js
          filtered test [] z b = absurd b
          filtered test (r ∷ js) z b = by (test r) b (filtered test js z)
            where
              by : (t : Bool) → In z (cond t (r ∷ filter test js) (filter test js)) → (In z (filter test js) → In z js) → In z (r ∷ js)
              by true (inl f) later = inl f
              by true (inr c) later = inr (later c)
              by false c later = inr (later c)

      edge_signal : (e : Event) (t : Trigger) → edge_trigger e ≡ Some t → Each Ok (event_signal e) → Each Ok t.signal
      edge_signal (Posedge signal) t f h = subst OfTrigger f h
      edge_signal (Negedge signal) t f h = subst OfTrigger f h
      edge_signal (Low signal) t f h = absurd (cc)
      edge_signal (High signal) t f h = absurd (cc)
      edge_signal (Edge signal) t f h = absurd (cc)
      edge_signal Global t f h = absurd (cc)
      edge_signal Always t f h = absurd (cc)
      edge_signal Init t f h = absurd (cc)

      level_signal : (e : Event) (t : Trigger) → level_trigger e ≡ Some t → Each Ok (event_signal e) → Each Ok t.signal
      level_signal (Low signal) t f h = subst OfTrigger f h
      level_signal (High signal) t f h = subst OfTrigger f h
      level_signal (Posedge signal) t f h = absurd (cc)
      level_signal (Negedge signal) t f h = absurd (cc)
      level_signal (Edge signal) t f h = absurd (cc)
      level_signal Global t f h = absurd (cc)
      level_signal Always t f h = absurd (cc)
      level_signal Init t f h = absurd (cc)

      edge_wire : (e : Event) (y : EdgeBit) → edge_bit e ≡ Some y → Each Ok (event_signal e) → F (At (bit_place p wires y.bit))
      edge_wire e y f h =
          let is = at_edge e y f in
          edge_signal e (trigger y) is.edge h (OnWire y.bit) (inl refl)

      one_rule_free : (updates : List Join) (e : Event) → Each Ok (event_signal e) → Each (λ (j : Join). Ok j.source) updates → (y : Driven) → In y (one_rule_rows start p wires root bits updates e) → F (At y.place) → IsFree y
      one_rule_free updates Always h k = of_map (always_row start p wires root bits) updates k (λ j i o s. always_free j o s)
      one_rule_free updates Global h k = of_map (λ (j : Join). rule_row start p wires Ff low (record no_pins { d = point p wires j.source }) j.bit) updates k (λ j i o s. global_free j o s)
      one_rule_free updates (Posedge signal) h k = of_map (edge_row start p wires (record { signal = signal; level = Levels.High })) updates k (λ j i o s. edge_free (record { signal = signal; level = Levels.High }) j h o s)
      one_rule_free updates (Negedge signal) h k = of_map (edge_row start p wires (record { signal = signal; level = Levels.Low })) updates k (λ j i o s. edge_free (record { signal = signal; level = Levels.Low }) j h o s)
      one_rule_free updates (High signal) h k = of_map (level_row start p wires (record { signal = signal; level = Levels.High })) updates k (λ j i o s. level_free (record { signal = signal; level = Levels.High }) j h o s)
      one_rule_free updates (Low signal) h k = of_map (level_row start p wires (record { signal = signal; level = Levels.Low })) updates k (λ j i o s. level_free (record { signal = signal; level = Levels.Low }) j h o s)
      one_rule_free updates (Edge signal) h k = λ y i o. absurd i
      one_rule_free updates Init h k = λ y i o. absurd i

      raced_all : (updates : List Join) (a b : Event) (x y : Option EdgeBit) → edge_bit a ≡ x → edge_bit b ≡ y → Each Ok (event_signal a) → Each Ok (event_signal b) → Each (λ (j : Join). Ok j.source) updates → (z : Driven) → In z (raced_rows start p wires m root bits updates x y) → F (At z.place) → IsFree z
      raced_all updates a b None y f g h i k z j own = absurd j
      raced_all updates a b (Some x) None f g h i k z j own = absurd j
      raced_all updates a b (Some x) (Some y) f g h i k z j own = by (is_tested no_modules m root x) j
        where
          by : (t : Bool) → In z (if t then map (raced_row start p wires m root bits y x) updates else map (raced_row start p wires m root bits x y) updates) → IsFree z
          by true l = of_map (raced_row start p wires m root bits y x) updates k (λ r _ o s. raced_free m y x r (edge_wire b y g i) (edge_wire a x f h) o s) z l own
          by false l = of_map (raced_row start p wires m root bits x y) updates k (λ r _ o s. raced_free m x y r (edge_wire a x f h) (edge_wire b y g i) o s) z l own

      -- the rows of rules that act, where their events and what they give is of the sort
      pub rules_free : (rules : List SyncRule) → ((r : SyncRule) → In r rules → Each Ok (event_signal r.event)) → ((r : SyncRule) → In r rules → Each (λ (j : Join). Ok j.source) (all_joins r.updates)) → (y : Driven) → In y (rules_rows start p wires m root bits rules) → F (At y.place) → IsFree y
      rules_free [] h k y i own = absurd i
      rules_free (a ∷ []) h k y i own = one_rule_free (all_joins a.updates) a.event (h a (inl refl)) (k a (inl refl)) y i own
      rules_free (a ∷ b ∷ []) h k y i own =
          by (edge_trigger a.event) refl (edge_trigger b.event) refl (level_trigger a.event) refl (level_trigger b.event) refl i
        where
          ha : Each Ok (event_signal a.event)
          ha = h a (inl refl)

          hb : Each Ok (event_signal b.event)
          hb = h b (inr (inl refl))

          raced : In y (raced_rows start p wires m root bits (all_joins a.updates) (edge_bit a.event) (edge_bit b.event)) → IsFree y
          raced j = raced_all (all_joins a.updates) a.event b.event (edge_bit a.event) (edge_bit b.event) refl refl ha hb (k a (inl refl)) y j own

          by : (e : Option Trigger) → edge_trigger a.event ≡ e → (f : Option Trigger) → edge_trigger b.event ≡ f → (l : Option Trigger) → level_trigger a.event ≡ l → (n : Option Trigger) → level_trigger b.event ≡ n → In y (two_rules_rows start p wires m root bits (pair_by a b e f l n)) → IsFree y
          by (Some e) g f q l r (Some n) o j = loaded_all e (all_joins a.updates) n (all_joins b.updates) (edge_signal a.event e g ha) (level_signal b.event n o hb) (k a (inl refl)) (k b (inr (inl refl))) y j own
          by None g (Some f) q (Some l) r n o j = loaded_all f (all_joins b.updates) l (all_joins a.updates) (edge_signal b.event f q hb) (level_signal a.event l r ha) (k b (inr (inl refl))) (k a (inl refl)) y j own
          by (Some e) g (Some f) q (Some l) r None o j = loaded_all f (all_joins b.updates) l (all_joins a.updates) (edge_signal b.event f q hb) (level_signal a.event l r ha) (k b (inr (inl refl))) (k a (inl refl)) y j own
          by (Some e) g (Some f) q None r None o j = raced j
          by (Some e) g None q (Some l) r None o j = raced j
          by (Some e) g None q None r None o j = raced j
          by None g None q (Some l) r (Some n) o j = raced j
          by None g None q (Some l) r None o j = raced j
          by None g None q None r (Some n) o j = raced j
          by None g None q None r None o j = raced j
          by None g (Some f) q None r (Some n) o j = raced j
          by None g (Some f) q None r None o j = raced j
      rules_free (a ∷ b ∷ c ∷ rules) h k y i own = absurd i

      -- the rows of a process
      pub process_free : (s : Process) → root_by_rules s.root ≡ root → tree_bits s.root ≡ bits → ((r : SyncRule) → In r (acting_rules s.syncs) → Each Ok (event_signal r.event)) → ((r : SyncRule) → In r (acting_rules s.syncs) → Each (λ (j : Join). Ok j.source) (all_joins r.updates)) → (y : Driven) → In y (process_rows start p wires m s) → F (At y.place) → IsFree y
      process_free s e f h k y i own =
          ⊎_elim (λ l. tree_free y l) (λ l. rules_free (acting_rules s.syncs) h k y l own)
          (In-cases y (tree_bit_rows start p wires root bits) (rules_rows start p wires m root bits (acting_rules s.syncs)) (subst (In y) (λ l. tree_bit_rows start p wires (e l) (f l) ++ rules_rows start p wires m (e l) (f l) (acting_rules s.syncs)) i))
