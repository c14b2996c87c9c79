-- A module in which the reset of one process becomes a level refines the module, whether or not tests of the reset go.
use Rattle.std.proofs.Common.{◌≡◌, ℕ, Bool, true, false, ◌||◌, List, [], ◌∷◌, ◌++◌, length, ◌⊎◌, inl, inr, ⊎_elim, refl, sym, ◌∙◌, ap, subst, arith}
use Rattle.std.specs.Prelude.{map, slice_get}
use Rattle.rtl_bits.specs.declared.bit.Bit.{Bit}
use Rattle.rtl_bits.specs.Knowledge.{Below}
use Rattle.rtl_bits.proofs.Orders.{Below_trans}
use Rattle.rtl_sig.specs.declared.sig.SigBit.{SigBit}
use Rattle.rtl_sig.specs.declared.sig.WireBit.{WireBit}
use Rattle.rtl_ir.specs.Assigns.{tree_bits}
use Rattle.rtl_ir.specs.Decisions.{case_decision}
use Rattle.rtl_ir.specs.Flat.Cell as flat
use Rattle.rtl_ir.specs.Flat.Cell.{instances}
use Rattle.rtl_ir.specs.Flat.Driver.{Decided, Driven}
use Rattle.rtl_ir.specs.Flat.Pick.{no_test, pick_of}
use Rattle.rtl_ir.specs.Flat.Place.{Frame, OfWire, Path, Place, Spot}
use Rattle.rtl_ir.specs.Flat.Point.{bit_place, name_or_empty}
use Rattle.rtl_ir.specs.Flat.Process.{process_rows, raced_row, rules_rows, tree_bit_rows}
use Rattle.rtl_ir.specs.Flat.Reads.{reads}
use Rattle.rtl_ir.specs.Flat.Rows.{rows_of}
use Rattle.rtl_ir.specs.Flat.Start.{start_of}
use Rattle.rtl_ir.specs.Follow.{all_joins}
use Rattle.rtl_ir.specs.declared.follow.Join.{Join}
use Rattle.rtl_ir.specs.Ports.{ports_of}
use Rattle.rtl_ir.specs.Rules.{acting_rules}
use Rattle.rtl_ir.specs.Signals.{has_bit, same_bit}
use Rattle.rtl_ir.specs.SwitchRules.{root_by_rules}
use Rattle.rtl_ir.specs.Types.{Ports}
use Rattle.rtl_ir.specs.declared.module.Module.{Module}
use Rattle.rtl_ir.specs.declared.ports.PortLine.{PortLine}
use Rattle.rtl_ir.specs.declared.process.Process.{Process}
use Rattle.net_model.proofs.Lifted.{related, row_grows, row_stays}
use Rattle.net_model.proofs.Members.{In-cases, In-left, In-map, In-mapped}
use Rattle.net_model.specs.Lists.{Distinct, In}
use Rattle.net_model.specs.Refine.{RefinesOver}
use Rattle.net_model.specs.Relate.{KeepsTo, Reached, Related, RowsRelate, SameMoment, Says}
use Rattle.net_model.specs.Run.{Time}
use Rattle.net_model.specs.Valuation.{Valuation}
use Rattle.net_model.specs.Value.{value_of}
use Rattle.build_laws.proofs.Staying.{SameAccesses}
use Rattle.pass_laws.proofs.Faultless.{AreFit}
use Rattle.follow_laws.proofs.Following.{same_bit-same}
use Rattle.reset_laws.proofs.AfterRace.{IsRace, SameTests}
use Rattle.reset_laws.proofs.ChoiceEven.{EvenSwitches}
use Rattle.reset_laws.proofs.FrameRace.{TreesFreed, TreesStay, r, race_met}
use Rattle.reset_laws.proofs.FrameRows.{IsOther, other_stays, part_of, process_there, start, with_all}

pub has_in : (bits : List WireBit) (b : WireBit) → has_bit bits b ≡ true → In b bits
has_in [] b e = absurd (cc)
has_in (c ∷ bits) b e = by (same_bit b c) refl e (has_in bits b)
  where
    by : (t : Bool) → same_bit b c ≡ t → (t || has_bit bits b) ≡ true → (has_bit bits b ≡ true → In b bits) → In b (c ∷ bits)
    by true f g later = inl (same_bit-same b c f)
    by false f g later = inr (later g)

longer : (f : Frame) (p : Path) → f ∷ p ≡ p → ⊥
longer f p e = let n : length (f ∷ p) ≡ length p = ap length e in absurd (omega arith)

-- the spot of a bit
abbrev pub spot_of : Module → WireBit → Spot
spot_of m b = OfWire (name_or_empty (slice_get m.wires b.wire)) b.at

-- the spot is that of none of these bits
abbrev pub IsNone : Module → List WireBit → Spot → Type 0
IsNone m gone s = (b : WireBit) → In b gone → s ≡ spot_of m b → ⊥

module _ (ports : Ports) (over : flat.Ports) (m : Module) (pre post : List Process) (q : Process) (tests : SameTests ports m) (fit : AreFit m.cells) (even : EvenSwitches q.root.switches) (ruled : root_by_rules q.root ≡ q.root) (race : IsRace ports m (pre ++ post) q) (distinct : Distinct (map (λ (j : Join). j.bit) (all_joins race.lines))) where
  abbrev pub next : Process
  next = r ports over m pre post q tests fit even race distinct

  abbrev pub before : Module
  before = with_all m (pre ++ q ∷ post)

  abbrev pub after : Module
  after = with_all m (pre ++ next ∷ post)

  abbrev bits : List WireBit
  bits = tree_bits q.root

  abbrev js : List Join
  js = all_joins race.lines

  module _ (starts : start_of m.wires (pre ++ q ∷ post) ≡ start_of m.wires (pre ++ next ∷ post)) (accesses : SameAccesses (pre ++ q ∷ post) (pre ++ next ∷ post)) where
    abbrev begun : Path → SigBit → Bit
    begun p = start over m pre post q next p starts accesses

    -- the row of a bit that races
    abbrev pub race_row : Path → Join → Driven
    race_row p j = raced_row (begun p) p m.wires m q.root bits race.clock race.reset j

    abbrev pub Stay : Path → Type 0
    Stay p = TreesStay ports over m pre post q tests fit even race distinct p starts accesses

    abbrev pub Freed : Path → Type 0
    Freed p = TreesFreed ports over m pre post q tests fit even race distinct p starts accesses

    -- the tree bits whose values no other row reads, or none
    pub record MayGo (gone : List WireBit) : Type 0 where
      pub ports_apart : (n : PortLine) → In n (ports_of m.wires) → (at : ℕ) → IsNone m gone (OfWire n.name at)
      pub others : (p : Path) (x : Driven) → IsOther over m pre post q next p starts accesses x → (z : Place) → In z (reads x.driver) → z.path ≡ p → IsNone m gone z.spot
      pub races : (p : Path) (j : Join) → In j js → (z : Place) → In z (reads (race_row p j).driver) → IsNone m gone z.spot
      pub trees : ((next.root ≡ q.root) × ((b : WireBit) → In b gone → ⊥)) ⊎ ((b : WireBit) → In b bits → In b gone)
      pub decided : (p : Path) → Stay p ⊎ Freed p

    module _ (gone : List WireBit) (may : MayGo gone) where
      -- of each other bit that it is below
      abbrev said : Says
      said p w s a = IsNone m gone s → Below a (w (record { path = p; spot = s }))

      means : (p : Path) (y : Place) → IsNone m gone y.spot → y.path ≡ p → (z : Valuation) (a : Bit) → said p z y.spot a → Below a (z y)
      means p y h e z a s = subst (λ k. Below a (z (record { path = k; spot = y.spot }))) (sym e) (s h)

      below_keeps : (p : Path) (w : Valuation) (y : Place) (a : Bit) → Below a (w y) → KeepsTo over (instances m.cells) said p w y a
      below_keeps p w y a h = record { own = λ e _. subst (λ k. Below a (w (record { path = k; spot = y.spot }))) e h; outer = λ _. h }

      module _ (p : Path) (t u : Time Place) (st : SameMoment over (instances m.cells) said p t u) (v w : Valuation) (rel : Related over (instances m.cells) said p v w) (n : ℕ) (s : Reached n (rows_of over p after) u w) where
        other_keeps : (x : Driven) → In x (rows_of over p before) → IsOther over m pre post q next p starts accesses x → KeepsTo over (instances m.cells) said p w x.place (value_of x.driver t v)
        other_keeps x i h =
            below_keeps p w x.place (value_of x.driver t v)
            (row_stays before over said (rows_of over p after) p t u st v w rel n s x i (other_stays over m pre post q next p starts accesses x h) (λ z y k e a l. means p y (may.others p x h y k e) e z a l))

        race_keeps : (j : Join) → In j js → In (race_row p j) (rows_of over p before) → KeepsTo over (instances m.cells) said p w (race_row p j).place (value_of (race_row p j).driver t v)
        race_keeps j i k =
            below_keeps p w (race_row p j).place (value_of (race_row p j).driver t v)
            (Below_trans (value_of (race_row p j).driver t v) (value_of (race_row p j).driver u w) (w (race_row p j).place)
            (row_grows before over said p t u st v w rel (race_row p j) k (λ z y l e a g. means p y (may.races p j i y l) e z a g))
            (race_met ports over m pre post q tests fit even race distinct p starts accesses (may.decided p) n u w s j i))

        tree_keeps : (b : WireBit) → In b bits → (x : Driven) → x ≡ record { place = bit_place p m.wires b; driver = Decided (pick_of no_test p m.wires (case_decision (root_by_rules q.root) b)) } → In x (rows_of over p before) → In x (tree_bit_rows (begun p) p m.wires (root_by_rules q.root) bits) → KeepsTo over (instances m.cells) said p w x.place (value_of x.driver t v)
        tree_keeps b i x e k l = by may.trees
          where
            by : ((next.root ≡ q.root) × ((c : WireBit) → In c gone → ⊥)) ⊎ ((c : WireBit) → In c bits → In c gone) → KeepsTo over (instances m.cells) said p w x.place (value_of x.driver t v)
            by (inl h) =
                let there : In x (tree_bit_rows (begun p) p m.wires (root_by_rules next.root) (tree_bits next.root)) = subst (λ z. In x (tree_bit_rows (begun p) p m.wires (root_by_rules z) (tree_bits z))) (sym h.0) l in
                below_keeps p w x.place (value_of x.driver t v)
                (row_stays before over said (rows_of over p after) p t u st v w rel n s x k
                (process_there over m pre post q next p starts accesses x (In-left x (tree_bit_rows (begun p) p m.wires (root_by_rules next.root) (tree_bits next.root)) (rules_rows (begun p) p m.wires m (root_by_rules next.root) (tree_bits next.root) (acting_rules next.syncs)) there))
                (λ z y _ f a g. means p y (λ c j _. h.1 c j) f z a g))
            by (inr h) = record {
              own = λ _ o. absurd (o b (h b i) (ap (λ (z : Driven). z.place.spot) e));
              outer = λ o. absurd (longer o.0 p (sym o.4 ∙ ap (λ (z : Driven). z.place.path) e));
            }

        process_keeps : (x : Driven) → In x (rows_of over p before) → In x (process_rows (begun p) p m.wires m q) → KeepsTo over (instances m.cells) said p w x.place (value_of x.driver t v)
        process_keeps x i k =
            ⊎_elim
            (λ l. let z = In-mapped (λ (b : WireBit). record { place = bit_place p m.wires b; driver = Decided (pick_of no_test p m.wires (case_decision (root_by_rules q.root) b)) }) x bits l in
            tree_keeps z.0 z.1 x z.2 i l)
            (λ l. let z = In-mapped (race_row p) x js (subst (In x) raced l) in
            subst (λ (y : Driven). KeepsTo over (instances m.cells) said p w y.place (value_of y.driver t v)) (sym z.2) (race_keeps z.0 z.1 (subst (λ y. In y (rows_of over p before)) z.2 i)))
            (In-cases x (tree_bit_rows (begun p) p m.wires (root_by_rules q.root) bits) (rules_rows (begun p) p m.wires m (root_by_rules q.root) bits (acting_rules q.syncs)) k)
          where
            raced : rules_rows (begun p) p m.wires m (root_by_rules q.root) bits (acting_rules q.syncs) ≡ map (race_row p) js
            raced = (λ l. rules_rows (begun p) p m.wires m (ruled l) bits (acting_rules q.syncs)) ∙ race.before (begun p) p m.wires

      relates : RowsRelate before after over said
      relates = record {
        id = refl;
        ports_same = refl;
        children = refl;
        port_to = λ p w n i at lt a h _. h;
        port_from = λ p w n i at lt a h. h (may.ports_apart n i at);
        unknown = λ p w s _. tt;
        rows = λ p t u st v w rel n s x i. ⊎_elim (λ k. process_keeps p t u st v w rel n s x i k) (λ k. other_keeps p t u st v w rel n s x i k) (part_of over m pre post q next p starts accesses x i);
      }

      pub step_refines : RefinesOver before after over
      step_refines = related before after over said relates

    -- while the tree stays, the tree bits have their decisions
    pub trees_stay : next.root ≡ q.root → (p : Path) → Stay p
    trees_stay e p t v s b h =
        let row : Driven = record { place = bit_place p m.wires b; driver = Decided (pick_of no_test p m.wires (case_decision q.root b)) } in
        let own : In row (tree_bit_rows (begun p) p m.wires q.root bits) = In-map (λ (c : WireBit). record { place = bit_place p m.wires c; driver = Decided (pick_of no_test p m.wires (case_decision q.root c)) }) b bits (has_in bits b h) in
        let there : In row (tree_bit_rows (begun p) p m.wires (root_by_rules next.root) (tree_bits next.root)) = subst (λ z. In row (tree_bit_rows (begun p) p m.wires (root_by_rules z) (tree_bits z))) (sym e) (subst (λ z. In row (tree_bit_rows (begun p) p m.wires z bits)) (sym ruled) own) in
        s.met row (process_there over m pre post q next p starts accesses row (In-left row (tree_bit_rows (begun p) p m.wires (root_by_rules next.root) (tree_bits next.root)) (rules_rows (begun p) p m.wires m (root_by_rules next.root) (tree_bits next.root) (acting_rules next.syncs)) there))

    -- then nothing goes
    pub nothing_goes : next.root ≡ q.root → MayGo []
    nothing_goes e = record {
      ports_apart = λ n i at b j f. absurd j;
      others = λ p x h z i f b j g. absurd j;
      races = λ p j i z k b l g. absurd l;
      trees = inl (e, λ b j. absurd j);
      decided = λ p. inl (trees_stay e p);
    }
