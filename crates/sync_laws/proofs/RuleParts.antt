-- The parts of a process are whole cells that drive the bits that its rules drive.
use Rattle.std.proofs.Common.{◌≡◌, ◌≤◌, ℕ, Bool, true, false, List, [], ◌∷◌, ◌++◌, Option, Some, None, inl, inr, refl, sym, ◌∙◌, subst}
use Rattle.std.specs.Prelude.{count_by, filter, flat_map, map}
use Rattle.std.proofs.lemmas.Grind.{flat_map-append}
use Rattle.rtl_bits.specs.declared.bit.Bit.TheVariants.{X}
use Rattle.rtl_sig.specs.declared.sig.WireBit.{WireBit}
use Rattle.rtl_ir.specs.Faults.RuleKinds.{has_one_bit}
use Rattle.rtl_ir.specs.Flat.Process.{Trigger, edge_trigger, level_trigger}
use Rattle.rtl_ir.specs.Follow.{all_joins, joins}
use Rattle.rtl_ir.specs.declared.follow.Join.{Join}
use Rattle.rtl_ir.specs.Tree.{CaseView}
use Rattle.rtl_ir.specs.declared.module.Link.{Link}
use Rattle.rtl_ir.specs.declared.module.Module.{Module}
use Rattle.rtl_ir.specs.declared.process.Event.{Event}
use Rattle.rtl_ir.specs.declared.process.Event.TheVariants.{Low, High, Posedge, Negedge, Edge, Global, Init, Always}
use Rattle.rtl_ir.specs.declared.process.SyncRule.{SyncRule}
use Rattle.net_model.proofs.Members.{In-left, In-right, map-append}
use Rattle.net_model.proofs.Ranges.{JoinIn, all_joins_in, each_both, each_filter, each_more, each_none, joins_in}
use Rattle.net_model.specs.Lists.{In}
use Rattle.net_model.specs.Proc.Latch.{is_always}
use Rattle.net_model.specs.Proc.Sync.{Class, Plain, Run, classed, runs_of}
use Rattle.net_model.specs.Within.{Each, EventIn, LinkIn}
use Rattle.build_laws.specs.Rebuilds.{join_bits, loaded_bits, one_rule_bits, rules_bits}
use Rattle.proc_laws.specs.Kinds.{is_edge_rule}
use Rattle.sync_laws.proofs.Parts.{Part, asked_class, both_parts, dlatch_part, edge_part, edge_parts, ff_part, is_left, join_class, one_parts, plain_parts, rules_parts}
use Rattle.sync_laws.proofs.RuleSplit.{edge_one, level_one, two_split}
use Rattle.sync_laws.proofs.Runs.{IsRun, asked_are, classed_are, classed_fit, filter_each, filter_lines, together}
use Rattle.sync_laws.proofs.StoreParts.{IsMaybeBit, IsOneBit, IsStorePart, dlatch_whole, edge_bits, edge_whole, ff_whole, left_bits, part_bits}

-- whole cells that drive these bits
pub record AreWhole (count : ℕ) (qs : List Part) (driven : List WireBit) : Type 0 where
  pub whole : Each (IsStorePart count) qs
  pub bits : flat_map part_bits qs ≡ driven

pub whole_none : (count : ℕ) → AreWhole count [] []
whole_none count = record { whole = each_none (IsStorePart count); bits = refl }

pub whole_both : (count : ℕ) (xs ys : List Part) (a b : List WireBit) → AreWhole count xs a → AreWhole count ys b → AreWhole count (xs ++ ys) (a ++ b)
whole_both count xs ys a b h k = record {
  whole = each_both (IsStorePart count) xs ys h.whole k.whole;
  bits = flat_map-append part_bits xs ys ∙ (λ i. h.bits i ++ k.bits i);
}

module _ (count : ℕ) where
  -- a part for each run
  runs_whole : (part : Run → Part) (runs : List Run) → Each (λ (run : Run). IsStorePart count (part run)) runs → ((run : Run) → part_bits (part run) ≡ join_bits run.places) → AreWhole count (map part runs) (join_bits (together runs))
  runs_whole part [] h b = whole_none count
  runs_whole part (run ∷ runs) h b =
      let rest = runs_whole part runs (λ x i. h x (inr i)) b in
      record {
        whole = each_more (IsStorePart count) (part run) (map part runs) (h run (inl refl)) rest.whole;
        bits = (λ i. b run i ++ rest.bits i) ∙ sym (map-append (λ (j : Join). j.bit) run.places (together runs));
      }

  -- line by line
  lines_whole : (parts : Link → List Part) (places : Link → List Join) (lines : List Link) → ((l : Link) → In l lines → AreWhole count (parts l) (join_bits (places l))) → AreWhole count (flat_map parts lines) (join_bits (flat_map places lines))
  lines_whole parts places [] h = whole_none count
  lines_whole parts places (l ∷ lines) h =
      subst (AreWhole count (flat_map parts (l ∷ lines))) (sym (map-append (λ (j : Join). j.bit) (places l) (flat_map places lines)))
      (whole_both count (parts l) (flat_map parts lines) (join_bits (places l)) (join_bits (flat_map places lines)) (h l (inl refl)) (lines_whole parts places lines (λ x i. h x (inr i))))

  -- the places of a run are places of the runs
  run_places : (runs : List Run) (run : Run) → In run runs → Each (JoinIn count) (together runs) → Each (JoinIn count) run.places
  run_places [] run i h j k = absurd i
  run_places (r ∷ runs) run (inl e) h j k =
      h j (In-left j r.places (together runs) (subst (λ (x : Run). In j x.places) e k))
  run_places (r ∷ runs) run (inr i) h j k =
      run_places runs run i (λ x l. h x (In-right x r.places (together runs) l)) j k

  -- a line of an edge rule
  line_whole : (e : Trigger) (l : Option Trigger) (levels : List Join) → IsOneBit count e → IsMaybeBit count l → Each (JoinIn count) levels → (js : List Join) → Each (JoinIn count) js → AreWhole count (map (edge_part e l levels) (classed (join_class levels) js)) (join_bits js)
  line_whole e l levels clock level there js inside =
      let runs : List Run = classed (join_class levels) js in
      let are : together runs ≡ js = classed_are (join_class levels) js in
      subst (λ z. AreWhole count (map (edge_part e l levels) runs) (join_bits z)) are
      (runs_whole (edge_part e l levels) runs
      (λ run i. edge_whole count e l levels run clock level there (classed_fit (join_class levels) js run i) (run_places runs run i (subst (Each (JoinIn count)) (sym are) inside)))
      (edge_bits e l levels))

  edges_whole : (e : Trigger) (l : Option Trigger) (levels : List Join) → IsOneBit count e → IsMaybeBit count l → Each (JoinIn count) levels → (lines : List Link) → Each (LinkIn count) lines → AreWhole count (edge_parts e l levels lines) (join_bits (all_joins lines))
  edges_whole e l levels clock level there lines inside =
      lines_whole (λ (line : Link). map (edge_part e l levels) (classed (join_class levels) (joins line.left line.right))) (λ (line : Link). joins line.left line.right) lines
      (λ line i. line_whole e l levels clock level there (joins line.left line.right) (joins_in count line.left line.right (inside line i).0 (inside line i).1))

  -- runs of places that are asked for
  kept_fit : (f : Join → Class) (runs : List Run) (run : Run) → In run (runs_of Plain runs) → Each (IsRun f) runs → IsRun f run
  kept_fit f runs run i h = each_filter (IsRun f) _ runs h run i

  asked_whole : (part : Run → Part) → ((run : Run) (f : Join → Class) → IsRun f run → Each (JoinIn count) run.places → IsStorePart count (part run)) → ((run : Run) → part_bits (part run) ≡ join_bits run.places) → (asked : Join → Bool) (js : List Join) → Each (JoinIn count) js → AreWhole count (map part (runs_of Plain (classed (asked_class asked) js))) (join_bits (filter asked js))
  asked_whole part fits b asked js inside =
      let runs : List Run = runs_of Plain (classed (asked_class asked) js) in
      let are : together runs ≡ filter asked js = asked_are asked js in
      subst (λ z. AreWhole count (map part runs) (join_bits z)) are
      (runs_whole part runs
      (λ run i. fits run (asked_class asked) (kept_fit (asked_class asked) (classed (asked_class asked) js) run i (classed_fit (asked_class asked) js)) (run_places runs run i (subst (Each (JoinIn count)) (sym are) (each_filter (JoinIn count) asked js inside))))
      b)

  plains_whole : (part : Run → Part) → ((run : Run) (f : Join → Class) → IsRun f run → Each (JoinIn count) run.places → IsStorePart count (part run)) → ((run : Run) → part_bits (part run) ≡ join_bits run.places) → (asked : Join → Bool) (lines : List Link) → Each (LinkIn count) lines → AreWhole count (plain_parts part asked lines) (join_bits (filter asked (all_joins lines)))
  plains_whole part fits b asked lines inside =
      subst (λ z. AreWhole count (plain_parts part asked lines) (join_bits z)) (sym (filter_lines asked lines))
      (lines_whole (λ (line : Link). map part (runs_of Plain (classed (asked_class asked) (joins line.left line.right)))) (λ (line : Link). filter asked (joins line.left line.right)) lines
      (λ line i. asked_whole part fits b asked (joins line.left line.right) (joins_in count line.left line.right (inside line i).0 (inside line i).1)))

  latches_whole : (l : Trigger) → IsOneBit count l → (asked : Join → Bool) (lines : List Link) → Each (LinkIn count) lines → AreWhole count (plain_parts (λ (run : Run). dlatch_part l run.places) asked lines) (join_bits (filter asked (all_joins lines)))
  latches_whole l bit asked lines inside =
      plains_whole (λ (run : Run). dlatch_part l run.places) (λ run f fit there. dlatch_whole count run.places fit.some fit.few there l bit) (λ run. left_bits run.places) asked lines inside

  both_whole : (e l : Trigger) → IsOneBit count e → IsOneBit count l → (edges levels : List Link) → Each (LinkIn count) edges → Each (LinkIn count) levels → AreWhole count (both_parts e edges l levels) (loaded_bits (all_joins edges) (all_joins levels))
  both_whole e l clock level edges levels inside there =
      whole_both count (edge_parts e (Some l) (all_joins levels) edges) (plain_parts (λ (run : Run). dlatch_part l run.places) (is_left (all_joins edges)) levels) (join_bits (all_joins edges)) (join_bits (filter (is_left (all_joins edges)) (all_joins levels)))
      (edges_whole e (Some l) (all_joins levels) clock level (all_joins_in count levels there) edges inside)
      (latches_whole l level (is_left (all_joins edges)) levels there)

  -- a rule whose event has one bit, within a module of so many wires
  pub record IsGoodRule (r : SyncRule) : Type 0 where
    pub one : has_one_bit r.event ≡ true
    pub event : EventIn count r.event
    pub updates : Each (LinkIn count) r.updates
    pub acts : is_always r.event ≡ false

  all_asked : (part : Run → Part) (lines : List Link) → AreWhole count (plain_parts part (λ j. true) lines) (join_bits (filter (λ j. true) (all_joins lines))) → AreWhole count (plain_parts part (λ j. true) lines) (join_bits (all_joins lines))
  all_asked part lines h = subst (λ z. AreWhole count (plain_parts part (λ j. true) lines) (join_bits z)) (filter_each (all_joins lines)) h

  one_whole : (event : Event) (lines : List Link) → has_one_bit event ≡ true → EventIn count event → Each (LinkIn count) lines → is_always event ≡ false → AreWhole count (one_parts (edge_trigger event) (level_trigger event) event lines) (one_rule_bits (all_joins lines) event)
  one_whole (Posedge s) lines one within inside acts =
      edges_whole _ None [] (edge_one count (Posedge s) _ refl one within) tt (each_none (JoinIn count)) lines inside
  one_whole (Negedge s) lines one within inside acts =
      edges_whole _ None [] (edge_one count (Negedge s) _ refl one within) tt (each_none (JoinIn count)) lines inside
  one_whole (High s) lines one within inside acts =
      all_asked _ lines (latches_whole _ (level_one count (High s) _ refl one within) (λ j. true) lines inside)
  one_whole (Low s) lines one within inside acts =
      all_asked _ lines (latches_whole _ (level_one count (Low s) _ refl one within) (λ j. true) lines inside)
  one_whole Global lines one within inside acts =
      all_asked (λ (run : Run). ff_part run.places) lines
      (plains_whole (λ (run : Run). ff_part run.places) (λ run f fit there. ff_whole count run.places fit.some fit.few there) (λ run. left_bits run.places) (λ j. true) lines inside)
  one_whole (Edge s) lines one within inside acts = whole_none count
  one_whole Init lines one within inside acts = whole_none count
  one_whole Always lines one within inside acts = absurd (cc)

  pub rules_whole : (m : Module) (root : CaseView) (rules : List SyncRule) → Each IsGoodRule rules → count_by is_edge_rule rules ≤ 1 → AreWhole count (rules_parts rules) (rules_bits rules)
  rules_whole m root [] h few = whole_none count
  rules_whole m root (a ∷ []) h few =
      let g = h a (inl refl) in
      one_whole a.event a.updates g.one g.event g.updates g.acts
  rules_whole m root (a ∷ b ∷ []) h few =
      let g = h a (inl refl) in
      let k = h b (inr (inl refl)) in
      two_split (λ s. X) [] [] m root [] a b few (λ qs bits rows. AreWhole count qs bits) (whole_none count)
      (λ e l u v. both_whole e l (edge_one count a.event e u g.one g.event) (level_one count b.event l v k.one k.event) a.updates b.updates g.updates k.updates)
      (λ e l u v. both_whole e l (edge_one count b.event e u k.one k.event) (level_one count a.event l v g.one g.event) b.updates a.updates k.updates g.updates)
  rules_whole m root (a ∷ b ∷ c ∷ rules) h few = whole_none count
