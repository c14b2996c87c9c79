-- Each row of the rules of a process is given by one of its parts.
use Rattle.std.proofs.Common.{◌≡◌, ◌≤◌, ℕ, zero, suc, Bool, true, false, List, [], ◌∷◌, ◌++◌, Option, Some, None, inl, inr, ⊎_elim, refl, sym, ◌∙◌, ap, subst}
use Rattle.std.specs.Prelude.{count_by, filter, flat_map, map, slice_get}
use Rattle.rtl_bits.specs.declared.bit.Bit.{Bit}
use Rattle.rtl_sig.specs.declared.sig.SigBit.{SigBit}
use Rattle.rtl_sig.specs.declared.sig.SigBit.TheVariants.{Fixed, Wire as OnWire}
use Rattle.rtl_sig.specs.declared.sig.WireBit.{WireBit}
use Rattle.cell_types.specs.Levels.{low}
use Rattle.cell_types.specs.declared.storage.StorageKind.TheVariants.{Ff}
use Rattle.rtl_ir.specs.Flat.Driver.{Driven}
use Rattle.rtl_ir.specs.Flat.Place.{Path}
use Rattle.rtl_ir.specs.Flat.Point.{point}
use Rattle.rtl_ir.specs.Flat.Process.{Trigger, edge_row, edge_trigger, level_row, level_trigger, loaded_row, loaded_rows, no_pins, one_rule_rows, rule_row, rules_rows}
use Rattle.rtl_ir.specs.Follow.{all_joins, joins, source_at}
use Rattle.rtl_ir.specs.declared.follow.Join.{Join}
use Rattle.rtl_ir.specs.Tree.{CaseView}
use Rattle.rtl_ir.specs.declared.module.Link.{Link}
use Rattle.rtl_ir.specs.declared.module.Module.{Module}
use Rattle.rtl_ir.specs.declared.process.Event.{Event}
use Rattle.rtl_ir.specs.declared.process.Event.TheVariants.{Low, High, Posedge, Negedge, Edge, Global, Init, Always}
use Rattle.rtl_ir.specs.declared.process.SyncRule.{SyncRule}
use Rattle.rtl_ir.specs.declared.wire.Wire.{Wire}
use Rattle.net_model.proofs.Members.{In-cases, In-left, In-map, In-mapped, In-right}
use Rattle.net_model.specs.Lists.{In}
use Rattle.net_model.specs.Proc.Latch.{is_always}
use Rattle.net_model.specs.Proc.Sync.{Class, Plain, Resets, Loads, Run, class_of, classed, level_side, option_list, runs_of}
use Rattle.net_model.specs.Within.{Each}
use Rattle.proc_laws.specs.Kinds.{is_edge_rule}
use Rattle.sync_laws.proofs.Parts.{Part, asked_class, both_parts, dlatch_part, edge_part, edge_parts, ff_part, is_left, join_class, loaded_part, one_parts, plain_parts, rules_parts}
use Rattle.sync_laws.proofs.RuleSplit.{two_split}
use Rattle.sync_laws.proofs.Runs.{IsRun, asked_are, classed_are, classed_fit, filter_each, filter_lines, in_line, in_run, together}
use Rattle.sync_laws.proofs.StoreRows.{IsGivenBy, edge_given, ff_given, level_given, loads_given, resets_given}

-- a place of a list, by its number
pub record IsAt (js : List Join) (j : Join) : Type 0 where
  pub at : ℕ
  pub there : slice_get js at ≡ Some j

pub place_at : (js : List Join) (j : Join) → In j js → IsAt js j
place_at [] j i = absurd i
place_at (k ∷ js) j (inl e) = record { at = 0; there = ap Some (sym e) }
place_at (k ∷ js) j (inr i) = let r = place_at js j i in record { at = suc r.at; there = r.there }

-- what the level rule gives the places of a run of one class
given_get : (levels js : List Join) (class : Class) → Each (λ (j : Join). join_class levels j ≡ class) js → (class ≡ Plain → ⊥) → (k : ℕ) (j : Join) → slice_get js k ≡ Some j → (s : SigBit) → source_at levels j.bit ≡ Some s → slice_get (level_side levels js) k ≡ Some s
given_get levels [] class h more k j e s f = absurd (cc)
given_get levels (i ∷ js) class h more k j e s f =
    by (source_at levels i.bit) refl (h i (inl refl)) k e (given_get levels js class (λ x l. h x (inr l)) more)
  where
    by : (o : Option SigBit) → source_at levels i.bit ≡ o → class_of o ≡ class → (k : ℕ) → slice_get (i ∷ js) k ≡ Some j
        → ((k : ℕ) (j : Join) → slice_get js k ≡ Some j → (s : SigBit) → source_at levels j.bit ≡ Some s → slice_get (level_side levels js) k ≡ Some s)
        → slice_get (option_list o ++ level_side levels js) k ≡ Some s
    by None a c k e rest = absurd (more (sym c))
    by (Some t) a c zero e rest =
        let same : i ≡ j = cc in
        sym a ∙ ap (λ (x : Join). source_at levels x.bit) same ∙ f
    by (Some t) a c (suc k) e rest = rest k j e s f

module _ (start : SigBit → Bit) (p : Path) (wires : List Wire) where
  -- each of these rows is given by one of these parts
  pub record IsGiven (qs : List Part) (d : Driven) : Type 0 where
    pub part : Part
    pub there : In part qs
    pub given : IsGivenBy start p wires d part

  abbrev pub AreGiven : List Part → List Driven → Type 0
  AreGiven qs rows = Each (IsGiven qs) rows

  given_none : (qs : List Part) → AreGiven qs []
  given_none qs d i = absurd i

  given_left : (xs ys : List Part) (d : Driven) → IsGiven xs d → IsGiven (xs ++ ys) d
  given_left xs ys d g = record { part = g.part; there = In-left g.part xs ys g.there; given = g.given }

  given_right : (xs ys : List Part) (d : Driven) → IsGiven ys d → IsGiven (xs ++ ys) d
  given_right xs ys d g = record { part = g.part; there = In-right g.part xs ys g.there; given = g.given }

  given_both : (xs ys : List Part) (a b : List Driven) → AreGiven xs a → AreGiven ys b → AreGiven (xs ++ ys) (a ++ b)
  given_both xs ys a b h k d i =
      ⊎_elim (λ l. given_left xs ys d (h d l)) (λ r. given_right xs ys d (k d r)) (In-cases d a b i)

  -- of one line among several
  given_line : (parts : Link → List Part) (lines : List Link) (l : Link) → In l lines → (d : Driven) → IsGiven (parts l) d → IsGiven (flat_map parts lines) d
  given_line parts [] l i d g = absurd i
  given_line parts (k ∷ lines) l (inl e) d g =
      given_left (parts k) (flat_map parts lines) d (subst (λ x. IsGiven (parts x) d) e g)
  given_line parts (k ∷ lines) l (inr i) d g =
      given_right (parts k) (flat_map parts lines) d (given_line parts lines l i d g)

  -- of one run among several
  given_run : (part : Run → Part) (runs : List Run) (run : Run) → In run runs → (d : Driven) → IsGivenBy start p wires d (part run) → IsGiven (map part runs) d
  given_run part runs run i d g = record { part = part run; there = In-map part run runs i; given = g }

  -- places of a line, by their runs
  places_given : (part : Run → Part) (row : Join → Driven) (runs : List Run) → ((run : Run) → In run runs → (j : Join) → In j run.places → IsGivenBy start p wires (row j) (part run)) → (j : Join) → In j (together runs) → IsGiven (map part runs) (row j)
  places_given part row runs h j i =
      let k = in_run runs j i in
      given_run part runs k.run k.there (row j) (h k.run k.there j k.place)

  -- the row of a place beside the level rule that may be there
  abbrev beside : Trigger → Option Trigger → List Join → Join → Driven
  beside e None levels j = edge_row start p wires e j
  beside e (Some l) levels j = loaded_row start p wires e l (source_at levels j.bit) j

  loaded_given : (e l : Trigger) (levels : List Join) (run : Run) → IsRun (join_class levels) run → (j : Join) → In j run.places → IsGivenBy start p wires (loaded_row start p wires e l (source_at levels j.bit) j) (loaded_part e l run.class (level_side levels run.places) run.places)
  loaded_given e l levels run fit j i =
      by (source_at levels j.bit) refl run.class refl
    where
      here : IsAt run.places j
      here = place_at run.places j i

      by : (o : Option SigBit) → source_at levels j.bit ≡ o → (class : Class) → run.class ≡ class → IsGivenBy start p wires (loaded_row start p wires e l o j) (loaded_part e l class (level_side levels run.places) run.places)
      by None f Plain is = edge_given start p wires run.places here.at j here.there e
      by (Some (Fixed x)) f Resets is =
          resets_given start p wires run.places here.at j here.there e l (level_side levels run.places) x
          (given_get levels run.places run.class fit.alike (λ g. absurd (cc (g, is))) here.at j here.there (Fixed x) f)
      by (Some (OnWire b)) f Loads is =
          loads_given start p wires run.places here.at j here.there e l (level_side levels run.places) (OnWire b)
          (given_get levels run.places run.class fit.alike (λ g. absurd (cc (g, is))) here.at j here.there (OnWire b) f)
      by None f Resets is =
          let c : class_of (source_at levels j.bit) ≡ run.class = fit.alike j i in
          let d : class_of (source_at levels j.bit) ≡ Plain = ap class_of f in
          absurd (cc (c, d, is))
      by None f Loads is =
          let c : class_of (source_at levels j.bit) ≡ run.class = fit.alike j i in
          let d : class_of (source_at levels j.bit) ≡ Plain = ap class_of f in
          absurd (cc (c, d, is))
      by (Some (Fixed x)) f Plain is =
          let c : class_of (source_at levels j.bit) ≡ run.class = fit.alike j i in
          let d : class_of (source_at levels j.bit) ≡ Resets = ap class_of f in
          absurd (cc (c, d, is))
      by (Some (Fixed x)) f Loads is =
          let c : class_of (source_at levels j.bit) ≡ run.class = fit.alike j i in
          let d : class_of (source_at levels j.bit) ≡ Resets = ap class_of f in
          absurd (cc (c, d, is))
      by (Some (OnWire b)) f Plain is =
          let c : class_of (source_at levels j.bit) ≡ run.class = fit.alike j i in
          let d : class_of (source_at levels j.bit) ≡ Loads = ap class_of f in
          absurd (cc (c, d, is))
      by (Some (OnWire b)) f Resets is =
          let c : class_of (source_at levels j.bit) ≡ run.class = fit.alike j i in
          let d : class_of (source_at levels j.bit) ≡ Loads = ap class_of f in
          absurd (cc (c, d, is))

  run_given : (e : Trigger) (l : Option Trigger) (levels : List Join) (run : Run) → IsRun (join_class levels) run → (j : Join) → In j run.places → IsGivenBy start p wires (beside e l levels j) (edge_part e l levels run)
  run_given e None levels run fit j i =
      let here = place_at run.places j i in
      edge_given start p wires run.places here.at j here.there e
  run_given e (Some l) levels run fit j i = loaded_given e l levels run fit j i

  -- the update lines of an edge rule
  edges_given : (e : Trigger) (l : Option Trigger) (levels : List Join) (lines : List Link) → AreGiven (edge_parts e l levels lines) (map (beside e l levels) (all_joins lines))
  edges_given e l levels lines d i =
      let k = In-mapped (beside e l levels) d (all_joins lines) i in
      let at = in_line (λ (x : Link). joins x.left x.right) lines k.0 k.1 in
      let runs : List Run = classed (join_class levels) (joins at.line.left at.line.right) in
      subst (IsGiven (edge_parts e l levels lines)) (sym k.2)
      (given_line (λ (x : Link). map (edge_part e l levels) (classed (join_class levels) (joins x.left x.right))) lines at.line at.there (beside e l levels k.0)
      (places_given (edge_part e l levels) (beside e l levels) runs
      (λ run r j o. run_given e l levels run (classed_fit (join_class levels) (joins at.line.left at.line.right) run r) j o)
      k.0 (subst (In k.0) (sym (classed_are (join_class levels) (joins at.line.left at.line.right))) at.place)))

  -- the places of lines that are asked for
  plains_given : (part : Run → Part) (row : Join → Driven) → ((run : Run) (j : Join) → In j run.places → IsGivenBy start p wires (row j) (part run)) → (asked : Join → Bool) (lines : List Link) → AreGiven (plain_parts part asked lines) (map row (filter asked (all_joins lines)))
  plains_given part row h asked lines d i =
      let k = In-mapped row d (filter asked (all_joins lines)) i in
      let at = in_line (λ (x : Link). filter asked (joins x.left x.right)) lines k.0 (subst (In k.0) (filter_lines asked lines) k.1) in
      let runs : List Run = runs_of Plain (classed (asked_class asked) (joins at.line.left at.line.right)) in
      subst (IsGiven (plain_parts part asked lines)) (sym k.2)
      (given_line (λ (x : Link). map part (runs_of Plain (classed (asked_class asked) (joins x.left x.right)))) lines at.line at.there (row k.0)
      (places_given part row runs (λ run r j o. h run j o)
      k.0 (subst (In k.0) (sym (asked_are asked (joins at.line.left at.line.right))) at.place)))

  latches_given : (l : Trigger) (asked : Join → Bool) (lines : List Link) → AreGiven (plain_parts (λ (run : Run). dlatch_part l run.places) asked lines) (map (level_row start p wires l) (filter asked (all_joins lines)))
  latches_given l asked lines =
      plains_given (λ (run : Run). dlatch_part l run.places) (level_row start p wires l)
      (λ run j i. let here = place_at run.places j i in level_given start p wires run.places here.at j here.there l) asked lines

  all_given : (part : Run → Part) (row : Join → Driven) (lines : List Link) → AreGiven (plain_parts part (λ j. true) lines) (map row (filter (λ j. true) (all_joins lines))) → AreGiven (plain_parts part (λ j. true) lines) (map row (all_joins lines))
  all_given part row lines h =
      subst (λ z. AreGiven (plain_parts part (λ j. true) lines) (map row z)) (filter_each (all_joins lines)) h

  both_given : (e l : Trigger) (edges levels : List Link) → AreGiven (both_parts e edges l levels) (loaded_rows start p wires e (all_joins edges) l (all_joins levels))
  both_given e l edges levels =
      given_both (edge_parts e (Some l) (all_joins levels) edges) (plain_parts (λ (run : Run). dlatch_part l run.places) (is_left (all_joins edges)) levels)
      (map (λ (j : Join). loaded_row start p wires e l (source_at (all_joins levels) j.bit) j) (all_joins edges)) (map (level_row start p wires l) (filter (is_left (all_joins edges)) (all_joins levels)))
      (edges_given e (Some l) (all_joins levels) edges) (latches_given l (is_left (all_joins edges)) levels)

  module _ (m : Module) (root : CaseView) (bits : List WireBit) where
    one_given : (event : Event) (lines : List Link) → is_always event ≡ false → AreGiven (one_parts (edge_trigger event) (level_trigger event) event lines) (one_rule_rows start p wires root bits (all_joins lines) event)
    one_given (Posedge s) lines acts = edges_given _ None [] lines
    one_given (Negedge s) lines acts = edges_given _ None [] lines
    one_given (High s) lines acts = all_given _ _ lines (latches_given _ (λ j. true) lines)
    one_given (Low s) lines acts = all_given _ _ lines (latches_given _ (λ j. true) lines)
    one_given Global lines acts =
        all_given (λ (run : Run). ff_part run.places) (λ (j : Join). rule_row start p wires Ff low (record no_pins { d = point p wires j.source }) j.bit) lines
        (plains_given (λ (run : Run). ff_part run.places) (λ (j : Join). rule_row start p wires Ff low (record no_pins { d = point p wires j.source }) j.bit)
        (λ run j i. let here = place_at run.places j i in ff_given start p wires run.places here.at j here.there) (λ j. true) lines)
    one_given (Edge s) lines acts = given_none []
    one_given Init lines acts = given_none []
    one_given Always lines acts = absurd (cc)

    -- the rules of a process that act, of which none does so always and one at most is at an edge
    pub rules_given : (rules : List SyncRule) → Each (λ (r : SyncRule). is_always r.event ≡ false) rules → count_by is_edge_rule rules ≤ 1 → AreGiven (rules_parts rules) (rules_rows start p wires m root bits rules)
    rules_given [] h few = given_none []
    rules_given (a ∷ []) h few = one_given a.event a.updates (h a (inl refl))
    rules_given (a ∷ b ∷ []) h few =
        two_split start p wires m root bits a b few (λ qs driven rows. AreGiven qs rows) (given_none [])
        (λ e l u v. both_given e l a.updates b.updates)
        (λ e l u v. both_given e l b.updates a.updates)
    rules_given (a ∷ b ∷ c ∷ rules) h few = given_none []
