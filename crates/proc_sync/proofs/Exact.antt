-- Rules by their forms add what the definition says.
use Rattle.std.proofs.Common.{◌≡◌, Bool, true, false, List, [], ◌∷◌, Option, Some, None, Result, Ok, Err, if◌then◌else◌, refl, sym, ◌∙◌, ap, subst}
use Rattle.std.specs.Prelude.{OnOk, not}
use Rattle.std.specs.Option.{is_some}
use Rattle.rtl_sig.specs.declared.sig.SigBit.{SigBit}
use Rattle.rtl_ir.specs.Build.{Building}
use Rattle.rtl_ir.specs.Flat.Process.{Trigger, edge_trigger, level_trigger}
use Rattle.rtl_ir.specs.Follow.{all_joins, joins, source_at}
use Rattle.rtl_ir.specs.declared.follow.Join.{Join}
use Rattle.rtl_ir.specs.Rules.{acting_rules}
use Rattle.rtl_ir.specs.declared.module.Link.{Link}
use Rattle.rtl_ir.specs.declared.process.Event.{Event}
use Rattle.rtl_ir.specs.declared.process.Event.TheVariants.{Low, High, Posedge, Negedge, Edge, Global, Init, Always}
use Rattle.rtl_ir.specs.declared.process.Process.{Process}
use Rattle.rtl_ir.specs.declared.process.SyncRule.{SyncRule}
use Rattle.net_model.specs.Proc.Sync.{Class, Plain, Resets, Loads, Run, class_of, classed, edge_and_level, edge_cell, edge_lines, global_cell, in_turn, level_cell, level_side, loaded_cell, one_rule, plain_lines, rules_step, runs_of, same_class, two_rules}
use Rattle.net_index.specs.Builder.{PassesLimit}
use Rattle.rtl_ir.specs.Triggers.{trigger_of}
use Rattle.proc_sync.specs.Events.{both_of, form_step}
use Rattle.proc_sync.specs.Rules.{beside_cell, line_step, lines_step, run_cell}
use Rattle.proc_sync.specs.Runs.{class_by, class_in}
use Rattle.rtl_ir.specs.declared.trigger.Trigger.{Trigger as RuleTrigger}
use Rattle.proc_sync.specs.declared.rules.Form.TheVariants.{AtSteps, AtLevel, AtEdge, Beside}
use Rattle.proc_sync.proofs.Growing.{lines_grow}
use Rattle.proc_sync.proofs.Turning.{Grows, cell_grows, grows_more, grows_none, over_later, turn_filter, turn_grows, turn_same}

-- an edge rule
pub edge_is : (e : RuleTrigger) (lines : List Link) (b : Building) → lines_step (AtEdge e) [] lines b ≡ edge_lines (trigger_of e) None [] lines b
edge_is e lines b = refl

beside_run : (e l : RuleTrigger) (levels : List Join) (run : Run) (b : Building) → run_cell (Beside e l) levels run b ≡ edge_cell (trigger_of e) (Some (trigger_of l)) levels run b
beside_run e l levels run b = by run.class
  where
    by : (class : Class) → beside_cell e l class levels run.places b ≡ loaded_cell (trigger_of e) (trigger_of l) class (level_side levels run.places) run.places b
    by Plain = refl
    by Resets = refl
    by Loads = refl

-- beside a level rule
pub beside_is : (e l : RuleTrigger) (levels : List Join) (lines : List Link) (b : Building) → lines_step (Beside e l) levels lines b ≡ edge_lines (trigger_of e) (Some (trigger_of l)) levels lines b
beside_is e l levels lines b =
    turn_same (line_step (Beside e l) levels)
    (λ (line : Link). in_turn (edge_cell (trigger_of e) (Some (trigger_of l)) levels) (classed (λ (j : Join). class_of (source_at levels j.bit)) (joins line.left line.right)))
    (λ line c. turn_same (run_cell (Beside e l) levels) (edge_cell (trigger_of e) (Some (trigger_of l)) levels) (beside_run e l levels) (classed (class_in levels true) (joins line.left line.right)) c)
    lines b

-- whether the class of a place is plain
asked_class : (o : Option SigBit) → class_by false o ≡ (if not (is_some o) then Plain else Loads)
asked_class None = refl
asked_class (Some s) = refl

classes_same : (edges : List Join) → class_in edges false ≡ (λ (j : Join). if not (is_some (source_at edges j.bit)) then Plain else Loads)
classes_same edges = λ i j. asked_class (source_at edges j.bit) i

-- places that no edge rule has
plains_are : (cell : Run → Building → Building) (edges : List Join) (lines : List Link) (b : Building) →
    in_turn (λ (line : Link). in_turn (λ (run : Run). if same_class run.class Plain then cell run else λ c. c) (classed (class_in edges false) (joins line.left line.right))) lines b
    ≡ plain_lines cell (λ (j : Join). not (is_some (source_at edges j.bit))) lines b
plains_are cell edges lines b =
    turn_same
    (λ (line : Link). in_turn (λ (run : Run). if same_class run.class Plain then cell run else λ c. c) (classed (class_in edges false) (joins line.left line.right)))
    (λ (line : Link). in_turn cell (runs_of Plain (classed (λ (j : Join). if not (is_some (source_at edges j.bit)) then Plain else Loads) (joins line.left line.right))))
    (λ line c.
    turn_filter (λ (run : Run). same_class run.class Plain) cell (classed (class_in edges false) (joins line.left line.right)) c
    ∙ ap (λ f. in_turn cell (runs_of Plain (classed f (joins line.left line.right))) c) (classes_same edges))
    lines b

pub level_is : (l : RuleTrigger) (edges : List Join) (lines : List Link) (b : Building) → lines_step (AtLevel l) edges lines b ≡ plain_lines (level_cell (trigger_of l)) (λ (j : Join). not (is_some (source_at edges j.bit))) lines b
level_is l edges lines b = plains_are (level_cell (trigger_of l)) edges lines b

pub steps_is : (lines : List Link) (b : Building) → lines_step AtSteps [] lines b ≡ plain_lines global_cell (λ (j : Join). true) lines b
steps_is lines b = plains_are global_cell [] lines b

-- a rule that stands alone, by what its event is
module _ (event : Event) (lines : List Link) (b : Building) where
  pub one_edge : (e : RuleTrigger) → Some (trigger_of e) ≡ edge_trigger event → form_step (Some (AtEdge e)) [] lines b ≡ one_rule (edge_trigger event) (level_trigger event) event lines b
  one_edge e is = ap (λ o. one_rule o (level_trigger event) event lines b) is

  pub one_level : (l : RuleTrigger) → None ≡ edge_trigger event → Some (trigger_of l) ≡ level_trigger event → form_step (Some (AtLevel l)) [] lines b ≡ one_rule (edge_trigger event) (level_trigger event) event lines b
  one_level l none is = level_is l [] lines b ∙ (λ i. one_rule (none i) (is i) event lines b)

  pub one_steps : None ≡ edge_trigger event → None ≡ level_trigger event → event ≡ Global → form_step (Some AtSteps) [] lines b ≡ one_rule (edge_trigger event) (level_trigger event) event lines b
  one_steps none nor is =
      steps_is lines b ∙ (λ i. one_rule None None (sym is i) lines b) ∙ (λ i. one_rule (none i) (nor i) event lines b)

nothing : (event : Event) (lines : List Link) (b : Building) → (event ≡ Global → ⊥) → b ≡ one_rule None None event lines b
nothing Global lines b h = absurd (h refl)
nothing (Low s) lines b h = refl
nothing (High s) lines b h = refl
nothing (Posedge s) lines b h = refl
nothing (Negedge s) lines b h = refl
nothing (Edge s) lines b h = refl
nothing Init lines b h = refl
nothing Always lines b h = refl

pub one_none : (event : Event) (lines : List Link) (b : Building) → None ≡ edge_trigger event → None ≡ level_trigger event → (event ≡ Global → ⊥) → form_step None [] lines b ≡ one_rule (edge_trigger event) (level_trigger event) event lines b
one_none event lines b none nor h = nothing event lines b h ∙ (λ i. one_rule (none i) (nor i) event lines b)

-- an edge rule beside a level rule
pub both_is : (e l : RuleTrigger) (edges levels : List Link) (b c : Building) → c ≡ lines_step (Beside e l) (all_joins levels) edges b → lines_step (AtLevel l) (all_joins edges) levels c ≡ edge_and_level (trigger_of e) edges (trigger_of l) levels b
both_is e l edges levels b c is =
    level_is l (all_joins edges) levels c
    ∙ ap (plain_lines (level_cell (trigger_of l)) (λ (j : Join). not (is_some (source_at (all_joins edges) j.bit))) levels) (is ∙ beside_is e l (all_joins levels) edges b)

-- what rules add only grows
edges_grow : (e : Trigger) (l : Option Trigger) → (levels : List Join) (lines : List Link) (b : Building) → Grows b (edge_lines e l levels lines b)
edges_grow e None levels lines b =
    turn_grows (λ (line : Link). in_turn (edge_cell e None levels) (classed (λ (j : Join). class_of (source_at levels j.bit)) (joins line.left line.right)))
    (λ line c. turn_grows (edge_cell e None levels) (λ run d. cell_grows _ _ refl _ _ d) (classed (λ (j : Join). class_of (source_at levels j.bit)) (joins line.left line.right)) c) lines b
edges_grow e (Some l) levels lines b =
    turn_grows (λ (line : Link). in_turn (edge_cell e (Some l) levels) (classed (λ (j : Join). class_of (source_at levels j.bit)) (joins line.left line.right)))
    (λ line c. turn_grows (edge_cell e (Some l) levels) (λ run d. loaded run.class (level_side levels run.places) run.places d) (classed (λ (j : Join). class_of (source_at levels j.bit)) (joins line.left line.right)) c) lines b
  where
    loaded : (class : Class) (given : List SigBit) (js : List Join) (d : Building) → Grows d (loaded_cell e l class given js d)
    loaded Plain given js d = cell_grows _ _ refl _ _ d
    loaded Resets given js d = cell_grows _ _ refl _ _ d
    loaded Loads given js d = cell_grows _ _ refl _ _ d

plains_grow : (cell : Run → Building → Building) → ((run : Run) (b : Building) → Grows b (cell run b)) → (asked : Join → Bool) (lines : List Link) (b : Building) → Grows b (plain_lines cell asked lines b)
plains_grow cell h asked lines b =
    turn_grows (λ (line : Link). in_turn cell (runs_of Plain (classed (λ (j : Join). if asked j then Plain else Loads) (joins line.left line.right))))
    (λ line c. turn_grows cell h (runs_of Plain (classed (λ (j : Join). if asked j then Plain else Loads) (joins line.left line.right))) c) lines b

both_grow : (e : Trigger) (edges : List Link) (l : Trigger) (levels : List Link) (b : Building) → Grows b (edge_and_level e edges l levels b)
both_grow e edges l levels b =
    grows_more b (edge_lines e (Some l) (all_joins levels) edges b) (edge_and_level e edges l levels b) (edges_grow e (Some l) (all_joins levels) edges b)
    (plains_grow (level_cell l) (λ run d. cell_grows _ _ refl _ _ d) (λ (j : Join). not (is_some (source_at (all_joins edges) j.bit))) levels (edge_lines e (Some l) (all_joins levels) edges b))

one_grows : (edge level : Option Trigger) (event : Event) (lines : List Link) (b : Building) → Grows b (one_rule edge level event lines b)
one_grows (Some e) level event lines b = edges_grow e None [] lines b
one_grows None (Some l) event lines b = plains_grow (level_cell l) (λ run d. cell_grows _ _ refl _ _ d) (λ j. true) lines b
one_grows None None Global lines b = plains_grow global_cell (λ run d. cell_grows _ _ refl _ _ d) (λ j. true) lines b
one_grows None None (Low s) lines b = grows_none b
one_grows None None (High s) lines b = grows_none b
one_grows None None (Posedge s) lines b = grows_none b
one_grows None None (Negedge s) lines b = grows_none b
one_grows None None (Edge s) lines b = grows_none b
one_grows None None Init lines b = grows_none b
one_grows None None Always lines b = grows_none b

-- two rules, by the pairs that they are
abbrev two_by : (first second : Option (Trigger × Trigger)) (a b : List Link) (c : Building) → Building
two_by (Some p) second a b c = edge_and_level p.0 a p.1 b c
two_by None (Some p) a b c = edge_and_level p.0 b p.1 a c
two_by None None a b c = c

pub two_are : (ea eb la lb : Option Trigger) (a b : List Link) (c : Building) → two_rules ea eb la lb a b c ≡ two_by (both_of ea lb) (both_of eb la) a b c
two_are (Some e) eb la (Some l) a b c = refl
two_are None (Some e) (Some l) lb a b c = refl
two_are (Some e) (Some f) (Some l) None a b c = refl
two_are (Some e) (Some f) None None a b c = refl
two_are (Some e) None la None a b c = refl
two_are None (Some e) None lb a b c = refl
two_are None None la lb a b c = refl

two_grow : (ea eb la lb : Option Trigger) (a b : List Link) (c : Building) → Grows c (two_rules ea eb la lb a b c)
two_grow (Some e) eb la (Some l) a b c = both_grow e a l b c
two_grow None (Some e) (Some l) lb a b c = both_grow e b l a c
two_grow (Some e) (Some f) (Some l) None a b c = both_grow f b l a c
two_grow (Some e) (Some f) None None a b c = grows_none c
two_grow (Some e) None la None a b c = grows_none c
two_grow None (Some e) None lb a b c = grows_none c
two_grow None None la lb a b c = grows_none c

rules_grow : (rules : List SyncRule) (b : Building) → Grows b (rules_step rules b)
rules_grow [] b = grows_none b
rules_grow (r ∷ []) b = one_grows (edge_trigger r.event) (level_trigger r.event) r.event r.updates b
rules_grow (r ∷ s ∷ []) b =
    two_grow (edge_trigger r.event) (edge_trigger s.event) (level_trigger r.event) (level_trigger s.event) r.updates s.updates b
rules_grow (r ∷ s ∷ t ∷ rules) b = grows_none b

pub process_grows : (p : Process) (b : Building) → Grows b (rules_step (acting_rules p.syncs) b)
process_grows p b = rules_grow (acting_rules p.syncs) b

pub processes_grow : (ps : List Process) (b : Building) → Grows b (in_turn (λ (p : Process). rules_step (acting_rules p.syncs)) ps b)
processes_grow ps b = turn_grows (λ (p : Process). rules_step (acting_rules p.syncs)) process_grows ps b

-- where the edge rule passes a limit, so do both
pub both_over : (e l : RuleTrigger) (edges levels : List Link) (b : Building) (js : List Join) → js ≡ all_joins levels → PassesLimit (lines_step (Beside e l) js edges b) → PassesLimit (edge_and_level (trigger_of e) edges (trigger_of l) levels b)
both_over e l edges levels b js is over =
    let first : Building = lines_step (Beside e l) (all_joins levels) edges b in
    subst PassesLimit (both_is e l edges levels b first refl)
    (over_later first (lines_step (AtLevel l) (all_joins edges) levels first) (lines_grow (AtLevel l) (all_joins edges) levels first)
    (subst (λ z. PassesLimit (lines_step (Beside e l) z edges b)) is over))

-- what is so where a result is Ok
pub on_ok : {A E : Type 0} (r : Result A E) (P Q : Type 0) → (P → Q) → OnOk r P → OnOk r Q
on_ok (Ok x) P Q f h = f h
on_ok (Err e) P Q f h = tt
