-- What the step adds, as a list of cells that have no names yet.
use Rattle.std.proofs.Common.{◌≡◌, ℕ, ◌+◌, Bool, true, List, [], ◌∷◌, ◌++◌, length, Option, Some, None, if◌then◌else◌, refl, sym, ◌∙◌, ap, append_assoc, append-nil, arith}
use Rattle.std.specs.Prelude.{codes, flat_map, map, not}
use Rattle.std.specs.Option.{is_some}
use Rattle.rtl_sig.specs.declared.sig.SigBit.{SigBit}
use Rattle.rtl_ir.specs.Build.{Building, integer_param, bits_param, made_name, new_cell, pin_of}
use Rattle.rtl_ir.specs.Signals.{constant_of}
use Rattle.rtl_ir.specs.Flat.Process.{Trigger, edge_trigger, level_trigger}
use Rattle.rtl_ir.specs.Follow.{all_joins, joins, source_at}
use Rattle.rtl_ir.specs.declared.follow.Join.{Join}
use Rattle.rtl_ir.specs.Rules.{acting_rules}
use Rattle.rtl_ir.specs.declared.cell.Cell.{Cell}
use Rattle.rtl_ir.specs.declared.cell.CellParam.{CellParam}
use Rattle.rtl_ir.specs.declared.cell.Pin.{Pin}
use Rattle.rtl_ir.specs.declared.module.Link.{Link}
use Rattle.rtl_ir.specs.declared.module.Module.{Module}
use Rattle.rtl_ir.specs.declared.process.Event.{Event}
use Rattle.rtl_ir.specs.declared.process.Event.TheVariants.{Low, High, Posedge, Negedge, Edge, Global, Init, Always}
use Rattle.rtl_ir.specs.declared.process.Process.{Process}
use Rattle.rtl_ir.specs.declared.process.SyncRule.{SyncRule}
use Rattle.net_model.specs.Proc.Sync.{Class, Plain, Resets, Loads, Run, class_of, classed, clocked_params, edge_and_level, edge_cell, edge_lines, global_cell, in_turn, left_side, level_cell, level_side, loaded_cell, one_rule, plain_lines, polarity_of, right_side, rules_step, runs_of, two_rules}

-- a cell but for its name
pub record Part : Type 0 where
  pub kind : List ℕ
  pub params : List CellParam
  pub pins : List Pin

-- under the fresh name of a number
abbrev pub named : Part → ℕ → Cell
named q n = record { kind_name = q.kind; name = made_name n; params = q.params; pins = q.pins; attributes = [] }

abbrev pub put : Part → Building → Building
put q = new_cell q.kind q.params q.pins

-- under the numbers from one on
abbrev pub cells_from : ℕ → List Part → List Cell
cells_from n [] = []
cells_from n (q ∷ qs) = named q n ∷ cells_from (n + 1) qs

-- the module with these cells last
abbrev pub with_parts : List Part → Building → Building
with_parts qs b =
    record { body = record b.body { cells = b.body.cells ++ cells_from b.next qs }; next = b.next + length qs }

pub put_all : (qs : List Part) (b : Building) → in_turn put qs b ≡ with_parts qs b
put_all [] b =
    let same : b.next ≡ b.next + 0 = omega arith in
    λ i. record { body = record b.body { cells = sym (append-nil b.body.cells) i }; next = same i }
put_all (q ∷ qs) b =
    let later : (b.next + 1) + length qs ≡ b.next + length (q ∷ qs) = omega arith in
    put_all qs (put q b)
    ∙ (λ i. record { body = record b.body { cells = append_assoc b.body.cells (named q b.next ∷ []) (cells_from (b.next + 1) qs) i }; next = later i })

-- steps one after another
pub turn_append : {A : Type 0} (step : A → Building → Building) (xs ys : List A) (b : Building) → in_turn step (xs ++ ys) b ≡ in_turn step ys (in_turn step xs b)
turn_append step [] ys b = refl
turn_append step (x ∷ xs) ys b = turn_append step xs ys (step x b)

-- each step puts its parts
turn_parts : {A : Type 0} (step : A → Building → Building) (parts : A → List Part) → ((x : A) (b : Building) → step x b ≡ in_turn put (parts x) b) → (xs : List A) (b : Building) → in_turn step xs b ≡ in_turn put (flat_map parts xs) b
turn_parts step parts h [] b = refl
turn_parts step parts h (x ∷ xs) b =
    ap (in_turn step xs) (h x b)
    ∙ turn_parts step parts h xs (in_turn put (parts x) b)
    ∙ sym (turn_append put (parts x) (flat_map parts xs) b)

turn_map : {A : Type 0} (step : A → Building → Building) (part : A → Part) → ((x : A) (b : Building) → step x b ≡ put (part x) b) → (xs : List A) (b : Building) → in_turn step xs b ≡ in_turn put (map part xs) b
turn_map step part h [] b = refl
turn_map step part h (x ∷ xs) b = ap (in_turn step xs) (h x b) ∙ turn_map step part h xs (put (part x) b)

-- the cells of places
abbrev pub ff_part : List Join → Part
ff_part js = record {
  kind = codes "$ff";
  params = integer_param (codes "\\WIDTH") (length js) ∷ [];
  pins = pin_of (codes "\\D") (right_side js) ∷ pin_of (codes "\\Q") (left_side js) ∷ [];
}

abbrev pub dlatch_part : Trigger → List Join → Part
dlatch_part l js = record {
  kind = codes "$dlatch";
  params =
      integer_param (codes "\\WIDTH") (length js) ∷ integer_param (codes "\\EN_POLARITY") (polarity_of l.level) ∷ [];
  pins =
      pin_of (codes "\\EN") l.signal ∷ pin_of (codes "\\D") (right_side js) ∷ pin_of (codes "\\Q") (left_side js) ∷ [];
}

abbrev pub dff_part : Trigger → List Join → Part
dff_part e js = record {
  kind = codes "$dff";
  params = clocked_params e js;
  pins =
      pin_of (codes "\\CLK") e.signal ∷ pin_of (codes "\\D") (right_side js) ∷ pin_of (codes "\\Q") (left_side js) ∷ [];
}

abbrev pub adff_part : Trigger → Trigger → List SigBit → List Join → Part
adff_part e l given js = record {
  kind = codes "$adff";
  params =
      clocked_params e js ++ integer_param (codes "\\ARST_POLARITY") (polarity_of l.level) ∷ bits_param (codes "\\ARST_VALUE") (map constant_of given) ∷ [];
  pins =
      pin_of (codes "\\CLK") e.signal ∷ pin_of (codes "\\ARST") l.signal ∷ pin_of (codes "\\D") (right_side js) ∷ pin_of (codes "\\Q") (left_side js) ∷ [];
}

abbrev pub aldff_part : Trigger → Trigger → List SigBit → List Join → Part
aldff_part e l given js = record {
  kind = codes "$aldff";
  params = clocked_params e js ++ integer_param (codes "\\ALOAD_POLARITY") (polarity_of l.level) ∷ [];
  pins =
      pin_of (codes "\\CLK") e.signal ∷ pin_of (codes "\\ALOAD") l.signal ∷ pin_of (codes "\\AD") given ∷ pin_of (codes "\\D") (right_side js) ∷ pin_of (codes "\\Q") (left_side js) ∷ [];
}

-- a run of an edge rule, beside a level rule that may be there
abbrev pub loaded_part : Trigger → Trigger → Class → List SigBit → List Join → Part
loaded_part e l Plain given js = dff_part e js
loaded_part e l Resets given js = adff_part e l given js
loaded_part e l Loads given js = aldff_part e l given js

abbrev pub edge_part : Trigger → Option Trigger → List Join → Run → Part
edge_part e None levels run = dff_part e run.places
edge_part e (Some l) levels run = loaded_part e l run.class (level_side levels run.places) run.places

-- what the level rule gives a place, as a class
abbrev pub join_class : List Join → Join → Class
join_class levels j = class_of (source_at levels j.bit)

-- the update lines of an edge rule
abbrev pub edge_parts : Trigger → Option Trigger → List Join → List Link → List Part
edge_parts e l levels lines =
    flat_map (λ (line : Link). map (edge_part e l levels) (classed (join_class levels) (joins line.left line.right))) lines

-- the class of places that are asked for
abbrev pub asked_class : (Join → Bool) → Join → Class
asked_class asked j = if asked j then Plain else Loads

-- the places of lines that are asked for
abbrev pub plain_parts : (Run → Part) → (Join → Bool) → List Link → List Part
plain_parts part asked lines =
    flat_map (λ (line : Link). map part (runs_of Plain (classed (asked_class asked) (joins line.left line.right)))) lines

-- a place that no edge rule has
abbrev pub is_left : List Join → Join → Bool
is_left edges j = not (is_some (source_at edges j.bit))

abbrev pub both_parts : Trigger → List Link → Trigger → List Link → List Part
both_parts e edges l levels =
    edge_parts e (Some l) (all_joins levels) edges
    ++ plain_parts (λ (run : Run). dlatch_part l run.places) (is_left (all_joins edges)) levels

abbrev pub one_parts : Option Trigger → Option Trigger → Event → List Link → List Part
one_parts (Some e) level event lines = edge_parts e None [] lines
one_parts None (Some l) event lines = plain_parts (λ (run : Run). dlatch_part l run.places) (λ j. true) lines
one_parts None None Global lines = plain_parts (λ (run : Run). ff_part run.places) (λ j. true) lines
one_parts None None event lines = []

abbrev pub two_parts : Option Trigger → Option Trigger → Option Trigger → Option Trigger → List Link → List Link → List Part
two_parts (Some e) edge level (Some l) a b = both_parts e a l b
two_parts edge (Some e) (Some l) level a b = both_parts e b l a
two_parts edge edge' level level' a b = []

-- the rules of a process that act
abbrev pub rules_parts : List SyncRule → List Part
rules_parts [] = []
rules_parts (a ∷ []) = one_parts (edge_trigger a.event) (level_trigger a.event) a.event a.updates
rules_parts (a ∷ b ∷ []) =
    two_parts (edge_trigger a.event) (edge_trigger b.event) (level_trigger a.event) (level_trigger b.event) a.updates b.updates
rules_parts (a ∷ b ∷ c ∷ rules) = []

abbrev pub process_parts : Process → List Part
process_parts p = rules_parts (acting_rules p.syncs)

abbrev pub all_parts : Module → List Part
all_parts m = flat_map process_parts m.processes

edge_put : (e : Trigger) (l : Option Trigger) (levels : List Join) (run : Run) (b : Building) → edge_cell e l levels run b ≡ put (edge_part e l levels run) b
edge_put e None levels run b = refl
edge_put e (Some l) levels run b = by run.class
  where
    by : (class : Class) → loaded_cell e l class (level_side levels run.places) run.places b ≡ put (loaded_part e l class (level_side levels run.places) run.places) b
    by Plain = refl
    by Resets = refl
    by Loads = refl

edges_put : (e : Trigger) (l : Option Trigger) (levels : List Join) (lines : List Link) (b : Building) → edge_lines e l levels lines b ≡ in_turn put (edge_parts e l levels lines) b
edges_put e l levels lines b =
    turn_parts
    (λ (line : Link). in_turn (edge_cell e l levels) (classed (join_class levels) (joins line.left line.right)))
    (λ (line : Link). map (edge_part e l levels) (classed (join_class levels) (joins line.left line.right)))
    (λ line c. turn_map (edge_cell e l levels) (edge_part e l levels) (edge_put e l levels) (classed (join_class levels) (joins line.left line.right)) c)
    lines b

plain_put : (cell : Run → Building → Building) (part : Run → Part) → ((run : Run) (b : Building) → cell run b ≡ put (part run) b) → (asked : Join → Bool) (lines : List Link) (b : Building) → plain_lines cell asked lines b ≡ in_turn put (plain_parts part asked lines) b
plain_put cell part h asked lines b =
    turn_parts
    (λ (line : Link). in_turn cell (runs_of Plain (classed (asked_class asked) (joins line.left line.right))))
    (λ (line : Link). map part (runs_of Plain (classed (asked_class asked) (joins line.left line.right))))
    (λ line c. turn_map cell part h (runs_of Plain (classed (asked_class asked) (joins line.left line.right))) c)
    lines b

both_put : (e : Trigger) (edges : List Link) (l : Trigger) (levels : List Link) (b : Building) → edge_and_level e edges l levels b ≡ in_turn put (both_parts e edges l levels) b
both_put e edges l levels b =
    plain_put (level_cell l) (λ (run : Run). dlatch_part l run.places) (λ run c. refl) (is_left (all_joins edges)) levels (edge_lines e (Some l) (all_joins levels) edges b)
    ∙ ap (in_turn put (plain_parts (λ (run : Run). dlatch_part l run.places) (is_left (all_joins edges)) levels)) (edges_put e (Some l) (all_joins levels) edges b)
    ∙ sym (turn_append put (edge_parts e (Some l) (all_joins levels) edges) (plain_parts (λ (run : Run). dlatch_part l run.places) (is_left (all_joins edges)) levels) b)

one_put : (edge level : Option Trigger) (event : Event) (lines : List Link) (b : Building) → one_rule edge level event lines b ≡ in_turn put (one_parts edge level event lines) b
one_put (Some e) level event lines b = edges_put e None [] lines b
one_put None (Some l) event lines b =
    plain_put (level_cell l) (λ (run : Run). dlatch_part l run.places) (λ run c. refl) (λ j. true) lines b
one_put None None Global lines b =
    plain_put global_cell (λ (run : Run). ff_part run.places) (λ run c. refl) (λ j. true) lines b
one_put None None (Low s) lines b = refl
one_put None None (High s) lines b = refl
one_put None None (Posedge s) lines b = refl
one_put None None (Negedge s) lines b = refl
one_put None None (Edge s) lines b = refl
one_put None None Init lines b = refl
one_put None None Always lines b = refl

two_put : (ea eb la lb : Option Trigger) (a b : List Link) (c : Building) → two_rules ea eb la lb a b c ≡ in_turn put (two_parts ea eb la lb a b) c
two_put (Some e) eb la (Some l) a b c = both_put e a l b c
two_put None (Some e) (Some l) lb a b c = both_put e b l a c
two_put (Some e) (Some f) (Some l) None a b c = both_put f b l a c
two_put (Some e) (Some f) None None a b c = refl
two_put (Some e) None la None a b c = refl
two_put None (Some e) None lb a b c = refl
two_put None None la lb a b c = refl

rules_put : (rules : List SyncRule) (b : Building) → rules_step rules b ≡ in_turn put (rules_parts rules) b
rules_put [] b = refl
rules_put (a ∷ []) b = one_put (edge_trigger a.event) (level_trigger a.event) a.event a.updates b
rules_put (a ∷ c ∷ []) b =
    two_put (edge_trigger a.event) (edge_trigger c.event) (level_trigger a.event) (level_trigger c.event) a.updates c.updates b
rules_put (a ∷ c ∷ d ∷ rules) b = refl

pub processes_put : (ps : List Process) (b : Building) → in_turn (λ (p : Process). rules_step (acting_rules p.syncs)) ps b ≡ in_turn put (flat_map process_parts ps) b
processes_put ps b =
    turn_parts (λ (p : Process). rules_step (acting_rules p.syncs)) process_parts (λ p c. rules_put (acting_rules p.syncs) c) ps b
