-- Making flip-flops and write ports does not look at the name of a module.
use Rattle.std.proofs.Common.{◌≡◌, ℕ, List, [], ◌∷◌, ◌++◌, Bool, true, not, Option, Some, None, if◌then◌else◌, refl, ap, ◌∙◌}
use Rattle.std.specs.Prelude.{map, flat_map}
use Rattle.std.specs.Option.{is_some}
use Rattle.rtl_sig.specs.declared.sig.SigBit.{SigBit}
use Rattle.rtl_ir.specs.declared.module.Link.{Link}
use Rattle.rtl_ir.specs.declared.module.Module.{Module}
use Rattle.rtl_ir.specs.declared.process.Event.{Event}
use Rattle.rtl_ir.specs.declared.process.Event.TheVariants.{Low, High, Posedge, Negedge, Edge, Global, Init, Always}
use Rattle.rtl_ir.specs.declared.process.Process.{Process}
use Rattle.rtl_ir.specs.declared.process.SyncRule.{SyncRule}
use Rattle.rtl_ir.specs.declared.process.WriteLine.{WriteLine}
use Rattle.rtl_ir.specs.Build.{Building, building_of}
use Rattle.rtl_ir.specs.Flat.Process.{Trigger, edge_trigger, level_trigger}
use Rattle.rtl_ir.specs.Follow.{joins, all_joins, source_at}
use Rattle.rtl_ir.specs.declared.follow.Join.{Join}
use Rattle.rtl_ir.specs.Rules.{acting_rules}
use Rattle.net_model.specs.Proc.Sync.{Class, Plain, Resets, Loads, Numbered, Run, Writing, class_of, classed, edge_and_level, edge_cell, edge_lines, global_cell, in_turn, level_cell, level_side, line_number, lines_step, loaded_cell, one_rule, plain_lines, proc_sync_of, rules_step, runs_of, sync_step, two_rules, write_cell, writes_step}
use Rattle.proc_steps.proofs.RenamingMux.{renamed, under}

module _ (id : List ℕ) where
  -- what adds to a module does not look at the name
  abbrev IsBlind : (Building → Building) → Type 0
  IsBlind f = (b : Building) → f (renamed id b) ≡ renamed id (f b)

  turns_blind : {A : Type 0} (step : A → Building → Building) → ((x : A) → IsBlind (step x)) → (xs : List A) → IsBlind (in_turn step xs)
  turns_blind step h [] b = refl
  turns_blind step h (x ∷ xs) b = ap (in_turn step xs) (h x b) ∙ turns_blind step h xs (step x b)

  loaded_blind : (e l : Trigger) (class : Class) (given : List SigBit) (js : List Join) → IsBlind (loaded_cell e l class given js)
  loaded_blind e l Plain given js b = refl
  loaded_blind e l Resets given js b = refl
  loaded_blind e l Loads given js b = refl

  edge_blind : (e : Trigger) (l : Option Trigger) (levels : List Join) (run : Run) → IsBlind (edge_cell e l levels run)
  edge_blind e None levels run b = refl
  edge_blind e (Some l) levels run b = loaded_blind e l run.class (level_side levels run.places) run.places b

  edges_blind : (e : Trigger) (l : Option Trigger) (levels : List Join) (lines : List Link) → IsBlind (edge_lines e l levels lines)
  edges_blind e l levels lines =
      turns_blind (λ (line : Link). in_turn (edge_cell e l levels) (classed (λ (j : Join). class_of (source_at levels j.bit)) (joins line.left line.right)))
      (λ line. turns_blind (edge_cell e l levels) (edge_blind e l levels) (classed (λ (j : Join). class_of (source_at levels j.bit)) (joins line.left line.right))) lines

  plain_blind : (cell : Run → Building → Building) → ((run : Run) → IsBlind (cell run)) → (asked : Join → Bool) (lines : List Link) → IsBlind (plain_lines cell asked lines)
  plain_blind cell h asked lines =
      turns_blind (λ (line : Link). in_turn cell (runs_of Plain (classed (λ (j : Join). if asked j then Plain else Loads) (joins line.left line.right))))
      (λ line. turns_blind cell h (runs_of Plain (classed (λ (j : Join). if asked j then Plain else Loads) (joins line.left line.right)))) lines

  both_blind : (e : Trigger) (edges : List Link) (l : Trigger) (levels : List Link) → IsBlind (edge_and_level e edges l levels)
  both_blind e edges l levels b =
      ap (plain_lines (level_cell l) (λ (j : Join). not (is_some (source_at (all_joins edges) j.bit))) levels) (edges_blind e (Some l) (all_joins levels) edges b)
      ∙ plain_blind (level_cell l) (λ run b. refl) (λ (j : Join). not (is_some (source_at (all_joins edges) j.bit))) levels (edge_lines e (Some l) (all_joins levels) edges b)

  one_blind : (edge level : Option Trigger) (event : Event) (lines : List Link) → IsBlind (one_rule edge level event lines)
  one_blind (Some e) level event lines b = edges_blind e None [] lines b
  one_blind None (Some l) event lines b = plain_blind (level_cell l) (λ run b. refl) (λ j. true) lines b
  one_blind None None Global lines b = plain_blind global_cell (λ run b. refl) (λ j. true) lines b
  one_blind None None (Low signal) lines b = refl
  one_blind None None (High signal) lines b = refl
  one_blind None None (Posedge signal) lines b = refl
  one_blind None None (Negedge signal) lines b = refl
  one_blind None None (Edge signal) lines b = refl
  one_blind None None Init lines b = refl
  one_blind None None Always lines b = refl

  two_blind : (edge edge' level level' : Option Trigger) (a b : List Link) → IsBlind (two_rules edge edge' level level' a b)
  two_blind (Some e) edge level (Some l) a b x = both_blind e a l b x
  two_blind None (Some e) (Some l) level a b x = both_blind e b l a x
  two_blind (Some e) (Some f) (Some l) None a b x = both_blind f b l a x
  two_blind (Some e) (Some f) None None a b x = refl
  two_blind (Some e) None level None a b x = refl
  two_blind None (Some e) None level a b x = refl
  two_blind None None level level' a b x = refl

  rules_blind : (rules : List SyncRule) → IsBlind (rules_step rules)
  rules_blind [] b = refl
  rules_blind (r ∷ []) b = one_blind (edge_trigger r.event) (level_trigger r.event) r.event r.updates b
  rules_blind (r ∷ s ∷ []) b = two_blind (edge_trigger r.event) (edge_trigger s.event) (level_trigger r.event) (level_trigger s.event) r.updates s.updates b
  rules_blind (r ∷ s ∷ t ∷ rules) b = refl

  -- lines that write
  abbrev renamed_writing : Writing → Writing
  renamed_writing w = record { building = renamed id w.building; numbered = w.numbered }

  module _ (m : Module) where
    lines_blind : (event : Event) (rule : List Numbered) (lines : List WriteLine) (w : Writing) → lines_step (under id m) event rule lines (renamed_writing w) ≡ renamed_writing (lines_step m event rule lines w)
    lines_blind event rule [] w = refl
    lines_blind event rule (line ∷ lines) w =
        let here : Numbered = record { memory = line.memory; number = line_number m w.numbered line.memory } in
        lines_blind event (rule ++ here ∷ []) lines (record { building = write_cell event line here.number rule w.building; numbered = w.numbered ++ here ∷ [] })

    writes_blind : (rules : List SyncRule) (w : Writing) → writes_step (under id m) rules (renamed_writing w) ≡ renamed_writing (writes_step m rules w)
    writes_blind [] w = refl
    writes_blind (r ∷ rules) w =
        ap (writes_step (under id m) rules) (lines_blind r.event [] r.writes w) ∙ writes_blind rules (lines_step m r.event [] r.writes w)

    pub sync_renamed : (b : Building) → sync_step (under id m) (renamed id b) ≡ renamed id (sync_step m b)
    sync_renamed b =
        ap (λ (c : Building). (writes_step (under id m) (flat_map (λ (p : Process). p.syncs) m.processes) (record { building = c; numbered = [] })).building)
        (turns_blind (λ (p : Process). rules_step (acting_rules p.syncs)) (λ p. rules_blind (acting_rules p.syncs)) m.processes b)
        ∙ ap (λ (w : Writing). w.building)
        (writes_blind (flat_map (λ (p : Process). p.syncs) m.processes) (record { building = in_turn (λ (p : Process). rules_step (acting_rules p.syncs)) m.processes b; numbered = [] }))

  pub sync_of_renamed : (m : Module) → proc_sync_of (under id m) ≡ under id (proc_sync_of m)
  sync_of_renamed m = ap (λ (b : Building). record b.body { processes = map (λ (p : Process). record p { syncs = [] }) m.processes }) (sync_renamed m (building_of m))
