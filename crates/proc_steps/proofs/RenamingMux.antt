-- Making multiplexers does not look at the name of a module.
use Rattle.std.proofs.Common.{◌≡◌, ℕ, ◌+◌, List, [], ◌∷◌, ◌++◌, Bool, true, false, Option, Some, None, if◌then◌else◌, refl, ap, ◌∙◌}
use Rattle.std.specs.Prelude.{map}
use Rattle.std.specs.Option.{option_map_or}
use Rattle.rtl_bits.specs.declared.bit.Bit.TheVariants.{S0, S1, X, Z, M, Dash}
use Rattle.rtl_sig.specs.declared.sig.SigBit.{SigBit}
use Rattle.rtl_sig.specs.declared.sig.SigBit.TheVariants.{Fixed, Wire as OnWire}
use Rattle.rtl_sig.specs.declared.sig.WireBit.{WireBit}
use Rattle.rtl_ir.specs.declared.module.Module.{Module}
use Rattle.rtl_ir.specs.declared.process.Process.{Process}
use Rattle.rtl_ir.specs.Assigns.{cases_assigns}
use Rattle.rtl_ir.specs.Build.{Building, building_of, new_link}
use Rattle.rtl_ir.specs.Tree.{Switches, NoSwitch, OneSwitch, Cases, NoCase, OneCase, CaseView}
use Rattle.rtl_ir.specs.Signals.{same_signal}
use Rattle.net_model.specs.Proc.Mux.{Trees, asked_places, assigns_run, cases_value, is_default, joined_bits, made_match, match_bit, mux_cell, pattern_bit, pattern_bits, process_step, processes_step, proc_mux_of, run_step, run_value, runs_step, switches_value, tree_runs, with_case}
use Rattle.net_model.specs.Proc.Start.{proc_tree_of}

module _ (id : List ℕ) where
  -- a module under the name, and what is built of one
  abbrev pub under : Module → Module
  under m = record m { id = id }

  abbrev pub renamed : Building → Building
  renamed b = record { body = under b.body; next = b.next }

  -- a result beside what is built, and beside trees
  abbrev pub beside : {A : Type 0} → A × Building → A × Building
  beside r = (r.0, renamed r.1)

  abbrev pub renamed_trees : Trees → Trees
  renamed_trees t = record { building = renamed t.building; made = t.made }

  abbrev pub beside_trees : {A : Type 0} → A × Trees → A × Trees
  beside_trees r = (r.0, renamed_trees r.1)

  pattern_renamed : (places : List (SigBit × SigBit)) (b : Building) → pattern_bit places (renamed b) ≡ beside (pattern_bit places b)
  pattern_renamed [] b = refl
  pattern_renamed ((Fixed S1, s) ∷ []) b = refl
  pattern_renamed ((Fixed S0, s) ∷ []) b = refl
  pattern_renamed ((Fixed X, s) ∷ []) b = refl
  pattern_renamed ((Fixed Z, s) ∷ []) b = refl
  pattern_renamed ((Fixed M, s) ∷ []) b = refl
  pattern_renamed ((Fixed Dash, s) ∷ []) b = refl
  pattern_renamed ((OnWire p, s) ∷ []) b = refl
  pattern_renamed ((Fixed S1, s) ∷ q ∷ places) b = refl
  pattern_renamed ((Fixed S0, s) ∷ q ∷ places) b = refl
  pattern_renamed ((Fixed X, s) ∷ q ∷ places) b = refl
  pattern_renamed ((Fixed Z, s) ∷ q ∷ places) b = refl
  pattern_renamed ((Fixed M, s) ∷ q ∷ places) b = refl
  pattern_renamed ((Fixed Dash, s) ∷ q ∷ places) b = refl
  pattern_renamed ((OnWire p, s) ∷ q ∷ places) b = refl

  patterns_renamed : (signal : List SigBit) (patterns : List (List SigBit)) (b : Building) → pattern_bits signal patterns (renamed b) ≡ beside (pattern_bits signal patterns b)
  patterns_renamed signal [] b = refl
  patterns_renamed signal (p ∷ ps) b =
      ap (λ (first : SigBit × Building). (first.0 ∷ (pattern_bits signal ps first.1).0, (pattern_bits signal ps first.1).1)) (pattern_renamed (asked_places p signal) b)
      ∙ ap (λ (rest : List SigBit × Building). ((pattern_bit (asked_places p signal) b).0 ∷ rest.0, rest.1)) (patterns_renamed signal ps (pattern_bit (asked_places p signal) b).1)

  joined_renamed : (bits : List SigBit) (b : Building) → joined_bits bits (renamed b) ≡ beside (joined_bits bits b)
  joined_renamed [] b = refl
  joined_renamed (s ∷ []) b = refl
  joined_renamed (s ∷ t ∷ bits) b = refl

  match_renamed : (at : List ℕ) (signal : List SigBit) (patterns : List (List SigBit)) (t : Trees) → match_bit at signal patterns (renamed_trees t) ≡ beside_trees (match_bit at signal patterns t)
  match_renamed at signal patterns t = by (made_match t.made at)
    where
      made_one : SigBit × Building → SigBit × Trees
      made_one joined = (joined.0, record { building = joined.1; made = t.made ++ record { case_at = at; bit = joined.0 } ∷ [] })

      by : (o : Option SigBit)
          → option_map_or (λ (s : SigBit). (s, renamed_trees t)) o (made_one (joined_bits (pattern_bits signal patterns (renamed t.building)).0 (pattern_bits signal patterns (renamed t.building)).1))
          ≡ beside_trees (option_map_or (λ (s : SigBit). (s, t)) o (made_one (joined_bits (pattern_bits signal patterns t.building).0 (pattern_bits signal patterns t.building).1)))
      by (Some s) = refl
      by None =
          ap (λ (bits : List SigBit × Building). made_one (joined_bits bits.0 bits.1)) (patterns_renamed signal patterns t.building)
          ∙ ap made_one (joined_renamed (pattern_bits signal patterns t.building).0 (pattern_bits signal patterns t.building).1)

  pub case_renamed : (at : List ℕ) (signal : List SigBit) (patterns : List (List SigBit)) (body acc : List SigBit) (t : Trees)
      → with_case at signal patterns body acc (renamed_trees t) ≡ beside_trees (with_case at signal patterns body acc t)
  case_renamed at signal patterns body acc t = by (is_default signal patterns) (same_signal body acc)
    where
      muxed : SigBit × Trees → List SigBit × Trees
      muxed m =
          let mux = mux_cell acc body m.0 m.1.building in
          (mux.0, record { building = mux.1; made = m.1.made })

      by : (d s : Bool)
          → (if d then (body, renamed_trees t) else if s then (acc, renamed_trees t) else muxed (match_bit at signal patterns (renamed_trees t)))
          ≡ beside_trees (if d then (body, t) else if s then (acc, t) else muxed (match_bit at signal patterns t))
      by true s = refl
      by false true = refl
      by false false = ap muxed (match_renamed at signal patterns t)

  mutual
    switches_renamed : (run : List WireBit) (above : List ℕ) (number : ℕ) (switches : Switches) (prior : List SigBit) (t : Trees)
        → switches_value run above number switches prior (renamed_trees t) ≡ beside_trees (switches_value run above number switches prior t)
    switches_renamed run above number NoSwitch prior t = refl
    switches_renamed run above number (OneSwitch signal attributes cases rest) prior t =
        by (assigns_run (cases_assigns cases) run) (cases_renamed run (above ++ number ∷ []) 0 signal cases prior t) ∙ switches_renamed run above (number + 1) rest value.0 value.1
      where
        after : List SigBit × Trees → List SigBit × Trees
        after value = switches_value run above (number + 1) rest value.0 value.1

        value : List SigBit × Trees
        value = if assigns_run (cases_assigns cases) run then cases_value run (above ++ number ∷ []) 0 signal cases prior t else (prior, t)

        by : (a : Bool) → cases_value run (above ++ number ∷ []) 0 signal cases prior (renamed_trees t) ≡ beside_trees (cases_value run (above ++ number ∷ []) 0 signal cases prior t)
            → after (if a then cases_value run (above ++ number ∷ []) 0 signal cases prior (renamed_trees t) else (prior, renamed_trees t))
            ≡ after (beside_trees (if a then cases_value run (above ++ number ∷ []) 0 signal cases prior t else (prior, t)))
        by true same = ap after same
        by false same = refl

    cases_renamed : (run : List WireBit) (above : List ℕ) (number : ℕ) (signal : List SigBit) (cases : Cases) (prior : List SigBit) (t : Trees)
        → cases_value run above number signal cases prior (renamed_trees t) ≡ beside_trees (cases_value run above number signal cases prior t)
    cases_renamed run above number signal NoCase prior t = refl
    cases_renamed run above number signal (OneCase patterns assigns attributes switches rest) prior t =
        let here : List ℕ = above ++ number ∷ [] in
        let acc = cases_value run above (number + 1) signal rest prior t in
        let start : List SigBit = run_value assigns run prior in
        let body = switches_value run here 0 switches start acc.1 in
        ap (λ (a : List SigBit × Trees). let b = switches_value run here 0 switches start a.1 in with_case here signal patterns b.0 a.0 b.1) (cases_renamed run above (number + 1) signal rest prior t)
        ∙ ap (λ (b : List SigBit × Trees). with_case here signal patterns b.0 acc.0 b.1) (switches_renamed run here 0 switches start acc.1)
        ∙ case_renamed here signal patterns body.0 acc.0 body.1

  run_renamed : (root : CaseView) (run : List WireBit) (t : Trees) → run_step root run (renamed_trees t) ≡ renamed_trees (run_step root run t)
  run_renamed root run t =
      ap (λ (value : List SigBit × Trees). record { building = new_link (map OnWire run) value.0 value.1.building; made = value.1.made })
      (switches_renamed run [] 0 root.switches (run_value root.assigns run (map (λ b. Fixed X) run)) t)

  runs_renamed : (root : CaseView) (runs : List (List WireBit)) (t : Trees) → runs_step root runs (renamed_trees t) ≡ renamed_trees (runs_step root runs t)
  runs_renamed root [] t = refl
  runs_renamed root (run ∷ runs) t = ap (runs_step root runs) (run_renamed root run t) ∙ runs_renamed root runs (run_step root run t)

  process_renamed : (b : Building) (p : Process) → process_step (renamed b) p ≡ renamed (process_step b p)
  process_renamed b p = ap (λ (t : Trees). t.building) (runs_renamed p.root (tree_runs p.root) (record { building = b; made = [] }))

  pub processes_renamed : (ps : List Process) (b : Building) → processes_step (renamed b) ps ≡ renamed (processes_step b ps)
  processes_renamed [] b = refl
  processes_renamed (p ∷ ps) b = ap (λ (c : Building). processes_step c ps) (process_renamed b p) ∙ processes_renamed ps (process_step b p)

  pub mux_renamed : (m : Module) → proc_mux_of (under m) ≡ under (proc_mux_of m)
  mux_renamed m = ap (λ (b : Building). record b.body { processes = [] }) (processes_renamed m.processes (building_of m))

  pub tree_renamed : (m : Module) → proc_tree_of (under m) ≡ under (proc_tree_of m)
  tree_renamed m = refl
