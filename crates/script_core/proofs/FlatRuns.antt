-- Scripts that flatten: what they make of a module of an accepted design, and so their cold runs.
use Rattle.std.proofs.Common.{◌≡◌, ◌⊎◌, ⊎_elim, ℕ, zero, suc, Bool, true, false, cond, ◌&&◌, ◌||◌, List, [], ◌∷◌, ◌++◌, length, map, Option, Some, None, inl, inr, refl, sym, ◌∙◌, ap, subst, arith}
use Rattle.std.specs.Prelude.{drop, option_and_then, option_map, unwrap_or}
use Rattle.std.specs.List.{list_all}
use Rattle.cell_types.specs.declared.kind.CellKind.{CellKind}
use Rattle.rtl_ir.specs.declared.cell.Cell.{Cell}
use Rattle.rtl_ir.specs.declared.module.Design.{Design}
use Rattle.rtl_ir.specs.declared.module.Module.{Module}
use Rattle.rtl_ir.specs.declared.ports.PortTable.{PortTable}
use Rattle.rtl_ir.specs.declared.process.Process.{Process}
use Rattle.rtl_ir.specs.declared.wire.Role.TheVariants.{Input}
use Rattle.rtl_ir.specs.Faults.{check_faults}
use Rattle.rtl_ir.specs.Flat.Cell.{Ports, cell_kind, instances}
use Rattle.rtl_ir.specs.Flat.Driver.{Driven}
use Rattle.rtl_ir.specs.Flat.Place.{Path, frame, place_same}
use Rattle.rtl_ir.specs.Flat.Rows.{rows_of}
use Rattle.rtl_ir.specs.Flat.Tree as tree
use Rattle.rtl_ir.specs.Flat.Tree.{design_ports, driven_rows, flat, in_instances, in_tree, output_places, places, root, tree_points, tree_rows, undriven_rows, wires_points}
use Rattle.rtl_ir.specs.Ports.{ports_of}
use Rattle.rtl_ir.specs.Types.{table_ports}
use Rattle.rtl_readable.specs.Readable.{IsReadable}
use Rattle.net_model.specs.Below.{AreReached}
use Rattle.net_model.specs.Gates.{is_gate, is_gate_netlist, is_instance}
use Rattle.net_model.specs.Lists.{Distinct, In}
use Rattle.net_model.specs.Refine.{AgreeOn, AreWellDriven, IsWellDriven, ModuleBelow, ModulesBelow, Refines, run_of, with_body}
use Rattle.net_model.specs.Run.{TraceBelow, run}
use Rattle.net_model.specs.Value.{meanings}
use Rattle.net_model.specs.Within.{Each}
use Rattle.net_model.proofs.Composing.{Refines_trans, ids_swap, ports_swapped}
use Rattle.net_model.proofs.Instances.{rows_agree}
use Rattle.net_model.proofs.Members.{map-append}
use Rattle.pass_laws.specs.Pass.{IsPass}
use Rattle.pass_laws.proofs.Faultless.{plain}
use Rattle.tech_map.specs.Gates.{HasGatesAlone, is_gate_or_instance}
use Rattle.flat_pass.specs.Flat.{flat_of}
use Rattle.flat_pass.specs.Flattened.{IsFlattened}
use Rattle.flat_pass.proofs.Partners.{instance_in}
use Rattle.flat_pass.proofs.Renaming as renaming
use Rattle.script_core.specs.declared.outcome.Outcome.{Outcome}
use Rattle.script_core.specs.declared.outcome.Outcome.TheVariants.{Done}
use Rattle.script_core.specs.declared.word.Word.{Word}
use Rattle.script_core.specs.declared.word.Word.TheVariants.{Proc, Flatten}
use Rattle.script_core.specs.Built.{unnamed}
use Rattle.script_core.specs.Cold.{IsNetlist, cold, outcome_of}
use Rattle.script_core.specs.Fold.{AfterWord, AreApplicable, AreFlatApplicable, MayGoOn, MayStart, StartsWithProc, after_word, each_proc, fold_flat, fold_script, fold_words, pass_of}
use Rattle.script_core.specs.Mapping.{maps_all}
use Rattle.script_core.specs.Reached.{below_of, reached_of, table_of}
use Rattle.script_core.specs.Words.{flattens, is_flatten}
use Rattle.script_core.proofs.Faultless.{SameType, ready_over}
use Rattle.script_core.proofs.Gating.{from_memory}
use Rattle.script_core.proofs.Given.{given_first}
use Rattle.script_core.proofs.Processed.{AreMade, each_made, flat_driven, flat_on, procd, procd_design, procd_reached, procd_refines, procd_well}
use Rattle.script_core.proofs.Processed as processed
use Rattle.script_core.proofs.Renaming.{fold_renamed, pass_renamed, under}
use Rattle.script_core.proofs.Stepping.{applicable_from, leaves_from, passes_from}
use Rattle.script_core.proofs.Under.{same_table, under_closed, under_from}

-- ---- another name

rows_under : (ports : Ports) (p : Path) (m : Module) (name : List ℕ) → m.processes ≡ [] → rows_of ports p (record m { id = name }) ≡ rows_of ports p m
rows_under ports p m name e = by m.processes e
  where
    by : (ps : List Process) → ps ≡ [] → rows_of ports p (record m { id = name; processes = ps }) ≡ rows_of ports p (record m { processes = ps })
    by [] f = refl
    by (q ∷ ps) f = absurd cc

driven_under : (ports : Ports) (m : Module) (name : List ℕ) → m.processes ≡ [] → IsWellDriven ports m → IsWellDriven ports (record m { id = name })
driven_under ports m name e h = record {
  inputs = h.inputs;
  rows = λ p. subst (λ (rs : List Driven). Distinct (map (λ (r : Driven). r.place) rs)) (sym (rows_under ports p m name e)) (h.rows p);
  apart = λ p x i. h.apart p x (subst (In x) (rows_under ports p m name e) i);
  instances = h.instances;
}

on_under : (table : PortTable) (m : Module) (name : List ℕ) → MayGoOn table m → MayGoOn table (record m { id = name })
on_under table m name h = record {
  ready = ready_over (table_ports table.modules) (table_ports table.modules) m name (λ c i. SameType _) h.ready;
  driven = driven_under (tree.table_ports table) m name (plain (table_ports table.modules) m h.ready.faultless).processes h.driven;
  named = h.named;
}

-- ---- what a script that flattens does

-- the parts of what `proc`, `flatten` and then these words make of a module
pub record AreParts (words : List Word) (table : PortTable) (below : List Module) (m n : Module) : Type 0 where
  pub body : Module
  pub all : List Module
  pub flat : Module
  pub made : pass_of table Proc m ≡ Some body
  pub each : each_proc below below ≡ Some all
  pub gives : flat_of all body ≡ Some flat
  pub rest : fold_words words table flat ≡ Done n

fold_parts : (words : List Word) (table : PortTable) (below : List Module) (m n : Module) → fold_flat words table below m ≡ Done n → AreParts words table below m n
fold_parts words table below m n e = by (pass_of table Proc m) (each_proc below below) refl refl e
  where
    rest : Module × List Module → Outcome
    rest r = after_word Flatten (fold_words words table) (flat_of r.1 r.0)

    last : (body : Module) (all : List Module) (o : Option Module) → pass_of table Proc m ≡ Some body → each_proc below below ≡ Some all → flat_of all body ≡ o → after_word Flatten (fold_words words table) o ≡ Done n → AreParts words table below m n
    last body all None p q r f = absurd cc
    last body all (Some flat) p q r f = record { body = body; all = all; flat = flat; made = p; each = q; gives = r; rest = f }

    by : (o : Option Module) (a : Option (List Module)) → pass_of table Proc m ≡ o → each_proc below below ≡ a → after_word Proc rest (option_and_then (λ body. option_map (λ all. (body, all)) a) o) ≡ Done n → AreParts words table below m n
    by None a p q f = absurd cc
    by (Some body) None p q f = absurd cc
    by (Some body) (Some all) p q f = last body all (flat_of all body) p q refl f

-- ---- modules in turn

-- what is so of two modules in the middle of two lists
in_turn : (d e : Design) (pre us : List Module) (m n : Module) (post vs : List Module) → length pre ≡ length us → ModulesBelow d e (pre ++ m ∷ post) (us ++ n ∷ vs) → ModuleBelow d e m n
in_turn d e [] [] m n post vs same h = h.0
in_turn d e [] (u ∷ us) m n post vs same h = absurd (no_suc (length us) same)
  where
    no_suc : (k : ℕ) → zero ≡ suc k → ⊥
    no_suc k f = absurd (omega (arith, f))
in_turn d e (l ∷ pre) [] m n post vs same h = absurd (no_suc (length pre) (sym same))
  where
    no_suc : (k : ℕ) → zero ≡ suc k → ⊥
    no_suc k f = absurd (omega (arith, f))
in_turn d e (l ∷ pre) (u ∷ us) m n post vs same h = in_turn d e pre us m n post vs (one_less (length pre) (length us) same) h.1
  where
    one_less : (j k : ℕ) → suc j ≡ suc k → j ≡ k
    one_less j k f = omega (arith, f)

-- a module of a list, between those before it and those after it
around : (ms : List Module) (m : Module) → In m ms → (pre : List Module) × ((post : List Module) × (ms ≡ pre ++ m ∷ post))
around [] m i = absurd i
around (x ∷ xs) m (inl e) = ([], (xs, ap (λ z. z ∷ xs) (sym e)))
around (x ∷ xs) m (inr i) = let k = around xs m i in (x ∷ k.0, (k.1.0, ap (λ z. x ∷ z) k.1.1))

same_count : (f : Module → Module) (ms : List Module) → length (map f ms) ≡ length ms
same_count f [] = refl
same_count f (m ∷ ms) = ap suc (same_count f ms)

-- a module without instances has one flat netlist, in whatever design it stands
alone : (d e : Design) (u v : Module) (us vs : List Module) → d.modules ≡ u ∷ us → e.modules ≡ v ∷ vs → (n : Module) → instances n.cells ≡ [] → flat d n ≡ flat e n
alone d e u v us vs some more n none =
    (λ i. driven i ++ undriven_rows (driven i) (places (points i)))
  where
    deep : {A : Type 0} (k : Design) (own : Path → Module → List A) (x : Module) (xs : List Module) → k.modules ≡ x ∷ xs → in_tree k own (length k.modules) (root n) n ≡ own (root n) n ++ []
    deep k own x xs is =
        ap (λ z. in_tree k own (length z) (root n) n) is ∙ ap (λ fs. own (root n) n ++ in_instances k (in_tree k own (length xs)) (root n) fs) none

    own_rows : rows_of (design_ports d) (root n) n ≡ rows_of (design_ports e) (root n) n
    own_rows = rows_agree (design_ports d) (design_ports e) (root n) n (subst (AgreeOn (design_ports d) (design_ports e)) (sym none) tt)

    rows : tree_rows d (root n) n ≡ tree_rows e (root n) n
    rows =
        deep d (rows_of (design_ports d)) u us some ∙ ap (λ z. z ++ []) own_rows ∙ sym (deep e (rows_of (design_ports e)) v vs more)

    driven : driven_rows d n ≡ driven_rows e n
    driven = ap (λ z. tree.given_rows (places (tree.role_points Input (root n) (ports_of n.wires))) 0 ++ z) rows

    points : tree_points d (root n) n ≡ tree_points e (root n) n
    points = deep d (λ q k. wires_points q k.wires) u us some ∙ sym (deep e (λ q k. wires_points q k.wires) v vs more)

heads : (xs : List Module) (x : Module) → In x xs → (v : Module) × ((vs : List Module) × (xs ≡ v ∷ vs))
heads [] x i = absurd i
heads (v ∷ vs) x i = (v, (vs, refl))

other_in : (P : Module → Type 0) (pre : List Module) (b c : Module) (post : List Module) → ((x : Module) → In x (pre ++ b ∷ post) → P x) → P c → (x : Module) → In x (pre ++ c ∷ post) → P x
other_in P [] b c post h k x (inl e) = subst P (sym e) k
other_in P [] b c post h k x (inr i) = h x (inr i)
other_in P (y ∷ pre) b c post h k x (inl e) = subst P (sym e) (h y (inl refl))
other_in P (y ∷ pre) b c post h k x (inr i) = other_in P pre b c post (λ z j. h z (inr j)) k x i

in_middle : (us : List Module) (n : Module) (vs : List Module) → In n (us ++ n ∷ vs)
in_middle [] n vs = inl refl
in_middle (u ∷ us) n vs = inr (in_middle us n vs)

-- ---- accepted designs

module _ (d : Design) (readable : IsReadable d) (none : check_faults d.modules ≡ []) (m : Module) (i : In m d.modules) where
  abbrev table : PortTable
  table = table_of d.modules m

  abbrev below : List Module
  below = reached_of d.modules m.cells

  -- what a script that flattens makes of the module
  module _ (words : List Word) (n : Module) (parts : AreParts words table below m n) where
    abbrev body : Module
    body = parts.body

    abbrev flattened : Module
    flattened = parts.flat

    abbrev all : List Module
    all = map (procd d readable none) below

    are_made : AreMade d readable none m i below parts.all
    are_made = each_made d readable none m i below parts.all (λ k j. j) parts.each

    gives : flat_of all body ≡ Some flattened
    gives = ap (λ z. flat_of z body) (sym are_made.all) ∙ parts.gives

    is_flat : IsFlattened all body flattened
    is_flat = processed.is_flat d readable none m i are_made.each body flattened parts.made gives

    pub goes_on : MayGoOn table flattened
    goes_on = flat_on d readable none m i are_made.each body flattened parts.made gives

    pass : IsPass table flattened n
    pass = passes_from table words flattened n goes_on parts.rest

    pub no_instances : instances n.cells ≡ []
    no_instances = sym pass.instances ∙ is_flat.library

    pub leaves : MayGoOn table n
    leaves = leaves_from table words flattened n goes_on parts.rest

    -- the design with what `proc` makes of each module, and with that of the module itself after `flatten` and after all words
    module _ (pre post : List Module) (split : d.modules ≡ pre ++ m ∷ post) where
      abbrev us : List Module
      us = map (procd d readable none) pre

      abbrev vs : List Module
      vs = map (procd d readable none) post

      own : procd d readable none m ≡ body
      own = ap (λ o. unwrap_or o m) parts.made

      made_all : map (procd d readable none) d.modules ≡ us ++ body ∷ vs
      made_all = ap (map (procd d readable none)) split ∙ map-append (procd d readable none) pre (m ∷ post) ∙ ap (λ z. us ++ z ∷ vs) own

      first : procd_design d readable none ≡ with_body us body vs
      first = λ j. record { modules = made_all j }

      first_well : AreWellDriven (with_body us body vs)
      first_well = subst AreWellDriven first (procd_well d readable none)

      first_refines : Refines d (with_body us body vs)
      first_refines = subst (Refines d) first (procd_refines d readable none)

      first_reached : AreReached (with_body us body vs) body all
      first_reached =
          subst (λ k. AreReached k body all) first (subst (λ z. AreReached (procd_design d readable none) z all) own (procd_reached d readable none m i))

      first_ports : design_ports d ≡ design_ports (with_body us body vs)
      first_ports = sym (processed.same_ports d readable none) ∙ ap design_ports first

      second_ports : design_ports (with_body us body vs) ≡ design_ports (with_body us flattened vs)
      second_ports = ports_swapped body flattened is_flat.id is_flat.ports us vs

      flat_well : IsWellDriven (design_ports (with_body us body vs)) flattened
      flat_well =
          subst (λ z. IsWellDriven z flattened) first_ports (flat_driven d readable none m i are_made.each body flattened parts.made gives)

      second_well : AreWellDriven (with_body us flattened vs)
      second_well = record {
        ids = subst Distinct (ids_swap body flattened is_flat.id is_flat.ports us vs) first_well.ids;
        modules = λ x j. subst (λ z. IsWellDriven z x) second_ports
            (other_in (IsWellDriven (design_ports (with_body us body vs))) us body flattened vs first_well.modules flat_well x j);
      }

      no_frames : (p q : Ports) → AgreeOn p q (instances flattened.cells)
      no_frames p q = subst (AgreeOn p q) (sym is_flat.library) tt

      third_ports : design_ports (with_body us flattened vs) ≡ design_ports (with_body us n vs)
      third_ports = ports_swapped flattened n pass.id pass.ports us vs

      third_well : AreWellDriven (with_body us n vs)
      third_well = record {
        ids = subst Distinct (ids_swap flattened n pass.id pass.ports us vs) second_well.ids;
        modules = λ x j. subst (λ z. IsWellDriven z x) third_ports
            (other_in (IsWellDriven (design_ports (with_body us flattened vs))) us flattened n vs second_well.modules
            (pass.driven (design_ports (with_body us flattened vs)) (no_frames (tree.table_ports table) (design_ports (with_body us flattened vs))) (second_well.modules flattened (in_middle us flattened vs))) x j);
      }

      all_refines : Refines d (with_body us n vs)
      all_refines =
          Refines_trans d (with_body us body vs) (with_body us n vs) first_refines
          (Refines_trans (with_body us body vs) (with_body us flattened vs) (with_body us n vs)
          (is_flat.refines.holds us vs first_well second_well first_reached)
          (pass.refines.holds us vs second_well third_well (no_frames (tree.table_ports table) (design_ports (with_body us flattened vs)))))

      turn_below : ModuleBelow d (with_body us n vs) m n
      turn_below =
          in_turn d (with_body us n vs) pre us m n post vs (sym (same_count (procd d readable none) pre))
          (subst (λ ms. ModulesBelow d (with_body us n vs) ms (us ++ n ∷ vs)) split all_refines)

      -- in whatever design the module that is made stands
      anywhere : (e : Design) (v : Module) (rest : List Module) → e.modules ≡ v ∷ rest → ModuleBelow d e m n
      anywhere e v rest some =
          let u = heads (us ++ n ∷ vs) n (in_middle us n vs) in
          let same : flat (with_body us n vs) n ≡ flat e n = alone (with_body us n vs) e u.0 v u.1.0 rest u.1.1 some n no_instances in
          (turn_below.0, turn_below.1, λ order stimulus. subst (λ z. TraceBelow (run_of order d m stimulus) (run place_same (meanings z) (output_places n) order stimulus)) same (turn_below.2 order stimulus))

    pub flat_below : (e : Design) (v : Module) (rest : List Module) → e.modules ≡ v ∷ rest → ModuleBelow d e m n
    flat_below e v rest some = let k = around d.modules m i in anywhere k.0 k.1.0 k.1.1 e v rest some

  -- a script that flattens may be applied to the module, under any name
  pub flat_given : (words : List Word) (name : List ℕ) → AreFlatApplicable words table below (record m { id = name })
  flat_given words name = record {
    given = inl (given_first d readable none m i name);
    each = λ k j. inl (subst (λ t. MayStart t k) (sym (same_table d readable none m.cells k (under_closed d readable none m.cells k j))) (given_first d readable none k (under_from d readable none m.cells k j).0 k.id));
    rest = subst (λ o. AfterWord Rest (option_and_then (λ body. option_map (λ all. (body, all)) (each_proc below below)) o)) (sym (pass_renamed name table Proc m)) (by (pass_of table Proc m) (each_proc below below) refl refl);
  }
    where
      Rest : Module × List Module → Type 0
      Rest r = AfterWord (AreApplicable words table) (flat_of r.1 r.0)

      last : (made : Module) (those : List Module) (o : Option Module) → pass_of table Proc m ≡ Some made → each_proc below below ≡ Some those → flat_of those made ≡ o → AfterWord (AreApplicable words table) (option_map (under name) o)
      last made those None p q r = tt
      last made those (Some after) p q r =
          let are = each_made d readable none m i below those (λ k j. j) q in
          let gives = ap (λ z. flat_of z made) (sym are.all) ∙ r in
          applicable_from table words (under name after) (on_under table after name (flat_on d readable none m i are.each made after p gives))

      by : (o : Option Module) (a : Option (List Module)) → pass_of table Proc m ≡ o → each_proc below below ≡ a → AfterWord Rest (option_and_then (λ body. option_map (λ all. (body, all)) a) (option_map (under name) o))
      by None a p q = tt
      by (Some made) None p q = tt
      by (Some made) (Some those) p q =
          subst (AfterWord (AreApplicable words table)) (sym (renaming.flat_renamed name those made)) (last made those (flat_of those made) p q refl)

-- a script that flattens, as it is folded
flat_script : (script : List Word) (table : PortTable) (below : List Module) (m : Module) → flattens script ≡ true → fold_script script table (cond (flattens script) below []) m ≡ fold_flat (drop 2 script) table below m
flat_script script table below m e =
    λ i. cond (e i) (fold_flat (drop 2 script) table (cond (e i) below []) m) (fold_words script table m)

module _ (d : Design) (readable : IsReadable d) (none : check_faults d.modules ≡ []) (script : List Word) (flat_is : flattens script ≡ true) where
  own_parts : (m : Module) → In m d.modules → (n : Module) → outcome_of script d.modules m ≡ Done n → AreParts (drop 2 script) (table_of d.modules m) (reached_of d.modules m.cells) m n
  own_parts m i n e =
      fold_parts (drop 2 script) (table_of d.modules m) (reached_of d.modules m.cells) m n
      (sym (flat_script script (table_of d.modules m) (reached_of d.modules m.cells) m flat_is)
      ∙ fold_renamed m.id script (table_of d.modules m) (below_of script d.modules m.cells) (unnamed m)
      ∙ e)

  -- an outcome may be given to each pass, and has no instances
  pub outcome_leaves : (m : Module) → In m d.modules → (n : Module) → outcome_of script d.modules m ≡ Done n → MayGoOn (table_of d.modules m) n × (instances n.cells ≡ [])
  outcome_leaves m i n f =
      let parts = own_parts m i n f in
      (leaves d readable none m i (drop 2 script) n parts, no_instances d readable none m i (drop 2 script) n parts)

  pub outcome_same : (m : Module) → In m d.modules → (n : Module) → outcome_of script d.modules m ≡ Done n → (m.id ≡ n.id) × (ports_of m.wires ≡ ports_of n.wires)
  outcome_same m i n f = let k = flat_below d readable none m i (drop 2 script) n (own_parts m i n f) (record { modules = n ∷ [] }) n [] refl in (k.0, k.1)

  -- in whatever design an outcome stands
  pub outcome_below : (m : Module) → In m d.modules → (n : Module) → outcome_of script d.modules m ≡ Done n → (e : Design) → In n e.modules → ModuleBelow d e m n
  outcome_below m i n f e there =
      let v = heads e.modules n there in
      flat_below d readable none m i (drop 2 script) n (own_parts m i n f) e v.0 v.1.0 v.1.1

  all_below : (e : Design) (bs cs : List Module) → ((b : Module) → In b bs → In b d.modules) → ((c : Module) → In c cs → In c e.modules) → map (outcome_of script d.modules) bs ≡ map Done cs → ModulesBelow d e bs cs
  all_below e [] [] h k f = tt
  all_below e [] (c ∷ cs) h k f = absurd cc
  all_below e (b ∷ bs) [] h k f = absurd cc
  all_below e (b ∷ bs) (c ∷ cs) h k f =
      let first : outcome_of script d.modules b ≡ Done c = cc in
      let rest : map (outcome_of script d.modules) bs ≡ map Done cs = cc in (
        outcome_below b (h b (inl refl)) c first e (k c (inl refl)),
        all_below e bs cs (λ x j. h x (inr j)) (λ x j. k x (inr j)) rest,
      )

  -- the cold run refines the design
  pub flat_refines : (n : Design) → IsNetlist (cold script d) n → Refines d n
  flat_refines n run = all_below n d.modules n.modules (λ b i. i) (λ c i. i) run

  -- gates alone
  pub own_gates : maps_all (drop 2 script) ≡ true → (m : Module) → In m d.modules → (n : Module) → outcome_of script d.modules m ≡ Done n → HasGatesAlone n × (instances n.cells ≡ [])
  own_gates maps m i n e =
      let parts = own_parts m i n e in (
        from_memory (table_of d.modules m) (drop 2 script) parts.flat n (goes_on d readable none m i (drop 2 script) n parts) maps parts.rest,
        no_instances d readable none m i (drop 2 script) n parts,
      )

  each_gates : maps_all (drop 2 script) ≡ true → (bs cs : List Module) → ((b : Module) → In b bs → In b d.modules) → map (outcome_of script d.modules) bs ≡ map Done cs → (c : Module) → In c cs → HasGatesAlone c × (instances c.cells ≡ [])
  each_gates maps [] [] h f c j = absurd j
  each_gates maps [] (c ∷ cs) h f x j = absurd cc
  each_gates maps (b ∷ bs) [] h f x j = absurd cc
  each_gates maps (b ∷ bs) (c ∷ cs) h f x j =
      let first : outcome_of script d.modules b ≡ Done c = cc in
      let rest : map (outcome_of script d.modules) bs ≡ map Done cs = cc in
      ⊎_elim
      (λ e. subst (λ (z : Module). HasGatesAlone z × (instances z.cells ≡ [])) (sym e) (own_gates maps b (h b (inl refl)) c first))
      (λ k. each_gates maps bs cs (λ y l. h y (inr l)) rest x k)
      j

  one_gate : (modules : List Module) (c : Cell) (o : Option CellKind) → is_gate_or_instance o ≡ true → (o ≡ None → ⊥) → (is_gate o || is_instance modules c o) ≡ true
  one_gate modules c None e never = absurd (never refl)
  one_gate modules c (Some kind) e never = ap (λ t. t || false) e

  all_true : {A : Type 0} (test : A → Bool) (xs : List A) → Each (λ x. test x ≡ true) xs → list_all test xs ≡ true
  all_true test [] h = refl
  all_true test (x ∷ xs) h = ap (λ t. t && list_all test xs) (h x (inl refl)) ∙ all_true test xs (λ y j. h y (inr j))

  -- and leaves gates alone, where the words after `flatten` map all
  pub flat_gates : maps_all (drop 2 script) ≡ true → (n : Design) → IsNetlist (cold script d) n → is_gate_netlist n ≡ true
  flat_gates maps n run =
      all_true (λ (m : Module). list_all (λ (c : Cell). is_gate (cell_kind c) || is_instance n.modules c (cell_kind c)) m.cells) n.modules
      (λ m i. let gates = each_gates maps d.modules n.modules (λ b j. j) run m i in
      all_true (λ (c : Cell). is_gate (cell_kind c) || is_instance n.modules c (cell_kind c)) m.cells
      (λ c j. one_gate n.modules c (cell_kind c) (gates.0 c j)
      (λ e. subst (In (frame c.name c.kind_name)) gates.1 (instance_in m.cells c j e))))

-- the words after `flatten` map all where the script does
pub maps_after : (script : List Word) → StartsWithProc script → flattens script ≡ true → maps_all script ≡ true → maps_all (drop 2 script) ≡ true
maps_after [] stage e maps = absurd stage
maps_after (w ∷ []) stage e maps = absurd cc
maps_after (w ∷ v ∷ ws) stage e maps = by v e (subst (λ (z : Word). maps_all (z ∷ v ∷ ws) ≡ true) stage maps)
  where
    by : (v : Word) → is_flatten v ≡ true → maps_all (Proc ∷ v ∷ ws) ≡ true → maps_all ws ≡ true
    by Flatten e f = f
    by v e f = absurd cc
