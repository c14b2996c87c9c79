-- What a script makes of a module in a part is what it makes of it in the design.
use Rattle.std.proofs.Common.{◌≡◌, ◌⊎◌, ℕ, zero, suc, Bool, true, false, cond, ◌&&◌, ◌||◌, List, [], ◌∷◌, length, Option, Some, inl, inr, ⊎_elim, refl, sym, ◌∙◌, ap, subst}
use Rattle.std.specs.Prelude.{filter, map, option_map, slice_get, unwrap_or}
use Rattle.std.specs.List.{list_any}
use Rattle.std.specs.Str.{bytes_eq}
use Rattle.std.proofs.lemmas.Bool.{and_from}
use Rattle.std.proofs.lemmas.Slice.Eq.{bytes_eq-Decides}
use Rattle.rtl_ir.specs.declared.cell.Cell.{Cell}
use Rattle.rtl_ir.specs.declared.module.Module.{Module}
use Rattle.rtl_ir.specs.Ports.{in_name_order, instances_of, instantiates, ports_by_module}
use Rattle.rtl_ir.specs.Types.{module_named}
use Rattle.net_model.specs.Lists.{In}
use Rattle.net_model.proofs.Members.{In-map, map-map}
use Rattle.rtl_write.specs.Ports.{ports_text}
use Rattle.rtl_write.specs.Text.{body_text, text_of}
use Rattle.script_core.specs.declared.word.Word.{Word}
use Rattle.script_core.specs.Built.{unnamed}
use Rattle.script_core.specs.Cold.{named, outcome_of}
use Rattle.script_core.specs.Fold.{fold_script}
use Rattle.script_core.specs.Keys.{KeyParts, key_of}
use Rattle.script_core.specs.Reached.{below_of, leads_to, reached_of, table_of}
use Rattle.script_core.specs.Words.{flattens}
use Rattle.script_core.proofs.Faultless.{named_is}
use Rattle.script_core.proofs.Instancing.{any_found, any_there, found_in, found_name}
use Rattle.script_core.proofs.Leading.{Leads, leads_cut, or_right, true_leads}
use Rattle.script_core.proofs.Tables.{named_instance}
use Rattle.design_parts.specs.Parts.{depends, face, has_name, part, shown}
use Rattle.design_parts.proofs.Faces.{shown_id, shown_ports}
use Rattle.design_parts.proofs.Filters.{filter_changed, filter_filter, filter_in, filter_same, got_in, map_none, map_same, ordered_changed, same_truth}

pub either : (a b : Bool) → (a || b) ≡ true → (a ≡ true) ⊎ (b ≡ true)
either true b e = inl refl
either false b e = inr e

pub or_left : (a b : Bool) → a ≡ true → (a || b) ≡ true
or_left a b e = ap (λ t. t || b) e

-- the first module of a module's name
pub first_named : (ms : List Module) (n : Module) → In n ms → (l : Module) × (module_named ms n.id ≡ Some l)
first_named [] n i = absurd i
first_named (m ∷ ms) n i = by (bytes_eq m.id n.id) refl i (first_named ms n)
  where
    by : (t : Bool) → bytes_eq m.id n.id ≡ t → In n (m ∷ ms) → (In n ms → (l : Module) × (module_named ms n.id ≡ Some l)) → (l : Module) × (cond t (Some m) (module_named ms n.id) ≡ Some l)
    by true e j later = (m, refl)
    by false e (inl same) later =
        let no : true ≡ false = sym ((bytes_eq-Decides m.id n.id).1 (ap (λ (k : Module). k.id) (sym same))) ∙ e in
        absurd cc
    by false e (inr j) later = later j

-- cells lead to a module of the name
pub tested : (ms : List Module) (k : ℕ) (cells : List Cell) (id : List ℕ) → leads_to k ms cells id ≡ true → (n : Module) × Leads ms k cells n × (n.id ≡ id)
tested ms zero cells id e = absurd cc
tested ms (suc k) cells id e =
    let one = any_found (λ (m : Module). bytes_eq m.id id || leads_to k ms m.cells id) (instances_of ms cells) e in
    let l : Module = one.0 in
    ⊎_elim
    (λ q. (l, (l, one.1, inl refl), (bytes_eq-Decides l.id id).0 q))
    (λ q. let h = tested ms k l.cells id q in (h.0, (l, one.1, inr h.1), h.2))
    (either (bytes_eq l.id id) (leads_to k ms l.cells id) one.2)

leads_by : (ms : List Module) (cells : List Cell) (id : List ℕ) (k : ℕ) (n : Module) → Leads ms k cells n → n.id ≡ id → leads_to (length ms) ms cells id ≡ true
leads_by ms cells id k n h e = subst (λ z. leads_to (length ms) ms cells z ≡ true) e (true_leads ms (length ms) cells n (leads_cut ms k cells n h))

module _ (script : List Word) (own : List ℕ → Bool) (ms : List Module) where
  abbrev has : List ℕ → Bool
  has = has_name script own ms

  abbrev pub Covers : List Cell → Type 0
  Covers cells = (n : Module) → In n ms → instantiates cells n.id ≡ true → has n.id ≡ true

  -- a part has what its own depend on
  covered : (m : Module) → In m ms → own m.id ≡ true → (id : List ℕ) → depends script ms m.cells id ≡ true → has id ≡ true
  covered m i mine id e =
      or_right (own id) (list_any (λ (n : Module). own n.id && depends script ms n.cells id) ms)
      (any_there (λ (n : Module). own n.id && depends script ms n.cells id) ms m i (and_from (own m.id) (depends script ms m.cells id) mine e))

  instances_shown : (cells : List Cell) → Covers cells → instances_of (part script own ms) cells ≡ map (shown script own) (instances_of ms cells)
  instances_shown cells h =
      ap in_name_order
      (filter_changed (shown script own) (shown_id script own) (instantiates cells) (filter (λ (m : Module). has m.id) ms)
      ∙ ap (map (shown script own)) (filter_filter (λ (m : Module). instantiates cells m.id) (λ (m : Module). has m.id) ms h))
      ∙ ordered_changed (shown script own) (shown_id script own) (filter (λ (m : Module). instantiates cells m.id) ms)

  ports_shown : (cells : List Cell) → Covers cells → map ports_by_module (instances_of (part script own ms) cells) ≡ map ports_by_module (instances_of ms cells)
  ports_shown cells h =
      ap (map ports_by_module) (instances_shown cells h)
      ∙ map-map (shown script own) ports_by_module (instances_of ms cells)
      ∙ map_same (λ (m : Module). ports_by_module (shown script own m)) ports_by_module (instances_of ms cells) (λ m i. shown_ports script own m)

  -- .. so its module has the same table of ports
  table_shown : (m : Module) → Covers m.cells → table_of (part script own ms) m ≡ table_of ms m
  table_shown m h = λ i. record { modules = ports_shown m.cells h i }

  -- where the script flattens
  module _ (flat : flattens script ≡ true) where
    pub whole : (m : Module) → shown script own m ≡ m
    whole m = ap (λ t. cond t m (face m)) (or_right (own m.id) (flattens script) flat)

    -- what cells lead to is all in the part
    abbrev pub CoversAll : List Cell → Type 0
    CoversAll cells = (k : ℕ) (n : Module) → Leads ms k cells n → has n.id ≡ true

    pub covers_of : (cells : List Cell) → CoversAll cells → Covers cells
    covers_of cells h n i e =
        let first = first_named ms n i in
        let l : Module = first.0 in
        let there : In l (instances_of ms cells) =
        found_in (instances_of ms cells) n.id l (named_is (instances_of ms cells) n.id ∙ named_instance ms cells n.id e ∙ sym (named_is ms n.id) ∙ first.1) in
        subst (λ id. has id ≡ true) (found_name ms n.id l first.1) (h 1 l (l, there, inl refl))

    instances_same : (cells : List Cell) → CoversAll cells → instances_of (part script own ms) cells ≡ instances_of ms cells
    instances_same cells h = instances_shown cells (covers_of cells h) ∙ map_none (shown script own) (instances_of ms cells) (λ m i. whole m)

    deeper : (cells : List Cell) → CoversAll cells → (l : Module) → In l (instances_of ms cells) → CoversAll l.cells
    deeper cells h l i k n r = h (suc k) n (l, i, inr r)

    lead_in : (k : ℕ) (cells : List Cell) → CoversAll cells → (n : Module) → Leads ms k cells n → Leads (part script own ms) k cells n
    lead_in zero cells h n r = absurd r
    lead_in (suc k) cells h n r = (
      r.0,
      subst (In r.0) (sym (instances_same cells h)) r.1,
      ⊎_elim (λ e. inl e) (λ s. inr (lead_in k r.0.cells (deeper cells h r.0 r.1) n s)) r.2,
    )

    lead_out : (k : ℕ) (cells : List Cell) → CoversAll cells → (n : Module) → Leads (part script own ms) k cells n → Leads ms k cells n
    lead_out zero cells h n r = absurd r
    lead_out (suc k) cells h n r =
        let there : In r.0 (instances_of ms cells) = subst (In r.0) (instances_same cells h) r.1 in
        (r.0, there, ⊎_elim (λ e. inl e) (λ s. inr (lead_out k r.0.cells (deeper cells h r.0 there) n s)) r.2)

    leads_alike : (cells : List Cell) → CoversAll cells → (id : List ℕ)
        → leads_to (length (part script own ms)) (part script own ms) cells id ≡ leads_to (length ms) ms cells id
    leads_alike cells h id =
        same_truth (leads_to (length (part script own ms)) (part script own ms) cells id) (leads_to (length ms) ms cells id)
        (λ e.
        let t = tested (part script own ms) (length (part script own ms)) cells id e in
        leads_by ms cells id (length (part script own ms)) t.0 (lead_out (length (part script own ms)) cells h t.0 t.1) t.2)
        (λ e.
        let t = tested ms (length ms) cells id e in
        leads_by (part script own ms) cells id (length ms) t.0 (lead_in (length ms) cells h t.0 t.1) t.2)

    reached_same : (cells : List Cell) → CoversAll cells → reached_of (part script own ms) cells ≡ reached_of ms cells
    reached_same cells h =
        ap in_name_order
        (filter_same (λ (m : Module). leads_to (length (part script own ms)) (part script own ms) cells m.id) (λ (m : Module). leads_to (length ms) ms cells m.id) (part script own ms) (λ m i. leads_alike cells h m.id)
        ∙ ap (filter (λ (m : Module). leads_to (length ms) ms cells m.id)) (map_none (shown script own) (filter (λ (m : Module). has m.id) ms) (λ m i. whole m))
        ∙ filter_filter (λ (m : Module). leads_to (length ms) ms cells m.id) (λ (m : Module). has m.id) ms
        (λ m i e. let t = tested ms (length ms) cells m.id e in subst (λ id. has id ≡ true) t.2 (h (length ms) t.0 t.1)))

    pub covers_own : (m : Module) → In m ms → own m.id ≡ true → CoversAll m.cells
    covers_own m i mine k n r =
        covered m i mine n.id
        (ap (λ t. cond t (leads_to (length ms) ms m.cells n.id) (instantiates m.cells n.id)) flat
        ∙ leads_by ms m.cells n.id k n r refl)

  -- without `flatten`
  covers_plain : flattens script ≡ false → (m : Module) → In m ms → own m.id ≡ true → Covers m.cells
  covers_plain plain m i mine n j e =
      covered m i mine n.id (ap (λ t. cond t (leads_to (length ms) ms m.cells n.id) (instantiates m.cells n.id)) plain ∙ e)

  pub covers : (m : Module) → In m ms → own m.id ≡ true → Covers m.cells
  covers m i mine = by (flattens script) refl
    where
      by : (t : Bool) → flattens script ≡ t → Covers m.cells
      by true flat = covers_of flat m.cells (covers_own flat m i mine)
      by false plain = covers_plain plain m i mine

  below_same : (m : Module) → In m ms → own m.id ≡ true → below_of script (part script own ms) m.cells ≡ below_of script ms m.cells
  below_same m i mine = by (flattens script) refl
    where
      by : (t : Bool) → flattens script ≡ t → cond t (reached_of (part script own ms) m.cells) [] ≡ cond t (reached_of ms m.cells) []
      by true flat = reached_same flat m.cells (covers_own flat m i mine)
      by false plain = refl

  pub outcome_same : (m : Module) → In m ms → own m.id ≡ true → outcome_of script (part script own ms) m ≡ outcome_of script ms m
  outcome_same m i mine =
      λ j. named m.id (fold_script script (table_shown m (covers m i mine) j) (below_same m i mine j) (unnamed m))

  -- a key, by the module that it is of
  abbrev key_from : List Module → Option Module → KeyParts
  key_from modules o = record {
    body = unwrap_or (option_map body_text o) [];
    ports = ports_text (record { modules = map ports_by_module (instances_of modules (unwrap_or (option_map (λ (m : Module). m.cells) o) [])) });
    script = script;
    below = text_of (record { modules = below_of script modules (unwrap_or (option_map (λ (m : Module). m.cells) o) []) });
  }

  pub key_same : (m : Module) (at there : ℕ) → slice_get ms at ≡ Some m → own m.id ≡ true → slice_get (part script own ms) there ≡ Some m
      → key_of (part script own ms) there script ≡ key_of ms at script
  key_same m at there e mine f =
      let i = got_in ms at m e in
      ap (key_from (part script own ms)) f
      ∙ (λ j. record {
        body = body_text m;
        ports = ports_text (table_shown m (covers m i mine) j);
        script = script;
        below = text_of (record { modules = below_same m i mine j });
      })
      ∙ ap (key_from ms) (sym e)

  pub own_shown : (m : Module) → own m.id ≡ true → shown script own m ≡ m
  own_shown m mine = ap (λ t. cond t m (face m)) (or_left (own m.id) (flattens script) mine)

  pub stands : (m : Module) → In m ms → own m.id ≡ true → In m (part script own ms)
  stands m i mine =
      subst (λ z. In z (part script own ms)) (own_shown m mine)
      (In-map (shown script own) m (filter (λ (n : Module). has n.id) ms)
      (filter_in (λ (n : Module). has n.id) m ms i (or_left (own m.id) (list_any (λ (n : Module). own n.id && depends script ms n.cells m.id) ms) mine)))
