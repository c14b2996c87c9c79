-- Start values and memories stay: rules without lines say nothing of them, nor do new cells that are none of a memory.
use Rattle.std.proofs.Common.{◌≡◌, ℕ, Bool, true, false, if◌then◌else◌, List, [], ◌∷◌, ◌++◌, Some, length, inl, inr, refl, sym, ◌∙◌, ap}
use Rattle.std.specs.Prelude.{◌&&◌, filter, flat_map, map, not, unwrap_or, ◌+◌}
use Rattle.cell_types.specs.declared.kind.CellKind.{CellKind}
use Rattle.cell_types.specs.declared.kind.CellKind.TheVariants.{Memory}
use Rattle.rtl_bits.specs.Tables.{seen_of}
use Rattle.rtl_ir.specs.Assigns.{tree_bits}
use Rattle.rtl_ir.specs.Decisions.{expanded, leaves_of}
use Rattle.rtl_ir.specs.Faults.Cells.{is_memory_kind}
use Rattle.rtl_ir.specs.Flat.Access.{Access, accesses_of, cell_access, cell_accesses, in_access_order, line_accesses, next_number, rule_accesses}
use Rattle.rtl_ir.specs.Flat.Cell.{cell_kind}
use Rattle.rtl_ir.specs.Flat.Memory.{in_priority_order, init_cells, is_init_kind, is_read_kind, memories_rows, read_rows, reading_cells, word_rows}
use Rattle.rtl_ir.specs.Flat.Place.{Path}
use Rattle.rtl_ir.specs.Flat.Start.{Begun, first_constant, init_bit, last_start, process_starts, start_of}
use Rattle.rtl_ir.specs.Follow.{all_joins}
use Rattle.rtl_ir.specs.declared.follow.Join.{Join}
use Rattle.rtl_ir.specs.Rules.{acting_rules, has_item, has_line, init_lines, is_init}
use Rattle.rtl_ir.specs.SwitchRules.{root_by_rules}
use Rattle.rtl_ir.specs.WritePorts.{is_of_memory, is_write_cell, is_write_kind}
use Rattle.rtl_ir.specs.declared.cell.Cell.{Cell}
use Rattle.rtl_ir.specs.declared.module.Link.{Link}
use Rattle.rtl_ir.specs.declared.process.Event.{Event}
use Rattle.rtl_ir.specs.declared.process.Process.{Process}
use Rattle.rtl_ir.specs.declared.process.SyncRule.{SyncRule}
use Rattle.rtl_ir.specs.declared.process.WriteLine.{WriteLine}
use Rattle.rtl_ir.specs.declared.store.Store.{Store}
use Rattle.rtl_ir.specs.declared.wire.Wire.{Wire}
use Rattle.rtl_sig.specs.declared.sig.SigBit.{SigBit}
use Rattle.rtl_sig.specs.declared.sig.SigBit.TheVariants.{Fixed, Wire as OnWire}
use Rattle.net_model.proofs.Ranges.{each_flat_map}
use Rattle.net_model.specs.Within.{Each}
use Rattle.build_laws.proofs.Growing.{IsPlainCell}
use Rattle.std.proofs.lemmas.Bool.{or_parts}

-- no rule of these has a line
abbrev pub AreEmpty : List SyncRule → Type 0
AreEmpty rules = Each (λ (rule : SyncRule). has_line rule ≡ false) rules

no_item : {A : Type 0} (xs : List A) → has_item xs ≡ false → xs ≡ []
no_item [] e = refl
no_item (x ∷ xs) e = absurd (cc)

no_updates : (rule : SyncRule) → has_line rule ≡ false → rule.updates ≡ []
no_updates rule e = no_item rule.updates (or_parts (has_item rule.updates) (has_item rule.writes) e).0

no_writes : (rule : SyncRule) → has_line rule ≡ false → rule.writes ≡ []
no_writes rule e = no_item rule.writes (or_parts (has_item rule.updates) (has_item rule.writes) e).1

-- such rules do not act
pub none_acting : (rules : List SyncRule) → AreEmpty rules → acting_rules rules ≡ []
none_acting [] h = refl
none_acting (rule ∷ rules) h =
    (λ i. if (h rule (inl refl) i && not (is_init rule.event)) then rule ∷ none_acting rules (λ x j. h x (inr j)) i else none_acting rules (λ x j. h x (inr j)) i)

no_starts : (rules : List SyncRule) → AreEmpty rules → init_lines rules ≡ []
no_starts [] h = refl
no_starts (rule ∷ rules) h = by (is_init rule.event) (no_starts rules (λ x j. h x (inr j)))
  where
    by : (t : Bool) → init_lines rules ≡ [] → flat_map (λ (r : SyncRule). r.updates) (if t then rule ∷ filter (λ (r : SyncRule). is_init r.event) rules else filter (λ (r : SyncRule). is_init r.event) rules) ≡ []
    by true e = (λ i. no_updates rule (h rule (inl refl)) i ++ e i)
    by false e = e

abbrev pub AllEmpty : List Process → Type 0
AllEmpty ps = Each (λ (p : Process). AreEmpty p.syncs) ps

-- the start values that lines give
abbrev pub starts_by : Process → List Link → List Begun
starts_by p lines =
    map
    (λ (j : Join). record {
      bit = j.bit;
      value = first_constant (leaves_of (expanded (root_by_rules p.root) (tree_bits p.root) j.source));
    })
    (all_joins lines)

pub none_begun : (ps : List Process) → AllEmpty ps → flat_map process_starts ps ≡ []
none_begun [] h = refl
none_begun (p ∷ ps) h =
    let none : process_starts p ≡ [] = ap (λ lines. starts_by p lines) (no_starts p.syncs (h p (inl refl))) in
    (λ i. none i ++ none_begun ps (λ x j. h x (inr j)) i)

same_start : (wires : List Wire) (ps qs : List Process) → flat_map process_starts ps ≡ flat_map process_starts qs → (s : SigBit) → start_of wires ps s ≡ start_of wires qs s
same_start wires ps qs h (Fixed b) = refl
same_start wires ps qs h (OnWire b) = ap (λ z. seen_of (unwrap_or (last_start z b) (init_bit wires b))) h

-- processes that give the same start values
pub starts_same : (wires : List Wire) (ps qs : List Process) → flat_map process_starts ps ≡ flat_map process_starts qs → start_of wires ps ≡ start_of wires qs
starts_same wires ps qs h = λ i s. same_start wires ps qs h s i

-- no line writes
no_lines : (name : List ℕ) (event : Event) (number : ℕ) (writes : List WriteLine) → writes ≡ [] → line_accesses name event number [] writes ≡ []
no_lines name event number writes e = ap (line_accesses name event number []) e

no_access : (name : List ℕ) (number : ℕ) (rules : List SyncRule) → AreEmpty rules → rule_accesses name number rules ≡ []
no_access name number [] h = refl
no_access name number (rule ∷ rules) h =
    let here : line_accesses name rule.event number [] rule.writes ≡ [] = no_lines name rule.event number rule.writes (no_writes rule (h rule (inl refl))) in
    ap (λ (z : List Access). z ++ rule_accesses name (number + length z) rules) here ∙ no_access name (number + 0) rules (λ x j. h x (inr j))

-- the lines of processes write each memory alike
abbrev pub SameAccesses : List Process → List Process → Type 0
SameAccesses ps qs =
    (name : List ℕ) (number : ℕ) → rule_accesses name number (flat_map (λ (p : Process). p.syncs) ps) ≡ rule_accesses name number (flat_map (λ (p : Process). p.syncs) qs)

pub none_written : (ps : List Process) → AllEmpty ps → SameAccesses ps []
none_written ps h name number =
    no_access name number (flat_map (λ (p : Process). p.syncs) ps) (each_flat_map (λ (rule : SyncRule). has_line rule ≡ false) (λ (p : Process). p.syncs) ps h)

-- a filter that takes none of the further items
filter_more : {A : Type 0} (test : A → Bool) (xs ys : List A) → Each (λ y. test y ≡ false) ys → filter test (xs ++ ys) ≡ filter test xs
filter_more test [] [] h = refl
filter_more test [] (y ∷ ys) h =
    ap (λ t. if t then y ∷ filter test ys else filter test ys) (h y (inl refl)) ∙ filter_more test [] ys (λ x j. h x (inr j))
filter_more test (x ∷ xs) ys h =
    ap (λ z. if test x then x ∷ z else z) (filter_more test xs ys h)

-- a kind that is none of a memory neither writes one, nor reads one, nor gives it start words
no_write : (kind : CellKind) → is_memory_kind kind ≡ false → is_write_kind (Some kind) ≡ false
no_write (Memory kind) e = absurd (cc)
no_write kind e = refl

no_read : (kind : CellKind) → is_memory_kind kind ≡ false → is_read_kind (Some kind) ≡ false
no_read (Memory kind) e = absurd (cc)
no_read kind e = refl

no_init : (kind : CellKind) → is_memory_kind kind ≡ false → is_init_kind (Some kind) ≡ false
no_init (Memory kind) e = absurd (cc)
no_init kind e = refl

module _ (cells new : List Cell) (plain : Each IsPlainCell new) (name : List ℕ) where
  no_write_cell : (c : Cell) → IsPlainCell c → is_write_cell c.kind_name ≡ false
  unfolding is_write_cell cell_kind
  no_write_cell c h = ap is_write_kind h.is ∙ no_write h.kind h.plain

  same_accesses : cell_accesses name (cells ++ new) ≡ cell_accesses name cells
  same_accesses =
      ap (λ cs. in_access_order (map cell_access cs)) (filter_more (λ (c : Cell). is_write_cell c.kind_name && is_of_memory name c) cells new (λ c i. ap (λ t. t && is_of_memory name c) (no_write_cell c (plain c i))))

  same_inits : init_cells name (cells ++ new) ≡ init_cells name cells
  same_inits =
      ap (in_priority_order []) (filter_more (λ (c : Cell). is_init_kind (cell_kind c) && is_of_memory name c) cells new (λ c i. ap (λ k. is_init_kind k && is_of_memory name c) (plain c i).is ∙ ap (λ t. t && is_of_memory name c) (no_init (plain c i).kind (plain c i).plain)))

  same_readers : reading_cells name (cells ++ new) ≡ reading_cells name cells
  same_readers =
      filter_more (λ (c : Cell). is_read_kind (cell_kind c) && is_of_memory name c) cells new (λ c i. ap (λ k. is_read_kind k && is_of_memory name c) (plain c i).is ∙ ap (λ t. t && is_of_memory name c) (no_read (plain c i).kind (plain c i).plain))

  all_accesses : (ps qs : List Process) → SameAccesses ps qs → accesses_of name (cells ++ new) qs ≡ accesses_of name cells ps
  all_accesses ps qs h =
      (λ i. same_accesses i ++ rule_accesses name (next_number (same_accesses i)) (flat_map (λ (p : Process). p.syncs) qs))
      ∙ ap (λ z. cell_accesses name cells ++ z) (sym (h name (next_number (cell_accesses name cells))))

-- the rows of memories stay
pub memories_same : (p : Path) (wires : List Wire) (cells new : List Cell) (ps qs : List Process) (stores : List Store) → Each IsPlainCell new → SameAccesses ps qs → memories_rows p wires (cells ++ new) qs stores ≡ memories_rows p wires cells ps stores
memories_same p wires cells new ps qs [] plain h = refl
memories_same p wires cells new ps qs (s ∷ stores) plain h =
    (λ i. (word_rows p wires s (all_accesses cells new plain s.name ps qs h i) (same_inits cells new plain s.name i) ++ flat_map (read_rows p wires s) (same_readers cells new plain s.name i)) ++ memories_same p wires cells new ps qs stores plain h i)
