-- Reading goes over processes, modules and designs.
use Rattle.std.proofs.Common.{◌≡◌, ℕ, ◌+◌, ◌<◌, ◌≤◌, List, [], ◌∷◌, ◌++◌, length, map, append_assoc, append-nil, Some, Result, Ok, Err, Bool, false, refl, sym, ap, subst, ◌∙◌, arith, length-append}
use Rattle.std.specs.Prelude.{nat_le, codes, if◌then◌else◌}
use Rattle.std.specs.List.{All, AllByRecursion, IsDistinct, flat_map, sum_by}
use Rattle.std.specs.Str.{bytes_eq}
use Rattle.std.proofs.lemmas.Bool.{lt-leb}
use Rattle.std.proofs.lemmas.List.{map-append}
use Rattle.std.proofs.lemmas.List.Sums.{sum_by-append, sum_by-cons}
use Rattle.rtl_lex.specs.declared.place.Place.{Place}
use Rattle.rtl_lex.specs.declared.sort.Sort.TheVariants as sorts
use Rattle.rtl_lex.specs.declared.token.TokenKind.TheVariants as kinds
use Rattle.rtl_lex.specs.Sorts.{word_sort, module_word, option_word, process_word, event_word}
use Rattle.rtl_sig.specs.declared.sig.SigBit.{SigBit}
use Rattle.rtl_sig.specs.Names.{has_name, with_name, AreDistinct}
use Rattle.rtl_ir.specs.declared.value.Attribute.{Attribute}
use Rattle.rtl_ir.specs.declared.wire.Wire.{Wire}
use Rattle.rtl_ir.specs.declared.store.Store.{Store}
use Rattle.rtl_ir.specs.declared.cell.Cell.{Cell}
use Rattle.rtl_ir.specs.declared.module.Link.{Link}
use Rattle.rtl_ir.specs.declared.module.Parameter.{Parameter}
use Rattle.rtl_ir.specs.declared.module.Module.{Module}
use Rattle.rtl_ir.specs.declared.process.Process.{Process}
use Rattle.rtl_ir.specs.Tree.{Switches, CaseView, switches_of}
use Rattle.rtl_grammar.specs.declared.expect.Expect.{Expect}
use Rattle.rtl_grammar.specs.declared.expect.Expect.TheVariants as expects
use Rattle.rtl_grammar.specs.Grammar.{after}
use Rattle.rtl_grammar.specs.Uses.{◌>>=◌}
use Rattle.rtl_read.specs.declared.draft.Draft.{Draft}
use Rattle.rtl_read.specs.declared.open_module.OpenModule.{OpenModule}
use Rattle.rtl_read.specs.declared.open_process.OpenProcess.{OpenProcess}
use Rattle.rtl_ir.specs.declared.limits.TheConstants.{MAX_MODULES, MAX_CELLS, MAX_BITS}
use Rattle.rtl_read.specs.declared.read_fault.ReadFault.{ReadFault}
use Rattle.rtl_read.specs.declared.read_fault.ReadFault.TheVariants as faults
use Rattle.rtl_read.specs.Draft.{nothing}
use Rattle.rtl_read.specs.Meaning.Module.{fresh_module, with_process}
use Rattle.rtl_read.specs.Meaning.Process.{plain_process}
use Rattle.rtl_read.specs.Act.{act}
use Rattle.rtl_readable.specs.Readable.{IsWire, IsStore, IsParameter, IsCell, IsProcess, IsLink, IsReadableModule, IsReadable, item_names}
use Rattle.rtl_write.proofs.Printed.{Printed, EndLine}
use Rattle.rtl_write.proofs.Lexing.{seen_at}
use Rattle.rtl_write.proofs.Going.{Goes, goes_none, goes_then, goes_on, goes_line, goes_each, goes_attributes, waiting, TakesAttributes, all_at, okay}
use Rattle.rtl_write.proofs.GoingSignals.{IsOver}
use Rattle.rtl_write.proofs.GoingWires.{at, IsFree, add_name, adds_name, takes_item, goes_wire, goes_store, goes_parameter}
use Rattle.rtl_write.proofs.GoingCells.{goes_cell}
use Rattle.rtl_write.proofs.GoingPairs.{goes_link}
use Rattle.rtl_write.proofs.Names.{IsNew, is_new, not_before, not_in_front, new_among}
use Rattle.rtl_write.proofs.GoingTrees.{tree, switch_list, switches_back, assign_in_process, switch_in_process, goes_assigns, goes_switches}
use Rattle.rtl_write.proofs.GoingRules.{goes_rules}
use Rattle.rtl_write.proofs.Tokens as tokens
use Rattle.rtl_write.proofs.Tokens.{word}

-- ---- processes

-- a draft with this open process
abbrev opened : List Module → List (List ℕ) → OpenModule → OpenProcess → Draft
opened modules names current p = record (at modules names current) { process = p }

module _ {wires : List Wire} (all : All IsWire wires) (distinct : AreDistinct (map (λ w. w.name) wires)) (modules : List Module) (names : List (List ℕ)) where
  goes_process_lines : (current : OpenModule) (roles : List Expect) (p : Process) (role : Expect) → IsOver wires (at modules names current) → IsProcess wires p → IsFree current p.name
      → after role sorts.Process ≡ Some (expects.ProcessName ∷ expects.Body ∷ [])
      → ((place : Place) → act role (seen_at kinds.Word (codes "process") place) (waiting p.attributes (at modules names current)) ≡ Ok (opened modules names current (plain_process p.attributes)))
      → Goes (tokens.process_lines wires p) (role ∷ roles) (waiting p.attributes (at modules names current)) (expects.Body ∷ roles) (at modules names (with_process p (add_name p.name current)))
  unfolding word_sort module_word option_word process_word event_word
  goes_process_lines current roles p role over is free can does =
      let named = add_name p.name current in
      let over2 : IsOver wires (at modules names named) = record { wires_are = over.wires_are; names_are = over.names_are } in
      let p0 : OpenProcess = record (plain_process p.attributes) { name = p.name } in
      let c0 = p0.tree.case in
      let c1 = record c0 { assigns = p.root.assigns } in
      let c2 = record c1 { switches = switch_list p.root.switches } in
      let p1 : OpenProcess = record p0 { tree = tree c1 [] } in
      let p2 : OpenProcess = record p0 { tree = tree c2 [] } in
      let stack : List Expect = expects.ProcessBody ∷ expects.Body ∷ roles in
      let last = at modules names (with_process p named) in
      let end : List Printed = word 2 (codes "end") ∷ EndLine ∷ [] in
      let root : CaseView → Draft = λ (x : CaseView). at modules names (with_process (record { name = p.name; root = x; syncs = p.syncs; attributes = p.attributes }) named) in
      let shaped : List (List SigBit) → Switches → List Attribute → CaseView = λ (ps : List (List SigBit)) (ss : Switches) (remarks : List Attribute). record { patterns = ps; assigns = p.root.assigns; switches = ss; attributes = remarks } in
      let same : shaped [] (switches_of (switch_list p.root.switches)) [] ≡ p.root = ap (λ (ss : Switches). shaped [] ss []) (switches_back p.root.switches) ∙ ap (λ (ps : List (List SigBit)). shaped ps p.root.switches []) (sym is.patterns) ∙ ap (shaped p.root.patterns p.root.switches) (sym is.plain) in
      let rules_go : Goes (flat_map (tokens.sync wires) p.syncs ++ end) stack (opened modules names named p2) (expects.Body ∷ roles) last = goes_rules all distinct modules names named over2 p.syncs 2 p2 is.rules
      (subst (λ (x : CaseView). Goes [] (expects.Body ∷ roles) (root (shaped [] (switches_of (switch_list p.root.switches)) [])) (expects.Body ∷ roles) (root x)) same goes_none) in
      let switches_go : Goes (tokens.switches wires 4 p.root.switches) stack (opened modules names named p1) stack (opened modules names named p2) =
      goes_switches all distinct modules names named over2 p0 p.root.switches 4 expects.ProcessBody expects.NextSwitch (expects.ProcessBody ∷ []) (expects.Signal ∷ expects.BehindSwitch ∷ []) (expects.Body ∷ roles) c1 [] switch_in_process is.switches in
      let assigns_go : Goes (flat_map (tokens.assign wires 4) p.root.assigns) stack (opened modules names named p0) stack (opened modules names named p1) = goes_assigns all distinct modules names named over2 p0 4 expects.ProcessBody (expects.Body ∷ roles) c0 [] p.root.assigns assign_in_process is.assigns refl in
      goes_on (expects.ProcessName ∷ expects.Body ∷ []) (λ q. opened modules names current (plain_process p.attributes)) can does (λ q.
      goes_on (expects.EndOfLine ∷ expects.ProcessBody ∷ []) (λ r. opened modules names named p0) refl (λ r. ap (λ (x : Result OpenModule ReadFault). x >>= λ m. okay (opened modules names m p0)) (adds_name p.name current r free)) (λ r.
      goes_line [] (opened modules names named p0) refl (λ text place. refl)
      (goes_then (flat_map (tokens.assign wires 4) p.root.assigns) _ assigns_go (goes_then (tokens.switches wires 4 p.root.switches) _ switches_go rules_go))))

  pub goes_process : (current : OpenModule) (roles : List Expect) (p : Process) → IsOver wires (at modules names current) → IsProcess wires p → IsFree current p.name
      → Goes (tokens.process wires p) (expects.Body ∷ roles) (at modules names current) (expects.Body ∷ roles) (at modules names (with_process p (add_name p.name current)))
  unfolding word_sort module_word option_word process_word event_word
  goes_process current roles p over is free =
      goes_attributes 2 p.attributes expects.Body expects.NextItem [] roles (at modules names current) is.attributes (takes_item (at modules names current))
      (goes_process_lines current roles p expects.Body over is free refl (λ place. refl))
      (goes_process_lines current roles p expects.NextItem over is free refl (λ place. refl))

-- ---- the names of a module's items

-- a name is new among the names before it
splits : (wn on : List (List ℕ)) (name : List ℕ) (rest total : List (List ℕ)) → wn ++ (on ++ name ∷ rest) ≡ total → AreDistinct total → IsNew wn name × IsNew on name
splits wn on name rest total e d =
    let before : has_name (wn ++ on) name ≡ false = not_before (wn ++ on) name rest (subst AreDistinct (sym e ∙ sym (append_assoc wn on (name ∷ rest))) d) in
    let both = not_in_front wn on name before in
    (is_new wn name both.0, is_new on name both.1)

distinct_front : (xs ys : List (List ℕ)) → AreDistinct (xs ++ ys) → AreDistinct xs
unfolding IsDistinct
distinct_front [] ys d = tt
distinct_front (x ∷ xs) ys d = (front xs d.0, distinct_front xs ys d.1)
  where
    front : (zs : List (List ℕ)) → AllByRecursion (λ z. bytes_eq x z ≡ false) (zs ++ ys) → AllByRecursion (λ z. bytes_eq x z ≡ false) zs
    front [] h = tt
    front (z ∷ zs) h = (h.0, front zs h.1)

-- ---- modules

-- the open module of which these were read
abbrev body_of : Module → List Parameter → List Wire → List Store → List Cell → List Process → List Link → Module
body_of m parameters wires memories cells processes links = record { id = m.id; attributes = m.attributes; parameters = parameters; wires = wires; memories = memories; cells = cells; processes = processes; links = links }

abbrev holding : Module → List (List ℕ) → List (List ℕ) → ℕ → OpenModule
holding body wires others bits = record { body = body; wire_names = wires; other_names = others; bits = bits }

abbrev wire_names : List Wire → List (List ℕ)
wire_names wires = map (λ w. w.name) wires

abbrev store_names : List Store → List (List ℕ)
store_names stores = map (λ s. s.name) stores

abbrev cell_names : List Cell → List (List ℕ)
cell_names cells = map (λ c. c.name) cells

abbrev process_names : List Process → List (List ℕ)
process_names processes = map (λ p. p.name) processes

abbrev all_bits : List Wire → ℕ
all_bits wires = sum_by (λ w. w.width) wires

bits_more : (front : List Wire) (w : Wire) (back : List Wire) → all_bits (front ++ w ∷ back) ≡ all_bits front + w.width + all_bits back
bits_more front w back = sum_by-append (λ (w : Wire). w.width) front (w ∷ back) ∙ ap (λ (n : ℕ). all_bits front + n) (sum_by-cons (λ (w : Wire). w.width) w back) ∙ omega arith

module _ (modules : List Module) (names : List (List ℕ)) (roles : List Expect) (m : Module) (is : IsReadableModule m) where
  abbrev back : List Expect
  back = expects.Body ∷ roles

  -- the stages of the open module
  abbrev with_parameters : List Parameter → Draft
  with_parameters ps = at modules names (holding (body_of m ps [] [] [] [] []) [] [] 0)

  abbrev with_wires : List Wire → Draft
  with_wires ws = at modules names (holding (body_of m m.parameters ws [] [] [] []) (wire_names ws) [] (all_bits ws))

  abbrev with_stores : List Store → Draft
  with_stores ss = at modules names (holding (body_of m m.parameters m.wires ss [] [] []) (wire_names m.wires) (store_names ss) (all_bits m.wires))

  abbrev with_cells : List Cell → Draft
  with_cells cs = at modules names (holding (body_of m m.parameters m.wires m.memories cs [] []) (wire_names m.wires) (store_names m.memories ++ cell_names cs) (all_bits m.wires))

  abbrev with_processes : List Process → Draft
  with_processes ps = at modules names (holding (body_of m m.parameters m.wires m.memories m.cells ps []) (wire_names m.wires) ((store_names m.memories ++ cell_names m.cells) ++ process_names ps) (all_bits m.wires))

  abbrev with_links : List Link → Draft
  with_links ls = at modules names (holding (body_of m m.parameters m.wires m.memories m.cells m.processes ls) (wire_names m.wires) ((store_names m.memories ++ cell_names m.cells) ++ process_names m.processes) (all_bits m.wires))

  goes_parameters : Goes (flat_map tokens.parameter m.parameters) back (with_parameters []) back (with_parameters m.parameters)
  goes_parameters = goes_each tokens.parameter back with_parameters [] m.parameters (λ front p after_it e.
      goes_parameter modules names (holding (body_of m front [] [] [] [] []) [] [] 0) roles p (all_at IsParameter front p after_it m.parameters e is.parameters))

  goes_one_wire : (front : List Wire) (w : Wire) (after_it : List Wire) → front ++ w ∷ after_it ≡ m.wires → Goes (tokens.wire w) back (with_wires front) back (with_wires (front ++ w ∷ []))
  goes_one_wire front w after_it e =
      let others = store_names m.memories ++ (cell_names m.cells ++ process_names m.processes) in
      let total : wire_names front ++ ([] ++ w.name ∷ (wire_names after_it ++ others)) ≡ item_names m = sym (append_assoc (wire_names front) (w.name ∷ wire_names after_it) others) ∙ ap (λ (l : List (List ℕ)). l ++ others) (sym (map-append (λ (w : Wire). w.name) front (w ∷ after_it)) ∙ ap wire_names e) in
      let new = splits (wire_names front) [] w.name (wire_names after_it ++ others) (item_names m) total is.distinct in
      let size : all_bits front + w.width ≤ MAX_BITS = omega (arith, bits_more front w after_it, ap all_bits e, is.bits) in
      let named : wire_names front ++ w.name ∷ [] ≡ wire_names (front ++ w ∷ []) = sym (map-append (λ (w : Wire). w.name) front (w ∷ [])) in
      let summed : all_bits front + w.width ≡ all_bits (front ++ w ∷ []) = omega (arith, bits_more front w []) in
      let put : List (List ℕ) → ℕ → Draft = λ (ns : List (List ℕ)) (n : ℕ). at modules names (holding (body_of m m.parameters (front ++ w ∷ []) [] [] [] []) ns [] n) in
      subst (λ (ns : List (List ℕ)). Goes (tokens.wire w) back (with_wires front) back (put ns (all_bits (front ++ w ∷ [])))) named
      (subst (λ (n : ℕ). Goes (tokens.wire w) back (with_wires front) back (put (wire_names front ++ w.name ∷ []) n)) summed
      (goes_wire modules names (holding (body_of m m.parameters front [] [] [] []) (wire_names front) [] (all_bits front)) roles w (all_at IsWire front w after_it m.wires e is.wires) (record { wire = new.0; other = new.1 }) size))

  goes_wires : Goes (flat_map tokens.wire m.wires) back (with_wires []) back (with_wires m.wires)
  goes_wires = goes_each tokens.wire back with_wires [] m.wires goes_one_wire

  goes_one_store : (front : List Store) (s : Store) (after_it : List Store) → front ++ s ∷ after_it ≡ m.memories → Goes (tokens.store s) back (with_stores front) back (with_stores (front ++ s ∷ []))
  goes_one_store front s after_it e =
      let others = cell_names m.cells ++ process_names m.processes in
      let total : wire_names m.wires ++ (store_names front ++ s.name ∷ (store_names after_it ++ others)) ≡ item_names m = ap (λ (l : List (List ℕ)). wire_names m.wires ++ l) (sym (append_assoc (store_names front) (s.name ∷ store_names after_it) others) ∙ ap (λ (l : List (List ℕ)). l ++ others) (sym (map-append (λ (s : Store). s.name) front (s ∷ after_it)) ∙ ap store_names e)) in
      let new = splits (wire_names m.wires) (store_names front) s.name (store_names after_it ++ others) (item_names m) total is.distinct in
      let named : store_names front ++ s.name ∷ [] ≡ store_names (front ++ s ∷ []) = sym (map-append (λ (s : Store). s.name) front (s ∷ [])) in
      subst (λ (ns : List (List ℕ)). Goes (tokens.store s) back (with_stores front) back (at modules names (holding (body_of m m.parameters m.wires (front ++ s ∷ []) [] [] []) (wire_names m.wires) ns (all_bits m.wires)))) named
      (goes_store modules names (holding (body_of m m.parameters m.wires front [] [] []) (wire_names m.wires) (store_names front) (all_bits m.wires)) roles s (all_at IsStore front s after_it m.memories e is.memories) (record { wire = new.0; other = new.1 }))

  goes_stores : Goes (flat_map tokens.store m.memories) back (with_stores []) back (with_stores m.memories)
  goes_stores = goes_each tokens.store back with_stores [] m.memories goes_one_store

  own_wires : AreDistinct (wire_names m.wires)
  own_wires = distinct_front (wire_names m.wires) (store_names m.memories ++ (cell_names m.cells ++ process_names m.processes)) is.distinct

  goes_one_cell : (front : List Cell) (c : Cell) (after_it : List Cell) → front ++ c ∷ after_it ≡ m.cells → Goes (tokens.cell m.wires c) back (with_cells front) back (with_cells (front ++ c ∷ []))
  goes_one_cell front c after_it e =
      let S = store_names m.memories in
      let P = process_names m.processes in
      let regrouped : (S ++ cell_names front) ++ c.name ∷ (cell_names after_it ++ P) ≡ S ++ (cell_names m.cells ++ P) = append_assoc S (cell_names front) (c.name ∷ (cell_names after_it ++ P)) ∙ ap (λ (l : List (List ℕ)). S ++ l) (sym (append_assoc (cell_names front) (c.name ∷ cell_names after_it) P) ∙ ap (λ (l : List (List ℕ)). l ++ P) (sym (map-append (λ (c : Cell). c.name) front (c ∷ after_it)) ∙ ap cell_names e)) in
      let new = splits (wire_names m.wires) (S ++ cell_names front) c.name (cell_names after_it ++ P) (item_names m) (ap (λ (l : List (List ℕ)). wire_names m.wires ++ l) regrouped) is.distinct in
      let named : (S ++ cell_names front) ++ c.name ∷ [] ≡ S ++ cell_names (front ++ c ∷ []) = append_assoc S (cell_names front) (c.name ∷ []) ∙ ap (λ (l : List (List ℕ)). S ++ l) (sym (map-append (λ (c : Cell). c.name) front (c ∷ []))) in
      let few : length front < MAX_CELLS = omega (arith, ap length e, length-append front (c ∷ after_it), is.count) in
      subst (λ (ns : List (List ℕ)). Goes (tokens.cell m.wires c) back (with_cells front) back (at modules names (holding (body_of m m.parameters m.wires m.memories (front ++ c ∷ []) [] []) (wire_names m.wires) ns (all_bits m.wires)))) named
      (goes_cell is.wires own_wires modules names (holding (body_of m m.parameters m.wires m.memories front [] []) (wire_names m.wires) (S ++ cell_names front) (all_bits m.wires)) roles c (record { wires_are = refl; names_are = refl }) (all_at (IsCell m.wires) front c after_it m.cells e is.cells) (record { wire = new.0; other = new.1 }) few)

  goes_cells : Goes (flat_map (tokens.cell m.wires) m.cells) back (with_cells []) back (with_cells m.cells)
  goes_cells = goes_each (tokens.cell m.wires) back with_cells [] m.cells goes_one_cell

  goes_one_process : (front : List Process) (p : Process) (after_it : List Process) → front ++ p ∷ after_it ≡ m.processes → Goes (tokens.process m.wires p) back (with_processes front) back (with_processes (front ++ p ∷ []))
  goes_one_process front p after_it e =
      let S = store_names m.memories in
      let C = cell_names m.cells in
      let regrouped : ((S ++ C) ++ process_names front) ++ p.name ∷ process_names after_it ≡ S ++ (C ++ process_names m.processes) = append_assoc (S ++ C) (process_names front) (p.name ∷ process_names after_it) ∙ ap (λ (l : List (List ℕ)). (S ++ C) ++ l) (sym (map-append (λ (p : Process). p.name) front (p ∷ after_it)) ∙ ap process_names e) ∙ append_assoc S C (process_names m.processes) in
      let new = splits (wire_names m.wires) ((S ++ C) ++ process_names front) p.name (process_names after_it) (item_names m) (ap (λ (l : List (List ℕ)). wire_names m.wires ++ l) regrouped) is.distinct in
      let named : ((S ++ C) ++ process_names front) ++ p.name ∷ [] ≡ (S ++ C) ++ process_names (front ++ p ∷ []) = append_assoc (S ++ C) (process_names front) (p.name ∷ []) ∙ ap (λ (l : List (List ℕ)). (S ++ C) ++ l) (sym (map-append (λ (p : Process). p.name) front (p ∷ []))) in
      subst (λ (ns : List (List ℕ)). Goes (tokens.process m.wires p) back (with_processes front) back (at modules names (holding (body_of m m.parameters m.wires m.memories m.cells (front ++ p ∷ []) []) (wire_names m.wires) ns (all_bits m.wires)))) named
      (goes_process is.wires own_wires modules names (holding (body_of m m.parameters m.wires m.memories m.cells front []) (wire_names m.wires) ((S ++ C) ++ process_names front) (all_bits m.wires)) roles p (record { wires_are = refl; names_are = refl }) (all_at (IsProcess m.wires) front p after_it m.processes e is.processes) (record { wire = new.0; other = new.1 }))

  goes_processes : Goes (flat_map (tokens.process m.wires) m.processes) back (with_processes []) back (with_processes m.processes)
  goes_processes = goes_each (tokens.process m.wires) back with_processes [] m.processes goes_one_process

  goes_links : Goes (flat_map (tokens.link m.wires) m.links) back (with_links []) back (with_links m.links)
  goes_links = goes_each (tokens.link m.wires) back with_links [] m.links (λ front l after_it e.
      goes_link is.wires own_wires modules names (holding (body_of m m.parameters m.wires m.memories m.cells m.processes front) (wire_names m.wires) ((store_names m.memories ++ cell_names m.cells) ++ process_names m.processes) (all_bits m.wires)) roles l (record { wires_are = refl; names_are = refl }) (all_at (IsLink m.wires) front l after_it m.links e is.links))

  -- what stands between the first line of a module and its end
  goes_inner : Goes (tokens.inner m) back (with_parameters []) back (with_links m.links)
  goes_inner =
      let S = store_names m.memories in
      let C = cell_names m.cells in
      let joins_cells : S ++ [] ≡ S = append-nil S in
      let joins_processes : (S ++ C) ++ [] ≡ S ++ C = append-nil (S ++ C) in
      let cells_go : Goes (flat_map (tokens.cell m.wires) m.cells) back (with_stores m.memories) back (with_cells m.cells) = subst (λ (ns : List (List ℕ)). Goes (flat_map (tokens.cell m.wires) m.cells) back (at modules names (holding (body_of m m.parameters m.wires m.memories [] [] []) (wire_names m.wires) ns (all_bits m.wires))) back (with_cells m.cells)) joins_cells goes_cells in
      let processes_go : Goes (flat_map (tokens.process m.wires) m.processes) back (with_cells m.cells) back (with_processes m.processes) = subst (λ (ns : List (List ℕ)). Goes (flat_map (tokens.process m.wires) m.processes) back (at modules names (holding (body_of m m.parameters m.wires m.memories m.cells [] []) (wire_names m.wires) ns (all_bits m.wires))) back (with_processes m.processes)) joins_processes goes_processes in
      goes_then (flat_map tokens.parameter m.parameters) _ goes_parameters
      (goes_then (flat_map tokens.wire m.wires) _ goes_wires
      (goes_then (flat_map tokens.store m.memories) _ goes_stores
      (goes_then (flat_map (tokens.cell m.wires) m.cells) _ cells_go
      (goes_then (flat_map (tokens.process m.wires) m.processes) (flat_map (tokens.link m.wires) m.links) processes_go goes_links))))

-- between two modules of a text
abbrev pub between : List Module → Draft
between done = record nothing { modules = done; names = map (λ m. m.id) done }

-- where a module may stand
pub record TakesModule (role : Expect) : Type 0 where
  pub remarks : (d : Draft) → TakesAttributes role expects.NextModule [] d
  pub can : after role sorts.Module ≡ Some (expects.ModuleName ∷ expects.Modules ∷ [])
  pub does : (d : Draft) (place : Place) → act role (seen_at kinds.Word (codes "module") place) d ≡ (if nat_le MAX_MODULES (length d.modules) then Err (faults.Limit place) else Ok d)

pub module_at_start : TakesModule expects.Start
unfolding word_sort module_word option_word process_word event_word
module_at_start = record {
  remarks = λ d. record { first = refl; later = refl; keeps_first = λ remarks place. refl; keeps_later = λ remarks place. refl };
  can = refl;
  does = λ d place. refl;
}

pub module_among : TakesModule expects.Modules
unfolding word_sort module_word option_word process_word event_word
module_among = record {
  remarks = λ d. record { first = refl; later = refl; keeps_first = λ remarks place. refl; keeps_later = λ remarks place. refl };
  can = refl;
  does = λ d place. refl;
}

goes_module_lines : (done : List Module) (m : Module) (role : Expect) → IsReadableModule m → IsNew (map (λ m. m.id) done) m.id → length done < MAX_MODULES
    → after role sorts.Module ≡ Some (expects.ModuleName ∷ expects.Modules ∷ [])
    → ((place : Place) → act role (seen_at kinds.Word (codes "module") place) (waiting m.attributes (between done)) ≡ (if nat_le MAX_MODULES (length done) then Err (faults.Limit place) else Ok (waiting m.attributes (between done))))
    → Goes (tokens.module_lines m) (role ∷ []) (waiting m.attributes (between done)) (expects.Modules ∷ []) (between (done ++ m ∷ []))
unfolding word_sort module_word option_word process_word event_word
goes_module_lines done m role is new few can does =
    let ids = map (λ (m : Module). m.id) done in
    let named : List (List ℕ) → Draft = λ (ns : List (List ℕ)). at done ns (fresh_module m.id m.attributes) in
    let low : List Expect = expects.Modules ∷ [] in
    let room : nat_le MAX_MODULES (length done) ≡ false = lt-leb MAX_MODULES (length done) few in
    let last : List (List ℕ) → Draft = λ (ns : List (List ℕ)). record nothing { modules = done ++ m ∷ []; names = ns } in
    let ends : last (ids ++ m.id ∷ []) ≡ between (done ++ m ∷ []) = ap last (sym (map-append (λ (m : Module). m.id) done (m ∷ []))) in
    subst (λ (d : Draft). Goes (tokens.module_lines m) (role ∷ []) (waiting m.attributes (between done)) low d) ends
    (goes_on (expects.ModuleName ∷ expects.Modules ∷ []) (λ p. waiting m.attributes (between done)) can (λ p. does p ∙ ap (λ (b : Bool). if b then Err (faults.Limit p) else okay (waiting m.attributes (between done))) room) (λ p.
    goes_on (expects.EndOfLine ∷ expects.Body ∷ []) (λ q. named (ids ++ m.id ∷ [])) refl
    (λ q. ap (λ (b : Bool). if b then Err (faults.Duplicate q) else okay (named (with_name ids m.id))) new.none ∙ ap (λ (ns : List (List ℕ)). okay (named ns)) new.added) (λ q.
    goes_line [] (named (ids ++ m.id ∷ [])) refl (λ text place. refl)
    (goes_then (tokens.inner m) _ (goes_inner done (ids ++ m.id ∷ []) low m is)
    (goes_on (expects.EndOfLine ∷ []) (λ r. last (ids ++ m.id ∷ [])) refl (λ r. refl) (λ r. goes_line [] (last (ids ++ m.id ∷ [])) refl (λ text place. refl) goes_none))))))

goes_module : (done : List Module) (m : Module) (role : Expect) → TakesModule role → IsReadableModule m → IsNew (map (λ m. m.id) done) m.id → length done < MAX_MODULES
    → Goes (tokens.one_module m) (role ∷ []) (between done) (expects.Modules ∷ []) (between (done ++ m ∷ []))
unfolding word_sort module_word option_word process_word event_word
goes_module done m role takes is new few =
    goes_attributes 0 m.attributes role expects.NextModule [] [] (between done) is.attributes (takes.remarks (between done))
    (goes_module_lines done m role is new few takes.can (λ place. takes.does (waiting m.attributes (between done)) place))
    (goes_module_lines done m expects.NextModule is new few refl (λ place. refl))

-- the modules behind the first
goes_more_modules : (done rest : List Module) → IsReadable (record { modules = done ++ rest }) → Goes (flat_map tokens.one_module rest) (expects.Modules ∷ []) (between done) (expects.Modules ∷ []) (between (done ++ rest))
goes_more_modules done rest is =
    goes_each tokens.one_module (expects.Modules ∷ []) between done rest (λ front m after_it e.
    goes_module front m expects.Modules module_among (all_at IsReadableModule front m after_it (done ++ rest) e is.modules) (new_among (λ (m : Module). m.id) front m after_it (done ++ rest) e is.distinct)
    (omega (arith, ap length e, length-append front (m ∷ after_it), is.count)))

-- a design that has a module
pub goes_design : (m : Module) (rest : List Module) → IsReadable (record { modules = m ∷ rest }) → Goes (tokens.tokens_of (record { modules = m ∷ rest })) (expects.Start ∷ []) nothing (expects.Modules ∷ []) (between (m ∷ rest))
goes_design m rest is =
    goes_then (tokens.one_module m) (flat_map tokens.one_module rest)
    (goes_module [] m expects.Start module_at_start (all_at IsReadableModule [] m rest (m ∷ rest) refl is.modules) (new_among (λ (m : Module). m.id) [] m rest (m ∷ rest) refl is.distinct) (omega arith))
    (goes_more_modules (m ∷ []) rest is)
