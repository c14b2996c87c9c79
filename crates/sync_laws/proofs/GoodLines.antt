-- What the lines that write have in a module without faults: a memory of their width, and a number that a port may have.
use Rattle.std.proofs.Common.{◌≡◌, ◌≤◌, ℕ, ◌+◌, Bool, true, false, List, [], ◌∷◌, ◌++◌, length, Option, Some, None, if◌then◌else◌, refl, sym, ◌∙◌, ap, subst, arith, append_assoc, append-nil}
use Rattle.std.specs.Prelude.{◌||◌, ◌==◌, count_by, filter, find, flat_map, map, max, nat_lt, not}
use Rattle.std.specs.Option.{option_map_or}
use Rattle.std.specs.Str.{bytes_eq}
use Rattle.std.proofs.lemmas.Bool.{or_parts}
use Rattle.std.proofs.lemmas.Grind.{flat_map-append}
use Rattle.std.proofs.lemmas.Slice.Eq.{bytes_eq-Decides}
use Rattle.rtl_ir.specs.Fault.{Fault}
use Rattle.rtl_ir.specs.Faults.MemoryCells.{store_named}
use Rattle.rtl_ir.specs.Faults.Processes.{faults_of_process, has_bad_line, is_bad_line, is_bad_write_in, process_faults}
use Rattle.rtl_ir.specs.Flat.Access.{cell_access, cell_accesses, next_number}
use Rattle.rtl_ir.specs.Scope.{with_processes}
use Rattle.rtl_ir.specs.Types.{Ports}
use Rattle.rtl_ir.specs.WritePorts.{EventLine, cell_port, cell_ports, lines_of, next_port, write_lines}
use Rattle.rtl_ir.specs.declared.cell.Cell.{Cell}
use Rattle.rtl_ir.specs.declared.module.Link.{Link}
use Rattle.rtl_ir.specs.declared.module.Module.{Module}
use Rattle.rtl_ir.specs.declared.process.Process.{Process}
use Rattle.rtl_ir.specs.declared.process.SyncRule.{SyncRule}
use Rattle.rtl_ir.specs.declared.process.WriteLine.{WriteLine}
use Rattle.rtl_ir.specs.declared.store.Store.{Store}
use Rattle.net_model.specs.Proc.Sync.{Numbered, line_number}
use Rattle.pass_laws.proofs.Faultless.{none_left, none_right}
use Rattle.proc_laws.proofs.RebuildProcesses.{good_of}
use Rattle.sync_laws.proofs.Lines.{AreSmall, RulesSmall, count_more, count_same, other_text, ports_among}
use Rattle.sync_laws.proofs.Order.{next_ordered}
use Rattle.sync_laws.proofs.Ports.{is_port_of}
use Rattle.sync_laws.proofs.WriteParts.{module_rules, numbered_line, numbered_lines}

-- the lines of a rule that write
abbrev pub rule_lines : SyncRule → List EventLine
rule_lines r = map (λ (l : WriteLine). record { event = r.event; line = l }) r.writes

filter_last : {A : Type 0} (test : A → Bool) (xs : List A) (y : A) → length (filter test (xs ++ y ∷ [])) ≡ length (filter test xs) + (if test y then 1 else 0)
filter_last test [] y = by (test y)
  where
    by : (t : Bool) → length (if t then y ∷ [] else []) ≡ 0 + (if t then 1 else 0)
    by true = refl
    by false = refl
filter_last test (x ∷ xs) y = by (test x) (filter_last test xs y)
  where
    by : (t : Bool) → length (filter test (xs ++ y ∷ [])) ≡ length (filter test xs) + (if test y then 1 else 0) → length (if t then x ∷ filter test (xs ++ y ∷ []) else filter test (xs ++ y ∷ [])) ≡ length (if t then x ∷ filter test xs else filter test xs) + (if test y then 1 else 0)
    by true e = omega (arith, e)
    by false e = e

module _ (m : Module) where
  -- what a line has behind these
  pub record IsGoodLine (before : List EventLine) (l : EventLine) : Type 0 where
    pub store : Store
    pub there : store_named m.memories l.line.memory ≡ Some store
    pub named : store.name ≡ l.line.memory
    pub width : (length l.line.value == store.width) ≡ true
    pub address : nat_lt 32 (length l.line.address) ≡ false
    pub few : nat_lt 65535 (next_port (cell_ports m.links store.name m.cells) + length (lines_of store.name before)) ≡ false

  abbrev pub AreGood : List EventLine → List EventLine → Type 0
  AreGood before [] = Unit {0}
  AreGood before (l ∷ ls) = IsGoodLine before l × AreGood (before ++ l ∷ []) ls

  not_false : (t : Bool) → not t ≡ false → t ≡ true
  not_false true e = refl
  not_false false e = absurd (cc)

  found_name : (stores : List Store) (name : List ℕ) (s : Store) → store_named stores name ≡ Some s → s.name ≡ name
  found_name [] name s e = absurd (cc)
  found_name (x ∷ stores) name s e = by (bytes_eq x.name name) refl e (found_name stores name s)
    where
      by : (t : Bool) → bytes_eq x.name name ≡ t → (if t then Some x else find (λ (y : Store). bytes_eq y.name name) stores) ≡ Some s → (store_named stores name ≡ Some s → s.name ≡ name) → s.name ≡ name
      by true f g later = let same : x ≡ s = cc in ap (λ (y : Store). y.name) (sym same) ∙ (bytes_eq-Decides x.name name).0 f
      by false f g later = later g

  good_line : (before : List EventLine) (l : EventLine) → is_bad_line false m before l ≡ false → IsGoodLine before l
  good_line before l e = by (store_named m.memories l.line.memory) refl e
    where
      by : (o : Option Store) → store_named m.memories l.line.memory ≡ o → option_map_or (is_bad_write_in false m before l) o true ≡ false → IsGoodLine before l
      by None own f = absurd (cc)
      by (Some s) own f =
          let other : Bool = not (length l.line.value == s.width) in
          let long : Bool = nat_lt 32 (length l.line.address) in
          let many : Bool = nat_lt 65535 (next_port (cell_ports m.links s.name m.cells) + length (lines_of s.name before)) in
          let three = or_parts ((other || long) || many) false f in
          let two = or_parts (other || long) many three.0 in
          let one = or_parts other long two.0 in
          record {
            store = s;
            there = own;
            named = found_name m.memories l.line.memory s own;
            width = not_false (length l.line.value == s.width) one.0;
            address = one.1;
            few = two.1;
          }

  good_lines : (before ls : List EventLine) → has_bad_line false m before ls ≡ false → AreGood before ls
  good_lines before [] e = tt
  good_lines before (l ∷ ls) e =
      let both = or_parts (is_bad_line false m before l) (has_bad_line false m (before ++ l ∷ []) ls) e in
      (good_line before l both.0, good_lines (before ++ l ∷ []) ls both.1)

  good_both : (before xs ys : List EventLine) → AreGood before xs → AreGood (before ++ xs) ys → AreGood before (xs ++ ys)
  good_both before [] ys h k = subst (λ z. AreGood z ys) (append-nil before) k
  good_both before (x ∷ xs) ys h k =
      (h.0, good_both (before ++ x ∷ []) xs ys h.1 (subst (λ z. AreGood z ys) (sym (append_assoc before (x ∷ []) xs)) k))

  pub good_parts : (before xs ys : List EventLine) → AreGood before (xs ++ ys) → AreGood before xs × AreGood (before ++ xs) ys
  good_parts before [] ys h = (tt, subst (λ z. AreGood z ys) (sym (append-nil before)) h)
  good_parts before (x ∷ xs) ys h =
      let k = good_parts (before ++ x ∷ []) xs ys h.1 in
      ((h.0, k.0), subst (λ z. AreGood z ys) (append_assoc before (x ∷ []) xs) k.1)

  processes_good : (ports : Ports) (earlier ps : List Process) → process_faults with_processes ports m earlier ps ≡ [] → AreGood (flat_map write_lines earlier) (flat_map write_lines ps)
  processes_good ports earlier [] e = tt
  processes_good ports earlier (p ∷ ps) e =
      let here : List Fault = faults_of_process with_processes ports m earlier p in
      let later : List Fault = process_faults with_processes ports m (earlier ++ p ∷ []) ps in
      let all : flat_map write_lines (earlier ++ p ∷ []) ≡ flat_map write_lines earlier ++ write_lines p = flat_map-append write_lines earlier (p ∷ []) ∙ ap (λ z. flat_map write_lines earlier ++ z) (append-nil (write_lines p)) in
      good_both (flat_map write_lines earlier) (write_lines p) (flat_map write_lines ps)
      (good_lines (flat_map write_lines earlier) (write_lines p) (good_of ports m earlier p (none_left here later e)).lines)
      (subst (λ z. AreGood z (flat_map write_lines ps)) all (processes_good ports (earlier ++ p ∷ []) ps (none_right here later e)))

  by_rules : (ps : List Process) → flat_map write_lines ps ≡ flat_map rule_lines (flat_map (λ (p : Process). p.syncs) ps)
  by_rules [] = refl
  by_rules (p ∷ ps) =
      ap (λ z. write_lines p ++ z) (by_rules ps)
      ∙ sym (flat_map-append rule_lines p.syncs (flat_map (λ (q : Process). q.syncs) ps))

  -- the lines of the rules of a module without faults
  pub rules_good : (ports : Ports) → process_faults with_processes ports m [] m.processes ≡ [] → AreGood [] (flat_map rule_lines (module_rules m))
  rules_good ports e = subst (AreGood []) (by_rules m.processes) (processes_good ports [] m.processes e)

  -- lines as they are numbered, and as they are checked, are as many for each memory
  abbrev pub AreAsMany : List Numbered → List EventLine → Type 0
  AreAsMany before lines = (name : List ℕ) → count_by (λ (l : Numbered). bytes_eq l.memory name) before ≡ length (lines_of name lines)

  pub as_many_more : (before : List Numbered) (lines : List EventLine) (l : EventLine) → AreAsMany before lines → AreAsMany (before ++ numbered_line m before l.line ∷ []) (lines ++ l ∷ [])
  as_many_more before lines l h name = by (bytes_eq name l.line.memory) refl
    where
      by : (t : Bool) → bytes_eq name l.line.memory ≡ t → count_by (λ (n : Numbered). bytes_eq n.memory name) (before ++ numbered_line m before l.line ∷ []) ≡ length (lines_of name (lines ++ l ∷ []))
      by true e =
          let there = filter_last (λ (x : EventLine). bytes_eq name x.line.memory) lines l in
          let a = count_more (λ (n : Numbered). bytes_eq n.memory name) before (numbered_line m before l.line) ((bytes_eq-Decides l.line.memory name).1 (sym ((bytes_eq-Decides name l.line.memory).0 e))) in
          let b = ap (λ t. length (lines_of name lines) + (if t then 1 else 0)) e in
          a ∙ ap (λ z. z + 1) (h name) ∙ sym (there ∙ b)
      by false e =
          let there = filter_last (λ (x : EventLine). bytes_eq name x.line.memory) lines l in
          let a = count_same (λ (n : Numbered). bytes_eq n.memory name) before (numbered_line m before l.line) (other_text name l.line.memory e) in
          let b = ap (λ t. length (lines_of name lines) + (if t then 1 else 0)) e in
          let c : length (lines_of name lines) + 0 ≡ length (lines_of name lines) = omega arith in
          a ∙ h name ∙ sym (there ∙ b ∙ c)

  next_ports : (links : List Link) (cells : List Cell) → next_number (map cell_access cells) ≡ next_port (map (cell_port links) cells)
  next_ports links [] = refl
  next_ports links (c ∷ cells) = ap (max ((cell_access c).number + 1)) (next_ports links cells)

  -- the number behind the cells of a memory is the same in both
  pub next_is : (name : List ℕ) → next_number (cell_accesses name m.cells) ≡ next_port (cell_ports m.links name m.cells)
  next_is name = next_ordered (ports_among m name m.cells) ∙ next_ports m.links (filter (is_port_of name) m.cells)

  -- the number of a line
  pub number_of_line : (before : List Numbered) (lines : List EventLine) (l : EventLine) → AreAsMany before lines → (g : IsGoodLine lines l) → line_number m before l.line.memory ≡ next_port (cell_ports m.links g.store.name m.cells) + length (lines_of g.store.name lines)
  number_of_line before lines l many g =
      (λ i. next_is l.line.memory i + many l.line.memory i)
      ∙ ap (λ z. next_port (cell_ports m.links z m.cells) + length (lines_of z lines)) (sym g.named)

  pub small_of : (before : List Numbered) (lines : List EventLine) (l : EventLine) → AreAsMany before lines → IsGoodLine lines l → line_number m before l.line.memory ≤ 65535
  small_of before lines l many g =
      grind (arith, number_of_line before lines l many g, g.few)

  are_small : (r : SyncRule) (lines : List WriteLine) (before : List Numbered) (checked : List EventLine) → AreAsMany before checked → AreGood checked (map (λ (l : WriteLine). record { event = r.event; line = l }) lines) → AreSmall m before lines
  are_small r [] before checked many h = tt
  are_small r (line ∷ lines) before checked many h =
      let l : EventLine = record { event = r.event; line = line } in (
        small_of before checked l many h.0,
        are_small r lines (before ++ numbered_line m before line ∷ []) (checked ++ l ∷ []) (as_many_more before checked l many) h.1,
      )

  pub as_many_after : (r : SyncRule) (lines : List WriteLine) (before : List Numbered) (checked : List EventLine) → AreAsMany before checked → AreAsMany (numbered_lines m before lines) (checked ++ map (λ (l : WriteLine). record { event = r.event; line = l }) lines)
  as_many_after r [] before checked many = subst (AreAsMany before) (sym (append-nil checked)) many
  as_many_after r (line ∷ lines) before checked many =
      let l : EventLine = record { event = r.event; line = line } in
      subst (AreAsMany (numbered_lines m (before ++ numbered_line m before line ∷ []) lines)) (append_assoc checked (l ∷ []) (map (λ (x : WriteLine). record { event = r.event; line = x }) lines))
      (as_many_after r lines (before ++ numbered_line m before line ∷ []) (checked ++ l ∷ []) (as_many_more before checked l many))

  pub rules_small : (rules : List SyncRule) (before : List Numbered) (checked : List EventLine) → AreAsMany before checked → AreGood checked (flat_map rule_lines rules) → RulesSmall m before rules
  rules_small [] before checked many h = tt
  rules_small (r ∷ rules) before checked many h =
      let k = good_parts checked (rule_lines r) (flat_map rule_lines rules) h in (
        are_small r r.writes before checked many k.0,
        rules_small rules (numbered_lines m before r.writes) (checked ++ rule_lines r) (as_many_after r r.writes before checked many) k.1,
      )

  pub none_numbered : AreAsMany [] []
  none_numbered name = refl
