-- The write ports that lines become are the lines as the flat netlist numbers them.
use Rattle.std.proofs.Common.{◌≡◌, ◌≤◌, ℕ, ◌+◌, Bool, true, false, if◌then◌else◌, List, [], ◌∷◌, ◌++◌, length, Option, Some, None, refl, sym, ◌∙◌, ap, subst, arith, true≢false}
use Rattle.std.specs.Prelude.{cond, count_by, filter, map}
use Rattle.std.specs.Str.{bytes_eq}
use Rattle.std.proofs.lemmas.List.Sums.{sum_by-append}
use Rattle.std.proofs.lemmas.Slice.Eq.{bytes_eq-Decides}
use Rattle.rtl_ir.specs.Flat.Access.{Access, cell_access, cell_accesses, line_access, line_accesses, next_number, rule_accesses}
use Rattle.rtl_ir.specs.declared.cell.Cell.{Cell}
use Rattle.rtl_ir.specs.declared.module.Module.{Module}
use Rattle.rtl_ir.specs.declared.process.Event.{Event}
use Rattle.rtl_ir.specs.declared.process.SyncRule.{SyncRule}
use Rattle.rtl_ir.specs.declared.process.WriteLine.{WriteLine}
use Rattle.net_model.proofs.Members.{map-append}
use Rattle.net_model.specs.Proc.Sync.{Numbered, line_number, ports_in}
use Rattle.sync_laws.proofs.Parts.{Part, cells_from, named}
use Rattle.sync_laws.proofs.Order.{AreFrom}
use Rattle.sync_laws.proofs.Ports.{access_is, is_port_of, port_of}
use Rattle.sync_laws.proofs.WriteParts.{cells_both, lines_parts, numbered_line, numbered_lines, write_part, written_parts}

pub filter_both : {A : Type 0} (test : A → Bool) (xs ys : List A) → filter test (xs ++ ys) ≡ filter test xs ++ filter test ys
filter_both test [] ys = refl
filter_both test (x ∷ xs) ys = by (test x) (filter_both test xs ys)
  where
    by : (t : Bool) → filter test (xs ++ ys) ≡ filter test xs ++ filter test ys → (if t then x ∷ filter test (xs ++ ys) else filter test (xs ++ ys)) ≡ (if t then x ∷ filter test xs else filter test xs) ++ filter test ys
    by true e = ap (λ z. x ∷ z) e
    by false e = e

pub count_more : {A : Type 0} (test : A → Bool) (xs : List A) (y : A) → test y ≡ true → count_by test (xs ++ y ∷ []) ≡ count_by test xs + 1
count_more test xs y e =
    let one : count_by test xs + (0 + 1) ≡ count_by test xs + 1 = omega arith in
    sum_by-append (λ x. cond (test x) 1 0) xs (y ∷ []) ∙ ap (λ t. count_by test xs + (0 + cond t 1 0)) e ∙ one

pub count_same : {A : Type 0} (test : A → Bool) (xs : List A) (y : A) → test y ≡ false → count_by test (xs ++ y ∷ []) ≡ count_by test xs
count_same test xs y e =
    let none : count_by test xs + (0 + 0) ≡ count_by test xs = omega arith in
    sum_by-append (λ x. cond (test x) 1 0) xs (y ∷ []) ∙ ap (λ t. count_by test xs + (0 + cond t 1 0)) e ∙ none

-- another text is so from either side
pub other_text : (a b : List ℕ) → bytes_eq a b ≡ false → bytes_eq b a ≡ false
other_text a b e = by (bytes_eq b a) refl
  where
    by : (t : Bool) → bytes_eq b a ≡ t → t ≡ false
    by false f = refl
    by true f = absurd (true≢false (sym ((bytes_eq-Decides a b).1 (sym ((bytes_eq-Decides b a).0 f))) ∙ e))

module _ (m : Module) where
  -- the numbers of lines, behind these, are such that a port may have
  abbrev pub AreSmall : List Numbered → List WriteLine → Type 0
  AreSmall before [] = Unit {0}
  AreSmall before (line ∷ lines) =
      (line_number m before line.memory ≤ 65535) × AreSmall (before ++ numbered_line m before line ∷ []) lines

  abbrev pub RulesSmall : List Numbered → List SyncRule → Type 0
  RulesSmall before [] = Unit {0}
  RulesSmall before (r ∷ rules) = AreSmall before r.writes × RulesSmall (numbered_lines m before r.writes) rules

  module _ (name : List ℕ) where
    abbrev own : Numbered → Bool
    own l = bytes_eq l.memory name

    next_same : (before : List Numbered) (line : WriteLine) → bytes_eq name line.memory ≡ false → line_number m (before ++ numbered_line m before line ∷ []) name ≡ line_number m before name
    next_same before line e =
        ap (λ z. next_number (cell_accesses name m.cells) + z) (count_same own before (numbered_line m before line) (other_text name line.memory e))

    next_more : (before : List Numbered) (line : WriteLine) → name ≡ line.memory → line_number m (before ++ numbered_line m before line ∷ []) name ≡ line_number m before name + 1
    next_more before line same =
        let e = count_more own before (numbered_line m before line) ((bytes_eq-Decides line.memory name).1 (sym same)) in
        omega (arith, e)

    ports_same : (before rule : List Numbered) (line : WriteLine) → bytes_eq name line.memory ≡ false → ports_in name (rule ++ numbered_line m before line ∷ []) ≡ ports_in name rule ++ None ∷ []
    ports_same before rule line e =
        map-append (λ (l : Numbered). if own l then Some l.number else None) rule (numbered_line m before line ∷ [])
        ∙ ap (λ t. ports_in name rule ++ (if t then Some (line_number m before line.memory) else None) ∷ []) (other_text name line.memory e)

    ports_more : (before rule : List Numbered) (line : WriteLine) → name ≡ line.memory → ports_in name (rule ++ numbered_line m before line ∷ []) ≡ ports_in name rule ++ Some (line_number m before name) ∷ []
    ports_more before rule line same =
        let e = (bytes_eq-Decides line.memory name).1 (sym same) in
        map-append (λ (l : Numbered). if own l then Some l.number else None) rule (numbered_line m before line ∷ [])
        ∙ ap (λ t. ports_in name rule ++ (if t then Some (line_number m before line.memory) else None) ∷ []) e
        ∙ ap (λ z. ports_in name rule ++ Some (line_number m before z) ∷ []) (sym same)

    -- the ports among cells
    abbrev pub ports_among : List Cell → List Access
    ports_among cells = map cell_access (filter (is_port_of name) cells)

    pub ports_both : (xs ys : List Cell) → ports_among (xs ++ ys) ≡ ports_among xs ++ ports_among ys
    ports_both xs ys =
        ap (map cell_access) (filter_both (is_port_of name) xs ys) ∙ map-append cell_access (filter (is_port_of name) xs) (filter (is_port_of name) ys)

    lines_are : (event : Event) (rule before : List Numbered) (lines : List WriteLine) (n : ℕ) → AreSmall before lines → ports_among (cells_from n (lines_parts m event rule before lines)) ≡ line_accesses name event (line_number m before name) (ports_in name rule) lines
    lines_are event rule before [] n small = refl
    lines_are event rule before (line ∷ lines) n small =
        ap (λ t. map cell_access (if t then here ∷ filter (is_port_of name) later else filter (is_port_of name) later)) (port_of event line (line_number m before line.memory) rule n name)
        ∙ by (bytes_eq name line.memory) refl (lines_are event (rule ++ numbered_line m before line ∷ []) (before ++ numbered_line m before line ∷ []) lines (n + 1) small.1)
      where
        here : Cell
        here = named (write_part event line (line_number m before line.memory) rule) n

        later : List Cell
        later = cells_from (n + 1) (lines_parts m event (rule ++ numbered_line m before line ∷ []) (before ++ numbered_line m before line ∷ []) lines)

        by : (t : Bool) → bytes_eq name line.memory ≡ t → ports_among later ≡ line_accesses name event (line_number m (before ++ numbered_line m before line ∷ []) name) (ports_in name (rule ++ numbered_line m before line ∷ [])) lines → map cell_access (if t then here ∷ filter (is_port_of name) later else filter (is_port_of name) later) ≡ (if t then line_access event (line_number m before name) (ports_in name rule) line ∷ line_accesses name event (line_number m before name + 1) (ports_in name rule ++ Some (line_number m before name) ∷ []) lines else line_accesses name event (line_number m before name) (ports_in name rule ++ None ∷ []) lines)
        by true e rest =
            let same : name ≡ line.memory = (bytes_eq-Decides name line.memory).0 e in
            let first : cell_access here ≡ line_access event (line_number m before name) (ports_in name rule) line = access_is event line (line_number m before line.memory) rule n small.0 ∙ ap (λ z. line_access event (line_number m before z) (ports_in z rule) line) (sym same) in
            λ i. first i ∷ (rest ∙ (λ j. line_accesses name event (next_more before line same j) (ports_more before rule line same j) lines)) i
        by false e rest = rest ∙ (λ j. line_accesses name event (next_same before line e j) (ports_same before rule line e j) lines)

    -- how far the numbers come
    numbers_after : (event : Event) (lines : List WriteLine) (before : List Numbered) (ports : List (Option ℕ)) → line_number m (numbered_lines m before lines) name ≡ line_number m before name + length (line_accesses name event (line_number m before name) ports lines)
    numbers_after event [] before ports = omega arith
    numbers_after event (line ∷ lines) before ports =
        by (bytes_eq name line.memory) refl
        (numbers_after event lines (before ++ numbered_line m before line ∷ []))
      where
        by : (t : Bool) → bytes_eq name line.memory ≡ t
            → ((q : List (Option ℕ)) → line_number m (numbered_lines m (before ++ numbered_line m before line ∷ []) lines) name ≡ line_number m (before ++ numbered_line m before line ∷ []) name + length (line_accesses name event (line_number m (before ++ numbered_line m before line ∷ []) name) q lines))
            → line_number m (numbered_lines m (before ++ numbered_line m before line ∷ []) lines) name ≡ line_number m before name + length (if t then line_access event (line_number m before name) ports line ∷ line_accesses name event (line_number m before name + 1) (ports ++ Some (line_number m before name) ∷ []) lines else line_accesses name event (line_number m before name) (ports ++ None ∷ []) lines)
        by true e rest =
            let more = next_more before line ((bytes_eq-Decides name line.memory).0 e) in
            let far = rest (ports ++ Some (line_number m before name) ∷ []) ∙ (λ i. more i + length (line_accesses name event (more i) (ports ++ Some (line_number m before name) ∷ []) lines)) in
            omega (arith, far)
        by false e rest =
            let same = next_same before line e in
            rest (ports ++ None ∷ []) ∙ (λ i. same i + length (line_accesses name event (same i) (ports ++ None ∷ []) lines))

    -- the lines of rules
    pub rules_are : (rules : List SyncRule) (before : List Numbered) (n : ℕ) → RulesSmall before rules → ports_among (cells_from n (written_parts m before rules)) ≡ rule_accesses name (line_number m before name) rules
    rules_are [] before n small = refl
    rules_are (r ∷ rules) before n small =
        let here : List Part = lines_parts m r.event [] before r.writes in
        let later : List Numbered = numbered_lines m before r.writes in
        let accesses : List Access = line_accesses name r.event (line_number m before name) [] r.writes in
        ap ports_among (cells_both n here (written_parts m later rules))
        ∙ ports_both (cells_from n here) (cells_from (n + length here) (written_parts m later rules))
        ∙ (λ i. lines_are r.event [] before r.writes n small.0 i ++ rules_are rules later (n + length here) small.1 i)
        ∙ (λ i. accesses ++ rule_accesses name (numbers_after r.event r.writes before [] i) rules)

    -- lines are numbered one after another
    lines_from : (event : Event) (n : ℕ) (ports : List (Option ℕ)) (lines : List WriteLine) (more : List Access) → AreFrom (n + length (line_accesses name event n ports lines)) more → AreFrom n (line_accesses name event n ports lines ++ more)
    lines_from event n ports [] more h = let same : n + 0 ≡ n = omega arith in subst (λ k. AreFrom k more) same h
    lines_from event n ports (line ∷ lines) more h =
        by (bytes_eq name line.memory) (λ k q. lines_from event k q lines more) h
      where
        by : (t : Bool) → ((k : ℕ) (q : List (Option ℕ)) → AreFrom (k + length (line_accesses name event k q lines)) more → AreFrom k (line_accesses name event k q lines ++ more))
            → AreFrom (n + length (if t then line_access event n ports line ∷ line_accesses name event (n + 1) (ports ++ Some n ∷ []) lines else line_accesses name event n (ports ++ None ∷ []) lines)) more
            → AreFrom n ((if t then line_access event n ports line ∷ line_accesses name event (n + 1) (ports ++ Some n ∷ []) lines else line_accesses name event n (ports ++ None ∷ []) lines) ++ more)
        by true f g =
            let far : n + length (line_access event n ports line ∷ line_accesses name event (n + 1) (ports ++ Some n ∷ []) lines) ≡ (n + 1) + length (line_accesses name event (n + 1) (ports ++ Some n ∷ []) lines) = omega arith in
            (refl, f (n + 1) (ports ++ Some n ∷ []) (subst (λ k. AreFrom k more) far g))
        by false f g = f n (ports ++ None ∷ []) g

    pub rules_from : (n : ℕ) (rules : List SyncRule) → AreFrom n (rule_accesses name n rules)
    rules_from n [] = tt
    rules_from n (r ∷ rules) =
        let here : List Access = line_accesses name r.event n [] r.writes in
        lines_from r.event n [] r.writes (rule_accesses name (n + length here) rules) (rules_from (n + length here) rules)
