-- Lines of processes as write ports, one by one.
use Rattle.std.proofs.Common.{◌≡◌, ℕ, ◌+◌, ◌<◌, Bool, true, false, List, [], ◌∷◌, ◌++◌, length, drop, get_or, map, Option, Some, None, add-one, refl, sym, ◌∙◌, ap, arith, append_assoc, length-append}
use Rattle.std.specs.Prelude.{if◌then◌else◌}
use Rattle.std.specs.Option.{option_or}
use Rattle.std.specs.Str.{bytes_eq}
use Rattle.std.proofs.Math.Seq.{drop-cons}
use Rattle.std.proofs.lemmas.List.{map-append, length-map}
use Rattle.rtl_ir.specs.declared.plan.WritePort.{WritePort as PlanWrite}
use Rattle.rtl_ir.specs.declared.process.Event.{Event}
use Rattle.rtl_ir.specs.declared.process.Process.{Process}
use Rattle.rtl_ir.specs.declared.process.SyncRule.{SyncRule}
use Rattle.rtl_ir.specs.declared.process.WriteLine.{WriteLine}
use Rattle.rtl_ir.specs.Flat.Access.{Access, line_access, line_accesses, rule_accesses}
use Rattle.net_model.specs.Mem.Gather.{write_port}
use Rattle.flat_net.specs.Accesses.{event_of, have_line, rules_of}

-- what is left of a list, item by item
pub left_of : {A : Type 0} (xs : List A) (i : ℕ) (x : A) → i < length xs → x ≡ get_or xs i x → drop i xs ≡ x ∷ drop (i + 1) xs
left_of xs i x h is = drop-cons xs i x h ∙ (λ j. sym is j ∷ drop (sym (add-one i) j) xs)

-- ports so far, and those of what is left
pub accesses_go : (ports next : List PlanWrite) (n : ℕ) (here : List Access) (rest : ℕ → List Access) (total : List PlanWrite) → total ≡ ports ++ map write_port (here ++ rest ((n + length ports) + length here)) → next ≡ ports ++ map write_port here
    → total ≡ next ++ map write_port (rest (n + length next))
accesses_go ports next n here rest total so made =
    let long : length next ≡ length ports + length here = ap length made ∙ length-append ports (map write_port here) ∙ ap (λ k. length ports + k) (length-map here write_port) in
    let at : (n + length ports) + length here ≡ n + length next = omega arith in
    so
    ∙ ap (λ ws. ports ++ ws) (map-append write_port here (rest ((n + length ports) + length here)))
    ∙ sym (append_assoc ports (map write_port here) (map write_port (rest ((n + length ports) + length here))))
    ∙ (λ i. sym made i ++ map write_port (rest (at i)))

-- the numbers go on behind rules
pub rules-append : (name : List ℕ) (n : ℕ) (xs ys : List SyncRule) → rule_accesses name n (xs ++ ys) ≡ rule_accesses name n xs ++ rule_accesses name (n + length (rule_accesses name n xs)) ys
rules-append name n [] ys = let e : n ≡ n + 0 = omega arith in ap (λ k. rule_accesses name k ys) e
rules-append name n (x ∷ xs) ys =
    let here = line_accesses name x.event n [] x.writes in
    let rest = rule_accesses name (n + length here) xs in
    let e : (n + length here) + length rest ≡ n + length (here ++ rest) = rw length-append (omega arith) in
    ap (λ xs. here ++ xs) (rules-append name (n + length here) xs ys ∙ ap (λ k. rest ++ rule_accesses name k ys) e)
    ∙ sym (append_assoc here rest (rule_accesses name (n + length (here ++ rest)) ys))

-- the event of the first of more rules
pub event-append : (name : List ℕ) (xs ys : List SyncRule) → event_of name (xs ++ ys) ≡ option_or (event_of name xs) (event_of name ys)
event-append name [] ys = refl
event-append name (x ∷ xs) ys = by (have_line name x.writes) (event-append name xs ys)
  where
    by : (t : Bool) → event_of name (xs ++ ys) ≡ option_or (event_of name xs) (event_of name ys) → (if t then Some x.event else event_of name (xs ++ ys)) ≡ option_or (if t then Some x.event else event_of name xs) (event_of name ys)
    by true e = refl
    by false e = e

-- a line that writes the memory
pub line_written : (name : List ℕ) (event : Event) (number at : ℕ) (before next : List (Option ℕ)) (line : WriteLine) (rest : List WriteLine) (old new : List PlanWrite) (port : PlanWrite) → bytes_eq name line.memory ≡ true → at ≡ number + length old
    → port ≡ write_port (line_access event at before line) → new ≡ old ++ port ∷ [] → next ≡ before ++ Some at ∷ []
    → old ++ map write_port (line_accesses name event (number + length old) before (line ∷ rest)) ≡ new ++ map write_port (line_accesses name event (number + length new) next rest)
line_written name event number at before next line rest old new port e place made put more =
    let long : length new ≡ length old + 1 = ap length put ∙ length-append old (port ∷ []) in
    let behind : (number + length old) + 1 ≡ number + length new = omega arith in
    let all : List (Option ℕ) → ℕ → List PlanWrite = λ os n. map write_port (line_accesses name event n os rest) in
    rw e (
    ap (λ n. old ++ (write_port (line_access event n before line) ∷ all (before ++ Some n ∷ []) ((number + length old) + 1))) (sym place)
    ∙ (λ i. old ++ (sym made i ∷ all (sym more i) (behind i)))
    ∙ sym (append_assoc old (port ∷ []) (all next (number + length new)))
    ∙ ap (λ ps. ps ++ all next (number + length new)) (sym put))

-- a line that writes another memory
pub line_passed : (name : List ℕ) (event : Event) (number : ℕ) (before next : List (Option ℕ)) (line : WriteLine) (rest : List WriteLine) (old : List PlanWrite) → bytes_eq name line.memory ≡ false → next ≡ before ++ None ∷ []
    → old ++ map write_port (line_accesses name event (number + length old) before (line ∷ rest)) ≡ old ++ map write_port (line_accesses name event (number + length old) next rest)
line_passed name event number before next line rest old e more =
    rw e (ap (λ os. old ++ map write_port (line_accesses name event (number + length old) os rest)) (sym more))

-- the event of one process more
pub event_next : (name : List ℕ) (processes : List Process) (i : ℕ) (p : Process) (o total : Option Event) → i < length processes → p ≡ get_or processes i p → o ≡ event_of name p.syncs → total ≡ event_of name (rules_of (drop i processes))
    → total ≡ option_or o (event_of name (rules_of (drop (i + 1) processes)))
event_next name processes i p o total h is here so =
    let rest = rules_of (drop (i + 1) processes) in
    so
    ∙ ap (λ qs. event_of name (rules_of qs)) (left_of processes i p h is)
    ∙ event-append name p.syncs rest
    ∙ ap (λ e. option_or e (event_of name rest)) (sym here)
