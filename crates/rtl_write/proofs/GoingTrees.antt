-- Reading goes over trees of decisions: assigns, switches and cases.
use Rattle.std.proofs.Common.{◌≡◌, ℕ, ◌+◌, ◌<◌, List, [], ◌∷◌, ◌++◌, length, map, append_assoc, append-nil, Some, Result, Ok, Err, Bool, refl, sym, ap, subst, ◌∙◌, arith}
use Rattle.std.specs.Prelude.{codes, if◌then◌else◌}
use Rattle.std.specs.List.{All, flat_map}
use Rattle.std.proofs.lemmas.Bool.{lt-leb}
use Rattle.std.proofs.lemmas.List.Elements.{All-head, All-tail}
use Rattle.rtl_lex.specs.declared.place.Place.{Place}
use Rattle.rtl_lex.specs.declared.sort.Sort.TheVariants as sorts
use Rattle.rtl_lex.specs.declared.token.TokenKind.TheVariants as kinds
use Rattle.rtl_lex.specs.Sorts.{word_sort, module_word, option_word, process_word, event_word, mark_sort}
use Rattle.rtl_sig.specs.Names.{AreDistinct}
use Rattle.rtl_sig.specs.declared.sig.SigBit.{SigBit}
use Rattle.rtl_ir.specs.declared.value.Attribute.{Attribute}
use Rattle.rtl_ir.specs.declared.wire.Wire.{Wire}
use Rattle.rtl_ir.specs.declared.module.Link.{Link}
use Rattle.rtl_ir.specs.declared.module.Module.{Module}
use Rattle.rtl_ir.specs.Tree.{Switches, Cases, NoSwitch, OneSwitch, NoCase, OneCase, CaseView, SwitchView, switches_of, cases_of}
use Rattle.rtl_grammar.specs.declared.expect.Expect.{Expect}
use Rattle.rtl_grammar.specs.declared.expect.Expect.TheVariants as expects
use Rattle.rtl_grammar.specs.Grammar.{after}
use Rattle.rtl_grammar.specs.Uses.{◌>>=◌}
use Rattle.rtl_read.specs.declared.draft.Draft.{Draft}
use Rattle.rtl_read.specs.declared.draft.PairKind.TheVariants.{Assign}
use Rattle.rtl_read.specs.declared.open_module.OpenModule.{OpenModule}
use Rattle.rtl_read.specs.declared.open_process.OpenProcess.{OpenProcess}
use Rattle.rtl_read.specs.declared.tree.OpenCase.{OpenCase}
use Rattle.rtl_read.specs.declared.tree.OpenSwitch.{OpenSwitch}
use Rattle.rtl_read.specs.declared.tree.OpenTree.{OpenTree}
use Rattle.rtl_ir.specs.declared.limits.TheConstants.{MAX_DEPTH}
use Rattle.rtl_read.specs.declared.read_fault.ReadFault.{ReadFault}
use Rattle.rtl_read.specs.declared.read_fault.ReadFault.TheVariants as faults
use Rattle.rtl_read.specs.declared.signal.OpenSignal.{OpenSignal}
use Rattle.rtl_read.specs.Signal.{some_bits}
use Rattle.rtl_read.specs.Meaning.Tree.{plain_case, case_of, enter_switch, close_switch, with_pattern, with_assign}
use Rattle.rtl_read.specs.Act.{act}
use Rattle.rtl_read.specs.Act.Process.{open_switch}
use Rattle.rtl_readable.specs.Readable.{IsWire, IsLink, IsSomeSignal, AreSwitches, AreCases}
use Rattle.rtl_write.proofs.Printed.{Printed, EndLine}
use Rattle.rtl_write.proofs.Lexing.{seen_at}
use Rattle.rtl_write.proofs.Going.{Goes, goes_none, goes_then, goes_on, goes_line, goes_each, goes_attributes, waiting, TakesAttributes, all_at, okay}
use Rattle.rtl_write.proofs.GoingSignals.{Begins, TakesSlices, IsOver, with_signal, goes_signal}
use Rattle.rtl_write.proofs.GoingCells.{begins_signal}
use Rattle.rtl_write.proofs.GoingPairs.{some_bits_are, goes_pair}
use Rattle.rtl_write.proofs.GoingWires.{at}
use Rattle.rtl_write.proofs.Tokens as tokens
use Rattle.rtl_write.proofs.Tokens.{word}

-- ---- switches and cases as lists

abbrev pub switch_list : Switches → List SwitchView
switch_list NoSwitch = []
switch_list (OneSwitch sig remarks inside rest) = record { signal = sig; cases = inside; attributes = remarks } ∷ switch_list rest

abbrev pub case_list : Cases → List CaseView
case_list NoCase = []
case_list (OneCase match assigns remarks inner rest) = record { patterns = match; assigns = assigns; switches = inner; attributes = remarks } ∷ case_list rest

pub switches_back : (s : Switches) → switches_of (switch_list s) ≡ s
switches_back NoSwitch = refl
switches_back (OneSwitch sig remarks inside rest) = ap (λ (x : Switches). OneSwitch sig remarks inside x) (switches_back rest)

cases_back : (s : Cases) → cases_of (case_list s) ≡ s
cases_back NoCase = refl
cases_back (OneCase match assigns remarks inner rest) = ap (λ (x : Cases). OneCase match assigns remarks inner x) (cases_back rest)

-- ---- trees

-- an open case, and the open switches round it
abbrev pub tree : OpenCase → List OpenSwitch → OpenTree
tree c outer = record { case = c; outer = outer; attributes = [] }

-- a draft whose open process has this tree
abbrev pub treed : Draft → OpenProcess → OpenTree → Draft
treed base p t = record base { process = record p { tree = t } }

-- where assigns may stand
pub record TakesAssign (role : Expect) : Type 0 where
  pub can : after role sorts.Assign ≡ Some (expects.Signal ∷ expects.BehindLeft ∷ role ∷ [])
  pub does : (d : Draft) (place : Place) → act role (seen_at kinds.Word (codes "assign") place) d ≡ Ok (record d { pair = Assign })

-- where switches may stand
pub record TakesSwitch (here next : Expect) (tail body : List Expect) : Type 0 where
  pub remarks : (d : Draft) → TakesAttributes here next tail d
  pub can_here : after here sorts.Switch ≡ Some (expects.Signal ∷ expects.BehindSwitch ∷ here ∷ [])
  pub can_next : after next sorts.Switch ≡ Some body
  pub stacked : (roles : List Expect) → body ++ (tail ++ roles) ≡ expects.Signal ∷ expects.BehindSwitch ∷ here ∷ roles
  pub does_here : (d : Draft) (place : Place) → act here (seen_at kinds.Word (codes "switch") place) d ≡ open_switch (seen_at kinds.Word (codes "switch") place) d
  pub does_next : (d : Draft) (place : Place) → act next (seen_at kinds.Word (codes "switch") place) d ≡ open_switch (seen_at kinds.Word (codes "switch") place) d

pub assign_in_process : TakesAssign expects.ProcessBody
unfolding word_sort module_word option_word process_word event_word
assign_in_process = record { can = refl; does = λ d place. refl }

assign_in_case : TakesAssign expects.CaseBody
unfolding word_sort module_word option_word process_word event_word
assign_in_case = record { can = refl; does = λ d place. refl }

pub switch_in_process : TakesSwitch expects.ProcessBody expects.NextSwitch (expects.ProcessBody ∷ []) (expects.Signal ∷ expects.BehindSwitch ∷ [])
unfolding word_sort module_word option_word process_word event_word
switch_in_process = record {
  remarks = λ d. record { first = refl; later = refl; keeps_first = λ remarks place. refl; keeps_later = λ remarks place. refl };
  can_here = refl;
  can_next = refl;
  stacked = λ roles. refl;
  does_here = λ d place. refl;
  does_next = λ d place. refl;
}

switch_in_case : TakesSwitch expects.CaseBody expects.NextInCase [] (expects.Signal ∷ expects.BehindSwitch ∷ expects.CaseBody ∷ [])
unfolding word_sort module_word option_word process_word event_word
switch_in_case = record {
  remarks = λ d. record { first = refl; later = refl; keeps_first = λ remarks place. refl; keeps_later = λ remarks place. refl };
  can_here = refl;
  can_next = refl;
  stacked = λ roles. refl;
  does_here = λ d place. refl;
  does_next = λ d place. refl;
}

slices_switch : TakesSlices expects.BehindSwitch
unfolding mark_sort
slices_switch = record { opens = refl; brackets = λ d place. refl }

slices_pattern : TakesSlices expects.BehindPattern
unfolding mark_sort
slices_pattern = record { opens = refl; brackets = λ d place. refl }

begins_pattern : (d : Draft) → Begins expects.Patterns (expects.BehindPattern ∷ []) d d
unfolding mark_sort
begins_pattern d = record { name = refl; value = refl; brace = refl; begins_name = λ text place. refl; begins_value = λ text place. refl; begins_brace = λ place. refl }

-- the tokens of a case, and what follows the cases
regroup : (a p l b c e : List Printed) (w : Printed) → (a ++ w ∷ (p ++ EndLine ∷ (l ++ (b ++ c)))) ++ e ≡ a ++ w ∷ (p ++ EndLine ∷ (l ++ (b ++ (c ++ e))))
regroup a p l b c e w =
    append_assoc a (w ∷ (p ++ EndLine ∷ (l ++ (b ++ c)))) e
    ∙ ap (λ (x : List Printed). a ++ w ∷ x) (append_assoc p (EndLine ∷ (l ++ (b ++ c))) e ∙ ap (λ (x : List Printed). p ++ EndLine ∷ x) (append_assoc l (b ++ c) e ∙ ap (λ (x : List Printed). l ++ x) (append_assoc b c e)))

module _ {wires : List Wire} (all : All IsWire wires) (distinct : AreDistinct (map (λ w. w.name) wires)) (modules : List Module) (names : List (List ℕ)) (current : OpenModule) (over : IsOver wires (at modules names current)) (p : OpenProcess) where
  -- the draft with this tree
  abbrev now : OpenTree → Draft
  now t = treed (at modules names current) p t

  over_now : (t : OpenTree) → IsOver wires (now t)
  over_now t = record { wires_are = over.wires_are; names_are = over.names_are }

  -- ---- assigns

  goes_assign : (n : ℕ) (role : Expect) (roles : List Expect) (t : OpenTree) (l : Link) → TakesAssign role → IsLink wires l → Goes (tokens.assign wires n l) (role ∷ roles) (now t) (role ∷ roles) (now (with_assign l t))
  unfolding word_sort module_word option_word process_word event_word
  goes_assign n role roles t l takes is =
      goes_on (expects.Signal ∷ expects.BehindLeft ∷ role ∷ []) (λ q. record (now t) { pair = Assign }) takes.can (λ q. takes.does (now t) q) (λ q.
      goes_pair all distinct l (now (with_assign l t)) (record { wires_are = over.wires_are; names_are = over.names_are }) refl is
      (λ left s e f. ap (λ (x : List SigBit). now (with_assign (record { left = x; right = s.part }) t)) e ∙ ap (λ (x : List SigBit). now (with_assign (record { left = l.left; right = x }) t)) f)
      goes_none)

  pub goes_assigns : (n : ℕ) (role : Expect) (roles : List Expect) (c : OpenCase) (outer : List OpenSwitch) (links : List Link) → TakesAssign role → All (IsLink wires) links → c.assigns ≡ []
      → Goes (flat_map (tokens.assign wires n) links) (role ∷ roles) (now (tree c outer)) (role ∷ roles) (now (tree (record c { assigns = links }) outer))
  goes_assigns n role roles c outer links takes each none =
      let state : List Link → Draft = λ (ls : List Link). now (tree (record c { assigns = ls }) outer) in
      subst (λ (ls : List Link). Goes (flat_map (tokens.assign wires n) links) (role ∷ roles) (state ls) (role ∷ roles) (state links)) (sym none)
      (goes_each (tokens.assign wires n) (role ∷ roles) state [] links (λ front l back e.
      goes_assign n role roles (tree (record c { assigns = front }) outer) l takes (all_at (IsLink wires) front l back links e each)))

  -- ---- patterns

  goes_more_patterns : {qs : List Printed} {stack back : List Expect} {e : Draft} (rest : List (List SigBit)) (c : OpenCase) (outer : List OpenSwitch) (first : List SigBit) (s : OpenSignal) → s.part ≡ first → 0 < length first → All (IsSomeSignal wires) rest
      → Goes qs (expects.CaseBody ∷ stack) (now (tree (record c { patterns = c.patterns ++ first ∷ rest }) outer)) back e
      → Goes (tokens.more_patterns wires rest ++ EndLine ∷ qs) (expects.BehindPattern ∷ stack) (with_signal s (now (tree c outer))) back e
  unfolding mark_sort
  goes_more_patterns [] c outer first s is some each more =
      let put : Result (List SigBit) ReadFault → Result Draft ReadFault = λ (r : Result (List SigBit) ReadFault). r >>= λ sig. okay (now (with_pattern sig (tree c outer))) in
      goes_line (expects.CaseBody ∷ []) (now (with_pattern first (tree c outer))) refl
      (λ text place. ap (λ (l : List SigBit). put (some_bits l (seen_at kinds.Line text place))) is ∙ ap put (some_bits_are first (seen_at kinds.Line text place) some)) more
  goes_more_patterns {qs = qs} {stack = stack} {back = back} {e = e} (pattern ∷ rest) c outer first s is some each more =
      let put : Result (List SigBit) ReadFault → Result Draft ReadFault = λ (r : Result (List SigBit) ReadFault). r >>= λ sig. okay (now (with_pattern sig (tree c outer))) in
      let next : OpenCase = record c { patterns = c.patterns ++ first ∷ [] } in
      let ok = All-head (IsSomeSignal wires) pattern rest each in
      let same : (c.patterns ++ first ∷ []) ++ pattern ∷ rest ≡ c.patterns ++ first ∷ pattern ∷ rest = append_assoc c.patterns (first ∷ []) (pattern ∷ rest) in
      goes_on (expects.Signal ∷ expects.BehindPattern ∷ []) (λ q. now (tree next outer)) refl
      (λ q. ap (λ (l : List SigBit). put (some_bits l (seen_at kinds.Mark (44 ∷ []) q))) is ∙ ap put (some_bits_are first (seen_at kinds.Mark (44 ∷ []) q) some)) (λ q.
      subst (λ (ps : List Printed). Goes ps (expects.Signal ∷ expects.BehindPattern ∷ stack) (now (tree next outer)) back e) (sym (append_assoc (tokens.signal wires pattern) (tokens.more_patterns wires rest) (EndLine ∷ qs)))
      (goes_signal all distinct pattern ok.signal refl (begins_signal (now (tree next outer))) slices_pattern (over_now (tree next outer)) refl (λ u part braces.
      goes_more_patterns rest next outer pattern u part ok.some (All-tail (IsSomeSignal wires) pattern rest each)
      (subst (λ (ps : List (List SigBit)). Goes qs (expects.CaseBody ∷ stack) (now (tree (record c { patterns = ps }) outer)) back e) (sym same) more))))

  goes_patterns : {qs : List Printed} {stack back : List Expect} {e : Draft} (patterns : List (List SigBit)) (remarks : List Attribute) (outer : List OpenSwitch) → All (IsSomeSignal wires) patterns
      → Goes qs (expects.CaseBody ∷ stack) (now (tree (record (plain_case remarks) { patterns = patterns }) outer)) back e
      → Goes (tokens.patterns wires patterns ++ EndLine ∷ qs) (expects.Patterns ∷ stack) (now (tree (plain_case remarks) outer)) back e
  goes_patterns [] remarks outer each more = goes_line (expects.CaseBody ∷ []) (now (tree (plain_case remarks) outer)) refl (λ text place. refl) more
  goes_patterns {qs = qs} {stack = stack} {back = back} {e = e} (pattern ∷ rest) remarks outer each more =
      let ok = All-head (IsSomeSignal wires) pattern rest each in
      let start = tree (plain_case remarks) outer in
      subst (λ (ps : List Printed). Goes ps (expects.Patterns ∷ stack) (now start) back e) (sym (append_assoc (tokens.signal wires pattern) (tokens.more_patterns wires rest) (EndLine ∷ qs)))
      (goes_signal all distinct pattern ok.signal refl (begins_pattern (now start)) slices_pattern (over_now start) refl (λ s part braces.
      goes_more_patterns rest (plain_case remarks) outer pattern s part ok.some (All-tail (IsSomeSignal wires) pattern rest each) more))

  -- ---- cases, between two of which a draft stands

  -- a draft between two cases of a switch: all that were read are closed by the next one, and by `end`
  record IsBetween (role next : Expect) (t : OpenTree) (sw : OpenSwitch) (outer : List OpenSwitch) (done : List CaseView) : Type 0 where
    remarks : TakesAttributes role next [] (now t)
    can_case : after role sorts.Case ≡ Some (expects.Patterns ∷ [])
    can_next : after next sorts.Case ≡ Some (expects.Patterns ∷ [])
    can_end : after role sorts.End ≡ Some (expects.EndOfLine ∷ [])
    does_case : (remarks : List Attribute) (place : Place) → act role (seen_at kinds.Word (codes "case") place) (waiting remarks (now t)) ≡ Ok (now (tree (plain_case remarks) (record sw { cases = done } ∷ outer)))
    does_next : (remarks : List Attribute) (place : Place) → act next (seen_at kinds.Word (codes "case") place) (waiting remarks (now t)) ≡ Ok (now (tree (plain_case remarks) (record sw { cases = done } ∷ outer)))
    does_end : (place : Place) → act role (seen_at kinds.Word (codes "end") place) (now t) ≡ Ok (now (close_switch (tree (plain_case []) (record sw { cases = done } ∷ outer))))

  -- before the first case
  first_case : (sw : OpenSwitch) (outer : List OpenSwitch) (done : List CaseView) → IsBetween expects.Cases expects.NextCase (tree (plain_case []) (record sw { cases = done } ∷ outer)) sw outer done
  unfolding word_sort module_word option_word process_word event_word
  first_case sw outer done = record {
    remarks = record { first = refl; later = refl; keeps_first = λ remarks place. refl; keeps_later = λ remarks place. refl };
    can_case = refl;
    can_next = refl;
    can_end = refl;
    does_case = λ remarks place. refl;
    does_next = λ remarks place. refl;
    does_end = λ place. refl;
  }

  -- behind a case
  behind_case : (c : OpenCase) (sw : OpenSwitch) (outer : List OpenSwitch) (done : List CaseView) → IsBetween expects.CaseBody expects.NextInCase (tree c (record sw { cases = done } ∷ outer)) sw outer (done ++ case_of c ∷ [])
  unfolding word_sort module_word option_word process_word event_word
  behind_case c sw outer done = record {
    remarks = record { first = refl; later = refl; keeps_first = λ remarks place. refl; keeps_later = λ remarks place. refl };
    can_case = refl;
    can_next = refl;
    can_end = refl;
    does_case = λ remarks place. refl;
    does_next = λ remarks place. refl;
    does_end = λ place. refl;
  }

  -- ---- switches

  -- the word `switch` behind attributes
  opens : (remarks : List Attribute) (c : OpenCase) (outer : List OpenSwitch) (place : Place) → length outer < MAX_DEPTH
      → open_switch (seen_at kinds.Word (codes "switch") place) (waiting remarks (now (tree c outer))) ≡ Ok (now (record (tree c outer) { attributes = remarks }))
  opens remarks c outer place lt =
      ap (λ (b : Bool). (if b then Err (faults.Limit place) else okay (record (tree c outer) { attributes = remarks })) >>= λ t. okay (now t)) (lt-leb MAX_DEPTH (length outer) lt)

  mutual
    unfolding word_sort module_word option_word process_word event_word

    pub goes_switches : (s : Switches) (n : ℕ) (here next : Expect) (tail body roles : List Expect) (c : OpenCase) (outer : List OpenSwitch) → TakesSwitch here next tail body → AreSwitches wires (length outer) s
        → Goes (tokens.switches wires n s) (here ∷ roles) (now (tree c outer)) (here ∷ roles) (now (tree (record c { switches = c.switches ++ switch_list s }) outer))
    goes_switches NoSwitch n here next tail body roles c outer takes are =
        subst (λ (l : List SwitchView). Goes [] (here ∷ roles) (now (tree c outer)) (here ∷ roles) (now (tree (record c { switches = l }) outer))) (sym (append-nil c.switches)) goes_none
    goes_switches (OneSwitch sig remarks inside rest) n here next tail body roles c outer takes are =
        let sw : OpenSwitch = record { case = c; signal = sig; cases = []; attributes = remarks } in
        let with_cases : Cases → OpenCase = λ (x : Cases). record c { switches = c.switches ++ record { signal = sig; cases = x; attributes = remarks } ∷ [] } in
        let begun : OpenTree = record (tree c outer) { attributes = remarks } in
        let last = now (tree (record c { switches = c.switches ++ record { signal = sig; cases = inside; attributes = remarks } ∷ switch_list rest }) outer) in
        let back : List Expect = here ∷ roles in
        let others = tokens.switches wires n rest in
        let end = tokens.cases wires (n + 2) inside ++ word n (codes "end") ∷ EndLine ∷ others in
        let put : Result (List SigBit) ReadFault → Result Draft ReadFault = λ (r : Result (List SigBit) ReadFault). r >>= λ x. okay (now (enter_switch x begun)) in
        let rest_goes : Goes others back (now (tree (with_cases inside) outer)) back last = subst (λ (l : List SwitchView). Goes others back (now (tree (with_cases inside) outer)) back (now (tree (record c { switches = l }) outer)))
        (append_assoc c.switches (record { signal = sig; cases = inside; attributes = remarks } ∷ []) (switch_list rest)) (goes_switches rest n here next tail body roles (with_cases inside) outer takes are.4) in
        let cases_go : Goes end (expects.Cases ∷ back) (now (tree (plain_case []) (sw ∷ outer))) back last = goes_cases inside (n + 2) n expects.Cases expects.NextCase (tree (plain_case []) (sw ∷ outer)) sw outer [] (first_case sw outer []) are.3
        (subst (λ (x : Cases). Goes others back (now (tree (with_cases x) outer)) back last) (sym (cases_back inside)) rest_goes) in
        let head : Goes (tokens.signal wires sig ++ EndLine ∷ end) (expects.Signal ∷ expects.BehindSwitch ∷ back) (now begun) back last = goes_signal all distinct sig are.1.signal refl (begins_signal (now begun)) slices_switch (over_now begun) refl (λ s part braces.
        goes_line (expects.Cases ∷ []) (now (tree (plain_case []) (sw ∷ outer))) refl
        (λ text place. ap (λ (l : List SigBit). put (some_bits l (seen_at kinds.Line text place))) part ∙ ap put (some_bits_are sig (seen_at kinds.Line text place) are.1.some)) cases_go) in
        goes_attributes n remarks here next tail roles (now (tree c outer)) are.2 (takes.remarks (now (tree c outer)))
        (goes_on (expects.Signal ∷ expects.BehindSwitch ∷ here ∷ []) (λ q. now begun) takes.can_here (λ q. takes.does_here (waiting remarks (now (tree c outer))) q ∙ opens remarks c outer q are.0) (λ q. head))
        (goes_on body (λ q. now begun) takes.can_next (λ q. takes.does_next (waiting remarks (now (tree c outer))) q ∙ opens remarks c outer q are.0)
        (λ q. subst (λ (rs : List Expect). Goes (tokens.signal wires sig ++ EndLine ∷ end) rs (now begun) back last) (sym (takes.stacked roles)) head))

    goes_cases : {qs : List Printed} {roles back : List Expect} {e : Draft} (s : Cases) (n m : ℕ) (role next : Expect) (t : OpenTree) (sw : OpenSwitch) (outer : List OpenSwitch) (done : List CaseView)
        → IsBetween role next t sw outer done → AreCases wires (length outer + 1) s
        → Goes qs roles (now (close_switch (tree (plain_case []) (record sw { cases = done ++ case_list s } ∷ outer)))) back e
        → Goes (tokens.cases wires n s ++ word m (codes "end") ∷ EndLine ∷ qs) (role ∷ roles) (now t) back e
    goes_cases {qs = qs} {roles = roles} {back = back} {e = e} NoCase n m role next t sw outer done between are more =
        let last : List CaseView → Draft = λ (l : List CaseView). now (close_switch (tree (plain_case []) (record sw { cases = l } ∷ outer))) in
        goes_on (expects.EndOfLine ∷ []) (λ q. last done) between.can_end between.does_end (λ q.
        goes_line [] (last done) refl (λ text place. refl) (subst (λ (l : List CaseView). Goes qs roles (last l) back e) (append-nil done) more))
    goes_cases {qs = qs} {roles = roles} {back = back} {e = e} (OneCase match assigns remarks inner rest) n m role next t sw outer done between are more =
        let lines = flat_map (tokens.assign wires (n + 2)) assigns in
        let under = tokens.switches wires (n + 2) inner in
        let others = tokens.cases wires n rest in
        let end = word m (codes "end") ∷ EndLine ∷ qs in
        let ready = now (tree (plain_case remarks) (record sw { cases = done } ∷ outer)) in
        let c1 : OpenCase = record (plain_case remarks) { patterns = match } in
        let c2 : OpenCase = record c1 { assigns = assigns } in
        let c3 : OpenCase = record c2 { switches = switch_list inner } in
        let round : List OpenSwitch = record sw { cases = done } ∷ outer in
        let deep : length outer + 1 ≡ length round = omega arith in
        let view : Switches → CaseView = λ (x : Switches). record { patterns = match; assigns = assigns; switches = x; attributes = remarks } in
        let same : done ++ view inner ∷ case_list rest ≡ (done ++ case_of c3 ∷ []) ++ case_list rest = ap (λ (x : Switches). done ++ view x ∷ case_list rest) (sym (switches_back inner)) ∙ sym (append_assoc done (case_of c3 ∷ []) (case_list rest)) in
        let last : List CaseView → Draft = λ (l : List CaseView). now (close_switch (tree (plain_case []) (record sw { cases = l } ∷ outer))) in
        let rest_goes : Goes (others ++ end) (expects.CaseBody ∷ roles) (now (tree c3 round)) back e = goes_cases rest n m expects.CaseBody expects.NextInCase (tree c3 round) sw outer (done ++ case_of c3 ∷ []) (behind_case c3 sw outer done) are.4
        (subst (λ (l : List CaseView). Goes qs roles (last l) back e) same more) in
        let switches_go : Goes under (expects.CaseBody ∷ roles) (now (tree c2 round)) (expects.CaseBody ∷ roles) (now (tree c3 round)) =
        goes_switches inner (n + 2) expects.CaseBody expects.NextInCase [] (expects.Signal ∷ expects.BehindSwitch ∷ expects.CaseBody ∷ []) roles c2 round switch_in_case (subst (λ (k : ℕ). AreSwitches wires k inner) deep are.3) in
        let assigns_go : Goes lines (expects.CaseBody ∷ roles) (now (tree c1 round)) (expects.CaseBody ∷ roles) (now (tree c2 round)) = goes_assigns (n + 2) expects.CaseBody roles c1 round assigns assign_in_case are.1 refl in
        let head : Goes (tokens.patterns wires match ++ EndLine ∷ (lines ++ (under ++ (others ++ end)))) (expects.Patterns ∷ roles) ready back e = goes_patterns match remarks round are.0 (goes_then lines (under ++ (others ++ end)) assigns_go (goes_then under (others ++ end) switches_go rest_goes)) in
        subst (λ (ps : List Printed). Goes ps (role ∷ roles) (now t) back e) (sym (regroup (tokens.attributes n remarks) (tokens.patterns wires match) lines under others end (word n (codes "case"))))
        (goes_attributes n remarks role next [] roles (now t) are.2 between.remarks
        (goes_on (expects.Patterns ∷ []) (λ q. ready) between.can_case (λ q. between.does_case remarks q) (λ q. head))
        (goes_on (expects.Patterns ∷ []) (λ q. ready) between.can_next (λ q. between.does_next remarks q) (λ q. head)))
