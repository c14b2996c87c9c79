-- The lines of a case or a process leave the assigns and switches that are written.
use Rattle.std.proofs.Common.{◌≡◌, refl, sym, ◌∙◌, ap, subst, suc, ◌<◌, true, Bool, List, [], ◌∷◌, ◌++◌, length, Ok, Err, append_assoc, append-nil}
use Rattle.std.specs.Prelude.{if◌then◌else◌}
use Rattle.std.proofs.lemmas.Bool.{lt-leb}
use Rattle.rtl_lex.specs.declared.sort.Sort.{Sort}
use Rattle.rtl_lex.specs.declared.sort.Sort.TheVariants as sorts
use Rattle.rtl_lex.specs.Items.{Seen}
use Rattle.rtl_sig.specs.declared.sig.SigBit.{SigBit}
use Rattle.rtl_ir.specs.Tree.{CaseView, SwitchView, Switches, Cases, cases_of}
use Rattle.rtl_ir.specs.declared.limits.TheConstants.{MAX_DEPTH}
use Rattle.rtl_ir.specs.declared.module.Link.{Link}
use Rattle.rtl_ir.specs.declared.value.Attribute.{Attribute}
use Rattle.rtl_grammar.specs.declared.expect.Expect.{Expect}
use Rattle.rtl_grammar.specs.declared.expect.Expect.TheVariants as expects
use Rattle.rtl_grammar.specs.Uses.{Use, run, ◌>>=◌}
use Rattle.rtl_read.specs.declared.draft.Draft.{Draft}
use Rattle.rtl_read.specs.declared.draft.PairKind.TheVariants.{Assign}
use Rattle.rtl_read.specs.declared.read_fault.ReadFault.TheVariants as faults
use Rattle.rtl_read.specs.declared.signal.OpenSignal.{OpenSignal}
use Rattle.rtl_read.specs.declared.tree.OpenCase.{OpenCase}
use Rattle.rtl_read.specs.declared.tree.OpenSwitch.{OpenSwitch}
use Rattle.rtl_read.specs.declared.tree.OpenTree.{OpenTree}
use Rattle.rtl_read.specs.Act.{act}
use Rattle.rtl_read.specs.Act.Signal.{without_signal}
use Rattle.rtl_read.specs.Act.Process.{with_tree, open_switch, act_process_body, act_next_switch}
use Rattle.rtl_read.specs.Act.Switch.{act_behind_switch, act_next_case, act_cases, act_patterns, act_behind_pattern, act_next_in_case, act_case_body}
use Rattle.rtl_read.specs.Signal.{some_bits}
use Rattle.rtl_read.specs.Meaning.Attribute.{no_attributes}
use Rattle.rtl_read.specs.Meaning.Tree.{plain_case, case_of, switch_of, enter_switch, open_case, close_switch, with_pattern}
use Rattle.read_laws.specs.SignalBits.{places_of, placed}
use Rattle.read_laws.specs.Lines.{AttributeLine, attribute_places, place_behind, pair_places}
use Rattle.read_laws.specs.Trees.{SwitchLine, NextPattern, Patterns, NoPattern, SomePatterns, CaseLine, BodyLines, NoLine, AnAssign, ASwitch, CaseLines, NoCaseLine, ACase, GivesSwitch, GiveMore, GivePatterns, GivesCase, GivesBody, GivesCases, switch_places, more_places, pattern_places, head_places, body_places, case_places, may_hold, in_case, with_body}
use Rattle.read_laws.proofs.SignalBits.{bind_on, then_runs}
use Rattle.read_laws.proofs.Lines.{fine, one_step, signal_step, Stays, attributes_run, pair_run}
use Rattle.read_laws.proofs.Rules.{some_ok}

-- ---- what words do

-- lines of a case or a process may stand here
record IsBody (place next : Expect) : Type 0 where
  stays : Stays place
  stays_next : Stays next
  assigns : (i : Seen) (x : Draft) → i.sort ≡ sorts.Assign → act place i x ≡ Ok (record x { pair = Assign })
  opens : (i : Seen) (x : Draft) → i.sort ≡ sorts.Switch → act place i x ≡ open_switch i x
  opens_next : (i : Seen) (x : Draft) → i.sort ≡ sorts.Switch → act next i x ≡ open_switch i x

case_body : IsBody expects.CaseBody expects.NextInCase
case_body = record {
  stays = λ i x e. ap (λ (sort : Sort). act_case_body sort i x) e;
  stays_next = λ i x e. ap (λ (sort : Sort). act_next_in_case sort i x) e;
  assigns = λ i x e. ap (λ (sort : Sort). act_case_body sort i x) e;
  opens = λ i x e. ap (λ (sort : Sort). act_case_body sort i x) e;
  opens_next = λ i x e. ap (λ (sort : Sort). act_next_in_case sort i x) e;
}

process_body : IsBody expects.ProcessBody expects.NextSwitch
process_body = record {
  stays = λ i x e. ap (λ (sort : Sort). act_process_body sort i x) e;
  stays_next = λ i x e. ap (λ (sort : Sort). act_next_switch sort i x) e;
  assigns = λ i x e. ap (λ (sort : Sort). act_process_body sort i x) e;
  opens = λ i x e. ap (λ (sort : Sort). act_process_body sort i x) e;
  opens_next = λ i x e. ap (λ (sort : Sort). act_next_switch sort i x) e;
}

opens_behind : (place next : Expect) (lines : List AttributeLine) (i : Seen) (x : Draft) → IsBody place next → i.sort ≡ sorts.Switch → act (place_behind place next lines) i x ≡ open_switch i x
opens_behind place next [] i x b e = b.opens i x e
opens_behind place next (a ∷ lines) i x b e = b.opens_next i x e

abbrev tree : OpenCase → List OpenSwitch → List Attribute → OpenTree
tree c outer attributes = record { case = c; outer = outer; attributes = attributes }

-- here the word `case` or `end` may stand, with this tree, which is then that one, without an open case
record Turns (first next : Expect) (t u : OpenTree) : Type 0 where
  stays : Stays first
  stays_next : Stays next
  begins : (i : Seen) (d : Draft) → i.sort ≡ sorts.Case → act first i (with_tree t d) ≡ Ok (with_tree (open_case d.attributes.items u) (record d { attributes = no_attributes }))
  begins_next : (i : Seen) (d : Draft) → i.sort ≡ sorts.Case → act next i (with_tree t d) ≡ Ok (with_tree (open_case d.attributes.items u) (record d { attributes = no_attributes }))
  ends : (i : Seen) (d : Draft) → i.sort ≡ sorts.End → act first i (with_tree t d) ≡ Ok (with_tree (close_switch u) d)

first_case : (t : OpenTree) → Turns expects.Cases expects.NextCase t t
first_case t = record {
  stays = λ i x e. ap (λ (sort : Sort). fine (act_cases sort x)) e;
  stays_next = λ i x e. ap (λ (sort : Sort). fine (act_next_case sort x)) e;
  begins = λ i d e. ap (λ (sort : Sort). fine (act_cases sort (with_tree t d))) e;
  begins_next = λ i d e. ap (λ (sort : Sort). fine (act_next_case sort (with_tree t d))) e;
  ends = λ i d e. ap (λ (sort : Sort). fine (act_cases sort (with_tree t d))) e;
}

abbrev with_case : CaseView → OpenSwitch → OpenSwitch
with_case c s = record s { cases = s.cases ++ c ∷ [] }

next_case : (c : OpenCase) (s : OpenSwitch) (outer : List OpenSwitch) → Turns expects.CaseBody expects.NextInCase (tree c (s ∷ outer) []) (tree (plain_case []) (with_case (case_of c) s ∷ outer) [])
next_case c s outer = record {
  stays = λ i x e. ap (λ (sort : Sort). act_case_body sort i x) e;
  stays_next = λ i x e. ap (λ (sort : Sort). act_next_in_case sort i x) e;
  begins = λ i d e. ap (λ (sort : Sort). act_case_body sort i (with_tree (tree c (s ∷ outer) []) d)) e;
  begins_next = λ i d e. ap (λ (sort : Sort). act_next_in_case sort i (with_tree (tree c (s ∷ outer) []) d)) e;
  ends = λ i d e. ap (λ (sort : Sort). act_case_body sort i (with_tree (tree c (s ∷ outer) []) d)) e;
}

begins_behind : (first next : Expect) (lines : List AttributeLine) (t u : OpenTree) (i : Seen) (d : Draft) → Turns first next t u → i.sort ≡ sorts.Case → act (place_behind first next lines) i (with_tree t d) ≡ Ok (with_tree (open_case d.attributes.items u) (record d { attributes = no_attributes }))
begins_behind first next [] t u i d turns e = turns.begins i d e
begins_behind first next (a ∷ lines) t u i d turns e = turns.begins_next i d e

-- ---- the first line of a switch

opens_deeper : (i : Seen) (d : Draft) → length d.process.tree.outer < MAX_DEPTH → open_switch i d ≡ Ok (with_tree (record d.process.tree { attributes = d.attributes.items }) (record d { attributes = no_attributes }))
opens_deeper i d lt =
    ap (λ (b : Bool). (if b then Err (faults.Limit i.place) else Ok (record d.process.tree { attributes = d.attributes.items })) >>= λ (t : OpenTree). fine (with_tree t (record d { attributes = no_attributes })))
    (lt-leb MAX_DEPTH (length d.process.tree.outer) lt)

abbrev switch_in : OpenCase → List SigBit → List Attribute → OpenSwitch
switch_in c signal attributes = record { case = c; signal = signal; cases = []; attributes = attributes }

switch_run : (place next : Expect) (s : SwitchLine) (signal : List SigBit) (attributes : List Attribute) (c : OpenCase) (outer : List OpenSwitch) (d : Draft) → IsBody place next → GivesSwitch d.current.body.wires d.current.wire_names s signal attributes → length outer < MAX_DEPTH → run act (in_case c outer d) (switch_places place next s) ≡ Ok (in_case (plain_case []) (switch_in c signal attributes ∷ outer) d)
switch_run place next s signal attributes c outer d b g lt =
    let x0 : Draft = in_case c outer d in
    let x1 : Draft = record x0 { attributes = g.all } in
    let x2 : Draft = with_tree (tree c outer g.all.items) x0 in
    let end : Draft = in_case (plain_case []) (switch_in c signal attributes ∷ outer) d in
    let tail : List Use = placed expects.BehindSwitch s.line ∷ [] in
    let rest : List Use = places_of expects.Signal expects.BehindSwitch s.signal ++ tail in
    let word : Expect = place_behind place next s.attributes in
    then_runs act (attribute_places place next s.attributes) (placed word s.word ∷ rest) x0 x1 end
    (attributes_run place next s.attributes x0 no_attributes g.all b.stays b.stays_next g.lines g.have)
    (one_step word s.word rest x1 x2 end (opens_behind place next s.attributes s.word x1 b g.word ∙ opens_deeper s.word x1 lt)
    (signal_step s.signal signal expects.Signal expects.BehindSwitch x2 x2 end tail refl refl g.written g.bits refl
    (λ (t : OpenSignal) (e : t.part ≡ signal).
    let y : Draft = record x2 { signal = t } in
    let many : 0 < length t.part = subst (λ (b : List SigBit). 0 < length b) (sym e) g.some in
    bind_on (act expects.BehindSwitch s.line y) (with_tree (enter_switch t.part y.process.tree) x2) fine
    (ap (λ (sort : Sort). act_behind_switch sort s.line y) g.line ∙ bind_on (some_bits t.part s.line) t.part (λ (b : List SigBit). fine (with_tree (enter_switch b y.process.tree) (without_signal y))) (some_ok t.part s.line many))
    ∙ ap (λ (b : List SigBit). fine (in_case (plain_case []) (switch_in c b g.all.items ∷ outer) d)) e
    ∙ ap (λ (a : List Attribute). fine (in_case (plain_case []) (switch_in c signal a ∷ outer) d)) (sym g.are))))

-- ---- the first line of a case

abbrev with_patterns : List (List SigBit) → OpenCase → OpenCase
with_patterns patterns c = record c { patterns = patterns }

-- behind a pattern it is taken, by a comma or the end of the line
pattern_taken : (i : Seen) (c : OpenCase) (outer : List OpenSwitch) (d : Draft) (s : OpenSignal) (bits : List SigBit) → act_behind_pattern i.sort i (record (in_case c outer d) { signal = s }) ≡ (some_bits s.part i >>= λ sig. Ok (with_tree (with_pattern sig (tree c outer [])) (in_case c outer d))) → s.part ≡ bits → 0 < length bits → act expects.BehindPattern i (record (in_case c outer d) { signal = s }) ≡ Ok (in_case (with_patterns (c.patterns ++ bits ∷ []) c) outer d)
pattern_taken i c outer d s bits acts e some =
    acts
    ∙ ap (λ (b : List SigBit). some_bits b i >>= λ (sig : List SigBit). fine (with_tree (with_pattern sig (tree c outer [])) (in_case c outer d))) e
    ∙ bind_on (some_bits bits i) bits (λ (sig : List SigBit). fine (with_tree (with_pattern sig (tree c outer [])) (in_case c outer d))) (some_ok bits i some)

more_run : (more : List NextPattern) (line : Seen) (rest : List (List SigBit)) (bits : List SigBit) (c : OpenCase) (outer : List OpenSwitch) (d : Draft) (s : OpenSignal) → line.sort ≡ sorts.Line → s.part ≡ bits → 0 < length bits → GiveMore d.current.body.wires d.current.wire_names more rest → run act (record (in_case c outer d) { signal = s }) (more_places more line) ≡ Ok (in_case (with_patterns (c.patterns ++ bits ∷ rest) c) outer d)
more_run [] line rest bits c outer d s l e some g =
    let y : Draft = record (in_case c outer d) { signal = s } in
    bind_on (act expects.BehindPattern line y) (in_case (with_patterns (c.patterns ++ bits ∷ []) c) outer d) fine
    (pattern_taken line c outer d s bits (ap (λ (sort : Sort). act_behind_pattern sort line y) l ∙ ap (λ (sort : Sort). some_bits s.part line >>= λ (sig : List SigBit). fine (with_tree (with_pattern sig (tree c outer [])) (in_case c outer d))) l) e some)
    ∙ ap (λ (r : List (List SigBit)). fine (in_case (with_patterns (c.patterns ++ bits ∷ r) c) outer d)) (sym g)
more_run (n ∷ more) line rest bits c outer d s l e some (comma, (next, others, gives, give, is)) =
    let y : Draft = record (in_case c outer d) { signal = s } in
    let c' : OpenCase = with_patterns (c.patterns ++ bits ∷ []) c in
    let end : Draft = in_case (with_patterns (c.patterns ++ bits ∷ rest) c) outer d in
    let shape : (c.patterns ++ bits ∷ []) ++ next ∷ others ≡ c.patterns ++ bits ∷ rest = append_assoc c.patterns (bits ∷ []) (next ∷ others) ∙ ap (λ (r : List (List SigBit)). c.patterns ++ bits ∷ r) (sym is) in
    one_step expects.BehindPattern n.comma (places_of expects.Signal expects.BehindPattern n.pattern ++ more_places more line) y (in_case c' outer d) end
    (pattern_taken n.comma c outer d s bits (ap (λ (sort : Sort). act_behind_pattern sort n.comma y) comma) e some)
    (signal_step n.pattern next expects.Signal expects.BehindPattern (in_case c' outer d) (in_case c' outer d) end (more_places more line) refl refl gives.0 gives.1 refl
    (λ (t : OpenSignal) (e' : t.part ≡ next).
    more_run more line others next c' outer d t l e' gives.2 give
    ∙ ap (λ (p : List (List SigBit)). fine (in_case (with_patterns p c) outer d)) shape))

patterns_run : (p : Patterns) (line : Seen) (patterns : List (List SigBit)) (attributes : List Attribute) (outer : List OpenSwitch) (d : Draft) → line.sort ≡ sorts.Line → GivePatterns d.current.body.wires d.current.wire_names p patterns → run act (in_case (plain_case attributes) outer d) (pattern_places p line) ≡ Ok (in_case (with_patterns patterns (plain_case attributes)) outer d)
patterns_run NoPattern line patterns attributes outer d l g =
    let x : Draft = in_case (plain_case attributes) outer d in
    bind_on (act expects.Patterns line x) x fine (ap (λ (sort : Sort). act_patterns sort line x) l)
    ∙ ap (λ (p : List (List SigBit)). fine (in_case (with_patterns p (plain_case attributes)) outer d)) (sym g)
patterns_run (SomePatterns p more) line patterns attributes outer d l (bits, rest, gives, give, is) =
    let x : Draft = in_case (plain_case attributes) outer d in
    signal_step p bits expects.Patterns expects.BehindPattern x x (in_case (with_patterns patterns (plain_case attributes)) outer d) (more_places more line) refl refl gives.0 gives.1 refl
    (λ (s : OpenSignal) (e : s.part ≡ bits).
    more_run more line rest bits (plain_case attributes) outer d s l e gives.2 give
    ∙ ap (λ (p : List (List SigBit)). fine (in_case (with_patterns p (plain_case attributes)) outer d)) (sym is))

case_run : (first next : Expect) (c : CaseLine) (patterns : List (List SigBit)) (attributes : List Attribute) (before : OpenCase) (around outer : List OpenSwitch) (d : Draft) → Turns first next (tree before around []) (tree (plain_case []) outer []) → GivesCase d.current.body.wires d.current.wire_names c patterns attributes → run act (in_case before around d) (head_places first next c) ≡ Ok (in_case (with_patterns patterns (plain_case attributes)) outer d)
case_run first next c patterns attributes before around outer d turns g =
    let x0 : Draft = in_case before around d in
    let x1 : Draft = record x0 { attributes = g.all } in
    let x2 : Draft = in_case (plain_case g.all.items) outer d in
    let end : Draft = in_case (with_patterns patterns (plain_case attributes)) outer d in
    let word : Expect = place_behind first next c.attributes in
    then_runs act (attribute_places first next c.attributes) (placed word c.word ∷ pattern_places c.patterns c.line) x0 x1 end
    (attributes_run first next c.attributes x0 no_attributes g.all turns.stays turns.stays_next g.lines g.have)
    (one_step word c.word (pattern_places c.patterns c.line) x1 x2 end (begins_behind first next c.attributes (tree before around []) (tree (plain_case []) outer []) c.word x1 turns g.word)
    (patterns_run c.patterns c.line patterns g.all.items outer d g.line g.patterns_are
    ∙ ap (λ (a : List Attribute). fine (in_case (with_patterns patterns (plain_case a)) outer d)) (sym g.are)))

-- ---- lines in one another

-- the case with one switch more, which has these cases more
abbrev with_switch : OpenSwitch → List CaseView → OpenCase
with_switch s list = record s.case { switches = s.case.switches ++ switch_of (record s { cases = s.cases ++ list }) ∷ [] }

mutual
  body_run : (lines : BodyLines) (place next : Expect) (assigns : List Link) (switches : List SwitchView) (c : OpenCase) (outer : List OpenSwitch) (d : Draft) → IsBody place next → GivesBody d.current.body.wires d.current.wire_names (length outer) lines assigns switches → run act (in_case c outer d) (body_places place next lines) ≡ Ok (in_case (with_body assigns switches c) outer d)
  body_run NoLine place next assigns switches c outer d b g =
      ap (λ (l : List Link). fine (in_case (record c { assigns = l }) outer d)) (sym (append-nil c.assigns) ∙ ap (λ (l : List Link). c.assigns ++ l) (sym g.0))
      ∙ ap (λ (l : List SwitchView). fine (in_case (record c { assigns = c.assigns ++ assigns; switches = l }) outer d)) (sym (append-nil c.switches) ∙ ap (λ (l : List SwitchView). c.switches ++ l) (sym g.1))
  body_run (AnAssign p lines) place next assigns switches c outer d b (w, (link, rest, gives, others, is)) =
      let c' : OpenCase = record c { assigns = c.assigns ++ link ∷ [] } in
      let shape : (c.assigns ++ link ∷ []) ++ rest ≡ c.assigns ++ assigns = append_assoc c.assigns (link ∷ []) rest ∙ ap (λ (l : List Link). c.assigns ++ l) (sym is) in
      then_runs act (pair_places place p) (body_places place next lines) (in_case c outer d) (in_case c' outer d) (in_case (with_body assigns switches c) outer d)
      (pair_run place Assign p link (in_case c outer d) (b.assigns p.word (in_case c outer d) w.0) w.1 w.2 w.3 gives refl)
      (body_run lines place next rest switches c' outer d b others
      ∙ ap (λ (l : List Link). fine (in_case (record c { assigns = l; switches = c.switches ++ switches }) outer d)) shape)
  body_run (ASwitch s cases end line lines) place next assigns switches c outer d b (e, l, lt, (one, rest, list, head, inner, are, others, is)) =
      let inside : OpenSwitch = switch_in c one.signal one.attributes in
      let made : SwitchView = record { signal = one.signal; cases = cases_of list; attributes = one.attributes } in
      let c' : OpenCase = record c { switches = c.switches ++ one ∷ [] } in
      let shape : (c.switches ++ one ∷ []) ++ rest ≡ c.switches ++ switches = append_assoc c.switches (one ∷ []) rest ∙ ap (λ (l : List SwitchView). c.switches ++ l) (sym is) in
      let last : Draft = in_case (with_body assigns switches c) outer d in
      let behind : List Use = body_places place next lines in
      let within : List Use = case_places expects.Cases expects.NextCase cases end line in
      then_runs act (switch_places place next s) (within ++ behind) (in_case c outer d) (in_case (plain_case []) (inside ∷ outer) d) last
      (switch_run place next s one.signal one.attributes c outer d b head lt)
      (then_runs act within behind (in_case (plain_case []) (inside ∷ outer) d) (in_case c' outer d) last
      (cases_run cases end line expects.Cases expects.NextCase list (plain_case []) (inside ∷ outer) inside outer d e l (first_case (tree (plain_case []) (inside ∷ outer) [])) inner
      ∙ ap (λ (v : Cases). fine (in_case (record c { switches = c.switches ++ (record { signal = one.signal; cases = v; attributes = one.attributes }) ∷ [] }) outer d)) (sym are))
      (body_run lines place next assigns rest c' outer d b others
      ∙ ap (λ (l : List SwitchView). fine (in_case (record c { assigns = c.assigns ++ assigns; switches = l }) outer d)) shape))

  cases_run : (cases : CaseLines) (end line : Seen) (first next : Expect) (list : List CaseView) (before : OpenCase) (around : List OpenSwitch) (s : OpenSwitch) (outer : List OpenSwitch) (d : Draft) → end.sort ≡ sorts.End → line.sort ≡ sorts.Line → Turns first next (tree before around []) (tree (plain_case []) (s ∷ outer) []) → GivesCases d.current.body.wires d.current.wire_names (suc (length outer)) cases list → run act (in_case before around d) (case_places first next cases end line) ≡ Ok (in_case (with_switch s list) outer d)
  cases_run NoCaseLine end line first next list before around s outer d e l turns g =
      let closed : List CaseView → Draft = λ (v : List CaseView). in_case (record s.case { switches = s.case.switches ++ switch_of (record s { cases = v }) ∷ [] }) outer d in
      one_step first end (placed expects.EndOfLine line ∷ []) (in_case before around d) (closed s.cases) (closed (s.cases ++ list)) (turns.ends end (in_case before around d) e)
      (ap (λ (v : List CaseView). fine (closed v)) (sym (append-nil s.cases) ∙ ap (λ (v : List CaseView). s.cases ++ v) (sym g)))
  cases_run (ACase c body cases) end line first next list before around s outer d e l turns (one, rest, switches, head, inner, are, others, is) =
      let begun : OpenCase = with_patterns one.patterns (plain_case one.attributes) in
      let whole : OpenCase = with_body one.assigns switches begun in
      let s' : OpenSwitch = with_case (case_of whole) s in
      let closed : List CaseView → Draft = λ (v : List CaseView). in_case (record s.case { switches = s.case.switches ++ switch_of (record s { cases = v }) ∷ [] }) outer d in
      let view : case_of whole ≡ one = ap (λ (v : Switches). record { patterns = one.patterns; assigns = one.assigns; switches = v; attributes = one.attributes }) (sym are) in
      let shape : (s.cases ++ case_of whole ∷ []) ++ rest ≡ s.cases ++ list =
      append_assoc s.cases (case_of whole ∷ []) rest ∙ ap (λ (v : CaseView). s.cases ++ v ∷ rest) view ∙ ap (λ (v : List CaseView). s.cases ++ v) (sym is) in
      let behind : List Use = case_places expects.CaseBody expects.NextInCase cases end line in
      let within : List Use = body_places expects.CaseBody expects.NextInCase body in
      let last : Draft = in_case (with_switch s list) outer d in
      then_runs act (head_places first next c) (within ++ behind) (in_case before around d) (in_case begun (s ∷ outer) d) last
      (case_run first next c one.patterns one.attributes before around (s ∷ outer) d turns head)
      (then_runs act within behind (in_case begun (s ∷ outer) d) (in_case whole (s ∷ outer) d) last
      (body_run body expects.CaseBody expects.NextInCase one.assigns switches begun (s ∷ outer) d case_body inner)
      (cases_run cases end line expects.CaseBody expects.NextInCase rest whole (s ∷ outer) s' outer d e l (next_case whole s outer) others
      ∙ ap (λ (v : List CaseView). fine (closed v)) shape))

pub parts : (lines : BodyLines) (assigns : List Link) (switches : List SwitchView) (place next : Expect) (c : OpenCase) (outer : List OpenSwitch) (d : Draft) → may_hold place next ≡ true → GivesBody d.current.body.wires d.current.wire_names (length outer) lines assigns switches → run act (in_case c outer d) (body_places place next lines) ≡ Ok (in_case (with_body assigns switches c) outer d)
parts lines assigns switches expects.CaseBody expects.NextInCase c outer d m g = body_run lines expects.CaseBody expects.NextInCase assigns switches c outer d case_body g
parts lines assigns switches expects.ProcessBody expects.NextSwitch c outer d m g = body_run lines expects.ProcessBody expects.NextSwitch assigns switches c outer d process_body g
parts lines assigns switches place next c outer d m g = absurd cc
