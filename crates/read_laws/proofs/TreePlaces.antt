-- The items of the lines of a case or a process stand in their places and no others.
use Rattle.std.proofs.Common.{◌≡◌, refl, sym, ◌∙◌, ap, subst, ℕ, suc, true, List, [], ◌∷◌, ◌++◌, Some, append_assoc}
use Rattle.rtl_lex.specs.declared.sort.Sort.TheVariants as sorts
use Rattle.rtl_lex.specs.Items.{Seen}
use Rattle.rtl_sig.specs.declared.sig.SigBit.{SigBit}
use Rattle.rtl_ir.specs.Tree.{CaseView, SwitchView}
use Rattle.rtl_ir.specs.declared.module.Link.{Link}
use Rattle.rtl_ir.specs.declared.value.Attribute.{Attribute}
use Rattle.rtl_ir.specs.declared.wire.Wire.{Wire}
use Rattle.rtl_grammar.specs.declared.expect.Expect.{Expect}
use Rattle.rtl_grammar.specs.declared.expect.Expect.TheVariants as expects
use Rattle.rtl_grammar.specs.Grammar.{after, Derives}
use Rattle.rtl_grammar.specs.Uses.{Use, roles_of, items_of}
use Rattle.rtl_grammar.proofs.Reading.{ending, ends}
use Rattle.read_laws.specs.SignalBits.{places_of, placed}
use Rattle.read_laws.specs.Lines.{AttributeLine, attribute_places, place_behind, pair_places}
use Rattle.read_laws.specs.Trees.{SwitchLine, NextPattern, Patterns, NoPattern, SomePatterns, CaseLine, BodyLines, NoLine, AnAssign, ASwitch, CaseLines, NoCaseLine, ACase, GivesSwitch, GiveMore, GivePatterns, GivesCase, GivesBody, GivesCases, switch_places, more_places, pattern_places, head_places, body_places, case_places, may_hold}
use Rattle.read_laws.proofs.Places.{stands_so, same_uses}
use Rattle.read_laws.proofs.Lines.{behind_all, attributes_stand, pair_stands}

-- ---- what may stand where

-- lines of a case or a process may stand at this place, and a word behind attributes at that one
record Grows (place next : Expect) : Type 0 where
  below : List Expect
  attribute : after place sorts.Attribute ≡ Some (expects.AttributeName ∷ next ∷ below)
  attribute_next : after next sorts.Attribute ≡ Some (expects.AttributeName ∷ next ∷ [])
  assign : after place sorts.Assign ≡ Some (expects.Signal ∷ expects.BehindLeft ∷ place ∷ [])
  opens : (lines : List AttributeLine) (i : Seen) (roles : List Expect) (us : List Use) → i.sort ≡ sorts.Switch → Derives (expects.Signal ∷ expects.BehindSwitch ∷ place ∷ roles) (roles_of us) → Derives (behind_all place next below lines ++ roles) (roles_of (placed (place_behind place next lines) i ∷ us))

case_grows : Grows expects.CaseBody expects.NextInCase
case_grows = record { below = []; attribute = refl; attribute_next = refl; assign = refl; opens = opens }
  where
    opens : (lines : List AttributeLine) (i : Seen) (roles : List Expect) (us : List Use) → i.sort ≡ sorts.Switch → Derives (expects.Signal ∷ expects.BehindSwitch ∷ expects.CaseBody ∷ roles) (roles_of us) → Derives (behind_all expects.CaseBody expects.NextInCase [] lines ++ roles) (roles_of (placed (place_behind expects.CaseBody expects.NextInCase lines) i ∷ us))
    opens [] i roles us e d = (refl, (expects.Signal ∷ expects.BehindSwitch ∷ expects.CaseBody ∷ [], ap (after expects.CaseBody) e, d))
    opens (a ∷ lines) i roles us e d = (refl, (expects.Signal ∷ expects.BehindSwitch ∷ expects.CaseBody ∷ [], ap (after expects.NextInCase) e, d))

process_grows : Grows expects.ProcessBody expects.NextSwitch
process_grows = record { below = expects.ProcessBody ∷ []; attribute = refl; attribute_next = refl; assign = refl; opens = opens }
  where
    opens : (lines : List AttributeLine) (i : Seen) (roles : List Expect) (us : List Use) → i.sort ≡ sorts.Switch → Derives (expects.Signal ∷ expects.BehindSwitch ∷ expects.ProcessBody ∷ roles) (roles_of us) → Derives (behind_all expects.ProcessBody expects.NextSwitch (expects.ProcessBody ∷ []) lines ++ roles) (roles_of (placed (place_behind expects.ProcessBody expects.NextSwitch lines) i ∷ us))
    opens [] i roles us e d = (refl, (expects.Signal ∷ expects.BehindSwitch ∷ expects.ProcessBody ∷ [], ap (after expects.ProcessBody) e, d))
    opens (a ∷ lines) i roles us e d = (refl, (expects.Signal ∷ expects.BehindSwitch ∷ [], ap (after expects.NextSwitch) e, d))

-- a case or the end of a switch may stand at this place, and the word `case` behind attributes at that one
record Follows (first next : Expect) : Type 0 where
  attribute : after first sorts.Attribute ≡ Some (expects.AttributeName ∷ next ∷ [])
  attribute_next : after next sorts.Attribute ≡ Some (expects.AttributeName ∷ next ∷ [])
  begins : after first sorts.Case ≡ Some (expects.Patterns ∷ [])
  begins_next : after next sorts.Case ≡ Some (expects.Patterns ∷ [])
  ends : after first sorts.End ≡ Some (expects.EndOfLine ∷ [])

first_follows : Follows expects.Cases expects.NextCase
first_follows = record { attribute = refl; attribute_next = refl; begins = refl; begins_next = refl; ends = refl }

next_follows : Follows expects.CaseBody expects.NextInCase
next_follows = record { attribute = refl; attribute_next = refl; begins = refl; begins_next = refl; ends = refl }

begins_behind : (first next : Expect) (lines : List AttributeLine) (i : Seen) (roles : List Expect) (us : List Use) → Follows first next → i.sort ≡ sorts.Case → Derives (expects.Patterns ∷ roles) (roles_of us) → Derives (behind_all first next [] lines ++ roles) (roles_of (placed (place_behind first next lines) i ∷ us))
begins_behind first next [] i roles us f e d = (refl, (expects.Patterns ∷ [], ap (after first) e ∙ f.begins, d))
begins_behind first next (a ∷ lines) i roles us f e d = (refl, (expects.Patterns ∷ [], ap (after next) e ∙ f.begins_next, d))

-- ---- the first line of a switch, and of a case

switch_stands : (wires : List Wire) (names : List (List ℕ)) (place next : Expect) (s : SwitchLine) (signal : List SigBit) (attributes : List Attribute) (roles : List Expect) (more : List Use) → Grows place next → GivesSwitch wires names s signal attributes → Derives (expects.Cases ∷ place ∷ roles) (roles_of more) → Derives (place ∷ roles) (roles_of (switch_places place next s ++ more))
switch_stands wires names place next s signal attributes roles more b g d =
    let front : List Use = attribute_places place next s.attributes in
    let middle : List Use = places_of expects.Signal expects.BehindSwitch s.signal in
    let tail : List Use = placed expects.BehindSwitch s.line ∷ [] in
    let word : Use = placed (place_behind place next s.attributes) s.word in
    let signals : Derives (expects.Signal ∷ expects.BehindSwitch ∷ place ∷ roles) (roles_of ((middle ++ tail) ++ more)) =
    subst (λ (us : List Use). Derives (expects.Signal ∷ expects.BehindSwitch ∷ place ∷ roles) (roles_of us)) (sym (append_assoc middle tail more))
    (stands_so s.signal expects.Signal expects.BehindSwitch (place ∷ roles) (tail ++ more) refl g.written (refl, (expects.Cases ∷ [], ap (after expects.BehindSwitch) g.line, d))) in
    subst (λ (us : List Use). Derives (place ∷ roles) (roles_of us)) (sym (append_assoc front (word ∷ (middle ++ tail)) more))
    (attributes_stand place next s.attributes b.below roles ((word ∷ (middle ++ tail)) ++ more) b.attribute b.attribute_next g.lines
    (b.opens s.attributes s.word roles ((middle ++ tail) ++ more) g.word signals))

more_stand : (wires : List Wire) (names : List (List ℕ)) (ns : List NextPattern) (line : Seen) (patterns : List (List SigBit)) (roles : List Expect) (more : List Use) → line.sort ≡ sorts.Line → GiveMore wires names ns patterns → Derives (expects.CaseBody ∷ roles) (roles_of more) → Derives (expects.BehindPattern ∷ roles) (roles_of (more_places ns line ++ more))
more_stand wires names [] line patterns roles more l g d = (refl, (expects.CaseBody ∷ [], ap (after expects.BehindPattern) l, d))
more_stand wires names (n ∷ ns) line patterns roles more l (comma, (bits, rest, gives, others, is)) d =
    let front : List Use = places_of expects.Signal expects.BehindPattern n.pattern in
    let behind : List Use = more_places ns line in (
      refl,
      (
        expects.Signal ∷ expects.BehindPattern ∷ [],
        ap (after expects.BehindPattern) comma,
        subst (λ (us : List Use). Derives (expects.Signal ∷ expects.BehindPattern ∷ roles) (roles_of us)) (sym (append_assoc front behind more))
            (stands_so n.pattern expects.Signal expects.BehindPattern roles (behind ++ more) refl gives.0 (more_stand wires names ns line rest roles more l others d)),
      ),
    )

patterns_stand : (wires : List Wire) (names : List (List ℕ)) (p : Patterns) (line : Seen) (patterns : List (List SigBit)) (roles : List Expect) (more : List Use) → line.sort ≡ sorts.Line → GivePatterns wires names p patterns → Derives (expects.CaseBody ∷ roles) (roles_of more) → Derives (expects.Patterns ∷ roles) (roles_of (pattern_places p line ++ more))
patterns_stand wires names NoPattern line patterns roles more l g d = (refl, (expects.CaseBody ∷ [], ap (after expects.Patterns) l, d))
patterns_stand wires names (SomePatterns p ns) line patterns roles more l (bits, rest, gives, others, is) d =
    let front : List Use = places_of expects.Patterns expects.BehindPattern p in
    let behind : List Use = more_places ns line in
    subst (λ (us : List Use). Derives (expects.Patterns ∷ roles) (roles_of us)) (sym (append_assoc front behind more))
    (stands_so p expects.Patterns expects.BehindPattern roles (behind ++ more) refl gives.0 (more_stand wires names ns line rest roles more l others d))

head_stands : (wires : List Wire) (names : List (List ℕ)) (first next : Expect) (c : CaseLine) (patterns : List (List SigBit)) (attributes : List Attribute) (roles : List Expect) (more : List Use) → Follows first next → GivesCase wires names c patterns attributes → Derives (expects.CaseBody ∷ roles) (roles_of more) → Derives (first ∷ roles) (roles_of (head_places first next c ++ more))
head_stands wires names first next c patterns attributes roles more f g d =
    let front : List Use = attribute_places first next c.attributes in
    let word : Use = placed (place_behind first next c.attributes) c.word in
    let behind : List Use = pattern_places c.patterns c.line in
    subst (λ (us : List Use). Derives (first ∷ roles) (roles_of us)) (sym (append_assoc front (word ∷ behind) more))
    (attributes_stand first next c.attributes [] roles ((word ∷ behind) ++ more) f.attribute f.attribute_next g.lines
    (begins_behind first next c.attributes c.word roles (behind ++ more) f g.word (patterns_stand wires names c.patterns c.line patterns roles more g.line g.patterns_are d)))

-- ---- lines in one another

mutual
  body_stand : (wires : List Wire) (names : List (List ℕ)) (level : ℕ) (lines : BodyLines) (place next : Expect) (assigns : List Link) (switches : List SwitchView) (roles : List Expect) (more : List Use) → Grows place next → GivesBody wires names level lines assigns switches → Derives (place ∷ roles) (roles_of more) → Derives (place ∷ roles) (roles_of (body_places place next lines ++ more))
  body_stand wires names level NoLine place next assigns switches roles more b g d = d
  body_stand wires names level (AnAssign p lines) place next assigns switches roles more b (w, (link, rest, gives, others, is)) d =
      subst (λ (us : List Use). Derives (place ∷ roles) (roles_of us)) (sym (append_assoc (pair_places place p) (body_places place next lines) more))
      (pair_stands place sorts.Assign p roles (body_places place next lines ++ more) b.assign w.0 w.1 w.2 w.3 (body_stand wires names level lines place next rest switches roles more b others d))
  body_stand wires names level (ASwitch s cases end line lines) place next assigns switches roles more b (e, l, lt, (one, rest, list, head, inner, are, others, is)) d =
      let front : List Use = switch_places place next s in
      let within : List Use = case_places expects.Cases expects.NextCase cases end line in
      let behind : List Use = body_places place next lines in
      let shape : (front ++ (within ++ behind)) ++ more ≡ front ++ (within ++ (behind ++ more)) = append_assoc front (within ++ behind) more ∙ ap (λ (us : List Use). front ++ us) (append_assoc within behind more) in
      subst (λ (us : List Use). Derives (place ∷ roles) (roles_of us)) (sym shape)
      (switch_stands wires names place next s one.signal one.attributes roles (within ++ (behind ++ more)) b head
      (cases_stand wires names (suc level) cases end line expects.Cases expects.NextCase list (place ∷ roles) (behind ++ more) first_follows e l inner
      (body_stand wires names level lines place next assigns rest roles more b others d)))

  cases_stand : (wires : List Wire) (names : List (List ℕ)) (level : ℕ) (cases : CaseLines) (end line : Seen) (first next : Expect) (list : List CaseView) (roles : List Expect) (more : List Use) → Follows first next → end.sort ≡ sorts.End → line.sort ≡ sorts.Line → GivesCases wires names level cases list → Derives roles (roles_of more) → Derives (first ∷ roles) (roles_of (case_places first next cases end line ++ more))
  cases_stand wires names level NoCaseLine end line first next list roles more f e l g d =
      (refl, (expects.EndOfLine ∷ [], ap (after first) e ∙ f.ends, (refl, ([], ap (after expects.EndOfLine) l, d))))
  cases_stand wires names level (ACase c body cases) end line first next list roles more f e l (one, rest, switches, head, inner, are, others, is) d =
      let front : List Use = head_places first next c in
      let within : List Use = body_places expects.CaseBody expects.NextInCase body in
      let behind : List Use = case_places expects.CaseBody expects.NextInCase cases end line in
      let shape : (front ++ (within ++ behind)) ++ more ≡ front ++ (within ++ (behind ++ more)) = append_assoc front (within ++ behind) more ∙ ap (λ (us : List Use). front ++ us) (append_assoc within behind more) in
      subst (λ (us : List Use). Derives (first ∷ roles) (roles_of us)) (sym shape)
      (head_stands wires names first next c one.patterns one.attributes roles (within ++ (behind ++ more)) f head
      (body_stand wires names level body expects.CaseBody expects.NextInCase one.assigns switches roles (behind ++ more) case_grows inner
      (cases_stand wires names level cases end line expects.CaseBody expects.NextInCase rest roles more next_follows e l others d)))

pub stands : (lines : BodyLines) (assigns : List Link) (switches : List SwitchView) (wires : List Wire) (names : List (List ℕ)) (level : ℕ) (place next : Expect) (roles : List Expect) (more : List Use) → may_hold place next ≡ true → GivesBody wires names level lines assigns switches → Derives (place ∷ roles) (roles_of more) → Derives (place ∷ roles) (roles_of (body_places place next lines ++ more))
stands lines assigns switches wires names level expects.CaseBody expects.NextInCase roles more m g d = body_stand wires names level lines expects.CaseBody expects.NextInCase assigns switches roles more case_grows g d
stands lines assigns switches wires names level expects.ProcessBody expects.NextSwitch roles more m g d = body_stand wires names level lines expects.ProcessBody expects.NextSwitch assigns switches roles more process_grows g d
stands lines assigns switches wires names level place next roles more m g d = absurd cc

pub only_so : (lines : BodyLines) (assigns : List Link) (switches : List SwitchView) (wires : List Wire) (names : List (List ℕ)) (level : ℕ) (place next : Expect) (roles : List Expect) (uses more : List Use) → may_hold place next ≡ true → GivesBody wires names level lines assigns switches → items_of uses ≡ items_of (body_places place next lines) → Derives (place ∷ roles) (roles_of (uses ++ more)) → uses ≡ body_places place next lines
only_so lines assigns switches wires names level place next roles uses more m g same d =
    let end : List Use = ending (place ∷ roles) in
    same_uses uses (body_places place next lines) more end (place ∷ roles) d (stands lines assigns switches wires names level place next roles end m g (ends (place ∷ roles))) same
