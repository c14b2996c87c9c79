-- The tokens of switches and cases leave what is good.
use Rattle.std.proofs.Common.{◌≡◌, List, [], ◌∷◌, ◌++◌, Some, Ok, refl, sym, ap, subst, ◌∙◌}
use Rattle.rtl_lex.specs.declared.sort.Sort.{Sort}
use Rattle.rtl_lex.specs.declared.sort.Sort.TheVariants as sorts
use Rattle.rtl_lex.specs.Items.{Seen}
use Rattle.rtl_sig.specs.declared.sig.SigBit.{SigBit}
use Rattle.rtl_grammar.specs.declared.expect.Expect.{Expect}
use Rattle.rtl_grammar.specs.declared.expect.Expect.TheVariants as expects
use Rattle.rtl_grammar.specs.Grammar.Switch.{after_behind_switch, after_cases, after_next_case, after_patterns, after_behind_pattern, after_case_body, after_next_in_case}
use Rattle.rtl_read.specs.declared.draft.Draft.{Draft}
use Rattle.rtl_read.specs.declared.draft.PairKind.TheVariants.{Assign}
use Rattle.rtl_read.specs.declared.tree.OpenSwitch.{OpenSwitch}
use Rattle.rtl_read.specs.Signal.{some_bits}
use Rattle.rtl_read.specs.Meaning.Attribute.{no_attributes}
use Rattle.rtl_read.specs.Meaning.Tree.{case_of, enter_switch, open_case, put_case, close_case, close_last, with_pattern}
use Rattle.rtl_read.specs.Act.Signal.{begin_signal, without_signal}
use Rattle.rtl_read.specs.Act.Process.{with_tree}
use Rattle.rtl_read.specs.Act.Switch.{act_behind_switch, act_next_case, act_cases, act_patterns, act_behind_pattern, end_case, act_next_in_case, act_case_body}
use Rattle.rtl_write.proofs.Items.{IsGood}
use Rattle.rtl_write.proofs.GoodParts.{none_waiting, are_attributes}
use Rattle.rtl_write.proofs.GoodTrees.{some_good, entered, case_opened, patterned, switch_closed, case_closed}
use Rattle.rtl_write.proofs.Stages.{Stage, Fits, wires_in, Processing, InSwitch, ThenSwitch, ThenSignal}
use Rattle.rtl_write.proofs.Drafts.{in_waiting, no_braces, signal_stage, pair_stage, bracket_stage}
use Rattle.rtl_write.proofs.Rows.{Leaves, leaves_bind}
use Rattle.rtl_write.proofs.RowsSignal.{signal_body, begin_row}
use Rattle.rtl_write.proofs.RowsProcess.{treed, opens_switch, with_pair}

-- ---- the head of a switch

pub behind_switch : (roles : List Expect) (i : Seen) (sort : Sort) (d : Draft) → Stage expects.BehindSwitch (Fits roles) d → Leaves roles (after_behind_switch sort) (act_behind_switch sort i d)
behind_switch roles i sorts.OpenIndex d at = bracket_stage (Fits (expects.BehindSwitch ∷ roles)) i d at.0 (λ s is. (is, at.1, at.2, at.3))
behind_switch roles i sorts.Line d at =
    leaves_bind roles (expects.Cases ∷ []) (some_bits d.signal.part i) (λ sig. Ok (with_tree (enter_switch sig d.process.tree) (without_signal d)))
    (λ sig e.
    let some = some_good (wires_in d) d.signal.part sig i at.0.1.part e in (
      ((at.0.0, refl), treed d (enter_switch sig d.process.tree) at.1 (entered (wires_in d) d.process.tree at.1.tree sig some at.2)),
      (record { case = d.process.tree.case; signal = sig; cases = []; attributes = d.process.tree.attributes }, d.process.tree.outer, refl, at.3),
    ))
behind_switch roles i sort d at = tt

-- ---- cases

module _ (next : Draft → Type 0) (d : Draft) (at : Processing d) (in_switch : InSwitch next d) where
  opened : Processing (act_next_case sorts.Case d) × InSwitch next (act_next_case sorts.Case d)
  opened =
      let fresh : Processing (record d { attributes = no_attributes }) = ((in_waiting d at.0.0 no_attributes none_waiting, at.0.1), at.1) in
      ((fresh.0, treed d (open_case d.attributes.items d.process.tree) at.1 (case_opened (wires_in d) d.process.tree at.1.tree in_switch.0 in_switch.1 in_switch.2 d.attributes.items (are_attributes d.attributes at.0.0.waiting))), in_switch)

  closed : next (act_cases sorts.End d)
  closed =
      let t = d.process.tree in
      let last : next (with_tree (close_last t (in_switch.0 ∷ in_switch.1)) d) =
      in_switch.3 (with_tree (close_last t (in_switch.0 ∷ in_switch.1)) d) (at.0, treed d (close_last t (in_switch.0 ∷ in_switch.1)) at.1 (switch_closed (wires_in d) t at.1.tree in_switch.0 in_switch.1 in_switch.2)) refl in
      subst (λ (o : List OpenSwitch). next (with_tree (close_last t o) d)) (sym in_switch.2) last

  ended : Processing (end_case d) × InSwitch next (end_case d)
  ended =
      let t = d.process.tree in (
        (at.0, treed d (close_case t) at.1 (case_closed (wires_in d) t at.1.tree)),
        (record in_switch.0 { cases = in_switch.0.cases ++ case_of t.case ∷ [] }, in_switch.1, ap (put_case (case_of t.case)) in_switch.2, in_switch.3),
      )

  waits : (role : Draft → Type 0) → ((e : Draft) → Processing e → InSwitch next e → role e) → Stage expects.AttributeName role d
  waits role on = (at.0.0.waiting, λ a w. on (record d { attributes = a; name = [] }) ((in_waiting d at.0.0 a w, at.0.1), at.1) in_switch)

module _ (roles : List Expect) (i : Seen) (d : Draft) (at : Stage expects.Cases (Fits roles) d) where
  remark : Leaves roles (Some (expects.AttributeName ∷ expects.NextCase ∷ [])) (Ok d)
  remark = waits (Fits roles) d at.0 at.1 (Fits (expects.NextCase ∷ roles)) (λ e is in_switch. (is, in_switch))

  pub cases : (sort : Sort) → Leaves roles (after_cases sort) (Ok (act_cases sort d))
  cases sorts.Attribute = remark
  cases sorts.Case = opened (Fits roles) d at.0 at.1
  cases sorts.End = closed (Fits roles) d at.0 at.1
  cases sort = tt

  pub next_case : (sort : Sort) → Leaves roles (after_next_case sort) (Ok (act_next_case sort d))
  next_case sorts.Attribute = remark
  next_case sorts.Case = opened (Fits roles) d at.0 at.1
  next_case sort = tt

-- ---- patterns

module _ (roles : List Expect) (i : Seen) (d : Draft) (good : IsGood i) (at : Stage expects.Patterns (Fits roles) d) where
  then_pattern : ThenSignal (Fits (expects.BehindPattern ∷ roles)) d.signal.braces d
  then_pattern s is e = ((at.0.0.0, is, e ∙ at.0.0.1), at.0.1, at.1)

  begins : (sort : Sort) → Leaves roles (signal_body (expects.BehindPattern ∷ []) sort) (begin_signal sort i d)
  begins sort = begin_row roles (expects.BehindPattern ∷ []) i d (no_braces (wires_in d) d.signal.braces at.0.0.1) then_pattern sort good at.0.0.0

  pub patterns : (sort : Sort) → Leaves roles (after_patterns sort) (act_patterns sort i d)
  patterns sorts.Id = begins sorts.Id
  patterns sorts.Value = begins sorts.Value
  patterns sorts.Int = begins sorts.Int
  patterns sorts.Chars = begins sorts.Chars
  patterns sorts.OpenBrace = begins sorts.OpenBrace
  patterns sorts.Line = at
  patterns sort = tt

module _ (roles : List Expect) (i : Seen) (d : Draft) (at : Stage expects.BehindPattern (Fits roles) d) where
  abbrev put : List SigBit → Draft
  put sig = with_tree (with_pattern sig d.process.tree) (without_signal d)

  put_good : (sig : List SigBit) → some_bits d.signal.part i ≡ Ok sig → Processing (put sig)
  put_good sig e =
      let some = some_good (wires_in d) d.signal.part sig i at.0.1.part e in
      ((at.0.0, refl), treed d (with_pattern sig d.process.tree) at.1 (patterned (wires_in d) d.process.tree at.1.tree at.2.0 at.2.1 at.2.2 sig some))

  pub behind_pattern : (sort : Sort) → Leaves roles (after_behind_pattern sort) (act_behind_pattern sort i d)
  behind_pattern sorts.OpenIndex = bracket_stage (Fits (expects.BehindPattern ∷ roles)) i d at.0 (λ s is. (is, at.1, at.2))
  behind_pattern sorts.Comma =
      leaves_bind roles (expects.Signal ∷ expects.BehindPattern ∷ []) (some_bits d.signal.part i) (λ sig. Ok (put sig))
      (λ sig e.
      let good = put_good sig e in
      signal_stage (Fits (expects.BehindPattern ∷ roles)) (put sig) good.0 (λ s is. (is, good.1, at.2)))
  behind_pattern sorts.Line = leaves_bind roles (expects.CaseBody ∷ []) (some_bits d.signal.part i) (λ sig. Ok (put sig)) (λ sig e. (put_good sig e, at.2))
  behind_pattern sort = tt

-- ---- the lines of a case

module _ (roles : List Expect) (i : Seen) (d : Draft) (at : Stage expects.CaseBody (Fits roles) d) where
  remark_inside : Leaves roles (Some (expects.AttributeName ∷ expects.NextInCase ∷ [])) (Ok d)
  remark_inside = waits (Fits roles) d at.0 at.1 (Fits (expects.NextInCase ∷ roles)) (λ e is in_switch. (is, in_switch))

  back_in_case : ThenSwitch (Fits (expects.CaseBody ∷ roles)) d
  back_in_case e is same = (is, (at.1.0, at.1.1, same ∙ at.1.2, at.1.3))

  a_switch : Leaves roles (Some (expects.Signal ∷ expects.BehindSwitch ∷ expects.CaseBody ∷ [])) (act_next_in_case sorts.Switch i d)
  a_switch = opens_switch roles (expects.CaseBody ∷ []) i d at.0 back_in_case

  a_case : Leaves roles (Some (expects.Patterns ∷ [])) (act_next_in_case sorts.Case i d)
  a_case =
      let done = ended (Fits roles) d at.0 at.1 in
      opened (Fits roles) (end_case d) done.0 done.1

  an_end : Leaves roles (Some (expects.EndOfLine ∷ [])) (act_case_body sorts.End i d)
  an_end =
      let done = ended (Fits roles) d at.0 at.1 in
      closed (Fits roles) (end_case d) done.0 done.1

  pub case_body : (sort : Sort) → Leaves roles (after_case_body sort) (act_case_body sort i d)
  case_body sorts.Assign = pair_stage (Fits (expects.CaseBody ∷ roles)) (record d { pair = Assign }) at.0.0 (λ left s is on. (((at.0.0.0, refl), with_pair d left s at.0 is on), at.1))
  case_body sorts.Attribute = remark_inside
  case_body sorts.Switch = a_switch
  case_body sorts.Case = a_case
  case_body sorts.End = an_end
  case_body sort = tt

  pub next_in_case : (sort : Sort) → Leaves roles (after_next_in_case sort) (act_next_in_case sort i d)
  next_in_case sorts.Attribute = remark_inside
  next_in_case sorts.Switch = a_switch
  next_in_case sorts.Case = a_case
  next_in_case sort = tt
