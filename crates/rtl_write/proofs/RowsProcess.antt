-- The tokens of processes leave what is good.
use Rattle.std.proofs.Common.{◌≡◌, List, [], ◌∷◌, ◌++◌, length, Some, Ok, refl, sym, subst, ◌∙◌}
use Rattle.std.specs.Prelude.{nat_le}
use Rattle.std.proofs.lemmas.Bool.{leb-false}
use Rattle.std.proofs.lemmas.List.Elements.{All-nil}
use Rattle.rtl_lex.specs.declared.sort.Sort.{Sort}
use Rattle.rtl_lex.specs.declared.sort.Sort.TheVariants as sorts
use Rattle.rtl_lex.specs.Items.{Seen}
use Rattle.rtl_sig.specs.declared.sig.SigBit.{SigBit}
use Rattle.rtl_sig.specs.Names.{with_name}
use Rattle.rtl_ir.specs.declared.value.Attribute.{Attribute}
use Rattle.rtl_ir.specs.Tree.{switches_of}
use Rattle.rtl_grammar.specs.declared.expect.Expect.{Expect}
use Rattle.rtl_grammar.specs.declared.expect.Expect.TheVariants as expects
use Rattle.rtl_grammar.specs.Grammar.Process.{after_process_name, after_process_body, after_next_switch}
use Rattle.rtl_read.specs.declared.draft.Draft.{Draft}
use Rattle.rtl_read.specs.declared.draft.PairKind.TheVariants.{Assign}
use Rattle.rtl_read.specs.declared.open_module.OpenModule.{OpenModule}
use Rattle.rtl_read.specs.declared.open_process.OpenProcess.{OpenProcess}
use Rattle.rtl_read.specs.declared.signal.OpenSignal.{OpenSignal}
use Rattle.rtl_read.specs.declared.tree.OpenSwitch.{OpenSwitch}
use Rattle.rtl_read.specs.declared.tree.OpenTree.{OpenTree}
use Rattle.rtl_ir.specs.declared.limits.TheConstants.{MAX_DEPTH}
use Rattle.rtl_read.specs.declared.read_fault.ReadFault.TheVariants as faults
use Rattle.rtl_read.specs.Meaning.Attribute.{no_attributes}
use Rattle.rtl_read.specs.Meaning.Module.{is_taken, with_process}
use Rattle.rtl_read.specs.Meaning.Process.{plain_process, with_process_name, process_of}
use Rattle.rtl_read.specs.Meaning.Tree.{with_assign}
use Rattle.rtl_read.specs.Act.Process.{with_tree, act_process_name, open_switch, close_process, act_next_switch, act_process_body}
use Rattle.rtl_readable.specs.Readable.{AreAttributes, IsSignal, AreSwitches, IsRule, IsProcess}
use Rattle.rtl_write.proofs.Items.{IsGood}
use Rattle.rtl_write.proofs.GoodParts.{none_waiting, are_attributes}
use Rattle.rtl_write.proofs.GoodModules.{unused, named_open, name_taken, process_open}
use Rattle.rtl_write.proofs.GoodTrees.{plain_tree_good, with_attributes, assigned}
use Rattle.rtl_write.proofs.Stages.{Stage, Fits, Still, wires_in, IsTaken, IsTreeSoFar, IsRooted, IsProcessSoFar, Processing, AtRoot, ThenSwitch}
use Rattle.rtl_write.proofs.Drafts.{in_waiting, in_with, signal_stage, pair_stage}
use Rattle.rtl_write.proofs.Rows.{Leaves, leaves_if_bind}

-- ---- the head of a process

begun : (m : OpenModule) (items : List Attribute) (i : Seen) → AreAttributes items → IsTaken m i.text → IsProcessSoFar m (with_process_name i (plain_process items))
begun m items i are name = record { name = name; attributes = are; tree = plain_tree_good m.body.wires; rules = All-nil (IsRule m.body.wires) }

pub process_name : (roles : List Expect) (i : Seen) (sort : Sort) (d : Draft) → i.sort ≡ sort → IsGood i → Stage expects.ProcessName (Fits roles) d → Leaves roles (after_process_name sort) (act_process_name i d)
process_name roles i sorts.Id d e good at =
    let plain = at.1 in
    let named : OpenModule = record d.current { other_names = with_name d.current.other_names i.text } in
    leaves_if_bind roles (expects.EndOfLine ∷ expects.ProcessBody ∷ []) (is_taken i.text d.current) (faults.Duplicate i.place) (Ok named) (λ m. Ok (record d { current = m; process = with_process_name i d.process }))
    (λ new.
    let free = unused d.current at.0.0.opened i.text new in (
      (
        (
          ((in_with d at.0.0 named refl (named_open d.current at.0.0.opened i.text free)), at.0.1),
          subst (λ (p : OpenProcess). IsProcessSoFar named (with_process_name i p)) (sym plain.2) (begun named plain.0 i plain.1 (name_taken d.current at.0.0.opened i.text (good.name e) free)),
        ),
        subst (λ (p : OpenProcess). p.tree.outer ≡ []) (sym plain.2) refl,
      ),
      at.2,
    ))
process_name roles i sort d e good at = tt

-- ---- the tree

-- the process has another tree
pub treed : (d : Draft) (t : OpenTree) → IsProcessSoFar d.current d.process → IsTreeSoFar (wires_in d) t → IsProcessSoFar d.current (record d.process { tree = t })
treed d t is good = record { name = is.name; attributes = is.attributes; tree = good; rules = is.rules }

-- the word `switch`, and what is expected behind the switch
pub opens_switch : (roles more : List Expect) (i : Seen) (d : Draft) → Processing d → ThenSwitch (Fits (more ++ roles)) d → Leaves roles (Some (expects.Signal ∷ expects.BehindSwitch ∷ more)) (open_switch i d)
opens_switch roles more i d at next =
    let t : OpenTree = record d.process.tree { attributes = d.attributes.items } in
    let deeper_ : Draft = with_tree t (record d { attributes = no_attributes }) in
    let still : Still deeper_ = (in_waiting d at.0.0 no_attributes none_waiting, at.0.1) in
    leaves_if_bind roles (expects.Signal ∷ expects.BehindSwitch ∷ more) (nat_le MAX_DEPTH (length d.process.tree.outer)) (faults.Limit i.place) (Ok t) (λ t. Ok (with_tree t (record d { attributes = no_attributes })))
    (λ room. signal_stage (Fits (expects.BehindSwitch ∷ (more ++ roles))) deeper_ still (λ s is.
    (is, treed d t at.1 (with_attributes (wires_in d) d.process.tree at.1.tree d.attributes.items (are_attributes d.attributes at.0.0.waiting)), leb-false MAX_DEPTH (length d.process.tree.outer) room, next)))

-- the open process has one more assign
pub with_pair : (d : Draft) (left : List SigBit) (s : OpenSignal) → Processing d → IsSignal (wires_in d) left → IsSignal (wires_in d) s.part → IsProcessSoFar d.current (record d.process { tree = with_assign (record { left = left; right = s.part }) d.process.tree })
with_pair d left s at is on = treed d (with_assign (record { left = left; right = s.part }) d.process.tree) at.1 (assigned (wires_in d) d.process.tree at.1.tree (record { left = left; right = s.part }) (record { left = is; right = on }))

-- ---- the end of a process

whole : (d : Draft) → AtRoot d → IsProcess (wires_in d) (process_of d.process)
whole d at =
    let p : OpenProcess = d.process in
    let is : IsProcessSoFar d.current p = at.0.1 in
    let root : IsRooted [] p.tree.case = subst (λ (o : List OpenSwitch). IsRooted o p.tree.case) at.1 is.tree.rooted in
    record {
      name = is.name.form;
      patterns = root.0;
      plain = root.1;
      assigns = is.tree.case.assigns;
      switches = subst (λ (o : List OpenSwitch). AreSwitches (wires_in d) (length o) (switches_of p.tree.case.switches)) at.1 is.tree.case.switches;
      rules = is.rules;
      attributes = is.attributes;
    }

pub closes : (d : Draft) → AtRoot d → Still (close_process d)
closes d at = (in_with d at.0.0.0 (with_process (process_of d.process) d.current) refl (process_open d.current at.0.0.0.opened (process_of d.process) at.0.1.name (whole d at)), at.0.0.1)

-- ---- rows

module _ (roles : List Expect) (i : Seen) (d : Draft) (at : Stage expects.ProcessBody (Fits roles) d) where
  assigns : Leaves roles (Some (expects.Signal ∷ expects.BehindLeft ∷ expects.ProcessBody ∷ [])) (act_process_body sorts.Assign i d)
  assigns = pair_stage (Fits (expects.ProcessBody ∷ roles)) (record d { pair = Assign }) at.0.0.0 (λ left s is on. ((((at.0.0.0.0, refl), with_pair d left s at.0.0 is on), at.0.1), at.1))

  back_at_root : ThenSwitch (Fits (expects.ProcessBody ∷ roles)) d
  back_at_root e is same = ((is, same ∙ at.0.1), at.1)

  pub process_body : (sort : Sort) → Leaves roles (after_process_body sort) (act_process_body sort i d)
  process_body sorts.Assign = assigns
  process_body sorts.Attribute = (at.0.0.0.0.waiting, λ a w. (((in_waiting d at.0.0.0.0 a w, at.0.0.0.1), at.0.0.1), back_at_root))
  process_body sorts.Switch = opens_switch roles (expects.ProcessBody ∷ []) i d at.0.0 back_at_root
  process_body sorts.Sync = (at.0, λ e r. (r, at.1))
  process_body sorts.End = at.1 (close_process d) (closes d at.0)
  process_body sort = tt

pub next_switch : (roles : List Expect) (i : Seen) (sort : Sort) (d : Draft) → Stage expects.NextSwitch (Fits roles) d → Leaves roles (after_next_switch sort) (act_next_switch sort i d)
next_switch roles i sorts.Attribute d at = (at.0.0.0.waiting, λ a w. (((in_waiting d at.0.0.0 a w, at.0.0.1), at.0.1), at.1))
next_switch roles i sorts.Switch d at = opens_switch roles [] i d at.0 at.1
next_switch roles i sort d at = tt
