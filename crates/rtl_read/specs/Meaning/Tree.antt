-- The tree of decisions that is open: the innermost open case, and the open switches round it.
use Rattle.std.specs.Prelude.{List, [], ◌∷◌, ◌++◌, length, nat_le, if◌then◌else◌, Result, Ok, Err}
use Rattle.rtl_lex.specs.Items.{Seen}
use Rattle.rtl_sig.specs.declared.sig.SigBit.{SigBit}
use Rattle.rtl_ir.specs.Tree.{CaseView, SwitchView, switches_of, cases_of}
use Rattle.rtl_ir.specs.declared.value.Attribute.{Attribute}
use Rattle.rtl_ir.specs.declared.module.Link.{Link}
use Rattle.rtl_ir.specs.declared.limits.TheConstants.{MAX_DEPTH}
use Rattle.rtl_read.specs.declared.read_fault.ReadFault.{ReadFault}
use Rattle.rtl_read.specs.declared.read_fault.ReadFault.TheVariants as faults
use Rattle.rtl_read.specs.declared.tree.OpenCase.{OpenCase}
use Rattle.rtl_read.specs.declared.tree.OpenSwitch.{OpenSwitch}
use Rattle.rtl_read.specs.declared.tree.OpenTree.{OpenTree}

-- a case with these attributes, in which there is nothing yet; a tree of one
abbrev pub plain_case : List Attribute → OpenCase
plain_case attributes = record { patterns = []; assigns = []; switches = []; attributes = attributes }

abbrev pub plain_tree : OpenTree
plain_tree = record { case = plain_case []; outer = []; attributes = [] }

-- a case that is whole
abbrev pub case_of : OpenCase → CaseView
case_of c = record { patterns = c.patterns; assigns = c.assigns; switches = switches_of c.switches; attributes = c.attributes }

-- a switch that is whole
abbrev pub switch_of : OpenSwitch → SwitchView
switch_of s = record { signal = s.signal; cases = cases_of s.cases; attributes = s.attributes }

-- the word `switch`: there is one level more, within the limit; these are the attributes of the switch
abbrev pub deeper : Seen → List Attribute → OpenTree → Result OpenTree ReadFault
deeper i attributes t = if nat_le MAX_DEPTH (length t.outer) then Err (faults.Limit i.place) else Ok (record t { attributes = attributes })

-- the end of its line: the switch has this signal, and no case yet
abbrev pub enter_switch : List SigBit → OpenTree → OpenTree
enter_switch sig t = record {
  case = plain_case [];
  outer = record { case = t.case; signal = sig; cases = []; attributes = t.attributes } ∷ t.outer;
  attributes = [];
}

-- a case begins
abbrev pub open_case : List Attribute → OpenTree → OpenTree
open_case attributes t = record t { case = plain_case attributes }

-- the open case is whole
abbrev pub put_case : CaseView → List OpenSwitch → List OpenSwitch
put_case c [] = []
put_case c (s ∷ ss) = record s { cases = s.cases ++ c ∷ [] } ∷ ss

abbrev pub close_case : OpenTree → OpenTree
close_case t = record t { case = plain_case []; outer = put_case (case_of t.case) t.outer }

-- the innermost switch is whole
abbrev pub close_last : OpenTree → List OpenSwitch → OpenTree
close_last t [] = t
close_last t (s ∷ ss) = record t { case = record s.case { switches = s.case.switches ++ switch_of s ∷ [] }; outer = ss }

abbrev pub close_switch : OpenTree → OpenTree
close_switch t = close_last t t.outer

-- the open case has one more pattern, one more assign
abbrev pub with_pattern : List SigBit → OpenTree → OpenTree
with_pattern sig t = record t { case = record t.case { patterns = t.case.patterns ++ sig ∷ [] } }

abbrev pub with_assign : Link → OpenTree → OpenTree
with_assign link t = record t { case = record t.case { assigns = t.case.assigns ++ link ∷ [] } }
