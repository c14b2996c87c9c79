use Rattle.std.proofs.Common.{◌∙◌, ap, sym}
use Rattle.rtl_ir.specs.Decisions.{leaves_of}
use Rattle.process_trees.specs.declared.summary.Summary.{Summary}
use Rattle.process_trees.proofs.Summaries.{none_all, some_all}
use Rattle.process_trees.proofs.Alike.{some_leaf}
use Rattle.process_trees.proofs.summary.Summary.are_all.Goals as goal

pub returns-in-None : goal.returns-in-None
returns-in-None c = record {
  value = λ asked d e. sym (none_all c.args.bit (leaves_of d) (some_leaf d) (sym (ap (λ (s : Summary). s.only) e) ∙ c.in-None.is));
}

pub returns-in-Some : goal.returns-in-Some
returns-in-Some c = record {
  value = λ asked d e. c.is_bit.ensures.value ∙ some_all c.args.bit (leaves_of d) c.in-Some.leaf (sym (ap (λ (s : Summary). s.only) e) ∙ c.in-Some.is);
}
