use Rattle.rtl_sig.proofs.NamesLemmas.{slice_get-number_of}
use Rattle.rtl_sig.proofs.names.Names.find.Goals as goal

pub returns-clause-text : goal.returns-clause-text
returns-clause-text c =
    slice_get-number_of c.args.name.now c.args.self.now c.in_ok-index.index (rw (← c.self.view_is) c.in_ok-index.ensures.index)
