use Rattle.std.proofs.Common.{false}
use Rattle.rtl_lex.specs.Place.{start}
use Rattle.rtl_lex.proofs.ItemLemmas.{has_items, same_items}
use Rattle.rtl_lex.proofs.laws.one_list_of_items.Goals as goal

pub returns : goal.returns
returns c = record { some = has_items; same = λ text items others a b. same_items items others text start false a b }
