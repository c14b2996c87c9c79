-- The names that are copied and those that are left give all of them.
use Rattle.std.proofs.Common.{◌≡◌, drop}
use Rattle.rtl_sig.proofs.NamesLemmas.{with_all}
use Rattle.rtl_sig.proofs.names.NamesCopied.copy.Given as goal

abbrev pub invariant-loop-name : goal.invariant-loop-name
invariant-loop-name l = with_all l.copy (drop l.name-index l.name-items) ≡ l.self
