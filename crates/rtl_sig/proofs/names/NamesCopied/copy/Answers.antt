use Rattle.std.proofs.Common.{[]}
use Rattle.rtl_sig.proofs.NamesLemmas.{with_all-distinct}
use Rattle.rtl_sig.proofs.names.NamesCopied.copy.Goals as goal

pub loop-name-init : goal.loop-name-init
loop-name-init c =
    let keys = c.self.inside.seen.keys in
    rw (c.make-copy.ensures.value, c.as_slice-name-items.ensures.keys, ← c.self.view_is)
    (with_all-distinct [] keys c.as_slice-name-items.ensures.unique)
