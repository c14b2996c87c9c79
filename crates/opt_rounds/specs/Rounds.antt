-- The pass `opt`: rounds of folding, merging and cleaning.
use Rattle.std.specs.Prelude.{ℕ, zero, suc}
use Rattle.rtl_ir.specs.Types.{Ports}
use Rattle.rtl_ir.specs.declared.module.Module.{Module}
use Rattle.opt_expr.specs.Sweep.{expr_of}
use Rattle.opt_merge.specs.Merge.{merge_of}
use Rattle.opt_clean.specs.Clean.{clean_of}

-- one round
unfoldable pub round_of : Ports → Module → Module
round_of ports m = clean_of ports (merge_of (expr_of ports m))

-- so many rounds; behind one that changes nothing none changes anything
unfoldable pub rounds_of : Ports → ℕ → Module → Module
rounds_of ports zero m = m
rounds_of ports (suc n) m = rounds_of ports n (round_of ports m)

-- the module after the pass: after 32 rounds, so after the first that changes nothing, where there is one among them
unfoldable pub opt_of : Ports → Module → Module
opt_of ports m = rounds_of ports 32 m
