-- One module more.
use Rattle.std.proofs.Common.{◌≡◌, ℕ, ◌+◌, [], ◌∷◌, ◌++◌, ◌∙◌, sym, ap, arith}
use Rattle.std.specs.Prelude.{map}
use Rattle.std.specs.List.{range_with_len}
use Rattle.std.proofs.lemmas.List.FromFn.{map-range_with_len_more}
use Rattle.rtl_ir.specs.declared.module.Module.{Module}
use Rattle.generated_design.specs.Generate.{generated_module}

pub one_more : (n : ℕ) (m : Module) → m ≡ generated_module n → map generated_module (range_with_len 0 n) ++ m ∷ [] ≡ map generated_module (range_with_len 0 (n + 1))
one_more n m is =
    ap (λ (x : Module). map generated_module (range_with_len 0 n) ++ x ∷ []) is ∙ sym (map-range_with_len_more generated_module 0 n n (omega arith))
