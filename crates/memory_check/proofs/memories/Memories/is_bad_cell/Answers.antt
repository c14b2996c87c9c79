use Rattle.std.proofs.Common.{ℕ, List, Bor, option_map, ◌∙◌, sym, ap}
use Rattle.std.proofs.lemmas.Result.{IfOk-weaker}
use Rattle.rtl_ir.specs.Parameters.{memory_name}
use Rattle.memory_check.proofs.memories.Memories.is_bad_cell.Goals as goal

pub returns-in-Some-clause-noted : goal.returns-in-Some-clause-noted
returns-in-Some-clause-noted c =
    let named = ap memory_name (sym c.as_slice.ensures.value) ∙ sym c.memory_name.ensures.value ∙ ap (option_map (λ (n : Bor (List ℕ)). n.now)) c.in-Some.is in
    IfOk-weaker c.is_bad_in.result _ _ (λ bad h good m earlier knows shaped kind. h good m earlier knows shaped kind named) c.is_bad_in.ensures.noted
