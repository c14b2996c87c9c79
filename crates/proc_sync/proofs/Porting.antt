-- The ports that lines are, line by line.
use Rattle.std.proofs.Common.{◌≡◌, ℕ, ◌+◌, ◌<◌, List, [], ◌∷◌, ◌++◌, length, drop, get_or, Option, Some, None, add-one, sym, ◌∙◌, ap, append_assoc}
use Rattle.std.specs.Prelude.{if◌then◌else◌}
use Rattle.std.specs.Str.{bytes_eq}
use Rattle.std.proofs.Math.Seq.{drop-cons}
use Rattle.net_model.specs.Proc.Sync.{ports_in}
use Rattle.proc_sync.specs.Lines.{numbers_of}
use Rattle.proc_sync.specs.declared.masks.Numbered.{Numbered}

-- one more line, at a place
pub port_goes : (memory : List ℕ) (lines : List Numbered) (at : ℕ) (n d : Numbered) (old new : List (Option ℕ)) (port : Option ℕ) (total : List (Option ℕ)) → at < length lines → n ≡ get_or lines at d
    → port ≡ (if bytes_eq n.memory.now memory then Some n.number else None) → new ≡ old ++ port ∷ []
    → old ++ ports_in memory (numbers_of (drop at lines)) ≡ total → new ++ ports_in memory (numbers_of (drop (at + 1) lines)) ≡ total
port_goes memory lines at n d old new port total h e is put so =
    let next : drop at lines ≡ n ∷ drop (at + 1) lines = drop-cons lines at d h ∙ (λ i. sym e i ∷ drop (sym (add-one at) i) lines) in
    let rest : List (Option ℕ) = ports_in memory (numbers_of (drop (at + 1) lines)) in
    ap (λ items. items ++ rest) put
    ∙ append_assoc old (port ∷ []) rest
    ∙ ap (λ p. old ++ (p ∷ rest)) is
    ∙ ap (λ ls. old ++ ports_in memory (numbers_of ls)) (sym next)
    ∙ so
