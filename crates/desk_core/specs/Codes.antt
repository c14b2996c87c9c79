-- Results and states as their parts: by their codes one is told from any other.
use Rattle.std.specs.Prelude.{ℕ, List, refl}
use Rattle.std.specs.Coded.{Coded, code_by, coded×, coded_list, coded_ℕ}
use Rattle.rtl_ir.specs.declared.module.Design.{Design}
use Rattle.rtl_ir.specs.contracts.module.Design as designs
use Rattle.script_core.specs.declared.built.Built.{Built}
use Rattle.script_core.specs.contracts.built.Built as results
use Rattle.script_core.specs.declared.word.Word.{Word}
use Rattle.script_core.specs.contracts.word.Word as words
use Rattle.result_cache.specs.Seats.{Seated}
use Rattle.result_cache.specs.contracts.seat.Seat as seats
use Rattle.desk_core.specs.State.{DeskView, KeptKey, State}

abbrev pub result_code : Coded Built
result_code = results.the_row.coded

abbrev pub kept_code : Coded KeptKey
kept_code = code_by (List ℕ × ℕ) (coded× (coded_list coded_ℕ) coded_ℕ) (λ k. (k.key, k.age)) (λ p. record { key = p.0; age = p.1 }) (λ _. refl)

abbrev pub state_code : Coded State
state_code =
    code_by (Design × (List Word × List KeptKey))
    (coded× designs.the_row.coded (coded× (coded_list words.the_row.coded) (coded_list kept_code)))
    (λ s. (s.design, (s.script, s.kept))) (λ p. record { design = p.0; script = p.1.0; kept = p.1.1 }) (λ _. refl)

abbrev pub view_code : Coded DeskView
view_code =
    code_by (State × List Seated) (coded× state_code (coded_list seats.the_row.coded))
    (λ v. (v.state, v.seats)) (λ p. record { state = p.0; seats = p.1 }) (λ _. refl)
