-- The tokens of pairs of signals leave what is good.
use Rattle.std.proofs.Common.{List, [], ◌∷◌, Ok}
use Rattle.std.specs.List.{All}
use Rattle.std.proofs.lemmas.List.Elements.{All-nil}
use Rattle.rtl_lex.specs.declared.sort.Sort.{Sort}
use Rattle.rtl_lex.specs.declared.sort.Sort.TheVariants as sorts
use Rattle.rtl_lex.specs.Items.{Seen}
use Rattle.rtl_grammar.specs.declared.expect.Expect.{Expect}
use Rattle.rtl_grammar.specs.declared.expect.Expect.TheVariants as expects
use Rattle.rtl_grammar.specs.Grammar.Pair.{after_behind_left, after_behind_right}
use Rattle.rtl_read.specs.declared.draft.Draft.{Draft}
use Rattle.rtl_read.specs.Act.Signal.{without_signal}
use Rattle.rtl_read.specs.Act.Pair.{act_behind_left, act_behind_right}
use Rattle.rtl_readable.specs.Readable.{IsSignal}
use Rattle.rtl_write.proofs.Items.{IsGood}
use Rattle.rtl_write.proofs.Stages.{Stage, Fits, wires_in, ThenSignal}
use Rattle.rtl_write.proofs.Drafts.{bracket_stage}
use Rattle.rtl_write.proofs.Rows.{Leaves}
use Rattle.rtl_write.proofs.RowsSignal.{begin_row}

module _ (roles : List Expect) (i : Seen) (d : Draft) (good : IsGood i) (at : Stage expects.BehindLeft (Fits roles) d) where
  -- the left signal is whole
  abbrev left_read : Draft
  left_read = record (without_signal d) { left = d.signal.part }

  nothing_held : All (IsSignal (wires_in d)) []
  nothing_held = All-nil (IsSignal (wires_in d))

  then_right : ThenSignal (Fits (expects.BehindRight ∷ roles)) [] left_read
  then_right s is e = ((at.0.0, is, e), at.0.1.part, at.1)

  pub behind_left : (sort : Sort) → Leaves roles (after_behind_left sort) (act_behind_left sort i d)
  behind_left sorts.OpenIndex = bracket_stage (Fits (expects.BehindLeft ∷ roles)) i d at.0 (λ s is. (is, at.1))
  behind_left sorts.Id = begin_row roles (expects.BehindRight ∷ []) i left_read nothing_held then_right sorts.Id good at.0.0
  behind_left sorts.Value = begin_row roles (expects.BehindRight ∷ []) i left_read nothing_held then_right sorts.Value good at.0.0
  behind_left sorts.Int = begin_row roles (expects.BehindRight ∷ []) i left_read nothing_held then_right sorts.Int good at.0.0
  behind_left sorts.Chars = begin_row roles (expects.BehindRight ∷ []) i left_read nothing_held then_right sorts.Chars good at.0.0
  behind_left sorts.OpenBrace = begin_row roles (expects.BehindRight ∷ []) i left_read nothing_held then_right sorts.OpenBrace good at.0.0
  behind_left sort = tt

pub behind_right : (roles : List Expect) (i : Seen) (sort : Sort) (d : Draft) → Stage expects.BehindRight (Fits roles) d → Leaves roles (after_behind_right sort) (Ok (act_behind_right sort i d))
behind_right roles i sorts.OpenIndex d at = bracket_stage (Fits (expects.BehindRight ∷ roles)) i d at.0 (λ s is. (is, at.1, at.2))
behind_right roles i sorts.Line d at = at.2 d.left d.signal at.1 at.0.1.part
behind_right roles i sort d at = tt
