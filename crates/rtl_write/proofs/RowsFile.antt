-- The tokens of files and attributes leave what is good.
use Rattle.std.proofs.Common.{◌≡◌, List, [], ◌∷◌, length, Some, Ok}
use Rattle.std.specs.Prelude.{nat_le}
use Rattle.std.proofs.lemmas.Bool.{leb-false}
use Rattle.rtl_lex.specs.declared.sort.Sort.{Sort}
use Rattle.rtl_lex.specs.declared.sort.Sort.TheVariants as sorts
use Rattle.rtl_lex.specs.Items.{Seen}
use Rattle.rtl_grammar.specs.declared.expect.Expect.{Expect}
use Rattle.rtl_grammar.specs.declared.expect.Expect.TheVariants as expects
use Rattle.rtl_grammar.specs.Grammar.File.{after_start, after_file_head, after_autoidx_number, after_modules, after_next_module, after_end_of_line}
use Rattle.rtl_grammar.specs.Grammar.Attribute.{after_attribute_name, after_attribute_value}
use Rattle.rtl_read.specs.declared.draft.Draft.{Draft}
use Rattle.rtl_ir.specs.declared.limits.TheConstants.{MAX_MODULES}
use Rattle.rtl_read.specs.declared.read_fault.ReadFault.TheVariants as faults
use Rattle.rtl_read.specs.Constant.{constant, integer}
use Rattle.rtl_read.specs.Meaning.Attribute.{with_attribute}
use Rattle.rtl_read.specs.Act.File.{act_autoidx_number, act_modules}
use Rattle.rtl_read.specs.Act.Attribute.{act_attribute_name, act_attribute_value}
use Rattle.rtl_write.proofs.Items.{IsGood}
use Rattle.rtl_write.proofs.GoodParts.{Constant, constant_good, waiting_put}
use Rattle.rtl_write.proofs.Stages.{Stage, Fits}
use Rattle.rtl_write.proofs.Drafts.{out_with}
use Rattle.rtl_write.proofs.Rows.{Leaves, leaves_bind, leaves_if}

-- ---- modules

module _ (roles : List Expect) (i : Seen) (d : Draft) (at : Stage expects.Modules (Fits roles) d) where
  remark : Leaves roles (Some (expects.AttributeName ∷ expects.NextModule ∷ [])) (Ok d)
  remark = (at.0.0.waiting, λ a w. (out_with d at.0 a w, at.1))

  head : Leaves roles (Some (expects.ModuleName ∷ expects.Modules ∷ [])) (act_modules sorts.Module i d)
  head =
      leaves_if roles (expects.ModuleName ∷ expects.Modules ∷ []) (nat_le MAX_MODULES (length d.modules)) (faults.Limit i.place) (Ok d)
      (λ room. (at.0, leb-false MAX_MODULES (length d.modules) room, λ e out. (out, at.1)))

  pub start : (sort : Sort) → Leaves roles (after_start sort) (act_modules sort i d)
  start sorts.Line = at
  start sorts.Autoidx = at
  start sorts.Attribute = remark
  start sorts.Module = head
  start sorts.Finish = at.1 d at.0
  start sort = tt

  pub file_head : (sort : Sort) → Leaves roles (after_file_head sort) (act_modules sort i d)
  file_head sorts.Autoidx = at
  file_head sorts.Attribute = remark
  file_head sorts.Module = head
  file_head sorts.Finish = at.1 d at.0
  file_head sort = tt

  pub more_modules : (sort : Sort) → Leaves roles (after_modules sort) (act_modules sort i d)
  more_modules sorts.Attribute = remark
  more_modules sorts.Module = head
  more_modules sorts.Finish = at.1 d at.0
  more_modules sort = tt

  pub next_module : (sort : Sort) → Leaves roles (after_next_module sort) (act_modules sort i d)
  next_module sorts.Attribute = remark
  next_module sorts.Module = head
  next_module sort = tt

pub autoidx_number : (roles : List Expect) (i : Seen) (sort : Sort) (d : Draft) → Stage expects.AutoidxNumber (Fits roles) d → Leaves roles (after_autoidx_number sort) (act_autoidx_number i d)
autoidx_number roles i sorts.Int d at = leaves_bind roles [] (integer i.number i) (λ n. Ok d) (λ n e. at)
autoidx_number roles i sort d at = tt

pub end_of_line : (roles : List Expect) (sort : Sort) (d : Draft) → Stage expects.EndOfLine (Fits roles) d → Leaves roles (after_end_of_line sort) (Ok d)
end_of_line roles sorts.Line d at = at
end_of_line roles sort d at = tt

-- ---- attributes

pub attribute_name : (roles : List Expect) (i : Seen) (sort : Sort) (d : Draft) → i.sort ≡ sort → IsGood i → Stage expects.AttributeName (Fits roles) d → Leaves roles (after_attribute_name sort) (Ok (act_attribute_name i d))
attribute_name roles i sorts.Id d e good at = (at.0, good.name e, at.1)
attribute_name roles i sort d e good at = tt

module _ (roles : List Expect) (i : Seen) (d : Draft) (good : IsGood i) (at : Stage expects.AttributeValue (Fits roles) d) where
  valued : (sort : Sort) → Constant sort → Leaves roles (Some (expects.EndOfLine ∷ [])) (act_attribute_value sort i d)
  valued sort is =
      leaves_bind roles (expects.EndOfLine ∷ []) (constant sort i) (λ v. Ok (record d { attributes = with_attribute d.name v d.attributes; name = [] }))
      (λ v e. at.2 (with_attribute d.name v d.attributes) (waiting_put d.name v d.attributes at.0 at.1 (constant_good sort i v is good e)))

  pub attribute_value : (sort : Sort) → Leaves roles (after_attribute_value sort) (act_attribute_value sort i d)
  attribute_value sorts.Value = valued sorts.Value tt
  attribute_value sorts.Int = valued sorts.Int tt
  attribute_value sorts.Chars = valued sorts.Chars tt
  attribute_value sort = tt
