-- Words one after another.
use Rattle.std.proofs.Common.{◌≡◌, ℕ, ◌+◌, ◌-◌, ◌<◌, List, ◌∷◌, length, take, drop, get_or, Bool, true, false, Some, None, Result, Ok, Err, sym, ap, subst, ◌∙◌, add-one, arith, cond}
use Rattle.std.specs.Prelude.{IfOk, OnOk}
use Rattle.std.proofs.Math.Seq.{drop-cons}
use Rattle.std.proofs.lemmas.List.{length-drop, take_all}
use Rattle.rtl_ir.specs.declared.module.Module.{Module}
use Rattle.rtl_ir.specs.declared.ports.PortTable.{PortTable}
use Rattle.net_index.specs.declared.builder_fault.PassFault.{PassFault}
use Rattle.net_index.specs.declared.builder_fault.PassFault.TheVariants as faults
use Rattle.net_index.specs.Builder.{IsInLimits}
use Rattle.tech_map.specs.Techmap.{TechmapPassesLimit, beside, techmap_of}
use Rattle.script_core.specs.declared.word.Word.{Word}
use Rattle.script_core.specs.Words.{flattens}
use Rattle.proc_steps.proofs.Limits.{limits_passed, limits_within}
use Rattle.script_core.specs.Fold.{techmap_within, fold_flat, fold_script, fold_words, MayBeGiven, AreApplicable, AreFlatApplicable, IsApplicable}

-- what `techmap` gives
pub mapped : (m : Module) (r : Result Module PassFault) → IfOk r (λ after. after ≡ techmap_of m) → OnOk r (IsInLimits (beside m)) → IfOk r (λ after. techmap_within m ≡ Some after)
mapped m (Ok after) e h = ap (λ (t : Bool). cond t (Some (techmap_of m)) None) (limits_within (beside m) h) ∙ ap Some (sym e)
mapped m (Err fault) e h = tt

pub not_mapped : (m : Module) (r : Result Module PassFault) → (r ≡ Err faults.Over → TechmapPassesLimit m) → r ≡ Err faults.Over → techmap_within m ≡ None
not_mapped m r over e = ap (λ (t : Bool). cond t (Some (techmap_of m)) None) (limits_passed (beside m) (over e))

-- the words that are left
words_left : (words : List Word) (at : ℕ) (d word : Word) → at < length words → word ≡ get_or words at d → drop at words ≡ word ∷ drop (at + 1) words
words_left words at d word inside is = drop-cons words at d inside ∙ (λ i. sym is i ∷ drop (sym (add-one at) i) words)

module _ (words : List Word) (at : ℕ) (d word : Word) (inside : at < length words) (is : word ≡ get_or words at d) (table : PortTable) (m : Module) where
  left : drop at words ≡ word ∷ drop (at + 1) words
  left = words_left words at d word inside is

  pub applicable_now : AreApplicable (drop at words) table m → MayBeGiven table word m
  applicable_now h = (subst (λ (ws : List Word). AreApplicable ws table m) left h).0

-- a script that does not flatten takes its words one by one
pub fold_plain : (script : List Word) (table : PortTable) (below : List Module) (m : Module) → flattens script ≡ false → fold_script script table below m ≡ fold_words script table m
fold_plain script table below m plain = ap (λ (t : Bool). cond t (fold_flat (drop 2 script) table below m) (fold_words script table m)) plain

-- what a script may be applied to, by whether it flattens
module _ (script : List Word) (table : PortTable) (below : List Module) (m : Module) where
  pub applicable_flat : flattens script ≡ true → IsApplicable script table below m → AreFlatApplicable (drop 2 script) table below m
  applicable_flat flat h = subst (λ (t : Bool). cond t (AreFlatApplicable (drop 2 script) table below m) (AreApplicable script table m)) flat h

  pub applicable_plain : flattens script ≡ false → IsApplicable script table below m → AreApplicable script table m
  applicable_plain plain h = subst (λ (t : Bool). cond t (AreFlatApplicable (drop 2 script) table below m) (AreApplicable script table m)) plain h

-- the words after the second one, taken to the last
pub behind_two : (script : List Word) → take (length script - 2) (drop 2 script) ≡ drop 2 script
behind_two script = take_all (length script - 2) (drop 2 script) (omega (arith, length-drop 2 script))
