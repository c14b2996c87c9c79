-- The places of modules, found one after another.
use Rattle.std.proofs.Common.{◌≡◌, ℕ, ◌+◌, ◌<◌, ◌≤◌, List, [], ◌∷◌, ◌++◌, length, get_or, take, sym, ap, subst, ◌∙◌, arith, add-one}
use Rattle.std.proofs.Math.Seq.{take-suc}
use Rattle.std.proofs.lemmas.List.{take_all}
use Rattle.rtl_ir.specs.declared.limits.TheConstants.{MAX_MODULES}
use Rattle.rtl_ir.specs.declared.module.Module.{Module}
use Rattle.net_index.specs.Types.{Named}
use Rattle.design_edit.specs.Modules.{PassesAt, place_for, places_for, with_module, with_modules}
use Rattle.design_edit.specs.Table.{ArePlaces}
use Rattle.design_edit.proofs.Placing.{as_many, more, places_snoc, with_modules_snoc}

-- the modules with so many of the edits among them are placed by the table, and counted
pub record AreCounted (modules edits : List Module) (number : ℕ) (table : Named ℕ) (count : ℕ) : Type 0 where
  pub known : ArePlaces table (with_modules modules (take number edits))
  pub counted : count ≡ length (with_modules modules (take number edits))

take_more : (edits : List Module) (number : ℕ) (edit : Module) → number < length edits → edit ≡ get_or edits number edit → take number edits ++ edit ∷ [] ≡ take (number + 1) edits
take_more edits number edit within is = sym (ap (λ n. take n edits) (add-one number) ∙ take-suc edits number edit within ∙ (λ i. take number edits ++ sym is i ∷ []))

module _ (modules edits : List Module) (number : ℕ) (edit : Module) (within : number < length edits) (is : edit ≡ get_or edits number edit) where
  pub one_more : with_module (with_modules modules (take number edits)) edit ≡ with_modules modules (take (number + 1) edits)
  one_more = sym (with_modules_snoc modules (take number edits) edit) ∙ ap (with_modules modules) (take_more edits number edit within is)

  pub places_more : places_for modules (take (number + 1) edits) ≡ places_for modules (take number edits) ++ place_for (with_modules modules (take number edits)) edit.id ∷ []
  places_more = ap (places_for modules) (sym (take_more edits number edit within is)) ∙ places_snoc modules (take number edits) edit

  -- a new name makes one module more
  pub counted_more : (old new : Named ℕ) (count place : ℕ) → AreCounted modules edits number old count → place ≡ place_for (with_modules modules (take number edits)) edit.id → place ≡ count
      → ArePlaces new (with_module (with_modules modules (take number edits)) edit) → AreCounted modules edits (number + 1) new (count + 1)
  counted_more old new count place h at last are = record {
    known = subst (ArePlaces new) one_more are;
    counted = ap (λ n. n + 1) h.counted ∙ sym (more edit (with_modules modules (take number edits)) (sym at ∙ last ∙ h.counted)) ∙ ap length one_more;
  }

  -- a known name makes none
  pub counted_again : (old new : Named ℕ) (count place : ℕ) → AreCounted modules edits number old count → place ≡ place_for (with_modules modules (take number edits)) edit.id → (place ≡ count → ⊥)
      → ArePlaces new (with_module (with_modules modules (take number edits)) edit) → AreCounted modules edits (number + 1) new count
  counted_again old new count place h at other are = record {
    known = subst (ArePlaces new) one_more are;
    counted = h.counted ∙ sym (as_many edit (with_modules modules (take number edits)) (λ e. other (at ∙ e ∙ sym h.counted))) ∙ ap length one_more;
  }

  -- one more passes the limit
  pub passes_at : (old : Named ℕ) (count place : ℕ) → AreCounted modules edits number old count → place ≡ place_for (with_modules modules (take number edits)) edit.id → place ≡ count → count ≡ MAX_MODULES
      → PassesAt modules edits number
  passes_at old count place h at last full = record {
    within = (let c = h.counted in omega (arith, c, full));
    passes = (let l = sym (ap length one_more) ∙ more edit (with_modules modules (take number edits)) (sym at ∙ last ∙ h.counted) in let c = h.counted in omega (arith, l, c, full));
  }

-- all are counted
pub counted_all : (modules edits : List Module) (number : ℕ) (table : Named ℕ) (count : ℕ) → AreCounted modules edits number table count → length edits ≤ number → count ≡ length (with_modules modules edits)
counted_all modules edits number table count h over = h.counted ∙ ap (λ (l : List Module). length (with_modules modules l)) (take_all number edits over)

pub places_all : (modules edits : List Module) (number : ℕ) (places : List ℕ) → places ≡ places_for modules (take number edits) → length edits ≤ number → places ≡ places_for modules edits
places_all modules edits number places are over = are ∙ ap (places_for modules) (take_all number edits over)
