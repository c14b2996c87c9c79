-- What a command that needed the netlist leaves of the ages of a table, beside the keys that are kept.
use Rattle.std.proofs.Common.{◌≡◌, ℕ, zero, suc, ◌+◌, ◌≤◌, List, [], ◌∷◌, Bool, length, slice_get, Option, Some, None, refl, sym, ap, ◌∙◌, arith}
use Rattle.rtl_ir.specs.declared.module.Design.{Design}
use Rattle.rtl_sig.specs.Names.{has_name}
use Rattle.build_crew.specs.Forgetting.{without}
use Rattle.build_crew.specs.Kept.{HasStill}
use Rattle.build_crew.proofs.Numbers.{of_job}
use Rattle.script_core.specs.declared.built.Built.{Built}
use Rattle.script_core.specs.declared.word.Word.{Word}
use Rattle.desk_core.specs.declared.ages.Ages.{Ages}
use Rattle.desk_core.specs.declared.needed.Needed.{Needed}
use Rattle.desk_core.specs.Ages.{AreYoung, kept_after, kept_in, texts_of}
use Rattle.desk_core.specs.Needed.{IsNeeded, ages_after, marks_of, too_old}
use Rattle.desk_core.specs.Netlist.{key_text_at, key_texts}
use Rattle.desk_core.specs.Results.{AreAged, AreBeside}
use Rattle.desk_core.specs.State.{KeptKey}
use Rattle.desk_core.proofs.Aging.{ages_kept, still_aged, still_needed, young_after}

after_many : (marks : List Bool) (ages : List (Option ℕ)) → length marks ≡ length ages → length (ages_after marks ages) ≡ length ages
after_many [] [] same = refl
after_many [] (age ∷ ages) same = absurd (omega (arith, same))
after_many (mark ∷ marks) [] same = refl
after_many (mark ∷ marks) (age ∷ ages) same = ap suc (after_many marks ages (omega (arith, same)))

marks_many : (texts keys : List (List ℕ)) → length (marks_of texts keys) ≡ length keys
marks_many texts [] = refl
marks_many texts (k ∷ keys) = ap suc (marks_many texts keys)

module _ (texts : List (List ℕ)) (old new : Ages) (kept : List (List ℕ)) (needed : Needed) (aged : AreAged old kept) (needs : IsNeeded texts old needed)
    (keys : new.keys ≡ old.keys) (ages : new.ages.items ≡ ages_after needed.marks.items old.ages.items) where
  ages_are : new.ages.items ≡ ages_after (marks_of texts old.keys) old.ages.items
  ages_are = ages ∙ ap (λ (l : List Bool). ages_after l old.ages.items) needs.marks

  kept_are : kept_in new.keys new.ages.items ≡ kept_in old.keys (ages_after (marks_of texts old.keys) old.ages.items)
  kept_are = ap (λ (l : List (List ℕ)). kept_in l new.ages.items) keys ∙ ap (kept_in old.keys) ages_are

  -- the keys that it needed have age 0, and the others are older
  pub ended_ages : kept_in new.keys new.ages.items ≡ kept_after texts (kept_in old.keys old.ages.items)
  ended_ages = kept_are ∙ ages_kept texts old.keys old.ages.items needs.distinct aged.beside needs.there

  module _ (news : List (List ℕ)) (there : HasStill texts kept) (left : news ≡ without needed.too_old.items kept) where
    kept_is : (q : List ℕ) → has_name news q ≡ has_name (without (too_old (marks_of texts old.keys) old.keys old.ages.items) kept) q
    kept_is q =
        ap (λ (l : List (List ℕ)). has_name l q) left
        ∙ ap (λ (l : List (List ℕ)). has_name (without l kept) q) (needs.gone ∙ ap (λ (l : List Bool). too_old l old.keys old.ages.items) needs.marks)

    -- those that have an age are kept still
    pub ended_aged : AreAged new news
    ended_aged = record {
      beside =
          ap length ages_are ∙ after_many (marks_of texts old.keys) old.ages.items (marks_many texts old.keys ∙ sym aged.beside)
          ∙ aged.beside ∙ ap length (sym keys);
      kept = λ q is.
          kept_is q
          ∙ still_aged texts old.keys kept old.ages.items needs.distinct aged.beside aged.kept there q
          (ap (λ (l : List KeptKey). has_name (texts_of l) q) (sym kept_are) ∙ is);
      young = λ at age is. young_after needed.marks.items old.ages.items at age (ap (λ (l : List (Option ℕ)). slice_get l at) (sym ages) ∙ is);
    }

    -- those that it needed are kept still
    pub ended_needed : HasStill texts news
    ended_needed q is = kept_is q ∙ still_needed texts old.keys kept old.ages.items needs.distinct there q is

-- results beside the modules stand there still where the keys of these are kept
pub beside_needed : (kept news : List (List ℕ)) (design : Design) (script : List Word) (found : List (Option Built)) → HasStill (key_texts script design.modules) news → AreBeside kept design script found
    → AreBeside news design script found
beside_needed kept news design script found there h = record {
  readable = h.readable;
  beside = h.beside;
  own = λ at built is.
      let one = h.own at built is in
      record {
        key = one.key;
        value = one.value;
        kept =
            there (key_text_at script design.modules at)
            (of_job (key_text_at script design.modules) 0 (length design.modules) at (omega arith) (let w = within found at (Some built) is in let b = h.beside in omega (arith, w, b)));
      };
}
  where
    within : (xs : List (Option Built)) (at : ℕ) (x : Option Built) → slice_get xs at ≡ Some x → at + 1 ≤ length xs
    within [] at x is = absurd (let no : None ≡ Some x = is in cc)
    within (y ∷ xs) zero x is = omega arith
    within (y ∷ xs) (suc at) x is = let r = within xs at x is in omega (arith, r)

-- a table of ages that has the same kept keys
pub aged_same : (old new : Ages) (kept : List (List ℕ)) → kept_in new.keys new.ages.items ≡ kept_in old.keys old.ages.items → length new.ages.items ≡ length new.keys → (AreYoung old.ages.items → AreYoung new.ages.items)
    → AreAged old kept → AreAged new kept
aged_same old new kept same beside young h = record {
  beside = beside;
  kept = λ q is. h.kept q (ap (λ (l : List KeptKey). has_name (texts_of l) q) (sym same) ∙ is);
  young = young h.young;
}
