-- Modules that are put in their places, one after another, and the way back.
use Rattle.std.proofs.Common.{◌≡◌, ℕ, zero, suc, ◌+◌, ◌<◌, ◌≤◌, List, [], ◌∷◌, ◌++◌, length, take, drop, refl, sym, ap, ◌∙◌, arith, add-one}
use Rattle.rtl_ir.specs.declared.module.Module.{Module}
use Rattle.design_edit.specs.declared.changes.Change.{Change}
use Rattle.design_edit.specs.Changes.{before_at, before_changes}
use Rattle.design_edit.specs.Modules.{with_module, with_modules}
use Rattle.design_edit.proofs.Placing.{with_modules_snoc}

pub before_snoc : (changes : List Change) (c : Change) (ms : List Module) → before_changes (changes ++ c ∷ []) ms ≡ before_changes changes (before_at c.at c.old ms)
before_snoc [] c ms = refl
before_snoc (d ∷ changes) c ms = ap (before_at d.at d.old) (before_snoc changes c ms)

-- of modules that are to take their places so many did, and these are left; the changes lead back
pub record Putting (modules edits : List Module) (number : ℕ) (rest all : List Module) (changes : List Change) : Type 0 where
  pub within : number ≤ length edits
  pub left : rest ≡ drop number edits
  pub put : all ≡ with_modules modules (take number edits)
  pub back : before_changes changes all ≡ modules
  pub noted : length changes ≡ number

behind : (edits : List Module) (at : ℕ) (edit : Module) (rest : List Module) → edit ∷ rest ≡ drop at edits → (at < length edits) × (rest ≡ drop (suc at) edits) × (take at edits ++ edit ∷ [] ≡ take (suc at) edits)
behind [] zero edit rest h = absurd cc
behind [] (suc at) edit rest h = absurd cc
behind (e ∷ edits) zero edit rest h =
    let first : edit ≡ e = cc in
    let others : rest ≡ edits = cc in
    (omega arith, others, ap (λ (m : Module). m ∷ []) first)
behind (e ∷ edits) (suc at) edit rest h =
    let later = behind edits at edit rest h in
    (let lt = later.0 in omega (arith, lt), later.1, ap (λ (l : List Module). e ∷ l) later.2)

take_all : (es : List Module) (at : ℕ) → [] ≡ drop at es → take at es ≡ es
take_all [] zero h = refl
take_all [] (suc at) h = refl
take_all (e ∷ es) zero h = absurd cc
take_all (e ∷ es) (suc at) h = ap (λ (l : List Module). e ∷ l) (take_all es at h)

module _ (modules edits : List Module) where
  pub put_none : (changes : List Change) → changes ≡ [] → Putting modules edits 0 edits modules changes
  put_none changes none = record { within = omega arith; left = refl; put = refl; back = ap (λ (cs : List Change). before_changes cs modules) none; noted = ap length none }

  pub in_turn : (number : ℕ) (edit : Module) (rest all : List Module) (changes : List Change) → Putting modules edits number (edit ∷ rest) all changes → number < length edits
  in_turn number edit rest all changes h = (behind edits number edit rest h.left).0

  -- with one more in its place
  pub with_one : (number : ℕ) (edit : Module) (rest all : List Module) (changes : List Change) → Putting modules edits number (edit ∷ rest) all changes → with_module all edit ≡ with_modules modules (take (number + 1) edits)
  with_one number edit rest all changes h =
      rw add-one (ap (λ (l : List Module). with_module l edit) h.put ∙ sym (with_modules_snoc modules (take number edits) edit) ∙ ap (with_modules modules) (behind edits number edit rest h.left).2)

  pub put_more : (number : ℕ) (edit : Module) (rest all more : List Module) (changes noted : List Change) (c : Change) → Putting modules edits number (edit ∷ rest) all changes
      → more ≡ with_module all edit → noted ≡ changes ++ c ∷ [] → before_at c.at c.old more ≡ all → Putting modules edits (number + 1) rest more noted
  put_more number edit rest all more changes noted c h is are back = record {
    within = (let lt = in_turn number edit rest all changes h in omega (arith, lt));
    left = rw add-one ((behind edits number edit rest h.left).1);
    put = is ∙ with_one number edit rest all changes h;
    back = ap (λ (cs : List Change). before_changes cs more) are ∙ before_snoc changes c more ∙ ap (before_changes changes) back ∙ h.back;
    noted = ap length are ∙ longer changes ∙ (let n = h.noted in omega (arith, n));
  }
    where
      longer : (cs : List Change) → length (cs ++ c ∷ []) ≡ length cs + 1
      longer [] = omega arith
      longer (d ∷ cs) = let l = longer cs in omega arith

  pub put_end : (number : ℕ) (all : List Module) (changes : List Change) → Putting modules edits number [] all changes → all ≡ with_modules modules edits
  put_end number all changes h = h.put ∙ ap (with_modules modules) (take_all edits number h.left)
