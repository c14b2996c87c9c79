-- One text, as a whole input.
use Rattle.std.proofs.Common.{◌≡◌, ◌⊎◌, inl, inr, ℕ, ◌+◌, ◌≤◌, ◌<◌, List, ◌++◌, Bool, true, Option, Some, None, Result, Ok, Err, length, take, refl, sym, ap, subst, ◌∙◌, append-nil, arith, length-append}
use Rattle.std.specs.Prelude.{IfOk, IfSome, OnErr}
use Rattle.std.specs.Io.KnownBytes.{Appends, Consumes, IsAtEnd, Keeps}
use Rattle.synth_io.specs.declared.input.TheConstants.{LIMIT}
use Rattle.synth_io.specs.Taking.{TakesJust}
use Rattle.script_core.specs.declared.word.Word.{Word}
use Rattle.synth_run.specs.declared.words.Mode.TheVariants.{Synth}
use Rattle.synth_run.specs.declared.session.Stop.{Stop}
use Rattle.synth_run.specs.declared.session.Stop.TheVariants as halts
use Rattle.synth_run.specs.Builds.{CountsBuilds}
use Rattle.synth_run.specs.Replies.{HasAnswered, HasBegun}
use Rattle.synth_run.specs.Said.{Said, too_long}
use Rattle.synth_run.specs.Synth.{IsInputReply, IsSynthReply, IsTextReply}
use Rattle.synth_run.proofs.Commanding.{is_past, not_long}
use Rattle.synth_run.proofs.Replying.{synth_said}
use Rattle.synth_run.proofs.Speaking.{appends_kept}

-- a text that was read to the end is the input
text_is : (input text : List ℕ) (rest : Option (List ℕ)) → Consumes (Some input) rest text → IsAtEnd rest → text ≡ input
text_is input text None taken ended = absurd taken
text_is input text (Some more) taken ended = sym (taken ∙ ap (λ (l : List ℕ). text ++ l) ended ∙ append-nil text)

-- its reply is the input's
text_said : (script : List Word) (input text : List ℕ) (said : Said) → text ≡ input → length text ≤ LIMIT → IsTextReply script text said → IsSynthReply script input said
text_said script input text said same within reply =
    let few : length input ≤ LIMIT = subst (λ (l : List ℕ). length l ≤ LIMIT) same within in
    subst (λ (long : Bool). IsInputReply long script input said) (sym (not_long input few)) (subst (λ (l : List ℕ). IsTextReply script l said) same reply)

-- an input that is too long
long_said : (script : List Word) (input : List ℕ) (rest : Option (List ℕ)) → TakesJust (LIMIT + 1) (Some input) rest → IsSynthReply script input too_long
long_said script input None t = absurd t.1
long_said script input (Some more) t =
    let size : length input ≡ length (t.0 ++ more) = ap length t.1 in
    let past : LIMIT < length input = omega (arith, size, length-append t.0 more, t.2) in
    subst (λ (long : Bool). IsInputReply long script input too_long) (sym (is_past input past)) refl

-- nothing was written
pub kept_begun : (script : List Word) (left had has : Option (List ℕ)) → Keeps had has → HasBegun Synth script left had has
kept_begun script None had has kept = tt
kept_begun script (Some input) had has kept = let found = synth_said script input in (found.0, found.1, (0, appends_kept had has kept))

-- the builds for it are those for the input
pub text_counts : (script : List Word) (left rest : Option (List ℕ)) (text : List ℕ) (m n : ℕ) → Consumes left rest text → IsAtEnd rest → CountsBuilds script text m n
    → IfSome left (λ input. CountsBuilds script input m n)
text_counts script None rest text m n taken ended counts = tt
text_counts script (Some input) rest text m n taken ended counts = subst (λ (l : List ℕ). CountsBuilds script l m n) (text_is input text rest taken ended) counts

module _ (script : List Word) (rest had has : Option (List ℕ)) where
  pub text_answered : (left : Option (List ℕ)) (text : List ℕ) (r : Result Bool Stop) → Consumes left rest text → IsAtEnd rest → length text ≤ LIMIT
      → IfOk r (λ error. (said : Said) × IsTextReply script text said × Appends had has said.text × (said.error ≡ error))
      → IfOk r (λ error. HasAnswered Synth script error left had has)
  text_answered left text (Err stop) taken ended within told = tt
  text_answered None text (Ok error) taken ended within told = tt
  text_answered (Some input) text (Ok error) taken ended within told =
      (told.0, text_said script input text told.0 (text_is input text rest taken ended) within told.1, told.2, told.3)

  pub text_begun : (left : Option (List ℕ)) (text : List ℕ) (r : Result Bool Stop) → Consumes left rest text → IsAtEnd rest → length text ≤ LIMIT
      → (r ≡ Err halts.Sink → (said : Said) × IsTextReply script text said × ((n : ℕ) × Appends had has (take n said.text)))
      → (r ≡ Err halts.Memory → Keeps had has) → (r ≡ Err halts.Source → ⊥) → OnErr r (HasBegun Synth script left had has)
  text_begun left text (Ok error) taken ended within front memory source = tt
  text_begun left text (Err halts.Source) taken ended within front memory source = absurd (source refl)
  text_begun left text (Err halts.Memory) taken ended within front memory source = kept_begun script left had has (memory refl)
  text_begun None text (Err halts.Sink) taken ended within front memory source = tt
  text_begun (Some input) text (Err halts.Sink) taken ended within front memory source =
      let t = front refl in
      (t.0, text_said script input text t.0 (text_is input text rest taken ended) within t.1, t.2)

  pub long_answered : (left : Option (List ℕ)) (r : Result Bool Stop) → TakesJust (LIMIT + 1) left rest → IfOk r (λ error. (error ≡ true) × Appends had has too_long.text)
      → IfOk r (λ error. HasAnswered Synth script error left had has)
  long_answered left (Err stop) long told = tt
  long_answered None (Ok error) long told = tt
  long_answered (Some input) (Ok error) long told = (too_long, long_said script input rest long, told.1, sym told.0)

  pub long_begun : (left : Option (List ℕ)) (r : Result Bool Stop) → TakesJust (LIMIT + 1) left rest → OnErr r ((n : ℕ) × Appends had has (take n too_long.text))
      → OnErr r (HasBegun Synth script left had has)
  long_begun left (Ok error) long front = tt
  long_begun None (Err stop) long front = tt
  long_begun (Some input) (Err stop) long front = (too_long, long_said script input rest long, front)

-- of two causes of which one is none
pub either_kept : {A B C : Type 0} → (A → ⊥) → (B → C) → A ⊎ B → C
either_kept never kept (inl a) = absurd (never a)
either_kept never kept (inr b) = kept b
