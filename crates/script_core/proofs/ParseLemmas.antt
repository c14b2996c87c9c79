-- The words of a text, one by one.
use Rattle.std.proofs.Common.{◌≡◌, ◌≢◌, ℕ, ◌+◌, ◌==◌, ◌<◌, ◌≤◌, Bool, true, false, not, ◌&&◌, ◌||◌, List, [], ◌∷◌, ◌++◌, Option, Some, None, Ok, Err, length, take, drop, get_or, refl, sym, ap, subst, ◌∙◌, arith, cond}
use Rattle.std.specs.Prelude.{filter_map, slice_get, codes}
use Rattle.std.specs.List.{cons_option, list_any}
use Rattle.std.proofs.lemmas.Bool.Decides.{nat_tests}
use Rattle.std.specs.Option.{is_some, option_map_or}
use Rattle.std.specs.Str.{bytes_eq}
use Rattle.std.specs.Iterator.{Yields}
use Rattle.std.proofs.lemmas.Iterator.{YieldsList}
use Rattle.std.proofs.lemmas.Iterator.Consumers.{YieldsList-turn, YieldsList-end}
use Rattle.std.proofs.lemmas.List.{at_drop_more, at_drop_all, length_push, take_more, take_all}
use Rattle.std.proofs.lemmas.List.Elements.{filter_map-append}
use Rattle.script_core.specs.declared.word.Word.{Word}
use Rattle.script_core.specs.declared.word.Word.TheVariants.{Proc, OptExpr, OptMerge, OptClean, Opt, Fsm, Memory, Techmap, Muxtree, Reduce, Dff, Flatten}
use Rattle.script_core.specs.Words.{IsScript, bad_from, first_bad, is_bad, is_flatten, is_misplaced, script_of, word_at, word_of, words_of}

-- so many words are read: none of them is bad, and what they mean is kept
pub record AreRead (all : List (List ℕ)) (count : ℕ) (words : List Word) : Type 0 where
  pub meanings : words ≡ filter_map word_of (take count all)
  pub kept : length words ≡ count
  pub small : count ≤ 64
  pub later : bad_from (count + 1) (drop count all) ≡ bad_from 1 all

-- a word that gives one is not bad
known : (number : ℕ) (s : List ℕ) (w : Word) → Some w ≡ word_at number s → (is_bad number s ≡ false) × (word_of s ≡ Some w)
known number s w e = by (is_bad number s) (word_of s) refl e
  where
    by : (b : Bool) (o : Option Word) → is_bad number s ≡ b → Some w ≡ cond b None o → (b ≡ false) × (o ≡ Some w)
    by true o is e = absurd cc
    by false o is e = (refl, sym e)

-- a word that gives none is bad
unknown : (number : ℕ) (s : List ℕ) → None ≡ word_at number s → is_bad number s ≡ true
unknown number s e = by (word_of s) (is_misplaced number s) e
  where
    by : (o : Option Word) (misplaced : Bool) → None ≡ cond (not (is_some o) || misplaced) None o → (not (is_some o) || misplaced) ≡ true
    by None misplaced e = refl
    by (Some w) true e = refl
    by (Some w) false e = absurd cc

-- a word that is not bad is not the 65th
not_last : (k : ℕ) (s : List ℕ) → is_bad (k + 1) s ≡ false → k ≢ 64
not_last k s fine same = by (word_of s) (bytes_eq s (codes "flatten")) (subst (λ n. is_bad (n + 1) s ≡ false) same fine)
  where
    by : (o : Option Word) (flat : Bool) → (not (is_some o) || (flat || true)) ≡ false → ⊥
    by None flat e = absurd cc
    by (Some w) true e = absurd cc
    by (Some w) false e = absurd cc

-- the first word is `proc`, or bad
first_good : (s : List ℕ) → is_bad 1 s ≡ false → word_of s ≡ Some Proc
first_good s e = chosen _ _ _ (by (word_of s) (bytes_eq s (codes "proc")) (bytes_eq s (codes "flatten")) e)
  where
    chosen : (b : Bool) (o p : Option Word) → b ≡ true → cond b o p ≡ o
    chosen true o p e = refl
    chosen false o p e = absurd cc

    by : (o : Option Word) (b flat : Bool) → (not (is_some o) || ((not b || flat) || false)) ≡ false → b ≡ true
    by None b flat e = absurd cc
    by (Some w) true flat e = refl
    by (Some w) false flat e = absurd cc

-- the words from a place on begin with the word there
bad_here : (all : List (List ℕ)) (k : ℕ) (s : List ℕ) → (k < length all) × (s ≡ get_or all k s) → bad_from (k + 1) (drop k all) ≡ bad_from (k + 1) (s ∷ drop (k + 1) all)
bad_here all k s at = at_drop_more (bad_from (k + 1)) all k s at.0 ∙ ap (λ w. bad_from (k + 1) (w ∷ drop (k + 1) all)) (sym at.1)

-- one word more is read
pub read_more : (all : List (List ℕ)) (k : ℕ) (words : List Word) (s : List ℕ) (w : Word) → AreRead all k words → (k < length all) × (s ≡ get_or all k s) → Some w ≡ word_at (length words + 1) s → AreRead all (k + 1) (words ++ w ∷ [])
read_more all k words s w read at e =
    let is = known (k + 1) s w (subst (λ n. Some w ≡ word_at (n + 1) s) read.kept e) in
    record {
      meanings =
          ap (λ ws. ws ++ w ∷ []) read.meanings
          ∙ ap (λ o. filter_map word_of (take k all) ++ cons_option o []) (sym is.1)
          ∙ sym (filter_map-append word_of (take k all) (s ∷ []))
          ∙ ap (λ t. filter_map word_of (take k all ++ t ∷ [])) at.1
          ∙ sym (ap (filter_map word_of) (take_more all k s at.0));
      kept = length_push words w ∙ ap (λ n. n + 1) read.kept;
      small = omega (arith, read.small, not_last k s is.0);
      later = sym (bad_here all k s at ∙ ap (λ b. cond b (Some (k + 1)) (bad_from (k + 1 + 1) (drop (k + 1) all))) is.0) ∙ read.later;
    }

-- the next word is bad
pub read_bad : (all : List (List ℕ)) (k : ℕ) (words : List Word) (s : List ℕ) → AreRead all k words → (k < length all) × (s ≡ get_or all k s) → None ≡ word_at (length words + 1) s → bad_from 1 all ≡ Some (length words + 1)
read_bad all k words s read at e =
    let is = unknown (k + 1) s (subst (λ n. None ≡ word_at (n + 1) s) read.kept e) in
    sym read.later ∙ bad_here all k s at ∙ ap (λ b. cond b (Some (k + 1)) (bad_from (k + 1 + 1) (drop (k + 1) all))) is ∙ ap (λ n. Some (n + 1)) (sym read.kept)

-- all words are read
pub read_all : (all : List (List ℕ)) (k : ℕ) (words : List Word) → AreRead all k words → k ≡ length all → (words ≡ filter_map word_of all) × (bad_from 1 all ≡ None)
read_all all k words read ends = (
  read.meanings ∙ ap (filter_map word_of) (take_all k all (omega (arith, ends))),
  sym read.later ∙ at_drop_all (bad_from (k + 1)) all k (omega (arith, ends)),
)

-- words of which none is bad begin with one that is not
front : (n : ℕ) (s : List ℕ) (all : List (List ℕ)) → bad_from n (s ∷ all) ≡ None → (is_bad n s ≡ false) × (bad_from (n + 1) all ≡ None)
front n s all e = by (is_bad n s) refl e
  where
    by : (b : Bool) → is_bad n s ≡ b → cond b (Some n) (bad_from (n + 1) all) ≡ None → (b ≡ false) × (bad_from (n + 1) all ≡ None)
    by true is e = absurd cc
    by false is e = (refl, e)

-- the first of them is `proc`
starts : (s : List ℕ) (all : List (List ℕ)) → bad_from 1 (s ∷ all) ≡ None → filter_map word_of (s ∷ all) ≡ Proc ∷ filter_map word_of all
starts s all e = ap (λ o. cons_option o (filter_map word_of all)) (first_good s (front 1 s all e).0)

-- there are no more than 64
few : (n : ℕ) (all : List (List ℕ)) → n ≤ 64 → bad_from (n + 1) all ≡ None → n + length (filter_map word_of all) ≤ 64
few n [] le e = omega (arith, le)
few n (s ∷ all) le e =
    let at = front (n + 1) s all e in
    let rest = few (n + 1) all (omega (arith, le, not_last n s at.0)) at.1 in
    by (word_of s) rest
  where
    by : (o : Option Word) → n + 1 + length (filter_map word_of all) ≤ 64 → n + length (cons_option o (filter_map word_of all)) ≤ 64
    by None le = omega (arith, le)
    by (Some w) le = omega (arith, le)

-- a word that is not bad is one
one : (n : ℕ) (s : List ℕ) → is_bad n s ≡ false → (w : Word) × (word_of s ≡ Some w)
one n s e = by (word_of s) e
  where
    by : (o : Option Word) → (not (is_some o) || is_misplaced n s) ≡ false → (w : Word) × (o ≡ Some w)
    by None e = absurd cc
    by (Some w) e = (w, refl)

-- a word that may be there is `flatten`
abbrev may_flatten : Option Word → Bool
may_flatten o = option_map_or is_flatten o false

chosen_plain : (b : Bool) (w : Word) (rest : Option Word) → is_flatten w ≡ false → may_flatten rest ≡ false → may_flatten (cond b (Some w) rest) ≡ false
chosen_plain true w rest e f = e
chosen_plain false w rest e f = f

-- another spelling is of another word
plain : (s : List ℕ) → bytes_eq s (codes "flatten") ≡ false → may_flatten (word_of s) ≡ false
plain s e =
    chosen_plain (bytes_eq s (codes "proc")) Proc _ refl
    (chosen_plain (bytes_eq s (codes "opt_expr")) OptExpr _ refl
    (chosen_plain (bytes_eq s (codes "opt_merge")) OptMerge _ refl
    (chosen_plain (bytes_eq s (codes "opt_clean")) OptClean _ refl
    (chosen_plain (bytes_eq s (codes "clean")) OptClean _ refl
    (chosen_plain (bytes_eq s (codes "opt")) Opt _ refl
    (chosen_plain (bytes_eq s (codes "fsm")) Fsm _ refl
    (chosen_plain (bytes_eq s (codes "memory")) Memory _ refl
    (chosen_plain (bytes_eq s (codes "techmap")) Techmap _ refl
    (chosen_plain (bytes_eq s (codes "opt_muxtree")) Muxtree _ refl
    (chosen_plain (bytes_eq s (codes "opt_reduce")) Reduce _ refl
    (chosen_plain (bytes_eq s (codes "opt_dff")) Dff _ refl
    (ap (λ (t : Bool). may_flatten (cond t (Some Flatten) None)) e))))))))))))

-- from the third on a word that is not bad is another than `flatten`
not_flat : (n : ℕ) (s : List ℕ) → 2 < n → is_bad n s ≡ false → may_flatten (word_of s) ≡ false
not_flat n s late e = plain s (by (word_of s) ((n == 1) && not (bytes_eq s (codes "proc"))) (n == 2) (bytes_eq s (codes "flatten")) (n == 65) third e)
  where
    third : (n == 2) ≡ false
    third = grind (arith, nat_tests)

    by : (o : Option Word) (first second flat last : Bool) → second ≡ false → (not (is_some o) || ((first || (not second && flat)) || last)) ≡ false → flat ≡ false
    by None first second flat last f e = absurd cc
    by (Some w) first second false last f e = refl
    by (Some w) first true true last f e = absurd cc
    by (Some w) true false true last f e = absurd cc
    by (Some w) false false true last f e = absurd cc

flat_later : (n : ℕ) (all : List (List ℕ)) → 2 < n → bad_from n all ≡ None → list_any is_flatten (filter_map word_of all) ≡ false
flat_later n [] late e = refl
flat_later n (s ∷ all) late e =
    let at = front n s all e in
    by (word_of s) (not_flat n s late at.0) (flat_later (n + 1) all (omega (arith, late)) at.1)
  where
    by : (o : Option Word) → may_flatten o ≡ false → list_any is_flatten (filter_map word_of all) ≡ false → list_any is_flatten (cons_option o (filter_map word_of all)) ≡ false
    by None e f = f
    by (Some w) e f = (λ i. e i || f i)

-- only the second word is `flatten`
flat_second : (s : List ℕ) (all : List (List ℕ)) → bad_from 1 (s ∷ all) ≡ None → list_any is_flatten (drop 2 (filter_map word_of (s ∷ all))) ≡ false
flat_second s all e = ap (λ ws. list_any is_flatten (drop 2 ws)) (starts s all e) ∙ by all (front 1 s all e).1
  where
    by : (all : List (List ℕ)) → bad_from 2 all ≡ None → list_any is_flatten (drop 1 (filter_map word_of all)) ≡ false
    by [] e = refl
    by (t ∷ all) e =
        let at = front 2 t all e in
        let w = one 2 t at.0 in
        ap (λ o. list_any is_flatten (drop 1 (cons_option o (filter_map word_of all)))) w.1 ∙ flat_later 3 all (omega arith) at.1

-- a text without a word
pub no_script : (text : List ℕ) → bad_from 1 (words_of text) ≡ None → length (filter_map word_of (words_of text)) ≡ 0 → script_of text ≡ Err 1
no_script text e empty = by (words_of text) e empty
  where
    by : (all : List (List ℕ)) → bad_from 1 all ≡ None → length (filter_map word_of all) ≡ 0 → option_map_or Err (first_bad all) (Ok (filter_map word_of all)) ≡ Err 1
    by [] e empty = refl
    by (s ∷ all) e empty = let at = ap length (starts s all e) in absurd (omega (arith, at, empty))

-- a text with a bad word
pub bad_script : (text : List ℕ) (n : ℕ) → bad_from 1 (words_of text) ≡ Some n → script_of text ≡ Err n
bad_script text n e = by (words_of text) e
  where
    by : (all : List (List ℕ)) → bad_from 1 all ≡ Some n → option_map_or Err (first_bad all) (Ok (filter_map word_of all)) ≡ Err n
    by [] e = absurd cc
    by (s ∷ all) e = ap (λ o. option_map_or Err o (Ok (filter_map word_of (s ∷ all)))) e

-- a text without a bad word
pub good_script : (text : List ℕ) → bad_from 1 (words_of text) ≡ None → 0 < length (filter_map word_of (words_of text)) → script_of text ≡ Ok (filter_map word_of (words_of text))
good_script text e some = by (words_of text) e some
  where
    by : (all : List (List ℕ)) → bad_from 1 all ≡ None → 0 < length (filter_map word_of all) → option_map_or Err (first_bad all) (Ok (filter_map word_of all)) ≡ Ok (filter_map word_of all)
    by [] e some = absurd (omega (arith, some))
    by (s ∷ all) e some = ap (λ o. option_map_or Err o (Ok (filter_map word_of (s ∷ all)))) e

-- its words are a script
pub are_script : (all : List (List ℕ)) (words : List Word) → words ≡ filter_map word_of all → bad_from 1 all ≡ None → 0 < length words → IsScript words
are_script all words is e some = subst IsScript (sym is) (by all e (subst (λ ws. 0 < length ws) is some))
  where
    by : (all : List (List ℕ)) → bad_from 1 all ≡ None → 0 < length (filter_map word_of all) → IsScript (filter_map word_of all)
    by [] e some = absurd (omega (arith, some))
    by (s ∷ all) e some = record {
      first = ap (λ ws. slice_get ws 0) (starts s all e);
      count = omega (arith, few 0 (s ∷ all) (omega arith) e);
      flat = flat_second s all e;
    }

-- a turn of a loop over words, and its end
pub turn : {S A B : Type 0} {steps : S → Option A → S → Type 0} {v : A → B} {s : S} {all : List B} (xs : List A) (t : S) (y : Yields steps s xs t) → (r : Option A) (u : S) (x : A) → r ≡ Some x → steps t r u → YieldsList steps v s all → (length xs < length all) × (v x ≡ get_or all (length xs) (v x))
turn xs t y r u x is step road = YieldsList-turn road xs t y r u x is step

pub end : {S A B : Type 0} {steps : S → Option A → S → Type 0} {v : A → B} {s : S} {all : List B} (xs : List A) (t : S) (y : Yields steps s xs t) → (r : Option A) (u : S) → r ≡ None → steps t r u → YieldsList steps v s all → length xs ≡ length all
end xs t y r u is step road = (YieldsList-end road xs t y r u is step).1

-- what a text is read as
pub ruleset texts = (no_script, bad_script, good_script)
