-- Runs of places of one class: together they are the places, and each is short.
use Rattle.std.proofs.Common.{◌≡◌, ◌≤◌, ◌<◌, ℕ, ◌+◌, Bool, true, false, List, [], ◌∷◌, ◌++◌, length, if◌then◌else◌, inl, inr, ⊎_elim, refl, sym, ◌∙◌, ap, append_assoc, arith, length-append}
use Rattle.std.specs.Prelude.{◌&&◌, filter, flat_map, nat_lt}
use Rattle.std.proofs.lemmas.Bool.{and_parts, ltb-true}
use Rattle.rtl_ir.specs.Follow.{all_joins, joins}
use Rattle.rtl_ir.specs.declared.follow.Join.{Join}
use Rattle.rtl_ir.specs.declared.module.Link.{Link}
use Rattle.net_model.proofs.Members.{In-cases}
use Rattle.net_model.proofs.Ranges.{each_both, each_more, each_none}
use Rattle.net_model.specs.Lists.{In}
use Rattle.net_model.specs.Proc.Sync.{Class, Plain, Resets, Loads, Run, classed, classed_behind, runs_of, same_class}
use Rattle.net_model.specs.Within.{Each}
use Rattle.sync_laws.proofs.Parts.{asked_class}

pub class_is : (a b : Class) → same_class a b ≡ true → a ≡ b
class_is Plain Plain e = refl
class_is Resets Resets e = refl
class_is Loads Loads e = refl
class_is Plain Resets e = absurd (cc)
class_is Plain Loads e = absurd (cc)
class_is Resets Plain e = absurd (cc)
class_is Resets Loads e = absurd (cc)
class_is Loads Plain e = absurd (cc)
class_is Loads Resets e = absurd (cc)

-- a run has a place, at most 4,096, and all of one class
pub record IsRun (f : Join → Class) (run : Run) : Type 0 where
  pub some : 0 < length run.places
  pub few : length run.places ≤ 4096
  pub alike : Each (λ (j : Join). f j ≡ run.class) run.places

-- the places of runs
abbrev pub together : List Run → List Join
together runs = flat_map (λ (run : Run). run.places) runs

module _ (f : Join → Class) where
  behind_are : (class : Class) (run : List Join) (n : ℕ) (js : List Join) → together (classed_behind f class run n js) ≡ run ++ js
  behind_are class run n [] = refl
  behind_are class run n (j ∷ js) =
      by (same_class class (f j) && nat_lt n 4096) (behind_are class (run ++ j ∷ []) (n + 1) js) (behind_are (f j) (j ∷ []) 1 js)
    where
      by : (t : Bool) → together (classed_behind f class (run ++ j ∷ []) (n + 1) js) ≡ (run ++ j ∷ []) ++ js → together (classed_behind f (f j) (j ∷ []) 1 js) ≡ j ∷ js
          → together (if t then classed_behind f class (run ++ j ∷ []) (n + 1) js else record { class = class; places = run } ∷ classed_behind f (f j) (j ∷ []) 1 js) ≡ run ++ j ∷ js
      by true e g = e ∙ append_assoc run (j ∷ []) js
      by false e g = ap (λ z. run ++ z) g

  behind_fit : (class : Class) (run : List Join) (n : ℕ) (js : List Join) → length run ≡ n → 0 < n → n ≤ 4096 → Each (λ (j : Join). f j ≡ class) run → Each (IsRun f) (classed_behind f class run n js)
  behind_fit class run n [] e some few alike =
      each_more (IsRun f) (record { class = class; places = run }) [] (record { some = omega (arith, e, some); few = omega (arith, e, few); alike = alike }) (each_none (IsRun f))
  behind_fit class run n (j ∷ js) e some few alike =
      by (same_class class (f j) && nat_lt n 4096) refl
      (λ room same. behind_fit class (run ++ j ∷ []) (n + 1) js (omega (arith, e, length-append run (j ∷ []))) (omega arith) room (each_both (λ (i : Join). f i ≡ class) run (j ∷ []) alike (each_more (λ (i : Join). f i ≡ class) j [] (sym same) (each_none (λ (i : Join). f i ≡ class)))))
      (behind_fit (f j) (j ∷ []) 1 js refl (omega arith) (omega arith) (each_more (λ (i : Join). f i ≡ f j) j [] refl (each_none (λ (i : Join). f i ≡ f j))))
    where
      by : (t : Bool) → (same_class class (f j) && nat_lt n 4096) ≡ t → (n + 1 ≤ 4096 → class ≡ f j → Each (IsRun f) (classed_behind f class (run ++ j ∷ []) (n + 1) js)) → Each (IsRun f) (classed_behind f (f j) (j ∷ []) 1 js)
          → Each (IsRun f) (if t then classed_behind f class (run ++ j ∷ []) (n + 1) js else record { class = class; places = run } ∷ classed_behind f (f j) (j ∷ []) 1 js)
      by true g longer cut =
          let both = and_parts (same_class class (f j)) (nat_lt n 4096) g in
          let room : n < 4096 = ltb-true n 4096 both.1 in
          longer (omega (arith, room)) (class_is class (f j) both.0)
      by false g longer cut =
          each_more (IsRun f) (record { class = class; places = run }) _ (record { some = omega (arith, e, some); few = omega (arith, e, few); alike = alike }) cut

  pub classed_are : (js : List Join) → together (classed f js) ≡ js
  classed_are [] = refl
  classed_are (j ∷ js) = behind_are (f j) (j ∷ []) 1 js

  pub classed_fit : (js : List Join) → Each (IsRun f) (classed f js)
  classed_fit [] = each_none (IsRun f)
  classed_fit (j ∷ js) =
      behind_fit (f j) (j ∷ []) 1 js refl (omega arith) (omega arith) (each_more (λ (i : Join). f i ≡ f j) j [] refl (each_none (λ (i : Join). f i ≡ f j)))

-- the runs of places that are asked for have these places
filter_all : (asked : Join → Bool) (js rest : List Join) → Each (λ (j : Join). asked j ≡ true) js → filter asked (js ++ rest) ≡ js ++ filter asked rest
filter_all asked [] rest h = refl
filter_all asked (j ∷ js) rest h =
    ap (λ t. if t then j ∷ filter asked (js ++ rest) else filter asked (js ++ rest)) (h j (inl refl))
    ∙ ap (λ z. j ∷ z) (filter_all asked js rest (λ x i. h x (inr i)))

filter_none : (asked : Join → Bool) (js rest : List Join) → Each (λ (j : Join). asked j ≡ false) js → filter asked (js ++ rest) ≡ filter asked rest
filter_none asked [] rest h = refl
filter_none asked (j ∷ js) rest h =
    ap (λ t. if t then j ∷ filter asked (js ++ rest) else filter asked (js ++ rest)) (h j (inl refl))
    ∙ filter_none asked js rest (λ x i. h x (inr i))

is_asked : (t : Bool) → (if t then Plain else Loads) ≡ Plain → t ≡ true
is_asked true e = refl
is_asked false e = absurd (cc)

not_asked : (t : Bool) (class : Class) → (if t then Plain else Loads) ≡ class → same_class class Plain ≡ false → t ≡ false
not_asked false class e f = refl
not_asked true Plain e f = absurd (cc)
not_asked true Resets e f = absurd (cc)
not_asked true Loads e f = absurd (cc)

kept_are : (asked : Join → Bool) (runs : List Run) → Each (IsRun (asked_class asked)) runs → together (runs_of Plain runs) ≡ filter asked (together runs)
kept_are asked [] h = refl
kept_are asked (run ∷ runs) h =
    by (same_class run.class Plain) refl (kept_are asked runs (λ x i. h x (inr i)))
  where
    here : IsRun (asked_class asked) run
    here = h run (inl refl)

    by : (t : Bool) → same_class run.class Plain ≡ t → together (runs_of Plain runs) ≡ filter asked (together runs) → together (if t then run ∷ runs_of Plain runs else runs_of Plain runs) ≡ filter asked (run.places ++ together runs)
    by true e g =
        ap (λ z. run.places ++ z) g
        ∙ sym (filter_all asked run.places (together runs) (λ j i. is_asked (asked j) (here.alike j i ∙ class_is run.class Plain e)))
    by false e g =
        g ∙ sym (filter_none asked run.places (together runs) (λ j i. not_asked (asked j) run.class (here.alike j i) e))

pub asked_are : (asked : Join → Bool) (js : List Join) → together (runs_of Plain (classed (asked_class asked) js)) ≡ filter asked js
asked_are asked js =
    kept_are asked (classed (asked_class asked) js) (classed_fit (asked_class asked) js)
    ∙ ap (filter asked) (classed_are (asked_class asked) js)

-- a place of runs is one of a run
pub record IsInRun (runs : List Run) (j : Join) : Type 0 where
  pub run : Run
  pub there : In run runs
  pub place : In j run.places

pub in_run : (runs : List Run) (j : Join) → In j (together runs) → IsInRun runs j
in_run [] j i = absurd i
in_run (run ∷ runs) j i =
    ⊎_elim
    (λ l. record { run = run; there = inl refl; place = l })
    (λ r. let k = in_run runs j r in record { run = k.run; there = inr k.there; place = k.place })
    (In-cases j run.places (together runs) i)

-- a place of several lines is one of a line
pub record IsInLine (lines : List Link) (f : Link → List Join) (j : Join) : Type 0 where
  pub line : Link
  pub there : In line lines
  pub place : In j (f line)

pub in_line : (f : Link → List Join) (lines : List Link) (j : Join) → In j (flat_map f lines) → IsInLine lines f j
in_line f [] j i = absurd i
in_line f (l ∷ lines) j i =
    ⊎_elim
    (λ h. record { line = l; there = inl refl; place = h })
    (λ r. let k = in_line f lines j r in record { line = k.line; there = inr k.there; place = k.place })
    (In-cases j (f l) (flat_map f lines) i)

-- the places of lines that are asked for, line by line
pub filter_append : (asked : Join → Bool) (xs ys : List Join) → filter asked (xs ++ ys) ≡ filter asked xs ++ filter asked ys
filter_append asked [] ys = refl
filter_append asked (x ∷ xs) ys = by (asked x) (filter_append asked xs ys)
  where
    by : (t : Bool) → filter asked (xs ++ ys) ≡ filter asked xs ++ filter asked ys → (if t then x ∷ filter asked (xs ++ ys) else filter asked (xs ++ ys)) ≡ (if t then x ∷ filter asked xs else filter asked xs) ++ filter asked ys
    by true e = ap (λ z. x ∷ z) e
    by false e = e

pub filter_lines : (asked : Join → Bool) (lines : List Link) → filter asked (all_joins lines) ≡ flat_map (λ (l : Link). filter asked (joins l.left l.right)) lines
filter_lines asked [] = refl
filter_lines asked (l ∷ lines) =
    filter_append asked (joins l.left l.right) (all_joins lines)
    ∙ ap (λ z. filter asked (joins l.left l.right) ++ z) (filter_lines asked lines)

-- where all is asked for, all is kept
pub filter_each : (js : List Join) → filter (λ (j : Join). true) js ≡ js
filter_each [] = refl
filter_each (j ∷ js) = ap (λ z. j ∷ z) (filter_each js)
