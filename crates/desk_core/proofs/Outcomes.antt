-- The outcomes of the results beside modules.
use Rattle.std.proofs.Common.{◌≡◌, ◌⊎◌, inl, inr, ℕ, zero, suc, ◌+◌, ◌<◌, ◌≤◌, List, [], ◌∷◌, ◌++◌, true, false, length, drop, get_or, min, slice_get, Option, Some, None, refl, sym, ap, subst, ◌∙◌, arith, true≢false, add-one, drop-cons, append_assoc}
use Rattle.std.specs.Prelude.{map}
use Rattle.std.specs.List.{flat_map, list_all}
use Rattle.std.proofs.lemmas.List.{append-nil, map-append}
use Rattle.flat_net.specs.declared.titled.Titled.{Titled}
use Rattle.flat_net.specs.Titled.{HaveNoProcess, titled_module}
use Rattle.net_model.specs.Within.{Each}
use Rattle.rtl_write.specs.Text.{module_text}
use Rattle.std.specs.Option.{is_some, option_or}
use Rattle.std.proofs.Math.ListN.{drop_of_length-le}
use Rattle.rtl_ir.specs.declared.module.Design.{Design}
use Rattle.rtl_ir.specs.declared.module.Module.{Module}
use Rattle.build_crew.specs.Kept.{kept_by}
use Rattle.script_core.specs.Keys.{KeyParts}
use Rattle.script_core.specs.declared.built.Built.{Built}
use Rattle.script_core.specs.declared.outcome.Outcome.{Outcome}
use Rattle.script_core.specs.declared.outcome.Outcome.TheVariants.{Done, Over}
use Rattle.script_core.specs.declared.word.Word.{Word}
use Rattle.script_core.specs.Built.{IsValueOf}
use Rattle.script_core.specs.Cold.{cold, named, outcome_of}
use Rattle.script_core.proofs.Refining.{value_named}
use Rattle.desk_core.specs.declared.results.Results.{Results}
use Rattle.desk_core.specs.Netlist.{done_modules, over_line, over_words}
use Rattle.desk_core.specs.Shaped.{IsShaped}
use Rattle.desk_core.specs.Results.{AreBeside, AreFound, AreSound, outcome_beside, outcomes_of, over_beside, over_of}

-- the results beside the modules from a place on begin with that one
pub front : {X : Type 0} (xs : List X) (at : ℕ) (x : X) → at < length xs → x ≡ get_or xs at x → drop at xs ≡ x ∷ drop (at + 1) xs
front xs at x lt is = rw add-one (drop-cons xs at x lt ∙ ap (λ y. y ∷ drop (suc at) xs) (sym is))

no_found : (ms : List Module) → outcomes_of ms [] ≡ []
no_found [] = refl
no_found (m ∷ ms) = refl

none_over_found : (ms : List Module) → over_of ms [] ≡ None
none_over_found [] = refl
none_over_found (m ∷ ms) = refl

-- the outcomes from a place on: that beside it, and the others
pub outcomes_next : (ms : List Module) (fs : List (Option Built)) (at : ℕ) (m : Module) (r : Option Built) → at < length ms → at < length fs → m ≡ get_or ms at m → r ≡ get_or fs at r
    → outcomes_of (drop at ms) (drop at fs) ≡ outcome_beside m r ++ outcomes_of (drop (at + 1) ms) (drop (at + 1) fs)
outcomes_next ms fs at m r lm lf im ir =
    ap (λ (l : List Module). outcomes_of l (drop at fs)) (front ms at m lm im)
    ∙ ap (λ (l : List (Option Built)). outcomes_of (m ∷ drop (at + 1) ms) l) (front fs at r lf ir)

pub over_next : (ms : List Module) (fs : List (Option Built)) (at : ℕ) (m : Module) (r : Option Built) → at < length ms → at < length fs → m ≡ get_or ms at m → r ≡ get_or fs at r
    → over_of (drop at ms) (drop at fs) ≡ option_or (over_beside m r) (over_of (drop (at + 1) ms) (drop (at + 1) fs))
over_next ms fs at m r lm lf im ir =
    ap (λ (l : List Module). over_of l (drop at fs)) (front ms at m lm im)
    ∙ ap (λ (l : List (Option Built)). over_of (m ∷ drop (at + 1) ms) l) (front fs at r lf ir)

pub split : (a b : ℕ) → (a ≤ b) ⊎ (b < a)
split zero b = inl (omega arith)
split (suc a) zero = inr (omega arith)
split (suc a) (suc b) = by (split a b)
  where
    by : (a ≤ b) ⊎ (b < a) → (suc a ≤ suc b) ⊎ (suc b < suc a)
    by (inl h) = inl (omega (arith, h))
    by (inr h) = inr (omega (arith, h))

-- none is left
pub outcomes_end : (ms : List Module) (fs : List (Option Built)) (at : ℕ) → min (length ms) (length fs) ≤ at → outcomes_of (drop at ms) (drop at fs) ≡ []
outcomes_end ms fs at le = by (split (length ms) at)
  where
    by : (length ms ≤ at) ⊎ (at < length ms) → outcomes_of (drop at ms) (drop at fs) ≡ []
    by (inl past) = ap (λ (k : List Module). outcomes_of k (drop at fs)) (drop_of_length-le ms past)
    by (inr inside) = ap (outcomes_of (drop at ms)) (drop_of_length-le fs (omega (arith, le, inside))) ∙ no_found (drop at ms)

pub over_end : (ms : List Module) (fs : List (Option Built)) (at : ℕ) → min (length ms) (length fs) ≤ at → over_of (drop at ms) (drop at fs) ≡ None
over_end ms fs at le = by (split (length ms) at)
  where
    by : (length ms ≤ at) ⊎ (at < length ms) → over_of (drop at ms) (drop at fs) ≡ None
    by (inl past) = ap (λ (k : List Module). over_of k (drop at fs)) (drop_of_length-le ms past)
    by (inr inside) = ap (over_of (drop at ms)) (drop_of_length-le fs (omega (arith, le, inside))) ∙ none_over_found (drop at ms)

-- a module without an error is passed over
pub over_passes : (ms : List Module) (fs : List (Option Built)) (at : ℕ) (m : Module) (r : Option Built) (words : Option (List ℕ)) (all : Option (List ℕ)) → at < length ms → at < length fs → m ≡ get_or ms at m → r ≡ get_or fs at r
    → words ≡ over_beside m r → is_some words ≡ false → over_of (drop at ms) (drop at fs) ≡ all → over_of (drop (at + 1) ms) (drop (at + 1) fs) ≡ all
over_passes ms fs at m r None all lm lf im ir is none before =
    sym (over_next ms fs at m r lm lf im ir ∙ ap (λ (w : Option (List ℕ)). option_or w (over_of (drop (at + 1) ms) (drop (at + 1) fs))) (sym is)) ∙ before
over_passes ms fs at m r (Some w) all lm lf im ir is none before = absurd (true≢false none)

-- the first one that has one
pub over_stops : (ms : List Module) (fs : List (Option Built)) (at : ℕ) (m : Module) (r : Option Built) (words : Option (List ℕ)) (all : Option (List ℕ)) → at < length ms → at < length fs → m ≡ get_or ms at m → r ≡ get_or fs at r
    → words ≡ over_beside m r → is_some words ≡ true → over_of (drop at ms) (drop at fs) ≡ all → words ≡ all
over_stops ms fs at m r None all lm lf im ir is some before = absurd (true≢false (sym some))
over_stops ms fs at m r (Some w) all lm lf im ir is some before =
    sym (over_next ms fs at m r lm lf im ir ∙ ap (λ (w : Option (List ℕ)). option_or w (over_of (drop (at + 1) ms) (drop (at + 1) fs))) (sym is)) ∙ before

-- none is left
pub over_ends : (ms : List Module) (fs : List (Option Built)) (at : ℕ) (all : Option (List ℕ)) → min (length ms) (length fs) ≤ at → over_of (drop at ms) (drop at fs) ≡ all → None ≡ all
over_ends ms fs at all le before = sym (over_end ms fs at le) ∙ before

-- the modules of outcomes, one after another
pub done_append : (a b : List Outcome) → done_modules (a ++ b) ≡ done_modules a ++ done_modules b
done_append [] b = refl
done_append (Done m ∷ a) b = ap (λ (l : List Module). m ∷ l) (done_append a b)
done_append (Over word ∷ a) b = done_append a b

-- modules that are lent, with one more
pub lent_done : (old new : List Titled) (t : Titled) → new ≡ old ++ t ∷ [] → map titled_module new ≡ map titled_module old ++ titled_module t ∷ []
lent_done old new t is = ap (map titled_module) is ∙ map-append titled_module old (t ∷ [])

pub lent_none : (all : List Titled) → map titled_module all ≡ map titled_module all ++ []
lent_none all = sym (append-nil (map titled_module all))

-- the modules so far, with that of one result more
pub copies_next : (ms : List Module) (fs : List (Option Built)) (at : ℕ) (m : Module) (r : Option Built) (copies more all : List Module) → at < length ms → at < length fs → m ≡ get_or ms at m → r ≡ get_or fs at r
    → more ≡ copies ++ done_modules (outcome_beside m r) → copies ++ done_modules (outcomes_of (drop at ms) (drop at fs)) ≡ all → more ++ done_modules (outcomes_of (drop (at + 1) ms) (drop (at + 1) fs)) ≡ all
copies_next ms fs at m r copies more all lm lf im ir is before =
    ap (λ (l : List Module). l ++ done_modules (outcomes_of (drop (at + 1) ms) (drop (at + 1) fs))) is
    ∙ append_assoc copies (done_modules (outcome_beside m r)) (done_modules (outcomes_of (drop (at + 1) ms) (drop (at + 1) fs)))
    ∙ ap (λ (l : List Module). copies ++ l) (sym (ap done_modules (outcomes_next ms fs at m r lm lf im ir) ∙ done_append (outcome_beside m r) (outcomes_of (drop (at + 1) ms) (drop (at + 1) fs))))
    ∙ before

pub copies_end : (ms : List Module) (fs : List (Option Built)) (at : ℕ) (copies all : List Module) → min (length ms) (length fs) ≤ at → copies ++ done_modules (outcomes_of (drop at ms) (drop at fs)) ≡ all → copies ≡ all
copies_end ms fs at copies all le before =
    sym (append-nil copies) ∙ sym (ap (λ (os : List Outcome). copies ++ done_modules os) (outcomes_end ms fs at le)) ∙ before

texts_append : (a b : List Module) → flat_map module_text (a ++ b) ≡ flat_map module_text a ++ flat_map module_text b
texts_append [] b = refl
texts_append (m ∷ a) b = ap (λ (t : List ℕ). module_text m ++ t) (texts_append a b) ∙ sym (append_assoc (module_text m) (flat_map module_text a) (flat_map module_text b))

-- the text so far, with that of one result more
pub texts_next : (ms : List Module) (fs : List (Option Built)) (at : ℕ) (m : Module) (r : Option Built) (out more all : List ℕ) → at < length ms → at < length fs → m ≡ get_or ms at m → r ≡ get_or fs at r
    → more ≡ out ++ flat_map module_text (done_modules (outcome_beside m r)) → out ++ flat_map module_text (done_modules (outcomes_of (drop at ms) (drop at fs))) ≡ all
    → more ++ flat_map module_text (done_modules (outcomes_of (drop (at + 1) ms) (drop (at + 1) fs))) ≡ all
texts_next ms fs at m r out more all lm lf im ir is before =
    let rest = outcomes_of (drop (at + 1) ms) (drop (at + 1) fs) in
    ap (λ (t : List ℕ). t ++ flat_map module_text (done_modules rest)) is
    ∙ append_assoc out (flat_map module_text (done_modules (outcome_beside m r))) (flat_map module_text (done_modules rest))
    ∙ ap (λ (t : List ℕ). out ++ t)
    (sym (ap (λ (os : List Outcome). flat_map module_text (done_modules os)) (outcomes_next ms fs at m r lm lf im ir)
    ∙ ap (flat_map module_text) (done_append (outcome_beside m r) rest)
    ∙ texts_append (done_modules (outcome_beside m r)) (done_modules rest)))
    ∙ before

pub texts_end : (ms : List Module) (fs : List (Option Built)) (at : ℕ) (out all : List ℕ) → min (length ms) (length fs) ≤ at → out ++ flat_map module_text (done_modules (outcomes_of (drop at ms) (drop at fs))) ≡ all → out ≡ all
texts_end ms fs at out all le before =
    sym (append-nil out) ∙ sym (ap (λ (os : List Outcome). out ++ flat_map module_text (done_modules os)) (outcomes_end ms fs at le)) ∙ before

pub outcomes_are : (f : Module → Outcome) (ms : List Module) (found : List (Option Built))
    → ((i : ℕ) (m : Module) (b : Built) → slice_get ms i ≡ Some m → slice_get found i ≡ Some (Some b) → named m.id b.outcome ≡ f m)
    → length found ≡ length ms → list_all is_some found ≡ true → outcomes_of ms found ≡ map f ms
outcomes_are f [] found h e all = refl
outcomes_are f (m ∷ ms) [] h e all = absurd (omega arith)
outcomes_are f (m ∷ ms) (None ∷ found) h e all = absurd (true≢false (sym all))
outcomes_are f (m ∷ ms) (Some b ∷ found) h e all =
    ap (λ (o : Outcome). o ∷ outcomes_of ms found) (h zero m b refl refl)
    ∙ ap (λ (os : List Outcome). f m ∷ os) (outcomes_are f ms found (λ i k c at there. h (suc i) k c at there) (omega arith) all)

-- where beside each module stands its result, the outcomes are those of the cold run
pub outcomes_beside : (keys : List (List ℕ)) (design : Design) (script : List Word) (found : List (Option Built)) → AreBeside keys design script found → AreFound found
    → outcomes_of design.modules found ≡ cold script design
outcomes_beside keys design script found h all =
    outcomes_are (outcome_of script design.modules) design.modules found
    (λ i m b at there.
    let own = h.own i b there in
    value_named design h.readable i m at script b.outcome (subst (λ (k : KeyParts). IsValueOf k b.outcome) own.key own.value))
    h.beside all

pub outcomes_cold : (design : Design) (script : List Word) (results : Results) → AreSound design script results → AreFound results.found.items
    → outcomes_of design.modules results.found.items ≡ cold script design
outcomes_cold design script results h all =
    outcomes_beside (kept_by results.seats.items) design script results.found.items (record { readable = h.readable; beside = h.beside; own = h.own }) all

-- the error by the results beside modules is that by their outcomes
pub over_outcomes : (ms : List Module) (found : List (Option Built)) → length found ≡ length ms → list_all is_some found ≡ true → over_of ms found ≡ over_words ms (outcomes_of ms found)
over_outcomes [] found e all = refl
over_outcomes (m ∷ ms) [] e all = absurd (omega arith)
over_outcomes (m ∷ ms) (None ∷ found) e all = absurd (true≢false (sym all))
over_outcomes (m ∷ ms) (Some b ∷ found) e all =
    ap (option_or (over_line m b.outcome)) (over_outcomes ms found (omega arith) all)
    ∙ ap (λ (w : Option (List ℕ)). option_or w (over_words ms (outcomes_of ms found))) (by b.outcome)
  where
    by : (o : Outcome) → over_line m o ≡ over_line m (named m.id o)
    by (Done n) = refl
    by (Over word) = refl

pub over_found : (keys : List (List ℕ)) (design : Design) (script : List Word) (found : List (Option Built)) → AreBeside keys design script found → AreFound found
    → over_of design.modules found ≡ over_words design.modules (cold script design)
over_found keys design script found h all =
    over_outcomes design.modules found h.beside all ∙ ap (over_words design.modules) (outcomes_beside keys design script found h all)

pub over_cold : (design : Design) (script : List Word) (results : Results) → AreSound design script results → AreFound results.found.items
    → over_of design.modules results.found.items ≡ over_words design.modules (cold script design)
over_cold design script results h all =
    over_found (kept_by results.seats.items) design script results.found.items (record { readable = h.readable; beside = h.beside; own = h.own }) all

-- where no outcome is over a limit, they are those of a netlist
pub none_over : (f : Module → Outcome) (ms : List Module) → over_words ms (map f ms) ≡ None → map f ms ≡ map Done (done_modules (map f ms))
none_over f [] e = refl
none_over f (m ∷ ms) e = by (f m) (none_over f ms) e
  where
    by : (o : Outcome) → (over_words ms (map f ms) ≡ None → map f ms ≡ map Done (done_modules (map f ms))) → over_words (m ∷ ms) (o ∷ map f ms) ≡ None → (o ∷ map f ms) ≡ map Done (done_modules (o ∷ map f ms))
    by (Done n) later h = ap (λ (os : List Outcome). Done n ∷ os) (later h)
    by (Over word) later h = absurd cc

-- lent modules of shapes
pub lent_plain : (lent : List Titled) → Each IsShaped (map titled_module lent) → HaveNoProcess lent
lent_plain [] h = tt
lent_plain (t ∷ lent) h = ((h (titled_module t) (inl refl)).processes, lent_plain lent (λ m i. h m (inr i)))
