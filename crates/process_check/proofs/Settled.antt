-- What is found of the values of updated bits is what the faults say.
use Rattle.std.proofs.Common.{◌≡◌, ℕ, ◌+◌, ◌<◌, ◌≤◌, min, Bool, true, false, cond, ◌&&◌, ◌||◌, List, [], ◌∷◌, length, get_or, drop, Option, Some, refl, sym, ◌∙◌, ap, subst}
use Rattle.std.proofs.lemmas.Bool.{false≢true}
use Rattle.std.proofs.lemmas.List.Folds.{list_all-append}
use Rattle.std.specs.Bool.{beq}
use Rattle.std.specs.List.{list_all}
use Rattle.rtl_sig.specs.declared.sig.SigBit.{SigBit}
use Rattle.rtl_sig.specs.declared.sig.WireBit.{WireBit}
use Rattle.rtl_ir.specs.declared.module.Module.{Module}
use Rattle.rtl_ir.specs.EventTests.{differs, switch_test}
use Rattle.rtl_ir.specs.Faults.TwoEdges.{EdgeBit, are_all, are_one_constant, is_tested, one_resets, resets_bit, resets_well}
use Rattle.rtl_ir.specs.Follow.{joins}
use Rattle.rtl_ir.specs.declared.follow.Join.{Join}
use Rattle.rtl_ir.specs.Tree.{CaseView}
use Rattle.rtl_ir.specs.Types.{Ports}
use Rattle.process_trees.specs.declared.tables.EventTests.{EventTests}
use Rattle.process_trees.specs.Tables.{AreTests}
use Rattle.process_trees.proofs.Leveled.{leveled_leaves}
use Rattle.process_trees.specs.Levels.{open_case}
use Rattle.rtl_ir.proofs.JoinPlaces.{place_added, places_all}
use Rattle.process_check.specs.Values.{WereAsked, is_settled}

-- one constant
pub settled_constant : (a b : Bool) (r : Bool) → r ≡ true → r ≡ a → r ≡ (a || b)
settled_constant a b r t e = t ∙ ap (λ x. x || b) (sym t ∙ e)

-- the bit itself, or not
pub settled_itself : (a b itself : Bool) (r s : Bool) → r ≡ false → r ≡ a → itself ≡ true → s ≡ b → s ≡ (a || (itself && b))
settled_itself a b itself r s f e i same = same ∙ ap (λ x. x && b) (sym i) ∙ ap (λ x. x || (itself && b)) (sym f ∙ e)

pub settled_neither : (a b itself : Bool) (r : Bool) → r ≡ false → r ≡ a → itself ≡ false → itself ≡ (a || (itself && b))
settled_neither a b itself r f e i = i ∙ ap (λ x. x && b) (sym i) ∙ ap (λ x. x || (itself && b)) (sym f ∙ e)

-- the next place and those behind it
line_step : (f : Join → Bool) (left right : List SigBit) (i : ℕ) (d : SigBit) → i < min (length left) (length right) → (here all : Bool)
    → here ≡ list_all f (joins (get_or left i d ∷ []) (get_or right i d ∷ [])) → list_all f (joins (drop i left) (drop i right)) ≡ all
    → (here && list_all f (joins (drop (i + 1) left) (drop (i + 1) right))) ≡ all
line_step f left right i d h here all e inv =
    let one : List Join = joins (get_or left i d ∷ []) (get_or right i d ∷ []) in
    let rest : List Join = joins (drop (i + 1) left) (drop (i + 1) right) in
    ap (λ b. b && list_all f rest) e ∙ sym (list_all-append f one rest)
    ∙ ap (list_all f) (place_added left right i d h [] one (joins (drop i left) (drop i right)) refl refl) ∙ inv

-- a place that is settled
pub line_goes_on : (f : Join → Bool) (left right : List SigBit) (i : ℕ) (d : SigBit) → i < min (length left) (length right) → (here all : Bool) → here ≡ true
    → here ≡ list_all f (joins (get_or left i d ∷ []) (get_or right i d ∷ [])) → list_all f (joins (drop i left) (drop i right)) ≡ all
    → list_all f (joins (drop (i + 1) left) (drop (i + 1) right)) ≡ all
line_goes_on f left right i d h here all t e inv =
    ap (λ b. b && list_all f (joins (drop (i + 1) left) (drop (i + 1) right))) (sym t) ∙ line_step f left right i d h here all e inv

-- a place that is not
pub line_stops : (f : Join → Bool) (left right : List SigBit) (i : ℕ) (d : SigBit) → i < min (length left) (length right) → (here all : Bool) → here ≡ false
    → here ≡ list_all f (joins (get_or left i d ∷ []) (get_or right i d ∷ [])) → list_all f (joins (drop i left) (drop i right)) ≡ all → false ≡ all
line_stops f left right i d h here all t e inv =
    ap (λ b. b && list_all f (joins (drop (i + 1) left) (drop (i + 1) right))) (sym t) ∙ line_step f left right i d h here all e inv

-- past the last place
pub line_end : (f : Join → Bool) (left right : List SigBit) (i : ℕ) → min (length left) (length right) ≤ i → (all : Bool)
    → list_all f (joins (drop i left) (drop i right)) ≡ all → true ≡ all
line_end f left right i h all e =
    let none : [] ≡ joins (drop i left) (drop i right) = places_all left right i h [] (joins (drop i left) (drop i right)) refl in
    ap (list_all f) none ∙ e

-- with the reset active each bit gets one constant or itself
pub resets_is : (ports : Ports) (m : Module) (root active : CaseView) (bits : List WireBit) (js : List Join) (reset : EdgeBit)
    → active ≡ open_case (switch_test ports m reset.bit) reset.level root → list_all (is_settled active bits true) js ≡ resets_well ports m root bits js reset
resets_is ports m root active bits js reset e =
    ap (λ r. list_all (is_settled r bits true) js) e ∙ by js
  where
    by : (ks : List Join) → list_all (is_settled (open_case (switch_test ports m reset.bit) reset.level root) bits true) ks ≡ list_all (resets_bit ports m root bits reset) ks
    by [] = refl
    by (k ∷ ks) =
        let same = sym (leveled_leaves (switch_test ports m reset.bit) reset.level root bits k.source) in
        λ i. (are_one_constant (same i) || are_all k.bit (same i)) && by ks i

-- both are tested, or neither
pub none_resets : (ports : Ports) (m : Module) (root : CaseView) (bits : List WireBit) (js : List Join) (a b : EdgeBit) (t : Bool)
    → t ≡ is_tested ports m root a → t ≡ is_tested ports m root b → false ≡ one_resets ports m root bits js a b
none_resets ports m root bits js a b t e f =
    by t ∙ (λ i. differs (e i) (f i) && resets_well ports m root bits js (cond (e i) a b))
  where
    by : (s : Bool) → false ≡ (differs s s && resets_well ports m root bits js (cond s a b))
    by true = refl
    by false = refl

-- one is tested, and not the other
pub first_resets : (ports : Ports) (m : Module) (root : CaseView) (bits : List WireBit) (js : List Join) (a b : EdgeBit) (well : Bool)
    → true ≡ is_tested ports m root a → false ≡ is_tested ports m root b → well ≡ resets_well ports m root bits js a → well ≡ one_resets ports m root bits js a b
first_resets ports m root bits js a b well e f w = w ∙ (λ i. differs (e i) (f i) && resets_well ports m root bits js (cond (e i) a b))

pub second_resets : (ports : Ports) (m : Module) (root : CaseView) (bits : List WireBit) (js : List Join) (a b : EdgeBit) (well : Bool)
    → false ≡ is_tested ports m root a → true ≡ is_tested ports m root b → well ≡ resets_well ports m root bits js b → well ≡ one_resets ports m root bits js a b
second_resets ports m root bits js a b well e f w = w ∙ (λ i. differs (e i) (f i) && resets_well ports m root bits js (cond (e i) a b))

-- tables that were made
pub were_made : (asked : Option EventTests) (tests : EventTests) (ports : Ports) (m : Module) → asked ≡ Some tests → WereAsked asked ports m → AreTests tests ports m
were_made asked tests ports m e are = subst (λ o. WereAsked o ports m) e are

-- one is true, and the other is another
pub other_false : (a b : Bool) → beq a b ≡ false → a ≡ true → false ≡ b
other_false a true n e = absurd (false≢true (sym n ∙ ap (λ x. beq x true) e))
other_false a false n e = refl

pub other_true : (a b : Bool) → beq a b ≡ false → a ≡ false → true ≡ b
other_true a true n e = refl
other_true a false n e = absurd (false≢true (sym n ∙ ap (λ x. beq x false) e))

pub both_same : (a b : Bool) → beq a b ≡ true → a ≡ b
both_same true true e = refl
both_same true false e = absurd (false≢true e)
both_same false true e = absurd (false≢true e)
both_same false false e = refl
