-- Replacements one after another.
use Rattle.std.proofs.Common.{◌≡◌, ℕ, zero, suc, ◌+◌, ◌-◌, ◌<◌, ◌≤◌, Bool, true, false, cond, List, Option, Some, None, Result, Ok, Err, refl, sym, ◌∙◌, ap, arith}
use Rattle.rtl_ir.specs.declared.cell.Cell.{Cell}
use Rattle.rtl_ir.specs.declared.module.Module.{Module}
use Rattle.rtl_ir.specs.Build.{Building, building_of}
use Rattle.rtl_ir.specs.Empty.{empty_module}
use Rattle.rtl_ir.specs.Flat.Tree.{named}
use Rattle.std.specs.Prelude.{OnOk, unwrap_or}
use Rattle.std.proofs.lemmas.List.{append-nil}
use Rattle.flat_pass.specs.Flat.{after_one, child_of, first_instance, flat_after, flat_of, is_within, replaced, turn_by}

-- a module without instances is done
pub turn_none : (n : ℕ) (below : List Module) (b : Building) → first_instance b.body.cells ≡ None → flat_after n below b ≡ Some b.body
unfolding flat_after
turn_none zero below b e = ap (turn_by (λ after. None) below b) e
turn_none (suc n) below b e = ap (turn_by (flat_after n below) below b) e

-- one replacement within the limits
pub turn_goes : (n : ℕ) (below : List Module) (b b' : Building) (r : Cell × List Cell) → first_instance b.body.cells ≡ Some r → b' ≡ after_one below b r → is_within b' ≡ true → flat_after (suc n) below b ≡ flat_after n below b'
unfolding flat_after
turn_goes n below b b' r e made within =
    ap (turn_by (flat_after n below) below b) e ∙ (λ i. cond (is_within (sym made i)) (flat_after n below (sym made i)) None) ∙ ap (λ t. cond t (flat_after n below b') None) within

-- one past them
pub turn_over : (n : ℕ) (below : List Module) (b : Building) (r : Cell × List Cell) → first_instance b.body.cells ≡ Some r → is_within (after_one below b r) ≡ false → flat_after (suc n) below b ≡ None
unfolding flat_after
turn_over n below b r e over =
    ap (turn_by (flat_after n below) below b) e ∙ ap (λ t. cond t (flat_after n below (after_one below b r)) None) over

-- one more than may be
pub turn_due : (below : List Module) (b : Building) (r : Cell × List Cell) → first_instance b.body.cells ≡ Some r → flat_after zero below b ≡ None
unfolding flat_after
turn_due below b r e = ap (turn_by (λ after. None) below b) e ∙ by (is_within (after_one below b r))
  where
    by : (t : Bool) → cond {A = Option Module} t None None ≡ None
    by true = refl
    by false = refl

-- a module in which there is nothing adds nothing
pub empty_adds : (id : List ℕ) (c : Cell) (b : Building) → replaced (empty_module id) c b ≡ b
unfolding replaced
empty_adds id c b = ap (λ links. record b { body = record b.body { links = links } }) (append-nil b.body.links)

-- an instance of a module that is found
pub found_child : (below : List Module) (id text : List ℕ) (child : Module) (c : Cell) (b : Building) → Some child ≡ named below text → text ≡ id → replaced child c b ≡ replaced (child_of below id) c b
found_child below id text child c b found read = ap (λ o. replaced (unwrap_or o (empty_module id)) c b) (found ∙ ap (named below) read)

-- an instance of a module that is missing
pub missing_child : (below : List Module) (id text : List ℕ) (c : Cell) (b : Building) → None ≡ named below text → text ≡ id → b ≡ replaced (child_of below id) c b
missing_child below id text c b missing read =
    sym (ap (λ o. replaced (unwrap_or o (empty_module id)) c b) (sym (missing ∙ ap (named below) read)) ∙ empty_adds id c b)

-- what holds is so after each answer that is Ok
pub on_ok : {A E : Type 0} {P : Type 0} (r : Result A E) → P → OnOk r P
on_ok (Ok a) p = p
on_ok (Err e) p = tt

-- the pass, by all replacements
pub flat_is : (below : List Module) (m : Module) (b b' : Building) (after : Module) → b ≡ building_of m → flat_after 1048576 below b ≡ Some b'.body → after ≡ b'.body → flat_of below m ≡ Some after
unfolding flat_of
flat_is below m b b' after start all is = ap (flat_after 1048576 below) (sym start) ∙ all ∙ ap Some (sym is)

pub flat_none : (below : List Module) (m : Module) (b : Building) → b ≡ building_of m → flat_after 1048576 below b ≡ None → flat_of below m ≡ None
unfolding flat_of
flat_none below m b start none = ap (flat_after 1048576 below) (sym start) ∙ none

-- how many replacements are left after so many
pub turns_left : (done : ℕ) → done < 1048576 → 1048576 - done ≡ suc (1048576 - (done + 1))
turns_left done h = omega (arith, h)

pub no_turn_left : (done : ℕ) → 1048576 ≤ done → 1048576 - done ≡ 0
no_turn_left done h = omega (arith, h)
