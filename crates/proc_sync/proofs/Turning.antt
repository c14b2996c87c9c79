-- Steps one after another: a module that is added to only grows, and where it passes a limit, it does with whatever is added
-- later.
use Rattle.std.proofs.Common.{◌≡◌, ℕ, ◌+◌, ◌<◌, ◌≤◌, Bool, true, false, List, [], ◌∷◌, ◌++◌, length, drop, get_or, map, add-one, append-nil, append_assoc, suc, Some, if◌then◌else◌, refl, sym, ◌∙◌, ap, subst, arith, length-append}
use Rattle.std.specs.Prelude.{filter}
use Rattle.std.proofs.Math.Seq.{drop-cons}
use Rattle.cell_types.specs.Kind.{kind_of}
use Rattle.cell_types.specs.declared.kind.CellKind.{CellKind}
use Rattle.rtl_ir.specs.Build.{Building, made_name, new_cell}
use Rattle.rtl_ir.specs.Flat.Cell.{cell_kind, instance_of, instances, listed}
use Rattle.rtl_ir.specs.declared.module.Module.{Module}
use Rattle.net_model.proofs.Swapping.{instances-append}
use Rattle.rtl_ir.specs.declared.cell.Cell.{Cell}
use Rattle.rtl_ir.specs.declared.cell.CellParam.{CellParam}
use Rattle.rtl_ir.specs.declared.cell.Pin.{Pin}
use Rattle.net_index.specs.Builder.{PassesLimit}
use Rattle.net_index.specs.Numbering.{bit_count, widths_of}
use Rattle.net_model.specs.Proc.Sync.{in_turn}

-- cells of the library went last, and all else of a module is as before; no fresh name is taken back
pub record Grows (a b : Building) : Type 0 where
  pub added : List Cell
  pub body : b.body ≡ record a.body { cells = a.body.cells ++ added }
  pub plain : instances added ≡ []
  pub names : a.next ≤ b.next

pub grows_none : (b : Building) → Grows b b
grows_none b = record {
  added = [];
  body = λ i. record b.body { cells = sym (append-nil b.body.cells) i };
  plain = refl;
  names = omega arith;
}

pub grows_more : (a b c : Building) → Grows a b → Grows b c → Grows a c
grows_more a b c g h = record {
  added = g.added ++ h.added;
  body =
      h.body
      ∙ ap (λ (m : Module). record m { cells = m.cells ++ h.added }) g.body
      ∙ (λ i. record a.body { cells = append_assoc a.body.cells g.added h.added i });
  plain = instances-append g.added h.added ∙ (λ i. g.plain i ++ h.plain i);
  names = omega (arith, g.names, h.names);
}

pub over_later : (a b : Building) → Grows a b → PassesLimit a → PassesLimit b
over_later a b g over fits =
    over (record {
      cells = omega (arith, ap (λ (m : Module). length m.cells) g.body, length-append a.body.cells g.added, fits.cells);
      bits = omega (arith, ap (λ (m : Module). bit_count (widths_of m.wires)) g.body, fits.bits);
      names = omega (arith, g.names, fits.names);
    })

-- a cell of the library
pub cell_grows : (name : List ℕ) (kind : CellKind) → kind_of name ≡ Some kind → (params : List CellParam) (pins : List Pin) (b : Building) → Grows b (new_cell name params pins b)
unfolding cell_kind
cell_grows name kind e params pins b = record {
  added = record { kind_name = name; name = made_name b.next; params = params; pins = pins; attributes = [] } ∷ [];
  body = refl;
  plain = ap (λ k. listed (instance_of (record { kind_name = name; name = made_name b.next; params = params; pins = pins; attributes = [] }) k) ++ []) e;
  names = omega arith;
}

pub turn_grows : {A : Type 0} (step : A → Building → Building) → ((x : A) (b : Building) → Grows b (step x b)) → (xs : List A) (b : Building) → Grows b (in_turn step xs b)
turn_grows step h [] b = grows_none b
turn_grows step h (x ∷ xs) b = grows_more b (step x b) (in_turn step xs (step x b)) (h x b) (turn_grows step h xs (step x b))

-- one more item, at a place
module _ {A : Type 0} (step : A → Building → Building) (xs : List A) (at : ℕ) (x : A) (h : at < length xs) (e : x ≡ get_or xs at x) where
  next : drop at xs ≡ x ∷ drop (suc at) xs
  next = drop-cons xs at x h ∙ ap (λ y. y ∷ drop (suc at) xs) (sym e)

  pub turn_goes : (b b' all : Building) → b' ≡ step x b → in_turn step (drop at xs) b ≡ all → in_turn step (drop (at + 1) xs) b' ≡ all
  turn_goes b b' all made so = (λ i. in_turn step (drop (add-one at i) xs) (made i)) ∙ ap (λ ys. in_turn step ys b) (sym next) ∙ so

  pub turn_over : ((y : A) (b : Building) → Grows b (step y b)) → (b all : Building) → in_turn step (drop at xs) b ≡ all → PassesLimit (step x b) → PassesLimit all
  turn_over grows b all so over =
      subst PassesLimit (ap (λ ys. in_turn step ys b) (sym next) ∙ so)
      (over_later (step x b) (in_turn step (drop (suc at) xs) (step x b)) (turn_grows step grows (drop (suc at) xs) (step x b)) over)

-- the same of items that are seen in another way
module _ {A B : Type 0} (step : B → Building → Building) (f : A → B) (xs : List A) (at : ℕ) (x : A) (h : at < length xs) (e : x ≡ get_or xs at x) where
  pub mapped_over : ((y : B) (b : Building) → Grows b (step y b)) → (b all : Building) → in_turn step (map f (drop at xs)) b ≡ all → PassesLimit (step (f x) b) → PassesLimit all
  mapped_over grows b all so over =
      let here : drop at xs ≡ x ∷ drop (suc at) xs = drop-cons xs at x h ∙ ap (λ y. y ∷ drop (suc at) xs) (sym e) in
      subst PassesLimit (ap (λ ys. in_turn step (map f ys) b) (sym here) ∙ so)
      (over_later (step (f x) b) (in_turn step (map f (drop (suc at) xs)) (step (f x) b)) (turn_grows step grows (map f (drop (suc at) xs)) (step (f x) b)) over)

-- steps that do the same
pub turn_same : {A : Type 0} (f g : A → Building → Building) → ((x : A) (b : Building) → f x b ≡ g x b) → (xs : List A) (b : Building) → in_turn f xs b ≡ in_turn g xs b
turn_same f g h [] b = refl
turn_same f g h (x ∷ xs) b = ap (in_turn f xs) (h x b) ∙ turn_same f g h xs (g x b)

-- a step that leaves some items out
pub turn_filter : {A : Type 0} (test : A → Bool) (step : A → Building → Building) (xs : List A) (b : Building) → in_turn (λ x. if test x then step x else λ c. c) xs b ≡ in_turn step (filter test xs) b
turn_filter test step [] b = refl
turn_filter test step (x ∷ xs) b = by (test x) (λ c. turn_filter test step xs c)
  where
    by : (t : Bool) → ((c : Building) → in_turn (λ y. if test y then step y else λ c. c) xs c ≡ in_turn step (filter test xs) c)
        → in_turn (λ y. if test y then step y else λ c. c) xs ((if t then step x else λ c. c) b) ≡ in_turn step (if t then x ∷ filter test xs else filter test xs) b
    by true r = r (step x b)
    by false r = r b
