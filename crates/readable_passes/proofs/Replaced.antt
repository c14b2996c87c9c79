-- A module that a text can give stays one where cells come in the place of one of its cells, and connections behind all others.
use Rattle.std.proofs.Common.{◌≡◌, ℕ, ◌+◌, ◌≤◌, List, [], ◌∷◌, ◌++◌, length, inl, inr, refl, sym, ◌∙◌, ap, subst, arith, length-append}
use Rattle.std.specs.List.{All}
use Rattle.std.proofs.lemmas.List.Elements.{All-append, All-cons, All-head, All-nil, All-tail}
use Rattle.rtl_ir.specs.declared.cell.Cell.{Cell}
use Rattle.rtl_ir.specs.declared.module.Link.{Link}
use Rattle.rtl_ir.specs.declared.module.Module.{Module}
use Rattle.net_model.proofs.Members.{In-left, In-right, map-append}
use Rattle.net_model.proofs.Ranges.{each_both}
use Rattle.net_model.specs.Within.{Each}
use Rattle.pass_laws.specs.Replaces.{replacing}
use Rattle.rtl_readable.specs.Changing.{cell_names, times}
use Rattle.rtl_readable.specs.Readable.{IsCell, IsLink, IsReadableModule}
use Rattle.rtl_readable.proofs.Changing.{recelled_reads}
use Rattle.rtl_readable.proofs.Counting.{times_more}

pub all_each : {A : Type 0} (P : A → Type 0) (xs : List A) → All P xs → Each P xs
all_each P [] all x i = absurd i
all_each P (y ∷ ys) all x (inl e) = subst P (sym e) (All-head P y ys all)
all_each P (y ∷ ys) all x (inr i) = all_each P ys (All-tail P y ys all) x i

pub each_all : {A : Type 0} (P : A → Type 0) (xs : List A) → Each P xs → All P xs
each_all P [] each = All-nil P
each_all P (y ∷ ys) each = All-cons P y ys (each y (inl refl)) (each_all P ys (λ x i. each x (inr i)))

-- the names of cells between others
pub names_between : (name : List ℕ) (xs ys zs : List Cell) → times name (cell_names (xs ++ (ys ++ zs))) ≡ times name (cell_names xs) + (times name (cell_names ys) + times name (cell_names zs))
names_between name xs ys zs =
    let outer = ap (times name) (map-append (λ (c : Cell). c.name) xs (ys ++ zs)) ∙ times_more name (cell_names xs) (cell_names (ys ++ zs)) in
    let inner = ap (times name) (map-append (λ (c : Cell). c.name) ys zs) ∙ times_more name (cell_names ys) (cell_names zs) in
    omega (arith, outer, inner)

-- what may come in the place of a cell of a module
pub record MayReplace (m : Module) (c : Cell) (here : List Cell) (more : List Link) : Type 0 where
  pub cells : All (IsCell m.wires) here
  pub names : (name : List ℕ) → times name (cell_names here) ≤ times name (cell_names (c ∷ []))
  pub count : length here ≤ 1
  pub links : All (IsLink m.wires) more

pub replaced_reads : (m : Module) (pre : List Cell) (c : Cell) (post here : List Cell) (more : List Link) → m.cells ≡ pre ++ c ∷ post → IsReadableModule m → MayReplace m c here more → IsReadableModule (replacing pre here post more m)
replaced_reads m pre c post here more at is may =
    let old : Each (IsCell m.wires) (pre ++ c ∷ post) = subst (Each (IsCell m.wires)) at (all_each (IsCell m.wires) m.cells is.cells) in
    recelled_reads m (pre ++ (here ++ post)) (m.links ++ more) is (record {
      cells = each_all (IsCell m.wires) (pre ++ (here ++ post))
          (each_both (IsCell m.wires) pre (here ++ post) (λ d i. old d (In-left d pre (c ∷ post) i))
          (each_both (IsCell m.wires) here post (all_each (IsCell m.wires) here may.cells) (λ d i. old d (In-right d pre (c ∷ post) (inr i)))));
      names = λ name.
          let before : times name (cell_names m.cells) ≡ times name (cell_names (pre ++ (c ∷ [] ++ post))) = ap (λ z. times name (cell_names z)) at in
          omega (arith, before, names_between name pre (c ∷ []) post, names_between name pre here post, may.names name);
      count =
          let before : length m.cells ≡ length (pre ++ (c ∷ post)) = ap length at in
          omega (arith, before, length-append pre (c ∷ post), length-append pre (here ++ post), length-append here post, may.count);
      links = All-append (IsLink m.wires) m.links more is.links may.links;
    })
