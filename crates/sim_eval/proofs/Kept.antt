-- What is kept of the parts of a netlist is of cells within the limits of their kinds.
use Rattle.std.proofs.Common.{◌≡◌, ℕ, zero, suc, ◌<◌, Bool, true, false, ◌||◌, List, [], ◌∷◌, length, get_or, map, Some, inl, inr, refl, sym, ◌∙◌, ap, subst, arith}
use Rattle.std.specs.Prelude.{slice_get, if◌then◌else◌}
use Rattle.std.proofs.lemmas.List.{length-map}
use Rattle.std.specs.List.{list_all}
use Rattle.std.proofs.lemmas.Bool.{and_from, and_parts}
use Rattle.rtl_ir.specs.declared.module.Design.{Design}
use Rattle.rtl_ir.specs.declared.module.Module.{Module}
use Rattle.rtl_ir.specs.Flat.Driver.{Driven}
use Rattle.rtl_ir.specs.Flat.Place.{Place}
use Rattle.rtl_ir.specs.Flat.Tree.{driven_rows}
use Rattle.net_model.specs.Lists.{In}
use Rattle.net_model.specs.Within.{Each}
use Rattle.net_model.proofs.Members.{In-left, In-right}
use Rattle.flat_net.specs.declared.net.Logic.{Logic}
use Rattle.flat_net.specs.declared.net.Output.{Output as OutputOf}
use Rattle.flat_net.specs.declared.net.Part.{Part}
use Rattle.flat_net.specs.declared.net.Part.TheVariants as part
use Rattle.flat_net.specs.declared.net.Storage.{Storage}
use Rattle.flat_net.specs.declared.net.StoreBit.{StoreBit}
use Rattle.flat_net.specs.Parts.{inputs_of, output_row, part_rows, parts_rows, store_row}
use Rattle.flat_net.specs.declared.net.Net.{Net}
use Rattle.flat_net.specs.Points.{AreApart, point_of}
use Rattle.flat_net.specs.Within.{ArePartsWithin}
use Rattle.sim_eval.specs.Shapes.{HaveShapes}
use Rattle.sim_eval.specs.Sim.{IsShapedNet}
use Rattle.sim_eval.specs.First.{and_place, firsts}
use Rattle.sim_eval.specs.Limits.{are_computable, is_computable, is_empty, is_logic_within, is_part_computable, is_storage, keeps_bits}
use Rattle.sim_eval.proofs.Computable.{AreWithin, driven_within}

-- what is kept of rows stands among them
firsts_in : (seen : Place → Bool) (rows : List Driven) (r : Driven) → In r (firsts seen rows) → In r rows
firsts_in seen [] r i = absurd i
firsts_in seen (q ∷ rows) r i =
    by (firsts_in (and_place seen q.place) rows r) (seen q.place) i
  where
    by : (In r (firsts (and_place seen q.place) rows) → In r rows) → (t : Bool) → In r (if t then firsts (and_place seen q.place) rows else q ∷ firsts (and_place seen q.place) rows) → In r (q ∷ rows)
    by rest true j = inr (rest j)
    by rest false (inl e) = inl e
    by rest false (inr j) = inr (rest j)

module _ (ps : List Place) where
  logic_computable : (c : Logic) → AreWithin (map (output_row ps c.shape (inputs_of ps c)) c.outputs) → is_computable c ≡ true
  logic_computable c h =
      by c.outputs h
    where
      long : map length (inputs_of ps c) ≡ length c.a ∷ length c.b ∷ length c.s ∷ []
      long = λ i. length-map c.a (point_of ps) i ∷ length-map c.b (point_of ps) i ∷ length-map c.s (point_of ps) i ∷ []

      by : (outs : List OutputOf) → AreWithin (map (output_row ps c.shape (inputs_of ps c)) outs) → (is_empty outs || is_logic_within c.shape.kind c.shape (length c.a ∷ length c.b ∷ length c.s ∷ [])) ≡ true
      by [] k = refl
      by (o ∷ outs) k = ap (is_logic_within c.shape.kind c.shape) (sym long) ∙ k (output_row ps c.shape (inputs_of ps c) o) (inl refl)

  storage_computable : (c : Storage) → AreWithin (map (store_row ps c.shape) c.bits) → keeps_bits c ≡ true
  storage_computable c h =
      by c.bits h
    where
      by : (bits : List StoreBit) → AreWithin (map (store_row ps c.shape) bits) → (is_empty bits || is_storage c.shape.kind) ≡ true
      by [] k = refl
      by (b ∷ bits) k = k (store_row ps c.shape b) (inl refl)

  part_computable : (part : Part) → AreWithin (part_rows ps part) → is_part_computable part ≡ true
  part_computable (part.Given o) h = refl
  part_computable (part.Joined j) h = refl
  part_computable (part.Logic c) h = logic_computable c.value h
  part_computable (part.Storage c) h = storage_computable c.value h
  part_computable (part.Tree t) h = refl
  part_computable (part.Held u) h = refl
  part_computable (part.Raced r) h = refl
  part_computable (part.Remembered w) h = refl
  part_computable (part.Fetched f) h = refl

  parts_computable : (parts : List Part) → AreWithin (parts_rows ps parts) → are_computable parts ≡ true
  parts_computable [] h = refl
  parts_computable (p ∷ parts) h =
      and_from (is_part_computable p) (are_computable parts) (part_computable p (λ x i. h x (In-left x (part_rows ps p) (parts_rows ps parts) i))) (parts_computable parts (λ x i. h x (In-right x (part_rows ps p) (parts_rows ps parts) i)))

-- the first drivers of a module of a design whose cells have shapes are within the limits of their kinds
firsts_computable : (d : Design) (m : Module) (ps : List Place) (parts : List Part) → Each (λ (n : Module). HaveShapes n.cells) d.modules → In m d.modules → parts_rows ps parts ≡ firsts (λ q. false) (driven_rows d m) → are_computable parts ≡ true
firsts_computable d m ps parts shapes i e =
    parts_computable ps parts (λ x j. driven_within d shapes m i x (firsts_in (λ q. false) (driven_rows d m) x (subst (In x) e j)))

-- a module at a place is one of the modules
pub at_in : (modules : List Module) (at : ℕ) (m : Module) → slice_get modules at ≡ Some m → In m modules
at_in [] at m e = absurd (cc)
at_in (n ∷ modules) zero m e = inl (sym (cc))
at_in (n ∷ modules) (suc at) m e = inr (at_in modules at m e)

-- there is a module at each place below their number
pub module_at : (modules : List Module) (at : ℕ) → at < length modules → (m : Module) × (slice_get modules at ≡ Some m)
module_at [] at l = absurd (omega arith)
module_at (n ∷ modules) zero l = (n, refl)
module_at (n ∷ modules) (suc at) l = module_at modules at (omega arith)

-- a test that all pass is passed at each place
pub test_at : {A : Type 0} (test : A → Bool) (xs : List A) (i : ℕ) (d : A) → list_all test xs ≡ true → i < length xs → test (get_or xs i d) ≡ true
test_at test [] i d h l = absurd (omega arith)
test_at test (x ∷ xs) zero d h l = (and_parts (test x) (list_all test xs) h).0
test_at test (x ∷ xs) (suc i) d h l = test_at test xs i d (and_parts (test x) (list_all test xs) h).1 (omega arith)

-- what is kept of the parts of a netlist of a module whose cells have shapes
pub kept_computable : (net : Net) (kept : List Part) → IsShapedNet net → ((ps : List Place) → AreApart ps → length ps ≡ net.count → ArePartsWithin (length ps) net.parts → parts_rows ps kept ≡ firsts (λ q. false) (parts_rows ps net.parts)) → are_computable kept ≡ true
kept_computable net kept n rows =
    firsts_computable n.design n.body n.bits kept n.shapes n.among
    (rows n.bits n.is.apart n.is.count (subst (λ z. ArePartsWithin z net.parts) (sym n.is.count) n.is.within) ∙ ap (firsts (λ q. false)) n.is.rows)
