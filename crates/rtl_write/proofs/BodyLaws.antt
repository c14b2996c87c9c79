-- Of modules that a text can give, equal bodies have equal texts, and different bodies different texts.
use Rattle.std.proofs.Common.{◌≡◌, ℕ, List, [], ◌∷◌, ◌++◌, append-nil, sym, ap, subst, ◌∙◌, arith}
use Rattle.std.specs.Prelude.{codes, ◌↔◌}
use Rattle.std.specs.List.{IsDistinct}
use Rattle.std.proofs.lemmas.List.Elements.{All-nil, All-cons}
use Rattle.rtl_ir.specs.declared.module.Module.{Module}
use Rattle.rtl_ir.specs.declared.module.Design.{Design}
use Rattle.rtl_read.specs.Reads.{Reads}
use Rattle.rtl_read.proofs.Unique.{one_design}
use Rattle.rtl_write.specs.Text.{attributes_text, inner_text, module_text, body_text}
use Rattle.rtl_readable.specs.Readable.{IsName, IsReadableModule, IsReadable}
use Rattle.rtl_write.specs.Bodies.{with_name, HasPlaceForName}
use Rattle.rtl_write.proofs.BodyLemmas.{body_parts, module_parts, inner_kept, named_body}
use Rattle.rtl_write.proofs.Trip.{reads_design}

-- a design of one module
abbrev pub alone : Module → Design
alone m = record { modules = m ∷ [] }

pub readable_alone : (m : Module) → IsReadableModule m → IsReadable (alone m)
unfolding IsDistinct
readable_alone m is = record { modules = All-cons IsReadableModule m [] is (All-nil IsReadableModule); distinct = (tt, tt); count = omega arith }

-- the module under another name
pub readable_named : (m : Module) (name : List ℕ) → IsReadableModule m → IsName name → IsReadableModule (record m { id = name })
readable_named m name is form = record {
  id = form;
  attributes = is.attributes;
  parameters = is.parameters;
  wires = is.wires;
  memories = is.memories;
  cells = is.cells;
  processes = is.processes;
  links = is.links;
  distinct = is.distinct;
  bits = is.bits;
  count = is.count;
}

-- the text of a body with a name is read as the module of this name
pub reads_named : (m : Module) (name : List ℕ) → IsReadableModule m → IsName name → Reads (with_name name (body_text m)) (alone (record m { id = name }))
reads_named m name is form =
    let n : Module = record m { id = name } in
    subst (λ (text : List ℕ). Reads text (alone n)) (append-nil (module_text n) ∙ sym (named_body m name is.attributes)) (reads_design (alone n) (readable_alone n (readable_named m name is form)))

first_of : (m n : Module) → alone m ≡ alone n → m ≡ n
first_of m n e =
    let same : m ∷ [] ≡ n ∷ [] = ap (λ (d : Design). d.modules) e in
    cc

-- equal texts of bodies are texts of equal bodies
same_body : (m n : Module) → IsReadableModule m → IsReadableModule n → body_text m ≡ body_text n → record m { id = n.id } ≡ n
same_body m n is on e =
    let texts : with_name n.id (body_text m) ≡ with_name n.id (body_text n) = ap (with_name n.id) e in
    first_of (record m { id = n.id }) n
    (one_design (with_name n.id (body_text n)) (alone (record m { id = n.id })) (alone n) (subst (λ (text : List ℕ). Reads text (alone (record m { id = n.id }))) texts (reads_named m n.id is on.id)) (reads_named n n.id on on.id))

-- the text of a body does not depend on the name
pub body_kept : (m : Module) (name : List ℕ) → body_text (record m { id = name }) ≡ body_text m
body_kept m name =
    let front = attributes_text [] m.attributes ++ codes "module" in
    body_parts (record m { id = name }) ∙ ap (λ (l : List ℕ). front ++ 10 ∷ (l ++ codes "end\n")) (inner_kept m name) ∙ sym (body_parts m)

pub equal_texts : (m n : Module) → IsReadableModule m → IsReadableModule n → (body_text m ≡ body_text n) ↔ (record m { id = n.id } ≡ n)
equal_texts m n is on = (same_body m n is on, λ e. sym (body_kept m n.id) ∙ ap body_text e)

-- the place of the name in the text of a module
pub place_for_name : (m : Module) → HasPlaceForName m
place_for_name m = record {
  front = attributes_text [] m.attributes ++ codes "module";
  back = 10 ∷ (inner_text m ++ codes "end\n");
  body = body_parts m;
  whole = module_parts m;
}
