-- A name that is put back into the text of a body gives the text of the module.
use Rattle.std.proofs.Common.{◌≡◌, ℕ, ◌+◌, List, [], ◌∷◌, ◌++◌, length, take, drop, append_assoc, Bool, true, false, refl, sym, ap, ◌∙◌, arith, length-append}
use Rattle.std.specs.Prelude.{◌==◌, nat_lt, codes}
use Rattle.std.specs.List.{All}
use Rattle.std.proofs.lemmas.Bool.Decides.{nat_tests}
use Rattle.std.proofs.lemmas.List.{take_at, drop_at}
use Rattle.std.proofs.lemmas.List.Elements.{All-head, All-tail}
use Rattle.rtl_ir.specs.declared.value.Attribute.{Attribute}
use Rattle.rtl_ir.specs.declared.module.Module.{Module}
use Rattle.rtl_write.specs.Constant.{value_text}
use Rattle.rtl_write.specs.Text.{attribute_text, attributes_text, inner_text, module_text, body_text}
use Rattle.rtl_readable.specs.Readable.{IsAttribute, AreAttributes}
use Rattle.rtl_write.specs.Bodies.{line_at, name_at, with_name}
use Rattle.rtl_write.proofs.Marks.{Lacks, lacks_by, lacks_both, lacks_first, constant_lacks, name_lacks}

-- ---- the first line that begins so

-- over the rest of a line
over_line : (first : ℕ) (line rest : List ℕ) → Lacks 10 line → line_at first false (line ++ 10 ∷ rest) ≡ length line + 1 + line_at first true rest
over_line first [] rest lacks = omega arith
over_line first (b ∷ bs) rest lacks =
    let other : (b == 10) ≡ false = All-head (λ b. (b == 10) ≡ false) b bs lacks in
    let more = over_line first bs rest (All-tail (λ b. (b == 10) ≡ false) b bs lacks) in
    ap (λ (t : Bool). line_at first t (bs ++ 10 ∷ rest) + 1) other ∙ omega (arith, more)

-- an attribute without the end of its line
abbrev attribute_line : Attribute → List ℕ
attribute_line a = codes "ttribute " ++ (a.name ++ 32 ∷ value_text a.value)

flat : (n v : List ℕ) → codes "attribute " ++ n ++ 32 ∷ v ++ codes "\n" ≡ 97 ∷ ((codes "ttribute " ++ (n ++ 32 ∷ v)) ++ 10 ∷ [])
flat n v = simp append_assoc

attribute_parts : (a : Attribute) → attribute_text [] a ≡ 97 ∷ (attribute_line a ++ 10 ∷ [])
unfolding attribute_text
attribute_parts a = flat a.name (value_text a.value)

above_line : (b : ℕ) → nat_lt 10 b ≡ true → (b == 10) ≡ false
above_line b e = grind (arith, nat_tests)

attribute_lacks : (a : Attribute) → IsAttribute a → Lacks 10 (attribute_line a)
attribute_lacks a is =
    lacks_both (codes "ttribute ") (a.name ++ 32 ∷ value_text a.value) (lacks_by (nat_lt 10) 10 above_line (codes "ttribute ") refl)
    (lacks_both a.name (32 ∷ value_text a.value) (name_lacks 10 a.name (omega arith) is.name) (lacks_first 32 (value_text a.value) refl (constant_lacks a.value is.value)))

-- the first line behind attributes
over_attributes : (remarks : List Attribute) (rest : List ℕ) → All IsAttribute remarks → line_at 109 true (attributes_text [] remarks ++ 109 ∷ rest) ≡ length (attributes_text [] remarks)
over_attributes [] rest all = refl
over_attributes (a ∷ remarks) rest all =
    let line = attribute_line a in
    let more = attributes_text [] remarks ++ 109 ∷ rest in
    let parts : attributes_text [] (a ∷ remarks) ++ 109 ∷ rest ≡ 97 ∷ (line ++ 10 ∷ more) = append_assoc (attribute_text [] a) (attributes_text [] remarks) (109 ∷ rest) ∙ ap (λ (l : List ℕ). l ++ more) (attribute_parts a) ∙ ap (λ (l : List ℕ). 97 ∷ l) (append_assoc line (10 ∷ []) more) in
    let whole : length (attributes_text [] (a ∷ remarks)) ≡ length line + 2 + length (attributes_text [] remarks) = length-append (attribute_text [] a) (attributes_text [] remarks) ∙ ap (λ (l : List ℕ). length l + length (attributes_text [] remarks)) (attribute_parts a) ∙ omega (arith, length-append line (10 ∷ [])) in
    let here = over_line 109 line more (attribute_lacks a (All-head IsAttribute a remarks all)) in
    let rest_is = over_attributes remarks rest (All-tail IsAttribute a remarks all) in
    ap (line_at 109 true) parts ∙ omega (arith, here, rest_is, whole)

-- ---- the text of a body

-- the parts of both texts: what stands before the word `module`, and what stands behind its line
pub body_parts : (m : Module) → body_text m ≡ (attributes_text [] m.attributes ++ codes "module") ++ (10 ∷ (inner_text m ++ codes "end\n"))
unfolding body_text
body_parts m =
    let a = attributes_text [] m.attributes in
    append_assoc (a ++ codes "module\n") (inner_text m) (codes "end\n") ∙ append_assoc a (codes "module\n") (inner_text m ++ codes "end\n") ∙ sym (append_assoc a (codes "module") (10 ∷ (inner_text m ++ codes "end\n")))

pub module_parts : (m : Module) → module_text m ≡ (attributes_text [] m.attributes ++ codes "module") ++ (32 ∷ (m.id ++ 10 ∷ (inner_text m ++ codes "end\n")))
unfolding module_text
module_parts m =
    let a = attributes_text [] m.attributes in
    let rest = inner_text m ++ codes "end\n" in
    append_assoc (a ++ codes "module " ++ m.id ++ codes "\n") (inner_text m) (codes "end\n") ∙ append_assoc (a ++ codes "module " ++ m.id) (codes "\n") rest ∙ append_assoc (a ++ codes "module ") m.id (10 ∷ rest)
    ∙ append_assoc a (codes "module ") (m.id ++ 10 ∷ rest) ∙ sym (append_assoc a (codes "module") (32 ∷ (m.id ++ 10 ∷ rest)))

-- the name does not count for what stands inside
pub inner_kept : (m : Module) (name : List ℕ) → inner_text (record m { id = name }) ≡ inner_text m
unfolding inner_text
inner_kept m name = refl

-- the name's place, and the text with it there
pub named_body : (m : Module) (name : List ℕ) → AreAttributes m.attributes → with_name name (body_text m) ≡ module_text (record m { id = name })
named_body m name are =
    let a = attributes_text [] m.attributes in
    let rest = inner_text m ++ codes "end\n" in
    let front = a ++ codes "module" in
    let text = front ++ 10 ∷ rest in
    let at : name_at text ≡ length front = ap (λ (l : List ℕ). line_at 109 true l + 6) (append_assoc a (codes "module") (10 ∷ rest)) ∙ ap (λ (n : ℕ). n + 6) (over_attributes m.attributes (codes "odule" ++ 10 ∷ rest) are.each) ∙ sym (length-append a (codes "module")) in
    let join : List ℕ → List ℕ → List ℕ = λ (x y : List ℕ). x ++ 32 ∷ name ++ y in
    ap (with_name name) (body_parts m)
    ∙ ap (λ (n : ℕ). join (take n text) (drop n text)) at
    ∙ ap (λ (x : List ℕ). join x (drop (length front) text)) (take_at front (10 ∷ rest) (length front) refl)
    ∙ ap (join front) (drop_at front (10 ∷ rest) (length front) refl)
    ∙ append_assoc front (32 ∷ name) (10 ∷ rest)
    ∙ ap (λ (l : List ℕ). front ++ 32 ∷ (name ++ 10 ∷ (l ++ codes "end\n"))) (sym (inner_kept m name))
    ∙ sym (module_parts (record m { id = name }))
