-- What is written of a table of ports gives the table again.
use Rattle.std.proofs.Common.{◌≡◌, ℕ, ◌^◌, List, [], ◌∷◌, ◌++◌, length, append_assoc, append-nil, Option, Some, Bool, true, false, refl, sym, ap, ◌∙◌, arith}
use Rattle.std.specs.Prelude.{◌==◌, ◌&&◌, ◌||◌, nat_lt, nat_le, ℤ, pos, codes, unwrap_or, if◌then◌else◌}
use Rattle.std.specs.List.{All, list_all, flat_map, fold}
use Rattle.std.specs.Fmt.{decimal, signed_decimal}
use Rattle.std.proofs.lemmas.Bool.{and_parts, lt-ltb}
use Rattle.std.proofs.lemmas.Bool.Decides.{nat_tests}
use Rattle.std.proofs.lemmas.List.Elements.{All-cons, All-append, All-head, All-tail}
use Rattle.std.proofs.lemmas.List.Splits.{slice_split_at, slice_split_none}
use Rattle.rtl_lex.specs.Bytes.{is_sigil, is_name}
use Rattle.rtl_lex.specs.Numbers.{int_of}
use Rattle.rtl_ir.specs.declared.wire.Role.{Role}
use Rattle.rtl_ir.specs.declared.wire.Role.TheVariants.{Inner, Input, Output, Inout}
use Rattle.rtl_ir.specs.declared.ports.PortLine.{PortLine}
use Rattle.rtl_ir.specs.declared.ports.ModulePorts.{ModulePorts}
use Rattle.rtl_ir.specs.declared.ports.PortTable.{PortTable}
use Rattle.rtl_write.specs.Ports.{role_word, port_text, ports_by_module_text, ports_text}
use Rattle.rtl_readable.specs.Readable.{IsName}
use Rattle.rtl_write.specs.PortTables.{IsPortLine, AreModulePorts, ArePorts, parts_of, role_of, natural_of, port_of, add_port, with_port, with_line, modules_of}
use Rattle.rtl_write.proofs.Integers.{integer_back}
use Rattle.rtl_write.proofs.Marks.{Lacks, Separates, lacks_by, number_lacks, integer_lacks, name_lacks}

-- the last module has one port more
pub add_port_last : (p : PortLine) (modules : List ModulePorts) (m : ModulePorts) → add_port p (modules ++ m ∷ []) ≡ modules ++ record m { ports = m.ports ++ p ∷ [] } ∷ []
add_port_last p [] m = refl
add_port_last p (n ∷ []) m = refl
add_port_last p (n ∷ k ∷ modules) m = ap (λ (l : List ModulePorts). n ∷ l) (add_port_last p (k ∷ modules) m)

-- ---- the line of a port

-- the word of a role, without the blank behind it
abbrev role_letters : Role → List ℕ
role_letters Inner = codes "inner"
role_letters Input = codes "input"
role_letters Output = codes "output"
role_letters Inout = codes "inout"

role_parts : (r : Role) → role_word r ≡ role_letters r ++ 32 ∷ []
unfolding role_word
role_parts Inner = refl
role_parts Input = refl
role_parts Output = refl
role_parts Inout = refl

role_back : (r : Role) → role_of (role_letters r) ≡ r
role_back Inner = refl
role_back Input = refl
role_back Output = refl
role_back Inout = refl

abbrev is_letter : ℕ → Bool
is_letter b = nat_le 97 b

letter_no : (mark : ℕ) → Separates mark → (b : ℕ) → is_letter b ≡ true → (b == mark) ≡ false
letter_no mark lt b e = grind (arith, nat_tests)

letters_are : (r : Role) → list_all is_letter (role_letters r) ≡ true
letters_are Inner = refl
letters_are Input = refl
letters_are Output = refl
letters_are Inout = refl

role_lacks : (mark : ℕ) (r : Role) → Separates mark → Lacks mark (role_letters r)
role_lacks mark r lt = lacks_by is_letter mark (letter_no mark lt) (role_letters r) (letters_are r)

-- the line of a port without its end
abbrev port_line : PortLine → List ℕ
port_line p = role_letters p.role ++ 32 ∷ (signed_decimal p.number ++ 32 ∷ (decimal p.width ++ 32 ∷ p.name))

flat_line : (r s d n : List ℕ) → ((r ++ 32 ∷ []) ++ s ++ 32 ∷ d ++ 32 ∷ n ++ codes "\n") ≡ (r ++ 32 ∷ (s ++ 32 ∷ (d ++ 32 ∷ n))) ++ 10 ∷ []
flat_line r s d n = simp append_assoc

port_line_is : (p : PortLine) → port_text p ≡ port_line p ++ 10 ∷ []
unfolding port_text
port_line_is p =
    ap (λ (w : List ℕ). w ++ signed_decimal p.number ++ 32 ∷ decimal p.width ++ 32 ∷ p.name ++ codes "\n") (role_parts p.role) ∙ flat_line (role_letters p.role) (signed_decimal p.number) (decimal p.width) p.name

-- more bytes that are no mark
lacks_then : (mark : ℕ) (xs ys : List ℕ) → (32 == mark) ≡ false → Lacks mark xs → Lacks mark ys → Lacks mark (xs ++ 32 ∷ ys)
lacks_then mark xs ys other f g = All-append (λ b. (b == mark) ≡ false) xs (32 ∷ ys) f (All-cons (λ b. (b == mark) ≡ false) 32 ys other g)

line_lacks : (p : PortLine) → IsPortLine p → Lacks 10 (port_line p)
line_lacks p is =
    lacks_then 10 (role_letters p.role) _ refl (role_lacks 10 p.role (omega arith))
    (lacks_then 10 (signed_decimal p.number) _ refl (integer_lacks 10 p.number (omega arith) is.number)
    (lacks_then 10 (decimal p.width) p.name refl (number_lacks 10 p.width (omega arith) (omega (arith, is.width))) (name_lacks 10 p.name (omega arith) is.name)))

-- the four words of the line
words_are : (p : PortLine) → IsPortLine p → parts_of 32 (port_line p) ≡ role_letters p.role ∷ signed_decimal p.number ∷ decimal p.width ∷ p.name ∷ []
words_are p is =
    let blank : ℕ → Bool = λ (b : ℕ). b == 32 in
    let third : parts_of 32 (decimal p.width ++ 32 ∷ p.name) ≡ decimal p.width ∷ p.name ∷ [] = slice_split_at blank (decimal p.width) 32 p.name (number_lacks 32 p.width (omega arith) (omega (arith, is.width))) refl
    ∙ ap (λ (l : List (List ℕ)). decimal p.width ∷ l) (slice_split_none blank p.name (name_lacks 32 p.name (omega arith) is.name)) in
    let second : parts_of 32 (signed_decimal p.number ++ 32 ∷ (decimal p.width ++ 32 ∷ p.name)) ≡ signed_decimal p.number ∷ decimal p.width ∷ p.name ∷ [] = slice_split_at blank (signed_decimal p.number) 32 (decimal p.width ++ 32 ∷ p.name) (integer_lacks 32 p.number (omega arith) is.number) refl
    ∙ ap (λ (l : List (List ℕ)). signed_decimal p.number ∷ l) third in
    slice_split_at blank (role_letters p.role) 32 (signed_decimal p.number ++ 32 ∷ (decimal p.width ++ 32 ∷ p.name)) (role_lacks 32 p.role (omega arith)) refl ∙ ap (λ (l : List (List ℕ)). role_letters p.role ∷ l) second

port_back : (p : PortLine) → IsPortLine p → port_of (parts_of 32 (port_line p)) ≡ Some p
port_back p is =
    let number : int_of (signed_decimal p.number) ≡ Some p.number = integer_back p.number is.number in
    let width : int_of (decimal p.width) ≡ Some (pos p.width) = integer_back (pos p.width) (lt-ltb p.width (2 ^ 31) is.width) in
    let of : Role → Option ℤ → Option ℤ → Option PortLine = λ (r : Role) (w z : Option ℤ). Some (record { name = p.name; role = r; width = natural_of w; number = unwrap_or z (pos 0) }) in
    ap port_of (words_are p is)
    ∙ ap (λ (r : Role). of r (int_of (decimal p.width)) (int_of (signed_decimal p.number))) (role_back p.role)
    ∙ ap (λ (w : Option ℤ). of p.role w (int_of (signed_decimal p.number))) width
    ∙ ap (of p.role (Some (pos p.width))) number

-- a line of a port is no name of a module
line_adds : (modules : List ModulePorts) (r : Role) (more : List ℕ) → with_line modules (role_letters r ++ more) ≡ with_port (port_of (parts_of 32 (role_letters r ++ more))) modules
line_adds modules Inner more = refl
line_adds modules Input more = refl
line_adds modules Output more = refl
line_adds modules Inout more = refl

takes_port : (modules : List ModulePorts) (m : ModulePorts) (p : PortLine) → IsPortLine p → with_line (modules ++ m ∷ []) (port_line p) ≡ modules ++ record m { ports = m.ports ++ p ∷ [] } ∷ []
takes_port modules m p is =
    line_adds (modules ++ m ∷ []) p.role _ ∙ ap (λ (o : Option PortLine). with_port o (modules ++ m ∷ [])) (port_back p is) ∙ add_port_last p modules m

-- ---- lines

abbrev lf : ℕ → Bool
lf b = b == 10

-- a line, and those behind it
takes_line : (modules : List ModulePorts) (line rest : List ℕ) → Lacks 10 line → fold with_line modules (parts_of 10 (line ++ 10 ∷ rest)) ≡ fold with_line (with_line modules line) (parts_of 10 rest)
takes_line modules line rest lacks = ap (fold with_line modules) (slice_split_at lf line 10 rest lacks refl)

takes_ports : (modules : List ModulePorts) (m : ModulePorts) (ports : List PortLine) (rest : List ℕ) → All IsPortLine ports
    → fold with_line (modules ++ m ∷ []) (parts_of 10 (flat_map port_text ports ++ rest)) ≡ fold with_line (modules ++ record m { ports = m.ports ++ ports } ∷ []) (parts_of 10 rest)
takes_ports modules m [] rest all = ap (λ (ps : List PortLine). fold with_line (modules ++ record m { ports = ps } ∷ []) (parts_of 10 rest)) (sym (append-nil m.ports))
takes_ports modules m (p ∷ ports) rest all =
    let is = All-head IsPortLine p ports all in
    let more = flat_map port_text ports ++ rest in
    let next : ModulePorts = record m { ports = m.ports ++ p ∷ [] } in
    let parts : (port_text p ++ flat_map port_text ports) ++ rest ≡ port_line p ++ 10 ∷ more = append_assoc (port_text p) (flat_map port_text ports) rest ∙ ap (λ (l : List ℕ). l ++ more) (port_line_is p) ∙ append_assoc (port_line p) (10 ∷ []) more in
    ap (λ (l : List ℕ). fold with_line (modules ++ m ∷ []) (parts_of 10 l)) parts
    ∙ takes_line (modules ++ m ∷ []) (port_line p) more (line_lacks p is)
    ∙ ap (λ (l : List ModulePorts). fold with_line l (parts_of 10 more)) (takes_port modules m p is)
    ∙ takes_ports modules next ports rest (All-tail IsPortLine p ports all)
    ∙ ap (λ (ps : List PortLine). fold with_line (modules ++ record m { ports = ps } ∷ []) (parts_of 10 rest)) (append_assoc m.ports (p ∷ []) ports)

sigil_is : (b : ℕ) → is_sigil b ≡ true → (b == 92 || b == 36) ≡ true
sigil_is b e = e

takes_id : (modules : List ModulePorts) (id : List ℕ) → IsName id → with_line modules id ≡ modules ++ record { id = id; ports = [] } ∷ []
takes_id modules [] is = absurd cc
takes_id modules (b ∷ bs) is =
    let first = (and_parts (is_sigil b) (nat_lt 0 (length bs) && list_all is_name bs) is).0 in
    ap (λ (t : Bool). if t then modules ++ record { id = b ∷ bs; ports = [] } ∷ [] else with_port (port_of (parts_of 32 (b ∷ bs))) modules) first

takes_module : (modules : List ModulePorts) (m : ModulePorts) (rest : List ℕ) → AreModulePorts m → fold with_line modules (parts_of 10 (ports_by_module_text m ++ rest)) ≡ fold with_line (modules ++ m ∷ []) (parts_of 10 rest)
unfolding ports_by_module_text
takes_module modules m rest are =
    let ports = flat_map port_text m.ports in
    let parts : (m.id ++ codes "\n" ++ ports) ++ rest ≡ m.id ++ 10 ∷ (ports ++ rest) = append_assoc (m.id ++ codes "\n") ports rest ∙ append_assoc m.id (codes "\n") (ports ++ rest) in
    ap (λ (l : List ℕ). fold with_line modules (parts_of 10 l)) parts
    ∙ takes_line modules m.id (ports ++ rest) (name_lacks 10 m.id (omega arith) are.id)
    ∙ ap (λ (l : List ModulePorts). fold with_line l (parts_of 10 (ports ++ rest))) (takes_id modules m.id are.id)
    ∙ takes_ports modules (record { id = m.id; ports = [] }) m.ports rest are.ports

takes_modules : (before modules : List ModulePorts) → All AreModulePorts modules → fold with_line before (parts_of 10 (flat_map ports_by_module_text modules)) ≡ before ++ modules
takes_modules before [] all = sym (append-nil before)
takes_modules before (m ∷ modules) all =
    takes_module before m (flat_map ports_by_module_text modules) (All-head AreModulePorts m modules all)
    ∙ takes_modules (before ++ m ∷ []) modules (All-tail AreModulePorts m modules all) ∙ append_assoc before (m ∷ []) modules

-- a table is that of its text
pub table_back : (table : PortTable) → ArePorts table → modules_of (ports_text table) ≡ table.modules
table_back table are = takes_modules [] table.modules are
