-- Reading goes over wires, memories and parameters.
use Rattle.std.proofs.Common.{◌≡◌, ℕ, zero, suc, ◌+◌, ◌<◌, ◌≤◌, ◌^◌, List, [], ◌∷◌, ◌++◌, Option, Some, None, Result, Ok, Err, Bool, true, false, refl, sym, ap, subst, ◌∙◌, arith}
use Rattle.std.specs.Prelude.{◌==◌, ℤ, pos, negsuc, nat_lt, is_some, codes, IfSome, if◌then◌else◌}
use Rattle.std.specs.Fmt.{decimal, signed_decimal}
use Rattle.std.proofs.lemmas.Bool.{le-ltb, lt-ltb, ne_eqb, eqb-true, or_from}
use Rattle.rtl_lex.specs.declared.place.Place.{Place}
use Rattle.rtl_lex.specs.declared.sort.Sort.TheVariants as sorts
use Rattle.rtl_lex.specs.declared.token.TokenKind.TheVariants as kinds
use Rattle.rtl_lex.specs.Sorts.{word_sort, module_word, option_word, process_word, event_word}
use Rattle.rtl_lex.specs.Items.{Seen}
use Rattle.rtl_sig.specs.Names.{number_of, with_name}
use Rattle.rtl_ir.specs.declared.value.Value.{Value}
use Rattle.rtl_ir.specs.declared.wire.Role.{Role}
use Rattle.rtl_ir.specs.declared.wire.Role.TheVariants.{Inner, Input, Output, Inout}
use Rattle.rtl_ir.specs.declared.wire.Wire.{Wire}
use Rattle.rtl_ir.specs.declared.store.Store.{Store}
use Rattle.rtl_ir.specs.declared.module.Module.{Module}
use Rattle.rtl_ir.specs.declared.module.Parameter.{Parameter}
use Rattle.rtl_grammar.specs.declared.expect.Expect.{Expect}
use Rattle.rtl_grammar.specs.declared.expect.Expect.TheVariants as expects
use Rattle.rtl_grammar.specs.Grammar.{after}
use Rattle.rtl_grammar.specs.Uses.{◌>>=◌}
use Rattle.rtl_read.specs.declared.draft.Draft.{Draft}
use Rattle.rtl_read.specs.declared.open_module.OpenModule.{OpenModule}
use Rattle.rtl_ir.specs.declared.limits.TheConstants.{MAX_BITS, MAX_WIDTH}
use Rattle.rtl_read.specs.declared.read_fault.ReadFault.{ReadFault}
use Rattle.rtl_read.specs.declared.read_fault.ReadFault.TheVariants as faults
use Rattle.rtl_read.specs.Constant as reading
use Rattle.rtl_read.specs.Draft.{nothing}
use Rattle.rtl_read.specs.Meaning.Module.{is_taken, with_item_name, with_wire, with_parameter}
use Rattle.rtl_read.specs.Meaning.Wire.{plain_wire, plain_store, some_width, within_limit}
use Rattle.rtl_read.specs.Act.{act}
use Rattle.rtl_readable.specs.Readable.{IsInteger, IsConstant, IsParameter, IsWire, IsStore}
use Rattle.rtl_write.proofs.Printed.{Printed}
use Rattle.rtl_write.proofs.Lexing.{seen_at}
use Rattle.rtl_write.proofs.Integers.{integer_back}
use Rattle.rtl_write.proofs.Names.{IsNew}
use Rattle.rtl_write.proofs.Going.{Goes, goes_none, goes_on, goes_line, goes_constant, goes_attributes, waiting, TakesAttributes, okay}
use Rattle.rtl_write.proofs.Tokens as tokens
use Rattle.rtl_write.proofs.Tokens.{word, name, number, integer}

-- ---- drafts

-- between two statements of a module: the modules that are whole, their names, and the open module
abbrev pub at : List Module → List (List ℕ) → OpenModule → Draft
at modules names current = record nothing { modules = modules; names = names; current = current }

-- with an open wire, with an open memory
abbrev pub wired : Draft → Wire → Draft
wired base w = record base { wire = w }

abbrev pub stored : Draft → Store → Draft
stored base s = record base { store = s }

-- ---- options of wires

width_read : (n : ℕ) (i : Seen) → i.number ≡ Some (pos n) → 0 < n → some_width i.number i ≡ Ok n
width_read n i e lt = ap (λ (o : Option ℤ). some_width o i) e ∙ ap (λ (b : Bool). if b then Err (faults.Int i.place) else okay n) (ne_eqb n 0 (λ z. omega arith))

goes_width : {qs : List Printed} {stack back : List Expect} {e : Draft} (base : Draft) (w : Wire) (n : ℕ) (one : Bool) → (n == 1) ≡ one → w.width ≡ 1 → 0 < n → n ≤ MAX_WIDTH
    → Goes qs (expects.WireOption ∷ stack) (wired base (record w { width = n })) back e → Goes ((if one then [] else word 1 (codes "width") ∷ number 1 n ∷ []) ++ qs) (expects.WireOption ∷ stack) (wired base w) back e
unfolding word_sort module_word option_word process_word event_word
goes_width {qs = qs} {stack = stack} {back = back} {e = e} base w n true one plain lt le more =
    let is : n ≡ w.width = eqb-true n 1 one ∙ sym plain in
    subst (λ (k : ℕ). Goes qs (expects.WireOption ∷ stack) (wired base (record w { width = k })) back e) is more
goes_width base w n false one plain lt le more =
    goes_on (expects.WireWidth ∷ expects.WireOption ∷ []) (λ p. wired base w) refl (λ p. refl) (λ p.
    goes_on [] (λ q. wired base (record w { width = n })) refl
    (λ q. let i = seen_at kinds.Int (decimal n) q in
    ap (λ (r : Result ℕ ReadFault). (r >>= λ k. within_limit i k >>= λ m. okay (record w { width = m })) >>= λ v. Ok (wired base v)) (width_read n i (integer_back (pos n) (lt-ltb n (2 ^ 31) (omega arith))) lt)
    ∙ ap (λ (b : Bool). ((if b then Err (faults.Limit q) else okay n) >>= λ m. okay (record w { width = m })) >>= λ v. Ok (wired base v)) (le-ltb MAX_WIDTH n le)) (λ q. more))

goes_upto : {qs : List Printed} {stack back : List Expect} {e : Draft} (base : Draft) (w : Wire) (b : Bool) → w.upto ≡ false
    → Goes qs (expects.WireOption ∷ stack) (wired base (record w { upto = b })) back e → Goes (tokens.upto_option b ++ qs) (expects.WireOption ∷ stack) (wired base w) back e
unfolding word_sort module_word option_word process_word event_word
goes_upto base w true plain more = goes_on (expects.WireOption ∷ []) (λ p. wired base (record w { upto = true })) refl (λ p. refl) (λ p. more)
goes_upto {qs = qs} {stack = stack} {back = back} {e = e} base w false plain more = subst (λ (b : Bool). Goes qs (expects.WireOption ∷ stack) (wired base (record w { upto = b })) back e) (sym plain) more

goes_signed : {qs : List Printed} {stack back : List Expect} {e : Draft} (base : Draft) (w : Wire) (b : Bool) → w.signed ≡ false
    → Goes qs (expects.WireOption ∷ stack) (wired base (record w { signed = b })) back e → Goes (tokens.signed_option b ++ qs) (expects.WireOption ∷ stack) (wired base w) back e
unfolding word_sort module_word option_word process_word event_word
goes_signed base w true plain more = goes_on (expects.WireOption ∷ []) (λ p. wired base (record w { signed = true })) refl (λ p. refl) (λ p. more)
goes_signed {qs = qs} {stack = stack} {back = back} {e = e} base w false plain more = subst (λ (b : Bool). Goes qs (expects.WireOption ∷ stack) (wired base (record w { signed = b })) back e) (sym plain) more

-- the word `offset` and its integer
goes_offset_word : {qs : List Printed} {stack back : List Expect} {e : Draft} (base : Draft) (w : Wire) (z : ℤ) → IsInteger z
    → Goes qs (expects.WireOption ∷ stack) (wired base (record w { offset = z })) back e → Goes (word 1 (codes "offset") ∷ integer z ∷ qs) (expects.WireOption ∷ stack) (wired base w) back e
unfolding word_sort module_word option_word process_word event_word
goes_offset_word base w z is more =
    goes_on (expects.WireOffset ∷ expects.WireOption ∷ []) (λ p. wired base w) refl (λ p. refl) (λ p.
    goes_on [] (λ q. wired base (record w { offset = z })) refl
    (λ q. ap (λ (o : Option ℤ). (reading.integer o (seen_at kinds.Int (signed_decimal z) q) >>= λ n. okay (record w { offset = n })) >>= λ v. Ok (wired base v)) (integer_back z is)) (λ q. more))

goes_offset : {qs : List Printed} {stack back : List Expect} {e : Draft} (base : Draft) (w : Wire) (z : ℤ) → w.offset ≡ pos 0 → IsInteger z
    → Goes qs (expects.WireOption ∷ stack) (wired base (record w { offset = z })) back e → Goes (tokens.offset_option z ++ qs) (expects.WireOption ∷ stack) (wired base w) back e
goes_offset {qs = qs} {stack = stack} {back = back} {e = e} base w (pos zero) plain is more = subst (λ (z : ℤ). Goes qs (expects.WireOption ∷ stack) (wired base (record w { offset = z })) back e) (sym plain) more
goes_offset base w (pos (suc n)) plain is more = goes_offset_word base w (pos (suc n)) is more
goes_offset base w (negsuc n) plain is more = goes_offset_word base w (negsuc n) is more

-- the number of a port
goes_number : {qs : List Printed} {stack back : List Expect} {e : Draft} (base : Draft) (w : Wire) (z : ℤ) → IsInteger z
    → Goes qs (expects.WireOption ∷ stack) (wired base (record w { number = z })) back e → Goes (integer z ∷ qs) (expects.PortNumber ∷ expects.WireOption ∷ stack) (wired base w) back e
goes_number base w z is more =
    goes_on [] (λ q. wired base (record w { number = z })) refl
    (λ q. ap (λ (o : Option ℤ). (reading.integer o (seen_at kinds.Int (signed_decimal z) q) >>= λ n. okay (record w { number = n })) >>= λ v. Ok (wired base v)) (integer_back z is)) (λ q. more)

goes_role : {qs : List Printed} {stack back : List Expect} {e : Draft} (base : Draft) (w : Wire) (r : Role) (z : ℤ) → w.role ≡ Inner → w.number ≡ pos 0 → IsInteger z → (r ≡ Inner → z ≡ pos 0)
    → Goes qs (expects.WireOption ∷ stack) (wired base (record w { role = r; number = z })) back e → Goes (tokens.role_option r z ++ qs) (expects.WireOption ∷ stack) (wired base w) back e
unfolding word_sort module_word option_word process_word event_word
goes_role {qs = qs} {stack = stack} {back = back} {e = e} base w Inner z plain none is inner more =
    subst (λ (r : Role). Goes qs (expects.WireOption ∷ stack) (wired base (record w { role = r })) back e) (sym plain)
    (subst (λ (n : ℤ). Goes qs (expects.WireOption ∷ stack) (wired base (record w { role = Inner; number = n })) back e) (inner refl ∙ sym none) more)
goes_role base w Input z plain none is inner more = goes_on (expects.PortNumber ∷ expects.WireOption ∷ []) (λ p. wired base (record w { role = Input })) refl (λ p. refl) (λ p. goes_number base (record w { role = Input }) z is more)
goes_role base w Output z plain none is inner more = goes_on (expects.PortNumber ∷ expects.WireOption ∷ []) (λ p. wired base (record w { role = Output })) refl (λ p. refl) (λ p. goes_number base (record w { role = Output }) z is more)
goes_role base w Inout z plain none is inner more = goes_on (expects.PortNumber ∷ expects.WireOption ∷ []) (λ p. wired base (record w { role = Inout })) refl (λ p. refl) (λ p. goes_number base (record w { role = Inout }) z is more)

-- ---- wires

-- a name that no item of the module has
pub record IsFree (c : OpenModule) (text : List ℕ) : Type 0 where
  pub wire : IsNew c.wire_names text
  pub other : IsNew c.other_names text

not_taken : (c : OpenModule) (text : List ℕ) → IsFree c text → is_taken text c ≡ false
not_taken c text free = or_from (is_some (number_of c.wire_names text)) (is_some (number_of c.other_names text)) free.wire.none free.other.none

-- the module with one wire more
abbrev pub add_wire : Wire → OpenModule → OpenModule
add_wire w c = record c { body = record c.body { wires = c.body.wires ++ w ∷ [] }; wire_names = c.wire_names ++ w.name ∷ []; bits = c.bits + w.width }

adds_wire : (w v : Wire) (c : OpenModule) (place : Place) → record v { name = w.name } ≡ w → v.width ≡ w.width → IsFree c w.name → c.bits + w.width ≤ MAX_BITS → with_wire (seen_at kinds.Id w.name place) v c ≡ Ok (add_wire w c)
adds_wire w v c place same wide free le =
    let put : Wire → List (List ℕ) → ℕ → OpenModule = λ (x : Wire) (ns : List (List ℕ)) (n : ℕ). record c { body = record c.body { wires = c.body.wires ++ x ∷ [] }; wire_names = ns; bits = c.bits + n } in
    let added : Result OpenModule ReadFault = okay (put (record v { name = w.name }) (with_name c.wire_names w.name) v.width) in
    ap (λ (b : Bool). if b then Err (faults.Duplicate place) else (if nat_lt MAX_BITS (c.bits + v.width) then Err (faults.Limit place) else added)) (not_taken c w.name free)
    ∙ ap (λ (n : ℕ). if nat_lt MAX_BITS (c.bits + n) then Err (faults.Limit place) else added) wide
    ∙ ap (λ (b : Bool). if b then Err (faults.Limit place) else added) (le-ltb MAX_BITS (c.bits + w.width) le)
    ∙ ap (λ (x : Wire). okay (put x (with_name c.wire_names w.name) v.width)) same
    ∙ ap (λ (ns : List (List ℕ)). okay (put w ns v.width)) free.wire.added
    ∙ ap (λ (n : ℕ). okay (put w (c.wire_names ++ w.name ∷ []) n)) wide

goes_wire_line : (modules : List Module) (names : List (List ℕ)) (c : OpenModule) (roles : List Expect) (w : Wire) (role : Expect) → IsWire w → IsFree c w.name → c.bits + w.width ≤ MAX_BITS
    → after role sorts.Wire ≡ Some (expects.WireOption ∷ expects.Body ∷ [])
    → ((place : Place) → act role (seen_at kinds.Word (codes "wire") place) (waiting w.attributes (at modules names c)) ≡ Ok (wired (at modules names c) (plain_wire w.attributes)))
    → Goes (tokens.wire_line w) (role ∷ roles) (waiting w.attributes (at modules names c)) (expects.Body ∷ roles) (at modules names (add_wire w c))
unfolding word_sort module_word option_word process_word event_word
goes_wire_line modules names c roles w role is free le can does =
    let base = at modules names c in
    let v0 = plain_wire w.attributes in
    let v1 : Wire = record v0 { width = w.width } in
    let v2 : Wire = record v1 { upto = w.upto } in
    let v3 : Wire = record v2 { offset = w.offset } in
    let v4 : Wire = record v3 { role = w.role; number = w.number } in
    let v5 : Wire = record v4 { signed = w.signed } in
    let last = at modules names (add_wire w c) in
    goes_on (expects.WireOption ∷ expects.Body ∷ []) (λ p. wired base v0) can does (λ p.
    goes_width base v0 w.width (w.width == 1) refl refl is.some is.width
    (goes_upto base v1 w.upto refl
    (goes_offset base v2 w.offset refl is.offset
    (goes_role base v3 w.role w.number refl refl is.number is.inner
    (goes_signed base v4 w.signed refl
    (goes_on (expects.EndOfLine ∷ []) (λ q. last) refl (λ q. ap (λ (r : Result OpenModule ReadFault). r >>= λ m. okay (record base { current = m })) (adds_wire w v5 c q refl refl free le)) (λ q.
    goes_line [] last refl (λ text q. refl) goes_none)))))))

-- where the attributes of an item of a module may stand
pub takes_item : (d : Draft) → TakesAttributes expects.Body expects.NextItem [] d
unfolding word_sort module_word option_word process_word event_word
takes_item d = record { first = refl; later = refl; keeps_first = λ remarks place. refl; keeps_later = λ remarks place. refl }

pub goes_wire : (modules : List Module) (names : List (List ℕ)) (c : OpenModule) (roles : List Expect) (w : Wire) → IsWire w → IsFree c w.name → c.bits + w.width ≤ MAX_BITS
    → Goes (tokens.wire w) (expects.Body ∷ roles) (at modules names c) (expects.Body ∷ roles) (at modules names (add_wire w c))
unfolding word_sort module_word option_word process_word event_word
goes_wire modules names c roles w is free le =
    goes_attributes 2 w.attributes expects.Body expects.NextItem [] roles (at modules names c) is.attributes (takes_item (at modules names c))
    (goes_wire_line modules names c roles w expects.Body is free le refl (λ place. refl))
    (goes_wire_line modules names c roles w expects.NextItem is free le refl (λ place. refl))

-- ---- memories

goes_store_width : {qs : List Printed} {stack back : List Expect} {e : Draft} (base : Draft) (s : Store) (n : ℕ) (one : Bool) → (n == 1) ≡ one → s.width ≡ 1 → 0 < n → n < 2 ^ 31
    → Goes qs (expects.MemoryOption ∷ stack) (stored base (record s { width = n })) back e → Goes ((if one then [] else word 1 (codes "width") ∷ number 1 n ∷ []) ++ qs) (expects.MemoryOption ∷ stack) (stored base s) back e
unfolding word_sort module_word option_word process_word event_word
goes_store_width {qs = qs} {stack = stack} {back = back} {e = e} base s n true one plain lt small more =
    let is : n ≡ s.width = eqb-true n 1 one ∙ sym plain in
    subst (λ (k : ℕ). Goes qs (expects.MemoryOption ∷ stack) (stored base (record s { width = k })) back e) is more
goes_store_width base s n false one plain lt small more =
    goes_on (expects.MemoryWidth ∷ expects.MemoryOption ∷ []) (λ p. stored base s) refl (λ p. refl) (λ p.
    goes_on [] (λ q. stored base (record s { width = n })) refl
    (λ q. ap (λ (r : Result ℕ ReadFault). (r >>= λ k. okay (record s { width = k })) >>= λ t. Ok (stored base t)) (width_read n (seen_at kinds.Int (decimal n) q) (integer_back (pos n) (lt-ltb n (2 ^ 31) small)) lt)) (λ q. more))

goes_size_word : {qs : List Printed} {stack back : List Expect} {e : Draft} (base : Draft) (s : Store) (z : ℤ) → IsInteger z
    → Goes qs (expects.MemoryOption ∷ stack) (stored base (record s { size = z })) back e → Goes (word 1 (codes "size") ∷ integer z ∷ qs) (expects.MemoryOption ∷ stack) (stored base s) back e
unfolding word_sort module_word option_word process_word event_word
goes_size_word base s z is more =
    goes_on (expects.MemorySize ∷ expects.MemoryOption ∷ []) (λ p. stored base s) refl (λ p. refl) (λ p.
    goes_on [] (λ q. stored base (record s { size = z })) refl
    (λ q. ap (λ (o : Option ℤ). (reading.integer o (seen_at kinds.Int (signed_decimal z) q) >>= λ n. okay (record s { size = n })) >>= λ t. Ok (stored base t)) (integer_back z is)) (λ q. more))

goes_size : {qs : List Printed} {stack back : List Expect} {e : Draft} (base : Draft) (s : Store) (z : ℤ) → s.size ≡ pos 0 → IsInteger z
    → Goes qs (expects.MemoryOption ∷ stack) (stored base (record s { size = z })) back e → Goes (tokens.size_option z ++ qs) (expects.MemoryOption ∷ stack) (stored base s) back e
goes_size {qs = qs} {stack = stack} {back = back} {e = e} base s (pos zero) plain is more = subst (λ (z : ℤ). Goes qs (expects.MemoryOption ∷ stack) (stored base (record s { size = z })) back e) (sym plain) more
goes_size base s (pos (suc n)) plain is more = goes_size_word base s (pos (suc n)) is more
goes_size base s (negsuc n) plain is more = goes_size_word base s (negsuc n) is more

goes_from_word : {qs : List Printed} {stack back : List Expect} {e : Draft} (base : Draft) (s : Store) (z : ℤ) → IsInteger z
    → Goes qs (expects.MemoryOption ∷ stack) (stored base (record s { offset = z })) back e → Goes (word 1 (codes "offset") ∷ integer z ∷ qs) (expects.MemoryOption ∷ stack) (stored base s) back e
unfolding word_sort module_word option_word process_word event_word
goes_from_word base s z is more =
    goes_on (expects.MemoryOffset ∷ expects.MemoryOption ∷ []) (λ p. stored base s) refl (λ p. refl) (λ p.
    goes_on [] (λ q. stored base (record s { offset = z })) refl
    (λ q. ap (λ (o : Option ℤ). (reading.integer o (seen_at kinds.Int (signed_decimal z) q) >>= λ n. okay (record s { offset = n })) >>= λ t. Ok (stored base t)) (integer_back z is)) (λ q. more))

goes_from : {qs : List Printed} {stack back : List Expect} {e : Draft} (base : Draft) (s : Store) (z : ℤ) → s.offset ≡ pos 0 → IsInteger z
    → Goes qs (expects.MemoryOption ∷ stack) (stored base (record s { offset = z })) back e → Goes (tokens.offset_option z ++ qs) (expects.MemoryOption ∷ stack) (stored base s) back e
goes_from {qs = qs} {stack = stack} {back = back} {e = e} base s (pos zero) plain is more = subst (λ (z : ℤ). Goes qs (expects.MemoryOption ∷ stack) (stored base (record s { offset = z })) back e) (sym plain) more
goes_from base s (pos (suc n)) plain is more = goes_from_word base s (pos (suc n)) is more
goes_from base s (negsuc n) plain is more = goes_from_word base s (negsuc n) is more

-- the module with one name more of a memory, a cell or a process
abbrev pub add_name : List ℕ → OpenModule → OpenModule
add_name text c = record c { other_names = c.other_names ++ text ∷ [] }

pub adds_name : (text : List ℕ) (c : OpenModule) (place : Place) → IsFree c text → with_item_name (seen_at kinds.Id text place) c ≡ Ok (add_name text c)
adds_name text c place free =
    ap (λ (b : Bool). if b then Err (faults.Duplicate place) else okay (record c { other_names = with_name c.other_names text })) (not_taken c text free) ∙ ap (λ (ns : List (List ℕ)). okay (record c { other_names = ns })) free.other.added

abbrev pub add_store : Store → OpenModule → OpenModule
add_store s c = record (add_name s.name c) { body = record c.body { memories = c.body.memories ++ s ∷ [] } }

goes_store_line : (modules : List Module) (names : List (List ℕ)) (c : OpenModule) (roles : List Expect) (s : Store) (role : Expect) → IsStore s → IsFree c s.name
    → after role sorts.Memory ≡ Some (expects.MemoryOption ∷ expects.Body ∷ [])
    → ((place : Place) → act role (seen_at kinds.Word (codes "memory") place) (waiting s.attributes (at modules names c)) ≡ Ok (stored (at modules names c) (plain_store s.attributes)))
    → Goes (tokens.store_line s) (role ∷ roles) (waiting s.attributes (at modules names c)) (expects.Body ∷ roles) (at modules names (add_store s c))
unfolding word_sort module_word option_word process_word event_word
goes_store_line modules names c roles s role is free can does =
    let base = at modules names c in
    let t0 = plain_store s.attributes in
    let t1 : Store = record t0 { width = s.width } in
    let t2 : Store = record t1 { size = s.size } in
    let t3 : Store = record t2 { offset = s.offset } in
    let last = at modules names (add_store s c) in
    goes_on (expects.MemoryOption ∷ expects.Body ∷ []) (λ p. stored base t0) can does (λ p.
    goes_store_width base t0 s.width (s.width == 1) refl refl is.some is.width
    (goes_size base t1 s.size refl is.size
    (goes_from base t2 s.offset refl is.offset
    (goes_on (expects.EndOfLine ∷ []) (λ q. last) refl
    (λ q. ap (λ (r : Result OpenModule ReadFault). (r >>= λ n. okay (record n { body = record n.body { memories = n.body.memories ++ s ∷ [] } })) >>= λ m. okay (record base { current = m })) (adds_name s.name c q free)) (λ q.
    goes_line [] last refl (λ text q. refl) goes_none)))))

pub goes_store : (modules : List Module) (names : List (List ℕ)) (c : OpenModule) (roles : List Expect) (s : Store) → IsStore s → IsFree c s.name
    → Goes (tokens.store s) (expects.Body ∷ roles) (at modules names c) (expects.Body ∷ roles) (at modules names (add_store s c))
unfolding word_sort module_word option_word process_word event_word
goes_store modules names c roles s is free =
    goes_attributes 2 s.attributes expects.Body expects.NextItem [] roles (at modules names c) is.attributes (takes_item (at modules names c))
    (goes_store_line modules names c roles s expects.Body is free refl (λ place. refl))
    (goes_store_line modules names c roles s expects.NextItem is free refl (λ place. refl))

-- ---- parameters

goes_default : (modules : List Module) (names : List (List ℕ)) (c : OpenModule) (stack : List Expect) (text : List ℕ) (v : Option Value) → IfSome v IsConstant
    → Goes (tokens.default v) (expects.ParameterValue ∷ stack) (record (at modules names c) { name = text }) stack (at modules names (with_parameter text v c))
goes_default modules names c stack text None is = goes_line [] (at modules names (with_parameter text None c)) refl (λ t q. refl) goes_none
goes_default modules names c stack text (Some v) is =
    let base = at modules names c in
    let last = at modules names (with_parameter text (Some v) c) in
    let put : Result Value ReadFault → Result Draft ReadFault = λ (r : Result Value ReadFault). r >>= λ x. okay (record base { current = with_parameter text (Some x) c; name = [] }) in
    goes_constant v (expects.EndOfLine ∷ []) last is refl refl refl (λ t q e. ap put e) (λ t q e. ap put e) (λ t q e. ap put e) (goes_line [] last refl (λ t q. refl) goes_none)

pub goes_parameter : (modules : List Module) (names : List (List ℕ)) (c : OpenModule) (roles : List Expect) (p : Parameter) → IsParameter p
    → Goes (tokens.parameter p) (expects.Body ∷ roles) (at modules names c) (expects.Body ∷ roles) (at modules names (with_parameter p.name p.value c))
unfolding word_sort module_word option_word process_word event_word
goes_parameter modules names c roles p is =
    goes_on (expects.ParameterName ∷ expects.Body ∷ []) (λ q. at modules names c) refl (λ q. refl) (λ q.
    goes_on (expects.ParameterValue ∷ []) (λ r. record (at modules names c) { name = p.name }) refl (λ r. refl) (λ r.
    goes_default modules names c (expects.Body ∷ roles) p.name p.value is.value))
