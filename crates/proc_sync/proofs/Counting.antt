-- Numbers of write ports, cell by cell and line by line.
use Rattle.std.proofs.Common.{◌≡◌, ℕ, ◌+◌, ◌-◌, ◌<◌, ◌≤◌, max, Bool, true, false, cond, List, [], ◌∷◌, ◌++◌, length, drop, get_or, Some, Bor, if◌then◌else◌, refl, sym, ◌∙◌, ap, arith}
use Rattle.std.specs.Prelude.{◌&&◌, count_by, filter, map, nat_eq, nat_le, unwrap_or}
use Rattle.std.specs.Option.{option_map_or}
use Rattle.std.specs.Str.{bytes_eq}
use Rattle.std.proofs.lemmas.Bool.{and_parts, eqb-true}
use Rattle.std.proofs.lemmas.List.Sums.{length-filter}
use Rattle.cell_types.specs.Given.{number_in}
use Rattle.cell_types.specs.declared.param_name.ParamName.TheVariants.{Portid}
use Rattle.rtl_ir.proofs.PortLemmas.{drop-before}
use Rattle.rtl_ir.specs.Flat.Access.{Access, cell_access, cell_accesses, in_access_order, next_number, place_access}
use Rattle.rtl_ir.specs.Parameters.{given_params, memory_name}
use Rattle.rtl_ir.specs.WritePorts.{is_of_memory, is_write_cell}
use Rattle.rtl_ir.specs.declared.cell.Cell.{Cell}
use Rattle.rtl_ir.specs.declared.module.Module.{Module}
use Rattle.net_index.proofs.Tables.{Puts, at_name-put}
use Rattle.net_index.specs.Types.{Named, at_name}
use Rattle.net_model.specs.Proc.Sync.{Numbered, line_number}
use Rattle.proc_sync.specs.Counts.{AreCounts, count_at}

-- a port more among ports in rising number
place_next : (a : Access) (ps : List Access) → next_number (place_access a ps) ≡ max (a.number + 1) (next_number ps)
place_next a [] = refl
place_next a (b ∷ ps) = by (nat_le a.number b.number) (place_next a ps)
  where
    by : (t : Bool) → next_number (place_access a ps) ≡ max (a.number + 1) (next_number ps) → next_number (if t then a ∷ b ∷ ps else b ∷ place_access a ps) ≡ max (a.number + 1) (max (b.number + 1) (next_number ps))
    by true e = refl
    by false e = omega (arith, e)

-- a cell more
cell_next : (name : List ℕ) (c : Cell) (cells : List Cell) → next_number (cell_accesses name (c ∷ cells)) ≡ (if is_write_cell c.kind_name && is_of_memory name c then max (number_in (given_params c.params) Portid + 1) (next_number (cell_accesses name cells)) else next_number (cell_accesses name cells))
cell_next name c cells = by (is_write_cell c.kind_name && is_of_memory name c)
  where
    rest : List Cell
    rest = filter (λ (d : Cell). is_write_cell d.kind_name && is_of_memory name d) cells

    by : (t : Bool) → next_number (in_access_order (map cell_access (if t then c ∷ rest else rest))) ≡ (if t then max (number_in (given_params c.params) Portid + 1) (next_number (in_access_order (map cell_access rest))) else next_number (in_access_order (map cell_access rest)))
    by true = place_next (cell_access c) (in_access_order (map cell_access rest))
    by false = refl

pub cells_go : (old new : Named ℕ) (name : List ℕ) (cells : List Cell) (at : ℕ) (c : Cell) → 0 < at → at ≤ length cells → c ≡ get_or cells (at - 1) c → count_at old name ≡ next_number (cell_accesses name (drop at cells))
    → count_at new name ≡ (if is_write_cell c.kind_name && is_of_memory name c then max (number_in (given_params c.params) Portid + 1) (count_at old name) else count_at old name)
    → count_at new name ≡ next_number (cell_accesses name (drop (at - 1) cells))
cells_go old new name cells at c some within is so made =
    made
    ∙ ap (λ n. if is_write_cell c.kind_name && is_of_memory name c then max (number_in (given_params c.params) Portid + 1) n else n) so
    ∙ sym (cell_next name c (drop at cells))
    ∙ ap (λ cs. next_number (cell_accesses name cs)) (sym (drop-before cells at c some within is))

-- the same name
pub name_is : (a b : List ℕ) → bytes_eq a b ≡ true → a ≡ b
name_is [] [] e = refl
name_is [] (y ∷ ys) e = absurd (cc)
name_is (x ∷ xs) [] e = absurd (cc)
name_is (x ∷ xs) (y ∷ ys) e =
    let p = and_parts (nat_eq x y) (bytes_eq xs ys) e in
    let first : x ≡ y = eqb-true x y p.0 in
    let rest = name_is xs ys p.1 in
    λ i. first i ∷ rest i

pub name_turn : (a b : List ℕ) → bytes_eq a b ≡ bytes_eq b a
name_turn [] [] = refl
name_turn [] (y ∷ ys) = refl
name_turn (x ∷ xs) [] = refl
name_turn (x ∷ xs) (y ∷ ys) = λ i. turn x y i && name_turn xs ys i
  where
    turn : (x y : ℕ) → nat_eq x y ≡ nat_eq y x
    turn x y = grind arith

-- a count that is put
pub count_put : (old new : Named ℕ) (key : Bor (List ℕ)) (value : ℕ) → Puts old new key value → (name : List ℕ) → count_at new name ≡ (if bytes_eq key.now name then value else count_at old name)
count_put old new key value p name = ap (λ o. unwrap_or o 0) (at_name-put old new key value p name) ∙ by (bytes_eq key.now name)
  where
    by : (t : Bool) → unwrap_or (cond t (Some value) (at_name old name)) 0 ≡ (if t then value else unwrap_or (at_name old name) 0)
    by true = refl
    by false = refl

-- a write cell is counted
pub cell_put : (old new : Named ℕ) (key : Bor (List ℕ)) (number value : ℕ) (c : Cell) → Puts old new key value → is_write_cell c.kind_name ≡ true → memory_name c.params ≡ Some key.now → number ≡ number_in (given_params c.params) Portid → value ≡ max (number + 1) (count_at old key.now)
    → (name : List ℕ) → count_at new name ≡ (if is_write_cell c.kind_name && is_of_memory name c then max (number_in (given_params c.params) Portid + 1) (count_at old name) else count_at old name)
cell_put old new key number value c p write named is made name =
    count_put old new key value p name ∙ by (bytes_eq key.now name) refl ∙ sym given
  where
    given : (if is_write_cell c.kind_name && is_of_memory name c then max (number_in (given_params c.params) Portid + 1) (count_at old name) else count_at old name) ≡ (if bytes_eq key.now name then max (number_in (given_params c.params) Portid + 1) (count_at old name) else count_at old name)
    given =
        (λ i. if write i && option_map_or (bytes_eq name) (named i) false then max (number_in (given_params c.params) Portid + 1) (count_at old name) else count_at old name)
        ∙ ap (λ t. if t then max (number_in (given_params c.params) Portid + 1) (count_at old name) else count_at old name) (name_turn name key.now)

    by : (t : Bool) → bytes_eq key.now name ≡ t → (if t then value else count_at old name) ≡ (if t then max (number_in (given_params c.params) Portid + 1) (count_at old name) else count_at old name)
    by true e =
        let same : key.now ≡ name = name_is key.now name e in
        made ∙ (λ i. max (is i + 1) (count_at old (same i)))
    by false e = refl

passed_last : {A : Type 0} (f : A → Bool) (xs : List A) (x : A) → length (filter f (xs ++ x ∷ [])) ≡ (if f x then length (filter f xs) + 1 else length (filter f xs))
passed_last f [] x = by (f x)
  where
    by : (t : Bool) → length (if t then x ∷ [] else []) ≡ (if t then 0 + 1 else 0)
    by true = refl
    by false = refl
passed_last f (y ∷ xs) x = by (f y) (f x) (passed_last f xs x)
  where
    by : (t u : Bool) → length (filter f (xs ++ x ∷ [])) ≡ (if u then length (filter f xs) + 1 else length (filter f xs)) → length (if t then y ∷ filter f (xs ++ x ∷ []) else filter f (xs ++ x ∷ [])) ≡ (if u then length (if t then y ∷ filter f xs else filter f xs) + 1 else length (if t then y ∷ filter f xs else filter f xs))
    by true true e = omega (arith, e)
    by true false e = omega (arith, e)
    by false u e = e

-- a line more
count_more : (name : List ℕ) (done : List Numbered) (l : Numbered) → count_by (λ (x : Numbered). bytes_eq x.memory name) (done ++ l ∷ []) ≡ (if bytes_eq l.memory name then count_by (λ (x : Numbered). bytes_eq x.memory name) done + 1 else count_by (λ (x : Numbered). bytes_eq x.memory name) done)
count_more name done l =
    sym (length-filter (λ (x : Numbered). bytes_eq x.memory name) (done ++ l ∷ []))
    ∙ passed_last (λ (x : Numbered). bytes_eq x.memory name) done l
    ∙ ap (λ n. if bytes_eq l.memory name then n + 1 else n) (length-filter (λ (x : Numbered). bytes_eq x.memory name) done)

pub line_put : (old new : Named ℕ) (key : Bor (List ℕ)) (value : ℕ) (m : Module) (done : List Numbered) → Puts old new key value → AreCounts old m done → value ≡ line_number m done key.now + 1
    → AreCounts new m (done ++ record { memory = key.now; number = line_number m done key.now } ∷ [])
line_put old new key value m done p are made name =
    count_put old new key value p name ∙ by (bytes_eq key.now name) refl (count_more name done (record { memory = key.now; number = line_number m done key.now }))
  where
    by : (t : Bool) → bytes_eq key.now name ≡ t
        → count_by (λ (x : Numbered). bytes_eq x.memory name) (done ++ record { memory = key.now; number = line_number m done key.now } ∷ []) ≡ (if t then count_by (λ (x : Numbered). bytes_eq x.memory name) done + 1 else count_by (λ (x : Numbered). bytes_eq x.memory name) done)
        → (if t then value else count_at old name) ≡ line_number m (done ++ record { memory = key.now; number = line_number m done key.now } ∷ []) name
    by true e f =
        let same : line_number m done key.now ≡ line_number m done name = ap (line_number m done) (name_is key.now name e) in
        omega (arith, made, same, f)
    by false e f = omega (arith, are name, f)
