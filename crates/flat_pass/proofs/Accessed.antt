-- Cells of memories have no fault after a replacement where they had none: those of the module, and copies.
use Rattle.std.proofs.Common.{◌≡◌, ℕ, ◌+◌, Bool, true, false, cond, not, ◌&&◌, ◌||◌, List, [], ◌∷◌, ◌++◌, map, Some, inl, inr, refl, sym, ◌∙◌, ap, subst}
use Rattle.std.specs.Prelude.{◌==◌, filter, nat_abs, nat_le, nat_lt}
use Rattle.std.specs.List.{list_all, list_any, range_with_len}
use Rattle.std.specs.Option.{option_and_then, option_map_or}
use Rattle.std.specs.Str.{bytes_eq}
use Rattle.std.proofs.lemmas.List.Elements.{filter-append}
use Rattle.rtl_bits.specs.Knowledge.{all_known}
use Rattle.rtl_bits.specs.Numbers.{number_of}
use Rattle.cell_types.specs.declared.kind.CellKind.TheVariants.{Word, Gate, Storage, StorageGate, Memory}
use Rattle.cell_types.specs.declared.memory.MemoryKind.{MemoryKind}
use Rattle.cell_types.specs.declared.memory.MemoryKind.TheVariants.{Memrd, MemrdV2, MemwrV2, Meminit, MeminitV2}
use Rattle.cell_types.specs.declared.param_name.ParamName.{ParamName}
use Rattle.cell_types.specs.declared.param_name.ParamName.TheVariants as Param
use Rattle.cell_types.specs.declared.pin_name.PinName.TheVariants.{Addr, Data, En}
use Rattle.cell_types.specs.Given.{value_in}
use Rattle.cell_types.specs.ParamName.{param_text}
use Rattle.cell_types.specs.PinName.{pin_text}
use Rattle.rtl_ir.specs.declared.cell.Cell.{Cell}
use Rattle.rtl_ir.specs.declared.module.Link.{Link}
use Rattle.rtl_ir.specs.declared.module.Module.{Module}
use Rattle.rtl_ir.specs.declared.store.Store.{Store}
use Rattle.rtl_ir.specs.Faults.MemoryCells.{are_enables, are_words, is_bad_access, is_bad_in, is_bad_memory_cell, is_clocked, is_inside, is_unlike, number_at, store_named}
use Rattle.rtl_ir.specs.Flat.Cell.{cell_kind}
use Rattle.rtl_ir.specs.Parameters.{given_params, memory_name, signal_at}
use Rattle.rtl_ir.specs.Signals.{constant_of, is_all_constant}
use Rattle.rtl_ir.specs.Types.{CellType, Instance, Library, Ports, Unknown, Unsupported, cell_type}
use Rattle.rtl_ir.specs.WritePorts.{WritePort, cell_port, cell_ports}
use Rattle.net_model.specs.Lists.{Distinct, In}
use Rattle.net_model.proofs.Members.{apart_at, In-map}
use Rattle.pass_laws.proofs.Accesses.{AreAccesses, IsAccess, writes_to}
use Rattle.pass_laws.proofs.Alone.{own_kind}
use Rattle.flat_pass.proofs.Misfit.{all_same}
use Rattle.flat_pass.proofs.Partners.{Paired, bytes_apart, bytes_same, store_name}

-- the memory of a name
pub store_found : (ss : List Store) → Distinct (map store_name ss) → (s : Store) → In s ss → store_named ss s.name ≡ Some s
store_found [] d s i = absurd i
store_found (t ∷ ss) d s (inl e) =
    ap (λ b. cond b (Some t) (store_named ss s.name)) (ap (λ z. bytes_eq z.name s.name) (sym e) ∙ bytes_same s.name) ∙ ap Some (sym e)
store_found (t ∷ ss) d s (inr i) =
    ap (λ b. cond b (Some t) (store_named ss s.name)) (bytes_apart t.name s.name (apart_at t.name (map store_name ss) d.0 s.name (In-map store_name s ss i)))
    ∙ store_found ss d.1 s i

-- a write port among cells has a number
abbrev pub has_number : ℕ → List Cell → Bool
has_number n cells = list_any (λ (c : Cell). number_at c Param.Portid == n) cells

ports_number : (links : List Link) (n : ℕ) (cells : List Cell) → list_any (λ (p : WritePort). p.number == n) (map (cell_port links) cells) ≡ has_number n cells
ports_number links n [] = refl
ports_number links n (c ∷ cells) = ap (λ z. (number_at c Param.Portid == n) || z) (ports_number links n cells)

-- a memory and a cell of it, as another memory and a cell of that
pub record SameAccess (s : Store) (c : Cell) (t : Store) (y : Cell) : Type 0 where
  pub store : t ≡ record s { name = t.name }
  pub values :
      (name : ParamName) → bytes_eq (param_text Param.Memid) (param_text name) ≡ false →
      value_in (given_params y.params) name ≡ value_in (given_params c.params) name
  pub constants : (name : List ℕ) → map constant_of (signal_at y.pins name) ≡ map constant_of (signal_at c.pins name)
  pub fixed : (name : List ℕ) → is_all_constant (signal_at y.pins name) ≡ is_all_constant (signal_at c.pins name)

module _ (m n : Module) (s t : Store) (c y : Cell) (h : SameAccess s c t y) (earlier later : List Cell) (taken : (number : ℕ) → has_number number (filter (writes_to t.name) later) ≡ has_number number (filter (writes_to s.name) earlier)) where
  number : (name : ParamName) → bytes_eq (param_text Param.Memid) (param_text name) ≡ false → number_at y name ≡ number_at c name
  number name e = ap number_of (h.values name e)

  numbers : list_any (λ (p : WritePort). p.number == number_at y Param.Portid) (cell_ports n.links t.name later) ≡ list_any (λ (p : WritePort). p.number == number_at c Param.Portid) (cell_ports m.links s.name earlier)
  numbers =
      ports_number n.links (number_at y Param.Portid) (filter (writes_to t.name) later)
      ∙ taken (number_at y Param.Portid)
      ∙ ap (λ z. has_number z (filter (writes_to s.name) earlier)) (number Param.Portid refl)
      ∙ sym (ports_number m.links (number_at c Param.Portid) (filter (writes_to s.name) earlier))

  unlike : is_unlike t y ≡ is_unlike s c
  unlike =
      λ i. (not (number Param.Width refl i == (ap (λ (z : Store). z.width) h.store) i) || (number Param.Abits refl i == 0)) || nat_lt 32 (number Param.Abits refl i)

  clocked : is_clocked y ≡ is_clocked c
  clocked = ap (nat_lt 0) (number Param.ClkEnable refl)

  inside : (k : ℕ) → is_inside t y k ≡ is_inside s c k
  inside k =
      λ i. all_known (h.constants (pin_text Addr) i) && (nat_le (nat_abs (offset i)) (number_of (h.constants (pin_text Addr) i) + k) && nat_lt (number_of (h.constants (pin_text Addr) i) + k) (nat_abs (offset i) + nat_abs (size i)))
    where
      offset : t.offset ≡ s.offset
      offset = ap (λ (z : Store). z.offset) h.store

      size : t.size ≡ s.size
      size = ap (λ (z : Store). z.size) h.store

  words : are_words t y ≡ are_words s c
  words =
      λ i. h.fixed (pin_text Data) i && (all_same (is_inside t y) (is_inside s c) (range_with_len 0 (number_at y Param.Words)) inside ∙ ap (λ z. list_all (is_inside s c) (range_with_len 0 z)) (number Param.Words refl)) i

  enables : are_enables y ≡ are_enables c
  enables = λ i. h.fixed (pin_text En) i || (number Param.Words refl i == 0)

  bad_access : (kind : MemoryKind) → is_bad_access false n.links (cell_ports n.links t.name later) t y kind ≡ is_bad_access false m.links (cell_ports m.links s.name earlier) s c kind
  bad_access Memrd = clocked
  bad_access MemrdV2 = clocked
  bad_access MemwrV2 = λ i. ((not (clocked i) || nat_lt 65535 (number Param.Portid refl i)) || numbers i) || false
  bad_access Meminit = λ i. not (words i)
  bad_access MeminitV2 = λ i. not (words i) || not (enables i)

  -- the one cell is a fault of its memory just where the other is
  pub bad_same : (kind : MemoryKind) → memory_name c.params ≡ Some s.name → store_named m.memories s.name ≡ Some s → memory_name y.params ≡ Some t.name → store_named n.memories t.name ≡ Some t → is_bad_memory_cell false n later y kind ≡ is_bad_memory_cell false m earlier c kind
  bad_same kind named found named' found' =
      ap (λ o. option_map_or (is_bad_in false n later y kind) (option_and_then (store_named n.memories) o) true) named'
      ∙ ap (λ o. option_map_or (is_bad_in false n later y kind) o true) found'
      ∙ (λ i. unlike i || bad_access kind i)
      ∙ ap (λ o. option_map_or (is_bad_in false m earlier c kind) o true) (sym found)
      ∙ ap (λ o. option_map_or (is_bad_in false m earlier c kind) (option_and_then (store_named m.memories) o) true) (sym named)

-- numbers of write ports among cells
any-append : (test : Cell → Bool) (xs ys : List Cell) → list_any test (xs ++ ys) ≡ (list_any test xs || list_any test ys)
any-append test [] ys = refl
any-append test (x ∷ xs) ys = by (test x) (any-append test xs ys)
  where
    by : (t : Bool) → list_any test (xs ++ ys) ≡ (list_any test xs || list_any test ys) → (t || list_any test (xs ++ ys)) ≡ ((t || list_any test xs) || list_any test ys)
    by true e = refl
    by false e = e

pub number-append : (n : ℕ) (name : List ℕ) (xs ys : List Cell) → has_number n (filter (writes_to name) (xs ++ ys)) ≡ (has_number n (filter (writes_to name) xs) || has_number n (filter (writes_to name) ys))
number-append n name xs ys =
    ap (has_number n) (filter-append (writes_to name) xs ys)
    ∙ any-append (λ (c : Cell). number_at c Param.Portid == n) (filter (writes_to name) xs) (filter (writes_to name) ys)

-- cells of a module, and cells of another one that stand for them
module _ (ports : Ports) (m n : Module) (new : List ℕ → List ℕ) where
  -- a cell, and one that stands for it
  pub record StandsFor (c y : Cell) : Type 0 where
    pub kind : y.kind_name ≡ c.kind_name
    pub writes : (s : Store) → In s m.memories → writes_to (new s.name) y ≡ writes_to s.name c
    pub port : number_at y Param.Portid ≡ number_at c Param.Portid
    pub memory :
        (kind : MemoryKind) → cell_kind c ≡ Some (Memory kind) →
        (s : Store) × (t : Store) × In s m.memories × (new s.name ≡ t.name) × (memory_name c.params ≡ Some s.name) × (store_named m.memories s.name ≡ Some s) × (memory_name y.params ≡ Some t.name) × (store_named n.memories t.name ≡ Some t) × SameAccess s c t y

  -- the write ports so far have the same numbers
  abbrev pub SameTaken : List Cell → List Cell → Type 0
  SameTaken earlier later =
      (s : Store) → In s m.memories → (number : ℕ) → has_number number (filter (writes_to (new s.name)) later) ≡ has_number number (filter (writes_to s.name) earlier)

  one_more : (earlier later : List Cell) (c y : Cell) → StandsFor c y → SameTaken earlier later → SameTaken (earlier ++ c ∷ []) (later ++ y ∷ [])
  one_more earlier later c y h taken s i number =
      number-append number (new s.name) later (y ∷ [])
      ∙ (λ j. taken s i number j || one (writes_to (new s.name) y) (writes_to s.name c) (h.writes s i) j)
      ∙ sym (number-append number s.name earlier (c ∷ []))
    where
      one : (a b : Bool) → a ≡ b → has_number number (cond a (y ∷ []) []) ≡ has_number number (cond b (c ∷ []) [])
      one true true e = ap (λ z. (z == number) || false) h.port
      one false false e = refl
      one true false e = absurd (cc)
      one false true e = absurd (cc)

  access_one : (earlier later : List Cell) (c y : Cell) → StandsFor c y → SameTaken earlier later → IsAccess m earlier c (cell_type ports c.kind_name) → IsAccess n later y (cell_type ports y.kind_name)
  access_one earlier later c y h taken a =
      subst (IsAccess n later y) (ap (cell_type ports) (sym h.kind)) (by (cell_type ports c.kind_name) refl a)
    where
      by : (type : CellType) → cell_type ports c.kind_name ≡ type → IsAccess m earlier c type → IsAccess n later y type
      by (Library (Memory kind)) e b =
          let k = h.memory kind (own_kind ports c (Memory kind) e) in
          bad_same m n k.0 k.1 c y k.8 earlier later (λ number. subst (λ z. has_number number (filter (writes_to z) later) ≡ has_number number (filter (writes_to k.0.name) earlier)) k.3 (taken k.0 k.2 number)) kind k.4 k.5 k.6 k.7 ∙ b
      by (Library (Word kind)) e b = tt
      by (Library (Gate kind)) e b = tt
      by (Library (Storage kind)) e b = tt
      by (Library (StorageGate kind)) e b = tt
      by (Instance lines) e b = tt
      by Unsupported e b = tt
      by Unknown e b = tt

  pub accesses_for : (earlier later cs ys : List Cell) → Paired StandsFor cs ys → SameTaken earlier later → AreAccesses ports m earlier cs → AreAccesses ports n later ys
  accesses_for earlier later [] [] h taken a = tt
  accesses_for earlier later (c ∷ cs) (y ∷ ys) h taken a =
      (access_one earlier later c y h.0 taken a.0, accesses_for (earlier ++ c ∷ []) (later ++ y ∷ []) cs ys h.1 (one_more earlier later c y h.0 taken) a.1)
  accesses_for earlier later [] (y ∷ ys) h taken a = absurd h
  accesses_for earlier later (c ∷ cs) [] h taken a = absurd h
