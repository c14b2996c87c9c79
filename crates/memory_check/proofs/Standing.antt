-- What a table of memories knows, one cell or line further.
use Rattle.std.proofs.Common.{◌≡◌, ℕ, ◌-◌, ◌<◌, ◌≤◌, Bool, true, false, cond, ◌&&◌, ◌||◌, List, [], ◌∷◌, ◌++◌, append-nil, length, map, filter, get_or, drop, Option, Some, None, Result, Ok, Err, Bor, MutBor, refl, sym, ◌∙◌, ap, subst, arith}
use Rattle.std.specs.HashMap.{UpdatesBy}
use Rattle.std.specs.Option.{IsSome, option_copied_mut, option_map_or}
use Rattle.std.specs.Result.{IfOk}
use Rattle.std.specs.Str.{bytes_eq}
use Rattle.std.proofs.lemmas.List.{map-append}
use Rattle.std.proofs.lemmas.List.Elements.{filter-append}
use Rattle.std.proofs.lemmas.Map.Text.{hash_map_updates_str}
use Rattle.std.proofs.lemmas.Slice.Eq.{bytes_eq-Decides}
use Rattle.std.proofs.lemmas.Bool.{false≢true}
use Rattle.cell_types.specs.declared.kind.CellKind.TheVariants as Cells
use Rattle.cell_types.specs.declared.memory.MemoryKind.{MemoryKind}
use Rattle.cell_types.specs.declared.memory.MemoryKind.TheVariants.{Memrd, MemrdV2, MemwrV2, Meminit, MeminitV2}
use Rattle.cell_types.specs.Kind.{kind_of}
use Rattle.rtl_ir.proofs.PortLemmas.{drop-before}
use Rattle.rtl_ir.specs.declared.cell.Cell.{Cell}
use Rattle.rtl_ir.specs.declared.module.Link.{Link}
use Rattle.rtl_ir.specs.declared.module.Module.{Module}
use Rattle.rtl_ir.specs.declared.store.Store.{Store}
use Rattle.rtl_ir.specs.Faults.MemoryCells.{is_bad_access, is_bad_in, is_unlike, store_named}
use Rattle.rtl_ir.specs.Faults.Processes.{is_bad_line, is_bad_write_in}
use Rattle.rtl_ir.specs.Parameters.{memory_name}
use Rattle.rtl_ir.specs.WritePorts.{EventLine, WritePort, cell_port, cell_ports, is_of_memory, is_write_cell, lines_of}
use Rattle.net_index.specs.Types.{Named, at_name}
use Rattle.net_index.proofs.Tables.{Puts, at_name-put}
use Rattle.memory_check.specs.declared.memories.Memories.{Memories}
use Rattle.memory_check.specs.declared.ports.Ports.{Ports}
use Rattle.memory_check.specs.Memories.{KnowsCells, KnowsLines, Stands}
use Rattle.memory_check.specs.Ports.{HasCells, HasLines, is_bad_line_behind, with_cell}
use Rattle.memory_check.proofs.Noting.{no_line}

-- a memory goes before the others
pub store_put : (Has : Ports → Store → Type 0) (old new : Named Ports) (key : Bor (List ℕ)) (s : Store) (entry : Ports) → Puts old new key entry → key.now ≡ s.name → Has entry s
    → (stores : List Store) (at : ℕ) → 0 < at → at ≤ length stores → s ≡ get_or stores (at - 1) s
    → ((name : List ℕ) → Stands Has (at_name old name) (store_named (drop at stores) name))
    → (name : List ℕ) → Stands Has (at_name new name) (store_named (drop (at - 1) stores) name)
store_put Has old new key s entry p named own stores at some within is others name =
    rw (drop-before stores at s some within is, at_name-put old new key entry p name, named) (by (bytes_eq s.name name) (others name))
  where
    by : (b : Bool) → Stands Has (at_name old name) (store_named (drop at stores) name)
        → Stands Has (cond b (Some entry) (at_name old name)) (cond b (Some s) (store_named (drop at stores) name))
    by true h = own
    by false h = h

-- the write ports of a memory among cells, with one more cell
ports_push : (links : List Link) (name : List ℕ) (earlier : List Cell) (c : Cell) (b : Bool) → (is_write_cell c.kind_name && is_of_memory name c) ≡ b
    → cell_ports links name (earlier ++ c ∷ []) ≡ cell_ports links name earlier ++ cond b (cell_port links c ∷ []) []
ports_push links name earlier c b e =
    let is = λ (d : Cell). is_write_cell d.kind_name && is_of_memory name d in
    ap (map (cell_port links)) (filter-append is earlier (c ∷ []))
    ∙ map-append (cell_port links) (filter is earlier) (filter is (c ∷ []))
    ∙ ap (λ cs. cell_ports links name earlier ++ cs) (rw e (by b))
  where
    by : (b : Bool) → map (cell_port links) (cond b (c ∷ []) []) ≡ cond b (cell_port links c ∷ []) []
    by true = refl
    by false = refl

-- two names are unlike either way
turned : (name q : List ℕ) → bytes_eq name q ≡ false → bytes_eq q name ≡ false
turned name q e = by (bytes_eq q name) refl
  where
    by : (b : Bool) → bytes_eq q name ≡ b → b ≡ false
    by true f = absurd (false≢true (sym e ∙ (bytes_eq-Decides name q).1 (sym ((bytes_eq-Decides q name).0 f))))
    by false f = refl

-- the memory of a name has it
named : (stores : List Store) (name : List ℕ) (s : Store) → store_named stores name ≡ Some s → s.name ≡ name
named [] name s e = absurd (cc)
named (t ∷ stores) name s e = by (bytes_eq t.name name) refl e (named stores name s)
  where
    by : (b : Bool) → bytes_eq t.name name ≡ b → cond b (Some t) (store_named stores name) ≡ Some s → (store_named stores name ≡ Some s → s.name ≡ name) → s.name ≡ name
    by true f g h = let same : t ≡ s = cc in ap (λ (u : Store). u.name) (sym same) ∙ (bytes_eq-Decides t.name name).0 f
    by false f g h = h g

-- what a name has in a table stands for the memory of this name
stand_for : {P : Store → Type 0} (Has : Ports → Store → Type 0) (entry : Ports) (o : Option Ports) (stored : Option Store) → o ≡ Some entry → Stands Has o stored
    → ((s : Store) → stored ≡ Some s → Has entry s → P s) → (s : Store) × (stored ≡ Some s) × P s
stand_for Has entry (Some e) (Some s) is h f = (s, refl, f s refl (subst (λ (x : Ports). Has x s) (let same : e ≡ entry = cc in same) h))
stand_for Has entry (Some e) None is h f = absurd h
stand_for Has entry None stored is h f = absurd (cc)

module _ (m : Module) (earlier : List Cell) (c : Cell) (kind : MemoryKind) (name : List ℕ) where
  abbrev HasAmong : List Cell → List ℕ → Ports → Store → Type 0
  HasAmong cells q entry s = HasCells m.links entry s (cell_ports m.links q cells)

  -- a cell of a memory that is there
  pub bad_found : (table : Named Ports) (entry : Ports) (bad : Bool) → at_name table name ≡ Some entry → Stands (HasAmong earlier name) (at_name table name) (store_named m.memories name)
      → ((s : Store) (ports : List WritePort) → HasCells m.links entry s ports → bad ≡ (is_unlike s c || is_bad_access true m.links ports s c kind))
      → bad ≡ option_map_or (is_bad_in true m earlier c kind) (store_named m.memories name) true
  bad_found table entry bad is h f =
      let p = stand_for {P = λ s. bad ≡ is_bad_in true m earlier c kind s} (HasAmong earlier name) entry (at_name table name) (store_named m.memories name) is h
      (λ s e own. subst (λ q. bad ≡ (is_unlike s c || is_bad_access true m.links (cell_ports m.links q earlier) s c kind)) (sym (named m.memories name s e)) (f s (cell_ports m.links name earlier) own)) in
      p.2 ∙ ap (λ o. option_map_or (is_bad_in true m earlier c kind) o true) (sym p.1)

  -- a cell of none
  pub bad_missing : (table : Named Ports) → at_name table name ≡ None → Stands (HasAmong earlier name) (at_name table name) (store_named m.memories name)
      → true ≡ option_map_or (is_bad_in true m earlier c kind) (store_named m.memories name) true
  bad_missing table is h = by (at_name table name) (store_named m.memories name) is h
    where
      by : (o : Option Ports) (stored : Option Store) → o ≡ None → Stands (HasAmong earlier name) o stored → true ≡ option_map_or (is_bad_in true m earlier c kind) stored true
      by None None e g = refl
      by None (Some s) e g = absurd g
      by (Some entry) stored e g = absurd (cc)

  module _ (is_kind : kind_of c.kind_name ≡ Some (Cells.Memory kind)) (is_named : memory_name c.params ≡ Some name) where
    writes_own : (k : MemoryKind) → kind_of c.kind_name ≡ Some (Cells.Memory k) → is_of_memory name c ≡ true → cell_ports m.links name (earlier ++ c ∷ []) ≡ with_cell m.links (cell_ports m.links name earlier) k c
    unfolding is_write_cell
    writes_own MemwrV2 e own = ports_push m.links name earlier c true (rw (e, own) refl)
    writes_own Memrd e own = ports_push m.links name earlier c false (rw e refl) ∙ append-nil (cell_ports m.links name earlier)
    writes_own MemrdV2 e own = ports_push m.links name earlier c false (rw e refl) ∙ append-nil (cell_ports m.links name earlier)
    writes_own Meminit e own = ports_push m.links name earlier c false (rw e refl) ∙ append-nil (cell_ports m.links name earlier)
    writes_own MeminitV2 e own = ports_push m.links name earlier c false (rw e refl) ∙ append-nil (cell_ports m.links name earlier)

    own_memory : is_of_memory name c ≡ true
    own_memory = rw is_named ((bytes_eq-Decides name name).1 refl)

    other_memory : (q : List ℕ) → bytes_eq name q ≡ false → is_of_memory q c ≡ false
    other_memory q e = rw is_named (turned name q e)

    other_ports : (q : List ℕ) → bytes_eq name q ≡ false → cell_ports m.links q (earlier ++ c ∷ []) ≡ cell_ports m.links q earlier
    other_ports q e =
        let none : (is_write_cell c.kind_name && is_of_memory q c) ≡ false = rw (other_memory q e) (by (is_write_cell c.kind_name)) in
        ports_push m.links q earlier c false none ∙ append-nil (cell_ports m.links q earlier)
      where
        by : (b : Bool) → (b && false) ≡ false
        by true = refl
        by false = refl

    -- a cell of a memory is noted
    pub cell_written : (old new : Named Ports) (entry noted : Ports) → at_name old name ≡ Some entry → ((q : List ℕ) → at_name new q ≡ cond (bytes_eq name q) (Some noted) (at_name old q))
        → ((q : List ℕ) → Stands (HasAmong earlier q) (at_name old q) (store_named m.memories q))
        → ((s : Store) (ports : List WritePort) → HasCells m.links entry s ports → HasCells m.links noted s (with_cell m.links ports kind c))
        → (q : List ℕ) → Stands (HasAmong (earlier ++ c ∷ []) q) (at_name new q) (store_named m.memories q)
    cell_written old new entry noted is written all step q = rw (written q) (by (bytes_eq name q) refl)
      where
        here : Stands (HasAmong (earlier ++ c ∷ []) name) (Some noted) (store_named m.memories name)
        here =
            let p = stand_for {P = λ s. HasAmong (earlier ++ c ∷ []) name noted s} (HasAmong earlier name) entry (at_name old name) (store_named m.memories name) is (all name)
            (λ s e own. subst (HasCells m.links noted s) (sym (writes_own kind is_kind own_memory)) (step s (cell_ports m.links name earlier) own)) in
            subst (Stands (HasAmong (earlier ++ c ∷ []) name) (Some noted)) (sym p.1) p.2

        by : (b : Bool) → bytes_eq name q ≡ b → Stands (HasAmong (earlier ++ c ∷ []) q) (cond b (Some noted) (at_name old q)) (store_named m.memories q)
        by true e = subst (λ r. Stands (HasAmong (earlier ++ c ∷ []) r) (Some noted) (store_named m.memories r)) ((bytes_eq-Decides name q).0 e) here
        by false e = subst (λ ports. Stands (λ entry s. HasCells m.links entry s ports) (at_name old q) (store_named m.memories q)) (sym (other_ports q e)) (all q)

-- a cell that is no write port changes nothing
pub no_port : (m : Module) (earlier : List Cell) (c : Cell) (memories : Memories) → is_write_cell c.kind_name ≡ false → KnowsCells memories m earlier → KnowsCells memories m (earlier ++ c ∷ [])
no_port m earlier c memories none knows = record {
  clocks = knows.clocks;
  stores = λ q.
      let same : cell_ports m.links q (earlier ++ c ∷ []) ≡ cell_ports m.links q earlier = ports_push m.links q earlier c false (rw none refl) ∙ append-nil (cell_ports m.links q earlier) in
      subst (λ ports. Stands (λ entry s. HasCells m.links entry s ports) (at_name memories.stores q) (store_named m.memories q)) (sym same) (knows.stores q);
}

-- once all cells are seen the lines come
pub lines_come : (m : Module) (memories : Memories) → KnowsCells memories m m.cells → KnowsLines memories m []
lines_come m memories knows = record {
  clocks = knows.clocks;
  stores = λ q. by q (at_name memories.stores q) (store_named m.memories q) (knows.stores q);
}
  where
    by : (q : List ℕ) (o : Option Ports) (stored : Option Store) → Stands (λ entry s. HasCells m.links entry s (cell_ports m.links q m.cells)) o stored
        → Stands (λ entry s. HasLines m.links entry s (cell_ports m.links q m.cells) (lines_of q [])) o stored
    by q None None h = tt
    by q None (Some s) h = h
    by q (Some entry) None h = h
    by q (Some entry) (Some s) h = no_line m.links entry s (cell_ports m.links q m.cells) h

module _ (m : Module) (before : List EventLine) (l : EventLine) where
  abbrev HasBehind : List EventLine → List ℕ → Ports → Store → Type 0
  HasBehind lines q entry s = HasLines m.links entry s (cell_ports m.links q m.cells) (lines_of q lines)

  -- a line that writes a memory that is there
  pub line_found : (table : Named Ports) (entry : Ports) (bad : Bool) → at_name table l.line.memory ≡ Some entry → Stands (HasBehind before l.line.memory) (at_name table l.line.memory) (store_named m.memories l.line.memory)
      → ((s : Store) (ports : List WritePort) (lines : List EventLine) → HasLines m.links entry s ports lines → bad ≡ is_bad_line_behind m.links s ports lines l)
      → bad ≡ is_bad_line true m before l
  line_found table entry bad is h f =
      let p = stand_for {P = λ s. bad ≡ is_bad_write_in true m before l s} (HasBehind before l.line.memory) entry (at_name table l.line.memory) (store_named m.memories l.line.memory) is h
      (λ s e own. subst (λ q. bad ≡ is_bad_line_behind m.links s (cell_ports m.links q m.cells) (lines_of q before) l) (sym (named m.memories l.line.memory s e)) (f s (cell_ports m.links l.line.memory m.cells) (lines_of l.line.memory before) own)) in
      p.2 ∙ ap (λ o. option_map_or (is_bad_write_in true m before l) o true) (sym p.1)

  -- a line that writes none
  pub line_missing : (table : Named Ports) → at_name table l.line.memory ≡ None → Stands (HasBehind before l.line.memory) (at_name table l.line.memory) (store_named m.memories l.line.memory) → true ≡ is_bad_line true m before l
  line_missing table is h = by (at_name table l.line.memory) (store_named m.memories l.line.memory) is h
    where
      by : (o : Option Ports) (stored : Option Store) → o ≡ None → Stands (HasBehind before l.line.memory) o stored → true ≡ option_map_or (is_bad_write_in true m before l) stored true
      by None None e g = refl
      by None (Some s) e g = absurd g
      by (Some entry) stored e g = absurd (cc)

  lines_push : (q : List ℕ) (b : Bool) → bytes_eq q l.line.memory ≡ b → lines_of q (before ++ l ∷ []) ≡ lines_of q before ++ cond b (l ∷ []) []
  lines_push q b e = filter-append (λ (k : EventLine). bytes_eq q k.line.memory) before (l ∷ []) ∙ ap (λ ls. lines_of q before ++ ls) (rw e refl)

  -- a line is noted
  pub line_written : (old new : Named Ports) (entry noted : Ports) → at_name old l.line.memory ≡ Some entry → ((q : List ℕ) → at_name new q ≡ cond (bytes_eq l.line.memory q) (Some noted) (at_name old q))
      → ((q : List ℕ) → Stands (HasBehind before q) (at_name old q) (store_named m.memories q))
      → ((s : Store) (ports : List WritePort) (lines : List EventLine) → HasLines m.links entry s ports lines → HasLines m.links noted s ports (lines ++ l ∷ []))
      → (q : List ℕ) → Stands (HasBehind (before ++ l ∷ []) q) (at_name new q) (store_named m.memories q)
  line_written old new entry noted is written all step q = rw (written q) (by (bytes_eq l.line.memory q) refl)
    where
      here : Stands (HasBehind (before ++ l ∷ []) l.line.memory) (Some noted) (store_named m.memories l.line.memory)
      here =
          let p = stand_for {P = λ s. HasBehind (before ++ l ∷ []) l.line.memory noted s} (HasBehind before l.line.memory) entry (at_name old l.line.memory) (store_named m.memories l.line.memory) is (all l.line.memory)
          (λ s e own. subst (HasLines m.links noted s (cell_ports m.links l.line.memory m.cells)) (sym (lines_push l.line.memory true ((bytes_eq-Decides l.line.memory l.line.memory).1 refl))) (step s (cell_ports m.links l.line.memory m.cells) (lines_of l.line.memory before) own)) in
          subst (Stands (HasBehind (before ++ l ∷ []) l.line.memory) (Some noted)) (sym p.1) p.2

      by : (b : Bool) → bytes_eq l.line.memory q ≡ b → Stands (HasBehind (before ++ l ∷ []) q) (cond b (Some noted) (at_name old q)) (store_named m.memories q)
      by true e = subst (λ r. Stands (HasBehind (before ++ l ∷ []) r) (Some noted) (store_named m.memories r)) ((bytes_eq-Decides l.line.memory q).0 e) here
      by false e = subst (λ lines. Stands (λ entry s. HasLines m.links entry s (cell_ports m.links q m.cells) lines) (at_name old q) (store_named m.memories q))
          (sym (lines_push q false (turned l.line.memory q e) ∙ append-nil (lines_of q before))) (all q)

-- all memories are placed
pub stores_all : (Has : Ports → Store → Type 0) (table : Named Ports) (stores : List Store) (at : ℕ) → at ≤ 0 → ((name : List ℕ) → Stands Has (at_name table name) (store_named (drop at stores) name))
    → (name : List ℕ) → Stands Has (at_name table name) (store_named stores name)
stores_all Has table stores at none h name =
    let first : at ≡ 0 = omega arith in
    subst (λ n. Stands Has (at_name table name) (store_named (drop n stores) name)) first (h name)

-- what is lent from a table
pub lent_found : (table : Named Ports) (name : List ℕ) (r : Option (MutBor Ports)) (slot : MutBor Ports) → r ≡ Some slot → option_copied_mut r ≡ at_name table name → at_name table name ≡ Some slot.now
lent_found table name r slot is value = sym value ∙ ap option_copied_mut is

pub lent_missing : (table : Named Ports) (name : List ℕ) (r : Option (MutBor Ports)) → r ≡ None → option_copied_mut r ≡ at_name table name → at_name table name ≡ None
lent_missing table name r is value = sym value ∙ ap option_copied_mut is

-- what was lent is written back
pub lent_written : (name : List ℕ) (old new : Named Ports) (entry noted : Ports) → at_name old name ≡ Some entry
    → (IsSome (at_name old name) → UpdatesBy (λ (x y : Bor (List ℕ)). bytes_eq x.now y.now) (λ (k : Bor (List ℕ)). bytes_eq name k.now) old new (Some noted))
    → (q : List ℕ) → at_name new q ≡ cond (bytes_eq name q) (Some noted) (at_name old q)
lent_written name old new entry noted is updates q = hash_map_updates_str name old new (Some noted) (updates (subst IsSome (sym is) refl)) q

-- two clauses of one answer
pub both_ok : {X Y : Type 0} (r : Result X Y) (P Q S : X → Type 0) → ((x : X) → P x → Q x → S x) → IfOk r P → IfOk r Q → IfOk r S
both_ok (Ok x) P Q S h p q = h x p q
both_ok (Err e) P Q S h p q = tt
