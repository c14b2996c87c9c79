-- Items that are put one after another: what is left to put, and that fresh numbers never fall.
use Rattle.std.proofs.Common.{◌≡◌, ℕ, suc, ◌+◌, ◌<◌, ◌≤◌, Bool, true, false, cond, List, [], ◌∷◌, ◌++◌, append_assoc, length, drop, get_or, map, refl, sym, ◌∙◌, ap, arith, add-one}
use Rattle.std.proofs.Math.Seq.{drop-cons}
use Rattle.rtl_ir.specs.declared.cell.Cell.{Cell}
use Rattle.rtl_ir.specs.declared.module.Module.{Module}
use Rattle.rtl_ir.specs.declared.store.Store.{Store}
use Rattle.rtl_ir.specs.declared.wire.Wire.{Wire}
use Rattle.rtl_ir.specs.Build.{Building}
use Rattle.flat_pass.specs.Copies.{Copying}
use Rattle.flat_pass.specs.Flat.{copying_of, dotted, is_free, links_of, next_after, put_all, put_cell, put_links, put_store, put_wire, replaced, store_copies, copy_name}

-- fresh numbers do not fall
after_rises : (b : Building) (name : List ℕ) → b.next ≤ next_after b name
after_rises b name = by (is_free b.body name)
  where
    by : (t : Bool) → b.next ≤ cond t b.next (b.next + 1)
    by true = omega arith
    by false = omega arith

pub wire_rises : (instance : List ℕ) (w : Wire) (b : Building) → b.next ≤ (put_wire instance w b).next
wire_rises instance w b = after_rises b (dotted instance w.name)

pub store_rises : (instance : List ℕ) (s : Store) (b : Building) → b.next ≤ (put_store instance s b).next
store_rises instance s b = after_rises b (dotted instance s.name)

pub cell_rises : (k : Copying) (c : Cell) (b : Building) → b.next ≤ (put_cell k c b).next
cell_rises k c b = after_rises b (dotted k.instance c.name)

module _ {A : Type 0} (put : A → Building → Building) where
  pub all_rise : ((x : A) (b : Building) → b.next ≤ (put x b).next) → (xs : List A) (b : Building) → b.next ≤ (put_all put xs b).next
  all_rise rises [] b = omega arith
  all_rise rises (x ∷ xs) b =
      let here = rises x b in
      let rest = all_rise rises xs (put x b) in
      omega (arith, here, rest)

  module _ (xs : List A) (at : ℕ) (x : A) (h : at < length xs) (e : x ≡ get_or xs at x) where
    next : drop at xs ≡ x ∷ drop (at + 1) xs
    next = drop-cons xs at x h ∙ (λ i. sym e i ∷ drop (sym (add-one at) i) xs)

    -- one more is put
    pub put_next : (b b' all : Building) → b' ≡ put x b → put_all put (drop at xs) b ≡ all → put_all put (drop (at + 1) xs) b' ≡ all
    put_next b b' all made so =
        ap (put_all put (drop (at + 1) xs)) made ∙ sym (ap (λ ys. put_all put ys b) next) ∙ so

    -- past the fresh numbers once, past them in the end
    pub put_over : ((y : A) (b : Building) → b.next ≤ (put y b).next) → (b all : Building) → put_all put (drop at xs) b ≡ all → 1000000000 < (put x b).next → 1000000000 < all.next
    put_over rises b all so over =
        let last : put_all put (drop (at + 1) xs) (put x b) ≡ all = put_next b (put x b) all refl so in
        let same : (put_all put (drop (at + 1) xs) (put x b)).next ≡ all.next = ap (λ z. z.next) last in
        let rest = all_rise rises (drop (at + 1) xs) (put x b) in
        omega (arith, over, same, rest)

-- the names of the copies of memories, where one more is put
copies_next : (instance : List ℕ) (ss : List Store) (at : ℕ) (s : Store) → at < length ss → s ≡ get_or ss at s → (b : Building) → store_copies instance (drop at ss) b ≡ copy_name b (dotted instance s.name) ∷ store_copies instance (drop (at + 1) ss) (put_store instance s b)
copies_next instance ss at s h e b = ap (λ ys. store_copies instance ys b) (next (put_store instance) ss at s h e)

-- the names so far and those that are left, where one more is put
pub copies_put : (instance : List ℕ) (ss : List Store) (at : ℕ) (s : Store) → at < length ss → s ≡ get_or ss at s → (b b' : Building) → b' ≡ put_store instance s b → (names names' all : List (List ℕ)) (name : List ℕ) → name ≡ copy_name b (dotted instance s.name) → names' ≡ names ++ name ∷ [] → names ++ store_copies instance (drop at ss) b ≡ all → names' ++ store_copies instance (drop (at + 1) ss) b' ≡ all
copies_put instance ss at s h e b b' made names names' all name called more so =
    (λ i. more i ++ store_copies instance (drop (at + 1) ss) (made i))
    ∙ append_assoc names (name ∷ []) (store_copies instance (drop (at + 1) ss) (put_store instance s b))
    ∙ ap (λ n. names ++ n ∷ store_copies instance (drop (at + 1) ss) (put_store instance s b)) called
    ∙ ap (λ ns. names ++ ns) (sym (copies_next instance ss at s h e b))
    ∙ so

pub copies-length : (instance : List ℕ) (ss : List Store) (b : Building) → length (store_copies instance ss b) ≡ length ss
copies-length instance [] b = refl
copies-length instance (s ∷ ss) b = ap suc (copies-length instance ss (put_store instance s b))

-- past the fresh numbers in a part of a replacement, past them in the end
module _ (child : Module) (c : Cell) (b : Building) where
  abbrev pub wired : Building
  wired = put_all (put_wire c.name) child.wires b

  abbrev pub stored : Building
  stored = put_all (put_store c.name) child.memories wired

  abbrev pub celled : Building
  celled = put_all (put_cell (copying_of c.name (length b.body.wires) child wired)) child.cells stored

  pub celled_next : celled.next ≡ (replaced child c b).next
  unfolding replaced
  celled_next = refl

  -- what the steps before the connections make, one after another
  pub celled_is : (first : ℕ) (copies : List (List ℕ)) (renames : Copying) (w s : Building) → first ≡ length b.body.wires → w ≡ wired → s ≡ put_all (put_store c.name) child.memories w → copies ≡ store_copies c.name child.memories w → renames ≡ record { instance = c.name; first = first; memories = map (λ (m : Store). m.name) child.memories; copies = copies } → put_all (put_cell renames) child.cells s ≡ celled
  celled_is first copies renames w s at wires stores names is =
      let s' : s ≡ stored = stores ∙ ap (put_all (put_store c.name) child.memories) wires in
      let copies' : copies ≡ store_copies c.name child.memories wired = names ∙ ap (store_copies c.name child.memories) wires in
      let renames' : renames ≡ copying_of c.name (length b.body.wires) child wired = is ∙ (λ i. record { instance = c.name; first = at i; memories = map (λ (m : Store). m.name) child.memories; copies = copies' i }) in
      λ i. put_all (put_cell (renames' i)) child.cells (s' i)

  -- with the connections it is the replacement
  pub replaced_is : (first : ℕ) (k l : Building) → first ≡ length b.body.wires → k ≡ celled → l ≡ put_links (links_of first child c.pins) k → l ≡ replaced child c b
  unfolding replaced
  replaced_is first k l at cells links = links ∙ (λ i. put_links (links_of (at i) child c.pins) (cells i))

  pub stored_below : stored.next ≤ (replaced child c b).next
  stored_below =
      let e = celled_next in
      let r = all_rise (put_cell (copying_of c.name (length b.body.wires) child wired)) (cell_rises (copying_of c.name (length b.body.wires) child wired)) child.cells stored in
      omega (arith, e, r)

  pub wired_below : wired.next ≤ (replaced child c b).next
  wired_below =
      let s = stored_below in
      let r = all_rise (put_store c.name) (store_rises c.name) child.memories wired in
      omega (arith, s, r)

-- past the fresh numbers in the end, where a part of it is
pub over_below : (made part whole : Building) → 1000000000 < made.next → made ≡ part → part.next ≤ whole.next → 1000000000 < whole.next
over_below made part whole over same below =
    let next : made.next ≡ part.next = ap (λ z. z.next) same in
    omega (arith, over, next, below)
