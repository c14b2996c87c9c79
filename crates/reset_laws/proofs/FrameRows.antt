-- The rows of a module of which one process becomes another.
use Rattle.std.proofs.Common.{◌≡◌, ℕ, ◌+◌, List, [], ◌∷◌, ◌++◌, append_assoc, length, ◌⊎◌, inl, inr, ⊎_elim, refl, sym, ◌∙◌, ap, subst, arith}
use Rattle.std.specs.Prelude.{flat_map}
use Rattle.std.proofs.lemmas.List.{append-nil}
use Rattle.rtl_bits.specs.declared.bit.Bit.{Bit}
use Rattle.rtl_sig.specs.declared.sig.SigBit.{SigBit}
use Rattle.rtl_ir.specs.Flat.Access.{Access, line_accesses, rule_accesses}
use Rattle.rtl_ir.specs.Flat.Cell.{Ports, cells_rows}
use Rattle.rtl_ir.specs.Flat.Driver.{Driven}
use Rattle.rtl_ir.specs.Flat.Link.{link_rows}
use Rattle.rtl_ir.specs.Flat.Memory.{memories_rows}
use Rattle.rtl_ir.specs.Flat.Place.{Path}
use Rattle.rtl_ir.specs.Flat.Process.{process_rows, processes_rows}
use Rattle.rtl_ir.specs.Flat.Rows.{plain_rows, rows_of}
use Rattle.rtl_ir.specs.Flat.Start.{process_starts, start_of}
use Rattle.rtl_ir.specs.declared.module.Module.{Module}
use Rattle.rtl_ir.specs.declared.process.Process.{Process}
use Rattle.rtl_ir.specs.declared.process.SyncRule.{SyncRule}
use Rattle.rtl_ir.specs.declared.wire.Wire.{Wire}
use Rattle.net_model.proofs.Members.{In-cases, In-left, In-right}
use Rattle.net_model.specs.Lists.{In}
use Rattle.net_model.specs.Within.{Each}
use Rattle.build_laws.proofs.Built.{process_among}
use Rattle.build_laws.proofs.Staying.{SameAccesses, memories_same, starts_same}

-- a list of several parts
flat_both : {A B : Type 0} (f : A → List B) (xs ys : List A) → flat_map f (xs ++ ys) ≡ flat_map f xs ++ flat_map f ys
flat_both f [] ys = refl
flat_both f (x ∷ xs) ys = ap (λ z. f x ++ z) (flat_both f xs ys) ∙ sym (append_assoc (f x) (flat_map f xs) (flat_map f ys))

-- rules that write nothing
abbrev pub WriteNothing : List SyncRule → Type 0
WriteNothing rules = Each (λ (r : SyncRule). r.writes ≡ []) rules

skipped : (name : List ℕ) (number : ℕ) (rules more : List SyncRule) → WriteNothing rules → rule_accesses name number (rules ++ more) ≡ rule_accesses name number more
skipped name number [] more h = refl
skipped name number (r ∷ rules) more h =
    let here : line_accesses name r.event number [] r.writes ≡ [] = ap (line_accesses name r.event number []) (h r (inl refl)) in
    let same : number + 0 ≡ number = omega arith in
    ap (λ (z : List Access). z ++ rule_accesses name (number + length z) (rules ++ more)) here
    ∙ skipped name (number + 0) rules more (λ x i. h x (inr i))
    ∙ ap (λ z. rule_accesses name z more) same

-- the accesses of rules in several parts
parts_same : (name : List ℕ) (number : ℕ) (before here there behind : List SyncRule) → WriteNothing here → WriteNothing there → rule_accesses name number (before ++ (here ++ behind)) ≡ rule_accesses name number (before ++ (there ++ behind))
parts_same name number [] here there behind h k = skipped name number here behind h ∙ sym (skipped name number there behind k)
parts_same name number (r ∷ before) here there behind h k =
    let own : List Access = line_accesses name r.event number [] r.writes in
    ap (λ z. own ++ z) (parts_same name (number + length own) before here there behind h k)

abbrev syncs_of : Process → List SyncRule
syncs_of p = p.syncs

module _ (pre post : List Process) (q r : Process) where
  -- processes that write nothing in each other's place
  pub accesses_stay : WriteNothing q.syncs → WriteNothing r.syncs → SameAccesses (pre ++ q ∷ post) (pre ++ r ∷ post)
  accesses_stay h k name number =
      ap (rule_accesses name number) (flat_both syncs_of pre (q ∷ post))
      ∙ parts_same name number (flat_map syncs_of pre) q.syncs r.syncs (flat_map syncs_of post) h k
      ∙ ap (rule_accesses name number) (sym (flat_both syncs_of pre (r ∷ post)))

  -- that start nothing
  pub starts_stay : (wires : List Wire) → process_starts q ≡ [] → process_starts r ≡ [] → start_of wires (pre ++ q ∷ post) ≡ start_of wires (pre ++ r ∷ post)
  starts_stay wires h k =
      starts_same wires (pre ++ q ∷ post) (pre ++ r ∷ post)
      (flat_both process_starts pre (q ∷ post)
      ∙ (λ i. flat_map process_starts pre ++ ((h ∙ sym k) i ++ flat_map process_starts post))
      ∙ sym (flat_both process_starts pre (r ∷ post)))

pub among_process : (start : SigBit → Bit) (p : Path) (wires : List Wire) (m : Module) (ps : List Process) (d : Driven) (q : Process) → In q ps → In d (process_rows start p wires m q) → In d (processes_rows start p wires m ps)
among_process start p wires m [] d q i j = absurd i
among_process start p wires m (r ∷ ps) d q (inl e) j =
    In-left d (process_rows start p wires m r) (processes_rows start p wires m ps) (subst (λ z. In d (process_rows start p wires m z)) e j)
among_process start p wires m (r ∷ ps) d q (inr i) j =
    In-right d (process_rows start p wires m r) (processes_rows start p wires m ps) (among_process start p wires m ps d q i j)

-- the module with these processes
abbrev pub with_all : Module → List Process → Module
with_all m ps = record m { processes = ps }

module _ (over : Ports) (m : Module) (pre post : List Process) (q r : Process) (p : Path) (starts : start_of m.wires (pre ++ q ∷ post) ≡ start_of m.wires (pre ++ r ∷ post)) (accesses : SameAccesses (pre ++ q ∷ post) (pre ++ r ∷ post)) where
  abbrev pub start : SigBit → Bit
  start = start_of m.wires (pre ++ q ∷ post)

  abbrev pub rows_before : List Driven
  rows_before = rows_of over p (with_all m (pre ++ q ∷ post))

  abbrev pub rows_after : List Driven
  rows_after = rows_of over p (with_all m (pre ++ r ∷ post))

  abbrev cells : List Driven
  cells = cells_rows start over p m.wires m.cells

  abbrev links : List Driven
  links = link_rows p m.wires m.links

  abbrev memories : List Driven
  memories = memories_rows p m.wires m.cells (pre ++ q ∷ post) m.memories

  abbrev trees : List Process → List Driven
  trees ps = processes_rows start p m.wires m ps

  -- a row of another part of the module
  abbrev pub IsOther : Driven → Type 0
  IsOther x = In x cells ⊎ (In x links ⊎ (((s : Process) × In s (pre ++ post) × In x (process_rows start p m.wires m s)) ⊎ In x memories))

  memories_stay : memories_rows p m.wires m.cells (pre ++ r ∷ post) m.memories ≡ memories
  memories_stay =
      (λ i. memories_rows p m.wires (sym (append-nil m.cells) i) (pre ++ r ∷ post) m.memories)
      ∙ memories_same p m.wires m.cells [] (pre ++ q ∷ post) (pre ++ r ∷ post) m.memories (λ c i. absurd i) accesses

  after_is : rows_after ≡ cells ++ (links ++ (trees (pre ++ r ∷ post) ++ memories))
  after_is =
      λ i. cells_rows (sym starts i) over p m.wires m.cells ++ (links ++ (processes_rows (sym starts i) p m.wires m (pre ++ r ∷ post) ++ memories_stay i))

  beside : (s : Process) → In s (pre ++ q ∷ post) → (s ≡ q) ⊎ In s (pre ++ post)
  beside s i =
      ⊎_elim (λ l. inr (In-left s pre post l)) (λ k. ⊎_elim (λ e. inl e) (λ j. inr (In-right s pre post j)) k) (In-cases s pre (q ∷ post) i)

  within : (s z : Process) → In s (pre ++ post) → In s (pre ++ z ∷ post)
  within s z i = ⊎_elim (λ l. In-left s pre (z ∷ post) l) (λ j. In-right s pre (z ∷ post) (inr j)) (In-cases s pre post i)

  -- each row before is one of the process, or of another part
  pub part_of : (x : Driven) → In x rows_before → In x (process_rows start p m.wires m q) ⊎ IsOther x
  part_of x i = ⊎_elim (λ l. inr (inl l)) (λ k. plain (In-cases x links (trees (pre ++ q ∷ post) ++ memories) k)) (In-cases x cells (plain_rows p (with_all m (pre ++ q ∷ post))) i)
    where
      tree : In x (trees (pre ++ q ∷ post)) → In x (process_rows start p m.wires m q) ⊎ IsOther x
      tree j =
          let k = process_among start p m.wires m (pre ++ q ∷ post) x j in
          ⊎_elim (λ e. inl (subst (λ z. In x (process_rows start p m.wires m z)) e k.2)) (λ o. inr (inr (inr (inl (k.0, o, k.2))))) (beside k.0 k.1)

      plain : In x links ⊎ In x (trees (pre ++ q ∷ post) ++ memories) → In x (process_rows start p m.wires m q) ⊎ IsOther x
      plain (inl l) = inr (inr (inl l))
      plain (inr k) = ⊎_elim tree (λ j. inr (inr (inr (inr j)))) (In-cases x (trees (pre ++ q ∷ post)) memories k)

  -- those of other parts stay
  pub other_stays : (x : Driven) → IsOther x → In x rows_after
  other_stays x h = subst (In x) (sym after_is) (by h)
    where
      by : IsOther x → In x (cells ++ (links ++ (trees (pre ++ r ∷ post) ++ memories)))
      by (inl l) = In-left x cells (links ++ (trees (pre ++ r ∷ post) ++ memories)) l
      by (inr (inl l)) = In-right x cells (links ++ (trees (pre ++ r ∷ post) ++ memories)) (In-left x links (trees (pre ++ r ∷ post) ++ memories) l)
      by (inr (inr (inl k))) =
          In-right x cells (links ++ (trees (pre ++ r ∷ post) ++ memories)) (In-right x links (trees (pre ++ r ∷ post) ++ memories) (In-left x (trees (pre ++ r ∷ post)) memories (among_process start p m.wires m (pre ++ r ∷ post) x k.0 (within k.0 r k.1) k.2)))
      by (inr (inr (inr k))) =
          In-right x cells (links ++ (trees (pre ++ r ∷ post) ++ memories)) (In-right x links (trees (pre ++ r ∷ post) ++ memories) (In-right x (trees (pre ++ r ∷ post)) memories k))

  -- and the process has its rows
  pub process_there : (x : Driven) → In x (process_rows start p m.wires m r) → In x rows_after
  process_there x j =
      subst (In x) (sym after_is)
      (In-right x cells (links ++ (trees (pre ++ r ∷ post) ++ memories)) (In-right x links (trees (pre ++ r ∷ post) ++ memories) (In-left x (trees (pre ++ r ∷ post)) memories (among_process start p m.wires m (pre ++ r ∷ post) x r (In-right r pre (r ∷ post) (inl refl)) j))))

  -- so have cells and connections
  pub cell_there : (x : Driven) → In x cells → In x rows_after
  cell_there x j = other_stays x (inl j)

  pub link_there : (x : Driven) → In x links → In x rows_after
  link_there x j = other_stays x (inr (inl j))
