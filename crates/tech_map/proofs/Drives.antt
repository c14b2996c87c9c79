-- Gates and connections drive what their cells drive and the fresh wires, in another order. This serves the check, which
-- counts bits, and the flat netlist, which has places.
use Rattle.std.proofs.Common.{◌≡◌, ℕ, true, false, List, [], ◌∷◌, ◌++◌, length, Option, Some, None, inl, inr, refl, sym, ◌∙◌, ap}
use Rattle.std.specs.Prelude.{flat_map, map, IsPermutation}
use Rattle.std.proofs.lemmas.Grind.{flat_map-append}
use Rattle.std.proofs.lemmas.List.{append-nil}
use Rattle.std.proofs.lemmas.List.Sorted.{IsPermutation-map, IsPermutation-refl, IsPermutation-trans}
use Rattle.cell_types.specs.declared.kind.CellKind.{CellKind}
use Rattle.cell_types.specs.declared.kind.CellKind.TheVariants.{Gate, Memory, Storage, StorageGate, Word}
use Rattle.rtl_sig.specs.declared.sig.WireBit.{WireBit}
use Rattle.rtl_ir.specs.Build.{Building}
use Rattle.rtl_ir.specs.Faults.Cells.{is_memory_kind}
use Rattle.rtl_ir.specs.Flat.Cell.{cell_kind}
use Rattle.rtl_ir.specs.declared.cell.Cell.{Cell}
use Rattle.rtl_ir.specs.declared.module.Link.{Link}
use Rattle.rtl_ir.specs.declared.wire.Wire.{Wire}
use Rattle.net_model.proofs.Members.{map-append}
use Rattle.net_model.specs.Gates.{is_gate}
use Rattle.net_model.specs.Within.{Each}
use Rattle.map_laws.specs.Expansion.{Expands, IsWhole, IsWholeCell, IsWholeGate, IsWholeLink, bits_from, cell_bits, driven_by, link_bits, links_added, wires_added}
use Rattle.map_laws.proofs.Expanding.{bits_further}
use Rattle.map_laws.proofs.Reordering.{joined, to_permutation}
use Rattle.tech_map.specs.Techmap.{stand_in, stand_ins, taken_kind, with_gates}
use Rattle.tech_map.proofs.Growing.{AreWhole, all_added, next_wires, one_added, whole_next}
use Rattle.tech_map.proofs.ByKind.{mapped, no_memory, taken_is}

pub gate_plain : (kind : CellKind) → is_gate (Some kind) ≡ true → is_memory_kind kind ≡ false
gate_plain (Word kind) e = refl
gate_plain (Gate kind) e = refl
gate_plain (Storage kind) e = refl
gate_plain (StorageGate gate) e = refl
gate_plain (Memory kind) e = absurd (cc)

-- what is counted of a cell and of a connection, where it is that of the bits that they drive
module _ {X : Type 0} (h : WireBit → X) (f : Cell → List X) (g : Link → List X) (own : (n : ℕ) (kind : CellKind) (c : Cell) → is_memory_kind kind ≡ false → IsWhole n kind c → f c ≡ map h (cell_bits c)) (line : (n : ℕ) (l : Link) → IsWholeLink n l → g l ≡ map h (link_bits l)) where
  gates_drive : (n : ℕ) (cs : List Cell) → Each (IsWholeGate n) cs → flat_map f cs ≡ map h (flat_map cell_bits cs)
  gates_drive n [] gates = refl
  gates_drive n (c ∷ cs) gates =
      let gate = gates c (inl refl) in
      (λ i. own n gate.kind c (gate_plain gate.kind gate.gate) gate.whole i ++ gates_drive n cs (λ d j. gates d (inr j)) i)
      ∙ sym (map-append h (cell_bits c) (flat_map cell_bits cs))

  lines_drive : (n : ℕ) (ls : List Link) → Each (IsWholeLink n) ls → flat_map g ls ≡ map h (flat_map link_bits ls)
  lines_drive n [] lines = refl
  lines_drive n (l ∷ ls) lines =
      (λ i. line n l (lines l (inl refl)) i ++ lines_drive n ls (λ k j. lines k (inr j)) i)
      ∙ sym (map-append h (link_bits l) (flat_map link_bits ls))

  expansion_drives : (old new : Building) (c : Cell) (kind : CellKind) (cells : List Cell) (wires : List Wire) (links : List Link) → is_memory_kind kind ≡ false → IsWhole (length old.body.wires) kind c → Expands old new c cells wires links → IsPermutation (flat_map f cells ++ flat_map g links) (map h (bits_from (length old.body.wires) wires) ++ f c)
  expansion_drives old new c kind cells wires links plain whole e =
      let n : ℕ = length new.body.wires in
      let first : flat_map f cells ++ flat_map g links ≡ map h (driven_by cells links) =
      (λ i. gates_drive n cells e.gates i ++ lines_drive n links e.lines i) ∙ sym (map-append h (flat_map cell_bits cells) (flat_map link_bits links))
      in
      let last : map h (bits_from (length old.body.wires) wires ++ cell_bits c) ≡ map h (bits_from (length old.body.wires) wires) ++ f c =
      map-append h (bits_from (length old.body.wires) wires) (cell_bits c) ∙ ap (λ z. map h (bits_from (length old.body.wires) wires) ++ z) (sym (own (length old.body.wires) kind c plain whole))
      in
      IsPermutation-trans _ _ _ (to_permutation _ _ first) (IsPermutation-trans _ _ _ (IsPermutation-map h _ _ e.driven) (to_permutation _ _ last))

  one_drives : (c : Cell) (b : Building) → IsWholeCell (length b.body.wires) c → (k : Option CellKind) → taken_kind c ≡ k → IsPermutation (flat_map f (stand_in k c b) ++ flat_map g (one_added links_added k c b)) (map h (bits_from (length b.body.wires) (one_added wires_added k c b)) ++ f c)
  one_drives c b whole None e = to_permutation _ _ (append-nil (f c ++ []) ∙ append-nil (f c))
  one_drives c b whole (Some kind) e =
      let is = taken_is (cell_kind c) kind e in
      expansion_drives b (with_gates (Some kind) c b) c kind _ _ _ (no_memory kind is.taken) (whole kind is.own) (mapped kind is.taken c b (whole kind is.own)).expansion

  pub all_drive : (cs : List Cell) (b : Building) → AreWhole cs b → IsPermutation (flat_map f (stand_ins cs b) ++ flat_map g (all_added links_added cs b)) (map h (bits_from (length b.body.wires) (all_added wires_added cs b)) ++ flat_map f cs)
  all_drive [] b whole = IsPermutation-refl []
  all_drive (c ∷ cs) b whole =
      let next : Building = with_gates (taken_kind c) c b in
      let here : List Cell = stand_in (taken_kind c) c b in
      let more : List Link = one_added links_added (taken_kind c) c b in
      let wires : List Wire = one_added wires_added (taken_kind c) c b in
      let later : List Wire = all_added wires_added cs next in
      let first : flat_map f (here ++ stand_ins cs next) ++ flat_map g (more ++ all_added links_added cs next) ≡ (flat_map f here ++ flat_map f (stand_ins cs next)) ++ (flat_map g more ++ flat_map g (all_added links_added cs next)) =
      λ i. flat_map-append f here (stand_ins cs next) i ++ flat_map-append g more (all_added links_added cs next) i
      in
      let bits : bits_from (length b.body.wires) (wires ++ later) ≡ bits_from (length b.body.wires) wires ++ bits_from (length next.body.wires) later =
      bits_further (length b.body.wires) wires later ∙ ap (λ n. bits_from (length b.body.wires) wires ++ bits_from n later) (sym (next_wires c b (whole c (inl refl))))
      in
      let last : (map h (bits_from (length b.body.wires) wires) ++ map h (bits_from (length next.body.wires) later)) ++ flat_map f (c ∷ cs) ≡ map h (bits_from (length b.body.wires) (wires ++ later)) ++ flat_map f (c ∷ cs) =
      ap (λ z. z ++ flat_map f (c ∷ cs)) (sym (map-append h (bits_from (length b.body.wires) wires) (bits_from (length next.body.wires) later)) ∙ ap (map h) (sym bits))
      in
      IsPermutation-trans _ _ _ (to_permutation _ _ first)
      (IsPermutation-trans _ _ _ (joined (flat_map f here) (flat_map g more) (flat_map f (stand_ins cs next)) (flat_map g (all_added links_added cs next)) (map h (bits_from (length b.body.wires) wires)) (f c) (map h (bits_from (length next.body.wires) later)) (flat_map f cs) (one_drives c b (whole c (inl refl)) (taken_kind c) refl) (all_drive cs next (whole_next c cs b whole))) (to_permutation _ _ last))
