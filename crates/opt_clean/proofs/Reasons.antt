-- The cells that are kept are those for which there is a reason.
use Rattle.std.proofs.Common.{◌≡◌, ℕ, zero, suc, Bool, true, false, if◌then◌else◌, List, [], ◌∷◌, length, inl, inr, ⊎_elim, refl, ◌∙◌, ap, subst}
use Rattle.std.specs.Prelude.{◌||◌, map, flat_map}
use Rattle.std.specs.List.{list_any}
use Rattle.rtl_sig.specs.declared.sig.WireBit.{WireBit}
use Rattle.rtl_ir.specs.Signals.{has_bit}
use Rattle.rtl_ir.specs.Types.{Ports}
use Rattle.rtl_ir.specs.declared.cell.Cell.{Cell}
use Rattle.rtl_ir.specs.declared.module.Link.{Link}
use Rattle.rtl_ir.specs.declared.wire.Wire.{Wire}
use Rattle.net_model.specs.Lists.{In}
use Rattle.net_model.proofs.Members.{In-cases, In-left, In-right}
use Rattle.opt_clean.specs.Keep.{is_root, output_bits}
use Rattle.opt_clean.specs.Kept.{bits_read, input_bits, is_needed, kept_marks, marked, marks_after, right_bits}
use Rattle.opt_clean.specs.Least.{ForCell, ForItself, ForLink, IsKept}
use Rattle.opt_clean.proofs.Bits.{any_in, flat_in, has_in, in_any, in_flat, in_has}
use Rattle.opt_clean.proofs.Rounds.{marked_pass, settled}

-- what is marked by a test passes it
marked_by : {A : Type 0} (f : A → Bool) (xs : List A) (x : A) → In x (marked (map f xs) xs) → In x xs × (f x ≡ true)
marked_by f [] x i = absurd i
marked_by f (y ∷ xs) x i = by (marked_by f xs x) (f y) refl i
  where
    by : (In x (marked (map f xs) xs) → In x xs × (f x ≡ true)) → (t : Bool) → f y ≡ t → In x (if t then y ∷ marked (map f xs) xs else marked (map f xs) xs) → In x (y ∷ xs) × (f x ≡ true)
    by later true e (inl g) = (inl g, ap f g ∙ e)
    by later true e (inr j) = let k = later j in (inr k.0, k.1)
    by later false e j = let k = later j in (inr k.0, k.1)

module _ (ports : Ports) (wires : List Wire) (links : List Link) (cells : List Cell) where
  abbrev needed : List Bool → Cell → Bool
  needed marks = is_needed ports wires (bits_read ports links (marked marks cells))

  rounds_reason : (n : ℕ) (c : Cell) → In c (marked (marks_after ports wires links cells n) cells) → IsKept ports wires links cells c
  rounds_reason zero c i = let k = marked_by (λ (d : Cell). false) cells c i in let no : false ≡ true = k.1 in absurd (cc)
  rounds_reason (suc n) c i =
      let before : List Bool = marks_after ports wires links cells n in
      let k = marked_by (needed before) cells c i in
      by (rounds_reason n) (is_root ports wires c) refl k.0 k.1
    where
      by : ((d : Cell) → In d (marked (marks_after ports wires links cells n) cells) → IsKept ports wires links cells d) → (t : Bool) → is_root ports wires c ≡ t → In c cells → (t || list_any (has_bit (bits_read ports links (marked (marks_after ports wires links cells n) cells))) (output_bits ports c)) ≡ true → IsKept ports wires links cells c
      by earlier true e there g = ForItself c there e
      by earlier false e there g =
          let bits : List WireBit = bits_read ports links (marked (marks_after ports wires links cells n) cells) in
          let b = in_any (has_bit bits) (output_bits ports c) g in
          ⊎_elim
          (λ l. ForLink c b.0 there b.1 l)
          (λ r. let d = flat_in (input_bits ports) (marked (marks_after ports wires links cells n) cells) b.0 r in
          ForCell c d.0 b.0 there b.1 d.2 (earlier d.0 d.1))
          (In-cases b.0 (right_bits links) (flat_map (input_bits ports) (marked (marks_after ports wires links cells n) cells)) (in_has bits b.0 b.2))

  pub kept_reason : (c : Cell) → In c (marked (kept_marks ports wires links cells) cells) → IsKept ports wires links cells c
  unfolding kept_marks
  kept_reason c i = rounds_reason (length cells) c i

  abbrev kept : List Bool
  kept = kept_marks ports wires links cells

  needed_kept : (c : Cell) → In c cells → needed kept c ≡ true → In c (marked kept cells)
  needed_kept c i e = subst (λ z. In c (marked z cells)) (settled ports wires links cells) (marked_pass (needed kept) cells c i e)

  read_kept : (c : Cell) (b : WireBit) → In c cells → In b (output_bits ports c) → In b (bits_read ports links (marked kept cells)) → In c (marked kept cells)
  read_kept c b i j k = needed_kept c i (by (is_root ports wires c))
    where
      by : (t : Bool) → (t || list_any (has_bit (bits_read ports links (marked kept cells))) (output_bits ports c)) ≡ true
      by true = refl
      by false = any_in (has_bit (bits_read ports links (marked kept cells))) (output_bits ports c) b j (has_in (bits_read ports links (marked kept cells)) b k)

  pub reason_kept : (c : Cell) → IsKept ports wires links cells c → In c (marked (kept_marks ports wires links cells) cells)
  reason_kept c (ForItself d i e) = needed_kept c i (ap (λ t. t || list_any (has_bit (bits_read ports links (marked kept cells))) (output_bits ports c)) e)
  reason_kept c (ForLink d b i j k) = read_kept c b i j (In-left b (right_bits links) (flat_map (input_bits ports) (marked kept cells)) k)
  reason_kept c (ForCell d e b i j k h) =
      read_kept c b i j (In-right b (right_bits links) (flat_map (input_bits ports) (marked kept cells)) (in_flat (input_bits ports) (marked kept cells) e b (reason_kept e h) k))
