-- The rows of a part are of the bits that it drives.
use Rattle.std.proofs.Common.{◌≡◌, ◌<◌, ℕ, List, [], ◌∷◌, length, map, inl, inr, refl, ◌∙◌, ap}
use Rattle.rtl_ir.specs.Flat.Driver.{Driven}
use Rattle.rtl_ir.specs.Flat.Place.{Place}
use Rattle.net_model.specs.Lists.{In}
use Rattle.net_model.proofs.Members.{In-map, In-mapped}
use Rattle.flat_net.specs.declared.leaves.HeldBit.{HeldBit}
use Rattle.flat_net.specs.declared.memory.ReadPort.{ReadPort}
use Rattle.flat_net.specs.declared.memory.WordBit.{WordBit}
use Rattle.flat_net.specs.declared.net.Output.{Output}
use Rattle.flat_net.specs.declared.net.Part.{Part}
use Rattle.flat_net.specs.declared.net.Part.TheVariants as part
use Rattle.flat_net.specs.declared.net.StoreBit.{StoreBit}
use Rattle.flat_net.specs.Parts.{held_row, inputs_of, output_row, part_rows, raced_row, store_row}
use Rattle.flat_net.specs.Picks.{tree_row}
use Rattle.flat_net.specs.Points.{place_at}
use Rattle.flat_net.specs.Within.{IsHeldBitWithin, IsOutputWithin, IsPartWithin, IsReadPortWithin, IsStoreWithin}
use Rattle.flat_net.specs.Words.{fetched_row, port_rows, word_row}
use Rattle.sim_eval.specs.Drives.{driven, output_numbers}
use Rattle.sim_eval.proofs.Agreeing.{In-flat_map, In-flat_mapped, all_in}

module _ (ps : List Place) where
  -- the row is of a bit of one of these numbers
  abbrev pub IsNumbered : List ℕ → Driven → Type 0
  IsNumbered numbers r = (n : ℕ) × In n numbers × (n < length ps) × (r.place ≡ place_at ps n)

  mapped : {A : Type 0} (row : A → Driven) (number : A → ℕ) (xs : List A) (r : Driven) → ((x : A) → In x xs → (number x < length ps) × ((row x).place ≡ place_at ps (number x))) → In r (map row xs) → IsNumbered (map number xs) r
  mapped row number xs r h i =
      let k = In-mapped row r xs i in
      let e = h k.0 k.1 in
      (number k.0, In-map number k.0 xs k.1, e.0, ap (λ (z : Driven). z.place) k.2 ∙ e.1)

  one : (x : Driven) (n : ℕ) (r : Driven) → n < length ps → x.place ≡ place_at ps n → In r (x ∷ []) → IsNumbered (n ∷ []) r
  one x n r l e (inl same) = (n, inl refl, l, ap (λ (z : Driven). z.place) same ∙ e)
  one x n r l e (inr i) = absurd i

  pub driven_at : (p : Part) → IsPartWithin (length ps) p → (r : Driven) → In r (part_rows ps p) → IsNumbered (driven p) r
  driven_at (part.Given o) within r i = one _ o.number r within refl i
  driven_at (part.Joined j) within r i = one _ j.to r within.0 refl i
  driven_at (part.Logic c) within r i =
      mapped (output_row ps c.value.shape (inputs_of ps c.value)) (λ (o : Output). o.number) c.value.outputs r (λ o j. (all_in (λ (o : Output). o.number < length ps) o c.value.outputs within.outputs j, refl)) i
  driven_at (part.Storage c) within r i =
      mapped (store_row ps c.value.shape) (λ (b : StoreBit). b.number) c.value.bits r (λ b j. ((all_in (IsStoreWithin (length ps)) b c.value.bits within j).0, refl)) i
  driven_at (part.Tree t) within r i =
      mapped (tree_row ps t.value.root) (λ (o : Output). o.number) t.value.outputs r (λ o j. ((all_in (IsOutputWithin (length ps) t.value.width) o t.value.outputs within.outputs j).0, refl)) i
  driven_at (part.Held w) within r i =
      mapped (held_row ps w.value.tree) (λ (b : HeldBit). b.number) w.value.bits r (λ b j. ((all_in (IsHeldBitWithin (length ps) w.value.tree.width) b w.value.bits within.bits j).0, refl)) i
  driven_at (part.Raced w) within r i =
      mapped (raced_row ps w.value) (λ (b : HeldBit). b.number) w.value.bits r (λ b j. ((all_in (IsHeldBitWithin (length ps) w.value.tree.width) b w.value.bits within.bits j).0, refl)) i
  driven_at (part.Remembered w) within r i =
      mapped (word_row ps w.value) (λ (b : WordBit). b.number) w.value.bits r (λ b j. (all_in (λ (b : WordBit). b.number < length ps) b w.value.bits within.bits j, refl)) i
  driven_at (part.Fetched f) within r i =
      let k = In-flat_mapped (port_rows ps f.value) r f.value.ports i in
      let inside = all_in (IsReadPortWithin (length ps)) k.0 f.value.ports within.ports k.1 in
      let n = mapped (fetched_row ps f.value k.0) (λ (o : Output). o.number) k.0.outputs r (λ o j. (all_in (λ (o : Output). o.number < length ps) o k.0.outputs inside.outputs j, refl)) k.2 in
      (n.0, In-flat_map (λ (r : ReadPort). output_numbers r.outputs) n.0 k.0 f.value.ports k.1 n.1, n.2, n.3)
