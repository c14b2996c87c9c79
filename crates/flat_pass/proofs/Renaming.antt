-- No replacement looks at the name of the module.
use Rattle.std.proofs.Common.{◌≡◌, ℕ, zero, suc, Bool, true, false, cond, List, [], ◌∷◌, length, map, Option, Some, None, refl, ap, ◌∙◌}
use Rattle.std.specs.Option.{option_map}
use Rattle.rtl_ir.specs.declared.cell.Cell.{Cell}
use Rattle.rtl_ir.specs.declared.module.Module.{Module}
use Rattle.rtl_ir.specs.declared.store.Store.{Store}
use Rattle.rtl_ir.specs.Build.{Building, building_of}
use Rattle.flat_pass.specs.Copies.{Copying}
use Rattle.flat_pass.specs.Flat.{after_one, child_of, copy_name, copying_of, dotted, first_instance, flat_after, flat_of, is_within, links_of, put_all, put_cell, put_links, put_store, put_wire, replaced, store_copies, turn_by, with_cells}

module _ (id : List ℕ) where
  -- a module under the name, and one that is added to
  abbrev pub under : Module → Module
  under m = record m { id = id }

  abbrev renamed : Building → Building
  renamed b = record { body = under b.body; next = b.next }

  all_renamed : {A : Type 0} (put : A → Building → Building) → ((x : A) (b : Building) → put x (renamed b) ≡ renamed (put x b)) → (xs : List A) (b : Building) → put_all put xs (renamed b) ≡ renamed (put_all put xs b)
  all_renamed put same [] b = refl
  all_renamed put same (x ∷ xs) b = ap (put_all put xs) (same x b) ∙ all_renamed put same xs (put x b)

  copies_renamed : (instance : List ℕ) (ss : List Store) (b : Building) → store_copies instance ss (renamed b) ≡ store_copies instance ss b
  copies_renamed instance [] b = refl
  copies_renamed instance (s ∷ ss) b =
      ap (λ names. copy_name b (dotted instance s.name) ∷ names) (copies_renamed instance ss (put_store instance s b))

  replaced_renamed : (child : Module) (c : Cell) (b : Building) → replaced child c (renamed b) ≡ renamed (replaced child c b)
  unfolding replaced
  replaced_renamed child c b =
      let first : ℕ = length b.body.wires in
      let wired : Building = put_all (put_wire c.name) child.wires b in
      let stored : Building = put_all (put_store c.name) child.memories wired in
      let k : Copying = copying_of c.name first child wired in
      let w : put_all (put_wire c.name) child.wires (renamed b) ≡ renamed wired = all_renamed (put_wire c.name) (λ x b. refl) child.wires b in
      let s : put_all (put_store c.name) child.memories (put_all (put_wire c.name) child.wires (renamed b)) ≡ renamed stored = ap (put_all (put_store c.name) child.memories) w ∙ all_renamed (put_store c.name) (λ x b. refl) child.memories wired in
      let same : copying_of c.name first child (put_all (put_wire c.name) child.wires (renamed b)) ≡ k = ap (copying_of c.name first child) w ∙ (λ i. record { instance = c.name; first = first; memories = map (λ (m : Store). m.name) child.memories; copies = copies_renamed c.name child.memories wired i }) in
      ap (put_links (links_of first child c.pins)) ((λ i. put_all (put_cell (same i)) child.cells (s i)) ∙ all_renamed (put_cell k) (λ x b. refl) child.cells stored)

  within_kept : (b : Building) → is_within (renamed b) ≡ is_within b
  unfolding is_within
  within_kept b = refl

  turn_renamed : (left : Building → Option Module) → ((b : Building) → left (renamed b) ≡ option_map under (left b)) → (below : List Module) (b : Building) (o : Option (Cell × List Cell)) → turn_by left below (renamed b) o ≡ option_map under (turn_by left below b o)
  turn_renamed left same below b None = refl
  turn_renamed left same below b (Some r) =
      let one : after_one below (renamed b) r ≡ renamed (after_one below b r) = replaced_renamed (child_of below r.0.kind_name) r.0 (with_cells r.1 b) in
      (λ i. cond (is_within (one i)) (left (one i)) None)
      ∙ ap (λ t. cond t (left (renamed (after_one below b r))) None) (within_kept (after_one below b r))
      ∙ by (after_one below b r) (is_within (after_one below b r))
    where
      by : (after : Building) (t : Bool) → cond t (left (renamed after)) None ≡ option_map under (cond t (left after) None)
      by after true = same after
      by after false = refl

  after_renamed : (n : ℕ) (below : List Module) (b : Building) → flat_after n below (renamed b) ≡ option_map under (flat_after n below b)
  unfolding flat_after
  after_renamed zero below b = turn_renamed (λ after. None) (λ after. refl) below b (first_instance b.body.cells)
  after_renamed (suc n) below b = turn_renamed (flat_after n below) (λ after. after_renamed n below after) below b (first_instance b.body.cells)

  pub flat_renamed : (below : List Module) (m : Module) → flat_of below (under m) ≡ option_map under (flat_of below m)
  unfolding flat_of
  flat_renamed below m = after_renamed 1048576 below (building_of m)
