-- What the step adds for bits that are always updated, and for processes.
use Rattle.std.proofs.Common.{◌≡◌, ◌≤◌, ◌<◌, ℕ, Bool, true, false, List, [], ◌∷◌, length, if◌then◌else◌, inl, inr, refl, arith}
use Rattle.std.specs.Prelude.{flat_map}
use Rattle.rtl_sig.specs.declared.sig.SigBit.TheVariants.{Wire as OnWire}
use Rattle.rtl_sig.specs.declared.sig.WireBit.{WireBit}
use Rattle.rtl_ir.specs.Assigns.{tree_bits}
use Rattle.rtl_ir.specs.Build.{Building, new_link}
use Rattle.rtl_ir.specs.Faults.ProcessLimits.{switches_pass}
use Rattle.rtl_ir.specs.Flat.Process.{may_hold}
use Rattle.rtl_ir.specs.Follow.{all_joins}
use Rattle.rtl_ir.specs.declared.follow.Join.{Join}
use Rattle.rtl_ir.specs.Rules.{acting_rules}
use Rattle.rtl_ir.specs.Tree.{CaseView}
use Rattle.rtl_ir.specs.declared.process.Process.{Process}
use Rattle.rtl_ir.specs.declared.process.SyncRule.{SyncRule}
use Rattle.net_model.proofs.Ranges.{JoinIn, RootIn, all_joins_in, each_more, each_none}
use Rattle.net_model.specs.Proc.Latch.{Chain, Side, ForData, ForEnable, always_step, always_steps, is_always, latch_process, latch_step, latches_step, leaf_within, side_value}
use Rattle.net_model.specs.Proc.Mux.{Made, Trees}
use Rattle.net_model.specs.Within.{BitIn, Each, LinkIn}
use Rattle.build_laws.specs.Rebuilds.{join_bits}
use Rattle.mux_laws.proofs.FrameGrowing.{grows_link}
use Rattle.mux_laws.proofs.FrameTrees.{AreMade, bit_later, count_of}
use Rattle.latch_laws.proofs.Chains.{Gives, gives_leaf, more_wires}
use Rattle.latch_laws.proofs.Growth.{Grows, grows_latch, grows_more, grows_none, no_fewer, of_words}
use Rattle.latch_laws.proofs.Rules.{lone_bits}

-- what is added for bits, which it drives
record AddsBits (old : Trees) (driven : List WireBit) (new : Trees) : Type 0 where
  grows : Grows old.building new.building driven
  made : AreMade new

made_more : (old new : Building) (made : List Made) → count_of old ≤ count_of new → Each (λ (k : Made). BitIn (count_of old) k.bit) made → Each (λ (k : Made). BitIn (count_of new) k.bit) made
made_more old new made more h k i = bit_later (count_of old) (count_of new) more k.bit (h k i)

module _ (n : ℕ) (root : CaseView) (is : RootIn n root) (narrow : switches_pass root.switches ≡ false) (bits : List WireBit) where
  module _ (j : Join) (inside : JoinIn n j) (t : Trees) (more : n ≤ count_of t.building) (made : AreMade t) where
    gives_side : (side : Side) (u : Trees) → n ≤ count_of u.building → AreMade u → Gives (record { trees = u; chains = [] }) (leaf_within (length bits) side root bits j.bit j.source (record { trees = u; chains = [] }))
    gives_side side u wide there =
        gives_leaf n root is narrow side (length bits) bits j.bit j.source (record { trees = u; chains = [] }) wide
        (bit_later n (count_of u.building) wide j.source inside.source)
        (record { made = there; chains = each_none (λ (k : Chain). BitIn (count_of u.building) k.result) })

    adds_latch : AddsBits t (j.bit ∷ []) (latch_step root bits j t)
    adds_latch =
        let new = side_value ForData root bits j t in
        let first = gives_side ForData t more made in
        let one : count_of t.building ≤ count_of new.1.building = more_wires (record { trees = t; chains = [] }) (leaf_within (length bits) ForData root bits j.bit j.source (record { trees = t; chains = [] })) first in
        let enable = side_value ForEnable root bits j new.1 in
        let second = gives_side ForEnable new.1 (omega (arith, more, one)) first.there.made in
        let two : count_of new.1.building ≤ count_of enable.1.building = more_wires (record { trees = new.1; chains = [] }) (leaf_within (length bits) ForEnable root bits j.bit j.source (record { trees = new.1; chains = [] })) second in
        let own = inside.bit in
        let latch : Grows enable.1.building (latch_step root bits j t).building (j.bit ∷ []) =
        grows_latch enable.1.building j.bit new.0 enable.0 (bit_later (count_of new.1.building) (count_of enable.1.building) two new.0 first.within) second.within (omega (arith, own, more, one, two)) in
        record {
          grows =
              grows_more t.building new.1.building (latch_step root bits j t).building [] (j.bit ∷ []) (of_words t.building new.1.building [] first.grows)
              (grows_more new.1.building enable.1.building (latch_step root bits j t).building [] (j.bit ∷ []) (of_words new.1.building enable.1.building [] second.grows) latch);
          made = made_more enable.1.building (latch_step root bits j t).building enable.1.made (no_fewer enable.1.building (latch_step root bits j t).building (j.bit ∷ []) latch) second.there.made;
        }

    adds_link : AddsBits t (j.bit ∷ []) (record { building = new_link (OnWire j.bit ∷ []) (j.source ∷ []) t.building; made = t.made })
    adds_link =
        let own = inside.bit in
        record {
          grows =
              of_words t.building (new_link (OnWire j.bit ∷ []) (j.source ∷ []) t.building) (j.bit ∷ [])
              (grows_link t.building (j.bit ∷ []) (j.source ∷ []) refl
              (each_more (λ (x : WireBit). x.wire < count_of t.building) j.bit [] (omega (arith, own, more)) (each_none (λ (x : WireBit). x.wire < count_of t.building)))
              (each_more (BitIn (count_of t.building)) j.source [] (bit_later n (count_of t.building) more j.source inside.source) (each_none (BitIn (count_of t.building)))));
          made = made;
        }

    adds_bit : AddsBits t (j.bit ∷ []) (always_step root bits j t)
    adds_bit = by (may_hold root bits j)
      where
        by : (h : Bool) → AddsBits t (j.bit ∷ []) (if h then latch_step root bits j t else record { building = new_link (OnWire j.bit ∷ []) (j.source ∷ []) t.building; made = t.made })
        by true = adds_latch
        by false = adds_link

  adds_bits : (js : List Join) → Each (JoinIn n) js → (t : Trees) → n ≤ count_of t.building → AreMade t → AddsBits t (join_bits js) (always_steps root bits js t)
  adds_bits [] h t more made = record { grows = grows_none t.building; made = made }
  adds_bits (j ∷ js) h t more made =
      let first = adds_bit j (h j (inl refl)) t more made in
      let next : Trees = always_step root bits j t in
      let one = no_fewer t.building next.building (j.bit ∷ []) first.grows in
      let rest = adds_bits js (λ x i. h x (inr i)) next (omega (arith, more, one)) first.made in
      record {
        grows = grows_more t.building next.building (always_steps root bits js next).building (j.bit ∷ []) (join_bits js) first.grows rest.grows;
        made = rest.made;
      }

-- what is asked of a process in a module of so many wires
pub record IsLatched (n : ℕ) (p : Process) : Type 0 where
  pub within : RootIn n p.root
  pub narrow : switches_pass p.root.switches ≡ false
  pub updates : Each (λ (r : SyncRule). Each (LinkIn n) r.updates) (acting_rules p.syncs)

-- the bits that become latches and connections
abbrev pub latch_bits : Process → List WireBit
latch_bits p = lone_bits (acting_rules p.syncs)

adds_rules : (n : ℕ) (p : Process) → RootIn n p.root → switches_pass p.root.switches ≡ false → (rules : List SyncRule) → Each (λ (r : SyncRule). Each (LinkIn n) r.updates) rules → (b : Building) → n ≤ count_of b → Grows b (latch_process p rules b) (lone_bits rules)
adds_rules n p is narrow [] h b more = grows_none b
adds_rules n p is narrow (r ∷ []) h b more = by (is_always r.event)
  where
    by : (t : Bool) → Grows b (if t then (always_steps p.root (tree_bits p.root) (all_joins r.updates) (record { building = b; made = [] })).building else b) (if t then join_bits (all_joins r.updates) else [])
    by true =
        (adds_bits n p.root is narrow (tree_bits p.root) (all_joins r.updates) (all_joins_in n r.updates (h r (inl refl))) (record { building = b; made = [] }) more (each_none (λ (k : Made). BitIn (count_of b) k.bit))).grows
    by false = grows_none b
adds_rules n p is narrow (r ∷ s ∷ rules) h b more = grows_none b

pub adds_processes : (n : ℕ) (ps : List Process) (b : Building) → Each (IsLatched n) ps → n ≤ count_of b → Grows b (latches_step ps b) (flat_map latch_bits ps)
adds_processes n [] b h more = grows_none b
adds_processes n (p ∷ ps) b h more =
    let here : IsLatched n p = h p (inl refl) in
    let next : Building = latch_process p (acting_rules p.syncs) b in
    let first = adds_rules n p here.within here.narrow (acting_rules p.syncs) here.updates b more in
    let one = no_fewer b next (latch_bits p) first in
    grows_more b next (latches_step ps next) (latch_bits p) (flat_map latch_bits ps) first (adds_processes n ps next (λ q i. h q (inr i)) (omega (arith, more, one)))
