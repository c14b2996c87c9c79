-- One rule, and two rules, by what they are.
use Rattle.std.proofs.Common.{◌≡◌, ◌≤◌, ℕ, true, List, [], ◌∷◌, length, Option, Some, None, refl, sym, ap, subst, arith}
use Rattle.std.specs.Prelude.{count_by}
use Rattle.std.specs.Option.{is_some}
use Rattle.rtl_bits.specs.declared.bit.Bit.{Bit}
use Rattle.rtl_sig.specs.declared.sig.SigBit.{SigBit}
use Rattle.rtl_sig.specs.declared.sig.SigBit.TheVariants.{Fixed, Wire as OnWire}
use Rattle.rtl_sig.specs.declared.sig.WireBit.{WireBit}
use Rattle.rtl_ir.specs.Faults.RuleKinds.{has_one_bit, is_one_bit}
use Rattle.rtl_ir.specs.Faults.TwoEdges.{EdgeBit, edge_bit}
use Rattle.rtl_ir.specs.Flat.Driver.{Driven}
use Rattle.rtl_ir.specs.Flat.Place.{Path}
use Rattle.rtl_ir.specs.Flat.Process.{Trigger, edge_trigger, level_trigger, loaded_rows, raced_rows, two_rules_rows, pair_by}
use Rattle.rtl_ir.specs.Follow.{all_joins}
use Rattle.rtl_ir.specs.declared.follow.Join.{Join}
use Rattle.rtl_ir.specs.Tree.{CaseView}
use Rattle.rtl_ir.specs.declared.module.Module.{Module}
use Rattle.rtl_ir.specs.declared.process.Event.{Event}
use Rattle.rtl_ir.specs.declared.process.Event.TheVariants.{Low, High, Posedge, Negedge, Edge, Global, Init, Always}
use Rattle.rtl_ir.specs.declared.process.SyncRule.{SyncRule}
use Rattle.rtl_ir.specs.declared.wire.Wire.{Wire}
use Rattle.net_model.specs.Within.{EventIn}
use Rattle.build_laws.specs.Rebuilds.{loaded_bits, raced_bits, two_rules_bits}
use Rattle.proc_laws.specs.Kinds.{is_edge_rule}
use Rattle.sync_laws.proofs.Parts.{Part, both_parts, two_parts}
use Rattle.sync_laws.proofs.StoreParts.{IsOneBit}

-- an event without an edge has no bit of an edge
no_edge : (event : Event) → edge_trigger event ≡ None → edge_bit event ≡ None
no_edge (Posedge s) e = absurd (cc)
no_edge (Negedge s) e = absurd (cc)
no_edge (Low s) e = refl
no_edge (High s) e = refl
no_edge (Edge s) e = refl
no_edge Global e = refl
no_edge Init e = refl
no_edge Always e = refl

one_long : (s : List SigBit) → is_one_bit s ≡ true → length s ≡ 1
one_long [] e = absurd (cc)
one_long (OnWire b ∷ []) e = refl
one_long (Fixed c ∷ []) e = absurd (cc)
one_long (OnWire b ∷ t ∷ s) e = absurd (cc)
one_long (Fixed c ∷ t ∷ s) e = absurd (cc)

-- the signal of an edge, and of a level, has one bit
pub edge_one : (count : ℕ) (event : Event) (t : Trigger) → edge_trigger event ≡ Some t → has_one_bit event ≡ true → EventIn count event → IsOneBit count t
edge_one count (Posedge s) t e one within =
    let is : s ≡ t.signal = cc in
    record { one = subst (λ z. length z ≡ 1) is (one_long s one); within = subst (λ z. EventIn count (Posedge z)) is within }
edge_one count (Negedge s) t e one within =
    let is : s ≡ t.signal = cc in
    record { one = subst (λ z. length z ≡ 1) is (one_long s one); within = subst (λ z. EventIn count (Posedge z)) is within }
edge_one count (Low s) t e one within = absurd (cc)
edge_one count (High s) t e one within = absurd (cc)
edge_one count (Edge s) t e one within = absurd (cc)
edge_one count Global t e one within = absurd (cc)
edge_one count Init t e one within = absurd (cc)
edge_one count Always t e one within = absurd (cc)

pub level_one : (count : ℕ) (event : Event) (t : Trigger) → level_trigger event ≡ Some t → has_one_bit event ≡ true → EventIn count event → IsOneBit count t
level_one count (Low s) t e one within =
    let is : s ≡ t.signal = cc in
    record { one = subst (λ z. length z ≡ 1) is (one_long s one); within = subst (λ z. EventIn count (Posedge z)) is within }
level_one count (High s) t e one within =
    let is : s ≡ t.signal = cc in
    record { one = subst (λ z. length z ≡ 1) is (one_long s one); within = subst (λ z. EventIn count (Posedge z)) is within }
level_one count (Posedge s) t e one within = absurd (cc)
level_one count (Negedge s) t e one within = absurd (cc)
level_one count (Edge s) t e one within = absurd (cc)
level_one count Global t e one within = absurd (cc)
level_one count Init t e one within = absurd (cc)
level_one count Always t e one within = absurd (cc)

both_edges : (a b : SyncRule) → count_by is_edge_rule (a ∷ b ∷ []) ≤ 1 → is_edge_rule a ≡ true → is_edge_rule b ≡ true → ⊥
both_edges a b few u v = grind (arith, few, u, v)

-- two rules of which one at most is at an edge
module _ (start : SigBit → Bit) (p : Path) (wires : List Wire) (m : Module) (root : CaseView) (bits : List WireBit) where
  raced_none : (js : List Join) (x y : Option EdgeBit) → y ≡ None → raced_bits js x y ≡ []
  raced_none js None y e = refl
  raced_none js (Some x) y e = ap (raced_bits js (Some x)) e

  raced_first : (js : List Join) (x y : Option EdgeBit) → x ≡ None → raced_bits js x y ≡ []
  raced_first js x y e = ap (λ z. raced_bits js z y) e

  rows_none : (js : List Join) (x y : Option EdgeBit) → y ≡ None → raced_rows start p wires m root bits js x y ≡ []
  rows_none js None y e = refl
  rows_none js (Some x) y e = ap (raced_rows start p wires m root bits js (Some x)) e

  rows_first : (js : List Join) (x y : Option EdgeBit) → x ≡ None → raced_rows start p wires m root bits js x y ≡ []
  rows_first js x y e = ap (λ z. raced_rows start p wires m root bits js z y) e

  pub two_split : (a b : SyncRule) → count_by is_edge_rule (a ∷ b ∷ []) ≤ 1 → (P : List Part → List WireBit → List Driven → Type 0) → P [] [] []
      → ((e l : Trigger) → edge_trigger a.event ≡ Some e → level_trigger b.event ≡ Some l → P (both_parts e a.updates l b.updates) (loaded_bits (all_joins a.updates) (all_joins b.updates)) (loaded_rows start p wires e (all_joins a.updates) l (all_joins b.updates)))
      → ((e l : Trigger) → edge_trigger b.event ≡ Some e → level_trigger a.event ≡ Some l → P (both_parts e b.updates l a.updates) (loaded_bits (all_joins b.updates) (all_joins a.updates)) (loaded_rows start p wires e (all_joins b.updates) l (all_joins a.updates)))
      → P (two_parts (edge_trigger a.event) (edge_trigger b.event) (level_trigger a.event) (level_trigger b.event) a.updates b.updates)
      (two_rules_bits a b (edge_trigger a.event) (edge_trigger b.event) (level_trigger a.event) (level_trigger b.event))
      (two_rules_rows start p wires m root bits (pair_by a b (edge_trigger a.event) (edge_trigger b.event) (level_trigger a.event) (level_trigger b.event)))
  two_split a b few P none first second =
      by (edge_trigger a.event) (edge_trigger b.event) (level_trigger a.event) (level_trigger b.event) refl refl refl refl
    where
      two : (f g : Trigger) → edge_trigger a.event ≡ Some f → edge_trigger b.event ≡ Some g → ⊥
      two f g u v = both_edges a b few (ap is_some u) (ap is_some v)

      without_b : edge_trigger b.event ≡ None → P [] (raced_bits (all_joins a.updates) (edge_bit a.event) (edge_bit b.event)) (raced_rows start p wires m root bits (all_joins a.updates) (edge_bit a.event) (edge_bit b.event))
      without_b e =
          let n : edge_bit b.event ≡ None = no_edge b.event e in
          subst (P [] (raced_bits (all_joins a.updates) (edge_bit a.event) (edge_bit b.event))) (sym (rows_none (all_joins a.updates) (edge_bit a.event) (edge_bit b.event) n))
          (subst (λ z. P [] z []) (sym (raced_none (all_joins a.updates) (edge_bit a.event) (edge_bit b.event) n)) none)

      without_a : edge_trigger a.event ≡ None → P [] (raced_bits (all_joins a.updates) (edge_bit a.event) (edge_bit b.event)) (raced_rows start p wires m root bits (all_joins a.updates) (edge_bit a.event) (edge_bit b.event))
      without_a e =
          let n : edge_bit a.event ≡ None = no_edge a.event e in
          subst (P [] (raced_bits (all_joins a.updates) (edge_bit a.event) (edge_bit b.event))) (sym (rows_first (all_joins a.updates) (edge_bit a.event) (edge_bit b.event) n))
          (subst (λ z. P [] z []) (sym (raced_first (all_joins a.updates) (edge_bit a.event) (edge_bit b.event) n)) none)

      by : (ea eb la lb : Option Trigger) → edge_trigger a.event ≡ ea → edge_trigger b.event ≡ eb → level_trigger a.event ≡ la → level_trigger b.event ≡ lb
          → P (two_parts ea eb la lb a.updates b.updates) (two_rules_bits a b ea eb la lb) (two_rules_rows start p wires m root bits (pair_by a b ea eb la lb))
      by (Some e) eb la (Some l) u v w x = first e l u x
      by None (Some e) (Some l) lb u v w x = second e l v w
      by (Some e) (Some f) (Some l) None u v w x = absurd (two e f u v)
      by (Some e) (Some f) None None u v w x = absurd (two e f u v)
      by (Some e) None la None u v w x = without_b v
      by None (Some e) None lb u v w x = without_a u
      by None None la lb u v w x = without_a u
