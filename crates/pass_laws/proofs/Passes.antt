-- Passes in turn.
use Rattle.std.proofs.Common.{◌≡◌, List, [], ◌∷◌, ◌++◌, inl, inr, refl, sym, ◌∙◌, subst}
use Rattle.rtl_ir.specs.Flat.Cell.{Ports, instances}
use Rattle.rtl_ir.specs.Flat.Tree as flat
use Rattle.rtl_ir.specs.Ports.{ports_of}
use Rattle.rtl_ir.specs.declared.module.Module.{Module}
use Rattle.rtl_ir.specs.declared.ports.PortTable.{PortTable}
use Rattle.net_model.proofs.Composing.{RefinesOver_refl, Refines_trans, ids_swap, ports_swapped}
use Rattle.net_model.specs.Lists.{Distinct, In}
use Rattle.net_model.specs.Refine.{AgreeOn, AreWellDriven, IsWellDriven, RefinesOver, with_body}
use Rattle.pass_laws.specs.Pass.{IsPass}

pub IsPass_refl : (table : PortTable) (m : Module) → IsPass table m m
IsPass_refl table m = record {
  id = refl;
  ports = refl;
  instances = refl;
  driven = λ over agree h. h;
  ready = λ h. h;
  refines = RefinesOver_refl m (flat.table_ports table);
}

-- what is so of each item of a list is so with another one in the middle
other_in : {A : Type 0} (P : A → Type 0) (pre : List A) (b c : A) (post : List A) → ((x : A) → In x (pre ++ b ∷ post) → P x) → P c → (x : A) → In x (pre ++ c ∷ post) → P x
other_in P [] b c post h k x (inl e) = subst P (sym e) k
other_in P [] b c post h k x (inr i) = h x (inr i)
other_in P (y ∷ pre) b c post h k x (inl e) = subst P (sym e) (h y (inl refl))
other_in P (y ∷ pre) b c post h k x (inr i) = other_in P pre b c post (λ z j. h z (inr j)) k x i

in_middle : {A : Type 0} (pre : List A) (b : A) (post : List A) → In b (pre ++ b ∷ post)
in_middle [] b post = inl refl
in_middle (x ∷ pre) b post = inr (in_middle pre b post)

-- refinement in turn, where the first keeps that no bit has two drivers over the ports that agree
module _ (b c d : Module) (ports : Ports) (id : b.id ≡ c.id) (same : ports_of b.wires ≡ ports_of c.wires) (children : instances b.cells ≡ instances c.cells) where
  pub refines_in_turn : ((over : Ports) → AgreeOn ports over (instances b.cells) → IsWellDriven over b → IsWellDriven over c) → RefinesOver b c ports → RefinesOver c d ports → RefinesOver b d ports
  refines_in_turn driven h k = record {
    holds = λ pre post fb fd ab.
        let over : Ports = flat.design_ports (with_body pre b post) in
        let swap : flat.design_ports (with_body pre b post) ≡ flat.design_ports (with_body pre c post) = ports_swapped b c id same pre post in
        let here : IsWellDriven over c = driven over ab (fb.modules b (in_middle pre b post)) in
        let fc : AreWellDriven (with_body pre c post) = record {
          ids = subst Distinct (ids_swap b c id same pre post) fb.ids;
          modules = λ x i. subst (λ z. IsWellDriven z x) swap (other_in (IsWellDriven over) pre b c post fb.modules here x i);
        } in
        let ac : AgreeOn ports (flat.design_ports (with_body pre c post)) (instances c.cells) = subst (λ z. AgreeOn ports z (instances c.cells)) swap (subst (AgreeOn ports over) children ab) in
        Refines_trans (with_body pre b post) (with_body pre c post) (with_body pre d post) (h.holds pre post fb fc ab) (k.holds pre post fc fd ac);
  }

pub IsPass_trans : (table : PortTable) (a b c : Module) → IsPass table a b → IsPass table b c → IsPass table a c
IsPass_trans table a b c h k = record {
  id = h.id ∙ k.id;
  ports = h.ports ∙ k.ports;
  instances = h.instances ∙ k.instances;
  driven = λ over agree fine. k.driven over (subst (AgreeOn (flat.table_ports table) over) h.instances agree) (h.driven over agree fine);
  ready = λ r. k.ready (h.ready r);
  refines = refines_in_turn a b c (flat.table_ports table) h.id h.ports h.instances h.driven h.refines k.refines;
}
