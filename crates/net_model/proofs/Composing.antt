-- Refinement composes: one design after another, one module after another, one pass after another.
use Rattle.std.proofs.Common.{◌≡◌, ℕ, true, false, cond, List, [], ◌∷◌, ◌++◌, Some, inl, inr, refl, sym, ◌∙◌, ap, subst, append_assoc}
use Rattle.std.specs.Prelude.{map}
use Rattle.std.specs.Str.{bytes_eq}
use Rattle.rtl_bits.specs.declared.bit.Bit.{Bit}
use Rattle.rtl_bits.specs.Knowledge.{AreBelow}
use Rattle.rtl_bits.proofs.Orders.{Below_refl, Below_trans}
use Rattle.rtl_ir.specs.declared.module.Design.{Design}
use Rattle.rtl_ir.specs.declared.module.Module.{Module}
use Rattle.rtl_ir.specs.Ports.{ports_of}
use Rattle.rtl_ir.specs.Flat.Cell.{Ports, instances}
use Rattle.rtl_ir.specs.Flat.Place.{Frame}
use Rattle.rtl_ir.specs.Flat.Tree.{named, ports_or_none, design_ports}
use Rattle.net_model.specs.Lists.{In, Distinct}
use Rattle.net_model.specs.Run.{TraceBelow}
use Rattle.net_model.specs.Refine.{run_of, ModulesBelow, Refines, IsWellDriven, AreWellDriven, with_body, AgreeOn, RefinesOver, EachRefines}

pub AreBelow_refl : (a : List Bit) → AreBelow a a
AreBelow_refl [] = tt
AreBelow_refl (x ∷ xs) = (Below_refl x, AreBelow_refl xs)

pub AreBelow_trans : (a b c : List Bit) → AreBelow a b → AreBelow b c → AreBelow a c
AreBelow_trans [] [] [] h k = tt
AreBelow_trans (x ∷ a) (y ∷ b) (z ∷ c) h k = (Below_trans x y z h.0 k.0, AreBelow_trans a b c h.1 k.1)
AreBelow_trans [] (y ∷ b) c h k = absurd h
AreBelow_trans (x ∷ a) [] c h k = absurd h
AreBelow_trans [] [] (z ∷ c) h k = absurd k
AreBelow_trans (x ∷ a) (y ∷ b) [] h k = absurd k

TraceBelow_refl : (a : List (List Bit)) → TraceBelow a a
TraceBelow_refl [] = tt
TraceBelow_refl (x ∷ xs) = (AreBelow_refl x, TraceBelow_refl xs)

TraceBelow_trans : (a b c : List (List Bit)) → TraceBelow a b → TraceBelow b c → TraceBelow a c
TraceBelow_trans [] [] [] h k = tt
TraceBelow_trans (x ∷ a) (y ∷ b) (z ∷ c) h k = (AreBelow_trans x y z h.0 k.0, TraceBelow_trans a b c h.1 k.1)
TraceBelow_trans [] (y ∷ b) c h k = absurd h
TraceBelow_trans (x ∷ a) [] c h k = absurd h
TraceBelow_trans [] [] (z ∷ c) h k = absurd k
TraceBelow_trans (x ∷ a) (y ∷ b) [] h k = absurd k

module _ (d e f : Design) where
  modules_trans : (ls ms ns : List Module) → ModulesBelow d e ls ms → ModulesBelow e f ms ns → ModulesBelow d f ls ns
  modules_trans [] [] [] h k = tt
  modules_trans (l ∷ ls) (m ∷ ms) (n ∷ ns) h k =
      ((h.0.0 ∙ k.0.0, h.0.1 ∙ k.0.1, λ o s. TraceBelow_trans (run_of o d l s) (run_of o e m s) (run_of o f n s) (h.0.2 o s) (k.0.2 o s)), modules_trans ls ms ns h.1 k.1)
  modules_trans [] (m ∷ ms) ns h k = absurd h
  modules_trans (l ∷ ls) [] ns h k = absurd h
  modules_trans [] [] (n ∷ ns) h k = absurd k
  modules_trans (l ∷ ls) (m ∷ ms) [] h k = absurd k

pub Refines_trans : (d e f : Design) → Refines d e → Refines e f → Refines d f
Refines_trans d e f h k = modules_trans d e f d.modules e.modules f.modules h k

modules_refl : (d : Design) (ms : List Module) → ModulesBelow d d ms ms
modules_refl d [] = tt
modules_refl d (m ∷ ms) = ((refl, refl, λ o s. TraceBelow_refl (run_of o d m s)), modules_refl d ms)

pub Refines_refl : (d : Design) → Refines d d
Refines_refl d = modules_refl d d.modules

-- a list with another element in its middle
all_in : {A : Type 0} (P : A → Type 0) (pre : List A) (b : A) (post : List A) → ((x : A) → In x pre → P x) → P b → ((x : A) → In x post → P x) → (x : A) → In x (pre ++ b ∷ post) → P x
all_in P [] b post h k l x (inl e) = subst P (sym e) k
all_in P [] b post h k l x (inr i) = l x i
all_in P (y ∷ pre) b post h k l x (inl e) = subst P (sym e) (h y (inl refl))
all_in P (y ∷ pre) b post h k l x (inr i) = all_in P pre b post (λ z j. h z (inr j)) k l x i

agree_same : (ports ports' : Ports) → ports ≡ ports' → (fs : List Frame) → AgreeOn ports ports' fs
agree_same ports ports' e [] = tt
agree_same ports ports' e (f ∷ fs) = (ap (λ z. z f.module_name) e, agree_same ports ports' e fs)

module _ (b c : Module) (id : b.id ≡ c.id) (same : ports_of b.wires ≡ ports_of c.wires) where
  pub ids_swap : (pre post : List Module) → map (λ m. m.id) (pre ++ b ∷ post) ≡ map (λ m. m.id) (pre ++ c ∷ post)
  ids_swap [] post = ap (λ z. z ∷ map (λ m. m.id) post) id
  ids_swap (m ∷ pre) post = ap (λ z. m.id ∷ z) (ids_swap pre post)

  pub ports_swap : (pre post : List Module) (n : List ℕ) → ports_or_none (named (pre ++ b ∷ post) n) ≡ ports_or_none (named (pre ++ c ∷ post) n)
  ports_swap [] post n =
      ap (λ z. ports_or_none (cond (bytes_eq z n) (Some b) (named post n))) id ∙ (elim (bytes_eq c.id n) as (λ t. ports_or_none (cond t (Some b) (named post n)) ≡ ports_or_none (cond t (Some c) (named post n))) [ true ↦ same | false ↦ refl ])
  ports_swap (m ∷ pre) post n =
      elim (bytes_eq m.id n) as (λ t. ports_or_none (cond t (Some m) (named (pre ++ b ∷ post) n)) ≡ ports_or_none (cond t (Some m) (named (pre ++ c ∷ post) n))) [ true ↦ refl | false ↦ ports_swap pre post n ]

module _ (ports : Ports) where
  driven_before : (bs cs : List Module) → EachRefines ports bs cs → (x : Module) → In x bs → IsWellDriven ports x
  driven_before [] [] h x i = absurd i
  driven_before (b ∷ bs) (c ∷ cs) h x (inl e) = subst (IsWellDriven ports) (sym e) h.0.2
  driven_before (b ∷ bs) (c ∷ cs) h x (inr i) = driven_before bs cs h.1 x i
  driven_before [] (c ∷ cs) h x i = absurd h
  driven_before (b ∷ bs) [] h x i = absurd h

  -- the modules after pre, one after another
  each_in_turn : (pre bs cs : List Module) → ports ≡ design_ports (record { modules = pre ++ bs }) → Distinct (map (λ m. m.id) (pre ++ bs)) → ((x : Module) → In x pre → IsWellDriven ports x) → EachRefines ports bs cs → Refines (record { modules = pre ++ bs }) (record { modules = pre ++ cs })
  each_in_turn pre [] [] e u f h = Refines_refl (record { modules = pre ++ [] })
  each_in_turn pre (b ∷ bs) (c ∷ cs) e u f h =
      let swap : design_ports (with_body pre b bs) ≡ design_ports (with_body pre c bs) = λ i n. ports_swap b c h.0.0 h.0.1 pre bs n i in
      let e' : ports ≡ design_ports (with_body pre c bs) = e ∙ swap in
      let u' : Distinct (map (λ m. m.id) (pre ++ c ∷ bs)) = subst Distinct (ids_swap b c h.0.0 h.0.1 pre bs) u in
      let rest = driven_before bs cs h.1 in
      let before : AreWellDriven (with_body pre b bs) = record { ids = u; modules = λ x i. subst (λ z. IsWellDriven z x) e (all_in (IsWellDriven ports) pre b bs f h.0.2 rest x i) } in
      let after : AreWellDriven (with_body pre c bs) = record { ids = u'; modules = λ x i. subst (λ z. IsWellDriven z x) e' (all_in (IsWellDriven ports) pre c bs f h.0.3 rest x i) } in
      let here = h.0.4.holds pre bs before after (agree_same ports (design_ports (with_body pre b bs)) e (instances b.cells)) in
      let to_bs : pre ++ c ∷ bs ≡ (pre ++ c ∷ []) ++ bs = sym (append_assoc pre (c ∷ []) bs) in
      let to_cs : (pre ++ c ∷ []) ++ cs ≡ pre ++ c ∷ cs = append_assoc pre (c ∷ []) cs in
      let next = each_in_turn (pre ++ c ∷ []) bs cs (e' ∙ ap (λ z. design_ports (record { modules = z })) to_bs) (subst (λ z. Distinct (map (λ m. m.id) z)) to_bs u') (all_in (IsWellDriven ports) pre c [] f h.0.3 (λ x i. absurd i)) h.1 in
      let next' : Refines (with_body pre c bs) (with_body pre c cs) = subst (λ z. Refines (record { modules = z }) (with_body pre c cs)) (sym to_bs) (subst (λ z. Refines (record { modules = (pre ++ c ∷ []) ++ bs }) (record { modules = z })) to_cs next) in
      Refines_trans (with_body pre b bs) (with_body pre c bs) (with_body pre c cs) here next'
  each_in_turn pre [] (c ∷ cs) e u f h = absurd h
  each_in_turn pre (b ∷ bs) [] e u f h = absurd h

pub each_refines : (bs cs : List Module) → Distinct (map (λ m. m.id) bs) → EachRefines (design_ports (record { modules = bs })) bs cs → Refines (record { modules = bs }) (record { modules = cs })
each_refines bs cs u h = each_in_turn (design_ports (record { modules = bs })) [] bs cs refl u (λ x i. absurd i) h

pub ports_swapped : (b c : Module) → b.id ≡ c.id → ports_of b.wires ≡ ports_of c.wires → (pre post : List Module) → design_ports (with_body pre b post) ≡ design_ports (with_body pre c post)
ports_swapped b c id same pre post = λ i n. ports_swap b c id same pre post n i

in_middle : {A : Type 0} (pre : List A) (b : A) (post : List A) → In b (pre ++ b ∷ post)
in_middle [] b post = inl refl
in_middle (x ∷ pre) b post = inr (in_middle pre b post)

other_in : {A : Type 0} (P : A → Type 0) (pre : List A) (b c : A) (post : List A) → ((x : A) → In x (pre ++ b ∷ post) → P x) → P c → (x : A) → In x (pre ++ c ∷ post) → P x
other_in P [] b c post h k x (inl e) = subst P (sym e) k
other_in P [] b c post h k x (inr i) = h x (inr i)
other_in P (y ∷ pre) b c post h k x (inl e) = subst P (sym e) (h y (inl refl))
other_in P (y ∷ pre) b c post h k x (inr i) = other_in P pre b c post (λ z j. h z (inr j)) k x i

-- one pass after another, over the same ports, where the first one keeps the name, the ports and the instances, and that no bit has two drivers
pub RefinesOver_trans : (b c d : Module) (ports : Ports) → b.id ≡ c.id → ports_of b.wires ≡ ports_of c.wires → instances b.cells ≡ instances c.cells → ((ports' : Ports) → IsWellDriven ports' b → IsWellDriven ports' c) → RefinesOver b c ports → RefinesOver c d ports → RefinesOver b d ports
RefinesOver_trans b c d ports id same children driven h k = record {
  holds = λ pre post fb fd ab.
      let swap : design_ports (with_body pre b post) ≡ design_ports (with_body pre c post) = ports_swapped b c id same pre post in
      let here : IsWellDriven (design_ports (with_body pre b post)) c = driven (design_ports (with_body pre b post)) (fb.modules b (in_middle pre b post)) in
      let fc : AreWellDriven (with_body pre c post) = record {
        ids = subst Distinct (ids_swap b c id same pre post) fb.ids;
        modules = λ x i. subst (λ z. IsWellDriven z x) swap (other_in (IsWellDriven (design_ports (with_body pre b post))) pre b c post fb.modules here x i);
      } in
      let ac : AgreeOn ports (design_ports (with_body pre c post)) (instances c.cells) = subst (λ z. AgreeOn ports z (instances c.cells)) swap (subst (λ z. AgreeOn ports (design_ports (with_body pre b post)) z) children ab) in
      Refines_trans (with_body pre b post) (with_body pre c post) (with_body pre d post) (h.holds pre post fb fc ab) (k.holds pre post fc fd ac);
}

pub RefinesOver_refl : (b : Module) (ports : Ports) → RefinesOver b b ports
RefinesOver_refl b ports = record { holds = λ pre post fb fc ab. Refines_refl (with_body pre b post) }
