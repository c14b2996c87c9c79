-- In the cold run of an accepted design no bit has two drivers, where it is a netlist.
use Rattle.std.proofs.Common.{◌≡◌, ⊎_elim, ℕ, true, false, cond, Some, List, [], ◌∷◌, inl, inr, refl, sym, ◌∙◌, ap, subst}
use Rattle.std.specs.Prelude.{map}
use Rattle.std.specs.Str.{bytes_eq}
use Rattle.rtl_ir.specs.Faults.{check_faults}
use Rattle.rtl_ir.specs.Flat.Cell.{Ports}
use Rattle.rtl_ir.specs.Flat.Tree.{design_ports, named, ports_or_none}
use Rattle.rtl_ir.specs.Scope.{everything}
use Rattle.rtl_ir.specs.declared.module.Design.{Design}
use Rattle.rtl_ir.specs.declared.module.Module.{Module}
use Rattle.net_model.specs.Lists.{Distinct, In}
use Rattle.net_model.specs.Refine.{AreWellDriven, HasOneDriver, IsWellDriven}
use Rattle.net_model.proofs.WellDriven.{one_driver}
use Rattle.check_laws.proofs.Accepted.{accepted}
use Rattle.check_laws.proofs.Readable.{sound}
use Rattle.script_core.specs.declared.outcome.Outcome.TheVariants.{Done}
use Rattle.script_core.specs.declared.word.Word.{Word}
use Rattle.script_core.specs.Cold.{IsNetlist, cold, outcome_of}
use Rattle.script_core.specs.Fold.{StartsWithProc}
use Rattle.script_core.proofs.Refining.{outcome_made}
use Rattle.rtl_readable.specs.Readable.{IsReadable}

-- modules with the names and ports of others, in which no bit has two drivers over these ports
record AreDriven (ports : Ports) (bs cs : List Module) : Type 0 where
  ids : map (λ (m : Module). m.id) cs ≡ map (λ (m : Module). m.id) bs
  lines : (name : List ℕ) → ports_or_none (named bs name) ≡ ports_or_none (named cs name)
  driven : (c : Module) → In c cs → IsWellDriven ports c

module _ (d : Design) (readable : IsReadable d) (none : check_faults d.modules ≡ []) (script : List Word) (stage : StartsWithProc script) where
  each_driven : (bs cs : List Module) → ((b : Module) → In b bs → In b d.modules) → map (outcome_of script d.modules) bs ≡ map Done cs → AreDriven (design_ports d) bs cs
  each_driven [] [] h e = record { ids = refl; lines = λ name. refl; driven = λ c i. absurd i }
  each_driven [] (c ∷ cs) h e = absurd cc
  each_driven (b ∷ bs) [] h e = absurd cc
  each_driven (b ∷ bs) (c ∷ cs) h e =
      let first : outcome_of script d.modules b ≡ Done c = cc in
      let rest : map (outcome_of script d.modules) bs ≡ map Done cs = cc in
      let later = each_driven bs cs (λ x i. h x (inr i)) rest in
      let here = h b (inl refl) in
      let made = outcome_made d readable none script stage b here c first in
      record {
        ids = λ i. sym made.id i ∷ later.ids i;
        lines = λ name.
            ap (λ z. ports_or_none (cond (bytes_eq z name) (Some b) (named bs name))) made.id
            ∙ (elim (bytes_eq c.id name) as (λ t. ports_or_none (cond t (Some b) (named bs name)) ≡ ports_or_none (cond t (Some c) (named cs name))) [ true ↦ made.ports | false ↦ later.lines name ]);
        driven = λ x i. ⊎_elim (λ same. subst (IsWellDriven (design_ports d)) (sym same) made.driven) (λ j. later.driven x j) i;
      }

  pub cold_driven : (n : Design) → IsNetlist (cold script d) n → HasOneDriver n
  cold_driven n e =
      let all = each_driven d.modules n.modules (λ b i. i) e in
      let before = accepted everything d (sound d readable) none in
      let ports : design_ports d ≡ design_ports n = λ i name. all.lines name i in
      let after : AreWellDriven n = record {
        ids = subst Distinct (sym all.ids) before.ids;
        modules = λ m i. subst (λ (P : Ports). IsWellDriven P m) ports (all.driven m i);
      } in
      one_driver n after
